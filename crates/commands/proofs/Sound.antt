-- What holds of checks, part by part: no check is without an end, and it has one where the files that it looks at are told.
use Rattle.commands.proofs.Common.{Texts, Check, End, Refuse, Pass, Passes, IsTold, Holds, pass, refuse, file, found_or, decided_by, meant, pass_unless, where_told, ◌>>=◌, too_large, MOST_BYTES, ◌≡◌, ◌⊎◌, inl, inr, ℕ, ◌<◌, ◌≤◌, List, [], length, refl, sym, ap, ◌∙◌, subst, arith, cases_lt, ◌↔◌, Option, Some, None, Result, Ok, Err, IfSome, IsSome, IsSomeAnd, MatchOption, Files, file_of}
use Rattle.commands.specs.declared.refusal.Input.{Input}

-- the check has an end, and one where the files that it looks at are told
pub record IsSound {T : Type 0} (held : Option Files) (check : Check T) : Type 0 where
  pub some : ((end : End T) → check.Ends end → ⊥) → ⊥
  pub one : check.EachFile (IsTold held) → (a b : End T) → check.Ends a → check.Ends b → a ≡ b

-- ---- a sequence

no_end : {A B : Type 0} (held : Option Files) (first : Check A) (next : A → Check B)
    → ((thing : A) → Passes first thing → IsSound held (next thing))
    → ((end : End B) → (first >>= next).Ends end → ⊥) → (end : End A) → first.Ends end → ⊥
no_end held first next sound none (Refuse texts) h = none (Refuse texts) (inl (texts, h, refl))
no_end held first next sound none (Pass thing) h = (sound thing h).some (λ end more. none end (inr (thing, h, more)))

one_end : {A B : Type 0} (held : Option Files) (first : Check A) (next : A → Check B)
    → ((x y : End A) → first.Ends x → first.Ends y → x ≡ y)
    → ((thing : A) → Passes first thing → (x y : End B) → (next thing).Ends x → (next thing).Ends y → x ≡ y)
    → (a b : End B) → (first >>= next).Ends a → (first >>= next).Ends b → a ≡ b
one_end held first next one more a b (inl p) (inl q) = let e = one (Refuse p.0) (Refuse q.0) p.1 q.1 in cc (e, p.2, q.2)
one_end held first next one more a b (inl p) (inr q) = let e = one (Refuse p.0) (Pass q.0) p.1 q.1 in cc
one_end held first next one more a b (inr p) (inl q) = let e = one (Pass p.0) (Refuse q.0) p.1 q.1 in cc
one_end {A} {B} held first next one more a b (inr p) (inr q) =
    let e = one (Pass p.0) (Pass q.0) p.1 q.1 in
    let same : q.0 ≡ p.0 = cc in
    more p.0 p.1 a b p.2 (subst (λ (x : A). (next x).Ends b) same q.2)

pub sound-then : {A B : Type 0} (held : Option Files) (first : Check A) (next : A → Check B) → IsSound held first
    → ((thing : A) → Passes first thing → IsSound held (next thing)) → IsSound held (first >>= next)
sound-then held first next sound more =
    record {
      some = λ none. sound.some (no_end held first next more none);
      one = λ told a b p q. one_end held first next (sound.one told.0) (λ thing h. (more thing h).one (told.1 thing h)) a b p q;
    }

-- ---- the parts

pub sound-pass : {T : Type 0} (held : Option Files) (thing : T) → IsSound held (pass thing)
sound-pass held thing = record { some = λ none. none (Pass thing) refl; one = λ _ a b p q. p ∙ sym q }

pub sound-refuse : {T : Type 0} (held : Option Files) (texts : Texts) → IsSound held (refuse {T = T} texts)
sound-refuse held texts = record { some = λ none. none (Refuse texts) refl; one = λ _ a b p q. p ∙ sym q }

one_found : {T : Type 0} (texts : Texts) (P : T → Type 0) → ((x y : T) → P x → P y → x ≡ y) → (a b : End T)
    → (found_or texts P).Ends a → (found_or texts P).Ends b → a ≡ b
one_found texts P one (Refuse r) (Refuse s) p q = cc (p.1, q.1)
one_found texts P one (Refuse r) (Pass y) p q = absurd (p.0 y q)
one_found texts P one (Pass x) (Refuse s) p q = absurd (q.0 x p)
one_found texts P one (Pass x) (Pass y) p q = let e = one x y p q in cc

pub sound-found : {T : Type 0} (held : Option Files) (texts : Texts) (P : T → Type 0) → ((x y : T) → P x → P y → x ≡ y)
    → IsSound held (found_or texts P)
sound-found held texts P one =
    record {
      some = λ none. none (Refuse texts) (λ thing holds. none (Pass thing) holds, refl);
      one = λ _ a b p q. one_found texts P one a b p q;
    }

pub sound-meant : {T F : Type 0} (held : Option Files) (line_of : F → Texts) (read : Result T F) → IsSound held (meant line_of read)
sound-meant held line_of (Ok thing) = sound-pass held thing
sound-meant held line_of (Err fault) = sound-refuse held (line_of fault)

pub sound-pass_unless : {T F : Type 0} (held : Option Files) (line_of : F → Texts) (fault : Option F) (thing : T)
    → IsSound held (pass_unless line_of fault thing)
sound-pass_unless held line_of None thing = sound-pass held thing
sound-pass_unless held line_of (Some fault) thing = sound-refuse held (line_of fault)

some_file : (told : Option (List ℕ)) (limit : ℕ) → ((bytes : List ℕ) → IfSome told (λ f. bytes ≡ f) → (limit < length bytes)
    ⊎ (length bytes ≤ limit) → ⊥)
    → ⊥
some_file None limit none = none [] tt (inr (omega arith))
some_file (Some f) limit none = none f refl (cases_lt limit (length f))

one_file : (told : Option (List ℕ)) → IsSome told → (x y : List ℕ) → IfSome told (λ f. x ≡ f) → IfSome told (λ f. y ≡ f) → x ≡ y
one_file None some x y p q = cc
one_file (Some f) some x y p q = p ∙ sym q

one_file_end : (held : Option Files) (name : List ℕ) (input : Input) → IsTold held name → (a b : End (List ℕ))
    → (file held name input).Ends a
    → (file held name input).Ends b → a ≡ b
one_file_end held name input told (Refuse r) (Refuse s) p q = cc (p.3, q.3)
one_file_end held name input told (Refuse r) (Pass y) p q =
    let same = one_file (file_of held name) told p.0 y p.1 q.0 in absurd (omega (arith, p.2, q.1, ap (length {A = ℕ}) same))
one_file_end held name input told (Pass x) (Refuse s) p q =
    let same = one_file (file_of held name) told x q.0 p.0 q.1 in absurd (omega (arith, q.2, p.1, ap (length {A = ℕ}) same))
one_file_end held name input told (Pass x) (Pass y) p q = let same = one_file (file_of held name) told x y p.0 q.0 in cc

pub sound-file : (held : Option Files) (name : List ℕ) (input : Input) → IsSound held (file held name input)
sound-file held name input =
    record {
      some = λ none. some_file (file_of held name) MOST_BYTES (some_end none);
      one = λ told a b p q. one_file_end held name input told a b p q;
    }
  where
    some_end : ((end : End (List ℕ)) → (file held name input).Ends end → ⊥) → (bytes : List ℕ) → IfSome (file_of held name) (λ f. bytes ≡ f)
        → (MOST_BYTES < length bytes) ⊎ (length bytes ≤ MOST_BYTES) → ⊥
    some_end none bytes agrees (inl large) = none (Refuse (too_large input)) (bytes, agrees, large, refl)
    some_end none bytes agrees (inr small) = none (Pass bytes) (agrees, small)

told_bytes : (told : Option (List ℕ)) (limit : ℕ) (P : List ℕ → Type 0) (bytes : List ℕ) → IsSome told → IfSome told (λ f. bytes ≡ f)
    → length bytes ≤ limit → P bytes → IsSomeAnd told (λ f. (length f ≤ limit) × P f)
told_bytes (Some f) limit P bytes is same short holds = subst (λ (b : List ℕ). (length b ≤ limit) × P b) same (short, holds)
told_bytes None limit P bytes is same short holds = cc

-- what holds of the bytes that pass holds of a file that is told
pub file_holds : (held : Option Files) (name : List ℕ) (input : Input) (P : List ℕ → Type 0) (bytes : List ℕ) → IsTold held name
    → Passes (file held name input) bytes → P bytes → Holds held name P
file_holds held name input P bytes told p holds = told_bytes (file_of held name) MOST_BYTES P bytes told p.0 p.1 holds

-- a thing passes where all is well with it, and else its first fault is refused
module _ {T F : Type 0} (check : Check T) (line_of : F → Texts) (IsFault : F → Type 0) (IsWell : Type 0) (thing : T)
    (refused : (texts : Texts) → check.Ends (Refuse texts) → (fault : F) × IsFault fault × (texts ≡ line_of fault))
    (passed : (x : T) → Passes check x → IsWell × (x ≡ thing)) (one : (f g : F) → IsFault f → IsFault g → f ≡ g)
    (none : (f : F) → IsWell → IsFault f → ⊥) where
  one_outcome : (a b : End T) → check.Ends a → check.Ends b → a ≡ b
  one_outcome (Refuse r) (Refuse s) p q =
      let f = refused r p in
      let g = refused s q in
      let same = one f.0 g.0 f.1 g.1 in
      cc (same, f.2, g.2)
  one_outcome (Refuse r) (Pass y) p q = let f = refused r p in absurd (none f.0 (passed y q).0 f.1)
  one_outcome (Pass x) (Refuse s) p q = let f = refused s q in absurd (none f.0 (passed x p).0 f.1)
  one_outcome (Pass x) (Pass y) p q = cc ((passed x p).1, (passed y q).1)

  pub sound-unless_fault : (held : Option Files) → (((end : End T) → check.Ends end → ⊥) → ⊥) → IsSound held check
  sound-unless_fault held some = record { some = some; one = λ _ a b p q. one_outcome a b p q }

-- ---- files that are told, of parts that look at none

pub meant_told : {T F : Type 0} (files : Option Files) (line_of : F → Texts) (read : Result T F)
    → (meant line_of read).EachFile (IsTold files)
meant_told files line_of (Ok thing) = tt
meant_told files line_of (Err fault) = tt

pub unless_told : {T F : Type 0} (files : Option Files) (line_of : F → Texts) (fault : Option F) (thing : T)
    → (pass_unless line_of fault thing).EachFile (IsTold files)
unless_told files line_of None thing = tt
unless_told files line_of (Some fault) thing = tt

-- ---- a decision

-- the two decisions that there are
pub record IsYesOrNo {D : Type 0} (for_yes for_no : D) : Type 0 where
  pub either : (decision : D) → (decision ≡ for_yes) ⊎ (decision ≡ for_no)
  pub differ : for_no ≡ for_yes → ⊥

-- two decisions that are right are one
pub one_right : {D P : Type 0} {for_yes for_no : D} → IsYesOrNo for_yes for_no → (a b : D) → (a ≡ for_yes) ↔ P → (b ≡ for_yes) ↔ P → a ≡ b
one_right two a b p q =
    elim (two.either a) [
      | inl first ↦ first ∙ sym (q.1 (p.0 first))
      | inr first ↦ elim (two.either b) [ inl second ↦ p.1 (q.0 second) ∙ sym second | inr second ↦ first ∙ sym second ]
    ]

-- a check that refuses nothing, and passes what is made of a thing that is such, has one end where one thing is such
pub one_made : {D T : Type 0} (check : Check T) (made : D → T) (IsSuch : D → Type 0) → ((texts : Texts) → check.Ends (Refuse texts) → ⊥)
    → ((x : T) → Passes check x → (d : D) × (x ≡ made d) × IsSuch d) → ((d e : D) → IsSuch d → IsSuch e → d ≡ e) → (a b : End T)
    → check.Ends a → check.Ends b → a ≡ b
one_made check made IsSuch never such one (Refuse texts) b p q = absurd (never texts p)
one_made check made IsSuch never such one (Pass x) (Refuse texts) p q = absurd (never texts q)
one_made check made IsSuch never such one (Pass x) (Pass y) p q =
    let d = such x p in
    let e = such y q in
    let same : d.0 ≡ e.0 = one d.0 e.0 d.2 e.2 in
    let things : x ≡ y = d.1 ∙ ap made same ∙ sym e.1 in
    cc

pub sound-decided_by : {D T : Type 0} {for_yes for_no : D} (held : Option Files) → IsYesOrNo for_yes for_no → (made : D → T) (P : Type 0)
    → IsSound held (decided_by for_yes made P)
sound-decided_by {D} {T} {for_yes} {for_no} held two made P =
    record {
      some = λ none.
          none (Pass (made for_no)) (
            for_no,
            refl,
            (
              (λ e. absurd (two.differ e)),
              (λ h. absurd (none (Pass (made for_yes)) (for_yes, refl, ((λ _. h), (λ _. refl))))),
            ),
          );
      one = λ _ a b p q.
          one_made (decided_by for_yes made P) made (λ (d : D). (d ≡ for_yes) ↔ P) (λ _ h. h) (λ _ h. h) (one_right two) a b p q;
    }

-- ---- a file that is read in pieces

drop_told : (o : Option (List ℕ)) (A P : Type 0) → IsSome o → MatchOption o A (λ _. P) → P
drop_told None A P some h = absurd (let none : ⊥ = cc in none)
drop_told (Some f) A P some h = h

pub sound-where_told : {T : Type 0} (held : Option Files) (name : List ℕ) (check : Check T) (any : End T → Type 0) (usual : End T)
    → (check.EachFile (IsTold held) → IsTold held name) → any usual → IsSound held check → IsSound held (where_told held name check any)
sound-where_told {T} held name check any usual looks is sound =
    record {
      some = λ none. some_told (file_of held name) none;
      one = λ told a b p q.
          sound.one told a b (drop_told (file_of held name) (any a) (check.Ends a) (looks told) p)
          (drop_told (file_of held name) (any b) (check.Ends b) (looks told) q);
    }
  where
    some_told : (o : Option (List ℕ)) → ((end : End T) → MatchOption o (any end) (λ _. check.Ends end) → ⊥) → ⊥
    some_told None none = none usual is
    some_told (Some f) none = sound.some none

-- ---- a file that is told, within the limit, and of which this holds

pub record IsHeld (held : Option Files) (name : List ℕ) (P : List ℕ → Type 0) : Type 0 where
  pub told : IsTold held name
  pub bytes : List ℕ
  pub passes : (input : Input) → Passes (file held name input) bytes
  pub holds : P bytes

held_file : (told : Option (List ℕ)) (limit : ℕ) (P : List ℕ → Type 0) → IsSomeAnd told (λ bytes. (length bytes ≤ limit) × P bytes)
    → IsSome told × (bytes : List ℕ) × IfSome told (λ f. bytes ≡ f) × (length bytes ≤ limit) × P bytes
held_file None limit P h = absurd h
held_file (Some f) limit P h = (refl, f, refl, h.0, h.1)

pub held : (held : Option Files) (name : List ℕ) (P : List ℕ → Type 0) → Holds held name P → IsHeld held name P
held files name P h =
    let f = held_file (file_of files name) MOST_BYTES P h in
    record { told = f.0; bytes = f.1; passes = λ input. (f.2, f.3); holds = f.4 }
