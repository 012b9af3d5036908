-- How checks that follow one another end.
use Rattle.commands.proofs.Common.{Texts, NoText, IsText, Check, Refuse, Pass, Passes, meant, pass_unless, ◌>>=◌, Ends, Stops, Tells, bytes_of, Stop, ReadFault, OutOfMemory, ◌≡◌, ◌⊎◌, inl, inr, ℕ, ◌+◌, ◌<◌, List, length, refl, ap, ◌∙◌, subst, arith, length-replicate, Option, Some, None, IfSome, Result, Ok, Err, replicate}
use Rattle.commands.specs.declared.stop.Stop.TheVariants.{Refused}

-- what stops the first check stops the sequence
pub stops_first : {A B : Type 0} (first : Check A) (next : A → Check B) (stop : Stop) → Stops first stop → Stops (first >>= next) stop
stops_first first next (Refused text) h = (h.0, inl (h.0, h.1, refl), h.2)
stops_first first next ReadFault h = tt
stops_first first next OutOfMemory h = tt

-- what stops the next check stops the sequence
pub stops_next : {A B : Type 0} (first : Check A) (next : A → Check B) (thing : A) (stop : Stop) → first.Ends (Pass thing)
    → Stops (next thing) stop
    → Stops (first >>= next) stop
stops_next first next thing (Refused text) p h = (h.0, inr (thing, p, h.1), h.2)
stops_next first next thing ReadFault p h = tt
stops_next first next thing OutOfMemory p h = tt

-- and however the next check ends, the sequence does
pub next_end : {A B : Type 0} (first : Check A) (next : A → Check B) (thing : A) (result : Result B Stop) → first.Ends (Pass thing)
    → Ends (next thing) result → Ends (first >>= next) result
next_end first next thing (Ok found) p h = inr (thing, p, h)
next_end first next thing (Err stop) p h = stops_next first next thing stop p h

-- what stops a sequence stops the first check, or the next one
pub stopped_where : {A B : Type 0} (first : Check A) (next : A → Check B) (stop : Stop) → Stops (first >>= next) stop
    → Stops first stop ⊎ ((thing : A) × first.Ends (Pass thing) × Stops (next thing) stop)
stopped_where {A} {B} first next (Refused text) h = refused h.1
  where
    refused : (first >>= next).Ends (Refuse h.0)
        → Stops first (Refused text) ⊎ ((thing : A) × first.Ends (Pass thing) × Stops (next thing) (Refused text))
    refused (inl q) =
        let same : h.0 ≡ q.0 = let e = q.2 in cc in inl (q.0, q.1, subst (λ (t : Texts). IsText t (bytes_of text)) same h.2)
    refused (inr q) = inr (q.0, q.1, (h.0, q.2, h.2))
stopped_where first next ReadFault h = inl tt
stopped_where first next OutOfMemory h = inl tt

-- what stops the second of three checks stops the sequence
pub stops_second : {A B C : Type 0} (first : Check A) (second : A → Check B) (third : A → B → Check C) (thing : A) (stop : Stop)
    → first.Ends (Pass thing) → Stops (second thing) stop → Stops (first >>= (λ x. second x >>= third x)) stop
stops_second first second third thing stop p h =
    stops_next first (λ x. second x >>= third x) thing stop p (stops_first (second thing) (third thing) stop h)

-- ---- what passed

-- of a sequence that passes each check passes
pub both_passed : {A B : Type 0} (first : Check A) (next : A → Check B) (thing : B) → Passes (first >>= next) thing
    → (a : A) × Passes first a × Passes (next a) thing
both_passed first next thing (inl p) = let e = p.2 in cc
both_passed first next thing (inr p) = p

-- what passes is what was meant
pub meant_passed : {T F : Type 0} (line_of : F → Texts) (read : Result T F) (thing : T) → Passes (meant line_of read) thing
    → read ≡ Ok thing
meant_passed line_of (Ok found) thing p = cc
meant_passed line_of (Err fault) thing p = cc

-- nothing is wrong with what passes
pub unless_passed : {T F : Type 0} (line_of : F → Texts) (fault : Option F) (thing passed : T)
    → Passes (pass_unless line_of fault thing) passed → (fault ≡ None) × (passed ≡ thing)
unless_passed line_of None thing passed p = (refl, cc)
unless_passed line_of (Some fault) thing passed p = cc

-- ---- what a text is read as

-- where no text is told, memory is wanting
pub memory_stops : {T : Type 0} (check : Check T) (stop : Stop) → Tells NoText stop → Stops check stop
memory_stops check (Refused text) h = absurd h
memory_stops check ReadFault h = tt
memory_stops check OutOfMemory h = tt

-- what tells a fault stops the check
pub told_stops : {T : Type 0} (texts : Texts) (check : Check T) (stop : Stop) → check.Ends (Refuse texts) → Tells texts stop
    → Stops check stop
told_stops texts check (Refused text) p h = (texts, p, h)
told_stops texts check ReadFault p h = tt
told_stops texts check OutOfMemory p h = tt

-- what tells a fault that the check refuses, or that memory is wanting, stops it
pub first_fault_stops : {T F : Type 0} (line_of : F → Texts) (check : Check T) {IsFault : Type 0} {fault wanting : F} (stop : Stop)
    → (fault ≡ wanting) ⊎ IsFault → line_of wanting ≡ NoText → (IsFault → check.Ends (Refuse (line_of fault))) → Tells (line_of fault) stop
    → Stops check stop
first_fault_stops line_of check stop (inl e) none refused h =
    memory_stops check stop (subst (λ (t : Texts). Tells t stop) (ap line_of e ∙ none) h)
first_fault_stops {T} {F} line_of check {IsFault} {fault} stop (inr is) none refused h =
    told_stops (line_of fault) check stop (refused is) h

-- what a reader gives is what is meant, unless memory is wanting
pub read_passes : {T F : Type 0} (line_of : F → Texts) (read : Result T F) (thing : T) (wanting : F)
    → (Ok thing ≡ read) ⊎ (let given : Result T F = Ok thing in given ≡ Err wanting) → Passes (meant line_of read) thing
read_passes {T} {F} line_of read thing wanting (inl e) = subst (λ (r : Result T F). Passes (meant line_of r) thing) e refl
read_passes line_of read thing wanting (inr e) = cc

pub read_stops : {T F : Type 0} (line_of : F → Texts) (read : Result T F) (fault wanting : F) (stop : Stop) → line_of wanting ≡ NoText
    → (Err fault ≡ read) ⊎ (let given : Result T F = Err fault in given ≡ Err wanting) → Tells (line_of fault) stop
    → Stops (meant line_of read) stop
read_stops {T} {F} line_of read fault wanting stop none (inl e) h =
    subst (λ (r : Result T F). Stops (meant line_of r) stop) e (told_stops (line_of fault) (meant line_of (Err fault)) stop refl h)
read_stops line_of read fault wanting stop none (inr e) h =
    let same : fault ≡ wanting = cc in
    memory_stops (meant line_of read) stop (subst (λ (t : Texts). Tells t stop) (ap line_of same ∙ none) h)

some_longer : (n : ℕ) → (bytes : List ℕ) × (n < length bytes)
some_longer n = (replicate (n + 1) 0, omega (arith, length-replicate {A = ℕ} (n + 1) 0))

-- a file that is too large, and is not told, may be any long one
pub long_file : (file : Option (List ℕ)) (limit : ℕ) → IfSome file (λ bytes. limit < length bytes)
    → (bytes : List ℕ) × IfSome file (λ told. bytes ≡ told) × (limit < length bytes)
long_file None limit h = let long = some_longer limit in (long.0, tt, long.1)
long_file (Some bytes) limit h = (bytes, refl, h)
