-- Bytes that are gathered in a piece, one after another.
use Rattle.surf_io.proofs.Common.{◌≡◌, ℕ, ◌+◌, ◌≤◌, List, [], ◌∷◌, ◌++◌, length, take, drop, add-one, refl, sym, ap, subst, ◌∙◌, arith, take-suc, append-nil, take_all, take-append-drop, slice_get_within, get_or_from_slice_get, flat_map, slice_get, Result, Ok, Err, OnOk, OnErr, append_told, Appends, AppendsPrefix, OnlyWrites, WroteAll, WrotePart, Gathers, Puts, spaced_number}
use Rattle.std.proofs.Common.{append_assoc}
use Rattle.std.proofs.lemmas.List.Concat.{flat_map-append}
use Rattle.std.specs.List.{join_with_byte}
use Rattle.std.specs.Prelude.{Option, Some, None, decimal, map}
use Rattle.surf_io.specs.Faults.{Rose}
use Rattle.text_scan.specs.Plain.{line_of}
use Rattle.surf_io.proofs.Appending.{appends_twice, part_after, part_last, prefix_wider, on_err}

pub on_ok : {X Y P Q : Type 0} (result : Result X Y) → (P → Q) → OnOk result P → OnOk result Q
on_ok (Ok x) f p = f p
on_ok (Err e) f p = tt

appends-none : (old : Option (List ℕ)) → Appends old old []
appends-none None = refl
appends-none (Some held) = ap Some (sym (append-nil held))

pub only-none : {X : Type 0} (settled faults : X → ℕ) (sink : X) → OnlyWrites settled faults sink sink
only-none settled faults sink = record { same_settled = refl; never_falls = omega arith }

pub only-then : {X : Type 0} (settled faults : X → ℕ) (a b c : X) → OnlyWrites settled faults a b → OnlyWrites settled faults b c
    → OnlyWrites settled faults a c
only-then settled faults a b c first second = record {
  same_settled = second.same_settled ∙ first.same_settled;
  never_falls = omega (arith, first.never_falls, second.never_falls);
}

-- ---- what was put

-- nothing was put
pub gathers-none : {X : Type 0} {written : X → Option (List ℕ)} (sink : X) (held : List ℕ) → Gathers written sink sink held held []
gathers-none {X} {written} sink held = record { done = []; out = appends-none (written sink); whole = sym (append-nil held) }

-- more was put into the piece
pub gathers-put : {X : Type 0} {written : X → Option (List ℕ)} {old new : X} {held left more bytes : List ℕ} (rest : List ℕ)
    → Gathers written old new held left bytes → more ≡ left ++ rest → Gathers written old new held more (bytes ++ rest)
gathers-put {X} {written} {old} {new} {held} {left} {more} {bytes} rest so_far put = record {
  done = so_far.done;
  out = so_far.out;
  whole =
      ap (λ m. so_far.done ++ m) put ∙ sym (append_assoc so_far.done left rest) ∙ ap (λ w. w ++ rest) so_far.whole
      ∙ append_assoc held bytes rest;
}

-- some bytes, and then others
pub gathers-then : {X : Type 0} {written : X → Option (List ℕ)} {a b c : X} {held left last bytes rest : List ℕ}
    → Gathers written a b held left bytes → Gathers written b c left last rest → Gathers written a c held last (bytes ++ rest)
gathers-then {X} {written} {a} {b} {c} {held} {left} {last} {bytes} {rest} first second = record {
  done = first.done ++ second.done;
  out = appends_twice (written a) (written b) (written c) first.done second.done first.out second.out;
  whole =
      append_assoc first.done second.done last ∙ ap (λ w. first.done ++ w) second.whole
      ∙ sym (append_assoc first.done left rest) ∙ ap (λ w. w ++ rest) first.whole ∙ append_assoc held bytes rest;
}

-- a first part was written of what the piece held and of more that was to come
gathers-part : {X : Type 0} {written : X → Option (List ℕ)} {faults : X → ℕ} {a b c : X} {held left bytes : List ℕ} (rest : List ℕ)
    → Gathers written a b held left bytes → faults a ≤ faults b → WrotePart written faults b c (left ++ rest)
    → WrotePart written faults a c (held ++ (bytes ++ rest))
gathers-part {X} {written} {faults} {a} {b} {c} {held} {left} {bytes} rest so_far never_falls wrote =
    part_after written faults a b c so_far.done (left ++ rest) [] (held ++ (bytes ++ rest)) so_far.out never_falls
    (sym (append_assoc held bytes rest) ∙ ap (λ w. w ++ rest) (sym so_far.whole) ∙ append_assoc so_far.done left rest
    ∙ ap (λ w. so_far.done ++ w) (sym (append-nil (left ++ rest)))) wrote

-- ---- how a call ends

-- a failure, before more that was to come
wrote-wider : {X : Type 0} {written : X → Option (List ℕ)} {faults : X → ℕ} {a b : X} (held bytes rest : List ℕ)
    → WrotePart written faults a b (held ++ bytes) → WrotePart written faults a b (held ++ (bytes ++ rest))
wrote-wider {X} {written} {faults} {a} {b} held bytes rest wrote = record {
  part =
      subst (AppendsPrefix (written a) (written b)) (append_assoc held bytes rest)
      (prefix_wider (written a) (written b) (held ++ bytes) rest wrote.part);
  fault = wrote.fault;
}

pub puts-fails : {X R E : Type 0} {written : X → Option (List ℕ)} {settled faults : X → ℕ} {result : Result R E} {e : E} {a b : X}
    {held : List ℕ} (left bytes rest : List ℕ) → result ≡ Err e → WrotePart written faults a b (held ++ bytes)
    → OnlyWrites settled faults a b → Puts written settled faults result a b held left (bytes ++ rest)
puts-fails {X} {R} {E} {written} {settled} {faults} {result} {e} {a} {b} {held} left bytes rest is wrote only =
    subst (λ (r : Result R E). Puts written settled faults r a b held left (bytes ++ rest)) (sym is)
    (record { ok = tt; failed = wrote-wider held bytes rest wrote; only_writes = only })

-- some bytes were put, and then it ends so
pub puts-then : {X R E : Type 0} {written : X → Option (List ℕ)} {settled faults : X → ℕ} {result : Result R E} {a b c : X}
    {held left last bytes rest : List ℕ} → Gathers written a b held left bytes → OnlyWrites settled faults a b
    → Puts written settled faults result b c left last rest → Puts written settled faults result a c held last (bytes ++ rest)
puts-then {X} {R} {E} {written} {settled} {faults} {result} {a} {b} {c} {held} {left} {last} {bytes} {rest} gathers only then = record {
  ok = on_ok result (gathers-then gathers) then.ok;
  failed = on_err result (gathers-part rest gathers only.never_falls) then.failed;
  only_writes = only-then settled faults a b c only then.only_writes;
}

-- the same text in other words
pub puts-same : {X R E : Type 0} {written : X → Option (List ℕ)} {settled faults : X → ℕ} {result : Result R E} {a b : X}
    {held left bytes text : List ℕ} → bytes ≡ text → Puts written settled faults result a b held left bytes
    → Puts written settled faults result a b held left text
puts-same {X} {R} {E} {written} {settled} {faults} {result} {a} {b} {held} {left} is puts =
    subst (Puts written settled faults result a b held left) is puts

-- ---- what a call writes in the end that puts all into a new piece

pub all-written : {X R E : Type 0} {written : X → Option (List ℕ)} {a b : X} {held left bytes : List ℕ} (c : X) (result : Result R E) → held
    ≡ []
    → Gathers written a b held left bytes → OnOk result (WroteAll written b c left) → OnOk result (WroteAll written a c bytes)
all-written {X} {R} {E} {written} {a} {b} {held} {left} {bytes} c (Ok done) new so_far out =
    appends_twice (written a) (written b) (written c) so_far.done left so_far.out out
    ∙ ap (append_told (written a)) (so_far.whole ∙ ap (λ h. h ++ bytes) new)
all-written c (Err e) new so_far out = tt

pub part-written : {X R E : Type 0} {written : X → Option (List ℕ)} {a b : X} {held left bytes : List ℕ} (faults : X → ℕ) (c : X)
    (result : Result R E)
    → held ≡ [] → Gathers written a b held left bytes → faults a ≤ faults b
    → OnErr result (AppendsPrefix (written b) (written c) left) → OnErr result (Rose (faults b) (faults c))
    → OnErr result (WrotePart written faults a c bytes)
part-written faults c (Ok done) new so_far never_falls part fault = tt
part-written {X} {R} {E} {written} {a} {b} {held} {left} {bytes} faults c (Err e) new so_far never_falls part fault =
    part_last-of (so_far.whole ∙ ap (λ h. h ++ bytes) new)
  where
    part_last-of : so_far.done ++ left ≡ bytes → WrotePart written faults a c bytes
    part_last-of is =
        subst (WrotePart written faults a c) is
        (part_last written faults a b c so_far.done left so_far.out never_falls (record { part = part; fault = fault }))

-- ---- one thing after another

-- the first k of some things were put
pub record EachPut {X A : Type 0} (written : X → Option (List ℕ)) (settled faults : X → ℕ) (old new : X) (held left : List ℕ)
    (put : A → List ℕ) (all : List A) (k : ℕ) : Type 0 where
  pub gathers : Gathers written old new held left (flat_map put (take k all))
  pub only : OnlyWrites settled faults old new

pub each-none : {X A : Type 0} {written : X → Option (List ℕ)} {settled faults : X → ℕ} (old : X) (held : List ℕ) (put : A
    → List ℕ) (all : List A)
    → EachPut written settled faults old old held held put all 0
each-none {X} {A} {written} {settled} {faults} old held put all =
    record { gathers = gathers-none old held; only = only-none settled faults old }

flat_map-take : {A : Type 0} (put : A → List ℕ) (all : List A) (k : ℕ) (x : A) → slice_get all k ≡ Some x
    → flat_map put (take k all) ++ put x ≡ flat_map put (take (k + 1) all)
flat_map-take {A} put all k x here =
    let one_more : take (k + 1) all ≡ take k all ++ x ∷ [] =
    ap (λ j. take j all) (add-one k) ∙ take-suc all k x (slice_get_within all k x here)
    ∙ ap (λ (y : A). take k all ++ y ∷ []) (get_or_from_slice_get all k x x here) in
    sym
    (ap (flat_map put) one_more ∙ flat_map-append put (take k all) (x ∷ [])
    ∙ ap (λ t. flat_map put (take k all) ++ t) (append-nil (put x)))

flat_map-split : {A : Type 0} (put : A → List ℕ) (all : List A) (k : ℕ)
    → flat_map put all ≡ flat_map put (take k all) ++ flat_map put (drop k all)
flat_map-split put all k = ap (flat_map put) (sym (take-append-drop k all)) ∙ flat_map-append put (take k all) (drop k all)

-- one more was put
pub each-more : {X A : Type 0} {written : X → Option (List ℕ)} {settled faults : X → ℕ} {old mid new : X} {held left last : List ℕ}
    {put : A → List ℕ} {all : List A} {k : ℕ} {x : A} → EachPut written settled faults old mid held left put all k → slice_get all k
    ≡ Some x
    → Gathers written mid new left last (put x) → OnlyWrites settled faults mid new
    → EachPut written settled faults old new held last put all (k + 1)
each-more {X} {A} {written} {settled} {faults} {old} {mid} {new} {held} {left} {last} {put} {all} {k} {x} so_far here gathers only =
    record {
      gathers = subst (Gathers written old new held last) (flat_map-take put all k x here) (gathers-then so_far.gathers gathers);
      only = only-then settled faults old mid new so_far.only only;
    }

-- or the next one failed
pub each-fails : {X A R E : Type 0} {written : X → Option (List ℕ)} {settled faults : X → ℕ} {result : Result R E} {e : E} {old mid new : X}
    {held left : List ℕ} {put : A → List ℕ} {all : List A} {k : ℕ} {x : A} (last : List ℕ) → result ≡ Err e
    → EachPut written settled faults old mid held left put all k → slice_get all k ≡ Some x
    → WrotePart written faults mid new (left ++ put x) → OnlyWrites settled faults mid new
    → Puts written settled faults result old new held last (flat_map put all)
each-fails {X} {A} {R} {E} {written} {settled} {faults} {result} {e} {old} {mid} {new} {held} {left} {put} {all} {k} {x} last is so_far here
    wrote only =
    let so_many : List ℕ = flat_map put (take k all) in
    let others : List ℕ = flat_map put (drop (k + 1) all) in
    puts-same
    (sym (append_assoc so_many (put x) others) ∙ ap (λ t. t ++ others) (flat_map-take put all k x here)
    ∙ sym (flat_map-split put all (k + 1)))
    (puts-then so_far.gathers so_far.only (puts-fails last (put x) others is wrote only))

-- the piece could not be written out before the next one
pub each-stops : {X A R E : Type 0} {written : X → Option (List ℕ)} {settled faults : X → ℕ} {result : Result R E} {e : E} {old mid new : X}
    {held left : List ℕ} {put : A → List ℕ} {all : List A} {k : ℕ} (last : List ℕ) → result ≡ Err e
    → EachPut written settled faults old mid held left put all k → WrotePart written faults mid new (left ++ [])
    → OnlyWrites settled faults mid new
    → Puts written settled faults result old new held last (flat_map put all)
each-stops {X} {A} {R} {E} {written} {settled} {faults} {result} {e} {old} {mid} {new} {held} {left} {put} {all} {k} last is so_far wrote
    only =
    puts-same (sym (flat_map-split put all k))
    (puts-then so_far.gathers so_far.only (puts-fails last [] (flat_map put (drop k all)) is wrote only))

-- all were put
pub each-all : {X A R E : Type 0} {written : X → Option (List ℕ)} {settled faults : X → ℕ} {value : R} {old new : X} {held left : List ℕ}
    {put : A → List ℕ} {all : List A} {k : ℕ} → EachPut written settled faults old new held left put all k → length all ≤ k
    → Puts {E = E} written settled faults (Ok value) old new held left (flat_map put all)
each-all {X} {A} {R} {E} {written} {settled} {faults} {value} {old} {new} {held} {left} {put} {all} {k} so_far whole = record {
  ok = subst (λ xs. Gathers written old new held left (flat_map put xs)) (take_all k all whole) so_far.gathers;
  failed = tt;
  only_writes = so_far.only;
}

-- ---- lines

pub line_of-numbers : (word : List ℕ) (numbers : List ℕ) → word ++ (flat_map spaced_number numbers ++ 10 ∷ [])
    ≡ line_of (word ∷ map decimal numbers)
line_of-numbers word [] = refl
line_of-numbers word (n ∷ numbers) =
    ap (λ (t : List ℕ). word ++ 32 ∷ t)
    (append_assoc (decimal n) (flat_map spaced_number numbers) (10 ∷ []) ∙ line_of-numbers (decimal n) numbers)
    ∙ sym (append_assoc word (32 ∷ join_with_byte 32 (decimal n ∷ map decimal numbers)) (10 ∷ []))
