-- Reading one thing after another.
use Rattle.text_scan.proofs.Common.{◌≡◌, List, [], ◌∷◌, ◌++◌, refl, sym, ap, append_assoc, Option, Some, None, Result, Ok, Err, ok_first}

-- what was read before the rest
abbrev pub before_some : {B : Type 0} → List B → Option (List B) → Option (List B)
before_some ys None = None
before_some ys (Some zs) = Some (ys ++ zs)

abbrev pub before_ok : {B E : Type 0} → List B → Result (List B) E → Result (List B) E
before_ok ys (Err fault) = Err fault
before_ok ys (Ok zs) = Ok (ys ++ zs)

-- one more is read
pub before_ok-more : {B E : Type 0} (ys : List B) (y : B) (r : Result (List B) E)
    → before_ok ys (ok_first (Ok y) r) ≡ before_ok (ys ++ y ∷ []) r
before_ok-more ys y (Err fault) = refl
before_ok-more ys y (Ok zs) = ap Ok (sym (append_assoc ys (y ∷ []) zs))
