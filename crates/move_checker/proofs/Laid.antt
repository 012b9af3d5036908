-- A walk as the list of a chain.
use Rattle.move_checker.proofs.Common.{under, IsUnder, ◌≡◌, ℕ, List, is_some, Some, ap}
use Rattle.std.proofs.Common.{Option}

pub live_from : (lists : List (Option (List ℕ))) (name : ℕ) (list : List ℕ) → under lists name ≡ Some list → IsUnder lists name
live_from lists name list e = ap (λ (o : Option (List ℕ)). is_some o) e
