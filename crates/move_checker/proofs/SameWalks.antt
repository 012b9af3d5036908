-- Tests of walks and of vertices, and what they mean.
use Rattle.move_checker.proofs.Common.{◌≡◌, ℕ, ◌≢◌, true, false, not, List, not-true, not-false, eqb-true, eqb-false, false_from_ne_true, ◌==◌, same_walk}
use lib.Pointwise.{bytes_decides}

pub same_vertex : (a b : ℕ) → not (a == b) ≡ false → a ≡ b
same_vertex a b h = eqb-true a b (not-false (a == b) h)

pub other_vertex : (a b : ℕ) → not (a == b) ≡ true → a ≢ b
other_vertex a b h = eqb-false a b (not-true (a == b) h)

pub same_walk_true : (xs ys : List ℕ) → xs ≡ ys → same_walk xs ys ≡ true
same_walk_true xs ys e = (bytes_decides xs ys).1 e

pub same_walk_false : (xs ys : List ℕ) → xs ≢ ys → same_walk xs ys ≡ false
same_walk_false xs ys ne = false_from_ne_true (same_walk xs ys) (λ e. ne ((bytes_decides xs ys).0 e))

pub same_walk_means : (xs ys : List ℕ) → same_walk xs ys ≡ true → xs ≡ ys
same_walk_means xs ys e = (bytes_decides xs ys).0 e
