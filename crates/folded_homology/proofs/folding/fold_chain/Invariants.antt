use Rattle.std.proofs.Common.{◌≡◌, ℕ, ◌+◌, ◌<◌, ◌≤◌, length, ◌+ℤ◌}
use Rattle.std.specs.Prelude.{neg_ℤ}
use Rattle.homology.specs.Tallies.{number_at}
use Rattle.folded_homology.proofs.folding.fold_chain.Given as goal

-- the faces so far are folded, and the others as they were
abbrev pub invariant-loop-face : goal.invariant-loop-face
invariant-loop-face l =
    (length l.of_face.items ≡ length l.initial.of_face.items)
    × ((f : ℕ) → f < l.face
    → number_at l.of_face.items f
    ≡ number_at l.initial.of_face.items f +ℤ neg_ℤ (number_at l.initial.of_face.items (l.faces + f)))
    × ((f : ℕ) → l.face ≤ f → number_at l.of_face.items f ≡ number_at l.initial.of_face.items f)
