-- Full labellings at work on the torus of seven vertices, cut open into a square. That the labels of the square are full, and that those
-- below are not, is proved by computing in proofs/FullExamples.antt. That the label 0 at every corner is good and not full is a law,
-- `quad_system::laws::good_need_not_be_full`.
use Rattle.std.specs.Prelude.{ℕ, [], ◌∷◌}
use Rattle.surf_model.specs.declared.edges.Side.{Side}
use Rattle.labellings.specs.Examples.{kept}
use Rattle.labellings.specs.Labellings.{LabellingView}

-- side t of face f
abbrev pub side : ℕ → ℕ → Side
side f t = record { face = record { 0 = f }; at = t }

-- The square with other labels in the face 3 4 6. Now the edge of 3 and 6 meets the leftover rule too, as that of 1 and 4 does: each has
-- a side with the label 0 at its tail, and one with 2.
abbrev pub square_relabelled : LabellingView
square_relabelled = record {
  degree = 4;
  faces =
      kept (0 ∷ 0 ∷ 0 ∷ []) ∷
      kept (3 ∷ 0 ∷ 2 ∷ []) ∷
      kept (0 ∷ 0 ∷ 2 ∷ []) ∷
      kept (3 ∷ 1 ∷ 2 ∷ []) ∷
      kept (2 ∷ 2 ∷ 2 ∷ []) ∷
      kept (2 ∷ 1 ∷ 2 ∷ []) ∷
      kept (0 ∷ 0 ∷ 0 ∷ []) ∷
      kept (0 ∷ 0 ∷ 0 ∷ []) ∷
      kept (0 ∷ 1 ∷ 0 ∷ []) ∷
      kept (0 ∷ 2 ∷ 2 ∷ []) ∷
      kept (0 ∷ 1 ∷ 2 ∷ []) ∷
      kept (1 ∷ 1 ∷ 1 ∷ []) ∷
      kept (2 ∷ 2 ∷ 2 ∷ []) ∷
      kept (0 ∷ 0 ∷ 3 ∷ []) ∷ [];
  places = 0 ∷ 1 ∷ 2 ∷ 3 ∷ [];
}
