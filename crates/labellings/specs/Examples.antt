-- The definitions at work on the torus of seven vertices, cut open into a square. Each line is proved by computing; docs/WALKS-TO-WORDS.md
-- leads through the same numbers.
use Rattle.std.specs.Prelude.{◌≡◌, ℕ, false, List, [], ◌∷◌, pos, negsuc, refl}
use Rattle.surf_model.specs.FaceLists.{all_sides}
use Rattle.surf_model.specs.Meshes.{torus}
use Rattle.turn_words.specs.declared.word.Word.TheVariants.{Flat}
use Rattle.labellings.specs.Labellings.{FaceLabels, LabellingView}
use Rattle.labellings.specs.QuadPaths.{side_from, spokes, quad_path}
use Rattle.labellings.specs.WalkWords.{IsWordOf}

abbrev pub kept : List ℕ → FaceLabels
kept labels = record { flipped = false; labels = labels }

-- no face is turned round
abbrev pub square : LabellingView
square = record {
  degree = 4;
  faces =
      kept (0 ∷ 0 ∷ 0 ∷ []) ∷
      kept (3 ∷ 0 ∷ 2 ∷ []) ∷
      kept (0 ∷ 0 ∷ 2 ∷ []) ∷
      kept (0 ∷ 1 ∷ 1 ∷ []) ∷
      kept (2 ∷ 2 ∷ 2 ∷ []) ∷
      kept (2 ∷ 1 ∷ 2 ∷ []) ∷
      kept (0 ∷ 0 ∷ 0 ∷ []) ∷
      kept (0 ∷ 0 ∷ 0 ∷ []) ∷
      kept (0 ∷ 1 ∷ 0 ∷ []) ∷
      kept (0 ∷ 2 ∷ 2 ∷ []) ∷
      kept (0 ∷ 1 ∷ 2 ∷ []) ∷
      kept (1 ∷ 1 ∷ 1 ∷ []) ∷
      kept (2 ∷ 2 ∷ 2 ∷ []) ∷
      kept (0 ∷ 0 ∷ 3 ∷ []) ∷ [];
  places = 0 ∷ 1 ∷ 2 ∷ 3 ∷ [];
}

-- The edge of 0 and 1 meets the tree rule, in faces 0 and 12: a dart along it has no spokes.
tree : spokes torus square 0 1 ≡ []
unfolding side_from all_sides
tree = refl

-- The edge of 1 and 2 meets the cotree rule: a dart has the label at its tail and then the one at its head.
there : spokes torus square 1 2 ≡ 3 ∷ 0 ∷ []
unfolding side_from all_sides
there = refl

back : spokes torus square 2 1 ≡ 0 ∷ 3 ∷ []
unfolding side_from all_sides
back = refl

-- Only the middle dart of this walk has spokes.
path : quad_path torus square (0 ∷ 1 ∷ 2 ∷ 0 ∷ []) ≡ 3 ∷ 0 ∷ []
unfolding side_from all_sides
path = refl

-- The step down less the step right.
word : IsWordOf torus square (0 ∷ 1 ∷ 2 ∷ 0 ∷ []) (Flat (negsuc 0) (negsuc 0))
unfolding side_from all_sides
word = (refl, refl)

-- The step right less the step left.
other_word : IsWordOf torus square (0 ∷ 2 ∷ 4 ∷ 0 ∷ []) (Flat (pos 2) (pos 0))
unfolding side_from all_sides
other_word = (refl, refl)

-- The words of the one walk behind the other are added, in either order.
word_of_both : IsWordOf torus square (0 ∷ 1 ∷ 2 ∷ 0 ∷ 2 ∷ 4 ∷ 0 ∷ []) (Flat (pos 1) (negsuc 0))
unfolding side_from all_sides
word_of_both = (refl, refl)

word_of_both_turned : IsWordOf torus square (0 ∷ 2 ∷ 4 ∷ 0 ∷ 1 ∷ 2 ∷ 0 ∷ []) (Flat (pos 1) (negsuc 0))
unfolding side_from all_sides
word_of_both_turned = (refl, refl)
