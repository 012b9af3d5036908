-- The word of a walk under a labelling.
use Rattle.std.specs.Prelude.{◌≡◌, ℕ, ◌≤◌, List, [], ◌∷◌}
use Rattle.surf_model.specs.FaceLists.{FaceList}
use Rattle.turn_words.specs.Canonical.{IsCanonicalOf}
use Rattle.turn_words.specs.SpokePaths.{turn_word_of}
use Rattle.turn_words.specs.declared.word.Word.{Word}
use Rattle.turn_words.specs.declared.word.Word.TheVariants.{Turns, Flat}
use Rattle.flat_forms.specs.Pairs.{sum_of_pairs}
use Rattle.labellings.specs.Labellings.{LabellingView}
use Rattle.labellings.specs.QuadPaths.{quad_path}

-- spokes in pairs, one after another: under a good labelling, those of the darts that have some
abbrev pub in_pairs : List ℕ → List (ℕ × ℕ)
in_pairs [] = []
in_pairs (spoke ∷ []) = []
in_pairs (spoke ∷ other ∷ spokes) = (spoke, other) ∷ in_pairs spokes

-- The word of a walk. With five spokes at least it is the canonical word that the turn word of its quad path reaches. With four it is
-- the sum, over the darts that have spokes, of the step of the first less that of the second. A word that is reached, and not the way
-- in which it is found.
abbrev pub IsWordOf : FaceList → LabellingView → List ℕ → Word → Type 0
IsWordOf mesh labelling walk (Turns word) =
    (5 ≤ labelling.degree) × IsCanonicalOf labelling.degree (turn_word_of labelling.places (quad_path mesh labelling walk)) word
IsWordOf mesh labelling walk (Flat x y) =
    (labelling.degree ≡ 4) × (record { x = x; y = y } ≡ sum_of_pairs (in_pairs (quad_path mesh labelling walk)))
