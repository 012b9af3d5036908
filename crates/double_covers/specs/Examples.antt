-- Covers at work, on a Möbius band of three quads, the last of which leads from 2 and 5 to 3 and 0. Each line is proved by computing.
use Rattle.std.specs.Prelude.{◌≡◌, ℕ, Bool, false, ◌==◌, ◌&&◌, ◌||◌, [], ◌∷◌, ◌++◌, refl, take}
use Rattle.surf_model.specs.FaceLists.{FaceList}
use Rattle.walk_actions.specs.Actions.{walked}
use Rattle.double_covers.specs.Covers.{sheet_behind, lifted, cover_of}

-- below 0 1 2, above 3 4 5, and behind 2 and 5 come 3 and 0
abbrev pub band : FaceList
band = record { count = 6; faces = (0 ∷ 1 ∷ 4 ∷ 3 ∷ []) ∷ (1 ∷ 2 ∷ 5 ∷ 4 ∷ []) ∷ (2 ∷ 3 ∷ 0 ∷ 5 ∷ []) ∷ [] }

-- the two edges of the last quad that lead there
abbrev pub at_the_end : ℕ → ℕ → Bool
at_the_end u v = (u == 2 && v == 3) || (u == 3 && v == 2) || (u == 0 && v == 5) || (u == 5 && v == 0)

-- round the last quad two edges turn
home_on_the_sheet : walked (sheet_behind at_the_end) false ((2 ∷ 3 ∷ 0 ∷ 5 ∷ []) ++ take 1 (2 ∷ 3 ∷ 0 ∷ 5 ∷ [])) ≡ false
home_on_the_sheet = refl

-- the cover is a band of six quads, which is not twisted: 0 1 2 9 10 11 on one side, and 3 4 5 6 7 8 on the other
cover_of_band :
    cover_of band at_the_end
    ≡ record {
      count = 12;
      faces =
          (0 ∷ 1 ∷ 4 ∷ 3 ∷ []) ∷ (1 ∷ 2 ∷ 5 ∷ 4 ∷ []) ∷ (2 ∷ 9 ∷ 6 ∷ 5 ∷ [])
          ∷ (6 ∷ 7 ∷ 10 ∷ 9 ∷ []) ∷ (7 ∷ 8 ∷ 11 ∷ 10 ∷ []) ∷ (8 ∷ 3 ∷ 0 ∷ 11 ∷ []) ∷ [];
    }
cover_of_band = refl

-- once round the band below, from 0 to 3, leads to the other sheet
once_round : lifted at_the_end 6 false (0 ∷ 1 ∷ 2 ∷ 3 ∷ []) ≡ 0 ∷ 1 ∷ 2 ∷ 9 ∷ []
once_round = refl

twice_round : lifted at_the_end 6 false (0 ∷ 1 ∷ 2 ∷ 3 ∷ 4 ∷ 5 ∷ 0 ∷ []) ≡ 0 ∷ 1 ∷ 2 ∷ 9 ∷ 10 ∷ 11 ∷ 0 ∷ []
twice_round = refl
