-- The definitions at work on the torus of seven vertices. Each line is proved by computing.
use Rattle.std.specs.Prelude.{◌≡◌, ℕ, true, ◌==◌, ◌&&◌, if◌then◌else◌, [], ◌∷◌, refl, ℤ, pos, negsuc}
use Rattle.surf_model.specs.FaceLists.{all_sides}
use Rattle.surf_model.specs.Meshes.{torus}
use Rattle.surf_model.specs.declared.moves.Move.TheVariants.{Across}
use Rattle.homology.specs.Sums.{round}
use Rattle.homology.specs.Chains.{count_of, boundary, net_crossings}
use Rattle.homology.specs.Cocycles.{dart_number, face_sum, separation}

-- A walk to and fro along an edge does not count there, and one from the higher vertex to the lower counts -1 (`negsuc 0`).
to_and_fro : count_of (0 ∷ 1 ∷ 0 ∷ []) 0 1 ≡ pos 0
to_and_fro = refl

against : count_of (0 ∷ 2 ∷ 1 ∷ 0 ∷ []) 0 1 ≡ negsuc 0
against = refl

once_round : round (0 ∷ 1 ∷ 3 ∷ []) ≡ 0 ∷ 1 ∷ 3 ∷ 0 ∷ []
once_round = refl

-- Faces 0 and 7, which are 0 1 3 and 0 3 2, with the number 1 each. At their common edge the two sides cancel.
abbrev two_faces : ℕ → ℤ
two_faces f = if f == 0 then pos 1 else if f == 7 then pos 1 else pos 0

at_their_edge : boundary torus two_faces 0 3 ≡ pos 0
unfolding all_sides
at_their_edge = refl

at_the_rim : boundary torus two_faces 0 1 ≡ pos 1
unfolding all_sides
at_the_rim = refl

-- the side of face 7 runs from 2 to 0
at_the_rim_back : boundary torus two_faces 0 2 ≡ negsuc 0
unfolding all_sides
at_the_rim_back = refl

-- Across these two faces, forward, the walk 0 1 3 leads to 0 2 3: so they are a chain for the two.
crossed : net_crossings (Across 0 (record { 0 = 0 }) 0 true 2 ∷ []) 0 ≡ pos 1
crossed = refl

-- A number for each edge, of which those that are not 0 go round the torus as a belt does.
abbrev belt : ℕ → ℕ → ℤ
belt u v =
    if u == 0 && v == 5 then negsuc 0
    else if u == 1 && v == 2 then negsuc 0
    else if u == 1 && v == 5 then negsuc 0
    else if u == 1 && v == 6 then negsuc 0
    else if u == 2 && v == 4 then pos 1
    else if u == 4 && v == 5 then negsuc 0
    else pos 0

along_an_edge : dart_number belt 2 1 ≡ pos 1
along_an_edge = refl

-- Round each face they add up to 0; here are three.
round_face_0 : face_sum torus belt 0 ≡ pos 0
round_face_0 = refl

round_face_1 : face_sum torus belt 1 ≡ pos 0
round_face_1 = refl

round_face_13 : face_sum torus belt 13 ≡ pos 0
round_face_13 = refl

-- Along 0 1 2 0 they add up to -1, and along 0 to nothing, so these two walks are not homologous.
separated : separation belt (0 ∷ 1 ∷ 2 ∷ 0 ∷ []) (0 ∷ []) ≡ negsuc 0
separated = refl
