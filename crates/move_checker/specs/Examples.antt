-- What the definitions give on two small meshes: a tetrahedron, and the torus of seven vertices.
use Rattle.std.specs.Prelude.{◌≡◌, ℕ, Bool, true, false, List, [], ◌∷◌, refl, Result, Ok, Err}
use Rattle.surf_model.specs.FaceLists.{all_sides, is_edge}
use Rattle.surf_model.specs.Meshes.{tetrahedron, torus}
use Rattle.surf_model.specs.Moves.{PeakedMoves, apply}
use Rattle.surf_model.specs.declared.moves.Move.{Move}
use Rattle.surf_model.specs.declared.moves.Move.TheVariants.{Insert, Remove, Across}
use Rattle.surf_model.specs.declared.names.VertexName.{VertexName}
use Rattle.move_checker.specs.Refusals.{refusal, step_of}
use Rattle.move_checker.specs.Verdicts.{verdict_from, verdict_of}
use Rattle.move_checker.specs.declared.fault.MoveFault.{MoveFault}
use Rattle.move_checker.specs.declared.fault.MoveFault.TheVariants.{Place, NoEdge, NotSpur, NotOnFace, OverPeak}
use Rattle.move_checker.specs.declared.judge.Verdict.TheVariants.{Accepted, Peak, AtMove, End}

abbrev pub vertex : ℕ → VertexName
vertex v = record { 0 = v }

abbrev pub across_move : ℕ → ℕ → ℕ → Bool → ℕ → Move
across_move at face corner forward taken = Across at (record { 0 = face }) corner forward taken

-- a step of the tetrahedron under a peak
abbrev pub on_tetrahedron : ℕ → List ℕ → Move → Result (List ℕ) MoveFault
on_tetrahedron peak walk move = step_of tetrahedron peak walk move

pub two_sides_for_one : on_tetrahedron 2 (0 ∷ 1 ∷ 2 ∷ []) (across_move 0 0 0 true 2) ≡ Ok (0 ∷ 2 ∷ [])
unfolding step_of refusal apply
two_sides_for_one = refl

pub the_face_read_backward : on_tetrahedron 2 (0 ∷ 1 ∷ 2 ∷ []) (across_move 0 0 0 false 2) ≡ Err NotOnFace
unfolding step_of refusal apply
the_face_read_backward = refl

pub place_before_face : on_tetrahedron 2 (0 ∷ 1 ∷ 2 ∷ []) (across_move 1 0 1 true 2) ≡ Err Place
unfolding step_of refusal apply
place_before_face = refl

pub no_such_face : on_tetrahedron 2 (0 ∷ 1 ∷ 2 ∷ []) (across_move 0 4 0 true 2) ≡ Err NotOnFace
unfolding step_of refusal apply
no_such_face = refl

pub a_spur_in : on_tetrahedron 2 (0 ∷ []) (Insert 0 (vertex 1)) ≡ Ok (0 ∷ 1 ∷ 0 ∷ [])
unfolding step_of refusal apply is_edge all_sides
a_spur_in = refl

pub a_spur_in_over_the_peak : on_tetrahedron 1 (0 ∷ []) (Insert 0 (vertex 1)) ≡ Err OverPeak
unfolding step_of refusal apply is_edge all_sides
a_spur_in_over_the_peak = refl

pub behind_the_last_entry : on_tetrahedron 4 (0 ∷ 1 ∷ 2 ∷ []) (Insert 3 (vertex 0)) ≡ Err Place
unfolding step_of refusal apply is_edge all_sides
behind_the_last_entry = refl

pub no_edge_to_itself : on_tetrahedron 4 (0 ∷ 1 ∷ 2 ∷ []) (Insert 0 (vertex 0)) ≡ Err NoEdge
unfolding step_of refusal apply is_edge all_sides
no_edge_to_itself = refl

pub a_spur_out : on_tetrahedron 4 (2 ∷ 0 ∷ 1 ∷ 0 ∷ 3 ∷ []) (Remove 1 (vertex 1)) ≡ Ok (2 ∷ 0 ∷ 3 ∷ [])
unfolding step_of refusal apply
a_spur_out = refl

pub no_spur : on_tetrahedron 4 (0 ∷ 1 ∷ 2 ∷ []) (Remove 0 (vertex 1)) ≡ Err NotSpur
unfolding step_of refusal apply
no_spur = refl

pub a_spur_to_another_vertex : on_tetrahedron 4 (0 ∷ 1 ∷ 0 ∷ []) (Remove 0 (vertex 2)) ≡ Err NotSpur
unfolding step_of refusal apply
a_spur_to_another_vertex = refl

abbrev pub moves_within : ℕ → List Move → PeakedMoves
moves_within peak moves = record { moves = moves; peak = peak }

pub over_the_declared_peak : verdict_of tetrahedron (0 ∷ 1 ∷ 2 ∷ []) (0 ∷ 1 ∷ 2 ∷ []) (moves_within 1 []) ≡ Peak
unfolding verdict_of
over_the_declared_peak = refl

pub another_end : verdict_of tetrahedron (0 ∷ 1 ∷ 2 ∷ []) (0 ∷ 2 ∷ []) (moves_within 2 []) ≡ End
unfolding verdict_of verdict_from
another_end = refl

pub the_second_move : verdict_of tetrahedron (0 ∷ 1 ∷ 2 ∷ []) (0 ∷ 2 ∷ [])
    (moves_within 2 (across_move 0 0 0 true 2 ∷ Insert 0 (vertex 0) ∷ [])) ≡ AtMove 2 NoEdge
unfolding verdict_of verdict_from step_of refusal apply is_edge all_sides
the_second_move = refl

pub across_two_faces : verdict_of torus (0 ∷ 1 ∷ 3 ∷ []) (0 ∷ 2 ∷ 3 ∷ [])
    (moves_within 2 (across_move 0 0 0 true 2 ∷ across_move 0 7 0 true 1 ∷ [])) ≡ Accepted
unfolding verdict_of verdict_from step_of refusal apply
across_two_faces = refl
