-- Steps on a list of spokes that starts at the vertex. The first spoke leads to the middle, the next one back to the
-- vertex, and so on. A step changes the list at one place, wherever that is.
use Rattle.std.specs.Prelude.{◌≡◌, ℕ, ◌==◌, nat_lt, zero, suc, Bool, true, false, not, ◌&&◌, if◌then◌else◌, List, [], ◌∷◌, length, slice_index, Option, Some, None, option_map, option_and_then}
use Rattle.turn_words.specs.Modulo.{add, minus}
use Rattle.spoke_paths.specs.declared.step.PathStep.{PathStep}
use Rattle.spoke_paths.specs.declared.step.PathStep.TheVariants.{Spur, Turn}

-- the side `a` and its partner `c` make a quad: the spokes `a, a + 1` and the spokes `c + 1, c` are its two ways
abbrev pub is_quad : List ℕ → ℕ → ℕ → Bool
is_quad places a c =
    nat_lt a (length places) && nat_lt c (length places)
    && slice_index places (add (length places) c 1) == add (length places) (slice_index places a) (minus (length places) 1)
    && slice_index places (add (length places) a 1) == add (length places) (slice_index places c) (minus (length places) 1)

-- the two ways round a quad, from the vertex or from the middle
abbrev pub upper_way : ℕ → Bool → ℕ → ℕ → List ℕ
upper_way degree true a c = a ∷ add degree a 1 ∷ []
upper_way degree false a c = add degree c 1 ∷ a ∷ []

abbrev pub lower_way : ℕ → Bool → ℕ → ℕ → List ℕ
lower_way degree true a c = add degree c 1 ∷ c ∷ []
lower_way degree false a c = c ∷ add degree a 1 ∷ []

-- two equal spokes go
abbrev pub spur_goes : List ℕ → Option (List ℕ)
spur_goes [] = None
spur_goes (x ∷ []) = None
spur_goes (x ∷ y ∷ rest) = if x == y then Some rest else None

-- two spokes become two others
abbrev pub two_become : List ℕ → List ℕ → List ℕ → Option (List ℕ)
two_become (x ∷ y ∷ []) (v ∷ w ∷ []) (first ∷ second ∷ rest) = if first == x && second == y then Some (v ∷ w ∷ rest) else None
two_become way other path = None

-- two spokes are taken the other way round a quad
abbrev pub quad_turned : List ℕ → ℕ → ℕ → Bool → Bool → List ℕ → Option (List ℕ)
quad_turned places a c up at_vertex path =
    if is_quad places a c
    then (if up
    then two_become (lower_way (length places) at_vertex a c) (upper_way (length places) at_vertex a c) path
    else two_become (upper_way (length places) at_vertex a c) (lower_way (length places) at_vertex a c) path)
    else None

-- a rule used on the part of the path from a place on, where it is told whether that place is at the vertex
abbrev pub from_spoke : ℕ → Bool → (Bool → List ℕ → Option (List ℕ)) → List ℕ → Option (List ℕ)
from_spoke zero at_vertex rule path = rule at_vertex path
from_spoke (suc at) at_vertex rule [] = None
from_spoke (suc at) at_vertex rule (x ∷ path) = option_map (λ changed. x ∷ changed) (from_spoke at (not at_vertex) rule path)

-- the path after a step, or nothing where the step is not allowed
abbrev pub after_path_step : List ℕ → PathStep → List ℕ → Option (List ℕ)
after_path_step places (Spur at) path = from_spoke at true (λ at_vertex. spur_goes) path
after_path_step places (Turn at a c up) path = from_spoke at true (quad_turned places a c up) path

-- the path after a list of steps, or nothing where one of them is not allowed
abbrev pub after_path_steps : List ℕ → List PathStep → List ℕ → Option (List ℕ)
after_path_steps places [] path = Some path
after_path_steps places (step ∷ steps) path = option_and_then (after_path_steps places steps) (after_path_step places step path)

-- the steps lead from a path to its end
abbrev pub PathLeads : List ℕ → List ℕ → List PathStep → List ℕ → Type 0
PathLeads places path steps end = after_path_steps places steps path ≡ Some end
