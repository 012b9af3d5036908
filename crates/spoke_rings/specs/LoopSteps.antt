-- Steps on a closed list of spokes that starts at the vertex. They change the list at one place, or go once round a part of
-- it; in the field, each is an elementary homotopy or a conjugation.
use Rattle.std.specs.Prelude.{◌≡◌, ℕ, ◌+◌, ◌%◌, ◌==◌, nat_lt, Bool, true, false, ◌&&◌, if◌then◌else◌, List, [], ◌∷◌, ◌++◌, take, drop, length, Option, Some, None, option_and_then}
use Rattle.spoke_paths.specs.PathSteps.{from_spoke, spur_goes, quad_turned}

pub data LoopStep : Type 0 where
  -- two equal neighbours go
  spur_out : (at : ℕ) → LoopStep
  -- a spoke is put in twice
  spur_in : (at spoke : ℕ) → LoopStep
  -- one way round a quad, from the vertex, becomes the other
  across : (at side partner : ℕ) (up : Bool) → LoopStep
  -- so many spokes go from the front to the end
  rotate : (count : ℕ) → LoopStep

-- a spoke of the wheel comes twice
abbrev pub spur_comes : List ℕ → ℕ → List ℕ → Option (List ℕ)
spur_comes places spoke path = if nat_lt spoke (length places) then Some (spoke ∷ spoke ∷ path) else None

-- the other way round a quad, where the path stands at the vertex
abbrev pub across_quad : List ℕ → ℕ → ℕ → Bool → Bool → List ℕ → Option (List ℕ)
across_quad places side partner up true path = quad_turned places side partner up true path
across_quad places side partner up false path = None

-- the list after a step, or nothing where the step is not allowed
abbrev pub after_loop_step : List ℕ → LoopStep → List ℕ → Option (List ℕ)
after_loop_step places (spur_out at) spokes = from_spoke at true (λ at_vertex. spur_goes) spokes
after_loop_step places (spur_in at spoke) spokes = from_spoke at true (λ at_vertex. spur_comes places spoke) spokes
after_loop_step places (across at side partner up) spokes = from_spoke at true (across_quad places side partner up) spokes
after_loop_step places (rotate count) spokes =
    if count % 2 == 0 && nat_lt count (length spokes + 1) then Some (drop count spokes ++ take count spokes) else None

-- the list after some steps, or nothing where one of them is not allowed
abbrev pub after_loop_steps : List ℕ → List LoopStep → List ℕ → Option (List ℕ)
after_loop_steps places [] spokes = Some spokes
after_loop_steps places (step ∷ steps) spokes = option_and_then (after_loop_steps places steps) (after_loop_step places step spokes)

-- some steps lead from the one closed list to the other
abbrev pub LoopLeads : List ℕ → List ℕ → List ℕ → Type 0
LoopLeads places spokes end = (steps : List LoopStep) × (after_loop_steps places steps spokes ≡ Some end)
