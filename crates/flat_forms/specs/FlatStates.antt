-- The states of the form for the degree 4, and where a spoke leads them. A state is a point of the plane, and any point
-- is one. A wheel is its list of places.
use Rattle.std.specs.Prelude.{◌≡◌, ℕ, ◌%◌, ◌<◌, ◌==◌, max, if◌then◌else◌, List, length, slice_index, ◌+ℤ◌, unsigned_abs}
use Rattle.turn_words.specs.Modulo.{add}
use Rattle.turn_words.specs.Wheels.{IsWheel}
use Rattle.flat_forms.specs.Vectors.{Vector, plus, less, unit_step}

-- the sum of the two numbers modulo 2
abbrev pub parity : Vector → ℕ
parity state = unsigned_abs (state.x +ℤ state.y) % 2

-- the path stands at the vertex
abbrev pub IsEvenPoint : Vector → Type 0
IsEvenPoint state = parity state ≡ 0

-- where a spoke leads: its step is added at the vertex, and taken away in the middle
abbrev pub flat_next : List ℕ → Vector → ℕ → Vector
flat_next places state spoke =
    if parity state == 0 then plus state (unit_step spoke) else less state (unit_step spoke)

-- the larger of the two numbers, without their signs
abbrev pub size_of : Vector → ℕ
size_of state = max (unsigned_abs state.x) (unsigned_abs state.y)

-- a wheel with four spokes, whose places rise by one with the spokes, modulo 4
pub record IsFlatWheel (places : List ℕ) : Type 0 where
  pub four : length places ≡ 4
  pub wheel : IsWheel places
  pub rises : (spoke : ℕ) → spoke < 4 → slice_index places (add 4 spoke 1) ≡ add 4 (slice_index places spoke) 1
