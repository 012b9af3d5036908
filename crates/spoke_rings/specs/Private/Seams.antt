-- What stands at the seam of a ring.
use Rattle.std.specs.Prelude.{◌≡◌, ℕ}
use Rattle.turn_words.specs.Modulo.{minus}
use Rattle.spoke_rings.specs.Private.Rings.{IsBracket, IsFine}
use Rattle.spoke_rings.specs.declared.ring.Seam.{Seam}
use Rattle.spoke_rings.specs.declared.ring.Seam.TheVariants.{Spur, Fall, Bracket, Fine}

-- what is said of the turns from the seam on
abbrev pub IsSeam : ℕ → ℕ → (ℕ → ℕ) → Seam → Type 0
IsSeam degree n turn Spur = turn 0 ≡ 0
IsSeam degree n turn Fall = turn 0 ≡ minus degree 1
IsSeam degree n turn (Bracket twos) = (turn 0 ≡ 1) × IsBracket n turn twos
IsSeam degree n turn Fine = IsFine degree n turn
