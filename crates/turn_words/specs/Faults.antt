-- When each fault of the crate's calls comes.
use Rattle.std.specs.Prelude.{ℕ, List}
use Rattle.turn_words.specs.Wheels.{IsInside, IsFirstOutside, IsFirstTwice}
use Rattle.turn_words.specs.declared.wheel.WheelFault.{WheelFault}
use Rattle.turn_words.specs.declared.wheel.WheelFault.TheVariants.{Range, Twice, OutOfMemory}

-- why the list is no list of places
abbrev pub IsWheelFault : List ℕ → WheelFault → Type 0
IsWheelFault places (Range spoke) = IsFirstOutside places spoke.0
IsWheelFault places (Twice place) = IsInside places × IsFirstTwice places place
IsWheelFault places OutOfMemory = Unit {0}
