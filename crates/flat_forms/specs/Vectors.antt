-- Two whole numbers: a point of the plane, or a step in it.
use Rattle.std.specs.Prelude.{ℕ, ◌==◌, if◌then◌else◌, ℤ, pos, negsuc, ◌+ℤ◌, ◌-ℤ◌}

pub record Vector : Type 0 where
  pub x : ℤ
  pub y : ℤ

-- the start of each walk
abbrev pub origin : Vector
origin = record { x = pos 0; y = pos 0 }

abbrev pub plus : Vector → Vector → Vector
plus a b = record { x = a.x +ℤ b.x; y = a.y +ℤ b.y }

abbrev pub less : Vector → Vector → Vector
less a b = record { x = a.x -ℤ b.x; y = a.y -ℤ b.y }

-- the unit steps of the four spokes: right, up, left, down. Here `negsuc 0` is -1
abbrev pub unit_step : ℕ → Vector
unit_step spoke =
    if spoke == 0 then record { x = pos 1; y = pos 0 }
    else if spoke == 1 then record { x = pos 0; y = pos 1 }
    else if spoke == 2 then record { x = negsuc 0; y = pos 0 }
    else record { x = pos 0; y = negsuc 0 }
