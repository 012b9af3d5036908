-- The spokes of a dart as the program has them.
use Rattle.std.specs.Prelude.{ℕ, List, [], ◌∷◌, Option, Some, None}
use Rattle.surf_model.specs.declared.names.Spoke.{Spoke}

-- none, or a pair of spokes, as a list
abbrev pub spoke_list : Option (Spoke × Spoke) → List ℕ
spoke_list None = []
spoke_list (Some pair) = pair.0.0 ∷ pair.1.0 ∷ []
