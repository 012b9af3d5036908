-- The lines of refusals of surfaces and walks that are too large, as docs/FORMATS.md lists them. Each is proved by computing.
use Rattle.std.specs.Prelude.{◌≡◌, ℕ, List, [], ◌∷◌, ◌++◌, codes, refl}
use Rattle.std.specs.Fmt.{digits}
use Rattle.surf_model.specs.Meshes.{tetrahedron}
use Rattle.commands.specs.Limits.{sides_line, darts_line}
use Rattle.certify_commands.specs.Certify.{limit_word}

-- a text, and the end of its line
abbrev as_line : List ℕ → List ℕ
as_line text = text ++ 10 ∷ []

limits :
    (sides_line limit_word tetrahedron ≡ as_line (codes "refused: certify sides 12"))
    × (darts_line limit_word (0 ∷ 1 ∷ 2 ∷ []) (0 ∷ 2 ∷ []) ≡ as_line (codes "refused: certify darts 3"))
unfolding digits
limits = (refl, refl)
