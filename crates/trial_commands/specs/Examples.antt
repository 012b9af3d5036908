-- The lines of sizes that are refused, as docs/FORMATS.md lists them. Each is proved by computing.
use Rattle.std.specs.Prelude.{◌≡◌, ℕ, List, [], ◌∷◌, ◌++◌, codes, Option, Some, None, refl}
use Rattle.std.specs.Fmt.{digits}
use Rattle.commands.specs.Lines.{refused}
use Rattle.trial_commands.specs.Trial.{size_fault}

-- a text, and the end of its line
abbrev as_line : List ℕ → List ℕ
as_line text = text ++ 10 ∷ []

-- the line of some phrases, or none
abbrev as_refused : Option (List (List ℕ)) → List ℕ
as_refused None = []
as_refused (Some phrases) = refused phrases

sizes :
    (as_refused (size_fault 9 5) ≡ as_line (codes "refused: trial genus 9"))
    × (as_refused (size_fault 1 4) ≡ as_line (codes "refused: trial grid 4"))
unfolding digits
sizes = (refl, refl)
