use Rattle.homotopy_arrays.proofs.Common.{List, ℕ, [], ◌∷◌, refl, sym, ap, ap₂, ◌∙◌}
use Rattle.walk_files.specs.WalkLists.{WalkText}
use Rattle.homotopy_arrays.proofs.pair.lists_of.Goals as goal

pub returns-in-Some : goal.returns-in-Some
returns-in-Some c = rw (sym c.length_fault.ensures, c.in-Some.is) refl

pub returns-in-Some-length_fault : goal.returns-in-Some-length_fault
returns-in-Some-length_fault c =
    rw (sym c.length_fault.ensures, c.in_default.is, sym c.length_fault-2.ensures, c.in-Some-length_fault.is) refl

pub returns : goal.returns
returns c = (
  ap (λ (t : WalkText). t.walks) c.in_ok-pair.ensures ∙ ap₂ (λ (a b : List ℕ). a ∷ b ∷ []) c.in_ok-one.ensures c.in_ok-other.ensures,
  sym c.length_fault.ensures ∙ c.in_default.is,
  sym c.length_fault-2.ensures ∙ c.in_default-length_fault.is,
)
