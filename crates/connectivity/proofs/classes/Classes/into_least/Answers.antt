use Rattle.connectivity.proofs.Common.{AreLeastMembers, roots_of, ◌≡◌, List, ℕ, length, sym, ap, ◌∙◌, subst, arith, with_items_is, with_items}
use Rattle.connectivity.proofs.Forests.{length-roots_of, roots_are_least}
use Rattle.connectivity.proofs.classes.Classes.into_least.Goals as goal

pub returns-clause-least : goal.returns-clause-least
returns-clause-least c =
    let parents : List ℕ = c.self.inside.parents.items in
    let after : List ℕ = c.settle.new.parents in
    let is : after ≡ roots_of parents = c.settle.ensures ∙ ap roots_of c.deref_mut.ensures.value in
    let size : length after ≡ c.self.inside.parents.len =
    omega (arith, ap (λ (l : List ℕ). length l) is, length-roots_of parents, c.self.inside.parents.ok.0) in
    let items : (with_items c.self.inside.parents after).items ≡ after = with_items_is c.self.inside.parents after size in
    subst AreLeastMembers (sym (items ∙ is)) (roots_are_least c.self.invariant)
