use Rattle.folded_lists.proofs.Common.{IsFoldedEntry, ◌≡◌, ◌∙◌, subst, arith, ℕ, Some, OnOk, Result, Ok, apply}
use Rattle.folded_lists.proofs.FoldingLemmas.{acts_within, allowed_at, folds_by, stays_entry}
use Rattle.folded_lists.proofs.folding.step.Goals as goal

on_ok : {T E : Type 0} (r : Result T E) (x : T) (P : Type 0) → r ≡ Ok x → OnOk r P → P
on_ok r x P e h = subst (λ r. OnOk r P) e h

pub go_to-requires-clause-above : goal.go_to-requires-clause-above
go_to-requires-clause-above c =
    omega (
      arith,
      c.place_of.ensures,
      acts_within c.args.double.now c.args.tape.now.peak c.args.tape.now.walk c.args.mv (omega (arith, c.requires.entry.within))
          c.requires.allowed,
    )

pub move_below-low-requires-clause-allowed : goal.move_below-low-requires-clause-allowed
move_below-low-requires-clause-allowed c =
    let walk = c.args.tape.now.walk in
    let above = c.go_to.result.above in
    let place = c.go_to.result.below in
    let entry = subst (λ (n : ℕ). IsFoldedEntry n walk above place) c.count.ensures.count c.go_to.ensures.entry in
    allowed_at c.args.faces.now c.args.double.now walk c.requires.allowed.next c.args.mv c.requires.allowed.leads above place
    (c.go_to.ensures.above ∙ c.place_of.ensures) entry c.vertex.result.0 c.vertex.ensures

pub returns-clause-entry : goal.returns-clause-entry
returns-clause-entry c =
    let walk = c.args.tape.now.walk in
    let next = c.step.new.self.walk in
    let above = c.go_to.result.above in
    let place = c.go_to.result.below in
    let entry = subst (λ (n : ℕ). IsFoldedEntry n walk above place) c.count.ensures.count c.go_to.ensures.entry in
    let e = on_ok c.step.result c.unwrap.result (apply c.args.double.now walk c.args.mv ≡ Some next) c.unwrap.ensures c.step.ensures.ok in
    stays_entry c.args.faces.now c.args.double.now walk next c.args.mv e above place (c.go_to.ensures.above ∙ c.place_of.ensures) entry

pub returns-clause-below : goal.returns-clause-below
returns-clause-below c =
    let walk = c.args.tape.now.walk in
    let next = c.step.new.self.walk in
    let above = c.go_to.result.above in
    let place = c.go_to.result.below in
    let entry = subst (λ (n : ℕ). IsFoldedEntry n walk above place) c.count.ensures.count c.go_to.ensures.entry in
    let e = on_ok c.step.result c.unwrap.result (apply c.args.double.now walk c.args.mv ≡ Some next) c.unwrap.ensures c.step.ensures.ok in
    folds_by c.args.faces.now c.args.double.now walk next c.args.mv e above place (c.go_to.ensures.above ∙ c.place_of.ensures) entry
    c.vertex.result.0 c.move_below-low.result c.vertex.ensures c.move_below-low.ensures
