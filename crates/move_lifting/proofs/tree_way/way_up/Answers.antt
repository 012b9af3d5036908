use Rattle.move_lifting.proofs.Common.{origin_of, twin_of, ◌≡◌, ℕ, ◌++◌, ◌∷◌, List, ap, sym, ◌∙◌, subst, arith, true, FaceList, is_used, numbers}
use Rattle.move_lifting.proofs.BackLemmas.{one_longer}
use Rattle.move_lifting.proofs.ExpandLemmas.{one_pending, length-numbers}
use Rattle.move_lifting.proofs.TreeUpLemmas.{used_below, used_parent, ends_up, one_up_more, way_ends}
use Rattle.move_lifting.proofs.tree_way.way_up.Goals as goal

pub loop-step-init : goal.loop-step-init
loop-step-init c = grind arith

pub parent-requires : goal.parent-requires
parent-requires c = grind (arith, used_below)

pub loop-step-preserved : goal.loop-step-preserved
loop-step-preserved c =
    let s = c.args.surface.now in
    let d : ℕ = c.in-Some.dart.0 in
    let last : c.origin-last.result.0 ≡ origin_of s (twin_of s d) = c.origin-last.ensures ∙ ap (origin_of s) c.twin.ensures.twin in
    record {
      used = subst (λ (v : ℕ). is_used s.mesh v ≡ true) (sym last)
          (used_parent c.faces.ensures.valid c.requires.split c.loop-step.last.0 d (sym c.in-Some.ensures));
      long = omega (
        arith,
        one_longer c.push.new.self.items c.loop-step.way.items c.loop-step.last c.in_ok-push.ensures.items,
        c.loop-step.invariant.long,
      );
      so_far = λ root ways h.
          subst (λ (v : ℕ). c.args.start.0 ∷ ways c.args.start.0 ≡ numbers c.push.new.self.items ++ (v ∷ ways v)) (sym last)
          (one_up_more c.faces.ensures.valid c.requires.split root ways h c.loop-step.last.0 d
          (c.args.start.0 ∷ ways c.args.start.0)
          (numbers c.loop-step.way.items) (numbers c.push.new.self.items) c.loop-step.invariant.used (sym c.in-Some.ensures)
          (one_pending c.push.new.self.items c.loop-step.way.items c.loop-step.last c.in_ok-push.ensures.items)
          (c.loop-step.invariant.so_far root ways h));
    }

pub returns-in_default : goal.returns-in_default
returns-in_default c root ways h =
    let s = c.args.surface.now in
    let v : ℕ = c.loop-step.last.0 in
    one_pending c.push.new.self.items c.loop-step.way.items c.loop-step.last c.in_ok-push.ensures.items
    ∙ ap (λ (l : List ℕ). numbers c.loop-step.way.items ++ (v ∷ l))
    (sym (ends_up c.faces.ensures.valid c.requires.split root ways h v c.loop-step.invariant.used
    (sym c.in_default.ensures)))
    ∙ sym (c.loop-step.invariant.so_far root ways h)

pub returns : goal.returns
returns c =
    absurd (way_ends c.faces.ensures.valid c.requires.split c.args.start.0 c.loop-step.last.0
    c.loop-step._step
    (numbers c.loop-step.way.items) c.requires.used (length-numbers c.loop-step.way.items ∙ c.loop-step.invariant.long)
    (omega (arith, c.loop-step-test.false, c.count-step-end.ensures.count, ap (λ (m : FaceList). m.count) c.faces.ensures.mesh))
    c.loop-step.invariant.so_far)
