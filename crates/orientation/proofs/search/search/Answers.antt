use Rattle.orientation.proofs.Common.{Growth, ◌+◌, List, arith, sym, ◌∙◌, subst, FaceName}
use Rattle.orientation.proofs.SearchLemmas.{IsThrough, through_none, through_grown, through_seen, through_all}
use Rattle.orientation.proofs.search.search.Goals as goal
use Rattle.orientation.proofs.search.search.Goals.{then-not-seen+in_ok-tear+in_default, else-not-seen}

pub loop-face-init : goal.loop-face-init
loop-face-init c =
    through_none c.len.result c.in_ok-trees.trees c.new-waiting.result c.len.ensures.valid c.len.ensures.small c.len.ensures.count
    c.in_ok-trees.ensures c.new-waiting.ensures

pub seen-requires : goal.seen-requires
seen-requires c = omega (arith, c.loop-face-test.true, c.len-face-end.ensures.count, c.loop-face.invariant.search.trees.each_face)

pub loop-face-preserved : goal.loop-face-preserved
loop-face-preserved c =
    let mesh = c.args.faces.now in
    let P : Growth → List FaceName → Type 0 = λ growth waiting. IsThrough mesh growth waiting (c.loop-face.face + 1) in
    elim c.if-not-seen.branch [
      | then-not-seen+in_ok-tear+in_default w ↦
          (let here : P w.grow.new.trees w.grow.new.waiting =
          through_grown w.grow.new.waiting c.loop-face.invariant
          w.in_ok-tear.ensures.extends w.in_ok-tear.ensures.seen (rw w.in_default.is at w.in_ok-tear.ensures.search)
          (rw w.in_default.is at w.in_ok-tear.ensures.none_waits) in
          subst (λ g. P g c.if-not-seen.waiting) (sym w.trees-is) (subst (λ v. P w.grow.new.trees v) (sym w.waiting-is) here))
      | else-not-seen w ↦
          (let here : P c.loop-face.trees c.loop-face.waiting =
          through_seen c.loop-face.invariant (sym c.seen.ensures ∙ w.if-not-seen.false) in
          subst (λ g. P g c.if-not-seen.waiting) (sym w.trees-is) (subst (λ v. P c.loop-face.trees v) (sym w.waiting-is) here))
    ]

pub returns-clause-coherent : goal.returns-clause-coherent
returns-clause-coherent c =
    (through_all c.loop-face.invariant (omega (arith, c.loop-face-test.false, c.len-face-end.ensures.count))).0

pub returns-clause-least_kept : goal.returns-clause-least_kept
returns-clause-least_kept c =
    (through_all c.loop-face.invariant (omega (arith, c.loop-face-test.false, c.len-face-end.ensures.count))).1
