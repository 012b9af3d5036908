use Rattle.orientation.proofs.Common.{Growth, ◌+◌, List, arith, sym, subst, Side, FaceName}
use Rattle.orientation.proofs.SearchLemmas.{IsExploring, exploring_past, exploring_across, exploring_last, seen_below}
use Rattle.orientation.proofs.search.explore.Goals as goal
use Rattle.orientation.proofs.search.explore.Goals.{in-Some+in_ok-cross+else-not-branch, in_default}

pub sides-at-end-requires : goal.sides-at-end-requires
sides-at-end-requires c =
    seen_below c.args.face.0 c.requires.search.trees (c.requires.search.frontier.queued 0 c.args.face (omega arith))

pub loop-at-preserved : goal.loop-at-preserved
loop-at-preserved c =
    let mesh = c.args.faces.now in
    let side : Side = record { face = c.args.face; at = c.loop-at.at } in
    let P : Growth → List FaceName → Type 0 = λ growth waiting. IsExploring mesh c.args.trees.now c.args.waiting.now growth
    waiting c.args.face (c.loop-at.at + 1) in
    elim c.match-across.branch [
      | in-Some+in_ok-cross+else-not-branch w ↦
          (let here : P w.cross.new.trees w.cross.new.waiting =
          exploring_across side w.in-Some.other
          c.loop-at.invariant w.in-Some.ensures.1 w.in_ok-cross.ensures.search w.in_ok-cross.ensures.goes_on
          (w.in_ok-cross.ensures.fits w.if-not-branch.false) in
          subst (λ g. P g c.match-across.waiting) (sym w.trees-is) (subst (λ v. P w.cross.new.trees v) (sym w.waiting-is) here))
      | in_default w ↦
          (let here : P c.loop-at.trees c.loop-at.waiting =
          exploring_past side c.loop-at.invariant w.in_default.ensures in
          subst (λ g. P g c.match-across.waiting) (sym w.trees-is) (subst (λ v. P c.loop-at.trees v) (sym w.waiting-is) here))
    ]

pub returns-clause-search : goal.returns-clause-search
returns-clause-search c =
    exploring_last c.loop-at.invariant (omega (arith, c.sides-at-end.ensures, c.loop-at-test.false))
