use Rattle.orientation.proofs.Common.{IsSearch, ◌∙◌, ◌++◌, ◌∷◌, [], List, ap, arith, refl, subst, FaceName}
use Rattle.orientation.proofs.SearchLemmas.{growing_first, taken, length-taken, growing_more, seen_later}
use Rattle.orientation.proofs.TreeLemmas.{extends_more}
use Rattle.orientation.proofs.search.grow.Goals as goal

pub loop-face-init : goal.loop-face-init
loop-face-init c =
    growing_first c.args.root _ c.put.new.self c.push.new.self c.requires.search c.requires.face c.requires.not_seen c.requires.least refl
    c.put.ensures (c.in_ok-push.ensures.ok ∙ ap (λ (xs : List FaceName). xs ++ c.args.root ∷ []) c.requires.none_waits)

pub explore-requires-clause-search : goal.explore-requires-clause-search
explore-requires-clause-search c =
    taken c.in-Some.face c.take.new.self c.loop-face.invariant.search c.in-Some.ensures.some

pub returns-in-Some-2-clause-extends : goal.returns-in-Some-2-clause-extends
returns-in-Some-2-clause-extends c = extends_more c.loop-face.invariant.extends c.in_ok-tear.ensures.goes_on.extends

pub returns-in-Some-2-clause-seen : goal.returns-in-Some-2-clause-seen
returns-in-Some-2-clause-seen c = seen_later c.args.root.0 c.in_ok-tear.ensures.goes_on.extends c.loop-face.invariant.seen

pub loop-face-smaller : goal.loop-face-smaller
loop-face-smaller c =
    omega (
      arith,
      c.in_ok-tear.ensures.goes_on.count,
      length-taken c.in-Some.face c.take.new.self c.loop-face.waiting
          c.in-Some.ensures.some,
    )

pub loop-face-preserved : goal.loop-face-preserved
loop-face-preserved c =
    growing_more c.loop-face.invariant c.in_ok-tear.ensures.goes_on.extends (rw c.in_default-2.is at c.in_ok-tear.ensures.search)

pub returns-clause-search : goal.returns-clause-search
returns-clause-search c = subst (IsSearch c.args.faces.now c.loop-face.trees) c.in_default.ensures.none c.loop-face.invariant.search
