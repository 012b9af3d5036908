use Rattle.free_forms.proofs.Common.{view_of_search, NeighboursReached, ℕ, ◌≤◌, length, ◌∙◌, subst, arith, get_or_default, face_at}
use Rattle.free_forms.proofs.SearchLemmas.{few_reached, grows_trans, closed_more}
use Rattle.free_forms.proofs.search.spread.Goals as goal

pub loop-at-smaller : goal.loop-at-smaller
loop-at-smaller c =
    let few : length c.loop-at.search.order.items ≤ length c.args.faces.now.faces = few_reached c.loop-at.invariant.search in grind arith

pub loop-at-preserved : goal.loop-at-preserved
loop-at-preserved c = record {
  search = c.in_ok-spread_from.ensures.search;
  grows = grind (arith, grows_trans);
  closed =
      closed_more c.args.faces.now c.loop-at.at (omega arith) c.in_ok-spread_from.ensures.grows
      (subst (λ (f : ℕ). NeighboursReached c.args.faces.now (view_of_search c.spread_from.new.search) f
      (length (face_at c.args.faces.now f)))
      (c.index.ensures ∙ get_or_default c.loop-at.search.order.items c.loop-at.at c.index.result.now 0 (omega arith))
      c.in_ok-spread_from.ensures.reached) c.loop-at.invariant.closed;
}
