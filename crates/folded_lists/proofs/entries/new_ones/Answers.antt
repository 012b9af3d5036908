use Rattle.folded_lists.proofs.Common.{fold, ◌∙◌, ◌+◌, ◌<◌, length, ap, arith}
use Rattle.folded_lists.proofs.EntryLemmas.{count_of, one_further}
use Rattle.folded_lists.proofs.entries.new_ones.Goals as goal
use Rattle.folded_lists.proofs.entries.new_ones.Goals.{then-ne, else-ne}

pub loop-place-preserved : goal.loop-place-preserved
loop-place-preserved c =
    let l = c.loop-place in
    let i = l.invariant in
    let walk = c.args.tape.now.walk in
    let next_is = c.fold-next.ensures ∙ ap (fold c.args.count) c.vertex-in-loop-place.ensures in
    let within : l.place + 1 < length walk = omega (arith, c.loop-place-test.true, c.requires.to) in
    let further = one_further c.args.count walk l.place l.last.0 c.fold-next.result.0 c.ne.result within i.last_is next_is c.ne.ensures in
    elim c.if-ne.branch [
      | then-ne w ↦
          record {
            order = omega (arith, i.order);
            last_is = next_is;
            few = omega (arith, i.few, w.new_ones-is);
            sum = omega (arith, i.sum, w.new_ones-is, further, ap count_of w.if-ne.true);
          }
      | else-ne w ↦
          record {
            order = omega (arith, i.order);
            last_is = next_is;
            few = omega (arith, i.few, w.new_ones-is);
            sum = omega (arith, i.sum, w.new_ones-is, further, ap count_of w.if-ne.false);
          }
    ]
