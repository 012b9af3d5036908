use Rattle.walk_files.proofs.Common.{◌≡◌, ◌+◌, ◌≤◌, ◌++◌, length, refl, sym, ap, ◌∙◌, append_assoc, length-append, arith, times}
use Rattle.walk_files.proofs.TokenLemmas.{times-next, times-le}
use Rattle.walk_files.proofs.groups.put_times.Goals as goal

pub put_all-requires : goal.put_all-requires
put_all-requires c =
    let done = c.loop.counter in
    let numbers = c.args.numbers.now in
    let next = times-next done (done + 1) numbers refl in
    let lengths : length (times (done + 1) numbers) ≡ length (times done numbers) + length numbers =
    ap length next ∙ length-append (times done numbers) numbers in
    let below : length (times (done + 1) numbers) ≤ length (times c.args.power numbers) =
    times-le (done + 1) c.args.power numbers (omega arith) in
    let walk = ap length c.loop.invariant ∙ length-append c.args.walk.now (times done numbers) in
    omega (arith, c.requires, lengths, below, walk)

pub loop-preserved : goal.loop-preserved
loop-preserved c =
    let done = c.loop.counter in
    let numbers = c.args.numbers.now in
    c.in_ok-put_all.ensures ∙ ap (λ walk. walk ++ numbers) c.loop.invariant
    ∙ append_assoc c.args.walk.now (times done numbers) numbers
    ∙ ap (λ written. c.args.walk.now ++ written) (sym (times-next done (done + 1) numbers refl))
