use Rattle.walk_files.proofs.Common.{◌≡◌, ◌++◌, ap, rules, drop-append-le, PendingLists}
use Rattle.walk_files.proofs.ListLemmas.{stored_lists-append}
use Rattle.walk_files.proofs.number_lines.LinesBuilder.extend.Goals as goal

pub returns-clause-ok : goal.returns-clause-ok
returns-clause-ok c =
    let i = c.self.inside in
    let numbers : c.extend_from_slice.new.self.items ≡ i.numbers.items ++ c.args.numbers.now = search rules in
    let kept = stored_lists-append i.places.items i.numbers.items c.args.numbers.now c.self.invariant.0 in
    let more = drop-append-le i.start i.numbers.items c.args.numbers.now c.self.invariant.1 in
    rw (numbers, kept, more) (ap (λ (ls : PendingLists). record ls { pending = ls.pending ++ c.args.numbers.now }) c.self.view_is)
