use Rattle.homotopy_arrays.proofs.Common.{IsChecked, Pair, Faulty}
use Rattle.homotopy_arrays.proofs.pair.fault_of.Goals as goal

pub unreachable-requires : goal.unreachable-requires
unreachable-requires c =
    let mesh = c.args.surface.now in
    let pair : IsChecked mesh c.args.first.now c.args.second.now (Pair c.in-Pair.field-0) =
    rw c.in-Pair.is at (c.in_ok-fault.ensures mesh c.sides.ensures.table) in
    c.requires pair.0

pub returns : goal.returns
returns c =
    let mesh = c.args.surface.now in
    let told : IsChecked mesh c.args.first.now c.args.second.now (Faulty c.in-Faulty.fault) =
    rw c.in-Faulty.is at (c.in_ok-fault.ensures mesh c.sides.ensures.table) in
    told.0
