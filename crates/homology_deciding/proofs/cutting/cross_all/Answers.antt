use Rattle.homology_deciding.proofs.Common.{within_more, ◌+◌, arith}
use Rattle.homology_deciding.proofs.LoopLemmas.{dart_within, cut_at}
use Rattle.homology_deciding.proofs.cutting.cross_all.Goals as goal

pub cross_up-requires-clause-room : goal.cross_up-requires-clause-room
cross_up-requires-clause-room c =
    within_more 1 4294967296 c.cross.new.numbers
    (dart_within c.args.tree.now c.args.dart.0 c.args.numbers.now c.cross.new.numbers c.requires.zeros c.requires.long c.cross.ensures)
    (omega arith)

pub cross_up-requires-2-clause-room : goal.cross_up-requires-2-clause-room
cross_up-requires-2-clause-room c =
    within_more (1 + 1) 4294967296 c.cross_up.new.numbers
    (c.cross_up.ensures.size 1 (dart_within c.args.tree.now c.args.dart.0 c.args.numbers.now c.cross.new.numbers c.requires.zeros
    c.requires.long c.cross.ensures)) (omega arith)

pub returns : goal.returns
returns c =
    cut_at c.args.tree.now c.args.dart.0 c.above.result.0 c.face_of.result.0 c.args.numbers.now c.cross.new.numbers c.cross_up.new.numbers
    c.cross_up-2.new.numbers c.requires.long c.requires.zeros c.above.ensures.face c.face_of.ensures.face c.cross.ensures
    c.cross_up.ensures.way c.cross_up-2.ensures.way
    (c.cross_up-2.ensures.size 2 (c.cross_up.ensures.size 1 (dart_within c.args.tree.now c.args.dart.0 c.args.numbers.now
    c.cross.new.numbers c.requires.zeros c.requires.long c.cross.ensures)))
