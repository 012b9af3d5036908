use Rattle.connectivity.proofs.Common.{ap, ◌∙◌, side_number}
use Rattle.connectivity.proofs.RingLemmas.{joined_as_read}
use Rattle.connectivity.proofs.corners.join_across.Goals as goal

pub returns : goal.returns
returns c =
    joined_as_read c.args.corners.now c.join.new.self c.join-2.new.self
    c.dart.result.0 c.dart-2.result.0 c.dart-3.result.0 c.dart-4.result.0
    c.corners_across.ensures.valid c.requires.count c.requires.partners c.corners_across.ensures.corners c.dart.ensures.number
    c.dart-2.ensures.number (c.dart-3.ensures.number ∙ ap (side_number c.args.faces.now) c.after.ensures.after) c.dart-4.ensures.number
    c.join.ensures c.join-2.ensures
