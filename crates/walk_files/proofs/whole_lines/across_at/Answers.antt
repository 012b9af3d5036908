use Rattle.walk_files.proofs.WholeLineLemmas.{across_first}
use Rattle.walk_files.proofs.whole_lines.across_at.Goals as goal

pub returns : goal.returns
returns c =
    across_first c.args.bytes.now c.in_ok-at.rest.now c.in_ok-face.rest.now c.in_ok-corner.rest.now c.in_ok-forward.rest.now
    c.in_ok-taken.rest.now c.in_ok-at.at c.in_ok-face.face c.in_ok-corner.corner c.in_ok-forward.forward c.in_ok-taken.taken
    c.in_ok-at.ensures c.in_ok-face.ensures c.in_ok-corner.ensures c.in_ok-forward.ensures c.in_ok-taken.ensures
