use Rattle.walk_files.proofs.WholeLineLemmas.{spur_first}
use Rattle.walk_files.proofs.whole_lines.spur_at.Goals as goal

pub returns : goal.returns
returns c =
    spur_first c.args.bytes.now c.in_ok-at.rest.now c.in_ok-via.rest.now c.in_ok-at.at c.in_ok-via.via c.in_ok-at.ensures
    c.in_ok-via.ensures
