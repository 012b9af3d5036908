use Rattle.walk_files.proofs.Common.{arith, refl, IfSome_then, Insert, Remove, spur_of, across_of}
use Rattle.walk_files.proofs.WholeLineLemmas.{move_first}
use Rattle.walk_files.proofs.whole_lines.move_at.Goals as goal

pub returns-in-102 : goal.returns-in-102
returns-in-102 c =
    IfSome_then c.across_at.result c.across_at.ensures (λ read begun.
    move_first across_of 102 c.args.bytes.now read.1.now read.0 read.0 c.in-102.len_at_least (omega arith) refl begun
    (λ words is. rw is refl))

pub returns-in_ok-at-in-43 : goal.returns-in_ok-at-in-43
returns-in_ok-at-in-43 c =
    move_first spur_of 43 c.args.bytes.now c.in_ok-at-in-43.behind.now (c.in_ok-at-in-43.at, c.in_ok-at-in-43.via)
    (Insert c.in_ok-at-in-43.at c.in_ok-at-in-43.via) c.in-43.len_at_least (omega arith) refl c.in_ok-at-in-43.ensures
    (λ words read. rw read refl)

pub returns-in_ok-at-in-45 : goal.returns-in_ok-at-in-45
returns-in_ok-at-in-45 c =
    move_first spur_of 45 c.args.bytes.now c.in_ok-at-in-45.behind.now (c.in_ok-at-in-45.at, c.in_ok-at-in-45.via)
    (Remove c.in_ok-at-in-45.at c.in_ok-at-in-45.via) c.in-45.len_at_least (omega arith) refl c.in_ok-at-in-45.ensures
    (λ words read. rw read refl)
