use Rattle.file_pieces.proofs.Common.{LinesReading, arith, ◌≡◌, ◌+◌, drop, ap}
use Rattle.file_pieces.proofs.KeptLines.{pass_line-reads, passes_line}
use Rattle.file_pieces.proofs.file_lines.FileLines.pass_line.Goals as goal
use Rattle.file_pieces.proofs.file_lines.FileLines.pass_line.Goals.{After-pass}

passed : (c : After-pass) → c.pass.new.self ≡ record c.args.self.now.reading {
  place = c.args.self.now.reading.place + (c.args.len + 1);
  kept = drop (c.args.len + 1) c.args.self.now.reading.kept;
}
passed c = grind arith

pub returns-clause-reads : goal.returns-clause-reads
returns-clause-reads c = grind (arith, pass_line-reads, passed)

pub returns-clause-line : goal.returns-clause-line
returns-clause-line c = λ file reads.
    passes_line c.args.self.now (record { reading = c.pass.new.self; number = c.self.inside.number + 1 }) file c.args.len
    (passed (goal.at.returns-clause-line c).After-pass) (ap (λ (r : LinesReading). r.number + 1) c.self.view_is)
    c.requires.kept c.requires.feed c.requires.alone c.requires.filled reads
