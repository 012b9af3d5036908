use Rattle.commands.proofs.Common.{in_lines, ◌≡◌, ◌≤◌, take, Appends}
use Rattle.commands.proofs.line.put_lines.Given as goal

-- the lines so far were written
abbrev pub invariant-loop-line : goal.invariant-loop-line
invariant-loop-line g l =
    record {
      written : Appends (g.K.Sink.written l.fn.out) (g.K.Sink.written l.out) (in_lines (take l.line-index l.lines.items));
      never_falls : g.K.Sink.faults l.fn.out ≤ g.K.Sink.faults l.out;
      same_settled : g.K.Sink.settled l.out ≡ g.K.Sink.settled l.fn.out;
    }
