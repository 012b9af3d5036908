use Rattle.commands.proofs.Common.{◌≡◌, ◌≤◌, take, Appends}
use Rattle.commands.proofs.Writing.{so_far}
use Rattle.commands.proofs.line.put_phrases.Given as goal

-- the phrases so far were written
abbrev pub invariant-loop-phrase : goal.invariant-loop-phrase
invariant-loop-phrase g l =
    record {
      written : Appends (g.K.Sink.written l.fn.out) (g.K.Sink.written l.out) (so_far l.first (take l.phrase-index l.others));
      never_falls : g.K.Sink.faults l.fn.out ≤ g.K.Sink.faults l.out;
      same_settled : g.K.Sink.settled l.out ≡ g.K.Sink.settled l.fn.out;
    }
