use Rattle.commands.proofs.Common.{decision_line, EachPut}
use Rattle.commands.proofs.decision_lines.put_decisions.Given as goal

-- the lines of the decisions so far were put
abbrev pub invariant-loop-decision : goal.invariant-loop-decision
invariant-loop-decision g l =
    EachPut g.K.Sink.written g.K.Sink.settled g.K.Sink.faults l.initial.out l.out l.initial.piece l.piece decision_line l.decisions
    l.decision-index
