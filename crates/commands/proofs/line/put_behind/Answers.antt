use Rattle.commands.proofs.Common.{phrase_text, [], ◌∷◌}
use Rattle.commands.proofs.Writing.{writes_then}
use Rattle.commands.proofs.line.put_behind.Goals as goal

pub returns : goal.returns
returns g c =
    writes_then g.K.Sink.written g.K.Sink.settled g.K.Sink.faults c.args.out.now c.write_whole.new.sink c.put_phrase.new.out (32 ∷ [])
    (phrase_text c.args.phrase) c.put_phrase.result c.in_ok-write_whole.ensures.ok c.in_ok-write_whole.ensures.only_writes
    c.put_phrase.ensures
