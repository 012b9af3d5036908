use Rattle.turn_words.proofs.Common.{arith, ◌-◌}
use Rattle.turn_words.proofs.Telling.{tells-on, tells-still}
use Rattle.turn_words.proofs.Rewrites.{pushes-next}
use Rattle.turn_words.proofs.noting.note_pushes.Goals as goal

pub loop-k-preserved : goal.loop-k-preserved
loop-k-preserved g c = grind (arith, pushes-next, tells-on)

pub returns-in_err-note-clause-kept : goal.returns-in_err-note-clause-kept
returns-in_err-note-clause-kept g c = tells-still _ _ (g.R.Recorder.noted c.note.new.self) c.loop-k.invariant.kept c.in_err-note.ensures.err
