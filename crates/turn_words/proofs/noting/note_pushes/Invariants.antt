use Rattle.turn_words.proofs.Common.{◌≡◌, ◌-◌, pushes, with_steps, TellsMore}
use Rattle.turn_words.proofs.noting.note_pushes.Given as goal

abbrev pub invariant-loop-k : goal.invariant-loop-k
invariant-loop-k g l = record {
  noted : with_steps (g.R.Recorder.noted l.fn.recorder) (pushes l.up l.last l.count) ≡ with_steps (g.R.Recorder.noted l.recorder)
      (pushes l.up (l.last - l.k) (l.count - l.k));
  kept : TellsMore (λ _. Unit {0}) (g.R.Recorder.noted l.fn.recorder) (g.R.Recorder.noted l.recorder);
}
