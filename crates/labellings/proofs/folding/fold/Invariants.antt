use Rattle.labellings.proofs.Common.{quad_path, ◌≡◌, suc, ◌+◌, ◌*◌, ◌≤◌, take, led, NotesAlong, TellsMore}
use Rattle.labellings.proofs.folding.fold.Given as goal

-- the darts so far
abbrev pub invariant-loop-dart : goal.invariant-loop-dart
invariant-loop-dart g l = record {
  state : g.F.Form.state l.form
      ≡ led g.F.Form.next l.good.places (g.F.Form.state l.fn.form) (quad_path l.faces l.good (take (suc l.dart) l.walk));
  belongs : g.F.Form.Belongs l.good.places (g.F.Form.state l.form);
  size : g.F.Form.size (g.F.Form.state l.form) ≤ g.F.Form.size (g.F.Form.state l.fn.form) + 2 * l.dart;
  notes : TellsMore
      (NotesAlong g.F.Form.next g.F.Form.Notes l.good.places (g.F.Form.state l.fn.form)
      (quad_path l.faces l.good (take (suc l.dart) l.walk)))
      (g.R.Recorder.noted l.fn.recorder) (g.R.Recorder.noted l.recorder);
}
