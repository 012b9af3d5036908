use Rattle.walk_translate.proofs.Common.{quad_path, ◌≡◌, ℕ, suc, ◌+◌, ◌*◌, ◌<◌, ◌≤◌, true, get_or, take, is_edge, led}
use Rattle.walk_translate.proofs.spoked.Spoked.fold.Given as goal

-- the darts so far
abbrev pub invariant-loop-dart : goal.invariant-loop-dart
invariant-loop-dart g l = record {
  edges : (k : ℕ) → k < l.dart → is_edge l.self.surface.now.mesh (get_or l.walk k 0) (get_or l.walk (k + 1) 0) ≡ true;
  state : g.F.Form.state l.form
      ≡ led g.F.Form.next l.self.good.now.places (g.F.Form.state l.fn.form)
      (quad_path l.self.surface.now.mesh l.self.good.now (take (suc l.dart) l.walk));
  belongs : g.F.Form.Belongs l.self.good.now.places (g.F.Form.state l.form);
  size : g.F.Form.size (g.F.Form.state l.form) ≤ g.F.Form.size (g.F.Form.state l.fn.form) + 2 * l.dart;
}
