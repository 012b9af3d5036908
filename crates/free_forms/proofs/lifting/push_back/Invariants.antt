use Rattle.free_forms.proofs.Common.{◌≡◌, ◌-◌, ◌<◌, ◌++◌, max, length, drop, way_back}
use Rattle.free_forms.proofs.lifting.push_back.Given as goal

abbrev pub invariant-loop-back : goal.invariant-loop-back
invariant-loop-back l = record {
  moves : l.moves.moves ≡ l.initial.moves.moves ++ way_back l.faces (drop (length l.others.moves - l.back) l.others.moves);
  none : l.back ≡ 0 → l.moves.peak ≡ l.initial.moves.peak;
  some : 0 < l.back → l.moves.peak ≡ max l.initial.moves.peak l.others.peak;
}
