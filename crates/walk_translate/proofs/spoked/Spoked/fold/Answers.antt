use Rattle.walk_translate.proofs.Common.{path-next, IsGood, spokes, quad_path, spoke_list, ◌≡◌, ℕ, suc, ◌+◌, ◌<◌, ◌≤◌, inl, inr, true, List, ◌++◌, length, get_or, take, ap, sym, ◌∙◌, subst, arith, take_all, IsTableOf, is_edge, is_used, led}
use Rattle.walk_translate.proofs.LabelLemmas.{cut_is_good}
use Rattle.walk_translate.proofs.SpokedLemmas.{before_or_last, kept_spokes, led_on, no_walk, spokes_below, told_no, told_yes, walk_of_edges}
use Rattle.walk_translate.proofs.spoked.Spoked.fold.Goals.{After-along}
use Rattle.walk_translate.proofs.spoked.Spoked.fold.Goals as goal

pub returns-in_default-clause-walk : goal.returns-in_default-clause-walk
returns-in_default-clause-walk g c =
    let mesh = c.args.self.now.surface.now.mesh in
    let table : IsTableOf mesh c.sides-sides.result.now = rw c.sides-sides.ensures.table c.sides-sides.ensures.valid.table in
    told_no
    (no_walk mesh c.args.walk.now c.loop-dart.dart c.at-from.result.0 c.at-to.result.0
    (omega (arith, c.loop-dart-test.true, c.darts-dart-end.ensures.count)) (c.in_default.ensures.edge mesh table) c.at-from.ensures
    c.at-to.ensures)

-- the spokes of the dart
found : (g : _) (c : After-along g)
    → spokes c.args.self.now.surface.now.mesh c.args.self.now.good.now c.at-from.result.0 c.at-to.result.0 ≡ spoke_list c.along.result
found g c =
    let surface = c.args.self.now.surface.now in
    kept_spokes surface.mesh c.args.self.now.good.now surface.table c.args.self.now.kept.now c.in-Some.edge.0 c.at-from.result.0
    c.at-to.result.0 c.along.result c.sides-sides.ensures.valid.table c.requires.spoked.kept
    (rw (sym c.sides-sides.ensures.table) c.in-Some.ensures.found) (rw (sym c.sides-sides.ensures.table) c.in-Some.ensures.ends)
    c.along.ensures.there c.along.ensures.back

good : (g : _) (c : After-along g) → IsGood c.args.self.now.surface.now.mesh c.args.self.now.good.now
good g c = cut_is_good c.args.self.now.surface.now c.args.self.now.good.now c.sides-sides.ensures.valid c.requires.spoked.labelled

pub put_spokes-requires-clause-below : goal.put_spokes-requires-clause-below
put_spokes-requires-clause-below g c =
    let along = (goal.at.put_spokes-requires-clause-below g c).After-along in
    rw c.wheel.ensures
    (spokes_below c.args.self.now.surface.now.mesh c.args.self.now.good.now c.at-from.result.0 c.at-to.result.0 c.along.result
    (good g along) (found g along))

pub loop-dart-preserved : goal.loop-dart-preserved
loop-dart-preserved g c =
    let mesh = c.args.self.now.surface.now.mesh in
    let labelling = c.args.self.now.good.now in
    let walk : List ℕ = c.args.walk.now in
    let k : ℕ = c.loop-dart.dart in
    let next = g.F.Form.next in
    let places : List ℕ = labelling.places in
    let start = g.F.Form.state c.args.form.now in
    let before = g.F.Form.state c.loop-dart.form in
    let after = g.F.Form.state c.put_spokes.new.form in
    let so_far : List ℕ = quad_path mesh labelling (take (suc k) walk) in
    let few : k + 1 < length walk = omega (arith, c.loop-dart-test.true, c.darts-dart-end.ensures.count) in
    let higher : k + 1 ≡ suc k = omega arith in
    let head : c.at-to.result.0 ≡ get_or walk (suc k) 0 = c.at-to.ensures ∙ ap (λ n. get_or walk n 0) higher in
    let dart : spokes mesh labelling (get_or walk k 0) (get_or walk (suc k) 0) ≡ spoke_list c.along.result =
    ap (λ n. spokes mesh labelling n (get_or walk (suc k) 0)) (sym c.at-from.ensures)
    ∙ ap (spokes mesh labelling c.at-from.result.0) (sym head)
    ∙ found g (goal.at.loop-dart-preserved g c).After-along in
    let more : quad_path mesh labelling (take (suc (k + 1)) walk) ≡ so_far ++ spoke_list c.along.result =
    ap (λ n. quad_path mesh labelling (take (suc n) walk)) higher ∙ path-next mesh labelling walk k few
    ∙ ap (λ (l : List ℕ). so_far ++ l) dart in
    let here : after ≡ led next places before (spoke_list c.along.result) =
    c.in_ok-put_spokes.ensures.state ∙ ap (λ (l : List ℕ). led next l before (spoke_list c.along.result)) c.wheel.ensures in
    let edge : is_edge mesh (get_or walk k 0) (get_or walk (k + 1) 0) ≡ true =
    ap (λ n. is_edge mesh n (get_or walk (k + 1) 0)) (sym c.at-from.ensures) ∙ ap (is_edge mesh c.at-from.result.0) (sym c.at-to.ensures)
    ∙ sym (c.in-Some.ensures.edge mesh (rw c.sides-sides.ensures.table c.sides-sides.ensures.valid.table)) in
    record {
      edges = λ j l. elim (before_or_last j k l) [
        | inl earlier ↦ c.loop-dart.invariant.edges j earlier
        | inr last ↦ subst (λ n. is_edge mesh (get_or walk n 0) (get_or walk (n + 1) 0) ≡ true) (sym last) edge
      ];
      state = rw more (led_on next places start before after so_far (spoke_list c.along.result) c.loop-dart.invariant.state here);
      belongs = subst (λ (l : List ℕ). g.F.Form.Belongs l after) c.wheel.ensures c.in_ok-put_spokes.ensures.belongs;
      size = omega (arith, c.loop-dart.invariant.size, c.in_ok-put_spokes.ensures.size);
    }

pub returns-clause-state : goal.returns-clause-state
returns-clause-state g c = λ _.
    let walk : List ℕ = c.args.walk.now in
    let long : length walk ≤ suc c.loop-dart.dart = omega (
      arith,
      c.loop-dart-test.false,
      c.darts-dart-end.ensures.count,
      c.darts-dart-end.ensures.starts,
    ) in
    c.loop-dart.invariant.state
    ∙ ap (λ (w : List ℕ). led g.F.Form.next c.args.self.now.good.now.places (g.F.Form.state c.args.form.now)
    (quad_path c.args.self.now.surface.now.mesh c.args.self.now.good.now w)) (take_all (suc c.loop-dart.dart) walk long)

pub returns-clause-walk : goal.returns-clause-walk
returns-clause-walk g c =
    let mesh = c.args.self.now.surface.now.mesh in
    let walk = c.args.walk.now in
    let table : IsTableOf mesh c.sides-sides.result.now = rw c.sides-sides.ensures.table c.sides-sides.ensures.valid.table in
    let first : is_used mesh (get_or walk 0 0) ≡ true =
    ap (is_used mesh) (sym c.at.ensures) ∙ sym (c.if-not-used.ensures.mesh mesh table) in
    told_yes
    (walk_of_edges mesh walk c.darts-dart-end.ensures.starts first
    (λ k l. c.loop-dart.invariant.edges k (omega (arith, c.loop-dart-test.false, c.darts-dart-end.ensures.count))))
