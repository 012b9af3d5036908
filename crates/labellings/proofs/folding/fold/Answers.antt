use Rattle.labellings.proofs.Common.{spokes, quad_path, spoke_list, ◌≡◌, ℕ, suc, ◌+◌, ◌<◌, ◌≤◌, List, ◌++◌, length, get_or, take, ap, ◌∙◌, subst, arith, take_all, led, NotesAlong, TellsMore}
use Rattle.labellings.proofs.KeepingLemmas.{moves_keep}
use Rattle.labellings.proofs.NotedLemmas.{tells-on, tells-some, led-on}
use Rattle.labellings.proofs.PathLemmas.{path-next, listed, found_below}
use Rattle.labellings.proofs.folding.fold.Goals as goal

pub put_spokes-requires-clause-below : goal.put_spokes-requires-clause-below
put_spokes-requires-clause-below g c =
    rw c.wheel.ensures
    (found_below c.args.faces.now c.args.good.now c.requires.good c.at.result.0 c.at-in-loop-dart.result.0 c.spokes-spokes.result
    c.spokes-spokes.ensures)

pub returns-in_err-put_spokes-clause-kept : goal.returns-in_err-put_spokes-clause-kept
returns-in_err-put_spokes-clause-kept g c = grind (arith, tells-some)

pub loop-dart-preserved : goal.loop-dart-preserved
loop-dart-preserved g c =
    let mesh = c.args.faces.now in
    let labelling = c.args.good.now in
    let walk : List ℕ = c.args.walk.now in
    let k : ℕ = c.loop-dart.dart in
    let next = g.F.Form.next in
    let notes = g.F.Form.Notes in
    let places : List ℕ = labelling.places in
    let start = g.F.Form.state c.args.form.now in
    let before = g.F.Form.state c.loop-dart.form in
    let after = g.F.Form.state c.put_spokes.new.form in
    let so_far : List ℕ = quad_path mesh labelling (take (suc k) walk) in
    let few : k + 1 < length walk = omega (arith, c.loop-dart-test.true, c.darts-dart-end.ensures.count) in
    let found : spokes mesh labelling c.at.result.0 c.at-in-loop-dart.result.0 ≡ spoke_list c.spokes-spokes.result =
    listed c.spokes-spokes.result (spokes mesh labelling c.at.result.0 c.at-in-loop-dart.result.0) c.spokes-spokes.ensures in
    let higher : k + 1 ≡ suc k = omega arith in
    let head : c.at-in-loop-dart.result.0 ≡ get_or walk (suc k) 0 = c.at-in-loop-dart.ensures ∙ ap (λ n. get_or walk n 0) higher in
    let dart : spokes mesh labelling (get_or walk k 0) (get_or walk (suc k) 0) ≡ spoke_list c.spokes-spokes.result = grind arith in
    let more : quad_path mesh labelling (take (suc (k + 1)) walk) ≡ so_far ++ spoke_list c.spokes-spokes.result =
    ap (λ n. quad_path mesh labelling (take (suc n) walk)) higher ∙ path-next mesh labelling walk k few
    ∙ ap (λ (l : List ℕ). so_far ++ l) dart in
    let here : after ≡ led next places before (spoke_list c.spokes-spokes.result) =
    c.in_ok-put_spokes.ensures.state ∙ ap (λ (l : List ℕ). led next l before (spoke_list c.spokes-spokes.result)) c.wheel.ensures in
    record {
      state = rw more (led-on next notes places start before after so_far (spoke_list c.spokes-spokes.result)
          c.loop-dart.invariant.state here);
      belongs = subst (λ (l : List ℕ). g.F.Form.Belongs l after) c.wheel.ensures c.in_ok-put_spokes.ensures.belongs;
      size = omega (arith, c.loop-dart.invariant.size, c.in_ok-put_spokes.ensures.size);
      notes = rw more
          (tells-on next notes places start before so_far (spoke_list c.spokes-spokes.result) (g.R.Recorder.noted c.args.recorder.now)
          (g.R.Recorder.noted c.loop-dart.recorder) (g.R.Recorder.noted c.put_spokes.new.recorder) c.loop-dart.invariant.state
          c.loop-dart.invariant.notes
          (subst (λ (l : List ℕ). TellsMore (NotesAlong next notes l before (spoke_list c.spokes-spokes.result))
          (g.R.Recorder.noted c.loop-dart.recorder)
          (g.R.Recorder.noted c.put_spokes.new.recorder)) c.wheel.ensures c.in_ok-put_spokes.ensures.notes));
    }

pub returns-clause-homotopic : goal.returns-clause-homotopic
returns-clause-homotopic g c = λ other at_vertex homotopic.
    let mesh = c.args.faces.now in
    let labelling = c.args.good.now in
    let walk : List ℕ = c.args.walk.now in
    let places : List ℕ = labelling.places in
    let start = g.F.Form.state c.args.form.now in
    let long : length walk ≤ suc c.loop-dart.dart = grind arith in
    let whole : take (suc c.loop-dart.dart) walk ≡ walk = take_all (suc c.loop-dart.dart) walk long in
    c.loop-dart.invariant.state ∙ ap (λ (w : List ℕ). led g.F.Form.next places start (quad_path mesh labelling w)) whole
    ∙ moves_keep mesh labelling g.F.Form.next (g.F.Form.Belongs places) g.F.Form.IsAtVertex
    (record {
      stays = λ s i b l. g.met.F.Form.stays.belongs places s i b l;
      vertex = λ s i j b v l m. g.met.F.Form.stays.at_vertex places s i j b v l m;
      back = λ s i b l. g.met.F.Form.there_and_back places s i b l;
      quad = λ s a d b v q. g.met.F.Form.across places s a d b v q;
    })
    c.len.ensures.valid c.requires.good homotopic.0 walk other c.requires.walk homotopic.1 start (c.requires.belongs, at_vertex)
