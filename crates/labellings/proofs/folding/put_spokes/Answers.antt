use Rattle.labellings.proofs.Common.{◌≡◌, ℕ, subst, TellsMore}
use Rattle.std.proofs.lemmas.Result.{on_ok_weaker}
use Rattle.labellings.proofs.NotedLemmas.{tells-two}
use Rattle.labellings.proofs.folding.put_spokes.Goals as goal

pub returns-clause-notes : goal.returns-clause-notes
returns-clause-notes g c =
    let places = c.args.wheel.now in
    let state = g.F.Form.state c.args.form.now in
    let there : ℕ = c.in-Some.there.0 in
    let back : ℕ = c.in-Some.back.0 in
    let between : g.F.Form.state c.act.new.self ≡ g.F.Form.next places state there = c.in_ok-act.ensures.state in
    rw c.in-Some.is
    (on_ok_weaker c.act-2.result
    (λ second.
    tells-two g.F.Form.next g.F.Form.Notes places state there back (g.R.Recorder.noted c.args.recorder.now)
    (g.R.Recorder.noted c.act.new.recorder)
    (g.R.Recorder.noted c.act-2.new.recorder) c.in_ok-act.ensures.notes
    (subst (λ s. TellsMore (g.F.Form.Notes places s back) (g.R.Recorder.noted c.act.new.recorder)
    (g.R.Recorder.noted c.act-2.new.recorder)) between second))
    c.act-2.ensures.notes)
