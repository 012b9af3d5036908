use Rattle.move_lifting.proofs.Common.{TrackView, IsNextPut, ◌≡◌, ℕ, ◌-◌, ◌+◌, ◌<◌, max, [], ◌∷◌, ◌++◌, length, take, get_or, ap, sym, ◌∙◌, subst, arith, HasNoSpur, Remove}
use Rattle.move_lifting.proofs.InPlaceLemmas.{next_back}
use Rattle.move_lifting.proofs.track.Track.put_next.Goals as goal

pub returns : goal.returns
returns c =
    let old : TrackView = record { walk = c.self.inside.laid.walk; list = c.self.inside.moves; spare = c.self.inside.laid.spare } in
    let new : TrackView = record { walk = c.cut.new.self.walk; list = c.push.new.self; spare = c.cut.new.self.spare } in
    let same : old ≡ c.args.self.now = c.self.view_is ∙ c.leads_back.ensures.same in
    let back = c.leads_back.ensures.back.0 c.if-not-leads_back.false in
    let within : c.args.front < length old.walk = omega (arith, c.requires.next, ap (λ (t : TrackView). length t.walk) same) in
    let came : get_or old.walk (c.args.front - 2) 0 ≡ get_or old.walk c.args.front 0 =
    subst (λ (t : TrackView). get_or t.walk (c.args.front - 2) 0 ≡ get_or t.walk c.args.front 0) (sym same) back.1 in
    subst (λ (t : TrackView). IsNextPut c.args.behind t c.args.front new (c.args.front - 1)) same
    (next_back c.args.behind old new c.args.front c.at-via.result back.0 within
    (subst (λ (t : TrackView). HasNoSpur (take c.args.front t.walk)) (sym same) c.requires.no_spur) came
    c.at-via.ensures c.cut.ensures.walk
    (subst (λ (n : ℕ). c.push.new.self ≡ record {
      moves = old.list.moves ++ Remove (c.args.front - 2) c.at-via.result ∷ [];
      peak = max old.list.peak (n - 3 + c.args.behind);
    }) c.len.ensures.count c.in_ok-push.ensures.ok))
