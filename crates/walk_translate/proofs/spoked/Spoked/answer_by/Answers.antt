use Rattle.walk_translate.proofs.Common.{quad_path, ◌≡◌, ℕ, true, false, List, refl, ap, sym, ◌∙◌, subst, arith, AreWalkPair, led}
use Rattle.walk_translate.proofs.DecidingLemmas.{equal_decides, unequal_decides}
use Rattle.walk_translate.proofs.spoked.Spoked.answer_by.Goals.{After-same}
use Rattle.walk_translate.proofs.spoked.Spoked.answer_by.Goals as goal

pub fold-requires-clause-room : goal.fold-requires-clause-room
fold-requires-clause-room g c =
    let none : g.F.Form.size (g.F.Form.state c.args.one.now) ≡ 0 =
    ap g.F.Form.size c.requires.one ∙ g.met.F.Form.starts.size_zero in
    omega (arith, none, c.requires.room)

pub fold-requires-else-not-branch-clause-belongs : goal.fold-requires-else-not-branch-clause-belongs
fold-requires-else-not-branch-clause-belongs g c =
    subst (g.F.Form.Belongs c.args.self.now.good.now.places) (sym c.requires.other)
    (g.met.F.Form.starts.belongs c.args.self.now.good.now.places c.requires.own)

pub fold-requires-else-not-branch-clause-room : goal.fold-requires-else-not-branch-clause-room
fold-requires-else-not-branch-clause-room g c =
    let none : g.F.Form.size (g.F.Form.state c.args.other.now) ≡ 0 =
    ap g.F.Form.size c.requires.other ∙ g.met.F.Form.starts.size_zero in
    omega (arith, none, c.requires.room)

-- both are walks of the surface, with common ends
walks : (g : _) (c : After-same g) → AreWalkPair c.args.self.now.surface.now.mesh c.args.first.now c.args.second.now
walks g c = record {
  first_walk = c.in_ok-fold.ensures.walk.0 c.if-not-branch.false;
  second_walk = c.in_ok-fold-2.ensures.walk.0 c.if-not-branch-2.false;
  ends = c.have_common_ends.ensures.0 c.if-not-have_common_ends.false;
}

-- the states to which they lead
abbrev Leads : (g : _) → After-same g → List ℕ → g.F.Form.State
Leads g c walk =
    led g.F.Form.next c.args.self.now.good.now.places g.F.Form.empty
    (quad_path c.args.self.now.surface.now.mesh c.args.self.now.good.now walk)

first_state : (g : _) (c : After-same g) → g.F.Form.state c.fold.new.form ≡ Leads g c c.args.first.now
first_state g c =
    c.in_ok-fold.ensures.state c.if-not-branch.false
    ∙ ap (λ s. led g.F.Form.next c.args.self.now.good.now.places s
    (quad_path c.args.self.now.surface.now.mesh c.args.self.now.good.now c.args.first.now)) c.requires.one

second_state : (g : _) (c : After-same g) → g.F.Form.state c.fold-else-not-branch.new.form ≡ Leads g c c.args.second.now
second_state g c =
    c.in_ok-fold-2.ensures.state c.if-not-branch-2.false
    ∙ ap (λ s. led g.F.Form.next c.args.self.now.good.now.places s
    (quad_path c.args.self.now.surface.now.mesh c.args.self.now.good.now c.args.second.now)) c.requires.other

pub returns-then-same : goal.returns-then-same
returns-then-same g c =
    let here = (goal.at.returns-then-same g c).After-same in (
      walks g here,
      equal_decides _ (c.requires.decides c.args.first.now c.args.second.now (walks g here))
          (sym (first_state g here) ∙ c.if-same.ensures.0 refl ∙ second_state g here) refl,
    )

pub returns-else-same : goal.returns-else-same
returns-else-same g c =
    let here = (goal.at.returns-else-same g c).After-same in (
      walks g here,
      unequal_decides _ (c.requires.decides c.args.first.now c.args.second.now (walks g here))
          (λ e. let wrong : false ≡ true = c.if-same.ensures.1 (first_state g here ∙ e ∙ sym (second_state g here)) in cc) refl,
    )
