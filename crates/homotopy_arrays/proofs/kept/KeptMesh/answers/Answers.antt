use Rattle.homotopy_arrays.proofs.Common.{AreAnswers, are_pairs, false, true, ◌≡◌, ◌∙◌, inl, inr, refl, subst, sym, both_ways, FaceList}
use Rattle.homotopy_arrays.proofs.kept.KeptMesh.answers.Goals as goal

pub returns-then-not-is_told_on-clause-ends : goal.returns-then-not-is_told_on-clause-ends
returns-then-not-is_told_on-clause-ends g c =
    inr (inr (record {
      mesh = c.args.self.now;
      is = refl;
      holds = inl (
        (λ on.
            both_ways c.is_told_on.result c.if-not-is_told_on.true
            (c.is_told_on.ensures.1 (subst g.A.WalkAnswer.On (sym c.self.view_is) on))),
        refl,
      );
    }))

pub returns-then-not-are_pairs-clause-ends : goal.returns-then-not-are_pairs-clause-ends
returns-then-not-are_pairs-clause-ends g c =
    let none : are_pairs c.args.walk_sizes.now c.args.walk_vertices.now ≡ false = sym c.are_pairs.ensures ∙ c.if-not-are_pairs.true in
    let on : g.A.WalkAnswer.On c.args.self.now =
    subst g.A.WalkAnswer.On c.self.view_is (c.is_told_on.ensures.0 c.if-not-is_told_on.false) in
    inr (inr (record { mesh = c.args.self.now; is = refl; holds = inr (on, none, refl) }))

pub returns-clause-ends : goal.returns-clause-ends
returns-clause-ends g c =
    let pairs : are_pairs c.args.walk_sizes.now c.args.walk_vertices.now ≡ true = sym c.are_pairs.ensures ∙ c.if-not-are_pairs.false in
    let on : g.A.WalkAnswer.On c.args.self.now =
    subst g.A.WalkAnswer.On c.self.view_is (c.is_told_on.ensures.0 c.if-not-is_told_on.false) in
    record {
      mesh = c.args.self.now;
      is = refl;
      holds = record {
        surface = on;
        pairs = pairs;
        answers =
            subst (λ (m : FaceList). AreAnswers (g.A.WalkAnswer.Is m) c.args.walk_sizes.now c.args.walk_vertices.now
            c.in_ok-answer_all.field-0.items) c.self.view_is c.in_ok-answer_all.ensures.answers;
      };
    }
