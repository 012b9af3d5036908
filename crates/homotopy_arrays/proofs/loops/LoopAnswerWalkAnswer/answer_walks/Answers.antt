use Rattle.homotopy_arrays.proofs.Common.{IsClosedWalk, FreelyHomotopic, AreCheckedLoops, Pair, Faulty, ◌≡◌, ◌∷◌, [], List, ℕ, length, ap, arith, subst, sym, ◌∙◌, Some, slice_get}
use Rattle.free_loops.specs.declared.deciding.FreeAnswer.{FreeAnswer}
use Rattle.free_loops.specs.declared.deciding.FreeAnswer.TheVariants.{Freely, NotFreely}
use Rattle.std.specs.Prelude.{◌↔◌}
use Rattle.homotopy_arrays.proofs.loops.LoopAnswerWalkAnswer.answer_walks.Goals as goal
use Rattle.homotopy_arrays.proofs.loops.LoopAnswerWalkAnswer.answer_walks.Goals.{In-Pair, After-at-2}

-- two closed walks that were checked
checked : (c : In-Pair) → AreCheckedLoops c.args.surface.now c.args.first.now c.args.second.now (Pair c.in-Pair.pair)
checked c = rw c.in-Pair.is at (c.in_ok-pair.ensures c.args.surface.now c.sides.ensures.table)

first_is : (c : After-at-2) → c.args.first.now ≡ c.at.result.now
first_is c =
    let e : slice_get (c.args.first.now ∷ c.args.second.now ∷ []) 0 ≡ Some c.at.result.now =
    rw (checked (goal.at.After-at-2 c).In-Pair).1 at c.at.ensures in
    cc

second_is : (c : After-at-2) → c.args.second.now ≡ c.at-2.result.now
second_is c =
    let e : slice_get (c.args.first.now ∷ c.args.second.now ∷ []) 1 ≡ Some c.at-2.result.now =
    rw (checked (goal.at.After-at-2 c).In-Pair).1 at c.at-2.ensures in
    cc

pub returns-in-Faulty-clause-answer : goal.returns-in-Faulty-clause-answer
returns-in-Faulty-clause-answer c =
    let told : AreCheckedLoops c.args.surface.now c.args.first.now c.args.second.now (Faulty c.in-Faulty.fault) =
    rw c.in-Faulty.is at (c.in_ok-pair.ensures c.args.surface.now c.sides.ensures.table) in
    told

pub at-requires : goal.at-requires
at-requires c =
    let many : length c.in-Pair.pair.walks ≡ 2 = ap (λ (l : List (List ℕ)). length l) (checked (goal.at.at-requires c).In-Pair).1 in
    omega (arith, many)

pub at-requires-2 : goal.at-requires-2
at-requires-2 c =
    let many : length c.in-Pair.pair.walks ≡ 2 = ap (λ (l : List (List ℕ)). length l) (checked (goal.at.at-requires-2 c).In-Pair).1 in
    omega (arith, many)

pub decide_free-requires-clause-first : goal.decide_free-requires-clause-first
decide_free-requires-clause-first c =
    subst (IsClosedWalk c.args.surface.now) (first_is (goal.at.decide_free-requires-clause-first c).After-at-2)
    (checked (goal.at.decide_free-requires-clause-first c).In-Pair).0.first_closed

pub decide_free-requires-clause-second : goal.decide_free-requires-clause-second
decide_free-requires-clause-second c =
    subst (IsClosedWalk c.args.surface.now) (second_is (goal.at.decide_free-requires-clause-second c).After-at-2)
    (checked (goal.at.decide_free-requires-clause-second c).In-Pair).0.second_closed

-- the decision is one on the lists
decided : (c : After-at-2) (answer : FreeAnswer)
    → (answer ≡ Freely) ↔ FreelyHomotopic c.args.surface.now c.at.result.now c.at-2.result.now
    → (answer ≡ Freely) ↔ FreelyHomotopic c.args.surface.now c.args.first.now c.args.second.now
decided c answer told = rw (first_is c, second_is c) told

pub returns-in-Freely-clause-answer : goal.returns-in-Freely-clause-answer
returns-in-Freely-clause-answer c = (
  (checked (goal.at.returns-in-Freely-clause-answer c).In-Pair).0,
  (decided (goal.at.returns-in-Freely-clause-answer c).After-at-2 c.in_ok-decide_free.field-0 c.in_ok-decide_free.ensures.answer).0
      c.in-Freely.is,
)

pub returns-clause-answer : goal.returns-clause-answer
returns-clause-answer c = (
  (checked (goal.at.returns-clause-answer c).In-Pair).0,
  λ free.
      let same : c.in_ok-decide_free.field-0 ≡ Freely =
      (decided (goal.at.returns-clause-answer c).After-at-2 c.in_ok-decide_free.field-0 c.in_ok-decide_free.ensures.answer).1 free in
      let wrong : NotFreely ≡ Freely = sym c.in-NotFreely.is ∙ same in
      cc,
)
