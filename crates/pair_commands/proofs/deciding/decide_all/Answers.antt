use Rattle.pair_commands.proofs.Common.{failed_end, all_hold, as_many, holds_next, pair_within, mesh_of_decider, ◌≡◌, ◌/◌, ◌<◌, ℕ, true, List, length, get_or, sym, ◌∙◌, subst, arith, Some, FaceList, AreWalkPair, are_paired, IsFoundOn}
use Rattle.component_deciding.specs.declared.order.Placed.{Placed}
use Rattle.std.proofs.lemmas.List.{get_or_read, length-set}
use Rattle.surf_model.specs.Edges.{IsTableOf}
use Rattle.pair_commands.proofs.PairDecisions.{IsDecidedAt, found_at, no_pairs, paired_even, pairs_decided}
use Rattle.pair_commands.proofs.deciding.decide_all.Goals as goal
use Rattle.pair_commands.proofs.deciding.decide_all.Goals.{After-index, in-Some, in-None+in_ok-check_list-in-None, then-not-are_paired+in_ok-check_list, else-not-are_paired}

pub returns-in_err-check_list-clause-ends : goal.returns-in_err-check_list-clause-ends
returns-in_err-check_list-clause-ends c =
    failed_end _ _ _ _ c.from_residual.ensures.1 (c.in_err-check_list.ensures.ends (mesh_of_decider c.args.decider.now) c.sides.ensures)

pub returns-in_err-check_list-in-None-clause-ends : goal.returns-in_err-check_list-in-None-clause-ends
returns-in_err-check_list-in-None-clause-ends c =
    let mesh = mesh_of_decider c.args.decider.now in
    let table : IsTableOf mesh c.sides-in-None.result.now =
    subst (λ (m : FaceList). IsTableOf m c.sides-in-None.result.now) (c.in_ok-decision.ensures.same ∙ c.loop-at.invariant.same)
    c.sides-in-None.ensures in
    failed_end _ _ _ _ c.from_residual-in_err-check_list-in-None.ensures.1 (c.in_err-check_list-in-None.ensures.ends mesh table)

-- the pair that stands next in the order is one of them
there : (c : After-index) → c.index.result.now.pair < length c.args.walks.now.walks / 2
there c =
    pair_within (length c.args.walks.now.walks / 2) c.loop-at.at c.in_ok-order.order.items c.index.result.now c.in_ok-order.ensures.order
    (omega (arith, c.loop-at-test.true))
    (get_or_read c.in_ok-order.order.items c.loop-at.at _ (omega (arith, c.loop-at-test.true)) c.index.ensures c.index.result.now)

pub overflow_mul-first : goal.overflow_mul-first
overflow_mul-first c = omega (arith, there (goal.at.overflow_mul-first c).After-index, c.in_ok-order.ensures.few)

pub overflow_mul-second : goal.overflow_mul-second
overflow_mul-second c = omega (arith, there (goal.at.overflow_mul-second c).After-index, c.in_ok-order.ensures.few)

pub overflow_add-second : goal.overflow_add-second
overflow_add-second c = omega (arith, there (goal.at.overflow_add-second c).After-index, c.in_ok-order.ensures.few)

pub at-requires : goal.at-requires
at-requires c = omega (arith, there (goal.at.at-requires c).After-index)

pub at-requires-in-loop-at : goal.at-requires-in-loop-at
at-requires-in-loop-at c = omega (arith, there (goal.at.at-requires-in-loop-at c).After-index)

pub index_mut-requires : goal.index_mut-requires
index_mut-requires c =
    omega (
      arith,
      there (goal.at.index_mut-requires c).After-index,
      as_many (length c.args.walks.now.walks / 2) c.in_ok-order.order.items c.in_ok-order.ensures.order,
      c.loop-at.invariant.each,
    )

pub loop-at-preserved : goal.loop-at-preserved
loop-at-preserved c =
    let mesh = mesh_of_decider c.args.decider.now in
    let text = c.args.walks.now in
    let order : List Placed = c.in_ok-order.order.items in
    let entry : Placed = c.index.result.now in
    let at : ℕ = c.loop-at.at in
    let pair : ℕ = entry.pair in
    let first = c.at.result.now in
    let second = c.at-in-loop-at.result.now in
    let count : ℕ = length text.walks / 2 in
    let few : at < length order = omega (arith, c.loop-at-test.true) in
    let is : entry ≡ get_or order at entry = get_or_read order at entry few c.index.ensures entry in
    let inside : pair < length c.loop-at.decisions.items =
    omega (
      arith,
      there (goal.at.loop-at-preserved c).After-index,
      as_many count order c.in_ok-order.ensures.order,
      c.loop-at.invariant.each,
    ) in
    let same : mesh_of_decider c.answer_if_pair.new.self ≡ mesh = c.in_ok-decision.ensures.same ∙ c.loop-at.invariant.same in
    elim c.match-branch-5.branch [
      | in-Some w ↦
          (let told : IsFoundOn (mesh_of_decider c.loop-at.decider) first second (Some w.in-Some.decision) =
          subst (IsFoundOn (mesh_of_decider c.loop-at.decider) first second) w.in-Some.is c.in_ok-decision.ensures.answer in
          let here : IsDecidedAt mesh text.walks pair w.in-Some.decision =
          found_at (mesh_of_decider c.loop-at.decider) mesh text.walks pair first second w.in-Some.decision
          c.at.ensures c.at-in-loop-at.ensures
          c.loop-at.invariant.same told in
          record {
            same = same;
            each = rw w.decisions-is (length-set c.loop-at.decisions.items pair w.in-Some.decision ∙ c.loop-at.invariant.each);
            right = rw w.decisions-is
                (holds_next (IsDecidedAt mesh text.walks) order at c.loop-at.decisions.items entry w.in-Some.decision is
                inside few here c.loop-at.invariant.right);
          })
      | in-None+in_ok-check_list-in-None w ↦
          (let table : IsTableOf mesh w.sides-in-None.result.now =
          subst (λ (m : FaceList). IsTableOf m w.sides-in-None.result.now) same w.sides-in-None.ensures in
          let none : AreWalkPair mesh first second → ⊥ =
          subst (λ (m : FaceList). AreWalkPair m first second → ⊥) c.loop-at.invariant.same
          (rw w.in-None.is at c.in_ok-decision.ensures.answer) in
          absurd (no_pairs mesh text pair first second c.at.ensures c.at-in-loop-at.ensures none
          (w.in_ok-check_list-in-None.ensures.ends mesh table)))
    ]

pub returns-clause-ends : goal.returns-clause-ends
returns-clause-ends c =
    let mesh = mesh_of_decider c.args.decider.now in
    let text = c.args.walks.now in
    let order : List Placed = c.in_ok-order.order.items in
    let count : ℕ = length text.walks / 2 in
    let paired : are_paired text.version (length text.walks) ≡ true = elim c.if-not-are_paired.branch [
      | then-not-are_paired+in_ok-check_list w ↦ (w.in_ok-check_list.ensures.ends mesh w.sides.ensures).paired
      | else-not-are_paired w ↦ sym c.are_paired.ensures ∙ w.if-not-are_paired.false
    ] in
    pairs_decided mesh text count c.loop-at.decisions.items paired (paired_even text.version (length text.walks) paired)
    (c.loop-at.invariant.each ∙ as_many count order c.in_ok-order.ensures.order)
    (all_hold (IsDecidedAt mesh text.walks) order c.loop-at.decisions.items c.loop-at.at count (omega (arith, c.loop-at-test.false))
    c.in_ok-order.ensures.order c.loop-at.invariant.right)
