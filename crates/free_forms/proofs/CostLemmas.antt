-- What a step costs: a move at most, and a dart at most; and less is to come by one at least.
use Rattle.free_forms.proofs.Common.{OpenView, HasFaceParents, parent_of, expansion, ReductionView, darts_in, IsTaken, IsStep, HasFaceRoom, ◌≡◌, inl, inr, ℕ, suc, ◌+◌, ◌<◌, ◌≤◌, max, List, [], ◌∷◌, ◌++◌, length, ap, ◌∙◌, subst, arith, length-append, PeakedMoves, MOST_PEAK, Move, Remove, Across}
use Rattle.free_forms.proofs.Expansions.{expansion_size}
use Rattle.free_forms.proofs.StepLemmas.{HasStepped, weight, weight_parent}
use Rattle.free_forms.proofs.WeightLemmas.{weight_long}

-- the moves and what is to come are no more than so many, and neither are the normal part and what is to come; nor was any walk longer
pub record IsPaid (surface : OpenView) (most : ℕ) (state : ReductionView) : Type 0 where
  pub moves : length state.list.moves + weight surface state.last state.coming ≤ most
  pub front : length state.front + weight surface state.last state.coming ≤ most
  pub peak : state.list.peak ≤ most

-- so the walk is no longer either
pub paid_darts : {surface : OpenView} {most : ℕ} {state : ReductionView} → IsPaid surface most state → darts_in state ≤ most
paid_darts {surface} {state} paid = omega (arith, paid.front, weight_long surface state.last state.coming)

-- a step that notes a move
noted_paid : {surface : OpenView} {most : ℕ} (old new : ReductionView) (move : Move) (next : ℕ)
    → weight surface new.last new.coming < weight surface old.last (next ∷ old.coming)
    → IsPaid surface most (record old { coming = next ∷ old.coming }) → length new.front ≤ length old.front
    → new.list ≡ record { moves = old.list.moves ++ move ∷ []; peak = max old.list.peak (length new.front + length new.coming) }
    → IsPaid surface most new
noted_paid {surface} old new move next falls paid front list =
    let count : length new.list.moves ≡ length old.list.moves + 1 =
    ap (λ (l : PeakedMoves). length l.moves) list ∙ length-append old.list.moves (move ∷ []) in
    let peak : new.list.peak ≡ max old.list.peak (length new.front + length new.coming) = ap (λ (l : PeakedMoves). l.peak) list in
    let long : length new.coming ≤ weight surface new.last new.coming = weight_long surface new.last new.coming in grind arith

step_paid : {surface : OpenView} {most : ℕ} (old : ReductionView) (next : ℕ) (new : ReductionView)
    → weight surface new.last new.coming < weight surface old.last (next ∷ old.coming)
    → IsPaid surface most (record old { coming = next ∷ old.coming }) → IsStep surface old next new → IsPaid surface most new
step_paid old next new falls paid step =
    elim step [
      | inl back ↦
          (let front : length old.front ≡ length new.front + 1 =
          ap (λ (l : List ℕ). length l) back.front ∙ length-append new.front (next ∷ []) in
          noted_paid old new (Remove (length new.front) (record { 0 = old.last })) next falls paid (omega (arith, front)) back.list)
      | inr more ↦ elim more [
        | inl on ↦
            (let front : length new.front ≡ length old.front + 1 =
            ap (λ (s : ReductionView). length s.front) on.new_is ∙ length-append old.front (old.last ∷ []) in
            let list : new.list ≡ old.list = ap (λ (s : ReductionView). s.list) on.new_is in
            let count : length new.list.moves ≡ length old.list.moves = ap (λ (l : PeakedMoves). length l.moves) list in
            let peak : new.list.peak ≡ old.list.peak = ap (λ (l : PeakedMoves). l.peak) list in
            record {
              moves = omega (arith, count, falls, paid.moves);
              front = omega (arith, front, falls, paid.front);
              peak = omega (arith, peak, paid.peak);
            })
        | inr rest ↦ elim rest [
          | inl wide ↦
              (let front : length new.front ≡ length old.front = ap (λ (l : List ℕ). length l) wide.front in
              noted_paid old new (Across (length old.front) (record { 0 = wide.face }) wide.corner wide.forward 1) next falls
              paid (omega (arith, front)) wide.list)
          | inr skip ↦
              (let front : length new.front ≡ length old.front = ap (λ (l : List ℕ). length l) skip.front in
              noted_paid old new (Remove (length new.front) (record { 0 = next })) next falls paid (omega (arith, front)) skip.list)
        ]
      ]
    ]

pub stays_paid : {surface : OpenView} {most : ℕ} {old taken : ReductionView} {next : ℕ} {new : ReductionView} {first : List ℕ}
    → IsPaid surface most old → IsTaken old next taken → HasStepped surface first taken next new → IsStep surface taken next new
    → IsPaid surface most new
stays_paid {surface} {most} {taken} {next} {new} paid is_taken stepped step =
    step_paid taken next new stepped.falls (subst (IsPaid surface most) is_taken paid) step

-- and there is room for the next step
pub has_room : {surface : OpenView} {most : ℕ} {old : ReductionView} (taken : ReductionView) (next : ℕ) → HasFaceParents surface → IsPaid
    surface most old
    → IsTaken old next taken → most ≤ MOST_PEAK → HasFaceRoom surface taken next
has_room {surface} {most} taken next has paid is_taken few f l joined =
    let now : IsPaid surface most (record taken { coming = next ∷ taken.coming }) = subst (IsPaid surface most) is_taken paid in
    let way : List ℕ = expansion surface.mesh (parent_of surface f) taken.last in
    let fewer : weight surface taken.last (next ∷ taken.coming) ≡ suc (weight surface taken.last (way ++ taken.coming)) =
    weight_parent taken.coming has (record { within = l; joined = joined }) in
    omega (
      arith,
      now.front,
      fewer,
      weight_long surface taken.last (way ++ taken.coming),
      length-append way taken.coming,
      expansion_size surface f taken.last,
      few,
    )
