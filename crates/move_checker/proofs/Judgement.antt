-- The verdict, move by move, and what it says of the walks.
use Rattle.move_checker.proofs.Common.{step_of, verdict_from, verdict_of, MoveFault, OverPeak, Accepted, Peak, AtMove, End, ◌≡◌, ℕ, ◌+◌, ◌<◌, ◌≤◌, ◌≢◌, max, true, false, List, [], ◌∷◌, refl, ap, sym, ◌∙◌, arith, inl, inr, le-leb, lt-leb, cases_lt, cases_Bool, both_ways, ◌↔◌, nat_le, None, Ok, Err, FaceList, PeakedMoves, apply, apply_all, Leads, greatest_darts, same_walk, darts, Move}
use Rattle.move_checker.specs.declared.judge.Verdict.{Verdict}
use Rattle.std.specs.Prelude.{Some}
use Rattle.move_checker.proofs.SameWalks.{same_walk_true, same_walk_false, same_walk_means}
use Rattle.move_checker.proofs.Steps.{is_not_allowed, is_over_peak, is_done, outcome}

pub verdict_over_peak : (mesh : FaceList) (first second : List ℕ) (list : PeakedMoves) → list.peak < darts first
    → verdict_of mesh first second list ≡ Peak
unfolding verdict_of
verdict_over_peak mesh first second list lt =
    let t : nat_le (darts first) list.peak ≡ false = lt-leb _ _ lt in
    rw t refl

pub verdict_start : (mesh : FaceList) (first second : List ℕ) (list : PeakedMoves) → darts first ≤ list.peak
    → verdict_of mesh first second list ≡ verdict_from mesh list.peak second 1 first list.moves
unfolding verdict_of
verdict_start mesh first second list le =
    let t : nat_le (darts first) list.peak ≡ true = le-leb _ _ le in
    rw t refl

pub verdict_more : (mesh : FaceList) (peak : ℕ) (second : List ℕ) (number : ℕ) (walk next : List ℕ) (move : Move) (moves : List Move)
    → step_of mesh peak walk move ≡ Ok next
    → verdict_from mesh peak second number walk (move ∷ moves) ≡ verdict_from mesh peak second (number + 1) next moves
unfolding verdict_from
verdict_more mesh peak second number walk next move moves e = rw e refl

pub verdict_refused : (mesh : FaceList) (peak : ℕ) (second : List ℕ) (number : ℕ) (walk : List ℕ) (move : Move) (moves : List Move)
    (fault : MoveFault)
    → step_of mesh peak walk move ≡ Err fault → verdict_from mesh peak second number walk (move ∷ moves) ≡ AtMove number fault
unfolding verdict_from
verdict_refused mesh peak second number walk move moves fault e = rw e refl

pub verdict_accepted : (mesh : FaceList) (peak : ℕ) (second : List ℕ) (number : ℕ) (walk : List ℕ) → walk ≡ second
    → verdict_from mesh peak second number walk [] ≡ Accepted
unfolding verdict_from
verdict_accepted mesh peak second number walk e =
    let t : same_walk walk second ≡ true = same_walk_true walk second e in
    rw t refl

pub verdict_end : (mesh : FaceList) (peak : ℕ) (second : List ℕ) (number : ℕ) (walk : List ℕ) → walk ≢ second
    → verdict_from mesh peak second number walk [] ≡ End
unfolding verdict_from
verdict_end mesh peak second number walk ne =
    let t : same_walk walk second ≡ false = same_walk_false walk second ne in
    rw t refl

-- the darts that a list of moves passes, the first move taken off
pub greatest_darts-more : (mesh : FaceList) (walk next : List ℕ) (move : Move) (moves : List Move) → apply mesh walk move ≡ Some next
    → greatest_darts mesh walk (move ∷ moves) ≡ max (darts walk) (greatest_darts mesh next moves)
unfolding greatest_darts
greatest_darts-more mesh walk next move moves e = rw e refl

pub greatest_darts-first : (mesh : FaceList) (walk : List ℕ) (moves : List Move) → darts walk ≤ greatest_darts mesh walk moves
unfolding greatest_darts
greatest_darts-first mesh walk [] = omega arith
greatest_darts-first mesh walk (move ∷ moves) = omega arith

pub greatest_darts-none : (mesh : FaceList) (walk : List ℕ) → greatest_darts mesh walk [] ≡ darts walk
unfolding greatest_darts
greatest_darts-none mesh walk = refl

pub Leads-more : (mesh : FaceList) (walk next : List ℕ) (move : Move) (moves : List Move) (second : List ℕ)
    → apply mesh walk move ≡ Some next
    → apply_all mesh walk (move ∷ moves) ≡ apply_all mesh next moves
Leads-more mesh walk next move moves second e = rw e refl

pub Leads-none : (mesh : FaceList) (walk : List ℕ) (move : Move) (moves : List Move) (second : List ℕ) → apply mesh walk move ≡ None
    → Leads mesh walk (move ∷ moves) second → ⊥
Leads-none mesh walk move moves second e leads =
    let none : apply_all mesh walk (move ∷ moves) ≡ None = rw e refl in
    cc (none, leads)

pub accepted_leads : (mesh : FaceList) (peak : ℕ) (second : List ℕ) (number : ℕ) (walk : List ℕ) (moves : List Move) → darts walk ≤ peak
    → verdict_from mesh peak second number walk moves ≡ Accepted → Leads mesh walk moves second × (greatest_darts mesh walk moves ≤ peak)
accepted_leads mesh peak second number walk [] le e =
    elim (cases_Bool (same_walk walk second)) [
      | inl t ↦ (ap (λ (w : List ℕ). Some w) (same_walk_means walk second t), omega (arith, le, greatest_darts-none mesh walk))
      | inr f ↦ let ends = verdict_end mesh peak second number walk (λ same. both_ways _ f (same_walk_true walk second same)) in cc
    ]
accepted_leads mesh peak second number walk (move ∷ moves) le e =
    elim (outcome mesh peak walk move) [
      | is_not_allowed fault s g ne ↦ let refused = verdict_refused mesh peak second number walk move moves fault s in cc
      | is_over_peak next s g lt ↦ let refused = verdict_refused mesh peak second number walk move moves OverPeak s in cc
      | is_done next s g fits ↦ let rest = accepted_leads mesh peak second (number + 1) next moves fits
          (sym (verdict_more mesh peak second number walk next move moves s) ∙ e) in (
            Leads-more mesh walk next move moves second g ∙ rest.0,
            omega (arith, le, rest.1, greatest_darts-more mesh walk next move moves g),
          )
    ]

pub leads_accepted : (mesh : FaceList) (peak : ℕ) (second : List ℕ) (number : ℕ) (walk : List ℕ) (moves : List Move)
    → Leads mesh walk moves second → greatest_darts mesh walk moves ≤ peak → verdict_from mesh peak second number walk moves ≡ Accepted
leads_accepted mesh peak second number walk [] leads le = verdict_accepted mesh peak second number walk (cc)
leads_accepted mesh peak second number walk (move ∷ moves) leads le =
    elim (outcome mesh peak walk move) [
      | is_not_allowed fault s g ne ↦ absurd (Leads-none mesh walk move moves second g leads)
      | is_over_peak next s g lt ↦ absurd (omega (
        arith,
        le,
        lt,
        greatest_darts-first mesh next moves,
        greatest_darts-more mesh walk next move moves g,
      ))
      | is_done next s g fits ↦ verdict_more mesh peak second number walk next move moves s
          ∙ leads_accepted mesh peak second (number + 1) next moves (sym (Leads-more mesh walk next move moves second g) ∙ leads)
          (omega (arith, le, greatest_darts-more mesh walk next move moves g))
    ]

accepted_means : (mesh : FaceList) (first second : List ℕ) (list : PeakedMoves) → verdict_of mesh first second list ≡ Accepted
    → Leads mesh first list.moves second × (greatest_darts mesh first list.moves ≤ list.peak)
accepted_means mesh first second list e =
    elim (cases_lt list.peak (darts first)) [
      | inl lt ↦ let over = verdict_over_peak mesh first second list lt in cc
      | inr le ↦ accepted_leads mesh list.peak second 1 first list.moves le (sym (verdict_start mesh first second list le) ∙ e)
    ]

means_accepted : (mesh : FaceList) (first second : List ℕ) (list : PeakedMoves) → Leads mesh first list.moves second
    → greatest_darts mesh first list.moves ≤ list.peak
    → verdict_of mesh first second list ≡ Accepted
means_accepted mesh first second list leads le =
    verdict_start mesh first second list (omega (arith, le, greatest_darts-first mesh first list.moves))
    ∙ leads_accepted mesh list.peak second 1 first list.moves leads le

-- the verdict is that the list is accepted exactly where the moves lead from walk to walk within the peak
pub accepted_exactly : (mesh : FaceList) (first second : List ℕ) (list : PeakedMoves) (verdict : Verdict)
    → verdict ≡ verdict_of mesh first second list
    → (verdict ≡ Accepted) ↔ (Leads mesh first list.moves second × (greatest_darts mesh first list.moves ≤ list.peak))
accepted_exactly mesh first second list verdict e = (
  λ accepted. accepted_means mesh first second list (sym e ∙ accepted),
  λ means. e
      ∙ means_accepted mesh first second list means.0 means.1,
)
