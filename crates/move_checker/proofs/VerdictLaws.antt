-- When each verdict comes, in the words of the mesh.
use Rattle.move_checker.proofs.Common.{step_of, verdict_from, verdict_of, LeadsWithin, IsRefusedAt, EndsElsewhere, MoveFault, OverPeak, Peak, AtMove, End, ◌≡◌, ◌≢◌, ℕ, zero, suc, ◌+◌, ◌-◌, ◌<◌, ◌≤◌, List, [], ◌∷◌, take, refl, ap, sym, ◌∙◌, subst, arith, inl, inr, cases_lt, cases_Bool, both_ways, ◌↔◌, Err, slice_get, FaceList, PeakedMoves, apply, same_walk, darts, Move}
use Rattle.std.specs.Prelude.{Some}
use Rattle.move_checker.proofs.Judgement.{verdict_over_peak, verdict_start, verdict_more, verdict_refused, verdict_accepted, verdict_end, greatest_darts-more, greatest_darts-first, greatest_darts-none, Leads-more, Leads-none}
use Rattle.move_checker.proofs.SameWalks.{same_walk_true, same_walk_means}
use Rattle.move_checker.proofs.Steps.{is_not_allowed, is_over_peak, is_done, outcome}

-- the first k moves lead within the peak to a walk at which the next one is refused
record IsRefusedBehind (mesh : FaceList) (peak : ℕ) (walk : List ℕ) (moves : List Move) (k : ℕ) (fault : MoveFault) : Type 0 where
  move : Move
  last : List ℕ
  here : slice_get moves k ≡ Some move
  before : LeadsWithin mesh peak walk (take k moves) last
  refused : step_of mesh peak last move ≡ Err fault

-- one move more in front
more_before : (mesh : FaceList) (peak : ℕ) (walk next last : List ℕ) (move : Move) (moves : List Move) → darts walk ≤ peak
    → apply mesh walk move ≡ Some next
    → LeadsWithin mesh peak next moves last → LeadsWithin mesh peak walk (move ∷ moves) last
more_before mesh peak walk next last move moves le g h = record {
  leads = Leads-more mesh walk next move moves last g ∙ h.leads;
  within = omega (arith, le, h.within, greatest_darts-more mesh walk next move moves g);
}

less_before : (mesh : FaceList) (peak : ℕ) (walk next last : List ℕ) (move : Move) (moves : List Move) → apply mesh walk move ≡ Some next
    → LeadsWithin mesh peak walk (move ∷ moves) last → LeadsWithin mesh peak next moves last
less_before mesh peak walk next last move moves g h = record {
  leads = sym (Leads-more mesh walk next move moves last g) ∙ h.leads;
  within = omega (arith, h.within, greatest_darts-more mesh walk next move moves g);
}

refused_now : (mesh : FaceList) (peak : ℕ) (walk : List ℕ) (move : Move) (moves : List Move) (fault : MoveFault) → darts walk ≤ peak
    → step_of mesh peak walk move ≡ Err fault
    → IsRefusedBehind mesh peak walk (move ∷ moves) 0 fault
refused_now mesh peak walk move moves fault le s = record {
  move = move;
  last = walk;
  here = refl;
  before = record { leads = refl; within = omega (arith, le, greatest_darts-none mesh walk) };
  refused = s;
}

refused_later : (mesh : FaceList) (peak : ℕ) (walk next : List ℕ) (move : Move) (moves : List Move) (k : ℕ) (fault : MoveFault)
    → darts walk ≤ peak → apply mesh walk move ≡ Some next
    → IsRefusedBehind mesh peak next moves k fault → IsRefusedBehind mesh peak walk (move ∷ moves) (suc k) fault
refused_later mesh peak walk next move moves k fault le g h = record {
  move = h.move;
  last = h.last;
  here = h.here;
  before = more_before mesh peak walk next h.last move (take k moves) le g h.before;
  refused = h.refused;
}

-- from the verdict to the words
at_move_means : (mesh : FaceList) (peak : ℕ) (second : List ℕ) (number : ℕ) (walk : List ℕ) (moves : List Move) (n : ℕ)
    (fault : MoveFault) → darts walk ≤ peak
    → verdict_from mesh peak second number walk moves ≡ AtMove n fault → (number ≤ n)
    × IsRefusedBehind mesh peak walk moves (n - number) fault
at_move_means mesh peak second number walk [] n fault le e =
    elim (cases_Bool (same_walk walk second)) [
      | inl t ↦ let accepted = verdict_accepted mesh peak second number walk (same_walk_means walk second t) in cc
      | inr f ↦ let ends = verdict_end mesh peak second number walk (λ same. both_ways _ f (same_walk_true walk second same)) in cc
    ]
at_move_means mesh peak second number walk (move ∷ moves) n fault le e =
    elim (outcome mesh peak walk move) [
      | is_not_allowed f s g ne ↦ refused_first mesh peak second number walk move moves n fault f le s
          (sym (verdict_refused mesh peak second number walk move moves f s) ∙ e)
      | is_over_peak next s g lt ↦ refused_first mesh peak second number walk move moves n fault OverPeak le s
          (sym (verdict_refused mesh peak second number walk move moves OverPeak s) ∙ e)
      | is_done next s g fits ↦
          (let rest = at_move_means mesh peak second (number + 1) next moves n fault fits
          (sym (verdict_more mesh peak second number walk next move moves s) ∙ e) in
          let at : suc (n - (number + 1)) ≡ n - number = omega (arith, rest.0) in (
            omega (arith, rest.0),
            subst (λ k. IsRefusedBehind mesh peak walk (move ∷ moves) k fault) at
                (refused_later mesh peak walk next move moves (n - (number + 1)) fault le g rest.1),
          ))
    ]
  where
    refused_first : (mesh : FaceList) (peak : ℕ) (second : List ℕ) (number : ℕ) (walk : List ℕ) (move : Move) (moves : List Move)
        (n : ℕ) (fault f : MoveFault) → darts walk ≤ peak
        → step_of mesh peak walk move ≡ Err f → AtMove number f ≡ AtMove n fault → (number ≤ n)
        × IsRefusedBehind mesh peak walk (move ∷ moves) (n - number) fault
    refused_first mesh peak second number walk move moves n fault f le s e =
        let same : number ≡ n = cc in
        let fault_is : f ≡ fault = cc in
        let at : 0 ≡ n - number = omega (arith, same) in (
          omega (arith, same),
          subst (λ k. IsRefusedBehind mesh peak walk (move ∷ moves) k fault) at
              (refused_now mesh peak walk move moves fault le (s ∙ ap (λ x. Err x) fault_is)),
        )

-- and back
means_at_move : (mesh : FaceList) (peak : ℕ) (second : List ℕ) (number : ℕ) (walk : List ℕ) (moves : List Move) (k : ℕ) (fault : MoveFault)
    → IsRefusedBehind mesh peak walk moves k fault → verdict_from mesh peak second number walk moves ≡ AtMove (number + k) fault
means_at_move mesh peak second number walk [] k fault h = let none = h.here in cc
means_at_move mesh peak second number walk (move ∷ moves) zero fault h =
    let at : number + 0 ≡ number = omega arith in
    let is_move : move ≡ h.move = (let e = h.here in cc) in
    let is_walk : walk ≡ h.last = (let e = h.before.leads in cc) in
    let s : step_of mesh peak walk move ≡ Err fault = ap (λ w. step_of mesh peak w move) is_walk ∙ ap (step_of mesh peak h.last) is_move
    ∙ h.refused in
    rw at (verdict_refused mesh peak second number walk move moves fault s)
means_at_move mesh peak second number walk (move ∷ moves) (suc k) fault h =
    elim (outcome mesh peak walk move) [
      | is_not_allowed f s g ne ↦ absurd (Leads-none mesh walk move (take k moves) h.last g h.before.leads)
      | is_over_peak next s g lt ↦ absurd (omega (
        arith,
        h.before.within,
        lt,
        greatest_darts-first mesh next (take k moves),
        greatest_darts-more mesh walk next move (take k moves) g,
      ))
      | is_done next s g fits ↦
          (let at : number + 1 + k ≡ number + suc k = omega arith in
          let rest : IsRefusedBehind mesh peak next moves k fault = record {
            move = h.move;
            last = h.last;
            here = h.here;
            before = less_before mesh peak walk next h.last move (take k moves) g h.before;
            refused = h.refused;
          } in
          verdict_more mesh peak second number walk next move moves s
          ∙ means_at_move mesh peak second (number + 1) next moves k fault rest ∙ ap (λ n. AtMove n fault) at)
    ]

pub peak_exactly : (mesh : FaceList) (first second : List ℕ) (list : PeakedMoves) → (verdict_of mesh first second list ≡ Peak)
    ↔ (list.peak < darts first)
peak_exactly mesh first second list = (
  λ e. elim (cases_lt list.peak (darts first)) [
    | inl lt ↦ lt
    | inr le ↦ absurd (no_peak mesh list.peak second 1 first list.moves (sym (verdict_start mesh first second list le) ∙ e))
  ],
  λ lt. verdict_over_peak mesh first second list lt,
)
  where
    no_peak : (mesh : FaceList) (peak : ℕ) (second : List ℕ) (number : ℕ) (walk : List ℕ) (moves : List Move)
        → verdict_from mesh peak second number walk moves ≡ Peak → ⊥
    no_peak mesh peak second number walk [] e =
        elim (cases_Bool (same_walk walk second)) [
          | inl t ↦ let accepted = verdict_accepted mesh peak second number walk (same_walk_means walk second t) in cc
          | inr f ↦ let ends = verdict_end mesh peak second number walk (λ same. both_ways _ f (same_walk_true walk second same)) in cc
        ]
    no_peak mesh peak second number walk (move ∷ moves) e =
        elim (outcome mesh peak walk move) [
          | is_not_allowed fault s g ne ↦ let refused = verdict_refused mesh peak second number walk move moves fault s in cc
          | is_over_peak next s g lt ↦ let refused = verdict_refused mesh peak second number walk move moves OverPeak s in cc
          | is_done next s g fits ↦ no_peak mesh peak second (number + 1) next moves
              (sym (verdict_more mesh peak second number walk next move moves s) ∙ e)
        ]

pub at_move_exactly : (mesh : FaceList) (first second : List ℕ) (list : PeakedMoves) (number : ℕ) (fault : MoveFault)
    → (verdict_of mesh first second list ≡ AtMove number fault) ↔ IsRefusedAt mesh first list number fault
at_move_exactly mesh first second list number fault = (
  λ e. elim (cases_lt list.peak (darts first)) [
    | inl lt ↦ let over = verdict_over_peak mesh first second list lt in cc
    | inr le ↦
        (let means = at_move_means mesh list.peak second 1 first list.moves number fault le
        (sym (verdict_start mesh first second list le) ∙ e) in
        record {
          move = means.1.move;
          walk = means.1.last;
          counted = omega (arith, means.0);
          here = means.1.here;
          before =
              means.1.before;
          refused = means.1.refused;
        })
  ],
  λ h.
      let le : darts first ≤ list.peak = omega (arith, h.before.within, greatest_darts-first mesh first (take (number - 1) list.moves)) in
      let behind : IsRefusedBehind mesh list.peak first list.moves (number - 1) fault =
      record { move = h.move; last = h.walk; here = h.here; before = h.before; refused = h.refused } in
      let at : 1 + (number - 1) ≡ number = omega (arith, h.counted) in
      verdict_start mesh first second list le ∙ means_at_move mesh list.peak second 1 first list.moves (number - 1) fault behind
      ∙ ap (λ n. AtMove n fault) at,
)

-- the end of the moves is another walk
record EndsOff (mesh : FaceList) (peak : ℕ) (second walk : List ℕ) (moves : List Move) : Type 0 where
  last : List ℕ
  before : LeadsWithin mesh peak walk moves last
  other : last ≢ second

end_means : (mesh : FaceList) (peak : ℕ) (second : List ℕ) (number : ℕ) (walk : List ℕ) (moves : List Move) → darts walk ≤ peak
    → verdict_from mesh peak second number walk moves ≡ End → EndsOff mesh peak second walk moves
end_means mesh peak second number walk [] le e = record {
  last = walk;
  before = record { leads = refl; within = omega (arith, le, greatest_darts-none mesh walk) };
  other = λ same. let accepted = verdict_accepted mesh peak second number walk same in cc;
}
end_means mesh peak second number walk (move ∷ moves) le e =
    elim (outcome mesh peak walk move) [
      | is_not_allowed fault s g ne ↦ let refused = verdict_refused mesh peak second number walk move moves fault s in cc
      | is_over_peak next s g lt ↦ let refused = verdict_refused mesh peak second number walk move moves OverPeak s in cc
      | is_done next s g fits ↦
          (let rest = end_means mesh peak second (number + 1) next moves fits
          (sym (verdict_more mesh peak second number walk next move moves s) ∙ e) in
          record { last = rest.last; before = more_before mesh peak walk next rest.last move moves le g rest.before; other = rest.other })
    ]

means_end : (mesh : FaceList) (peak : ℕ) (second : List ℕ) (number : ℕ) (walk : List ℕ) (moves : List Move)
    → EndsOff mesh peak second walk moves
    → verdict_from mesh peak second number walk moves ≡ End
means_end mesh peak second number walk [] h = verdict_end mesh peak second number walk (λ same. h.other (let e = h.before.leads in cc))
means_end mesh peak second number walk (move ∷ moves) h =
    elim (outcome mesh peak walk move) [
      | is_not_allowed fault s g ne ↦ absurd (Leads-none mesh walk move moves h.last g h.before.leads)
      | is_over_peak next s g lt ↦ absurd (omega (
        arith,
        h.before.within,
        lt,
        greatest_darts-first mesh next moves,
        greatest_darts-more mesh walk next move moves g,
      ))
      | is_done next s g fits ↦ verdict_more mesh peak second number walk next move moves s
          ∙ means_end mesh peak second (number + 1) next moves
          (record { last = h.last; before = less_before mesh peak walk next h.last move moves g h.before; other = h.other })
    ]

pub end_exactly : (mesh : FaceList) (first second : List ℕ) (list : PeakedMoves) → (verdict_of mesh first second list ≡ End)
    ↔ EndsElsewhere mesh first second list
end_exactly mesh first second list = (
  λ e. elim (cases_lt list.peak (darts first)) [
    | inl lt ↦ let over = verdict_over_peak mesh first second list lt in cc
    | inr le ↦
        (let means = end_means mesh list.peak second 1 first list.moves le (sym (verdict_start mesh first second list le) ∙ e) in
        record { walk = means.last; before = means.before; other = means.other })
  ],
  λ h.
      let le : darts first ≤ list.peak = omega (arith, h.before.within, greatest_darts-first mesh first list.moves) in
      verdict_start mesh first second list le ∙ means_end mesh list.peak second 1 first list.moves
      (record { last = h.walk; before = h.before; other = h.other }),
)
