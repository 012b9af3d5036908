-- A ring that was reduced, and taken across all quads beside it if its turns are all -2, is cyclically canonical.
use Rattle.spoke_rings.proofs.Common.{IsLoop, IsFullWheel, IsCyclicallyCanonical, turn_along, cyclic_turn, LoopLeads, SpokeRingView, ring_turn, ring_from_vertex, RingLeads, IsFineRing, TurnsOver, ◌≡◌, ℕ, ◌<◌, ◌≤◌, inl, inr, arith, refl, sym, ◌∙◌, ap, subst, true, List, length, cases_eq, nil_from_length, if◌then◌else◌, minus}
use Rattle.spoke_rings.proofs.Along.{rotated, same-rows}
use Rattle.spoke_rings.proofs.RingTurns.{turn-round}
use Rattle.spoke_rings.proofs.Acting.{acts-on}
use Rattle.spoke_rings.proofs.Fine.{canonical-turns}
use Rattle.spoke_rings.proofs.TurningOver.{at-vertex, twos-canonical}

-- a cyclically canonical ring at the vertex, to which steps lead
pub record Form (places : List ℕ) (start ring : SpokeRingView) : Type 0 where
  pub acts : RingLeads places start ring
  pub at_vertex : ring.at_vertex ≡ true
  pub canonical : IsCyclicallyCanonical places ring.spokes
  pub not_longer : length ring.spokes ≤ length start.spokes

-- where a ring is taken on to the vertex
abbrev pub OnToVertex : SpokeRingView → SpokeRingView → Type 0
OnToVertex old new =
    (new.spokes ≡ (if old.at_vertex then old.spokes else rotated 1 old.spokes)) × (new.at_vertex ≡ true)

module _ (places : List ℕ) (full : IsFullWheel places) where
  vertex-turn : (ring : SpokeRingView) → ring.at_vertex ≡ true → (k : ℕ) → cyclic_turn places ring.spokes k ≡ ring_turn places ring k
  vertex-turn ring v k = ap (λ b. turn_along places b ring.spokes k) (sym v)

  pub form-of : (start reduced now : SpokeRingView) → RingLeads places start reduced → length reduced.spokes ≤ length start.spokes →
      IsFineRing places reduced → OnToVertex reduced now →
      ¬ ((0 < length now.spokes) × ((k : ℕ) → k < length now.spokes → ring_turn places now k ≡ minus (length places) 2)) →
      Form places start now
  form-of start reduced now acts shorter fine on not_all =
      let here = at-vertex places reduced now acts.loop on.0 on.1 in
      let long = here.as_long in
      record {
        not_longer = omega arith;
        acts = acts-on places start reduced now acts here.acts;
        at_vertex = on.1;
        canonical = elim (cases_eq (length now.spokes) 0) [
          | inl none ↦ inl (nil_from_length now.spokes none)
          | inr more ↦
              let some : 0 < length now.spokes = omega arith in
              inr (canonical-turns places full now.spokes here.acts.loop some
              (subst (λ b. IsFineRing places (record { spokes = now.spokes; at_vertex = b })) on.1 (here.fine fine))
              (λ falls. not_all (some, (λ k below. sym (vertex-turn now on.1 k) ∙ falls k))))
        ];
      }

  pub all-turns : (now : SpokeRingView) → IsLoop places now.spokes → 0 < length now.spokes →
      ((k : ℕ) → k < length now.spokes → ring_turn places now k ≡ minus (length places) 2) →
      (k : ℕ) → ring_turn places now k ≡ minus (length places) 2
  all-turns now loop some falls =
      same-rows (ring_turn places now) (λ k. minus (length places) 2) (length now.spokes) some
      (turn-round places now.at_vertex now.spokes loop.even) (λ k. refl) falls

  pub form-over : (start reduced now over last : SpokeRingView) → RingLeads places start reduced
      → length reduced.spokes ≤ length start.spokes →
      OnToVertex reduced now → 0 < length now.spokes →
      TurnsOver places now over → OnToVertex over last → Form places start last
  form-over start reduced now over last acts shorter on some t on_last =
      let here = at-vertex places reduced now acts.loop on.0 on.1 in
      let there = at-vertex places over last t.acts.loop on_last.0 on_last.1 in
      let over_long = t.as_long in
      let now_long = here.as_long in
      record {
        not_longer = omega arith;
        acts = acts-on places start over last
            (acts-on places start now over (acts-on places start reduced now acts here.acts) t.acts) there.acts;
        at_vertex = on_last.1;
        canonical = inr (twos-canonical (length places) (length last.spokes) (cyclic_turn places last.spokes) full.own.five (omega arith)
            (λ k. vertex-turn last on_last.1 k ∙ there.twos (omega arith) t.twos k));
      }

  pub loop-now : (reduced now : SpokeRingView) → IsLoop places reduced.spokes → OnToVertex reduced now → IsLoop places now.spokes
  loop-now reduced now loop on = (at-vertex places reduced now loop on.0 on.1).acts.loop

  -- from the spokes at the start to those of the form
  pub form-leads : (start ring : SpokeRingView) (s t : List ℕ) → start.spokes ≡ s → start.at_vertex ≡ true → t ≡ ring.spokes →
      Form places start ring → LoopLeads places s t
  form-leads start ring s t e v f form =
      subst (λ x. LoopLeads places x t) (go start v ∙ e)
      (subst (λ x. LoopLeads places (ring_from_vertex start) x) (go ring form.at_vertex ∙ sym f) form.acts.leads)
    where
      go : (r : SpokeRingView) → r.at_vertex ≡ true → ring_from_vertex r ≡ r.spokes
      go r v = rw v refl
