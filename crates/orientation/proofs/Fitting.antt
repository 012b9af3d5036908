-- Two sides of one edge run oppositely under signs exactly where the signs of their faces fit.
use Rattle.orientation.proofs.Common.{EachEdgeHasAtMostTwoSides, IsAlong, differ, runs_alike, Fit, ◌≡◌, ◌≢◌, ◌⊎◌, inl, inr, ℕ, Bool, true, false, eqb, List, [], ◌∷◌, map, ap, sym, ◌∙◌, arith, and-true, nat_tests, if◌then◌else◌, ends_differ, tail_of, head_of, FaceList, FaceSide, IsFaceList, joins, LeadsTo, run_alike, is_turned, ArePartners, RunOppositely, is_flipped, ChainLink, Side}
use Rattle.orientation.proofs.Partners.{entry_of, are_all}

fit_from : (t h u k : ℕ) (f g : Bool) → ((t ≡ u) × (h ≡ k)) ⊎ ((t ≡ k) × (h ≡ u)) → t ≢ h
    → ((if f then h else t) ≡ (if g then u else k)) × ((if f then t else h) ≡ (if g then k else u)) → differ f g ≡ eqb t u
fit_from t h u k true true e n o = grind (arith, nat_tests)
fit_from t h u k true false e n o = grind (arith, nat_tests)
fit_from t h u k false true e n o = grind (arith, nat_tests)
fit_from t h u k false false e n o = grind (arith, nat_tests)

fit_to : (t h u k : ℕ) (f g : Bool) → ((t ≡ u) × (h ≡ k)) ⊎ ((t ≡ k) × (h ≡ u)) → t ≢ h
    → differ f g ≡ eqb t u → ((if f then h else t) ≡ (if g then u else k)) × ((if f then t else h) ≡ (if g then k else u))
fit_to t h u k true true e n o = grind (arith, nat_tests)
fit_to t h u k true false e n o = grind (arith, nat_tests)
fit_to t h u k false true e n o = grind (arith, nat_tests)
fit_to t h u k false false e n o = grind (arith, nat_tests)

pub fit_if_opposite : {mesh : FaceList} {signs : List Bool} {side other : Side} → IsFaceList mesh → ArePartners mesh side other
    → RunOppositely mesh signs side other → Fit mesh signs side other
fit_if_opposite {mesh} {signs} {side} {other} is h run =
    fit_from (tail_of mesh side) (head_of mesh side) (tail_of mesh other) (head_of mesh other) (is_flipped signs side.face.0)
    (is_flipped signs other.face.0) h.one_edge (ends_differ mesh side is h.first) (run.starts, run.ends)

pub opposite_if_fit : {mesh : FaceList} (signs : List Bool) {side other : Side} → IsFaceList mesh → ArePartners mesh side other
    → Fit mesh signs side other → RunOppositely mesh signs side other
opposite_if_fit {mesh} signs {side} {other} is h fit =
    let run = fit_to (tail_of mesh side) (head_of mesh side) (tail_of mesh other) (head_of mesh other) (is_flipped signs side.face.0)
    (is_flipped signs other.face.0) h.one_edge (ends_differ mesh side is h.first) fit in
    record { starts = run.0; ends = run.1 }

joined_along : {mesh : FaceList} {side : Side} {low high : ℕ} → IsAlong mesh side low high → joins low high (entry_of mesh side) ≡ true
joined_along h = grind (arith, nat_tests)

pub eqb_swap : (m n : ℕ) → eqb m n ≡ eqb n m
eqb_swap m n = grind (arith, nat_tests)

pub link_leads : {mesh : FaceList} {side other : Side} (link : ChainLink) → EachEdgeHasAtMostTwoSides mesh → ArePartners mesh side other
    → IsAlong mesh side link.low.0 link.high.0 → link.face.0 ≡ side.face.0 → LeadsTo mesh link other.face.0
link_leads {other} link few h along face = record {
  ordered = along.ordered;
  faces = elim (are_all link.low.0 link.high.0 few h (joined_along along)) [
    | inl a ↦ inl (ap (map (λ (s : FaceSide). s.face)) a ∙ ap (λ f. f ∷ other.face.0 ∷ []) (sym face))
    | inr a ↦ inr (ap (map (λ (s : FaceSide). s.face)) a ∙ ap (λ f. other.face.0 ∷ f ∷ []) (sym face))
  ];
}

pub link_leads_back : {mesh : FaceList} {side other : Side} (link : ChainLink) → EachEdgeHasAtMostTwoSides mesh
    → ArePartners mesh side other
    → IsAlong mesh side link.low.0 link.high.0 → link.face.0 ≡ other.face.0 → LeadsTo mesh link side.face.0
link_leads_back {side} link few h along face = record {
  ordered = along.ordered;
  faces = elim (are_all link.low.0 link.high.0 few h (joined_along along)) [
    | inl a ↦ inr (ap (map (λ (s : FaceSide). s.face)) a ∙ ap (λ f. side.face.0 ∷ f ∷ []) (sym face))
    | inr a ↦ inl (ap (map (λ (s : FaceSide). s.face)) a ∙ ap (λ f. f ∷ side.face.0 ∷ []) (sym face))
  ];
}

pub link_turned : {mesh : FaceList} {side other : Side} (link : ChainLink) → EachEdgeHasAtMostTwoSides mesh → ArePartners mesh side other
    → IsAlong mesh side link.low.0 link.high.0 → is_turned mesh link ≡ runs_alike mesh side other
link_turned link few h along =
    elim (are_all link.low.0 link.high.0 few h (joined_along along)) [
      | inl a ↦ ap run_alike a ∙ and-true _ ∙ eqb_swap _ _
      | inr a ↦ ap run_alike a ∙ and-true _
    ]
