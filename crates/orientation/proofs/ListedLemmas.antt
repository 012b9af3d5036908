-- Faces that are listed coherently as they stand, looked through side by side.
use Rattle.orientation.proofs.Common.{partners_swap, number_once, EachEdgeHasAtMostTwoSides, differ, runs_alike, AreListedCoherently, ◌≡◌, inl, inr, ℕ, zero, suc, ◌+◌, ◌<◌, ◌≤◌, Bool, false, List, length, refl, ap, sym, ◌∙◌, subst, arith, cases_lt, cases_eq, length-replicate, replicate, side_below, IsSide, side_number, FaceList, IsFaceList, total_sides, ArePartners, IsCoherent, is_flipped, Side}
use Rattle.orientation.proofs.AcrossLemmas.{IsOther}
use Rattle.orientation.proofs.Fitting.{eqb_swap, opposite_if_fit}
use Rattle.orientation.proofs.Partners.{one_partner}

-- no side with a number below n runs like a partner that comes before it
abbrev pub FitUpTo : FaceList → ℕ → Type 0
FitUpTo mesh n =
    (side other : Side) → ArePartners mesh side other → side_number mesh side < n → side_number mesh other < side_number mesh side
    → runs_alike mesh side other ≡ false

pub fit_fewer : (mesh : FaceList) (m n : ℕ) → m ≤ n → FitUpTo mesh n → FitUpTo mesh m
fit_fewer mesh m n few h side other partners l before = h side other partners (omega (arith, l, few)) before

-- one side more, whose partner comes later or runs oppositely
pub fit_passed : {mesh : FaceList} {side : Side} (n next : ℕ) → side_number mesh side ≡ n → IsSide mesh side → FitUpTo mesh n
    → ((other : Side) → ArePartners mesh side other → side_number mesh other < n → runs_alike mesh side other ≡ false)
    → FitUpTo mesh (n + 1)
fit_passed {mesh} {side} n next number is h here one other partners l before =
    elim (cases_lt (side_number mesh one) n) [
      | inl less ↦ h one other partners less before
      | inr last ↦
          (let at : side_number mesh one ≡ n = omega (arith, l, last) in
          let same : side ≡ one = number_once mesh side one is partners.first (number ∙ sym at) in
          subst (λ s. runs_alike mesh s other ≡ false) same
          (here other (subst (λ s. ArePartners mesh s other) (sym same) partners) (omega (arith, at, before))))
    ]

-- the partner that is looked up is the only one
pub other_partner : {mesh : FaceList} {side other : Side} {next : ℕ} → EachEdgeHasAtMostTwoSides mesh → IsOther mesh side next
    → IsSide mesh other → side_number mesh other ≡ next → ArePartners mesh side other
other_partner {mesh} {side} {other} two o is number =
    subst (ArePartners mesh side) (number_once mesh o.other other o.partners.second is (o.number ∙ sym number)) o.partners

pub only_partner : {mesh : FaceList} {side other partner : Side} {next : ℕ} → EachEdgeHasAtMostTwoSides mesh → IsOther mesh side next
    → IsSide mesh other → side_number mesh other ≡ next → ArePartners mesh side partner → other ≡ partner
only_partner {mesh} {side} {other} {partner} two o is number partners =
    sym (one_partner mesh side other partner two (other_partner two o is number) partners)

pub partner_number : {mesh : FaceList} {side partner : Side} {next : ℕ} → EachEdgeHasAtMostTwoSides mesh → IsOther mesh side next
    → ArePartners mesh side partner → side_number mesh partner ≡ next
partner_number {mesh} {side} {partner} two o partners =
    ap (side_number mesh) (one_partner mesh side o.other partner two o.partners partners) ∙ o.number

pub fit_all : (mesh : FaceList) (n : ℕ) → total_sides mesh ≤ n → FitUpTo mesh n → AreListedCoherently mesh
fit_all mesh n all h side other partners =
    let below : (s : Side) → IsSide mesh s → side_number mesh s < n =
    λ s is. omega (arith, all, side_below mesh s.face.0 s.at is.face is.place) in
    elim (cases_lt (side_number mesh other) (side_number mesh side)) [
      | inl before ↦ h side other partners (below side partners.first) before
      | inr behind ↦ elim (cases_eq (side_number mesh side) (side_number mesh other)) [
        | inl same ↦ absurd (partners.different (number_once mesh side other partners.first partners.second same))
        | inr apart ↦ eqb_swap _ _ ∙ h other side (partners_swap mesh side other partners) (below other partners.second)
            (omega (arith, behind, apart))
      ]
    ]

-- then all faces can be kept
kept : (n f : ℕ) → is_flipped (replicate n false) f ≡ false
kept zero f = refl
kept (suc n) zero = refl
kept (suc n) (suc f) = kept n f

pub kept_coherent : {mesh : FaceList} (signs : List Bool) → IsFaceList mesh → signs ≡ replicate (length mesh.faces) false
    → AreListedCoherently mesh
    → IsCoherent mesh signs
kept_coherent {mesh} signs is all listed = record {
  each_face = ap (λ (ss : List Bool). length ss) all ∙ length-replicate (length mesh.faces) false;
  opposite = λ side other partners. opposite_if_fit signs is partners
      (ap (λ b. differ b (is_flipped signs other.face.0)) (kept_is side.face.0) ∙ kept_is other.face.0 ∙ sym (listed side other partners));
}
  where
    kept_is : (f : ℕ) → is_flipped signs f ≡ false
    kept_is f = ap (λ ss. is_flipped ss f) all ∙ kept (length mesh.faces) f
