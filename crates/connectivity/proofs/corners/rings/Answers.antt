use Rattle.connectivity.proofs.Common.{AreRings, ◌≡◌, ◌⊎◌, inl, inr, ◌+◌, ℕ, List, refl, ap, sym, ◌∙◌, subst, arith, range_with_len, first_side, IsSide, Side}
use Rattle.surf_model.proofs.SideNumberLemmas.{first_side-more, first_side-all}
use Rattle.connectivity.proofs.RingLemmas.{HasPartner, IsAlone, partner_or_alone, partners_by_number, JoinsSidesUpTo, sides_none, sides_fewer, side_alone, side_passed, side_joined, sides_all}
use Rattle.connectivity.proofs.corners.rings.Goals as goal
use Rattle.connectivity.proofs.corners.rings.Goals.{then-other-dart, else-other-dart}

pub loop-face-init : goal.loop-face-init
loop-face-init c = sides_none c.args.faces.now c.in_ok-corners.corners (c.in_ok-corners.ensures ∙ ap (range_with_len 0) c.total.ensures)

pub loop-at-init : goal.loop-at-init
loop-at-init c =
    let mesh = c.args.faces.now in
    sides_fewer (first_side mesh c.loop-face.face + 0) (omega arith) c.loop-face.invariant

-- the side at hand
abbrev at_hand : ℕ → ℕ → Side
at_hand face at = record { face = record { 0 = face }; at = at }

pub join_across-requires-clause-partners : goal.join_across-requires-clause-partners
join_across-requires-clause-partners c =
    let mesh = c.args.faces.now in
    let side : Side = at_hand c.loop-face.face c.loop-at.at in
    let next : ℕ = c.other-other.result.0 in
    let found : HasPartner mesh side next ⊎ ((next ≡ c.dart-dart.result.0) × IsAlone mesh side) =
    partner_or_alone mesh c.args.sides.now side c.dart-dart.result.0 next c.requires.table c.requires.few
    (record { face = omega arith; place = omega arith })
    c.dart-dart.ensures.number (c.other-other.ensures mesh c.requires.table) in
    elim found [
      | inl partner ↦ partners_by_number mesh side c.side_at.result next partner c.side_at.ensures.side c.side_at.ensures.number
      | inr alone ↦ absurd (omega (arith, alone.0, c.if-other-dart.true))
    ]

pub loop-at-preserved : goal.loop-at-preserved
loop-at-preserved c =
    let mesh = c.args.faces.now in
    let side : Side = at_hand c.loop-face.face c.loop-at.at in
    let n : ℕ = first_side mesh c.loop-face.face + c.loop-at.at in
    let next : ℕ = c.other-other.result.0 in
    let is : IsSide mesh side = record { face = omega arith; place = omega arith } in
    let found : HasPartner mesh side next ⊎ ((next ≡ c.dart-dart.result.0) × IsAlone mesh side) =
    partner_or_alone mesh c.args.sides.now side c.dart-dart.result.0 next c.requires.table c.requires.few is c.dart-dart.ensures.number
    (c.other-other.ensures mesh c.requires.table) in
    let number : c.dart-dart.result.0 ≡ n = c.dart-dart.ensures.number in
    let more : JoinsSidesUpTo mesh c.if-other-dart.corners (n + 1) =
    elim c.if-other-dart.branch [
      | then-other-dart w ↦
          elim found [
            | inl partner ↦
                subst (λ (least : List ℕ). JoinsSidesUpTo mesh least (n + 1)) (sym w.corners-is) (side_joined is refl partner
                w.join_across.ensures
                (partners_by_number mesh side w.side_at.result next partner w.side_at.ensures.side w.side_at.ensures.number)
                c.loop-at.invariant)
            | inr alone ↦ absurd (omega (arith, alone.0, w.if-other-dart.true))
          ]
      | else-other-dart w ↦
          subst (λ (least : List ℕ). JoinsSidesUpTo mesh least (n + 1)) (sym w.corners-is) (elim found [
            | inl partner ↦
                side_passed is refl partner (omega (arith, number, w.if-other-dart.false)) c.loop-at.invariant
            | inr alone ↦ side_alone is refl alone.1 c.loop-at.invariant
          ])
    ] in
    sides_fewer (first_side mesh c.loop-face.face + (c.loop-at.at + 1)) (omega arith) more

pub loop-face-preserved : goal.loop-face-preserved
loop-face-preserved c =
    let mesh = c.args.faces.now in
    sides_fewer (first_side mesh (c.loop-face.face + 1))
    (omega (arith, first_side-more mesh c.loop-face.face, c.sides-at-end.ensures)) c.loop-at.invariant

pub returns-clause-rings : goal.returns-clause-rings
returns-clause-rings c =
    let mesh = c.args.faces.now in
    subst (AreRings mesh) (sym c.into_least.ensures.members) (sides_all
    (omega (arith, first_side-all mesh c.loop-face.face (omega (arith, c.len-face-end.ensures.count)))) c.loop-face.invariant)
