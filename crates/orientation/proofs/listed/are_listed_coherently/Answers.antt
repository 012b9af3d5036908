use Rattle.orientation.proofs.Common.{runs_alike, ◌≡◌, ◌≢◌, inl, inr, ◌+◌, ℕ, refl, ap, sym, ◌∙◌, arith, both_ways, cases_eq, first_side-more, first_side-all, first_side, IsSide, ArePartners, Side}
use Rattle.orientation.proofs.AcrossLemmas.{IsOther, has_other, alone}
use Rattle.orientation.proofs.ListedLemmas.{fit_fewer, fit_passed, other_partner, only_partner, partner_number, fit_all}
use Rattle.orientation.proofs.listed.are_listed_coherently.Goals as goal
use Rattle.orientation.proofs.listed.are_listed_coherently.Goals.{else-other-dart-via-then-other-dart+else-run_alike, else-other-dart-via-else-other-dart}

-- the side at hand
abbrev at_hand : ℕ → ℕ → Side
at_hand face at = record { face = record { 0 = face }; at = at }

pub returns-then-run_alike-clause-torn : goal.returns-then-run_alike-clause-torn
returns-then-run_alike-clause-torn c is listed =
    let mesh = c.args.faces.now in
    let side : Side = at_hand c.loop-face.face c.loop-at.at in
    let o : IsOther mesh side c.other-other.result.0 = has_other c.requires.table c.requires.two
    (record { face = omega arith; place = omega arith }) c.dart-dart.ensures.number (c.other-other.ensures mesh c.requires.table)
    (λ same. omega (arith, c.if-other-dart.true, same)) in
    let partners : ArePartners mesh side c.side_at.result =
    other_partner c.requires.two o c.side_at.ensures.side c.side_at.ensures.number in
    both_ways (runs_alike mesh side c.side_at.result) (listed side c.side_at.result partners)
    (sym c.run_alike.ensures ∙ c.if-run_alike.true)

pub loop-at-preserved : goal.loop-at-preserved
loop-at-preserved c =
    let mesh = c.args.faces.now in
    let side : Side = at_hand c.loop-face.face c.loop-at.at in
    let n : ℕ = first_side mesh c.loop-face.face + c.loop-at.at in
    let next : ℕ = c.other-other.result.0 in
    let is : IsSide mesh side = record { face = omega arith; place = omega arith } in
    let number : c.dart-dart.result.0 ≡ n = c.dart-dart.ensures.number in
    let other : next ≢ c.dart-dart.result.0 → IsOther mesh side next = λ apart.
    has_other c.requires.table c.requires.two is c.dart-dart.ensures.number (c.other-other.ensures mesh c.requires.table) apart in
    fit_fewer mesh (first_side mesh c.loop-face.face + (c.loop-at.at + 1)) (n + 1) (omega arith)
    (fit_passed n next refl is c.loop-at.invariant (λ partner partners before. elim c.else-other-dart.branch [
      | else-other-dart-via-then-other-dart+else-run_alike w ↦
          (let o : IsOther mesh side next = other (λ same. omega (arith, w.if-other-dart.true, same)) in
          let one : w.side_at.result ≡ partner = only_partner c.requires.two o w.side_at.ensures.side w.side_at.ensures.number partners in
          ap (runs_alike mesh side) (sym one) ∙ sym w.run_alike.ensures ∙ w.if-run_alike.false)
      | else-other-dart-via-else-other-dart w ↦
          (elim (cases_eq next c.dart-dart.result.0) [
            | inl same ↦ absurd (alone c.requires.table c.requires.two is c.dart-dart.ensures.number
                (c.other-other.ensures mesh c.requires.table) same partner partners)
            | inr apart ↦ absurd (omega (
              arith,
              w.if-other-dart.false,
              before,
              number,
              partner_number c.requires.two (other apart) partners,
            ))
          ])
    ]))

pub loop-face-preserved : goal.loop-face-preserved
loop-face-preserved c =
    let mesh = c.args.faces.now in
    fit_fewer mesh (first_side mesh (c.loop-face.face + 1)) (first_side mesh c.loop-face.face + c.loop-at.at)
    (omega (arith, first_side-more mesh c.loop-face.face, c.sides-at-end.ensures, c.loop-at-test.false)) c.loop-at.invariant

pub returns-clause-coherent : goal.returns-clause-coherent
returns-clause-coherent c is =
    let mesh = c.args.faces.now in
    fit_all mesh (first_side mesh c.loop-face.face)
    (omega (arith, first_side-all mesh c.loop-face.face (omega (arith, c.len-face-end.ensures.count, c.loop-face-test.false))))
    c.loop-face.invariant
