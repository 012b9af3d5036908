-- Each denial has a verdict, and one.
use Rattle.verify_commands.proofs.Common.{first_failing, one_made, IsSound, sound-pass, Pass, Certificate, Moves, Denial, IsDenialVerdict, HasShape, HasDegree, HasPlaces, IsGood, LabellingView, DenialVerdict, ◌≡◌, ◌⊎◌, inl, inr, ℕ, zero, suc, ◌<◌, List, length, refl, arith, Option, slice_index, Files, Edge, edge_in, FaceList, IsFaceList, judgement, denial_answer}
use Rattle.labellings.proofs.EdgeRuleLemmas.{each-edge, least-against}
use Rattle.labellings.proofs.VerdictLemmas.{one_verdict}
use Rattle.labellings.specs.TableRules.{EntryMeetsRule}
use Rattle.labellings.specs.declared.fault.LabelFault.TheVariants.{Shape, Degree, PlaceTwice, EdgeRule}
use Rattle.labellings.specs.declared.verdict.DenialVerdict.TheVariants.{Label, WordWrong, Equal, Accepted}
use Rattle.surf_model.proofs.EdgeTables.{some_table}
use Rattle.turn_words.specs.Wheels.{StandsTwice, IsFirstTwice}
use Rattle.labellings.specs.declared.denial.Denial as denials

-- where no place is the first that stands twice, none stands twice
none_twice : (places : List ℕ) → ((p : ℕ) → IsFirstTwice places p → ⊥) → (n p : ℕ) → p < n → StandsTwice places p → ⊥
none_twice places none zero p l twice = absurd (omega arith)
none_twice places none (suc n) p l twice =
    none p (record { twice = twice; first = λ lower below more. none_twice places none n lower (omega arith) more })

three_ways : (p q : ℕ) → ((p < q) ⊎ (q < p)) ⊎ (p ≡ q)
three_ways p q = grind arith

each_once : (labelling : LabellingView) → length labelling.places ≡ labelling.degree → ((p : ℕ) → IsFirstTwice labelling.places p → ⊥)
    → HasPlaces labelling
each_once labelling each none i j below other same = elim (three_ways i j) [
  | inl (inl less) ↦ absurd (never (slice_index labelling.places j)
      (record { one = i; other = j; apart = less; below = omega (arith, other, each); one_place = same; other_place = refl }))
  | inl (inr more) ↦ absurd (never (slice_index labelling.places j)
      (record { one = j; other = i; apart = more; below = omega (arith, below, each); one_place = refl; other_place = same }))
  | inr equal ↦ equal
]
  where
    never : (p : ℕ) → StandsTwice labelling.places p → ⊥
    never p twice = none_twice labelling.places none (suc p) p (omega arith) twice

-- some verdict is the first that holds
pub some_verdict : (mesh : FaceList) (first second : List ℕ) (denial : denials.Denial) → IsFaceList mesh
    → ((verdict : DenialVerdict) → IsDenialVerdict mesh first second denial verdict → ⊥) → ⊥
some_verdict mesh first second denial valid none =
    none (Label Shape) (λ shape. none (Label (Degree denial.labelling.degree)) (shape, (λ degree. with_degree shape degree), refl))
  where
    with_good : IsGood mesh denial.labelling → ⊥
    with_good good =
        none (WordWrong 1) (
          good,
          inl (
            refl,
            λ right. none (WordWrong 2) (
              good,
              inr (
                refl,
                right,
                λ too. none Accepted (record {
                  good = good;
                  first_word = right;
                  second_word = too;
                  differ =
                      λ same. none Equal (good, right, too, same);
                }),
              ),
            ),
          ),
        )

    with_degree : HasShape mesh denial.labelling → HasDegree denial.labelling → ⊥
    with_degree shape degree =
        let found = some_table mesh valid in
        let table : List Edge = found.0 in
        let places : HasPlaces denial.labelling =
        each_once denial.labelling shape.each_spoke (λ p twice. none (Label (PlaceTwice p)) (shape, degree, twice)) in
        first_failing (length table) (EntryMeetsRule mesh table denial.labelling)
        (λ k below against before.
        none (Label (EdgeRule (record { 0 = (edge_in table k).low }) (record { 0 = (edge_in table k).high }))) (
          shape,
          degree,
          places,
          least-against mesh table denial.labelling k found.1
              (record { in_table = below; against = against; first = before }),
        ))
        (λ all. with_good (record {
          shape = shape;
          degree = degree;
          places = places;
          edges =
              each-edge mesh table denial.labelling found.1 all;
        }))

pub sound-judgement : (held : Option Files) (mesh : FaceList) (first second : List ℕ) (shown : Certificate) → IsFaceList mesh
    → IsSound held (judgement mesh first second shown)
sound-judgement held mesh first second (Moves list) valid = sound-pass held _
sound-judgement held mesh first second (Denial denial) valid =
    record {
      some = λ none. some_verdict mesh first second denial valid (λ verdict is. none (Pass (denial_answer verdict)) (verdict, refl, is));
      one = λ _ a b p q.
          one_made (judgement mesh first second (Denial denial)) denial_answer (IsDenialVerdict mesh first second denial) (λ _ h. h)
          (λ _ h. h)
          (one_verdict mesh first second denial) a b p q;
    }
