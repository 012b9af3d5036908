-- Pairs of spokes lead from the vertex by the sum of their steps.
use Rattle.std.proofs.Common.{◌≡◌, ℕ, arith, refl, ◌∙◌, ap, ap₂, List, [], ◌∷◌, ℤ}
use Rattle.std.proofs.lemmas.Int.{ints}
use Rattle.turn_words.specs.FormLaws.{led}
use Rattle.flat_forms.specs.Vectors.{Vector, origin, plus, less, unit_step}
use Rattle.flat_forms.specs.FlatStates.{IsEvenPoint, flat_next}
use Rattle.flat_forms.specs.Pairs.{spokes_of, sum_of_pairs}
use Rattle.flat_forms.specs.Lemmas.StepsInThePlane.{next-next, vertex-again}

abbrev vector : ℤ → ℤ → Vector
vector x y = record { x = x; y = y }

-- a pair, and then a sum
plus-pair : (s a b t : Vector) → plus (less (plus s a) b) t ≡ plus s (plus (less a b) t)
plus-pair s a b t = ap₂ vector (omega (arith, ints)) (omega (arith, ints))

plus-origin : (s : Vector) → s ≡ plus s origin
plus-origin s = ap₂ vector (omega (arith, ints)) (omega (arith, ints))

origin-plus : (s : Vector) → plus origin s ≡ s
origin-plus s = ap₂ vector (omega (arith, ints)) (omega (arith, ints))

pub leads-by : (places : List ℕ) (s : Vector) (pairs : List (ℕ × ℕ)) → IsEvenPoint s
    → led flat_next places s (spokes_of pairs) ≡ plus s (sum_of_pairs pairs)
leads-by places s [] even = plus-origin s
leads-by places s (pair ∷ pairs) even =
    let there = less (plus s (unit_step pair.0)) (unit_step pair.1) in
    ap (λ z. led flat_next places z (spokes_of pairs)) (next-next places s pair.0 pair.1 even)
    ∙ leads-by places there pairs (vertex-again s pair.0 pair.1 even)
    ∙ plus-pair s (unit_step pair.0) (unit_step pair.1) (sum_of_pairs pairs)

pub leads-to-sum : (places : List ℕ) (pairs : List (ℕ × ℕ)) → led flat_next places origin (spokes_of pairs) ≡ sum_of_pairs pairs
leads-to-sum places pairs = leads-by places origin pairs refl ∙ origin-plus (sum_of_pairs pairs)
