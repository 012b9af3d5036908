-- What the definitions give.
use Rattle.std.specs.Prelude.{◌≡◌, ℕ, List, [], ◌∷◌, refl}
use Rattle.spoke_rings.specs.CyclicWords.{IsLoop}
use Rattle.joined_loops.specs.JoinedLists.{JoinedBy, repeated}

pub twice_round : repeated (3 ∷ 4 ∷ []) 2 ≡ 3 ∷ 4 ∷ 3 ∷ 4 ∷ []
twice_round = refl

pub no_round : repeated (3 ∷ 4 ∷ []) 0 ≡ []
no_round = refl

-- spokes that go from the front to the end join the two lists
pub the_front_joins : (places : List ℕ) (i j k l : ℕ) → IsLoop places (i ∷ j ∷ []) →
    JoinedBy places (i ∷ j ∷ k ∷ l ∷ []) (k ∷ l ∷ i ∷ j ∷ []) (i ∷ j ∷ [])
the_front_joins places i j k l loop = record { loop = loop; same = λ state belongs even. refl }
