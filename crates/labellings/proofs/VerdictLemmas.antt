-- The word of a walk is one, and what a denial that holds excludes.
use Rattle.labellings.proofs.Common.{FirstIsRight, SecondIsRight, IsFirstWrong, IsDenialVerdict, IsGood, HasPlaces, IsFirstLabelFault, IsLeastAgainstRules, LabellingView, IsWordOf, Denial, LabelFault, Shape, Degree, PlaceTwice, EdgeRule, OutOfMemory, DenialVerdict, Label, WordWrong, Equal, Accepted, ◌≡◌, ◌⊎◌, inl, inr, ℕ, ◌<◌, Bool, List, length, refl, sym, ap, ◌∙◌, arith, ◌↔◌, IsTrue, IsPairBefore, FaceList, IsFaceList, IsWalk, IsFirstTwice, Word}
use Rattle.labellings.proofs.WalkWordLemmas.{one_word_of_homotopic}

-- a walk has one word
pub one_word : (mesh : FaceList) (labelling : LabellingView) (walk : List ℕ) (one other : Word) → IsFaceList mesh
    → IsGood mesh labelling → IsWalk mesh walk
    → IsWordOf mesh labelling walk one → IsWordOf mesh labelling walk other → one ≡ other
one_word mesh labelling walk one other valid good is_walk f g = grind (arith, one_word_of_homotopic)

pub is_word : (mesh : FaceList) (labelling : LabellingView) (walk : List ℕ) (own word : Word) (same : Bool) → IsFaceList mesh
    → IsGood mesh labelling → IsWalk mesh walk
    → IsWordOf mesh labelling walk own → IsTrue same ↔ (own ≡ word)
    → IsTrue same ↔ IsWordOf mesh labelling walk word
is_word mesh labelling walk own word same valid good is_walk is tests = grind (arith, one_word)

-- ---- there is one verdict

three_ways : (p q : ℕ) → ((p < q) ⊎ (q < p)) ⊎ (p ≡ q)
three_ways p q = grind arith

-- the first rule that fails is one, with its element
first_twice : (places : List ℕ) (p q : ℕ) → IsFirstTwice places p → IsFirstTwice places q → p ≡ q
first_twice places p q f g = elim (three_ways p q) [
  | inl (inl less) ↦ absurd (g.first p less f.twice)
  | inl (inr more) ↦ absurd (f.first q more g.twice)
  | inr same ↦ same
]

not_twice : (labelling : LabellingView) (p : ℕ) → length labelling.places ≡ labelling.degree → HasPlaces labelling
    → IsFirstTwice labelling.places p → ⊥
not_twice labelling p each places twice = grind arith

least_edge : (mesh : FaceList) (labelling : LabellingView) (a b c d : ℕ) → IsLeastAgainstRules mesh labelling a b
    → IsLeastAgainstRules mesh labelling c d
    → (a ≡ c) × (b ≡ d)
least_edge mesh labelling a b c d f g = elim (compared a b c d) [
  | inl (inl less) ↦ absurd (f.against (g.least a b f.ordered f.edge less))
  | inl (inr more) ↦ absurd (g.against (f.least c d g.ordered g.edge more))
  | inr same ↦ same
]
  where
    compared : (a b c d : ℕ) → (IsPairBefore a b c d ⊎ IsPairBefore c d a b) ⊎ ((a ≡ c) × (b ≡ d))
    compared a b c d = grind arith

one_fault : (mesh : FaceList) (labelling : LabellingView) (f g : LabelFault) → IsFirstLabelFault mesh labelling f
    → IsFirstLabelFault mesh labelling g → f ≡ g
one_fault mesh labelling Shape Shape p q = refl
one_fault mesh labelling Shape (Degree n) p q = absurd (p q.0)
one_fault mesh labelling Shape (PlaceTwice n) p q = absurd (p q.0)
one_fault mesh labelling Shape (EdgeRule low high) p q = absurd (p q.0)
one_fault mesh labelling (Degree n) Shape p q = absurd (q p.0)
one_fault mesh labelling (Degree n) (Degree m) p q = ap Degree (p.2 ∙ sym q.2)
one_fault mesh labelling (Degree n) (PlaceTwice m) p q = absurd (p.1 q.1)
one_fault mesh labelling (Degree n) (EdgeRule low high) p q = absurd (p.1 q.1)
one_fault mesh labelling (PlaceTwice n) Shape p q = absurd (q p.0)
one_fault mesh labelling (PlaceTwice n) (Degree m) p q = absurd (q.1 p.1)
one_fault mesh labelling (PlaceTwice n) (PlaceTwice m) p q = ap PlaceTwice (first_twice labelling.places n m p.2 q.2)
one_fault mesh labelling (PlaceTwice n) (EdgeRule low high) p q = absurd (not_twice labelling n p.0.each_spoke q.2 p.2)
one_fault mesh labelling (EdgeRule low high) Shape p q = absurd (q p.0)
one_fault mesh labelling (EdgeRule low high) (Degree m) p q = absurd (q.1 p.1)
one_fault mesh labelling (EdgeRule low high) (PlaceTwice m) p q = absurd (not_twice labelling m q.0.each_spoke p.2 q.2)
one_fault mesh labelling (EdgeRule low high) (EdgeRule l h) p q = grind (arith, least_edge)
one_fault mesh labelling OutOfMemory g p q = absurd p
one_fault mesh labelling f OutOfMemory p q = absurd q

-- a labelling with a fault is not good
fault_excludes : (mesh : FaceList) (labelling : LabellingView) (fault : LabelFault) → IsFirstLabelFault mesh labelling fault
    → IsGood mesh labelling → ⊥
fault_excludes mesh labelling Shape p good = p good.shape
fault_excludes mesh labelling (Degree n) p good = p.1 good.degree
fault_excludes mesh labelling (PlaceTwice n) p good = not_twice labelling n p.0.each_spoke good.places p.2
fault_excludes mesh labelling (EdgeRule low high) p good = p.3.against (good.edges low.0 high.0 p.3.edge)
fault_excludes mesh labelling OutOfMemory p good = p

one_wrong : (mesh : FaceList) (first second : List ℕ) (denial : Denial) (k m : ℕ) → IsFirstWrong mesh first second denial k
    → IsFirstWrong mesh first second denial m
    → k ≡ m
one_wrong mesh first second denial k m (inl p) (inl q) = p.0 ∙ sym q.0
one_wrong mesh first second denial k m (inl p) (inr q) = absurd (p.1 q.1)
one_wrong mesh first second denial k m (inr p) (inl q) = absurd (q.1 p.1)
one_wrong mesh first second denial k m (inr p) (inr q) = p.0 ∙ sym q.0

right_excludes : (mesh : FaceList) (first second : List ℕ) (denial : Denial) (k : ℕ) → IsFirstWrong mesh first second denial k
    → FirstIsRight mesh first denial → SecondIsRight mesh second denial → ⊥
right_excludes mesh first second denial k (inl p) f s = p.1 f
right_excludes mesh first second denial k (inr p) f s = p.2 s

pub one_verdict : (mesh : FaceList) (first second : List ℕ) (denial : Denial) (v w : DenialVerdict)
    → IsDenialVerdict mesh first second denial v
    → IsDenialVerdict mesh first second denial w → v ≡ w
one_verdict mesh first second denial (Label f) (Label g) p q = ap Label (one_fault mesh denial.labelling f g p q)
one_verdict mesh first second denial (Label f) (WordWrong m) p q = absurd (fault_excludes mesh denial.labelling f p q.0)
one_verdict mesh first second denial (Label f) Equal p q = absurd (fault_excludes mesh denial.labelling f p q.0)
one_verdict mesh first second denial (Label f) Accepted p q = absurd (fault_excludes mesh denial.labelling f p q.good)
one_verdict mesh first second denial (WordWrong k) (Label g) p q = absurd (fault_excludes mesh denial.labelling g q p.0)
one_verdict mesh first second denial (WordWrong k) (WordWrong m) p q = ap WordWrong (one_wrong mesh first second denial k m p.1 q.1)
one_verdict mesh first second denial (WordWrong k) Equal p q = absurd (right_excludes mesh first second denial k p.1 q.1 q.2)
one_verdict mesh first second denial (WordWrong k) Accepted p q = grind (arith, right_excludes)
one_verdict mesh first second denial Equal (Label g) p q = absurd (fault_excludes mesh denial.labelling g q p.0)
one_verdict mesh first second denial Equal (WordWrong m) p q = absurd (right_excludes mesh first second denial m q.1 p.1 p.2)
one_verdict mesh first second denial Equal Equal p q = refl
one_verdict mesh first second denial Equal Accepted p q = absurd (q.differ p.3)
one_verdict mesh first second denial Accepted (Label g) p q = absurd (fault_excludes mesh denial.labelling g q p.good)
one_verdict mesh first second denial Accepted (WordWrong m) p q = grind (arith, right_excludes)
one_verdict mesh first second denial Accepted Equal p q = absurd (p.differ q.3)
one_verdict mesh first second denial Accepted Accepted p q = refl
