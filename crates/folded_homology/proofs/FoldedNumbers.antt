-- What numbers of the double show, folded to the mesh.
use Rattle.std.proofs.Common.{◌≡◌, ℕ, suc, ◌+◌, ◌<◌, ◌≤◌, List, [], ◌∷◌, ◌++◌, length, map, take, set, get_or, refl, ap, ap₂, sym, ◌∙◌, subst, arith, append_assoc, ℤ, pos, ◌+ℤ◌, ◌-ℤ◌, to_z, of_z, w64, inl, inr}
use Rattle.std.proofs.Math.Seq.{take-append_seam}
use Rattle.std.proofs.lemmas.List.{get_or-set_other, get_or-set_same, get_or_default, length-map, length-set, map-append}
use Rattle.std.proofs.lemmas.Bool.{cases_lt}
use Rattle.std.proofs.lemmas.Int.{ints}
use Rattle.std.specs.List.{enumerate_from}
use Rattle.std.specs.Prelude.{All, flat_map, neg_ℤ, unsigned_abs}
use Rattle.surf_model.proofs.NumberLemmas.{length-all_sides, sides_at}
use Rattle.surf_model.proofs.OneTableLemmas.{all_are_sides}
use Rattle.surf_model.specs.Darts.{IsSide}
use Rattle.surf_model.specs.Edges.{side_name}
use Rattle.surf_model.specs.FaceLists.{FaceList, FaceSide, IsFaceList, all_sides, total_sides}
use Rattle.surf_model.specs.Walks.{IsWalk}
use Rattle.homology.specs.ArrayCertificates.{AreChainNumbers, AreCocycleNumbers, side_numbers}
use Rattle.homology.specs.Chains.{boundary}
use Rattle.homology.specs.Cocycles.{dart_number}
use Rattle.homology.specs.Sums.{along, round, share, total}
use Rattle.homology.specs.Tallies.{AreNumbersWithin, number_at}
use Rattle.homology.specs.declared.certificate.TheConstants.{MOST_NUMBER}
use Rattle.homology.proofs.SizeLemmas.{sent, size-opposite, size-sum}
use Rattle.doubling.specs.Doubles.{double_of, mirror_face, rim_quads}
use Rattle.doubling.proofs.DoubleFaces.{double_size, kept_below, kept_face}
use Rattle.doubling.proofs.FoldedChains.{chain_folds}

-- ---- chains

-- only the numbers of faces that there are count
boundary_alike : (mesh : FaceList) (one other : ℕ → ℤ) (low high : ℕ) → ((f : ℕ) → f < length mesh.faces → one f ≡ other f)
    → boundary mesh one low high ≡ boundary mesh other low high
boundary_alike mesh one other low high same = along_sides (all_sides mesh) (all_are_sides mesh)
  where
    along_sides : (sides : List FaceSide) → All (λ (s : FaceSide). IsSide mesh (side_name s)) sides
        → total (map (λ (side : FaceSide). share (one side.face) low high side.tail side.head) sides)
        ≡ total (map (λ (side : FaceSide). share (other side.face) low high side.tail side.head) sides)
    along_sides [] all = refl
    along_sides (side ∷ sides) all =
        ap₂ (λ x y. x +ℤ y)
        (ap (λ z. share z low high side.tail side.head) (same side.face (all 0 side (omega arith)).face))
        (along_sides sides (λ k d l. all (suc k) d (omega arith)))

-- a face's number less that of its mirror
pub chain_shown : (mesh : FaceList) (first second : List ℕ) (numbers folded : List ℤ) → IsFaceList mesh → IsWalk mesh first
    → IsWalk mesh second → AreChainNumbers (double_of mesh) first second numbers → length folded ≡ length mesh.faces
    → ((f : ℕ) → f < length mesh.faces
    → number_at folded f ≡ number_at numbers f +ℤ neg_ℤ (number_at numbers (length mesh.faces + f)))
    → AreChainNumbers mesh first second folded
chain_shown mesh first second numbers folded valid w v are long each = record {
  each_face = long;
  chain = record {
    balanced = λ low high up edge.
        (chain_folds mesh (number_at numbers) first second valid w v are.chain).balanced low high up edge
        ∙ sym (boundary_alike mesh (number_at folded)
        (λ f. number_at numbers f +ℤ neg_ℤ (number_at numbers (length mesh.faces + f))) low high each);
  };
}

-- what the program leaves of a face's number
left_over : (a b : ℤ) → unsigned_abs a ≤ MOST_NUMBER → unsigned_abs b ≤ MOST_NUMBER
    → to_z w64 (of_z w64 (to_z w64 (of_z w64 a) -ℤ to_z w64 (of_z w64 b))) ≡ a +ℤ neg_ℤ b
left_over a b h l =
    let minus : a -ℤ b ≡ a +ℤ neg_ℤ b = omega (arith, ints) in
    let size = size-sum a (neg_ℤ b) MOST_NUMBER MOST_NUMBER h (omega (arith, l, size-opposite b)) in
    ap₂ (λ x y. to_z w64 (of_z w64 (x -ℤ y))) (sent a (omega (arith, h))) (sent b (omega (arith, l)))
    ∙ ap (λ z. to_z w64 (of_z w64 z)) minus
    ∙ sent (a +ℤ neg_ℤ b) (omega (arith, size))

-- one face more is folded
pub folded_more : (n f : ℕ) (first old : List ℤ) (a b : ℤ) → length old ≡ length first → n + n ≤ length first → f < n
    → AreNumbersWithin MOST_NUMBER first
    → ((k : ℕ) → k < f → number_at old k ≡ number_at first k +ℤ neg_ℤ (number_at first (n + k)))
    → ((k : ℕ) → f ≤ k → number_at old k ≡ number_at first k) → a ≡ get_or old f a → b ≡ get_or old (n + f) b
    → (length (set old f (to_z w64 (of_z w64 (to_z w64 (of_z w64 a) -ℤ to_z w64 (of_z w64 b))))) ≡ length first)
    × ((k : ℕ) → k < f + 1 → number_at (set old f (to_z w64 (of_z w64 (to_z w64 (of_z w64 a) -ℤ to_z w64 (of_z w64 b))))) k
    ≡ number_at first k +ℤ neg_ℤ (number_at first (n + k)))
    × ((k : ℕ) → f + 1 ≤ k → number_at (set old f (to_z w64 (of_z w64 (to_z w64 (of_z w64 a) -ℤ to_z w64 (of_z w64 b))))) k
    ≡ number_at first k)
folded_more n f first old a b long room l small before behind a_there b_there =
    let value : ℤ = to_z w64 (of_z w64 (to_z w64 (of_z w64 a) -ℤ to_z w64 (of_z w64 b))) in
    let a_is : a ≡ number_at first f =
    a_there ∙ get_or_default old f a (pos 0) (omega (arith, l, long, room)) ∙ behind f (omega arith) in
    let b_is : b ≡ number_at first (n + f) =
    b_there ∙ get_or_default old (n + f) b (pos 0) (omega (arith, l, long, room)) ∙ behind (n + f) (omega arith) in
    let value_is : value ≡ number_at first f +ℤ neg_ℤ (number_at first (n + f)) =
    left_over a b (subst (λ z. unsigned_abs z ≤ MOST_NUMBER) (sym a_is) (small.each f))
    (subst (λ z. unsigned_abs z ≤ MOST_NUMBER) (sym b_is) (small.each (n + f)))
    ∙ ap₂ (λ x y. x +ℤ neg_ℤ y) a_is b_is in (
      length-set old f value ∙ long,
      λ k lk. elim (cases_lt k f) [
        | inl less ↦ get_or-set_other old f k value (pos 0) (λ e. omega (arith, e, less)) ∙ before k less
        | inr last ↦
            let same : k ≡ f = omega (arith, last, lk) in
            ap (number_at (set old f value)) same ∙ get_or-set_same old f value (pos 0) (omega (arith, l, long, room)) ∙ value_is
            ∙ sym (ap (λ m. number_at first m +ℤ neg_ℤ (number_at first (n + m))) same)
      ],
      λ k lk. get_or-set_other old f k value (pos 0) (λ e. omega (arith, e, lk)) ∙ behind k (omega (arith, lk)),
    )

-- ---- cocycles

sides-append : (n : ℕ) (xs ys : List (List ℕ)) → flat_map sides_at (enumerate_from n (xs ++ ys))
    ≡ flat_map sides_at (enumerate_from n xs) ++ flat_map sides_at (enumerate_from (n + length xs) ys)
sides-append n [] ys = ap (λ k. flat_map sides_at (enumerate_from k ys)) (omega arith)
sides-append n (x ∷ xs) ys =
    let next : n + 1 + length xs ≡ n + length (x ∷ xs) = omega arith in
    ap (λ (s : List FaceSide). sides_at (n, x) ++ s)
    (sides-append (n + 1) xs ys
    ∙ ap (λ k. flat_map sides_at (enumerate_from (n + 1) xs) ++ flat_map sides_at (enumerate_from k ys)) next)
    ∙ sym (append_assoc (sides_at (n, x)) (flat_map sides_at (enumerate_from (n + 1) xs))
    (flat_map sides_at (enumerate_from (n + length (x ∷ xs)) ys)))

-- the sides of the mesh are the first ones of the double
first_sides : (mesh : FaceList) → (rest : List FaceSide) × (all_sides (double_of mesh) ≡ all_sides mesh ++ rest)
unfolding all_sides
first_sides mesh =
    let mirrors : List (List ℕ) = map (mirror_face mesh.count) mesh.faces in
    let quads : List (List ℕ) = rim_quads mesh in
    let behind : List FaceSide = flat_map sides_at (enumerate_from (0 + length mesh.faces) mirrors) in
    let last : List FaceSide = flat_map sides_at (enumerate_from (0 + length (mesh.faces ++ mirrors)) quads) in (
      behind ++ last,
      sides-append 0 (mesh.faces ++ mirrors) quads
          ∙ ap (λ (s : List FaceSide). s ++ last) (sides-append 0 mesh.faces mirrors)
          ∙ append_assoc (flat_map sides_at (enumerate_from 0 mesh.faces)) behind last,
    )

kept_numbers : (mesh : FaceList) (of_edge : ℕ → ℕ → ℤ)
    → take (total_sides mesh) (side_numbers (double_of mesh) of_edge) ≡ side_numbers mesh of_edge
kept_numbers mesh of_edge =
    let number : FaceSide → ℤ = λ (s : FaceSide). dart_number of_edge s.tail s.head in
    let there = first_sides mesh in
    let size : total_sides mesh ≡ length (map number (all_sides mesh)) =
    sym (length-map (all_sides mesh) number ∙ length-all_sides mesh) in
    ap (λ (s : List FaceSide). take (total_sides mesh) (map number s)) there.1
    ∙ ap (take (total_sides mesh)) (map-append number (all_sides mesh) there.0)
    ∙ ap (λ n. take n (map number (all_sides mesh) ++ map number there.0)) size
    ∙ take-append_seam (map number (all_sides mesh)) (map number there.0)

pub cocycle_shown : (mesh : FaceList) (first second : List ℕ) (numbers folded : List ℤ)
    → AreCocycleNumbers (double_of mesh) first second numbers → folded ≡ take (total_sides mesh) numbers
    → AreCocycleNumbers mesh first second folded
cocycle_shown mesh first second numbers folded are is = record {
  of_edge = are.of_edge;
  cocycle = record {
    closed = λ f l.
        sym (ap (λ (ring : List ℕ). along (dart_number are.of_edge) (round ring)) (kept_face mesh f l))
        ∙ are.cocycle.closed f (kept_below mesh f l);
  };
  separates = are.separates;
  each_side = is ∙ ap (take (total_sides mesh)) are.each_side ∙ kept_numbers mesh are.of_edge;
}

-- the double has a mirror of each face
pub mirrors_there : (mesh : FaceList) (first second : List ℕ) (numbers : List ℤ) → AreChainNumbers (double_of mesh) first second numbers
    → length mesh.faces + length mesh.faces ≤ length numbers
mirrors_there mesh first second numbers are = omega (arith, are.each_face, double_size mesh)
