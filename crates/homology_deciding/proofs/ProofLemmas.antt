-- What the forced numbers prove.
use Rattle.homology_deciding.proofs.Common.{IsAtEdge, leads_on, leads_back, rotation_system, names_all, darts_of, face_of, origin_of, twin_of, OrientedMesh, rotations_of, IsDartFrom, chain_holds, size-sum, size-share, size-opposite, AreHomologous, count_difference, boundary, Separates, share, along, number_at, AreNumbersWithin, AreTableNumbers, IsCutAt, cycle_share, IsTree, IsWayUp, face_across, dart_share, way_share, listed, way_count, AreForced, LeavesOf, IsChainFor, IsCocycleFor, IsProofFor, is_chain, FaceTree, ◌≡◌, ◌≢◌, ◌↔◌, inl, inr, ℕ, ◌+◌, ◌<◌, ◌≤◌, true, false, List, length, refl, ap, ap₂, sym, ◌∙◌, subst, arith, ℤ, pos, ◌+ℤ◌, ◌-ℤ◌, cases_lt, cases_Bool, both_ways, eqb-true, eq-eqb, nat_tests, ints, get_or_past, ◌==◌, neg_ℤ, unsigned_abs, Edge, edge_in, is_flipped, IsWalk, darts, DartName}
use Rattle.homology.proofs.PairingLemmas.{refuted}
use Rattle.homology_deciding.specs.declared.deciding.HomologyProof.{HomologyProof}
use Rattle.homology_deciding.specs.declared.deciding.HomologyProof.TheVariants.{Chain, Cocycle}
use Rattle.homology_deciding.proofs.BoundaryLemmas.{boundary_at}
use Rattle.homology_deciding.proofs.WayLemmas.{one_way}
use Rattle.homology_deciding.proofs.CycleLemmas.{along-back, along_darts, is_cocycle, separation_is, way_count_is, height_small}

-- a number as it is listed has the same size, and listed twice it is itself
pub listed_size : (s : OrientedMesh) (f : ℕ) (z : ℤ) → unsigned_abs (listed s f z) ≡ unsigned_abs z
listed_size s f z = elim (cases_Bool (is_flipped s.signs f)) [
  | inl turned ↦ rw turned (size-opposite z)
  | inr kept ↦ rw kept refl
]

pub listed_twice : (s : OrientedMesh) (f : ℕ) (z : ℤ) → listed s f (listed s f z) ≡ z
listed_twice s f z = elim (cases_Bool (is_flipped s.signs f)) [
  | inl turned ↦ rw turned (let e : neg_ℤ (neg_ℤ z) ≡ z = omega (arith, ints) in e)
  | inr kept ↦ rw kept refl
]

-- what is counted at an edge is no more than the darts
pub counts_small : (table : List Edge) (counts : List ℤ) (first second : List ℕ)
    → AreTableNumbers table counts (count_difference first second)
    → AreNumbersWithin (darts first + darts second) counts
counts_small table counts first second are = record {
  each = λ k. elim (cases_lt k (length table)) [
    | inl l ↦
        let number : ℕ → ℕ → ℤ = share (pos 1) (edge_in table k).low (edge_in table k).high in
        let small : (u v : ℕ) → unsigned_abs (number u v) ≤ 1 =
        λ u v. size-share (pos 1) (edge_in table k).low (edge_in table k).high u v in
        let minus : number_at counts k ≡ along number first +ℤ neg_ℤ (along number second) = omega (arith, ints, are.each k l) in
        subst (λ z. unsigned_abs z ≤ darts first + darts second) (sym minus)
        (size-sum (along number first) (neg_ℤ (along number second)) (darts first) (darts second) (along_darts number first small)
        (omega (arith, size-opposite (along number second), along_darts number second small)))
    | inr past ↦
        let none : number_at counts k ≡ pos 0 = get_or_past counts k (pos 0) (omega (arith, are.long, past)) in
        subst (λ z. unsigned_abs z ≤ darts first + darts second) (sym none) (omega arith)
  ];
}

share-swapped : (a b u v : ℕ) → a ≢ b → share (pos 1) b a u v ≡ neg_ℤ (share (pos 1) a b u v)
share-swapped a b u v apart = grind (arith, nat_tests, ints)

module _ (tree : FaceTree) (h : IsTree tree) (first second : List ℕ) (numbers : List ℤ) where
  abbrev s : OrientedMesh
  s = tree.surface.now

  pub forced_small : (counts : List ℤ) → AreTableNumbers s.table counts (count_difference first second) → AreForced tree counts numbers
      → AreNumbersWithin (darts first + darts second) numbers
  forced_small counts are forced = record {
    each = λ k. elim (cases_lt k (length s.mesh.faces)) [
      | inl l ↦
          let way = forced.each k l in
          subst (λ z. unsigned_abs z ≤ darts first + darts second) (sym way.2)
          (omega (
            arith,
            listed_size s k (way_count s counts way.0),
            height_small s tree.split.now h counts first second are k way.0 tree.split.now.root_face way.1,
          ))
      | inr past ↦
          let none : number_at numbers k ≡ pos 0 = get_or_past numbers k (pos 0) (omega (arith, forced.each_face, past)) in
          subst (λ z. unsigned_abs z ≤ darts first + darts second) (sym none) (omega arith)
    ];
  }

  module _ (rest : List ℤ) (leaves : LeavesOf tree first second numbers rest) where
    pub chain_proof : ((k : ℕ) → k < length s.table → number_at rest k ≡ pos 0) → IsChainFor s first second numbers
    chain_proof none = record {
      each_face = leaves.forced.each_face;
      chain =
          chain_holds s.mesh s.table (number_at numbers) (number_at numbers) first second rest h.valid.table (λ f. refl) leaves.left none;
      small = forced_small leaves.counts leaves.are_counts leaves.forced;
    }

    -- the number of a face is that of any way to the root
    face_value : (f : ℕ) (way : List DartName) → f < length s.mesh.faces → IsWayUp s tree.split.now f way tree.split.now.root_face
        → listed s f (number_at numbers f) ≡ along (way_share s (pos 1) way) first -ℤ along (way_share s (pos 1) way) second
    face_value f way l w =
        let forced = leaves.forced.each f l in
        let same : forced.0 ≡ way = one_way s tree.split.now h f forced.0 way forced.1 w in
        ap (listed s f) forced.2 ∙ listed_twice s f (way_count s leaves.counts forced.0)
        ∙ ap (way_count s leaves.counts) same
        ∙ way_count_is s tree.split.now h leaves.counts first second leaves.are_counts f way tree.split.now.root_face w

    -- what is left at the edge of a dart, by the faces on its two sides
    left_at : ℕ → ℤ
    left_at d =
        along (dart_share s (pos 1) d) first -ℤ along (dart_share s (pos 1) d) second
        -ℤ (listed s (face_of s d) (number_at numbers (face_of s d)) -ℤ listed s (face_across s d) (number_at numbers (face_across s d)))

    left_from : (e d : ℕ) → e < length s.table → IsDartFrom (rotations_of s) (edge_in s.table e).low (edge_in s.table e).high d
        → number_at rest e ≡ left_at d
    unfolding left_at
    left_from e d l from =
        let low : ℕ = (edge_in s.table e).low in
        let high : ℕ = (edge_in s.table e).high in
        let number : ℕ → ℤ = number_at numbers in
        let left = leaves.left.each e l in
        let counted : count_difference first second low high
        ≡ along (dart_share s (pos 1) d) first -ℤ along (dart_share s (pos 1) d) second =
        ap₂ (λ a b. along (share (pos 1) a b) first -ℤ along (share (pos 1) a b) second) (sym from.starts) (sym from.ends) in
        let bounded : boundary s.mesh number low high
        ≡ listed s (face_of s d) (number (face_of s d)) -ℤ listed s (face_across s d) (number (face_across s d)) =
        ap₂ (boundary s.mesh number) (sym from.starts) (sym from.ends) ∙ boundary_at s h.valid number d from.within in
        omega (arith, ints, left, counted, bounded)

    -- the other dart of the edge sees it with the other sign
    left_turned : (d : ℕ) → d < darts_of s → left_at (twin_of s d) ≡ neg_ℤ (left_at d)
    unfolding left_at
    left_turned d l =
        let back : twin_of s (twin_of s d) ≡ d = (rotation_system s h.valid).twin_back d l in
        let turned : (u v : ℕ) → dart_share s (pos 1) (twin_of s d) u v ≡ neg_ℤ (dart_share s (pos 1) d u v) =
        λ u v. ap (λ k. share (pos 1) (origin_of s (twin_of s d)) (origin_of s k) u v) back
        ∙ share-swapped (origin_of s d) (origin_of s (twin_of s d)) u v (λ q. (rotation_system s h.valid).no_loop d l (sym q)) in
        let one = along-back (dart_share s (pos 1) (twin_of s d)) (dart_share s (pos 1) d) first turned in
        let two = along-back (dart_share s (pos 1) (twin_of s d)) (dart_share s (pos 1) d) second turned in
        let across : listed s (face_across s (twin_of s d)) (number_at numbers (face_across s (twin_of s d)))
        ≡ listed s (face_of s d) (number_at numbers (face_of s d)) =
        ap (λ k. listed s (face_of s k) (number_at numbers (face_of s k))) back in
        omega (arith, ints, one, two, across)

    -- so of either dart of an edge
    left_of_dart : (e d : ℕ) → IsAtEdge s d e → number_at rest e ≢ pos 0 → left_at d ≢ pos 0
    left_of_dart e d at differ none =
        let edge : Edge = edge_in s.table e in
        elim (cases_Bool (origin_of s d == edge.low)) [
          | inl same ↦
              let from = leads_on s h.valid edge.low edge.high e d at (inl (refl, refl)) (eqb-true (origin_of s d) edge.low same) in
              differ (left_from e d at.edge from ∙ none)
          | inr other ↦
              let apart : origin_of s d ≢ edge.low =
              λ same. both_ways (origin_of s d == edge.low) other (eq-eqb (origin_of s d) edge.low same) in
              let from = leads_back s h.valid edge.low edge.high e d at (inl (refl, refl)) apart in
              let left = left_from e (twin_of s d) at.edge from in
              let turned = left_turned d at.dart in
              differ (omega (arith, ints, left, turned, none))
        ]

    module _ (e d : ℕ) (cut : List ℤ) (at : IsAtEdge s d e) (differ : number_at rest e ≢ pos 0) (is_cut : IsCutAt tree d cut) where
      separates : Separates (cycle_share s d is_cut.up is_cut.down) first second
      unfolding left_at
      separates none =
          let here : face_of s d < length s.mesh.faces = (names_all s h.valid).face_below d at.dart in
          let there : face_across s d < length s.mesh.faces =
          (names_all s h.valid).face_below (twin_of s d) ((rotation_system s h.valid).twin_within d at.dart) in
          let down = face_value (face_of s d) is_cut.down here is_cut.comes_down in
          let up = face_value (face_across s d) is_cut.up there is_cut.goes_up in
          let all = separation_is s tree.split.now h d is_cut.up is_cut.down at.dart is_cut.goes_up is_cut.comes_down first
          second in
          left_of_dart e d at differ (omega (arith, ints, down, up, all, none))

      pub cocycle_proof : IsCocycleFor s first second cut
      cocycle_proof = record {
        of_edge = cycle_share s d is_cut.up is_cut.down;
        each_edge = is_cut.each_edge;
        cocycle = is_cocycle s tree.split.now h d is_cut.up is_cut.down at.dart is_cut.goes_up is_cut.comes_down;
        separates = separates;
        small = is_cut.small;
      }

pub exact_proof : (s : OrientedMesh) (first second : List ℕ) (proof : HomologyProof) → IsWalk s.mesh first → IsWalk s.mesh second
    → IsProofFor s first second proof → (is_chain proof ≡ true) ↔ AreHomologous s.mesh first second
exact_proof s first second (Chain numbers) v w shows = (λ e. (number_at numbers, shows.chain), λ homologous. refl)
exact_proof s first second (Cocycle numbers) v w shows = (
  λ e. absurd (both_ways false refl e),
  λ homologous.
      absurd (refuted s.mesh shows.of_edge first second v w shows.cocycle shows.separates homologous.0 homologous.1),
)
