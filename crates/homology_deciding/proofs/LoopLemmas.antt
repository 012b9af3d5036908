-- What the loops over ways and faces do, step by step.
use Rattle.homology_deciding.proofs.Common.{edge_has_ends, darts_of, face_of, edge_of, origin_of, twin_of, OrientedMesh, IsOrientedSurface, size-sum, size-share, size-opposite, sent, share, number_at, signed_from, GrewBy, AreNumbersWithin, MOST_NUMBER, IsCutAt, face_across, IsUp, IsTree, IsWayUp, dart_share, way_share, height_of, signed_dart_count, way_count, listed, AreHeights, EndsAtHeight, AreForced, FaceTree, ◌≡◌, ◌≢◌, ◌⊎◌, inl, inr, ℕ, ◌+◌, ◌*◌, ◌^◌, ◌<◌, ◌≤◌, true, List, [], ◌∷◌, ◌++◌, length, get_or, set, refl, ap, ap₂, sym, ◌∙◌, subst, arith, ℤ, pos, ◌+ℤ◌, to_z, of_z, w64, negsuc, cases_lt, cases_eq, nat_tests, ints, fits_signed_from_abs, get_or-set_same, get_or-set_other, get_or_past, get_or_append_left, length-set, FitsSigned, Option, Some, None, is_some, unwrap_or, Result, Ok, Err, IfOk, neg_ℤ, unsigned_abs, All, sum_by, MatchOption, Edge, edge_in, HasEnds, HasFileSize, DartName}
use Rattle.homology.proofs.TallyLemmas.{grown, grown_size}
use Rattle.std.proofs.Math.Nat.{mul-suc}
use Rattle.std.proofs.Math.Seq.{get_or-append_seam}
use Rattle.std.proofs.lemmas.List.Elements.{All-head, All-tail}
use Rattle.std.proofs.lemmas.List.Sums.{sum_by-cons}
use Rattle.surf_model.specs.declared.limits.TheConstants.{MOST_SIDES}
use Rattle.homology_deciding.proofs.WayLemmas.{IsTop, way_pop, way_rank, way_share-push}

-- an entry written, and the others
written : {X : Type 0} (xs : List X) (i k : ℕ) (x d : X) → i < length xs
    → ((k ≡ i) × (get_or (set xs i x) k d ≡ x)) ⊎ ((k ≢ i) × (get_or (set xs i x) k d ≡ get_or xs k d))
written xs i k x d l = elim (cases_eq k i) [
  | inl same ↦ inl (same, ap (λ n. get_or (set xs i x) n d) same ∙ get_or-set_same xs i x d l)
  | inr other ↦ inr (other, get_or-set_other xs i k x d other)
]

-- ---- shares of darts, edge by edge

share-swap : (amount : ℤ) (a b u v : ℕ) → share amount a b u v ≡ share amount u v a b
share-swap amount a b u v = grind (arith, nat_tests)

pub cross_step : (s : OrientedMesh) → IsOrientedSurface s → (amount : ℤ) (d e u : ℕ) (old new : List ℤ) → d < darts_of s
    → e ≡ edge_of s d → u ≡ origin_of s d → length old ≡ length s.table
    → new ≡ set old e (number_at old e +ℤ signed_from amount (edge_in s.table e) u) → GrewBy s.table (dart_share s amount d) old new
cross_step s o amount d e u old new l edge from long is =
    let v : ℕ = origin_of s (twin_of s d) in
    let ends = edge_has_ends s o d l in
    let within : e < length s.table = subst (λ x. x < length s.table) (sym edge) ends.within in
    let here : HasEnds u v (edge_in s.table e) =
    subst (λ x. HasEnds x v (edge_in s.table e)) (sym from)
    (subst (λ x. HasEnds (origin_of s d) v (edge_in s.table x)) (sym edge) ends.ends) in
    grown s.mesh s.table (λ low high. pos 0) (dart_share s amount d) old old new e u v amount o.table within here long
    (record { long = refl; each = λ k lk. omega (arith, ints) })
    (λ low high.
    let swap : dart_share s amount d low high ≡ share amount low high u v =
    share-swap amount (origin_of s d) v low high ∙ ap (λ x. share amount low high x v) (sym from) in
    omega (arith, ints, swap))
    is

pub grew_then : (table : List Edge) (one two both : ℕ → ℕ → ℤ) (old now new : List ℤ) → GrewBy table one old now → GrewBy table two now new
    → ((low high : ℕ) → both low high ≡ one low high +ℤ two low high) → GrewBy table both old new
grew_then table one two both old now new g h sum = record {
  long = h.long ∙ g.long;
  each = λ k l.
      let a = g.each k l in
      let b = h.each k l in
      let c = sum (edge_in table k).low (edge_in table k).high in
      omega (arith, ints, a, b, c);
}

pub within_grown : (table : List Edge) (given : ℕ → ℕ → ℤ) (old new : List ℤ) (bound more : ℕ) → AreNumbersWithin bound old
    → GrewBy table given old new → length old ≡ length table → ((low high : ℕ) → unsigned_abs (given low high) ≤ more)
    → AreNumbersWithin (bound + more) new
within_grown table given old new bound more within grew long small = record {
  each = λ k. elim (cases_lt k (length table)) [
    | inl l ↦
        grown_size table given old new k bound more grew l within (small (edge_in table k).low (edge_in table k).high)
    | inr past ↦
        let none : number_at new k ≡ pos 0 = get_or_past new k (pos 0) (omega (arith, grew.long, long, past)) in
        subst (λ z. unsigned_abs z ≤ bound + more) (sym none) (omega arith)
  ];
}

pub way_grown : (s : OrientedMesh) (amount : ℤ) (way : List DartName) (dart : DartName) (old now new : List ℤ)
    → GrewBy s.table (way_share s amount way) old now → GrewBy s.table (dart_share s amount dart.0) now new
    → GrewBy s.table (way_share s amount (way ++ dart ∷ [])) old new
way_grown s amount way dart old now new g h =
    grew_then s.table (way_share s amount way) (dart_share s amount dart.0) (way_share s amount (way ++ dart ∷ [])) old now new g h
    (way_share-push s amount way dart)

-- ---- heights

-- faces with sides are no more than the sides
faces-le-sides : (faces : List (List ℕ)) → All (λ (face : List ℕ). 0 < length face) faces → length faces ≤ sum_by length faces
faces-le-sides [] some = omega arith
faces-le-sides (face ∷ faces) some =
    let here : 0 < length face = All-head (λ (x : List ℕ). 0 < length x) face faces some in
    let more = faces-le-sides faces (All-tail (λ (x : List ℕ). 0 < length x) face faces some) in
    omega (arith, here, more, sum_by-cons (λ (x : List ℕ). length x) face faces)

pub few_faces : (s : OrientedMesh) → IsOrientedSurface s → HasFileSize s.mesh → length s.mesh.faces ≤ MOST_SIDES
few_faces s o small =
    omega (
      arith,
      faces-le-sides s.mesh.faces (λ k d l. omega (arith, (o.faces.faces k d l).polygon)),
      small.few_sides,
    )

module _ (tree : FaceTree) (h : IsTree tree) (counts : List ℤ) (small : AreNumbersWithin MOST_NUMBER counts) where
  abbrev s : OrientedMesh
  s = tree.surface.now

  count_small : (d : ℕ) → unsigned_abs (signed_dart_count s counts d) ≤ MOST_NUMBER
  count_small d = by_turn (number_at counts (edge_of s d)) (edge_in s.table (edge_of s d)) (origin_of s d) (small.each (edge_of s d))
    where
      by_turn : (z : ℤ) (edge : Edge) (u : ℕ) → unsigned_abs z ≤ MOST_NUMBER → unsigned_abs (signed_from z edge u) ≤ MOST_NUMBER
      by_turn z edge u l = elim (cases_eq u edge.low) [
        | inl same ↦ (let is : signed_from z edge u ≡ z = grind (arith, nat_tests) in subst (λ x. unsigned_abs x ≤ MOST_NUMBER) (sym is) l)
        | inr other ↦
            (let is : signed_from z edge u ≡ neg_ℤ z = grind (arith, nat_tests) in
            subst (λ x. unsigned_abs x ≤ MOST_NUMBER) (sym is) (omega (arith, size-opposite z, l)))
      ]

  count_size : (way : List DartName) → unsigned_abs (way_count s counts way) ≤ MOST_NUMBER * length way
  count_size [] = omega arith
  count_size (dart ∷ way) =
      let more = count_size way in
      let sum = size-sum (signed_dart_count s counts dart.0) (way_count s counts way) MOST_NUMBER (MOST_NUMBER * length way)
      (count_small dart.0) more in
      omega (arith, sum, mul-suc MOST_NUMBER (length way))

  -- a face has fewer steps up than there are faces, and there are no more faces than sides
  way_few : (f : ℕ) (way : List DartName) (g : ℕ) → f < length s.mesh.faces → IsWayUp s tree.split.now f way g
      → length way < MOST_SIDES
  way_few f way g l w =
      omega (
        arith,
        way_rank s tree.split.now h f way g w,
        h.few f l,
        few_faces s h.valid,
      )

  pub height_small : (heights : List (Option ℤ)) (f : ℕ) (height : ℤ) → AreHeights tree counts heights
      → height_of heights f ≡ Some height → unsigned_abs height ≤ MOST_NUMBER * MOST_SIDES
  height_small heights f height are is =
      let way = are.each f height is in
      let within : f < length s.mesh.faces = known_within f is in
      subst (λ z. unsigned_abs z ≤ MOST_NUMBER * MOST_SIDES) (sym way.2)
      (omega (arith, count_size way.0, way_few f way.0 tree.split.now.root_face within way.1))
    where
      known_within : (k : ℕ) → height_of heights k ≡ Some height → k < length s.mesh.faces
      known_within k e = elim (cases_lt k (length s.mesh.faces)) [
        | inl less ↦ less
        | inr past ↦
            let none : height_of heights k ≡ None = get_or_past heights k None (omega (arith, are.each_face, past)) in
            let clash : None ≡ Some height = sym none ∙ e in
            cc
      ]

  -- a height and a count as the program adds them
  pub added_fits : (height r : ℤ) → unsigned_abs height ≤ MOST_NUMBER * MOST_SIDES → unsigned_abs r ≤ MOST_NUMBER
      → FitsSigned w64 (to_z w64 (of_z w64 height) +ℤ to_z w64 (of_z w64 r))
  added_fits height r l m =
      let one : to_z w64 (of_z w64 height) ≡ height = sent height (omega (arith, l)) in
      let two : to_z w64 (of_z w64 r) ≡ r = sent r (omega (arith, m)) in
      subst (λ z. FitsSigned w64 z) (sym (ap₂ (λ a b. a +ℤ b) one two))
      (fits_signed_from_abs w64 (height +ℤ r) (omega (arith, size-sum height r (MOST_NUMBER * MOST_SIDES) MOST_NUMBER l m)))

  pub added_is : (height r : ℤ) → unsigned_abs height ≤ MOST_NUMBER * MOST_SIDES → unsigned_abs r ≤ MOST_NUMBER
      → to_z w64 (of_z w64 (to_z w64 (of_z w64 height) +ℤ to_z w64 (of_z w64 r))) ≡ height +ℤ r
  added_is height r l m =
      let one : to_z w64 (of_z w64 height) ≡ height = sent height (omega (arith, l)) in
      let two : to_z w64 (of_z w64 r) ≡ r = sent r (omega (arith, m)) in
      ap (λ z. to_z w64 (of_z w64 z)) (ap₂ (λ a b. a +ℤ b) one two)
      ∙ sent (height +ℤ r) (omega (arith, size-sum height r (MOST_NUMBER * MOST_SIDES) MOST_NUMBER l m))

  -- a known height is that of a way
  pub known : (heights : List (Option ℤ)) (f : ℕ) (o : Option ℤ) → height_of heights f ≡ o → is_some o ≡ true
      → (height : ℤ) × (height_of heights f ≡ Some height)
  known heights f None is some = cc
  known heights f (Some height) is some = (height, is)

  -- the height of a face from that of the face above
  pub height_more : (heights : List (Option ℤ)) (f : ℕ) (dart : DartName) (above height : ℤ) → AreHeights tree counts heights
      → IsUp s tree.split.now f dart → height_of heights (face_across s dart.0) ≡ Some above
      → height ≡ above +ℤ signed_dart_count s counts dart.0 → f < length s.mesh.faces
      → AreHeights tree counts (set heights f (Some height))
  height_more heights f dart above height are up there is l =
      let room : f < length heights = omega (arith, l, are.each_face) in
      record {
        each_face = length-set heights f (Some height) ∙ are.each_face;
        root = elim (written heights f tree.split.now.root_face (Some height) None room) [
          | inl new ↦ ap is_some new.1
          | inr old ↦ ap is_some old.1 ∙ are.root
        ];
        each = λ g value at. elim (written heights f g (Some height) None room) [
          | inr old ↦ are.each g value (sym old.1 ∙ at)
          | inl new ↦
              let way = are.each (face_across s dart.0) above there in
              let same : Some height ≡ Some value = sym new.1 ∙ at in
              let values : height ≡ value = cc in (
                dart ∷ way.0,
                (subst (λ (x : ℕ). IsUp s tree.split.now x dart) (sym new.0) up, way.1),
                sym values ∙ is ∙ omega (arith, ints, way.2),
              )
        ];
      }

  pub height_kept : (heights : List (Option ℤ)) (f g : ℕ) (height : ℤ) → f < length heights → is_some (height_of heights g) ≡ true
      → is_some (height_of (set heights f (Some height)) g) ≡ true
  height_kept heights f g height l known = elim (written heights f g (Some height) None l) [
    | inl new ↦ ap is_some new.1
    | inr old ↦ ap is_some old.1 ∙ known
  ]

  pub height_there : (heights : List (Option ℤ)) (f : ℕ) (height : ℤ) → f < length heights
      → is_some (height_of (set heights f (Some height)) f) ≡ true
  height_there heights f height l = ap is_some (get_or-set_same heights f (Some height) None l)

  -- the top of a way that ends at a height
  pub record IsTopKnown (heights : List (Option ℤ)) (f : ℕ) (way : List DartName) (dart : DartName) : Type 0 where
    pub below : IsWayUp s tree.split.now f way (face_of s dart.0)
    pub up : IsUp s tree.split.now (face_of s dart.0) dart
    pub known : is_some (height_of heights (face_across s dart.0)) ≡ true

  pub top_known : (heights : List (Option ℤ)) (f : ℕ) (whole way : List DartName) (dart : DartName) → whole ≡ way ++ dart ∷ []
      → EndsAtHeight tree heights f whole → IsTopKnown heights f way dart
  top_known heights f whole way dart is ends =
      let top : IsTop s tree.split.now h f way ends.0 dart =
      way_pop s tree.split.now h f way ends.0 dart (subst (λ w. IsWayUp s tree.split.now f w ends.0) is ends.1) in
      record { below = top.below; up = top.up; known = ap (λ g. is_some (height_of heights g)) top.leads ∙ ends.2 }

-- what is told of a face in which no dart leads up, and of one in which one does
pub at_root : (tree : FaceTree) (f : ℕ) (o : Option DartName)
    → MatchOption o (f ≡ tree.split.now.root_face) (IsUp tree.surface.now tree.split.now f) → o ≡ None → f ≡ tree.split.now.root_face
at_root tree f None told is = told
at_root tree f (Some other) told is = cc

pub leads_up : (tree : FaceTree) (f : ℕ) (o : Option DartName) (dart : DartName)
    → MatchOption o (f ≡ tree.split.now.root_face) (IsUp tree.surface.now tree.split.now f) → o ≡ Some dart
    → IsUp tree.surface.now tree.split.now f dart
leads_up tree f None dart told is = cc
leads_up tree f (Some other) dart told is =
    let same : other ≡ dart = cc in
    subst (IsUp tree.surface.now tree.split.now f) same told

-- a climb ends
module _ (tree : FaceTree) (h : IsTree tree) where
  -- no way has as many darts as there are faces
  pub way_short : (f : ℕ) (way : List DartName) (g : ℕ) → f < length tree.surface.now.mesh.faces
      → IsWayUp tree.surface.now tree.split.now f way g → length way < length tree.surface.now.mesh.faces
  way_short f way g l w =
      omega (arith, way_rank tree.surface.now tree.split.now h f way g w, h.few f l)

-- ---- a closed way

pub dart_within : (tree : FaceTree) (d : ℕ) (old new : List ℤ) → ((k : ℕ) → number_at old k ≡ pos 0)
    → length old ≡ length tree.surface.now.table → GrewBy tree.surface.now.table (dart_share tree.surface.now (pos 1) d) old new
    → AreNumbersWithin 1 new
dart_within tree d old new zeros long grew =
    within_grown tree.surface.now.table (dart_share tree.surface.now (pos 1) d) old new 0 1
    (record { each = λ k. subst (λ z. unsigned_abs z ≤ 0) (sym (zeros k)) (omega arith) }) grew long
    (λ low high. size-share (pos 1) (origin_of tree.surface.now d) (origin_of tree.surface.now (twin_of tree.surface.now d)) low high)

pub cut_at : (tree : FaceTree) (d above below : ℕ) (old one two new : List ℤ) → length old ≡ length tree.surface.now.table
    → ((k : ℕ) → number_at old k ≡ pos 0) → above ≡ face_across tree.surface.now d → below ≡ face_of tree.surface.now d
    → GrewBy tree.surface.now.table (dart_share tree.surface.now (pos 1) d) old one
    → (up : List DartName) × IsWayUp tree.surface.now tree.split.now above up tree.split.now.root_face
    × GrewBy tree.surface.now.table (way_share tree.surface.now (pos 1) up) one two
    → (down : List DartName) × IsWayUp tree.surface.now tree.split.now below down tree.split.now.root_face
    × GrewBy tree.surface.now.table (way_share tree.surface.now (negsuc 0) down) two new
    → AreNumbersWithin 3 new → IsCutAt tree d new
cut_at tree d above below old one two new long zeros is_above is_below first up down small = record {
  up = up.0;
  down = down.0;
  goes_up = subst (λ f. IsWayUp tree.surface.now tree.split.now f up.0 tree.split.now.root_face) is_above up.1;
  comes_down = subst (λ f. IsWayUp tree.surface.now tree.split.now f down.0 tree.split.now.root_face) is_below down.1;
  each_edge = record {
    long = down.2.long ∙ up.2.long ∙ first.long ∙ long;
    each = λ k l.
        let none = zeros k in
        let a = first.each k l in
        let b = up.2.each k l in
        let c = down.2.each k l in
        omega (arith, ints, none, a, b, c);
  };
  small = small;
}

-- ---- from heights to numbers

pub unwrapped_small : (o : Option ℤ) → ((height : ℤ) → o ≡ Some height → unsigned_abs height < 2 ^ 63)
    → unsigned_abs (unwrap_or o (pos 0)) < 2 ^ 63
unwrapped_small None small = omega arith
unwrapped_small (Some height) small = small height refl

-- one number more
pub listed_more : (s : OrientedMesh) (heights : List (Option ℤ)) (numbers new : List ℤ) (face : ℕ) (x : ℤ)
    → length numbers ≡ face → new ≡ numbers ++ x ∷ [] → face < length heights
    → x ≡ listed s face (unwrap_or (get_or heights face None) (pos 0))
    → ((f : ℕ) (height : ℤ) → f < face → height_of heights f ≡ Some height → number_at numbers f ≡ listed s f height)
    → (f : ℕ) (height : ℤ) → f < face + 1 → height_of heights f ≡ Some height → number_at new f ≡ listed s f height
listed_more s heights numbers new face x long pushed l is so_far f height lf known = elim (cases_lt f face) [
  | inl less ↦
      ap (λ (xs : List ℤ). number_at xs f) pushed
      ∙ get_or_append_left numbers (x ∷ []) (pos 0) f (omega (arith, less, long)) ∙ so_far f height less known
  | inr last ↦
      let same : f ≡ face = omega arith in
      let at : number_at new f ≡ x =
      ap (λ (xs : List ℤ). number_at xs f) pushed ∙ ap (number_at (numbers ++ x ∷ [])) (same ∙ sym long)
      ∙ get_or-append_seam numbers x [] (pos 0) in
      let unwrapped : unwrap_or (get_or heights face None) (pos 0) ≡ height =
      ap (λ (o : Option ℤ). unwrap_or o (pos 0)) (ap (height_of heights) (sym same) ∙ known) in
      at ∙ is ∙ ap (listed s face) unwrapped ∙ ap (λ k. listed s k height) (sym same)
]

pub forced_from : (tree : FaceTree) (counts numbers : List ℤ) (heights : List (Option ℤ)) → AreHeights tree counts heights
    → ((f : ℕ) → f < length tree.surface.now.mesh.faces → is_some (height_of heights f) ≡ true)
    → length numbers ≡ length tree.surface.now.mesh.faces
    → ((f : ℕ) (height : ℤ) → height_of heights f ≡ Some height → number_at numbers f ≡ listed tree.surface.now f height)
    → AreForced tree counts numbers
forced_from tree counts numbers heights are all long each = record {
  each_face = long;
  each = λ f l. at f (height_of heights f) refl (all f l);
}
  where
    at : (f : ℕ) (o : Option ℤ) → height_of heights f ≡ o → is_some o ≡ true
        → (way : List DartName) × IsWayUp tree.surface.now tree.split.now f way tree.split.now.root_face
        × (number_at numbers f ≡ listed tree.surface.now f (way_count tree.surface.now counts way))
    at f None is some = cc
    at f (Some height) is some =
        let way = are.each f height is in
        (way.0, way.1, each f height is ∙ ap (listed tree.surface.now f) way.2)

-- what holds of a result by two facts
pub if_ok : {X E : Type 0} {P Q R : X → Type 0} (result : Result X E) → IfOk result P → IfOk result Q → ((x : X) → P x → Q x → R x)
    → IfOk result R
if_ok (Ok x) p q f = f x p q
if_ok (Err e) p q f = tt
