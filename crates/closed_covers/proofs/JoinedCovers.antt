-- The cover of a mesh in one piece that has no coherent signs is in one piece. For where the two vertices over one are not joined, each
-- vertex of the mesh has one over it that is joined to the lower of these: and by the sheets of those there are ways round the vertices
-- with which each face goes throughout, or against which it goes throughout.
use Rattle.closed_covers.proofs.Common.{corner_vertex, corner_used, used_corner, edge_lifted, cover_valid, either, corner_of, lead_home, runs_alike, runs_across, sheet_behind, over, AreTurns, cover_of, ◌≡◌, ◌≢◌, inl, inr, ℕ, zero, suc, ◌+◌, ◌<◌, ◌≤◌, Bool, true, false, not, List, [], ◌∷◌, length, map, get_or, refl, ap, sym, ◌∙◌, subst, arith, cases_eq, eq-eqb, ne_eqb, nat_tests, ◌==◌, if◌then◌else◌, ends_differ, step_edge, tail_used, head_used, used_below, EachTwoAreJoined, IsSide, side_after, tail_of, head_of, FaceList, IsFaceList, face_at, next_corner, is_edge, is_used, IsPath, AreJoined, ArePartners, IsOrientable, RunOppositely, is_flipped, Side}
use Rattle.connectivity.proofs.ComponentLemmas.{JoinsEdgesUpTo, edges_none, edges_more, edges_all}
use Rattle.connectivity.proofs.Joining.{joined_refl, joined_step, joined_trans, joined_keep}
use Rattle.connectivity.proofs.WalkLemmas.{walk_from_joined, joined_from_walk}
use Rattle.connectivity.specs.Classes.{joined_at}
use Rattle.connectivity.specs.Partitions.{IsEdgeStep, AreComponents}
use Rattle.double_covers.specs.WaysRound.{carried, AreWaysRound, AreTurnsOf}
use Rattle.std.proofs.lemmas.List.FromFn.{length-map-range_with_len, get_or-map-range_with_len}
use Rattle.std.specs.List.{range_with_len}
use Rattle.surf_model.proofs.EdgeTables.{some_table}
use Rattle.surf_model.specs.Edges.{Edge, IsTableOf, edge_in}
use Rattle.closed_covers.proofs.CoverSides.{start_sheet, IsOverSide, each_side, over_tail}

-- ---- classes of vertices that are joined

classes_upto : (mesh : FaceList) (table : List Edge) → IsFaceList mesh → IsTableOf mesh table → (k : ℕ) → k ≤ length table
    → (least : List ℕ) × JoinsEdgesUpTo mesh table least k
classes_upto mesh table valid h zero l = (range_with_len 0 mesh.count, edges_none mesh table (range_with_len 0 mesh.count) refl)
classes_upto mesh table valid h (suc k) l =
    let before = classes_upto mesh table valid h k (omega (arith, l)) in
    let low : ℕ = (edge_in table k).low in
    let high : ℕ = (edge_in table k).high in
    let next : k + 1 ≡ suc k = omega arith in (
      joined_at before.0 low high,
      subst (JoinsEdgesUpTo mesh table (joined_at before.0 low high)) next
          (edges_more mesh table before.0 k low high valid h (omega (arith, l)) refl refl before.1),
    )

some_components : (mesh : FaceList) → IsFaceList mesh → (least : List ℕ) × AreComponents mesh least
some_components mesh valid =
    let table = some_table mesh valid in
    let all = classes_upto mesh table.0 valid table.1 (length table.0) (omega arith) in
    (all.0, edges_all mesh table.0 all.0 (length table.0) table.1 (omega arith) all.1)

-- ---- paths are lifted

together : (a b s : Bool) → either a (either b s) ≡ either (either a b) s
together true true true = refl
together true true false = refl
together true false s = refl
together false b s = refl

over_below : (count : ℕ) (s : Bool) (v : ℕ) → v < count → over count s v < count + count
over_below count true v l = omega (arith, l)
over_below count false v l = omega (arith, l)

module _ (mesh : FaceList) (turns : ℕ → ℕ → Bool) (are : AreTurns mesh turns) where
  abbrev Step : ℕ → ℕ → Type 0
  Step = IsEdgeStep (cover_of mesh turns)

  -- steps lead from the vertices over u to those over v, and change the sheet or do not
  record IsLiftedPath (u v : ℕ) : Type 0 where
    pub turned : Bool
    pub leads : (s : Bool) → AreJoined Step (over mesh.count s u) (over mesh.count (either turned s) v)

  path_lifted : (u : ℕ) (path : List ℕ) (v : ℕ) → IsPath (IsEdgeStep mesh) u path v → IsLiftedPath u v
  path_lifted u [] v p = grind (arith, joined_refl, over)
  path_lifted u (z ∷ path) v p =
      let rest : IsLiftedPath z v = path_lifted z path v p.1 in
      record {
        turned = either rest.turned (turns u z);
        leads = λ s.
            (let t : Bool = sheet_behind turns s u z in
            joined_trans Step (over mesh.count s u) (over mesh.count t z) (over mesh.count (either (either rest.turned (turns u z)) s) v)
            (joined_step Step (over mesh.count s u) (over mesh.count t z) (edge_lifted mesh turns are s u z p.0))
            (subst (λ (b : Bool). AreJoined Step (over mesh.count t z) (over mesh.count b v)) (together rest.turned (turns u z) s)
            (rest.leads t)));
      }

  lifted_between : EachTwoAreJoined mesh → (u v : ℕ) → is_used mesh u ≡ true → is_used mesh v ≡ true → IsLiftedPath u v
  lifted_between joined u v used there =
      let path = joined_from_walk mesh u v (joined u v used there) in
      path_lifted u path.0 v path.1

  -- the vertex under a vertex of the cover
  pub record IsOverUsed (x : ℕ) : Type 0 where
    pub low : ℕ
    pub upper : Bool
    pub used : is_used mesh low ≡ true
    pub is : x ≡ over mesh.count upper low

  pub over_used : (x : ℕ) → is_used (cover_of mesh turns) x ≡ true → IsOverUsed x
  over_used x used =
      let found = used_corner (cover_of mesh turns) x used in
      let above : IsOverSide mesh turns found.0 = each_side mesh turns found.0 found.1.side in
      record {
        low = tail_of mesh above.low;
        upper = start_sheet mesh turns above.upper above.low;
        used = corner_used mesh (tail_of mesh above.low) above.low (record { side = above.in_mesh; vertex = refl });
        is = sym found.1.vertex ∙ ap (tail_of (cover_of mesh turns)) above.is ∙ over_tail mesh turns above.upper above.low above.in_mesh;
      }

  -- where the two vertices over one are joined, so are all
  to_sheet : (u v : ℕ) (s t : Bool) → IsLiftedPath u v
      → ((p q : Bool) → AreJoined Step (over mesh.count p u) (over mesh.count q u))
      → AreJoined Step (over mesh.count s u) (over mesh.count t v)
  to_sheet u v s t path sheets =
      let start : Bool = either path.turned t in
      joined_trans Step (over mesh.count s u) (over mesh.count start u) (over mesh.count t v) (sheets s start)
      (subst (λ (b : Bool). AreJoined Step (over mesh.count start u) (over mesh.count b v)) (home path.turned t) (path.leads start))
    where
      home : (a t : Bool) → either a (either a t) ≡ t
      home true true = refl
      home true false = refl
      home false t = refl

-- ---- where they are not, the mesh has coherent signs

module _ (mesh : FaceList) (against : Side → Bool) (valid : IsFaceList mesh) (ways : AreWaysRound mesh against)
    (even : (side : Side) → IsSide mesh side → against (side_after mesh side) ≡ against side) where
  -- each face goes throughout as at its first corner
  throughout : (f t : ℕ) → f < length mesh.faces → t < length (face_at mesh f) → against (corner_of f t) ≡ against (corner_of f 0)
  throughout f zero l b = refl
  throughout f (suc t) l b =
      let next : next_corner true (length (face_at mesh f)) t ≡ suc t = grind (arith, nat_tests) in
      ap (λ (k : ℕ). against (corner_of f k)) (sym next)
      ∙ even (corner_of f t) (record { face = l; place = omega (arith, b) })
      ∙ throughout f t l (omega (arith, b))

  abbrev signs : List Bool
  signs = map (λ (f : ℕ). against (corner_of f 0)) (range_with_len 0 (length mesh.faces))

  sign_is : (side : Side) → IsSide mesh side → is_flipped signs side.face.0 ≡ against side
  sign_is side is =
      get_or-map-range_with_len (λ (f : ℕ). against (corner_of f 0)) 0 (length mesh.faces) side.face.0 side.face.0 false is.face
      (omega arith)
      ∙ sym (throughout side.face.0 side.at is.face is.place)

  opposite : (side other : Side) → ArePartners mesh side other → RunOppositely mesh signs side other
  opposite side other h =
      let a : ℕ = tail_of mesh side in
      let c : ℕ = tail_of mesh other in
      let p : is_flipped signs side.face.0 ≡ against side = sign_is side h.first in
      let q : is_flipped signs other.face.0 ≡ against other = sign_is other h.second in
      elim h.one_edge [
        | inl e ↦
            (let test : (a == c) ≡ true = eq-eqb a c e.0 in
            let rule : against other ≡ not (against side) =
            ways.across a side other side other h (inl (refl, refl)) (inl (sym e.0, refl))
            ∙ ap (λ (x : Bool). if x then not (against side) else against side) test in
            let turned : is_flipped signs other.face.0 ≡ not (is_flipped signs side.face.0) = q ∙ rule ∙ ap not (sym p) in
            runs_alike mesh signs side other turned e.0 e.1)
        | inr e ↦
            (let test : (a == c) ≡ false =
            ne_eqb a c (λ same. ends_differ mesh other valid h.second (sym same ∙ e.0)) in
            let rule : against (side_after mesh other) ≡ against side =
            ways.across a side other side (side_after mesh other) h (inl (refl, refl)) (inr (sym e.0, refl))
            ∙ ap (λ (x : Bool). if x then not (against side) else against side) test in
            let kept : is_flipped signs other.face.0 ≡ is_flipped signs side.face.0 =
            q ∙ sym (even other h.second) ∙ rule ∙ sym p in
            runs_across mesh signs side other kept e.0 e.1)
      ]

  signs_by_ways : IsOrientable mesh
  signs_by_ways = (
    signs,
    record {
      each_face = length-map-range_with_len (λ (f : ℕ). against (corner_of f 0)) 0 (length mesh.faces);
      opposite = opposite;
    },
  )

-- ways round the vertices, each turned where its vertex is on the upper sheet
abbrev turned_by : FaceList → (Side → Bool) → (ℕ → Bool) → Side → Bool
turned_by mesh against sheet side = either (sheet (tail_of mesh side)) (against side)

carries_on : (s test a b : Bool) → b ≡ (if test then not a else a) → either s b ≡ (if test then not (either s a) else either s a)
carries_on true true a b e = ap not e
carries_on true false a b e = ap not e
carries_on false test a b e = e

goes_on : (s a b t : Bool) → t ≡ either (either a b) s → either t b ≡ either s a
goes_on true true true t e = rw e refl
goes_on true true false t e = rw e refl
goes_on true false true t e = rw e refl
goes_on true false false t e = rw e refl
goes_on false true true t e = rw e refl
goes_on false true false t e = rw e refl
goes_on false false true t e = rw e refl
goes_on false false false t e = rw e refl

module _ (mesh : FaceList) (against : Side → Bool) (turns : ℕ → ℕ → Bool) (valid : IsFaceList mesh) (ways : AreWaysRound mesh against)
    (are : AreTurnsOf mesh against turns) where
  -- sheets that the edges follow
  signs_by_sheets : (sheet : ℕ → Bool) → ((u v : ℕ) → is_edge mesh u v ≡ true → sheet v ≡ sheet_behind turns (sheet u) u v)
      → IsOrientable mesh
  signs_by_sheets sheet follows =
      signs_by_ways mesh (turned_by mesh against sheet) valid
      (record {
        across = λ v side partner corner other partners from to.
            (let a : sheet (tail_of mesh corner) ≡ sheet v = ap sheet (corner_vertex mesh v side corner from) in
            let b : sheet (tail_of mesh other) ≡ sheet v = ap sheet (corner_vertex mesh v partner other to) in
            ap (λ (s : Bool). either s (against other)) b
            ∙ carries_on (sheet v) (tail_of mesh side == tail_of mesh partner) (against corner) (against other)
            (ways.across v side partner corner other partners from to)
            ∙ ap (λ (s : Bool). carried mesh side partner (either s (against corner))) (sym a));
      })
      (λ side is.
      let edge : is_edge mesh (tail_of mesh side) (head_of mesh side) ≡ true =
      step_edge mesh side.face.0 true side.at is.face is.place in
      goes_on (sheet (tail_of mesh side)) (against side) (against (side_after mesh side)) (sheet (head_of mesh side))
      (follows (tail_of mesh side) (head_of mesh side) edge
      ∙ ap (λ (b : Bool). either b (sheet (tail_of mesh side))) (are.along side is)))

  module _ (joined : EachTwoAreJoined mesh) (base : ℕ) (used : is_used mesh base ≡ true) where
    home : AreTurns mesh turns
    home = lead_home mesh against turns are

    module _ (least : List ℕ) (classes : AreComponents (cover_of mesh turns) least)
        (apart : get_or least (over mesh.count false base) 0 ≢ get_or least (over mesh.count true base) 0) where
      -- the class of a vertex over v
      abbrev class : Bool → ℕ → ℕ
      class s v = get_or least (over mesh.count s v) 0

      -- the sheet on which the vertex over v is joined to the lower one over the first
      abbrev sheet : ℕ → Bool
      sheet v = not (class false v == class false base)

      one_class : (x y : ℕ) → AreJoined (IsEdgeStep (cover_of mesh turns)) x y → get_or least x 0 ≡ get_or least y 0
      one_class x y way = joined_keep (IsEdgeStep (cover_of mesh turns)) (λ (z : ℕ). get_or least z 0) classes.steps x way.0 y way.1

      sheet_is : (v : ℕ) → is_used mesh v ≡ true → (s : Bool) → class (either (sheet v) s) v ≡ class s base
      sheet_is v there s = by path.turned refl
        where
          path : IsLiftedPath mesh turns home base v
          path = lifted_between mesh turns home joined base v used there

          leads : (s : Bool) → class s base ≡ class (either path.turned s) v
          leads s = one_class (over mesh.count s base) (over mesh.count (either path.turned s) v) (path.leads s)

          by : (turned : Bool) → path.turned ≡ turned → class (either (sheet v) s) v ≡ class s base
          by false e =
              let low : class false v ≡ class false base = sym (leads false ∙ ap (λ (b : Bool). class (either b false) v) e) in
              let test : (class false v == class false base) ≡ true = eq-eqb (class false v) (class false base) low in
              ap (λ (b : Bool). class (either (not b) s) v) test ∙ sym (leads s ∙ ap (λ (b : Bool). class (either b s) v) e)
          by true e =
              let high : class false v ≡ class true base = sym (leads true ∙ ap (λ (b : Bool). class (either b true) v) e) in
              let test : (class false v == class false base) ≡ false =
              ne_eqb (class false v) (class false base) (λ same. apart (sym same ∙ high)) in
              ap (λ (b : Bool). class (either (not b) s) v) test ∙ sym (leads s ∙ ap (λ (b : Bool). class (either b s) v) e)

      follows : (u v : ℕ) → is_edge mesh u v ≡ true → sheet v ≡ sheet_behind turns (sheet u) u v
      follows u v edge =
          let t : Bool = sheet_behind turns (sheet u) u v in
          let start : class (sheet u) u ≡ class false base =
          ap (λ (b : Bool). class b u) (sym (plain (sheet u))) ∙ sheet_is u (tail_used mesh u v edge) false in
          let there : class t v ≡ class false base =
          sym (classes.steps (over mesh.count (sheet u) u) (over mesh.count t v) (edge_lifted mesh turns home (sheet u) u v edge))
          ∙ start in
          pick (sheet v) t
          (λ e. apart (sym there ∙ ap (λ (b : Bool). class b v) e ∙ ap (λ (b : Bool). class b v) (sym (flips (sheet v)))
          ∙ sheet_is v (head_used mesh u v edge) true))
        where
          plain : (b : Bool) → either b false ≡ b
          plain true = refl
          plain false = refl

          flips : (b : Bool) → either b true ≡ not b
          flips true = refl
          flips false = refl

          pick : (a b : Bool) → (b ≡ not a → ⊥) → a ≡ b
          pick true true h = refl
          pick false false h = refl
          pick true false h = absurd (h refl)
          pick false true h = absurd (h refl)

      coherent : IsOrientable mesh
      coherent = signs_by_sheets sheet follows

  pub cover_joined : EachTwoAreJoined mesh → (IsOrientable mesh → ⊥) → EachTwoAreJoined (cover_of mesh turns)
  cover_joined joined twisted x y used_x used_y =
      let cover : FaceList = cover_of mesh turns in
      let home : AreTurns mesh turns = lead_home mesh against turns are in
      let one : IsOverUsed mesh turns home x = over_used mesh turns home x used_x in
      let two : IsOverUsed mesh turns home y = over_used mesh turns home y used_y in
      let u : ℕ = one.low in
      let below : (s : Bool) → over mesh.count s u < mesh.count + mesh.count =
      λ s. over_below mesh.count s u (used_below mesh u valid one.used) in
      let components = some_components cover (cover_valid mesh turns valid) in
      let path : IsLiftedPath mesh turns home u two.low = lifted_between mesh turns home joined u two.low one.used two.used in
      elim (cases_eq (get_or components.0 (over mesh.count false u) 0) (get_or components.0 (over mesh.count true u) 0)) [
        | inr apart ↦ absurd (twisted (coherent joined u one.used components.0 components.1 apart))
        | inl same ↦
            (let sheets : (p q : Bool) → AreJoined (IsEdgeStep cover) (over mesh.count p u) (over mesh.count q u) =
            λ p q. components.1.joined (over mesh.count p u) (over mesh.count q u) (below p) (below q)
            (alike (λ (s : Bool). get_or components.0 (over mesh.count s u) 0) same p q) in
            walk_from_joined cover x y used_x
            (subst (λ (z : ℕ). AreJoined (IsEdgeStep cover) z y) (sym one.is)
            (subst (λ (z : ℕ). AreJoined (IsEdgeStep cover) (over mesh.count one.upper u) z) (sym two.is)
            (to_sheet mesh turns home u two.low one.upper two.upper path sheets))))
      ]
    where
      alike : (f : Bool → ℕ) → f false ≡ f true → (p q : Bool) → f p ≡ f q
      alike f e true true = refl
      alike f e false false = refl
      alike f e false true = e
      alike f e true false = sym e
