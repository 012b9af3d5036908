-- Walks of the mesh are lifted to walks of the cover, and moves to moves.
use Rattle.double_covers.proofs.Common.{used_corner, sheet_behind, over, lifted_behind, lifted, AreTurns, cover_of, under, ◌≡◌, ◌≢◌, ℕ, ◌+◌, ◌-◌, ◌<◌, ◌≤◌, Bool, true, false, not, List, [], ◌∷◌, ◌++◌, length, get_or, refl, ap, sym, ◌∙◌, subst, arith, append_assoc, get_or_default, ◌↔◌, Some, first_answer, stays_walk, step_within, by_replacing, corner_after, meet, FaceList, IsFace, IsFaceList, face_at, corners_from, next_corner, is_edge, is_used, apply, apply_all, Homotopic, IsReplacement, Replaces, place_of_move, IsWalk, Move, Insert, Remove, Across, corners_beyond, end_from, end_beyond, run, walked, vertices_beyond}
use Rattle.surf_model.proofs.WayBackLemmas.{at_first}
use Rattle.surf_model.proofs.EdgeLemmas as edges
use Rattle.double_covers.proofs.Sheets.{sheet_at, back, next_sheet, entry, length-lifted, way_lifted, way_ends}
use Rattle.double_covers.proofs.CoverFaces.{face_over, over_below, over_is, IsOver, each_over, begins_on, edge_lifted}
use Rattle.double_covers.proofs.LiftedWalks.{front_lifted, rest_lifted, under_over, walk_under}
use Rattle.double_covers.proofs.LowerMoves.{moves_under}

-- ---- the cover is a mesh

over_below_twice : (count : ℕ) (upper : Bool) (v : ℕ) → v < count → over count upper v < count + count
over_below_twice count true v l = omega arith
over_below_twice count false v l = omega arith

over_apart : (count : ℕ) (s t : Bool) (u v : ℕ) → u < count → v < count → u ≢ v → over count s u ≢ over count t v
over_apart count s t u v l m apart same = apart (sym (under_over count s u l) ∙ ap (under count) same ∙ under_over count t v m)

module _ (mesh : FaceList) (turns : ℕ → ℕ → Bool) where
  face_lifted : (upper : Bool) (ring : List ℕ) → IsFace mesh.count ring
      → IsFace (mesh.count + mesh.count) (lifted turns mesh.count upper ring)
  face_lifted upper ring is =
      let m : ℕ = length ring in
      let lifts : List ℕ = lifted turns mesh.count upper ring in
      let long : length lifts ≡ m = length-lifted turns mesh.count upper ring in
      let below : (t : ℕ) → t < m → get_or ring t 0 < mesh.count = λ t l. is.in_range t 0 l in
      let corner : (t : ℕ) → t < m → get_or lifts t 0 ≡ over mesh.count (sheet_at turns upper ring t) (get_or ring t 0) =
      entry turns mesh.count upper ring in
      record {
        polygon = omega (arith, is.polygon, long);
        in_range = λ t d l.
            (let within : t < m = omega (arith, l, long) in
            subst (λ (v : ℕ). v < mesh.count + mesh.count) (sym (corner t within) ∙ get_or_default lifts t 0 d l)
            (over_below_twice mesh.count (sheet_at turns upper ring t) (get_or ring t 0) (below t within)));
        neighbours = λ t l same.
            (let within : t < m = omega (arith, l, long) in
            let next : ℕ = next_corner true m t in
            let beside : next < m = step_within true m t within in
            over_apart mesh.count (sheet_at turns upper ring t) (sheet_at turns upper ring next) (get_or ring t 0) (get_or ring next 0)
            (below t within) (below next beside) (is.neighbours t within)
            (sym (corner t within) ∙ same ∙ ap (λ (n : ℕ). get_or lifts (next_corner true n t) 0) long ∙ corner next beside));
      }

  pub cover_valid : IsFaceList mesh → IsFaceList (cover_of mesh turns)
  cover_valid valid = record {
    faces = λ f d l.
        (let is : IsOver mesh turns f = each_over mesh turns f l in
        subst (IsFace (mesh.count + mesh.count))
        (sym (over_is mesh turns is.upper is.face is.in_list) ∙ ap (face_at (cover_of mesh turns)) (sym is.is)
        ∙ get_or_default (cover_of mesh turns).faces f [] d l)
        (face_lifted is.upper (face_at mesh is.face) (valid.faces is.face [] is.in_list)));
  }

module _ (mesh : FaceList) (turns : ℕ → ℕ → Bool) (are : AreTurns mesh turns) where
  -- ---- walks

  used_lifted : (upper : Bool) (v : ℕ) → is_used mesh v ≡ true → is_used (cover_of mesh turns) (over mesh.count upper v) ≡ true
  used_lifted upper v used =
      let found = used_corner mesh v used in
      let f : ℕ = found.0.face.0 in
      let t : ℕ = found.0.at in
      let within : t < length (face_at mesh f) = found.1.side.place in
      let b = begins_on mesh turns are (face_at mesh f) t upper in
      let is = over_is mesh turns b.0 f found.1.side.face in
      let long = length-lifted turns mesh.count b.0 (face_at mesh f) in
      let there : is_used (cover_of mesh turns) (get_or (lifted turns mesh.count b.0 (face_at mesh f)) t 0) ≡ true =
      subst (λ (r : List ℕ). is_used (cover_of mesh turns) (get_or r t 0) ≡ true) is
      (edges.corner_used (cover_of mesh turns) (face_over (length mesh.faces) b.0 f) t (over_below mesh turns b.0 f found.1.side.face)
      (subst (λ (r : List ℕ). t < length r) (sym is) (omega (arith, within, long)))) in
      let same : get_or (lifted turns mesh.count b.0 (face_at mesh f)) t 0 ≡ over mesh.count upper v = grind (arith, entry, over) in
      subst (λ (a : ℕ). is_used (cover_of mesh turns) a ≡ true) same there

  pub walk_lifted : (upper : Bool) (walk : List ℕ) → IsWalk mesh walk → IsWalk (cover_of mesh turns) (lifted turns mesh.count upper walk)
  walk_lifted upper walk w =
      let lifts : List ℕ = lifted turns mesh.count upper walk in
      let long : length lifts ≡ length walk = length-lifted turns mesh.count upper walk in
      let corner : (t : ℕ) → t < length walk → get_or lifts t 0 ≡ over mesh.count (sheet_at turns upper walk t) (get_or walk t 0) =
      entry turns mesh.count upper walk in
      record {
        starts = omega (arith, w.starts, long);
        used = λ k d l.
            (let within : k < length walk = omega (arith, l, long) in
            subst (λ (a : ℕ). is_used (cover_of mesh turns) a ≡ true) (sym (corner k within) ∙ get_or_default lifts k 0 d l)
            (used_lifted (sheet_at turns upper walk k) (get_or walk k 0) (w.used k 0 within)));
        edges = λ k l.
            (let next : k + 1 < length walk = omega (arith, l, long) in
            let s : Bool = sheet_at turns upper walk k in
            let head : get_or lifts (k + 1) 0
            ≡ over mesh.count (sheet_behind turns s (get_or walk k 0) (get_or walk (k + 1) 0)) (get_or walk (k + 1) 0) =
            corner (k + 1) next
            ∙ ap (λ (b : Bool). over mesh.count b (get_or walk (k + 1) 0)) (next_sheet turns upper walk k next) in
            subst (λ (a : ℕ). is_edge (cover_of mesh turns) a (get_or lifts (k + 1) 0) ≡ true) (sym (corner k (omega (arith, next))))
            (subst (λ (b : ℕ). is_edge (cover_of mesh turns) (over mesh.count s (get_or walk k 0)) b ≡ true) (sym head)
            (edge_lifted mesh turns are s (get_or walk k 0) (get_or walk (k + 1) 0) (w.edges k (omega (arith, next))))));
      }

  -- ---- moves

  -- a move over one of the mesh, where the part that it replaces is lifted from a sheet; and both parts lead from one vertex to another,
  -- and on to one sheet
  record IsLiftedTo (move : Move) (upper : Bool) (part other : List ℕ) : Type 0 where
    pub lift : Move
    pub place : place_of_move lift ≡ place_of_move move
    pub replaces : Replaces (cover_of mesh turns) lift (lifted turns mesh.count upper part) (lifted turns mesh.count upper other)
    pub start : ℕ
    pub rest : List ℕ
    pub others : List ℕ
    pub part_is : part ≡ start ∷ rest
    pub other_is : other ≡ start ∷ others
    pub ends : end_from start rest ≡ end_from start others
    pub sheets : run (sheet_behind turns) upper start rest ≡ run (sheet_behind turns) upper start others

  move_lifted : (move : Move) (upper : Bool) (part other : List ℕ) → Replaces mesh move part other → IsLiftedTo move upper part other
  move_lifted (Insert at via) upper part other h =
      let here : ℕ = h.0 in
      let s : Bool = sheet_behind turns upper here via.0 in
      let home : sheet_behind turns s via.0 here ≡ upper = back turns are.turned upper here via.0 in
      record {
        lift = Insert at (record { 0 = over mesh.count s via.0 });
        place = refl;
        replaces = (
          over mesh.count upper here,
          edge_lifted mesh turns are upper here via.0 h.1,
          ap (lifted turns mesh.count upper) h.2,
          ap (lifted turns mesh.count upper) h.3
              ∙ ap (λ (b : Bool). over mesh.count upper here ∷ over mesh.count s via.0 ∷ over mesh.count b here ∷ []) home,
        );
        start = here;
        rest = [];
        others = via.0 ∷ here ∷ [];
        part_is = h.2;
        other_is = h.3;
        ends = refl;
        sheets = sym home;
      }
  move_lifted (Remove at via) upper part other h =
      let here : ℕ = h.0 in
      let s : Bool = sheet_behind turns upper here via.0 in
      let home : sheet_behind turns s via.0 here ≡ upper = back turns are.turned upper here via.0 in
      record {
        lift = Remove at (record { 0 = over mesh.count s via.0 });
        place = refl;
        replaces = (
          over mesh.count upper here,
          ap (lifted turns mesh.count upper) h.1
              ∙ ap (λ (b : Bool). over mesh.count upper here ∷ over mesh.count s via.0 ∷ over mesh.count b here ∷ []) home,
          ap (lifted turns mesh.count upper) h.2,
        );
        start = here;
        rest = via.0 ∷ here ∷ [];
        others = [];
        part_is = h.1;
        other_is = h.2;
        ends = refl;
        sheets = home;
      }
  move_lifted (Across at face corner forward taken) upper part other h =
      let ring : List ℕ = face_at mesh face.0 in
      let m : ℕ = length ring in
      let left : ℕ = m - taken in
      let b = begins_on mesh turns are ring corner upper in
      let home = λ (s : Bool). are.round face.0 s h.0 in
      let g : ℕ = face_over (length mesh.faces) b.0 face.0 in
      let is : face_at (cover_of mesh turns) g ≡ lifted turns mesh.count b.0 ring = over_is mesh turns b.0 face.0 h.0 in
      let long : length (lifted turns mesh.count b.0 ring) ≡ m = length-lifted turns mesh.count b.0 ring in
      let way : (rising : Bool) (k : ℕ) → lifted turns mesh.count upper (corners_from ring rising corner k)
      ≡ corners_from (lifted turns mesh.count b.0 ring) rising corner k =
      λ rising k. ap (λ (s : Bool). lifted turns mesh.count s (corners_from ring rising corner k)) (sym b.1)
      ∙ way_lifted turns are.turned mesh.count ring b.0 rising corner k home h.1 in
      let ended : (rising : Bool) (k : ℕ) → run (sheet_behind turns) upper (get_or ring corner 0) (vertices_beyond ring rising corner k)
      ≡ sheet_at turns b.0 ring (corner_after rising m corner k) =
      λ rising k. ap (λ (s : Bool). run (sheet_behind turns) s (get_or ring corner 0) (vertices_beyond ring rising corner k)) (sym b.1)
      ∙ way_ends turns are.turned ring b.0 rising corner k home h.1 in
      let meets : corner_after forward m corner taken ≡ corner_after (not forward) m corner left = meet forward m corner taken h.1 h.2 in
      record {
        lift = Across at (record { 0 = g }) corner forward taken;
        place = refl;
        replaces = (
          over_below mesh turns b.0 face.0 h.0,
          subst (λ (r : List ℕ). corner < length r) (sym is) (omega (arith, h.1, long)),
          subst (λ (r : List ℕ). taken ≤ length r) (sym is) (omega (arith, h.2, long)),
          ap (lifted turns mesh.count upper) h.3 ∙ way forward taken ∙ ap (λ (r : List ℕ). corners_from r forward corner taken) (sym is),
          ap (lifted turns mesh.count upper) h.4 ∙ way (not forward) left
              ∙ ap (λ (n : ℕ). corners_from (lifted turns mesh.count b.0 ring) (not forward) corner (n - taken)) (sym long)
              ∙ ap (λ (r : List ℕ). corners_from r (not forward) corner (length r - taken)) (sym is),
        );
        start = get_or ring corner 0;
        rest = vertices_beyond ring forward corner taken;
        others = vertices_beyond ring (not forward) corner left;
        part_is = h.3 ∙ corners_beyond ring forward corner taken;
        other_is = h.4 ∙ corners_beyond ring (not forward) corner left;
        ends =
            end_beyond ring forward corner taken ∙ ap (λ (k : ℕ). get_or ring k 0) meets
            ∙ sym (end_beyond ring (not forward) corner left);
        sheets = ended forward taken ∙ ap (sheet_at turns b.0 ring) meets ∙ sym (ended (not forward) left);
      }

  -- the lift of a walk in three parts
  in_parts : (upper : Bool) (before : List ℕ) (start : ℕ) (rest after part : List ℕ) → part ≡ start ∷ rest
      → lifted turns mesh.count upper (before ++ part ++ after)
      ≡ lifted turns mesh.count upper before
      ++ lifted turns mesh.count (walked (sheet_behind turns) upper (before ++ start ∷ [])) part
      ++ lifted_behind turns mesh.count
      (run (sheet_behind turns) (walked (sheet_behind turns) upper (before ++ start ∷ [])) start rest) (end_from start rest) after
  in_parts upper before start rest after part is =
      let s : Bool = walked (sheet_behind turns) upper (before ++ start ∷ []) in
      let L : List ℕ → List ℕ = lifted turns mesh.count s in
      let front : List ℕ = lifted turns mesh.count upper before in
      let behind : List ℕ = lifted_behind turns mesh.count (run (sheet_behind turns) s start rest) (end_from start rest) after in
      ap (lifted turns mesh.count upper) (at_first before part after rest start is)
      ∙ front_lifted turns mesh.count upper before start (rest ++ after)
      ∙ ap (λ (l : List ℕ). front ++ over mesh.count s start ∷ l) (rest_lifted turns mesh.count s start rest after)
      ∙ sym (append_assoc front (L (start ∷ rest)) behind)
      ∙ ap (λ (l : List ℕ). front ++ L l ++ behind) (sym is)

  one_lifted : (upper : Bool) (walk next : List ℕ) (move : Move) → 0 < length walk → apply mesh walk move ≡ Some next
      → (lift : Move) × (apply (cover_of mesh turns) (lifted turns mesh.count upper walk) lift ≡ Some (lifted turns mesh.count upper next))
  one_lifted upper walk next move start e =
      let L : List ℕ → List ℕ = lifted turns mesh.count upper in
      let r : IsReplacement mesh move walk next = (by_replacing mesh walk next move start).0 e in
      let found : (v : ℕ) × (rest : List ℕ) × (r.part ≡ v ∷ rest) = first_of move r.part r.other r.replaces in
      let s : Bool = walked (sheet_behind turns) upper (r.before ++ found.0 ∷ []) in
      let is : IsLiftedTo move s r.part r.other = move_lifted move s r.part r.other r.replaces in
      let same : is.start ≡ found.0 = heads is.start found.0 is.rest found.1 (sym is.part_is ∙ found.2) in
      let sheet : s ≡ walked (sheet_behind turns) upper (r.before ++ is.start ∷ []) =
      ap (λ (v : ℕ). walked (sheet_behind turns) upper (r.before ++ v ∷ [])) (sym same) in
      let behind : List ℕ =
      lifted_behind turns mesh.count (run (sheet_behind turns) s is.start is.rest) (end_from is.start is.rest) r.after in (
        is.lift,
        (by_replacing (cover_of mesh turns) (L walk) (L next) is.lift
            (omega (arith, start, length-lifted turns mesh.count upper walk))).1 (record {
              before = L r.before;
              part = lifted turns mesh.count s r.part;
              other = lifted turns mesh.count s r.other;
              after = behind;
              walk_is =
                  ap L r.walk_is ∙ in_parts upper r.before is.start is.rest r.after r.part is.part_is
                  ∙ ap (λ (b : Bool). L r.before ++ lifted turns mesh.count b r.part
                  ++ lifted_behind turns mesh.count (run (sheet_behind turns) b is.start is.rest) (end_from is.start is.rest) r.after)
                  (sym sheet);
              next_is =
                  ap L r.next_is ∙ in_parts upper r.before is.start is.others r.after r.other is.other_is
                  ∙ ap (λ (b : Bool). L r.before ++ lifted turns mesh.count b r.other
                  ++ lifted_behind turns mesh.count (run (sheet_behind turns) b is.start is.others) (end_from is.start is.others) r.after)
                  (sym sheet)
                  ∙ ap (λ (b : Bool). L r.before ++ lifted turns mesh.count s r.other
                  ++ lifted_behind turns mesh.count b (end_from is.start is.others) r.after) (sym is.sheets)
                  ∙ ap (λ (v : ℕ). L r.before ++ lifted turns mesh.count s r.other
                  ++ lifted_behind turns mesh.count (run (sheet_behind turns) s is.start is.rest) v r.after) (sym is.ends);
              place = length-lifted turns mesh.count upper r.before ∙ r.place ∙ sym is.place;
              replaces = is.replaces;
            }),
      )
    where
      first_of : (move : Move) (part other : List ℕ) → Replaces mesh move part other → (v : ℕ) × (rest : List ℕ) × (part ≡ v ∷ rest)
      first_of (Insert at via) part other h = (h.0, [], h.2)
      first_of (Remove at via) part other h = (h.0, via.0 ∷ h.0 ∷ [], h.1)
      first_of (Across at face corner forward taken) part other h = (
        get_or (face_at mesh face.0) corner 0,
        vertices_beyond (face_at mesh face.0) forward corner taken,
        h.3 ∙ corners_beyond (face_at mesh face.0) forward corner taken,
      )

      heads : (a b : ℕ) (x y : List ℕ) → a ∷ x ≡ b ∷ y → a ≡ b
      heads a b x y e = cc

  -- a list of moves of the mesh is lifted
  pub moves_lifted : (upper : Bool) (moves : List Move) (walk next : List ℕ) → 0 < length walk → apply_all mesh walk moves ≡ Some next
      → Homotopic (cover_of mesh turns) (lifted turns mesh.count upper walk) (lifted turns mesh.count upper next)
  moves_lifted upper [] walk next start e = grind (arith, lifted)
  moves_lifted upper (move ∷ moves) walk next start e =
      let told = first_answer (λ x. apply_all mesh x moves) (apply mesh walk move) next e in
      let one = one_lifted upper walk told.0 move start told.1 in
      let more = moves_lifted upper moves told.0 next (stays_walk mesh walk told.0 move start told.1) told.2 in
      (one.0 ∷ more.0, rw one.1 more.1)

-- walks are homotopic exactly where their lifts are
pub homotopy_kept : (mesh : FaceList) (turns : ℕ → ℕ → Bool) (upper : Bool) (first second : List ℕ) → IsFaceList mesh → AreTurns mesh turns
    → IsWalk mesh first → IsWalk mesh second
    → Homotopic (cover_of mesh turns) (lifted turns mesh.count upper first) (lifted turns mesh.count upper second)
    ↔ Homotopic mesh first second
homotopy_kept mesh turns upper first second valid are w v = (
  λ h.
      subst (λ (l : List ℕ). Homotopic mesh l second) (walk_under mesh turns upper first valid w)
      (subst (Homotopic mesh _) (walk_under mesh turns upper second valid v) (
        _,
        moves_under mesh turns valid h.0 (lifted turns mesh.count upper first) (lifted turns mesh.count upper second)
            (walk_lifted mesh turns are upper first w).starts h.1,
      )),
  λ h. moves_lifted mesh turns are upper h.0 first second w.starts h.1,
)
