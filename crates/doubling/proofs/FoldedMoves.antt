-- Moves of the double, folded: a list of them becomes one of the mesh, between the folds of its two walks. For the darts of the double act
-- on walks of the mesh, where homotopic ones are taken for the same: the fold of the second vertex is put behind, unless it is there.
use Rattle.doubling.proofs.Common.{edge_differs, mirror, mirror_face, double_of, fold, steps_behind, folded, ◌≡◌, ◌≢◌, inl, inr, ℕ, zero, suc, ◌-◌, ◌<◌, Bool, true, false, not, List, [], ◌∷◌, ◌++◌, length, map, get_or, refl, ap, ap₂, sym, ◌∙◌, subst, arith, append_assoc, cases_eq, eq-eqb, ne_eqb, append-nil, length-append, Some, ◌==◌, if◌then◌else◌, list_in_context, one_after_another, edge_swap, step_within, tail_used, head_used, used_below, Linked, links, round_linked, by_replacing, length-corners_from, first_corner, FaceList, IsFaceList, face_at, corners_from, next_corner, is_edge, apply, Leads, Homotopic, Replaces, place_of_move, IsWalk, Move, Insert, Remove, Across, corners_beyond, walked-round}
use Rattle.std.proofs.Math.Bool.{not-not}
use Rattle.surf_model.proofs.WayBackLemmas.{list_keeps_walk, list_keeps_ends}
use Rattle.surf_model.specs.Rewriting.{all_raised}
use Rattle.walk_actions.proofs.Actions.{moves_act, crosses_any}
use Rattle.walk_actions.specs.Actions.{run, walked, vertices_beyond, Acts, RoundIsNothing, FacesActAsNothing}
use Rattle.doubling.proofs.DoubleFaces.{IsRimQuad, kinds, length-mirror_face, mirror_next}
use Rattle.doubling.proofs.RepeatLemmas.{fold_kept, fold_mirror, linked_repeats, linked_folds}
use Rattle.doubling.proofs.FoldedSides.{FoldsToEdge, mirror_folds, edge_folds}

-- ---- homotopic walks

one_move : (mesh : FaceList) (move : Move) (part other : List ℕ) → 0 < length part → 0 ≡ place_of_move move → Replaces mesh move part other
    → Homotopic mesh part other
one_move mesh move part other some place replaces =
    let e : apply mesh part move ≡ Some other = (by_replacing mesh part other move some).1 (record {
      before = [];
      part = part;
      other = other;
      after = [];
      walk_is = sym (append-nil part);
      next_is = sym (append-nil other);
      place = place;
      replaces = replaces;
    }) in
    (move ∷ [], rw e refl)

joined : (mesh : FaceList) (first second third : List ℕ) → Homotopic mesh first second → Homotopic mesh second third
    → Homotopic mesh first third
joined mesh first second third h k = (h.0 ++ k.0, one_after_another mesh h.0 k.0 first second third h.1 k.1)

-- there and back
abbrev Both : FaceList → List ℕ → List ℕ → Type 0
Both mesh first second = Homotopic mesh first second × Homotopic mesh second first

-- in a longer walk
between : (mesh : FaceList) (before first second after : List ℕ) → 0 < length first → 0 < length second → Both mesh first second
    → Both mesh (before ++ first ++ after) (before ++ second ++ after)
between mesh before first second after some more h = (
  (all_raised (length before) h.0.0, list_in_context mesh h.0.0 first second before after some h.0.1),
  (all_raised (length before) h.1.0, list_in_context mesh h.1.0 second first before after more h.1.1),
)

behind : (mesh : FaceList) (before first second : List ℕ) → 0 < length first → 0 < length second → Both mesh first second
    → Both mesh (before ++ first) (before ++ second)
behind mesh before first second some more h =
    subst (λ (l : List ℕ). Both mesh l (before ++ second)) (append-nil (before ++ first))
    (subst (Both mesh (before ++ first ++ [])) (append-nil (before ++ second)) (between mesh before first second [] some more h))

-- a spur is as good as its vertex
spur : (mesh : FaceList) (a b : ℕ) → is_edge mesh a b ≡ true → Both mesh (a ∷ b ∷ a ∷ []) (a ∷ [])
spur mesh a b is = (
  one_move mesh (Remove 0 (record { 0 = b })) (a ∷ b ∷ a ∷ []) (a ∷ []) (omega arith) refl (a, refl, refl),
  one_move mesh (Insert 0 (record { 0 = b })) (a ∷ []) (a ∷ b ∷ a ∷ []) (omega arith) refl (a, is, refl, refl),
)

some_corners : (ring : List ℕ) (rising : Bool) (t k : ℕ) → 0 < length (corners_from ring rising t k)
some_corners ring rising t k = omega (arith, length-corners_from ring rising t k)

-- and once round a face as good as the corner where it starts
once_round : (mesh : FaceList) (f : ℕ) (rising : Bool) (t : ℕ) → f < length mesh.faces → t < length (face_at mesh f)
    → Both mesh (corners_from (face_at mesh f) rising t (length (face_at mesh f))) (get_or (face_at mesh f) t 0 ∷ [])
once_round mesh f rising t l b =
    let ring : List ℕ = face_at mesh f in
    let m : ℕ = length ring in
    let none : m - m ≡ 0 = omega arith in
    let all : m - 0 ≡ m = omega arith in (
      one_move mesh (Across 0 (record { 0 = f }) t rising m) (corners_from ring rising t m) (get_or ring t 0 ∷ [])
          (some_corners ring rising t m) refl
          (l, b, omega arith, refl, sym (ap (corners_from ring (not rising) t) none)),
      one_move mesh (Across 0 (record { 0 = f }) t (not rising) 0) (get_or ring t 0 ∷ []) (corners_from ring rising t m) (omega arith) refl
          (l, b, omega arith, refl, sym (ap₂ (λ (r : Bool) (k : ℕ). corners_from ring r t k) (not-not rising) all)),
    )

-- ---- folds of ways round faces

-- a way along edges of the mesh is its own fold
folded_linked : (mesh : FaceList) (walk rest : List ℕ) (x : ℕ) → IsFaceList mesh → walk ≡ x ∷ rest → x < mesh.count → Linked mesh walk
    → folded mesh.count walk ≡ walk
folded_linked mesh walk rest x valid begins l linked = grind (arith, linked_folds, linked_repeats)

folded_round : (mesh : FaceList) (f : ℕ) (rising : Bool) (t k : ℕ) → IsFaceList mesh → f < length mesh.faces → t < length (face_at mesh f)
    → folded mesh.count (corners_from (face_at mesh f) rising t k) ≡ corners_from (face_at mesh f) rising t k
folded_round mesh f rising t k valid l b =
    let begins = first_corner (face_at mesh f) rising t k in
    folded_linked mesh (corners_from (face_at mesh f) rising t k) begins.0 (get_or (face_at mesh f) t 0) valid begins.1
    ((valid.faces f [] l).in_range t 0 b) (round_linked mesh f rising t k l b)

-- a way round a mirror is folded to the way round the face the other way
pub mirror_round : (count : ℕ) (face : List ℕ) (rising : Bool) (t k : ℕ) → t < length face
    → map (fold count) (corners_from (mirror_face count face) rising t k) ≡ corners_from face (not rising) (length face - 1 - t) k
mirror_round count face rising t zero l = ap (λ x. x ∷ []) (mirror_folds count face t l)
mirror_round count face rising t (suc k) l =
    let m : ℕ = length face in
    let size : length (mirror_face count face) ≡ m = length-mirror_face count face in
    ap (λ x. x ∷ map (fold count) (corners_from (mirror_face count face) rising (next_corner rising (length (mirror_face count face)) t) k))
    (mirror_folds count face t l)
    ∙ ap (λ n. get_or face (m - 1 - t) 0 ∷ map (fold count) (corners_from (mirror_face count face) rising (next_corner rising n t) k)) size
    ∙ ap (λ (l : List ℕ). get_or face (m - 1 - t) 0 ∷ l)
    (mirror_round count face rising (next_corner rising m t) k (step_within rising m t l)
    ∙ ap (λ n. corners_from face (not rising) n k) (mirror_next rising m t l))

folded_mirror : (mesh : FaceList) (f : ℕ) (rising : Bool) (t k : ℕ) → IsFaceList mesh → f < length mesh.faces
    → t < length (face_at mesh f)
    → folded mesh.count (corners_from (mirror_face mesh.count (face_at mesh f)) rising t k)
    ≡ corners_from (face_at mesh f) (not rising) (length (face_at mesh f) - 1 - t) k
folded_mirror mesh f rising t k valid l b = grind (arith, mirror_round, linked_repeats, round_linked)

-- ---- darts of the double act on walks of the mesh

-- what a dart makes of a walk that ends at the fold of its first vertex
abbrev pub step : FaceList → List ℕ → ℕ → ℕ → List ℕ
step mesh walk u v = if fold mesh.count v == fold mesh.count u then walk else walk ++ fold mesh.count v ∷ []

abbrev EndsOver : FaceList → ℕ → List ℕ → Type 0
EndsOver mesh u walk = (front : List ℕ) × (walk ≡ front ++ fold mesh.count u ∷ [])

some_entry : (mesh : FaceList) (u : ℕ) (walk : List ℕ) → EndsOver mesh u walk → 0 < length walk
some_entry mesh u walk at = rw (at.1, length-append) (omega arith)

-- a walk of the double puts its fold behind
pub puts_fold : (mesh : FaceList) (walk : List ℕ) (u : ℕ) (vs : List ℕ)
    → run (step mesh) walk u vs ≡ walk ++ steps_behind (fold mesh.count u) (map (fold mesh.count) vs)
puts_fold mesh walk u [] = sym (append-nil walk)
puts_fold mesh walk u (v ∷ vs) =
    let F : ℕ → ℕ = fold mesh.count in
    elim (cases_eq (F v) (F u)) [
      | inl same ↦
          (let test : (F v == F u) ≡ true = eq-eqb (F v) (F u) same in
          rw test (puts_fold mesh walk v vs ∙ ap (λ w. walk ++ steps_behind w (map F vs)) same))
      | inr other ↦
          (let test : (F v == F u) ≡ false = ne_eqb (F v) (F u) other in
          rw test (puts_fold mesh (walk ++ F v ∷ []) v vs ∙ append_assoc walk (F v ∷ []) (steps_behind (F v) (map F vs))))
    ]

stays : (mesh : FaceList) (u v : ℕ) (walk : List ℕ) → EndsOver mesh u walk → EndsOver mesh v (step mesh walk u v)
stays mesh u v walk at =
    let F : ℕ → ℕ = fold mesh.count in
    elim (cases_eq (F v) (F u)) [
      | inl same ↦
          (let test : (F v == F u) ≡ true = eq-eqb (F v) (F u) same in
          rw test (at.0, at.1 ∙ ap (λ w. at.0 ++ w ∷ []) (sym same)))
      | inr other ↦
          (let test : (F v == F u) ≡ false = ne_eqb (F v) (F u) other in
          rw test (walk, refl))
    ]

keeps : (mesh : FaceList) (u v : ℕ) (walk other : List ℕ) → EndsOver mesh u walk → EndsOver mesh u other → Both mesh walk other
    → Both mesh (step mesh walk u v) (step mesh other u v)
keeps mesh u v walk other at there h =
    let F : ℕ → ℕ = fold mesh.count in
    elim (cases_eq (F v) (F u)) [
      | inl same ↦
          (let test : (F v == F u) ≡ true = eq-eqb (F v) (F u) same in
          rw test h)
      | inr differ ↦
          (let test : (F v == F u) ≡ false = ne_eqb (F v) (F u) differ in
          rw test (between mesh [] walk other (F v ∷ []) (some_entry mesh u walk at) (some_entry mesh u other there) h))
    ]

-- an edge with two folds lies over one of the mesh
over : (mesh : FaceList) (u v : ℕ) → FoldsToEdge mesh u v → fold mesh.count v ≢ fold mesh.count u
    → is_edge mesh (fold mesh.count u) (fold mesh.count v) ≡ true
over mesh u v (inl same) other = absurd (other (sym same))
over mesh u v (inr is) other = is

back : (mesh : FaceList) (u v : ℕ) (walk : List ℕ) → IsFaceList mesh → is_edge (double_of mesh) u v ≡ true → EndsOver mesh u walk
    → Both mesh (step mesh (step mesh walk u v) v u) walk
back mesh u v walk valid dart at =
    let F : ℕ → ℕ = fold mesh.count in
    elim (cases_eq (F v) (F u)) [
      | inl same ↦
          (let there : (F v == F u) ≡ true = eq-eqb (F v) (F u) same in
          let home : (F u == F v) ≡ true = eq-eqb (F u) (F v) (sym same) in
          rw (there, home) (([], refl), ([], refl)))
      | inr other ↦
          (let there : (F v == F u) ≡ false = ne_eqb (F v) (F u) other in
          let home : (F u == F v) ≡ false = ne_eqb (F u) (F v) (λ same. other (sym same)) in
          let long : walk ++ F v ∷ [] ++ F u ∷ [] ≡ at.0 ++ (F u ∷ F v ∷ F u ∷ []) =
          ap (λ (l : List ℕ). l ++ F v ∷ [] ++ F u ∷ []) at.1 ∙ simp append_assoc in
          rw (there, home)
          (subst (λ (l : List ℕ). Both mesh l walk) (sym long)
          (subst (Both mesh (at.0 ++ (F u ∷ F v ∷ F u ∷ []))) (sym at.1)
          (behind mesh at.0 (F u ∷ F v ∷ F u ∷ []) (F u ∷ []) (omega arith) (omega arith)
          (spur mesh (F u) (F v) (over mesh u v (edge_folds mesh u v valid dart) other))))))
    ]

fold_acts : (mesh : FaceList) → IsFaceList mesh → Acts (double_of mesh) (Both mesh) (step mesh) (EndsOver mesh)
fold_acts mesh valid = record {
  itself = λ u s at. (([], refl), ([], refl));
  turned = λ u s t one two h. (h.1, h.0);
  joined = λ u r s t one two three h k. (joined mesh r s t h.0 k.0, joined mesh t s r k.1 h.1);
  stays = λ u v s dart at. stays mesh u v s at;
  keeps = λ u v s t dart at there h. keeps mesh u v s t at there h;
  back = λ u v s dart at. back mesh u v s valid dart at;
}

-- ---- once round a face of the double changes nothing

abbrev OnceIsNothing : FaceList → List ℕ → Type 0
OnceIsNothing mesh ring =
    (rising : Bool) × (corner : ℕ) × (corner < length ring) × RoundIsNothing (Both mesh) (step mesh) (EndsOver mesh) ring rising corner

-- where its fold is as good as the fold of the corner
nothing_round : (mesh : FaceList) (ring : List ℕ) (rising : Bool) (t : ℕ) → t < length ring
    → Both mesh (folded mesh.count (corners_from ring rising t (length ring))) (fold mesh.count (get_or ring t 0) ∷ [])
    → OnceIsNothing mesh ring
nothing_round mesh ring rising t l h = (
  rising,
  t,
  l,
  λ walk at. (
      let F : ℕ → ℕ = fold mesh.count in
      let round : List ℕ = corners_from ring rising t (length ring) in
      let steps : List ℕ = steps_behind (F (get_or ring t 0)) (map F (vertices_beyond ring rising t (length ring))) in
      let long : walked (step mesh) walk round ≡ at.0 ++ folded mesh.count round =
      walked-round (step mesh) walk ring rising t (length ring)
      ∙ puts_fold mesh walk (get_or ring t 0) (vertices_beyond ring rising t (length ring))
      ∙ ap (λ (l : List ℕ). l ++ steps) at.1
      ∙ append_assoc at.0 (F (get_or ring t 0) ∷ []) steps
      ∙ ap (λ (l : List ℕ). at.0 ++ folded mesh.count l) (sym (corners_beyond ring rising t (length ring))) in
      let some : 0 < length (folded mesh.count round) =
      subst (λ (l : List ℕ). 0 < length (folded mesh.count l)) (sym (corners_beyond ring rising t (length ring))) (omega arith) in
      subst (λ (l : List ℕ). Both mesh l walk) (sym long)
      (subst (Both mesh (at.0 ++ folded mesh.count round)) (sym at.1)
      (behind mesh at.0 (folded mesh.count round) (F (get_or ring t 0) ∷ []) some (omega arith) h))),
)

once_kept : (mesh : FaceList) (f : ℕ) → IsFaceList mesh → f < length mesh.faces → OnceIsNothing mesh (face_at mesh f)
once_kept mesh f valid l =
    let ring : List ℕ = face_at mesh f in
    let is = valid.faces f [] l in
    let some : 0 < length ring = omega (arith, is.polygon) in
    nothing_round mesh ring true 0 some
    (rw (folded_round mesh f true 0 (length ring) valid l some, fold_kept mesh.count (get_or ring 0 0) (is.in_range 0 0 some))
    (once_round mesh f true 0 l some))

-- a mirror is folded to its face, gone round the other way
once_mirror : (mesh : FaceList) (f : ℕ) → IsFaceList mesh → f < length mesh.faces
    → OnceIsNothing mesh (mirror_face mesh.count (face_at mesh f))
once_mirror mesh f valid l =
    let ring : List ℕ = face_at mesh f in
    let whole : List ℕ = mirror_face mesh.count ring in
    let size : length whole ≡ length ring = length-mirror_face mesh.count ring in
    let some : 0 < length ring = omega (arith, (valid.faces f [] l).polygon) in
    nothing_round mesh whole true 0 (omega (arith, some, size))
    (rw (size, folded_mirror mesh f true 0 (length ring) valid l some, mirror_folds mesh.count ring 0 some)
    (once_round mesh f false (length ring - 1 - 0) l (omega arith)))

-- a quad is folded to a spur
once_quad : (mesh : FaceList) (ring : List ℕ) → IsFaceList mesh → IsRimQuad mesh ring → OnceIsNothing mesh ring
once_quad mesh ring valid is =
    let u : ℕ = is.tail in
    let v : ℕ = is.head in
    let quad : List ℕ = v ∷ u ∷ mirror mesh.count u ∷ mirror mesh.count v ∷ [] in
    let low : fold mesh.count u ≡ u = fold_kept mesh.count u (used_below mesh u valid (tail_used mesh u v is.edge)) in
    let high : fold mesh.count v ≡ v = fold_kept mesh.count v (used_below mesh v valid (head_used mesh u v is.edge)) in
    let there : (u == v) ≡ false = ne_eqb u v (edge_differs mesh u v valid is.edge) in
    let home : (v == u) ≡ false = ne_eqb v u (λ same. edge_differs mesh u v valid is.edge (sym same)) in
    let alone : (u == u) ≡ true = eq-eqb u u refl in
    let last : (v == v) ≡ true = eq-eqb v v refl in
    let folds : folded mesh.count (corners_from quad true 0 4) ≡ v ∷ u ∷ v ∷ [] = grind (arith, fold_mirror) in
    subst (OnceIsNothing mesh) (sym is.ring_is)
    (nothing_round mesh quad true 0 (omega arith)
    (rw (folds, high) (spur mesh v u (edge_swap mesh v u ∙ is.edge))))

faces_fold : (mesh : FaceList) → IsFaceList mesh
    → FacesActAsNothing (double_of mesh) (Both mesh) (step mesh) (EndsOver mesh) (λ (f : ℕ). Unit {0})
faces_fold mesh valid = record {
  round = λ f l may.
      elim (kinds mesh f l) [
        | inl kept ↦ subst (OnceIsNothing mesh) (sym kept.ring_is) (once_kept mesh f valid kept.in_list)
        | inr others ↦ elim others [
          | inl mirrored ↦ subst (OnceIsNothing mesh) (sym mirrored.ring_is) (once_mirror mesh mirrored.face valid mirrored.in_list)
          | inr quad ↦ once_quad mesh (face_at (double_of mesh) f) valid quad
        ]
      ];
}

-- ---- moves

folds_lead : (mesh : FaceList) (moves : List Move) (walk next : List ℕ) → IsFaceList mesh → IsWalk (double_of mesh) walk → 0 < length next
    → Leads (double_of mesh) walk moves next → Homotopic mesh (folded mesh.count walk) (folded mesh.count next)
folds_lead mesh moves [] next valid w some e = absurd (omega (arith, w.starts))
folds_lead mesh moves (u ∷ us) [] valid w some e = absurd (omega arith)
folds_lead mesh moves (u ∷ us) (x ∷ xs) valid w some e =
    let F : ℕ → ℕ = fold mesh.count in
    let same : u ≡ x = (list_keeps_ends (double_of mesh) moves (u ∷ us) (x ∷ xs) w.starts e).starts in
    let both : Both mesh (run (step mesh) (F u ∷ []) u us) (run (step mesh) (F u ∷ []) x xs) =
    moves_act (double_of mesh) (Both mesh) (step mesh) (EndsOver mesh) (fold_acts mesh valid) (λ (f : ℕ). Unit {0}) (faces_fold mesh valid)
    moves (u ∷ us) (x ∷ xs) (F u ∷ []) w (crosses_any moves) e ([], refl) in
    let next : run (step mesh) (F u ∷ []) x xs ≡ folded mesh.count (x ∷ xs) =
    puts_fold mesh (F u ∷ []) x xs ∙ ap (λ z. F z ∷ steps_behind (F x) (map F xs)) same in
    subst (λ (l : List ℕ). Homotopic mesh l (folded mesh.count (x ∷ xs))) (puts_fold mesh (F u ∷ []) u us)
    (subst (Homotopic mesh (run (step mesh) (F u ∷ []) u us)) next both.0)

pub moves_fold : (mesh : FaceList) (moves : List Move) (walk next : List ℕ) → IsFaceList mesh → IsWalk (double_of mesh) walk
    → Leads (double_of mesh) walk moves next → Homotopic mesh (folded mesh.count walk) (folded mesh.count next)
moves_fold mesh moves walk next valid w e =
    folds_lead mesh moves walk next valid w (list_keeps_walk (double_of mesh) moves walk next w e).starts e

-- a walk of the mesh is its own fold
pub walk_folds : (mesh : FaceList) (walk : List ℕ) → IsFaceList mesh → IsWalk mesh walk → folded mesh.count walk ≡ walk
walk_folds mesh [] valid w = refl
walk_folds mesh (x ∷ rest) valid w =
    folded_linked mesh (x ∷ rest) rest x valid refl (used_below mesh x valid (w.used 0 0 (omega arith))) (links mesh (x ∷ rest) w)
