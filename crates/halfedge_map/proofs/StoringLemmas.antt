-- The maps on the darts, written dart after dart.
use Rattle.halfedge_map.proofs.Common.{darts_of, side_of, next_of, origin_of, start_corner_of, OrientedMesh, ListNexts, ListOrigins, KeepOrigins, signed, ◌≡◌, ℕ, ◌+◌, ◌<◌, ◌≤◌, true, false, not, cond, List, [], ◌∷◌, ◌++◌, length, get_or, refl, ap, sym, ◌∙◌, subst, arith, common_steps, first_side, IsSide, side_number, tail_of, FaceList, face_at, next_corner, total_sides, is_flipped, Side, DartName}
use Rattle.halfedge_map.specs.declared.darts.Origins.{Origins}
use Rattle.halfedge_map.specs.declared.darts.Origins.TheVariants.{AsListed, Stored}
use Rattle.std.proofs.lemmas.List.Sums.{sum_by_more}
use Rattle.surf_model.specs.declared.limits.TheConstants.{MOST_SIDES}
use Rattle.surf_model.specs.declared.names.VertexName.{VertexName}
use Rattle.halfedge_map.proofs.NumberLemmas.{IsNumberOf, HasPlace, number_below, placed}
use Rattle.halfedge_map.proofs.DartLemmas.{corners, vertex_at, next_at, origin_at, start_at, start_place, start_kept}

pub first_side-more : (mesh : FaceList) (f : ℕ) → f < length mesh.faces
    → first_side mesh (f + 1) ≡ first_side mesh f + length (face_at mesh f)
first_side-more mesh f l = sum_by_more {X = List ℕ} length mesh.faces f [] l

-- one entry more at the end of a list whose entries have, place by place, the numbers that a map gives
entry_more : {X : Type 0} (number : X → ℕ) (map : ℕ → ℕ) (n : ℕ) (xs : List X) (x none : X) → length xs ≡ n
    → ((d : ℕ) → d < n → number (get_or xs d none) ≡ map d) → number x ≡ map n
    → (d : ℕ) → d < n + 1 → number (get_or (xs ++ x ∷ []) d none) ≡ map d
entry_more number map n xs x none long before is d l = grind (arith, common_steps)

nexts_push : (s : OrientedMesh) (n : ℕ) (next : List DartName) (x : DartName)
    → ListNexts s n next → x.0 ≡ next_of s n → ListNexts s (n + 1) (next ++ x ∷ [])
nexts_push s n next x h is = grind (arith, common_steps, entry_more)

origins_push : (s : OrientedMesh) (n : ℕ) (origin : List VertexName) (v : VertexName)
    → ListOrigins s n origin → v.0 ≡ origin_of s n → ListOrigins s (n + 1) (origin ++ v ∷ [])
origins_push s n origin v h is = grind (arith, common_steps, entry_more)

-- the dart that follows side t of a face, put after those before it
pub nexts_more : (s : OrientedMesh) (f t : ℕ) (next : List DartName) (x : DartName)
    → f < length s.mesh.faces → t < corners s f → ListNexts s (first_side s.mesh f + t) next
    → x.0 ≡ first_side s.mesh f + next_corner (not (is_flipped s.signs f)) (corners s f) t
    → ListNexts s (first_side s.mesh f + (t + 1)) (next ++ x ∷ [])
nexts_more s f t next x l b h is = grind (arith, common_steps, first_side, nexts_push, next_at)

-- the vertex where the dart of side t of a face starts, put after those before it
pub origins_more : (s : OrientedMesh) (f t start : ℕ) (origin : List VertexName) (v : VertexName)
    → f < length s.mesh.faces → t < corners s f → ListOrigins s (first_side s.mesh f + t) origin
    → start ≡ cond (is_flipped s.signs f) (next_corner true (corners s f) t) t → v.0 ≡ vertex_at s f start
    → ListOrigins s (first_side s.mesh f + (t + 1)) (origin ++ v ∷ [])
unfolding start_place
origins_more s f t start origin v l b h is_start is =
    let d : ℕ = first_side s.mesh f + t in
    let n : IsNumberOf s.mesh f t d = record { face = l; place = b; is = refl } in
    let one : d + 1 ≡ first_side s.mesh f + (t + 1) = omega arith in
    let begins : start ≡ start_corner_of s d = is_start ∙ sym (start_at s f t d n) in
    subst (λ m. ListOrigins s m (origin ++ v ∷ [])) one
    (origins_push s d origin v h (is ∙ ap (vertex_at s f) begins ∙ sym (origin_at s f t d n)))

-- the table plays no part
pub nexts_signed : (s : OrientedMesh) (n : ℕ) (next : List DartName) → ListNexts (signed s.mesh s.signs) n next → ListNexts s n next
unfolding next_of side_of
nexts_signed s n next h = record { long = h.long; nexts = h.nexts }

pub origins_signed : (s : OrientedMesh) (n : ℕ) (origins : Origins) → KeepOrigins (signed s.mesh s.signs) n origins
    → KeepOrigins s n origins
unfolding origin_of side_of
origins_signed s n AsListed h = h
origins_signed s n (Stored origin) h = record { long = h.long; origins = h.origins }

-- the numbers of darts are small
pub dart_small : (mesh : FaceList) (f t : ℕ) → total_sides mesh ≤ MOST_SIDES → IsNumberOf mesh f t (first_side mesh f + t)
    → first_side mesh f + t < MOST_SIDES
dart_small mesh f t h n = omega (arith, number_below mesh f t (first_side mesh f + t) n)

-- what is read at a dart
pub read_next : (s : OrientedMesh) (next : List DartName) (d : ℕ) (x : DartName)
    → ListNexts s (darts_of s) next → d < darts_of s → x ≡ get_or next d x → x.0 ≡ next_of s d
read_next s next d x h l read = grind (arith, common_steps)

-- where no face is flipped, a dart starts where its side does
pub listed_origin : (s : OrientedMesh) (d v : ℕ) → ((face : ℕ) → is_flipped s.signs face ≡ false) → d < darts_of s
    → ((side : Side) → IsSide s.mesh side → side_number s.mesh side ≡ d → v ≡ tail_of s.mesh side) → v ≡ origin_of s d
listed_origin s d v kept l starts =
    let p : HasPlace s.mesh d = placed s.mesh d l in
    let side : Side = record { face = record { 0 = p.face }; at = p.place } in
    let in_mesh : IsSide s.mesh side = record { face = p.numbered.face; place = p.numbered.place } in
    starts side in_mesh p.numbered.is
    ∙ ap (vertex_at s p.face) (sym (start_kept s p.face p.place d p.numbered (kept p.face)))
    ∙ sym (origin_at s p.face p.place d p.numbered)
