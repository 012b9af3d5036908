-- The cover as it is built, and lifts as they grow.
use Rattle.orientation_cover.proofs.Common.{cover_valid, sheet_at, next_sheet, entry, length-lifted, either, corner_of, sheet_told, over, lifted, more_room, with_face, HasNoRoom, first_made_faces, turns_by, cover_by, lift_by, told_by, AreWays, ◌≡◌, ℕ, ◌+◌, ◌<◌, ◌≤◌, Bool, true, false, List, [], ◌∷◌, ◌++◌, length, get_or, take, refl, ap, sym, ◌∙◌, subst, arith, common_steps, take_more, take_all, FaceList, PendingFace, IsFace, IsFaceList, face_at, total_sides, Side}
use Rattle.double_covers.proofs.CoverFaces.{face_over, over_below, over_is}
use Rattle.doubling.specs.declared.fault.DoubleFault.{DoubleFault}
use Rattle.orientation_cover.proofs.TurnLemmas.{ways_turn}

-- the edges that turn by bits
abbrev pub turning : FaceList → List Bool → ℕ → ℕ → Bool
turning mesh bits = turns_by mesh (told_by mesh bits)

-- the face over face f that begins on a sheet
abbrev pub lift_of_face : FaceList → List Bool → Bool → ℕ → List ℕ
lift_of_face mesh bits upper f = lifted (turning mesh bits) mesh.count upper (face_at mesh f)

-- ---- one face

over_is_face_over : (n : ℕ) (upper : Bool) (f : ℕ) → over n upper f ≡ face_over n upper f
over_is_face_over n true f = omega arith
over_is_face_over n false f = refl

pub over_next : (n : ℕ) (upper : Bool) (f : ℕ) → over n upper (f + 1) ≡ over n upper f + 1
over_next n true f = omega arith
over_next n false f = refl

pub in_cover : (mesh : FaceList) (bits : List Bool) (upper : Bool) (f : ℕ) → f < length mesh.faces
    → over (length mesh.faces) upper f < length (cover_by mesh bits).faces
in_cover mesh bits upper f l = grind (arith, common_steps, over_is_face_over, over_below, turning)

pub face_in_cover : (mesh : FaceList) (bits : List Bool) (upper : Bool) (f : ℕ) → f < length mesh.faces
    → face_at (cover_by mesh bits) (over (length mesh.faces) upper f) ≡ lift_of_face mesh bits upper f
face_in_cover mesh bits upper f l = grind (arith, common_steps, over_is_face_over, turning)

pub lift_is_face : (mesh : FaceList) (bits : List Bool) (upper : Bool) (f : ℕ) → IsFaceList mesh → f < length mesh.faces
    → IsFace (mesh.count + mesh.count) (lift_of_face mesh bits upper f)
lift_is_face mesh bits upper f valid l =
    subst (IsFace (mesh.count + mesh.count)) (over_is mesh (turning mesh bits) upper f l)
    ((cover_valid mesh (turning mesh bits) valid).faces (face_over (length mesh.faces) upper f) []
    (over_below mesh (turning mesh bits) upper f l))

-- the vertex of the cover at a corner, from what is read there
pub corner_is : (mesh : FaceList) (bits : List Bool) (upper turned sheet : Bool) (first here : Bool) (f t vertex : ℕ) → IsFaceList mesh
    → AreWays mesh bits → f < length mesh.faces → t < length (face_at mesh f) → first ≡ told_by mesh bits (corner_of f 0)
    → here ≡ told_by mesh bits (corner_of f t) → turned ≡ either first here → sheet ≡ either turned upper
    → vertex ≡ get_or (face_at mesh f) t 0
    → get_or (lift_of_face mesh bits upper f) t 0 ≡ over mesh.count sheet vertex
corner_is mesh bits upper turned sheet first here f t vertex valid ways l b is_first is_here is_turned is_sheet is_vertex =
    let against : Side → Bool = told_by mesh bits in
    entry (turning mesh bits) mesh.count upper (face_at mesh f) t b
    ∙ ap (λ (s : Bool). over mesh.count s (get_or (face_at mesh f) t 0))
    (sheet_told mesh against (turning mesh bits) (ways_turn mesh against valid ways.ways) f upper t l b
    ∙ ap (λ (a : Bool). either (either a (against (corner_of f t))) upper) (sym is_first)
    ∙ ap (λ (a : Bool). either (either first a) upper) (sym is_here)
    ∙ ap (λ (a : Bool). either a upper) (sym is_turned) ∙ sym is_sheet)
    ∙ ap (over mesh.count sheet) (sym is_vertex)

-- all corners of the lift stand there
pub lift_closes : (mesh : FaceList) (bits : List Bool) (upper : Bool) (f i : ℕ) (old start : PendingFace) → IsFaceList mesh
    → f < length mesh.faces → start.mesh.count ≡ mesh.count + mesh.count
    → old ≡ record { mesh = start.mesh; pending = take i (lift_of_face mesh bits upper f) } → length (face_at mesh f) ≤ i
    → (old ≡ record { mesh = start.mesh; pending = lift_of_face mesh bits upper f }) × IsFace old.mesh.count old.pending
lift_closes mesh bits upper f i old start valid l count from all =
    let whole : old ≡ record { mesh = start.mesh; pending = lift_of_face mesh bits upper f } =
    from ∙ ap (λ (p : List ℕ). record { mesh = start.mesh; pending = p })
    (take_all i (lift_of_face mesh bits upper f)
    (omega (arith, all, length-lifted (turning mesh bits) mesh.count upper (face_at mesh f)))) in (
      whole,
      subst (λ (p : PendingFace). IsFace p.mesh.count p.pending) (sym whole)
          (subst (λ (n : ℕ). IsFace n (lift_of_face mesh bits upper f)) (sym count) (lift_is_face mesh bits upper f valid l)),
    )

-- ---- face after face

pub faces_more : (made : FaceList) (seen : PendingFace) (k : ℕ) (ring : List ℕ) → seen ≡ first_made_faces made k → k < length made.faces
    → face_at made k ≡ ring → with_face seen ring ≡ first_made_faces made (k + 1)
faces_more made seen k ring from l is = grind (arith, common_steps)

-- where a face has no room, what is made has none
pub no_room : (made : FaceList) (seen : PendingFace) (k size : ℕ) (fault : DoubleFault) → seen ≡ first_made_faces made k
    → k < length made.faces → size ≡ length (face_at made k) → HasNoRoom (total_sides seen.mesh + size) fault
    → HasNoRoom (total_sides made) fault
no_room made seen k size fault from l is h = grind (arith, common_steps, more_room)

-- ---- lifts

-- the lift of the first k darts of a walk, and the sheet that they lead to
pub record LiftsUpTo (mesh : FaceList) (bits : List Bool) (walk lift : List ℕ) (upper : Bool) (k : ℕ) : Type 0 where
  pub lift_is : lift ≡ take (k + 1) (lift_by mesh bits walk)
  pub sheet_is : upper ≡ sheet_at (turning mesh bits) false walk k

pub lift_more : (mesh : FaceList) (bits : List Bool) (walk lift new : List ℕ) (upper next turn : Bool) (k from to vertex : ℕ)
    → k + 1 < length walk → from ≡ get_or walk k 0 → to ≡ get_or walk (k + 1) 0 → turn ≡ turning mesh bits from to
    → next ≡ either turn upper → vertex ≡ over mesh.count next to → new ≡ lift ++ vertex ∷ []
    → LiftsUpTo mesh bits walk lift upper k → LiftsUpTo mesh bits walk new next (k + 1)
lift_more mesh bits walk lift new upper next turn k from to vertex l is_from is_to is_turn is_next is_vertex pushed h =
    let turns : ℕ → ℕ → Bool = turning mesh bits in
    let turned : turn ≡ turns (get_or walk k 0) (get_or walk (k + 1) 0) =
    is_turn ∙ ap (λ (u : ℕ). turns u to) is_from ∙ ap (turns (get_or walk k 0)) is_to in
    let sheet : next ≡ sheet_at turns false walk (k + 1) =
    is_next ∙ ap (λ (t : Bool). either t upper) turned
    ∙ ap (λ (s : Bool). either (turns (get_or walk k 0) (get_or walk (k + 1) 0)) s) h.sheet_is ∙ sym (next_sheet turns false walk k l) in
    let entry_is : vertex ≡ get_or (lift_by mesh bits walk) (k + 1) 0 =
    is_vertex ∙ ap (over mesh.count next) is_to ∙ ap (λ (s : Bool). over mesh.count s (get_or walk (k + 1) 0)) sheet
    ∙ sym (entry turns mesh.count false walk (k + 1) l) in
    record {
      lift_is =
          pushed ∙ ap (λ (r : List ℕ). r ++ vertex ∷ []) h.lift_is
          ∙ ap (λ (v : ℕ). take (k + 1) (lift_by mesh bits walk) ++ v ∷ []) entry_is
          ∙ sym (take_more (lift_by mesh bits walk) (k + 1) 0 (omega (arith, l, length-lifted turns mesh.count false walk)));
      sheet_is = sheet;
    }

pub lift_done : (mesh : FaceList) (bits : List Bool) (walk lift : List ℕ) (upper : Bool) (k : ℕ) → length walk ≤ k + 1
    → LiftsUpTo mesh bits walk lift upper k → lift ≡ lift_by mesh bits walk
lift_done mesh bits walk lift upper k l h =
    h.lift_is
    ∙ take_all (k + 1) (lift_by mesh bits walk) (omega (arith, l, length-lifted (turning mesh bits) mesh.count false walk))
