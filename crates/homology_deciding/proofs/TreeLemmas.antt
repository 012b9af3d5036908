-- The cotree of a split is a tree over the faces.
use Rattle.homology_deciding.proofs.Common.{face_at_number, HasPlace, IsNumberOf, placed, rotation_system, edge_of, face_of, OrientedMesh, IsOrientedSurface, rotations_of, face_across, IsUp, IsTreeOfFaces, ◌≡◌, inl, inr, ℕ, ◌+◌, ◌<◌, List, [], ◌∷◌, length, ap, sym, ◌∙◌, subst, arith, cases_lt, Some, face_at, HasFileSize, FaceList, IsPath, DartName, SplitView, IsSplit, IsStepUp, StepsUp, below_edge}
use Rattle.surf_model.specs.Darts.{first_side}
use Rattle.tree_cotree.proofs.SplitWayLemmas.{faces_upward, above, above_path, rank_step, not_itself, few_up}

-- two darts that lead up from a face lie on one edge, and are not twins
one_dart : (s : OrientedMesh) (split : SplitView) → IsOrientedSurface s → IsSplit s split → (f : ℕ) (dart other : DartName)
    → IsUp s split f dart → IsUp s split f other → dart ≡ other
one_dart s split o t f dart other p q =
    elim (((rotation_system s o).edges dart.0 other.0 p.within q.within).0
    (t.child_faces.once (edge_of s dart.0) (edge_of s other.0) f p.below q.below)) [
      | inl same ↦ ap (λ (d : ℕ). record { 0 = d }) (sym same)
      | inr turned ↦
          let here : face_across s dart.0 ≡ f = ap (face_of s) (sym turned) ∙ q.inside in
          absurd (not_itself s split o t f (subst (StepsUp (rotations_of s) split f) here (dart.0, p)))
    ]

pub tree_of : (s : OrientedMesh) (split : SplitView) → IsOrientedSurface s → IsSplit s split → HasFileSize s.mesh
    → IsTreeOfFaces s split
tree_of s split o t small = record {
  valid = o;
  small = small;
  is_split = t;
  root_below = t.child_faces.root_below;
  none = λ dart up. (faces_upward s split o t).top (face_across s dart.0) (dart.0, up);
  one = one_dart s split o t;
  rank = λ f. length (above s split t f);
  rises = λ f dart up. rank_step s split o t f (face_across s dart.0) (dart.0, up);
  few = λ f l. few_up s split o t f (above s split t f) (above_path s split t f l);
}

-- the side at a place of a face
pub side_numbered : (s : OrientedMesh) (mesh : FaceList) (f at d sides : ℕ) → mesh ≡ s.mesh → f < length s.mesh.faces
    → sides ≡ length (face_at mesh f) → at < sides → d ≡ first_side mesh f + at → IsNumberOf s.mesh f at d
side_numbered s mesh f at d sides same l long within is = record {
  face = l;
  place = omega (arith, within, long, ap (λ (m : FaceList). length (face_at m f)) same);
  is = ap (λ (m : FaceList). first_side m f + at) (sym same) ∙ sym is;
}

-- none of the first n darts of a face leads up from it
abbrev pub NoneUp : OrientedMesh → SplitView → ℕ → ℕ → Type 0
NoneUp s split f n = (d t : ℕ) → t < n → IsNumberOf s.mesh f t d → below_edge split (edge_of s d) ≡ Some f → ⊥

pub none_more : (s : OrientedMesh) (split : SplitView) (f n d : ℕ) → NoneUp s split f n → IsNumberOf s.mesh f n d
    → (below_edge split (edge_of s d) ≡ Some f → ⊥) → NoneUp s split f (n + 1)
none_more s split f n d before at not_up e t l numbered is = elim (cases_lt t n) [
  | inl less ↦ before e t less numbered is
  | inr last ↦
      let same : e ≡ d = omega (arith, l, last, at.is, numbered.is) in
      not_up (ap (λ x. below_edge split (edge_of s x)) (sym same) ∙ is)
]

-- where none of all does, the face is the root
pub none_in_root : (s : OrientedMesh) (split : SplitView) → IsSplit s split → (f : ℕ) → f < length s.mesh.faces
    → NoneUp s split f (length (face_at s.mesh f)) → f ≡ split.root_face
none_in_root s split t f l none = by (t.child_faces.to_root f l).0 (t.child_faces.to_root f l).1
  where
    by : (path : List ℕ) → IsPath (StepsUp (rotations_of s) split) f path split.root_face → f ≡ split.root_face
    by [] p = p
    by (g ∷ path) p =
        let step : IsStepUp (rotations_of s) split f g p.0.0 = p.0.1 in
        let place : HasPlace s.mesh p.0.0 = placed s.mesh p.0.0 step.within in
        let same : place.face ≡ f = sym (face_at_number s place.face place.place p.0.0 place.numbered) ∙ step.inside in
        let numbered : IsNumberOf s.mesh f place.place p.0.0 =
        subst (λ (x : ℕ). IsNumberOf s.mesh x place.place p.0.0) same place.numbered in
        absurd (none p.0.0 place.place numbered.place numbered step.below)
