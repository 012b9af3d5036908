-- What answers for a compact surface is a closed manifold.
use Rattle.compact_surfaces.proofs.Common.{double_orientable, orientable_there, IsClosedFor, IsCompactSurface, IsCoverBeyond, IsFaultBehind, IsFirstCompactFault, IsKeptClosed, first_faces, CompactFault, Cover, OutOfMemory, few_of_two, no_edge_no_side, double_of, mirror_face, rim_quads, HasBoundary, ◌≡◌, ◌⊎◌, ◌↔◌, Bool, false, ℕ, ◌<◌, ◌≤◌, List, ◌++◌, length, map, take, append_assoc, ap, sym, ◌∙◌, subst, inl, inr, arith, true, both_ways, cases_Bool, IsTrue, Option, Some, None, MatchOption, Edge, IsTableOf, FaceList, HasFileSize, IsFaceList, is_edge, IsOrientableSurface, IsClosedManifold, IsOrientable, sides_between}
use Rattle.closed_doubles.proofs.DoubleRings.{double_rings}
use Rattle.closed_doubles.proofs.SidePlaces.{some_side}
use Rattle.closed_doubles.proofs.TwoSides.{double_two_sides}
use Rattle.closed_surfaces.specs.SignedSurfaces.{IsNoSurface, surface_no_memory}
use Rattle.closed_surfaces.specs.declared.signed_mesh.NoSurface.{NoSurface}
use Rattle.closed_surfaces.specs.declared.signed_mesh.NoSurface.TheVariants.{Fault, NotOrientable}
use Rattle.compact_surfaces.specs.Answered.{IsOwnFor}
use Rattle.compact_surfaces.specs.declared.covered_mesh.TabledMesh.{TabledMesh}
use Rattle.doubling.proofs.DoubleFaces.{double_size}
use Rattle.manifold_check.proofs.FaultLemmas.{no_fault}
use Rattle.std.proofs.Math.Seq.{take-append_seam, take-length}

pub double_manifold : (mesh : FaceList) → IsFaceList mesh → IsCompactSurface mesh → IsClosedManifold (double_of mesh)
double_manifold mesh valid is = record {
  some_face = omega (arith, is.some_face, double_size mesh);
  two_sides = double_two_sides mesh valid is.few_sides is.one_ring;
  one_ring = double_rings mesh valid is.one_ring;
}

pub none_told : (mesh : FaceList) (has : Bool) → (IsTrue has ↔ HasBoundary mesh) → has ≡ false → HasBoundary mesh → ⊥
none_told mesh has told not rim = both_ways has not (told.1 rim)

one_or_two : (n : ℕ) → 0 < n → n ≤ 2 → (n ≡ 1 → ⊥) → n ≡ 2
one_or_two n some few none = grind arith

pub closed_manifold : (mesh : FaceList) → IsCompactSurface mesh → (HasBoundary mesh → ⊥) → IsClosedManifold mesh
closed_manifold mesh is none = record {
  some_face = is.some_face;
  two_sides = λ u v edge. one_or_two _ (some_side mesh u v edge) (is.few_sides u v) (λ one. none (u, v, one));
  one_ring = is.one_ring;
}

-- and back
pub compact_surface : (mesh : FaceList) → IsClosedManifold mesh → IsCompactSurface mesh
compact_surface mesh is = record {
  some_face = is.some_face;
  few_sides = few_of_two mesh is.two_sides;
  one_ring = is.one_ring;
}

-- a closed manifold answers for itself
pub closed_answers : (mesh closed : FaceList) → IsClosedManifold mesh → closed ≡ mesh → IsClosedFor mesh closed
closed_answers mesh closed is same = inr ((λ rim. one_side rim.0 rim.1 rim.2), same)
  where
    one_side : (u v : ℕ) → sides_between mesh u v ≡ 1 → ⊥
    one_side u v one =
        elim (cases_Bool (is_edge mesh u v)) [
          | inl edge ↦ omega (arith, one, is.two_sides u v edge)
          | inr none ↦ omega (arith, one, no_edge_no_side mesh u v none)
        ]

-- the cover of what answers for a surface is beyond a limit
pub cover_fault : (mesh closed : FaceList) (fault : CompactFault) → IsCompactSurface mesh → IsClosedFor mesh closed → HasFileSize closed
    → IsFaultBehind (λ limit. Cover limit) (IsCoverBeyond closed) fault → (fault ≡ OutOfMemory) ⊎ IsFirstCompactFault mesh fault
cover_fault mesh closed fault is answers fits h =
    elim h [
      | inl none ↦ inl none
      | inr limit ↦
          inr (subst (IsFirstCompactFault mesh) (sym limit.1)
          (inr (record { compact = is; closed = closed; answers = answers; fits = fits; cover = limit.2 })))
    ]

-- ---- what is kept

pub closed_by_own : (mesh closed : FaceList) (own : Option TabledMesh) → IsOwnFor mesh closed own → IsClosedFor mesh closed
closed_by_own mesh closed None own = inr own
closed_by_own mesh closed (Some kept) own = inl (own.boundary, own.is_double)

first_ones : (mesh closed : FaceList) → IsClosedFor mesh closed → take (length mesh.faces) closed.faces ≡ mesh.faces
first_ones mesh closed answers =
    elim answers [
      | inl double ↦ ap (λ (m : FaceList). take (length mesh.faces) m.faces) double.1
          ∙ ap (take (length mesh.faces)) (append_assoc mesh.faces (map (mirror_face mesh.count) mesh.faces) (rim_quads mesh))
          ∙ take-append_seam mesh.faces (map (mirror_face mesh.count) mesh.faces ++ rim_quads mesh)
      | inr none ↦ ap (λ (m : FaceList). take (length mesh.faces) m.faces) none.1 ∙ take-length mesh.faces
    ]

pub first_are : (mesh closed : FaceList) (vertices faces : ℕ) → IsClosedFor mesh closed → vertices ≡ mesh.count
    → faces ≡ length mesh.faces → first_faces vertices faces closed ≡ mesh
first_are mesh closed vertices faces answers v f =
    ap (λ n. first_faces n faces closed) v ∙ ap (λ n. first_faces mesh.count n closed) f
    ∙ ap (λ (fs : List (List ℕ)). record { count = mesh.count; faces = fs }) (first_ones mesh closed answers)

orientable_too : (mesh closed : FaceList) (signed : Bool) → IsFaceList mesh → IsCompactSurface mesh → IsClosedFor mesh closed
    → (signed ≡ true) ↔ IsOrientable closed → (signed ≡ true) ↔ IsOrientable mesh
orientable_too mesh closed signed valid is answers told =
    elim answers [
      | inl double ↦
          let there : (signed ≡ true) ↔ IsOrientable (double_of mesh) =
          subst (λ (m : FaceList). (signed ≡ true) ↔ IsOrientable m) double.1 told in (
            (λ e. orientable_there mesh (there.0 e)),
            (λ o. there.1 (double_orientable mesh valid is.few_sides is.one_ring o)),
          )
      | inr none ↦ subst (λ (m : FaceList). (signed ≡ true) ↔ IsOrientable m) none.1 told
    ]

own_answers : (mesh closed : FaceList) → IsClosedFor mesh closed → (closed ≡ mesh) ⊎ (closed ≡ double_of mesh)
own_answers mesh closed answers = elim answers [ inl double ↦ inr double.1 | inr none ↦ inl none.1 ]

pub kept : (mesh closed : FaceList) (own : Option (List Edge)) (signed : Bool) (vertices faces : ℕ) → IsFaceList mesh
    → IsCompactSurface mesh → IsClosedFor mesh closed → MatchOption own (closed ≡ mesh) (IsTableOf mesh)
    → (signed ≡ true) ↔ IsOrientable closed → vertices ≡ mesh.count → faces ≡ length mesh.faces
    → IsKeptClosed (first_faces vertices faces closed) own closed signed
kept mesh closed own signed vertices faces valid is answers table told v f =
    subst (λ (m : FaceList). IsKeptClosed m own closed signed) (sym (first_are mesh closed vertices faces answers v f)) (record {
      valid = valid;
      compact = is;
      answers = own_answers mesh closed answers;
      table = table;
      signs = orientable_too mesh closed signed valid is answers told;
    })

-- ---- what the cover is refused for

pub refused_for : (mesh : FaceList) (none : NoSurface) → IsOrientableSurface mesh → IsNoSurface mesh none → none ≡ surface_no_memory
refused_for mesh (Fault fault) is h =
    elim h [ inl memory ↦ ap Fault memory | inr first ↦ absurd (no_fault mesh fault is.manifold first) ]
refused_for mesh (NotOrientable chain) is h = absurd (h.1 is.orientable)
