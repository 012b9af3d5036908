-- How questions end.
use Rattle.homotopy_arrays.proofs.Common.{signed_surface, IsNoSurface, SignedMesh, IsCompactSurface, AreDecidedOnAny, IsCompactFault, IsCompactKept, of_compact_fault, AreAnsweredOn, IsAskedFault, IsKept, IsAnswer, are_pairs, EndsOn, IsSurfaceFault, IsSurfaceOf, OfMesh, of_no_surface, of_surface_fault, Fault, OutOfMemory, WalkCount, ◌≡◌, ◌⊎◌, sym, ap, subst, ◌∙◌, inl, inr, refl, ℕ, List, false, Vec, Result, Ok, Err, FaceList, IsOrientableSurface}
use Rattle.closed_surfaces.specs.declared.signed_mesh.NoSurface.{NoSurface}
use Rattle.compact_surfaces.specs.Faults.{IsFirstCompactFault}
use Rattle.compact_surfaces.specs.declared.fault.CompactFault.{CompactFault}
use Rattle.homotopy_arrays.specs.declared.decide.PairAnswer.{PairAnswer}
use Rattle.closed_surfaces.specs.declared.signed_mesh.NoSurface.TheVariants as nones
use Rattle.compact_surfaces.specs.declared.fault.CompactFault.TheVariants as compact

-- a fault, and what is said of it more weakly
pub refused : (read : Result FaceList Fault) (P Q : FaceList → Fault → Type 0) (fault : Fault)
    → ((mesh : FaceList) → P mesh fault → Q mesh fault)
    → (fault ≡ OutOfMemory) ⊎ ((read ≡ Err fault) ⊎ OfMesh read (λ mesh. P mesh fault))
    → (fault ≡ OutOfMemory) ⊎ ((read ≡ Err fault) ⊎ OfMesh read (λ mesh. Q mesh fault))
refused read P Q fault more (inl memory) = inl memory
refused read P Q fault more (inr (inl bad)) = inr (inl bad)
refused read P Q fault more (inr (inr of)) = inr (inr (record { mesh = of.mesh; is = of.is; holds = more of.mesh of.holds }))

-- why a mesh is no surface, as what is first wrong with it
pub none_refused : (mesh : FaceList) (none : NoSurface) → IsNoSurface mesh none
    → (of_no_surface none ≡ OutOfMemory) ⊎ IsSurfaceFault mesh (of_no_surface none)
none_refused mesh (nones.Fault fault) (inl wanting) = inl (ap of_surface_fault wanting)
none_refused mesh (nones.Fault fault) (inr first) = inr (inl (fault, first, refl))
none_refused mesh (nones.NotOrientable chain) h = inr (inr (h.0, h.1, refl))

-- how a question ends about a mesh that is none
pub none_ends : (read : Result FaceList Fault) (mesh : FaceList) (none : NoSurface) (fault : Fault) → Ok mesh ≡ read
    → IsNoSurface mesh none → fault ≡ of_no_surface none
    → (fault ≡ OutOfMemory) ⊎ ((read ≡ Err fault) ⊎ OfMesh read (λ m. IsSurfaceFault m fault))
none_ends read mesh none fault was h e =
    elim (none_refused mesh none h) [
      | inl wanting ↦ inl (e ∙ wanting)
      | inr first ↦ inr (inr (record { mesh = mesh; is = sym was; holds = subst (IsSurfaceFault mesh) (sym e) first }))
    ]

-- the same about a mesh that is no compact surface
pub compact_ends : (read : Result FaceList Fault) (mesh : FaceList) (first : CompactFault) (fault : Fault) → Ok mesh ≡ read
    → (first ≡ compact.OutOfMemory) ⊎ IsFirstCompactFault mesh first → fault ≡ of_compact_fault first
    → (fault ≡ OutOfMemory) ⊎ ((read ≡ Err fault) ⊎ OfMesh read (λ m. IsCompactFault m fault))
compact_ends read mesh first fault was h e =
    elim h [
      | inl wanting ↦ inl (e ∙ ap of_compact_fault wanting)
      | inr is ↦ inr (inr (record { mesh = mesh; is = sym was; holds = (first, is, e) }))
    ]

-- ---- meshes that are kept

-- how a question about a mesh that is kept ends, one about the arrays that it was made of does
of_same : {T : Type 0} (read : Result FaceList Fault) (kept mesh : FaceList) (Gives : FaceList → T → Type 0)
    (Refuses : FaceList → Fault → Type 0) (end : Result T Fault) → read ≡ Ok mesh → kept ≡ mesh
    → EndsOn (Ok kept) Gives Refuses end → EndsOn read Gives Refuses end
of_same read kept mesh Gives Refuses end is same ends =
    let all : read ≡ Ok kept = is ∙ ap (λ (m : FaceList). Ok m) (sym same) in
    subst (λ (r : Result FaceList Fault). EndsOn r Gives Refuses end) (sym all) ends

pub of_kept : {T : Type 0} (read : Result FaceList Fault) (kept : FaceList) (Gives : FaceList → T → Type 0)
    (Refuses : FaceList → Fault → Type 0) (end : Result T Fault) → OfMesh read (λ mesh. IsKept mesh kept)
    → (IsOrientableSurface kept → EndsOn (Ok kept) Gives Refuses end) → EndsOn read Gives Refuses end
of_kept read kept Gives Refuses end of ends =
    of_same read kept of.mesh Gives Refuses end of.is of.holds.same
    (ends (subst IsOrientableSurface (sym of.holds.same) of.holds.surface))

pub of_compact : {T : Type 0} (read : Result FaceList Fault) (kept : FaceList) (Gives : FaceList → T → Type 0)
    (Refuses : FaceList → Fault → Type 0) (end : Result T Fault) → OfMesh read (λ mesh. IsCompactKept mesh kept)
    → (IsCompactSurface kept → EndsOn (Ok kept) Gives Refuses end) → EndsOn read Gives Refuses end
of_compact read kept Gives Refuses end of ends =
    of_same read kept of.mesh Gives Refuses end of.is of.holds.same
    (ends (subst IsCompactSurface (sym of.holds.same) of.holds.surface))

-- the answers on a surface of a kind, of one that is kept
pub on_kind : (IsSurface : FaceList → Type 0) (Refuses : FaceList → Fault → Type 0) (sizes vertices : List ℕ) (mesh : FaceList)
    (end : Result (Vec PairAnswer) Fault) → IsSurface mesh → IsCompactSurface mesh
    → ((m : FaceList) → IsSurface m → are_pairs sizes vertices ≡ false → Refuses m WalkCount)
    → EndsOn (Ok mesh) (λ m given. AreDecidedOnAny sizes vertices m given.items) (IsAskedFault IsCompactSurface sizes vertices) end
    → EndsOn (Ok mesh) (λ m given. AreAnsweredOn IsSurface IsAnswer sizes vertices m given.items) Refuses end
on_kind IsSurface Refuses sizes vertices mesh (Ok given) is compact refuses of =
    let same : mesh ≡ of.mesh = (let e = of.is in cc) in
    record {
      mesh = of.mesh;
      is = of.is;
      holds = record { surface = subst IsSurface same is; pairs = of.holds.pairs; answers = of.holds.answers };
    }
on_kind IsSurface Refuses sizes vertices mesh (Err fault) is compact refuses (inl memory) = inl memory
on_kind IsSurface Refuses sizes vertices mesh (Err fault) is compact refuses (inr (inl bad)) = inr (inl bad)
on_kind IsSurface Refuses sizes vertices mesh (Err fault) is compact refuses (inr (inr of)) =
    let same : mesh ≡ of.mesh = (let e = of.is in cc) in
    elim of.holds [
      | inl other ↦ absurd (other.0 (subst IsCompactSurface same compact))
      | inr none ↦
          inr (inr (record {
            mesh = of.mesh;
            is = of.is;
            holds = subst (Refuses of.mesh) (sym none.2) (refuses of.mesh (subst IsSurface same is) none.1);
          }))
    ]

-- a surface that was read is kept
pub kept_surface : (read : Result FaceList Fault) (surface : SignedMesh) (kept : FaceList)
    → OfMesh read (λ mesh. IsSurfaceOf mesh surface) → kept ≡ surface.faces → OfMesh read (λ mesh. IsKept mesh kept)
kept_surface read surface kept of is =
    record {
      mesh = of.mesh;
      is = of.is;
      holds = record {
        surface = subst IsOrientableSurface of.holds.faces (signed_surface surface of.holds.signed);
        same = is ∙ of.holds.faces;
      };
    }
