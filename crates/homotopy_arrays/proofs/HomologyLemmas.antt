-- Numbers that show whether walks are homologous, from their parts.
use Rattle.homotopy_arrays.proofs.Common.{SignedMesh, IsOrientableCompactSurface, double_of, AreFolded, AreSmall, DoShow, HomologyNumbers, IsOrientableCompactFault, IsSignedOf, of_signed_fault, AreLong, AreShown, IsHomologyFaultOfPair, answer_by, AreShownAs, IsAsked, IsHomologyFaultOn, ShowsWalksOn, Sized, mesh_asked, AreWalks, IsSurfaceOf, OfMesh, Fault, OutOfMemory, ◌≡◌, ◌⊎◌, ℕ, ◌+◌, ◌≤◌, List, refl, sym, subst, arith, ap, ◌∙◌, inl, inr, ◌↔◌, MatchResult, Result, Ok, Err, IfOk, AllocError, FaceList, darts, IsWalk}
use Rattle.commands.specs.HomologyCertificates.{Homologous}
use Rattle.compact_surfaces.specs.Signed.{IsBoundedFor, IsSignedFault, IsSignedFor, signed_no_memory as wanting}
use Rattle.compact_surfaces.specs.declared.signed.SignedCompact.{SignedCompact}
use Rattle.compact_surfaces.specs.declared.signed.SignedCompact.TheVariants.{Closed, Bounded}
use Rattle.compact_surfaces.specs.declared.signed.SignedFault.{SignedFault}
use Rattle.doubling.proofs.KeptMoves.{kept_walk}
use Rattle.homology.proofs.PairingLemmas.{refuted}
use Rattle.homology.specs.Chains.{AreHomologous}
use Rattle.homology.specs.Tallies.{number_at}
use Rattle.homology.specs.declared.array.HomologyNumbers.TheVariants.{Chain, Cocycle}
use Rattle.homology.specs.declared.certificate.TheConstants.{MOST_NUMBER}
use Rattle.homotopy_arrays.specs.Homologies.{no_memory}
use Rattle.homotopy_arrays.specs.declared.homologies.HomologyFault.{HomologyFault}
use Rattle.homotopy_arrays.specs.declared.homologies.HomologyFault.TheVariants.{Mesh}

-- ---- what numbers show

decides : (mesh : FaceList) (first second : List ℕ) (shown : HomologyNumbers) → AreWalks mesh first second → DoShow mesh first second shown
    → (answer_by shown ≡ Homologous) ↔ AreHomologous mesh first second
decides mesh first second (Chain numbers) are show = (λ e. (number_at numbers.items, show.chain), λ h. refl)
decides mesh first second (Cocycle numbers) are show = (
  λ e. cc,
  λ h. absurd (refuted mesh show.of_edge first second are.first_walk are.second_walk show.cocycle show.separates h.0 h.1),
)

-- what is shown is the right answer
shown_as : (Small : HomologyNumbers → Type 0) (mesh : FaceList) (first second : List ℕ) (numbers : HomologyNumbers)
    → AreWalks mesh first second → darts first + darts second ≤ MOST_NUMBER → DoShow mesh first second numbers → Small numbers
    → AreShownAs Small mesh first second numbers
shown_as Small mesh first second numbers are few show small =
    record { walks = are; few = few; show = show; small = small; exactly = decides mesh first second numbers are show }

pub shown : (mesh : FaceList) (first second : List ℕ) (end : Result HomologyNumbers AllocError) → AreWalks mesh first second
    → darts first + darts second ≤ MOST_NUMBER → IfOk end (DoShow mesh first second) → IfOk end AreSmall
    → IfOk end (AreShown mesh first second)
shown mesh first second (Ok numbers) are few show small = shown_as AreSmall mesh first second numbers are few show small
shown mesh first second (Err error) are few show small = tt

-- ---- folded numbers

-- walks of a mesh are walks of its double
pub walks_doubled : (mesh double : FaceList) (first second : List ℕ) → double ≡ double_of mesh → AreWalks mesh first second
    → AreWalks double first second
walks_doubled mesh double first second same are = subst (λ (m : FaceList). AreWalks m first second) (sym same) (record {
  first_walk = kept_walk mesh first are.first_walk;
  second_walk = kept_walk mesh second are.second_walk;
  ends = are.ends;
  few = are.few;
})

-- what shows something on the double shows it, folded, on the mesh
pub shown_folded : (mesh : FaceList) (first second : List ℕ) (numbers folded : HomologyNumbers) → AreWalks mesh first second
    → AreShown (double_of mesh) first second numbers
    → ((one other : List ℕ) → IsWalk mesh one → IsWalk mesh other → DoShow (double_of mesh) one other numbers
    → DoShow mesh one other folded) → AreFolded folded → AreShownAs AreFolded mesh first second folded
shown_folded mesh first second numbers folded are on fold size =
    shown_as AreFolded mesh first second folded are on.few (fold first second are.first_walk are.second_walk on.show) size

-- ---- how the question ends

-- what was found on walks of the mesh
pub shown_on_walks : (Small : HomologyNumbers → Type 0) (mesh : FaceList) (first second : List ℕ)
    (end : Result HomologyNumbers HomologyFault) → AreWalks mesh first second
    → MatchResult end (AreShownAs Small mesh first second) (λ fault. (fault ≡ no_memory) ⊎ AreLong first second fault)
    → MatchResult end (AreShownAs Small mesh first second) (IsHomologyFaultOfPair mesh first second)
shown_on_walks Small mesh first second (Ok numbers) are h = h
shown_on_walks Small mesh first second (Err fault) are (inl memory) = inl memory
shown_on_walks Small mesh first second (Err fault) are (inr long) = inr (inr (are, long))

-- numbers of a closed surface are no larger than folded ones
sized_folded : (surface : SignedCompact) (numbers : HomologyNumbers) → Sized surface numbers → AreFolded numbers
sized_folded (Bounded surface) numbers h = h
sized_folded (Closed surface) (Cocycle numbers) h = h
sized_folded (Closed surface) (Chain numbers) h = record { each = λ k. omega (arith, h.each k) }

pub shown_sized : (surface : SignedCompact) (mesh : FaceList) (first second : List ℕ) (end : Result HomologyNumbers HomologyFault)
    (Refuses : HomologyFault → Type 0) → MatchResult end (AreShownAs (Sized surface) mesh first second) Refuses
    → MatchResult end (AreShownAs AreFolded mesh first second) Refuses
shown_sized surface mesh first second (Err fault) Refuses h = h
shown_sized surface mesh first second (Ok numbers) Refuses h = record {
  walks = h.walks;
  few = h.few;
  show = h.show;
  small = sized_folded surface numbers h.small;
  exactly = h.exactly;
}

module _ (IsSurface : FaceList → Type 0) (Refuses : FaceList → Fault → Type 0) where
  -- what was found on the surface that the arrays are
  pub shown_on_surface : (Small : HomologyNumbers → Type 0) (read : Result FaceList Fault) (mesh : FaceList) (first second : List ℕ)
      (end : Result HomologyNumbers HomologyFault) → read ≡ Ok mesh → IsSurface mesh
      → MatchResult end (AreShownAs Small mesh first second) (IsHomologyFaultOfPair mesh first second)
      → MatchResult end (ShowsWalksOn IsSurface Small read first second) (IsHomologyFaultOn IsSurface Refuses read first second)
  shown_on_surface Small read mesh first second (Ok numbers) is surface h = record { mesh = mesh; is = is; holds = (surface, h) }
  shown_on_surface Small read mesh first second (Err fault) is surface h =
      inr (inr (record { mesh = mesh; is = is; holds = inr (surface, h) }))

  -- the arrays are no surface
  pub shown_on_none : (read : Result FaceList Fault) (first second : List ℕ) (fault : Fault) (told : HomologyFault)
      → (fault ≡ OutOfMemory) ⊎ ((read ≡ Err fault) ⊎ OfMesh read (λ mesh. Refuses mesh fault)) → told ≡ Mesh fault
      → IsHomologyFaultOn IsSurface Refuses read first second told
  shown_on_none read first second fault told (inl memory) is = inl (is ∙ ap Mesh memory)
  shown_on_none read first second fault told (inr (inl bad)) is = inr (inl (fault, bad, is))
  shown_on_none read first second fault told (inr (inr of)) is =
      inr (inr (record { mesh = of.mesh; is = of.is; holds = inl (fault, of.holds, is) }))

-- the arrays are the mesh of the surface
pub surface_read : (read : Result FaceList Fault) (surface : SignedMesh) → OfMesh read (λ mesh. IsSurfaceOf mesh surface)
    → read ≡ Ok surface.faces
surface_read read surface of = of.is ∙ ap (λ (m : FaceList). Ok m) (sym of.holds.faces)

-- the mesh that is asked about, of what is kept of a mesh
asked_mesh : (mesh : FaceList) (surface : SignedCompact) → IsSignedFor mesh surface → mesh_asked surface ≡ mesh
asked_mesh mesh (Closed surface) h = h.1.faces
asked_mesh mesh (Bounded surface) h = h.1.faces

pub is_asked : (mesh : FaceList) (surface : SignedCompact) → IsSignedFor mesh surface → IsAsked surface
is_asked mesh (Closed surface) h = h.1.signed
is_asked mesh (Bounded surface) h = subst (λ (m : FaceList). IsBoundedFor m surface) (sym h.1.faces) h.1

pub signed_read : (read : Result FaceList Fault) (surface : SignedCompact) → OfMesh read (λ mesh. IsSignedOf mesh surface)
    → (read ≡ Ok (mesh_asked surface)) × IsOrientableCompactSurface (mesh_asked surface)
signed_read read surface of =
    let same = asked_mesh of.mesh surface of.holds.signed in (
      of.is ∙ ap (λ (m : FaceList). Ok m) (sym same),
      subst IsOrientableCompactSurface (sym same) of.holds.compact,
    )

-- why a mesh is no orientable compact surface, as what is first wrong with it
signed_refused : (mesh : FaceList) (first : SignedFault) → (first ≡ wanting) ⊎ IsSignedFault mesh first
    → (of_signed_fault first ≡ OutOfMemory) ⊎ IsOrientableCompactFault mesh (of_signed_fault first)
signed_refused mesh first (inl none) = inl (ap of_signed_fault none)
signed_refused mesh first (inr is) = inr (first, is, refl)

pub signed_ends : (read : Result FaceList Fault) (mesh : FaceList) (first : SignedFault) (fault : Fault) → Ok mesh ≡ read
    → (first ≡ wanting) ⊎ IsSignedFault mesh first → fault ≡ of_signed_fault first
    → (fault ≡ OutOfMemory) ⊎ ((read ≡ Err fault) ⊎ OfMesh read (λ m. IsOrientableCompactFault m fault))
signed_ends read mesh first fault was h e =
    elim (signed_refused mesh first h) [
      | inl none ↦ inl (e ∙ none)
      | inr is ↦ inr (inr (record { mesh = mesh; is = sym was; holds = subst (IsOrientableCompactFault mesh) (sym e) is }))
    ]
