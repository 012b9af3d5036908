-- What `surface` tells: that the numbers and the genera are there, that they are one, and how its checks end.
use Rattle.surface_commands.proofs.Common.{some_numbers, one_numbers, some_genera, one_genera, AreGeneraOf, stops_first, stops_next, mesh_valid, IsSound, Answer, OfOddChain, yes_with, Check, End, Refuse, Pass, Passes, pass, ◌>>=◌, mesh_in, Stops, Stop, IsFirstFault, ◌≡◌, inl, inr, ℕ, ◌<◌, List, refl, sym, ap, ◌∙◌, subst, Option, Files, FaceList, IsFaceList, AreNumbersOf, IsOrientableSurface, HasComponents, IsClosedManifold, IsOrientable, SurfaceNumbers, HasFewComponents, numbers_of, genera_of, surface, numbers_text, as_surface, surface_in, of_few_components, surface_line, components_line, MOST_COMPONENTS}
use Rattle.manifold_check.specs.declared.fault.SurfaceFault.{SurfaceFault}

one_ending : (mesh : FaceList) (a b : End SurfaceNumbers) → (numbers_of mesh).Ends a → (numbers_of mesh).Ends b → a ≡ b
one_ending mesh (Refuse r) b p q = absurd p
one_ending mesh (Pass x) (Refuse s) p q = absurd q
one_ending mesh (Pass x) (Pass y) p q = ap (λ (n : SurfaceNumbers). let e : End SurfaceNumbers = Pass n in e) (one_numbers mesh x y p q)

pub sound-numbers : (held : Option Files) (mesh : FaceList) → IsFaceList mesh → IsSound held (numbers_of mesh)
sound-numbers held mesh valid =
    let some = some_numbers mesh valid in
    record { some = λ none. none (Pass some.0) some.1; one = λ _ a b p q. one_ending mesh a b p q }

one_genera_end : (mesh : FaceList) (a b : End (List ℕ)) → IsFaceList mesh → (genera_of mesh).Ends a → (genera_of mesh).Ends b → a ≡ b
one_genera_end mesh (Refuse r) b valid p q = absurd p
one_genera_end mesh (Pass x) (Refuse s) valid p q = absurd q
one_genera_end mesh (Pass x) (Pass y) valid p q =
    ap (λ (n : List ℕ). let e : End (List ℕ) = Pass n in e) (one_genera mesh x y valid p q)

pub sound-genera : (held : Option Files) (mesh : FaceList) → IsFaceList mesh → IsOrientableSurface mesh → IsSound held (genera_of mesh)
sound-genera held mesh valid is =
    let some = some_genera mesh valid is in
    record { some = λ none. none (Pass some.0) some.1; one = λ _ a b p q. one_genera_end mesh a b valid p q }

-- ---- how the checks of `surface` end

abbrev pub with_genera : SurfaceNumbers → List ℕ → Check Answer
with_genera numbers genera = pass (yes_with (numbers_text numbers genera))

abbrev pub with_numbers : FaceList → SurfaceNumbers → Check Answer
with_numbers mesh numbers = genera_of mesh >>= with_genera numbers

abbrev pub with_few : FaceList → Check Answer
with_few mesh = numbers_of mesh >>= with_numbers mesh

abbrev pub with_surface : FaceList → Check Answer
with_surface mesh = of_few_components MOST_COMPONENTS mesh >>= with_few

pub as_passed : (mesh surface : FaceList) → Passes (as_surface mesh) surface → (surface ≡ mesh) × IsOrientableSurface mesh
as_passed mesh surface (inl p) = let e = p.2 in cc
as_passed mesh surface (inr p) = (p.2.1 ∙ p.1.1, record { manifold = p.1.0; orientable = subst IsOrientable p.1.1 p.2.0 })

pub as_passes : (mesh : FaceList) → IsOrientableSurface mesh → Passes (as_surface mesh) mesh
as_passes mesh is = inr (mesh, (is.manifold, refl), (is.orientable, refl))

-- what passes is a surface
pub surface_passed : (held : Option Files) (name : List ℕ) (surface : FaceList) → Passes (surface_in held name) surface
    → IsFaceList surface × IsOrientableSurface surface
surface_passed held name surface (inl p) = let e = p.2 in cc
surface_passed held name surface (inr p) =
    let found = as_passed p.0 surface p.2 in
    (subst IsFaceList (sym found.0) (mesh_valid held name p.0 p.1), subst IsOrientableSurface (sym found.0) found.1)

few_of : (mesh : FaceList) (answer : Answer) → Passes (with_surface mesh) answer → HasFewComponents mesh
few_of mesh answer (inl p) = let e = p.2 in cc
few_of mesh answer (inr p) = (p.1.0, p.1.1, p.1.2)

-- where an answer passes, the mesh of the file is a surface of few components
pub answered_surface : (held : Option Files) (name : List ℕ) (mesh : FaceList) (answer : Answer) → Passes (mesh_in held name) mesh
    → ((a b : End FaceList) → (mesh_in held name).Ends a → (mesh_in held name).Ends b → a ≡ b) → Passes (surface held name) answer
    → IsOrientableSurface mesh × HasFewComponents mesh
answered_surface held name mesh answer p one (inl q) = let e = q.2 in cc
answered_surface held name mesh answer p one (inr q) = from_surface q.0 q.1 (few_of q.0 answer q.2)
  where
    from_surface : (found : FaceList) → Passes (surface_in held name) found → HasFewComponents found
        → IsOrientableSurface mesh × HasFewComponents mesh
    from_surface found (inl h) few = let e = h.2 in cc
    from_surface found (inr h) few =
        let e = one (Pass h.0) (Pass mesh) h.1 p in
        let same : h.0 ≡ mesh = cc in
        let passed = as_passed h.0 found h.2 in
        (subst IsOrientableSurface same passed.1, subst HasFewComponents (passed.0 ∙ same) few)

-- behind the mesh
pub behind_mesh : (held : Option Files) (name : List ℕ) (mesh : FaceList) (end : End Answer) → Passes (mesh_in held name) mesh
    → (as_surface mesh >>= with_surface).Ends end → (surface held name).Ends end
behind_mesh held name mesh end p (inl h) = inl (h.0, inr (mesh, p, h.1), h.2)
behind_mesh held name mesh end p (inr h) = inr (h.0, inr (mesh, p, h.1), h.2)

pub fault_ends : (mesh : FaceList) (fault : SurfaceFault) → IsFirstFault mesh fault
    → (as_surface mesh >>= with_surface).Ends (Refuse (surface_line fault))
fault_ends mesh fault first =
    inl (surface_line fault, inl (surface_line fault, (fault, first, refl), refl), refl)

pub turned_ends : (mesh : FaceList) → IsClosedManifold mesh → (IsOrientable mesh → ⊥)
    → (as_surface mesh >>= with_surface).Ends (Refuse (OfOddChain mesh))
turned_ends mesh closed turned = inl (OfOddChain mesh, inr (mesh, (closed, refl), (turned, refl)), refl)

pub many_ends : (mesh : FaceList) (count : ℕ) → IsOrientableSurface mesh → HasComponents mesh count → MOST_COMPONENTS < count
    → (as_surface mesh >>= with_surface).Ends (Refuse (components_line count))
many_ends mesh count is has many =
    inr (mesh, as_passes mesh is, inl (components_line count, (count, has, many, refl), refl))

pub numbers_end : (mesh : FaceList) (numbers : SurfaceNumbers) (genera : List ℕ) → IsOrientableSurface mesh → HasFewComponents mesh
    → AreNumbersOf mesh numbers → AreGeneraOf mesh genera
    → (as_surface mesh >>= with_surface).Ends (Pass (yes_with (numbers_text numbers genera)))
numbers_end mesh numbers genera is few are each =
    inr (mesh, as_passes mesh is, inr (mesh, (few.0, few.1, few.2, refl), inr (numbers, are, inr (genera, each, refl))))

-- a surface of too many components
pub few_stop : (held : Option Files) (name : List ℕ) (mesh : FaceList) (stop : Stop) → Passes (surface_in held name) mesh
    → Stops (of_few_components MOST_COMPONENTS mesh) stop → Stops (surface held name) stop
few_stop held name mesh stop p h =
    stops_next (surface_in held name) with_surface mesh stop p
    (stops_first (of_few_components MOST_COMPONENTS mesh) with_few stop h)

-- a surface of a file, with its numbers
pub numbers_pass : (held : Option Files) (name : List ℕ) (mesh : FaceList) (numbers : SurfaceNumbers) (genera : List ℕ)
    → Passes (surface_in held name) mesh → Passes (of_few_components MOST_COMPONENTS mesh) mesh → AreNumbersOf mesh numbers
    → AreGeneraOf mesh genera → Passes (surface held name) (yes_with (numbers_text numbers genera))
numbers_pass held name mesh numbers genera p few are each =
    inr (mesh, p, inr (mesh, few, inr (numbers, are, inr (genera, each, refl))))
