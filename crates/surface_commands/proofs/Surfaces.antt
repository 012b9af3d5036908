-- How the checks of a surface end.
use Rattle.surface_commands.proofs.Common.{stops_next, told_stops, sound-orientable, IsSound, sound-then, sound-unless_fault, OfOddChain, End, Refuse, Pass, Passes, mesh_in, Stops, Tells, Stop, Refused, IsFirstFault, ◌≡◌, inl, inr, ℕ, ◌<◌, ◌≤◌, List, refl, sym, ap, subst, arith, Option, Result, Ok, Err, IfOk, MatchResult, length, Files, FaceList, IsFaceList, HasComponents, IsClosedManifold, as_surface, closed_alone, surface_in, of_few_components, surface_line, components_line}
use Rattle.closed_surfaces.proofs.SomeParts.{some_parts, same_count}
use Rattle.closed_surfaces.specs.SignedSurfaces.{IsNoSurface}
use Rattle.closed_surfaces.specs.declared.signed_mesh.NoSurface.{NoSurface}
use Rattle.closed_surfaces.specs.declared.signed_mesh.NoSurface.TheVariants.{NotOrientable}
use Rattle.closed_surfaces.specs.declared.signed_mesh.SignedMesh.{SignedMesh}
use Rattle.commands.specs.declared.text.Text.TheVariants.{OddChain}
use Rattle.manifold_check.proofs.FaultLemmas.{one_fault, no_fault}
use Rattle.manifold_check.proofs.OutcomeLemmas.{closed_or_fault}
use Rattle.std.proofs.lemmas.Bool.{cases_lt}
use Rattle.surf_model.specs.ComponentParts.{PartsView, AreParts}
use Rattle.surf_model.specs.declared.chains.ChainLink.{ChainLink}

pub sound-closed : (held : Option Files) (mesh : FaceList) → IsFaceList mesh → IsSound held (closed_alone mesh)
sound-closed held mesh valid =
    sound-unless_fault (closed_alone mesh) surface_line (IsFirstFault mesh) (IsClosedManifold mesh) mesh (λ _ h. h) (λ _ h. h)
    (one_fault mesh)
    (no_fault mesh) held
    (λ none. closed_or_fault mesh valid (λ is. none (Pass mesh) (is, refl))
    (λ fault is. none (Refuse (surface_line fault)) (fault, is, refl)))

pub sound-as_surface : (held : Option Files) (mesh : FaceList) → IsFaceList mesh → IsSound held (as_surface mesh)
sound-as_surface held mesh valid = sound-then held _ _ (sound-closed held mesh valid) (λ surface _. sound-orientable held surface)

-- the number of components
one_few : (most : ℕ) (mesh : FaceList) (a b : End FaceList) → (of_few_components most mesh).Ends a → (of_few_components most mesh).Ends b
    → a ≡ b
one_few most mesh (Refuse r) (Refuse s) p q = cc (p.3, q.3, ap components_line (same_count mesh p.0 q.0 p.1.0 q.1.0 p.1.1 q.1.1))
one_few most mesh (Refuse r) (Pass y) p q = absurd (omega (arith, p.2, q.2, same_count mesh p.0 q.0 p.1.0 q.1.0 p.1.1 q.1.1))
one_few most mesh (Pass x) (Refuse s) p q = absurd (omega (arith, p.2, q.2, same_count mesh p.0 q.0 p.1.0 q.1.0 p.1.1 q.1.1))
one_few most mesh (Pass x) (Pass y) p q = cc (p.3, q.3)

some_few : (most count : ℕ) (mesh : FaceList) → HasComponents mesh count
    → ((end : End FaceList) → (of_few_components most mesh).Ends end → ⊥) → ⊥
some_few most count mesh has none = elim (cases_lt most count) [
  | inl many ↦ none (Refuse (components_line count)) (count, has, many, refl)
  | inr few ↦ none (Pass mesh) (count, has, few, refl)
]

pub has_components : (mesh : FaceList) (parts : PartsView) → AreParts mesh parts → HasComponents mesh (length parts.components)
has_components mesh parts h = (parts.places, h.places)

pub sound-few : (held : Option Files) (most : ℕ) (mesh : FaceList) → IsFaceList mesh → IsSound held (of_few_components most mesh)
sound-few held most mesh valid =
    let parts = some_parts mesh valid in
    record {
      some = λ none. some_few most (length parts.0.components) mesh (has_components mesh parts.0 parts.1) none;
      one = λ _ a b p q. one_few most mesh a b p q;
    }

-- what passes is the mesh
pub few_passed : (most : ℕ) (mesh few : FaceList) → Passes (of_few_components most mesh) few → few ≡ mesh
few_passed most mesh few p = p.3

-- ---- what stops it

pub many_stop : (most : ℕ) (mesh : FaceList) (parts : PartsView) (count : ℕ) (stop : Stop) → AreParts mesh parts
    → count ≡ length parts.components → most < count → Tells (components_line count) stop → Stops (of_few_components most mesh) stop
many_stop most mesh parts count stop h is many tells =
    told_stops (components_line count) (of_few_components most mesh) stop
    (count, subst (HasComponents mesh) (sym is) (has_components mesh parts h), many, refl) tells

pub few_pass : (most : ℕ) (mesh : FaceList) (parts : PartsView) (count : ℕ) → AreParts mesh parts → count ≡ length parts.components
    → count ≤ most → Passes (of_few_components most mesh) mesh
few_pass most mesh parts count h is few = (count, subst (HasComponents mesh) (sym is) (has_components mesh parts h), few, refl)

-- a closed manifold with an odd chain
pub turned_stops : (mesh : FaceList) (none : NoSurface) (chain : List ChainLink) → none ≡ NotOrientable chain → IsNoSurface mesh none
    → Stops (as_surface mesh) (Refused (OddChain chain))
turned_stops mesh none chain is h =
    let odd : IsNoSurface mesh (NotOrientable chain) = subst (IsNoSurface mesh) is h in
    (OfOddChain mesh, inr (mesh, (odd.0, refl), (odd.1, refl)), (chain, odd.2, refl))

-- the surface of a file, by the surface of its mesh
pub surface_end : (held : Option Files) (name : List ℕ) (mesh : FaceList) (result : Result SignedMesh Stop)
    → Passes (mesh_in held name) mesh
    → IfOk result (λ surface. surface.faces ≡ mesh) → MatchResult result (λ _. Passes (as_surface mesh) mesh) (Stops (as_surface mesh))
    → MatchResult result (λ surface. Passes (surface_in held name) surface.faces) (Stops (surface_in held name))
surface_end held name mesh (Ok surface) p same h =
    subst (Passes (surface_in held name)) (sym same) (inr (mesh, p, h))
surface_end held name mesh (Err stop) p same h = stops_next (mesh_in held name) as_surface mesh stop p h
