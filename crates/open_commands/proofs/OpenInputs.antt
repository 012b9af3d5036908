-- How the checks of an open surface and of walks of it end.
use Rattle.open_commands.proofs.Common.{stops_next, stops_second, told_stops, walks_of_pair, sound-mesh, sound-pair, mesh_passes, pair_told, IsSound, sound-then, sound-pass_unless, meant_told, unless_told, sound-unless_fault, Exactly, Check, Refuse, Pass, Passes, Holds, IsTold, pass_unless, ◌>>=◌, mesh_in, pair_in, SpellsMesh, orientable, Stops, Tells, MOST_OPEN_SIDES, MOST_OPEN_DARTS, open_line, open_surface, as_open_surface, open_surface_in, IsOpenPair, Question, question, open_limit_fault, open_pair_in, OpenPair, ◌≡◌, inr, ℕ, ◌+◌, ◌≤◌, List, refl, sym, ap, subst, arith, get_or_from_slice_get, Option, Some, None, Result, Ok, Err, IfOk, MatchResult, slice_get, Files, FaceList, IsFaceList, total_sides, walk_at, darts, AreWalkPair}
use Rattle.commands.proofs.MeshTexts.{mesh_valid, sound-orientable}
use Rattle.commands.specs.Refusals.{told, off_line}
use Rattle.commands.specs.declared.stop.Stop.{Stop}
use Rattle.free_forms.proofs.FaultLemmas.{one_fault, no_fault}
use Rattle.free_forms.proofs.OutcomeLemmas.{open_or_fault}
use Rattle.free_forms.specs.OpenFaults.{IsFirstOpenFault}
use Rattle.free_forms.specs.OpenSurfaces.{IsOpenSurface}
use Rattle.off_reader.specs.OffTexts.{meaning_of}
use Rattle.surf_model.specs.Edges.{Edge}
use Rattle.surf_model.specs.Surfaces.{IsOrientable}

-- ---- the surface

pub sound-open : (held : Option Files) (mesh : FaceList) → IsFaceList mesh → IsSound held (open_surface mesh)
sound-open held mesh valid =
    sound-unless_fault (open_surface mesh) open_line (IsFirstOpenFault mesh) (IsOpenSurface mesh) mesh (λ _ h. h) (λ _ h. h)
    (one_fault mesh)
    (no_fault mesh) held
    (λ none. open_or_fault mesh valid (λ is. none (Pass mesh) (is, refl)) (λ fault is. none (Refuse (open_line fault)) (fault, is, refl)))

pub sound-open_surface_in : (held : Option Files) (name : List ℕ) → IsSound held (open_surface_in held name)
sound-open_surface_in held name =
    sound-then held _ _ (sound-mesh held name)
    (λ mesh h. sound-then held _ _ (sound-open held mesh (mesh_valid held name mesh h)) (λ surface _. sound-orientable held surface))

pub turned_stop : (mesh : FaceList) (stop : Stop) → Passes (open_surface mesh) mesh → Stops (orientable mesh) stop
    → Stops (as_open_surface mesh) stop
turned_stop mesh stop p h = stops_next (open_surface mesh) orientable mesh stop p h

-- the surface of a file, by that of its mesh
pub surface_end : (held : Option Files) (name : List ℕ) (mesh : FaceList) (result : Result (FaceList × List Edge) Stop)
    → Passes (mesh_in held name) mesh
    → IfOk result (λ surface. surface.0 ≡ mesh)
    → MatchResult result (λ _. Passes (as_open_surface mesh) mesh) (Stops (as_open_surface mesh))
    → MatchResult result (λ surface. Passes (open_surface_in held name) surface.0) (Stops (open_surface_in held name))
surface_end held name mesh (Ok surface) p same h = subst (Passes (open_surface_in held name)) (sym same) (inr (mesh, p, h))
surface_end held name mesh (Err stop) p same h = stops_next (mesh_in held name) as_open_surface mesh stop p h

-- a file that spells an open surface passes it, and is told
pub spelled_open : (files : Option Files) (name : List ℕ) (mesh : FaceList) → Holds files name (SpellsMesh mesh) → IsOpenSurface mesh
    → IsOrientable mesh → Passes (open_surface_in files name) mesh
spelled_open files name mesh h is oriented =
    inr (mesh, mesh_passes files name mesh h, inr (mesh, (is, refl), (oriented, refl)))

pub open_told : (files : Option Files) (name : List ℕ) → IsTold files name → (open_surface_in files name).EachFile (IsTold files)
open_told files name told = ((told, λ bytes _. meant_told files off_line (meaning_of bytes)), λ _ _. (tt, λ _ _. tt))

-- ---- the surface and the walks

-- what is looked at behind the surface, and behind the walks
abbrev pub limited : FaceList → List (List ℕ) → Check Question
limited surface pair =
    pass_unless (λ line. Exactly line) (open_limit_fault surface (walk_at pair 0) (walk_at pair 1)) (question surface pair)

abbrev pub after_surface : Option Files → List ℕ → FaceList → Check Question
after_surface held walks surface = pair_in held walks surface >>= limited surface

pub sound-open_pair_in : (held : Option Files) (mesh walks : List ℕ) → IsSound held (open_pair_in held mesh walks)
sound-open_pair_in held mesh walks =
    sound-then held _ _ (sound-open_surface_in held mesh)
    (λ surface _. sound-then held _ _ (sound-pair held walks surface)
    (λ pair _. sound-pass_unless held (λ line. Exactly line) (open_limit_fault surface (walk_at pair 0) (walk_at pair 1))
    (question surface pair)))

pub pair_files_told : (held : Option Files) (mesh walks : List ℕ) → IsTold held mesh → IsTold held walks
    → (open_pair_in held mesh walks).EachFile (IsTold held)
pair_files_told held mesh walks one other = (
  open_told held mesh one,
  λ surface _. (
    pair_told held walks surface other,
    λ pair _. unless_told held (λ line. Exactly line) (open_limit_fault surface (walk_at pair 0) (walk_at pair 1)) (question surface pair),
  ),
)

pub walks_stop : (held : Option Files) (mesh walks : List ℕ) (surface : FaceList) (stop : Stop) → Passes (open_surface_in held mesh) surface
    → Stops (pair_in held walks surface) stop → Stops (open_pair_in held mesh walks) stop
walks_stop held mesh walks surface stop p h =
    stops_second (open_surface_in held mesh) (pair_in held walks) limited surface stop p h

pub limits_stop : (held : Option Files) (mesh walks : List ℕ) (surface : FaceList) (pair : List (List ℕ)) (line : List ℕ) (stop : Stop)
    → Passes (open_surface_in held mesh) surface → Passes (pair_in held walks surface) pair
    → open_limit_fault surface (walk_at pair 0) (walk_at pair 1) ≡ Some line → Tells (Exactly line) stop
    → Stops (open_pair_in held mesh walks) stop
limits_stop held mesh walks surface pair line stop p q e h =
    stops_next (open_surface_in held mesh) (after_surface held walks) surface stop p
    (stops_next (pair_in held walks surface) (limited surface) pair stop q
    (told_stops (Exactly line) (limited surface pair) stop (rw e refl) h))

pub pair_passes : (held : Option Files) (mesh walks : List ℕ) (surface : FaceList) (pair : List (List ℕ))
    → Passes (open_surface_in held mesh) surface → Passes (pair_in held walks surface) pair
    → open_limit_fault surface (walk_at pair 0) (walk_at pair 1) ≡ None → Passes (open_pair_in held mesh walks) (question surface pair)
pair_passes held mesh walks surface pair p q e = inr (surface, p, inr (pair, q, rw e refl))

-- the pair that is asked of an open mesh that was made of the surface
pub built_passes : (check : Check Question) (surface made : FaceList) (walks : List (List ℕ)) → made ≡ surface
    → Passes check (question surface walks) → Passes check (question made walks)
built_passes check surface made walks same h = subst (λ (m : FaceList). Passes check (question m walks)) (sym same) h

-- ---- the two walks of a pair that was read

-- the walks at the two places of a pair are those that were read, and are within the limits
pub record AreOpenWalks (mesh : FaceList) (walks : List (List ℕ)) (first second : List ℕ) : Type 0 where
  pub first_is : walk_at walks 0 ≡ first
  pub second_is : walk_at walks 1 ≡ second
  pub are : AreWalkPair mesh first second
  pub sides : total_sides mesh ≤ MOST_OPEN_SIDES
  pub few : darts first + darts second ≤ MOST_OPEN_DARTS

pub open_walks : (pair : OpenPair) (first second : List ℕ) → IsOpenPair pair → slice_get pair.walks.walks 0 ≡ Some first
    → slice_get pair.walks.walks 1 ≡ Some second → AreOpenWalks pair.surface.mesh pair.walks.walks first second
open_walks pair first second h f g =
    let one : walk_at pair.walks.walks 0 ≡ first = get_or_from_slice_get pair.walks.walks 0 first _ f in
    let two : walk_at pair.walks.walks 1 ≡ second = get_or_from_slice_get pair.walks.walks 1 second _ g in
    record {
      first_is = one;
      second_is = two;
      are = walks_of_pair h.walks f g;
      sides = h.within.sides;
      few = omega (arith, h.within.few, ap darts one, ap darts two);
    }
