-- How the checks of `trial` end.
use Rattle.trial_commands.proofs.Common.{AreGeneraOf, stops_first, stops_next, told_stops, one_decision, differs, IsSound, sound-then, sound-pass, sound-meant, sound-pass_unless, Answer, yes_with, Check, End, Refuse, Pass, Passes, meant, pass, pass_unless, ◌>>=◌, off_line, pair_line, told, Stops, Tells, meaning_of, ◌≡◌, inl, inr, ℕ, true, false, List, [], ◌∷◌, refl, sym, subst, codes, Option, Some, None, Result, Ok, Err, IfOk, MatchResult, decimal, ◌↔◌, chain_text, first_walk, second_walk, MOST_GENUS, LEAST_GRID, MOST_GRID, TrialPair, Commuting, Cell, Loops, Files, FaceList, IsFaceList, AreNumbersOf, IsOrientableSurface, walk_at, Homotopic, Different, SurfaceNumbers, sound-numbers, sound-genera, as_passed, sound-as_surface, sound-few, few_passed, numbers_of, genera_of, as_surface, of_few_components, is_within, size_fault, surface_spelled, decision_on, pair_walks, pair_decided, pairs_decided, trial_text, trial, Decisions, pair_fault}
use Rattle.closed_surfaces.specs.declared.signed_mesh.SignedMesh.{SignedMesh}
use Rattle.commands.proofs.MeshTexts.{is_face_list}
use Rattle.commands.specs.declared.stop.Stop.{Stop}
use Rattle.off_reader.specs.declared.off_fault.OffFault.{OffFault}
use Rattle.walk_files.specs.declared.pair.PairFault.{PairFault}
use Rattle.surf_model.specs.declared.decisions.Answer as deciding
use Rattle.surf_model.specs.Moves as moves

-- what is meant and passes is what was read
meant_mesh : (read : Result FaceList OffFault) (mesh : FaceList) → Passes (meant off_line read) mesh → read ≡ Ok mesh
meant_mesh (Ok found) mesh h = cc
meant_mesh (Err fault) mesh h = cc

-- what passes is a surface
pub spelled_passed : (text : List ℕ) (surface : FaceList) → Passes (surface_spelled text) surface
    → IsFaceList surface × IsOrientableSurface surface
spelled_passed text surface (inl p) = let e = p.2 in cc
spelled_passed text surface (inr p) =
    let found = as_passed p.0 surface p.2 in
    let valid : IsFaceList p.0 = is_face_list text p.0 (meant_mesh (meaning_of text) p.0 p.1) in
    (subst IsFaceList (sym found.0) valid, subst IsOrientableSurface (sym found.0) found.1)

pub sound-spelled : (held : Option Files) (text : List ℕ) → IsSound held (surface_spelled text)
sound-spelled held text =
    sound-then held _ _ (sound-meant held off_line (meaning_of text))
    (λ mesh h. sound-as_surface held mesh (is_face_list text mesh (meant_mesh (meaning_of text) mesh h)))

one_on : (mesh : FaceList) (first second : List ℕ) (a b : End deciding.Answer) → (decision_on mesh first second).Ends a
    → (decision_on mesh first second).Ends b → a ≡ b
one_on mesh first second (Refuse texts) b p q = absurd p
one_on mesh first second (Pass x) (Refuse texts) p q = absurd q
one_on mesh first second (Pass x) (Pass y) p q = let same : x ≡ y = one_decision x y p q in cc

sound-on : (held : Option Files) (mesh : FaceList) (first second : List ℕ) → IsSound held (decision_on mesh first second)
sound-on held mesh first second =
    record {
      some = λ none.
          none (Pass Different)
          ((λ e. absurd (differs e)), (λ h. absurd (none (Pass Homotopic) ((λ _. h), (λ _. refl)))));
      one = λ _ a b p q. one_on mesh first second a b p q;
    }

sound-pair : (held : Option Files) (mesh : FaceList) (grid : ℕ) (which : TrialPair) → IsSound held (pair_decided mesh grid which)
sound-pair held mesh grid which = sound-then held _ _ (sound-pass_unless held _ _ _) (λ pair _. sound-on held mesh _ _)

sound-pairs : (held : Option Files) (mesh : FaceList) (grid : ℕ) → IsSound held (pairs_decided mesh grid)
sound-pairs held mesh grid =
    sound-then held _ _ (sound-pair held mesh grid Commuting)
    (λ _ _. sound-then held _ _ (sound-pair held mesh grid Cell)
    (λ _ _. sound-then held _ _ (sound-pair held mesh grid Loops) (λ _ _. sound-pass held _)))

-- ---- what stops it

pub genus_stops : (genus grid : ℕ) (stop : Stop) → is_within 1 MOST_GENUS genus ≡ false
    → Tells (told (codes "trial genus" ∷ decimal genus ∷ [])) stop → Stops (pass_unless told (size_fault genus grid) genus) stop
genus_stops genus grid stop out h =
    told_stops (told (codes "trial genus" ∷ decimal genus ∷ [])) (pass_unless told (size_fault genus grid) genus) stop (rw out refl) h

pub grid_stops : (genus grid : ℕ) (stop : Stop) → is_within 1 MOST_GENUS genus ≡ true → is_within LEAST_GRID MOST_GRID grid ≡ false
    → Tells (told (codes "trial grid" ∷ decimal grid ∷ [])) stop → Stops (pass_unless told (size_fault genus grid) genus) stop
grid_stops genus grid stop within out h =
    told_stops (told (codes "trial grid" ∷ decimal grid ∷ [])) (pass_unless told (size_fault genus grid) genus) stop
    (rw (within, out) refl) h

-- the surface of a text, by the surface of its mesh
pub spelled_end : (text : List ℕ) (mesh : FaceList) (result : Result SignedMesh Stop) → Passes (meant off_line (meaning_of text)) mesh
    → IfOk result (λ surface. surface.faces ≡ mesh) → MatchResult result (λ _. Passes (as_surface mesh) mesh) (Stops (as_surface mesh))
    → MatchResult result (λ surface. Passes (surface_spelled text) surface.faces) (Stops (surface_spelled text))
spelled_end text mesh (Ok surface) p same h = subst (Passes (surface_spelled text)) (sym same) (inr (mesh, p, h))
spelled_end text mesh (Err stop) p same h = stops_next (meant off_line (meaning_of text)) as_surface mesh stop p h

-- ---- a pair

abbrev pub in_order : FaceList → List (List ℕ) → Check (List (List ℕ))
in_order mesh walks = pass_unless pair_line (pair_fault mesh walks) walks

abbrev pub on_pair : FaceList → List (List ℕ) → Check deciding.Answer
on_pair mesh pair = decision_on mesh (walk_at pair 0) (walk_at pair 1)

pub pair_faulty : (mesh : FaceList) (grid : ℕ) (which : TrialPair) (fault : PairFault) (stop : Stop)
    → pair_fault mesh (pair_walks grid which) ≡ Some fault → Tells (pair_line fault) stop → Stops (pair_decided mesh grid which) stop
pair_faulty mesh grid which fault stop found h =
    stops_first (in_order mesh (pair_walks grid which)) (on_pair mesh) stop
    (told_stops (pair_line fault) (in_order mesh (pair_walks grid which)) stop (rw found refl) h)

pub pair_answered : (mesh : FaceList) (grid : ℕ) (which : TrialPair) (decision : deciding.Answer)
    → pair_fault mesh (pair_walks grid which) ≡ None
    → (decision ≡ Homotopic) ↔ moves.Homotopic mesh (first_walk grid which) (second_walk grid which)
    → Passes (pair_decided mesh grid which) decision
pair_answered mesh grid which decision none right = inr (pair_walks grid which, rw none refl, right)

-- ---- the three pairs

abbrev pub with_loops : FaceList → ℕ → (commuting cell : deciding.Answer) → Check Decisions
with_loops mesh grid commuting cell =
    pair_decided mesh grid Loops >>= (λ loops. pass (record { commuting = commuting; cell = cell; loops = loops }))

abbrev pub with_cell : FaceList → ℕ → deciding.Answer → Check Decisions
with_cell mesh grid commuting = pair_decided mesh grid Cell >>= with_loops mesh grid commuting

pub cell_stops : (mesh : FaceList) (grid : ℕ) (commuting : deciding.Answer) (stop : Stop)
    → Passes (pair_decided mesh grid Commuting) commuting
    → Stops (pair_decided mesh grid Cell) stop → Stops (pairs_decided mesh grid) stop
cell_stops mesh grid commuting stop p h =
    stops_next (pair_decided mesh grid Commuting) (with_cell mesh grid) commuting stop p
    (stops_first (pair_decided mesh grid Cell) (with_loops mesh grid commuting) stop h)

pub loops_stop : (mesh : FaceList) (grid : ℕ) (commuting cell : deciding.Answer) (stop : Stop)
    → Passes (pair_decided mesh grid Commuting) commuting
    → Passes (pair_decided mesh grid Cell) cell → Stops (pair_decided mesh grid Loops) stop → Stops (pairs_decided mesh grid) stop
loops_stop mesh grid commuting cell stop p q h =
    stops_next (pair_decided mesh grid Commuting) (with_cell mesh grid) commuting stop p
    (stops_next (pair_decided mesh grid Cell) (with_loops mesh grid commuting) cell stop q
    (stops_first (pair_decided mesh grid Loops) (λ loops. pass (record { commuting = commuting; cell = cell; loops = loops })) stop h))

pub pairs_answered : (mesh : FaceList) (grid : ℕ) (decisions : Decisions) → Passes (pair_decided mesh grid Commuting) decisions.commuting
    → Passes (pair_decided mesh grid Cell) decisions.cell → Passes (pair_decided mesh grid Loops) decisions.loops
    → Passes (pairs_decided mesh grid) decisions
pairs_answered mesh grid decisions p q r =
    inr (decisions.commuting, p, inr (decisions.cell, q, inr (decisions.loops, r, refl)))

-- ---- the whole command

abbrev pub with_decisions : (genus grid : ℕ) → SurfaceNumbers → (genera : List ℕ) → Decisions → Check Answer
with_decisions genus grid numbers genera decisions = pass (yes_with (trial_text genus grid numbers genera decisions))

abbrev pub with_genera : (genus grid : ℕ) → FaceList → SurfaceNumbers → (genera : List ℕ) → Check Answer
with_genera genus grid mesh numbers genera = pairs_decided mesh grid >>= with_decisions genus grid numbers genera

abbrev pub with_numbers : (genus grid : ℕ) → FaceList → SurfaceNumbers → Check Answer
with_numbers genus grid mesh numbers = genera_of mesh >>= with_genera genus grid mesh numbers

abbrev pub with_few : (genus grid : ℕ) → FaceList → Check Answer
with_few genus grid mesh = numbers_of mesh >>= with_numbers genus grid mesh

abbrev pub with_surface : (genus grid : ℕ) → FaceList → Check Answer
with_surface genus grid mesh = of_few_components 1 mesh >>= with_few genus grid

abbrev pub within_bounds : (genus grid : ℕ) → Check Answer
within_bounds genus grid = surface_spelled (chain_text genus grid) >>= with_surface genus grid

abbrev pub sizes : (genus grid : ℕ) → Check ℕ
sizes genus grid = pass_unless told (size_fault genus grid) genus

pub sound-trial : (held : Option Files) (genus grid : ℕ) → IsSound held (trial genus grid)
sound-trial held genus grid =
    sound-then held _ _ (sound-pass_unless held _ _ _)
    (λ _ _. sound-then held _ _ (sound-spelled held _)
    (λ mesh h. let is = spelled_passed _ mesh h in
    sound-then held _ _ (sound-few held 1 mesh is.0)
    (λ few p. subst (λ (m : FaceList). IsSound held (with_few genus grid m)) (sym (few_passed 1 mesh few p))
    (sound-then held _ _ (sound-numbers held mesh is.0)
    (λ numbers _. sound-then held _ _ (sound-genera held mesh is.0 is.1)
    (λ genera _. sound-then held _ _ (sound-pairs held mesh grid) (λ _ _. sound-pass held _)))))))

pub surface_stops : (genus grid : ℕ) (stop : Stop) → Passes (sizes genus grid) genus
    → Stops (surface_spelled (chain_text genus grid)) stop
    → Stops (trial genus grid) stop
surface_stops genus grid stop p h =
    stops_next (sizes genus grid) (λ _. within_bounds genus grid) genus stop p
    (stops_first (surface_spelled (chain_text genus grid)) (with_surface genus grid) stop h)

pub few_stop : (genus grid : ℕ) (mesh : FaceList) (stop : Stop) → Passes (sizes genus grid) genus
    → Passes (surface_spelled (chain_text genus grid)) mesh → Stops (of_few_components 1 mesh) stop → Stops (trial genus grid) stop
few_stop genus grid mesh stop p q h =
    stops_next (sizes genus grid) (λ _. within_bounds genus grid) genus stop p
    (stops_next (surface_spelled (chain_text genus grid)) (with_surface genus grid) mesh stop q
    (stops_first (of_few_components 1 mesh) (with_few genus grid) stop h))

-- a chain in one piece, with its numbers
pub record IsMeasuredChain (genus grid : ℕ) (mesh : FaceList) (numbers : SurfaceNumbers) (genera : List ℕ) : Type 0 where
  pub in_bounds : Passes (sizes genus grid) genus
  pub spelled : Passes (surface_spelled (chain_text genus grid)) mesh
  pub few : Passes (of_few_components 1 mesh) mesh
  pub are : AreNumbersOf mesh numbers
  pub each : AreGeneraOf mesh genera

pub decisions_stop : (genus grid : ℕ) (mesh : FaceList) (numbers : SurfaceNumbers) (genera : List ℕ) (stop : Stop)
    → IsMeasuredChain genus grid mesh numbers genera → Stops (pairs_decided mesh grid) stop → Stops (trial genus grid) stop
decisions_stop genus grid mesh numbers genera stop h stops =
    stops_next (sizes genus grid) (λ _. within_bounds genus grid) genus stop h.in_bounds
    (stops_next (surface_spelled (chain_text genus grid)) (with_surface genus grid) mesh stop h.spelled
    (stops_next (of_few_components 1 mesh) (with_few genus grid) mesh stop h.few
    (stops_next (numbers_of mesh) (with_numbers genus grid mesh) numbers stop h.are
    (stops_next (genera_of mesh) (with_genera genus grid mesh numbers) genera stop h.each
    (stops_first (pairs_decided mesh grid) (with_decisions genus grid numbers genera) stop stops)))))

pub trial_answered : (genus grid : ℕ) (mesh : FaceList) (numbers : SurfaceNumbers) (genera : List ℕ) (decisions : Decisions)
    → IsMeasuredChain genus grid mesh numbers genera → Passes (pairs_decided mesh grid) decisions
    → Passes (trial genus grid) (yes_with (trial_text genus grid numbers genera decisions))
trial_answered genus grid mesh numbers genera decisions h r =
    inr (genus, h.in_bounds, inr (mesh, h.spelled, inr (mesh, h.few, inr (numbers, h.are, inr (genera, h.each, inr (decisions, r, refl))))))
