-- `trial` in the words of the chain.
use Rattle.trial_commands.proofs.Common.{AreGeneraOf, behind, refused_behind, sound-pass_unless, meant_told, unless_told, Answer, yes_with, Check, End, Refuse, Pass, Passes, pass, ◌>>=◌, refused, off_line, pair_line, told, joined_few, meaning_of, ◌≡◌, inl, inr, ℕ, true, List, refl, subst, and_from, le-leb, Option, Some, None, nat_le, chain_text, chain_mesh, IsChainSize, MOST_GENUS, LEAST_GRID, MOST_GRID, TrialPair, Commuting, Cell, Loops, Files, FaceList, IsFaceList, AreNumbersOf, IsOrientableSurface, SurfaceNumbers, as_passes, sound-few, few_pass, numbers_of, genera_of, of_few_components, IsTrialRow, IsTried, AreTrialDecisions, IsRightOn, is_within, size_fault, surface_spelled, pair_walks, pair_decided, pairs_decided, trial_text, trial, Decisions, IsPair, pair_fault}
use Rattle.closed_surfaces.proofs.SomeParts.{some_parts}
use Rattle.commands.specs.Outcomes.{Outcome, AnswersTo, IsAnswerOf}
use Rattle.commands.specs.declared.status.Status.{Status}
use Rattle.commands.specs.declared.status.Status.TheVariants.{Yes, Refused}
use Rattle.std.specs.Prelude.{length}
use Rattle.surf_model.specs.Surfaces.{IsSurface}
use Rattle.walk_files.proofs.PairLemmas.{none_of_pair}
use Rattle.surf_model.specs.declared.decisions.Answer as deciding
use Rattle.trial_commands.proofs.ChainReading.{chain_read}
use Rattle.trial_commands.proofs.Trying.{spelled_passed, sound-spelled, sizes, within_bounds, with_surface, with_few, with_numbers, with_genera, with_decisions, with_cell, with_loops, in_order, on_pair}

-- ---- out of bounds

bounds_so : (files : Option Files) (genus grid : ℕ) (phrases : List (List ℕ)) (outcome : Outcome) (status : Status) (text : List ℕ)
    → size_fault genus grid ≡ Some phrases → (trial genus grid).Ends outcome → IsAnswerOf outcome status text
    → (status ≡ Refused) × (text ≡ refused phrases)
bounds_so files genus grid phrases outcome status text fault ends answer =
    let same : outcome ≡ Refuse (told phrases) =
    refused_behind files (sizes genus grid) (λ _. within_bounds genus grid) (told phrases) outcome
    (sound-pass_unless files told (size_fault genus grid) genus)
    (unless_told files told (size_fault genus grid) genus) (rw fault refl) ends in
    let given : IsAnswerOf (Refuse (told phrases)) status text = subst (λ (o : Outcome). IsAnswerOf o status text) same answer in
    (given.status_is, given.text_is)

-- ---- within bounds

no_fault : (genus grid : ℕ) → IsChainSize genus grid → size_fault genus grid ≡ None
no_fault genus grid chain =
    let genus_fits : is_within 1 MOST_GENUS genus ≡ true =
    and_from (nat_le 1 genus) (nat_le genus MOST_GENUS) (le-leb 1 genus chain.some_tori) (le-leb genus MOST_GENUS chain.few_tori) in
    let grid_fits : is_within LEAST_GRID MOST_GRID grid ≡ true =
    and_from (nat_le LEAST_GRID grid) (nat_le grid MOST_GRID) (le-leb LEAST_GRID grid chain.some_points)
    (le-leb grid MOST_GRID chain.few_points) in
    rw (genus_fits, grid_fits) refl

-- the numbers of a mesh, and what comes behind them
record Numbered (mesh : FaceList) (next : SurfaceNumbers → Check Answer) (outcome : Outcome) : Type 0 where
  numbers : SurfaceNumbers
  are : AreNumbersOf mesh numbers
  behind_them : (next numbers).Ends outcome

numbered_so : (mesh : FaceList) (next : SurfaceNumbers → Check Answer) (outcome : Outcome) → (numbers_of mesh >>= next).Ends outcome
    → Numbered mesh next outcome
numbered_so mesh next outcome (inl p) = absurd p.1
numbered_so mesh next outcome (inr p) = record { numbers = p.0; are = p.1; behind_them = p.2 }

-- the genera, and what comes behind them
record WithGenera (mesh : FaceList) (next : List ℕ → Check Answer) (outcome : Outcome) : Type 0 where
  genera : List ℕ
  each : AreGeneraOf mesh genera
  behind_them : (next genera).Ends outcome

genera_so : (mesh : FaceList) (next : List ℕ → Check Answer) (outcome : Outcome) → (genera_of mesh >>= next).Ends outcome
    → WithGenera mesh next outcome
genera_so mesh next outcome (inl p) = absurd p.1
genera_so mesh next outcome (inr p) = record { genera = p.0; each = p.1; behind_them = p.2 }

-- a connected orientable closed surface is an orientable closed surface
orientable_surface : (mesh : FaceList) → IsSurface mesh → IsOrientableSurface mesh
orientable_surface mesh is =
    record {
      manifold = record { some_face = is.closed.some_face; two_sides = is.closed.two_sides; one_ring = is.closed.one_ring };
      orientable = is.orientable;
    }

-- a connected surface has one component
one_passes : (mesh : FaceList) → IsFaceList mesh → IsSurface mesh → Passes (of_few_components 1 mesh) mesh
one_passes mesh valid is =
    let parts = some_parts mesh valid in
    few_pass 1 mesh parts.0 (length parts.0.components) parts.1 refl (joined_few mesh parts.0 parts.1 is.closed.connected)

-- the decision on a pair, and what comes behind it
record PairDecided {T : Type 0} (mesh : FaceList) (grid : ℕ) (which : TrialPair) (next : deciding.Answer → Check T)
    (end : End T) : Type 0 where
  decision : deciding.Answer
  right : IsRightOn mesh grid which decision
  behind_it : (next decision).Ends end

pair_so : {T : Type 0} (files : Option Files) (mesh : FaceList) (grid : ℕ) (which : TrialPair) (next : deciding.Answer → Check T)
    (end : End T)
    → IsPair mesh (pair_walks grid which) → (pair_decided mesh grid which >>= next).Ends end → PairDecided mesh grid which next end
pair_so {T} files mesh grid which next end pair ends = by_end ends
  where
    none : pair_fault mesh (pair_walks grid which) ≡ None
    none = none_of_pair mesh (pair_walks grid which) pair

    of_decision : (d : End deciding.Answer) → (pair_decided mesh grid which).Ends d → (on_pair mesh (pair_walks grid which)).Ends d
    of_decision d h =
        behind files (in_order mesh (pair_walks grid which)) (on_pair mesh) (pair_walks grid which) d
        (sound-pass_unless files pair_line (pair_fault mesh (pair_walks grid which)) (pair_walks grid which))
        (unless_told files pair_line (pair_fault mesh (pair_walks grid which)) (pair_walks grid which)) (rw none refl) h

    by_end : (pair_decided mesh grid which >>= next).Ends end → PairDecided mesh grid which next end
    by_end (inl p) = absurd (of_decision (Refuse p.0) p.1)
    by_end (inr p) = record { decision = p.0; right = of_decision (Pass p.0) p.1; behind_it = p.2 }

-- the decisions on all pairs, and what comes behind them
record PairsDecided (mesh : FaceList) (grid : ℕ) (next : Decisions → Check Answer) (outcome : Outcome) : Type 0 where
  decisions : Decisions
  are : AreTrialDecisions mesh grid decisions
  behind_them : (next decisions).Ends outcome

pairs_end : (files : Option Files) (mesh : FaceList) (grid : ℕ) (end : End Decisions)
    → ((which : TrialPair) → IsPair mesh (pair_walks grid which))
    → (pairs_decided mesh grid).Ends end → (decisions : Decisions) × AreTrialDecisions mesh grid decisions × (end ≡ Pass decisions)
pairs_end files mesh grid end pairs ends =
    let commuting = pair_so files mesh grid Commuting (with_cell mesh grid) end (pairs Commuting) ends in
    let cell = pair_so files mesh grid Cell (with_loops mesh grid commuting.decision) end (pairs Cell) commuting.behind_it in
    let loops =
    pair_so files mesh grid Loops (λ d. pass (record { commuting = commuting.decision; cell = cell.decision; loops = d })) end
    (pairs Loops) cell.behind_it in (
      record { commuting = commuting.decision; cell = cell.decision; loops = loops.decision },
      record { commuting = commuting.right; cell = cell.right; loops = loops.right },
      loops.behind_it,
    )

pairs_so : (files : Option Files) (mesh : FaceList) (grid : ℕ) (next : Decisions → Check Answer) (outcome : Outcome)
    → ((which : TrialPair) → IsPair mesh (pair_walks grid which)) → (pairs_decided mesh grid >>= next).Ends outcome
    → PairsDecided mesh grid next outcome
pairs_so files mesh grid next outcome pairs (inl p) = let e = (pairs_end files mesh grid (Refuse p.0) pairs p.1).2 in cc
pairs_so files mesh grid next outcome pairs (inr p) =
    let found = pairs_end files mesh grid (Pass p.0) pairs p.1 in
    let same : found.0 ≡ p.0 = let e = found.2 in cc in
    record { decisions = p.0; are = subst (AreTrialDecisions mesh grid) same found.1; behind_them = p.2 }

within_so : (files : Option Files) (genus grid : ℕ) (outcome : Outcome) (status : Status) (text : List ℕ) → IsChainSize genus grid
    → IsSurface (chain_mesh genus grid) → ((which : TrialPair) → IsPair (chain_mesh genus grid) (pair_walks grid which))
    → (trial genus grid).Ends outcome → IsAnswerOf outcome status text
    → (status ≡ Yes) × (numbers : SurfaceNumbers) × AreNumbersOf (chain_mesh genus grid) numbers
    × (genera : List ℕ) × AreGeneraOf (chain_mesh genus grid) genera
    × (decisions : Decisions) × AreTrialDecisions (chain_mesh genus grid) grid decisions
    × (text ≡ trial_text genus grid numbers genera decisions)
within_so files genus grid outcome status text chain is pairs ends answer =
    let mesh = chain_mesh genus grid in
    let bounded = behind files (sizes genus grid) (λ _. within_bounds genus grid) genus outcome
    (sound-pass_unless files told (size_fault genus grid) genus) (unless_told files told (size_fault genus grid) genus)
    (rw (no_fault genus grid chain) refl) ends in
    let spelled : Passes (surface_spelled (chain_text genus grid)) mesh =
    inr (mesh, rw (chain_read genus grid chain) refl, as_passes mesh (orientable_surface mesh is)) in
    let valid : IsFaceList mesh = (spelled_passed (chain_text genus grid) mesh spelled).0 in
    let on_surface = behind files (surface_spelled (chain_text genus grid)) (with_surface genus grid) mesh outcome
    (sound-spelled files (chain_text genus grid))
    (meant_told files off_line (meaning_of (chain_text genus grid)), λ _ _. (tt, λ _ _. tt)) spelled bounded in
    let on_few = behind files (of_few_components 1 mesh) (with_few genus grid) mesh outcome (sound-few files 1 mesh valid) tt
    (one_passes mesh valid is) on_surface in
    let numbered = numbered_so mesh (with_numbers genus grid mesh) outcome on_few in
    let found = genera_so mesh (with_genera genus grid mesh numbered.numbers) outcome numbered.behind_them in
    let decided = pairs_so files mesh grid (with_decisions genus grid numbered.numbers found.genera) outcome pairs found.behind_them in
    let given : IsAnswerOf (Pass (yes_with (trial_text genus grid numbered.numbers found.genera decided.decisions))) status text =
    subst (λ (o : Outcome). IsAnswerOf o status text) decided.behind_them answer in
    (given.status_is, numbered.numbers, numbered.are, found.genera, found.each, decided.decisions, decided.are, given.text_is)

-- what `trial` is for, where the words are answered by its check
pub tried : (files : Option Files) (words : List (List ℕ)) (status : Status) (text : List ℕ)
    → ((genus grid : ℕ) → IsTrialRow words genus grid → AnswersTo files (trial genus grid) status text) → IsTried words status text
tried files words status text answered =
    record {
      out_of_bounds = λ genus grid phrases row fault.
          let a = answered genus grid row in
          bounds_so files genus grid phrases a.outcome status text fault a.is_outcome a.is_answer;
      within_bounds = λ genus grid row chain surface pairs.
          let a = answered genus grid row in
          within_so files genus grid a.outcome status text chain surface pairs a.is_outcome a.is_answer;
    }
