-- What is found above a mesh, on its double or its cover, is found on the mesh.
use Rattle.std.proofs.Common.{◌≡◌, ◌≤◌, ◌∙◌, ◌-◌, false, List, ℕ, Option, Some, None, sym, subst, ap, arith}
use Rattle.std.specs.Option.{option_map}
use Rattle.answered_lists.specs.AnsweredLists.{mesh_given}
use Rattle.certify_commands.proofs.Certifying.{convinces_decides}
use Rattle.certify_commands.specs.Certify.{IsWithinLimits, certify_limits, limit_word}
use Rattle.commands.proofs.LimitLemmas.{fitting}
use Rattle.commands.specs.Certificates.{IsShown}
use Rattle.commands.specs.Limits.{first_over, over_line}
use Rattle.commands.specs.declared.certificate.Certificate.TheVariants.{Denial}
use Rattle.commands.specs.declared.certificate.TheConstants.{MOST_SHOWN_PEAK}
use Rattle.compact_surfaces.proofs.FoundLemmas.{IsLift, lifts_part, lifts_tell}
use Rattle.compact_surfaces.specs.Answered.{IsCovered, IsOwnFor}
use Rattle.compact_surfaces.specs.declared.covered_mesh.CoveredMesh.{CoveredMesh}
use Rattle.compact_surfaces.specs.declared.covered_mesh.TabledMesh.{TabledMesh}
use Rattle.double_covers.proofs.Sheets.{length-lifted}
use Rattle.doubling.proofs.KeptClasses.{keeps_homotopy}
use Rattle.doubling.proofs.KeptMoves.{kept_walk}
use Rattle.folded_lists.specs.FoldedLists.{LeadsFolded}
use Rattle.folded_lists.specs.LoweredLists.{LeadsBelowLifts}
use Rattle.labellings.specs.declared.denial.Denial as denials
use Rattle.orientation_cover.proofs.LiftLemmas.{lift_is_walk}
use Rattle.orientation_cover.specs.Turns.{cover_by, lift_by, turns_by}
use Rattle.orientation_cover.specs.Ways.{told_by}
use Rattle.surf_model.specs.FaceLists.{FaceList, IsFaceList}
use Rattle.surf_model.specs.Moves.{Homotopic, PeakedMoves}
use Rattle.surf_model.specs.PeakedLists.{LeadsAtPeak}
use Rattle.surf_model.specs.Walks.{AreWalkPair, HaveCommonEnds, IsWalk, darts}
use Rattle.surf_model.specs.declared.decisions.Answer.TheVariants as answers

-- ---- limits, and certificates

pub within : (mesh : FaceList) (first second : List ℕ) → first_over certify_limits mesh first second ≡ None
    → IsWithinLimits mesh first second
within mesh first second e = fitting certify_limits limit_word mesh first second (ap (option_map (over_line limit_word)) e)

-- a denial denies
pub denied : (mesh : FaceList) (first second : List ℕ) (denial : denials.Denial) → IsFaceList mesh → IsWalk mesh first
    → IsShown mesh first second (Denial denial) → Homotopic mesh first second → ⊥
denied mesh first second denial valid walk shown h =
    let e : answers.Different ≡ answers.Homotopic = (convinces_decides mesh first second (Denial denial) valid walk shown.0).1 h in
    absurd cc

-- ---- the cover

module _ (kept : CoveredMesh) (first second one two : List ℕ) (covered : IsCovered kept) (pair : AreWalkPair kept.mesh.faces first second)
    (is_one : one ≡ lift_by kept.mesh.faces kept.ways first) (is_two : two ≡ lift_by kept.mesh.faces kept.ways second) where
  is_lift : IsLift kept.mesh.faces kept.cover.faces kept.ways first second one two
  is_lift = record {
    valid = covered.twisted.valid;
    ways = covered.ways;
    pair = pair;
    is_cover = covered.is_cover;
    is_one = is_one;
    is_two = is_two;
  }

  walk_above : (walk lift : List ℕ) → IsWalk kept.mesh.faces walk → lift ≡ lift_by kept.mesh.faces kept.ways walk
      → IsWalk kept.cover.faces lift
  walk_above walk lift w e =
      subst (λ (c : FaceList). IsWalk c lift) (sym covered.is_cover)
      (subst (IsWalk (cover_by kept.mesh.faces kept.ways)) (sym e)
      (lift_is_walk kept.mesh.faces kept.ways walk covered.twisted.valid covered.ways w))

  pub pair_above : HaveCommonEnds one two → AreWalkPair kept.cover.faces one two
  pair_above ends = record {
    first_walk = walk_above first one pair.first_walk is_one;
    second_walk = walk_above second two pair.second_walk is_two;
    ends = ends;
  }

  as_long : (walk lift : List ℕ) → lift ≡ lift_by kept.mesh.faces kept.ways walk → darts lift ≡ darts walk
  as_long walk lift e =
      ap darts e
      ∙ ap (λ (n : ℕ). n - 1)
      (length-lifted (turns_by kept.mesh.faces (told_by kept.mesh.faces kept.ways)) kept.mesh.faces.count false walk)

  pub limits_above : IsWithinLimits kept.cover.faces first second → IsWithinLimits kept.cover.faces one two
  limits_above within = record {
    sides = within.sides;
    few = omega (arith, within.few, as_long first one is_one, as_long second two is_two);
  }

  -- lifts that end on two sheets
  pub parted : (HaveCommonEnds one two → ⊥) → Homotopic kept.mesh.faces first second → ⊥
  parted none h =
      let told = lifts_part kept.mesh.faces kept.cover.faces kept.ways first second one two is_lift (λ are. none are.ends) in
      let e : answers.Different ≡ answers.Homotopic = told.1.1 h in
      absurd cc

  pub none_above : HaveCommonEnds one two → (Homotopic kept.cover.faces one two → ⊥) → Homotopic kept.mesh.faces first second → ⊥
  none_above ends none h =
      let told =
      lifts_tell kept.mesh.faces kept.cover.faces kept.ways first second one two is_lift answers.Different
      (pair_above ends, ((λ e. absurd cc), (λ leads. absurd (none leads)))) in
      let e : answers.Different ≡ answers.Homotopic = told.1.1 h in
      absurd cc

  pub list_below : (list below : PeakedMoves) → LeadsBelowLifts kept.mesh.faces list below → below.peak ≡ list.peak
      → LeadsAtPeak kept.cover.faces one list two × (list.peak ≤ MOST_SHOWN_PEAK)
      → LeadsAtPeak kept.mesh.faces first below second × (below.peak ≤ MOST_SHOWN_PEAK)
  list_below list below leads peak h = (
    leads kept.ways first second pair.first_walk pair.second_walk
        (subst (λ (c : FaceList). LeadsAtPeak c (lift_by kept.mesh.faces kept.ways first) list (lift_by kept.mesh.faces kept.ways second))
        covered.is_cover
        (subst (λ (w : List ℕ). LeadsAtPeak kept.cover.faces w list (lift_by kept.mesh.faces kept.ways second)) is_one
        (subst (λ (w : List ℕ). LeadsAtPeak kept.cover.faces one list w) is_two h.0))),
    omega (arith, peak, h.1),
  )

-- ---- the double

pub pair_on_closed : (closed : FaceList) (own : Option TabledMesh) (first second : List ℕ) → IsOwnFor (mesh_given closed own) closed own
    → AreWalkPair (mesh_given closed own) first second → AreWalkPair closed first second
pair_on_closed closed None first second own are = are
pair_on_closed closed (Some kept) first second own are =
    subst (λ (m : FaceList). AreWalkPair m first second) (sym own.is_double) (record {
      first_walk = kept_walk kept.faces first are.first_walk;
      second_walk = kept_walk kept.faces second are.second_walk;
      ends = are.ends;
    })

pub none_on_closed : (closed : FaceList) (own : Option TabledMesh) (first second : List ℕ) → IsOwnFor (mesh_given closed own) closed own
    → AreWalkPair (mesh_given closed own) first second → (Homotopic closed first second → ⊥)
    → Homotopic (mesh_given closed own) first second
    → ⊥
none_on_closed closed None first second own are none h = none h
none_on_closed closed (Some kept) first second own are none h =
    none (subst (λ (m : FaceList). Homotopic m first second) (sym own.is_double)
    ((keeps_homotopy kept.faces first second own.valid are.first_walk are.second_walk).1 h))

-- a list on the double, folded
folded_on_some : (closed : FaceList) (kept : TabledMesh) (first second : List ℕ) (list below : PeakedMoves)
    → IsOwnFor kept.faces closed (Some kept) → AreWalkPair kept.faces first second
    → LeadsAtPeak closed first list second × (list.peak ≤ MOST_SHOWN_PEAK) → LeadsFolded kept.faces first list below
    → below.peak ≤ list.peak → LeadsAtPeak kept.faces first below second × (below.peak ≤ MOST_SHOWN_PEAK)
folded_on_some closed kept first second list below own are found leads low = (
  leads second are.second_walk (subst (λ (m : FaceList). LeadsAtPeak m first list second) own.is_double found.0),
  omega (arith, low, found.1),
)

pub folded_on_own : (closed : FaceList) (own : Option TabledMesh) (kept : TabledMesh) (first second : List ℕ) (list below : PeakedMoves)
    → own ≡ Some kept → IsOwnFor (mesh_given closed own) closed own → AreWalkPair (mesh_given closed own) first second
    → LeadsAtPeak closed first list second × (list.peak ≤ MOST_SHOWN_PEAK) → LeadsFolded kept.faces first list below
    → below.peak ≤ list.peak → LeadsAtPeak (mesh_given closed own) first below second × (below.peak ≤ MOST_SHOWN_PEAK)
folded_on_own closed own kept first second list below e is are found leads low =
    subst (λ (o : Option TabledMesh). LeadsAtPeak (mesh_given closed o) first below second × (below.peak ≤ MOST_SHOWN_PEAK)) (sym e)
    (folded_on_some closed kept first second list below (subst (λ (o : Option TabledMesh). IsOwnFor (mesh_given closed o) closed o) e is)
    (subst (λ (o : Option TabledMesh). AreWalkPair (mesh_given closed o) first second) e are) found leads low)
