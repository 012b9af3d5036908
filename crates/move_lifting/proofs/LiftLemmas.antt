-- The closed walk along the first and back along the second is contracted, and the second is left.
use Rattle.move_lifting.proofs.Common.{leads_nowhere, walk_front, OrientedMesh, IsOrientedSurface, IsLedFrom, LeavesNothing, IsCutSurface, LeadsAtPeak, IsLedOn, IsFreelyPath, IsReductionOf, TrackView, GoesOn, last_of, PolygonView, LeavesCotree, IsOffCotree, spokes_along, free_walk_below, PathLeads, ◌≡◌, ℕ, ◌<◌, refl, List, [], ◌∷◌, ◌++◌, length, drop, get_or, ap, sym, ◌∙◌, subst, arith, drop_more, length-drop, get_or_append_left, All, option_and_then, list_keeps_walk, list_keeps_ends, FaceList, HasNoSpur, PeakedMoves, Leads, Homotopic, apply, apply_all, numbers, IsWalk, HaveCommonEnds, darts, AreWalkPair, Move, VertexName, SplitView, IsSplit}
use Rattle.move_lifting.specs.declared.reducing.Reduction.{Reduction}
use Rattle.std.proofs.lemmas.Option.{option_and_then_some}
use Rattle.move_lifting.proofs.HomeLemmas.{nothing_is_left}
use Rattle.move_lifting.proofs.StartLemmas.{starts_freely}
use Rattle.move_lifting.proofs.TreeLiftLemmas.{one_vertex}

-- what is done to the vertices of the first walk, done from the first walk on
pub closed_from : (mesh : FaceList) (first second vertices closed : List ℕ) (begun list : PeakedMoves) (n : ℕ) → IsWalk mesh second
    → vertices ≡ first → begun ≡ record { moves = []; peak = n } → n ≡ darts first
    → ((face_list : FaceList) (walk : List ℕ) → IsWalk face_list second → LeadsAtPeak face_list walk begun vertices
    → LeadsAtPeak face_list walk list (closed ++ drop 1 second))
    → LeadsAtPeak mesh first list (closed ++ drop 1 second)
closed_from mesh first second vertices closed begun list n w same is count goes = grind (arith, leads_nowhere)

-- the closed walk is one
pub closed_walk : (mesh : FaceList) (first closed rest : List ℕ) (list : PeakedMoves) → IsWalk mesh first
    → LeadsAtPeak mesh first list (closed ++ rest) → 0 < length closed → IsWalk mesh closed
closed_walk mesh first closed rest list w h some =
    walk_front mesh closed rest some (list_keeps_walk mesh list.moves first (closed ++ rest) w h.leads)

-- the closed walk that was made, with the moves that lead to it where the second walk stands behind
pub record IsClosed (mesh : FaceList) (first closed second : List ℕ) (list : PeakedMoves) : Type 0 where
  pub led : LeadsAtPeak mesh first list (closed ++ drop 1 second)
  pub some : 0 < length closed
  pub meets : last_of closed ≡ get_or second 0 0
  pub walk : IsWalk mesh closed

pub closed_is : (mesh : FaceList) (first second : List ℕ) (names : List VertexName) (list : PeakedMoves) (track : TrackView)
    → AreWalkPair mesh first second
    → ((face_list : FaceList) → IsWalk face_list second → LeadsAtPeak face_list first track.list (track.walk ++ drop 1 second))
    → 0 < length track.walk → last_of track.walk ≡ get_or second 0 0 → numbers names ≡ track.walk → list ≡ track.list
    → IsClosed mesh first (numbers names) second list
closed_is mesh first second names list track walks leads some meets same noted =
    subst (λ (l : PeakedMoves). IsClosed mesh first (numbers names) second l) (sym noted)
    (subst (λ (l : List ℕ). IsClosed mesh first l second track.list) (sym same)
    (record {
      led = leads mesh walks.second_walk;
      some = some;
      meets = meets;
      walk = closed_walk mesh first track.walk (drop 1 second) track.list walks.first_walk (leads mesh walks.second_walk) some;
    }))

-- where the closed walk is one vertex, the second walk is all that stands there
pub second_there : {mesh : FaceList} {first second : List ℕ} {list : PeakedMoves} (closed : List ℕ) → IsClosed mesh first closed second list
    → length closed ≡ 1 → 0 < length second → LeadsAtPeak mesh first list second
second_there [] k one some = absurd (omega (arith, one))
second_there {mesh} {first} {second} {list} (v ∷ []) k one some = grind arith
second_there (v ∷ w ∷ rest) k one some = absurd (omega (arith, one))

pub second_left : (s : OrientedMesh) (split : SplitView) → IsOrientedSurface s → IsSplit s split → split.genus ≡ 0
    → (first closed second : List ℕ) (list : PeakedMoves) (track : TrackView)
    → IsWalk s.mesh first → 0 < length second → get_or first 0 0 ≡ get_or second 0 0
    → LeadsAtPeak s.mesh first list (closed ++ drop 1 second)
    → GoesOn s.mesh (darts second) closed list track.walk track.list → IsOffCotree s split track.walk → HasNoSpur track.walk
    → 0 < length track.walk → last_of track.walk ≡ get_or second 0 0 → LeadsAtPeak s.mesh first track.list second
second_left s split o t sphere first closed second list track w some common h goes off no_spur track_some last =
    let rest : List ℕ = drop 1 second in
    let v : ℕ = get_or second 0 0 in
    let there : LeadsAtPeak s.mesh first track.list (track.walk ++ rest) = goes first rest (length-drop 1 second) h in
    let walk : IsWalk s.mesh track.walk = closed_walk s.mesh first track.walk rest track.list w there track_some in
    let ends : HaveCommonEnds first (track.walk ++ rest) =
    list_keeps_ends s.mesh track.list.moves first (track.walk ++ rest) w.starts there.leads in
    let start : get_or track.walk 0 0 ≡ v = sym (get_or_append_left track.walk rest 0 0 track_some) ∙ sym ends.starts ∙ common in
    let one : track.walk ≡ v ∷ [] = one_vertex o t sphere track.walk v walk off no_spur start last in
    let whole : track.walk ++ rest ≡ second = ap (λ (l : List ℕ). l ++ rest) one ∙ sym (drop_more second 0 0 some) in
    subst (LeadsAtPeak s.mesh first track.list) whole there

-- what a list of moves does behind another
leads_rest : (mesh : FaceList) (moves more : List Move) (a b c : List ℕ) → Leads mesh a moves b → Leads mesh a (moves ++ more) c
    → Leads mesh b more c
leads_rest mesh [] more a b c h k = grind arith
leads_rest mesh (move ∷ moves) more a b c h k =
    option_and_then_some (λ next. apply_all mesh next moves) (apply mesh a move) b h
    (λ middle is rest.
    leads_rest mesh moves more middle b c rest (sym (ap (option_and_then (λ next. apply_all mesh next (moves ++ more))) is) ∙ k))

-- The closed walk that was led off the cotree, with the second walk behind it.
pub record IsBegun (s : OrientedMesh) (split : SplitView) (first closed second : List ℕ) (track : TrackView) : Type 0 where
  pub led : IsLedFrom s.mesh (darts second) track.walk track.list
  pub walk : IsWalk s.mesh closed
  pub there : Homotopic s.mesh first (closed ++ drop 1 second)
  pub start : get_or track.walk 0 0 ≡ get_or second 0 0
  pub home : last_of track.walk ≡ get_or track.walk 0 0
  pub leads : (first ≡ led.first) × (drop 1 second ≡ led.rest)
  pub more : List Move
  pub goes : Leads s.mesh (closed ++ drop 1 second) more (track.walk ++ drop 1 second)
  pub leaves : All (LeavesCotree s split) more

pub begun_from : (s : OrientedMesh) (split : SplitView) (first closed second : List ℕ) (list : PeakedMoves) (track : TrackView)
    → IsWalk s.mesh first → IsWalk s.mesh second
    → get_or first 0 0 ≡ get_or second 0 0 → LeadsAtPeak s.mesh first list (closed ++ drop 1 second) → 0 < length closed
    → IsLedOn s split (darts second) closed list track.walk track.list → last_of track.walk ≡ get_or second 0 0
    → IsBegun s split first closed second track
begun_from s split first closed second list track w z common h closed_some led last =
    let rest : List ℕ = drop 1 second in
    let there : LeadsAtPeak s.mesh first track.list (track.walk ++ rest) = led.goes first rest (length-drop 1 second) h in
    let ends : HaveCommonEnds first (track.walk ++ rest) =
    list_keeps_ends s.mesh track.list.moves first (track.walk ++ rest) w.starts there.leads in
    let start : get_or track.walk 0 0 ≡ get_or second 0 0 = sym (get_or_append_left track.walk rest 0 0 led.some) ∙ sym ends.starts
    ∙ common in
    record {
      led = record { first = first; rest = rest; starts = w; long = length-drop 1 second; leads = there; some = led.some };
      walk = closed_walk s.mesh first closed rest list w h closed_some;
      there = (list.moves, h.leads);
      start = start;
      home = last ∙ sym start;
      leads = (refl, refl);
      more = led.leaves.0;
      goes = leads_rest s.mesh list.moves led.leaves.0 first (closed ++ rest) (track.walk ++ rest) h.leads
          (subst (λ (l : List Move). Leads s.mesh first l (track.walk ++ rest)) led.leaves.1 there.leads);
      leaves = led.leaves.2;
    }

-- what the closed walk becomes off the cotree
pub record IsLedOff (s : OrientedMesh) (split : SplitView) (first closed second : List ℕ) (list : PeakedMoves) (track : TrackView)
    : Type 0 where
  pub goes : GoesOn s.mesh (darts second) closed list track.walk track.list
  pub last : last_of track.walk ≡ get_or second 0 0
  pub begun : IsBegun s split first closed second track

pub off_cotree : {s : OrientedMesh} {split : SplitView} {first second closed : List ℕ} {list : PeakedMoves} (track : TrackView) (behind : ℕ)
    → AreWalkPair s.mesh first second → IsClosed s.mesh first closed second list → behind ≡ darts second
    → IsLedOn s split behind closed list track.walk track.list → IsLedOff s split first closed second list track
off_cotree {s} {split} {first} {second} {closed} {list} track behind walks k counted led =
    let on : IsLedOn s split (darts second) closed list track.walk track.list =
    subst (λ (n : ℕ). IsLedOn s split n closed list track.walk track.list) counted led in
    let ends : last_of track.walk ≡ get_or second 0 0 = on.last ∙ k.meets in
    record {
      goes = on.goes;
      last = ends;
      begun = begun_from s split first closed second list track walks.first_walk walks.second_walk walks.ends.starts k.led k.some on ends;
    }

-- and the second walk is left behind one vertex
pub second_stays : {s : OrientedMesh} {split : SplitView} {first closed second : List ℕ} {track : TrackView} (after : TrackView)
    → IsBegun s split first closed second track → 0 < length second
    → GoesOn s.mesh (darts second) track.walk track.list after.walk after.list → after.walk ≡ get_or track.walk 0 0 ∷ []
    → LeadsAtPeak s.mesh first after.list second
second_stays {s} {second} after begun some goes one =
    let rest : List ℕ = drop 1 second in
    let there : LeadsAtPeak s.mesh begun.led.first after.list (after.walk ++ begun.led.rest) =
    goes begun.led.first begun.led.rest begun.led.long begun.led.leads in
    let whole : after.walk ++ rest ≡ second = ap (λ (l : List ℕ). l ++ rest) (one ∙ ap (λ x. x ∷ []) begun.start)
    ∙ sym (drop_more second 0 0 some) in
    subst (λ (l : List ℕ). LeadsAtPeak s.mesh l after.list second) (sym begun.leads.0)
    (subst (LeadsAtPeak s.mesh begun.led.first after.list) (ap (λ (l : List ℕ). after.walk ++ l) (sym begun.leads.1) ∙ whole) there)

module _ {s : OrientedMesh} {split : SplitView} {polygon : PolygonView} (is_cut : IsCutSurface s split polygon) where
  open is_cut use {valid as o, tree as t, cut, some}

  -- Nothing is left of the spokes where the walks are homotopic, and the steps that leave nothing may be followed.
  pub homotopic_leaves_nothing : (first closed second vertices : List ℕ) (list : PeakedMoves) (reduction : Reduction) (r : IsReductionOf s
      polygon vertices reduction)
      → vertices ≡ closed → IsWalk s.mesh first
      → 0 < length closed → 0 < length second → last_of closed ≡ get_or second 0 0 → LeadsAtPeak s.mesh first list (closed ++ drop 1 second)
      → Homotopic s.mesh first second → r.end ≡ []
  homotopic_leaves_nothing first closed second vertices list reduction r is w closed_some second_some meets led
      same =
      nothing_is_left is_cut r.spokes.spokes r.spokes.free first closed second r.end reduction.steps.items w
      (closed_walk s.mesh first closed (drop 1 second) list w led closed_some) second_some meets (list.moves, led.leads)
      (subst (λ (l : List ℕ). PathLeads polygon.places l reduction.steps.items r.end) (r.spokes.path_is
      ∙ ap (spokes_along r.spokes.spokes) is) r.leads) r.reduced same

  pub steps_to_nothing : (closed vertices : List ℕ) (reduction : Reduction) (r : IsReductionOf s polygon vertices reduction)
      → vertices ≡ closed
      → IsWalk s.mesh closed → r.end ≡ [] → LeavesNothing polygon reduction
  steps_to_nothing closed vertices reduction r is w none = grind (arith, free_walk_below)

  -- and the walk of the track is the loop of the spokes, up to spurs
  pub begun_freely : (first closed second vertices : List ℕ) (list : PeakedMoves) (track : TrackView) (reduction : Reduction)
      (r : IsReductionOf s polygon vertices reduction) → vertices ≡ closed
      → IsWalk s.mesh first → 0 < length closed → last_of closed ≡ get_or second 0 0
      → LeadsAtPeak s.mesh first list (closed ++ drop 1 second)
      → IsBegun s split first closed second track → IsOffCotree s split track.walk → last_of track.walk ≡ get_or second 0 0
      → IsFreelyPath s split polygon reduction.spokes.items track.walk
  begun_freely first closed second vertices list track reduction r is w closed_some meets led begun off last =
      subst (λ (l : List ℕ). IsFreelyPath s split polygon l track.walk) (sym (r.spokes.path_is ∙ ap (spokes_along r.spokes.spokes) is))
      (starts_freely is_cut r.spokes.spokes r.spokes.free closed track.walk (drop 1 second) begun.more
      (list_keeps_walk s.mesh list.moves first (closed ++ drop 1 second) w led.leads) begun.goes begun.leaves off closed_some begun.led.some
      (last ∙ sym meets) (sym begun.home))
