-- A closed walk that follows the steps on its spokes, and what holds on the way.
use Rattle.move_lifting.proofs.Common.{rotation_system, OrientedMesh, rotations_of, IsLedFrom, IsCutSurface, spokes_in_front, signed_loop, IsFreelyPath, HasLoopIn, TrackView, GoesOn, last_of, Crosses, sides_cross, up, up_path, PolygonView, across, AreWaysUp, by_loop, path_loop, put_behind, later-is, spokes-stay-below, after_path_step, after_path_steps, PathLeads, from_vertex, PathStep, Spur, Turn, ◌≡◌, ◌≢◌, ◌⊎◌, ℕ, ◌+◌, ◌-◌, ◌<◌, ◌≤◌, Bool, true, false, not, List, [], ◌∷◌, length, get_or, take, drop, ap, sym, ◌∙◌, subst, arith, drop_more, drop_all, All-append, All-take, if◌then◌else◌, ◌==◌, slice_index, All, option_and_then, Result, Ok, Err, IfOk, list_keeps_ends, HasNoSpur, IsWalk, after_dart, SplitView, in_cotree, is_left, IsQuad}
use Rattle.std.proofs.Common.{Some}
use Rattle.move_lifting.proofs.HomeLemmas.{goes_nowhere}
use Rattle.move_lifting.proofs.LiftLemmas.{closed_walk}
use Rattle.move_lifting.proofs.PathLemmas.{quad_partner}
use Rattle.move_lifting.proofs.WorthLemmas.{spur_worth, turn_worth, TurnWorth, walk_stays, walk_changes}

-- two facts of one result
pub both_ok : {X Y : Type 0} (r : Result X Y) (P Q R : X → Type 0) → ((x : X) → P x → Q x → R x) → IfOk r P → IfOk r Q → IfOk r R
both_ok (Ok x) P Q R h p q = h x p q
both_ok (Err y) P Q R h p q = tt

-- What holds on the way: so many steps are left, and the spokes after those that were taken.
pub record IsContracted (s : OrientedMesh) (split : SplitView) (polygon : PolygonView) (behind : ℕ) (begun track : TrackView)
    (path : List ℕ) (steps : List PathStep) : Type 0 where
  pub goes : GoesOn s.mesh behind begun.walk begun.list track.walk track.list
  pub there : 0 < length track.walk
  pub no_spur : HasNoSpur track.walk
  pub starts : slice_index track.walk 0 ≡ slice_index begun.walk 0
  pub last : last_of track.walk ≡ last_of begun.walk
  pub spokes : IsFreelyPath s split polygon path track.walk
  pub below : All (λ i. i < polygon.degree) path
  pub leads : PathLeads polygon.places path steps []

extra_below : (n z a c : ℕ) (b : Bool) → z < n → a < n → (a ≡ z → c + 1 < n) → (a ≢ z → a + 1 < n)
    → All (λ i. i < n) (if a == z then (if b then [] else (c + 1) ∷ []) else (if b then a ∷ (a + 1) ∷ [] else z ∷ []))
extra_below n z a c true z_in a_in own other = grind arith
extra_below n z a c false z_in a_in own other = grind arith

module _ {s : OrientedMesh} {split : SplitView} {polygon : PolygonView} (is_cut : IsCutSurface s split polygon) where
  open is_cut use {valid as o, tree as t, cut, some}

  -- a spur, and a turn across another quad
  pub spur_follows : (at : ℕ) (path next walk : List ℕ) → after_path_step polygon.places (Spur at) path ≡ Some next → IsWalk s.mesh walk
      → IsFreelyPath s split polygon path walk → IsFreelyPath s split polygon next walk
  spur_follows at path next walk e w free =
      walk_stays is_cut path next walk w (spur_worth is_cut at path next e) free

  pub turn_follows : (at a c : ℕ) (rises : Bool) (path next walk : List ℕ)
      → after_path_step polygon.places (Turn at a c rises) path ≡ Some next → IsWalk s.mesh walk
      → a ≢ polygon.degree - 1 → c ≢ polygon.degree - 1 → IsFreelyPath s split polygon path walk → IsFreelyPath s split polygon next walk
  turn_follows at a c rises path next walk e w one other free =
      let worth : TurnWorth s split o t polygon rises at a c path next = turn_worth is_cut rises at a c path next e in
      walk_stays is_cut path next walk w (worth.free one other) free

  -- a turn across the quad of the last side, once the loop is put in
  pub loop_starts : (rises : Bool) (path front old new : List ℕ) → All (λ i. i < polygon.degree) path → 0 < length new
      → HasLoopIn s split polygon front rises old new → IsFreelyPath s split polygon path old → slice_index new 0 ≡ slice_index old 0
  loop_starts rises path front old new below there puts free =
      let root : ℕ = t.parents.root in
      let ways : ℕ → List ℕ = up s split t in
      let h : AreWaysUp s split root ways = λ v used. up_path s split t v used in
      let equal = puts root ways path h below (free root ways h) in
      (list_keeps_ends s.mesh equal.0 new
      (by_loop ways (slice_index old 0) (slice_index old 0)
      (put_behind root (path_loop s polygon root ways true front) (signed_loop s polygon root ways rises)
      (path_loop s polygon root ways true path)))
      there equal.2).starts

  pub loop_follows : (at a c : ℕ) (rises : Bool) (path next front old new : List ℕ)
      → after_path_step polygon.places (Turn at a c rises) path ≡ Some next → IsWalk s.mesh old
      → All (λ i. i < polygon.degree) path → (a ≡ polygon.degree - 1) ⊎ (c ≡ polygon.degree - 1)
      → front ≡ spokes_in_front (polygon.degree - 1) path at a c
      → 0 < length new → HasLoopIn s split polygon front rises old new → IsFreelyPath s split polygon path old
      → IsFreelyPath s split polygon next new
  loop_follows at a c rises path next front old new e w below which is there puts free =
      let worth : TurnWorth s split o t polygon rises at a c path next = turn_worth is_cut rises at a c path next e in
      let own : List ℕ = spokes_in_front (polygon.degree - 1) path at a c in
      walk_changes is_cut rises path own next old new w (loop_starts rises path front old new below there puts free)
      below (worth.costly which)
      (subst (λ (l : List ℕ). HasLoopIn s split polygon l rises old new) is puts) free

  -- the spokes in front are below the degree
  pub quad_below : {a c : ℕ} → IsQuad polygon.places a c → (a < polygon.degree) × (c < polygon.degree)
  quad_below {a} {c} quad = grind arith

  pub front_below : (at a c : ℕ) (path : List ℕ) → All (λ i. i < polygon.degree) path → IsQuad polygon.places a c
      → All (λ i. i < polygon.degree) (spokes_in_front (polygon.degree - 1) path at a c)
  front_below at a c path below quad =
      let z : ℕ = polygon.degree - 1 in
      let in_range = quad_below quad in
      let cross : Crosses polygon.degree (across (rotations_of s) polygon) =
      sides_cross (rotations_of s) (after_dart (rotations_of s) (λ e. not (in_cotree split e))) (is_left split) polygon
      (rotation_system s o) (cut.labels some) in
      let is : c ≡ across (rotations_of s) polygon a = quad_partner is_cut quad in
      let apart : a ≡ z → c ≢ z = λ own other. cross.other z (omega arith) (sym (is ∙ ap (across (rotations_of s) polygon) own) ∙ other) in
      All-append (λ i. i < polygon.degree) (take at path)
      (if a == z then (if from_vertex at then [] else (c + 1) ∷ []) else (if from_vertex at then a ∷ (a + 1) ∷ [] else z ∷ []))
      (All-take (λ i. i < polygon.degree) at path below)
      (extra_below polygon.degree z a c (from_vertex at) (omega arith) in_range.0
      (λ own. (let ne = apart own in omega (arith, in_range.1, ne))) (λ ne. omega (arith, in_range.0, ne)))

  pub led_walk : {behind : ℕ} {begun track : TrackView} {path : List ℕ} {steps : List PathStep}
      → IsLedFrom s.mesh behind begun.walk begun.list → IsContracted s split polygon behind begun track path steps
      → IsWalk s.mesh track.walk
  led_walk {track} led on =
      closed_walk s.mesh led.first track.walk led.rest track.list led.starts (on.goes led.first led.rest led.long led.leads) on.there

  -- the next step is allowed
  pub next_allowed : {behind : ℕ} {begun track : TrackView} {path : List ℕ} (steps : List PathStep) (n : ℕ) (d : PathStep)
      → n < length steps → IsContracted s split polygon behind begun track path (drop n steps)
      → (next : List ℕ) × (after_path_step polygon.places (get_or steps n d) path ≡ Some next)
      × PathLeads polygon.places next (drop (n + 1) steps) []
  next_allowed {path} steps n d l on =
      let leads : PathLeads polygon.places path (get_or steps n d ∷ drop (n + 1) steps) [] =
      subst (λ (x : List PathStep). PathLeads polygon.places path x []) (drop_more steps n d l) on.leads in
      let later = later-is polygon.places (get_or steps n d) (drop (n + 1) steps) path [] leads in
      (later.next, later.first, later.rest)

  pub step_below : (step : PathStep) (path next : List ℕ) → All (λ i. i < polygon.degree) path
      → after_path_step polygon.places step path ≡ Some next → All (λ i. i < polygon.degree) next
  step_below step path next below e =
      let number : length polygon.places ≡ polygon.degree = (cut.places some).each_spoke in
      subst (λ n. All (λ i. i < n) next) number
      (spokes-stay-below polygon.places path next (step ∷ []) (subst (λ n. All (λ i. i < n) path) (sym number) below)
      (ap (λ x. option_and_then (after_path_steps polygon.places []) x) e))

  -- one step more
  pub contracted_on : {behind : ℕ} {begun track : TrackView} (new : TrackView) {path : List ℕ} (next : List ℕ)
      (steps : List PathStep) (n : ℕ) (d : PathStep)
      → n < length steps → IsContracted s split polygon behind begun track path (drop n steps)
      → after_path_step polygon.places (get_or steps n d) path ≡ Some next → GoesOn s.mesh behind track.walk track.list new.walk new.list
      → 0 < length new.walk → HasNoSpur new.walk → slice_index new.walk 0 ≡ slice_index track.walk 0 → last_of new.walk ≡ last_of track.walk
      → ((other : List ℕ) → after_path_step polygon.places (get_or steps n d) path ≡ Some other
      → IsFreelyPath s split polygon other new.walk)
      → IsContracted s split polygon behind begun new next (drop (n + 1) steps)
  contracted_on new {path} next steps n d l on e goes there clean starts last spokes =
      let allowed = next_allowed steps n d l on in
      let one : allowed.0 ≡ next = some_same (sym allowed.1 ∙ e) in
      record {
        goes = λ first rest k h. goes first rest k (on.goes first rest k h);
        there = there;
        no_spur = clean;
        starts = starts ∙ on.starts;
        last = last ∙ on.last;
        spokes = spokes next e;
        below = step_below (get_or steps n d) path next on.below e;
        leads = subst (λ (x : List ℕ). PathLeads polygon.places x (drop (n + 1) steps) []) one allowed.2;
      }
    where
      some_same : {x y : List ℕ} → Some x ≡ Some y → x ≡ y
      some_same h = cc

  -- when all steps are taken, one vertex is left
  pub all_contracted : {behind : ℕ} {begun track : TrackView} {path : List ℕ} (steps : List PathStep) (n : ℕ) → length steps ≤ n
      → IsLedFrom s.mesh behind begun.walk begun.list → IsContracted s split polygon behind begun track path (drop n steps)
      → track.walk ≡ slice_index begun.walk 0 ∷ []
  all_contracted {track} {path} steps n l led on =
      let none : PathLeads polygon.places path [] [] =
      subst (λ (x : List PathStep). PathLeads polygon.places path x []) (drop_all n steps l) on.leads in
      let gone : path ≡ [] = (let e : Some path ≡ Some [] = none in cc) in
      let free : IsFreelyPath s split polygon [] track.walk =
      subst (λ (x : List ℕ). IsFreelyPath s split polygon x track.walk) gone on.spokes in
      goes_nowhere s split polygon o t track.walk (led_walk led on) on.no_spur free
      ∙ ap (λ x. x ∷ []) on.starts

-- a walk of one vertex from where another one starts
pub one_left : (walk begun : List ℕ) → length walk ≡ 1 → slice_index walk 0 ≡ slice_index begun 0 → walk ≡ slice_index begun 0 ∷ []
one_left [] begun one starts = absurd (omega (arith, one))
one_left (v ∷ []) begun one starts = ap (λ (x : ℕ). x ∷ []) starts
one_left (v ∷ w ∷ rest) begun one starts = absurd (omega (arith, one))
