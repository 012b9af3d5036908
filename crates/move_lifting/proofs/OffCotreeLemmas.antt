-- Each walk leads off the cotree: dart by dart the rest of the face below takes the place of a dart on a cotree edge.
use Rattle.move_lifting.proofs.Common.{dart_between, HasPlace, placed, names_all, rotation_system, origin_of, start_corner_of, darts_of, twin_of, edge_of, face_of, OrientedMesh, IsOrientedSurface, rotations_of, IsDartFrom, beyond, IsFaceBelow, IsOneIn, GoesAlong, FaceStep, at_face, LeavesCotree, way_round, IsOffCotree, Bool, ◌≡◌, ◌⊎◌, inl, inr, ℕ, zero, suc, ◌+◌, ◌*◌, ◌-◌, ◌<◌, ◌≤◌, true, false, not, List, [], ◌∷◌, ◌++◌, length, get_or, refl, ap, sym, ◌∙◌, subst, arith, append_assoc, cases_eq, All-nil, All-cons, IsTrue, Some, option_and_then, reverse, walk_from, all_more, none_yet, keeps_walk, tail_of, is_used, face_at, next_corner, corners_from, is_edge, apply, apply_all, is_flipped, IsWalk, darts, Side, Move, Across, option_cases, SplitView, IsSplit, below_edge, in_cotree}
use Rattle.move_lifting.specs.WalksOff.{LeadsOffCotree}
use Rattle.move_lifting.proofs.BoundLemmas.{walk_most}
use Rattle.move_lifting.proofs.CrossingLemmas.{below_step, not_below}
use Rattle.move_lifting.proofs.ExpandLemmas.{IsRest, rest_of_step, face_crossed, below_falls}
use Rattle.move_lifting.proofs.LastLoopLemmas.{round_move}
use Rattle.move_lifting.proofs.LeavingLemmas.{step_leaves}
use Rattle.move_lifting.proofs.RestLemmas.{root_round, load, load-join, load_long}

-- a dart on a cotree edge stands in the walk
record HasCotreeDart (s : OrientedMesh) (split : SplitView) (walk : List ℕ) : Type 0 where
  pub front : List ℕ
  pub u : ℕ
  pub v : ℕ
  pub rest : List ℕ
  pub is : walk ≡ front ++ u ∷ v ∷ rest
  pub step : FaceStep
  pub under : IsFaceBelow s split u v step

avoids_more : (s : OrientedMesh) (split : SplitView) (u v : ℕ) (rest : List ℕ)
    → ((d : ℕ) → IsDartFrom (rotations_of s) u v d → in_cotree split (edge_of s d) ≡ false) → IsOffCotree s split (v ∷ rest)
    → IsOffCotree s split (u ∷ v ∷ rest)
avoids_more s split u v rest first others zero d l from = first d from
avoids_more s split u v rest first others (suc k) d l from = grind arith

-- one move, to a walk that weighs less
record IsStepOff (s : OrientedMesh) (split : SplitView) (t : IsSplit s split) (walk : List ℕ) : Type 0 where
  pub move : Move
  pub next : List ℕ
  pub leads : apply s.mesh walk move ≡ Some next
  pub leaves : LeavesCotree s split move
  pub falls : load s split t next + 1 ≤ load s split t walk

-- where no dart is left
off_already : (s : OrientedMesh) (split : SplitView) (t : IsSplit s split) (n : ℕ) (walk : List ℕ) → load s split t walk ≤ n
    → IsOffCotree s split walk → LeadsOffCotree s split walk n
off_already s split t n walk light avoids = record {
  moves = [];
  off = walk;
  leads = refl;
  leave = All-nil (LeavesCotree s split);
  off_cotree = avoids;
  few = omega (arith, light, load_long s split t walk);
}

module _ {s : OrientedMesh} {split : SplitView} (o : IsOrientedSurface s) (t : IsSplit s split) where
  -- the step along the edge between two vertices, round the face below it
  step_below : (u v d face : ℕ) → IsDartFrom (rotations_of s) u v d → below_edge split (edge_of s d) ≡ Some face
      → (step : FaceStep) × IsFaceBelow s split u v step
  step_below u v d face from is =
      let chosen : (x : ℕ) × IsOneIn s d face x = elim (cases_eq (face_of s d) face) [
        | inl own ↦ (d, record { within = from.within; either = inl (own, refl) })
        | inr other ↦ (
          twin_of s d,
          record { within = (rotation_system s o).twin_within d from.within; either = inr (other, refl) },
        )
      ] in
      let place : HasPlace s.mesh chosen.0 = placed s.mesh chosen.0 chosen.1.within in
      let side : Side = record { face = record { 0 = place.face }; at = place.place } in
      let along : (step : FaceStep) × GoesAlong s.mesh side u step = elim (cases_eq (tail_of s.mesh side) u) [
        | inl here ↦ (
          record { face = side.face; corner = side.at; forward = true },
          record { face = refl; way = inl (here, refl, refl) },
        )
        | inr there ↦ (
          record { face = side.face; corner = next_corner true (length (face_at s.mesh place.face)) side.at; forward = false },
          record { face = refl; way = inr (there, refl, refl) },
        )
      ] in (
        along.0,
        below_step o t u v d face chosen.0 side along.0 from is chosen.1
            (record { face = place.numbered.face; place = place.numbered.place }) place.numbered.is along.1,
      )

  find_dart : (walk : List ℕ) → ((k : ℕ) → k + 1 < length walk → is_edge s.mesh (get_or walk k 0) (get_or walk (k + 1) 0) ≡ true)
      → IsOffCotree s split walk ⊎ HasCotreeDart s split walk
  find_dart [] edges = inl (λ k d l. absurd (omega arith))
  find_dart (u ∷ []) edges = inl (λ k d l. absurd (omega arith))
  find_dart (u ∷ v ∷ rest) edges =
      let found = dart_between s o u v (edges 0 (omega arith)) in
      let d : ℕ = found.0 in
      let later : (k : ℕ) → k + 1 < length (v ∷ rest) → is_edge s.mesh (get_or (v ∷ rest) k 0) (get_or (v ∷ rest) (k + 1) 0) ≡ true =
      λ k l. (let up : suc k + 1 ≡ suc (k + 1) = omega arith in
      subst (λ (n : ℕ). is_edge s.mesh (get_or (v ∷ rest) k 0) (get_or (u ∷ v ∷ rest) n 0) ≡ true) up (edges (suc k) (omega arith))) in
      elim (option_cases (below_edge split (edge_of s d))) [
        | inr below ↦
            let step = step_below u v d below.0 found.1 below.1 in
            inr (record { front = []; u = u; v = v; rest = rest; is = refl; step = step.0; under = step.1 })
        | inl none ↦ elim (find_dart (v ∷ rest) later) [
          | inl avoids ↦ inl (avoids_more s split u v rest (λ x other. not_below o t u v d x found.1 none other) avoids)
          | inr has ↦ inr (record {
            front = u ∷ has.front;
            u = has.u;
            v = has.v;
            rest = has.rest;
            is = ap (λ (l : List ℕ). u ∷ l) has.is;
            step = has.step;
            under = has.under;
          })
        ]
      ]

  step_off : (walk : List ℕ) → HasCotreeDart s split walk → IsStepOff s split t walk
  step_off walk has =
      let u : ℕ = has.u in
      let v : ℕ = has.v in
      let step : FaceStep = has.step in
      let under : IsFaceBelow s split u v step = has.under in
      let ring : List ℕ = face_at s.mesh step.face.0 in
      let round : List ℕ = corners_from ring (not step.forward) step.corner (length ring - 1) in
      let inner : List ℕ = reverse (beyond s.mesh step) in
      let around : IsRest s.mesh step u v = rest_of_step o.faces under in
      let big : 3 ≤ length ring = (o.faces.faces step.face.0 [] under.is_step.face).polygon in
      let next : List ℕ = has.front ++ round ++ has.rest in
      let move : Move = Across (length has.front) step.face step.corner step.forward 1 in
      let to : next ≡ has.front ++ u ∷ (inner ++ has.rest) =
      ap (λ (l : List ℕ). has.front ++ l ++ has.rest) around.turned ∙ append_assoc has.front (u ∷ inner) has.rest in
      let inside : u ∷ (inner ++ has.rest) ≡ around.front ++ v ∷ has.rest =
      ap (λ (l : List ℕ). l ++ has.rest) (sym around.turned ∙ around.ends) ∙ append_assoc around.front (v ∷ []) has.rest in
      record {
        move = move;
        next = next;
        leads = subst (λ (l : List ℕ). apply s.mesh l move ≡ Some next) (sym has.is)
            (face_crossed has.front has.rest under big);
        leaves = step_leaves s split u v (length has.front) step under;
        falls = omega (
          arith,
          below_falls o t under,
          ap (load s split t) has.is,
          ap (load s split t) to,
          ap (load s split t) inside,
          ap (load s split t) around.ends,
          load-join s split t has.front (v ∷ has.rest) u,
          load-join s split t has.front (inner ++ has.rest) u,
          load-join s split t around.front has.rest v,
        );
      }

  -- such moves, one after another
  lead_off : (n : ℕ) (walk : List ℕ) → IsWalk s.mesh walk → load s split t walk ≤ n → LeadsOffCotree s split walk n
  lead_off zero walk w light = elim (find_dart walk (λ k l. w.edges k (omega arith))) [
    | inl avoids ↦ off_already s split t zero walk light avoids
    | inr has ↦ absurd (let one = step_off walk has in omega (arith, light, one.falls))
  ]
  lead_off (suc n) walk w light = elim (find_dart walk (λ k l. w.edges k (omega arith))) [
    | inl avoids ↦ off_already s split t (suc n) walk light avoids
    | inr has ↦
        let one : IsStepOff s split t walk = step_off walk has in
        let all : LeadsOffCotree s split one.next n =
        lead_off n one.next (keeps_walk s.mesh walk one.next one.move w one.leads) (omega (arith, light, one.falls)) in
        record {
          moves = one.move ∷ all.moves;
          off = all.off;
          leads = ap (option_and_then (λ next. apply_all s.mesh next all.moves)) one.leads ∙ all.leads;
          leave = All-cons (LeavesCotree s split) one.move all.moves one.leaves all.leave;
          off_cotree = all.off_cotree;
          few = omega (arith, all.few);
        }
  ]

  pub walk_leads_off : (walk : List ℕ) → IsWalk s.mesh walk → LeadsOffCotree s split walk (darts walk * darts_of s)
  walk_leads_off walk w = lead_off (darts walk * darts_of s) walk w (walk_most s split o t walk w)

  -- all round the root face
  pub root_face_leads_off : (d : ℕ) → d < darts_of s
      → face_of s d ≡ split.root_face → LeadsOffCotree s split (way_round s split d) (darts_of s)
  root_face_leads_off d l root =
      let v : ℕ = origin_of s d in
      let f : ℕ = face_of s d in
      let c : ℕ = start_corner_of s d in
      let rising : Bool = not (is_flipped s.signs split.root_face) in
      let at = at_face s d l in
      let round : ℕ → List ℕ = λ g. corners_from (face_at s.mesh g) rising c (length (face_at s.mesh g)) in
      let move : Move = Across 0 (record { 0 = f }) c (not rising) 0 in
      let leads : apply s.mesh (v ∷ []) move ≡ Some (round f) =
      round_move s.mesh (record { 0 = f }) c v rising at.in_list at.in_face at.vertex in
      let one : IsWalk s.mesh (v ∷ []) =
      walk_from s.mesh (v ∷ []) (omega arith)
      (all_more (λ x. IsTrue (is_used s.mesh x)) v [] ((names_all s o).vertex_used d l) (none_yet (λ x. IsTrue (is_used s.mesh x)))) tt in
      subst (λ (w : List ℕ). LeadsOffCotree s split w (darts_of s)) (ap round root)
      (lead_off (darts_of s) (round f) (keeps_walk s.mesh (v ∷ []) (round f) move one leads)
      (root_round o t f c rising root at.in_list at.in_face))
