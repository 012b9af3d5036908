-- Moves do not change how a walk acts, where once round the faces that they cross changes nothing: the parts that a move puts in each
-- other's place go alike, and so do walks of which such parts stand in one place.
use Rattle.std.proofs.Common.{◌≡◌, ℕ, zero, suc, ◌+◌, ◌-◌, ◌<◌, ◌≤◌, Bool, true, false, not, List, [], ◌∷◌, ◌++◌, length, get_or, refl, ap, sym, ◌∙◌, subst, arith}
use Rattle.std.specs.Prelude.{All}
use Rattle.surf_model.specs.FaceLists.{FaceList, face_at, next_corner}
use Rattle.surf_model.specs.Walks.{IsWalk}
use Rattle.surf_model.specs.Moves.{Leads, apply, apply_all}
use Rattle.surf_model.specs.Replacements.{Replaces}
use Rattle.surf_model.specs.declared.moves.Move.{Move}
use Rattle.surf_model.specs.declared.moves.Move.TheVariants.{Insert, Remove, Across}
use Rattle.surf_model.proofs.EdgeLemmas.{step_edge, step_within}
use Rattle.surf_model.proofs.RoundLemmas.{corner_after, meet}
use Rattle.surf_model.proofs.ReplacementLemmas.{by_replacing}
use Rattle.surf_model.proofs.ContextLemmas.{first_answer, stays_walk}
use Rattle.walk_actions.specs.Actions.{run, walked, vertices_beyond, EachDart, EachDartOf, ActsAlong, Acts, IsEdge, AreDarts, RoundIsNothing, FacesActAsNothing, CrossesOnly}
use Rattle.walk_actions.proofs.Corners.{next_back, next_forth, after_more, once_round, steps_to, corners_beyond}
use Rattle.walk_actions.proofs.Runs.{end_from, end_from-append, end_beyond, each_front, each_behind, each_on, each_round, edges_of, edges_are_darts, run-append, run-more, walked-round}

-- where states are told apart by equality
pub acts_exactly : {State : Type 0} (IsDart : ℕ → ℕ → Type 0) (act : State → ℕ → ℕ → State) (IsAt : ℕ → State → Type 0)
    → ((u v : ℕ) (s : State) → IsDart u v → IsAt u s → IsAt v (act s u v))
    → ((u v : ℕ) (s : State) → IsDart u v → IsAt u s → act (act s u v) v u ≡ s)
    → ActsAlong IsDart (λ (s t : State). s ≡ t) act IsAt
acts_exactly {State} IsDart act IsAt stays back = record {
  itself = λ u s at. refl;
  turned = λ u s t at there same. sym same;
  joined = λ u r s t one two three first second. first ∙ second;
  stays = stays;
  keeps = λ u v s t dart at there same. ap (λ (x : State). act x u v) same;
  back = back;
}

-- two states at a vertex that are the same
pub record AreSameAt {State : Type 0} (Same : State → State → Type 0) (IsAt : ℕ → State → Type 0) (u : ℕ) (s t : State) : Type 0 where
  pub first : IsAt u s
  pub second : IsAt u t
  pub same : Same s t

-- from a vertex on, two ways end alike, the second goes along darts where the first does, and they act alike
pub record WaysAlike {State : Type 0} (IsDart : ℕ → ℕ → Type 0) (Same : State → State → Type 0) (act : State → ℕ → ℕ → State)
    (IsAt : ℕ → State → Type 0) (start : ℕ) (rest others : List ℕ) : Type 0
  where
    pub ends : end_from start rest ≡ end_from start others
    pub darts : EachDart IsDart start rest → EachDart IsDart start others
    pub alike : (s : State) → EachDart IsDart start rest → IsAt start s
        → AreSameAt Same IsAt (end_from start rest) (run act s start rest) (run act s start others)

-- two walks begin alike, and so they go on
pub record GoAlike {State : Type 0} (IsDart : ℕ → ℕ → Type 0) (Same : State → State → Type 0) (act : State → ℕ → ℕ → State)
    (IsAt : ℕ → State → Type 0) (walk other : List ℕ) : Type 0
  where
    pub start : ℕ
    pub rest : List ℕ
    pub others : List ℕ
    pub walk_is : walk ≡ start ∷ rest
    pub other_is : other ≡ start ∷ others
    pub ways : WaysAlike IsDart Same act IsAt start rest others

-- what k steps round a ring make of a state
abbrev pub round : {State : Type 0} → (State → ℕ → ℕ → State) → List ℕ → Bool → State → ℕ → ℕ → State
round act ring rising s t k = run act s (get_or ring t 0) (vertices_beyond ring rising t k)

-- k steps in a direction and l steps in the other one act alike from corner t
abbrev TwoWays : {State : Type 0} → (State → State → Type 0) → (State → ℕ → ℕ → State) → (ℕ → State → Type 0) → List ℕ → Bool → ℕ → ℕ → ℕ
    → Type 0
TwoWays {State} Same act IsAt ring rising k l t =
    (s : State) → IsAt (get_or ring t 0) s
    → AreSameAt Same IsAt (get_or ring (corner_after rising (length ring) t k) 0) (round act ring rising s t k)
    (round act ring (not rising) s t l)

module _ {State : Type 0} (IsDart : ℕ → ℕ → Type 0) (Same : State → State → Type 0) (act : State → ℕ → ℕ → State)
    (IsAt : ℕ → State → Type 0) (acts : ActsAlong IsDart Same act IsAt)
  where
    pub itself : (u : ℕ) (s : State) → IsAt u s → AreSameAt Same IsAt u s s
    itself u s at = record { first = at; second = at; same = acts.itself u s at }

    pub turned : {u : ℕ} {s t : State} → AreSameAt Same IsAt u s t → AreSameAt Same IsAt u t s
    turned {u} {s} {t} h = record { first = h.second; second = h.first; same = acts.turned u s t h.first h.second h.same }

    pub joined : {u : ℕ} {r s t : State} → AreSameAt Same IsAt u r s → AreSameAt Same IsAt u s t → AreSameAt Same IsAt u r t
    joined {u} {r} {s} {t} h k = record {
      first = h.first;
      second = k.second;
      same = acts.joined u r s t h.first h.second k.second h.same k.same;
    }

    pub stepped : {u : ℕ} {s t : State} (v : ℕ) → IsDart u v → AreSameAt Same IsAt u s t
        → AreSameAt Same IsAt v (act s u v) (act t u v)
    stepped {u} {s} {t} v dart h = record {
      first = acts.stays u v s dart h.first;
      second = acts.stays u v t dart h.second;
      same = acts.keeps u v s t dart h.first h.second h.same;
    }

    pub there_and_back : (u v : ℕ) (s : State) → IsDart u v → IsDart v u → IsAt u s → AreSameAt Same IsAt u (act (act s u v) v u) s
    there_and_back u v s dart home at = record {
      first = acts.stays v u (act s u v) home (acts.stays u v s dart at);
      second = at;
      same = acts.back u v s dart at;
    }

    pub run_alike : (u : ℕ) (vs : List ℕ) {s t : State} → EachDart IsDart u vs → AreSameAt Same IsAt u s t
        → AreSameAt Same IsAt (end_from u vs) (run act s u vs) (run act t u vs)
    run_alike u [] darts h = h
    run_alike u (v ∷ vs) darts h = run_alike v vs darts.1 (stepped v darts.0 h)

    pub run_stays : (s : State) (u : ℕ) (vs : List ℕ) → EachDart IsDart u vs → IsAt u s → IsAt (end_from u vs) (run act s u vs)
    run_stays s u vs darts at = (run_alike u vs darts (itself u s at)).first

    pub alike_itself : (start : ℕ) (rest : List ℕ) → GoAlike IsDart Same act IsAt (start ∷ rest) (start ∷ rest)
    alike_itself start rest = record {
      start = start;
      rest = rest;
      others = rest;
      walk_is = refl;
      other_is = refl;
      ways = record { ends = refl; darts = λ h. h; alike = λ s h at. run_alike start rest h (itself start s at) };
    }

    ways_joined : (start : ℕ) (first second third : List ℕ) → WaysAlike IsDart Same act IsAt start first second
        → WaysAlike IsDart Same act IsAt start second third → WaysAlike IsDart Same act IsAt start first third
    ways_joined start first second third h k = record {
      ends = h.ends ∙ k.ends;
      darts = λ d. k.darts (h.darts d);
      alike = λ s d at.
          joined (h.alike s d at)
          (subst (λ (u : ℕ). AreSameAt Same IsAt u (run act s start second) (run act s start third)) (sym h.ends)
          (k.alike s (h.darts d) at));
    }

    pub alike_joined : (first second third : List ℕ) → GoAlike IsDart Same act IsAt first second → GoAlike IsDart Same act IsAt second third
        → GoAlike IsDart Same act IsAt first third
    alike_joined first second third h k =
        let both : k.start ∷ k.rest ≡ h.start ∷ h.others = sym k.walk_is ∙ h.other_is in
        let one : k.start ≡ h.start = cc in
        let two : k.rest ≡ h.others = cc in
        record {
          start = h.start;
          rest = h.rest;
          others = k.others;
          walk_is = h.walk_is;
          other_is = k.other_is ∙ ap (λ (u : ℕ). u ∷ k.others) one;
          ways =
              ways_joined h.start h.rest h.others k.others h.ways
              (subst (λ (u : ℕ). WaysAlike IsDart Same act IsAt u h.others k.others) one
              (subst (λ (vs : List ℕ). WaysAlike IsDart Same act IsAt k.start vs k.others) two k.ways));
        }

    -- more in front of both
    alike_before : (before walk other : List ℕ) → GoAlike IsDart Same act IsAt walk other
        → GoAlike IsDart Same act IsAt (before ++ walk) (before ++ other)
    alike_before [] walk other h = h
    alike_before (b ∷ before) walk other h =
        let more = alike_before before walk other h in
        record {
          start = b;
          rest = more.start ∷ more.rest;
          others = more.start ∷ more.others;
          walk_is = ap (λ (l : List ℕ). b ∷ l) more.walk_is;
          other_is = ap (λ (l : List ℕ). b ∷ l) more.other_is;
          ways = record {
            ends = more.ways.ends;
            darts = λ d. (d.0, more.ways.darts d.1);
            alike = λ s d at. more.ways.alike (act s b more.start) d.1 (acts.stays b more.start s d.0 at);
          };
        }

    -- and behind both
    pub alike_between : (before part other after : List ℕ) → GoAlike IsDart Same act IsAt part other
        → GoAlike IsDart Same act IsAt (before ++ part ++ after) (before ++ other ++ after)
    alike_between before part other after around =
        let h = alike_before before part other around in
        let ended : (vs : List ℕ) → end_from h.start (vs ++ after) ≡ end_from (end_from h.start vs) after =
        λ vs. end_from-append h.start vs after in
        record {
          start = h.start;
          rest = h.rest ++ after;
          others = h.others ++ after;
          walk_is = ap (λ (l : List ℕ). l ++ after) h.walk_is;
          other_is = ap (λ (l : List ℕ). l ++ after) h.other_is;
          ways = record {
            ends = ended h.rest ∙ ap (λ (u : ℕ). end_from u after) h.ways.ends ∙ sym (ended h.others);
            darts = λ d.
                each_on IsDart h.start h.others after (h.ways.darts (each_front IsDart h.start h.rest after d))
                (subst (λ (u : ℕ). EachDart IsDart u after) h.ways.ends (each_behind IsDart h.start h.rest after d));
            alike = λ s d at.
                rw (ended h.rest, run-append act s h.start h.rest after, run-append act s h.start h.others after, ← h.ways.ends)
                (run_alike (end_from h.start h.rest) after (each_behind IsDart h.start h.rest after d)
                (h.ways.alike s (each_front IsDart h.start h.rest after d) at));
          };
        }

    -- Round a ring: where once round from one corner changes nothing, the two ways from a corner to another act alike.
    module _ (turn : (u v : ℕ) → IsDart u v → IsDart v u) (ring : List ℕ)
        (step : (rising : Bool) (t : ℕ) → t < length ring → IsDart (get_or ring t 0) (get_or ring (next_corner rising (length ring) t) 0))
      where
        round_alike : (rising : Bool) (t k : ℕ) {s s' : State} → t < length ring → AreSameAt Same IsAt (get_or ring t 0) s s'
            → AreSameAt Same IsAt (get_or ring (corner_after rising (length ring) t k) 0) (round act ring rising s t k)
            (round act ring rising s' t k)
        round_alike rising t zero l h = h
        round_alike rising t (suc k) l h =
            round_alike rising (next_corner rising (length ring) t) k (step_within rising (length ring) t l)
            (stepped (get_or ring (next_corner rising (length ring) t) 0) (step rising t l) h)

        module _ (rising : Bool) where
          -- from the next corner one step fewer, and one step more the other way
          from_next : (k l t : ℕ) → t < length ring → TwoWays Same act IsAt ring rising (suc k) l t
              → TwoWays Same act IsAt ring rising k (suc l) (next_corner rising (length ring) t)
          from_next k l t within ways s at =
              let m : ℕ = length ring in
              let next : ℕ = next_corner rising m t in
              let u : ℕ = get_or ring t 0 in
              let v : ℕ = get_or ring next 0 in
              let dart : IsDart u v = step rising t within in
              let before : State = act s v u in
              let again : AreSameAt Same IsAt v (act before u v) s = there_and_back v u s (turn u v dart) dart at in
              subst
              (λ (x : ℕ). AreSameAt Same IsAt (get_or ring (corner_after rising m next k) 0) (round act ring rising s next k)
              (round act ring (not rising) (act s v (get_or ring x 0)) x l))
              (sym (next_back rising m t within))
              (joined (round_alike rising next k (step_within rising m t within) (turned again))
              (ways before (acts.stays v u s (turn u v dart) at)))

          -- where once round from a corner changes nothing, once round from the next one does not
          round_from_next : (k t : ℕ) → length ring ≡ suc k → t < length ring → TwoWays Same act IsAt ring rising (suc k) 0 t
              → TwoWays Same act IsAt ring rising (suc k) 0 (next_corner rising (length ring) t)
          round_from_next k t size within ways s at =
              let m : ℕ = length ring in
              let next : ℕ = next_corner rising m t in
              let u : ℕ = get_or ring t 0 in
              let v : ℕ = get_or ring next 0 in
              let dart : IsDart u v = step rising t within in
              let most : State = round act ring rising s next k in
              let home : corner_after rising m next k ≡ t = ap (corner_after rising m t) (sym size) ∙ once_round rising m t within in
              let on : corner_after rising m next (suc k) ≡ next = after_more rising m next k ∙ ap (next_corner rising m) home in
              let back : AreSameAt Same IsAt u most (act s v u) =
              subst (λ (x : ℕ). AreSameAt Same IsAt (get_or ring x 0) most (act s v u)) home
              (subst (λ (x : ℕ). AreSameAt Same IsAt (get_or ring (corner_after rising m next k) 0) most (act s v (get_or ring x 0)))
              (next_back rising m t within) (from_next k 0 t within ways s at)) in
              let whole : AreSameAt Same IsAt v (act most u v) s =
              joined (stepped v dart back) (there_and_back v u s (turn u v dart) dart at) in
              let read : round act ring rising s next (suc k) ≡ act most u v =
              run-more act s ring rising next k
              ∙ ap (λ (x : ℕ). act most (get_or ring x 0) (get_or ring (corner_after rising m next (suc k)) 0)) home
              ∙ ap (λ (x : ℕ). act most u (get_or ring x 0)) on in
              subst (λ (x : ℕ). AreSameAt Same IsAt (get_or ring x 0) (round act ring rising s next (suc k)) s) (sym on)
              (subst (λ (x : State). AreSameAt Same IsAt v x s) (sym read) whole)

          -- so from each corner behind
          round_on : (k j t : ℕ) → length ring ≡ suc k → t < length ring → TwoWays Same act IsAt ring rising (suc k) 0 t
              → TwoWays Same act IsAt ring rising (suc k) 0 (corner_after rising (length ring) t j)
          round_on k zero t size within ways = ways
          round_on k (suc j) t size within ways =
              round_on k j (next_corner rising (length ring) t) size (step_within rising (length ring) t within)
              (round_from_next k t size within ways)

          module _ (t : ℕ) (within : t < length ring) (nothing : RoundIsNothing Same act IsAt ring rising t) where
            round_anywhere : (c : ℕ) → c < length ring → TwoWays Same act IsAt ring rising (length ring) 0 c
            round_anywhere c c_in =
                let m : ℕ = length ring in
                let size : m ≡ suc (m - 1) = omega arith in
                let way = steps_to rising m t c within c_in in
                subst (λ (x : ℕ). TwoWays Same act IsAt ring rising m 0 x) way.1
                (subst (λ (n : ℕ). TwoWays Same act IsAt ring rising n 0 (corner_after rising m t way.0)) (sym size)
                (round_on (m - 1) way.0 t size within (subst (λ (n : ℕ). TwoWays Same act IsAt ring rising n 0 t) size (λ s at. record {
                  first = (round_alike rising t m within (itself (get_or ring t 0) s at)).first;
                  second = subst (λ (x : ℕ). IsAt (get_or ring x 0) s) (sym (once_round rising m t within)) at;
                  same = subst (λ (x : State). Same x s) (walked-round act s ring rising t m) (nothing s at);
                }))))

            -- and the two ways from a corner to another act alike
            two_ways : (l k c : ℕ) → k + l ≡ length ring → c < length ring → TwoWays Same act IsAt ring rising k l c
            two_ways zero k c all c_in =
                let whole : length ring ≡ k = omega arith in
                subst (λ (n : ℕ). TwoWays Same act IsAt ring rising n 0 c) whole (round_anywhere c c_in)
            two_ways (suc l) k c all c_in =
                let before : ℕ = next_corner (not rising) (length ring) c in
                let before_in : before < length ring = step_within (not rising) (length ring) c c_in in
                subst (TwoWays Same act IsAt ring rising k (suc l)) (next_forth rising (length ring) c c_in)
                (from_next k l before before_in (two_ways l (suc k) before (omega arith) before_in))

            other_way : (c taken : ℕ) → c < length ring → taken ≤ length ring → (s : State) → IsAt (get_or ring c 0) s
                → AreSameAt Same IsAt (get_or ring (corner_after (not rising) (length ring) c taken) 0)
                (round act ring (not rising) s c taken) (round act ring rising s c (length ring - taken))
            other_way c taken c_in few s at =
                let m : ℕ = length ring in
                let left : m - (m - taken) ≡ taken = omega arith in
                subst (λ (x : ℕ). AreSameAt Same IsAt (get_or ring x 0) (round act ring (not rising) s c taken)
                (round act ring rising s c (m - taken)))
                (meet rising m c (m - taken) c_in (omega arith) ∙ ap (corner_after (not rising) m c) left)
                (turned (two_ways taken (m - taken) c (omega arith) c_in s at))

        ways_alike : (rising : Bool) (t : ℕ) → t < length ring → RoundIsNothing Same act IsAt ring rising t
            → (forward : Bool) (c taken : ℕ) → c < length ring → taken ≤ length ring → (s : State) → IsAt (get_or ring c 0) s
            → AreSameAt Same IsAt (get_or ring (corner_after forward (length ring) c taken) 0) (round act ring forward s c taken)
            (round act ring (not forward) s c (length ring - taken))
        ways_alike true t l nothing true c taken c_in few s at =
            two_ways true t l nothing (length ring - taken) taken c (omega arith) c_in s at
        ways_alike false t l nothing false c taken c_in few s at =
            two_ways false t l nothing (length ring - taken) taken c (omega arith) c_in s at
        ways_alike true t l nothing false c taken c_in few s at = other_way true t l nothing c taken c_in few s at
        ways_alike false t l nothing true c taken c_in few s at = other_way false t l nothing c taken c_in few s at

    -- Moves.
    module _ (mesh : FaceList) (dart : AreDarts mesh IsDart) (May : ℕ → Type 0) (faces : FacesActAsNothing mesh Same act IsAt May) where
      -- the parts that a move puts in each other's place go alike
      parts_alike : (move : Move) (part other : List ℕ) → CrossesOnly May move → Replaces mesh move part other
          → GoAlike IsDart Same act IsAt part other
      parts_alike (Insert at via) part other may h = record {
        start = h.0;
        rest = [];
        others = via.0 ∷ h.0 ∷ [];
        walk_is = h.2;
        other_is = h.3;
        ways =
            let out : IsDart h.0 via.0 = dart.edges h.0 via.0 h.1 in
            let home : IsDart via.0 h.0 = dart.turned h.0 via.0 out in
            record {
              ends = refl;
              darts = λ d. (out, (home, tt));
              alike = λ s d at.
                  turned (there_and_back h.0 via.0 s out home at);
            };
      }
      parts_alike (Remove at via) part other may h = record {
        start = h.0;
        rest = via.0 ∷ h.0 ∷ [];
        others = [];
        walk_is = h.1;
        other_is = h.2;
        ways = record {
          ends = refl;
          darts = λ d. tt;
          alike = λ s d at. there_and_back h.0 via.0 s d.0 d.1.0 at;
        };
      }
      parts_alike (Across at face corner forward taken) part other may h =
          let ring : List ℕ = face_at mesh face.0 in
          let m : ℕ = length ring in
          let once = faces.round face.0 h.0 may in
          let ended = end_beyond ring forward corner taken in
          let steps = λ (rising : Bool) (t : ℕ) (within : t < m). dart.edges _ _ (step_edge mesh face.0 rising t h.0 within) in
          record {
            start = get_or ring corner 0;
            rest = vertices_beyond ring forward corner taken;
            others = vertices_beyond ring (not forward) corner (m - taken);
            walk_is = h.3 ∙ corners_beyond ring forward corner taken;
            other_is = h.4 ∙ corners_beyond ring (not forward) corner (m - taken);
            ways = record {
              ends =
                  ended ∙ ap (λ (c : ℕ). get_or ring c 0) (meet forward m corner taken h.1 h.2)
                  ∙ sym (end_beyond ring (not forward) corner (m - taken));
              darts = λ d. each_round IsDart ring steps (not forward) corner (m - taken) h.1;
              alike = λ s d at.
                  subst (λ (x : ℕ). AreSameAt Same IsAt x (round act ring forward s corner taken)
                  (round act ring (not forward) s corner (m - taken))) (sym ended)
                  (ways_alike dart.turned ring steps once.0 once.1 once.2 once.3 forward corner taken h.1 h.2 s at);
            };
          }

      -- a walk and the walk after some moves go alike
      moves_alike : (moves : List Move) (first second : List ℕ) → 0 < length first → All (CrossesOnly May) moves
          → Leads mesh first moves second → GoAlike IsDart Same act IsAt first second
      moves_alike [] [] second some may e = absurd (omega arith)
      moves_alike [] (u ∷ us) second some may e =
          let same : u ∷ us ≡ second = cc in
          subst (GoAlike IsDart Same act IsAt (u ∷ us)) same (alike_itself u us)
      moves_alike (move ∷ moves) first second some may e =
          let told = first_answer (λ x. apply_all mesh x moves) (apply mesh first move) second e in
          let r = (by_replacing mesh first told.0 move some).0 told.1 in
          let one : GoAlike IsDart Same act IsAt first told.0 =
          subst (λ (l : List ℕ). GoAlike IsDart Same act IsAt l told.0) (sym r.walk_is)
          (subst (GoAlike IsDart Same act IsAt (r.before ++ r.part ++ r.after)) (sym r.next_is)
          (alike_between r.before r.part r.other r.after
          (parts_alike move r.part r.other (may 0 move (omega arith)) r.replaces))) in
          alike_joined first told.0 second one
          (moves_alike moves told.0 second (stays_walk mesh first told.0 move some told.1) (λ k d l. may (suc k) d (omega arith)) told.2)

      pub moves_act_along : (moves : List Move) (first second : List ℕ) (s : State) → 0 < length first → EachDartOf IsDart first
          → All (CrossesOnly May) moves → Leads mesh first moves second → IsAt (get_or first 0 0) s
          → Same (walked act s first) (walked act s second)
      moves_act_along moves first second s some darts may e at =
          let a = moves_alike moves first second some may e in
          let same =
          a.ways.alike s (subst (EachDartOf IsDart) a.walk_is darts) (subst (λ (l : List ℕ). IsAt (get_or l 0 0) s) a.walk_is at) in
          subst (λ (l : List ℕ). Same (walked act s l) (walked act s second)) (sym a.walk_is)
          (subst (λ (l : List ℕ). Same (walked act s (a.start ∷ a.rest)) (walked act s l)) (sym a.other_is) same.same)

-- moves do not change how a walk acts
pub moves_act : {State : Type 0} (mesh : FaceList) (Same : State → State → Type 0) (act : State → ℕ → ℕ → State)
    (IsAt : ℕ → State → Type 0) → Acts mesh Same act IsAt → (May : ℕ → Type 0) → FacesActAsNothing mesh Same act IsAt May
    → (moves : List Move) (first second : List ℕ) (s : State) → IsWalk mesh first → All (CrossesOnly May) moves
    → Leads mesh first moves second → IsAt (get_or first 0 0) s → Same (walked act s first) (walked act s second)
moves_act mesh Same act IsAt acts May faces moves first second s walk =
    moves_act_along (IsEdge mesh) Same act IsAt acts mesh (edges_are_darts mesh) May faces moves first second s walk.starts
    (edges_of mesh first walk)

-- where each face may be crossed, all moves will do
pub crosses_any : (moves : List Move) → All (CrossesOnly (λ (f : ℕ). Unit {0})) moves
crosses_any moves k d l = any (get_or moves k d)
  where
    any : (move : Move) → CrossesOnly (λ (f : ℕ). Unit {0}) move
    any (Insert at via) = tt
    any (Remove at via) = tt
    any (Across at face corner forward taken) = tt
