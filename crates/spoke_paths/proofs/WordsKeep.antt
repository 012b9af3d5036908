-- The spokes of a turn word, and that elementary steps on it keep of them what spurs and quads keep: a spur takes two equal neighbours out,
-- and a push changes two neighbours across a quad. So lists of spokes are the same where their turn words reach one another.
use Rattle.spoke_paths.proofs.Common.{upper_way, lower_way, ◌≡◌, ℕ, zero, suc, ◌<◌, ◌≤◌, Bool, true, false, not, eqb, List, [], ◌∷◌, ◌++◌, length, get_or, refl, ap, ap₂, sym, ◌∙◌, subst, arith, Option, Some, All, eqb-true, ltb-true, cond_some, nat_lt, state, keeps-step, turns, IsQuad, IsHyperWheel, in-range-from, InRange, add-lt, minus-lt, add-zero, add_comm, add_assoc, zero-add, add-minus, add, minus, place_round, turns_after, turn_word_of}
use Rattle.surf_model.proofs.ContextLemmas.{first_answer}
use Rattle.turn_words.proofs.Reaching.{start-sound}
use Rattle.turn_words.specs.StepTable.{next_changed, spur_in, spur_out, pushed, from_place, after_step, after_word_steps, Reaches}
use Rattle.turn_words.specs.declared.step.Step.{Step}
use Rattle.turn_words.specs.declared.step.Step.TheVariants.{SpurIn, SpurOut, Push}
use Rattle.spoke_paths.proofs.StepsKeep.{KeepsSteps, ways-same, mapped-is}

-- a wheel of spokes with the quads of a polygon: places are undone by `spoke_at`, and each number has a partner with which it makes a quad
pub record IsQuadWheel (degree : ℕ) (place spoke_at partner : ℕ → ℕ) : Type 0 where
  pub large : 1 < degree
  pub place_in : (i : ℕ) → i < degree → place i < degree
  pub spoke_in : (x : ℕ) → x < degree → spoke_at x < degree
  pub place_of_spoke : (x : ℕ) → x < degree → place (spoke_at x) ≡ x
  pub spoke_of_place : (i : ℕ) → i < degree → spoke_at (place i) ≡ i
  pub partner_in : (a : ℕ) → a < degree → partner a < degree
  pub partner_back : (a : ℕ) → a < degree → partner (partner a) ≡ a
  pub one_before : (a : ℕ) → a < degree → place (add degree (partner a) 1) ≡ add degree (place a) (minus degree 1)

-- the spoke with a place round the vertex, or round the middle
abbrev spoke_round : (ℕ → ℕ) → Bool → ℕ → ℕ
spoke_round spoke_at true x = spoke_at x
spoke_round spoke_at false x = x

-- the spokes of a word, from the vertex or from the middle, where turns are counted from m
abbrev path_of : List ℕ → (ℕ → ℕ) → Bool → ℕ → List ℕ → List ℕ
path_of places spoke_at v m [] = []
path_of places spoke_at v m (y ∷ word) =
    spoke_round spoke_at v (add (length places) m y)
    ∷ path_of places spoke_at (not v) (place_round places (not v) (spoke_round spoke_at v (add (length places) m y))) word

-- sums, counted round
pub add_back : (degree x : ℕ) → 1 < degree → x < degree → add degree (add degree x 1) (minus degree 1) ≡ x
add_back degree x m l = grind (arith, add_assoc, minus-lt, add-minus, add-zero)

add_on : (degree m p : ℕ) → m < degree → p < degree → add degree m (add degree p (minus degree m)) ≡ p
add_on degree m p l k = grind (arith, add_comm, add_assoc, minus-lt, add-minus, zero-add)

changed_within : (degree amount : ℕ) (word : List ℕ) → amount < degree → InRange degree word
    → InRange degree (next_changed degree amount word)
changed_within degree amount [] l h = tt
changed_within degree amount (y ∷ word) l h = (add-lt degree y amount h.0 l, h.1)

unchanged : (degree a b : ℕ) (word : List ℕ) → InRange degree word → a < degree → b < degree → add degree a b ≡ 0
    → next_changed degree b (next_changed degree a word) ≡ word
unchanged degree a b [] h l k e = refl
unchanged degree a b (y ∷ word) h l k e = ap (λ x. x ∷ word) (add_assoc degree y a b h.0 l k ∙ ap (add degree y) e ∙ add-zero degree y h.0)

-- a side makes a quad with one other
pub one_partner : (places : List ℕ) → 1 < length places → ((i j : ℕ) → i < length places → j < length places
    → get_or places i 0 ≡ get_or places j 0 → i ≡ j) → (a b c : ℕ) → IsQuad places a b → IsQuad places a c → b ≡ c
one_partner places large once a b c p q =
    let d : ℕ = length places in
    let next : add d b 1 ≡ add d c 1 = grind (arith, add-lt) in
    sym (add_back d b large p.c_below) ∙ ap (λ x. add d x (minus d 1)) next ∙ add_back d c large q.c_below

module _ (places : List ℕ) (spoke_at partner : ℕ → ℕ) (q : IsQuadWheel (length places) (λ i. get_or places i 0) spoke_at partner) where
  -- a side and its partner make a quad
  pub quad_of : (a : ℕ) → a < length places → IsQuad places a (partner a)
  quad_of a l = grind arith

  -- and with no other
  pub partner_is : (a c : ℕ) → IsQuad places a c → partner a ≡ c
  partner_is a c quad =
      one_partner places q.large (λ i j l k e. sym (q.spoke_of_place i l) ∙ ap spoke_at e ∙ q.spoke_of_place j k) a (partner a) c
      (quad_of a quad.a_below) quad

  value_in : (v : Bool) (i : ℕ) → i < length places → place_round places v i < length places
  value_in true i l = q.place_in i l
  value_in false i l = l

  round_in : (v : Bool) (x : ℕ) → x < length places → spoke_round spoke_at v x < length places
  round_in true x l = q.spoke_in x l
  round_in false x l = l

  value_of_spoke : (v : Bool) (x : ℕ) → x < length places → place_round places v (spoke_round spoke_at v x) ≡ x
  value_of_spoke true x l = q.place_of_spoke x l
  value_of_spoke false x l = refl

  abbrev path : Bool → ℕ → List ℕ → List ℕ
  path v m word = path_of places spoke_at v m word

  -- the spokes behind two
  behind_two : (v : Bool) (i : ℕ) (word : List ℕ)
      → path (not (not v)) (place_round places (not (not v)) i) word ≡ path v (place_round places v i) word
  behind_two true i word = refl
  behind_two false i word = refl

  -- spokes depend on where turns are counted from, and on the first entry, by their sum alone
  shifted : (v : Bool) (m amount : ℕ) (word : List ℕ) → m < length places → amount < length places → InRange (length places) word
      → path v (add (length places) m amount) word ≡ path v m (next_changed (length places) amount word)
  shifted v m amount [] l k h = refl
  shifted v m amount (y ∷ word) l k h = grind (arith, add_assoc, add_comm)

  -- a list of spokes is that of its turns
  turns_path : (spokes : List ℕ) (v : Bool) (last : ℕ) → last < length places → InRange (length places) spokes
      → path v (place_round places v last) (turns_after places v last spokes) ≡ spokes
  turns_path [] v last l h = refl
  turns_path (i ∷ spokes) v last l h =
      let d : ℕ = length places in
      let is : spoke_round spoke_at v (add d (place_round places v last) (add d (place_round places v i)
      (minus d (place_round places v last)))) ≡ i = grind (arith, add_on) in
      ap (λ x. x ∷ path (not v) (place_round places (not v) x) (turns_after places (not v) i spokes)) is
      ∙ ap (λ (p : List ℕ). i ∷ p) (turns_path spokes (not v) i h.0 h.1)

  word_path : (spokes : List ℕ) → InRange (length places) spokes → path true 0 (turn_word_of places spokes) ≡ spokes
  word_path [] h = refl
  word_path (i ∷ spokes) h =
      let is : spoke_at (add (length places) 0 (get_or places i 0)) ≡ i = grind (arith, zero-add) in
      ap (λ x. x ∷ path false x (turns_after places false i spokes)) is
      ∙ ap (λ (p : List ℕ). i ∷ p) (turns_path spokes false i h.0 h.1)

  -- The quad on one side of a spoke: the spoke and the one that a turn 1 leads to are its upper way, and with both turned back by one
  -- they are the lower one.
  record Corner (v : Bool) (i j k l : ℕ) : Type 0 where
    a : ℕ
    c : ℕ
    quad : IsQuad places a c
    upper : upper_way (length places) v a c ≡ i ∷ j ∷ []
    lower : lower_way (length places) v a c ≡ k ∷ l ∷ []
    last_in : l < length places
    behind : add (length places) (place_round places v l) (minus (length places) 1) ≡ place_round places v j

  abbrev up_from : Bool → ℕ → ℕ
  up_from v i = spoke_round spoke_at v (add (length places) (place_round places v i) 1)

  abbrev down_from : Bool → ℕ → ℕ
  down_from v i = spoke_round spoke_at v (add (length places) (place_round places v i) (minus (length places) 1))

  corner : (v : Bool) (i : ℕ) → i < length places
      → Corner v i (up_from (not v) i) (down_from v i) (down_from (not v) (down_from v i))
  corner true i l = grind (arith, add-lt, add_back)
  corner false i l =
      let d : ℕ = length places in
      let y : ℕ = add d (get_or places i 0) 1 in
      let y_in : y < d = add-lt d (get_or places i 0) 1 (q.place_in i l) q.large in
      let a : ℕ = spoke_at y in
      let c : ℕ = partner a in
      let quad : IsQuad places a c = quad_of a (q.spoke_in y y_in) in
      let is : add d c 1 ≡ i = grind (arith, add-lt, add_back) in
      let first : c ≡ down_from false i = sym (add_back d c q.large quad.c_below) ∙ ap (λ x. add d x (minus d 1)) is in
      let a_up_in : add d a 1 < d = add-lt d a 1 quad.a_below q.large in
      let second : add d a 1 ≡ down_from true (down_from false i) =
      sym (q.spoke_of_place (add d a 1) a_up_in) ∙ ap spoke_at quad.c_place ∙ ap (down_from true) first in grind (arith, add_back)

  module _ (Same : Bool → List ℕ → List ℕ → Type 0) (keeps : KeepsSteps places Same) where
    spur_same : (v : Bool) (m x : ℕ) (word : List ℕ) → m < length places → x < length places → InRange (length places) word
        → Same v (path v m (x ∷ 0 ∷ word)) (path v m (next_changed (length places) x word))
    spur_same v m x word l k h =
        let d : ℕ = length places in
        let y : ℕ = add d m x in
        let y_in : y < d = add-lt d m x l k in
        let i : ℕ = spoke_round spoke_at v y in
        let i_in : i < d = round_in v y y_in in
        let rest : List ℕ = path v m (next_changed d x word) in
        let again : spoke_round spoke_at (not v) (add d (place_round places (not v) i) 0) ≡ i = grind (arith, add-zero) in
        let behind : path (not (not v)) (place_round places (not (not v)) i) word ≡ rest =
        behind_two v i word ∙ ap (λ z. path v z word) (value_of_spoke v y y_in) ∙ shifted v m x word l k h in
        let is : path v m (x ∷ 0 ∷ word) ≡ i ∷ i ∷ rest = grind arith in
        subst (λ (p : List ℕ). Same v p rest) (sym is) (keeps.spur v i rest i_in)

    push_same : (v : Bool) (m x : ℕ) (word : List ℕ) → m < length places → x < length places → InRange (length places) word
        → Same v (path v m (x ∷ 1 ∷ word)) (path v m (add (length places) x (minus (length places) 1) ∷ minus (length places) 1
        ∷ next_changed (length places) (minus (length places) 1) word))
    push_same v m x word l k h =
        let d : ℕ = length places in
        let less : ℕ = minus d 1 in
        let less_in : less < d = minus-lt d 1 q.large in
        let y : ℕ = add d m x in
        let y_in : y < d = add-lt d m x l k in
        let i : ℕ = spoke_round spoke_at v y in
        let w : Corner v i (up_from (not v) i) (down_from v i) (down_from (not v) (down_from v i)) = corner v i (round_in v y y_in) in
        let j : ℕ = up_from (not v) i in
        let last : ℕ = down_from (not v) (down_from v i) in
        let rest : List ℕ = path v (place_round places v j) word in
        let old : path v m (x ∷ 1 ∷ word) ≡ upper_way d v w.a w.c ++ rest =
        ap (λ (p : List ℕ). i ∷ j ∷ p) (behind_two v j word) ∙ ap (λ (p : List ℕ). p ++ rest) (sym w.upper) in
        let first : spoke_round spoke_at v (add d m (add d x less)) ≡ down_from v i =
        ap (spoke_round spoke_at v) (sym (add_assoc d m x less l k less_in) ∙ ap (λ z. add d z less) (sym (value_of_spoke v y y_in))) in
        let behind : path (not (not v)) (place_round places (not (not v)) last) (next_changed d less word) ≡ rest =
        behind_two v last (next_changed d less word)
        ∙ sym (shifted v (place_round places v last) less word (value_in v last w.last_in) less_in h) ∙ ap (λ z. path v z word) w.behind in
        let new : path v m (add d x less ∷ less ∷ next_changed d less word) ≡ lower_way d v w.a w.c ++ rest =
        ap (λ z. z ∷ path (not v) (place_round places (not v) z) (less ∷ next_changed d less word)) first
        ∙ ap (λ (p : List ℕ). down_from v i ∷ last ∷ p) behind ∙ ap (λ (p : List ℕ). p ++ rest) (sym w.lower) in
        subst (λ (p : List ℕ). Same v p (path v m (add d x less ∷ less ∷ next_changed d less word))) (sym old)
        (subst (λ (p : List ℕ). Same v (upper_way d v w.a w.c ++ rest) p) (sym new) (ways-same places Same keeps v w.a w.c rest w.quad))

    -- a rule keeps it of the words that it fits
    abbrev KeepsWord : (List ℕ → Option (List ℕ)) → Type 0
    KeepsWord rule =
        (v : Bool) (m : ℕ) (w u : List ℕ) → m < length places → InRange (length places) w → rule w ≡ Some u
        → Same v (path v m w) (path v m u)

    -- a spur that comes in is one that goes out, the other way
    spur_in_keeps : (first : ℕ) → KeepsWord (spur_in (length places) first)
    spur_in_keeps first v m w u l h e =
        let d : ℕ = length places in
        let back : ℕ = minus d first in
        let told = cond_some (nat_lt first d) (first ∷ 0 ∷ next_changed d back w) u e in
        let first_in : first < d = ltb-true first d told.0 in
        let back_in : back < d = minus-lt d first first_in in
        let home : next_changed d first (next_changed d back w) ≡ w =
        unchanged d back first w h back_in first_in (add_comm d back first ∙ add-minus d first first_in) in
        let out : Same v (path v m (first ∷ 0 ∷ next_changed d back w)) (path v m (next_changed d first (next_changed d back w))) =
        spur_same v m first (next_changed d back w) l first_in (changed_within d back w back_in h) in grind arith

    spur_out_keeps : KeepsWord (spur_out (length places))
    spur_out_keeps v m [] u l h e = cc
    spur_out_keeps v m (x ∷ []) u l h e = cc
    spur_out_keeps v m (x ∷ turn ∷ w) u l h e =
        let d : ℕ = length places in
        let told = cond_some (eqb turn 0) (next_changed d x w) u e in
        subst (λ (z : List ℕ). Same v (path v m (x ∷ turn ∷ w)) (path v m z)) told.1
        (subst (λ z. Same v (path v m (x ∷ z ∷ w)) (path v m (next_changed d x w))) (sym (eqb-true turn 0 told.0))
        (spur_same v m x w l h.0 h.1.1))

    pushed_keeps : (up : Bool) → KeepsWord (pushed (length places) up)
    pushed_keeps up v m [] u l h e = cc
    pushed_keeps up v m (x ∷ []) u l h e = cc
    pushed_keeps false v m (x ∷ turn ∷ w) u l h e =
        let d : ℕ = length places in
        let less : ℕ = minus d 1 in
        let told = cond_some (eqb turn 1) (add d x less ∷ less ∷ next_changed d less w) u e in
        subst (λ (z : List ℕ). Same v (path v m (x ∷ turn ∷ w)) (path v m z)) told.1
        (subst (λ z. Same v (path v m (x ∷ z ∷ w)) (path v m (add d x less ∷ less ∷ next_changed d less w))) (sym (eqb-true turn 1 told.0))
        (push_same v m x w l h.0 h.1.1))
    pushed_keeps true v m (x ∷ turn ∷ w) u l h e =
        let d : ℕ = length places in
        let less : ℕ = minus d 1 in
        let told = cond_some (eqb turn less) (add d x 1 ∷ 1 ∷ next_changed d 1 w) u e in
        let top : List ℕ = path v m (add d x 1 ∷ 1 ∷ next_changed d 1 w) in
        let home : add d (add d x 1) less ∷ less ∷ next_changed d less (next_changed d 1 w) ≡ x ∷ turn ∷ w =
        ap₂ (λ z (r : List ℕ). z ∷ less ∷ r) (add_back d x q.large h.0)
        (unchanged d 1 less w h.1.1 q.large (minus-lt d 1 q.large) (add-minus d 1 q.large))
        ∙ ap (λ z. x ∷ z ∷ w) (sym (eqb-true turn less told.0)) in
        let down : Same v top (path v m (add d (add d x 1) less ∷ less ∷ next_changed d less (next_changed d 1 w))) =
        push_same v m (add d x 1) (next_changed d 1 w) l (add-lt d x 1 h.0 q.large) (changed_within d 1 w q.large h.1.1) in
        subst (λ (z : List ℕ). Same v (path v m (x ∷ turn ∷ w)) (path v m z)) told.1
        (keeps.turn v _ _ (subst (λ (z : List ℕ). Same v top (path v m z)) home down))

    -- a rule used further on in the word
    further_on : (rule : List ℕ → Option (List ℕ)) → KeepsWord rule → (at : ℕ) → KeepsWord (from_place at rule)
    further_on rule k zero v m w u l h e = k v m w u l h e
    further_on rule k (suc at) v m [] u l h e = cc
    further_on rule k (suc at) v m (x ∷ w) u l h e =
        let d : ℕ = length places in
        let told = mapped-is (from_place at rule w) x u e in
        let i : ℕ = spoke_round spoke_at v (add d m x) in
        let i_in : i < d = round_in v (add d m x) (add-lt d m x l h.0) in
        subst (λ (z : List ℕ). Same v (path v m (x ∷ w)) (path v m z)) told.2
        (keeps.behind v i _ _ i_in
        (further_on rule k at (not v) (place_round places (not v) i) w told.0 (value_in (not v) i i_in) h.1 told.1))

    step_keeps : (step : Step) (w u : List ℕ) → InRange (length places) w → after_step (length places) step w ≡ Some u
        → Same true (path true 0 w) (path true 0 u)
    step_keeps step w u h e = by step (let large : 1 < length places = q.large in omega arith) e
      where
        by : (step : Step) → 0 < length places → after_step (length places) step w ≡ Some u → Same true (path true 0 w) (path true 0 u)
        by (SpurIn at first) l e = further_on (spur_in (length places) first) (spur_in_keeps first) at true 0 w u l h e
        by (SpurOut at) l e = further_on (spur_out (length places)) spur_out_keeps at true 0 w u l h e
        by (Push at up) l e = further_on (pushed (length places) up) (pushed_keeps up) at true 0 w u l h e

    -- the spokes of a word and those of one that it reaches are the same
    word_keeps : 5 ≤ length places → (steps : List Step) (w u : List ℕ) → InRange (length places) w
        → after_word_steps (length places) steps w ≡ Some u → Same true (path true 0 w) (path true 0 u)
    word_keeps five [] w u h e = grind arith
    word_keeps five (step ∷ steps) w u h e =
        let told = first_answer (after_word_steps (length places) steps) (after_step (length places) step w) u e in
        let kept = keeps-step (length places) five step (state [] 0) w told.0 (start-sound (length places) five) h told.1 in
        keeps.on true _ _ _ (step_keeps step w told.0 h told.1) (word_keeps five steps told.0 u kept.0 told.2)

    -- a list is the same as the spokes of a word that its turn word reaches
    spelled_same : IsHyperWheel places → (spokes word : List ℕ) → All (λ i. i < length places) spokes
        → Reaches (length places) (turn_word_of places spokes) word → Same true spokes (path true 0 word)
    spelled_same own spokes word h r =
        subst (λ (p : List ℕ). Same true p (path true 0 word)) (word_path spokes (in-range-from (length places) spokes h))
        (word_keeps own.five r.0 (turn_word_of places spokes) word
        (in-range-from (length places) (turn_word_of places spokes) (turns places spokes own h).in_range) r.1)

    -- lists whose turn words reach one word are the same
    pub same_word : IsHyperWheel places → (first second word : List ℕ) → All (λ i. i < length places) first
        → All (λ i. i < length places) second → Reaches (length places) (turn_word_of places first) word
        → Reaches (length places) (turn_word_of places second) word → Same true first second
    same_word own first second word h k r t =
        keeps.on true first (path true 0 word) second (spelled_same own first word h r)
        (keeps.turn true second (path true 0 word) (spelled_same own second word k t))
