-- The chain round a tear.
use Rattle.orientation.proofs.Common.{joined_step, joined_trans, EachEdgeHasAtMostTwoSides, IsFaceStep, AreOfOneClass, IsTear, Growth, IsAlong, AreTrees, IsFoundFrom, differ, is_seen, tree_place_of, Place, ◌≡◌, ◌≢◌, ℕ, ◌+◌, ◌*◌, ◌%◌, ◌<◌, ◌≤◌, Bool, true, false, not, cond, eqb, List, [], ◌∷◌, ◌++◌, length, reverse, refl, ap, sym, ◌∙◌, subst, arith, length-append, nat_tests, length_push, reverse-append, length-reverse, sum_by-cons, sum_by-append, count_by, FaceList, LeadsTo, LeadOnTo, IsOddChain, first_face, is_turned, is_flipped, ChainLink, Side}
use Rattle.orientation.specs.declared.search.Tear.{Tear}
use Rattle.orientation.proofs.Fitting.{link_leads, link_leads_back, link_turned}
use Rattle.orientation.proofs.ChainLemmas.{bit, bit_differ, differ_swap}
use Rattle.orientation.proofs.ClassLemmas.{step_back, joined_back}
use Rattle.orientation.proofs.TreeLemmas.{deeper_found, up_joined}

-- links from one face to another, and the parity of the turned ones with the signs of the two faces
pub record IsWay (mesh : FaceList) (signs : List Bool) (parity : ℕ) (from : ℕ) (links : List ChainLink) (to : ℕ) : Type 0 where
  pub starts : first_face links to ≡ from
  pub leads : LeadOnTo mesh links to
  pub parity_is : (count_by (is_turned mesh) links + bit (is_flipped signs from) + bit (is_flipped signs to)) % 2 ≡ parity

pub first_face-append : (xs ys : List ChainLink) (to : ℕ) → first_face (xs ++ ys) to ≡ first_face xs (first_face ys to)
first_face-append [] ys to = refl
first_face-append (x ∷ xs) ys to = refl

pub LeadOnTo-append : (mesh : FaceList) (xs ys : List ChainLink) (to : ℕ) → LeadOnTo mesh xs (first_face ys to) → LeadOnTo mesh ys to
    → LeadOnTo mesh (xs ++ ys) to
LeadOnTo-append mesh [] ys to h k = k
LeadOnTo-append mesh (x ∷ xs) ys to h k =
    (subst (LeadsTo mesh x) (sym (first_face-append xs ys to)) h.0, LeadOnTo-append mesh xs ys to h.1 k)

pub count-append : (mesh : FaceList) (xs ys : List ChainLink)
    → count_by (is_turned mesh) (xs ++ ys) ≡ count_by (is_turned mesh) xs + count_by (is_turned mesh) ys
count-append mesh xs ys = sum_by-append (λ l. cond (is_turned mesh l) 1 0) xs ys

join_parity : (a b c m n p : ℕ) → (m + a + b) % 2 ≡ p → (n + b + c) % 2 ≡ 0 → (m + n + a + c) % 2 ≡ p
join_parity a b c m n p h k = omega arith

pub way-append : (mesh : FaceList) (signs : List Bool) (p a b c : ℕ) (xs ys : List ChainLink) → IsWay mesh signs p a xs b
    → IsWay mesh signs 0 b ys c → IsWay mesh signs p a (xs ++ ys) c
way-append mesh signs p a b c xs ys h k = record {
  starts = first_face-append xs ys c ∙ ap (first_face xs) k.starts ∙ h.starts;
  leads = LeadOnTo-append mesh xs ys c (subst (LeadOnTo mesh xs) (sym k.starts) h.leads) k.leads;
  parity_is =
      ap (λ n. (n + bit (is_flipped signs a) + bit (is_flipped signs c)) % 2) (count-append mesh xs ys)
      ∙ join_parity (bit (is_flipped signs a)) (bit (is_flipped signs b)) (bit (is_flipped signs c)) (count_by (is_turned mesh) xs)
      (count_by (is_turned mesh) ys) p h.parity_is k.parity_is;
}

no_way : (b : Bool) → (0 + bit b + bit b) % 2 ≡ 0
no_way true = refl
no_way false = refl

pub way_none : (mesh : FaceList) (signs : List Bool) (a : ℕ) → IsWay mesh signs 0 a [] a
way_none mesh signs a = record { starts = refl; leads = tt; parity_is = no_way (is_flipped signs a) }

pub count-one : (mesh : FaceList) (link : ChainLink) → count_by (is_turned mesh) (link ∷ []) ≡ bit (is_turned mesh link)
count-one mesh link = let e = sum_by-cons (λ l. cond (is_turned mesh l) 1 0) link [] in omega (arith, e)

-- the way of one link
one_link : {mesh : FaceList} (signs : List Bool) (p a : ℕ) {b : ℕ} {link : ChainLink} → link.face.0 ≡ a → LeadsTo mesh link b
    → (bit (is_turned mesh link) + bit (is_flipped signs a) + bit (is_flipped signs b)) % 2 ≡ p → IsWay mesh signs p a (link ∷ []) b
one_link {mesh} signs p a {b} {link} is leads parity = record {
  starts = is;
  leads = (leads, tt);
  parity_is = ap (λ n. (n + bit (is_flipped signs a) + bit (is_flipped signs b)) % 2) (count-one mesh link) ∙ parity;
}

fitting_parity : (t a b : Bool) → t ≡ differ a b → (bit t + bit a + bit b) % 2 ≡ 0
fitting_parity t a b h = subst (λ x. (bit x + bit a + bit b) % 2 ≡ 0) (sym h) (bit_differ a b)

torn_parity : (t a b : Bool) → t ≢ differ a b → (bit t + bit a + bit b) % 2 ≡ 1
torn_parity true true true h = refl
torn_parity true true false h = absurd (h refl)
torn_parity true false true h = absurd (h refl)
torn_parity true false false h = refl
torn_parity false true true h = absurd (h refl)
torn_parity false true false h = refl
torn_parity false false true h = refl
torn_parity false false false h = absurd (h refl)

-- up from a face that was found, and down to it
pub way_up : {mesh : FaceList} {growth : Growth} {f : ℕ} (link : ChainLink) → EachEdgeHasAtMostTwoSides mesh
    → IsFoundFrom mesh growth f (tree_place_of growth f).from
    → IsAlong mesh (tree_place_of growth f).from link.low.0 link.high.0 → link.face.0 ≡ f → IsWay mesh growth.flipped 0 f (link ∷ [])
    (tree_place_of growth f).from.face.0
way_up {mesh} {growth} {f} link two h along face =
    let from : Side = (tree_place_of growth f).from in
    let turned : is_turned mesh link ≡ differ (is_flipped growth.flipped f) (is_flipped growth.flipped from.face.0) =
    link_turned link two h.partners along ∙ sym h.fit ∙ ap
    (λ n. differ (is_flipped growth.flipped from.face.0) (is_flipped growth.flipped n)) h.here
    ∙ differ_swap (is_flipped growth.flipped from.face.0) (is_flipped growth.flipped f) in
    one_link growth.flipped 0 f face (link_leads_back link two h.partners along (face ∙ sym h.here))
    (fitting_parity (is_turned mesh link) (is_flipped growth.flipped f) (is_flipped growth.flipped from.face.0) turned)

pub way_down : {mesh : FaceList} {growth : Growth} {f : ℕ} (link : ChainLink) → EachEdgeHasAtMostTwoSides mesh
    → IsFoundFrom mesh growth f (tree_place_of growth f).from
    → IsAlong mesh (tree_place_of growth f).from link.low.0 link.high.0 → link.face.0 ≡ (tree_place_of growth f).from.face.0
    → IsWay mesh growth.flipped 0 (tree_place_of growth f).from.face.0 (link ∷ []) f
way_down {mesh} {growth} {f} link two h along face =
    let from : Side = (tree_place_of growth f).from in
    let turned : is_turned mesh link ≡ differ (is_flipped growth.flipped from.face.0) (is_flipped growth.flipped f) =
    link_turned link two h.partners along ∙ sym h.fit ∙ ap
    (λ n. differ (is_flipped growth.flipped from.face.0) (is_flipped growth.flipped n)) h.here in
    one_link growth.flipped 0 from.face.0 face (subst (LeadsTo mesh link) h.here (link_leads link two h.partners along face))
    (fitting_parity (is_turned mesh link) (is_flipped growth.flipped from.face.0) (is_flipped growth.flipped f) turned)

pub way_torn : {mesh : FaceList} {growth : Growth} {tear : Tear} (link : ChainLink) → EachEdgeHasAtMostTwoSides mesh
    → IsTear mesh growth tear
    → IsAlong mesh tear.side link.low.0 link.high.0 → link.face.0 ≡ tear.other.face.0 → IsWay mesh growth.flipped 1 tear.other.face.0
    (link ∷ []) tear.side.face.0
way_torn {mesh} {growth} {tear} link two h along face =
    let f : Bool = is_flipped growth.flipped tear.side.face.0 in
    let g : Bool = is_flipped growth.flipped tear.other.face.0 in
    one_link growth.flipped 1 tear.other.face.0 face (link_leads_back link two h.partners along face)
    (torn_parity (is_turned mesh link) g f (λ same. h.unfit (differ_swap f g ∙ sym same ∙ link_turned link two h.partners along)))

-- the state of the climb
pub record IsClimb (mesh : FaceList) (growth : Growth) (last : ℕ) (chain down : List ChainLink) (face other : ℕ) : Type 0 where
  pub up : IsWay mesh growth.flipped 1 last chain face
  pub back : IsWay mesh growth.flipped 0 other (reverse down) last
  pub joined : AreOfOneClass mesh face other
  pub seen : is_seen growth face ≡ true
  pub other_seen : is_seen growth other ≡ true
  pub size : length chain + length down + (tree_place_of growth face).depth + (tree_place_of growth other).depth ≤ 2 * length mesh.faces

pub climb_first : {mesh : FaceList} {growth : Growth} {tear : Tear} (link : ChainLink) → EachEdgeHasAtMostTwoSides mesh
    → AreTrees mesh growth → IsTear mesh growth tear
    → IsAlong mesh tear.side link.low.0 link.high.0 → link.face.0 ≡ tear.other.face.0 → IsClimb mesh growth tear.other.face.0
    (link ∷ []) [] tear.side.face.0 tear.other.face.0
climb_first {mesh} {growth} {tear} link two trees h along face = record {
  up = way_torn link two h along face;
  back = way_none mesh growth.flipped tear.other.face.0;
  joined = joined_step (IsFaceStep mesh) tear.side.face.0 tear.other.face.0
      (record { side = tear.side; partner = tear.other; partners = h.partners; from = refl; to = refl });
  seen = h.seen;
  other_seen = h.other_seen;
  size = omega (arith, trees.shallow tear.side.face.0 h.seen, trees.shallow tear.other.face.0 h.other_seen);
}

pub climb_up : {mesh : FaceList} {growth : Growth} {last : ℕ} {chain down : List ChainLink} {face other : ℕ} (link : ChainLink)
    → EachEdgeHasAtMostTwoSides mesh
    → IsClimb mesh growth last chain down face other → IsFoundFrom mesh growth face (tree_place_of growth face).from
    → IsAlong mesh (tree_place_of growth face).from link.low.0 link.high.0 → link.face.0 ≡ face
    → IsClimb mesh growth last (chain ++ link ∷ []) down (tree_place_of growth face).from.face.0 other
climb_up {mesh} {growth} {last} {chain} {face} {other} link two h found along is = record {
  up = way-append mesh growth.flipped 1 last face (tree_place_of growth face).from.face.0 chain (link ∷ []) h.up
      (way_up link two found along is);
  back = h.back;
  joined =
      joined_trans (IsFaceStep mesh) (tree_place_of growth face).from.face.0 face other
      (joined_back (IsFaceStep mesh) (step_back mesh) face (tree_place_of growth face).from.face.0 (up_joined found)) h.joined;
  seen = found.seen;
  other_seen = h.other_seen;
  size = omega (arith, h.size, found.deeper, length_push chain link);
}

pub climb_down : {mesh : FaceList} {growth : Growth} {last : ℕ} {chain down : List ChainLink} {face other : ℕ} (link : ChainLink)
    → EachEdgeHasAtMostTwoSides mesh
    → IsClimb mesh growth last chain down face other → IsFoundFrom mesh growth other (tree_place_of growth other).from
    → IsAlong mesh (tree_place_of growth other).from link.low.0 link.high.0 → link.face.0 ≡ (tree_place_of growth other).from.face.0
    → IsClimb mesh growth last chain (down ++ link ∷ []) face (tree_place_of growth other).from.face.0
climb_down {mesh} {growth} {last} {down} {face} {other} link two h found along is = record {
  up = h.up;
  back =
      subst (λ links. IsWay mesh growth.flipped 0 (tree_place_of growth other).from.face.0 links last)
      (sym (reverse-append down (link ∷ [])))
      (way-append mesh growth.flipped 0 (tree_place_of growth other).from.face.0 other last (link ∷ []) (reverse down)
      (way_down link two found along is) h.back);
  joined = joined_trans (IsFaceStep mesh) face other (tree_place_of growth other).from.face.0 h.joined (up_joined found);
  seen = h.seen;
  other_seen = found.seen;
  size = omega (arith, h.size, found.deeper, length_push down link);
}

nothing_odd : (b : Bool) → (0 + bit b + bit b) % 2 ≡ 1 → ⊥
nothing_odd true h = cc
nothing_odd false h = cc

odd_alone : (n b : ℕ) → (n + b + b) % 2 ≡ 1 → n % 2 ≡ 1
odd_alone n b h = omega arith

-- where the two ways meet, the chain is closed and odd
odd_ring : {mesh : FaceList} {signs : List Bool} {a : ℕ} (chain : List ChainLink) → IsWay mesh signs 1 a chain a → IsOddChain mesh chain
odd_ring {signs} {a} [] h = absurd (nothing_odd (is_flipped signs a) h.parity_is)
odd_ring {mesh} {signs} {a} (link ∷ links) h = record {
  some_link = omega arith;
  closed = subst (LeadOnTo mesh (link ∷ links)) (sym h.starts) h.leads;
  odd = odd_alone (count_by (is_turned mesh) (link ∷ links)) (bit (is_flipped signs a)) h.parity_is;
}

pub climb_last : {mesh : FaceList} {growth : Growth} {last : ℕ} {chain down : List ChainLink} {face other : ℕ}
    → IsClimb mesh growth last chain down face other → face ≡ other
    → IsOddChain mesh (chain ++ reverse down)
climb_last {mesh} {growth} {last} {chain} {down} {face} h meet =
    odd_ring (chain ++ reverse down) (way-append mesh growth.flipped 1 last face last chain (reverse down) h.up
    (subst (λ n. IsWay mesh growth.flipped 0 n (reverse down) last) (sym meet) h.back))

-- links that are put on, the last one first
pub length-reversed : (a b c d : List ChainLink) → a ++ reverse b ≡ c ++ reverse d → length a + length b ≡ length c + length d
length-reversed a b c d h =
    omega (
      arith,
      ap (λ (xs : List ChainLink). length xs) h,
      length-append a (reverse b),
      length-append c (reverse d),
      length-reverse b,
      length-reverse d,
    )

-- the places as they were read
pub found_up : {mesh : FaceList} {growth : Growth} {last : ℕ} {chain down : List ChainLink} {face other : ℕ} (p q : Place)
    → AreTrees mesh growth
    → IsClimb mesh growth last chain down face other → face ≢ other → p ≡ tree_place_of growth face → q ≡ tree_place_of growth other
    → q.depth ≤
    p.depth → IsFoundFrom mesh growth face p.from
found_up {mesh} {growth} {face} {other} p q trees h apart is_p is_q depth =
    subst (λ (x : Place). IsFoundFrom mesh growth face x.from) (sym is_p) (deeper_found face other trees h.seen h.other_seen h.joined apart
    (omega (arith, depth, ap (λ (x : Place). x.depth) is_p, ap (λ (x : Place). x.depth) is_q)))

pub found_down : {mesh : FaceList} {growth : Growth} {last : ℕ} {chain down : List ChainLink} {face other : ℕ} (p q : Place)
    → AreTrees mesh growth
    → IsClimb mesh growth last chain down face other → face ≢ other → p ≡ tree_place_of growth face → q ≡ tree_place_of growth other
    → p.depth <
    q.depth → IsFoundFrom mesh growth other q.from
found_down {mesh} {growth} {face} {other} p q trees h apart is_p is_q depth =
    subst (λ (x : Place). IsFoundFrom mesh growth other x.from) (sym is_q)
    (deeper_found other face trees h.other_seen h.seen (joined_back (IsFaceStep mesh) (step_back mesh) face other h.joined)
    (λ same. apart (sym same)) (omega (arith, depth, ap (λ (x : Place). x.depth) is_p, ap (λ (x : Place). x.depth) is_q)))

pub climbed_up : {mesh : FaceList} {growth : Growth} {last : ℕ} {chain down : List ChainLink} {face other : ℕ} (link : ChainLink)
    (p : Place) (more : List ChainLink)
    → EachEdgeHasAtMostTwoSides mesh → IsClimb mesh growth last chain down face other → p ≡ tree_place_of growth face → IsFoundFrom mesh
    growth face p.from
    → IsAlong mesh p.from link.low.0 link.high.0 → link.face.0 ≡ face → more ≡ chain ++ link ∷ [] → IsClimb mesh growth last more down
    p.from.face.0 other
climbed_up {mesh} {growth} {last} {down} {face} {other} link p more two h is found along at pushed =
    let F : Place → Type 0 = λ x. IsFoundFrom mesh growth face x.from in
    let A : Place → Type 0 = λ x. IsAlong mesh x.from link.low.0 link.high.0 in
    subst (λ (x : Place). IsClimb mesh growth last more down x.from.face.0 other) (sym is)
    (subst (λ xs. IsClimb mesh growth last xs down (tree_place_of growth face).from.face.0 other) (sym pushed)
    (climb_up link two h (subst F is found) (subst A is along) at))

pub climbed_down : {mesh : FaceList} {growth : Growth} {last : ℕ} {chain down : List ChainLink} {face other : ℕ} (link : ChainLink)
    (p : Place) (more : List ChainLink)
    → EachEdgeHasAtMostTwoSides mesh → IsClimb mesh growth last chain down face other → p ≡ tree_place_of growth other → IsFoundFrom mesh
    growth other p.from
    → IsAlong mesh p.from link.low.0 link.high.0 → link.face.0 ≡ p.from.face.0 → more ≡ down ++ link ∷ [] → IsClimb mesh growth last
    chain more face p.from.face.0
climbed_down {mesh} {growth} {last} {chain} {face} {other} link p more two h is found along at pushed =
    let F : Place → Type 0 = λ x. IsFoundFrom mesh growth other x.from in
    let A : Place → Type 0 = λ x. IsAlong mesh x.from link.low.0 link.high.0 in
    subst (λ (x : Place). IsClimb mesh growth last chain more face x.from.face.0) (sym is)
    (subst (λ xs. IsClimb mesh growth last chain xs face (tree_place_of growth other).from.face.0) (sym pushed)
    (climb_down link two h (subst F is found) (subst A is along) (subst (λ (x : Place). link.face.0 ≡ x.from.face.0) is at)))

pub apart_from_test : (a b : ℕ) → not (eqb a b) ≡ true → a ≢ b
apart_from_test a b h same = grind (arith, nat_tests)

pub same_from_test : (a b : ℕ) → not (eqb a b) ≡ false → a ≡ b
same_from_test a b h = grind (arith, nat_tests)
