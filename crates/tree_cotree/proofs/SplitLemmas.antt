-- Tree, cotree and leftover edges of a rotation system: the rings of the tree and of tree and leftover edges, sets of faces that
-- are closed under crossing edges, and the number of leftover edges, which is even.
use Rattle.tree_cotree.proofs.Common.{IsPermutationBelow, steps_within, reached_step, after_steps, IsReached, Rotations, IsRotationSystem, ◌≡◌, inl, inr, ℕ, zero, suc, ◌+◌, ◌<◌, ◌≤◌, Bool, true, false, not, eqb, cond, refl, ap, sym, ◌∙◌, subst, arith, cases_Bool, cases_eq, count_below, any_below, meets, is_least, ring_count, after_dart, IsSpanningTree, MakesOneRing}
use Rattle.tree_cotree.proofs.ClassLemmas.{count_same, passes_below}
use Rattle.tree_cotree.proofs.ExchangeLemmas.{meets_from}
use Rattle.tree_cotree.proofs.AfterLemmas.{after_permutes, go_on, turn}
use Rattle.tree_cotree.proofs.GrowthLemmas.{HasNodes, one_ring}

-- the tree over the vertices leaves one ring
pub tree_ring : {maps : Rotations} {is_node : ℕ → Bool} {bound edges : ℕ} {tree : ℕ → Bool} → IsRotationSystem maps
    → HasNodes maps maps.origin is_node bound edges
    → IsSpanningTree maps maps.origin is_node bound edges tree → MakesOneRing maps tree
tree_ring r h t d e d_in e_in =
    one_ring (λ b. b) r h refl t (λ x y l k. ((r.vertices x y l k).1, (r.vertices x y l k).0)) d e d_in e_in

-- the cotree over the faces, taken out, leaves one ring
pub cotree_ring : {maps : Rotations} {is_node : ℕ → Bool} {bound edges : ℕ} {cotree : ℕ → Bool} → IsRotationSystem maps
    → HasNodes maps maps.face is_node bound edges
    → IsSpanningTree maps maps.face is_node bound edges cotree → MakesOneRing maps (λ e. not (cotree e))
cotree_ring r h t d e d_in e_in = one_ring not r h refl t (λ x y l k. ((r.faces x y l k).1, (r.faces x y l k).0)) d e d_in e_in

-- a set of faces that holds one and is closed under crossing the edges outside a set with one ring holds every face
pub closed_holds_all : {maps : Rotations} (inside : ℕ → Bool) (holds : ℕ → Type 0) → IsRotationSystem maps → MakesOneRing maps inside
    → ((d : ℕ) → d < maps.darts → inside (maps.edge d) ≡ false → holds (maps.face d) → holds (maps.face (maps.twin d)))
    → (start d : ℕ) → start < maps.darts → d < maps.darts → holds (maps.face start) → holds (maps.face d)
closed_holds_all {maps} inside holds r ring closed start d start_in d_in h =
    let reached = ring start d start_in d_in in
    subst (λ (x : ℕ). holds (maps.face x)) reached.leads (go reached.steps)
  where
    p : IsPermutationBelow maps.darts (after_dart maps inside)
    p = after_permutes maps r inside

    stays : (x : ℕ) → x < maps.darts → holds (maps.face x) → holds (maps.face (maps.next x))
    stays x l is = subst holds ((r.faces x (maps.next x) l (r.next_within x l)).1 (reached_step maps.next x)) is

    one : (x : ℕ) → x < maps.darts → holds (maps.face x) → holds (maps.face (after_dart maps inside x))
    one x l is = elim (cases_Bool (inside (maps.edge x))) [
      | inl within ↦ subst (λ (y : ℕ). holds (maps.face y)) (sym (go_on maps inside x within)) (stays x l is)
      | inr out ↦
          subst (λ (y : ℕ). holds (maps.face y)) (sym (turn maps inside x out))
          (stays (maps.twin x) (r.twin_within x l) (closed x l out is))
    ]

    go : (k : ℕ) → holds (maps.face (after_steps (after_dart maps inside) k start))
    go zero = h
    go (suc k) = one (after_steps (after_dart maps inside) k start)
        (steps_within maps.darts (after_dart maps inside) p k start start_in) (go k)

-- each edge is of one of three kinds
pub data OneOfThree : Bool → Bool → Bool → Type 0 where
  tree_one : OneOfThree true false false
  cotree_one : OneOfThree false true false
  left_one : OneOfThree false false true

count_three_step : {a b c : Bool} (x y z n : ℕ) → OneOfThree a b c → x + y + z ≡ n
    → x + (cond a 1 0) + (y + (cond b 1 0)) + (z + (cond c 1 0)) ≡ suc n
count_three_step x y z n tree_one e = omega arith
count_three_step x y z n cotree_one e = omega arith
count_three_step x y z n left_one e = omega arith

pub count_three : (tree cotree left : ℕ → Bool) (n : ℕ) → ((e : ℕ) → e < n → OneOfThree (tree e) (cotree e) (left e))
    → count_below tree n + count_below cotree n + count_below left n ≡ n
count_three tree cotree left zero h = refl
count_three tree cotree left (suc n) h =
    count_three_step (count_below tree n) (count_below cotree n) (count_below left n) n (h n (omega arith))
    (count_three tree cotree left n (λ e l. h e (omega arith)))

-- maps that agree below n have equally many rings
any_same : (p q : ℕ → Bool) (n : ℕ) → ((i : ℕ) → i < n → p i ≡ q i) → any_below p n ≡ any_below q n
any_same p q zero h = refl
any_same p q (suc n) h =
    let before : any_below p n ≡ any_below q n = any_same p q n (λ i l. h i (omega arith)) in grind arith

pub rings_same : {n : ℕ} {f : ℕ → ℕ} (g : ℕ → ℕ) → IsPermutationBelow n f → ((x : ℕ) → x < n → f x ≡ g x) → ring_count f n ≡ ring_count g n
rings_same {n} {f} g p same = count_same (is_least (meets f n)) (is_least (meets g n)) n
    (λ x l. ap not (any_same (λ y. meets f n y x) (λ y. meets g n y x) x (λ y k. meet y x (omega arith))))
  where
    steps_same : (k x : ℕ) → x < n → after_steps f k x ≡ after_steps g k x
    steps_same zero x l = refl
    steps_same (suc k) x l = same (after_steps f k x) (steps_within n f p k x l) ∙ ap g (steps_same k x l)

    meet : (y x : ℕ) → y < n → meets f n y x ≡ meets g n y x
    meet y x l = any_same (λ k. eqb (after_steps f k y) x) (λ k. eqb (after_steps g k y) x) n
        (λ k _. ap (λ (z : ℕ). eqb z x) (steps_same k y l))

-- where all numbers below n stand on one ring, there is one
pub one_ring_counted : {n : ℕ} {f : ℕ → ℕ} → IsPermutationBelow n f → 0 < n → ((x y : ℕ) → x < n → y < n → IsReached f x y)
    → ring_count f n ≡ 1
one_ring_counted {n} {f} p some all = count_first n some (omega arith)
  where
    no_other : (x : ℕ) → x < n → 0 < x → is_least (meets f n) x ≡ false
    no_other x l k = ap not (passes_below (λ y. meets f n y x) x 0 k (meets_from p some (all 0 x some l)))

    count_first : (m : ℕ) → 0 < m → m ≤ n → count_below (is_least (meets f n)) m ≡ 1
    count_first zero a b = absurd (omega arith)
    count_first (suc m) a b = elim (cases_eq m 0) [
      | inl first ↦ subst (λ (k : ℕ). count_below (is_least (meets f n)) (suc k) ≡ 1) (sym first) refl
      | inr more ↦
          let rest : count_below (is_least (meets f n)) m ≡ 1 = count_first m (omega arith) (omega arith) in
          let none : is_least (meets f n) m ≡ false = no_other m (omega arith) (omega arith) in
          rw (rest, none) refl
    ]
