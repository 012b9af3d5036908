-- The rings of a set of edges: the dart after a dart is a permutation, and one edge more or less exchanges two of its values.
use Rattle.tree_cotree.proofs.Common.{IsPermutationBelow, steps_within, after_steps, IsReached, Rotations, IsRotationSystem, arith, ◌≡◌, ◌≢◌, inl, inr, ℕ, zero, suc, ◌<◌, Bool, true, false, not, cond, refl, ap, sym, ◌∙◌, subst, cases_eq, cond-true, cond-false, exchanged, after_dart}
use Rattle.tree_cotree.proofs.ExchangeLemmas.{at_first, at_second, elsewhere}

pub go_on : (maps : Rotations) (inside : ℕ → Bool) (d : ℕ) → inside (maps.edge d) ≡ true → after_dart maps inside d ≡ maps.next d
go_on maps inside d h = cond-true (inside (maps.edge d)) (maps.next d) (maps.next (maps.twin d)) h

pub turn : (maps : Rotations) (inside : ℕ → Bool) (d : ℕ) → inside (maps.edge d) ≡ false
    → after_dart maps inside d ≡ maps.next (maps.twin d)
turn maps inside d h = cond-false (inside (maps.edge d)) (maps.next d) (maps.next (maps.twin d)) h

pub twin_edge : (maps : Rotations) → IsRotationSystem maps → (d : ℕ) → d < maps.darts → maps.edge d ≡ maps.edge (maps.twin d)
twin_edge maps r d l = (r.edges d (maps.twin d) l (r.twin_within d l)).1 (inr refl)

twins_apart : {maps : Rotations} → IsRotationSystem maps → (x y : ℕ) → x < maps.darts → y < maps.darts → maps.twin x ≡ maps.twin y → x ≡ y
twins_apart {maps} r x y l k e = sym (r.twin_back x l) ∙ ap maps.twin e ∙ r.twin_back y k

-- a dart that stays and one that turns do not meet
never_meet : {maps : Rotations} → IsRotationSystem maps → (inside : ℕ → Bool) (x y : ℕ) → x < maps.darts → y < maps.darts
    → inside (maps.edge x) ≡ true → inside (maps.edge y) ≡ false → x ≡ maps.twin y → ⊥
never_meet {maps} r inside x y l k stays turns e = grind (arith, twin_edge)

pub after_permutes : (maps : Rotations) → IsRotationSystem maps → (inside : ℕ → Bool)
    → IsPermutationBelow maps.darts (after_dart maps inside)
after_permutes maps r inside = grind (arith, go_on, turn, never_meet, twins_apart)

pub after_agrees : (maps : Rotations) (inside others : ℕ → Bool) (d : ℕ) → inside (maps.edge d) ≡ others (maps.edge d)
    → after_dart maps inside d ≡ after_dart maps others d
after_agrees maps inside others d e = ap (λ (b : Bool). cond b (maps.next d) (maps.next (maps.twin d))) e

-- the sets differ in one edge alone
pub record DifferAt (inside others : ℕ → Bool) (e : ℕ) : Type 0 where
  pub there : others e ≡ not (inside e)
  pub elsewhere : (x : ℕ) → x ≢ e → others x ≡ inside x

-- one edge more or less exchanges the values at its two darts
pub after_exchanges : {maps : Rotations} → IsRotationSystem maps → {inside others : ℕ → Bool} (d : ℕ) → d < maps.darts
    → DifferAt inside others (maps.edge d)
    → (h : ℕ) → h < maps.darts → exchanged (after_dart maps inside) d (maps.twin d) h ≡ after_dart maps others h
after_exchanges {maps} r {inside} {others} d l differ h k = elim (cases_eq h d) [
  | inl at_dart ↦ subst (λ (z : ℕ). exchanged f d twin z ≡ g z) (sym at_dart) (at_first f d twin ∙ dart_side (inside (maps.edge d)) refl)
  | inr not_dart ↦ elim (cases_eq h twin) [
    | inl at_twin ↦ grind (arith, at_second)
    | inr not_twin ↦ grind (arith, elsewhere, after_agrees)
  ]
]
  where
    twin : ℕ
    twin = maps.twin d

    f : ℕ → ℕ
    f = after_dart maps inside

    g : ℕ → ℕ
    g = after_dart maps others

    apart : d ≢ twin
    apart e = r.twin_other d l (sym e)

    one_edge : maps.edge d ≡ maps.edge twin
    one_edge = twin_edge maps r d l

    other : h ≢ d → h ≢ twin → maps.edge h ≢ maps.edge d
    other nd nt e = elim ((r.edges d h l k).0 (sym e)) [ inl same ↦ nd same | inr same ↦ nt same ]

    -- f at the twin is the new value at the dart, and f at the dart the new value at the twin
    dart_side : (b : Bool) → inside (maps.edge d) ≡ b → f twin ≡ g d
    dart_side true e = go_on maps inside twin (ap inside (sym one_edge) ∙ e) ∙ sym (turn maps others d (differ.there ∙ ap not e))
    dart_side false e =
        turn maps inside twin (ap inside (sym one_edge) ∙ e) ∙ ap maps.next (r.twin_back d l)
        ∙ sym (go_on maps others d (differ.there ∙ ap not e))

    twin_side : (b : Bool) → inside (maps.edge d) ≡ b → f d ≡ g twin
    twin_side true e =
        go_on maps inside d e
        ∙ sym (turn maps others twin (ap others (sym one_edge) ∙ differ.there ∙ ap not e) ∙ ap maps.next (r.twin_back d l))
    twin_side false e = turn maps inside d e ∙ sym (go_on maps others twin (ap others (sym one_edge) ∙ differ.there ∙ ap not e))

-- maps that agree below n have the same orbits there
pub reached_same : {n : ℕ} {f : ℕ → ℕ} (g : ℕ → ℕ) → IsPermutationBelow n f → ((x : ℕ) → x < n → f x ≡ g x) → {x y : ℕ} → x < n → IsReached
    f x y
    → IsReached g x y
reached_same {n} {f} g p same {x} l r = record { steps = r.steps; leads = sym (go r.steps) ∙ r.leads }
  where
    go : (k : ℕ) → after_steps f k x ≡ after_steps g k x
    go zero = refl
    go (suc k) = same (after_steps f k x) (steps_within n f p k x l) ∙ ap g (go k)
