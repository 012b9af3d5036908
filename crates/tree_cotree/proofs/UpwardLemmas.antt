-- Steps of which one at most leads on from each number, and none from a root: one path leads from a number to the root, no step leads
-- back, and the path is short.
use Rattle.tree_cotree.proofs.Common.{AreAlike, two_alike, ◌≡◌, inl, inr, ℕ, zero, suc, ◌+◌, ◌<◌, ◌≤◌, List, [], ◌∷◌, length, get_or, refl, ap, sym, subst, arith, cases_lt, IsPath, AreJoined}

pub record IsUpward (step : ℕ → ℕ → Type 0) (root : ℕ) : Type 0 where
  pub one : (u v w : ℕ) → step u v → step u w → v ≡ w
  pub top : (v : ℕ) → step root v → ⊥

pub single_path : (step : ℕ → ℕ → Type 0) (root : ℕ) → IsUpward step root → (u : ℕ) (path other : List ℕ) → IsPath step u path root
    → IsPath step u other root → path ≡ other
single_path step root h u [] [] p q = refl
single_path step root h u [] (w ∷ other) p q = absurd (h.top w (subst (λ (x : ℕ). step x w) p q.0))
single_path step root h u (w ∷ path) [] p q = absurd (h.top w (subst (λ (x : ℕ). step x w) q p.0))
single_path step root h u (w ∷ path) (x ∷ other) p q =
    let same : w ≡ x = h.one u w x p.0 q.0 in
    let rest : path ≡ other = single_path step root h w path other p.1 (subst (λ (y : ℕ). IsPath step y other root) (sym same) q.1) in
    cc

-- no step leads to where it begins, or back
pub no_loop : (step : ℕ → ℕ → Type 0) (root : ℕ) → IsUpward step root → (u : ℕ) → step u u → AreJoined step u root → ⊥
no_loop step root h u p way =
    let same : way.0 ≡ u ∷ way.0 = single_path step root h u way.0 (u ∷ way.0) way.1 (p, way.1) in
    omega (arith, ap (λ (l : List ℕ). length l) same)

pub no_return : {step : ℕ → ℕ → Type 0} {root : ℕ} → IsUpward step root → (u v : ℕ) → step u v → step v u → AreJoined step u root → ⊥
no_return {step} {root} h u v p q way =
    let same : way.0 ≡ v ∷ u ∷ way.0 = single_path step root h u way.0 (v ∷ u ∷ way.0) way.1 (p, (q, way.1)) in
    omega (arith, ap (λ (l : List ℕ). length l) same)

-- from what stands on a path the rest of it leads to the root
path_rest : (step : ℕ → ℕ → Type 0) (root u : ℕ) (path : List ℕ) → IsPath step u path root → (i : ℕ) → i ≤ length path
    → (rest : List ℕ) × IsPath step (get_or (u ∷ path) i 0) rest root × (length rest + i ≡ length path)
path_rest step root u path p zero l = (path, p, omega arith)
path_rest step root u [] p (suc i) l = absurd (omega arith)
path_rest step root u (w ∷ path) p (suc i) l =
    let more = path_rest step root w path p.1 i (omega arith) in grind arith

-- so a path passes no number twice, and is shorter than a bound on the numbers
pub few_steps : (step : ℕ → ℕ → Type 0) (root bound : ℕ) → IsUpward step root → root < bound → ((u v : ℕ) → step u v → u < bound)
    → (u : ℕ) (path : List ℕ) → IsPath step u path root → length path < bound
few_steps step root bound h top_below below u path p = elim (cases_lt (length path) bound) [
  | inl less ↦ less
  | inr many ↦
      let twice : AreAlike (λ i. get_or (u ∷ path) i 0) (suc bound) =
      two_alike bound (λ i. get_or (u ∷ path) i 0)
      (λ i l. is_below (get_or (u ∷ path) i 0) (rest many i l).0 (rest many i l).1) in
      let one = rest many twice.first (omega (arith, twice.before, twice.within)) in
      let two = rest many twice.second twice.within in
      let same : one.0 ≡ two.0 = grind (arith, single_path) in
      absurd (omega (arith, one.2, two.2, ap (λ (l : List ℕ). length l) same, twice.before))
]
  where
    rest : bound ≤ length path → (i : ℕ) → i < suc bound
        → (left : List ℕ) × IsPath step (get_or (u ∷ path) i 0) left root × (length left + i ≡ length path)
    rest many i l = path_rest step root u path p i (omega (arith, l, many))

    is_below : (x : ℕ) (left : List ℕ) → IsPath step x left root → x < bound
    is_below x [] q = subst (λ (y : ℕ). y < bound) (sym q) top_below
    is_below x (y ∷ left) q = below x y q.0

-- a path by other steps
path_by : (step other : ℕ → ℕ → Type 0) → ((u v : ℕ) → step u v → other u v) → (u : ℕ) (path : List ℕ) (v : ℕ) → IsPath step u path v
    → IsPath other u path v
path_by step other each u [] v p = p
path_by step other each u (w ∷ path) v p = (each u w p.0, path_by step other each w path v p.1)

pub joined_by : (step other : ℕ → ℕ → Type 0) → ((u v : ℕ) → step u v → other u v) → (u v : ℕ) → AreJoined step u v → AreJoined other u v
joined_by step other each u v way = (way.0, path_by step other each u way.0 v way.1)
