-- Ways round a quad of the double, folded: every second side leads along the edge.
use Rattle.folded_lists.proofs.Common.{without_repeats, along_edge, ◌≡◌, ◌≢◌, ℕ, zero, suc, ◌+◌, ◌-◌, ◌<◌, ◌≤◌, Bool, true, false, not, List, [], ◌∷◌, get_or, refl, sym, arith, eq-eqb, ne_eqb, ◌%◌, ◌/◌, ◌==◌, corners_from}

-- there, there and back, and so on, in so many steps
abbrev pub there_and_back : ℕ → ℕ → ℕ → List ℕ
there_and_back a b zero = a ∷ []
there_and_back a b (suc n) = a ∷ there_and_back b a n

-- the fold of the quad of an edge
abbrev pub folded_quad : ℕ → ℕ → List ℕ
folded_quad u v = v ∷ u ∷ u ∷ v ∷ []

abbrev pub opposite : ℕ → ℕ
opposite c = (c + 2) % 4

abbrev IsQuadWay : ℕ → ℕ → Bool → ℕ → ℕ → Type 0
IsQuadWay u v forward c t =
    without_repeats (corners_from (folded_quad u v) forward c t)
    ≡ there_and_back (get_or (folded_quad u v) c 0) (get_or (folded_quad u v) (opposite c) 0) (along_edge c forward t)

quad_ways : (u v : ℕ) → (u == v) ≡ false → (v == u) ≡ false → (u == u) ≡ true → (v == v) ≡ true → (forward : Bool) (c t : ℕ)
    → c < 4 → t ≤ 4 → IsQuadWay u v forward c t
quad_ways u v there home alone last forward (suc (suc (suc (suc c)))) t b l = absurd (omega arith)
quad_ways u v there home alone last forward c (suc (suc (suc (suc (suc t))))) b l = absurd (omega arith)
quad_ways u v there home alone last true zero zero b l = refl
quad_ways u v there home alone last true zero (suc zero) b l = rw there refl
quad_ways u v there home alone last true zero (suc (suc zero)) b l = rw (there, alone) refl
quad_ways u v there home alone last true zero (suc (suc (suc zero))) b l = rw (there, alone, home) refl
quad_ways u v there home alone last true zero (suc (suc (suc (suc zero)))) b l = rw (there, alone, home, last) refl
quad_ways u v there home alone last true (suc zero) zero b l = refl
quad_ways u v there home alone last true (suc zero) (suc zero) b l = rw alone refl
quad_ways u v there home alone last true (suc zero) (suc (suc zero)) b l = rw (alone, home) refl
quad_ways u v there home alone last true (suc zero) (suc (suc (suc zero))) b l = rw (alone, home, last) refl
quad_ways u v there home alone last true (suc zero) (suc (suc (suc (suc zero)))) b l = rw (alone, home, last, there) refl
quad_ways u v there home alone last true (suc (suc zero)) zero b l = refl
quad_ways u v there home alone last true (suc (suc zero)) (suc zero) b l = rw home refl
quad_ways u v there home alone last true (suc (suc zero)) (suc (suc zero)) b l = rw (home, last) refl
quad_ways u v there home alone last true (suc (suc zero)) (suc (suc (suc zero))) b l = rw (home, last, there) refl
quad_ways u v there home alone last true (suc (suc zero)) (suc (suc (suc (suc zero)))) b l = rw (home, last, there, alone) refl
quad_ways u v there home alone last true (suc (suc (suc zero))) zero b l = refl
quad_ways u v there home alone last true (suc (suc (suc zero))) (suc zero) b l = rw last refl
quad_ways u v there home alone last true (suc (suc (suc zero))) (suc (suc zero)) b l = rw (last, there) refl
quad_ways u v there home alone last true (suc (suc (suc zero))) (suc (suc (suc zero))) b l = rw (last, there, alone) refl
quad_ways u v there home alone last true (suc (suc (suc zero))) (suc (suc (suc (suc zero)))) b l = rw (last, there, alone, home) refl
quad_ways u v there home alone last false zero zero b l = refl
quad_ways u v there home alone last false zero (suc zero) b l = rw last refl
quad_ways u v there home alone last false zero (suc (suc zero)) b l = rw (last, there) refl
quad_ways u v there home alone last false zero (suc (suc (suc zero))) b l = rw (last, there, alone) refl
quad_ways u v there home alone last false zero (suc (suc (suc (suc zero)))) b l = rw (last, there, alone, home) refl
quad_ways u v there home alone last false (suc zero) zero b l = refl
quad_ways u v there home alone last false (suc zero) (suc zero) b l = rw home refl
quad_ways u v there home alone last false (suc zero) (suc (suc zero)) b l = rw (home, last) refl
quad_ways u v there home alone last false (suc zero) (suc (suc (suc zero))) b l = rw (home, last, there) refl
quad_ways u v there home alone last false (suc zero) (suc (suc (suc (suc zero)))) b l = rw (home, last, there, alone) refl
quad_ways u v there home alone last false (suc (suc zero)) zero b l = refl
quad_ways u v there home alone last false (suc (suc zero)) (suc zero) b l = rw alone refl
quad_ways u v there home alone last false (suc (suc zero)) (suc (suc zero)) b l = rw (alone, home) refl
quad_ways u v there home alone last false (suc (suc zero)) (suc (suc (suc zero))) b l = rw (alone, home, last) refl
quad_ways u v there home alone last false (suc (suc zero)) (suc (suc (suc (suc zero)))) b l = rw (alone, home, last, there) refl
quad_ways u v there home alone last false (suc (suc (suc zero))) zero b l = refl
quad_ways u v there home alone last false (suc (suc (suc zero))) (suc zero) b l = rw there refl
quad_ways u v there home alone last false (suc (suc (suc zero))) (suc (suc zero)) b l = rw (there, alone) refl
quad_ways u v there home alone last false (suc (suc (suc zero))) (suc (suc (suc zero))) b l = rw (there, alone, home) refl
quad_ways u v there home alone last false (suc (suc (suc zero))) (suc (suc (suc (suc zero)))) b l = rw (there, alone, home, last) refl

pub quad_way : (u v : ℕ) → u ≢ v → (forward : Bool) (c t : ℕ) → c < 4 → t ≤ 4 → IsQuadWay u v forward c t
quad_way u v other = quad_ways u v (ne_eqb u v other) (ne_eqb v u (λ same. other (sym same))) (eq-eqb u u refl) (eq-eqb v v refl)

-- the sides of a quad from one corner on, told by halves
halves : (t : ℕ) → t ≤ 4 → ((t + 1) / 2 + (4 - t) / 2 ≡ 2) × (t / 2 + (4 - t + 1) / 2 ≡ 2)
halves t l = (omega (arith, l), omega (arith, l))

-- both ways round together lead along the edge twice
pub along_both : (forward : Bool) (c t : ℕ) → c < 4 → t ≤ 4 → along_edge c forward t + along_edge c (not forward) (4 - t) ≡ 2
along_both forward (suc (suc (suc (suc c)))) t b l = absurd (omega arith)
along_both true zero t b l = (halves t l).0
along_both true (suc zero) t b l = (halves t l).1
along_both true (suc (suc zero)) t b l = (halves t l).0
along_both true (suc (suc (suc zero))) t b l = (halves t l).1
along_both false zero t b l = (halves t l).1
along_both false (suc zero) t b l = (halves t l).0
along_both false (suc (suc zero)) t b l = (halves t l).1
along_both false (suc (suc (suc zero))) t b l = (halves t l).0
