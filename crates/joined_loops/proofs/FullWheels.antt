-- A full wheel has the quads of a polygon. So lists of spokes are the same, in all that spurs and quads keep, where their turn words reach
-- one word.
use Rattle.joined_loops.proofs.Common.{KeepsSteps, IsFullWheel, ◌⊎◌, inl, inr, ℕ, ◌<◌, ◌≤◌, Bool, true, List, All, length, get_or, arith, cases_lt, IsQuad, add-lt, add, turn_word_of, Reaches}
use Rattle.spoke_paths.proofs.QuadWheels.{HasPlace, placed}
use Rattle.spoke_paths.proofs.WordsKeep.{IsQuadWheel, one_partner, same_word}

-- a number for each number below a bound, and 0 for the others
chosen : (P : ℕ → ℕ → Type 0) (n : ℕ) → ((x : ℕ) → x < n → (p : ℕ) × P x p) → (x : ℕ) → (x < n) ⊎ (n ≤ x) → ℕ
chosen P n h x (inl l) = (h x l).0
chosen P n h x (inr _) = 0

held : (P : ℕ → ℕ → Type 0) (n : ℕ) (h : (x : ℕ) → x < n → (p : ℕ) × P x p) (x : ℕ) → x < n → (c : (x < n) ⊎ (n ≤ x))
    → P x (chosen P n h x c)
unfolding chosen
held P n h x l (inl k) = (h x k).1
held P n h x l (inr far) = absurd (omega arith)

module _ (places : List ℕ) (full : IsFullWheel places) where
  abbrev d : ℕ
  d = length places

  large : 1 < d
  large = let five = full.own.five in omega arith

  at_place : (x : ℕ) → x < d → (p : ℕ) × HasPlace d (λ i. get_or places i 0) x p
  at_place =
      placed d (λ i. get_or places i 0) large full.own.wheel.inside (λ a l.
      let p = full.full a l in (add d p.partner 1, (add-lt d p.partner 1 p.quad.c_below large, p.quad.a_place)))

  partnered : (a : ℕ) → a < d → (c : ℕ) × IsQuad places a c
  partnered a l = let p = full.full a l in (p.partner, p.quad)

  abbrev spoke_of : ℕ → ℕ
  spoke_of x = chosen (HasPlace d (λ i. get_or places i 0)) d at_place x (cases_lt x d)

  abbrev partner_of : ℕ → ℕ
  partner_of a = chosen (IsQuad places) d partnered a (cases_lt a d)

  spoke_is : (x : ℕ) → x < d → HasPlace d (λ i. get_or places i 0) x (spoke_of x)
  spoke_is x l = held (HasPlace d (λ i. get_or places i 0)) d at_place x l (cases_lt x d)

  partner_is : (a : ℕ) → a < d → IsQuad places a (partner_of a)
  partner_is a l = held (IsQuad places) d partnered a l (cases_lt a d)

  quad_wheel : IsQuadWheel d (λ i. get_or places i 0) spoke_of partner_of
  quad_wheel = record {
    large = large;
    place_in = full.own.wheel.inside;
    spoke_in = λ x l. (spoke_is x l).0;
    place_of_spoke = λ x l. (spoke_is x l).1;
    spoke_of_place = λ i l.
        let is = spoke_is (get_or places i 0) (full.own.wheel.inside i l) in
        full.own.wheel.once (spoke_of (get_or places i 0)) i is.0 l is.1;
    partner_in = λ a l. (partner_is a l).c_below;
    partner_back = λ a l.
        let q = partner_is a l in
        one_partner places large full.own.wheel.once (partner_of a) (partner_of (partner_of a)) a (partner_is (partner_of a) q.c_below)
        (record { a_below = q.c_below; c_below = q.a_below; a_place = q.c_place; c_place = q.a_place });
    one_before = λ a l. (partner_is a l).a_place;
  }

  pub same_lists : (Same : Bool → List ℕ → List ℕ → Type 0) → KeepsSteps places Same → (first second word : List ℕ)
      → All (λ i. i < length places) first → All (λ i. i < length places) second → Reaches (length places) (turn_word_of places first) word
      → Reaches (length places) (turn_word_of places second) word → Same true first second
  same_lists Same keeps = same_word places spoke_of partner_of quad_wheel Same keeps full.own
