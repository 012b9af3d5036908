-- Which loop steps lead from one closed list to another.
use Rattle.spoke_rings.proofs.Common.{is_quad, from_spoke, spur_goes, LoopStep, spur_out, spur_in, across, rotate, spur_comes, after_loop_step, after_loop_steps, LoopLeads, ◌≡◌, ℕ, ◌+◌, ◌%◌, ◌<◌, arith, refl, sym, ◌∙◌, ap, ap₂, Bool, true, false, not, List, [], ◌∷◌, ◌++◌, length, Option, Some, None, append_assoc, drop-append_seam, take-append_seam, eq-eqb, lt-ltb, and_from, length-append, option_map, option_and_then, IsQuad, add}

module _ (places : List ℕ) where
  -- no steps, one step, and steps after steps
  pub leads-nowhere : (s : List ℕ) → LoopLeads places s s
  leads-nowhere s = ([], refl)

  pub leads-same : (s t : List ℕ) → s ≡ t → LoopLeads places s t
  leads-same s t e = ([], ap Some e)

  pub leads-step : (step : LoopStep) (s t : List ℕ) → after_loop_step places step s ≡ Some t → LoopLeads places s t
  leads-step step s t e = (step ∷ [], ap (option_and_then (after_loop_steps places [])) e)

  steps-next : (a b : List LoopStep) (t : List ℕ) (o : Option (List ℕ)) →
      ((u : List ℕ) → after_loop_steps places a u ≡ Some t → after_loop_steps places (a ++ b) u ≡ after_loop_steps places b t) →
      option_and_then (after_loop_steps places a) o ≡ Some t →
      option_and_then (after_loop_steps places (a ++ b)) o ≡ after_loop_steps places b t
  steps-next a b t None h e = absurd cc
  steps-next a b t (Some u) h e = h u e

  steps-after : (a b : List LoopStep) (s t : List ℕ) → after_loop_steps places a s ≡ Some t →
      after_loop_steps places (a ++ b) s ≡ after_loop_steps places b t
  steps-after [] b s t e = let same : s ≡ t = cc in ap (after_loop_steps places b) same
  steps-after (step ∷ a) b s t e = steps-next a b t (after_loop_step places step s) (λ u f. steps-after a b u t f) e

  pub leads-on : (s t u : List ℕ) → LoopLeads places s t → LoopLeads places t u → LoopLeads places s u
  leads-on s t u a b = (a.0 ++ b.0, steps-after a.0 b.0 s t a.1 ∙ b.1)

  -- a rule that holds wherever it is used
  behind : (rule : Bool → List ℕ → Option (List ℕ)) (pre post end : List ℕ) (at_vertex : Bool) →
      ((v : Bool) → rule v post ≡ Some end) → from_spoke (length pre) at_vertex rule (pre ++ post) ≡ Some (pre ++ end)
  behind rule [] post end v h = h v
  behind rule (x ∷ pre) post end v h = ap (option_map (λ changed. x ∷ changed)) (behind rule pre post end (not v) h)

  pub spur-leaves : (pre post : List ℕ) (x : ℕ) → LoopLeads places (pre ++ x ∷ x ∷ post) (pre ++ post)
  spur-leaves pre post x =
      leads-step (spur_out (length pre)) (pre ++ x ∷ x ∷ post) (pre ++ post)
      (behind (λ v. spur_goes) pre (x ∷ x ∷ post) post true (λ v. rw (eq-eqb x x refl) refl))

  pub spur-enters : (pre post : List ℕ) (x : ℕ) → x < length places → LoopLeads places (pre ++ post) (pre ++ x ∷ x ∷ post)
  spur-enters pre post x below =
      leads-step (spur_in (length pre) x) (pre ++ post) (pre ++ x ∷ x ∷ post)
      (behind (λ v. spur_comes places x) pre post (x ∷ x ∷ post) true (λ v. rw (lt-ltb x (length places) below) refl))

  pub turned-round : (a b : List ℕ) → length a % 2 ≡ 0 → LoopLeads places (a ++ b) (b ++ a)
  turned-round a b even =
      let whole = length-append a b in
      let within : length a < length (a ++ b) + 1 = omega arith in
      leads-step (rotate (length a)) (a ++ b) (b ++ a)
      (rw (eq-eqb (length a % 2) 0 even, lt-ltb (length a) (length (a ++ b) + 1) within)
      (ap₂ (λ x y. Some (x ++ y)) (drop-append_seam a b) (take-append_seam a b)))

  pub quad-is : (a c : ℕ) → IsQuad places a c → is_quad places a c ≡ true
  quad-is a c q = grind (arith, and_from)

  pub quad-down : (a c : ℕ) (post : List ℕ) → IsQuad places a c →
      LoopLeads places (a ∷ add (length places) a 1 ∷ post) (add (length places) c 1 ∷ c ∷ post)
  quad-down a c post q =
      leads-step (across 0 a c false) (a ∷ add (length places) a 1 ∷ post) (add (length places) c 1 ∷ c ∷ post)
      (rw (quad-is a c q, eq-eqb a a refl, eq-eqb (add (length places) a 1) (add (length places) a 1) refl) refl)

  pub quad-up : (a c : ℕ) (post : List ℕ) → IsQuad places a c →
      LoopLeads places (add (length places) c 1 ∷ c ∷ post) (a ∷ add (length places) a 1 ∷ post)
  quad-up a c post q =
      leads-step (across 0 a c true) (add (length places) c 1 ∷ c ∷ post) (a ∷ add (length places) a 1 ∷ post)
      (rw (quad-is a c q, eq-eqb c c refl, eq-eqb (add (length places) c 1) (add (length places) c 1) refl) refl)

  -- the quad round the vertex, where the seam lies between its two spokes
  pub seam-down : (a c : ℕ) (r : List ℕ) → IsQuad places a c → add (length places) a 1 < length places →
      LoopLeads places (a ∷ r ++ add (length places) c 1 ∷ []) (add (length places) a 1 ∷ r ++ c ∷ [])
  seam-down a c r q below =
      let next = add (length places) a 1 in
      let up = add (length places) c 1 in
      let tail = r ++ up ∷ [] in
      let back : tail ++ up ∷ c ∷ [] ≡ r ++ up ∷ up ∷ c ∷ [] = append_assoc r (up ∷ []) (up ∷ c ∷ []) in
      leads-on (a ∷ tail) (a ∷ next ∷ next ∷ tail) (next ∷ r ++ c ∷ []) (spur-enters (a ∷ []) tail next below)
      (leads-on (a ∷ next ∷ next ∷ tail) (up ∷ c ∷ next ∷ tail) (next ∷ r ++ c ∷ []) (quad-down a c (next ∷ tail) q)
      (leads-on (up ∷ c ∷ next ∷ tail) (next ∷ tail ++ up ∷ c ∷ []) (next ∷ r ++ c ∷ []) (turned-round (up ∷ c ∷ []) (next ∷ tail) refl)
      (leads-on (next ∷ tail ++ up ∷ c ∷ []) (next ∷ r ++ up ∷ up ∷ c ∷ []) (next ∷ r ++ c ∷ []) (leads-same _ _ (ap (λ l. next ∷ l) back))
      (spur-leaves (next ∷ r) (c ∷ []) up))))

  pub seam-up : (a c : ℕ) (r : List ℕ) → IsQuad places a c → add (length places) c 1 < length places → length r % 2 ≡ 0 →
      LoopLeads places (add (length places) a 1 ∷ r ++ c ∷ []) (a ∷ r ++ add (length places) c 1 ∷ [])
  seam-up a c r q below even =
      let next = add (length places) a 1 in
      let up = add (length places) c 1 in
      let tail = r ++ up ∷ [] in
      let back : tail ++ up ∷ c ∷ [] ≡ r ++ up ∷ up ∷ c ∷ [] = append_assoc r (up ∷ []) (up ∷ c ∷ []) in
      let long = length-append r (up ∷ []) in
      let two : length (next ∷ tail) % 2 ≡ 0 = omega arith in
      leads-on (next ∷ r ++ c ∷ []) (next ∷ r ++ up ∷ up ∷ c ∷ []) (a ∷ tail) (spur-enters (next ∷ r) (c ∷ []) up below)
      (leads-on (next ∷ r ++ up ∷ up ∷ c ∷ []) (next ∷ tail ++ up ∷ c ∷ []) (a ∷ tail) (leads-same _ _ (ap (λ l. next ∷ l) (sym back)))
      (leads-on (next ∷ tail ++ up ∷ c ∷ []) (up ∷ c ∷ next ∷ tail) (a ∷ tail) (turned-round (next ∷ tail) (up ∷ c ∷ []) two)
      (leads-on (up ∷ c ∷ next ∷ tail) (a ∷ next ∷ next ∷ tail) (a ∷ tail) (quad-up a c (next ∷ tail) q)
      (spur-leaves (a ∷ []) tail next))))
