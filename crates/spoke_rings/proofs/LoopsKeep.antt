-- What spurs and quads keep, steps on closed lists keep too, where their rotations do; and closed lists of spokes of the wheel they stay.
use Rattle.spoke_rings.proofs.Common.{spur_goes, IsLoop, LoopStep, spur_out, spur_in, across, rotate, spur_comes, across_quad, after_loop_step, after_loop_steps, LoopLeads, IsRotation, ◌≡◌, ℕ, ◌+◌, ◌%◌, ◌⊎◌, inl, inr, arith, sym, ◌∙◌, subst, Bool, true, false, List, [], ◌∷◌, ◌++◌, take, drop, length, Some, and_parts, eqb-true, ltb-true, ◌==◌, ◌&&◌, nat_lt}
use Rattle.spoke_paths.proofs.StepsKeep.{KeepsSteps, Keeps, spur-keeps, turn-keeps, from-keeps}
use Rattle.std.proofs.lemmas.Option.{cond_some, option_and_then_some}
use Rattle.turn_words.specs.Lemmas.FromEnd.{all-from, in-range-from}
use Rattle.turn_words.specs.Lemmas.Lists.{InRange}
use Rattle.spoke_rings.proofs.RingTurns.{loop-rotated}

module _ (places : List ℕ) (Same : Bool → List ℕ → List ℕ → Type 0) (keeps : KeepsSteps places Same) where
  spur-comes-keeps : (x : ℕ) → Keeps places Same keeps (λ b. spur_comes places x)
  spur-comes-keeps x b p q h e = grind (arith, cond_some)

  across-keeps : (a c : ℕ) (up : Bool) → Keeps places Same keeps (across_quad places a c up)
  across-keeps a c up true p q h e = turn-keeps places Same keeps a c up true p q h e
  across-keeps a c up false p q h e = absurd cc

  -- a step keeps it, or is a rotation
  loop-step : (step : LoopStep) (x y : List ℕ) → InRange (length places) x → after_loop_step places step x ≡ Some y
      → (Same true x y × InRange (length places) y) ⊎ IsRotation x y
  loop-step (spur_out at) x y h e =
      inl (from-keeps places Same keeps (λ b. spur_goes) (spur-keeps places Same keeps) at true x y h e)
  loop-step (spur_in at spoke) x y h e =
      inl (from-keeps places Same keeps (λ b. spur_comes places spoke) (spur-comes-keeps spoke) at true x y h e)
  loop-step (across at a c up) x y h e =
      inl (from-keeps places Same keeps (across_quad places a c up) (across-keeps a c up) at true x y h e)
  loop-step (rotate count) x y h e =
      let told = cond_some (count % 2 == 0 && nat_lt count (length x + 1)) (drop count x ++ take count x) y e in
      let both = and_parts (count % 2 == 0) (nat_lt count (length x + 1)) told.0 in
      let within = ltb-true count (length x + 1) both.1 in
      inr (record { count = count; even = eqb-true (count % 2) 0 both.0; within = omega arith; is = sym told.1 })

-- spurs and quads keep whether the length is even
lengths-keep : (places : List ℕ) → KeepsSteps places (λ b p q. length p % 2 ≡ length q % 2)
lengths-keep places = grind arith

step-loop : (places : List ℕ) (step : LoopStep) (x y : List ℕ) → IsLoop places x → after_loop_step places step x ≡ Some y → IsLoop places y
step-loop places step x y loop e =
    elim (loop-step places (λ b p q. length p % 2 ≡ length q % 2) (lengths-keep places) step x y
    (in-range-from (length places) x loop.below) e) [
      | inl kept ↦ record { below = all-from (length places) y kept.1; even = sym kept.0 ∙ loop.even }
      | inr r ↦ subst (IsLoop places) (sym r.is) (loop-rotated places x r.count r.within loop)
    ]

-- A wider sameness of closed lists, which rotations keep.
pub record KeepsRotations (places : List ℕ) (Free : List ℕ → List ℕ → Type 0) : Type 0 where
  pub itself : (x : List ℕ) → Free x x
  pub on : (x y z : List ℕ) → Free x y → Free y z → Free x z
  pub rotated : (x y : List ℕ) → IsLoop places x → IsRotation x y → Free x y

module _ (places : List ℕ) (Same : Bool → List ℕ → List ℕ → Type 0) (keeps : KeepsSteps places Same) (Free : List ℕ → List ℕ → Type 0)
    (rotations : KeepsRotations places Free) (wider : (x y : List ℕ) → Same true x y → Free x y) where
  loop-steps : (steps : List LoopStep) (x y : List ℕ) → IsLoop places x → after_loop_steps places steps x ≡ Some y
      → Free x y × IsLoop places y
  loop-steps [] x y loop e = let same : x ≡ y = cc in rw (← same) (rotations.itself x, loop)
  loop-steps (step ∷ steps) x y loop e =
      option_and_then_some (after_loop_steps places steps) (after_loop_step places step x) y e
      (λ next first rest. (
      let one : Free x next =
      elim (loop-step places Same keeps step x next (in-range-from (length places) x loop.below) first) [
        | inl kept ↦ wider x next kept.0
        | inr r ↦ rotations.rotated x next loop r
      ] in
      let later = loop-steps steps next y (step-loop places step x next loop first) rest in
      (rotations.on x next y one later.0, later.1)
      ))

  pub loops-keep : (x y : List ℕ) → IsLoop places x → LoopLeads places x y → Free x y × IsLoop places y
  loops-keep x y loop leads = loop-steps leads.0 x y loop leads.1
