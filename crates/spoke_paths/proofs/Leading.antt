-- Steps put behind steps.
use Rattle.spoke_paths.proofs.Common.{spur_goes, from_spoke, after_path_step, after_path_steps, PathLeads, PathStep, ◌≡◌, ℕ, ◌<◌, arith, refl, ◌∙◌, ap, zero, suc, Bool, not, List, [], ◌∷◌, ◌++◌, length, get_or, take, drop, Some, eq-eqb, common_steps, option_and_then_some, remove, option_map, option_and_then}

pub leads-more : (places : List ℕ) (steps : List PathStep) (step : PathStep) (begin path next : List ℕ)
    → PathLeads places begin steps path →
    after_path_step places step path ≡ Some next → PathLeads places begin (steps ++ step ∷ []) next
leads-more places [] step begin path next e f = grind arith
leads-more places (first ∷ steps) step begin path next e f =
    option_and_then_some (after_path_steps places steps) (after_path_step places first begin) path e (λ middle is rest.
    ap (option_and_then (after_path_steps places (steps ++ step ∷ []))) is ∙ leads-more places steps step middle path next rest f)

-- two equal neighbours go
pub spur-at : (n : ℕ) (b : Bool) (path rest : List ℕ) → suc n < length path → get_or path n 0 ≡ get_or path (suc n) 0 →
    from_spoke n b (λ at_vertex. spur_goes) (path ++ rest) ≡ Some (remove (remove path (suc n)) n ++ rest)
spur-at n b [] rest h e = absurd (omega arith)
spur-at zero b (x ∷ []) rest h e = absurd (omega arith)
spur-at zero b (x ∷ y ∷ path) rest h e = rw (eq-eqb x y e) refl
spur-at (suc n) b (x ∷ path) rest h e = ap (option_map (λ changed. x ∷ changed)) (spur-at n (not b) path rest (omega arith) e)

-- what was written through a slice of a whole list
pub written : (n : ℕ) (new old : List ℕ) → length new ≡ n → length old ≡ n → take n (new ++ drop (length new) old) ≡ new
written n new old e f = grind (arith, common_steps)
