-- Loop steps lead from list to list behind whatever spokes; so do spurs and quads, and then elementary steps on turn words.
use Rattle.free_loops.proofs.Common.{ends_at_vertex, KeepsSteps, old_way, new_way, leads-on, spur-leaves, spur-enters, leads-nowhere, leads-step, quad-is, IsFullWheel, across_quad, LoopLeads, ◌≡◌, ℕ, ◌<◌, Bool, true, false, not, List, [], ◌∷◌, ◌++◌, length, refl, ap, ◌∙◌, subst, append_assoc, eq-eqb, All, Option, Some, option_map, IsQuad, add, turn_word_of, Reaches}
use Rattle.joined_loops.proofs.FullWheels.{same_lists}
use Rattle.spoke_paths.specs.PathSteps.{from_spoke}
use Rattle.spoke_rings.specs.LoopSteps.{across}

ends_on : (v : Bool) (before : List ℕ) (x : ℕ) → ends_at_vertex v (before ++ x ∷ []) ≡ not (ends_at_vertex v before)
ends_on v [] x = refl
ends_on v (y ∷ before) x = ends_on (not v) before x

-- a rule that holds where it is used
used_behind : (rule : Bool → List ℕ → Option (List ℕ)) (before path other : List ℕ) (v : Bool)
    → rule (ends_at_vertex v before) path ≡ Some other → from_spoke (length before) v rule (before ++ path) ≡ Some (before ++ other)
used_behind rule [] path other v h = h
used_behind rule (x ∷ before) path other v h = ap (option_map (λ changed. x ∷ changed)) (used_behind rule before path other (not v) h)

module _ (places : List ℕ) where
  -- loop steps lead from one list to another, behind whatever spokes, where these end as is told
  abbrev LeadsBehind : Bool → List ℕ → List ℕ → Type 0
  LeadsBehind at_vertex path other =
      (before : List ℕ) → ends_at_vertex true before ≡ at_vertex → LoopLeads places (before ++ path) (before ++ other)

  abbrev LeadsBoth : Bool → List ℕ → List ℕ → Type 0
  LeadsBoth at_vertex path other = LeadsBehind at_vertex path other × LeadsBehind at_vertex other path

  behind_one : (v : Bool) (i : ℕ) (path other : List ℕ) → LeadsBehind (not v) path other → LeadsBehind v (i ∷ path) (i ∷ other)
  behind_one v i path other h before e =
      subst (λ (l : List ℕ). LoopLeads places l (before ++ (i ∷ other))) (append_assoc before (i ∷ []) path)
      (subst (λ (l : List ℕ). LoopLeads places ((before ++ i ∷ []) ++ path) l) (append_assoc before (i ∷ []) other)
      (h (before ++ i ∷ []) (ends_on true before i ∙ ap not e)))

  quad_leads : (a c : ℕ) (rest : List ℕ) → IsQuad places a c → (rises : Bool)
      → LeadsBehind true (old_way rises (length places) true a c ++ rest) (new_way rises (length places) true a c ++ rest)
  quad_leads a c rest q rises before e =
      let old : List ℕ = old_way rises (length places) true a c ++ rest in
      let new : List ℕ = new_way rises (length places) true a c ++ rest in
      leads-step places (across (length before) a c rises) (before ++ old) (before ++ new)
      (used_behind (across_quad places a c rises) before old new true (ap (λ v. across_quad places a c rises v old) e ∙ by rises))
    where
      by : (up : Bool) → across_quad places a c up true (old_way up (length places) true a c ++ rest)
          ≡ Some (new_way up (length places) true a c ++ rest)
      by true = rw (quad-is places a c q, eq-eqb c c refl, eq-eqb (add (length places) c 1) (add (length places) c 1) refl) refl
      by false = rw (quad-is places a c q, eq-eqb a a refl, eq-eqb (add (length places) a 1) (add (length places) a 1) refl) refl

  leads_keep : KeepsSteps places LeadsBoth
  leads_keep = record {
    itself = λ v p. ((λ before e. leads-nowhere places (before ++ p)), (λ before e. leads-nowhere places (before ++ p)));
    turn = λ v p q h. (h.1, h.0);
    on = λ v p q r h k. (
      (λ before e. leads-on places (before ++ p) (before ++ q) (before ++ r) (h.0 before e) (k.0 before e)),
      (λ before e. leads-on places (before ++ r) (before ++ q) (before ++ p) (k.1 before e) (h.1 before e)),
    );
    behind = λ v x p q l h. (behind_one v x p q h.0, behind_one v x q p h.1);
    spur = λ v x p l. ((λ before e. spur-leaves places before p x), (λ before e. spur-enters places before p x l));
    quad = λ a c p q. (quad_leads a c p q false, quad_leads a c p q true);
  }

  -- where the turn word of a list reaches that of another, loop steps lead from the list to the other
  pub reached_leads : IsFullWheel places → (path other : List ℕ) → All (λ i. i < length places) path
      → All (λ i. i < length places) other → Reaches (length places) (turn_word_of places path) (turn_word_of places other)
      → LoopLeads places path other
  reached_leads full path other h k r =
      (same_lists places full LeadsBoth leads_keep path other (turn_word_of places other) h k r ([], refl)).0 [] refl
