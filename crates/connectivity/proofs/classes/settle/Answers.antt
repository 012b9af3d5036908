use Rattle.connectivity.proofs.Common.{root_of, roots_of, ◌≡◌, ◌<◌, ◌≤◌, inl, inr, ℕ, List, length, get_or, ap, sym, ◌∙◌, arith, below_more, cases_eq, get_or-set_same, get_or-set_other, ext_get_or}
use Rattle.connectivity.proofs.Forests.{IsLabelling, root_labels, parent_le, lifted_forest, lifted_roots, same_roots_trans, root_own, length-roots_of, get_or-roots_of}
use Rattle.connectivity.proofs.classes.settle.Goals as goal

pub loop-number-preserved : goal.loop-number-preserved
loop-number-preserved c =
    let i = c.loop-number.invariant in
    let first : List ℕ = c.args.parents.now in
    let parents : List ℕ = c.loop-number.parents in
    let at : ℕ = c.loop-number.number in
    let parent : ℕ = get_or parents at 0 in
    let above : ℕ = get_or parents parent 0 in
    let within : at < length parents = omega arith in
    let falls : parent ≤ at = parent_le at i.forest in
    let names : IsLabelling parents (root_of parents) = root_labels i.forest in
    let here : above ≡ root_of first at =
    elim (cases_eq parent at) [
      | inl same ↦ ap (λ z. get_or parents z 0) same ∙ same ∙ sym (root_own at i.forest within same)
          ∙ i.same.roots at (omega (arith, within, i.same.count))
      | inr other ↦
          i.done parent (omega arith) ∙ sym (i.same.roots parent (omega (arith, within, i.same.count))) ∙ names.shared at within
          ∙ i.same.roots at (omega (arith, within, i.same.count))
    ] in
    record {
      forest = lifted_forest at i.forest within;
      same = same_roots_trans i.same (lifted_roots at i.forest within);
      done = below_more _ _ (λ x b. let other : x ≡ at → ⊥ = λ e. omega arith in get_or-set_other parents at x above 0 other ∙ i.done x b)
          (get_or-set_same parents at above 0 within ∙ here);
    }

pub returns : goal.returns
returns c =
    let i = c.loop-number.invariant in
    let first : List ℕ = c.args.parents.now in
    ext_get_or 0 c.loop-number.parents (roots_of first) (omega (arith, i.same.count, length-roots_of first))
    (λ x l. i.done x (omega arith) ∙ sym (get_or-roots_of first x 0 (omega (arith, l, i.same.count))))
