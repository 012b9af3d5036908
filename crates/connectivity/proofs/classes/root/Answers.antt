use Rattle.connectivity.proofs.Common.{root_of, ◌<◌, ℕ, length, get_or, sym, ◌∙◌, arith}
use Rattle.connectivity.proofs.Forests.{IsLabelling, root_labels, parent_le, lifted_forest, lifted_roots, same_roots_trans, root_own}
use Rattle.connectivity.proofs.classes.root.Goals as goal

pub loop-parents-preserved : goal.loop-parents-preserved
loop-parents-preserved c =
    let i = c.loop-parents.invariant in
    let parents = c.loop-parents.parents in
    let at : ℕ = c.loop-parents.at in
    let parent : ℕ = get_or parents at 0 in
    let within : at < length parents = omega (arith, i.within, i.same.count) in
    let falls = parent_le at i.forest in
    let falls_again = parent_le parent i.forest in
    let names : IsLabelling parents (root_of parents) = root_labels i.forest in
    let above : ℕ = get_or parents parent 0 in
    record {
      forest = lifted_forest at i.forest within;
      same = same_roots_trans i.same (lifted_roots at i.forest within);
      within = omega (arith, i.within);
      root = sym (i.same.roots above (omega (arith, i.within))) ∙ names.shared parent (omega arith) ∙ names.shared at within
          ∙ i.same.roots at i.within ∙ i.root;
    }

pub returns-clause-root : goal.returns-clause-root
returns-clause-root c =
    let i = c.loop-parents.invariant in
    let parents = c.loop-parents.parents in
    let at : ℕ = c.loop-parents.at in
    let within : at < length parents = omega (arith, i.within, i.same.count) in
    sym (root_own at i.forest within c.loop-parents-test.false) ∙ i.same.roots at i.within ∙ i.root
