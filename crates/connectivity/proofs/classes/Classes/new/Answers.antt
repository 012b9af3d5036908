use Rattle.connectivity.proofs.Common.{IsForest, roots_of, ◌≡◌, ◌++◌, ◌∷◌, [], List, ℕ, ap, subst, sym, ◌∙◌, arith, rules, range_with_len}
use Rattle.connectivity.proofs.Forests.{range_more, range_forest, roots_of-range}
use Rattle.connectivity.proofs.classes.Classes.new.Goals as goal

pub loop-number-preserved : goal.loop-number-preserved
loop-number-preserved c =
    let pushed : c.push.new.self.items ≡ c.loop-number.parents.items ++ c.loop-number.number ∷ [] = search rules in
    pushed ∙ ap (λ (l : List ℕ). l ++ c.loop-number.number ∷ []) c.loop-number.invariant ∙ sym (range_more c.loop-number.number)

pub invariant_of-result : goal.invariant_of-result
invariant_of-result c = subst IsForest (sym c.loop-number.invariant) (range_forest c.loop-number.number)

pub returns : goal.returns
returns c =
    let all : c.loop-number.number ≡ c.args.count = omega arith in
    ap roots_of c.loop-number.invariant ∙ roots_of-range c.loop-number.number ∙ ap (range_with_len 0) all
