use Rattle.file_pieces.proofs.Common.{arith, ◌≡◌, ℕ, List, false, [], ◌∷◌, ◌++◌, refl, ap, ◌∙◌}
use Rattle.file_pieces.proofs.ShortLemmas.{starts_short, starts_standing}
use Rattle.file_pieces.proofs.short_line.ShortLine.new.Goals as goal

pub invariant_of-result : goal.invariant_of-result
invariant_of-result c =
    let blank : c.push.new.self.items ≡ 32 ∷ [] = c.push.ensures.items ∙ ap (λ (t : List ℕ). t ++ 32 ∷ []) c.new-done.ensures in
    rw c.new.ensures (starts_short c.push.new.self.items false false blank refl)

pub returns : goal.returns
returns c = grind (arith, starts_standing)
