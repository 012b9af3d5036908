use Rattle.file_pieces.proofs.Common.{arith, ◌≡◌, ℕ, List, false, [], ◌∷◌, ◌++◌, refl, ap, ◌∙◌}
use Rattle.file_pieces.proofs.ShortLemmas.{starts_short, starts_standing}
use Rattle.file_pieces.proofs.short_line.ShortLine.clear.Goals as goal

pub invariant_of-self : goal.invariant_of-self
invariant_of-self c =
    let blank : c.push.new.self.items ≡ 32 ∷ [] = c.push.ensures.items ∙ ap (λ (t : List ℕ). t ++ 32 ∷ []) c.clear.ensures in
    rw c.clear-2.ensures (starts_short c.push.new.self.items false false blank refl)

pub returns : goal.returns
returns c = grind (arith, starts_standing)
