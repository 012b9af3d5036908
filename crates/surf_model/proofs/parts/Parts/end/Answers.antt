use Rattle.surf_model.proofs.Common.{◌≡◌, ◌+◌, ◌-◌, ◌*◌, ◌∷◌, ℕ, get_or, sym, ap, ◌∙◌, arith, joined_ends}
use Rattle.surf_model.proofs.JoinedPartsLemmas.{times_rises, start-first, end-first, start-listed, end-listed, last_end-joined, listed_below}
use Rattle.surf_model.proofs.parts.Parts.end.Goals as goal

pub end-requires : goal.end-requires
end-requires c = grind (arith, listed_below)

pub returns-then-part-self : goal.returns-then-part-self
returns-then-part-self c = grind (arith, times_rises, end-first, start-first, last_end-joined)

pub returns-else-part-self : goal.returns-else-part-self
returns-else-part-self c =
    let i = c.self.inside in
    let k : ℕ = c.args.part in
    let place : i.count + (k - i.count) ≡ k = omega (arith, c.if-part-self.false) in
    let below = listed_below i.size i.count i.rest _ k c.self.view_is c.if-part-self.false c.requires in
    let starts : get_or (0 ∷ joined_ends i.size i.count i.rest) k 0 ≡ i.size * i.count + get_or (0 ∷ i.rest) (k - i.count) 0 =
    ap (λ n. get_or (0 ∷ joined_ends i.size i.count i.rest) n 0) (sym place)
    ∙ start-listed i.size i.count i.rest (k - i.count) (omega (arith, below)) in grind (arith, end-listed, joined_ends, last_end-joined)
