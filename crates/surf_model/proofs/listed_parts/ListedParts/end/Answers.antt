use Rattle.surf_model.proofs.Common.{◌≡◌, ◌<◌, List, ℕ, length, get_or, subst, sym, arith, get_or_read, last_end}
use Rattle.surf_model.proofs.PartsLemmas.{IsPartWithin, part_within}
use Rattle.surf_model.proofs.listed_parts.ListedParts.end.Goals as goal

pub returns : goal.returns
returns c =
    let i = c.self.inside in
    let k : ℕ = c.args.part in
    let few : k < length i.ends.items = subst (λ (ends : List ℕ). k < length ends) (sym c.self.view_is) c.requires in
    let here : IsPartWithin 0 i.ends.items (last_end i.ends.items) k =
    part_within 0 i.ends.items (last_end i.ends.items) k c.self.invariant.rising few in
    let read : c.index.result.now ≡ get_or i.ends.items k 0 = get_or_read i.ends.items k _ few c.index.ensures 0 in grind arith
