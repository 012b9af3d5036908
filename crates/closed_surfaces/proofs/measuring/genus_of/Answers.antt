use Rattle.closed_surfaces.proofs.Common.{◌≡◌, ℕ, ◌+◌, ◌-◌, ◌*◌, ◌/◌, ◌∙◌, sym, arith}
use Rattle.closed_surfaces.proofs.Genera.{by_counts, genus_from}
use Rattle.closed_surfaces.proofs.measuring.genus_of.Goals as goal

pub overflow_sub-result : goal.overflow_sub-result
overflow_sub-result c = omega (arith, by_counts c.requires.0 c.args.numbers c.requires.1 c.requires.2 c.requires.3)

pub returns : goal.returns
returns c =
    λ mesh are.
    let n = c.args.numbers in
    let genus : ℕ = (c.from-3.result + 2 - (c.from.result + c.from-2.result)) / 2 in
    let count : n.vertices + n.faces + 2 * genus ≡ n.edges + 2 =
    omega (arith, by_counts c.requires.0 n c.requires.1 c.requires.2 c.requires.3) in
    (n, are, genus_from n.vertices n.edges n.faces genus count ∙ sym are.euler)
