use Rattle.connectivity.proofs.Common.{root_of, roots_of, ◌≡◌, ◌<◌, List, ℕ, length, get_or, ap, sym, ◌∙◌, arith}
use Rattle.connectivity.proofs.Forests.{length-roots_of, get_or-roots_of}
use Rattle.connectivity.proofs.classes.Classes.join_apart.Goals as goal

pub link-requires-clause-first : goal.link-requires-clause-first
link-requires-clause-first c =
    omega (
      arith,
      ap (λ (l : List ℕ). length l) c.self.view_is,
      length-roots_of c.self.inside.parents.items,
      ap (λ (l : List ℕ). length l) c.deref_mut.ensures.value,
    )

pub link-requires-clause-second : goal.link-requires-clause-second
link-requires-clause-second c =
    omega (
      arith,
      ap (λ (l : List ℕ). length l) c.self.view_is,
      length-roots_of c.self.inside.parents.items,
      ap (λ (l : List ℕ). length l) c.deref_mut.ensures.value,
    )

pub returns-clause-apart : goal.returns-clause-apart
returns-clause-apart c =
    let old : List ℕ = c.args.self.now in
    let parents : List ℕ = c.deref_mut.result.now in
    let is : old ≡ roots_of parents = sym c.self.view_is ∙ ap roots_of (sym c.deref_mut.ensures.value) in
    let long : length old ≡ length parents = ap (λ (l : List ℕ). length l) is ∙ length-roots_of parents in
    let read : (z : ℕ) → z < length old → get_or old z 0 ≡ root_of parents z =
    λ z l. ap (λ (r : List ℕ). get_or r z 0) is ∙ get_or-roots_of parents z 0 (omega (arith, l, long)) in
    let at_x : get_or old c.args.x 0 ≡ root_of parents c.args.x = read c.args.x c.requires.first in
    let at_y : get_or old c.args.y 0 ≡ root_of parents c.args.y = read c.args.y c.requires.second in (
      λ told same. c.link.ensures.apart.0 told (sym at_x ∙ same ∙ at_y),
      λ apart. c.link.ensures.apart.1 (λ same. apart (at_x ∙ same ∙ sym at_y)),
    )
