use Rattle.closed_surfaces.proofs.Common.{IsComponentOf, ◌≡◌, ℕ, true, sym, subst, IfOk, is_used}
use Rattle.closed_surfaces.proofs.component.Component.of_walk.Goals as goal

pub of-requires-clause-used : goal.of-requires-clause-used
of-requires-clause-used c =
    subst (λ (v : ℕ). is_used c.args.mesh.faces v ≡ true) (sym c.at.ensures) (c.requires.walk.used 0 0 c.requires.walk.starts)

pub returns : goal.returns
returns c = subst (λ (v : ℕ). IfOk c.of.result (IsComponentOf c.args.mesh.faces v)) c.at.ensures c.of.ensures
