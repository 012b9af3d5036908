use Rattle.component_deciding.proofs.Common.{refl, AreWalkPair}
use Rattle.component_deciding.proofs.SphereLemmas.{homotopic_on_sphere}
use Rattle.component_deciding.proofs.apart.Apart.answer_on_sphere.Goals as goal

pub returns : goal.returns
returns c =
    let apart = c.args.self.now in
    let walks : AreWalkPair apart.mesh.faces c.args.first.now c.args.second.now = c.are_pair.ensures.0 c.if-not-are_pair.false in (
      walks,
      (
        λ yes. homotopic_on_sphere apart c.args.place c.args.first.now c.args.second.now c.requires.apart c.requires.place c.requires.sphere
            c.requires.there walks,
        λ leads. refl,
      ),
    )
