use Rattle.free_forms.proofs.Common.{arith, ◌≡◌, ◌↔◌, Homotopic}
use Rattle.free_forms.proofs.NormalLemmas.{by_normal_walks}
use Rattle.free_forms.proofs.deciding.same_class.Goals as goal

pub returns : goal.returns
returns c =
    let equal : Homotopic c.args.mesh.now.mesh c.args.first.now c.args.second.now ↔ (c.in_ok-one.one ≡ c.in_ok-two.two) =
    by_normal_walks c.args.mesh.now c.args.first.now c.args.second.now c.in_ok-one.one c.in_ok-two.two c.in_ok-two.ensures.parents
    c.requires.first c.requires.second c.in_ok-one.ensures.normal c.in_ok-two.ensures.normal in grind arith
