use Rattle.component_deciding.proofs.Common.{◌≡◌, get_or, sym, ◌∙◌, arith, get_or_read}
use Rattle.std.proofs.Common.{eqb-true, eq-eqb}
use Rattle.component_deciding.proofs.SphereLemmas.{genus_there, told_as_sphere}
use Rattle.component_deciding.proofs.apart.Apart.is_sphere.Goals as goal

pub index-requires : goal.index-requires
index-requires c =
    let apart = c.args.self.now in
    omega (
      arith,
      (genus_there apart.mesh.faces apart.parts apart.genera.items c.args.place c.requires.apart.signed.valid c.requires.apart.parts
          c.requires.apart.genera c.requires.place).0,
      apart.genera.ok.0,
    )

pub returns : goal.returns
returns c =
    let apart = c.args.self.now in
    let within = (genus_there apart.mesh.faces apart.parts apart.genera.items c.args.place c.requires.apart.signed.valid
    c.requires.apart.parts c.requires.apart.genera c.requires.place).0 in
    let told = told_as_sphere apart.mesh.faces apart.parts apart.genera.items c.args.place c.requires.apart.signed.valid
    c.requires.apart.parts c.requires.apart.genera c.requires.place in
    let here : get_or apart.genera.items c.args.place 0 ≡ c.index.result.now =
    sym (get_or_read apart.genera.items c.args.place c.index.result.now within c.index.ensures 0) in (
      λ zero. told.0 (here ∙ eqb-true c.index.result.now 0 zero),
      λ sphere. eq-eqb c.index.result.now 0 (sym here ∙ told.1 sphere),
    )
