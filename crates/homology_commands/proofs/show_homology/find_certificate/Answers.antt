use Rattle.homology_commands.proofs.Common.{walk_there, refl, sym}
use Rattle.std.proofs.lemmas.Result.{err_from_is_err_and}
use Rattle.homology_commands.proofs.show_homology.find_certificate.Goals as goal

pub of_walk-requires-clause-signed : goal.of_walk-requires-clause-signed
of_walk-requires-clause-signed c = c.requires.signed

pub of_walk-requires-clause-walk : goal.of_walk-requires-clause-walk
of_walk-requires-clause-walk c = c.requires.first

pub certificate_on-shown-requires-clause-component : goal.certificate_on-shown-requires-clause-component
certificate_on-shown-requires-clause-component c = (c.args.surface.faces, _, c.in_ok-component.ensures)

pub certificate_on-shown-requires-clause-first : goal.certificate_on-shown-requires-clause-first
certificate_on-shown-requires-clause-first c =
    walk_there c.args.surface.faces _ c.in_ok-component.component c.args.first.now c.in_ok-component.ensures c.requires.first refl

pub certificate_on-shown-requires-clause-second : goal.certificate_on-shown-requires-clause-second
certificate_on-shown-requires-clause-second c =
    walk_there c.args.surface.faces _ c.in_ok-component.component c.args.second.now c.in_ok-component.ensures c.requires.second
    (sym c.requires.ends.starts)

pub certificate_on-shown-requires-clause-ends : goal.certificate_on-shown-requires-clause-ends
certificate_on-shown-requires-clause-ends c = c.requires.ends

pub certificate_on-shown-requires-clause-few : goal.certificate_on-shown-requires-clause-few
certificate_on-shown-requires-clause-few c = c.requires.few

pub returns-in_err-component : goal.returns-in_err-component
returns-in_err-component c = let p = err_from_is_err_and c.from_residual.result c.from_residual.ensures.1 in rw p.1 tt

pub returns : goal.returns
returns c =
    c.certificate_on-shown.ensures c.args.surface.faces c.in_ok-component.ensures c.requires.first c.requires.second
