use Rattle.homotopy_c.proofs.Common.{◌∙◌, sym}
use Rattle.homotopy_c.proofs.ComponentTellings.{components_else, components_mean, place_stands}
use Rattle.homotopy_c.proofs.component_laws.components_tell_what_is_joined.Goals as goal

pub returns-clause-answers : goal.returns-clause-answers
returns-clause-answers c = λ mesh old components before places outcome h e. components_mean mesh old components before places outcome h e

pub returns-clause-joined : goal.returns-clause-joined
returns-clause-joined c =
    λ mesh old components before places outcome h e u v in_u in_v used_u used_v.
    let told = components_mean mesh old components before places outcome h e in
    rw (
      place_stands mesh old components before places outcome told u in_u,
      place_stands mesh old components before places outcome told v in_v,
    ) (told.are.places.joined u v used_u used_v)

pub returns-clause-unused : goal.returns-clause-unused
returns-clause-unused c =
    λ mesh old components before places outcome h e v in_v unused.
    let told = components_mean mesh old components before places outcome h e in
    place_stands mesh old components before places outcome told v in_v ∙ told.are.unused v in_v unused ∙ sym told.counted

pub returns-clause-else_nothing : goal.returns-clause-else_nothing
returns-clause-else_nothing c =
    λ read old components before places outcome h differs. components_else read old components before places outcome h differs
