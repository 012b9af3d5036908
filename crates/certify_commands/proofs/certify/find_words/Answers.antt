use Rattle.certify_commands.proofs.Common.{IsWordOf, subst, arith, FaceList}
use Rattle.certify_commands.proofs.Certifying.{some_sides, denial_holds, signs_are}
use Rattle.certify_commands.proofs.SplitGenera.{no_sides}
use Rattle.certify_commands.proofs.certify.find_words.Goals as goal

pub from_spent_polygon-requires-clause-some : goal.from_spent_polygon-requires-clause-some
from_spent_polygon-requires-clause-some c =
    some_sides c.args.surface.now c.requires.cut.0 c.args.polygon c.args.first.now c.args.second.now c.faces-faces.ensures.valid
    c.requires.cut.1
    c.requires.cut.2 c.requires.first c.requires.second c.requires.ends c.requires.apart

pub returns : goal.returns
returns c =
    let surface = c.args.surface.now in
    let first = c.args.first.now in
    let second = c.args.second.now in
    let good = c.in_ok-good.good in
    let one = c.in_ok-first_word.first_word in
    let other = c.in_ok-second_word.second_word in
    let mesh = c.faces-faces.ensures.mesh in
    let o = c.faces-faces.ensures.valid in
    let some = some_sides surface c.requires.cut.0 c.args.polygon first second o c.requires.cut.1 c.requires.cut.2 c.requires.first
    c.requires.second c.requires.ends c.requires.apart in (
      denial_holds surface c.requires.cut.0 c.args.polygon first second good one other o c.requires.cut.1 c.requires.cut.2 some
          c.requires.first c.requires.second c.requires.ends c.requires.apart c.in_ok-good.ensures.labelling c.in_ok-good.ensures.good
          (subst (λ (m : FaceList). IsWordOf m good first one) mesh c.in_ok-first_word.ensures)
          (subst (λ (m : FaceList). IsWordOf m good second other) mesh c.in_ok-second_word.ensures),
      signs_are surface c.args.polygon good o c.in_ok-good.ensures.labelling,
      λ sphere. omega (arith, some, no_sides surface c.requires.cut.0 c.args.polygon o c.requires.cut.1 c.requires.cut.2 sphere),
    )
