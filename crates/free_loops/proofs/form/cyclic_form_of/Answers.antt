use Rattle.free_loops.proofs.Common.{IsWordOf, Turns}
use Rattle.free_loops.proofs.FormLemmas.{spelled_loop, cyclic_form_is}
use Rattle.free_loops.proofs.form.cyclic_form_of.Goals as goal

pub cyclic_form-requires-clause-spokes : goal.cyclic_form-requires-clause-spokes
cyclic_form-requires-clause-spokes c =
    let word : IsWordOf c.args.faces.now c.args.good.now c.args.walk.now (Turns c.in-Turns.word) =
    rw c.in-Turns.is at c.in_ok-word.ensures in
    let spelled = rw c.wheel.ensures at c.in_ok-spokes.ensures in
    rw (c.wheel-2.ensures, c.deref.ensures.value)
    (spelled_loop c.args.faces.now c.args.good.now c.requires.good c.requires.full c.args.walk.now c.in-Turns.word
    c.in_ok-spokes.spokes.items word spelled.below spelled.word)

pub returns-clause-form : goal.returns-clause-form
returns-clause-form c =
    let word : IsWordOf c.args.faces.now c.args.good.now c.args.walk.now (Turns c.in-Turns.word) =
    rw c.in-Turns.is at c.in_ok-word.ensures in
    let spelled = rw c.wheel.ensures at c.in_ok-spokes.ensures in
    let formed = rw (c.wheel-2.ensures, c.deref.ensures.value) at c.in_ok-form.ensures in
    cyclic_form_is c.args.faces.now c.args.good.now c.requires.good c.requires.full c.args.walk.now c.in-Turns.word
    c.in_ok-spokes.spokes.items c.in_ok-form.form.items word spelled.below spelled.word formed.spokes formed.canonical formed.leads
