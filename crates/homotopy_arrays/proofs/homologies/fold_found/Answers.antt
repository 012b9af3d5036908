use Rattle.homotopy_arrays.proofs.Common.{double_of, HomologyNumbers, AreShown, subst, IfOk, Result, AllocError}
use Rattle.homotopy_arrays.proofs.HomologyLemmas.{shown_folded}
use Rattle.homotopy_arrays.proofs.homologies.fold_found.Goals as goal

pub returns : goal.returns
returns c = λ first second are found.
    let mesh = c.args.faces.now in
    shown_folded mesh first second c.in_ok-numbers.numbers c.fold.result are
    (subst (λ (end : Result HomologyNumbers AllocError). IfOk end (AreShown (double_of mesh) first second)) c.in_ok-numbers.was found)
    c.fold.ensures.show c.fold.ensures.size
