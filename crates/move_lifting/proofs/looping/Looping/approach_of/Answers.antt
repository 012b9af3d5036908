use Rattle.move_lifting.proofs.Common.{walks_loop, backward, ℕ, ◌++◌, ◌∷◌, [], true, List, subst, arith, append_assoc, AreFreelyEqual, numbers}
use Rattle.move_lifting.proofs.LayLemmas.{laid_two}
use Rattle.move_lifting.proofs.looping.Looping.approach_of.Goals as goal

pub returns-clause-freely : goal.returns-clause-freely
returns-clause-freely c root ways h =
    let mesh = c.args.self.now.cut.now.on.surface.now.mesh in
    let x : ℕ = c.args.start.0 in
    let y : ℕ = c.args.end.0 in
    let laid : List ℕ = walks_loop c.args.spokes.now true c.args.front.now in
    let over : List ℕ = ways x ++ backward y (ways y) in
    let done : List ℕ = numbers c.put_spokes.new.walk.items in
    subst (λ (l : List ℕ). AreFreelyEqual mesh (x ∷ l) done) (append_assoc (ways x) (backward y (ways y)) laid)
    (laid_two mesh (x ∷ []) (numbers c.put_over.new.walk.items) done over laid (omega arith)
    (subst (λ (l : List ℕ). AreFreelyEqual mesh (l ++ over) (numbers c.put_over.new.walk.items)) c.in_ok-walk.ensures
    (c.in_ok-put_over.ensures.freely root ways h))
    (c.in_ok-put_spokes.ensures.freely mesh))
