use Rattle.move_lifting.proofs.Common.{along_or_back, ◌≡◌, ◌++◌, ◌-◌, Bool, List, ℕ, length, take, drop, refl, ap, sym, ◌∙◌, subst, on_ok_weaker, AreFreelyEqual, numbers}
use Rattle.move_lifting.proofs.LayLemmas.{behind_first}
use Rattle.move_lifting.proofs.looping.put_spoke.Goals as goal

pub returns-in_ok-there-clause-freely : goal.returns-in_ok-there-clause-freely
returns-in_ok-there-clause-freely c =
    let rest : numbers c.deref.result.now ≡ along_or_back c.args.along (numbers c.args.spoke.now) =
    ap numbers c.deref.ensures.value ∙ c.in_ok-there.ensures ∙ ap (λ (b : Bool). along_or_back b (numbers c.args.spoke.now))
    (sym c.if-along.true) in
    on_ok_weaker c.put_all.result
    (λ free mesh. subst (λ (l : List ℕ). AreFreelyEqual mesh (numbers c.args.walk.now.items ++ l) (numbers c.put_all.new.walk.items)) rest
    (free mesh))
    c.put_all.ensures.freely

pub returns-else-along-clause-freely : goal.returns-else-along-clause-freely
returns-else-along-clause-freely c =
    let spoke = c.args.spoke.now in
    let rest : numbers (take (length spoke - 1) (drop 1 spoke)) ≡ along_or_back c.args.along (numbers spoke) =
    behind_first spoke (take (length spoke - 1) (drop 1 spoke)) refl ∙ ap (λ (b : Bool). along_or_back b (numbers spoke))
    (sym c.if-along.false) in
    on_ok_weaker c.put_all-else-along.result
    (λ free mesh.
    subst (λ (l : List ℕ). AreFreelyEqual mesh (numbers c.args.walk.now.items ++ l) (numbers c.put_all-else-along.new.walk.items)) rest
    (free mesh))
    c.put_all-else-along.ensures.freely
