use Rattle.surf_model.proofs.Common.{arith, sym, subst, Ok, Err, Result, IfOk, IsNumbering}
use Rattle.surf_model.proofs.StoredLemmas.{numbering}
use Rattle.surf_model.proofs.faces.Faces.numbering.Goals as goal

weaker : {A E : Type 0} (P Q : A → Type 0) → ((x : A) → P x → Q x) → (r : Result A E) → IfOk r P → IfOk r Q
weaker P Q f (Ok x) h = f x h
weaker P Q f (Err e) h = h

pub returns-clause-numbering : goal.returns-clause-numbering
returns-clause-numbering c =
    weaker _ (IsNumbering c.args.self.now)
    (λ parts is. subst (IsNumbering c.args.self.now) (sym is) (numbering _ _ _ c.args.self.now c.self.invariant c.self.view_is))
    c.copy.result c.copy.ensures

pub returns-clause-valid : goal.returns-clause-valid
returns-clause-valid c = grind (arith, weaker)
