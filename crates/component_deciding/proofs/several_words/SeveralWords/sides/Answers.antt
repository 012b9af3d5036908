use Rattle.component_deciding.proofs.Common.{IsFreeAmong, IsWordAmong, SeveralView, subst, DoDecide}
use Rattle.component_deciding.proofs.FreeTold.{among_decide_free}
use Rattle.component_deciding.proofs.WordLemmas.{among_decide}
use Rattle.free_loops.specs.FreeWords.{DoDecideFree}
use Rattle.component_deciding.proofs.several_words.SeveralWords.sides.Goals as goal

pub returns-clause-decide : goal.returns-clause-decide
returns-clause-decide c =
    subst (λ (s : SeveralView). DoDecide s.apart.mesh.faces (IsWordAmong s)) c.self.view_is
    (among_decide (record { apart = c.self.inside.apart; labelled = c.self.inside.labelled.items }) c.self.invariant)

pub returns-clause-free : goal.returns-clause-free
returns-clause-free c =
    subst (λ (s : SeveralView). DoDecideFree s.apart.mesh.faces (IsFreeAmong s)) c.self.view_is
    (among_decide_free (record { apart = c.self.inside.apart; labelled = c.self.inside.labelled.items }) c.self.invariant)
