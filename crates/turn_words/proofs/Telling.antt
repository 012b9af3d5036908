-- What a recorder tells after more steps were noted, one after another.
use Rattle.turn_words.proofs.Common.{arith, ◌≡◌, sym, subst, List, ◌++◌, Option, Some, None, common_steps, with_steps, TellsMore, Step}

-- steps are noted
pub tells-steps : (Such : List Step → Type 0) (o p : Option (List Step)) (steps : List Step) → p ≡ with_steps o steps → Such steps
    → TellsMore Such o p
tells-steps Such None p steps e h = e
tells-steps Such (Some before) p steps e h = (steps, e, h)

-- steps are noted, and then others
pub tells-both : (A B C : List Step → Type 0) (o p q : Option (List Step)) → TellsMore A o p → TellsMore B p q →
    ((a b : List Step) → A a → B b → C (a ++ b)) → TellsMore C o q
tells-both A B C None None q first second h = second
tells-both A B C None (Some s) q first second h = absurd cc
tells-both A B C (Some s) None q first second h = absurd (let e = first.1 in cc)
tells-both A B C (Some s) (Some t) q first second h = grind (arith, common_steps)

-- steps are noted by `with_steps` after others
pub tells-on : (o p q : Option (List Step)) (steps : List Step) → TellsMore (λ _. Unit {0}) o p → q ≡ with_steps p steps
    → TellsMore (λ _. Unit {0}) o q
tells-on o p q steps t e = grind (arith, common_steps, tells-both, tells-steps)

-- what is told stays the same
pub tells-still : (o p q : Option (List Step)) → TellsMore (λ _. Unit {0}) o p → q ≡ p → TellsMore (λ _. Unit {0}) o q
tells-still o p q t e = subst (λ r. TellsMore (λ _. Unit {0}) o r) (sym e) t
