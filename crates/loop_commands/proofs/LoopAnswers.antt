-- How the checks of `loops` end, and what they leave to be answered.
use Rattle.loop_commands.proofs.Common.{IsClosedWalk, FreelyHomotopic, IsSound, IsYesOrNo, sound-decided_by, sound-then, Check, Outcome, IsAnswerOf, Status, Freely, NotFreely, free_status, free_line, free_answer, freely_decided, loops, ◌≡◌, ◌⊎◌, inl, inr, ℕ, List, [], length, get_or, refl, sym, ap, ◌∙◌, subst, Option, Some, slice_get, Files, FaceList, sound-surface_in, IsClosedPair}
use Rattle.commands.proofs.RightAnswers.{IsRightLine, right_line}
use Rattle.commands.specs.Answers.{Answer}
use Rattle.free_loops.specs.declared.deciding.FreeAnswer.{FreeAnswer}
use Rattle.std.proofs.lemmas.Option.{get_or_from_slice_get}
use Rattle.surf_model.specs.Walks.{walk_at}
use Rattle.loop_commands.proofs.LoopChecks.{sound-loops_in}

-- ---- a decision

either_decision : (decision : FreeAnswer) → (decision ≡ Freely) ⊎ (decision ≡ NotFreely)
either_decision Freely = inl refl
either_decision NotFreely = inr refl

differs : NotFreely ≡ Freely → ⊥
differs e = cc

yes_or_no : IsYesOrNo Freely NotFreely
yes_or_no = record { either = either_decision; differ = differs }

sound-decided : (held : Option Files) (mesh : FaceList) (first second : List ℕ) → IsSound held (freely_decided mesh first second)
sound-decided held mesh first second = sound-decided_by held yes_or_no free_answer (FreelyHomotopic mesh first second)

-- what is answered of a decision that is right
abbrev pub IsRightAnswer : FaceList → (first second : List ℕ) → Status → List ℕ → Type 0
IsRightAnswer mesh first second status text =
    IsRightLine (free_line Freely) (free_line NotFreely) (FreelyHomotopic mesh first second) status text

pub right_answer : (mesh : FaceList) (first second : List ℕ) (outcome : Outcome) (status : Status) (text : List ℕ)
    → (freely_decided mesh first second).Ends outcome → IsAnswerOf outcome status text → IsRightAnswer mesh first second status text
right_answer mesh first second outcome status text p answer =
    right_line yes_or_no free_status refl refl free_line (FreelyHomotopic mesh first second) outcome status text p answer

-- ---- the parts of the command

-- what is looked at behind the walks
abbrev pub after_pair : FaceList → List (List ℕ) → Check Answer
after_pair surface pair = freely_decided surface (walk_at pair 0) (walk_at pair 1)

-- the two walks of a closed pair
pub record AreClosed (mesh : FaceList) (first second : List ℕ) : Type 0 where
  pub first_closed : IsClosedWalk mesh first
  pub second_closed : IsClosedWalk mesh second

pub loops_long : {mesh : FaceList} {walks : List (List ℕ)} → IsClosedPair mesh walks → length walks ≡ 2
loops_long p = ap (length {A = List ℕ}) p.two

pub walks_of_pair : {mesh : FaceList} {walks : List (List ℕ)} {a b : List ℕ} → IsClosedPair mesh walks → slice_get walks 0 ≡ Some a
    → slice_get walks 1 ≡ Some b → AreClosed mesh a b
walks_of_pair {mesh} {walks} {a} {b} p f g =
    let one : p.first ≡ a = sym (ap (λ (w : List (List ℕ)). get_or w 0 []) p.two) ∙ get_or_from_slice_get walks 0 a [] f in
    let other : p.second ≡ b = sym (ap (λ (w : List (List ℕ)). get_or w 1 []) p.two) ∙ get_or_from_slice_get walks 1 b [] g in
    record { first_closed = subst (IsClosedWalk mesh) one p.first_closed; second_closed = subst (IsClosedWalk mesh) other p.second_closed }

pub sound-loops : (held : Option Files) (mesh walks : List ℕ) → IsSound held (loops held mesh walks)
sound-loops held mesh walks =
    sound-then held _ _ (sound-surface_in held mesh)
    (λ surface _. sound-then held _ _ (sound-loops_in held walks surface)
    (λ pair _. sound-decided held surface (walk_at pair 0) (walk_at pair 1)))
