-- How the decision on two walks ends, and what it leaves to be answered.
use Rattle.commands.proofs.Common.{Texts, decision_status, decision_line, Check, End, Refuse, Pass, Passes, IsTold, ◌>>=◌, Outcome, IsAnswerOf, Status, ◌≡◌, ◌⊎◌, inl, inr, ℕ, List, [], length, get_or, refl, sym, ap, ◌∙◌, subst, get_or_from_slice_get, ◌↔◌, Option, Some, slice_get, Files, FaceList, walk_at, AreWalkPair, Homotopic, Different, IsPair}
use Rattle.commands.specs.Decisions.{decided, decision_answer}
use Rattle.surf_model.specs.Moves as moves
use Rattle.surf_model.specs.declared.decisions.Answer as deciding
use Rattle.commands.proofs.RightAnswers.{IsRightLine, right_line}
use Rattle.commands.proofs.Sound.{IsSound, IsYesOrNo, one_right, sound-decided_by}

-- ---- a decision

either_decision : (decision : deciding.Answer) → (decision ≡ Homotopic) ⊎ (decision ≡ Different)
either_decision Homotopic = inl refl
either_decision Different = inr refl

pub differs : Different ≡ Homotopic → ⊥
differs e = cc

pub yes_or_no : IsYesOrNo Homotopic Different
yes_or_no = record { either = either_decision; differ = differs }

-- two decisions that are right are one
pub one_decision : {P : Type 0} (a b : deciding.Answer) → (a ≡ Homotopic) ↔ P → (b ≡ Homotopic) ↔ P → a ≡ b
one_decision a b p q = one_right yes_or_no a b p q

pub sound-decided : (held : Option Files) (mesh : FaceList) (first second : List ℕ) → IsSound held (decided mesh first second)
sound-decided held mesh first second = sound-decided_by held yes_or_no decision_answer (moves.Homotopic mesh first second)

-- what is answered of a decision that is right
abbrev pub IsRightAnswer : FaceList → (first second : List ℕ) → Status → List ℕ → Type 0
IsRightAnswer mesh first second status text =
    IsRightLine (decision_line Homotopic) (decision_line Different) (moves.Homotopic mesh first second) status text

pub right_answer : (mesh : FaceList) (first second : List ℕ) (outcome : Outcome) (status : Status) (text : List ℕ)
    → (decided mesh first second).Ends outcome → IsAnswerOf outcome status text → IsRightAnswer mesh first second status text
right_answer mesh first second outcome status text p answer =
    right_line yes_or_no decision_status refl refl decision_line (moves.Homotopic mesh first second) outcome status text p answer

-- ---- a sequence of which the first thing is known

pub behind : {A B : Type 0} (held : Option Files) (first : Check A) (next : A → Check B) (thing : A) (end : End B) → IsSound held first
    → first.EachFile (IsTold held) → Passes first thing → (first >>= next).Ends end → (next thing).Ends end
behind held first next thing end sound told p (inl q) = let e = sound.one told (Refuse q.0) (Pass thing) q.1 p in cc
behind {A} {B} held first next thing end sound told p (inr q) =
    let e = sound.one told (Pass q.0) (Pass thing) q.1 p in
    let same : q.0 ≡ thing = cc in
    subst (λ (x : A). (next x).Ends end) same q.2

-- a sequence of which the first check is known to refuse
pub refused_behind : {A B : Type 0} (held : Option Files) (first : Check A) (next : A → Check B) (texts : Texts) (end : End B)
    → IsSound held first
    → first.EachFile (IsTold held) → first.Ends (Refuse texts) → (first >>= next).Ends end → end ≡ Refuse texts
refused_behind {A} {B} held first next texts end sound told p (inl q) =
    let e = sound.one told (Refuse q.0) (Refuse texts) q.1 p in
    let same : q.0 ≡ texts = cc in
    q.2 ∙ ap (λ (t : Texts). let e : End B = Refuse t in e) same
refused_behind held first next texts end sound told p (inr q) = let e = sound.one told (Pass q.0) (Refuse texts) q.1 p in cc

-- ---- walks

-- a pair has two walks
pub pair_long : {mesh : FaceList} {walks : List (List ℕ)} → IsPair mesh walks → length walks ≡ 2
pair_long p = ap (length {A = List ℕ}) p.two

-- and they are these
pub walks_of_pair : {mesh : FaceList} {walks : List (List ℕ)} {a b : List ℕ} → IsPair mesh walks → slice_get walks 0 ≡ Some a
    → slice_get walks 1 ≡ Some b → AreWalkPair mesh a b
walks_of_pair {mesh} {walks} {a} {b} p f g =
    let one : p.first ≡ a = sym (ap (λ (w : List (List ℕ)). get_or w 0 []) p.two) ∙ get_or_from_slice_get walks 0 a [] f in
    let other : p.second ≡ b = sym (ap (λ (w : List (List ℕ)). get_or w 1 []) p.two) ∙ get_or_from_slice_get walks 1 b [] g in
    subst (λ (w : List ℕ). AreWalkPair mesh w b) one (subst (AreWalkPair mesh p.first) other p.are)

-- what holds of the two walks that were read holds of those at the places of their list
pub at_places : (P : List ℕ → List ℕ → Type 0) (pair : List (List ℕ)) (first second : List ℕ) → slice_get pair 0 ≡ Some first
    → slice_get pair 1 ≡ Some second → P first second → P (walk_at pair 0) (walk_at pair 1)
at_places P pair first second f g h =
    subst (λ (w : List ℕ). P (walk_at pair 0) w) (sym (get_or_from_slice_get pair 1 second [] g))
    (subst (λ (w : List ℕ). P w second) (sym (get_or_from_slice_get pair 0 first [] f)) h)
