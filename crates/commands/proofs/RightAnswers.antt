-- What a refusal gives as an answer, and a decision that is right.
use Rattle.commands.proofs.Common.{Answer, Exactly, Refuse, Pass, decided_by, Outcome, IsAnswerOf, Status, Yes, No, Refused, ◌≡◌, ◌⊎◌, inl, inr, ℕ, List, sym, ap, ◌∙◌, subst, ◌↔◌}
use Rattle.commands.proofs.Sound.{IsYesOrNo}

pub no_yes : No ≡ Yes → ⊥
no_yes e = cc

-- a refusal that such an outcome is
pub refused_so : (line : List ℕ) (outcome : Outcome) (status : Status) (text : List ℕ) → outcome ≡ Refuse (Exactly line)
    → IsAnswerOf outcome status text → (status ≡ Refused) × (text ≡ line)
refused_so line outcome status text e answer =
    let a : IsAnswerOf (Refuse (Exactly line)) status text = subst (λ (o : Outcome). IsAnswerOf o status text) e answer in
    (a.status_is, a.text_is)

-- the status is yes exactly where this holds
pub yes_exactly : {D P : Type 0} {for_yes for_no : D} → IsYesOrNo for_yes for_no → (status_of : D → Status) → status_of for_yes ≡ Yes
    → status_of for_no ≡ No
    → (decision : D) (status : Status) → status ≡ status_of decision → (decision ≡ for_yes) ↔ P → (status ≡ Yes) ↔ P
yes_exactly two status_of yes_is no_is decision status e right =
    elim (two.either decision) [
      | inl first ↦ ((λ _. right.0 first), (λ _. e ∙ ap status_of first ∙ yes_is))
      | inr second ↦ (
        (λ told. absurd (no_yes (sym (e ∙ ap status_of second ∙ no_is) ∙ told))),
        (λ h. absurd (two.differ (sym second ∙ right.1 h))),
      )
    ]

-- one of two lines is answered, with its status, and yes exactly where this holds
pub record IsRightLine (yes_line no_line : List ℕ) (P : Type 0) (status : Status) (text : List ℕ) : Type 0 where
  pub answered : ((status ≡ Yes) × (text ≡ yes_line)) ⊎ ((status ≡ No) × (text ≡ no_line))
  pub exactly : (status ≡ Yes) ↔ P

-- the answer that is a line of its own for each decision
abbrev pub line_answer : {D : Type 0} → (D → Status) → (D → List ℕ) → D → Answer
line_answer status_of line_of decision = record { status = status_of decision; texts = Exactly (line_of decision) }

right_by : {D P : Type 0} {for_yes for_no : D} → IsYesOrNo for_yes for_no → (status_of : D → Status) → status_of for_yes ≡ Yes
    → status_of for_no ≡ No
    → (line_of : D → List ℕ) (decision : D) (status : Status) (text : List ℕ) → status ≡ status_of decision → text ≡ line_of decision
    → (decision ≡ for_yes) ↔ P → IsRightLine (line_of for_yes) (line_of for_no) P status text
right_by {D} {P} {for_yes} {for_no} two status_of yes_is no_is line_of decision status text e f right =
    record {
      answered = one_of (two.either decision);
      exactly = yes_exactly two status_of yes_is no_is decision status e right;
    }
  where
    one_of : (decision ≡ for_yes) ⊎ (decision ≡ for_no)
        → ((status ≡ Yes) × (text ≡ line_of for_yes)) ⊎ ((status ≡ No) × (text ≡ line_of for_no))
    one_of (inl first) = inl (e ∙ ap status_of first ∙ yes_is, f ∙ ap line_of first)
    one_of (inr second) = inr (e ∙ ap status_of second ∙ no_is, f ∙ ap line_of second)

pub right_line : {D : Type 0} {for_yes for_no : D} → IsYesOrNo for_yes for_no → (status_of : D → Status) → status_of for_yes ≡ Yes
    → status_of for_no ≡ No
    → (line_of : D → List ℕ) (P : Type 0) (outcome : Outcome) (status : Status) (text : List ℕ)
    → (decided_by for_yes (line_answer status_of line_of) P).Ends outcome → IsAnswerOf outcome status text
    → IsRightLine (line_of for_yes) (line_of for_no) P status text
right_line two status_of yes_is no_is line_of P (Refuse texts) status text p answer = absurd p
right_line two status_of yes_is no_is line_of P (Pass x) status text p answer =
    let here : IsAnswerOf (Pass (line_answer status_of line_of p.0)) status text =
    subst (λ (y : Answer). IsAnswerOf (Pass y) status text) p.1 answer in
    right_by two status_of yes_is no_is line_of p.0 status text here.status_is here.text_is p.2
