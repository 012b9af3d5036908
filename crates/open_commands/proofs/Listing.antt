-- The answers of the two commands: one, and the right one.
use Rattle.open_commands.proofs.Common.{differs, yes_or_no, no_yes, IsSound, sound-decided_by, Answer, Convinces, decision_line, End, Refuse, Pass, Passes, decision_answer, Outcome, IsAnswerOf, Moves, Status, Yes, No, IsListWithin, LeadsAtPeak, MOST_OPEN_STEPS, IsListPrinted, IsShortReply, list_answer, decided_with_list, certify_open, decide_open, asked, open_pair_in, OpenPair, ◌≡◌, ◌⊎◌, inl, inr, ℕ, List, refl, sym, ap, ◌∙◌, subst, ◌↔◌, IsTrue, IfNone, IfSome, MatchOption, Option, Some, None, if◌then◌else◌, Files, FaceList, PeakedMoves, walk_at}
use Rattle.commands.specs.Replies.{IsReplyTo, reply_status}
use Rattle.commands.specs.declared.reply.Reply.{Reply}
use Rattle.std.proofs.lemmas.Bool.{both_ways}
use Rattle.std.specs.Prelude.{Bool, true, false}
use Rattle.surf_model.specs.Moves.{Homotopic}
use Rattle.surf_model.specs.declared.decisions.Answer as deciding
use Rattle.surf_model.specs.declared.decisions.Answer.TheVariants as answers
use Rattle.commands.specs.declared.reply.Reply.TheVariants as replies

pub sound-listed : (held : Option Files) (mesh : FaceList) (first second : List ℕ) → IsSound held (decided_with_list mesh first second)
sound-listed held mesh first second = sound-decided_by held yes_or_no (list_answer mesh first second) (Homotopic mesh first second)

-- what is answered with a list, where one is right
pub record IsRightList (mesh : FaceList) (first second : List ℕ) (status : Status) (text : List ℕ) : Type 0 where
  pub answered : IsListPrinted mesh first second status text ⊎ ((status ≡ No) × (text ≡ decision_line answers.Different))
  pub exactly : (status ≡ Yes) ↔ Homotopic mesh first second

right_by : (mesh : FaceList) (first second : List ℕ) (decision : deciding.Answer) (status : Status) (text : List ℕ)
    → (decision ≡ answers.Homotopic) ↔ Homotopic mesh first second
    → IsAnswerOf (Pass (list_answer mesh first second decision)) status text → IsRightList mesh first second status text
right_by mesh first second answers.Homotopic status text right told =
    let shown = told.text_is in
    record {
      answered =
          inl (record {
            list = shown.0;
            convinces = shown.1;
            within = record { moves = shown.2; peak = shown.3 };
            status_is = told.status_is;
            text_is = shown.4;
          });
      exactly = ((λ _. right.0 refl), (λ _. told.status_is));
    }
right_by mesh first second answers.Different status text right told =
    record {
      answered = inr (told.status_is, told.text_is);
      exactly = ((λ yes. absurd (no_yes (sym told.status_is ∙ yes))), (λ h. absurd (differs (right.1 h))));
    }

pub right_list : (mesh : FaceList) (first second : List ℕ) (outcome : Outcome) (status : Status) (text : List ℕ)
    → (decided_with_list mesh first second).Ends outcome → IsAnswerOf outcome status text → IsRightList mesh first second status text
right_list mesh first second (Refuse texts) status text p answer = absurd p
right_list mesh first second (Pass x) status text p answer =
    right_by mesh first second p.0 status text p.2 (subst (λ (y : Answer). IsAnswerOf (Pass y) status text) p.1 answer)

-- a list that leads is a certificate
pub list_convinces : (mesh : FaceList) (first second : List ℕ) (list : PeakedMoves) → LeadsAtPeak mesh first list second
    → Convinces mesh first second (Moves list)
list_convinces mesh first second list h = record { leads = h.leads; peak = h.peak }

-- ---- what is found is what the commands give

-- the decision that a test is
abbrev pub decision_of_test : Bool → deciding.Answer
decision_of_test same = if same then answers.Homotopic else answers.Different

test_decides : {P : Type 0} (same : Bool) → IsTrue same ↔ P → (decision_of_test same ≡ answers.Homotopic) ↔ P
test_decides true h = ((λ _. h.0 refl), (λ _. refl))
test_decides false h = ((λ e. absurd (differs e)), (λ p. absurd (both_ways false refl (h.1 p))))

pub decision_passes : (held : Option Files) (mesh walks : List ℕ) (pair : OpenPair) (same : Bool) (first second : List ℕ)
    → walk_at pair.walks.walks 0 ≡ first → walk_at pair.walks.walks 1 ≡ second → Passes (open_pair_in held mesh walks) (asked pair)
    → IsTrue same ↔ Homotopic pair.surface.mesh first second
    → Passes (decide_open held mesh walks) (decision_answer (decision_of_test same))
decision_passes held mesh walks pair same first second f g p right =
    let there : IsTrue same ↔ Homotopic pair.surface.mesh (walk_at pair.walks.walks 0) (walk_at pair.walks.walks 1) =
    subst (λ (w : List ℕ). IsTrue same ↔ Homotopic pair.surface.mesh (walk_at pair.walks.walks 0) w) (sym g)
    (subst (λ (w : List ℕ). IsTrue same ↔ Homotopic pair.surface.mesh w second) (sym f) right) in
    inr (asked pair, p, (decision_of_test same, refl, test_decides same there))

pub list_passes : (held : Option Files) (mesh walks : List ℕ) (pair : OpenPair) (decision : deciding.Answer) (first second : List ℕ)
    → walk_at pair.walks.walks 0 ≡ first → walk_at pair.walks.walks 1 ≡ second → Passes (open_pair_in held mesh walks) (asked pair)
    → (decision ≡ answers.Homotopic) ↔ Homotopic pair.surface.mesh first second
    → Passes (certify_open held mesh walks) (list_answer pair.surface.mesh first second decision)
list_passes held mesh walks pair decision first second f g p right =
    let here : (decided_with_list pair.surface.mesh first second).Ends (Pass (list_answer pair.surface.mesh first second decision)) =
    (decision, refl, right) in
    let there : (decided_with_list pair.surface.mesh (walk_at pair.walks.walks 0) (walk_at pair.walks.walks 1)).Ends
    (Pass (list_answer pair.surface.mesh first second decision)) =
    subst
    (λ (w : List ℕ). (decided_with_list pair.surface.mesh (walk_at pair.walks.walks 0) w).Ends
    (Pass (list_answer pair.surface.mesh first second decision)))
    (sym g)
    (subst
    (λ (w : List ℕ). (decided_with_list pair.surface.mesh w second).Ends (Pass (list_answer pair.surface.mesh first second decision)))
    (sym f) here) in
    inr (asked pair, p, there)

-- the reply that a found list is, or that there is none
pub record IsFoundReply (mesh : FaceList) (first second : List ℕ) (reply : Reply) : Type 0 where
  pub decision : deciding.Answer
  pub right : (decision ≡ answers.Homotopic) ↔ Homotopic mesh first second
  pub is_reply : IsReplyTo (list_answer mesh first second decision) reply

pub found_reply : (mesh : FaceList) (first second : List ℕ) (found : Option PeakedMoves) (reply : Reply)
    → MatchOption found (Homotopic mesh first second → ⊥) (λ list. LeadsAtPeak mesh first list second)
    → IfSome found (IsListWithin MOST_OPEN_STEPS)
    → IfSome found (λ list. (m : FaceList) (a b : List ℕ) → LeadsAtPeak m a list b → IsListWithin MOST_OPEN_STEPS list
    → IsReplyTo (list_answer m a b answers.Homotopic) reply)
    → ((m : FaceList) (a b : List ℕ) → IfNone found (IsReplyTo (list_answer m a b answers.Different) reply))
    → IsFoundReply mesh first second reply
found_reply mesh first second None reply none short some other =
    record {
      decision = answers.Different;
      right = ((λ e. absurd (differs e)), (λ h. absurd (none h)));
      is_reply = other mesh first second;
    }
found_reply mesh first second (Some list) reply leads short some other =
    record {
      decision = answers.Homotopic;
      right = ((λ _. (list.moves, leads.leads)), (λ _. refl));
      is_reply = some mesh first second leads short;
    }

pub found_short : (found : Option PeakedMoves) (P Q : PeakedMoves → Type 0) (R : Type 0) → MatchOption found R P → IfSome found Q
    → IfSome found (λ list. P list × Q list)
found_short None P Q R h k = tt
found_short (Some list) P Q R h k = (h, k)

-- a reply that is no yes has no list
pub no_list_short : (reply : Reply) → reply_status reply ≡ No → IsShortReply reply
no_list_short (replies.Yes text) e = absurd (no_yes (sym e))
no_list_short (replies.No text) e = tt
no_list_short (replies.Refused text) e = tt
