-- Spokes put into a form, and what is noted there.
use Rattle.labellings.proofs.Common.{arith, ◌≡◌, ℕ, List, [], ◌∷◌, ◌++◌, subst, sym, ◌∙◌, ap, common_steps, led, NotesAlong, TellsMore}
use Rattle.std.proofs.Common.{Option}
use Rattle.turn_words.proofs.Led.{led-append, notes-append}
use Rattle.turn_words.proofs.Telling.{tells-both}
use Rattle.turn_words.specs.declared.step.Step.{Step}

module _ {State : Type 0} (next : List ℕ → State → ℕ → State) (Notes : List ℕ → State → ℕ → List Step → Type 0) (places : List ℕ) where
  -- two spokes
  pub tells-two : (s : State) (i j : ℕ) (o p q : Option (List Step)) → TellsMore (Notes places s i) o p
      → TellsMore (Notes places (next places s i) j) p q
      → TellsMore (NotesAlong next Notes places s (i ∷ j ∷ [])) o q
  tells-two s i j o p q first second = grind (arith, common_steps, tells-both)

  -- two lists of spokes
  pub tells-on : (s t : State) (first second : List ℕ) (o p q : Option (List Step)) → t ≡ led next places s first
      → TellsMore (NotesAlong next Notes places s first) o p → TellsMore (NotesAlong next Notes places t second) p q
      → TellsMore (NotesAlong next Notes places s (first ++ second)) o q
  tells-on s t first second o p q e there here =
      tells-both (NotesAlong next Notes places s first) (NotesAlong next Notes places t second)
      (NotesAlong next Notes places s (first ++ second)) o p q there here
      (λ a b x y. notes-append next places Notes s first second a b x (subst (λ (u : State). NotesAlong next Notes places u second b) e y))

  pub led-on : (s t u : State) (first second : List ℕ) → t ≡ led next places s first → u ≡ led next places t second
      → u ≡ led next places s (first ++ second)
  led-on s t u first second e f = f ∙ ap (λ (v : State). led next places v second) e ∙ sym (led-append next places s first second)

-- something is noted after something
pub tells-some : (A B : List Step → Type 0) (o p q : Option (List Step)) → TellsMore A o p → TellsMore B p q → TellsMore (λ _. Unit {0}) o q
tells-some A B o p q first second = tells-both A B (λ _. Unit {0}) o p q first second (λ _ _ _ _. tt)
