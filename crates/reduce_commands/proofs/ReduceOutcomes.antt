-- `reduce` in the words of the list.
use Rattle.reduce_commands.proofs.Common.{yes_with, Pass, AnswersTo, IsAnswerOf, words_text, IsReduceInput, AreCanonicalOf, IsReduced, reduce, IsReduceRow, ℕ, List, sym, ◌∙◌, Option, Files}
use Rattle.commands.specs.declared.status.Status.{Status}
use Rattle.reduce_commands.proofs.Reducing.{canonical_there, reduce_passes, reduce_told, yes_input, input_words, input_told}

-- what `reduce` is for, where the words are answered by its check
pub reduced : (files : Option Files) (words : List (List ℕ)) (status : Status) (text : List ℕ)
    → ((degree : ℕ) (name : List ℕ) → IsReduceRow words degree name → AnswersTo files (reduce files degree name) status text)
    → IsReduced files words status text
reduced files words status text answered =
    record {
      yes = λ degree name row told.
          let a = answered degree name row in (
            λ e. yes_input files degree name a.outcome told a.is_outcome (sym a.is_answer.status_is ∙ e),
            λ given.
                let there = canonical_there degree given.0 (input_words files degree name given.0 given.1) in
                (good degree name given.0 there.0 row given.1 there.1).status_is,
          );
      lines = λ degree name turns canonical row input are. (good degree name turns canonical row input are).text_is;
    }
  where
    good : (degree : ℕ) (name : List ℕ) (turns canonical : List (List ℕ)) → IsReduceRow words degree name
        → IsReduceInput files degree name turns
        → AreCanonicalOf degree turns canonical → IsAnswerOf (Pass (yes_with (words_text canonical))) status text
    good degree name turns canonical row input are =
        (answered degree name row).exact (reduce_told files degree name (input_told files degree name turns input))
        (Pass (yes_with (words_text canonical))) (reduce_passes files degree name turns canonical input are)
