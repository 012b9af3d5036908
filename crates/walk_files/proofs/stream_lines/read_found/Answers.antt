use Rattle.walk_files.proofs.Common.{List, ℕ, ap, ◌∙◌, words_here, next_on}
use Rattle.walk_files.proofs.StreamLemmas.{next_on-same}
use Rattle.walk_files.proofs.stream_lines.read_found.Goals as goal

pub returns-clause-answer : goal.returns-clause-answer
returns-clause-answer c =
    rw c.in-Some.is (λ words same.
    c.read_line.ensures.answer
    ∙ ap (λ (ws : List (List ℕ)). next_on c.args.to_come (record { number = c.in-Some.number; words = ws })) c.at_words.ensures
    ∙ next_on-same c.args.to_come c.in-Some.number (words_here c.args.line.now.done) words same)
