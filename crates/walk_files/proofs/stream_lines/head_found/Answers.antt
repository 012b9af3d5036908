use Rattle.walk_files.proofs.Common.{List, ℕ, ap, ◌∙◌, words_here, head_in}
use Rattle.walk_files.proofs.StreamLemmas.{head_in-same}
use Rattle.walk_files.proofs.stream_lines.head_found.Goals as goal

pub returns-clause-head : goal.returns-clause-head
returns-clause-head c =
    rw c.in-Some.is (λ words same.
    c.read_head_line.ensures.head
    ∙ ap (λ (ws : List (List ℕ)). head_in c.args.answer (record { number = c.in-Some.number; words = ws })) c.at_words.ensures
    ∙ head_in-same c.args.answer c.in-Some.number (words_here c.args.line.now.done) words same)
