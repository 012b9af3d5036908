use Rattle.walk_files.proofs.Common.{◌++◌, List, ℕ, err_from_is_err_and, on_ok, puts-then, puts-fails, puts-same, line_of, word_words, labelling_text}
use Rattle.walk_files.proofs.DenialParts.{denial_text-parts}
use Rattle.walk_files.proofs.denial_writing.put_denial.Goals as goal

pub returns-in_err-put_labelling-clause-puts : goal.returns-in_err-put_labelling-clause-puts
returns-in_err-put_labelling-clause-puts g c =
    let failed = err_from_is_err_and c.from_residual.result c.from_residual.ensures.1 in
    let first : List ℕ = line_of (word_words c.args.denial.now.first) in
    puts-same (denial_text-parts c.args.denial.now)
    (puts-fails _ (labelling_text c.args.denial.now.labelling) (first ++ line_of (word_words c.args.denial.now.second)) failed.1
    c.in_err-put_labelling.ensures.puts.failed c.in_err-put_labelling.ensures.puts.only_writes)

pub returns-in_err-put_word-clause-puts : goal.returns-in_err-put_word-clause-puts
returns-in_err-put_word-clause-puts g c =
    let failed = err_from_is_err_and c.from_residual-in_err-put_word.result c.from_residual-in_err-put_word.ensures.1 in
    puts-same (denial_text-parts c.args.denial.now)
    (puts-then c.in_ok-put_labelling.ensures.puts.ok c.in_ok-put_labelling.ensures.puts.only_writes
    (puts-fails _ (line_of (word_words c.args.denial.now.first)) (line_of (word_words c.args.denial.now.second)) failed.1
    c.in_err-put_word.ensures.puts.failed c.in_err-put_word.ensures.puts.only_writes))

pub returns-clause-puts : goal.returns-clause-puts
returns-clause-puts g c =
    puts-same (denial_text-parts c.args.denial.now)
    (puts-then c.in_ok-put_labelling.ensures.puts.ok c.in_ok-put_labelling.ensures.puts.only_writes
    (puts-then c.in_ok-put_word.ensures.puts.ok c.in_ok-put_word.ensures.puts.only_writes c.put_word-2.ensures.puts))

pub returns-clause-numbers : goal.returns-clause-numbers
returns-clause-numbers g c =
    on_ok c.put_word-2.result (λ second. (c.in_ok-put_labelling.ensures.numbers, c.in_ok-put_word.ensures.numbers, second))
    c.put_word-2.ensures.numbers
