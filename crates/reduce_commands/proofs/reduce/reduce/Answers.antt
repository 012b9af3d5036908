use Rattle.reduce_commands.proofs.Common.{stops_first, runs_faulty, runs_refused, runs_replied, runs_stopped, yes_with, file, meant, numbers_line, words_text, degree_line, refl, arith, words_of}
use Rattle.commands.specs.declared.refusal.Input.TheVariants.{TurnWords}
use Rattle.reduce_commands.proofs.Reducing.{degree_stops, lines_stop, looks_at_file, words_no_fault, words_pass, words_stop}
use Rattle.reduce_commands.proofs.reduce.reduce.Goals as goal

pub returns-then-degree-lt-LEAST_DEGREE : goal.returns-then-degree-lt-LEAST_DEGREE
returns-then-degree-lt-LEAST_DEGREE g c =
    let files = g.S.Shelf.held c.args.shelf.now in
    runs_refused (degree_line c.args.degree)
    (degree_stops files c.args.degree c.args.list.now c.refused.result c.if-degree-lt-LEAST_DEGREE.true c.refused.ensures) c.refused.ensures

pub returns-in_err-bytes : goal.returns-in_err-bytes
returns-in_err-bytes g c =
    let files = g.S.Shelf.held c.args.shelf.now in
    let stop = c.in_err-bytes.field-0.0 in
    runs_stopped (looks_at_file files c.args.degree c.args.list.now c.if-degree-lt-LEAST_DEGREE.false) c.from_residual.ensures.1
    (record { same_files = refl; never_falls = omega arith }) c.in_err-bytes.ensures
    (lines_stop files c.args.degree c.args.list.now stop c.if-degree-lt-LEAST_DEGREE.false
    (stops_first (file files c.args.list.now TurnWords) (λ bytes. meant (numbers_line TurnWords) (words_of bytes)) stop
    c.in_err-bytes.ensures.end))

pub returns-in_err-words : goal.returns-in_err-words
returns-in_err-words g c =
    let files = g.S.Shelf.held c.args.shelf.now in
    let stop = c.in_err-words.field-0.0 in
    let bytes = c.in_ok-bytes.bytes.items in
    let ended = rw c.deref.ensures.value at c.in_err-words.ensures.end in
    runs_faulty (looks_at_file files c.args.degree c.args.list.now c.if-degree-lt-LEAST_DEGREE.false) c.from_residual-in_err-words.ensures.1
    c.in_ok-bytes.ensures.only_reads (words_no_fault c.args.degree (words_of bytes) stop ended)
    (words_stop files c.args.degree c.args.list.now bytes stop c.if-degree-lt-LEAST_DEGREE.false c.in_ok-bytes.ensures.end ended)

pub returns : goal.returns
returns g c =
    let files = g.S.Shelf.held c.args.shelf.now in
    let words = c.in_ok-words.words.items in
    let bytes = c.in_ok-bytes.bytes.items in
    runs_replied (looks_at_file files c.args.degree c.args.list.now c.if-degree-lt-LEAST_DEGREE.false) c.in_ok-bytes.ensures.only_reads
    (record {
      answer = yes_with (words_text words);
      passes =
          words_pass files c.args.degree c.args.list.now bytes words c.if-degree-lt-LEAST_DEGREE.false c.in_ok-bytes.ensures.end
          (rw c.deref.ensures.value at c.in_ok-words.ensures.end);
      is_answer = record { status_is = refl; text_is = refl };
    })
