use Rattle.walk_files.proofs.Common.{◌++◌, ◌∙◌, ap, drop, arith, err_from_is_err_and, flat_map, decimal, slice_index, IsTrue, on_ok, gathers-put, puts-then, puts-fails, puts-same, spaced_number}
use Rattle.walk_files.proofs.DenialParts.{first_and_later, small_with_first}
use Rattle.walk_files.proofs.denial_writing.put_turns.Goals as goal

pub returns-in_err-put_later_entries-clause-puts : goal.returns-in_err-put_later_entries-clause-puts
returns-in_err-put_later_entries-clause-puts g c =
    let failed = err_from_is_err_and c.from_residual-in_err-put_later_entries.result c.from_residual-in_err-put_later_entries.ensures.1 in
    let put = c.put_natural.ensures.put ∙ ap (λ n. c.make_room.new.self ++ decimal n) (c.from.ensures ∙ c.at.ensures) in
    puts-same (first_and_later c.args.word.now (λ none. let full : IsTrue c.is_empty.result = c.is_empty.ensures.1 none in cc))
    (puts-then (gathers-put (decimal (slice_index c.args.word.now 0)) c.in_ok-make_room.ensures.puts.ok put)
    c.in_ok-make_room.ensures.puts.only_writes
    (puts-fails _ (flat_map spaced_number (drop 1 c.args.word.now)) _ failed.1 c.in_err-put_later_entries.ensures.puts.failed
    c.in_err-put_later_entries.ensures.puts.only_writes))

pub returns-clause-puts : goal.returns-clause-puts
returns-clause-puts g c =
    let put = c.put_natural.ensures.put ∙ ap (λ n. c.make_room.new.self ++ decimal n) (c.from.ensures ∙ c.at.ensures) in
    puts-same (first_and_later c.args.word.now (λ none. let full : IsTrue c.is_empty.result = c.is_empty.ensures.1 none in cc))
    (puts-then (gathers-put (decimal (slice_index c.args.word.now 0)) c.in_ok-make_room.ensures.puts.ok put)
    c.in_ok-make_room.ensures.puts.only_writes
    (puts-then c.in_ok-put_later_entries.ensures.puts.ok c.in_ok-put_later_entries.ensures.puts.only_writes c.end_line.ensures))

pub returns-clause-numbers : goal.returns-clause-numbers
returns-clause-numbers g c =
    on_ok c.end_line.result
    (λ _. small_with_first c.args.word.now c.at.result c.at.ensures (omega (arith, c.at.type_inv))
    c.in_ok-put_later_entries.ensures.numbers)
    c.end_line.ensures.ok
