use Rattle.commands.proofs.Common.{file, too_large, MOST_BYTES, refl, ap, file_of}
use Rattle.std.proofs.Common.{Err}
use Rattle.commands.proofs.Checking.{long_file, told_stops}
use Rattle.commands.proofs.Running.{reads_faulty, tells_no_fault}
use Rattle.commands.proofs.inputs.read_file.Goals as goal

pub returns-in-Err-TooLarge : goal.returns-in-Err-TooLarge
returns-in-Err-TooLarge g c =
    let files = g.S.Shelf.held c.args.shelf.now in
    let stop = c.too_large.result in
    let long =
    long_file (file_of files c.args.name.now) MOST_BYTES (c.in-Err-TooLarge.ensures.too_large (ap Err c.in-Err-TooLarge.field-0-is)) in
    reads_faulty c.in-Err-TooLarge.ensures.only_reads (tells_no_fault (too_large c.args.input) stop c.too_large.ensures)
    (told_stops (too_large c.args.input) (file files c.args.name.now c.args.input) stop (long.0, long.1, long.2, refl) c.too_large.ensures)
