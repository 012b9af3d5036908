use Rattle.surf_io.proofs.Common.{◌≡◌, map, slice_cmp, nat_cmp, deque_iter_rest, file_entry}
use Rattle.std.specs.FinMap as finite
use Rattle.surf_io.proofs.stored_files.StoredFiles.read.Given as goal

abbrev pub invariant-loop-file : goal.invariant-loop-file
invariant-loop-file l =
    finite.get l.self l.name ≡ finite.find (slice_cmp nat_cmp) l.name (map file_entry (deque_iter_rest l.file-iterator))
