use Rattle.commands.proofs.Common.{file, meant, numbers_line, Walks, walk_text_of}
use Rattle.commands.proofs.Checking.{next_end}
use Rattle.commands.proofs.Running.{reads_ended}
use Rattle.commands.proofs.inputs.read_list.Goals as goal

pub returns : goal.returns
returns g c =
    reads_ended c.in_ok-bytes.ensures.only_reads c.walks_of_bytes.ensures.no_fault
    (next_end (file (g.S.Shelf.held c.args.shelf.now) c.args.name.now Walks) (λ bytes. meant (numbers_line Walks) (walk_text_of bytes))
    c.in_ok-bytes.bytes.items c.walks_of_bytes.result c.in_ok-bytes.ensures.end (rw c.deref.ensures.value at c.walks_of_bytes.ensures.end))
