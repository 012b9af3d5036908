use Rattle.commands.proofs.Common.{file, meant, off_line, Mesh, meaning_of, inr, refl, err_from_is_err_and}
use Rattle.off_reader.specs.declared.off_fault.OffFault.TheVariants.{OutOfMemory}
use Rattle.commands.proofs.Checking.{stops_next, read_passes, read_stops}
use Rattle.commands.proofs.Running.{reads_faulty, reads_made, tells_no_fault}
use Rattle.commands.proofs.inputs.read_mesh.Goals as goal

pub returns-in_err-read_off : goal.returns-in_err-read_off
returns-in_err-read_off g c =
    let bytes = c.in_ok-bytes.bytes.items in
    let fault = c.in_err-read_off.field-0.0 in
    let p = err_from_is_err_and c.from_residual-in_err-read_off.result c.from_residual-in_err-read_off.ensures.1 in
    rw p.1
    (reads_faulty c.in_ok-bytes.ensures.only_reads (tells_no_fault (off_line fault) p.0 p.2)
    (stops_next (file (g.S.Shelf.held c.args.shelf.now) c.args.name.now Mesh) (λ bytes. meant off_line (meaning_of bytes)) bytes p.0
    c.in_ok-bytes.ensures.end
    (read_stops off_line (meaning_of bytes) fault OutOfMemory p.0 refl (rw c.deref.ensures.value at c.in_err-read_off.ensures) p.2)))

pub returns : goal.returns
returns g c =
    let bytes = c.in_ok-bytes.bytes.items in
    reads_made c.in_ok-bytes.ensures.only_reads
    (inr (
      bytes,
      c.in_ok-bytes.ensures.end,
      read_passes off_line (meaning_of bytes) c.in_ok-read_off.field-0 OutOfMemory (rw c.deref.ensures.value at c.in_ok-read_off.ensures),
    ))
