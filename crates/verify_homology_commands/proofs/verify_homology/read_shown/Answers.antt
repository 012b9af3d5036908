use Rattle.verify_homology_commands.proofs.Common.{next_end, reads_ended, file, meant, cert_of_text, fault_line}
use Rattle.commands.specs.declared.refusal.Input.TheVariants.{Certificate}
use Rattle.verify_homology_commands.proofs.verify_homology.read_shown.Goals as goal

pub returns : goal.returns
returns g c =
    reads_ended c.in_ok-bytes.ensures.only_reads c.certificate_of_bytes.ensures.no_fault
    (next_end (file (g.S.Shelf.held c.args.shelf.now) c.args.name.now Certificate) (λ bytes. meant fault_line (cert_of_text bytes))
    c.in_ok-bytes.bytes.items c.certificate_of_bytes.result c.in_ok-bytes.ensures.end
    (rw c.deref.ensures.value at c.certificate_of_bytes.ensures.end))
