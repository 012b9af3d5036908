use Rattle.homology_files.proofs.RoundTrip.{reads_back, reads_back_answered}
use Rattle.homology_files.proofs.laws.written_certificates_read_back.Goals as goal

pub returns-clause-alone : goal.returns-clause-alone
returns-clause-alone c = reads_back

pub returns-clause-answered : goal.returns-clause-answered
returns-clause-answered c = reads_back_answered
