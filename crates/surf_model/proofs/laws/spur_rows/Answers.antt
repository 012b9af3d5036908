use Rattle.surf_model.proofs.ReplacementLemmas.{spur_in, spur_out}
use Rattle.surf_model.proofs.laws.spur_rows.Goals as goal

pub returns : goal.returns
returns c = record { goes_in = spur_in; goes_out = spur_out }
