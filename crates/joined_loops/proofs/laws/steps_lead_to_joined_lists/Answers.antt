use Rattle.joined_loops.proofs.Stepping.{leads-loop, leads-joined}
use Rattle.joined_loops.proofs.laws.steps_lead_to_joined_lists.Goals as goal

pub returns : goal.returns
returns c = record {
  loops = λ places spokes end own. leads-loop places spokes end;
  joined = λ places spokes end own. leads-joined places spokes end;
}
