use Rattle.program.proofs.Printed.{printed_on_sphere_accepted}
use Rattle.program.proofs.laws.printed_on_spheres_is_accepted.Goals as goal

pub returns : goal.returns
returns c = printed_on_sphere_accepted
