use Rattle.surf_gen.proofs.Common.{sym}
use Rattle.surf_gen.proofs.NumberLemmas.{vertex_count}
use Rattle.surf_gen.proofs.chain.Chain.vertices.Goals as goal

pub returns : goal.returns
returns c = sym (vertex_count c.args.self.genus c.args.self.grid c.args.self.sized.some_tori c.args.self.sized.some_points)
