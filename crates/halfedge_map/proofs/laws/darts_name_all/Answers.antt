use Rattle.halfedge_map.proofs.SystemLemmas.{names_all}
use Rattle.halfedge_map.proofs.laws.darts_name_all.Goals as goal

pub returns : goal.returns
returns c = names_all
