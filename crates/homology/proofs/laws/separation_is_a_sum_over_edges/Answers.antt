use Rattle.homology.proofs.EdgeSumLemmas.{sum_over_edges}
use Rattle.homology.proofs.laws.separation_is_a_sum_over_edges.Goals as goal

pub returns : goal.returns
returns c = λ mesh table of_edge first second h v w. sum_over_edges mesh table of_edge h first second v w
