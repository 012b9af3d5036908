use Rattle.surf_gen.proofs.Common.{ap, sym, ◌∙◌, range_with_len}
use Rattle.surf_gen.proofs.NumberLemmas.{numbers_rise, vertex_total}
use Rattle.surf_gen.proofs.laws.numbered_in_order.Goals as goal

pub returns : goal.returns
returns c genus grid chain =
    numbers_rise genus grid chain.some_points ∙ ap (range_with_len 0) (sym (vertex_total genus grid chain.some_points))
