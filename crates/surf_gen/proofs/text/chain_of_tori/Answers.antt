use Rattle.surf_gen.proofs.Common.{◌∙◌, ap, ◌++◌, ◌∷◌, [], codes}
use Rattle.surf_gen.proofs.TextLemmas.{whole_text}
use Rattle.surf_gen.proofs.text.chain_of_tori.Goals as goal

pub returns : goal.returns
returns c =
    let keyword = codes "OFF" ++ 10 ∷ [] in
    whole_text c.args.genus c.args.grid c.vertices-vertices.result c.cells-cells.result
    c.extend_from_slice.new.self.items c.put_line.new.text.items c.put_part.new.text.items c.put_part-2.new.text.items
    c.vertices-vertices.ensures c.cells-cells.ensures
    (c.in_ok-extend_from_slice.ensures.items ∙ ap (λ text. text ++ keyword) c.in_ok-text.ensures.items)
    c.in_ok-put_line.ensures c.in_ok-put_part.ensures c.in_ok-put_part-2.ensures
