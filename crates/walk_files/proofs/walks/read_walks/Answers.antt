use Rattle.walk_files.proofs.Common.{drop, sym, ap, ◌∙◌, LinesLeft}
use Rattle.walk_files.proofs.HeaderLemmas.{next_behind, as_groups, as_plain}
use Rattle.walk_files.proofs.walks.read_walks.Goals as goal

pub returns-then-has_header : goal.returns-then-has_header
returns-then-has_header c =
    as_groups c.args.bytes.now c.next.new.self.lines _ (sym c.if-has_header.true ∙ c.has_header.ensures)
    (next_behind c.next.result c.new-lines.result c.next.new.self c.next.ensures
    ∙ ap (λ (l : LinesLeft). drop 1 l.lines) c.new-lines.ensures)
    c.read_groups.ensures

pub returns : goal.returns
returns c =
    as_plain c.args.bytes.now _ _ (sym c.if-has_header.false ∙ c.has_header.ensures) c.new.ensures.lines c.read_plain.ensures
