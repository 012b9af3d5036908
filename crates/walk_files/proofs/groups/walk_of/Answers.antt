use Rattle.walk_files.proofs.Common.{◌∙◌, inl, ap, sym, arith, length-map, numbers}
use Rattle.std.proofs.Common.{Ok}
use Rattle.surf_model.specs.declared.names.VertexName.{VertexName}
use Rattle.walk_files.proofs.PlainLines.{plain_long, plain_short}
use Rattle.walk_files.proofs.groups.walk_of.Goals as goal

pub returns-then-total-darts-gt-MOST_DARTS : goal.returns-then-total-darts-gt-MOST_DARTS
returns-then-total-darts-gt-MOST_DARTS c =
    let vertices = c.args.vertices.now in
    let count = length-map vertices (λ (v : VertexName). v.0) in
    rw c.number.ensures
    (inl
    (plain_long c.args.line.now c.args.total (numbers vertices) c.requires.words (omega (arith, c.requires.some, count))
    (omega (arith, c.if-total-darts-gt-MOST_DARTS.true, count))))

pub returns : goal.returns
returns c =
    let vertices = c.args.vertices.now in
    let count = length-map vertices (λ (v : VertexName). v.0) in
    inl
    (ap Ok c.in_ok-of.ensures
    ∙ sym
    (plain_short c.args.line.now c.args.total (numbers vertices) c.requires.words (omega (arith, c.requires.some, count))
    (omega (arith, c.requires.few, count)) (omega (arith, c.if-total-darts-gt-MOST_DARTS.false, count))))
