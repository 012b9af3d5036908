use Rattle.off_reader.proofs.Common.{sym, inl, ◌∙◌, err_from_is_err_and}
use Rattle.off_reader.proofs.MeshLemmas.{header_fault, points_fault, by_faces}
use Rattle.off_reader.proofs.mesh.read_off.Goals as goal

pub returns-in_err-header : goal.returns-in_err-header
returns-in_err-header c =
    let p = err_from_is_err_and c.from_residual.result c.from_residual.ensures.1 in
    rw (p.1, p.2) (inl (sym (header_fault c.args.bytes.now _ c.in_err-header.field-0.0 c.new-cursor.ensures.lines
    c.in_err-header.ensures.header)))

pub returns-in_err-pass_points : goal.returns-in_err-pass_points
returns-in_err-pass_points c =
    let p = err_from_is_err_and c.from_residual-in_err-pass_points.result c.from_residual-in_err-pass_points.ensures.1 in
    rw (p.1, p.2)
    (inl (sym (points_fault c.args.bytes.now _ _ _ c.in_ok-header.header.faces c.read_header.new.cursor c.in_err-pass_points.field-0.0
    c.new-cursor.ensures.lines c.in_ok-header.ensures.header
    (c.in_ok-header.ensures.end ∙ c.new-cursor.ensures.end) c.in_err-pass_points.ensures.points)))

pub returns : goal.returns
returns c =
    by_faces c.args.bytes.now _ c.in_ok-pass_points.ensures.points.0 _ _ _ c.read_header.new.cursor c.pass_points.new.cursor
    c.read_faces.result c.new-cursor.ensures.lines
    c.in_ok-header.ensures.header (c.in_ok-header.ensures.end ∙ c.new-cursor.ensures.end) c.in_ok-pass_points.ensures.points.1
    (c.in_ok-pass_points.ensures.end ∙ c.in_ok-header.ensures.end ∙ c.new-cursor.ensures.end) c.read_faces.ensures
