use Rattle.off_writer.proofs.Common.{head_text, ring_words, ◌≡◌, ◌++◌, ◌∙◌, sym, ap, List, ℕ, err_from_is_err_and, flat_map, gathers-none, gathers-put, only-none, puts-then, puts-fails, puts-same, line_of}
use Rattle.std.specs.Prelude.{map}
use Rattle.off_writer.proofs.RowLemmas.{behind_head, points_of}
use Rattle.off_writer.proofs.ReadingBack.{reads_back}
use Rattle.off_writer.proofs.writing.put_mesh.Goals as goal

pub returns-in_err-put_points-clause-puts : goal.returns-in_err-put_points-clause-puts
returns-in_err-put_points-clause-puts g c =
    let mesh = c.args.faces.now in
    let failed = err_from_is_err_and c.from_residual.result c.from_residual.ensures.1 in
    let put : c.put_head.new.piece ≡ c.args.piece.now ++ head_text mesh =
    c.put_head.ensures ∙ ap (λ (p : List ℕ). p ++ head_text mesh) (sym c.requires) in
    puts-same (behind_head mesh)
    (puts-then (gathers-put (head_text mesh) (gathers-none c.args.sink.now c.args.piece.now) put)
    (only-none g.K.Sink.settled g.K.Sink.faults c.args.sink.now)
    (puts-same (ap (λ (t : List ℕ). t ++ flat_map line_of (map ring_words mesh.faces)) (points_of c.count.ensures.count))
    (puts-fails _ _ (flat_map line_of (map ring_words mesh.faces)) failed.1 c.in_err-put_points.ensures.failed
    c.in_err-put_points.ensures.only_writes)))

pub returns-in_err-put_points-clause-reads_back : goal.returns-in_err-put_points-clause-reads_back
returns-in_err-put_points-clause-reads_back g c = reads_back c.args.faces.now c.count.ensures.valid c.count.ensures.small

pub returns-clause-puts : goal.returns-clause-puts
returns-clause-puts g c =
    let mesh = c.args.faces.now in
    let put : c.put_head.new.piece ≡ c.args.piece.now ++ head_text mesh =
    c.put_head.ensures ∙ ap (λ (p : List ℕ). p ++ head_text mesh) (sym c.requires) in
    puts-same (behind_head mesh)
    (puts-then (gathers-put (head_text mesh) (gathers-none c.args.sink.now c.args.piece.now) put)
    (only-none g.K.Sink.settled g.K.Sink.faults c.args.sink.now)
    (puts-same (ap (λ (t : List ℕ). t ++ flat_map line_of (map ring_words mesh.faces)) (points_of c.count.ensures.count))
    (puts-then c.in_ok-put_points.ensures.ok c.in_ok-put_points.ensures.only_writes c.put_rings.ensures)))

pub returns-clause-reads_back : goal.returns-clause-reads_back
returns-clause-reads_back g c = reads_back c.args.faces.now c.count.ensures.valid c.count.ensures.small
