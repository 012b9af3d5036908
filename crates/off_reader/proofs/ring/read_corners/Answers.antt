use Rattle.off_reader.proofs.Common.{sym, ap, subst, ◌∙◌, ◌+◌, arith, PendingFace}
use Rattle.off_reader.proofs.RingLemmas.{IsCornersTo, corner_in, corner_out, missing_corner}
use Rattle.off_reader.proofs.ring.read_corners.Goals as goal

pub returns-in_default-clause-corners : goal.returns-in_default-clause-corners
returns-in_default-clause-corners c =
    missing_corner c.args.vertices c.args.sides c.loop.counter c.line-line.result c.args.cursor.now c.loop.cursor c.loop.in_range
    c.loop.faces.pending c.loop.faces.pending
    c.requires.polygon c.loop-test.true c.in_default.ensures.value c.line-line.ensures c.loop.invariant.0

pub loop-preserved-then-corner-from : goal.loop-preserved-then-corner-from
loop-preserved-then-corner-from c = (
  corner_out c.args.vertices c.args.cursor.now c.loop.cursor c.natural.new.self c.loop.counter c.in-Some.corner c.loop.in_range
      c.loop.faces.pending c.in-Some.ensures.value
      c.in-Some.ensures.place (omega (arith, c.if-corner-from.true, c.from.ensures)) c.loop.invariant.0,
  c.loop.invariant.1,
)

pub loop-preserved : goal.loop-preserved
loop-preserved c =
    let is = c.in_ok-push.ensures.ok in (
      subst (IsCornersTo c.args.vertices c.args.cursor.now (c.loop.counter + 1) c.natural.new.self c.loop.in_range)
          (sym (ap (λ (p : PendingFace). p.pending) is))
          (corner_in c.args.vertices c.args.cursor.now c.loop.cursor c.natural.new.self c.loop.counter c.in-Some.corner c.loop.in_range
          c.loop.faces.pending c.requires.vertices
          c.in-Some.ensures.value c.in-Some.ensures.place (omega (arith, c.if-corner-from.false, c.from.ensures)) c.loop.invariant.0),
      ap (λ (p : PendingFace). p.mesh) is ∙ c.loop.invariant.1,
    )
