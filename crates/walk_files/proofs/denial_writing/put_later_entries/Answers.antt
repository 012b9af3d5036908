use Rattle.walk_files.proofs.Common.{drop, ap, subst, arith, length-drop, err_from_is_err_and, EachPut, puts-same, each-none, each-more, each-fails, each-all, spaced_number}
use Rattle.walk_files.proofs.DenialParts.{later_entry, below_next}
use Rattle.walk_files.proofs.denial_writing.put_later_entries.Goals as goal

pub loop-k-init : goal.loop-k-init
loop-k-init g c = (
  each-none c.args.sink.now c.args.piece.now spaced_number (drop 1 c.args.word.now),
  λ j some less. absurd (omega (arith, some, less)),
)

pub returns-in_err-put_behind-clause-puts : goal.returns-in_err-put_behind-clause-puts
returns-in_err-put_behind-clause-puts g c =
    let failed = err_from_is_err_and c.from_residual.result c.from_residual.ensures.1 in
    let here = later_entry c.args.word.now c.loop-k.k (omega (arith, c.loop-k.auto.k))
    (omega (arith, c.loop-k-test.true, c.len-k-end.ensures)) in
    let puts = puts-same (ap spaced_number c.at.ensures) c.in_err-put_behind.ensures in
    each-fails _ failed.1 c.loop-k.invariant.0 here puts.failed puts.only_writes

pub loop-k-preserved : goal.loop-k-preserved
loop-k-preserved g c =
    let here = later_entry c.args.word.now c.loop-k.k (omega (arith, c.loop-k.auto.k))
    (omega (arith, c.loop-k-test.true, c.len-k-end.ensures)) in
    let puts = puts-same (ap spaced_number c.at.ensures) c.in_ok-put_behind.ensures in (
      subst (EachPut g.K.Sink.written g.K.Sink.settled g.K.Sink.faults c.args.sink.now c.put_behind.new.sink c.args.piece.now
          c.put_behind.new.self
          spaced_number (drop 1 c.args.word.now)) (omega (arith, c.loop-k.auto.k))
          (each-more c.loop-k.invariant.0 here puts.ok puts.only_writes),
      λ j some less.
          below_next c.args.word.now c.loop-k.k c.at.result c.loop-k.invariant.1 c.at.ensures (omega (arith, c.at.type_inv)) j some less,
    )

pub returns-clause-puts : goal.returns-clause-puts
returns-clause-puts g c = each-all c.loop-k.invariant.0 (omega (
  arith,
  c.loop-k-test.false,
  c.len-k-end.ensures,
  length-drop 1 c.args.word.now,
))

pub returns-clause-numbers : goal.returns-clause-numbers
returns-clause-numbers g c = λ j some less. c.loop-k.invariant.1 j some (omega (arith, less, c.loop-k-test.false, c.len-k-end.ensures))
