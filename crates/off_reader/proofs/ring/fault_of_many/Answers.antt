use Rattle.off_reader.proofs.Common.{refl, is_natural}
use Rattle.off_reader.proofs.RingLemmas.{one_read, not_read, next_is_none, next_is_natural}
use Rattle.off_reader.proofs.ring.fault_of_many.Goals as goal

pub returns-in_default-clause-fault : goal.returns-in_default-clause-fault
returns-in_default-clause-fault c =
    rw (
      not_read is_natural c.args.cursor.now c.loop.cursor c.loop.counter c.args.sides c.loop-test.true
          (next_is_none c.loop.cursor.words c.in_default.ensures.value) c.loop.invariant,
      c.line-line.ensures,
    )
    refl

pub loop-preserved : goal.loop-preserved
loop-preserved c =
    one_read is_natural c.args.cursor.now c.loop.cursor c.natural.new.self c.loop.counter
    (next_is_natural c.loop.cursor.words _ c.in-Some.ensures.value) c.in-Some.ensures.place c.loop.invariant
