use Rattle.homotopy_c.proofs.Common.{arith}
use Rattle.homotopy_c.proofs.ClassTellings.{put_classes}
use Rattle.homotopy_c.proofs.classes.classes_kept.Goals as goal

pub returns-in-Ok-clause-told : goal.returns-in-Ok-clause-told
returns-in-Ok-clause-told c = record {
  room = λ room.
      put_classes c.args.kept.now c.args.walk_sizes.now c.args.walk_vertices.now c.args.classes.now c.put_items.new.room
      c.deref.result.now c.in-Ok.given c.coded.result c.put_items.result c.in-Ok.ensures.ends c.deref.ensures.value c.coded.ensures
      c.put_items.ensures room;
  short = λ less. absurd (omega (arith, less, c.if-classes-wanted.false));
}
