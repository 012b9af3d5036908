use Rattle.surf_io.proofs.Common.{◌≡◌, ◌-◌, drop, vec_len, ◌∙◌, ◌++◌, ap, length, take, ◌+◌, ◌≤◌, arith}
use Rattle.surf_io.proofs.Appending.{within_rest}
use Rattle.surf_io.proofs.Reading.{told_more, take-filled}
use Rattle.surf_io.proofs.read.read_whole.Goals as goal

pub loop-bytes-preserved : goal.loop-bytes-preserved
loop-bytes-preserved g c =
    let bound : c.in-Ok-read.count ≤ length c.read.new.into = c.in-Ok-read.ensures.bound in
    let started : c.loop-bytes.filled ≤ length c.deref_mut.result.now = omega (arith, c.in-Ok.ensures.room, c.deref_mut.ensures.len) in
    let in_piece : c.in-Ok-read.count ≤ length
    (take (length c.deref_mut.result.now - c.loop-bytes.filled) (drop c.loop-bytes.filled c.deref_mut.result.now)) =
    rw c.read.auto.into at bound in
    let within : c.loop-bytes.filled + c.in-Ok-read.count ≤ vec_len c.make_room.new.bytes =
    rw c.deref_mut.ensures.len at (within_rest c.deref_mut.result.now _ _ started in_piece) in
    let kept : take c.loop-bytes.filled c.deref_mut.result.now ≡ take c.loop-bytes.filled c.loop-bytes.bytes.items =
    ap (take c.loop-bytes.filled) c.deref_mut.ensures.value ∙ c.in-Ok.ensures.kept in (
      within,
      omega arith,
      c.in-Ok.ensures.within,
      told_more _ c.loop-bytes.bytes.items c.read.new.into _ _ _ bound
          (take-filled _ c.read.new.into _ _ _ _ _ started bound within ∙ ap (λ xs. xs ++ take c.in-Ok-read.count c.read.new.into) kept)
          (rw c.loop-bytes.invariant.4 at c.in-Ok-read.ensures.file)
          c.loop-bytes.invariant.3,
      c.read.ensures.same_files ∙ c.loop-bytes.invariant.4,
      omega (arith, c.loop-bytes.invariant.5, c.read.ensures.never_falls),
    )
