-- A handle holds nothing that is of one thread alone.
use Rattle.homotopy_c.proofs.Common.{the_row as Kept, holds_at, Option, RawPtr, lone, Ptr, block_ptr, null_ptr, shape, fields, to, exits_of}
use Rattle.homotopy_c.specs.contracts.handle.MeshHandle.{the_row, the_type}
use Rattle.std.below.std_heap.proofs.GlobalAllocator.TheSendSync.{the_frees}
use Rattle.std_alloc.proofs.SendSync.{quiet, lies}
use base.Shift.{Keyless}
use denote.Param.Send.{IsSend, owning_send, struct_send, sendable}
use mir.Raw.{raw}
use Rattle.homotopy_arrays.proofs.kept.KeptMesh.TheSendSync as kept_mesh

held : (p : Ptr) (kept : Option Kept.Denot) → Keyless (holds_at p kept)
held null_ptr kept = λ _. tt
held (block_ptr b o) kept = λ heap x. (
  (lies Kept kept_mesh.the_send (block_ptr b o) x, the_frees.frees heap (raw (lone Kept.mir)) (block_ptr b o)),
  λ _. tt,
)

pub send : IsSend the_row
send = let pointer : IsSend RawPtr = search sendable in
    owning_send the_type (pointer, tt) (λ d. held d.at d.kept)
    (λ k. quiet (to the_type) (exits_of k (fields the_type)) ((struct_send (shape the_type) (pointer, tt)).leaving k))
