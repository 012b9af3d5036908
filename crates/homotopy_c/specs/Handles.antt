-- What a handle owns: the mesh where it points.
use Rattle.std.specs.Prelude.{◌≡◌, Option, Some, None}
use base.Fml.{Fml, ftrue, fsep, fex}
use denote.RawPtr.{Ptr, block_ptr, null_ptr}
use Rattle.std.specs.contracts.impls.GlobalAllocator.TheImpl.{ghosts}
use Rattle.std.specs.declared.alloc.Global.{Global}
use Rattle.std_alloc.specs.Box.Ownership.{box_owns}
use Rattle.surf_model.specs.FaceLists.{FaceList}
use Rattle.homotopy_arrays.specs.contracts.kept.KeptMesh.{the_row}

-- At null there is no mesh. Elsewhere a mesh that is kept lies there, in a block of the heap.
abbrev pub holds_at : Ptr → Option FaceList → Fml
holds_at null_ptr kept = fex (kept ≡ None) (λ _. ftrue)
holds_at (block_ptr b o) kept =
    fex Global (λ heap. fex FaceList (λ mesh.
    fsep (box_owns (ghosts.dealloc_token heap) the_row (block_ptr b o) mesh) (fex (kept ≡ Some mesh) (λ _. ftrue))))
