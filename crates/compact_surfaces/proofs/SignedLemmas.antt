-- Why a surface with boundary has no signs, and that one with signs has them.
use Rattle.compact_surfaces.proofs.Common.{double_orientable, orientable_there, IsCompactSurface, IsOrientableCompactSurface, double_of, ◌≡◌, sym, subst, Option, Some, None, FaceList, HasFileSize, IsOrientable}
use Rattle.compact_surfaces.specs.Answered.{IsOwnFor}
use Rattle.compact_surfaces.specs.Signed.{IsOneSided}
use Rattle.compact_surfaces.specs.declared.covered_mesh.TabledMesh.{TabledMesh}

-- what answers for a mesh has no signs
pub one_sided : (mesh closed : FaceList) (own : Option TabledMesh) → IsCompactSurface mesh → IsOwnFor mesh closed own → HasFileSize closed
    → (IsOrientable closed → ⊥) → IsOneSided mesh
one_sided mesh closed None is own fits twisted = record {
  compact = is;
  fits = λ rim. absurd (own.0 rim);
  twisted = λ o. twisted (subst IsOrientable (sym own.1) o);
}
one_sided mesh closed (Some kept) is own fits twisted = record {
  compact = is;
  fits = λ rim. subst HasFileSize own.is_double fits;
  twisted = λ o. twisted (subst IsOrientable (sym own.is_double) (double_orientable mesh own.valid is.few_sides is.one_ring o));
}

-- the double has signs
pub signed_double : (mesh closed : FaceList) → IsCompactSurface mesh → closed ≡ double_of mesh → IsOrientable closed
    → IsOrientableCompactSurface mesh
signed_double mesh closed is same o =
    record { compact = is; orientable = orientable_there mesh (subst IsOrientable same o) }
