-- A fault, and what is kept, of small meshes. Each line is proved by computing.
use Rattle.std.specs.Prelude.{◌≡◌, [], refl}
use Rattle.surf_model.specs.FaceLists.{all_sides}
use Rattle.doubling.specs.Doubles.{double_of}
use Rattle.doubling.specs.Examples.{triangle}
use Rattle.compact_surfaces.specs.Faults.{IsConditionFault}
use Rattle.compact_surfaces.specs.Kept.{first_faces}
use Rattle.compact_surfaces.specs.declared.fault.CompactFault.TheVariants.{NoFace}

no_face : IsConditionFault (record { count = 3; faces = [] }) NoFace
no_face = refl

-- the first face of the double of a triangle, over the first three vertices, is the triangle
kept_triangle : first_faces 3 1 (double_of triangle) ≡ triangle
unfolding all_sides
kept_triangle = refl
