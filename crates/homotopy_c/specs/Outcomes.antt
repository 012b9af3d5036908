-- The codes of what is answered, and of what is wrong, with the numbers that belong to them.
use Rattle.std.specs.Prelude.{ℕ, ◌+◌, true, false, [], ◌∷◌, slice_index}
use Rattle.walk_files.specs.declared.loops.LoopFault.TheVariants as loops
use Rattle.walk_files.specs.declared.pair.PairFault.TheVariants.{NotTwo, NoVertex, NoEdge, EndsDiffer}
use Rattle.homotopy_arrays.specs.declared.classes.NoClasses.{NoClasses}
use Rattle.homotopy_arrays.specs.declared.classes.NoClasses.TheVariants as none
use Rattle.homotopy_arrays.specs.declared.decide.PairAnswer.{PairAnswer}
use Rattle.homotopy_arrays.specs.declared.decide.PairAnswer.TheVariants.{Homotopic, Different, Faulty}
use Rattle.homotopy_arrays.specs.declared.fault.Fault.{Fault}
use Rattle.homotopy_arrays.specs.declared.fault.Fault.TheVariants as faults
use Rattle.homotopy_arrays.specs.declared.loops.LoopAnswer.{LoopAnswer}
use Rattle.homotopy_arrays.specs.declared.loops.LoopAnswer.TheVariants as free
use Rattle.homotopy_arrays.specs.declared.pair.WalkFault.{WalkFault}
use Rattle.homotopy_arrays.specs.declared.pair.WalkFault.TheVariants.{Empty, Long, Pair, Loops}
use Rattle.homotopy_c.specs.declared.codes.TheConstants as codes
use Rattle.homotopy_c.specs.declared.outcome.Outcome.{Outcome}

abbrev pub coded : (code first second third : ℕ) → Outcome
coded code first second third = record { code = code; numbers = first ∷ second ∷ third ∷ [] }

-- what is answered, with no number
abbrev pub done : Outcome
done = coded codes.DONE 0 0 0

-- the caller's array has too little room, and this length is wanted
abbrev pub short_room : ℕ → Outcome
short_room wanted = coded codes.SHORT_ROOM wanted 0 0

-- the handle holds no mesh
abbrev pub no_mesh : Outcome
no_mesh = coded codes.NO_MESH 0 0 0

-- what is wrong
abbrev pub told_fault : Fault → Outcome
told_fault faults.ManyVertices = coded codes.MANY_VERTICES 0 0 0
told_fault faults.CornerCount = coded codes.CORNER_COUNT 0 0 0
told_fault faults.ManySides = coded codes.MANY_SIDES 0 0 0
told_fault (faults.FewCorners face) = coded codes.FEW_CORNERS face.0 0 0
told_fault (faults.NoVertex face) = coded codes.CORNER_RANGE face.0 0 0
told_fault (faults.EqualNeighbours face) = coded codes.EQUAL_NEIGHBOURS face.0 0 0
told_fault faults.NoFace = coded codes.NO_FACE 0 0 0
told_fault (faults.EdgeSides low high sides) = coded codes.EDGE_SIDES low.0 high.0 sides
told_fault (faults.Pinched vertex) = coded codes.PINCHED vertex.0 0 0
told_fault faults.NotOrientable = coded codes.NOT_ORIENTABLE 0 0 0
told_fault faults.DoubleVertices = coded codes.DOUBLE_VERTICES 0 0 0
told_fault faults.DoubleSides = coded codes.DOUBLE_SIDES 0 0 0
told_fault faults.CoverVertices = coded codes.COVER_VERTICES 0 0 0
told_fault faults.CoverSides = coded codes.COVER_SIDES 0 0 0
told_fault faults.WalkCount = coded codes.WALK_COUNT 0 0 0
told_fault faults.OutOfMemory = coded codes.NO_MEMORY 0 0 0

-- what is wrong with two walks
abbrev pub walk_code : WalkFault → ℕ
walk_code (Empty walk) = codes.EMPTY_WALK
walk_code (Long walk) = codes.LONG_WALK
walk_code (Pair (NotTwo count)) = codes.WALK_COUNT
walk_code (Pair (NoVertex walk place)) = codes.NO_VERTEX
walk_code (Pair (NoEdge walk place)) = codes.NO_EDGE
walk_code (Pair (EndsDiffer true)) = codes.STARTS_DIFFER
walk_code (Pair (EndsDiffer false)) = codes.ENDS_DIFFER
walk_code (Loops (loops.NotTwo count)) = codes.WALK_COUNT
walk_code (Loops (loops.NoVertex walk place)) = codes.NO_VERTEX
walk_code (Loops (loops.NoEdge walk place)) = codes.NO_EDGE
walk_code (Loops (loops.NotClosed walk)) = codes.OPEN_WALK

-- the same with its numbers; walks are counted from 1, and places from 0
abbrev pub told_walks : WalkFault → Outcome
told_walks (Empty walk) = coded codes.EMPTY_WALK walk 0 0
told_walks (Long walk) = coded codes.LONG_WALK walk 0 0
told_walks (Pair (NotTwo count)) = coded codes.WALK_COUNT 0 0 0
told_walks (Pair (NoVertex walk place)) = coded codes.NO_VERTEX walk place 0
told_walks (Pair (NoEdge walk place)) = coded codes.NO_EDGE walk place 0
told_walks (Pair (EndsDiffer true)) = coded codes.STARTS_DIFFER 0 0 0
told_walks (Pair (EndsDiffer false)) = coded codes.ENDS_DIFFER 0 0 0
told_walks (Loops (loops.NotTwo count)) = coded codes.WALK_COUNT 0 0 0
told_walks (Loops (loops.NoVertex walk place)) = coded codes.NO_VERTEX walk place 0
told_walks (Loops (loops.NoEdge walk place)) = coded codes.NO_EDGE walk place 0
told_walks (Loops (loops.NotClosed walk)) = coded codes.OPEN_WALK walk 0 0

-- the same of the walk with this number
abbrev pub told_walk : ℕ → WalkFault → Outcome
told_walk number fault =
    record { code = (told_walks fault).code; numbers = number ∷ slice_index (told_walks fault).numbers 1 ∷ 0 ∷ [] }

-- why walks have no classes
abbrev pub told_no_classes : NoClasses → Outcome
told_no_classes none.Count = coded codes.WALK_COUNT 0 0 0
told_no_classes (none.Walk place fault) = told_walk (place + 1) fault
told_no_classes none.OutOfMemory = coded codes.NO_MEMORY 0 0 0

-- the answer on a pair
abbrev pub byte_of : PairAnswer → ℕ
byte_of Homotopic = codes.HOMOTOPIC
byte_of Different = codes.DIFFERENT
byte_of (Faulty fault) = walk_code fault

-- the answer on a pair of closed walks
abbrev pub loop_byte : LoopAnswer → ℕ
loop_byte free.Freely = codes.FREELY_HOMOTOPIC
loop_byte free.NotFreely = codes.NOT_FREELY_HOMOTOPIC
loop_byte (free.Faulty fault) = walk_code fault
