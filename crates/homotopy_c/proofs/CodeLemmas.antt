-- What is told of a fault is no answer.
use Rattle.homotopy_c.proofs.Common.{CertifyFault, Fault, WalkFault, Empty, Long, Pair, Loops, VerifyFault, told_certify, told_certificate, told_verify, told_fault, told_walks, walk_code, ◌<◌, true, false, arith, NotTwo, NoVertex, NoEdge, EndsDiffer}
use Rattle.walk_files.specs.declared.fault.CertFault.{CertFault}
use Rattle.walk_files.specs.declared.fault.CertFault.TheVariants as certificates
use Rattle.walk_files.specs.declared.loops.LoopFault.TheVariants as loops
use Rattle.commands.specs.declared.limits.OverLimit.TheVariants as limits
use Rattle.homotopy_arrays.specs.declared.certify.CertifyFault.TheVariants as certify
use Rattle.homotopy_arrays.specs.declared.fault.Fault.TheVariants as faults
use Rattle.homotopy_arrays.specs.declared.verify.VerifyFault.TheVariants as verify
use Rattle.homotopy_c.specs.declared.codes.TheConstants as codes

-- the codes of answers that stand in an outcome are at most that of acceptance, and those of faults are greater
pub fault_code : (fault : Fault) → codes.ACCEPTED < (told_fault fault).code
fault_code faults.ManyVertices = omega arith
fault_code faults.CornerCount = omega arith
fault_code faults.ManySides = omega arith
fault_code (faults.FewCorners face) = omega arith
fault_code (faults.NoVertex face) = omega arith
fault_code (faults.EqualNeighbours face) = omega arith
fault_code faults.NoFace = omega arith
fault_code (faults.EdgeSides low high sides) = omega arith
fault_code (faults.Pinched vertex) = omega arith
fault_code faults.NotOrientable = omega arith
fault_code faults.DoubleVertices = omega arith
fault_code faults.DoubleSides = omega arith
fault_code faults.CoverVertices = omega arith
fault_code faults.CoverSides = omega arith
fault_code faults.WalkCount = omega arith
fault_code faults.OutOfMemory = omega arith

-- and so are they than those of all answers on pairs
pub byte_code : (fault : WalkFault) → codes.NOT_FREELY_HOMOTOPIC < walk_code fault
byte_code (Empty walk) = omega arith
byte_code (Long walk) = omega arith
byte_code (Pair (NotTwo count)) = omega arith
byte_code (Pair (NoVertex walk place)) = omega arith
byte_code (Pair (NoEdge walk place)) = omega arith
byte_code (Pair (EndsDiffer true)) = omega arith
byte_code (Pair (EndsDiffer false)) = omega arith
byte_code (Loops (loops.NotTwo count)) = omega arith
byte_code (Loops (loops.NoVertex walk place)) = omega arith
byte_code (Loops (loops.NoEdge walk place)) = omega arith
byte_code (Loops (loops.NotClosed walk)) = omega arith

pub walks_code : (fault : WalkFault) → codes.ACCEPTED < (told_walks fault).code
walks_code (Empty walk) = omega arith
walks_code (Long walk) = omega arith
walks_code (Pair (NotTwo count)) = omega arith
walks_code (Pair (NoVertex walk place)) = omega arith
walks_code (Pair (NoEdge walk place)) = omega arith
walks_code (Pair (EndsDiffer true)) = omega arith
walks_code (Pair (EndsDiffer false)) = omega arith
walks_code (Loops (loops.NotTwo count)) = omega arith
walks_code (Loops (loops.NoVertex walk place)) = omega arith
walks_code (Loops (loops.NoEdge walk place)) = omega arith
walks_code (Loops (loops.NotClosed walk)) = omega arith

pub certify_code : (fault : CertifyFault) → codes.ACCEPTED < (told_certify fault).code
certify_code (certify.Mesh fault) = fault_code fault
certify_code (certify.Walks fault) = walks_code fault
certify_code (certify.Over (limits.Sides sides)) = omega arith
certify_code (certify.Over (limits.Darts darts)) = omega arith

pub certificate_code : (fault : CertFault) → codes.ACCEPTED < (told_certificate fault).code
certificate_code certificates.NoHead = omega arith
certificate_code (certificates.Bad line) = omega arith
certificate_code (certificates.Ended line) = omega arith
certificate_code (certificates.Extra line) = omega arith
certificate_code (certificates.Peak line) = omega arith
certificate_code certificates.OutOfMemory = omega arith

pub verify_code : (fault : VerifyFault) → codes.ACCEPTED < (told_verify fault).code
verify_code (verify.Mesh fault) = fault_code fault
verify_code (verify.Walks fault) = walks_code fault
verify_code verify.Long = omega arith
verify_code (verify.Certificate fault) = certificate_code fault
