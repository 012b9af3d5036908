-- Why a certificate is not read on.
use Rattle.file_pieces.specs.declared.fault.PieceFault.{PieceFault}
use Rattle.file_pieces.specs.declared.fault.PieceFault.TheVariants.{Failed, TooLarge as TooManyBytes}
use Rattle.file_pieces.specs.declared.fault.GatherFault.{GatherFault}
use Rattle.file_pieces.specs.declared.fault.GatherFault.TheVariants.{Piece, OutOfMemory as NoRoom}
use Rattle.walk_files.specs.declared.fault.CertFault.{CertFault}
use Rattle.walk_files.specs.declared.fault.CertFault.TheVariants as faults
use Rattle.walk_files.specs.declared.stream_end.StreamEnd.{StreamEnd}
use Rattle.walk_files.specs.declared.stream_end.StreamEnd.TheVariants.{Fault, TooLarge, Cert, OutOfMemory}

-- what a fault of a piece is to who reads a certificate
abbrev pub end_of_piece : PieceFault → StreamEnd
end_of_piece Failed = Fault
end_of_piece TooManyBytes = TooLarge

abbrev pub end_of_gathering : GatherFault → StreamEnd
end_of_gathering (Piece fault) = end_of_piece fault
end_of_gathering NoRoom = OutOfMemory

-- what a fault of a text is to who reads it from a shelf; want of memory is no fault of it
abbrev pub end_of_text : CertFault → StreamEnd
end_of_text faults.NoHead = Cert faults.NoHead
end_of_text (faults.Bad line) = Cert (faults.Bad line)
end_of_text (faults.Ended line) = Cert (faults.Ended line)
end_of_text (faults.Extra line) = Cert (faults.Extra line)
end_of_text (faults.Peak line) = Cert (faults.Peak line)
end_of_text faults.OutOfMemory = OutOfMemory
