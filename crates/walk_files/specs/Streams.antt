-- A certificate that is read from a shelf in pieces.
use Rattle.std.specs.Prelude.{◌≡◌, ℕ, ◌+◌, ◌<◌, ◌≤◌, Bool, true, false, List, [], length, Option, Some, None, Result, Ok, Err}
use Rattle.text_scan.specs.Lines.{cut_lines, lines_from, end_line}
use Rattle.file_pieces.specs.Reading.{Reads, bytes_left}
use Rattle.file_pieces.specs.FileLines.{LinesReading}
use Rattle.surf_model.specs.declared.moves.Move.{Move}
use Rattle.labellings.specs.declared.denial.Denial.{Denial}
use Rattle.walk_files.specs.Certificates.{head_of_text}
use Rattle.walk_files.specs.Readers.{Certificate, is_list, is_denial, lines_to_come}
use Rattle.walk_files.specs.declared.certificate.CertHead.{CertHead}
use Rattle.walk_files.specs.declared.fault.CertFault.{CertFault}
use Rattle.walk_files.specs.declared.stream_end.StreamEnd.{StreamEnd}
use Rattle.walk_files.specs.declared.stream_end.StreamEnd.TheVariants.{Fault, TooLarge, Cert, OutOfMemory}

-- how far the file is read, its head, how many moves were given, whether the denial was given, and the refusal that the stream
-- keeps, if any
pub record Streamed : Type 0 where
  pub lines : LinesReading
  pub head : CertHead
  pub given : ℕ
  pub denied : Bool
  pub refusal : Option StreamEnd

-- the reader of a text that has given as much, and refused nothing
abbrev pub reader_at : Streamed → List ℕ → Certificate
reader_at stream text =
    record { text = text; head = stream.head; given = stream.given; denied = stream.denied; refusal = None }

-- whether a list of moves is read, or a denial
abbrev pub streams_list : Streamed → Bool
streams_list stream = is_list (reader_at stream [])

abbrev pub streams_denial : Streamed → Bool
streams_denial stream = is_denial (reader_at stream [])

-- the line where a text ends whose bytes `left` are left, the first of them in line `number`
abbrev pub end_behind : ℕ → List ℕ → ℕ
end_behind number left = number + length (cut_lines left)

-- The stream has read a first part of this file, its head, which is behind no line 1, and as many moves as were given. What is left are
-- the file's other lines; behind a denial none are told.
pub record IsIn (stream : Streamed) (file : List ℕ) : Type 0 where
  pub reads : Reads stream.lines.reading file
  pub head : head_of_text file ≡ Ok stream.head
  pub lines : stream.denied ≡ false
      → lines_from stream.lines.number (bytes_left stream.lines.reading file) ≡ lines_to_come (reader_at stream file)
  pub end : stream.denied ≡ false → end_behind stream.lines.number (bytes_left stream.lines.reading file) ≡ end_line file
  pub behind : 1 < stream.lines.number
  pub denial : streams_list stream ≡ true → stream.denied ≡ false

-- the stream belongs to this file: unless it has refused, it has read a first part of it
abbrev pub Belongs : Streamed → List ℕ → Type 0
Belongs stream file = stream.refusal ≡ None → IsIn stream file

-- What a stream answers where a reader of the whole text answers so: the same, or that a read failed, that the file is too large, or that
-- memory was wanted.
abbrev pub IsStreamAnswer : {A : Type 0} → Result A StreamEnd → Result A CertFault → Type 0
IsStreamAnswer (Ok answer) read = read ≡ Ok answer
IsStreamAnswer (Err (Cert fault)) read = read ≡ Err fault
IsStreamAnswer (Err Fault) read = Unit {0}
IsStreamAnswer (Err TooLarge) read = Unit {0}
IsStreamAnswer (Err OutOfMemory) read = Unit {0}

-- a fault of the certificate is answered only where the file was read to its end
abbrev pub IsReadOut : StreamEnd → LinesReading → Type 0
IsReadOut (Cert fault) lines = (lines.reading.ended ≡ true) × (lines.reading.kept ≡ [])
IsReadOut Fault lines = Unit {0}
IsReadOut TooLarge lines = Unit {0}
IsReadOut OutOfMemory lines = Unit {0}

-- and where the file is within the limit, with its number of bytes
abbrev pub IsWithin : StreamEnd → (size limit : ℕ) → Type 0
IsWithin (Cert fault) size limit = size ≤ limit
IsWithin Fault size limit = Unit {0}
IsWithin TooLarge size limit = Unit {0}
IsWithin OutOfMemory size limit = Unit {0}

-- the stream behind an answer, but for how far the file is read
abbrev pub after_move : Streamed → Result (Option Move) StreamEnd → Streamed
after_move stream (Ok (Some move)) = record stream { given = stream.given + 1 }
after_move stream (Ok None) = stream
after_move stream (Err end) = record stream { refusal = Some end }

abbrev pub behind_denial : Streamed → Result Denial StreamEnd → Streamed
behind_denial stream (Ok denial) = record stream { denied = true }
behind_denial stream (Err end) = record stream { refusal = Some end }
