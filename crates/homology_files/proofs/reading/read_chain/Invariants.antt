use Rattle.homology_files.proofs.Common.{face_number_of, is_face_above, numbers_in, ◌≡◌, ◌-◌, [], length, lines_left}
use Rattle.homology_files.proofs.reading.read_chain.Given as goal

-- the lines left, behind the numbers so far, mean what all lines do
abbrev pub invariant-loop : goal.invariant-loop
invariant-loop l =
    record {
      meaning :
          numbers_in face_number_of is_face_above l.fn.cursor.end_line l.fn.count [] (lines_left l.fn.cursor)
          ≡ numbers_in face_number_of is_face_above l.fn.cursor.end_line (l.fn.count - l.counter) l.numbers (lines_left l.cursor);
      count : length l.numbers ≡ l.counter;
      end : l.cursor.end_line ≡ l.fn.cursor.end_line;
    }
