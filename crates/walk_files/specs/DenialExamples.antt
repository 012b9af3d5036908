-- Denials at work. Each line is proved by computing.
use Rattle.std.specs.Prelude.{◌≡◌, ℕ, true, List, [], ◌∷◌, map, Option, Some, None, Result, Ok, Err, codes, refl, pos, negsuc}
use Rattle.std.specs.Fmt.{digits}
use Rattle.labellings.specs.Examples.{kept}
use Rattle.text_scan.specs.Lines.{unmarked, cut_lines, words, lines_from}
use Rattle.text_scan.specs.Numbers.{is_natural, value_of}
use Rattle.turn_words.specs.declared.word.Word.{Word}
use Rattle.turn_words.specs.declared.word.Word.TheVariants.{Turns, Flat}
use Rattle.labellings.specs.Labellings.{FaceLabels}
use Rattle.labellings.specs.declared.denial.Denial.{Denial}
use Rattle.walk_files.specs.Denials.{denial_of_text}
use Rattle.walk_files.specs.DenialTexts.{denial_text}
use Rattle.walk_files.specs.Examples.{text}
use Rattle.walk_files.specs.declared.fault.CertFault.{CertFault}
use Rattle.walk_files.specs.declared.fault.CertFault.TheVariants.{Bad, Ended, Extra}

-- what a text of these lines is
abbrev read : List (List ℕ) → Option (Result Denial CertFault)
read lines = denial_of_text (text lines)

-- a flipped face with these labels
abbrev pub flipped_face : List ℕ → FaceLabels
flipped_face labels = record { flipped = true; labels = labels }

-- a denial of these parts
abbrev denial : ℕ → List FaceLabels → List ℕ → Word → Word → Denial
denial degree faces places first second =
    record { labelling = record { degree = degree; faces = faces; places = places }; first = first; second = second }

-- the denial of the torus of seven vertices
abbrev torus : Denial
torus =
    denial 4
    (kept (0 ∷ 0 ∷ 0 ∷ []) ∷ kept (3 ∷ 0 ∷ 2 ∷ []) ∷ kept (0 ∷ 0 ∷ 2 ∷ []) ∷ kept (0 ∷ 1 ∷ 1 ∷ [])
    ∷ kept (2 ∷ 2 ∷ 2 ∷ []) ∷ kept (2 ∷ 1 ∷ 2 ∷ []) ∷ kept (0 ∷ 0 ∷ 0 ∷ []) ∷ kept (0 ∷ 0 ∷ 0 ∷ [])
    ∷ kept (0 ∷ 1 ∷ 0 ∷ []) ∷ kept (0 ∷ 2 ∷ 2 ∷ []) ∷ kept (0 ∷ 1 ∷ 2 ∷ []) ∷ kept (1 ∷ 1 ∷ 1 ∷ [])
    ∷ kept (2 ∷ 2 ∷ 2 ∷ []) ∷ kept (0 ∷ 0 ∷ 3 ∷ []) ∷ [])
    (0 ∷ 1 ∷ 2 ∷ 3 ∷ []) (Flat (negsuc 0) (negsuc 0)) (Flat (pos 0) (pos 0))

abbrev torus_lines : List (List ℕ)
torus_lines =
    codes "LABELS 4" ∷ codes "+ 0 0 0" ∷ codes "+ 3 0 2" ∷ codes "+ 0 0 2" ∷ codes "+ 0 1 1" ∷ codes "+ 2 2 2"
    ∷ codes "+ 2 1 2" ∷ codes "+ 0 0 0" ∷ codes "+ 0 0 0" ∷ codes "+ 0 1 0" ∷ codes "+ 0 2 2" ∷ codes "+ 0 1 2"
    ∷ codes "+ 1 1 1" ∷ codes "+ 2 2 2" ∷ codes "+ 0 0 3" ∷ codes "places 0 1 2 3" ∷ codes "-1 -1" ∷ codes "0 0" ∷ []

torus_read : read torus_lines ≡ Some (Ok torus)
unfolding unmarked cut_lines words lines_from is_natural value_of
torus_read = refl

torus_written : denial_text torus ≡ text torus_lines
unfolding digits
torus_written = refl

-- the denial of the surface of genus 2, behind the answer `different`
abbrev double : Denial
double =
    denial 8
    (kept (3 ∷ 4 ∷ 2 ∷ []) ∷ kept (4 ∷ 4 ∷ 2 ∷ []) ∷ kept (4 ∷ 1 ∷ 1 ∷ []) ∷ kept (2 ∷ 2 ∷ 2 ∷ [])
    ∷ kept (2 ∷ 1 ∷ 2 ∷ []) ∷ kept (4 ∷ 4 ∷ 4 ∷ []) ∷ kept (4 ∷ 4 ∷ 4 ∷ []) ∷ kept (0 ∷ 1 ∷ 4 ∷ [])
    ∷ kept (4 ∷ 2 ∷ 2 ∷ []) ∷ kept (4 ∷ 1 ∷ 2 ∷ []) ∷ kept (1 ∷ 1 ∷ 1 ∷ []) ∷ kept (2 ∷ 2 ∷ 2 ∷ [])
    ∷ kept (4 ∷ 4 ∷ 3 ∷ []) ∷ kept (5 ∷ 6 ∷ 4 ∷ []) ∷ kept (4 ∷ 6 ∷ 4 ∷ []) ∷ kept (4 ∷ 7 ∷ 7 ∷ [])
    ∷ kept (6 ∷ 6 ∷ 6 ∷ []) ∷ kept (6 ∷ 6 ∷ 7 ∷ []) ∷ kept (4 ∷ 4 ∷ 4 ∷ []) ∷ kept (4 ∷ 4 ∷ 4 ∷ [])
    ∷ kept (0 ∷ 4 ∷ 7 ∷ []) ∷ kept (4 ∷ 6 ∷ 6 ∷ []) ∷ kept (4 ∷ 6 ∷ 7 ∷ []) ∷ kept (7 ∷ 7 ∷ 7 ∷ [])
    ∷ kept (6 ∷ 6 ∷ 6 ∷ []) ∷ kept (4 ∷ 5 ∷ 4 ∷ []) ∷ [])
    (0 ∷ 5 ∷ 6 ∷ 7 ∷ 4 ∷ 1 ∷ 2 ∷ 3 ∷ []) (Turns (0 ∷ 1 ∷ [])) (Turns (4 ∷ 5 ∷ []))

double_read :
    read
    (codes "different" ∷ codes "LABELS 8" ∷ codes "+ 3 4 2" ∷ codes "+ 4 4 2" ∷ codes "+ 4 1 1" ∷ codes "+ 2 2 2"
    ∷ codes "+ 2 1 2" ∷ codes "+ 4 4 4" ∷ codes "+ 4 4 4" ∷ codes "+ 0 1 4" ∷ codes "+ 4 2 2" ∷ codes "+ 4 1 2"
    ∷ codes "+ 1 1 1" ∷ codes "+ 2 2 2" ∷ codes "+ 4 4 3" ∷ codes "+ 5 6 4" ∷ codes "+ 4 6 4" ∷ codes "+ 4 7 7"
    ∷ codes "+ 6 6 6" ∷ codes "+ 6 6 7" ∷ codes "+ 4 4 4" ∷ codes "+ 4 4 4" ∷ codes "+ 0 4 7" ∷ codes "+ 4 6 6"
    ∷ codes "+ 4 6 7" ∷ codes "+ 7 7 7" ∷ codes "+ 6 6 6" ∷ codes "+ 4 5 4" ∷ codes "places 0 5 6 7 4 1 2 3" ∷ codes "0 1"
    ∷ codes "4 5" ∷ [])
    ≡ Some (Ok double)
unfolding unmarked cut_lines words lines_from is_natural value_of
double_read = refl

-- A minus zero is a zero, and a point ends at 64 bits. No faces, a face with no labels, no places and no degree: nothing is asked of
-- these here.
abbrev good : List (List (List ℕ) × Denial)
good = (
  codes "LABELS 4" ∷ codes "+ 0 0" ∷ codes "places 0 1 2 3" ∷ codes "-0 00" ∷ codes "0 0" ∷ [],
  denial 4 (kept (0 ∷ 0 ∷ []) ∷ []) (0 ∷ 1 ∷ 2 ∷ 3 ∷ []) (Flat (pos 0) (pos 0)) (Flat (pos 0) (pos 0)),
)
    ∷ (
      codes "LABELS 4" ∷ codes "places" ∷ codes "-9223372036854775808 9223372036854775807" ∷ codes "0 0" ∷ [],
      denial 4 [] [] (Flat (negsuc 9223372036854775807) (pos 9223372036854775807)) (Flat (pos 0) (pos 0)),
    )
    ∷ (
      codes "LABELS 0" ∷ codes "-" ∷ codes "places" ∷ codes "empty" ∷ codes "7" ∷ [],
      denial 0 (flipped_face [] ∷ []) [] (Turns []) (Turns (7 ∷ [])),
    )
    ∷ (
      codes "LABELS 9" ∷ codes "places 8" ∷ codes "0" ∷ codes "empty" ∷ [],
      denial 9 [] (8 ∷ []) (Turns (0 ∷ [])) (Turns []),
    ) ∷ []

good_read : map (λ p. read p.0) good ≡ map (λ p. Some (Ok p.1)) good
unfolding unmarked cut_lines words lines_from is_natural value_of
good_read = refl

-- What is wrong with a line of a word, of places or of a face, or with the head; and texts that end too early, or go on. The line of the
-- places ends the faces, so that a second one is no word.
abbrev faulty : List (List (List ℕ) × CertFault)
faulty =
    (codes "LABELS 4" ∷ codes "+ 0 0" ∷ codes "places 0 1 2 3" ∷ codes "0 9223372036854775808" ∷ codes "0 0" ∷ [], Bad 4)
    ∷ (codes "LABELS 4" ∷ codes "+ 0 0" ∷ codes "places 0 1 2 3" ∷ codes "0 0" ∷ codes "1 2 3" ∷ [], Bad 5)
    ∷ (codes "LABELS 4" ∷ codes "+ 0 0" ∷ codes "places 0 1 2 3" ∷ codes "empty" ∷ codes "0 0" ∷ [], Bad 4)
    ∷ (codes "LABELS 8" ∷ codes "+ 0 0" ∷ codes "places 0 1 2 3" ∷ codes "0 -1" ∷ codes "0 0" ∷ [], Bad 4)
    ∷ (codes "LABELS 8" ∷ codes "places 0" ∷ codes "places 0" ∷ codes "empty" ∷ [], Bad 3)
    ∷ (codes "LABELS 8" ∷ codes "places 0" ∷ codes "+ 0" ∷ codes "empty" ∷ [], Bad 3)
    ∷ (codes "LABELS 8" ∷ codes "0 0 0" ∷ codes "places 0" ∷ [], Bad 2)
    ∷ (codes "LABELS 8" ∷ codes "+ 4294967295" ∷ codes "+ 4294967296" ∷ [], Bad 3)
    ∷ (codes "LABELS 8" ∷ codes "places 0 x" ∷ [], Bad 2)
    ∷ (codes "LABELS 4294967296" ∷ [], Bad 1)
    ∷ (codes "LABELS 8" ∷ codes "+ 0" ∷ [], Ended 3)
    ∷ (codes "different" ∷ codes "LABELS 8" ∷ [], Ended 3)
    ∷ (codes "LABELS 8" ∷ codes "places" ∷ [], Ended 3)
    ∷ (codes "LABELS 8" ∷ codes "places" ∷ codes "empty" ∷ [], Ended 4)
    ∷ (codes "LABELS 8" ∷ codes "places" ∷ codes "empty" ∷ codes "0" ∷ [] ∷ codes "x" ∷ [], Extra 6)
    ∷ (codes "LABELS 8" ∷ codes "places" ∷ codes "empty" ∷ codes "empty 0" ∷ codes "x" ∷ [], Bad 4) ∷ []

faulty_read : map (λ p. read p.0) faulty ≡ map (λ p. Some (Err p.1)) faulty
unfolding unmarked cut_lines words lines_from is_natural value_of
faulty_read = refl

list_of_moves : read (codes "MOVES 0 2" ∷ []) ≡ None
unfolding unmarked cut_lines words lines_from is_natural value_of
list_of_moves = refl
