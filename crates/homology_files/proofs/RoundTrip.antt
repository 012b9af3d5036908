-- A certificate that was written is read again.
use Rattle.homology_files.proofs.Common.{AreFaceNumbers, AreEdgeNumbers, EdgeNumber, FaceNumber, answer_words, homology_head_among, behind_homology_head, bounded_number_of, face_number_of, edge_number_of, is_face_above, is_edge_before, is_edge_above, numbers_in, homology_then, cert_in, cert_of_text, kind_in, face_number_words, edge_words, cert_lines, cert_text, FaceFits, EdgeFits, FitsHomologyFormat, Kind, OfFaces, OfEdges, ◌≡◌, ℕ, ℤ, ◌+◌, ◌-◌, ◌^◌, ◌<◌, ◌≤◌, Bool, true, List, [], ◌∷◌, ◌++◌, length, map, refl, ap, sym, ◌∙◌, subst, arith, pos, negsuc, append_assoc, length-append, le-leb, lt-ltb, append-nil, All-head, All-tail, All-cons, All-map, list_all-from_AllPass, list_all, Option, Some, Result, Ok, decimal, codes, All, AllPairs, nat_lt, unsigned_abs, Line, unmarked, lines_from, full_lines, end_line, line_of}
use Rattle.homology.specs.declared.certificate.HomologyCert.{HomologyCert}
use Rattle.homology.specs.declared.certificate.HomologyCert.TheVariants.{Chain, Cocycle}
use Rattle.homology.specs.declared.certificate.TheConstants.{MOST_NUMBER}
use Rattle.homology_files.specs.declared.fault.HomologyFault.{HomologyFault}
use Rattle.homology_files.specs.declared.head.Head.{Head}
use Rattle.std.proofs.lemmas.Grind.{common_steps}
use Rattle.std.specs.Fmt.{signed_decimal}
use Rattle.std.specs.Prelude.{get_or}
use Rattle.text_scan.proofs.WrittenLemmas.{IsWritable, IsLine, numbered, lines_from-written, all_writable, number-read, number-writable, integer-writable, integer-read}
use Rattle.text_scan.specs.Numbers.{fits_i64}
use Rattle.homology_files.proofs.RisingLemmas.{before_passes}
use Rattle.homology_files.proofs.ReadingLemmas.{good_line}

-- ---- numbers

small-fits : (z : ℤ) → unsigned_abs z ≤ MOST_NUMBER → fits_i64 z ≡ true
small-fits (pos n) h = lt-ltb n (2 ^ 63) (omega (arith, h))
small-fits (negsuc n) h = lt-ltb n (2 ^ 63) (omega (arith, h))

size-read : (z : ℤ) → unsigned_abs z ≤ MOST_NUMBER → bounded_number_of (signed_decimal z) ≡ Some z
size-read z h = rw (integer-read z (small-fits z h), le-leb (unsigned_abs z) MOST_NUMBER h) refl

-- ---- the lines of numbers, from one on, behind those so far

abbrev above_all : {X : Type 0} → (List X → X → Bool) → List X → List X → Type 0
above_all is_above so_far [] = Unit {0}
above_all is_above so_far (x ∷ xs) = (is_above so_far x ≡ true) × above_all is_above (so_far ++ x ∷ []) xs

numbers-read : {X : Type 0} (read : List (List ℕ) → Option X) (is_above : List X → X → Bool) (words : X → List (List ℕ)) (end n : ℕ)
    (so_far xs : List X) → All (λ x. read (words x) ≡ Some x) xs → above_all is_above so_far xs
    → numbers_in read is_above end (length xs) so_far (numbered n (map words xs)) ≡ Ok (so_far ++ xs)
numbers-read read is_above words end n so_far [] reads rise = ap Ok (sym (append-nil so_far))
numbers-read {X} read is_above words end n so_far (x ∷ xs) reads rise =
    let fewer : length (x ∷ xs) - 1 ≡ length xs = omega arith in
    good_line read is_above end (length (x ∷ xs)) so_far (record { number = n; words = words x }) (numbered (n + 1) (map words xs)) x
    (omega arith) (All-head (λ y. read (words y) ≡ Some y) x xs reads) rise.0
    ∙ ap (λ left. numbers_in read is_above end left (so_far ++ x ∷ []) (numbered (n + 1) (map words xs))) fewer
    ∙ numbers-read read is_above words end (n + 1) (so_far ++ x ∷ []) xs (All-tail (λ y. read (words y) ≡ Some y) x xs reads) rise.1
    ∙ ap Ok (append_assoc so_far (x ∷ []) xs)

-- keys that rise, by a test of pairs
rises : {X : Type 0} (test : X → X → Bool) (so_far xs : List X) → AllPairs (λ x y. test x y ≡ true) (so_far ++ xs)
    → above_all (λ others x. list_all (λ other. test other x) others) so_far xs
rises test so_far [] h = tt
rises {X} test so_far (x ∷ xs) h = (
  list_all-from_AllPass (λ other. test other x) so_far (λ k d l. here k d l),
  rises test (so_far ++ x ∷ []) xs (subst (AllPairs (λ y z. test y z ≡ true)) (sym (append_assoc so_far (x ∷ []) xs)) h),
)
  where
    at_left : (ys zs : List X) (k : ℕ) (d : X) → k < length ys → get_or (ys ++ zs) k d ≡ get_or ys k d
    at_left ys zs k d l = grind (arith, common_steps)

    at_mid : (ys : List X) (zs : List X) (y d : X) → get_or (ys ++ y ∷ zs) (length ys) d ≡ y
    at_mid ys zs y d = grind (arith, common_steps)

    here : (k : ℕ) (d : X) → k < length so_far → test (get_or so_far k d) x ≡ true
    here k d l =
        subst (λ y. test y x ≡ true) (at_left so_far (x ∷ xs) k d l)
        (subst (λ y. test (get_or (so_far ++ x ∷ xs) k d) y ≡ true) (at_mid so_far xs x d)
        (h k (length so_far) d l (omega (arith, length-append so_far (x ∷ xs)))))

faces-rise : (lines : List FaceNumber) → AreFaceNumbers lines → above_all is_face_above [] lines
faces-rise lines valid =
    rises (λ (other line : FaceNumber). nat_lt other.face.0 line.face.0) [] lines
    (λ j k d l lk. lt-ltb (get_or lines j d).face.0 (get_or lines k d).face.0 (valid.rising j k d l lk))

edges-rise : (lines : List EdgeNumber) → AreEdgeNumbers lines → above_all is_edge_above [] lines
edges-rise lines valid =
    rises is_edge_before [] lines (λ j k d l lk. before_passes (get_or lines j d) (get_or lines k d) (valid.rising j k d l lk))

face-read : (line : FaceNumber) → FaceFits line → unsigned_abs line.number ≤ MOST_NUMBER
    → face_number_of (face_number_words line) ≡ Some line
face-read line fits small = rw (number-read line.face.0 fits, size-read line.number small) refl

edge-read : (line : EdgeNumber) → EdgeFits line → line.low.0 < line.high.0 → unsigned_abs line.number ≤ MOST_NUMBER
    → edge_number_of (edge_words line) ≡ Some line
edge-read line fits up small =
    rw (
      number-read line.low.0 fits.0,
      number-read line.high.0 fits.1,
      size-read line.number small,
      lt-ltb line.low.0 line.high.0 up,
    ) refl

-- ---- the lines are lines

size-writable : (z : ℤ) → unsigned_abs z ≤ MOST_NUMBER → IsWritable (signed_decimal z)
size-writable z h = integer-writable z (small-fits z h)

face-is_line : (line : FaceNumber) → FaceFits line → unsigned_abs line.number ≤ MOST_NUMBER → IsLine (face_number_words line)
face-is_line line fits h = record {
  filled = refl;
  writable = all_writable (face_number_words line) (number-writable line.face.0 fits, (size-writable line.number h, tt));
}

edge-is_line : (line : EdgeNumber) → EdgeFits line → unsigned_abs line.number ≤ MOST_NUMBER → IsLine (edge_words line)
edge-is_line line fits h = record {
  filled = refl;
  writable =
      all_writable (edge_words line)
      (number-writable line.low.0 fits.0, (number-writable line.high.0 fits.1, (size-writable line.number h, tt)));
}

-- the word of a head
abbrev keyword : Kind → List ℕ
keyword OfFaces = codes "CHAIN"
keyword OfEdges = codes "COCYCLE"

abbrev head_words : Kind → ℕ → List (List ℕ)
head_words kind n = keyword kind ∷ decimal n ∷ []

keyword-writable : (kind : Kind) → IsWritable (keyword kind)
keyword-writable OfFaces = record { filled = refl; inside = refl }
keyword-writable OfEdges = record { filled = refl; inside = refl }

head-is_line : (kind : Kind) (n : ℕ) → n < 2 ^ 32 → IsLine (head_words kind n)
head-is_line kind n few = record {
  filled = refl;
  writable = all_writable (head_words kind n) (keyword-writable kind, (number-writable n few, tt));
}

answer-is_line : (kind : Kind) → IsLine (answer_words kind)
answer-is_line OfFaces = record {
  filled = refl;
  writable = all_writable (answer_words OfFaces) (record { filled = refl; inside = refl }, tt);
}
answer-is_line OfEdges = record {
  filled = refl;
  writable =
      all_writable (answer_words OfEdges)
      (record { filled = refl; inside = refl }, (record { filled = refl; inside = refl }, tt));
}

-- ---- the whole text

-- the lines of a certificate, by its kind: a head, and then numbers
record HasLines (cert : HomologyCert) : Type 0 where
  count : ℕ
  few : count < 2 ^ 32
  numbers : List (List (List ℕ))
  lines : cert_lines cert ≡ head_words (kind_in cert) count ∷ numbers
  each : All IsLine numbers
  read : (end n : ℕ) → cert_in (kind_in cert) end count (numbered n numbers) ≡ Ok cert

has_lines : (cert : HomologyCert) → FitsHomologyFormat cert → HasLines cert
has_lines (Chain xs) fits = record {
  count = length xs;
  few = fits.0.few;
  numbers = map face_number_words xs;
  lines = refl;
  each = All-map IsLine face_number_words xs (λ k d l. face-is_line (get_or xs k d) (fits.1 k d l) (fits.0.small k d l));
  read = λ end n.
      ap (λ r. homology_then r (λ numbers. Ok (Chain numbers)))
      (numbers-read face_number_of is_face_above face_number_words end n [] xs
      (λ k d l. face-read (get_or xs k d) (fits.1 k d l) (fits.0.small k d l)) (faces-rise xs fits.0));
}
has_lines (Cocycle xs) fits = record {
  count = length xs;
  few = fits.0.few;
  numbers = map edge_words xs;
  lines = refl;
  each = All-map IsLine edge_words xs (λ k d l. edge-is_line (get_or xs k d) (fits.1 k d l) (fits.0.small k d l));
  read = λ end n.
      ap (λ r. homology_then r (λ numbers. Ok (Cocycle numbers)))
      (numbers-read edge_number_of is_edge_above edge_words end n [] xs
      (λ k d l. edge-read (get_or xs k d) (fits.1 k d l) (fits.0.ordered k d l) (fits.0.small k d l)) (edges-rise xs fits.0));
}

unmarked-cert_text : (cert : HomologyCert) → unmarked (cert_text cert) ≡ cert_text cert
unfolding unmarked
unmarked-cert_text (Chain xs) = refl
unmarked-cert_text (Cocycle xs) = refl

unmarked-answered : (cert : HomologyCert) → unmarked (line_of (answer_words (kind_in cert)) ++ cert_text cert)
    ≡ line_of (answer_words (kind_in cert)) ++ cert_text cert
unfolding unmarked
unmarked-answered (Chain xs) = refl
unmarked-answered (Cocycle xs) = refl

module _ (cert : HomologyCert) (fits : FitsHomologyFormat cert) where
  abbrev h : HasLines cert
  h = has_lines cert fits

  all_lines : All IsLine (cert_lines cert)
  all_lines =
      subst (All IsLine) (sym h.lines)
      (All-cons IsLine (head_words (kind_in cert) h.count) h.numbers (head-is_line (kind_in cert) h.count h.few) h.each)

  alone-lines : full_lines (cert_text cert)
      ≡ record { number = 1; words = head_words (kind_in cert) h.count } ∷ numbered 2 h.numbers
  alone-lines =
      ap (lines_from 1) (unmarked-cert_text cert) ∙ lines_from-written 1 (cert_lines cert) all_lines ∙ ap (numbered 1) h.lines

  answered-lines : full_lines (line_of (answer_words (kind_in cert)) ++ cert_text cert)
      ≡ record { number = 1; words = answer_words (kind_in cert) } ∷ record { number = 2; words = head_words (kind_in cert) h.count }
      ∷ numbered 3 h.numbers
  answered-lines =
      ap (lines_from 1) (unmarked-answered cert)
      ∙ lines_from-written 1 (answer_words (kind_in cert) ∷ cert_lines cert)
      (All-cons IsLine (answer_words (kind_in cert)) (cert_lines cert) (answer-is_line (kind_in cert)) all_lines)
      ∙ ap (λ ls. numbered 1 (answer_words (kind_in cert) ∷ ls)) h.lines

-- the head that a line is, alone and behind its answer
head_alone : (kind : Kind) (n end : ℕ) (rest : List Line) → n < 2 ^ 32
    → homology_head_among end (record { number = 1; words = head_words kind n } ∷ rest) ≡ Ok (record { kind = kind; count = n })
head_alone OfFaces n end rest few = rw (number-read n few) refl
head_alone OfEdges n end rest few = rw (number-read n few) refl

head_answered : (kind : Kind) (n end : ℕ) (rest : List Line) → n < 2 ^ 32
    → homology_head_among end
    (record { number = 1; words = answer_words kind } ∷ record { number = 2; words = head_words kind n } ∷ rest)
    ≡ Ok (record { kind = kind; count = n })
head_answered OfFaces n end rest few = rw (number-read n few) refl
head_answered OfEdges n end rest few = rw (number-read n few) refl

behind_alone : (kind : Kind) (n : ℕ) (rest : List Line)
    → behind_homology_head (record { number = 1; words = head_words kind n } ∷ rest) ≡ rest
behind_alone OfFaces n rest = refl
behind_alone OfEdges n rest = refl

behind_answered : (kind : Kind) (head : Line) (rest : List Line)
    → behind_homology_head (record { number = 1; words = answer_words kind } ∷ head ∷ rest) ≡ rest
behind_answered OfFaces head rest = refl
behind_answered OfEdges head rest = refl

-- what lines with a head are
abbrev cert_among : ℕ → List Line → Result HomologyCert HomologyFault
cert_among end lines = homology_then (homology_head_among end lines) (λ head. cert_in head.kind end head.count (behind_homology_head lines))

pub reads_back : (cert : HomologyCert) → FitsHomologyFormat cert → cert_of_text (cert_text cert) ≡ Ok cert
reads_back cert fits =
    let has = has_lines cert fits in
    let end = end_line (cert_text cert) in
    let kind = kind_in cert in
    ap (cert_among end) (alone-lines cert fits)
    ∙ ap (λ head. homology_then head (λ (hd : Head). cert_in hd.kind end hd.count
    (behind_homology_head (record { number = 1; words = head_words kind has.count } ∷ numbered 2 has.numbers))))
    (head_alone kind has.count end (numbered 2 has.numbers) has.few)
    ∙ ap (cert_in kind end has.count) (behind_alone kind has.count (numbered 2 has.numbers))
    ∙ has.read end 2

pub reads_back_answered : (cert : HomologyCert) → FitsHomologyFormat cert
    → cert_of_text (line_of (answer_words (kind_in cert)) ++ cert_text cert) ≡ Ok cert
reads_back_answered cert fits =
    let has = has_lines cert fits in
    let kind = kind_in cert in
    let end = end_line (line_of (answer_words kind) ++ cert_text cert) in
    let head : Line = record { number = 2; words = head_words kind has.count } in
    ap (cert_among end) (answered-lines cert fits)
    ∙ ap (λ read. homology_then read (λ (hd : Head). cert_in hd.kind end hd.count
    (behind_homology_head (record { number = 1; words = answer_words kind } ∷ head ∷ numbered 3 has.numbers))))
    (head_answered kind has.count end (numbered 3 has.numbers) has.few)
    ∙ ap (cert_in kind end has.count) (behind_answered kind head (numbered 3 has.numbers))
    ∙ has.read end 3
