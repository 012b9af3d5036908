-- Moves whose lines lie whole in the bytes that are at hand.
use Rattle.walk_files.proofs.Common.{LinesReading, IsOneLine, ReadsLine, Reads, bytes_left, ◌≡◌, ◌≢◌, ℕ, ◌+◌, ◌-◌, ◌*◌, ◌^◌, ◌<◌, ◌≤◌, Bool, true, false, List, [], ◌∷◌, ◌++◌, length, take, drop, get_or, append_assoc, length-append, refl, subst, sym, ap, ◌∙◌, arith, and_parts, and_from, lt-ltb, ne_eqb, take_all, All-head, All-tail, All-cons, All-nil, list_all-append, before_first, list_all, Option, Some, None, Ok, IfSome, All, Move, Across, before_first-append, before_first-yes, from_first-append, from_first-yes, words_here-nil, words_here-blank, words_here-word, digits_inside, is_filled, lines_from, is_digit, is_natural, value_of, number_of, is_line_feed, words_here, direction_of, spur_of, across_of, move_of, next_move_of, next_on, end_behind}
use Rattle.std.proofs.Common.{not, append-nil}
use Rattle.std.proofs.lemmas.List.Sums.{fold-append}
use Rattle.text_scan.specs.Steps.{ends_word, from_first, begins_word}
use Rattle.walk_files.specs.WholeLines.{IsMoveLine, IsPlainWord, spaced, BeginsWithWord, BeginsWithWords, IsMoveText, BeginsWithMove}
use Rattle.walk_files.proofs.StreamLemmas.{next_read, next_on-same}

-- ---- bytes as the code takes them apart

-- what is behind the first byte, and behind the first two
abbrev pub after_head : List ℕ → List ℕ
after_head rest = take (length rest - 1) (drop 1 rest)

abbrev pub after_two : List ℕ → List ℕ
after_two rest = take (length rest - 2) (drop 2 rest)

head_split : (rest : List ℕ) → 1 ≤ length rest → rest ≡ get_or rest 0 0 ∷ after_head rest
head_split [] some = absurd (omega (arith, some))
head_split (byte ∷ rest) some = ap (λ t. byte ∷ t) (sym (take_all (length (byte ∷ rest) - 1) rest (omega arith)))

two_split : (rest : List ℕ) → 2 ≤ length rest → rest ≡ get_or rest 0 0 ∷ get_or rest 1 0 ∷ after_two rest
two_split [] some = absurd (omega (arith, some))
two_split (byte ∷ []) some = absurd (omega (arith, some))
two_split (byte ∷ next ∷ rest) some =
    ap (λ t. byte ∷ next ∷ t) (sym (take_all (length (byte ∷ next ∷ rest) - 2) rest (omega arith)))

-- ---- digits

-- past digits at the front, which have this value
pub record PastDigits (bytes : List ℕ) (value : ℕ) (rest : List ℕ) : Type 0 where
  pub digits : List ℕ
  pub parts : bytes ≡ digits ++ rest
  pub all : list_all is_digit digits ≡ true
  pub same : value_of digits ≡ value

pub no_digits : (bytes : List ℕ) → PastDigits bytes 0 bytes
unfolding value_of
no_digits bytes = record { digits = []; parts = refl; all = refl; same = refl }

pub one_digit : (bytes rest : List ℕ) (value : ℕ) → 1 ≤ length rest → is_digit (get_or rest 0 0) ≡ true → PastDigits bytes value rest
    → PastDigits bytes (value * 10 + (get_or rest 0 0 - 48)) (after_head rest)
unfolding value_of
one_digit bytes rest value some digit so_far =
    record {
      digits = so_far.digits ++ get_or rest 0 0 ∷ [];
      parts = so_far.parts ∙ ap (λ t. so_far.digits ++ t) (head_split rest some)
          ∙ sym (append_assoc so_far.digits (get_or rest 0 0 ∷ []) (after_head rest));
      all = list_all-append is_digit so_far.digits (get_or rest 0 0 ∷ []) ∙ rw (so_far.all, digit) refl;
      same = fold-append (λ value digit. value * 10 + (digit - 48)) 0 so_far.digits (get_or rest 0 0 ∷ [])
          ∙ ap (λ v. v * 10 + (get_or rest 0 0 - 48)) so_far.same;
    }

some_digits : (digits rest bytes : List ℕ) → bytes ≡ digits ++ rest → length rest ≢ length bytes → is_filled digits ≡ true
some_digits [] rest bytes parts shorter = absurd (shorter (sym (ap length parts)))
some_digits (d ∷ digits) rest bytes parts shorter = refl

-- digits behind a blank
pub number_first : (bytes rest : List ℕ) (value : ℕ) → 1 ≤ length bytes → get_or bytes 0 0 ≡ 32
    → PastDigits (after_head bytes) value rest → length rest ≢ length (after_head bytes) → value < 2 ^ 32
    → BeginsWithWord number_of bytes value rest
unfolding is_natural
number_first bytes rest value some blank past shorter small =
    let filled = some_digits past.digits rest (after_head bytes) past.parts shorter in
    let natural : is_natural past.digits ≡ true = and_from (is_filled past.digits) (list_all is_digit past.digits) filled past.all in
    record {
      word = past.digits;
      parts = head_split bytes some ∙ ap (λ b. b ∷ after_head bytes) blank ∙ ap (λ t. 32 ∷ t) past.parts;
      plain = record { filled = filled; inside = digits_inside past.digits past.all };
      value = rw (natural, past.same, lt-ltb value (2 ^ 32) small) refl;
    }

-- ---- words behind single blanks

-- a sign behind a blank
pub direction_first : (bytes : List ℕ) (sign : ℕ) (forward : Bool) → 2 ≤ length bytes → get_or bytes 0 0 ≡ 32 → get_or bytes 1 0 ≡ sign
    → ends_word sign ≡ false → direction_of (sign ∷ []) ≡ Some forward → BeginsWithWord direction_of bytes forward (after_two bytes)
direction_first bytes sign forward some blank is inside direction =
    record {
      word = sign ∷ [];
      parts = two_split bytes some ∙ ap (λ b. b ∷ get_or bytes 1 0 ∷ after_two bytes) blank
          ∙ ap (λ b. 32 ∷ b ∷ after_two bytes) is;
      plain = record { filled = refl; inside = rw inside refl };
      value = direction;
    }

-- one word more in front
more_words : (bytes word middle after : List ℕ) (words : List (List ℕ)) → bytes ≡ 32 ∷ (word ++ middle) → middle ≡ spaced words ++ after
    → bytes ≡ spaced (word ∷ words) ++ after
more_words bytes word middle after words first others =
    first ∙ ap (λ t. 32 ∷ (word ++ t)) others ∙ ap (λ t. 32 ∷ t) (sym (append_assoc word (spaced words) after))

pub spur_first : (bytes middle after : List ℕ) (at via : ℕ) → BeginsWithWord number_of bytes at middle
    → BeginsWithWord number_of middle via after → BeginsWithWords spur_of bytes (at, record { 0 = via }) after
spur_first bytes middle after at via first second =
    record {
      words = first.word ∷ second.word ∷ [];
      parts = more_words bytes first.word middle after (second.word ∷ []) first.parts
          (more_words middle second.word after after [] second.parts refl);
      plain = All-cons IsPlainWord first.word (second.word ∷ []) first.plain
          (All-cons IsPlainWord second.word [] second.plain (All-nil IsPlainWord));
      value = rw (first.value, second.value) refl;
    }

pub across_first : (bytes r1 r2 r3 r4 after : List ℕ) (at face corner : ℕ) (forward : Bool) (taken : ℕ)
    → BeginsWithWord number_of bytes at r1 → BeginsWithWord number_of r1 face r2 → BeginsWithWord number_of r2 corner r3
    → BeginsWithWord direction_of r3 forward r4 → BeginsWithWord number_of r4 taken after
    → BeginsWithWords across_of bytes (Across at (record { 0 = face }) corner forward taken) after
across_first bytes r1 r2 r3 r4 after at face corner forward taken a f c d t =
    record {
      words = a.word ∷ f.word ∷ c.word ∷ d.word ∷ t.word ∷ [];
      parts = more_words bytes a.word r1 after (f.word ∷ c.word ∷ d.word ∷ t.word ∷ []) a.parts
          (more_words r1 f.word r2 after (c.word ∷ d.word ∷ t.word ∷ []) f.parts
          (more_words r2 c.word r3 after (d.word ∷ t.word ∷ []) c.parts
          (more_words r3 d.word r4 after (t.word ∷ []) d.parts
          (more_words r4 t.word after after [] t.parts refl))));
      plain = All-cons IsPlainWord a.word (f.word ∷ c.word ∷ d.word ∷ t.word ∷ []) a.plain
          (All-cons IsPlainWord f.word (c.word ∷ d.word ∷ t.word ∷ []) f.plain
          (All-cons IsPlainWord c.word (d.word ∷ t.word ∷ []) c.plain
          (All-cons IsPlainWord d.word (t.word ∷ []) d.plain
          (All-cons IsPlainWord t.word [] t.plain (All-nil IsPlainWord)))));
      value = rw (a.value, f.value, c.value, d.value, t.value) refl;
    }

-- ---- the line of such words

-- what may stand behind the last word of a line
record IsTail (tail : List ℕ) : Type 0 where
  none : words_here tail ≡ []
  stops : before_first ends_word tail ≡ []
  from : from_first ends_word tail ≡ tail
  alone : IsOneLine tail

no_tail : IsTail []
no_tail = record { none = words_here-nil; stops = refl; from = refl; alone = refl }

return_tail : IsTail (13 ∷ [])
return_tail =
    record {
      none = words_here-blank 13 [] refl ∙ words_here-nil;
      stops = before_first-yes ends_word 13 [] refl;
      from = from_first-yes ends_word 13 [] refl;
      alone = refl;
    }

-- the bytes up to the line feed
abbrev with_tail : List (List ℕ) → List ℕ → List ℕ
with_tail words tail = spaced words ++ tail

tail_more : (word : List ℕ) (words : List (List ℕ)) (tail : List ℕ) → with_tail (word ∷ words) tail ≡ 32 ∷ (word ++ with_tail words tail)
tail_more word words tail = ap (λ t. 32 ∷ t) (append_assoc word (spaced words) tail)

ends_at_blank : (words : List (List ℕ)) (tail : List ℕ) → IsTail tail
    → (before_first ends_word (with_tail words tail) ≡ []) × (from_first ends_word (with_tail words tail) ≡ with_tail words tail)
ends_at_blank [] tail end = (end.stops, end.from)
ends_at_blank (word ∷ words) tail end =
    (before_first-yes ends_word 32 ((word ++ spaced words) ++ tail) refl, from_first-yes ends_word 32 ((word ++ spaced words) ++ tail) refl)

begins : (word rest : List ℕ) → IsPlainWord word → begins_word (word ++ rest) ≡ true
begins [] rest plain = absurd (cc (plain.filled))
begins (byte ∷ word) rest plain = (and_parts (not (ends_word byte)) (list_all (λ b. not (ends_word b)) word) plain.inside).0

words_here-spaced : (words : List (List ℕ)) (tail : List ℕ) → All IsPlainWord words → IsTail tail
    → words_here (with_tail words tail) ≡ words
words_here-spaced [] tail plain end = end.none
words_here-spaced (word ∷ words) tail plain end =
    let first : IsPlainWord word = All-head IsPlainWord word words plain in
    let rest : List ℕ = with_tail words tail in
    let ends = ends_at_blank words tail end in
    ap words_here (tail_more word words tail) ∙ words_here-blank 32 (word ++ rest) refl
    ∙ words_here-word (word ++ rest) (begins word rest first)
    ∙ ap (λ t. t ∷ words_here (from_first ends_word (word ++ rest)))
    (before_first-append ends_word word rest first.inside ∙ ap (λ t. word ++ t) ends.0 ∙ append-nil word)
    ∙ ap (λ t. word ∷ words_here t) (from_first-append ends_word word rest first.inside ∙ ends.1)
    ∙ ap (λ t. word ∷ t) (words_here-spaced words tail (All-tail IsPlainWord word words plain) end)

word_in_line : (word : List ℕ) → list_all (λ byte. not (ends_word byte)) word ≡ true → IsOneLine word
word_in_line [] inside = refl
word_in_line (byte ∷ word) inside =
    let parts = and_parts (not (ends_word byte)) (list_all (λ b. not (ends_word b)) word) inside in
    and_from (not (is_line_feed byte)) (list_all (λ b. not (is_line_feed b)) word) (no_feed byte parts.0) (word_in_line word parts.1)
  where
    no_feed : (byte : ℕ) → not (ends_word byte) ≡ true → not (is_line_feed byte) ≡ true
    no_feed byte e = grind (arith, e)

spaced_in_line : (words : List (List ℕ)) → All IsPlainWord words → IsOneLine (spaced words)
spaced_in_line [] plain = refl
spaced_in_line (word ∷ words) plain =
    list_all-append (λ b. not (is_line_feed b)) word (spaced words)
    ∙ rw (
      word_in_line word (All-head IsPlainWord word words plain).inside,
      spaced_in_line words (All-tail IsPlainWord word words plain),
    ) refl

-- a keyword of one byte before words that are this move with it
text_with : (keyword : ℕ) (words : List (List ℕ)) (tail : List ℕ) (mv : Move) → ends_word keyword ≡ false → All IsPlainWord words
    → move_of ((keyword ∷ []) ∷ words) ≡ Some mv → IsTail tail → IsMoveText (keyword ∷ with_tail words tail) mv
text_with keyword words tail mv inside plain move end =
    let all = All-cons IsPlainWord (keyword ∷ []) words (record { filled = refl; inside = rw inside refl }) plain in
    record {
      alone = list_all-append (λ b. not (is_line_feed b)) (spaced ((keyword ∷ []) ∷ words)) tail
          ∙ rw (spaced_in_line ((keyword ∷ []) ∷ words) all, end.alone) refl;
      move = ap move_of (sym (words_here-blank 32 (keyword ∷ with_tail words tail) refl)
          ∙ words_here-spaced ((keyword ∷ []) ∷ words) tail all end) ∙ move;
    }

-- the same of words that are read so
pub move_first : {A : Type 0} (read : List (List ℕ) → Option A) (keyword : ℕ) (bytes after : List ℕ) (found : A) (mv : Move)
    → 1 ≤ length bytes → get_or bytes 0 0 ≡ keyword → ends_word keyword ≡ false → BeginsWithWords read (after_head bytes) found after
    → ((words : List (List ℕ)) → read words ≡ Some found → move_of ((keyword ∷ []) ∷ words) ≡ Some mv) → BeginsWithMove bytes mv after
move_first read keyword bytes after found mv some is inside begun move =
    let read_so = move begun.words begun.value in
    record {
      line = keyword ∷ spaced begun.words;
      parts = head_split bytes some ∙ ap (λ b. b ∷ after_head bytes) is ∙ ap (λ t. keyword ∷ t) begun.parts;
      plain = subst (λ t. IsMoveText (keyword ∷ t) mv) (append-nil (spaced begun.words))
          (text_with keyword begun.words [] mv inside begun.plain read_so no_tail);
      returned = text_with keyword begun.words (13 ∷ []) mv inside begun.plain read_so return_tail;
    }

-- ---- up to its line feed

take_front : (front rest : List ℕ) → take (length front) (front ++ rest) ≡ front
take_front [] rest = refl
take_front (byte ∷ front) rest = ap (λ t. byte ∷ t) (take_front front rest)

get_behind : (front rest : List ℕ) → get_or (front ++ rest) (length front) 0 ≡ get_or rest 0 0
get_behind [] rest = refl
get_behind (byte ∷ front) rest = get_behind front rest

line_before : (bytes line behind : List ℕ) (len : ℕ) (mv : Move) → bytes ≡ line ++ behind → IsMoveText line mv → 1 ≤ length behind
    → get_or behind 0 0 ≡ 10 → len ≡ length line → IsMoveLine bytes len mv
line_before bytes line behind len mv parts text some feed same =
    let whole : length bytes ≡ length line + length behind = ap length parts ∙ length-append line behind in
    let line_is : take len bytes ≡ line = ap (λ n. take n bytes) same ∙ ap (λ t. take (length line) t) parts ∙ take_front line behind in
    record {
      within = omega (arith, same, whole, some);
      feed = ap (λ n. get_or bytes n 0) same ∙ ap (λ t. get_or t (length line) 0) parts ∙ get_behind line behind ∙ feed;
      alone = subst IsOneLine (sym line_is) text.alone;
      move = ap (λ t. move_of (words_here t)) line_is ∙ text.move;
    }

pub line_with_feed : (bytes behind : List ℕ) (mv : Move) → BeginsWithMove bytes mv behind → 1 ≤ length behind → get_or behind 0 0 ≡ 10
    → IsMoveLine bytes (length bytes - length behind) mv
line_with_feed bytes behind mv begun some feed =
    let whole : length bytes ≡ length begun.line + length behind = ap length begun.parts ∙ length-append begun.line behind in
    line_before bytes begun.line behind (length bytes - length behind) mv begun.parts begun.plain some feed (omega (arith, whole))

pub line_with_return : (bytes behind : List ℕ) (mv : Move) → BeginsWithMove bytes mv behind → 2 ≤ length behind → get_or behind 0 0 ≡ 13
    → get_or behind 1 0 ≡ 10 → IsMoveLine bytes (length bytes - length behind + 1) mv
line_with_return bytes behind mv begun some return feed =
    let whole : length bytes ≡ length begun.line + length behind = ap length begun.parts ∙ length-append begun.line behind in
    let back : List ℕ = get_or behind 1 0 ∷ after_two behind in
    let parts : bytes ≡ (begun.line ++ 13 ∷ []) ++ back =
    begun.parts ∙ ap (λ t. begun.line ++ t) (two_split behind some ∙ ap (λ b. b ∷ back) return)
    ∙ sym (append_assoc begun.line (13 ∷ []) back) in
    line_before bytes (begun.line ++ 13 ∷ []) back (length bytes - length behind + 1) mv parts begun.returned (omega arith) feed
    (omega (arith, whole, length-append begun.line (13 ∷ [])))

-- ---- what the next line gives

gives : (to_come number : ℕ) (words : List (List ℕ)) (mv : Move) → 0 < to_come → move_of words ≡ Some mv
    → next_on to_come (record { number = number; words = words }) ≡ Ok (Some mv)
gives to_come number words mv some is = rw (ne_eqb to_come 0 (λ none. omega (arith, some, none)), is) refl

pub move_answered : (file : Option (List ℕ)) (old next : LinesReading) (kept : List ℕ) (len : ℕ) (mv : Move) (to_come : ℕ)
    → 0 < to_come → IsMoveLine kept len mv → kept ≡ old.reading.kept
    → ((f : List ℕ) → Reads old.reading f → ReadsLine old.number (bytes_left old.reading f) (Some old.number)
    (words_here (take len old.reading.kept)) next.number (bytes_left next.reading f))
    → IfSome file (λ f. Reads old.reading f → next_move_of (end_behind old.number (bytes_left old.reading f)) to_come
    (lines_from old.number (bytes_left old.reading f)) ≡ Ok (Some mv))
move_answered None old next kept len mv to_come some is same reads = tt
move_answered (Some f) old next kept len mv to_come some is same reads = λ begun.
    let short : List (List ℕ) = words_here (take len old.reading.kept) in
    let mv_is : move_of short ≡ Some mv = ap (λ t. move_of (words_here (take len t))) (sym same) ∙ is.move in
    sym (next_read old.number (bytes_left old.reading f) (Some old.number) short next.number (bytes_left next.reading f) to_come
    (Ok (Some mv)) (reads f begun) tt (λ words alike.
    sym (gives to_come old.number short mv some mv_is) ∙ next_on-same to_come old.number short words alike))
