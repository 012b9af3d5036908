-- How the checks of `reduce` end.
use Rattle.reduce_commands.proofs.Common.{stops_first, told_stops, stops_next, meant_passed, unless_passed, tells_no_fault, Answer, NoText, yes_with, End, Refuse, Pass, Passes, IsTold, file, meant, pass_unless, Check, pass, ◌>>=◌, Outcome, status_of, numbers_line, words_text, AreCanonised, IsNotCanonised, IsSoFar, SpellsTurnWords, IsReduceInput, AreCanonicalOf, entries_on, degree_fault, lines_in, range_fault, canonical_words, reduce, range_line, degree_line, ◌≡◌, ◌⊎◌, inl, inr, ℕ, ◌<◌, ◌≤◌, Bool, true, false, List, [], ◌∷◌, ◌++◌, refl, sym, ap, ◌∙◌, subst, arith, nat_lt, if◌then◌else◌, Option, Some, None, Result, Err, is_some, All, Files, NumberLine, words_of}
use Rattle.commands.proofs.Sound.{IsSound, sound-then, sound-pass, sound-meant, sound-pass_unless, sound-file, meant_told, unless_told, held, file_holds}
use Rattle.commands.specs.Stops.{Stops, Tells}
use Rattle.commands.specs.declared.status.Status.TheVariants.{Yes}
use Rattle.commands.specs.declared.stop.Stop.{Stop}
use Rattle.reduce_commands.specs.declared.reduce.TheConstants.{LEAST_DEGREE}
use Rattle.std.proofs.lemmas.Bool.{and_parts, ltb-true, ltb-false}
use Rattle.std.proofs.lemmas.List.Elements.{All-nil, All-cons, All-head, All-tail}
use Rattle.std.specs.List.{list_all}
use Rattle.std.specs.Prelude.{Ok}
use Rattle.turn_words.proofs.Unique.{left, left-is-canonical, unique}
use Rattle.turn_words.specs.Canonical.{IsTurnWord, IsCanonicalOf}
use Rattle.walk_files.specs.declared.fault.WalkFault.{WalkFault}
use Rattle.walk_files.specs.declared.fault.WalkFault.TheVariants as walks
use Rattle.commands.specs.declared.refusal.Input.TheVariants as inputs
use Rattle.commands.specs.declared.stop.Stop.TheVariants as stops

-- ---- the parts

pub no_degree_fault : (degree : ℕ) → LEAST_DEGREE ≤ degree → degree_fault degree ≡ None
no_degree_fault degree least = let large : nat_lt degree LEAST_DEGREE ≡ false = grind arith in rw large refl

pub least_degree : (degree : ℕ) → degree_fault degree ≡ None → LEAST_DEGREE ≤ degree
least_degree degree e = by_test (nat_lt degree LEAST_DEGREE) refl e
  where
    by_test : (b : Bool) → nat_lt degree LEAST_DEGREE ≡ b → (if b then Some degree else None) ≡ None → LEAST_DEGREE ≤ degree
    by_test true t f = cc
    by_test false t f = ltb-false degree LEAST_DEGREE t

-- ---- entries below the degree

all_below : (degree : ℕ) (word : List ℕ) → list_all (λ entry. nat_lt entry degree) word ≡ true → All (λ entry. entry < degree) word
all_below degree [] e = All-nil (λ entry. entry < degree)
all_below degree (entry ∷ word) e =
    let both = and_parts (nat_lt entry degree) (list_all (λ other. nat_lt other degree) word) e in
    All-cons (λ other. other < degree) entry word (ltb-true entry degree both.0) (all_below degree word both.1)

pub all_below_test : (degree : ℕ) (word : List ℕ) → All (λ entry. entry < degree) word → list_all (λ entry. nat_lt entry degree) word ≡ true
all_below_test degree [] h = refl
all_below_test degree (entry ∷ word) h =
    let below : entry < degree = All-head (λ other. other < degree) entry word h in
    let first : nat_lt entry degree ≡ true = grind arith in
    rw (first, all_below_test degree word (All-tail (λ other. other < degree) entry word h)) refl

pub in_range : (degree : ℕ) (lines : List NumberLine) → LEAST_DEGREE ≤ degree → range_fault degree lines ≡ None
    → All (IsTurnWord degree) (entries_on lines)
in_range degree [] least e = All-nil (IsTurnWord degree)
in_range degree (line ∷ lines) least e = by_test (list_all (λ entry. nat_lt entry degree) line.numbers) refl (in_range degree lines least) e
  where
    by_test : (b : Bool) → list_all (λ entry. nat_lt entry degree) line.numbers ≡ b
        → (range_fault degree lines ≡ None → All (IsTurnWord degree) (entries_on lines))
        → (if b then range_fault degree lines else Some line.line) ≡ None
        → All (IsTurnWord degree) (entries_on (line ∷ lines))
    by_test false t rest f = cc
    by_test true t rest f =
        All-cons (IsTurnWord degree) line.numbers (entries_on lines) (record { five = least; in_range = all_below degree line.numbers t })
        (rest f)

pub no_range_fault : (degree : ℕ) (lines : List NumberLine) → All (IsTurnWord degree) (entries_on lines) → range_fault degree lines ≡ None
no_range_fault degree [] h = refl
no_range_fault degree (line ∷ lines) h =
    let turn_word : IsTurnWord degree line.numbers = All-head (IsTurnWord degree) line.numbers (entries_on lines) h in
    rw (all_below_test degree line.numbers turn_word.in_range)
    (no_range_fault degree lines (All-tail (IsTurnWord degree) line.numbers (entries_on lines) h))

-- ---- line by line

-- a line behind lines that are in range
range_behind : (degree : ℕ) (lines : List NumberLine) (line : NumberLine) → range_fault degree lines ≡ None
    → range_fault degree (lines ++ line ∷ []) ≡ range_fault degree (line ∷ [])
range_behind degree [] line e = refl
range_behind degree (first ∷ lines) line e =
    by_test (list_all (λ entry. nat_lt entry degree) first.numbers) (range_behind degree lines line) e
  where
    by_test : (b : Bool) → (range_fault degree lines ≡ None → range_fault degree (lines ++ line ∷ []) ≡ range_fault degree (line ∷ []))
        → (if b then range_fault degree lines else Some first.line) ≡ None
        → (if b then range_fault degree (lines ++ line ∷ []) else Some first.line) ≡ range_fault degree (line ∷ [])
    by_test true rest f = rest f
    by_test false rest f = cc

-- a line behind one that is out of range
range_kept : (degree : ℕ) (lines : List NumberLine) (line : NumberLine) (number : ℕ) → range_fault degree lines ≡ Some number
    → range_fault degree (lines ++ line ∷ []) ≡ Some number
range_kept degree [] line number e = cc
range_kept degree (first ∷ lines) line number e =
    by_test (list_all (λ entry. nat_lt entry degree) first.numbers) (range_kept degree lines line number) e
  where
    by_test : (b : Bool) → (range_fault degree lines ≡ Some number → range_fault degree (lines ++ line ∷ []) ≡ Some number)
        → (if b then range_fault degree lines else Some first.line) ≡ Some number
        → (if b then range_fault degree (lines ++ line ∷ []) else Some first.line) ≡ Some number
    by_test true rest f = rest f
    by_test false rest f = f

canonical_more : (degree : ℕ) (lines : List NumberLine) (line : NumberLine) (words : List (List ℕ)) (word : List ℕ)
    → AreCanonicalOf degree (entries_on lines) words → IsCanonicalOf degree line.numbers word
    → AreCanonicalOf degree (entries_on (lines ++ line ∷ [])) (words ++ word ∷ [])
canonical_more degree [] line [] word so_far next = (next, tt)
canonical_more degree [] line (w ∷ words) word so_far next = absurd so_far
canonical_more degree (first ∷ lines) line [] word so_far next = absurd so_far
canonical_more degree (first ∷ lines) line (w ∷ words) word so_far next =
    (so_far.0, canonical_more degree lines line words word so_far.1 next)

-- one line more behind a line that is out of range
pub so_far-kept : (degree : ℕ) (lines : List NumberLine) (line : NumberLine) (words : List (List ℕ)) (out : Option ℕ)
    → is_some out ≡ true → IsSoFar degree lines words out → IsSoFar degree (lines ++ line ∷ []) words out
so_far-kept degree lines line words None some h = cc
so_far-kept degree lines line words (Some number) some h = range_kept degree lines line number h

-- one line more that is a turn word
pub so_far-word : (degree : ℕ) (lines : List NumberLine) (line : NumberLine) (words : List (List ℕ)) (word : List ℕ) (out : Option ℕ)
    → is_some out ≡ false → IsTurnWord degree line.numbers → IsCanonicalOf degree line.numbers word → IsSoFar degree lines words out
    → IsSoFar degree (lines ++ line ∷ []) (words ++ word ∷ []) out
so_far-word degree lines line words word None none turn_word canonical h = (
  range_behind degree lines line h.0 ∙ rw (all_below_test degree line.numbers turn_word.in_range) refl,
  canonical_more degree lines line words word h.1 canonical,
)
so_far-word degree lines line words word (Some number) none turn_word canonical h = cc

-- one line more that is none
pub so_far-fault : (degree : ℕ) (lines : List NumberLine) (line : NumberLine) (words : List (List ℕ)) (out : Option ℕ)
    → is_some out ≡ false → list_all (λ entry. nat_lt entry degree) line.numbers ≡ false → IsSoFar degree lines words out
    → IsSoFar degree (lines ++ line ∷ []) words (Some line.line)
so_far-fault degree lines line words None none here h = range_behind degree lines line h.0 ∙ rw here refl
so_far-fault degree lines line words (Some number) none here h = cc

-- want of memory in reading has no text
pub wanting_stop : (stop : Stop) → Tells NoText stop → stop ≡ stops.OutOfMemory
wanting_stop (stops.Refused text) h = absurd h
wanting_stop stops.ReadFault h = absurd h
wanting_stop stops.OutOfMemory h = refl

pub read_wanting : (left : Result (List NumberLine) WalkFault) (fault : WalkFault) (stop : Stop)
    → (left ≡ Err fault) ⊎ (fault ≡ walks.OutOfMemory) → Tells (numbers_line inputs.TurnWords fault) stop
    → (stop ≡ stops.OutOfMemory) ⊎ ((other : WalkFault) × (left ≡ Err other) × Tells (numbers_line inputs.TurnWords other) stop)
read_wanting left fault stop (inl e) h = inr (fault, e, h)
read_wanting left fault stop (inr e) h =
    inl (wanting_stop stop (subst (λ (f : WalkFault). Tells (numbers_line inputs.TurnWords f) stop) e h))

-- ---- canonical words

pub canonical_there : (degree : ℕ) (turns : List (List ℕ)) → All (IsTurnWord degree) turns → (canonical : List (List ℕ))
    × AreCanonicalOf degree turns canonical
canonical_there degree [] h = ([], tt)
canonical_there degree (word ∷ words) h =
    let rest = canonical_there degree words (All-tail (IsTurnWord degree) word words h) in
    (left degree word ∷ rest.0, (left-is-canonical degree word (All-head (IsTurnWord degree) word words h), rest.1))

one_canonical : (degree : ℕ) (turns first second : List (List ℕ)) → All (IsTurnWord degree) turns → AreCanonicalOf degree turns first
    → AreCanonicalOf degree turns second → first ≡ second
one_canonical degree [] [] [] h p q = refl
one_canonical degree [] [] (c ∷ cs) h p q = absurd q
one_canonical degree [] (c ∷ cs) second h p q = absurd p
one_canonical degree (word ∷ words) [] second h p q = absurd p
one_canonical degree (word ∷ words) (c ∷ cs) [] h p q = absurd q
one_canonical degree (word ∷ words) (c ∷ cs) (d ∷ ds) h p q =
    let first : c ≡ d = unique degree word c d (All-head (IsTurnWord degree) word words h) p.0 q.0 in
    let rest : cs ≡ ds = one_canonical degree words cs ds (All-tail (IsTurnWord degree) word words h) p.1 q.1 in cc

one_end : (degree : ℕ) (turns : List (List ℕ)) → All (IsTurnWord degree) turns → (a b : End (List (List ℕ)))
    → (canonical_words degree turns).Ends a
    → (canonical_words degree turns).Ends b → a ≡ b
one_end degree turns h (Refuse r) b p q = absurd p
one_end degree turns h (Pass x) (Refuse r) p q = absurd q
one_end degree turns h (Pass x) (Pass y) p q = ap Pass (one_canonical degree turns x y h p q)

sound-canonical : (held : Option Files) (degree : ℕ) (turns : List (List ℕ)) → All (IsTurnWord degree) turns
    → IsSound held (canonical_words degree turns)
sound-canonical held degree turns h =
    let there = canonical_there degree turns h in
    record { some = λ none. none (Pass there.0) there.1; one = λ _ a b p q. one_end degree turns h a b p q }

-- ---- the command

sound-lines : (held : Option Files) (name : List ℕ) → IsSound held (lines_in held name)
sound-lines held name = sound-then held _ _ (sound-file held name inputs.TurnWords)
    (λ bytes _. sound-meant held (numbers_line inputs.TurnWords) (words_of bytes))

pub sound-reduce : (held : Option Files) (degree : ℕ) (list : List ℕ) → IsSound held (reduce held degree list)
sound-reduce held degree list =
    sound-then held _ _ (sound-pass_unless held degree_line (degree_fault degree) degree)
    (λ allowed h. sound-then held _ _ (sound-lines held list)
    (λ lines _. sound-then held _ _ (sound-pass_unless held range_line (range_fault degree lines) (entries_on lines))
    (λ turns k. sound-then held _ _ (sound-canonical held degree turns (words_passed degree allowed lines turns h k))
    (λ canonical _. sound-pass held _))))
  where
    words_passed : (degree allowed : ℕ) (lines : List NumberLine) (turns : List (List ℕ))
        → Passes (pass_unless degree_line (degree_fault degree) degree) allowed
        → Passes (pass_unless range_line (range_fault degree lines) (entries_on lines)) turns → All (IsTurnWord degree) turns
    words_passed degree allowed lines turns h k =
        let least = least_degree degree (unless_passed degree_line (degree_fault degree) degree allowed h).0 in
        let both = unless_passed range_line (range_fault degree lines) (entries_on lines) turns k in
        subst (All (IsTurnWord degree)) (sym both.1) (in_range degree lines least both.0)

-- ---- `reduce` in the words of the list

pub list_passes : (files : Option Files) (degree : ℕ) (name : List ℕ) (lines : List NumberLine) (canonical : List (List ℕ))
    → LEAST_DEGREE ≤ degree
    → Passes (lines_in files name) lines → range_fault degree lines ≡ None → AreCanonicalOf degree (entries_on lines) canonical
    → Passes (reduce files degree name) (yes_with (words_text canonical))
list_passes files degree name lines canonical least passed range are =
    inr (
      degree,
      rw (no_degree_fault degree least) refl,
      inr (lines, passed, inr (entries_on lines, rw range refl, inr (canonical, are, refl))),
    )

pub reduce_passes : (files : Option Files) (degree : ℕ) (name : List ℕ) (turns canonical : List (List ℕ))
    → IsReduceInput files degree name turns
    → AreCanonicalOf degree turns canonical → Passes (reduce files degree name) (yes_with (words_text canonical))
reduce_passes files degree name turns canonical input are =
    let list_file = held files name (SpellsTurnWords degree turns) input.list_file in
    let spelled = list_file.holds in
    let passed : Passes (lines_in files name) spelled.lines =
    inr (list_file.bytes, list_file.passes inputs.TurnWords, rw spelled.text refl) in
    let range = no_range_fault degree spelled.lines (subst (All (IsTurnWord degree)) spelled.entries spelled.in_range) in
    list_passes files degree name spelled.lines canonical input.least passed range
    (subst (λ (t : List (List ℕ)). AreCanonicalOf degree t canonical) spelled.entries are)

pub input_told : (files : Option Files) (degree : ℕ) (name : List ℕ) (turns : List (List ℕ)) → IsReduceInput files degree name turns
    → IsTold files name
input_told files degree name turns input = (held files name (SpellsTurnWords degree turns) input.list_file).told

pub input_words : (files : Option Files) (degree : ℕ) (name : List ℕ) (turns : List (List ℕ)) → IsReduceInput files degree name turns
    → All (IsTurnWord degree) turns
input_words files degree name turns input = (held files name (SpellsTurnWords degree turns) input.list_file).holds.in_range

-- ---- the calls

-- what is looked at behind the lines, and behind the degree
abbrev behind_lines : ℕ → List NumberLine → Check Answer
behind_lines degree lines =
    pass_unless range_line (range_fault degree lines) (entries_on lines)
    >>= (λ turns. canonical_words degree turns >>= (λ canonical. pass (yes_with (words_text canonical))))

abbrev behind_degree : Option Files → ℕ → List ℕ → Check Answer
behind_degree files degree name = lines_in files name >>= behind_lines degree

pub degree_stops : (files : Option Files) (degree : ℕ) (name : List ℕ) (stop : Stop) → degree < LEAST_DEGREE
    → Tells (degree_line degree) stop
    → Stops (reduce files degree name) stop
degree_stops files degree name stop small h =
    let test : nat_lt degree LEAST_DEGREE ≡ true = grind arith in
    let fault : degree_fault degree ≡ Some degree = rw test refl in
    told_stops (degree_line degree) (reduce files degree name) stop (inl (degree_line degree, rw fault refl, refl)) h

pub lines_stop : (files : Option Files) (degree : ℕ) (name : List ℕ) (stop : Stop) → LEAST_DEGREE ≤ degree
    → Stops (lines_in files name) stop
    → Stops (reduce files degree name) stop
lines_stop files degree name stop least h =
    stops_next (pass_unless degree_line (degree_fault degree) degree) (λ _. behind_degree files degree name) degree stop
    (rw (no_degree_fault degree least) refl)
    (stops_first (lines_in files name) (behind_lines degree) stop h)

lines_passed : (files : Option Files) (name bytes : List ℕ) (lines : List NumberLine) → Passes (file files name inputs.TurnWords) bytes
    → words_of bytes ≡ Ok lines → Passes (lines_in files name) lines
lines_passed files name bytes lines passed e = inr (bytes, passed, rw e refl)

-- what stops the canonical words stops the command
pub words_stop : (files : Option Files) (degree : ℕ) (name bytes : List ℕ) (stop : Stop) → LEAST_DEGREE ≤ degree
    → Passes (file files name inputs.TurnWords) bytes → (stop ≡ stops.OutOfMemory) ⊎ IsNotCanonised degree (words_of bytes) stop
    → Stops (reduce files degree name) stop
words_stop files degree name bytes stop least passed (inl e) = subst (Stops (reduce files degree name)) (sym e) tt
words_stop files degree name bytes stop least passed (inr h) = by_meaning (words_of bytes) refl h
  where
    by_meaning : (meaning : Result (List NumberLine) WalkFault) → words_of bytes ≡ meaning → IsNotCanonised degree meaning stop
        → Stops (reduce files degree name) stop
    by_meaning (Err fault) e told =
        lines_stop files degree name stop least
        (stops_next (file files name inputs.TurnWords) (λ b. meant (numbers_line inputs.TurnWords) (words_of b)) bytes stop passed
        (rw e (told_stops (numbers_line inputs.TurnWords fault) (meant (numbers_line inputs.TurnWords) (Err fault)) stop refl told)))
    by_meaning (Ok lines) e told =
        told_stops (range_line told.0) (reduce files degree name) stop
        (inr (
          degree,
          rw (no_degree_fault degree least) refl,
          inr (lines, lines_passed files name bytes lines passed e, inl (range_line told.0, rw told.1 refl, refl)),
        ))
        told.2

pub words_pass : (files : Option Files) (degree : ℕ) (name bytes : List ℕ) (canonical : List (List ℕ)) → LEAST_DEGREE ≤ degree
    → Passes (file files name inputs.TurnWords) bytes → AreCanonised degree (words_of bytes) canonical
    → Passes (reduce files degree name) (yes_with (words_text canonical))
words_pass files degree name bytes canonical least passed h = by_meaning (words_of bytes) refl h
  where
    by_meaning : (meaning : Result (List NumberLine) WalkFault) → words_of bytes ≡ meaning → AreCanonised degree meaning canonical
        → Passes (reduce files degree name) (yes_with (words_text canonical))
    by_meaning (Err fault) e are = absurd are
    by_meaning (Ok lines) e are =
        list_passes files degree name lines canonical least (lines_passed files name bytes lines passed e) are.0 are.1

-- where the degree is in order, a file is looked at
pub looks_at_file : (files : Option Files) (degree : ℕ) (name : List ℕ) → LEAST_DEGREE ≤ degree
    → (reduce files degree name).EachFile (λ _. ⊥) → ⊥
looks_at_file files degree name least none = (none.1 degree (rw (no_degree_fault degree least) refl)).0.0

-- what stops the canonical words is no read fault
pub words_no_fault : (degree : ℕ) (meaning : Result (List NumberLine) WalkFault) (stop : Stop)
    → (stop ≡ stops.OutOfMemory) ⊎ IsNotCanonised degree meaning stop → stop ≡ stops.ReadFault → ⊥
words_no_fault degree meaning stop (inl wanting) e = cc
words_no_fault degree (Err fault) stop (inr told) e = tells_no_fault (numbers_line inputs.TurnWords fault) stop told e
words_no_fault degree (Ok lines) stop (inr told) e = tells_no_fault (range_line told.0) stop told.2 e

-- the list is the one file that is looked at
pub reduce_told : (files : Option Files) (degree : ℕ) (name : List ℕ) → IsTold files name
    → (reduce files degree name).EachFile (IsTold files)
reduce_told files degree name told = (
  unless_told files degree_line (degree_fault degree) degree,
  λ _ _. (
    (told, λ bytes _. meant_told files (numbers_line inputs.TurnWords) (words_of bytes)),
    λ lines _. (unless_told files range_line (range_fault degree lines) (entries_on lines), λ _ _. (tt, λ _ _. tt)),
  ),
)

-- what was passed spells the list
pub yes_input : (files : Option Files) (degree : ℕ) (name : List ℕ) (outcome : Outcome) → IsTold files name
    → (reduce files degree name).Ends outcome
    → status_of outcome ≡ Yes → (turns : List (List ℕ)) × IsReduceInput files degree name turns
yes_input files degree name outcome told (inl p) e = let refused = ap status_of p.2 in cc
yes_input files degree name outcome told (inr (allowed, first, inl p)) e = let refused = ap status_of p.2 in cc
yes_input files degree name outcome told (inr (allowed, first, inr (lines, read, inl p))) e = let refused = ap status_of p.2 in cc
yes_input files degree name outcome told (inr (allowed, first, inr (lines, inl p, inr q))) e = let same = p.2 in cc
yes_input files degree name outcome told (inr (allowed, first, inr (lines, inr (bytes, in_file, read), inr (turns, range, more)))) e =
    let least = least_degree degree (unless_passed degree_line (degree_fault degree) degree allowed first).0 in
    let both = unless_passed range_line (range_fault degree lines) (entries_on lines) turns range in
    let spelled : SpellsTurnWords degree turns bytes =
    record {
      lines = lines;
      text = meant_passed (numbers_line inputs.TurnWords) (words_of bytes) lines read;
      entries = both.1;
      in_range = subst (All (IsTurnWord degree)) (sym both.1) (in_range degree lines least both.0);
    } in (
      turns,
      record {
        least = least;
        list_file = file_holds files name inputs.TurnWords (SpellsTurnWords degree turns) bytes told in_file spelled;
      },
    )
