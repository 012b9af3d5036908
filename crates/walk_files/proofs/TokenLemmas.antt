-- What a token more of a walk line means.
use Rattle.walk_files.proofs.Common.{◌≡◌, ℕ, zero, suc, ◌+◌, ◌-◌, ◌*◌, ◌^◌, ◌<◌, ◌≤◌, ◌==◌, Bool, true, false, List, [], ◌∷◌, ◌++◌, length, refl, sym, ap, subst, ◌∙◌, append_assoc, length-append, arith, le-mul_of_pos_right, mul_comm, mul-le-mul_right, ltb-true, ltb-false, ok_or, nat_le, nat_lt, ◌&&◌, min, Option, Some, None, option_map, Result, Ok, Err, if◌then◌else◌, each_some, some_first, Line, capped, put_before, rest_of, IsCountedTo, token_of, times, ends_at, behind_vertex, written_out, read_tokens, WalkFault, BadGroup, MOST_POWER, Token, Open, Close, Number}

-- ---- reading on

abbrev pub Meaning : Type 0
Meaning = List Token → Option (List ℕ)

-- a token was read
pub read_more : (meaning : Meaning) (line : ℕ) (token : Token) (old new : Option (List Token)) → old ≡ some_first (Some token) new
    → read_tokens meaning line old ≡ read_tokens (λ tokens. meaning (token ∷ tokens)) line new
read_more meaning line token old None is = ap (read_tokens meaning line) is
read_more meaning line token old (Some tokens) is = ap (read_tokens meaning line) is

-- vertices before what is meant
pub read_before : (meaning : Meaning) (line : ℕ) (first : List ℕ) (tokens : Option (List Token))
    → read_tokens (λ others. option_map (λ rest. first ++ rest) (meaning others)) line tokens
    ≡ put_before first (read_tokens meaning line tokens)
read_before meaning line first None = refl
read_before meaning line first (Some tokens) = by_meaning (meaning tokens)
  where
    by_meaning : (meant : Option (List ℕ))
        → ok_or (option_map (λ rest. first ++ rest) meant) (BadGroup line) ≡ put_before first (ok_or meant (BadGroup line))
    by_meaning None = refl
    by_meaning (Some rest) = refl

pub put_before-twice : (first second : List ℕ) (rest : Result (List ℕ) WalkFault)
    → put_before first (put_before second rest) ≡ put_before (first ++ second) rest
put_before-twice first second (Err fault) = refl
put_before-twice first second (Ok rest) = ap Ok (sym (append_assoc first second rest))

-- ---- the parts of a line

pub rest_of-number : (line vertex next : ℕ) (old new : List (List ℕ))
    → each_some token_of old ≡ some_first (Some (Number next)) (each_some token_of new)
    → rest_of line vertex None old ≡ put_before (next ∷ []) (rest_of line next None new)
rest_of-number line vertex next old new is =
    read_more (behind_vertex vertex None) line (Number next) (each_some token_of old) (each_some token_of new) is
    ∙ read_before (behind_vertex next None) line (next ∷ []) (each_some token_of new)

pub rest_of-open : (line vertex : ℕ) (old new : List (List ℕ)) → each_some token_of old ≡ some_first (Some Open) (each_some token_of new)
    → rest_of line vertex None old ≡ rest_of line vertex (Some []) new
rest_of-open line vertex old new is = read_more (behind_vertex vertex None) line Open (each_some token_of old) (each_some token_of new) is

pub rest_of-inside : (line vertex next : ℕ) (group : List ℕ) (old new : List (List ℕ))
    → each_some token_of old ≡ some_first (Some (Number next)) (each_some token_of new)
    → rest_of line vertex (Some group) old ≡ rest_of line vertex (Some (group ++ next ∷ [])) new
rest_of-inside line vertex next group old new is =
    read_more (behind_vertex vertex (Some group)) line (Number next) (each_some token_of old) (each_some token_of new) is

pub walk_on-first : (line first : ℕ) (old new : List (List ℕ))
    → each_some token_of old ≡ some_first (Some (Number first)) (each_some token_of new)
    → read_tokens written_out line (each_some token_of old) ≡ put_before (first ∷ []) (rest_of line first None new)
walk_on-first line first old new is =
    read_more written_out line (Number first) (each_some token_of old) (each_some token_of new) is
    ∙ read_before (behind_vertex first None) line (first ∷ []) (each_some token_of new)

-- the end of a group, and its power
abbrev pub closing : ℕ → List ℕ → Meaning
closing vertex group tokens = behind_vertex vertex (Some group) (Close ∷ tokens)

pub rest_of-close : (line vertex : ℕ) (group : List ℕ) (old new : List (List ℕ))
    → each_some token_of old ≡ some_first (Some Close) (each_some token_of new)
    → rest_of line vertex (Some group) old ≡ read_tokens (closing vertex group) line (each_some token_of new)
rest_of-close line vertex group old new is =
    read_more (behind_vertex vertex (Some group)) line Close (each_some token_of old) (each_some token_of new) is

-- the group and its power stand for its numbers, so often, if they stand for anything
abbrev pub if_closed : Bool → ℕ → List ℕ → ℕ → Meaning
if_closed closed power group vertex tokens =
    if closed then option_map (λ rest. times power group ++ rest) (behind_vertex vertex None tokens) else None

closed_so : (closed : Bool) (line vertex power : ℕ) (group : List ℕ) (words : List (List ℕ)) → closed ≡ true
    → read_tokens (if_closed closed power group vertex) line (each_some token_of words)
    ≡ put_before (times power group) (rest_of line vertex None words)
closed_so true line vertex power group words is =
    read_before (behind_vertex vertex None) line (times power group) (each_some token_of words)
closed_so false line vertex power group words is = cc

pub closed_with : (line vertex power : ℕ) (group : List ℕ) (old new : List (List ℕ))
    → each_some token_of old ≡ some_first (Some (Number power)) (each_some token_of new)
    → ends_at vertex group ≡ true → nat_le power MOST_POWER ≡ true
    → read_tokens (closing vertex group) line (each_some token_of old) ≡ put_before (times power group) (rest_of line vertex None new)
closed_with line vertex power group old new is ends few =
    let both : (ends_at vertex group && nat_le power MOST_POWER) ≡ true = rw (ends, few) refl in
    read_more (closing vertex group) line (Number power) (each_some token_of old) (each_some token_of new) is
    ∙ closed_so (ends_at vertex group && nat_le power MOST_POWER) line vertex power group new both

no_end : (line : ℕ) (rest : List ℕ) (tokens : Option (List Token)) → read_tokens (λ others. None) line tokens ≡ Ok rest → ⊥
no_end line rest None h = cc
no_end line rest (Some tokens) h = cc

closed_known : (closed : Bool) (line vertex power : ℕ) (group rest : List ℕ) (words : List (List ℕ))
    → read_tokens (if_closed closed power group vertex) line (each_some token_of words) ≡ Ok rest
    → read_tokens (if_closed closed power group vertex) line (each_some token_of words)
    ≡ put_before (times power group) (rest_of line vertex None words)
closed_known true line vertex power group rest words known = closed_so true line vertex power group words refl
closed_known false line vertex power group rest words known = absurd (no_end line rest (each_some token_of words) known)

-- a group that was read to its power
pub group_closed : (line vertex power : ℕ) (group rest : List ℕ) (first old mid new : List (List ℕ))
    → rest_of line vertex (Some []) first ≡ Ok rest
    → rest_of line vertex (Some []) first ≡ rest_of line vertex (Some group) old
    → each_some token_of old ≡ some_first (Some Close) (each_some token_of mid)
    → each_some token_of mid ≡ some_first (Some (Number power)) (each_some token_of new)
    → rest_of line vertex (Some []) first ≡ put_before (times power group) (rest_of line vertex None new)
group_closed line vertex power group rest first old mid new known so_far close number =
    let closed : Bool = ends_at vertex group && nat_le power MOST_POWER in
    let read : rest_of line vertex (Some []) first ≡ read_tokens (if_closed closed power group vertex) line (each_some token_of new) =
    so_far ∙ rest_of-close line vertex group old mid close
    ∙ read_more (closing vertex group) line (Number power) (each_some token_of mid) (each_some token_of new) number in
    read ∙ closed_known closed line vertex power group rest new (sym read ∙ known)

-- ---- numbers of a group

pub ends_at-last : (vertex next : ℕ) (group : List ℕ) → ends_at vertex (group ++ next ∷ []) ≡ (next == vertex)
ends_at-last vertex next [] = refl
ends_at-last vertex next (number ∷ []) = refl
ends_at-last vertex next (number ∷ other ∷ group) = ends_at-last vertex next (other ∷ group)

pub length-times : (power : ℕ) (group : List ℕ) → length (times power group) ≡ power * length group
length-times zero group = omega arith
length-times (suc power) group =
    length-append group (times power group) ∙ omega (arith, length-times power group)

times-more : (power : ℕ) (group : List ℕ) → times (suc power) group ≡ times power group ++ group
times-more zero group = append-nil group
  where
    append-nil : (xs : List ℕ) → xs ++ [] ≡ xs
    append-nil [] = refl
    append-nil (x ∷ xs) = ap (λ ys. x ∷ ys) (append-nil xs)
times-more (suc power) group =
    ap (λ rest. group ++ rest) (times-more power group) ∙ sym (append_assoc group (times power group) group)

pub times-next : (power next : ℕ) (group : List ℕ) → next ≡ power + 1 → times next group ≡ times power group ++ group
times-next power next group is = ap (λ n. times n group) (let more : next ≡ suc power = omega (arith, is) in more) ∙ times-more power group

pub capped-sum : (a b c : ℕ) → a ≡ capped b → min (a + c) (2 ^ 64 - 1) ≡ capped (b + c)
capped-sum a b c is = omega (arith, is)

pub capped-product : (a b power : ℕ) → a ≡ capped b → min (a * power) (2 ^ 64 - 1) ≡ capped (power * b)
capped-product a b zero is = omega arith
capped-product a b (suc power) is = by_size (nat_lt (2 ^ 64 - 1) b) refl
  where
    turned : suc power * b ≡ b * suc power
    turned = mul_comm (suc power) b

    by_size : (large : Bool) → nat_lt (2 ^ 64 - 1) b ≡ large → min (a * suc power) (2 ^ 64 - 1) ≡ capped (suc power * b)
    by_size true e =
        let less : 2 ^ 64 - 1 < b = ltb-true _ _ e in
        let more : a ≤ a * suc power = le-mul_of_pos_right a (omega arith) in
        let most : b ≤ b * suc power = le-mul_of_pos_right b (omega arith) in
        omega (arith, is, less, more, most, turned)
    by_size false e =
        let few : b ≤ 2 ^ 64 - 1 = ltb-false _ _ e in
        let same : a ≡ b = omega (arith, is, few) in
        ap (λ n. min (n * suc power) (2 ^ 64 - 1)) same ∙ ap capped (sym turned)

-- ---- a walk counted further

pub counted_on : (line : Line) (vertex next : ℕ) (old new : List (List ℕ)) (count more total : ℕ) (written : List ℕ)
    → IsCountedTo line vertex old count → more ≡ capped (length written)
    → rest_of line.number vertex None old ≡ put_before written (rest_of line.number next None new)
    → total ≡ min (count + more) (2 ^ 64 - 1) → IsCountedTo line next new total
counted_on line vertex next old new count more total written so_far many rest is =
    let both = length-append so_far.walk written in
    record {
      walk = so_far.walk ++ written;
      some = omega (arith, so_far.some, both);
      counted = is ∙ omega (arith, so_far.some, so_far.counted, many, both);
      rest = so_far.rest ∙ ap (put_before so_far.walk) rest ∙ put_before-twice so_far.walk written (rest_of line.number next None new);
    }

pub counted_first : (line : Line) (first : ℕ) (new : List (List ℕ))
    → each_some token_of line.words ≡ some_first (Some (Number first)) (each_some token_of new) → IsCountedTo line first new 0
counted_first line first new is = record {
  walk = first ∷ [];
  some = omega arith;
  counted = refl;
  rest = walk_on-first line.number first line.words new is;
}

-- a group was read, of a line with that number
pub group_read : (line other vertex : ℕ) (old new : List (List ℕ)) (written : List ℕ) → other ≡ line
    → rest_of other vertex (Some []) old ≡ put_before written (rest_of other vertex None new)
    → rest_of line vertex (Some []) old ≡ put_before written (rest_of line vertex None new)
group_read line other vertex old new written here is =
    subst (λ n. rest_of n vertex (Some []) old ≡ put_before written (rest_of n vertex None new)) here is

-- ---- room

-- what is before the rest of a walk that is known, and the rest
pub record IsLeft (first : List ℕ) (rest : Result (List ℕ) WalkFault) (whole : List ℕ) : Type 0 where
  pub left : List ℕ
  pub rest_is : rest ≡ Ok left
  pub parts : length first + length left ≡ length whole

pub room_left : (first whole : List ℕ) (read rest : Result (List ℕ) WalkFault) → read ≡ Ok whole → read ≡ put_before first rest
    → IsLeft first rest whole
room_left first whole read (Err fault) known is = let wrong : put_before first (Err fault) ≡ Ok whole = sym is ∙ known in cc
room_left first whole read (Ok left) known is =
    let same : put_before first (Ok left) ≡ Ok whole = sym is ∙ known in
    let parts : first ++ left ≡ whole = cc in
    record { left = left; rest_is = refl; parts = sym (length-append first left) ∙ ap length parts }

pub times-le : (less more : ℕ) (group : List ℕ) → less ≤ more → length (times less group) ≤ length (times more group)
times-le less more group le =
    let fewer : less * length group ≤ more * length group = mul-le-mul_right (length group) le in
    omega (arith, fewer, length-times less group, length-times more group)
