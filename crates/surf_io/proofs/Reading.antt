-- Reading a file in pieces.
use Rattle.surf_io.proofs.Common.{◌≡◌, ℕ, ◌+◌, ◌≤◌, List, ◌++◌, length, take, drop, Option, None, Some, IfSome, arith, sym, ap, ◌∙◌, take-add, take-append-add, length-drop, length-take, length-take-le, take-take, take-append-le, GivesFrom, append_assoc}

-- the first `filled` bytes are the file's
abbrev pub IsReadUpTo : ℕ → List ℕ → List ℕ → Type 0
IsReadUpTo filled bytes file = (filled ≤ length file) × (take filled bytes ≡ take filled file)

-- what was filled before a piece, and n bytes of the piece
pub take-filled : (before piece rest tail : List ℕ) (filled n all : ℕ) → filled ≤ length before → n ≤ length piece → filled + n ≤ all
    → take (filled + n) (take all (take filled before ++ (piece ++ rest) ++ tail)) ≡ take filled before ++ take n piece
take-filled before piece rest tail filled n all old bound within =
    let long : length (take filled before) ≡ filled = length-take-le filled before old in
    let here : take n (piece ++ (rest ++ tail)) ≡ take n piece = take-append-le n piece (rest ++ tail) bound in
    let less : take (filled + n) (take all (take filled before ++ (piece ++ rest) ++ tail))
    ≡ take (filled + n) (take filled before ++ (piece ++ rest) ++ tail) = take-take (filled + n) all _ within in
    less
    ∙ ap (take (filled + n)) (append_assoc (take filled before) (piece ++ rest) tail)
    ∙ ap (λ k. take (k + n) (take filled before ++ ((piece ++ rest) ++ tail))) (sym long)
    ∙ take-append-add (take filled before) ((piece ++ rest) ++ tail) n
    ∙ ap (λ xs. take filled before ++ take n xs) (append_assoc piece rest tail)
    ∙ ap (λ xs. take filled before ++ xs) here

-- n bytes more of the file
pub IsReadUpTo-more : (file before piece after : List ℕ) (filled n : ℕ) → n ≤ length piece
    → take (filled + n) after ≡ take filled before ++ take n piece
    → GivesFrom file filled n piece
    → IsReadUpTo filled before file
    → IsReadUpTo (filled + n) after file
IsReadUpTo-more file before piece after filled n bound is given old = (
  omega (arith, length-take-le n piece bound, ap length given.bytes, length-take n (drop filled file), length-drop filled file, old.0),
  is ∙ ap (λ xs. xs ++ take n piece) old.1 ∙ ap (λ xs. take filled file ++ xs) given.bytes ∙ sym (take-add filled n file),
)

pub told_more : (file : Option (List ℕ)) (before piece after : List ℕ) (filled n : ℕ) → n ≤ length piece
    → take (filled + n) after ≡ take filled before ++ take n piece
    → IfSome file (λ bytes. GivesFrom bytes filled n piece)
    → IfSome file (IsReadUpTo filled before)
    → IfSome file (IsReadUpTo (filled + n) after)
told_more None before piece after filled n bound is given old = tt
told_more (Some bytes) before piece after filled n bound is given old = IsReadUpTo-more bytes before piece after filled n bound is given old
