-- Lines of words that no format of keywords and numbers tells apart.
use Rattle.std.specs.Prelude.{◌≡◌, ℕ, ◌^◌, ◌≤◌, nat_le, Bool, true, not, ◌&&◌, List, [], ◌∷◌, length, take}
use Rattle.std.specs.List.{list_all}
use Rattle.std.specs.Str.{bytes_eq}
use Rattle.text_scan.specs.Numbers.{is_digit, number_below}
use Rattle.file_pieces.specs.declared.short_line.TheConstants.{MOST_WORDS}

-- a keyword: at most nine bytes, and no digit among them
abbrev pub is_keyword : List ℕ → Bool
is_keyword word = nat_le (length word) 9 && list_all (λ byte. not (is_digit byte)) word

-- Neither of two words is a keyword that the other is not, and as naturals of at most 64 bits they are the same, or both are none.
pub record SameWord (word other : List ℕ) : Type 0 where
  pub keyword : (wanted : List ℕ) → is_keyword wanted ≡ true → bytes_eq word wanted ≡ bytes_eq other wanted
  pub number : (bound : ℕ) → bound ≤ 2 ^ 64 → number_below bound word ≡ number_below bound other

-- as many words, each the same
abbrev pub SameWords : List (List ℕ) → List (List ℕ) → Type 0
SameWords [] [] = Unit {0}
SameWords [] (other ∷ others) = ⊥
SameWords (word ∷ words) [] = ⊥
SameWords (word ∷ words) (other ∷ others) = SameWord word other × SameWords words others

-- the same to whoever looks at the first seven words of a line
abbrev pub SameLine : List (List ℕ) → List (List ℕ) → Type 0
SameLine words others = SameWords (take MOST_WORDS words) (take MOST_WORDS others)
