-- What is read of one thing after another.
use Rattle.std.specs.Prelude.{List, [], ◌∷◌, Option, Some, None, option_and_then, Result, Ok, Err}

-- what was read first, before what is read of the others; nothing where one of them is nothing
abbrev pub some_first : {B : Type 0} → Option B → Option (List B) → Option (List B)
some_first None others = None
some_first (Some y) None = None
some_first (Some y) (Some ys) = Some (y ∷ ys)

-- what is read of each, where something is read of every one
abbrev pub each_some : {A B : Type 0} → (A → Option B) → List A → Option (List B)
each_some read [] = Some []
each_some read (x ∷ xs) = some_first (read x) (each_some read xs)

-- what was read first, before what is read of the others; or the first fault
abbrev pub ok_first : {B E : Type 0} → Result B E → Result (List B) E → Result (List B) E
ok_first (Err fault) others = Err fault
ok_first (Ok y) (Err fault) = Err fault
ok_first (Ok y) (Ok ys) = Ok (y ∷ ys)

-- what is read of each, or the first fault among them
abbrev pub each_ok : {A B E : Type 0} → (A → Result B E) → List A → Result (List B) E
each_ok read [] = Ok []
each_ok read (x ∷ xs) = ok_first (read x) (each_ok read xs)

-- one reading, and then another
infixl 10 ◌>>=◌
abbrev pub ◌>>=◌ : {A B : Type 0} → Option A → (A → Option B) → Option B
read >>= next = option_and_then next read
