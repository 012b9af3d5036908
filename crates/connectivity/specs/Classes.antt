-- Numbers in classes, and how they lie in memory: a forest whose roots are the least members of the classes.
use Rattle.std.specs.Prelude.{◌≡◌, ℕ, zero, suc, ◌<◌, ◌≤◌, ◌==◌, min, max, if◌then◌else◌, List, length, map, slice_index}
use Rattle.std.specs.List.{range_with_len}

-- a number, where the one stands for the other
abbrev pub renamed : ℕ → ℕ → ℕ → ℕ
renamed old new x = if x == old then new else x

-- the least members once the classes of x and y are made one: the greater of the two gives way to the lesser
abbrev pub joined_at : List ℕ → ℕ → ℕ → List ℕ
joined_at least x y =
    let a = slice_index least x in
    let b = slice_index least y in
    map (renamed (max a b) (min a b)) least

-- numbers of one class stay in one class
abbrev pub KeepsJoined : List ℕ → List ℕ → Type 0
KeepsJoined old new =
    (x y : ℕ) → x < length old → y < length old → slice_index old x ≡ slice_index old y → slice_index new x ≡ slice_index new y

-- each number has a member of its own class, which is not greater, and which has itself
pub record AreLeastMembers (least : List ℕ) : Type 0 where
  pub lesser : (x : ℕ) → x < length least → slice_index least x ≤ x
  pub itself : (x : ℕ) → x < length least → slice_index least (slice_index least x) ≡ slice_index least x

-- each number has a parent that is not greater; a root is its own
pub record IsForest (parents : List ℕ) : Type 0 where
  pub falls : (x : ℕ) → x < length parents → slice_index parents x ≤ x

-- up to so many steps from child to parent
abbrev pub ancestor : List ℕ → ℕ → ℕ → ℕ
ancestor parents zero x = x
ancestor parents (suc steps) x = ancestor parents steps (slice_index parents x)

-- the root above x: as many steps as there are numbers reach it where no parent is greater than its child
unfoldable pub root_of : List ℕ → ℕ → ℕ
root_of parents x = ancestor parents (length parents) x

-- the roots of all numbers
unfoldable pub roots_of : List ℕ → List ℕ
roots_of parents = map (root_of parents) (range_with_len 0 (length parents))

-- two forests over the same numbers with the same roots
pub record HasSameRoots (parents others : List ℕ) : Type 0 where
  pub count : length others ≡ length parents
  pub roots : (x : ℕ) → x < length parents → root_of others x ≡ root_of parents x
