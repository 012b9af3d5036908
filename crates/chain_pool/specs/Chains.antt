-- What is seen of a pool: the list of each live chain, and how many cells can still be taken.
use Rattle.std.specs.Prelude.{◌≡◌, ◌≢◌, ℕ, ◌+◌, List, [], ◌∷◌, ◌++◌, length, take, drop, sum_by, slice_index_or, Option, Some, None, IsSome}

-- under each name the list of the chain that has it, or nothing where no live chain has it; and the number of cells
-- that can be taken with no memory
pub record Chains : Type 0 where
  pub lists : List (Option (List ℕ))
  pub spare : ℕ

module _ {A : Type 0} where
  -- what is under a name
  abbrev pub under : List (Option A) → ℕ → Option A
  under things name = slice_index_or things name None

  -- something is under the name
  abbrev pub IsUnder : List (Option A) → ℕ → Type 0
  IsUnder things name = IsSome (under things name)

  -- under one name there is this now, and under each other name what there was
  pub record IsEdit (old new : List (Option A)) (name : ℕ) (thing : Option A) : Type 0 where
    pub here : under new name ≡ thing
    pub others : (other : ℕ) → other ≢ name → under new other ≡ under old other

  -- under each name there is what there was
  abbrev pub IsAlike : List (Option A) → List (Option A) → Type 0
  IsAlike old new = (name : ℕ) → under new name ≡ under old name

-- the chain that has this name is live
abbrev pub IsLive : Chains → ℕ → Type 0
IsLive pool name = IsUnder pool.lists name

-- the list under a name; empty where there is none
abbrev pub list_under : List (Option (List ℕ)) → ℕ → List ℕ
list_under lists name = given (under lists name)
  where
    given : Option (List ℕ) → List ℕ
    given (Some list) = list
    given None = []

-- the list of a chain
abbrev pub list_of : Chains → ℕ → List ℕ
list_of pool name = list_under pool.lists name

-- the cells of a chain: one more than it has entries
abbrev pub cells_of : Option (List ℕ) → ℕ
cells_of (Some list) = length list + 1
cells_of None = 0

-- the cells of all live chains
abbrev pub cells_in : List (Option (List ℕ)) → ℕ
cells_in lists = sum_by cells_of lists

-- a list with one more entry, which becomes the entry at `place`
abbrev pub inserted : List ℕ → ℕ → ℕ → List ℕ
inserted list place value = take place list ++ value ∷ drop place list

-- a list without the entries from `from` up to `to`, without `to`
abbrev pub cut : List ℕ → ℕ → ℕ → List ℕ
cut list from to = take from list ++ drop to list

-- a list with another one put in at `place`
abbrev pub spliced : List ℕ → ℕ → List ℕ → List ℕ
spliced list place other = take place list ++ (other ++ drop place list)
