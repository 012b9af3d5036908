-- How chains lie in memory: a chain is two stacks of cells that meet at its place, and the free cells are one more stack.
use Rattle.std.specs.Prelude.{◌≡◌, ℕ, zero, suc, ◌+◌, ◌<◌, ◌≤◌, ◌^◌, List, [], ◌∷◌, ◌++◌, map, reverse, take, drop, count_by, is_some, Option, Some, None}
use Rattle.chain_pool.specs.Chains.{under, cells_in}
use Rattle.chain_pool.specs.declared.cells.Cell.{Cell}
use Rattle.chain_pool.specs.declared.cells.Cell.TheVariants.{Head, Entry}
use Rattle.chain_pool.specs.declared.cells.Stack.{Stack}
use Rattle.chain_pool.specs.declared.cells.TheConstants.{MOST_CELLS}

-- a chain at its place: the entries before the place, the nearest one first, and those from the place on
pub record Parted : Type 0 where
  pub before : List ℕ
  pub behind : List ℕ

-- the list of a chain that is parted at its place
abbrev pub joined : Parted → List ℕ
joined parted = reverse parted.before ++ parted.behind

abbrev pub joined_option : Option Parted → Option (List ℕ)
joined_option (Some parted) = Some (joined parted)
joined_option None = None

-- the lists of chains that are parted
abbrev pub joined_lists : List (Option Parted) → List (Option (List ℕ))
joined_lists chains = map joined_option chains

-- the chain under a name; empty where there is none
abbrev pub parted_under : List (Option Parted) → ℕ → Parted
parted_under chains name = given (under chains name)
  where
    given : Option Parted → Parted
    given (Some parted) = parted
    given None = record { before = []; behind = [] }

-- a list parted at a place
abbrev pub parted_at : List ℕ → ℕ → Parted
parted_at list place = record { before = reverse (take place list); behind = drop place list }

-- a chain with its place one entry further on; the same where none is behind
abbrev pub advanced : Parted → Parted
advanced parted = onward parted.before parted.behind
  where
    onward : List ℕ → List ℕ → Parted
    onward before [] = record { before = before; behind = [] }
    onward before (entry ∷ rest) = record { before = entry ∷ before; behind = rest }

-- a chain with its place one entry back; the same where none is before
abbrev pub retreated : Parted → Parted
retreated parted = back parted.before parted.behind
  where
    back : List ℕ → List ℕ → Parted
    back [] behind = record { before = []; behind = behind }
    back (entry ∷ rest) behind = record { before = rest; behind = entry ∷ behind }

-- a chain with one more entry right before its place
abbrev pub pushed_before : Parted → ℕ → Parted
pushed_before parted value = record { before = value ∷ parted.before; behind = parted.behind }

-- a chain without the entry at its place
abbrev pub cut_here : Parted → Parted
cut_here parted = record { before = parted.before; behind = drop 1 parted.behind }

-- the chains at their places, how many cells can be taken with no memory, and how many of those are made
pub record PartedChains : Type 0 where
  pub chains : List (Option Parted)
  pub spare : ℕ
  pub free : ℕ

-- what each key finds
abbrev pub Memory : Type 0
Memory = ℕ → Option Cell

abbrev pub memory_of : List (Option Cell) → Memory
memory_of slots key = under slots key

-- the values of so many cells, from one cell on along the links
unfoldable pub values : Memory → ℕ → ℕ → List ℕ
values memory zero top = []
values memory (suc count) top = along (memory top) (values memory count)
  where
    along : Option Cell → (ℕ → List ℕ) → List ℕ
    along (Some (Entry next value)) rest = value ∷ rest next
    along (Some (Head left right)) rest = []
    along None rest = []

-- each of so many cells, from one on along the links, is an entry
unfoldable pub IsStack : Memory → ℕ → ℕ → Type 0
IsStack memory zero top = Unit {0}
IsStack memory (suc count) top = (next : ℕ) × (value : ℕ) × (memory top ≡ Some (Entry next value)) × IsStack memory count next

-- the chain whose head this cell is
abbrev pub parted_by : Memory → Option Cell → Option Parted
parted_by memory (Some (Head left right)) =
    Some (record { before = values memory left.len left.top; behind = values memory right.len right.top })
parted_by memory (Some (Entry next value)) = None
parted_by memory None = None

abbrev pub chains_of : List (Option Cell) → List (Option Parted)
chains_of slots = map (parted_by (memory_of slots)) slots

-- the stacks: that of the free cells, and two of each chain
pub data Owner : Type 0 where
  Free : Owner
  Left : ℕ → Owner
  Right : ℕ → Owner

abbrev pub no_cells : Stack
no_cells = record { top = 0; len = 0 }

abbrev pub left_of : Option Cell → Stack
left_of (Some (Head left right)) = left
left_of (Some (Entry next value)) = no_cells
left_of None = no_cells

abbrev pub right_of : Option Cell → Stack
right_of (Some (Head left right)) = right
right_of (Some (Entry next value)) = no_cells
right_of None = no_cells

-- where a stack begins, and how many cells it has
abbrev pub stack_of : Memory → Stack → Owner → Stack
stack_of memory free Free = free
stack_of memory free (Left name) = left_of (memory name)
stack_of memory free (Right name) = right_of (memory name)

-- the cell is no head
abbrev pub IsEntry : Option Cell → Type 0
IsEntry (Some (Entry next value)) = Unit {0}
IsEntry (Some (Head left right)) = ⊥
IsEntry None = ⊥

-- which stack each cell is in, and how many cells of it lie below
abbrev pub Owners : Type 0
Owners = ℕ → Owner × ℕ

-- the stack has so many cells from `top` on, and each is its own
unfoldable pub IsOwned : Memory → Owners → Owner → ℕ → ℕ → Type 0
IsOwned memory owners owner zero top = Unit {0}
IsOwned memory owners owner (suc count) top =
    (next : ℕ) × (value : ℕ) × (memory top ≡ Some (Entry next value)) × (owners top ≡ (owner, count))
    × IsOwned memory owners owner count next

-- each stack is there
abbrev pub AreOwned : Memory → Stack → Owners → Type 0
AreOwned memory free owners =
    (owner : Owner) → IsOwned memory owners owner (stack_of memory free owner).len (stack_of memory free owner).top

-- what holds of the slab of a pool, with its free cells and its spare cells: no cell is in two stacks; the cells that
-- are still to be made have room, and keys of 32 bits; and all numbers of cells have 32 bits
pub record IsSound (slots : List (Option Cell)) (capacity : ℕ) (free : Stack) (spare : ℕ) : Type 0 where
  pub owners : Owners
  pub stacks : AreOwned (memory_of slots) free owners
  pub made : free.len ≤ spare
  pub room : count_by is_some slots + spare ≤ capacity + free.len
  pub keys : free.len < spare → capacity ≤ MOST_CELLS
  pub fits : cells_in (joined_lists (chains_of slots)) + spare < 2 ^ 32
