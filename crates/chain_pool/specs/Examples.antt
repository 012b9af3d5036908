-- What the definitions give on small lists.
use Rattle.std.specs.Prelude.{◌≡◌, ℕ, List, [], ◌∷◌, Option, Some, None, refl}
use Rattle.chain_pool.specs.Chains.{under, list_under, cells_in, inserted, cut, spliced}
use Rattle.chain_pool.specs.Memory.{parted_at, advanced, retreated}

pub an_entry_goes_in : inserted (1 ∷ 3 ∷ []) 1 2 ≡ 1 ∷ 2 ∷ 3 ∷ []
an_entry_goes_in = refl

pub an_entry_behind_the_last : inserted (1 ∷ 2 ∷ []) 2 3 ≡ 1 ∷ 2 ∷ 3 ∷ []
an_entry_behind_the_last = refl

pub two_entries_go : cut (1 ∷ 2 ∷ 3 ∷ 4 ∷ []) 1 3 ≡ 1 ∷ 4 ∷ []
two_entries_go = refl

pub a_list_goes_in : spliced (1 ∷ 4 ∷ []) 1 (2 ∷ 3 ∷ []) ≡ 1 ∷ 2 ∷ 3 ∷ 4 ∷ []
a_list_goes_in = refl

-- two chains are live: one of two entries, and one of none
abbrev pub two_chains : List (Option (List ℕ))
two_chains = Some (7 ∷ 8 ∷ []) ∷ None ∷ Some [] ∷ []

pub the_first_chain : list_under two_chains 0 ≡ 7 ∷ 8 ∷ []
the_first_chain = refl

pub no_chain_there : under two_chains 1 ≡ None
no_chain_there = refl

pub each_chain_costs_a_cell : cells_in two_chains ≡ 4
each_chain_costs_a_cell = refl

pub parted_at_its_place : parted_at (1 ∷ 2 ∷ 3 ∷ []) 2 ≡ record { before = 2 ∷ 1 ∷ []; behind = 3 ∷ [] }
parted_at_its_place = refl

pub one_entry_on : advanced (parted_at (1 ∷ 2 ∷ 3 ∷ []) 1) ≡ parted_at (1 ∷ 2 ∷ 3 ∷ []) 2
one_entry_on = refl

pub one_entry_back : retreated (parted_at (1 ∷ 2 ∷ 3 ∷ []) 1) ≡ parted_at (1 ∷ 2 ∷ 3 ∷ []) 0
one_entry_back = refl
