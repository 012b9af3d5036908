-- The place of a chain: it goes on and back, and the list stays.
use Rattle.chain_pool.proofs.Common.{under, IsUnder, IsEdit, Parted, PartedChains, joined, parted_under, parted_at, advanced, retreated, ◌≡◌, ℕ, List, [], ◌∷◌, ◌++◌, length, reverse, Option, Some, None, refl, sym, ap, ◌∙◌, arith, append_assoc, common_steps, reverse-append, IsSome}
use Rattle.chain_pool.proofs.Soundness.{parted_under-is}

some_parted : (found : Option Parted) → IsSome found → (parted : Parted) × (found ≡ Some parted)
some_parted (Some parted) live = (parted, refl)
some_parted None live = absurd (cc)

pub live_is : (chains : List (Option Parted)) (name : ℕ) → IsUnder chains name → under chains name ≡ Some (parted_under chains name)
live_is chains name live = grind (arith, some_parted, under, parted_under-is)

reverse-cons : (x : ℕ) (xs : List ℕ) → reverse (x ∷ xs) ≡ reverse xs ++ x ∷ []
reverse-cons x xs = reverse-append (x ∷ []) xs

turned : (before : List ℕ) (x : ℕ) (behind : List ℕ) → reverse (x ∷ before) ++ behind ≡ reverse before ++ x ∷ behind
turned before x behind = ap (λ (list : List ℕ). list ++ behind) (reverse-cons x before) ∙ append_assoc (reverse before) (x ∷ []) behind

joined-onward : (before behind : List ℕ) → joined (advanced (record { before = before; behind = behind })) ≡ reverse before ++ behind
joined-onward before [] = refl
joined-onward before (x ∷ rest) = turned before x rest

pub joined-advanced : (parted : Parted) → joined (advanced parted) ≡ joined parted
joined-advanced parted = joined-onward parted.before parted.behind

joined-back : (before behind : List ℕ) → joined (retreated (record { before = before; behind = behind })) ≡ reverse before ++ behind
joined-back [] behind = refl
joined-back (x ∷ rest) behind = sym (turned rest x behind)

pub joined-retreated : (parted : Parted) → joined (retreated parted) ≡ joined parted
joined-retreated parted = joined-back parted.before parted.behind

-- a chain is its list, parted where its place is
pub parted_is : (parted : Parted) (place : ℕ) → length parted.before ≡ place → parted ≡ parted_at (joined parted) place
parted_is parted place e = grind (arith, common_steps)

-- all chains are what they were, but that the place of one may be another
pub record SameLists (old new : PartedChains) (name : ℕ) : Type 0 where
  pub edit : IsEdit old.chains new.chains name (Some (parted_under new.chains name))
  pub list : joined (parted_under new.chains name) ≡ joined (parted_under old.chains name)
  pub names : length new.chains ≡ length old.chains
  pub spare : new.spare ≡ old.spare
  pub free : new.free ≡ old.free

pub SameLists-refl : (chains : PartedChains) (name : ℕ) → IsUnder chains.chains name → SameLists chains chains name
SameLists-refl chains name live = grind (arith, live_is)

pub SameLists-more : (old mid new : PartedChains) (name : ℕ) (thing : Parted) → SameLists old mid name
    → IsEdit mid.chains new.chains name (Some thing) → joined thing ≡ joined (parted_under mid.chains name)
    → length new.chains ≡ length mid.chains → new.spare ≡ mid.spare → new.free ≡ mid.free
    → SameLists old new name
SameLists-more old mid new name thing same edit list names spare free = grind (arith, parted_under-is, joined)

-- at the end the place is the one that was asked for
pub SameLists-done : (old new : PartedChains) (name place : ℕ) → SameLists old new name
    → length (parted_under new.chains name).before ≡ place
    → IsEdit old.chains new.chains name (Some (parted_at (joined (parted_under old.chains name)) place))
SameLists-done old new name place same e = grind (arith, parted_is)
