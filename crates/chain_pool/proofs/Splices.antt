-- Chains that go: given back, or moved into another.
use Rattle.chain_pool.proofs.Common.{Chains, under, IsEdit, list_under, cut, spliced, Parted, PartedChains, joined, joined_option, joined_lists, parted_under, parted_at, pushed_before, cut_here, ◌≡◌, ◌≢◌, ℕ, ◌+◌, ◌-◌, ◌<◌, ◌≤◌, List, [], ◌∷◌, ◌++◌, length, reverse, take, drop, get_or, Option, Some, None, refl, sym, ap, ◌∙◌, arith, zero-add, common_steps, drop_all, drop-drop, nil_from_length}
use Rattle.chain_pool.proofs.Lists.{list_in}
use Rattle.chain_pool.proofs.Soundness.{parted_under-is, under-joined, length-joined}

-- a chain with an empty list has nothing on either side
pub joined-none : (parted : Parted) → joined parted ≡ [] → parted ≡ record { before = []; behind = [] }
joined-none parted e =
    let none : length parted.before + length parted.behind ≡ 0 = sym (length-joined parted) ∙ ap (λ (l : List ℕ). length l) e in
    let first : parted.before ≡ [] = nil_from_length parted.before (omega (arith, none)) in
    let second : parted.behind ≡ [] = nil_from_length parted.behind (omega (arith, none)) in grind arith

pub cut-all : (list : List ℕ) (n : ℕ) → n ≡ length list → cut list 0 n ≡ []
cut-all list n e = drop_all n list (omega (arith, e))

-- so many entries of one chain were moved to the place of another
pub record IsSplicedTo (pool : Chains) (cells : PartedChains) (name place other moved : ℕ) : Type 0 where
  pub here : under cells.chains name
      ≡ Some (record {
        before = reverse (take place (list_under pool.lists name) ++ take moved (list_under pool.lists other));
        behind = drop place (list_under pool.lists name);
      })
  pub there : under cells.chains other ≡ Some (record { before = []; behind = drop moved (list_under pool.lists other) })
  pub others : (k : ℕ) → k ≢ name → k ≢ other → under (joined_lists cells.chains) k ≡ under pool.lists k
  pub spare : cells.spare ≡ pool.spare

same_parted : (xs ys : List (Option Parted)) (k : ℕ) → under ys k ≡ under xs k → parted_under ys k ≡ parted_under xs k
same_parted xs ys k e = rw e refl

pub IsSplicedTo-none : (pool : Chains) (old mid new : PartedChains) (name place other : ℕ) → name ≢ other
    → joined_lists old.chains ≡ pool.lists → old.spare ≡ pool.spare
    → IsEdit old.chains mid.chains name (Some (parted_at (joined (parted_under old.chains name)) place))
    → IsEdit mid.chains new.chains other (Some (parted_at (joined (parted_under mid.chains other)) 0))
    → mid.spare ≡ old.spare → new.spare ≡ mid.spare
    → IsSplicedTo pool new name place other 0
IsSplicedTo-none pool old mid new name place other ne lists spare first second same same2 =
    grind (arith, common_steps, same_parted, list_in, joined, under-joined, under)

moved_more : (front list : List ℕ) (n value : ℕ) → n < length list → value ≡ get_or (drop n list) 0 0
    → value ∷ reverse (front ++ take n list) ≡ reverse (front ++ take (n + 1) list)
moved_more front list n value lt e = grind (arith, common_steps)

pub IsSplicedTo-more : (pool : Chains) (old mid new : PartedChains) (name place other moved value : ℕ) → name ≢ other
    → IsSplicedTo pool old name place other moved
    → moved < length (list_under pool.lists other)
    → value ≡ get_or (parted_under old.chains other).behind 0 0
    → IsEdit old.chains mid.chains other (Some (cut_here (parted_under old.chains other)))
    → IsEdit mid.chains new.chains name (Some (pushed_before (parted_under mid.chains name) value))
    → new.spare ≡ old.spare
    → IsSplicedTo pool new name place other (moved + 1)
IsSplicedTo-more pool old mid new name place other moved value ne so_far lt read cutting pushing spare =
    let list = list_under pool.lists name in
    let rest = list_under pool.lists other in
    let left : parted_under old.chains other ≡ record { before = []; behind = drop moved rest } =
    parted_under-is old.chains other _ so_far.there in
    let first : value ≡ get_or (drop moved rest) 0 0 = read ∙ ap (λ (p : Parted). get_or p.behind 0 0) left in
    record {
      here = grind (arith, pushed_before, moved_more);
      there = pushing.others other (λ e. ne (sym e)) ∙ cutting.here ∙ ap (λ (p : Parted). Some (cut_here p)) left
          ∙ ap (λ (l : List ℕ). Some (record { before = []; behind = l })) (drop-drop 1 moved rest);
      others = λ k nk nk'. under-joined new.chains k ∙ ap joined_option (pushing.others k nk ∙ cutting.others k nk')
          ∙ sym (under-joined old.chains k) ∙ so_far.others k nk nk';
      spare = spare ∙ so_far.spare;
    }

-- how many entries are left
pub IsSplicedTo-left : (pool : Chains) (cells : PartedChains) (name place other moved : ℕ) → IsSplicedTo pool cells name place other moved
    → length (parted_under cells.chains other).behind ≡ length (list_under pool.lists other) - moved
IsSplicedTo-left pool cells name place other moved so_far = grind (arith, common_steps, parted_under-is)

pub IsSplicedTo-total : (pool : Chains) (cells : PartedChains) (name place other : ℕ) → IsSplicedTo pool cells name place other 0
    → length (parted_under cells.chains other).before + length (parted_under cells.chains other).behind
    ≡ length (list_under pool.lists other)
IsSplicedTo-total pool cells name place other start = grind (arith, parted_under-is, zero-add)

pub IsSplicedTo-empty : (pool : Chains) (cells : PartedChains) (name place other moved : ℕ) → IsSplicedTo pool cells name place other moved
    → length (list_under pool.lists other) ≤ moved
    → parted_under cells.chains other ≡ record { before = []; behind = [] }
IsSplicedTo-empty pool cells name place other moved done le = grind (arith, common_steps, parted_under-is)

pub IsSplicedTo-done : (pool : Chains) (cells new : PartedChains) (name place other moved : ℕ) → name ≢ other
    → IsSplicedTo pool cells name place other moved → length (list_under pool.lists other) ≤ moved
    → IsEdit cells.chains new.chains other None
    → under (joined_lists new.chains) name ≡ Some (spliced (list_under pool.lists name) place (list_under pool.lists other))
IsSplicedTo-done pool cells new name place other moved ne done le dropping = grind (arith, common_steps, under-joined)

pub IsSplicedTo-others : (pool : Chains) (cells new : PartedChains) (name place other moved : ℕ)
    → IsSplicedTo pool cells name place other moved → IsEdit cells.chains new.chains other None
    → (k : ℕ) → k ≢ name → k ≢ other → under (joined_lists new.chains) k ≡ under pool.lists k
IsSplicedTo-others pool cells new name place other moved done dropping k nk nk' = grind (arith, under-joined)
