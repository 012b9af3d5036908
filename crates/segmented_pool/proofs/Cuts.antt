-- Entries of a chain that go, some at a time.
use Rattle.segmented_pool.proofs.Common.{list_is, list_under-is, Chains, under, IsUnder, IsEdit, list_under, cut, ◌≡◌, ◌≢◌, ℕ, ◌+◌, ◌≤◌, List, length, Some, ap, ◌∙◌, arith, common_steps}
use Rattle.segmented_pool.proofs.Lists.{cut_again, length-cut}
use Rattle.segmented_pool.proofs.Moved.{live_from}

-- but for so many, the entries of a chain between two places are gone
pub record IsCutSome (old new : Chains) (name from to left : ℕ) : Type 0 where
  pub live : IsUnder new.lists name
  pub within : from + left ≤ length (list_under new.lists name)
  pub list : cut (list_under new.lists name) from (from + left) ≡ cut (list_under old.lists name) from to
  pub others : (other : ℕ) → other ≢ name → under new.lists other ≡ under old.lists other
  pub spare : new.spare + from + left ≡ old.spare + to

pub cut_nothing : (old : Chains) (name from to left : ℕ) → IsUnder old.lists name → from + left ≡ to
    → to ≤ length (list_under old.lists name)
    → IsCutSome old old name from to left
cut_nothing old name from to left live e le = grind arith

module _ (old new : Chains) (name from to left : ℕ) (is : IsCutSome old new name from to left) where
  pub cut_some : (after : Chains) (gone rest : ℕ) → gone + rest ≡ left
      → IsEdit new.lists after.lists name (Some (cut (list_under new.lists name) from (from + gone)))
      → after.spare ≡ new.spare + gone → IsCutSome old after name from to rest
  cut_some after gone rest e edit spare =
      let list : List ℕ = list_under new.lists name in
      let now : list_under after.lists name ≡ cut list from (from + gone) = list_under-is after.lists name _ edit.here in
      let sum : from + gone + rest ≡ from + left = omega (arith, e) in
      record {
        live = live_from after.lists name _ edit.here;
        within = grind (arith, length-cut);
        list = ap (λ (l : List ℕ). cut l from (from + rest)) now ∙ cut_again list from (omega (arith, is.within)) (from + gone) rest
            ∙ ap (λ (k : ℕ). cut list from k) sum ∙ is.list;
        others = λ other ne. edit.others other ne ∙ is.others other ne;
        spare = omega (arith, is.spare, spare, e);
      }

  pub cut_done : left ≡ 0 → IsEdit old.lists new.lists name (Some (cut (list_under old.lists name) from to))
  cut_done none = grind (arith, common_steps, list_is)
