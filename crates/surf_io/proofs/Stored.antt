-- Looking a file up by its name.
use Rattle.surf_io.proofs.Common.{◌≡◌, ℕ, List, ◌∷◌, true, false, nat_eq, cond, Option, Some, ap, sym, ◌∙◌, subst, slice_cmp, texts_ties, nat_list_cmp_total, find, nat_cmp, eq_by_cmp}
use Rattle.std.proofs.lemmas.Cmp.{eq_by_cmp_equiv}
use Rattle.std.specs.Option.{IsSomeAnd}
use lib.Pointwise.{pointwise}

same_test : (name key : List ℕ) → pointwise nat_eq key name ≡ eq_by_cmp (slice_cmp nat_cmp) name key
same_test name key = texts_ties key name ∙ (eq_by_cmp_equiv nat_list_cmp_total).symm key name

-- the first file has the name
pub find-here : (name key bytes : List ℕ) (rest : List (List ℕ × List ℕ)) → true ≡ pointwise nat_eq key name
    → find (slice_cmp nat_cmp) name ((key, bytes) ∷ rest) ≡ Some bytes
find-here name key bytes rest is = ap (λ b. cond b (Some bytes) (find (slice_cmp nat_cmp) name rest)) (sym (is ∙ same_test name key))

-- the first file has another name
pub find-past : (name key bytes : List ℕ) (rest : List (List ℕ × List ℕ)) → false ≡ pointwise nat_eq key name
    → find (slice_cmp nat_cmp) name ((key, bytes) ∷ rest) ≡ find (slice_cmp nat_cmp) name rest
find-past name key bytes rest is = ap (λ b. cond b (Some bytes) (find (slice_cmp nat_cmp) name rest)) (sym (is ∙ same_test name key))

pub IsSomeAnd-found : (found : Option (List ℕ)) (bytes : List ℕ) (P : List ℕ → Type 0) → found ≡ Some bytes → P bytes → IsSomeAnd found P
IsSomeAnd-found found bytes P is holds = subst (λ o. IsSomeAnd o P) (sym is) holds
