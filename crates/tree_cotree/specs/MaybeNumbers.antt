-- How a number, or none, lies in memory: as the number, or one that stands for none.
use Rattle.std.proofs.Common.{◌≡◌, inl, inr, ap, sym, ◌∙◌}
use Rattle.std.proofs.lemmas.Bool.{cases_Bool, eqb-true}
use Rattle.std.specs.Prelude.{ℕ, nat_eq, cond, if◌then◌else◌, Option, Some, None}
use Rattle.tree_cotree.specs.declared.maybe_number.TheConstants.{NO_NUMBER}

abbrev pub option_of_number : ℕ → Option ℕ
option_of_number n = if nat_eq n NO_NUMBER then None else Some n

abbrev pub number_of_option : Option ℕ → ℕ
number_of_option None = NO_NUMBER
number_of_option (Some n) = n

-- the number is found again
pub number_back : (n : ℕ) → number_of_option (option_of_number n) ≡ n
number_back n = elim (cases_Bool (nat_eq n NO_NUMBER)) [
  | inl none ↦ ap (λ b. number_of_option (cond b None (Some n))) none ∙ sym (eqb-true n NO_NUMBER none)
  | inr some ↦ ap (λ b. number_of_option (cond b None (Some n))) some
]
