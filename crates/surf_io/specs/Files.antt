-- Files by their names, and what a read gives of one.
use Rattle.std.specs.Prelude.{◌≡◌, ℕ, ◌≤◌, ◌⊎◌, List, take, drop, length, cond, Option, None, Some}
use Rattle.std.specs.Ordering.{nat_cmp}
use Rattle.std.specs.Cmp.Lexicographic.{slice_cmp, nat_list_cmp_total}
use Rattle.std.proofs.Common.{ap, ◌∙◌}
use Rattle.std.proofs.lemmas.Cmp.{eq_by_cmp_equiv}
use Rattle.std.specs.FinMap as map

-- a map from the names of files to their bytes; a name is the bytes of its text
abbrev pub Files : Type 0
Files = map.FinMap (slice_cmp nat_cmp) (List ℕ)

-- the bytes of the file with that name, where the files are told and it is one of them
abbrev pub file_of : Option Files → List ℕ → Option (List ℕ)
file_of None name = None
file_of (Some files) name = map.get files name

-- a file that was put is told
pub told_after_put : (files : Files) (name bytes : List ℕ) → file_of (Some (map.insert files name bytes)) name ≡ Some bytes
told_after_put files name bytes =
    map.get-insert nat_list_cmp_total files name bytes name
    ∙ ap (λ b. cond b (Some bytes) (map.get files name)) ((eq_by_cmp_equiv nat_list_cmp_total).refl name)

-- n bytes that were read into a piece are those of the file from `at`, none only with no room or past the file's end
pub record GivesFrom (file : List ℕ) (at n : ℕ) (piece : List ℕ) : Type 0 where
  pub bytes : take n piece ≡ take n (drop at file)
  pub end : n ≡ 0 → (length piece ≡ 0) ⊎ (length file ≤ at)
