-- A list of lists, kept as one list and the places where its parts end.
use Rattle.std.specs.Prelude.{◌≡◌, ℕ, zero, suc, ◌+◌, ◌-◌, ◌*◌, ◌/◌, ◌<◌, ◌≤◌, List, [], ◌∷◌, ◌++◌, length, map, take, drop, slice_index}
use Rattle.surf_model.specs.declared.limits.TheConstants.{MOST_SIDES}

-- the parts of xs that end at these places, the first of them starting at `from`
abbrev pub parts : {A : Type 0} → ℕ → List ℕ → List A → List (List A)
parts from [] xs = []
parts from (end ∷ ends) xs = take (end - from) (drop from xs) ∷ parts end ends xs

-- the places rise from `from` on, and the last of them is n
abbrev pub EndsRise : ℕ → List ℕ → ℕ → Type 0
EndsRise from [] n = from ≡ n
EndsRise from (end ∷ ends) n = (from ≤ end) × EndsRise end ends n

-- where the last part ends
abbrev pub last_end : List ℕ → ℕ
last_end ends = slice_index (0 ∷ ends) (length ends)

-- the place lies in the part
pub record IsInPart (ends : List ℕ) (place part : ℕ) : Type 0 where
  pub there : part < length ends
  pub from : slice_index (0 ∷ ends) part ≤ place
  pub to : place < slice_index ends part

-- what holds of the places where parts end, and of the parts that are marked: for each sixteenth place its part
pub record IsPartList (ends marks : List ℕ) : Type 0 where
  pub rising : EndsRise 0 ends (last_end ends)
  pub few : length ends ≤ last_end ends
  pub room : last_end ends ≤ MOST_SIDES
  pub each_sixteenth : length marks ≡ (last_end ends + 15) / 16
  pub marked : (k : ℕ) → k < length marks → IsInPart ends (16 * k) (slice_index marks k)

-- where parts of one size end
abbrev pub equal_ends : ℕ → ℕ → List ℕ
equal_ends size zero = []
equal_ends size (suc count) = equal_ends size count ++ (size * suc count) ∷ []

-- where parts end, the first of which have one size, and the others end at these places, counted from where the first ones end
abbrev pub joined_ends : ℕ → ℕ → List ℕ → List ℕ
joined_ends size count rest = equal_ends size count ++ map (λ end. size * count + end) rest

-- what holds of such parts
pub record AreJoinedParts (size count : ℕ) (rest : List ℕ) : Type 0 where
  pub some : 0 < count → 0 < size
  pub few : count + length rest ≤ size * count + last_end rest
  pub room : size * count + last_end rest ≤ MOST_SIDES
