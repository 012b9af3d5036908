-- The lines of a certificate, written one by one.
use Rattle.homology_files.proofs.Common.{EdgeNumber, FaceNumber, face_number_words, edge_words, ◌≡◌, ℕ, List, [], ◌∷◌, ◌++◌, ◌+◌, length, take, sym, ap, subst, ◌∙◌, map, All-more, flat_map-map, slice_get_within, get_or_from_slice_get, flat_map, All, Option, Some, Result, decimal, slice_get, only-none, gathers-none, gathers-put, puts-then, puts-same, line_of}
use Rattle.surf_io.specs.Gathered.{Puts}

abbrev pub face_line : FaceNumber → List ℕ
face_line line = line_of (face_number_words line)

abbrev pub edge_line : EdgeNumber → List ℕ
edge_line line = line_of (edge_words line)

-- the head was put into a piece that held nothing, and with the lines behind it the call ends so
pub puts_behind_head : {X V E A : Type 0} {written : X → Option (List ℕ)} {settled faults : X → ℕ} {result : Result V E} {old new : X}
    {held begun last : List ℕ} (keyword : List ℕ) (count : ℕ) (words : A → List (List ℕ)) (lines : List A) → held ≡ []
    → begun ≡ line_of (keyword ∷ decimal count ∷ []) → count ≡ length lines
    → Puts written settled faults result old new begun last (flat_map (λ line. line_of (words line)) lines)
    → Puts written settled faults result old new held last
    (flat_map line_of ((keyword ∷ decimal (length lines) ∷ []) ∷ map words lines))
puts_behind_head {X} {V} {E} {A} {written} {settled} {faults} {result} {old} {new} {held} {begun} keyword count words lines none put counted
    puts =
    let head : List ℕ = line_of (keyword ∷ decimal count ∷ []) in
    let put_behind : begun ≡ held ++ head = put ∙ ap (λ p. p ++ head) (sym none) in
    puts-same
    (ap (λ t. head ++ t) (sym (flat_map-map line_of words lines))
    ∙ ap (λ n. line_of (keyword ∷ decimal n ∷ []) ++ flat_map line_of (map words lines)) counted)
    (puts-then (gathers-put head (gathers-none old held) put_behind) (only-none settled faults old) puts)

-- what holds of the first ones and of the next one holds of one more
pub all-next : {X : Type 0} (P : X → Type 0) (xs : List X) (k : ℕ) (x : X) → All P (take k xs) → slice_get xs k ≡ Some x → P x
    → All P (take (k + 1) xs)
all-next P xs k x so_far here holds =
    All-more P xs k x (slice_get_within xs k x here) so_far (subst P (sym (get_or_from_slice_get xs k x x here)) holds)
