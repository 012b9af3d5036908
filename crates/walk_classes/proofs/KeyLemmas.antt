-- Two keys are one for a map exactly where they tell the same.
use Rattle.walk_classes.proofs.Common.{◌≡◌, ℕ, List, refl, ap, sym, ◌∙◌, subst, ordering_then, nat_cmp, int_cmp, ℤ, Ordering, Less, Equal, Greater, key_order, word_of_key, AreSameKeys, Key}
use Rattle.std.proofs.lemmas.Cmp.{tied_itself, nat_cmp_total, int_cmp_total, nat_list_cmp_total}
use Rattle.std.proofs.lemmas.Map.Lookups.{exact_bytes, exact_unsigned, exact_signed}
use Rattle.std.specs.Cmp.Lexicographic.{slice_cmp}
use Rattle.walk_classes.specs.declared.key.WordKey.{WordKey}
use Rattle.walk_classes.specs.declared.key.WordKey.TheVariants.{Turns, Flat}
use Rattle.turn_words.specs.declared.word.Word.TheVariants as words
use Rattle.walk_classes.specs.contracts.key.WordKeyOrd.TheImpl as word_ord

abbrev word_order : WordKey → WordKey → Ordering
word_order = (word_ord.ghosts).cmp

both_equal : (one other : Ordering) → ordering_then one other ≡ Equal → (one ≡ Equal) × (other ≡ Equal)
both_equal Less other e = absurd cc
both_equal Equal other e = (refl, e)
both_equal Greater other e = absurd cc

word_told : (one other : WordKey) → word_order one other ≡ Equal → word_of_key one ≡ word_of_key other
word_told (Turns turns) (Turns others) e = ap words.Turns (exact_bytes turns.items others.items e)
word_told (Turns turns) (Flat x y) e = absurd cc
word_told (Flat x y) (Turns turns) e = absurd cc
word_told (Flat x y) (Flat right up) e =
    let parts = both_equal (int_cmp x right) (int_cmp y up) e in
    ap (λ (u : ℤ). words.Flat u y) (exact_signed x right parts.0) ∙ ap (words.Flat right) (exact_signed y up parts.1)

pub told_same : (one other : Key) → key_order one other ≡ Equal → AreSameKeys one other
told_same one other e =
    let first = both_equal (nat_cmp one.start.0 other.start.0)
    (ordering_then (nat_cmp one.end.0 other.end.0) (word_order one.word other.word)) e in
    let second = both_equal (nat_cmp one.end.0 other.end.0) (word_order one.word other.word) first.1 in
    record {
      start = exact_unsigned one.start.0 other.start.0 first.0;
      end = exact_unsigned one.end.0 other.end.0 second.0;
      word = word_told one.word other.word second.1;
    }

-- ---- and back

same_turns : (turns others : List ℕ) → words.Turns turns ≡ words.Turns others → turns ≡ others
same_turns turns others e = cc

same_point : (x y right up : ℤ) → words.Flat x y ≡ words.Flat right up → (x ≡ right) × (y ≡ up)
same_point x y right up e = (cc, cc)

equal_numbers : (x y : ℕ) → x ≡ y → nat_cmp x y ≡ Equal
equal_numbers x y e = subst (λ (z : ℕ). nat_cmp x z ≡ Equal) e (tied_itself nat_cmp_total x)

equal_integers : (x y : ℤ) → x ≡ y → int_cmp x y ≡ Equal
equal_integers x y e = subst (λ (z : ℤ). int_cmp x z ≡ Equal) e (tied_itself int_cmp_total x)

equal_both : (one other : Ordering) → one ≡ Equal → other ≡ Equal → ordering_then one other ≡ Equal
equal_both one other e f = ap (λ (o : Ordering). ordering_then o other) e ∙ f

word_equal : (one other : WordKey) → word_of_key one ≡ word_of_key other → word_order one other ≡ Equal
word_equal (Turns turns) (Turns others) e =
    subst (λ (l : List ℕ). slice_cmp nat_cmp turns.items l ≡ Equal) (same_turns turns.items others.items e)
    (tied_itself nat_list_cmp_total turns.items)
word_equal (Turns turns) (Flat x y) e = absurd cc
word_equal (Flat x y) (Turns turns) e = absurd cc
word_equal (Flat x y) (Flat right up) e =
    let parts = same_point x y right up e in
    equal_both (int_cmp x right) (int_cmp y up) (equal_integers x right parts.0) (equal_integers y up parts.1)

pub told_equal : (one other : Key) → AreSameKeys one other → key_order one other ≡ Equal
told_equal one other same =
    equal_both (nat_cmp one.start.0 other.start.0) (ordering_then (nat_cmp one.end.0 other.end.0) (word_order one.word other.word))
    (equal_numbers one.start.0 other.start.0 same.start)
    (equal_both (nat_cmp one.end.0 other.end.0) (word_order one.word other.word) (equal_numbers one.end.0 other.end.0 same.end)
    (word_equal one.word other.word same.word))

pub same_back : (one other : Key) → AreSameKeys one other → AreSameKeys other one
same_back one other same = record { start = sym same.start; end = sym same.end; word = sym same.word }
