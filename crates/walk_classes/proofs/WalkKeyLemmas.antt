-- Keys of walks tell their classes, and number them as they come.
use Rattle.walk_classes.proofs.Common.{IsWordIn, mesh_of_finder, ◌≡◌, inl, inr, ℕ, ◌+◌, ◌<◌, List, [], length, get_or, set, get_or-set_same, get_or-set_other, length-set, sym, ap, ◌∙◌, subst, arith, BTreeMap, lookup, is_eq, MatchOption, Option, FaceList, AreWalkPair, HaveCommonEnds, IsWalk, walk_at, AreSameKeys, key_order, word_of_key, AreClasses, IsLeastInClass, HasKept, IsKeyOf, Key}
use Rattle.component_deciding.specs.declared.word_finder.WordFinder.{WordFinder}
use Rattle.walk_translate.specs.Found.{DoDecide}
use Rattle.walk_classes.proofs.SeenLemmas.{AreSeen, IsFirstWith, IsPut, KeysTell, before_or_at, first_is_least, put_one, seen_kept}

-- the walk at a place has the key
abbrev pub HasKey : WordFinder → List (List ℕ) → ℕ → Key → Type 0
HasKey finder walks place key = IsKeyOf finder (walk_at walks place) key

key_alike : (finder : WordFinder) (walk : List ℕ) (one other : Key) → AreSameKeys one other → IsKeyOf finder walk one
    → IsKeyOf finder walk other
key_alike finder walk one other same h = record {
  is_walk = h.is_walk;
  start = sym same.start ∙ h.start;
  end = sym same.end ∙ h.end;
  word = subst (IsWordIn finder walk) same.word h.word;
}

pub keys_tell : (finder : WordFinder) (walks : List (List ℕ)) → DoDecide (mesh_of_finder finder) (IsWordIn finder)
    → KeysTell (mesh_of_finder finder) walks (HasKey finder walks)
keys_tell finder walks decide = record {
  alike = λ i one other. key_alike finder (walk_at walks i) one other;
  told = λ i j one other here there.
      (let pair : HaveCommonEnds (walk_at walks i) (walk_at walks j)
      → AreWalkPair (mesh_of_finder finder) (walk_at walks i) (walk_at walks j) =
      λ ends. record { first_walk = here.is_walk; second_walk = there.is_walk; ends = ends } in
      let told = λ (ends : HaveCommonEnds (walk_at walks i) (walk_at walks j)).
      decide (walk_at walks i) (walk_at walks j) (word_of_key one.word) (word_of_key other.word) (pair ends) here.word there.word in (
        λ same.
            let ends : HaveCommonEnds (walk_at walks i) (walk_at walks j) =
            record { starts = sym here.start ∙ same.start ∙ there.start; ends = sym here.end ∙ same.end ∙ there.end } in
            record { ends = ends; homotopic = (told ends).1 same.word },
        λ same. record {
          start = here.start ∙ same.ends.starts ∙ sym there.start;
          end = here.end ∙ same.ends.ends ∙ sym there.end;
          word = (told same.ends).0 same.homotopic;
        },
      ));
}

-- ---- numbers of the walks so far

-- the walks below n have keys, whose first places a map has, and numbers
pub record AreNumbered (finder : WordFinder) (walks : List (List ℕ)) (n : ℕ) (seen : BTreeMap Key ℕ) (numbers : List ℕ) : Type 0 where
  pub keys : AreSeen (HasKey finder walks) n seen
  pub many : length numbers ≡ length walks
  pub least : (i : ℕ) → i < n → IsLeastInClass (mesh_of_finder finder) walks (walk_at walks i) (get_or numbers i 0)

-- they stay so where the finder keeps its words
pub numbered_kept : (before after : WordFinder) (walks : List (List ℕ)) (n : ℕ) (seen : BTreeMap Key ℕ) (numbers : List ℕ)
    → HasKept before after → DoDecide (mesh_of_finder after) (IsWordIn after) → AreNumbered before walks n seen numbers
    → AreNumbered after walks n seen numbers
numbered_kept before after walks n seen numbers kept decide are = record {
  keys = seen_kept (mesh_of_finder after) walks (HasKey before walks) (HasKey after walks) n seen
      (λ i one other. key_alike before (walk_at walks i) one other)
      (λ i key h. record {
        is_walk = subst (λ (m : FaceList). IsWalk m (walk_at walks i)) (sym kept.mesh) h.is_walk;
        start = h.start;
        end = h.end;
        word = kept.words (walk_at walks i) (word_of_key key.word) h.word;
      }) (keys_tell after walks decide) are.keys;
  many = are.many;
  least = λ i l. subst (λ (m : FaceList). IsLeastInClass m walks (walk_at walks i) (get_or numbers i 0)) (sym kept.mesh) (are.least i l);
}

-- one walk more
pub numbered_more : (finder : WordFinder) (walks : List (List ℕ)) (n : ℕ) (seen next : BTreeMap Key ℕ) (numbers more : List ℕ) (key : Key)
    (first : ℕ) → DoDecide (mesh_of_finder finder) (IsWordIn finder) → n < length walks → AreNumbered finder walks n seen numbers
    → IsKeyOf finder (walk_at walks n) key → IsPut seen next key n first → more ≡ set numbers n first
    → AreNumbered finder walks (n + 1) next more
numbered_more finder walks n seen next numbers more key first decide l are has put e =
    let mesh : FaceList = mesh_of_finder finder in
    let tell = keys_tell finder walks decide in
    let both = put_one mesh walks (HasKey finder walks) n seen next key first tell are.keys has put in
    let least : IsLeastInClass mesh walks (walk_at walks n) first =
    first_is_least mesh walks (HasKey finder walks) n next key first tell both.0 has both.1 l in
    record {
      keys = both.0;
      many = ap (λ (xs : List ℕ). length xs) e ∙ length-set numbers n first ∙ are.many;
      least = λ i less. elim (before_or_at i n less) [
        | inl before ↦
            subst (IsLeastInClass mesh walks (walk_at walks i))
            (sym (ap (λ (xs : List ℕ). get_or xs i 0) e ∙ get_or-set_other numbers n i first 0 (λ same. omega (arith, before, same))))
            (are.least i before)
        | inr last ↦
            subst (IsLeastInClass mesh walks (walk_at walks i))
            (sym (ap (λ (xs : List ℕ). get_or xs i 0) e ∙ ap (λ (k : ℕ). get_or (set numbers n first) k 0) last
            ∙ get_or-set_same numbers n first 0 (omega (arith, l, are.many))))
            (subst (λ (k : ℕ). IsLeastInClass mesh walks (walk_at walks k) first) (sym last) least)
      ];
    }

-- and all of them
pub all_numbered : (finder : WordFinder) (mesh : FaceList) (walks : List (List ℕ)) (n : ℕ) (seen : BTreeMap Key ℕ) (numbers : List ℕ)
    → mesh_of_finder finder ≡ mesh → n ≡ length walks → AreNumbered finder walks n seen numbers → AreClasses mesh walks numbers
all_numbered finder mesh walks n seen numbers e all are =
    subst (λ (m : FaceList). AreClasses m walks numbers) e
    (record {
      each_walk = are.many;
      are_walks = λ i l. ((are.keys).each i (omega (arith, l, all))).1.is_walk;
      least = λ i l. are.least i (omega (arith, l, all));
    })

-- nothing is numbered yet
pub none_numbered : (finder : WordFinder) (walks : List (List ℕ)) (seen : BTreeMap Key ℕ) (numbers : List ℕ) → seen.entries ≡ []
    → length numbers ≡ length walks → AreNumbered finder walks 0 seen numbers
none_numbered finder walks seen numbers e f = record {
  keys = record {
    each = λ j l. absurd (omega arith);
    first = λ key. subst
        (λ (o : Option ℕ). MatchOption o ((j : ℕ) → j < 0 → HasKey finder walks j key → ⊥) (IsFirstWith (HasKey finder walks) 0 key))
        (sym (ap (λ es. lookup (λ k. is_eq (key_order key k)) es) e)) (λ j l has. omega arith);
  };
  many = f;
  least = λ i l. absurd (omega arith);
}
