-- Keys of walks that come one after another, with the first place of each: one walk more.
use Rattle.walk_classes.proofs.Common.{◌≡◌, ◌↔◌, ◌⊎◌, inl, inr, ℕ, ◌+◌, ◌<◌, List, length, refl, ap, sym, ◌∙◌, subst, arith, BTreeMap, get, IsUnchanged, lookup, is_eq, cond, MatchOption, Option, Some, None, Ordering, Less, Equal, Greater, FaceList, walk_at, key_order, AreSameKeys, AreInOneClass, IsLeastInClass, Key}
use Rattle.walk_classes.proofs.ClassLemmas.{alike_itself}
use Rattle.walk_classes.proofs.KeyLemmas.{told_same, told_equal, same_back}

-- keys tell the classes of walks: `Has` says that the walk at a place has a key
pub record KeysTell (mesh : FaceList) (walks : List (List ℕ)) (Has : ℕ → Key → Type 0) : Type 0 where
  pub alike : (i : ℕ) (one other : Key) → AreSameKeys one other → Has i one → Has i other
  pub told : (i j : ℕ) (one other : Key) → Has i one → Has j other
      → AreSameKeys one other ↔ AreInOneClass mesh (walk_at walks i) (walk_at walks j)

-- the first of the places below n that has a key
pub record IsFirstWith (Has : ℕ → Key → Type 0) (n : ℕ) (key : Key) (place : ℕ) : Type 0 where
  pub within : place < n
  pub has : Has place key
  pub first : (j : ℕ) → j < place → Has j key → ⊥

-- the walks at places below n have keys, of which a map has the first places
pub record AreSeen (Has : ℕ → Key → Type 0) (n : ℕ) (seen : BTreeMap Key ℕ) : Type 0 where
  pub each : (j : ℕ) → j < n → (key : Key) × Has j key
  pub first : (key : Key) → MatchOption (get key_order seen key) ((j : ℕ) → j < n → Has j key → ⊥) (IsFirstWith Has n key)

-- what is told of a key that is put among them
abbrev pub IsPut : (seen next : BTreeMap Key ℕ) (key : Key) (place first : ℕ) → Type 0
IsPut seen next key place first =
    MatchOption (get key_order seen key)
    ((first ≡ place)
    × ((other : Key) → get key_order next other ≡ cond (is_eq (key_order key other)) (Some place) (get key_order seen other)))
    (λ found. (first ≡ found) × IsUnchanged seen next)

pub before_or_at : (j n : ℕ) → j < n + 1 → (j < n) ⊎ (j ≡ n)
before_or_at j n l = grind arith

each_more : (Has : ℕ → Key → Type 0) (n : ℕ) (key : Key) → ((j : ℕ) → j < n → (k : Key) × Has j k) → Has n key → (j : ℕ) → j < n + 1
    → (k : Key) × Has j k
each_more Has n key each has j l = elim (before_or_at j n l) [
  | inl before ↦ each j before
  | inr last ↦ (key, subst (λ i. Has i key) (sym last) has)
]

-- the first place stays it with one place more
first_stays : (Has : ℕ → Key → Type 0) (n : ℕ) (key : Key) (place : ℕ) → IsFirstWith Has n key place → IsFirstWith Has (n + 1) key place
first_stays Has n key place h = record { within = omega (arith, h.within); has = h.has; first = h.first }

-- no place below n, and not n either
none_more : (Has : ℕ → Key → Type 0) (n : ℕ) (key : Key) → ((j : ℕ) → j < n → Has j key → ⊥) → (Has n key → ⊥) → (j : ℕ) → j < n + 1
    → Has j key → ⊥
none_more Has n key none last j l has = elim (before_or_at j n l) [
  | inl before ↦ none j before has
  | inr at ↦ last (subst (λ i. Has i key) at has)
]

-- a key that was not there
put_new : (mesh : FaceList) (walks : List (List ℕ)) (Has : ℕ → Key → Type 0) (n : ℕ) (seen : BTreeMap Key ℕ) (key other : Key)
    → KeysTell mesh walks Has → Has n key → ((j : ℕ) → j < n → Has j key → ⊥) → (found : Option ℕ)
    → MatchOption found ((j : ℕ) → j < n → Has j other → ⊥) (IsFirstWith Has n other)
    → (order : Ordering) → key_order key other ≡ order
    → MatchOption (cond (is_eq order) (Some n) found) ((j : ℕ) → j < n + 1 → Has j other → ⊥) (IsFirstWith Has (n + 1) other)
put_new mesh walks Has n seen key other tell has none found was Equal e =
    let same : AreSameKeys key other = told_same key other e in
    record {
      within = omega arith;
      has = tell.alike n key other same has;
      first = λ j l there. none j l (tell.alike j other key (same_back key other same) there);
    }
put_new mesh walks Has n seen key other tell has none None was Less e =
    none_more Has n other was (λ there.
    let equal : key_order key other ≡ Equal =
    told_equal key other ((tell.told n n key other has there).1 (alike_itself mesh (walk_at walks n))) in
    absurd (let wrong : Less ≡ Equal = sym e ∙ equal in cc))
put_new mesh walks Has n seen key other tell has none None was Greater e =
    none_more Has n other was (λ there.
    let equal : key_order key other ≡ Equal =
    told_equal key other ((tell.told n n key other has there).1 (alike_itself mesh (walk_at walks n))) in
    absurd (let wrong : Greater ≡ Equal = sym e ∙ equal in cc))
put_new mesh walks Has n seen key other tell has none (Some place) was Less e = first_stays Has n other place was
put_new mesh walks Has n seen key other tell has none (Some place) was Greater e = first_stays Has n other place was

-- and one that was
put_again : (mesh : FaceList) (walks : List (List ℕ)) (Has : ℕ → Key → Type 0) (n : ℕ) (key other : Key) (found : ℕ)
    → KeysTell mesh walks Has → Has n key → IsFirstWith Has n key found → (there : Option ℕ)
    → MatchOption there ((j : ℕ) → j < n → Has j other → ⊥) (IsFirstWith Has n other)
    → MatchOption there ((j : ℕ) → j < n + 1 → Has j other → ⊥) (IsFirstWith Has (n + 1) other)
put_again mesh walks Has n key other found tell has first None was =
    none_more Has n other was (λ there.
    let same : AreSameKeys key other = (tell.told n n key other has there).1 (alike_itself mesh (walk_at walks n)) in
    was found first.within (tell.alike found key other same first.has))
put_again mesh walks Has n key other found tell has first (Some place) was = first_stays Has n other place was

put_among : (mesh : FaceList) (walks : List (List ℕ)) (Has : ℕ → Key → Type 0) (n : ℕ) (seen next : BTreeMap Key ℕ) (key : Key)
    (first : ℕ) → KeysTell mesh walks Has → AreSeen Has n seen → Has n key → (found : Option ℕ) → get key_order seen key ≡ found
    → MatchOption found
    ((first ≡ n)
    × ((other : Key) → get key_order next other ≡ cond (is_eq (key_order key other)) (Some n) (get key_order seen other)))
    (λ there. (first ≡ there) × IsUnchanged seen next)
    → AreSeen Has (n + 1) next × IsFirstWith Has (n + 1) key first
put_among mesh walks Has n seen next key first tell are has None e put =
    let none : (j : ℕ) → j < n → Has j key → ⊥ =
    subst (λ (o : Option ℕ). MatchOption o ((j : ℕ) → j < n → Has j key → ⊥) (IsFirstWith Has n key)) e (are.first key) in (
      record {
        each = each_more Has n key are.each has;
        first = λ other. subst
            (λ (o : Option ℕ). MatchOption o ((j : ℕ) → j < n + 1 → Has j other → ⊥) (IsFirstWith Has (n + 1) other)) (sym (put.1 other))
            (put_new mesh walks Has n seen key other tell has none (get key_order seen other) (are.first other) (key_order key other) refl);
      },
      subst (IsFirstWith Has (n + 1) key) (sym put.0) (record { within = omega arith; has = has; first = none }),
    )
put_among mesh walks Has n seen next key first tell are has (Some found) e put =
    let there : IsFirstWith Has n key found =
    subst (λ (o : Option ℕ). MatchOption o ((j : ℕ) → j < n → Has j key → ⊥) (IsFirstWith Has n key)) e (are.first key) in (
      record {
        each = each_more Has n key are.each has;
        first = λ other. subst
            (λ (o : Option ℕ). MatchOption o ((j : ℕ) → j < n + 1 → Has j other → ⊥) (IsFirstWith Has (n + 1) other))
            (sym (same_there seen next other put.1))
            (put_again mesh walks Has n key other found tell has there (get key_order seen other) (are.first other));
      },
      subst (IsFirstWith Has (n + 1) key) (sym put.0) (first_stays Has n key found there),
    )
  where
    same_there : (seen next : BTreeMap Key ℕ) (other : Key) → IsUnchanged seen next
        → get key_order next other ≡ get key_order seen other
    same_there seen next other e = ap (λ es. lookup (λ k. is_eq (key_order other k)) es) e

pub put_one : (mesh : FaceList) (walks : List (List ℕ)) (Has : ℕ → Key → Type 0) (n : ℕ) (seen next : BTreeMap Key ℕ) (key : Key)
    (first : ℕ) → KeysTell mesh walks Has → AreSeen Has n seen → Has n key → IsPut seen next key n first
    → AreSeen Has (n + 1) next × IsFirstWith Has (n + 1) key first
put_one mesh walks Has n seen next key first tell are has put =
    put_among mesh walks Has n seen next key first tell are has (get key_order seen key) refl put

-- so the first place with its key is the least of its class
pub first_is_least : (mesh : FaceList) (walks : List (List ℕ)) (Has : ℕ → Key → Type 0) (n : ℕ) (next : BTreeMap Key ℕ) (key : Key)
    (first : ℕ) → KeysTell mesh walks Has → AreSeen Has (n + 1) next → Has n key → IsFirstWith Has (n + 1) key first → n < length walks
    → IsLeastInClass mesh walks (walk_at walks n) first
first_is_least mesh walks Has n next key first tell are has is l = record {
  within = omega (arith, is.within, l);
  alike = (tell.told first n key key is.has has).0 (record { start = refl; end = refl; word = refl });
  least = λ j less same.
      let there = are.each j (omega (arith, less, is.within)) in
      is.first j less (tell.alike j there.0 key ((tell.told j n there.0 key there.1 has).1 same) there.1);
}

-- what is seen stays so where walks keep their keys
pub seen_kept : (mesh : FaceList) (walks : List (List ℕ)) (Has HasNext : ℕ → Key → Type 0) (n : ℕ) (seen : BTreeMap Key ℕ)
    → ((i : ℕ) (one other : Key) → AreSameKeys one other → Has i one → Has i other)
    → ((i : ℕ) (key : Key) → Has i key → HasNext i key) → KeysTell mesh walks HasNext → AreSeen Has n seen → AreSeen HasNext n seen
seen_kept mesh walks Has HasNext n seen alike keeps tell are =
    let was : (i : ℕ) (key : Key) → i < n → HasNext i key → Has i key =
    λ i key l has.
    (let own = are.each i l in
    alike i own.0 key ((tell.told i i own.0 key (keeps i own.0 own.1) has).1 (alike_itself mesh (walk_at walks i))) own.1) in
    record {
      each = λ i l. ((are.each i l).0, keeps i (are.each i l).0 (are.each i l).1);
      first = λ key. first_kept Has HasNext n key (λ i l has. was i key l has) (λ i has. keeps i key has) (get key_order seen key)
          (are.first key);
    }
  where
    first_kept : (Has HasNext : ℕ → Key → Type 0) (n : ℕ) (key : Key) → ((i : ℕ) → i < n → HasNext i key → Has i key)
        → ((i : ℕ) → Has i key → HasNext i key) → (found : Option ℕ)
        → MatchOption found ((j : ℕ) → j < n → Has j key → ⊥) (IsFirstWith Has n key)
        → MatchOption found ((j : ℕ) → j < n → HasNext j key → ⊥) (IsFirstWith HasNext n key)
    first_kept Has HasNext n key was keeps None none = λ j l has. none j l (was j l has)
    first_kept Has HasNext n key was keeps (Some place) is = record {
      within = is.within;
      has = keeps place is.has;
      first = λ j l has. is.first j l (was j (omega (arith, l, is.within)) has);
    }
