-- Identities that hold in every group: a term has a reduced word, in which no neighbours are inverse, and terms with one word are the same.
use Rattle.polygon_cut.proofs.Common.{arith, ◌≡◌, inl, inr, ℕ, zero, suc, Bool, true, false, not, ◌&&◌, eqb, cond, List, [], ◌∷◌, get_or, refl, ap, ◌∙◌, subst, cases_Bool}
use Rattle.polygon_cut.proofs.GroupLemmas.{IsGroup, inverse_twice, inverse_of_product}
use Rattle.polygon_cut.proofs.FreeProductLemmas.{inverse_of_one}

pub data Term : Type 0 where
  Var : ℕ → Term
  One : Term
  Mul : Term → Term → Term
  Inv : Term → Term

-- a letter: the number of an element, and whether it stands itself or its inverse
pub record Letter : Type 0 where
  pub plain : Bool
  pub number : ℕ

abbrev pub value_of : {X : Type 0} → (X → X → X) → (X → X) → X → List X → Term → X
value_of mul inv one elements (Var n) = get_or elements n one
value_of mul inv one elements One = one
value_of mul inv one elements (Mul a b) = mul (value_of mul inv one elements a) (value_of mul inv one elements b)
value_of mul inv one elements (Inv a) = inv (value_of mul inv one elements a)

abbrev signed : {X : Type 0} → (X → X) → Bool → X → X
signed inv true x = x
signed inv false x = inv x

abbrev pub value_of_word : {X : Type 0} → (X → X → X) → (X → X) → X → List X → List Letter → X
value_of_word mul inv one elements [] = one
value_of_word mul inv one elements (letter ∷ word) =
    mul (signed inv letter.plain (get_or elements letter.number one)) (value_of_word mul inv one elements word)

-- whether the signs differ
abbrev differ : Bool → Bool → Bool
differ true b = not b
differ false b = b

-- a letter in front of a word, which strikes out its inverse there
abbrev put : Bool → ℕ → List Letter → List Letter
put plain number [] = record { plain = plain; number = number } ∷ []
put plain number (letter ∷ word) =
    cond (differ plain letter.plain && eqb number letter.number) word (record { plain = plain; number = number } ∷ letter ∷ word)

-- the reduced word of a term, or of its inverse, in front of another
abbrev pub word_of : Bool → Term → List Letter → List Letter
word_of plain (Var n) word = put plain n word
word_of plain One word = word
word_of true (Mul a b) word = word_of true a (word_of true b word)
word_of false (Mul a b) word = word_of false b (word_of false a word)
word_of plain (Inv a) word = word_of (not plain) a word

-- a term with another in place of the first element
abbrev pub with_first : Term → Term → Term
with_first meaning (Var zero) = meaning
with_first meaning (Var (suc n)) = Var (suc n)
with_first meaning One = One
with_first meaning (Mul a b) = Mul (with_first meaning a) (with_first meaning b)
with_first meaning (Inv a) = Inv (with_first meaning a)

strike : {X : Type 0} {Same : X → X → Type 0} {mul : X → X → X} {inv : X → X} {one : X} → IsGroup Same mul inv one → (p q : Bool) (x y : X)
    → differ p q ≡ true → x ≡ y
    → Same (mul (signed inv p x) (signed inv q y)) one
strike g true true x y h e = cc
strike {Same} {mul} {inv} {one} g true false x y h e = subst (λ z. Same (mul x (inv z)) one) e (g.cancels x)
strike {Same} {mul} {inv} {one} g false true x y h e = subst (λ z. Same (mul (inv x) z) one) e (g.cancels_back x)
strike g false false x y h e = cc

put_sound : {X : Type 0} (Same : X → X → Type 0) (mul : X → X → X) (inv : X → X) (one : X) → IsGroup Same mul inv one
    → (elements : List X) (plain : Bool) (n : ℕ) (word : List Letter)
    → Same (mul (signed inv plain (get_or elements n one)) (value_of_word mul inv one elements word))
    (value_of_word mul inv one elements (put plain n word))
put_sound Same mul inv one g elements plain n [] = g.itself (mul (signed inv plain (get_or elements n one)) one)
put_sound {X = X} Same mul inv one g elements plain n (letter ∷ word) =
    elim (cases_Bool (differ plain letter.plain && eqb n letter.number)) [
      | inr other ↦ rw other (g.itself
          (mul (signed inv plain (get_or elements n one)) (value_of_word mul inv one elements (letter ∷ word))))
      | inl struck ↦
          let same : get_or elements n one ≡ get_or elements letter.number one = grind arith in
          let a : X = signed inv plain (get_or elements n one) in
          let b : X = signed inv letter.plain (get_or elements letter.number one) in
          let rest : X = value_of_word mul inv one elements word in
          let nothing : Same (mul a b) one = grind (arith, strike) in
          rw struck
          (g.on (mul a (mul b rest)) (mul (mul a b) rest) rest (g.turn (mul (mul a b) rest) (mul a (mul b rest)) (g.associates a b rest))
          (g.on (mul (mul a b) rest) (mul one rest) rest (g.mul_same (mul a b) one rest rest nothing (g.itself rest)) (g.one_left rest)))
    ]

sound : {X : Type 0} (Same : X → X → Type 0) (mul : X → X → X) (inv : X → X) (one : X) → IsGroup Same mul inv one
    → (elements : List X) (plain : Bool) (t : Term) (word : List Letter)
    → Same (mul (signed inv plain (value_of mul inv one elements t)) (value_of_word mul inv one elements word))
    (value_of_word mul inv one elements (word_of plain t word))
sound Same mul inv one g elements plain (Var n) word = put_sound Same mul inv one g elements plain n word
sound Same mul inv one g elements true One word = g.one_left (value_of_word mul inv one elements word)
sound {X = X} Same mul inv one g elements false One word =
    let w : X = value_of_word mul inv one elements word in
    g.on (mul (inv one) w) (mul one w) w (g.mul_same (inv one) one w w (g.turn one (inv one) (inverse_of_one g))
    (g.itself w)) (g.one_left w)
sound {X = X} Same mul inv one g elements true (Mul a b) word =
    let x : X = value_of mul inv one elements a in
    let y : X = value_of mul inv one elements b in
    let w : X = value_of_word mul inv one elements word in
    let v : X = value_of_word mul inv one elements (word_of true b word) in
    g.on (mul (mul x y) w) (mul x (mul y w)) (value_of_word mul inv one elements (word_of true a (word_of true b word)))
    (g.associates x y w)
    (g.on (mul x (mul y w)) (mul x v) (value_of_word mul inv one elements (word_of true a (word_of true b word)))
    (g.mul_same x x (mul y w) v (g.itself x) (sound Same mul inv one g elements true b word))
    (sound Same mul inv one g elements true a (word_of true b word)))
sound {X = X} Same mul inv one g elements false (Mul a b) word =
    let x : X = value_of mul inv one elements a in
    let y : X = value_of mul inv one elements b in
    let w : X = value_of_word mul inv one elements word in
    let v : X = value_of_word mul inv one elements (word_of false a word) in
    let whole : X = value_of_word mul inv one elements (word_of false b (word_of false a word)) in
    g.on (mul (inv (mul x y)) w) (mul (mul (inv y) (inv x)) w) whole
    (g.mul_same (inv (mul x y)) (mul (inv y) (inv x)) w w (inverse_of_product g x y) (g.itself w))
    (g.on (mul (mul (inv y) (inv x)) w) (mul (inv y) (mul (inv x) w)) whole (g.associates (inv y) (inv x) w)
    (g.on (mul (inv y) (mul (inv x) w)) (mul (inv y) v) whole (g.mul_same (inv y) (inv y) (mul (inv x) w) v (g.itself (inv y))
    (sound Same mul inv one g elements false a word)) (sound Same mul inv one g elements false b (word_of false a word))))
sound Same mul inv one g elements true (Inv a) word = sound Same mul inv one g elements false a word
sound {X = X} Same mul inv one g elements false (Inv a) word =
    let x : X = value_of mul inv one elements a in
    let w : X = value_of_word mul inv one elements word in
    let whole : X = value_of_word mul inv one elements (word_of true a word) in
    g.on (mul (inv (inv x)) w) (mul x w) whole (g.mul_same (inv (inv x)) x w w (inverse_twice Same mul inv one g x) (g.itself w))
    (sound Same mul inv one g elements true a word)

-- Terms with one reduced word are the same in every group.
pub by_words : {X : Type 0} (Same : X → X → Type 0) (mul : X → X → X) (inv : X → X) (one : X) → IsGroup Same mul inv one
    → (elements : List X) (s t : Term)
    → word_of true s [] ≡ word_of true t [] → Same (value_of mul inv one elements s) (value_of mul inv one elements t)
by_words {X = X} Same mul inv one g elements s t e =
    let x : X = value_of mul inv one elements s in
    let y : X = value_of mul inv one elements t in
    let word : X = value_of_word mul inv one elements (word_of true t []) in
    let x_word : Same (mul x one) word =
    subst (λ w. Same (mul x one) (value_of_word mul inv one elements w)) e (sound Same mul inv one g elements true s []) in
    let y_word : Same (mul y one) word = sound Same mul inv one g elements true t [] in
    g.on x word y (g.on x (mul x one) word (g.turn (mul x one) x (g.one_right x)) x_word)
    (g.on word (mul y one) y (g.turn (mul y one) word y_word) (g.one_right y))

-- the first of the elements may be replaced by one that is the same
pub first_changed : {X : Type 0} {Same : X → X → Type 0} {mul : X → X → X} {inv : X → X} {one : X} → IsGroup Same mul inv one
    → (x y : X) (elements : List X) → Same x y → (t : Term)
    → Same (value_of mul inv one (x ∷ elements) t) (value_of mul inv one (y ∷ elements) t)
first_changed g x y elements h (Var zero) = h
first_changed {one} g x y elements h (Var (suc n)) = g.itself (get_or elements n one)
first_changed {one} g x y elements h One = g.itself one
first_changed {mul} {inv} {one} g x y elements h (Mul a b) =
    g.mul_same (value_of mul inv one (x ∷ elements) a) (value_of mul inv one (y ∷ elements) a) (value_of mul inv one (x ∷ elements) b)
    (value_of mul inv one (y ∷ elements) b) (first_changed g x y elements h a) (first_changed g x y elements h b)
first_changed {mul} {inv} {one} g x y elements h (Inv a) =
    g.inv_same (value_of mul inv one (x ∷ elements) a) (value_of mul inv one (y ∷ elements) a) (first_changed g x y elements h a)

-- Terms over elements of which the first is the same as another term's value: they are the same where their words are, once that term
-- stands for the first.
pub by_relation : {X : Type 0} (Same : X → X → Type 0) (mul : X → X → X) (inv : X → X) (one : X) → IsGroup Same mul inv one
    → (x : X) (elements : List X) (meaning s t : Term)
    → Same x (value_of mul inv one (one ∷ elements) meaning)
    → word_of true (with_first meaning s) [] ≡ word_of true (with_first meaning t) []
    → Same (value_of mul inv one (x ∷ elements) s) (value_of mul inv one (x ∷ elements) t)
by_relation {X = X} Same mul inv one g x elements meaning s t h e =
    let y : X = value_of mul inv one (one ∷ elements) meaning in
    let a : X = value_of mul inv one (x ∷ elements) s in
    let b : X = value_of mul inv one (y ∷ elements) s in
    let c : X = value_of mul inv one (y ∷ elements) t in
    let d : X = value_of mul inv one (x ∷ elements) t in
    let words : Same (value_of mul inv one (one ∷ elements) (with_first meaning s))
    (value_of mul inv one (one ∷ elements) (with_first meaning t)) =
    by_words Same mul inv one g (one ∷ elements) (with_first meaning s) (with_first meaning t) e in
    let across : Same b c = subst (λ z. Same z c) (replaced s)
    (subst (λ z. Same (value_of mul inv one (one ∷ elements) (with_first meaning s)) z) (replaced t) words) in
    g.on a b d (first_changed g x y elements h s) (g.on b c d across (g.turn d c (first_changed g x y elements h t)))
  where
    replaced : (u : Term) → value_of mul inv one (one ∷ elements) (with_first meaning u) ≡ value_of mul inv one
        (value_of mul inv one (one ∷ elements) meaning ∷ elements) u
    replaced (Var zero) = refl
    replaced (Var (suc n)) = refl
    replaced One = refl
    replaced (Mul a b) = ap (λ z. mul z (value_of mul inv one (one ∷ elements) (with_first meaning b))) (replaced a)
        ∙ ap (mul (value_of mul inv one (value_of mul inv one (one ∷ elements) meaning ∷ elements) a)) (replaced b)
    replaced (Inv a) = ap inv (replaced a)
