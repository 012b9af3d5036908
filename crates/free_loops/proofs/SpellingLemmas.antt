-- A turn word that is spelled out as spokes, entry by entry.
use Rattle.free_loops.proofs.Common.{IsFullWheel, ◌≡◌, ℕ, suc, ◌+◌, ◌<◌, Bool, true, false, not, List, [], ◌∷◌, ◌++◌, length, take, get_or, refl, ap, sym, ◌∙◌, arith, append_assoc, add-one, ap₂, append-nil, All, add-minus, add-zero, add_assoc, add_comm, minus-lt, add, minus, place_round, turns_after, turn_word_of}
use Rattle.std.proofs.Math.Seq.{take-suc, take-length}
use Rattle.std.proofs.lemmas.List.Elements.{All-append, All-nil, All-cons}

pub taken : (d m x : ℕ) → m < d → x < d → add d (add d m x) (minus d m) ≡ x
taken d m x l k =
    ap (λ z. add d z (minus d m)) (add_comm d m x) ∙ add_assoc d x m (minus d m) k l (minus-lt d m l) ∙ ap (add d x) (add-minus d m l)
    ∙ add-zero d x k

pub value_in : (places : List ℕ) → IsFullWheel places → (v : Bool) (i : ℕ) → i < length places → place_round places v i < length places
value_in places full true i l = full.own.wheel.inside i l
value_in places full false i l = l

-- the turns of a list of spokes, counted from a number, where it stands before the list as is told
abbrev pub turns_counted : List ℕ → ℕ → Bool → List ℕ → List ℕ
turns_counted places m at_vertex [] = []
turns_counted places m at_vertex (i ∷ path) =
    add (length places) (place_round places at_vertex i) (minus (length places) m)
    ∷ turns_counted places (place_round places (not at_vertex) i) (not at_vertex) path

after_is : (places : List ℕ) (at_vertex : Bool) (i : ℕ) (path : List ℕ)
    → turns_after places at_vertex i path ≡ turns_counted places (place_round places at_vertex i) at_vertex path
after_is places at_vertex i [] = refl
after_is places at_vertex i (j ∷ path) = ap
    (λ (l : List ℕ). add (length places) (place_round places at_vertex j) (minus (length places) (place_round places at_vertex i)) ∷ l)
    (after_is places (not at_vertex) j path)

less_none : (d : ℕ) → minus d 0 ≡ 0
unfolding minus
less_none d = refl

word_is : (places : List ℕ) → IsFullWheel places → (path : List ℕ) → All (λ i. i < length places) path
    → turn_word_of places path ≡ turns_counted places 0 true path
word_is places full [] h = refl
word_is places full (i ∷ path) h =
    let d : ℕ = length places in
    ap₂ (λ x (z : List ℕ). x ∷ z)
    (sym (add-zero d (get_or places i 0) (value_in places full true i (h 0 i (omega arith))))
    ∙ ap (add d (get_or places i 0)) (sym (less_none d)))
    (after_is places false i path)

-- So many entries of a word are spelled out: whatever spokes come next, their turns come behind these entries.
pub record Spelled (places word : List ℕ) (k from : ℕ) (at_vertex : Bool) (spokes : List ℕ) : Type 0 where
  pub from_in : from < length places
  pub below : All (λ spoke. spoke < length places) spokes
  pub turns : (rest : List ℕ)
      → turns_counted places 0 true (spokes ++ rest) ≡ take k word ++ turns_counted places from at_vertex rest

pub spelled_none : (places word : List ℕ) → IsFullWheel places → Spelled places word 0 0 true []
spelled_none places word full = record {
  from_in = omega (arith, full.own.five);
  below = All-nil (λ spoke. spoke < length places);
  turns = λ rest. refl;
}

pub spelled_more : (places word : List ℕ) (k from spoke next : ℕ) (at_vertex : Bool) (spokes : List ℕ) → IsFullWheel places
    → Spelled places word k from at_vertex spokes → k < length word → get_or word k 0 < length places → spoke < length places
    → place_round places at_vertex spoke ≡ add (length places) from (get_or word k 0) → next < length places
    → next ≡ place_round places (not at_vertex) spoke
    → Spelled places word (k + 1) next (not at_vertex) (spokes ++ spoke ∷ [])
spelled_more places word k from spoke next at_vertex spokes full h more entry below place next_in next_is =
    let d : ℕ = length places in
    let turn : add d (place_round places at_vertex spoke) (minus d from) ≡ get_or word k 0 =
    ap (λ x. add d x (minus d from)) place ∙ taken d from (get_or word k 0) h.from_in entry in
    let one_more : take (k + 1) word ≡ take k word ++ get_or word k 0 ∷ [] =
    ap (λ n. take n word) (add-one k) ∙ take-suc word k 0 more in
    record {
      from_in = next_in;
      below = All-append (λ x. x < d) spokes (spoke ∷ []) h.below
          (All-cons (λ x. x < d) spoke [] below (All-nil (λ x. x < d)));
      turns = λ rest.
          let tail : List ℕ = turns_counted places (place_round places (not at_vertex) spoke) (not at_vertex) rest in
          let here : turns_counted places 0 true ((spokes ++ spoke ∷ []) ++ rest)
          ≡ take k word ++ (add d (place_round places at_vertex spoke) (minus d from) ∷ tail) =
          ap (turns_counted places 0 true) (append_assoc spokes (spoke ∷ []) rest) ∙ h.turns (spoke ∷ rest) in
          here ∙ ap (λ x. take k word ++ (x ∷ tail)) turn ∙ sym (append_assoc (take k word) (get_or word k 0 ∷ []) tail)
          ∙ ap (λ (l : List ℕ). l ++ tail) (sym one_more)
          ∙ ap (λ x. take (k + 1) word ++ turns_counted places x (not at_vertex) rest) (sym next_is);
    }

pub spelled_all : (places word : List ℕ) (from : ℕ) (at_vertex : Bool) (spokes : List ℕ) → IsFullWheel places
    → Spelled places word (length word) from at_vertex spokes → turn_word_of places spokes ≡ word
spelled_all places word from at_vertex spokes full h =
    word_is places full spokes h.below ∙ ap (turns_counted places 0 true) (sym (append-nil spokes))
    ∙ h.turns [] ∙ append-nil (take (length word) word) ∙ take-length word

-- a turn word has as many entries as spokes
pub as_many : (places path : List ℕ) → length (turn_word_of places path) ≡ length path
as_many places [] = refl
as_many places (i ∷ path) = ap suc (behind false i path)
  where
    behind : (v : Bool) (last : ℕ) (rest : List ℕ) → length (turns_after places v last rest) ≡ length rest
    behind v last [] = refl
    behind v last (j ∷ rest) = ap suc (behind (not v) j rest)
