-- A walk as the list of a chain that is alone in its pool.
use Rattle.move_lifting.proofs.Common.{Chains, under, IsUnder, IsEdit, IsAlike, list_of, cells_of, cells_in, inserted, cut, spliced, IsAlone, IsPushed, ◌≡◌, ◌≢◌, inl, inr, refl, ℕ, zero, suc, ◌+◌, ◌<◌, ◌≤◌, ◌^◌, max, List, [], ◌∷◌, ◌++◌, length, set, is_some, ap, sym, ◌∙◌, arith, length-append, Option, cases_eq, common_steps, get_or-set_other, Result, Ok, Err, OnOk, OnErr}
use Rattle.chain_pool.proofs.Lists.{list_under-is, list_is, edit_twice}
use Rattle.chain_pool.proofs.Lookups.{cells_in-edit, cells_in-alike}
use Rattle.chain_pool.specs.declared.cells.CellName.{CellName}
use Rattle.std.proofs.Common.{Some, None}

pub live_from : (lists : List (Option (List ℕ))) (name : ℕ) (list : List ℕ) → under lists name ≡ Some list → IsUnder lists name
live_from lists name list e = ap (λ (o : Option (List ℕ)). is_some o) e

-- the chain has this list now, and as many cells are spare as it has become shorter by
pub alone_on : (old new : Chains) (chain : CellName) (list : List ℕ) → IsAlone old chain
    → IsEdit old.lists new.lists chain.0 (Some list) → 0 < length list
    → new.spare + length list ≡ old.spare + length (list_of old chain.0) → IsAlone new chain
alone_on old new chain list was_alone edit some spare =
    let now : list_of new chain.0 ≡ list = list_under-is new.lists chain.0 list edit.here in
    let long : length (list_of new chain.0) ≡ length list = ap (λ (l : List ℕ). length l) now in
    let was : under old.lists chain.0 ≡ Some (list_of old chain.0) = list_is old.lists chain.0 was_alone.live in
    let cells = cells_in-edit old.lists new.lists chain.0 (Some list) edit in
    record {
      live = live_from new.lists chain.0 list edit.here;
      starts = omega (arith, long, some);
      cells = omega (arith, long, cells, ap cells_of was, was_alone.cells);
      fits = omega (arith, long, spare, was_alone.fits);
    }

-- more cells are spare
pub alone_alike : (old new : Chains) (chain : CellName) → IsAlone old chain → IsAlike old.lists new.lists
    → length (list_of old chain.0) + 1 + new.spare < 2 ^ 32 → (list_of new chain.0 ≡ list_of old chain.0) × IsAlone new chain
alone_alike old new chain was_alone alike fits = grind (arith, under, list_is, list_under-is, live_from, cells_in-alike)

-- how long a list is without the entries between two places, and with one more
pub length-cut : (list : List ℕ) (from to : ℕ) → from ≤ to → to ≤ length list → length (cut list from to) + to ≡ length list + from
length-cut list from to order within = grind (arith, common_steps)

-- a chain with its first entry, in a pool that had none
pub alone_first : (empty reserved started pushed : Chains) (chain : CellName) (value more : ℕ) → empty.lists ≡ []
    → IsAlike empty.lists reserved.lists → reserved.spare ≡ more + 2 → under reserved.lists chain.0 ≡ None
    → IsEdit reserved.lists started.lists chain.0 (Some []) → started.spare + 1 ≡ reserved.spare
    → IsEdit started.lists pushed.lists chain.0 (Some (inserted (list_of started chain.0) 0 value)) → pushed.spare + 1 ≡ started.spare
    → more + 2 < 2 ^ 32 → IsAlone pushed chain
alone_first empty reserved started pushed chain value more none alike room was start first push second fits =
    let nothing : list_of started chain.0 ≡ [] = list_under-is started.lists chain.0 [] start.here in
    let one : ℕ = length (inserted (list_of started chain.0) 0 value) in
    let single : one ≡ 1 = ap (λ (l : List ℕ). length (inserted l 0 value)) nothing in
    let entries : length (list_of pushed chain.0) ≡ 1 =
    ap (λ (l : List ℕ). length l) (list_under-is pushed.lists chain.0 (inserted (list_of started chain.0) 0 value) push.here) ∙ single in
    let before : cells_in reserved.lists ≡ 0 = cells_in-alike empty.lists reserved.lists alike
    ∙ ap (λ (l : List (Option (List ℕ))). cells_in l) none in
    let head = cells_in-edit reserved.lists started.lists chain.0 (Some []) start in
    let entry = cells_in-edit started.lists pushed.lists chain.0 (Some (inserted (list_of started chain.0) 0 value)) push in
    record {
      live = live_from pushed.lists chain.0 (inserted (list_of started chain.0) 0 value) push.here;
      starts = omega (arith, entries);
      cells = omega (arith, entries, before, head, entry, ap cells_of was, ap cells_of start.here, single);
      fits = omega (arith, entries, second, first, room, fits);
    }

-- the cells that are spare after more were asked for, whatever the answer
pub reserved_fits : {T E : Type 0} (r : Result T E) (entries more spare new : ℕ) → OnOk r (new ≡ max more spare) → OnErr r (new ≡ spare)
    → entries + more + 1 < 2 ^ 32 → entries + 1 + spare < 2 ^ 32 → entries + 1 + new < 2 ^ 32
reserved_fits (Ok x) entries more spare new given refused room fits = omega (arith, given, room, fits)
reserved_fits (Err y) entries more spare new given refused room fits = omega (arith, refused, fits)

-- some entries, and then others
pub pushed_both : {old mid new : Chains} {chain : CellName} {first second : List ℕ} → IsPushed old mid chain first
    → IsPushed mid new chain second → IsPushed old new chain (first ++ second)
pushed_both {old} {mid} {new} {chain} {first} {second} one two = grind (arith, common_steps, list_under-is, edit_twice)

pub alone_pushed : {old new : Chains} {chain : CellName} {more : List ℕ} → IsAlone old chain → IsPushed old new chain more
    → IsAlone new chain
alone_pushed {old} {new} {chain} {more} was_alone pushed =
    let long = length-append (list_of old chain.0) more in
    alone_on old new chain (list_of old chain.0 ++ more) was_alone pushed.list (omega (arith, long, was_alone.starts))
    (omega (arith, long, pushed.spare))

no_chain : (lists : List (Option (List ℕ))) (name : ℕ) → under (set lists name None) name ≡ None
no_chain [] name = refl
no_chain (x ∷ xs) zero = refl
no_chain (x ∷ xs) (suc name) = no_chain xs name

-- the chains of a pool where one was moved into another
pub cells_in-spliced : (old new : List (Option (List ℕ))) (name other : ℕ) (list : List ℕ) → name ≢ other
    → under new name ≡ Some list → under new other ≡ None
    → ((k : ℕ) → k ≢ name → k ≢ other → under new k ≡ under old k)
    → cells_in new + cells_of (under old name) + cells_of (under old other) ≡ cells_in old + cells_of (Some list)
cells_in-spliced old new name other list differ here gone others =
    let mid : List (Option (List ℕ)) = set old other None in
    let out : IsEdit old mid other None = record {
      here = no_chain old other;
      others = λ k ne. get_or-set_other old other k None None ne;
    } in
    let same : (k : ℕ) → k ≢ name → under new k ≡ under mid k = λ k ne. elim (cases_eq k other) [
      | inl e ↦ ap (λ (n : ℕ). under new n) e ∙ gone ∙ sym (no_chain old other) ∙ ap (λ (n : ℕ). under mid n) (sym e)
      | inr ne_other ↦ others k ne ne_other ∙ sym (out.others k ne_other)
    ] in
    let into : IsEdit mid new name (Some list) = record { here = here; others = same } in
    omega (
      arith,
      cells_in-edit old mid other None out,
      cells_in-edit mid new name (Some list) into,
      ap cells_of (out.others name differ),
    )

length-spliced : (list other : List ℕ) (place : ℕ) → place ≤ length list → length (spliced list place other) ≡ length list + length other
length-spliced list other place within = grind (arith, common_steps)

-- a live chain, and a name that no chain has
pub apart : (lists : List (Option (List ℕ))) (name other : ℕ) → IsUnder lists name → under lists other ≡ None → name ≢ other
apart lists name other live none e = grind (arith, is_some)

-- a piece that was made as a chain of its own is moved in
pub record IsPutIn (old new : Chains) (chain : CellName) (place : ℕ) (piece : List ℕ) : Type 0 where
  pub walk : list_of new chain.0 ≡ spliced (list_of old chain.0) place piece
  pub alone : IsAlone new chain
  pub cells : length (list_of new chain.0) + new.spare ≡ length (list_of old chain.0) + old.spare

pub put_in : (old started made new : Chains) (chain other : CellName) (place : ℕ) (piece : List ℕ) → IsAlone old chain
    → under old.lists other.0 ≡ None → IsEdit old.lists started.lists other.0 (Some []) → started.spare + 1 ≡ old.spare
    → IsPushed started made other piece → place ≤ length (list_of old chain.0)
    → under new.lists chain.0 ≡ Some (spliced (list_of made chain.0) place (list_of made other.0)) → under new.lists other.0 ≡ None
    → ((name : ℕ) → name ≢ chain.0 → name ≢ other.0 → under new.lists name ≡ under made.lists name) → new.spare ≡ made.spare + 1
    → IsPutIn old new chain place piece
put_in old started made new chain other place piece was_alone none start taken pushed within here gone others left =
    let differ : chain.0 ≢ other.0 = apart old.lists chain.0 other.0 was_alone.live none in
    let walk : List ℕ = list_of old chain.0 in
    let was : under old.lists chain.0 ≡ Some walk = list_is old.lists chain.0 was_alone.live in
    let nothing : list_of started other.0 ≡ [] = list_under-is started.lists other.0 [] start.here in
    let piece_is : list_of made other.0 ≡ piece = list_under-is made.lists other.0 (list_of started other.0 ++ piece) pushed.list.here
    ∙ ap (λ (l : List ℕ). l ++ piece) nothing in
    let walk_under : under made.lists chain.0 ≡ Some walk = pushed.list.others chain.0 differ ∙ start.others chain.0 differ ∙ was in
    let walk_is : list_of made chain.0 ≡ walk = list_under-is made.lists chain.0 walk walk_under in
    let list : List ℕ = spliced (list_of made chain.0) place (list_of made other.0) in
    let list_is : list ≡ spliced walk place piece =
    ap (λ (l : List ℕ). spliced l place (list_of made other.0)) walk_is ∙ ap (spliced walk place) piece_is in
    let now : list_of new chain.0 ≡ list = list_under-is new.lists chain.0 list here in
    let long : length (list_of new chain.0) ≡ length walk + length piece =
    ap (λ (l : List ℕ). length l) (now ∙ list_is) ∙ length-spliced walk piece place within in
    let grown : length list ≡ length walk + length piece = ap (λ (l : List ℕ). length l) (sym now) ∙ long in
    let spare : new.spare + length piece ≡ old.spare = omega (arith, left, pushed.spare, taken) in
    let made_long : length (list_of started other.0 ++ piece) ≡ length piece =
    ap (λ (l : List ℕ). length (l ++ piece)) nothing in
    record {
      walk = now ∙ list_is;
      alone = record {
        live = live_from new.lists chain.0 list here;
        starts = omega (arith, long, was_alone.starts);
        cells = omega (
          arith,
          cells_in-spliced made.lists new.lists chain.0 other.0 list differ here gone others,
          cells_in-edit started.lists made.lists other.0 (Some (list_of started other.0 ++ piece)) pushed.list,
          cells_in-edit old.lists started.lists other.0 (Some []) start,
          ap cells_of none,
          ap cells_of start.here,
          ap cells_of pushed.list.here,
          ap cells_of walk_under,
          made_long,
          grown,
          long,
          was_alone.cells,
        );
        fits = omega (arith, long, spare, was_alone.fits);
      };
      cells = omega (arith, long, spare);
    }
