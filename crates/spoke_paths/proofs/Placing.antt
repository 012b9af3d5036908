-- Steps on a path of spokes, told by the spokes before them and behind them.
use Rattle.spoke_paths.proofs.Common.{quad_turned, spur_goes, from_spoke, from_vertex, ◌≡◌, ℕ, zero, suc, ◌+◌, ◌<◌, Bool, true, false, not, List, [], ◌∷◌, ◌++◌, length, set, refl, ap, sym, ◌∙◌, arith, length-append, Option, Some, remove, IsQuad, add}
use Rattle.spoke_paths.proofs.StepsKeep.{mapped-is, spur-is}
pub use Rattle.spoke_paths.proofs.StepsKeep.{old_way, new_way, IsTurned, is-turned}
use Rattle.spoke_paths.proofs.Turning.{turned}
use Rattle.spoke_paths.proofs.Turning.{turned-is as end-is}

-- a rule that was used at a place: the spokes before it stay
pub record AtPlace (rule : Bool → List ℕ → Option (List ℕ)) (at : ℕ) (path next : List ℕ) : Type 0 where
  pub before : List ℕ
  pub part : List ℕ
  pub instead : List ℕ
  pub long : length before ≡ at
  pub path_is : path ≡ before ++ part
  pub next_is : next ≡ before ++ instead
  pub does : rule (from_vertex at) part ≡ Some instead

-- the same, counted on from a point
record PlacedFrom (rule : Bool → List ℕ → Option (List ℕ)) (at : ℕ) (b : Bool) (path next : List ℕ) : Type 0 where
  before : List ℕ
  part : List ℕ
  instead : List ℕ
  long : length before ≡ at
  path_is : path ≡ before ++ part
  next_is : next ≡ before ++ instead
  does : rule (turned at b) part ≡ Some instead

placed-from : (rule : Bool → List ℕ → Option (List ℕ)) (at : ℕ) (b : Bool) (path next : List ℕ) → from_spoke at b rule path ≡ Some next
    → PlacedFrom rule at b path next
placed-from rule zero b path next e = grind arith
placed-from rule (suc at) b [] next e = absurd cc
placed-from rule (suc at) b (x ∷ path) next e =
    let inner = mapped-is (from_spoke at (not b) rule path) x next e in
    let rest : PlacedFrom rule at (not b) path inner.0 = placed-from rule at (not b) path inner.0 inner.1 in
    record {
      before = x ∷ rest.before;
      part = rest.part;
      instead = rest.instead;
      long = ap suc rest.long;
      path_is = ap (λ (l : List ℕ). x ∷ l) rest.path_is;
      next_is = sym inner.2 ∙ ap (λ (l : List ℕ). x ∷ l) rest.next_is;
      does = rest.does;
    }

pub at-place : (rule : Bool → List ℕ → Option (List ℕ)) (at : ℕ) (path next : List ℕ) → from_spoke at true rule path ≡ Some next
    → AtPlace rule at path next
at-place rule at path next e =
    let r : PlacedFrom rule at true path next = placed-from rule at true path next e in
    record {
      before = r.before;
      part = r.part;
      instead = r.instead;
      long = r.long;
      path_is = r.path_is;
      next_is = r.next_is;
      does = ap (λ b. rule b r.part) (sym (end-is at)) ∙ r.does;
    }

-- what is written at a place
set-two : (before after : List ℕ) (x y v u : ℕ) → set (set (before ++ x ∷ y ∷ after) (length before) v) (length before + 1) u
    ≡ before ++ v ∷ u ∷ after
set-two [] after x y v u = refl
set-two (b ∷ before) after x y v u =
    let up-one : suc (length before) + 1 ≡ suc (length before + 1) = omega arith in
    ap (λ n. set (set (b ∷ (before ++ x ∷ y ∷ after)) (suc (length before)) v) n u) up-one
    ∙ ap (λ (l : List ℕ). b ∷ l) (set-two before after x y v u)

remove-two : (before after : List ℕ) (x y : ℕ) → remove (remove (before ++ x ∷ y ∷ after) (length before + 1)) (length before)
    ≡ before ++ after
remove-two [] after x y = refl
remove-two (b ∷ before) after x y =
    let up-one : suc (length before) + 1 ≡ suc (length before + 1) = omega arith in
    ap (λ n. remove (remove (b ∷ (before ++ x ∷ y ∷ after)) n) (suc (length before))) up-one
    ∙ ap (λ (l : List ℕ). b ∷ l) (remove-two before after x y)

-- a turn is two spokes written, and a spur two taken out
pub record IsWritten (at v u : ℕ) (path next : List ℕ) : Type 0 where
  pub within : at + 1 < length path
  pub is : next ≡ set (set path at v) (at + 1) u

pub turn-written : (places : List ℕ) (a c : ℕ) (up : Bool) (at v u : ℕ) (path next : List ℕ)
    → from_spoke at true (quad_turned places a c up) path ≡ Some next
    → new_way up (length places) (from_vertex at) a c ≡ v ∷ u ∷ [] → IsWritten at v u path next × IsQuad places a c
turn-written places a c up at v u path next e new =
    let r : AtPlace (quad_turned places a c up) at path next = at-place (quad_turned places a c up) at path next e in
    let t : IsTurned places a c up (from_vertex at) r.part r.instead = is-turned places a c up (from_vertex at) r.part r.instead r.does in
    let old = old-two up (length places) (from_vertex at) a c in
    let x : ℕ = old.0 in
    let y : ℕ = old.1 in
    let from : path ≡ r.before ++ x ∷ y ∷ t.after = grind arith in
    let to : next ≡ r.before ++ v ∷ u ∷ t.after = grind arith in (
      record {
        within = omega (arith, ap (λ (l : List ℕ). length l) from, length-append r.before (x ∷ y ∷ t.after), r.long);
        is = grind (arith, set-two);
      },
      t.quad,
    )
  where
    old-two : (rises : Bool) (d : ℕ) (b : Bool) (side partner : ℕ) → (x y : ℕ) × (old_way rises d b side partner ≡ x ∷ y ∷ [])
    old-two true d true side partner = (add d partner 1, partner, refl)
    old-two true d false side partner = (partner, add d side 1, refl)
    old-two false d true side partner = (side, add d side 1, refl)
    old-two false d false side partner = (add d partner 1, side, refl)

pub record AreTakenOut (at : ℕ) (path next : List ℕ) : Type 0 where
  pub within : at + 1 < length path
  pub is : next ≡ remove (remove path (at + 1)) at

pub spur-taken : (at : ℕ) (path next : List ℕ) → from_spoke at true (λ at_vertex. spur_goes) path ≡ Some next → AreTakenOut at path next
spur-taken at path next e =
    let r : AtPlace (λ at_vertex. spur_goes) at path next = at-place (λ at_vertex. spur_goes) at path next e in
    let goes = spur-is r.part r.instead r.does in
    let x : ℕ = goes.x in
    let from : path ≡ r.before ++ x ∷ x ∷ r.instead = r.path_is ∙ ap (λ (l : List ℕ). r.before ++ l) goes.is in
    record {
      within = omega (arith, ap (λ (l : List ℕ). length l) from, length-append r.before (x ∷ x ∷ r.instead), r.long);
      is = grind (arith, remove-two);
    }

pub some-turn : (places : List ℕ) (a c : ℕ) (up : Bool) (at : ℕ) (path next : List ℕ)
    → from_spoke at true (quad_turned places a c up) path ≡ Some next
    → (at + 1 < length path) × IsQuad places a c
some-turn places a c up at path next e =
    let new = new-two up (length places) (from_vertex at) a c in
    let t = turn-written places a c up at new.0 new.1 path next e new.2 in
    (t.0.within, t.1)
  where
    new-two : (rises : Bool) (d : ℕ) (b : Bool) (side partner : ℕ) → (x y : ℕ) × (new_way rises d b side partner ≡ x ∷ y ∷ [])
    new-two true d true side partner = (side, add d side 1, refl)
    new-two true d false side partner = (add d partner 1, side, refl)
    new-two false d true side partner = (add d partner 1, partner, refl)
    new-two false d false side partner = (partner, add d side 1, refl)
