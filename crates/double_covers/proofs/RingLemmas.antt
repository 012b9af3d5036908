-- The corners at a vertex are not twisted where no edge has three sides. A corner with a bit has one at most that is ahead of it, across
-- the side that the bit does not name, and is ahead of one at most; and turned round, what is ahead is behind. So no way ahead leads from
-- it to itself turned round.
use Rattle.double_covers.proofs.Common.{partners_swap, Claim, IsClaimStep, IsTwisted, ◌≡◌, ◌≢◌, ◌⊎◌, inl, inr, ℕ, zero, suc, Bool, true, false, not, List, [], ◌∷◌, refl, ap, sym, ◌∙◌, subst, arith, not-not, eq-eqb, ne_eqb, if◌then◌else◌, ◌==◌, ends_differ, IsSide, side_after, tail_of, head_of, FaceList, IsFaceList, ArePartners, IsPath, Side, next_back}
use Rattle.connectivity.specs.Joined.{NoEdgeHasThreeSides}
use Rattle.orientation.proofs.Partners.{one_partner}

-- ---- what is ahead of what

-- One thing at most is ahead of a thing, and a thing is ahead of one at most; turned round, what is ahead is behind; and no thing is itself
-- turned round, or behind that.
record HasDirection {X : Type 0} (Ahead : X → X → Type 0) (turned : X → X) : Type 0 where
  pub one_ahead : (x y z : X) → Ahead x y → Ahead x z → y ≡ z
  pub one_behind : (x y z : X) → Ahead x z → Ahead y z → x ≡ y
  pub swapped : (x y : X) → Ahead x y → Ahead (turned y) (turned x)
  pub other : (x : X) → x ≢ turned x
  pub not_next : (x : X) → Ahead x (turned x) → ⊥

-- so many steps ahead
abbrev IsAhead : {X : Type 0} → (X → X → Type 0) → ℕ → X → X → Type 0
IsAhead Ahead zero x y = x ≡ y
IsAhead {X} Ahead (suc k) x y = (z : X) × Ahead x z × IsAhead Ahead k z y

module _ {X : Type 0} (Ahead : X → X → Type 0) (turned : X → X) (h : HasDirection Ahead turned) where
  -- the last of the steps
  last : (k : ℕ) (x y : X) → IsAhead Ahead (suc k) x y → (z : X) × IsAhead Ahead k x z × Ahead z y
  last zero x y p = (x, refl, subst (Ahead x) p.2 p.1)
  last (suc k) x y p =
      let more = last k p.0 y p.2 in
      (more.0, (p.0, p.1, more.1), more.2)

  on : (k : ℕ) (x y z : X) → IsAhead Ahead k x y → Ahead y z → IsAhead Ahead (suc k) x z
  on zero x y z p s = (z, subst (λ (w : X). Ahead w z) (sym p) s, refl)
  on (suc k) x y z p s = (p.0, p.1, on k p.0 y z p.2 s)

  never : (k : ℕ) (x : X) → IsAhead Ahead k x (turned x) → ⊥
  never zero x p = h.other x p
  never (suc zero) x p = h.not_next x (subst (Ahead x) p.2 p.1)
  never (suc (suc k)) x p =
      let back = last k p.0 (turned x) p.2 in
      let same : back.0 ≡ turned p.0 = h.one_behind back.0 (turned p.0) (turned x) back.2 (h.swapped x p.0 p.1) in
      never k p.0 (subst (IsAhead Ahead k p.0) same back.1)

  -- steps to and fro lead ahead, or back
  abbrev IsBeside : X → X → Type 0
  IsBeside x y = ((k : ℕ) × IsAhead Ahead k x y) ⊎ ((k : ℕ) × IsAhead Ahead k y x)

  step_ahead : (x z y : X) → Ahead x z → IsBeside z y → IsBeside x y
  step_ahead x z y s (inl p) = inl (suc p.0, (z, s, p.1))
  step_ahead x z y s (inr (zero, p)) = inl (1, (z, s, sym p))
  step_ahead x z y s (inr (suc k, p)) =
      let end = last k y z p in
      inr (k, subst (IsAhead Ahead k y) (h.one_behind end.0 x z end.2 s) end.1)

  step_back : (x z y : X) → Ahead z x → IsBeside z y → IsBeside x y
  step_back x z y s (inr p) = inr (suc p.0, on p.0 y z x p.1 s)
  step_back x z y s (inl (zero, p)) = inr (1, (x, subst (λ (w : X). Ahead w x) p s, refl))
  step_back x z y s (inl (suc k, p)) = inl (k, subst (λ (w : X). IsAhead Ahead k w y) (h.one_ahead z p.0 x p.1 s) p.2)

  along : (Step : X → X → Type 0) → ((x y : X) → Step x y → Ahead x y ⊎ Ahead y x) → (x : X) (path : List X) (y : X) → IsPath Step x path y
      → IsBeside x y
  along Step is x [] y p = inl (0, p)
  along Step is x (z ∷ path) y p =
      elim (is x z p.0) [
        | inl ahead ↦ step_ahead x z y ahead (along Step is z path y p.1)
        | inr behind ↦ step_back x z y behind (along Step is z path y p.1)
      ]

-- ---- corners with a bit

-- the side at a corner that a bit names: the one that starts there, or the one that ends there
abbrev IsDoor : FaceList → ℕ → Side → Bool → Side → Type 0
IsDoor mesh v corner true side = (tail_of mesh side ≡ v) × (corner ≡ side)
IsDoor mesh v corner false side = (head_of mesh side ≡ v) × (corner ≡ side_after mesh side)

-- ahead of a corner is the one across the side that its bit does not name, with the bit that names the side across which it lies
record IsNext (mesh : FaceList) (here there : Claim) : Type 0 where
  pub vertex : ℕ
  pub side : Side
  pub partner : Side
  pub partners : ArePartners mesh side partner
  pub from : IsDoor mesh vertex here.corner (not here.against) side
  pub to : IsDoor mesh vertex there.corner there.against partner

abbrev turned_round : Claim → Claim
turned_round x = record { corner = x.corner; against = not x.against }

not_itself : (b : Bool) → b ≢ not b
not_itself true e = cc
not_itself false e = cc

same_not : (a b : Bool) → not a ≡ not b → a ≡ b
same_not a b e = sym (not-not a) ∙ ap not e ∙ not-not b

both : (x y : Claim) → x.corner ≡ y.corner → x.against ≡ y.against → x ≡ y
both x y p q = grind arith

module _ (mesh : FaceList) (valid : IsFaceList mesh) (few : NoEdgeHasThreeSides mesh) where
  door_vertex : (v : ℕ) (corner : Side) (door : Bool) (side : Side) → IsDoor mesh v corner door side → tail_of mesh corner ≡ v
  door_vertex v corner true side d = ap (tail_of mesh) d.1 ∙ d.0
  door_vertex v corner false side d = ap (tail_of mesh) d.1 ∙ d.0

  after_once : (side other : Side) → IsSide mesh side → IsSide mesh other → side_after mesh side ≡ side_after mesh other → side ≡ other
  after_once side other one two e = grind (arith, next_back)

  -- a bit names one side at a corner, and a side is named by one bit at one corner
  side_once : (v w : ℕ) (corner : Side) (door : Bool) (side other : Side) → IsSide mesh side → IsSide mesh other
      → IsDoor mesh v corner door side → IsDoor mesh w corner door other → side ≡ other
  side_once v w corner true side other one two d e = sym d.1 ∙ e.1
  side_once v w corner false side other one two d e = after_once side other one two (sym d.1 ∙ e.1)

  record AreOne (corner other : Side) (door second : Bool) : Type 0 where
    pub corners : corner ≡ other
    pub doors : door ≡ second

  corner_once : (v : ℕ) (corner other : Side) (door second : Bool) (side : Side) → IsSide mesh side → IsDoor mesh v corner door side
      → IsDoor mesh v other second side → AreOne corner other door second
  corner_once v corner other true true side is d e = record { corners = d.1 ∙ sym e.1; doors = refl }
  corner_once v corner other false false side is d e = record { corners = d.1 ∙ sym e.1; doors = refl }
  corner_once v corner other true false side is d e = absurd (ends_differ mesh side valid is (d.0 ∙ sym e.0))
  corner_once v corner other false true side is d e = absurd (ends_differ mesh side valid is (e.0 ∙ sym d.0))

  one_next : (x y z : Claim) → IsNext mesh x y → IsNext mesh x z → y ≡ z
  one_next x y z p q =
      let sides : p.side ≡ q.side =
      side_once p.vertex q.vertex x.corner (not x.against) p.side q.side p.partners.first q.partners.first p.from q.from in
      let vertices : p.vertex ≡ q.vertex =
      sym (door_vertex p.vertex x.corner (not x.against) p.side p.from) ∙ door_vertex q.vertex x.corner (not x.against) q.side q.from in
      let partners : p.partner ≡ q.partner = grind (arith, one_partner) in
      let into : IsDoor mesh p.vertex z.corner z.against p.partner =
      subst (λ (s : Side). IsDoor mesh p.vertex z.corner z.against s) (sym partners)
      (subst (λ (v : ℕ). IsDoor mesh v z.corner z.against q.partner) (sym vertices) q.to) in
      let same = corner_once p.vertex y.corner z.corner y.against z.against p.partner p.partners.second p.to into in
      both y z same.corners same.doors

  one_before : (x y z : Claim) → IsNext mesh x z → IsNext mesh y z → x ≡ y
  one_before x y z p q =
      let partners : p.partner ≡ q.partner =
      side_once p.vertex q.vertex z.corner z.against p.partner q.partner p.partners.second q.partners.second p.to q.to in
      let vertices : p.vertex ≡ q.vertex =
      sym (door_vertex p.vertex z.corner z.against p.partner p.to) ∙ door_vertex q.vertex z.corner z.against q.partner q.to in
      let sides : p.side ≡ q.side = grind (arith, one_partner, partners_swap) in
      let out : IsDoor mesh p.vertex y.corner (not y.against) p.side =
      subst (λ (s : Side). IsDoor mesh p.vertex y.corner (not y.against) s) (sym sides)
      (subst (λ (v : ℕ). IsDoor mesh v y.corner (not y.against) q.side) (sym vertices) q.from) in
      let same = corner_once p.vertex x.corner y.corner (not x.against) (not y.against) p.side p.partners.first p.from out in
      both x y same.corners (same_not x.against y.against same.doors)

  directed : HasDirection (IsNext mesh) turned_round
  directed = record {
    one_ahead = one_next;
    one_behind = one_before;
    swapped = λ x y p. grind (arith, partners_swap);
    other = λ x e. not_itself x.against (ap (λ (y : Claim). y.against) e);
    not_next = λ x p.
        p.partners.different
        (side_once p.vertex p.vertex x.corner (not x.against) p.side p.partner p.partners.first p.partners.second p.from p.to);
  }

  -- a twisted step leads ahead, or back
  by_doors : (v : ℕ) (side partner : Side) (here there : Claim) (one two : Bool) → ArePartners mesh side partner
      → IsDoor mesh v here.corner one side → IsDoor mesh v there.corner two partner
      → there.against ≡ (if (if one then two else not two) then not here.against else here.against)
      → IsNext mesh here there ⊎ IsNext mesh there here
  by_doors v side partner here there one two partners out into bit = pick here.against one two refl bit out into
    where
      ahead : (one two : Bool) → not here.against ≡ one → there.against ≡ two → IsDoor mesh v here.corner one side
          → IsDoor mesh v there.corner two partner
          → IsNext mesh here there
      ahead one two e f out into = record {
        vertex = v;
        side = side;
        partner = partner;
        partners = partners;
        from = subst (λ (b : Bool). IsDoor mesh v here.corner b side) (sym e) out;
        to = subst (λ (b : Bool). IsDoor mesh v there.corner b partner) (sym f) into;
      }

      behind : (one two : Bool) → here.against ≡ one → not there.against ≡ two → IsDoor mesh v here.corner one side
          → IsDoor mesh v there.corner two partner
          → IsNext mesh there here
      behind one two e f out into = record {
        vertex = v;
        side = partner;
        partner = side;
        partners = partners_swap mesh side partner partners;
        from = subst (λ (b : Bool). IsDoor mesh v there.corner b partner) (sym f) into;
        to = subst (λ (b : Bool). IsDoor mesh v here.corner b side) (sym e) out;
      }

      pick : (b one two : Bool) → here.against ≡ b
          → there.against ≡ (if (if one then two else not two) then not here.against else here.against)
          → IsDoor mesh v here.corner one side → IsDoor mesh v there.corner two partner → IsNext mesh here there ⊎ IsNext mesh there here
      pick true true true e f out into = inr (behind true true e (ap not (f ∙ ap not e)) out into)
      pick true true false e f out into = inr (behind true false e (ap not (f ∙ e)) out into)
      pick true false true e f out into = inl (ahead false true (ap not e) (f ∙ e) out into)
      pick true false false e f out into = inl (ahead false false (ap not e) (f ∙ ap not e) out into)
      pick false true true e f out into = inl (ahead true true (ap not e) (f ∙ ap not e) out into)
      pick false true false e f out into = inl (ahead true false (ap not e) (f ∙ e) out into)
      pick false false true e f out into = inr (behind false true e (ap not (f ∙ e)) out into)
      pick false false false e f out into = inr (behind false false e (ap not (f ∙ ap not e)) out into)

  step_leads : (here there : Claim) → IsClaimStep mesh here there → IsNext mesh here there ⊎ IsNext mesh there here
  step_leads here there s =
      elim s.from [
        | inl a ↦ elim s.to [
          | inl b ↦
              (let test : (tail_of mesh s.side == tail_of mesh s.partner) ≡ true = eq-eqb _ _ (a.0 ∙ sym b.0) in
              by_doors s.vertex s.side s.partner here there true true s.partners a b
              (s.carries ∙ ap (λ (x : Bool). if x then not here.against else here.against) test))
          | inr b ↦
              (let test : (tail_of mesh s.side == tail_of mesh s.partner) ≡ false =
              ne_eqb (tail_of mesh s.side) (tail_of mesh s.partner)
              (λ e. ends_differ mesh s.partner valid s.partners.second (sym e ∙ a.0 ∙ sym b.0)) in
              by_doors s.vertex s.side s.partner here there true false s.partners a b
              (s.carries ∙ ap (λ (x : Bool). if x then not here.against else here.against) test))
        ]
        | inr a ↦ elim s.to [
          | inl b ↦
              (let test : (tail_of mesh s.side == tail_of mesh s.partner) ≡ false =
              ne_eqb (tail_of mesh s.side) (tail_of mesh s.partner)
              (λ e. ends_differ mesh s.side valid s.partners.first (e ∙ b.0 ∙ sym a.0)) in
              by_doors s.vertex s.side s.partner here there false true s.partners a b
              (s.carries ∙ ap (λ (x : Bool). if x then not here.against else here.against) test))
          | inr b ↦
              (let tails : tail_of mesh s.side ≡ tail_of mesh s.partner = grind (arith, ends_differ) in
              let test : (tail_of mesh s.side == tail_of mesh s.partner) ≡ true =
              eq-eqb (tail_of mesh s.side) (tail_of mesh s.partner) tails in
              by_doors s.vertex s.side s.partner here there false false s.partners a b
              (s.carries ∙ ap (λ (x : Bool). if x then not here.against else here.against) test))
        ]
      ]

  pub not_twisted : (corner : Side) → IsTwisted mesh corner → ⊥
  not_twisted corner joined =
      let with_way : Claim = record { corner = corner; against = false } in
      let against_way : Claim = record { corner = corner; against = true } in
      elim (along (IsNext mesh) turned_round directed (IsClaimStep mesh) step_leads with_way joined.0 against_way joined.1) [
        | inl p ↦ never (IsNext mesh) turned_round directed p.0 with_way p.1
        | inr p ↦ never (IsNext mesh) turned_round directed p.0 against_way p.1
      ]
