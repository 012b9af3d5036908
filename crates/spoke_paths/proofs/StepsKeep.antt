-- Steps on a path keep what spurs and quads keep: so the spokes below the degree, and the state that spokes lead to, in each form that
-- meets the laws.
use Rattle.spoke_paths.proofs.Common.{is_quad, upper_way, lower_way, spur_goes, two_become, quad_turned, from_spoke, after_path_step, after_path_steps, PathLeads, PathStep, Spur, Turn, ◌≡◌, ℕ, ◌<◌, arith, subst, ◌++◌, refl, sym, zero, suc, Bool, true, false, not, List, [], ◌∷◌, All, length, Option, Some, None, option_and_then_some, option_map, if◌then◌else◌, IsQuad, StartsWell, StaysWell, ThereAndBack, AcrossQuads, led, in-range-from, all-from, InRange, add-cases, add}

-- what a test of a quad tells
pub quad-is : (places : List ℕ) (a c : ℕ) → is_quad places a c ≡ true → IsQuad places a c
quad-is places a c e = grind arith

pub up-below : (d a : ℕ) → a < d → add d a 1 < d
up-below d a h = omega (arith, add-cases d a 1)

-- two spokes go
pub record Goes (p q : List ℕ) : Type 0 where
  pub x : ℕ
  pub is : p ≡ x ∷ x ∷ q

pub spur-is : (p q : List ℕ) → spur_goes p ≡ Some q → Goes p q
spur-is [] q e = absurd cc
spur-is (x ∷ []) q e = absurd cc
spur-is (x ∷ y ∷ rest) q e = grind arith

-- two spokes become two others
pub record Becomes (x y v w : ℕ) (p q : List ℕ) : Type 0 where
  pub rest : List ℕ
  pub from : p ≡ x ∷ y ∷ rest
  pub to : q ≡ v ∷ w ∷ rest

pub becomes-is : (x y v w : ℕ) (p q : List ℕ) → two_become (x ∷ y ∷ []) (v ∷ w ∷ []) p ≡ Some q → Becomes x y v w p q
becomes-is x y v w [] q e = absurd cc
becomes-is x y v w (first ∷ []) q e = absurd cc
becomes-is x y v w (first ∷ second ∷ rest) q e = grind arith

-- a turn is a quad's, and changes the one way into the other
pub turned-is : (places : List ℕ) (a c : ℕ) (up at_vertex : Bool) (p q : List ℕ) → quad_turned places a c up at_vertex p ≡ Some q →
    IsQuad places a c
    × ((if up
    then two_become (lower_way (length places) at_vertex a c) (upper_way (length places) at_vertex a c) p
    else two_become (upper_way (length places) at_vertex a c) (lower_way (length places) at_vertex a c) p) ≡ Some q)
turned-is places a c up at_vertex p q e = grind (arith, is_quad, quad-is)

pub mapped-is : (o : Option (List ℕ)) (x : ℕ) (v : List ℕ) → option_map (λ changed. x ∷ changed) o ≡ Some v
    → (w : List ℕ) × (o ≡ Some w) × (x ∷ w ≡ v)
mapped-is None x v e = absurd cc
mapped-is (Some w) x v e = (w, refl, let same : x ∷ w ≡ v = cc in same)

-- two neighbours taken the other way round a quad
abbrev pub old_way : Bool → ℕ → Bool → ℕ → ℕ → List ℕ
old_way up degree at_vertex a c = if up then lower_way degree at_vertex a c else upper_way degree at_vertex a c

abbrev pub new_way : Bool → ℕ → Bool → ℕ → ℕ → List ℕ
new_way up degree at_vertex a c = if up then upper_way degree at_vertex a c else lower_way degree at_vertex a c

pub record IsTurned (places : List ℕ) (a c : ℕ) (up at_vertex : Bool) (part instead : List ℕ) : Type 0 where
  pub quad : IsQuad places a c
  pub after : List ℕ
  pub from : part ≡ old_way up (length places) at_vertex a c ++ after
  pub to : instead ≡ new_way up (length places) at_vertex a c ++ after

pub is-turned : (places : List ℕ) (a c : ℕ) (up at_vertex : Bool) (part instead : List ℕ)
    → quad_turned places a c up at_vertex part ≡ Some instead
    → IsTurned places a c up at_vertex part instead
is-turned places a c true true part instead e = grind (arith, turned-is, becomes-is)
is-turned places a c true false part instead e = grind (arith, turned-is, becomes-is)
is-turned places a c false true part instead e = grind (arith, turned-is, becomes-is)
is-turned places a c false false part instead e = grind (arith, turned-is, becomes-is)

-- one step, and then the others
pub record Later (places : List ℕ) (step : PathStep) (steps : List PathStep) (path end : List ℕ) : Type 0 where
  pub next : List ℕ
  pub first : after_path_step places step path ≡ Some next
  pub rest : after_path_steps places steps next ≡ Some end

pub later-is : (places : List ℕ) (step : PathStep) (steps : List PathStep) (path end : List ℕ) → PathLeads places path (step ∷ steps) end
    → Later places step steps path end
later-is places step steps path end e = grind (arith, option_and_then_some)

-- What spurs and quads keep: a sameness of lists of spokes that start at the vertex, or in the middle. It goes on behind a spoke of the
-- wheel, and is given of spurs, and of quads round the middle alone.
pub record KeepsSteps (places : List ℕ) (Same : Bool → List ℕ → List ℕ → Type 0) : Type 0 where
  pub itself : (at_vertex : Bool) (p : List ℕ) → Same at_vertex p p
  pub turn : (at_vertex : Bool) (p q : List ℕ) → Same at_vertex p q → Same at_vertex q p
  pub on : (at_vertex : Bool) (p q r : List ℕ) → Same at_vertex p q → Same at_vertex q r → Same at_vertex p r
  pub behind : (at_vertex : Bool) (x : ℕ) (p q : List ℕ) → x < length places → Same (not at_vertex) p q → Same at_vertex (x ∷ p) (x ∷ q)
  pub spur : (at_vertex : Bool) (x : ℕ) (p : List ℕ) → x < length places → Same at_vertex (x ∷ x ∷ p) p
  pub quad : (a c : ℕ) (p : List ℕ) → IsQuad places a c
      → Same true (a ∷ add (length places) a 1 ∷ p) (add (length places) c 1 ∷ c ∷ p)

-- both ways round a quad are of spokes of the wheel
ways-below : (places : List ℕ) (b : Bool) (a c : ℕ) (p : List ℕ) → IsQuad places a c → InRange (length places) p
    → InRange (length places) (upper_way (length places) b a c ++ p) × InRange (length places) (lower_way (length places) b a c ++ p)
ways-below places true a c p quad h = grind (arith, up-below)
ways-below places false a c p quad h = grind (arith, up-below)

range-behind : (d : ℕ) (front p : List ℕ) → InRange d (front ++ p) → InRange d p
range-behind d [] p h = h
range-behind d (x ∷ front) p h = range-behind d front p h.1

module _ (places : List ℕ) (Same : Bool → List ℕ → List ℕ → Type 0) (keeps : KeepsSteps places Same) where
  -- round the vertex too a quad keeps it: a spur is put in behind, and one goes in front
  pub ways-same : (b : Bool) (a c : ℕ) (p : List ℕ) → IsQuad places a c
      → Same b (upper_way (length places) b a c ++ p) (lower_way (length places) b a c ++ p)
  ways-same true a c p quad = keeps.quad a c p quad
  ways-same false a c p quad =
      let d = length places in
      let next = add d a 1 in
      let up = add d c 1 in
      let up_in = up-below d c quad.c_below in
      keeps.on false (up ∷ a ∷ p) (up ∷ a ∷ next ∷ next ∷ p) (c ∷ next ∷ p)
      (keeps.behind false up (a ∷ p) (a ∷ next ∷ next ∷ p) up_in
      (keeps.behind true a p (next ∷ next ∷ p) quad.a_below
      (keeps.turn false (next ∷ next ∷ p) p (keeps.spur false next p (up-below d a quad.a_below)))))
      (keeps.on false (up ∷ a ∷ next ∷ next ∷ p) (up ∷ up ∷ c ∷ next ∷ p) (c ∷ next ∷ p)
      (keeps.behind false up (a ∷ next ∷ next ∷ p) (up ∷ c ∷ next ∷ p) up_in (keeps.quad a c (next ∷ p) quad))
      (keeps.spur false up (c ∷ next ∷ p) up_in))

  -- a rule keeps it, and the spokes below the degree
  abbrev pub Keeps : (Bool → List ℕ → Option (List ℕ)) → Type 0
  Keeps rule = (b : Bool) (p q : List ℕ) → InRange (length places) p → rule b p ≡ Some q → Same b p q × InRange (length places) q

  pub spur-keeps : Keeps (λ b. spur_goes)
  spur-keeps b p q h e = grind (arith, spur-is)

  as-told : (b : Bool) (p q from to : List ℕ) → p ≡ from → q ≡ to → Same b from to → InRange (length places) to
      → Same b p q × InRange (length places) q
  as-told b p q from to e f same below = rw (e, f) (same, below)

  pub turn-keeps : (a c : ℕ) (up : Bool) → Keeps (quad_turned places a c up)
  turn-keeps a c up b p q h e = by up (is-turned places a c up b p q e)
    where
      by : (rises : Bool) → IsTurned places a c rises b p q → Same b p q × InRange (length places) q
      by true t =
          let range = range-behind (length places) _ t.after (subst (InRange (length places)) t.from h) in
          let below = ways-below places b a c t.after t.quad range in
          as-told b p q _ _ t.from t.to (keeps.turn b _ _ (ways-same b a c t.after t.quad)) below.0
      by false t =
          let range = range-behind (length places) _ t.after (subst (InRange (length places)) t.from h) in
          let below = ways-below places b a c t.after t.quad range in
          as-told b p q _ _ t.from t.to (ways-same b a c t.after t.quad) below.1

  pub from-keeps : (rule : Bool → List ℕ → Option (List ℕ)) → Keeps rule → (at : ℕ) → Keeps (λ b. from_spoke at b rule)
  from-keeps rule k zero b p q h e = k b p q h e
  from-keeps rule k (suc at) b [] q h e = absurd cc
  from-keeps rule k (suc at) b (x ∷ p) q h e =
      let inner = mapped-is (from_spoke at (not b) rule p) x q e in
      let rest = from-keeps rule k at (not b) p inner.0 h.1 inner.1 in grind arith

  step-keeps : (step : PathStep) (p q : List ℕ) → InRange (length places) p → after_path_step places step p ≡ Some q
      → Same true p q × InRange (length places) q
  step-keeps (Spur at) p q h e = from-keeps (λ b. spur_goes) spur-keeps at true p q h e
  step-keeps (Turn at a c up) p q h e = from-keeps (quad_turned places a c up) (turn-keeps a c up) at true p q h e

  pub steps-keep : (steps : List PathStep) (path end : List ℕ) → InRange (length places) path → PathLeads places path steps end
      → Same true path end × InRange (length places) end
  steps-keep [] path end h e = let same : path ≡ end = cc in rw (← same) (keeps.itself true path, h)
  steps-keep (step ∷ steps) path end h e =
      let l = later-is places step steps path end e in
      let first = step-keeps step path l.next h l.first in
      let rest = steps-keep steps l.next end first.1 l.rest in grind arith

-- the spokes stay below the degree
pub spokes-stay-below : (places path end : List ℕ) (steps : List PathStep) → All (λ spoke. spoke < length places) path
    → PathLeads places path steps end
    → All (λ spoke. spoke < length places) end
spokes-stay-below places path end steps h e =
    let any : KeepsSteps places (λ b p q. Unit {0}) = grind arith in
    all-from (length places) end (steps-keep places (λ b p q. Unit {0}) any steps path end (in-range-from (length places) path h) e).1

module _ {State : Type 0} (Belongs : List ℕ → State → Type 0) (IsAtVertex : State → Type 0) (size : State → ℕ) (next : List ℕ → State → ℕ
    → State)
    (stays : StaysWell Belongs IsAtVertex size next) (back : ThereAndBack Belongs next) (across : AcrossQuads Belongs IsAtVertex next)
    (places : List ℕ) where
  -- a state at the vertex, and one that a spoke led to from the vertex
  pub record AtVertex (s : State) : Type 0 where
    pub belongs : Belongs places s
    pub vertex : IsAtVertex s

  pub record InMiddle (s : State) : Type 0 where
    pub before : State
    pub spoke : ℕ
    pub below : spoke < length places
    pub at : AtVertex before
    pub is : s ≡ next places before spoke

  abbrev pub Stands : Bool → State → Type 0
  Stands true s = AtVertex s
  Stands false s = InMiddle s

  -- lists that lead each state alike
  abbrev pub LeadAlike : Bool → List ℕ → List ℕ → Type 0
  LeadAlike b p q = (s : State) → Stands b s → led next places s p ≡ led next places s q

  pub states-keep : KeepsSteps places LeadAlike
  states-keep = grind (arith, led)

  pub state-stays : (IsOwn : List ℕ → Type 0) (empty : State) → StartsWell IsOwn Belongs IsAtVertex size empty
      → (path end : List ℕ) (steps : List PathStep) → IsOwn places
      → All (λ spoke. spoke < length places) path → PathLeads places path steps end → led next places empty end ≡ led next places empty path
  state-stays IsOwn empty starts path end steps own below e =
      sym ((steps-keep places LeadAlike states-keep steps path end (in-range-from (length places) path below) e).0 empty
      (record { belongs = starts.belongs places own; vertex = starts.at_vertex }))
