use Rattle.spoke_paths.proofs.Common.{turn_of, Opens, Spur, ◌≡◌, ℕ, ◌-◌, ◌<◌, ◌≤◌, List, ◌++◌, true, false, arith, length, get_or, suc, sym, ◌∙◌, ap, ap₂, subst, remove, minus}
use Rattle.spoke_paths.proofs.Leading.{leads-more, spur-at}
use Rattle.spoke_paths.proofs.Shortening.{short-closed, short-more, turns-below, equal-by-turn, spur-short, minus-is}
use Rattle.spoke_paths.proofs.reduce.shorten_end.Goals as goal
use Rattle.spoke_paths.proofs.reduce.shorten_end.Goals.{After-turn_at-turn, In-Some-opening}

-- the path has two spokes or more, and the turn is that of the last one
len_is : (c : After-turn_at-turn) → c.len-last.result ≡ length c.args.front.now.items
len_is c = c.len-last.ensures ∙ sym c.deref.ensures.len ∙ ap length c.deref.ensures.value

long : (c : After-turn_at-turn) → 2 ≤ length c.args.front.now.items
long c = omega (arith, c.if-len-lt2.false, c.len.ensures, c.len-last.ensures, len_is c)

turn : (c : After-turn_at-turn)
    → c.turn_at-turn.result ≡ turn_of c.args.wheel.now c.args.front.now.items (length c.args.front.now.items - 1)
turn c = c.turn_at-turn.ensures.turn ∙ ap₂ (turn_of c.args.wheel.now) c.deref.ensures.value (ap (λ n. n - 1) (len_is c))

-- a number less than four below the degree
below_degree : (places : List ℕ) (degree n : ℕ) → 4 ≤ length places → degree ≡ length places → 0 < n → n < 4
    → degree - n ≡ minus (length places) n
below_degree places degree n four is some few = minus-is (length places) degree n is (omega arith) (omega arith)

pub returns-then-turn-eq0-clause-short : goal.returns-then-turn-eq0-clause-short
returns-then-turn-eq0-clause-short c =
    let at = (goal.at.returns-then-turn-eq0-clause-short c).After-turn_at-turn in
    let old = c.args.front.now.items in
    let last = length old - 1 in
    let two : 2 ≤ length old = long at in
    let items : c.remove-then-turn-eq0.new.self.items ≡ remove (remove old last) (last - 1) = grind (arith, len_is) in
    rw items (spur-short c.args.wheel.now old last (omega arith) (omega arith) c.requires.before)

pub returns-then-turn-eq0-clause-leads : goal.returns-then-turn-eq0-clause-leads
returns-then-turn-eq0-clause-leads c begin rest led =
    let at = (goal.at.returns-then-turn-eq0-clause-leads c).After-turn_at-turn in
    let places = c.args.wheel.now in
    let old = c.args.front.now.items in
    let last = length old - 1 in
    let n = last - 1 in
    let n_is : suc n ≡ last = omega arith in
    let items : c.remove-then-turn-eq0.new.self.items ≡ remove (remove old (suc n)) n = grind (arith, len_is) in
    let equal = equal-by-turn places old c.degree-degree.ensures.wheel c.requires.below last (omega arith) (omega arith)
    (sym (turn at) ∙ c.if-turn-eq0.true) in
    let goes = spur-at n true old rest (omega arith) (equal ∙ ap (λ k. get_or old k 0) (sym n_is)) in
    let step : c.len-last.result - 1 - 1 ≡ n = ap (λ m. m - 1 - 1) (len_is at) in
    rw (items, c.in_ok-push.ensures.items, step) (leads-more places c.args.steps.now.items (Spur n) begin (old ++ rest)
    (remove (remove old (suc n)) n ++ rest) led goes)

-- the bracket opens where the last turn is by one less than the degree
opens : (c : In-Some-opening)
    → Opens c.args.wheel.now c.args.front.now.items (minus (length c.args.wheel.now) 1) (minus (length c.args.wheel.now) 2)
    c.in-Some-opening.start (length c.args.front.now.items - 1)
opens c = grind (arith, below_degree)

pub close-requires-in-Some-opening-clause-opens : goal.close-requires-in-Some-opening-clause-opens
close-requires-in-Some-opening-clause-opens c = opens (goal.at.close-requires-in-Some-opening-clause-opens c).In-Some-opening

pub close-requires-in-Some-opening-clause-closes : goal.close-requires-in-Some-opening-clause-closes
close-requires-in-Some-opening-clause-closes c = grind (arith, turn, below_degree)

pub returns-in_ok-close-clause-short : goal.returns-in_ok-close-clause-short
returns-in_ok-close-clause-short c =
    let places = c.args.wheel.now in
    let old = c.args.front.now.items in
    let turns = turns-below places old c.degree-degree.ensures.wheel c.requires.below in
    let opens = subst (λ z. Opens places z 1 2 c.in-Some.start (length z - 1)) c.deref-then-turn-eq1.ensures.value c.in-Some.ensures in
    short-closed places old c.close.new.front.items false c.in-Some.start c.requires.quads.four turns c.requires.before opens
    c.in_ok-close.ensures.closed

pub returns-in_ok-close-2-clause-short : goal.returns-in_ok-close-2-clause-short
returns-in_ok-close-2-clause-short c =
    let places = c.args.wheel.now in
    let old = c.args.front.now.items in
    let turns = turns-below places old c.degree-degree.ensures.wheel c.requires.below in
    short-closed places old c.close-in-Some-opening.new.front.items true c.in-Some-opening.start c.requires.quads.four turns
    c.requires.before (opens (goal.at.returns-in_ok-close-2-clause-short c).In-Some-opening) c.in_ok-close-2.ensures.closed

pub returns-in_default-clause-short : goal.returns-in_default-clause-short
returns-in_default-clause-short c =
    let at = (goal.at.returns-in_default-clause-short c).After-turn_at-turn in
    let places = c.args.wheel.now in
    let old = c.args.front.now.items in
    let two : 2 ≤ length old = long at in
    let is = turn at in
    let less = below_degree places c.degree-degree.result 1 c.requires.quads.four c.degree-degree.ensures.degree (omega arith)
    (omega arith) in
    short-more places old (length old - 1) (omega arith) c.requires.before (record {
      no_spur = λ e. c.if-turn-eq0.false (is ∙ e);
      no_rise = λ e s o. c.in_default.ensures s (subst (λ z. Opens places z 1 2 s (length z - 1)) (sym c.deref-then-turn-eq1.ensures.value)
          o);
      no_fall = λ e s o. absurd (omega (arith, is, less, c.if-turn-eq1.true, c.requires.quads.four, c.degree-degree.ensures.degree));
    })

pub returns-in_default-opening-clause-short : goal.returns-in_default-opening-clause-short
returns-in_default-opening-clause-short c =
    let at = (goal.at.returns-in_default-opening-clause-short c).After-turn_at-turn in
    let places = c.args.wheel.now in
    let d = c.degree-degree.result in
    let old = c.args.front.now.items in
    let below = λ (n : ℕ). below_degree places d n c.requires.quads.four c.degree-degree.ensures.degree in
    short-more places old (length old - 1) (omega arith) c.requires.before (record {
      no_spur = λ e. c.if-turn-eq0.false (turn at ∙ e);
      no_rise = λ e s o. absurd (c.if-turn-eq1.false (turn at ∙ e));
      no_fall = λ e s o. c.in_default-opening.ensures s
          (subst (λ z. Opens places z (d - 1) (d - 2) s (length z - 1)) (sym c.deref-then-turn-degree.ensures.value)
          (rw (below 1 (omega arith) (omega arith), below 2 (omega arith) (omega arith)) o));
    })

pub returns-else-turn-degree-clause-short : goal.returns-else-turn-degree-clause-short
returns-else-turn-degree-clause-short c =
    let at = (goal.at.returns-else-turn-degree-clause-short c).After-turn_at-turn in
    let places = c.args.wheel.now in
    let old = c.args.front.now.items in
    let one_is = below_degree places c.degree-degree.result 1 c.requires.quads.four c.degree-degree.ensures.degree (omega arith)
    (omega arith) in
    short-more places old (length old - 1) (omega arith) c.requires.before (record {
      no_spur = λ e. c.if-turn-eq0.false (turn at ∙ e);
      no_rise = λ e s o. absurd (c.if-turn-eq1.false (turn at ∙ e));
      no_fall = λ e s o. absurd (c.if-turn-degree.false (turn at ∙ e ∙ sym one_is));
    })
