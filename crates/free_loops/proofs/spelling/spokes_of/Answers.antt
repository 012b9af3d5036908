use Rattle.free_loops.proofs.Common.{◌≡◌, ◌+◌, ◌<◌, ℕ, length, get_or, ap, ap₂, sym, ◌∙◌, subst, arith, add-lt, add}
use Rattle.free_loops.proofs.SpellingLemmas.{value_in, Spelled, spelled_none, spelled_more, spelled_all, as_many}
use Rattle.free_loops.proofs.spelling.spokes_of.Goals as goal

pub loop-k-init : goal.loop-k-init
loop-k-init c =
    subst (Spelled c.args.wheel.now c.args.word.now 0 0 _) (sym c.in_ok-spokes.ensures.items)
    (spelled_none c.args.wheel.now c.args.word.now c.requires.full)

pub spoke_round-spoke-requires : goal.spoke_round-spoke-requires
spoke_round-spoke-requires c =
    let places = c.args.wheel.now in
    let word = c.args.word.now in
    let k = c.loop-k.k in
    let more : k < length word = omega (arith, c.loop-k-test.true, c.len-k-end.ensures) in
    let entry : get_or word k 0 < length places = c.requires.entries k 0 more in
    let from = c.loop-k.from in
    let sum : c.round_sum-place.result ≡ add (length places) from (get_or word k 0) =
    c.round_sum-place.ensures ∙ ap₂ (λ (n x : ℕ). add n from x) c.degree.ensures.degree c.at.ensures in
    subst (λ x. x < length places) (sym sum) (add-lt (length places) from (get_or word k 0) c.loop-k.invariant.from_in entry)

pub loop-k-preserved : goal.loop-k-preserved
loop-k-preserved c =
    let places = c.args.wheel.now in
    let word = c.args.word.now in
    let k = c.loop-k.k in
    let from = c.loop-k.from in
    let spoke = c.spoke_round-spoke.result in
    let v = c.loop-k.at_vertex in
    let more : k < length word = omega (arith, c.loop-k-test.true, c.len-k-end.ensures) in
    let entry : get_or word k 0 < length places = c.requires.entries k 0 more in
    let sum : c.round_sum-place.result ≡ add (length places) from (get_or word k 0) =
    c.round_sum-place.ensures ∙ ap₂ (λ (n x : ℕ). add n from x) c.degree.ensures.degree c.at.ensures in
    subst (Spelled places word (k + 1) c.place_round-from.result _) (sym c.in_ok-push.ensures.items)
    (spelled_more places word k from spoke c.place_round-from.result v c.loop-k.spokes.items c.requires.full c.loop-k.invariant more entry
    c.spoke_round-spoke.ensures.below (c.spoke_round-spoke.ensures.place ∙ sum)
    (subst (λ x. x < length places) (sym c.place_round-from.ensures.place)
    (value_in places c.requires.full _ spoke c.spoke_round-spoke.ensures.below))
    c.place_round-from.ensures.place)

pub returns-clause-word : goal.returns-clause-word
returns-clause-word c =
    let places = c.args.wheel.now in
    let word = c.args.word.now in
    let end : c.loop-k.k ≡ length word = omega (arith, c.loop-k-test.false, c.len-k-end.ensures, c.loop-k.auto.k-end) in
    spelled_all places word c.loop-k.from c.loop-k.at_vertex c.loop-k.spokes.items c.requires.full
    (subst (λ n. Spelled places word n c.loop-k.from c.loop-k.at_vertex c.loop-k.spokes.items) end c.loop-k.invariant)

pub returns-clause-short : goal.returns-clause-short
returns-clause-short c =
    let places = c.args.wheel.now in
    let word = c.args.word.now in
    let end : c.loop-k.k ≡ length word = omega (arith, c.loop-k-test.false, c.len-k-end.ensures, c.loop-k.auto.k-end) in
    let is = spelled_all places word c.loop-k.from c.loop-k.at_vertex c.loop-k.spokes.items c.requires.full
    (subst (λ n. Spelled places word n c.loop-k.from c.loop-k.at_vertex c.loop-k.spokes.items) end c.loop-k.invariant) in
    omega (arith, as_many places c.loop-k.spokes.items, ap length is, c.len.ensures, c.len.type_inv)
