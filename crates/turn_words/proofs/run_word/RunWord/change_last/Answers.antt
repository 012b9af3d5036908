use Rattle.turn_words.proofs.Common.{arith, ◌≡◌, ◌≢◌, ◌-◌, ◌∙◌, ap, ◌∷◌, ◌++◌, replicate, common_steps, RunWordView, word_of_runs, EndsBelow}
use Rattle.turn_words.proofs.RunLists.{back}
use Rattle.turn_words.proofs.RunWords.{last-of, changed-inside, changed-alone, under-short, under-apart, add-differs}
use Rattle.turn_words.proofs.run_word.RunWord.change_last.Goals as goal

pub sum_modulo-changed-requires-clause-a_below : goal.sum_modulo-changed-requires-clause-a_below
sum_modulo-changed-requires-clause-a_below g c = grind (arith, last-of, back)

pub invariant_of-self : goal.invariant_of-self
invariant_of-self g c =
    let s = c.self.inside in
    let x = c.sum_modulo-changed.result in
    let word : word_of_runs s.len s.start s.runs.runs ≡ c.args.self.now.word = ap (λ (v : RunWordView). v.word) c.self.view_is in
    let last = last-of s.len s.start c.in-Some.value c.in-Some.count s.runs.runs c.pop.new.self.runs c.self.invariant
    c.in-Some.ensures.runs c.in-Some.ensures.filled in
    let below : EndsBelow c.args.degree (c.in-Some.value ∷ replicate (c.in-Some.count - 1) c.in-Some.value
    ++ back s.start c.pop.new.self.runs) = grind arith in
    let differs : c.in-Some.value ≢ x = λ e. add-differs c.args.degree c.in-Some.value c.args.by below c.requires.by.0 c.requires.by.1
    (e ∙ c.sum_modulo-changed.ensures.sum) in
    (changed-inside s.len s.start c.in-Some.value x c.in-Some.count s.runs.runs c.pop.new.self.runs c.push_reserved.new.self.runs
    c.push_reserved-then-count-gt1.new.self.runs c.self.invariant c.in-Some.ensures.runs
    c.if-count-gt1.true differs c.push_reserved.ensures.runs c.push_reserved-then-count-gt1.ensures.runs).stored

pub returns-then-count-gt1-clause-word : goal.returns-then-count-gt1-clause-word
returns-then-count-gt1-clause-word g c = grind (arith, last-of, back, add-differs, changed-inside)

pub join-requires-clause-short : goal.join-requires-clause-short
join-requires-clause-short g c = under-short c.self.inside.len c.in-Some.value c.in-Some.count c.self.inside.runs.runs
    c.pop.new.self.runs c.self.invariant c.in-Some.ensures.runs c.in-Some.ensures.filled

pub join-requires-clause-apart : goal.join-requires-clause-apart
join-requires-clause-apart g c = under-apart c.self.inside.len c.in-Some.value c.in-Some.count c.self.inside.runs.runs
    c.pop.new.self.runs c.self.invariant c.in-Some.ensures.runs

pub invariant_of-self-else-count-gt1 : goal.invariant_of-self-else-count-gt1
invariant_of-self-else-count-gt1 g c =
    let s = c.self.inside in
    let filled = c.in-Some.ensures.filled in
    (changed-alone s.len s.start c.in-Some.value c.sum_modulo-changed.result c.in-Some.count s.runs.runs c.pop.new.self.runs
    c.join.new.self.runs c.self.invariant c.in-Some.ensures.runs
    (omega arith) c.join.ensures.written c.join.ensures.apart).stored

pub returns-else-count-gt1-clause-word : goal.returns-else-count-gt1-clause-word
returns-else-count-gt1-clause-word g c = grind (arith, common_steps, last-of, back, changed-alone)
