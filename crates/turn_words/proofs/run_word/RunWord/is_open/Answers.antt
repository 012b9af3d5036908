use Rattle.turn_words.proofs.Common.{arith, ◌≡◌, ◌≢◌, ◌<◌, ◌-◌, ◌∙◌, ℕ, ap, sym, eqb, reverse, length, get_or, List, lt-leb, RunWordView, word_of_runs, is_open}
use Rattle.turn_words.proofs.RunWords.{open-at-one, open-at-none, open-at-start, open-at-two}
use Rattle.turn_words.proofs.run_word.RunWord.is_open.Goals as goal

-- the value of the run on top
abbrev top_of : List (ℕ × ℕ) → ℕ
top_of l = (get_or l (length l - 1) (0, 0)).0

pub returns-then-runs-top-eq1 : goal.returns-then-runs-top-eq1
returns-then-runs-top-eq1 c =
    let rs = c.self.inside.runs.runs in
    let same : c.as_slice-runs.result.now ≡ rs = c.as_slice-runs.ensures.runs in
    let word : word_of_runs c.self.inside.len c.self.inside.start rs ≡ c.args.self.now.word =
    ap (λ (s : RunWordView). s.word) c.self.view_is in
    let some : 0 < length rs = omega (arith, ap length same) in
    let one : top_of rs ≡ 1 = sym (ap top_of same) ∙ c.if-runs-top-eq1.true in
    open-at-one c.self.inside.len c.self.inside.start rs c.self.invariant c.as_slice-runs.ensures.filled some one
    ∙ ap (λ w. is_open (reverse w)) word

pub returns-then-runs-top-ne2 : goal.returns-then-runs-top-ne2
returns-then-runs-top-ne2 c =
    let rs = c.self.inside.runs.runs in
    let same : c.as_slice-runs.result.now ≡ rs = c.as_slice-runs.ensures.runs in
    let word : word_of_runs c.self.inside.len c.self.inside.start rs ≡ c.args.self.now.word =
    ap (λ (s : RunWordView). s.word) c.self.view_is in
    let some : 0 < length rs = omega (arith, ap length same) in
    let not_one : top_of rs ≢ 1 = λ e. c.if-runs-top-eq1.false (ap top_of same ∙ e) in
    let not_two : top_of rs ≢ 2 = λ e. c.if-runs-top-ne2.true (ap top_of same ∙ e) in
    open-at-none c.self.inside.len c.self.inside.start rs c.self.invariant c.as_slice-runs.ensures.filled some not_one not_two
    ∙ ap (λ w. is_open (reverse w)) word

pub returns-then-top-ge2 : goal.returns-then-top-ge2
returns-then-top-ge2 c =
    let rs = c.self.inside.runs.runs in
    let same : c.as_slice-runs.result.now ≡ rs = c.as_slice-runs.ensures.runs in
    let word : word_of_runs c.self.inside.len c.self.inside.start rs ≡ c.args.self.now.word =
    ap (λ (s : RunWordView). s.word) c.self.view_is in
    let some : 0 < length rs = omega (arith, ap length same) in
    let two : top_of rs ≡ 2 = sym (ap top_of same) ∙ c.if-runs-top-ne2.false in
    ap (λ (l : List (ℕ × ℕ)). eqb (get_or l (length l - 2) (0, 0)).0 1) same
    ∙ open-at-two c.self.inside.len c.self.inside.start rs c.self.invariant c.as_slice-runs.ensures.filled some two
    (omega (arith, ap length same)) ∙ ap (λ w. is_open (reverse w)) word

pub returns-else-top-ge2 : goal.returns-else-top-ge2
returns-else-top-ge2 c =
    let rs = c.self.inside.runs.runs in
    let same : c.as_slice-runs.result.now ≡ rs = c.as_slice-runs.ensures.runs in
    let word : word_of_runs c.self.inside.len c.self.inside.start rs ≡ c.args.self.now.word =
    ap (λ (s : RunWordView). s.word) c.self.view_is in
    let some : 0 < length rs = omega (arith, ap length same) in
    let two : top_of rs ≡ 2 = sym (ap top_of same) ∙ c.if-runs-top-ne2.false in
    lt-leb 2 (length c.as_slice-runs.result.now) c.if-top-ge2.false
    ∙ open-at-start c.self.inside.len c.self.inside.start rs c.self.invariant c.as_slice-runs.ensures.filled some two
    (omega (arith, ap length same)) ∙ ap (λ w. is_open (reverse w)) word
