use Rattle.commands.proofs.Common.{word_line, ◌≡◌, ◌<◌, ◌≤◌, List, [], ℕ, length, get_or, refl, subst, slice_get_read, err_from_is_err_and, slice_get, each-none, each-more, each-fails, puts-same}
use Rattle.std.proofs.Common.{Some}
use Rattle.commands.proofs.GatheredLines.{word_line-put}
use Rattle.commands.proofs.Writing.{writes_each, writes_unput}
use Rattle.commands.proofs.word_lines.put_words.Goals as goal

pub loop-word-init : goal.loop-word-init
loop-word-init g c = each-none c.args.out.now c.new-piece.result word_line c.args.words.now.items

pub returns-in_err-put_turns : goal.returns-in_err-put_turns
returns-in_err-put_turns g c =
    let items = c.args.words.now.items in
    let word = c.word-item.result in
    let value : c.deref-word-items.result.now ≡ items = c.deref-word-items.ensures.value in
    let here : slice_get items c.loop-word.word-index ≡ Some word =
    slice_get_read items (length items) c.loop-word.word-index word refl
    (subst (λ (t : List (List ℕ)). c.loop-word.word-index < length t) value c.loop-word-test.true)
    (subst (λ (t : List (List ℕ)). word ≡ get_or t c.loop-word.word-index word) value c.word-item.is) in
    let failed = err_from_is_err_and c.from_residual.result c.from_residual.ensures.1 in
    let puts = puts-same (word_line-put word) c.in_err-put_turns.ensures.puts in
    writes_unput failed.1 c.new-piece.ensures (each-fails [] failed.1 c.loop-word.invariant here puts.failed puts.only_writes)

pub loop-word-preserved : goal.loop-word-preserved
loop-word-preserved g c =
    let items = c.args.words.now.items in
    let word = c.word-item.result in
    let value : c.deref-word-items.result.now ≡ items = c.deref-word-items.ensures.value in
    let here : slice_get items c.loop-word.word-index ≡ Some word =
    slice_get_read items (length items) c.loop-word.word-index word refl
    (subst (λ (t : List (List ℕ)). c.loop-word.word-index < length t) value c.loop-word-test.true)
    (subst (λ (t : List (List ℕ)). word ≡ get_or t c.loop-word.word-index word) value c.word-item.is) in
    let puts = puts-same (word_line-put word) c.in_ok-put_turns.ensures.puts in
    each-more c.loop-word.invariant here puts.ok puts.only_writes

pub returns : goal.returns
returns g c =
    let value : c.deref-word-items.result.now ≡ c.args.words.now.items = c.deref-word-items.ensures.value in
    let out = c.write_out.ensures in
    writes_each c.write_out.new.sink c.write_out.result c.new-piece.ensures c.loop-word.invariant
    (subst (λ (t : List (List ℕ)). length t ≤ c.loop-word.word-index) value c.loop-word-test.false) out.ok out.failed
    out.failed_only_on_fault (record { same_settled = out.same_settled; never_falls = out.never_falls })
