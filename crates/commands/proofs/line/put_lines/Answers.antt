use Rattle.commands.proofs.Common.{in_lines, ◌≡◌, ◌<◌, ◌≤◌, ◌++◌, ℕ, suc, List, length, get_or, take, drop, sym, ap, subst, ◌∙◌, arith, take_all, err_from_is_err_and, appends_twice, part_after, Appends}
use Rattle.commands.proofs.Writing.{lines-more, lines-parts}
use Rattle.commands.proofs.line.put_lines.Goals as goal

pub returns-in_err-put_line : goal.returns-in_err-put_line
returns-in_err-put_line g c =
    let value : c.deref-line-items.result.now ≡ c.args.lines.now.items = c.deref-line-items.ensures.value in
    let lines = c.args.lines.now.items in
    let item = c.line-item.result in
    let k = c.loop-line.line-index in
    let so_far = c.loop-line.invariant in
    let below : k < length lines = subst (λ (t : List (List ℕ)). k < length t) value c.loop-line-test.true in
    let is : item ≡ get_or lines k item = subst (λ (t : List (List ℕ)). item ≡ get_or t k item) value c.line-item.is in
    let only = c.in_err-put_line.ensures.only_writes in
    let p = err_from_is_err_and c.from_residual.result c.from_residual.ensures.1 in
    rw p.1 (record {
      ok = tt;
      failed =
          part_after g.K.Sink.written g.K.Sink.faults c.args.out.now c.loop-line.out c.put_line.new.out (in_lines (take k lines)) item
          (in_lines (drop (suc k) lines)) (in_lines lines) so_far.written so_far.never_falls
          (lines-parts lines k item below ∙ ap (λ (t : List ℕ). in_lines (take k lines) ++ (t ++ in_lines (drop (suc k) lines))) (sym is))
          c.in_err-put_line.ensures.failed;
      only_writes =
          record {
            same_settled = only.same_settled ∙ so_far.same_settled;
            never_falls = omega (arith, so_far.never_falls, only.never_falls);
          };
    })

pub loop-line-preserved : goal.loop-line-preserved
loop-line-preserved g c =
    let value : c.deref-line-items.result.now ≡ c.args.lines.now.items = c.deref-line-items.ensures.value in
    let lines = c.args.lines.now.items in
    let item = c.line-item.result in
    let k = c.loop-line.line-index in
    let so_far = c.loop-line.invariant in
    let below : k < length lines = subst (λ (t : List (List ℕ)). k < length t) value c.loop-line-test.true in
    let is : item ≡ get_or lines k item = subst (λ (t : List (List ℕ)). item ≡ get_or t k item) value c.line-item.is in
    let only = c.in_ok-put_line.ensures.only_writes in
    record {
      written =
          subst (Appends (g.K.Sink.written c.args.out.now) (g.K.Sink.written c.put_line.new.out))
          (ap (λ (t : List ℕ). in_lines (take k lines) ++ t) is ∙ sym (lines-more lines k item below))
          (appends_twice (g.K.Sink.written c.args.out.now) (g.K.Sink.written c.loop-line.out) (g.K.Sink.written c.put_line.new.out)
          (in_lines (take k lines)) item so_far.written c.in_ok-put_line.ensures.ok);
      never_falls = omega (arith, so_far.never_falls, only.never_falls);
      same_settled = only.same_settled ∙ so_far.same_settled;
    }

pub returns : goal.returns
returns g c =
    let value : c.deref-line-items.result.now ≡ c.args.lines.now.items = c.deref-line-items.ensures.value in
    let lines = c.args.lines.now.items in
    let k = c.loop-line.line-index in
    let past = subst (λ (t : List (List ℕ)). length t ≤ k) value c.loop-line-test.false in
    let so_far = c.loop-line.invariant in
    record {
      ok =
          subst (λ (t : List (List ℕ)). Appends (g.K.Sink.written c.args.out.now) (g.K.Sink.written c.loop-line.out) (in_lines t))
          (take_all k lines past) so_far.written;
      failed = tt;
      only_writes = record { same_settled = so_far.same_settled; never_falls = so_far.never_falls };
    }
