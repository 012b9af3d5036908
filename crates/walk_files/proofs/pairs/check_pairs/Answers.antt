use Rattle.walk_files.proofs.Common.{◌≡◌, ℕ, Bool, true, length, sym, ap, ◌∙◌, arith, err_from_is_err_and, Some, None, Ok, result_err, are_paired}
use Rattle.walk_files.proofs.PairListLemmas.{pair_passed, pair_failed, pairs_left, entry_fails, ends_fail, says_pairs}
use Rattle.walk_files.proofs.pairs.check_pairs.Goals as goal

-- the number of walks is one of pairs
paired_so : (version other count : ℕ) (result : Bool) → other ≡ version → result ≡ are_paired other count → result ≡ true
    → are_paired version count ≡ true
paired_so version other count result same is told = ap (λ v. are_paired v count) (sym same) ∙ sym is ∙ told

pub returns-in_err-check_walks-clause-pairs : goal.returns-in_err-check_walks-clause-pairs
returns-in_err-check_walks-clause-pairs c = λ mesh table.
    let failed = err_from_is_err_and c.from_residual.result c.from_residual.ensures.1 in
    let paired = paired_so c.args.walks.now.version c.version.result (length c.args.walks.now.walks) c.are_paired.result c.version.ensures
    (c.are_paired.ensures ∙ ap (are_paired c.version.result) c.len-count.ensures.count) c.if-not-are_paired.false in
    says_pairs mesh c.args.walks.now c.from_residual.result c.len-count.ensures.filled
    (ap result_err failed.1 ∙ ap Some failed.2
    ∙ entry_fails mesh c.args.walks.now c.in_err-check_walks.field-0.0 paired (c.in_err-check_walks.ensures mesh table))

pub returns-in_err-check_ends-clause-fault : goal.returns-in_err-check_ends-clause-fault
returns-in_err-check_ends-clause-fault c = λ mesh table.
    let failed = err_from_is_err_and c.from_residual-in_err-check_ends.result c.from_residual-in_err-check_ends.ensures.1 in
    let paired = paired_so c.args.walks.now.version c.version.result (length c.args.walks.now.walks) c.are_paired.result c.version.ensures
    (c.are_paired.ensures ∙ ap (are_paired c.version.result) c.len-count.ensures.count) c.if-not-are_paired.false in
    let so_far = c.loop-k.invariant mesh table in
    ap result_err failed.1 ∙ ap Some failed.2
    ∙ ends_fail mesh c.args.walks.now (Some c.in_err-check_ends.field-0.0) paired so_far.0
    (pair_failed _ c.args.walks.now.walks c.loop-k.k c.at.result.now c.at-in-loop-k.result.now c.in_err-check_ends.field-0.0 so_far.1
    c.at.ensures c.at-in-loop-k.ensures c.in_err-check_ends.ensures)

pub returns-in_err-check_ends-clause-pairs : goal.returns-in_err-check_ends-clause-pairs
returns-in_err-check_ends-clause-pairs c = λ mesh table.
    says_pairs mesh c.args.walks.now c.from_residual-in_err-check_ends.result c.len-count.ensures.filled
    (returns-in_err-check_ends-clause-fault c mesh table)

pub loop-k-preserved : goal.loop-k-preserved
loop-k-preserved c = λ mesh table.
    let so_far = c.loop-k.invariant mesh table in (
      so_far.0,
      pair_passed _ c.args.walks.now.walks c.loop-k.k c.at.result.now c.at-in-loop-k.result.now so_far.1 c.at.ensures
          c.at-in-loop-k.ensures c.in_ok-check_ends.ensures,
    )

pub returns-clause-fault : goal.returns-clause-fault
returns-clause-fault c = λ mesh table.
    let paired = paired_so c.args.walks.now.version c.version.result (length c.args.walks.now.walks) c.are_paired.result c.version.ensures
    (c.are_paired.ensures ∙ ap (are_paired c.version.result) c.len-count.ensures.count) c.if-not-are_paired.false in
    let so_far = c.loop-k.invariant mesh table in
    ends_fail mesh c.args.walks.now None paired so_far.0
    (pairs_left c.args.walks.now.walks c.loop-k.k so_far.1 (omega (arith, c.len-count.ensures.count)))

pub returns-clause-pairs : goal.returns-clause-pairs
returns-clause-pairs c = λ mesh table.
    says_pairs mesh c.args.walks.now (Ok tt) c.len-count.ensures.filled (returns-clause-fault c mesh table)
