use Rattle.verify_homology_commands.proofs.Common.{IsVerdict, ◌≡◌, ℕ, List, sym, subst, walk_at}
use Rattle.std.proofs.lemmas.Option.{get_or_from_slice_get}
use Rattle.verify_homology_commands.proofs.Verifying.{verdict_judged}
use Rattle.verify_homology_commands.proofs.verify_homology.judge.Goals as goal

pub returns : goal.returns
returns c =
    let faces = c.args.faces.now in
    let pair = c.args.pair.now.walks in
    let shown = c.args.certificate.now in
    let verdict = c.in_ok-verdict.verdict in
    let first : c.at.result.now ≡ walk_at pair 0 = sym (get_or_from_slice_get pair 0 c.at.result.now _ c.at.ensures) in
    let second : c.at-2.result.now ≡ walk_at pair 1 = sym (get_or_from_slice_get pair 1 c.at-2.result.now _ c.at-2.ensures) in
    let is : IsVerdict faces (walk_at pair 0) (walk_at pair 1) shown verdict =
    subst (λ (w : List ℕ). IsVerdict faces (walk_at pair 0) w shown verdict) second
    (subst (λ (w : List ℕ). IsVerdict faces w c.at-2.result.now shown verdict) first c.in_ok-verdict.ensures.verdict) in
    verdict_judged faces (walk_at pair 0) (walk_at pair 1) shown verdict c.reply_on.result is c.reply_on.ensures
