use Rattle.walk_files.proofs.Common.{◌≡◌, ◌<◌, ◌^◌, false, List, ℕ, length, drop, sym, ap, ◌∙◌, subst, full_lines, behind_head, AreFew, Certificate}
use Rattle.walk_files.proofs.FewLemmas.{full_lines-few, few-drop, few-behind_head}
use Rattle.walk_files.proofs.reader.CertReader.denial.Goals as goal

pub read_denial-answer-requires : goal.read_denial-answer-requires
read_denial-answer-requires c =
    let i = c.self.inside in
    let undenied : i.denied ≡ false = ap (λ (r : Certificate). r.denied) c.self.view_is ∙ c.requires.once in
    let text : i.text.now ≡ c.args.self.now.text = ap (λ (r : Certificate). r.text) c.self.view_is in
    let short : length i.text.now < 2 ^ 32 = subst (λ (t : List ℕ). length t < 2 ^ 32) (sym text) c.requires.short in
    let few : AreFew (drop i.given (behind_head (full_lines i.text.now))) =
    few-drop i.given (behind_head (full_lines i.text.now)) (few-behind_head (full_lines i.text.now) (full_lines-few i.text.now short)) in
    subst AreFew (sym (c.self.invariant.lines undenied c.in_default.is)) few
