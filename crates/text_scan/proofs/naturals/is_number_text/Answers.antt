use Rattle.text_scan.proofs.Common.{ap, ◌∙◌, is_unsigned_text, is_number_text}
use Rattle.text_scan.proofs.naturals.is_number_text.Goals as goal

pub returns : goal.returns
unfolding is_number_text
returns c = c.is_unsigned_text.ensures ∙ ap is_unsigned_text c.after_sign.ensures
