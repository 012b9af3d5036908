use Rattle.file_pieces.proofs.Common.{◌≡◌, ℕ, List, [], ◌∷◌, ◌++◌, length, sym, ap, ◌∙◌, arith, and_parts, common_steps, bytes_eq, is_digit}
use Rattle.file_pieces.proofs.ShortLemmas.{zero_replaced, byte_put, byte_left_out}
use Rattle.file_pieces.proofs.short_line.push_byte.Goals as goal

pub returns-then-is_zero_before : goal.returns-then-is_zero_before
returns-then-is_zero_before c =
    let zero = and_parts (is_digit c.args.byte) (bytes_eq c.as_slice.result.now (48 ∷ []))
    (sym c.is_zero_before.ensures ∙ c.if-is_zero_before.true) in
    zero_replaced c.args.word.now.items c.push.new.self.items c.args.byte zero.0
    (ap (λ (t : List ℕ). bytes_eq t (48 ∷ [])) (sym c.as_slice.ensures.value) ∙ zero.1)
    (c.push.ensures.items ∙ ap (λ (t : List ℕ). t ++ c.args.byte ∷ []) c.clear.ensures) c.requires.goes_on

pub returns-then-len-lt-MOST_BYTES : goal.returns-then-len-lt-MOST_BYTES
returns-then-len-lt-MOST_BYTES c = grind (arith, common_steps, byte_put)

pub returns-else-len-lt-MOST_BYTES : goal.returns-else-len-lt-MOST_BYTES
returns-else-len-lt-MOST_BYTES c =
    let long : length c.args.word.now.items ≡ 21 = omega arith in
    byte_left_out c.args.word.now.items c.args.byte c.requires.lean c.requires.inside long
