use Rattle.surf_gen.proofs.Common.{◌≡◌, ℕ, ◌-◌, List, ◌++◌, ◌∷◌, ◌∙◌, ap, sym, map, length, drop, get_or, arith, drop-length, decimal, Result, Ok, Err, OnOk, is_ok, if◌then◌else◌, line_of}
use Rattle.surf_gen.proofs.LineLemmas.{behind_number, number_more, line_whole}
use Rattle.surf_gen.proofs.line.put_line.Goals as goal

-- what an append gives where it succeeds
appended : {E : Type 0} (r : Result (Unit {0}) E) (old new bytes line : List ℕ)
    → new ≡ (if is_ok r then old ++ bytes else old) → bytes ≡ line → OnOk r (new ≡ old ++ line)
appended (Ok x) old new bytes line all same = all ∙ ap (λ bs. old ++ bs) same
appended (Err e) old new bytes line all same = tt

pub loop-place-init : goal.loop-place-init
loop-place-init c =
    record {
      written = ap (λ line. 10 ∷ line) c.new-line.ensures ∙ sym (ap behind_number (drop-length c.args.numbers.now));
      short = omega (arith, ap length c.new-line.ensures);
      within = omega arith;
    }

pub put_before-requires : goal.put_before-requires
put_before-requires c = omega (arith, c.loop-place.invariant.short, c.loop-place.invariant.within)

pub put_number_before-requires : goal.put_number_before-requires
put_number_before-requires c = omega (arith, c.loop-place.invariant.short, c.loop-place.invariant.within, ap length c.put_before.ensures)

pub loop-place-preserved : goal.loop-place-preserved
loop-place-preserved c =
    let so_far = c.loop-place.invariant in
    let number = get_or c.args.numbers.now (c.loop-place.place - 1) 0 in
    record {
      written =
          ap (λ line. 32 ∷ line) (c.put_number_before.ensures.put ∙ ap (λ line. decimal number ++ line) c.put_before.ensures)
          ∙ number_more c.args.numbers.now c.loop-place.place c.loop-place.behind c.loop-place.line
          (omega arith) so_far.within so_far.written;
      short = omega (arith, so_far.short, c.put_number_before.ensures.short, ap length c.put_before.ensures);
      within = omega (arith, so_far.within);
    }

pub returns : goal.returns
returns c =
    let none : c.loop-place.place ≡ 0 = omega arith in
    let so_far : c.loop-place.behind ∷ c.loop-place.line ≡ behind_number (drop 0 c.args.numbers.now) =
    c.loop-place.invariant.written ∙ ap (λ k. behind_number (drop k c.args.numbers.now)) none in
    let whole : c.bytes.result.now ≡ line_of (map decimal c.args.numbers.now) =
    c.bytes.ensures ∙ line_whole c.args.numbers.now c.loop-place.behind c.loop-place.line c.requires.some so_far in
    appended c.extend_from_slice.result _ _ _ _ c.extend_from_slice.ensures.items whole
