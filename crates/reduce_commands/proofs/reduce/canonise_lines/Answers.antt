use Rattle.reduce_commands.proofs.Common.{rules, ◌≡◌, ◌∷◌, [], ◌++◌, ◌∙◌, Ok, before_ok-more, NumberLine}
use Rattle.text_scan.specs.Each.{ok_first}
use Rattle.reduce_commands.proofs.reduce.canonise_lines.Goals as goal

pub loop-so_far-preserved : goal.loop-so_far-preserved
loop-so_far-preserved g c =
    let so_far = c.loop-so_far.invariant in
    let list : NumberLine = c.next_word.new.reader.present in
    let here : c.loop-so_far.reader.left ≡ ok_first (Ok list) c.next_word.new.reader.left =
    (let read = c.in_ok-next_word.ensures.word in let more = c.if-branch.true in search rules) in (
      so_far.0 ++ list ∷ [],
      so_far.1 ∙ rw here (before_ok-more so_far.0 list c.next_word.new.reader.left),
      c.in_ok-put.ensures so_far.0 so_far.2,
    )
