use Rattle.turn_words.proofs.Common.{arith, ◌<◌, ◌+◌, length, take, get_or, written}
use Rattle.turn_words.proofs.RunWords.{filled-at, length-written, written-next, written-within}
use Rattle.turn_words.proofs.run_word.RunWord.written.Goals as goal

pub push_copies-requires : goal.push_copies-requires
push_copies-requires c = grind (arith, written-within, written, filled-at)

pub loop-value-preserved : goal.loop-value-preserved
loop-value-preserved c =
    let runs = c.as_slice-value-items.result.now in
    let k = c.loop-value.value-index in
    let below : k < length runs = omega arith in
    let run = get_or runs k (0, 0) in
    let next = written-next runs k below in
    let long = length-written (take k runs) (take (k + 1) runs) run.0 run.1 next in grind (arith, written)
