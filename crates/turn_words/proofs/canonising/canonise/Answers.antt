use Rattle.turn_words.proofs.Common.{arith, rules, ◌≡◌, ◌<◌, All, sym, ◌∙◌, IsTurnWord}
use Rattle.turn_words.proofs.Unique.{ReadsTo, left, reads-more, reads-end, left-is-canonical, canonical-is-left, kept}
use Rattle.turn_words.proofs.canonising.canonise.Goals as goal
use Rattle.turn_words.proofs.canonising.canonise.Goals.{After-with_room}

turns : (g : _) (c : After-with_room g) → IsTurnWord c.args.degree c.args.word.now
turns g c = let all : All (λ entry. entry < c.args.degree) c.args.word.now = search rules in record { five = omega arith; in_range = all }

pub loop-entry-preserved : goal.loop-entry-preserved
loop-entry-preserved g c =
    let d = c.args.degree in
    let word = c.args.word.now in
    let before : ReadsTo d word c.loop-entry.entry-index c.loop-entry.canonical.word c.loop-entry.change = c.loop-entry.invariant.reads in
    record {
      reads =
          reads-more d word c.loop-entry.entry-index c.loop-entry.canonical.word c.put_turn-change.new.word.word c.loop-entry.change
          c.sum_modulo-turn.result c.put_turn-change.result.change
          (turns g (goal.at.loop-entry-preserved g c).After-with_room) (omega arith) before
          c.sum_modulo-turn.ensures.sum c.put_turn-change.ensures.word c.put_turn-change.ensures.change
          (omega (arith, c.put_turn-change.ensures.longer));
      room = omega (arith, c.loop-entry.invariant.room, c.put_turn-change.ensures.room);
      counted = omega (arith, c.loop-entry.invariant.counted, c.put_turn-change.ensures.counted);
    }

pub returns : goal.returns
returns g c =
    let d = c.args.degree in
    let word = c.args.word.now in
    let given : IsTurnWord d word = turns g (goal.at.returns g c).After-with_room in
    let is : c.in_ok-written.field-0 ≡ left d word =
    c.in_ok-written.ensures ∙ reads-end d word c.loop-entry.entry-index c.loop-entry.canonical.word c.loop-entry.change (omega arith)
    c.loop-entry.invariant.reads in
    record {
      canonical = rw is (left-is-canonical d word given);
      only = λ other f. canonical-is-left d word other given f ∙ sym is;
      same = λ canonical. is ∙ kept d word (left d word) given canonical (left-is-canonical d word given);
      cases = given;
      counted = omega (arith, c.loop-entry.invariant.counted);
    }
