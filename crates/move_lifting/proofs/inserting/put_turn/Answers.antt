use Rattle.move_lifting.proofs.Common.{LeadsAtPeak, Pooled, last_of, ◌<◌, ◌≡◌, ◌≢◌, ℕ, ◌+◌, ◌-◌, ◌++◌, List, length, take, get_or, ap, sym, ◌∙◌, subst, arith, IfOk-weaker, PeakedMoves, all_raised, numbers}
use Rattle.move_lifting.proofs.ExpandLemmas.{length-numbers}
use Rattle.move_lifting.proofs.BackPeakLemmas.{turn_rises}
use Rattle.move_lifting.proofs.TurnLemmas.{BeginAlike, turned_whole, spliced_whole, back_long, length-turned_whole, turn_goes, turn_freely, turn_last}
use Rattle.move_lifting.proofs.inserting.put_turn.Goals as goal
use Rattle.move_lifting.proofs.inserting.put_turn.Goals.{After-put_in, In_ok-back}

-- the way back is as long as the approach beyond what is in common
back : (c : In_ok-back) → length c.in_ok-back.back.items ≡ length c.args.approach.now - c.common_start-common.result
back c = back_long c.args.approach.now c.in_ok-back.back.items c.common_start-common.result c.in_ok-back.ensures

pub overflow_cast-more : goal.overflow_cast-more
overflow_cast-more c = omega (arith, c.requires.room, c.len-more.ensures, back (goal.at.overflow_cast-more c).In_ok-back)

pub overflow_mul-more : goal.overflow_mul-more
overflow_mul-more c = omega (arith, c.requires.room, c.len-more.ensures, back (goal.at.overflow_mul-more c).In_ok-back)

pub overflow_add-around : goal.overflow_add-around
overflow_add-around c = omega (arith, c.requires.room, c.len-more.ensures, back (goal.at.overflow_add-around c).In_ok-back)

pub overflow_add-around-2 : goal.overflow_add-around-2
overflow_add-around-2 c = omega (arith, c.requires.room, c.len-more.ensures, back (goal.at.overflow_add-around-2 c).In_ok-back)

pub reserve-requires : goal.reserve-requires
reserve-requires c =
    omega (
      arith,
      c.requires.room,
      ap (λ (p : Pooled). length p.walk) (c.common_start-common.ensures.kept ∙ c.into_laid-laid.ensures.walk),
      c.darts-around.ensures.count,
      c.len-more.ensures,
      back (goal.at.reserve-requires c).In_ok-back,
    )

pub put_in-requires-clause-spare : goal.put_in-requires-clause-spare
put_in-requires-clause-spare c =
    omega (
      arith,
      ap (λ (p : Pooled). p.spare) c.in_ok-reserve.ensures,
      c.darts-around.ensures.count,
      c.darts-around.ensures.starts,
      c.len-more.ensures,
      c.deref.ensures.len,
      back (goal.at.put_in-requires-clause-spare c).In_ok-back,
    )

-- the walk before is that of the track
was : (c : After-put_in) → c.reserve.new.self.walk ≡ c.args.track.walk
was c = grind arith

-- the approach and the walk begin alike
alike : (c : After-put_in) → BeginAlike (numbers c.args.approach.now) c.args.track.walk c.common_start-common.result
alike c = grind (arith, length-numbers)

-- the whole goes there, round, back, and on
is_whole : (c : After-put_in)
    → c.put_in.new.self.walk
    ≡ turned_whole (numbers c.args.approach.now) c.args.turn.now.walk c.args.track.walk c.common_start-common.result
is_whole c = grind (arith, was, spliced_whole, alike)

-- it has room
roomy : (c : After-put_in) → length c.put_in.new.self.walk + c.args.behind < 2147483648
roomy c =
    omega (
      arith,
      ap (λ (l : List ℕ). length l) (is_whole c),
      length-turned_whole (numbers c.args.approach.now) c.args.turn.now.walk c.args.track.walk c.common_start-common.result
          c.darts-around.ensures.starts,
      length-numbers c.args.approach.now,
      c.requires.room,
      c.darts-around.ensures.count,
      ap (λ (p : Pooled). length p.walk) (c.common_start-common.ensures.kept ∙ c.into_laid-laid.ensures.walk),
    )

pub reduced-requires-clause-room : goal.reduced-requires-clause-room
reduced-requires-clause-room c = roomy (goal.at.reduced-requires-clause-room c).After-put_in

pub returns-clause-leads : goal.returns-clause-leads
returns-clause-leads c =
    let at = (goal.at.returns-clause-leads c).After-put_in in
    let n : ℕ = c.common_start-common.result in
    let approach : List ℕ = numbers c.args.approach.now in
    let walk : List ℕ = c.args.track.walk in
    let whole : List ℕ = c.put_in.new.self.walk in
    let entries : c.len-entries.result ≡ length walk = c.len-entries.ensures.count ∙ ap (λ (l : List ℕ). length l) (was at) in
    let after : c.len-entries.result - n + c.args.behind ≡ length walk - n + c.args.behind =
    ap (λ (k : ℕ). k - n + c.args.behind) entries in
    let counted : length c.args.approach.now - 1 + c.len-more.result + (c.len-entries.result - n + c.args.behind)
    ≡ length approach - 1 + (length approach - n) + (length walk - n + c.args.behind) =
    omega (arith, after, back (goal.at.returns-clause-leads c).In_ok-back, c.len-more.ensures, length-numbers c.args.approach.now) in
    let moved : c.raise_moves.new.moves.moves
    ≡ c.insert_there_and_back.new.moves.moves ++ all_raised (length approach - 1) c.args.turn.now.moves.moves =
    c.in_ok-raise_moves.ensures.moves
    ∙ ap (λ (k : ℕ). c.insert_there_and_back.new.moves.moves ++ all_raised (k - 1) c.args.turn.now.moves.moves)
    (sym (length-numbers c.args.approach.now)) in
    IfOk-weaker c.reduced.result _ _
    (λ track goes mesh w leads.
    turn_goes mesh c.args.behind approach walk c.args.turn.now.walk whole n _ c.args.track.list c.insert_there_and_back.new.moves
    c.raise_moves.new.moves c.args.turn.now.moves track (alike at)
    (λ first rest long h.
    c.in_ok-insert_there_and_back.ensures.leads mesh first rest w (long ∙ sym after)
    (subst (λ (l : PeakedMoves). LeadsAtPeak mesh first l (take n approach ++ rest)) (sym c.into_laid-laid.ensures.list) h))
    leads c.darts-around.ensures.starts c.requires.meets moved c.in_ok-raise_moves.ensures.none c.in_ok-raise_moves.ensures.some counted
    (is_whole at) (goes mesh))
    c.reduced.ensures.leads

pub returns-clause-freely : goal.returns-clause-freely
returns-clause-freely c =
    let at = (goal.at.returns-clause-freely c).After-put_in in
    IfOk-weaker c.reduced.result _ _
    (λ track free mesh w.
    turn_freely mesh (numbers c.args.approach.now) c.args.track.walk c.args.turn.now.walk c.put_in.new.self.walk track.walk
    c.common_start-common.result w (alike at) c.darts-around.ensures.starts c.requires.meets c.requires.closed (is_whole at) (free mesh))
    c.reduced.ensures.freely

pub returns-clause-last : goal.returns-clause-last
returns-clause-last c =
    let at = (goal.at.returns-clause-last c).After-put_in in
    IfOk-weaker c.reduced.result _ _
    (λ track last.
    last ∙ ap last_of (is_whole at)
    ∙ turn_last c.args.turn.now.walk (alike at) c.darts-around.ensures.starts c.requires.meets c.requires.closed)
    c.reduced.ensures.last

pub returns-clause-few : goal.returns-clause-few
returns-clause-few c = grind (arith, roomy)

pub returns-clause-peak : goal.returns-clause-peak
returns-clause-peak c =
    let at = (goal.at.returns-clause-peak c).After-put_in in
    let n : ℕ = c.common_start-common.result in
    let approach : List ℕ = numbers c.args.approach.now in
    let walk : List ℕ = c.args.track.walk in
    let long : length approach ≡ length c.args.approach.now = length-numbers c.args.approach.now in
    let read : c.into_laid-laid.result.0.walk ≡ walk = ap (λ (p : Pooled). p.walk) c.into_laid-laid.ensures.walk in
    let entries : c.len-entries.result ≡ length walk = c.len-entries.ensures.count ∙ ap (λ (l : List ℕ). length l) (was at) in
    let begun : c.into_laid-laid.result.1.peak ≡ c.args.track.list.peak = ap (λ (l : PeakedMoves). l.peak) c.into_laid-laid.ensures.list in
    let apart : n < length approach → n < length walk → get_or approach n 0 ≢ get_or walk n 0 = λ l m.
    subst (λ (w : List ℕ). get_or approach n 0 ≢ get_or w n 0) read
    (c.common_start-common.ensures.apart (omega (arith, l, long)) (omega (arith, m, ap (λ (w : List ℕ). length w) read))) in
    IfOk-weaker c.reduced.result _ _
    (λ track rises most low few clean other.
    turn_rises approach walk c.args.turn.now.walk c.put_in.new.self.walk n c.args.behind
    _ most (length c.args.turn.now.moves.moves) c.args.turn.now.moves.peak c.args.track.list.peak
    c.insert_there_and_back.new.moves.peak c.raise_moves.new.moves.peak track.list.peak (alike at) clean other apart
    (omega (arith, c.in_ok-insert_there_and_back.ensures.peak, begun, long, entries))
    (omega (arith, c.len-more.ensures, back (goal.at.returns-clause-peak c).In_ok-back, entries, long))
    c.in_ok-raise_moves.ensures.none c.in_ok-raise_moves.ensures.some low few c.darts-around.ensures.starts (is_whole at) rises)
    c.reduced.ensures.peak
