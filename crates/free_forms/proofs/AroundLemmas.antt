-- A list between what is left of two walks stays within its bound where the common darts stand around it.
use Rattle.free_forms.proofs.Common.{AreLeft, fewer_darts, AreCommonDarts, put_around, IsListWithin, MOST_OPEN_SIDES, MOST_OPEN_DARTS, MOST_OPEN_STEPS, ◌≡◌, ℕ, ◌+◌, ◌*◌, ◌<◌, ◌≤◌, List, length, arith, common_steps, PeakedMoves, darts}
use Rattle.common_ends.specs.declared.common_darts.CommonDarts.{CommonDarts}

-- each common dart is paid for by those of the whole walks
pub around_within : {first second near far : List ℕ} {common : CommonDarts} {list : PeakedMoves} (whole : PeakedMoves) → 0 < length first
    → 0 < length second → AreCommonDarts first second common → AreLeft first second common near far
    → IsListWithin ((darts near + darts far) * MOST_OPEN_SIDES) list → whole ≡ put_around common list
    → darts first + darts second ≤ MOST_OPEN_DARTS → IsListWithin MOST_OPEN_STEPS whole
around_within {first} {second} {near} {far} {common} {list} whole some other_some c left short is few =
    grind (arith, common_steps, fewer_darts)
