-- The elementary steps that a put notes. Here a word is read from its end, as in `PutTurns`.
use Rattle.std.specs.Prelude.{ℕ, ◌+◌, ◌-◌, ◌≤◌, ◌==◌, Bool, true, false, ◌&&◌, if◌then◌else◌, zero, suc, List, [], ◌∷◌, ◌++◌, length}
use Rattle.turn_words.specs.Modulo.{minus}
use Rattle.turn_words.specs.PutTurns.{is_open}
use Rattle.turn_words.specs.declared.step.Step.{Step}
use Rattle.turn_words.specs.declared.step.Step.TheVariants.{SpurOut, Push}
use Rattle.turn_words.specs.declared.put.Rewrite.{Rewrite}
use Rattle.turn_words.specs.declared.put.Rewrite.TheVariants.{Plain, Spur, Flip, Close}

-- a push up at each turn of the run of -2, the last first, and at the entry before the run
abbrev pub flip_steps : ℕ → List ℕ → List Step
flip_steps degree [] = []
flip_steps degree (start ∷ []) = Push 0 true ∷ []
flip_steps degree (turn ∷ x ∷ before) =
    Push (length (x ∷ before)) true ∷ (if turn == minus degree 2 then flip_steps degree (x ∷ before) else [])

-- a push down at each turn of the bracket, the last first, and then a spur
abbrev pub close_steps : List ℕ → List Step
close_steps [] = []
close_steps (start ∷ []) = []
close_steps (turn ∷ x ∷ before) =
    Push (length (x ∷ before)) false ∷ (if turn == 1 then SpurOut (length before) ∷ [] else close_steps (x ∷ before))

-- the steps of the five cases
abbrev pub put_steps : ℕ → List ℕ → ℕ → List Step
put_steps degree [] turn = []
put_steps degree (x ∷ before) turn =
    if turn == 0 then SpurOut (length before) ∷ []
    else if turn == minus degree 1 then flip_steps degree (x ∷ before)
    else if turn == 1 && is_open (x ∷ before) then close_steps (x ∷ before)
    else []

-- pushes at a place and at those before it, the last place first
abbrev pub pushes : Bool → ℕ → ℕ → List Step
pushes up at zero = []
pushes up at (suc count) = Push at up ∷ pushes up (at - 1) count

-- the steps of a put, by the length of the word before and the run that was turned round
abbrev pub rewrite_steps : ℕ → Rewrite → List Step
rewrite_steps length Plain = []
rewrite_steps length Spur = SpurOut (length - 1) ∷ []
rewrite_steps length (Flip twos) = pushes true (length - 1) (twos + 1)
rewrite_steps length (Close twos) = pushes false (length - 1) (twos + 1) ++ SpurOut (length - 2 - twos) ∷ []

-- the run that was turned round, and what was changed with it, stood in the word before
abbrev pub StoodIn : ℕ → Rewrite → Type 0
StoodIn length Plain = Unit {0}
StoodIn length Spur = 1 ≤ length
StoodIn length (Flip twos) = twos + 1 ≤ length
StoodIn length (Close twos) = twos + 2 ≤ length
