-- What a recorder tells of the steps that were noted. One that tells none has nothing here.
use Rattle.std.specs.Prelude.{◌≡◌, List, ◌++◌, Option, Some, None, option_map}
use Rattle.turn_words.specs.declared.step.Step.{Step}

-- what a recorder tells after more steps were noted
abbrev pub with_steps : Option (List Step) → List Step → Option (List Step)
with_steps noted steps = option_map (λ before. before ++ steps) noted

-- a recorder that tells its steps tells some more of them now, behind the others, and these are such
abbrev pub TellsMore : (List Step → Type 0) → Option (List Step) → Option (List Step) → Type 0
TellsMore Such None new = new ≡ None
TellsMore Such (Some before) new = (more : List Step) × (new ≡ Some (before ++ more)) × Such more
