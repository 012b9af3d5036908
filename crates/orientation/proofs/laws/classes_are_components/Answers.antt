use Rattle.orientation.proofs.ComponentClasses.{classes_are_components}
use Rattle.orientation.proofs.laws.classes_are_components.Goals as goal

pub returns : goal.returns
returns c = classes_are_components
