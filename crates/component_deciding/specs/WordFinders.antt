-- A surface of which the words of walks are asked.
use Rattle.std.specs.Prelude.{◌≡◌, ℕ, List}
use Rattle.surf_model.specs.FaceLists.{FaceList}
use Rattle.turn_words.specs.declared.word.Word.{Word}
use Rattle.walk_translate.specs.LabelledSurfaces.{IsWordUnder}
use Rattle.component_deciding.specs.ComponentWords.{IsWordAmong, IsFreeUnder, IsFreeAmong}
use Rattle.component_deciding.specs.declared.free.PlacedWord.{PlacedWord}
use Rattle.component_deciding.specs.declared.word_finder.WordFinder.{WordFinder}
use Rattle.component_deciding.specs.declared.word_finder.WordFinder.TheVariants.{Whole, Several}

-- its mesh
abbrev pub mesh_of_finder : WordFinder → FaceList
mesh_of_finder (Whole labelled) = labelled.surface.mesh
mesh_of_finder (Several several) = several.apart.mesh.faces

-- the word of a walk there
abbrev pub IsWordIn : WordFinder → List ℕ → Word → Type 0
IsWordIn (Whole labelled) walk word = IsWordUnder labelled walk word
IsWordIn (Several several) walk word = IsWordAmong several walk word

-- the free word of a closed walk there, with the place of its component
abbrev pub IsFreeIn : WordFinder → List ℕ → PlacedWord → Type 0
IsFreeIn (Whole labelled) walk placed = (placed.place ≡ 0) × IsFreeUnder labelled walk placed.word
IsFreeIn (Several several) walk placed = IsFreeAmong several walk placed
