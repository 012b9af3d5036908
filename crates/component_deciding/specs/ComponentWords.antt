-- Words of walks, each under the labels of its own component.
use Rattle.std.specs.Prelude.{◌≡◌, ℕ, ◌<◌, List, [], length, slice_index, slice_index_or, Option, Some, None, IfSome, MatchOption}
use Rattle.std.specs.Global.{Box}
use Rattle.surf_model.specs.ComponentParts.{component_mesh}
use Rattle.surf_model.specs.Genera.{HasGenus}
use Rattle.turn_words.specs.declared.word.Word.{Word}
use Rattle.turn_words.specs.declared.word.Word.TheVariants.{Turns}
use Rattle.walk_translate.specs.LabelledSurfaces.{LabelledView, IsLabelledSurface, IsWordUnder}
use Rattle.free_loops.specs.FreeWords.{IsFreeWordUnder}
use Rattle.free_loops.specs.declared.word.FreeWord.{FreeWord}
use Rattle.free_loops.specs.declared.word.FreeWord.TheVariants.{Ring}
use Rattle.component_deciding.specs.OwnVertices.{IsApart, own_mesh, own_walk}
use Rattle.component_deciding.specs.declared.free.PlacedWord.{PlacedWord}
use Rattle.component_deciding.specs.declared.apart.Apart.{Apart}

-- the components of a surface, each with its labels over its own vertices, where it has some so far
pub record SeveralView : Type 0 where
  pub apart : Apart
  pub labelled : List (Option (Box LabelledView))

-- what lies in a box, if any
abbrev pub unboxed : Option (Box LabelledView) → Option LabelledView
unboxed None = None
unboxed (Some box) = Some box.value

-- the labels of a component
abbrev pub labelled_at : SeveralView → ℕ → Option LabelledView
labelled_at several place = unboxed (slice_index_or several.labelled place None)

-- the component at a place over its own vertices, which is no sphere, with its labels
pub record IsOwnLabelled (apart : Apart) (place : ℕ) (labelled : LabelledView) : Type 0 where
  pub labels : IsLabelledSurface labelled
  pub mesh : labelled.surface.mesh ≡ own_mesh (component_mesh apart.mesh.faces apart.parts place)
  pub no_sphere : HasGenus (component_mesh apart.mesh.faces apart.parts place) 0 → ⊥

-- what labels there are, are those of the components
pub record AreLabelledApart (several : SeveralView) : Type 0 where
  pub apart : IsApart several.apart
  pub each : length several.labelled ≡ length several.apart.parts.components
  pub labelled : (k : ℕ) → k < length several.apart.parts.components
      → IfSome (labelled_at several k) (IsOwnLabelled several.apart k)

-- What is told of a walk that lies in the component at a place, by its own numbers there, under the labels of the component. Without labels
-- something is told of walks of a sphere alone.
abbrev pub IsToldAt : SeveralView → ℕ → List ℕ → Type 0 → (LabelledView → List ℕ → Type 0) → Type 0
IsToldAt several place walk OnSphere Under =
    MatchOption (labelled_at several place)
    (HasGenus (component_mesh several.apart.mesh.faces several.apart.parts place) 0 × OnSphere)
    (λ labelled. Under labelled (own_walk (component_mesh several.apart.mesh.faces several.apart.parts place) walk))

-- the place of the component of a walk, by its first vertex
abbrev pub place_of_walk : SeveralView → List ℕ → ℕ
place_of_walk several walk = slice_index several.apart.parts.places (slice_index walk 0)

-- the word of a walk, in the component of its first vertex
abbrev pub IsWordAmong : SeveralView → List ℕ → Word → Type 0
IsWordAmong several walk word =
    IsToldAt several (place_of_walk several walk) walk (word ≡ Turns []) (λ labelled own. IsWordUnder labelled own word)

-- the free word of a closed walk under labels
abbrev pub IsFreeUnder : LabelledView → List ℕ → FreeWord → Type 0
IsFreeUnder labelled walk word = IsFreeWordUnder labelled.surface.mesh labelled.labels walk word

-- the free word of a closed walk, with the place of the component in which it lies
pub record IsFreeAmong (several : SeveralView) (walk : List ℕ) (placed : PlacedWord) : Type 0 where
  pub place : placed.place ≡ place_of_walk several walk
  pub word : IsToldAt several placed.place walk (placed.word ≡ Ring []) (λ labelled own. IsFreeUnder labelled own placed.word)
