-- What is first wrong with a list that is to be two walks of a mesh, of which something more is asked.
use Rattle.std.specs.Prelude.{ℕ, List, [], ◌∷◌, length, Option, Some, option_map}
use Rattle.std.specs.Option.{option_or}
use Rattle.surf_model.specs.FaceLists.{FaceList}
use Rattle.walk_files.specs.Entries.{walks_fault}
use Rattle.walk_files.specs.declared.entries.EntryFault.{EntryFault}

-- That they are not two, that an entry is at fault, or what is wrong with both of them, as faults of one kind.
abbrev pub two_fault : {F : Type 0} → (ℕ → F) → (EntryFault → F) → (List ℕ → List ℕ → Option F) → FaceList → List (List ℕ) → Option F
two_fault not_two of_entry of_both mesh (first ∷ second ∷ []) =
    option_or (option_map of_entry (walks_fault mesh (first ∷ second ∷ []))) (of_both first second)
two_fault not_two of_entry of_both mesh walks = Some (not_two (length walks))
