pub mod Common
pub mod RenamedSides
pub mod RenamedWalks
pub mod RenamedMoves
pub mod RenamedSurfaces
pub mod RenamingExamples
