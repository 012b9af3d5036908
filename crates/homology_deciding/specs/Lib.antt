pub mod FaceTrees
pub mod Heights
pub mod Cuts
pub mod Proofs
