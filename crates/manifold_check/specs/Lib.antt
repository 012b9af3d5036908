pub mod UnevenEdges
pub mod Faults
pub mod StoredParts
pub mod Examples
