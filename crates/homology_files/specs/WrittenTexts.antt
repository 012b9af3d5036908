-- How a certificate of homology is written.
use Rattle.std.specs.Prelude.{ℕ, ◌<◌, ◌^◌, List, [], ◌∷◌, length, map, flat_map, codes, decimal, All}
use Rattle.std.specs.Fmt.{signed_decimal}
use Rattle.text_scan.specs.Plain.{line_of}
use Rattle.homology.specs.Certificates.{AreFaceNumbers, AreEdgeNumbers}
use Rattle.homology.specs.declared.certificate.FaceNumber.{FaceNumber}
use Rattle.homology.specs.declared.certificate.EdgeNumber.{EdgeNumber}
use Rattle.homology.specs.declared.certificate.HomologyCert.{HomologyCert}
use Rattle.homology.specs.declared.certificate.HomologyCert.TheVariants.{Chain, Cocycle}
use Rattle.homology_files.specs.declared.head.Kind.{Kind}
use Rattle.homology_files.specs.declared.head.Kind.TheVariants.{OfFaces, OfEdges}

-- the kind of a certificate
abbrev pub kind_in : HomologyCert → Kind
kind_in (Chain lines) = OfFaces
kind_in (Cocycle lines) = OfEdges

-- the words of the number of a face
abbrev pub face_number_words : FaceNumber → List (List ℕ)
face_number_words line = decimal line.face.0 ∷ signed_decimal line.number ∷ []

-- the words of the number of an edge
abbrev pub edge_words : EdgeNumber → List (List ℕ)
edge_words line = decimal line.low.0 ∷ decimal line.high.0 ∷ signed_decimal line.number ∷ []

-- the lines of a certificate: the head, and one for each number
abbrev pub cert_lines : HomologyCert → List (List (List ℕ))
cert_lines (Chain lines) = (codes "CHAIN" ∷ decimal (length lines) ∷ []) ∷ map face_number_words lines
cert_lines (Cocycle lines) = (codes "COCYCLE" ∷ decimal (length lines) ∷ []) ∷ map edge_words lines

-- the text of a certificate
abbrev pub cert_text : HomologyCert → List ℕ
cert_text cert = flat_map line_of (cert_lines cert)

-- the name of a face fits 32 bits
abbrev pub FaceFits : FaceNumber → Type 0
FaceFits line = line.face.0 < 2 ^ 32

-- the names of the vertices of an edge fit 32 bits
abbrev pub EdgeFits : EdgeNumber → Type 0
EdgeFits line = (line.low.0 < 2 ^ 32) × (line.high.0 < 2 ^ 32)

-- what a certificate must keep to, so that it reads back: its numbers are those of the program
abbrev pub FitsHomologyFormat : HomologyCert → Type 0
FitsHomologyFormat (Chain lines) = AreFaceNumbers lines × All FaceFits lines
FitsHomologyFormat (Cocycle lines) = AreEdgeNumbers lines × All EdgeFits lines
