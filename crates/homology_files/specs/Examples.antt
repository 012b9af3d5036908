-- The definitions at work. Each line is proved by computing.
use Rattle.std.specs.Prelude.{◌≡◌, ℕ, ℤ, List, [], ◌∷◌, ◌++◌, flat_map, map, Ok, Err, codes, refl, pos, negsuc}
use Rattle.std.specs.Fmt.{digits}
use Rattle.text_scan.specs.Lines.{unmarked, cut_lines, words, lines_from}
use Rattle.text_scan.specs.Numbers.{is_natural, value_of}
use Rattle.homology.specs.declared.certificate.FaceNumber.{FaceNumber}
use Rattle.homology.specs.declared.certificate.EdgeNumber.{EdgeNumber}
use Rattle.homology.specs.declared.certificate.HomologyCert.TheVariants.{Chain, Cocycle}
use Rattle.homology_files.specs.declared.fault.HomologyFault.TheVariants.{NoHead, Bad, Ended, Extra}
use Rattle.homology_files.specs.HomologyTexts.{cert_of_text}
use Rattle.homology_files.specs.WrittenTexts.{cert_text}

-- a text of these lines
abbrev text : List (List ℕ) → List ℕ
text = flat_map (λ line. line ++ 10 ∷ [])

abbrev face : ℕ → ℤ → FaceNumber
face f x = record { face = record { 0 = f }; number = x }

abbrev edge : ℕ → ℕ → ℤ → EdgeNumber
edge u v x = record { low = record { 0 = u }; high = record { 0 = v }; number = x }

-- A chain alone and behind its answer, and a cocycle: leading zeros and -0 may be read.
chains :
    map cert_of_text
    (text (codes "CHAIN 2" ∷ codes "0 -1" ∷ codes "07 2 # twice" ∷ [])
    ∷ text (codes "homologous" ∷ [] ∷ codes " CHAIN 2" ∷ codes "0 -01" ∷ codes "7 2" ∷ [])
    ∷ text (codes "CHAIN 0" ∷ []) ∷ [])
    ≡ Ok (Chain (face 0 (negsuc 0) ∷ face 7 (pos 2) ∷ [])) ∷ Ok (Chain (face 0 (negsuc 0) ∷ face 7 (pos 2) ∷ [])) ∷ Ok (Chain []) ∷ []
unfolding unmarked cut_lines words lines_from is_natural value_of
chains = refl

cocycles : cert_of_text (text (codes "not homologous" ∷ codes "COCYCLE 2" ∷ codes "0 5 -0" ∷ codes "1 2 2147483647" ∷ []))
    ≡ Ok (Cocycle (edge 0 5 (pos 0) ∷ edge 1 2 (pos 2147483647) ∷ []))
unfolding unmarked cut_lines words lines_from is_natural value_of
cocycles = refl

-- The head has to fit the answer, and has two words.
faulty_heads :
    map cert_of_text
    ([] ∷ codes "homologous" ∷ text (codes "homologous" ∷ codes "COCYCLE 0" ∷ [])
    ∷ codes "CHAIN" ∷ codes "CHAIN 4294967296" ∷ codes "not" ∷ [])
    ≡ Err NoHead ∷ Err (Ended 2) ∷ Err (Bad 2) ∷ Err (Bad 1) ∷ Err (Bad 1) ∷ Err (Bad 1) ∷ []
unfolding unmarked cut_lines words lines_from is_natural value_of
faulty_heads = refl

-- Faces and edges rise, an edge has its lower vertex first, and no number is too large.
faulty_lines :
    map cert_of_text
    (text (codes "CHAIN 2" ∷ codes "3 1" ∷ codes "3 1" ∷ []) ∷ text (codes "CHAIN 2" ∷ codes "0 1" ∷ [])
    ∷ text (codes "CHAIN 0" ∷ codes "0 1" ∷ []) ∷ text (codes "CHAIN 1" ∷ codes "0 2147483648" ∷ [])
    ∷ text (codes "COCYCLE 1" ∷ codes "2 1 1" ∷ []) ∷ text (codes "COCYCLE 2" ∷ codes "1 5 1" ∷ codes "1 4 1" ∷ []) ∷ [])
    ≡ Err (Bad 3) ∷ Err (Ended 3) ∷ Err (Extra 2) ∷ Err (Bad 2) ∷ Err (Bad 2) ∷ Err (Bad 3) ∷ []
unfolding unmarked cut_lines words lines_from is_natural value_of
faulty_lines = refl

-- What is written begins at the head.
written : cert_text (Cocycle (edge 0 5 (negsuc 0) ∷ [])) ≡ text (codes "COCYCLE 1" ∷ codes "0 5 -1" ∷ [])
unfolding digits
written = refl
