use Rattle.walk_files.proofs.Common.{FaceLabels, ◌++◌, List, ℕ, ap, subst, arith, err_from_is_err_and, flat_map, on_ok, puts-then, puts-fails, puts-same, line_of, face_words, places_words, labels_head_words, AreNumbers}
use Rattle.walk_files.proofs.denial_writing.put_labelling.Goals as goal

pub returns-in_err-put_line-clause-puts : goal.returns-in_err-put_line-clause-puts
returns-in_err-put_line-clause-puts g c =
    let failed = err_from_is_err_and c.from_residual.result c.from_residual.ensures.1 in
    let head = puts-same (ap (λ d. line_of (labels_head_words d)) c.degree.ensures) c.in_err-put_line.ensures.puts in
    let faces : List ℕ = flat_map (λ (face : FaceLabels). line_of (face_words face)) c.args.labelling.now.faces in
    puts-fails _ (line_of (labels_head_words c.args.labelling.now.degree)) (faces ++ line_of (places_words c.args.labelling.now.places))
    failed.1
    head.failed head.only_writes

pub returns-in_err-put_faces-clause-puts : goal.returns-in_err-put_faces-clause-puts
returns-in_err-put_faces-clause-puts g c =
    let failed = err_from_is_err_and c.from_residual-in_err-put_faces.result c.from_residual-in_err-put_faces.ensures.1 in
    let head = puts-same (ap (λ d. line_of (labels_head_words d)) c.degree.ensures) c.in_ok-put_line.ensures.puts in
    let faces : List ℕ = flat_map (λ (face : FaceLabels). line_of (face_words face)) c.args.labelling.now.faces in
    puts-then head.ok head.only_writes
    (puts-fails _ faces (line_of (places_words c.args.labelling.now.places)) failed.1 c.in_err-put_faces.ensures.puts.failed
    c.in_err-put_faces.ensures.puts.only_writes)

pub returns-clause-puts : goal.returns-clause-puts
returns-clause-puts g c =
    let head = puts-same (ap (λ d. line_of (labels_head_words d)) c.degree.ensures) c.in_ok-put_line.ensures.puts in
    let places = puts-same (ap (λ ps. line_of (places_words ps)) c.all_places.ensures.places) c.put_line-2.ensures.puts in
    puts-then head.ok head.only_writes (puts-then c.in_ok-put_faces.ensures.puts.ok c.in_ok-put_faces.ensures.puts.only_writes places)

pub returns-clause-numbers : goal.returns-clause-numbers
returns-clause-numbers g c =
    on_ok c.put_line-2.result
    (λ _. record {
      degree = omega (arith, c.degree.ensures, c.degree.type_inv);
      labels = c.in_ok-put_faces.ensures.numbers;
      places =
          subst AreNumbers c.all_places.ensures.places
          c.put_line-2.ensures.numbers;
    }) c.put_line-2.ensures.puts.ok
