use Rattle.walk_files.proofs.Common.{◌≡◌, ℕ, List, [], ◌∷◌, ◌++◌, inl, inr, refl, sym, ap, ◌∙◌, length, arith, rules, true, false, codes, Result, Ok, Err, MatchResult, OnOk, bytes_eq, number_of, CertFault}
use Rattle.walk_files.proofs.DenialLines.{IsBehind, behind_keyword, few-behind, so_far-face, so_far-places, so_far-no_places, length-each_some}
use Rattle.walk_files.proofs.denial.read_labelling.Goals as goal
use Rattle.walk_files.proofs.denial.read_labelling.Goals.{After-unwrap-keyword}

-- a line was found, and its first word is the keyword
keyword : (c : After-unwrap-keyword) → IsBehind c.loop-cursor.cursor c.word.new.self c.unwrap-keyword.result.now
keyword c =
    behind_keyword c.loop-cursor.cursor c.find_line.new.self c.word.new.self c.unwrap-keyword.result.now
    (sym c.find_line.ensures.found ∙ c.loop-cursor-test.true) c.find_line.ensures.place (search rules) c.word.ensures.place

pub read_places-requires-clause-few : goal.read_places-requires-clause-few
read_places-requires-clause-few c =
    let behind = keyword (goal.at.read_places-requires-clause-few c).After-unwrap-keyword in
    few-behind c.loop-cursor.cursor c.word.new.self c.unwrap-keyword.result.now behind c.loop-cursor.invariant.words

pub push_face-requires-clause-labels : goal.push_face-requires-clause-labels
push_face-requires-clause-labels c =
    let behind = keyword (goal.at.push_face-requires-clause-labels c).After-unwrap-keyword in
    let few = few-behind c.loop-cursor.cursor c.word.new.self c.unwrap-keyword.result.now behind c.loop-cursor.invariant.words in
    let all : length c.read_face.new.labels.items ≡ length c.word.new.self.words =
    length-each_some number_of c.word.new.self.words c.read_face.new.labels.items c.in_ok-flipped.ensures.face.1 in
    let same : c.deref.result.now ≡ c.read_face.new.labels.items = c.deref.ensures.value in
    omega (arith, few, all, ap (λ (ns : List ℕ). length ns) same)

pub loop-cursor-preserved : goal.loop-cursor-preserved
loop-cursor-preserved c =
    let behind = keyword (goal.at.loop-cursor-preserved c).After-unwrap-keyword in
    let no_places : bytes_eq c.unwrap-keyword.result.now (codes "places") ≡ false = search rules in
    let pushed : c.push_face.new.self
    ≡ record c.loop-cursor.labelling {
      faces =
          c.loop-cursor.labelling.faces ++ (record { flipped = c.in_ok-flipped.flipped; labels = c.read_face.new.labels.items }) ∷ [];
    } =
    search rules in
    so_far-face c.args.cursor.now c.loop-cursor.cursor c.word.new.self c.read_face.new.cursor c.args.labelling.now c.loop-cursor.labelling
    c.push_face.new.self
    c.unwrap-keyword.result.now c.in_ok-flipped.flipped c.read_face.new.labels.items c.loop-cursor.invariant behind no_places
    c.in_ok-flipped.ensures.face.0
    c.in_ok-flipped.ensures.face.1 c.in_ok-flipped.ensures.place c.in_ok-flipped.ensures.ended pushed

-- what follows for either result
on_result : {P Q : Type 0} {A : CertFault → Type 0} {B : CertFault → Type 0} (r : Result (Unit {0}) CertFault) → MatchResult r (λ _. P) A
    → (r ≡ Ok tt → P → Q)
    → ((fault : CertFault) → A fault → B fault)
    → MatchResult r (λ _. Q) B
on_result (Ok x) h f g = f refl h
on_result (Err fault) h f g = g fault h

pub returns-then-eq-clause-labelling : goal.returns-then-eq-clause-labelling
returns-then-eq-clause-labelling c =
    let behind = keyword (goal.at.returns-then-eq-clause-labelling c).After-unwrap-keyword in
    let is_places : bytes_eq c.unwrap-keyword.result.now (codes "places") ≡ true = search rules in
    on_result c.read_places.result c.read_places.ensures.places
    (λ ok read.
    so_far-places c.args.cursor.now c.loop-cursor.cursor c.word.new.self c.read_places.new.cursor c.args.labelling.now
    c.loop-cursor.labelling c.read_places.new.labelling
    c.unwrap-keyword.result.now c.loop-cursor.invariant behind is_places read c.read_places.ensures.labelling c.read_places.ensures.place
    (ended_ok c.read_places.result ok c.read_places.ensures.ended))
    (λ fault wrong. elim wrong [
      | inl bad ↦
          inl (so_far-no_places c.args.cursor.now c.loop-cursor.cursor c.word.new.self c.args.labelling.now c.loop-cursor.labelling
          c.unwrap-keyword.result.now c.loop-cursor.invariant behind
          is_places bad.0 ∙ ap Err (sym bad.1))
      | inr memory ↦ inr memory
    ])
  where
    ended_ok : {P : Type 0} (r : Result (Unit {0}) CertFault) → r ≡ Ok tt → OnOk r P → P
    ended_ok (Ok x) e h = h
    ended_ok (Err fault) e h = cc
