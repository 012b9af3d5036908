-- An answer that is no refusal comes of an input of its command.
use Rattle.program.proofs.Common.{IsCertifyInput, IsWithinLimits, certified, certify_limits, limit_fault, limit_word, both_passed, unless_passed, Answer, Exactly, yes_with, Check, Passes, IsTold, Holds, pass, pass_unless, ◌>>=◌, IsInputOnSurface, IsInputWith, certificate_in, mesh_in, pair_in, SpellsCertificate, SpellsPair, Status, Refused, Yes, IsHomologyInput, homology_shown, cert_of_text, IsLoopsInput, SpellsLoops, freely_decided, loops_in, decided_with_list, open_surface_in, Question, open_limits, open_pair_in, question, IsDecideInput, all_decided, SpellsPairs, pairs_in, Row, IsRow, Surface, Decide, Certify, Loops, DecideOpen, CertifyOpen, Homology, Verify, VerifyHomology, Reduce, answer_to, Answers, reduced, ◌≡◌, ℕ, List, [], ◌∷◌, codes, ap, ◌∙◌, ◌≢◌, Ok, Option, Files, FaceList, IsOrientableSurface, walk_at, HasFewComponents, IsSurfaceInput, genera_of, numbers_of, numbers_text, of_few_components, surface_in, MOST_COMPONENTS, judgement, WalkPair, walks_in_pairs, WalkText}
use Rattle.commands.proofs.LimitLemmas.{fitting}
use Rattle.commands.specs.Decisions.{decided}
use Rattle.commands.specs.WordTexts.{words_text}
use Rattle.program.specs.Premises.{HasOpenInput, HasPremises, OfSomeWalks}
use Rattle.reduce_commands.specs.Reduce.{canonical_words, degree_fault, degree_line, entries_on, lines_in, range_fault, range_line, reduce}
use Rattle.walk_files.specs.NumberLists.{NumberLine}
use Rattle.verify_homology_commands.specs.VerifyHomology as homology
use Rattle.open_commands.specs.OpenPairs as open_pairs
use Rattle.program.proofs.PremiseFiles.{certificate_held, homology_held, loops_held, mesh_held, open_held, pair_held, pairs_held, surface_held}
use Rattle.program.proofs.PremiseLemmas.{answer_passed, holds_itself}
use Rattle.program.proofs.Rows.{row_answered}

-- ---- a command on a surface

-- the surface, and what was read of its walks, of which this is so
record OnSurface {T : Type 0} (IsSo : FaceList → T → Type 0) : Type 0 where
  mesh : FaceList
  walks : T
  is_so : IsSo mesh walks

on_surface : {T : Type 0} (keyword : List ℕ) (AreSuch : FaceList → T → List ℕ → Type 0) (walks_in : FaceList → Check T)
    (next : FaceList → T → Check Answer) (held : Option Files) (words : List (List ℕ)) (mesh walks : List ℕ) (answer : Answer)
    → words ≡ keyword ∷ mesh ∷ walks ∷ [] → IsTold held mesh
    → ((surface : FaceList) (read : T) → Passes (walks_in surface) read → Holds held walks (AreSuch surface read))
    → Passes (surface_in held mesh >>= (λ s. walks_in s >>= next s)) answer
    → OnSurface (λ surface read. IsInputOnSurface keyword (AreSuch surface read) held words surface × Passes (next surface read) answer)
on_surface keyword AreSuch walks_in next held words mesh walks answer words_are told walks_held p =
    let surface = both_passed (surface_in held mesh) (λ s. walks_in s >>= next s) answer p in
    let read = both_passed (walks_in surface.0) (next surface.0) answer surface.2 in
    let spelled = surface_held held mesh surface.0 told surface.1 in
    record {
      mesh = surface.0;
      walks = read.0;
      is_so = (
        record {
          mesh_name = mesh;
          walks_name = walks;
          words_are = words_are;
          mesh_file = spelled.0;
          is_surface = spelled.1;
          walks_file = walks_held surface.0 read.0 read.1;
        },
        read.2,
      );
    }

-- ---- a judge of a certificate

on_files : {C : Type 0} (keyword : List ℕ) (AreSuch : C → List ℕ → Type 0) (shown_in : Check C)
    (next : FaceList → List (List ℕ) → C → Check Answer) (held : Option Files) (words : List (List ℕ)) (mesh walks certificate : List ℕ)
    (answer : Answer) → words ≡ keyword ∷ mesh ∷ walks ∷ certificate ∷ [] → IsTold held mesh → IsTold held walks
    → ((shown : C) → Passes shown_in shown → Holds held certificate (AreSuch shown))
    → Passes (mesh_in held mesh >>= (λ faces. pair_in held walks faces >>= (λ pair. shown_in >>= next faces pair))) answer
    → OfSomeWalks (λ faces first second. (text : List ℕ) × IsInputWith keyword (λ bytes. bytes ≡ text) held words faces first second
    × (shown : C) × IsInputWith keyword (AreSuch shown) held words faces first second)
on_files keyword AreSuch shown_in next held words mesh walks certificate answer words_are mesh_told walks_told shown_held p =
    let faces = both_passed (mesh_in held mesh) (λ f. pair_in held walks f >>= (λ pair. shown_in >>= next f pair)) answer p in
    let pair = both_passed (pair_in held walks faces.0) (λ w. shown_in >>= next faces.0 w) answer faces.2 in
    let shown = both_passed shown_in (next faces.0 pair.0) answer pair.2 in
    let file = holds_itself held certificate (AreSuch shown.0) (shown_held shown.0 shown.1) in
    let as_input : (Such : List ℕ → Type 0) → Holds held certificate Such
    → IsInputWith keyword Such held words faces.0 (walk_at pair.0 0) (walk_at pair.0 1) =
    λ Such such. record {
      mesh_name = mesh;
      walks_name = walks;
      certificate_name = certificate;
      words_are = words_are;
      mesh_file = mesh_held held mesh faces.0 mesh_told faces.1;
      walks_file = pair_held held walks faces.0 pair.0 walks_told pair.1;
      certificate_file = such;
    } in
    record {
      mesh = faces.0;
      first = walk_at pair.0 0;
      second = walk_at pair.0 1;
      is_so = (
        file.0,
        as_input (λ bytes. bytes ≡ file.0) file.2,
        shown.0,
        as_input (AreSuch shown.0) (shown_held shown.0 shown.1),
      );
    }

-- ---- a command on an open surface

-- the question that two walks are, within the limits
abbrev within_open : FaceList → List (List ℕ) → Check Question
within_open s pair = pass_unless (λ line. Exactly line) (open_pairs.open_limit_fault s (walk_at pair 0) (walk_at pair 1)) (question s pair)

on_open : (keyword : List ℕ) (held : Option Files) (words : List (List ℕ)) (mesh walks : List ℕ) (next : Question → Check Answer)
    (answer : Answer) → words ≡ keyword ∷ mesh ∷ walks ∷ [] → IsTold held mesh → IsTold held walks
    → Passes (open_pair_in held mesh walks >>= next) answer → HasOpenInput keyword held words
on_open keyword held words mesh walks next answer words_are mesh_told walks_told p =
    let asked = both_passed (open_pair_in held mesh walks) next answer p in
    let surface = both_passed (open_surface_in held mesh) (λ s. pair_in held walks s >>= within_open s) asked.0 asked.1 in
    let pair = both_passed (pair_in held walks surface.0) (within_open surface.0) asked.0 surface.2 in
    let within = unless_passed (λ line. Exactly line) (open_pairs.open_limit_fault surface.0 (walk_at pair.0 0) (walk_at pair.0 1))
    (question surface.0 pair.0) asked.0 pair.2 in
    let spelled = open_held held mesh surface.0 mesh_told surface.1 in
    record {
      mesh = surface.0;
      first = walk_at pair.0 0;
      second = walk_at pair.0 1;
      is_so = (
        record {
          mesh_name = mesh;
          walks_name = walks;
          words_are = words_are;
          mesh_file = spelled.0;
          is_open = spelled.1;
          is_orientable = spelled.2;
          walks_file = pair_held held walks surface.0 pair.0 walks_told pair.1;
        },
        fitting open_limits open_pairs.open_limit_word surface.0 (walk_at pair.0 0) (walk_at pair.0 1) within.0,
      );
    }

-- ---- `reduce`, which says yes where it does not refuse

abbrev said : List (List ℕ) → Check Answer
said canonical = pass (yes_with (words_text canonical))

abbrev canonised : ℕ → List (List ℕ) → Check Answer
canonised degree turns = canonical_words degree turns >>= said

abbrev ranged : ℕ → List NumberLine → Check Answer
ranged degree lines = pass_unless range_line (range_fault degree lines) (entries_on lines) >>= canonised degree

reduce_yes : (held : Option Files) (degree : ℕ) (list : List ℕ) (answer : Answer) → Passes (reduce held degree list) answer
    → answer.status ≡ Yes
reduce_yes held degree list answer p =
    let allowed = both_passed (pass_unless degree_line (degree_fault degree) degree) (λ _. lines_in held list >>= ranged degree) answer p in
    let lines = both_passed (lines_in held list) (ranged degree) answer allowed.2 in
    let turns = both_passed (pass_unless range_line (range_fault degree lines.0) (entries_on lines.0)) (canonised degree) answer lines.2 in
    let canonical = both_passed (canonical_words degree turns.0) said answer turns.2 in
    let passes = canonical.2 in
    let same : answer ≡ yes_with (words_text canonical.0) = cc in
    ap (λ (a : Answer). a.status) same

-- ---- each row

-- what is looked at behind the number of components, and behind the pair
abbrev measured : FaceList → Check Answer
measured few = numbers_of few >>= (λ numbers. genera_of few >>= (λ genera. pass (yes_with (numbers_text numbers genera))))

abbrev limited : FaceList → List (List ℕ) → Check (List (List ℕ))
limited s w = pass_unless (λ line. Exactly line) (limit_fault s (walk_at w 0) (walk_at w 1)) w

module _ (held : Option Files) (words : List (List ℕ)) (status : Status) (text : List ℕ) (answers : Answers held words status text)
    (answered : status ≢ Refused) where
  passed : (row : Row) → IsRow words row → (answer : Answer) × Passes (answer_to held row) answer × (status ≡ answer.status)
  passed row is = answer_passed held (answer_to held row) status text (row_answered held words row status text answers is) answered

  surface_met : (mesh : List ℕ) → IsRow words (Surface mesh) → IsTold held mesh
      → (faces : FaceList) × IsSurfaceInput held words faces × IsOrientableSurface faces × HasFewComponents faces
  surface_met mesh is told =
      let p = passed (Surface mesh) is in
      let faces = both_passed (surface_in held mesh) (λ m. of_few_components MOST_COMPONENTS m >>= measured) p.0 p.1 in
      let few = both_passed (of_few_components MOST_COMPONENTS faces.0) measured p.0 faces.2 in
      let spelled = surface_held held mesh faces.0 told faces.1 in (
        faces.0,
        record { mesh_name = mesh; words_are = is; mesh_file = spelled.0 },
        spelled.1,
        (few.1.0, few.1.1, few.1.2),
      )

  decide_met : (mesh walks : List ℕ) → IsRow words (Decide mesh walks) → IsTold held mesh → IsTold held walks
      → (faces : FaceList) × (pairs : List WalkPair) × IsDecideInput held words faces pairs
  decide_met mesh walks is mesh_told walks_told =
      let p = passed (Decide mesh walks) is in
      let found = on_surface (codes "decide") (λ s (t : WalkText). SpellsPairs s (walks_in_pairs t.walks)) (pairs_in held walks)
      (λ s (t : WalkText). all_decided s (walks_in_pairs t.walks)) held words mesh walks p.0 is mesh_told
      (λ s t. pairs_held held walks s t walks_told) p.1 in
      (found.mesh, walks_in_pairs found.walks.walks, found.is_so.0)

  certify_met : (mesh walks : List ℕ) → IsRow words (Certify mesh walks) → IsTold held mesh → IsTold held walks
      → OfSomeWalks (λ faces first second. IsCertifyInput held words faces first second × IsWithinLimits faces first second)
  certify_met mesh walks is mesh_told walks_told =
      let p = passed (Certify mesh walks) is in
      let found = on_surface (codes "certify") (λ s w. SpellsPair s (walk_at w 0) (walk_at w 1)) (pair_in held walks)
      (λ s w. limited s w >>= (λ _. certified s (walk_at w 0) (walk_at w 1))) held words mesh walks p.0 is mesh_told
      (λ s w. pair_held held walks s w walks_told) p.1 in
      let few = both_passed (limited found.mesh found.walks)
      (λ _. certified found.mesh (walk_at found.walks 0) (walk_at found.walks 1)) p.0 found.is_so.1 in
      let within = unless_passed (λ line. Exactly line) (limit_fault found.mesh (walk_at found.walks 0) (walk_at found.walks 1)) found.walks
      few.0 few.1 in
      record {
        mesh = found.mesh;
        first = walk_at found.walks 0;
        second = walk_at found.walks 1;
        is_so = (
          found.is_so.0,
          fitting certify_limits limit_word found.mesh (walk_at found.walks 0) (walk_at found.walks 1) within.0,
        );
      }

  loops_met : (mesh walks : List ℕ) → IsRow words (Loops mesh walks) → IsTold held mesh → IsTold held walks
      → OfSomeWalks (IsLoopsInput held words)
  loops_met mesh walks is mesh_told walks_told =
      let p = passed (Loops mesh walks) is in
      let found = on_surface (codes "loops") (λ s w. SpellsLoops s (walk_at w 0) (walk_at w 1)) (loops_in held walks)
      (λ s w. freely_decided s (walk_at w 0) (walk_at w 1)) held words mesh walks p.0 is mesh_told
      (λ s w. loops_held held walks s w walks_told) p.1 in
      record { mesh = found.mesh; first = walk_at found.walks 0; second = walk_at found.walks 1; is_so = found.is_so.0 }

  homology_met : (mesh walks : List ℕ) → IsRow words (Homology mesh walks) → IsTold held mesh → IsTold held walks
      → OfSomeWalks (IsHomologyInput held words)
  homology_met mesh walks is mesh_told walks_told =
      let p = passed (Homology mesh walks) is in
      let found = on_surface (codes "homology") (λ s w. SpellsPair s (walk_at w 0) (walk_at w 1)) (pair_in held walks)
      (λ s w. homology_shown s (walk_at w 0) (walk_at w 1)) held words mesh walks p.0 is mesh_told
      (λ s w. pair_held held walks s w walks_told) p.1 in
      record { mesh = found.mesh; first = walk_at found.walks 0; second = walk_at found.walks 1; is_so = found.is_so.0 }

pub premises_met : (held : Option Files) (words : List (List ℕ)) (status : Status) (text : List ℕ) → Answers held words status text
    → HasPremises held words status
premises_met held words status text answers =
    record {
      surface = λ mesh is told answered. surface_met held words status text answers answered mesh is told;
      decide = λ mesh walks is one two answered. decide_met held words status text answers answered mesh walks is one two;
      certify = λ mesh walks is one two answered. certify_met held words status text answers answered mesh walks is one two;
      loops = λ mesh walks is one two answered. loops_met held words status text answers answered mesh walks is one two;
      decide_open = λ mesh walks is one two answered.
          let p = passed held words status text answers answered (DecideOpen mesh walks) is in
          on_open (codes "decide-open") held words mesh walks (λ asked. decided asked.mesh asked.first asked.second) p.0 is one two p.1;
      certify_open = λ mesh walks is one two answered.
          let p = passed held words status text answers answered (CertifyOpen mesh walks) is in
          on_open (codes "certify-open") held words mesh walks (λ asked. decided_with_list asked.mesh asked.first asked.second) p.0 is one
          two p.1;
      homology = λ mesh walks is one two answered. homology_met held words status text answers answered mesh walks is one two;
      verify = λ mesh walks certificate is one two three answered.
          let p = passed held words status text answers answered (Verify mesh walks certificate) is in
          on_files (codes "verify") SpellsCertificate (certificate_in held certificate)
          (λ faces pair shown. judgement faces (walk_at pair 0) (walk_at pair 1) shown) held words mesh walks certificate p.0 is one two
          (λ shown. certificate_held held certificate shown three) p.1;
      verify_homology = λ mesh walks certificate is one two three answered.
          let p = passed held words status text answers answered (VerifyHomology mesh walks certificate) is in
          on_files (codes "verify-homology") (λ shown bytes. cert_of_text bytes ≡ Ok shown)
          (homology.homology_certificate_in held certificate)
          (λ faces pair shown. homology.homology_judgement faces (walk_at pair 0) (walk_at pair 1) shown) held words mesh walks certificate
          p.0
          is one two (λ shown. homology_held held certificate shown three) p.1;
      reduce = λ degree list is told answered.
          let p = passed held words status text answers answered (Reduce degree list) is in
          ((reduced held words status text
          (λ other name row. row_answered held words (Reduce other name) status text answers row)).yes degree list is told).0
          (p.2 ∙ reduce_yes held degree list p.0 p.1);
    }
