use Rattle.homology_commands.proofs.Common.{number_at, FaceNumber, ListsFaces, name_in, ◌≡◌, ℕ, ◌<◌, ◌≤◌, List, sym, ◌∙◌, subst, arith, ℤ, All}
use Rattle.homology_commands.proofs.CertificateLemmas.{names_rise}
use Rattle.homology_commands.proofs.ListedLemmas.{face_more, faces_before, no_faces, number_sent}
use Rattle.homology_commands.proofs.listing.list_faces.Goals as goal

pub loop-face-init : goal.loop-face-init
loop-face-init c =
    subst (ListsFaces (name_in c.args.component.now) (number_at c.args.numbers.now) 0) (sym c.new-lines.ensures)
    (no_faces (name_in c.args.component.now) (number_at c.args.numbers.now))

pub name_of-name-requires-clause-face : goal.name_of-name-requires-clause-face
name_of-name-requires-clause-face c = omega (arith, c.loop-face-test.true, c.len-face-end.ensures, c.requires.each_face)

pub list_face-requires-clause-above : goal.list_face-requires-clause-above
list_face-requires-clause-above c =
    let component = c.args.component.now in
    let numbers : List ℤ = c.args.numbers.now in
    let face : ℕ = c.loop-face.face in
    let rises : (j : ℕ) → j < face → name_in component j < name_in component face =
    λ j less.
    names_rise c.requires.component.0 c.requires.component.1 component j face c.requires.component.2 less
    (omega (arith, c.loop-face-test.true, c.len-face-end.ensures, c.requires.each_face)) in
    subst (λ n. All (λ (other : FaceNumber). other.face.0 < n) c.loop-face.lines) (sym c.name_of-name.ensures)
    (faces_before (name_in component) (number_at numbers) face c.loop-face.lines c.loop-face.invariant rises)

pub list_face-requires-clause-small : goal.list_face-requires-clause-small
list_face-requires-clause-small c =
    (number_sent c.args.numbers.now c.loop-face.face c.at-number.result c.requires.small c.at-number.ensures).small

pub list_face-requires-clause-few : goal.list_face-requires-clause-few
list_face-requires-clause-few c =
    omega (arith, c.loop-face.invariant.few, c.loop-face-test.true, c.len-face-end.ensures)

pub loop-face-preserved : goal.loop-face-preserved
loop-face-preserved c =
    let component = c.args.component.now in
    let numbers : List ℤ = c.args.numbers.now in
    let face : ℕ = c.loop-face.face in
    let rises : (j : ℕ) → j < face → name_in component j < name_in component face =
    λ j less.
    names_rise c.requires.component.0 c.requires.component.1 component j face c.requires.component.2 less
    (omega (arith, c.loop-face-test.true, c.len-face-end.ensures, c.requires.each_face)) in
    let number = number_sent numbers face c.at-number.result c.requires.small c.at-number.ensures in
    face_more (name_in component) (number_at numbers) face c.loop-face.lines c.loop-face.invariant rises _ c.list_face.new.lines
    c.name_of-name.ensures number.is c.list_face.ensures.fits c.in_ok-list_face.ensures.zero
    c.in_ok-list_face.ensures.listed
