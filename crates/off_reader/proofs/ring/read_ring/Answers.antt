use Rattle.off_reader.proofs.Common.{ReadsCorners, has_equal_neighbours, sym, ap, ◌∙◌, inr, arith, subst, err_from_is_err_and, total_sides}
use Rattle.std.proofs.Common.{Ok}
use Rattle.off_reader.proofs.RingLemmas.{no_sides, few_sides, faulty, many_sides, missing_ring, out_of_range, equal_neighbours, good_ring}
use Rattle.off_reader.proofs.ring.read_ring.Goals as goal

pub returns-in_default-clause-ring : goal.returns-in_default-clause-ring
returns-in_default-clause-ring c =
    inr (faulty c.args.vertices (total_sides c.args.faces.now.mesh) c.args.cursor.now.line c.line-line.result _
    (few_sides c.args.cursor.now.words c.in-Some.sides c.in-Some.ensures.value c.if-sides-ge3.false) c.line-line.ensures)

pub returns-in_default-2-clause-ring : goal.returns-in_default-2-clause-ring
returns-in_default-2-clause-ring c =
    inr (faulty c.args.vertices (total_sides c.args.faces.now.mesh) c.args.cursor.now.line c.line-line.result _
    (no_sides c.args.cursor.now.words c.in_default.ensures.value) c.line-line.ensures)

pub returns-then-sides-from-clause-ring : goal.returns-then-sides-from-clause-ring
returns-then-sides-from-clause-ring c =
    inr (many_sides c.args.vertices (total_sides c.args.faces.now.mesh) c.in-Some.sides c.args.cursor.now c.natural.new.self
    c.fault_of_many.result c.in-Some.ensures.value c.in-Some.ensures.place
    c.in-Some.ensures.few c.if-sides-ge3.true c.requires.sides (omega (arith, c.if-sides-from.true, c.from.ensures, c.total.ensures))
    c.fault_of_many.ensures.fault)

pub returns-in_err-read_corners-clause-ring : goal.returns-in_err-read_corners-clause-ring
returns-in_err-read_corners-clause-ring c =
    let p = err_from_is_err_and c.from_residual.result c.from_residual.ensures.1 in
    rw (p.1, p.2)
    (missing_ring c.args.vertices (total_sides c.args.faces.now.mesh) c.in-Some.sides c.args.cursor.now c.natural.new.self
    c.in_err-read_corners.field-0.0 c.read_corners.new.faces.pending
    c.in-Some.ensures.value c.in-Some.ensures.place c.requires.sides (omega (arith, c.if-sides-from.false, c.from.ensures, c.total.ensures))
    c.in_err-read_corners.ensures.corners)

pub returns-then-not-branch-clause-ring : goal.returns-then-not-branch-clause-ring
returns-then-not-branch-clause-ring c =
    inr (out_of_range c.args.vertices (total_sides c.args.faces.now.mesh) c.in-Some.sides c.args.cursor.now c.natural.new.self
    c.line-line.result c.read_corners.new.faces.pending c.in-Some.ensures.value
    c.in-Some.ensures.place c.requires.sides (omega (arith, c.if-sides-from.false, c.from.ensures, c.total.ensures)) c.line-line.ensures
    (subst (λ b. ReadsCorners c.args.vertices c.in-Some.sides c.natural.new.self (Ok b) c.read_corners.new.faces.pending)
    c.if-not-branch.true c.in_ok-read_corners.ensures.corners))

pub returns-then-has_equal_neighbours-clause-ring : goal.returns-then-has_equal_neighbours-clause-ring
returns-then-has_equal_neighbours-clause-ring c =
    inr (equal_neighbours c.args.vertices (total_sides c.args.faces.now.mesh) c.in-Some.sides c.args.cursor.now c.natural.new.self
    c.line-line.result c.read_corners.new.faces.pending
    c.in-Some.ensures.value c.in-Some.ensures.place c.requires.sides (omega (arith, c.if-sides-from.false, c.from.ensures, c.total.ensures))
    c.line-line.ensures
    (subst (λ b. ReadsCorners c.args.vertices c.in-Some.sides c.natural.new.self (Ok b) c.read_corners.new.faces.pending)
    c.if-not-branch.false c.in_ok-read_corners.ensures.corners)
    (ap has_equal_neighbours (sym c.pending.ensures) ∙ sym c.if-has_equal_neighbours.ensures))

pub returns-clause-ring : goal.returns-clause-ring
returns-clause-ring c =
    good_ring c.args.vertices (total_sides c.args.faces.now.mesh) c.in-Some.sides c.args.cursor.now c.natural.new.self
    c.read_corners.new.faces.pending c.in-Some.ensures.value c.in-Some.ensures.place
    c.requires.sides (omega (arith, c.if-sides-from.false, c.from.ensures, c.total.ensures))
    (subst (λ b. ReadsCorners c.args.vertices c.in-Some.sides c.natural.new.self (Ok b) c.read_corners.new.faces.pending)
    c.if-not-branch.false c.in_ok-read_corners.ensures.corners)
    (ap has_equal_neighbours (sym c.pending.ensures) ∙ sym c.if-has_equal_neighbours.ensures)
