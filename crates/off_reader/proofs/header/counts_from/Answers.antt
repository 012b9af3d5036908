use Rattle.off_reader.proofs.Common.{inl, inr}
use Rattle.off_reader.proofs.HeaderLemmas.{no_cap, bad_first, bad_second, good_counts, many_counts}
use Rattle.off_reader.proofs.header.counts_from.Goals as goal

pub returns-in_default-clause-header : goal.returns-in_default-clause-header
returns-in_default-clause-header c =
    rw c.line-line.ensures (bad_first c.args.coordinates c.args.cursor.now.line c.args.first.now c.args.cursor.now.words
    c.args.cursor.now.lines (no_cap _ c.in_default.ensures))

pub returns-in_default-natural-clause-header : goal.returns-in_default-natural-clause-header
returns-in_default-natural-clause-header c =
    rw c.line-line.ensures
    (bad_second c.args.coordinates c.args.cursor.now.line c.args.first.now c.args.cursor.now.words c.args.cursor.now.lines
    (no_cap _ c.in_default-natural.ensures.value))

pub returns-then-vertices-clause-header : goal.returns-then-vertices-clause-header
returns-then-vertices-clause-header c =
    rw c.line-line.ensures
    (many_counts c.args.coordinates c.args.cursor.now.line c.args.first.now c.args.cursor.now.words c.args.cursor.now.lines
    c.in-Some.vertices c.in-Some-natural.faces c.in-Some.ensures
    c.in-Some-natural.ensures.value
    (elim c.then-vertices.branch [
      | goal.then-vertices-via-then-vertices h ↦ inl h.if-vertices.true
      | goal.then-vertices-via-else-vertices+then-faces h ↦ inr h.if-faces.true
    ]))

pub returns-clause-header : goal.returns-clause-header
returns-clause-header c =
    rw c.in-Some-natural.ensures.place
    (good_counts c.args.coordinates c.args.cursor.now.line c.args.first.now c.args.cursor.now.words c.args.cursor.now.lines
    c.in-Some.vertices c.in-Some-natural.faces c.in-Some.ensures
    c.in-Some-natural.ensures.value c.if-vertices.false c.if-faces.false)
