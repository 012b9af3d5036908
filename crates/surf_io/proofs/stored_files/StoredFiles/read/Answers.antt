use Rattle.surf_io.proofs.Common.{◌≡◌, ap, sym, ◌∙◌, map, ◌-◌, length, min, Some, string_bytes, slice_cmp, nat_list_cmp_total, get, find, get-from_entries, nat_cmp, deque_iter_rest, GivesFrom, file_entry}
use Rattle.surf_io.proofs.Stored.{find-here, find-past, IsSomeAnd-found}
use Rattle.surf_io.proofs.stored_files.StoredFiles.read.Goals as goal
use Rattle.surf_io.proofs.stored_files.StoredFiles.read.Goals.{After-deref}

pub loop-file-init : goal.loop-file-init
loop-file-init c =
    ap (λ m. get m c.args.name.now) (sym c.self.view_is)
    ∙ get-from_entries nat_list_cmp_total _ _
    ∙ ap (λ files. find (slice_cmp nat_cmp) c.args.name.now (map file_entry files))
    (sym c.into_iter-file-iterator.ensures.into_iter_gives.0)

-- the file of the name was found
found : (c : After-deref) → get c.args.self.now c.args.name.now ≡ Some c.deref.result.now
found c =
    c.loop-file.invariant
    ∙ ap (λ files. find (slice_cmp nat_cmp) c.args.name.now (map file_entry files)) c.in-Some.ensures.steps
    ∙ find-here c.args.name.now (string_bytes c.in-Some.file.now.name) c.in-Some.file.now.bytes.items
    (map file_entry (deque_iter_rest c.next.new.self)) (rw c.as_str.ensures.value at c.if-eq.ensures)
    ∙ ap Some (sym c.deref.ensures.value)

pub returns-then-eq-clause-absent : goal.returns-then-eq-clause-absent
returns-then-eq-clause-absent c =
    IsSomeAnd-found _ c.deref.result.now (λ bytes. GivesFrom bytes c.args.at c.copy_from.result c.copy_from.new.into)
    (found (goal.at.returns-then-eq-clause-absent c).After-deref) c.copy_from.ensures.given

pub returns-then-eq-clause-full : goal.returns-then-eq-clause-full
returns-then-eq-clause-full c =
    IsSomeAnd-found _ c.deref.result.now (λ bytes. c.copy_from.result ≡ min (length c.copy_from.new.into) (length bytes - c.args.at))
    (found (goal.at.returns-then-eq-clause-full c).After-deref) c.copy_from.ensures.full

pub loop-file-preserved : goal.loop-file-preserved
loop-file-preserved c =
    c.loop-file.invariant
    ∙ ap (λ files. find (slice_cmp nat_cmp) c.args.name.now (map file_entry files)) c.in-Some.ensures.steps
    ∙ find-past c.args.name.now (string_bytes c.in-Some.file.now.name) c.in-Some.file.now.bytes.items
    (map file_entry (deque_iter_rest c.next.new.self)) (rw c.as_str.ensures.value at c.if-eq.ensures)
