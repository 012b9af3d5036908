use Rattle.open_commands.proofs.Common.{pair_long, fitting, memory_no_fault, only_then, reads_faulty, reads_made, reads_then, tells_no_fault, Exactly, Passes, pair_in, Stops, IsWithinOpenLimits, open_limit_fault, open_limit_word, open_limits, open_pair_in, ◌≡◌, ◌∙◌, ℕ, List, ap, sym, subst, arith, get_or_from_slice_get, Option, Files, FaceList, walk_at}
use Rattle.std.proofs.lemmas.Result.{err_from_is_err_and}
use Rattle.walk_files.specs.Pairs.{IsPair}
use Rattle.open_commands.proofs.OpenInputs.{walks_stop, limits_stop, pair_passes, built_passes}
use Rattle.open_commands.proofs.open_pair.read_open_pair.Goals as goal
use Rattle.open_commands.proofs.open_pair.read_open_pair.Goals.{After-at-2}

pub returns-in_err-walks-clause-reads : goal.returns-in_err-walks-clause-reads
returns-in_err-walks-clause-reads g c =
    let surface = c.in_ok-faces.faces in
    let stop = c.in_err-walks.field-0.0 in
    let p = err_from_is_err_and c.from_residual-in_err-walks.result c.from_residual-in_err-walks.ensures.1 in
    let stops = c.in_err-walks.ensures.reads.end surface c.in_ok-faces.ensures.table in
    rw (p.1, p.2)
    (reads_then c.in_ok-faces.ensures.reads.only_reads c.in_err-walks.ensures.reads
    (walks_stop (g.S.Shelf.held c.args.shelf.now) c.args.mesh.now c.args.walks.now surface stop c.in_ok-faces.ensures.reads.end
    (subst (λ (files : Option Files). Stops (pair_in files c.args.walks.now surface) stop) c.in_ok-faces.ensures.reads.only_reads.same_files
    stops)))

pub at-requires : goal.at-requires
at-requires g c =
    omega (arith, pair_long (c.in_ok-walks.ensures.pair c.in_ok-faces.faces c.in_ok-faces.ensures.table))

pub at-requires-2 : goal.at-requires-2
at-requires-2 g c =
    omega (arith, pair_long (c.in_ok-walks.ensures.pair c.in_ok-faces.faces c.in_ok-faces.ensures.table))

-- the pair passes where the files are as they were at first
passed : (g : _) (c : After-at-2 g)
    → Passes (pair_in (g.S.Shelf.held c.args.shelf.now) c.args.walks.now c.in_ok-faces.faces) c.in_ok-walks.walks.walks
passed g c =
    subst (λ (files : Option Files). Passes (pair_in files c.args.walks.now c.in_ok-faces.faces) c.in_ok-walks.walks.walks)
    c.in_ok-faces.ensures.reads.only_reads.same_files
    (c.in_ok-walks.ensures.reads.end c.in_ok-faces.faces c.in_ok-faces.ensures.table)

-- the walks that are looked at are the two of the list
same_fault : (g : _) (c : After-at-2 g)
    → open_limit_fault c.in_ok-faces.faces (walk_at c.in_ok-walks.walks.walks 0) (walk_at c.in_ok-walks.walks.walks 1)
    ≡ open_limit_fault c.in_ok-faces.faces c.at.result.now c.at-2.result.now
same_fault g c =
    let pair = c.in_ok-walks.walks.walks in
    let mesh = c.in_ok-faces.faces in
    let first : walk_at pair 0 ≡ c.at.result.now = get_or_from_slice_get pair 0 c.at.result.now _ c.at.ensures in
    let second : walk_at pair 1 ≡ c.at-2.result.now = get_or_from_slice_get pair 1 c.at-2.result.now _ c.at-2.ensures in
    ap (λ (w : List ℕ). open_limit_fault mesh w (walk_at pair 1)) first ∙ ap (open_limit_fault mesh c.at.result.now) second

pub returns-in_err-check-clause-reads : goal.returns-in_err-check-clause-reads
returns-in_err-check-clause-reads g c =
    let surface = c.in_ok-faces.faces in
    let stop = c.in_err-check.field-0.0 in
    let limit = c.in_err-check.ensures in
    let p = err_from_is_err_and c.from_residual-in_err-check.result c.from_residual-in_err-check.ensures.1 in
    rw (p.1, p.2)
    (reads_faulty (only_then c.in_ok-faces.ensures.reads.only_reads c.in_ok-walks.ensures.reads.only_reads)
    (tells_no_fault (Exactly limit.0) stop limit.2)
    (limits_stop (g.S.Shelf.held c.args.shelf.now) c.args.mesh.now c.args.walks.now surface c.in_ok-walks.walks.walks limit.0 stop
    c.in_ok-faces.ensures.reads.end (passed g (goal.at.returns-in_err-check-clause-reads g c).After-at-2)
    (same_fault g (goal.at.returns-in_err-check-clause-reads g c).After-at-2 ∙ limit.1) limit.2))

pub returns-in_err-surface-clause-reads : goal.returns-in_err-surface-clause-reads
returns-in_err-surface-clause-reads g c =
    let p = err_from_is_err_and c.from_residual-in_err-surface.result c.from_residual-in_err-surface.ensures.1 in
    rw (p.1, p.2)
    (reads_faulty (only_then c.in_ok-faces.ensures.reads.only_reads c.in_ok-walks.ensures.reads.only_reads) memory_no_fault tt)

pub returns-clause-reads : goal.returns-clause-reads
returns-clause-reads g c =
    let mesh = c.in_ok-faces.faces in
    let pair = c.in_ok-walks.walks.walks in
    reads_made (only_then c.in_ok-faces.ensures.reads.only_reads c.in_ok-walks.ensures.reads.only_reads)
    (built_passes (open_pair_in (g.S.Shelf.held c.args.shelf.now) c.args.mesh.now c.args.walks.now) mesh c.in_ok-surface.surface.mesh pair
    c.in_ok-surface.ensures.mesh
    (pair_passes (g.S.Shelf.held c.args.shelf.now) c.args.mesh.now c.args.walks.now mesh pair c.in_ok-faces.ensures.reads.end
    (passed g (goal.at.returns-clause-reads g c).After-at-2)
    (same_fault g (goal.at.returns-clause-reads g c).After-at-2 ∙ c.in_ok-check.ensures)))

pub returns-clause-pair : goal.returns-clause-pair
returns-clause-pair g c =
    let mesh = c.in_ok-faces.faces in
    let pair = c.in_ok-walks.walks.walks in
    let made = sym c.in_ok-surface.ensures.mesh in
    record {
      walks = subst (λ (m : FaceList). IsPair m pair) made (c.in_ok-walks.ensures.pair mesh c.in_ok-faces.ensures.table);
      within = subst (λ (m : FaceList). IsWithinOpenLimits m (walk_at pair 0) (walk_at pair 1)) made
          (fitting open_limits open_limit_word mesh (walk_at pair 0) (walk_at pair 1)
          (same_fault g (goal.at.returns-clause-pair g c).After-at-2 ∙ c.in_ok-check.ensures));
    }
