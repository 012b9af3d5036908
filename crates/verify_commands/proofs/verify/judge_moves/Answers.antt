use Rattle.verify_commands.proofs.Common.{only_then, reads_made, reads_stopped, certificate_of, Certificate, Moves, MOST_BYTES, ◌≡◌, ◌+◌, ◌<◌, ◌≤◌, ◌++◌, ℕ, List, [], ◌∷◌, length, refl, sym, ap, subst, ◌∙◌, append_assoc, append-nil, arith, err_from_is_err_and, Option, None, Result, Ok, Err, IfNone, Files, file_of, PeakedMoves, Move, outlook, peak_in, count_in, next_answer, Streamed, reader_at, IsIn, Belongs, IsStreamAnswer, IsWithin, after_move, StreamEnd}
use Rattle.verify_commands.proofs.Streaming.{AreFirst, at_told, certificate_passed, certificate_stopped, first_all, first_more, first_none, first_wrong, head_moves, told}
use Rattle.verify_commands.proofs.verify.judge_moves.Goals as goal

pub moves-init : goal.moves-init
moves-init g c =
    let file : Option (List ℕ) = file_of (g.S.Shelf.held c.args.shelf.now) c.args.name.now in
    record {
      so_far = (
        [],
        λ rest. refl,
        told (AreFirst c.args.stream c.args.stream []) file
            (λ f is. first_none c.args.stream f (at_told (IsIn c.args.stream) file f is c.requires.file)),
      );
      head = refl;
      refusal = c.requires.fresh.1;
      count = sym c.requires.fresh.0;
      limit = refl;
      held = refl;
      faults = omega arith;
    }

pub moves-preserved : goal.moves-preserved
moves-preserved g c =
    let i = c.moves.invariant in
    let old : Streamed = c.moves.stream in
    let new : Streamed = c.next_move.new.self in
    let mv : Move = c.in-Some.mv in
    let moves : List Move = i.so_far.0 in
    let faces = c.args.pair.now.faces.now in
    let second : List ℕ = c.args.pair.now.second.now in
    let file : Option (List ℕ) = file_of (g.S.Shelf.held c.args.shelf.now) c.args.name.now in
    let now : Option (List ℕ) = file_of (g.S.Shelf.held c.moves.shelf) c.args.name.now in
    let same : now ≡ file = ap (λ (h : Option Files). file_of h c.args.name.now) i.held in
    let after : new ≡ record old { given = old.given + 1; lines = new.lines } =
    subst (λ (a : Option Move). let r : Result (Option Move) StreamEnd = Ok a in new ≡ record (after_move old r) { lines = new.lines })
    c.in-Some.is (c.in_ok-mv.ensures.after i.refusal) in
    let unrefused : new.refusal ≡ None = ap (λ (s : Streamed). s.refusal) after ∙ i.refusal in
    let Told : List ℕ → Type 0 = λ f. IsIn old f → (next_answer (reader_at old f) ≡ Ok c.in_ok-mv.field-0) × Belongs new f in
    record {
      so_far = (
        moves ++ mv ∷ [],
        λ rest. ap (outlook faces second 0 c.args.progress) (append_assoc moves (mv ∷ []) rest) ∙ i.so_far.1 (mv ∷ rest)
            ∙ c.step.ensures second rest,
        told (AreFirst c.args.stream new (moves ++ mv ∷ [])) file (λ f is.
            let first = at_told (AreFirst c.args.stream old moves) file f is i.so_far.2 in
            let answer = at_told Told now f (same ∙ is) (c.in_ok-mv.ensures.answer i.refusal) first.0 in
            first_more c.args.stream old new moves mv f (answer.1 unrefused)
            (answer.0 ∙ ap (λ (a : Option Move). Ok a) c.in-Some.is) after first.1),
      );
      head = ap (λ (s : Streamed). s.head) after ∙ i.head;
      refusal = unrefused;
      count = omega (arith, i.count, ap (λ (s : Streamed). s.given) after);
      limit = c.in_ok-mv.ensures.limit ∙ i.limit;
      held = c.in_ok-mv.ensures.only_reads.same_files ∙ i.held;
      faults = omega (arith, i.faults, c.in_ok-mv.ensures.only_reads.never_falls);
    }

pub returns-in_err-mv : goal.returns-in_err-mv
returns-in_err-mv g c =
    let i = c.moves.invariant in
    let start : Streamed = c.args.stream in
    let old : Streamed = c.moves.stream in
    let moves : List Move = i.so_far.0 in
    let end : StreamEnd = c.in_err-mv.field-0.0 in
    let file : Option (List ℕ) = file_of (g.S.Shelf.held c.args.shelf.now) c.args.name.now in
    let now : Option (List ℕ) = file_of (g.S.Shelf.held c.moves.shelf) c.args.name.now in
    let same : now ≡ file = ap (λ (h : Option Files). file_of h c.args.name.now) i.held in
    let limit : old.lines.reading.limit ≡ MOST_BYTES = i.limit ∙ c.requires.fresh.2 in
    let Told : List ℕ → Type 0 =
    λ f. IsIn old f → IsStreamAnswer {A = Option Move} (Err end) (next_answer (reader_at old f)) × Belongs c.next_move.new.self f in
    let Within : List ℕ → Type 0 = λ f. IsIn old f → IsWithin end (length f) old.lines.reading.limit in
    let Large : List ℕ → Type 0 = λ f. IsIn old f → old.lines.reading.limit < length f in
    let p = err_from_is_err_and c.from_residual.result c.from_residual.ensures.1 in
    let as_err : (e : StreamEnd) → Result (Option Move) StreamEnd = λ e. Err e in
    rw p.1
    (reads_stopped end p.0
    (record { same_files = i.held; never_falls = i.faults }) c.in_err-mv.ensures.only_reads
    (λ e. c.in_err-mv.ensures.fault i.refusal (ap as_err e)) p.2
    (certificate_stopped (g.S.Shelf.held c.args.shelf.now) c.args.name.now end p.0 p.2
    (told (λ f. IsStreamAnswer {A = Certificate} (Err end) (certificate_of f)) file (λ f is.
    let first = at_told (AreFirst start old moves) file f is i.so_far.2 in
    first_wrong start old moves f (count_in start.head) (peak_in start.head) end (head_moves start c.requires.list) c.requires.fresh.0
    (at_told (IsIn start) file f is c.requires.file).head
    (at_told Told now f (same ∙ is) (c.in_err-mv.ensures.answer i.refusal) first.0).0 first.1))
    (told (λ f. IsWithin end (length f) MOST_BYTES) file (λ f is.
    subst (λ n. IsWithin end (length f) n) limit
    (at_told Within now f (same ∙ is) (c.in_err-mv.ensures.within i.refusal) (at_told (AreFirst start old moves) file f is i.so_far.2).0)))
    (λ e. told (λ f. MOST_BYTES < length f) file (λ f is.
    subst (λ n. n < length f) limit
    (at_told Large now f (same ∙ is) (c.in_err-mv.ensures.too_large i.refusal (ap as_err e))
    (at_told (AreFirst start old moves) file f is i.so_far.2).0)))))

pub returns : goal.returns
returns g c =
    let i = c.moves.invariant in
    let start : Streamed = c.args.stream in
    let old : Streamed = c.moves.stream in
    let moves : List Move = i.so_far.0 in
    let faces = c.args.pair.now.faces.now in
    let second : List ℕ = c.args.pair.now.second.now in
    let list : PeakedMoves = record { moves = moves; peak = peak_in start.head } in
    let file : Option (List ℕ) = file_of (g.S.Shelf.held c.args.shelf.now) c.args.name.now in
    let now : Option (List ℕ) = file_of (g.S.Shelf.held c.moves.shelf) c.args.name.now in
    let same : now ≡ file = ap (λ (h : Option Files). file_of h c.args.name.now) i.held in
    let limit : old.lines.reading.limit ≡ MOST_BYTES = i.limit ∙ c.requires.fresh.2 in
    let none : c.in_ok-mv.field-0 ≡ None = c.in_default.is in
    let Told : List ℕ → Type 0 =
    λ f. IsIn old f → (next_answer (reader_at old f) ≡ Ok c.in_ok-mv.field-0) × Belongs c.next_move.new.self f in
    let Within : List ℕ → Type 0 = λ f. IsIn old f → IfNone c.in_ok-mv.field-0 (length f ≤ old.lines.reading.limit) in
    reads_made
    (only_then
    (record { same_files = i.held; never_falls = i.faults }) c.in_ok-mv.ensures.only_reads)
    (record {
      list = list;
      passes = certificate_passed (g.S.Shelf.held c.args.shelf.now) c.args.name.now (Moves list)
          (told (λ f. (certificate_of f ≡ Ok (Moves list)) × (length f ≤ MOST_BYTES)) file (λ f is.
          let first = at_told (AreFirst start old moves) file f is i.so_far.2 in
          let within : IfNone c.in_ok-mv.field-0 (length f ≤ old.lines.reading.limit) =
          at_told Within now f (same ∙ is) (c.in_ok-mv.ensures.within i.refusal) first.0 in (
            first_all start old moves f (count_in start.head) (peak_in start.head) (head_moves start c.requires.list) c.requires.fresh.0
                (at_told (IsIn start) file f is c.requires.file).head
                ((at_told Told now f (same ∙ is) (c.in_ok-mv.ensures.answer i.refusal) first.0).0 ∙ ap (λ (a : Option Move). Ok a) none)
                first.1,
            subst (λ n. length f ≤ n) limit (subst (λ (a : Option Move). IfNone a (length f ≤ old.lines.reading.limit)) none within),
          )));
      is =
          c.verdict.ensures faces c.moves.done ∙ sym (i.so_far.1 []) ∙ ap (outlook faces second 0 c.args.progress) (append-nil moves)
          ∙ c.requires.start moves;
    })
