use Rattle.walk_files.proofs.Common.{◌≡◌, [], ◌∷◌, inr, sym, ap, ◌∙◌, arith, err_from_is_err_and, None, Some, Ok, rest_of, put_before, walk_on}
use Rattle.std.proofs.Common.{Err}
use Rattle.walk_files.proofs.TokenLemmas.{IsLeft, rest_of-number, rest_of-open, room_left, put_before-twice, group_read}
use Rattle.walk_files.proofs.groups.write_walk.Goals as goal
use Rattle.walk_files.proofs.groups.write_walk.Goals.{In-Open}

pub loop-walk-preserved-in-Continue-branch-5 : goal.loop-walk-preserved-in-Continue-branch-5
loop-walk-preserved-in-Continue-branch-5 c =
    let so_far = c.loop-walk.invariant in
    let line = c.args.line.now.number in
    let next = c.in-Number.next in
    let read = rw (c.in-Some.is, c.in-Number.is) at c.in_ok-token.ensures.token in
    let left = rest_of line next None c.next.new.self.words in (
      next,
      record {
        rest = so_far.1.rest
            ∙ ap (put_before c.loop-walk.walk) (rest_of-number line so_far.0 next c.loop-walk.tokens.words c.next.new.self.words read.0)
            ∙ put_before-twice c.loop-walk.walk (next ∷ []) left
            ∙ ap (λ walk. put_before walk left) (sym c.in_ok-push-in-Number.ensures.ok);
        line = c.in_ok-token.ensures.line ∙ so_far.1.line;
      },
    )

-- behind the vertex that was read last a group is opened, and what is left of the line stands for these vertices
opened : (c : In-Open) → rest_of c.args.line.now.number c.loop-walk.invariant.0 None c.loop-walk.tokens.words
    ≡ rest_of c.args.line.now.number c.loop-walk.invariant.0 (Some []) c.next.new.self.words
opened c =
    let read = rw (c.in-Some.is, c.in-Open.is) at c.in_ok-token.ensures.token in
    rest_of-open c.args.line.now.number c.loop-walk.invariant.0 c.loop-walk.tokens.words c.next.new.self.words read.0

here : (c : In-Open) → c.next.new.self.line ≡ c.args.line.now.number
here c = c.in_ok-token.ensures.line ∙ c.loop-walk.invariant.1.line

left : (c : In-Open)
    → IsLeft c.loop-walk.walk (rest_of c.args.line.now.number c.loop-walk.invariant.0 None c.loop-walk.tokens.words) c.requires.0
left c =
    room_left c.loop-walk.walk c.requires.0 (walk_on c.args.line.now)
    (rest_of c.args.line.now.number c.loop-walk.invariant.0 None c.loop-walk.tokens.words) c.requires.1 c.loop-walk.invariant.1.rest

known : (c : In-Open) → rest_of c.next.new.self.line c.loop-walk.invariant.0 (Some []) c.next.new.self.words ≡ Ok (left c).left
known c =
    ap (λ n. rest_of n c.loop-walk.invariant.0 (Some []) c.next.new.self.words) (here c) ∙ sym (opened c) ∙ (left c).rest_is

pub write_group-requires : goal.write_group-requires
write_group-requires c =
    let at = (goal.at.write_group-requires c).In-Open in
    record {
      vertex = c.loop-walk.invariant.0;
      rest = (left at).left;
      rest_is = known at;
      short = omega (arith, (left at).parts, c.requires.2);
    }

pub loop-walk-preserved : goal.loop-walk-preserved
loop-walk-preserved c =
    let at = (goal.at.loop-walk-preserved c).In-Open in
    let so_far = c.loop-walk.invariant in
    let line = c.args.line.now.number in
    let group = c.in_ok-write_group-in-Open.ensures.written so_far.0 (left at).left (known at) in
    let behind = rest_of line so_far.0 None c.write_group.new.tokens.words in (
      so_far.0,
      record {
        rest = so_far.1.rest
            ∙ ap (put_before c.loop-walk.walk)
            (opened at ∙ group_read line c.next.new.self.line so_far.0 c.next.new.self.words c.write_group.new.tokens.words group.written
            (here at) group.rest)
            ∙ put_before-twice c.loop-walk.walk group.written behind
            ∙ ap (λ walk. put_before walk behind) (sym group.walk_is);
        line = c.in_ok-write_group-in-Open.ensures.line ∙ here at;
      },
    )

pub returns-in_err-write_group-in-Open : goal.returns-in_err-write_group-in-Open
returns-in_err-write_group-in-Open c =
    let at = (goal.at.returns-in_err-write_group-in-Open c).In-Open in
    let p = err_from_is_err_and c.from_residual-in_err-write_group-in-Open.result c.from_residual-in_err-write_group-in-Open.ensures.1 in
    inr (p.1 ∙ ap Err (p.2 ∙ c.in_err-write_group-in-Open.ensures.written c.loop-walk.invariant.0 (left at).left (known at)))
