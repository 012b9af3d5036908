use Rattle.connectivity.proofs.Common.{HasSameRoots, root_of, joined_at, ◌≡◌, ℕ, List, min, max, ap, sym, ◌∙◌, arith}
use Rattle.connectivity.proofs.Forests.{root_le, linked_forest, roots_of-linked, same_roots_of, same_roots_trans}
use Rattle.connectivity.proofs.classes.link.Goals as goal

pub bounds-parents-max : goal.bounds-parents-max
bounds-parents-max c =
    let x_le = root_le c.args.x c.requires.forest in
    let y_le = root_le c.args.y c.root-first.ensures.forest in
    omega (arith, c.root-first.ensures.roots.count, c.root-second.ensures.roots.count)

pub returns-clause-forest : goal.returns-clause-forest
returns-clause-forest c = linked_forest c.min.result c.max.result c.root-second.ensures.forest (omega arith) (bounds-parents-max c)

pub returns-clause-roots : goal.returns-clause-roots
returns-clause-roots c =
    let first : List ℕ = c.args.parents.now in
    let twice : List ℕ = c.root-second.new.parents in
    let same : HasSameRoots first twice = same_roots_trans c.root-first.ensures.roots c.root-second.ensures.roots in
    let is_x : c.root-first.result ≡ root_of twice c.args.x = c.root-first.ensures.root ∙ sym (same.roots c.args.x c.requires.first) in
    let is_y : c.root-second.result ≡ root_of twice c.args.y =
    c.root-second.ensures.root ∙ sym (c.root-second.ensures.roots.roots c.args.y (omega (arith, c.root-first.ensures.roots.count))) in
    roots_of-linked c.args.x c.args.y c.min.result c.max.result c.root-second.ensures.forest
    (omega (arith, same.count)) (omega (arith, same.count))
    (c.min.ensures ∙ ap (λ z. min z c.root-second.result) is_x ∙ ap (min (root_of twice c.args.x)) is_y)
    (c.max.ensures ∙ ap (λ z. max z c.root-second.result) is_x ∙ ap (max (root_of twice c.args.x)) is_y)
    ∙ ap (λ roots. joined_at roots c.args.x c.args.y) (same_roots_of same)
