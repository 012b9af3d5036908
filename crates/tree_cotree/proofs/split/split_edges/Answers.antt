use Rattle.tree_cotree.proofs.Common.{rotation_system, names_all, OrientedMesh, Rotations, rotations_of, NamesAll, ◌≡◌, ◌/◌, ℕ, Bool, List, length, sym, ap, ◌∙◌, subst, rules, arith, length-replicate, with_items_is, Option, replicate, count_below, AreDartsApart, has_kind, IsSearched, IsRooted, Kind, Left}
use Rattle.tree_cotree.proofs.KindLemmas.{all_left}
use Rattle.tree_cotree.proofs.TreeLemmas.{kept_apart}
use Rattle.tree_cotree.proofs.TurningLemmas.{allow}
use Rattle.tree_cotree.proofs.SplittingLemmas.{IsMade, tree_rooted, cotree_rooted, split_is}
use Rattle.tree_cotree.proofs.split.split_edges.Goals as goal

pub search_over-requires-clause-below : goal.search_over-requires-clause-below
search_over-requires-clause-below c =
    let s : OrientedMesh = c.args.surface.now in
    let names : NamesAll s = names_all s c.faces.ensures.valid in
    let count : c.count-vertices.result ≡ s.mesh.count = grind arith in λ d l. grind arith

pub mark-requires-clause-apart : goal.mark-requires-clause-apart
mark-requires-clause-apart c =
    let s : OrientedMesh = c.args.surface.now in
    let maps : Rotations = rotations_of s in
    subst (AreDartsApart maps) (sym c.deref-2.ensures.value) (kept_apart (rotation_system s c.faces.ensures.valid)
    (tree_rooted c.faces.ensures.valid
    (rw (c.deref.ensures.value, c.count-vertices.ensures.count, c.faces-2.ensures.mesh) at c.in_ok-parents.ensures)))

pub mark-requires-clause-free : goal.mark-requires-clause-free
mark-requires-clause-free c =
    let s : OrientedMesh = c.args.surface.now in
    let names : NamesAll s = names_all s c.faces.ensures.valid in
    let apart : AreDartsApart (rotations_of s) c.deref-2.result.now = mark-requires-clause-apart c in λ v x some. grind (arith, all_left)

pub search_over-requires-2-clause-below : goal.search_over-requires-2-clause-below
search_over-requires-2-clause-below c =
    let s : OrientedMesh = c.args.surface.now in
    let names : NamesAll s = names_all s c.faces.ensures.valid in
    let count : c.len-faces.result ≡ length s.mesh.faces = grind arith in λ d l. grind arith

pub mark-requires-2-clause-apart : goal.mark-requires-2-clause-apart
mark-requires-2-clause-apart c =
    let s : OrientedMesh = c.args.surface.now in
    let maps : Rotations = rotations_of s in
    let q : List (Option ℕ) = c.in_ok-face_parents.face_parents.items in
    let rooted : IsRooted maps maps.face (has_kind c.mark.new.kinds.items Left) (length s.mesh.faces) (maps.face 0) q =
    cotree_rooted c.faces.ensures.valid (search rules)
    (rw (c.deref.ensures.value, c.count-vertices.ensures.count, c.faces-2.ensures.mesh) at c.in_ok-parents.ensures)
    (rw c.deref-2.ensures.value at c.mark.ensures)
    (rw (c.deref-3.ensures.value, c.len-faces.ensures.count, c.faces.ensures.mesh) at c.in_ok-face_parents.ensures) in
    subst (AreDartsApart maps) (sym c.deref-4.ensures.value) (kept_apart (rotation_system s c.faces.ensures.valid) rooted)

pub turn_round-requires-clause-tree : goal.turn_round-requires-clause-tree
turn_round-requires-clause-tree c = grind (arith, cotree_rooted, allow)

pub turn_round-requires-clause-each_face : goal.turn_round-requires-clause-each_face
turn_round-requires-clause-each_face c = grind arith

pub faces_below-requires-clause-apart : goal.faces_below-requires-clause-apart
faces_below-requires-clause-apart c =
    let s : OrientedMesh = c.args.surface.now in
    let maps : Rotations = rotations_of s in
    let t : List (Option ℕ) = c.turn_round.new.from in
    let q : List (Option ℕ) = c.in_ok-face_parents.face_parents.items in
    let rooted : IsRooted maps maps.face (has_kind c.mark.new.kinds.items Left) (length s.mesh.faces) (maps.face 0) q =
    cotree_rooted c.faces.ensures.valid (search rules)
    (rw (c.deref.ensures.value, c.count-vertices.ensures.count, c.faces-2.ensures.mesh) at c.in_ok-parents.ensures)
    (rw c.deref-2.ensures.value at c.mark.ensures)
    (rw (c.deref-3.ensures.value, c.len-faces.ensures.count, c.faces.ensures.mesh) at c.in_ok-face_parents.ensures) in
    let left : ℕ → Bool = has_kind c.mark.new.kinds.items Left in
    let turned = c.in_ok-turn_round.ensures left (maps.face 0)
    (subst (λ ds. IsRooted maps maps.face left (length ds) (maps.face 0) ds) (sym c.deref_mut.ensures.value)
    (subst (λ n. IsRooted maps maps.face left n (maps.face 0) q) (sym rooted.long) rooted)) in
    let size : length t ≡ c.in_ok-face_parents.face_parents.len = grind arith in
    subst (AreDartsApart maps) (sym (c.deref-6.ensures.value ∙ with_items_is c.in_ok-face_parents.face_parents t size)) (kept_apart
    (rotation_system s c.faces.ensures.valid) turned)

pub returns : goal.returns
returns c =
    let s : OrientedMesh = c.args.surface.now in
    let maps : Rotations = rotations_of s in
    let k0 : List Kind = c.in_ok-kinds.kinds.items in
    let k1 : List Kind = c.mark.new.kinds.items in
    let k2 : List Kind = c.mark-2.new.kinds.items in
    let p : List (Option ℕ) = c.in_ok-parents.parents.items in
    let q : List (Option ℕ) = c.in_ok-face_parents.face_parents.items in
    let t : List (Option ℕ) = c.turn_round.new.from in
    let start : ℕ = c.leftover_dart-start.result.0 in
    let first : k0 ≡ replicate (length s.table) Left = search rules in
    let cotree : IsSearched maps maps.face (has_kind k1 Left) (length s.mesh.faces) (maps.face 0) q =
    rw (c.deref-3.ensures.value, c.len-faces.ensures.count, c.faces.ensures.mesh) at c.in_ok-face_parents.ensures in
    let is_q : c.deref_mut.result.now ≡ q = c.deref_mut.ensures.value in
    let long : length c.deref_mut.result.now ≡ length s.mesh.faces =
    ap (λ (ds : List (Option ℕ)). length ds) is_q ∙ cotree.is_order.long in
    let turned : (allowed : ℕ → Bool) (root : ℕ) → IsRooted maps maps.face allowed (length s.mesh.faces) root q
    → IsRooted maps maps.face allowed (length s.mesh.faces) (maps.face start) t =
    λ allowed root f. subst (λ n. IsRooted maps maps.face allowed n (maps.face start) t) long (c.in_ok-turn_round.ensures allowed root
    (subst (λ n. IsRooted maps maps.face allowed n root c.deref_mut.result.now) (sym long)
    (subst (IsRooted maps maps.face allowed (length s.mesh.faces) root) (sym is_q) f))) in
    let rooted : IsRooted maps maps.face (has_kind k1 Left) (length s.mesh.faces) (maps.face 0) q = grind (arith, cotree_rooted) in
    let size : length t ≡ c.in_ok-face_parents.face_parents.len =
    omega (arith, (turned (has_kind k1 Left) (maps.face 0) rooted).long, cotree.is_order.long, c.in_ok-face_parents.face_parents.ok.0) in
    let is_t : c.deref-6.result.now ≡ t = c.deref-6.ensures.value ∙ with_items_is c.in_ok-face_parents.face_parents t size in
    let made : IsMade s k0 k1 k2 p q t c.in_ok-children.children.items start = grind arith in
    let long_2 : length k2 ≡ length s.table =
    c.mark-2.ensures.long ∙ c.mark.ensures.long ∙ ap (λ (ks : List Kind). length ks) first ∙ length-replicate (length s.table) Left in
    let half : c.leftover_edges-genus.result / 2 ≡ count_below (has_kind k2 Left) (length s.table) / 2 = ap (λ n. n / 2)
    (c.leftover_edges-genus.ensures ∙ ap (λ (ks : List Kind). count_below (has_kind ks Left) (length ks)) c.deref-7.ensures.value
    ∙ ap (count_below (has_kind k2 Left)) long_2) in
    rw c.face_of.ensures.face (split_is c.faces.ensures.valid (c.leftover_edges-genus.result / 2) made half)
