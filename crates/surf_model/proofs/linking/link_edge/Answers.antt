use Rattle.surf_model.proofs.Common.{◌≡◌, ◌<◌, inl, inr, ℕ, true, List, length, get_or, set, ap, sym, ◌∙◌, subst, arith, cases_lt, length-set, DartEdge, dart_edge_in, next_corner, IsLinked, SideEntry, DartName}
use Rattle.surf_model.proofs.LinkingLemmas.{link_to, linked_written, linked_still}
use Rattle.surf_model.proofs.linking.link_edge.Goals as goal

pub loop-k-preserved : goal.loop-k-preserved
loop-k-preserved c =
    let edges : List DartEdge = c.args.edges.now in
    let links : List SideEntry = c.loop-k.links.items in
    let darts : List ℕ = (dart_edge_in edges c.args.edge).darts in
    let k : ℕ = c.loop-k.k in
    let m : ℕ = c.dart-dart.result.0 in
    let next : DartName = c.dart-next.result in
    let link : SideEntry = link_to c.args.edge next in
    let is : m ≡ get_or darts k 0 = c.dart-dart.ensures in
    let few : k < length darts = omega (arith, c.loop-k-test.true, c.sides-sides.ensures) in
    let follows : get_or darts (next_corner true (length darts) k) 0 ≡ next.0 = grind arith in
    let below : get_or darts k 0 < length links = omega (arith, c.requires.sides k 0 few, c.loop-k.invariant.each) in
    let written : IsLinked edges (set links m link) m =
    subst (λ n. IsLinked edges (set links n link) n) (sym is)
    (linked_written edges links c.args.edge k next c.requires.edge few follows below) in
    record {
      within = omega (arith, few);
      each = length-set links m link ∙ c.loop-k.invariant.each;
      kept = λ n h. linked_still edges links n m link written (c.loop-k.invariant.kept n h);
      linked = λ t l. elim (cases_lt t k) [
        | inl less ↦ linked_still edges links (get_or darts t 0) m link written (c.loop-k.invariant.linked t less)
        | inr le ↦
            (let last : k ≡ t = omega (arith, le, l) in
            subst (IsLinked edges (set links m link)) (is ∙ ap (λ i. get_or darts i 0) last) written)
      ];
    }
