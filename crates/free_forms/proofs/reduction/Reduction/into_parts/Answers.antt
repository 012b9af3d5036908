use Rattle.free_forms.proofs.Common.{◌≡◌, ℕ, ◌+◌, ◌<◌, List, [], ◌∷◌, ◌++◌, length, take, get_or, ap, sym, ◌∙◌, arith, take_more, get_or-map, numbers, VertexName}
use Rattle.free_forms.proofs.ExpandLemmas.{length_numbers}
use Rattle.free_forms.proofs.reduction.Reduction.into_parts.Goals as goal

pub loop-place-preserved : goal.loop-place-preserved
loop-place-preserved c =
    let items : List VertexName = c.push.new.self.items in
    let k : ℕ = c.loop-place.place in
    let v : VertexName = c.index-in-loop-place.result.now in
    let long : length (numbers items) ≡ length items = length_numbers items in
    let few : k < length items = omega (arith, c.loop-place-test.true, c.len-place-end.ensures, c.push.new.self.ok.0) in
    let here : get_or (numbers items) k 0 ≡ v.0 =
    get_or-map (λ (x : VertexName). x.0) items k v 0 few ∙ ap (λ (x : VertexName). x.0) (sym c.index-in-loop-place.ensures) in
    let more : take (k + 1) (numbers items) ≡ take k (numbers items) ++ v.0 ∷ [] =
    take_more (numbers items) k 0 (omega (arith, few, long)) ∙ ap (λ (x : ℕ). take k (numbers items) ++ x ∷ []) here in grind arith
