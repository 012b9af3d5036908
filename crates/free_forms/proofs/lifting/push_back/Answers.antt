use Rattle.free_forms.proofs.Common.{◌≡◌, ℕ, ◌+◌, ◌-◌, ◌<◌, max, List, [], ◌∷◌, ◌++◌, length, drop, ap, sym, ◌∙◌, arith, append_assoc, FaceList, PeakedMoves, inverse_of, sides_of_move, way_back, Move}
use Rattle.free_forms.proofs.BackLemmas.{back_more}
use Rattle.free_forms.proofs.lifting.push_back.Goals as goal

pub loop-back-preserved : goal.loop-back-preserved
loop-back-preserved c =
    let mesh : FaceList = c.args.faces.now in
    let moves : List Move = c.args.others.now.moves in
    let first : List Move = c.args.moves.now.moves in
    let n : ℕ = length moves in
    let back : ℕ = c.loop-back.back in
    let k : ℕ = c.len.result - 1 - back in
    let mv : Move = c.at-mv.result in
    let count : c.len.result ≡ n = c.len.ensures in
    let few : back < n = omega (arith, c.loop-back-test.true, c.len-back-end.ensures) in
    let undo : Move = inverse_of (sides_of_move mesh mv) mv in
    let inverse : c.inverse.result ≡ undo = c.inverse.ensures ∙ ap (λ (s : ℕ). inverse_of s mv) c.sides_of.ensures in
    let here : k ≡ n - (back + 1) = omega (arith, count) in
    let behind : k + 1 ≡ n - back = omega (arith, count, few) in
    let more : way_back mesh (drop (n - (back + 1)) moves) ≡ way_back mesh (drop (n - back) moves) ++ undo ∷ [] =
    ap (λ (j : ℕ). way_back mesh (drop j moves)) (sym here) ∙ back_more mesh moves k mv (omega (arith, count, few)) c.at-mv.ensures
    ∙ ap (λ (j : ℕ). way_back mesh (drop j moves) ++ undo ∷ []) behind in
    let peak : c.push.new.self.peak ≡ max c.loop-back.moves.peak c.args.others.now.peak =
    ap (λ (l : PeakedMoves). l.peak) c.in_ok-push.ensures.ok ∙ ap (max c.loop-back.moves.peak) c.peak.ensures in
    let greatest : c.push.new.self.peak ≡ max c.args.moves.now.peak c.args.others.now.peak = grind arith in
    record {
      moves =
          ap (λ (l : PeakedMoves). l.moves) c.in_ok-push.ensures.ok
          ∙ ap (λ (ms : List Move). ms ++ c.inverse.result ∷ []) c.loop-back.invariant.moves
          ∙ append_assoc first (way_back mesh (drop (n - back) moves)) (c.inverse.result ∷ [])
          ∙ ap (λ (m : Move). first ++ (way_back mesh (drop (n - back) moves) ++ m ∷ [])) inverse
          ∙ ap (λ (ms : List Move). first ++ ms) (sym more);
      none = λ zero. absurd (omega arith);
      some = λ some. greatest;
    }
