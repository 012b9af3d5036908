use Rattle.move_lifting.proofs.Common.{◌≡◌, ◌-◌, ◌<◌, length, get_or, subst, List, arith, vec_len, numbers, VertexName}
use Rattle.move_lifting.proofs.LayLemmas.{popped_off, goes_out, goes_out_clean}
use Rattle.move_lifting.proofs.laying.put_vertex.Goals as goal

pub returns-then-leads_back-clause-freely : goal.returns-then-leads_back-clause-freely
returns-then-leads_back-clause-freely c mesh =
    let old = c.args.walk.now.items in
    let some : 0 < length old = c.requires.some in
    let came = c.leads_back.ensures.0 c.if-leads_back.true in
    let read = c.deref.ensures.value in
    let long : 1 < length old = subst (λ (l : List VertexName). 1 < length l) read came.0 in
    let here : get_or (numbers old) (length old - 2) 0 ≡ c.args.next.0 =
    subst (λ (l : List VertexName). get_or (numbers l) (length l - 2) 0 ≡ c.args.next.0) read came.1 in
    goes_out mesh old c.pop.new.self.items c.args.next (get_or old (vec_len c.args.walk.now - 1) (record { 0 = 0 })) long here
    (popped_off old c.pop.new.self.items (vec_len c.args.walk.now) (record { 0 = 0 }) some (omega (arith, c.args.walk.now.ok.0))
    c.pop.ensures.rest)

pub returns-then-leads_back-clause-no_spur : goal.returns-then-leads_back-clause-no_spur
returns-then-leads_back-clause-no_spur c =
    let old = c.args.walk.now.items in
    goes_out_clean old c.pop.new.self.items (get_or old (vec_len c.args.walk.now - 1) (record { 0 = 0 }))
    (popped_off old c.pop.new.self.items (vec_len c.args.walk.now) (record { 0 = 0 }) c.requires.some (omega (arith, c.args.walk.now.ok.0))
    c.pop.ensures.rest) c.requires.no_spur
