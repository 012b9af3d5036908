use Rattle.free_forms.proofs.Common.{HasPartner, IsAlone, partner_or_alone, partner_below, view_of_search, ◌≡◌, ◌⊎◌, inl, inr, ◌+◌, ◌<◌, length, arith, Side}
use Rattle.free_forms.proofs.SearchLemmas.{HasSpread, reached_below, spread_more}
use Rattle.free_forms.proofs.search.spread_from.Goals as goal

pub sides-at-end-requires : goal.sides-at-end-requires
sides-at-end-requires c = reached_below c.args.face.0 c.requires.search c.requires.face

pub side_at-requires : goal.side_at-requires
side_at-requires c =
    let mesh = c.args.faces.now in
    let side : Side = record { face = c.args.face; at = c.loop-at.at } in
    let below : c.args.face.0 < length mesh.faces = reached_below c.args.face.0 c.requires.search c.requires.face in
    let found : HasPartner mesh side c.other-other.result.0 ⊎ ((c.other-other.result.0 ≡ c.dart.result.0) × IsAlone mesh side) =
    partner_or_alone mesh c.args.sides.now side c.dart.result.0 c.other-other.result.0 c.requires.table c.requires.few
    (record { face = below; place = omega arith }) c.dart.ensures.number (c.other-other.ensures mesh c.requires.table) in
    elim found [
      | inl partner ↦ partner_below mesh side c.other-other.result.0 partner
      | inr alone ↦ omega (arith, alone.0, c.dart.ensures.below)
    ]

pub loop-at-preserved : goal.loop-at-preserved
loop-at-preserved c =
    let mesh = c.args.faces.now in
    let below : c.args.face.0 < length mesh.faces = reached_below c.args.face.0 c.requires.search c.requires.face in
    let from : HasSpread mesh (view_of_search c.args.search.now) (view_of_search c.loop-at.search) c.args.face.0 c.loop-at.at =
    grind arith in
    let more : HasSpread mesh (view_of_search c.args.search.now) (view_of_search c.reach.new.search) c.args.face.0 (c.loop-at.at + 1) =
    spread_more (view_of_search c.reach.new.search) c.requires.table c.requires.few below (omega arith)
    c.requires.face c.dart.ensures.number (c.other-other.ensures mesh c.requires.table) c.side_at.ensures.side c.side_at.ensures.number
    from c.in_ok-reach.ensures in grind arith
