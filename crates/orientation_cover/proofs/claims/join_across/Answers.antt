use Rattle.orientation_cover.proofs.ClaimLemmas.{joined_as_read}
use Rattle.orientation_cover.proofs.claims.join_across.Goals as goal

pub returns : goal.returns
returns c =
    joined_as_read c.args.faces.now c.args.claims.now c.join_corners.new.claims c.join_corners-2.new.claims c.args.side c.args.partner
    c.corners_across-alike.result.0 c.corners_across-alike.result.1 c.after.result c.corners_across-alike.result.2
    c.corners_across-alike.ensures.valid c.requires.count c.requires.partners c.corners_across-alike.ensures.corners
    c.corners_across-alike.ensures.alike c.after.ensures.after c.join_corners.ensures c.join_corners-2.ensures
