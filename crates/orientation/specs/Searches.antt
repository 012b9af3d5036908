-- A search under way, and how it goes on.
use Rattle.std.specs.Prelude.{◌≡◌, ℕ, ◌+◌, true, List, length}
use Rattle.surf_model.specs.FaceLists.{FaceList}
use Rattle.surf_model.specs.Surfaces.{ArePartners, is_flipped}
use Rattle.surf_model.specs.declared.names.FaceName.{FaceName}
use Rattle.orientation.specs.Trees.{Growth, AreTrees, IsFrontier, Fit, count_unseen, is_seen, tree_place_of}
use Rattle.orientation.specs.declared.search.Tear.{Tear}

-- a face that was seen stays as it is
pub record IsFaceKept (old new : Growth) (f : ℕ) : Type 0 where
  pub seen : is_seen new f ≡ true
  pub sign : is_flipped new.flipped f ≡ is_flipped old.flipped f
  pub place : tree_place_of new f ≡ tree_place_of old f

pub record Extends (old new : Growth) : Type 0 where
  pub kept : (f : ℕ) → is_seen old f ≡ true → IsFaceKept old new f

-- a search under way
pub record IsSearch (mesh : FaceList) (growth : Growth) (waiting : List FaceName) : Type 0 where
  pub trees : AreTrees mesh growth
  pub frontier : IsFrontier mesh growth waiting

-- a later state: what was seen stays, and each face that was seen since then waits
pub record GrowthGoesOn (old : Growth) (waited : List FaceName) (new : Growth) (waiting : List FaceName) : Type 0 where
  pub extends : Extends old new
  pub count : count_unseen new + length waiting ≡ count_unseen old + length waited

-- an edge between two faces that were seen, whose signs do not fit
pub record IsTear (mesh : FaceList) (growth : Growth) (tear : Tear) : Type 0 where
  pub partners : ArePartners mesh tear.side tear.other
  pub seen : is_seen growth tear.side.face.0 ≡ true
  pub other_seen : is_seen growth tear.other.face.0 ≡ true
  pub unfit : Fit mesh growth.flipped tear.side tear.other → ⊥
