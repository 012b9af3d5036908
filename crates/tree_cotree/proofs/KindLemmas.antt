-- Kinds of edges, as tests and by what they are at first.
use Rattle.tree_cotree.proofs.Common.{OrientedMesh, ◌≡◌, ℕ, ◌<◌, true, false, List, length, get_or, refl, ap, ◌∙◌, get_or-replicate, replicate, same_kind, has_kind, is_tree_kind, is_cotree_kind, is_left_kind, Kind, Tree, Cotree, Left}

-- a kind that is the same as another is that
kind_is : (kind other : Kind) → same_kind kind other ≡ true → kind ≡ other
kind_is Tree Tree h = refl
kind_is Cotree Cotree h = refl
kind_is Left Left h = refl
kind_is Tree Cotree h = cc
kind_is Tree Left h = cc
kind_is Cotree Tree h = cc
kind_is Cotree Left h = cc
kind_is Left Tree h = cc
kind_is Left Cotree h = cc

pub tree_kind : (kind : Kind) → is_tree_kind kind ≡ same_kind kind Tree
tree_kind Tree = refl
tree_kind Cotree = refl
tree_kind Left = refl

pub cotree_kind : (kind : Kind) → is_cotree_kind kind ≡ same_kind kind Cotree
cotree_kind Tree = refl
cotree_kind Cotree = refl
cotree_kind Left = refl

pub left_kind : (kind : Kind) → is_left_kind kind ≡ same_kind kind Left
left_kind Tree = refl
left_kind Cotree = refl
left_kind Left = refl

pub other_kind : (kinds : List Kind) (kind other : Kind) (e : ℕ) → same_kind kind other ≡ false → has_kind kinds kind e ≡ true
    → has_kind kinds other e ≡ false
other_kind kinds kind other e differ is = ap (λ k. same_kind k other) (kind_is (get_or kinds e Tree) kind is) ∙ differ

-- at first all edges are left over
pub all_left : (s : OrientedMesh) (k0 : List Kind) (e : ℕ) → k0 ≡ replicate (length s.table) Left → e < length s.table
    → get_or k0 e Tree ≡ Left
all_left s k0 e is l = ap (λ (ks : List Kind). get_or ks e Tree) is ∙ get_or-replicate (length s.table) e Left Tree l
