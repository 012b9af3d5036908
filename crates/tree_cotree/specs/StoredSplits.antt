-- How a split lies in memory.
use Rattle.std.specs.Prelude.{ℕ, List, Option}
use Rattle.tree_cotree.specs.declared.split.Kind.{Kind}
use Rattle.tree_cotree.specs.Splits.{SplitView}

-- the split that lies so
abbrev pub made_split : List Kind → List (Option ℕ) → List (Option ℕ) → ℕ → ℕ → SplitView
made_split kinds parents below root genus =
    record { kinds = kinds; parents = parents; children = below; root_face = root; genus = genus }
