-- Which root is believed of a tree.
use Rattle.std.specs.Prelude.{Option, Some, None}
use Rattle.prolly.specs.declared.known_root.KnownRoot.{KnownRoot}
use Rattle.prolly.specs.declared.named_tree.OpenTree.{OpenTree}
use Rattle.prolly.specs.declared.named_tree.OpenTree.TheVariants.{Rooted, Whole}

-- The root that is believed of an open tree: none of one whose file is checked.
abbrev pub root_of : OpenTree → Option KnownRoot
root_of (Whole file) = None
root_of (Rooted chunks root) = Some root
