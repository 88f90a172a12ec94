-- Items that passed an end.
use Rattle.std.specs.Prelude.{List, [], ◌∷◌, ◌++◌}
use Rattle.prolly_load.specs.declared.passed.Chain.{Chain, Nothing, More'}

-- The items of a chain, oldest first.
abbrev pub chain_items : {T : Type 0} → Chain T → List T
chain_items Nothing = []
chain_items (More' shape before item) = chain_items before ++ item.value ∷ []
