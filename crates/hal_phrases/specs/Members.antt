-- The phrases of a statement or a unit, as the program's trees list them.
use Rattle.std.specs.Prelude.{List, [], ◌∷◌}
use Rattle.hal_tree.specs.Rows.{Member, OfStatement, OfBlock}
use Rattle.hal_phrases.specs.declared.around.Around.{Around}
use Rattle.hal_phrases.specs.Phrases.{Phrase}
use Rattle.hal_phrases.specs.GatheredStatements.{gathered_statement}
use Rattle.hal_phrases.specs.GatheredUnits.{gathered_block}

-- a statement or a unit
unfoldable pub gathered_member : List Phrase → Around → Member → List Phrase
gathered_member d a (OfStatement statement) = gathered_statement d a statement
gathered_member d a (OfBlock block) = gathered_block d a block

-- statements and units, in order
unfoldable pub gathered_members : List Phrase → Around → List Member → List Phrase
gathered_members d a [] = d
gathered_members d a (x ∷ xs) = gathered_members (gathered_member d a x) a xs
