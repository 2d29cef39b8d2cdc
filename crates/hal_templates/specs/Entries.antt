-- What declarations declare, one after another: data, each with the attributes before its comma, and structure templates.
use Rattle.std.specs.Prelude.{List, [], ◌∷◌, ◌++◌, map, flat_map}
use Rattle.hal_grammar.specs.Declarations.{Attribute, Declared, Declaration, Declare, Structure}
use Rattle.hal_phrases.specs.Phrases.{Node, OfItem, OfStructure}

-- what one declaration declares
unfoldable pub entries_of : Declaration → List Node
entries_of (Declare place common items) = map (OfItem common) items
entries_of (Structure place name parts) = OfStructure name parts ∷ []

-- what declarations declare
unfoldable pub entries : List Declaration → List Node
entries declarations = flat_map entries_of declarations

-- those so far and data behind these attributes
unfoldable pub with_items : List Attribute → List Node → List Declared → List Node
with_items common d [] = d
with_items common d (x ∷ xs) = with_items common (d ++ (OfItem common x ∷ [])) xs

-- those so far and what one declaration declares
unfoldable pub with_declaration : List Node → Declaration → List Node
with_declaration d (Declare place common items) = with_items common d items
with_declaration d (Structure place name parts) = d ++ (OfStructure name parts ∷ [])

-- those so far and what declarations declare
unfoldable pub with_declarations : List Node → List Declaration → List Node
with_declarations d [] = d
with_declarations d (x ∷ xs) = with_declarations (with_declaration d x) xs
