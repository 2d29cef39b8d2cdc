-- The phrases of units, of files and of a set of files.
use Rattle.std.specs.Prelude.{ℕ, suc, Bool, true, false, List, [], ◌∷◌, length}
use Rattle.hal_grammar.specs.Leaves.{Naming}
use Rattle.hal_grammar.specs.Units.{Returns, NoKind, HasKind, Head, Program, Compool, Task, Procedure, Function, Block, BlockOf, Elements, NoElements, StatementFirst, BlockFirst, Template, Preface, Include, Templates, File}
use Rattle.hal_phrases.specs.declared.around.Around.{Around}
use Rattle.hal_phrases.specs.Surroundings.{in_file, behind, opened}
use Rattle.hal_phrases.specs.Phrases.{Phrase, add, gathered_each, gathered_any, OfFile, OfInclude, OfTemplate, OfUnit, OfParameter}
use Rattle.hal_phrases.specs.GatheredDeclarations.{gathered_kind, gathered_declaration}
use Rattle.hal_phrases.specs.GatheredStatements.{gathered_close, gathered_statement}

-- a parameter
abbrev pub gathered_parameter : Around → Bool → List Phrase → Naming → List Phrase
gathered_parameter a output d name = add d a (OfParameter name output)

-- the type of a FUNCTION's result
unfoldable pub gathered_returns : List Phrase → Around → Returns → List Phrase
gathered_returns d a NoKind = d
gathered_returns d a (HasKind kind precision) = gathered_kind d a kind

-- the parameters of a head, and its type
unfoldable pub gathered_head : List Phrase → Around → Head → List Phrase
gathered_head d a (Program p) = d
gathered_head d a (Compool p) = d
gathered_head d a (Task p) = d
gathered_head d a (Procedure p inputs outputs mode) = gathered_each (gathered_parameter a true) (gathered_each (gathered_parameter a false) d inputs) outputs
gathered_head d a (Function p inputs returns mode) = gathered_returns (gathered_each (gathered_parameter a false) d inputs) a returns

unfoldable mutual
  -- a unit
  pub gathered_block : List Phrase → Around → Block → List Phrase
  gathered_block d a (BlockOf name head declarations body close) =
      gathered_any (gathered_close (opened (length d) a)) (gathered_elements (gathered_each (gathered_declaration (opened (length d) a)) (gathered_head (add d a (OfUnit name head declarations)) (opened (length d) a) head) declarations) (opened (length d) a) body) close

  -- statements and units
  pub gathered_elements : List Phrase → Around → Elements → List Phrase
  gathered_elements d a NoElements = d
  gathered_elements d a (StatementFirst statement others) = gathered_elements (gathered_statement d a statement) a others
  gathered_elements d a (BlockFirst block others) = gathered_elements (gathered_block d a block) a others

-- around the declarations of a template with this head and number: those of a COMPOOL belong to the file
unfoldable pub around_template : ℕ → Around → Head → Around
around_template k a (Compool p) = a
around_template k a other = opened k a

-- a written template
unfoldable pub gathered_template : List Phrase → Around → Template → List Phrase
gathered_template d a t =
    gathered_any (gathered_close (opened (length d) a)) (gathered_each (gathered_declaration (around_template (length d) a t.head)) (gathered_head (add d a (OfTemplate t.name t.head t.declarations)) (opened (length d) a) t.head) t.declarations) t.close

-- what stands before a unit
unfoldable pub gathered_preface : List Phrase → Around → Preface → List Phrase
gathered_preface d a (Include p name) = add d a (OfInclude name)
gathered_preface d a (Templates template) = gathered_template d a template

-- all that stands before a unit; so many prefaces stand before the first of them
unfoldable pub gathered_prefaces : List Phrase → Around → ℕ → List Preface → List Phrase
gathered_prefaces d a n [] = d
gathered_prefaces d a n (x ∷ xs) = gathered_prefaces (gathered_preface d (behind n a) x) a (suc n) xs

-- the name of a unit
unfoldable pub name_of_block : Block → Naming
name_of_block (BlockOf name _ _ _ _) = name

-- a file
unfoldable pub gathered_file : List Phrase → File → List Phrase
gathered_file d file =
    gathered_block (gathered_prefaces (add d (in_file (length d)) (OfFile file.prefaces (name_of_block file.block))) (in_file (length d)) 0 file.prefaces) (behind (length file.prefaces) (in_file (length d))) file.block

-- the phrases of a set of files
unfoldable pub phrases_of : List File → List Phrase
phrases_of files = gathered_each gathered_file [] files
