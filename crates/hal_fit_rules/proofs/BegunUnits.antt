-- The phrases of units and files are added behind those before them.
use Rattle.std.proofs.Common.{ℕ, suc, List, [], ◌∷◌, length}
use Rattle.hal_grammar.specs.Leaves.{Naming}
use Rattle.hal_grammar.specs.Declarations.{Declaration}
use Rattle.hal_grammar.specs.Units.{Head, Block, BlockOf, Elements, NoElements, StatementFirst, BlockFirst, Template, Preface, Include, Templates, File}
use Rattle.hal_phrases.specs.declared.around.Around.{Around}
use Rattle.hal_phrases.specs.Surroundings.{in_file, behind, opened}
use Rattle.hal_phrases.specs.Phrases.{Phrase, OfUnit, OfFile, OfTemplate, add, gathered_each}
use Rattle.hal_phrases.specs.GatheredDeclarations.{gathered_declaration}
use Rattle.hal_phrases.specs.GatheredStatements.{gathered_statement}
use Rattle.hal_phrases.specs.GatheredUnits.{gathered_head, gathered_block, gathered_elements, around_template, gathered_template, gathered_preface, gathered_prefaces, name_of_block, gathered_file}
use Rattle.hal_fit_rules.specs.Begun.{AreFirst}
use Rattle.hal_fit_rules.proofs.Beginning.{no_step, then_, one, each}
use Rattle.hal_fit_rules.proofs.BegunStatements.{close_first, statement_first}
use Rattle.hal_fit_rules.proofs.BegunDeclarations.{declarations_first, head_first}

-- the phrases of a unit: its own, those of its head, and those of its declarations
abbrev pub with_own : List Phrase → Around → Naming → Head → List Declaration → List Phrase
with_own d a name head declarations = add d a (OfUnit name head declarations)

abbrev pub with_head : List Phrase → Around → Naming → Head → List Declaration → List Phrase
with_head d a name head declarations = gathered_head (with_own d a name head declarations) (opened (length d) a) head

abbrev pub with_declared : List Phrase → Around → Naming → Head → List Declaration → List Phrase
with_declared d a name head declarations = gathered_each (gathered_declaration (opened (length d) a)) (with_head d a name head declarations) declarations

pub declared_first : (d : List Phrase) (a : Around) (name : Naming) (head : Head) (declarations : List Declaration) → AreFirst d (with_declared d a name head declarations)
declared_first d a name head declarations =
    then_ (one d a (OfUnit name head declarations))
    (then_ (head_first (with_own d a name head declarations) (opened (length d) a) head) (declarations_first (opened (length d) a) (with_head d a name head declarations) declarations))

mutual
  unfolding gathered_block gathered_elements

  pub block_first : (d : List Phrase) (a : Around) (b : Block) → AreFirst d (gathered_block d a b)
  block_first d a (BlockOf name head declarations body close) =
      then_ (declared_first d a name head declarations)
      (then_ (elements_first (with_declared d a name head declarations) (opened (length d) a) body)
      (close_first (opened (length d) a) (gathered_elements (with_declared d a name head declarations) (opened (length d) a) body) close))

  pub elements_first : (d : List Phrase) (a : Around) (x : Elements) → AreFirst d (gathered_elements d a x)
  elements_first d a NoElements = no_step d
  elements_first d a (StatementFirst s others) = then_ (statement_first d a s) (elements_first (gathered_statement d a s) a others)
  elements_first d a (BlockFirst b others) = then_ (block_first d a b) (elements_first (gathered_block d a b) a others)

template_first : (d : List Phrase) (a : Around) (t : Template) → AreFirst d (gathered_template d a t)
unfolding gathered_template
template_first d a t =
    then_ (one d a (OfTemplate t.name t.head t.declarations))
    (then_ (head_first _ (opened (length d) a) t.head) (then_ (declarations_first (around_template (length d) a t.head) _ t.declarations) (close_first (opened (length d) a) _ t.close)))

preface_first : (d : List Phrase) (a : Around) (x : Preface) → AreFirst d (gathered_preface d a x)
unfolding gathered_preface
preface_first d a (Include p name) = one d a _
preface_first d a (Templates template) = template_first d a template

prefaces_first : (d : List Phrase) (a : Around) (n : ℕ) (xs : List Preface) → AreFirst d (gathered_prefaces d a n xs)
unfolding gathered_prefaces
prefaces_first d a n [] = no_step d
prefaces_first d a n (x ∷ xs) = then_ (preface_first d (behind n a) x) (prefaces_first (gathered_preface d (behind n a) x) a (suc n) xs)

-- what stands before a file's unit
abbrev pub before_unit : List Phrase → File → List Phrase
before_unit d f = gathered_prefaces (add d (in_file (length d)) (OfFile f.prefaces (name_of_block f.block))) (in_file (length d)) 0 f.prefaces

pub before_first : (d : List Phrase) (f : File) → AreFirst d (before_unit d f)
before_first d f =
    then_ (one d (in_file (length d)) (OfFile f.prefaces (name_of_block f.block)))
    (prefaces_first (add d (in_file (length d)) (OfFile f.prefaces (name_of_block f.block))) (in_file (length d)) 0 f.prefaces)

pub file_first : (d : List Phrase) (f : File) → AreFirst d (gathered_file d f)
unfolding gathered_file
file_first d f = then_ (before_first d f) (block_first (before_unit d f) (behind (length f.prefaces) (in_file (length d))) f.block)

pub files_first : (d : List Phrase) (fs : List File) → AreFirst d (gathered_each gathered_file d fs)
files_first d fs = each gathered_file file_first d fs
