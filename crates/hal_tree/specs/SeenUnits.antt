-- Which unit of the grammar each unit of the program is, and which file each file.
use Rattle.std.specs.Prelude.{map}
use Rattle.std.specs.Option.{option_map}
use Rattle.hal_tree.specs.declared.unit.Mode as rust-mode
use Rattle.hal_tree.specs.declared.unit.Mode.TheVariants as mode
use Rattle.hal_tree.specs.declared.unit.Precision as rust-precision
use Rattle.hal_tree.specs.declared.unit.Precision.TheVariants as precision
use Rattle.hal_tree.specs.declared.unit.Returns as rust-returns
use Rattle.hal_tree.specs.declared.unit.Returns.TheVariants as returns
use Rattle.hal_tree.specs.declared.unit.Head as rust-head
use Rattle.hal_tree.specs.declared.unit.Head.TheVariants as head
use Rattle.hal_tree.specs.declared.unit.Unit.{Unit, fold-Unit}
use Rattle.hal_tree.specs.declared.unit.Element.{Element, fold-Element}
use Rattle.hal_tree.specs.declared.unit.Element.TheOpen.{Element-F, Unit-F}
use Rattle.hal_tree.specs.declared.unit.Template as rust-template
use Rattle.hal_tree.specs.declared.unit.Preface as rust-preface
use Rattle.hal_tree.specs.declared.unit.Preface.TheVariants as preface
use Rattle.hal_tree.specs.declared.unit.File as rust-file
use Rattle.hal_grammar.specs.Units.{Mode, Reentrant, Exclusive, Precision, SinglePrecision, DoublePrecision, Returns, NoKind, HasKind, Head, Program, Compool, Task, Procedure, Function, Block, BlockOf, Template, template_of, Preface, Include, Templates, File, file_of}
use Rattle.hal_tree.specs.Rows.{Member, OfStatement, OfBlock, elements}
use Rattle.hal_tree.specs.SeenLeaves.{seen_name}
use Rattle.hal_tree.specs.SeenDeclarations.{seen_type, seen_declaration}
use Rattle.hal_tree.specs.SeenStatements.{seen_statement}

-- REENTRANT or EXCLUSIVE
abbrev pub seen_mode : rust-mode.Mode → Mode
seen_mode (mode.Reentrant place) = Reentrant place
seen_mode (mode.Exclusive place) = Exclusive place

-- SINGLE or DOUBLE
abbrev pub seen_precision : rust-precision.Precision → Precision
seen_precision (precision.Single place) = SinglePrecision place
seen_precision (precision.Double place) = DoublePrecision place

-- the type of a FUNCTION's result
unfoldable pub seen_returns : rust-returns.Returns → Returns
seen_returns returns.Untyped = NoKind
seen_returns (returns.Typed kind precision) = HasKind (seen_type kind) (option_map seen_precision precision)

-- the head of a unit
unfoldable pub seen_head : rust-head.Head → Head
seen_head (head.Program place) = Program place
seen_head (head.Compool place) = Compool place
seen_head (head.Task place) = Task place
seen_head (head.Procedure place inputs outputs mode) = Procedure place (map seen_name inputs.items) (map seen_name outputs.items) (option_map seen_mode mode)
seen_head (head.Function place inputs returns mode) =
    Function place (map seen_name inputs.items) (seen_returns returns) (option_map seen_mode mode)

-- a statement or a unit, where the unit is seen already
abbrev pub element_step : Element-F Member Block → Member
element_step (Element-F.Statement statement) = OfStatement (seen_statement statement)
element_step (Element-F.Unit unit) = OfBlock unit

-- a unit, where what stands in it is seen already
abbrev pub unit_step : Unit-F Member Block → Block
unit_step u = BlockOf (seen_name u.name) (seen_head u.head) (map seen_declaration u.declarations.items) (elements u.elements.items) (option_map seen_name u.close)

-- the statement or the unit of the grammar that this one is
unfoldable pub seen_element : Element → Member
seen_element = fold-Element Member Block element_step unit_step

-- the unit
unfoldable pub seen_unit : Unit → Block
seen_unit = fold-Unit Member Block element_step unit_step

-- the template of a unit
unfoldable pub seen_template : rust-template.Template → Template
seen_template t = template_of (seen_name t.name) (seen_head t.head) (map seen_declaration t.declarations.items) (option_map seen_name t.close)

-- what stands before a file's unit
unfoldable pub seen_preface : rust-preface.Preface → Preface
seen_preface (preface.Include place name) = Include place (seen_name name)
seen_preface (preface.Template template) = Templates (seen_template template)

-- a file
unfoldable pub seen_file : rust-file.File → File
seen_file f = file_of (map seen_preface f.prefaces.items) (seen_unit f.unit)
