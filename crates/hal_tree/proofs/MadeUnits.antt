-- How the nodes of units and files are seen, as code makes them.
use Rattle.std.proofs.Common.{rules, ◌≡◌, map, Option, Vec, refl}
use Rattle.std.specs.Option.{option_map}
use Rattle.std.specs.declared.alloc.Global.{Global}
use Rattle.hal_base.specs.declared.refusal.Place.{Place}
use Rattle.hal_tree.specs.declared.leaf.Identifier.{Identifier}
use Rattle.hal_tree.specs.declared.declaration.Type as rust-type
use Rattle.hal_tree.specs.declared.declaration.Declaration.{Declaration}
use Rattle.hal_tree.specs.declared.statement.Statement.{Statement}
use Rattle.hal_tree.specs.declared.unit.Mode.{Mode}
use Rattle.hal_tree.specs.declared.unit.Precision.{Precision}
use Rattle.hal_tree.specs.declared.unit.Returns.{Returns}
use Rattle.hal_tree.specs.declared.unit.Returns.TheVariants as returns
use Rattle.hal_tree.specs.declared.unit.Head.{Head}
use Rattle.hal_tree.specs.declared.unit.Head.TheVariants as head
use Rattle.hal_tree.specs.declared.unit.Unit.{Unit, out-Unit, roll-Unit, the_lemmas}
use Rattle.hal_tree.specs.declared.unit.Element.{Element}
use Rattle.hal_tree.specs.declared.unit.Element.TheVariants as element
use Rattle.hal_tree.specs.declared.unit.Template.{Template}
use Rattle.hal_tree.specs.declared.unit.Preface.TheVariants as preface
use Rattle.hal_tree.specs.declared.unit.File.{File}
use Rattle.hal_grammar.specs.Units as plain
use Rattle.hal_tree.specs.Rows.{OfStatement, OfBlock, elements}
use Rattle.hal_tree.specs.SeenLeaves.{seen_name}
use Rattle.hal_tree.specs.SeenDeclarations.{seen_type, seen_declaration}
use Rattle.hal_tree.specs.SeenStatements.{seen_statement}
use Rattle.hal_tree.specs.SeenUnits.{seen_mode, seen_precision, seen_returns, seen_head, seen_element, seen_unit, seen_template, seen_preface, seen_file}

pub made_untyped : seen_returns returns.Untyped ≡ plain.NoKind
unfolding seen_returns
made_untyped = refl

pub made_typed_returns : (kind : rust-type.Type) (precision : Option Precision) → seen_returns (returns.Typed kind precision) ≡ plain.HasKind (seen_type kind) (option_map seen_precision precision)
unfolding seen_returns
made_typed_returns kind precision = refl

pub made_program : (place : Place) → seen_head (head.Program place) ≡ plain.Program place
unfolding seen_head
made_program place = refl

pub made_compool : (place : Place) → seen_head (head.Compool place) ≡ plain.Compool place
unfolding seen_head
made_compool place = refl

pub made_task : (place : Place) → seen_head (head.Task place) ≡ plain.Task place
unfolding seen_head
made_task place = refl

pub made_procedure : (place : Place) (inputs outputs : Vec Identifier Global) (mode : Option Mode) → seen_head (head.Procedure place inputs outputs mode) ≡ plain.Procedure place (map seen_name inputs.items) (map seen_name outputs.items) (option_map seen_mode mode)
unfolding seen_head
made_procedure place inputs outputs mode = refl

pub made_function : (place : Place) (inputs : Vec Identifier Global) (kind : Returns) (mode : Option Mode) → seen_head (head.Function place inputs kind mode) ≡ plain.Function place (map seen_name inputs.items) (seen_returns kind) (option_map seen_mode mode)
unfolding seen_head
made_function place inputs kind mode = refl

pub made_statement_element : (statement : Statement) → seen_element (element.Statement statement) ≡ OfStatement (seen_statement statement)
unfolding seen_element seen_unit
made_statement_element statement = search (rules, the_lemmas)

pub made_unit_element : (unit : Unit) → seen_element (element.Unit unit) ≡ OfBlock (seen_unit unit)
unfolding seen_element seen_unit
made_unit_element unit = search (rules, the_lemmas)

pub made_unit : (n : Identifier) (h : Head) (d : Vec Declaration Global) (e : Vec Element Global) (c : Option Identifier) → seen_unit (roll-Unit record { name = n; head = h; declarations = d; elements = e; close = c }) ≡ plain.BlockOf (seen_name n) (seen_head h) (map seen_declaration d.items) (elements (map seen_element e.items)) (option_map seen_name c)
unfolding seen_element seen_unit
made_unit n h d e c = search (rules, the_lemmas)

pub parts_of_unit : (u : Unit) → seen_unit u ≡ plain.BlockOf (seen_name (out-Unit u).name) (seen_head (out-Unit u).head) (map seen_declaration (out-Unit u).declarations.items) (elements (map seen_element (out-Unit u).elements.items)) (option_map seen_name (out-Unit u).close)
unfolding seen_element seen_unit
parts_of_unit u = search (rules, the_lemmas)

pub made_template : (t : Template) → seen_template t ≡ plain.template_of (seen_name t.name) (seen_head t.head) (map seen_declaration t.declarations.items) (option_map seen_name t.close)
unfolding seen_template
made_template t = refl

pub made_include : (place : Place) (name : Identifier) → seen_preface (preface.Include place name) ≡ plain.Include place (seen_name name)
unfolding seen_preface
made_include place name = refl

pub made_template_preface : (template : Template) → seen_preface (preface.Template template) ≡ plain.Templates (seen_template template)
unfolding seen_preface
made_template_preface template = refl

pub made_file : (f : File) → seen_file f ≡ plain.file_of (map seen_preface f.prefaces.items) (seen_unit f.unit)
unfolding seen_file
made_file f = refl
