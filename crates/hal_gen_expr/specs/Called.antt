-- The code of names with lists, by what they are, and of terms.
use Rattle.std.specs.Prelude.{true, List, [], Err, if◌then◌else◌}
use Rattle.hal_base.specs.declared.refusal.Place.{Place}
use Rattle.hal_grammar.specs.Expressions.{Expressions}
use Rattle.hal_tree.specs.Rows.{SignedTerm}
use Rattle.hal_constants.specs.declared.operation.Operation.{Operation}
use Rattle.hal_constants.specs.declared.operation.Operation.TheVariants as operation
use Rattle.hal_constants.specs.Naming.{operation_of}
use Rattle.hal_operations.specs.declared.operation.Op2.TheVariants as op2
use Rattle.hal_meaning.specs.Expressions.{is_size, inputs_at, operation_of_sign}
use Rattle.hal_code.specs.declared.instr.Instr.{Instr}
use Rattle.hal_agreement.specs.PlacedExpressions.{two}
use Rattle.hal_agreement.specs.Sites.{Site}
use Rattle.hal_storage.specs.referents.Referents.{Referent, DataOf, ConstantOf, BlockOf, BuiltinOf}
use Rattle.hal_gen_expr.specs.declared.expressions.Form.{Form}
use Rattle.hal_gen_expr.specs.declared.expressions.Form.TheVariants as form
use Rattle.hal_gen_expr.specs.Emitting.{Emitted, onwards, emit}
use Rattle.hal_gen_expr.specs.ExpressionCode.{emit_one, size_code, behind_arguments, expression_code, folded_code, built_code, arguments_code}
use Rattle.hal_gen_expr.specs.Leaves.{value_of, call_of}
use Rattle.hal_gen_expr.specs.Numbering.{Numbering}

-- what an operation is
abbrev pub built_form : Operation → Form
built_form (operation.One op) = form.One op
built_form (operation.Two op) = form.Two op
built_form other = form.Uncoded

-- what a name is before a list that refers to this
abbrev pub form_of : Referent → Form
form_of (DataOf k kept shape) = form.Multiplied
form_of (ConstantOf v) = form.Multiplied
form_of (BuiltinOf b) = if is_size b then form.Size else built_form (operation_of b)
form_of (BlockOf unit) = form.Called unit
form_of other = form.Uncoded

-- its code
abbrev pub formed : Numbering → Site → List Instr → Place → Expressions → Referent → Form → Emitted
formed n site before place arguments r form.Multiplied = onwards (emit before place (value_of n site [] r)) (λ middle. folded_code n site middle place op2.Product arguments)
formed n site before place arguments r (form.One op) = built_code n site before place (operation.One op) arguments
formed n site before place arguments r (form.Two op) = built_code n site before place (operation.Two op) arguments
formed n site before place arguments r form.Size = size_code site before place arguments
formed n site before place arguments r (form.Called unit) = behind_arguments place (arguments_code n site before place unit (inputs_at site.set unit) arguments) (call_of n site true unit)
formed n site before place arguments r form.Uncoded = Err place

-- a term behind a value
abbrev pub term_code : Numbering → Site → List Instr → SignedTerm → Emitted
term_code n site before t = onwards (expression_code n site before t.2) (λ middle. emit_one middle t.0 (two (operation_of_sign t.1)))
