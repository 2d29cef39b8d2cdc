-- The code of receivers, behind the code so far: the address that a subscript chooses, and the store of the value below it.
use Rattle.std.specs.Prelude.{ℕ, Bool, false, List, [], Option, Some, None, Err, if◌then◌else◌}
use Rattle.hal_base.specs.declared.refusal.Place.{Place}
use Rattle.hal_grammar.specs.Expressions.{Reference, Refers, Subscript, ByName, ByInteger, Subscripts, NoSubscripts, MoreSubscripts}
use Rattle.hal_constants.specs.Constants.{is_none}
use Rattle.hal_meaning.specs.Statements.{components_in}
use Rattle.hal_meaning.specs.Variables.{is_arrayed}
use Rattle.hal_code.specs.declared.instr.Instr.{Instr}
use Rattle.hal_code.specs.declared.instr.Instr.TheVariants as instr
use Rattle.hal_code.specs.declared.operand.Places.{Places}
use Rattle.hal_code.specs.declared.operand.Places.TheVariants as places
use Rattle.hal_agreement.specs.PlacedExpressions.{places_of}
use Rattle.hal_agreement.specs.PlacedStatements.{patches}
use Rattle.hal_agreement.specs.Sites.{Site}
use Rattle.hal_gen_expr.specs.Emitting.{Emitted, onwards, length_of}
use Rattle.hal_gen_expr.specs.ExpressionCode.{emit_one, name_code, integer_code, chosen_code, part_code}
use Rattle.hal_gen_expr.specs.declared.aims.Aim.TheVariants as aims
use Rattle.hal_gen_expr.specs.Led.{Led, led_by, sizes_led}
use Rattle.hal_gen_expr.specs.Numbering.{Numbering}
use Rattle.hal_gen_expr.specs.Referents.{referent}

-- such places of the old value are replaced, and it is stored
abbrev pub patch_code : List Instr → Place → Places → Emitted
patch_code before place chosen = onwards (emit_one before place (patches chosen)) (λ middle. emit_one middle place instr.Keep)

-- the same behind the numbers of these places, of which the code is given: the old value is read before they are evaluated
abbrev pub patched_code : List Instr → Place → Places → (List Instr → Emitted) → Emitted
patched_code before place chosen numbers = onwards (emit_one before place instr.Peek) (λ middle. onwards (numbers middle) (λ late. patch_code late place chosen))

-- the value below an address is stored there, or in the component of what is there
abbrev pub stored_code : Numbering → Site → List Instr → Place → Subscripts → Emitted
stored_code n site before place NoSubscripts = emit_one before place instr.Keep
stored_code n site before place (MoreSubscripts first others) =
    if is_none others then patched_code before place (places_of first) (λ middle. part_code n site middle place first) else Err place

-- the same of a receiver with an array or without one: where there is none, a subscript without a mark is its component's
abbrev pub received_code : Numbering → Site → List Instr → Place → Bool → Subscript → Emitted
received_code n site before place false (ByName there name) = patched_code before place places.One (λ middle. name_code n site middle name)
received_code n site before place false (ByInteger there mark number) = patched_code before place places.One (λ middle. integer_code middle place number)
received_code n site before place arrayed subscript = stored_code n site before place (components_in arrayed subscript)

-- data get the value on the stack
abbrev pub addressed_code : Numbering → Site → List Instr → Place → Subscript → Option Led → Emitted
addressed_code n site before place subscript None = Err place
addressed_code n site before place subscript (Some l) =
    onwards (chosen_code n site before place aims.Cell subscript l) (λ middle. received_code n site middle place (is_arrayed (sizes_led l)) subscript)

abbrev pub receiver_code : Numbering → Site → List Instr → Reference → Emitted
receiver_code n site before (Refers place name path subscript) = addressed_code n site before place subscript (led_by path (referent site name))

-- how many instructions it has
abbrev pub receiver_size : Numbering → Site → Reference → ℕ
receiver_size n site receiver = length_of (receiver_code n site [] receiver)
