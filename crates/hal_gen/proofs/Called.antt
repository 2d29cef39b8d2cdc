-- CALL, as the program emits it.
use Rattle.std.specs.Prelude.{List, [], Some, None, Err}
use Rattle.std.proofs.Common.{◌≡◌, refl}
use Rattle.hal_base.specs.declared.refusal.Place.{Place}
use Rattle.hal_grammar.specs.Expressions.{Expressions, Reference}
use Rattle.hal_code.specs.declared.instr.Instr.{Instr}
use Rattle.hal_agreement.specs.Sites.{Site}
use Rattle.hal_storage.specs.referents.Referents.{Referent, DataOf, ConstantOf, EventOf, BlockOf, BuiltinOf, Unmeant}
use Rattle.hal_gen_expr.specs.Calling.{called_code}
use Rattle.hal_gen_expr.specs.Emitting.{length_of}
use Rattle.hal_gen_expr.specs.Numbering.{Numbering}
use Rattle.hal_gen.specs.Procedures.{block_of}
use Rattle.hal_gen.specs.Sizes.{call_size}
use Rattle.hal_gen.specs.StatementCode.{procedure_code}

-- CALL of what a name refers to, by its block
pub procedure_given : (n : Numbering) (site : Site) (before : List Instr) (place : Place) (arguments : Expressions) (receivers : List Reference) (r : Referent)
    → procedure_code n site before place arguments receivers r ≡ (elim (block_of r) [ None ↦ Err place | Some unit ↦ called_code n site before place arguments receivers unit ])
procedure_given n site before place arguments receivers (BlockOf unit) = refl
procedure_given n site before place arguments receivers (DataOf k stored shape) = refl
procedure_given n site before place arguments receivers (ConstantOf v) = refl
procedure_given n site before place arguments receivers (EventOf e) = refl
procedure_given n site before place arguments receivers (BuiltinOf b) = refl
procedure_given n site before place arguments receivers Unmeant = refl

-- its size is the length of its code
pub procedure_sized : (n : Numbering) (site : Site) (place : Place) (arguments : Expressions) (receivers : List Reference) (r : Referent)
    → call_size n site arguments receivers place r ≡ length_of (procedure_code n site [] place arguments receivers r)
procedure_sized n site place arguments receivers (BlockOf unit) = refl
procedure_sized n site place arguments receivers (DataOf k stored shape) = refl
procedure_sized n site place arguments receivers (ConstantOf v) = refl
procedure_sized n site place arguments receivers (EventOf e) = refl
procedure_sized n site place arguments receivers (BuiltinOf b) = refl
procedure_sized n site place arguments receivers Unmeant = refl
