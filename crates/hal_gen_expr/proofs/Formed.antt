-- The code of names with lists, by what they are.
use Rattle.std.specs.Prelude.{ℕ, Bool, true, false, List, if◌then◌else◌}
use Rattle.std.proofs.Common.{◌≡◌, refl}
use Rattle.hal_base.specs.declared.refusal.Place.{Place}
use Rattle.hal_grammar.specs.Expressions.{Expressions, Called}
use Rattle.hal_constants.specs.declared.operation.Operation.{Operation}
use Rattle.hal_constants.specs.declared.operation.Operation.TheVariants as operation
use Rattle.hal_constants.specs.Naming.{operation_of}
use Rattle.hal_operations.specs.declared.operation.Op2.TheVariants as op2
use Rattle.hal_meaning.specs.Expressions.{is_size, inputs_at}
use Rattle.hal_code.specs.declared.instr.Instr.{Instr}
use Rattle.hal_agreement.specs.Sites.{Site}
use Rattle.hal_storage.specs.referents.Referents.{Referent, DataOf, ConstantOf, EventOf, BlockOf, BuiltinOf, Unmeant}
use Rattle.hal_gen_expr.specs.declared.expressions.Form.TheVariants as form
use Rattle.hal_gen_expr.specs.Called.{built_form, form_of, formed}
use Rattle.hal_gen_expr.specs.ExpressionCode.{size_code, called_code, expression_code, folded_code, built_code, arguments_code}
use Rattle.hal_gen_expr.specs.Numbering.{Numbering}
use Rattle.hal_gen_expr.specs.Referents.{referent}
use Rattle.hal_gen_expr.specs.SeenSites.{seen_numbering, seen_site}
use Rattle.hal_gen_expr.specs.declared.site.Site as rust-site

module _ (n : Numbering) (site : Site) (before : List Instr) (place : Place) (arguments : Expressions) where
  built_formed : (r : Referent) (op : Operation) → built_code n site before place op arguments ≡ formed n site before place arguments r (built_form op)
  built_formed r (operation.One op) = refl
  built_formed r (operation.Two op) = refl
  built_formed r operation.Size = refl
  built_formed r operation.Nothing = refl

  size_formed : (r : Referent) (b : Bool) (op : Operation)
      → (if b then size_code site before place arguments else built_code n site before place op arguments)
      ≡ formed n site before place arguments r (if b then form.Size else built_form op)
  size_formed r true op = refl
  size_formed r false op = built_formed r op

  by_referent : (r : Referent)
      → called_code n site before place (size_code site before place arguments) (λ middle. folded_code n site middle place op2.Product arguments) (λ op. built_code n site before place op arguments)
      (λ unit. arguments_code n site before place unit (inputs_at site.set unit) arguments) r
      ≡ formed n site before place arguments r (form_of r)
  by_referent (DataOf k kept shape) = refl
  by_referent (ConstantOf v) = refl
  by_referent (EventOf e) = refl
  by_referent (BlockOf unit) = refl
  by_referent (BuiltinOf b) = size_formed (BuiltinOf b) (is_size b) (operation_of b)
  by_referent Unmeant = refl

pub called_formed : (s : rust-site.Site) (before : List Instr) (place : Place) (name : List ℕ) (arguments : Expressions)
    → expression_code (seen_numbering s) (seen_site s) before (Called place name arguments)
    ≡ formed (seen_numbering s) (seen_site s) before place arguments (referent (seen_site s) name) (form_of (referent (seen_site s) name))
called_formed s before place name arguments = by_referent (seen_numbering s) (seen_site s) before place arguments (referent (seen_site s) name)
