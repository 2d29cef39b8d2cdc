-- Whether CALL and RETURN fit: arguments and values are what is taken.
use Rattle.std.specs.Prelude.{◌≡◌, Bool, true, ◌&&◌, List, [], ◌∷◌, Option, Some, None}
use Rattle.hal_grammar.specs.Declarations.{CharacterKind}
use Rattle.hal_grammar.specs.Expressions.{Expressions, Reference}
use Rattle.hal_grammar.specs.Units.{Head, Function, HasKind}
use Rattle.hal_operations.specs.declared.operation.Op1.TheVariants as op1
use Rattle.hal_meaning.specs.Bodies.{Body}
use Rattle.hal_meaning.specs.Expressions.{inputs_at}
use Rattle.hal_meaning.specs.Variables.{Meant, MeantBlock}
use Rattle.hal_code.specs.declared.row.Block.{Block}
use Rattle.hal_code.specs.Effects.{Sorts, returned_sorts}
use Rattle.hal_code.specs.Sorts.{Sort, one_gives}
use Rattle.hal_agreement.specs.Sites.{Site}
use Rattle.hal_fit_expr.specs.Uses.{Uses}
use Rattle.hal_fit_expr.specs.Sorted.{arguments_fit, area_fits}

-- ASSIGN arguments are data
abbrev pub areas_fit : Uses → Site → List Reference → Bool
areas_fit u site [] = true
areas_fit u site (receiver ∷ receivers) = area_fits u site receiver && areas_fit u site receivers

-- CALL is of a unit that may be called, with arguments that it takes
abbrev pub CallFits : Uses → Site → Expressions → List Reference → Meant → Type 0
CallFits u site arguments receivers (MeantBlock unit) = (u.calls unit ≡ true) × (arguments_fit u site unit (inputs_at site.set unit) arguments ≡ true) × (areas_fit u site receivers ≡ true)
CallFits u site arguments receivers other = ⊥

-- what a value that RETURN gives becomes by the type of the unit
abbrev pub sort_by : Head → Sort → Option Sort
sort_by (Function place inputs (HasKind (CharacterKind at size) precision) mode) s = one_gives op1.Character s
sort_by other s = Some s

abbrev pub sort_given : Option Body → Sort → Option Sort
sort_given None s = Some s
sort_given (Some b) s = sort_by b.head s

-- a value of this sort becomes one that the block gives
pub record ReturnFits (block : Block) (b : Option Body) (value : Option Sort) : Type 0 where
  pub sort : Sort
  pub given : Sort
  pub left : Sorts
  pub sorted : value ≡ Some sort
  pub becomes : sort_given b sort ≡ Some given
  pub taken : returned_sorts block.result (given ∷ []) ≡ Some left
