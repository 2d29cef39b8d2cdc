-- The sorts of expressions, by the operations that they are made of: None where an operand is of a wrong one, or where something is used that isn't there.
use Rattle.std.specs.Prelude.{ℕ, nat_le, nat_lt, ◌^◌, Bool, true, false, ◌&&◌, List, [], ◌∷◌, Option, Some, None, if◌then◌else◌}
use Rattle.std.specs.Option.{option_and_then}
use Rattle.hal_grammar.specs.Leaves.{Naming}
use Rattle.hal_grammar.specs.Expressions.{Expression, Or, And, Compare, Cat, Sum, Product, Power, Not, Literal, Decimal, Referred, Called, Convert, Parenthesis, Expressions, NoExpressions, MoreExpressions, Terms, NoTerms, MoreTerms, Reference, Refers, Subscript, Unsubscripted, ByName, ByInteger, ByParts, Subscripts, NoSubscripts, MoreSubscripts, Sub, Every, Range, Portion, One as OnePlace, Position, FromBeginning, FromEnd}
use Rattle.hal_scope.specs.declared.builtin.Builtin.{Builtin}
use Rattle.hal_scope.specs.declared.builtin.Builtin.TheVariants as builtin
use Rattle.hal_operations.specs.declared.operation.Op1.TheVariants as op1
use Rattle.hal_operations.specs.declared.operation.Op2.{Op2}
use Rattle.hal_operations.specs.declared.operation.Op2.TheVariants as op2
use Rattle.hal_constants.specs.declared.operation.Operation.{Operation}
use Rattle.hal_constants.specs.declared.operation.Operation.TheVariants as operation
use Rattle.hal_constants.specs.Naming.{operation_of}
use Rattle.hal_constants.specs.Constants.{is_none}
use Rattle.hal_values.specs.declared.value.Kind.{Kind}
use Rattle.hal_values.specs.declared.value.Value.{Value}
use Rattle.hal_values.specs.declared.value.Value.TheVariants as value
use Rattle.hal_meaning.specs.Bodies.{Body}
use Rattle.hal_meaning.specs.Calls.{parameter_named, is_function, zero_of}
use Rattle.hal_meaning.specs.Elements.{chosen}
use Rattle.hal_meaning.specs.Expressions.{literal_value, exponent_of, operation_of_relation, operation_of_conversion, is_size, size_argument, inputs_at, sizes_named}
use Rattle.hal_meaning.specs.Sets.{body_at}
use Rattle.hal_meaning.specs.Variables.{Meant, MeantData, MeantConstant, MeantEvent, MeantBlock, MeantBuiltin, MeantNothing, name_meant, kind_of_first, is_arrayed, is_whole}
use Rattle.hal_code.specs.Sorts.{Sort, I, B, T, sort_of, one_gives, two_give, takes}
use Rattle.hal_code.specs.Effects.{has_places}
use Rattle.hal_agreement.specs.Sites.{Site, here_at}
use Rattle.hal_fit_expr.specs.Uses.{Uses}

abbrev pub is_integer : Option Sort → Bool
is_integer (Some I) = true
is_integer other = false

abbrev pub is_bits : Option Sort → Bool
is_bits (Some B) = true
is_bits other = false

-- bits of 1 to 32 places
abbrev pub are_bits : ℕ → ℕ → Bool
are_bits len word = (nat_le 1 len && nat_le len 32) && nat_lt word (2 ^ len)

abbrev pub sort_of_value : Value → Option Sort
sort_of_value (value.Int a) = Some I
sort_of_value (value.Bits len word) = if are_bits len word then Some B else None
sort_of_value (value.Text text) = Some T

-- built-in functions without a list
abbrev pub sort_of_builtin : Uses → Builtin → Option Sort
sort_of_builtin u builtin.Errgrp = Some I
sort_of_builtin u builtin.Errnum = Some I
sort_of_builtin u builtin.Runtime = if u.asks then Some I else None
sort_of_builtin u other = None

-- what a unit gives that is called
abbrev pub sort_of_body : Uses → ℕ → Body → Option Sort
sort_of_body u unit b = if u.calls unit && is_function b.head then sort_of_value (zero_of b.head) else None

abbrev pub sort_of_call : Uses → Site → ℕ → Option Sort
sort_of_call u site unit = option_and_then (sort_of_body u unit) (body_at site.set unit)

-- what a name means, without subscripts
abbrev pub sort_of_meant : Uses → Site → List Naming → Meant → Option Sort
sort_of_meant u site path (MeantData at shape) = Some (sort_of (kind_of_first (chosen path shape.components)))
sort_of_meant u site path (MeantConstant v) = sort_of_value v
sort_of_meant u site path (MeantEvent e) = if u.asks && nat_lt e u.events then Some B else None
sort_of_meant u site path (MeantBlock unit) = sort_of_call u site unit
sort_of_meant u site path (MeantBuiltin b) = sort_of_builtin u b
sort_of_meant u site path MeantNothing = None

abbrev pub sort_of_name : Uses → Site → List ℕ → List Naming → Option Sort
sort_of_name u site name path = sort_of_meant u site path (name_meant (here_at site) name [])

-- a value whose component is chosen
abbrev pub chosen_sort : Bool → Sort → Option Sort
chosen_sort fits s = if fits then Some s else None

-- what a name means, with a subscript of which it is given whether what it has for copies and arrays fits, and whether what it has for components does
abbrev pub subscripted_sort : Uses → Site → List Naming → (Bool → Bool) → (Bool → Sort → Bool) → Meant → Option Sort
subscripted_sort u site path places parts (MeantData at shape) =
    chosen_sort (places (is_arrayed (sizes_named path shape)) && parts (is_arrayed (sizes_named path shape)) (sort_of (kind_of_first (chosen path shape.components)))) (sort_of (kind_of_first (chosen path shape.components)))
subscripted_sort u site path places parts other = option_and_then (λ s. chosen_sort (parts false s) s) (sort_of_meant u site path other)

-- a name with a list, of which the sorts are given as the operands of a product, as those of a built-in function, and whether it fits as the arguments of a call
abbrev pub called_sort : Uses → Site → Option Sort → (Sort → Option Sort) → (Operation → Option Sort) → (ℕ → Bool) → Meant → Option Sort
called_sort u site size folded built arguments (MeantBlock unit) = if arguments unit then sort_of_call u site unit else None
called_sort u site size folded built arguments (MeantBuiltin b) = if is_size b then size else built (operation_of b)
called_sort u site size folded built arguments (MeantData at shape) = option_and_then folded (sort_of_meant u site [] (MeantData at shape))
called_sort u site size folded built arguments (MeantConstant v) = option_and_then folded (sort_of_meant u site [] (MeantConstant v))
called_sort u site size folded built arguments other = None

-- whether a value that may be there is taken by cells of a kind
abbrev pub is_taken : Kind → Option Sort → Bool
is_taken kind None = false
is_taken kind (Some s) = takes kind s

-- an argument for a whole parameter, or for one of one element
abbrev pub passed_fits : Bool → Bool → Bool → Bool
passed_fits true whole plain = whole
passed_fits false whole plain = plain

-- whether the places that a subscript chooses of data fit, where what a name means is data
abbrev pub data_fits : List Naming → (Bool → Bool) → Meant → Bool
data_fits path places (MeantData at shape) = places (is_arrayed (sizes_named path shape))
data_fits path places other = false

abbrev mutual
  pub sort_of_expression : Uses → Site → Expression → Option Sort
  sort_of_expression u site (Or place first others) = if is_bits (sort_of_expression u site first) && all_bits u site others then Some B else None
  sort_of_expression u site (And place first others) = if is_bits (sort_of_expression u site first) && all_bits u site others then Some B else None
  sort_of_expression u site (Compare place left relation right) =
      option_and_then (λ s. option_and_then (two_give (operation_of_relation relation) s) (sort_of_expression u site right)) (sort_of_expression u site left)
  sort_of_expression u site (Cat place first others) = option_and_then (λ s. folded_sort u site op2.Cat s others) (sort_of_expression u site first)
  sort_of_expression u site (Sum place opening first others) = if is_integer (sort_of_expression u site first) && terms_fit u site others then Some I else None
  sort_of_expression u site (Product place first others) = option_and_then (λ s. folded_sort u site op2.Product s others) (sort_of_expression u site first)
  sort_of_expression u site (Power place base exponent) =
      option_and_then (λ s. option_and_then (two_give op2.Power s) (sort_of_value (exponent_of exponent))) (sort_of_expression u site base)
  sort_of_expression u site (Not place operand) = option_and_then (one_gives op1.Not) (sort_of_expression u site operand)
  sort_of_expression u site (Literal place literal) = sort_of_value (literal_value literal)
  sort_of_expression u site (Decimal place number) = None
  sort_of_expression u site (Referred reference) = sort_of_reference u site reference
  sort_of_expression u site (Called place name arguments) =
      called_sort u site (sort_of_value (size_argument (here_at site) arguments [])) (λ s. folded_sort u site op2.Product s arguments) (λ op. built_sort u site op arguments)
      (λ unit. arguments_fit u site unit (inputs_at site.set unit) arguments) (name_meant (here_at site) name [])
  sort_of_expression u site (Convert place conversion operand) = option_and_then (one_gives (operation_of_conversion conversion)) (sort_of_expression u site operand)
  sort_of_expression u site (Parenthesis place inner) = sort_of_expression u site inner

  -- operands of AND or OR
  pub all_bits : Uses → Site → Expressions → Bool
  all_bits u site NoExpressions = true
  all_bits u site (MoreExpressions first others) = is_bits (sort_of_expression u site first) && all_bits u site others

  -- operands of an operation behind a value, each with the operation
  pub folded_sort : Uses → Site → Op2 → Sort → Expressions → Option Sort
  folded_sort u site op s NoExpressions = Some s
  folded_sort u site op s (MoreExpressions first others) =
      option_and_then (λ t. folded_sort u site op t others) (option_and_then (two_give op s) (sort_of_expression u site first))

  -- terms
  pub terms_fit : Uses → Site → Terms → Bool
  terms_fit u site NoTerms = true
  terms_fit u site (MoreTerms place sign term others) = is_integer (sort_of_expression u site term) && terms_fit u site others

  -- an operation of a built-in function
  pub built_sort : Uses → Site → Operation → Expressions → Option Sort
  built_sort u site (operation.One op) (MoreExpressions operand NoExpressions) = option_and_then (one_gives op) (sort_of_expression u site operand)
  built_sort u site (operation.Two op) (MoreExpressions left (MoreExpressions right NoExpressions)) =
      option_and_then (λ s. option_and_then (two_give op s) (sort_of_expression u site right)) (sort_of_expression u site left)
  built_sort u site other arguments = None

  -- arguments for input parameters
  pub arguments_fit : Uses → Site → ℕ → List Naming → Expressions → Bool
  arguments_fit u site unit [] NoExpressions = true
  arguments_fit u site unit (name ∷ names) (MoreExpressions first others) =
      passed_fits (is_whole (parameter_named site.set unit name).shape) (whole_fits u site first) (is_taken (kind_of_first (parameter_named site.set unit name).shape.components) (sort_of_expression u site first))
      && arguments_fit u site unit names others
  arguments_fit u site unit names arguments = false

  -- an argument for a whole parameter
  pub whole_fits : Uses → Site → Expression → Bool
  whole_fits u site (Referred reference) = area_fits u site reference
  whole_fits u site other = false

  pub area_fits : Uses → Site → Reference → Bool
  area_fits u site (Refers place name path subscript) = data_fits path (λ arrayed. places_fit u site arrayed subscript) (name_meant (here_at site) name [])

  pub sort_of_reference : Uses → Site → Reference → Option Sort
  sort_of_reference u site (Refers place name path Unsubscripted) = sort_of_name u site name path
  sort_of_reference u site (Refers place name path subscript) =
      subscripted_sort u site path (λ arrayed. places_fit u site arrayed subscript) (λ arrayed s. parts_fit u site arrayed s subscript) (name_meant (here_at site) name [])

  -- what a subscript has for copies and arrays, of data with an array or without one
  pub places_fit : Uses → Site → Bool → Subscript → Bool
  places_fit u site arrayed Unsubscripted = true
  places_fit u site true (ByName place name) = is_integer (sort_of_name u site name.name [])
  places_fit u site false (ByName place name) = true
  places_fit u site arrayed (ByInteger place at number) = true
  places_fit u site arrayed (ByParts place copies arrays components) =
      indexes_fit u site copies && (if is_none arrays then (if arrayed then indexes_fit u site components else true) else indexes_fit u site arrays)

  -- subscripts of which each that chooses one place is an integer; those that choose several are constant
  pub indexes_fit : Uses → Site → Subscripts → Bool
  indexes_fit u site NoSubscripts = true
  indexes_fit u site (MoreSubscripts (OnePlace one) others) = position_fits u site one && indexes_fit u site others
  indexes_fit u site (MoreSubscripts first others) = indexes_fit u site others

  pub position_fits : Uses → Site → Position → Bool
  position_fits u site (FromBeginning one) = is_integer (sort_of_expression u site one)
  position_fits u site (FromEnd place terms) = terms_fit u site terms

  -- what a subscript has for components, of a value of this sort, of data with an array or without one
  pub parts_fit : Uses → Site → Bool → Sort → Subscript → Bool
  parts_fit u site arrayed s Unsubscripted = true
  parts_fit u site true s (ByName place name) = true
  parts_fit u site true s (ByInteger place at number) = true
  parts_fit u site false s (ByName place name) = has_places s && is_integer (sort_of_name u site name.name [])
  parts_fit u site false s (ByInteger place at number) = has_places s
  parts_fit u site arrayed s (ByParts place copies arrays components) = if arrayed && is_none arrays then true else components_fit u site s components

  pub components_fit : Uses → Site → Sort → Subscripts → Bool
  components_fit u site s NoSubscripts = true
  components_fit u site s (MoreSubscripts first others) = has_places s && part_fits u site first

  pub part_fits : Uses → Site → Sub → Bool
  part_fits u site (Every place) = true
  part_fits u site (OnePlace one) = position_fits u site one
  part_fits u site (Range first last) = position_fits u site first && position_fits u site last
  part_fits u site (Portion count first) = is_integer (sort_of_expression u site count) && position_fits u site first
