-- The code of an expression that has a sort fits.
use Rattle.std.specs.Prelude.{◌≡◌, ℕ, suc, ◌+◌, pos, length, Bool, true, false, ◌&&◌, ◌||◌, List, [], ◌∷◌, ◌++◌, Option, Some, None, if◌then◌else◌}
use Rattle.std.specs.Option.{option_and_then}
use Rattle.std.proofs.Common.{refl, sym, ap, subst, ◌∙◌}
use Rattle.std.proofs.lemmas.Bool.{and_parts}
use Rattle.std.proofs.lemmas.List.{length-append}
use Rattle.hal_grammar.specs.Leaves.{Naming, Sign, Plus, Minus}
use Rattle.hal_grammar.specs.Expressions.{Expression, Or, And, Compare, Cat, Sum, Product, Power, Not, Literal, Decimal, Referred, Called, Convert, Parenthesis, Expressions, NoExpressions, MoreExpressions, Terms, NoTerms, MoreTerms, Reference, Refers, Subscript, Unsubscripted, ByName, ByInteger, ByParts, Subscripts, NoSubscripts, MoreSubscripts, Sub, Every, Range, Portion, One as OnePlace, Position, FromBeginning, FromEnd}
use Rattle.hal_operations.specs.declared.operation.Op2.{Op2}
use Rattle.hal_operations.specs.declared.operation.Op1.TheVariants as op1
use Rattle.hal_operations.specs.declared.operation.Op2.TheVariants as op2
use Rattle.hal_constants.specs.declared.operation.Operation.{Operation}
use Rattle.hal_constants.specs.declared.operation.Operation.TheVariants as operation
use Rattle.hal_constants.specs.Naming.{operation_of}
use Rattle.hal_constants.specs.Constants.{is_none}
use Rattle.hal_values.specs.declared.value.Value.{Value}
use Rattle.hal_values.specs.declared.value.Value.TheVariants as value
use Rattle.hal_states.specs.Spots.{Spot, Held, further}
use Rattle.hal_meaning.specs.Calls.{Parameter, parameter_named}
use Rattle.hal_meaning.specs.Elements.{Shape, chosen, offset, kinds_of}
use Rattle.hal_meaning.specs.Expressions.{literal_value, exponent_of, is_condition, becomes_condition, makes_condition, operation_of_relation, operation_of_sign, operation_of_conversion, is_size, size_argument, inputs_at, sizes_named, copies_of, spoken}
use Rattle.hal_meaning.specs.Variables.{Meant, MeantData, MeantConstant, MeantEvent, MeantBlock, MeantBuiltin, MeantNothing, name_meant, spot_named, kind_of_first, is_arrayed, is_whole, Dimension, dimensions_of}
use Rattle.hal_code.specs.declared.choice.Choice.TheVariants as choice
use Rattle.hal_code.specs.declared.instr.Instr.{Instr}
use Rattle.hal_code.specs.declared.instr.Instr.TheVariants as instr
use Rattle.hal_code.specs.declared.operand.Places.TheVariants as places
use Rattle.hal_code.specs.declared.row.Target.{Target}
use Rattle.hal_code.specs.declared.row.Target.TheVariants as target
use Rattle.hal_code.specs.Effects.{Sorts, sorts_after, sort_of_target, has_places, places_taken}
use Rattle.hal_code.specs.Images as images
use Rattle.hal_code.specs.Sorts.{Sort, I, B, A, R, sort_of, one_gives, two_give, takes}
use Rattle.hal_agreement.specs.Codes.{Code}
use Rattle.hal_agreement.specs.Sites.{Site, here_at}
use Rattle.hal_agreement.specs.PlacedExpressions.{Has, One, pushes, two, places_of, EitherAt, ValueAt, NameAt, ElementAt, PlaceAt, ArrayAt, single_dimensions, single_places, DataAt, SubscriptedAt, SignAt, OperandAt, CalledAt, ExpressionAt, JoinedAt, FoldedAt, TermsAt, BuiltAt, ArgumentsAt, WholeArgumentAt, ReferenceAt, ChosenAt, IndexesAt, PositionAt, ComponentAt, PartsAt, PartAt}
use Rattle.hal_fitting.specs.Fitting.{Ground, suits, Fits}
use Rattle.hal_fitting.proofs.Joining.{nothing_fits, one_fits, modest_suits, both_fit, fits_to}
use Rattle.hal_fit_expr.specs.Uses.{Uses}
use Rattle.hal_fit_expr.specs.Sorted.{is_integer, is_bits, sort_of_value, sort_of_call, sort_of_meant, sort_of_name, chosen_sort, subscripted_sort, called_sort, is_taken, passed_fits, data_fits, sort_of_expression, all_bits, folded_sort, terms_fit, built_sort, arguments_fit, whole_fits, sort_of_reference, places_fit, indexes_fit, position_fits, parts_fit, components_fit, part_fits}
use Rattle.hal_fit_expr.specs.Serving.{HavePlaces, Serves}
use Rattle.hal_fit_expr.proofs.Given.{then_is, given_is, given_then, integer_is, bits_is, one_value, integers, one_below, some_below}
use Rattle.hal_fit_expr.proofs.Leaves.{value_fits, one_op_fits, two_op_fits, pick_fits, fetch_fits, element_fits}
use Rattle.hal_fit_expr.proofs.Calls.{may_be_called, Stores, call_fits, meant_fits, name_fits, Passed, passed_by}

sign_gives : (sign : Sign) → two_give (operation_of_sign sign) I I ≡ Some I
sign_gives Plus = refl
sign_gives Minus = refl

-- data without an array have no dimensions for subscripts without a mark
no_places : (components arrays : Subscripts) → length (single_places true components arrays []) ≡ 0
no_places NoSubscripts arrays = refl
no_places (MoreSubscripts first others) arrays = refl

-- so many integers do the places leave that a subscript of a component chooses
abbrev pub places_left : Sub → ℕ
places_left (OnePlace one) = 1
places_left other = 2

pub places_there : (one : Sub) (stack : Sorts) → places_taken (choice.Known (places_of one)) (integers (places_left one) stack) ≡ Some stack
places_there (Every place) stack = refl
places_there (OnePlace one) stack = refl
places_there (Range first last) stack = refl
places_there (Portion count first) stack = refl

module _ (code : Code) (g : Ground) (site : Site) (u : Uses) (serves : Serves code g site.set site.places u) where
  -- an instruction that leaves an integer on this stack
  record Leaves (i : Instr) (stack : Sorts) : Type 0 where
    suited : suits code.image g i ≡ true
    effect : sorts_after code.image g.block i stack ≡ Some (I ∷ stack)

  number_leaves : (n : ℕ) (stack : Sorts) → Leaves (instr.Int (pos n)) stack
  number_leaves n stack = record { suited = modest_suits code.image g (instr.Int (pos n)) refl refl; effect = refl }

  first_length : (s : Sort) (stack : Sorts) → has_places s ≡ true → Leaves (instr.Len 0) (s ∷ stack)
  first_length s stack has = record { suited = modest_suits code.image g (instr.Len 0) refl refl; effect = ap (λ b. if b then Some (I ∷ s ∷ stack) else None) has }

  second_length : (s t : Sort) (stack : Sorts) → has_places s ≡ true → Leaves (instr.Len 1) (t ∷ s ∷ stack)
  second_length s t stack has = record { suited = modest_suits code.image g (instr.Len 1) refl refl; effect = ap (λ b. if b then Some (I ∷ t ∷ s ∷ stack) else None) has }

  leaves_fits : (i : Instr) (from : ℕ) (stack : Sorts) → Leaves i stack → Has code from i → Fits code.image g from stack (suc from) (I ∷ stack)
  leaves_fits i from stack leaves has = one_fits code.image g i from stack (I ∷ stack) has leaves.suited leaves.effect

  sign_fits : (opening : Option Sign) (from to : ℕ) (stack : Sorts) → SignAt code opening from to → Fits code.image g from (I ∷ stack) to (I ∷ stack)
  sign_fits (Some Minus) from to stack at = one_op_fits code g op1.Minus I I from to stack refl at
  sign_fits (Some Plus) from to stack at = nothing_fits code.image g from to (I ∷ stack) at
  sign_fits None from to stack at = nothing_fits code.image g from to (I ∷ stack) at

  operand_fits : (becomes : Bool) (from to : ℕ) (stack : Sorts) → OperandAt code becomes from to → Fits code.image g from (B ∷ stack) to (B ∷ stack)
  operand_fits true from to stack at =
      both_fit code.image g (value_fits code g (value.Bits 1 0) B from (suc from) (B ∷ stack) refl (at.0, refl)) (two_op_fits code g op2.NotEqual B B B (suc from) to stack refl at.1)
  operand_fits false from to stack at = nothing_fits code.image g from to (B ∷ stack) at

  -- the one or the other
  either_fits : (P Q : ℕ → ℕ → Type 0) (b : Bool) (from to : ℕ) (before after : Sorts) → EitherAt b P Q from to → (b ≡ true → P from to → Fits code.image g from before to after)
      → (b ≡ false → Q from to → Fits code.image g from before to after) → Fits code.image g from before to after
  either_fits P Q true from to before after at first second = first refl at
  either_fits P Q false from to before after at first second = second refl at

  -- the address that a subscript without a mark chooses
  place_fits : (P : ℕ → ℕ → Type 0) (sizes : List ℕ) (given : Target) (spot : List Held → Spot) (from to : ℕ) (stack : Sorts) → PlaceAt code P given spot sizes from to
      → (is_arrayed sizes ≡ true → (middle : ℕ) → P from middle → Fits code.image g from stack middle (I ∷ stack)) → Fits code.image g from stack to (sort_of_target given ∷ stack)
  place_fits P [] given spot from to stack at index = element_fits code g serves.own [] given spot from to stack at.0 at.1
  place_fits P (size ∷ sizes) given spot from to stack at index =
      both_fit code.image g (index refl at.0 at.1)
      (subst (λ l. Fits code.image g at.0 (integers (length (dimensions_of (size ∷ l))) stack) to (sort_of_target given ∷ stack)) at.2
      (element_fits code g serves.own (dimensions_of (size ∷ sizes)) given spot at.0 to stack at.3 at.4))

  -- the subscripts of an array
  array_fits : (b : Bool) (sizes : List ℕ) (components arrays : Subscripts) (passed from to : ℕ) (stack : Sorts)
      → (if b then (if is_arrayed sizes then indexes_fit u site components else true) else indexes_fit u site arrays) ≡ true
      → EitherAt b (λ begin end. ArrayAt (λ first behind. IndexesAt code site (spoken components (dimensions_of sizes)) components passed first behind) sizes passed begin end)
      (λ begin end. IndexesAt code site (dimensions_of sizes) arrays passed begin end) from to
      → ((all : List Dimension) → indexes_fit u site components ≡ true → IndexesAt code site all components passed from to → Fits code.image g from stack to (integers (length (single_dimensions all components)) stack))
      → ((all : List Dimension) → indexes_fit u site arrays ≡ true → IndexesAt code site all arrays passed from to → Fits code.image g from stack to (integers (length (single_dimensions all arrays)) stack))
      → Fits code.image g from stack to (integers (length (single_places b components arrays (dimensions_of sizes))) stack)
  array_fits true [] components arrays passed from to stack fits at of_components of_arrays =
      subst (λ m. Fits code.image g from stack to (integers m stack)) (sym (no_places components arrays)) (nothing_fits code.image g from to stack at.1)
  array_fits true (size ∷ sizes) components arrays passed from to stack fits at of_components of_arrays = of_components (spoken components (dimensions_of (size ∷ sizes))) fits at
  array_fits false sizes components arrays passed from to stack fits at of_components of_arrays = of_arrays (dimensions_of sizes) fits at

  -- the address that subscripts in three parts choose
  parts_chosen : (all others : List Dimension) (given : Target) (spot : List Held → Spot) (from middle last to : ℕ) (stack : Sorts) → Fits code.image g from stack middle (integers (length all) stack)
      → Fits code.image g middle (integers (length all) stack) last (integers (length others) (integers (length all) stack)) → ElementAt code (all ++ others) given spot last → suc last ≡ to
      → Fits code.image g from stack to (sort_of_target given ∷ stack)
  parts_chosen all others given spot from middle last to stack first second there next =
      both_fit code.image g (both_fit code.image g first second)
      (subst (λ l. Fits code.image g last l to (sort_of_target given ∷ stack))
      (sym (some_below (length all) (length others) (length (all ++ others)) stack (length-append all others)))
      (element_fits code g serves.own (all ++ others) given spot last to stack there next))

  -- what a name means, with a subscript
  other_fits : (C : Bool → ℕ → ℕ → Type 0) (path : List Naming) (m : Meant) (s : Sort) (of_parts : Bool → Sort → Bool) (from to : ℕ) (stack : Sorts)
      → option_and_then (λ t. chosen_sort (of_parts false t) t) (sort_of_meant u site path m) ≡ Some s → (middle : ℕ) × ValueAt code site path [] m from middle × C false middle to
      → ((arrayed : Bool) (t : Sort) (middle : ℕ) → of_parts arrayed t ≡ true → C arrayed middle to → Fits code.image g middle (t ∷ stack) to (t ∷ stack)) → Fits code.image g from stack to (s ∷ stack)
  other_fits C path m s of_parts from to stack sorted at component =
      let one = then_is (λ t. chosen_sort (of_parts false t) t) (sort_of_meant u site path m) s sorted in
      let fits = given_is (of_parts false one.0) one.0 s one.2 in
      subst (λ t. Fits code.image g from stack to (t ∷ stack)) fits.1
      (both_fit code.image g (meant_fits code g site u serves path m one.0 from at.0 stack one.1 at.1) (component false one.0 at.0 fits.0 at.2))

  subscripted_fits : (P : Shape → ℕ → ℕ → Type 0) (C : Bool → ℕ → ℕ → Type 0) (path : List Naming) (m : Meant) (s : Sort) (of_places : Bool → Bool) (of_parts : Bool → Sort → Bool) (from to : ℕ) (stack : Sorts)
      → subscripted_sort u site path of_places of_parts m ≡ Some s → SubscriptedAt code site path [] P C m from to
      → ((shape : Shape) (middle : ℕ) → of_places (is_arrayed (sizes_named path shape)) ≡ true → P shape from middle → Fits code.image g from stack middle (A (kind_of_first (chosen path shape.components)) ∷ stack))
      → ((arrayed : Bool) (t : Sort) (middle : ℕ) → of_parts arrayed t ≡ true → C arrayed middle to → Fits code.image g middle (t ∷ stack) to (t ∷ stack)) → Fits code.image g from stack to (s ∷ stack)
  subscripted_fits P C path (MeantData spot shape) s of_places of_parts from to stack sorted at address component =
      let known = given_is (of_places (is_arrayed (sizes_named path shape)) && of_parts (is_arrayed (sizes_named path shape)) (sort_of (kind_of_first (chosen path shape.components)))) (sort_of (kind_of_first (chosen path shape.components))) s sorted in
      let both = and_parts (of_places (is_arrayed (sizes_named path shape))) (of_parts (is_arrayed (sizes_named path shape)) (sort_of (kind_of_first (chosen path shape.components)))) known.0 in
      subst (λ t. Fits code.image g from stack to (t ∷ stack)) known.1
      (both_fit code.image g (address shape at.0 both.0 at.1)
      (both_fit code.image g (fetch_fits code g (kind_of_first (chosen path shape.components)) at.0 (suc at.0) stack (at.2, refl))
      (component (is_arrayed (sizes_named path shape)) (sort_of (kind_of_first (chosen path shape.components))) (suc at.0) both.1 at.3)))
  subscripted_fits P C path (MeantConstant v) s of_places of_parts from to stack sorted at address component = other_fits C path (MeantConstant v) s of_parts from to stack sorted at component
  subscripted_fits P C path (MeantEvent e) s of_places of_parts from to stack sorted at address component = other_fits C path (MeantEvent e) s of_parts from to stack sorted at component
  subscripted_fits P C path (MeantBlock unit) s of_places of_parts from to stack sorted at address component = other_fits C path (MeantBlock unit) s of_parts from to stack sorted at component
  subscripted_fits P C path (MeantBuiltin b) s of_places of_parts from to stack sorted at address component = other_fits C path (MeantBuiltin b) s of_parts from to stack sorted at component
  subscripted_fits P C path MeantNothing s of_places of_parts from to stack sorted at address component = other_fits C path MeantNothing s of_parts from to stack sorted at component

  -- data that are passed as a whole
  data_chosen : (P : Shape → ℕ → ℕ → Type 0) (path : List Naming) (m : Meant) (shape : ℕ) (of_places : Bool → Bool) (from to : ℕ) (stack : Sorts) → data_fits path of_places m ≡ true → DataAt P m from to
      → ((form : Shape) → of_places (is_arrayed (sizes_named path form)) ≡ true → P form from to → Fits code.image g from stack to (R shape ∷ stack)) → Fits code.image g from stack to (R shape ∷ stack)
  data_chosen P path (MeantData spot form) shape of_places from to stack fits at address = address form fits at
  data_chosen P path (MeantConstant v) shape of_places from to stack fits at address = absurd (at)
  data_chosen P path (MeantEvent e) shape of_places from to stack fits at address = absurd (at)
  data_chosen P path (MeantBlock unit) shape of_places from to stack fits at address = absurd (at)
  data_chosen P path (MeantBuiltin b) shape of_places from to stack fits at address = absurd (at)
  data_chosen P path MeantNothing shape of_places from to stack fits at address = absurd (at)

  -- arguments leave what the parameters of these names take
  pub record Arguments (unit : ℕ) (names : List Naming) (from to : ℕ) (stack : Sorts) : Type 0 where
    pub pushed : Sorts
    pub fits : Fits code.image g from stack to pushed
    pub stores : Stores code g site unit names pushed stack

  one_more : (unit : ℕ) (name : Naming) (names : List Naming) (from middle to : ℕ) (stack : Sorts) (first : Passed code g site u serves (is_whole (parameter_named site.set unit name).shape) (parameter_named site.set unit name) from middle stack)
      → Arguments unit names middle to (first.sort ∷ stack) → Arguments unit (name ∷ names) from to stack
  one_more unit name names from middle to stack first rest = record {
    pushed = rest.pushed;
    fits = both_fit code.image g first.fits rest.fits;
    stores = λ begin end at. both_fit code.image g (rest.stores begin at.0 at.1) (first.stores at.0 end at.2);
  }

  -- a name with a list
  called_fits : (Folded : ℕ → ℕ → Type 0) (Built : Operation → ℕ → ℕ → Type 0) (Passes : ℕ → ℕ → ℕ → Type 0) (m : Meant) (size : Value) (s : Sort) (folded : Sort → Option Sort) (built : Operation → Option Sort) (arguments : ℕ → Bool)
      (from to : ℕ) (stack : Sorts) → called_sort u site (sort_of_value size) folded built arguments m ≡ Some s → CalledAt code site [] size Folded Built Passes m from to
      → ((t : Sort) (middle : ℕ) → folded t ≡ Some s → Folded middle to → Fits code.image g middle (t ∷ stack) to (s ∷ stack))
      → ((op : Operation) → built op ≡ Some s → Built op from to → Fits code.image g from stack to (s ∷ stack))
      → ((unit middle : ℕ) → arguments unit ≡ true → u.calls unit ≡ true → Passes unit from middle → Arguments unit (inputs_at site.set unit) from middle stack) → Fits code.image g from stack to (s ∷ stack)
  called_fits Folded Built Passes (MeantBlock unit) size s folded built arguments from to stack sorted at of_folded of_built of_arguments =
      let given = given_then (arguments unit) (sort_of_call u site unit) s sorted in
      let passed = of_arguments unit at.0 given.0 (may_be_called u site unit s given.1) at.1 in
      both_fit code.image g passed.fits (call_fits code g site u serves unit s at.0 to passed.pushed stack given.1 at.2 passed.stores)
  called_fits Folded Built Passes (MeantBuiltin b) size s folded built arguments from to stack sorted at of_folded of_built of_arguments = by (is_size b) sorted at
    where
      by : (sizes : Bool) → (if sizes then sort_of_value size else built (operation_of b)) ≡ Some s → EitherAt sizes (λ begin end. One code begin (pushes size) end) (λ begin end. Built (operation_of b) begin end) from to → Fits code.image g from stack to (s ∷ stack)
      by true is there = value_fits code g size s from to stack is there
      by false is there = of_built (operation_of b) is there
  called_fits Folded Built Passes (MeantData spot shape) size s folded built arguments from to stack sorted at of_folded of_built of_arguments =
      let one = then_is folded (sort_of_meant u site [] (MeantData spot shape)) s sorted in
      both_fit code.image g (meant_fits code g site u serves [] (MeantData spot shape) one.0 from at.0 stack one.1 at.1) (of_folded one.0 at.0 one.2 at.2)
  called_fits Folded Built Passes (MeantConstant v) size s folded built arguments from to stack sorted at of_folded of_built of_arguments =
      let one = then_is folded (sort_of_meant u site [] (MeantConstant v)) s sorted in
      both_fit code.image g (meant_fits code g site u serves [] (MeantConstant v) one.0 from at.0 stack one.1 at.1) (of_folded one.0 at.0 one.2 at.2)
  called_fits Folded Built Passes (MeantEvent e) size s folded built arguments from to stack sorted at of_folded of_built of_arguments = absurd (at)
  called_fits Folded Built Passes MeantNothing size s folded built arguments from to stack sorted at of_folded of_built of_arguments = absurd (at)

  -- two operands and their operation
  pair_fits : (op : Op2) (left right : Option Sort) (r : Sort) (from middle last to : ℕ) (stack : Sorts) → option_and_then (λ s. option_and_then (two_give op s) right) left ≡ Some r
      → ((s : Sort) → left ≡ Some s → Fits code.image g from stack middle (s ∷ stack)) → ((s t : Sort) → right ≡ Some t → Fits code.image g middle (s ∷ stack) last (t ∷ s ∷ stack)) → One code last (two op) to
      → Fits code.image g from stack to (r ∷ stack)
  pair_fits op left right r from middle last to stack sorted first second at =
      let early = then_is (λ s. option_and_then (two_give op s) right) left r sorted in
      let late = then_is (two_give op early.0) right r early.2 in
      both_fit code.image g (first early.0 early.1) (both_fit code.image g (second early.0 late.0 late.1) (two_op_fits code g op early.0 late.0 r last to stack late.2 at))

  -- an argument for a parameter of one element
  plain_by : (p : Parameter) (from to : ℕ) (stack : Sorts) (o : Option Sort) → is_taken (kind_of_first p.shape.components) o ≡ true → ((s : Sort) → o ≡ Some s → Fits code.image g from stack to (s ∷ stack))
      → (s : Sort) × (takes (kind_of_first p.shape.components) s ≡ true) × Fits code.image g from stack to (s ∷ stack)
  plain_by p from to stack None fits each = absurd (cc)
  plain_by p from to stack (Some s) fits each = (s, fits, each s refl)

  mutual
    pub expression_fits : (tree : Expression) (s : Sort) (from to : ℕ) (stack : Sorts) → sort_of_expression u site tree ≡ Some s → ExpressionAt code site tree from to → Fits code.image g from stack to (s ∷ stack)
    expression_fits (Or place first others) s from to stack sorted at =
        let given = given_is (is_bits (sort_of_expression u site first) && all_bits u site others) B s sorted in
        let both = and_parts (is_bits (sort_of_expression u site first)) (all_bits u site others) given.0 in
        subst (λ t. Fits code.image g from stack to (t ∷ stack)) given.1
        (both_fit code.image g (expression_fits first B from at.0 stack (bits_is (sort_of_expression u site first) both.0) at.1)
        (joined_fits others op2.Or (is_condition first) at.0 to stack refl both.1 at.2))
    expression_fits (And place first others) s from to stack sorted at =
        let given = given_is (is_bits (sort_of_expression u site first) && all_bits u site others) B s sorted in
        let both = and_parts (is_bits (sort_of_expression u site first)) (all_bits u site others) given.0 in
        subst (λ t. Fits code.image g from stack to (t ∷ stack)) given.1
        (both_fit code.image g (expression_fits first B from at.0 stack (bits_is (sort_of_expression u site first) both.0) at.1)
        (joined_fits others op2.And (is_condition first) at.0 to stack refl both.1 at.2))
    expression_fits (Compare place left relation right) s from to stack sorted at =
        pair_fits (operation_of_relation relation) (sort_of_expression u site left) (sort_of_expression u site right) s from at.0 at.1 to stack sorted (λ t is. expression_fits left t from at.0 stack is at.2)
        (λ t r is. expression_fits right r at.0 at.1 (t ∷ stack) is at.3) at.4
    expression_fits (Cat place first others) s from to stack sorted at =
        let one = then_is (λ t. folded_sort u site op2.Cat t others) (sort_of_expression u site first) s sorted in
        both_fit code.image g (expression_fits first one.0 from at.0 stack one.1 at.1) (folded_fits others op2.Cat one.0 s at.0 to stack one.2 at.2)
    expression_fits (Sum place opening first others) s from to stack sorted at =
        let given = given_is (is_integer (sort_of_expression u site first) && terms_fit u site others) I s sorted in
        let both = and_parts (is_integer (sort_of_expression u site first)) (terms_fit u site others) given.0 in
        subst (λ t. Fits code.image g from stack to (t ∷ stack)) given.1
        (both_fit code.image g (expression_fits first I from at.0 stack (integer_is (sort_of_expression u site first) both.0) at.2)
        (both_fit code.image g (sign_fits opening at.0 at.1 stack at.3) (terms_sum others at.1 to stack both.1 at.4)))
    expression_fits (Product place first others) s from to stack sorted at =
        let one = then_is (λ t. folded_sort u site op2.Product t others) (sort_of_expression u site first) s sorted in
        both_fit code.image g (expression_fits first one.0 from at.0 stack one.1 at.1) (folded_fits others op2.Product one.0 s at.0 to stack one.2 at.2)
    expression_fits (Power place base exponent) s from to stack sorted at =
        pair_fits op2.Power (sort_of_expression u site base) (sort_of_value (exponent_of exponent)) s from at.0 (suc at.0) to stack sorted (λ t is. expression_fits base t from at.0 stack is at.1)
        (λ t r is. value_fits code g (exponent_of exponent) r at.0 (suc at.0) (t ∷ stack) is (at.2, refl)) at.3
    expression_fits (Not place operand) s from to stack sorted at =
        let one = then_is (one_gives op1.Not) (sort_of_expression u site operand) s sorted in
        both_fit code.image g (expression_fits operand one.0 from at.0 stack one.1 at.1) (one_op_fits code g op1.Not one.0 s at.0 to stack one.2 at.2)
    expression_fits (Literal place literal) s from to stack sorted at = value_fits code g (literal_value literal) s from to stack sorted at
    expression_fits (Decimal place number) s from to stack sorted at = absurd (at)
    expression_fits (Referred reference) s from to stack sorted at = reference_fits reference s from to stack sorted at
    expression_fits (Called place name arguments) s from to stack sorted at =
        called_fits (λ begin end. FoldedAt code site op2.Product arguments begin end) (λ op begin end. BuiltAt code site op arguments begin end)
        (λ unit begin end. ArgumentsAt code site unit (inputs_at site.set unit) arguments begin end) (name_meant (here_at site) name []) (size_argument (here_at site) arguments []) s (λ t. folded_sort u site op2.Product t arguments) (λ op. built_sort u site op arguments)
        (λ unit. arguments_fit u site unit (inputs_at site.set unit) arguments) from to stack sorted (at []) (λ t middle is there. folded_fits arguments op2.Product t s middle to stack is there)
        (λ op is there. built_fits arguments op s from to stack is there) (λ unit middle fits calls there. arguments_there arguments unit (inputs_at site.set unit) from middle stack fits (serves.wholes unit calls) there)
    expression_fits (Convert place conversion operand) s from to stack sorted at =
        let one = then_is (one_gives (operation_of_conversion conversion)) (sort_of_expression u site operand) s sorted in
        both_fit code.image g (expression_fits operand one.0 from at.0 stack one.1 at.1) (one_op_fits code g (operation_of_conversion conversion) one.0 s at.0 to stack one.2 at.2)
    expression_fits (Parenthesis place inner) s from to stack sorted at = expression_fits inner s from to stack sorted at

    -- operands of AND or OR behind bits
    joined_fits : (trees : Expressions) (op : Op2) (condition : Bool) (from to : ℕ) (stack : Sorts) → two_give op B B ≡ Some B → all_bits u site trees ≡ true → JoinedAt code site op condition trees from to
        → Fits code.image g from (B ∷ stack) to (B ∷ stack)
    joined_fits NoExpressions op condition from to stack gives fits at = nothing_fits code.image g from to (B ∷ stack) at
    joined_fits (MoreExpressions first others) op condition from to stack gives fits at =
        let both = and_parts (is_bits (sort_of_expression u site first)) (all_bits u site others) fits in
        both_fit code.image g (operand_fits (makes_condition condition first) from at.0 stack at.3)
        (both_fit code.image g (expression_fits first B at.0 at.1 (B ∷ stack) (bits_is (sort_of_expression u site first) both.0) at.4)
        (both_fit code.image g (operand_fits (becomes_condition condition first) at.1 at.2 (B ∷ stack) at.5)
        (both_fit code.image g (two_op_fits code g op B B B at.2 (suc at.2) stack gives (at.6, refl)) (joined_fits others op (condition || is_condition first) (suc at.2) to stack gives both.1 at.7))))

    -- operands of an operation behind a value
    folded_fits : (trees : Expressions) (op : Op2) (s r : Sort) (from to : ℕ) (stack : Sorts) → folded_sort u site op s trees ≡ Some r → FoldedAt code site op trees from to → Fits code.image g from (s ∷ stack) to (r ∷ stack)
    folded_fits NoExpressions op s r from to stack sorted at =
        subst (λ t. Fits code.image g from (s ∷ stack) to (t ∷ stack)) (one_value (Some s) s r refl sorted) (nothing_fits code.image g from to (s ∷ stack) at)
    folded_fits (MoreExpressions first others) op s r from to stack sorted at =
        let given = then_is (λ t. folded_sort u site op t others) (option_and_then (two_give op s) (sort_of_expression u site first)) r sorted in
        let operand = then_is (two_give op s) (sort_of_expression u site first) given.0 given.1 in
        both_fit code.image g (expression_fits first operand.0 from at.0 (s ∷ stack) operand.1 at.1)
        (both_fit code.image g (two_op_fits code g op s operand.0 given.0 at.0 (suc at.0) stack operand.2 (at.2, refl)) (folded_fits others op given.0 r (suc at.0) to stack given.2 at.3))

    -- terms behind an integer
    terms_sum : (terms : Terms) (from to : ℕ) (stack : Sorts) → terms_fit u site terms ≡ true → TermsAt code site terms from to → Fits code.image g from (I ∷ stack) to (I ∷ stack)
    terms_sum NoTerms from to stack fits at = nothing_fits code.image g from to (I ∷ stack) at
    terms_sum (MoreTerms place sign term others) from to stack fits at =
        let both = and_parts (is_integer (sort_of_expression u site term)) (terms_fit u site others) fits in
        both_fit code.image g (expression_fits term I from at.0 (I ∷ stack) (integer_is (sort_of_expression u site term) both.0) at.1)
        (both_fit code.image g (two_op_fits code g (operation_of_sign sign) I I I at.0 (suc at.0) stack (sign_gives sign) (at.2, refl)) (terms_sum others (suc at.0) to stack both.1 at.3))

    -- a built-in function
    built_fits : (trees : Expressions) (op : Operation) (s : Sort) (from to : ℕ) (stack : Sorts) → built_sort u site op trees ≡ Some s → BuiltAt code site op trees from to → Fits code.image g from stack to (s ∷ stack)
    built_fits (MoreExpressions operand NoExpressions) (operation.One op) s from to stack sorted at =
        let one = then_is (one_gives op) (sort_of_expression u site operand) s sorted in
        both_fit code.image g (expression_fits operand one.0 from at.0 stack one.1 at.1) (one_op_fits code g op one.0 s at.0 to stack one.2 at.2)
    built_fits (MoreExpressions left (MoreExpressions right NoExpressions)) (operation.Two op) s from to stack sorted at =
        pair_fits op (sort_of_expression u site left) (sort_of_expression u site right) s from at.0 at.1 to stack sorted (λ t is. expression_fits left t from at.0 stack is at.2)
        (λ t r is. expression_fits right r at.0 at.1 (t ∷ stack) is at.3) at.4
    built_fits NoExpressions (operation.One op) s from to stack sorted at = absurd (cc)
    built_fits (MoreExpressions operand (MoreExpressions next others)) (operation.One op) s from to stack sorted at = absurd (cc)
    built_fits NoExpressions (operation.Two op) s from to stack sorted at = absurd (cc)
    built_fits (MoreExpressions left NoExpressions) (operation.Two op) s from to stack sorted at = absurd (cc)
    built_fits (MoreExpressions left (MoreExpressions right (MoreExpressions next others))) (operation.Two op) s from to stack sorted at = absurd (cc)
    built_fits trees operation.Size s from to stack sorted at = absurd (cc)
    built_fits trees operation.Nothing s from to stack sorted at = absurd (cc)

    -- arguments for input parameters
    pub arguments_there : (trees : Expressions) (unit : ℕ) (names : List Naming) (from to : ℕ) (stack : Sorts) → arguments_fit u site unit names trees ≡ true → HavePlaces code.image g site.set site.places unit names
        → ArgumentsAt code site unit names trees from to → Arguments unit names from to stack
    arguments_there NoExpressions unit [] from to stack fits have at =
        record { pushed = stack; fits = nothing_fits code.image g from to stack at; stores = λ begin end there. nothing_fits code.image g begin end stack there }
    arguments_there (MoreExpressions first others) unit (name ∷ names) from to stack fits have at =
        let both = and_parts
        (passed_fits (is_whole (parameter_named site.set unit name).shape) (whole_fits u site first) (is_taken (kind_of_first (parameter_named site.set unit name).shape.components) (sort_of_expression u site first)))
        (arguments_fit u site unit names others) fits in
        let one = passed_by code g site u serves (λ begin end. WholeArgumentAt code site (kinds_of (parameter_named site.set unit name).shape) first begin end) (λ begin end. ExpressionAt code site first begin end)
        (is_whole (parameter_named site.set unit name).shape) (whole_fits u site first) (is_taken (kind_of_first (parameter_named site.set unit name).shape.components) (sort_of_expression u site first))
        (parameter_named site.set unit name) from at.0 stack both.0 at.1 have.0 (λ whole there. whole_there first (parameter_named site.set unit name) from at.0 stack whole there)
        (λ plain there. plain_by (parameter_named site.set unit name) from at.0 stack (sort_of_expression u site first) plain (λ s sorted. expression_fits first s from at.0 stack sorted there)) in
        one_more unit name names from at.0 to stack one (arguments_there others unit names at.0 to (one.sort ∷ stack) both.1 have.1 at.2)
    arguments_there NoExpressions unit (name ∷ names) from to stack fits have at = absurd (cc)
    arguments_there (MoreExpressions first others) unit [] from to stack fits have at = absurd (cc)

    -- an argument for a whole parameter
    whole_there : (tree : Expression) (p : Parameter) (from to : ℕ) (stack : Sorts) → whole_fits u site tree ≡ true → WholeArgumentAt code site (kinds_of p.shape) tree from to
        → (shape : ℕ) × (images.kinds_of code.image shape ≡ kinds_of p.shape) × Fits code.image g from stack to (R shape ∷ stack)
    whole_there (Referred (Refers place name path subscript)) p from to stack fits at = (
      at.0,
      at.1,
      data_chosen (λ form begin end. ChosenAt code site (target.Shape at.0) path subscript (spot_named (here_at site) name) form begin end) path (name_meant (here_at site) name []) at.0 (λ arrayed. places_fit u site arrayed subscript) from to stack fits (at.2 [])
          (λ form chosen_right there. chosen_fits subscript (target.Shape at.0) path (spot_named (here_at site) name) form from to stack chosen_right there),
    )
    whole_there (Or there first others) p from to stack fits at = absurd (at)
    whole_there (And there first others) p from to stack fits at = absurd (at)
    whole_there (Compare there left relation right) p from to stack fits at = absurd (at)
    whole_there (Cat there first others) p from to stack fits at = absurd (at)
    whole_there (Sum there opening first others) p from to stack fits at = absurd (at)
    whole_there (Product there first others) p from to stack fits at = absurd (at)
    whole_there (Power there base exponent) p from to stack fits at = absurd (at)
    whole_there (Not there operand) p from to stack fits at = absurd (at)
    whole_there (Literal there literal) p from to stack fits at = absurd (at)
    whole_there (Decimal there number) p from to stack fits at = absurd (at)
    whole_there (Called there name arguments) p from to stack fits at = absurd (at)
    whole_there (Convert there conversion operand) p from to stack fits at = absurd (at)
    whole_there (Parenthesis there inner) p from to stack fits at = absurd (at)

    -- a reference
    reference_fits : (reference : Reference) (s : Sort) (from to : ℕ) (stack : Sorts) → sort_of_reference u site reference ≡ Some s → ReferenceAt code site reference from to → Fits code.image g from stack to (s ∷ stack)
    reference_fits (Refers place name path Unsubscripted) s from to stack sorted at = name_fits code g site u serves name path s from to stack sorted at
    reference_fits (Refers place name path (ByName there one)) s from to stack sorted at =
        subscripted_fits (λ shape begin end. ChosenAt code site (target.Cell (kind_of_first (chosen path shape.components))) path (ByName there one) (spot_named (here_at site) name) shape begin end)
        (λ arrayed begin end. ComponentAt code site arrayed (ByName there one) begin end) path (name_meant (here_at site) name []) s (λ arrayed. places_fit u site arrayed (ByName there one)) (λ arrayed t. parts_fit u site arrayed t (ByName there one)) from to stack sorted (at [])
        (λ shape middle fits found. chosen_fits (ByName there one) (target.Cell (kind_of_first (chosen path shape.components))) path (spot_named (here_at site) name) shape from middle stack fits found)
        (λ arrayed t middle fits found. component_there (ByName there one) arrayed t middle to stack fits found)
    reference_fits (Refers place name path (ByInteger there mark number)) s from to stack sorted at =
        subscripted_fits (λ shape begin end. ChosenAt code site (target.Cell (kind_of_first (chosen path shape.components))) path (ByInteger there mark number) (spot_named (here_at site) name) shape begin end)
        (λ arrayed begin end. ComponentAt code site arrayed (ByInteger there mark number) begin end) path (name_meant (here_at site) name []) s (λ arrayed. places_fit u site arrayed (ByInteger there mark number)) (λ arrayed t. parts_fit u site arrayed t (ByInteger there mark number)) from to stack sorted (at [])
        (λ shape middle fits found. chosen_fits (ByInteger there mark number) (target.Cell (kind_of_first (chosen path shape.components))) path (spot_named (here_at site) name) shape from middle stack fits found)
        (λ arrayed t middle fits found. component_there (ByInteger there mark number) arrayed t middle to stack fits found)
    reference_fits (Refers place name path (ByParts there copies arrays components)) s from to stack sorted at =
        subscripted_fits (λ shape begin end. ChosenAt code site (target.Cell (kind_of_first (chosen path shape.components))) path (ByParts there copies arrays components) (spot_named (here_at site) name) shape begin end)
        (λ arrayed begin end. ComponentAt code site arrayed (ByParts there copies arrays components) begin end) path (name_meant (here_at site) name []) s (λ arrayed. places_fit u site arrayed (ByParts there copies arrays components)) (λ arrayed t. parts_fit u site arrayed t (ByParts there copies arrays components)) from to stack sorted (at [])
        (λ shape middle fits found. chosen_fits (ByParts there copies arrays components) (target.Cell (kind_of_first (chosen path shape.components))) path (spot_named (here_at site) name) shape from middle stack fits found)
        (λ arrayed t middle fits found. component_there (ByParts there copies arrays components) arrayed t middle to stack fits found)

    -- the address that a subscript chooses
    pub chosen_fits : (subscript : Subscript) (given : Target) (path : List Naming) (spot : List Held → Spot) (shape : Shape) (from to : ℕ) (stack : Sorts) → places_fit u site (is_arrayed (sizes_named path shape)) subscript ≡ true
        → ChosenAt code site given path subscript spot shape from to → Fits code.image g from stack to (sort_of_target given ∷ stack)
    chosen_fits Unsubscripted given path spot shape from to stack fits at = element_fits code g serves.own [] given (λ held. further (offset path shape.components) (spot held)) from to stack at.0 at.1
    chosen_fits (ByName there one) given path spot shape from to stack fits at =
        place_fits (λ begin end. NameAt code site one.name [] begin end) (sizes_named path shape) given (λ held. further (offset path shape.components) (spot held)) from to stack at
        (λ arrayed middle found. name_fits code g site u serves one.name [] I from middle stack
        (integer_is (sort_of_name u site one.name []) (sym (ap (λ b. places_fit u site b (ByName there one)) arrayed) ∙ fits)) found)
    chosen_fits (ByInteger there mark number) given path spot shape from to stack fits at =
        place_fits (λ begin end. One code begin (instr.Int (pos number)) end) (sizes_named path shape) given (λ held. further (offset path shape.components) (spot held)) from to stack at
        (λ arrayed middle found. value_fits code g (value.Int (pos number)) I from middle stack refl found)
    chosen_fits (ByParts there copies arrays components) given path spot shape from to stack fits at =
        let both = and_parts (indexes_fit u site copies) (if is_none arrays then (if is_arrayed (sizes_named path shape) then indexes_fit u site components else true) else indexes_fit u site arrays) fits in
        parts_chosen (single_dimensions (spoken copies (copies_of shape)) copies) (single_places (is_none arrays) components arrays (dimensions_of (sizes_named path shape))) given
        (λ held. further (at.2 + at.3) (further (offset path shape.components) (spot held))) from at.0 at.1 to stack
        (indexes_there copies (spoken copies (copies_of shape)) at.2 from at.0 stack both.0 at.4)
        (array_fits (is_none arrays) (sizes_named path shape) components arrays at.3 at.0 at.1 (integers (length (single_dimensions (spoken copies (copies_of shape)) copies)) stack) both.1 at.5
        (λ ds right found. indexes_there components ds at.3 at.0 at.1 (integers (length (single_dimensions (spoken copies (copies_of shape)) copies)) stack) right found)
        (λ ds right found. indexes_there arrays ds at.3 at.0 at.1 (integers (length (single_dimensions (spoken copies (copies_of shape)) copies)) stack) right found))
        at.6 at.7

    -- subscripts of dimensions
    indexes_there : (list : Subscripts) (all : List Dimension) (before from to : ℕ) (stack : Sorts) → indexes_fit u site list ≡ true → IndexesAt code site all list before from to
        → Fits code.image g from stack to (integers (length (single_dimensions all list)) stack)
    indexes_there NoSubscripts [] before from to stack fits at = nothing_fits code.image g from to stack at.1
    indexes_there (MoreSubscripts (OnePlace one) others) (d ∷ ds) before from to stack fits at =
        let both = and_parts (position_fits u site one) (indexes_fit u site others) fits in
        subst (λ l. Fits code.image g from stack to l) (one_below (length (single_dimensions ds others)) stack)
        (both_fit code.image g (position_there one (instr.Int (pos d.size)) from at.0 stack both.0 (number_leaves d.size stack) at.1) (indexes_there others ds before at.0 to (I ∷ stack) both.1 at.2))
    indexes_there (MoreSubscripts (Every place) others) (d ∷ ds) before from to stack fits at = indexes_there others ds at.1 from to stack fits at.4
    indexes_there (MoreSubscripts (Range first last) others) (d ∷ ds) before from to stack fits at = indexes_there others ds at.1 from to stack fits at.4
    indexes_there (MoreSubscripts (Portion count first) others) (d ∷ ds) before from to stack fits at = indexes_there others ds at.1 from to stack fits at.4
    indexes_there NoSubscripts (d ∷ ds) before from to stack fits at = absurd (at)
    indexes_there (MoreSubscripts first others) [] before from to stack fits at = absurd (at)

    -- a place
    position_there : (one : Position) (ends : Instr) (from to : ℕ) (stack : Sorts) → position_fits u site one ≡ true → Leaves ends stack → PositionAt code site ends one from to → Fits code.image g from stack to (I ∷ stack)
    position_there (FromBeginning tree) ends from to stack fits leaves at = expression_fits tree I from to stack (integer_is (sort_of_expression u site tree) fits) at
    position_there (FromEnd place terms) ends from to stack fits leaves at = both_fit code.image g (leaves_fits ends from stack leaves at.0) (terms_sum terms (suc from) to stack fits at.1)

    -- the component of a value
    component_there : (subscript : Subscript) (arrayed : Bool) (s : Sort) (from to : ℕ) (stack : Sorts) → parts_fit u site arrayed s subscript ≡ true → ComponentAt code site arrayed subscript from to
        → Fits code.image g from (s ∷ stack) to (s ∷ stack)
    component_there Unsubscripted arrayed s from to stack fits at = nothing_fits code.image g from to (s ∷ stack) at
    component_there (ByName there name) true s from to stack fits at = nothing_fits code.image g from to (s ∷ stack) at
    component_there (ByName there name) false s from to stack fits at =
        let both = and_parts (has_places s) (is_integer (sort_of_name u site name.name [])) fits in
        both_fit code.image g (name_fits code g site u serves name.name [] I from at.0 (s ∷ stack) (integer_is (sort_of_name u site name.name []) both.1) at.1)
        (pick_fits code g places.One s at.0 to (I ∷ s ∷ stack) stack refl both.0 at.2)
    component_there (ByInteger there mark number) true s from to stack fits at = nothing_fits code.image g from to (s ∷ stack) at
    component_there (ByInteger there mark number) false s from to stack fits at =
        both_fit code.image g (value_fits code g (value.Int (pos number)) I from (suc from) (s ∷ stack) refl (at.0, refl)) (pick_fits code g places.One s (suc from) to (I ∷ s ∷ stack) stack refl fits at.1)
    component_there (ByParts there copies arrays components) arrayed s from to stack fits at =
        either_fits (λ begin end. begin ≡ end) (λ begin end. PartsAt code site components begin end) (arrayed && is_none arrays) from to (s ∷ stack) (s ∷ stack) at (λ whole same. nothing_fits code.image g from to (s ∷ stack) same)
        (λ other found. parts_there components s from to stack (sym (ap (λ b. if b then true else components_fit u site s components) other) ∙ fits) found)

    parts_there : (list : Subscripts) (s : Sort) (from to : ℕ) (stack : Sorts) → components_fit u site s list ≡ true → PartsAt code site list from to → Fits code.image g from (s ∷ stack) to (s ∷ stack)
    parts_there NoSubscripts s from to stack fits at = nothing_fits code.image g from to (s ∷ stack) at
    parts_there (MoreSubscripts first others) s from to stack fits at =
        let both = and_parts (has_places s) (part_fits u site first) fits in
        both_fit code.image g (part_there first s from at.0 stack both.0 both.1 at.1) (pick_fits code g (places_of first) s at.0 to (integers (places_left first) (s ∷ stack)) stack (places_there first (s ∷ stack)) both.0 at.2)

    pub part_there : (one : Sub) (s : Sort) (from to : ℕ) (stack : Sorts) → has_places s ≡ true → part_fits u site one ≡ true → PartAt code site one from to
        → Fits code.image g from (s ∷ stack) to (integers (places_left one) (s ∷ stack))
    part_there (Every place) s from to stack has fits at =
        both_fit code.image g (value_fits code g (value.Int (pos 1)) I from (suc from) (s ∷ stack) refl (at.0, refl))
        (fits_to code.image g at.1.1 (leaves_fits (instr.Len 1) (suc from) (I ∷ s ∷ stack) (second_length s I stack has) at.1.0))
    part_there (OnePlace one) s from to stack has fits at = position_there one (instr.Len 0) from to (s ∷ stack) fits (first_length s stack has) at
    part_there (Range first last) s from to stack has fits at =
        let both = and_parts (position_fits u site first) (position_fits u site last) fits in
        both_fit code.image g (position_there first (instr.Len 0) from at.0 (s ∷ stack) both.0 (first_length s stack has) at.1) (position_there last (instr.Len 1) at.0 to (I ∷ s ∷ stack) both.1 (second_length s I stack has) at.2)
    part_there (Portion count first) s from to stack has fits at =
        let both = and_parts (is_integer (sort_of_expression u site count)) (position_fits u site first) fits in
        both_fit code.image g (expression_fits count I from at.0 (s ∷ stack) (integer_is (sort_of_expression u site count) both.0) at.1) (position_there first (instr.Len 1) at.0 to (I ∷ s ∷ stack) both.1 (second_length s I stack has) at.2)
