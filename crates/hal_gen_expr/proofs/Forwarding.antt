-- The code of expressions goes on: no instruction of it jumps.
use Rattle.std.specs.Prelude.{◌≡◌, ◌≤◌, ◌<◌, ℕ, suc, nat_lt, Bool, true, false, ◌&&◌, ◌||◌, List, [], ◌∷◌, ◌++◌, pos, Option, Some, None, slice_get}
use Rattle.std.proofs.Common.{refl, sym, subst, arith}
use Rattle.std.proofs.lemmas.Bool.{ltb-true, ltb-false}
use Rattle.hal_grammar.specs.Leaves.{Naming, Sign, Plus, Minus}
use Rattle.hal_grammar.specs.Expressions.{Expression, Or, And, Compare, Cat, Sum, Product, Power, Not, Literal, Decimal, Referred, Called, Convert, Parenthesis, Expressions, NoExpressions, MoreExpressions, Terms, NoTerms, MoreTerms, Reference, Refers, Subscript, Unsubscripted, ByName, ByInteger, ByParts, Subscripts, NoSubscripts, MoreSubscripts, Sub, Every, Range, Portion, One as OnePlace, Position, FromBeginning, FromEnd}
use Rattle.hal_scope.specs.declared.builtin.Builtin.{Builtin}
use Rattle.hal_scope.specs.declared.builtin.Builtin.TheVariants as builtin
use Rattle.hal_operations.specs.declared.operation.Op2.{Op2}
use Rattle.hal_operations.specs.declared.operation.Op2.TheVariants as op2
use Rattle.hal_constants.specs.declared.operation.Operation.{Operation}
use Rattle.hal_constants.specs.declared.operation.Operation.TheVariants as operation
use Rattle.hal_constants.specs.Naming.{operation_of}
use Rattle.hal_constants.specs.Constants.{is_none}
use Rattle.hal_values.specs.declared.value.Kind.{Kind}
use Rattle.hal_values.specs.declared.value.Value.{Value}
use Rattle.hal_values.specs.declared.value.Value.TheVariants as value
use Rattle.hal_states.specs.Spots.{Spot, Own, Held, further}
use Rattle.hal_meaning.specs.Calls.{Parameter, parameter_named, inputs_of, outputs_of}
use Rattle.hal_meaning.specs.Elements.{Shape, chosen, offset, kinds_of}
use Rattle.hal_meaning.specs.Expressions.{inputs_at, literal_value, is_condition, becomes_condition, makes_condition, exponent_of, is_size, size_argument, sizes_named, copies_of, spoken}
use Rattle.hal_meaning.specs.Variables.{Meant, MeantData, MeantConstant, MeantEvent, MeantBlock, MeantBuiltin, MeantNothing, name_meant, spot_named, kind_of_first, is_whole, Dimension, dimensions_of, is_arrayed}
use Rattle.hal_code.specs.Forward.{GoesOn}
use Rattle.hal_code.specs.declared.instr.Instr.{Instr}
use Rattle.hal_code.specs.declared.instr.Instr.TheVariants as instr
use Rattle.hal_code.specs.declared.row.Target.{Target}
use Rattle.hal_code.specs.declared.row.Target.TheVariants as target
use Rattle.hal_meaning.specs.ReportNames.{first_place}
use Rattle.hal_agreement.specs.Codes.{Code}
use Rattle.hal_agreement.specs.PlacedExpressions.{Has, One, pushes, addresses, AddressAt, ElementAt, AloneAt, BoundAt, ParameterAt, ParametersAt, CallAt, ValueAt, NameAt, EitherAt, DataAt, WholeArgumentAt, WholeAt, PlaceAt, ArrayAt, SubscriptedAt, SignAt, OperandAt, CalledAt, ExpressionAt, JoinedAt, FoldedAt, TermsAt, BuiltAt, ArgumentsAt, ReferenceAt, ChosenAt, IndexesAt, PositionAt, ComponentAt, PartsAt, PartAt}
use Rattle.hal_agreement.specs.Sites.{Site, here_at}

module _ (code : Code) where
  -- the instructions from one to another go on
  pub record Goes (from to : ℕ) : Type 0 where
    pub ordered : from ≤ to
    pub each : (at : ℕ) (i : Instr) → from ≤ at → at < to → slice_get code.image.code at ≡ Some i → GoesOn code.image.code at i

  pub none_goes : (from to : ℕ) → from ≡ to → Goes from to
  none_goes from to is = record { ordered = omega (arith, is); each = λ at i low high has. absurd (omega (arith, is, low, high)) }

  -- one instruction, which goes on
  pub one_goes : (from to : ℕ) (i : Instr) → One code from i to → GoesOn code.image.code from i → Goes from to
  one_goes from to i is goes =
      record {
        ordered = omega (arith, is.1);
        each = λ at other low high has.
            let same : at ≡ from = omega (arith, is.1, low, high) in
            let there : slice_get code.image.code from ≡ Some other = subst (λ k. slice_get code.image.code k ≡ Some other) same has in
            let one : i ≡ other = cc (is.0, there) in
            subst (λ k. GoesOn code.image.code k other) (sym same) (subst (λ x. GoesOn code.image.code from x) one goes);
      }

  pub joined_goes : (from middle to : ℕ) → Goes from middle → Goes middle to → Goes from to
  joined_goes from middle to first second = record { ordered = omega (arith, first.ordered, second.ordered); each = λ at i low high has. by at i low high has (nat_lt at middle) refl } where
    by : (at : ℕ) (i : Instr) → from ≤ at → at < to → slice_get code.image.code at ≡ Some i → (b : Bool) → nat_lt at middle ≡ b → GoesOn code.image.code at i
    by at i low high has true is = first.each at i low (ltb-true at middle is) has
    by at i low high has false is = second.each at i (ltb-false at middle is) high has

  -- one with more behind it
  pub first_goes : (from to : ℕ) (i : Instr) → Has code from i → GoesOn code.image.code from i → Goes (suc from) to → Goes from to
  first_goes from to i has goes rest = joined_goes from (suc from) to (one_goes from (suc from) i (has, refl) goes) rest

  value_goes : (from : ℕ) (v : Value) → GoesOn code.image.code from (pushes v)
  value_goes from (value.Int a) = tt
  value_goes from (value.Bits len word) = tt
  value_goes from (value.Text text) = tt

  module _ (site : Site) where
    alone_goes : (b : Builtin) (from to : ℕ) → AloneAt code b from to → Goes from to
    alone_goes builtin.Errgrp from to at = one_goes from to _ at tt
    alone_goes builtin.Errnum from to at = one_goes from to _ at tt
    alone_goes builtin.Runtime from to at = one_goes from to _ at tt
    alone_goes other from to at = absurd at

    bound_goes : (unit : ℕ) (names : List Naming) (from to : ℕ) → BoundAt code site unit names from to → Goes from to
    bound_goes unit [] from to at = none_goes from to at
    bound_goes unit (name ∷ names) from to at = joined_goes from at.0 to (bound_goes unit names from at.0 at.1) (one_goes at.0 to _ at.2 tt)

    either_goes : (b : Bool) (one other : ℕ → ℕ → Type 0) (from to : ℕ) → EitherAt b one other from to → (one from to → Goes from to) → (other from to → Goes from to) → Goes from to
    either_goes true one other from to at f s = f at
    either_goes false one other from to at f s = s at

    parameter_goes : (p : Parameter) (from to : ℕ) → ParameterAt code site p from to → Goes from to
    parameter_goes p from to at =
        either_goes (is_whole p.shape) (λ a e. One code a (instr.Copy (first_place site.places p.number)) e)
        (λ a e. ((held : List Held) → AddressAt code held (kind_of_first p.shape.components) (Own (first_place site.places p.number)) a) × One code (suc a) instr.Keep e) from to at
        (λ here. one_goes from to _ here tt) (λ here. first_goes from to _ (here.0 []).cell tt (one_goes (suc from) to _ here.1 tt))

    parameters_go : (unit : ℕ) (names : List Naming) (from to : ℕ) → ParametersAt code site unit names from to → Goes from to
    parameters_go unit [] from to at = none_goes from to at
    parameters_go unit (name ∷ names) from to at = joined_goes from at.0 to (parameters_go unit names from at.0 at.1) (parameter_goes (parameter_named site.set unit name) at.0 to at.2)

    pub call_goes : (unit : ℕ) (function : Bool) (from to : ℕ) → CallAt code site unit function from to → Goes from to
    call_goes unit function from to at =
        joined_goes from at.bound to (bound_goes at.body.number (outputs_of at.body.head) from at.bound at.references)
        (joined_goes at.bound at.middle to (parameters_go at.body.number (inputs_of at.body.head) at.bound at.middle at.parameters) (one_goes at.middle to _ at.call tt))

    meant_goes : (path : List Naming) (m : Meant) (from to : ℕ) → ValueAt code site path [] m from to → Goes from to
    meant_goes path (MeantData at shape) from to there = first_goes from to _ there.0.cell tt (one_goes (suc from) to _ there.1 tt)
    meant_goes path (MeantConstant v) from to there = one_goes from to _ there (value_goes from v)
    meant_goes path (MeantEvent e) from to there = one_goes from to _ there tt
    meant_goes path (MeantBlock unit) from to there = call_goes unit true from to there.1
    meant_goes path (MeantBuiltin b) from to there = alone_goes b from to there
    meant_goes path MeantNothing from to there = absurd there

    pub name_goes : (name : List ℕ) (path : List Naming) (from to : ℕ) → NameAt code site name path from to → Goes from to
    name_goes name path from to at = meant_goes path (name_meant (here_at site) name []) from to (at [])

    -- CELL and WHOLE
    addresses_go : (given : Target) (number from : ℕ) → GoesOn code.image.code from (addresses given number)
    addresses_go (target.Cell kind) number from = tt
    addresses_go (target.Shape shape) number from = tt

    element_goes : (ds : List Dimension) (given : Target) (spots : List Held → Spot) (from to : ℕ) → ElementAt code ds given spots from → suc from ≡ to → Goes from to
    element_goes ds given spots from to at same = one_goes from to _ (at.address, same) (addresses_go given at.number from)

    place_goes : (placed : ℕ → ℕ → Type 0) (given : Target) (spots : List Held → Spot) (sizes : List ℕ) (from to : ℕ) → PlaceAt code placed given spots sizes from to → ((middle : ℕ) → placed from middle → Goes from middle) → Goes from to
    place_goes placed given spots [] from to there p = element_goes [] given spots from to there.0 there.1
    place_goes placed given spots (n ∷ ns) from to there p = joined_goes from there.0 to (p there.0 there.1) (element_goes (dimensions_of (n ∷ ns)) given spots there.0 to there.3 there.4)

    array_goes : (places : ℕ → ℕ → Type 0) (sizes : List ℕ) (before from to : ℕ) → ArrayAt places sizes before from to → (places from to → Goes from to) → Goes from to
    array_goes places [] before from to at p = none_goes from to at.1
    array_goes places (n ∷ ns) before from to at p = p at

    subscripted_goes : (path : List Naming) (m : Meant) (address : Shape → ℕ → ℕ → Type 0) (component : Bool → ℕ → ℕ → Type 0) (from to : ℕ) → SubscriptedAt code site path [] address component m from to
        → ((shape : Shape) (middle : ℕ) → address shape from middle → Goes from middle) → ((arrayed : Bool) (middle : ℕ) → component arrayed middle to → Goes middle to) → Goes from to
    subscripted_goes path (MeantData spot shape) address component from to there a c =
        joined_goes from there.0 to (a shape there.0 there.1) (first_goes there.0 to _ there.2 tt (c (is_arrayed (sizes_named path shape)) (suc there.0) there.3))
    subscripted_goes path (MeantConstant v) address component from to there a c = joined_goes from there.0 to (meant_goes path (MeantConstant v) from there.0 there.1) (c false there.0 there.2)
    subscripted_goes path (MeantEvent e) address component from to there a c = joined_goes from there.0 to (meant_goes path (MeantEvent e) from there.0 there.1) (c false there.0 there.2)
    subscripted_goes path (MeantBlock unit) address component from to there a c = joined_goes from there.0 to (meant_goes path (MeantBlock unit) from there.0 there.1) (c false there.0 there.2)
    subscripted_goes path (MeantBuiltin b) address component from to there a c = joined_goes from there.0 to (meant_goes path (MeantBuiltin b) from there.0 there.1) (c false there.0 there.2)
    subscripted_goes path MeantNothing address component from to there a c = absurd there.1

    data_goes : (m : Meant) (address : Shape → ℕ → ℕ → Type 0) (from to : ℕ) → DataAt address m from to → ((shape : Shape) → address shape from to → Goes from to) → Goes from to
    data_goes (MeantData spot shape) address from to there a = a shape there
    data_goes (MeantConstant v) address from to there a = absurd there
    data_goes (MeantEvent e) address from to there a = absurd there
    data_goes (MeantBlock unit) address from to there a = absurd there
    data_goes (MeantBuiltin b) address from to there a = absurd there
    data_goes MeantNothing address from to there a = absurd there

    sign_goes : (opening : Option Sign) (from to : ℕ) → SignAt code opening from to → Goes from to
    sign_goes (Some Minus) from to at = one_goes from to _ at tt
    sign_goes (Some Plus) from to at = none_goes from to at
    sign_goes None from to at = none_goes from to at

    operand_goes : (becomes : Bool) (from to : ℕ) → OperandAt code becomes from to → Goes from to
    operand_goes true from to at = first_goes from to _ at.0 tt (one_goes (suc from) to _ at.1 tt)
    operand_goes false from to at = none_goes from to at

    called_goes : (m : Meant) (size : Value) (folded : ℕ → ℕ → Type 0) (built : Operation → ℕ → ℕ → Type 0) (arguments : ℕ → ℕ → ℕ → Type 0) (from to : ℕ) → CalledAt code site [] size folded built arguments m from to
        → ((middle : ℕ) → folded middle to → Goes middle to) → ((op : Operation) → built op from to → Goes from to) → ((unit middle : ℕ) → arguments unit from middle → Goes from middle) → Goes from to
    called_goes (MeantData at shape) size folded built arguments from to there f b a = joined_goes from there.0 to (meant_goes [] (MeantData at shape) from there.0 there.1) (f there.0 there.2)
    called_goes (MeantConstant v) size folded built arguments from to there f b a = joined_goes from there.0 to (meant_goes [] (MeantConstant v) from there.0 there.1) (f there.0 there.2)
    called_goes (MeantEvent e) size folded built arguments from to there f b a = absurd there
    called_goes (MeantBlock unit) size folded built arguments from to there f b a = joined_goes from there.0 to (a unit there.0 there.1) (call_goes unit true there.0 to there.2)
    called_goes (MeantBuiltin one) size folded built arguments from to there f b a =
        either_goes (is_size one) (λ x e. One code x (pushes size) e) (λ x e. built (operation_of one) x e) from to there (λ here. one_goes from to _ here (value_goes from size)) (λ here. b (operation_of one) here)
    called_goes MeantNothing size folded built arguments from to there f b a = absurd there

    mutual
      pub expression_goes : (tree : Expression) (from to : ℕ) → ExpressionAt code site tree from to → Goes from to
      expression_goes (Or place first others) from to at =
          joined_goes from at.0 to (expression_goes first from at.0 at.1) (operands_go others op2.Or (is_condition first) at.0 to at.2)
      expression_goes (And place first others) from to at =
          joined_goes from at.0 to (expression_goes first from at.0 at.1) (operands_go others op2.And (is_condition first) at.0 to at.2)
      expression_goes (Compare place left relation right) from to at =
          joined_goes from at.0 to (expression_goes left from at.0 at.2) (joined_goes at.0 at.1 to (expression_goes right at.0 at.1 at.3) (one_goes at.1 to _ at.4 tt))
      expression_goes (Cat place first others) from to at = joined_goes from at.0 to (expression_goes first from at.0 at.1) (folded_goes others op2.Cat at.0 to at.2)
      expression_goes (Sum place opening first others) from to at =
          joined_goes from at.0 to (expression_goes first from at.0 at.2) (joined_goes at.0 at.1 to (sign_goes opening at.0 at.1 at.3) (terms_go others at.1 to at.4))
      expression_goes (Product place first others) from to at = joined_goes from at.0 to (expression_goes first from at.0 at.1) (folded_goes others op2.Product at.0 to at.2)
      expression_goes (Power place base exponent) from to at =
          joined_goes from at.0 to (expression_goes base from at.0 at.1) (first_goes at.0 to _ at.2 (value_goes at.0 (exponent_of exponent)) (one_goes (suc at.0) to _ at.3 tt))
      expression_goes (Not place operand) from to at = joined_goes from at.0 to (expression_goes operand from at.0 at.1) (one_goes at.0 to _ at.2 tt)
      expression_goes (Literal place literal) from to at = one_goes from to _ at (value_goes from (literal_value literal))
      expression_goes (Decimal place number) from to at = absurd at
      expression_goes (Referred reference) from to at = reference_goes reference from to at
      expression_goes (Called place name arguments) from to at =
          called_goes (name_meant (here_at site) name []) (size_argument (here_at site) arguments []) (λ a e. FoldedAt code site op2.Product arguments a e) (λ op a e. BuiltAt code site op arguments a e)
          (λ unit a e. ArgumentsAt code site unit (inputs_at site.set unit) arguments a e) from to (at []) (λ middle there. folded_goes arguments op2.Product middle to there)
          (λ op there. built_goes arguments op from to there) (λ unit middle there. arguments_go arguments unit (inputs_at site.set unit) from middle there)
      expression_goes (Convert place conversion operand) from to at = joined_goes from at.0 to (expression_goes operand from at.0 at.1) (one_goes at.0 to _ at.2 tt)
      expression_goes (Parenthesis place inner) from to at = expression_goes inner from to at

      operands_go : (trees : Expressions) (op : Op2) (condition : Bool) (from to : ℕ) → JoinedAt code site op condition trees from to → Goes from to
      operands_go NoExpressions op condition from to at = none_goes from to at
      operands_go (MoreExpressions first others) op condition from to at =
          joined_goes from at.0 to (operand_goes (makes_condition condition first) from at.0 at.3) (joined_goes at.0 at.1 to (expression_goes first at.0 at.1 at.4)
          (joined_goes at.1 at.2 to (operand_goes (becomes_condition condition first) at.1 at.2 at.5) (first_goes at.2 to _ at.6 tt (operands_go others op (condition || is_condition first) (suc at.2) to at.7))))

      folded_goes : (trees : Expressions) (op : Op2) (from to : ℕ) → FoldedAt code site op trees from to → Goes from to
      folded_goes NoExpressions op from to at = none_goes from to at
      folded_goes (MoreExpressions first others) op from to at =
          joined_goes from at.0 to (expression_goes first from at.0 at.1) (first_goes at.0 to _ at.2 tt (folded_goes others op (suc at.0) to at.3))

      terms_go : (terms : Terms) (from to : ℕ) → TermsAt code site terms from to → Goes from to
      terms_go NoTerms from to at = none_goes from to at
      terms_go (MoreTerms place sign term others) from to at = joined_goes from at.0 to (expression_goes term from at.0 at.1) (first_goes at.0 to _ at.2 tt (terms_go others (suc at.0) to at.3))

      built_goes : (trees : Expressions) (op : Operation) (from to : ℕ) → BuiltAt code site op trees from to → Goes from to
      built_goes (MoreExpressions operand NoExpressions) (operation.One op) from to at = joined_goes from at.0 to (expression_goes operand from at.0 at.1) (one_goes at.0 to _ at.2 tt)
      built_goes (MoreExpressions left (MoreExpressions right NoExpressions)) (operation.Two op) from to at =
          joined_goes from at.0 to (expression_goes left from at.0 at.2) (joined_goes at.0 at.1 to (expression_goes right at.0 at.1 at.3) (one_goes at.1 to _ at.4 tt))
      built_goes NoExpressions (operation.One op) from to at = absurd at
      built_goes (MoreExpressions operand (MoreExpressions next others)) (operation.One op) from to at = absurd at
      built_goes NoExpressions (operation.Two op) from to at = absurd at
      built_goes (MoreExpressions left NoExpressions) (operation.Two op) from to at = absurd at
      built_goes (MoreExpressions left (MoreExpressions right (MoreExpressions next others))) (operation.Two op) from to at = absurd at
      built_goes trees operation.Size from to at = absurd at
      built_goes trees operation.Nothing from to at = absurd at

      pub arguments_go : (trees : Expressions) (unit : ℕ) (names : List Naming) (from to : ℕ) → ArgumentsAt code site unit names trees from to → Goes from to
      arguments_go NoExpressions unit [] from to at = none_goes from to at
      arguments_go (MoreExpressions first others) unit (name ∷ names) from to at =
          joined_goes from at.0 to
          (either_goes (is_whole (parameter_named site.set unit name).shape) (λ a e. WholeArgumentAt code site (kinds_of (parameter_named site.set unit name).shape) first a e) (λ a e. ExpressionAt code site first a e) from at.0 at.1
          (λ here. whole_goes first (kinds_of (parameter_named site.set unit name).shape) from at.0 here) (λ here. expression_goes first from at.0 here)) (arguments_go others unit names at.0 to at.2)
      arguments_go NoExpressions unit (name ∷ names) from to at = absurd at
      arguments_go (MoreExpressions first others) unit [] from to at = absurd at

      whole_goes : (tree : Expression) (kinds : List Kind) (from to : ℕ) → WholeArgumentAt code site kinds tree from to → Goes from to
      whole_goes (Referred reference) kinds from to at = area_goes reference kinds from to at
      whole_goes (Or there first others) kinds from to at = absurd at
      whole_goes (And there first others) kinds from to at = absurd at
      whole_goes (Compare there left relation right) kinds from to at = absurd at
      whole_goes (Cat there first others) kinds from to at = absurd at
      whole_goes (Sum there opening first others) kinds from to at = absurd at
      whole_goes (Product there first others) kinds from to at = absurd at
      whole_goes (Power there base exponent) kinds from to at = absurd at
      whole_goes (Not there operand) kinds from to at = absurd at
      whole_goes (Literal there literal) kinds from to at = absurd at
      whole_goes (Decimal there number) kinds from to at = absurd at
      whole_goes (Called there name arguments) kinds from to at = absurd at
      whole_goes (Convert there conversion operand) kinds from to at = absurd at
      whole_goes (Parenthesis there inner) kinds from to at = absurd at

      pub area_goes : (reference : Reference) (kinds : List Kind) (from to : ℕ) → WholeAt code site kinds reference from to → Goes from to
      area_goes (Refers place name path subscript) kinds from to at =
          data_goes (name_meant (here_at site) name []) (λ form a e. ChosenAt code site (target.Shape at.0) path subscript (spot_named (here_at site) name) form a e) from to (at.2 [])
          (λ form here. chosen_goes subscript (target.Shape at.0) path (spot_named (here_at site) name) form from to here)

      reference_goes : (reference : Reference) (from to : ℕ) → ReferenceAt code site reference from to → Goes from to
      reference_goes (Refers place name path Unsubscripted) from to at = name_goes name path from to at
      reference_goes (Refers place name path (ByName there one)) from to at =
          subscripted_goes path (name_meant (here_at site) name []) (λ shape a e. ChosenAt code site (target.Cell (kind_of_first (chosen path shape.components))) path (ByName there one) (spot_named (here_at site) name) shape a e) (λ arrayed a e. ComponentAt code site arrayed (ByName there one) a e) from to (at [])
          (λ shape middle here. chosen_goes (ByName there one) (target.Cell (kind_of_first (chosen path shape.components))) path (spot_named (here_at site) name) shape from middle here) (λ arrayed middle here. component_goes (ByName there one) arrayed middle to here)
      reference_goes (Refers place name path (ByInteger there mark number)) from to at =
          subscripted_goes path (name_meant (here_at site) name []) (λ shape a e. ChosenAt code site (target.Cell (kind_of_first (chosen path shape.components))) path (ByInteger there mark number) (spot_named (here_at site) name) shape a e) (λ arrayed a e. ComponentAt code site arrayed (ByInteger there mark number) a e) from to (at [])
          (λ shape middle here. chosen_goes (ByInteger there mark number) (target.Cell (kind_of_first (chosen path shape.components))) path (spot_named (here_at site) name) shape from middle here) (λ arrayed middle here. component_goes (ByInteger there mark number) arrayed middle to here)
      reference_goes (Refers place name path (ByParts there copies arrays components)) from to at =
          subscripted_goes path (name_meant (here_at site) name []) (λ shape a e. ChosenAt code site (target.Cell (kind_of_first (chosen path shape.components))) path (ByParts there copies arrays components) (spot_named (here_at site) name) shape a e) (λ arrayed a e. ComponentAt code site arrayed (ByParts there copies arrays components) a e) from to (at [])
          (λ shape middle here. chosen_goes (ByParts there copies arrays components) (target.Cell (kind_of_first (chosen path shape.components))) path (spot_named (here_at site) name) shape from middle here) (λ arrayed middle here. component_goes (ByParts there copies arrays components) arrayed middle to here)

      pub chosen_goes : (subscript : Subscript) (given : Target) (path : List Naming) (spots : List Held → Spot) (shape : Shape) (from to : ℕ) → ChosenAt code site given path subscript spots shape from to → Goes from to
      chosen_goes Unsubscripted given path spots shape from to at = element_goes [] given _ from to at.0 at.1
      chosen_goes (ByName there name) given path spots shape from to at =
          place_goes (λ a e. NameAt code site name.name [] a e) given (λ held. further (offset path shape.components) (spots held)) (sizes_named path shape) from to at (λ middle here. name_goes name.name [] from middle here)
      chosen_goes (ByInteger there mark number) given path spots shape from to at =
          place_goes (λ a e. One code a (instr.Int (pos number)) e) given (λ held. further (offset path shape.components) (spots held)) (sizes_named path shape) from to at (λ middle here. one_goes from middle _ here tt)
      chosen_goes (ByParts there copies arrays components) given path spots shape from to at =
          joined_goes from at.0 to (indexes_goes copies (spoken copies (copies_of shape)) at.2 from at.0 at.4) (joined_goes at.0 at.1 to
          (either_goes (is_none arrays) (λ a e. ArrayAt (λ b f. IndexesAt code site (spoken components (dimensions_of (sizes_named path shape))) components at.3 b f) (sizes_named path shape) at.3 a e)
          (λ a e. IndexesAt code site (dimensions_of (sizes_named path shape)) arrays at.3 a e) at.0 at.1 at.5
          (λ here. array_goes (λ b f. IndexesAt code site (spoken components (dimensions_of (sizes_named path shape))) components at.3 b f) (sizes_named path shape) at.3 at.0 at.1 here
          (λ places. indexes_goes components (spoken components (dimensions_of (sizes_named path shape))) at.3 at.0 at.1 places))
          (λ here. indexes_goes arrays (dimensions_of (sizes_named path shape)) at.3 at.0 at.1 here))
          (element_goes _ given _ at.1 to at.6 at.7))

      indexes_goes : (list : Subscripts) (ds : List Dimension) (before from to : ℕ) → IndexesAt code site ds list before from to → Goes from to
      indexes_goes NoSubscripts [] before from to at = none_goes from to at.1
      indexes_goes (MoreSubscripts (OnePlace one) others) (d ∷ ds) before from to at =
          joined_goes from at.0 to (position_goes one (instr.Int (pos d.size)) from at.0 (λ k. tt) at.1) (indexes_goes others ds before at.0 to at.2)
      indexes_goes NoSubscripts (d ∷ ds) before from to at = absurd at
      indexes_goes (MoreSubscripts first others) [] before from to at = absurd at
      indexes_goes (MoreSubscripts (Every there) others) (d ∷ ds) before from to at = indexes_goes others ds at.1 from to at.4
      indexes_goes (MoreSubscripts (Range first last) others) (d ∷ ds) before from to at = indexes_goes others ds at.1 from to at.4
      indexes_goes (MoreSubscripts (Portion count first) others) (d ∷ ds) before from to at = indexes_goes others ds at.1 from to at.4

      position_goes : (one : Position) (ends : Instr) (from to : ℕ) → ((k : ℕ) → GoesOn code.image.code k ends) → PositionAt code site ends one from to → Goes from to
      position_goes (FromBeginning tree) ends from to goes at = expression_goes tree from to at
      position_goes (FromEnd there terms) ends from to goes at = first_goes from to ends at.0 (goes from) (terms_go terms (suc from) to at.1)

      component_goes : (subscript : Subscript) (arrayed : Bool) (from to : ℕ) → ComponentAt code site arrayed subscript from to → Goes from to
      component_goes Unsubscripted arrayed from to at = none_goes from to at
      component_goes (ByName there name) true from to at = none_goes from to at
      component_goes (ByName there name) false from to at = joined_goes from at.0 to (name_goes name.name [] from at.0 at.1) (one_goes at.0 to _ at.2 tt)
      component_goes (ByInteger there mark number) true from to at = none_goes from to at
      component_goes (ByInteger there mark number) false from to at = first_goes from to _ at.0 tt (one_goes (suc from) to _ at.1 tt)
      component_goes (ByParts there copies arrays components) arrayed from to at =
          either_goes (arrayed && is_none arrays) (λ a e. a ≡ e) (λ a e. PartsAt code site components a e) from to at (λ here. none_goes from to here) (λ here. parts_goes components from to here)

      parts_goes : (list : Subscripts) (from to : ℕ) → PartsAt code site list from to → Goes from to
      parts_goes NoSubscripts from to at = none_goes from to at
      parts_goes (MoreSubscripts first others) from to at = joined_goes from at.0 to (part_goes first from at.0 at.1) (one_goes at.0 to _ at.2 tt)

      pub part_goes : (one : Sub) (from to : ℕ) → PartAt code site one from to → Goes from to
      part_goes (Every there) from to at = first_goes from to _ at.0 tt (one_goes (suc from) to _ at.1 tt)
      part_goes (OnePlace one) from to at = position_goes one (instr.Len 0) from to (λ k. tt) at
      part_goes (Range first last) from to at = joined_goes from at.0 to (position_goes first (instr.Len 0) from at.0 (λ k. tt) at.1) (position_goes last (instr.Len 1) at.0 to (λ k. tt) at.2)
      part_goes (Portion count first) from to at = joined_goes from at.0 to (expression_goes count from at.0 at.1) (position_goes first (instr.Len 1) at.0 to (λ k. tt) at.2)
