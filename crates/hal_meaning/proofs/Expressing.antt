-- What is said of expressions.
use Rattle.std.specs.Prelude.{ℕ, ◌++◌, ◌&&◌, ◌||◌, nat_lt, List, [], ◌∷◌, pos, Bool, true, false, Option, Some, None}
use Rattle.std.proofs.Common.{refl}
use Rattle.std.proofs.lemmas.Bool.{ltb-true}
use Rattle.hal_grammar.specs.Leaves.{Naming, Sign, Plus, Minus}
use Rattle.hal_grammar.specs.Expressions.{Expression, Or, And, Compare, Cat, Sum, Product, Power, Not, Literal, Decimal, Referred, Called, Convert, Parenthesis, Expressions, NoExpressions, MoreExpressions, Terms, NoTerms, MoreTerms, Reference, Refers, Subscript, Unsubscripted, ByName, ByInteger, ByParts, Subscripts, NoSubscripts, MoreSubscripts, Sub, Every, One, Range, Portion, Position, FromBeginning, FromEnd}
use Rattle.hal_scope.specs.declared.builtin.Builtin.{Builtin}
use Rattle.hal_scope.specs.declared.builtin.Builtin.TheVariants as builtin
use Rattle.hal_operations.specs.declared.operation.Op1.{Op1}
use Rattle.hal_operations.specs.declared.operation.Op1.TheVariants as op1
use Rattle.hal_operations.specs.declared.operation.Op2.{Op2}
use Rattle.hal_operations.specs.declared.operation.Op2.TheVariants as op2
use Rattle.hal_operations.specs.declared.part.Part.{Part}
use Rattle.hal_operations.specs.declared.part.Part.TheVariants as part
use Rattle.hal_operations.specs.Values.{value_of_one, value_of_two}
use Rattle.hal_operations.specs.Mended.{mended_of_one, mended_of_two}
use Rattle.hal_operations.specs.Parts.{picked, mended_pick, place_count}
use Rattle.hal_constants.specs.declared.operation.Operation.{Operation}
use Rattle.hal_constants.specs.declared.operation.Operation.TheVariants as operation
use Rattle.hal_constants.specs.Naming.{operation_of}
use Rattle.hal_constants.specs.Constants.{is_none}
use Rattle.hal_values.specs.declared.request.Request.TheVariants as request
use Rattle.hal_values.specs.declared.request.Spot.TheVariants as spot
use Rattle.hal_values.specs.declared.value.Kind.{Kind}
use Rattle.hal_values.specs.declared.value.Value.{Value}
use Rattle.hal_values.specs.declared.value.Value.TheVariants as value
use Rattle.hal_values.specs.Answers.{Answered, error}
use Rattle.hal_values.specs.Tables.{event_count}
use Rattle.hal_states.specs.Spots.{Spot, Held, further}
use Rattle.hal_states.specs.Numbers.{integer_of}
use Rattle.hal_meaning.specs.Elements.{Shape, chosen, offset}
use Rattle.hal_meaning.specs.States.{State, Evaluated, Gives, bind}
use Rattle.hal_meaning.specs.Access.{Here}
use Rattle.hal_meaning.specs.Variables.{Meant, MeantData, MeantConstant, MeantEvent, MeantBlock, MeantBuiltin, MeantNothing, name_meant, spot_named, Index, Single, Dimension, dimensions_of, all_inside, kind_of_first, is_arrayed}
use Rattle.hal_meaning.specs.Calls.{Passed}
use Rattle.hal_meaning.specs.Expressions.{operation_of_relation, operation_of_sign, operation_of_conversion, is_condition, becomes_condition, makes_condition, as_operand, apply_one, apply_two, signed, exponent_of, part_of, Located, located, event_value, alone_value, plain_value, named_value, built, sizes_named, copies_of, size_argument, is_size, inputs_at, is_whole_parameter, after_first, first_size, after_first_dimension, spoken, by_place, argument, call_form, subscripted, meant_chosen, part_unless, expression, joined, folded, summed, values, passed, chosen_by, referred, chosen_data, data_chosen, array_indexes, indexes, index, position, component, parts_of, part_chosen}
use Rattle.hal_meaning.specs.Tasks.{Meaning}
use Rattle.hal_meaning.proofs.Going.{pushed, Goes, Fine, Answers, Goes-bind}
use Rattle.hal_meaning.proofs.Accessing.{after_answer, Goes-ask, Goes-if, Goes-raised, Goes-tested, Goes-read}
use Rattle.hal_meaning.proofs.Able.{Ready, Runs, Fit, seq}
use Rattle.hal_meaning.proofs.Calling.{Runs-call}

-- an answer, and then a value of it
pub Runs-told : {A : Type 0} (h : Here) (limit : ℕ) (a : Answered) (done other : Evaluated Answered) (f : Answered → A)
    → Goes h.set.tables h.set.turns limit a (Answers h.set.tables h.set.turns limit) done other
    → Runs h limit a (bind done (λ answer after. Gives (f answer) after)) (bind other (λ answer after. Gives (f answer) after))
Runs-told h limit a done other f is =
    Goes-bind h.set.tables h.set.turns limit a (Answers h.set.tables h.set.turns limit) (Fine h.set.tables h.set.turns limit) done other _ _ is
    (λ answer after known. (after_answer h.set.tables h.set.turns limit answer after known, refl))

-- a value that is made of another one
pub Runs-mapped : {A B : Type 0} (h : Here) (limit : ℕ) (a : Answered) (done other : Evaluated A) (f : A → B) → Runs h limit a done other
    → Runs h limit a (bind done (λ v after. Gives (f v) after)) (bind other (λ v after. Gives (f v) after))
Runs-mapped h limit a done other f is = seq h limit a done other _ _ is (λ v after fit. (fit, refl))

pub Runs-one : (h : Here) (limit : ℕ) (a : Answered) (op : Op1) (v : Value) (st : State) → Fit h limit st → Runs h limit a (apply_one h op v st) (apply_one h op v (pushed a st))
Runs-one h limit a op v st fit = Goes-tested h h.set.turns limit a (value_of_one op v) (mended_of_one op v) st fit

pub Runs-two : (h : Here) (limit : ℕ) (a : Answered) (op : Op2) (v w : Value) (st : State) → Fit h limit st → Runs h limit a (apply_two h op v w st) (apply_two h op v w (pushed a st))
Runs-two h limit a op v w st fit = Goes-tested h h.set.turns limit a (value_of_two op v w) (mended_of_two op v w) st fit

Runs-signed : (h : Here) (limit : ℕ) (a : Answered) (opening : Option Sign) (v : Value) (st : State) → Fit h limit st → Runs h limit a (signed h opening v st) (signed h opening v (pushed a st))
Runs-signed h limit a (Some Minus) v st fit = Runs-one h limit a op1.Minus v st fit
Runs-signed h limit a (Some Plus) v st fit = (fit, refl)
Runs-signed h limit a None v st fit = (fit, refl)

Runs-part : (h : Here) (limit : ℕ) (a : Answered) (p : Part) (v : Value) (st : State) → Fit h limit st → Runs h limit a (part_of h p v st) (part_of h p v (pushed a st))
Runs-part h limit a p v st fit = Goes-tested h h.set.turns limit a (picked v p) (mended_pick v p) st fit

Runs-located : (h : Here) (limit : ℕ) (a : Answered) (at : Spot) (k : Kind) (ds : List Dimension) (is : List Index) (st : State) → Fit h limit st
    → Runs h limit a (located h at k ds is st) (located h at k ds is (pushed a st))
Runs-located h limit a at k ds is st fit =
    Goes-if h.set.tables h.set.turns limit a (Fine h.set.tables h.set.turns limit) (all_inside ds is) _ _ _ _ (λ inside. (fit, refl)) (λ outside. Goes-raised h h.set.turns limit a (error 1 3) _ st fit)

pub Runs-event : (h : Here) (limit : ℕ) (a : Answered) (e : ℕ) (st : State) → Fit h limit st → Runs h limit a (event_value h e st) (event_value h e (pushed a st))
Runs-event h limit a e st fit =
    Goes-if h.set.tables h.set.turns limit a (Fine h.set.tables h.set.turns limit) (nat_lt e (event_count h.set.tables)) _ _ _ _
    (λ has. Runs-told h limit a _ _ _ (Goes-ask h.set.tables h.set.turns limit a (request.Read (spot.Event e)) st (λ is. cc) (ltb-true e (event_count h.set.tables) has) fit))
    (λ has. (fit, refl))

Runs-alone : (h : Here) (limit : ℕ) (a : Answered) (b : Builtin) (st : State) → Fit h limit st → Runs h limit a (alone_value b st) (alone_value b (pushed a st))
Runs-alone h limit a builtin.Errgrp st fit = (fit, refl)
Runs-alone h limit a builtin.Errnum st fit = (fit, refl)
Runs-alone h limit a builtin.Runtime st fit = Runs-told h limit a _ _ _ (Goes-ask h.set.tables h.set.turns limit a request.Now st (λ is. cc) tt fit)
Runs-alone h limit a b st fit = (fit, refl)

Runs-built : (h : Here) (limit : ℕ) (a : Answered) (op : Operation) (vs : List Value) (st : State) → Fit h limit st → Runs h limit a (built h op vs st) (built h op vs (pushed a st))
Runs-built h limit a operation.Size vs st fit = (fit, refl)
Runs-built h limit a operation.Nothing vs st fit = (fit, refl)
Runs-built h limit a (operation.One op) [] st fit = (fit, refl)
Runs-built h limit a (operation.One op) (v ∷ vs) st fit = Runs-one h limit a op v st fit
Runs-built h limit a (operation.Two op) [] st fit = (fit, refl)
Runs-built h limit a (operation.Two op) (v ∷ []) st fit = (fit, refl)
Runs-built h limit a (operation.Two op) (v ∷ w ∷ vs) st fit = Runs-two h limit a op v w st fit

module _ (h : Here) (limit n : ℕ) (a : Answered) (rec after : Meaning) (ready : Ready h limit n a rec after) where
  pub Runs-plain : (path : List Naming) (m : Meant) (st : State) → Fit h limit st → Runs h limit a (plain_value rec h path m st) (plain_value after h path m (pushed a st))
  Runs-plain path (MeantData at shape) st fit = Goes-read h h.set.turns limit a (kind_of_first (chosen path shape.components)) (further (offset path shape.components) at) st fit
  Runs-plain path (MeantConstant v) st fit = (fit, refl)
  Runs-plain path (MeantEvent e) st fit = Runs-event h limit a e st fit
  Runs-plain path (MeantBlock unit) st fit = Runs-call h limit n a rec after ready unit [] [] st fit
  Runs-plain path (MeantBuiltin b) st fit = Runs-alone h limit a b st fit
  Runs-plain path MeantNothing st fit = (fit, refl)

  pub Runs-named : (name : Naming) (st : State) → Fit h limit st → Runs h limit a (named_value rec h name st) (named_value after h name (pushed a st))
  Runs-named name st fit = Runs-plain [] (name_meant h name.name st.kept.places) st fit

  Runs-argument : (whole : Bool) (choose choose' : State → Evaluated Located) (evaluate evaluate' : State → Evaluated Value) (st : State)
      → Runs h limit a (choose st) (choose' (pushed a st)) → Runs h limit a (evaluate st) (evaluate' (pushed a st))
      → Runs h limit a (argument whole choose evaluate st) (argument whole choose' evaluate' (pushed a st))
  Runs-argument true choose choose' evaluate evaluate' st one other = Runs-mapped h limit a _ _ _ one
  Runs-argument false choose choose' evaluate evaluate' st one other = Runs-mapped h limit a _ _ _ other

  Runs-form : (size : Value) (give give' : ℕ → State → Evaluated (List Passed)) (all all' : State → Evaluated (List Value)) (multiply multiply' : Value → State → Evaluated Value) (m : Meant) (st : State) → Fit h limit st
      → ((unit : ℕ) → Runs h limit a (give unit st) (give' unit (pushed a st))) → Runs h limit a (all st) (all' (pushed a st))
      → ((v : Value) (later : State) → Fit h limit later → Runs h limit a (multiply v later) (multiply' v (pushed a later)))
      → Runs h limit a (call_form rec h size give all multiply m st) (call_form after h size give' all' multiply' m (pushed a st))
  Runs-form size give give' all all' multiply multiply' (MeantBlock unit) st fit gives items product =
      seq h limit a _ _ _ _ (gives unit) (λ ps later known. Runs-call h limit n a rec after ready unit ps [] later known)
  Runs-form size give give' all all' multiply multiply' (MeantBuiltin b) st fit gives items product =
      Goes-if h.set.tables h.set.turns limit a (Fine h.set.tables h.set.turns limit) (is_size b) _ _ _ _ (λ is. (fit, refl))
      (λ is. seq h limit a _ _ _ _ items (λ vs later known. Runs-built h limit a (operation_of b) vs later known))
  Runs-form size give give' all all' multiply multiply' (MeantData at shape) st fit gives items product =
      seq h limit a _ _ _ _ (Runs-plain [] (MeantData at shape) st fit) (λ v later known. product v later known)
  Runs-form size give give' all all' multiply multiply' (MeantConstant v) st fit gives items product =
      product v st fit
  Runs-form size give give' all all' multiply multiply' (MeantEvent e) st fit gives items product =
      seq h limit a _ _ _ _ (Runs-plain [] (MeantEvent e) st fit) (λ v later known. product v later known)
  Runs-form size give give' all all' multiply multiply' MeantNothing st fit gives items product =
      product (value.Int (pos 0)) st fit

  Runs-subscripted : (path : List Naming) (choose choose' : Shape → State → Evaluated Located) (take take' : Bool → Value → State → Evaluated Value) (m : Meant) (st : State) → Fit h limit st
      → ((shape : Shape) → Runs h limit a (choose shape st) (choose' shape (pushed a st)))
      → ((arrayed : Bool) (v : Value) (later : State) → Fit h limit later → Runs h limit a (take arrayed v later) (take' arrayed v (pushed a later)))
      → Runs h limit a (subscripted rec h path choose take m st) (subscripted after h path choose' take' m (pushed a st))
  Runs-subscripted path choose choose' take take' (MeantData at shape) st fit chooses takes =
      seq h limit a _ _ _ _ (chooses shape)
      (λ l later known. seq h limit a _ _ _ _ (Goes-read h h.set.turns limit a l.kind l.at later known) (λ v last more. takes (is_arrayed (sizes_named path shape)) v last more))
  Runs-subscripted path choose choose' take take' (MeantConstant v) st fit chooses takes =
      takes false v st fit
  Runs-subscripted path choose choose' take take' (MeantEvent e) st fit chooses takes =
      seq h limit a _ _ _ _ (Runs-plain path (MeantEvent e) st fit) (λ v later known. takes false v later known)
  Runs-subscripted path choose choose' take take' (MeantBlock unit) st fit chooses takes =
      seq h limit a _ _ _ _ (Runs-plain path (MeantBlock unit) st fit) (λ v later known. takes false v later known)
  Runs-subscripted path choose choose' take take' (MeantBuiltin b) st fit chooses takes =
      seq h limit a _ _ _ _ (Runs-plain path (MeantBuiltin b) st fit) (λ v later known. takes false v later known)
  Runs-subscripted path choose choose' take take' MeantNothing st fit chooses takes =
      takes false (value.Int (pos 0)) st fit

  Runs-meant : (choose choose' : Shape → State → Evaluated Located) (m : Meant) (st : State) → Fit h limit st
      → ((shape : Shape) → Runs h limit a (choose shape st) (choose' shape (pushed a st)))
      → Runs h limit a (meant_chosen choose m st) (meant_chosen choose' m (pushed a st))
  Runs-meant choose choose' (MeantData at shape) st fit chooses = chooses shape
  Runs-meant choose choose' (MeantConstant v) st fit chooses = (fit, refl)
  Runs-meant choose choose' (MeantEvent e) st fit chooses = (fit, refl)
  Runs-meant choose choose' (MeantBlock unit) st fit chooses = (fit, refl)
  Runs-meant choose choose' (MeantBuiltin b) st fit chooses = (fit, refl)
  Runs-meant choose choose' MeantNothing st fit chooses = (fit, refl)

  Runs-by_place : (path : List Naming) (place place' : Evaluated Value) (at : List Held → Spot) (shape : Shape) (st : State) → Fit h limit st → Runs h limit a place place'
      → Runs h limit a (by_place h path place at shape st) (by_place h path place' at shape (pushed a st))
  Runs-by_place path place place' at shape st fit is =
      Goes-if h.set.tables h.set.turns limit a (Fine h.set.tables h.set.turns limit) (is_arrayed (sizes_named path shape)) _ _ _ _
      (λ arrayed. seq h limit a _ _ _ _ is (λ v later known. Runs-located h limit a _ _ (dimensions_of (sizes_named path shape)) (Single (integer_of v) ∷ []) later known))
      (λ plain. (fit, refl))

  Runs-unless : (arrayed : Bool) (place place' : Evaluated Value) (v : Value) (st : State) → Fit h limit st → Runs h limit a place place'
      → Runs h limit a (part_unless h arrayed place v st) (part_unless h arrayed place' v (pushed a st))
  Runs-unless true place place' v st fit is = (fit, refl)
  Runs-unless false place place' v st fit is = seq h limit a _ _ _ _ is (λ i later known. Runs-part h limit a (part.One (integer_of i)) v later known)

  mutual
    pub Runs-expression : (tree : Expression) (st : State) → Fit h limit st → Runs h limit a (expression rec h tree st) (expression after h tree (pushed a st))
    Runs-expression (Or place first others) st fit =
        seq h limit a _ _ _ _ (Runs-expression first st fit) (λ v later known. Runs-joined op2.Or (is_condition first) v others later known)
    Runs-expression (And place first others) st fit =
        seq h limit a _ _ _ _ (Runs-expression first st fit) (λ v later known. Runs-joined op2.And (is_condition first) v others later known)
    Runs-expression (Compare place left relation right) st fit =
        seq h limit a _ _ _ _ (Runs-expression left st fit)
        (λ v later known. seq h limit a _ _ _ _ (Runs-expression right later known) (λ w last more. Runs-two h limit a (operation_of_relation relation) v w last more))
    Runs-expression (Cat place first others) st fit = seq h limit a _ _ _ _ (Runs-expression first st fit) (λ v later known. Runs-folded op2.Cat v others later known)
    Runs-expression (Sum place opening first others) st fit =
        seq h limit a _ _ _ _ (Runs-expression first st fit)
        (λ v later known. seq h limit a _ _ _ _ (Runs-signed h limit a opening v later known) (λ w last more. Runs-summed w others last more))
    Runs-expression (Product place first others) st fit = seq h limit a _ _ _ _ (Runs-expression first st fit) (λ v later known. Runs-folded op2.Product v others later known)
    Runs-expression (Power place base exponent) st fit = seq h limit a _ _ _ _ (Runs-expression base st fit) (λ v later known. Runs-two h limit a op2.Power v (exponent_of exponent) later known)
    Runs-expression (Not place operand) st fit = seq h limit a _ _ _ _ (Runs-expression operand st fit) (λ v later known. Runs-one h limit a op1.Not v later known)
    Runs-expression (Literal place literal) st fit = (fit, refl)
    Runs-expression (Decimal place number) st fit = (fit, refl)
    Runs-expression (Referred reference) st fit = Runs-referred reference st fit
    Runs-expression (Called place name arguments) st fit =
        Runs-form (size_argument h arguments st.kept.places) (λ unit before. passed rec h unit (inputs_at h.set unit) arguments before) (λ unit before. passed after h unit (inputs_at h.set unit) arguments before)
        (λ before. values rec h arguments before) (λ before. values after h arguments before) (λ v later. folded rec h op2.Product v arguments later) (λ v later. folded after h op2.Product v arguments later) (name_meant h name st.kept.places) st fit
        (λ unit. Runs-passed unit (inputs_at h.set unit) arguments st fit) (Runs-values arguments st fit) (λ v later known. Runs-folded op2.Product v arguments later known)
    Runs-expression (Convert place conversion operand) st fit =
        seq h limit a _ _ _ _ (Runs-expression operand st fit) (λ v later known. Runs-one h limit a (operation_of_conversion conversion) v later known)
    Runs-expression (Parenthesis place inner) st fit = Runs-expression inner st fit

    Runs-joined : (op : Op2) (condition : Bool) (v : Value) (list : Expressions) (st : State) → Fit h limit st → Runs h limit a (joined rec h op condition v list st) (joined after h op condition v list (pushed a st))
    Runs-joined op condition v NoExpressions st fit = (fit, refl)
    Runs-joined op condition v (MoreExpressions first others) st fit =
        seq h limit a _ _ _ _ (Runs-expression first st fit)
        (λ w later known. seq h limit a _ _ _ _ (Runs-two h limit a op (as_operand (makes_condition condition first) v) (as_operand (becomes_condition condition first) w) later known)
        (λ x last more. Runs-joined op (condition || is_condition first) x others last more))

    pub Runs-folded : (op : Op2) (v : Value) (list : Expressions) (st : State) → Fit h limit st → Runs h limit a (folded rec h op v list st) (folded after h op v list (pushed a st))
    Runs-folded op v NoExpressions st fit = (fit, refl)
    Runs-folded op v (MoreExpressions first others) st fit =
        seq h limit a _ _ _ _ (Runs-expression first st fit)
        (λ w later known. seq h limit a _ _ _ _ (Runs-two h limit a op v w later known) (λ x last more. Runs-folded op x others last more))

    Runs-summed : (v : Value) (list : Terms) (st : State) → Fit h limit st → Runs h limit a (summed rec h v list st) (summed after h v list (pushed a st))
    Runs-summed v NoTerms st fit = (fit, refl)
    Runs-summed v (MoreTerms place sign term others) st fit =
        seq h limit a _ _ _ _ (Runs-expression term st fit)
        (λ w later known. seq h limit a _ _ _ _ (Runs-two h limit a (operation_of_sign sign) v w later known) (λ x last more. Runs-summed x others last more))

    pub Runs-values : (list : Expressions) (st : State) → Fit h limit st → Runs h limit a (values rec h list st) (values after h list (pushed a st))
    Runs-values NoExpressions st fit = (fit, refl)
    Runs-values (MoreExpressions first others) st fit =
        seq h limit a _ _ _ _ (Runs-expression first st fit) (λ v later known. Runs-mapped h limit a _ _ _ (Runs-values others later known))

    pub Runs-passed : (unit : ℕ) (names : List Naming) (list : Expressions) (st : State) → Fit h limit st → Runs h limit a (passed rec h unit names list st) (passed after h unit names list (pushed a st))
    Runs-passed unit names NoExpressions st fit = (fit, refl)
    Runs-passed unit names (MoreExpressions first others) st fit =
        seq h limit a _ _ _ _ (Runs-argument (is_whole_parameter h unit names) _ _ _ _ st (Runs-chosen_by first st fit) (Runs-expression first st fit))
        (λ p later known. Runs-mapped h limit a _ _ _ (Runs-passed unit (after_first names) others later known))

    Runs-chosen_by : (tree : Expression) (st : State) → Fit h limit st → Runs h limit a (chosen_by rec h tree st) (chosen_by after h tree (pushed a st))
    Runs-chosen_by (Referred reference) st fit = Runs-chosen reference st fit
    Runs-chosen_by (Or place first others) st fit = (fit, refl)
    Runs-chosen_by (And place first others) st fit = (fit, refl)
    Runs-chosen_by (Compare place left relation right) st fit = (fit, refl)
    Runs-chosen_by (Cat place first others) st fit = (fit, refl)
    Runs-chosen_by (Sum place opening first others) st fit = (fit, refl)
    Runs-chosen_by (Product place first others) st fit = (fit, refl)
    Runs-chosen_by (Power place base exponent) st fit = (fit, refl)
    Runs-chosen_by (Not place operand) st fit = (fit, refl)
    Runs-chosen_by (Literal place literal) st fit = (fit, refl)
    Runs-chosen_by (Decimal place number) st fit = (fit, refl)
    Runs-chosen_by (Called place name arguments) st fit = (fit, refl)
    Runs-chosen_by (Convert place conversion operand) st fit = (fit, refl)
    Runs-chosen_by (Parenthesis place inner) st fit = (fit, refl)

    Runs-referred : (reference : Reference) (st : State) → Fit h limit st → Runs h limit a (referred rec h reference st) (referred after h reference (pushed a st))
    Runs-referred (Refers place name path subscript) st fit =
        Runs-subscripted path (λ shape before. data_chosen rec h path subscript (spot_named h name) shape before) (λ shape before. data_chosen after h path subscript (spot_named h name) shape before)
        (λ arrayed v later. component rec h arrayed subscript v later) (λ arrayed v later. component after h arrayed subscript v later) (name_meant h name st.kept.places) st fit
        (λ shape. Runs-data path subscript (spot_named h name) shape st fit) (λ arrayed v later known. Runs-component arrayed subscript v later known)

    pub Runs-chosen : (reference : Reference) (st : State) → Fit h limit st → Runs h limit a (chosen_data rec h reference st) (chosen_data after h reference (pushed a st))
    Runs-chosen (Refers place name path subscript) st fit = Runs-meant (λ shape before. data_chosen rec h path subscript (spot_named h name) shape before) (λ shape before. data_chosen after h path subscript (spot_named h name) shape before) (name_meant h name st.kept.places) st fit (λ shape. Runs-data path subscript (spot_named h name) shape st fit)

    Runs-data : (path : List Naming) (subscript : Subscript) (at : List Held → Spot) (shape : Shape) (st : State) → Fit h limit st
        → Runs h limit a (data_chosen rec h path subscript at shape st) (data_chosen after h path subscript at shape (pushed a st))
    Runs-data path Unsubscripted at shape st fit = (fit, refl)
    Runs-data path (ByName place name) at shape st fit = Runs-by_place path _ _ at shape st fit (Runs-named name st fit)
    Runs-data path (ByInteger place mark number) at shape st fit = Runs-by_place path (Gives (value.Int (pos number)) st) (Gives (value.Int (pos number)) (pushed a st)) at shape st fit (fit, refl)
    Runs-data path (ByParts place copies arrays components) at shape st fit =
        seq h limit a _ _ _ _ (Runs-indexes (copies_of shape) copies st fit)
        (λ is later known. seq h limit a _ _ _ _
        (Goes-if h.set.tables h.set.turns limit a (Fine h.set.tables h.set.turns limit) (is_none arrays) _ _ _ _
        (λ none. Runs-array (sizes_named path shape) components later known) (λ some. Runs-indexes (dimensions_of (sizes_named path shape)) arrays later known))
        (λ js last more. Runs-located h limit a (further (offset path shape.components) (at last.kept.places)) (kind_of_first (chosen path shape.components)) (spoken copies (copies_of shape) ++ dimensions_of (sizes_named path shape)) (is ++ js) last more))

    Runs-array : (sizes : List ℕ) (list : Subscripts) (st : State) → Fit h limit st → Runs h limit a (array_indexes rec h sizes list st) (array_indexes after h sizes list (pushed a st))
    Runs-array [] NoSubscripts st fit = (fit, refl)
    Runs-array [] (MoreSubscripts first others) st fit = (fit, refl)
    Runs-array (size ∷ sizes) NoSubscripts st fit = (fit, refl)
    Runs-array (size ∷ sizes) (MoreSubscripts first others) st fit =
        seq h limit a _ _ _ _ (Runs-index size first st fit) (λ i later known. Runs-mapped h limit a _ _ _ (Runs-array sizes others later known))

    Runs-indexes : (ds : List Dimension) (list : Subscripts) (st : State) → Fit h limit st → Runs h limit a (indexes rec h ds list st) (indexes after h ds list (pushed a st))
    Runs-indexes ds NoSubscripts st fit = (fit, refl)
    Runs-indexes ds (MoreSubscripts first others) st fit =
        seq h limit a _ _ _ _ (Runs-index (first_size ds) first st fit) (λ i later known. Runs-mapped h limit a _ _ _ (Runs-indexes (after_first_dimension ds) others later known))

    Runs-index : (size : ℕ) (sub : Sub) (st : State) → Fit h limit st → Runs h limit a (index rec h size sub st) (index after h size sub (pushed a st))
    Runs-index size (Every place) st fit = (fit, refl)
    Runs-index size (One one) st fit = Runs-mapped h limit a _ _ _ (Runs-position size one st fit)
    Runs-index size (Range first last) st fit =
        seq h limit a _ _ _ _ (Runs-position size first st fit) (λ i later known. Runs-mapped h limit a _ _ _ (Runs-position size last later known))
    Runs-index size (Portion many first) st fit =
        seq h limit a _ _ _ _ (Runs-expression many st fit) (λ m later known. Runs-mapped h limit a _ _ _ (Runs-position size first later known))

    Runs-position : (size : ℕ) (one : Position) (st : State) → Fit h limit st → Runs h limit a (position rec h size one st) (position after h size one (pushed a st))
    Runs-position size (FromBeginning one) st fit = Runs-mapped h limit a _ _ _ (Runs-expression one st fit)
    Runs-position size (FromEnd place terms) st fit = Runs-mapped h limit a _ _ _ (Runs-summed (value.Int (pos size)) terms st fit)

    Runs-component : (arrayed : Bool) (subscript : Subscript) (v : Value) (st : State) → Fit h limit st → Runs h limit a (component rec h arrayed subscript v st) (component after h arrayed subscript v (pushed a st))
    Runs-component arrayed Unsubscripted v st fit = (fit, refl)
    Runs-component arrayed (ByName place name) v st fit = Runs-unless arrayed _ _ v st fit (Runs-named name st fit)
    Runs-component arrayed (ByInteger place mark number) v st fit = Runs-unless arrayed (Gives (value.Int (pos number)) st) (Gives (value.Int (pos number)) (pushed a st)) v st fit (fit, refl)
    Runs-component arrayed (ByParts place copies arrays components) v st fit =
        Goes-if h.set.tables h.set.turns limit a (Fine h.set.tables h.set.turns limit) (arrayed && is_none arrays) _ _ _ _ (λ is. (fit, refl)) (λ is. Runs-parts components v st fit)

    Runs-parts : (list : Subscripts) (v : Value) (st : State) → Fit h limit st → Runs h limit a (parts_of rec h list v st) (parts_of after h list v (pushed a st))
    Runs-parts NoSubscripts v st fit = (fit, refl)
    Runs-parts (MoreSubscripts first others) v st fit =
        seq h limit a _ _ _ _ (Runs-part_chosen (place_count v) first st fit) (λ p later known. Runs-part h limit a p v later known)

    pub Runs-part_chosen : (size : ℕ) (sub : Sub) (st : State) → Fit h limit st → Runs h limit a (part_chosen rec h size sub st) (part_chosen after h size sub (pushed a st))
    Runs-part_chosen size (Every place) st fit = (fit, refl)
    Runs-part_chosen size (One one) st fit = Runs-mapped h limit a _ _ _ (Runs-position size one st fit)
    Runs-part_chosen size (Range first last) st fit =
        seq h limit a _ _ _ _ (Runs-position size first st fit) (λ i later known. Runs-mapped h limit a _ _ _ (Runs-position size last later known))
    Runs-part_chosen size (Portion many first) st fit =
        seq h limit a _ _ _ _ (Runs-expression many st fit) (λ m later known. Runs-mapped h limit a _ _ _ (Runs-position size first later known))
