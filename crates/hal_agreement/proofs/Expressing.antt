-- The code of an expression leaves the value on the stack that the tree gives.
use Rattle.std.specs.Prelude.{◌≡◌, ℕ, suc, ◌+◌, nat_lt, length, Bool, true, false, ◌&&◌, ◌||◌, List, [], ◌∷◌, ◌++◌, ℤ, pos, ◌+ℤ◌, ◌-ℤ◌, Option, Some, None, slice_get, if◌then◌else◌}
use Rattle.std.proofs.Common.{refl, sym, ap, subst, ◌∙◌}
use Rattle.std.proofs.Math.Path.{fun_ext}
use Rattle.hal_grammar.specs.Leaves.{Naming, Sign, Plus, Minus}
use Rattle.hal_grammar.specs.Expressions.{Expression, Or, And, Compare, Cat, Sum, Product, Power, Not, Literal, Decimal, Referred, Called, Convert, Parenthesis, Expressions, NoExpressions, MoreExpressions, Terms, NoTerms, MoreTerms, Reference, Refers, Subscript, Unsubscripted, ByName, ByInteger, ByParts, Subscripts, NoSubscripts, MoreSubscripts, Sub, Every, Range, Portion, One as OnePlace, Position, FromBeginning, FromEnd}
use Rattle.hal_phrases.specs.Phrases.{Node, Phrase}
use Rattle.hal_scope.specs.declared.builtin.Builtin.{Builtin}
use Rattle.hal_scope.specs.declared.builtin.Builtin.TheVariants as builtin
use Rattle.hal_operations.specs.declared.operation.Op1.{Op1}
use Rattle.hal_operations.specs.declared.operation.Op2.{Op2}
use Rattle.hal_operations.specs.declared.operation.Op1.TheVariants as op1
use Rattle.hal_operations.specs.declared.operation.Op2.TheVariants as op2
use Rattle.hal_operations.specs.Values.{value_of_one, value_of_two}
use Rattle.hal_operations.specs.Mended.{mended_of_one, mended_of_two}
use Rattle.hal_operations.specs.declared.part.Part.{Part}
use Rattle.hal_operations.specs.declared.part.Part.TheVariants as part
use Rattle.hal_operations.specs.Parts.{picked, mended_pick, place_count}
use Rattle.hal_constants.specs.declared.operation.Operation.{Operation}
use Rattle.hal_constants.specs.declared.operation.Operation.TheVariants as operation
use Rattle.hal_constants.specs.Naming.{operation_of}
use Rattle.hal_constants.specs.Constants.{is_none}
use Rattle.hal_values.specs.declared.request.Request.TheVariants as request
use Rattle.hal_values.specs.declared.request.Spot.TheVariants as asked
use Rattle.hal_values.specs.declared.value.Kind.{Kind}
use Rattle.hal_values.specs.declared.value.Kind.TheVariants as kind
use Rattle.hal_values.specs.declared.value.Value.{Value}
use Rattle.hal_values.specs.declared.value.Value.TheVariants as value
use Rattle.hal_values.specs.Answers.{Answered}
use Rattle.hal_values.specs.Tables.{event_count}
use Rattle.hal_states.specs.Spots.{Spot, Held, further}
use Rattle.hal_states.specs.Numbers.{integer_of}
use Rattle.hal_states.specs.OfKinds.{told}
use Rattle.hal_meaning.specs.Elements.{Shape, chosen, offset, kinds_of}
use Rattle.hal_meaning.specs.States.{State, Evaluated, Gives, Asks, Caught, Restarts, Lost, bind}
use Rattle.hal_meaning.specs.Access.{Here, ask, read}
use Rattle.hal_meaning.specs.Calls.{Parameter, parameter_named, Passed, Plain, Whole, call}
use Rattle.hal_meaning.specs.Bodies.{meant}
use Rattle.hal_meaning.specs.Variables.{Meant, MeantData, MeantConstant, MeantEvent, MeantBlock, MeantBuiltin, MeantNothing, meant_by, declaration_meant, builtin_meant, name_meant, spot_meant, spot_named, kind_of_first, Index, Single, Several, Dimension, dimensions_of, is_arrayed, is_whole}
use Rattle.hal_meaning.specs.Expressions.{literal_value, is_condition, becomes_condition, makes_condition, as_condition, as_operand, apply_one, apply_two, signed, exponent_of, operation_of_relation, operation_of_sign, operation_of_conversion, event_value, alone_value, plain_value, built, is_size, size_value, size_argument, inputs_at, call_form, subscripted, meant_chosen, expression, joined, folded, summed, values, argument, passed, chosen_by, referred, chosen_data, data_chosen, component, Located, located, named_value, sizes_named, copies_of, spoken, array_indexes, indexes, index, position, part_of, parts_of, part_chosen}
use Rattle.hal_meaning.specs.Tasks.{Meaning}
use Rattle.hal_code.specs.declared.choice.Choice.TheVariants as choice
use Rattle.hal_code.specs.declared.instr.Instr.{Instr}
use Rattle.hal_code.specs.declared.instr.Instr.TheVariants as instr
use Rattle.hal_code.specs.declared.operand.Places.{Places}
use Rattle.hal_code.specs.declared.operand.Places.TheVariants as places
use Rattle.hal_code.specs.declared.row.Target.{Target}
use Rattle.hal_code.specs.declared.row.Target.TheVariants as target
use Rattle.hal_code.specs.Cores.{Operand, Val, At, Area, Pushes, Step, Waits, Moves}
use Rattle.hal_code.specs.Images as machine
use Rattle.hal_code.specs.Addressing.{operand_of, pushed}
use Rattle.hal_code.specs.Raising.{stuck}
use Rattle.hal_code.specs.Computing.{part_taken, part_picked}
use Rattle.hal_code.specs.Machine.{act}
use Rattle.hal_agreement.specs.Codes.{Code}
use Rattle.hal_agreement.specs.Sites.{site_of, here_at}
use Rattle.hal_agreement.specs.PlacedExpressions.{One, pushes, two, AddressAt, ElementAt, AloneAt, CallAt, ValueAt, NameAt, EitherAt, PlaceAt, ArrayAt, array_spoken, single_dimensions, single_places, IsPosition, IsSpan, SpanAt, DataAt, SubscriptedAt, SignAt, OperandAt, ExpressionAt, JoinedAt, FoldedAt, TermsAt, CalledAt, BuiltAt, ArgumentsAt, WholeArgumentAt, WholeAt, ReferenceAt, ChosenAt, IndexesAt, PositionAt, ComponentAt, PartsAt, PartAt, picks, places_of}
use Rattle.hal_agreement.proofs.Calling.{IsArgument, AreArguments, function_reaches}
use Rattle.hal_agreement.proofs.Knowing.{Sound}
use Rattle.hal_agreement.proofs.Leading.{stays}
use Rattle.hal_agreement.proofs.Reaching.{Nest, setting, core_at, Reaches, bind_reaches, acts}
use Rattle.hal_agreement.proofs.Viewing.{further_none, address_reaches}
use Rattle.hal_agreement.proofs.Indexing.{laid, single, singles, element_reaches}
use Rattle.hal_agreement.proofs.Choosing.{Choice, OfOne, OfMany, values_of, indexes_of, Chooses, chooses_none, with_one, with_many, chooses_both, indexes_both, values_laid, as_many_values, as_many_indexes, located_chosen, located_same}
use Rattle.hal_agreement.proofs.Raising.{Standing, bind_bind, asks_then, tested_reaches, read_reaches}

-- what a declaration means goes by the site alone
meant_same : (h : Here) (held : List Held) (p : Phrase) (node : Node) → meant_by (here_at (site_of h)) held p node ≡ meant_by h held p node
meant_same h held p node = refl

abbrev declared_by : Here → List Held → Option Phrase → Meant
declared_by h held o = elim o [ None ↦ MeantNothing | Some p ↦ meant_by h held p p.node ]

declared_same : (h : Here) (held : List Held) (o : Option Phrase) → declared_by (here_at (site_of h)) held o ≡ declared_by h held o
declared_same h held None = refl
declared_same h held (Some p) = meant_same h held p p.node

abbrev named_by : Here → List Held → List ℕ → Option ℕ → Meant
named_by h held name o = elim o [ None ↦ builtin_meant name | Some k ↦ declaration_meant h held k ]

named_same : (h : Here) (held : List Held) (name : List ℕ) (o : Option ℕ) → named_by (here_at (site_of h)) held name o ≡ named_by h held name o
named_same h held name None = refl
named_same h held name (Some k) = declared_same h held (slice_get h.set.phrases k)

-- and so does what a name means
pub name_same : (h : Here) (name : List ℕ) (held : List Held) → name_meant (here_at (site_of h)) name held ≡ name_meant h name held
name_same h name held = named_same h held name (meant h.set.phrases h.block name)

-- and where its data begin
pub spot_same : (h : Here) (name : List ℕ) → spot_named (here_at (site_of h)) name ≡ spot_named h name
spot_same h name = fun_ext (λ held. ap spot_meant (name_same h name held))

-- SIZE goes by the site alone
size_same : (h : Here) (arguments : Expressions) (held : List Held) → size_argument (here_at (site_of h)) arguments held ≡ size_argument h arguments held
size_same h (MoreExpressions (Referred (Refers place name path subscript)) others) held = ap (λ m. size_value m path) (name_same h name held)
size_same h NoExpressions held = refl
size_same h (MoreExpressions (Or place first next) others) held = refl
size_same h (MoreExpressions (And place first next) others) held = refl
size_same h (MoreExpressions (Compare place left relation right) others) held = refl
size_same h (MoreExpressions (Cat place first next) others) held = refl
size_same h (MoreExpressions (Sum place opening first next) others) held = refl
size_same h (MoreExpressions (Product place first next) others) held = refl
size_same h (MoreExpressions (Power place base exponent) others) held = refl
size_same h (MoreExpressions (Not place operand) others) held = refl
size_same h (MoreExpressions (Literal place literal) others) held = refl
size_same h (MoreExpressions (Decimal place number) others) held = refl
size_same h (MoreExpressions (Called place name arguments) others) held = refl
size_same h (MoreExpressions (Convert place conversion operand) others) held = refl
size_same h (MoreExpressions (Parenthesis place inner) others) held = refl

-- a comparison with a zero raises no error
zero_compared : (h : Here) (v : Value) (st : State) → apply_two h op2.NotEqual v (value.Bits 1 0) st ≡ Gives (as_condition v) st
zero_compared h (value.Int a) st = refl
zero_compared h (value.Bits len word) st = refl
zero_compared h (value.Text text) st = refl

-- something is followed by the same
same_bind : {A B : Type 0} (r : Evaluated A) (go next : A → State → Evaluated B) → ((v : A) (st : State) → go v st ≡ next v st) → bind r go ≡ bind r next
same_bind (Gives v st) go next same = same v st
same_bind (Asks r k m) go next same = refl
same_bind (Caught level place st) go next same = refl
same_bind (Restarts k left) go next same = refl
same_bind Lost go next same = refl

-- what may come of a phrase in which something follows subscripts: a value, or nothing. What is proved of all phrases together can't speak of every type
pub data Outcome : Type 0 where
  OfValue OfNothing : Outcome

abbrev pub Of : Outcome → Type 0
Of OfValue = Value
Of OfNothing = Unit {0}

module _ (code : Code) (begin : ℕ) (rec : Meaning) (sound : Sound code begin rec) (h : Here) (n : Nest) (standing : Standing code h n) where
  -- a value is left on the stack, and control goes on there
  abbrev pub ValuesAt : ℕ → List Operand → List ℕ → Step → List Answered → Evaluated Value → Type 0
  ValuesAt to stack line step left r = Reaches (setting code begin h) n (λ v st. Some (Moves (core_at to (Val v ∷ stack) line n st))) step left r

  -- from an instruction on, with these operands
  abbrev pub From : ℕ → List Operand → List ℕ → State → Step
  From at stack line st = Moves (core_at at stack line n st)

  gives : (to : ℕ) (stack : List Operand) (line : List ℕ) (v : Value) (st : State) → ValuesAt to stack line (From to (Val v ∷ stack) line st) st.left (Gives v st)
  gives to stack line v st = record { holds = stays (setting code begin h) _ st.left }

  -- an instruction that is the last one
  last : (i : Instr) (at to : ℕ) (before stack : List Operand) (line : List ℕ) (st : State) (r : Evaluated Value) → One code at i to
      → ValuesAt (suc at) stack line (act (setting code begin h) i (core_at at before line n st)) st.left r → ValuesAt to stack line (From at before line st) st.left r
  last i at to before stack line st r one is =
      subst (λ end. ValuesAt end stack line (From at before line st) st.left r) one.1
      (acts (setting code begin h) n (λ v after. Some (Moves (core_at (suc at) (Val v ∷ stack) line n after))) (core_at at before line n st) st.left i r one.0 is)

  -- a value is followed by something
  then_reaches : (middle to : ℕ) (under stack : List Operand) (line : List ℕ) (step : Step) (left : List Answered) (r : Evaluated Value) (go : Value → State → Evaluated Value)
      → ValuesAt middle under line step left r → ((v : Value) (st : State) → ValuesAt to stack line (From middle (Val v ∷ under) line st) st.left (go v st)) → ValuesAt to stack line step left (bind r go)
  then_reaches middle to under stack line step left r go is each =
      bind_reaches (setting code begin h) n (λ v st. From middle (Val v ∷ under) line st) (λ v st. Some (Moves (core_at to (Val v ∷ stack) line n st))) step left r go is each

  pushed_reaches : (v : Value) (at : ℕ) (stack : List Operand) (line : List ℕ) (st : State) → ValuesAt (suc at) stack line (act (setting code begin h) (pushes v) (core_at at stack line n st)) st.left (Gives v st)
  pushed_reaches (value.Int a) at stack line st = gives (suc at) stack line (value.Int a) st
  pushed_reaches (value.Bits len word) at stack line st = gives (suc at) stack line (value.Bits len word) st
  pushed_reaches (value.Text text) at stack line st = gives (suc at) stack line (value.Text text) st

  -- a value that is written in the code
  pub constant_reaches : (v : Value) (from to : ℕ) (stack : List Operand) (line : List ℕ) (st : State) → One code from (pushes v) to → ValuesAt to stack line (From from stack line st) st.left (Gives v st)
  constant_reaches v from to stack line st one = last (pushes v) from to stack stack line st (Gives v st) one (pushed_reaches v from stack line st)

  one_reaches : (op : Op1) (at to : ℕ) (v : Value) (stack : List Operand) (line : List ℕ) (st : State) → One code at (instr.Op1 (choice.Known op)) to → ValuesAt to stack line (From at (Val v ∷ stack) line st) st.left (apply_one h op v st)
  one_reaches op at to v stack line st one =
      last (instr.Op1 (choice.Known op)) at to (Val v ∷ stack) stack line st (apply_one h op v st) one
      (tested_reaches code begin h n standing (value_of_one op v) (mended_of_one op v) at (Val v ∷ stack) stack line st)

  two_reaches : (op : Op2) (at to : ℕ) (v w : Value) (stack : List Operand) (line : List ℕ) (st : State) → One code at (two op) to → ValuesAt to stack line (From at (Val w ∷ Val v ∷ stack) line st) st.left (apply_two h op v w st)
  two_reaches op at to v w stack line st one =
      last (two op) at to (Val w ∷ Val v ∷ stack) stack line st (apply_two h op v w st) one
      (tested_reaches code begin h n standing (value_of_two op v w) (mended_of_two op v w) at (Val w ∷ Val v ∷ stack) stack line st)

  -- an operand of AND or OR, as it is or compared with a zero
  operand_reaches : (becomes : Bool) (from to : ℕ) (v : Value) (stack : List Operand) (line : List ℕ) (st : State) → OperandAt code becomes from to
      → ValuesAt to stack line (From from (Val v ∷ stack) line st) st.left (Gives (as_operand becomes v) st)
  operand_reaches true from to v stack line st here =
      acts (setting code begin h) n _ (core_at from (Val v ∷ stack) line n st) st.left (instr.Bits 1 0) _ here.0
      (subst (λ r. ValuesAt to stack line (From (suc from) (Val (value.Bits 1 0) ∷ Val v ∷ stack) line st) st.left r) (zero_compared h v st) (two_reaches op2.NotEqual (suc from) to v (value.Bits 1 0) stack line st here.1))
  operand_reaches false from to v stack line st same = subst (λ end. ValuesAt end stack line (From from (Val v ∷ stack) line st) st.left (Gives v st)) same (gives from stack line v st)

  -- the value of data
  data_reaches : (k : Kind) (spot : Spot) (from to : ℕ) (stack : List Operand) (line : List ℕ) (st : State) → AddressAt code st.kept.places k spot from → One code (suc from) instr.Fetch to
      → ValuesAt to stack line (From from stack line st) st.left (read h k spot st)
  data_reaches k spot from to stack line st at fetch =
      address_reaches code begin h n (λ v after. Some (Moves (core_at to (Val v ∷ stack) line n after))) k spot from stack line st (read h k spot st) at
      (last instr.Fetch (suc from) to (At spot k ∷ stack) stack line st (read h k spot st) fetch (read_reaches code begin h n standing (suc from) (At spot k ∷ stack) stack line k spot st))

  event_in : (b : Bool) (e from : ℕ) (stack : List Operand) (line : List ℕ) (st : State)
      → ValuesAt (suc from) stack line (if b then Waits (request.Read (asked.Event e)) (Pushes (kind.Bits 1)) (core_at (suc from) stack line n st) else pushed (value.Bits 1 0) stack (core_at from stack line n st)) st.left
      (if b then bind (ask (request.Read (asked.Event e)) st) (λ answer after. Gives (told (kind.Bits 1) answer) after) else Gives (value.Bits 1 0) st)
  event_in true e from stack line st =
      asks_then code begin h n _ (request.Read (asked.Event e)) (Pushes (kind.Bits 1)) (core_at (suc from) stack line n st) st.entries st.left (λ a after. Gives a after) (λ a after. Gives (told (kind.Bits 1) a) after)
      (λ a rest. record { holds = stays (setting code begin h) _ rest })
  event_in false e from stack line st = gives (suc from) stack line (value.Bits 1 0) st

  event_reaches : (e from to : ℕ) (stack : List Operand) (line : List ℕ) (st : State) → One code from (instr.Event e) to → ValuesAt to stack line (From from stack line st) st.left (event_value h e st)
  event_reaches e from to stack line st one =
      last (instr.Event e) from to stack stack line st (event_value h e st) one (event_in (nat_lt e (event_count h.set.tables)) e from stack line st)

  alone_reaches : (b : Builtin) (from to : ℕ) (stack : List Operand) (line : List ℕ) (st : State) → AloneAt code b from to → ValuesAt to stack line (From from stack line st) st.left (alone_value b st)
  alone_reaches builtin.Errgrp from to stack line st one =
      last instr.ErrGrp from to stack stack line st (Gives (value.Int (pos st.kept.last.group)) st) one (gives (suc from) stack line (value.Int (pos st.kept.last.group)) st)
  alone_reaches builtin.Errnum from to stack line st one =
      last instr.ErrNum from to stack stack line st (Gives (value.Int (pos st.kept.last.number)) st) one (gives (suc from) stack line (value.Int (pos st.kept.last.number)) st)
  alone_reaches builtin.Runtime from to stack line st one =
      last instr.Now from to stack stack line st (alone_value builtin.Runtime st) one
      (asks_then code begin h n _ request.Now (Pushes kind.Double) (core_at (suc from) stack line n st) st.entries st.left (λ a after. Gives a after) (λ a after. Gives (told kind.Double a) after)
      (λ a rest. record { holds = stays (setting code begin h) _ rest }))
  alone_reaches other from to stack line st one = absurd one

  -- a FUNCTION without arguments
  plain_call : (unit from to : ℕ) (stack : List Operand) (line : List ℕ) (st : State) → inputs_at h.set unit ≡ [] → CallAt code (site_of h) unit true from to → ValuesAt to stack line (From from stack line st) st.left (call rec h unit [] [] st)
  plain_call unit from to stack line st none here =
      function_reaches code begin rec sound h n standing unit [] from to stack stack line st here (subst (λ names. AreArguments code begin rec sound h n standing unit names [] stack stack) (sym none) refl)

  -- what a name means, without subscripts
  value_reaches : (path : List Naming) (m : Meant) (from to : ℕ) (stack : List Operand) (line : List ℕ) (st : State) → ValueAt code (site_of h) path st.kept.places m from to
      → ValuesAt to stack line (From from stack line st) st.left (plain_value rec h path m st)
  value_reaches path (MeantData at shape) from to stack line st here =
      data_reaches (kind_of_first (chosen path shape.components)) (further (offset path shape.components) at) from to stack line st here.0 here.1
  value_reaches path (MeantConstant v) from to stack line st here = constant_reaches v from to stack line st here
  value_reaches path (MeantEvent e) from to stack line st here = event_reaches e from to stack line st here
  value_reaches path (MeantBlock unit) from to stack line st here = plain_call unit from to stack line st here.0 here.1
  value_reaches path (MeantBuiltin b) from to stack line st here = alone_reaches b from to stack line st here
  value_reaches path MeantNothing from to stack line st here = absurd here

  -- and nothing more is done with it
  kept_reaches : (to : ℕ) (stack : List Operand) (line : List ℕ) (step : Step) (left : List Answered) (r : Evaluated Value) → ValuesAt to stack line step left r → ValuesAt to stack line step left (bind r (λ v after. Gives v after))
  kept_reaches to stack line step left r is = then_reaches to to stack stack line step left r (λ v after. Gives v after) is (λ v after. gives to stack line v after)

  meant_reaches : (spot : List Held → Spot) (path : List Naming) (m : Meant) (from to : ℕ) (stack : List Operand) (line : List ℕ) (st : State) → spot st.kept.places ≡ spot_meant m → ValueAt code (site_of h) path st.kept.places m from to
      → ValuesAt to stack line (From from stack line st) st.left
      (subscripted rec h path (λ shape before. data_chosen rec h path Unsubscripted spot shape before) (λ arrayed v after. component rec h arrayed Unsubscripted v after) m st)
  meant_reaches spot path (MeantData at shape) from to stack line st same here =
      subst (λ place. ValuesAt to stack line (From from stack line st) st.left (bind (read h (kind_of_first (chosen path shape.components)) (further (offset path shape.components) place) st) (λ v after. Gives v after))) (sym same)
      (kept_reaches to stack line (From from stack line st) st.left _ (value_reaches path (MeantData at shape) from to stack line st here))
  meant_reaches spot path (MeantConstant v) from to stack line st same here = constant_reaches v from to stack line st here
  meant_reaches spot path (MeantEvent e) from to stack line st same here = kept_reaches to stack line (From from stack line st) st.left _ (event_reaches e from to stack line st here)
  meant_reaches spot path (MeantBlock unit) from to stack line st same here = kept_reaches to stack line (From from stack line st) st.left _ (plain_call unit from to stack line st here.0 here.1)
  meant_reaches spot path (MeantBuiltin b) from to stack line st same here = kept_reaches to stack line (From from stack line st) st.left _ (alone_reaches b from to stack line st here)
  meant_reaches spot path MeantNothing from to stack line st same here = absurd here

  -- a value that is done with
  done : (from to : ℕ) (v : Value) (stack : List Operand) (line : List ℕ) (st : State) → from ≡ to → ValuesAt to stack line (From from (Val v ∷ stack) line st) st.left (Gives v st)
  done from to v stack line st same = subst (λ end. ValuesAt end stack line (From from (Val v ∷ stack) line st) st.left (Gives v st)) same (gives from stack line v st)

  -- a name without subscripts
  pub named_reaches : (name : List ℕ) (path : List Naming) (from to : ℕ) (stack : List Operand) (line : List ℕ) (st : State) → NameAt code (site_of h) name path from to
      → ValuesAt to stack line (From from stack line st) st.left (plain_value rec h path (name_meant h name st.kept.places) st)
  named_reaches name path from to stack line st here =
      value_reaches path (name_meant h name st.kept.places) from to stack line st (subst (λ m. ValueAt code (site_of h) path st.kept.places m from to) (name_same h name st.kept.places) (here st.kept.places))

  -- something is done with the address on the stack, as it is with the data that the tree chooses
  abbrev pub Addressed : {A : Type 0} (fine : A → State → Option Step) (given : Target) (k : Kind) (to : ℕ) (stack : List Operand) (line : List ℕ) (go : Located → State → Evaluated A) → Type 0
  Addressed fine given k to stack line go = (place : Spot) (after : State) → Reaches (setting code begin h) n fine (From to (operand_of given place ∷ stack) line after) after.left (go (record { at = place; kind = k }) after)

  -- the address of an element, behind its places
  element_address : {A : Type 0} (fine : A → State → Option Step) (ds : List Dimension) (given : Target) (k : Kind) (spot : List Held → Spot) (vs : List Value) (from to : ℕ) (stack : List Operand) (line : List ℕ) (st : State) (go : Located → State → Evaluated A)
      → ElementAt code ds given spot from → suc from ≡ to → length vs ≡ length ds → Addressed fine given k to stack line go
      → Reaches (setting code begin h) n fine (From from (laid vs stack) line st) st.left (bind (located h (spot st.kept.places) k ds (singles vs) st) go)
  element_address fine ds given k spot vs from to stack line st go at same many each =
      element_reaches code begin h n standing fine ds given k spot vs from stack line st go at many
      (λ place after. subst (λ end. Reaches (setting code begin h) n fine (From end (operand_of given place ∷ stack) line after) after.left (go (record { at = place; kind = k }) after)) (sym same) (each place after))

  -- the address of data without subscripts, behind which something is done
  plain_address : {A : Type 0} (fine : A → State → Option Step) (given : Target) (k : Kind) (spot : List Held → Spot) (from to : ℕ) (stack : List Operand) (line : List ℕ) (st : State) (go : Located → State → Evaluated A)
      → ElementAt code [] given spot from → suc from ≡ to → Addressed fine given k to stack line go
      → Reaches (setting code begin h) n fine (From from stack line st) st.left (go (record { at = spot st.kept.places; kind = k }) st)
  plain_address fine given k spot from to stack line st go at same each =
      subst (λ place. Reaches (setting code begin h) n fine (From from stack line st) st.left (go (record { at = place; kind = k }) st)) (further_none (spot st.kept.places))
      (element_address fine [] given k spot [] from to stack line st go at same refl each)

  -- a subscript without a mark: it is the array's where there is one
  place_reaches : {A : Type 0} (fine : A → State → Option Step) (placed : ℕ → ℕ → Type 0) (place : Evaluated Value) (given : Target) (k : Kind) (spot : List Held → Spot) (sizes : List ℕ) (from to : ℕ) (stack : List Operand) (line : List ℕ) (st : State)
      (go : Located → State → Evaluated A) → ((middle : ℕ) → placed from middle → ValuesAt middle stack line (From from stack line st) st.left place)
      → PlaceAt code placed given spot sizes from to → Addressed fine given k to stack line go
      → Reaches (setting code begin h) n fine (From from stack line st) st.left
      (bind (if is_arrayed sizes then bind place (λ v after. located h (spot after.kept.places) k (dimensions_of sizes) (Single (integer_of v) ∷ []) after) else Gives (record { at = spot st.kept.places; kind = k }) st) go)
  place_reaches fine placed place given k spot [] from to stack line st go stands here each = plain_address fine given k spot from to stack line st go here.0 here.1 each
  place_reaches fine placed place given k spot (n1 ∷ ns) from to stack line st go stands here each =
      subst (λ r. Reaches (setting code begin h) n fine (From from stack line st) st.left r)
      (sym (bind_bind place (λ v after. located h (spot after.kept.places) k (dimensions_of (n1 ∷ ns)) (Single (integer_of v) ∷ []) after) go))
      (bind_reaches (setting code begin h) n (λ v after. From here.0 (Val v ∷ stack) line after) fine _ st.left place (λ v after. bind (located h (spot after.kept.places) k (dimensions_of (n1 ∷ ns)) (Single (integer_of v) ∷ []) after) go) (stands here.0 here.1)
      (λ v after. element_address fine (dimensions_of (n1 ∷ ns)) given k spot (v ∷ []) here.0 to stack line after go here.3 here.4 (ap (λ sizes. length (dimensions_of (n1 ∷ sizes))) (sym here.2)) each))

  -- one more subscript of an array without a mark
  array_more : (size : ℕ) (sizes : List ℕ) (sub : Sub) (others : Subscripts) (st : State) → ((after : State) → array_indexes rec h sizes others after ≡ indexes rec h (dimensions_of sizes) others after)
      → array_indexes rec h (size ∷ sizes) (MoreSubscripts sub others) st ≡ indexes rec h (dimensions_of (size ∷ sizes)) (MoreSubscripts sub others) st
  array_more size sizes sub others st same =
      same_bind (index rec h size sub st) (λ i after. bind (array_indexes rec h sizes others after) (λ is later. Gives (i ∷ is) later)) (λ i after. bind (indexes rec h (dimensions_of sizes) others after) (λ is later. Gives (i ∷ is) later))
      (λ i after. ap (λ r. bind r (λ is later. Gives (i ∷ is) later)) (same after))

  -- array subscripts without a mark are places of the array's dimensions
  array_same : (sizes : List ℕ) (list : Subscripts) (before from to : ℕ) (st : State) → IndexesAt code (site_of h) (dimensions_of sizes) list before from to → array_indexes rec h sizes list st ≡ indexes rec h (dimensions_of sizes) list st
  array_same [] NoSubscripts before from to st here = refl
  array_same (size ∷ sizes) (MoreSubscripts (OnePlace one) others) before from to st here = array_more size sizes (OnePlace one) others st (λ after. array_same sizes others before here.0 to after here.2)
  array_same (size ∷ sizes) (MoreSubscripts (Every place) others) before from to st here = array_more size sizes (Every place) others st (λ after. array_same sizes others here.1 from to after here.4)
  array_same (size ∷ sizes) (MoreSubscripts (Range first behind) others) before from to st here = array_more size sizes (Range first behind) others st (λ after. array_same sizes others here.1 from to after here.4)
  array_same (size ∷ sizes) (MoreSubscripts (Portion count first) others) before from to st here = array_more size sizes (Portion count first) others st (λ after. array_same sizes others here.1 from to after here.4)
  array_same [] (MoreSubscripts first others) before from to st here = absurd here
  array_same (size ∷ sizes) NoSubscripts before from to st here = absurd here

  -- copies without subscripts have no places
  spoken_same : (list : Subscripts) (ds : List Dimension) (st : State) → indexes rec h ds list st ≡ indexes rec h (spoken list ds) list st
  spoken_same NoSubscripts ds st = refl
  spoken_same (MoreSubscripts first others) ds st = refl

  -- a constant place
  position_given : (size : ℕ) (one : Position) (k : ℤ) (st : State) → IsPosition (site_of h) size one k → position rec h size one st ≡ Gives k st
  position_given size (FromBeginning one) k st is = ap (λ r. bind r (λ v after. Gives (integer_of v) after)) (is rec h st refl)
  position_given size (FromEnd place terms) k st is = ap (λ r. bind r (λ v after. Gives (integer_of v) after)) (is rec h st refl)

  -- several constant places
  span_given : (size : ℕ) (sub : Sub) (first last : ℤ) (st : State) → IsSpan (site_of h) size sub first last → index rec h size sub st ≡ Gives (Several first last) st
  span_given size (Every place) first last st is = ap (λ k. Gives (Several k (pos size)) st) (sym is.0) ∙ ap (λ k. Gives (Several first k) st) (sym is.1)
  span_given size (OnePlace one) first last st is = absurd is
  span_given size (Range one other) first last st is =
      ap (λ r. bind r (λ i after. bind (position rec h size other after) (λ j later. Gives (Several i j) later))) (position_given size one first st is.0)
      ∙ ap (λ r. bind r (λ j later. Gives (Several first j) later)) (position_given size other last st is.1)
  span_given size (Portion count one) first last st is =
      ap (λ r. bind r (λ n after. bind (position rec h size one after) (λ i later. Gives (Several i ((i +ℤ integer_of n) -ℤ pos 1)) later))) (is.1 rec h st refl)
      ∙ (ap (λ r. bind r (λ i later. Gives (Several i ((i +ℤ is.0) -ℤ pos 1)) later)) (position_given size one first st is.2)
      ∙ ap (λ k. Gives (Several first k) st) (sym is.3))

  -- what is chosen leaves values on these operands, and something is done with them
  abbrev Laying : {A : Type 0} (fine : A → State → Option Step) (ds left : List Dimension) (before to : ℕ) (stack : List Operand) (line : List ℕ) (go : List Index → State → Evaluated A) → Type 0
  Laying fine ds left before to stack line go =
      (cs : List Choice) (after : State) → Chooses ds left before cs → Reaches (setting code begin h) n fine (From to (laid (values_of cs) stack) line after) after.left (go (indexes_of cs) after)

  -- the places of a list are, wherever they stand
  abbrev Lays : {A : Type 0} (fine : A → State → Option Step) (ds : List Dimension) (list : Subscripts) (before from to : ℕ) (stack : List Operand) (line : List ℕ) (st : State) → Type 0
  Lays {A} fine ds list before from to stack line st =
      (go : List Index → State → Evaluated A) → IndexesAt code (site_of h) ds list before from to → Laying fine ds (single_dimensions ds list) before to stack line go
      → Reaches (setting code begin h) n fine (From from stack line st) st.left (bind (indexes rec h ds list st) go)

  -- there are no places
  none_laid : {A : Type 0} (fine : A → State → Option Step) (before from to : ℕ) (stack : List Operand) (line : List ℕ) (st : State) (go : List Index → State → Evaluated A) → before ≡ 0 → from ≡ to → Laying fine [] [] before to stack line go
      → Reaches (setting code begin h) n fine (From from stack line st) st.left (go [] st)
  none_laid fine before from to stack line st go none same each =
      subst (λ begins. Reaches (setting code begin h) n fine (From begins stack line st) st.left (go [] st)) (sym same) (each [] st (chooses_none before none))

  -- several places are constant: nothing is done for them
  behind_span : {A : Type 0} (fine : A → State → Option Step) (d : Dimension) (ds : List Dimension) (sub : Sub) (others : Subscripts) (first last : ℤ) (from : ℕ) (stack : List Operand) (line : List ℕ) (st : State) (go : List Index → State → Evaluated A)
      → index rec h d.size sub st ≡ Gives (Several first last) st
      → Reaches (setting code begin h) n fine (From from stack line st) st.left (bind (indexes rec h ds others st) (λ is later. go (Several first last ∷ is) later))
      → Reaches (setting code begin h) n fine (From from stack line st) st.left (bind (indexes rec h (d ∷ ds) (MoreSubscripts sub others) st) go)
  behind_span fine d ds sub others first last from stack line st go is goes =
      subst (λ r. Reaches (setting code begin h) n fine (From from stack line st) st.left r)
      (sym (ap (λ r. bind (bind r (λ i after. bind (indexes rec h ds others after) (λ is later. Gives (i ∷ is) later))) go) is
      ∙ bind_bind (indexes rec h ds others st) (λ is later. Gives (Several first last ∷ is) later) go)) goes

  -- subscripts without a mark
  array_reaches : {A : Type 0} (fine : A → State → Option Step) (sizes : List ℕ) (list : Subscripts) (before from to : ℕ) (stack : List Operand) (line : List ℕ) (st : State) (go : List Index → State → Evaluated A)
      → Lays fine (spoken list (dimensions_of sizes)) list before from to stack line st → ArrayAt (λ begins ends. IndexesAt code (site_of h) (spoken list (dimensions_of sizes)) list before begins ends) sizes before from to
      → Laying fine (spoken list (dimensions_of sizes)) (single_dimensions (spoken list (dimensions_of sizes)) list) before to stack line go
      → Reaches (setting code begin h) n fine (From from stack line st) st.left (bind (array_indexes rec h sizes list st) go)
  array_reaches fine [] NoSubscripts before from to stack line st go places here each = none_laid fine before from to stack line st go here.0 here.1 each
  array_reaches fine [] (MoreSubscripts first others) before from to stack line st go places here each = none_laid fine before from to stack line st go here.0 here.1 each
  array_reaches fine (size ∷ sizes) NoSubscripts before from to stack line st go places here each = none_laid fine before from to stack line st go here.0 here.1 each
  array_reaches fine (size ∷ sizes) (MoreSubscripts first others) before from to stack line st go places here each =
      subst (λ r. Reaches (setting code begin h) n fine (From from stack line st) st.left (bind r go)) (sym (array_same (size ∷ sizes) (MoreSubscripts first others) before from to st here)) (places go here each)

  -- subscripts of an array, with a mark behind them or without one
  either_reaches : {A : Type 0} (fine : A → State → Option Step) (unmarked : Bool) (sizes : List ℕ) (components arrays : Subscripts) (before from to : ℕ) (stack : List Operand) (line : List ℕ) (st : State) (go : List Index → State → Evaluated A)
      → Lays fine (spoken components (dimensions_of sizes)) components before from to stack line st → Lays fine (dimensions_of sizes) arrays before from to stack line st
      → EitherAt unmarked (λ begins ends. ArrayAt (λ first behind. IndexesAt code (site_of h) (spoken components (dimensions_of sizes)) components before first behind) sizes before begins ends)
      (λ begins ends. IndexesAt code (site_of h) (dimensions_of sizes) arrays before begins ends) from to
      → Laying fine (array_spoken unmarked components (dimensions_of sizes)) (single_places unmarked components arrays (dimensions_of sizes)) before to stack line go
      → Reaches (setting code begin h) n fine (From from stack line st) st.left (bind (if unmarked then array_indexes rec h sizes components st else indexes rec h (dimensions_of sizes) arrays st) go)
  either_reaches fine true sizes components arrays before from to stack line st go first second here each = array_reaches fine sizes components before from to stack line st go first here each
  either_reaches fine false sizes components arrays before from to stack line st go first second here each = second go here each

  -- the address of an element behind the places of copies, which lie on the stack, and of its array
  behind_copies : {A : Type 0} (fine : A → State → Option Step) (unmarked : Bool) (ds left : List Dimension) (skipped : ℕ) (sizes : List ℕ) (components arrays : Subscripts) (passed : ℕ) (given : Target) (k : Kind) (spot : List Held → Spot) (cs : List Choice)
      (from middle to : ℕ) (stack : List Operand) (line : List ℕ) (st : State) (go : Located → State → Evaluated A)
      → Lays fine (spoken components (dimensions_of sizes)) components passed from middle (laid (values_of cs) stack) line st → Lays fine (dimensions_of sizes) arrays passed from middle (laid (values_of cs) stack) line st
      → EitherAt unmarked (λ begins ends. ArrayAt (λ first behind. IndexesAt code (site_of h) (spoken components (dimensions_of sizes)) components passed first behind) sizes passed begins ends)
      (λ begins ends. IndexesAt code (site_of h) (dimensions_of sizes) arrays passed begins ends) from middle
      → ElementAt code (left ++ single_places unmarked components arrays (dimensions_of sizes)) given (λ held. further (skipped + passed) (spot held)) middle → suc middle ≡ to → Chooses ds left skipped cs → Addressed fine given k to stack line go
      → Reaches (setting code begin h) n fine (From from (laid (values_of cs) stack) line st) st.left
      (bind (bind (if unmarked then array_indexes rec h sizes components st else indexes rec h (dimensions_of sizes) arrays st) (λ js later. located h (spot later.kept.places) k (ds ++ dimensions_of sizes) (indexes_of cs ++ js) later)) go)
  behind_copies fine unmarked ds left skipped sizes components arrays passed given k spot cs from middle to stack line st go first second here at same are each =
      subst (λ r. Reaches (setting code begin h) n fine (From from (laid (values_of cs) stack) line st) st.left r)
      (sym (bind_bind (if unmarked then array_indexes rec h sizes components st else indexes rec h (dimensions_of sizes) arrays st) (λ js later. located h (spot later.kept.places) k (ds ++ dimensions_of sizes) (indexes_of cs ++ js) later) go))
      (either_reaches fine unmarked sizes components arrays passed from middle (laid (values_of cs) stack) line st (λ js later. bind (located h (spot later.kept.places) k (ds ++ dimensions_of sizes) (indexes_of cs ++ js) later) go) first second here
      (λ es later more.
      let spokens = array_spoken unmarked components (dimensions_of sizes) in
      let ones = single_places unmarked components arrays (dimensions_of sizes) in
      let both = chooses_both ds left skipped cs spokens ones passed es are more in
      let place : located h (spot later.kept.places) k (ds ++ dimensions_of sizes) (indexes_of cs ++ indexes_of es) later ≡ located h (further (skipped + passed) (spot later.kept.places)) k (left ++ ones) (singles (values_of (cs ++ es))) later =
      ap (λ is. located h (spot later.kept.places) k (ds ++ dimensions_of sizes) is later) (sym (indexes_both cs es))
      ∙ (located_same h (spot later.kept.places) k unmarked components ds (dimensions_of sizes) (indexes_of (cs ++ es)) later (as_many_indexes (ds ++ spokens) (left ++ ones) (skipped + passed) (cs ++ es) both)
      ∙ located_chosen h (spot later.kept.places) k later (ds ++ spokens) (left ++ ones) (skipped + passed) (cs ++ es) both) in
      subst (λ below. Reaches (setting code begin h) n fine (From middle below line later) later.left (bind (located h (spot later.kept.places) k (ds ++ dimensions_of sizes) (indexes_of cs ++ indexes_of es) later) go)) (values_laid cs es stack)
      (subst (λ l. Reaches (setting code begin h) n fine (From middle (laid (values_of (cs ++ es)) stack) line later) later.left (bind l go)) (sym place)
      (element_address fine (left ++ ones) given k (λ held. further (skipped + passed) (spot held)) (values_of (cs ++ es)) middle to stack line later go at same (as_many_values (ds ++ spokens) (left ++ ones) (skipped + passed) (cs ++ es) both) each))))

  -- what a name means, with a subscript: its data are addressed, they are read, and then comes their component
  subscripted_reaches : (path : List Naming) (choose : Shape → State → Evaluated Located) (part : Bool → Value → State → Evaluated Value) (address : Shape → ℕ → ℕ → Type 0) (parted : Bool → ℕ → ℕ → Type 0) (m : Meant) (from to : ℕ)
      (stack : List Operand) (line : List ℕ) (st : State)
      → ((shape : Shape) (middle : ℕ) (go : Located → State → Evaluated Value) → address shape from middle
      → Addressed (λ v after. Some (From to (Val v ∷ stack) line after)) (target.Cell (kind_of_first (chosen path shape.components))) (kind_of_first (chosen path shape.components)) middle stack line go → ValuesAt to stack line (From from stack line st) st.left (bind (choose shape st) go))
      → ((arrayed : Bool) (begins : ℕ) (v : Value) (after : State) → parted arrayed begins to → ValuesAt to stack line (From begins (Val v ∷ stack) line after) after.left (part arrayed v after))
      → SubscriptedAt code (site_of h) path st.kept.places address parted m from to → ValuesAt to stack line (From from stack line st) st.left (subscripted rec h path choose part m st)
  subscripted_reaches path choose part address parted (MeantData at shape) from to stack line st chooses parts here =
      chooses shape here.0 (λ l after. bind (read h l.kind l.at after) (λ v later. part (is_arrayed (sizes_named path shape)) v later)) here.1
      (λ place after. then_reaches (suc here.0) to stack stack line _ after.left (read h (kind_of_first (chosen path shape.components)) place after) (λ v later. part (is_arrayed (sizes_named path shape)) v later)
      (last instr.Fetch here.0 (suc here.0) (At place (kind_of_first (chosen path shape.components)) ∷ stack) stack line after (read h (kind_of_first (chosen path shape.components)) place after) (here.2, refl)
      (read_reaches code begin h n standing here.0 (At place (kind_of_first (chosen path shape.components)) ∷ stack) stack line (kind_of_first (chosen path shape.components)) place after))
      (λ v later. parts (is_arrayed (sizes_named path shape)) (suc here.0) v later here.3))
  subscripted_reaches path choose part address parted (MeantConstant w) from to stack line st chooses parts here =
      then_reaches here.0 to stack stack line _ st.left _ _ (value_reaches path (MeantConstant w) from here.0 stack line st here.1) (λ v after. parts false here.0 v after here.2)
  subscripted_reaches path choose part address parted (MeantEvent e) from to stack line st chooses parts here =
      then_reaches here.0 to stack stack line _ st.left _ _ (value_reaches path (MeantEvent e) from here.0 stack line st here.1) (λ v after. parts false here.0 v after here.2)
  subscripted_reaches path choose part address parted (MeantBlock unit) from to stack line st chooses parts here =
      then_reaches here.0 to stack stack line _ st.left _ _ (value_reaches path (MeantBlock unit) from here.0 stack line st here.1) (λ v after. parts false here.0 v after here.2)
  subscripted_reaches path choose part address parted (MeantBuiltin b) from to stack line st chooses parts here =
      then_reaches here.0 to stack stack line _ st.left _ _ (value_reaches path (MeantBuiltin b) from here.0 stack line st here.1) (λ v after. parts false here.0 v after here.2)
  subscripted_reaches path choose part address parted MeantNothing from to stack line st chooses parts here = absurd here.1

  -- data that a name with a subscript means go by the site alone
  marked_same : (name : List ℕ) (path : List Naming) (subscript : Subscript) (held : List Held) (from to : ℕ)
      → SubscriptedAt code (site_of h) path held (λ shape begins ends. ChosenAt code (site_of h) (target.Cell (kind_of_first (chosen path shape.components))) path subscript (spot_named (here_at (site_of h)) name) shape begins ends) (λ arrayed begins ends. ComponentAt code (site_of h) arrayed subscript begins ends)
      (name_meant (here_at (site_of h)) name held) from to
      → SubscriptedAt code (site_of h) path held (λ shape begins ends. ChosenAt code (site_of h) (target.Cell (kind_of_first (chosen path shape.components))) path subscript (spot_named h name) shape begins ends) (λ arrayed begins ends. ComponentAt code (site_of h) arrayed subscript begins ends) (name_meant h name held) from to
  marked_same name path subscript held from to here =
      subst (λ spot. SubscriptedAt code (site_of h) path held (λ shape begins ends. ChosenAt code (site_of h) (target.Cell (kind_of_first (chosen path shape.components))) path subscript spot shape begins ends) (λ arrayed begins ends. ComponentAt code (site_of h) arrayed subscript begins ends) (name_meant h name held) from to)
      (spot_same h name)
      (subst (λ m. SubscriptedAt code (site_of h) path held (λ shape begins ends. ChosenAt code (site_of h) (target.Cell (kind_of_first (chosen path shape.components))) path subscript (spot_named (here_at (site_of h)) name) shape begins ends)
      (λ arrayed begins ends. ComponentAt code (site_of h) arrayed subscript begins ends) m from to) (name_same h name held) here)

  -- PICK of the part that places on the stack choose
  pick_reaches : (taken : Places) (chosen : List Operand) (p : Part) (at to : ℕ) (v : Value) (stack : List Operand) (line : List ℕ) (st : State) → part_taken taken chosen ≡ Some (p, Val v ∷ stack) → One code at (picks taken) to
      → ValuesAt to stack line (From at chosen line st) st.left (part_of h p v st)
  pick_reaches taken chosen p at to v stack line st is one =
      last (picks taken) at to chosen stack line st (part_of h p v st) one
      (subst (λ step. ValuesAt (suc at) stack line step st.left (part_of h p v st))
      (sym (ap (λ o. elim o [ None ↦ stuck (core_at at chosen line n st) | Some got ↦ part_picked (setting code begin h) got.0 got.1 (core_at at chosen line n st) ]) is))
      (tested_reaches code begin h n standing (picked v p) (mended_pick v p) at chosen stack line st))

  -- all subscripts are an array's, or there are those of a component
  marked_reaches : (whole : Bool) (list : Subscripts) (from to : ℕ) (v : Value) (stack : List Operand) (line : List ℕ) (st : State)
      → (PartsAt code (site_of h) list from to → ValuesAt to stack line (From from (Val v ∷ stack) line st) st.left (parts_of rec h list v st))
      → EitherAt whole (λ begins ends. begins ≡ ends) (λ begins ends. PartsAt code (site_of h) list begins ends) from to
      → ValuesAt to stack line (From from (Val v ∷ stack) line st) st.left (if whole then Gives v st else parts_of rec h list v st)
  marked_reaches true list from to v stack line st parts same = done from to v stack line st same
  marked_reaches false list from to v stack line st parts here = parts here

  -- a sign before the first term
  sign_reaches : (opening : Option Sign) (from to : ℕ) (v : Value) (stack : List Operand) (line : List ℕ) (st : State) → SignAt code opening from to
      → ValuesAt to stack line (From from (Val v ∷ stack) line st) st.left (signed h opening v st)
  sign_reaches (Some Minus) from to v stack line st one = one_reaches op1.Minus from to v stack line st one
  sign_reaches (Some Plus) from to v stack line st same = subst (λ end. ValuesAt end stack line (From from (Val v ∷ stack) line st) st.left (Gives v st)) same (gives from stack line v st)
  sign_reaches None from to v stack line st same = subst (λ end. ValuesAt end stack line (From from (Val v ∷ stack) line st) st.left (Gives v st)) same (gives from stack line v st)

  -- a power of what is written in the code
  powered : (w : Value) (at to : ℕ) (v : Value) (stack : List Operand) (line : List ℕ) (st : State) → One code (suc at) (two op2.Power) to
      → ValuesAt to stack line (act (setting code begin h) (pushes w) (core_at at (Val v ∷ stack) line n st)) st.left (apply_two h op2.Power v w st)
  powered (value.Int a) at to v stack line st one = two_reaches op2.Power (suc at) to v (value.Int a) stack line st one
  powered (value.Bits len word) at to v stack line st one = two_reaches op2.Power (suc at) to v (value.Bits len word) stack line st one
  powered (value.Text text) at to v stack line st one = two_reaches op2.Power (suc at) to v (value.Text text) stack line st one

  -- SIZE, or another function
  size_or : (is : Bool) (size : Value) (made : ℕ → ℕ → Type 0) (r : Evaluated Value) (from to : ℕ) (stack : List Operand) (line : List ℕ) (st : State) → EitherAt is (λ begins ends. One code begins (pushes size) ends) made from to
      → (made from to → ValuesAt to stack line (From from stack line st) st.left r) → ValuesAt to stack line (From from stack line st) st.left (if is then Gives size st else r)
  size_or true size made r from to stack line st here other = constant_reaches size from to stack line st here
  size_or false size made r from to stack line st here other = other here

  -- arguments for parameters are put on these operands, and something is done with them
  abbrev pub Passing : {A : Type 0} (fine : A → State → Option Step) (unit : ℕ) (names : List Naming) (to : ℕ) (stack : List Operand) (line : List ℕ) (go : List Passed → State → Evaluated A) → Type 0
  Passing fine unit names to stack line go =
      (ps : List Passed) (over : List Operand) (after : State) → AreArguments code begin rec sound h n standing unit names ps stack over → Reaches (setting code begin h) n fine (From to over line after) after.left (go ps after)

  -- the address of whole data is put on these operands, of cells of these kinds
  abbrev pub Wholly : {A : Type 0} (fine : A → State → Option Step) (kinds : List Kind) (to : ℕ) (stack : List Operand) (line : List ℕ) (go : Located → State → Evaluated A) → Type 0
  Wholly fine kinds to stack line go =
      (l : Located) (shape : ℕ) (after : State) → machine.kinds_of code.image shape ≡ kinds → Reaches (setting code begin h) n fine (From to (Area l.at shape ∷ stack) line after) after.left (go l after)

  -- a name with a list, whose operands are known
  called_reaches : (size : Value) (inputs : ℕ → State → Evaluated (List Passed)) (items : State → Evaluated (List Value)) (multiplied : Value → State → Evaluated Value) (folded : ℕ → ℕ → Type 0) (made : Operation → ℕ → ℕ → Type 0)
      (args : ℕ → ℕ → ℕ → Type 0) (m : Meant) (from to : ℕ) (stack : List Operand) (line : List ℕ) (st : State)
      → ((middle : ℕ) (v : Value) (after : State) → folded middle to → ValuesAt to stack line (From middle (Val v ∷ stack) line after) after.left (multiplied v after))
      → ((op : Operation) → made op from to → ValuesAt to stack line (From from stack line st) st.left (bind (items st) (λ vs after. built h op vs after)))
      → ((unit middle : ℕ) (go : List Passed → State → Evaluated Value) → args unit from middle → Passing (λ v after. Some (From to (Val v ∷ stack) line after)) unit (inputs_at h.set unit) middle stack line go
      → ValuesAt to stack line (From from stack line st) st.left (bind (inputs unit st) go))
      → CalledAt code (site_of h) st.kept.places size folded made args m from to → ValuesAt to stack line (From from stack line st) st.left (call_form rec h size inputs items multiplied m st)
  called_reaches size inputs items multiplied folded made args (MeantBlock unit) from to stack line st products functions passes here =
      passes unit here.0 (λ ps after. call rec h unit ps [] after) here.1
      (λ ps over after are. function_reaches code begin rec sound h n standing unit ps here.0 to stack over line after here.2 are)
  called_reaches size inputs items multiplied folded made args (MeantBuiltin b) from to stack line st products functions passes here =
      size_or (is_size b) size (λ begins ends. made (operation_of b) begins ends) _ from to stack line st here (λ at. functions (operation_of b) at)
  called_reaches size inputs items multiplied folded made args (MeantData at shape) from to stack line st products functions passes here =
      then_reaches here.0 to stack stack line _ _ _ _ (value_reaches [] (MeantData at shape) from here.0 stack line st here.1) (λ v after. products here.0 v after here.2)
  called_reaches size inputs items multiplied folded made args (MeantConstant v) from to stack line st products functions passes here =
      then_reaches here.0 to stack stack line _ _ _ _ (value_reaches [] (MeantConstant v) from here.0 stack line st here.1) (λ w after. products here.0 w after here.2)
  called_reaches size inputs items multiplied folded made args (MeantEvent e) from to stack line st products functions passes here = absurd here
  called_reaches size inputs items multiplied folded made args MeantNothing from to stack line st products functions passes here = absurd here

  -- an argument: the address of its cells, or its value
  argument_reaches : {A : Type 0} (fine : A → State → Option Step) (parameter : Parameter) (whole : Bool) (choose : State → Evaluated Located) (evaluate : State → Evaluated Value) (cells one : ℕ → ℕ → Type 0) (from to : ℕ) (stack : List Operand) (line : List ℕ) (st : State)
      (go : Passed → State → Evaluated A) → is_whole parameter.shape ≡ whole
      → ((next : Located → State → Evaluated A) → cells from to → Wholly fine (kinds_of parameter.shape) to stack line next → Reaches (setting code begin h) n fine (From from stack line st) st.left (bind (choose st) next))
      → (one from to → ValuesAt to stack line (From from stack line st) st.left (evaluate st)) → EitherAt whole cells one from to
      → ((p : Passed) (o : Operand) (after : State) → IsArgument code begin rec sound h n standing parameter p o → Reaches (setting code begin h) n fine (From to (o ∷ stack) line after) after.left (go p after))
      → Reaches (setting code begin h) n fine (From from stack line st) st.left (bind (argument whole choose evaluate st) go)
  argument_reaches fine parameter true choose evaluate cells one from to stack line st go is chooses evaluates here each =
      subst (λ r. Reaches (setting code begin h) n fine (From from stack line st) st.left r) (sym (bind_bind (choose st) (λ l after. Gives (Whole l.at) after) go))
      (chooses (λ l after. go (Whole l.at) after) here (λ l shape after kinds. each (Whole l.at) (Area l.at shape) after (is, shape, kinds, refl)))
  argument_reaches fine parameter false choose evaluate cells one from to stack line st go is chooses evaluates here each =
      subst (λ r. Reaches (setting code begin h) n fine (From from stack line st) st.left r) (sym (bind_bind (evaluate st) (λ v after. Gives (Plain v) after) go))
      (bind_reaches (setting code begin h) n (λ v after. From to (Val v ∷ stack) line after) fine _ st.left (evaluate st) (λ v after. go (Plain v) after) (evaluates here) (λ v after. each (Plain v) (Val v) after (is, refl)))

  -- data that a name means, of cells of this shape
  cells_reaches : {A : Type 0} (fine : A → State → Option Step) (choose : Shape → State → Evaluated Located) (kinds : List Kind) (shape : ℕ) (path : List Naming) (address : Shape → ℕ → ℕ → Type 0) (m : Meant) (from to : ℕ) (stack : List Operand) (line : List ℕ)
      (st : State) (go : Located → State → Evaluated A) → machine.kinds_of code.image shape ≡ kinds
      → ((form : Shape) → address form from to → Addressed fine (target.Shape shape) (kind_of_first (chosen path form.components)) to stack line go → Reaches (setting code begin h) n fine (From from stack line st) st.left (bind (choose form st) go))
      → DataAt address m from to → Wholly fine kinds to stack line go → Reaches (setting code begin h) n fine (From from stack line st) st.left (bind (meant_chosen choose m st) go)
  cells_reaches fine choose kinds shape path address (MeantData at form) from to stack line st go same chooses here each =
      chooses form here (λ place after. each (record { at = place; kind = kind_of_first (chosen path form.components) }) shape after same)
  cells_reaches fine choose kinds shape path address (MeantConstant v) from to stack line st go same chooses here each = absurd here
  cells_reaches fine choose kinds shape path address (MeantEvent e) from to stack line st go same chooses here each = absurd here
  cells_reaches fine choose kinds shape path address (MeantBlock unit) from to stack line st go same chooses here each = absurd here
  cells_reaches fine choose kinds shape path address (MeantBuiltin b) from to stack line st go same chooses here each = absurd here
  cells_reaches fine choose kinds shape path address MeantNothing from to stack line st go same chooses here each = absurd here

  -- they go by the site alone
  cells_same : (name : List ℕ) (path : List Naming) (subscript : Subscript) (shape : ℕ) (held : List Held) (from to : ℕ)
      → DataAt (λ form begins ends. ChosenAt code (site_of h) (target.Shape shape) path subscript (spot_named (here_at (site_of h)) name) form begins ends) (name_meant (here_at (site_of h)) name held) from to
      → DataAt (λ form begins ends. ChosenAt code (site_of h) (target.Shape shape) path subscript (spot_named h name) form begins ends) (name_meant h name held) from to
  cells_same name path subscript shape held from to here =
      subst (λ spot. DataAt (λ form begins ends. ChosenAt code (site_of h) (target.Shape shape) path subscript spot form begins ends) (name_meant h name held) from to) (spot_same h name)
      (subst (λ m. DataAt (λ form begins ends. ChosenAt code (site_of h) (target.Shape shape) path subscript (spot_named (here_at (site_of h)) name) form begins ends) m from to) (name_same h name held) here)

  mutual
    pub expression_reaches : (e : Expression) (from to : ℕ) (stack : List Operand) (line : List ℕ) (st : State) → ExpressionAt code (site_of h) e from to
        → ValuesAt to stack line (From from stack line st) st.left (expression rec h e st)
    expression_reaches (Or place first others) from to stack line st here =
        then_reaches here.0 to stack stack line _ _ _ _ (expression_reaches first from here.0 stack line st here.1)
        (λ v after. joined_reaches op2.Or (is_condition first) others here.0 to v stack line after here.2)
    expression_reaches (And place first others) from to stack line st here =
        then_reaches here.0 to stack stack line _ _ _ _ (expression_reaches first from here.0 stack line st here.1)
        (λ v after. joined_reaches op2.And (is_condition first) others here.0 to v stack line after here.2)
    expression_reaches (Compare place left relation right) from to stack line st here =
        then_reaches here.0 to stack stack line _ _ _ _ (expression_reaches left from here.0 stack line st here.2)
        (λ v after. then_reaches here.1 to (Val v ∷ stack) stack line _ _ _ _ (expression_reaches right here.0 here.1 (Val v ∷ stack) line after here.3)
        (λ w later. two_reaches (operation_of_relation relation) here.1 to v w stack line later here.4))
    expression_reaches (Cat place first others) from to stack line st here =
        then_reaches here.0 to stack stack line _ _ _ _ (expression_reaches first from here.0 stack line st here.1) (λ v after. folded_reaches op2.Cat others here.0 to v stack line after here.2)
    expression_reaches (Sum place opening first others) from to stack line st here =
        then_reaches here.0 to stack stack line _ _ _ _ (expression_reaches first from here.0 stack line st here.2)
        (λ v after. then_reaches here.1 to stack stack line _ _ _ _ (sign_reaches opening here.0 here.1 v stack line after here.3) (λ w later. summed_reaches others here.1 to w stack line later here.4))
    expression_reaches (Product place first others) from to stack line st here =
        then_reaches here.0 to stack stack line _ _ _ _ (expression_reaches first from here.0 stack line st here.1) (λ v after. folded_reaches op2.Product others here.0 to v stack line after here.2)
    expression_reaches (Power place base exponent) from to stack line st here =
        then_reaches here.0 to stack stack line _ _ _ _ (expression_reaches base from here.0 stack line st here.1)
        (λ v after. acts (setting code begin h) n _ (core_at here.0 (Val v ∷ stack) line n after) after.left (pushes (exponent_of exponent)) _ here.2 (powered (exponent_of exponent) here.0 to v stack line after here.3))
    expression_reaches (Not place operand) from to stack line st here =
        then_reaches here.0 to stack stack line _ _ _ _ (expression_reaches operand from here.0 stack line st here.1) (λ v after. one_reaches op1.Not here.0 to v stack line after here.2)
    expression_reaches (Literal place literal) from to stack line st here = constant_reaches (literal_value literal) from to stack line st here
    expression_reaches (Decimal place number) from to stack line st here = absurd here
    expression_reaches (Referred reference) from to stack line st here = referred_reaches reference from to stack line st here
    expression_reaches (Called place name arguments) from to stack line st here =
        called_reaches (size_argument h arguments st.kept.places) (λ unit before. passed rec h unit (inputs_at h.set unit) arguments before) (λ before. values rec h arguments before) (λ v after. folded rec h op2.Product v arguments after)
        (λ middle end. FoldedAt code (site_of h) op2.Product arguments middle end) (λ op begins end. BuiltAt code (site_of h) op arguments begins end)
        (λ unit begins end. ArgumentsAt code (site_of h) unit (inputs_at h.set unit) arguments begins end) (name_meant h name st.kept.places) from to stack line st
        (λ middle v after at. folded_reaches op2.Product arguments middle to v stack line after at) (λ op at. built_reaches op arguments from to stack line st at)
        (λ unit middle go at each. passed_reaches OfValue _ unit (inputs_at h.set unit) arguments from middle stack line st go at each)
        (subst (λ m. CalledAt code (site_of h) st.kept.places (size_argument h arguments st.kept.places) (λ middle end. FoldedAt code (site_of h) op2.Product arguments middle end)
        (λ op begins end. BuiltAt code (site_of h) op arguments begins end) (λ unit begins end. ArgumentsAt code (site_of h) unit (inputs_at h.set unit) arguments begins end) m from to) (name_same h name st.kept.places)
        (subst (λ size. CalledAt code (site_of h) st.kept.places size (λ middle end. FoldedAt code (site_of h) op2.Product arguments middle end) (λ op begins end. BuiltAt code (site_of h) op arguments begins end)
        (λ unit begins end. ArgumentsAt code (site_of h) unit (inputs_at h.set unit) arguments begins end) (name_meant (here_at (site_of h)) name st.kept.places) from to) (size_same h arguments st.kept.places) (here st.kept.places)))
    expression_reaches (Convert place conversion operand) from to stack line st here =
        then_reaches here.0 to stack stack line _ _ _ _ (expression_reaches operand from here.0 stack line st here.1) (λ v after. one_reaches (operation_of_conversion conversion) here.0 to v stack line after here.2)
    expression_reaches (Parenthesis place inner) from to stack line st here = expression_reaches inner from to stack line st here

    -- operands of AND or OR behind a value
    joined_reaches : (op : Op2) (condition : Bool) (list : Expressions) (from to : ℕ) (v : Value) (stack : List Operand) (line : List ℕ) (st : State) → JoinedAt code (site_of h) op condition list from to
        → ValuesAt to stack line (From from (Val v ∷ stack) line st) st.left (joined rec h op condition v list st)
    joined_reaches op condition NoExpressions from to v stack line st here = done from to v stack line st here
    joined_reaches op condition (MoreExpressions first others) from to v stack line st here =
        then_reaches here.0 to stack stack line _ st.left (Gives (as_operand (makes_condition condition first) v) st)
        (λ u before. bind (expression rec h first before) (λ w after. bind (apply_two h op u (as_operand (becomes_condition condition first) w) after) (λ y last. joined rec h op (condition || is_condition first) y others last)))
        (operand_reaches (makes_condition condition first) from here.0 v stack line st here.3)
        (λ u before. then_reaches here.1 to (Val u ∷ stack) stack line _ _ _ _ (expression_reaches first here.0 here.1 (Val u ∷ stack) line before here.4)
        (λ w after. then_reaches here.2 to (Val u ∷ stack) stack line _ after.left (Gives (as_operand (becomes_condition condition first) w) after)
        (λ x later. bind (apply_two h op u x later) (λ y last. joined rec h op (condition || is_condition first) y others last))
        (operand_reaches (becomes_condition condition first) here.1 here.2 w (Val u ∷ stack) line after here.5)
        (λ x later. then_reaches (suc here.2) to stack stack line _ _ _ _ (two_reaches op here.2 (suc here.2) u x stack line later (here.6, refl))
        (λ y last. joined_reaches op (condition || is_condition first) others (suc here.2) to y stack line last here.7))))

    -- operands of an operation behind a value
    folded_reaches : (op : Op2) (list : Expressions) (from to : ℕ) (v : Value) (stack : List Operand) (line : List ℕ) (st : State) → FoldedAt code (site_of h) op list from to
        → ValuesAt to stack line (From from (Val v ∷ stack) line st) st.left (folded rec h op v list st)
    folded_reaches op NoExpressions from to v stack line st here = done from to v stack line st here
    folded_reaches op (MoreExpressions first others) from to v stack line st here =
        then_reaches here.0 to (Val v ∷ stack) stack line _ _ _ _ (expression_reaches first from here.0 (Val v ∷ stack) line st here.1)
        (λ w after. then_reaches (suc here.0) to stack stack line _ _ _ _ (two_reaches op here.0 (suc here.0) v w stack line after (here.2, refl))
        (λ x later. folded_reaches op others (suc here.0) to x stack line later here.3))

    -- terms behind a value
    summed_reaches : (list : Terms) (from to : ℕ) (v : Value) (stack : List Operand) (line : List ℕ) (st : State) → TermsAt code (site_of h) list from to
        → ValuesAt to stack line (From from (Val v ∷ stack) line st) st.left (summed rec h v list st)
    summed_reaches NoTerms from to v stack line st here = done from to v stack line st here
    summed_reaches (MoreTerms place sign term others) from to v stack line st here =
        then_reaches here.0 to (Val v ∷ stack) stack line _ _ _ _ (expression_reaches term from here.0 (Val v ∷ stack) line st here.1)
        (λ w after. then_reaches (suc here.0) to stack stack line _ _ _ _ (two_reaches (operation_of_sign sign) here.0 (suc here.0) v w stack line after (here.2, refl))
        (λ x later. summed_reaches others (suc here.0) to x stack line later here.3))

    -- an operation of a built-in function
    built_reaches : (op : Operation) (arguments : Expressions) (from to : ℕ) (stack : List Operand) (line : List ℕ) (st : State) → BuiltAt code (site_of h) op arguments from to
        → ValuesAt to stack line (From from stack line st) st.left (bind (values rec h arguments st) (λ vs after. built h op vs after))
    built_reaches (operation.One op) (MoreExpressions operand NoExpressions) from to stack line st here =
        subst (λ r. ValuesAt to stack line (From from stack line st) st.left r) (sym (bind_bind (expression rec h operand st) (λ v after. Gives (v ∷ []) after) (λ vs after. built h (operation.One op) vs after)))
        (then_reaches here.0 to stack stack line _ _ _ _ (expression_reaches operand from here.0 stack line st here.1) (λ v after. one_reaches op here.0 to v stack line after here.2))
    built_reaches (operation.Two op) (MoreExpressions left (MoreExpressions right NoExpressions)) from to stack line st here =
        subst (λ r. ValuesAt to stack line (From from stack line st) st.left r)
        (sym (bind_bind (expression rec h left st) (λ v after. bind (values rec h (MoreExpressions right NoExpressions) after) (λ vs later. Gives (v ∷ vs) later)) (λ vs after. built h (operation.Two op) vs after)))
        (then_reaches here.0 to stack stack line _ _ _ _ (expression_reaches left from here.0 stack line st here.2)
        (λ v after. subst (λ r. ValuesAt to stack line (From here.0 (Val v ∷ stack) line after) after.left r)
        (sym (bind_bind (values rec h (MoreExpressions right NoExpressions) after) (λ vs later. Gives (v ∷ vs) later) (λ vs later. built h (operation.Two op) vs later)))
        (subst (λ r. ValuesAt to stack line (From here.0 (Val v ∷ stack) line after) after.left r)
        (sym (bind_bind (expression rec h right after) (λ w later. Gives (w ∷ []) later) (λ vs later. built h (operation.Two op) (v ∷ vs) later)))
        (then_reaches here.1 to (Val v ∷ stack) stack line _ _ _ _ (expression_reaches right here.0 here.1 (Val v ∷ stack) line after here.3) (λ w later. two_reaches op here.1 to v w stack line later here.4)))))
    built_reaches (operation.One op) NoExpressions from to stack line st here = absurd here
    built_reaches (operation.One op) (MoreExpressions operand (MoreExpressions other others)) from to stack line st here = absurd here
    built_reaches (operation.Two op) NoExpressions from to stack line st here = absurd here
    built_reaches (operation.Two op) (MoreExpressions left NoExpressions) from to stack line st here = absurd here
    built_reaches (operation.Two op) (MoreExpressions left (MoreExpressions right (MoreExpressions other others))) from to stack line st here = absurd here
    built_reaches operation.Size arguments from to stack line st here = absurd here
    built_reaches operation.Nothing arguments from to stack line st here = absurd here

    -- arguments of a call
    pub passed_reaches : (w : Outcome) (fine : Of w → State → Option Step) (unit : ℕ) (names : List Naming) (arguments : Expressions) (from to : ℕ) (stack : List Operand) (line : List ℕ) (st : State) (go : List Passed → State → Evaluated (Of w))
        → ArgumentsAt code (site_of h) unit names arguments from to → Passing fine unit names to stack line go
        → Reaches (setting code begin h) n fine (From from stack line st) st.left (bind (passed rec h unit names arguments st) go)
    passed_reaches w fine unit [] NoExpressions from to stack line st go same each =
        subst (λ begins. Reaches (setting code begin h) n fine (From begins stack line st) st.left (go [] st)) (sym same) (each [] stack st refl)
    passed_reaches w fine unit (name ∷ names) (MoreExpressions first others) from to stack line st go here each =
        subst (λ r. Reaches (setting code begin h) n fine (From from stack line st) st.left r)
        (sym (bind_bind (argument (is_whole (parameter_named h.set unit name).shape) (λ before. chosen_by rec h first before) (λ before. expression rec h first before) st)
        (λ p after. bind (passed rec h unit names others after) (λ ps later. Gives (p ∷ ps) later)) go))
        (argument_reaches fine (parameter_named h.set unit name) (is_whole (parameter_named h.set unit name).shape) (λ before. chosen_by rec h first before) (λ before. expression rec h first before)
        (λ begins ends. WholeArgumentAt code (site_of h) (kinds_of (parameter_named h.set unit name).shape) first begins ends) (λ begins ends. ExpressionAt code (site_of h) first begins ends) from here.0 stack line st
        (λ p after. bind (bind (passed rec h unit names others after) (λ ps later. Gives (p ∷ ps) later)) go) refl
        (λ next at laid_there. whole_argument_reaches w fine (kinds_of (parameter_named h.set unit name).shape) first from here.0 stack line st next at laid_there) (λ at. expression_reaches first from here.0 stack line st at) here.1
        (λ p o after is. subst (λ r. Reaches (setting code begin h) n fine (From here.0 (o ∷ stack) line after) after.left r) (sym (bind_bind (passed rec h unit names others after) (λ ps later. Gives (p ∷ ps) later) go))
        (passed_reaches w fine unit names others here.0 to (o ∷ stack) line after (λ ps later. go (p ∷ ps) later) here.2 (λ ps over later are. each (p ∷ ps) over later (o, is, are)))))
    passed_reaches w fine unit [] (MoreExpressions first others) from to stack line st go here each = absurd here
    passed_reaches w fine unit (name ∷ names) NoExpressions from to stack line st go here each = absurd here

    -- an argument for an array or a structure
    whole_argument_reaches : (w : Outcome) (fine : Of w → State → Option Step) (kinds : List Kind) (tree : Expression) (from to : ℕ) (stack : List Operand) (line : List ℕ) (st : State) (go : Located → State → Evaluated (Of w))
        → WholeArgumentAt code (site_of h) kinds tree from to → Wholly fine kinds to stack line go → Reaches (setting code begin h) n fine (From from stack line st) st.left (bind (chosen_by rec h tree st) go)
    whole_argument_reaches w fine kinds (Referred reference) from to stack line st go here each = cells_of_reaches w fine kinds reference from to stack line st go here each
    whole_argument_reaches w fine kinds (Or place first others) from to stack line st go here each = absurd here
    whole_argument_reaches w fine kinds (And place first others) from to stack line st go here each = absurd here
    whole_argument_reaches w fine kinds (Compare place left relation right) from to stack line st go here each = absurd here
    whole_argument_reaches w fine kinds (Cat place first others) from to stack line st go here each = absurd here
    whole_argument_reaches w fine kinds (Sum place opening first others) from to stack line st go here each = absurd here
    whole_argument_reaches w fine kinds (Product place first others) from to stack line st go here each = absurd here
    whole_argument_reaches w fine kinds (Power place base exponent) from to stack line st go here each = absurd here
    whole_argument_reaches w fine kinds (Not place operand) from to stack line st go here each = absurd here
    whole_argument_reaches w fine kinds (Literal place literal) from to stack line st go here each = absurd here
    whole_argument_reaches w fine kinds (Decimal place number) from to stack line st go here each = absurd here
    whole_argument_reaches w fine kinds (Called place name arguments) from to stack line st go here each = absurd here
    whole_argument_reaches w fine kinds (Convert place conversion operand) from to stack line st go here each = absurd here
    whole_argument_reaches w fine kinds (Parenthesis place inner) from to stack line st go here each = absurd here

    -- the address of the data that a reference chooses, of cells of these kinds
    pub cells_of_reaches : (w : Outcome) (fine : Of w → State → Option Step) (kinds : List Kind) (reference : Reference) (from to : ℕ) (stack : List Operand) (line : List ℕ) (st : State) (go : Located → State → Evaluated (Of w))
        → WholeAt code (site_of h) kinds reference from to → Wholly fine kinds to stack line go → Reaches (setting code begin h) n fine (From from stack line st) st.left (bind (chosen_data rec h reference st) go)
    cells_of_reaches w fine kinds (Refers place name path subscript) from to stack line st go here each =
        cells_reaches fine (λ form before. data_chosen rec h path subscript (spot_named h name) form before) kinds here.0 path
        (λ form begins ends. ChosenAt code (site_of h) (target.Shape here.0) path subscript (spot_named h name) form begins ends) (name_meant h name st.kept.places) from to stack line st go here.1
        (λ form at addressed. chosen_reaches w fine (target.Shape here.0) path subscript (spot_named h name) form from to stack line st go at addressed) (cells_same name path subscript here.0 st.kept.places from to (here.2 st.kept.places)) each

    -- a reference
    referred_reaches : (reference : Reference) (from to : ℕ) (stack : List Operand) (line : List ℕ) (st : State) → ReferenceAt code (site_of h) reference from to
        → ValuesAt to stack line (From from stack line st) st.left (referred rec h reference st)
    referred_reaches (Refers place name path Unsubscripted) from to stack line st here =
        meant_reaches (spot_named h name) path (name_meant h name st.kept.places) from to stack line st refl
        (subst (λ m. ValueAt code (site_of h) path st.kept.places m from to) (name_same h name st.kept.places) (here st.kept.places))
    referred_reaches (Refers place name path (ByName at one)) from to stack line st here =
        subscripted_reaches path (λ shape before. data_chosen rec h path (ByName at one) (spot_named h name) shape before) (λ arrayed v after. component rec h arrayed (ByName at one) v after)
        (λ shape begins ends. ChosenAt code (site_of h) (target.Cell (kind_of_first (chosen path shape.components))) path (ByName at one) (spot_named h name) shape begins ends) (λ arrayed begins ends. ComponentAt code (site_of h) arrayed (ByName at one) begins ends) (name_meant h name st.kept.places) from to stack line st
        (λ shape middle go addressed each. chosen_reaches OfValue _ (target.Cell (kind_of_first (chosen path shape.components))) path (ByName at one) (spot_named h name) shape from middle stack line st go addressed each) (λ arrayed begins v after parted. component_reaches arrayed (ByName at one) begins to v stack line after parted)
        (marked_same name path (ByName at one) st.kept.places from to (here st.kept.places))
    referred_reaches (Refers place name path (ByInteger at mark number)) from to stack line st here =
        subscripted_reaches path (λ shape before. data_chosen rec h path (ByInteger at mark number) (spot_named h name) shape before) (λ arrayed v after. component rec h arrayed (ByInteger at mark number) v after)
        (λ shape begins ends. ChosenAt code (site_of h) (target.Cell (kind_of_first (chosen path shape.components))) path (ByInteger at mark number) (spot_named h name) shape begins ends) (λ arrayed begins ends. ComponentAt code (site_of h) arrayed (ByInteger at mark number) begins ends) (name_meant h name st.kept.places) from to stack line st
        (λ shape middle go addressed each. chosen_reaches OfValue _ (target.Cell (kind_of_first (chosen path shape.components))) path (ByInteger at mark number) (spot_named h name) shape from middle stack line st go addressed each) (λ arrayed begins v after parted. component_reaches arrayed (ByInteger at mark number) begins to v stack line after parted)
        (marked_same name path (ByInteger at mark number) st.kept.places from to (here st.kept.places))
    referred_reaches (Refers place name path (ByParts at copies arrays components)) from to stack line st here =
        subscripted_reaches path (λ shape before. data_chosen rec h path (ByParts at copies arrays components) (spot_named h name) shape before) (λ arrayed v after. component rec h arrayed (ByParts at copies arrays components) v after)
        (λ shape begins ends. ChosenAt code (site_of h) (target.Cell (kind_of_first (chosen path shape.components))) path (ByParts at copies arrays components) (spot_named h name) shape begins ends) (λ arrayed begins ends. ComponentAt code (site_of h) arrayed (ByParts at copies arrays components) begins ends) (name_meant h name st.kept.places) from to stack line st
        (λ shape middle go addressed each. chosen_reaches OfValue _ (target.Cell (kind_of_first (chosen path shape.components))) path (ByParts at copies arrays components) (spot_named h name) shape from middle stack line st go addressed each) (λ arrayed begins v after parted. component_reaches arrayed (ByParts at copies arrays components) begins to v stack line after parted)
        (marked_same name path (ByParts at copies arrays components) st.kept.places from to (here st.kept.places))

    -- the address of the data that copy and array subscripts choose
    pub chosen_reaches : (w : Outcome) (fine : Of w → State → Option Step) (given : Target) (path : List Naming) (subscript : Subscript) (spot : List Held → Spot) (shape : Shape) (from to : ℕ) (stack : List Operand) (line : List ℕ) (st : State)
        (go : Located → State → Evaluated (Of w)) → ChosenAt code (site_of h) given path subscript spot shape from to → Addressed fine given (kind_of_first (chosen path shape.components)) to stack line go
        → Reaches (setting code begin h) n fine (From from stack line st) st.left (bind (data_chosen rec h path subscript spot shape st) go)
    chosen_reaches w fine given path Unsubscripted spot shape from to stack line st go here each =
        plain_address fine given (kind_of_first (chosen path shape.components)) (λ held. further (offset path shape.components) (spot held)) from to stack line st go here.0 here.1 each
    chosen_reaches w fine given path (ByName place name) spot shape from to stack line st go here each =
        place_reaches fine (λ begins ends. NameAt code (site_of h) name.name [] begins ends) (named_value rec h name st) given (kind_of_first (chosen path shape.components)) (λ held. further (offset path shape.components) (spot held)) (sizes_named path shape) from to
        stack line st go (λ middle at. named_reaches name.name [] from middle stack line st at) here each
    chosen_reaches w fine given path (ByInteger place mark number) spot shape from to stack line st go here each =
        place_reaches fine (λ begins ends. One code begins (instr.Int (pos number)) ends) (Gives (value.Int (pos number)) st) given (kind_of_first (chosen path shape.components)) (λ held. further (offset path shape.components) (spot held)) (sizes_named path shape)
        from to stack line st go (λ middle at. constant_reaches (value.Int (pos number)) from middle stack line st at) here each
    chosen_reaches w fine given path (ByParts place copies arrays components) spot shape from to stack line st go here each =
        subst (λ r. Reaches (setting code begin h) n fine (From from stack line st) st.left r)
        (ap (λ r. bind r (λ is after. bind (elements is after) go)) (sym (spoken_same copies (copies_of shape) st)) ∙ sym (bind_bind (indexes rec h (copies_of shape) copies st) elements go))
        (indexes_reaches w fine (spoken copies (copies_of shape)) copies here.2 from here.0 stack line st (λ is after. bind (elements is after) go) here.4
        (λ cs after are. behind_copies fine (is_none arrays) (spoken copies (copies_of shape)) (single_dimensions (spoken copies (copies_of shape)) copies) here.2 (sizes_named path shape) components arrays here.3 given (kind_of_first (chosen path shape.components))
        (λ held. further (offset path shape.components) (spot held)) cs here.0 here.1 to stack line after go
        (λ next at later. indexes_reaches w fine (spoken components (dimensions_of (sizes_named path shape))) components here.3 here.0 here.1 (laid (values_of cs) stack) line after next at later)
        (λ next at later. indexes_reaches w fine (dimensions_of (sizes_named path shape)) arrays here.3 here.0 here.1 (laid (values_of cs) stack) line after next at later) here.5 here.6 here.7 are each))
      where
        elements : List Index → State → Evaluated Located
        elements is after =
            bind (if is_none arrays then array_indexes rec h (sizes_named path shape) components after else indexes rec h (dimensions_of (sizes_named path shape)) arrays after)
            (λ js later. located h (further (offset path shape.components) (spot later.kept.places)) (kind_of_first (chosen path shape.components)) (spoken copies (copies_of shape) ++ dimensions_of (sizes_named path shape)) (is ++ js) later)

    -- subscripts of dimensions, one for each
    indexes_reaches : (w : Outcome) (fine : Of w → State → Option Step) (ds : List Dimension) (list : Subscripts) (before from to : ℕ) (stack : List Operand) (line : List ℕ) (st : State) (go : List Index → State → Evaluated (Of w)) → IndexesAt code (site_of h) ds list before from to
        → ((cs : List Choice) (after : State) → Chooses ds (single_dimensions ds list) before cs → Reaches (setting code begin h) n fine (From to (laid (values_of cs) stack) line after) after.left (go (indexes_of cs) after))
        → Reaches (setting code begin h) n fine (From from stack line st) st.left (bind (indexes rec h ds list st) go)
    indexes_reaches w fine [] NoSubscripts before from to stack line st go here each =
        subst (λ begins. Reaches (setting code begin h) n fine (From begins stack line st) st.left (go [] st)) (sym here.1) (each [] st (chooses_none before here.0))
    indexes_reaches w fine (d ∷ ds) (MoreSubscripts (OnePlace one) others) before from to stack line st go here each =
        subst (λ r. Reaches (setting code begin h) n fine (From from stack line st) st.left r)
        (sym (bind_bind (index rec h d.size (OnePlace one) st) (λ i after. bind (indexes rec h ds others after) (λ is later. Gives (i ∷ is) later)) go
        ∙ bind_bind (position rec h d.size one st) (λ i after. Gives (Single i) after) (λ i after. bind (bind (indexes rec h ds others after) (λ is later. Gives (i ∷ is) later)) go)))
        (position_reaches w fine one d.size (instr.Int (pos d.size)) from here.0 stack line st (λ i after. bind (bind (indexes rec h ds others after) (λ is later. Gives (Single i ∷ is) later)) go) (λ at now. refl) here.1
        (λ v after. subst (λ r. Reaches (setting code begin h) n fine (From here.0 (Val v ∷ stack) line after) after.left r)
        (sym (bind_bind (indexes rec h ds others after) (λ is later. Gives (single v ∷ is) later) go))
        (indexes_reaches w fine ds others before here.0 to (Val v ∷ stack) line after (λ is later. go (single v ∷ is) later) here.2
        (λ cs later are. each (OfOne d v ∷ cs) later (with_one d v ds (single_dimensions ds others) before cs are)))))
    indexes_reaches w fine (d ∷ ds) (MoreSubscripts (Every place) others) before from to stack line st go here each =
        behind_span fine d ds (Every place) others here.2.first here.2.last from stack line st go (span_given d.size (Every place) here.2.first here.2.last st here.2.span)
        (indexes_reaches w fine ds others here.1 from to stack line st (λ is later. go (Several here.2.first here.2.last ∷ is) later) here.4
        (λ cs later are. each (OfMany d here.2.first here.2.last ∷ cs) later (with_many d here.2.first here.2.last ds (single_dimensions ds others) here.0 here.1 before cs here.2.inside here.2.behind here.3 are)))
    indexes_reaches w fine (d ∷ ds) (MoreSubscripts (Range one other) others) before from to stack line st go here each =
        behind_span fine d ds (Range one other) others here.2.first here.2.last from stack line st go (span_given d.size (Range one other) here.2.first here.2.last st here.2.span)
        (indexes_reaches w fine ds others here.1 from to stack line st (λ is later. go (Several here.2.first here.2.last ∷ is) later) here.4
        (λ cs later are. each (OfMany d here.2.first here.2.last ∷ cs) later (with_many d here.2.first here.2.last ds (single_dimensions ds others) here.0 here.1 before cs here.2.inside here.2.behind here.3 are)))
    indexes_reaches w fine (d ∷ ds) (MoreSubscripts (Portion count one) others) before from to stack line st go here each =
        behind_span fine d ds (Portion count one) others here.2.first here.2.last from stack line st go (span_given d.size (Portion count one) here.2.first here.2.last st here.2.span)
        (indexes_reaches w fine ds others here.1 from to stack line st (λ is later. go (Several here.2.first here.2.last ∷ is) later) here.4
        (λ cs later are. each (OfMany d here.2.first here.2.last ∷ cs) later (with_many d here.2.first here.2.last ds (single_dimensions ds others) here.0 here.1 before cs here.2.inside here.2.behind here.3 are)))
    indexes_reaches w fine [] (MoreSubscripts first others) before from to stack line st go here each = absurd here
    indexes_reaches w fine (d ∷ ds) NoSubscripts before from to stack line st go here each = absurd here

    -- a place, of data the number of whose places an instruction leaves
    position_reaches : (w : Outcome) (fine : Of w → State → Option Step) (one : Position) (size : ℕ) (ends : Instr) (from to : ℕ) (stack : List Operand) (line : List ℕ) (st : State) (go : ℤ → State → Evaluated (Of w))
        → ((at : ℕ) (now : State) → act (setting code begin h) ends (core_at at stack line n now) ≡ From (suc at) (Val (value.Int (pos size)) ∷ stack) line now) → PositionAt code (site_of h) ends one from to
        → ((v : Value) (after : State) → Reaches (setting code begin h) n fine (From to (Val v ∷ stack) line after) after.left (go (integer_of v) after))
        → Reaches (setting code begin h) n fine (From from stack line st) st.left (bind (position rec h size one st) go)
    position_reaches w fine (FromBeginning one) size ends from to stack line st go counts here each =
        subst (λ r. Reaches (setting code begin h) n fine (From from stack line st) st.left r) (sym (bind_bind (expression rec h one st) (λ v after. Gives (integer_of v) after) go))
        (bind_reaches (setting code begin h) n (λ v after. From to (Val v ∷ stack) line after) fine _ st.left (expression rec h one st) (λ v after. go (integer_of v) after) (expression_reaches one from to stack line st here) each)
    position_reaches w fine (FromEnd place terms) size ends from to stack line st go counts here each =
        subst (λ r. Reaches (setting code begin h) n fine (From from stack line st) st.left r) (sym (bind_bind (summed rec h (value.Int (pos size)) terms st) (λ v after. Gives (integer_of v) after) go))
        (acts (setting code begin h) n fine (core_at from stack line n st) st.left ends _ here.0
        (subst (λ step. Reaches (setting code begin h) n fine step st.left (bind (summed rec h (value.Int (pos size)) terms st) (λ v after. go (integer_of v) after))) (sym (counts from st))
        (bind_reaches (setting code begin h) n (λ v after. From to (Val v ∷ stack) line after) fine _ st.left (summed rec h (value.Int (pos size)) terms st) (λ v after. go (integer_of v) after)
        (summed_reaches terms (suc from) to (value.Int (pos size)) stack line st here.1) each)))

    -- the component of a value
    component_reaches : (arrayed : Bool) (subscript : Subscript) (from to : ℕ) (v : Value) (stack : List Operand) (line : List ℕ) (st : State) → ComponentAt code (site_of h) arrayed subscript from to
        → ValuesAt to stack line (From from (Val v ∷ stack) line st) st.left (component rec h arrayed subscript v st)
    component_reaches arrayed Unsubscripted from to v stack line st same = done from to v stack line st same
    component_reaches true (ByName place name) from to v stack line st same = done from to v stack line st same
    component_reaches true (ByInteger place mark number) from to v stack line st same = done from to v stack line st same
    component_reaches false (ByName place name) from to v stack line st here =
        then_reaches here.0 to (Val v ∷ stack) stack line _ st.left (named_value rec h name st) (λ i after. part_of h (part.One (integer_of i)) v after) (named_reaches name.name [] from here.0 (Val v ∷ stack) line st here.1)
        (λ i after. pick_reaches places.One (Val i ∷ Val v ∷ stack) (part.One (integer_of i)) here.0 to v stack line after refl here.2)
    component_reaches false (ByInteger place mark number) from to v stack line st here =
        acts (setting code begin h) n _ (core_at from (Val v ∷ stack) line n st) st.left (instr.Int (pos number)) _ here.0
        (pick_reaches places.One (Val (value.Int (pos number)) ∷ Val v ∷ stack) (part.One (pos number)) (suc from) to v stack line st refl here.1)
    component_reaches arrayed (ByParts place copies arrays components) from to v stack line st here =
        marked_reaches (arrayed && is_none arrays) components from to v stack line st (λ at. parts_reaches components from to v stack line st at) here

    -- what the subscripts of a component choose
    parts_reaches : (list : Subscripts) (from to : ℕ) (v : Value) (stack : List Operand) (line : List ℕ) (st : State) → PartsAt code (site_of h) list from to → ValuesAt to stack line (From from (Val v ∷ stack) line st) st.left (parts_of rec h list v st)
    parts_reaches NoSubscripts from to v stack line st same = done from to v stack line st same
    parts_reaches (MoreSubscripts first others) from to v stack line st here =
        part_reaches OfValue _ first from here.0 v stack line st (λ p after. part_of h p v after) here.1 (λ chosen p after is. pick_reaches (places_of first) chosen p here.0 to v stack line after is here.2)

    -- the places of a component of the value on the stack
    pub part_reaches : (w : Outcome) (fine : Of w → State → Option Step) (one : Sub) (from to : ℕ) (v : Value) (under : List Operand) (line : List ℕ) (st : State) (go : Part → State → Evaluated (Of w)) → PartAt code (site_of h) one from to
        → ((chosen : List Operand) (p : Part) (after : State) → part_taken (places_of one) chosen ≡ Some (p, Val v ∷ under) → Reaches (setting code begin h) n fine (From to chosen line after) after.left (go p after))
        → Reaches (setting code begin h) n fine (From from (Val v ∷ under) line st) st.left (bind (part_chosen rec h (place_count v) one st) go)
    part_reaches w fine (Every place) from to v under line st go here each =
        acts (setting code begin h) n fine (core_at from (Val v ∷ under) line n st) st.left (instr.Int (pos 1)) _ here.0
        (acts (setting code begin h) n fine (core_at (suc from) (Val (value.Int (pos 1)) ∷ Val v ∷ under) line n st) st.left (instr.Len 1) _ here.1.0
        (subst (λ end. Reaches (setting code begin h) n fine (From end (Val (value.Int (pos (place_count v))) ∷ Val (value.Int (pos 1)) ∷ Val v ∷ under) line st) st.left (go (part.To (pos 1) (pos (place_count v))) st)) (sym here.1.1)
        (each (Val (value.Int (pos (place_count v))) ∷ Val (value.Int (pos 1)) ∷ Val v ∷ under) (part.To (pos 1) (pos (place_count v))) st refl)))
    part_reaches w fine (OnePlace one) from to v under line st go here each =
        subst (λ r. Reaches (setting code begin h) n fine (From from (Val v ∷ under) line st) st.left r) (sym (bind_bind (position rec h (place_count v) one st) (λ i after. Gives (part.One i) after) go))
        (position_reaches w fine one (place_count v) (instr.Len 0) from to (Val v ∷ under) line st (λ i after. go (part.One i) after) (λ at now. refl) here (λ i after. each (Val i ∷ Val v ∷ under) (part.One (integer_of i)) after refl))
    part_reaches w fine (Range first behind) from to v under line st go here each =
        subst (λ r. Reaches (setting code begin h) n fine (From from (Val v ∷ under) line st) st.left r)
        (sym (bind_bind (position rec h (place_count v) first st) (λ i after. bind (position rec h (place_count v) behind after) (λ j later. Gives (part.To i j) later)) go))
        (position_reaches w fine first (place_count v) (instr.Len 0) from here.0 (Val v ∷ under) line st (λ i after. bind (bind (position rec h (place_count v) behind after) (λ j later. Gives (part.To i j) later)) go) (λ at now. refl) here.1
        (λ i after. subst (λ r. Reaches (setting code begin h) n fine (From here.0 (Val i ∷ Val v ∷ under) line after) after.left r)
        (sym (bind_bind (position rec h (place_count v) behind after) (λ j later. Gives (part.To (integer_of i) j) later) go))
        (position_reaches w fine behind (place_count v) (instr.Len 1) here.0 to (Val i ∷ Val v ∷ under) line after (λ j later. go (part.To (integer_of i) j) later) (λ at now. refl) here.2
        (λ j later. each (Val j ∷ Val i ∷ Val v ∷ under) (part.To (integer_of i) (integer_of j)) later refl))))
    part_reaches w fine (Portion count first) from to v under line st go here each =
        subst (λ r. Reaches (setting code begin h) n fine (From from (Val v ∷ under) line st) st.left r)
        (sym (bind_bind (expression rec h count st) (λ i after. bind (position rec h (place_count v) first after) (λ j later. Gives (part.At (integer_of i) j) later)) go))
        (bind_reaches (setting code begin h) n (λ i after. From here.0 (Val i ∷ Val v ∷ under) line after) fine _ st.left (expression rec h count st)
        (λ i after. bind (bind (position rec h (place_count v) first after) (λ j later. Gives (part.At (integer_of i) j) later)) go) (expression_reaches count from here.0 (Val v ∷ under) line st here.1)
        (λ i after. subst (λ r. Reaches (setting code begin h) n fine (From here.0 (Val i ∷ Val v ∷ under) line after) after.left r)
        (sym (bind_bind (position rec h (place_count v) first after) (λ j later. Gives (part.At (integer_of i) j) later) go))
        (position_reaches w fine first (place_count v) (instr.Len 1) here.0 to (Val i ∷ Val v ∷ under) line after (λ j later. go (part.At (integer_of i) j) later) (λ at now. refl) here.2
        (λ j later. each (Val j ∷ Val i ∷ Val v ∷ under) (part.At (integer_of i) (integer_of j)) later refl))))
