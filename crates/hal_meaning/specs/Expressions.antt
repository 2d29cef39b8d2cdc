-- What expressions come to. Evaluation goes from left to right, and an error arises where its operation is done.
use Rattle.std.specs.Prelude.{ℕ, Bool, true, false, not, ◌&&◌, ◌||◌, List, [], ◌∷◌, ◌++◌, ℤ, pos, ◌+ℤ◌, ◌-ℤ◌, nat_lt, Option, Some, None, unwrap_or, if◌then◌else◌}
use Rattle.hal_grammar.specs.Leaves.{Naming, Sign, Plus, Minus, Relation, Equal, Less, Greater, AtMost, AtLeast, NotEqual, NotLess, NotGreater, Conversion, ToInteger, ToBits, ToText, LiteralValue, Integer, Text, Bits, True, False, On, Off}
use Rattle.hal_grammar.specs.Expressions.{Expression, Or, And, Compare, Cat, Sum, Product, Power, Not, Literal, Decimal, Referred, Called, Convert, Parenthesis, Expressions, NoExpressions, MoreExpressions, Terms, NoTerms, MoreTerms, Reference, Refers, Subscript, Unsubscripted, ByName, ByInteger, ByParts, Subscripts, NoSubscripts, MoreSubscripts, Sub, Every, One, Range, Portion, Position, FromBeginning, FromEnd}
use Rattle.hal_scope.specs.declared.builtin.Builtin.{Builtin}
use Rattle.hal_scope.specs.declared.builtin.Builtin.TheVariants as builtin
use Rattle.hal_operations.specs.declared.operation.Op1.{Op1}
use Rattle.hal_operations.specs.declared.operation.Op1.TheVariants as op1
use Rattle.hal_operations.specs.declared.operation.Op2.{Op2}
use Rattle.hal_operations.specs.declared.operation.Op2.TheVariants as op2
use Rattle.hal_operations.specs.declared.part.Part.{Part}
use Rattle.hal_operations.specs.declared.part.Part.TheVariants as part
use Rattle.hal_operations.specs.Values.{value_of_one, value_of_two}
use Rattle.hal_operations.specs.Mended.{mended_of_one, mended_of_two}
use Rattle.hal_operations.specs.Parts.{picked, mended_pick, place_count}
use Rattle.hal_constants.specs.declared.operation.Operation.{Operation}
use Rattle.hal_constants.specs.declared.operation.Operation.TheVariants as operation
use Rattle.hal_constants.specs.Naming.{operation_of}
use Rattle.hal_constants.specs.Constants.{is_none}
use Rattle.hal_values.specs.declared.request.Request.TheVariants as request
use Rattle.hal_values.specs.declared.request.Spot.TheVariants as spot
use Rattle.hal_values.specs.declared.value.Kind.{Kind}
use Rattle.hal_values.specs.declared.value.Kind.TheVariants as kind
use Rattle.hal_values.specs.declared.value.Value.{Value}
use Rattle.hal_values.specs.declared.value.Value.TheVariants as value
use Rattle.hal_values.specs.Answers.{error}
use Rattle.hal_values.specs.Tables.{event_count}
use Rattle.hal_states.specs.Spots.{Spot, Nowhere, Held, further}
use Rattle.hal_states.specs.OfKinds.{told}
use Rattle.hal_states.specs.Numbers.{integer_of}
use Rattle.hal_meaning.specs.Elements.{Component, Shape, copy_size, chosen, reached, offset}
use Rattle.hal_meaning.specs.Sets.{Set, body_at}
use Rattle.hal_meaning.specs.States.{State, Evaluated, Gives, bind}
use Rattle.hal_meaning.specs.Access.{Here, ask, raise, tested, read}
use Rattle.hal_meaning.specs.Variables.{Meant, MeantData, MeantConstant, MeantEvent, MeantBlock, MeantBuiltin, MeantNothing, name_meant, spot_named, Index, Single, Several, Dimension, dimension, dimensions_of, all_inside, elements_before, sizes_of_first, kind_of_first, is_arrayed, is_whole}
use Rattle.hal_meaning.specs.Calls.{Passed, Plain, Whole, parameter_named, inputs_of, outputs_of, call}
use Rattle.hal_meaning.specs.Tasks.{Meaning}

-- the operation of a comparison
abbrev pub operation_of_relation : Relation → Op2
operation_of_relation Equal = op2.Equal
operation_of_relation Less = op2.Less
operation_of_relation Greater = op2.Greater
operation_of_relation AtMost = op2.LessOrEqual
operation_of_relation AtLeast = op2.GreaterOrEqual
operation_of_relation NotEqual = op2.NotEqual
operation_of_relation NotLess = op2.GreaterOrEqual
operation_of_relation NotGreater = op2.LessOrEqual

abbrev pub operation_of_sign : Sign → Op2
operation_of_sign Plus = op2.Plus
operation_of_sign Minus = op2.Minus

abbrev pub operation_of_conversion : Conversion → Op1
operation_of_conversion ToInteger = op1.Integer
operation_of_conversion ToBits = op1.Bit
operation_of_conversion ToText = op1.Character

-- the value of a literal
abbrev pub literal_value : LiteralValue → Value
literal_value (Integer number) = value.Int (pos number)
literal_value (Text text) = value.Text text
literal_value (Bits len bits) = value.Bits len bits
literal_value True = value.Bits 1 1
literal_value On = value.Bits 1 1
literal_value False = value.Bits 1 0
literal_value Off = value.Bits 1 0

abbrev mutual
  -- whether an expression is a condition: a comparison, or what is made of some
  pub is_condition : Expression → Bool
  is_condition (Or place first others) = is_condition first || are_conditions others
  is_condition (And place first others) = is_condition first || are_conditions others
  is_condition (Compare place left relation right) = true
  is_condition (Parenthesis place inner) = is_condition inner
  is_condition other = false

  pub are_conditions : Expressions → Bool
  are_conditions NoExpressions = false
  are_conditions (MoreExpressions first others) = is_condition first || are_conditions others

-- whether an operand of AND or OR is made a condition: it is bits, and one beside it is a condition
abbrev pub becomes_condition : Bool → Expression → Bool
becomes_condition beside_condition operand = beside_condition && not (is_condition operand)

-- whether what stands before an operand of AND or OR is made a condition: it is bits, and the operand is a condition
abbrev pub makes_condition : Bool → Expression → Bool
makes_condition condition operand = is_condition operand && not condition

-- bits as a condition: they are compared with a zero, so that one bit tells whether they aren't all zeros. No error arises there
abbrev pub as_condition : Value → Value
as_condition v = mended_of_two op2.NotEqual v (value.Bits 1 0)

-- an operand of AND or OR: bits that become a condition are one bit
abbrev pub as_operand : Bool → Value → Value
as_operand true v = as_condition v
as_operand false v = v

-- an operation with one operand
abbrev pub apply_one : Here → Op1 → Value → State → Evaluated Value
apply_one h op v st = tested h (value_of_one op v) (mended_of_one op v) st

-- an operation with two operands
abbrev pub apply_two : Here → Op2 → Value → Value → State → Evaluated Value
apply_two h op v w st = tested h (value_of_two op v w) (mended_of_two op v w) st

-- a sign before the first term
abbrev pub signed : Here → Option Sign → Value → State → Evaluated Value
signed h (Some Minus) v st = apply_one h op1.Minus v st
signed h other v st = Gives v st

-- a power of an integer literal
abbrev pub exponent_of : Expression → Value
exponent_of (Literal place (Integer n)) = value.Int (pos n)
exponent_of other = value.Int (pos 0)

-- a part of a value
abbrev pub part_of : Here → Part → Value → State → Evaluated Value
part_of h p v st = tested h (picked v p) (mended_pick v p) st

-- data that a reference chooses: where they begin, and the kind of their elements
pub record Located : Type 0 where
  pub at : Spot
  pub kind : Kind

-- the data that subscripts choose, once they are evaluated: those outside their ranges raise one error, and are the nearest places then
abbrev pub located : Here → Spot → Kind → List Dimension → List Index → State → Evaluated Located
located h at k dimensions indexes st =
    if all_inside dimensions indexes then Gives (record { at = further (elements_before dimensions indexes) at; kind = k }) st
    else bind (raise h (error 1 3) st) (λ ignored after. Gives (record { at = further (elements_before dimensions indexes) at; kind = k }) after)

-- the number of the first dimension, or of the copies where there is no array
abbrev pub size_of : Shape → List ℕ → ℕ
size_of shape (n ∷ ns) = n
size_of shape [] = unwrap_or shape.copies 1

-- what a process or an event reads as
abbrev pub event_value : Here → ℕ → State → Evaluated Value
event_value h e st =
    if nat_lt e (event_count h.set.tables) then bind (ask (request.Read (spot.Event e)) st) (λ answer after. Gives (told (kind.Bits 1) answer) after) else Gives (value.Bits 1 0) st

-- a built-in function without a list
abbrev pub alone_value : Builtin → State → Evaluated Value
alone_value builtin.Errgrp st = Gives (value.Int (pos st.kept.last.group)) st
alone_value builtin.Errnum st = Gives (value.Int (pos st.kept.last.number)) st
alone_value builtin.Runtime st = bind (ask request.Now st) (λ answer after. Gives (told kind.Double answer) after)
alone_value other st = Gives (value.Int (pos 0)) st

-- the value of a name without subscript
abbrev pub plain_value : Meaning → Here → List Naming → Meant → State → Evaluated Value
plain_value rec h path (MeantData at shape) st =
    read h (kind_of_first (chosen path shape.components)) (further (offset path shape.components) at) st
plain_value rec h path (MeantConstant v) st = Gives v st
plain_value rec h path (MeantEvent e) st = event_value h e st
plain_value rec h path (MeantBlock unit) st = call rec h unit [] [] st
plain_value rec h path (MeantBuiltin b) st = alone_value b st
plain_value rec h path MeantNothing st = Gives (value.Int (pos 0)) st

-- a name in a subscript
abbrev pub named_value : Meaning → Here → Naming → State → Evaluated Value
named_value rec h name st = plain_value rec h [] (name_meant h name.name st.kept.places) st

-- what a built-in function computes of values
abbrev pub built : Here → Operation → List Value → State → Evaluated Value
built h (operation.One op) (v ∷ vs) st = apply_one h op v st
built h (operation.Two op) (v ∷ w ∷ vs) st = apply_two h op v w st
built h other vs st = Gives (value.Int (pos 0)) st

-- the sizes that array subscripts speak of, and whether a subscript without a mark is one
abbrev pub sizes_named : List Naming → Shape → List ℕ
sizes_named path shape = sizes_of_first (chosen path shape.components)

-- the dimension of the copies
abbrev pub copies_of : Shape → List Dimension
copies_of shape = elim shape.copies [ None ↦ [] | Some n ↦ dimension n (copy_size shape.components) ∷ [] ]

-- the sizes of the array that names name in full: an array inside a structure is none of the structure
abbrev pub sizes_reached : List Naming → List Component → List ℕ
sizes_reached path components = sizes_of_first (reached path components)

-- SIZE of what a name means
abbrev pub size_value : Meant → List Naming → Value
size_value (MeantData at shape) path = value.Int (pos (size_of shape (sizes_reached path shape.components)))
size_value other path = value.Int (pos 0)

-- SIZE of a reference: its subscripts are not evaluated
abbrev pub size_referred : Here → Reference → List Held → Value
size_referred h (Refers place name path subscript) places = size_value (name_meant h name places) path

abbrev pub size_argument : Here → Expressions → List Held → Value
size_argument h (MoreExpressions (Referred reference) others) places = size_referred h reference places
size_argument h other places = value.Int (pos 0)

-- the operation of a built-in function; SIZE is none
abbrev pub is_size : Builtin → Bool
is_size builtin.Size = true
is_size other = false

-- the names of the parameters of the unit with this number
abbrev pub inputs_at : Set → ℕ → List Naming
inputs_at s unit = elim (body_at s unit) [ None ↦ [] | Some b ↦ inputs_of b.head ]

-- the names of its ASSIGN parameters
abbrev pub outputs_at : Set → ℕ → List Naming
outputs_at s unit = elim (body_at s unit) [ None ↦ [] | Some b ↦ outputs_of b.head ]

-- whether the first of these parameters of a unit is an array or a structure
abbrev pub is_whole_parameter : Here → ℕ → List Naming → Bool
is_whole_parameter h unit [] = false
is_whole_parameter h unit (name ∷ names) = is_whole (parameter_named h.set unit name).shape

abbrev pub after_first : List Naming → List Naming
after_first [] = []
after_first (name ∷ names) = names

-- subscripts of copies, where there are copies; all else has none
abbrev pub first_size : List Dimension → ℕ
first_size [] = 1
first_size (d ∷ ds) = d.size

abbrev pub after_first_dimension : List Dimension → List Dimension
after_first_dimension [] = []
after_first_dimension (d ∷ ds) = ds

-- the dimensions that subscripts speak of: none where there are no subscripts
abbrev pub spoken : Subscripts → List Dimension → List Dimension
spoken NoSubscripts ds = []
spoken other ds = ds

-- the data that a subscript without a mark chooses: it is the array's where there is one. Where data begin is looked up once their subscripts are evaluated
abbrev pub by_place : Here → List Naming → Evaluated Value → (List Held → Spot) → Shape → State → Evaluated Located
by_place h path place at shape st =
    if is_arrayed (sizes_named path shape)
    then bind place (λ v after. located h (further (offset path shape.components) (at after.kept.places)) (kind_of_first (chosen path shape.components)) (dimensions_of (sizes_named path shape)) (Single (integer_of v) ∷ []) after)
    else Gives (record { at = further (offset path shape.components) (at st.kept.places); kind = kind_of_first (chosen path shape.components) }) st

-- what an argument gives: of an array or a structure its subscripts alone are evaluated
abbrev pub argument : Bool → (State → Evaluated Located) → (State → Evaluated Value) → State → Evaluated Passed
argument true where_it_lies what_it_is st = bind (where_it_lies st) (λ l after. Gives (Whole l.at) after)
argument false where_it_lies what_it_is st = bind (what_it_is st) (λ v after. Gives (Plain v) after)

-- a name with a list: a call, a built-in function, or the product of a variable and a parenthesis
abbrev pub call_form : Meaning → Here → Value → (ℕ → State → Evaluated (List Passed)) → (State → Evaluated (List Value)) → (Value → State → Evaluated Value) → Meant → State → Evaluated Value
call_form rec h size arguments items multiplied (MeantBlock unit) st = bind (arguments unit st) (λ ps after. call rec h unit ps [] after)
call_form rec h size arguments items multiplied (MeantBuiltin b) st =
    if is_size b then Gives size st else bind (items st) (λ vs after. built h (operation_of b) vs after)
call_form rec h size arguments items multiplied m st = bind (plain_value rec h [] m st) (λ v after. multiplied v after)

-- the value of what a name means, with a subscript: it is read before the subscripts of its component are evaluated
abbrev pub subscripted : Meaning → Here → List Naming → (Shape → State → Evaluated Located) → (Bool → Value → State → Evaluated Value) → Meant → State → Evaluated Value
subscripted rec h path choose component (MeantData at shape) st =
    bind (choose shape st) (λ l after. bind (read h l.kind l.at after) (λ v later. component (is_arrayed (sizes_named path shape)) v later))
subscripted rec h path choose component m st = bind (plain_value rec h path m st) (λ v after. component false v after)

-- where the data lie that a name means, with a subscript
abbrev pub meant_chosen : (Shape → State → Evaluated Located) → Meant → State → Evaluated Located
meant_chosen choose (MeantData at shape) st = choose shape st
meant_chosen choose m st = Gives (record { at = Nowhere; kind = kind.Double }) st

-- a component's subscript without a mark, unless it is the array's
abbrev pub part_unless : Here → Bool → Evaluated Value → Value → State → Evaluated Value
part_unless h true place v st = Gives v st
part_unless h false place v st = bind place (λ i after. part_of h (part.One (integer_of i)) v after)

abbrev mutual
  -- an expression
  pub expression : Meaning → Here → Expression → State → Evaluated Value
  expression rec h (Or place first others) st =
      bind (expression rec h first st) (λ v after. joined rec h op2.Or (is_condition first) v others after)
  expression rec h (And place first others) st =
      bind (expression rec h first st) (λ v after. joined rec h op2.And (is_condition first) v others after)
  expression rec h (Compare place left relation right) st =
      bind (expression rec h left st) (λ v after. bind (expression rec h right after) (λ w later. apply_two h (operation_of_relation relation) v w later))
  expression rec h (Cat place first others) st = bind (expression rec h first st) (λ v after. folded rec h op2.Cat v others after)
  expression rec h (Sum place opening first others) st =
      bind (expression rec h first st) (λ v after. bind (signed h opening v after) (λ w later. summed rec h w others later))
  expression rec h (Product place first others) st = bind (expression rec h first st) (λ v after. folded rec h op2.Product v others after)
  expression rec h (Power place base exponent) st = bind (expression rec h base st) (λ v after. apply_two h op2.Power v (exponent_of exponent) after)
  expression rec h (Not place operand) st = bind (expression rec h operand st) (λ v after. apply_one h op1.Not v after)
  expression rec h (Literal place literal) st = Gives (literal_value literal) st
  expression rec h (Decimal place number) st = Gives (value.Int (pos 0)) st
  expression rec h (Referred reference) st = referred rec h reference st
  expression rec h (Called place name arguments) st =
      call_form rec h (size_argument h arguments st.kept.places) (λ unit before. passed rec h unit (inputs_at h.set unit) arguments before) (λ before. values rec h arguments before)
      (λ v after. folded rec h op2.Product v arguments after) (name_meant h name st.kept.places) st
  expression rec h (Convert place conversion operand) st = bind (expression rec h operand st) (λ v after. apply_one h (operation_of_conversion conversion) v after)
  expression rec h (Parenthesis place inner) st = expression rec h inner st

  -- operands of AND or OR behind a value, which is a condition or bits: the operations associate to the left
  pub joined : Meaning → Here → Op2 → Bool → Value → Expressions → State → Evaluated Value
  joined rec h op condition v NoExpressions st = Gives v st
  joined rec h op condition v (MoreExpressions first others) st =
      bind (expression rec h first st) (λ w after. bind (apply_two h op (as_operand (makes_condition condition first) v) (as_operand (becomes_condition condition first) w) after)
      (λ x later. joined rec h op (condition || is_condition first) x others later))

  -- operands of an operation behind a value
  pub folded : Meaning → Here → Op2 → Value → Expressions → State → Evaluated Value
  folded rec h op v NoExpressions st = Gives v st
  folded rec h op v (MoreExpressions first others) st =
      bind (expression rec h first st) (λ w after. bind (apply_two h op v w after) (λ x later. folded rec h op x others later))

  -- terms that are added to a value or taken from it
  pub summed : Meaning → Here → Value → Terms → State → Evaluated Value
  summed rec h v NoTerms st = Gives v st
  summed rec h v (MoreTerms place sign term others) st =
      bind (expression rec h term st) (λ w after. bind (apply_two h (operation_of_sign sign) v w after) (λ x later. summed rec h x others later))

  -- the values of expressions
  pub values : Meaning → Here → Expressions → State → Evaluated (List Value)
  values rec h NoExpressions st = Gives [] st
  values rec h (MoreExpressions first others) st =
      bind (expression rec h first st) (λ v after. bind (values rec h others after) (λ vs later. Gives (v ∷ vs) later))

  -- the arguments of the unit with this number, for its parameters
  pub passed : Meaning → Here → ℕ → List Naming → Expressions → State → Evaluated (List Passed)
  passed rec h unit names NoExpressions st = Gives [] st
  passed rec h unit names (MoreExpressions first others) st =
      bind (argument (is_whole_parameter h unit names) (λ before. chosen_by rec h first before) (λ before. expression rec h first before) st)
      (λ p after. bind (passed rec h unit (after_first names) others after) (λ ps later. Gives (p ∷ ps) later))

  -- where the data lie that an expression is
  pub chosen_by : Meaning → Here → Expression → State → Evaluated Located
  chosen_by rec h (Referred reference) st = chosen_data rec h reference st
  chosen_by rec h tree st = Gives (record { at = Nowhere; kind = kind.Double }) st

  -- a reference
  pub referred : Meaning → Here → Reference → State → Evaluated Value
  referred rec h (Refers place name path subscript) st =
      subscripted rec h path (λ shape before. data_chosen rec h path subscript (spot_named h name) shape before) (λ arrayed v after. component rec h arrayed subscript v after) (name_meant h name st.kept.places) st

  -- the data that a reference chooses
  pub chosen_data : Meaning → Here → Reference → State → Evaluated Located
  chosen_data rec h (Refers place name path subscript) st =
      meant_chosen (λ shape before. data_chosen rec h path subscript (spot_named h name) shape before) (name_meant h name st.kept.places) st

  -- the data that copy and array subscripts choose; those without a mark are the array's where no others are. Where the data begin while the own places hold
  -- something is given
  pub data_chosen : Meaning → Here → List Naming → Subscript → (List Held → Spot) → Shape → State → Evaluated Located
  data_chosen rec h path Unsubscripted at shape st =
      Gives (record { at = further (offset path shape.components) (at st.kept.places); kind = kind_of_first (chosen path shape.components) }) st
  data_chosen rec h path (ByName place name) at shape st = by_place h path (named_value rec h name st) at shape st
  data_chosen rec h path (ByInteger place mark number) at shape st = by_place h path (Gives (value.Int (pos number)) st) at shape st
  data_chosen rec h path (ByParts place copies arrays components) at shape st =
      bind (indexes rec h (copies_of shape) copies st)
      (λ is after. bind (if is_none arrays then array_indexes rec h (sizes_named path shape) components after else indexes rec h (dimensions_of (sizes_named path shape)) arrays after)
      (λ js later. located h (further (offset path shape.components) (at later.kept.places)) (kind_of_first (chosen path shape.components)) (spoken copies (copies_of shape) ++ dimensions_of (sizes_named path shape)) (is ++ js) later))

  -- subscripts without a mark, of an array of these sizes; else they are the component's
  pub array_indexes : Meaning → Here → List ℕ → Subscripts → State → Evaluated (List Index)
  array_indexes rec h [] NoSubscripts st = Gives [] st
  array_indexes rec h [] (MoreSubscripts first others) st = Gives [] st
  array_indexes rec h (n ∷ ns) NoSubscripts st = Gives [] st
  array_indexes rec h (n ∷ ns) (MoreSubscripts first others) st =
      bind (index rec h n first st) (λ i after. bind (array_indexes rec h ns others after) (λ is later. Gives (i ∷ is) later))

  -- subscripts of dimensions, one for each
  pub indexes : Meaning → Here → List Dimension → Subscripts → State → Evaluated (List Index)
  indexes rec h ds NoSubscripts st = Gives [] st
  indexes rec h ds (MoreSubscripts first others) st =
      bind (index rec h (first_size ds) first st) (λ i after. bind (indexes rec h (after_first_dimension ds) others after) (λ is later. Gives (i ∷ is) later))

  -- a subscript of a dimension of this size
  pub index : Meaning → Here → ℕ → Sub → State → Evaluated Index
  index rec h size (Every place) st = Gives (Several (pos 1) (pos size)) st
  index rec h size (One one) st = bind (position rec h size one st) (λ i after. Gives (Single i) after)
  index rec h size (Range first last) st = bind (position rec h size first st) (λ i after. bind (position rec h size last after) (λ j later. Gives (Several i j) later))
  index rec h size (Portion count first) st =
      bind (expression rec h count st) (λ n after. bind (position rec h size first after) (λ i later. Gives (Several i ((i +ℤ integer_of n) -ℤ pos 1)) later))

  -- a place of data of this size; `#` is the last one
  pub position : Meaning → Here → ℕ → Position → State → Evaluated ℤ
  position rec h size (FromBeginning one) st = bind (expression rec h one st) (λ v after. Gives (integer_of v) after)
  position rec h size (FromEnd place terms) st = bind (summed rec h (value.Int (pos size)) terms st) (λ v after. Gives (integer_of v) after)

  -- the component of a value that a subscript chooses, of data with an array or without one
  pub component : Meaning → Here → Bool → Subscript → Value → State → Evaluated Value
  component rec h arrayed Unsubscripted v st = Gives v st
  component rec h arrayed (ByName place name) v st = part_unless h arrayed (named_value rec h name st) v st
  component rec h arrayed (ByInteger place mark number) v st = part_unless h arrayed (Gives (value.Int (pos number)) st) v st
  component rec h arrayed (ByParts place copies arrays components) v st = if arrayed && is_none arrays then Gives v st else parts_of rec h components v st

  -- the same of the subscripts of the component
  pub parts_of : Meaning → Here → Subscripts → Value → State → Evaluated Value
  parts_of rec h NoSubscripts v st = Gives v st
  parts_of rec h (MoreSubscripts first others) v st = bind (part_chosen rec h (place_count v) first st) (λ p after. part_of h p v after)

  -- the places of a component that a subscript chooses
  pub part_chosen : Meaning → Here → ℕ → Sub → State → Evaluated Part
  part_chosen rec h size (Every place) st = Gives (part.To (pos 1) (pos size)) st
  part_chosen rec h size (One one) st = bind (position rec h size one st) (λ i after. Gives (part.One i) after)
  part_chosen rec h size (Range first last) st = bind (position rec h size first st) (λ i after. bind (position rec h size last after) (λ j later. Gives (part.To i j) later))
  part_chosen rec h size (Portion count first) st =
      bind (expression rec h count st) (λ n after. bind (position rec h size first after) (λ i later. Gives (part.At (integer_of n) i) later))
