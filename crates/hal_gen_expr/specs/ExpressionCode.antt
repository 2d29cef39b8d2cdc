-- The code of expressions, behind the code so far: each leaves its value on the stack.
use Rattle.std.specs.Prelude.{ℕ, pos, nat_le, Bool, true, false, not, ◌&&◌, ◌||◌, List, [], ◌∷◌, ◌++◌, length, Option, Some, None, Ok, Err, if◌then◌else◌}
use Rattle.std.specs.Option.{option_map, is_some}
use Rattle.hal_base.specs.declared.refusal.Place.{Place}
use Rattle.hal_grammar.specs.Leaves.{Naming, Sign, Minus, LiteralValue, Integer, Text}
use Rattle.hal_grammar.specs.Expressions.{Expression, Or, And, Compare, Cat, Sum, Product, Power, Not, Literal, Decimal, Referred, Called, Convert, Parenthesis, Expressions, NoExpressions, MoreExpressions, Terms, NoTerms, MoreTerms, Reference, Refers, Subscript, Unsubscripted, ByName, ByInteger, ByParts, Subscripts, NoSubscripts, MoreSubscripts, Sub, Every, Range, Portion, One as OnePlace, Position, FromBeginning, FromEnd}
use Rattle.hal_operations.specs.declared.operation.Op2.{Op2}
use Rattle.hal_operations.specs.declared.operation.Op1.{Op1}
use Rattle.hal_operations.specs.declared.operation.Op1.TheVariants as op1
use Rattle.hal_operations.specs.declared.operation.Op2.TheVariants as op2
use Rattle.hal_constants.specs.declared.operation.Operation.{Operation}
use Rattle.hal_constants.specs.declared.operation.Operation.TheVariants as operation
use Rattle.hal_constants.specs.Naming.{operation_of}
use Rattle.hal_constants.specs.Constants.{is_none}
use Rattle.hal_meaning.specs.Calls.{parameter_named}
use Rattle.hal_meaning.specs.Expressions.{literal_value, is_condition, makes_condition, operation_of_relation, operation_of_sign, operation_of_conversion, is_size, inputs_at, becomes_condition}
use Rattle.hal_meaning.specs.Variables.{is_arrayed, is_whole}
use Rattle.hal_code.specs.declared.choice.Choice.TheVariants as choice
use Rattle.hal_code.specs.declared.row.Run.{Run}
use Rattle.hal_values.specs.declared.value.Kind.{Kind}
use Rattle.hal_code.specs.declared.instr.Instr.{Instr}
use Rattle.hal_code.specs.declared.instr.Instr.TheVariants as instr
use Rattle.hal_code.specs.declared.operand.Places.TheVariants as places
use Rattle.hal_agreement.specs.PlacedExpressions.{pushes, two, picks, places_of}
use Rattle.hal_agreement.specs.Sites.{Site}
use Rattle.hal_gen_expr.specs.Emitting.{Emitted, onwards, emit}
use Rattle.hal_gen_expr.specs.declared.aims.Aim.{Aim}
use Rattle.hal_gen_expr.specs.declared.aims.Aim.TheVariants as aims
use Rattle.hal_gen_expr.specs.Led.{Led, led_by, sizes_led, aimed, plainly_aimed}
use Rattle.hal_gen_expr.specs.Leaves.{is_nil, value_of, call_of}
use Rattle.hal_gen_expr.specs.Numbering.{Numbering, shape_number}
use Rattle.hal_gen_expr.specs.Shapes.{runs_of}
use Rattle.hal_gen_expr.specs.Sizes.{size_of_arguments}
use Rattle.hal_gen_expr.specs.Spans.{places_skipped}
use Rattle.hal_storage.specs.referents.Referents.{Referent, DataOf, ConstantOf, BlockOf, BuiltinOf}
use Rattle.hal_gen_expr.specs.Referents.{referent}

-- one instruction of a phrase
abbrev pub emit_one : List Instr → Place → Instr → Emitted
emit_one before place i = emit before place (Some (i ∷ []))

abbrev pub one : Op1 → Instr
one op = instr.Op1 (choice.Known op)

-- the integer of a literal has code where it has 31 bits, as each that is read has
abbrev pub integer_instr : ℕ → Option Instr
integer_instr number = if nat_le number 2147483647 then Some (instr.Int (pos number)) else None

-- a literal has code where its integer has 31 bits, and its text 255 bytes at most, as each that is read has
abbrev pub literal_instr : LiteralValue → Option Instr
literal_instr (Integer number) = integer_instr number
literal_instr (Text text) = if nat_le (length text) 255 then Some (instr.Text text) else None
literal_instr other = Some (pushes (literal_value other))

-- the same of an exponent, which is a literal
abbrev pub raised_to : LiteralValue → Option Instr
raised_to (Integer number) = integer_instr number
raised_to (Text text) = if nat_le (length text) 255 then Some (instr.Int (pos 0)) else None
raised_to other = Some (instr.Int (pos 0))

abbrev pub exponent_instr : Expression → Option Instr
exponent_instr (Literal place literal) = raised_to literal
exponent_instr other = Some (instr.Int (pos 0))

abbrev pub power_of : Option Instr → Option (List Instr)
power_of exponent = option_map (λ i. i ∷ two op2.Power ∷ []) exponent

-- no more expressions
abbrev pub ends : Expressions → Bool
ends NoExpressions = true
ends (MoreExpressions first others) = false

-- an operand of AND or OR that becomes a condition is compared with a zero
abbrev pub operand_code : List Instr → Place → Bool → Emitted
operand_code before place true = emit before place (Some (instr.Bits 1 0 ∷ two op2.NotEqual ∷ []))
operand_code before place false = Ok before

-- a call, where it has code, behind its arguments
abbrev pub behind_arguments : Place → Emitted → Option (List Instr) → Emitted
behind_arguments place arguments None = Err place
behind_arguments place arguments (Some is) = onwards arguments (λ middle. Ok (middle ++ is))

-- a sign before the first term
abbrev pub sign_code : List Instr → Place → Option Sign → Emitted
sign_code before place (Some Minus) = emit_one before place (one op1.Minus)
sign_code before place other = Ok before

-- one instruction that may be there
abbrev pub emit_any : List Instr → Place → Option Instr → Emitted
emit_any before place i = emit before place (option_map (λ one. one ∷ []) i)

-- the value of a name in a subscript, and an integer there
abbrev pub name_code : Numbering → Site → List Instr → Naming → Emitted
name_code n site before name = emit before name.place (value_of n site [] (referent site name.name))

abbrev pub integer_code : List Instr → Place → ℕ → Emitted
integer_code before place number = emit_any before place (integer_instr number)

-- the address of what subscripts choose, whose code stands before it
abbrev pub address_code : Numbering → Site → List Instr → Place → Aim → Subscript → Led → Emitted
address_code n site before place aim subscript l = emit_any before place (aimed n site aim subscript l)

-- the address that a subscript without a mark chooses, of which the code is given: it is a place of the array of these sizes where there is one
abbrev pub place_code : Numbering → Site → List Instr → Place → Aim → Emitted → Subscript → Led → List ℕ → Emitted
place_code n site before place aim one subscript l [] = address_code n site before place aim subscript l
place_code n site before place aim one subscript l (size ∷ sizes) = if is_nil sizes then onwards one (λ middle. address_code n site middle place aim subscript l) else Err place

-- the subscripts of an array, of which the code is given: those without a mark are its where no others are, and where there is none, none has code
abbrev pub unmarked_code : Bool → Emitted → Emitted → Emitted
unmarked_code true unmarked none = unmarked
unmarked_code false unmarked none = none

abbrev pub array_code : Bool → Bool → Emitted → Emitted → Emitted → Emitted
array_code true arrayed unmarked marked none = unmarked_code arrayed unmarked none
array_code false arrayed unmarked marked none = marked

-- whether an array may be left as a whole: where the cells of a shape are aimed at, and it has no subscripts
abbrev pub leaves_array : Aim → Subscripts → Bool
leaves_array aims.Cell components = false
leaves_array (aims.Shape shape) components = is_none components

-- the value of data to which names lead, and its component: it is read between them
abbrev pub led_code : Place → (Led → Emitted) → (Bool → List Instr → Emitted) → Led → Emitted
led_code place address component l = onwards (address l) (λ middle. onwards (emit_one middle place instr.Fetch) (λ late. component (is_arrayed (sizes_led l)) late))

-- what a name refers to, with a subscript: the code of the address that its copies and its array choose is given, and that of its component
abbrev pub subscripted_code : Numbering → Site → List Instr → Place → List Naming → (Led → Emitted) → (Bool → List Instr → Emitted) → Referent → Emitted
subscripted_code n site before place path address component r =
    elim (led_by path r) [ None ↦ onwards (emit before place (value_of n site path r)) (λ middle. component false middle) | Some l ↦ led_code place address component l ]

-- the address of data to which names lead, where they are data
abbrev pub where_led : Place → (Led → Emitted) → Option Led → Emitted
where_led place address None = Err place
where_led place address (Some l) = address l

-- something is done with the number of a shape
abbrev pub with_shape : Place → Option ℕ → (ℕ → Emitted) → Emitted
with_shape place None go = Err place
with_shape place (Some shape) go = go shape

-- the code of an argument for a whole parameter, or for one of one element
abbrev pub passed_code : Bool → Emitted → Emitted → Emitted
passed_code true whole plain = whole
passed_code false whole plain = plain

-- whether there is no subscript
abbrev pub is_plain : Subscript → Bool
is_plain Unsubscripted = true
is_plain other = false

-- SIZE of the first argument
abbrev pub size_code : Site → List Instr → Place → Expressions → Emitted
size_code site before place arguments = emit before place (option_map (λ i. i ∷ []) (integer_instr (size_of_arguments site arguments)))

-- a name with a list: what it refers to is called with arguments, computes of operands, or is multiplied by a parenthesis; SIZE is a number
abbrev pub called_code : Numbering → Site → List Instr → Place → Emitted → (List Instr → Emitted) → (Operation → Emitted) → (ℕ → Emitted) → Referent → Emitted
called_code n site before place size folded built arguments (BlockOf unit) = behind_arguments place (arguments unit) (call_of n site true unit)
called_code n site before place size folded built arguments (BuiltinOf b) = if is_size b then size else built (operation_of b)
called_code n site before place size folded built arguments (DataOf k stored shape) = onwards (emit before place (value_of n site [] (DataOf k stored shape))) folded
called_code n site before place size folded built arguments (ConstantOf v) = onwards (emit before place (value_of n site [] (ConstantOf v))) folded
called_code n site before place size folded built arguments other = Err place

abbrev mutual
  pub expression_code : Numbering → Site → List Instr → Expression → Emitted
  expression_code n site before (Or place first others) =
      onwards (expression_code n site before first) (λ middle. joined_code n site middle place op2.Or (is_condition first) others)
  expression_code n site before (And place first others) =
      onwards (expression_code n site before first) (λ middle. joined_code n site middle place op2.And (is_condition first) others)
  expression_code n site before (Compare place left relation right) =
      onwards (expression_code n site before left)
      (λ middle. onwards (expression_code n site middle right) (λ last. emit_one last place (two (operation_of_relation relation))))
  expression_code n site before (Cat place first others) = onwards (expression_code n site before first) (λ middle. folded_code n site middle place op2.Cat others)
  expression_code n site before (Sum place opening first others) =
      onwards (expression_code n site before first) (λ middle. onwards (sign_code middle place opening) (λ late. terms_code n site late others))
  expression_code n site before (Product place first others) = onwards (expression_code n site before first) (λ middle. folded_code n site middle place op2.Product others)
  expression_code n site before (Power place base exponent) = onwards (expression_code n site before base) (λ middle. emit middle place (power_of (exponent_instr exponent)))
  expression_code n site before (Not place operand) = onwards (expression_code n site before operand) (λ middle. emit_one middle place (one op1.Not))
  expression_code n site before (Literal place literal) = emit_any before place (literal_instr literal)
  expression_code n site before (Decimal place number) = Err place
  expression_code n site before (Referred reference) = reference_code n site before reference
  expression_code n site before (Called place name arguments) =
      called_code n site before place (size_code site before place arguments) (λ middle. folded_code n site middle place op2.Product arguments) (λ op. built_code n site before place op arguments)
      (λ unit. arguments_code n site before place unit (inputs_at site.set unit) arguments) (referent site name)
  expression_code n site before (Convert place conversion operand) =
      onwards (expression_code n site before operand) (λ middle. emit_one middle place (one (operation_of_conversion conversion)))
  expression_code n site before (Parenthesis place inner) = expression_code n site before inner

  -- operands of AND or OR behind a value, which is a condition or not, each with the operation
  pub joined_code : Numbering → Site → List Instr → Place → Op2 → Bool → Expressions → Emitted
  joined_code n site before place op condition NoExpressions = Ok before
  joined_code n site before place op condition (MoreExpressions first others) =
      onwards (operand_code before place (makes_condition condition first))
      (λ begun. onwards (expression_code n site begun first)
      (λ middle. onwards (operand_code middle place (becomes_condition condition first))
      (λ late. onwards (emit_one late place (two op)) (λ last. joined_code n site last place op (condition || is_condition first) others))))

  -- operands of an operation behind a value, each with the operation
  pub folded_code : Numbering → Site → List Instr → Place → Op2 → Expressions → Emitted
  folded_code n site before place op NoExpressions = Ok before
  folded_code n site before place op (MoreExpressions first others) =
      onwards (expression_code n site before first) (λ middle. onwards (emit_one middle place (two op)) (λ late. folded_code n site late place op others))

  -- terms behind a value
  pub terms_code : Numbering → Site → List Instr → Terms → Emitted
  terms_code n site before NoTerms = Ok before
  terms_code n site before (MoreTerms place sign term others) =
      onwards (expression_code n site before term) (λ middle. onwards (emit_one middle place (two (operation_of_sign sign))) (λ late. terms_code n site late others))

  -- an operation of a built-in function
  pub built_code : Numbering → Site → List Instr → Place → Operation → Expressions → Emitted
  built_code n site before place (operation.One op) (MoreExpressions operand others) =
      if ends others then onwards (expression_code n site before operand) (λ middle. emit_one middle place (one op)) else Err place
  built_code n site before place (operation.Two op) (MoreExpressions left (MoreExpressions right others)) =
      if ends others
      then onwards (expression_code n site before left) (λ middle. onwards (expression_code n site middle right) (λ last. emit_one last place (two op)))
      else Err place
  built_code n site before place other arguments = Err place

  -- arguments for input parameters, from left to right
  pub arguments_code : Numbering → Site → List Instr → Place → ℕ → List Naming → Expressions → Emitted
  arguments_code n site before place unit [] NoExpressions = Ok before
  arguments_code n site before place unit (name ∷ names) (MoreExpressions first others) =
      onwards (passed_code (is_whole (parameter_named site.set unit name).shape) (whole_code n site before place (runs_of (parameter_named site.set unit name).shape) first) (expression_code n site before first))
      (λ middle. arguments_code n site middle place unit names others)
  arguments_code n site before place unit names arguments = Err place

  -- the address of cells of these kinds that an argument is
  pub whole_code : Numbering → Site → List Instr → Place → List (Run Kind) → Expression → Emitted
  whole_code n site before place runs (Referred reference) = area_code n site before runs reference
  whole_code n site before place runs other = Err place

  -- the same of those that a reference chooses
  pub area_code : Numbering → Site → List Instr → List (Run Kind) → Reference → Emitted
  area_code n site before runs (Refers place name path subscript) =
      with_shape place (shape_number n runs) (λ shape. where_led place (λ l. chosen_code n site before place (aims.Shape shape) subscript l) (led_by path (referent site name)))

  -- a reference
  pub reference_code : Numbering → Site → List Instr → Reference → Emitted
  reference_code n site before (Refers place name path subscript) =
      if is_plain subscript then emit before place (value_of n site path (referent site name))
      else subscripted_code n site before place path (λ l. chosen_code n site before place aims.Cell subscript l) (λ arrayed middle. component_code n site middle place arrayed subscript) (referent site name)

  -- the address of what copy and array subscripts choose, in a reference at this place
  pub chosen_code : Numbering → Site → List Instr → Place → Aim → Subscript → Led → Emitted
  chosen_code n site before place aim Unsubscripted l = emit_any before place (plainly_aimed n site aim l)
  chosen_code n site before place aim (ByName there name) l = place_code n site before place aim (name_code n site before name) (ByName there name) l (sizes_led l)
  chosen_code n site before place aim (ByInteger there mark number) l = place_code n site before place aim (integer_code before place number) (ByInteger there mark number) l (sizes_led l)
  chosen_code n site before place aim (ByParts there copies arrays components) l =
      onwards (copies_code n site before place l.shape.copies copies)
      (λ middle. onwards (array_code (is_none arrays) (is_arrayed (sizes_led l) && not (leaves_array aim components)) (indexes_code n site middle place (sizes_led l) components) (indexes_code n site middle place (sizes_led l) arrays) (Ok middle))
      (λ last. address_code n site last place aim (ByParts there copies arrays components) l))

  -- a subscript of the copies, where there are copies
  pub copies_code : Numbering → Site → List Instr → Place → Option ℕ → Subscripts → Emitted
  copies_code n site before place count NoSubscripts = Ok before
  copies_code n site before place (Some count) (MoreSubscripts first others) = if is_none others then index_code n site before place count first else Err place
  copies_code n site before place None (MoreSubscripts first others) = Err place

  -- subscripts of an array of these sizes, one for each
  pub indexes_code : Numbering → Site → List Instr → Place → List ℕ → Subscripts → Emitted
  indexes_code n site before place [] NoSubscripts = Ok before
  indexes_code n site before place (size ∷ sizes) (MoreSubscripts first others) = onwards (index_code n site before place size first) (λ middle. indexes_code n site middle place sizes others)
  indexes_code n site before place sizes other = Err place

  -- one place of so many, or several, which are constant and have no code
  pub index_code : Numbering → Site → List Instr → Place → ℕ → Sub → Emitted
  index_code n site before place size (OnePlace one) = position_code n site before place (instr.Int (pos size)) one
  index_code n site before place size other = if is_some (places_skipped site size other) then Ok before else Err place

  -- a place of data, the number of whose places this instruction leaves
  pub position_code : Numbering → Site → List Instr → Place → Instr → Position → Emitted
  position_code n site before place ends (FromBeginning one) = expression_code n site before one
  position_code n site before place ends (FromEnd there terms) = onwards (emit_one before place ends) (λ middle. terms_code n site middle terms)

  -- the component of a value that a subscript chooses, of data with an array or without one
  pub component_code : Numbering → Site → List Instr → Place → Bool → Subscript → Emitted
  component_code n site before place arrayed Unsubscripted = Ok before
  component_code n site before place true (ByName there name) = Ok before
  component_code n site before place true (ByInteger there mark number) = Ok before
  component_code n site before place false (ByName there name) = onwards (name_code n site before name) (λ middle. emit_one middle place (picks places.One))
  component_code n site before place false (ByInteger there mark number) = onwards (integer_code before place number) (λ middle. emit_one middle place (picks places.One))
  component_code n site before place arrayed (ByParts there copies arrays components) = if arrayed && is_none arrays then Ok before else parts_code n site before place components

  -- the same of the subscripts of the component
  pub parts_code : Numbering → Site → List Instr → Place → Subscripts → Emitted
  parts_code n site before place NoSubscripts = Ok before
  parts_code n site before place (MoreSubscripts first others) =
      if is_none others then onwards (part_code n site before place first) (λ middle. emit_one middle place (picks (places_of first))) else Err place

  -- the places of a component of the value on the stack, which LEN counts
  pub part_code : Numbering → Site → List Instr → Place → Sub → Emitted
  part_code n site before place (Every there) = emit before place (Some (instr.Int (pos 1) ∷ instr.Len 1 ∷ []))
  part_code n site before place (OnePlace one) = position_code n site before place (instr.Len 0) one
  part_code n site before place (Range first last) =
      onwards (position_code n site before place (instr.Len 0) first) (λ middle. position_code n site middle place (instr.Len 1) last)
  part_code n site before place (Portion count first) =
      onwards (expression_code n site before count) (λ middle. position_code n site middle place (instr.Len 1) first)

-- the address of the cells of the shape with this number that a reference chooses
abbrev pub shaped_code : Numbering → Site → List Instr → ℕ → Reference → Emitted
shaped_code n site before shape (Refers place name path subscript) = where_led place (λ l. chosen_code n site before place (aims.Shape shape) subscript l) (led_by path (referent site name))
