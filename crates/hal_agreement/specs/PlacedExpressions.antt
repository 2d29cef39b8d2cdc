-- Where the code of expressions stands: from an instruction to the one behind it.
use Rattle.std.specs.Prelude.{◌≡◌, ℕ, suc, ◌+◌, ◌*◌, Bool, true, false, ◌&&◌, ◌||◌, List, [], ◌∷◌, ◌++◌, map, ℤ, pos, ◌+ℤ◌, ◌-ℤ◌, Option, Some, slice_get}
use Rattle.hal_grammar.specs.Leaves.{Naming, Sign, Minus}
use Rattle.hal_grammar.specs.Expressions.{Expression, Or, And, Compare, Cat, Sum, Product, Power, Not, Literal, Decimal, Referred, Called, Convert, Parenthesis, Expressions, NoExpressions, MoreExpressions, Terms, NoTerms, MoreTerms, Reference, Refers, Subscript, Unsubscripted, ByName, ByInteger, ByParts, Subscripts, NoSubscripts, MoreSubscripts, Sub, Every, Range, Portion, One as OnePlace, Position, FromBeginning, FromEnd}
use Rattle.hal_scope.specs.declared.builtin.Builtin.{Builtin}
use Rattle.hal_scope.specs.declared.builtin.Builtin.TheVariants as builtin
use Rattle.hal_operations.specs.declared.operation.Op2.{Op2}
use Rattle.hal_operations.specs.declared.operation.Op1.TheVariants as op1
use Rattle.hal_operations.specs.declared.operation.Op2.TheVariants as op2
use Rattle.hal_constants.specs.declared.operation.Operation.{Operation}
use Rattle.hal_constants.specs.declared.operation.Operation.TheVariants as operation
use Rattle.hal_constants.specs.Naming.{operation_of}
use Rattle.hal_constants.specs.Constants.{is_none}
use Rattle.hal_values.specs.declared.value.Kind.{Kind}
use Rattle.hal_values.specs.declared.value.Value.{Value}
use Rattle.hal_values.specs.declared.value.Value.TheVariants as value
use Rattle.hal_states.specs.Numbers.{is_inside, before_nearest}
use Rattle.hal_states.specs.Spots.{Spot, Own, Held, further}
use Rattle.hal_meaning.specs.Access.{Here}
use Rattle.hal_meaning.specs.Bodies.{Body}
use Rattle.hal_meaning.specs.Calls.{Parameter, parameter_named, inputs_of, outputs_of, is_function}
use Rattle.hal_meaning.specs.ReportNames.{first_place}
use Rattle.hal_meaning.specs.Sets.{body_at}
use Rattle.hal_meaning.specs.States.{State, Gives}
use Rattle.hal_meaning.specs.Tasks.{Meaning}
use Rattle.hal_meaning.specs.Elements.{Shape, chosen, offset, kinds_of}
use Rattle.hal_meaning.specs.Variables as tree
use Rattle.hal_meaning.specs.Variables.{dimensions_of, is_arrayed, Meant, MeantData, MeantConstant, MeantEvent, MeantBlock, MeantBuiltin, MeantNothing, name_meant, spot_named, kind_of_first, is_whole}
use Rattle.hal_meaning.specs.Expressions.{literal_value, is_condition, becomes_condition, makes_condition, exponent_of, operation_of_relation, operation_of_sign, operation_of_conversion, is_size, size_argument, inputs_at, sizes_named, copies_of, spoken, summed}
use Rattle.hal_code.specs.declared.choice.Choice.TheVariants as choice
use Rattle.hal_code.specs.declared.instr.Instr.{Instr}
use Rattle.hal_code.specs.declared.instr.Instr.TheVariants as instr
use Rattle.hal_code.specs.declared.operand.Places.{Places}
use Rattle.hal_code.specs.declared.operand.Places.TheVariants as places
use Rattle.hal_code.specs.declared.row.Block.{Block}
use Rattle.hal_code.specs.declared.row.Dimension.{Dimension}
use Rattle.hal_code.specs.declared.row.Target.{Target}
use Rattle.hal_code.specs.declared.row.Target.TheVariants as target
use Rattle.hal_code.specs.declared.row.View.{View}
use Rattle.hal_code.specs.Addressing.{spot_of}
use Rattle.hal_code.specs.Images as machine
use Rattle.hal_agreement.specs.Codes.{Code}
use Rattle.hal_agreement.specs.Constants.{IsConstant}
use Rattle.hal_agreement.specs.Sites.{Site, site_of, here_at}

-- the instruction with this number
abbrev pub Has : Code → ℕ → Instr → Type 0
Has code at i = slice_get code.image.code at ≡ Some i

-- one instruction, with the number of the one behind it
abbrev pub One : Code → ℕ → Instr → ℕ → Type 0
One code at i to = Has code at i × (suc at ≡ to)

-- the instruction that puts a value on the stack
abbrev pub pushes : Value → Instr
pushes (value.Int a) = instr.Int a
pushes (value.Bits len word) = instr.Bits len word
pushes (value.Text text) = instr.Text text

-- an operation with two operands
abbrev pub two : Op2 → Instr
two op = instr.Op2 (choice.Known op)

-- a dimension, as views have it
abbrev pub dimension_of : tree.Dimension → Dimension
dimension_of d = record { size = d.size; stride = d.stride }

-- a view in these dimensions, which begins at this spot while the own places hold this, and what it gives
pub record IsViewed (view : View) (all : List tree.Dimension) (held : List Held) (given : Target) (at : Spot) : Type 0 where
  pub dimensions : view.dimensions ≡ map dimension_of all
  pub target : view.target ≡ given
  pub base : spot_of view.base held ≡ at

-- a view of one cell
abbrev pub IsPlain : View → List Held → Kind → Spot → Type 0
IsPlain view held kind at = IsViewed view [] held (target.Cell kind) at

-- CELL with such a view
pub record AddressAt (code : Code) (held : List Held) (kind : Kind) (at : Spot) (from : ℕ) : Type 0 where
  pub number : ℕ
  pub view : View
  pub cell : Has code from (instr.Cell number)
  pub row : slice_get code.image.views number ≡ Some view
  pub plain : IsPlain view held kind at

-- the instruction that gives the address of a cell, or that of cells of a shape, by the view with this number
abbrev pub addresses : Target → ℕ → Instr
addresses (target.Cell kind) number = instr.Cell number
addresses (target.Shape shape) number = instr.Whole number

-- CELL or WHOLE with a view of these dimensions, behind the code of a subscript for each. What this code calls may change what the own places hold, and the view
-- begins where the data begin then
pub record ElementAt (code : Code) (all : List tree.Dimension) (given : Target) (at : List Held → Spot) (from : ℕ) : Type 0 where
  pub number : ℕ
  pub view : View
  pub address : Has code from (addresses given number)
  pub row : slice_get code.image.views number ≡ Some view
  pub viewed : (held : List Held) → IsViewed view all held given (at held)

-- built-in functions without a list
abbrev pub AloneAt : Code → Builtin → ℕ → ℕ → Type 0
AloneAt code builtin.Errgrp from to = One code from instr.ErrGrp to
AloneAt code builtin.Errnum from to = One code from instr.ErrNum to
AloneAt code builtin.Runtime from to = One code from instr.Now to
AloneAt code other from to = ⊥

-- BIND of each ASSIGN parameter, from the last to the first
abbrev pub BoundAt : Code → Site → ℕ → List Naming → ℕ → ℕ → Type 0
BoundAt code site unit [] from to = from ≡ to
BoundAt code site unit (name ∷ names) from to =
    (middle : ℕ) × BoundAt code site unit names from middle × One code middle (instr.Bind (first_place site.places (parameter_named site.set unit name).number)) to

-- the one code or the other
abbrev pub EitherAt : Bool → (ℕ → ℕ → Type 0) → (ℕ → ℕ → Type 0) → ℕ → ℕ → Type 0
EitherAt true one other from to = one from to
EitherAt false one other from to = other from to

-- an input parameter is stored: COPY of the cells on the stack where it is an array or a structure, and else CELL and KEEP of the value
abbrev pub ParameterAt : Code → Site → Parameter → ℕ → ℕ → Type 0
ParameterAt code site parameter from to =
    EitherAt (is_whole parameter.shape) (λ begin end. One code begin (instr.Copy (first_place site.places parameter.number)) end)
    (λ begin end. ((held : List Held) → AddressAt code held (kind_of_first parameter.shape.components) (Own (first_place site.places parameter.number)) begin) × One code (suc begin) instr.Keep end) from to

-- input parameters are stored from the last to the first
abbrev pub ParametersAt : Code → Site → ℕ → List Naming → ℕ → ℕ → Type 0
ParametersAt code site unit [] from to = from ≡ to
ParametersAt code site unit (name ∷ names) from to = (middle : ℕ) × ParametersAt code site unit names from middle × ParameterAt code site (parameter_named site.set unit name) middle to

-- CALL of the unit with this number, behind its arguments: the references of its ASSIGN parameters are kept, its input parameters are stored, and then it is called.
-- It gives a value or none
pub record CallAt (code : Code) (site : Site) (unit : ℕ) (function : Bool) (from to : ℕ) : Type 0 where
  pub number : ℕ
  pub body : Body
  pub row : Block
  pub named : code.block unit ≡ Some number
  pub found : body_at site.set unit ≡ Some body
  pub block : slice_get code.image.blocks number ≡ Some row
  pub gives : is_function body.head ≡ function
  pub bound : ℕ
  pub middle : ℕ
  pub references : BoundAt code site body.number (outputs_of body.head) from bound
  pub parameters : ParametersAt code site body.number (inputs_of body.head) bound middle
  pub call : One code middle (instr.Call number) to

-- the value of what a name means, without subscripts
abbrev pub ValueAt : Code → Site → List Naming → List Held → Meant → ℕ → ℕ → Type 0
ValueAt code site path held (MeantData at shape) from to =
    AddressAt code held (kind_of_first (chosen path shape.components)) (further (offset path shape.components) at) from × One code (suc from) instr.Fetch to
ValueAt code site path held (MeantConstant v) from to = One code from (pushes v) to
ValueAt code site path held (MeantEvent e) from to = One code from (instr.Event e) to
ValueAt code site path held (MeantBlock unit) from to = (inputs_at site.set unit ≡ []) × CallAt code site unit true from to
ValueAt code site path held (MeantBuiltin b) from to = AloneAt code b from to
ValueAt code site path held MeantNothing from to = ⊥

-- the same of a name, whatever the own places hold
abbrev pub NameAt : Code → Site → List ℕ → List Naming → ℕ → ℕ → Type 0
NameAt code site name path from to = (held : List Held) → ValueAt code site path held (name_meant (here_at site) name held) from to

-- the address of the data that a subscript without a mark chooses, of which the code is given: it is a place of the array of these sizes where there is one
abbrev pub PlaceAt : Code → (ℕ → ℕ → Type 0) → Target → (List Held → Spot) → List ℕ → ℕ → ℕ → Type 0
PlaceAt code place given at [] from to = ElementAt code [] given at from × (suc from ≡ to)
PlaceAt code place given at (n ∷ ns) from to = (middle : ℕ) × place from middle × (ns ≡ []) × ElementAt code (dimensions_of (n ∷ ns)) given at middle × (suc middle ≡ to)

-- subscripts without a mark, of which the code is given, are those of an array of these sizes where there is one; so many elements lie before what they choose as several
abbrev pub ArrayAt : (ℕ → ℕ → Type 0) → List ℕ → ℕ → ℕ → ℕ → Type 0
ArrayAt places [] before from to = (before ≡ 0) × (from ≡ to)
ArrayAt places (n ∷ ns) before from to = places from to

-- the dimensions of an array that its subscripts speak of: those without a mark may be none
abbrev pub array_spoken : Bool → Subscripts → List tree.Dimension → List tree.Dimension
array_spoken true components ds = spoken components ds
array_spoken false components ds = ds

-- the dimensions in which subscripts choose one place
abbrev pub single_dimensions : List tree.Dimension → Subscripts → List tree.Dimension
single_dimensions (d ∷ ds) (MoreSubscripts (OnePlace one) others) = d ∷ single_dimensions ds others
single_dimensions (d ∷ ds) (MoreSubscripts other others) = single_dimensions ds others
single_dimensions ds list = []

-- those of an array: its subscripts are those without a mark, or those with one
abbrev pub single_places : Bool → Subscripts → Subscripts → List tree.Dimension → List tree.Dimension
single_places true components arrays ds = single_dimensions (spoken components ds) components
single_places false components arrays ds = single_dimensions ds arrays

-- a place of a dimension of this size is this one wherever it stands at the site, whatever was done before
abbrev pub IsPosition : Site → ℕ → Position → ℤ → Type 0
IsPosition site size (FromBeginning one) k = IsConstant site one (value.Int k)
IsPosition site size (FromEnd place terms) k = (rec : Meaning) (h : Here) (st : State) → site_of h ≡ site → summed rec h (value.Int (pos size)) terms st ≡ Gives (value.Int k) st

-- a subscript chooses the places of a dimension of this size from one to another, which are constant
abbrev pub IsSpan : Site → ℕ → Sub → ℤ → ℤ → Type 0
IsSpan site size (Every place) first last = (first ≡ pos 1) × (last ≡ pos size)
IsSpan site size (OnePlace one) first last = ⊥
IsSpan site size (Range one other) first last = IsPosition site size one first × IsPosition site size other last
IsSpan site size (Portion count one) first last = (n : ℤ) × IsConstant site count (value.Int n) × IsPosition site size one first × (last ≡ (first +ℤ n) -ℤ pos 1)

-- several places of a dimension, which lie inside it; so many elements lie before the first one
pub record SpanAt (site : Site) (d : tree.Dimension) (sub : Sub) (before : ℕ) : Type 0 where
  pub first : ℤ
  pub last : ℤ
  pub span : IsSpan site d.size sub first last
  pub inside : (is_inside d.size first && is_inside d.size last) ≡ true
  pub behind : before ≡ before_nearest d.size first * d.stride

-- data that a name means, of whose address the code is given
abbrev pub DataAt : (Shape → ℕ → ℕ → Type 0) → Meant → ℕ → ℕ → Type 0
DataAt address (MeantData at shape) from to = address shape from to
DataAt address other from to = ⊥

-- what a name means, with a subscript: the code of the address that its copies and its array choose is given, and that of its component. The value is read
-- between them, as what is no data is given before its component
abbrev pub SubscriptedAt : Code → Site → List Naming → List Held → (Shape → ℕ → ℕ → Type 0) → (Bool → ℕ → ℕ → Type 0) → Meant → ℕ → ℕ → Type 0
SubscriptedAt code site path held address component (MeantData at shape) from to =
    (middle : ℕ) × address shape from middle × Has code middle instr.Fetch × component (is_arrayed (sizes_named path shape)) (suc middle) to
SubscriptedAt code site path held address component other from to = (middle : ℕ) × ValueAt code site path held other from middle × component false middle to

-- PICK of such places
abbrev pub picks : Places → Instr
picks chosen = instr.Pick (choice.Known chosen)

-- the places that a subscript of a component chooses: one, those from one to another, or so many at one; all are those from the first one to the last
abbrev pub places_of : Sub → Places
places_of (Every place) = places.To
places_of (OnePlace one) = places.One
places_of (Range first last) = places.To
places_of (Portion count first) = places.At

-- a sign before the first term
abbrev pub SignAt : Code → Option Sign → ℕ → ℕ → Type 0
SignAt code (Some Minus) from to = One code from (instr.Op1 (choice.Known op1.Minus)) to
SignAt code other from to = from ≡ to

-- an operand of AND or OR that becomes a condition is compared with a zero
abbrev pub OperandAt : Code → Bool → ℕ → ℕ → Type 0
OperandAt code true from to = Has code from (instr.Bits 1 0) × One code (suc from) (two op2.NotEqual) to
OperandAt code false from to = from ≡ to

-- a name with a list, of which the code is given as the operands of a product, as those of a built-in function, and as the arguments of a call: it is the product of
-- a value and a parenthesis, or the function, or the call; SIZE, whose value is given, is in the code
abbrev pub CalledAt : Code → Site → List Held → Value → (ℕ → ℕ → Type 0) → (Operation → ℕ → ℕ → Type 0) → (ℕ → ℕ → ℕ → Type 0) → Meant → ℕ → ℕ → Type 0
CalledAt code site held size folded built arguments (MeantBlock unit) from to = (middle : ℕ) × arguments unit from middle × CallAt code site unit true middle to
CalledAt code site held size folded built arguments (MeantBuiltin b) from to =
    EitherAt (is_size b) (λ begin end. One code begin (pushes size) end) (λ begin end. built (operation_of b) begin end) from to
CalledAt code site held size folded built arguments (MeantData at shape) from to = (middle : ℕ) × ValueAt code site [] held (MeantData at shape) from middle × folded middle to
CalledAt code site held size folded built arguments (MeantConstant v) from to = (middle : ℕ) × ValueAt code site [] held (MeantConstant v) from middle × folded middle to
CalledAt code site held size folded built arguments other from to = ⊥

abbrev mutual
  -- an expression leaves its value on the stack
  pub ExpressionAt : Code → Site → Expression → ℕ → ℕ → Type 0
  ExpressionAt code site (Or place first others) from to =
      (middle : ℕ) × ExpressionAt code site first from middle × JoinedAt code site op2.Or (is_condition first) others middle to
  ExpressionAt code site (And place first others) from to =
      (middle : ℕ) × ExpressionAt code site first from middle × JoinedAt code site op2.And (is_condition first) others middle to
  ExpressionAt code site (Compare place left relation right) from to =
      (middle : ℕ) × (last : ℕ) × ExpressionAt code site left from middle × ExpressionAt code site right middle last × One code last (two (operation_of_relation relation)) to
  ExpressionAt code site (Cat place first others) from to = (middle : ℕ) × ExpressionAt code site first from middle × FoldedAt code site op2.Cat others middle to
  ExpressionAt code site (Sum place opening first others) from to =
      (middle : ℕ) × (late : ℕ) × ExpressionAt code site first from middle × SignAt code opening middle late × TermsAt code site others late to
  ExpressionAt code site (Product place first others) from to = (middle : ℕ) × ExpressionAt code site first from middle × FoldedAt code site op2.Product others middle to
  ExpressionAt code site (Power place base exponent) from to =
      (middle : ℕ) × ExpressionAt code site base from middle × Has code middle (pushes (exponent_of exponent)) × One code (suc middle) (two op2.Power) to
  ExpressionAt code site (Not place operand) from to = (middle : ℕ) × ExpressionAt code site operand from middle × One code middle (instr.Op1 (choice.Known op1.Not)) to
  ExpressionAt code site (Literal place literal) from to = One code from (pushes (literal_value literal)) to
  ExpressionAt code site (Decimal place number) from to = ⊥
  ExpressionAt code site (Referred reference) from to = ReferenceAt code site reference from to
  ExpressionAt code site (Called place name arguments) from to =
      (held : List Held)
      → CalledAt code site held (size_argument (here_at site) arguments held) (λ middle end. FoldedAt code site op2.Product arguments middle end) (λ op begin end. BuiltAt code site op arguments begin end)
      (λ unit begin end. ArgumentsAt code site unit (inputs_at site.set unit) arguments begin end) (name_meant (here_at site) name held) from to
  ExpressionAt code site (Convert place conversion operand) from to =
      (middle : ℕ) × ExpressionAt code site operand from middle × One code middle (instr.Op1 (choice.Known (operation_of_conversion conversion))) to
  ExpressionAt code site (Parenthesis place inner) from to = ExpressionAt code site inner from to

  -- operands of AND or OR behind a value, which is a condition or not, each with the operation
  pub JoinedAt : Code → Site → Op2 → Bool → Expressions → ℕ → ℕ → Type 0
  JoinedAt code site op condition NoExpressions from to = from ≡ to
  JoinedAt code site op condition (MoreExpressions first others) from to =
      (begin : ℕ) × (middle : ℕ) × (late : ℕ) × OperandAt code (makes_condition condition first) from begin × ExpressionAt code site first begin middle
      × OperandAt code (becomes_condition condition first) middle late × Has code late (two op) × JoinedAt code site op (condition || is_condition first) others (suc late) to

  -- operands of an operation behind a value, each with the operation
  pub FoldedAt : Code → Site → Op2 → Expressions → ℕ → ℕ → Type 0
  FoldedAt code site op NoExpressions from to = from ≡ to
  FoldedAt code site op (MoreExpressions first others) from to =
      (middle : ℕ) × ExpressionAt code site first from middle × Has code middle (two op) × FoldedAt code site op others (suc middle) to

  -- terms behind a value
  pub TermsAt : Code → Site → Terms → ℕ → ℕ → Type 0
  TermsAt code site NoTerms from to = from ≡ to
  TermsAt code site (MoreTerms place sign term others) from to =
      (middle : ℕ) × ExpressionAt code site term from middle × Has code middle (two (operation_of_sign sign)) × TermsAt code site others (suc middle) to

  -- an operation of a built-in function
  pub BuiltAt : Code → Site → Operation → Expressions → ℕ → ℕ → Type 0
  BuiltAt code site (operation.One op) (MoreExpressions operand NoExpressions) from to =
      (middle : ℕ) × ExpressionAt code site operand from middle × One code middle (instr.Op1 (choice.Known op)) to
  BuiltAt code site (operation.Two op) (MoreExpressions left (MoreExpressions right NoExpressions)) from to =
      (middle : ℕ) × (last : ℕ) × ExpressionAt code site left from middle × ExpressionAt code site right middle last × One code last (two op) to
  BuiltAt code site other arguments from to = ⊥

  -- arguments for input parameters, from left to right: of an array or a structure the address of its cells is left, and else its value
  pub ArgumentsAt : Code → Site → ℕ → List Naming → Expressions → ℕ → ℕ → Type 0
  ArgumentsAt code site unit [] NoExpressions from to = from ≡ to
  ArgumentsAt code site unit (name ∷ names) (MoreExpressions first others) from to =
      (middle : ℕ)
      × EitherAt (is_whole (parameter_named site.set unit name).shape) (λ begin end. WholeArgumentAt code site (kinds_of (parameter_named site.set unit name).shape) first begin end)
      (λ begin end. ExpressionAt code site first begin end) from middle
      × ArgumentsAt code site unit names others middle to
  ArgumentsAt code site unit names arguments from to = ⊥

  -- an argument for a parameter with elements of these kinds
  pub WholeArgumentAt : Code → Site → List Kind → Expression → ℕ → ℕ → Type 0
  WholeArgumentAt code site kinds (Referred reference) from to = WholeAt code site kinds reference from to
  WholeArgumentAt code site kinds other from to = ⊥

  -- the address of the data that a reference chooses: of cells of a shape with these kinds
  pub WholeAt : Code → Site → List Kind → Reference → ℕ → ℕ → Type 0
  WholeAt code site kinds (Refers place name path subscript) from to =
      (shape : ℕ) × (machine.kinds_of code.image shape ≡ kinds)
      × ((held : List Held)
      → DataAt (λ form begin end. ChosenAt code site (target.Shape shape) path subscript (spot_named (here_at site) name) form begin end) (name_meant (here_at site) name held) from to)

  -- a reference
  pub ReferenceAt : Code → Site → Reference → ℕ → ℕ → Type 0
  ReferenceAt code site (Refers place name path Unsubscripted) from to = NameAt code site name path from to
  ReferenceAt code site (Refers place name path subscript) from to =
      (held : List Held)
      → SubscriptedAt code site path held (λ shape begin end. ChosenAt code site (target.Cell (kind_of_first (chosen path shape.components))) path subscript (spot_named (here_at site) name) shape begin end) (λ arrayed begin end. ComponentAt code site arrayed subscript begin end) (name_meant (here_at site) name held) from to

  -- the address of the data that copy and array subscripts choose, one place of each dimension; those without a mark are the array's where no others are, and a whole
  -- array has none. Where the data of the name begin is given, whatever the own places hold
  pub ChosenAt : Code → Site → Target → List Naming → Subscript → (List Held → Spot) → Shape → ℕ → ℕ → Type 0
  ChosenAt code site given path Unsubscripted at shape from to = ElementAt code [] given (λ held. further (offset path shape.components) (at held)) from × (suc from ≡ to)
  ChosenAt code site given path (ByName place name) at shape from to =
      PlaceAt code (λ begin end. NameAt code site name.name [] begin end) given (λ held. further (offset path shape.components) (at held)) (sizes_named path shape) from to
  ChosenAt code site given path (ByInteger place mark number) at shape from to =
      PlaceAt code (λ begin end. One code begin (instr.Int (pos number)) end) given (λ held. further (offset path shape.components) (at held)) (sizes_named path shape) from to
  ChosenAt code site given path (ByParts place copies arrays components) at shape from to =
      (middle : ℕ) × (last : ℕ) × (skipped : ℕ) × (passed : ℕ) × IndexesAt code site (spoken copies (copies_of shape)) copies skipped from middle
      × EitherAt (is_none arrays) (λ begin end. ArrayAt (λ first behind. IndexesAt code site (spoken components (dimensions_of (sizes_named path shape))) components passed first behind) (sizes_named path shape) passed begin end)
      (λ begin end. IndexesAt code site (dimensions_of (sizes_named path shape)) arrays passed begin end) middle last
      × ElementAt code (single_dimensions (spoken copies (copies_of shape)) copies ++ single_places (is_none arrays) components arrays (dimensions_of (sizes_named path shape))) given (λ held. further (skipped + passed) (further (offset path shape.components) (at held))) last
      × (suc last ≡ to)

  -- subscripts of dimensions: one place for each, or several, which have no code; so many elements lie before those
  pub IndexesAt : Code → Site → List tree.Dimension → Subscripts → ℕ → ℕ → ℕ → Type 0
  IndexesAt code site [] NoSubscripts before from to = (before ≡ 0) × (from ≡ to)
  IndexesAt code site (d ∷ ds) (MoreSubscripts (OnePlace one) others) before from to =
      (middle : ℕ) × PositionAt code site (instr.Int (pos d.size)) one from middle × IndexesAt code site ds others before middle to
  IndexesAt code site (d ∷ ds) (MoreSubscripts other others) before from to =
      (here : ℕ) × (behind : ℕ) × SpanAt site d other here × (before ≡ here + behind) × IndexesAt code site ds others behind from to
  IndexesAt code site all other before from to = ⊥

  -- a place of data, the number of whose places this instruction leaves
  pub PositionAt : Code → Site → Instr → Position → ℕ → ℕ → Type 0
  PositionAt code site ends (FromBeginning one) from to = ExpressionAt code site one from to
  PositionAt code site ends (FromEnd place terms) from to = Has code from ends × TermsAt code site terms (suc from) to

  -- the component of a value that a subscript chooses, of data with an array or without one
  pub ComponentAt : Code → Site → Bool → Subscript → ℕ → ℕ → Type 0
  ComponentAt code site arrayed Unsubscripted from to = from ≡ to
  ComponentAt code site true (ByName place name) from to = from ≡ to
  ComponentAt code site true (ByInteger place mark number) from to = from ≡ to
  ComponentAt code site false (ByName place name) from to = (middle : ℕ) × NameAt code site name.name [] from middle × One code middle (picks places.One) to
  ComponentAt code site false (ByInteger place mark number) from to = Has code from (instr.Int (pos number)) × One code (suc from) (picks places.One) to
  ComponentAt code site arrayed (ByParts place copies arrays components) from to = EitherAt (arrayed && is_none arrays) (λ begin end. begin ≡ end) (λ begin end. PartsAt code site components begin end) from to

  -- the same of the subscripts of the component
  pub PartsAt : Code → Site → Subscripts → ℕ → ℕ → Type 0
  PartsAt code site NoSubscripts from to = from ≡ to
  PartsAt code site (MoreSubscripts first others) from to = (middle : ℕ) × PartAt code site first from middle × One code middle (picks (places_of first)) to

  -- the places of a component of the value on the stack, which LEN counts
  pub PartAt : Code → Site → Sub → ℕ → ℕ → Type 0
  PartAt code site (Every place) from to = Has code from (instr.Int (pos 1)) × One code (suc from) (instr.Len 1) to
  PartAt code site (OnePlace one) from to = PositionAt code site (instr.Len 0) one from to
  PartAt code site (Range first last) from to = (middle : ℕ) × PositionAt code site (instr.Len 0) first from middle × PositionAt code site (instr.Len 1) last middle to
  PartAt code site (Portion count first) from to = (middle : ℕ) × ExpressionAt code site count from middle × PositionAt code site (instr.Len 1) first middle to
