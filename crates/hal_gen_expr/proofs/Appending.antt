-- Code goes by what stands before it in nothing but its place: so its length is its own.
use Rattle.std.specs.Prelude.{◌≡◌, ℕ, ◌+◌, Bool, true, false, not, pos, ◌&&◌, ◌||◌, List, [], ◌∷◌, ◌++◌, length, Option, Some, None, Ok, Err, if◌then◌else◌}
use Rattle.std.specs.Option.{option_map, is_some}
use Rattle.std.proofs.Common.{refl, sym, ap, ◌∙◌, append-nil, arith}
use Rattle.hal_base.specs.declared.refusal.Place.{Place}
use Rattle.hal_grammar.specs.Leaves.{Naming, Sign, Plus, Minus}
use Rattle.hal_grammar.specs.Expressions.{Expression, Or, And, Compare, Cat, Sum, Product, Power, Not, Literal, Decimal, Referred, Called, Convert, Parenthesis, Expressions, NoExpressions, MoreExpressions, Terms, NoTerms, MoreTerms, Reference, Refers, Subscript, Unsubscripted, ByName, ByInteger, ByParts, Subscripts, NoSubscripts, MoreSubscripts, Sub, Every, Range, Portion, One as OnePlace, Position, FromBeginning, FromEnd}
use Rattle.hal_operations.specs.declared.operation.Op2.{Op2}
use Rattle.hal_operations.specs.declared.operation.Op1.TheVariants as op1
use Rattle.hal_operations.specs.declared.operation.Op2.TheVariants as op2
use Rattle.hal_constants.specs.declared.operation.Operation.{Operation}
use Rattle.hal_constants.specs.declared.operation.Operation.TheVariants as operation
use Rattle.hal_constants.specs.Naming.{operation_of}
use Rattle.hal_constants.specs.Constants.{is_none}
use Rattle.hal_meaning.specs.Calls.{parameter_named}
use Rattle.hal_meaning.specs.Expressions.{is_condition, makes_condition, operation_of_relation, operation_of_sign, operation_of_conversion, is_size, inputs_at, outputs_at, sizes_named, becomes_condition}
use Rattle.hal_meaning.specs.Variables.{is_arrayed, is_whole}
use Rattle.hal_code.specs.declared.instr.Instr.{Instr}
use Rattle.hal_code.specs.declared.instr.Instr.TheVariants as instr
use Rattle.hal_code.specs.declared.operand.Places.TheVariants as places
use Rattle.hal_code.specs.declared.row.Run.{Run}
use Rattle.hal_values.specs.declared.value.Kind.{Kind}
use Rattle.hal_agreement.specs.PlacedExpressions.{two, picks, places_of}
use Rattle.hal_agreement.specs.Sites.{Site}
use Rattle.hal_gen_expr.specs.Emitting.{Emitted, onwards, emit, length_of}
use Rattle.hal_gen_expr.specs.ExpressionCode.{literal_instr, exponent_instr, power_of, behind_arguments, emit_one, emit_any, one, sign_code, integer_instr, name_code, integer_code, address_code, place_code, leaves_array, where_led, with_shape, passed_code, whole_code, area_code, array_code, subscripted_code, reference_code, chosen_code, copies_code, indexes_code, index_code, position_code, component_code, parts_code, part_code, called_code, expression_code, folded_code, terms_code, built_code, arguments_code, operand_code, size_code, joined_code}
use Rattle.hal_gen_expr.specs.declared.aims.Aim.{Aim}
use Rattle.hal_gen_expr.specs.declared.aims.Aim.TheVariants as aims
use Rattle.hal_gen_expr.specs.Calling.{spot_code, spots_code, passed_to_code, called_code as procedure_called}
use Rattle.hal_gen_expr.specs.Led.{Led, led_to, led_by, sizes_led, aimed, plainly_aimed}
use Rattle.hal_gen_expr.specs.Leaves.{is_nil, value_of, call_of}
use Rattle.hal_gen_expr.specs.Numbering.{Numbering, shape_number}
use Rattle.hal_gen_expr.specs.Shapes.{runs_of}
use Rattle.hal_gen_expr.specs.Sizes.{size_of_arguments}
use Rattle.hal_gen_expr.specs.Spans.{places_skipped}
use Rattle.hal_storage.specs.referents.Referents.{Referent, DataOf, ConstantOf, EventOf, BlockOf, BuiltinOf, Unmeant}
use Rattle.hal_gen_expr.specs.Referents.{referent}
use Rattle.hal_gen_expr.proofs.Growing.{append_append}

-- the same with more before it
abbrev pub behind : List Instr → Emitted → Emitted
behind front (Ok code) = Ok (front ++ code)
behind front (Err place) = Err place

pub emit_behind : (front before : List Instr) (place : Place) (o : Option (List Instr)) → emit (front ++ before) place o ≡ behind front (emit before place o)
emit_behind front before place None = refl
emit_behind front before place (Some is) = ap Ok (append_append front before is)

pub onwards_behind : (front : List Instr) (r there : Emitted) (next later : List Instr → Emitted) → there ≡ behind front r
    → ((code : List Instr) → later (front ++ code) ≡ behind front (next code)) → onwards there later ≡ behind front (onwards r next)
onwards_behind front (Ok code) there next later is each = ap (λ r. onwards r later) is ∙ each code
onwards_behind front (Err place) there next later is each = ap (λ r. onwards r later) is

pub if_behind : (b : Bool) (front : List Instr) (r there : Emitted) (place : Place) → there ≡ behind front r → (if b then there else Err place) ≡ behind front (if b then r else Err place)
if_behind true front r there place is = is
if_behind false front r there place is = refl

both_behind : (b : Bool) (front : List Instr) (r other r_there other_there : Emitted) → r_there ≡ behind front r → other_there ≡ behind front other → (if b then r_there else other_there) ≡ behind front (if b then r else other)
both_behind true front r other r_there other_there is late = is
both_behind false front r other r_there other_there is late = late

pub call_behind : (o : Option (List Instr)) (front : List Instr) (r there : Emitted) (place : Place) → there ≡ behind front r
    → behind_arguments place there o ≡ behind front (behind_arguments place r o)
call_behind None front r there place is = refl
call_behind (Some js) front r there place is = onwards_behind front r there (λ middle. Ok (middle ++ js)) (λ middle. Ok (middle ++ js)) is (λ code. ap Ok (append_append front code js))

module _ (n : Numbering) (site : Site) (front : List Instr) where
  operand_behind : (becomes : Bool) (before : List Instr) (place : Place) → operand_code (front ++ before) place becomes ≡ behind front (operand_code before place becomes)
  operand_behind true before place = emit_behind front before place (Some (instr.Bits 1 0 ∷ two op2.NotEqual ∷ []))
  operand_behind false before place = refl

  sign_behind : (opening : Option Sign) (before : List Instr) (place : Place) → sign_code (front ++ before) place opening ≡ behind front (sign_code before place opening)
  sign_behind (Some Minus) before place = emit_behind front before place (Some (one op1.Minus ∷ []))
  sign_behind (Some Plus) before place = refl
  sign_behind None before place = refl

  any_behind : (before : List Instr) (place : Place) (i : Option Instr) → emit_any (front ++ before) place i ≡ behind front (emit_any before place i)
  any_behind before place i = emit_behind front before place (option_map (λ one. one ∷ []) i)

  one_behind : (before : List Instr) (place : Place) (i : Instr) → emit_one (front ++ before) place i ≡ behind front (emit_one before place i)
  one_behind before place i = emit_behind front before place (Some (i ∷ []))

  name_behind : (name : Naming) (before : List Instr) → name_code n site (front ++ before) name ≡ behind front (name_code n site before name)
  name_behind name before = emit_behind front before name.place (value_of n site [] (referent site name.name))

  address_behind : (subscript : Subscript) (aim : Aim) (l : Led) (before : List Instr) (place : Place) → address_code n site (front ++ before) place aim subscript l ≡ behind front (address_code n site before place aim subscript l)
  address_behind subscript aim l before place = any_behind before place (aimed n site aim subscript l)

  place_behind : (sizes : List ℕ) (aim : Aim) (subscript : Subscript) (l : Led) (before : List Instr) (place : Place) (r there : Emitted) → there ≡ behind front r
      → place_code n site (front ++ before) place aim there subscript l sizes ≡ behind front (place_code n site before place aim r subscript l sizes)
  place_behind [] aim subscript l before place r there is = address_behind subscript aim l before place
  place_behind (size ∷ sizes) aim subscript l before place r there is =
      if_behind (is_nil sizes) front (onwards r (λ middle. address_code n site middle place aim subscript l)) _ place (onwards_behind front r there _ _ is (λ code. address_behind subscript aim l code place))

  array_behind : (b c : Bool) (unmarked marked none unmarked_there marked_there none_there : Emitted) → unmarked_there ≡ behind front unmarked → marked_there ≡ behind front marked → none_there ≡ behind front none
      → array_code b c unmarked_there marked_there none_there ≡ behind front (array_code b c unmarked marked none)
  array_behind true true unmarked marked none unmarked_there marked_there none_there u m o = u
  array_behind true false unmarked marked none unmarked_there marked_there none_there u m o = o
  array_behind false c unmarked marked none unmarked_there marked_there none_there u m o = m

  valued_behind : (r : Referent) (path : List Naming) (before : List Instr) (place : Place) (component : Bool → List Instr → Emitted)
      → ((arrayed : Bool) (code : List Instr) → component arrayed (front ++ code) ≡ behind front (component arrayed code))
      → onwards (emit (front ++ before) place (value_of n site path r)) (λ middle. component false middle) ≡ behind front (onwards (emit before place (value_of n site path r)) (λ middle. component false middle))
  valued_behind r path before place component c =
      onwards_behind front (emit before place (value_of n site path r)) _ (λ middle. component false middle) (λ middle. component false middle) (emit_behind front before place (value_of n site path r)) (λ code. c false code)

  subscripted_behind : (r : Referent) (path : List Naming) (before : List Instr) (place : Place) (address address_there : Led → Emitted) (component : Bool → List Instr → Emitted)
      → ((l : Led) → address_there l ≡ behind front (address l)) → ((arrayed : Bool) (code : List Instr) → component arrayed (front ++ code) ≡ behind front (component arrayed code))
      → subscripted_code n site (front ++ before) place path address_there component r ≡ behind front (subscripted_code n site before place path address component r)
  subscripted_behind (DataOf k kept shape) path before place address address_there component a c =
      onwards_behind front (address (led_to path k kept shape)) _ _ _ (a (led_to path k kept shape))
      (λ code. onwards_behind front (emit_one code place instr.Fetch) _ (λ late. component (is_arrayed (sizes_named path shape)) late) (λ late. component (is_arrayed (sizes_named path shape)) late) (one_behind code place instr.Fetch) (λ late. c (is_arrayed (sizes_named path shape)) late))
  subscripted_behind (ConstantOf v) path before place address address_there component a c = valued_behind (ConstantOf v) path before place component c
  subscripted_behind (EventOf e) path before place address address_there component a c = valued_behind (EventOf e) path before place component c
  subscripted_behind (BlockOf unit) path before place address address_there component a c = valued_behind (BlockOf unit) path before place component c
  subscripted_behind (BuiltinOf b) path before place address address_there component a c = valued_behind (BuiltinOf b) path before place component c
  subscripted_behind Unmeant path before place address address_there component a c = refl

  called_behind : (r : Referent) (before : List Instr) (place : Place) (size size_there : Emitted) (folded : List Instr → Emitted) (built built_there : Operation → Emitted) (arguments arguments_there : ℕ → Emitted)
      → size_there ≡ behind front size → ((code : List Instr) → folded (front ++ code) ≡ behind front (folded code)) → ((op : Operation) → built_there op ≡ behind front (built op)) → ((unit : ℕ) → arguments_there unit ≡ behind front (arguments unit))
      → called_code n site (front ++ before) place size_there folded built_there arguments_there r ≡ behind front (called_code n site before place size folded built arguments r)
  called_behind (DataOf k kept shape) before place size size_there folded built built_there arguments arguments_there s f b a =
      onwards_behind front (emit before place (value_of n site [] (DataOf k kept shape))) _ folded folded (emit_behind front before place (value_of n site [] (DataOf k kept shape))) f
  called_behind (ConstantOf v) before place size size_there folded built built_there arguments arguments_there s f b a =
      onwards_behind front (emit before place (value_of n site [] (ConstantOf v))) _ folded folded (emit_behind front before place (value_of n site [] (ConstantOf v))) f
  called_behind (EventOf e) before place size size_there folded built built_there arguments arguments_there s f b a = refl
  called_behind (BlockOf unit) before place size size_there folded built built_there arguments arguments_there s f b a =
      call_behind (call_of n site true unit) front (arguments unit) (arguments_there unit) place (a unit)
  called_behind (BuiltinOf one) before place size size_there folded built built_there arguments arguments_there s f b a =
      both_behind (is_size one) front size (built (operation_of one)) size_there (built_there (operation_of one)) s (b (operation_of one))
  called_behind Unmeant before place size size_there folded built built_there arguments arguments_there s f b a = refl

  shape_behind : (place : Place) (o : Option ℕ) (go there : ℕ → Emitted) → ((number : ℕ) → there number ≡ behind front (go number)) → with_shape place o there ≡ behind front (with_shape place o go)
  shape_behind place None go there is = refl
  shape_behind place (Some number) go there is = is number

  led_behind : (place : Place) (o : Option Led) (address there : Led → Emitted) → ((l : Led) → there l ≡ behind front (address l)) → where_led place there o ≡ behind front (where_led place address o)
  led_behind place None address there is = refl
  led_behind place (Some l) address there is = is l

  passed_behind : (b : Bool) (whole plain whole_there plain_there : Emitted) → whole_there ≡ behind front whole → plain_there ≡ behind front plain → passed_code b whole_there plain_there ≡ behind front (passed_code b whole plain)
  passed_behind true whole plain whole_there plain_there is late = is
  passed_behind false whole plain whole_there plain_there is late = late

  -- an operand of AND or OR behind a value that is a condition where it has to be one, and those behind it
  abbrev operand_step : Place → Op2 → Bool → Expression → Expressions → List Instr → Emitted
  operand_step place op condition first others begun =
      onwards (expression_code n site begun first)
      (λ middle. onwards (operand_code middle place (becomes_condition condition first))
      (λ late. onwards (emit_one late place (two op)) (λ last. joined_code n site last place op (condition || is_condition first) others)))

  mutual
    pub expression_behind : (tree : Expression) (before : List Instr) → expression_code n site (front ++ before) tree ≡ behind front (expression_code n site before tree)
    expression_behind (Or place first others) before =
        onwards_behind front (expression_code n site before first) _ _ _ (expression_behind first before)
        (λ code. joined_behind others place op2.Or (is_condition first) code)
    expression_behind (And place first others) before =
        onwards_behind front (expression_code n site before first) _ _ _ (expression_behind first before)
        (λ code. joined_behind others place op2.And (is_condition first) code)
    expression_behind (Compare place left relation right) before =
        onwards_behind front (expression_code n site before left) _ _ _ (expression_behind left before)
        (λ code. onwards_behind front (expression_code n site code right) _ _ _ (expression_behind right code) (λ late. emit_behind front late place (Some (two (operation_of_relation relation) ∷ []))))
    expression_behind (Cat place first others) before = onwards_behind front (expression_code n site before first) _ _ _ (expression_behind first before) (λ code. folded_behind others place op2.Cat code)
    expression_behind (Sum place opening first others) before =
        onwards_behind front (expression_code n site before first) _ _ _ (expression_behind first before)
        (λ code. onwards_behind front (sign_code code place opening) _ _ _ (sign_behind opening code place) (λ late. terms_behind others late))
    expression_behind (Product place first others) before = onwards_behind front (expression_code n site before first) _ _ _ (expression_behind first before) (λ code. folded_behind others place op2.Product code)
    expression_behind (Power place base exponent) before =
        onwards_behind front (expression_code n site before base) _ _ _ (expression_behind base before) (λ code. emit_behind front code place (power_of (exponent_instr exponent)))
    expression_behind (Not place operand) before = onwards_behind front (expression_code n site before operand) _ _ _ (expression_behind operand before) (λ code. emit_behind front code place (Some (one op1.Not ∷ [])))
    expression_behind (Literal place literal) before = emit_behind front before place (option_map (λ i. i ∷ []) (literal_instr literal))
    expression_behind (Decimal place number) before = refl
    expression_behind (Referred reference) before = reference_behind reference before
    expression_behind (Called place name arguments) before =
        called_behind (referent site name) before place (size_code site before place arguments) (size_code site (front ++ before) place arguments) (λ middle. folded_code n site middle place op2.Product arguments) (λ op. built_code n site before place op arguments) (λ op. built_code n site (front ++ before) place op arguments)
        (λ unit. arguments_code n site before place unit (inputs_at site.set unit) arguments) (λ unit. arguments_code n site (front ++ before) place unit (inputs_at site.set unit) arguments)
        (emit_behind front before place (option_map (λ i. i ∷ []) (integer_instr (size_of_arguments site arguments)))) (λ code. folded_behind arguments place op2.Product code) (λ op. built_behind arguments op place before) (λ unit. arguments_behind arguments unit (inputs_at site.set unit) place before)
    expression_behind (Convert place conversion operand) before =
        onwards_behind front (expression_code n site before operand) _ _ _ (expression_behind operand before) (λ code. emit_behind front code place (Some (one (operation_of_conversion conversion) ∷ [])))
    expression_behind (Parenthesis place inner) before = expression_behind inner before

    joined_behind : (trees : Expressions) (place : Place) (op : Op2) (condition : Bool) (before : List Instr)
        → joined_code n site (front ++ before) place op condition trees ≡ behind front (joined_code n site before place op condition trees)
    joined_behind NoExpressions place op condition before = refl
    joined_behind (MoreExpressions first others) place op condition before =
        onwards_behind front (operand_code before place (makes_condition condition first)) _ (λ begun. operand_step place op condition first others begun) (λ begun. operand_step place op condition first others begun)
        (operand_behind (makes_condition condition first) before place)
        (λ begun. onwards_behind front (expression_code n site begun first) _ _ _ (expression_behind first begun)
        (λ code. onwards_behind front (operand_code code place (becomes_condition condition first)) _
        (λ late. onwards (emit_one late place (two op)) (λ last. joined_code n site last place op (condition || is_condition first) others)) (λ late. onwards (emit_one late place (two op)) (λ last. joined_code n site last place op (condition || is_condition first) others))
        (operand_behind (becomes_condition condition first) code place)
        (λ late. onwards_behind front (emit_one late place (two op)) _ (λ last. joined_code n site last place op (condition || is_condition first) others) (λ last. joined_code n site last place op (condition || is_condition first) others) (emit_behind front late place (Some (two op ∷ [])))
        (λ last. joined_behind others place op (condition || is_condition first) last))))

    folded_behind : (trees : Expressions) (place : Place) (op : Op2) (before : List Instr) → folded_code n site (front ++ before) place op trees ≡ behind front (folded_code n site before place op trees)
    folded_behind NoExpressions place op before = refl
    folded_behind (MoreExpressions first others) place op before =
        onwards_behind front (expression_code n site before first) _ _ _ (expression_behind first before)
        (λ code. onwards_behind front (emit_one code place (two op)) _ (λ late. folded_code n site late place op others) (λ late. folded_code n site late place op others) (emit_behind front code place (Some (two op ∷ []))) (λ late. folded_behind others place op late))

    terms_behind : (terms : Terms) (before : List Instr) → terms_code n site (front ++ before) terms ≡ behind front (terms_code n site before terms)
    terms_behind NoTerms before = refl
    terms_behind (MoreTerms place sign term others) before =
        onwards_behind front (expression_code n site before term) _ _ _ (expression_behind term before)
        (λ code. onwards_behind front (emit_one code place (two (operation_of_sign sign))) _ (λ late. terms_code n site late others) (λ late. terms_code n site late others) (emit_behind front code place (Some (two (operation_of_sign sign) ∷ []))) (λ late. terms_behind others late))

    built_behind : (trees : Expressions) (op : Operation) (place : Place) (before : List Instr) → built_code n site (front ++ before) place op trees ≡ behind front (built_code n site before place op trees)
    built_behind (MoreExpressions operand NoExpressions) (operation.One op) place before =
        onwards_behind front (expression_code n site before operand) _ _ _ (expression_behind operand before) (λ code. emit_behind front code place (Some (one op ∷ [])))
    built_behind (MoreExpressions left (MoreExpressions right NoExpressions)) (operation.Two op) place before =
        onwards_behind front (expression_code n site before left) _ _ _ (expression_behind left before)
        (λ code. onwards_behind front (expression_code n site code right) _ _ _ (expression_behind right code) (λ late. emit_behind front late place (Some (two op ∷ []))))
    built_behind NoExpressions (operation.One op) place before = refl
    built_behind (MoreExpressions operand (MoreExpressions next others)) (operation.One op) place before = refl
    built_behind NoExpressions (operation.Two op) place before = refl
    built_behind (MoreExpressions left NoExpressions) (operation.Two op) place before = refl
    built_behind (MoreExpressions left (MoreExpressions right (MoreExpressions next others))) (operation.Two op) place before = refl
    built_behind trees operation.Size place before = refl
    built_behind trees operation.Nothing place before = refl

    pub arguments_behind : (trees : Expressions) (unit : ℕ) (names : List Naming) (place : Place) (before : List Instr)
        → arguments_code n site (front ++ before) place unit names trees ≡ behind front (arguments_code n site before place unit names trees)
    arguments_behind NoExpressions unit [] place before = refl
    arguments_behind (MoreExpressions first others) unit (name ∷ names) place before =
        onwards_behind front
        (passed_code (is_whole (parameter_named site.set unit name).shape) (whole_code n site before place (runs_of (parameter_named site.set unit name).shape) first) (expression_code n site before first)) _
        (λ middle. arguments_code n site middle place unit names others) (λ middle. arguments_code n site middle place unit names others)
        (passed_behind (is_whole (parameter_named site.set unit name).shape) _ _ _ _ (whole_behind first (runs_of (parameter_named site.set unit name).shape) place before) (expression_behind first before))
        (λ code. arguments_behind others unit names place code)
    arguments_behind NoExpressions unit (name ∷ names) place before = refl
    arguments_behind (MoreExpressions first others) unit [] place before = refl

    whole_behind : (tree : Expression) (runs : List (Run Kind)) (place : Place) (before : List Instr) → whole_code n site (front ++ before) place runs tree ≡ behind front (whole_code n site before place runs tree)
    whole_behind (Referred reference) runs place before = area_behind reference runs before
    whole_behind (Or there first others) runs place before = refl
    whole_behind (And there first others) runs place before = refl
    whole_behind (Compare there left relation right) runs place before = refl
    whole_behind (Cat there first others) runs place before = refl
    whole_behind (Sum there opening first others) runs place before = refl
    whole_behind (Product there first others) runs place before = refl
    whole_behind (Power there base exponent) runs place before = refl
    whole_behind (Not there operand) runs place before = refl
    whole_behind (Literal there literal) runs place before = refl
    whole_behind (Decimal there number) runs place before = refl
    whole_behind (Called there name arguments) runs place before = refl
    whole_behind (Convert there conversion operand) runs place before = refl
    whole_behind (Parenthesis there inner) runs place before = refl

    pub area_behind : (reference : Reference) (runs : List (Run Kind)) (before : List Instr) → area_code n site (front ++ before) runs reference ≡ behind front (area_code n site before runs reference)
    area_behind (Refers place name path subscript) runs before =
        shape_behind place (shape_number n runs) (λ shape. where_led place (λ l. chosen_code n site before place (aims.Shape shape) subscript l) (led_by path (referent site name)))
        (λ shape. where_led place (λ l. chosen_code n site (front ++ before) place (aims.Shape shape) subscript l) (led_by path (referent site name)))
        (λ shape. led_behind place (led_by path (referent site name)) (λ l. chosen_code n site before place (aims.Shape shape) subscript l) (λ l. chosen_code n site (front ++ before) place (aims.Shape shape) subscript l)
        (λ l. chosen_behind subscript (aims.Shape shape) l place before))

    reference_behind : (reference : Reference) (before : List Instr) → reference_code n site (front ++ before) reference ≡ behind front (reference_code n site before reference)
    reference_behind (Refers place name path Unsubscripted) before = emit_behind front before place (value_of n site path (referent site name))
    reference_behind (Refers place name path (ByName there one)) before =
        subscripted_behind (referent site name) path before place (λ l. chosen_code n site before place aims.Cell (ByName there one) l) (λ l. chosen_code n site (front ++ before) place aims.Cell (ByName there one) l)
        (λ arrayed middle. component_code n site middle place arrayed (ByName there one)) (λ l. chosen_behind (ByName there one) aims.Cell l place before) (λ arrayed code. component_behind (ByName there one) arrayed place code)
    reference_behind (Refers place name path (ByInteger there mark number)) before =
        subscripted_behind (referent site name) path before place (λ l. chosen_code n site before place aims.Cell (ByInteger there mark number) l) (λ l. chosen_code n site (front ++ before) place aims.Cell (ByInteger there mark number) l)
        (λ arrayed middle. component_code n site middle place arrayed (ByInteger there mark number)) (λ l. chosen_behind (ByInteger there mark number) aims.Cell l place before) (λ arrayed code. component_behind (ByInteger there mark number) arrayed place code)
    reference_behind (Refers place name path (ByParts there copies arrays components)) before =
        subscripted_behind (referent site name) path before place (λ l. chosen_code n site before place aims.Cell (ByParts there copies arrays components) l) (λ l. chosen_code n site (front ++ before) place aims.Cell (ByParts there copies arrays components) l)
        (λ arrayed middle. component_code n site middle place arrayed (ByParts there copies arrays components)) (λ l. chosen_behind (ByParts there copies arrays components) aims.Cell l place before)
        (λ arrayed code. component_behind (ByParts there copies arrays components) arrayed place code)

    pub chosen_behind : (subscript : Subscript) (aim : Aim) (l : Led) (place : Place) (before : List Instr) → chosen_code n site (front ++ before) place aim subscript l ≡ behind front (chosen_code n site before place aim subscript l)
    chosen_behind Unsubscripted aim l place before = any_behind before place (plainly_aimed n site aim l)
    chosen_behind (ByName there name) aim l place before = place_behind (sizes_led l) aim (ByName there name) l before place (name_code n site before name) (name_code n site (front ++ before) name) (name_behind name before)
    chosen_behind (ByInteger there mark number) aim l place before =
        place_behind (sizes_led l) aim (ByInteger there mark number) l before place (integer_code before place number) (integer_code (front ++ before) place number) (any_behind before place (integer_instr number))
    chosen_behind (ByParts there copies arrays components) aim l place before =
        onwards_behind front (copies_code n site before place l.shape.copies copies) _ _ _ (copies_behind copies l.shape.copies place before)
        (λ code. onwards_behind front
        (array_code (is_none arrays) (is_arrayed (sizes_led l) && not (leaves_array aim components)) (indexes_code n site code place (sizes_led l) components) (indexes_code n site code place (sizes_led l) arrays) (Ok code)) _
        (λ last. address_code n site last place aim (ByParts there copies arrays components) l) (λ last. address_code n site last place aim (ByParts there copies arrays components) l)
        (array_behind (is_none arrays) (is_arrayed (sizes_led l) && not (leaves_array aim components)) _ _ _ _ _ _ (indexes_behind components (sizes_led l) place code) (indexes_behind arrays (sizes_led l) place code) refl)
        (λ last. address_behind (ByParts there copies arrays components) aim l last place))

    copies_behind : (list : Subscripts) (count : Option ℕ) (place : Place) (before : List Instr) → copies_code n site (front ++ before) place count list ≡ behind front (copies_code n site before place count list)
    copies_behind NoSubscripts count place before = refl
    copies_behind (MoreSubscripts first others) (Some count) place before = if_behind (is_none others) front _ _ place (index_behind first count place before)
    copies_behind (MoreSubscripts first others) None place before = refl

    indexes_behind : (list : Subscripts) (sizes : List ℕ) (place : Place) (before : List Instr) → indexes_code n site (front ++ before) place sizes list ≡ behind front (indexes_code n site before place sizes list)
    indexes_behind NoSubscripts [] place before = refl
    indexes_behind (MoreSubscripts first others) (size ∷ sizes) place before =
        onwards_behind front (index_code n site before place size first) _ (λ middle. indexes_code n site middle place sizes others) (λ middle. indexes_code n site middle place sizes others) (index_behind first size place before)
        (λ code. indexes_behind others sizes place code)
    indexes_behind NoSubscripts (size ∷ sizes) place before = refl
    indexes_behind (MoreSubscripts first others) [] place before = refl

    index_behind : (first : Sub) (size : ℕ) (place : Place) (before : List Instr) → index_code n site (front ++ before) place size first ≡ behind front (index_code n site before place size first)
    index_behind (OnePlace one) size place before = position_behind one (instr.Int (pos size)) place before
    index_behind (Every there) size place before = if_behind (is_some (places_skipped site size (Every there))) front (Ok before) (Ok (front ++ before)) place refl
    index_behind (Range first last) size place before = if_behind (is_some (places_skipped site size (Range first last))) front (Ok before) (Ok (front ++ before)) place refl
    index_behind (Portion count first) size place before = if_behind (is_some (places_skipped site size (Portion count first))) front (Ok before) (Ok (front ++ before)) place refl

    position_behind : (one : Position) (ends : Instr) (place : Place) (before : List Instr) → position_code n site (front ++ before) place ends one ≡ behind front (position_code n site before place ends one)
    position_behind (FromBeginning tree) ends place before = expression_behind tree before
    position_behind (FromEnd there terms) ends place before =
        onwards_behind front (emit_one before place ends) _ (λ middle. terms_code n site middle terms) (λ middle. terms_code n site middle terms) (one_behind before place ends) (λ code. terms_behind terms code)

    component_behind : (subscript : Subscript) (arrayed : Bool) (place : Place) (before : List Instr) → component_code n site (front ++ before) place arrayed subscript ≡ behind front (component_code n site before place arrayed subscript)
    component_behind Unsubscripted arrayed place before = refl
    component_behind (ByName there name) true place before = refl
    component_behind (ByName there name) false place before =
        onwards_behind front (name_code n site before name) _ _ _ (name_behind name before) (λ code. one_behind code place (picks places.One))
    component_behind (ByInteger there mark number) true place before = refl
    component_behind (ByInteger there mark number) false place before =
        onwards_behind front (integer_code before place number) _ _ _ (any_behind before place (integer_instr number)) (λ code. one_behind code place (picks places.One))
    component_behind (ByParts there copies arrays components) arrayed place before = both_behind (arrayed && is_none arrays) front (Ok before) (parts_code n site before place components) _ _ refl (parts_behind components place before)

    parts_behind : (list : Subscripts) (place : Place) (before : List Instr) → parts_code n site (front ++ before) place list ≡ behind front (parts_code n site before place list)
    parts_behind NoSubscripts place before = refl
    parts_behind (MoreSubscripts first others) place before =
        if_behind (is_none others) front _ _ place
        (onwards_behind front (part_code n site before place first) _ _ _ (part_behind first place before) (λ code. one_behind code place (picks (places_of first))))

    pub part_behind : (one : Sub) (place : Place) (before : List Instr) → part_code n site (front ++ before) place one ≡ behind front (part_code n site before place one)
    part_behind (Every there) place before = emit_behind front before place (Some (instr.Int (pos 1) ∷ instr.Len 1 ∷ []))
    part_behind (OnePlace one) place before = position_behind one (instr.Len 0) place before
    part_behind (Range first last) place before =
        onwards_behind front (position_code n site before place (instr.Len 0) first) _ _ _ (position_behind first (instr.Len 0) place before) (λ code. position_behind last (instr.Len 1) place code)
    part_behind (Portion count first) place before =
        onwards_behind front (expression_code n site before count) _ _ _ (expression_behind count before) (λ code. position_behind first (instr.Len 1) place code)

length_both : (before is : List Instr) → length (before ++ is) ≡ length before + length is
length_both [] is = omega arith
length_both (i ∷ before) is = omega (arith, length_both before is)

-- what is emitted is as long as alone
pub grows_by : (r there : Emitted) (before after : List Instr) → there ≡ behind before r → there ≡ Ok after → length after ≡ length before + length_of r
grows_by (Ok code) there before after is given = ap length (let same : before ++ code ≡ after = cc in sym same) ∙ length_both before code
grows_by (Err place) there before after is given = absurd (cc)

-- the code of an expression
pub expression_grows : (n : Numbering) (site : Site) (tree : Expression) (before after : List Instr) → expression_code n site before tree ≡ Ok after
    → length after ≡ length before + length_of (expression_code n site [] tree)
expression_grows n site tree before after is =
    grows_by (expression_code n site [] tree) (expression_code n site (before ++ []) tree) before after (expression_behind n site before tree [])
    (ap (λ l. expression_code n site l tree) (append-nil before) ∙ is)

-- ASSIGN arguments, and CALL
spots_behind : (n : Numbering) (site : Site) (front : List Instr) (names : List Naming) (receivers : List Reference) (unit : ℕ) (place : Place) (before : List Instr)
    → spots_code n site (front ++ before) place unit names receivers ≡ behind front (spots_code n site before place unit names receivers)
unfolding spot_code
spots_behind n site front [] [] unit place before = refl
spots_behind n site front (name ∷ names) (receiver ∷ receivers) unit place before =
    onwards_behind front (spot_code n site before unit name receiver) _ (λ middle. spots_code n site middle place unit names receivers) (λ middle. spots_code n site middle place unit names receivers)
    (area_behind n site front receiver (runs_of (parameter_named site.set unit name).shape) before) (λ code. spots_behind n site front names receivers unit place code)
spots_behind n site front [] (receiver ∷ receivers) unit place before = refl
spots_behind n site front (name ∷ names) [] unit place before = refl

passed_to_behind : (n : Numbering) (site : Site) (front : List Instr) (trees : Expressions) (receivers : List Reference) (unit : ℕ) (place : Place) (before : List Instr)
    → passed_to_code n site (front ++ before) place trees receivers unit ≡ behind front (passed_to_code n site before place trees receivers unit)
passed_to_behind n site front trees receivers unit place before =
    onwards_behind front (arguments_code n site before place unit (inputs_at site.set unit) trees) _ (λ middle. spots_code n site middle place unit (outputs_at site.set unit) receivers)
    (λ middle. spots_code n site middle place unit (outputs_at site.set unit) receivers) (arguments_behind n site front trees unit (inputs_at site.set unit) place before)
    (λ code. spots_behind n site front (outputs_at site.set unit) receivers unit place code)

pub call_grows : (n : Numbering) (site : Site) (trees : Expressions) (receivers : List Reference) (unit : ℕ) (place : Place) (before after : List Instr) → procedure_called n site before place trees receivers unit ≡ Ok after
    → length after ≡ length before + length_of (procedure_called n site [] place trees receivers unit)
call_grows n site trees receivers unit place before after is =
    grows_by (procedure_called n site [] place trees receivers unit) (procedure_called n site (before ++ []) place trees receivers unit) before after
    (call_behind (call_of n site false unit) before (passed_to_code n site [] place trees receivers unit) (passed_to_code n site (before ++ []) place trees receivers unit) place
    (passed_to_behind n site before trees receivers unit place []))
    (ap (λ l. procedure_called n site l place trees receivers unit) (append-nil before) ∙ is)

-- the code of the address that a subscript chooses
pub chosen_grows : (n : Numbering) (site : Site) (subscript : Subscript) (aim : Aim) (l : Led) (place : Place) (before after : List Instr) → chosen_code n site before place aim subscript l ≡ Ok after
    → length after ≡ length before + length_of (chosen_code n site [] place aim subscript l)
chosen_grows n site subscript aim l place before after is =
    grows_by (chosen_code n site [] place aim subscript l) (chosen_code n site (before ++ []) place aim subscript l) before after (chosen_behind n site before subscript aim l place [])
    (ap (λ list. chosen_code n site list place aim subscript l) (append-nil before) ∙ is)
