-- The code of an expression stands where it was put.
use Rattle.std.specs.Prelude.{◌≡◌, ℕ, suc, ◌+◌, pos, nat_le, length, Bool, true, false, not, ◌&&◌, ◌||◌, List, [], ◌∷◌, ◌++◌, Option, Some, None, Ok, Err, if◌then◌else◌}
use Rattle.std.specs.Option.{option_map, is_some}
use Rattle.std.proofs.Common.{refl, sym, ap, ◌∙◌, subst, arith}
use Rattle.hal_base.specs.declared.refusal.Place.{Place}
use Rattle.hal_grammar.specs.Leaves.{Naming, Sign, Plus, Minus, LiteralValue, Integer, Text, Bits, True, False, On, Off}
use Rattle.hal_grammar.specs.Expressions.{Expression, Or, And, Compare, Cat, Sum, Product, Power, Not, Literal, Decimal, Referred, Called, Convert, Parenthesis, Expressions, NoExpressions, MoreExpressions, Terms, NoTerms, MoreTerms, Reference, Refers, Subscript, Unsubscripted, ByName, ByInteger, ByParts, Subscripts, NoSubscripts, MoreSubscripts, Sub, Every, Range, Portion, One as OnePlace, Position, FromBeginning, FromEnd}
use Rattle.hal_operations.specs.declared.operation.Op2.{Op2}
use Rattle.hal_operations.specs.declared.operation.Op1.TheVariants as op1
use Rattle.hal_operations.specs.declared.operation.Op2.TheVariants as op2
use Rattle.hal_constants.specs.declared.operation.Operation.{Operation}
use Rattle.hal_constants.specs.declared.operation.Operation.TheVariants as operation
use Rattle.hal_constants.specs.Naming.{operation_of}
use Rattle.hal_values.specs.declared.value.Value.{Value}
use Rattle.hal_values.specs.declared.value.Value.TheVariants as value
use Rattle.hal_constants.specs.Constants.{is_none}
use Rattle.hal_values.specs.declared.value.Kind.{Kind}
use Rattle.hal_states.specs.Spots.{Spot, Held, further}
use Rattle.hal_meaning.specs.Calls.{parameter_named}
use Rattle.hal_meaning.specs.Elements.{Shape, chosen, offset, product, copy_size, kinds_of}
use Rattle.hal_meaning.specs.Expressions.{literal_value, is_condition, makes_condition, exponent_of, operation_of_relation, operation_of_sign, operation_of_conversion, is_size, inputs_at, sizes_named, copies_of, spoken, becomes_condition, size_argument}
use Rattle.hal_meaning.specs.Places.{Storing}
use Rattle.hal_meaning.specs.Variables.{is_arrayed, is_whole, Dimension, dimension, dimensions_of, kind_of_first, Meant, name_meant, spot_meant, spot_of}
use Rattle.hal_code.specs.declared.instr.Instr.{Instr}
use Rattle.hal_code.specs.declared.instr.Instr.TheVariants as instr
use Rattle.hal_code.specs.declared.operand.Places.TheVariants as places
use Rattle.hal_code.specs.declared.row.Target.{Target}
use Rattle.hal_code.specs.declared.row.Target.TheVariants as target
use Rattle.hal_agreement.specs.Codes.{Code}
use Rattle.hal_agreement.specs.PlacedExpressions.{One, IsViewed, ElementAt, PlaceAt, DataAt, WholeArgumentAt, WholeAt, single_dimensions, single_places, ArrayAt, EitherAt, SubscriptedAt, picks, places_of, ChosenAt, IndexesAt, PositionAt, ComponentAt, PartsAt, PartAt, pushes, two, ValueAt, NameAt, SignAt, ReferenceAt, CalledAt, ExpressionAt, FoldedAt, TermsAt, BuiltAt, ArgumentsAt, OperandAt, JoinedAt}
use Rattle.hal_agreement.specs.Sites.{Site, here_at}
use Rattle.hal_agreement.proofs.Choosing.{further_twice}
use Rattle.hal_gen_expr.specs.Emitting.{Emitted, onwards, emit}
use Rattle.hal_gen_expr.specs.ExpressionCode.{emit_one, emit_any, integer_instr, name_code, integer_code, address_code, place_code, leaves_array, where_led, with_shape, passed_code, whole_code, area_code, array_code, subscripted_code, chosen_code, copies_code, indexes_code, index_code, position_code, component_code, parts_code, part_code, one, literal_instr, raised_to, exponent_instr, power_of, behind_arguments, sign_code, reference_code, called_code, expression_code, folded_code, terms_code, built_code, arguments_code, operand_code, size_code, joined_code}
use Rattle.hal_gen_expr.specs.declared.aims.Aim.{Aim}
use Rattle.hal_gen_expr.specs.declared.aims.Aim.TheVariants as aims
use Rattle.hal_gen_expr.specs.Led.{Led, led_to, led_by, sizes_led, array_list, rows_left, skips_led, aimed, plainly_aimed}
use Rattle.hal_gen_expr.specs.Leaves.{is_nil, value_of, call_of}
use Rattle.hal_gen_expr.specs.Numbering.{Numbering, shape_number}
use Rattle.hal_gen_expr.specs.Shapes.{runs_of}
use Rattle.hal_gen_expr.specs.Sizes.{size_of_arguments}
use Rattle.hal_gen_expr.specs.Spans.{places_skipped, elements_skipped, skips}
use Rattle.hal_storage.specs.referents.Referents.{Referent, DataOf, ConstantOf, EventOf, BlockOf, BuiltinOf, Unmeant}
use Rattle.hal_gen_expr.specs.Referents.{referent}
use Rattle.hal_gen_expr.specs.Standing.{Begins, IsNumbered, Placed}
use Rattle.hal_gen_expr.proofs.Growing.{weaker, one_placed, none_placed, first_placed, both_placed, emitted, one_by_one}
use Rattle.hal_gen_expr.proofs.Numbered.{mapped_is, given_by, begins_at, LedAt, addressed_at, plainly_at, shape_there}
use Rattle.hal_gen_expr.proofs.Named.{nil_is, two_placed, call_placed, value_placed}
use Rattle.hal_gen_expr.proofs.Referring.{meaning_of, name_means, always_means}
use Rattle.hal_gen_expr.proofs.Sized.{size_known}
use Rattle.hal_gen_expr.proofs.Spanning.{span_at}

pub ok_is : (before after : List Instr) → onwards (Ok before) Ok ≡ Ok after → before ≡ after
ok_is before after is = cc

-- what holds where something is emitted under a condition
pub if_emitted : (b : Bool) (r : Emitted) (place : Place) (after : List Instr) → (if b then r else Err place) ≡ Ok after → (b ≡ true) × (r ≡ Ok after)
if_emitted true r place after is = (refl, is)
if_emitted false r place after is = absurd (cc)

pub unless_emitted : (b : Bool) (r : Emitted) (place : Place) (after : List Instr) → (if b then Err place else r) ≡ Ok after → (b ≡ false) × (r ≡ Ok after)
unless_emitted true r place after is = absurd (cc)
unless_emitted false r place after is = (refl, is)

-- what is put on the stack for a literal, and for an exponent
in_room : (b : Bool) (one i : Instr) → (if b then Some one else None) ≡ Some i → i ≡ one
in_room true one i is = cc
in_room false one i is = absurd (cc)

literal_given : (literal : LiteralValue) (i : Instr) → literal_instr literal ≡ Some i → i ≡ pushes (literal_value literal)
literal_given (Integer number) i is = in_room (nat_le number 2147483647) (instr.Int (pos number)) i is
literal_given (Text text) i is = in_room (nat_le (length text) 255) (instr.Text text) i is
literal_given (Bits len word) i is = cc
literal_given True i is = cc
literal_given False i is = cc
literal_given On i is = cc
literal_given Off i is = cc

raised_given : (place : Place) (literal : LiteralValue) (i : Instr) → raised_to literal ≡ Some i → i ≡ pushes (exponent_of (Literal place literal))
raised_given place (Integer number) i is = in_room (nat_le number 2147483647) (instr.Int (pos number)) i is
raised_given place (Text text) i is = in_room (nat_le (length text) 255) (instr.Int (pos 0)) i is
raised_given place (Bits len word) i is = cc
raised_given place True i is = cc
raised_given place False i is = cc
raised_given place On i is = cc
raised_given place Off i is = cc

exponent_given : (exponent : Expression) (i : Instr) → exponent_instr exponent ≡ Some i → i ≡ pushes (exponent_of exponent)
exponent_given (Literal place literal) i is = raised_given place literal i is
exponent_given (Or place first others) i is = cc
exponent_given (And place first others) i is = cc
exponent_given (Compare place left relation right) i is = cc
exponent_given (Cat place first others) i is = cc
exponent_given (Sum place opening first others) i is = cc
exponent_given (Product place first others) i is = cc
exponent_given (Power place base exponent) i is = cc
exponent_given (Not place operand) i is = cc
exponent_given (Decimal place number) i is = cc
exponent_given (Referred reference) i is = cc
exponent_given (Called place name arguments) i is = cc
exponent_given (Convert place conversion operand) i is = cc
exponent_given (Parenthesis place inner) i is = cc

-- a call that has code
pub call_given : (arguments : Emitted) (o : Option (List Instr)) (place : Place) (after : List Instr) → behind_arguments place arguments o ≡ Ok after
    → (is : List Instr) × (o ≡ Some is) × (onwards arguments (λ middle. Ok (middle ++ is)) ≡ Ok after)
call_given arguments None place after there = absurd (cc)
call_given arguments (Some is) place after there = (is, refl, there)

-- an instruction that is there
any_given : (before : List Instr) (place : Place) (o : Option Instr) (after : List Instr) → emit_any before place o ≡ Ok after → (i : Instr) × (o ≡ Some i) × (before ++ (i ∷ []) ≡ after)
any_given before place o after is =
    let given = emitted before place (option_map (λ i. i ∷ []) o) after is in
    let one = mapped_is (λ i. i ∷ []) o given.0 given.1 in (one.0, one.1, ap (λ l. before ++ l) one.2 ∙ given.2)

-- subscripts that are none, and the dimensions of which they speak
none_is : (list : Subscripts) → is_none list ≡ true → list ≡ NoSubscripts
unfolding is_none
none_is NoSubscripts is = refl
none_is (MoreSubscripts first others) is = absurd (cc)

-- subscripts that are none skip none, and leave no dimension
spoken_single : (list : Subscripts) (ds : List Dimension) → single_dimensions ds list ≡ single_dimensions (spoken list ds) list
spoken_single NoSubscripts [] = refl
spoken_single NoSubscripts (d ∷ ds) = refl
spoken_single (MoreSubscripts first others) ds = refl

places_single : (b : Bool) (components arrays : Subscripts) (ds : List Dimension) → single_dimensions ds (if b then components else arrays) ≡ single_places b components arrays ds
places_single true components arrays ds = spoken_single components ds
places_single false components arrays ds = refl

rows_are : (there : Place) (copies arrays components : Subscripts) (l : Led)
    → rows_left (ByParts there copies arrays components) l ≡ single_dimensions (spoken copies (copies_of l.shape)) copies ++ single_places (is_none arrays) components arrays (dimensions_of (sizes_led l))
rows_are there copies arrays components l =
    ap (λ ds. ds ++ single_dimensions (dimensions_of (sizes_led l)) (array_list arrays components)) (spoken_single copies (copies_of l.shape))
    ∙ ap (λ ds. single_dimensions (spoken copies (copies_of l.shape)) copies ++ ds) (places_single (is_none arrays) components arrays (dimensions_of (sizes_led l)))

nothing_skipped : (site : Site) (list : Subscripts) → skips site list [] ≡ 0
nothing_skipped site NoSubscripts = refl
nothing_skipped site (MoreSubscripts first others) = refl

none_more : (m : ℕ) → m ≡ 0 + m
none_more m = omega arith

either_first : (m n : ℕ) → m + n ≡ n + m
either_first m n = omega arith

-- the dimension of copies, where there are any
abbrev copies_in : ℕ → Option ℕ → List Dimension
copies_in stride count = elim count [ None ↦ [] | Some m ↦ dimension m stride ∷ [] ]

-- a subscript that chooses one place of so many, or several, which has no code
abbrev IndexAt : Code → Site → ℕ → Sub → ℕ → ℕ → Type 0
IndexAt code site size (OnePlace one) from to = PositionAt code site (instr.Int (pos size)) one from to
IndexAt code site size other from to = (is_some (places_skipped site size other) ≡ true) × (from ≡ to)

module _ (code : Code) (n : Numbering) (site : Site) (numbered : IsNumbered code n) where
  sign_at : (opening : Option Sign) (place : Place) (before after : List Instr) → sign_code before place opening ≡ Ok after → Begins after code.image.code
      → Placed code before after (λ from to. SignAt code opening from to)
  sign_at (Some Minus) place before after is begins = one_placed code before after (one op1.Minus) (ok_is _ after is) begins
  sign_at (Some Plus) place before after is begins = none_placed code before after (ok_is before after is) begins
  sign_at None place before after is begins = none_placed code before after (ok_is before after is) begins

  -- an operand of AND or OR
  operand_at : (becomes : Bool) (place : Place) (before after : List Instr) → operand_code before place becomes ≡ Ok after → Begins after code.image.code
      → Placed code before after (λ from to. OperandAt code becomes from to)
  operand_at true place before after is begins =
      first_placed code before after (instr.Bits 1 0)
      (one_placed code (before ++ (instr.Bits 1 0 ∷ [])) after (two op2.NotEqual) (sym (one_by_one before (instr.Bits 1 0) (two op2.NotEqual ∷ [])) ∙ ok_is (before ++ (instr.Bits 1 0 ∷ two op2.NotEqual ∷ [])) after is) begins)
  operand_at false place before after is begins = none_placed code before after (ok_is before after is) begins

  -- the value of a name
  pub name_at : (path : List Naming) (name : List ℕ) (place : Place) (before after : List Instr) → emit before place (value_of n site path (referent site name)) ≡ Ok after → Begins after code.image.code
      → Placed code before after (λ from to. NameAt code site name path from to)
  name_at path name place before after is begins =
      let given = emitted before place (value_of n site path (referent site name)) after is in
      weaker code before after (λ from to at. λ held. subst (λ m. ValueAt code site path held m from to) (sym (name_means site held name)) (at held))
      (value_placed code n site numbered path (referent site name) before after given.0 given.1 given.2 begins)

  -- an integer in a subscript
  pub integer_at : (number : ℕ) (place : Place) (before after : List Instr) → integer_code before place number ≡ Ok after → Begins after code.image.code
      → Placed code before after (λ from to. One code from (instr.Int (pos number)) to)
  integer_at number place before after is begins =
      let given = any_given before place (integer_instr number) after is in
      one_placed code before after (instr.Int (pos number)) (ap (λ i. before ++ (i ∷ [])) (sym (in_room (nat_le number 2147483647) (instr.Int (pos number)) given.0 given.1)) ∙ given.2) begins

  -- the address behind the code of subscripts
  abbrev AddressThere : Subscript → Aim → Led → ℕ → ℕ → Type 0
  AddressThere subscript aim l from to = LedAt code n site numbered (rows_left subscript l) (skips_led site subscript l + offset l.path l.shape.components) aim l from × (suc from ≡ to)

  address_at : (subscript : Subscript) (aim : Aim) (l : Led) (place : Place) (before after : List Instr) → address_code n site before place aim subscript l ≡ Ok after → Begins after code.image.code
      → Placed code before after (λ from to. AddressThere subscript aim l from to)
  address_at subscript aim l place before after is begins =
      let given = any_given before place (aimed n site aim subscript l) after is in
      let there = one_placed code before after given.0 given.2 begins
      in record { at = (addressed_at code n site numbered (rows_left subscript l) (skips_led site subscript l) aim l given.0 (length before) given.1 there.at.0, there.at.1); begins = there.begins }

  -- an address in the same dimensions, of the same data
  moved : (ds es : List Dimension) (given : Target) (at there : List Held → Spot) (from : ℕ) → ds ≡ es → ((held : List Held) → at held ≡ there held) → ElementAt code ds given at from → ElementAt code es given there from
  moved ds es given at there from same alike e =
      record {
        number = e.number;
        view = e.view;
        address = e.address;
        row = e.row;
        viewed = λ held. subst (λ spot. IsViewed e.view es held given spot) (alike held) (subst (λ all. IsViewed e.view all held given (at held)) same (e.viewed held));
      }

  -- behind none that are skipped
  unskipped_at : (ds : List Dimension) (aim : Aim) (l : Led) (from : ℕ) → LedAt code n site numbered ds (0 + offset l.path l.shape.components) aim l from → LedAt code n site numbered ds (offset l.path l.shape.components) aim l from
  unskipped_at ds aim l from there = subst (λ m. LedAt code n site numbered ds m aim l from) (sym (none_more (offset l.path l.shape.components))) there

  -- behind the elements that are skipped
  skipped_at : (ds es : List Dimension) (skipped : ℕ) (aim : Aim) (l : Led) (from : ℕ) → ds ≡ es → LedAt code n site numbered ds (skipped + offset l.path l.shape.components) aim l from
      → ElementAt code es (given_by aim (kind_of_first (chosen l.path l.shape.components))) (λ held. further skipped (further (offset l.path l.shape.components) (spot_of (here_at site) held l.declared l.stored))) from
  skipped_at ds es skipped aim l from same there =
      moved ds es (given_by aim (kind_of_first (chosen l.path l.shape.components))) (begins_at code n site numbered l.declared l.stored (skipped + offset l.path l.shape.components)) _ from same
      (λ held. ap (λ m. further m (spot_of (here_at site) held l.declared l.stored)) (either_first skipped (offset l.path l.shape.components))
      ∙ further_twice (offset l.path l.shape.components) skipped (spot_of (here_at site) held l.declared l.stored)) there

  -- the one code or the other
  either_at : {A B : ℕ → ℕ → Type 0} (b : Bool) (r other : Emitted) (before after : List Instr) → (if b then r else other) ≡ Ok after → (r ≡ Ok after → Placed code before after A) → (other ≡ Ok after → Placed code before after B)
      → Placed code before after (λ from to. EitherAt b A B from to)
  either_at true r other before after is first second = first is
  either_at false r other before after is first second = second is

  -- a subscript without a mark
  place_at : {A : ℕ → ℕ → Type 0} (sizes : List ℕ) (r : Emitted) (aim : Aim) (subscript : Subscript) (l : Led) (place : Place) (given : Target) (spots : List Held → Spot) (before after : List Instr) → place_code n site before place aim r subscript l sizes ≡ Ok after
      → ((middle : List Instr) → r ≡ Ok middle → Begins middle code.image.code → Placed code before middle A)
      → ((middle : List Instr) → address_code n site middle place aim subscript l ≡ Ok after → Placed code middle after (λ from to. ElementAt code (dimensions_of sizes) given spots from × (suc from ≡ to)))
      → Placed code before after (λ from to. PlaceAt code A given spots sizes from to)
  place_at [] r aim subscript l place given spots before after is first cell = cell before is
  place_at (size ∷ sizes) r aim subscript l place given spots before after is first cell =
      let alone = if_emitted (is_nil sizes) (onwards r (λ middle. address_code n site middle place aim subscript l)) place after is in
      weaker code before after (λ from to at. (at.0, at.1, nil_is sizes alone.0, at.2.0, at.2.1)) (both_placed code r (λ middle. address_code n site middle place aim subscript l) before after alone.1 first cell)

  -- the subscripts of an array: those without a mark may be none where a shape is aimed at
  spoken_at : (components : Subscripts) (d : Dimension) (ds : List Dimension) (before from to : ℕ) → IndexesAt code site (d ∷ ds) components before from to → IndexesAt code site (spoken components (d ∷ ds)) components before from to
  spoken_at NoSubscripts d ds before from to at = absurd at
  spoken_at (MoreSubscripts first others) d ds before from to at = at

  -- subscripts in dimensions, and the elements that they skip
  abbrev IndexesThere : List Dimension → Subscripts → ℕ → ℕ → Type 0
  IndexesThere ds list from to = IndexesAt code site ds list (skips site list ds) from to

  unmarked_at : (components : Subscripts) (d : Dimension) (ds : List Dimension) (left : Bool) (unmarked : Emitted) (before after : List Instr) → array_code true (not left) unmarked unmarked (Ok before) ≡ Ok after → Begins after code.image.code
      → (left ≡ true → components ≡ NoSubscripts) → (unmarked ≡ Ok after → Placed code before after (λ from to. IndexesThere (d ∷ ds) components from to))
      → Placed code before after (λ from to. IndexesAt code site (spoken components (d ∷ ds)) components (skips site components (d ∷ ds)) from to)
  unmarked_at components d ds true unmarked before after is begins none first =
      subst (λ list. Placed code before after (λ from to. IndexesAt code site (spoken list (d ∷ ds)) list (skips site list (d ∷ ds)) from to)) (sym (none refl))
      (weaker code before after (λ from to at. (refl, at)) (none_placed code before after (ok_is before after is) begins))
  unmarked_at components d ds false unmarked before after is begins none first = weaker code before after (λ from to at. spoken_at components d ds (skips site components (d ∷ ds)) from to at) (first is)

  left_none : (aim : Aim) (components : Subscripts) → leaves_array aim components ≡ true → components ≡ NoSubscripts
  left_none aims.Cell components is = absurd (cc)
  left_none (aims.Shape shape) components is = none_is components is

  -- the subscripts of an array: those without a mark where no others are
  abbrev ArrayThere : Bool → Subscripts → Subscripts → List ℕ → ℕ → ℕ → ℕ → Type 0
  ArrayThere b arrays components sizes passed from to =
      EitherAt b (λ begin end. ArrayAt (λ first behind. IndexesAt code site (spoken components (dimensions_of sizes)) components passed first behind) sizes passed begin end)
      (λ begin end. IndexesAt code site (dimensions_of sizes) arrays passed begin end) from to

  array_at : (b : Bool) (aim : Aim) (arrays components : Subscripts) (sizes : List ℕ) (unmarked marked : Emitted) (before after : List Instr)
      → array_code b (is_arrayed sizes && not (leaves_array aim components)) unmarked marked (Ok before) ≡ Ok after → Begins after code.image.code
      → (unmarked ≡ Ok after → Placed code before after (λ from to. IndexesThere (dimensions_of sizes) components from to)) → (marked ≡ Ok after → Placed code before after (λ from to. IndexesThere (dimensions_of sizes) arrays from to))
      → Placed code before after (λ from to. ArrayThere b arrays components sizes (skips site (if b then components else arrays) (dimensions_of sizes)) from to)
  array_at true aim arrays components [] unmarked marked before after is begins first second =
      weaker code before after (λ from to at. (nothing_skipped site components, at)) (none_placed code before after (ok_is before after is) begins)
  array_at true aim arrays components (size ∷ sizes) unmarked marked before after is begins first second =
      unmarked_at components (dimension size (product sizes)) (dimensions_of sizes) (leaves_array aim components) unmarked before after (same_code (leaves_array aim components) is) begins (left_none aim components) first where
        same_code : (left : Bool) → array_code true (true && not left) unmarked marked (Ok before) ≡ Ok after → array_code true (not left) unmarked unmarked (Ok before) ≡ Ok after
        same_code true there = there
        same_code false there = there
  array_at false aim arrays components sizes unmarked marked before after is begins first second = second is

  -- several places, which have no code
  from_there : (ds : List Dimension) (others : Subscripts) (from middle to : ℕ) → from ≡ middle → IndexesThere ds others middle to → IndexesThere ds others from to
  from_there ds others from middle to same rest = subst (λ k. IndexesThere ds others k to) (sym same) rest

  one_more : (d : Dimension) (ds : List Dimension) (first : Sub) (others : Subscripts) (from middle to : ℕ) → IndexAt code site d.size first from middle → IndexesThere ds others middle to
      → IndexesThere (d ∷ ds) (MoreSubscripts first others) from to
  one_more d ds (OnePlace one) others from middle to here rest = (middle, here, subst (λ m. IndexesAt code site ds others m middle to) (none_more (skips site others ds)) rest)
  one_more d ds (Every there) others from middle to here rest = (elements_skipped site d (Every there), skips site others ds, span_at site d (Every there) here.0, refl, from_there ds others from middle to here.1 rest)
  one_more d ds (Range first last) others from middle to here rest = (elements_skipped site d (Range first last), skips site others ds, span_at site d (Range first last) here.0, refl, from_there ds others from middle to here.1 rest)
  one_more d ds (Portion count first) others from middle to here rest =
      (elements_skipped site d (Portion count first), skips site others ds, span_at site d (Portion count first) here.0, refl, from_there ds others from middle to here.1 rest)

  several_at : (b : Bool) (place : Place) (before after : List Instr) → (if b then Ok before else Err place) ≡ Ok after → Begins after code.image.code → Placed code before after (λ from to. (b ≡ true) × (from ≡ to))
  several_at b place before after is begins =
      let alone = if_emitted b (Ok before) place after is in weaker code before after (λ from to at. (alone.0, at)) (none_placed code before after (ok_is before after alone.1) begins)

  -- the address that a subscript chooses
  abbrev pub ChosenThere : Aim → Subscript → Led → ℕ → ℕ → Type 0
  ChosenThere aim subscript l from to =
      ChosenAt code site (given_by aim (kind_of_first (chosen l.path l.shape.components))) l.path subscript (λ now. spot_of (here_at site) now l.declared l.stored) l.shape from to

  -- the address of the one element of data that a subscript chooses
  abbrev CellThere : List Naming → Subscript → (List Held → Spot) → Shape → ℕ → ℕ → Type 0
  CellThere path subscript spots shape from to = ChosenAt code site (target.Cell (kind_of_first (chosen path shape.components))) path subscript spots shape from to

  -- what a name means, with a subscript, whatever the own places hold
  abbrev ReferredThere : Subscript → List Naming → (List Held → Meant) → ℕ → ℕ → Type 0
  ReferredThere subscript path meant from to =
      (held : List Held)
      → SubscriptedAt code site path held (λ shape begin end. CellThere path subscript (λ now. spot_meant (meant now)) shape begin end) (λ arrayed begin end. ComponentAt code site arrayed subscript begin end) (meant held) from to

  -- what is no data is given before its component
  valued_at : {C : Bool → ℕ → ℕ → Type 0} (r : Referent) (path : List Naming) (component : Bool → List Instr → Emitted) (place : Place) (before after : List Instr)
      → onwards (emit before place (value_of n site path r)) (λ middle. component false middle) ≡ Ok after
      → ((arrayed : Bool) (middle : List Instr) → component arrayed middle ≡ Ok after → Placed code middle after (C arrayed))
      → Placed code before after (λ from to. (held : List Held) → (middle : ℕ) × ValueAt code site path held (meaning_of site held r) from middle × C false middle to)
  valued_at r path component place before after is second =
      weaker code before after (λ from to at. λ held. (at.0, at.1 held, at.2))
      (both_placed code (emit before place (value_of n site path r)) (λ middle. component false middle) before after is
      (λ middle there begun. let given = emitted before place (value_of n site path r) middle there in value_placed code n site numbered path r before middle given.0 given.1 given.2 begun)
      (λ middle there. second false middle there))

  -- what is referred to with a subscript
  subscripted_at : {C : Bool → ℕ → ℕ → Type 0} (A : (List Held → Spot) → Shape → ℕ → ℕ → Type 0) (r : Referent) (path : List Naming) (address : Led → Emitted) (component : Bool → List Instr → Emitted) (place : Place)
      (before after : List Instr) → subscripted_code n site before place path address component r ≡ Ok after
      → ((k : ℕ) (kept : Storing) (shape : Shape) (middle : List Instr) → address (led_to path k kept shape) ≡ Ok middle → Begins middle code.image.code
      → Placed code before middle (λ from to. A (λ now. spot_of (here_at site) now k kept) shape from to))
      → ((arrayed : Bool) (middle : List Instr) → component arrayed middle ≡ Ok after → Placed code middle after (C arrayed))
      → Placed code before after (λ from to. (held : List Held) → SubscriptedAt code site path held (A (λ now. spot_meant (meaning_of site now r))) C (meaning_of site held r) from to)
  subscripted_at A (DataOf k kept shape) path address component place before after is first second =
      weaker code before after (λ from to at. λ held. (at.0, at.1, at.2.0, at.2.1))
      (both_placed code (address (led_to path k kept shape)) (λ middle. onwards (emit_one middle place instr.Fetch) (λ late. component (is_arrayed (sizes_named path shape)) late)) before after is
      (λ middle there begun. first k kept shape middle there begun)
      (λ middle there. first_placed code middle after instr.Fetch (second (is_arrayed (sizes_named path shape)) (middle ++ (instr.Fetch ∷ [])) there)))
  subscripted_at A (ConstantOf v) path address component place before after is first second = valued_at (ConstantOf v) path component place before after is second
  subscripted_at A (EventOf e) path address component place before after is first second = valued_at (EventOf e) path component place before after is second
  subscripted_at A (BlockOf unit) path address component place before after is first second = valued_at (BlockOf unit) path component place before after is second
  subscripted_at A (BuiltinOf b) path address component place before after is first second = valued_at (BuiltinOf b) path component place before after is second
  subscripted_at A Unmeant path address component place before after is first second = absurd (cc)

  referred_at : (subscript : Subscript) (path : List Naming) (name : List ℕ) (place : Place) (before after : List Instr)
      → subscripted_code n site before place path (λ l. chosen_code n site before place aims.Cell subscript l) (λ arrayed middle. component_code n site middle place arrayed subscript) (referent site name) ≡ Ok after
      → ((l : Led) (middle : List Instr) → chosen_code n site before place aims.Cell subscript l ≡ Ok middle → Begins middle code.image.code → Placed code before middle (λ from to. ChosenThere aims.Cell subscript l from to))
      → ((arrayed : Bool) (middle : List Instr) → component_code n site middle place arrayed subscript ≡ Ok after → Placed code middle after (λ from to. ComponentAt code site arrayed subscript from to))
      → Placed code before after (λ from to. ReferredThere subscript path (name_meant (here_at site) name) from to)
  referred_at subscript path name place before after is first second =
      weaker code before after
      (λ from to at. subst (λ m. ReferredThere subscript path m from to) (sym (always_means site name)) at)
      (subscripted_at (λ spots shape begin end. CellThere path subscript spots shape begin end)
      (referent site name) path (λ l. chosen_code n site before place aims.Cell subscript l) (λ arrayed middle. component_code n site middle place arrayed subscript) place before after is
      (λ k kept shape middle there begun. first (led_to path k kept shape) middle there begun) second)

  -- the address of cells of a shape that a reference chooses
  abbrev DataThere : ℕ → Subscript → List Naming → (List Held → Meant) → ℕ → ℕ → Type 0
  DataThere number subscript path meant from to =
      (held : List Held) → DataAt (λ form begin end. ChosenAt code site (target.Shape number) path subscript (λ now. spot_meant (meant now)) form begin end) (meant held) from to

  data_at : (number : ℕ) (subscript : Subscript) (path : List Naming) (r : Referent) (place : Place) (before after : List Instr)
      → where_led place (λ l. chosen_code n site before place (aims.Shape number) subscript l) (led_by path r) ≡ Ok after
      → ((l : Led) → chosen_code n site before place (aims.Shape number) subscript l ≡ Ok after → Placed code before after (λ from to. ChosenThere (aims.Shape number) subscript l from to))
      → Placed code before after (λ from to. DataThere number subscript path (λ held. meaning_of site held r) from to)
  data_at number subscript path (DataOf k kept shape) place before after is first = weaker code before after (λ from to at. λ held. at) (first (led_to path k kept shape) is)
  data_at number subscript path (ConstantOf v) place before after is first = absurd (cc)
  data_at number subscript path (EventOf e) place before after is first = absurd (cc)
  data_at number subscript path (BlockOf unit) place before after is first = absurd (cc)
  data_at number subscript path (BuiltinOf b) place before after is first = absurd (cc)
  data_at number subscript path Unmeant place before after is first = absurd (cc)

  shape_given : (place : Place) (o : Option ℕ) (go : ℕ → Emitted) (after : List Instr) → with_shape place o go ≡ Ok after → (number : ℕ) × (o ≡ Some number) × (go number ≡ Ok after)
  shape_given place None go after is = absurd (cc)
  shape_given place (Some number) go after is = (number, refl, is)

  area_by : (subscript : Subscript) (form : Shape) (path : List Naming) (name : List ℕ) (place : Place) (before after : List Instr) → area_code n site before (runs_of form) (Refers place name path subscript) ≡ Ok after
      → ((number : ℕ) (l : Led) → chosen_code n site before place (aims.Shape number) subscript l ≡ Ok after → Placed code before after (λ from to. ChosenThere (aims.Shape number) subscript l from to))
      → Placed code before after (λ from to. WholeAt code site (kinds_of form) (Refers place name path subscript) from to)
  area_by subscript form path name place before after is first =
      let given = shape_given place (shape_number n (runs_of form)) (λ number. where_led place (λ l. chosen_code n site before place (aims.Shape number) subscript l) (led_by path (referent site name))) after is in
      weaker code before after
      (λ from to at. (given.0, shape_there code n site numbered form given.0 given.1, subst (λ m. DataThere given.0 subscript path m from to) (sym (always_means site name)) at))
      (data_at given.0 subscript path (referent site name) place before after given.2 (first given.0))

  -- an argument for a whole parameter, or for another one
  passed_at : {A B : ℕ → ℕ → Type 0} (b : Bool) (whole plain : Emitted) (before after : List Instr) → passed_code b whole plain ≡ Ok after → (whole ≡ Ok after → Placed code before after A)
      → (plain ≡ Ok after → Placed code before after B) → Placed code before after (λ from to. EitherAt b A B from to)
  passed_at true whole plain before after is first second = first is
  passed_at false whole plain before after is first second = second is

  -- a value that is followed by the operands of a product
  multiplied_at : {Folded : ℕ → ℕ → Type 0} (r : Referent) (folded : List Instr → Emitted) (place : Place) (before after : List Instr)
      → onwards (emit before place (value_of n site [] r)) folded ≡ Ok after → ((middle : List Instr) → folded middle ≡ Ok after → Placed code middle after Folded)
      → Placed code before after (λ from to. (held : List Held) → (middle : ℕ) × ValueAt code site [] held (meaning_of site held r) from middle × Folded middle to)
  multiplied_at r folded place before after is second =
      weaker code before after (λ from to at. λ held. (at.0, at.1 held, at.2))
      (both_placed code (emit before place (value_of n site [] r)) folded before after is
      (λ middle there begins. let given = emitted before place (value_of n site [] r) middle there in value_placed code n site numbered [] r before middle given.0 given.1 given.2 begins) second)

  -- SIZE
  size_at : (arguments : Expressions) (place : Place) (before after : List Instr) → size_code site before place arguments ≡ Ok after → Begins after code.image.code
      → Placed code before after (λ from to. One code from (pushes (value.Int (pos (size_of_arguments site arguments)))) to)
  size_at arguments place before after is begins =
      let given = emitted before place (option_map (λ i. i ∷ []) (integer_instr (size_of_arguments site arguments))) after is in
      let one = mapped_is (λ i. i ∷ []) (integer_instr (size_of_arguments site arguments)) given.0 given.1 in
      one_placed code before after (instr.Int (pos (size_of_arguments site arguments)))
      (ap (λ l. before ++ l) (ap (λ i. i ∷ []) (sym (in_room (nat_le (size_of_arguments site arguments) 2147483647) (instr.Int (pos (size_of_arguments site arguments))) one.0 one.1)) ∙ one.2) ∙ given.2) begins

  -- a name with a list
  called_at : {Folded : ℕ → ℕ → Type 0} {Built : Operation → ℕ → ℕ → Type 0} {Arguments : ℕ → ℕ → ℕ → Type 0} (r : Referent) (size : Value) (sized : Emitted) (folded : List Instr → Emitted) (built : Operation → Emitted)
      (arguments : ℕ → Emitted) (place : Place) (before after : List Instr) → called_code n site before place sized folded built arguments r ≡ Ok after → Begins after code.image.code
      → (sized ≡ Ok after → Placed code before after (λ from to. One code from (pushes size) to)) → ((middle : List Instr) → folded middle ≡ Ok after → Placed code middle after Folded) → ((op : Operation) → built op ≡ Ok after → Placed code before after (Built op))
      → ((unit : ℕ) (middle : List Instr) → arguments unit ≡ Ok middle → Begins middle code.image.code → Placed code before middle (Arguments unit))
      → Placed code before after (λ from to. (held : List Held) → CalledAt code site held size Folded Built Arguments (meaning_of site held r) from to)
  called_at (DataOf k stored shape) size sized folded built arguments place before after is begins s f b a = multiplied_at (DataOf k stored shape) folded place before after is f
  called_at (ConstantOf v) size sized folded built arguments place before after is begins s f b a = multiplied_at (ConstantOf v) folded place before after is f
  called_at (EventOf e) size sized folded built arguments place before after is begins s f b a = absurd (cc)
  called_at (BlockOf unit) size sized folded built arguments place before after is begins s f b a =
      let call = call_given (arguments unit) (call_of n site true unit) place after is in
      weaker code before after (λ from to at. λ held. at)
      (both_placed code (arguments unit) (λ middle. Ok (middle ++ call.0)) before after call.2 (λ middle there begun. a unit middle there begun)
      (λ middle there. call_placed code n site numbered true unit middle after call.0 call.1 (ok_is (middle ++ call.0) after there) begins))
  called_at (BuiltinOf one) size sized folded built arguments place before after is begins s f b a =
      weaker code before after (λ from to at. λ held. at) (either_at (is_size one) sized (built (operation_of one)) before after is s (λ there. b (operation_of one) there))
  called_at Unmeant size sized folded built arguments place before after is begins s f b a = absurd (cc)

  mutual
    pub expression_at : (tree : Expression) (before after : List Instr) → expression_code n site before tree ≡ Ok after → Begins after code.image.code
        → Placed code before after (λ from to. ExpressionAt code site tree from to)
    expression_at (Or place first others) before after is begins =
        both_placed code (expression_code n site before first) _ before after is (λ middle there begun. expression_at first before middle there begun)
        (λ middle there. joined_at others place op2.Or (is_condition first) middle after there begins)
    expression_at (And place first others) before after is begins =
        both_placed code (expression_code n site before first) _ before after is (λ middle there begun. expression_at first before middle there begun)
        (λ middle there. joined_at others place op2.And (is_condition first) middle after there begins)
    expression_at (Compare place left relation right) before after is begins =
        weaker code before after (λ from to at. (at.0, at.2.0, at.1, at.2.1, at.2.2))
        (both_placed code (expression_code n site before left) _ before after is (λ middle there begun. expression_at left before middle there begun)
        (λ middle there. both_placed code (expression_code n site middle right) _ middle after there (λ last late begun. expression_at right middle last late begun)
        (λ last late. one_placed code last after (two (operation_of_relation relation)) (ok_is _ after late) begins)))
    expression_at (Cat place first others) before after is begins =
        both_placed code (expression_code n site before first) (λ middle. folded_code n site middle place op2.Cat others) before after is (λ middle there begun. expression_at first before middle there begun)
        (λ middle there. folded_at others place op2.Cat middle after there begins)
    expression_at (Sum place opening first others) before after is begins =
        weaker code before after (λ from to at. (at.0, at.2.0, at.1, at.2.1, at.2.2))
        (both_placed code (expression_code n site before first) _ before after is (λ middle there begun. expression_at first before middle there begun)
        (λ middle there. both_placed code (sign_code middle place opening) _ middle after there (λ late signed begun. sign_at opening place middle late signed begun)
        (λ late others_there. terms_at others late after others_there begins)))
    expression_at (Product place first others) before after is begins =
        both_placed code (expression_code n site before first) (λ middle. folded_code n site middle place op2.Product others) before after is (λ middle there begun. expression_at first before middle there begun)
        (λ middle there. folded_at others place op2.Product middle after there begins)
    expression_at (Power place base exponent) before after is begins =
        weaker code before after (λ from to at. (at.0, at.1, at.2.0, at.2.1))
        (both_placed code (expression_code n site before base) _ before after is (λ middle there begun. expression_at base before middle there begun)
        (λ middle there. let given = emitted middle place (power_of (exponent_instr exponent)) after there in
        let one = mapped_is (λ i. i ∷ two op2.Power ∷ []) (exponent_instr exponent) given.0 given.1 in
        two_placed code n site numbered middle after (pushes (exponent_of exponent)) (two op2.Power) (ap (λ i. middle ++ (i ∷ two op2.Power ∷ [])) (sym (exponent_given exponent one.0 one.1)) ∙ (ap (λ l. middle ++ l) one.2 ∙ given.2)) begins))
    expression_at (Not place operand) before after is begins =
        both_placed code (expression_code n site before operand) _ before after is (λ middle there begun. expression_at operand before middle there begun)
        (λ middle there. one_placed code middle after (one op1.Not) (ok_is _ after there) begins)
    expression_at (Literal place literal) before after is begins =
        let given = emitted before place (option_map (λ i. i ∷ []) (literal_instr literal)) after is in
        let one = mapped_is (λ i. i ∷ []) (literal_instr literal) given.0 given.1 in
        one_placed code before after (pushes (literal_value literal)) (ap (λ i. before ++ (i ∷ [])) (sym (literal_given literal one.0 one.1)) ∙ (ap (λ l. before ++ l) one.2 ∙ given.2)) begins
    expression_at (Decimal place number) before after is begins = absurd (cc)
    expression_at (Referred reference) before after is begins = reference_at reference before after is begins
    expression_at (Called place name arguments) before after is begins =
        weaker code before after (λ from to at. λ held. subst (λ m. CalledAt code site held (size_argument (here_at site) arguments held) (λ a e. FoldedAt code site op2.Product arguments a e) (λ op a e. BuiltAt code site op arguments a e)
        (λ unit a e. ArgumentsAt code site unit (inputs_at site.set unit) arguments a e) m from to) (sym (name_means site held name))
        (subst (λ v. CalledAt code site held v (λ a e. FoldedAt code site op2.Product arguments a e) (λ op a e. BuiltAt code site op arguments a e)
        (λ unit a e. ArgumentsAt code site unit (inputs_at site.set unit) arguments a e) (meaning_of site held (referent site name)) from to) (sym (size_known site arguments held)) (at held)))
        (called_at (referent site name) (value.Int (pos (size_of_arguments site arguments))) (size_code site before place arguments) (λ middle. folded_code n site middle place op2.Product arguments) (λ op. built_code n site before place op arguments)
        (λ unit. arguments_code n site before place unit (inputs_at site.set unit) arguments) place before after is begins (λ there. size_at arguments place before after there begins)
        (λ middle there. folded_at arguments place op2.Product middle after there begins) (λ op there. built_at arguments op place before after there begins)
        (λ unit middle there begun. arguments_at arguments unit (inputs_at site.set unit) place before middle there begun))
    expression_at (Convert place conversion operand) before after is begins =
        both_placed code (expression_code n site before operand) _ before after is (λ middle there begun. expression_at operand before middle there begun)
        (λ middle there. one_placed code middle after (one (operation_of_conversion conversion)) (ok_is _ after there) begins)
    expression_at (Parenthesis place inner) before after is begins = expression_at inner before after is begins

    joined_at : (trees : Expressions) (place : Place) (op : Op2) (condition : Bool) (before after : List Instr) → joined_code n site before place op condition trees ≡ Ok after → Begins after code.image.code
        → Placed code before after (λ from to. JoinedAt code site op condition trees from to)
    joined_at NoExpressions place op condition before after is begins = none_placed code before after (ok_is before after is) begins
    joined_at (MoreExpressions first others) place op condition before after is begins =
        weaker code before after (λ from to at. (at.0, at.2.0, at.2.2.0, at.1, at.2.1, at.2.2.1, at.2.2.2.0, at.2.2.2.1))
        (both_placed code (operand_code before place (makes_condition condition first)) _ before after is
        (λ begun lifts there. operand_at (makes_condition condition first) place before begun lifts there)
        (λ begun first_there. both_placed code (expression_code n site begun first) _ begun after first_there (λ middle there begins_there. expression_at first begun middle there begins_there)
        (λ middle there. both_placed code (operand_code middle place (becomes_condition condition first)) _ middle after there
        (λ late becomes begins_there. operand_at (becomes_condition condition first) place middle late becomes begins_there)
        (λ late others_there. first_placed code late after (two op) (joined_at others place op (condition || is_condition first) (late ++ (two op ∷ [])) after others_there begins)))))

    folded_at : (trees : Expressions) (place : Place) (op : Op2) (before after : List Instr) → folded_code n site before place op trees ≡ Ok after → Begins after code.image.code
        → Placed code before after (λ from to. FoldedAt code site op trees from to)
    folded_at NoExpressions place op before after is begins = none_placed code before after (ok_is before after is) begins
    folded_at (MoreExpressions first others) place op before after is begins =
        weaker code before after (λ from to at. (at.0, at.1, at.2.0, at.2.1))
        (both_placed code (expression_code n site before first) _ before after is (λ middle there begun. expression_at first before middle there begun)
        (λ middle there. first_placed code middle after (two op) (folded_at others place op (middle ++ (two op ∷ [])) after there begins)))

    terms_at : (terms : Terms) (before after : List Instr) → terms_code n site before terms ≡ Ok after → Begins after code.image.code
        → Placed code before after (λ from to. TermsAt code site terms from to)
    terms_at NoTerms before after is begins = none_placed code before after (ok_is before after is) begins
    terms_at (MoreTerms place sign term others) before after is begins =
        weaker code before after (λ from to at. (at.0, at.1, at.2.0, at.2.1))
        (both_placed code (expression_code n site before term) _ before after is (λ middle there begun. expression_at term before middle there begun)
        (λ middle there. first_placed code middle after (two (operation_of_sign sign)) (terms_at others (middle ++ (two (operation_of_sign sign) ∷ [])) after there begins)))

    built_at : (trees : Expressions) (op : Operation) (place : Place) (before after : List Instr) → built_code n site before place op trees ≡ Ok after → Begins after code.image.code
        → Placed code before after (λ from to. BuiltAt code site op trees from to)
    built_at (MoreExpressions operand NoExpressions) (operation.One op) place before after is begins =
        both_placed code (expression_code n site before operand) _ before after is (λ middle there begun. expression_at operand before middle there begun)
        (λ middle there. one_placed code middle after (one op) (ok_is _ after there) begins)
    built_at (MoreExpressions left (MoreExpressions right NoExpressions)) (operation.Two op) place before after is begins =
        weaker code before after (λ from to at. (at.0, at.2.0, at.1, at.2.1, at.2.2))
        (both_placed code (expression_code n site before left) _ before after is (λ middle there begun. expression_at left before middle there begun)
        (λ middle there. both_placed code (expression_code n site middle right) _ middle after there (λ last late begun. expression_at right middle last late begun)
        (λ last late. one_placed code last after (two op) (ok_is _ after late) begins)))
    built_at NoExpressions (operation.One op) place before after is begins = absurd (cc)
    built_at (MoreExpressions operand (MoreExpressions next others)) (operation.One op) place before after is begins = absurd (cc)
    built_at NoExpressions (operation.Two op) place before after is begins = absurd (cc)
    built_at (MoreExpressions left NoExpressions) (operation.Two op) place before after is begins = absurd (cc)
    built_at (MoreExpressions left (MoreExpressions right (MoreExpressions next others))) (operation.Two op) place before after is begins = absurd (cc)
    built_at trees operation.Size place before after is begins = absurd (cc)
    built_at trees operation.Nothing place before after is begins = absurd (cc)

    pub arguments_at : (trees : Expressions) (unit : ℕ) (names : List Naming) (place : Place) (before after : List Instr) → arguments_code n site before place unit names trees ≡ Ok after
        → Begins after code.image.code → Placed code before after (λ from to. ArgumentsAt code site unit names trees from to)
    arguments_at NoExpressions unit [] place before after is begins = none_placed code before after (ok_is before after is) begins
    arguments_at (MoreExpressions first others) unit (name ∷ names) place before after is begins =
        both_placed code
        (passed_code (is_whole (parameter_named site.set unit name).shape) (whole_code n site before place (runs_of (parameter_named site.set unit name).shape) first) (expression_code n site before first))
        (λ middle. arguments_code n site middle place unit names others) before after is
        (λ middle there begun. passed_at (is_whole (parameter_named site.set unit name).shape) (whole_code n site before place (runs_of (parameter_named site.set unit name).shape) first) (expression_code n site before first) before middle there
        (λ whole. whole_at first (parameter_named site.set unit name).shape place before middle whole begun) (λ plain. expression_at first before middle plain begun))
        (λ middle there. arguments_at others unit names place middle after there begins)
    arguments_at NoExpressions unit (name ∷ names) place before after is begins = absurd (cc)
    arguments_at (MoreExpressions first others) unit [] place before after is begins = absurd (cc)

    -- an argument for a whole parameter
    whole_at : (tree : Expression) (form : Shape) (place : Place) (before after : List Instr) → whole_code n site before place (runs_of form) tree ≡ Ok after → Begins after code.image.code
        → Placed code before after (λ from to. WholeArgumentAt code site (kinds_of form) tree from to)
    whole_at (Referred reference) form place before after is begins = area_placed reference form before after is begins
    whole_at (Or there first others) form place before after is begins = absurd (cc)
    whole_at (And there first others) form place before after is begins = absurd (cc)
    whole_at (Compare there left relation right) form place before after is begins = absurd (cc)
    whole_at (Cat there first others) form place before after is begins = absurd (cc)
    whole_at (Sum there opening first others) form place before after is begins = absurd (cc)
    whole_at (Product there first others) form place before after is begins = absurd (cc)
    whole_at (Power there base exponent) form place before after is begins = absurd (cc)
    whole_at (Not there operand) form place before after is begins = absurd (cc)
    whole_at (Literal there literal) form place before after is begins = absurd (cc)
    whole_at (Decimal there number) form place before after is begins = absurd (cc)
    whole_at (Called there name arguments) form place before after is begins = absurd (cc)
    whole_at (Convert there conversion operand) form place before after is begins = absurd (cc)
    whole_at (Parenthesis there inner) form place before after is begins = absurd (cc)

    pub area_placed : (reference : Reference) (form : Shape) (before after : List Instr) → area_code n site before (runs_of form) reference ≡ Ok after → Begins after code.image.code
        → Placed code before after (λ from to. WholeAt code site (kinds_of form) reference from to)
    area_placed (Refers place name path subscript) form before after is begins =
        area_by subscript form path name place before after is (λ number l there. chosen_at subscript (aims.Shape number) l place before after there begins)

    reference_at : (reference : Reference) (before after : List Instr) → reference_code n site before reference ≡ Ok after → Begins after code.image.code
        → Placed code before after (λ from to. ReferenceAt code site reference from to)
    reference_at (Refers place name path Unsubscripted) before after is begins = name_at path name place before after is begins
    reference_at (Refers place name path (ByName there one)) before after is begins =
        referred_at (ByName there one) path name place before after is (λ l middle got begun. chosen_at (ByName there one) aims.Cell l place before middle got begun) (λ arrayed middle got. component_at (ByName there one) arrayed place middle after got begins)
    reference_at (Refers place name path (ByInteger there mark number)) before after is begins =
        referred_at (ByInteger there mark number) path name place before after is (λ l middle got begun. chosen_at (ByInteger there mark number) aims.Cell l place before middle got begun)
        (λ arrayed middle got. component_at (ByInteger there mark number) arrayed place middle after got begins)
    reference_at (Refers place name path (ByParts there copies arrays components)) before after is begins =
        referred_at (ByParts there copies arrays components) path name place before after is (λ l middle got begun. chosen_at (ByParts there copies arrays components) aims.Cell l place before middle got begun)
        (λ arrayed middle got. component_at (ByParts there copies arrays components) arrayed place middle after got begins)

    -- the address that a subscript chooses
    pub chosen_at : (subscript : Subscript) (aim : Aim) (l : Led) (place : Place) (before after : List Instr) → chosen_code n site before place aim subscript l ≡ Ok after → Begins after code.image.code
        → Placed code before after (λ from to. ChosenThere aim subscript l from to)
    chosen_at Unsubscripted aim l place before after is begins =
        let given = any_given before place (plainly_aimed n site aim l) after is in
        let there = one_placed code before after given.0 given.2 begins
        in record { at = (plainly_at code n site numbered aim l given.0 (length before) given.1 there.at.0, there.at.1); begins = there.begins }
    chosen_at (ByName there name) aim l place before after is begins =
        place_at (sizes_led l) (name_code n site before name) aim (ByName there name) l place (given_by aim (kind_of_first (chosen l.path l.shape.components))) (begins_at code n site numbered l.declared l.stored (offset l.path l.shape.components)) before after is
        (λ middle got begun. name_at [] name.name name.place before middle got begun) (λ middle got. weaker code middle after (λ from to at. (unskipped_at (dimensions_of (sizes_led l)) aim l from at.0, at.1)) (address_at (ByName there name) aim l place middle after got begins))
    chosen_at (ByInteger there mark number) aim l place before after is begins =
        place_at (sizes_led l) (integer_code before place number) aim (ByInteger there mark number) l place (given_by aim (kind_of_first (chosen l.path l.shape.components))) (begins_at code n site numbered l.declared l.stored (offset l.path l.shape.components)) before after is
        (λ middle got begun. integer_at number place before middle got begun) (λ middle got. weaker code middle after (λ from to at. (unskipped_at (dimensions_of (sizes_led l)) aim l from at.0, at.1)) (address_at (ByInteger there mark number) aim l place middle after got begins))
    chosen_at (ByParts there copies arrays components) aim l place before after is begins =
        weaker code before after
        (λ from to at. (
          at.0,
          at.2.0,
          skips site copies (copies_of l.shape),
          skips site (array_list arrays components) (dimensions_of (sizes_led l)),
          at.1,
          at.2.1,
          skipped_at (rows_left (ByParts there copies arrays components) l) _ (skips_led site (ByParts there copies arrays components) l) aim l at.2.0 (rows_are there copies arrays components l) at.2.2.0,
          at.2.2.1,
        ))
        (both_placed code (copies_code n site before place l.shape.copies copies) _ before after is (λ middle got begun. copies_at copies l.shape.copies (copy_size l.shape.components) place before middle got begun)
        (λ middle got. both_placed code
        (array_code (is_none arrays) (is_arrayed (sizes_led l) && not (leaves_array aim components)) (indexes_code n site middle place (sizes_led l) components) (indexes_code n site middle place (sizes_led l) arrays) (Ok middle))
        (λ last. address_code n site last place aim (ByParts there copies arrays components) l) middle after got
        (λ last late begun. array_at (is_none arrays) aim arrays components (sizes_led l) (indexes_code n site middle place (sizes_led l) components) (indexes_code n site middle place (sizes_led l) arrays) middle last late begun
        (λ chosen_there. indexes_at components (sizes_led l) place middle last chosen_there begun) (λ chosen_there. indexes_at arrays (sizes_led l) place middle last chosen_there begun))
        (λ last late. address_at (ByParts there copies arrays components) aim l place last after late begins)))

    copies_at : (list : Subscripts) (count : Option ℕ) (stride : ℕ) (place : Place) (before after : List Instr) → copies_code n site before place count list ≡ Ok after → Begins after code.image.code
        → Placed code before after (λ from to. IndexesAt code site (spoken list (copies_in stride count)) list (skips site list (copies_in stride count)) from to)
    copies_at NoSubscripts count stride place before after is begins = weaker code before after (λ from to at. (refl, at)) (none_placed code before after (ok_is before after is) begins)
    copies_at (MoreSubscripts first others) (Some count) stride place before after is begins =
        let alone = if_emitted (is_none others) (index_code n site before place count first) place after is in
        subst (λ rest. Placed code before after (λ from to. IndexesThere (dimension count stride ∷ []) (MoreSubscripts first rest) from to)) (sym (none_is others alone.0))
        (weaker code before after (λ from to at. one_more (dimension count stride) [] first NoSubscripts from to to at (refl, refl)) (index_at first count place before after alone.1 begins))
    copies_at (MoreSubscripts first others) None stride place before after is begins = absurd (cc)

    indexes_at : (list : Subscripts) (sizes : List ℕ) (place : Place) (before after : List Instr) → indexes_code n site before place sizes list ≡ Ok after → Begins after code.image.code
        → Placed code before after (λ from to. IndexesThere (dimensions_of sizes) list from to)
    indexes_at NoSubscripts [] place before after is begins = weaker code before after (λ from to at. (refl, at)) (none_placed code before after (ok_is before after is) begins)
    indexes_at (MoreSubscripts first others) (size ∷ sizes) place before after is begins =
        weaker code before after (λ from to at. one_more (dimension size (product sizes)) (dimensions_of sizes) first others from at.0 to at.1 at.2)
        (both_placed code (index_code n site before place size first) (λ middle. indexes_code n site middle place sizes others) before after is (λ middle got begun. index_at first size place before middle got begun)
        (λ middle got. indexes_at others sizes place middle after got begins))
    indexes_at NoSubscripts (size ∷ sizes) place before after is begins = absurd (cc)
    indexes_at (MoreSubscripts first others) [] place before after is begins = absurd (cc)

    index_at : (first : Sub) (size : ℕ) (place : Place) (before after : List Instr) → index_code n site before place size first ≡ Ok after → Begins after code.image.code
        → Placed code before after (λ from to. IndexAt code site size first from to)
    index_at (OnePlace one) size place before after is begins = position_at one (instr.Int (pos size)) place before after is begins
    index_at (Every there) size place before after is begins = several_at (is_some (places_skipped site size (Every there))) place before after is begins
    index_at (Range first last) size place before after is begins = several_at (is_some (places_skipped site size (Range first last))) place before after is begins
    index_at (Portion count first) size place before after is begins = several_at (is_some (places_skipped site size (Portion count first))) place before after is begins

    position_at : (one : Position) (ends : Instr) (place : Place) (before after : List Instr) → position_code n site before place ends one ≡ Ok after → Begins after code.image.code
        → Placed code before after (λ from to. PositionAt code site ends one from to)
    position_at (FromBeginning tree) ends place before after is begins = expression_at tree before after is begins
    position_at (FromEnd there terms) ends place before after is begins = first_placed code before after ends (terms_at terms (before ++ (ends ∷ [])) after is begins)

    -- the component of a value
    component_at : (subscript : Subscript) (arrayed : Bool) (place : Place) (before after : List Instr) → component_code n site before place arrayed subscript ≡ Ok after → Begins after code.image.code
        → Placed code before after (λ from to. ComponentAt code site arrayed subscript from to)
    component_at Unsubscripted arrayed place before after is begins = none_placed code before after (ok_is before after is) begins
    component_at (ByName there name) true place before after is begins = none_placed code before after (ok_is before after is) begins
    component_at (ByName there name) false place before after is begins =
        both_placed code (name_code n site before name) _ before after is (λ middle got begun. name_at [] name.name name.place before middle got begun) (λ middle got. one_placed code middle after (picks places.One) (ok_is _ after got) begins)
    component_at (ByInteger there mark number) true place before after is begins = none_placed code before after (ok_is before after is) begins
    component_at (ByInteger there mark number) false place before after is begins =
        weaker code before after (λ from to at. (at.1.0, subst (λ m. One code m (picks places.One) to) (sym at.1.1) at.2))
        (both_placed code (integer_code before place number) _ before after is (λ middle got begun. integer_at number place before middle got begun) (λ middle got. one_placed code middle after (picks places.One) (ok_is _ after got) begins))
    component_at (ByParts there copies arrays components) arrayed place before after is begins =
        either_at (arrayed && is_none arrays) (Ok before) (parts_code n site before place components) before after is (λ got. none_placed code before after (ok_is before after got) begins) (λ got. parts_at components place before after got begins)

    parts_at : (list : Subscripts) (place : Place) (before after : List Instr) → parts_code n site before place list ≡ Ok after → Begins after code.image.code
        → Placed code before after (λ from to. PartsAt code site list from to)
    parts_at NoSubscripts place before after is begins = none_placed code before after (ok_is before after is) begins
    parts_at (MoreSubscripts first others) place before after is begins =
        let alone = if_emitted (is_none others) _ place after is in
        both_placed code (part_code n site before place first) (λ middle. emit_one middle place (picks (places_of first))) before after alone.1 (λ middle got begun. part_at first place before middle got begun)
        (λ middle got. one_placed code middle after (picks (places_of first)) (ok_is _ after got) begins)

    pub part_at : (one : Sub) (place : Place) (before after : List Instr) → part_code n site before place one ≡ Ok after → Begins after code.image.code
        → Placed code before after (λ from to. PartAt code site one from to)
    part_at (Every there) place before after is begins = two_placed code n site numbered before after (instr.Int (pos 1)) (instr.Len 1) (ok_is _ after is) begins
    part_at (OnePlace one) place before after is begins = position_at one (instr.Len 0) place before after is begins
    part_at (Range first last) place before after is begins =
        both_placed code (position_code n site before place (instr.Len 0) first) _ before after is (λ middle got begun. position_at first (instr.Len 0) place before middle got begun)
        (λ middle got. position_at last (instr.Len 1) place middle after got begins)
    part_at (Portion count first) place before after is begins =
        both_placed code (expression_code n site before count) _ before after is (λ middle got begun. expression_at count before middle got begun) (λ middle got. position_at first (instr.Len 1) place middle after got begins)
