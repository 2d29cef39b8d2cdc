-- The code of expressions names views that are for what their phrases name.
use Rattle.std.specs.Prelude.{◌≡◌, ◌&&◌, ◌||◌, ℕ, pos, not, Bool, true, false, List, [], ◌∷◌, length, Option, Some, None, Ok, slice_get}
use Rattle.std.specs.Option.{is_some}
use Rattle.std.proofs.Common.{refl, subst, inl, inr}
use Rattle.hal_base.specs.declared.refusal.Place as refusals
use Rattle.hal_grammar.specs.Leaves.{Naming, Sign, Plus, Minus}
use Rattle.hal_grammar.specs.Expressions.{Expression, Or, And, Compare, Cat, Sum, Product, Power, Not, Literal, Decimal, Referred, Called, Convert, Parenthesis, Expressions, NoExpressions, MoreExpressions, Terms, NoTerms, MoreTerms, Reference, Refers, Subscript, Unsubscripted, ByName, ByInteger, ByParts, Subscripts, NoSubscripts, MoreSubscripts, Sub, Every, Range, Portion, Position, FromBeginning, FromEnd, One as OnePlace}
use Rattle.hal_phrases.specs.declared.around.Around.{Around}
use Rattle.hal_phrases.specs.declared.role.Role.{Role}
use Rattle.hal_phrases.specs.declared.role.Role.TheVariants as role
use Rattle.hal_phrases.specs.Phrases.{Node, Phrase, phrase, add, OfExpression, OfReference, OfCallForm}
use Rattle.hal_phrases.specs.Roles as roles
use Rattle.hal_phrases.specs.GatheredExpressions.{below, gathered, gathered_all, gathered_terms, gathered_reference, gathered_subscript, gathered_subs, gathered_sub, gathered_position}
use Rattle.hal_operations.specs.declared.operation.Op1.TheVariants as op1
use Rattle.hal_operations.specs.declared.operation.Op2.{Op2}
use Rattle.hal_operations.specs.declared.operation.Op2.TheVariants as op2
use Rattle.hal_constants.specs.declared.operation.Operation.{Operation}
use Rattle.hal_constants.specs.declared.operation.Operation.TheVariants as operation
use Rattle.hal_constants.specs.Naming.{operation_of}
use Rattle.hal_constants.specs.Constants.{is_none}
use Rattle.hal_code.specs.declared.instr.Instr.{Instr}
use Rattle.hal_code.specs.declared.instr.Instr.TheVariants as instr
use Rattle.hal_code.specs.declared.operand.Places.TheVariants as chosen_places
use Rattle.hal_code.specs.declared.row.View.{View}
use Rattle.hal_meaning.specs.Bodies.{marks_of}
use Rattle.hal_meaning.specs.Calls.{parameter_named}
use Rattle.hal_meaning.specs.Expressions.{inputs_at, is_condition, makes_condition, becomes_condition, operation_of_relation, operation_of_sign, operation_of_conversion, is_size, sizes_named}
use Rattle.hal_meaning.specs.Places.{Place}
use Rattle.hal_meaning.specs.Runs.{places_of_process}
use Rattle.hal_meaning.specs.Sets.{Set}
use Rattle.hal_meaning.specs.Variables.{is_arrayed, is_whole}
use Rattle.hal_agreement.specs.PlacedExpressions.{two, picks, places_of}
use Rattle.hal_agreement.specs.Sites.{Site}
use Rattle.hal_storage.specs.referents.Referents.{Referent, DataOf, ConstantOf, EventOf, BlockOf, BuiltinOf, Unmeant}
use Rattle.hal_gen_expr.specs.declared.aims.Aim.{Aim}
use Rattle.hal_gen_expr.specs.declared.aims.Aim.TheVariants as aims
use Rattle.hal_gen_expr.specs.Emitting.{Emitted, onwards, emit}
use Rattle.hal_gen_expr.specs.ExpressionCode.{one, literal_instr, exponent_instr, power_of, emit_one, integer_instr, sign_code, operand_code, name_code, integer_code, address_code, place_code, array_code, leaves_array, subscripted_code, where_led, with_shape, passed_code, called_code, size_code, ends, expression_code, joined_code, folded_code, terms_code, built_code, arguments_code, whole_code, area_code, reference_code, chosen_code, copies_code, indexes_code, index_code, position_code, component_code, parts_code, part_code}
use Rattle.hal_gen_expr.specs.Led.{Led, led_to, led_by, sizes_led, aimed, plainly_aimed}
use Rattle.hal_gen_expr.specs.Leaves.{is_nil, value_of, call_of}
use Rattle.hal_gen_expr.specs.Numbering.{Numbering, shape_in}
use Rattle.hal_gen_expr.specs.Referents.{referent}
use Rattle.hal_gen_expr.specs.Shapes.{runs_of}
use Rattle.hal_gen_expr.specs.Sizes.{size_of_arguments}
use Rattle.hal_gen_expr.specs.Spans.{places_skipped}
use Rattle.hal_gen_expr.proofs.Numbered.{mapped_is}
use Rattle.hal_link.specs.Outlines.{Outline, outlines_of, numbering_of}
use Rattle.hal_link.specs.Shapes.{shapes_of}
use Rattle.hal_fit_calls.specs.Each.{Each}
use Rattle.hal_fit_rules.specs.Begun.{AreFirst}
use Rattle.hal_fit_rules.proofs.Beginning.{then_, among}
use Rattle.hal_fit_rules.proofs.BegunExpressions.{expression_first, expressions_first, terms_first, subscript_first, subs_first, position_first}
use Rattle.hal_right_images.specs.rows.Homes.{LeadsHome}
use Rattle.hal_right_images.specs.rows.Purposes.{IsSite, Says, IsInput, IsPassed}
use Rattle.hal_right_images.specs.views.Naming.{Names}
use Rattle.hal_right_images.proofs.views.Adding.{Gives, none_more, some_more, emit_gives, one_gives, any_gives, then_gives, if_gives, either_gives, call_gives}
use Rattle.hal_right_images.proofs.views.Calling.{site_in, integer_plain, literal_plain, exponent_plain, call_each, value_each}
use Rattle.hal_right_images.proofs.views.Leaves.{chosen_named, plainly_named, argument_named, plain_argument}

module _ (s : Set) (views : List View) (o : Outline) (number : ℕ) (outlined : slice_get (outlines_of s) number ≡ Some o) (places : List Place) (laid : places ≡ places_of_process s o.process) (unit : ℕ)
    (sites : (block : ℕ) → LeadsHome s.phrases unit block → IsSite s o.process (site_in s places unit block (marks_of s.phrases unit))) where
  -- around phrases of the unit
  abbrev pub Here : Around → Type 0
  Here a = (a.home ≡ unit) × LeadsHome s.phrases unit a.block

  abbrev n : Numbering
  n = numbering_of (shapes_of s) views o

  -- where phrases stand in the unit
  abbrev pub site : ℕ → Site
  site block = site_in s places unit block (marks_of s.phrases unit)

  abbrev pub P : Instr → Type 0
  P i = Names s views o.process i

  -- a phrase that was added says what it says
  pub says_there : (d : List Phrase) (a : Around) (node : Node) → Here a → AreFirst (add d a node) s.phrases → Says (site a.block) node
  says_there d a node home first = record { phrase = phrase (length d) a node; among = among s.phrases d a node first; home = home.0; block = refl; is = refl }

  operand_gives : (becomes : Bool) (before : List Instr) (place : refusals.Place) → Gives P before (operand_code before place becomes)
  operand_gives true before place = some_more P before (instr.Bits 1 0 ∷ two op2.NotEqual ∷ []) (tt, (tt, tt))
  operand_gives false before place = none_more P before

  sign_gives : (opening : Option Sign) (before : List Instr) (place : refusals.Place) → Gives P before (sign_code before place opening)
  sign_gives (Some Minus) before place = one_gives P before place (one op1.Minus) tt
  sign_gives (Some Plus) before place = none_more P before
  sign_gives None before place = none_more P before

  value_gives : (block : ℕ) (leads : LeadsHome s.phrases unit block) (name : List ℕ) (path : List Naming) (before : List Instr) (place : refusals.Place) (r : Referent) → referent (site block) name ≡ r → Gives P before (emit before place (value_of n (site block) path r))
  value_gives block leads name path before place r refers =
      emit_gives P before place (value_of n (site block) path r) (λ is. value_each s views o number outlined places laid unit block (marks_of s.phrases unit) (sites block leads) name path r is refers)

  pub name_gives : (block : ℕ) (leads : LeadsHome s.phrases unit block) (name : Naming) (before : List Instr) → Gives P before (name_code n (site block) before name)
  name_gives block leads name before = value_gives block leads name.name [] before name.place (referent (site block) name.name) refl

  -- an instruction that is there is plain
  module _ (block : ℕ) (leads : LeadsHome s.phrases unit block) where
    abbrev Plain : Option Instr → Type 0
    Plain o_i = (i : Instr) → o_i ≡ Some i → P i

    pub integer_gives : (number_there : ℕ) (before : List Instr) (place : refusals.Place) → Gives P before (integer_code before place number_there)
    integer_gives number_there before place =
        any_gives P before place (integer_instr number_there) (λ i. integer_plain s views o number outlined places laid unit block (marks_of s.phrases unit) (sites block leads) number_there i)

    power_gives : (tree : Expression) (before : List Instr) (place : refusals.Place) → Gives P before (emit before place (power_of (exponent_instr tree)))
    power_gives tree before place =
        emit_gives P before place (power_of (exponent_instr tree))
        (λ is given.
        let made = mapped_is (λ i. i ∷ two op2.Power ∷ []) (exponent_instr tree) is given in
        subst (λ l. Each P l) made.2 (exponent_plain s views o number outlined places laid unit block (marks_of s.phrases unit) (sites block leads) tree made.0 made.1, (tt, tt)))

  -- an address that a subscript chooses
  abbrev pub led_instr : Site → Aim → Subscript → Led → Option Instr
  led_instr here aim Unsubscripted l = plainly_aimed n here aim l
  led_instr here aim (ByName there name) l = aimed n here aim (ByName there name) l
  led_instr here aim (ByInteger there mark m) l = aimed n here aim (ByInteger there mark m) l
  led_instr here aim (ByParts there copies arrays components) l = aimed n here aim (ByParts there copies arrays components) l

  abbrev pub LedNamed : Site → Aim → Subscript → Led → Type 0
  LedNamed here aim x l = (i : Instr) → led_instr here aim x l ≡ Some i → P i

  place_gives : (sizes : List ℕ) (here : Site) (before : List Instr) (place : refusals.Place) (aim : Aim) (r : Emitted) (x : Subscript) (l : Led) → Gives P before r → ((i : Instr) → aimed n here aim x l ≡ Some i → P i)
      → Gives P before (place_code n here before place aim r x l sizes)
  place_gives [] here before place aim r x l gives leaf = any_gives P before place (aimed n here aim x l) leaf
  place_gives (size ∷ sizes) here before place aim r x l gives leaf =
      if_gives P (is_nil sizes) before (onwards r (λ middle. address_code n here middle place aim x l)) place
      (then_gives P before r (λ middle. address_code n here middle place aim x l) gives (λ middle. any_gives P middle place (aimed n here aim x l) leaf))

  array_gives : (b c : Bool) (before : List Instr) (unmarked marked none : Emitted) → Gives P before unmarked → Gives P before marked → Gives P before none → Gives P before (array_code b c unmarked marked none)
  array_gives true true before unmarked marked none u m o_none = u
  array_gives true false before unmarked marked none u m o_none = o_none
  array_gives false c before unmarked marked none u m o_none = m

  subscripted_gives : (r : Referent) (block : ℕ) (leads : LeadsHome s.phrases unit block) (name : List ℕ) (path : List Naming) (before : List Instr) (place : refusals.Place) (address : Led → Emitted) (component : Bool → List Instr → Emitted) → referent (site block) name ≡ r
      → ((l : Led) → led_by path r ≡ Some l → Gives P before (address l)) → ((arrayed : Bool) (middle : List Instr) → Gives P middle (component arrayed middle))
      → Gives P before (subscripted_code n (site block) before place path address component r)
  subscripted_gives (DataOf k way shape) block leads name path before place address component refers a c =
      then_gives P before (address (led_to path k way shape)) (λ middle. onwards (emit_one middle place instr.Fetch) (λ late. component (is_arrayed (sizes_named path shape)) late)) (a (led_to path k way shape) refl)
      (λ middle. then_gives P middle (emit_one middle place instr.Fetch) (λ late. component (is_arrayed (sizes_named path shape)) late) (one_gives P middle place instr.Fetch tt)
      (λ late. c (is_arrayed (sizes_named path shape)) late))
  subscripted_gives (ConstantOf v) block leads name path before place address component refers a c =
      then_gives P before (emit before place (value_of n (site block) path (ConstantOf v))) (λ middle. component false middle) (value_gives block leads name path before place (ConstantOf v) refers) (λ middle. c false middle)
  subscripted_gives (EventOf e) block leads name path before place address component refers a c =
      then_gives P before (emit before place (value_of n (site block) path (EventOf e))) (λ middle. component false middle) (value_gives block leads name path before place (EventOf e) refers) (λ middle. c false middle)
  subscripted_gives (BlockOf k) block leads name path before place address component refers a c =
      then_gives P before (emit before place (value_of n (site block) path (BlockOf k))) (λ middle. component false middle) (value_gives block leads name path before place (BlockOf k) refers) (λ middle. c false middle)
  subscripted_gives (BuiltinOf b) block leads name path before place address component refers a c =
      then_gives P before (emit before place (value_of n (site block) path (BuiltinOf b))) (λ middle. component false middle) (value_gives block leads name path before place (BuiltinOf b) refers) (λ middle. c false middle)
  subscripted_gives Unmeant block leads name path before place address component refers a c = tt

  called_gives : (r : Referent) (block : ℕ) (leads : LeadsHome s.phrases unit block) (name : List ℕ) (before : List Instr) (place : refusals.Place) (size : Emitted) (folded : List Instr → Emitted) (built : Operation → Emitted) (arguments : ℕ → Emitted) → referent (site block) name ≡ r
      → Gives P before size → ((middle : List Instr) → Gives P middle (folded middle)) → ((op : Operation) → Gives P before (built op)) → ((callee : ℕ) → r ≡ BlockOf callee → Gives P before (arguments callee))
      → Gives P before (called_code n (site block) before place size folded built arguments r)
  called_gives (DataOf k way shape) block leads name before place size folded built arguments refers z f b a =
      then_gives P before (emit before place (value_of n (site block) [] (DataOf k way shape))) folded (value_gives block leads name [] before place (DataOf k way shape) refers) f
  called_gives (ConstantOf v) block leads name before place size folded built arguments refers z f b a =
      then_gives P before (emit before place (value_of n (site block) [] (ConstantOf v))) folded (value_gives block leads name [] before place (ConstantOf v) refers) f
  called_gives (EventOf e) block leads name before place size folded built arguments refers z f b a = tt
  called_gives (BlockOf callee) block leads name before place size folded built arguments refers z f b a =
      call_gives P before place (arguments callee) (call_of n (site block) true callee) (a callee refl)
      (λ is. call_each s views o number outlined places laid unit block (marks_of s.phrases unit) (sites block leads) true callee is)
  called_gives (BuiltinOf m) block leads name before place size folded built arguments refers z f b a = either_gives P (is_size m) before size (built (operation_of m)) z (b (operation_of m))
  called_gives Unmeant block leads name before place size folded built arguments refers z f b a = tt

  passed_gives : (b : Bool) (before : List Instr) (whole plain : Emitted) → (b ≡ true → Gives P before whole) → Gives P before plain → Gives P before (passed_code b whole plain)
  passed_gives true before whole plain w p = w refl
  passed_gives false before whole plain w p = p

  shape_gives : (before : List Instr) (place : refusals.Place) (shape : Option ℕ) (go : ℕ → Emitted) → ((m : ℕ) → shape ≡ Some m → Gives P before (go m)) → Gives P before (with_shape place shape go)
  shape_gives before place None go gives = tt
  shape_gives before place (Some m) go gives = gives m refl

  led_gives : (before : List Instr) (place : refusals.Place) (led : Option Led) (address : Led → Emitted) → ((l : Led) → led ≡ Some l → Gives P before (address l)) → Gives P before (where_led place address led)
  led_gives before place None address gives = tt
  led_gives before place (Some l) address gives = gives l refl

  -- the leaf of a reference, by its subscript
  pub cell_leaf : (x : Subscript) (block : ℕ) (near : LeadsHome s.phrases unit block) (r : Role) (place : refusals.Place) (name : List ℕ) (path : List Naming) (l : Led) → Says (site block) (OfReference r (Refers place name path x)) → led_by path (referent (site block) name) ≡ Some l
      → LedNamed (site block) aims.Cell x l
  cell_leaf Unsubscripted block near r place name path l says leads i is = plainly_named s views o (site block) (sites block near) name path l i leads is
  cell_leaf (ByName there other) block near r place name path l says leads i is = chosen_named s views o (site block) (sites block near) r place name path (ByName there other) l i says leads is
  cell_leaf (ByInteger there mark m) block near r place name path l says leads i is = chosen_named s views o (site block) (sites block near) r place name path (ByInteger there mark m) l i says leads is
  cell_leaf (ByParts there copies arrays components) block near r place name path l says leads i is =
      chosen_named s views o (site block) (sites block near) r place name path (ByParts there copies arrays components) l i says leads is

  area_leaf : (x : Subscript) (block : ℕ) (near : LeadsHome s.phrases unit block) (callee : ℕ) (parameter : Naming) (place : refusals.Place) (name : List ℕ) (path : List Naming) (l : Led) (shape : ℕ) → IsPassed (site block) callee parameter (Refers place name path x)
      → led_by path (referent (site block) name) ≡ Some l → shape_in (shapes_of s) (runs_of (parameter_named s callee parameter).shape) ≡ Some shape → LedNamed (site block) (aims.Shape shape) x l
  area_leaf Unsubscripted block near callee parameter place name path l shape passed leads numbered i is =
      plain_argument s views o (site block) (sites block near) callee parameter place name path Unsubscripted passed l leads shape numbered i refl refl is
  area_leaf (ByName there other) block near callee parameter place name path l shape passed leads numbered i is =
      argument_named s views o (site block) (sites block near) callee parameter place name path (ByName there other) passed l leads shape numbered i is
  area_leaf (ByInteger there mark m) block near callee parameter place name path l shape passed leads numbered i is =
      argument_named s views o (site block) (sites block near) callee parameter place name path (ByInteger there mark m) passed l leads shape numbered i is
  area_leaf (ByParts there copies arrays components) block near callee parameter place name path l shape passed leads numbered i is =
      argument_named s views o (site block) (sites block near) callee parameter place name path (ByParts there copies arrays components) passed l leads shape numbered i is

  reference_said : (d : List Phrase) (a : Around) (r : Role) (p : refusals.Place) (name : List ℕ) (path : List Naming) (x : Subscript) → Here a → AreFirst (gathered_reference d a r (Refers p name path x)) s.phrases
      → Says (site a.block) (OfReference r (Refers p name path x))
  unfolding gathered_reference
  reference_said d a r p name path x home begun =
      let e : List Phrase = add d a (OfReference r (Refers p name path x)) in
      says_there d a (OfReference r (Refers p name path x)) home (then_ (subscript_first e (below d a) x) begun)

  mutual
    unfolding gathered gathered_all gathered_terms gathered_reference gathered_subscript gathered_subs gathered_sub gathered_position

    pub expression_gives : (d : List Phrase) (a : Around) (r : Role) (t : Expression) → Here a → AreFirst (gathered d a r t) s.phrases → (before : List Instr) → Gives P before (expression_code n (site a.block) before t)
    expression_gives d a r (Or p first others) home begun before =
        let e : List Phrase = add d a (OfExpression r (Or p first others)) in
        let own : Role = roles.under r role.Disjunct in
        then_gives P before (expression_code n (site a.block) before first) (λ middle. joined_code n (site a.block) middle p op2.Or (is_condition first) others)
        (expression_gives e (below d a) own first home (then_ (expressions_first (gathered e (below d a) own first) (below d a) own others) begun) before)
        (λ middle. joined_gives (gathered e (below d a) own first) (below d a) own others home begun middle p op2.Or (is_condition first))
    expression_gives d a r (And p first others) home begun before =
        let e : List Phrase = add d a (OfExpression r (And p first others)) in
        let own : Role = roles.under r role.Conjunct in
        then_gives P before (expression_code n (site a.block) before first) (λ middle. joined_code n (site a.block) middle p op2.And (is_condition first) others)
        (expression_gives e (below d a) own first home (then_ (expressions_first (gathered e (below d a) own first) (below d a) own others) begun) before)
        (λ middle. joined_gives (gathered e (below d a) own first) (below d a) own others home begun middle p op2.And (is_condition first))
    expression_gives d a r (Compare p left relation right) home begun before =
        let e : List Phrase = add d a (OfExpression r (Compare p left relation right)) in
        let f : List Phrase = gathered e (below d a) role.Compared left in
        then_gives P before (expression_code n (site a.block) before left) (λ middle. onwards (expression_code n (site a.block) middle right) (λ last. emit_one last p (two (operation_of_relation relation))))
        (expression_gives e (below d a) role.Compared left home (then_ (expression_first f (below d a) role.Compared right) begun) before)
        (λ middle. then_gives P middle (expression_code n (site a.block) middle right) (λ last. emit_one last p (two (operation_of_relation relation)))
        (expression_gives f (below d a) role.Compared right home begun middle) (λ last. one_gives P last p (two (operation_of_relation relation)) tt))
    expression_gives d a r (Cat p first others) home begun before =
        let e : List Phrase = add d a (OfExpression r (Cat p first others)) in
        let f : List Phrase = gathered e (below d a) role.Joined first in
        then_gives P before (expression_code n (site a.block) before first) (λ middle. folded_code n (site a.block) middle p op2.Cat others)
        (expression_gives e (below d a) role.Joined first home (then_ (expressions_first f (below d a) role.Joined others) begun) before)
        (λ middle. folded_gives f (below d a) role.Joined others home begun middle p op2.Cat)
    expression_gives d a r (Sum p opening first others) home begun before =
        let e : List Phrase = add d a (OfExpression r (Sum p opening first others)) in
        let f : List Phrase = gathered e (below d a) role.Summand first in
        then_gives P before (expression_code n (site a.block) before first) (λ middle. onwards (sign_code middle p opening) (λ late. terms_code n (site a.block) late others))
        (expression_gives e (below d a) role.Summand first home (then_ (terms_first f (below d a) others) begun) before)
        (λ middle. then_gives P middle (sign_code middle p opening) (λ late. terms_code n (site a.block) late others) (sign_gives opening middle p) (λ late. terms_give f (below d a) others home begun late))
    expression_gives d a r (Product p first others) home begun before =
        let e : List Phrase = add d a (OfExpression r (Product p first others)) in
        let f : List Phrase = gathered e (below d a) role.Factor first in
        then_gives P before (expression_code n (site a.block) before first) (λ middle. folded_code n (site a.block) middle p op2.Product others)
        (expression_gives e (below d a) role.Factor first home (then_ (expressions_first f (below d a) role.Factor others) begun) before)
        (λ middle. folded_gives f (below d a) role.Factor others home begun middle p op2.Product)
    expression_gives d a r (Power p base exponent) home begun before =
        let e : List Phrase = add d a (OfExpression r (Power p base exponent)) in
        then_gives P before (expression_code n (site a.block) before base) (λ middle. emit middle p (power_of (exponent_instr exponent)))
        (expression_gives e (below d a) role.Base base home (then_ (expression_first (gathered e (below d a) role.Base base) (below d a) role.Exponent exponent) begun) before)
        (λ middle. power_gives a.block home.1 exponent middle p)
    expression_gives d a r (Not p operand) home begun before =
        then_gives P before (expression_code n (site a.block) before operand) (λ middle. emit_one middle p (one op1.Not))
        (expression_gives (add d a (OfExpression r (Not p operand))) (below d a) (roles.under r role.Negated) operand home begun before) (λ middle. one_gives P middle p (one op1.Not) tt)
    expression_gives d a r (Literal p literal) home begun before =
        any_gives P before p (literal_instr literal) (λ i. literal_plain s views o number outlined places laid unit a.block (marks_of s.phrases unit) (sites a.block home.1) literal i)
    expression_gives d a r (Decimal p m) home begun before = tt
    expression_gives d a r (Referred reference) home begun before = reference_gives (add d a (OfExpression r (Referred reference))) (below d a) r reference home begun before
    expression_gives d a r (Called p name arguments) home begun before =
        let e : List Phrase = add d a (OfExpression r (Called p name arguments)) in
        let f : List Phrase = add e (below d a) (OfCallForm p name arguments) in
        let here : Site = site a.block in
        let says = says_there e (below d a) (OfCallForm p name arguments) home (then_ (expressions_first f (below d a) role.Argument arguments) begun) in
        called_gives (referent here name) a.block home.1 name before p (size_code here before p arguments) (λ middle. folded_code n here middle p op2.Product arguments) (λ op. built_code n here before p op arguments)
        (λ callee. arguments_code n here before p callee (inputs_at s callee) arguments) refl (integer_gives a.block home.1 (size_of_arguments here arguments) before p)
        (λ middle. folded_gives f (below d a) role.Argument arguments home begun middle p op2.Product) (λ op. built_gives f (below d a) role.Argument arguments home begun before p op)
        (λ callee refers. arguments_give f (below d a) role.Argument arguments home begun callee (inputs_at s callee)
        (λ one given is whole. inl (record { arguments = arguments; receivers = []; calls = inl (p, name, says, refers); passed = is; whole = whole })) before p)
    expression_gives d a r (Convert p conversion operand) home begun before =
        then_gives P before (expression_code n (site a.block) before operand) (λ middle. emit_one middle p (one (operation_of_conversion conversion)))
        (expression_gives (add d a (OfExpression r (Convert p conversion operand))) (below d a) (roles.of_conversion conversion) operand home begun before)
        (λ middle. one_gives P middle p (one (operation_of_conversion conversion)) tt)
    expression_gives d a r (Parenthesis p inner) home begun before =
        expression_gives (add d a (OfExpression r (Parenthesis p inner))) (below d a) (roles.under r role.Enclosed) inner home begun before

    joined_gives : (d : List Phrase) (a : Around) (r : Role) (ts : Expressions) → Here a → AreFirst (gathered_all d a r ts) s.phrases → (before : List Instr) (p : refusals.Place) (op : Op2) (condition : Bool)
        → Gives P before (joined_code n (site a.block) before p op condition ts)
    joined_gives d a r NoExpressions home begun before p op condition = none_more P before
    joined_gives d a r (MoreExpressions first others) home begun before p op condition =
        let here : Site = site a.block in
        then_gives P before (operand_code before p (makes_condition condition first))
        (λ began. onwards (expression_code n here began first)
        (λ middle. onwards (operand_code middle p (becomes_condition condition first)) (λ late. onwards (emit_one late p (two op)) (λ last. joined_code n here last p op (condition || is_condition first) others))))
        (operand_gives (makes_condition condition first) before p)
        (λ began. then_gives P began (expression_code n here began first)
        (λ middle. onwards (operand_code middle p (becomes_condition condition first)) (λ late. onwards (emit_one late p (two op)) (λ last. joined_code n here last p op (condition || is_condition first) others)))
        (expression_gives d a r first home (then_ (expressions_first (gathered d a r first) a r others) begun) began)
        (λ middle. then_gives P middle (operand_code middle p (becomes_condition condition first)) (λ late. onwards (emit_one late p (two op)) (λ last. joined_code n here last p op (condition || is_condition first) others))
        (operand_gives (becomes_condition condition first) middle p)
        (λ late. then_gives P late (emit_one late p (two op)) (λ last. joined_code n here last p op (condition || is_condition first) others) (one_gives P late p (two op) tt)
        (λ last. joined_gives (gathered d a r first) a r others home begun last p op (condition || is_condition first)))))

    folded_gives : (d : List Phrase) (a : Around) (r : Role) (ts : Expressions) → Here a → AreFirst (gathered_all d a r ts) s.phrases → (before : List Instr) (p : refusals.Place) (op : Op2)
        → Gives P before (folded_code n (site a.block) before p op ts)
    folded_gives d a r NoExpressions home begun before p op = none_more P before
    folded_gives d a r (MoreExpressions first others) home begun before p op =
        then_gives P before (expression_code n (site a.block) before first) (λ middle. onwards (emit_one middle p (two op)) (λ late. folded_code n (site a.block) late p op others))
        (expression_gives d a r first home (then_ (expressions_first (gathered d a r first) a r others) begun) before)
        (λ middle. then_gives P middle (emit_one middle p (two op)) (λ late. folded_code n (site a.block) late p op others) (one_gives P middle p (two op) tt)
        (λ late. folded_gives (gathered d a r first) a r others home begun late p op))

    terms_give : (d : List Phrase) (a : Around) (ts : Terms) → Here a → AreFirst (gathered_terms d a ts) s.phrases → (before : List Instr) → Gives P before (terms_code n (site a.block) before ts)
    terms_give d a NoTerms home begun before = none_more P before
    terms_give d a (MoreTerms p sign term others) home begun before =
        then_gives P before (expression_code n (site a.block) before term) (λ middle. onwards (emit_one middle p (two (operation_of_sign sign))) (λ late. terms_code n (site a.block) late others))
        (expression_gives d a role.Summand term home (then_ (terms_first (gathered d a role.Summand term) a others) begun) before)
        (λ middle. then_gives P middle (emit_one middle p (two (operation_of_sign sign))) (λ late. terms_code n (site a.block) late others) (one_gives P middle p (two (operation_of_sign sign)) tt)
        (λ late. terms_give (gathered d a role.Summand term) a others home begun late))

    built_gives : (d : List Phrase) (a : Around) (r : Role) (ts : Expressions) → Here a → AreFirst (gathered_all d a r ts) s.phrases → (before : List Instr) (p : refusals.Place) (op : Operation)
        → Gives P before (built_code n (site a.block) before p op ts)
    built_gives d a r (MoreExpressions operand others) home begun before p (operation.One op) =
        if_gives P (ends others) before (onwards (expression_code n (site a.block) before operand) (λ middle. emit_one middle p (one op))) p
        (then_gives P before (expression_code n (site a.block) before operand) (λ middle. emit_one middle p (one op))
        (expression_gives d a r operand home (then_ (expressions_first (gathered d a r operand) a r others) begun) before) (λ middle. one_gives P middle p (one op) tt))
    built_gives d a r (MoreExpressions left (MoreExpressions right others)) home begun before p (operation.Two op) =
        let f : List Phrase = gathered d a r left in
        let right_begun = then_ (expressions_first (gathered f a r right) a r others) begun in
        if_gives P (ends others) before (onwards (expression_code n (site a.block) before left) (λ middle. onwards (expression_code n (site a.block) middle right) (λ last. emit_one last p (two op)))) p
        (then_gives P before (expression_code n (site a.block) before left) (λ middle. onwards (expression_code n (site a.block) middle right) (λ last. emit_one last p (two op)))
        (expression_gives d a r left home (then_ (expression_first f a r right) right_begun) before)
        (λ middle. then_gives P middle (expression_code n (site a.block) middle right) (λ last. emit_one last p (two op)) (expression_gives f a r right home right_begun middle) (λ last. one_gives P last p (two op) tt)))
    built_gives d a r NoExpressions home begun before p (operation.One op) = tt
    built_gives d a r NoExpressions home begun before p (operation.Two op) = tt
    built_gives d a r (MoreExpressions left NoExpressions) home begun before p (operation.Two op) = tt
    built_gives d a r ts home begun before p operation.Size = tt
    built_gives d a r ts home begun before p operation.Nothing = tt

    pub arguments_give : (d : List Phrase) (a : Around) (r : Role) (ts : Expressions) → Here a → AreFirst (gathered_all d a r ts) s.phrases → (callee : ℕ) (names : List Naming)
        → ((name : Naming) (given : Reference) → IsInput names ts name given → is_whole (parameter_named s callee name).shape ≡ true → IsPassed (site a.block) callee name given) → (before : List Instr) (p : refusals.Place)
        → Gives P before (arguments_code n (site a.block) before p callee names ts)
    arguments_give d a r NoExpressions home begun callee [] passed before p = none_more P before
    arguments_give d a r (MoreExpressions first others) home begun callee (name ∷ names) passed before p =
        let here : Site = site a.block in
        let shape = (parameter_named s callee name).shape in
        let first_begun = then_ (expressions_first (gathered d a r first) a r others) begun in
        then_gives P before (passed_code (is_whole shape) (whole_code n here before p (runs_of shape) first) (expression_code n here before first)) (λ middle. arguments_code n here middle p callee names others)
        (passed_gives (is_whole shape) before (whole_code n here before p (runs_of shape) first) (expression_code n here before first)
        (λ whole. whole_gives d a r first home first_begun callee name (λ given is. passed name given (inl (refl, is)) whole) before p) (expression_gives d a r first home first_begun before))
        (λ middle. arguments_give (gathered d a r first) a r others home begun callee names (λ one given is. passed one given (inr is)) middle p)
    arguments_give d a r NoExpressions home begun callee (name ∷ names) passed before p = tt
    arguments_give d a r (MoreExpressions first others) home begun callee [] passed before p = tt

    whole_gives : (d : List Phrase) (a : Around) (r : Role) (t : Expression) → Here a → AreFirst (gathered d a r t) s.phrases → (callee : ℕ) (name : Naming)
        → ((given : Reference) → t ≡ Referred given → IsPassed (site a.block) callee name given) → (before : List Instr) (p : refusals.Place) → Gives P before (whole_code n (site a.block) before p (runs_of (parameter_named s callee name).shape) t)
    whole_gives d a r (Referred reference) home begun callee name passed before p =
        area_gives (add d a (OfExpression r (Referred reference))) (below d a) r reference home begun callee name (passed reference refl) before
    whole_gives d a r (Or there first others) home begun callee name passed before p = tt
    whole_gives d a r (And there first others) home begun callee name passed before p = tt
    whole_gives d a r (Compare there left relation right) home begun callee name passed before p = tt
    whole_gives d a r (Cat there first others) home begun callee name passed before p = tt
    whole_gives d a r (Sum there opening first others) home begun callee name passed before p = tt
    whole_gives d a r (Product there first others) home begun callee name passed before p = tt
    whole_gives d a r (Power there base exponent) home begun callee name passed before p = tt
    whole_gives d a r (Not there operand) home begun callee name passed before p = tt
    whole_gives d a r (Literal there literal) home begun callee name passed before p = tt
    whole_gives d a r (Decimal there m) home begun callee name passed before p = tt
    whole_gives d a r (Called there other arguments) home begun callee name passed before p = tt
    whole_gives d a r (Convert there conversion operand) home begun callee name passed before p = tt
    whole_gives d a r (Parenthesis there inner) home begun callee name passed before p = tt

    pub area_gives : (d : List Phrase) (a : Around) (r : Role) (t : Reference) → Here a → AreFirst (gathered_reference d a r t) s.phrases → (callee : ℕ) (name : Naming) → IsPassed (site a.block) callee name t
        → (before : List Instr) → Gives P before (area_code n (site a.block) before (runs_of (parameter_named s callee name).shape) t)
    area_gives d a r (Refers p called path x) home begun callee name passed before =
        let here : Site = site a.block in
        let e : List Phrase = add d a (OfReference r (Refers p called path x)) in
        shape_gives before p (shape_in (shapes_of s) (runs_of (parameter_named s callee name).shape)) (λ shape. where_led p (λ l. chosen_code n here before p (aims.Shape shape) x l) (led_by path (referent here called)))
        (λ shape numbered. led_gives before p (led_by path (referent here called)) (λ l. chosen_code n here before p (aims.Shape shape) x l)
        (λ l leads. chosen_gives e (below d a) x home begun (aims.Shape shape) l p before (area_leaf x a.block home.1 callee name p called path l shape passed leads numbered)))

    reference_gives : (d : List Phrase) (a : Around) (r : Role) (t : Reference) → Here a → AreFirst (gathered_reference d a r t) s.phrases → (before : List Instr) → Gives P before (reference_code n (site a.block) before t)
    reference_gives d a r (Refers p name path Unsubscripted) home begun before = value_gives a.block home.1 name path before p (referent (site a.block) name) refl
    reference_gives d a r (Refers p name path (ByName there other)) home begun before =
        let here : Site = site a.block in
        let e : List Phrase = add d a (OfReference r (Refers p name path (ByName there other))) in
        subscripted_gives (referent here name) a.block home.1 name path before p (λ l. chosen_code n here before p aims.Cell (ByName there other) l) (λ arrayed middle. component_code n here middle p arrayed (ByName there other)) refl
        (λ l leads. chosen_gives e (below d a) (ByName there other) home begun aims.Cell l p before (cell_leaf (ByName there other) a.block home.1 r p name path l (reference_said d a r p name path (ByName there other) home begun) leads))
        (λ arrayed middle. component_gives e (below d a) (ByName there other) home begun arrayed p middle)
    reference_gives d a r (Refers p name path (ByInteger there mark m)) home begun before =
        let here : Site = site a.block in
        let e : List Phrase = add d a (OfReference r (Refers p name path (ByInteger there mark m))) in
        subscripted_gives (referent here name) a.block home.1 name path before p (λ l. chosen_code n here before p aims.Cell (ByInteger there mark m) l) (λ arrayed middle. component_code n here middle p arrayed (ByInteger there mark m)) refl
        (λ l leads. chosen_gives e (below d a) (ByInteger there mark m) home begun aims.Cell l p before (cell_leaf (ByInteger there mark m) a.block home.1 r p name path l (reference_said d a r p name path (ByInteger there mark m) home begun) leads))
        (λ arrayed middle. component_gives e (below d a) (ByInteger there mark m) home begun arrayed p middle)
    reference_gives d a r (Refers p name path (ByParts there copies arrays components)) home begun before =
        let here : Site = site a.block in
        let e : List Phrase = add d a (OfReference r (Refers p name path (ByParts there copies arrays components))) in
        subscripted_gives (referent here name) a.block home.1 name path before p (λ l. chosen_code n here before p aims.Cell (ByParts there copies arrays components) l) (λ arrayed middle. component_code n here middle p arrayed (ByParts there copies arrays components)) refl
        (λ l leads. chosen_gives e (below d a) (ByParts there copies arrays components) home begun aims.Cell l p before (cell_leaf (ByParts there copies arrays components) a.block home.1 r p name path l (reference_said d a r p name path (ByParts there copies arrays components) home begun) leads))
        (λ arrayed middle. component_gives e (below d a) (ByParts there copies arrays components) home begun arrayed p middle)

    pub chosen_gives : (d : List Phrase) (a : Around) (x : Subscript) → Here a → AreFirst (gathered_subscript d a x) s.phrases → (aim : Aim) (l : Led) (p : refusals.Place) (before : List Instr)
        → LedNamed (site a.block) aim x l → Gives P before (chosen_code n (site a.block) before p aim x l)
    chosen_gives d a Unsubscripted home begun aim l p before leaf = any_gives P before p (plainly_aimed n (site a.block) aim l) leaf
    chosen_gives d a (ByName there name) home begun aim l p before leaf =
        place_gives (sizes_led l) (site a.block) before p aim (name_code n (site a.block) before name) (ByName there name) l (name_gives a.block home.1 name before) leaf
    chosen_gives d a (ByInteger there mark m) home begun aim l p before leaf =
        place_gives (sizes_led l) (site a.block) before p aim (integer_code before p m) (ByInteger there mark m) l (integer_gives a.block home.1 m before p) leaf
    chosen_gives d a (ByParts there copies arrays components) home begun aim l p before leaf =
        let here : Site = site a.block in
        let e : List Phrase = gathered_subs d a role.CopySubscript copies in
        let f : List Phrase = gathered_subs e a role.ArraySubscript arrays in
        let arrays_begun = then_ (subs_first f a role.ComponentSubscript components) begun in
        let array : List Instr → Emitted =
        (λ middle. array_code (is_none arrays) (is_arrayed (sizes_led l) && not (leaves_array aim components)) (indexes_code n here middle p (sizes_led l) components) (indexes_code n here middle p (sizes_led l) arrays) (Ok middle)) in
        then_gives P before (copies_code n here before p l.shape.copies copies) (λ middle. onwards (array middle) (λ last. address_code n here last p aim (ByParts there copies arrays components) l))
        (copies_give d a role.CopySubscript copies home (then_ (subs_first e a role.ArraySubscript arrays) arrays_begun) l.shape.copies p before)
        (λ middle. then_gives P middle (array middle) (λ last. address_code n here last p aim (ByParts there copies arrays components) l)
        (array_gives (is_none arrays) (is_arrayed (sizes_led l) && not (leaves_array aim components)) middle (indexes_code n here middle p (sizes_led l) components) (indexes_code n here middle p (sizes_led l) arrays) (Ok middle)
        (indexes_give f a role.ComponentSubscript components home begun (sizes_led l) p middle) (indexes_give e a role.ArraySubscript arrays home arrays_begun (sizes_led l) p middle) (none_more P middle))
        (λ last. any_gives P last p (aimed n here aim (ByParts there copies arrays components) l) leaf))

    copies_give : (d : List Phrase) (a : Around) (r : Role) (xs : Subscripts) → Here a → AreFirst (gathered_subs d a r xs) s.phrases → (count : Option ℕ) (p : refusals.Place) (before : List Instr)
        → Gives P before (copies_code n (site a.block) before p count xs)
    copies_give d a r NoSubscripts home begun count p before = none_more P before
    copies_give d a r (MoreSubscripts first others) home begun (Some count) p before =
        if_gives P (is_none others) before (index_code n (site a.block) before p count first) p (index_gives d a r first home (then_ (subs_first (gathered_sub d a r first) a r others) begun) count p before)
    copies_give d a r (MoreSubscripts first others) home begun None p before = tt

    indexes_give : (d : List Phrase) (a : Around) (r : Role) (xs : Subscripts) → Here a → AreFirst (gathered_subs d a r xs) s.phrases → (sizes : List ℕ) (p : refusals.Place) (before : List Instr)
        → Gives P before (indexes_code n (site a.block) before p sizes xs)
    indexes_give d a r NoSubscripts home begun [] p before = none_more P before
    indexes_give d a r (MoreSubscripts first others) home begun (size ∷ sizes) p before =
        then_gives P before (index_code n (site a.block) before p size first) (λ middle. indexes_code n (site a.block) middle p sizes others)
        (index_gives d a r first home (then_ (subs_first (gathered_sub d a r first) a r others) begun) size p before) (λ middle. indexes_give (gathered_sub d a r first) a r others home begun sizes p middle)
    indexes_give d a r NoSubscripts home begun (size ∷ sizes) p before = tt
    indexes_give d a r (MoreSubscripts first others) home begun [] p before = tt

    index_gives : (d : List Phrase) (a : Around) (r : Role) (x : Sub) → Here a → AreFirst (gathered_sub d a r x) s.phrases → (size : ℕ) (p : refusals.Place) (before : List Instr)
        → Gives P before (index_code n (site a.block) before p size x)
    index_gives d a r (OnePlace position) home begun size p before = position_gives d a r position home begun (instr.Int (pos size)) tt p before
    index_gives d a r (Every there) home begun size p before = if_gives P (is_some (places_skipped (site a.block) size (Every there))) before (Ok before) p (none_more P before)
    index_gives d a r (Range first last) home begun size p before = if_gives P (is_some (places_skipped (site a.block) size (Range first last))) before (Ok before) p (none_more P before)
    index_gives d a r (Portion count first) home begun size p before = if_gives P (is_some (places_skipped (site a.block) size (Portion count first))) before (Ok before) p (none_more P before)

    position_gives : (d : List Phrase) (a : Around) (r : Role) (x : Position) → Here a → AreFirst (gathered_position d a r x) s.phrases → (ends_at : Instr) → P ends_at → (p : refusals.Place) (before : List Instr)
        → Gives P before (position_code n (site a.block) before p ends_at x)
    position_gives d a r (FromBeginning tree) home begun ends_at plain p before = expression_gives d a r tree home begun before
    position_gives d a r (FromEnd there terms) home begun ends_at plain p before =
        then_gives P before (emit_one before p ends_at) (λ middle. terms_code n (site a.block) middle terms) (one_gives P before p ends_at plain) (λ middle. terms_give d a terms home begun middle)

    component_gives : (d : List Phrase) (a : Around) (x : Subscript) → Here a → AreFirst (gathered_subscript d a x) s.phrases → (arrayed : Bool) (p : refusals.Place) (before : List Instr)
        → Gives P before (component_code n (site a.block) before p arrayed x)
    component_gives d a Unsubscripted home begun arrayed p before = none_more P before
    component_gives d a (ByName there name) home begun true p before = none_more P before
    component_gives d a (ByName there name) home begun false p before =
        then_gives P before (name_code n (site a.block) before name) (λ middle. emit_one middle p (picks chosen_places.One)) (name_gives a.block home.1 name before) (λ middle. one_gives P middle p (picks chosen_places.One) tt)
    component_gives d a (ByInteger there mark m) home begun true p before = none_more P before
    component_gives d a (ByInteger there mark m) home begun false p before =
        then_gives P before (integer_code before p m) (λ middle. emit_one middle p (picks chosen_places.One)) (integer_gives a.block home.1 m before p) (λ middle. one_gives P middle p (picks chosen_places.One) tt)
    component_gives d a (ByParts there copies arrays components) home begun arrayed p before =
        either_gives P (arrayed && is_none arrays) before (Ok before) (parts_code n (site a.block) before p components) (none_more P before)
        (parts_give (gathered_subs (gathered_subs d a role.CopySubscript copies) a role.ArraySubscript arrays) a role.ComponentSubscript components home begun p before)

    parts_give : (d : List Phrase) (a : Around) (r : Role) (xs : Subscripts) → Here a → AreFirst (gathered_subs d a r xs) s.phrases → (p : refusals.Place) (before : List Instr)
        → Gives P before (parts_code n (site a.block) before p xs)
    parts_give d a r NoSubscripts home begun p before = none_more P before
    parts_give d a r (MoreSubscripts first others) home begun p before =
        if_gives P (is_none others) before (onwards (part_code n (site a.block) before p first) (λ middle. emit_one middle p (picks (places_of first)))) p
        (then_gives P before (part_code n (site a.block) before p first) (λ middle. emit_one middle p (picks (places_of first)))
        (part_gives d a r first home (then_ (subs_first (gathered_sub d a r first) a r others) begun) p before) (λ middle. one_gives P middle p (picks (places_of first)) tt))

    pub part_gives : (d : List Phrase) (a : Around) (r : Role) (x : Sub) → Here a → AreFirst (gathered_sub d a r x) s.phrases → (p : refusals.Place) (before : List Instr)
        → Gives P before (part_code n (site a.block) before p x)
    part_gives d a r (Every there) home begun p before = some_more P before (instr.Int (pos 1) ∷ instr.Len 1 ∷ []) (tt, (tt, tt))
    part_gives d a r (OnePlace position) home begun p before = position_gives d a r position home begun (instr.Len 0) tt p before
    part_gives d a r (Range first last) home begun p before =
        then_gives P before (position_code n (site a.block) before p (instr.Len 0) first) (λ middle. position_code n (site a.block) middle p (instr.Len 1) last)
        (position_gives d a r first home (then_ (position_first (gathered_position d a r first) a r last) begun) (instr.Len 0) tt p before)
        (λ middle. position_gives (gathered_position d a r first) a r last home begun (instr.Len 1) tt p middle)
    part_gives d a r (Portion count first) home begun p before =
        then_gives P before (expression_code n (site a.block) before count) (λ middle. position_code n (site a.block) middle p (instr.Len 1) first)
        (expression_gives d a r count home (then_ (position_first (gathered d a r count) a r first) begun) before)
        (λ middle. position_gives (gathered d a r count) a r first home begun (instr.Len 1) tt p middle)
