-- The code of receivers, of what stands without parts in statements, and of the own places of groups names views that are for them.
use Rattle.std.specs.Prelude.{◌≡◌, ◌+◌, ◌<◌, ℕ, Bool, true, false, List, [], ◌∷◌, ◌++◌, length, Option, Some, None, Ok, Err, slice_get, if◌then◌else◌}
use Rattle.std.specs.Option.{option_map, option_and_then}
use Rattle.std.proofs.Common.{refl, subst, inl, inr, arith}
use Rattle.hal_base.specs.declared.refusal.Place as refusals
use Rattle.hal_grammar.specs.Leaves.{Naming}
use Rattle.hal_grammar.specs.Expressions.{Expressions, Reference, Refers, Subscript, Unsubscripted, ByName, ByInteger, ByParts, Subscripts, NoSubscripts, MoreSubscripts}
use Rattle.hal_grammar.specs.Statements.{EventAction, Signal, Reset, Set as Setting}
use Rattle.hal_phrases.specs.declared.around.Around.{Around}
use Rattle.hal_phrases.specs.declared.role.Role.{Role}
use Rattle.hal_phrases.specs.declared.role.Role.TheVariants as role
use Rattle.hal_phrases.specs.Phrases.{Phrase, add, gathered_each, OfReference, OfCall}
use Rattle.hal_phrases.specs.GatheredExpressions.{below, gathered_all, gathered_reference, gathered_subscript, gathered_subs}
use Rattle.hal_phrases.specs.GatheredStatements.{gathered_receiver}
use Rattle.hal_operations.specs.declared.operation.Op1.TheVariants as op1
use Rattle.hal_constants.specs.Constants.{is_none}
use Rattle.hal_code.specs.declared.choice.Choice.TheVariants as choice
use Rattle.hal_code.specs.declared.instr.Instr.{Instr}
use Rattle.hal_code.specs.declared.instr.Instr.TheVariants as instr
use Rattle.hal_code.specs.declared.operand.Places.{Places}
use Rattle.hal_code.specs.declared.operand.Places.TheVariants as chosen_places
use Rattle.hal_code.specs.declared.row.View.{View}
use Rattle.hal_meaning.specs.Bodies.{Body, marks_of}
use Rattle.hal_meaning.specs.Expressions.{inputs_at, outputs_at}
use Rattle.hal_meaning.specs.Places.{Place}
use Rattle.hal_meaning.specs.Runs.{places_of_process}
use Rattle.hal_meaning.specs.Sets.{Set}
use Rattle.hal_meaning.specs.Variables.{is_arrayed}
use Rattle.hal_agreement.specs.PlacedExpressions.{places_of}
use Rattle.hal_agreement.specs.PlacedStatements.{Leaving, ToFinish, ByReturn, ByResult, NoReturn, changes, patches}
use Rattle.hal_agreement.specs.Sites.{Site}
use Rattle.hal_storage.specs.referents.Referents.{Referent, DataOf, ConstantOf, EventOf, BlockOf, BuiltinOf, Unmeant}
use Rattle.hal_gen_expr.specs.declared.aims.Aim.TheVariants as aims
use Rattle.hal_gen_expr.specs.Calling.{spot_code, spots_code, passed_to_code}
use Rattle.hal_gen_expr.specs.Emitting.{Emitted, onwards, emit}
use Rattle.hal_gen_expr.specs.ExpressionCode.{emit_one, chosen_code, name_code, integer_code, part_code, arguments_code}
use Rattle.hal_gen_expr.specs.Led.{Led, led_by, sizes_led}
use Rattle.hal_gen_expr.specs.Leaves.{call_of, place_view}
use Rattle.hal_gen_expr.specs.Numbering.{Numbering, below as below_limit}
use Rattle.hal_gen_expr.specs.Referents.{referent}
use Rattle.hal_gen_expr.proofs.Numbered.{mapped_is, then_is}
use Rattle.hal_gen.specs.declared.kept.Cells.{Cells}
use Rattle.hal_gen.specs.KeptCode.{cell_of, cells, cells_at, cells_of, keeping, holding, case_tests, case_code, negative_tests, lesser_tests, bounds_keeping, bounding, nexting, counting}
use Rattle.hal_gen.specs.Leaves.{return_of, result_of, as_result, text_result, gives_text, each_of, named_or_own_of, named_process}
use Rattle.hal_gen.specs.Receiving.{patch_code, patched_code, stored_code, received_code, addressed_code, receiver_code}
use Rattle.hal_gen.specs.SpanCode.{variable_of, store_code, fetch_code}
use Rattle.hal_gen.specs.StatementCode.{receivers_code, procedure_code}
use Rattle.hal_link.specs.Outlines.{Outline, outlines_of, numbering_of}
use Rattle.hal_link.specs.Shapes.{shapes_of}
use Rattle.hal_fit_calls.specs.Each.{Each}
use Rattle.hal_fit_calls.proofs.Each.{each_append}
use Rattle.hal_fit_rules.specs.Begun.{AreFirst}
use Rattle.hal_fit_rules.proofs.Beginning.{then_}
use Rattle.hal_fit_rules.proofs.BegunExpressions.{subscript_first, subs_first, expressions_first}
use Rattle.hal_fit_rules.proofs.BegunStatements.{receivers_first}
use Rattle.hal_right_images.specs.rows.Homes.{LeadsHome}
use Rattle.hal_right_images.specs.rows.Purposes.{IsSite, HasPlace, IsOutput, IsPassed}
use Rattle.hal_right_images.specs.views.Naming.{NamesCell, Names}
use Rattle.hal_right_images.proofs.views.Adding.{Adds, Gives, none_more, some_more, both_add, emit_gives, one_gives, then_gives, behind_gives, if_gives, call_gives}
use Rattle.hal_right_images.proofs.views.Calling.{site_in, call_each}
use Rattle.hal_right_images.proofs.views.Expressions.{says_there, name_gives, integer_gives, cell_leaf, chosen_gives, part_gives, arguments_give, area_gives}
use Rattle.hal_right_images.proofs.views.Leaves.{element_named, place_named}

module _ (s : Set) (views : List View) (o : Outline) (number : ℕ) (outlined : slice_get (outlines_of s) number ≡ Some o) (places : List Place) (laid : places ≡ places_of_process s o.process) (unit : ℕ)
    (sites : (block : ℕ) → LeadsHome s.phrases unit block → IsSite s o.process (site_in s places unit block (marks_of s.phrases unit))) where
  -- around phrases of the unit
  abbrev Here : Around → Type 0
  Here a = (a.home ≡ unit) × LeadsHome s.phrases unit a.block

  abbrev n : Numbering
  n = numbering_of (shapes_of s) views o

  abbrev at : ℕ → Site
  at block = site_in s places unit block (marks_of s.phrases unit)

  abbrev P : Instr → Type 0
  P i = Names s views o.process i

  -- behind more code, each instruction of which is so
  pub past_gives : (before middle : List Instr) (r : Emitted) → Adds P before middle → Gives P middle r → Gives P before r
  past_gives before middle (Ok after) added gives = both_add P before middle after added gives
  past_gives before middle (Err place) added gives = tt

  pub mapped_gives : {X : Type 0} (f : X → List Instr) (given : Option X) (before : List Instr) (place : refusals.Place) → ((x : X) → Each P (f x)) → Gives P before (emit before place (option_map f given))
  mapped_gives f None before place each = tt
  mapped_gives f (Some x) before place each = some_more P before (f x) (each x)

  -- receivers
  patched_gives : (before : List Instr) (place : refusals.Place) (chosen : Places) (numbers : List Instr → Emitted) → ((middle : List Instr) → Gives P middle (numbers middle)) → Gives P before (patched_code before place chosen numbers)
  patched_gives before place chosen numbers gives =
      then_gives P before (emit_one before place instr.Peek) (λ middle. onwards (numbers middle) (λ late. patch_code late place chosen)) (one_gives P before place instr.Peek tt)
      (λ middle. then_gives P middle (numbers middle) (λ late. patch_code late place chosen) (gives middle)
      (λ late. then_gives P late (emit_one late place (patches chosen)) (λ last. emit_one last place instr.Keep) (one_gives P late place (patches chosen) tt) (λ last. one_gives P last place instr.Keep tt)))

  stored_gives : (d : List Phrase) (a : Around) (r : Role) (xs : Subscripts) → Here a → AreFirst (gathered_subs d a r xs) s.phrases → (place : refusals.Place) (before : List Instr)
      → Gives P before (stored_code n (at a.block) before place xs)
  unfolding gathered_subs
  stored_gives d a r NoSubscripts home begun place before = one_gives P before place instr.Keep tt
  stored_gives d a r (MoreSubscripts first others) home begun place before =
      if_gives P (is_none others) before (patched_code before place (places_of first) (λ middle. part_code n (at a.block) middle place first)) place
      (patched_gives before place (places_of first) (λ middle. part_code n (at a.block) middle place first)
      (λ middle. part_gives s views o number outlined places laid unit sites d a r first home (then_ (subs_first _ a r others) begun) place middle))

  components_give : (no_arrays : Bool) (d : List Phrase) (a : Around) (xs : Subscripts) → Here a → AreFirst (gathered_subs d a role.ComponentSubscript xs) s.phrases → (place : refusals.Place) (before : List Instr)
      → Gives P before (stored_code n (at a.block) before place (if no_arrays then NoSubscripts else xs))
  components_give true d a xs home begun place before = one_gives P before place instr.Keep tt
  components_give false d a xs home begun place before = stored_gives d a role.ComponentSubscript xs home begun place before

  received_gives : (arrayed : Bool) (d : List Phrase) (a : Around) (x : Subscript) → Here a → AreFirst (gathered_subscript d a x) s.phrases → (place : refusals.Place) (before : List Instr)
      → Gives P before (received_code n (at a.block) before place arrayed x)
  unfolding gathered_subscript
  received_gives false d a (ByName there name) home begun place before =
      patched_gives before place chosen_places.One (λ middle. name_code n (at a.block) middle name) (λ middle. name_gives s views o number outlined places laid unit sites a.block home.1 name middle)
  received_gives false d a (ByInteger there mark m) home begun place before =
      patched_gives before place chosen_places.One (λ middle. integer_code middle place m) (λ middle. integer_gives s views o number outlined places laid unit sites a.block home.1 m middle place)
  received_gives true d a (ByName there name) home begun place before = one_gives P before place instr.Keep tt
  received_gives true d a (ByInteger there mark m) home begun place before = one_gives P before place instr.Keep tt
  received_gives true d a Unsubscripted home begun place before = one_gives P before place instr.Keep tt
  received_gives false d a Unsubscripted home begun place before = one_gives P before place instr.Keep tt
  received_gives true d a (ByParts there copies arrays components) home begun place before =
      components_give (is_none arrays) (gathered_subs (gathered_subs d a role.CopySubscript copies) a role.ArraySubscript arrays) a components home begun place before
  received_gives false d a (ByParts there copies arrays components) home begun place before =
      stored_gives (gathered_subs (gathered_subs d a role.CopySubscript copies) a role.ArraySubscript arrays) a role.ComponentSubscript components home begun place before

  addressed_gives : (d : List Phrase) (a : Around) (r : Role) (p : refusals.Place) (name : List ℕ) (path : List Naming) (x : Subscript) → Here a → AreFirst (gathered_reference d a r (Refers p name path x)) s.phrases
      → (before : List Instr) (led : Option Led) → led_by path (referent (at a.block) name) ≡ led → Gives P before (addressed_code n (at a.block) before p x led)
  unfolding gathered_reference
  addressed_gives d a r p name path x home begun before None leads = tt
  addressed_gives d a r p name path x home begun before (Some l) leads =
      let e : List Phrase = add d a (OfReference r (Refers p name path x)) in
      let says = says_there s views o number outlined places laid unit sites d a (OfReference r (Refers p name path x)) home (then_ (subscript_first e (below d a) x) begun) in
      then_gives P before (chosen_code n (at a.block) before p aims.Cell x l) (λ middle. received_code n (at a.block) middle p (is_arrayed (sizes_led l)) x)
      (chosen_gives s views o number outlined places laid unit sites e (below d a) x home begun aims.Cell l p before (cell_leaf s views o number outlined places laid unit sites x a.block home.1 r p name path l says leads))
      (λ middle. received_gives (is_arrayed (sizes_led l)) e (below d a) x home begun p middle)

  pub receiver_gives : (d : List Phrase) (a : Around) (r : Role) (t : Reference) → Here a → AreFirst (gathered_reference d a r t) s.phrases → (before : List Instr) → Gives P before (receiver_code n (at a.block) before t)
  receiver_gives d a r (Refers p name path x) home begun before = addressed_gives d a r p name path x home begun before (led_by path (referent (at a.block) name)) refl

  pub receivers_give : (d : List Phrase) (a : Around) (r : Role) (ts : List Reference) → Here a → AreFirst (gathered_each (gathered_receiver a r) d ts) s.phrases → (before : List Instr) (place : refusals.Place)
      → Gives P before (receivers_code n (at a.block) before place ts)
  receivers_give d a r [] home begun before place = tt
  receivers_give d a r (t ∷ []) home begun before place = receiver_gives d a r t home begun before
  receivers_give d a r (t ∷ next ∷ others) home begun before place =
      let e : List Phrase = gathered_reference d a r t in
      then_gives P before (receiver_code n (at a.block) (before ++ (instr.Dup ∷ [])) t) (λ middle. receivers_code n (at a.block) middle place (next ∷ others))
      (behind_gives P before (instr.Dup ∷ []) (receiver_code n (at a.block) (before ++ (instr.Dup ∷ [])) t) (tt, tt)
      (receiver_gives d a r t home (then_ (receivers_first a r e (next ∷ others)) begun) (before ++ (instr.Dup ∷ []))))
      (λ middle. receivers_give e a r (next ∷ others) home begun middle place)

  -- CALL
  spots_give : (d : List Phrase) (a : Around) (ts : List Reference) → Here a → AreFirst (gathered_each (gathered_receiver a role.Output) d ts) s.phrases → (callee : ℕ) (names : List Naming)
      → ((name : Naming) (given : Reference) → IsOutput names ts name given → IsPassed (at a.block) callee name given) → (before : List Instr) (place : refusals.Place)
      → Gives P before (spots_code n (at a.block) before place callee names ts)
  unfolding spot_code
  spots_give d a [] home begun callee [] passed before place = none_more P before
  spots_give d a (t ∷ ts) home begun callee (name ∷ names) passed before place =
      let e : List Phrase = gathered_reference d a role.Output t in
      then_gives P before (spot_code n (at a.block) before callee name t) (λ middle. spots_code n (at a.block) middle place callee names ts)
      (area_gives s views o number outlined places laid unit sites d a role.Output t home (then_ (receivers_first a role.Output e ts) begun) callee name (passed name t (inl (refl, refl))) before)
      (λ middle. spots_give e a ts home begun callee names (λ one given is. passed one given (inr is)) middle place)
  spots_give d a [] home begun callee (name ∷ names) passed before place = tt
  spots_give d a (t ∷ ts) home begun callee [] passed before place = tt

  pub procedure_gives : (d : List Phrase) (a : Around) (name : Naming) (arguments : Expressions) (receivers : List Reference) → Here a
      → AreFirst (gathered_each (gathered_receiver (below d a) role.Output) (gathered_all (add d a (OfCall name arguments receivers)) (below d a) role.Input arguments) receivers) s.phrases
      → (before : List Instr) (place : refusals.Place) (r : Referent) → referent (at a.block) name.name ≡ r → Gives P before (procedure_code n (at a.block) before place arguments receivers r)
  procedure_gives d a name arguments receivers home begun before place (BlockOf callee) refers =
      let here : Site = at a.block in
      let e : List Phrase = add d a (OfCall name arguments receivers) in
      let f : List Phrase = gathered_all e (below d a) role.Input arguments in
      let arguments_begun = then_ (receivers_first (below d a) role.Output f receivers) begun in
      let says = says_there s views o number outlined places laid unit sites d a (OfCall name arguments receivers) home (then_ (expressions_first e (below d a) role.Input arguments) arguments_begun) in
      call_gives P before place (passed_to_code n here before place arguments receivers callee) (call_of n here false callee)
      (then_gives P before (arguments_code n here before place callee (inputs_at s callee) arguments) (λ middle. spots_code n here middle place callee (outputs_at s callee) receivers)
      (arguments_give s views o number outlined places laid unit sites e (below d a) role.Input arguments home arguments_begun callee (inputs_at s callee)
      (λ one given is whole. inl (record { arguments = arguments; receivers = receivers; calls = inr (name, says, refers); passed = is; whole = whole })) before place)
      (λ middle. spots_give f (below d a) receivers home begun callee (outputs_at s callee)
      (λ one given is. inr (record { arguments = arguments; receivers = receivers; calls = (name, says, refers); passed = is })) middle place))
      (λ is. call_each s views o number outlined places laid unit a.block (marks_of s.phrases unit) (sites a.block home.1) false callee is)
  procedure_gives d a name arguments receivers home begun before place (DataOf k way shape) refers = tt
  procedure_gives d a name arguments receivers home begun before place (ConstantOf v) refers = tt
  procedure_gives d a name arguments receivers home begun before place (EventOf e) refers = tt
  procedure_gives d a name arguments receivers home begun before place (BuiltinOf b) refers = tt
  procedure_gives d a name arguments receivers home begun before place Unmeant refers = tt

  -- own places of groups
  pub cell_named : (block m k before cell : ℕ) → LeadsHome s.phrases unit block → slice_get (marks_of s.phrases unit) m ≡ Some k → HasPlace (at block) k before → cell_of n (at block) m before ≡ Some cell → NamesCell s views o.process cell
  cell_named block m k before cell leads marked has is =
      let owner = then_is (λ j. place_view n (at block) j before) (slice_get (marks_of s.phrases unit) m) cell is in
      let same : owner.0 ≡ k = (let first = owner.1 in cc) in
      place_named s views o (at block) (sites block leads) k before cell has (subst (λ j. place_view n (at block) j before ≡ Some cell) same owner.2)

  -- those of a DO FOR
  pub record AreNamed (c : Cells) : Type 0 where
    pub last : NamesCell s views o.process c.last
    pub step : NamesCell s views o.process c.step
    pub value : NamesCell s views o.process c.value
    pub begins : NamesCell s views o.process c.begins

  four_named : (block m k w x y z : ℕ) (c : Cells) → LeadsHome s.phrases unit block → slice_get (marks_of s.phrases unit) m ≡ Some k → HasPlace (at block) k w → HasPlace (at block) k x → HasPlace (at block) k y → HasPlace (at block) k z
      → cells_at n (at block) m w x y z ≡ Some c → AreNamed c
  four_named block m k w x y z c leads marked hw hx hy hz is =
      let one = then_is (λ last. option_and_then (λ step. option_and_then (λ value. option_map (λ begins. cells last step value begins) (cell_of n (at block) m z)) (cell_of n (at block) m y)) (cell_of n (at block) m x)) (cell_of n (at block) m w) c is in
      let two = then_is (λ step. option_and_then (λ value. option_map (λ begins. cells one.0 step value begins) (cell_of n (at block) m z)) (cell_of n (at block) m y)) (cell_of n (at block) m x) c one.2 in
      let three = then_is (λ value. option_map (λ begins. cells one.0 two.0 value begins) (cell_of n (at block) m z)) (cell_of n (at block) m y) c two.2 in
      let four = mapped_is (λ begins. cells one.0 two.0 three.0 begins) (cell_of n (at block) m z) c three.2 in
      subst AreNamed four.2 (record {
        last = cell_named block m k w one.0 leads marked hw one.1;
        step = cell_named block m k x two.0 leads marked hx two.1;
        value = cell_named block m k y three.0 leads marked hy three.1;
        begins = cell_named block m k z four.0 leads marked hz four.1;
      })

  pub cells_named : (temporary : Bool) (block m k : ℕ) (c : Cells) → LeadsHome s.phrases unit block → slice_get (marks_of s.phrases unit) m ≡ Some k → ((before : ℕ) → before < (if temporary then 5 else 4) → HasPlace (at block) k before)
      → cells_of n (at block) temporary m ≡ Some c → AreNamed c
  cells_named false block m k c leads marked has is = four_named block m k 0 1 2 3 c leads marked (has 0 (omega arith)) (has 1 (omega arith)) (has 2 (omega arith)) (has 3 (omega arith)) is
  cells_named true block m k c leads marked has is = four_named block m k 1 2 3 4 c leads marked (has 1 (omega arith)) (has 2 (omega arith)) (has 3 (omega arith)) (has 4 (omega arith)) is

  pub case_gives : (before : List Instr) (place : refusals.Place) (cell m size : ℕ) → NamesCell s views o.process cell → Gives P before (case_code before place cell m size)
  case_gives before place cell m size named =
      mapped_gives (case_tests cell (length before + (size + 6))) (below_limit 2147483648 m) before place (λ k. (named, (tt, (tt, (tt, (tt, tt))))))

  pub keeping_adds : (before : List Instr) (cell : ℕ) → NamesCell s views o.process cell → Adds P before (keeping before cell)
  keeping_adds before cell named = some_more P before (instr.Cell cell ∷ instr.Keep ∷ []) (named, (tt, tt))

  pub holding_adds : (before : List Instr) (cell : ℕ) → NamesCell s views o.process cell → Adds P before (holding before cell)
  holding_adds before cell named = some_more P before (instr.Cell cell ∷ instr.Fetch ∷ []) (named, (tt, tt))

  pub bounds_adds : (before : List Instr) (c : Cells) → AreNamed c → Adds P before (bounds_keeping before c)
  bounds_adds before c named =
      both_add P before (keeping before c.step) (bounds_keeping before c) (keeping_adds before c.step named.step)
      (both_add P (keeping before c.step) (keeping (keeping before c.step) c.last) (bounds_keeping before c) (keeping_adds (keeping before c.step) c.last named.last)
      (both_add P (keeping (keeping before c.step) c.last) (keeping (keeping (keeping before c.step) c.last) c.value) (bounds_keeping before c) (keeping_adds (keeping (keeping before c.step) c.last) c.value named.value)
      (holding_adds (keeping (keeping (keeping before c.step) c.last) c.value) c.value named.value)))

  lesser_each : (one other target : ℕ) → NamesCell s views o.process one → NamesCell s views o.process other → Each P (lesser_tests one other target)
  lesser_each one other target first second = (first, (tt, (second, (tt, (tt, (tt, tt))))))

  pub bounding_adds : (before : List Instr) (c : Cells) (exit : ℕ) → AreNamed c → Adds P before (bounding before c exit)
  bounding_adds before c exit named =
      let first = negative_tests c.step (length before + 12) in
      let second = lesser_tests c.value c.last (length before + 19) in
      let third : List Instr = instr.Jump exit ∷ [] in
      let fourth = lesser_tests c.last c.value (length before + 19) in
      both_add P before (before ++ first) (bounding before c exit) (some_more P before first (named.step, (tt, (tt, (tt, (tt, tt))))))
      (both_add P (before ++ first) ((before ++ first) ++ second) (bounding before c exit) (some_more P (before ++ first) second (lesser_each c.value c.last (length before + 19) named.value named.last))
      (both_add P ((before ++ first) ++ second) (((before ++ first) ++ second) ++ third) (bounding before c exit) (some_more P ((before ++ first) ++ second) third (tt, tt))
      (both_add P (((before ++ first) ++ second) ++ third) ((((before ++ first) ++ second) ++ third) ++ fourth) (bounding before c exit)
      (some_more P (((before ++ first) ++ second) ++ third) fourth (lesser_each c.last c.value (length before + 19) named.last named.value))
      (some_more P ((((before ++ first) ++ second) ++ third) ++ fourth) third (tt, tt)))))

  pub counting_adds : (before : List Instr) (c : Cells) (exit : ℕ) → AreNamed c → Adds P before (counting before c exit)
  counting_adds before c exit named =
      let one = holding before c.step in
      let two = holding one c.last in
      let three = nexting two in
      let four = keeping three c.begins in
      let five = keeping four c.value in
      both_add P before one (counting before c exit) (holding_adds before c.step named.step)
      (both_add P one two (counting before c exit) (holding_adds one c.last named.last)
      (both_add P two three (counting before c exit) (some_more P two (instr.Next ∷ instr.Op1 (choice.Known op1.Integer) ∷ []) (tt, (tt, tt)))
      (both_add P three four (counting before c exit) (keeping_adds three c.begins named.begins)
      (both_add P four five (counting before c exit) (keeping_adds four c.value named.value) (some_more P five (case_tests c.begins exit 1) (named.begins, (tt, (tt, (tt, (tt, tt))))))))))

  -- the variable of a DO FOR
  variable_named : (block : ℕ) (leads : LeadsHome s.phrases unit block) (name : List ℕ) (r : Referent) (i : Instr) → referent (at block) name ≡ r → variable_of n (at block) r ≡ Some i → P i
  variable_named block leads name (DataOf k way shape) i refers is = element_named s views o (at block) (sites block leads) name [] k way shape i refers is
  variable_named block leads name (ConstantOf v) i refers is = absurd (cc)
  variable_named block leads name (EventOf e) i refers is = absurd (cc)
  variable_named block leads name (BlockOf callee) i refers is = absurd (cc)
  variable_named block leads name (BuiltinOf b) i refers is = absurd (cc)
  variable_named block leads name Unmeant i refers is = absurd (cc)

  pub store_gives : (block : ℕ) (leads : LeadsHome s.phrases unit block) (before : List Instr) (place : refusals.Place) (name : List ℕ) → Gives P before (store_code n (at block) before place name)
  store_gives block leads before place name =
      emit_gives P before place (option_map (λ i. i ∷ instr.Keep ∷ []) (variable_of n (at block) (referent (at block) name)))
      (λ is given. let one = mapped_is (λ i. i ∷ instr.Keep ∷ []) (variable_of n (at block) (referent (at block) name)) is given in
      subst (λ l. Each P l) one.2 (variable_named block leads name (referent (at block) name) one.0 refl one.1, (tt, tt)))

  pub fetch_gives : (block : ℕ) (leads : LeadsHome s.phrases unit block) (before : List Instr) (place : refusals.Place) (name : List ℕ) → Gives P before (fetch_code n (at block) before place name)
  fetch_gives block leads before place name =
      emit_gives P before place (option_map (λ i. i ∷ instr.Fetch ∷ []) (variable_of n (at block) (referent (at block) name)))
      (λ is given. let one = mapped_is (λ i. i ∷ instr.Fetch ∷ []) (variable_of n (at block) (referent (at block) name)) is given in
      subst (λ l. Each P l) one.2 (variable_named block leads name (referent (at block) name) one.0 refl one.1, (tt, tt)))

  -- RETURN, events and processes
  pub return_gives : (leaving : Leaving) (before : List Instr) (place : refusals.Place) → Gives P before (emit before place (return_of leaving))
  return_gives (ToFinish spot) before place = some_more P before (instr.Jump spot ∷ []) (tt, tt)
  return_gives ByReturn before place = some_more P before (instr.Return ∷ []) (tt, tt)
  return_gives ByResult before place = tt
  return_gives NoReturn before place = tt

  text_each : (text : Bool) → Each P (text_result text)
  text_each true = (tt, tt)
  text_each false = tt

  as_each : (body : Option Body) → Each P (as_result body)
  as_each None = tt
  as_each (Some b) = text_each (gives_text b.head)

  pub result_gives : (leaving : Leaving) (body : Option Body) (before : List Instr) (place : refusals.Place) → Gives P before (emit before place (result_of leaving body))
  result_gives ByResult body before place = some_more P before (as_result body ++ (instr.Return ∷ [])) (each_append P (as_result body) (instr.Return ∷ []) (as_each body) (tt, tt))
  result_gives (ToFinish spot) body before place = tt
  result_gives ByReturn body before place = tt
  result_gives NoReturn body before place = tt

  pub change_plain : (action : EventAction) (e : ℕ) → P (changes action e)
  change_plain Signal e = tt
  change_plain Setting e = tt
  change_plain Reset e = tt

  asked_each : (here : Site) (asks : ℕ → Instr) → ((p : ℕ) → P (asks p)) → (names : List Naming) (is : List Instr) → each_of here asks names ≡ Some is → Each P is
  asked_each here asks plain [] is given = subst (λ l. Each P l) (let same : [] ≡ is = cc in same) tt
  asked_each here asks plain (name ∷ names) is given =
      let first = then_is (λ p. option_map (λ js. asks p ∷ js) (each_of here asks names)) (named_process here name) is given in
      let rest = mapped_is (λ js. asks first.0 ∷ js) (each_of here asks names) is first.2 in
      subst (λ l. Each P l) rest.2 (plain first.0, asked_each here asks plain names rest.0 rest.1)

  pub asked_gives : (here : Site) (asks : ℕ → Instr) → ((p : ℕ) → P (asks p)) → (names : List Naming) (before : List Instr) (place : refusals.Place) → Gives P before (emit before place (named_or_own_of here asks names))
  asked_gives here asks plain [] before place = some_more P before (asks 255 ∷ []) (plain 255, tt)
  asked_gives here asks plain (name ∷ names) before place = emit_gives P before place (each_of here asks (name ∷ names)) (asked_each here asks plain (name ∷ names))
