-- The code of names stands where it was put.
use Rattle.std.specs.Prelude.{◌≡◌, ℕ, suc, ◌+◌, Bool, true, false, not, ◌&&◌, List, [], ◌∷◌, ◌++◌, length, Option, Some, None, if◌then◌else◌}
use Rattle.std.specs.Option.{option_map, option_and_then, is_some}
use Rattle.std.proofs.Common.{refl, sym, ap, subst, ◌∙◌, append-nil, arith}
use Rattle.hal_grammar.specs.Leaves.{Naming}
use Rattle.hal_scope.specs.declared.builtin.Builtin.{Builtin}
use Rattle.hal_scope.specs.declared.builtin.Builtin.TheVariants as builtin
use Rattle.hal_states.specs.Spots.{Own, Held, further}
use Rattle.hal_meaning.specs.Calls.{Parameter, parameter_named, inputs_of, outputs_of, is_function}
use Rattle.hal_meaning.specs.Elements.{Shape, chosen, offset}
use Rattle.hal_meaning.specs.Expressions.{inputs_at}
use Rattle.hal_meaning.specs.Places.{Storing, InPlaces}
use Rattle.hal_meaning.specs.ReportNames.{first_place}
use Rattle.hal_meaning.specs.Sets.{body_at}
use Rattle.hal_meaning.specs.Variables.{kind_of_first, is_whole, spot_of}
use Rattle.hal_code.specs.declared.instr.Instr.{Instr}
use Rattle.hal_code.specs.declared.instr.Instr.TheVariants as instr
use Rattle.hal_agreement.specs.Codes.{Code}
use Rattle.hal_agreement.specs.PlacedExpressions.{Has, One, pushes, AddressAt, AloneAt, BoundAt, EitherAt, ParametersAt, CallAt, ValueAt}
use Rattle.hal_agreement.specs.Sites.{Site, here_at}
use Rattle.hal_gen_expr.specs.Numbering.{Numbering, below, most, block_number}
use Rattle.hal_gen_expr.specs.Leaves.{is_nil, is_one, address_of, element_of, alone_of, behind_of, bound_of, binds_of, kept_of, copied_of, stored_of, parameters_of, same_form, passed_to, call_with, call_to, call_of, value_of}
use Rattle.hal_storage.specs.referents.Referents.{Referent, DataOf, ConstantOf, EventOf, BlockOf, BuiltinOf, Unmeant}
use Rattle.hal_gen_expr.specs.Standing.{Begins, IsNumbered, Placed}
use Rattle.hal_gen_expr.proofs.Growing.{append_append, one_by_one, one_placed, none_placed, first_placed}
use Rattle.hal_gen_expr.proofs.Numbered.{below_is, mapped_is, then_is, given_is, address_at}
use Rattle.hal_gen_expr.proofs.Referring.{meaning_of}

pub nil_is : {X : Type 0} (xs : List X) → is_nil xs ≡ true → xs ≡ []
nil_is [] is = refl
nil_is (x ∷ xs) is = absurd (cc)

form_is : (function b : Bool) → same_form function b ≡ true → b ≡ function
form_is true b is = is
form_is false true is = absurd (cc)
form_is false false is = refl

behind_none : (m : ℕ) → m + 0 ≡ m
behind_none m = omega arith

module _ (code : Code) (n : Numbering) (site : Site) (numbered : IsNumbered code n) where
  -- two instructions
  pub two_placed : (before after : List Instr) (i j : Instr) → before ++ (i ∷ j ∷ []) ≡ after → Begins after code.image.code
      → Placed code before after (λ from to. Has code from i × One code (suc from) j to)
  two_placed before after i j is begins =
      first_placed code before after i (one_placed code (before ++ (i ∷ [])) after j (sym (one_by_one before i (j ∷ [])) ∙ is) begins)

  -- an address that is given for one element
  pub element_at : (path : List Naming) (k : ℕ) (stored : Storing) (shape : Shape) (i : Instr) (from : ℕ) (held : List Held) → element_of n site path k stored shape ≡ Some i → Has code from i
      → AddressAt code held (kind_of_first (chosen path shape.components)) (further (offset path shape.components) (spot_of (here_at site) held k stored)) from
  element_at path k stored shape i from held is has =
      address_at code n site numbered k stored (offset path shape.components) (kind_of_first (chosen path shape.components)) i from held
      (given_is (not (is_some shape.copies) && is_one (chosen path shape.components)) (address_of n site [] k stored (offset path shape.components) (kind_of_first (chosen path shape.components))) i is).1 has

  alone_at : (b : Builtin) (i : Instr) (from to : ℕ) → alone_of b ≡ Some i → One code from i to → AloneAt code b from to
  alone_at builtin.Errgrp i from to is one = subst (λ j. One code from j to) (let same : i ≡ instr.ErrGrp = cc in same) one
  alone_at builtin.Errnum i from to is one = subst (λ j. One code from j to) (let same : i ≡ instr.ErrNum = cc in same) one
  alone_at builtin.Runtime i from to is one = subst (λ j. One code from j to) (let same : i ≡ instr.Now = cc in same) one
  alone_at other i from to is one = absurd (cc)

  -- one behind the other
  parts_of : (first second : Option (List Instr)) (is : List Instr) → behind_of first second ≡ Some is
      → (js : List Instr) × (ks : List Instr) × (first ≡ Some js) × (second ≡ Some ks) × (js ++ ks ≡ is)
  parts_of first second is given =
      let early = then_is (λ js. option_map (λ ks. js ++ ks) second) first is given in
      let late = mapped_is (λ ks. early.0 ++ ks) second is early.2 in
      (early.0, late.0, early.1, late.1, late.2)

  late_is : (before js ks is after : List Instr) → js ++ ks ≡ is → before ++ is ≡ after → (before ++ js) ++ ks ≡ after
  late_is before js ks is after same grown = append_append before js ks ∙ (ap (λ l. before ++ l) same ∙ grown)

  -- an own place that an instruction names
  named_placed : (names : ℕ → Instr) (place : ℕ) (before after is : List Instr) → option_map (λ m. names m ∷ []) (below most place) ≡ Some is → before ++ is ≡ after → Begins after code.image.code
      → Placed code before after (λ from to. One code from (names place) to)
  named_placed names place before after is given grown begins =
      let low = mapped_is (λ m. names m ∷ []) (below most place) is given in
      one_placed code before after (names place) (ap (λ l. before ++ l) (ap (λ m. names m ∷ []) (below_is most place low.0 low.1) ∙ low.2) ∙ grown) begins

  -- the references of ASSIGN parameters
  bound_placed : (unit : ℕ) (names : List Naming) (before after is : List Instr) → binds_of site unit names ≡ Some is → before ++ is ≡ after → Begins after code.image.code
      → Placed code before after (λ from to. BoundAt code site unit names from to)
  bound_placed unit [] before after is given grown begins = none_placed code before after (sym (append-nil before) ∙ (ap (λ l. before ++ l) (let none : [] ≡ is = cc in none) ∙ grown)) begins
  bound_placed unit (name ∷ names) before after is given grown begins =
      let parts = parts_of (binds_of site unit names) (bound_of site (parameter_named site.set unit name)) is given in
      let late = named_placed instr.Bind (first_place site.places (parameter_named site.set unit name).number) (before ++ parts.0) after parts.1 parts.3 (late_is before parts.0 parts.1 is after parts.4 grown) begins in
      let early = bound_placed unit names before (before ++ parts.0) parts.0 parts.2 refl late.begins
      in record { at = (length (before ++ parts.0), early.at, late.at); begins = early.begins }

  -- the store of a parameter
  kept_placed : (p : Parameter) (before after is : List Instr) → kept_of n site p ≡ Some is → before ++ is ≡ after → Begins after code.image.code
      → Placed code before after (λ from to. ((held : List Held) → AddressAt code held (kind_of_first p.shape.components) (Own (first_place site.places p.number)) from) × One code (suc from) instr.Keep to)
  kept_placed p before after is given grown begins =
      let address = mapped_is (λ i. i ∷ instr.Keep ∷ []) (address_of n site [] p.number InPlaces 0 (kind_of_first p.shape.components)) is given in
      let there = two_placed before after address.0 instr.Keep (ap (λ l. before ++ l) address.2 ∙ grown) begins
      in record {
        at = (
          (λ held.
              subst (λ m. AddressAt code held (kind_of_first p.shape.components) (Own m) (length before)) (behind_none (first_place site.places p.number))
              (address_at code n site numbered p.number InPlaces 0 (kind_of_first p.shape.components) address.0 (length before) held address.1 there.at.0)),
          there.at.1,
        );
        begins = there.begins;
      }

  stored_by : (b : Bool) (p : Parameter) (before after is : List Instr) → (if b then copied_of site p else kept_of n site p) ≡ Some is → before ++ is ≡ after → Begins after code.image.code
      → Placed code before after (λ from to. EitherAt b (λ begin end. One code begin (instr.Copy (first_place site.places p.number)) end)
      (λ begin end. ((held : List Held) → AddressAt code held (kind_of_first p.shape.components) (Own (first_place site.places p.number)) begin) × One code (suc begin) instr.Keep end) from to)
  stored_by true p before after is given grown begins = named_placed instr.Copy (first_place site.places p.number) before after is given grown begins
  stored_by false p before after is given grown begins = kept_placed p before after is given grown begins

  -- those of parameters
  parameters_placed : (unit : ℕ) (names : List Naming) (before after is : List Instr) → parameters_of n site unit names ≡ Some is → before ++ is ≡ after → Begins after code.image.code
      → Placed code before after (λ from to. ParametersAt code site unit names from to)
  parameters_placed unit [] before after is given grown begins = none_placed code before after (sym (append-nil before) ∙ (ap (λ l. before ++ l) (let none : [] ≡ is = cc in none) ∙ grown)) begins
  parameters_placed unit (name ∷ names) before after is given grown begins =
      let parts = parts_of (parameters_of n site unit names) (stored_of n site (parameter_named site.set unit name)) is given in
      let late = stored_by (is_whole (parameter_named site.set unit name).shape) (parameter_named site.set unit name) (before ++ parts.0) after parts.1 parts.3 (late_is before parts.0 parts.1 is after parts.4 grown) begins in
      let early = parameters_placed unit names before (before ++ parts.0) parts.0 parts.2 refl late.begins
      in record { at = (length (before ++ parts.0), early.at, late.at); begins = early.begins }

  -- a call behind its arguments
  pub call_placed : (function : Bool) (unit : ℕ) (before after is : List Instr) → call_of n site function unit ≡ Some is → before ++ is ≡ after → Begins after code.image.code
      → Placed code before after (λ from to. CallAt code site unit function from to)
  call_placed function unit before after is given grown begins =
      let body = then_is (call_to n site function unit) (body_at site.set unit) is given in
      let fits = given_is (same_form function (is_function body.0.head)) (option_and_then (call_with n site body.0) (block_number n unit)) is body.2 in
      let block = then_is (call_with n site body.0) (block_number n unit) is fits.1 in
      let passed = mapped_is (λ js. js ++ (instr.Call block.0 ∷ [])) (passed_to n site body.0) is block.2 in
      let parts = parts_of (binds_of site body.0.number (outputs_of body.0.head)) (parameters_of n site body.0.number (inputs_of body.0.head)) passed.0 passed.1 in
      let late = one_placed code (before ++ passed.0) after (instr.Call block.0) (late_is before passed.0 (instr.Call block.0 ∷ []) is after passed.2 grown) begins in
      let stores = parameters_placed body.0.number (inputs_of body.0.head) (before ++ parts.0) (before ++ passed.0) parts.1 parts.3 (late_is before parts.0 parts.1 passed.0 (before ++ passed.0) parts.4 refl) late.begins in
      let early = bound_placed body.0.number (outputs_of body.0.head) before (before ++ parts.0) parts.0 parts.2 refl stores.begins in
      let row = numbered.blocks unit block.0 block.1
      in record {
        at = record {
          number = block.0;
          body = body.0;
          row = row.1;
          named = row.0;
          found = body.1;
          block = row.2;
          gives = form_is function (is_function body.0.head) fits.0;
          bound = length (before ++ parts.0);
          middle = length (before ++ passed.0);
          references = early.at;
          parameters = stores.at;
          call = late.at;
        };
        begins = early.begins;
      }

  -- the value of what is referred to, whatever the own places hold
  pub value_placed : (path : List Naming) (r : Referent) (before after is : List Instr) → value_of n site path r ≡ Some is → before ++ is ≡ after → Begins after code.image.code
      → Placed code before after (λ from to. (held : List Held) → ValueAt code site path held (meaning_of site held r) from to)
  value_placed path (DataOf k stored shape) before after is given grown begins =
      let address = mapped_is (λ i. i ∷ instr.Fetch ∷ []) (element_of n site path k stored shape) is given in
      let there = two_placed before after address.0 instr.Fetch (ap (λ l. before ++ l) address.2 ∙ grown) begins
      in record { at = λ held. (element_at path k stored shape address.0 (length before) held address.1 there.at.0, there.at.1); begins = there.begins }
  value_placed path (ConstantOf v) before after is given grown begins =
      let there = one_placed code before after (pushes v) (ap (λ l. before ++ l) (let same : (pushes v ∷ []) ≡ is = cc in same) ∙ grown) begins in record { at = λ held. there.at; begins = there.begins }
  value_placed path (EventOf e) before after is given grown begins =
      let low = mapped_is (λ number. instr.Event number ∷ []) (below 65536 e) is given in
      let there = one_placed code before after (instr.Event e)
      (ap (λ l. before ++ l) (ap (λ m. instr.Event m ∷ []) (below_is 65536 e low.0 low.1) ∙ low.2) ∙ grown) begins
      in record { at = λ held. there.at; begins = there.begins }
  value_placed path (BlockOf unit) before after is given grown begins =
      let alone = given_is (is_nil (inputs_at site.set unit)) (call_of n site true unit) is given in
      let there = call_placed true unit before after is alone.1 grown begins
      in record { at = λ held. (nil_is (inputs_at site.set unit) alone.0, there.at); begins = there.begins }
  value_placed path (BuiltinOf b) before after is given grown begins =
      let alone = mapped_is (λ i. i ∷ []) (alone_of b) is given in
      let there = one_placed code before after alone.0 (ap (λ l. before ++ l) alone.2 ∙ grown) begins
      in record { at = λ held. alone_at b alone.0 (length before) (length after) alone.1 there.at; begins = there.begins }
  value_placed path Unmeant before after is given grown begins = absurd (cc)
