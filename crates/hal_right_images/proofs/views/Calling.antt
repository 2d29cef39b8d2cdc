-- The code of values and calls names views that are for them.
use Rattle.std.specs.Prelude.{◌≡◌, ◌+◌, ◌==◌, ℕ, nat_le, pos, length, Bool, true, false, List, [], ◌∷◌, ◌++◌, Option, Some, None, slice_get, if◌then◌else◌}
use Rattle.std.specs.List.{position}
use Rattle.std.specs.Option.{option_and_then, option_map}
use Rattle.std.proofs.Common.{refl, sym, ap, subst, ◌∙◌, inl, inr}
use Rattle.std.proofs.lemmas.Bool.{eqb-true}
use Rattle.hal_grammar.specs.Leaves.{Naming, LiteralValue, Integer, Text}
use Rattle.hal_grammar.specs.Expressions.{Expression, Literal}
use Rattle.hal_scope.specs.declared.builtin.Builtin.{Builtin}
use Rattle.hal_scope.specs.declared.builtin.Builtin.TheVariants as builtin
use Rattle.hal_scope.specs.Rules.{IsAmong}
use Rattle.hal_values.specs.declared.value.Value.{Value}
use Rattle.hal_values.specs.declared.value.Value.TheVariants as value
use Rattle.hal_code.specs.declared.instr.Instr.{Instr}
use Rattle.hal_code.specs.declared.instr.Instr.TheVariants as instr
use Rattle.hal_code.specs.declared.row.Base.TheVariants as base
use Rattle.hal_code.specs.declared.row.View.{View}
use Rattle.hal_meaning.specs.Bodies.{Body}
use Rattle.hal_meaning.specs.Calls.{parameter_named, inputs_of, outputs_of, is_function}
use Rattle.hal_meaning.specs.Expressions.{inputs_at, literal_value}
use Rattle.hal_meaning.specs.Places.{Place, InPlaces}
use Rattle.hal_meaning.specs.ReportNames.{first_place}
use Rattle.hal_meaning.specs.Runs.{places_of_process}
use Rattle.hal_meaning.specs.Sets.{Set, body_at}
use Rattle.hal_meaning.specs.Variables.{kind_of_first, is_whole}
use Rattle.hal_agreement.specs.PlacedExpressions.{pushes}
use Rattle.hal_agreement.specs.Sites.{Site, within_block}
use Rattle.hal_storage.specs.referents.Referents.{Referent, DataOf, ConstantOf, EventOf, BlockOf, BuiltinOf, Unmeant}
use Rattle.hal_gen_expr.specs.ExpressionCode.{integer_instr, literal_instr, exponent_instr, raised_to}
use Rattle.hal_gen_expr.specs.Leaves.{is_nil, address_of, element_of, alone_of, behind_of, bound_of, binds_of, kept_of, copied_of, stored_of, parameters_of, same_form, passed_to, call_with, call_to, call_of, value_of}
use Rattle.hal_gen_expr.specs.Numbering.{Numbering, below, most, view_number, block_number}
use Rattle.hal_gen_expr.specs.Referents.{referent}
use Rattle.hal_gen_expr.proofs.Numbered.{mapped_is, then_is, first_is, given_is}
use Rattle.hal_fit_expr.proofs.Given.{number_same}
use Rattle.hal_fit_calls.specs.Each.{Each}
use Rattle.hal_fit_calls.proofs.Each.{each_append}
use Rattle.hal_link.specs.Linking.{process_site}
use Rattle.hal_link.specs.Outlines.{Outline, outlines_of, numbering_of}
use Rattle.hal_link.specs.Shapes.{shapes_of}
use Rattle.hal_right_images.specs.rows.Homes.{AtHome}
use Rattle.hal_right_images.specs.rows.Purposes.{CallsUnit, IsSite}
use Rattle.hal_right_images.specs.views.Naming.{Names}
use Rattle.hal_right_images.proofs.views.Leaves.{address_named, element_named}

-- a site of a unit in a process with these places
abbrev pub site_in : Set → List Place → ℕ → ℕ → List ℕ → Site
site_in s places unit block marks = record { set = s; places = places; unit = unit; block = block; marks = marks }

module _ (s : Set) (views : List View) (o : Outline) (number : ℕ) (outlined : slice_get (outlines_of s) number ≡ Some o) (places : List Place) (laid : places ≡ places_of_process s o.process) (unit block : ℕ) (marks : List ℕ)
    (at : IsSite s o.process (site_in s places unit block marks)) where
  abbrev n : Numbering
  n = numbering_of (shapes_of s) views o

  abbrev site : Site
  site = site_in s places unit block marks

  abbrev P : Instr → Type 0
  P i = Names s views o.process i

  -- values
  pub value_plain : (v : Value) → P (pushes v)
  value_plain (value.Int a) = tt
  value_plain (value.Bits len word) = tt
  value_plain (value.Text text) = tt

  pub integer_plain : (number : ℕ) (i : Instr) → integer_instr number ≡ Some i → P i
  integer_plain number i = by (nat_le number 2147483647) where
    by : (b : Bool) → (if b then Some (instr.Int (pos number)) else None) ≡ Some i → P i
    by true is = subst P (let same : instr.Int (pos number) ≡ i = cc in same) tt
    by false is = absurd (cc)

  pub literal_plain : (literal : LiteralValue) (i : Instr) → literal_instr literal ≡ Some i → P i
  literal_plain (Integer number) i is = integer_plain number i is
  literal_plain (Text text) i is = by (nat_le (length text) 255) is where
    by : (b : Bool) → (if b then Some (instr.Text text) else None) ≡ Some i → P i
    by true is = subst P (let same : instr.Text text ≡ i = cc in same) tt
    by false is = absurd (cc)
  literal_plain other i is = subst P (let same : pushes (literal_value other) ≡ i = cc in same) (value_plain (literal_value other))

  raised_plain : (literal : LiteralValue) (i : Instr) → raised_to literal ≡ Some i → P i
  raised_plain (Integer number) i is = integer_plain number i is
  raised_plain (Text text) i is = by (nat_le (length text) 255) is where
    by : (b : Bool) → (if b then Some (instr.Int (pos 0)) else None) ≡ Some i → P i
    by true is = subst P (let same : instr.Int (pos 0) ≡ i = cc in same) tt
    by false is = absurd (cc)
  raised_plain other i is = subst P (let same : instr.Int (pos 0) ≡ i = cc in same) tt

  pub exponent_plain : (tree : Expression) (i : Instr) → exponent_instr tree ≡ Some i → P i
  exponent_plain (Literal place literal) i is = raised_plain literal i is
  exponent_plain other i is = subst P (let same : instr.Int (pos 0) ≡ i = cc in same) tt

  alone_plain : (b : Builtin) (i : Instr) → alone_of b ≡ Some i → P i
  alone_plain builtin.Errgrp i is = subst P (let same : instr.ErrGrp ≡ i = cc in same) tt
  alone_plain builtin.Errnum i is = subst P (let same : instr.ErrNum ≡ i = cc in same) tt
  alone_plain builtin.Runtime i is = subst P (let same : instr.Now ≡ i = cc in same) tt
  alone_plain other i is = absurd (cc)

  -- the site of a unit that is called, with the same places
  module _ (callee : ℕ) (body : Body) (found : body_at s callee ≡ Some body) (calls : CallsUnit s o.process callee) where
    abbrev inner : Site
    inner = within_block body.number (process_site s o.process body)

    inner_site : IsSite s o.process inner
    inner_site = record { unit = callee; body = body; found = found; stands = inr calls; block = body.number; leads = AtHome; is = refl }

    -- the store of an argument
    kept_each : (name : Naming) (is : List Instr) → IsAmong name (inputs_at s body.number) → kept_of n site (parameter_named s body.number name) ≡ Some is → Each P is
    kept_each name is named given =
        let p = parameter_named s body.number name in
        let same : address_of n site [] p.number InPlaces 0 (kind_of_first p.shape.components) ≡ address_of n inner [] p.number InPlaces 0 (kind_of_first p.shape.components) =
        ap (λ (ps : List Place). option_and_then (λ b. option_map instr.Cell (view_number n [] (kind_of_first p.shape.components) b)) (option_map base.Own (below most (first_place ps p.number + 0)))) laid in
        let one = mapped_is (λ i. i ∷ instr.Keep ∷ []) (address_of n site [] p.number InPlaces 0 (kind_of_first p.shape.components)) is given in
        let own = address_named s views o inner inner_site [] p.number InPlaces 0 (kind_of_first p.shape.components) one.0 (sym same ∙ one.1)
        (λ from begins. inr (inr (record { name = name; named = named; plain = refl; kind = refl; begins = begins }))) in
        subst (λ l. Each P l) one.2 (own, (tt, tt))

    stored_each : (name : Naming) (is : List Instr) → IsAmong name (inputs_at s body.number) → stored_of n site (parameter_named s body.number name) ≡ Some is → Each P is
    stored_each name is named = by (is_whole (parameter_named s body.number name).shape) where
      by : (b : Bool) → (if b then copied_of site (parameter_named s body.number name) else kept_of n site (parameter_named s body.number name)) ≡ Some is → Each P is
      by true given =
          let one = mapped_is (λ place. instr.Copy place ∷ []) (below most (first_place site.places (parameter_named s body.number name).number)) is given in
          subst (λ l. Each P l) one.2 (tt, tt)
      by false given = kept_each name is named given

    behind_each : (first second : Option (List Instr)) (is : List Instr) → behind_of first second ≡ Some is → ((js : List Instr) → first ≡ Some js → Each P js) → ((js : List Instr) → second ≡ Some js → Each P js) → Each P is
    behind_each first second is given one other =
        let front = then_is (λ js. option_map (λ ks. js ++ ks) second) first is given in
        let back = mapped_is (λ ks. front.0 ++ ks) second is front.2 in
        subst (λ l. Each P l) back.2 (each_append P front.0 back.0 (one front.0 front.1) (other back.0 back.1))

    binds_each : (names : List Naming) (is : List Instr) → binds_of site body.number names ≡ Some is → Each P is
    binds_each [] is given = subst (λ l. Each P l) (let same : [] ≡ is = cc in same) tt
    binds_each (name ∷ names) is given =
        behind_each (binds_of site body.number names) (bound_of site (parameter_named s body.number name)) is given (binds_each names)
        (λ js bound. let one = mapped_is (λ place. instr.Bind place ∷ []) (below most (first_place site.places (parameter_named s body.number name).number)) js bound in subst (λ l. Each P l) one.2 (tt, tt))

    parameters_each : (names : List Naming) (is : List Instr) → ((name : Naming) → IsAmong name names → IsAmong name (inputs_at s body.number)) → parameters_of n site body.number names ≡ Some is → Each P is
    parameters_each [] is named given = subst (λ l. Each P l) (let same : [] ≡ is = cc in same) tt
    parameters_each (name ∷ names) is named given =
        behind_each (parameters_of n site body.number names) (stored_of n site (parameter_named s body.number name)) is given (λ js. parameters_each names js (λ one is. named one (inr is)))
        (λ js. stored_each name js (named name (inl refl)))

    inputs_here : (name : Naming) → IsAmong name (inputs_of body.head) → IsAmong name (inputs_at s body.number)
    inputs_here name is =
        subst (λ (m : ℕ). IsAmong name (inputs_at s m)) (sym (number_same s callee body found)) (subst (λ (b : Option Body). IsAmong name (elim b [ None ↦ [] | Some x ↦ inputs_of x.head ])) (sym found) is)

    passed_each : (is : List Instr) → passed_to n site body ≡ Some is → Each P is
    passed_each is given =
        behind_each (binds_of site body.number (outputs_of body.head)) (parameters_of n site body.number (inputs_of body.head)) is given (binds_each (outputs_of body.head))
        (λ js. parameters_each (inputs_of body.head) js inputs_here)

    with_each : (called : ℕ) (is : List Instr) → call_with n site body called ≡ Some is → Each P is
    with_each called is given =
        let one = mapped_is (λ js. js ++ (instr.Call called ∷ [])) (passed_to n site body) is given in
        subst (λ l. Each P l) one.2 (each_append P one.0 (instr.Call called ∷ []) (passed_each one.0 one.1) (tt, tt))

  -- a unit whose block has a number is one that the process calls
  calls_it : (callee called : ℕ) → block_number n callee ≡ Some called → CallsUnit s o.process callee
  calls_it callee called is =
      let place = then_is (λ k. below most (n.first + k)) (position (λ one. one == callee) o.called) called is in
      let one = first_is (λ one. one == callee) o.called place.0 place.1 in
      record { number = number; outline = o; there = outlined; its = refl; place = place.0; called = one.1 ∙ ap Some (eqb-true one.0 callee one.2) }

  pub call_each : (function : Bool) (callee : ℕ) (is : List Instr) → call_of n site function callee ≡ Some is → Each P is
  call_each function callee is given =
      let body = then_is (call_to n site function callee) (body_at s callee) is given in
      let formed = given_is (same_form function (is_function body.0.head)) (option_and_then (call_with n site body.0) (block_number n callee)) is body.2 in
      let called = then_is (call_with n site body.0) (block_number n callee) is formed.1 in
      with_each callee body.0 body.1 (calls_it callee called.0 called.1) called.0 is called.2

  -- the value of what a name refers to
  pub value_each : (name : List ℕ) (path : List Naming) (r : Referent) (is : List Instr) → referent site name ≡ r → value_of n site path r ≡ Some is → Each P is
  value_each name path (DataOf k way shape) is refers given =
      let one = mapped_is (λ i. i ∷ instr.Fetch ∷ []) (element_of n site path k way shape) is given in
      subst (λ l. Each P l) one.2 (element_named s views o site at name path k way shape one.0 refers one.1, (tt, tt))
  value_each name path (ConstantOf v) is refers given = subst (λ l. Each P l) (let same : pushes v ∷ [] ≡ is = cc in same) (value_plain v, tt)
  value_each name path (EventOf e) is refers given = let one = mapped_is (λ m. instr.Event m ∷ []) (below 65536 e) is given in subst (λ l. Each P l) one.2 (tt, tt)
  value_each name path (BlockOf callee) is refers given = call_each true callee is (given_is (is_nil (inputs_at s callee)) (call_of n site true callee) is given).1
  value_each name path (BuiltinOf b) is refers given = let one = mapped_is (λ i. i ∷ []) (alone_of b) is given in subst (λ l. Each P l) one.2 (alone_plain b one.0 one.1, tt)
  value_each name path Unmeant is refers given = absurd (cc)
