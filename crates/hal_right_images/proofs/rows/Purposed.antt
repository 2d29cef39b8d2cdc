-- Each view of a set has a purpose.
use Rattle.std.specs.Prelude.{◌≡◌, ◌<◌, ◌⊎◌, ℕ, zero, suc, ◌+◌, ◌==◌, Bool, true, false, List, [], ◌∷◌, ◌++◌, map, Option, Some, None, slice_get, if◌then◌else◌}
use Rattle.std.specs.List.{list_any}
use Rattle.std.specs.Option.{is_some}
use Rattle.std.proofs.Common.{refl, sym, ap, subst, ◌∙◌, inl, inr, arith}
use Rattle.std.proofs.lemmas.Bool.{eqb-true}
use Rattle.hal_base.specs.declared.refusal.Place.{Place}
use Rattle.hal_grammar.specs.Leaves.{Naming}
use Rattle.hal_grammar.specs.Expressions.{Expression, Referred, Expressions, NoExpressions, MoreExpressions, Reference, Refers, Subscript}
use Rattle.hal_phrases.specs.declared.role.Role.{Role}
use Rattle.hal_phrases.specs.declared.role.Role.TheVariants as role
use Rattle.hal_phrases.specs.Phrases.{Node, Phrase, OfReference, OfSubscriptName, OfCallForm, OfExpression, OfVariable, OfTemporaryGroup, OfCall}
use Rattle.hal_values.specs.declared.value.Kind.{Kind}
use Rattle.hal_values.specs.declared.value.Kind.TheVariants as kind
use Rattle.hal_code.specs.declared.row.Base.{Base}
use Rattle.hal_code.specs.declared.row.Dimension.{Dimension}
use Rattle.hal_code.specs.declared.row.Run.{Run}
use Rattle.hal_code.specs.declared.row.View.{View}
use Rattle.hal_meaning.specs.Bodies.{Body, processes_of}
use Rattle.hal_meaning.specs.Calls.{Parameter, parameter_named, inputs_of}
use Rattle.hal_meaning.specs.Elements.{Shape}
use Rattle.hal_meaning.specs.Expressions.{inputs_at, outputs_at}
use Rattle.hal_meaning.specs.Places.{Storing, InPlaces, says_for_or_case}
use Rattle.hal_meaning.specs.Sets.{Set, body_at}
use Rattle.hal_meaning.specs.Variables.{kind_of_first, is_whole}
use Rattle.hal_agreement.specs.Sites.{Site, within_block}
use Rattle.hal_storage.specs.referents.Referents.{Referent, DataOf, ConstantOf, EventOf, BlockOf, BuiltinOf, Unmeant}
use Rattle.hal_gen_expr.specs.declared.elements.Element.{Element}
use Rattle.hal_gen_expr.specs.Elements.{element_in}
use Rattle.hal_gen_expr.specs.ExpressionCode.{is_plain}
use Rattle.hal_gen_expr.specs.Led.{Led, led_by, rows_left, first_chosen}
use Rattle.hal_gen_expr.specs.Numbering.{base_of, row_of, cell_view, is_cell_view, area_view, is_area_view, shape_in}
use Rattle.hal_gen_expr.specs.Referents.{referent}
use Rattle.hal_gen_expr.specs.Shapes.{runs_of}
use Rattle.hal_link.specs.CalledViews.{with_parameter, with_parameters, with_called, with_all_called, with_outlines}
use Rattle.hal_link.specs.CalledViews as called
use Rattle.hal_link.specs.Linking.{process_site}
use Rattle.hal_link.specs.Outlines.{Outline, outlines_of}
use Rattle.hal_link.specs.Shapes.{shapes_of}
use Rattle.hal_link.specs.Views.{with_cell, with_element, with_referent, with_led, with_reference, with_shape, with_area, with_referred, with_spot, with_whole, with_argument, with_arguments, with_spots, with_call, with_place, with_places, with_role, with_node, with_phrase, with_phrases, with_body, with_processes, views_of}
use Rattle.hal_fit_expr.proofs.Given.{number_same}
use Rattle.hal_fit_calls.specs.Each.{Each}
use Rattle.hal_fit_calls.proofs.Each.{each_append}
use Rattle.hal_scope.specs.Rules.{IsAmong}
use Rattle.hal_right_images.specs.rows.Homes.{LeadsHome, AtHome, StandsHome}
use Rattle.hal_right_images.specs.rows.Purposes.{CallsUnit, StandsIn, IsSite, Says, SaysPlaces, HasPlace, IsInput, IsOutput, ByForm, ByCall, ForInput, ForOutput, IsPassed, IsCellFor, IsAreaFor, HasPurpose}

no_copies : (o : Option ℕ) → is_some o ≡ false → o ≡ None
no_copies None is = refl
no_copies (Some n) is = absurd (cc)

pub each_among : {X : Type 0} (P : X → Type 0) (xs : List X) (x : X) → Each P xs → IsAmong x xs → P x
each_among P [] x each within = absurd within
each_among P (y ∷ xs) x each (inl same) = subst P (sym same) each.0
each_among P (y ∷ xs) x each (inr later) = each_among P xs x each.1 later

module _ (s : Set) (homes : Each (StandsHome s.phrases) s.phrases) where
  abbrev AllPurposed : List View → Type 0
  AllPurposed views = Each (HasPurpose s) views

  -- at one site
  module _ (process : ℕ) (site : Site) (at : IsSite s process site) where
    cell_added : (rows : List Dimension) (k : Kind) (views : List View) (o : Option Base) → ((from : Base) → o ≡ Some from → IsCellFor site rows k from) → AllPurposed views → AllPurposed (with_cell rows k views o)
    cell_added rows k views None purpose all = all
    cell_added rows k views (Some from) purpose all = by (list_any (is_cell_view from rows k) views) where
      by : (b : Bool) → AllPurposed (if b then views else views ++ (cell_view from rows k ∷ []))
      by true = all
      by false =
          each_append (HasPurpose s) views (cell_view from rows k ∷ []) all (inl (record { process = process; site = site; is_site = at; rows = rows; k = k; from = from; is = refl; purpose = purpose from refl }), tt)

    area_added : (rows : List Dimension) (views : List View) (o : Option Base) (shape : Option ℕ)
        → ((from : Base) (number : ℕ) → o ≡ Some from → shape ≡ Some number → IsAreaFor (shapes_of s) site rows number from) → AllPurposed views → AllPurposed (with_shape rows views o shape)
    area_added rows views None shape purpose all = all
    area_added rows views (Some from) None purpose all = all
    area_added rows views (Some from) (Some number) purpose all = by (list_any (is_area_view from rows number) views) where
      by : (b : Bool) → AllPurposed (if b then views else views ++ (area_view from rows number ∷ []))
      by true = all
      by false =
          each_append (HasPurpose s) views (area_view from rows number ∷ []) all
          (inr (record { process = process; site = site; is_site = at; rows = rows; shape = number; from = from; is = refl; purpose = purpose from number refl refl }), tt)

    -- names
    element_added : (name : List ℕ) (path : List Naming) (k : ℕ) (way : Storing) (shape : Shape) (views : List View) (o : Option Element) → referent site name ≡ DataOf k way shape → shape.copies ≡ None → element_in path shape.components ≡ o
        → AllPurposed views → AllPurposed (with_element site k way views o)
    element_added name path k way shape views None refers single leads all = all
    element_added name path k way shape views (Some one) refers single leads all =
        cell_added [] one.kind views (base_of site k one.before way)
        (λ from begins. inl (inl (record { name = name; path = path; declared = k; way = way; shape = shape; refers = refers; one = one; single = single; leads = leads; plain = refl; kind = refl; begins = begins }))) all

    referent_added : (name : List ℕ) (path : List Naming) (views : List View) (r : Referent) → referent site name ≡ r → AllPurposed views → AllPurposed (with_referent site views path r)
    referent_added name path views (DataOf k way shape) refers all = by (is_some shape.copies) refl where
      by : (b : Bool) → is_some shape.copies ≡ b → AllPurposed (if b then views else with_element site k way views (element_in path shape.components))
      by true is = all
      by false is = element_added name path k way shape views (element_in path shape.components) refers (no_copies shape.copies is) refl all
    referent_added name path views (ConstantOf v) refers all = all
    referent_added name path views (EventOf e) refers all = all
    referent_added name path views (BlockOf unit) refers all = all
    referent_added name path views (BuiltinOf b) refers all = all
    referent_added name path views Unmeant refers all = all

    led_added : (role : Role) (place : Place) (name : List ℕ) (path : List Naming) (views : List View) (subscript : Subscript) (o : Option Led) → Says site (OfReference role (Refers place name path subscript))
        → led_by path (referent site name) ≡ o → AllPurposed views → AllPurposed (with_led site views subscript o)
    led_added role place name path views subscript None says leads all = all
    led_added role place name path views subscript (Some l) says leads all =
        cell_added (map row_of (rows_left subscript l)) (first_chosen site subscript l).kind views (base_of site l.declared (first_chosen site subscript l).before l.stored)
        (λ from begins. inl (inr (record { role = role; place = place; name = name; path = path; subscript = subscript; says = says; led = l; leads = leads; dimensions = refl; kind = refl; begins = begins }))) all

    reference_added : (role : Role) (views : List View) (reference : Reference) → Says site (OfReference role reference) → AllPurposed views → AllPurposed (with_reference site views reference)
    reference_added role views (Refers place name path subscript) says all = by (is_plain subscript) where
      by : (b : Bool) → AllPurposed (if b then with_referent site views path (referent site name) else with_led site views subscript (led_by path (referent site name)))
      by true = referent_added name path views (referent site name) refl all
      by false = led_added role place name path views subscript (led_by path (referent site name)) says refl all

    -- arguments
    module _ (unit : ℕ) (name : Naming) where
      abbrev Passing : Reference → Type 0
      Passing reference = IsPassed site unit name reference

      abbrev runs_here : List (Run Kind)
      runs_here = runs_of (parameter_named site.set unit name).shape

      chosen_added : (place : Place) (called : List ℕ) (path : List Naming) (views : List View) (subscript : Subscript) (o : Option Led) → led_by path (referent site called) ≡ o → Passing (Refers place called path subscript)
          → AllPurposed views → AllPurposed (with_area (shapes_of s) site runs_here views subscript o)
      chosen_added place called path views subscript None leads passed all = all
      chosen_added place called path views subscript (Some l) leads passed all =
          area_added (map row_of (rows_left subscript l)) views (base_of site l.declared (first_chosen site subscript l).before l.stored) (shape_in (shapes_of s) runs_here)
          (λ from number begins numbered. record {
            place = place;
            name = called;
            path = path;
            subscript = subscript;
            unit = unit;
            parameter = name;
            passed = passed;
            led = l;
            leads = leads;
            dimensions = refl;
            runs = runs_here;
            own = refl;
            numbered = numbered;
            begins = begins;
          }) all

      referred_added : (views : List View) (reference : Reference) → Passing reference → AllPurposed views → AllPurposed (with_referred (shapes_of s) site runs_here views reference)
      referred_added views (Refers place called path subscript) passed all = chosen_added place called path views subscript (led_by path (referent site called)) refl passed all

      whole_added : (views : List View) (tree : Expression) → ((reference : Reference) → tree ≡ Referred reference → Passing reference) → AllPurposed views → AllPurposed (with_whole (shapes_of s) site runs_here views tree)
      whole_added views (Referred reference) passed all = referred_added views reference (passed reference refl) all
      whole_added views other passed all = all

      argument_added : (views : List View) (tree : Expression) → (is_whole (parameter_named site.set unit name).shape ≡ true → (reference : Reference) → tree ≡ Referred reference → Passing reference) → AllPurposed views
          → AllPurposed (with_argument (shapes_of s) site views (parameter_named site.set unit name) tree)
      argument_added views tree passed all = by (is_whole (parameter_named site.set unit name).shape) passed where
        by : (b : Bool) → (b ≡ true → (reference : Reference) → tree ≡ Referred reference → Passing reference) → AllPurposed (if b then with_whole (shapes_of s) site runs_here views tree else views)
        by true so = whole_added views tree (so refl) all
        by false so = all

    arguments_added : (unit : ℕ) (views : List View) (names : List Naming) (trees : Expressions)
        → ((name : Naming) (reference : Reference) → IsInput names trees name reference → is_whole (parameter_named site.set unit name).shape ≡ true → IsPassed site unit name reference)
        → AllPurposed views → AllPurposed (with_arguments (shapes_of s) site unit views names trees)
    unfolding with_arguments
    arguments_added unit views [] NoExpressions passed all = all
    arguments_added unit views [] (MoreExpressions first others) passed all = all
    arguments_added unit views (name ∷ names) NoExpressions passed all = all
    arguments_added unit views (name ∷ names) (MoreExpressions first others) passed all =
        arguments_added unit (with_argument (shapes_of s) site views (parameter_named site.set unit name) first) names others (λ one reference is. passed one reference (inr is))
        (argument_added unit name views first (λ whole reference is. passed name reference (inl (refl, is)) whole) all)

    spots_added : (unit : ℕ) (views : List View) (names : List Naming) (receivers : List Reference) → ((name : Naming) (reference : Reference) → IsOutput names receivers name reference → IsPassed site unit name reference)
        → AllPurposed views → AllPurposed (with_spots (shapes_of s) site unit views names receivers)
    unfolding with_spots
    spots_added unit views [] [] passed all = all
    spots_added unit views [] (receiver ∷ receivers) passed all = all
    spots_added unit views (name ∷ names) [] passed all = all
    spots_added unit views (name ∷ names) (receiver ∷ receivers) passed all =
        spots_added unit (with_spot (shapes_of s) site views (parameter_named site.set unit name) receiver) names receivers (λ one reference is. passed one reference (inr is))
        (referred_added unit name views receiver (passed name receiver (inl (refl, refl))) all)

    form_added : (place : Place) (name : List ℕ) (views : List View) (arguments : Expressions) (r : Referent) → Says site (OfCallForm place name arguments) → referent site name ≡ r → AllPurposed views
        → AllPurposed (with_call (shapes_of s) site views arguments [] r)
    form_added place name views arguments (BlockOf unit) says refers all =
        spots_added unit (with_arguments (shapes_of s) site unit views (inputs_at site.set unit) arguments) (outputs_at site.set unit) [] (λ one reference is. absurd (no_output (outputs_at site.set unit) one reference is))
        (arguments_added unit views (inputs_at site.set unit) arguments
        (λ one reference is whole. inl (record { arguments = arguments; receivers = []; calls = inl (place, name, says, refers); passed = is; whole = whole })) all)
      where
        no_output : (names : List Naming) (one : Naming) (reference : Reference) → IsOutput names [] one reference → ⊥
        no_output [] one reference is = is
        no_output (other ∷ names) one reference is = is
    form_added place name views arguments other says refers all = all

    call_added : (name : Naming) (views : List View) (arguments : Expressions) (receivers : List Reference) (r : Referent) → Says site (OfCall name arguments receivers) → referent site name.name ≡ r → AllPurposed views
        → AllPurposed (with_call (shapes_of s) site views arguments receivers r)
    call_added name views arguments receivers (BlockOf unit) says refers all =
        spots_added unit (with_arguments (shapes_of s) site unit views (inputs_at site.set unit) arguments) (outputs_at site.set unit) receivers
        (λ one reference is. inr (record { arguments = arguments; receivers = receivers; calls = (name, says, refers); passed = is }))
        (arguments_added unit views (inputs_at site.set unit) arguments
        (λ one reference is whole. inl (record { arguments = arguments; receivers = receivers; calls = inr (name, says, refers); passed = is; whole = whole })) all)
    call_added name views arguments receivers other says refers all = all

    -- own places of groups
    place_added : (k before : ℕ) (views : List View) → HasPlace site k before → AllPurposed views → AllPurposed (with_place site k before views)
    place_added k before views has all =
        cell_added [] kind.Double views (base_of site k before InPlaces) (λ from begins. inr (inl (record { group = k; before = before; has = has; plain = refl; kind = refl; begins = begins }))) all

    places_added : (k : ℕ) (views : List View) → ((before : ℕ) → before < 4 → HasPlace site k before) → AllPurposed views → AllPurposed (with_places site k views)
    places_added k views has all =
        place_added k 3 (with_place site k 2 (with_place site k 1 (with_place site k 0 views))) (has 3 (omega arith))
        (place_added k 2 (with_place site k 1 (with_place site k 0 views)) (has 2 (omega arith)) (place_added k 1 (with_place site k 0 views) (has 1 (omega arith)) (place_added k 0 views (has 0 (omega arith)) all)))

    -- a phrase of the unit that stands in the block
    module _ (p : Phrase) (among : IsAmong p site.set.phrases) (home : p.around.home ≡ site.unit) (block : p.around.block ≡ site.block) where
      says_it : (node : Node) → p.node ≡ node → Says site node
      says_it node is = record { phrase = p; among = among; home = home; block = block; is = is }

      place_said : (k before : ℕ) → SaysPlaces p k before → HasPlace site k before
      place_said k before says = record { phrase = p; among = among; home = home; says = says }

      role_added : (views : List View) (r : Role) (tree : Expression) → p.node ≡ OfExpression r tree → AllPurposed views → AllPurposed (with_role site views p.around.parent r)
      role_added views role.Case tree is all = place_added p.around.parent 0 views (place_said p.around.parent 0 (inr (ap says_for_or_case is, refl, omega arith))) all
      role_added views other tree is all = all

      node_added : (views : List View) (node : Node) → p.node ≡ node → AllPurposed views → AllPurposed (with_node (shapes_of s) site views p.number p.around.parent node)
      node_added views (OfReference role reference) is all = reference_added role views reference (says_it (OfReference role reference) is) all
      node_added views (OfSubscriptName name) is all = referent_added name.name [] views (referent site name.name) refl all
      node_added views (OfCallForm place name arguments) is all =
          form_added place name (with_referent site views [] (referent site name)) arguments (referent site name) (says_it (OfCallForm place name arguments) is) refl
          (referent_added name [] views (referent site name) refl all)
      node_added views (OfCall name arguments receivers) is all = call_added name views arguments receivers (referent site name.name) (says_it (OfCall name arguments receivers) is) refl all
      node_added views (OfVariable name) is all =
          places_added p.around.parent (with_referent site views [] (referent site name.name)) (λ before few. place_said p.around.parent before (inr (ap says_for_or_case is, refl, few)))
          (referent_added name.name [] views (referent site name.name) refl all)
      node_added views (OfTemporaryGroup labels variable) is all =
          place_added p.number 4 (with_places site p.number views) (place_said p.number 4 (inl (labels, variable, is, refl, omega arith)))
          (places_added p.number views (λ before few. place_said p.number before (inl (labels, variable, is, refl, omega (arith, few)))) all)
      node_added views (OfExpression r tree) is all = role_added views r tree is all
      node_added views other is all = all

    -- input parameters of the unit
    parameter_added : (views : List View) (name : Naming) → IsAmong name (inputs_at site.set site.unit) → AllPurposed views → AllPurposed (with_parameter site views (parameter_named site.set site.unit name))
    parameter_added views name named all =
        cell_added [] (kind_of_first (parameter_named site.set site.unit name).shape.components) views (base_of site (parameter_named site.set site.unit name).number 0 InPlaces)
        (λ from begins. inr (inr (record { name = name; named = named; plain = refl; kind = refl; begins = begins }))) all

    parameters_added : (views : List View) (names : List Naming) → ((name : Naming) → IsAmong name names → IsAmong name (inputs_at site.set site.unit)) → AllPurposed views → AllPurposed (with_parameters site views names)
    unfolding with_parameters
    parameters_added views [] named all = all
    parameters_added views (name ∷ names) named all =
        parameters_added (with_parameter site views (parameter_named site.set site.unit name)) names (λ one is. named one (inr is)) (parameter_added views name (named name (inl refl)) all)

  -- in a unit of a process
  module _ (process unit : ℕ) (body : Body) (found : body_at s unit ≡ Some body) (stands : StandsIn s process unit) where
    abbrev here : Site
    here = process_site s process body

    site_in : (block : ℕ) → LeadsHome s.phrases body.number block → IsSite s process (within_block block here)
    site_in block leads = record { unit = unit; body = body; found = found; stands = stands; block = block; leads = leads; is = refl }

    phrase_added : (views : List View) (p : Phrase) → IsAmong p s.phrases → AllPurposed views → AllPurposed (with_phrase (shapes_of s) here views p)
    phrase_added views p among all = by (p.around.home == body.number) refl where
      by : (b : Bool) → (p.around.home == body.number) ≡ b → AllPurposed (if b then with_node (shapes_of s) (within_block p.around.block here) views p.number p.around.parent p.node else views)
      by true same =
          let own = eqb-true p.around.home body.number same in
          let leads = subst (λ k. LeadsHome s.phrases k p.around.block) own (each_among (StandsHome s.phrases) s.phrases p homes among) in
          node_added process (within_block p.around.block here) (site_in p.around.block leads) p among own refl views p.node refl all
      by false other = all

    phrases_added : (views : List View) (ps : List Phrase) → ((p : Phrase) → IsAmong p ps → IsAmong p s.phrases) → AllPurposed views → AllPurposed (with_phrases (shapes_of s) here views ps)
    unfolding with_phrases
    phrases_added views [] among all = all
    phrases_added views (p ∷ ps) among all = phrases_added (with_phrase (shapes_of s) here views p) ps (λ q is. among q (inr is)) (phrase_added views p (among p (inl refl)) all)

    inputs_here : (name : Naming) → IsAmong name (inputs_of body.head) → IsAmong name (inputs_at s body.number)
    inputs_here name is = subst (λ (k : ℕ). IsAmong name (inputs_at s k)) (sym (number_same s unit body found)) (subst (λ (o : Option Body). IsAmong name (elim o [ None ↦ [] | Some b ↦ inputs_of b.head ])) (sym found) is)

    called_in : (views : List View) → AllPurposed views → AllPurposed (with_called (shapes_of s) s process views (Some body))
    called_in views all =
        parameters_added process here (site_in body.number AtHome) (with_phrases (shapes_of s) here views s.phrases) (inputs_of body.head) inputs_here (phrases_added views s.phrases (λ p is. is) all)

  -- processes
  body_added : (process unit : ℕ) (views : List View) (o : Option Body) → body_at s unit ≡ o → StandsIn s process unit → AllPurposed views → AllPurposed (with_body (shapes_of s) s process views o)
  body_added process unit views None found stands all = all
  body_added process unit views (Some body) found stands all = phrases_added process unit body found stands views s.phrases (λ p is. is) all

  processes_added : (p : ℕ) (views : List View) (ks : List ℕ) → ((n : ℕ) (k : ℕ) → slice_get ks n ≡ Some k → slice_get (processes_of s.phrases) (p + n) ≡ Some k) → AllPurposed views
      → AllPurposed (with_processes (shapes_of s) s p views ks)
  unfolding with_processes
  processes_added p views [] there all = all
  processes_added p views (k ∷ ks) there all =
      processes_added (p + 1) (with_body (shapes_of s) s p views (body_at s k)) ks
      (λ n other is. let same : p + suc n ≡ (p + 1) + n = omega arith in subst (λ m. slice_get (processes_of s.phrases) m ≡ Some other) same (there (suc n) other is))
      (body_added p k views (body_at s k) refl (inl (let same : p + 0 ≡ p = omega arith in subst (λ m. slice_get (processes_of s.phrases) m ≡ Some k) same (there zero k refl))) all)

  -- and the units that they call
  called_added : (process unit : ℕ) (views : List View) (o : Option Body) → body_at s unit ≡ o → StandsIn s process unit → AllPurposed views → AllPurposed (with_called (shapes_of s) s process views o)
  called_added process unit views None found stands all = all
  called_added process unit views (Some body) found stands all = called_in process unit body found stands views all

  all_called : (process : ℕ) (views : List View) (ks : List ℕ) → ((n : ℕ) (k : ℕ) → slice_get ks n ≡ Some k → CallsUnit s process k) → AllPurposed views → AllPurposed (with_all_called (shapes_of s) s process views ks)
  unfolding with_all_called
  all_called process views [] calls all = all
  all_called process views (k ∷ ks) calls all =
      all_called process (with_called (shapes_of s) s process views (body_at s k)) ks (λ n other is. calls (suc n) other is) (called_added process k views (body_at s k) refl (inr (calls zero k refl)) all)

  outlines_added : (p : ℕ) (views : List View) (os : List Outline) → ((n : ℕ) (o : Outline) → slice_get os n ≡ Some o → slice_get (outlines_of s) (p + n) ≡ Some o) → AllPurposed views
      → AllPurposed (with_outlines (shapes_of s) s views os)
  unfolding with_outlines
  outlines_added p views [] there all = all
  outlines_added p views (o ∷ os) there all =
      outlines_added (p + 1) (with_all_called (shapes_of s) s o.process views o.called) os
      (λ n other is. let same : p + suc n ≡ (p + 1) + n = omega arith in subst (λ m. slice_get (outlines_of s) m ≡ Some other) same (there (suc n) other is))
      (all_called o.process views o.called (λ n k is. record { number = p + 0; outline = o; there = there zero o refl; its = refl; place = n; called = is }) all)

  -- all views
  pub all_purposed : AllPurposed (called.views_of s)
  all_purposed =
      outlines_added 0 (views_of (shapes_of s) s) (outlines_of s) (λ n o is. let same : n ≡ 0 + n = omega arith in subst (λ m. slice_get (outlines_of s) m ≡ Some o) same is)
      (processes_added 0 [] (processes_of s.phrases) (λ n k is. let same : n ≡ 0 + n = omega arith in subst (λ m. slice_get (processes_of s.phrases) m ≡ Some k) same is) tt)
