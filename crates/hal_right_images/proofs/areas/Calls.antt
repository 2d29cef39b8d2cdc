-- Arguments fit the parameters that a call sees, where no rule of names or types is broken.
use Rattle.std.specs.Prelude.{◌≡◌, ◌⊎◌, ℕ, Bool, true, false, List, [], ◌∷◌, Option, Some, None, slice_get}
use Rattle.std.specs.Option.{option_and_then}
use Rattle.std.proofs.Common.{refl, sym, ap, subst, ◌∙◌, inl, inr}
use Rattle.std.proofs.lemmas.Bool.{and_parts}
use Rattle.hal_base.specs.declared.refusal.Place.{Place}
use Rattle.hal_grammar.specs.Leaves.{Naming}
use Rattle.hal_grammar.specs.Expressions.{Expression, Referred, Expressions, NoExpressions, MoreExpressions, Reference}
use Rattle.hal_grammar.specs.Units.{Head, Program, Compool, Task, Procedure, Function, File}
use Rattle.hal_phrases.specs.declared.role.Role.{Role}
use Rattle.hal_phrases.specs.declared.role.Role.TheVariants as roles
use Rattle.hal_phrases.specs.Phrases.{Node, Phrase, OfCall, OfCallForm, OfTemplate, OfUnit}
use Rattle.hal_phrases.specs.GatheredUnits.{phrases_of}
use Rattle.hal_names.specs.declared.key.Space.TheVariants as space
use Rattle.hal_names.specs.Keys.{key, own}
use Rattle.hal_names.specs.Means.{means}
use Rattle.hal_scope.specs.declared.used.Use.{Use}
use Rattle.hal_scope.specs.declared.usage.Usage.TheVariants as usage
use Rattle.hal_scope.specs.Rules.{IsAmong, IsSound, rows, ruled}
use Rattle.hal_scope.specs.Sorts.{sort_of, sort_of_head, used}
use Rattle.hal_scope.specs.Uses.{fits_declared, fits_named, fits_use, misused, sort_at, unless}
use Rattle.hal_uses.specs.Calls.{declared_fault, head_fault, miscalled, builtin_fault}
use Rattle.hal_shapes.specs.Arguments.{call_fault, call_fits, form_fault, form_fits, head_at, head_of, input_fits, input_named, inputs_fit, misshaped, output_fits, output_named, outputs_fit, parameter_of}
use Rattle.hal_templates.specs.Giving.{spelled}
use Rattle.hal_types.specs.Rules.{size_rows, type_rows, use_rows}
use Rattle.hal_constants.specs.Known.{Known, known}
use Rattle.hal_meaning.specs.Bodies.{Body, is_called_head, meant}
use Rattle.hal_meaning.specs.Calls.{inputs_of, outputs_of, parameter_named}
use Rattle.hal_meaning.specs.Expressions.{inputs_at, outputs_at}
use Rattle.hal_meaning.specs.Sets.{Set, set_of}
use Rattle.hal_meaning.specs.Variables.{is_whole}
use Rattle.hal_agreement.specs.Sites.{Site}
use Rattle.hal_storage.specs.referents.Referents.{BlockOf, builtin_referent, declaration_referent}
use Rattle.hal_gen_expr.specs.Referents.{referent}
use Rattle.hal_fit_calls.specs.Each.{Each}
use Rattle.hal_fit_rules.proofs.Unbroken.{unbroken, ruled_none, of_sizes, of_uses}
use Rattle.hal_fit_names.proofs.Suiting.{unless_true}
use Rattle.hal_right_images.specs.rows.Purposes.{Says, IsInput, IsOutput, ByForm, ByCall, IsPassed}
use Rattle.hal_right_images.proofs.rows.Bodied.{unit_has}
use Rattle.hal_right_images.proofs.rows.LookingUp.{LooksUp}
use Rattle.hal_right_images.proofs.rows.Told.{HasParameter, IsTold, IsToldNode, names_of, unit_head}
use Rattle.hal_right_images.proofs.rows.ToldUnits.{set_told}
use Rattle.hal_right_images.proofs.rows.Rules.{among_at}
use Rattle.hal_right_images.specs.areas.Said.{SaysReference, SaysTree, SaysTrees, SaysOutputs, SaysArguments, IsSaid}
use Rattle.hal_right_images.proofs.areas.ArguingFiles.{all_said}
use Rattle.hal_right_images.proofs.areas.Callees.{IsCallee, callee_is}
use Rattle.hal_right_images.proofs.areas.Meaning.{KnowsTemplates}

-- what is so of each is so of one of them
each_among : {X : Type 0} (P : X → Type 0) (xs : List X) (x : X) → Each P xs → IsAmong x xs → P x
each_among P [] x each is = absurd is
each_among P (y ∷ xs) x each (inl same) = subst P (sym same) each.0
each_among P (y ∷ xs) x each (inr later) = each_among P xs x each.1 later

-- a parameter is found by how its name is spelled
input_same : (ps : List Phrase) (vs : Known) (p : Phrase) (k : ℕ) (n m : Naming) (tree : Expression) → n.name ≡ m.name → input_named ps vs p k n tree ≡ input_named ps vs p k m tree
unfolding parameter_of
input_same ps vs p k n m tree same =
    ap (λ (l : List ℕ). elim (option_and_then (λ j. slice_get ps j) (own ps (key space.Declared k l))) [ None ↦ true | Some r ↦ input_fits ps vs p r tree r.node ]) same

output_same : (ps : List Phrase) (vs : Known) (p : Phrase) (k : ℕ) (n m : Naming) (given : Reference) → n.name ≡ m.name → output_named ps vs p k n given ≡ output_named ps vs p k m given
unfolding parameter_of
output_same ps vs p k n m given same =
    ap (λ (l : List ℕ). elim (option_and_then (λ j. slice_get ps j) (own ps (key space.Declared k l))) [ None ↦ true | Some r ↦ output_fits ps vs p r given r.node ]) same

first_same : (m n : Naming) (ms ns : List Naming) → spelled (m ∷ ms) ≡ spelled (n ∷ ns) → (n.name ≡ m.name) × (spelled ms ≡ spelled ns)
first_same m n ms ns is = ((let one : n.name ≡ m.name = cc in one), (let rest : spelled ms ≡ spelled ns = cc in rest))

-- arguments that fit parameters do so one by one, whoever spells their names
input_fit : (ps : List Phrase) (vs : Known) (p : Phrase) (k : ℕ) (names others : List Naming) (trees : Expressions) (name : Naming) (given : Reference) → spelled others ≡ spelled names → inputs_fit ps vs p k names trees ≡ true
    → IsInput others trees name given → input_named ps vs p k name (Referred given) ≡ true
unfolding inputs_fit
input_fit ps vs p k [] [] trees name given same fit is = none trees is where
  none : (ts : Expressions) → IsInput [] ts name given → input_named ps vs p k name (Referred given) ≡ true
  none NoExpressions so = absurd so
  none (MoreExpressions first rest) so = absurd so
input_fit ps vs p k (n ∷ ns) [] trees name given same fit is = absurd (cc)
input_fit ps vs p k [] (m ∷ ms) trees name given same fit is = absurd (cc)
input_fit ps vs p k (n ∷ ns) (m ∷ ms) NoExpressions name given same fit is = absurd is
input_fit ps vs p k (n ∷ ns) (m ∷ ms) (MoreExpressions first rest) name given same fit (inl is) =
    sym (input_same ps vs p k n name (Referred given) ((first_same m n ms ns same).0 ∙ ap (λ (x : Naming). x.name) is.0))
    ∙ (ap (input_named ps vs p k n) (sym is.1) ∙ (and_parts (input_named ps vs p k n first) (inputs_fit ps vs p k ns rest) fit).0)
input_fit ps vs p k (n ∷ ns) (m ∷ ms) (MoreExpressions first rest) name given same fit (inr is) =
    input_fit ps vs p k ns ms rest name given (first_same m n ms ns same).1 (and_parts (input_named ps vs p k n first) (inputs_fit ps vs p k ns rest) fit).1 is

output_fit : (ps : List Phrase) (vs : Known) (p : Phrase) (k : ℕ) (names others : List Naming) (references : List Reference) (name : Naming) (given : Reference) → spelled others ≡ spelled names → outputs_fit ps vs p k names references ≡ true
    → IsOutput others references name given → output_named ps vs p k name given ≡ true
unfolding outputs_fit
output_fit ps vs p k [] [] references name given same fit is = none references is where
  none : (rs : List Reference) → IsOutput [] rs name given → output_named ps vs p k name given ≡ true
  none [] so = absurd so
  none (first ∷ rest) so = absurd so
output_fit ps vs p k (n ∷ ns) [] references name given same fit is = absurd (cc)
output_fit ps vs p k [] (m ∷ ms) references name given same fit is = absurd (cc)
output_fit ps vs p k (n ∷ ns) (m ∷ ms) [] name given same fit is = absurd is
output_fit ps vs p k (n ∷ ns) (m ∷ ms) (first ∷ rest) name given same fit (inl is) =
    sym (output_same ps vs p k n name given ((first_same m n ms ns same).0 ∙ ap (λ (x : Naming). x.name) is.0))
    ∙ (ap (output_named ps vs p k n) (sym is.1) ∙ (and_parts (output_named ps vs p k n first) (outputs_fit ps vs p k ns rest) fit).0)
output_fit ps vs p k (n ∷ ns) (m ∷ ms) (first ∷ rest) name given same fit (inr is) =
    output_fit ps vs p k ns ms rest name given (first_same m n ms ns same).1 (and_parts (output_named ps vs p k n first) (outputs_fit ps vs p k ns rest) fit).1 is

-- and they stand among the phrases
input_said : (ps : List Phrase) (p : Phrase) (names : List Naming) (trees : Expressions) (name : Naming) (given : Reference) → SaysTrees ps p trees → IsInput names trees name given → (r : Role) × SaysReference ps p r given
input_said ps p [] NoExpressions name given said is = absurd is
input_said ps p [] (MoreExpressions first others) name given said is = absurd is
input_said ps p (n ∷ ns) NoExpressions name given said is = absurd is
input_said ps p (n ∷ ns) (MoreExpressions first others) name given said (inl is) = subst (SaysTree ps p) is.1 said.0
input_said ps p (n ∷ ns) (MoreExpressions first others) name given said (inr is) = input_said ps p ns others name given said.1 is

output_said : (ps : List Phrase) (p : Phrase) (names : List Naming) (references : List Reference) (name : Naming) (given : Reference) → SaysOutputs ps p references → IsOutput names references name given → SaysReference ps p roles.Output given
output_said ps p [] [] name given said is = absurd is
output_said ps p [] (first ∷ others) name given said is = absurd is
output_said ps p (n ∷ ns) [] name given said is = absurd is
output_said ps p (n ∷ ns) (first ∷ others) name given said (inl is) = subst (SaysReference ps p roles.Output) is.1 said.0
output_said ps p (n ∷ ns) (first ∷ others) name given said (inr is) = output_said ps p ns others name given said.1 is

-- their names are among those of the parameters
input_listed : (names : List Naming) (trees : Expressions) (name : Naming) (given : Reference) → IsInput names trees name given → IsAmong name names
input_listed [] NoExpressions name given is = absurd is
input_listed [] (MoreExpressions first others) name given is = absurd is
input_listed (n ∷ ns) NoExpressions name given is = absurd is
input_listed (n ∷ ns) (MoreExpressions first others) name given (inl is) = inl (sym is.0)
input_listed (n ∷ ns) (MoreExpressions first others) name given (inr is) = inr (input_listed ns others name given is)

output_listed : (names : List Naming) (references : List Reference) (name : Naming) (given : Reference) → IsOutput names references name given → IsAmong name names
output_listed [] [] name given is = absurd is
output_listed [] (first ∷ others) name given is = absurd is
output_listed (n ∷ ns) [] name given is = absurd is
output_listed (n ∷ ns) (first ∷ others) name given (inl is) = inl (sym is.0)
output_listed (n ∷ ns) (first ∷ others) name given (inr is) = inr (output_listed ns others name given is)

-- an argument that fits its parameter, and stands among the phrases of its unit
pub record Passes (s : Set) (site : Site) (unit : ℕ) (parameter : Naming) (given : Reference) : Type 0 where
  pub phrase : Phrase
  pub block : phrase.around.block ≡ site.block
  pub role : Role
  pub says : SaysReference s.phrases phrase role given
  pub listed : (output : Bool) × HasParameter s.phrases unit parameter output
  pub inside : ℕ
  pub called : List ℕ
  pub callee : IsCallee s.phrases inside called unit
  pub fits : ((input_named s.phrases s.constants phrase callee.declared parameter (Referred given) ≡ true) × (is_whole (parameter_named s unit parameter).shape ≡ true))
      ⊎ ((output_named s.phrases s.constants phrase callee.declared parameter given ≡ true) × (role ≡ roles.Output))

module _ (files : List File) (turns : ℕ) (looks : LooksUp (phrases_of files)) (templates : KnowsTemplates (phrases_of files)) (named : IsSound rows (phrases_of files)) (typed : IsSound type_rows (phrases_of files)) where
  abbrev s : Set
  s = set_of turns files

  abbrev ps : List Phrase
  ps = phrases_of files

  abbrev vs : Known
  vs = known (phrases_of files)

  -- rule 705
  shaped : (p : Phrase) → IsAmong p ps → (node : Node) → p.node ≡ node → misshaped ps vs p node ≡ None
  unfolding size_rows
  shaped p within node is =
      ap (misshaped ps vs p) (sym is)
      ∙ ruled_none 705 (misshaped ps vs p p.node) (unbroken type_rows ps typed p within (λ qs o. ruled 705 (misshaped qs (known qs) o o.node)) (of_sizes (λ qs o. ruled 705 (misshaped qs (known qs) o o.node)) (inr (inr (inr (inl refl))))))

  -- rules of call forms
  well_called : (p : Phrase) → IsAmong p ps → (node : Node) → p.node ≡ node → miscalled ps p node ≡ None
  unfolding use_rows
  well_called p within node is =
      ap (miscalled ps p) (sym is)
      ∙ unbroken type_rows ps typed p within (λ qs o. miscalled qs o o.node) (of_uses (λ qs o. miscalled qs o o.node) (inr (inr (inr (inr (inr (inr (inr (inl refl)))))))))

  -- rule 603
  well_used : (p : Phrase) → IsAmong p ps → (u : Use) → used p.node ≡ Some u → fits_use ps p u ≡ true
  unfolding misused
  well_used p within u is =
      unless_true (fits_use ps p u) u.place
      (ap (option_and_then (λ (v : Use). unless (fits_use ps p v) v.place)) (sym is) ∙ ruled_none 603 (misused ps p) (unbroken rows ps named p within (λ qs o. ruled 603 (misused qs o)) (inr (inr (inl refl)))))

  module _ (block : ℕ) (name : List ℕ) (unit : ℕ) (c : IsCallee ps block name unit) where
    -- whether it is the unit or its template, it has the head
    head_there : head_at ps c.declared ≡ Some c.head
    unfolding head_of
    head_there = ap (option_and_then (λ (q : Phrase). head_of q.node)) c.there ∙ by c.is where
      by : (c.phrase.node ≡ OfUnit c.own c.head c.declarations) ⊎ (c.phrase.node ≡ OfTemplate c.own c.head c.declarations) → head_of c.phrase.node ≡ Some c.head
      by (inl is) = ap head_of is
      by (inr is) = ap head_of is

    sort_there : sort_of c.phrase.node ≡ Some (sort_of_head c.head)
    unfolding sort_of
    sort_there = by c.is where
      by : (c.phrase.node ≡ OfUnit c.own c.head c.declarations) ⊎ (c.phrase.node ≡ OfTemplate c.own c.head c.declarations) → sort_of c.phrase.node ≡ Some (sort_of_head c.head)
      by (inl is) = ap sort_of is
      by (inr is) = ap sort_of is

    fault_there : (p : Phrase) (place : Place) (arguments : Expressions) → declared_fault ps p place arguments c.phrase c.phrase.node ≡ head_fault ps p.around.block place c.head arguments
    unfolding declared_fault
    fault_there p place arguments = by c.is where
      by : (c.phrase.node ≡ OfUnit c.own c.head c.declarations) ⊎ (c.phrase.node ≡ OfTemplate c.own c.head c.declarations) → declared_fault ps p place arguments c.phrase c.phrase.node ≡ head_fault ps p.around.block place c.head arguments
      by (inl is) = ap (declared_fault ps p place arguments c.phrase) is
      by (inr is) = ap (declared_fault ps p place arguments c.phrase) is

    names_are : (inputs_at s unit ≡ inputs_of c.unit_at.head) × (outputs_at s unit ≡ outputs_of c.unit_at.head)
    names_are =
        let has = unit_has files looks.counted turns unit c.unit_at.phrase c.unit_at.head c.unit_at.there (ap unit_head c.unit_at.is) in (
          ap (λ (o : Option Body). elim o [ None ↦ [] | Some b ↦ inputs_of b.head ]) has.found ∙ ap inputs_of has.head_is,
          ap (λ (o : Option Body). elim o [ None ↦ [] | Some b ↦ outputs_of b.head ]) has.found ∙ ap outputs_of has.head_is,
        )

    inputs_so : spelled (inputs_at s unit) ≡ spelled (inputs_of c.head)
    inputs_so = ap spelled names_are.0 ∙ c.inputs

    outputs_so : spelled (outputs_at s unit) ≡ spelled (outputs_of c.head)
    outputs_so = ap spelled names_are.1 ∙ c.outputs

    -- the unit lists the parameter
    listed_so : (output : Bool) (parameter : Naming) → IsAmong parameter (names_of c.unit_at.head output) → HasParameter ps unit parameter output
    listed_so output parameter among =
        let told : IsToldNode ps c.unit_at.phrase (OfUnit c.unit_at.own c.unit_at.head c.unit_at.declarations) =
        subst (IsToldNode ps c.unit_at.phrase) c.unit_at.is (each_among (IsTold ps) ps c.unit_at.phrase (set_told files) (among_at ps unit c.unit_at.phrase c.unit_at.there)) in
        subst (λ k. HasParameter ps k parameter output) c.unit_at.number (told output parameter among)

    input_so : (arguments : Expressions) (parameter : Naming) (given : Reference) → IsInput (inputs_at s unit) arguments parameter given → (output : Bool) × HasParameter ps unit parameter output
    input_so arguments parameter given passed =
        (false, listed_so false parameter (subst (IsAmong parameter) names_are.0 (input_listed (inputs_at s unit) arguments parameter given passed)))

    output_so : (receivers : List Reference) (parameter : Naming) (given : Reference) → IsOutput (outputs_at s unit) receivers parameter given → (output : Bool) × HasParameter ps unit parameter output
    output_so receivers parameter given passed =
        (true, listed_so true parameter (subst (IsAmong parameter) names_are.1 (output_listed (outputs_at s unit) receivers parameter given passed)))

    form_fits_it : (p : Phrase) → p.around.block ≡ block → (place : Place) (arguments : Expressions) → misshaped ps vs p (OfCallForm place name arguments) ≡ None → form_fits ps vs p c.declared arguments c.head ≡ true
    unfolding misshaped
    form_fits_it p here place arguments none =
        unless_true (form_fits ps vs p c.declared arguments c.head) place
        (ap (option_and_then (λ (head : Head). unless (form_fits ps vs p c.declared arguments head) place)) (sym head_there)
        ∙ (ap (option_and_then (form_fault ps vs p place arguments)) (sym (ap (λ b. means ps b name) here ∙ c.means_it)) ∙ none))

    call_fits_it : (p : Phrase) → p.around.block ≡ block → (own : Naming) → own.name ≡ name → (arguments : Expressions) (receivers : List Reference) → misshaped ps vs p (OfCall own arguments receivers) ≡ None
        → call_fits ps vs p c.declared arguments receivers c.head ≡ true
    unfolding misshaped
    call_fits_it p here own same arguments receivers none =
        unless_true (call_fits ps vs p c.declared arguments receivers c.head) own.place
        (ap (option_and_then (λ (head : Head). unless (call_fits ps vs p c.declared arguments receivers head) own.place)) (sym head_there)
        ∙ (ap (option_and_then (call_fault ps vs p own.place arguments receivers)) (sym (ap (λ b. means ps b own.name) here ∙ (ap (means ps block) same ∙ c.means_it))) ∙ none))

    form_head : (p : Phrase) → p.around.block ≡ block → (place : Place) (arguments : Expressions) → miscalled ps p (OfCallForm place name arguments) ≡ None → head_fault ps p.around.block place c.head arguments ≡ None
    unfolding miscalled
    form_head p here place arguments none =
        sym (fault_there p place arguments)
        ∙ (ap (option_and_then (λ (q : Phrase). declared_fault ps p place arguments q q.node)) (sym c.there)
        ∙ (ap (λ (o : Option ℕ). elim o [ None ↦ builtin_fault ps p.around.block place name arguments | Some k ↦ option_and_then (λ (q : Phrase). declared_fault ps p place arguments q q.node) (slice_get ps k) ])
        (sym (ap (λ b. means ps b name) here ∙ c.means_it)) ∙ none))

    form_inputs : (p : Phrase) (place : Place) (arguments : Expressions) (head : Head) → is_called_head head ≡ true → form_fits ps vs p c.declared arguments head ≡ true → head_fault ps p.around.block place head arguments ≡ None
        → inputs_fit ps vs p c.declared (inputs_of head) arguments ≡ true
    unfolding form_fits head_fault
    form_inputs p place arguments (Function at inputs returns mode) called fits none = fits
    form_inputs p place arguments (Procedure at inputs outputs mode) called fits none = absurd (cc)
    form_inputs p place arguments (Program at) called fits none = absurd (cc)
    form_inputs p place arguments (Compool at) called fits none = absurd (cc)
    form_inputs p place arguments (Task at) called fits none = absurd (cc)

    call_both : (p : Phrase) (arguments : Expressions) (receivers : List Reference) (head : Head) → is_called_head head ≡ true → call_fits ps vs p c.declared arguments receivers head ≡ true
        → fits_declared ps p usage.Called (Some (sort_of_head head)) ≡ true → (inputs_fit ps vs p c.declared (inputs_of head) arguments ≡ true) × (outputs_fit ps vs p c.declared (outputs_of head) receivers ≡ true)
    unfolding call_fits sort_of_head
    call_both p arguments receivers (Procedure at inputs outputs mode) called fits right = and_parts (inputs_fit ps vs p c.declared inputs arguments) (outputs_fit ps vs p c.declared outputs receivers) fits
    call_both p arguments receivers (Function at inputs returns mode) called fits right = absurd (cc)
    call_both p arguments receivers (Program at) called fits right = absurd (cc)
    call_both p arguments receivers (Compool at) called fits right = absurd (cc)
    call_both p arguments receivers (Task at) called fits right = absurd (cc)

    head_used : (p : Phrase) → p.around.block ≡ block → (own : Naming) → own.name ≡ name → (arguments : Expressions) (receivers : List Reference) → IsAmong p ps → p.node ≡ OfCall own arguments receivers
        → fits_declared ps p usage.Called (Some (sort_of_head c.head)) ≡ true
    unfolding used
    head_used p here own same arguments receivers within is =
        ap (fits_declared ps p usage.Called) (sym (ap (option_and_then (λ (q : Phrase). sort_of q.node)) c.there ∙ sort_there))
        ∙ (ap (λ (o : Option ℕ). elim o [ None ↦ fits_named own.name usage.Called | Some k ↦ fits_declared ps p usage.Called (sort_at ps k) ]) (sym (ap (λ b. means ps b own.name) here ∙ (ap (means ps block) same ∙ c.means_it)))
        ∙ well_used p within _ (ap used is))

    -- by a form
    form_passes : (site : Site) → site.set ≡ s → site.block ≡ block → (place : Place) (arguments : Expressions) (parameter : Naming) (given : Reference) → Says site (OfCallForm place name arguments)
        → IsInput (inputs_at s unit) arguments parameter given → is_whole (parameter_named s unit parameter).shape ≡ true → Passes s site unit parameter given
    form_passes site set at place arguments parameter given says passed whole =
        let p : Phrase = says.phrase in
        let here : p.around.block ≡ block = says.block ∙ at in
        let within : IsAmong p ps = subst (λ (x : Set). IsAmong p x.phrases) set says.among in
        let fits = form_inputs p place arguments c.head c.called (form_fits_it p here place arguments (shaped p within (OfCallForm place name arguments) says.is))
        (form_head p here place arguments (well_called p within (OfCallForm place name arguments) says.is)) in
        let said : SaysTrees ps p arguments = subst (SaysArguments ps p) says.is (each_among (IsSaid ps) ps p (all_said files) within) in
        let one = input_said ps p (inputs_at s unit) arguments parameter given said passed in
        record {
          phrase = p;
          block = says.block;
          role = one.0;
          says = one.1;
          listed = input_so arguments parameter given passed;
          inside = block;
          called = name;
          callee = c;
          fits = inl (input_fit ps vs p c.declared (inputs_of c.head) (inputs_at s unit) arguments parameter given inputs_so fits passed, whole);
        }

    -- by CALL
    call_fitting : (site : Site) → site.set ≡ s → site.block ≡ block → (own : Naming) → own.name ≡ name → (arguments : Expressions) (receivers : List Reference) → (says : Says site (OfCall own arguments receivers))
        → (inputs_fit ps vs says.phrase c.declared (inputs_of c.head) arguments ≡ true) × (outputs_fit ps vs says.phrase c.declared (outputs_of c.head) receivers ≡ true) × (SaysTrees ps says.phrase arguments × SaysOutputs ps says.phrase receivers)
    call_fitting site set at own same arguments receivers says =
        let p : Phrase = says.phrase in
        let here : p.around.block ≡ block = says.block ∙ at in
        let within : IsAmong p ps = subst (λ (x : Set). IsAmong p x.phrases) set says.among in
        let both = call_both p arguments receivers c.head c.called (call_fits_it p here own same arguments receivers (shaped p within (OfCall own arguments receivers) says.is)) (head_used p here own same arguments receivers within says.is) in
        let said : SaysTrees ps p arguments × SaysOutputs ps p receivers = subst (SaysArguments ps p) says.is (each_among (IsSaid ps) ps p (all_said files) within) in
        (both.0, both.1, said)

  module _ (site : Site) (set : site.set ≡ s) where
    here_names : (unit : ℕ) → inputs_at site.set unit ≡ inputs_at s unit
    here_names unit = ap (λ (x : Set). inputs_at x unit) set

    called_is : (name : List ℕ) (unit : ℕ) → referent site name ≡ BlockOf unit → IsCallee ps site.block name unit
    called_is name unit refers =
        callee_is ps looks templates site.block name unit
        (subst (λ (x : Set). elim (meant x.phrases site.block name) [ None ↦ builtin_referent name | Some k ↦ declaration_referent x.phrases x.constants k ] ≡ BlockOf unit) set refers)

    whole_here : (unit : ℕ) (parameter : Naming) → is_whole (parameter_named site.set unit parameter).shape ≡ true → is_whole (parameter_named s unit parameter).shape ≡ true
    whole_here unit parameter whole = subst (λ (x : Set). is_whole (parameter_named x unit parameter).shape ≡ true) set whole

    input_passes : (unit : ℕ) (parameter : Naming) (given : Reference) (arguments : Expressions) (receivers : List Reference) (calls : ByForm site unit arguments ⊎ ByCall site unit arguments receivers)
        → IsInput (inputs_at site.set unit) arguments parameter given → is_whole (parameter_named site.set unit parameter).shape ≡ true → Passes s site unit parameter given
    input_passes unit parameter given arguments receivers (inl form) passed whole =
        form_passes site.block form.1 unit (called_is form.1 unit form.3) site set refl form.0 arguments parameter given form.2
        (subst (λ l. IsInput l arguments parameter given) (here_names unit) passed) (whole_here unit parameter whole)
    input_passes unit parameter given arguments receivers (inr call) passed whole =
        let c = called_is call.0.name unit call.2 in
        let all = call_fitting site.block call.0.name unit c site set refl call.0 refl arguments receivers call.1 in
        let names = subst (λ l. IsInput l arguments parameter given) (here_names unit) passed in
        let one = input_said ps call.1.phrase (inputs_at s unit) arguments parameter given all.2.0 names in
        record {
          phrase = call.1.phrase;
          block = call.1.block;
          role = one.0;
          says = one.1;
          listed = input_so site.block call.0.name unit c arguments parameter given names;
          inside = site.block;
          called = call.0.name;
          callee = c;
          fits = inl (input_fit ps vs call.1.phrase c.declared (inputs_of c.head) (inputs_at s unit) arguments parameter given (inputs_so site.block call.0.name unit c) all.0 names, whole_here unit parameter whole);
        }

    -- an argument of a call
    pub passes : (unit : ℕ) (parameter : Naming) (given : Reference) → IsPassed site unit parameter given → Passes s site unit parameter given
    passes unit parameter given (inl one) = input_passes unit parameter given one.arguments one.receivers one.calls one.passed one.whole
    passes unit parameter given (inr one) =
        let call = one.calls in
        let c = called_is call.0.name unit call.2 in
        let all = call_fitting site.block call.0.name unit c site set refl call.0 refl one.arguments one.receivers call.1 in
        let names = subst (λ (x : Set). IsOutput (outputs_at x unit) one.receivers parameter given) set one.passed in
        record {
          phrase = call.1.phrase;
          block = call.1.block;
          role = roles.Output;
          says = output_said ps call.1.phrase (outputs_at s unit) one.receivers parameter given all.2.1 names;
          listed = output_so site.block call.0.name unit c one.receivers parameter given names;
          inside = site.block;
          called = call.0.name;
          callee = c;
          fits = inr (output_fit ps vs call.1.phrase c.declared (outputs_of c.head) (outputs_at s unit) one.receivers parameter given (outputs_so site.block call.0.name unit c) all.1 names, refl);
        }
