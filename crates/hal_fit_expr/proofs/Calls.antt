-- The code of calls fits behind arguments that fit, and so does that of names.
use Rattle.std.specs.Prelude.{◌≡◌, ℕ, suc, pos, nat_lt, Bool, true, false, ◌&&◌, List, [], ◌∷◌, Option, Some, None, slice_get, if◌then◌else◌}
use Rattle.std.proofs.Common.{refl, sym, ap, subst, ◌∙◌}
use Rattle.std.proofs.lemmas.Bool.{and_parts}
use Rattle.hal_grammar.specs.Leaves.{Naming}
use Rattle.hal_grammar.specs.Units.{Head, Function}
use Rattle.hal_values.specs.declared.value.Value.{Value}
use Rattle.hal_values.specs.declared.value.Value.TheVariants as value
use Rattle.hal_states.specs.Spots.{Own, Held}
use Rattle.hal_meaning.specs.Bodies.{Body}
use Rattle.hal_meaning.specs.Calls.{Parameter, inputs_of, outputs_of, is_function, zero_of}
use Rattle.hal_meaning.specs.Elements.{chosen, kinds_of}
use Rattle.hal_meaning.specs.Expressions.{inputs_at}
use Rattle.hal_meaning.specs.ReportNames.{first_place}
use Rattle.hal_meaning.specs.Sets.{body_at}
use Rattle.hal_meaning.specs.Variables.{Meant, MeantData, MeantConstant, MeantEvent, MeantBlock, MeantBuiltin, MeantNothing, name_meant, kind_of_first}
use Rattle.hal_code.specs.declared.choice.Choice.{Choice}
use Rattle.hal_code.specs.declared.choice.Choice.TheVariants as choice
use Rattle.hal_code.specs.declared.instr.Instr.TheVariants as instr
use Rattle.hal_code.specs.declared.row.ResultKind.{ResultKind}
use Rattle.hal_code.specs.declared.row.ResultKind.TheVariants as result
use Rattle.hal_code.specs.Blocks.{block_places}
use Rattle.hal_code.specs.Controlling as machine
use Rattle.hal_code.specs.Images as images
use Rattle.hal_code.specs.Effects.{Sorts, called_sorts}
use Rattle.hal_code.specs.Memory.{own_memory, lies_from}
use Rattle.hal_code.specs.Sorts.{Sort, I, B, T, A, R, sort_of, sort_of_result, takes}
use Rattle.hal_agreement.specs.Codes.{Code}
use Rattle.hal_agreement.specs.Sites.{Site, here_at}
use Rattle.hal_agreement.specs.PlacedExpressions.{One, AddressAt, BoundAt, EitherAt, ParametersAt, CallAt, ValueAt, NameAt}
use Rattle.hal_fitting.specs.Fitting.{Ground, Fits}
use Rattle.hal_fitting.proofs.Joining.{nothing_fits, one_fits, suits_there, modest_fits, both_fit, fits_to}
use Rattle.hal_fit_expr.specs.Uses.{Uses}
use Rattle.hal_fit_expr.specs.Sorted.{sort_of_value, sort_of_body, sort_of_call, sort_of_meant, sort_of_name, passed_fits}
use Rattle.hal_fit_expr.specs.Serving.{HasPlaces, Serves}
use Rattle.hal_fit_expr.proofs.Given.{then_is, given_then, one_value, number_same}
use Rattle.hal_fit_expr.proofs.Leaves.{value_fits, fetch_fits, address_fits, event_fits, alone_fits}

-- a function has no ASSIGN parameters
none_assigned : (head : Head) → is_function head ≡ true → outputs_of head ≡ []
none_assigned (Function place inputs returns mode) is = refl
none_assigned other is = absurd (cc)

-- what a block gives back whose zero value is that of this sort
abbrev given_back : Choice ResultKind → Sorts → Option Sorts
given_back r stack = elim r [ choice.Known kind ↦ elim (sort_of_result kind) [ None ↦ Some stack | Some one ↦ Some (one ∷ stack) ] | choice.Other byte ↦ None ]

value_given : (v w : Value) (s t : Sort) → Some v ≡ Some w → sort_of_value v ≡ Some t → sort_of_value w ≡ Some s → t ≡ s
value_given v w s t same of_v of_w = one_value (sort_of_value w) t s (ap sort_of_value (let equal : w ≡ v = cc in equal) ∙ of_v) of_w

gives_back : (r : Choice ResultKind) (v : Value) (s : Sort) (stack : Sorts) → machine.zero_of r ≡ Some v → sort_of_value v ≡ Some s → given_back r stack ≡ Some (s ∷ stack)
gives_back (choice.Known result.Nothing) v s stack zero sorted = absurd (cc)
gives_back (choice.Known result.Integer) v s stack zero sorted = ap (λ t. Some (t ∷ stack)) (value_given (value.Int (pos 0)) v s I zero refl sorted)
gives_back (choice.Known result.Bits) v s stack zero sorted = ap (λ t. Some (t ∷ stack)) (value_given (value.Bits 1 0) v s B zero refl sorted)
gives_back (choice.Known result.Text) v s stack zero sorted = ap (λ t. Some (t ∷ stack)) (value_given (value.Text []) v s T zero refl sorted)
gives_back (choice.Other byte) v s stack zero sorted = absurd (cc)

-- what is known of a call that has a sort
record Sorted (u : Uses) (site : Site) (unit : ℕ) (s : Sort) : Type 0 where
  body : Body
  found : body_at site.set unit ≡ Some body
  calls : u.calls unit ≡ true
  worth : sort_of_value (zero_of body.head) ≡ Some s

sorted_call : (u : Uses) (site : Site) (unit : ℕ) (s : Sort) → sort_of_call u site unit ≡ Some s → Sorted u site unit s
sorted_call u site unit s is =
    let body = then_is (sort_of_body u unit) (body_at site.set unit) s is in
    let given = given_then (u.calls unit && is_function body.0.head) (sort_of_value (zero_of body.0.head)) s body.2
    in record { body = body.0; found = body.1; calls = (and_parts (u.calls unit) (is_function body.0.head) given.0).0; worth = given.1 }

pub may_be_called : (u : Uses) (site : Site) (unit : ℕ) (s : Sort) → sort_of_call u site unit ≡ Some s → u.calls unit ≡ true
may_be_called u site unit s is = (sorted_call u site unit s is).calls

-- what takes an argument, on a stack, is the store of a parameter
abbrev pub Stores : Code → Ground → Site → ℕ → List Naming → Sorts → Sorts → Type 0
Stores code g site unit names pushed stack = (begin end : ℕ) → ParametersAt code site unit names begin end → Fits code.image g begin pushed end stack

module _ (code : Code) (g : Ground) (site : Site) (u : Uses) (serves : Serves code g site.set site.places u) where
  none_bound : (unit : ℕ) (names : List Naming) (from to : ℕ) → names ≡ [] → BoundAt code site unit names from to → from ≡ to
  none_bound unit names from to none at = subst (λ l. BoundAt code site unit l from to) none at

  -- a call behind its arguments
  pub call_fits : (unit : ℕ) (s : Sort) (from to : ℕ) (pushed stack : Sorts) → sort_of_call u site unit ≡ Some s → CallAt code site unit true from to → Stores code g site unit (inputs_at site.set unit) pushed stack
      → Fits code.image g from pushed to (s ∷ stack)
  call_fits unit s from to pushed stack sorted at stores =
      let known = sorted_call u site unit s sorted in
      let same : known.body ≡ at.body = one_value (body_at site.set unit) known.body at.body known.found at.found in
      let served = serves.calls unit at.number at.body at.row known.calls at.named at.found at.block in
      let begins = none_bound at.body.number (outputs_of at.body.head) from at.bound (none_assigned at.body.head at.gives) at.references in
      let inputs : inputs_of at.body.head ≡ inputs_at site.set unit = ap (λ o. elim o [ None ↦ [] | Some b ↦ inputs_of b.head ]) (sym at.found) in
      let parameters : ParametersAt code site unit (inputs_at site.set unit) at.bound at.middle =
      subst (λ k. ParametersAt code site k (inputs_at site.set unit) at.bound at.middle) (number_same site.set unit at.body at.found)
      (subst (λ names. ParametersAt code site at.body.number names at.bound at.middle) inputs at.parameters) in
      let worth : sort_of_value (zero_of at.body.head) ≡ Some s = subst (λ b. sort_of_value (zero_of b.head) ≡ Some s) same known.worth in
      let effect : called_sorts (slice_get code.image.blocks at.number) stack ≡ Some (s ∷ stack) =
      ap (λ o. called_sorts o stack) at.block ∙ gives_back at.row.result (zero_of at.body.head) s stack (served.function at.gives) worth in
      let call = fits_to code.image g at.call.1
      (one_fits code.image g (instr.Call at.number) at.middle stack (s ∷ stack) at.call.0 (suits_there code.image g (instr.Call at.number) served.may served.stands refl) effect) in
      both_fit code.image g (subst (λ m. Fits code.image g m pushed at.middle stack) (sym begins) (stores at.bound at.middle parameters)) call

  -- the value of what a name means, without subscripts
  pub meant_fits : (path : List Naming) (m : Meant) (s : Sort) (from to : ℕ) (stack : Sorts) → sort_of_meant u site path m ≡ Some s → ValueAt code site path [] m from to → Fits code.image g from stack to (s ∷ stack)
  meant_fits path (MeantData spot shape) s from to stack sorted at =
      subst (λ t. Fits code.image g from stack to (t ∷ stack)) (one_value (Some (sort_of (kind_of_first (chosen path shape.components)))) (sort_of (kind_of_first (chosen path shape.components))) s refl sorted)
      (both_fit code.image g (address_fits code g serves.own (kind_of_first (chosen path shape.components)) _ from stack at.0) (fetch_fits code g (kind_of_first (chosen path shape.components)) (suc from) to stack at.1))
  meant_fits path (MeantConstant v) s from to stack sorted at = value_fits code g v s from to stack sorted at
  meant_fits path (MeantEvent e) s from to stack sorted at =
      let given = given_then (u.asks && nat_lt e u.events) (Some B) s sorted in
      let parts = and_parts u.asks (nat_lt e u.events) given.0 in
      subst (λ t. Fits code.image g from stack to (t ∷ stack)) (one_value (Some B) B s refl given.1)
      (event_fits code g e from to stack (serves.asks parts.0) (ap (nat_lt e) serves.events ∙ parts.1) at)
  meant_fits path (MeantBlock unit) s from to stack sorted at =
      call_fits unit s from to stack stack sorted at.1
      (λ begin end there. nothing_fits code.image g begin end stack (subst (λ names. ParametersAt code site unit names begin end) at.0 there))
  meant_fits path (MeantBuiltin b) s from to stack sorted at = alone_fits code g u b s from to stack serves.asks sorted at
  meant_fits path MeantNothing s from to stack sorted at = absurd (at)

  pub name_fits : (name : List ℕ) (path : List Naming) (s : Sort) (from to : ℕ) (stack : Sorts) → sort_of_name u site name path ≡ Some s → NameAt code site name path from to → Fits code.image g from stack to (s ∷ stack)
  name_fits name path s from to stack sorted at = meant_fits path (name_meant (here_at site) name []) s from to stack sorted (at [])

  -- what stores an argument
  abbrev StoredAt : Bool → Parameter → ℕ → ℕ → Type 0
  StoredAt b p from to =
      EitherAt b (λ begin end. One code begin (instr.Copy (first_place site.places p.number)) end)
      (λ begin end. ((held : List Held) → AddressAt code held (kind_of_first p.shape.components) (Own (first_place site.places p.number)) begin) × One code (suc begin) instr.Keep end) from to

  -- an argument that fits leaves what its parameter takes
  pub record Passed (b : Bool) (p : Parameter) (from to : ℕ) (stack : Sorts) : Type 0 where
    pub sort : Sort
    pub fits : Fits code.image g from stack to (sort ∷ stack)
    pub stores : (begin end : ℕ) → StoredAt b p begin end → Fits code.image g begin (sort ∷ stack) end stack

  copy_fits : (p : Parameter) (shape : ℕ) (from to : ℕ) (stack : Sorts) → HasPlaces code.image g site.places p → images.kinds_of code.image shape ≡ kinds_of p.shape
      → One code from (instr.Copy (first_place site.places p.number)) to → Fits code.image g from (R shape ∷ stack) to stack
  copy_fits p shape from to stack has same at =
      fits_to code.image g at.1
      (modest_fits code.image g (instr.Copy (first_place site.places p.number)) from (R shape ∷ stack) stack at.0 refl has.there
      (ap (λ b. if b then Some stack else None) (ap (lies_from (own_memory (block_places code.image g.block)) (first_place site.places p.number)) same ∙ has.kinds)))

  keep_fits : (p : Parameter) (s : Sort) (from to : ℕ) (stack : Sorts) → takes (kind_of_first p.shape.components) s ≡ true
      → ((held : List Held) → AddressAt code held (kind_of_first p.shape.components) (Own (first_place site.places p.number)) from) × One code (suc from) instr.Keep to → Fits code.image g from (s ∷ stack) to stack
  keep_fits p s from to stack fits at =
      both_fit code.image g (address_fits code g serves.own (kind_of_first p.shape.components) _ from (s ∷ stack) (at.0 []))
      (fits_to code.image g at.1.1 (modest_fits code.image g instr.Keep (suc from) (A (kind_of_first p.shape.components) ∷ s ∷ stack) stack at.1.0 refl refl (ap (λ b. if b then Some stack else None) fits)))

  pub passed_by : (W P : ℕ → ℕ → Type 0) (b whole plain : Bool) (p : Parameter) (from to : ℕ) (stack : Sorts) → passed_fits b whole plain ≡ true → EitherAt b W P from to → (b ≡ true → HasPlaces code.image g site.places p)
      → (whole ≡ true → W from to → (shape : ℕ) × (images.kinds_of code.image shape ≡ kinds_of p.shape) × Fits code.image g from stack to (R shape ∷ stack))
      → (plain ≡ true → P from to → (s : Sort) × (takes (kind_of_first p.shape.components) s ≡ true) × Fits code.image g from stack to (s ∷ stack)) → Passed b p from to stack
  passed_by W P true whole plain p from to stack fits at has of_whole of_plain =
      let area = of_whole fits at in record { sort = R area.0; fits = area.2; stores = λ begin end there. copy_fits p area.0 begin end stack (has refl) area.1 there }
  passed_by W P false whole plain p from to stack fits at has of_whole of_plain =
      let one = of_plain fits at in record { sort = one.0; fits = one.2; stores = λ begin end there. keep_fits p one.0 begin end stack one.1 there }
