-- The code of CALL fits.
use Rattle.std.specs.Prelude.{◌≡◌, ◌==◌, ℕ, Bool, true, false, List, [], ◌∷◌, Option, Some, None, slice_get, if◌then◌else◌}
use Rattle.std.proofs.Common.{refl, sym, ap, subst, ◌∙◌}
use Rattle.std.proofs.lemmas.Bool.{and_parts, eq-eqb}
use Rattle.hal_grammar.specs.Leaves.{Naming}
use Rattle.hal_grammar.specs.Expressions.{Expressions, Reference, Refers}
use Rattle.hal_values.specs.declared.value.Kind.{Kind}
use Rattle.hal_meaning.specs.Calls.{Parameter, parameter_named, inputs_of, outputs_of}
use Rattle.hal_meaning.specs.Elements.{Shape, kinds_of}
use Rattle.hal_meaning.specs.Expressions.{inputs_at, outputs_at, sizes_named}
use Rattle.hal_meaning.specs.ReportNames.{first_place}
use Rattle.hal_meaning.specs.Variables.{Meant, MeantData, MeantConstant, MeantEvent, MeantBlock, MeantBuiltin, MeantNothing, name_meant, spot_named, is_arrayed}
use Rattle.hal_code.specs.declared.choice.Choice.{Choice}
use Rattle.hal_code.specs.declared.choice.Choice.TheVariants as choice
use Rattle.hal_code.specs.declared.instr.Instr.TheVariants as instr
use Rattle.hal_code.specs.declared.row.Block.{Block}
use Rattle.hal_code.specs.declared.row.ResultKind.{ResultKind}
use Rattle.hal_code.specs.declared.row.ResultKind.TheVariants as result
use Rattle.hal_code.specs.declared.row.Target.TheVariants as target
use Rattle.hal_code.specs.Blocks.{block_places}
use Rattle.hal_code.specs.Controlling as machine
use Rattle.hal_code.specs.Images as images
use Rattle.hal_code.specs.Effects.{Sorts, called_sorts}
use Rattle.hal_code.specs.Memory.{referred_shape}
use Rattle.hal_code.specs.Operands.{holds_of, is_known}
use Rattle.hal_code.specs.Sorts.{R, sort_of_result}
use Rattle.hal_agreement.specs.Codes.{Code}
use Rattle.hal_agreement.specs.Sites.{Site, here_at}
use Rattle.hal_agreement.specs.PlacedExpressions.{One, BoundAt, ParametersAt, CallAt, DataAt, ChosenAt, WholeAt}
use Rattle.hal_agreement.specs.PlacedStatements.{AssignedAt, CalledAt}
use Rattle.hal_fitting.specs.Fitting.{Ground, Fits}
use Rattle.hal_fitting.proofs.Joining.{nothing_fits, one_fits, suits_there, modest_fits, both_fit, fits_to}
use Rattle.hal_fit_expr.specs.Uses.{Uses}
use Rattle.hal_fit_expr.specs.Sorted.{data_fits, area_fits, places_fit}
use Rattle.hal_fit_expr.specs.Serving.{Serves}
use Rattle.hal_fit_expr.proofs.Given.{number_same}
use Rattle.hal_fit_expr.proofs.Expressed.{chosen_fits, arguments_there}
use Rattle.hal_fit.specs.Called.{areas_fit, CallFits}
use Rattle.hal_fit.specs.Supporting.{ReferTo}

-- a block that gives nothing leaves the stack as it is
abbrev given_back : Choice ResultKind → Sorts → Option Sorts
given_back r stack = elim r [ choice.Known kind ↦ elim (sort_of_result kind) [ None ↦ Some stack | Some one ↦ Some (one ∷ stack) ] | choice.Other byte ↦ None ]

nothing_back : (r : Choice ResultKind) (stack : Sorts) → machine.zero_of r ≡ None → is_known r ≡ true → given_back r stack ≡ Some stack
nothing_back (choice.Known result.Nothing) stack zero known = refl
nothing_back (choice.Known result.Integer) stack zero known = absurd (cc)
nothing_back (choice.Known result.Bits) stack zero known = absurd (cc)
nothing_back (choice.Known result.Text) stack zero known = absurd (cc)
nothing_back (choice.Other byte) stack zero known = absurd (cc)

holds_any : (o : Option ℕ) (n : ℕ) → o ≡ Some n → holds_of (λ (one : ℕ). true) o ≡ true
holds_any None n is = absurd (cc)
holds_any (Some one) n is = refl

module _ (code : Code) (g : Ground) (site : Site) (u : Uses) (serves : Serves code g site.set site.places u) where
  -- the address of data
  data_there : (P : Shape → ℕ → ℕ → Type 0) (path : List Naming) (m : Meant) (shape : ℕ) (of_places : Bool → Bool) (from to : ℕ) (stack : Sorts) → data_fits path of_places m ≡ true → DataAt P m from to
      → ((form : Shape) → of_places (is_arrayed (sizes_named path form)) ≡ true → P form from to → Fits code.image g from stack to (R shape ∷ stack)) → Fits code.image g from stack to (R shape ∷ stack)
  data_there P path (MeantData spot form) shape of_places from to stack fits at address = address form fits at
  data_there P path (MeantConstant v) shape of_places from to stack fits at address = absurd (at)
  data_there P path (MeantEvent e) shape of_places from to stack fits at address = absurd (at)
  data_there P path (MeantBlock unit) shape of_places from to stack fits at address = absurd (at)
  data_there P path (MeantBuiltin b) shape of_places from to stack fits at address = absurd (at)
  data_there P path MeantNothing shape of_places from to stack fits at address = absurd (at)

  area_there : (receiver : Reference) (kinds : List Kind) (from to : ℕ) (stack : Sorts) → area_fits u site receiver ≡ true → WholeAt code site kinds receiver from to
      → (shape : ℕ) × (images.kinds_of code.image shape ≡ kinds) × Fits code.image g from stack to (R shape ∷ stack)
  area_there (Refers place name path subscript) kinds from to stack fits at = (
    at.0,
    at.1,
    data_there (λ form begin end. ChosenAt code site (target.Shape at.0) path subscript (spot_named (here_at site) name) form begin end) path (name_meant (here_at site) name []) at.0
        (λ arrayed. places_fit u site arrayed subscript) from to stack fits (at.2 [])
        (λ form right there. chosen_fits code g site u serves subscript (target.Shape at.0) path (spot_named (here_at site) name) form from to stack right there),
  )

  -- ASSIGN arguments leave addresses that BIND takes, the last one first
  record Assigned (unit : ℕ) (names : List Naming) (from to : ℕ) (stack : Sorts) : Type 0 where
    pushed : Sorts
    fits : Fits code.image g from stack to pushed
    binds : (begin end : ℕ) → BoundAt code site unit names begin end → Fits code.image g begin pushed end stack

  bind_fits : (p : Parameter) (shape from to : ℕ) (stack : Sorts) → referred_shape (block_places code.image g.block) (first_place site.places p.number) ≡ Some shape
      → One code from (instr.Bind (first_place site.places p.number)) to → Fits code.image g from (R shape ∷ stack) to stack
  bind_fits p shape from to stack refers at =
      fits_to code.image g at.1
      (modest_fits code.image g (instr.Bind (first_place site.places p.number)) from (R shape ∷ stack) stack at.0 refl
      (holds_any (referred_shape (block_places code.image g.block) (first_place site.places p.number)) shape refers)
      (ap (λ o. elim o [ None ↦ None | Some wanted ↦ if wanted == shape then Some stack else None ]) refers ∙ ap (λ b. if b then Some stack else None) (eq-eqb shape shape refl)))

  assigned_there : (names : List Naming) (receivers : List Reference) (unit from to : ℕ) (stack : Sorts) → areas_fit u site receivers ≡ true → ReferTo code.image g.block site.set site.places unit names
      → AssignedAt code site unit names receivers from to → Assigned unit names from to stack
  assigned_there [] [] unit from to stack fits refer at =
      record { pushed = stack; fits = nothing_fits code.image g from to stack at; binds = λ begin end there. nothing_fits code.image g begin end stack there }
  assigned_there (name ∷ names) (receiver ∷ receivers) unit from to stack fits refer at =
      let both = and_parts (area_fits u site receiver) (areas_fit u site receivers) fits in
      let one = area_there receiver (kinds_of (parameter_named site.set unit name).shape) from at.0 stack both.0 at.1 in
      let rest = assigned_there names receivers unit at.0 to (R one.0 ∷ stack) both.1 refer.1 at.2 in
      record {
        pushed = rest.pushed;
        fits = both_fit code.image g one.2 rest.fits;
        binds = λ begin end there. both_fit code.image g (rest.binds begin there.0 there.1) (bind_fits (parameter_named site.set unit name) one.0 there.0 end stack (refer.0 one.0 one.1) there.2);
      }
  assigned_there [] (receiver ∷ receivers) unit from to stack fits refer at = absurd (at)
  assigned_there (name ∷ names) [] unit from to stack fits refer at = absurd (at)

  -- the call behind its arguments
  procedure_fits : (unit from to : ℕ) (given middle stack : Sorts) → u.calls unit ≡ true → CallAt code site unit false from to
      → ((number : ℕ) (row : Block) → slice_get code.image.blocks number ≡ Some row → is_known row.result ≡ true)
      → ((begin end : ℕ) → BoundAt code site unit (outputs_at site.set unit) begin end → Fits code.image g begin given end middle)
      → ((begin end : ℕ) → ParametersAt code site unit (inputs_at site.set unit) begin end → Fits code.image g begin middle end stack) → Fits code.image g from given to stack
  procedure_fits unit from to given middle stack calls at results binds stores =
      let served = serves.calls unit at.number at.body at.row calls at.named at.found at.block in
      let same = number_same site.set unit at.body at.found in
      let inputs : inputs_of at.body.head ≡ inputs_at site.set unit = ap (λ o. elim o [ None ↦ [] | Some b ↦ inputs_of b.head ]) (sym at.found) in
      let outputs : outputs_of at.body.head ≡ outputs_at site.set unit = ap (λ o. elim o [ None ↦ [] | Some b ↦ outputs_of b.head ]) (sym at.found) in
      let references : BoundAt code site unit (outputs_at site.set unit) from at.bound =
      subst (λ k. BoundAt code site k (outputs_at site.set unit) from at.bound) same (subst (λ names. BoundAt code site at.body.number names from at.bound) outputs at.references) in
      let parameters : ParametersAt code site unit (inputs_at site.set unit) at.bound at.middle =
      subst (λ k. ParametersAt code site k (inputs_at site.set unit) at.bound at.middle) same (subst (λ names. ParametersAt code site at.body.number names at.bound at.middle) inputs at.parameters) in
      let effect : called_sorts (slice_get code.image.blocks at.number) stack ≡ Some stack =
      ap (λ o. called_sorts o stack) at.block ∙ nothing_back at.row.result stack (served.procedure at.gives) (results at.number at.row at.block) in
      both_fit code.image g (binds from at.bound references)
      (both_fit code.image g (stores at.bound at.middle parameters)
      (fits_to code.image g at.call.1 (one_fits code.image g (instr.Call at.number) at.middle stack stack at.call.0 (suits_there code.image g (instr.Call at.number) served.may served.stands refl) effect)))

  -- CALL
  pub called_fits : (m : Meant) (arguments : Expressions) (receivers : List Reference) (from to : ℕ) (stack : Sorts) → CallFits u site arguments receivers m
      → ((number : ℕ) (row : Block) → slice_get code.image.blocks number ≡ Some row → is_known row.result ≡ true)
      → ((unit : ℕ) → u.calls unit ≡ true → ReferTo code.image g.block site.set site.places unit (outputs_at site.set unit)) → CalledAt code site arguments receivers m from to → Fits code.image g from stack to stack
  called_fits (MeantBlock unit) arguments receivers from to stack fits results refer at =
      let inputs = arguments_there code g site u serves arguments unit (inputs_at site.set unit) from at.0 stack fits.1 (serves.wholes unit fits.0) at.2 in
      let outputs = assigned_there (outputs_at site.set unit) receivers unit at.0 at.1 inputs.pushed fits.2 (refer unit fits.0) at.3 in
      both_fit code.image g inputs.fits
      (both_fit code.image g outputs.fits (procedure_fits unit at.1 to outputs.pushed inputs.pushed stack fits.0 at.4 results (λ begin end there. outputs.binds begin end there) (λ begin end there. inputs.stores begin end there)))
  called_fits (MeantData spot shape) arguments receivers from to stack fits results refer at = absurd (at)
  called_fits (MeantConstant v) arguments receivers from to stack fits results refer at = absurd (at)
  called_fits (MeantEvent e) arguments receivers from to stack fits results refer at = absurd (at)
  called_fits (MeantBuiltin b) arguments receivers from to stack fits results refer at = absurd (at)
  called_fits MeantNothing arguments receivers from to stack fits results refer at = absurd (at)
