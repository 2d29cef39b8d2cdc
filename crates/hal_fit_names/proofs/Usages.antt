-- Uses of names that fit: what may be used as a value, taken as a receiver, changed or called.
use Rattle.std.proofs.Common.{◌≡◌, ℕ, Bool, true, false, not, ◌||◌, List, Option, Some, None, refl, ap, ◌∙◌}
use Rattle.std.specs.Prelude.{if◌then◌else◌}
use Rattle.std.specs.Option.{is_some}
use Rattle.hal_base.specs.declared.refusal.Place.{Place}
use Rattle.hal_grammar.specs.Expressions.{Expressions}
use Rattle.hal_grammar.specs.Declarations.{Kind, IntegerKind, BooleanKind, EventKind, BitKind, CharacterKind, StructureKind}
use Rattle.hal_grammar.specs.Units.{Head, Program, Compool, Task, Procedure, Function}
use Rattle.hal_phrases.specs.Phrases.{Phrase}
use Rattle.hal_scope.specs.declared.builtin.Builtin.{Builtin}
use Rattle.hal_scope.specs.declared.builtin.Form.{Form}
use Rattle.hal_scope.specs.declared.builtin.Form.TheVariants as form
use Rattle.hal_scope.specs.declared.sort.Sort.{Sort}
use Rattle.hal_scope.specs.declared.usage.Usage.TheVariants as usage
use Rattle.hal_scope.specs.Builtins.{builtin_named, form_of}
use Rattle.hal_scope.specs.Sorts.{sort_of_type, sort_of_head, is_known, is_operand, fits_builtin}
use Rattle.hal_scope.specs.Uses.{is_in_event, sort_at, is_eventful, fits_declared, fits_named}
use Rattle.hal_kinds.specs.Data.{is_event_type}
use Rattle.hal_uses.specs.Calls.{head_fault}
use Rattle.hal_meaning.specs.Bodies.{is_called_head, is_process_head}
use Rattle.hal_meaning.specs.Calls.{is_function}

-- a built-in function whose name is a value has no list
pub alone_form : (f : Form) → is_known usage.Value f ≡ true → (not (is_known usage.Value f) || fits_builtin usage.Value f) ≡ true → f ≡ form.Alone
alone_form form.Alone is fits = refl
alone_form form.Listed is fits = absurd (cc)
alone_form form.Arrayed is fits = absurd (cc)

-- a built-in function takes no value
not_received : (f : Form) → is_known usage.Receiver f ≡ true → (not (is_known usage.Receiver f) || fits_builtin usage.Receiver f) ≡ true → ⊥
not_received form.Alone is fits = cc
not_received form.Listed is fits = cc
not_received form.Arrayed is fits = cc

-- a built-in function is no ASSIGN argument
pub no_output : {X : Type 0} (o : Option Builtin) (place : Place) → elim o [ None ↦ false | Some b ↦ is_known usage.Output (form_of b) ] ≡ true → ◌≡◌ {A = Option (ℕ × Place)} (if is_some o then Some (722, place) else None) None → X
no_output None place known_ none = absurd (cc)
no_output (Some b) place known_ none = absurd (cc)

-- what may be signalled is an event
pub event_type : (ps : List Phrase) (q : Phrase) (o : Option Kind) → fits_declared ps q usage.Event (Some (sort_of_type o)) ≡ true → is_event_type o ≡ true
unfolding sort_of_type is_event_type
event_type ps q None fits = absurd (cc)
event_type ps q (Some (EventKind place)) fits = refl
event_type ps q (Some (IntegerKind place)) fits = absurd (cc)
event_type ps q (Some (BooleanKind place)) fits = absurd (cc)
event_type ps q (Some (BitKind place size)) fits = absurd (cc)
event_type ps q (Some (CharacterKind place size)) fits = absurd (cc)
event_type ps q (Some (StructureKind place template copies)) fits = absurd (cc)

-- data are not called
pub no_call : (ps : List Phrase) (q : Phrase) (o : Option Kind) → fits_declared ps q usage.Called (Some (sort_of_type o)) ≡ true → ⊥
unfolding sort_of_type
no_call ps q None fits = cc
no_call ps q (Some (EventKind place)) fits = cc
no_call ps q (Some (IntegerKind place)) fits = cc
no_call ps q (Some (BooleanKind place)) fits = cc
no_call ps q (Some (BitKind place size)) fits = cc
no_call ps q (Some (CharacterKind place size)) fits = cc
no_call ps q (Some (StructureKind place template copies)) fits = cc

-- a built-in function is not called
pub no_builtin_call : {X : Type 0} (o : Option Builtin) → elim o [ None ↦ false | Some b ↦ is_known usage.Called (form_of b) ] ≡ true
    → elim o [ None ↦ true | Some b ↦ not (is_known usage.Called (form_of b)) || fits_builtin usage.Called (form_of b) ] ≡ true → X
no_builtin_call None known_ fits = absurd (cc)
no_builtin_call (Some b) known_ fits = absurd (by (form_of b) known_ fits) where
  by : (f : Form) → is_known usage.Called f ≡ true → (not (is_known usage.Called f) || fits_builtin usage.Called f) ≡ true → ⊥
  by form.Alone known_ fits = cc
  by form.Listed known_ fits = cc
  by form.Arrayed known_ fits = cc

-- a built-in function is no event
pub no_event : {X : Type 0} (o : Option Builtin) → elim o [ None ↦ false | Some b ↦ is_known usage.Event (form_of b) ] ≡ true
    → elim o [ None ↦ true | Some b ↦ not (is_known usage.Event (form_of b)) || fits_builtin usage.Event (form_of b) ] ≡ true → X
no_event None known_ fits = absurd (cc)
no_event (Some b) known_ fits = absurd (by (form_of b) known_ fits) where
  by : (f : Form) → is_known usage.Event f ≡ true → (not (is_known usage.Event f) || fits_builtin usage.Event f) ≡ true → ⊥
  by form.Alone known_ fits = cc
  by form.Listed known_ fits = cc
  by form.Arrayed known_ fits = cc

-- a built-in function is no variable of DO FOR
pub no_variable : {X : Type 0} (o : Option Builtin) (place : Place) → elim o [ None ↦ false | Some b ↦ is_known usage.Variable (form_of b) ] ≡ true → ◌≡◌ {A = Option (ℕ × Place)} (if is_some o then Some (712, place) else None) None → X
no_variable None place known_ none = absurd (cc)
no_variable (Some b) place known_ none = absurd (cc)

-- a built-in function is no receiver
pub no_builtin : {X : Type 0} (o : Option Builtin) → elim o [ None ↦ false | Some b ↦ is_known usage.Receiver (form_of b) ] ≡ true
    → elim o [ None ↦ true | Some b ↦ not (is_known usage.Receiver (form_of b)) || fits_builtin usage.Receiver (form_of b) ] ≡ true → X
no_builtin None known_ fits = absurd (cc)
no_builtin (Some b) known_ fits = absurd (not_received (form_of b) known_ fits)

-- a name that is known and fits behind UNTIL of SCHEDULE, where no event stands, is known and fits as a value
pub known_same : (o : Option Builtin) → ◌≡◌ {A = Bool} (elim o [ None ↦ false | Some b ↦ is_known usage.EventOrTime (form_of b) ]) (elim o [ None ↦ false | Some b ↦ is_known usage.Value (form_of b) ])
known_same None = refl
known_same (Some b) = by (form_of b) where
  by : (f : Form) → is_known usage.EventOrTime f ≡ is_known usage.Value f
  by form.Alone = refl
  by form.Listed = refl
  by form.Arrayed = refl

fits_same : (o : Option Builtin) → ◌≡◌ {A = Bool} (elim o [ None ↦ true | Some b ↦ not (is_known usage.EventOrTime (form_of b)) || fits_builtin usage.EventOrTime (form_of b) ])
    (elim o [ None ↦ true | Some b ↦ not (is_known usage.Value (form_of b)) || fits_builtin usage.Value (form_of b) ])
fits_same None = refl
fits_same (Some b) = by (form_of b) where
  by : (f : Form) → (not (is_known usage.EventOrTime f) || fits_builtin usage.EventOrTime f) ≡ (not (is_known usage.Value f) || fits_builtin usage.Value f)
  by form.Alone = refl
  by form.Listed = refl
  by form.Arrayed = refl

-- false beside another adds nothing
or_none : (b : Bool) → (b || false) ≡ b
or_none true = refl
or_none false = refl

-- what is declared and fits behind UNTIL of SCHEDULE, where no event stands, fits as a value
declared_same : (ps : List Phrase) (q : Phrase) (o : Option Sort) → is_in_event ps q ≡ false → fits_declared ps q usage.EventOrTime o ≡ fits_declared ps q usage.Value o
declared_same ps q None calm = refl
declared_same ps q (Some s) calm = ap (λ b. is_operand s || b) calm ∙ or_none (is_operand s)

-- so does what a name means
pub limit_fits : (ps : List Phrase) (q : Phrase) (name : List ℕ) (o : Option ℕ) → is_in_event ps q ≡ false
    → ◌≡◌ {A = Bool} (elim o [ None ↦ fits_named name usage.EventOrTime | Some k ↦ fits_declared ps q usage.EventOrTime (sort_at ps k) ]) (elim o [ None ↦ fits_named name usage.Value | Some k ↦ fits_declared ps q usage.Value (sort_at ps k) ])
limit_fits ps q name None calm = fits_same (builtin_named name)
limit_fits ps q name (Some k) calm = declared_same ps q (sort_at ps k) calm

-- of templates of units that aren't called that of a process alone is used as a value
pub value_process : (ps : List Phrase) (q : Phrase) (h : Head) → is_function h ≡ false → fits_declared ps q usage.Value (Some (sort_of_head h)) ≡ true → (is_process_head h ≡ true) × (is_eventful (Some (sort_of_head h)) ≡ true)
unfolding sort_of_head is_eventful
value_process ps q (Program place) none fits = (refl, refl)
value_process ps q (Task place) none fits = (refl, refl)
value_process ps q (Compool place) none fits = absurd (cc)
value_process ps q (Procedure place inputs outputs mode) none fits = absurd (cc)
value_process ps q (Function place inputs returns mode) none fits = absurd (cc)

-- no unit is changed as an event
pub unchanged : {X : Type 0} (ps : List Phrase) (q : Phrase) (h : Head) → fits_declared ps q usage.Event (Some (sort_of_head h)) ≡ true → X
unfolding sort_of_head
unchanged ps q (Program place) fits = absurd (cc)
unchanged ps q (Task place) fits = absurd (cc)
unchanged ps q (Compool place) fits = absurd (cc)
unchanged ps q (Procedure place inputs outputs mode) fits = absurd (cc)
unchanged ps q (Function place inputs returns mode) fits = absurd (cc)

-- a unit that is no FUNCTION has no call form
pub unformed : {X : Type 0} (ps : List Phrase) (block : ℕ) (place : Place) (h : Head) (ts : Expressions) → is_function h ≡ false → head_fault ps block place h ts ≡ None → X
unfolding head_fault
unformed ps block place (Function at_ inputs returns mode) ts is none = absurd (let other : true ≡ false = is in cc)
unformed ps block place (Program at_) ts is none = absurd (cc)
unformed ps block place (Task at_) ts is none = absurd (cc)
unformed ps block place (Compool at_) ts is none = absurd (cc)
unformed ps block place (Procedure at_ inputs outputs mode) ts is none = absurd (cc)

-- a process and a COMPOOL are not called
pub uncalled : {X : Type 0} (ps : List Phrase) (q : Phrase) (h : Head) → is_called_head h ≡ false → fits_declared ps q usage.Called (Some (sort_of_head h)) ≡ true → X
unfolding sort_of_head
uncalled ps q (Program place) none fits = absurd (cc)
uncalled ps q (Task place) none fits = absurd (cc)
uncalled ps q (Compool place) none fits = absurd (cc)
uncalled ps q (Procedure place inputs outputs mode) none fits = absurd (cc)
uncalled ps q (Function place inputs returns mode) none fits = absurd (cc)
