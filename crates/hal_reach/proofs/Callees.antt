-- Blocks that are called are units of the set.
use Rattle.std.proofs.Common.{rules, ◌⊎◌, inl, inr, ◌≡◌, ◌==◌, ℕ, zero, suc, Bool, true, false, List, [], ◌∷◌, Option, Some, None, slice_get, filter_map, if◌then◌else◌, refl, sym, subst}
use Rattle.std.specs.Option.{option_and_then}
use Rattle.std.specs.List.{cons_option}
use Rattle.hal_grammar.specs.Expressions.{Reference, Refers}
use Rattle.hal_scope.specs.Sorts.{used, use_of_reference}
use Rattle.hal_phrases.specs.declared.role.Role.{Role}
use Rattle.hal_phrases.specs.Phrases.{Node, Phrase, OfFile, OfInclude, OfTemplate, OfUnit, OfParameter, OfClose, OfDeclare, OfItem, OfStructure, OfPart, OfStructureType, OfInitial, OfInitialName, OfLabel, OfExpression, OfDecimal, OfCallForm, OfReference, OfSubscriptName, OfAssignment, OfGroup, OfTemporaryGroup, OfVariable, OfExit, OfRepeat, OfReturn, OfCall, OfRead, OfWrite, OfUpdate, OfRealTime, OfProcess, OfEvent, OfHandler, OfResponse, OfOffError, OfSendError}
use Rattle.hal_meaning.specs.Bodies.{is_unit, is_called, is_process, called_block, callee_at, callee, callees, meant}
use Rattle.hal_meaning.specs.Places.{unit_numbers}
use Rattle.hal_reach.specs.Calls.{called_by_reference}
use Rattle.hal_reach.proofs.Within.{Has, HasAll}

-- what a reference's name calls
pub by_reference : (ps : List Phrase) (block : ℕ) (r : Role) (reference : Reference) → callee_at ps block (OfReference r reference) ≡ called_by_reference ps block reference
unfolding used use_of_reference
by_reference ps block r (Refers place name further subscript) = refl

-- a node that is called, or a process, is a unit
pub record IsOther (node : Node) : Type 0 where
  pub called : is_called node ≡ false
  pub process : is_process node ≡ false

pub sort_of : (node : Node) → (is_unit node ≡ true) ⊎ IsOther node
sort_of (OfFile prefaces name) = inr (record { called = refl; process = refl })
sort_of (OfInclude name) = inr (record { called = refl; process = refl })
sort_of (OfTemplate name head list) = inr (record { called = refl; process = refl })
sort_of (OfUnit name head list) = inl refl
sort_of (OfParameter name output) = inr (record { called = refl; process = refl })
sort_of (OfClose name) = inr (record { called = refl; process = refl })
sort_of (OfDeclare common) = inr (record { called = refl; process = refl })
sort_of (OfItem common one) = inr (record { called = refl; process = refl })
sort_of (OfStructure name parts) = inr (record { called = refl; process = refl })
sort_of (OfPart bottom part) = inr (record { called = refl; process = refl })
sort_of (OfStructureType place template) = inr (record { called = refl; process = refl })
sort_of (OfInitial initial) = inr (record { called = refl; process = refl })
sort_of (OfInitialName name) = inr (record { called = refl; process = refl })
sort_of (OfLabel name) = inr (record { called = refl; process = refl })
sort_of (OfExpression r tree) = inr (record { called = refl; process = refl })
sort_of (OfDecimal r place) = inr (record { called = refl; process = refl })
sort_of (OfCallForm place name arguments) = inr (record { called = refl; process = refl })
sort_of (OfReference r reference) = inr (record { called = refl; process = refl })
sort_of (OfSubscriptName name) = inr (record { called = refl; process = refl })
sort_of (OfAssignment receivers tree) = inr (record { called = refl; process = refl })
sort_of (OfGroup labels looping) = inr (record { called = refl; process = refl })
sort_of (OfTemporaryGroup labels variable) = inr (record { called = refl; process = refl })
sort_of (OfVariable name) = inr (record { called = refl; process = refl })
sort_of (OfExit place label) = inr (record { called = refl; process = refl })
sort_of (OfRepeat place label) = inr (record { called = refl; process = refl })
sort_of (OfReturn place tree) = inr (record { called = refl; process = refl })
sort_of (OfCall name arguments receivers) = inr (record { called = refl; process = refl })
sort_of (OfRead place) = inr (record { called = refl; process = refl })
sort_of (OfWrite place) = inr (record { called = refl; process = refl })
sort_of (OfUpdate place labels) = inr (record { called = refl; process = refl })
sort_of (OfRealTime place) = inr (record { called = refl; process = refl })
sort_of (OfProcess name) = inr (record { called = refl; process = refl })
sort_of (OfEvent event) = inr (record { called = refl; process = refl })
sort_of (OfHandler place selector) = inr (record { called = refl; process = refl })
sort_of (OfResponse place selector) = inr (record { called = refl; process = refl })
sort_of (OfOffError place selector) = inr (record { called = refl; process = refl })
sort_of (OfSendError group_at group number_at number) = inr (record { called = refl; process = refl })

-- what a block that may be called is
abbrev pub IsCalled : List Phrase → Option ℕ → Type 0
IsCalled ps None = Prim.Unit {0}
IsCalled ps (Some k) = Has (unit_numbers ps) k

number_has : (b : Bool) (n : ℕ) (ns : List ℕ) (k : ℕ) → Has ns k → Has (cons_option (if b then Some n else None) ns) k
number_has true n ns k has = search (rules, has)
number_has false n ns k has = has

-- a unit of the list is among the units
pub has_unit : (ps : List Phrase) (i : ℕ) (p : Phrase) → slice_get ps i ≡ Some p → is_unit p.node ≡ true → Has (unit_numbers ps) p.number
has_unit [] i p at is = search rules
has_unit (q ∷ qs) zero p at is = search (rules, at, is)
has_unit (q ∷ qs) (suc i) p at is = number_has (is_unit q.node) q.number (unit_numbers qs) p.number (has_unit qs i p at is)

-- a phrase that is called is a unit
called_unit : (b : Bool) (k : ℕ) (ps : List Phrase) → (b ≡ true → Has (unit_numbers ps) k) → IsCalled ps (if b then Some k else None)
called_unit true k ps has = has refl
called_unit false k ps has = tt

is_unit_called : (node : Node) → (is_unit node ≡ true) ⊎ IsOther node → is_called node ≡ true → is_unit node ≡ true
is_unit_called node (inl is) called = is
is_unit_called node (inr other) called = search (rules, other.called, called)

called_at : (ps : List Phrase) (i : ℕ) (o : Option Phrase) → slice_get ps i ≡ o → IsCalled ps (option_and_then (λ (q : Phrase). if is_called q.node then Some q.number else None) o)
called_at ps i None at = tt
called_at ps i (Some q) at = called_unit (is_called q.node) q.number ps (λ called. has_unit ps i q at (is_unit_called q.node (sort_of q.node) called))

block_is : (ps : List Phrase) (o : Option ℕ) → IsCalled ps (called_block ps o)
block_is ps None = tt
block_is ps (Some i) = called_at ps i (slice_get ps i) refl

node_is : (ps : List Phrase) (block : ℕ) (node : Node) → IsCalled ps (callee_at ps block node)
node_is ps block (OfFile prefaces name) = tt
node_is ps block (OfInclude name) = tt
node_is ps block (OfTemplate name head list) = tt
node_is ps block (OfUnit name head list) = tt
node_is ps block (OfParameter name output) = tt
node_is ps block (OfClose name) = tt
node_is ps block (OfDeclare common) = tt
node_is ps block (OfItem common one) = tt
node_is ps block (OfStructure name parts) = tt
node_is ps block (OfPart bottom part) = tt
node_is ps block (OfStructureType place template) = tt
node_is ps block (OfInitial initial) = tt
node_is ps block (OfInitialName name) = tt
node_is ps block (OfLabel name) = tt
node_is ps block (OfExpression r tree) = tt
node_is ps block (OfDecimal r place) = tt
node_is ps block (OfCallForm place name arguments) = block_is ps (meant ps block name)
node_is ps block (OfReference r (Refers place name further subscript)) = subst (IsCalled ps) (sym (by_reference ps block r (Refers place name further subscript))) (block_is ps (meant ps block name))
node_is ps block (OfSubscriptName name) = block_is ps (meant ps block name.name)
node_is ps block (OfAssignment receivers tree) = tt
node_is ps block (OfGroup labels looping) = tt
node_is ps block (OfTemporaryGroup labels variable) = tt
node_is ps block (OfVariable name) = tt
node_is ps block (OfExit place label) = tt
node_is ps block (OfRepeat place label) = tt
node_is ps block (OfReturn place tree) = tt
node_is ps block (OfCall name arguments receivers) = block_is ps (meant ps block name.name)
node_is ps block (OfRead place) = tt
node_is ps block (OfWrite place) = tt
node_is ps block (OfUpdate place labels) = tt
node_is ps block (OfRealTime place) = tt
node_is ps block (OfProcess name) = tt
node_is ps block (OfEvent event) = tt
node_is ps block (OfHandler place selector) = tt
node_is ps block (OfResponse place selector) = tt
node_is ps block (OfOffError place selector) = tt
node_is ps block (OfSendError group_at group number_at number) = tt

-- the block that a phrase calls is a unit
pub callee_is : (ps : List Phrase) (p : Phrase) → IsCalled ps (callee ps p)
callee_is ps p = node_is ps p.around.block p.node

has_one : (ps : List Phrase) (b : Bool) (to : Option ℕ) (ks : List ℕ) → IsCalled ps to → HasAll (unit_numbers ps) ks → HasAll (unit_numbers ps) (cons_option (if b then to else None) ks)
has_one ps true None ks called has = has
has_one ps true (Some k) ks called has = (called, has)
has_one ps false to ks called has = has

has_some : (ps : List Phrase) (q : ℕ) (qs : List Phrase) → HasAll (unit_numbers ps) (filter_map (λ (p : Phrase). if p.around.home == q then callee ps p else None) qs)
has_some ps q [] = tt
has_some ps q (p ∷ qs) = has_one ps (p.around.home == q) (callee ps p) _ (callee_is ps p) (has_some ps q qs)

-- those that a block calls are units
pub has_callees : (ps : List Phrase) (q : ℕ) → HasAll (unit_numbers ps) (callees ps q)
has_callees ps q = has_some ps q ps
