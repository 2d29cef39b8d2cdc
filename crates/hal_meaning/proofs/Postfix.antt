-- The event expressions of a set are well formed, and its first process exists.
use Rattle.std.specs.Prelude.{ℕ, ◌+◌, ◌<◌, ◌≡◌, ◌++◌, ◌==◌, length, map, List, [], ◌∷◌, Bool, true, false, Option, Some, None, All, position, unwrap_or, filter_map, if◌then◌else◌}
use Rattle.std.specs.Option.{option_and_then, option_or}
use Rattle.std.specs.List.{cons_option}
use Rattle.std.proofs.Common.{refl, sym, subst, arith}
use Rattle.std.proofs.lemmas.List.{append_assoc, append-nil}
use Rattle.std.proofs.lemmas.List.Elements.{All-nil, All-cons}
use Rattle.std.proofs.lemmas.List.Quantifiers.{position-Some}
use Rattle.hal_grammar.specs.Expressions.{Expression, Or, And, Compare, Cat, Sum, Product, Power, Not, Literal, Decimal, Referred, Called, Convert, Parenthesis, Expressions, NoExpressions, MoreExpressions, Reference, Refers}
use Rattle.hal_phrases.specs.Phrases.{Node, Phrase, OfFile, OfInclude, OfTemplate, OfUnit, OfParameter, OfClose, OfDeclare, OfItem, OfStructure, OfPart, OfStructureType, OfInitial, OfInitialName, OfLabel, OfExpression, OfDecimal, OfCallForm, OfReference, OfSubscriptName, OfAssignment, OfGroup, OfTemporaryGroup, OfVariable, OfExit, OfRepeat, OfReturn, OfCall, OfRead, OfWrite, OfUpdate, OfRealTime, OfProcess, OfEvent, OfHandler, OfResponse, OfOffError, OfSendError}
use Rattle.hal_values.specs.declared.tables.Item.{Item}
use Rattle.hal_values.specs.declared.tables.Item.TheVariants as item
use Rattle.hal_values.specs.Tables.{IsPostfix, IsExpression}
use Rattle.hal_meaning.specs.Bodies.{meant, processes_of}
use Rattle.hal_meaning.specs.Events.{declared_events, place_in, event_of, event_named, event_of_reference, postfix, postfix_joined, Stated, stated_at, stated}
use Rattle.hal_meaning.specs.Sets.{is_program_at, first_of}

-- how many events there are
abbrev pub events_of : List Phrase → ℕ
events_of ps = length (processes_of ps) + length (declared_events ps)

place_below : (ks : List ℕ) (k n : ℕ) → place_in ks k ≡ Some n → n < length ks
place_below ks k n e = (position-Some (λ one. one == k) ks n 0 e).0

-- a number that may be there is below this
abbrev IsBelow : ℕ → Option ℕ → Type 0
IsBelow count None = Unit {0}
IsBelow count (Some n) = n < count

declared_below : (ps : List Phrase) (k : ℕ) (found : Option ℕ) → place_in (declared_events ps) k ≡ found → IsBelow (events_of ps) (elim found [ None ↦ None | Some n ↦ Some (length (processes_of ps) + n) ])
declared_below ps k None e = tt
declared_below ps k (Some n) e = below (length (processes_of ps)) (length (declared_events ps)) (place_below (declared_events ps) k n e)
  where
    below : (count declared : ℕ) → n < declared → count + n < count + declared
    below count declared less = omega (arith, less)

first_below : (ps : List Phrase) (k : ℕ) (found : Option ℕ) (other : Option ℕ) → place_in (processes_of ps) k ≡ found → IsBelow (events_of ps) other → IsBelow (events_of ps) (option_or found other)
first_below ps k None other e is = is
first_below ps k (Some n) other e is = below (length (processes_of ps)) (length (declared_events ps)) (place_below (processes_of ps) k n e)
  where
    below : (count declared : ℕ) → n < count → n < count + declared
    below count declared less = omega (arith, less)

event_below : (ps : List Phrase) (k : ℕ) → IsBelow (events_of ps) (event_of ps k)
event_below ps k = first_below ps k (place_in (processes_of ps) k) _ refl (declared_below ps k (place_in (declared_events ps) k) refl)

then_below : (ps : List Phrase) (found : Option ℕ) → IsBelow (events_of ps) (option_and_then (event_of ps) found)
then_below ps None = tt
then_below ps (Some k) = event_below ps k

or_first : (count : ℕ) (found : Option ℕ) → IsBelow count found → 0 < count → unwrap_or found 0 < count
or_first count None is some = some
or_first count (Some n) is some = is

named_below : (ps : List Phrase) (block : ℕ) (name : List ℕ) → 0 < events_of ps → event_named ps block name < events_of ps
named_below ps block name some = or_first (events_of ps) (option_and_then (event_of ps) (meant ps block name)) (then_below ps (meant ps block name)) some

-- items that leave one value more
abbrev Pushes : ℕ → List Item → Type 0
Pushes count items = (n : ℕ) (rest : List Item) → IsPostfix count (n + 1) rest → IsPostfix count n (items ++ rest)

joint_pushes : (count : ℕ) (joint : Item) (before operand : List Item) → ((n : ℕ) (rest : List Item) → IsPostfix count (n + 1) rest → IsPostfix count ((n + 1) + 1) (joint ∷ rest)) → Pushes count before → Pushes count operand
    → Pushes count (before ++ (operand ++ (joint ∷ [])))
joint_pushes count joint before operand joins one other n rest is =
    subst (λ items. IsPostfix count n items) (sym (append_assoc before (operand ++ (joint ∷ [])) rest))
    (one n ((operand ++ (joint ∷ [])) ++ rest)
    (subst (λ items. IsPostfix count (n + 1) items) (sym (append_assoc operand (joint ∷ []) rest)) (other (n + 1) (joint ∷ rest) (joins n rest is))))

or_joins : (count n : ℕ) (rest : List Item) → IsPostfix count (n + 1) rest → IsPostfix count ((n + 1) + 1) (item.Or ∷ rest)
or_joins count n rest is = (omega arith, subst (λ k. IsPostfix count k rest) (omega arith) is)

and_joins : (count n : ℕ) (rest : List Item) → IsPostfix count (n + 1) rest → IsPostfix count ((n + 1) + 1) (item.And ∷ rest)
and_joins count n rest is = (omega arith, subst (λ k. IsPostfix count k rest) (omega arith) is)

event_pushes : (count e : ℕ) → e < count → Pushes count (item.Event e ∷ [])
event_pushes count e less n rest is = (less, is)

not_pushes : (count : ℕ) (operand : List Item) → Pushes count operand → Pushes count (operand ++ (item.Not ∷ []))
not_pushes count operand one n rest is = subst (λ items. IsPostfix count n items) (sym (append_assoc operand (item.Not ∷ []) rest)) (one n (item.Not ∷ rest) (omega arith, is))

reference_below : (ps : List Phrase) (block : ℕ) (reference : Reference) → 0 < events_of ps → event_of_reference ps block reference < events_of ps
reference_below ps block (Refers place name further subscript) some = named_below ps block name some

module _ (ps : List Phrase) (block : ℕ) (some : 0 < events_of ps) where
  mutual
    pushes : (tree : Expression) → Pushes (events_of ps) (postfix ps block tree)
    pushes (Or place first others) = joined_pushes item.Or (or_joins (events_of ps)) (postfix ps block first) others (pushes first)
    pushes (And place first others) = joined_pushes item.And (and_joins (events_of ps)) (postfix ps block first) others (pushes first)
    pushes (Not place operand) = not_pushes (events_of ps) (postfix ps block operand) (pushes operand)
    pushes (Parenthesis place inner) = pushes inner
    pushes (Referred reference) = event_pushes (events_of ps) (event_of_reference ps block reference) (reference_below ps block reference some)
    pushes (Compare place left relation right) = event_pushes (events_of ps) 0 some
    pushes (Cat place first others) = event_pushes (events_of ps) 0 some
    pushes (Sum place opening first others) = event_pushes (events_of ps) 0 some
    pushes (Product place first others) = event_pushes (events_of ps) 0 some
    pushes (Power place base exponent) = event_pushes (events_of ps) 0 some
    pushes (Literal place literal) = event_pushes (events_of ps) 0 some
    pushes (Decimal place number) = event_pushes (events_of ps) 0 some
    pushes (Called place name arguments) = event_pushes (events_of ps) 0 some
    pushes (Convert place conversion operand) = event_pushes (events_of ps) 0 some

    joined_pushes : (joint : Item) → ((n : ℕ) (rest : List Item) → IsPostfix (events_of ps) (n + 1) rest → IsPostfix (events_of ps) ((n + 1) + 1) (joint ∷ rest)) → (before : List Item) (list : Expressions)
        → Pushes (events_of ps) before → Pushes (events_of ps) (postfix_joined ps block joint before list)
    joined_pushes joint joins before NoExpressions is = is
    joined_pushes joint joins before (MoreExpressions first others) is =
        joined_pushes joint joins (before ++ (postfix ps block first ++ (joint ∷ []))) others (joint_pushes (events_of ps) joint before (postfix ps block first) joins is (pushes first))

expression_is : (ps : List Phrase) (block : ℕ) (tree : Expression) → 0 < events_of ps → IsExpression (events_of ps) (postfix ps block tree)
expression_is ps block tree some =
    subst (λ items. IsPostfix (events_of ps) 0 items) (append-nil (postfix ps block tree)) (pushes ps block some tree 0 [] (omega arith))

-- each event expression that may be stated is well formed
abbrev IsStated : List Phrase → Option Stated → Type 0
IsStated ps None = Unit {0}
IsStated ps (Some one) = IsExpression (events_of ps) one.items

stated_if : (ps : List Phrase) (p : Phrase) (tree : Expression) (b : Bool) → 0 < events_of ps → IsStated ps (if b then Some (record { statement = p.around.parent; items = postfix ps p.around.block tree }) else None)
stated_if ps p tree true some = expression_is ps p.around.block tree some
stated_if ps p tree false some = tt

stated_node : (ps : List Phrase) (p : Phrase) (node : Node) → 0 < events_of ps → IsStated ps (stated_at ps p node)
stated_node ps p (OfExpression r tree) some = stated_if ps p tree _ some
stated_node ps p (OfFile prefaces name) some = tt
stated_node ps p (OfInclude name) some = tt
stated_node ps p (OfTemplate name head list) some = tt
stated_node ps p (OfUnit name head list) some = tt
stated_node ps p (OfParameter name output) some = tt
stated_node ps p (OfClose name) some = tt
stated_node ps p (OfDeclare common) some = tt
stated_node ps p (OfItem common one) some = tt
stated_node ps p (OfStructure name parts) some = tt
stated_node ps p (OfPart bottom part) some = tt
stated_node ps p (OfStructureType place template) some = tt
stated_node ps p (OfInitial initial) some = tt
stated_node ps p (OfInitialName name) some = tt
stated_node ps p (OfLabel name) some = tt
stated_node ps p (OfDecimal r place) some = tt
stated_node ps p (OfCallForm place name arguments) some = tt
stated_node ps p (OfReference r reference) some = tt
stated_node ps p (OfSubscriptName name) some = tt
stated_node ps p (OfAssignment receivers tree) some = tt
stated_node ps p (OfGroup labels looping) some = tt
stated_node ps p (OfTemporaryGroup labels variable) some = tt
stated_node ps p (OfVariable name) some = tt
stated_node ps p (OfExit place label) some = tt
stated_node ps p (OfRepeat place label) some = tt
stated_node ps p (OfReturn place tree) some = tt
stated_node ps p (OfCall name arguments receivers) some = tt
stated_node ps p (OfRead place) some = tt
stated_node ps p (OfWrite place) some = tt
stated_node ps p (OfUpdate place labels) some = tt
stated_node ps p (OfRealTime place) some = tt
stated_node ps p (OfProcess name) some = tt
stated_node ps p (OfEvent event) some = tt
stated_node ps p (OfHandler place selector) some = tt
stated_node ps p (OfResponse place selector) some = tt
stated_node ps p (OfOffError place selector) some = tt
stated_node ps p (OfSendError group_at group number_at number) some = tt

cons_stated : (ps : List Phrase) (found : Option Stated) (list : List Stated) → IsStated ps found → All (IsExpression (events_of ps)) (map (λ (one : Stated). one.items) list)
    → All (IsExpression (events_of ps)) (map (λ (one : Stated). one.items) (cons_option found list))
cons_stated ps None list is each = each
cons_stated ps (Some one) list is each = All-cons (IsExpression (events_of ps)) one.items (map (λ (other : Stated). other.items) list) is each

all_stated : (ps list : List Phrase) → 0 < events_of ps → All (IsExpression (events_of ps)) (map (λ (one : Stated). one.items) (filter_map (λ (p : Phrase). stated_at ps p p.node) list))
all_stated ps [] some = All-nil (IsExpression (events_of ps))
all_stated ps (p ∷ list) some =
    cons_stated ps (stated_at ps p p.node) (filter_map (λ (q : Phrase). stated_at ps q q.node) list) (stated_node ps p p.node some) (all_stated ps list some)

-- each event expression is well formed
pub expressions_are : (ps : List Phrase) → 0 < events_of ps → All (IsExpression (events_of ps)) (map (λ (one : Stated). one.items) (stated ps))
expressions_are ps some = all_stated ps ps some

program_below : (ps : List Phrase) (found : Option ℕ) → position (is_program_at ps) (processes_of ps) ≡ found → 0 < length (processes_of ps) → unwrap_or found 0 < length (processes_of ps)
program_below ps None e some = some
program_below ps (Some n) e some = (position-Some (is_program_at ps) (processes_of ps) n 0 e).0

-- the first process exists
pub first_is : (ps : List Phrase) → 0 < length (processes_of ps) → first_of ps < length (processes_of ps)
first_is ps some = program_below ps (position (is_program_at ps) (processes_of ps)) refl some
