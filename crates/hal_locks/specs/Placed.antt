-- Rule 805: LOCK in a wrong place, or out of range.
use Rattle.std.specs.Prelude.{ℕ, Bool, true, false, ◌||◌, not, List, Option, Some, None, slice_get, if◌then◌else◌}
use Rattle.std.specs.Option.{is_some}
use Rattle.std.specs.List.{list_any}
use Rattle.hal_base.specs.declared.refusal.Place.{Place}
use Rattle.hal_grammar.specs.Expressions.{Expression}
use Rattle.hal_grammar.specs.Declarations.{Attribute, LockGroup, LockAny, Declared}
use Rattle.hal_grammar.specs.Units.{Head, Program, Compool}
use Rattle.hal_phrases.specs.Phrases.{Node, Phrase, OfFile, OfTemplate, OfUnit, OfItem, OfPart}
use Rattle.hal_scope.specs.Sorts.{type_of}
use Rattle.hal_scope.specs.Uses.{unless}
use Rattle.hal_kinds.specs.Data.{is_event_type}
use Rattle.hal_values.specs.declared.value.Value.{Value}
use Rattle.hal_values.specs.declared.value.Value.TheVariants as value
use Rattle.hal_constants.specs.declared.constant.Constant.{Constant}
use Rattle.hal_constants.specs.declared.constant.Constant.TheVariants as constant
use Rattle.hal_constants.specs.Constants.{constant_of}
use Rattle.hal_constants.specs.Known.{Known, size_of_integer}
use Rattle.hal_meaning.specs.Places.{parameter}
use Rattle.hal_locks.specs.declared.lockable.Lockable.{Lockable}
use Rattle.hal_locks.specs.declared.lockable.Lockable.TheVariants as lockable

-- whether data directly in a block with this head may have a lock group
unfoldable pub is_shared_head : Head → Bool
is_shared_head (Program place) = true
is_shared_head (Compool place) = true
is_shared_head other = false

-- the same of a phrase to which declarations belong; to a file belong those of the COMPOOL templates before its unit
unfoldable pub is_shared : Node → Bool
is_shared (OfFile prefaces name) = true
is_shared (OfTemplate name head declarations) = is_shared_head head
is_shared (OfUnit name head declarations) = is_shared_head head
is_shared other = false

abbrev pub is_shared_at : List Phrase → ℕ → Bool
is_shared_at ps k = elim (slice_get ps k) [ None ↦ false | Some q ↦ is_shared q.node ]

-- which LOCK data may have that are declared, no parameter or an ASSIGN parameter or an input one
unfoldable pub lockable_as : Bool → Option Bool → Lockable
lockable_as shared (Some true) = lockable.Star
lockable_as shared (Some false) = lockable.Neither
lockable_as shared None = if shared then lockable.Number else lockable.Neither

-- which LOCK a name that is declared may have; an event has none
abbrev pub lockable_of : List Phrase → Phrase → List Attribute → Declared → Lockable
lockable_of ps p common item =
    if is_event_type (type_of common item) then lockable.Neither
    else lockable_as (is_shared_at ps p.around.home) (parameter ps p.around.home item.name.name)

unfoldable pub takes_number : Lockable → Bool
takes_number lockable.Number = true
takes_number other = false

unfoldable pub takes_star : Lockable → Bool
takes_star lockable.Star = true
takes_star other = false

-- an integer that is no number of a lock group; of what is no constant and of what is no integer other rules speak
unfoldable pub is_no_group_value : Value → Bool
is_no_group_value (value.Int n) = not (is_some (size_of_integer 15 n))
is_no_group_value other = false

unfoldable pub is_no_group : Constant → Bool
is_no_group (constant.Worth v) = is_no_group_value v
is_no_group other = false

-- whether the number of a LOCK is none of a lock group
abbrev pub is_outside : List Phrase → Known → Phrase → Expression → Bool
is_outside ps vs p group = is_no_group (constant_of ps vs p group)

-- whether an attribute is a LOCK that may not stand there
unfoldable pub is_misplaced : List Phrase → Known → Phrase → Lockable → Attribute → Bool
is_misplaced ps vs p l (LockGroup place group) = not (takes_number l) || is_outside ps vs p group
is_misplaced ps vs p l (LockAny place) = not (takes_star l)
is_misplaced ps vs p l other = false

-- whether one among attributes is
abbrev pub is_any_misplaced : List Phrase → Known → Phrase → Lockable → List Attribute → Bool
is_any_misplaced ps vs p l attributes = list_any (is_misplaced ps vs p l) attributes

-- whether a name that is declared has such a one
abbrev pub has_misplaced : List Phrase → Known → Phrase → List Attribute → Declared → Bool
has_misplaced ps vs p common item =
    is_any_misplaced ps vs p (lockable_of ps p common item) item.attributes || is_any_misplaced ps vs p (lockable_of ps p common item) common

-- rule 805
unfoldable pub misplaced : List Phrase → Known → Phrase → Node → Option Place
misplaced ps vs p (OfItem common item) = unless (not (has_misplaced ps vs p common item)) item.name.place
misplaced ps vs p (OfPart bottom part) = unless (not (is_any_misplaced ps vs p lockable.Neither part.attributes)) part.place
misplaced ps vs p other = None
