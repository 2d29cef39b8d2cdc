-- What names refer to, as far as code goes by it: the same whatever the own places hold.
use Rattle.std.specs.Prelude.{ℕ, List, [], ◌∷◌, ◌++◌, pos, Some, None, map, slice_get, unwrap_or, if◌then◌else◌}
use Rattle.hal_grammar.specs.Declarations.{Attribute, Declared}
use Rattle.hal_grammar.specs.Units.{Head, Program, Compool, Task, Procedure, Function}
use Rattle.hal_phrases.specs.Phrases.{Node, Phrase, OfUnit, OfItem, OfTemporaryGroup}
use Rattle.hal_scope.specs.declared.builtin.Builtin.{Builtin}
use Rattle.hal_scope.specs.Builtins.{builtin_named}
use Rattle.hal_scope.specs.Sorts.{type_of}
use Rattle.hal_kinds.specs.Data.{is_event_type}
use Rattle.hal_constants.specs.Known.{Known}
use Rattle.hal_constants.specs.Naming.{is_value_item, value_at}
use Rattle.hal_values.specs.declared.value.Value.{Value}
use Rattle.hal_values.specs.declared.value.Value.TheVariants as value
use Rattle.hal_meaning.specs.Bodies.{meant}
use Rattle.hal_meaning.specs.Elements.{Shape, shape_of}
use Rattle.hal_meaning.specs.Events.{event_of}
use Rattle.hal_meaning.specs.Places.{Storing, InPlaces, storing}
use Rattle.hal_meaning.specs.Variables.{temporary_shape}

-- data of a declaration, with the way in which they are stored and their shape; a constant; an event or a process; a block that is called; a built-in
-- function; or nothing
pub data Referent : Type 0 where
  DataOf : (declared : ℕ) (stored : Storing) (shape : Shape) → Referent
  ConstantOf : (value : Value) → Referent
  EventOf : (event : ℕ) → Referent
  BlockOf : (unit : ℕ) → Referent
  BuiltinOf : (builtin : Builtin) → Referent
  Unmeant : Referent

abbrev pub event_referent : List Phrase → ℕ → Referent
event_referent ps k = elim (event_of ps k) [ None ↦ Unmeant | Some e ↦ EventOf e ]

-- the value of a constant; one that isn't known is 0, to which no accepted set comes
abbrev pub constant_value : Known → ℕ → Value
constant_value vs k = unwrap_or (value_at vs k) (value.Int (pos 0))

-- a constant
abbrev pub constant_referent : Known → ℕ → Referent
constant_referent vs k = ConstantOf (constant_value vs k)

-- a TEMPORARY variable of the group with this number
abbrev pub temporary_referent : ℕ → Referent
temporary_referent k = DataOf k InPlaces temporary_shape

-- an item that is stored so, where it is stored
abbrev pub item_referent : List Phrase → Known → Phrase → List Attribute → Declared → Storing → Referent
item_referent ps vs p common item stored =
    if is_event_type (type_of common item) then event_referent ps p.number
    else if is_value_item common item then constant_referent vs p.number
    else DataOf p.number stored (shape_of ps vs p common item)

abbrev pub head_referent : List Phrase → ℕ → Head → Referent
head_referent ps k (Program place) = event_referent ps k
head_referent ps k (Task place) = event_referent ps k
head_referent ps k (Compool place) = Unmeant
head_referent ps k (Procedure place inputs outputs mode) = BlockOf k
head_referent ps k (Function place inputs returns mode) = BlockOf k

-- what a phrase declares
abbrev pub node_referent : List Phrase → Known → Phrase → Node → Referent
node_referent ps vs p (OfItem common item) = item_referent ps vs p common item (storing ps vs p (OfItem common item))
node_referent ps vs p (OfTemporaryGroup labels variable) = temporary_referent p.number
node_referent ps vs p (OfUnit name head declarations) = head_referent ps p.number head
node_referent ps vs p other = Unmeant

abbrev pub phrase_referent : List Phrase → Known → Phrase → Referent
phrase_referent ps vs p = node_referent ps vs p p.node

-- what each phrase declares, in order
abbrev pub referents : List Phrase → Known → List Referent
referents ps vs = map (phrase_referent ps vs) ps

-- the same of a phrase and of further ones, behind those so far
unfoldable pub with_referent : List Phrase → Known → List Referent → Phrase → List Referent
with_referent ps vs d p = d ++ (phrase_referent ps vs p ∷ [])

unfoldable pub with_referents : List Phrase → Known → List Referent → List Phrase → List Referent
with_referents ps vs d [] = d
with_referents ps vs d (p ∷ rest) = with_referents ps vs (with_referent ps vs d p) rest

abbrev pub declaration_referent : List Phrase → Known → ℕ → Referent
declaration_referent ps vs k = elim (slice_get ps k) [ None ↦ Unmeant | Some p ↦ phrase_referent ps vs p ]

abbrev pub builtin_referent : List ℕ → Referent
builtin_referent name = elim (builtin_named name) [ None ↦ Unmeant | Some b ↦ BuiltinOf b ]

-- what a name refers to in a block
abbrev pub referent_in : List Phrase → Known → ℕ → List ℕ → Referent
referent_in ps vs block name = elim (meant ps block name) [ None ↦ builtin_referent name | Some k ↦ declaration_referent ps vs k ]
