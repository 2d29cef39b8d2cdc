-- The values of the constants of a set of files.
use Rattle.std.specs.Prelude.{ℕ, zero, suc, ◌==◌, nat_le, ℤ, pos, Bool, true, false, ◌&&◌, ◌||◌, not, List, [], ◌∷◌, length, map, Option, Some, None, Result, Ok, Err, replicate, slice_set, if◌then◌else◌}
use Rattle.std.specs.Option.{option_and_then, is_some}
use Rattle.hal_grammar.specs.Leaves.{Naming, Sign, LiteralValue}
use Rattle.hal_grammar.specs.Expressions.{Expression}
use Rattle.hal_grammar.specs.Declarations.{Mark, Double, IntegerKind, BooleanKind, EventKind, BitKind, CharacterKind, StructureKind, Initial, Value, LiteralTimes, NameTimes, ListTimes, Initials, NoInitials, MoreInitials, Attribute, Declared}
use Rattle.hal_grammar.specs.Declarations as declarations
use Rattle.hal_phrases.specs.Phrases.{Node, Phrase, OfFile, OfItem}
use Rattle.hal_scope.specs.Sorts.{type_of}
use Rattle.hal_kinds.specs.Attributes as attributes
use Rattle.hal_values.specs.declared.environment.ErrNo.{ErrNo}
use Rattle.hal_values.specs.declared.value.Kind.{Kind}
use Rattle.hal_values.specs.declared.value.Kind.TheVariants as kind
use Rattle.hal_values.specs.declared.value.Value as values
use Rattle.hal_values.specs.declared.value.Value.TheVariants as value
use Rattle.hal_operations.specs.Stores.{stored}
use Rattle.hal_constants.specs.declared.constant.Constant.{Constant}
use Rattle.hal_constants.specs.declared.constant.Constant.TheVariants as constant
use Rattle.hal_constants.specs.Operands.{is_storable}
use Rattle.hal_constants.specs.Naming.{is_compool_at, constant_named, is_value_item, literal_constant}
use Rattle.hal_constants.specs.Constants.{constant_of, signed}

-- the values that are known: of each phrase its value, if it has one
abbrev pub Known : Type 0
Known = List (Option values.Value)

-- a size within a limit
unfoldable pub size_of_integer : ℕ → ℤ → Option ℕ
size_of_integer limit (pos n) = if nat_le 1 n && nat_le n limit then Some n else None
size_of_integer limit other = None

unfoldable pub size_of_value : ℕ → values.Value → Option ℕ
size_of_value limit (value.Int n) = size_of_integer limit n
size_of_value limit other = None

unfoldable pub size_of : ℕ → Constant → Option ℕ
size_of limit (constant.Worth v) = size_of_value limit v
size_of limit other = None

unfoldable pub bits_kind : Option ℕ → Option Kind
bits_kind None = None
bits_kind (Some n) = Some (kind.Bits n)

unfoldable pub text_kind : Option ℕ → Option Kind
text_kind None = None
text_kind (Some n) = Some (kind.Text n)

-- the kind of the cells of a type, DOUBLE or not; None of structures, and where a length isn't known
unfoldable pub kind_of : List Phrase → Known → Phrase → Bool → declarations.Kind → Option Kind
kind_of ps vs p double (IntegerKind place) = Some (if double then kind.Double else kind.Single)
kind_of ps vs p double (BooleanKind place) = Some (kind.Bits 1)
kind_of ps vs p double (EventKind place) = Some (kind.Bits 1)
kind_of ps vs p double (BitKind place size) = bits_kind (size_of 32 (constant_of ps vs p size))
kind_of ps vs p double (CharacterKind place size) = text_kind (size_of 255 (constant_of ps vs p size))
kind_of ps vs p double (StructureKind place template copies) = None

-- the kind of what is declared
unfoldable pub kind_of_type : List Phrase → Known → Phrase → Bool → Option declarations.Kind → Option Kind
kind_of_type ps vs p double None = None
kind_of_type ps vs p double (Some type) = kind_of ps vs p double type

abbrev pub kind_of_item : List Phrase → Known → Phrase → List Attribute → Declared → Option Kind
kind_of_item ps vs p common item = kind_of_type ps vs p (attributes.is_marked Double common item) (type_of common item)

-- a literal behind a sign
abbrev pub signed_literal : Option Sign → LiteralValue → Constant
signed_literal sign literal = signed sign (literal_constant literal)

-- a name behind a sign
abbrev pub signed_name : List Phrase → Known → Phrase → Option Sign → Naming → Constant
signed_name ps vs p sign name = signed sign (constant_named ps vs p name.name [])

unfoldable mutual
  -- whether an initial value with its repetition gives no value
  pub gives_none : Initial → Bool
  gives_none (Value tree) = false
  gives_none (LiteralTimes place count sign at literal) = count == 0
  gives_none (NameTimes place count sign name) = count == 0
  gives_none (ListTimes place count values) = (count == 0) || give_none values

  -- the same of initial values
  pub give_none : Initials → Bool
  give_none NoInitials = true
  give_none (MoreInitials first others) = gives_none first && give_none others

unfoldable mutual
  -- the one value that an initial value gives, where it gives one
  pub only_of : List Phrase → Known → Phrase → Initial → Constant
  only_of ps vs p (Value tree) = constant_of ps vs p tree
  only_of ps vs p (LiteralTimes place count sign at literal) = if count == 1 then signed_literal sign literal else constant.Unfit
  only_of ps vs p (NameTimes place count sign name) = if count == 1 then signed_name ps vs p sign name else constant.Unfit
  only_of ps vs p (ListTimes place count values) = if count == 1 then only_with ps vs p constant.Unfit false values else constant.Unfit

  -- the same of initial values behind others, which gave this or, where there is none yet, nothing
  pub only_with : List Phrase → Known → Phrase → Constant → Bool → Initials → Constant
  only_with ps vs p so_far one NoInitials = so_far
  only_with ps vs p so_far one (MoreInitials first others) =
      if gives_none first then only_with ps vs p so_far one others
      else if one then constant.Unfit
      else only_with ps vs p (only_of ps vs p first) true others

-- the one value that initial values give, where they give one
abbrev pub only_among : List Phrase → Known → Phrase → Initials → Constant
only_among ps vs p values = only_with ps vs p constant.Unfit false values

unfoldable pub kept : Result values.Value ErrNo → Option values.Value
kept (Ok v) = Some v
kept (Err e) = None

-- a value as a cell of the kind holds it
unfoldable pub fitted : Option Kind → Constant → Option values.Value
fitted (Some k) (constant.Worth v) = if is_storable k v then kept (stored k v) else None
fitted k c = None

unfoldable pub only_in : List Phrase → Known → Phrase → Option Initials → Constant
only_in ps vs p None = constant.Unfit
only_in ps vs p (Some list) = only_among ps vs p list

-- the value of a constant that a phrase declares
unfoldable pub declared_value : List Phrase → Known → Phrase → Node → Option values.Value
declared_value ps vs p (OfItem common item) =
    if is_value_item common item then fitted (kind_of_item ps vs p common item) (only_in ps vs p (attributes.constant_of common item)) else None
declared_value ps vs p other = None

-- the values where that of one more phrase is known
abbrev pub noted : List Phrase → Known → Phrase → Known
noted ps vs p = slice_set vs p.number (declared_value ps vs p p.node)

-- those of phrases, one after another
unfoldable pub round : List Phrase → Known → List Phrase → Known
round ps vs [] = vs
round ps vs (p ∷ rest) = round ps (noted ps vs p) rest

unfoldable pub is_file : Node → Bool
is_file (OfFile prefaces name) = true
is_file other = false

-- whether a node of a COMPOOL or of another unit is a constant of a COMPOOL that is its value
unfoldable pub is_pooled : Bool → Node → Bool
is_pooled of_compool (OfItem common item) = is_value_item common item && of_compool
is_pooled of_compool other = false

-- a file; and a constant of a COMPOOL, which may stand behind those that name it in units that include its template
abbrev pub starts_round : List Phrase → Phrase → Bool
starts_round ps p = is_file p.node || is_pooled (is_compool_at ps p.around.home) p.node

-- as many times as there are such phrases: no constant needs others that stand behind it more often than that
unfoldable pub rounds : List Phrase → Known → List Phrase → Known
rounds ps vs [] = vs
rounds ps vs (p ∷ rest) = if starts_round ps p then rounds ps (round ps vs ps) rest else rounds ps vs rest

-- no value is known
abbrev pub nothing_known : List Phrase → Known
nothing_known ps = replicate (length ps) None

-- the values of the constants of a set
abbrev pub known : List Phrase → Known
known ps = rounds ps (nothing_known ps) ps
