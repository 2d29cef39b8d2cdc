-- The reading of declarations: each function gives the phrase of its kind that the words begin with, nested at most so deep. An expression is read as long
-- as it goes; the word behind it decides whether it ends where it has to.
use Rattle.std.specs.Prelude.{ℕ, zero, suc, List, [], ◌∷◌, Option, Some, None}
use Rattle.hal_base.specs.declared.refusal.Place.{Place}
use Rattle.hal_words.specs.declared.reserved.Reserved.TheVariants as reserved
use Rattle.hal_words.specs.declared.word.Symbol.TheVariants as symbol
use Rattle.hal_words.specs.declared.word.Word.{Word}
use Rattle.hal_words.specs.declared.word.Word.TheVariants as word
use Rattle.hal_grammar.specs.Leaves.{Naming, Sign, LiteralValue}
use Rattle.hal_grammar.specs.Expressions.{Expression}
use Rattle.hal_grammar.specs.Declarations.{Mark, Single, Double, Latched, Static, Automatic, Dense, Aligned, Kind, IntegerKind, BooleanKind, EventKind, BitKind, CharacterKind, StructureKind, Initial, Value, LiteralTimes, NameTimes, ListTimes, Initials, MoreInitials, Attribute, Dimensions, Typed, Marked, LockGroup, LockAny, InitialValues, ConstantValues, Declared, declared_of, Part, part_of, Declaration, Declare, Structure}
use Rattle.hal_grammar.specs.Words.{Words}
unfoldable pub use Rattle.hal_tree.specs.Rows.{initials}
use Rattle.hal_parse_expr.specs.Reading.{Reader, followed, made_of, decided, past, past_symbol, name_at, integer_at, before_symbol, all, parted}
use Rattle.hal_parse_expr.specs.ReadingExpressions.{sign_at, literal_of, expression_at, expressions_at}

-- a phrase in parentheses
unfoldable pub in_parentheses : {X : Type 0} → Reader X → Reader X
in_parentheses read words = followed (past_symbol symbol.LeftParenthesis words) (λ p rest. before_symbol symbol.RightParenthesis (read rest))

-- a phrase, where one level more is left
unfoldable pub where_left : {X : Type 0} → Option (Reader X) → Reader X
where_left None words = None
where_left (Some read) words = read words

-- the first of a list and the others
abbrev pub first_and_others : {X : Type 0} → X × List X → List X
first_and_others f = f.0 ∷ f.1

-- one name or more, parted by commas
unfoldable pub names_at : Reader (List Naming)
names_at words = made_of first_and_others (parted name_at words)

-- a name or none, and a semicolon
unfoldable pub name_end_at : Reader (Option Naming)
name_end_at words =
    decided (name_at words) (λ n rest. made_of (λ p. Some n) (past_symbol symbol.Semicolon rest)) (made_of (λ p. None) (past_symbol symbol.Semicolon words))

-- a literal and its place
unfoldable pub literal_at : Reader (Place × LiteralValue)
literal_at [] = None
literal_at (first ∷ rest) = elim (literal_of first.word) [ None ↦ None | Some l ↦ Some ((first.place, l), rest) ]

-- a sign or none
unfoldable pub opening_at : Reader (Option Sign)
opening_at words = decided (sign_at words) (λ s rest. Some (Some s.1, rest)) (Some (None, words))

-- copies in parentheses, or none
unfoldable pub copy_count_at : ℕ → Reader (Option Expression)
copy_count_at n words =
    decided (past_symbol symbol.LeftParenthesis words) (λ p rest. made_of (λ t. Some t) (before_symbol symbol.RightParenthesis (expression_at n rest))) (Some (None, words))

-- behind a template's name
unfoldable pub structure_behind : ℕ → Place → List ℕ → Reader Kind
structure_behind n p m words =
    followed (past_symbol symbol.Minus words) (λ q rest. followed (past reserved.Structure rest) (λ r after. made_of (λ c. StructureKind p m c) (copy_count_at n after)))

-- the type that the first word begins
unfoldable pub kind_behind : ℕ → Place → Word → Reader Kind
kind_behind n p (word.Reserved reserved.Integer) rest = Some (IntegerKind p, rest)
kind_behind n p (word.Reserved reserved.Bit) rest = made_of (λ t. BitKind p t) (in_parentheses (expression_at n) rest)
kind_behind n p (word.Reserved reserved.Boolean) rest = Some (BooleanKind p, rest)
kind_behind n p (word.Reserved reserved.Character) rest = made_of (λ t. CharacterKind p t) (in_parentheses (expression_at n) rest)
kind_behind n p (word.Reserved reserved.Event) rest = Some (EventKind p, rest)
kind_behind n p (word.Name m) rest = structure_behind n p m rest
kind_behind n p other rest = None

-- a type
unfoldable pub kind_at : ℕ → Reader Kind
kind_at n [] = None
kind_at n (first ∷ rest) = kind_behind n first.place first.word rest

-- an integer and `#`
unfoldable pub count_at : Reader (Place × ℕ)
count_at words = followed (integer_at words) (λ f rest. made_of (λ p. f) (past_symbol symbol.Number rest))

-- behind a count and a sign or none: a name, or a literal
unfoldable pub signed_value : Place → ℕ → Option Sign → Reader Initial
signed_value p m s words =
    decided (name_at words) (λ x rest. Some (NameTimes p m s x, rest)) (made_of (λ l. LiteralTimes p m s l.0 l.1) (literal_at words))

-- behind a count: a list in parentheses, which is one deeper, or a name or a literal with a sign or without
unfoldable pub counted_value : Option (Reader Initials) → Place → ℕ → Reader Initial
counted_value inner p m words =
    decided (past_symbol symbol.LeftParenthesis words) (λ q rest. made_of (λ ts. ListTimes p m ts) (before_symbol symbol.RightParenthesis (where_left inner rest)))
    (followed (opening_at words) (λ s rest. signed_value p m s rest))

-- an initial value
unfoldable pub initial_of : ℕ → Option (Reader Initials) → Reader Initial
initial_of n inner words = decided (count_at words) (λ f rest. counted_value inner f.0 f.1 rest) (made_of (λ t. Value t) (expression_at n words))

-- one initial value or more, parted by commas
unfoldable pub initials_of : ℕ → Option (Reader Initials) → Reader Initials
initials_of n inner words = made_of (λ f. MoreInitials f.0 (initials f.1)) (parted (initial_of n inner) words)

-- the same, nested at most so deep
unfoldable pub initials_at : ℕ → Reader Initials
initials_at zero words = initials_of zero None words
initials_at (suc n) words = initials_of (suc n) (Some (initials_at n)) words

-- the reader of initial values one level deeper, where there is one
unfoldable pub initials_below : ℕ → Option (Reader Initials)
initials_below zero = None
initials_below (suc n) = Some (initials_at n)

-- the attribute of one word that a word is
unfoldable pub mark_of : Word → Option Mark
mark_of (word.Reserved reserved.Single) = Some Single
mark_of (word.Reserved reserved.Double) = Some Double
mark_of (word.Reserved reserved.Latched) = Some Latched
mark_of (word.Reserved reserved.Static) = Some Static
mark_of (word.Reserved reserved.Automatic) = Some Automatic
mark_of (word.Reserved reserved.Dense) = Some Dense
mark_of (word.Reserved reserved.Aligned) = Some Aligned
mark_of other = None

-- behind LOCK and its parenthesis: `*`, or an expression
unfoldable pub lock_inside : ℕ → Place → Reader Attribute
lock_inside n p words = decided (past_symbol symbol.Star words) (λ q rest. Some (LockAny p, rest)) (made_of (λ t. LockGroup p t) (expression_at n words))

-- an attribute of one word, or a type
unfoldable pub marked_or_typed : ℕ → Place → Word → Reader Attribute
marked_or_typed n p w rest = elim (mark_of w) [ None ↦ made_of (λ k. Typed k) (kind_behind n p w rest) | Some m ↦ Some (Marked p m, rest) ]

-- the attribute that the first word begins
unfoldable pub attribute_behind : ℕ → Place → Word → Reader Attribute
attribute_behind n p (word.Reserved reserved.Array) rest = made_of (λ ts. Dimensions p ts) (in_parentheses (expressions_at n) rest)
attribute_behind n p (word.Reserved reserved.Lock) rest = in_parentheses (lock_inside n p) rest
attribute_behind n p (word.Reserved reserved.Initial) rest = made_of (λ ts. InitialValues p ts) (in_parentheses (initials_at n) rest)
attribute_behind n p (word.Reserved reserved.Constant) rest = made_of (λ ts. ConstantValues p ts) (in_parentheses (initials_at n) rest)
attribute_behind n p other rest = marked_or_typed n p other rest

-- an attribute
unfoldable pub attribute_at : ℕ → Reader Attribute
attribute_at n [] = None
attribute_at n (first ∷ rest) = attribute_behind n first.place first.word rest

-- as many attributes as can be read
unfoldable pub attributes_at : ℕ → Words → List Attribute × Words
attributes_at n words = all (attribute_at n) words

-- a name and its attributes
unfoldable pub declared_at : ℕ → Reader Declared
declared_at n words = followed (name_at words) (λ x rest. Some (declared_of x (attributes_at n rest).0, (attributes_at n rest).1))

-- a level, a name and its attributes
unfoldable pub part_at : ℕ → Reader Part
part_at n words =
    followed (integer_at words) (λ f rest. followed (name_at rest) (λ x after. Some (part_of f.0 f.1 x (attributes_at n after).0, (attributes_at n after).1)))

-- the names of a declaration with their attributes, and its semicolon
unfoldable pub items_at : ℕ → Reader (List Declared)
items_at n words = before_symbol symbol.Semicolon (made_of first_and_others (parted (declared_at n) words))

-- the parts of a structure, and its semicolon
unfoldable pub parts_at : ℕ → Reader (List Part)
parts_at n words = before_symbol symbol.Semicolon (made_of first_and_others (parted (part_at n) words))

-- behind the attributes of all names: a comma and the names, or the names at once where there are none
unfoldable pub items_behind : ℕ → Place → List Attribute → Reader Declaration
items_behind n p [] words = made_of (λ items. Declare p [] items) (items_at n words)
items_behind n p (x ∷ xs) words = followed (past_symbol symbol.Comma words) (λ q rest. made_of (λ items. Declare p (x ∷ xs) items) (items_at n rest))

-- behind DECLARE
unfoldable pub declare_behind : ℕ → Place → Reader Declaration
declare_behind n p words = items_behind n p (attributes_at n words).0 (attributes_at n words).1

-- a name and a colon
unfoldable pub label_at : Reader Naming
label_at words = followed (name_at words) (λ x rest. made_of (λ p. x) (past_symbol symbol.Colon rest))

-- behind STRUCTURE
unfoldable pub template_behind : ℕ → Place → Reader Declaration
template_behind n p words = followed (label_at words) (λ x rest. made_of (λ parts. Structure p x parts) (parts_at n rest))

-- a declaration
unfoldable pub declaration_at : ℕ → Reader Declaration
declaration_at n words =
    decided (past reserved.Declare words) (λ p rest. declare_behind n p rest) (followed (past reserved.Structure words) (λ p rest. template_behind n p rest))

-- as many declarations as can be read
unfoldable pub declarations_at : ℕ → Words → List Declaration × Words
declarations_at n words = all (declaration_at n) words
