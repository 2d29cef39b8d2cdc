-- Which words spell names in lists, types, attributes, initial values and declarations. Where a part may be left out, it is left out only where its
-- first word doesn't follow; no other word that the grammar allows there is that one, as the laws of
-- what is left out say.
use Rattle.std.specs.Prelude.{ℕ, List, [], ◌∷◌, Option, Some, None}
use Rattle.hal_base.specs.declared.refusal.Place.{Place}
use Rattle.hal_words.specs.declared.reserved.Reserved.TheVariants as reserved
use Rattle.hal_words.specs.declared.word.Symbol.TheVariants as symbol
use Rattle.hal_grammar.specs.Leaves.{Naming, naming, Sign, LiteralValue}
use Rattle.hal_grammar.specs.Expressions.{Expression, Expressions}
use Rattle.hal_grammar.specs.Declarations.{Mark, Single, Double, Latched, Static, Automatic, Dense, Aligned, Kind, IntegerKind, BooleanKind, EventKind, BitKind, CharacterKind, StructureKind, Initial, Value, LiteralTimes, NameTimes, ListTimes, Initials, NoInitials, MoreInitials, Attribute, Dimensions, Typed, Marked, LockGroup, LockAny, InitialValues, ConstantValues, Declared, declared_of, Part, part_of, Declaration, Declare, Structure}
use Rattle.hal_grammar.specs.Words.{Words, reserved_then, symbol_then, name_then, integer_then, BeginsReserved, BeginsSymbol}
use Rattle.hal_grammar.specs.SpellsExpressions.{SpellsSign, SpellsLiteral, SpellsExpression, SpellsExpressions}

-- one or more, parted by commas
pub data Parted {X : Type 0} (R : X → Words → Words → Type 0) : List X → Words → Words → Type 0 where
  last : {x : X} {before after : Words} → R x before after → Parted R (x ∷ []) before after
  more : {p : Place} {x : X} {xs : List X} {before middle after : Words} → R x before (symbol_then symbol.Comma p middle) → Parted R xs middle after →
      Parted R (x ∷ xs) before after

-- one name or more, parted by commas
pub data SpellsNames : List Naming → Words → Words → Type 0 where
  last_name : {p : Place} {n : List ℕ} {after : Words} → SpellsNames (naming p n ∷ []) (name_then n p after) after
  more_names : {p q : Place} {n : List ℕ} {ns : List Naming} {before after : Words} → SpellsNames ns before after →
      SpellsNames (naming p n ∷ ns) (name_then n p (symbol_then symbol.Comma q before)) after

-- a name or none, and a semicolon
pub data SpellsNameEnd : Option Naming → Words → Words → Type 0 where
  no_name_end : {q : Place} {after : Words} → SpellsNameEnd None (symbol_then symbol.Semicolon q after) after
  name_end : {p q : Place} {n : List ℕ} {after : Words} → SpellsNameEnd (Some (naming p n)) (name_then n p (symbol_then symbol.Semicolon q after)) after

-- nothing, or copies in parentheses
pub data SpellsCopyCount : Option Expression → Words → Words → Type 0 where
  no_copy_count : {after : Words} → ¬ BeginsSymbol symbol.LeftParenthesis after → SpellsCopyCount None after after
  copy_count : {p q : Place} {t : Expression} {before after : Words} → SpellsExpression t before (symbol_then symbol.RightParenthesis q after) →
      SpellsCopyCount (Some t) (symbol_then symbol.LeftParenthesis p before) after

-- a type
pub data SpellsKind : Kind → Words → Words → Type 0 where
  integer_kind : {p : Place} {after : Words} → SpellsKind (IntegerKind p) (reserved_then reserved.Integer p after) after
  bit_kind : {p q r : Place} {t : Expression} {before after : Words} → SpellsExpression t before (symbol_then symbol.RightParenthesis r after) →
      SpellsKind (BitKind p t) (reserved_then reserved.Bit p (symbol_then symbol.LeftParenthesis q before)) after
  boolean_kind : {p : Place} {after : Words} → SpellsKind (BooleanKind p) (reserved_then reserved.Boolean p after) after
  character_kind : {p q r : Place} {t : Expression} {before after : Words} → SpellsExpression t before (symbol_then symbol.RightParenthesis r after) →
      SpellsKind (CharacterKind p t) (reserved_then reserved.Character p (symbol_then symbol.LeftParenthesis q before)) after
  event_kind : {p : Place} {after : Words} → SpellsKind (EventKind p) (reserved_then reserved.Event p after) after
  structure_kind : {p q r : Place} {n : List ℕ} {copies : Option Expression} {before after : Words} → SpellsCopyCount copies before after →
      SpellsKind (StructureKind p n copies) (name_then n p (symbol_then symbol.Minus q (reserved_then reserved.Structure r before))) after

-- nothing, or a sign
pub data SpellsOpening : Option Sign → Words → Words → Type 0 where
  no_opening : {after : Words} → ¬ BeginsSymbol symbol.Plus after → ¬ BeginsSymbol symbol.Minus after → SpellsOpening None after after
  opening : {s : Sign} {p : Place} {before after : Words} → SpellsSign s p before after → SpellsOpening (Some s) before after

mutual
  -- an expression, or an integer, `#`, and a literal or a name with a sign or without, or a list in parentheses
  pub data SpellsInitial : Initial → Words → Words → Type 0 where
    valued : {t : Expression} {before after : Words} → SpellsExpression t before after → SpellsInitial (Value t) before after
    literal_times : {p q r : Place} {n : ℕ} {s : Option Sign} {l : LiteralValue} {before middle after : Words} → SpellsOpening s before middle → SpellsLiteral l r middle after →
        SpellsInitial (LiteralTimes p n s r l) (integer_then n p (symbol_then symbol.Number q before)) after
    name_times : {p q r : Place} {n : ℕ} {s : Option Sign} {x : List ℕ} {before after : Words} → SpellsOpening s before (name_then x r after) →
        SpellsInitial (NameTimes p n s (naming r x)) (integer_then n p (symbol_then symbol.Number q before)) after
    list_times : {p q r u : Place} {n : ℕ} {ts : Initials} {before after : Words} → SpellsInitials ts before (symbol_then symbol.RightParenthesis u after) →
        SpellsInitial (ListTimes p n ts) (integer_then n p (symbol_then symbol.Number q (symbol_then symbol.LeftParenthesis r before))) after

  -- one initial value or more, parted by commas
  pub data SpellsInitials : Initials → Words → Words → Type 0 where
    last_initial : {t : Initial} {before after : Words} → SpellsInitial t before after → SpellsInitials (MoreInitials t NoInitials) before after
    more_initials : {p : Place} {t : Initial} {ts : Initials} {before middle after : Words} → SpellsInitial t before (symbol_then symbol.Comma p middle) →
        SpellsInitials ts middle after → SpellsInitials (MoreInitials t ts) before after

-- an attribute of one word
pub data SpellsMark : Mark → Place → Words → Words → Type 0 where
  single_mark : {p : Place} {after : Words} → SpellsMark Single p (reserved_then reserved.Single p after) after
  double_mark : {p : Place} {after : Words} → SpellsMark Double p (reserved_then reserved.Double p after) after
  latched_mark : {p : Place} {after : Words} → SpellsMark Latched p (reserved_then reserved.Latched p after) after
  static_mark : {p : Place} {after : Words} → SpellsMark Static p (reserved_then reserved.Static p after) after
  automatic_mark : {p : Place} {after : Words} → SpellsMark Automatic p (reserved_then reserved.Automatic p after) after
  dense_mark : {p : Place} {after : Words} → SpellsMark Dense p (reserved_then reserved.Dense p after) after
  aligned_mark : {p : Place} {after : Words} → SpellsMark Aligned p (reserved_then reserved.Aligned p after) after

-- an attribute
pub data SpellsAttribute : Attribute → Words → Words → Type 0 where
  dimensions : {p q r : Place} {ts : Expressions} {before after : Words} → SpellsExpressions ts before (symbol_then symbol.RightParenthesis r after) →
      SpellsAttribute (Dimensions p ts) (reserved_then reserved.Array p (symbol_then symbol.LeftParenthesis q before)) after
  typed : {k : Kind} {before after : Words} → SpellsKind k before after → SpellsAttribute (Typed k) before after
  marked : {p : Place} {m : Mark} {before after : Words} → SpellsMark m p before after → SpellsAttribute (Marked p m) before after
  lock_group : {p q r : Place} {t : Expression} {before after : Words} → SpellsExpression t before (symbol_then symbol.RightParenthesis r after) →
      SpellsAttribute (LockGroup p t) (reserved_then reserved.Lock p (symbol_then symbol.LeftParenthesis q before)) after
  lock_any : {p q r s : Place} {after : Words} →
      SpellsAttribute (LockAny p) (reserved_then reserved.Lock p (symbol_then symbol.LeftParenthesis q (symbol_then symbol.Star s (symbol_then symbol.RightParenthesis r after)))) after
  initial_values : {p q r : Place} {ts : Initials} {before after : Words} → SpellsInitials ts before (symbol_then symbol.RightParenthesis r after) →
      SpellsAttribute (InitialValues p ts) (reserved_then reserved.Initial p (symbol_then symbol.LeftParenthesis q before)) after
  constant_values : {p q r : Place} {ts : Initials} {before after : Words} → SpellsInitials ts before (symbol_then symbol.RightParenthesis r after) →
      SpellsAttribute (ConstantValues p ts) (reserved_then reserved.Constant p (symbol_then symbol.LeftParenthesis q before)) after

-- any number of attributes, up to a comma or a semicolon
pub data SpellsAttributes : List Attribute → Words → Words → Type 0 where
  attributes_comma : {p : Place} {after : Words} → SpellsAttributes [] (symbol_then symbol.Comma p after) (symbol_then symbol.Comma p after)
  attributes_semicolon : {p : Place} {after : Words} → SpellsAttributes [] (symbol_then symbol.Semicolon p after) (symbol_then symbol.Semicolon p after)
  attributes_more : {x : Attribute} {xs : List Attribute} {before middle after : Words} → SpellsAttribute x before middle → SpellsAttributes xs middle after →
      SpellsAttributes (x ∷ xs) before after

-- a name and its attributes
pub data SpellsDeclared : Declared → Words → Words → Type 0 where
  declared : {p : Place} {n : List ℕ} {xs : List Attribute} {before after : Words} → SpellsAttributes xs before after →
      SpellsDeclared (declared_of (naming p n) xs) (name_then n p before) after

-- a level, a name and its attributes
pub data SpellsPart : Part → Words → Words → Type 0 where
  part : {p q : Place} {level : ℕ} {n : List ℕ} {xs : List Attribute} {before after : Words} → SpellsAttributes xs before after →
      SpellsPart (part_of p level (naming q n) xs) (integer_then level p (name_then n q before)) after

-- DECLARE with attributes and a comma before the names, or without, or STRUCTURE
pub data SpellsDeclaration : Declaration → Words → Words → Type 0 where
  declares : {p q : Place} {items : List Declared} {before after : Words} → Parted SpellsDeclared items before (symbol_then symbol.Semicolon q after) →
      SpellsDeclaration (Declare p [] items) (reserved_then reserved.Declare p before) after
  declares_all : {p q r : Place} {x : Attribute} {xs : List Attribute} {items : List Declared} {before middle after : Words} →
      SpellsAttributes (x ∷ xs) before (symbol_then symbol.Comma r middle) → Parted SpellsDeclared items middle (symbol_then symbol.Semicolon q after) →
      SpellsDeclaration (Declare p (x ∷ xs) items) (reserved_then reserved.Declare p before) after
  structures : {p q r s : Place} {n : List ℕ} {parts : List Part} {before after : Words} → Parted SpellsPart parts before (symbol_then symbol.Semicolon s after) →
      SpellsDeclaration (Structure p (naming q n) parts) (reserved_then reserved.Structure p (name_then n q (symbol_then symbol.Colon r before))) after

-- any number of declarations
pub data SpellsDeclarations : List Declaration → Words → Words → Type 0 where
  no_declarations : {after : Words} → ¬ BeginsReserved reserved.Declare after → ¬ BeginsReserved reserved.Structure after → SpellsDeclarations [] after after
  more_declarations : {d : Declaration} {ds : List Declaration} {before middle after : Words} → SpellsDeclaration d before middle → SpellsDeclarations ds middle after →
      SpellsDeclarations (d ∷ ds) before after
