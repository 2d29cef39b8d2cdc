-- The same words spell one declaration at most.
use Rattle.std.proofs.Common.{◌≡◌, ℕ, ◌≤◌, List, [], ◌∷◌, refl, ap, ap₂, sym, arith, Option, Some}
use Rattle.hal_base.specs.declared.refusal.Place.{Place}
use Rattle.hal_words.specs.declared.reserved.Reserved.{Reserved}
use Rattle.hal_words.specs.declared.reserved.Reserved.TheVariants as reserved
use Rattle.hal_words.specs.declared.word.Symbol.{Symbol}
use Rattle.hal_words.specs.declared.word.Symbol.TheVariants as symbol
use Rattle.hal_words.specs.declared.word.Word.{Word}
use Rattle.hal_words.specs.declared.word.Word.TheVariants as word
use Rattle.hal_grammar.specs.Leaves.{Naming, naming, Sign, LiteralValue, Integer}
use Rattle.hal_grammar.specs.Expressions.{Expression, Literal}
use Rattle.hal_grammar.specs.Words.{Words, token, symbol_then, name_then, integer_then, BeginsWith, begins}
use Rattle.hal_grammar.specs.Declarations.{Mark, Kind, BitKind, CharacterKind, StructureKind, Initial, Value, LiteralTimes, NameTimes, ListTimes, Initials, NoInitials, MoreInitials, Attribute, Dimensions, Typed, Marked, LockGroup, InitialValues, ConstantValues, Declared, declared_of, Part, part_of, Declaration, Declare, Structure}
use Rattle.hal_grammar.specs.SpellsExpressions.{plus, minus, SpellsLiteral, integer, SpellsExpression, both, comparison, cat, sum, term, factor, primary, literal}
use Rattle.hal_grammar.specs.SpellsDeclarations.{Parted, last, more, SpellsNames, last_name, more_names, SpellsNameEnd, no_name_end, name_end, SpellsCopyCount, no_copy_count, copy_count, SpellsKind, integer_kind, bit_kind, boolean_kind, character_kind, event_kind, structure_kind, SpellsOpening, no_opening, opening, SpellsInitial, valued, literal_times, name_times, list_times, SpellsInitials, last_initial, more_initials, SpellsMark, single_mark, double_mark, latched_mark, static_mark, automatic_mark, dense_mark, aligned_mark, SpellsAttribute, dimensions, typed, marked, lock_group, lock_any, initial_values, constant_values, SpellsAttributes, attributes_comma, attributes_semicolon, attributes_more, SpellsDeclared, declared, SpellsPart, part, SpellsDeclaration, declares, declares_all, structures, SpellsDeclarations, no_declarations, more_declarations}
use Rattle.hal_grammar.specs.GoesOn.{strength, Outcome, same, sooner, later}
use Rattle.hal_grammar.proofs.Outcomes.{back, back₂, made, until, tail_same}
use Rattle.hal_grammar.proofs.Beginnings.{expression_strong}
use Rattle.hal_grammar.proofs.Leaves.{one_sign, one_literal, literal_begins, word_same, name_same}
use Rattle.hal_grammar.proofs.OneExpression.{one_expression, one_expressions}
use Rattle.hal_grammar.proofs.Lists.{one_parted}
use Rattle.hal_grammar.proofs.ShorterDeclarations.{names_shorter, declared_shorter, part_shorter}

-- an expression up to a word with which none goes on
pub exact : {t u : Expression} {b a c : Words} → SpellsExpression t b a → SpellsExpression u b c → strength a ≤ 2 → strength c ≤ 2 → (t ≡ u) × (a ≡ c)
exact d e h i = until (one_expression d e) h i

-- which attributes a reserved word begins: 1 a type, 2 one of one word, 3 another, 0 none
abbrev pub reserved_class : Reserved → ℕ
reserved_class reserved.Integer = 1
reserved_class reserved.Bit = 1
reserved_class reserved.Boolean = 1
reserved_class reserved.Character = 1
reserved_class reserved.Event = 1
reserved_class reserved.Single = 2
reserved_class reserved.Double = 2
reserved_class reserved.Latched = 2
reserved_class reserved.Static = 2
reserved_class reserved.Automatic = 2
reserved_class reserved.Dense = 2
reserved_class reserved.Aligned = 2
reserved_class reserved.Array = 3
reserved_class reserved.Lock = 3
reserved_class reserved.Initial = 3
reserved_class reserved.Constant = 3
reserved_class other = 0

-- the same of a word
abbrev pub word_class : Word → ℕ
word_class (word.Reserved r) = reserved_class r
word_class (word.Name n) = 1
word_class (word.Integer n) = 0
word_class (word.Decimal n) = 0
word_class (word.Text t) = 0
word_class (word.Bits len pattern) = 0
word_class (word.Symbol s) = 0

-- the same of the first of the words
abbrev pub class : Words → ℕ
class [] = 0
class (first ∷ words) = word_class first.word

pub one_names : {ns ms : List Naming} {b a c : Words} → SpellsNames ns b a → SpellsNames ms b c → Outcome 0 ns a ms c
one_names last_name last_name = same refl refl
one_names last_name (more_names e) = sooner (omega arith) (omega (arith, names_shorter e))
one_names (more_names d) last_name = later (omega arith) (omega (arith, names_shorter d))
one_names (more_names {p = p} {n = n} d) (more_names e) = made (omega arith) (λ r. ap (λ l. naming p n ∷ l) r) (one_names d e)

pub one_name_end : {n m : Option Naming} {b a c : Words} → SpellsNameEnd n b a → SpellsNameEnd m b c → (n ≡ m) × (a ≡ c)
one_name_end no_name_end no_name_end = (refl, refl)
one_name_end name_end name_end = (refl, refl)

pub one_copy_count : {t u : Option Expression} {b a c : Words} → SpellsCopyCount t b a → SpellsCopyCount u b c → (t ≡ u) × (a ≡ c)
one_copy_count (no_copy_count n) (no_copy_count m) = (refl, refl)
one_copy_count (no_copy_count n) (copy_count e) = absurd (n begins)
one_copy_count (copy_count d) (no_copy_count n) = absurd (n begins)
one_copy_count (copy_count d) (copy_count e) = let r = exact d e (omega arith) (omega arith) in (ap Some r.0, tail_same r.1)

pub one_kind : {k l : Kind} {b a c : Words} → SpellsKind k b a → SpellsKind l b c → (k ≡ l) × (a ≡ c)
one_kind integer_kind integer_kind = (refl, refl)
one_kind (bit_kind {p = p} d) (bit_kind e) = let r = exact d e (omega arith) (omega arith) in (ap (λ t. BitKind p t) r.0, tail_same r.1)
one_kind boolean_kind boolean_kind = (refl, refl)
one_kind (character_kind {p = p} d) (character_kind e) = let r = exact d e (omega arith) (omega arith) in (ap (λ t. CharacterKind p t) r.0, tail_same r.1)
one_kind event_kind event_kind = (refl, refl)
one_kind (structure_kind {p = p} {n = n} d) (structure_kind e) = let r = one_copy_count d e in (ap (λ t. StructureKind p n t) r.0, r.1)

pub kind_class : {k : Kind} {b a : Words} → SpellsKind k b a → class b ≡ 1
kind_class integer_kind = refl
kind_class (bit_kind d) = refl
kind_class boolean_kind = refl
kind_class (character_kind d) = refl
kind_class event_kind = refl
kind_class (structure_kind d) = refl

pub one_mark : {m n : Mark} {p q : Place} {b a c : Words} → SpellsMark m p b a → SpellsMark n q b c → (m ≡ n) × (p ≡ q) × (a ≡ c)
one_mark single_mark single_mark = (refl, refl, refl)
one_mark double_mark double_mark = (refl, refl, refl)
one_mark latched_mark latched_mark = (refl, refl, refl)
one_mark static_mark static_mark = (refl, refl, refl)
one_mark automatic_mark automatic_mark = (refl, refl, refl)
one_mark dense_mark dense_mark = (refl, refl, refl)
one_mark aligned_mark aligned_mark = (refl, refl, refl)

pub mark_class : {m : Mark} {p : Place} {b a : Words} → SpellsMark m p b a → class b ≡ 2
mark_class single_mark = refl
mark_class double_mark = refl
mark_class latched_mark = refl
mark_class static_mark = refl
mark_class automatic_mark = refl
mark_class dense_mark = refl
mark_class aligned_mark = refl

pub attribute_class : {x : Attribute} {b a : Words} → SpellsAttribute x b a → 1 ≤ class b
attribute_class (dimensions d) = omega arith
attribute_class (typed k) = omega (arith, kind_class k)
attribute_class (marked m) = omega (arith, mark_class m)
attribute_class (lock_group d) = omega arith
attribute_class lock_any = omega arith
attribute_class (initial_values d) = omega arith
attribute_class (constant_values d) = omega arith

pub one_opening : {s z : Option Sign} {b a c : Words} → SpellsOpening s b a → SpellsOpening z b c → (s ≡ z) × (a ≡ c)
one_opening (no_opening n m) (no_opening o p) = (refl, refl)
one_opening (no_opening n m) (opening plus) = absurd (n begins)
one_opening (no_opening n m) (opening minus) = absurd (m begins)
one_opening (opening plus) (no_opening n m) = absurd (n begins)
one_opening (opening minus) (no_opening n m) = absurd (m begins)
one_opening (opening d) (opening e) = let r = one_sign d e in (ap Some r.0, r.2)

-- what follows an initial value: 1 a comma, 2 a parenthesis
abbrev pub symbol_follow : Symbol → ℕ
symbol_follow symbol.Comma = 1
symbol_follow symbol.RightParenthesis = 2
symbol_follow other = 0

abbrev pub word_follow : Word → ℕ
word_follow (word.Reserved r) = 0
word_follow (word.Name n) = 0
word_follow (word.Integer n) = 0
word_follow (word.Decimal n) = 0
word_follow (word.Text t) = 0
word_follow (word.Bits len pattern) = 0
word_follow (word.Symbol s) = symbol_follow s

abbrev pub follow : Words → ℕ
follow [] = 0
follow (first ∷ words) = word_follow first.word

follow_weak : (a : Words) → 1 ≤ follow a → strength a ≤ 2
follow_weak [] h = omega arith
follow_weak (first ∷ words) h = by first.word h
  where
    by : (w : Word) → 1 ≤ word_follow w → strength (token w first.place ∷ words) ≤ 2
    by (word.Reserved r) h = absurd (omega arith)
    by (word.Name n) h = absurd (omega arith)
    by (word.Integer n) h = absurd (omega arith)
    by (word.Decimal n) h = absurd (omega arith)
    by (word.Text t) h = absurd (omega arith)
    by (word.Bits len pattern) h = absurd (omega arith)
    by (word.Symbol symbol.Comma) h = omega arith
    by (word.Symbol symbol.RightParenthesis) h = omega arith
    by (word.Symbol s) h = absurd (omega arith)

-- an expression that begins with an integer and `#` ends before `#`
counted : {t : Expression} {n : ℕ} {p q : Place} {m a : Words} → SpellsExpression t (integer_then n p (symbol_then symbol.Number q m)) a → 1 ≤ follow a → ⊥
counted {t = t} {n = n} {p = p} {q = q} {m = m} {a = a} d h =
    let e : SpellsExpression (Literal p (Integer n)) (integer_then n p (symbol_then symbol.Number q m)) (symbol_then symbol.Number q m) =
    both (comparison (cat (sum (term (factor (primary (literal integer))))))) in
    let r = exact d e (follow_weak a h) (omega arith) in
    omega (arith, ap follow r.1)

literal_not_name : {l : LiteralValue} {p q : Place} {n : List ℕ} {b a : Words} → SpellsLiteral l p (name_then n q b) a → ⊥
literal_not_name d = literal_begins d

opening_not_left : {s : Option Sign} {p : Place} {b a : Words} → SpellsOpening s (symbol_then symbol.LeftParenthesis p b) a → symbol_then symbol.LeftParenthesis p b ≡ a
opening_not_left (no_opening n m) = refl
opening_not_left (opening d) = elim d [ ]

literal_not_left : {l : LiteralValue} {p q : Place} {b a : Words} → SpellsLiteral l p (symbol_then symbol.LeftParenthesis q b) a → ⊥
literal_not_left d = literal_begins d

name_not_left : {n : List ℕ} {p q : Place} {b a : Words} → symbol_then symbol.LeftParenthesis p b ≡ name_then n q a → ⊥
name_not_left e = let h : word.Symbol symbol.LeftParenthesis ≡ word.Name _ = word_same e in cc

literal_times_same : {p : Place} {n : ℕ} {q r : Place} {s z : Option Sign} {l m : LiteralValue} → s ≡ z → q ≡ r → l ≡ m → LiteralTimes p n s q l ≡ LiteralTimes p n z r m
literal_times_same e f g = cc

name_times_same : {p : Place} {n : ℕ} {q r : Place} {s z : Option Sign} {x y : List ℕ} → s ≡ z → x ≡ y → q ≡ r → NameTimes p n s (naming q x) ≡ NameTimes p n z (naming r y)
name_times_same {p = p} {n = n} {r = r} {x = x} e f g = ap₂ (λ s m. NameTimes p n s m) e (ap₂ (λ q x. naming q x) g f)

mutual
  pub one_initial : {t u : Initial} {b a c : Words} → SpellsInitial t b a → SpellsInitial u b c → 1 ≤ follow a → 1 ≤ follow c → (t ≡ u) × (a ≡ c)
  one_initial {a = a} {c = c} (valued d) (valued e) h i = let r = exact d e (follow_weak a h) (follow_weak c i) in (ap Value r.0, r.1)
  one_initial (valued d) (literal_times o l) h i = absurd (counted d h)
  one_initial (valued d) (name_times o) h i = absurd (counted d h)
  one_initial (valued d) (list_times e) h i = absurd (counted d h)
  one_initial (literal_times o l) (valued e) h i = absurd (counted e i)
  one_initial (name_times o) (valued e) h i = absurd (counted e i)
  one_initial (list_times d) (valued e) h i = absurd (counted e i)
  one_initial (literal_times {p = p} {n = n} o l) (literal_times v k) h i =
      let r = one_opening o v in
      let s = one_literal l (back₂ SpellsLiteral r.1 k) in (literal_times_same r.0 s.1 s.0, s.2)
  one_initial (literal_times o l) (name_times v) h i = let r = one_opening o v in absurd (literal_not_name (back₂ SpellsLiteral (sym r.1) l))
  one_initial (literal_times o l) (list_times e) h i = absurd (literal_not_left (back₂ SpellsLiteral (opening_not_left o) l))
  one_initial (name_times o) (literal_times v k) h i = let r = one_opening o v in absurd (literal_not_name (back₂ SpellsLiteral r.1 k))
  one_initial (name_times o) (name_times v) h i = let r = one_opening o v in let s = name_same r.1 in (name_times_same r.0 s.0 s.1, s.2)
  one_initial (name_times o) (list_times e) h i = absurd (name_not_left (opening_not_left o))
  one_initial (list_times d) (literal_times v k) h i = absurd (literal_not_left (back₂ SpellsLiteral (opening_not_left v) k))
  one_initial (list_times d) (name_times v) h i = absurd (name_not_left (opening_not_left v))
  one_initial (list_times {p = p} {n = n} d) (list_times e) h i = let r = one_initials d e (omega arith) (omega arith) in (ap (λ t. ListTimes p n t) r.0, tail_same r.1)

  pub one_initials : {ts us : Initials} {b a c : Words} → SpellsInitials ts b a → SpellsInitials us b c → follow a ≡ 2 → follow c ≡ 2 → (ts ≡ us) × (a ≡ c)
  one_initials (last_initial d) (last_initial e) h i = let r = one_initial d e (omega arith) (omega arith) in (ap (λ t. MoreInitials t NoInitials) r.0, r.1)
  one_initials (last_initial d) (more_initials e es) h i = let r = one_initial d e (omega arith) (omega arith) in absurd (omega (arith, ap follow r.1))
  one_initials (more_initials d ds) (last_initial e) h i = let r = one_initial d e (omega arith) (omega arith) in absurd (omega (arith, ap follow r.1))
  one_initials (more_initials d ds) (more_initials e es) h i =
      let r = one_initial d e (omega arith) (omega arith) in
      let s = one_initials ds (back SpellsInitials (tail_same r.1) es) h i in (ap₂ MoreInitials r.0 s.0, s.1)

pub one_attribute : {x y : Attribute} {b a c : Words} → SpellsAttribute x b a → SpellsAttribute y b c → (x ≡ y) × (a ≡ c)
one_attribute (dimensions {p = p} d) (dimensions e) = let r = until (one_expressions d e) (omega arith) (omega arith) in (ap (λ t. Dimensions p t) r.0, tail_same r.1)
one_attribute (typed k) (typed l) = let r = one_kind k l in (ap Typed r.0, r.1)
one_attribute (typed k) (marked m) = absurd (omega (arith, kind_class k, mark_class m))
one_attribute (typed k) e = absurd (omega (arith, kind_class k))
one_attribute (marked m) (typed k) = absurd (omega (arith, kind_class k, mark_class m))
one_attribute (marked m) (marked n) = let r = one_mark m n in (ap₂ Marked r.1 r.0, r.2)
one_attribute (marked m) e = absurd (omega (arith, mark_class m))
one_attribute (lock_group {p = p} d) (lock_group e) = let r = exact d e (omega arith) (omega arith) in (ap (λ t. LockGroup p t) r.0, tail_same r.1)
one_attribute (lock_group d) lock_any = absurd (omega (arith, expression_strong d))
one_attribute lock_any (lock_group e) = absurd (omega (arith, expression_strong e))
one_attribute lock_any lock_any = (refl, refl)
one_attribute (initial_values {p = p} d) (initial_values e) = let r = one_initials d e refl refl in (ap (λ t. InitialValues p t) r.0, tail_same r.1)
one_attribute (constant_values {p = p} d) (constant_values e) = let r = one_initials d e refl refl in (ap (λ t. ConstantValues p t) r.0, tail_same r.1)
one_attribute d (typed k) = absurd (omega (arith, kind_class k))
one_attribute d (marked m) = absurd (omega (arith, mark_class m))

pub one_attributes : {xs ys : List Attribute} {b a c : Words} → SpellsAttributes xs b a → SpellsAttributes ys b c → (xs ≡ ys) × (a ≡ c)
one_attributes attributes_comma attributes_comma = (refl, refl)
one_attributes attributes_comma (attributes_more e es) = absurd (omega (arith, attribute_class e))
one_attributes attributes_semicolon attributes_semicolon = (refl, refl)
one_attributes attributes_semicolon (attributes_more e es) = absurd (omega (arith, attribute_class e))
one_attributes (attributes_more d ds) attributes_comma = absurd (omega (arith, attribute_class d))
one_attributes (attributes_more d ds) attributes_semicolon = absurd (omega (arith, attribute_class d))
one_attributes (attributes_more d ds) (attributes_more e es) =
    let r = one_attribute d e in
    let s = one_attributes ds (back SpellsAttributes r.1 es) in (ap₂ ◌∷◌ r.0 s.0, s.1)

one_declared : {x y : Declared} {b a c : Words} → SpellsDeclared x b a → SpellsDeclared y b c → Outcome 1 x a y c
one_declared (declared {p = p} {n = n} d) (declared e) = let r = one_attributes d e in same (ap (λ l. declared_of (naming p n) l) r.0) r.1

one_part : {x y : Part} {b a c : Words} → SpellsPart x b a → SpellsPart y b c → Outcome 1 x a y c
one_part (part {p = p} {q = q} {level = level} {n = n} d) (part e) = let r = one_attributes d e in same (ap (λ l. part_of p level (naming q n) l) r.0) r.1

attributes_not_minus : {xs : List Attribute} {p : Place} {b a : Words} → SpellsAttributes xs (symbol_then symbol.Minus p b) a → ⊥
attributes_not_minus (attributes_more d ds) = absurd (omega (arith, attribute_class d))

-- what is declared begins with no attribute
declared_apart : {y : Declared} {x : Attribute} {b a c : Words} → SpellsDeclared y b a → SpellsAttribute x b c → ⊥
declared_apart (declared ds) (typed (structure_kind s)) = attributes_not_minus ds
declared_apart (declared ds) (marked m) = absurd (omega (arith, mark_class m))

items_apart : {ys : List Declared} {x : Attribute} {xs : List Attribute} {b a c : Words} → Parted SpellsDeclared ys b a → SpellsAttributes (x ∷ xs) b c → ⊥
items_apart (last d) (attributes_more e es) = declared_apart d e
items_apart (more d ds) (attributes_more e es) = declared_apart d e

pub one_declaration : {d e : Declaration} {b a c : Words} → SpellsDeclaration d b a → SpellsDeclaration e b c → (d ≡ e) × (a ≡ c)
one_declaration (declares {p = p} d) (declares e) =
    let r = until (one_parted (λ x b a d. declared_shorter d) (λ x y b a c d e. one_declared d e) d e) (omega arith) (omega arith) in (ap (λ l. Declare p [] l) r.0, tail_same r.1)
one_declaration (declares d) (declares_all es e) = absurd (items_apart d es)
one_declaration (declares_all ds d) (declares e) = absurd (items_apart e ds)
one_declaration (declares_all {p = p} ds d) (declares_all es e) =
    let r = one_attributes ds es in
    let s = until (one_parted (λ x b a d. declared_shorter d) (λ x y b a c d e. one_declared d e) d (back (Parted SpellsDeclared) (tail_same r.1) e)) (omega arith) (omega arith) in
    (ap₂ (λ k l. Declare p k l) r.0 s.0, tail_same s.1)
one_declaration (structures {p = p} {q = q} {n = n} d) (structures e) =
    let r = until (one_parted (λ x b a d. part_shorter d) (λ x y b a c d e. one_part d e) d e) (omega arith) (omega arith) in (ap (λ l. Structure p (naming q n) l) r.0, tail_same r.1)

declaration_begins : {d : Declaration} {b a : Words} → ¬ BeginsWith (word.Reserved reserved.Declare) b → ¬ BeginsWith (word.Reserved reserved.Structure) b → SpellsDeclaration d b a → ⊥
declaration_begins n m (declares d) = n begins
declaration_begins n m (declares_all ds d) = n begins
declaration_begins n m (structures d) = m begins

pub one_declarations : {ds es : List Declaration} {b a c : Words} → SpellsDeclarations ds b a → SpellsDeclarations es b c → (ds ≡ es) × (a ≡ c)
one_declarations (no_declarations n m) (no_declarations o p) = (refl, refl)
one_declarations (no_declarations n m) (more_declarations e es) = absurd (declaration_begins n m e)
one_declarations (more_declarations d ds) (no_declarations n m) = absurd (declaration_begins n m d)
one_declarations (more_declarations d ds) (more_declarations e es) =
    let r = one_declaration d e in
    let s = one_declarations ds (back SpellsDeclarations r.1 es) in (ap₂ ◌∷◌ r.0 s.0, s.1)
