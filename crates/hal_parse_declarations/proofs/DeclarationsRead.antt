-- Declarations: what is read is spelled, and what is spelled is read.
use Rattle.std.proofs.Common.{◌≡◌, ℕ, ◌≤◌, ◌<◌, inl, List, [], ◌∷◌, length, Some, None, refl, ap, ◌∙◌, arith}
use Rattle.hal_base.specs.declared.refusal.Place.{Place}
use Rattle.hal_words.specs.declared.reserved.Reserved.TheVariants as reserved
use Rattle.hal_words.specs.declared.word.Symbol.TheVariants as symbol
use Rattle.hal_grammar.specs.Leaves.{Naming, naming, most}
use Rattle.hal_grammar.specs.Declarations.{Attribute, Declared, Part, Declaration, Declare, Structure, nesting_of_attribute, nesting_of_declared, nesting_of_declaration}
use Rattle.hal_grammar.specs.Words.{Words, reserved_then, symbol_then, name_then, BeginsReserved, BeginsSymbol, begins}
use Rattle.hal_grammar.specs.SpellsDeclarations.{Parted, last, more, SpellsAttributes, attributes_comma, attributes_semicolon, attributes_more, SpellsDeclared, declared, SpellsDeclaration, declares, declares_all, structures, SpellsDeclarations, no_declarations, more_declarations}
use Rattle.hal_grammar.proofs.OneDeclaration.{class, attribute_class}
use Rattle.hal_grammar.proofs.ShorterDeclarations.{declaration_shorter}
use Rattle.hal_parse_expr.specs.Reading.{name_at, followed, made_of}
use Rattle.hal_parse_expr.proofs.Shortening.{Shortens, all_none}
use Rattle.hal_parse_declarations.specs.ReadingDeclarations.{kind_behind, structure_behind, mark_of, marked_or_typed, attribute_behind, attribute_at, attributes_at, items_behind, declare_behind, label_at, template_behind, declaration_at, declarations_at}
use Rattle.hal_parse_expr.proofs.FirstWords.{past_here, past_none, past_symbol_here, past_symbol_none}
use Rattle.hal_parse_expr.proofs.Readings.{Holds, weaker_holds}
use Rattle.hal_parse_expr.proofs.Combining.{followed_holds, made_holds}
use Rattle.hal_parse_declarations.proofs.Decided.{decided_holds}
use Rattle.hal_parse_declarations.proofs.Firsts.{name_gives, past_gives, symbol_gives}
use Rattle.hal_parse_expr.proofs.Equations.{made_equals}
use Rattle.hal_parse_declarations.proofs.Becomes.{followed_is, decided_is, decided_not, past_is, symbol_is}
use Rattle.hal_parse_declarations.proofs.Chains.{Chain, chain_end, chain_more, all_chain, shortens, all_first}
use Rattle.hal_parse_declarations.proofs.AttributesRead.{AttributeOf, attribute_gives, attributes_spelled, attributes_are}
use Rattle.hal_parse_declarations.proofs.ItemsRead.{ItemsOf, items_of, PartsOf, parts_of, items_give, parts_give, items_are, parts_are}

-- a name and a colon
pub data SpellsLabel : Naming → Words → Words → Type 0 where
  one_label : {p q : Place} {n : List ℕ} {after : Words} → SpellsLabel (naming p n) (name_then n p (symbol_then symbol.Colon q after)) after

pub label_gives : (words : Words) → Holds (λ x rest. SpellsLabel x words rest) (label_at words)
unfolding label_at
label_gives words = followed_holds (name_gives words) (λ x rest e. made_holds _ (symbol_gives symbol.Colon rest) (λ p after f. rw (e, f) one_label))

pub label_is : {x : Naming} {b a : Words} → SpellsLabel x b a → label_at b ≡ Some (x, a)
unfolding label_at name_at
label_is (one_label {q = q} {after = after}) = followed_is _ refl ∙ made_equals _ (past_symbol_here symbol.Colon q after)

label_shorter : (x : Naming) (words rest : Words) → SpellsLabel x words rest → length rest < length words
label_shorter x words rest one_label = omega arith

pub label_shortens : Shortens label_at
label_shortens = shortens label_gives label_shorter

-- a declaration that is nested so deep at most
abbrev pub DeclarationOf : ℕ → Declaration → Words → Words → Type 0
DeclarationOf n x b a = SpellsDeclaration x b a × (nesting_of_declaration x ≤ n)

alone_spelled : {n : ℕ} {p : Place} {xs : List Declared} {b a : Words} → ItemsOf n xs b a → DeclarationOf n (Declare p [] xs) (reserved_then reserved.Declare p b) a
alone_spelled (items_of d l) = (declares d, omega (arith, l))

all_spelled : {n : ℕ} {p q : Place} {x : Attribute} {xs : List Attribute} {ys : List Declared} {b m a : Words} → Chain (AttributeOf n) (x ∷ xs) b (symbol_then symbol.Comma q m) → ItemsOf n ys m a →
    DeclarationOf n (Declare p (x ∷ xs) ys) (reserved_then reserved.Declare p b) a
all_spelled {n = n} c (items_of d l) = let r = attributes_spelled n c (inl begins) in (declares_all r.0 d, omega (arith, r.1, l))

items_behind_gives : (n : ℕ) (p : Place) {xs : List Attribute} {words rest : Words} → Chain (AttributeOf n) xs words rest →
    Holds (λ x after. DeclarationOf n x (reserved_then reserved.Declare p words) after) (items_behind n p xs rest)
unfolding items_behind
items_behind_gives n p (chain_end {after = words}) = made_holds _ (items_give n words) (λ items rest d. alone_spelled d)
items_behind_gives n p {rest = rest} (chain_more h c) =
    followed_holds (symbol_gives symbol.Comma rest) (λ q after e. made_holds _ (items_give n after) (λ items last d. all_spelled (rw e at (chain_more h c)) d))

declare_gives : (n : ℕ) (p : Place) (words : Words) → Holds (λ x rest. DeclarationOf n x (reserved_then reserved.Declare p words) rest) (declare_behind n p words)
unfolding declare_behind attributes_at
declare_gives n p words = items_behind_gives n p (all_chain (attribute_at n) (attribute_gives n) words)

structure_spelled : {n : ℕ} {p : Place} {x : Naming} {xs : List Part} {b m a : Words} → SpellsLabel x b m → PartsOf n xs m a → DeclarationOf n (Structure p x xs) (reserved_then reserved.Structure p b) a
structure_spelled one_label (parts_of d l) = (structures d, l)

template_gives : (n : ℕ) (p : Place) (words : Words) → Holds (λ x rest. DeclarationOf n x (reserved_then reserved.Structure p words) rest) (template_behind n p words)
unfolding template_behind
template_gives n p words = followed_holds (label_gives words) (λ x rest e. made_holds _ (parts_give n rest) (λ xs after d. structure_spelled e d))

-- what is read of a declaration is spelled
pub declaration_gives : (n : ℕ) (words : Words) → Holds (λ x rest. DeclarationOf n x words rest) (declaration_at n words)
unfolding declaration_at
declaration_gives n words =
    decided_holds (past_gives reserved.Declare words) (λ p rest e. weaker_holds (declare_gives n p rest) (λ x after d. rw e d))
    (λ e. followed_holds (past_gives reserved.Structure words) (λ p rest f. weaker_holds (template_gives n p rest) (λ x after d. rw f d)))

attributes_not_minus : {xs : List Attribute} {b a : Words} → SpellsAttributes xs b a → ¬ BeginsSymbol symbol.Minus b
attributes_not_minus attributes_comma = λ d. elim d [ ]
attributes_not_minus attributes_semicolon = λ d. elim d [ ]
attributes_not_minus (attributes_more {before = before} d ds) = λ e. minus_class e (attribute_class d)
  where
    minus_class : {b : Words} → BeginsSymbol symbol.Minus b → 1 ≤ class b → ⊥
    minus_class begins h = omega (arith, h)

-- a name that no structure follows is no attribute
no_attribute : (n : ℕ) (p : Place) (m : List ℕ) {b : Words} → ¬ BeginsSymbol symbol.Minus b → attribute_at n (name_then m p b) ≡ None
unfolding attribute_at attribute_behind marked_or_typed mark_of kind_behind structure_behind made_of followed
no_attribute n p m {b = b} h = rw (past_symbol_none symbol.Minus b h)

declared_no_attribute : (n : ℕ) {x : Declared} {b a : Words} → SpellsDeclared x b a → attribute_at n b ≡ None
declared_no_attribute n (declared {p = p} {n = m} ds) = no_attribute n p m (attributes_not_minus ds)

items_no_attribute : (n : ℕ) {xs : List Declared} {b a : Words} → Parted SpellsDeclared xs b a → attribute_at n b ≡ None
items_no_attribute n (last d) = declared_no_attribute n d
items_no_attribute n (more d ds) = declared_no_attribute n d

no_attributes : (n : ℕ) {xs : List Declared} {b a : Words} → Parted SpellsDeclared xs b a → attributes_at n b ≡ ([], b)
unfolding attributes_at
no_attributes n {b = b} d = all_none (attribute_at n) b (items_no_attribute n d)

declares_is : (n : ℕ) (p : Place) {xs : List Declared} {b : Words} {q : Place} {a : Words} → Parted SpellsDeclared xs b (symbol_then symbol.Semicolon q a) → most nesting_of_declared xs ≤ n →
    declare_behind n p b ≡ Some (Declare p [] xs, a)
unfolding declare_behind items_behind
declares_is n p d h = ap (λ l. items_behind n p l.0 l.1) (no_attributes n d) ∙ made_equals _ (items_are n d h)

declares_all_is : (n : ℕ) (p : Place) {x : Attribute} {xs : List Attribute} {ys : List Declared} {b m : Words} {r q : Place} {a : Words} →
    SpellsAttributes (x ∷ xs) b (symbol_then symbol.Comma r m) → most nesting_of_attribute (x ∷ xs) ≤ n → Parted SpellsDeclared ys m (symbol_then symbol.Semicolon q a) →
    most nesting_of_declared ys ≤ n → declare_behind n p b ≡ Some (Declare p (x ∷ xs) ys, a)
unfolding declare_behind items_behind
declares_all_is n p {m = m} {r = r} d h e l = ap (λ l. items_behind n p l.0 l.1) (attributes_are n d h) ∙ symbol_is symbol.Comma r m _ ∙ made_equals _ (items_are n e l)

structures_is : (n : ℕ) (p : Place) {x : Naming} {xs : List Part} {b m a : Words} → SpellsLabel x b m → PartsOf n xs m a → template_behind n p b ≡ Some (Structure p x xs, a)
unfolding template_behind
structures_is n p e (parts_of d h) = followed_is _ (label_is e) ∙ made_equals _ (parts_are n d h)

-- what is spelled as a declaration is read
pub declaration_is : (n : ℕ) {x : Declaration} {b a : Words} → SpellsDeclaration x b a → nesting_of_declaration x ≤ n → declaration_at n b ≡ Some (x, a)
unfolding declaration_at
declaration_is n (declares {p = p} {before = before} d) h = decided_is _ _ (past_here reserved.Declare p before) ∙ declares_is n p d (omega arith)
declaration_is n (declares_all {p = p} {before = before} d e) h = decided_is _ _ (past_here reserved.Declare p before) ∙ declares_all_is n p d (omega arith) e (omega arith)
declaration_is n (structures {p = p} {q = q} {r = r} {n = m} {before = before} d) h =
    let w : Words = name_then m q (symbol_then symbol.Colon r before) in
    decided_not _ _ (past_none reserved.Declare (reserved_then reserved.Structure p w) (λ e. elim e [ ])) ∙ past_is reserved.Structure p w _ ∙ structures_is n p one_label (parts_of d h)

pub declaration_shortens : (n : ℕ) → Shortens (declaration_at n)
declaration_shortens n = shortens (declaration_gives n) (λ x words rest d. declaration_shorter d.0)

-- what is read of declarations up to their end is spelled
pub declarations_spelled : (n : ℕ) {ds : List Declaration} {b a : Words} → Chain (DeclarationOf n) ds b a → ¬ BeginsReserved reserved.Declare a → ¬ BeginsReserved reserved.Structure a →
    SpellsDeclarations ds b a × (most nesting_of_declaration ds ≤ n)
declarations_spelled n chain_end h k = (no_declarations h k, omega arith)
declarations_spelled n (chain_more d c) h k = let r = declarations_spelled n c h k in (more_declarations d.0 r.0, omega (arith, d.1, r.1))

pub declarations_chain : (n : ℕ) (words : Words) → Chain (DeclarationOf n) (declarations_at n words).0 words (declarations_at n words).1
unfolding declarations_at
declarations_chain n words = all_chain (declaration_at n) (declaration_gives n) words

no_declaration : (n : ℕ) {a : Words} → ¬ BeginsReserved reserved.Declare a → ¬ BeginsReserved reserved.Structure a → declaration_at n a ≡ None
unfolding declaration_at followed
no_declaration n {a = a} h k = decided_not _ _ (past_none reserved.Declare a h) ∙ ap (λ o. followed o (λ p rest. template_behind n p rest)) (past_none reserved.Structure a k)

-- what is spelled as declarations is read
pub declarations_are : (n : ℕ) {ds : List Declaration} {b a : Words} → SpellsDeclarations ds b a → most nesting_of_declaration ds ≤ n → declarations_at n b ≡ (ds, a)
unfolding declarations_at
declarations_are n (no_declarations {after = after} h k) l = all_none (declaration_at n) after (no_declaration n h k)
declarations_are n (more_declarations d ds) l = all_first (declaration_at n) (declaration_shortens n) (declaration_is n d (omega arith)) (declarations_are n ds (omega arith))
