-- The names of declarations and the parts of structures with their attributes: what is read is spelled, and what is spelled is read.
use Rattle.std.proofs.Common.{◌≡◌, ℕ, ◌<◌, ◌≤◌, inl, inr, List, length, Some, refl, ap, ◌∙◌, arith}
use Rattle.hal_base.specs.declared.refusal.Place.{Place}
use Rattle.hal_words.specs.declared.word.Symbol.TheVariants as symbol
use Rattle.hal_grammar.specs.Leaves.{naming, most}
use Rattle.hal_grammar.specs.Declarations.{Attribute, Declared, declared_of, Part, part_of, nesting_of_declared, nesting_of_part}
use Rattle.hal_grammar.specs.Words.{Words, symbol_then, name_then, integer_then, begins}
use Rattle.hal_grammar.specs.SpellsDeclarations.{Parted, last, more, SpellsDeclared, declared, SpellsPart, part}
use Rattle.hal_grammar.proofs.ShorterDeclarations.{attribute_shorter}
use Rattle.hal_parse_expr.proofs.Shortening.{Shortens}
use Rattle.hal_parse_expr.specs.Reading.{name_at, integer_at}
use Rattle.hal_parse_declarations.specs.ReadingDeclarations.{attribute_at, attributes_at, declared_at, part_at, items_at, parts_at}
use Rattle.hal_parse_expr.proofs.Readings.{Holds, holds}
use Rattle.hal_parse_expr.proofs.Combining.{followed_holds}
use Rattle.hal_parse_declarations.proofs.Firsts.{name_gives, integer_gives, gives_before_symbol}
use Rattle.hal_parse_declarations.proofs.Becomes.{followed_is, before_symbol_is}
use Rattle.hal_parse_declarations.proofs.Chains.{Chain, all_chain, shortens, chain_shorter}
use Rattle.hal_parse_declarations.proofs.PartedLists.{list_gives, list_is, parted_shallow}
use Rattle.hal_parse_declarations.proofs.AttributesRead.{AttributeOf, attribute_gives, EndsAttributes, attributes_spelled, attributes_are}

-- a name and as many attributes as were read
data NameOf (n : ℕ) : Declared → Words → Words → Type 0 where
  name_of : {p : Place} {m : List ℕ} {xs : List Attribute} {b a : Words} → Chain (AttributeOf n) xs b a → NameOf n (declared_of (naming p m) xs) (name_then m p b) a

-- a level, a name and as many attributes as were read
data PartOf (n : ℕ) : Part → Words → Words → Type 0 where
  level_of : {p q : Place} {l : ℕ} {m : List ℕ} {xs : List Attribute} {b a : Words} → Chain (AttributeOf n) xs b a →
      PartOf n (part_of p l (naming q m) xs) (integer_then l p (name_then m q b)) a

attributes_chain : (n : ℕ) (words : Words) → Chain (AttributeOf n) (attributes_at n words).0 words (attributes_at n words).1
unfolding attributes_at
attributes_chain n words = all_chain (attribute_at n) (attribute_gives n) words

declared_gives : (n : ℕ) (words : Words) → Holds (λ x rest. NameOf n x words rest) (declared_at n words)
unfolding declared_at
declared_gives n words = followed_holds (name_gives words) (λ x rest e. holds (rw e (name_of (attributes_chain n rest))))

part_gives : (n : ℕ) (words : Words) → Holds (λ x rest. PartOf n x words rest) (part_at n words)
unfolding part_at
part_gives n words = followed_holds (integer_gives words) (λ f rest e. followed_holds (name_gives rest) (λ x after g. holds (rw (e, g) (level_of (attributes_chain n after)))))

name_of_shorter : (n : ℕ) (x : Declared) (words rest : Words) → NameOf n x words rest → length rest < length words
name_of_shorter n x words rest (name_of c) = omega (arith, chain_shorter (λ y b a d. attribute_shorter d.0) c)

level_of_shorter : (n : ℕ) (x : Part) (words rest : Words) → PartOf n x words rest → length rest < length words
level_of_shorter n x words rest (level_of c) = omega (arith, chain_shorter (λ y b a d. attribute_shorter d.0) c)

pub declared_shortens : (n : ℕ) → Shortens (declared_at n)
declared_shortens n = shortens (declared_gives n) (name_of_shorter n)

pub part_shortens : (n : ℕ) → Shortens (part_at n)
part_shortens n = shortens (part_gives n) (level_of_shorter n)

names_spelled : (n : ℕ) {xs : List Declared} {b a : Words} → Parted (NameOf n) xs b a → EndsAttributes a → Parted SpellsDeclared xs b a × (most nesting_of_declared xs ≤ n)
names_spelled n (last (name_of c)) e = let r = attributes_spelled n c e in (last (declared r.0), omega (arith, r.1))
names_spelled n (more (name_of c) ds) e =
    let r = attributes_spelled n c (inl begins) in
    let s = names_spelled n ds e in (more (declared r.0) s.0, omega (arith, r.1, s.1))

levels_spelled : (n : ℕ) {xs : List Part} {b a : Words} → Parted (PartOf n) xs b a → EndsAttributes a → Parted SpellsPart xs b a × (most nesting_of_part xs ≤ n)
levels_spelled n (last (level_of c)) e = let r = attributes_spelled n c e in (last (part r.0), omega (arith, r.1))
levels_spelled n (more (level_of c) ds) e =
    let r = attributes_spelled n c (inl begins) in
    let s = levels_spelled n ds e in (more (part r.0) s.0, omega (arith, r.1, s.1))

-- the names of a declaration and its semicolon
pub data ItemsOf (n : ℕ) (xs : List Declared) (b a : Words) : Type 0 where
  items_of : {q : Place} → Parted SpellsDeclared xs b (symbol_then symbol.Semicolon q a) → most nesting_of_declared xs ≤ n → ItemsOf n xs b a

-- the parts of a structure and its semicolon
pub data PartsOf (n : ℕ) (xs : List Part) (b a : Words) : Type 0 where
  parts_of : {q : Place} → Parted SpellsPart xs b (symbol_then symbol.Semicolon q a) → most nesting_of_part xs ≤ n → PartsOf n xs b a

items_so : (n : ℕ) {xs : List Declared} {b a : Words} {q : Place} → Parted (NameOf n) xs b (symbol_then symbol.Semicolon q a) → ItemsOf n xs b a
items_so n d = let r = names_spelled n d (inr begins) in items_of r.0 r.1

parts_so : (n : ℕ) {xs : List Part} {b a : Words} {q : Place} → Parted (PartOf n) xs b (symbol_then symbol.Semicolon q a) → PartsOf n xs b a
parts_so n d = let r = levels_spelled n d (inr begins) in parts_of r.0 r.1

pub items_give : (n : ℕ) (words : Words) → Holds (λ xs rest. ItemsOf n xs words rest) (items_at n words)
unfolding items_at
items_give n words = gives_before_symbol symbol.Semicolon (list_gives (declared_at n) (declared_gives n) words) (λ xs q after d. items_so n d)

pub parts_give : (n : ℕ) (words : Words) → Holds (λ xs rest. PartsOf n xs words rest) (parts_at n words)
unfolding parts_at
parts_give n words = gives_before_symbol symbol.Semicolon (list_gives (part_at n) (part_gives n) words) (λ xs q after d. parts_so n d)

declared_is : (n : ℕ) {x : Declared} {b a : Words} → SpellsDeclared x b a → nesting_of_declared x ≤ n → declared_at n b ≡ Some (x, a)
unfolding declared_at name_at
declared_is n (declared {p = p} {n = m} ds) h = followed_is _ refl ∙ ap (λ l. Some (declared_of (naming p m) l.0, l.1)) (attributes_are n ds h)

part_is : (n : ℕ) {x : Part} {b a : Words} → SpellsPart x b a → nesting_of_part x ≤ n → part_at n b ≡ Some (x, a)
unfolding part_at name_at integer_at
part_is n (part {p = p} {q = q} {level = level} {n = m} ds) h = followed_is _ refl ∙ followed_is _ refl ∙ ap (λ l. Some (part_of p level (naming q m) l.0, l.1)) (attributes_are n ds h)

pub items_are : (n : ℕ) {xs : List Declared} {b : Words} {q : Place} {a : Words} → Parted SpellsDeclared xs b (symbol_then symbol.Semicolon q a) → most nesting_of_declared xs ≤ n →
    items_at n b ≡ Some (xs, a)
unfolding items_at
items_are n d h =
    before_symbol_is (list_is {E = λ w. Unit {0}} (declared_at n) (declared_shortens n) (λ x b a e u. declared_is n e.0 e.1) (λ p words. tt)
    (parted_shallow nesting_of_declared n d h) tt (λ e. elim e [ ]))

pub parts_are : (n : ℕ) {xs : List Part} {b : Words} {q : Place} {a : Words} → Parted SpellsPart xs b (symbol_then symbol.Semicolon q a) → most nesting_of_part xs ≤ n →
    parts_at n b ≡ Some (xs, a)
unfolding parts_at
parts_are n d h =
    before_symbol_is (list_is {E = λ w. Unit {0}} (part_at n) (part_shortens n) (λ x b a e u. part_is n e.0 e.1) (λ p words. tt)
    (parted_shallow nesting_of_part n d h) tt (λ e. elim e [ ]))
