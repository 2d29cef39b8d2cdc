-- Attributes: what is read is spelled, and what is spelled is read.
use Rattle.std.proofs.Common.{◌≡◌, ℕ, ◌≤◌, ◌⊎◌, inl, inr, List, [], ◌∷◌, Option, Some, None, refl, ◌∙◌, arith}
use Rattle.hal_base.specs.declared.refusal.Place.{Place}
use Rattle.hal_words.specs.declared.reserved.Reserved.TheVariants as reserved
use Rattle.hal_words.specs.declared.word.Symbol.TheVariants as symbol
use Rattle.hal_words.specs.declared.word.Word.{Word}
use Rattle.hal_words.specs.declared.word.Word.TheVariants as word
use Rattle.hal_grammar.specs.Leaves.{most}
use Rattle.hal_grammar.specs.Expressions.{Expression, Expressions, nesting, nesting_of_all}
use Rattle.hal_grammar.specs.Declarations.{Mark, Kind, Initials, Attribute, Dimensions, Typed, Marked, LockGroup, LockAny, InitialValues, ConstantValues, nesting_of_attribute}
use Rattle.hal_grammar.specs.Words.{Words, token, reserved_then, symbol_then, BeginsSymbol, begins}
use Rattle.hal_grammar.specs.SpellsExpressions.{SpellsExpression, SpellsExpressions}
use Rattle.hal_grammar.specs.SpellsDeclarations.{SpellsKind, integer_kind, bit_kind, boolean_kind, character_kind, event_kind, structure_kind, SpellsMark, single_mark, double_mark, latched_mark, static_mark, automatic_mark, dense_mark, aligned_mark, SpellsAttribute, dimensions, typed, marked, lock_group, lock_any, initial_values, constant_values, SpellsAttributes, attributes_comma, attributes_semicolon, attributes_more}
use Rattle.hal_grammar.proofs.Beginnings.{expression_strong}
use Rattle.hal_grammar.proofs.ShorterDeclarations.{attribute_shorter}
use Rattle.hal_parse_expr.specs.Reading.{made_of}
use Rattle.hal_parse_expr.specs.ReadingExpressions.{expressions_at}
use Rattle.hal_parse_expr.proofs.Shortening.{Shortens, all_none}
use Rattle.hal_parse_declarations.specs.ReadingDeclarations.{kind_behind, kind_at, initials_at, mark_of, lock_inside, marked_or_typed, attribute_behind, attribute_at, attributes_at}
use Rattle.hal_parse_expr.proofs.FirstWords.{past_symbol_here}
use Rattle.hal_parse_expr.proofs.Readings.{Holds, holds_none, holds, weaker_holds}
use Rattle.hal_parse_expr.proofs.Combining.{made_holds}
use Rattle.hal_parse_declarations.proofs.Decided.{decided_holds}
use Rattle.hal_parse_declarations.proofs.Firsts.{symbol_gives, Enclosed, enclosed_so, gives_enclosed}
use Rattle.hal_parse_declarations.proofs.FirstWeak.{no_weak_symbol}
use Rattle.hal_parse_expr.proofs.Equations.{made_equals}
use Rattle.hal_parse_declarations.proofs.Becomes.{decided_is, decided_not, enclosed_is}
use Rattle.hal_parse_declarations.proofs.Chains.{Chain, chain_end, chain_more, shortens, all_first}
use Rattle.hal_parse_declarations.proofs.Below.{expression_gives, expressions_gives, expression_is, expressions_are}
use Rattle.hal_parse_declarations.proofs.KindsRead.{kind_behind_gives, kind_is}
use Rattle.hal_parse_declarations.proofs.InitialsRead.{InitialsOf, initials_at_gives, initials_at_is}

-- an attribute that is nested so deep at most
abbrev pub AttributeOf : ℕ → Attribute → Words → Words → Type 0
AttributeOf n x b a = SpellsAttribute x b a × (nesting_of_attribute x ≤ n)

-- what a word is as an attribute of one word
data MarkOf (w : Word) : Option Mark → Type 0 where
  mark_so : {m : Mark} → ((p : Place) (rest : Words) → SpellsMark m p (token w p ∷ rest) rest) → MarkOf w (Some m)
  no_mark : MarkOf w None

mark_view : (w : Word) → MarkOf w (mark_of w)
unfolding mark_of
mark_view (word.Reserved reserved.Single) = mark_so (λ p rest. single_mark)
mark_view (word.Reserved reserved.Double) = mark_so (λ p rest. double_mark)
mark_view (word.Reserved reserved.Latched) = mark_so (λ p rest. latched_mark)
mark_view (word.Reserved reserved.Static) = mark_so (λ p rest. static_mark)
mark_view (word.Reserved reserved.Automatic) = mark_so (λ p rest. automatic_mark)
mark_view (word.Reserved reserved.Dense) = mark_so (λ p rest. dense_mark)
mark_view (word.Reserved reserved.Aligned) = mark_so (λ p rest. aligned_mark)
mark_view other = no_mark

marked_so : (n : ℕ) (p : Place) (w : Word) (words : Words) {o : Option Mark} → MarkOf w o →
    Holds (λ x rest. AttributeOf n x (token w p ∷ words) rest) (elim o [ None ↦ made_of (λ k. Typed k) (kind_behind n p w words) | Some m ↦ Some (Marked p m, words) ])
marked_so n p w words (mark_so f) = holds (marked (f p words), omega arith)
marked_so n p w words no_mark = made_holds _ (kind_behind_gives n p w words) (λ k rest d. (typed d.0, d.1))

marked_gives : (n : ℕ) (p : Place) (w : Word) (words : Words) → Holds (λ x rest. AttributeOf n x (token w p ∷ words) rest) (marked_or_typed n p w words)
unfolding marked_or_typed
marked_gives n p w words = marked_so n p w words (mark_view w)

dimensions_spelled : {n : ℕ} {ts : Expressions} {p : Place} {b a : Words} → Enclosed (λ ts b a. SpellsExpressions ts b a × (nesting_of_all ts ≤ n)) ts b a →
    AttributeOf n (Dimensions p ts) (reserved_then reserved.Array p b) a
dimensions_spelled (enclosed_so d) = (dimensions d.0, d.1)

initial_spelled : {n : ℕ} {ts : Initials} {p : Place} {b a : Words} → Enclosed (InitialsOf n) ts b a → AttributeOf n (InitialValues p ts) (reserved_then reserved.Initial p b) a
initial_spelled (enclosed_so d) = (initial_values d.0, d.1)

constant_spelled : {n : ℕ} {ts : Initials} {p : Place} {b a : Words} → Enclosed (InitialsOf n) ts b a → AttributeOf n (ConstantValues p ts) (reserved_then reserved.Constant p b) a
constant_spelled (enclosed_so d) = (constant_values d.0, d.1)

-- what stands in the parentheses of LOCK
data Locked (n : ℕ) (p : Place) : Attribute → Words → Words → Type 0 where
  locked_any : {s : Place} {a : Words} → Locked n p (LockAny p) (symbol_then symbol.Star s a) a
  locked_group : {t : Expression} {b a : Words} → SpellsExpression t b a → nesting t ≤ n → Locked n p (LockGroup p t) b a

lock_spelled : {n : ℕ} {x : Attribute} {p : Place} {b a : Words} → Enclosed (Locked n p) x b a → AttributeOf n x (reserved_then reserved.Lock p b) a
lock_spelled (enclosed_so locked_any) = (lock_any, omega arith)
lock_spelled (enclosed_so (locked_group d l)) = (lock_group d, l)

lock_gives : (n : ℕ) (p : Place) (words : Words) → Holds (λ x rest. Locked n p x words rest) (lock_inside n p words)
unfolding lock_inside
lock_gives n p words =
    decided_holds (symbol_gives symbol.Star words) (λ q rest e. holds (rw e locked_any)) (λ e. made_holds _ (expression_gives n words) (λ t rest d. locked_group d.0 d.1))

behind_gives : (n : ℕ) (p : Place) (w : Word) (words : Words) → Holds (λ x rest. AttributeOf n x (token w p ∷ words) rest) (attribute_behind n p w words)
unfolding attribute_behind
behind_gives n p (word.Reserved reserved.Array) words = made_holds _ (gives_enclosed (expressions_at n) words (expressions_gives n)) (λ ts rest d. dimensions_spelled d)
behind_gives n p (word.Reserved reserved.Lock) words = weaker_holds (gives_enclosed (lock_inside n p) words (lock_gives n p)) (λ x rest d. lock_spelled d)
behind_gives n p (word.Reserved reserved.Initial) words = made_holds _ (gives_enclosed (initials_at n) words (initials_at_gives n)) (λ ts rest d. initial_spelled d)
behind_gives n p (word.Reserved reserved.Constant) words = made_holds _ (gives_enclosed (initials_at n) words (initials_at_gives n)) (λ ts rest d. constant_spelled d)
behind_gives n p other words = marked_gives n p other words

-- what is read of an attribute is spelled
pub attribute_gives : (n : ℕ) (words : Words) → Holds (λ x rest. AttributeOf n x words rest) (attribute_at n words)
unfolding attribute_at
attribute_gives n [] = holds_none
attribute_gives n (first ∷ rest) = behind_gives n first.place first.word rest

pub attribute_shortens : (n : ℕ) → Shortens (attribute_at n)
attribute_shortens n = shortens (attribute_gives n) (λ x words rest d. attribute_shorter d.0)

typed_way : (n : ℕ) {k : Kind} {b a : Words} → SpellsKind k b a → attribute_at n b ≡ made_of (λ k. Typed k) (kind_at n b)
unfolding attribute_at attribute_behind marked_or_typed mark_of kind_at
typed_way n integer_kind = refl
typed_way n (bit_kind d) = refl
typed_way n boolean_kind = refl
typed_way n (character_kind d) = refl
typed_way n event_kind = refl
typed_way n (structure_kind d) = refl

mark_is : (n : ℕ) {m : Mark} {p : Place} {b a : Words} → SpellsMark m p b a → attribute_at n b ≡ Some (Marked p m, a)
unfolding attribute_at attribute_behind marked_or_typed mark_of
mark_is n single_mark = refl
mark_is n double_mark = refl
mark_is n latched_mark = refl
mark_is n static_mark = refl
mark_is n automatic_mark = refl
mark_is n dense_mark = refl
mark_is n aligned_mark = refl

group_is : (n : ℕ) (p : Place) {t : Expression} {b : Words} {r : Place} {a : Words} → SpellsExpression t b (symbol_then symbol.RightParenthesis r a) → nesting t ≤ n →
    lock_inside n p b ≡ Some (LockGroup p t, symbol_then symbol.RightParenthesis r a)
unfolding lock_inside
group_is n p {b = b} d h = decided_not _ _ (no_weak_symbol symbol.Star b (omega arith) (expression_strong d)) ∙ made_equals _ (expression_is n d h (omega arith))

any_is : (n : ℕ) (p s : Place) (words : Words) → lock_inside n p (symbol_then symbol.Star s words) ≡ Some (LockAny p, words)
unfolding lock_inside
any_is n p s words = decided_is _ _ (past_symbol_here symbol.Star s words)

-- what is spelled as an attribute is read
pub attribute_is : (n : ℕ) {x : Attribute} {b a : Words} → SpellsAttribute x b a → nesting_of_attribute x ≤ n → attribute_at n b ≡ Some (x, a)
unfolding attribute_at attribute_behind
attribute_is n (dimensions {q = q} {before = before} d) h = made_equals _ (enclosed_is (expressions_at n) q before (expressions_are n d h (omega arith)))
attribute_is n (typed d) h = typed_way n d ∙ made_equals _ (kind_is n d h)
attribute_is n (marked d) h = mark_is n d
attribute_is n (lock_group {p = p} {q = q} {before = before} d) h = enclosed_is (lock_inside n p) q before (group_is n p d h)
attribute_is n (lock_any {p = p} {q = q} {r = r} {s = s} {after = after}) h =
    enclosed_is (lock_inside n p) q (symbol_then symbol.Star s (symbol_then symbol.RightParenthesis r after)) (any_is n p s (symbol_then symbol.RightParenthesis r after))
attribute_is n (initial_values {q = q} {r = r} {ts = ts} {before = before} {after = after} d) h =
    made_equals _ (enclosed_is (initials_at n) q before (initials_at_is n ts before (symbol_then symbol.RightParenthesis r after) (d, h) ((omega arith, λ e. elim e [ ]), λ e. elim e [ ])))
attribute_is n (constant_values {q = q} {r = r} {ts = ts} {before = before} {after = after} d) h =
    made_equals _ (enclosed_is (initials_at n) q before (initials_at_is n ts before (symbol_then symbol.RightParenthesis r after) (d, h) ((omega arith, λ e. elim e [ ]), λ e. elim e [ ])))

-- the words with which attributes end
abbrev pub EndsAttributes : Words → Type 0
EndsAttributes a = BeginsSymbol symbol.Comma a ⊎ BeginsSymbol symbol.Semicolon a

none_spelled : {a : Words} → EndsAttributes a → SpellsAttributes [] a a
none_spelled (inl begins) = attributes_comma
none_spelled (inr begins) = attributes_semicolon

-- what is read of attributes up to their end is spelled
pub attributes_spelled : (n : ℕ) {xs : List Attribute} {b a : Words} → Chain (AttributeOf n) xs b a → EndsAttributes a → SpellsAttributes xs b a × (most nesting_of_attribute xs ≤ n)
attributes_spelled n chain_end e = (none_spelled e, omega arith)
attributes_spelled n (chain_more h c) e = let r = attributes_spelled n c e in (attributes_more h.0 r.0, omega (arith, h.1, r.1))

no_attribute : (n : ℕ) {a : Words} → EndsAttributes a → attribute_at n a ≡ None
unfolding attribute_at attribute_behind marked_or_typed mark_of kind_behind made_of
no_attribute n (inl begins) = refl
no_attribute n (inr begins) = refl

-- what is spelled as attributes is read
pub attributes_are : (n : ℕ) {xs : List Attribute} {b a : Words} → SpellsAttributes xs b a → most nesting_of_attribute xs ≤ n → attributes_at n b ≡ (xs, a)
unfolding attributes_at
attributes_are n (attributes_comma {p = p} {after = after}) h = all_none (attribute_at n) (symbol_then symbol.Comma p after) (no_attribute n (inl begins))
attributes_are n (attributes_semicolon {p = p} {after = after}) h = all_none (attribute_at n) (symbol_then symbol.Semicolon p after) (no_attribute n (inr begins))
attributes_are n (attributes_more d ds) h = all_first (attribute_at n) (attribute_shortens n) (attribute_is n d (omega arith)) (attributes_are n ds (omega arith))
