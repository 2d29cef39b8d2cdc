-- Names, literals, signs: what is read is spelled, and what is spelled is read.
use Rattle.std.proofs.Common.{◌≡◌, ℕ, List, [], ◌∷◌, Option, Some, None, refl, ◌∙◌}
use Rattle.hal_base.specs.declared.refusal.Place.{Place}
use Rattle.hal_words.specs.declared.reserved.Reserved.TheVariants as reserved
use Rattle.hal_words.specs.declared.word.Symbol.TheVariants as symbol
use Rattle.hal_words.specs.declared.word.Word.{Word}
use Rattle.hal_words.specs.declared.word.Word.TheVariants as word
use Rattle.hal_grammar.specs.Leaves.{Naming, naming, Sign, LiteralValue}
use Rattle.hal_grammar.specs.Words.{Words, token, name_then, BeginsSymbol, begins}
use Rattle.hal_grammar.specs.SpellsExpressions.{SpellsSign, plus, minus, SpellsLiteral, integer, text, bits, true_bit, false_bit, on_bit, off_bit}
use Rattle.hal_grammar.specs.SpellsDeclarations.{Parted, last, more, SpellsNames, last_name, more_names, SpellsNameEnd, no_name_end, name_end, SpellsOpening, no_opening, opening}
use Rattle.hal_parse_expr.specs.Reading.{name_at}
use Rattle.hal_parse_expr.specs.ReadingExpressions.{sign_of, sign_at, literal_of}
use Rattle.hal_parse_expr.proofs.Shortening.{name_shortens}
use Rattle.hal_parse_declarations.specs.ReadingDeclarations.{names_at, name_end_at, literal_at, opening_at}
use Rattle.hal_parse_expr.proofs.FirstWords.{past_symbol_here}
use Rattle.hal_parse_expr.proofs.Readings.{Holds, holds_none, holds, weaker_holds}
use Rattle.hal_parse_expr.proofs.Combining.{made_holds}
use Rattle.hal_parse_declarations.proofs.Decided.{decided_holds, nothing_read}
use Rattle.hal_parse_declarations.proofs.Firsts.{name_gives, symbol_gives}
use Rattle.hal_parse_expr.proofs.Equations.{made_equals}
use Rattle.hal_parse_declarations.proofs.Becomes.{decided_is, decided_not}
use Rattle.hal_parse_declarations.proofs.PartedLists.{list_gives, list_is}

-- one name
pub data SpellsName : Naming → Words → Words → Type 0 where
  a_name : {p : Place} {n : List ℕ} {after : Words} → SpellsName (naming p n) (name_then n p after) after

names_spelled : {ns : List Naming} {b a : Words} → Parted SpellsName ns b a → SpellsNames ns b a
names_spelled (last a_name) = last_name
names_spelled (more a_name ds) = more_names (names_spelled ds)

names_parted : {ns : List Naming} {b a : Words} → SpellsNames ns b a → Parted SpellsName ns b a
names_parted last_name = last a_name
names_parted (more_names ds) = more a_name (names_parted ds)

pub name_spelled : (words : Words) → Holds (λ x rest. SpellsName x words rest) (name_at words)
name_spelled words = weaker_holds (name_gives words) (λ x rest e. rw e a_name)

pub names_give : (words : Words) → Holds (λ ns rest. SpellsNames ns words rest) (names_at words)
unfolding names_at
names_give words = weaker_holds (list_gives name_at name_spelled words) (λ ns rest d. names_spelled d)

name_is : (x : Naming) (before after : Words) → SpellsName x before after → Unit {0} → name_at before ≡ Some (x, after)
unfolding name_at
name_is x before after a_name u = refl

pub names_are : {ns : List Naming} {b a : Words} → SpellsNames ns b a → ¬ BeginsSymbol symbol.Comma a → names_at b ≡ Some (ns, a)
unfolding names_at
names_are d n = list_is {E = λ w. Unit {0}} name_at name_shortens name_is (λ p words. tt) (names_parted d) tt n

pub name_end_gives : (words : Words) → Holds (λ n rest. SpellsNameEnd n words rest) (name_end_at words)
unfolding name_end_at
name_end_gives words =
    decided_holds (name_gives words) (λ x rest e. made_holds _ (symbol_gives symbol.Semicolon rest) (λ p after f. rw (e, f) name_end))
    (λ e. made_holds _ (symbol_gives symbol.Semicolon words) (λ p after f. rw f no_name_end))

pub name_end_is : {n : Option Naming} {b a : Words} → SpellsNameEnd n b a → name_end_at b ≡ Some (n, a)
unfolding name_end_at name_at
name_end_is (no_name_end {q = q} {after = after}) = decided_not _ _ refl ∙ made_equals _ (past_symbol_here symbol.Semicolon q after)
name_end_is (name_end {q = q} {after = after}) = decided_is _ _ refl ∙ made_equals _ (past_symbol_here symbol.Semicolon q after)

-- what a word is as a literal
data LiteralOf (w : Word) : Option LiteralValue → Type 0 where
  literal_so : {l : LiteralValue} → ((p : Place) (rest : Words) → SpellsLiteral l p (token w p ∷ rest) rest) → LiteralOf w (Some l)
  no_literal : LiteralOf w None

literal_view : (w : Word) → LiteralOf w (literal_of w)
unfolding literal_of
literal_view (word.Integer n) = literal_so (λ p rest. integer)
literal_view (word.Text t) = literal_so (λ p rest. text)
literal_view (word.Bits len pattern) = literal_so (λ p rest. bits)
literal_view (word.Reserved reserved.True) = literal_so (λ p rest. true_bit)
literal_view (word.Reserved reserved.False) = literal_so (λ p rest. false_bit)
literal_view (word.Reserved reserved.On) = literal_so (λ p rest. on_bit)
literal_view (word.Reserved reserved.Off) = literal_so (λ p rest. off_bit)
literal_view other = no_literal

literal_word : {w : Word} {o : Option LiteralValue} (p : Place) (rest : Words) → LiteralOf w o →
    Holds (λ (l : Place × LiteralValue) after. SpellsLiteral l.1 l.0 (token w p ∷ rest) after) (elim o [ None ↦ None | Some l ↦ Some ((p, l), rest) ])
literal_word p rest (literal_so f) = holds (f p rest)
literal_word p rest no_literal = holds_none

pub literal_gives : (words : Words) → Holds (λ l rest. SpellsLiteral l.1 l.0 words rest) (literal_at words)
unfolding literal_at
literal_gives [] = holds_none
literal_gives (first ∷ rest) = literal_word first.place rest (literal_view first.word)

pub literal_is : {l : LiteralValue} {p : Place} {b a : Words} → SpellsLiteral l p b a → literal_at b ≡ Some ((p, l), a)
unfolding literal_at literal_of
literal_is integer = refl
literal_is text = refl
literal_is bits = refl
literal_is true_bit = refl
literal_is false_bit = refl
literal_is on_bit = refl
literal_is off_bit = refl

-- what a word is as a sign
data SignOf (w : Word) : Option Sign → Type 0 where
  sign_so : {s : Sign} → ((p : Place) (rest : Words) → SpellsSign s p (token w p ∷ rest) rest) → SignOf w (Some s)
  no_sign : SignOf w None

sign_view : (w : Word) → SignOf w (sign_of w)
unfolding sign_of
sign_view (word.Symbol symbol.Plus) = sign_so (λ p rest. plus)
sign_view (word.Symbol symbol.Minus) = sign_so (λ p rest. minus)
sign_view other = no_sign

sign_word : {w : Word} {o : Option Sign} (p : Place) (rest : Words) → SignOf w o →
    Holds (λ (s : Place × Sign) after. SpellsSign s.1 s.0 (token w p ∷ rest) after) (elim o [ None ↦ None | Some s ↦ Some ((p, s), rest) ])
sign_word p rest (sign_so f) = holds (f p rest)
sign_word p rest no_sign = holds_none

pub sign_gives : (words : Words) → Holds (λ s rest. SpellsSign s.1 s.0 words rest) (sign_at words)
unfolding sign_at
sign_gives [] = holds_none
sign_gives (first ∷ rest) = sign_word first.place rest (sign_view first.word)

no_plus : (words : Words) → sign_at words ≡ None → ¬ BeginsSymbol symbol.Plus words
unfolding sign_at sign_of
no_plus words e begins = cc

no_minus : (words : Words) → sign_at words ≡ None → ¬ BeginsSymbol symbol.Minus words
unfolding sign_at sign_of
no_minus words e begins = cc

pub opening_gives : (words : Words) → Holds (λ s rest. SpellsOpening s words rest) (opening_at words)
unfolding opening_at
opening_gives words = decided_holds (sign_gives words) (λ s rest d. holds (opening d)) (λ e. holds (no_opening (no_plus words e) (no_minus words e)))

not_signed : {b : Words} → ¬ BeginsSymbol symbol.Plus b → ¬ BeginsSymbol symbol.Minus b → {s : Sign} {p : Place} {a : Words} → SpellsSign s p b a → ⊥
not_signed n m plus = n begins
not_signed n m minus = m begins

sign_is : {s : Sign} {p : Place} {b a : Words} → SpellsSign s p b a → sign_at b ≡ Some ((p, s), a)
unfolding sign_at sign_of
sign_is plus = refl
sign_is minus = refl

pub opening_is : {s : Option Sign} {b a : Words} → SpellsOpening s b a → opening_at b ≡ Some (s, a)
unfolding opening_at
opening_is (no_opening {after = after} n m) = decided_not _ _ (nothing_read (sign_gives after) (λ s rest d. not_signed n m d))
opening_is (opening d) = decided_is _ _ (sign_is d)
