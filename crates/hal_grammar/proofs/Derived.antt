-- Derivations of rows.
use Rattle.std.proofs.Common.{◌≡◌, ℕ, ◌≤◌, ◌⊎◌, inl, inr, List, [], ◌∷◌, refl, arith}
use Rattle.hal_base.specs.declared.refusal.Place.{Place}
use Rattle.hal_words.specs.declared.reserved.Reserved.{Reserved}
use Rattle.hal_words.specs.declared.word.Symbol.{Symbol}
use Rattle.hal_words.specs.declared.word.Symbol.TheVariants as symbol
use Rattle.hal_words.specs.declared.word.Word.{Word}
use Rattle.hal_words.specs.declared.word.Word.TheVariants as word
use Rattle.hal_grammar.specs.Leaves.{Integer}
use Rattle.hal_grammar.specs.Expressions.{Expression, Literal, Referred, Refers, Unsubscripted}
use Rattle.hal_grammar.specs.Words.{Words, reserved_then, symbol_then, name_then, integer_then, BeginsWith, begins, BeginsReserved, BeginsSymbol}
use Rattle.hal_grammar.specs.GoesOn.{strength}
use Rattle.hal_grammar.specs.SpellsStatements.{BeginsLabel, begins_label}
use Rattle.hal_grammar.specs.SpellsExpressions.{SpellsExpression, both, ors, SpellsBoth, comparison, ands, SpellsComparison, cat, compared, SpellsCat, sum, joined, SpellsSum, term, summed, signed, SpellsTerm, factor, multiplied, SpellsFactor, primary, powered, SpellsPrimary, literal, integer, referred, called, refers, no_further, unsubscripted, name_alone}
use Rattle.hal_grammar.proofs.Shorter.{expressions_shorter}
use Rattle.hal_grammar.proofs.Beginnings.{sign_strength}

-- the first of the words is this one
abbrev pub FirstIs : Word → Words → Type 0
FirstIs w [] = ⊥
FirstIs w (first ∷ words) = first.word ≡ w

pub first_is : {w : Word} {words : Words} → BeginsWith w words → FirstIs w words
first_is begins = refl

pub name_not_reserved : {r : Reserved} {n : List ℕ} {p : Place} {words : Words} → ¬ BeginsReserved r (name_then n p words)
name_not_reserved {r = r} {n = n} h = let e : word.Name n ≡ word.Reserved r = first_is h in cc

pub reserved_not_symbol : {r : Reserved} {s : Symbol} {p : Place} {words : Words} → ¬ BeginsSymbol s (reserved_then r p words)
reserved_not_symbol {r = r} {s = s} h = let e : word.Reserved r ≡ word.Symbol s = first_is h in cc

pub integer_not_reserved : {r : Reserved} {n : ℕ} {p : Place} {words : Words} → ¬ BeginsReserved r (integer_then n p words)
integer_not_reserved {r = r} {n = n} h = let e : word.Integer n ≡ word.Reserved r = first_is h in cc

pub symbol_not_reserved : {r : Reserved} {s : Symbol} {p : Place} {words : Words} → ¬ BeginsReserved r (symbol_then s p words)
symbol_not_reserved {r = r} {s = s} h = let e : word.Symbol s ≡ word.Reserved r = first_is h in cc

pub not_left : {words : Words} → strength words ≤ 7 → ¬ BeginsSymbol symbol.LeftParenthesis words
not_left h begins = absurd (omega arith)

pub not_right : {p : Place} {words : Words} → ¬ BeginsSymbol symbol.RightParenthesis (symbol_then symbol.Number p words)
not_right h = let e : word.Symbol symbol.Number ≡ word.Symbol symbol.RightParenthesis = first_is h in cc

pub label_second : {n : List ℕ} {p : Place} {words : Words} → BeginsLabel (name_then n p words) → FirstIs (word.Symbol symbol.Colon) words
label_second begins_label = refl

pub equals_no_label : {n : List ℕ} {p q : Place} {words : Words} → ¬ BeginsLabel (name_then n p (symbol_then symbol.Equals q words))
equals_no_label h = let e : word.Symbol symbol.Equals ≡ word.Symbol symbol.Colon = label_second h in cc

-- a label begins with a name
abbrev pub IsNameFirst : Words → Type 0
IsNameFirst [] = ⊥
IsNameFirst (first ∷ words) = (n : List ℕ) × (first.word ≡ word.Name n)

pub label_first : {words : Words} → BeginsLabel words → IsNameFirst words
label_first (begins_label {n = n}) = (n, refl)

pub reserved_no_label : {r : Reserved} {p : Place} {words : Words} → ¬ BeginsLabel (reserved_then r p words)
reserved_no_label {r = r} h = let (n, e) = label_first h in cc

pub symbol_no_label : {s : Symbol} {p : Place} {words : Words} → ¬ BeginsLabel (symbol_then s p words)
symbol_no_label {s = s} h = let (n, e) = label_first h in cc

pub sum_of : {t : Expression} {b a : Words} → SpellsPrimary t b a → SpellsSum t b a
sum_of d = term (factor (primary d))

pub expression_of : {t : Expression} {b a : Words} → SpellsSum t b a → SpellsExpression t b a
expression_of d = both (comparison (cat (sum d)))

pub number : {n : ℕ} {p : Place} {a : Words} → SpellsPrimary (Literal p (Integer n)) (integer_then n p a) a
number = literal integer

-- a name alone, before a word that isn't `(`
pub named : {n : List ℕ} {p : Place} {a : Words} → strength a ≤ 7 → SpellsPrimary (Referred (Refers p n [] Unsubscripted)) (name_then n p a) a
named h = referred (refers no_further unsubscripted) (λ alone. not_left h)

-- an expression begins with a sign or with a primary
abbrev pub Leads : Words → Type 0
Leads b = (strength b ≡ 7) ⊎ ((u : Expression) × (m : Words) × SpellsPrimary u b m)

factor_leads : {t : Expression} {b a : Words} → SpellsFactor t b a → Leads b
factor_leads (primary d) = inr (_, _, d)
factor_leads (powered h d e) = inr (_, _, d)

term_leads : {t : Expression} {b a : Words} → SpellsTerm t b a → Leads b
term_leads (factor d) = factor_leads d
term_leads (multiplied h d ds) = factor_leads d

sum_leads : {t : Expression} {b a : Words} → SpellsSum t b a → Leads b
sum_leads (term d) = term_leads d
sum_leads (summed h d ds) = term_leads d
sum_leads (signed s d ds) = inl (sign_strength s)

cat_leads : {t : Expression} {b a : Words} → SpellsCat t b a → Leads b
cat_leads (sum d) = sum_leads d
cat_leads (joined h d ds) = sum_leads d

comparison_leads : {t : Expression} {b a : Words} → SpellsComparison t b a → Leads b
comparison_leads (cat d) = cat_leads d
comparison_leads (compared h d r e) = cat_leads d

both_leads : {t : Expression} {b a : Words} → SpellsBoth t b a → Leads b
both_leads (comparison d) = comparison_leads d
both_leads (ands h d ds) = comparison_leads d

expression_leads : {t : Expression} {b a : Words} → SpellsExpression t b a → Leads b
expression_leads (both d) = both_leads d
expression_leads (ors h d ds) = both_leads d

open_primary : {n : List ℕ} {p q r : Place} {t : Expression} {a : Words} → SpellsPrimary t (name_then n p (symbol_then symbol.LeftParenthesis q (symbol_then symbol.Plus r []))) a → ⊥
open_primary (referred (refers no_further unsubscripted) h) = h name_alone begins
open_primary (literal l) = elim l [ ]
open_primary (called d) = omega (arith, expressions_shorter d)

pub open_call : {n : List ℕ} {p q r : Place} {t : Expression} {a : Words} →
    SpellsExpression t (name_then n p (symbol_then symbol.LeftParenthesis q (symbol_then symbol.Plus r []))) a → ⊥
open_call d = go (expression_leads d)
  where
    go : {n : List ℕ} {p q r : Place} → Leads (name_then n p (symbol_then symbol.LeftParenthesis q (symbol_then symbol.Plus r []))) → ⊥
    go (inl h) = absurd (omega arith)
    go (inr (u, m, d)) = open_primary d
