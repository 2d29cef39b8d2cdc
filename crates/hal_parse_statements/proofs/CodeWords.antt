-- Statements by what their first word begins, and groups by the word behind DO.
use Rattle.std.proofs.Common.{◌≡◌, ℕ, [], ◌∷◌, length, Option, Some, None, refl, ap, sym, ◌∙◌, arith}
use Rattle.hal_base.specs.declared.refusal.Place.{Place}
use Rattle.hal_words.specs.declared.reserved.Reserved.TheVariants as reserved
use Rattle.hal_words.specs.declared.word.Symbol.TheVariants as symbol
use Rattle.hal_words.specs.declared.word.Word.{Word}
use Rattle.hal_words.specs.declared.word.Word.TheVariants as word
use Rattle.hal_words.specs.declared.word.Token.{Token}
use Rattle.hal_grammar.specs.Statements.{Basic, Statement}
use Rattle.hal_grammar.specs.Words.{Words}
use Rattle.hal_parse_expr.specs.Reading.{Reader}
use Rattle.hal_parse_statements.specs.Beginnings.{begins, begun_at, groups, grouped_at}
use Rattle.hal_parse_statements.specs.ReadingStatements.{basic_behind, basic_of, reserved_behind, do_behind, do_of}
use Rattle.hal_parse_statements.specs.declared.beginning.Beginning.{Beginning}
use Rattle.hal_parse_statements.specs.declared.beginning.Grouping.{Grouping}

-- the statement that a word begins, or none
begun : ℕ → Option (Reader Statement) → Words → Place → Option Beginning → Reader Basic
begun n inner words p None rest = None
begun n inner words p (Some b) rest = begun_at n inner words p b rest

reserved_is : (n : ℕ) (inner : Option (Reader Statement)) (words : Words) (p : Place) (w : Word) (rest : Words) → basic_behind n inner words p w rest ≡ begun n inner words p (begins w) rest
unfolding basic_behind reserved_behind begun begun_at begins
reserved_is n inner words p (word.Symbol symbol.Semicolon) rest = refl
reserved_is n inner words p (word.Name m) rest = refl
reserved_is n inner words p (word.Reserved reserved.If) rest = refl
reserved_is n inner words p (word.Reserved reserved.Do) rest = refl
reserved_is n inner words p (word.Reserved reserved.Exit) rest = refl
reserved_is n inner words p (word.Reserved reserved.Repeat) rest = refl
reserved_is n inner words p (word.Reserved reserved.Return) rest = refl
reserved_is n inner words p (word.Reserved reserved.Call) rest = refl
reserved_is n inner words p (word.Reserved reserved.Read) rest = refl
reserved_is n inner words p (word.Reserved reserved.Write) rest = refl
reserved_is n inner words p (word.Reserved reserved.Update) rest = refl
reserved_is n inner words p (word.Reserved reserved.Schedule) rest = refl
reserved_is n inner words p (word.Reserved reserved.Cancel) rest = refl
reserved_is n inner words p (word.Reserved reserved.Terminate) rest = refl
reserved_is n inner words p (word.Reserved reserved.Wait) rest = refl
reserved_is n inner words p (word.Reserved reserved.Signal) rest = refl
reserved_is n inner words p (word.Reserved reserved.Set) rest = refl
reserved_is n inner words p (word.Reserved reserved.Reset) rest = refl
reserved_is n inner words p (word.Reserved reserved.On) rest = refl
reserved_is n inner words p (word.Reserved reserved.Off) rest = refl
reserved_is n inner words p (word.Reserved reserved.Send) rest = refl
reserved_is n inner words p (word.Reserved r) rest = refl
reserved_is n inner words p (word.Symbol s) rest = refl
reserved_is n inner words p other rest = refl

-- a statement is read by its first word
pub basic_none : (n : ℕ) (inner : Option (Reader Statement)) (words : Words) → length words ≡ 0 → basic_of n inner words ≡ None
unfolding basic_of
basic_none n inner [] e = refl
basic_none n inner (first ∷ rest) e = absurd (omega (arith, e))

at_first : (n : ℕ) (inner : Option (Reader Statement)) {words : Words} {first : Token} {rest : Words} → words ≡ first ∷ rest →
    begun n inner words first.place (begins first.word) rest ≡ basic_of n inner words
unfolding basic_of
at_first n inner {first = first} {rest = rest} e =
    ap (λ w. begun n inner w first.place (begins first.word) rest) e ∙ sym (reserved_is n inner (first ∷ rest) first.place first.word rest) ∙ ap (λ w. basic_of n inner w) (sym e)

pub nothing_begun : (n : ℕ) (inner : Option (Reader Statement)) {words : Words} {first : Token} {rest : Words} → words ≡ first ∷ rest → None ≡ begins first.word → None ≡ basic_of n inner words
unfolding begun
nothing_begun n inner {words = words} {first = first} {rest = rest} e h = ap (λ o. begun n inner words first.place o rest) h ∙ at_first n inner e

pub basic_begun : (n : ℕ) (inner : Option (Reader Statement)) {words : Words} {first : Token} {rest : Words} {b : Beginning} → words ≡ first ∷ rest → Some b ≡ begins first.word →
    begun_at n inner words first.place b rest ≡ basic_of n inner words
unfolding begun
basic_begun n inner {words = words} {first = first} {rest = rest} e h = ap (λ o. begun n inner words first.place o rest) h ∙ at_first n inner e

-- the group that a word behind DO says, or none
grouped : ℕ → Option (Reader Statement) → Place → Place → Option Grouping → Reader Basic
grouped n inner p q None rest = None
grouped n inner p q (Some g) rest = grouped_at n inner p q g rest

do_is : (n : ℕ) (inner : Option (Reader Statement)) (p q : Place) (w : Word) (rest : Words) → do_behind n inner p q w rest ≡ grouped n inner p q (groups w) rest
unfolding do_behind grouped grouped_at groups
do_is n inner p q (word.Symbol symbol.Semicolon) rest = refl
do_is n inner p q (word.Reserved reserved.Case) rest = refl
do_is n inner p q (word.Reserved reserved.While) rest = refl
do_is n inner p q (word.Reserved reserved.Until) rest = refl
do_is n inner p q (word.Reserved reserved.For) rest = refl
do_is n inner p q (word.Reserved r) rest = refl
do_is n inner p q (word.Symbol s) rest = refl
do_is n inner p q other rest = refl

-- a group is read by the word behind DO
pub no_group : (n : ℕ) (inner : Option (Reader Statement)) (p : Place) (words : Words) → length words ≡ 0 → do_of n inner p words ≡ None
unfolding do_of
no_group n inner p [] e = refl
no_group n inner p (first ∷ rest) e = absurd (omega (arith, e))

at_second : (n : ℕ) (inner : Option (Reader Statement)) (p : Place) {words : Words} {first : Token} {rest : Words} → words ≡ first ∷ rest →
    grouped n inner p first.place (groups first.word) rest ≡ do_of n inner p words
unfolding do_of
at_second n inner p {first = first} {rest = rest} e = sym (do_is n inner p first.place first.word rest) ∙ ap (λ w. do_of n inner p w) (sym e)

pub nothing_grouped : (n : ℕ) (inner : Option (Reader Statement)) (p : Place) {words : Words} {first : Token} {rest : Words} → words ≡ first ∷ rest → None ≡ groups first.word →
    None ≡ do_of n inner p words
unfolding grouped
nothing_grouped n inner p {first = first} {rest = rest} e h = ap (λ o. grouped n inner p first.place o rest) h ∙ at_second n inner p e

pub group_read : (n : ℕ) (inner : Option (Reader Statement)) (p : Place) {words : Words} {first : Token} {rest : Words} {g : Grouping} → words ≡ first ∷ rest → Some g ≡ groups first.word →
    grouped_at n inner p first.place g rest ≡ do_of n inner p words
unfolding grouped
group_read n inner p {first = first} {rest = rest} e h = ap (λ o. grouped n inner p first.place o rest) h ∙ at_second n inner p e
