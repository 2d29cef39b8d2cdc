-- Which errors are meant, events and responses: what is read is spelled, and what is spelled is read.
use Rattle.std.proofs.Common.{◌≡◌, ℕ, List, [], ◌∷◌, Option, Some, None, refl, ◌∙◌}
use Rattle.hal_base.specs.declared.refusal.Place.{Place}
use Rattle.hal_words.specs.declared.reserved.Reserved.TheVariants as reserved
use Rattle.hal_words.specs.declared.word.Symbol.TheVariants as symbol
use Rattle.hal_words.specs.declared.word.Word.{Word}
use Rattle.hal_words.specs.declared.word.Word.TheVariants as word
use Rattle.hal_grammar.specs.Leaves.{naming}
use Rattle.hal_grammar.specs.Statements.{Selector, GroupErrors, OneError, EventAction, Eventful, eventful, Response}
use Rattle.hal_grammar.specs.Words.{Words, token, symbol_then, reserved_then, name_then, integer_then}
use Rattle.hal_grammar.specs.SpellsStatements.{SpellsSelector, every_error, group_alone, group_enclosed, group_colon, group_star, one_error, SpellsEvent, pulses, raises, lowers, SpellsResponse, by_system, ignored, SpellsEventEnd, no_event_end, event_end}
use Rattle.hal_parse_expr.specs.Reading.{past, is_reserved, where_true, past_symbol, is_symbol, name_at, integer_at, made_of}
use Rattle.hal_parse_statements.specs.ReadingStatements.{error_number, error_group, selector_behind, selector_at, action_of, event_behind, event_at, event_end_at, response_at}
use Rattle.hal_parse_expr.proofs.FirstWords.{past_symbol_none}
use Rattle.hal_parse_expr.proofs.Readings.{Holds, holds_none, holds, weaker_holds}
use Rattle.hal_parse_expr.proofs.Combining.{followed_holds, made_holds}
use Rattle.hal_parse_declarations.proofs.Decided.{decided_holds}
use Rattle.hal_parse_declarations.proofs.Firsts.{name_gives, integer_gives, past_gives, symbol_gives, not_begun_symbol, gives_before_symbol, Enclosed, enclosed_so, gives_enclosed}
use Rattle.hal_parse_expr.proofs.Equations.{made_equals}
use Rattle.hal_parse_declarations.proofs.Becomes.{followed_is, decided_is, decided_not, before_symbol_is, enclosed_is}

-- what stands in the parentheses of a selector
data ErrorsIn (p : Place) : Selector → Words → Words → Type 0 where
  alone_in : {r : Place} {n : ℕ} {a : Words} → ErrorsIn p (GroupErrors p r n) (integer_then n r a) a
  colon_in : {r c : Place} {n : ℕ} {a : Words} → ErrorsIn p (GroupErrors p r n) (integer_then n r (symbol_then symbol.Colon c a)) a
  star_in : {r c d : Place} {n : ℕ} {a : Words} → ErrorsIn p (GroupErrors p r n) (integer_then n r (symbol_then symbol.Colon c (symbol_then symbol.Star d a))) a
  number_in : {r c d : Place} {n m : ℕ} {a : Words} → ErrorsIn p (OneError p r n d m) (integer_then n r (symbol_then symbol.Colon c (integer_then m d a))) a

number_gives : (p r c : Place) (n : ℕ) (words : Words) → Holds (λ x rest. ErrorsIn p x (integer_then n r (symbol_then symbol.Colon c words)) rest) (error_number p r n words)
unfolding error_number
number_gives p r c n words =
    decided_holds (symbol_gives symbol.Star words) (λ q rest e. holds (rw e star_in))
    (λ e. decided_holds (integer_gives words) (λ f rest g. holds (rw g number_in)) (λ g. holds colon_in))

group_gives : (p : Place) (words : Words) → Holds (λ x rest. ErrorsIn p x words rest) (error_group p words)
unfolding error_group
group_gives p words =
    followed_holds (integer_gives words) (λ f rest e. decided_holds (symbol_gives symbol.Colon rest)
    (λ q after g. weaker_holds (number_gives p f.0 q f.1 after) (λ x last d. rw (e, g) d)) (λ g. holds (rw e alone_in)))

enclosed_spelled : {p : Place} {x : Selector} {b a : Words} → Enclosed (ErrorsIn p) x b a → SpellsSelector x (symbol_then symbol.Dollar p b) a
enclosed_spelled (enclosed_so alone_in) = group_enclosed
enclosed_spelled (enclosed_so colon_in) = group_colon
enclosed_spelled (enclosed_so star_in) = group_star
enclosed_spelled (enclosed_so number_in) = one_error

behind_gives : (p : Place) (words : Words) → Holds (λ x rest. SpellsSelector x (symbol_then symbol.Dollar p words) rest) (selector_behind p words)
unfolding selector_behind
behind_gives p words =
    decided_holds (integer_gives words) (λ f rest e. holds (rw e group_alone)) (λ e. weaker_holds (gives_enclosed (error_group p) words (group_gives p)) (λ x rest d. enclosed_spelled d))

pub selector_gives : (words : Words) → Holds (λ x rest. SpellsSelector x words rest) (selector_at words)
unfolding selector_at
selector_gives words =
    decided_holds (symbol_gives symbol.Dollar words) (λ p rest e. weaker_holds (behind_gives p rest) (λ x after d. rw e d)) (λ e. holds (every_error (not_begun_symbol symbol.Dollar words e)))

errors_are : {p : Place} {x : Selector} {b : Words} {s : Place} {a : Words} → ErrorsIn p x b (symbol_then symbol.RightParenthesis s a) → error_group p b ≡ Some (x, symbol_then symbol.RightParenthesis s a)
unfolding error_group error_number integer_at past_symbol is_symbol where_true
errors_are alone_in = followed_is _ refl ∙ decided_not _ _ refl
errors_are colon_in = followed_is _ refl ∙ decided_is _ _ refl ∙ decided_not _ _ refl ∙ decided_not _ _ refl
errors_are star_in = followed_is _ refl ∙ decided_is _ _ refl ∙ decided_is _ _ refl
errors_are number_in = followed_is _ refl ∙ decided_is _ _ refl ∙ decided_not _ _ refl ∙ decided_is _ _ refl

behind_is : (p q : Place) {x : Selector} {b : Words} {s : Place} {a : Words} → ErrorsIn p x b (symbol_then symbol.RightParenthesis s a) →
    selector_behind p (symbol_then symbol.LeftParenthesis q b) ≡ Some (x, a)
unfolding selector_behind integer_at
behind_is p q {b = b} d = decided_not _ _ refl ∙ enclosed_is (error_group p) q b (errors_are d)

pub selector_is : {x : Selector} {b a : Words} → SpellsSelector x b a → selector_at b ≡ Some (x, a)
unfolding selector_at selector_behind integer_at past_symbol is_symbol where_true
selector_is (every_error {after = after} n) = decided_not _ _ (past_symbol_none symbol.Dollar after n)
selector_is group_alone = decided_is _ _ refl ∙ decided_is _ _ refl
selector_is (group_enclosed {p = p} {q = q}) = decided_is _ _ refl ∙ behind_is p q alone_in
selector_is (group_colon {p = p} {q = q}) = decided_is _ _ refl ∙ behind_is p q colon_in
selector_is (group_star {p = p} {q = q}) = decided_is _ _ refl ∙ behind_is p q star_in
selector_is (one_error {p = p} {q = q}) = decided_is _ _ refl ∙ behind_is p q number_in

-- what a word does to an event
data ActionOf (w : Word) : Option EventAction → Type 0 where
  action_so : {a : EventAction} → ((p q : Place) (n : List ℕ) (rest : Words) → SpellsEvent (eventful p a (naming q n)) (token w p ∷ name_then n q rest) rest) → ActionOf w (Some a)
  no_action : ActionOf w None

action_view : (w : Word) → ActionOf w (action_of w)
unfolding action_of
action_view (word.Reserved reserved.Signal) = action_so (λ p q n rest. pulses)
action_view (word.Reserved reserved.Set) = action_so (λ p q n rest. raises)
action_view (word.Reserved reserved.Reset) = action_so (λ p q n rest. lowers)
action_view other = no_action

event_so : {w : Word} {o : Option EventAction} (p : Place) (words : Words) → ActionOf w o →
    Holds (λ e rest. SpellsEvent e (token w p ∷ words) rest) (elim o [ None ↦ None | Some a ↦ made_of (λ x. eventful p a x) (name_at words) ])
event_so p words (action_so f) = made_holds _ (name_gives words) (λ x rest e. rw e (f p x.place x.name rest))
event_so p words no_action = holds_none

pub event_gives : (words : Words) → Holds (λ e rest. SpellsEvent e words rest) (event_at words)
unfolding event_at event_behind
event_gives [] = holds_none
event_gives (first ∷ rest) = event_so first.place rest (action_view first.word)

pub event_is : {e : Eventful} {b a : Words} → SpellsEvent e b a → event_at b ≡ Some (e, a)
unfolding event_at event_behind action_of name_at
event_is pulses = made_equals _ refl
event_is raises = made_equals _ refl
event_is lowers = made_equals _ refl

-- an event behind AND, and a semicolon
data EventEnd (e : Eventful) (b a : Words) : Type 0 where
  event_ended : {q : Place} → SpellsEvent e b (symbol_then symbol.Semicolon q a) → EventEnd e b a

event_end_spelled : {e : Eventful} {p : Place} {b a : Words} → EventEnd e b a → SpellsEventEnd (Some e) (reserved_then reserved.And p b) a
event_end_spelled (event_ended d) = event_end d

pub event_end_gives : (words : Words) → Holds (λ e rest. SpellsEventEnd e words rest) (event_end_at words)
unfolding event_end_at
event_end_gives words =
    decided_holds (past_gives reserved.And words)
    (λ p rest f. made_holds _ (gives_before_symbol {Q = λ e after. EventEnd e rest after} symbol.Semicolon (event_gives rest) (λ e q after d. event_ended d)) (λ e after d. rw f (event_end_spelled d)))
    (λ e. made_holds _ (symbol_gives symbol.Semicolon words) (λ p rest f. rw f no_event_end))

pub event_end_is : {e : Option Eventful} {b a : Words} → SpellsEventEnd e b a → event_end_at b ≡ Some (e, a)
unfolding event_end_at past is_reserved past_symbol is_symbol where_true
event_end_is no_event_end = decided_not _ _ refl ∙ made_equals _ refl
event_end_is (event_end d) = decided_is _ _ refl ∙ made_equals _ (before_symbol_is (event_is d))

pub response_gives : (words : Words) → Holds (λ r rest. SpellsResponse r words rest) (response_at words)
unfolding response_at
response_gives words =
    decided_holds (past_gives reserved.System words) (λ p rest e. holds (rw e by_system)) (λ e. made_holds _ (past_gives reserved.Ignore words) (λ p rest f. rw f ignored))

pub response_is : {r : Response} {b a : Words} → SpellsResponse r b a → response_at b ≡ Some (r, a)
unfolding response_at past is_reserved where_true
response_is by_system = decided_is _ _ refl
response_is ignored = decided_not _ _ refl ∙ made_equals _ refl
