-- Initial values: what is read is spelled, and what is spelled is read.
use Rattle.std.proofs.Common.{◌≡◌, ℕ, zero, suc, ◌+◌, ◌≤◌, List, ◌∷◌, Option, Some, None, refl, ◌∙◌, arith}
use Rattle.hal_base.specs.declared.refusal.Place.{Place}
use Rattle.hal_words.specs.declared.word.Symbol.TheVariants as symbol
use Rattle.hal_grammar.specs.Leaves.{naming, Sign, LiteralValue, Integer}
use Rattle.hal_grammar.specs.Expressions.{Expression, Literal}
use Rattle.hal_grammar.specs.Declarations.{Initial, LiteralTimes, NameTimes, ListTimes, Initials, MoreInitials, nesting_of_initial, nesting_of_initials}
use Rattle.hal_grammar.specs.Words.{Words, symbol_then, name_then, integer_then, BeginsSymbol, begins}
use Rattle.hal_grammar.specs.GoesOn.{strength}
use Rattle.hal_grammar.specs.SpellsExpressions.{plus, minus, SpellsLiteral, integer, text, bits, true_bit, false_bit, on_bit, off_bit, SpellsExpression, both, comparison, cat, sum, term, factor, primary, literal}
use Rattle.hal_grammar.specs.SpellsDeclarations.{Parted, last, more, SpellsOpening, no_opening, opening, SpellsInitial, valued, literal_times, name_times, list_times, SpellsInitials, last_initial, more_initials}
use Rattle.hal_grammar.proofs.OneDeclaration.{exact}
use Rattle.hal_grammar.proofs.ShorterDeclarations.{initial_shorter}
use Rattle.hal_parse_expr.specs.Reading.{Reader, name_at, integer_at}
use Rattle.hal_parse_expr.proofs.Shortening.{Shortens}
use Rattle.hal_parse_declarations.specs.ReadingDeclarations.{where_left, count_at, signed_value, counted_value, initial_of, initials, initials_of, initials_at}
use Rattle.hal_parse_expr.proofs.FirstWords.{past_symbol_here, past_symbol_none}
use Rattle.hal_parse_expr.proofs.Readings.{Holds, holds_none, holds, weaker_holds}
use Rattle.hal_parse_expr.proofs.Combining.{followed_holds, made_holds}
use Rattle.hal_parse_declarations.proofs.Decided.{decided_holds, nothing_read}
use Rattle.hal_parse_declarations.proofs.Firsts.{name_gives, integer_gives, symbol_gives, gives_before_symbol}
use Rattle.hal_parse_expr.proofs.Equations.{made_equals}
use Rattle.hal_parse_declarations.proofs.Becomes.{followed_is, decided_is, decided_not, before_symbol_is}
use Rattle.hal_parse_declarations.proofs.Chains.{shortens}
use Rattle.hal_parse_declarations.proofs.PartedLists.{parted_gives, parted_is}
use Rattle.hal_parse_declarations.proofs.LeavesRead.{literal_gives, literal_is, opening_gives, opening_is}
use Rattle.hal_parse_declarations.proofs.Below.{expression_gives, expression_is}

-- an integer and `#`
data Counted (p : Place) (m : ℕ) : Words → Words → Type 0 where
  counted_so : {q : Place} {after : Words} → Counted p m (integer_then m p (symbol_then symbol.Number q after)) after

count_gives : (words : Words) → Holds (λ f rest. Counted f.0 f.1 words rest) (count_at words)
unfolding count_at
count_gives words = followed_holds (integer_gives words) (λ f rest e. made_holds _ (symbol_gives symbol.Number rest) (λ p after g. rw (e, g) counted_so))

count_is : (p : Place) (m : ℕ) (q : Place) (words : Words) → count_at (integer_then m p (symbol_then symbol.Number q words)) ≡ Some ((p, m), words)
unfolding count_at integer_at
count_is p m q words = followed_is _ refl ∙ made_equals _ (past_symbol_here symbol.Number q words)

-- an initial value that is nested so deep at most
abbrev pub InitialOf : ℕ → Initial → Words → Words → Type 0
InitialOf n t b a = SpellsInitial t b a × (nesting_of_initial t ≤ n)

-- initial values that are nested so deep at most
abbrev pub InitialsOf : ℕ → Initials → Words → Words → Type 0
InitialsOf n ts b a = SpellsInitials ts b a × (nesting_of_initials ts ≤ n)

-- the same of those that stand one level deeper
abbrev pub InitialsIn : ℕ → Initials → Words → Words → Type 0
InitialsIn n ts b a = SpellsInitials ts b a × (nesting_of_initials ts + 1 ≤ n)

signed_gives : (n : ℕ) (p q : Place) (m : ℕ) (s : Option Sign) (before words : Words) → SpellsOpening s before words →
    Holds (λ t rest. InitialOf n t (integer_then m p (symbol_then symbol.Number q before)) rest) (signed_value p m s words)
unfolding signed_value
signed_gives n p q m s before words o =
    decided_holds (name_gives words) (λ x rest e. holds (name_times (rw e at o), omega arith)) (λ e. made_holds _ (literal_gives words) (λ l rest d. (literal_times o d, omega arith)))

counted_gives : (n : ℕ) (inner : Option (Reader Initials)) → ((words : Words) → Holds (λ ts rest. InitialsIn n ts words rest) (where_left inner words)) → (p q : Place) (m : ℕ) (words : Words) →
    Holds (λ t rest. InitialOf n t (integer_then m p (symbol_then symbol.Number q words)) rest) (counted_value inner p m words)
unfolding counted_value
counted_gives n inner g p q m words =
    decided_holds (symbol_gives symbol.LeftParenthesis words)
    (λ r rest e. made_holds _ (gives_before_symbol {Q = λ ts after. InitialOf n (ListTimes p m ts) (integer_then m p (symbol_then symbol.Number q words)) after} symbol.RightParenthesis (g rest)
    (λ ts u after d. (rw e (list_times d.0), d.1))) (λ ts after d. d))
    (λ e. followed_holds (opening_gives words) (λ s rest o. signed_gives n p q m s words rest o))

counted_case : (n : ℕ) (inner : Option (Reader Initials)) → ((words : Words) → Holds (λ ts rest. InitialsIn n ts words rest) (where_left inner words)) → {p : Place} {m : ℕ} {words rest : Words} →
    Counted p m words rest → Holds (λ t after. InitialOf n t words after) (counted_value inner p m rest)
counted_case n inner g {p = p} {m = m} (counted_so {q = q} {after = after}) = counted_gives n inner g p q m after

initial_gives : (n : ℕ) (inner : Option (Reader Initials)) → ((words : Words) → Holds (λ ts rest. InitialsIn n ts words rest) (where_left inner words)) → (words : Words) →
    Holds (λ t rest. InitialOf n t words rest) (initial_of n inner words)
unfolding initial_of
initial_gives n inner g words =
    decided_holds (count_gives words) (λ f rest c. counted_case n inner g c) (λ e. made_holds _ (expression_gives n words) (λ t rest d. (valued d.0, d.1)))

initials_spelled : (n : ℕ) {ts : List Initial} {b a : Words} → Parted (InitialOf n) ts b a → InitialsOf n (initials ts) b a
unfolding initials
initials_spelled n (last d) = (last_initial d.0, omega (arith, d.1))
initials_spelled n (more d ds) = let r = initials_spelled n ds in (more_initials d.0 r.0, omega (arith, d.1, r.1))

initials_give : (n : ℕ) (inner : Option (Reader Initials)) → ((words : Words) → Holds (λ ts rest. InitialsIn n ts words rest) (where_left inner words)) → (words : Words) →
    Holds (λ ts rest. InitialsOf n ts words rest) (initials_of n inner words)
unfolding initials_of initials
initials_give n inner g words = made_holds _ (parted_gives (initial_of n inner) (initial_gives n inner g) words) (λ f rest h. initials_spelled n h)

-- what is read of initial values is spelled
pub initials_at_gives : (n : ℕ) (words : Words) → Holds (λ ts rest. InitialsOf n ts words rest) (initials_at n words)
unfolding initials_at where_left
initials_at_gives zero words = initials_give zero None (λ w. holds_none) words
initials_at_gives (suc n) words = initials_give (suc n) (Some (initials_at n)) (λ w. weaker_holds (initials_at_gives n w) (λ ts rest d. (d.0, omega (arith, d.1)))) words

-- with these words no initial value goes on
abbrev pub EndsInitial : Words → Type 0
EndsInitial a = (strength a ≤ 2) × ¬ BeginsSymbol symbol.Number a

number_after : {q : Place} {m a : Words} → a ≡ symbol_then symbol.Number q m → ¬ BeginsSymbol symbol.Number a → ⊥
number_after e n = n (rw e begins)

-- an expression that begins with an integer and `#` ends before `#`
not_counted : {t : Expression} {p : Place} {m : ℕ} {b a c : Words} → SpellsExpression t b a → EndsInitial a → Counted p m b c → ⊥
not_counted {t = t} {p = p} {m = m} {a = a} d h (counted_so {q = q} {after = after}) =
    let e : SpellsExpression (Literal p (Integer m)) (integer_then m p (symbol_then symbol.Number q after)) (symbol_then symbol.Number q after) =
    both (comparison (cat (sum (term (factor (primary (literal integer))))))) in
    let r = exact d e h.0 (omega arith) in number_after r.1 h.1

literal_no_name : {l : LiteralValue} {p : Place} {b a : Words} → SpellsLiteral l p b a → name_at b ≡ None
unfolding name_at
literal_no_name integer = refl
literal_no_name text = refl
literal_no_name bits = refl
literal_no_name true_bit = refl
literal_no_name false_bit = refl
literal_no_name on_bit = refl
literal_no_name off_bit = refl

literal_not_left : {l : LiteralValue} {p : Place} {b a : Words} → SpellsLiteral l p b a → ¬ BeginsSymbol symbol.LeftParenthesis b
literal_not_left integer = λ d. elim d [ ]
literal_not_left text = λ d. elim d [ ]
literal_not_left bits = λ d. elim d [ ]
literal_not_left true_bit = λ d. elim d [ ]
literal_not_left false_bit = λ d. elim d [ ]
literal_not_left on_bit = λ d. elim d [ ]
literal_not_left off_bit = λ d. elim d [ ]

name_not_left : {n : List ℕ} {p : Place} {b : Words} → ¬ BeginsSymbol symbol.LeftParenthesis (name_then n p b)
name_not_left = λ d. elim d [ ]

opening_not_left : {s : Option Sign} {b a : Words} → SpellsOpening s b a → ¬ BeginsSymbol symbol.LeftParenthesis a → ¬ BeginsSymbol symbol.LeftParenthesis b
opening_not_left (no_opening n m) h = h
opening_not_left (opening plus) h = λ d. elim d [ ]
opening_not_left (opening minus) h = λ d. elim d [ ]

-- the initial values that stand one level deeper are read
abbrev pub ReadsInner : ℕ → Option (Reader Initials) → Type 0
ReadsInner n inner = (ts : Initials) (b a : Words) → InitialsIn n ts b a → EndsInitial a × ¬ BeginsSymbol symbol.Comma a → where_left inner b ≡ Some (ts, a)

signed_literal : (p : Place) (m : ℕ) (s : Option Sign) {l : LiteralValue} {r : Place} {b a : Words} → SpellsLiteral l r b a → signed_value p m s b ≡ Some (LiteralTimes p m s r l, a)
unfolding signed_value
signed_literal p m s d = decided_not _ _ (literal_no_name d) ∙ made_equals _ (literal_is d)

signed_name : (p : Place) (m : ℕ) (s : Option Sign) (n : List ℕ) (r : Place) (after : Words) → signed_value p m s (name_then n r after) ≡ Some (NameTimes p m s (naming r n), after)
unfolding signed_value name_at
signed_name p m s n r after = decided_is _ _ refl

counted_sign : (inner : Option (Reader Initials)) (p : Place) (m : ℕ) {s : Option Sign} {b a : Words} → SpellsOpening s b a → ¬ BeginsSymbol symbol.LeftParenthesis a →
    counted_value inner p m b ≡ signed_value p m s a
unfolding counted_value
counted_sign inner p m {b = b} o n = decided_not _ _ (past_symbol_none symbol.LeftParenthesis b (opening_not_left o n)) ∙ followed_is _ (opening_is o)

counted_list : (n : ℕ) (inner : Option (Reader Initials)) → ReadsInner n inner → (p : Place) (m : ℕ) (r u : Place) {ts : Initials} {b a : Words} →
    SpellsInitials ts b (symbol_then symbol.RightParenthesis u a) → nesting_of_initials ts + 1 ≤ n → counted_value inner p m (symbol_then symbol.LeftParenthesis r b) ≡ Some (ListTimes p m ts, a)
unfolding counted_value
counted_list n inner g p m r u {ts = ts} {b = b} {a = a} d l =
    decided_is _ _ (past_symbol_here symbol.LeftParenthesis r b) ∙ made_equals _ (before_symbol_is (g ts b (symbol_then symbol.RightParenthesis u a) (d, l) ((omega arith, λ d. elim d [ ]), λ d. elim d [ ])))

spelled_is : (n : ℕ) (inner : Option (Reader Initials)) → ReadsInner n inner → {t : Initial} {b a : Words} → SpellsInitial t b a → nesting_of_initial t ≤ n → EndsInitial a →
    initial_of n inner b ≡ Some (t, a)
unfolding initial_of
spelled_is n inner g (valued {before = before} d) l h = decided_not _ _ (nothing_read (count_gives before) (λ f rest c. not_counted d h c)) ∙ made_equals _ (expression_is n d l h.0)
spelled_is n inner g (literal_times {p = p} {q = q} {n = m} {s = s} {before = before} o d) l h =
    decided_is _ _ (count_is p m q before) ∙ counted_sign inner p m o (literal_not_left d) ∙ signed_literal p m s d
spelled_is n inner g (name_times {p = p} {q = q} {r = r} {n = m} {s = s} {x = x} {before = before} {after = after} o) l h =
    decided_is _ _ (count_is p m q before) ∙ counted_sign inner p m o name_not_left ∙ signed_name p m s x r after
spelled_is n inner g (list_times {p = p} {q = q} {r = r} {u = u} {n = m} {before = before} d) l h =
    decided_is _ _ (count_is p m q (symbol_then symbol.LeftParenthesis r before)) ∙ counted_list n inner g p m r u d l

initial_is : (n : ℕ) (inner : Option (Reader Initials)) → ReadsInner n inner → (t : Initial) (b a : Words) → InitialOf n t b a → EndsInitial a → initial_of n inner b ≡ Some (t, a)
initial_is n inner g t b a d h = spelled_is n inner g d.0 d.1 h

-- initial values as a list
data Listing (n : ℕ) : Initials → Words → Words → Type 0 where
  listing : {t : Initial} {ts : List Initial} {b a : Words} → Parted (InitialOf n) (t ∷ ts) b a → Listing n (MoreInitials t (initials ts)) b a

listing_more : (n : ℕ) {p : Place} {t : Initial} {ts : Initials} {b m a : Words} → InitialOf n t b (symbol_then symbol.Comma p m) → Listing n ts m a → Listing n (MoreInitials t ts) b a
unfolding initials
listing_more n d (listing ds) = listing (more d ds)

listing_of : (n : ℕ) {ts : Initials} {b a : Words} → SpellsInitials ts b a → nesting_of_initials ts ≤ n → Listing n ts b a
unfolding initials
listing_of n (last_initial d) l = listing (last (d, omega arith))
listing_of n (more_initials d ds) l = listing_more n (d, omega arith) (listing_of n ds (omega arith))

pub initial_shortens : (n : ℕ) (inner : Option (Reader Initials)) → ((words : Words) → Holds (λ ts rest. InitialsIn n ts words rest) (where_left inner words)) → Shortens (initial_of n inner)
initial_shortens n inner g = shortens (initial_gives n inner g) (λ t words rest d. initial_shorter d.0)

listing_is : (n : ℕ) (inner : Option (Reader Initials)) → ((words : Words) → Holds (λ ts rest. InitialsIn n ts words rest) (where_left inner words)) → ReadsInner n inner →
    {ts : Initials} {b a : Words} → Listing n ts b a → EndsInitial a × ¬ BeginsSymbol symbol.Comma a → initials_of n inner b ≡ Some (ts, a)
unfolding initials_of
listing_is n inner g i (listing ds) h =
    made_equals _ (parted_is (initial_of n inner) (initial_shortens n inner g) (initial_is n inner i) (λ p words. (omega arith, λ d. elim d [ ])) ds h.0 h.1)

-- initial values that a parenthesis follows are read
pub initials_at_is : (n : ℕ) (ts : Initials) (b a : Words) → InitialsOf n ts b a → EndsInitial a × ¬ BeginsSymbol symbol.Comma a → initials_at n b ≡ Some (ts, a)
unfolding initials_at where_left
initials_at_is zero ts b a d h = listing_is zero None (λ w. holds_none) (λ us c e k i. absurd (omega (arith, k.1))) (listing_of zero d.0 d.1) h
initials_at_is (suc n) ts b a d h =
    listing_is (suc n) (Some (initials_at n)) (λ w. weaker_holds (initials_at_gives n w) (λ us rest e. (e.0, omega (arith, e.1))))
    (λ us c e k i. initials_at_is n us c e (k.0, omega (arith, k.1)) i) (listing_of (suc n) d.0 d.1) h
