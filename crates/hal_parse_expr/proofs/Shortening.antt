-- What a reader leaves is shorter than the words that it was given.
use Rattle.std.proofs.Common.{◌≡◌, ℕ, zero, suc, ◌<◌, ◌≤◌, Bool, true, false, List, [], ◌∷◌, length, Option, Some, None, refl, ap, sym, ◌∙◌, subst, arith}
use Rattle.std.specs.Bool.{⊤}
use Rattle.hal_base.specs.declared.refusal.Place.{Place}
use Rattle.hal_words.specs.declared.reserved.Reserved.{Reserved}
use Rattle.hal_words.specs.declared.word.Symbol.{Symbol}
use Rattle.hal_words.specs.declared.word.Word.{Word}
use Rattle.hal_words.specs.declared.word.Word.TheVariants as word
use Rattle.hal_grammar.specs.Words.{Words}
use Rattle.hal_parse_expr.specs.Reading.{Read, Reader, followed, made_of, with_tail, or_else, decided, where_true, is_reserved, is_symbol, past, past_symbol, name_at, integer_at, before_symbol, before, listed, many, all}

-- what is left is below this length
abbrev pub Below : {X : Type 0} → ℕ → Read X → Type 0
Below k None = ⊤
Below k (Some f) = length f.1 < k

-- what is left is always shorter
abbrev pub Shortens : {X : Type 0} → Reader X → Type 0
Shortens read = (words : Words) → Below (length words) (read words)

-- what is left is never longer
abbrev pub Keeps : {X : Type 0} → Reader X → Type 0
Keeps read = (words : Words) → Below (suc (length words)) (read words)

pub weaker : {X : Type 0} (k m : ℕ) → k ≤ m → (o : Read X) → Below k o → Below m o
weaker k m le None h = tt
weaker k m le (Some f) h = omega arith

pub followed_below : {X Y : Type 0} (k m : ℕ) (o : Read X) (next : X → Words → Read Y) → Below m o → ((x : X) (rest : Words) → length rest < m → Below k (next x rest)) → Below k (followed o next)
unfolding followed
followed_below k m None next h g = tt
followed_below k m (Some f) next h g = g f.0 f.1 h

pub made_below : {X Y : Type 0} (k : ℕ) (make : X → Y) (o : Read X) → Below k o → Below k (made_of make o)
unfolding made_of
made_below k make None h = tt
made_below k make (Some f) h = h

pub tail_below : {X Y : Type 0} (k : ℕ) (join : X → Y → X) (x : X) (rest : Words) (o : Read Y) → length rest < k → Below k o → Below k (with_tail join x rest o)
unfolding with_tail
tail_below k join x rest None l h = l
tail_below k join x rest (Some f) l h = h

pub or_below : {X : Type 0} (k : ℕ) (o other : Read X) → Below k o → Below k other → Below k (or_else o other)
unfolding or_else
or_below k None other h g = g
or_below k (Some f) other h g = h

pub decided_below : {X Y : Type 0} (k m : ℕ) (o : Read X) (next : X → Words → Read Y) (other : Read Y) → Below m o → ((x : X) (rest : Words) → length rest < m → Below k (next x rest)) → Below k other →
    Below k (decided o next other)
unfolding decided
decided_below k m None next other h g i = i
decided_below k m (Some f) next other h g i = g f.0 f.1 h

where_below : {X : Type 0} (k : ℕ) (b : Bool) (o : Read X) → Below k o → Below k (where_true b o)
unfolding where_true
where_below k true o h = h
where_below k false o h = tt

pub past_shortens : (r : Reserved) → Shortens (past r)
unfolding past
past_shortens r [] = tt
past_shortens r (first ∷ rest) = where_below _ (is_reserved r first.word) (Some (first.place, rest)) (omega arith)

pub symbol_shortens : (s : Symbol) → Shortens (past_symbol s)
unfolding past_symbol
symbol_shortens s [] = tt
symbol_shortens s (first ∷ rest) = where_below _ (is_symbol s first.word) (Some (first.place, rest)) (omega arith)

named_below : (w : Word) (p : Place) (rest : Words) → Below (suc (length rest)) (name_at (record { word = w; place = p } ∷ rest))
unfolding name_at
named_below (word.Name n) p rest = omega arith
named_below other p rest = tt

pub name_shortens : Shortens name_at
unfolding name_at
name_shortens [] = tt
name_shortens (first ∷ rest) = named_below first.word first.place rest

counted_below : (w : Word) (p : Place) (rest : Words) → Below (suc (length rest)) (integer_at (record { word = w; place = p } ∷ rest))
unfolding integer_at
counted_below (word.Integer n) p rest = omega arith
counted_below other p rest = tt

pub integer_shortens : Shortens integer_at
unfolding integer_at
integer_shortens [] = tt
integer_shortens (first ∷ rest) = counted_below first.word first.place rest

pub before_symbol_below : {X : Type 0} (k : ℕ) (s : Symbol) (o : Read X) → Below k o → Below k (before_symbol s o)
unfolding before_symbol
before_symbol_below k s o h = followed_below k k o _ h (λ x rest l. made_below k _ (past_symbol s rest) (weaker _ _ (omega arith) (past_symbol s rest) (symbol_shortens s rest)))

pub before_below : {X : Type 0} (k : ℕ) (r : Reserved) (o : Read X) → Below k o → Below k (before r o)
unfolding before
before_below k r o h = followed_below k k o _ h (λ x rest l. made_below k _ (past r rest) (weaker _ _ (omega arith) (past r rest) (past_shortens r rest)))

listed_keeps : {X : Type 0} (others : Words → List X × Words) (words : Words) (o : Read X) → Below (length words) o → ((rest : Words) → length (others rest).1 ≤ length rest) →
    length (listed others words o).1 ≤ length words
unfolding listed
listed_keeps others words None h g = omega arith
listed_keeps others words (Some f) h g = omega (arith, g f.1, h)

-- a list is never longer than the words
pub many_keeps : {X : Type 0} (read : Reader X) → Shortens read → (k : ℕ) (words : Words) → length (many read k words).1 ≤ length words
unfolding many
many_keeps read short zero words = omega arith
many_keeps read short (suc k) words = listed_keeps (many read k) words (read words) (short words) (many_keeps read short k)

pub all_keeps : {X : Type 0} (read : Reader X) → Shortens read → (words : Words) → length (all read words).1 ≤ length words
unfolding all
all_keeps read short words = many_keeps read short (length words) words

listed_same : {X : Type 0} (f g : Words → List X × Words) (words : Words) (n : ℕ) (o : Read X) → Below n o → ((rest : Words) → length rest < n → f rest ≡ g rest) → listed f words o ≡ listed g words o
unfolding listed
listed_same f g words n None h e = refl
listed_same f g words n (Some r) h e = ap (λ l. (r.0 ∷ l.0, l.1)) (e r.1 h)

none_left : {X : Type 0} (o : Read X) → Below 0 o → o ≡ None
none_left None h = refl
none_left (Some f) h = absurd (omega (arith, h))

-- more turns than words make no difference
pub many_enough : {X : Type 0} (read : Reader X) → Shortens read → (k m : ℕ) (words : Words) → length words ≤ k → length words ≤ m → many read k words ≡ many read m words
unfolding many listed
many_enough read short zero zero words h g = refl
many_enough read short zero (suc m) words h g =
    sym (ap (λ o. listed (many read m) words o) (none_left (read words) (weaker _ _ (omega arith) (read words) (short words))))
many_enough read short (suc k) zero words h g = ap (λ o. listed (many read k) words o) (none_left (read words) (weaker _ _ (omega arith) (read words) (short words)))
many_enough read short (suc k) (suc m) words h g =
    listed_same (many read k) (many read m) words (length words) (read words) (short words) (λ rest l. many_enough read short k m rest (omega arith) (omega arith))

-- where nothing can be read the list is empty
pub all_none : {X : Type 0} (read : Reader X) (words : Words) → read words ≡ None → all read words ≡ ([], words)
unfolding all many listed
all_none read [] e = refl
all_none read (first ∷ rest) e = ap (λ o. listed (many read (length rest)) (first ∷ rest) o) e

-- the first of a list, and the others
none_some : {X : Type 0} {x : X} → None ≡ Some x → ⊥
none_some {X = X} e = let h : Unit {0} ≡ ⊥ = ap (λ (o : Option X). elim o [ None ↦ Unit {0} | Some y ↦ ⊥ ]) e in subst {1, 0} (λ t. t) h tt

pub all_more : {X : Type 0} (read : Reader X) → Shortens read → (words : Words) (x : X) (rest : Words) → read words ≡ Some (x, rest) → all read words ≡ (x ∷ (all read rest).0, (all read rest).1)
unfolding all many listed
all_more read short [] x rest e = absurd (none_some (sym (none_left (read []) (short [])) ∙ e))
all_more read short (first ∷ words) x rest e =
    ap (λ o. listed (many read (length words)) (first ∷ words) o) e
    ∙ ap (λ l. (x ∷ l.0, l.1)) (many_enough read short (length words) (length rest) rest (omega (arith, subst (λ o. Below (length (first ∷ words)) o) e (short (first ∷ words)))) (omega arith))
