-- Phrases parted by commas.
use Rattle.std.proofs.Common.{◌≡◌, ℕ, ◌≤◌, List, [], ◌∷◌, Some, None, ap, ◌∙◌, arith}
use Rattle.hal_base.specs.declared.refusal.Place.{Place}
use Rattle.hal_words.specs.declared.word.Symbol.TheVariants as symbol
use Rattle.hal_grammar.specs.Leaves.{most}
use Rattle.hal_grammar.specs.Words.{Words, symbol_then, BeginsSymbol}
use Rattle.hal_grammar.specs.SpellsDeclarations.{Parted, last, more}
use Rattle.hal_parse_expr.specs.Reading.{Read, Reader, followed, made_of, all, after_comma, parted}
use Rattle.hal_parse_expr.proofs.Shortening.{Shortens, all_none, all_more}
use Rattle.hal_parse_expr.proofs.ShorteningExpressions.{comma_shortens}
use Rattle.hal_parse_declarations.specs.ReadingDeclarations.{first_and_others}
use Rattle.hal_parse_expr.proofs.FirstWords.{past_symbol_none}
use Rattle.hal_parse_expr.proofs.Readings.{Holds, holds, weaker_holds}
use Rattle.hal_parse_expr.proofs.Combining.{followed_holds, made_holds}
use Rattle.hal_parse_declarations.proofs.Firsts.{symbol_gives}
use Rattle.hal_parse_expr.proofs.Equations.{made_equals}
use Rattle.hal_parse_declarations.proofs.Becomes.{followed_is, symbol_is}
use Rattle.hal_parse_declarations.proofs.Chains.{Chain, chain_end, chain_more, all_chain}

-- a comma and a phrase
data Comma {X : Type 0} (P : X → Words → Words → Type 0) (x : X) : Words → Words → Type 0 where
  comma_first : {p : Place} {before after : Words} → P x before after → Comma P x (symbol_then symbol.Comma p before) after

comma_gives : {X : Type 0} {P : X → Words → Words → Type 0} (read : Reader X) → ((words : Words) → Holds (λ x rest. P x words rest) (read words)) → (words : Words) →
    Holds (λ x rest. Comma P x words rest) (after_comma read words)
unfolding after_comma
comma_gives {P = P} read g words = followed_holds (symbol_gives symbol.Comma words) (λ p rest e. weaker_holds (g rest) (λ x after h. rw e (let c : Comma P x (symbol_then symbol.Comma p rest) after = comma_first h in c)))

parted_from : {X : Type 0} {P : X → Words → Words → Type 0} {x : X} {xs : List X} {before middle after : Words} → P x before middle → Chain (Comma P) xs middle after → Parted P (x ∷ xs) before after
parted_from h chain_end = last h
parted_from h (chain_more (comma_first d) ds) = more h (parted_from d ds)

-- what is read is parted by commas
pub parted_gives : {X : Type 0} {P : X → Words → Words → Type 0} (read : Reader X) → ((words : Words) → Holds (λ x rest. P x words rest) (read words)) → (words : Words) →
    Holds (λ f rest. Parted P (f.0 ∷ f.1) words rest) (parted read words)
unfolding parted
parted_gives read g words = followed_holds (g words) (λ x rest h. holds (parted_from h (all_chain (after_comma read) (comma_gives read g) rest)))

-- a phrase, and what is read behind it
pub others_give : {X : Type 0} {P : X → Words → Words → Type 0} (read : Reader X) → ((words : Words) → Holds (λ x rest. P x words rest) (read words)) → {x : X} {words rest : Words} → P x words rest →
    Parted P (x ∷ (all (after_comma read) rest).0) words (all (after_comma read) rest).1
others_give read g {rest = rest} h = parted_from h (all_chain (after_comma read) (comma_gives read g) rest)

-- every phrase that ends so is the one that is read
abbrev pub ReadsUntil : {X : Type 0} → (X → Words → Words → Type 0) → (Words → Type 0) → Reader X → Type 0
ReadsUntil {X = X} P E read = (x : X) (before after : Words) → P x before after → E after → read before ≡ Some (x, after)

-- where no comma follows none is read
pub comma_none : {X : Type 0} (read : Reader X) (words : Words) → ¬ BeginsSymbol symbol.Comma words → after_comma read words ≡ None
unfolding after_comma followed
comma_none read words n = ap (λ o. followed o (λ p rest. read rest)) (past_symbol_none symbol.Comma words n)

comma_is : {X : Type 0} (read : Reader X) (p : Place) (words : Words) {o : Read X} → read words ≡ o → after_comma read (symbol_then symbol.Comma p words) ≡ o
unfolding after_comma
comma_is read p words e = symbol_is symbol.Comma p words (λ q rest. read rest) ∙ e

more_read : {X : Type 0} (read : Reader X) → Shortens read → (words : Words) (x : X) (rest : Words) (xs : List X) (after : Words) → read words ≡ Some (x, rest) → all read rest ≡ (xs, after) →
    all read words ≡ (x ∷ xs, after)
more_read read short words x rest xs after e f = all_more read short words x rest e ∙ ap (λ l. (x ∷ l.0, l.1)) f

-- what is parted by commas behind a comma is read
pub others_are : {X : Type 0} {P : X → Words → Words → Type 0} {E : Words → Type 0} (read : Reader X) → Shortens read → ReadsUntil P E read → ((p : Place) (words : Words) → E (symbol_then symbol.Comma p words)) →
    (p : Place) {xs : List X} {before after : Words} → Parted P xs before after → E after → ¬ BeginsSymbol symbol.Comma after → all (after_comma read) (symbol_then symbol.Comma p before) ≡ (xs, after)
others_are read short is c p (last {x = x} {before = before} {after = after} d) h n =
    more_read (after_comma read) (comma_shortens read short) (symbol_then symbol.Comma p before) x after [] after (comma_is read p before (is x before after d h))
    (all_none (after_comma read) after (comma_none read after n))
others_are read short is c p (more {p = q} {x = x} {xs = xs} {before = before} {middle = middle} {after = after} d ds) h n =
    more_read (after_comma read) (comma_shortens read short) (symbol_then symbol.Comma p before) x (symbol_then symbol.Comma q middle) xs after
    (comma_is read p before (is x before (symbol_then symbol.Comma q middle) d (c q middle)))
    (others_are read short is c q ds h n)

parted_so : {X : Type 0} (read : Reader X) (words : Words) (x : X) (rest : Words) (xs : List X) (after : Words) → read words ≡ Some (x, rest) → all (after_comma read) rest ≡ (xs, after) →
    parted read words ≡ Some ((x, xs), after)
unfolding parted
parted_so read words x rest xs after e f = followed_is _ e ∙ ap (λ l. Some ((x, l.0), l.1)) f

-- what is parted by commas is read
pub parted_is : {X : Type 0} {P : X → Words → Words → Type 0} {E : Words → Type 0} (read : Reader X) → Shortens read → ReadsUntil P E read → ((p : Place) (words : Words) → E (symbol_then symbol.Comma p words)) →
    {x : X} {xs : List X} {before after : Words} → Parted P (x ∷ xs) before after → E after → ¬ BeginsSymbol symbol.Comma after → parted read before ≡ Some ((x, xs), after)
parted_is read short is c (last {x = x} {before = before} {after = after} d) h n =
    parted_so read before x after [] after (is x before after d h) (all_none (after_comma read) after (comma_none read after n))
parted_is read short is c (more {p = p} {x = x} {xs = xs} {before = before} {middle = middle} {after = after} d ds) h n =
    parted_so read before x (symbol_then symbol.Comma p middle) xs after (is x before (symbol_then symbol.Comma p middle) d (c p middle)) (others_are read short is c p ds h n)

-- the same as one list
pub list_gives : {X : Type 0} {P : X → Words → Words → Type 0} (read : Reader X) → ((words : Words) → Holds (λ x rest. P x words rest) (read words)) → (words : Words) →
    Holds (λ xs rest. Parted P xs words rest) (made_of first_and_others (parted read words))
list_gives read g words = made_holds _ (parted_gives read g words) (λ f rest h. h)

pub list_is : {X : Type 0} {P : X → Words → Words → Type 0} {E : Words → Type 0} (read : Reader X) → Shortens read → ReadsUntil P E read → ((p : Place) (words : Words) → E (symbol_then symbol.Comma p words)) →
    {xs : List X} {before after : Words} → Parted P xs before after → E after → ¬ BeginsSymbol symbol.Comma after → made_of first_and_others (parted read before) ≡ Some (xs, after)
list_is read short is c (last d) h n = made_equals _ (parted_is read short is c (last d) h n)
list_is read short is c (more d ds) h n = made_equals _ (parted_is read short is c (more d ds) h n)

-- each of them is so deep at most
pub parted_shallow : {X : Type 0} {R : X → Words → Words → Type 0} (depth : X → ℕ) (n : ℕ) {xs : List X} {before after : Words} → Parted R xs before after → most depth xs ≤ n →
    Parted (λ x b a. R x b a × (depth x ≤ n)) xs before after
parted_shallow depth n (last d) h = last (d, omega arith)
parted_shallow depth n (more d ds) h = more (d, omega arith) (parted_shallow depth n ds (omega arith))

pub parted_deep : {X : Type 0} {R : X → Words → Words → Type 0} (depth : X → ℕ) (n : ℕ) {xs : List X} {before after : Words} → Parted (λ x b a. R x b a × (depth x ≤ n)) xs before after →
    Parted R xs before after × (most depth xs ≤ n)
parted_deep depth n (last d) = (last d.0, omega (arith, d.1))
parted_deep depth n (more d ds) = let r = parted_deep depth n ds in (more d.0 r.0, omega (arith, d.1, r.1))
