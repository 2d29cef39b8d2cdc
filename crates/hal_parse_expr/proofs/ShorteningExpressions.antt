-- The readers of expressions shorten the words.
use Rattle.std.proofs.Common.{ℕ, suc, ◌<◌, [], ◌∷◌, length, Option, Some, None, arith}
use Rattle.hal_base.specs.declared.refusal.Place.{Place}
use Rattle.hal_words.specs.declared.reserved.Reserved.{Reserved}
use Rattle.hal_words.specs.declared.reserved.Reserved.TheVariants as reserved
use Rattle.hal_words.specs.declared.word.Symbol.TheVariants as symbol
use Rattle.hal_words.specs.declared.word.Word.{Word}
use Rattle.hal_grammar.specs.Leaves.{Sign}
use Rattle.hal_grammar.specs.Expressions.{Expression, Expressions, Position, FromBeginning, FromEnd}
use Rattle.hal_grammar.specs.Words.{Words}
use Rattle.hal_parse_expr.specs.Reading.{Read, Reader, followed, past, past_symbol, name_at, after_comma, parted}
use Rattle.hal_parse_expr.specs.ReadingExpressions.{sign_of, sign_at, said, relation_at, plain_relation, negated_relation, further_at, factor_of, further_factor, row_at, term_of, signed_term, unsigned_sum, signed_sum, sum_of, behind, cat_of, related, comparison_of, both_of, expression_of, expressions_of, from_end, position_of, to_position, at_position, range_from, portion_from, every_at, sub_of, subs_of}
use Rattle.hal_parse_expr.proofs.Shortening.{Below, Shortens, weaker, followed_below, made_below, tail_below, or_below, past_shortens, symbol_shortens, name_shortens, all_keeps}

signed_below : (p : Place) (rest : Words) (o : Option Sign) → Below {X = Place × Sign} (suc (length rest)) (elim o [ None ↦ None | Some s ↦ Some ((p, s), rest) ])
signed_below p rest None = tt
signed_below p rest (Some s) = omega arith

pub sign_shortens : Shortens sign_at
unfolding sign_at
sign_shortens [] = tt
sign_shortens (first ∷ rest) = signed_below first.place rest (sign_of first.word)

said_below : {X : Type 0} (rest : Words) (o : Option X) → Below (suc (length rest)) (elim o [ None ↦ None | Some x ↦ Some (x, rest) ])
said_below rest None = tt
said_below rest (Some x) = omega arith

pub said_shortens : {X : Type 0} (says : Word → Option X) → Shortens (said says)
unfolding said
said_shortens says [] = tt
said_shortens says (first ∷ rest) = said_below rest (says first.word)

pub relation_shortens : Shortens relation_at
unfolding relation_at
relation_shortens words = or_below _ (said plain_relation words) _ (said_shortens plain_relation words)
    (followed_below _ _ (past reserved.Not words) _ (past_shortens reserved.Not words) (λ p rest l. weaker _ _ (omega arith) (said negated_relation rest) (said_shortens negated_relation rest)))

pub further_shortens : Shortens further_at
unfolding further_at
further_shortens words = followed_below _ _ (past_symbol symbol.Point words) _ (symbol_shortens symbol.Point words) (λ p rest l. weaker _ _ (omega arith) (name_at rest) (name_shortens rest))

pub factor_shortens : (primary : Reader Expression) → Shortens primary → Shortens (factor_of primary)
unfolding factor_of
factor_shortens primary h words = followed_below _ _ (primary words) _ (h words) (λ t rest l. tail_below _ _ t rest _ l
    (followed_below _ _ (past_symbol symbol.Power rest) _ (symbol_shortens symbol.Power rest) (λ p after m. weaker _ _ (omega arith) (primary after) (h after))))

unless_below : (words : Words) (o : Read Place) (r : Read Expression) → Below (length words) r → Below (length words) (elim o [ None ↦ r | Some f ↦ None ])
unless_below words None r h = h
unless_below words (Some f) r h = tt

pub further_factor_shortens : (primary : Reader Expression) → Shortens primary → Shortens (further_factor primary)
unfolding further_factor
further_factor_shortens primary h words = unless_below words (past reserved.Not words) (factor_of primary words) (factor_shortens primary h words)

pub row_shortens : (make : Place → Expression → Expressions → Expression) (first more : Reader Expression) → Shortens first → Shortens more → Shortens (row_at make first more)
unfolding row_at
row_shortens make first more h g words = followed_below _ _ (first words) _ (h words) (λ t rest l. omega (arith, all_keeps more g rest, l))

pub term_shortens : (primary : Reader Expression) → Shortens primary → Shortens (term_of primary)
unfolding term_of
term_shortens primary h words = row_shortens _ (factor_of primary) (further_factor primary) (factor_shortens primary h) (further_factor_shortens primary h) words

pub signed_term_shortens : (primary : Reader Expression) → Shortens primary → Shortens (signed_term primary)
unfolding signed_term
signed_term_shortens primary h words = followed_below _ _ (sign_at words) _ (sign_shortens words)
    (λ s rest l. made_below _ _ (term_of primary rest) (weaker _ _ (omega arith) (term_of primary rest) (term_shortens primary h rest)))

unsigned_shortens : (primary : Reader Expression) → Shortens primary → Shortens (unsigned_sum primary)
unfolding unsigned_sum
unsigned_shortens primary h words =
    followed_below _ _ (term_of primary words) _ (term_shortens primary h words) (λ t rest l. omega (arith, all_keeps (signed_term primary) (signed_term_shortens primary h) rest, l))

signed_shortens : (primary : Reader Expression) → Shortens primary → Shortens (signed_sum primary)
unfolding signed_sum
signed_shortens primary h words =
    followed_below _ _ (signed_term primary words) _ (signed_term_shortens primary h words) (λ t rest l. omega (arith, all_keeps (signed_term primary) (signed_term_shortens primary h) rest, l))

either_below : {X : Type 0} (k : ℕ) (o : Read X) (r s : Read Expression) → Below k r → Below k s → Below k (elim o [ None ↦ r | Some f ↦ s ])
either_below k None r s h g = h
either_below k (Some f) r s h g = g

pub sum_shortens : (primary : Reader Expression) → Shortens primary → Shortens (sum_of primary)
unfolding sum_of
sum_shortens primary h words = either_below _ (sign_at words) _ _ (unsigned_shortens primary h words) (signed_shortens primary h words)

pub behind_shortens : (r : Reserved) (read : Reader Expression) → Shortens read → Shortens (behind r read)
unfolding behind
behind_shortens r read h words = followed_below _ _ (past r words) _ (past_shortens r words) (λ p rest l. weaker _ _ (omega arith) (read rest) (h rest))

pub cat_shortens : (primary : Reader Expression) → Shortens primary → Shortens (cat_of primary)
unfolding cat_of
cat_shortens primary h words = row_shortens _ (sum_of primary) (behind reserved.Cat (sum_of primary)) (sum_shortens primary h) (behind_shortens reserved.Cat (sum_of primary) (sum_shortens primary h)) words

pub related_shortens : (primary : Reader Expression) → Shortens primary → Shortens (related primary)
unfolding related
related_shortens primary h words = followed_below _ _ (relation_at words) _ (relation_shortens words)
    (λ r rest l. made_below _ _ (cat_of primary rest) (weaker _ _ (omega arith) (cat_of primary rest) (cat_shortens primary h rest)))

pub comparison_shortens : (primary : Reader Expression) → Shortens primary → Shortens (comparison_of primary)
unfolding comparison_of
comparison_shortens primary h words = followed_below _ _ (cat_of primary words) _ (cat_shortens primary h words)
    (λ t rest l. tail_below _ _ t rest _ l (weaker _ _ (omega arith) (related primary rest) (related_shortens primary h rest)))

pub both_shortens : (primary : Reader Expression) → Shortens primary → Shortens (both_of primary)
unfolding both_of
both_shortens primary h words =
    row_shortens _ (comparison_of primary) (behind reserved.And (comparison_of primary)) (comparison_shortens primary h) (behind_shortens reserved.And (comparison_of primary) (comparison_shortens primary h)) words

pub expression_shortens : (primary : Reader Expression) → Shortens primary → Shortens (expression_of primary)
unfolding expression_of
expression_shortens primary h words =
    row_shortens _ (both_of primary) (behind reserved.Or (both_of primary)) (both_shortens primary h) (behind_shortens reserved.Or (both_of primary) (both_shortens primary h)) words

pub comma_shortens : {X : Type 0} (read : Reader X) → Shortens read → Shortens (after_comma read)
unfolding after_comma
comma_shortens read h words = followed_below _ _ (past_symbol symbol.Comma words) _ (symbol_shortens symbol.Comma words) (λ p rest l. weaker _ _ (omega arith) (read rest) (h rest))

pub parted_shortens : {X : Type 0} (read : Reader X) → Shortens read → Shortens (parted read)
unfolding parted
parted_shortens read h words = followed_below _ _ (read words) _ (h words) (λ x rest l. omega (arith, all_keeps (after_comma read) (comma_shortens read h) rest, l))

pub expressions_shortens : (primary : Reader Expression) → Shortens primary → Shortens (expressions_of primary)
unfolding expressions_of
expressions_shortens primary h words = made_below _ _ (parted (expression_of primary) words) (parted_shortens (expression_of primary) (expression_shortens primary h) words)

end_shortens : (primary : Reader Expression) → Shortens primary → Shortens (from_end primary)
unfolding from_end
end_shortens primary h words = followed_below _ _ (past_symbol symbol.Number words) _ (symbol_shortens symbol.Number words)
    (λ p rest l. omega (arith, all_keeps (signed_term primary) (signed_term_shortens primary h) rest, l))

pub position_shortens : (primary : Reader Expression) → Shortens primary → Shortens (position_of primary)
unfolding position_of
position_shortens primary h words = or_below _ (from_end primary words) _ (end_shortens primary h words) (made_below _ FromBeginning (sum_of primary words) (sum_shortens primary h words))

position_behind : (primary : Reader Expression) → Shortens primary → (r : Reserved) → Shortens (λ words. followed (past r words) (λ p rest. position_of primary rest))
position_behind primary h r words = followed_below _ _ (past r words) _ (past_shortens r words) (λ p rest l. weaker _ _ (omega arith) (position_of primary rest) (position_shortens primary h rest))

range_below : (primary : Reader Expression) → Shortens primary → (k : ℕ) (x : Position) (rest : Words) → length rest < k → Below k (range_from primary x rest)
unfolding range_from to_position
range_below primary h k x rest l = tail_below _ _ _ rest _ l (weaker _ _ (omega arith) (to_position primary rest) (position_behind primary h reserved.To rest))

portion_below : (primary : Reader Expression) → Shortens primary → (k : ℕ) (x : Position) (rest : Words) → length rest < k → Below k (portion_from primary x rest)
unfolding portion_from at_position
portion_below primary h k (FromEnd p ts) rest l = range_below primary h k (FromEnd p ts) rest l
portion_below primary h k (FromBeginning t) rest l = or_below _ _ (range_from primary (FromBeginning t) rest)
    (made_below _ _ (at_position primary rest) (weaker _ _ (omega arith) (at_position primary rest) (position_behind primary h reserved.At rest)))
    (range_below primary h k (FromBeginning t) rest l)

pub sub_shortens : (primary : Reader Expression) → Shortens primary → Shortens (sub_of primary)
unfolding sub_of every_at
sub_shortens primary h words = or_below _ (every_at words) _ (made_below _ _ (past_symbol symbol.Star words) (symbol_shortens symbol.Star words))
    (followed_below _ _ (position_of primary words) _ (position_shortens primary h words) (λ x rest l. portion_below primary h _ x rest l))

pub subs_shortens : (primary : Reader Expression) → Shortens primary → Shortens (subs_of primary)
unfolding subs_of
subs_shortens primary h words = made_below _ _ (parted (sub_of primary) words) (parted_shortens (sub_of primary) (sub_shortens primary h) words)
