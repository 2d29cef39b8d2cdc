-- The reader of relations.
use Rattle.std.proofs.Common.{◌≡◌, [], ◌∷◌, Some, refl, ap, ◌∙◌}
use Rattle.hal_base.specs.declared.refusal.Place.{Place}
use Rattle.hal_words.specs.declared.reserved.Reserved.TheVariants as reserved
use Rattle.hal_words.specs.declared.word.Symbol.TheVariants as symbol
use Rattle.hal_words.specs.declared.word.Word.{Word}
use Rattle.hal_words.specs.declared.word.Word.TheVariants as word
use Rattle.hal_grammar.specs.Leaves.{Relation}
use Rattle.hal_grammar.specs.Words.{Words, token, reserved_then}
use Rattle.hal_grammar.specs.SpellsExpressions.{SpellsRelation, equal, less, greater, at_most, at_least, not_equal, not_less, not_greater}
use Rattle.hal_parse_expr.specs.Reading.{Read, followed, or_else, past}
use Rattle.hal_parse_expr.specs.ReadingExpressions.{plain_relation, negated_relation, said, relation_at}
use Rattle.hal_parse_expr.proofs.FirstWords.{PastOf, is_past, not_past, past_of, past_here}
use Rattle.hal_parse_expr.proofs.Readings.{Holds, holds_none, holds}
use Rattle.hal_parse_expr.proofs.Combining.{or_holds}

plain_word : (w : Word) (p : Place) (rest : Words) → Holds (λ r a. SpellsRelation r (token w p ∷ rest) a) (said plain_relation (token w p ∷ rest))
unfolding said plain_relation
plain_word (word.Symbol symbol.Equals) p rest = holds equal
plain_word (word.Symbol symbol.Less) p rest = holds less
plain_word (word.Symbol symbol.Greater) p rest = holds greater
plain_word (word.Symbol symbol.AtMost) p rest = holds at_most
plain_word (word.Symbol symbol.AtLeast) p rest = holds at_least
plain_word (word.Symbol s) p rest = holds_none
plain_word other p rest = holds_none

plain_sound : (words : Words) → Holds (λ r a. SpellsRelation r words a) (said plain_relation words)
unfolding said
plain_sound [] = holds_none
plain_sound (first ∷ rest) = plain_word first.word first.place rest

negated_word : (q : Place) (w : Word) (p : Place) (rest : Words) → Holds (λ r a. SpellsRelation r (reserved_then reserved.Not q (token w p ∷ rest)) a) (said negated_relation (token w p ∷ rest))
unfolding said negated_relation
negated_word q (word.Symbol symbol.Equals) p rest = holds not_equal
negated_word q (word.Symbol symbol.Less) p rest = holds not_less
negated_word q (word.Symbol symbol.Greater) p rest = holds not_greater
negated_word q (word.Symbol s) p rest = holds_none
negated_word q other p rest = holds_none

negated_sound : (q : Place) (words : Words) → Holds (λ r a. SpellsRelation r (reserved_then reserved.Not q words) a) (said negated_relation words)
unfolding said
negated_sound q [] = holds_none
negated_sound q (first ∷ rest) = negated_word q first.word first.place rest

behind_not : {words : Words} {o : Read Place} → PastOf (word.Reserved reserved.Not) words o → Holds (λ r a. SpellsRelation r words a) (followed o (λ p rest. said negated_relation rest))
unfolding followed
behind_not (is_past {p = p} {rest = rest}) = negated_sound p rest
behind_not (not_past n) = holds_none

pub relation_sound : (words : Words) → Holds (λ r a. SpellsRelation r words a) (relation_at words)
unfolding relation_at
relation_sound words = or_holds (plain_sound words) (behind_not (past_of reserved.Not words))

behind_here : {r : Relation} (p : Place) (rest : Words) → {a : Words} → said negated_relation rest ≡ Some (r, a) →
    followed (past reserved.Not (reserved_then reserved.Not p rest)) (λ q after. said negated_relation after) ≡ Some (r, a)
unfolding followed
behind_here p rest e = ap (λ o. followed o (λ q after. said negated_relation after)) (past_here reserved.Not p rest) ∙ e

pub relation_here : {r : Relation} {b a : Words} → SpellsRelation r b a → relation_at b ≡ Some (r, a)
unfolding relation_at said plain_relation negated_relation or_else
relation_here equal = refl
relation_here less = refl
relation_here greater = refl
relation_here at_most = refl
relation_here at_least = refl
relation_here not_equal = behind_here _ _ refl
relation_here not_less = behind_here _ _ refl
relation_here not_greater = behind_here _ _ refl
