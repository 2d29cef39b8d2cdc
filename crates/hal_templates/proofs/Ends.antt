-- Where one of two lists of dimensions has ended.
use Rattle.std.proofs.Common.{rules, ◌≡◌, ◌==◌, ◌∙◌, Bool, List, [], ◌∷◌, length, map, sym, arith}
use Rattle.hal_grammar.specs.Expressions.{Expression, NoExpressions}
use Rattle.hal_phrases.specs.Phrases.{Phrase}
use Rattle.hal_tree.specs.Rows.{expressions}
use Rattle.hal_constants.specs.Known.{Known}
use Rattle.hal_templates.specs.Sizes.{same_sizes}

none_left : {X : Type 0} (f : X → Expression) (ps : List Phrase) (vs : Known) (p q : Phrase) (xs : List X) → same_sizes ps vs p NoExpressions q (expressions (map f xs)) ≡ (length xs == 0)
unfolding same_sizes expressions
none_left f ps vs p q [] = search rules
none_left f ps vs p q (x ∷ xs) = search rules

-- whether the other one has ended too tells whether all are the same
pub ended : {X : Type 0} (f : X → Expression) (ps : List Phrase) (vs : Known) (p q : Phrase) (left right list others : List X) (b : Bool) → length left ≡ 0 → b ≡ (length right == 0)
    → same_sizes ps vs p (expressions (map f left)) q (expressions (map f right)) ≡ same_sizes ps vs p (expressions (map f list)) q (expressions (map f others))
    → b ≡ same_sizes ps vs p (expressions (map f list)) q (expressions (map f others))
unfolding expressions
ended f ps vs p q [] right list others b none is same = is ∙ sym (none_left f ps vs p q right) ∙ same
ended f ps vs p q (x ∷ xs) right list others b none is same = absurd (omega (arith, none))
