-- Sizes that are known, and the dimensions that they are.
use Rattle.std.specs.Prelude.{◌≡◌, ℕ, List, [], ◌∷◌, Some}
use Rattle.hal_grammar.specs.Expressions.{Expressions, NoExpressions, MoreExpressions}
use Rattle.hal_phrases.specs.Phrases.{Phrase}
use Rattle.hal_constants.specs.Known.{Known}
use Rattle.hal_sizes.specs.declared.extent.Extent.{Extent}
use Rattle.hal_sizes.specs.Sizes.{extent, size_in}
use Rattle.hal_meaning.specs.Elements.{size_given}

-- each size that a list gives is known in this phrase
abbrev pub AreKnown : List Phrase → Known → Phrase → Expressions → Type 0
AreKnown ps vs p NoExpressions = Unit {0}
AreKnown ps vs p (MoreExpressions first others) = (size_in ps vs p first ≡ Some (size_given ps vs p first)) × AreKnown ps vs p others

-- up to three sizes as dimensions
abbrev pub extent_with : List ℕ → Extent
extent_with [] = extent 0 0 0
extent_with (a ∷ []) = extent a 0 0
extent_with (a ∷ b ∷ []) = extent a b 0
extent_with (a ∷ b ∷ c ∷ others) = extent a b c
