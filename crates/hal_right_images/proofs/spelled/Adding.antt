-- Phrases that are added as words spell them.
use Rattle.std.proofs.Common.{◌≡◌, ◌⊎◌, ◌<◌, true, List, [], ◌∷◌, ◌++◌, length, Some, subst, sym, inl, inr}
use Rattle.hal_grammar.specs.Declarations.{LiteralTimes}
use Rattle.hal_grammar.specs.Expressions.{Literal, Decimal, Refers, ByParts, NoSubscripts, NoExpressions}
use Rattle.hal_words.specs.declared.word.Token.{Token}
use Rattle.hal_grammar.specs.Words.{Words}
use Rattle.hal_phrases.specs.declared.around.Around.{Around}
use Rattle.hal_phrases.specs.Phrases.{Node, Phrase, phrase, add, OfExpression, OfReference, OfAssignment, OfItem, OfInitial, OfStructure}
use Rattle.hal_scope.specs.Rules.{IsAmong}
use Rattle.hal_kinds.specs.Attributes.{sizes_of}
use Rattle.hal_code.specs.declared.operand.Time.TheVariants as time
use Rattle.hal_code.specs.Operands.{is_time}
use Rattle.hal_fit_names.specs.Spelled.{IsRightLiteral}
use Rattle.hal_fit_rules.specs.Used.{HasReceiver}
use Rattle.hal_right_images.specs.spelled.Words.{AreRightWords}

-- what is known of a phrase whose words are right
abbrev pub NodeSpelled : Node → Type 0
NodeSpelled (OfExpression r (Literal place literal)) = IsRightLiteral literal
NodeSpelled (OfExpression r (Decimal place number)) = is_time (time.Milliseconds number) ≡ true
NodeSpelled (OfReference r (Refers place name path (ByParts at_ NoSubscripts NoSubscripts NoSubscripts))) = ⊥
NodeSpelled (OfAssignment receivers value) = HasReceiver receivers
NodeSpelled (OfItem common item) = sizes_of common item ≡ Some NoExpressions → ⊥
NodeSpelled (OfInitial (LiteralTimes place count sign spot literal)) = IsRightLiteral literal
NodeSpelled (OfStructure name parts) = 0 < length parts
NodeSpelled other = Unit {0}

-- each of these phrases is one of those, or spelled so
pub record Adds (d e : List Phrase) : Type 0 where
  pub each_ : (p : Phrase) → IsAmong p e → IsAmong p d ⊎ NodeSpelled p.node

-- and the words that follow are right
pub record Gives (d e : List Phrase) (after : Words) : Type 0 where
  pub added : Adds d e
  pub right : AreRightWords after

pub gives : {d e : List Phrase} (after : Words) → Adds d e → AreRightWords after → Gives d e after
gives after added right = record { added = added; right = right }

pub no_step : (d : List Phrase) → Adds d d
no_step d = record { each_ = λ p within. inl within }

further : {d e : List Phrase} (p : Phrase) → Adds d e → IsAmong p e ⊎ NodeSpelled p.node → IsAmong p d ⊎ NodeSpelled p.node
further p first (inl within) = first.each_ p within
further p first (inr spelled) = inr spelled

pub then_ : {d e f : List Phrase} → Adds d e → Adds e f → Adds d f
then_ first second = record { each_ = λ p within. further p first (second.each_ p within) }

at_end : (p q : Phrase) (d : List Phrase) → IsAmong p (d ++ (q ∷ [])) → IsAmong p d ⊎ (p ≡ q)
at_end p q [] (inl same) = inr same
at_end p q [] (inr none) = absurd none
at_end p q (x ∷ d) (inl same) = inl (inl same)
at_end p q (x ∷ d) (inr later) = by (at_end p q d later) where
  by : IsAmong p d ⊎ (p ≡ q) → IsAmong p (x ∷ d) ⊎ (p ≡ q)
  by (inl within) = inl (inr within)
  by (inr same) = inr same

-- one more
pub one : (d : List Phrase) (a : Around) (n : Node) → NodeSpelled n → Adds d (add d a n)
one d a n spelled = record { each_ = λ p within. by p (at_end p (phrase (length d) a n) d within) } where
  by : (p : Phrase) → IsAmong p d ⊎ (p ≡ phrase (length d) a n) → IsAmong p d ⊎ NodeSpelled p.node
  by p (inl within) = inl within
  by p (inr same) = inr (subst (λ (x : Phrase). NodeSpelled x.node) (sym same) spelled)

-- phrases, and more behind them
pub and_more : {d e f : List Phrase} {middle after : Words} → Gives d e middle → (AreRightWords middle → Gives e f after) → Gives d f after
and_more first rest = let second = rest first.right in record { added = then_ first.added second.added; right = second.right }

-- one phrase, and more behind it
pub behind_one : (d : List Phrase) (a : Around) (n : Node) {f : List Phrase} {after : Words} → NodeSpelled n → Gives (add d a n) f after → Gives d f after
behind_one d a n spelled rest = record { added = then_ (one d a n spelled) rest.added; right = rest.right }

-- past a word
pub past : {d e : List Phrase} {first : Token} {after : Words} → Gives d e (first ∷ after) → Gives d e after
past more = record { added = more.added; right = more.right.1 }
