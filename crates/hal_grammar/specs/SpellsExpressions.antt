-- Which words spell an expression, one relation for each phrase of the grammar: `before` are the words from the tree's first one on, and `after`
-- those that follow it.
use Rattle.std.specs.Prelude.{ℕ, List, [], ◌∷◌, Some, None}
use Rattle.hal_base.specs.declared.refusal.Place.{Place}
use Rattle.hal_words.specs.declared.reserved.Reserved.TheVariants as reserved
use Rattle.hal_words.specs.declared.word.Symbol.TheVariants as symbol
use Rattle.hal_words.specs.declared.word.Word.TheVariants as word
use Rattle.hal_grammar.specs.Leaves.{Naming, naming, Sign, Plus, Minus, Relation, Equal, Less, Greater, AtMost, AtLeast, NotEqual, NotLess, NotGreater, ToInteger, ToBits, ToText, LiteralValue, Integer, Text, Bits, True, False, On, Off}
use Rattle.hal_grammar.specs.Expressions.{Expression, Or, And, Compare, Cat, Sum, Product, Power, Not, Literal, Decimal, Referred, Called, Convert, Parenthesis, Expressions, NoExpressions, MoreExpressions, Terms, NoTerms, MoreTerms, Reference, Refers, Subscript, Unsubscripted, ByName, ByInteger, ByParts, Subscripts, NoSubscripts, MoreSubscripts, Sub, Every, One, Range, Portion, Position, FromBeginning, FromEnd}
use Rattle.hal_grammar.specs.Words.{Words, token, reserved_then, symbol_then, name_then, integer_then, At, BeginsReserved, BeginsSymbol}

-- `+` or `-`
pub data SpellsSign : Sign → Place → Words → Words → Type 0 where
  plus : {p : Place} {after : Words} → SpellsSign Plus p (symbol_then symbol.Plus p after) after
  minus : {p : Place} {after : Words} → SpellsSign Minus p (symbol_then symbol.Minus p after) after

-- `=` `<` `>` `<=` `>=`, and `NOT =` `NOT <` `NOT >`
pub data SpellsRelation : Relation → Words → Words → Type 0 where
  equal : {p : Place} {after : Words} → SpellsRelation Equal (symbol_then symbol.Equals p after) after
  less : {p : Place} {after : Words} → SpellsRelation Less (symbol_then symbol.Less p after) after
  greater : {p : Place} {after : Words} → SpellsRelation Greater (symbol_then symbol.Greater p after) after
  at_most : {p : Place} {after : Words} → SpellsRelation AtMost (symbol_then symbol.AtMost p after) after
  at_least : {p : Place} {after : Words} → SpellsRelation AtLeast (symbol_then symbol.AtLeast p after) after
  not_equal : {p q : Place} {after : Words} → SpellsRelation NotEqual (reserved_then reserved.Not p (symbol_then symbol.Equals q after)) after
  not_less : {p q : Place} {after : Words} → SpellsRelation NotLess (reserved_then reserved.Not p (symbol_then symbol.Less q after)) after
  not_greater : {p q : Place} {after : Words} → SpellsRelation NotGreater (reserved_then reserved.Not p (symbol_then symbol.Greater q after)) after

-- an integer, a text, bits, TRUE, FALSE, ON, OFF
pub data SpellsLiteral : LiteralValue → Place → Words → Words → Type 0 where
  integer : {n : ℕ} {p : Place} {after : Words} → SpellsLiteral (Integer n) p (integer_then n p after) after
  text : {t : List ℕ} {p : Place} {after : Words} → SpellsLiteral (Text t) p (token (word.Text t) p ∷ after) after
  bits : {len bits : ℕ} {p : Place} {after : Words} → SpellsLiteral (Bits len bits) p (token (word.Bits len bits) p ∷ after) after
  true_bit : {p : Place} {after : Words} → SpellsLiteral True p (reserved_then reserved.True p after) after
  false_bit : {p : Place} {after : Words} → SpellsLiteral False p (reserved_then reserved.False p after) after
  on_bit : {p : Place} {after : Words} → SpellsLiteral On p (reserved_then reserved.On p after) after
  off_bit : {p : Place} {after : Words} → SpellsLiteral Off p (reserved_then reserved.Off p after) after

-- any number of: a point and a name
pub data SpellsFurther : List Naming → Words → Words → Type 0 where
  no_further : {after : Words} → SpellsFurther [] after after
  further : {n : List ℕ} {ns : List Naming} {p q : Place} {before after : Words} → SpellsFurther ns before after →
      SpellsFurther (naming q n ∷ ns) (symbol_then symbol.Point p (name_then n q before)) after

-- a name with no point and no subscript
pub data IsNameAlone : Reference → Type 0 where
  name_alone : {p : Place} {n : List ℕ} → IsNameAlone (Refers p n [] Unsubscripted)

mutual
  -- conjunctions with OR between them, or one alone
  pub data SpellsExpression : Expression → Words → Words → Type 0 where
    both : {t : Expression} {before after : Words} → SpellsBoth t before after → SpellsExpression t before after
    ors : {p : Place} {t u : Expression} {us : Expressions} {before middle after : Words} → At p before →
        SpellsBoth t before middle → SpellsOrs (MoreExpressions u us) middle after → SpellsExpression (Or p t (MoreExpressions u us)) before after

  -- any number of: OR and a conjunction
  pub data SpellsOrs : Expressions → Words → Words → Type 0 where
    no_or : {after : Words} → SpellsOrs NoExpressions after after
    or_more : {p : Place} {t : Expression} {ts : Expressions} {before middle after : Words} →
        SpellsBoth t before middle → SpellsOrs ts middle after → SpellsOrs (MoreExpressions t ts) (reserved_then reserved.Or p before) after

  -- comparisons with AND between them, or one alone
  pub data SpellsBoth : Expression → Words → Words → Type 0 where
    comparison : {t : Expression} {before after : Words} → SpellsComparison t before after → SpellsBoth t before after
    ands : {p : Place} {t u : Expression} {us : Expressions} {before middle after : Words} → At p before →
        SpellsComparison t before middle → SpellsAnds (MoreExpressions u us) middle after → SpellsBoth (And p t (MoreExpressions u us)) before after

  -- any number of: AND and a comparison
  pub data SpellsAnds : Expressions → Words → Words → Type 0 where
    no_and : {after : Words} → SpellsAnds NoExpressions after after
    and_more : {p : Place} {t : Expression} {ts : Expressions} {before middle after : Words} →
        SpellsComparison t before middle → SpellsAnds ts middle after → SpellsAnds (MoreExpressions t ts) (reserved_then reserved.And p before) after

  -- two chains of CAT with a relation between them, or one alone
  pub data SpellsComparison : Expression → Words → Words → Type 0 where
    cat : {t : Expression} {before after : Words} → SpellsCat t before after → SpellsComparison t before after
    compared : {p : Place} {t u : Expression} {r : Relation} {before left right after : Words} → At p before →
        SpellsCat t before left → SpellsRelation r left right → SpellsCat u right after → SpellsComparison (Compare p t r u) before after

  -- sums with CAT between them, or one alone
  pub data SpellsCat : Expression → Words → Words → Type 0 where
    sum : {t : Expression} {before after : Words} → SpellsSum t before after → SpellsCat t before after
    joined : {p : Place} {t u : Expression} {us : Expressions} {before middle after : Words} → At p before →
        SpellsSum t before middle → SpellsCats (MoreExpressions u us) middle after → SpellsCat (Cat p t (MoreExpressions u us)) before after

  -- any number of: CAT and a sum
  pub data SpellsCats : Expressions → Words → Words → Type 0 where
    no_cat : {after : Words} → SpellsCats NoExpressions after after
    cat_more : {p : Place} {t : Expression} {ts : Expressions} {before middle after : Words} →
        SpellsSum t before middle → SpellsCats ts middle after → SpellsCats (MoreExpressions t ts) (reserved_then reserved.Cat p before) after

  -- terms with a sign before each of them, but for the first one, which may have none; or one term alone
  pub data SpellsSum : Expression → Words → Words → Type 0 where
    term : {t : Expression} {before after : Words} → SpellsTerm t before after → SpellsSum t before after
    summed : {p q : Place} {s : Sign} {t u : Expression} {us : Terms} {before middle after : Words} → At p before →
        SpellsTerm t before middle → SpellsTerms (MoreTerms q s u us) middle after → SpellsSum (Sum p None t (MoreTerms q s u us)) before after
    signed : {p : Place} {s : Sign} {t : Expression} {us : Terms} {before left middle after : Words} → SpellsSign s p before left →
        SpellsTerm t left middle → SpellsTerms us middle after → SpellsSum (Sum p (Some s) t us) before after

  -- any number of: a sign and a term
  pub data SpellsTerms : Terms → Words → Words → Type 0 where
    no_terms : {after : Words} → SpellsTerms NoTerms after after
    more_terms : {p : Place} {s : Sign} {t : Expression} {ts : Terms} {before left middle after : Words} → SpellsSign s p before left →
        SpellsTerm t left middle → SpellsTerms ts middle after → SpellsTerms (MoreTerms p s t ts) before after

  -- factors one after another, or one alone
  pub data SpellsTerm : Expression → Words → Words → Type 0 where
    factor : {t : Expression} {before after : Words} → SpellsFactor t before after → SpellsTerm t before after
    multiplied : {p : Place} {t u : Expression} {us : Expressions} {before middle after : Words} → At p before →
        SpellsFactor t before middle → SpellsFactors (MoreExpressions u us) middle after → SpellsTerm (Product p t (MoreExpressions u us)) before after

  -- any number of factors, none of which begins with NOT
  pub data SpellsFactors : Expressions → Words → Words → Type 0 where
    no_factors : {after : Words} → SpellsFactors NoExpressions after after
    more_factors : {t : Expression} {ts : Expressions} {before middle after : Words} → ¬ BeginsReserved reserved.Not before →
        SpellsFactor t before middle → SpellsFactors ts middle after → SpellsFactors (MoreExpressions t ts) before after

  -- a primary to the power of a primary, or one alone
  pub data SpellsFactor : Expression → Words → Words → Type 0 where
    primary : {t : Expression} {before after : Words} → SpellsPrimary t before after → SpellsFactor t before after
    powered : {p q : Place} {t u : Expression} {before middle after : Words} → At p before →
        SpellsPrimary t before (symbol_then symbol.Power q middle) → SpellsPrimary u middle after → SpellsFactor (Power p t u) before after

  -- NOT, a literal, a decimal, a reference, the call form, a conversion, a parenthesis; a name alone that `(` follows begins the call form
  pub data SpellsPrimary : Expression → Words → Words → Type 0 where
    negated : {p : Place} {t : Expression} {before after : Words} → SpellsPrimary t before after → SpellsPrimary (Not p t) (reserved_then reserved.Not p before) after
    literal : {p : Place} {l : LiteralValue} {before after : Words} → SpellsLiteral l p before after → SpellsPrimary (Literal p l) before after
    thousandths : {p : Place} {n : ℕ} {after : Words} → SpellsPrimary (Decimal p n) (token (word.Decimal n) p ∷ after) after
    referred : {p : Place} {n : List ℕ} {r : Reference} {before after : Words} → SpellsReference r (name_then n p before) after →
        (IsNameAlone r → ¬ BeginsSymbol symbol.LeftParenthesis after) → SpellsPrimary (Referred r) (name_then n p before) after
    called : {p q r : Place} {n : List ℕ} {ts : Expressions} {before after : Words} → SpellsExpressions ts before (symbol_then symbol.RightParenthesis r after) →
        SpellsPrimary (Called p n ts) (name_then n p (symbol_then symbol.LeftParenthesis q before)) after
    to_integer : {p q r : Place} {t : Expression} {before after : Words} → SpellsExpression t before (symbol_then symbol.RightParenthesis r after) →
        SpellsPrimary (Convert p ToInteger t) (reserved_then reserved.Integer p (symbol_then symbol.LeftParenthesis q before)) after
    to_bits : {p q r : Place} {t : Expression} {before after : Words} → SpellsExpression t before (symbol_then symbol.RightParenthesis r after) →
        SpellsPrimary (Convert p ToBits t) (reserved_then reserved.Bit p (symbol_then symbol.LeftParenthesis q before)) after
    to_text : {p q r : Place} {t : Expression} {before after : Words} → SpellsExpression t before (symbol_then symbol.RightParenthesis r after) →
        SpellsPrimary (Convert p ToText t) (reserved_then reserved.Character p (symbol_then symbol.LeftParenthesis q before)) after
    enclosed : {p r : Place} {t : Expression} {before after : Words} → SpellsExpression t before (symbol_then symbol.RightParenthesis r after) →
        SpellsPrimary (Parenthesis p t) (symbol_then symbol.LeftParenthesis p before) after

  -- one expression or more, parted by commas
  pub data SpellsExpressions : Expressions → Words → Words → Type 0 where
    last_expression : {t : Expression} {before after : Words} → SpellsExpression t before after → SpellsExpressions (MoreExpressions t NoExpressions) before after
    more_expressions : {p : Place} {t : Expression} {ts : Expressions} {before middle after : Words} →
        SpellsExpression t before (symbol_then symbol.Comma p middle) → SpellsExpressions ts middle after → SpellsExpressions (MoreExpressions t ts) before after

  -- a name, further names, and a subscript or none
  pub data SpellsReference : Reference → Words → Words → Type 0 where
    refers : {p : Place} {n : List ℕ} {ns : List Naming} {s : Subscript} {before middle after : Words} → SpellsFurther ns before middle →
        SpellsSubscript s middle after → SpellsReference (Refers p n ns s) (name_then n p before) after

  -- nothing, or `$` and a name, an integer, or a list in parentheses, which isn't empty
  pub data SpellsSubscript : Subscript → Words → Words → Type 0 where
    unsubscripted : {after : Words} → SpellsSubscript Unsubscripted after after
    by_name : {p q : Place} {n : List ℕ} {after : Words} → SpellsSubscript (ByName p (naming q n)) (symbol_then symbol.Dollar p (name_then n q after)) after
    by_integer : {p q : Place} {n : ℕ} {after : Words} → SpellsSubscript (ByInteger p q n) (symbol_then symbol.Dollar p (integer_then n q after)) after
    by_parts : {p q r : Place} {copies arrays components : Subscripts} {before after : Words} → ¬ BeginsSymbol symbol.RightParenthesis before →
        SpellsCopies copies arrays components before (symbol_then symbol.RightParenthesis r after) →
        SpellsSubscript (ByParts p copies arrays components) (symbol_then symbol.Dollar p (symbol_then symbol.LeftParenthesis q before)) after

  -- the three parts, up to the parenthesis: the first one ends with a semicolon, or is left out
  pub data SpellsCopies : Subscripts → Subscripts → Subscripts → Words → Words → Type 0 where
    copies_then : {p : Place} {copies arrays components : Subscripts} {before middle after : Words} → SpellsSubscripts copies before (symbol_then symbol.Semicolon p middle) →
        SpellsArrays arrays components middle after → SpellsCopies copies arrays components before after
    no_copies : {arrays components : Subscripts} {before after : Words} → SpellsArrays arrays components before after → SpellsCopies NoSubscripts arrays components before after

  -- the second and the third part: the second one ends with a colon, or is left out
  pub data SpellsArrays : Subscripts → Subscripts → Words → Words → Type 0 where
    arrays_then : {p : Place} {arrays components : Subscripts} {before middle after : Words} → SpellsSubscripts arrays before (symbol_then symbol.Colon p middle) →
        SpellsComponents components middle after → SpellsArrays arrays components before after
    no_arrays : {components : Subscripts} {before after : Words} → SpellsComponents components before after → SpellsArrays NoSubscripts components before after

  -- the third part, or none
  pub data SpellsComponents : Subscripts → Words → Words → Type 0 where
    components_then : {p : Place} {components : Subscripts} {before after : Words} → SpellsSubscripts components before (symbol_then symbol.RightParenthesis p after) →
        SpellsComponents components before (symbol_then symbol.RightParenthesis p after)
    no_components : {p : Place} {after : Words} → SpellsComponents NoSubscripts (symbol_then symbol.RightParenthesis p after) (symbol_then symbol.RightParenthesis p after)

  -- one subscript or more, parted by commas
  pub data SpellsSubscripts : Subscripts → Words → Words → Type 0 where
    last_subscript : {x : Sub} {before after : Words} → SpellsSub x before after → SpellsSubscripts (MoreSubscripts x NoSubscripts) before after
    more_subscripts : {p : Place} {x : Sub} {xs : Subscripts} {before middle after : Words} →
        SpellsSub x before (symbol_then symbol.Comma p middle) → SpellsSubscripts xs middle after → SpellsSubscripts (MoreSubscripts x xs) before after

  -- `*`, a place, a place TO a place, or a sum AT a place
  pub data SpellsSub : Sub → Words → Words → Type 0 where
    every_place : {p : Place} {after : Words} → SpellsSub (Every p) (symbol_then symbol.Star p after) after
    one_place : {x : Position} {before after : Words} → SpellsPosition x before after → SpellsSub (One x) before after
    range : {p : Place} {x y : Position} {before middle after : Words} → SpellsPosition x before (reserved_then reserved.To p middle) →
        SpellsPosition y middle after → SpellsSub (Range x y) before after
    portion : {p : Place} {t : Expression} {x : Position} {before middle after : Words} → SpellsSum t before (reserved_then reserved.At p middle) →
        SpellsPosition x middle after → SpellsSub (Portion t x) before after

  -- a sum, or `#` and any number of signed terms
  pub data SpellsPosition : Position → Words → Words → Type 0 where
    from_beginning : {t : Expression} {before after : Words} → SpellsSum t before after → SpellsPosition (FromBeginning t) before after
    from_end : {p : Place} {ts : Terms} {before after : Words} → SpellsTerms ts before after → SpellsPosition (FromEnd p ts) (symbol_then symbol.Number p before) after
