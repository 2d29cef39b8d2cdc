-- Places that a subscript chooses, for the checks and for code.
use Rattle.std.specs.Prelude.{◌≡◌, ◌≤◌, ◌<◌, ◌+◌, ℕ, List, [], ◌∷◌, unwrap_or}
use Rattle.hal_grammar.specs.Expressions.{Subscript, ByParts, Subscripts, NoSubscripts, MoreSubscripts, Sub, One as OnePlace}
use Rattle.hal_phrases.specs.Phrases.{Phrase}
use Rattle.hal_constants.specs.Known.{Known}
use Rattle.hal_shapes.specs.declared.reach.Reach.TheVariants as reach
use Rattle.hal_shapes.specs.Reaches.{reach_of}
use Rattle.hal_agreement.specs.Sites.{Site}
use Rattle.hal_gen_expr.specs.Led.{array_list}
use Rattle.hal_gen_expr.specs.Spans.{places_skipped}

-- several places of a dimension, behind those that code skips
pub record IsReached (ps : List Phrase) (vs : Known) (q : Phrase) (site : Site) (n : ℕ) (sub : Sub) : Type 0 where
  pub left : ℕ
  pub reach : reach_of ps vs q n sub ≡ reach.Many left
  pub some : 0 < left
  pub low : unwrap_or (places_skipped site n sub) 0 + left ≤ n

-- subscripts of dimensions that choose several places are so
abbrev pub AreReached : List Phrase → Known → Phrase → Site → List ℕ → Subscripts → Type 0
AreReached ps vs q site [] xs = Unit {0}
AreReached ps vs q site (n ∷ ns) NoSubscripts = Unit {0}
AreReached ps vs q site (n ∷ ns) (MoreSubscripts (OnePlace one) xs) = Unit {0} × AreReached ps vs q site ns xs
AreReached ps vs q site (n ∷ ns) (MoreSubscripts sub xs) = IsReached ps vs q site n sub × AreReached ps vs q site ns xs

-- so are those of an array
abbrev pub ChoiceReached : List Phrase → Known → Phrase → Site → List ℕ → Subscript → Type 0
ChoiceReached ps vs q site ns (ByParts there copies arrays components) = AreReached ps vs q site ns (array_list arrays components)
ChoiceReached ps vs q site ns other = Unit {0}
