-- Small statements, which fit or don't.
use Rattle.std.specs.Prelude.{ℕ, Bool, true, false, [], ◌∷◌, None}
use Rattle.std.proofs.Common.{refl}
use Rattle.hal_base.specs.declared.refusal.Place.{Place}
use Rattle.hal_grammar.specs.Leaves.{LiteralValue, Integer, Text, True}
use Rattle.hal_grammar.specs.Expressions.{Expression, Literal, NoExpressions}
use Rattle.hal_grammar.specs.Statements.{While, Statement, Labelled, Basic, Null, If, DoLoop, Exit, Write, Update, SendError, NoAlternative, Otherwise, Groups, NoStatements, MoreStatements}
use Rattle.hal_code.specs.declared.image.ImageParts.{ImageParts}
use Rattle.hal_agreement.specs.Sites.{Site}
use Rattle.hal_fitting.specs.Fitting.{Ground}
use Rattle.hal_fit_expr.specs.Uses.{Uses}
use Rattle.hal_fit.specs.Stating.{StatementFits}

module _ (image : ImageParts) (g : Ground) (u : Bool → Uses) (site : Site) (m : ℕ) (o : Place) where
  abbrev plain : Basic → Statement
  plain basic = Labelled [] basic

  abbrev whole : LiteralValue → Expression
  whole literal = Literal o literal

  -- IF TRUE THEN; ELSE SEND ERROR 1:2; DO WHILE TRUE; EXIT; END; and an empty UPDATE block
  chosen : StatementFits image g u false site m (plain (If o (whole True) (plain (Null o)) (Otherwise (plain (SendError o o 1 o 2)))))
  chosen = (refl, tt, refl)

  repeated : StatementFits image g u true site m (plain (DoLoop o (While o (whole True)) (Groups (MoreStatements (plain (Exit o None)) NoStatements) None)))
  repeated = (refl, (tt, tt))

  updated : StatementFits image g u false site m (plain (Update o NoStatements None))
  updated = (refl, tt)

  -- IF 1, DO WHILE 'A', SEND ERROR 0:1, WRITE in an UPDATE block, and an UPDATE block in another one
  integer_chosen : StatementFits image g u false site m (plain (If o (whole (Integer 1)) (plain (Null o)) NoAlternative)) → ⊥
  integer_chosen fits = let no_bits = fits.0 in absurd (cc)

  text_repeated : StatementFits image g u false site m (plain (DoLoop o (While o (whole (Text (65 ∷ [])))) (Groups NoStatements None))) → ⊥
  text_repeated fits = let no_bits = fits.0 in absurd (cc)

  no_group_sent : StatementFits image g u false site m (plain (SendError o o 0 o 1)) → ⊥
  no_group_sent fits = absurd (cc)

  written_inside : StatementFits image g u true site m (plain (Write o (whole (Integer 6)) NoExpressions)) → ⊥
  written_inside fits = let no_so = fits.0 in absurd (cc)

  updated_inside : StatementFits image g u true site m (plain (Update o NoStatements None)) → ⊥
  updated_inside fits = let no_so = fits.0 in absurd (cc)
