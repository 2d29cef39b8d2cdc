-- The dimensions in which subscripts choose one place, one after another.
use Rattle.std.specs.Prelude.{◌≡◌, List, [], ◌∷◌, ◌++◌, map, if◌then◌else◌}
use Rattle.std.proofs.Common.{refl}
use Rattle.hal_grammar.specs.Expressions.{Subscripts, NoSubscripts, MoreSubscripts, Sub, Every, Range, Portion, One as OnePlace}
use Rattle.hal_code.specs.declared.row.Dimension.{Dimension as Row}
use Rattle.hal_storage.proofs.elements.Repeated.{none_behind}
use Rattle.hal_meaning.specs.Variables.{Dimension}
use Rattle.hal_agreement.specs.PlacedExpressions.{single_dimensions}
use Rattle.hal_gen_expr.specs.Led.{is_single}
use Rattle.hal_gen_expr.specs.Numbering.{row_of}

pub none_single : (ds : List Dimension) → single_dimensions ds NoSubscripts ≡ []
none_single [] = refl
none_single (d ∷ ds) = refl

-- nothing is added where there are no subscripts
pub none_left : (rows : List Row) (ds : List Dimension) → rows ++ map row_of (single_dimensions ds NoSubscripts) ≡ rows
none_left rows [] = none_behind rows
none_left rows (d ∷ ds) = none_behind rows

pub next_single : (d : Dimension) (ds : List Dimension) (first : Sub) (others : Subscripts)
    → single_dimensions (d ∷ ds) (MoreSubscripts first others) ≡ (if is_single first then d ∷ single_dimensions ds others else single_dimensions ds others)
next_single d ds (OnePlace one) others = refl
next_single d ds (Every there) others = refl
next_single d ds (Range first last) others = refl
next_single d ds (Portion count first) others = refl
