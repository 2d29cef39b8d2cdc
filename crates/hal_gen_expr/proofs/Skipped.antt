-- Elements that are skipped, as the program counts them: up to a limit.
use Rattle.std.specs.Prelude.{◌≡◌, ℕ, ◌+◌, ◌*◌, min, Option, Some, None, List, [], ◌∷◌}
use Rattle.std.proofs.Common.{refl, sym, ap, ◌∙◌, arith}
use Rattle.hal_grammar.specs.Expressions.{Subscripts, NoSubscripts, MoreSubscripts, Sub}
use Rattle.hal_storage.proofs.elements.Capped.{capped}
use Rattle.hal_code.specs.declared.row.Dimension.{Dimension as Row}
use Rattle.hal_meaning.specs.Elements.{chosen, offset}
use Rattle.hal_meaning.specs.Variables.{Dimension, dimension, kind_of_first}
use Rattle.hal_agreement.specs.Sites.{Site}
use Rattle.hal_gen_expr.specs.declared.aims.Aim.{Aim}
use Rattle.hal_gen_expr.specs.declared.aims.Aim.TheVariants as aims
use Rattle.hal_gen_expr.specs.Elements.{counted}
use Rattle.hal_gen_expr.specs.Leaves.{address_of, area_of}
use Rattle.hal_gen_expr.specs.Led.{Led, first_led, moved, addressed_from, addressed}
use Rattle.hal_gen_expr.specs.Numbering.{Numbering}
use Rattle.hal_gen_expr.specs.Spans.{elements_behind, places_skipped, elements_skipped, skips}
use Rattle.hal_gen_expr.proofs.Capped.{address_capped, area_capped}

behind_capped : (p : ℕ) (o : Option ℕ) → min (elements_behind (min p counted) o) counted ≡ min (elements_behind p o) counted
behind_capped p None = refl
behind_capped p (Some n) = capped n p counted

pub more_capped : (m n : ℕ) → min (min m counted + min n counted) counted ≡ min (m + n) counted
more_capped m n = omega arith

with_none : (m : ℕ) → m + 0 ≡ m
with_none m = omega arith

none_skipped : (site : Site) (list : Subscripts) → skips site list [] ≡ 0
none_skipped site NoSubscripts = refl
none_skipped site (MoreSubscripts first others) = refl

-- of one dimension
alone_skipped : (site : Site) (first : Sub) (others : Subscripts) (d : Dimension) → skips site (MoreSubscripts first others) (d ∷ []) ≡ elements_skipped site d first
alone_skipped site first others d = ap (λ m. elements_skipped site d first + m) (none_skipped site others) ∙ with_none (elements_skipped site d first)

pub copies_capped : (site : Site) (first : Sub) (others : Subscripts) (size p : ℕ)
    → min (elements_behind (min p counted) (places_skipped site size first)) counted ≡ min (skips site (MoreSubscripts first others) (dimension size p ∷ [])) counted
copies_capped site first others size p =
    behind_capped p (places_skipped site size first) ∙ ap (λ m. min m counted) (sym (alone_skipped site first others (dimension size p)))

-- of one dimension before others
pub next_capped : (site : Site) (first : Sub) (others : Subscripts) (size p : ℕ) (ds : List Dimension)
    → min (min (elements_behind (min p counted) (places_skipped site size first)) counted + min (skips site others ds) counted) counted ≡ min (skips site (MoreSubscripts first others) (dimension size p ∷ ds)) counted
next_capped site first others size p ds =
    ap (λ m. min (m + min (skips site others ds) counted) counted) (behind_capped p (places_skipped site size first))
    ∙ more_capped (elements_behind p (places_skipped site size first)) (skips site others ds)

-- the first element that is chosen, as far as elements are counted, has the address of the one that lies there
pub address_from : (n : Numbering) (site : Site) (aim : Aim) (rows : List Row) (skipped : ℕ) (l : Led)
    → addressed_from n site aim rows (moved (min skipped counted) (first_led l)) l ≡ addressed n site aim rows skipped l
address_from n site aims.Cell rows skipped l =
    ap (λ m. address_of n site rows l.declared l.stored m (kind_of_first (chosen l.path l.shape.components))) (more_capped skipped (offset l.path l.shape.components))
    ∙ address_capped n site rows l.declared l.stored (skipped + offset l.path l.shape.components) (kind_of_first (chosen l.path l.shape.components))
address_from n site (aims.Shape shape) rows skipped l =
    ap (λ m. area_of n site rows shape l.declared l.stored m) (more_capped skipped (offset l.path l.shape.components)) ∙ area_capped n site rows shape l.declared l.stored (skipped + offset l.path l.shape.components)
