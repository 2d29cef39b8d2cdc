-- What the checks know of a constant expression is what it is known to be worth where it is compiled.
use Rattle.std.specs.Prelude.{◌≡◌, ℕ, nat_le, length, ℤ, pos, Bool, true, false, ◌&&◌, List, [], ◌∷◌, Option, Some, None, Result, Ok, Err, slice_get, if◌then◌else◌}
use Rattle.std.specs.Option.{option_and_then, is_some}
use Rattle.std.specs.Result.{result_ok}
use Rattle.std.proofs.Common.{refl, sym, ap, subst, ◌∙◌}
use Rattle.hal_grammar.specs.Leaves.{Naming, Sign, Plus, Minus, LiteralValue, Integer, Text, Bits, True, False, On, Off, ToInteger, ToBits, ToText}
use Rattle.hal_grammar.specs.Expressions.{Expression, Or, And, Compare, Cat, Sum, Product, Power, Not, Literal, Decimal, Referred, Called, Convert, Parenthesis, Expressions, NoExpressions, MoreExpressions, Terms, NoTerms, MoreTerms, Reference, Refers, Subscript, Unsubscripted, ByName, ByInteger, ByParts, Subscripts, NoSubscripts, MoreSubscripts, Sub, Every, Range, Portion, One as OnePlace, Position, FromBeginning, FromEnd}
use Rattle.hal_phrases.specs.Phrases.{Node, Phrase, OfItem, OfTemporaryGroup, OfTemplate, OfUnit}
use Rattle.hal_names.specs.Means.{means}
use Rattle.hal_scope.specs.declared.builtin.Builtin.{Builtin}
use Rattle.hal_scope.specs.Builtins.{builtin_named}
use Rattle.hal_scope.specs.Uses.{is_nil}
use Rattle.hal_kinds.specs.Attributes.{no_more}
use Rattle.hal_values.specs.declared.environment.ErrNo.{ErrNo}
use Rattle.hal_values.specs.declared.value.Value.{Value}
use Rattle.hal_values.specs.declared.value.Value.TheVariants as value
use Rattle.hal_operations.specs.declared.operation.Op1.{Op1}
use Rattle.hal_operations.specs.declared.operation.Op1.TheVariants as op1
use Rattle.hal_operations.specs.declared.operation.Op2.{Op2}
use Rattle.hal_operations.specs.declared.operation.Op2.TheVariants as op2
use Rattle.hal_operations.specs.declared.part.Part.{Part}
use Rattle.hal_operations.specs.declared.part.Part.TheVariants as part
use Rattle.hal_operations.specs.Parts.{picked, place_count}
use Rattle.hal_operations.specs.Values.{value_of_one, value_of_two}
use Rattle.hal_constants.specs.declared.constant.Constant.{Constant}
use Rattle.hal_constants.specs.declared.constant.Constant.TheVariants as constant
use Rattle.hal_constants.specs.declared.operation.Operation.{Operation}
use Rattle.hal_constants.specs.declared.operation.Operation.TheVariants as operation
use Rattle.hal_constants.specs.Constants.{operation_of_sign, signed, operation_of_conversion, raised_to, raised, is_none, factor_at, called_at, constant_of, folded, summed, computed, computed_second, multiplied, referred, subscripted, component_of, component_by, place_of}
use Rattle.hal_constants.specs.Known.{Known}
use Rattle.hal_constants.specs.Naming.{constant_at, constant_named, undeclared, literal_text, literal_constant, operation_of, operation_named}
use Rattle.hal_constants.specs.Operands.{takes_one, takes_two, has_components}
use Rattle.hal_constants.specs.Results.{worth, worse, apply_one, apply_two, whole, component, component_at, component_to, component_from, picked_one, picked_to, picked_from}
use Rattle.hal_meaning.specs.Bodies.{standing_for}
use Rattle.hal_storage.specs.referents.Referents.{Referent, ConstantOf, BuiltinOf, Unmeant, declaration_referent, builtin_referent}
use Rattle.hal_agreement.specs.Sites.{Site}
use Rattle.hal_gen_expr.specs.Referents.{referent}
use Rattle.hal_gen_expr.specs.Constants as known
use Rattle.hal_fit_constants.specs.Names.{NamesAgree}

-- where one has a value, the other has it
abbrev Gives : Constant → Option Value → Type 0
Gives c o = (v : Value) → c ≡ constant.Worth v → o ≡ Some v

never_worth : (c d : Constant) (v : Value) → worse c d ≡ constant.Worth v → ⊥
unfolding worse
never_worth (constant.Worth w) (constant.Worth x) v is = absurd (cc)
never_worth (constant.Worth w) constant.Failed v is = absurd (cc)
never_worth (constant.Worth w) constant.Open v is = absurd (cc)
never_worth (constant.Worth w) constant.Unfit v is = absurd (cc)
never_worth constant.Failed (constant.Worth x) v is = absurd (cc)
never_worth constant.Failed constant.Failed v is = absurd (cc)
never_worth constant.Failed constant.Open v is = absurd (cc)
never_worth constant.Failed constant.Unfit v is = absurd (cc)
never_worth constant.Open (constant.Worth x) v is = absurd (cc)
never_worth constant.Open constant.Failed v is = absurd (cc)
never_worth constant.Open constant.Open v is = absurd (cc)
never_worth constant.Open constant.Unfit v is = absurd (cc)
never_worth constant.Unfit (constant.Worth x) v is = absurd (cc)
never_worth constant.Unfit constant.Failed v is = absurd (cc)
never_worth constant.Unfit constant.Open v is = absurd (cc)
never_worth constant.Unfit constant.Unfit v is = absurd (cc)

taken : (takes : Bool) (r : Result Value ErrNo) (v : Value) → (if takes then worth r else constant.Unfit) ≡ constant.Worth v → (if takes then result_ok r else None) ≡ Some v
unfolding worth
taken true (Ok w) v is = let same : w ≡ v = cc in ap Some same
taken true (Err e) v is = absurd (cc)
taken false r v is = absurd (cc)

one_gives : (op : Op1) (c : Constant) (o : Option Value) → Gives c o → Gives (apply_one op c) (known.apply_one op o)
unfolding apply_one
one_gives op (constant.Worth w) o gives v is = ap (known.apply_one op) (gives w refl) ∙ taken (takes_one op w) (value_of_one op w) v is
one_gives op constant.Failed o gives v is = absurd (cc)
one_gives op constant.Open o gives v is = absurd (cc)
one_gives op constant.Unfit o gives v is = absurd (cc)

two_gives : (op : Op2) (c d : Constant) (o q : Option Value) → Gives c o → Gives d q → Gives (apply_two op c d) (known.apply_two op o q)
unfolding apply_two
two_gives op (constant.Worth w) (constant.Worth x) o q first second v is =
    ap (λ a. known.apply_two op a q) (first w refl) ∙ (ap (λ b. known.apply_two op (Some w) b) (second x refl) ∙ taken (takes_two op w x) (value_of_two op w x) v is)
two_gives op (constant.Worth w) constant.Failed o q first second v is = absurd (never_worth (constant.Worth w) constant.Failed v is)
two_gives op (constant.Worth w) constant.Open o q first second v is = absurd (never_worth (constant.Worth w) constant.Open v is)
two_gives op (constant.Worth w) constant.Unfit o q first second v is = absurd (never_worth (constant.Worth w) constant.Unfit v is)
two_gives op constant.Failed (constant.Worth x) o q first second v is = absurd (never_worth constant.Failed (constant.Worth x) v is)
two_gives op constant.Failed constant.Failed o q first second v is = absurd (never_worth constant.Failed constant.Failed v is)
two_gives op constant.Failed constant.Open o q first second v is = absurd (never_worth constant.Failed constant.Open v is)
two_gives op constant.Failed constant.Unfit o q first second v is = absurd (never_worth constant.Failed constant.Unfit v is)
two_gives op constant.Open (constant.Worth x) o q first second v is = absurd (never_worth constant.Open (constant.Worth x) v is)
two_gives op constant.Open constant.Failed o q first second v is = absurd (never_worth constant.Open constant.Failed v is)
two_gives op constant.Open constant.Open o q first second v is = absurd (never_worth constant.Open constant.Open v is)
two_gives op constant.Open constant.Unfit o q first second v is = absurd (never_worth constant.Open constant.Unfit v is)
two_gives op constant.Unfit (constant.Worth x) o q first second v is = absurd (never_worth constant.Unfit (constant.Worth x) v is)
two_gives op constant.Unfit constant.Failed o q first second v is = absurd (never_worth constant.Unfit constant.Failed v is)
two_gives op constant.Unfit constant.Open o q first second v is = absurd (never_worth constant.Unfit constant.Open v is)
two_gives op constant.Unfit constant.Unfit o q first second v is = absurd (never_worth constant.Unfit constant.Unfit v is)

sign_gives : (sign : Option Sign) (c : Constant) (o : Option Value) → Gives c o → Gives (signed sign c) (known.signed sign o)
unfolding signed
sign_gives None c o gives = gives
sign_gives (Some Plus) c o gives = gives
sign_gives (Some Minus) c o gives = one_gives op1.Minus c o gives

whole_by : (b : Bool) (n : ℕ) → Gives (if b then constant.Worth (value.Int (pos n)) else constant.Failed) (if b then Some (value.Int (pos n)) else None)
whole_by true n v is = let same : value.Int (pos n) ≡ v = cc in ap Some same
whole_by false n v is = absurd (cc)

whole_gives : (n : ℕ) → Gives (whole n) (known.whole n)
whole_gives n = whole_by (nat_le n 2147483647) n

text_by : (b : Bool) (text : List ℕ) → Gives (if b then constant.Worth (value.Text text) else constant.Failed) (if b then Some (value.Text text) else None)
text_by true text v is = let same : value.Text text ≡ v = cc in ap Some same
text_by false text v is = absurd (cc)

worth_gives : (w : Value) → Gives (constant.Worth w) (Some w)
worth_gives w v is = let same : w ≡ v = cc in ap Some same

literal_gives : (literal : LiteralValue) → Gives (literal_constant literal) (known.literal_of literal)
unfolding literal_constant
literal_gives (Integer n) = whole_gives n
literal_gives (Text text) = text_by (nat_le (length text) 255) text
literal_gives (Bits len bits) = worth_gives (value.Bits len bits)
literal_gives True = worth_gives (value.Bits 1 1)
literal_gives On = worth_gives (value.Bits 1 1)
literal_gives False = worth_gives (value.Bits 1 0)
literal_gives Off = worth_gives (value.Bits 1 0)

-- a power
raised_literal : (literal : LiteralValue) (c : Constant) (o : Option Value) → Gives c o → Gives (raised_to c literal) (known.apply_two op2.Power o (known.exponent_in literal))
unfolding raised_to
raised_literal (Integer n) c o gives v is = two_gives op2.Power c (whole n) o (known.whole n) gives (whole_gives n) v is
raised_literal (Text text) c o gives v is = absurd (cc)
raised_literal (Bits len bits) c o gives v is = absurd (cc)
raised_literal True c o gives v is = absurd (cc)
raised_literal False c o gives v is = absurd (cc)
raised_literal On c o gives v is = absurd (cc)
raised_literal Off c o gives v is = absurd (cc)

raised_gives : (tree : Expression) (c : Constant) (o : Option Value) → Gives c o → Gives (raised c tree) (known.apply_two op2.Power o (known.exponent tree))
unfolding raised
raised_gives (Literal place literal) c o gives v is = raised_literal literal c o gives v is
raised_gives (Or place first others) c o gives v is = absurd (cc)
raised_gives (And place first others) c o gives v is = absurd (cc)
raised_gives (Compare place left relation right) c o gives v is = absurd (cc)
raised_gives (Cat place first others) c o gives v is = absurd (cc)
raised_gives (Sum place opening first others) c o gives v is = absurd (cc)
raised_gives (Product place first others) c o gives v is = absurd (cc)
raised_gives (Power place base exponent) c o gives v is = absurd (cc)
raised_gives (Not place operand) c o gives v is = absurd (cc)
raised_gives (Decimal place number) c o gives v is = absurd (cc)
raised_gives (Referred reference) c o gives v is = absurd (cc)
raised_gives (Called place name arguments) c o gives v is = absurd (cc)
raised_gives (Convert place conversion operand) c o gives v is = absurd (cc)
raised_gives (Parenthesis place inner) c o gives v is = absurd (cc)

-- components of a value
part_by : (b : Bool) (r : Result Value ErrNo) → Gives (if b then worth r else constant.Unfit) (if b then result_ok r else None)
part_by b r v is = taken b r v is

part_gives : (w : Value) (one : Part) → Gives (component w one) (known.part_of w (Some one))
part_gives w one = part_by (has_components w) (picked w one)

one_at : (w i : Value) → Gives (component_at w i) (known.part_of w (known.one_place (known.value_integer i)))
unfolding component_at
one_at w (value.Int i) v is = part_gives w (part.One i) v is
one_at w (value.Bits len word) v is = absurd (cc)
one_at w (value.Text text) v is = absurd (cc)

one_picked : (w : Value) (c : Constant) (o : Option Value) → Gives c o → Gives (picked_one w c) (known.part_of w (known.one_place (known.integer_in o)))
unfolding picked_one
one_picked w (constant.Worth i) o gives v is = ap (λ a. known.part_of w (known.one_place (known.integer_in a))) (gives i refl) ∙ one_at w i v is
one_picked w constant.Failed o gives v is = absurd (cc)
one_picked w constant.Open o gives v is = absurd (cc)
one_picked w constant.Unfit o gives v is = absurd (cc)

to_at : (w i j : Value) → Gives (component_to w i j) (known.part_of w (known.places_to (known.value_integer i) (known.value_integer j)))
unfolding component_to
to_at w (value.Int i) (value.Int j) v is = part_gives w (part.To i j) v is
to_at w (value.Int i) (value.Bits jl jw) v is = absurd (cc)
to_at w (value.Int i) (value.Text jt) v is = absurd (cc)
to_at w (value.Bits il iw) (value.Int j) v is = absurd (cc)
to_at w (value.Bits il iw) (value.Bits jl jw) v is = absurd (cc)
to_at w (value.Bits il iw) (value.Text jt) v is = absurd (cc)
to_at w (value.Text it) (value.Int j) v is = absurd (cc)
to_at w (value.Text it) (value.Bits jl jw) v is = absurd (cc)
to_at w (value.Text it) (value.Text jt) v is = absurd (cc)

to_picked : (w : Value) (c d : Constant) (o q : Option Value) → Gives c o → Gives d q → Gives (picked_to w c d) (known.part_of w (known.places_to (known.integer_in o) (known.integer_in q)))
unfolding picked_to
to_picked w (constant.Worth i) (constant.Worth j) o q first second v is =
    ap (λ a. known.part_of w (known.places_to (known.integer_in a) (known.integer_in q))) (first i refl)
    ∙ (ap (λ b. known.part_of w (known.places_to (known.value_integer i) (known.integer_in b))) (second j refl) ∙ to_at w i j v is)
to_picked y (constant.Worth w) constant.Failed o q first second v is = absurd (never_worth (constant.Worth w) constant.Failed v is)
to_picked y (constant.Worth w) constant.Open o q first second v is = absurd (never_worth (constant.Worth w) constant.Open v is)
to_picked y (constant.Worth w) constant.Unfit o q first second v is = absurd (never_worth (constant.Worth w) constant.Unfit v is)
to_picked y constant.Failed (constant.Worth x) o q first second v is = absurd (never_worth constant.Failed (constant.Worth x) v is)
to_picked y constant.Failed constant.Failed o q first second v is = absurd (never_worth constant.Failed constant.Failed v is)
to_picked y constant.Failed constant.Open o q first second v is = absurd (never_worth constant.Failed constant.Open v is)
to_picked y constant.Failed constant.Unfit o q first second v is = absurd (never_worth constant.Failed constant.Unfit v is)
to_picked y constant.Open (constant.Worth x) o q first second v is = absurd (never_worth constant.Open (constant.Worth x) v is)
to_picked y constant.Open constant.Failed o q first second v is = absurd (never_worth constant.Open constant.Failed v is)
to_picked y constant.Open constant.Open o q first second v is = absurd (never_worth constant.Open constant.Open v is)
to_picked y constant.Open constant.Unfit o q first second v is = absurd (never_worth constant.Open constant.Unfit v is)
to_picked y constant.Unfit (constant.Worth x) o q first second v is = absurd (never_worth constant.Unfit (constant.Worth x) v is)
to_picked y constant.Unfit constant.Failed o q first second v is = absurd (never_worth constant.Unfit constant.Failed v is)
to_picked y constant.Unfit constant.Open o q first second v is = absurd (never_worth constant.Unfit constant.Open v is)
to_picked y constant.Unfit constant.Unfit o q first second v is = absurd (never_worth constant.Unfit constant.Unfit v is)

from_at : (w n i : Value) → Gives (component_from w n i) (known.part_of w (known.places_at (known.value_integer n) (known.value_integer i)))
unfolding component_from
from_at w (value.Int n) (value.Int i) v is = part_gives w (part.At n i) v is
from_at w (value.Int n) (value.Bits il iw) v is = absurd (cc)
from_at w (value.Int n) (value.Text it) v is = absurd (cc)
from_at w (value.Bits nl nw) (value.Int i) v is = absurd (cc)
from_at w (value.Bits nl nw) (value.Bits il iw) v is = absurd (cc)
from_at w (value.Bits nl nw) (value.Text it) v is = absurd (cc)
from_at w (value.Text nt) (value.Int i) v is = absurd (cc)
from_at w (value.Text nt) (value.Bits il iw) v is = absurd (cc)
from_at w (value.Text nt) (value.Text it) v is = absurd (cc)

from_picked : (w : Value) (c d : Constant) (o q : Option Value) → Gives c o → Gives d q → Gives (picked_from w c d) (known.part_of w (known.places_at (known.integer_in o) (known.integer_in q)))
unfolding picked_from
from_picked w (constant.Worth n) (constant.Worth i) o q first second v is =
    ap (λ a. known.part_of w (known.places_at (known.integer_in a) (known.integer_in q))) (first n refl)
    ∙ (ap (λ b. known.part_of w (known.places_at (known.value_integer n) (known.integer_in b))) (second i refl) ∙ from_at w n i v is)
from_picked y (constant.Worth w) constant.Failed o q first second v is = absurd (never_worth (constant.Worth w) constant.Failed v is)
from_picked y (constant.Worth w) constant.Open o q first second v is = absurd (never_worth (constant.Worth w) constant.Open v is)
from_picked y (constant.Worth w) constant.Unfit o q first second v is = absurd (never_worth (constant.Worth w) constant.Unfit v is)
from_picked y constant.Failed (constant.Worth x) o q first second v is = absurd (never_worth constant.Failed (constant.Worth x) v is)
from_picked y constant.Failed constant.Failed o q first second v is = absurd (never_worth constant.Failed constant.Failed v is)
from_picked y constant.Failed constant.Open o q first second v is = absurd (never_worth constant.Failed constant.Open v is)
from_picked y constant.Failed constant.Unfit o q first second v is = absurd (never_worth constant.Failed constant.Unfit v is)
from_picked y constant.Open (constant.Worth x) o q first second v is = absurd (never_worth constant.Open (constant.Worth x) v is)
from_picked y constant.Open constant.Failed o q first second v is = absurd (never_worth constant.Open constant.Failed v is)
from_picked y constant.Open constant.Open o q first second v is = absurd (never_worth constant.Open constant.Open v is)
from_picked y constant.Open constant.Unfit o q first second v is = absurd (never_worth constant.Open constant.Unfit v is)
from_picked y constant.Unfit (constant.Worth x) o q first second v is = absurd (never_worth constant.Unfit (constant.Worth x) v is)
from_picked y constant.Unfit constant.Failed o q first second v is = absurd (never_worth constant.Unfit constant.Failed v is)
from_picked y constant.Unfit constant.Open o q first second v is = absurd (never_worth constant.Unfit constant.Open v is)
from_picked y constant.Unfit constant.Unfit o q first second v is = absurd (never_worth constant.Unfit constant.Unfit v is)

if_gives : (b : Bool) (c : Constant) (o : Option Value) → Gives c o → Gives (if b then c else constant.Unfit) o
if_gives true c o gives v is = gives v is
if_gives false c o gives v is = absurd (cc)

if_both : (b : Bool) (c : Constant) (o : Option Value) → Gives c o → Gives (if b then c else constant.Unfit) (if b then o else None)
if_both true c o gives v is = gives v is
if_both false c o gives v is = absurd (cc)

count_by : (b : Bool) (n : ℕ) → Gives (if b then constant.Worth (value.Int (pos n)) else constant.Failed) (Some (value.Int (pos n)))
count_by true n v is = let same : value.Int (pos n) ≡ v = cc in ap Some same
count_by false n v is = absurd (cc)

-- an operation whose first operand has no value has none
two_never : (c d : Constant) (v : Value) → ((w : Value) → c ≡ constant.Worth w → ⊥) → apply_two op2.Product c d ≡ constant.Worth v → ⊥
unfolding apply_two
two_never (constant.Worth w) d v none is = none w refl
two_never constant.Failed d v none is = never_worth constant.Failed d v is
two_never constant.Open d v none is = never_worth constant.Open d v is
two_never constant.Unfit d v none is = never_worth constant.Unfit d v is

-- a name that isn't declared refers to a built-in function
builtin_there : (site : Site) (p : Phrase) → p.around.block ≡ site.block → (name : List ℕ) → means site.set.phrases p.around.block name ≡ None → referent site name ≡ builtin_referent name
builtin_there site p here name none =
    let stands : Option ℕ → Option ℕ = (λ o. elim o [ None ↦ None | Some k ↦ Some (standing_for site.set.phrases k) ]) in
    let refers : Option ℕ → Referent = (λ o. elim o [ None ↦ builtin_referent name | Some k ↦ declaration_referent site.set.phrases site.set.constants k ]) in
    ap (λ o. refers (stands o)) (ap (λ b. means site.set.phrases b name) (sym here) ∙ none)

-- a name by what it means
abbrev named_by : List Phrase → Known → Phrase → List ℕ → List Naming → Option ℕ → Constant
named_by ps vs p name path o = elim o [ None ↦ undeclared name | Some k ↦ elim (slice_get ps k) [ None ↦ constant.Unfit | Some q ↦ constant_at ps vs p q path q.node ] ]

-- a constant that is multiplied by a parenthesis is one without a path
factor_worth : (ps : List Phrase) (vs : Known) (p q : Phrase) (node : Node) (w : Value) → factor_at ps vs p q node ≡ constant.Worth w → constant_at ps vs p q [] node ≡ constant.Worth w
unfolding factor_at
factor_worth ps vs p q (OfItem common item) w is = is
factor_worth ps vs p q (OfTemporaryGroup labels variable) w is = absurd (cc)
factor_worth ps vs p q (OfTemplate name head declarations) w is = absurd (cc)
factor_worth ps vs p q (OfUnit name head declarations) w is = absurd (cc)
factor_worth ps vs p q other w is = absurd (cc)

called_by : (ps : List Phrase) (vs : Known) (p : Phrase) (o : Option Phrase) (w : Value) → elim o [ None ↦ constant.Unfit | Some q ↦ factor_at ps vs p q q.node ] ≡ constant.Worth w
    → elim o [ None ↦ constant.Unfit | Some q ↦ constant_at ps vs p q [] q.node ] ≡ constant.Worth w
called_by ps vs p None w is = absurd (cc)
called_by ps vs p (Some q) w is = factor_worth ps vs p q q.node w is

-- and one with a path is none
nested_item : (ps : List Phrase) (vs : Known) (p q : Phrase) (x : Naming) (path : List Naming) (node : Node) (w : Value) → constant_at ps vs p q (x ∷ path) node ≡ constant.Worth w → ⊥
unfolding constant_at is_nil
nested_item ps vs p q x path (OfItem common item) w is = absurd (cc)
nested_item ps vs p q x path other w is = absurd (cc)

undeclared_never : (b : Bool) (w : Value) → (if b then constant.Open else constant.Unfit) ≡ constant.Worth w → ⊥
undeclared_never true w is = absurd (cc)
undeclared_never false w is = absurd (cc)

nested_at : (ps : List Phrase) (vs : Known) (p : Phrase) (x : Naming) (path : List Naming) (o : Option Phrase) (w : Value)
    → elim o [ None ↦ constant.Unfit | Some q ↦ constant_at ps vs p q (x ∷ path) q.node ] ≡ constant.Worth w → ⊥
nested_at ps vs p x path None w is = absurd (cc)
nested_at ps vs p x path (Some q) w is = nested_item ps vs p q x path q.node w is

nested_by : (ps : List Phrase) (vs : Known) (p : Phrase) (name : List ℕ) (x : Naming) (path : List Naming) (o : Option ℕ) (w : Value)
    → elim o [ None ↦ undeclared name | Some k ↦ elim (slice_get ps k) [ None ↦ constant.Unfit | Some q ↦ constant_at ps vs p q (x ∷ path) q.node ] ] ≡ constant.Worth w → ⊥
nested_by ps vs p name x path None w is = undeclared_never (is_some (builtin_named name)) w is
nested_by ps vs p name x path (Some k) w is = nested_at ps vs p x path (slice_get ps k) w is

pathless : (ps : List Phrase) (vs : Known) (p : Phrase) (name : List ℕ) (path : List Naming) (w : Value) → constant_named ps vs p name path ≡ constant.Worth w → constant_named ps vs p name [] ≡ constant.Worth w
pathless ps vs p name [] w is = is
pathless ps vs p name (x ∷ path) w is = absurd (nested_by ps vs p name x path (means ps p.around.block name) w is)

module _ (site : Site) (vs : Known) (p : Phrase) (agree : NamesAgree site vs p) where
  -- a name
  name_gives : (name : List ℕ) → Gives (constant_named site.set.phrases vs p name []) (known.named site name)
  name_gives name v is = ap known.referent_value (agree.constants name v is)

  -- a name with a list
  builtin_gives : (arguments : Expressions) → ((op : Operation) → Gives (computed site.set.phrases vs p op arguments) (known.built site op arguments)) → (o : Option Builtin)
      → Gives (computed site.set.phrases vs p (elim o [ None ↦ operation.Nothing | Some b ↦ operation_of b ]) arguments)
      (known.called (λ v. known.folded site op2.Product v arguments) (λ op. known.built site op arguments) (elim o [ None ↦ Unmeant | Some b ↦ BuiltinOf b ]))
  unfolding computed
  builtin_gives arguments computes None v is = absurd (cc)
  builtin_gives arguments computes (Some b) v is = computes (operation_of b) v is

  called_gives : (name : List ℕ) (arguments : Expressions) → ((op : Operation) → Gives (computed site.set.phrases vs p op arguments) (known.built site op arguments))
      → ((c : Constant) (r : Referent) → ((w : Value) → c ≡ constant.Worth w → r ≡ ConstantOf w)
      → Gives (multiplied site.set.phrases vs p c arguments) (known.called (λ v. known.folded site op2.Product v arguments) (λ op. known.built site op arguments) r))
      → (o : Option ℕ) → means site.set.phrases p.around.block name ≡ o
      → Gives (elim o [ None ↦ computed site.set.phrases vs p (operation_named name) arguments | Some k ↦ multiplied site.set.phrases vs p (called_at site.set.phrases vs p k) arguments ])
      (known.called (λ v. known.folded site op2.Product v arguments) (λ op. known.built site op arguments) (referent site name))
  called_gives name arguments computes multiplies None none v is =
      ap (known.called (λ w. known.folded site op2.Product w arguments) (λ op. known.built site op arguments)) (builtin_there site p agree.here name none) ∙ builtin_gives arguments computes (builtin_named name) v is
  called_gives name arguments computes multiplies (Some k) there v is =
      multiplies (called_at site.set.phrases vs p k) (referent site name)
      (λ w worth_is. agree.constants name w
      (ap (λ (o : Option ℕ). named_by site.set.phrases vs p name [] o) there ∙ called_by site.set.phrases vs p (slice_get site.set.phrases k) w worth_is)) v is

  -- a value with a subscript
  chosen_gives : (name : List ℕ) (path : List Naming) (subscript : Subscript) → ((w : Value) → Gives (subscripted site.set.phrases vs p w subscript) (known.component site w subscript)) → (c : Constant)
      → constant_named site.set.phrases vs p name path ≡ c
      → Gives (elim c [ constant.Worth w ↦ subscripted site.set.phrases vs p w subscript | constant.Failed ↦ constant.Failed | constant.Open ↦ constant.Open | constant.Unfit ↦ constant.Unfit ])
      (option_and_then (λ w. known.component site w subscript) (known.named site name))
  chosen_gives name path subscript chooses (constant.Worth w) there v is =
      ap (option_and_then (λ x. known.component site x subscript)) (name_gives name w (pathless site.set.phrases vs p name path w there)) ∙ chooses w v is
  chosen_gives name path subscript chooses constant.Failed there v is = absurd (cc)
  chosen_gives name path subscript chooses constant.Open there v is = absurd (cc)
  chosen_gives name path subscript chooses constant.Unfit there v is = absurd (cc)

  mutual
    unfolding no_more constant_of folded summed computed computed_second multiplied referred subscripted component_of component_by place_of operation_of_sign operation_of_conversion

    pub value_gives : (tree : Expression) → Gives (constant_of site.set.phrases vs p tree) (known.value_of site tree)
    value_gives (Or place first others) v is = folded_gives others op2.Or (constant_of site.set.phrases vs p first) (known.value_of site first) (value_gives first) v is
    value_gives (And place first others) v is = folded_gives others op2.And (constant_of site.set.phrases vs p first) (known.value_of site first) (value_gives first) v is
    value_gives (Compare place left relation right) v is = absurd (cc)
    value_gives (Cat place first others) v is = folded_gives others op2.Cat (constant_of site.set.phrases vs p first) (known.value_of site first) (value_gives first) v is
    value_gives (Sum place opening first others) v is =
        summed_gives others (signed opening (constant_of site.set.phrases vs p first)) (known.signed opening (known.value_of site first))
        (sign_gives opening (constant_of site.set.phrases vs p first) (known.value_of site first) (value_gives first)) v is
    value_gives (Product place first others) v is = folded_gives others op2.Product (constant_of site.set.phrases vs p first) (known.value_of site first) (value_gives first) v is
    value_gives (Power place base exponent) v is = raised_gives exponent (constant_of site.set.phrases vs p base) (known.value_of site base) (value_gives base) v is
    value_gives (Not place operand) v is = one_gives op1.Not (constant_of site.set.phrases vs p operand) (known.value_of site operand) (value_gives operand) v is
    value_gives (Literal place literal) v is = literal_gives literal v is
    value_gives (Decimal place number) v is = absurd (cc)
    value_gives (Referred reference) v is = referred_gives reference v is
    value_gives (Called place name arguments) v is =
        called_gives name arguments (λ op. computed_gives arguments op) (λ c r refers. multiplied_gives arguments c r refers) (means site.set.phrases p.around.block name) refl v is
    value_gives (Convert place ToInteger operand) v is = one_gives op1.Integer (constant_of site.set.phrases vs p operand) (known.value_of site operand) (value_gives operand) v is
    value_gives (Convert place ToBits operand) v is = one_gives op1.Bit (constant_of site.set.phrases vs p operand) (known.value_of site operand) (value_gives operand) v is
    value_gives (Convert place ToText operand) v is = one_gives op1.Character (constant_of site.set.phrases vs p operand) (known.value_of site operand) (value_gives operand) v is
    value_gives (Parenthesis place inner) v is = value_gives inner v is

    folded_gives : (trees : Expressions) (op : Op2) (c : Constant) (o : Option Value) → Gives c o → Gives (folded site.set.phrases vs p op c trees) (known.folded site op o trees)
    folded_gives NoExpressions op c o gives = gives
    folded_gives (MoreExpressions first others) op c o gives =
        folded_gives others op (apply_two op c (constant_of site.set.phrases vs p first)) (known.apply_two op o (known.value_of site first))
        (two_gives op c (constant_of site.set.phrases vs p first) o (known.value_of site first) gives (value_gives first))

    summed_gives : (terms : Terms) (c : Constant) (o : Option Value) → Gives c o → Gives (summed site.set.phrases vs p c terms) (known.summed site o terms)
    summed_gives NoTerms c o gives = gives
    summed_gives (MoreTerms place Plus term others) c o gives =
        summed_gives others (apply_two op2.Plus c (constant_of site.set.phrases vs p term)) (known.apply_two op2.Plus o (known.value_of site term))
        (two_gives op2.Plus c (constant_of site.set.phrases vs p term) o (known.value_of site term) gives (value_gives term))
    summed_gives (MoreTerms place Minus term others) c o gives =
        summed_gives others (apply_two op2.Minus c (constant_of site.set.phrases vs p term)) (known.apply_two op2.Minus o (known.value_of site term))
        (two_gives op2.Minus c (constant_of site.set.phrases vs p term) o (known.value_of site term) gives (value_gives term))

    computed_gives : (arguments : Expressions) (op : Operation) → Gives (computed site.set.phrases vs p op arguments) (known.built site op arguments)
    computed_gives NoExpressions operation.Size v is = absurd (cc)
    computed_gives NoExpressions operation.Nothing v is = absurd (cc)
    computed_gives (MoreExpressions x others) operation.Size v is = absurd (cc)
    computed_gives (MoreExpressions x others) operation.Nothing v is = absurd (cc)
    computed_gives NoExpressions (operation.One op) v is = absurd (cc)
    computed_gives (MoreExpressions x others) (operation.One op) v is =
        if_both (no_more others) (apply_one op (constant_of site.set.phrases vs p x)) (known.apply_one op (known.value_of site x)) (one_gives op (constant_of site.set.phrases vs p x) (known.value_of site x) (value_gives x)) v is
    computed_gives NoExpressions (operation.Two op) v is = absurd (cc)
    computed_gives (MoreExpressions x others) (operation.Two op) v is = second_gives others op (constant_of site.set.phrases vs p x) (known.value_of site x) (value_gives x) v is

    second_gives : (trees : Expressions) (op : Op2) (c : Constant) (o : Option Value) → Gives c o → Gives (computed_second site.set.phrases vs p op c trees) (known.built_second site op o trees)
    second_gives NoExpressions op c o gives v is = absurd (cc)
    second_gives (MoreExpressions y others) op c o gives v is =
        if_both (no_more others) (apply_two op c (constant_of site.set.phrases vs p y)) (known.apply_two op o (known.value_of site y))
        (two_gives op c (constant_of site.set.phrases vs p y) o (known.value_of site y) gives (value_gives y)) v is

    multiplied_gives : (arguments : Expressions) (c : Constant) (r : Referent) → ((w : Value) → c ≡ constant.Worth w → r ≡ ConstantOf w)
        → Gives (multiplied site.set.phrases vs p c arguments) (known.called (λ v. known.folded site op2.Product v arguments) (λ op. known.built site op arguments) r)
    multiplied_gives NoExpressions c r refers v is = absurd (never_worth c constant.Unfit v is)
    multiplied_gives (MoreExpressions x NoExpressions) (constant.Worth w) r refers v is =
        ap (known.called (λ v. known.folded site op2.Product v (MoreExpressions x NoExpressions)) (λ op. known.built site op (MoreExpressions x NoExpressions))) (refers w refl)
        ∙ two_gives op2.Product (constant.Worth w) (constant_of site.set.phrases vs p x) (Some w) (known.value_of site x) (worth_gives w) (value_gives x) v is
    multiplied_gives (MoreExpressions x NoExpressions) constant.Failed r refers v is = absurd (two_never constant.Failed (constant_of site.set.phrases vs p x) v (λ w no. absurd (cc)) is)
    multiplied_gives (MoreExpressions x NoExpressions) constant.Open r refers v is = absurd (two_never constant.Open (constant_of site.set.phrases vs p x) v (λ w no. absurd (cc)) is)
    multiplied_gives (MoreExpressions x NoExpressions) constant.Unfit r refers v is = absurd (two_never constant.Unfit (constant_of site.set.phrases vs p x) v (λ w no. absurd (cc)) is)
    multiplied_gives (MoreExpressions x (MoreExpressions y others)) c r refers v is = absurd (never_worth c constant.Unfit v is)

    -- a reference
    referred_gives : (reference : Reference) → Gives (referred site.set.phrases vs p reference) (known.referred site reference)
    referred_gives (Refers place name path subscript) = chosen_gives name path subscript (λ w. subscript_gives subscript w) (constant_named site.set.phrases vs p name path) refl

    subscript_gives : (subscript : Subscript) (w : Value) → Gives (subscripted site.set.phrases vs p w subscript) (known.component site w subscript)
    subscript_gives Unsubscripted w = worth_gives w
    subscript_gives (ByName place name) w = one_picked w (constant_named site.set.phrases vs p name.name []) (known.named site name.name) (name_gives name.name)
    subscript_gives (ByInteger place mark number) w = one_picked w (whole number) (known.whole number) (whole_gives number)
    subscript_gives (ByParts place copies arrays components) w =
        if_gives (is_none copies && is_none arrays) (component_of site.set.phrases vs p w components) (known.parts_of site w components) (parts_give components w)

    parts_give : (subscripts : Subscripts) (w : Value) → Gives (component_of site.set.phrases vs p w subscripts) (known.parts_of site w subscripts)
    parts_give NoSubscripts w v is = absurd (cc)
    parts_give (MoreSubscripts sub others) w v is =
        if_gives (is_none others) (component_by site.set.phrases vs p w sub) (known.part_of w (known.part_chosen site (place_count w) sub)) (sub_gives sub w) v is

    -- the places of a component
    sub_gives : (sub : Sub) (w : Value) → Gives (component_by site.set.phrases vs p w sub) (known.part_of w (known.part_chosen site (place_count w) sub))
    sub_gives (Every place) w = part_gives w (part.To (pos 1) (pos (place_count w)))
    sub_gives (OnePlace (FromBeginning one)) w = one_picked w (constant_of site.set.phrases vs p one) (known.value_of site one) (value_gives one)
    sub_gives (OnePlace (FromEnd place terms)) w =
        one_picked w (summed site.set.phrases vs p (whole (place_count w)) terms) (known.summed site (Some (value.Int (pos (place_count w)))) terms) (summed_gives terms (whole (place_count w)) (Some (value.Int (pos (place_count w)))) (count_by (nat_le (place_count w) 2147483647) (place_count w)))
    sub_gives (Range (FromBeginning first) (FromBeginning last)) w =
        to_picked w (constant_of site.set.phrases vs p first) (constant_of site.set.phrases vs p last) (known.value_of site first) (known.value_of site last) (value_gives first) (value_gives last)
    sub_gives (Range (FromBeginning first) (FromEnd place terms)) w =
        to_picked w (constant_of site.set.phrases vs p first) (summed site.set.phrases vs p (whole (place_count w)) terms) (known.value_of site first)
        (known.summed site (Some (value.Int (pos (place_count w)))) terms) (value_gives first) (summed_gives terms (whole (place_count w)) (Some (value.Int (pos (place_count w)))) (count_by (nat_le (place_count w) 2147483647) (place_count w)))
    sub_gives (Range (FromEnd place terms) (FromBeginning last)) w =
        to_picked w (summed site.set.phrases vs p (whole (place_count w)) terms) (constant_of site.set.phrases vs p last) (known.summed site (Some (value.Int (pos (place_count w)))) terms)
        (known.value_of site last) (summed_gives terms (whole (place_count w)) (Some (value.Int (pos (place_count w)))) (count_by (nat_le (place_count w) 2147483647) (place_count w))) (value_gives last)
    sub_gives (Range (FromEnd place terms) (FromEnd other more)) w =
        to_picked w (summed site.set.phrases vs p (whole (place_count w)) terms) (summed site.set.phrases vs p (whole (place_count w)) more) (known.summed site (Some (value.Int (pos (place_count w)))) terms)
        (known.summed site (Some (value.Int (pos (place_count w)))) more) (summed_gives terms (whole (place_count w)) (Some (value.Int (pos (place_count w)))) (count_by (nat_le (place_count w) 2147483647) (place_count w))) (summed_gives more (whole (place_count w)) (Some (value.Int (pos (place_count w)))) (count_by (nat_le (place_count w) 2147483647) (place_count w)))
    sub_gives (Portion count (FromBeginning first)) w =
        from_picked w (constant_of site.set.phrases vs p count) (constant_of site.set.phrases vs p first) (known.value_of site count) (known.value_of site first) (value_gives count) (value_gives first)
    sub_gives (Portion count (FromEnd place terms)) w =
        from_picked w (constant_of site.set.phrases vs p count) (summed site.set.phrases vs p (whole (place_count w)) terms) (known.value_of site count)
        (known.summed site (Some (value.Int (pos (place_count w)))) terms) (value_gives count) (summed_gives terms (whole (place_count w)) (Some (value.Int (pos (place_count w)))) (count_by (nat_le (place_count w) 2147483647) (place_count w)))
