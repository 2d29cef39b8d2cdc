-- What is known of an expression in one phrase is known of it in another one before which the same stands with the same values.
use Rattle.std.proofs.Common.{◌≡◌, ℕ, Bool, true, false, ◌&&◌, List, [], Option, Some, None, slice_get, refl, sym, ap, ◌∙◌, subst}
use Rattle.std.specs.Prelude.{if◌then◌else◌}
use Rattle.hal_grammar.specs.Leaves.{Naming, Sign, Plus, Minus, LiteralValue, Integer, Text, Bits, True, False, On, Off}
use Rattle.hal_grammar.specs.Expressions.{Expression, Or, And, Compare, Cat, Sum, Product, Power, Not, Literal, Decimal, Referred, Called, Convert, Parenthesis, Expressions, NoExpressions, MoreExpressions, Terms, NoTerms, MoreTerms, Reference, Refers, Subscript, Unsubscripted, ByName, ByInteger, ByParts, Subscripts, NoSubscripts, MoreSubscripts, Sub, Every, One, Range, Portion, Position, FromBeginning, FromEnd}
use Rattle.hal_phrases.specs.Phrases.{Node, Phrase, OfTemplate, OfUnit, OfItem, OfTemporaryGroup}
use Rattle.hal_names.specs.Means.{means}
use Rattle.hal_grammar.specs.Declarations.{Attribute, Declared}
use Rattle.hal_scope.specs.Uses.{is_nil}
use Rattle.hal_kinds.specs.Attributes.{no_more}
use Rattle.hal_values.specs.declared.value.Value.{Value}
use Rattle.hal_operations.specs.declared.operation.Op1.{Op1}
use Rattle.hal_operations.specs.declared.operation.Op1.TheVariants as op1
use Rattle.hal_operations.specs.declared.operation.Op2.{Op2}
use Rattle.hal_operations.specs.declared.operation.Op2.TheVariants as op2
use Rattle.hal_operations.specs.Parts.{place_count}
use Rattle.hal_constants.specs.declared.constant.Constant.{Constant}
use Rattle.hal_constants.specs.declared.constant.Constant.TheVariants as constant
use Rattle.hal_constants.specs.declared.operation.Operation.{Operation}
use Rattle.hal_constants.specs.declared.operation.Operation.TheVariants as operation
use Rattle.hal_constants.specs.Results.{worse, apply_one, apply_two, whole, picked_one, picked_to, picked_from, picked_all}
use Rattle.hal_constants.specs.Naming.{is_value_item, is_before, value_at, constant_known, constant_at, undeclared, constant_named, literal_constant, operation_named}
use Rattle.hal_constants.specs.Constants.{operation_of_sign, signed, raised_to, raised, operation_of_conversion, is_none, factor_at, called_at, constant_of, folded, summed, computed, computed_second, multiplied, referred, subscripted, component_of, component_by, place_of}
use Rattle.hal_constants.specs.Known.{Known}

-- a constant whose value, where the first one has one, is that value
abbrev pub Keeps : Constant → Constant → Type 0
Keeps (constant.Worth v) d = d ≡ constant.Worth v
Keeps constant.Failed d = Unit {0}
Keeps constant.Open d = Unit {0}
Keeps constant.Unfit d = Unit {0}

pub same_keeps : (c d : Constant) → d ≡ c → Keeps c d
same_keeps (constant.Worth v) d is = is
same_keeps constant.Failed d is = tt
same_keeps constant.Open d is = tt
same_keeps constant.Unfit d is = tt

-- what is no value keeps anything
worse_keeps : (c d x : Constant) → Keeps (worse c d) x
unfolding worse
worse_keeps constant.Open d x = tt
worse_keeps (constant.Worth v) constant.Open x = tt
worse_keeps constant.Failed constant.Open x = tt
worse_keeps constant.Unfit constant.Open x = tt
worse_keeps constant.Unfit (constant.Worth w) x = tt
worse_keeps constant.Unfit constant.Failed x = tt
worse_keeps constant.Unfit constant.Unfit x = tt
worse_keeps (constant.Worth v) constant.Unfit x = tt
worse_keeps constant.Failed constant.Unfit x = tt
worse_keeps (constant.Worth v) (constant.Worth w) x = tt
worse_keeps (constant.Worth v) constant.Failed x = tt
worse_keeps constant.Failed (constant.Worth w) x = tt
worse_keeps constant.Failed constant.Failed x = tt

one_keeps : (op : Op1) (c d : Constant) → Keeps c d → Keeps (apply_one op c) (apply_one op d)
unfolding apply_one
one_keeps op (constant.Worth v) d is = same_keeps (apply_one op (constant.Worth v)) (apply_one op d) (ap (apply_one op) is)
one_keeps op constant.Failed d is = tt
one_keeps op constant.Open d is = tt
one_keeps op constant.Unfit d is = tt

two_keeps : (op : Op2) (c d x y : Constant) → Keeps c x → Keeps d y → Keeps (apply_two op c d) (apply_two op x y)
unfolding apply_two
two_keeps op (constant.Worth v) (constant.Worth w) x y is also =
    same_keeps (apply_two op (constant.Worth v) (constant.Worth w)) (apply_two op x y) (ap (λ e. apply_two op e y) is ∙ ap (apply_two op (constant.Worth v)) also)
two_keeps op (constant.Worth v) constant.Failed x y is also = worse_keeps (constant.Worth v) constant.Failed (apply_two op x y)
two_keeps op (constant.Worth v) constant.Open x y is also = worse_keeps (constant.Worth v) constant.Open (apply_two op x y)
two_keeps op (constant.Worth v) constant.Unfit x y is also = worse_keeps (constant.Worth v) constant.Unfit (apply_two op x y)
two_keeps op constant.Failed d x y is also = worse_keeps constant.Failed d (apply_two op x y)
two_keeps op constant.Open d x y is also = worse_keeps constant.Open d (apply_two op x y)
two_keeps op constant.Unfit d x y is also = worse_keeps constant.Unfit d (apply_two op x y)

pub signed_keeps : (o : Option Sign) (c d : Constant) → Keeps c d → Keeps (signed o c) (signed o d)
unfolding signed
signed_keeps None c d is = is
signed_keeps (Some Plus) c d is = is
signed_keeps (Some Minus) c d is = one_keeps op1.Minus c d is

raised_to_keeps : (c d : Constant) (x : LiteralValue) → Keeps c d → Keeps (raised_to c x) (raised_to d x)
unfolding raised_to
raised_to_keeps c d (Integer n) is = two_keeps op2.Power c (whole n) d (whole n) is (same_keeps (whole n) (whole n) refl)
raised_to_keeps c d (Text text) is = tt
raised_to_keeps c d (Bits len bits) is = tt
raised_to_keeps c d True is = tt
raised_to_keeps c d False is = tt
raised_to_keeps c d On is = tt
raised_to_keeps c d Off is = tt

raised_keeps : (c d : Constant) (t : Expression) → Keeps c d → Keeps (raised c t) (raised d t)
unfolding raised
raised_keeps c d (Literal place literal) is = raised_to_keeps c d literal is
raised_keeps c d other is = tt

one_picked : (v : Value) (c d : Constant) → Keeps c d → Keeps (picked_one v c) (picked_one v d)
unfolding picked_one
one_picked v (constant.Worth i) d is = same_keeps (picked_one v (constant.Worth i)) (picked_one v d) (ap (picked_one v) is)
one_picked v constant.Failed d is = tt
one_picked v constant.Open d is = tt
one_picked v constant.Unfit d is = tt

to_picked : (v : Value) (c d x y : Constant) → Keeps c x → Keeps d y → Keeps (picked_to v c d) (picked_to v x y)
unfolding picked_to
to_picked v (constant.Worth i) (constant.Worth j) x y is also =
    same_keeps (picked_to v (constant.Worth i) (constant.Worth j)) (picked_to v x y) (ap (λ e. picked_to v e y) is ∙ ap (picked_to v (constant.Worth i)) also)
to_picked v (constant.Worth i) constant.Failed x y is also = worse_keeps (constant.Worth i) constant.Failed (picked_to v x y)
to_picked v (constant.Worth i) constant.Open x y is also = worse_keeps (constant.Worth i) constant.Open (picked_to v x y)
to_picked v (constant.Worth i) constant.Unfit x y is also = worse_keeps (constant.Worth i) constant.Unfit (picked_to v x y)
to_picked v constant.Failed d x y is also = worse_keeps constant.Failed d (picked_to v x y)
to_picked v constant.Open d x y is also = worse_keeps constant.Open d (picked_to v x y)
to_picked v constant.Unfit d x y is also = worse_keeps constant.Unfit d (picked_to v x y)

from_picked : (v : Value) (c d x y : Constant) → Keeps c x → Keeps d y → Keeps (picked_from v c d) (picked_from v x y)
unfolding picked_from
from_picked v (constant.Worth i) (constant.Worth j) x y is also =
    same_keeps (picked_from v (constant.Worth i) (constant.Worth j)) (picked_from v x y) (ap (λ e. picked_from v e y) is ∙ ap (picked_from v (constant.Worth i)) also)
from_picked v (constant.Worth i) constant.Failed x y is also = worse_keeps (constant.Worth i) constant.Failed (picked_from v x y)
from_picked v (constant.Worth i) constant.Open x y is also = worse_keeps (constant.Worth i) constant.Open (picked_from v x y)
from_picked v (constant.Worth i) constant.Unfit x y is also = worse_keeps (constant.Worth i) constant.Unfit (picked_from v x y)
from_picked v constant.Failed d x y is also = worse_keeps constant.Failed d (picked_from v x y)
from_picked v constant.Open d x y is also = worse_keeps constant.Open d (picked_from v x y)
from_picked v constant.Unfit d x y is also = worse_keeps constant.Unfit d (picked_from v x y)

pub if_keeps : (b : Bool) (c d x y : Constant) → Keeps c x → Keeps d y → Keeps (if b then c else d) (if b then x else y)
if_keeps true c d x y is also = is
if_keeps false c d x y is also = also

before_keeps : (nil valued first second : Bool) (a b : Option Value) → (valued ≡ true → first ≡ true → (v : Value) → a ≡ Some v → (second ≡ true) × (b ≡ Some v))
    → Keeps (if nil && (valued && first) then constant_known a else constant.Open) (if nil && (valued && second) then constant_known b else constant.Open)
unfolding constant_known
before_keeps false valued first second a b more = tt
before_keeps true false first second a b more = tt
before_keeps true true false second a b more = tt
before_keeps true true true second None b more = tt
before_keeps true true true second (Some v) b more =
    let so = more refl refl v refl in ap (λ x. if x then constant_known b else constant.Open) so.0 ∙ ap constant_known so.1

-- what stands before one phrase, with a value of the first ones, stands before another one too, with the same among the second ones
abbrev pub Precedes : List Phrase → Known → Known → Phrase → Phrase → Type 0
Precedes ps vs ws q p =
    (k : ℕ) (r : Phrase) (common : List Attribute) (item : Declared) → slice_get ps k ≡ Some r → r.node ≡ OfItem common item → is_value_item common item ≡ true → is_before ps q r ≡ true
    → (v : Value) → value_at vs r.number ≡ Some v → (is_before ps p r ≡ true) × (value_at ws r.number ≡ Some v)

module _ (ps : List Phrase) (vs ws : Known) (q p : Phrase) (same : q.around.block ≡ p.around.block) (precedes : Precedes ps vs ws q p) where
  declared_keeps : (k : ℕ) (r : Phrase) (path : List Naming) (n : Node) → slice_get ps k ≡ Some r → r.node ≡ n → Keeps (constant_at ps vs q r path n) (constant_at ps ws p r path n)
  unfolding constant_at
  declared_keeps k r path (OfItem common item) there is =
      before_keeps (is_nil path) (is_value_item common item) (is_before ps q r) (is_before ps p r) (value_at vs r.number) (value_at ws r.number)
      (λ valued before v has. precedes k r common item there is valued before v has)
  declared_keeps k r path other there is = tt

  phrase_keeps : (k : ℕ) (path : List Naming) (o : Option Phrase) → slice_get ps k ≡ o
      → Keeps (elim o [ None ↦ constant.Unfit | Some r ↦ constant_at ps vs q r path r.node ]) (elim o [ None ↦ constant.Unfit | Some r ↦ constant_at ps ws p r path r.node ])
  phrase_keeps k path None there = tt
  phrase_keeps k path (Some r) there = declared_keeps k r path r.node there refl

  meant_keeps : (name : List ℕ) (path : List Naming) (o : Option ℕ)
      → Keeps (elim o [ None ↦ undeclared name | Some k ↦ elim (slice_get ps k) [ None ↦ constant.Unfit | Some r ↦ constant_at ps vs q r path r.node ] ])
      (elim o [ None ↦ undeclared name | Some k ↦ elim (slice_get ps k) [ None ↦ constant.Unfit | Some r ↦ constant_at ps ws p r path r.node ] ])
  meant_keeps name path None = same_keeps (undeclared name) (undeclared name) refl
  meant_keeps name path (Some k) = phrase_keeps k path (slice_get ps k) refl

  pub named_keeps : (name : List ℕ) (path : List Naming) → Keeps (constant_named ps vs q name path) (constant_named ps ws p name path)
  named_keeps name path =
      subst (λ b. Keeps (constant_named ps vs q name path) (elim (means ps b name) [ None ↦ undeclared name | Some k ↦ elim (slice_get ps k) [ None ↦ constant.Unfit | Some r ↦ constant_at ps ws p r path r.node ] ])) same
      (meant_keeps name path (means ps q.around.block name))

  factor_keeps : (k : ℕ) (r : Phrase) (n : Node) → slice_get ps k ≡ Some r → r.node ≡ n → Keeps (factor_at ps vs q r n) (factor_at ps ws p r n)
  unfolding factor_at
  factor_keeps k r (OfItem common item) there is = declared_keeps k r [] (OfItem common item) there is
  factor_keeps k r (OfTemporaryGroup labels variable) there is = tt
  factor_keeps k r (OfTemplate name head declarations) there is = tt
  factor_keeps k r (OfUnit name head declarations) there is = tt
  factor_keeps k r other there is = tt

  called_keeps : (k : ℕ) (o : Option Phrase) → slice_get ps k ≡ o → Keeps (elim o [ None ↦ constant.Unfit | Some r ↦ factor_at ps vs q r r.node ]) (elim o [ None ↦ constant.Unfit | Some r ↦ factor_at ps ws p r r.node ])
  called_keeps k None there = tt
  called_keeps k (Some r) there = factor_keeps k r r.node there refl

  form_keeps : (name : List ℕ) (ts : Expressions) (o : Option ℕ) → Keeps (computed ps vs q (operation_named name) ts) (computed ps ws p (operation_named name) ts)
      → ((k : ℕ) → Keeps (multiplied ps vs q (called_at ps vs q k) ts) (multiplied ps ws p (called_at ps ws p k) ts))
      → Keeps (elim o [ None ↦ computed ps vs q (operation_named name) ts | Some k ↦ multiplied ps vs q (called_at ps vs q k) ts ]) (elim o [ None ↦ computed ps ws p (operation_named name) ts | Some k ↦ multiplied ps ws p (called_at ps ws p k) ts ])
  form_keeps name ts None built each = built
  form_keeps name ts (Some k) built each = each k

  called_form : (name : List ℕ) (ts : Expressions) → Keeps (computed ps vs q (operation_named name) ts) (computed ps ws p (operation_named name) ts)
      → ((k : ℕ) → Keeps (multiplied ps vs q (called_at ps vs q k) ts) (multiplied ps ws p (called_at ps ws p k) ts))
      → Keeps (elim (means ps q.around.block name) [ None ↦ computed ps vs q (operation_named name) ts | Some k ↦ multiplied ps vs q (called_at ps vs q k) ts ])
      (elim (means ps p.around.block name) [ None ↦ computed ps ws p (operation_named name) ts | Some k ↦ multiplied ps ws p (called_at ps ws p k) ts ])
  called_form name ts built each =
      subst (λ b. Keeps (elim (means ps q.around.block name) [ None ↦ computed ps vs q (operation_named name) ts | Some k ↦ multiplied ps vs q (called_at ps vs q k) ts ])
      (elim (means ps b name) [ None ↦ computed ps ws p (operation_named name) ts | Some k ↦ multiplied ps ws p (called_at ps ws p k) ts ])) same (form_keeps name ts (means ps q.around.block name) built each)

  reference_keeps : (x : Subscript) (c d : Constant) → Keeps c d → ((v : Value) → Keeps (subscripted ps vs q v x) (subscripted ps ws p v x))
      → Keeps (elim c [ constant.Worth v ↦ subscripted ps vs q v x | constant.Failed ↦ constant.Failed | constant.Open ↦ constant.Open | constant.Unfit ↦ constant.Unfit ])
      (elim d [ constant.Worth v ↦ subscripted ps ws p v x | constant.Failed ↦ constant.Failed | constant.Open ↦ constant.Open | constant.Unfit ↦ constant.Unfit ])
  reference_keeps x (constant.Worth v) d is each =
      subst (λ e. Keeps (subscripted ps vs q v x) (elim e [ constant.Worth w ↦ subscripted ps ws p w x | constant.Failed ↦ constant.Failed | constant.Open ↦ constant.Open | constant.Unfit ↦ constant.Unfit ])) (sym is) (each v)
  reference_keeps x constant.Failed d is each = tt
  reference_keeps x constant.Open d is each = tt
  reference_keeps x constant.Unfit d is each = tt

  mutual
    unfolding constant_of folded summed computed computed_second multiplied referred subscripted component_of component_by place_of

    pub constant_keeps : (t : Expression) → Keeps (constant_of ps vs q t) (constant_of ps ws p t)
    constant_keeps (Or place first others) = folded_keeps op2.Or (constant_of ps vs q first) (constant_of ps ws p first) others (constant_keeps first)
    constant_keeps (And place first others) = folded_keeps op2.And (constant_of ps vs q first) (constant_of ps ws p first) others (constant_keeps first)
    constant_keeps (Compare place left relation right) = tt
    constant_keeps (Cat place first others) = folded_keeps op2.Cat (constant_of ps vs q first) (constant_of ps ws p first) others (constant_keeps first)
    constant_keeps (Sum place opening first others) =
        summed_keeps (signed opening (constant_of ps vs q first)) (signed opening (constant_of ps ws p first)) others (signed_keeps opening (constant_of ps vs q first) (constant_of ps ws p first) (constant_keeps first))
    constant_keeps (Product place first others) = folded_keeps op2.Product (constant_of ps vs q first) (constant_of ps ws p first) others (constant_keeps first)
    constant_keeps (Power place base exponent) = raised_keeps (constant_of ps vs q base) (constant_of ps ws p base) exponent (constant_keeps base)
    constant_keeps (Not place operand) = one_keeps op1.Not (constant_of ps vs q operand) (constant_of ps ws p operand) (constant_keeps operand)
    constant_keeps (Literal place literal) = same_keeps (literal_constant literal) (literal_constant literal) refl
    constant_keeps (Decimal place number) = tt
    constant_keeps (Referred reference) = referred_keeps reference
    constant_keeps (Called place name arguments) =
        called_form name arguments (computed_keeps (operation_named name) arguments) (λ k. multiplied_keeps (called_at ps vs q k) (called_at ps ws p k) arguments (called_keeps k (slice_get ps k) refl))
    constant_keeps (Convert place conversion operand) = one_keeps (operation_of_conversion conversion) (constant_of ps vs q operand) (constant_of ps ws p operand) (constant_keeps operand)
    constant_keeps (Parenthesis place inner) = constant_keeps inner

    folded_keeps : (op : Op2) (c d : Constant) (ts : Expressions) → Keeps c d → Keeps (folded ps vs q op c ts) (folded ps ws p op d ts)
    folded_keeps op c d NoExpressions is = is
    folded_keeps op c d (MoreExpressions first others) is =
        folded_keeps op (apply_two op c (constant_of ps vs q first)) (apply_two op d (constant_of ps ws p first)) others (two_keeps op c (constant_of ps vs q first) d (constant_of ps ws p first) is (constant_keeps first))

    summed_keeps : (c d : Constant) (ts : Terms) → Keeps c d → Keeps (summed ps vs q c ts) (summed ps ws p d ts)
    summed_keeps c d NoTerms is = is
    summed_keeps c d (MoreTerms place sign term others) is =
        summed_keeps (apply_two (operation_of_sign sign) c (constant_of ps vs q term)) (apply_two (operation_of_sign sign) d (constant_of ps ws p term)) others
        (two_keeps (operation_of_sign sign) c (constant_of ps vs q term) d (constant_of ps ws p term) is (constant_keeps term))

    computed_keeps : (op : Operation) (ts : Expressions) → Keeps (computed ps vs q op ts) (computed ps ws p op ts)
    computed_keeps operation.Size ts = tt
    computed_keeps operation.Nothing ts = tt
    computed_keeps (operation.One op) NoExpressions = tt
    computed_keeps (operation.One op) (MoreExpressions x others) =
        if_keeps (no_more others) (apply_one op (constant_of ps vs q x)) constant.Unfit (apply_one op (constant_of ps ws p x)) constant.Unfit (one_keeps op (constant_of ps vs q x) (constant_of ps ws p x) (constant_keeps x)) tt
    computed_keeps (operation.Two op) NoExpressions = tt
    computed_keeps (operation.Two op) (MoreExpressions x others) = second_keeps op (constant_of ps vs q x) (constant_of ps ws p x) others (constant_keeps x)

    second_keeps : (op : Op2) (c d : Constant) (ts : Expressions) → Keeps c d → Keeps (computed_second ps vs q op c ts) (computed_second ps ws p op d ts)
    second_keeps op c d NoExpressions is = tt
    second_keeps op c d (MoreExpressions y others) is =
        if_keeps (no_more others) (apply_two op c (constant_of ps vs q y)) constant.Unfit (apply_two op d (constant_of ps ws p y)) constant.Unfit
        (two_keeps op c (constant_of ps vs q y) d (constant_of ps ws p y) is (constant_keeps y)) tt

    multiplied_keeps : (c d : Constant) (ts : Expressions) → Keeps c d → Keeps (multiplied ps vs q c ts) (multiplied ps ws p d ts)
    multiplied_keeps c d NoExpressions is = worse_keeps c constant.Unfit (worse d constant.Unfit)
    multiplied_keeps c d (MoreExpressions x others) is =
        if_keeps (no_more others) (apply_two op2.Product c (constant_of ps vs q x)) (worse c constant.Unfit) (apply_two op2.Product d (constant_of ps ws p x)) (worse d constant.Unfit)
        (two_keeps op2.Product c (constant_of ps vs q x) d (constant_of ps ws p x) is (constant_keeps x)) (worse_keeps c constant.Unfit (worse d constant.Unfit))

    referred_keeps : (x : Reference) → Keeps (referred ps vs q x) (referred ps ws p x)
    referred_keeps (Refers place name path subscript) =
        reference_keeps subscript (constant_named ps vs q name path) (constant_named ps ws p name path) (named_keeps name path) (λ v. subscripted_keeps v subscript)

    subscripted_keeps : (v : Value) (x : Subscript) → Keeps (subscripted ps vs q v x) (subscripted ps ws p v x)
    subscripted_keeps v Unsubscripted = refl
    subscripted_keeps v (ByName place name) = one_picked v (constant_named ps vs q name.name []) (constant_named ps ws p name.name []) (named_keeps name.name [])
    subscripted_keeps v (ByInteger place at number) = same_keeps (picked_one v (whole number)) (picked_one v (whole number)) refl
    subscripted_keeps v (ByParts place copies arrays components) =
        if_keeps (is_none copies && is_none arrays) (component_of ps vs q v components) constant.Unfit (component_of ps ws p v components) constant.Unfit (component_of_keeps v components) tt

    component_of_keeps : (v : Value) (xs : Subscripts) → Keeps (component_of ps vs q v xs) (component_of ps ws p v xs)
    component_of_keeps v NoSubscripts = tt
    component_of_keeps v (MoreSubscripts x others) = if_keeps (is_none others) (component_by ps vs q v x) constant.Unfit (component_by ps ws p v x) constant.Unfit (component_by_keeps v x) tt

    component_by_keeps : (v : Value) (x : Sub) → Keeps (component_by ps vs q v x) (component_by ps ws p v x)
    component_by_keeps v (Every place) = same_keeps (picked_all v) (picked_all v) refl
    component_by_keeps v (One position) = one_picked v (place_of ps vs q v position) (place_of ps ws p v position) (place_keeps v position)
    component_by_keeps v (Range first last) =
        to_picked v (place_of ps vs q v first) (place_of ps vs q v last) (place_of ps ws p v first) (place_of ps ws p v last) (place_keeps v first) (place_keeps v last)
    component_by_keeps v (Portion count first) =
        from_picked v (constant_of ps vs q count) (place_of ps vs q v first) (constant_of ps ws p count) (place_of ps ws p v first) (constant_keeps count) (place_keeps v first)

    place_keeps : (v : Value) (x : Position) → Keeps (place_of ps vs q v x) (place_of ps ws p v x)
    place_keeps v (FromBeginning t) = constant_keeps t
    place_keeps v (FromEnd place terms) = summed_keeps (whole (place_count v)) (whole (place_count v)) terms (same_keeps (whole (place_count v)) (whole (place_count v)) refl)
