-- Constant expressions of a set that breaks no rule of names or types suit their classes.
use Rattle.std.proofs.Common.{◌≡◌, ℕ, Bool, true, false, ◌&&◌, ◌||◌, List, [], Option, Some, None, slice_get, length, refl, sym, ap, ◌∙◌, subst, inl, inr, pos}
use Rattle.std.specs.Prelude.{nat_le, nat_lt, if◌then◌else◌, ◌^◌}
use Rattle.std.specs.Option.{option_and_then, option_or, is_some}
use Rattle.std.proofs.lemmas.Bool.{and_parts, leb-true, ltb-true}
use Rattle.hal_base.specs.declared.refusal.Place.{Place}
use Rattle.hal_grammar.specs.Declarations.{Attribute, Declared}
use Rattle.hal_grammar.specs.Leaves.{Naming, Sign, Plus, Minus, LiteralValue, Integer, Text, Bits, True, False, On, Off, ToInteger, ToBits, ToText}
use Rattle.hal_grammar.specs.Expressions.{Expression, Or, And, Compare, Cat, Sum, Product, Power, Not, Literal, Decimal, Referred, Called, Convert, Parenthesis, Expressions, NoExpressions, MoreExpressions, Terms, NoTerms, MoreTerms, Reference, Refers, Subscript, Unsubscripted, ByName, ByInteger, ByParts, Subscripts, NoSubscripts, MoreSubscripts, Sub, Every, One as OnePlace, Range, Portion, Position, FromBeginning, FromEnd, place_of}
use Rattle.hal_phrases.specs.declared.around.Around.{Around}
use Rattle.hal_phrases.specs.declared.role.Role.{Role}
use Rattle.hal_phrases.specs.declared.role.Role.TheVariants as role
use Rattle.hal_phrases.specs.Roles as roles
use Rattle.hal_phrases.specs.Phrases.{Node, Phrase, phrase, add, OfExpression, OfReference, OfSubscriptName, OfCallForm, OfTemplate, OfUnit, OfItem, OfTemporaryGroup}
use Rattle.hal_phrases.specs.GatheredExpressions.{below, gathered, gathered_all, gathered_terms, gathered_reference, gathered_subscript, gathered_subs, gathered_sub, gathered_position}
use Rattle.hal_names.specs.Laws.{IsCounted}
use Rattle.hal_names.specs.Means.{means}
use Rattle.hal_scope.specs.declared.builtin.Builtin.{Builtin}
use Rattle.hal_scope.specs.declared.usage.Usage.TheVariants as usage
use Rattle.hal_scope.specs.Builtins.{builtin_named, form_of}
use Rattle.hal_scope.specs.Rules.{IsSound, rows, ruled}
use Rattle.hal_scope.specs.Sorts.{used, use_of_reference, usage_of, is_known}
use Rattle.hal_scope.specs.Uses.{is_nil, unless, unknown, is_known_builtin}
use Rattle.hal_kinds.specs.declared.class.Class.{Class}
use Rattle.hal_kinds.specs.declared.class.Class.TheVariants as class
use Rattle.hal_kinds.specs.declared.data.Data.{Data}
use Rattle.hal_kinds.specs.Attributes.{no_more}
use Rattle.hal_kinds.specs.Classes.{class_of, class_at, class_of_path, class_of_name, class_of_reference, class_of_call, class_of_called, class_of_function, class_of_literal, class_of_conversion, class_of_builtin, enclosed}
use Rattle.hal_kinds.specs.Data.{data_at}
use Rattle.hal_kinds.specs.Subscripts.{class_in, class_left, choice_of}
use Rattle.hal_kinds.specs.Subscripts as kinds
use Rattle.hal_operands.specs.declared.want.Want.{Want}
use Rattle.hal_operands.specs.declared.want.Want.TheVariants as want
use Rattle.hal_operands.specs.Pairs.{joined_fault, pair_fault}
use Rattle.hal_operands.specs.Wants.{wanted, misfit, misfit_at, unfit}
use Rattle.hal_uses.specs.Calls.{formed_fault, factor_fault, product_fault, is_raised, declared_fault, miscalled}
use Rattle.hal_uses.specs.Calls as calls
use Rattle.hal_uses.specs.Forms.{no_exponent, is_exponent, is_integer_literal, is_integer_value}
use Rattle.hal_constants.specs.declared.operation.Operation.TheVariants as operation
use Rattle.hal_uses.specs.Subscripts.{is_string, is_event_name, choice_fault, data_fault, fault_at, builtin_fault, named_fault, reference_fault, missubscripted}
use Rattle.hal_types.specs.Rules.{operand_rows, use_rows, type_rows}
use Rattle.hal_values.specs.declared.value.Value.{Value}
use Rattle.hal_values.specs.declared.value.Value.TheVariants as value
use Rattle.hal_operations.specs.declared.operation.Op2.TheVariants as op2
use Rattle.hal_operations.specs.declared.part.Part.TheVariants as part
use Rattle.hal_operations.specs.Operands.{IsString}
use Rattle.hal_operations.specs.Parts.{place_count}
use Rattle.hal_sound_values.specs.Right.{IsRight}
use Rattle.hal_constants.specs.declared.constant.Constant.{Constant}
use Rattle.hal_constants.specs.declared.constant.Constant.TheVariants as constant
use Rattle.hal_constants.specs.Known.{known}
use Rattle.hal_constants.specs.Naming.{constant_at, constant_named, literal_constant, operation_of, operation_named}
use Rattle.hal_constants.specs.Results.{worse, whole}
use Rattle.hal_constants.specs.Constants.{operation_of_conversion, signed, raised_to, raised, is_none, factor_at, called_at, constant_of, folded, summed, computed, multiplied, referred, subscripted, component_of, component_by}
use Rattle.hal_constants.specs.Constants as constants
use Rattle.hal_fit_expr.specs.Sorted.{are_bits}
use Rattle.hal_fit_classes.specs.Kinded.{IsFitLiteral}
use Rattle.hal_fit_rules.specs.Begun.{AreFirst}
use Rattle.hal_fit_rules.specs.Leaves.{is_value_role}
use Rattle.hal_fit_rules.proofs.Beginning.{then_, one, among}
use Rattle.hal_fit_rules.proofs.BegunExpressions.{own_first, expression_first, expressions_first, terms_first, subscript_first, position_first}
use Rattle.hal_fit_rules.proofs.Unbroken.{no_rule, ruled_none, unbroken, of_operands, of_uses, value_eventless, value_timeless, own_role, fit, matched, no_decimal}
use Rattle.hal_fit_names.specs.Suited.{class_of_value, Suits, NodeIsFit, HasFitLiterals, AreDeclared}
use Rattle.hal_fit_names.proofs.Loose.{string_is, whole_right}
use Rattle.hal_fit_names.proofs.Holding.{Holds, held, IsIdle, IsSane, held_sane, idle_suits, idle_left, chosen, arithmetic_suits, minus_suits, not_suits, integer_suits, bit_suits, character_suits}
use Rattle.hal_fit_names.proofs.Valuing.{IsValueName, named_value, node_value, node_sane, named_sane, single, value_data, in_class, left_class, PartsFit, parts_fit, component_suits, one_picks, to_picks, from_picks}
use Rattle.hal_fit_names.proofs.Folding.{AllFit, TermsFit, integer_held, holding_suits, beside_suits, product_holds, sum_holds, joined_suits, argument_held, built_suits}

-- what roles want
disjunct : wanted role.Disjunct ≡ want.Truth
unfolding wanted
disjunct = refl

conjunct : wanted role.Conjunct ≡ want.Truth
unfolding wanted
conjunct = refl

joins : wanted role.Joined ≡ want.Value
unfolding wanted
joins = refl

summand : wanted role.Summand ≡ want.Integer
unfolding wanted
summand = refl

factor : wanted role.Factor ≡ want.Integer
unfolding wanted
factor = refl

raises : wanted role.Base ≡ want.Integer
unfolding wanted
raises = refl

negated : wanted role.Negated ≡ want.Bits
unfolding wanted
negated = refl

encloses : wanted role.Enclosed ≡ want.Single
unfolding wanted
encloses = refl

argued : wanted role.Argument ≡ want.Anything
unfolding wanted
argued = refl

subscripts : wanted role.ComponentSubscript ≡ want.Integer
unfolding wanted
subscripts = refl

converts_string : wanted role.ToInteger ≡ want.String
unfolding wanted
converts_string = refl

converts_integer : wanted role.ToBits ≡ want.Integer
unfolding wanted
converts_integer = refl

converts_value : wanted role.ToText ≡ want.Value
unfolding wanted
converts_value = refl

-- what stands below a role of values has one, and wants what its own does
under_value : (r own : Role) → is_value_role r ≡ true → is_value_role own ≡ true → is_value_role (roles.under r own) ≡ true
under_value r own value is = ap is_value_role (own_role r own (value_eventless r value)) ∙ is

under_wants : (r own : Role) (w : Want) → is_value_role r ≡ true → wanted own ≡ w → wanted (roles.under r own) ≡ w
under_wants r own w value is = ap wanted (own_role r own (value_eventless r value)) ∙ is

pub whole_holds : (n : ℕ) → Holds want.Integer (whole n)
whole_holds n = by (nat_le n 2147483647) refl where
  by : (small : Bool) → nat_le n 2147483647 ≡ small → Holds want.Integer (if small then constant.Worth (value.Int (pos n)) else constant.Failed)
  by true is = (whole_right n is, refl)
  by false is = tt

bits_right : (len bits : ℕ) → are_bits len bits ≡ true → IsString len bits
bits_right len bits is =
    let first = and_parts (nat_le 1 len && nat_le len 32) (nat_lt bits (2 ^ len)) is in
    let second = and_parts (nat_le 1 len) (nat_le len 32) first.0 in
    (leb-true 1 len second.0, leb-true len 32 second.1, ltb-true bits (2 ^ len) first.1)

text_suits : (text : List ℕ) (small : Bool) → nat_le (length text) 255 ≡ small → Suits (Some class.Text) (if small then constant.Worth (value.Text text) else constant.Failed)
text_suits text true is = record { known = refl; right = leb-true (length text) 255 is }
text_suits text false is = tt

-- a literal
pub literal_suits : (x : LiteralValue) → IsFitLiteral x → Suits (Some (class_of_literal x)) (literal_constant x)
unfolding literal_constant class_of_literal
literal_suits (Integer n) is = holding_suits (whole n) (whole_holds n)
literal_suits (Text text) is = text_suits text (nat_le (length text) 255) refl
literal_suits (Bits len bits) is = record { known = refl; right = bits_right len bits is }
literal_suits True is = record { known = refl; right = string_is 1 1 refl }
literal_suits On is = record { known = refl; right = string_is 1 1 refl }
literal_suits False is = record { known = refl; right = string_is 1 0 refl }
literal_suits Off is = record { known = refl; right = string_is 1 0 refl }

signed_holds : (o : Option Sign) (c : Constant) → Holds want.Integer c → Holds want.Integer (signed o c)
unfolding signed
signed_holds None c is = is
signed_holds (Some Plus) c is = is
signed_holds (Some Minus) c is = integer_held _ (minus_suits c is)

-- a power
raised_suits : (c : Constant) (t : Expression) → Holds want.Integer c → is_integer_literal t ≡ true → Suits (Some class.Integer) (raised c t)
unfolding raised raised_to is_integer_literal is_integer_value
raised_suits c (Literal place (Integer n)) is exponent = arithmetic_suits op2.Power c (whole n) refl is (whole_holds n)
raised_suits c (Literal place (Text text)) is exponent = absurd (cc)
raised_suits c (Literal place (Bits len bits)) is exponent = absurd (cc)
raised_suits c (Literal place True) is exponent = absurd (cc)
raised_suits c (Literal place False) is exponent = absurd (cc)
raised_suits c (Literal place On) is exponent = absurd (cc)
raised_suits c (Literal place Off) is exponent = absurd (cc)
raised_suits c other is exponent = absurd (cc)

-- what stands in parentheses
enclosed_suits : (o : Option Class) (c : Constant) → Suits o c → Suits (enclosed o) c
unfolding enclosed
enclosed_suits o (constant.Worth (value.Int a)) is = record { known = ap enclosed is.known; right = is.right }
enclosed_suits o (constant.Worth (value.Bits len word)) is = record { known = ap enclosed is.known; right = is.right }
enclosed_suits o (constant.Worth (value.Text text)) is = record { known = ap enclosed is.known; right = is.right }
enclosed_suits o constant.Failed is = tt
enclosed_suits o constant.Open is = tt
enclosed_suits o constant.Unfit is = absurd is

option_first : {X : Type 0} (o q : Option X) → option_or o q ≡ None → (o ≡ None) × (q ≡ None)
option_first None q none = (refl, none)
option_first (Some x) q none = absurd (cc)

-- a list of parts isn't empty
no_parts : (r : Role) (place : Place) (name : List ℕ) (path : List Naming) (at : Place) (copies arrays : Subscripts) → copies ≡ NoSubscripts → arrays ≡ NoSubscripts
    → NodeIsFit (OfReference r (Refers place name path (ByParts at copies arrays NoSubscripts))) → ⊥
no_parts r place name path at copies arrays first second is =
    subst (λ x. NodeIsFit (OfReference r (Refers place name path (ByParts at NoSubscripts x NoSubscripts)))) second (subst (λ x. NodeIsFit (OfReference r (Refers place name path (ByParts at x arrays NoSubscripts)))) first is)

pub unless_true : (b : Bool) (place : Place) → unless b place ≡ None → b ≡ true
unless_true true place is = refl
unless_true false place is = absurd (cc)

module _ (ps : List Phrase) where
  -- what is chosen of the value that a name means
  value_chosen : (block : ℕ) (name : List ℕ) (path : List Naming) (x : Subscript) (v : Value) → IsValueName ps block name path v → named_fault ps block name path x ≡ None
      → (class_of_path ps block name path x ≡ Some (class_of_value v)) × PartsFit v x
  unfolding class_at fault_at data_fault
  value_chosen block name path x v n none =
      let q : Phrase = n.phrase in
      let node : Node = OfItem n.is.common n.is.item in
      let there_is : data_at ps q path node ≡ Some (single v) = value_data ps q path v n.is in
      let fault : named_fault ps block name path x ≡ choice_fault (is_event_name path node) (single v) (choice_of false x) = ap (λ o. elim o [ None ↦ builtin_fault name x | Some k ↦ option_and_then (λ (r : Phrase). fault_at ps r path x r.node) (slice_get ps k) ]) n.meant
      ∙ (ap (option_and_then (λ (r : Phrase). fault_at ps r path x r.node)) n.there ∙ (ap (fault_at ps q path x) n.is.declares ∙ ap (data_fault (is_event_name path node) x) there_is)) in
      let both = parts_fit v x (is_event_name path node) (sym fault ∙ none) in (
        ap (λ o. elim o [ None ↦ if is_nil path then class_of_builtin (builtin_named name) else None | Some k ↦ option_and_then (λ (r : Phrase). class_at ps r path x r.node) (slice_get ps k) ]) n.meant
            ∙ (ap (option_and_then (λ (r : Phrase). class_at ps r path x r.node)) n.there
            ∙ (ap (class_at ps q path x) n.is.declares ∙ (ap (option_and_then (λ (e : Data). class_left e (kinds.chosen e x))) there_is ∙ both.0))),
        both.1,
      )

  -- the class of such a name alone
  value_class : (block : ℕ) (name : List ℕ) (path : List Naming) (v : Value) → IsValueName ps block name path v → class_of_path ps block name path Unsubscripted ≡ Some (class_of_value v)
  unfolding class_at choice_of
  value_class block name path v n =
      let q : Phrase = n.phrase in
      ap (λ o. elim o [ None ↦ if is_nil path then class_of_builtin (builtin_named name) else None | Some k ↦ option_and_then (λ (r : Phrase). class_at ps r path Unsubscripted r.node) (slice_get ps k) ]) n.meant
      ∙ (ap (option_and_then (λ (r : Phrase). class_at ps r path Unsubscripted r.node)) n.there
      ∙ (ap (class_at ps q path Unsubscripted) n.is.declares ∙ (ap (option_and_then (λ (e : Data). class_left e (kinds.chosen e Unsubscripted))) (value_data ps q path v n.is) ∙ left_class v (kinds.choice 0 0 0 false false) refl)))

  name_in : (block other : ℕ) (name : List ℕ) (path : List Naming) (v : Value) → block ≡ other → IsValueName ps other name path v → IsValueName ps block name path v
  name_in block other name path v same n = subst (λ k. IsValueName ps k name path v) (sym same) n

module _ (ps : List Phrase) (named : IsSound rows ps) (sound : IsSound type_rows ps) (counted : IsCounted ps) (declared : AreDeclared ps) (literals : HasFitLiterals ps) (p : Phrase) where
  abbrev worth_of : Expression → Constant
  worth_of t = constant_of ps (known ps) p t

  wants : (d : List Phrase) (a : Around) (r : Role) (w : Want) (t : Expression) → wanted r ≡ w → AreFirst (gathered d a r t) ps → option_and_then (misfit w) (class_of ps a.block t) ≡ None
  wants d a r w t is begun =
      no_rule (place_of t) (option_and_then (misfit w) (class_of ps a.block t)) (ap (λ u. misfit_at ps a.block u t) (sym is) ∙ fit ps sound d a r t (then_ (own_first d a r t) begun))

  pub holds : (d : List Phrase) (a : Around) (r : Role) (w : Want) (t : Expression) → wanted r ≡ w → AreFirst (gathered d a r t) ps → Suits (class_of ps a.block t) (worth_of t) → Holds w (worth_of t)
  holds d a r w t is begun suits_ = held w (class_of ps a.block t) (worth_of t) suits_ (wants d a r w t is begun)

  -- names are known where they are used
  known_reference : (d : List Phrase) (a : Around) (r : Role) (place : Place) (name : List ℕ) (path : List Naming) (x : Subscript) → AreFirst (add d a (OfReference r (Refers place name path x))) ps
      → (is_some (means ps a.block name) || is_known_builtin name (usage_of r)) ≡ true
  unfolding unknown used use_of_reference
  known_reference d a r place name path x first =
      let q : Phrase = phrase (length d) a (OfReference r (Refers place name path x)) in
      unless_true (is_some (means ps a.block name) || is_known_builtin name (usage_of r)) place
      (ruled_none 601 (unknown ps q) (unbroken rows ps named q (among ps d a (OfReference r (Refers place name path x)) first) (λ qs o. ruled 601 (unknown qs o)) (inl refl)))

  known_subscript : (d : List Phrase) (a : Around) (name : Naming) → AreFirst (add d a (OfSubscriptName name)) ps → (is_some (means ps a.block name.name) || is_known_builtin name.name usage.Value) ≡ true
  unfolding unknown used
  known_subscript d a name first =
      let q : Phrase = phrase (length d) a (OfSubscriptName name) in
      unless_true (is_some (means ps a.block name.name) || is_known_builtin name.name usage.Value) name.place
      (ruled_none 601 (unknown ps q) (unbroken rows ps named q (among ps d a (OfSubscriptName name) first) (λ qs o. ruled 601 (unknown qs o)) (inl refl)))

  known_form : (d : List Phrase) (a : Around) (place : Place) (name : List ℕ) (ts : Expressions) → AreFirst (add d a (OfCallForm place name ts)) ps
      → (is_some (means ps a.block name) || is_known_builtin name usage.CallForm) ≡ true
  unfolding unknown used
  known_form d a place name ts first =
      let q : Phrase = phrase (length d) a (OfCallForm place name ts) in
      unless_true (is_some (means ps a.block name) || is_known_builtin name usage.CallForm) place
      (ruled_none 601 (unknown ps q) (unbroken rows ps named q (among ps d a (OfCallForm place name ts) first) (λ qs o. ruled 601 (unknown qs o)) (inl refl)))

  -- subscripts break no rule
  chosen_right : (d : List Phrase) (a : Around) (r : Role) (place : Place) (name : List ℕ) (path : List Naming) (x : Subscript) → AreFirst (add d a (OfReference r (Refers place name path x))) ps
      → named_fault ps a.block name path x ≡ None
  unfolding use_rows missubscripted reference_fault
  chosen_right d a r place name path x first =
      let q : Phrase = phrase (length d) a (OfReference r (Refers place name path x)) in
      no_rule place (named_fault ps a.block name path x)
      (unbroken type_rows ps sound q (among ps d a (OfReference r (Refers place name path x)) first) (λ qs o. missubscripted qs o o.node) (of_uses (λ qs o. missubscripted qs o o.node) (inr (inr (inr (inr (inr (inr (inl refl)))))))))

  -- the name behind `$` is an integer
  name_integer : (d : List Phrase) (a : Around) (name : Naming) → AreFirst (add d a (OfSubscriptName name)) ps → option_and_then (misfit want.Integer) (class_of_name ps a.block name.name) ≡ None
  unfolding operand_rows unfit
  name_integer d a name first =
      let q : Phrase = phrase (length d) a (OfSubscriptName name) in
      no_rule name.place (option_and_then (misfit want.Integer) (class_of_name ps a.block name.name))
      (unbroken type_rows ps sound q (among ps d a (OfSubscriptName name) first) (λ qs o. unfit qs o o.node) (of_operands (λ qs o. unfit qs o o.node) (inr (inr (inl refl)))))

  -- an exponent is an integer literal
  exponent_right : (d : List Phrase) (a : Around) (t : Expression) → AreFirst (gathered d a role.Exponent t) ps → is_integer_literal t ≡ true
  unfolding use_rows no_exponent is_exponent
  exponent_right d a t begun =
      let q : Phrase = phrase (length d) a (OfExpression role.Exponent t) in
      unless_true (is_integer_literal t) (place_of t)
      (ruled_none 328 (no_exponent (OfExpression role.Exponent t))
      (unbroken type_rows ps sound q (among ps d a (OfExpression role.Exponent t) (then_ (own_first d a role.Exponent t) begun)) (λ qs o. ruled 328 (no_exponent o.node)) (of_uses (λ qs o. ruled 328 (no_exponent o.node)) (inl refl))))

  -- the name behind `$`
  name_holds_by : (a : Around) (name : List ℕ) (c : Constant) → constant_named ps (known ps) p name [] ≡ c → a.block ≡ p.around.block → IsSane c → option_and_then (misfit want.Integer) (class_of_name ps a.block name) ≡ None
      → Holds want.Integer c
  name_holds_by a name (constant.Worth v) is same sane none =
      let n = name_in ps a.block p.around.block name [] v same (named_value ps counted p name [] v is) in
      held want.Integer (class_of_name ps a.block name) (constant.Worth v) (record { known = value_class ps a.block name [] v n; right = n.is.right }) none
  name_holds_by a name constant.Failed is same sane none = tt
  name_holds_by a name constant.Open is same sane none = tt
  name_holds_by a name constant.Unfit is same sane none = absurd sane

  name_holds : (d : List Phrase) (a : Around) (name : Naming) → a.block ≡ p.around.block → AreFirst (add d a (OfSubscriptName name)) ps → Holds want.Integer (constant_named ps (known ps) p name.name [])
  name_holds d a name same first =
      name_holds_by a name.name (constant_named ps (known ps) p name.name []) refl same
      (named_sane ps counted p declared name.name [] usage.Value (ap (λ k. is_some (means ps k name.name) || is_known_builtin name.name usage.Value) (sym same) ∙ known_subscript d a name first)) (name_integer d a name first)

  -- what a reference is worth, by what its name is
  referred_suits : (o : Option Class) (x : Subscript) (c : Constant) → IsSane c → ((v : Value) → c ≡ constant.Worth v → Suits o (subscripted ps (known ps) p v x))
      → Suits o (elim c [ constant.Worth v ↦ subscripted ps (known ps) p v x | constant.Failed ↦ constant.Failed | constant.Open ↦ constant.Open | constant.Unfit ↦ constant.Unfit ])
  referred_suits o x (constant.Worth v) sane each = each v refl
  referred_suits o x constant.Failed sane each = tt
  referred_suits o x constant.Open sane each = tt
  referred_suits o x constant.Unfit sane each = absurd sane

  -- call forms of what is no constant
  open_multiplied : (block : ℕ) (ts : Expressions) → AllFit ps (known ps) p block want.Anything ts → IsIdle (multiplied ps (known ps) p constant.Open ts)
  unfolding multiplied no_more worse
  open_multiplied block NoExpressions are = tt
  open_multiplied block (MoreExpressions x NoExpressions) are = idle_left op2.Product constant.Open (worth_of x) tt (held_sane want.Anything (worth_of x) are.0.1)
  open_multiplied block (MoreExpressions x (MoreExpressions y others)) are = tt

  factor_holds_by : (block k : ℕ) (q : Phrase) (common : List Attribute) (item : Declared) (place : Place) (c : Constant) → slice_get ps k ≡ Some q → q.node ≡ OfItem common item → constant_at ps (known ps) p q [] (OfItem common item) ≡ c → IsSane c
      → factor_fault place (data_at ps q [] (OfItem common item)) ≡ None → Holds want.Integer c
  factor_holds_by block k q common item place (constant.Worth v) there same is sane none =
      let found = node_value ps counted p k q [] (OfItem common item) v there is in
      let there_is : data_at ps q [] (OfItem common item) ≡ Some (single v) = ap (data_at ps q []) (sym same ∙ found.declares) ∙ value_data ps q [] v found in
      held want.Integer (Some (class_of_value v)) (constant.Worth v) (record { known = refl; right = found.right })
      (ap (misfit want.Integer) (sym (in_class v (kinds.choice 0 0 0 false false)))
      ∙ no_rule place (misfit want.Integer (class_in (single v) (kinds.choice 0 0 0 false false))) (ap (factor_fault place) (sym there_is) ∙ none))
  factor_holds_by block k q common item place constant.Failed there same is sane none = tt
  factor_holds_by block k q common item place constant.Open there same is sane none = tt
  factor_holds_by block k q common item place constant.Unfit there same is sane none = absurd sane

  product_suits : (block k : ℕ) (q : Phrase) (common : List Attribute) (item : Declared) (place : Place) (raised_ : Bool) (ts : Expressions) → slice_get ps k ≡ Some q → q.node ≡ OfItem common item → AllFit ps (known ps) p block want.Anything ts
      → product_fault ps block place (data_at ps q [] (OfItem common item)) raised_ ts ≡ None → Suits (Some class.Integer) (multiplied ps (known ps) p (constant_at ps (known ps) p q [] (OfItem common item)) ts)
  unfolding product_fault multiplied no_more
  product_suits block k q common item place true ts there same are none = absurd (cc)
  product_suits block k q common item place false NoExpressions there same are none = absurd (cc)
  product_suits block k q common item place false (MoreExpressions x (MoreExpressions y others)) there same are none = absurd (cc)
  product_suits block k q common item place false (MoreExpressions x NoExpressions) there same are none =
      let c : Constant = constant_at ps (known ps) p q [] (OfItem common item) in
      let first = option_first (factor_fault place (data_at ps q [] (OfItem common item))) (misfit_at ps block want.Integer x) none in
      arithmetic_suits op2.Product c (worth_of x) refl (factor_holds_by block k q common item place c there same refl (node_sane ps counted p q [] (OfItem common item)) first.0)
      (argument_held ps (known ps) p block want.Integer x are.0 first.1)

  temporary_product : (block : ℕ) (place : Place) (found : Option Data) (raised_ : Bool) (ts : Expressions) → AllFit ps (known ps) p block want.Anything ts → Suits (Some class.Integer) (multiplied ps (known ps) p constant.Open ts)
  temporary_product block place found raised_ ts are = idle_suits (Some class.Integer) _ (open_multiplied block ts are)

  -- the call form, in this phrase, of what a phrase declares
  node_formed : (block k : ℕ) (f q : Phrase) (place : Place) (n : Node) (ts : Expressions) → f.around.block ≡ block → slice_get ps k ≡ Some q → q.node ≡ n → AllFit ps (known ps) p block want.Anything ts
      → declared_fault ps f place ts q n ≡ None → Suits (class_of_called n) (multiplied ps (known ps) p (factor_at ps (known ps) p q n) ts)
  unfolding declared_fault class_of_called factor_at
  node_formed block k f q place (OfTemplate name head declarations) ts here there same are none = idle_suits _ _ (open_multiplied block ts are)
  node_formed block k f q place (OfUnit name head declarations) ts here there same are none = idle_suits _ _ (open_multiplied block ts are)
  node_formed block k f q place (OfItem common item) ts here there same are none =
      product_suits block k q common item place (is_raised ps f.around.parent) ts there same are
      (ap (λ b. product_fault ps b place (data_at ps q [] (OfItem common item)) (is_raised ps f.around.parent) ts) (sym here) ∙ none)
  node_formed block k f q place (OfTemporaryGroup labels variable) ts here there same are none = idle_suits _ _ (open_multiplied block ts are)
  node_formed block k f q place other ts here there same are none = absurd (cc)

  builtin_formed : (block : ℕ) (place : Place) (name : List ℕ) (o : Option Builtin) (ts : Expressions) → builtin_named name ≡ o → is_known_builtin name usage.CallForm ≡ true → AllFit ps (known ps) p block want.Anything ts
      → option_and_then (λ b. formed_fault ps block place b (form_of b) ts) o ≡ None
      → Suits (option_and_then class_of_function o) (computed ps (known ps) p (elim o [ None ↦ operation.Nothing | Some b ↦ operation_of b ]) ts)
  builtin_formed block place name None ts same known_ are none =
      let other : false ≡ true = ap (λ (o : Option Builtin). elim o [ None ↦ false | Some b ↦ is_known usage.CallForm (form_of b) ]) (sym same) ∙ known_ in absurd (cc)
  builtin_formed block place name (Some b) ts same known_ are none = built_suits ps (known ps) p block place b ts are none

  -- a call form by what its name means
  formed_by : (block : ℕ) (f : Phrase) (place : Place) (name : List ℕ) (ts : Expressions) (o : Option ℕ) → means ps block name ≡ o → f.around.block ≡ block → (is_some o || is_known_builtin name usage.CallForm) ≡ true
      → AllFit ps (known ps) p block want.Anything ts
      → ◌≡◌ {A = Option (ℕ × Place)} (elim o [ None ↦ calls.builtin_fault ps block place name ts | Some k ↦ option_and_then (λ (q : Phrase). declared_fault ps f place ts q q.node) (slice_get ps k) ]) None
      → Suits (elim o [ None ↦ option_and_then class_of_function (builtin_named name) | Some k ↦ option_and_then (λ (q : Phrase). class_of_called q.node) (slice_get ps k) ])
      (elim o [ None ↦ computed ps (known ps) p (operation_named name) ts | Some k ↦ multiplied ps (known ps) p (called_at ps (known ps) p k) ts ])
  formed_by block f place name ts None meant here is are none = builtin_formed block place name (builtin_named name) ts refl is are none
  formed_by block f place name ts (Some k) meant here is are none =
      let first = (declared block name k meant).1 in
      let q : Phrase = first.declaring in
      let fault : declared_fault ps f place ts q q.node ≡ None = ap (option_and_then (λ (x : Phrase). declared_fault ps f place ts x x.node)) (sym first.there) ∙ none in
      subst (λ (x : Option Phrase). Suits (option_and_then (λ (y : Phrase). class_of_called y.node) x) (multiplied ps (known ps) p (elim x [ None ↦ constant.Unfit | Some y ↦ factor_at ps (known ps) p y y.node ]) ts)) (sym first.there)
      (node_formed block k f q place q.node ts here first.there refl are fault)

  form_suits : (d : List Phrase) (a : Around) (place : Place) (name : List ℕ) (ts : Expressions) → AreFirst (add d a (OfCallForm place name ts)) ps → a.block ≡ p.around.block → AllFit ps (known ps) p a.block want.Anything ts
      → Suits (class_of_call ps a.block name) (elim (means ps p.around.block name) [ None ↦ computed ps (known ps) p (operation_named name) ts | Some k ↦ multiplied ps (known ps) p (called_at ps (known ps) p k) ts ])
  unfolding use_rows miscalled
  form_suits d a place name ts first same are =
      let f : Phrase = phrase (length d) a (OfCallForm place name ts) in
      subst (λ b. Suits (class_of_call ps a.block name) (elim (means ps b name) [ None ↦ computed ps (known ps) p (operation_named name) ts | Some k ↦ multiplied ps (known ps) p (called_at ps (known ps) p k) ts ])) same
      (formed_by a.block f place name ts (means ps a.block name) refl refl (known_form d a place name ts first) are
      (unbroken type_rows ps sound f (among ps d a (OfCallForm place name ts) first) (λ qs o. miscalled qs o o.node) (of_uses (λ qs o. miscalled qs o o.node) (inr (inr (inr (inr (inr (inr (inr (inl refl)))))))))))

  whole_parts : (v : Value) (copies arrays components : Subscripts) → copies ≡ NoSubscripts → arrays ≡ NoSubscripts
      → (if is_none copies && is_none arrays then component_of ps (known ps) p v components else constant.Unfit) ≡ component_of ps (known ps) p v components
  unfolding is_none
  whole_parts v copies arrays components first second =
      ap (λ x. if is_none x && is_none arrays then component_of ps (known ps) p v components else constant.Unfit) first ∙ ap (λ x. if is_none x then component_of ps (known ps) p v components else constant.Unfit) second

  -- operands of CAT go together
  cat_fault : (d : List Phrase) (a : Around) (r : Role) (place : Place) (first : Expression) (others : Expressions) → is_value_role r ≡ true → AreFirst (add d a (OfExpression r (Cat place first others))) ps
      → joined_fault ps a.block (class_of ps a.block first) others ≡ None
  unfolding pair_fault
  cat_fault d a r place first others value begun = matched ps sound d a r (Cat place first others) (value_eventless r value) begun

  mutual
    unfolding gathered gathered_all gathered_terms gathered_reference gathered_subscript gathered_subs gathered_sub gathered_position class_of class_of_reference constant_of referred subscripted component_of is_none component_by constants.place_of class_of_conversion operation_of_conversion

    pub suits : (d : List Phrase) (a : Around) (r : Role) (t : Expression) → is_value_role r ≡ true → a.block ≡ p.around.block → AreFirst (gathered d a r t) ps → Suits (class_of ps a.block t) (constant_of ps (known ps) p t)
    suits d a r (Or place first others) value same begun =
        let e : List Phrase = add d a (OfExpression r (Or place first others)) in
        let one_role : Role = roles.under r role.Disjunct in
        let f : List Phrase = gathered e (below d a) one_role first in
        let first_begun = then_ (expressions_first f (below d a) one_role others) begun in
        let is_value = under_value r role.Disjunct value refl in
        let is_wanted = under_wants r role.Disjunct want.Truth value disjunct in
        let is = suits e (below d a) one_role first is_value same first_begun in
        beside_suits ps (known ps) p a.block op2.Or (class_of ps a.block first) (worth_of first) others refl is (holds e (below d a) one_role want.Truth first is_wanted first_begun is)
        (all_fit f (below d a) one_role want.Truth others is_value is_wanted same begun)
    suits d a r (And place first others) value same begun =
        let e : List Phrase = add d a (OfExpression r (And place first others)) in
        let one_role : Role = roles.under r role.Conjunct in
        let f : List Phrase = gathered e (below d a) one_role first in
        let first_begun = then_ (expressions_first f (below d a) one_role others) begun in
        let is_value = under_value r role.Conjunct value refl in
        let is_wanted = under_wants r role.Conjunct want.Truth value conjunct in
        let is = suits e (below d a) one_role first is_value same first_begun in
        beside_suits ps (known ps) p a.block op2.And (class_of ps a.block first) (worth_of first) others refl is (holds e (below d a) one_role want.Truth first is_wanted first_begun is)
        (all_fit f (below d a) one_role want.Truth others is_value is_wanted same begun)
    suits d a r (Compare place left relation right) value same begun = tt
    suits d a r (Cat place first others) value same begun =
        let t : Expression = Cat place first others in
        let e : List Phrase = add d a (OfExpression r t) in
        let f : List Phrase = gathered e (below d a) role.Joined first in
        let first_begun = then_ (expressions_first f (below d a) role.Joined others) begun in
        joined_suits ps (known ps) p a.block others (class_of ps a.block first) (worth_of first) (all_fit f (below d a) role.Joined want.Value others refl joins same begun)
        (suits e (below d a) role.Joined first refl same first_begun) (cat_fault d a r place first others value (then_ (own_first d a r t) begun))
    suits d a r (Sum place opening first others) value same begun =
        let e : List Phrase = add d a (OfExpression r (Sum place opening first others)) in
        let f : List Phrase = gathered e (below d a) role.Summand first in
        let first_begun = then_ (terms_first f (below d a) others) begun in
        let is = suits e (below d a) role.Summand first refl same first_begun in
        holding_suits (summed ps (known ps) p (signed opening (worth_of first)) others)
        (sum_holds ps (known ps) p a.block (signed opening (worth_of first)) others (signed_holds opening (worth_of first) (holds e (below d a) role.Summand want.Integer first summand first_begun is)) (terms_fit f (below d a) others same begun))
    suits d a r (Product place first others) value same begun =
        let e : List Phrase = add d a (OfExpression r (Product place first others)) in
        let f : List Phrase = gathered e (below d a) role.Factor first in
        let first_begun = then_ (expressions_first f (below d a) role.Factor others) begun in
        let is = suits e (below d a) role.Factor first refl same first_begun in
        holding_suits (folded ps (known ps) p op2.Product (worth_of first) others)
        (product_holds ps (known ps) p a.block (worth_of first) others (holds e (below d a) role.Factor want.Integer first factor first_begun is) (all_fit f (below d a) role.Factor want.Integer others refl factor same begun))
    suits d a r (Power place base exponent) value same begun =
        let e : List Phrase = add d a (OfExpression r (Power place base exponent)) in
        let f : List Phrase = gathered e (below d a) role.Base base in
        let base_begun = then_ (expression_first f (below d a) role.Exponent exponent) begun in
        let is = suits e (below d a) role.Base base refl same base_begun in
        raised_suits (worth_of base) exponent (holds e (below d a) role.Base want.Integer base raises base_begun is) (exponent_right f (below d a) exponent begun)
    suits d a r (Not place operand) value same begun =
        let e : List Phrase = add d a (OfExpression r (Not place operand)) in
        let one_role : Role = roles.under r role.Negated in
        let is = suits e (below d a) one_role operand (under_value r role.Negated value refl) same begun in
        not_suits (worth_of operand) (holds e (below d a) one_role want.Bits operand (under_wants r role.Negated want.Bits value negated) begun is)
    suits d a r (Literal place literal) value same begun = literal_suits literal (literals (phrase (length d) a (OfExpression r (Literal place literal))) (among ps d a (OfExpression r (Literal place literal)) begun))
    suits d a r (Decimal place number) value same begun = no_decimal ps sound d a r place number (value_timeless ps a.parent r value) begun
    suits d a r (Referred reference) value same begun = reference_suits (add d a (OfExpression r (Referred reference))) (below d a) r reference same begun
    suits d a r (Called place name arguments) value same begun =
        let e : List Phrase = add d a (OfExpression r (Called place name arguments)) in
        let f : List Phrase = add e (below d a) (OfCallForm place name arguments) in
        form_suits e (below d a) place name arguments (then_ (expressions_first f (below d a) role.Argument arguments) begun) same (all_fit f (below d a) role.Argument want.Anything arguments refl argued same begun)
    suits d a r (Convert place ToInteger operand) value same begun =
        let e : List Phrase = add d a (OfExpression r (Convert place ToInteger operand)) in
        integer_suits (worth_of operand) (holds e (below d a) role.ToInteger want.String operand converts_string begun (suits e (below d a) role.ToInteger operand refl same begun))
    suits d a r (Convert place ToBits operand) value same begun =
        let e : List Phrase = add d a (OfExpression r (Convert place ToBits operand)) in
        bit_suits (worth_of operand) (holds e (below d a) role.ToBits want.Integer operand converts_integer begun (suits e (below d a) role.ToBits operand refl same begun))
    suits d a r (Convert place ToText operand) value same begun =
        let e : List Phrase = add d a (OfExpression r (Convert place ToText operand)) in
        character_suits (worth_of operand) (holds e (below d a) role.ToText want.Value operand converts_value begun (suits e (below d a) role.ToText operand refl same begun))
    suits d a r (Parenthesis place inner) value same begun =
        let e : List Phrase = add d a (OfExpression r (Parenthesis place inner)) in
        enclosed_suits (class_of ps a.block inner) (worth_of inner) (suits e (below d a) (roles.under r role.Enclosed) inner (under_value r role.Enclosed value refl) same begun)

    -- expressions of one role
    all_fit : (d : List Phrase) (a : Around) (r : Role) (w : Want) (ts : Expressions) → is_value_role r ≡ true → wanted r ≡ w → a.block ≡ p.around.block → AreFirst (gathered_all d a r ts) ps
        → AllFit ps (known ps) p a.block w ts
    all_fit d a r w NoExpressions value is same begun = tt
    all_fit d a r w (MoreExpressions first others) value is same begun =
        let e : List Phrase = gathered d a r first in
        let first_begun = then_ (expressions_first e a r others) begun in
        let one = suits d a r first value same first_begun in ((one, holds d a r w first is first_begun one), all_fit e a r w others value is same begun)

    terms_fit : (d : List Phrase) (a : Around) (ts : Terms) → a.block ≡ p.around.block → AreFirst (gathered_terms d a ts) ps → TermsFit ps (known ps) p a.block ts
    terms_fit d a NoTerms same begun = tt
    terms_fit d a (MoreTerms place sign term others) same begun =
        let e : List Phrase = gathered d a role.Summand term in
        let first_begun = then_ (terms_first e a others) begun in
        (holds d a role.Summand want.Integer term summand first_begun (suits d a role.Summand term refl same first_begun), terms_fit e a others same begun)

    -- a reference
    reference_suits : (d : List Phrase) (a : Around) (r : Role) (x : Reference) → a.block ≡ p.around.block → AreFirst (gathered_reference d a r x) ps → Suits (class_of_reference ps a.block x) (referred ps (known ps) p x)
    reference_suits d a r (Refers place name path x) same begun =
        let e : List Phrase = add d a (OfReference r (Refers place name path x)) in
        let own = then_ (subscript_first e (below d a) x) begun in
        referred_suits (class_of_path ps a.block name path x) x (constant_named ps (known ps) p name path)
        (named_sane ps counted p declared name path (usage_of r) (ap (λ k. is_some (means ps k name) || is_known_builtin name (usage_of r)) (sym same) ∙ known_reference d a r place name path x own))
        (λ v is.
        let n = name_in ps a.block p.around.block name path v same (named_value ps counted p name path v is) in
        let both = value_chosen ps a.block name path x v n (chosen_right d a r place name path x own) in
        subst (λ o. Suits o (subscripted ps (known ps) p v x)) (sym both.0)
        (subscript_suits d a r place name path e (below d a) v x n.is.right both.1 same own begun))

    -- what a subscript chooses of a value
    subscript_suits : (b : List Phrase) (o : Around) (r : Role) (place : Place) (name : List ℕ) (path : List Naming) (d : List Phrase) (a : Around) (v : Value) (x : Subscript) → IsRight v → PartsFit v x → a.block ≡ p.around.block
        → AreFirst (add b o (OfReference r (Refers place name path x))) ps → AreFirst (gathered_subscript d a x) ps → Suits (Some (class_of_value v)) (subscripted ps (known ps) p v x)
    subscript_suits b o r place name path d a v Unsubscripted right parts same own begun = record { known = refl; right = right }
    subscript_suits b o r place name path d a v (ByName at n) right parts same own begun = one_picks v (constant_named ps (known ps) p n.name []) right parts (name_holds d a n same begun)
    subscript_suits b o r place name path d a v (ByInteger at near number) right parts same own begun = one_picks v (whole number) right parts (whole_holds number)
    subscript_suits b o r place name path d a v (ByParts at copies arrays (MoreSubscripts x NoSubscripts)) right parts same own begun =
        subst (Suits (Some (class_of_value v))) (sym (whole_parts v copies arrays (MoreSubscripts x NoSubscripts) parts.0 parts.1))
        (sub_suits (gathered_subs (gathered_subs d a role.CopySubscript copies) a role.ArraySubscript arrays) a v x right parts.2 same begun)
    subscript_suits b o r place name path d a v (ByParts at copies arrays (MoreSubscripts x (MoreSubscripts y others))) right parts same own begun = absurd parts.2
    subscript_suits b o r place name path d a v (ByParts at copies arrays NoSubscripts) right parts same own begun =
        absurd (no_parts r place name path at copies arrays parts.0 parts.1 (literals (phrase (length b) o (OfReference r (Refers place name path (ByParts at copies arrays NoSubscripts))))
        (among ps b o (OfReference r (Refers place name path (ByParts at copies arrays NoSubscripts))) own)))

    -- one component
    sub_suits : (d : List Phrase) (a : Around) (v : Value) (x : Sub) → IsRight v → is_string (class_of_value v) ≡ true → a.block ≡ p.around.block → AreFirst (gathered_sub d a role.ComponentSubscript x) ps
        → Suits (Some (class_of_value v)) (component_by ps (known ps) p v x)
    sub_suits d a v (Every place) right string same begun = component_suits v (part.To (pos 1) (pos (place_count v))) right string
    sub_suits d a v (OnePlace position) right string same begun = one_picks v (constants.place_of ps (known ps) p v position) right string (position_holds d a v position same begun)
    sub_suits d a v (Range first last) right string same begun =
        to_picks v (constants.place_of ps (known ps) p v first) (constants.place_of ps (known ps) p v last) right string
        (position_holds d a v first same (then_ (position_first (gathered_position d a role.ComponentSubscript first) a role.ComponentSubscript last) begun))
        (position_holds (gathered_position d a role.ComponentSubscript first) a v last same begun)
    sub_suits d a v (Portion count first) right string same begun =
        let count_begun = then_ (position_first (gathered d a role.ComponentSubscript count) a role.ComponentSubscript first) begun in
        from_picks v (worth_of count) (constants.place_of ps (known ps) p v first) right string
        (holds d a role.ComponentSubscript want.Integer count subscripts count_begun (suits d a role.ComponentSubscript count refl same count_begun)) (position_holds (gathered d a role.ComponentSubscript count) a v first same begun)

    position_holds : (d : List Phrase) (a : Around) (v : Value) (x : Position) → a.block ≡ p.around.block → AreFirst (gathered_position d a role.ComponentSubscript x) ps → Holds want.Integer (constants.place_of ps (known ps) p v x)
    position_holds d a v (FromBeginning t) same begun = holds d a role.ComponentSubscript want.Integer t subscripts begun (suits d a role.ComponentSubscript t refl same begun)
    position_holds d a v (FromEnd place terms) same begun = sum_holds ps (known ps) p a.block (whole (place_count v)) terms (whole_holds (place_count v)) (terms_fit d a terms same begun)
