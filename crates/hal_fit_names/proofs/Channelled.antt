-- Channels are for the meaning what they are for the checks, in a set that breaks no rule.
use Rattle.std.proofs.Common.{◌≡◌, ◌⊎◌, ℕ, Bool, true, false, ◌&&◌, List, [], Option, Some, None, slice_get, refl, sym, ap, ◌∙◌, subst, inl, inr}
use Rattle.std.specs.Prelude.{pos, unwrap_or, if◌then◌else◌}
use Rattle.std.specs.Option.{is_some}
use Rattle.hal_grammar.specs.Declarations.{Attribute, Declared, Initials}
use Rattle.hal_grammar.specs.Expressions.{Expression}
use Rattle.hal_phrases.specs.declared.role.Role.TheVariants as role
use Rattle.hal_phrases.specs.Phrases.{Node, Phrase, OfItem}
use Rattle.hal_phrases.specs.GatheredExpressions.{gathered}
use Rattle.hal_names.specs.Laws.{IsCounted}
use Rattle.hal_names.specs.Means.{means}
use Rattle.hal_scope.specs.Builtins.{builtin_named}
use Rattle.hal_scope.specs.Rules.{IsAmong, IsSound, rows}
use Rattle.hal_scope.specs.Sorts.{type_of}
use Rattle.hal_scope.specs.Uses.{is_nil}
use Rattle.hal_kinds.specs.Attributes as attributes
use Rattle.hal_kinds.specs.Classes.{class_of}
use Rattle.hal_kinds.specs.Data.{is_event_type}
use Rattle.hal_types.specs.Rules.{type_rows}
use Rattle.hal_values.specs.declared.value.Value.{Value}
use Rattle.hal_values.specs.declared.value.Value.TheVariants as value
use Rattle.hal_constants.specs.declared.constant.Constant.{Constant}
use Rattle.hal_constants.specs.declared.constant.Constant.TheVariants as constant
use Rattle.hal_constants.specs.Constants.{constant_of}
use Rattle.hal_constants.specs.Known.{Known, known}
use Rattle.hal_constants.specs.Naming.{constant_at, constant_known, is_before, is_value_item, undeclared, value_at}
use Rattle.hal_storage.specs.referents.Referents.{ConstantOf, Referent, Unmeant, builtin_referent, declaration_referent, node_referent, phrase_referent, referent_in}
use Rattle.hal_meaning.specs.Bodies.{meant, standing_for}
use Rattle.hal_agreement.specs.Constants.{IsConstant}
use Rattle.hal_agreement.specs.Sites.{Site, within_block}
use Rattle.hal_fit_constants.specs.Names.{NamesAgree}
use Rattle.hal_fit_rules.specs.Begun.{AreFirst}
use Rattle.hal_fit_rules.specs.Channels.{ChannelAgrees}
use Rattle.hal_fit_rules.specs.Valued.{HasConstants}
use Rattle.hal_fit_names.specs.Standing.{StandsForData, StandsForItself}
use Rattle.hal_fit_names.specs.Suited.{AreDeclared, HasFitLiterals, Suits}
use Rattle.hal_fit_names.proofs.Clashing.{constant_eventless}
use Rattle.hal_fit_names.proofs.Placing.{NodePlaced, at_among}
use Rattle.hal_fit_names.proofs.SameValues.{valued_same}
use Rattle.hal_fit_names.proofs.Suiting.{suits}

when_true : {X : Type 0} (b : Bool) (x y : X) → b ≡ true → (if b then x else y) ≡ x
when_true true x y is = refl
when_true false x y is = absurd (cc)

when_false : {X : Type 0} (b : Bool) (x y : X) → b ≡ false → (if b then x else y) ≡ y
when_false false x y is = refl
when_false true x y is = absurd (cc)

no_builtin : {X : Type 0} (builtin : Bool) (v : Value) → (if builtin then constant.Open else constant.Unfit) ≡ constant.Worth v → X
no_builtin true v is = absurd (cc)
no_builtin false v is = absurd (cc)

known_value : (o : Option Value) (v : Value) → constant_known o ≡ constant.Worth v → o ≡ Some v
unfolding constant_known
known_value None v is = absurd (cc)
known_value (Some w) v is = ap Some (let same : w ≡ v = cc in same)

item_value : (valued before : Bool) (o : Option Value) (v : Value) → (if valued && before then constant_known o else constant.Open) ≡ constant.Worth v → (valued ≡ true) × (o ≡ Some v)
item_value true true o v is = (refl, known_value o v is)
item_value true false o v is = absurd (cc)
item_value false before o v is = absurd (cc)

first_of : (o : Option Initials) (b : Bool) → is_some o && b ≡ true → (list : Initials) × (o ≡ Some list)
first_of (Some list) b is = (list, refl)
first_of None b is = absurd (cc)

-- what the declaration stands for that a name means, and what the name refers to then
abbrev standing : List Phrase → Option ℕ → Option ℕ
standing ps None = None
standing ps (Some k) = Some (standing_for ps k)

abbrev referred_to : List Phrase → Known → List ℕ → Option ℕ → Referent
referred_to ps vs name None = builtin_referent name
referred_to ps vs name (Some k) = declaration_referent ps vs k

-- the same as the meaning has it
referred_same : (ps : List Phrase) (vs : Known) (block : ℕ) (name : List ℕ) → referent_in ps vs block name ≡ referred_to ps vs name (standing ps (means ps block name))
referred_same ps vs block name = by (means ps block name) refl where
  at_standing : (o : Option ℕ) → ◌≡◌ {A = Referent} (elim o [ None ↦ builtin_referent name | Some k ↦ declaration_referent ps vs k ]) (referred_to ps vs name o)
  at_standing None = refl
  at_standing (Some k) = refl

  stands : (o : Option ℕ) → ◌≡◌ {A = Option ℕ} (elim o [ None ↦ None | Some k ↦ Some (standing_for ps k) ]) (standing ps o)
  stands None = refl
  stands (Some k) = refl

  by : (o : Option ℕ) → o ≡ means ps block name → referent_in ps vs block name ≡ referred_to ps vs name (standing ps o)
  by o is = at_standing (meant ps block name) ∙ ap (referred_to ps vs name) (stands (means ps block name) ∙ ap (standing ps) (sym is))

module _ (site : Site) (named : IsSound rows site.set.phrases) (sound : IsSound type_rows site.set.phrases) (counted : IsCounted site.set.phrases) (declared : AreDeclared site.set.phrases) (literals : HasFitLiterals site.set.phrases)
    (has : HasConstants site)
    (pools : (k : ℕ) (p : Phrase) (common : List Attribute) (item : Declared) → slice_get site.set.phrases k ≡ Some p → p.node ≡ OfItem common item
    → StandsForData site.set.phrases k p common item ⊎ StandsForItself site.set.phrases k p common item)
    (same : (k : ℕ) (p : Phrase) (common : List Attribute) (item : Declared) → slice_get site.set.phrases k ≡ Some p → p.node ≡ OfItem common item → is_value_item common item ≡ true
    → (stands : StandsForData site.set.phrases k p common item) → value_at site.set.constants stands.phrase.number ≡ value_at site.set.constants p.number) (placed : (p : Phrase) → IsAmong p site.set.phrases → NodePlaced site.set.phrases p p.node) (q : Phrase) where
  -- what a constant refers to
  item_refers : (r : Phrase) (common : List Attribute) (item : Declared) (v : Value) → IsAmong r site.set.phrases → r.node ≡ OfItem common item → is_value_item common item ≡ true
      → value_at (known site.set.phrases) r.number ≡ Some v → phrase_referent site.set.phrases site.set.constants r ≡ ConstantOf v
  item_refers r common item v within is valued worth =
      let ps : List Phrase = site.set.phrases in
      let given = (subst (λ n. NodePlaced ps r n) is (placed r within)).2 in
      let list = first_of (attributes.constant_of common item) _ valued in
      let eventless : is_event_type (type_of common item) ≡ false = constant_eventless ps sound r within common item is given.phrase given.within given.is list.0 list.1 in
      ap (node_referent ps site.set.constants r) is
      ∙ (when_false (is_event_type (type_of common item)) _ _ eventless
      ∙ (when_true (is_value_item common item) _ _ valued
      ∙ ap (λ (o : Option Value). ConstantOf (unwrap_or o (value.Int (pos 0)))) (ap (λ (vs : Known). value_at vs r.number) has ∙ worth)))

  -- a name that the checks know a value of refers to a constant with this value
  refers : (name : List ℕ) (v : Value) (o : Option ℕ) → means site.set.phrases q.around.block name ≡ o
      → ◌≡◌ {A = Constant} (elim o [ None ↦ undeclared name | Some k ↦ elim (slice_get site.set.phrases k) [ None ↦ constant.Unfit | Some r ↦ constant_at site.set.phrases (known site.set.phrases) q r [] r.node ] ]) (constant.Worth v)
      → referred_to site.set.phrases site.set.constants name (standing site.set.phrases o) ≡ ConstantOf v
  unfolding constant_at is_nil
  refers name v None means_it is = no_builtin (is_some (builtin_named name)) v is
  refers name v (Some k) means_it is = by (slice_get site.set.phrases k) refl is where
    of_node : (r : Phrase) → slice_get site.set.phrases k ≡ Some r → (n : Node) → r.node ≡ n → constant_at site.set.phrases (known site.set.phrases) q r [] n ≡ constant.Worth v
        → declaration_referent site.set.phrases site.set.constants (standing_for site.set.phrases k) ≡ ConstantOf v
    of_node r there (OfItem common item) node worth =
        let both = item_value (is_value_item common item) (is_before site.set.phrases q r) (value_at (known site.set.phrases) r.number) v worth in
        by_standing (pools k r common item there node) both.0 both.1 where
          referred : (j : ℕ) (s : Phrase) (c : List Attribute) (d : Declared) → standing_for site.set.phrases k ≡ j → slice_get site.set.phrases j ≡ Some s → s.node ≡ OfItem c d → is_value_item c d ≡ true
              → value_at (known site.set.phrases) s.number ≡ Some v → declaration_referent site.set.phrases site.set.constants (standing_for site.set.phrases k) ≡ ConstantOf v
          referred j s c d stands at is_item valued known_ =
              ap (declaration_referent site.set.phrases site.set.constants) stands
              ∙ (ap (λ (x : Option Phrase). elim x [ None ↦ Unmeant | Some p ↦ phrase_referent site.set.phrases site.set.constants p ]) at
              ∙ item_refers s c d v (at_among site.set.phrases j s at) is_item valued known_)

          by_standing : StandsForData site.set.phrases k r common item ⊎ StandsForItself site.set.phrases k r common item → is_value_item common item ≡ true
              → value_at (known site.set.phrases) r.number ≡ Some v → declaration_referent site.set.phrases site.set.constants (standing_for site.set.phrases k) ≡ ConstantOf v
          by_standing (inr itself) valued known_ = referred k r common item itself.0 there node valued known_
          by_standing (inl stands) valued known_ =
              referred stands.phrase.number stands.phrase stands.other_common stands.other stands.stands stands.there stands.declares
              (sym (valued_same site.set.phrases (known site.set.phrases) r stands.phrase common stands.other_common item stands.other stands.same) ∙ valued)
              (ap (λ (vs : Known). value_at vs stands.phrase.number) (sym has) ∙ (same k r common item there node valued stands ∙ (ap (λ (vs : Known). value_at vs r.number) has ∙ known_)))
    of_node r there other node worth = absurd (cc)

    by : (o : Option Phrase) → slice_get site.set.phrases k ≡ o → ◌≡◌ {A = Constant} (elim o [ None ↦ constant.Unfit | Some r ↦ constant_at site.set.phrases (known site.set.phrases) q r [] r.node ]) (constant.Worth v)
        → declaration_referent site.set.phrases site.set.constants (standing_for site.set.phrases k) ≡ ConstantOf v
    by None there worth = absurd (cc)
    by (Some r) there worth = of_node r there r.node refl worth

  pub names_agree : NamesAgree (within_block q.around.block site) (known site.set.phrases) q
  names_agree = record { here = refl; constants = λ name v is. referred_same site.set.phrases site.set.constants q.around.block name ∙ refers name v (means site.set.phrases q.around.block name) refl is }

  -- a channel
  pub channel_agrees : ((here : Site) (vs : Known) (p : Phrase) (tree : Expression) (v : Value) → NamesAgree here vs p → constant_of here.set.phrases vs p tree ≡ constant.Worth v → IsConstant here tree v)
      → (tree : Expression) (d : List Phrase) → AreFirst (gathered d q.around role.Channel tree) site.set.phrases → ChannelAgrees (within_block q.around.block site) site.set.phrases q tree
  channel_agrees constants tree d begun = record {
    fit = λ unfit. subst (Suits (class_of site.set.phrases q.around.block tree)) unfit (suits site.set.phrases named sound counted declared literals q d q.around role.Channel tree refl refl begun);
    constant = λ v worth. constants (within_block q.around.block site) (known site.set.phrases) q tree v names_agree worth;
  }
