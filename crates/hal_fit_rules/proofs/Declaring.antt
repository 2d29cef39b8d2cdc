-- Names of data that the unit itself declares agree.
use Rattle.std.proofs.Common.{◌≡◌, ℕ, zero, suc, nat_lt, Bool, true, false, List, [], ◌∷◌, ◌++◌, Option, Some, None, slice_get, if◌then◌else◌, refl, sym, ap, ◌∙◌, subst, arith, ◌&&◌}
use Rattle.std.specs.Prelude.{unwrap_or, pos}
use Rattle.std.specs.Option.{option_or, option_and_then}
use Rattle.std.proofs.lemmas.Bool.{lt-ltb}
use Rattle.hal_grammar.specs.Leaves.{Naming}
use Rattle.hal_grammar.specs.Expressions.{Expressions, NoExpressions, MoreExpressions}
use Rattle.hal_grammar.specs.Declarations.{Kind, IntegerKind, BooleanKind, EventKind, BitKind, CharacterKind, StructureKind, Double, Attribute, Declared}
use Rattle.hal_grammar.specs.Units.{Function, Returns, NoKind, HasKind}
use Rattle.hal_phrases.specs.Phrases.{Node, Phrase, OfUnit, OfItem, OfTemporaryGroup}
use Rattle.hal_names.specs.Means.{means}
use Rattle.hal_scope.specs.declared.builtin.Builtin.{Builtin}
use Rattle.hal_scope.specs.declared.builtin.Builtin.TheVariants as builtin
use Rattle.hal_scope.specs.declared.builtin.Form.TheVariants as form
use Rattle.hal_scope.specs.Builtins.{builtin_named, form_of}
use Rattle.hal_scope.specs.Sorts.{type_in, type_among, type_of}
use Rattle.hal_scope.specs.Uses.{is_nil}
use Rattle.hal_kinds.specs.declared.class.Class.{Class}
use Rattle.hal_kinds.specs.declared.class.Class.TheVariants as class
use Rattle.hal_kinds.specs.Classes.{class_of_builtin, class_of_form, class_of_head, class_of_result, class_of_returns}
use Rattle.hal_kinds.specs.Attributes.{count_of, sizes_in, sizes_among, sizes_of, has_mark}
use Rattle.hal_kinds.specs.Data.{class_of_type, has_copies, dimensions_of, data_with, data_of, data_at, is_event_type, is_structure_type}
use Rattle.hal_values.specs.declared.value.Kind as values
use Rattle.hal_values.specs.declared.value.Kind.TheVariants as kind
use Rattle.hal_constants.specs.Known.{Known, bits_kind, text_kind, kind_of, kind_of_type, size_of}
use Rattle.hal_constants.specs.Constants.{constant_of}
use Rattle.hal_constants.specs.Naming.{is_value_item, value_at}
use Rattle.hal_meaning.specs.Bodies.{standing_for}
use Rattle.hal_meaning.specs.Calls.{is_function, zero_of, zero_of_returns}
use Rattle.hal_meaning.specs.Elements.{Shape, component, sizes_given, shape_of, shape_of_type}
use Rattle.hal_values.specs.declared.value.Value.TheVariants as value
use Rattle.hal_states.specs.Spots.{Spot, Own}
use Rattle.hal_meaning.specs.Places.{storing}
use Rattle.hal_meaning.specs.ReportNames.{first_place}
use Rattle.hal_meaning.specs.Variables.{Meant, MeantData, MeantConstant, MeantNothing, name_meant, declaration_meant, builtin_meant, event_meant, item_meant, meant_by, spot_of, temporary_shape, is_arrayed, MeantBlock, MeantBuiltin}
use Rattle.hal_code.specs.Sorts.{Sort, I, B, T, sort_of}
use Rattle.hal_agreement.specs.Sites.{Site, here_at}
use Rattle.hal_fit_expr.specs.Uses.{Uses}
use Rattle.hal_fit_expr.specs.Sorted.{sort_of_builtin, sort_of_value, sort_of_body, sort_of_call}
use Rattle.hal_fit_classes.specs.Kinded.{sort_of_class}
use Rattle.hal_fit_rules.specs.Agreeing.{AreAlike, NodeAgrees, PhraseAgrees, DeclarationAgrees, NameAgrees}
use Rattle.hal_fit_rules.proofs.Cells.{same_sort}
use Rattle.hal_fit_rules.specs.Leaves.{IsKnown}
use Rattle.hal_fit_rules.specs.Received.{AreCells, CellsAgree}
use Rattle.hal_fit_rules.specs.Owned.{IsOwn, IsPlainData, IsTemporary, is_asking, IsBuiltinName, IsFunction}

or_or : {X : Type 0} (x y z : Option X) → option_or (option_or x y) z ≡ option_or x (option_or y z)
or_or None y z = refl
or_or (Some v) y z = refl

-- the type of a name that is declared is the first one among its attributes and those before the comma
pub types_joined : (xs ys : List Attribute) → type_among (xs ++ ys) ≡ option_or (type_among xs) (type_among ys)
unfolding type_among
types_joined [] ys = refl
types_joined (x ∷ xs) ys = ap (option_or (type_in x)) (types_joined xs ys) ∙ sym (or_or (type_in x) (type_among xs) (type_among ys))

-- and so are its sizes
pub sizes_joined : (xs ys : List Attribute) → sizes_among (xs ++ ys) ≡ option_or (sizes_among xs) (sizes_among ys)
unfolding sizes_among
sizes_joined [] ys = refl
sizes_joined (x ∷ xs) ys = ap (option_or (sizes_in x)) (sizes_joined xs ys) ∙ sym (or_or (sizes_in x) (sizes_among xs) (sizes_among ys))

-- cells of a type whose length is known have the sort of its class
bits_cells : (o : Option ℕ) (cells : values.Kind) → bits_kind o ≡ Some cells → sort_of cells ≡ B
unfolding bits_kind
bits_cells None cells is = absurd (cc)
bits_cells (Some n) (kind.Bits m) is = refl
bits_cells (Some n) kind.Single is = absurd (cc)
bits_cells (Some n) kind.Double is = absurd (cc)
bits_cells (Some n) (kind.Text m) is = absurd (cc)

text_cells : (o : Option ℕ) (cells : values.Kind) → text_kind o ≡ Some cells → sort_of cells ≡ T
unfolding text_kind
text_cells None cells is = absurd (cc)
text_cells (Some n) (kind.Text m) is = refl
text_cells (Some n) kind.Single is = absurd (cc)
text_cells (Some n) kind.Double is = absurd (cc)
text_cells (Some n) (kind.Bits m) is = absurd (cc)

integer_cells : (double : Bool) (cells : values.Kind) → Some (if double then kind.Double else kind.Single) ≡ Some cells → sort_of cells ≡ I
integer_cells double kind.Single is = refl
integer_cells double kind.Double is = refl
integer_cells true (kind.Bits m) is = absurd (cc)
integer_cells false (kind.Bits m) is = absurd (cc)
integer_cells true (kind.Text m) is = absurd (cc)
integer_cells false (kind.Text m) is = absurd (cc)

boolean_cells : (cells : values.Kind) → ◌≡◌ {A = Option values.Kind} (Some (kind.Bits 1)) (Some cells) → sort_of cells ≡ B
boolean_cells (kind.Bits m) is = refl
boolean_cells kind.Single is = absurd (cc)
boolean_cells kind.Double is = absurd (cc)
boolean_cells (kind.Text m) is = absurd (cc)

pub cells_of_type : (ps : List Phrase) (vs : Known) (p : Phrase) (double : Bool) (type_ : Kind) (cells : values.Kind) (s : Sort) → kind_of_type ps vs p double (Some type_) ≡ Some cells → sort_of_class (class_of_type type_) ≡ Some s → sort_of cells ≡ s
unfolding kind_of_type kind_of class_of_type
cells_of_type ps vs p double (IntegerKind place) cells s is worth = integer_cells double cells is ∙ same_sort I s worth
cells_of_type ps vs p double (BooleanKind place) cells s is worth = boolean_cells cells is ∙ same_sort B s worth
cells_of_type ps vs p double (EventKind place) cells s is worth = boolean_cells cells is ∙ same_sort B s worth
cells_of_type ps vs p double (BitKind place size) cells s is worth = bits_cells (size_of 32 (constant_of ps vs p size)) cells is ∙ same_sort B s worth
cells_of_type ps vs p double (CharacterKind place size) cells s is worth = text_cells (size_of 255 (constant_of ps vs p size)) cells is ∙ same_sort T s worth
cells_of_type ps vs p double (StructureKind place template copies) cells s is worth = absurd (cc)

-- data have dimensions where they have sizes
arrayed_by : (ps : List Phrase) (vs : Known) (p : Phrase) (sizes : Option Expressions) → nat_lt 0 (dimensions_of sizes) ≡ is_arrayed (sizes_given ps vs p sizes)
unfolding dimensions_of count_of
arrayed_by ps vs p None = refl
arrayed_by ps vs p (Some NoExpressions) = refl
arrayed_by ps vs p (Some (MoreExpressions first others)) = lt-ltb 0 (suc (count_of others)) (omega arith)

uncopied : (type_ : Kind) → is_structure_type (Some type_) ≡ false → has_copies type_ ≡ false
unfolding has_copies is_structure_type
uncopied (StructureKind place template copies) is = absurd (cc)
uncopied other is = refl

-- data of one component
abbrev pub single_shape : List Phrase → Known → Phrase → List Attribute → Shape
single_shape ps vs p attributes = record { copies = None; components = component ps vs p [] attributes ∷ [] }

-- the shape of data that are no structure
pub plain_shape : (ps : List Phrase) (vs : Known) (p : Phrase) (attributes : List Attribute) (type_ : Kind) → is_structure_type (Some type_) ≡ false
    → shape_of_type ps vs p attributes (Some type_) ≡ single_shape ps vs p attributes
unfolding is_structure_type
plain_shape ps vs p attributes (StructureKind place template copies) is = absurd (cc)
plain_shape ps vs p attributes other is = refl

-- data that a phrase declares, and those of another one with cells of the same kind and as many dimensions
pub items_alike : (ps : List Phrase) (vs : Known) (p q : Phrase) (common other_common : List Attribute) (item other : Declared) (type_ other_type : Kind) (double : Bool) (cells other_cells : values.Kind) → type_of common item ≡ Some type_
    → type_of other_common other ≡ Some other_type → is_structure_type (Some other_type) ≡ false → kind_of_type ps vs p double (Some type_) ≡ Some cells
    → kind_of_type ps vs q (has_mark Double (other.attributes ++ other_common)) (Some other_type) ≡ Some other_cells → cells ≡ other_cells → dimensions_of (sizes_of common item) ≡ dimensions_of (sizes_of other_common other)
    → AreAlike (data_at ps p [] (OfItem common item)) [] (shape_of ps vs q other_common other)
unfolding data_at data_of is_nil
items_alike ps vs p q common other_common item other type_ other_type double cells other_cells typed other_typed unstructured sized other_sized same dimensioned =
    let joined : type_among (other.attributes ++ other_common) ≡ Some other_type = types_joined other.attributes other_common ∙ other_typed in
    let shape = ap (shape_of_type ps vs q (other.attributes ++ other_common)) joined ∙ plain_shape ps vs q (other.attributes ++ other_common) other_type unstructured in
    subst (λ s. AreAlike (data_at ps p [] (OfItem common item)) [] s) (sym shape) (record {
      declared = data_with (class_of_type type_) (dimensions_of (sizes_of common item)) (has_copies type_);
      known = ap (λ o. data_of o (sizes_of common item)) typed;
      sorted = λ s worth.
          ap (λ o. sort_of (unwrap_or (kind_of_type ps vs q (has_mark Double (other.attributes ++ other_common)) o) kind.Single)) joined
          ∙ (ap (λ o. sort_of (unwrap_or o kind.Single)) other_sized ∙ (ap sort_of (sym same) ∙ cells_of_type ps vs p double type_ cells s sized worth));
      arrayed = λ plain. ap (nat_lt 0) dimensioned ∙ (arrayed_by ps vs q (sizes_of other_common other) ∙ ap (λ o. is_arrayed (sizes_given ps vs q o)) (sym (sizes_joined other.attributes other_common)));
    })

-- data that a phrase declares
pub item_alike : (ps : List Phrase) (vs : Known) (p : Phrase) (common : List Attribute) (item : Declared) (type_ : Kind) (cells : values.Kind) → type_of common item ≡ Some type_ → is_structure_type (Some type_) ≡ false
    → kind_of_type ps vs p (has_mark Double (item.attributes ++ common)) (Some type_) ≡ Some cells → AreAlike (data_at ps p [] (OfItem common item)) [] (shape_of ps vs p common item)
item_alike ps vs p common item type_ cells typed unstructured sized =
    items_alike ps vs p p common common item item type_ type_ (has_mark Double (item.attributes ++ common)) cells cells typed typed unstructured sized sized refl refl

-- the variable of a DO FOR
pub temporary_alike : (ps : List Phrase) (p : Phrase) (labels : List Naming) (variable : Naming) → AreAlike (data_at ps p [] (OfTemporaryGroup labels variable)) [] temporary_shape
unfolding data_at is_nil
temporary_alike ps p labels variable = record {
  declared = data_with class.Integer zero false;
  known = refl;
  sorted = λ s worth. same_sort I s worth;
  arrayed = λ plain. refl;
}

module _ (u : Uses) (site : Site) where
  -- a name means what its declaration stands for
  pub meant_standing : (name : List ℕ) (k j : ℕ) (q : Phrase) → means site.set.phrases site.block name ≡ Some k → standing_for site.set.phrases k ≡ j → slice_get site.set.phrases j ≡ Some q
      → name_meant (here_at site) name [] ≡ meant_by (here_at site) [] q q.node
  meant_standing name k j q meant stands there =
      ap (λ o. elim o [ None ↦ builtin_meant name | Some i ↦ declaration_meant (here_at site) [] i ])
      (ap (λ (o : Option ℕ). elim o [ None ↦ None | Some i ↦ Some (standing_for site.set.phrases i) ]) meant ∙ ap Some stands)
      ∙ ap (λ (o : Option Phrase). elim o [ None ↦ MeantNothing | Some p ↦ meant_by (here_at site) [] p p.node ]) there

  pub meant_itself : (name : List ℕ) (own : IsOwn site name) → name_meant (here_at site) name [] ≡ meant_by (here_at site) [] own.phrase own.phrase.node
  meant_itself name own = meant_standing name own.number own.number own.phrase own.meant own.own own.there

  -- a name with a path agrees where its declaration does with what it means
  pub agrees_as : (path : List Naming) (name : List ℕ) (k : ℕ) (p : Phrase) (n : Node) (m : Meant) → means site.set.phrases site.block name ≡ Some k → slice_get site.set.phrases k ≡ Some p → p.node ≡ n
      → name_meant (here_at site) name [] ≡ m → NodeAgrees u site site.set.phrases p path n m → NameAgrees u site site.set.phrases site.block name path
  agrees_as path name k p n m meant there declares whole agrees =
      let of_node : NodeAgrees u site site.set.phrases p path p.node m = subst (λ (x : Node). NodeAgrees u site site.set.phrases p path x m) (sym declares) agrees in
      let of_phrase : PhraseAgrees u site site.set.phrases path (slice_get site.set.phrases k) m =
      subst (λ (o : Option Phrase). PhraseAgrees u site site.set.phrases path o m) (sym there) of_node in
      let of_number : DeclarationAgrees u site site.set.phrases name path (means site.set.phrases site.block name) m =
      subst (λ (o : Option ℕ). DeclarationAgrees u site site.set.phrases name path o m) (sym meant) of_phrase in
      subst (λ (x : Meant). DeclarationAgrees u site site.set.phrases name path (means site.set.phrases site.block name) x) (sym whole) of_number

  -- a name with a path agrees where what declares it does
  pub agrees_at : (path : List Naming) (name : List ℕ) (own : IsOwn site name) (n : Node) (m : Meant) → own.phrase.node ≡ n → meant_by (here_at site) [] own.phrase n ≡ m
      → NodeAgrees u site site.set.phrases own.phrase path n m → NameAgrees u site site.set.phrases site.block name path
  agrees_at path name own n m declares is agrees =
      agrees_as path name own.number own.phrase n m own.meant own.there declares (meant_itself name own ∙ (ap (meant_by (here_at site) [] own.phrase) declares ∙ is)) agrees

  -- a name alone
  pub agrees_by : (name : List ℕ) (own : IsOwn site name) (n : Node) (m : Meant) → own.phrase.node ≡ n → meant_by (here_at site) [] own.phrase n ≡ m → NodeAgrees u site site.set.phrases own.phrase [] n m
      → NameAgrees u site site.set.phrases site.block name []
  agrees_by name own n m declares is agrees = agrees_at [] name own n m declares is agrees

  -- where data lie that a phrase declares
  abbrev pub lying : Phrase → List Attribute → Declared → Meant
  lying p common item = MeantData (spot_of (here_at site) [] p.number (storing site.set.phrases site.set.constants p (OfItem common item))) (shape_of site.set.phrases site.set.constants p common item)

  pub item_meant_so : (p : Phrase) (common : List Attribute) (item : Declared) (type_ : Kind) → type_of common item ≡ Some type_ → is_event_type (Some type_) ≡ false → is_value_item common item ≡ false
      → item_meant (here_at site) [] p common item ≡ lying p common item
  item_meant_so p common item type_ typed eventless stored =
      ap (λ b. if b then event_meant (here_at site) p.number else (if is_value_item common item then MeantConstant (unwrap_or (value_at site.set.constants p.number) (value.Int (pos 0))) else lying p common item)) (ap is_event_type typed ∙ eventless)
      ∙ ap (λ b. if b then MeantConstant (unwrap_or (value_at site.set.constants p.number) (value.Int (pos 0))) else lying p common item) stored

  pub plain_data_agree : (name : List ℕ) (own : IsOwn site name) → IsPlainData site own.phrase → NameAgrees u site site.set.phrases site.block name []
  plain_data_agree name own is =
      agrees_by name own (OfItem is.common is.item) (lying own.phrase is.common is.item) is.declares (item_meant_so own.phrase is.common is.item is.kind is.typed is.eventless is.stored)
      (item_alike site.set.phrases site.set.constants own.phrase is.common is.item is.kind is.cells is.typed is.unstructured is.sized)

  pub temporary_agrees : (name : List ℕ) (own : IsOwn site name) → IsTemporary own.phrase → NameAgrees u site site.set.phrases site.block name []
  temporary_agrees name own is =
      agrees_by name own (OfTemporaryGroup is.labels is.variable) (MeantData (Own (first_place site.places own.phrase.number)) temporary_shape) is.declares refl
      (temporary_alike site.set.phrases own.phrase is.labels is.variable)

  -- what receivers are that a name means
  pub cells_as : (path : List Naming) (name : List ℕ) (k : ℕ) (p : Phrase) (n : Node) (at : Spot) (shape : Shape) → means site.set.phrases site.block name ≡ Some k → slice_get site.set.phrases k ≡ Some p → p.node ≡ n
      → name_meant (here_at site) name [] ≡ MeantData at shape → AreAlike (data_at site.set.phrases p path n) path shape → CellsAgree site.set.phrases path (means site.set.phrases site.block name) (name_meant (here_at site) name [])
  cells_as path name k p n at shape meant there declares whole alike =
      let of_node : AreAlike (data_at site.set.phrases p path p.node) path shape = subst (λ (x : Node). AreAlike (data_at site.set.phrases p path x) path shape) (sym declares) alike in
      let of_phrase : AreCells site.set.phrases path (slice_get site.set.phrases k) (MeantData at shape) =
      subst (λ (o : Option Phrase). AreCells site.set.phrases path o (MeantData at shape)) (sym there) of_node in
      let of_number : CellsAgree site.set.phrases path (means site.set.phrases site.block name) (MeantData at shape) =
      subst (λ (o : Option ℕ). CellsAgree site.set.phrases path o (MeantData at shape)) (sym meant) of_phrase in
      subst (λ (x : Meant). CellsAgree site.set.phrases path (means site.set.phrases site.block name) x) (sym whole) of_number

  -- those that it declares
  pub cells_at : (path : List Naming) (name : List ℕ) (own : IsOwn site name) (n : Node) (at : Spot) (shape : Shape) → own.phrase.node ≡ n → meant_by (here_at site) [] own.phrase n ≡ MeantData at shape
      → AreAlike (data_at site.set.phrases own.phrase path n) path shape → CellsAgree site.set.phrases path (means site.set.phrases site.block name) (name_meant (here_at site) name [])
  cells_at path name own n at shape declares is alike =
      cells_as path name own.number own.phrase n at shape own.meant own.there declares (meant_itself name own ∙ (ap (meant_by (here_at site) [] own.phrase) declares ∙ is)) alike

  pub plain_cells_agree : (name : List ℕ) (own : IsOwn site name) → IsPlainData site own.phrase → CellsAgree site.set.phrases [] (means site.set.phrases site.block name) (name_meant (here_at site) name [])
  plain_cells_agree name own is =
      cells_at [] name own (OfItem is.common is.item) (spot_of (here_at site) [] own.phrase.number (storing site.set.phrases site.set.constants own.phrase (OfItem is.common is.item)))
      (shape_of site.set.phrases site.set.constants own.phrase is.common is.item) is.declares (item_meant_so own.phrase is.common is.item is.kind is.typed is.eventless is.stored)
      (item_alike site.set.phrases site.set.constants own.phrase is.common is.item is.kind is.cells is.typed is.unstructured is.sized)

  pub temporary_cells_agree : (name : List ℕ) (own : IsOwn site name) → IsTemporary own.phrase → CellsAgree site.set.phrases [] (means site.set.phrases site.block name) (name_meant (here_at site) name [])
  temporary_cells_agree name own is =
      cells_at [] name own (OfTemporaryGroup is.labels is.variable) (Own (first_place site.places own.phrase.number)) temporary_shape is.declares refl
      (temporary_alike site.set.phrases own.phrase is.labels is.variable)

  -- a built-in function without a list gives an integer
  builtin_known : (b : Builtin) → form_of b ≡ form.Alone → (is_asking b ≡ true → u.asks ≡ true) → IsKnown (class_of_builtin (Some b)) (sort_of_builtin u b)
  unfolding class_of_builtin class_of_form
  builtin_known builtin.Errgrp alone asked = record { found = class.Integer; known = refl; sorted = λ one s of_one worth. ap (option_and_then sort_of_class) of_one ∙ worth }
  builtin_known builtin.Errnum alone asked = record { found = class.Integer; known = refl; sorted = λ one s of_one worth. ap (option_and_then sort_of_class) of_one ∙ worth }
  builtin_known builtin.Runtime alone asked = record {
    found = class.Integer;
    known = refl;
    sorted = λ one s of_one worth. ap (λ b. if b then Some I else None) (asked refl) ∙ (ap (option_and_then sort_of_class) of_one ∙ worth);
  }
  builtin_known other alone asked = absurd (cc)

  pub builtin_agrees : (name : List ℕ) → IsBuiltinName u site name → NameAgrees u site site.set.phrases site.block name []
  unfolding is_nil
  builtin_agrees name is =
      let whole : name_meant (here_at site) name [] ≡ MeantBuiltin is.function =
      ap (λ o. elim o [ None ↦ builtin_meant name | Some k ↦ declaration_meant (here_at site) [] k ])
      (ap (λ (o : Option ℕ). elim o [ None ↦ None | Some k ↦ Some (standing_for site.set.phrases k) ]) is.undeclared)
      ∙ ap (λ (o : Option Builtin). elim o [ None ↦ MeantNothing | Some b ↦ MeantBuiltin b ]) is.named in
      let of_value : IsKnown (class_of_builtin (builtin_named name)) (sort_of_builtin u is.function) =
      subst (λ (o : Option Builtin). IsKnown (class_of_builtin o) (sort_of_builtin u is.function)) (sym is.named) (builtin_known is.function is.alone is.asked) in
      let of_number : DeclarationAgrees u site site.set.phrases name [] (means site.set.phrases site.block name) (MeantBuiltin is.function) =
      subst (λ (o : Option ℕ). DeclarationAgrees u site site.set.phrases name [] o (MeantBuiltin is.function)) (sym is.undeclared) (refl, of_value) in
      subst (λ (x : Meant). DeclarationAgrees u site site.set.phrases name [] (means site.set.phrases site.block name) x) (sym whole) of_number

  returned_sort : (returns : Returns) (c : Class) (s : Sort) → class_of_returns returns ≡ Some c → sort_of_class c ≡ Some s → sort_of_value (zero_of_returns returns) ≡ Some s
  unfolding class_of_returns class_of_result class_of_type
  returned_sort NoKind c s is worth = absurd (cc)
  returned_sort (HasKind (IntegerKind place) precision) c s is worth = ap (option_and_then sort_of_class) is ∙ worth
  returned_sort (HasKind (BooleanKind place) precision) c s is worth = ap (option_and_then sort_of_class) is ∙ worth
  returned_sort (HasKind (BitKind place size) precision) c s is worth = ap (option_and_then sort_of_class) is ∙ worth
  returned_sort (HasKind (CharacterKind place size) precision) c s is worth = ap (option_and_then sort_of_class) is ∙ worth
  returned_sort (HasKind (EventKind place) precision) c s is worth = absurd (cc)
  returned_sort (HasKind (StructureKind place template copies) precision) c s is worth = absurd (cc)

  -- what a FUNCTION gives
  pub function_gives : (p : Phrase) (is : IsFunction u site p) → IsKnown (class_of_returns is.returns) (sort_of_call u site p.number)
  function_gives p is =
      let called : sort_of_call u site p.number ≡ sort_of_value (zero_of_returns is.returns) =
      ap (option_and_then (sort_of_body u p.number)) is.unit
      ∙ (ap (λ h. if u.calls p.number && is_function h then sort_of_value (zero_of h) else None) is.head ∙ ap (λ b. if b && true then sort_of_value (zero_of_returns is.returns) else None) is.calls) in
      record { found = is.result; known = is.gives; sorted = λ one s of_one worth. called ∙ returned_sort is.returns one s of_one worth }

  pub function_agrees : (name : List ℕ) (own : IsOwn site name) → IsFunction u site own.phrase → NameAgrees u site site.set.phrases site.block name []
  unfolding class_of_head
  function_agrees name own is =
      agrees_by name own (OfUnit is.name (Function is.place is.inputs is.returns is.mode) is.declarations) (MeantBlock own.phrase.number) is.declares refl (function_gives own.phrase is)
