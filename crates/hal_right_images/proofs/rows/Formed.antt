-- Views have kinds in their ranges, shapes that are there, and dimensions with places.
use Rattle.std.specs.Prelude.{◌≡◌, ◌<◌, ℕ, min, nat_le, nat_lt, Bool, true, false, List, [], ◌∷◌, ◌++◌, cond, filter, length, map, Option, Some, None, slice_get, if◌then◌else◌}
use Rattle.std.specs.List.{list_all, position}
use Rattle.std.specs.Option.{option_and_then, option_map}
use Rattle.std.proofs.Common.{refl, sym, ap, subst, inl, inr, arith}
use Rattle.std.proofs.lemmas.Bool.{and_from, le-leb, lt-ltb}
use Rattle.std.proofs.lemmas.List.Quantifiers.{position-Some}
use Rattle.hal_grammar.specs.Leaves.{Naming}
use Rattle.hal_grammar.specs.Expressions.{Expression, Subscript, Unsubscripted, ByName, ByInteger, ByParts, Subscripts, NoSubscripts, MoreSubscripts, Every, One as OnePlace, Range, Portion}
use Rattle.hal_grammar.specs.Declarations as declarations
use Rattle.hal_grammar.specs.Declarations.{IntegerKind, BooleanKind, EventKind, BitKind, CharacterKind, StructureKind, Attribute, Declared, Part}
use Rattle.hal_grammar.specs.Units.{Head, Program, Compool, Task, Procedure, Function}
use Rattle.hal_phrases.specs.Phrases.{Node, Phrase, OfStructure, OfUnit, OfItem, OfTemporaryGroup}
use Rattle.hal_phrases.specs.GatheredDeclarations.{is_bottom}
use Rattle.hal_names.specs.Means.{means}
use Rattle.hal_scope.specs.Builtins.{builtin_named}
use Rattle.hal_scope.specs.declared.builtin.Builtin.{Builtin}
use Rattle.hal_scope.specs.Sorts.{type_among, type_of}
use Rattle.hal_kinds.specs.Attributes.{sizes_among}
use Rattle.hal_kinds.specs.Data.{is_event_type}
use Rattle.hal_constants.specs.Known.{Known}
use Rattle.hal_constants.specs.Naming.{is_value_item}
use Rattle.hal_values.specs.declared.value.Kind.{Kind}
use Rattle.hal_code.specs.declared.image.ImageParts.{ImageParts}
use Rattle.hal_code.specs.declared.row.Base.{Base}
use Rattle.hal_code.specs.declared.row.Dimension.{Dimension}
use Rattle.hal_code.specs.declared.row.Run.{Run}
use Rattle.hal_code.specs.declared.row.View.{View}
use Rattle.hal_code.specs.Right.{form_right}
use Rattle.hal_code.specs.Sorts.{is_kind}
use Rattle.hal_meaning.specs.Bodies.{meant}
use Rattle.hal_meaning.specs.Calls.{parameter_named}
use Rattle.hal_meaning.specs.Elements.{Component, Shape, Above, size_given, component, lower, path_to, components_from, components_at, leads, chosen, copy_size, offset, shape_of_type, shape_of}
use Rattle.hal_meaning.specs.Events.{event_of}
use Rattle.hal_meaning.specs.Expressions.{copies_of}
use Rattle.hal_meaning.specs.Places.{Storing, storing}
use Rattle.hal_meaning.specs.Sets.{Set}
use Rattle.hal_meaning.specs.Variables as tree
use Rattle.hal_meaning.specs.Variables.{dimensions_of, sizes_of_first, kind_of_first}
use Rattle.hal_agreement.specs.PlacedExpressions.{single_dimensions}
use Rattle.hal_agreement.specs.Sites.{Site}
use Rattle.hal_storage.specs.referents.Referents.{Referent, DataOf, ConstantOf, EventOf, BlockOf, BuiltinOf, Unmeant, event_referent, constant_referent, item_referent, head_referent, node_referent, phrase_referent, builtin_referent, referent_in}
use Rattle.hal_gen_expr.specs.declared.elements.Element.{Element}
use Rattle.hal_gen_expr.specs.Elements.{an_element, counted, element_in}
use Rattle.hal_gen_expr.specs.Leaves.{is_one}
use Rattle.hal_gen_expr.specs.Led.{Led, led_to, led_by, sizes_led, array_list, rows_left}
use Rattle.hal_gen_expr.specs.Numbering.{below, most, row_of, same_runs, cell_view, area_view, shape_in}
use Rattle.hal_gen_expr.specs.Referents.{referent}
use Rattle.hal_link.specs.Shapes.{Shapes, shapes_of}
use Rattle.hal_fit_calls.specs.Each.{Each}
use Rattle.hal_fit_calls.proofs.Each.{each_append}
use Rattle.hal_fit_layout.proofs.Ranges.{HasKind, shape_is}
use Rattle.hal_right_images.specs.rows.Purposes.{IsCellFor, IsAreaFor, HasPurpose}
use Rattle.hal_right_images.proofs.rows.Filled.{IsSome, size_some, sizes_some}
use Rattle.hal_right_images.proofs.rows.Shaped.{named_kinds}

-- the sizes of components
abbrev pub HasSizes : Component → Type 0
HasSizes c = Each IsSome c.sizes

bottom_sizes : (ps : List Phrase) (vs : Known) (p : Phrase) (above : List Above) (part : Part) (parts : List Part) (b : Bool)
    → Each HasSizes (components_from ps vs p (lower part.level above) parts) → Each HasSizes (components_from ps vs p (lower part.level above ++ ((part.level, part.name.name) ∷ [])) parts)
    → Each HasSizes (if b then component ps vs p (path_to (lower part.level above) part) part.attributes ∷ components_from ps vs p (lower part.level above) parts
    else components_from ps vs p (lower part.level above ++ ((part.level, part.name.name) ∷ [])) parts)
bottom_sizes ps vs p above part parts true one other = (sizes_some ps vs p (sizes_among part.attributes), one)
bottom_sizes ps vs p above part parts false one other = other

parts_sizes : (ps : List Phrase) (vs : Known) (p : Phrase) (above : List Above) (parts : List Part) → Each HasSizes (components_from ps vs p above parts)
parts_sizes ps vs p above [] = tt
parts_sizes ps vs p above (part ∷ parts) =
    bottom_sizes ps vs p above part parts (is_bottom part.level parts) (parts_sizes ps vs p (lower part.level above) parts) (parts_sizes ps vs p (lower part.level above ++ ((part.level, part.name.name) ∷ [])) parts)

node_sizes : (ps : List Phrase) (vs : Known) (p : Phrase) (node : Node) → Each HasSizes (components_at ps vs p node)
node_sizes ps vs p (OfStructure name parts) = parts_sizes ps vs p [] parts
node_sizes ps vs p other = tt

found_sizes : (ps : List Phrase) (vs : Known) (found : Option Phrase) → Each HasSizes (elim found [ None ↦ [] | Some p ↦ components_at ps vs p p.node ])
found_sizes ps vs None = tt
found_sizes ps vs (Some p) = node_sizes ps vs p p.node

pub type_sizes : (ps : List Phrase) (vs : Known) (p : Phrase) (attributes : List Attribute) (type : Option declarations.Kind) → Each HasSizes (shape_of_type ps vs p attributes type).components
type_sizes ps vs p attributes (Some (StructureKind place template copies)) = found_sizes ps vs (option_and_then (slice_get ps) (means ps p.around.block template))
type_sizes ps vs p attributes None = (sizes_some ps vs p (sizes_among attributes), tt)
type_sizes ps vs p attributes (Some (IntegerKind place)) = (sizes_some ps vs p (sizes_among attributes), tt)
type_sizes ps vs p attributes (Some (BooleanKind place)) = (sizes_some ps vs p (sizes_among attributes), tt)
type_sizes ps vs p attributes (Some (EventKind place)) = (sizes_some ps vs p (sizes_among attributes), tt)
type_sizes ps vs p attributes (Some (BitKind place size)) = (sizes_some ps vs p (sizes_among attributes), tt)
type_sizes ps vs p attributes (Some (CharacterKind place size)) = (sizes_some ps vs p (sizes_among attributes), tt)

-- copies that there are
abbrev pub AreCopies : Option ℕ → Type 0
AreCopies None = Unit {0}
AreCopies (Some n) = IsSome n

given_copies : (ps : List Phrase) (vs : Known) (p : Phrase) (copies : Option Expression) → AreCopies (option_map (size_given ps vs p) copies)
given_copies ps vs p None = tt
given_copies ps vs p (Some size) = size_some ps vs p size

pub type_copies : (ps : List Phrase) (vs : Known) (p : Phrase) (attributes : List Attribute) (type : Option declarations.Kind) → AreCopies (shape_of_type ps vs p attributes type).copies
type_copies ps vs p attributes (Some (StructureKind place template copies)) = given_copies ps vs p copies
type_copies ps vs p attributes None = tt
type_copies ps vs p attributes (Some (IntegerKind place)) = tt
type_copies ps vs p attributes (Some (BooleanKind place)) = tt
type_copies ps vs p attributes (Some (EventKind place)) = tt
type_copies ps vs p attributes (Some (BitKind place size)) = tt
type_copies ps vs p attributes (Some (CharacterKind place size)) = tt

-- a shape of declared data
pub record IsFormed (shape : Shape) : Type 0 where
  pub kinds : Each HasKind shape.components
  pub sizes : Each HasSizes shape.components
  pub copies : AreCopies shape.copies

item_formed : (ps : List Phrase) (vs : Known) (p : Phrase) (common : List Attribute) (item : Declared) → IsFormed (shape_of ps vs p common item)
item_formed ps vs p common item =
    let attributes = item.attributes ++ common in
    record { kinds = shape_is ps vs p attributes (type_among attributes); sizes = type_sizes ps vs p attributes (type_among attributes); copies = type_copies ps vs p attributes (type_among attributes) }

temporary_formed : IsFormed tree.temporary_shape
temporary_formed = record { kinds = (refl, tt); sizes = (tt, tt); copies = tt }

-- that of the data to which a name refers
abbrev pub OfData : Referent → Type 0
OfData r = (k : ℕ) (way : Storing) (shape : Shape) → r ≡ DataOf k way shape → IsFormed shape

no_event : (o : Option ℕ) → OfData (elim o [ None ↦ Unmeant | Some e ↦ EventOf e ])
no_event None k way shape is = absurd (cc)
no_event (Some e) k way shape is = absurd (cc)

of_item : (ps : List Phrase) (vs : Known) (p : Phrase) (common : List Attribute) (item : Declared) (stored : Storing) → OfData (item_referent ps vs p common item stored)
of_item ps vs p common item stored = by (is_event_type (type_of common item)) (is_value_item common item) where
  by : (event value : Bool) → OfData (if event then event_referent ps p.number else if value then constant_referent vs p.number else DataOf p.number stored (shape_of ps vs p common item))
  by true value = no_event (event_of ps p.number)
  by false true = λ k way shape is. absurd (cc)
  by false false = λ k way shape is. subst IsFormed (let same : shape_of ps vs p common item ≡ shape = cc in same) (item_formed ps vs p common item)

of_head : (ps : List Phrase) (k : ℕ) (head : Head) → OfData (head_referent ps k head)
of_head ps k (Program place) = no_event (event_of ps k)
of_head ps k (Task place) = no_event (event_of ps k)
of_head ps k (Compool place) = λ n way shape is. absurd (cc)
of_head ps k (Procedure place inputs outputs mode) = λ n way shape is. absurd (cc)
of_head ps k (Function place inputs returns mode) = λ n way shape is. absurd (cc)

of_node : (ps : List Phrase) (vs : Known) (p : Phrase) (node : Node) → OfData (node_referent ps vs p node)
of_node ps vs p (OfItem common item) = of_item ps vs p common item (storing ps vs p (OfItem common item))
of_node ps vs p (OfTemporaryGroup labels variable) = λ k way shape is. subst IsFormed (let same : tree.temporary_shape ≡ shape = cc in same) temporary_formed
of_node ps vs p (OfUnit name head declarations) = of_head ps p.number head
of_node ps vs p other = λ k way shape is. absurd (cc)

of_phrase : (ps : List Phrase) (vs : Known) (o : Option Phrase) → OfData (elim o [ None ↦ Unmeant | Some p ↦ phrase_referent ps vs p ])
of_phrase ps vs None = λ k way shape is. absurd (cc)
of_phrase ps vs (Some p) = of_node ps vs p p.node

of_builtin : (o : Option Builtin) → OfData (elim o [ None ↦ Unmeant | Some b ↦ BuiltinOf b ])
of_builtin None k way shape is = absurd (cc)
of_builtin (Some b) k way shape is = absurd (cc)

pub referent_formed : (ps : List Phrase) (vs : Known) (block : ℕ) (name : List ℕ) → OfData (referent_in ps vs block name)
referent_formed ps vs block name = by (meant ps block name) where
  by : (o : Option ℕ) → OfData (elim o [ None ↦ builtin_referent name | Some k ↦ elim (slice_get ps k) [ None ↦ Unmeant | Some p ↦ phrase_referent ps vs p ] ])
  by None = of_builtin (builtin_named name)
  by (Some k) = of_phrase ps vs (slice_get ps k)

-- those of the components to which names lead
pub each_kept : (P : Component → Type 0) (test : Component → Bool) (cs : List Component) → Each P cs → Each P (filter test cs)
each_kept P test [] each = tt
each_kept P test (c ∷ cs) each = by (test c) (each_kept P test cs each.1) where
  by : (b : Bool) → Each P (filter test cs) → Each P (cond b (c ∷ filter test cs) (filter test cs))
  by true rest = (each.0, rest)
  by false rest = rest

pub first_kind : (cs : List Component) → Each HasKind cs → is_kind (kind_of_first cs) ≡ true
first_kind [] each = refl
first_kind (c ∷ cs) each = each.0

pub first_sizes : (cs : List Component) → Each HasSizes cs → Each IsSome (sizes_of_first cs)
first_sizes [] each = tt
first_sizes (c ∷ cs) each = each.0

one_kind : (path : List Naming) (cs : List Component) (one : Element) → Each HasKind cs → element_in path cs ≡ Some one → is_kind one.kind ≡ true
one_kind path cs one kinds is = by (is_one (chosen path cs)) is where
  by : (b : Bool) → (if b then Some (an_element (min (offset path cs) counted) (kind_of_first (chosen path cs))) else None) ≡ Some one → is_kind one.kind ≡ true
  by true made =
      let whole : an_element (min (offset path cs) counted) (kind_of_first (chosen path cs)) ≡ one = cc in
      let same : kind_of_first (chosen path cs) ≡ one.kind = ap (λ (x : Element). x.kind) whole in
      subst (λ k. is_kind k ≡ true) same (first_kind (chosen path cs) (each_kept HasKind (λ (c : Component). leads path c.path) cs kinds))
  by false made = absurd (cc)

-- dimensions with places
abbrev HasPlaces : tree.Dimension → Type 0
HasPlaces d = IsSome d.size

array_places : (ns : List ℕ) → Each IsSome ns → Each HasPlaces (dimensions_of ns)
array_places [] each = tt
array_places (n ∷ ns) each = (each.0, array_places ns each.1)

copy_places : (shape : Shape) → AreCopies shape.copies → Each HasPlaces (copies_of shape)
copy_places shape are = by shape.copies are where
  by : (o : Option ℕ) → AreCopies o → Each HasPlaces (elim o [ None ↦ [] | Some n ↦ tree.dimension n (copy_size shape.components) ∷ [] ])
  by None is = tt
  by (Some n) is = (is, tt)

single_places : (ds : List tree.Dimension) (list : Subscripts) → Each HasPlaces ds → Each HasPlaces (single_dimensions ds list)
single_places [] NoSubscripts each = tt
single_places [] (MoreSubscripts first others) each = tt
single_places (d ∷ ds) NoSubscripts each = tt
single_places (d ∷ ds) (MoreSubscripts (OnePlace one) others) each = (each.0, single_places ds others each.1)
single_places (d ∷ ds) (MoreSubscripts (Every place) others) each = single_places ds others each.1
single_places (d ∷ ds) (MoreSubscripts (Range first last) others) each = single_places ds others each.1
single_places (d ∷ ds) (MoreSubscripts (Portion number first) others) each = single_places ds others each.1

led_places : (l : Led) → IsFormed l.shape → Each HasPlaces (dimensions_of (sizes_led l))
led_places l formed =
    array_places (sizes_led l) (first_sizes (chosen l.path l.shape.components) (each_kept HasSizes (λ (c : Component). leads l.path c.path) l.shape.components formed.sizes))

left_places : (subscript : Subscript) (l : Led) → IsFormed l.shape → Each HasPlaces (rows_left subscript l)
left_places Unsubscripted l formed = tt
left_places (ByName place name) l formed = led_places l formed
left_places (ByInteger place at number) l formed = led_places l formed
left_places (ByParts there copies arrays components) l formed =
    each_append HasPlaces (single_dimensions (copies_of l.shape) copies) (single_dimensions (dimensions_of (sizes_led l)) (array_list arrays components))
    (single_places (copies_of l.shape) copies (copy_places l.shape formed.copies)) (single_places (dimensions_of (sizes_led l)) (array_list arrays components) (led_places l formed))

-- the rows of a view
rows_places : (ds : List tree.Dimension) → Each HasPlaces ds → list_all (λ (d : Dimension). nat_le 1 d.size) (map row_of ds) ≡ true
rows_places [] each = refl
rows_places (d ∷ ds) each =
    and_from (nat_le 1 d.size) (list_all (λ (x : Dimension). nat_le 1 x.size) (map row_of ds)) (le-leb 1 d.size (let some = each.0 in omega (arith, some))) (rows_places ds each.1)

-- what leads to data has a shape of declared data
pub led_formed : (path : List Naming) (r : Referent) → OfData r → (l : Led) → led_by path r ≡ Some l → IsFormed l.shape
led_formed path (DataOf k way shape) of l is = subst IsFormed (let same : led_to path k way shape ≡ l = cc in ap (λ (x : Led). x.shape) same) (of k way shape refl)
led_formed path (ConstantOf v) of l is = absurd (cc)
led_formed path (EventOf e) of l is = absurd (cc)
led_formed path (BlockOf unit) of l is = absurd (cc)
led_formed path (BuiltinOf b) of l is = absurd (cc)
led_formed path Unmeant of l is = absurd (cc)

module _ (s : Set) (image : ImageParts) (shapes : image.shapes ≡ shapes_of s) where
  cell_by : (rows : List Dimension) (k : Kind) (from : Base) → is_kind k ≡ true → list_all (λ (d : Dimension). nat_le 1 d.size) rows ≡ true → form_right image (cell_view from rows k) ≡ true
  cell_by rows k from kinds places = and_from (is_kind k) (list_all (λ (d : Dimension). nat_le 1 d.size) rows) kinds places

  cell_formed : (site : Site) (rows : List Dimension) (k : Kind) (from : Base) → IsCellFor site rows k from → form_right image (cell_view from rows k) ≡ true
  cell_formed site rows k from (inl (inl one)) =
      let formed = referent_formed site.set.phrases site.set.constants site.block one.name one.declared one.way one.shape one.refers in
      cell_by rows k from (subst (λ x. is_kind x ≡ true) (sym one.kind) (one_kind one.path one.shape.components one.one formed.kinds one.leads))
      (subst (λ l. list_all (λ (d : Dimension). nat_le 1 d.size) l ≡ true) (sym one.plain) refl)
  cell_formed site rows k from (inl (inr one)) =
      let formed = led_formed one.path (referent site one.name) (referent_formed site.set.phrases site.set.constants site.block one.name) one.led one.leads in
      cell_by rows k from
      (subst (λ x. is_kind x ≡ true) (sym one.kind)
      (first_kind (chosen one.led.path one.led.shape.components) (each_kept HasKind (λ (c : Component). leads one.led.path c.path) one.led.shape.components formed.kinds)))
      (subst (λ l. list_all (λ (d : Dimension). nat_le 1 d.size) l ≡ true) (sym one.dimensions) (rows_places (rows_left one.subscript one.led) (left_places one.subscript one.led formed)))
  cell_formed site rows k from (inr (inl one)) =
      cell_by rows k from (subst (λ x. is_kind x ≡ true) (sym one.kind) refl) (subst (λ l. list_all (λ (d : Dimension). nat_le 1 d.size) l ≡ true) (sym one.plain) refl)
  cell_formed site rows k from (inr (inr one)) =
      cell_by rows k from (subst (λ x. is_kind x ≡ true) (sym one.kind) (first_kind (parameter_named site.set site.unit one.name).shape.components (named_kinds site.set site.unit one.name)))
      (subst (λ l. list_all (λ (d : Dimension). nat_le 1 d.size) l ≡ true) (sym one.plain) refl)

  -- the number of a shape that is found
  found_low : (found : Shapes) (runs : List (Run Kind)) (shape : ℕ) → shape_in found runs ≡ Some shape → shape < length found
  found_low found runs shape is = by (position (λ (x : List (Run Kind)). same_runs x runs) found) refl is where
    of_place : (n : ℕ) (b : Bool) → n < length found → (if b then Some n else None) ≡ Some shape → shape < length found
    of_place n true low same = subst (λ m. m < length found) (let one : n ≡ shape = cc in one) low
    of_place n false low same = absurd (cc)

    by : (o : Option ℕ) → position (λ (x : List (Run Kind)). same_runs x runs) found ≡ o → option_and_then (below most) o ≡ Some shape → shape < length found
    by None at same = absurd (cc)
    by (Some n) at same = of_place n (nat_lt n most) (position-Some (λ (x : List (Run Kind)). same_runs x runs) found n [] at).0 same

  area_formed : (site : Site) (rows : List Dimension) (shape : ℕ) (from : Base) → IsAreaFor (shapes_of s) site rows shape from → form_right image (area_view from rows shape) ≡ true
  area_formed site rows shape from one =
      let formed = led_formed one.path (referent site one.name) (referent_formed site.set.phrases site.set.constants site.block one.name) one.led one.leads in
      let low = found_low (shapes_of s) one.runs shape one.numbered in
      and_from (nat_lt shape (length image.shapes)) (list_all (λ (d : Dimension). nat_le 1 d.size) rows)
      (lt-ltb shape (length image.shapes) (subst (λ (x : Shapes). shape < length x) (sym shapes) low))
      (subst (λ l. list_all (λ (d : Dimension). nat_le 1 d.size) l ≡ true) (sym one.dimensions) (rows_places (rows_left one.subscript one.led) (left_places one.subscript one.led formed)))

  view_formed : (view : View) → HasPurpose s view → form_right image view ≡ true
  view_formed view (inl one) = subst (λ (v : View). form_right image v ≡ true) (sym one.is) (cell_formed one.site one.rows one.k one.from one.purpose)
  view_formed view (inr one) = subst (λ (v : View). form_right image v ≡ true) (sym one.is) (area_formed one.site one.rows one.shape one.from one.purpose)

  pub views_formed : (views : List View) → Each (HasPurpose s) views → list_all (form_right image) views ≡ true
  views_formed [] all = refl
  views_formed (view ∷ views) all = and_from (form_right image view) (list_all (form_right image) views) (view_formed view all.0) (views_formed views all.1)
