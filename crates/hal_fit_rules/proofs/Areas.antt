-- A name that agrees and is several elements for the checks means data.
use Rattle.std.proofs.Common.{◌≡◌, ℕ, Bool, true, false, ◌&&◌, ◌||◌, List, [], Option, Some, None, slice_get, if◌then◌else◌, refl, sym, ap, ◌∙◌}
use Rattle.std.specs.Option.{option_and_then}
use Rattle.hal_base.specs.declared.refusal.Place.{Place}
use Rattle.hal_grammar.specs.Leaves.{Naming}
use Rattle.hal_grammar.specs.Declarations.{Kind, IntegerKind, BooleanKind, EventKind, BitKind, CharacterKind, StructureKind}
use Rattle.hal_grammar.specs.Expressions.{Refers, Subscript}
use Rattle.hal_grammar.specs.Units.{Head, Program, Compool, Task, Procedure, Function, Returns, NoKind, HasKind}
use Rattle.hal_phrases.specs.Phrases.{Node, Phrase, OfTemplate, OfUnit}
use Rattle.hal_names.specs.Means.{means}
use Rattle.hal_scope.specs.declared.builtin.Builtin.{Builtin}
use Rattle.hal_scope.specs.declared.builtin.Form.{Form}
use Rattle.hal_scope.specs.declared.builtin.Form.TheVariants as form
use Rattle.hal_scope.specs.Builtins.{builtin_named, form_of}
use Rattle.hal_scope.specs.Uses.{is_nil}
use Rattle.hal_kinds.specs.declared.choice.Choice.{Choice}
use Rattle.hal_kinds.specs.declared.class.Class.{Class}
use Rattle.hal_kinds.specs.declared.class.Class.TheVariants as class
use Rattle.hal_kinds.specs.declared.data.Data.{Data}
use Rattle.hal_kinds.specs.Classes.{class_of_builtin, class_of_form, class_of_head, class_of_result, class_of_returns, class_at, class_of_reference}
use Rattle.hal_kinds.specs.Data.{class_of_type, data_at}
use Rattle.hal_kinds.specs.Subscripts as kinds
use Rattle.hal_kinds.specs.Subscripts.{is_structure_class, are_left, is_miscounted, class_in, class_left}
use Rattle.hal_meaning.specs.Expressions.{sizes_named}
use Rattle.hal_meaning.specs.Variables.{Meant, MeantData, MeantConstant, MeantEvent, MeantBlock, MeantBuiltin, MeantNothing, name_meant, is_arrayed}
use Rattle.hal_code.specs.Sorts.{Sort}
use Rattle.hal_agreement.specs.Sites.{Site, here_at}
use Rattle.hal_fit_expr.specs.Uses.{Uses}
use Rattle.hal_fit_expr.specs.Sorted.{sort_of_meant, data_fits, places_fit, area_fits}
use Rattle.hal_fit_classes.specs.Kinded.{sort_of_class}
use Rattle.hal_fit_rules.specs.Agreeing.{IsSingle, DataAgree, NodeAgrees, PhraseAgrees, DeclarationAgrees, NameAgrees}
use Rattle.hal_fit_rules.proofs.Choosing.{SubscriptRight, places_right}
use Rattle.hal_fit_rules.proofs.Referring.{IsNoData}
use Rattle.hal_fit_rules.proofs.Passing.{is_several}

-- what has a sort is one value
lone_class : (c : Class) (s : Sort) → sort_of_class c ≡ Some s → (is_several c ≡ false) × (is_structure_class c ≡ false)
unfolding is_structure_class
lone_class class.Integer s worth = (refl, refl)
lone_class class.Bits s worth = (refl, refl)
lone_class class.Text s worth = (refl, refl)
lone_class class.Condition s worth = (refl, refl)
lone_class class.Structure s worth = absurd (cc)
lone_class class.Array s worth = absurd (cc)

lone_in : (c : Class) (structure copied arrayed copies places : Bool) → structure ≡ false → copied ≡ false → arrayed ≡ false → is_several c ≡ false
    → is_several (if structure then class.Structure else if (copied && copies) || (arrayed && places) then class.Array else c) ≡ false
lone_in c false false false copies places a b d lone = lone
lone_in c true copied arrayed copies places a b d lone = absurd (cc)
lone_in c false true arrayed copies places a b d lone = absurd (cc)
lone_in c false false true copies places a b d lone = absurd (cc)

left_lone : (miscounted : Bool) (k c : Class) → is_several k ≡ false → (if miscounted then None else Some k) ≡ Some c → is_several c ≡ false
left_lone true k c lone is = absurd (cc)
left_lone false k c lone is = ap is_several (let same : c ≡ k = cc in same) ∙ lone

-- what is chosen of a single value is one
single_lone : (found : Option Data) (sort : Option Sort) (x : Subscript) (c : Class) → IsSingle found sort → option_and_then (λ (e : Data). class_left e (kinds.chosen e x)) found ≡ Some c → is_several c ≡ false
single_lone found sort x c single is =
    let d : Data = single.declared in
    let choice : Choice = kinds.chosen d x in
    let lone = lone_class d.class single.worth single.class in
    left_lone (is_miscounted d choice) (class_in d choice) c
    (lone_in d.class (is_structure_class d.class) d.copies (kinds.is_arrayed d) (are_left choice.copies choice.many_copies) (are_left choice.places choice.many_places) lone.1 single.alone single.single lone.0)
    (ap (option_and_then (λ (e : Data). class_left e (kinds.chosen e x))) (sym single.known) ∙ is)

type_lone : (kind : Kind) (c : Class) → class_of_result kind ≡ Some c → is_several c ≡ false
unfolding class_of_result class_of_type
type_lone (IntegerKind place) c is = ap is_several (let same : c ≡ class.Integer = cc in same)
type_lone (BooleanKind place) c is = ap is_several (let same : c ≡ class.Bits = cc in same)
type_lone (BitKind place size) c is = ap is_several (let same : c ≡ class.Bits = cc in same)
type_lone (CharacterKind place size) c is = ap is_several (let same : c ≡ class.Text = cc in same)
type_lone (EventKind place) c is = absurd (cc)
type_lone (StructureKind place template copies) c is = absurd (cc)

returns_lone : (returns : Returns) (c : Class) → class_of_returns returns ≡ Some c → is_several c ≡ false
unfolding class_of_returns
returns_lone NoKind c is = absurd (cc)
returns_lone (HasKind kind precision) c is = type_lone kind c is

head_lone : (head : Head) (c : Class) → class_of_head head ≡ Some c → is_several c ≡ false
unfolding class_of_head
head_lone (Program place) c is = ap is_several (let same : c ≡ class.Bits = cc in same)
head_lone (Task place) c is = ap is_several (let same : c ≡ class.Bits = cc in same)
head_lone (Compool place) c is = absurd (cc)
head_lone (Procedure place inputs outputs mode) c is = absurd (cc)
head_lone (Function place inputs returns mode) c is = returns_lone returns c is

form_lone : (f : Form) (c : Class) → class_of_form f ≡ Some c → is_several c ≡ false
unfolding class_of_form
form_lone form.Alone c is = ap is_several (let same : c ≡ class.Integer = cc in same)
form_lone form.Arrayed c is = absurd (cc)
form_lone form.Listed c is = absurd (cc)

builtin_lone : (o : Option Builtin) (c : Class) → class_of_builtin o ≡ Some c → is_several c ≡ false
unfolding class_of_builtin
builtin_lone None c is = absurd (cc)
builtin_lone (Some b) c is = form_lone (form_of b) c is

alone_lone : (empty : Bool) (o : Option Builtin) (c : Class) → (if empty then class_of_builtin o else None) ≡ Some c → is_several c ≡ false
alone_lone true o c is = builtin_lone o c is
alone_lone false o c is = absurd (cc)

module _ (u : Uses) (site : Site) (path : List Naming) where
  single_of : (found : Option Data) (m : Meant) → IsNoData m → DataAgree u site path found m → IsSingle found (sort_of_meant u site path m)
  single_of found (MeantData at shape) none agree = absurd none
  single_of found other none agree = agree

  node_lone : (ps : List Phrase) (p : Phrase) (x : Subscript) (m : Meant) (c : Class) (n : Node) → IsNoData m → NodeAgrees u site ps p path n m → class_at ps p path x n ≡ Some c → is_several c ≡ false
  unfolding class_at
  node_lone ps p x m c (OfTemplate name head declarations) none agree is = head_lone head c is
  node_lone ps p x m c (OfUnit name head declarations) none agree is = head_lone head c is
  node_lone ps p x m c other none agree is = single_lone (data_at ps p path other) (sort_of_meant u site path m) x c (single_of (data_at ps p path other) m none agree) is

  phrase_lone : (ps : List Phrase) (x : Subscript) (m : Meant) (c : Class) (o : Option Phrase) → IsNoData m → PhraseAgrees u site ps path o m → option_and_then (λ (p : Phrase). class_at ps p path x p.node) o ≡ Some c → is_several c ≡ false
  phrase_lone ps x m c None none agree is = absurd agree
  phrase_lone ps x m c (Some p) none agree is = node_lone ps p x m c p.node none agree is

  declared_lone : (ps : List Phrase) (x : Subscript) (name : List ℕ) (m : Meant) (c : Class) (o : Option ℕ) → IsNoData m → DeclarationAgrees u site ps name path o m
      → ◌≡◌ {A = Option Class} (elim o [ None ↦ if is_nil path then class_of_builtin (builtin_named name) else None | Some k ↦ option_and_then (λ (p : Phrase). class_at ps p path x p.node) (slice_get ps k) ]) (Some c)
      → is_several c ≡ false
  declared_lone ps x name m c None none agree is = alone_lone (is_nil path) (builtin_named name) c is
  declared_lone ps x name m c (Some k) none agree is = phrase_lone ps x m c (slice_get ps k) none agree is

  -- places of what is several elements
  places_meant : (x : Subscript) (several : Bool) (m : Meant) → several ≡ true → (IsNoData m → several ≡ false) → SubscriptRight u site x → data_fits path (λ arrayed. places_fit u site arrayed x) m ≡ true
  places_meant x several (MeantData at shape) is none right = places_right u site (is_arrayed (sizes_named path shape)) x right
  places_meant x several (MeantConstant v) is none right = absurd (let not_ = sym is ∙ none tt in cc)
  places_meant x several (MeantEvent e) is none right = absurd (let not_ = sym is ∙ none tt in cc)
  places_meant x several (MeantBlock unit) is none right = absurd (let not_ = sym is ∙ none tt in cc)
  places_meant x several (MeantBuiltin b) is none right = absurd (let not_ = sym is ∙ none tt in cc)
  places_meant x several MeantNothing is none right = absurd (let not_ = sym is ∙ none tt in cc)

pub area_right : (u : Uses) (site : Site) (ps : List Phrase) (block : ℕ) (place : Place) (name : List ℕ) (path : List Naming) (x : Subscript) → NameAgrees u site ps block name path → SubscriptRight u site x → (c : Class)
    → class_of_reference ps block (Refers place name path x) ≡ Some c → is_several c ≡ true → area_fits u site (Refers place name path x) ≡ true
unfolding class_of_reference
area_right u site ps block place name path x agree right c is several =
    places_meant u site path x (is_several c) (name_meant (here_at site) name []) several (λ none. declared_lone u site path ps x name (name_meant (here_at site) name []) c (means ps block name) none agree is) right
