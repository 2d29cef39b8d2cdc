-- References whose names agree and whose subscripts break no rule are known.
use Rattle.std.proofs.Common.{◌≡◌, ℕ, nat_lt, Bool, true, false, ◌&&◌, not, List, [], Option, Some, None, slice_get, if◌then◌else◌, refl, sym, ap, ◌∙◌, subst}
use Rattle.std.specs.Option.{option_and_then, is_some}
use Rattle.std.proofs.lemmas.Bool.{and_from}
use Rattle.hal_base.specs.declared.refusal.Place.{Place}
use Rattle.hal_grammar.specs.Leaves.{Naming}
use Rattle.hal_grammar.specs.Expressions.{Refers, Subscript, Unsubscripted, ByName, ByInteger, ByParts}
use Rattle.hal_grammar.specs.Units.{Head}
use Rattle.hal_phrases.specs.Phrases.{Node, Phrase, OfTemplate, OfUnit}
use Rattle.hal_names.specs.Means.{means}
use Rattle.hal_scope.specs.declared.builtin.Builtin.{Builtin}
use Rattle.hal_scope.specs.declared.builtin.Form.{Form}
use Rattle.hal_scope.specs.declared.builtin.Form.TheVariants as form
use Rattle.hal_scope.specs.Builtins.{builtin_named, form_of}
use Rattle.hal_scope.specs.Uses.{is_nil}
use Rattle.hal_kinds.specs.declared.class.Class.{Class}
use Rattle.hal_kinds.specs.declared.class.Class.TheVariants as class
use Rattle.hal_kinds.specs.declared.data.Data.{Data}
use Rattle.hal_kinds.specs.Classes.{class_of_head, class_of_form, class_of_builtin, class_at, class_of_path, class_of_name, class_of_reference}
use Rattle.hal_kinds.specs.Data.{data_at}
use Rattle.hal_kinds.specs.Subscripts as kinds
use Rattle.hal_kinds.specs.Subscripts.{choice_of, is_miscounted, class_in, class_left}
use Rattle.hal_uses.specs.Subscripts.{single, is_string, choice_fault, is_eventful_head, head_fault, is_event_name, data_fault, fault_at, builtin_fault, named_fault, reference_fault}
use Rattle.hal_meaning.specs.Elements.{Shape, chosen}
use Rattle.hal_meaning.specs.Expressions.{sizes_named}
use Rattle.hal_meaning.specs.Variables.{Meant, MeantData, MeantConstant, MeantEvent, MeantBlock, MeantBuiltin, MeantNothing, name_meant, kind_of_first, is_arrayed}
use Rattle.hal_states.specs.Spots.{Spot}
use Rattle.hal_code.specs.Effects.{has_places}
use Rattle.hal_code.specs.Sorts.{Sort, sort_of}
use Rattle.hal_agreement.specs.Sites.{Site, here_at}
use Rattle.hal_fit_expr.specs.Uses.{Uses}
use Rattle.hal_fit_expr.specs.Sorted.{sort_of_meant, sort_of_name, sort_of_reference, subscripted_sort, chosen_sort, places_fit, parts_fit}
use Rattle.hal_fit_classes.specs.Kinded.{sort_of_class}
use Rattle.hal_fit_rules.specs.Leaves.{IsKnown}
use Rattle.hal_fit_rules.specs.Agreeing.{AreAlike, IsSingle, DataAgree, ValueAgrees, NodeAgrees, PhraseAgrees, DeclarationAgrees, NameAgrees}
use Rattle.hal_fit_rules.proofs.Unbroken.{no_rule}
use Rattle.hal_fit_rules.proofs.Choosing.{one_chosen, IsRight, choice_right, string_places, SubscriptRight, places_right, parts_right}

alone_by : (f : Form) (one : Class) → class_of_form f ≡ Some one → one ≡ class.Integer
unfolding class_of_form
alone_by form.Alone one is = cc
alone_by form.Arrayed one is = absurd (cc)
alone_by form.Listed one is = absurd (cc)

-- what a name means, with any subscript
abbrev pub sort_of_subscripted : Uses → Site → List Naming → Subscript → Meant → Option Sort
sort_of_subscripted u site path Unsubscripted m = sort_of_meant u site path m
sort_of_subscripted u site path x m = subscripted_sort u site path (λ arrayed. places_fit u site arrayed x) (λ arrayed s. parts_fit u site arrayed s x) m

pub referred_sort : (u : Uses) (site : Site) (place : Place) (name : List ℕ) (path : List Naming) (x : Subscript)
    → sort_of_reference u site (Refers place name path x) ≡ sort_of_subscripted u site path x (name_meant (here_at site) name [])
referred_sort u site place name path Unsubscripted = refl
referred_sort u site place name path (ByName p n) = refl
referred_sort u site place name path (ByInteger p at number) = refl
referred_sort u site place name path (ByParts p copies arrays components) = refl

same_class : (o : Option Class) (c one : Class) → o ≡ Some c → o ≡ Some one → c ≡ one
same_class None c one is of_one = absurd (cc)
same_class (Some d) c one is of_one = cc

-- a known class and its sort
known_as : (o : Option Class) (c : Class) (sort : Option Sort) → o ≡ Some c → ((s : Sort) → sort_of_class c ≡ Some s → sort ≡ Some s) → IsKnown o sort
known_as o c sort is worth = record { found = c; known = is; sorted = λ one s of_one wanted. worth s (ap sort_of_class (same_class o c one is of_one) ∙ wanted) }

chosen_whole : (fits : Bool) (s : Sort) → fits ≡ true → chosen_sort fits s ≡ Some s
chosen_whole true s is = refl
chosen_whole false s is = absurd (cc)

-- what a name means is no data
abbrev pub IsNoData : Meant → Type 0
IsNoData (MeantData at shape) = ⊥
IsNoData other = Unit {0}

module _ (u : Uses) (site : Site) (path : List Naming) where
  subscripted_plain : (places : Bool → Bool) (parts : Bool → Sort → Bool) (m : Meant) → IsNoData m
      → subscripted_sort u site path places parts m ≡ option_and_then (λ s. chosen_sort (parts false s) s) (sort_of_meant u site path m)
  subscripted_plain places parts (MeantData at shape) none = absurd none
  subscripted_plain places parts other none = refl

  -- a value that is no data, of which a component may be chosen
  value_chosen : (x : Subscript) (s : Sort) (m : Meant) → IsNoData m → sort_of_meant u site path m ≡ Some s → SubscriptRight u site x → (nat_lt 0 (choice_of false x).components ≡ true → has_places s ≡ true)
      → subscripted_sort u site path (λ arrayed. places_fit u site arrayed x) (λ arrayed t. parts_fit u site arrayed t x) m ≡ Some s
  value_chosen x s m none is right has =
      subscripted_plain (λ arrayed. places_fit u site arrayed x) (λ arrayed t. parts_fit u site arrayed t x) m none
      ∙ (ap (option_and_then (λ t. chosen_sort (parts_fit u site false t x) t)) is ∙ chosen_whole (parts_fit u site false s x) s (parts_right u site false s x has right))

  value_sort : (x : Subscript) (s : Sort) (m : Meant) → IsNoData m → sort_of_meant u site path m ≡ Some s → SubscriptRight u site x → (nat_lt 0 (choice_of false x).components ≡ true → has_places s ≡ true)
      → sort_of_subscripted u site path x m ≡ Some s
  value_sort Unsubscripted s m none is right has = is
  value_sort (ByName p name) s m none is right has = value_chosen (ByName p name) s m none is right has
  value_sort (ByInteger p at number) s m none is right has = value_chosen (ByInteger p at number) s m none is right has
  value_sort (ByParts p copies arrays components) s m none is right has = value_chosen (ByParts p copies arrays components) s m none is right has

  -- cells, of which some may be chosen, and a component of one
  cell_chosen : (x : Subscript) (at : Spot) (shape : Shape) (s : Sort) → sort_of (kind_of_first (chosen path shape.components)) ≡ s → SubscriptRight u site x
      → (nat_lt 0 (choice_of (is_arrayed (sizes_named path shape)) x).components ≡ true → has_places s ≡ true)
      → subscripted_sort u site path (λ arrayed. places_fit u site arrayed x) (λ arrayed t. parts_fit u site arrayed t x) (MeantData at shape) ≡ Some s
  cell_chosen x at shape s is right has =
      ap (λ t. chosen_sort (places_fit u site (is_arrayed (sizes_named path shape)) x && parts_fit u site (is_arrayed (sizes_named path shape)) t x) t) is
      ∙ chosen_whole (places_fit u site (is_arrayed (sizes_named path shape)) x && parts_fit u site (is_arrayed (sizes_named path shape)) s x) s
      (and_from (places_fit u site (is_arrayed (sizes_named path shape)) x) (parts_fit u site (is_arrayed (sizes_named path shape)) s x)
      (places_right u site (is_arrayed (sizes_named path shape)) x right) (parts_right u site (is_arrayed (sizes_named path shape)) s x has right))

  cell_sort : (x : Subscript) (at : Spot) (shape : Shape) (s : Sort) → sort_of (kind_of_first (chosen path shape.components)) ≡ s → SubscriptRight u site x
      → (nat_lt 0 (choice_of (is_arrayed (sizes_named path shape)) x).components ≡ true → has_places s ≡ true) → sort_of_subscripted u site path x (MeantData at shape) ≡ Some s
  cell_sort Unsubscripted at shape s is right has = ap Some is
  cell_sort (ByName p name) at shape s is right has = cell_chosen (ByName p name) at shape s is right has
  cell_sort (ByInteger p place number) at shape s is right has = cell_chosen (ByInteger p place number) at shape s is right has
  cell_sort (ByParts p copies arrays components) at shape s is right has = cell_chosen (ByParts p copies arrays components) at shape s is right has

  -- the class of what is chosen of data
  pub class_of_chosen : (d : Data) (found : Option Data) (x : Subscript) → found ≡ Some d → is_miscounted d (kinds.chosen d x) ≡ false
      → option_and_then (λ (e : Data). class_left e (kinds.chosen e x)) found ≡ Some (class_in d (kinds.chosen d x))
  class_of_chosen d found x is counted = ap (option_and_then (λ (e : Data). class_left e (kinds.chosen e x))) is ∙ ap (λ b. if b then None else Some (class_in d (kinds.chosen d x))) counted

  pub data_right : (d : Data) (found : Option Data) (eventful : Bool) (x : Subscript) → found ≡ Some d → data_fault eventful x found ≡ None → IsRight (is_string d.class && not eventful) d (kinds.chosen d x)
  unfolding data_fault
  data_right d found eventful x is none = choice_right eventful d (kinds.chosen d x) (ap (data_fault eventful x) (sym is) ∙ none)

  known_cells : (x : Subscript) (found : Option Data) (at : Spot) (shape : Shape) (eventful : Bool) → AreAlike found path shape → data_fault eventful x found ≡ None → SubscriptRight u site x
      → IsKnown (option_and_then (λ (e : Data). class_left e (kinds.chosen e x)) found) (sort_of_subscripted u site path x (MeantData at shape))
  known_cells x found at shape eventful alike none right =
      let d : Data = alike.declared in
      let is_right = data_right d found eventful x alike.known none in
      known_as (option_and_then (λ (e : Data). class_left e (kinds.chosen e x)) found) (class_in d (kinds.chosen d x)) (sort_of_subscripted u site path x (MeantData at shape)) (class_of_chosen d found x alike.known is_right.counted)
      (λ s worth.
      let one = one_chosen d (kinds.chosen d x) s worth in
      cell_sort x at shape s (alike.sorted s one.1) right
      (λ some. string_places d.class eventful s (is_right.parts.components (ap (λ b. nat_lt 0 (choice_of b x).components) (alike.arrayed one.0) ∙ some)) one.1))

  known_single : (x : Subscript) (found : Option Data) (m : Meant) (eventful : Bool) → IsNoData m → IsSingle found (sort_of_meant u site path m) → data_fault eventful x found ≡ None → SubscriptRight u site x
      → IsKnown (option_and_then (λ (e : Data). class_left e (kinds.chosen e x)) found) (sort_of_subscripted u site path x m)
  known_single x found m eventful no_data single_ none right =
      let d : Data = single_.declared in
      let is_right = data_right d found eventful x single_.known none in
      known_as (option_and_then (λ (e : Data). class_left e (kinds.chosen e x)) found) (class_in d (kinds.chosen d x)) (sort_of_subscripted u site path x m) (class_of_chosen d found x single_.known is_right.counted)
      (λ s worth.
      let one = one_chosen d (kinds.chosen d x) s worth in
      value_sort x s m no_data (single_.sorted ∙ (sym single_.class ∙ one.1)) right
      (λ some. string_places d.class eventful s (is_right.parts.components (ap (λ b. nat_lt 0 (choice_of b x).components) single_.single ∙ some)) one.1))

  known_data : (x : Subscript) (found : Option Data) (m : Meant) (eventful : Bool) → DataAgree u site path found m → data_fault eventful x found ≡ None → SubscriptRight u site x
      → IsKnown (option_and_then (λ (e : Data). class_left e (kinds.chosen e x)) found) (sort_of_subscripted u site path x m)
  known_data x found (MeantData at shape) eventful agree none right = known_cells x found at shape eventful agree none right
  known_data x found (MeantConstant v) eventful agree none right = known_single x found (MeantConstant v) eventful tt agree none right
  known_data x found (MeantEvent e) eventful agree none right = known_single x found (MeantEvent e) eventful tt agree none right
  known_data x found (MeantBlock unit) eventful agree none right = known_single x found (MeantBlock unit) eventful tt agree none right
  known_data x found (MeantBuiltin b) eventful agree none right = known_single x found (MeantBuiltin b) eventful tt agree none right
  known_data x found MeantNothing eventful agree none right = known_single x found MeantNothing eventful tt agree none right

  -- a block or a built-in function
  valued : (x : Subscript) (c : Option Class) (m : Meant) (eventful : Bool) → IsNoData m → IsKnown c (sort_of_meant u site path m)
      → ((one : Class) → c ≡ Some one → choice_fault eventful (single one) (kinds.chosen (single one) x) ≡ None) → SubscriptRight u site x → IsKnown c (sort_of_subscripted u site path x m)
  valued x c m eventful no_data agree none right = record {
    found = agree.found;
    known = agree.known;
    sorted = λ one s of_one worth.
        let is_right = choice_right eventful (single one) (kinds.chosen (single one) x) (none one of_one) in
        value_sort x s m no_data (agree.sorted one s of_one worth) right (λ some. string_places one eventful s (is_right.parts.components some) worth);
  }

  known_value : (x : Subscript) (c : Option Class) (m : Meant) (eventful : Bool) → ValueAgrees u site path c m
      → ((one : Class) → c ≡ Some one → choice_fault eventful (single one) (kinds.chosen (single one) x) ≡ None) → SubscriptRight u site x → IsKnown c (sort_of_subscripted u site path x m)
  known_value x c (MeantData at shape) eventful agree none right = absurd agree
  known_value x c (MeantConstant v) eventful agree none right = valued x c (MeantConstant v) eventful tt agree none right
  known_value x c (MeantEvent e) eventful agree none right = valued x c (MeantEvent e) eventful tt agree none right
  known_value x c (MeantBlock unit) eventful agree none right = valued x c (MeantBlock unit) eventful tt agree none right
  known_value x c (MeantBuiltin b) eventful agree none right = valued x c (MeantBuiltin b) eventful tt agree none right
  known_value x c MeantNothing eventful agree none right = valued x c MeantNothing eventful tt agree none right

  known_head : (x : Subscript) (head : Head) (m : Meant) → ValueAgrees u site path (class_of_head head) m → head_fault head x (class_of_head head) ≡ None → SubscriptRight u site x
      → IsKnown (class_of_head head) (sort_of_subscripted u site path x m)
  unfolding head_fault
  known_head x head m agree none right = known_value x (class_of_head head) m (is_eventful_head head) agree (λ one of_one. ap (head_fault head x) (sym of_one) ∙ none) right

  known_node : (ps : List Phrase) (p : Phrase) (x : Subscript) (m : Meant) (n : Node) → NodeAgrees u site ps p path n m → fault_at ps p path x n ≡ None → SubscriptRight u site x
      → IsKnown (class_at ps p path x n) (sort_of_subscripted u site path x m)
  unfolding class_at fault_at
  known_node ps p x m (OfTemplate name head declarations) agree none right = known_head x head m agree none right
  known_node ps p x m (OfUnit name head declarations) agree none right = known_head x head m agree none right
  known_node ps p x m other agree none right = known_data x (data_at ps p path other) m (is_event_name path other) agree none right

  known_phrase : (ps : List Phrase) (x : Subscript) (m : Meant) (o : Option Phrase) → PhraseAgrees u site ps path o m → option_and_then (λ (p : Phrase). fault_at ps p path x p.node) o ≡ None → SubscriptRight u site x
      → IsKnown (option_and_then (λ (p : Phrase). class_at ps p path x p.node) o) (sort_of_subscripted u site path x m)
  known_phrase ps x m None agree none right = absurd agree
  known_phrase ps x m (Some p) agree none right = known_node ps p x m p.node agree none right

  -- a built-in function without a list is an integer
  alone : (o : Option Builtin) (one : Class) → class_of_builtin o ≡ Some one → (is_some o ≡ true) × (one ≡ class.Integer)
  unfolding class_of_builtin
  alone None one is = absurd (cc)
  alone (Some b) one is = (refl, alone_by (form_of b) one is)

  known_builtin : (x : Subscript) (name : List ℕ) (m : Meant) → is_nil path ≡ true → ValueAgrees u site path (class_of_builtin (builtin_named name)) m → builtin_fault name x ≡ None → SubscriptRight u site x
      → IsKnown (if is_nil path then class_of_builtin (builtin_named name) else None) (sort_of_subscripted u site path x m)
  known_builtin x name m empty agree none right =
      subst (λ (b : Bool). IsKnown (if b then class_of_builtin (builtin_named name) else None) (sort_of_subscripted u site path x m)) (sym empty)
      (known_value x (class_of_builtin (builtin_named name)) m false agree
      (λ one of_one.
      let is = alone (builtin_named name) one of_one in
      ap (λ c. choice_fault false (single c) (kinds.chosen (single c) x)) is.1
      ∙ (ap (λ b. if b then choice_fault false (single class.Integer) (kinds.chosen (single class.Integer) x) else None) (sym is.0) ∙ none)) right)

  known_declared : (ps : List Phrase) (x : Subscript) (name : List ℕ) (m : Meant) (o : Option ℕ) → DeclarationAgrees u site ps name path o m
      → ◌≡◌ {A = Option ℕ} (elim o [ None ↦ builtin_fault name x | Some k ↦ option_and_then (λ (p : Phrase). fault_at ps p path x p.node) (slice_get ps k) ]) None → SubscriptRight u site x
      → IsKnown (elim o [ None ↦ if is_nil path then class_of_builtin (builtin_named name) else None | Some k ↦ option_and_then (λ (p : Phrase). class_at ps p path x p.node) (slice_get ps k) ]) (sort_of_subscripted u site path x m)
  known_declared ps x name m None agree none right = known_builtin x name m agree.0 agree.1 none right
  known_declared ps x name m (Some k) agree none right = known_phrase ps x m (slice_get ps k) agree none right

-- a reference
pub reference_known : (u : Uses) (site : Site) (ps : List Phrase) (block : ℕ) (place : Place) (name : List ℕ) (path : List Naming) (x : Subscript) → NameAgrees u site ps block name path
    → reference_fault ps block (Refers place name path x) ≡ None → SubscriptRight u site x → IsKnown (class_of_reference ps block (Refers place name path x)) (sort_of_reference u site (Refers place name path x))
unfolding class_of_reference reference_fault
reference_known u site ps block place name path x agree none right =
    subst (λ (o : Option Sort). IsKnown (class_of_path ps block name path x) o) (sym (referred_sort u site place name path x))
    (known_declared u site path ps x name (name_meant (here_at site) name []) (means ps block name) agree (no_rule place (named_fault ps block name path x) none) right)

unchosen_by : (has : Bool) → ◌≡◌ {A = Option ℕ} (if has then (if nat_lt 1 0 then Some 707 else None) else if nat_lt 0 0 then Some 721 else None) None
unchosen_by true = refl
unchosen_by false = refl

-- no rule of subscripts is broken where there is none
unchosen : (eventful : Bool) (d : Data) → choice_fault eventful d (kinds.chosen d Unsubscripted) ≡ None
unfolding choice_of
unchosen eventful d = unchosen_by (is_string d.class && not eventful)

unchosen_data : (eventful : Bool) (o : Option Data) → data_fault eventful Unsubscripted o ≡ None
unfolding data_fault
unchosen_data eventful None = refl
unchosen_data eventful (Some d) = unchosen eventful d

unchosen_head : (head : Head) (o : Option Class) → head_fault head Unsubscripted o ≡ None
unfolding head_fault
unchosen_head head None = refl
unchosen_head head (Some c) = unchosen (is_eventful_head head) (single c)

unchosen_node : (ps : List Phrase) (p : Phrase) (path : List Naming) (n : Node) → fault_at ps p path Unsubscripted n ≡ None
unfolding fault_at
unchosen_node ps p path (OfTemplate name head declarations) = unchosen_head head (class_of_head head)
unchosen_node ps p path (OfUnit name head declarations) = unchosen_head head (class_of_head head)
unchosen_node ps p path other = unchosen_data (is_event_name path other) (data_at ps p path other)

unchosen_phrase : (ps : List Phrase) (path : List Naming) (o : Option Phrase) → option_and_then (λ (p : Phrase). fault_at ps p path Unsubscripted p.node) o ≡ None
unchosen_phrase ps path None = refl
unchosen_phrase ps path (Some p) = unchosen_node ps p path p.node

unchosen_builtin : (b : Bool) → (if b then choice_fault false (single class.Integer) (kinds.chosen (single class.Integer) Unsubscripted) else None) ≡ None
unchosen_builtin true = unchosen false (single class.Integer)
unchosen_builtin false = refl

unchosen_declared : (ps : List Phrase) (name : List ℕ) (path : List Naming) (o : Option ℕ)
    → ◌≡◌ {A = Option ℕ} (elim o [ None ↦ builtin_fault name Unsubscripted | Some k ↦ option_and_then (λ (p : Phrase). fault_at ps p path Unsubscripted p.node) (slice_get ps k) ]) None
unchosen_declared ps name path None = unchosen_builtin (is_some (builtin_named name))
unchosen_declared ps name path (Some k) = unchosen_phrase ps path (slice_get ps k)

-- a name alone
pub name_known : (u : Uses) (site : Site) (ps : List Phrase) (block : ℕ) (name : List ℕ) → NameAgrees u site ps block name [] → IsKnown (class_of_name ps block name) (sort_of_name u site name [])
name_known u site ps block name agree =
    known_declared u site [] ps Unsubscripted name (name_meant (here_at site) name []) (means ps block name) agree (unchosen_declared ps name [] (means ps block name)) tt
