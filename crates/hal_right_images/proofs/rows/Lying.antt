-- The elements to which names lead lie among the own places of a process that reaches the unit of their data.
use Rattle.std.specs.Prelude.{◌≡◌, ◌<◌, ◌≤◌, ℕ, zero, suc, ◌+◌, min, Bool, true, false, List, [], ◌∷◌, ◌++◌, cond, flat_map, length, map, replicate, Option, Some, None, slice_get, unwrap_or, if◌then◌else◌}
use Rattle.std.proofs.Common.{refl, sym, ap, subst, ◌∙◌, arith, append_assoc, append-nil}
use Rattle.std.proofs.lemmas.Bool.{and_from, and_parts}
use Rattle.std.proofs.lemmas.List.{length-map, length-replicate, map-append}
use Rattle.std.proofs.lemmas.List.Sums.{sum_by-cons}
use Rattle.hal_grammar.specs.Leaves.{Naming}
use Rattle.hal_grammar.specs.Declarations.{Automatic, Attribute, Declared}
use Rattle.hal_phrases.specs.Phrases.{Node, Phrase, OfItem}
use Rattle.hal_names.specs.Laws.{IsCounted}
use Rattle.hal_scope.specs.Sorts.{type_among}
use Rattle.hal_kinds.specs.Attributes.{has_mark}
use Rattle.hal_values.specs.declared.value.Kind.{Kind}
use Rattle.hal_values.specs.declared.value.Value.{Value}
use Rattle.hal_code.specs.Memory.{lies_from, own_memory}
use Rattle.hal_code.specs.Sorts.{same_kind}
use Rattle.hal_meaning.specs.Bodies.{processes_reaching}
use Rattle.hal_meaning.specs.Calls.{Parameter, parameter_named}
use Rattle.hal_meaning.specs.Elements.{Component, times, Shape, product, count, copy_size, kinds_of_component, kinds_of, shape_of, leads, before, chosen, offset}
use Rattle.hal_meaning.specs.InitialValues.{first_values}
use Rattle.hal_meaning.specs.Places.{Place, Storing, InPlaces, storing, places_from, places_of_item, places_at, places_of, unit_numbers}
use Rattle.hal_meaning.specs.ReportNames.{first_place}
use Rattle.hal_meaning.specs.Sets.{Set}
use Rattle.hal_meaning.specs.Variables.{kind_of_first}
use Rattle.hal_gen_expr.specs.declared.elements.Element.{Element}
use Rattle.hal_gen_expr.specs.Elements.{an_element, counted, element_in}
use Rattle.hal_gen_expr.specs.Leaves.{is_nil, is_one}
use Rattle.hal_reach.specs.Places.{is_among}
use Rattle.hal_link.specs.Linking.{own_row}
use Rattle.hal_link.specs.Shapes.{Shapes}
use Rattle.hal_fit_calls.specs.Each.{Each}
use Rattle.hal_fit_layout.specs.Owned.{IsOthers, LiesIn, has_one, IsStored}
use Rattle.hal_fit_layout.proofs.Laid.{memory_of_rows}
use Rattle.hal_fit_layout.proofs.Memory.{found_so, known, lies_behind, first_behind}
use Rattle.hal_fit_layout.proofs.Owned.{lies_in_process}
use Rattle.hal_fit_layout.proofs.Parameters.{first_long, kinds_in, parameter_is}
use Rattle.hal_right_images.proofs.rows.Filled.{product_some}
use Rattle.hal_right_images.proofs.rows.Formed.{HasSizes, type_sizes}

-- what stands behind a list
pub get_behind : {X : Type 0} (xs ys : List X) (m : ℕ) → slice_get (xs ++ ys) (length xs + m) ≡ slice_get ys m
get_behind [] ys m = let same : zero + m ≡ m = omega arith in ap (slice_get ys) same
get_behind (x ∷ xs) ys m = let same : suc (length xs) + m ≡ suc (length xs + m) = omega arith in ap (slice_get (x ∷ (xs ++ ys))) same ∙ get_behind xs ys m

pub get_first : {X : Type 0} (xs ys : List X) (i : ℕ) (x : X) → slice_get xs i ≡ Some x → slice_get (xs ++ ys) i ≡ Some x
get_first [] ys i x is = absurd (cc)
get_first (y ∷ xs) ys zero x is = is
get_first (y ∷ xs) ys (suc i) x is = get_first xs ys i x is

-- the one element to which names lead, among the kinds of all
record IsElement (path : List Naming) (cs : List Component) : Type 0 where
  there : slice_get (flat_map kinds_of_component cs) (copy_size (before path cs)) ≡ Some (kind_of_first (chosen path cs))
  low : copy_size (before path cs) < copy_size cs

one_element : (c : Component) (cs : List Component) → is_one (c ∷ cs) ≡ true → count c ≡ 1
one_element c [] is = by c.sizes is where
  by : (sizes : List ℕ) → is_nil sizes ≡ true → product sizes ≡ 1
  by [] is_so = refl
  by (n ∷ ns) is_so = absurd (cc)
one_element c (d ∷ cs) is = absurd (cc)

first_of_one : (n : ℕ) (k : Kind) (more : List Kind) → n ≡ 1 → slice_get (replicate n k ++ more) 0 ≡ Some k
first_of_one zero k more is = absurd (omega (arith, is))
first_of_one (suc n) k more is = refl

element_at : (path : List Naming) (cs : List Component) → is_one (chosen path cs) ≡ true → IsElement path cs
element_at path [] is = absurd (cc)
element_at path (c ∷ cs) is = by (leads path c.path) refl is (element_at path cs) where
  size : copy_size (c ∷ cs) ≡ count c + copy_size cs
  size = sum_by-cons count c cs

  by : (b : Bool) → leads path c.path ≡ b → is_one (cond b (c ∷ chosen path cs) (chosen path cs)) ≡ true → (is_one (chosen path cs) ≡ true → IsElement path cs) → IsElement path (c ∷ cs)
  by true led one later =
      let single = one_element c (chosen path cs) one in
      let none : before path (c ∷ cs) ≡ [] = ap (λ b. if b then [] else c ∷ before path cs) led in
      let is_c : chosen path (c ∷ cs) ≡ c ∷ chosen path cs = ap (λ b. cond b (c ∷ chosen path cs) (chosen path cs)) led in
      let nothing : copy_size (before path (c ∷ cs)) ≡ 0 = ap copy_size none in
      record {
        there = ap (slice_get (flat_map kinds_of_component (c ∷ cs))) nothing ∙ (first_of_one (count c) c.kind (flat_map kinds_of_component cs) single ∙ ap Some (sym (ap kind_of_first is_c)));
        low = (let all = size in omega (arith, nothing, all, single));
      }
  by false not_led one later =
      let rest = later one in
      let one_more : before path (c ∷ cs) ≡ c ∷ before path cs = ap (λ b. if b then [] else c ∷ before path cs) not_led in
      let is_rest : chosen path (c ∷ cs) ≡ chosen path cs = ap (λ b. cond b (c ∷ chosen path cs) (chosen path cs)) not_led in
      let sum : copy_size (before path (c ∷ cs)) ≡ count c + copy_size (before path cs) = ap copy_size one_more ∙ sum_by-cons count c (before path cs) in
      let long : length (kinds_of_component c) ≡ count c = length-replicate (count c) c.kind in
      record {
        there = ap (slice_get (flat_map kinds_of_component (c ∷ cs))) (sum ∙ ap (λ n. n + copy_size (before path cs)) (sym long))
            ∙ (get_behind (kinds_of_component c) (flat_map kinds_of_component cs) (copy_size (before path cs)) ∙ (rest.there ∙ ap (λ l. Some (kind_of_first l)) (sym is_rest)));
        low = (let all = size in let less = rest.low in omega (arith, sum, all, less));
      }

-- with its number, where fewer elements lie before it than are counted
pub element_below : (path : List Naming) (shape : Shape) (one : Element) → shape.copies ≡ None → element_in path shape.components ≡ Some one → one.before < counted → slice_get (kinds_of shape) one.before ≡ Some one.kind
element_below path shape one single is low = by (is_one (chosen path shape.components)) refl is where
  cs : List Component
  cs = shape.components

  kinds : kinds_of shape ≡ flat_map kinds_of_component cs
  kinds = ap (λ (o : Option ℕ). kinds_of (record { copies = o; components = cs })) single ∙ append-nil (flat_map kinds_of_component cs)

  by : (b : Bool) → is_one (chosen path cs) ≡ b → (if b then Some (an_element (min (offset path cs) counted) (kind_of_first (chosen path cs))) else None) ≡ Some one → slice_get (kinds_of shape) one.before ≡ Some one.kind
  by true so made =
      let found = element_at path cs so in
      let whole : an_element (min (offset path cs) counted) (kind_of_first (chosen path cs)) ≡ one = cc in
      let here : min (offset path cs) counted ≡ one.before = ap (λ (x : Element). x.before) whole in
      let exact : one.before ≡ copy_size (before path cs) = omega (arith, here, low) in
      ap (λ l. slice_get l one.before) kinds
      ∙ (ap (slice_get (flat_map kinds_of_component cs)) exact ∙ (found.there ∙ ap (λ (x : Element). Some x.kind) whole))
  by false isnt made = absurd (cc)

-- with its number, where elements are few
pub element_there : (path : List Naming) (shape : Shape) (one : Element) → shape.copies ≡ None → copy_size shape.components ≤ counted → element_in path shape.components ≡ Some one → slice_get (kinds_of shape) one.before ≡ Some one.kind
element_there path shape one single few is = by (is_one (chosen path shape.components)) refl is where
  cs : List Component
  cs = shape.components

  kinds : kinds_of shape ≡ flat_map kinds_of_component cs
  kinds = ap (λ (o : Option ℕ). kinds_of (record { copies = o; components = cs })) single ∙ append-nil (flat_map kinds_of_component cs)

  by : (b : Bool) → is_one (chosen path cs) ≡ b → (if b then Some (an_element (min (offset path cs) counted) (kind_of_first (chosen path cs))) else None) ≡ Some one → slice_get (kinds_of shape) one.before ≡ Some one.kind
  by true so made =
      let found = element_at path cs so in
      let whole : an_element (min (offset path cs) counted) (kind_of_first (chosen path cs)) ≡ one = cc in
      let low = found.low in
      let exact : min (offset path cs) counted ≡ copy_size (before path cs) = omega (arith, low, few) in
      ap (λ l. slice_get l one.before) kinds
      ∙ (ap (λ (x : Element). slice_get (flat_map kinds_of_component cs) x.before) (sym whole)
      ∙ (ap (slice_get (flat_map kinds_of_component cs)) exact ∙ (found.there ∙ ap (λ (x : Element). Some x.kind) whole)))
  by false so made = absurd (cc)

-- one of the kinds that lie in memory
first_found : (k : Kind) (later : Bool) (o : Option (Option Kind)) → found_so k later o ≡ true → found_so k true o ≡ true
first_found k later None is = absurd (cc)
first_found k later (Some None) is = absurd (cc)
first_found k later (Some (Some found)) is = and_from (same_kind found k) true (and_parts (same_kind found k) later is).0 refl

later_found : (k : Kind) (later : Bool) (o : Option (Option Kind)) → found_so k later o ≡ true → later ≡ true
later_found k later None is = absurd (cc)
later_found k later (Some None) is = absurd (cc)
later_found k later (Some (Some found)) is = (and_parts (same_kind found k) later is).1

pub lies_one : (memory : List (Option Kind)) (at : ℕ) (ks : List Kind) (i : ℕ) (k : Kind) → lies_from memory at ks ≡ true → slice_get ks i ≡ Some k → lies_from memory (at + i) (k ∷ []) ≡ true
lies_one memory at [] i k lies is = absurd (cc)
lies_one memory at (x ∷ ks) zero k lies is =
    let same : x ≡ k = cc in
    let here : at + 0 ≡ at = omega arith in
    ap (λ n. lies_from memory n (k ∷ [])) here
    ∙ first_found k (lies_from memory (suc at) ks) (slice_get memory at) (subst (λ y. found_so y (lies_from memory (suc at) ks) (slice_get memory at) ≡ true) same lies)
lies_one memory at (x ∷ ks) (suc i) k lies is =
    let further : at + suc i ≡ suc at + i = omega arith in
    ap (λ n. lies_from memory n (k ∷ [])) further ∙ lies_one memory (suc at) ks i k (later_found x (lies_from memory (suc at) ks) (slice_get memory at) lies) is

-- kinds of data that lie among own places
pub record Opens (number : ℕ) (owned : List Place) (ks : List Kind) : Type 0 where
  pub first : Place
  pub more : List Place
  pub is : owned ≡ first ∷ more
  pub its : first.owner ≡ number
  pub rest : List (Option Kind)
  pub kinds : kinds_in owned ≡ known ks ++ rest

pub own_lies : (s : Set) (shapes : Shapes) (places : List Place) (number : ℕ) (owned : List Place) (ks : List Kind) → LiesIn places number owned → Opens number owned ks
    → lies_from (own_memory (map (own_row s shapes) places)) (first_place places number) ks ≡ true
own_lies s shapes places number owned ks lies opens =
    let here : places ≡ lies.before ++ (opens.first ∷ (opens.more ++ lies.behind)) = lies.is ∙ ap (λ l. lies.before ++ (l ++ lies.behind)) opens.is in
    let apart = subst (λ n. Each (IsOthers n) lies.before) (sym opens.its) lies.apart in
    let first : first_place places number ≡ length lies.before =
    ap (λ n. first_place places n) (sym opens.its) ∙ (ap (λ l. first_place l opens.first.owner) here ∙ first_behind lies.before opens.first (opens.more ++ lies.behind) apart) in
    let memory : own_memory (map (own_row s shapes) places) ≡ kinds_in lies.before ++ (known ks ++ (opens.rest ++ kinds_in lies.behind)) =
    memory_of_rows s shapes places
    ∙ (ap kinds_in lies.is
    ∙ (map-append (λ (one : Place). one.kind) lies.before (owned ++ lies.behind)
    ∙ ap (λ l. kinds_in lies.before ++ l)
    (map-append (λ (one : Place). one.kind) owned lies.behind ∙ (ap (λ l. l ++ kinds_in lies.behind) opens.kinds ∙ append_assoc (known ks) opens.rest (kinds_in lies.behind))))) in
    ap (λ m. lies_from m (first_place places number) ks) memory
    ∙ (ap (λ n. lies_from (kinds_in lies.before ++ (known ks ++ (opens.rest ++ kinds_in lies.behind))) n ks) (first ∙ sym (length-map lies.before (λ (one : Place). one.kind)))
    ∙ lies_behind (kinds_in lies.before) ks (opens.rest ++ kinds_in lies.behind))

-- the places of an item, and of the variable of a group
pub item_opens : (number : ℕ) (automatic : Bool) (ks : List Kind) (vs : List Value) → length vs ≡ length ks → 0 < length ks → Opens number (places_from number automatic ks vs) ks
item_opens number automatic [] vs long some = absurd (omega (arith, some))
item_opens number automatic (k ∷ ks) [] long some = absurd (omega (arith, long))
item_opens number automatic (k ∷ ks) (v ∷ vs) long some =
    record { first = record { owner = number; kind = Some k; initial = v; automatic = automatic }; more = places_from number automatic ks vs; is = refl; its = refl; rest = []; kinds = kinds_all (k ∷ ks) (v ∷ vs) long ∙ sym (append-nil (known (k ∷ ks))) } where
      kinds_all : (ls : List Kind) (ws : List Value) → length ws ≡ length ls → kinds_in (places_from number automatic ls ws) ≡ known ls
      kinds_all [] ws same = refl
      kinds_all (l ∷ ls) [] same = absurd (omega (arith, same))
      kinds_all (l ∷ ls) (w ∷ ws) same = ap (λ rest. Some l ∷ rest) (kinds_all ls ws (omega (arith, same)))

-- the kinds of an item in own places lie there
pub item_lies : (s : Set) (shapes : Shapes) → IsCounted s.phrases → (process m : ℕ) (p : Phrase) (k : ℕ) → slice_get s.phrases k ≡ Some p → (common : List Attribute) (item : Declared) → p.node ≡ OfItem common item
    → storing s.phrases s.constants p (OfItem common item) ≡ InPlaces → slice_get (unit_numbers s.phrases) m ≡ Some p.around.home → is_among (processes_reaching s.phrases p.around.home) process ≡ true
    → 0 < length (kinds_of (shape_of s.phrases s.constants p common item))
    → lies_from (own_memory (map (own_row s shapes) (places_of s.phrases s.constants process))) (first_place (places_of s.phrases s.constants process) k) (kinds_of (shape_of s.phrases s.constants p common item)) ≡ true
item_lies s shapes counted_so process m p k there common item node stored named reaches some =
    let attributes = item.attributes ++ common in
    let ks = kinds_of (shape_of s.phrases s.constants p common item) in
    let values = first_values s.phrases s.constants p attributes ks in
    let lies = lies_in_process s.phrases s.constants counted_so p.around.home k p there refl process m named reaches in
    let number = counted_so k p there in
    let own : LiesIn (places_of s.phrases s.constants process) k (places_from k (has_mark Automatic attributes) ks values) =
    subst (λ n. LiesIn (places_of s.phrases s.constants process) k (places_from n (has_mark Automatic attributes) ks values)) number
    (subst (λ (way : Storing). LiesIn (places_of s.phrases s.constants process) k (places_of_item s.phrases s.constants p common item way)) stored
    (subst (λ (n : Node). LiesIn (places_of s.phrases s.constants process) k (places_at s.phrases s.constants p n)) node lies)) in
    own_lies s shapes (places_of s.phrases s.constants process) k (places_from k (has_mark Automatic attributes) ks values) ks own
    (item_opens k (has_mark Automatic attributes) ks values (first_long s.phrases s.constants p attributes ks) some)

pub some_kind : (ks : List Kind) (i : ℕ) (k : Kind) → slice_get ks i ≡ Some k → 0 < length ks
some_kind [] i k is = absurd (cc)
some_kind (x ∷ ks) i k is = omega arith

-- so does an element to which a name leads
pub item_element : (s : Set) (shapes : Shapes) (counted_so : IsCounted s.phrases) (process m : ℕ) (p : Phrase) (k : ℕ) → slice_get s.phrases k ≡ Some p → (common : List Attribute) (item : Declared) → p.node ≡ OfItem common item
    → storing s.phrases s.constants p (OfItem common item) ≡ InPlaces → slice_get (unit_numbers s.phrases) m ≡ Some p.around.home → is_among (processes_reaching s.phrases p.around.home) process ≡ true
    → (path : List Naming) (one : Element) → (shape_of s.phrases s.constants p common item).copies ≡ None → copy_size (shape_of s.phrases s.constants p common item).components ≤ counted
    → element_in path (shape_of s.phrases s.constants p common item).components ≡ Some one
    → lies_from (own_memory (map (own_row s shapes) (places_of s.phrases s.constants process))) (first_place (places_of s.phrases s.constants process) k + one.before) (one.kind ∷ []) ≡ true
item_element s shapes counted_so process m p k there common item node stored named reaches path one single few leads_so =
    let shape = shape_of s.phrases s.constants p common item in
    let found = element_there path shape one single few leads_so in
    lies_one (own_memory (map (own_row s shapes) (places_of s.phrases s.constants process))) (first_place (places_of s.phrases s.constants process) k) (kinds_of shape) one.before one.kind
    (item_lies s shapes counted_so process m p k there common item node stored named reaches (some_kind (kinds_of shape) one.before one.kind found)) found

-- and the first element of an input parameter
first_kind_there : (copies : ℕ) (cs : List Component) → Each HasSizes cs → has_one (times copies (flat_map kinds_of_component cs)) ≡ true → slice_get (times copies (flat_map kinds_of_component cs)) 0 ≡ Some (kind_of_first cs)
first_kind_there zero cs sizes one = absurd (cc)
first_kind_there (suc n) [] sizes one = let none = none_there (suc n) in absurd (cc) where
  none_there : (m : ℕ) → has_one (times m []) ≡ false
  none_there zero = refl
  none_there (suc m) = none_there m
first_kind_there (suc n) (c ∷ cs) sizes one = by (count c) (product_some c.sizes sizes.0) where
  by : (m : ℕ) → 0 < m → slice_get ((replicate m c.kind ++ flat_map kinds_of_component cs) ++ times n (flat_map kinds_of_component (c ∷ cs))) 0 ≡ Some c.kind
  by zero some = absurd (omega (arith, some))
  by (suc m) some = refl

pub parameter_lies : (s : Set) (shapes : Shapes) → IsCounted s.phrases → (process m unit : ℕ) (name : Naming) (one : IsStored s unit name InPlaces) → slice_get (unit_numbers s.phrases) m ≡ Some unit
    → is_among (processes_reaching s.phrases unit) process ≡ true
    → lies_from (own_memory (map (own_row s shapes) (places_of s.phrases s.constants process))) (first_place (places_of s.phrases s.constants process) (parameter_named s unit name).number)
    (kind_of_first (parameter_named s unit name).shape.components ∷ []) ≡ true
parameter_lies s shapes counted_so process m unit name one named reaches =
    let ps = s.phrases in
    let vs = s.constants in
    let attributes = one.item.attributes ++ one.common in
    let form = shape_of ps vs one.phrase one.common one.item in
    let memory = own_memory (map (own_row s shapes) (places_of ps vs process)) in
    let first = first_place (places_of ps vs process) one.number in
    let at = first_kind_there (unwrap_or form.copies 1) form.components (type_sizes ps vs one.phrase attributes (type_among attributes)) one.some in
    let lies = item_lies s shapes counted_so process m one.phrase one.number one.there one.common one.item one.node one.stored_so (named ∙ ap Some (sym one.home))
    (subst (λ u. is_among (processes_reaching ps u) process ≡ true) (sym one.home) reaches) (some_kind (kinds_of form) 0 (kind_of_first form.components) at) in
    let kind_lies = lies_one memory first (kinds_of form) 0 (kind_of_first form.components) lies at in
    let same : first + 0 ≡ first = omega arith in
    let number = counted_so one.number one.phrase one.there in
    ap (λ (p : Parameter). lies_from memory (first_place (places_of ps vs process) p.number) (kind_of_first p.shape.components ∷ [])) (parameter_is s unit name InPlaces one)
    ∙ (ap (λ n. lies_from memory (first_place (places_of ps vs process) n) (kind_of_first form.components ∷ [])) number ∙ (ap (λ n. lies_from memory n (kind_of_first form.components ∷ [])) (sym same) ∙ kind_lies))
