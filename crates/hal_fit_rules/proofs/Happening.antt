-- Names of events and processes that the unit itself declares agree.
use Rattle.std.proofs.Common.{◌≡◌, ◌<◌, ℕ, zero, suc, ◌+◌, ◌==◌, nat_lt, Bool, true, false, not, cond, List, [], ◌∷◌, length, Option, Some, None, slice_get, filter_map, inl, inr, if◌then◌else◌, refl, sym, ap, ◌∙◌, arith}
use Rattle.std.specs.List.{cons_option, position_or_len}
use Rattle.std.specs.Option.{option_or, option_and_then}
use Rattle.std.proofs.lemmas.Bool.{and_from, eqb-true, ltb-true, eq-eqb, lt-ltb}
use Rattle.hal_grammar.specs.Declarations.{Kind, IntegerKind, BooleanKind, EventKind, BitKind, CharacterKind, StructureKind, Attribute, Declared}
use Rattle.hal_grammar.specs.Units.{Head, Program, Compool, Task, Procedure, Function}
use Rattle.hal_phrases.specs.Phrases.{Phrase, OfTemplate, OfUnit, OfItem}
use Rattle.hal_names.specs.Laws.{IsCounted}
use Rattle.hal_names.specs.Means.{means}
use Rattle.hal_scope.specs.Rules.{IsAmong}
use Rattle.hal_scope.specs.Sorts.{type_of}
use Rattle.hal_scope.specs.Uses.{is_nil}
use Rattle.hal_kinds.specs.declared.class.Class.TheVariants as class
use Rattle.hal_kinds.specs.Classes.{class_of_head}
use Rattle.hal_kinds.specs.Attributes.{sizes_of}
use Rattle.hal_kinds.specs.Data.{class_of_type, has_copies, dimensions_of, data_of, data_with, data_at, is_event_type}
use Rattle.hal_meaning.specs.Bodies.{is_process, is_process_head, processes_of, standing_for}
use Rattle.hal_meaning.specs.Events.{declared_events, event_of, is_event, place_in}
use Rattle.hal_meaning.specs.Places.{is_in_unit}
use Rattle.hal_meaning.specs.Variables.{MeantEvent, MeantNothing, event_meant, head_meant, meant_by}
use Rattle.hal_code.specs.Sorts.{B}
use Rattle.hal_agreement.specs.Sites.{Site, here_at}
use Rattle.hal_fit_expr.specs.Uses.{Uses}
use Rattle.hal_fit_expr.specs.Sorted.{sort_of_meant}
use Rattle.hal_fit_classes.specs.Kinded.{sort_of_class}
use Rattle.hal_fit_rules.specs.Agreeing.{NameAgrees}
use Rattle.hal_fit_rules.specs.Owned.{IsOwn}
use Rattle.hal_fit_rules.specs.Happening.{IsEvent, IsProcess, IsWrittenProcess, AsksAll}
use Rattle.hal_fit_rules.proofs.Declaring.{agrees_as, agrees_by, meant_standing}
use Rattle.hal_fit_rules.proofs.Leaving.{found_among}

-- where a number is first in a list
pub record IsPlaced (ks : List ℕ) (k : ℕ) : Type 0 where
  pub number : ℕ
  pub is : place_in ks k ≡ Some number
  pub small : number < length ks
  pub there : slice_get ks number ≡ Some k

abbrev pub before_first : ℕ → List ℕ → ℕ
before_first k ks = position_or_len (λ one. one == k) ks

one_more : (n : ℕ) → 1 + n ≡ suc n
one_more n = omega arith

first_step : (k x : ℕ) (xs : List ℕ) (b : Bool) → (x == k) ≡ b → (b ≡ false → (before_first k xs < length xs) × (slice_get xs (before_first k xs) ≡ Some k))
    → (cond (not b) (1 + before_first k xs) 0 < suc (length xs)) × (slice_get (x ∷ xs) (cond (not b) (1 + before_first k xs) 0) ≡ Some k)
first_step k x xs true is rest = (omega arith, ap (λ n. Some n) (eqb-true x k is))
first_step k x xs false is rest = (omega (arith, (rest refl).0), ap (slice_get (x ∷ xs)) (one_more (before_first k xs)) ∙ (rest refl).1)

not_first : {X : Type 0} (k x : ℕ) → (x == k) ≡ false → k ≡ x → X
not_first k x is same = absurd (let also = sym is ∙ eq-eqb x k (sym same) in cc)

first_found : (k : ℕ) (ks : List ℕ) → IsAmong k ks → (before_first k ks < length ks) × (slice_get ks (before_first k ks) ≡ Some k)
first_found k [] within = absurd within
first_found k (x ∷ xs) (inl same) = first_step k x xs (x == k) refl (λ differs. not_first k x differs same)
first_found k (x ∷ xs) (inr later) = first_step k x xs (x == k) refl (λ differs. first_found k xs later)

pub placed : (k : ℕ) (ks : List ℕ) → IsAmong k ks → IsPlaced ks k
placed k ks within =
    let found = first_found k ks within in
    record {
      number = before_first k ks;
      is = ap (λ b. cond b (Some (before_first k ks)) None) (lt-ltb (before_first k ks) (length ks) found.0);
      small = found.0;
      there = found.1;
    }

-- a place that is found is one of the list
found_small : (k n : ℕ) (ks : List ℕ) (b : Bool) → (nat_lt (before_first k ks) (length ks)) ≡ b → cond b (Some (before_first k ks)) None ≡ Some n → n < length ks
found_small k n ks true is some = let same : n ≡ before_first k ks = cc in omega (arith, same, ltb-true (before_first k ks) (length ks) is)
found_small k n ks false is some = absurd (cc)

place_small : (k n : ℕ) (ks : List ℕ) → place_in ks k ≡ Some n → n < length ks
place_small k n ks is = found_small k n ks (nat_lt (before_first k ks) (length ks)) refl is

-- a number that a phrase gives is among those that phrases give
among_given : {X : Type 0} (f : X → Option ℕ) (k : ℕ) (x : X) (xs : List X) → IsAmong x xs → f x ≡ Some k → IsAmong k (filter_map f xs)
among_given f k x [] within is = absurd within
among_given f k x (y ∷ ys) (inl same) is = at_first (f y) (ap f (sym same) ∙ is) where
  at_first : (o : Option ℕ) → o ≡ Some k → IsAmong k (cons_option o (filter_map f ys))
  at_first None some = absurd (cc)
  at_first (Some n) some = inl (let the_same : k ≡ n = cc in the_same)
among_given f k x (y ∷ ys) (inr later) is = behind (f y) (among_given f k x ys later is) where
  behind : (o : Option ℕ) → IsAmong k (filter_map f ys) → IsAmong k (cons_option o (filter_map f ys))
  behind None rest = rest
  behind (Some n) rest = inr rest

-- an event that is declared has a number
pub record HasNumber (site : Site) (k : ℕ) : Type 0 where
  pub event : ℕ
  pub is : event_of site.set.phrases k ≡ Some event
  pub small : event < length (processes_of site.set.phrases) + length (declared_events site.set.phrases)

placed_event : (site : Site) (k : ℕ) (of_process of_event : Option ℕ) → ((n : ℕ) → of_process ≡ Some n → n < length (processes_of site.set.phrases)) → ((n : ℕ) → of_event ≡ Some n → n < length (declared_events site.set.phrases))
    → (of_process ≡ None → (n : ℕ) × (of_event ≡ Some n))
    → (e : ℕ) × (option_or of_process (elim of_event [ None ↦ None | Some n ↦ Some (length (processes_of site.set.phrases) + n) ]) ≡ Some e) × (e < length (processes_of site.set.phrases) + length (declared_events site.set.phrases))
placed_event site k (Some n) of_event small also found = (n, refl, omega (arith, small n refl))
placed_event site k None (Some n) small also found = (length (processes_of site.set.phrases) + n, refl, omega (arith, also n refl))
placed_event site k None None small also found = absurd (let is = (found refl).1 in cc)

-- a number that processes or events have
numbered : (site : Site) (k : ℕ) → (place_in (processes_of site.set.phrases) k ≡ None → (n : ℕ) × (place_in (declared_events site.set.phrases) k ≡ Some n)) → HasNumber site k
numbered site k found =
    let ps = site.set.phrases in
    let one = placed_event site k (place_in (processes_of ps) k) (place_in (declared_events ps) k) (λ n is. place_small k n (processes_of ps) is) (λ n is. place_small k n (declared_events ps) is) found in
    record { event = one.0; is = one.1; small = one.2 }

-- an event is listed among the declared ones
pub listed_event : (site : Site) (k : ℕ) (p : Phrase) → slice_get site.set.phrases k ≡ Some p → p.number ≡ k → IsEvent site p → IsPlaced (declared_events site.set.phrases) k
listed_event site k p there same is =
    let ps = site.set.phrases in
    let listed : (if is_event ps p.around.home p.node then Some p.number else None) ≡ Some k =
    ap (λ n. if is_event ps p.around.home n then Some p.number else None) is.declares
    ∙ (ap (λ b. if b then Some p.number else None) (and_from (is_event_type (type_of is.common is.item)) (is_in_unit ps p.around.home) is.eventful is.within) ∙ ap (λ n. Some n) same) in
    placed k (declared_events ps) (among_given (λ (q : Phrase). if is_event ps q.around.home q.node then Some q.number else None) k p ps (found_among ps k p there) listed)

pub event_numbered : (site : Site) (k : ℕ) (p : Phrase) → slice_get site.set.phrases k ≡ Some p → p.number ≡ k → IsEvent site p → HasNumber site k
event_numbered site k p there same is = let one = listed_event site k p there same is in numbered site k (λ none. (one.number, one.is))

process_numbered : (site : Site) (k : ℕ) (p : Phrase) → slice_get site.set.phrases k ≡ Some p → p.number ≡ k → IsProcess p → HasNumber site k
process_numbered site k p there same is =
    let ps = site.set.phrases in
    let listed : (if is_process p.node then Some p.number else None) ≡ Some k =
    ap (λ n. if is_process n then Some p.number else None) is.declares ∙ (ap (λ b. if b then Some p.number else None) is.process ∙ ap (λ n. Some n) same) in
    let one = placed k (processes_of ps) (among_given (λ (q : Phrase). if is_process q.node then Some q.number else None) k p ps (found_among ps k p there) listed) in
    numbered site k (λ none. absurd (let also = sym one.is ∙ none in cc))

-- it is a bit where events may be asked for
event_sorted : (u : Uses) (site : Site) (e : ℕ) → AsksAll u site → e < length (processes_of site.set.phrases) + length (declared_events site.set.phrases) → sort_of_meant u site [] (MeantEvent e) ≡ Some B
event_sorted u site e asks small =
    ap (λ b. if b then Some B else None) (and_from u.asks (nat_lt e u.events) asks.asks (lt-ltb e u.events (omega (arith, small, asks.all))))

event_class : (o : Option Kind) → is_event_type o ≡ true → data_of o None ≡ Some (data_with class.Bits zero false)
unfolding is_event_type data_of class_of_type has_copies dimensions_of
event_class (Some (EventKind place)) is = refl
event_class (Some (IntegerKind place)) is = absurd (cc)
event_class (Some (BooleanKind place)) is = absurd (cc)
event_class (Some (BitKind place size)) is = absurd (cc)
event_class (Some (CharacterKind place size)) is = absurd (cc)
event_class (Some (StructureKind place template copies)) is = absurd (cc)
event_class None is = absurd (cc)

pub event_data : (ps : List Phrase) (p : Phrase) (common : List Attribute) (item : Declared) → is_event_type (type_of common item) ≡ true → sizes_of common item ≡ None
    → data_at ps p [] (OfItem common item) ≡ Some (data_with class.Bits zero false)
unfolding data_at is_nil
event_data ps p common item is sized = ap (data_of (type_of common item)) sized ∙ event_class (type_of common item) is

process_class : (head : Head) → is_process_head head ≡ true → class_of_head head ≡ Some class.Bits
unfolding class_of_head
process_class (Program place) is = refl
process_class (Task place) is = refl
process_class (Compool place) is = absurd (cc)
process_class (Procedure place inputs outputs mode) is = absurd (cc)
process_class (Function place inputs returns mode) is = absurd (cc)

process_meant : (site : Site) (k : ℕ) (head : Head) → is_process_head head ≡ true → head_meant (here_at site) k head ≡ event_meant (here_at site) k
process_meant site k (Program place) is = refl
process_meant site k (Task place) is = refl
process_meant site k (Compool place) is = absurd (cc)
process_meant site k (Procedure place inputs outputs mode) is = absurd (cc)
process_meant site k (Function place inputs returns mode) is = absurd (cc)

pub when_true : {X : Type 0} (b : Bool) (x y : X) → b ≡ true → (if b then x else y) ≡ x
when_true true x y is = refl
when_true false x y is = absurd (cc)

module _ (u : Uses) (site : Site) (asks : AsksAll u site) (counted : IsCounted site.set.phrases) where
  meant_event : (k e : ℕ) → event_of site.set.phrases k ≡ Some e → event_meant (here_at site) k ≡ MeantEvent e
  meant_event k e is = ap (λ (o : Option ℕ). elim o [ None ↦ MeantNothing | Some n ↦ MeantEvent n ]) is

  -- data of an event type, which stand for an event
  pub event_agrees_as : (name : List ℕ) (k : ℕ) (p : Phrase) (common : List Attribute) (item : Declared) → means site.set.phrases site.block name ≡ Some k → slice_get site.set.phrases k ≡ Some p → p.node ≡ OfItem common item
      → is_event_type (type_of common item) ≡ true → sizes_of common item ≡ None → (j : ℕ) (q : Phrase) → standing_for site.set.phrases k ≡ j → slice_get site.set.phrases j ≡ Some q → IsEvent site q → NameAgrees u site site.set.phrases site.block name []
  event_agrees_as name k p common item meant there is eventful sized j q stands at event =
      let same = counted j q at in
      let one = event_numbered site j q at same event in
      agrees_as u site [] name k p (OfItem common item) (MeantEvent one.event) meant there is
      (meant_standing u site name k j q meant stands at
      ∙ (ap (meant_by (here_at site) [] q) event.declares
      ∙ (when_true (is_event_type (type_of event.common event.item)) (event_meant (here_at site) q.number) _ event.eventful ∙ meant_event q.number one.event (ap (event_of site.set.phrases) same ∙ one.is)))) (record {
        declared = data_with class.Bits zero false;
        known = event_data site.set.phrases p common item eventful sized;
        single = refl;
        alone = refl;
        worth = B;
        class = refl;
        sorted = event_sorted u site one.event asks one.small;
      })

  pub event_agrees : (name : List ℕ) (own : IsOwn site name) → IsEvent site own.phrase → NameAgrees u site site.set.phrases site.block name []
  event_agrees name own is = event_agrees_as name own.number own.phrase is.common is.item own.meant own.there is.declares is.eventful is.sized own.number own.phrase own.own own.there is

  pub process_agrees : (name : List ℕ) (own : IsOwn site name) → IsProcess own.phrase → NameAgrees u site site.set.phrases site.block name []
  process_agrees name own is =
      let same = counted own.number own.phrase own.there in
      let one = process_numbered site own.number own.phrase own.there same is in
      agrees_by u site name own (OfUnit is.name is.head is.declarations) (MeantEvent one.event) is.declares
      (process_meant site own.phrase.number is.head is.process ∙ meant_event own.phrase.number one.event (ap (event_of site.set.phrases) same ∙ one.is)) (record {
        found = class.Bits;
        known = process_class is.head is.process;
        sorted = λ c s of_c worth. event_sorted u site one.event asks one.small ∙ (ap (option_and_then sort_of_class) (sym (process_class is.head is.process) ∙ of_c) ∙ worth);
      })

  -- and a written template of one
  pub written_process_agrees : (name : List ℕ) → IsWrittenProcess site name → NameAgrees u site site.set.phrases site.block name []
  written_process_agrees name is =
      let unit = is.standing in
      let process = unit.is in
      let same = counted unit.unit unit.phrase unit.there in
      let one = process_numbered site unit.unit unit.phrase unit.there same process in
      agrees_as u site [] name is.number is.phrase (OfTemplate is.template is.head is.declarations) (MeantEvent one.event) is.meant is.there is.declares
      (meant_standing u site name is.number unit.unit unit.phrase is.meant unit.stands unit.there
      ∙ (ap (meant_by (here_at site) [] unit.phrase) process.declares
      ∙ (process_meant site unit.phrase.number process.head process.process ∙ meant_event unit.phrase.number one.event (ap (event_of site.set.phrases) same ∙ one.is)))) (record {
        found = class.Bits;
        known = process_class is.head is.process;
        sorted = λ c s of_c worth. event_sorted u site one.event asks one.small ∙ (ap (option_and_then sort_of_class) (sym (process_class is.head is.process) ∙ of_c) ∙ worth);
      })
