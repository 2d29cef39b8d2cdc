-- Events that the unit itself declares are in the image what they are for the checks.
use Rattle.std.proofs.Common.{◌≡◌, ◌<◌, ℕ, zero, suc, ◌+◌, ◌==◌, nat_lt, Bool, true, false, not, ◌&&◌, cond, List, [], ◌∷◌, ◌++◌, length, map, filter_map, Option, Some, None, slice_get, inl, inr, if◌then◌else◌, refl, sym, ap, ◌∙◌, arith}
use Rattle.std.specs.Prelude.{unwrap_or}
use Rattle.std.specs.List.{cons_option}
use Rattle.std.specs.Option.{option_and_then, option_or}
use Rattle.std.proofs.lemmas.Bool.{eqb-true, ltb-true}
use Rattle.std.proofs.lemmas.List.{length-map}
use Rattle.std.proofs.lemmas.List.Folds.{list_any-append}
use Rattle.hal_grammar.specs.Declarations.{Attribute, Declared, Latched}
use Rattle.hal_grammar.specs.Statements.{Eventful}
use Rattle.hal_phrases.specs.Phrases.{Phrase, OfItem}
use Rattle.hal_names.specs.Laws.{IsCounted}
use Rattle.hal_names.specs.Means.{means}
use Rattle.hal_scope.specs.Rules.{IsAmong}
use Rattle.hal_scope.specs.Sorts.{type_of}
use Rattle.hal_kinds.specs.Attributes.{has_mark, is_mark, is_marked}
use Rattle.hal_kinds.specs.Data.{is_event_type}
use Rattle.hal_uses.specs.Real.{is_unlatched}
use Rattle.hal_values.specs.declared.tables.EventStart.{EventStart}
use Rattle.hal_values.specs.declared.tables.EventStart.TheVariants as begins
use Rattle.hal_values.specs.declared.tables.Tables.{Tables}
use Rattle.hal_values.specs.declared.value.Kind.TheVariants as kind
use Rattle.hal_meaning.specs.Bodies.{is_process, processes_of, meant, standing_for}
use Rattle.hal_meaning.specs.Events.{declared_events, event_named, event_of, is_set, place_in, start_at, start_of}
use Rattle.hal_meaning.specs.InitialValues.{first_values}
use Rattle.hal_code.specs.declared.choice.Choice.{Choice}
use Rattle.hal_code.specs.declared.image.ImageParts.{ImageParts}
use Rattle.hal_code.specs.declared.row.Process.{Process}
use Rattle.hal_code.specs.Images as images
use Rattle.hal_code.specs.Operands.{declared_event, declared_in, is_latched}
use Rattle.hal_agreement.specs.Sites.{Site}
use Rattle.hal_fit_rules.specs.Happening.{IsEvent}
use Rattle.hal_fit_rules.specs.Owned.{IsOwn}
use Rattle.hal_fit_rules.specs.Signalled.{EventAgrees, HasEvents}
use Rattle.hal_fit_rules.proofs.Happening.{before_first, listed_event}
use Rattle.hal_fit_rules.proofs.Constants.{among_found, phrase_same}

-- what a list of given numbers has was given by a member
given_step : {X : Type 0} (f : X → Option ℕ) (k : ℕ) (y : X) (ys : List X) (o : Option ℕ) → f y ≡ o → IsAmong k (cons_option o (filter_map f ys))
    → (IsAmong k (filter_map f ys) → (x : X) × IsAmong x ys × (f x ≡ Some k)) → (x : X) × IsAmong x (y ∷ ys) × (f x ≡ Some k)
given_step f k y ys None is within rest = let later = rest within in (later.0, inr later.1, later.2)
given_step f k y ys (Some n) is (inl same) rest = (y, inl refl, is ∙ ap Some (sym same))
given_step f k y ys (Some n) is (inr within) rest = let later = rest within in (later.0, inr later.1, later.2)

given_by : {X : Type 0} (f : X → Option ℕ) (k : ℕ) (xs : List X) → IsAmong k (filter_map f xs) → (x : X) × IsAmong x xs × (f x ≡ Some k)
given_by f k [] within = absurd within
given_by f k (y ∷ ys) within = given_step f k y ys (f y) refl within (λ later. given_by f k ys later)

-- a number that has a place in a list is among its members
first_member : (k x : ℕ) (xs : List ℕ) (b : Bool) → (x == k) ≡ b → cond (not b) (1 + before_first k xs) 0 < suc (length xs) → (before_first k xs < length xs → IsAmong k xs) → IsAmong k (x ∷ xs)
first_member k x xs true is small rest = inl (sym (eqb-true x k is))
first_member k x xs false is small rest = inr (rest (omega (arith, small)))

no_member : {X : Type 0} (n : ℕ) → n < zero → X
no_member n small = let bad : zero ≡ suc n = omega (arith, small) in absurd (cc)

member : (k : ℕ) (ks : List ℕ) → before_first k ks < length ks → IsAmong k ks
member k [] small = no_member (before_first k []) small
member k (x ∷ xs) small = first_member k x xs (x == k) refl small (member k xs)

placed_member : (k n : ℕ) (ks : List ℕ) (b : Bool) → nat_lt (before_first k ks) (length ks) ≡ b → cond b (Some (before_first k ks)) None ≡ Some n → IsAmong k ks
placed_member k n ks true is some = member k ks (ltb-true (before_first k ks) (length ks) is)
placed_member k n ks false is some = absurd (cc)

unplaced : (k : ℕ) (ks : List ℕ) → (IsAmong k ks → ⊥) → (o : Option ℕ) → place_in ks k ≡ o → o ≡ None
unplaced k ks none None is = refl
unplaced k ks none (Some n) is = absurd (none (placed_member k n ks (nat_lt (before_first k ks) (length ks)) refl is))

-- what a mapped list has at a place
mapped : {X Y : Type 0} (f : X → Y) (xs : List X) (n : ℕ) (x : X) → slice_get xs n ≡ Some x → slice_get (map f xs) n ≡ Some (f x)
mapped f [] n x is = absurd (cc)
mapped f (y ∷ ys) zero x is = ap (λ (o : Option _). elim o [ None ↦ None | Some z ↦ Some (f z) ]) is
mapped f (y ∷ ys) (suc n) x is = mapped f ys n x is

unmapped : {X Y : Type 0} (f : X → Y) (xs : List X) (n : ℕ) (y : Y) → slice_get (map f xs) n ≡ Some y → (x : X) × (slice_get xs n ≡ Some x) × (f x ≡ y)
unmapped f [] n y is = absurd (cc)
unmapped f (x ∷ xs) zero y is = (x, refl, let same : f x ≡ y = cc in same)
unmapped f (x ∷ xs) (suc n) y is = unmapped f xs n y is

-- the declared event behind so many processes
declared_behind : (a n e : ℕ) (events : List (Choice EventStart)) (one : Choice EventStart) → e ≡ a + n → slice_get events n ≡ Some one → declared_in a events e ≡ Some (images.start_of one)
declared_behind zero n e events one is there =
    ap (λ k. elim (slice_get events k) [ None ↦ None | Some x ↦ Some (images.start_of x) ]) (let same : e ≡ n = omega (arith, is) in same)
    ∙ ap (λ (o : Option (Choice EventStart)). elim o [ None ↦ None | Some x ↦ Some (images.start_of x) ]) there
declared_behind (suc a) n zero events one is there = let bad : zero ≡ suc (a + n) = omega (arith, is) in absurd (cc)
declared_behind (suc a) n (suc e) events one is there = declared_behind a n e events one (omega (arith, is)) there

-- an event is latched where it says so
start_latched : (marked : Bool) (set_ : Bool) → marked ≡ true → is_latched (if marked then begins.Latched set_ else begins.Unlatched) ≡ true
start_latched true set_ is = refl
start_latched false set_ is = absurd (cc)

says_latched : (eventful marked : Bool) → eventful ≡ true → (eventful && not marked) ≡ false → marked ≡ true
says_latched true true is none = refl
says_latched true false is none = absurd (cc)
says_latched false marked is none = absurd (cc)

module _ (image : ImageParts) (site : Site) (counted : IsCounted site.set.phrases) (has : HasEvents image site) where
  -- an event is no process
  no_process : (k : ℕ) (p : Phrase) → slice_get site.set.phrases k ≡ Some p → IsEvent site p → IsAmong k (processes_of site.set.phrases) → ⊥
  no_process k p there is within =
      let ps = site.set.phrases in
      let given = given_by (λ (q : Phrase). if is_process q.node then Some q.number else None) k ps within in
      let found = among_found given.0 ps given.1 in
      let number : given.0.number ≡ found.0 = counted found.0 given.0 found.1 in
      let process = process_by (is_process given.0.node) given.0.number k given.2 in
      let same : given.0 ≡ p = phrase_same given.0 p (sym found.1 ∙ (ap (slice_get ps) (sym number ∙ process.1) ∙ there)) in
      not_both (sym process.0 ∙ (ap (λ (q : Phrase). is_process q.node) same ∙ ap is_process is.declares)) where
        process_by : (b : Bool) (n m : ℕ) → (if b then Some n else None) ≡ Some m → (b ≡ true) × (n ≡ m)
        process_by true n m some = (refl, let same_ : n ≡ m = cc in same_)
        process_by false n m some = absurd (cc)

        not_both : true ≡ false → ⊥
        not_both bad = absurd (cc)

  event_start : (k : ℕ) (p : Phrase) (is : IsEvent site p) → slice_get site.set.phrases k ≡ Some p
      → start_of site.set.phrases site.set.constants k ≡ start_at site.set.phrases site.set.constants p (OfItem is.common is.item)
  event_start k p is there =
      let ps = site.set.phrases in
      let vs = site.set.constants in
      ap (λ (o : Option Phrase). elim o [ None ↦ begins.Unlatched | Some q ↦ start_at ps vs q q.node ]) there ∙ ap (start_at ps vs p) is.declares

  -- data of an event type that stand for an event, which is latched where they say so
  pub event_known_as : (e : Eventful) (number : ℕ) (p : Phrase) (common : List Attribute) (item : Declared) → means site.set.phrases site.block e.name.name ≡ Some number → slice_get site.set.phrases number ≡ Some p → p.node ≡ OfItem common item
      → is_event_type (type_of common item) ≡ true → (k : ℕ) (q : Phrase) → standing_for site.set.phrases number ≡ k → slice_get site.set.phrases k ≡ Some q → (is : IsEvent site q)
      → (is_marked Latched common item ≡ true → is_marked Latched is.common is.item ≡ true) → EventAgrees image site site.set.phrases site.block e
  unfolding is_unlatched
  event_known_as e number p common item meant there_ declares eventful k q stands at is latched_too =
      let ps = site.set.phrases in
      let vs = site.set.constants in
      let one = listed_event site k q at (counted k q at) is in
      let event : ℕ = length (processes_of ps) + one.number in
      let none : place_in (processes_of ps) k ≡ None = unplaced k (processes_of ps) (no_process k q at is) (place_in (processes_of ps) k) refl in
      let event_is : event_of ps k ≡ Some event =
      ap (λ o. option_or o (elim (place_in (declared_events ps) k) [ None ↦ None | Some n ↦ Some (length (processes_of ps) + n) ])) none
      ∙ ap (λ (o : Option ℕ). elim o [ None ↦ None | Some n ↦ Some (length (processes_of ps) + n) ]) one.is in
      let named : event_named ps site.block e.name.name ≡ event =
      ap (λ (o : Option ℕ). unwrap_or (option_and_then (event_of ps) (elim o [ None ↦ None | Some j ↦ Some (standing_for ps j) ])) 0) meant
      ∙ (ap (λ j. unwrap_or (event_of ps j) 0) stands ∙ ap (λ o. unwrap_or o 0) event_is) in
      let starts : slice_get (map images.start_of image.events) one.number ≡ Some (start_of ps vs k) =
      ap (λ xs. slice_get xs one.number) (ap (λ (t : Tables). t.events) has.tables ∙ has.events) ∙ mapped (start_of ps vs) (declared_events ps) one.number k one.there in
      let there = unmapped images.start_of image.events one.number (start_of ps vs k) starts in
      let count : length image.processes ≡ length (processes_of ps) =
      sym (length-map image.processes (λ (q : Process). q.name)) ∙ (ap (λ (t : Tables). length t.processes) has.tables ∙ has.processes) in
      record {
        start = start_of ps vs k;
        declared = ap (declared_event image) named ∙ (declared_behind (length image.processes) one.number event image.events there.0 (omega (arith, count)) there.1 ∙ ap (λ s. Some s) there.2);
        latched = λ kept.
            let unlatched : (is_event_type (type_of common item) && not (is_marked Latched common item)) ≡ false =
            ap is_unlatched (sym declares)
            ∙ (ap (λ (o : Option Phrase). elim o [ None ↦ false | Some r ↦ is_unlatched r.node ]) (sym there_)
            ∙ (ap (λ (o : Option ℕ). elim (option_and_then (λ j. slice_get ps j) o) [ None ↦ false | Some r ↦ is_unlatched r.node ]) (sym meant) ∙ kept)) in
            let marked : is_marked Latched is.common is.item ≡ true = latched_too (says_latched (is_event_type (type_of common item)) (is_marked Latched common item) eventful unlatched) in
            ap is_latched (event_start k q is at)
            ∙ start_latched (has_mark Latched (is.item.attributes ++ is.common)) (is_set (first_values ps vs q (is.item.attributes ++ is.common) (kind.Bits 1 ∷ [])))
            (list_any-append (is_mark Latched) is.item.attributes is.common ∙ marked);
      }

  pub event_known : (e : Eventful) (own : IsOwn site e.name.name) → IsEvent site own.phrase → EventAgrees image site site.set.phrases site.block e
  event_known e own is = event_known_as e own.number own.phrase is.common is.item own.meant own.there is.declares is.eventful own.number own.phrase own.own own.there is (λ marked. marked)
