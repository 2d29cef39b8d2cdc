-- Events that are signalled, set or reset agree in a set that breaks no rule.
use Rattle.std.proofs.Common.{◌≡◌, ℕ, true, false, ◌||◌, List, Option, Some, None, slice_get, refl, sym, ap, ◌∙◌, inl, inr}
use Rattle.std.specs.Option.{option_and_then, is_some}
use Rattle.hal_grammar.specs.Declarations.{Declared}
use Rattle.hal_grammar.specs.Statements.{Eventful}
use Rattle.hal_grammar.specs.Units.{Program, Compool, Task, Procedure, Function}
use Rattle.hal_phrases.specs.Phrases.{Node, Phrase, OfFile, OfTemplate, OfUnit, OfParameter, OfItem, OfStructure, OfPart, OfLabel, OfTemporaryGroup, OfEvent}
use Rattle.hal_names.specs.declared.key.Space.TheVariants as space
use Rattle.hal_names.specs.Keys.{key, declared_at}
use Rattle.hal_names.specs.Laws.{IsCounted}
use Rattle.hal_names.specs.Means.{means}
use Rattle.hal_scope.specs.declared.usage.Usage.TheVariants as usage
use Rattle.hal_scope.specs.declared.used.Use.{Use}
use Rattle.hal_scope.specs.Builtins.{builtin_named}
use Rattle.hal_scope.specs.Rules.{IsAmong, IsSound, rows, ruled}
use Rattle.hal_scope.specs.Sorts.{type_of, sort_of, sort_of_head, used}
use Rattle.hal_scope.specs.Uses.{unless, sort_at, is_known_builtin, is_known_use, unknown, fits_declared, fits_named, fits_use, misused}
use Rattle.hal_kinds.specs.Data.{is_event_type}
use Rattle.hal_types.specs.Rules.{type_rows}
use Rattle.hal_constants.specs.Naming.{is_value_item}
use Rattle.hal_meaning.specs.Places.{is_in_unit}
use Rattle.hal_code.specs.declared.image.ImageParts.{ImageParts}
use Rattle.hal_agreement.specs.Sites.{Site}
use Rattle.hal_fit_rules.specs.Happening.{IsEvent}
use Rattle.hal_fit_rules.specs.Owned.{IsOwn}
use Rattle.hal_fit_rules.specs.Signalled.{EventAgrees, HasEvents}
use Rattle.hal_fit_rules.specs.Valued.{HasConstants}
use Rattle.hal_fit_rules.proofs.Eventful.{event_known, event_known_as}
use Rattle.hal_fit_rules.proofs.Unbroken.{unbroken, ruled_none}
use Rattle.hal_fit_names.specs.Named.{AreLeft}
use Rattle.hal_fit_names.specs.Suited.{HasFitLiterals, AreDeclared, is_templated}
use Rattle.hal_fit_names.proofs.MeantItems.{event_for, event_single, in_unit, space_of}
use Rattle.hal_fit_names.proofs.Owning.{IsShown, Plain, Pooled, PooledConstant, PooledEvent, Written, own_number, shown_so}
use Rattle.hal_fit_names.proofs.Placing.{NodePlaced, at_among}
use Rattle.hal_fit_names.proofs.Pooled.{all_false}
use Rattle.hal_fit_names.proofs.Suiting.{unless_true}
use Rattle.hal_fit_names.proofs.Usages.{event_type, no_event, unchanged}

module _ (site : Site) (named : IsSound rows site.set.phrases) (sound : IsSound type_rows site.set.phrases) (counted : IsCounted site.set.phrases) (declared : AreDeclared site.set.phrases) (literals : HasFitLiterals site.set.phrases)
    (has : HasConstants site) (placed : (p : Phrase) → IsAmong p site.set.phrases → NodePlaced site.set.phrases p p.node) where
  -- what no template declares and is changed is an event
  node_event : (name : List ℕ) (own : IsOwn site name) (owner : ℕ) (q : Phrase) (n : Node) → own.phrase.node ≡ n → IsAmong own.phrase site.set.phrases → declared_at own.phrase.number own.phrase.around n ≡ Some (key space.Declared owner name)
      → is_templated site.set.phrases own.phrase n ≡ false → fits_declared site.set.phrases q usage.Event (sort_of n) ≡ true → IsEvent site own.phrase
  unfolding sort_of sort_of_head declared_at
  node_event name own owner q (OfTemplate unit head declarations) is within declares plain fits = absurd (cc)
  node_event name own owner q (OfUnit unit (Program place) declarations) is within declares plain fits = absurd (cc)
  node_event name own owner q (OfUnit unit (Task place) declarations) is within declares plain fits = absurd (cc)
  node_event name own owner q (OfUnit unit (Compool place) declarations) is within declares plain fits = absurd (cc)
  node_event name own owner q (OfUnit unit (Procedure place inputs outputs mode) declarations) is within declares plain fits = absurd (cc)
  node_event name own owner q (OfUnit unit (Function place inputs returns mode) declarations) is within declares plain fits = absurd (cc)
  node_event name own owner q (OfItem common item) is within declares plain fits =
      let eventful = event_type site.set.phrases q (type_of common item) fits in
      record { common = common; item = item; declares = is; eventful = eventful; sized = event_single site sound own.phrase common item within is eventful; within = in_unit (is_in_unit site.set.phrases own.phrase.around.home) plain }
  node_event name own owner q (OfTemporaryGroup labels variable) is within declares plain fits = absurd (cc)
  node_event name own owner q (OfStructure structure parts) is within declares plain fits = absurd (cc)
  node_event name own owner q (OfLabel label) is within declares plain fits = absurd (cc)
  node_event name own owner q (OfFile prefaces unit) is within declares plain fits = let other : Some space.Unit ≡ Some space.Declared = ap space_of declares in absurd (cc)
  node_event name own owner q (OfParameter parameter output) is within declares plain fits = let other : Some space.Parameter ≡ Some space.Declared = ap space_of declares in absurd (cc)
  node_event name own owner q (OfPart bottom part) is within declares plain fits = let other : Some space.Part ≡ Some space.Declared = ap space_of declares in absurd (cc)
  node_event name own owner q other is within declares plain fits = absurd (cc)

  -- what is declared and is changed
  event_as : (image : ImageParts) (e : Eventful) (left : AreLeft site e.name.name) (owner k : ℕ) (q p : Phrase) → HasEvents image site → means site.set.phrases site.block e.name.name ≡ Some k → slice_get site.set.phrases k ≡ Some p
      → declared_at p.number p.around p.node ≡ Some (key space.Declared owner e.name.name) → IsShown site.set.phrases k p → fits_declared site.set.phrases q usage.Event (sort_of p.node) ≡ true → EventAgrees image site site.set.phrases site.block e
  unfolding sort_of event_for
  event_as image e left owner k q p events meant there declares (Plain plain) fits =
      let own : IsOwn site e.name.name = record { number = k; meant = meant; phrase = p; there = there; own = own_number site.set.phrases k p there plain } in
      event_known image site counted events e own (node_event e.name.name own owner q p.node refl (at_among site.set.phrases k p there) declares plain fits)
  event_as image e left owner k q p events meant there declares (Written template head declarations is) fits =
      unchanged site.set.phrases q head (ap (λ n. fits_declared site.set.phrases q usage.Event (sort_of n)) (sym is) ∙ fits)
  event_as image e left owner k q p events meant there declares (Pooled common item is plain) fits =
      absurd (let other : true ≡ false =
      sym (event_type site.set.phrases q (type_of common item) (ap (λ n. fits_declared site.set.phrases q usage.Event (sort_of n)) (sym is) ∙ fits))
      ∙ (all_false (is_event_type (type_of common item)) (is_value_item common item) plain).0 in cc)
  event_as image e left owner k q p events meant there declares (PooledEvent common item is eventful stands) fits =
      event_known_as image site counted events e k p common item meant there is eventful stands.phrase.number stands.phrase stands.stands stands.there (event_for site sound k p common item eventful stands)
      (λ marked. sym stands.same.attributes.words.latched ∙ marked)
  event_as image e left owner k q p events meant there declares (PooledConstant common item is eventless constant stands) fits =
      absurd (let other : true ≡ false = sym (event_type site.set.phrases q (type_of common item) (ap (λ n. fits_declared site.set.phrases q usage.Event (sort_of n)) (sym is) ∙ fits)) ∙ eventless in cc)

  -- what a name means that is changed
  event_by_name : (image : ImageParts) (e : Eventful) (q : Phrase) (o : Option ℕ) → AreLeft site e.name.name → HasEvents image site → means site.set.phrases site.block e.name.name ≡ o → (is_some o || is_known_builtin e.name.name usage.Event) ≡ true
      → elim o [ None ↦ fits_named e.name.name usage.Event | Some k ↦ fits_declared site.set.phrases q usage.Event (sort_at site.set.phrases k) ] ≡ true → EventAgrees image site site.set.phrases site.block e
  event_by_name image e q None left events meant known_ fits = no_event (builtin_named e.name.name) known_ fits
  event_by_name image e q (Some k) left events meant known_ fits =
      let is_declared = declared site.block e.name.name k meant in
      let first = is_declared.1 in
      let p : Phrase = first.declaring in
      event_as image e left is_declared.0 k q p events meant first.there first.declares (shown_so site.set.phrases k p p.node refl (λ common item is_item. left.pooled k p common item meant first.there is_item))
      (ap (λ o. fits_declared site.set.phrases q usage.Event (option_and_then (λ (x : Phrase). sort_of x.node) o)) (sym first.there) ∙ fits)

  -- an event that is signalled, set or reset agrees
  pub changed_agrees : (image : ImageParts) (q : Phrase) (e : Eventful) → AreLeft site e.name.name → HasEvents image site → IsAmong q site.set.phrases → q.node ≡ OfEvent e → q.around.block ≡ site.block → EventAgrees image site site.set.phrases site.block e
  unfolding unknown misused used
  changed_agrees image q e left events within is here =
      let ps : List Phrase = site.set.phrases in
      let block : ℕ = q.around.block in
      let name : List ℕ = e.name.name in
      let no_unknown = ruled_none 601 (unknown ps q) (unbroken rows ps named q within (λ qs o. ruled 601 (unknown qs o)) (inl refl)) in
      let no_misuse = ruled_none 603 (misused ps q) (unbroken rows ps named q within (λ qs o. ruled 603 (misused qs o)) (inr (inr (inl refl)))) in
      let known_ : (is_some (means ps block name) || is_known_builtin name usage.Event) ≡ true = unless_true (is_some (means ps block name) || is_known_builtin name usage.Event) e.name.place
      (ap (λ n. option_and_then (λ (v : Use). unless (is_known_use ps block v) v.place) (used n)) (sym is) ∙ no_unknown) in
      let fits : elim (means ps block name) [ None ↦ fits_named name usage.Event | Some k ↦ fits_declared ps q usage.Event (sort_at ps k) ] ≡ true = unless_true (elim (means ps block name) [ None ↦ fits_named name usage.Event | Some k ↦ fits_declared ps q usage.Event (sort_at ps k) ]) e.name.place
      (ap (λ n. option_and_then (λ (v : Use). unless (fits_use ps q v) v.place) (used n)) (sym is) ∙ no_misuse) in
      event_by_name image e q (means ps site.block name) left events refl (ap (λ b. is_some (means ps b name) || is_known_builtin name usage.Event) (sym here) ∙ known_)
      (ap (λ b. elim (means ps b name) [ None ↦ fits_named name usage.Event | Some k ↦ fits_declared ps q usage.Event (sort_at ps k) ]) (sym here) ∙ fits)
