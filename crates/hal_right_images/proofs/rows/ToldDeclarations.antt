-- Items that are added stand directly in their homes, in blocks where their structure types do; and structures are among what their unit declares.
use Rattle.std.specs.Prelude.{◌≡◌, ◌⊎◌, ℕ, List, [], ◌∷◌, ◌++◌, length, Option, Some, None, slice_get}
use Rattle.std.specs.Option.{option_or}
use Rattle.std.proofs.Common.{refl, subst, ◌∙◌, inl, inr, append_assoc}
use Rattle.hal_base.specs.declared.refusal.Place.{Place}
use Rattle.hal_grammar.specs.Leaves.{Naming}
use Rattle.hal_grammar.specs.Expressions.{Expression}
use Rattle.hal_grammar.specs.Declarations.{Kind, IntegerKind, BooleanKind, EventKind, BitKind, CharacterKind, StructureKind, Attribute, Dimensions, Typed, Marked, LockGroup, LockAny, InitialValues, ConstantValues, Declared, Declaration, Declare, Part, Structure}
use Rattle.hal_grammar.specs.Units.{Head}
use Rattle.hal_phrases.specs.declared.around.Around.{Around}
use Rattle.hal_phrases.specs.Phrases.{Phrase, phrase, add, gathered_each, OfDeclare, OfItem, OfStructure, OfStructureType, OfUnit}
use Rattle.hal_phrases.specs.GatheredExpressions.{below}
use Rattle.hal_phrases.specs.GatheredDeclarations.{gathered_kind, gathered_attribute, gathered_item, gathered_parts, gathered_declaration}
use Rattle.hal_scope.specs.Rules.{IsAmong}
use Rattle.hal_scope.specs.Sorts.{type_in, type_among}
use Rattle.hal_right_images.proofs.rows.Plain as plain
use Rattle.hal_right_images.proofs.rows.PlainDeclarations.{optional_step, attributes_step, parts_step}
use Rattle.hal_right_images.proofs.rows.Told.{Begins, begins_on, among, HasType, all_told, none_headed, Step, of_plain, then_, no_step}

-- the structure types of attributes stand in a block
abbrev AreTyped : List Phrase → Around → List Attribute → Type 0
AreTyped ps a xs = (place : Place) (template : List ℕ) (copies : Option Expression) → type_among xs ≡ Some (StructureKind place template copies) → HasType ps a.block template

kind_typed : (ps d : List Phrase) (a : Around) (k : Kind) → Begins (gathered_kind d a k) ps → (place : Place) (template : List ℕ) (copies : Option Expression) → k ≡ StructureKind place template copies → HasType ps a.block template
unfolding gathered_kind
kind_typed ps d a (StructureKind p t c) first place template copies is =
    let adds = optional_step (add d a (OfStructureType p t)) a _ c in
    let at = among ps d a (OfStructureType p t) (begins_on (add d a (OfStructureType p t)) _ ps adds.later adds.whole first) in
    let made : HasType ps a.block t = record { place = p; phrase = phrase (length d) a (OfStructureType p t); among = at; is = refl; its = refl } in
    subst (λ l. HasType ps a.block l) (let same : t ≡ template = cc in same) made
kind_typed ps d a (IntegerKind p) first place template copies is = absurd (cc)
kind_typed ps d a (BooleanKind p) first place template copies is = absurd (cc)
kind_typed ps d a (EventKind p) first place template copies is = absurd (cc)
kind_typed ps d a (BitKind p size) first place template copies is = absurd (cc)
kind_typed ps d a (CharacterKind p size) first place template copies is = absurd (cc)

either_typed : {X : Type 0} (one other : Option X) (x : X) → option_or one other ≡ Some x → (one ≡ Some x) ⊎ (other ≡ Some x)
either_typed None other x is = inr is
either_typed (Some y) other x is = inl is

attribute_typed : (ps d : List Phrase) (a : Around) (x : Attribute) → Begins (gathered_attribute a d x) ps
    → (place : Place) (template : List ℕ) (copies : Option Expression) → type_in x ≡ Some (StructureKind place template copies) → HasType ps a.block template
unfolding gathered_attribute type_in
attribute_typed ps d a (Typed kind) first place template copies is = kind_typed ps d a kind first place template copies (let same : kind ≡ StructureKind place template copies = cc in same)
attribute_typed ps d a (Dimensions p sizes) first place template copies is = absurd (cc)
attribute_typed ps d a (Marked p mark) first place template copies is = absurd (cc)
attribute_typed ps d a (LockGroup p group) first place template copies is = absurd (cc)
attribute_typed ps d a (LockAny p) first place template copies is = absurd (cc)
attribute_typed ps d a (InitialValues p values) first place template copies is = absurd (cc)
attribute_typed ps d a (ConstantValues p values) first place template copies is = absurd (cc)

attributes_typed : (ps d : List Phrase) (a : Around) (xs : List Attribute) → Begins (gathered_each (gathered_attribute a) d xs) ps → AreTyped ps a xs
unfolding type_among
attributes_typed ps d a [] first place template copies is = absurd (cc)
attributes_typed ps d a (x ∷ xs) first place template copies is = by (either_typed (type_in x) (type_among xs) (StructureKind place template copies) is) (attributes_typed ps (gathered_attribute a d x) a xs first) where
  by : (type_in x ≡ Some (StructureKind place template copies)) ⊎ (type_among xs ≡ Some (StructureKind place template copies)) → AreTyped ps a xs → HasType ps a.block template
  by (inl one) later =
      let more = attributes_step a (gathered_attribute a d x) xs in
      attribute_typed ps d a x (begins_on (gathered_attribute a d x) _ ps more.later more.whole first) place template copies one
  by (inr others) later = later place template copies others

-- an item, where the structure type before the comma stands in its block
item_told : (a : Around) (common : List Attribute) (d : List Phrase) (item : Declared) → a.block ≡ a.home → ((ps : List Phrase) → Begins d ps → AreTyped ps a common) → Step [] d (gathered_item a common d item)
unfolding gathered_item
item_told a common d item direct typed =
    let adds = attributes_step (below d a) (add d a (OfItem common item)) item.attributes in
    let e = gathered_each (gathered_attribute (below d a)) (add d a (OfItem common item)) item.attributes in
    record {
      later = phrase (length d) a (OfItem common item) ∷ adds.later;
      whole = adds.whole ∙ append_assoc d (phrase (length d) a (OfItem common item) ∷ []) adds.later;
      told = λ ps first. (
        (
          direct,
          (λ place template copies is.
              by ps place template copies (either_typed (type_among item.attributes) (type_among common) (StructureKind place template copies) is)
              (attributes_typed ps (add d a (OfItem common item)) (below d a) item.attributes first)
              (typed ps (begins_on d e ps (phrase (length d) a (OfItem common item) ∷ adds.later) (adds.whole ∙ append_assoc d (phrase (length d) a (OfItem common item) ∷ []) adds.later) first))),
        ),
        all_told ps adds.later adds.plain,
      );
      heads = none_headed adds.later adds.plain;
    }
  where
    by : (ps : List Phrase) (place : Place) (template : List ℕ) (copies : Option Expression)
        → (type_among item.attributes ≡ Some (StructureKind place template copies)) ⊎ (type_among common ≡ Some (StructureKind place template copies))
        → AreTyped ps (below d a) item.attributes → AreTyped ps a common → HasType ps a.block template
    by ps place template copies (inl own) here before = here place template copies own
    by ps place template copies (inr shared) here before = before place template copies shared

items_told : (a : Around) (common : List Attribute) (d : List Phrase) (items : List Declared) → a.block ≡ a.home → ((ps : List Phrase) → Begins d ps → AreTyped ps a common) → Step [] d (gathered_each (gathered_item a common) d items)
items_told a common d [] direct typed = no_step d
items_told a common d (item ∷ items) direct typed =
    let one = item_told a common d item direct typed in
    then_ one (items_told a common (gathered_item a common d item) items direct (λ ps first. typed ps (begins_on d (gathered_item a common d item) ps one.later one.whole first)))

-- what stands around has a unit as its home that declares all of these, or no unit
abbrev pub Declares : Around → List Phrase → List Declaration → Type 0
Declares a d xs =
    (ps : List Phrase) → Begins d ps → (q : Phrase) (unit : Naming) (head : Head) (declarations : List Declaration) → slice_get ps a.home ≡ Some q → q.node ≡ OfUnit unit head declarations → (x : Declaration) → IsAmong x xs → IsAmong x declarations

-- a structure, which its unit declares
structure_told : (a : Around) (d : List Phrase) (p : Place) (name : Naming) (parts : List Part) → Declares a d (Structure p name parts ∷ []) → Step [] d (gathered_parts (below d a) [] (add d a (OfStructure name parts)) parts)
structure_told a d p name parts declares =
    let adds = parts_step (below d a) [] (add d a (OfStructure name parts)) parts in
    let own : Phrase = phrase (length d) a (OfStructure name parts) in
    let whole : gathered_parts (below d a) [] (add d a (OfStructure name parts)) parts ≡ d ++ (own ∷ adds.later) = adds.whole ∙ append_assoc d (own ∷ []) adds.later in
    record {
      later = own ∷ adds.later;
      whole = whole;
      told = λ ps first. (
        (λ q unit head declarations at is. record {
          place = p;
          listed = declares ps (begins_on d (gathered_parts (below d a) [] (add d a (OfStructure name parts)) parts) ps (own ∷ adds.later) whole first) q unit head declarations at is (Structure p name parts) (inl refl);
        }),
        all_told ps adds.later adds.plain,
      );
      heads = none_headed adds.later adds.plain;
    }

declaration_told : (a : Around) (d : List Phrase) (x : Declaration) → a.block ≡ a.home → Declares a d (x ∷ []) → Step [] d (gathered_declaration a d x)
unfolding gathered_declaration
declaration_told a d (Declare p common items) direct declares =
    let named = add d a (OfDeclare common) in
    then_ (of_plain (plain.then_ (plain.one d a (OfDeclare common) refl) (attributes_step (below d a) named common)))
    (items_told (below d a) common (gathered_each (gathered_attribute (below d a)) named common) items direct (λ ps first. attributes_typed ps named (below d a) common first))
declaration_told a d (Structure p name parts) direct declares = structure_told a d p name parts declares

pub declarations_told : (a : Around) (d : List Phrase) (xs : List Declaration) → a.block ≡ a.home → Declares a d xs → Step [] d (gathered_each (gathered_declaration a) d xs)
declarations_told a d [] direct declares = no_step d
declarations_told a d (x ∷ xs) direct declares =
    let one = declaration_told a d x direct (λ ps begins q unit head declarations at is y listed. declares ps begins q unit head declarations at is y (first_of y listed)) in
    then_ one (declarations_told a (gathered_declaration a d x) xs direct
    (λ ps begins q unit head declarations at is y listed. declares ps (begins_on d (gathered_declaration a d x) ps one.later one.whole begins) q unit head declarations at is y (inr listed)))
  where
    first_of : (y : Declaration) → IsAmong y (x ∷ []) → IsAmong y (x ∷ xs)
    first_of y (inl same) = inl same
    first_of y (inr none) = absurd none
