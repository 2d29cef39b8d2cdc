-- Parameters that are no structures: they are data with a kind that is known, and arrays have known sizes.
use Rattle.std.specs.Prelude.{◌≡◌, ◌≤◌, ◌&&◌, ℕ, Bool, true, false, List, [], ◌∷◌, length, Option, Some, None, slice_get}
use Rattle.std.specs.Option.{option_and_then, is_some}
use Rattle.std.proofs.Common.{refl, sym, ap, ◌∙◌, arith}
use Rattle.hal_grammar.specs.Leaves.{Naming}
use Rattle.hal_grammar.specs.Declarations.{Kind, Attribute, Declared}
use Rattle.hal_phrases.specs.Phrases.{Phrase, OfItem}
use Rattle.hal_names.specs.declared.key.Key.{Key}
use Rattle.hal_names.specs.declared.key.Space.TheVariants as space
use Rattle.hal_names.specs.Keys.{key, own, declared_at, declared_by}
use Rattle.hal_scope.specs.Rules.{IsAmong, IsSound}
use Rattle.hal_scope.specs.Sorts.{type_of}
use Rattle.hal_kinds.specs.Attributes.{is_marked}
use Rattle.hal_kinds.specs.Attributes as attributes
use Rattle.hal_kinds.specs.Data.{is_parameter, is_structure_type}
use Rattle.hal_grammar.specs.Declarations.{Double}
use Rattle.hal_types.specs.Rules.{type_rows}
use Rattle.hal_values.specs.declared.value.Kind as values
use Rattle.hal_constants.specs.Known.{known, kind_of_item, kind_of_type}
use Rattle.hal_constants.specs.Naming.{is_value_item}
use Rattle.hal_shapes.specs.Arguments.{parameter_of}
use Rattle.hal_fit_names.proofs.Parametered.{parameter_stored}
use Rattle.hal_right_images.proofs.rows.LookingUp.{LooksUp}
use Rattle.hal_right_images.proofs.rows.Rules.{among_at}
use Rattle.hal_right_images.proofs.rows.Alone.{place_of}
use Rattle.hal_right_images.proofs.rows.Told.{HasParameter}
use Rattle.hal_right_images.proofs.areas.Spans.{IsShort}

-- the kind of an item is known, where it is no structure and no constant
abbrev pub KindsKnown : List Phrase → Type 0
KindsKnown ps =
    (p : Phrase) (common : List Attribute) (item : Declared) (kind : Kind) (double : Bool) → IsAmong p ps → p.node ≡ OfItem common item → type_of common item ≡ Some kind → is_structure_type (Some kind) ≡ false → is_value_item common item ≡ false
    → (cells : values.Kind) × (kind_of_type ps (known ps) p double (Some kind) ≡ Some cells)

pub kind_known : (ps : List Phrase) → KindsKnown ps → (p : Phrase) (common : List Attribute) (item : Declared) (kind : Kind) → IsAmong p ps → p.node ≡ OfItem common item → type_of common item ≡ Some kind → is_structure_type (Some kind) ≡ false
    → is_value_item common item ≡ false → (cells : values.Kind) × (kind_of_item ps (known ps) p common item ≡ Some cells)
kind_known ps kinds p common item kind within is typed plain stored =
    let one = kinds p common item kind (is_marked Double common item) within is typed plain stored in
    (one.0, ap (kind_of_type ps (known ps) p (is_marked Double common item)) typed ∙ one.1)

-- at most three sizes
pub short_is : (ns : List ℕ) → length ns ≤ 3 → IsShort ns
short_is [] low = tt
short_is (a ∷ []) low = tt
short_is (a ∷ b ∷ []) low = tt
short_is (a ∷ b ∷ c ∷ []) low = tt
short_is (a ∷ b ∷ c ∷ d ∷ ns) low = absurd (omega (arith, low))

no_value : (b c : Bool) → b ≡ false → (b && c) ≡ false
no_value b c is = ap (λ x. x && c) is

module _ (ps : List Phrase) (looks : LooksUp ps) (typed : IsSound type_rows ps) where
  -- what the block of a unit declares by the name of its parameter is a parameter, and so no constant
  module _ (unit : ℕ) (name : Naming) (output : Bool) (listed : HasParameter ps unit name output) where
    pub there_is : is_some (own ps (key space.Parameter unit name.name)) ≡ true
    unfolding declared_at
    there_is = by (own ps (key space.Parameter unit name.name)) refl where
      declares : declared_by listed.phrase ≡ Some (key space.Parameter unit name.name)
      declares = ap (declared_at listed.phrase.number listed.phrase.around) listed.is ∙ ap (λ k. Some (key space.Parameter k name.name)) listed.its

      by : (o : Option ℕ) → own ps (key space.Parameter unit name.name) ≡ o → is_some o ≡ true
      by None none = let at = place_of ps listed.phrase listed.among in absurd (looks.lacking (key space.Parameter unit name.name) none at.0 listed.phrase at.1 declares)
      by (Some k) found = refl

    -- the item
    pub item_stored : (r : Phrase) → parameter_of ps unit name ≡ Some r → (common : List Attribute) (item : Declared) → r.node ≡ OfItem common item → IsAmong r ps × (is_value_item common item ≡ false)
    unfolding parameter_of declared_at
    item_stored r found common item node = by (own ps (key space.Declared unit name.name)) refl found where
      by : (o : Option ℕ) → own ps (key space.Declared unit name.name) ≡ o → option_and_then (λ j. slice_get ps j) o ≡ Some r → IsAmong r ps × (is_value_item common item ≡ false)
      by None none is = absurd (cc)
      by (Some k) own_is is =
          let first = looks.found (key space.Declared unit name.name) k own_is in
          let here = first.there in
          let one : first.declaring ≡ r = cc in
          let keyed : Some (key space.Declared r.around.home item.name.name) ≡ Some (key space.Declared unit name.name) =
          sym (ap (declared_at r.number r.around) node) ∙ (sym (ap declared_by one) ∙ first.declares) in
          let inner : key space.Declared r.around.home item.name.name ≡ key space.Declared unit name.name = cc in
          let home : r.around.home ≡ unit = ap (λ (x : Key). x.owner) inner in
          let same : item.name.name ≡ name.name = ap (λ (x : Key). x.name) inner in
          let parameter : is_parameter ps r item.name.name ≡ true = ap (λ h. is_some (own ps (key space.Parameter h item.name.name))) home ∙ (ap (λ n. is_some (own ps (key space.Parameter unit n))) same ∙ there_is) in
          let within : IsAmong r ps = among_at ps k r is in
          (within, no_value (is_some (attributes.constant_of common item)) _ (parameter_stored ps typed r common item within node parameter))
