-- Where the elements of data lie that a name means at a site of a process.
use Rattle.std.specs.Prelude.{◌≡◌, ℕ, true, List, Some, slice_get}
use Rattle.hal_grammar.specs.Declarations.{Attribute, Declared}
use Rattle.hal_phrases.specs.Phrases.{Phrase, OfItem}
use Rattle.hal_names.specs.declared.key.Space.TheVariants as space
use Rattle.hal_names.specs.Keys.{key, own}
use Rattle.hal_values.specs.declared.value.Kind.{Kind}
use Rattle.hal_code.specs.declared.image.ImageParts.{ImageParts}
use Rattle.hal_code.specs.declared.row.OwnPlace.TheVariants as place
use Rattle.hal_code.specs.Images as images
use Rattle.hal_code.specs.Memory.{lies_from, own_memory, shared_memory}
use Rattle.hal_meaning.specs.Bodies.{processes_of, processes_reaching}
use Rattle.hal_meaning.specs.Elements.{Shape, kinds_of, shape_of}
use Rattle.hal_meaning.specs.Places.{Storing, InCells, InPlaces, ByReference, Unstored, storing, places_of}
use Rattle.hal_meaning.specs.ReportNames.{first_cell, first_place}
use Rattle.hal_meaning.specs.Sets.{Set}
use Rattle.hal_reach.specs.Places.{is_among}
use Rattle.hal_agreement.specs.Sites.{Site}
use Rattle.hal_storage.specs.referents.Referents.{DataOf}
use Rattle.hal_gen_expr.specs.Referents.{referent}
use Rattle.hal_right_images.specs.rows.Purposes.{IsSite}

-- the own place of a process with this number refers to a shape that has these kinds
pub record RefersTo (image : ImageParts) (process number : ℕ) (kinds : List Kind) : Type 0 where
  pub shape : ℕ
  pub there : slice_get (images.places_of image process) number ≡ Some (place.Reference shape)
  pub is : images.kinds_of image shape ≡ kinds

-- all elements of data lie in shared cells or own places, or a reference to a shape that has them does
abbrev pub Holds : ImageParts → ℕ → Site → ℕ → Storing → Shape → Type 0
Holds image process site declared (InCells group) shape = lies_from (shared_memory image) (first_cell site.set.phrases site.set.constants declared) (kinds_of shape) ≡ true
Holds image process site declared InPlaces shape = lies_from (own_memory (images.places_of image process)) (first_place site.places declared) (kinds_of shape) ≡ true
Holds image process site declared ByReference shape = RefersTo image process (first_place site.places declared) (kinds_of shape)
Holds image process site declared Unstored shape = Unit {0}

-- it is so of the data that names mean, wherever phrases stand
abbrev pub DataHold : Set → ImageParts → Type 0
DataHold s image =
    (process : ℕ) (site : Site) (name : List ℕ) (declared : ℕ) (way : Storing) (shape : Shape) → IsSite s process site → referent site name ≡ DataOf declared way shape → Holds image process site declared way shape

-- references to the data of ASSIGN parameters lead to their kinds, in each process that reaches the unit
abbrev pub ReferencesHold : Set → ImageParts → Type 0
ReferencesHold s image =
    (process its m : ℕ) (p : Phrase) (common : List Attribute) (item : Declared) → slice_get (processes_of s.phrases) process ≡ Some its → slice_get s.phrases m ≡ Some p → p.node ≡ OfItem common item
    → own s.phrases (key space.Declared p.around.home item.name.name) ≡ Some m → storing s.phrases s.constants p (OfItem common item) ≡ ByReference → is_among (processes_reaching s.phrases p.around.home) its ≡ true
    → RefersTo image process (first_place (places_of s.phrases s.constants its) m) (kinds_of (shape_of s.phrases s.constants p common item))
