-- What the program links is what is to be linked.
use Rattle.std.specs.Prelude.{◌≡◌, List, Some, None, Result, Ok, Err}
use Rattle.hal_code.specs.declared.instr.Instr.{Instr}
use Rattle.hal_code.specs.declared.row.Block.{Block}
use Rattle.hal_gen_expr.specs.declared.uncoded.Uncoded.{Uncoded}
use Rattle.hal_gen_expr.specs.declared.uncoded.Uncoded.TheVariants as uncoded
use Rattle.hal_link.specs.declared.unlinked.Unlinked.{Unlinked}
use Rattle.hal_link.specs.declared.unlinked.Unlinked.TheVariants as unlinked
use Rattle.hal_storage.specs.layout.Layouts.{IsNarrow}
use Rattle.hal_storage.specs.layout.SeenLayout.{seen_layout}
use Rattle.hal_storage.specs.declared.sets.set.Set as rust-set
use Rattle.hal_storage.specs.sets.SeenSets.{seen_set}
use Rattle.hal_code.specs.declared.image.ImageParts.{ImageParts}
use Rattle.hal_link.specs.Linking.{linked, Linking, image_of}
use Rattle.hal_link.specs.CalledViews.{views_of}

abbrev pub unlinked_by : Uncoded → Unlinked
unlinked_by (uncoded.At place) = unlinked.At place
unlinked_by (uncoded.Memory error) = unlinked.Memory error

-- code and blocks are there, or the place of the phrase that has no code is told; nothing is said where memory is wanting
abbrev pub Links : {T : Type 0} → Linking → Result T Unlinked → List Instr → List Block → Type 0
Links wanted (Ok done) code blocks = wanted ≡ Ok (linked code blocks)
Links wanted (Err (unlinked.At place)) code blocks = wanted ≡ Err (Some place)
Links wanted (Err unlinked.Lost) code blocks = wanted ≡ Err None
Links wanted (Err unlinked.Wide) code blocks = ⊥
Links wanted (Err (unlinked.Memory error)) code blocks = Unit {0}

-- the image of a set, or why it has none
abbrev pub HasImage : rust-set.Set → Result ImageParts Unlinked → Type 0
HasImage s (Ok image) = image_of (seen_set s) (views_of (seen_set s)) ≡ Ok image
HasImage s (Err (unlinked.At place)) = image_of (seen_set s) (views_of (seen_set s)) ≡ Err (Some place)
HasImage s (Err unlinked.Lost) = image_of (seen_set s) (views_of (seen_set s)) ≡ Err None
HasImage s (Err unlinked.Wide) = IsNarrow (seen_layout s.layout.now) → ⊥
HasImage s (Err (unlinked.Memory error)) = Unit {0}

-- this image is made of a set, unless its tables are too narrow for it; nothing is said where memory is wanting
abbrev pub MakesImage : rust-set.Set → ImageParts → Result ImageParts Unlinked → Type 0
MakesImage s wanted (Ok image) = wanted ≡ image
MakesImage s wanted (Err (unlinked.At place)) = ⊥
MakesImage s wanted (Err unlinked.Lost) = ⊥
MakesImage s wanted (Err unlinked.Wide) = IsNarrow (seen_layout s.layout.now) → ⊥
MakesImage s wanted (Err (unlinked.Memory error)) = Unit {0}
