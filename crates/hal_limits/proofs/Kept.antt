-- What is kept of shapes is what phrases declare.
use Rattle.std.specs.Prelude.{◌≡◌, ℕ, zero, suc, Bool, true, false, List, [], ◌∷◌, Option, Some, None, map, option_map, slice_get, if◌then◌else◌}
use Rattle.std.specs.Option.{option_and_then}
use Rattle.std.proofs.Common.{refl, sym, ap, ◌∙◌}
use Rattle.hal_phrases.specs.Phrases.{Phrase}
use Rattle.hal_constants.specs.Known.{Known}
use Rattle.hal_grammar.specs.Leaves.{Naming}
use Rattle.hal_grammar.specs.Expressions.{Subscript}
use Rattle.hal_meaning.specs.Elements.{Shape}
use Rattle.hal_storage.specs.declared.elements.component.Shape as rust-shape
use Rattle.hal_storage.specs.elements.SeenComponents.{seen_shape}
use Rattle.hal_limits.specs.declared.shapes.Shapes as rust-shapes
use Rattle.hal_views.specs.Views.{View, cells_in, cells_reached, declares_stored, shape_at, view_of}
use Rattle.hal_limits.specs.Kept.{AreKept, kept_shape, shape_in}
use Rattle.hal_limits.specs.Noting.{views_of_declared}

-- what stands at a place of a list that is mapped
joined : {X Y : Type 0} (f : X → Option Y) (xs : List X) (n : ℕ) → option_and_then f (slice_get xs n) ≡ option_and_then (λ (y : Option Y). y) (slice_get (map f xs) n)
joined f [] n = refl
joined f (x ∷ xs) zero = refl
joined f (x ∷ xs) (suc n) = joined f xs n

-- the shape that is kept for a number is that of what its phrase declares
found : (ps : List Phrase) (vs : Known) (shapes : rust-shapes.Shapes) (n : ℕ) → AreKept ps vs shapes → shape_in shapes n ≡ option_and_then (kept_shape ps vs) (slice_get ps n)
found ps vs shapes n kept =
    joined (λ (o : Option rust-shape.Shape). option_map seen_shape o) shapes.list.items n
    ∙ (ap (λ (list : List (Option Shape)). option_and_then (λ (y : Option Shape). y) (slice_get list n)) kept ∙ sym (joined (kept_shape ps vs) ps n))

-- what is kept, and what isn't
some_kept : (b : Bool) (one shape : Shape) → (if b then Some one else None) ≡ Some shape → (b ≡ true) × (one ≡ shape)
some_kept true one shape is = (refl, cc)
some_kept false one shape is = absurd (cc)

none_kept : (b : Bool) (one : Shape) → (if b then Some one else None) ≡ None → b ≡ false
none_kept true one is = absurd (cc)
none_kept false one is = refl

module _ (ps : List Phrase) (vs : Known) (shapes : rust-shapes.Shapes) (kept : AreKept ps vs shapes) (n : ℕ) (d : Phrase) (there : slice_get ps n ≡ Some d) where
  kept_here : shape_in shapes n ≡ kept_shape ps vs d
  kept_here = found ps vs shapes n kept ∙ ap (λ (o : Option Phrase). option_and_then (kept_shape ps vs) o) there

  -- the views of a phrase that names data whose shape is kept
  pub view_there : (p : Phrase) (path : List Naming) (x : Subscript) (shape : Shape) → shape_in shapes n ≡ Some shape → view_of ps vs p d.number shape path x ∷ [] ≡ views_of_declared ps vs p path x n
  view_there p path x shape is =
      let so = some_kept (declares_stored ps vs d d.node) (shape_at ps vs d d.node) shape (sym kept_here ∙ is) in
      ap (λ (s : Shape). view_of ps vs p d.number s path x ∷ []) (sym so.1)
      ∙ (ap (λ (b : Bool). if b then view_of ps vs p d.number (shape_at ps vs d d.node) path x ∷ [] else []) (sym so.0)
      ∙ ap (λ (o : Option Phrase). elim o [ None ↦ [] | Some e ↦ if declares_stored ps vs e e.node then view_of ps vs p e.number (shape_at ps vs e e.node) path x ∷ [] else [] ]) (sym there))

  -- it has none where none is kept
  pub no_view : (p : Phrase) (path : List Naming) (x : Subscript) → shape_in shapes n ≡ None → [] ≡ views_of_declared ps vs p path x n
  no_view p path x is =
      ap (λ (b : Bool). if b then view_of ps vs p d.number (shape_at ps vs d d.node) path x ∷ [] else []) (sym (none_kept (declares_stored ps vs d d.node) (shape_at ps vs d d.node) (sym kept_here ∙ is)))
      ∙ ap (λ (o : Option Phrase). elim o [ None ↦ [] | Some e ↦ if declares_stored ps vs e e.node then view_of ps vs p e.number (shape_at ps vs e e.node) path x ∷ [] else [] ]) (sym there)

-- the cells that a view of data reaches whose shape is kept
pub cells_there : (ps : List Phrase) (vs : Known) (shapes : rust-shapes.Shapes) (v : View) (d : Phrase) (shape : Shape) → AreKept ps vs shapes → slice_get ps v.declared ≡ Some d → shape_in shapes v.declared ≡ Some shape
    → cells_in shape v ≡ cells_reached ps vs v
cells_there ps vs shapes v d shape kept there is =
    let so = some_kept (declares_stored ps vs d d.node) (shape_at ps vs d d.node) shape (sym (kept_here ps vs shapes kept v.declared d there) ∙ is) in
    ap (λ (s : Shape). cells_in s v) (sym so.1) ∙ ap (λ (o : Option Phrase). elim o [ None ↦ 0 | Some e ↦ cells_in (shape_at ps vs e e.node) v ]) (sym there)
