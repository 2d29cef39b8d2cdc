-- The elements of items in shared cells lie there.
use Rattle.std.specs.Prelude.{◌≡◌, ◌≤◌, ℕ, zero, suc, ◌+◌, true, List, [], ◌∷◌, ◌++◌, drop, flat_map, length, map, take, Option, Some, None, slice_get}
use Rattle.std.proofs.Common.{refl, sym, ap, ◌∙◌, arith, append_assoc}
use Rattle.std.proofs.lemmas.List.{length-map, map-append}
use Rattle.hal_grammar.specs.Leaves.{Naming}
use Rattle.hal_grammar.specs.Declarations.{Attribute, Declared}
use Rattle.hal_phrases.specs.Phrases.{Phrase, OfItem}
use Rattle.hal_values.specs.declared.tables.Cell.{Cell}
use Rattle.hal_values.specs.declared.value.Kind.{Kind}
use Rattle.hal_values.specs.declared.value.Value.{Value}
use Rattle.hal_code.specs.declared.image.ImageParts.{ImageParts}
use Rattle.hal_code.specs.Images.{expanded}
use Rattle.hal_code.specs.Memory.{lies_from, shared_memory}
use Rattle.hal_meaning.specs.Elements.{copy_size, kinds_of, shape_of}
use Rattle.hal_meaning.specs.InitialValues.{first_values}
use Rattle.hal_meaning.specs.Places.{Storing, InCells, storing, cells_from, cells_of_item, cells_at}
use Rattle.hal_meaning.specs.ReportNames.{first_cell}
use Rattle.hal_meaning.specs.Sets.{Set, cells_of}
use Rattle.hal_gen_expr.specs.declared.elements.Element.{Element}
use Rattle.hal_gen_expr.specs.Elements.{counted, element_in}
use Rattle.hal_fit_layout.proofs.Memory.{known, lies_behind}
use Rattle.hal_fit_layout.proofs.Parameters.{first_long}
use Rattle.hal_right_images.proofs.rows.Lying.{element_there, lies_one}

-- what a list gives, around what one of its members does
flat_split : {X Y : Type 0} (f : X → List Y) (xs : List X) (k : ℕ) (x : X) → slice_get xs k ≡ Some x → flat_map f xs ≡ flat_map f (take k xs) ++ (f x ++ flat_map f (drop (suc k) xs))
flat_split f [] k x is = absurd (cc)
flat_split f (y ∷ xs) zero x is = ap (λ z. f z ++ flat_map f xs) (let same : y ≡ x = cc in same)
flat_split f (y ∷ xs) (suc k) x is = ap (λ l. f y ++ l) (flat_split f xs k x is) ∙ sym (append_assoc (f y) (flat_map f (take k xs)) (f x ++ flat_map f (drop (suc k) xs)))

abbrev kind_of_cell : Cell → Option Kind
kind_of_cell cell = Some cell.kind

cell_kinds : (group : ℕ) (ks : List Kind) (vs : List Value) → length vs ≡ length ks → map kind_of_cell (cells_from group ks vs) ≡ known ks
cell_kinds group [] vs long = refl
cell_kinds group (k ∷ ks) [] long = absurd (omega (arith, long))
cell_kinds group (k ∷ ks) (v ∷ vs) long = ap (λ l. Some k ∷ l) (cell_kinds group ks vs (omega (arith, long)))

-- the kinds of an item lie there
pub cells_lie : (s : Set) (image : ImageParts) → expanded image.cells ≡ cells_of s.phrases s.constants → (p : Phrase) (k : ℕ) → slice_get s.phrases k ≡ Some p → (common : List Attribute) (item : Declared) → p.node ≡ OfItem common item
    → (group : ℕ) → storing s.phrases s.constants p (OfItem common item) ≡ InCells group
    → lies_from (shared_memory image) (first_cell s.phrases s.constants k) (kinds_of (shape_of s.phrases s.constants p common item)) ≡ true
cells_lie s image laid p k there common item node group stored =
    let attributes = item.attributes ++ common in
    let ks = kinds_of (shape_of s.phrases s.constants p common item) in
    let values = first_values s.phrases s.constants p attributes ks in
    let cells : Phrase → List Cell = (λ (q : Phrase). cells_at s.phrases s.constants q q.node) in
    let first = flat_map cells (take k s.phrases) in
    let rest = flat_map cells (drop (suc k) s.phrases) in
    let own : cells p ≡ cells_from group ks values =
    ap (cells_at s.phrases s.constants p) node ∙ ap (λ (way : Storing). cells_of_item s.phrases s.constants p common item way) stored in
    let memory : shared_memory image ≡ map kind_of_cell first ++ (known ks ++ map kind_of_cell rest) =
    ap (map kind_of_cell) (laid ∙ flat_split cells s.phrases k p there)
    ∙ (map-append kind_of_cell first (cells p ++ rest)
    ∙ ap (λ l. map kind_of_cell first ++ l)
    (map-append kind_of_cell (cells p) rest
    ∙ ap (λ l. l ++ map kind_of_cell rest) (ap (map kind_of_cell) own ∙ cell_kinds group ks values (first_long s.phrases s.constants p attributes ks)))) in
    ap (λ m. lies_from m (first_cell s.phrases s.constants k) ks) memory
    ∙ (ap (λ n. lies_from (map kind_of_cell first ++ (known ks ++ map kind_of_cell rest)) n ks) (sym (length-map first kind_of_cell)) ∙ lies_behind (map kind_of_cell first) ks (map kind_of_cell rest))

-- so do its elements
pub cell_element : (s : Set) (image : ImageParts) → expanded image.cells ≡ cells_of s.phrases s.constants → (p : Phrase) (k : ℕ) → slice_get s.phrases k ≡ Some p → (common : List Attribute) (item : Declared)
    → p.node ≡ OfItem common item → (group : ℕ) → storing s.phrases s.constants p (OfItem common item) ≡ InCells group → (path : List Naming) (one : Element)
    → (shape_of s.phrases s.constants p common item).copies ≡ None → copy_size (shape_of s.phrases s.constants p common item).components ≤ counted
    → element_in path (shape_of s.phrases s.constants p common item).components ≡ Some one
    → lies_from (shared_memory image) (first_cell s.phrases s.constants k + one.before) (one.kind ∷ []) ≡ true
cell_element s image laid p k there common item node group stored path one single few leads_so =
    let shape = shape_of s.phrases s.constants p common item in
    lies_one (shared_memory image) (first_cell s.phrases s.constants k) (kinds_of shape) one.before one.kind (cells_lie s image laid p k there common item node group stored)
    (element_there path shape one single few leads_so)
