-- Events and shared cells are those of the declarations of a set.
use Rattle.std.proofs.Common.{◌≡◌, Bool, true, false, List, [], ◌++◌, Option, Some, None, ℕ, filter, filter_map, flat_map, refl, ap, ◌∙◌}
use Rattle.std.specs.Prelude.{if◌then◌else◌}
use Rattle.std.proofs.lemmas.Bool.{true≢false}
use Rattle.hal_phrases.specs.Phrases.{Node, Phrase, OfItem}
use Rattle.hal_names.specs.Declarations.{is_declaration, is_declaring}
use Rattle.hal_names.proofs.Declared.{found_in_declarations, given_in_declarations}
use Rattle.hal_constants.specs.Known.{Known}
use Rattle.hal_meaning.specs.Events.{is_event, declared_events}
use Rattle.hal_meaning.specs.Places.{cells_at}
use Rattle.hal_meaning.specs.Sets.{cells_of}

-- what declares nothing is no event
no_event : (ps : List Phrase) (home : ℕ) (n : Node) → is_declaring n ≡ false → is_event ps home n ≡ false
unfolding is_declaring
no_event ps home (OfItem common item) none = absurd (true≢false none)
no_event ps home other none = refl

pub events_declared : (ps ds : List Phrase) → ds ≡ filter is_declaration ps → filter_map (λ (p : Phrase). if is_event ps p.around.home p.node then Some p.number else None) ds ≡ declared_events ps
events_declared ps ds =
    found_in_declarations (λ (p : Phrase). if is_event ps p.around.home p.node then Some p.number else None)
    (λ p none. ap (λ (b : Bool). if b then Some p.number else None) (no_event ps p.around.home p.node none)) ds ps

-- nor has it shared cells
pub no_cells : (ps : List Phrase) (vs : Known) (p : Phrase) (n : Node) → is_declaring n ≡ false → cells_at ps vs p n ≡ []
unfolding is_declaring
no_cells ps vs p (OfItem common item) none = absurd (true≢false none)
no_cells ps vs p other none = refl

pub cells_declared : (ps : List Phrase) (vs : Known) (ds : List Phrase) → ds ≡ filter is_declaration ps → flat_map (λ (p : Phrase). cells_at ps vs p p.node) ds ≡ cells_of ps vs
cells_declared ps vs ds = given_in_declarations (λ (p : Phrase). cells_at ps vs p p.node) (λ p none. no_cells ps vs p p.node none) ds ps

-- nothing, and all behind it
pub begun : {Y : Type 0} (before given all : List Y) → before ≡ [] → given ≡ all → before ++ given ≡ all
begun before given all none same = ap (λ l. l ++ given) none ∙ same
