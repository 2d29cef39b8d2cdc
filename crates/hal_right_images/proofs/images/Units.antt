-- What the phrases of units name is known where references with a path are.
use Rattle.std.specs.Prelude.{◌≡◌, ℕ, ◌+◌, Bool, true, false, List, Some, None, slice_get, if◌then◌else◌}
use Rattle.std.proofs.Common.{refl, sym, ap, subst, ◌∙◌}
use Rattle.hal_grammar.specs.Units.{Head, Program, Compool, Task, Procedure, Function}
use Rattle.hal_phrases.specs.Phrases.{Phrase}
use Rattle.hal_names.specs.Laws.{IsCounted}
use Rattle.hal_scope.specs.Rules.{IsAmong}
use Rattle.hal_meaning.specs.Bodies.{Body, is_process, is_process_head, processes_of}
use Rattle.hal_meaning.specs.Calls.{is_function, zero_of}
use Rattle.hal_meaning.specs.Places.{Place}
use Rattle.hal_meaning.specs.Runs.{places_of_process}
use Rattle.hal_meaning.specs.Sets.{Set, body_at}
use Rattle.hal_code.specs.declared.image.ImageParts.{ImageParts}
use Rattle.hal_code.specs.declared.row.Block.{Block}
use Rattle.hal_code.specs.Controlling as machine
use Rattle.hal_agreement.specs.PlacedBlocks.{unit_site}
use Rattle.hal_fitting.specs.Fitting.{Ground}
use Rattle.hal_fit_expr.specs.Uses.{Uses}
use Rattle.hal_fit_rules.specs.Used.{PhraseKnown, UnitKnown}
use Rattle.hal_fit_names.specs.Bodied.{IsUnitOf}
use Rattle.hal_fit_names.specs.Known.{is_left_node}
use Rattle.hal_fit_names.specs.Serving.{ServesUnit}
use Rattle.hal_fit_names.specs.Used.{IsHome}
use Rattle.hal_link.specs.Outlines.{Outline, own_block, outlines_of}
use Rattle.hal_fit_layout.proofs.Called.{from_member}
use Rattle.hal_fit_layout.proofs.Outlining.{unit_is}
use Rattle.hal_right_images.specs.images.Blocks.{ground_of}

-- what the phrases of a unit name is known in the block with this number and row, by all that serves the unit
abbrev pub UnitIsKnown : Set → ImageParts → ℕ → Block → Body → Type 0
UnitIsKnown s image number row b =
    (u : Bool → Uses) → ServesUnit s image u b.number → UnitKnown image (ground_of image number row) u (unit_site s (places_of_process s row.process) b) b.number

-- the units of processes are known, and those that they call, whose blocks give back what the units do
pub record UnitsAreKnown (s : Set) (image : ImageParts) : Type 0 where
  pub processes : (number : ℕ) (row : Block) (o : Outline) (b : Body) → slice_get image.blocks number ≡ Some row → slice_get (outlines_of s) row.process ≡ Some o → number ≡ own_block o
      → body_at s o.unit ≡ Some b → UnitIsKnown s image number row b
  pub units : (number : ℕ) (row : Block) (o : Outline) (b : Body) (place unit : ℕ) → slice_get image.blocks number ≡ Some row → slice_get (outlines_of s) row.process ≡ Some o
      → slice_get o.called place ≡ Some unit → number ≡ o.first + place → body_at s unit ≡ Some b → (is_function b.head ≡ true → machine.zero_of row.result ≡ Some (zero_of b.head))
      → UnitIsKnown s image number row b

-- no process is a FUNCTION
process_head : (head : Head) → is_process_head head ≡ true → is_function head ≡ false
process_head (Program place) is = refl
process_head (Task place) is = refl
process_head (Compool place) is = absurd (cc)
process_head (Procedure place inputs outputs mode) is = absurd (cc)
process_head (Function place inputs returns mode) is = absurd (cc)

process_at : (p : Phrase) (k : ℕ) (b : Bool) → is_process p.node ≡ b → (if b then Some p.number else None) ≡ Some k → (p.number ≡ k) × (is_process p.node ≡ true)
process_at p k true is gives = (let same : p.number ≡ k = cc in same, is)
process_at p k false is gives = absurd (cc)

-- the phrase of a process is one
process_there : (ps : List Phrase) → IsCounted ps → (n k : ℕ) → slice_get (processes_of ps) n ≡ Some k → (p : Phrase) → slice_get ps k ≡ Some p → is_process p.node ≡ true
process_there ps counted n k is p there =
    let found = from_member (λ (q : Phrase). if is_process q.node then Some q.number else None) ps n k is in
    let at = process_at found.member k (is_process found.member.node) refl found.gives in
    let same : found.member ≡ p =
    let here : slice_get ps k ≡ Some found.member = ap (slice_get ps) (sym at.0 ∙ counted found.place found.member found.there) ∙ found.there in
    cc in
    subst (λ (q : Phrase). is_process q.node ≡ true) same at.1

module _ (s : Set) (image : ImageParts) (counted : IsCounted s.phrases)
    (paths : (g : Ground) (u : Bool → Uses) (places : List Place) (b : Body) (q : Phrase) → IsAmong q s.phrases → is_left_node q.node ≡ true → PhraseKnown image g u (unit_site s places b) q)
    (united : (unit : ℕ) (b : Body) → body_at s unit ≡ Some b → IsUnitOf s.phrases unit b)
    (by_names : (g : Ground) (u : Bool → Uses) (places : List Place) (b : Body) → ServesUnit s image u b.number → IsHome g (unit_site s places b) b.number
    → ((q : Phrase) → IsAmong q s.phrases → q.around.home ≡ b.number → is_left_node q.node ≡ true → PhraseKnown image g u (unit_site s places b) q) → UnitKnown image g u (unit_site s places b) b.number) where
  -- a unit is known in a block that gives back what it does
  known_in : (number unit : ℕ) (row : Block) (b : Body) → slice_get image.blocks number ≡ Some row → body_at s unit ≡ Some b → (is_function b.head ≡ true → machine.zero_of row.result ≡ Some (zero_of b.head))
      → UnitIsKnown s image number row b
  known_in number unit row b there found gives = λ u serves.
      by_names (ground_of image number row) u (places_of_process s row.process) b serves
      (record { body = b; found = ap (body_at s) (united unit b found).number ∙ found; unit = refl; gives = gives }) (λ q within here left. paths (ground_of image number row) u (places_of_process s row.process) b q within left)

  -- the unit of a process gives nothing back
  no_function : (row : Block) (o : Outline) (b : Body) → slice_get (outlines_of s) row.process ≡ Some o → body_at s o.unit ≡ Some b → is_function b.head ≡ false
  no_function row o b there found =
      let unit = united o.unit b found in
      process_head b.head (ap is_process (sym unit.declares) ∙ process_there s.phrases counted row.process o.unit (unit_is s row.process o there) unit.phrase unit.there)

  gives_by : (row : Block) (b : Body) → is_function b.head ≡ false → is_function b.head ≡ true → machine.zero_of row.result ≡ Some (zero_of b.head)
  gives_by row b none is = absurd (cc)

  -- all units are
  pub units_are_known : UnitsAreKnown s image
  units_are_known =
      record {
        processes = λ number row o b there outlined its found. known_in number o.unit row b there found (gives_by row b (no_function row o b outlined found));
        units = λ number row o b place unit there outlined named its found gives. known_in number unit row b there found gives;
      }
