-- Which action an error meets.
use Rattle.std.specs.Prelude.{ℕ, zero, suc, ◌==◌, Bool, true, false, not, ◌&&◌, List, [], ◌∷◌, Option, Some, None, filter, if◌then◌else◌}
use Rattle.std.specs.Option.{option_or}
use Rattle.hal_values.specs.declared.environment.ErrNo.{ErrNo}
use Rattle.hal_values.specs.declared.environment.Selector.{Selector}
use Rattle.hal_values.specs.declared.environment.Selector.TheVariants as selector
use Rattle.hal_values.specs.declared.environment.Side.{Side}
use Rattle.hal_values.specs.declared.environment.Side.TheVariants as side
use Rattle.hal_values.specs.declared.environment.Act.{Act}
use Rattle.hal_values.specs.declared.environment.Act.TheVariants as act
use Rattle.hal_values.specs.declared.environment.Entry.{Entry}

-- a block that is entered: its entries, and whether it is an UPDATE block
pub record Entered : Type 0 where
  pub entries : List Entry
  pub update : Bool

-- the block with these parts
abbrev pub entered : List Entry → Bool → Entered
entered entries update = record { entries = entries; update = update }

-- what an error meets: it ends the process, or is ignored, or so many later blocks are left for the statement at this place of the block below them
pub data Found : Type 0 where
  BySystem Ignored : (side : Side) → Found
  ByStatement : (level place : ℕ) → Found

-- whether two errors are the same
abbrev pub same_error : ErrNo → ErrNo → Bool
same_error a b = (a.group == b.group) && (a.number == b.number)

-- whether two selectors are the same
abbrev pub same_selector : Selector → Selector → Bool
same_selector selector.All selector.All = true
same_selector (selector.Group g) (selector.Group h) = g == h
same_selector (selector.One a) (selector.One b) = same_error a b
same_selector one other = false

-- the entry with this selector
abbrev pub entry_for : Selector → List Entry → Option Entry
entry_for s [] = None
entry_for s (e ∷ es) = if same_selector s e.selector then Some e else entry_for s es

-- the entries without the one with this selector: ON ERROR puts its own in its place, and OFF ERROR takes it back
abbrev pub without : Selector → List Entry → List Entry
without s es = filter (λ (e : Entry). not (same_selector s e.selector)) es

-- the entries with this one, in the place of one with the same selector
abbrev pub with_entry : Entry → List Entry → List Entry
with_entry e es = e ∷ without e.selector es

-- what an action does, unless it is a statement and these are passed over
abbrev pub acted : Bool → ℕ → Act → Option Found
acted passing level (act.System s) = Some (BySystem s)
acted passing level (act.Ignore s) = Some (Ignored s)
acted true level (act.Statement place) = None
acted false level (act.Statement place) = Some (ByStatement level place)

-- the same of an entry that may be there
abbrev pub met : Bool → ℕ → Option Entry → Option Found
met passing level None = None
met passing level (Some e) = acted passing level e.act

-- what an error meets in one block: the entry for group and number goes before that for the group, and this before that for all
abbrev pub met_in : Bool → ℕ → List Entry → ErrNo → Option Found
met_in passing level es e =
    option_or (met passing level (entry_for (selector.One e) es)) (option_or (met passing level (entry_for (selector.Group e.group) es)) (met passing level (entry_for selector.All es)))

-- what an error meets in blocks, the latest entered first, of which this one has so many later ones. Statements of an UPDATE block whose turns are used up, and
-- of the blocks entered later, are passed over. Without an entry the process ends
abbrev pub found_from : Bool → ℕ → List Entered → ErrNo → Found
found_from passing level [] e = BySystem side.Nothing
found_from passing level (b ∷ bs) e = elim (met_in passing level b.entries e) [
  | None ↦ found_from (passing && not b.update) (suc level) bs e
  | Some found ↦ found
]

-- what an error meets in all blocks that are entered
abbrev pub search : Bool → List Entered → ErrNo → Found
search spent blocks e = found_from spent zero blocks e
