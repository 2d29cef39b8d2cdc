-- No unit stands right in a COMPOOL, and no PROGRAM right in a unit.
use Rattle.std.specs.Prelude.{◌≡◌, ℕ, true, false, List, Some, slice_get}
use Rattle.std.proofs.Common.{refl}
use Rattle.hal_grammar.specs.Units.{Head, Program, Compool, holds_elements, stands_inside}
use Rattle.hal_phrases.specs.Phrases.{Node, Phrase, OfUnit}
use Rattle.hal_names.specs.Means.{is_compool_unit}
use Rattle.hal_meaning.specs.Bodies.{is_unit}
use Rattle.hal_meaning.specs.Sets.{is_program}
use Rattle.hal_right_images.proofs.rows.Nesting.{StandsNested}
use Rattle.hal_right_images.proofs.rows.Told.{unit_head}
use Rattle.hal_right_images.specs.views.Placed.{PoolsHoldNoUnits, ProgramsStandAlone}

-- a unit has a head
head_there : (node : Node) → is_unit node ≡ true → (head : Head) × (unit_head node ≡ Some head)
head_there (OfUnit name head declarations) is = (head, refl)
head_there other is = absurd (cc)

-- that of a COMPOOL holds no elements
pool_head : (node : Node) → is_compool_unit node ≡ true → (head : Head) × (unit_head node ≡ Some head) × (holds_elements head ≡ false)
unfolding is_compool_unit
pool_head (OfUnit name (Compool place) declarations) is = (Compool place, refl, refl)
pool_head other is = absurd (cc)

-- that of a PROGRAM stands in none
program_head : (node : Node) → is_program node ≡ true → (head : Head) × (unit_head node ≡ Some head) × (stands_inside head ≡ false)
program_head (OfUnit name (Program place) declarations) is = (Program place, refl, refl)
program_head other is = absurd (cc)

module _ (ps : List Phrase) (nested : (k : ℕ) (p : Phrase) → slice_get ps k ≡ Some p → StandsNested ps p) where
  -- so none stands in a COMPOOL
  pub pools_hold_none : PoolsHoldNoUnits ps
  pools_hold_none k p at is q there pool =
      let own = head_there p.node is in
      let outer = pool_head q.node pool in
      let may = nested k p at own.0 own.1 q outer.0 there outer.1 in
      let held = may.1 in
      let none = outer.2 in
      absurd (cc)

  -- and no PROGRAM in a unit
  pub programs_alone : ProgramsStandAlone ps
  programs_alone k p at is q there unit =
      let own = program_head p.node is in
      let outer = head_there q.node unit in
      let may = nested k p at own.0 own.1 q outer.0 there outer.1 in
      let inside = may.0 in
      let none = own.2 in
      absurd (cc)
