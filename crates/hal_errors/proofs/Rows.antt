-- What errors meet in blocks that are written down, computed by the checker.
use Rattle.std.specs.Prelude.{◌≡◌, ℕ, true, false, List, [], ◌∷◌}
use Rattle.std.proofs.Common.{refl}
use Rattle.hal_values.specs.declared.environment.Act.{Act}
use Rattle.hal_values.specs.declared.environment.Act.TheVariants as act
use Rattle.hal_values.specs.declared.environment.Entry.{Entry}
use Rattle.hal_values.specs.declared.environment.Selector.{Selector}
use Rattle.hal_values.specs.declared.environment.Selector.TheVariants as selector
use Rattle.hal_values.specs.declared.environment.Side.TheVariants as side
use Rattle.hal_values.specs.Answers.{error}
use Rattle.hal_values.specs.Searching.{Entered, entered, BySystem, Ignored, ByStatement, with_entry, without, search}
use Rattle.hal_errors.specs.Environments.{with_latest, entry_count}

-- the entry that ON ERROR makes
abbrev on : Selector → Act → Entry
on selector act = record { selector = selector; act = act }

-- blocks with these entries, that of an UPDATE block among them
abbrev block : List Entry → Entered
block entries = entered entries false

abbrev update_block : List Entry → Entered
update_block entries = entered entries true

abbrev all : Selector
all = selector.All

abbrev seven : Selector
seven = selector.Group 7

abbrev seven_two : Selector
seven_two = selector.One (error 7 2)

abbrev ignored : Act
ignored = act.Ignore side.Nothing

abbrev ended : Act
ended = act.System (side.Set 1)

abbrev statement : ℕ → Act
statement place = act.Statement place

-- three entries of one block: that for all was set last
abbrev three : List Entered
three = block (on all (statement 3) ∷ on seven ignored ∷ on seven_two ended ∷ []) ∷ []

-- group and number go before the group, and the group before all, in whichever order they were set
number_before_group : search false three (error 7 2) ≡ BySystem (side.Set 1)
number_before_group = refl

group_before_all : search false three (error 7 3) ≡ Ignored side.Nothing
group_before_all = refl

all_others : search false three (error 8 2) ≡ ByStatement 0 3
all_others = refl

-- without an entry the process ends
no_entry : search false (block [] ∷ block (on seven ignored ∷ []) ∷ []) (error 8 2) ≡ BySystem side.Nothing
no_entry = refl

-- the latest block goes before the one below it, with whichever selector
latest_before_below : search false (block (on all ignored ∷ []) ∷ block (on seven_two (statement 9) ∷ []) ∷ []) (error 7 2) ≡ Ignored side.Nothing
latest_before_below = refl

-- a statement of the block below leaves the latest one
below_the_latest : search false (block (on (selector.Group 8) ignored ∷ []) ∷ block (on seven_two (statement 9) ∷ []) ∷ []) (error 7 2) ≡ ByStatement 1 9
below_the_latest = refl

-- an entry takes the place of the one with the same selector
replaced : with_latest (with_entry (on seven_two ignored)) (block (on seven_two (statement 4) ∷ on all ended ∷ []) ∷ []) ≡ block (on seven_two ignored ∷ on all ended ∷ []) ∷ []
replaced = refl

-- and not that of one with another selector, nor that of a block below
not_replaced : with_latest (with_entry (on seven ignored)) (block (on seven_two (statement 4) ∷ []) ∷ block (on seven ended ∷ []) ∷ [])
    ≡ block (on seven ignored ∷ on seven_two (statement 4) ∷ []) ∷ block (on seven ended ∷ []) ∷ []
not_replaced = refl

-- OFF ERROR takes back one entry of the latest block, so the block below answers
taken_back : with_latest (without seven_two) (block (on seven_two ignored ∷ on (selector.Group 8) ended ∷ []) ∷ block (on seven (statement 6) ∷ []) ∷ [])
    ≡ block (on (selector.Group 8) ended ∷ []) ∷ block (on seven (statement 6) ∷ []) ∷ []
taken_back = refl

below_answers : search false (with_latest (without seven_two) (block (on seven_two ignored ∷ []) ∷ block (on seven (statement 6) ∷ []) ∷ [])) (error 7 2) ≡ ByStatement 1 6
below_answers = refl

-- one that isn't there takes nothing back
none_taken_back : with_latest (without seven) (block (on seven_two ignored ∷ on all ended ∷ []) ∷ []) ≡ block (on seven_two ignored ∷ on all ended ∷ []) ∷ []
none_taken_back = refl

-- a block that an UPDATE block calls, the UPDATE block, and the block around it
abbrev updating : List Entered
updating = block (on seven (statement 8) ∷ []) ∷ update_block (on seven_two (statement 5) ∷ on (selector.Group 8) ignored ∷ []) ∷ block (on all (statement 2) ∷ []) ∷ []

-- while it has turns, each statement is entered
with_turns : search false updating (error 7 2) ≡ ByStatement 0 8
with_turns = refl

-- once they are used up, its statements and those of the blocks that it called are passed over
spent : search true updating (error 7 2) ≡ ByStatement 2 2
spent = refl

-- but IGNORE isn't
spent_ignored : search true updating (error 8 1) ≡ Ignored side.Nothing
spent_ignored = refl

-- an entry alone is passed over: in the same block the wider selectors are still looked at
spent_wider : search true (update_block (on seven_two (statement 5) ∷ on seven ignored ∷ []) ∷ block [] ∷ []) (error 7 2) ≡ Ignored side.Nothing
spent_wider = refl

-- entries are counted over all blocks
counted : entry_count updating ≡ 4
counted = refl
