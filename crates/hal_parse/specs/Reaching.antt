-- How far the reading of a unit gets: to its end, or to where it gets stuck.
use Rattle.std.specs.Prelude.{ℕ, zero, suc, ◌||◌, Some, None, Bool, true, false, if◌then◌else◌}
use Rattle.hal_words.specs.declared.reserved.Reserved.TheVariants as reserved
use Rattle.hal_grammar.specs.Units.{Head, stands_inside, holds_elements}
use Rattle.hal_grammar.specs.Words.{Words}
use Rattle.hal_parse_expr.specs.Reading.{Read, past}
use Rattle.hal_parse_declarations.specs.ReadingDeclarations.{name_end_at, label_at, declarations_at}
use Rattle.hal_parse.specs.declared.stuck.Reach.{Reach as Code}
use Rattle.hal_parse.specs.declared.stuck.Reach.TheVariants as code
use Rattle.hal_parse.specs.ReadingFiles.{head_at, elements_of, block_at}
use Rattle.hal_parse.specs.Stuck.{where_read, block_stuck}

-- the words behind a phrase, or those from the one on at which its reading gets stuck
pub data Reach : Type 0 where
  Behind : (words : Words) → Reach
  StuckAt : (words : Words) → Reach

-- what the code finds
abbrev pub seen_reach : Code → Reach
seen_reach (code.Behind words) = Behind words.now
seen_reach (code.Stuck words) = StuckAt words.now

-- what is read, or else where it gets stuck
unfoldable pub reach_of_read : {X : Type 0} → Read X → Words → Reach
reach_of_read None stuck = StuckAt stuck
reach_of_read (Some f) stuck = Behind f.1

-- at the end of a unit, where a further unit in it gets stuck there
unfoldable pub close_reach : Words → Words → Reach
close_reach words stuck = where_read (past reserved.Close words) (λ p rest. where_read (name_end_at rest) (λ c after. Behind after) (StuckAt words)) (StuckAt stuck)

-- behind what a unit holds, if it holds any
unfoldable pub held_reach : ℕ → Bool → Words → Reach
held_reach n true words = close_reach (elements_of n (block_at n) true words).1 (block_stuck n false (elements_of n (block_at n) true words).1)
held_reach n false words = close_reach words words

-- behind the head of a unit
unfoldable pub body_reach : ℕ → Head → Words → Reach
body_reach n h words = held_reach n (holds_elements h) (declarations_at n words).1

-- behind its name
unfoldable pub headed_reach : ℕ → Bool → Words → Words → Reach
headed_reach n outermost words behind =
    where_read (head_at n behind) (λ h rest. if outermost || stands_inside h then body_reach n h rest else StuckAt words) (StuckAt words)

-- from its first word on
unfoldable pub opened_reach : ℕ → Bool → Words → Reach
opened_reach n outermost words = where_read (label_at words) (λ x behind. headed_reach n outermost words behind) (StuckAt words)

-- the same of a unit that is nested at most so deep
unfoldable pub reached : ℕ → Bool → Words → Reach
reached zero outermost words = StuckAt words
reached (suc n) outermost words = opened_reach n outermost words

-- the words from there on
abbrev pub words_of : Reach → Words
words_of (Behind words) = words
words_of (StuckAt words) = words
