-- Where the reading of words that are no file gets stuck: at the first word of the declaration, statement or unit that can't be read.
use Rattle.std.specs.Prelude.{◌≡◌, ℕ, zero, suc, ◌-◌, ◌||◌, length, Option, Some, None, Bool, true, false, slice_get, if◌then◌else◌, ⊤}
use Rattle.hal_base.specs.declared.limits.TheConstants.{NESTING_LIMIT}
use Rattle.hal_base.specs.declared.refusal.Place.{Place}
use Rattle.hal_base.specs.declared.refusal.Fault.{Fault}
use Rattle.hal_base.specs.declared.refusal.Fault.TheVariants as fault
use Rattle.hal_words.specs.declared.reserved.Reserved.TheVariants as reserved
use Rattle.hal_words.specs.declared.word.Token.{Token}
use Rattle.hal_grammar.specs.Units.{Head, stands_inside, holds_elements}
use Rattle.hal_grammar.specs.Words.{Words}
use Rattle.hal_parse_expr.specs.Reading.{Read, past}
use Rattle.hal_parse_declarations.specs.ReadingDeclarations.{name_end_at, label_at, declarations_at}
use Rattle.hal_parse.specs.Parsed.{beginning_of}
use Rattle.hal_parse.specs.ReadingFiles.{head_at, elements_of, block_at, prefaces_at}

-- what comes of what is read, or else of nothing
unfoldable pub where_read : {X Z : Type 0} → Read X → (X → Words → Z) → Z → Z
where_read None next other = other
where_read (Some f) next other = next f.0 f.1

-- at the end of a unit: behind it, at a CLOSE that isn't ended, or in a unit that stands there, where this one holds any
unfoldable pub close_stuck : (Words → Words) → Bool → Words → Words
close_stuck inside holds words =
    where_read (past reserved.Close words) (λ p rest. where_read (name_end_at rest) (λ c after. after) words) (if holds then inside words else words)

-- behind the head of a unit
unfoldable pub body_stuck : ℕ → (Words → Words) → Head → Words → Words
body_stuck n inside h words = close_stuck inside (holds_elements h) (elements_of n (block_at n) (holds_elements h) (declarations_at n words).1).1

-- behind its name
unfoldable pub headed_stuck : ℕ → Bool → (Words → Words) → Words → Words → Words
headed_stuck n outermost inside words behind =
    where_read (head_at n behind) (λ h rest. if outermost || stands_inside h then body_stuck n inside h rest else words) words

-- in a unit, or at its first word
unfoldable pub opened_stuck : ℕ → Bool → (Words → Words) → Words → Words
opened_stuck n outermost inside words = where_read (label_at words) (λ x behind. headed_stuck n outermost inside words behind) words

-- the same of a unit that is nested at most so deep
unfoldable pub block_stuck : ℕ → Bool → Words → Words
block_stuck zero outermost words = words
block_stuck (suc n) outermost words = opened_stuck n outermost (block_stuck n false) words

-- of a file
unfoldable pub file_stuck : ℕ → Words → Words
file_stuck n words = block_stuck n true (prefaces_at n words).1

-- the place of a word, if there is one
abbrev pub place_or : Option Token → Place → Place
place_or None place = place
place_or (Some token) place = token.place

-- the place of the last word, or the beginning of the unit
abbrev pub last_place : ℕ → Words → Place
last_place unit words = place_or (slice_get words (length words - 1)) (beginning_of unit)

-- the place of the word before so many last ones, or of the last word
abbrev pub stuck_place : ℕ → Words → ℕ → Place
stuck_place unit words left = place_or (slice_get words (length words - left)) (last_place unit words)

-- the fault names the place where the reading gets stuck, or memory ended
abbrev pub IsStuckAt : ℕ → Words → Fault → Type 0
IsStuckAt unit words (fault.Broken refusal) = refusal.place ≡ stuck_place unit words (length (file_stuck NESTING_LIMIT words))
IsStuckAt unit words (fault.Memory error) = ⊤
