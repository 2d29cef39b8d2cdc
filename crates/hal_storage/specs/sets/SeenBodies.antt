-- What each body of the program is.
use Rattle.std.specs.Borrow.{Bor}
use Rattle.std.specs.Prelude.{ℕ, ◌+◌, List, [], ◌∷◌, ◌++◌, Option, Some, None, slice_get}
use Rattle.hal_phrases.specs.Phrases.{Phrase}
use Rattle.hal_grammar.specs.Statements.{Statements}
use Rattle.hal_grammar.specs.Units.{Head, Block, BlockOf}
use Rattle.hal_tree.specs.SeenUnits.{seen_unit}
use Rattle.hal_meaning.specs.Bodies.{Body, body_of, statements_of}
use Rattle.hal_tree.specs.declared.unit.Unit.{Unit}
use Rattle.hal_storage.specs.declared.sets.body.Body as rust-body

abbrev pub head_of : Block → Head
head_of (BlockOf name head declarations _ close) = head

abbrev pub statements_in : Block → Statements
statements_in (BlockOf name head declarations body close) = statements_of body

-- a unit that is lent
abbrev pub lent_unit : Bor Unit → Block
lent_unit u = seen_unit u.now

abbrev pub seen_body : rust-body.Body → Body
seen_body b = record { number = b.number; head = head_of (seen_unit b.unit.now); statements = statements_in (seen_unit b.unit.now); marks = b.marks.items }

-- the body of the unit with this place among units, where it is there, behind bodies so far
unfoldable pub with_body : List Phrase → ℕ → Option Block → List Body → List Body
with_body ps number None d = d
with_body ps number (Some block) d = d ++ (body_of ps number block ∷ [])

unfoldable pub with_bodies : List Phrase → List Block → ℕ → List Body → List ℕ → List Body
with_bodies ps units index d [] = d
with_bodies ps units index d (k ∷ ks) = with_bodies ps units (index + 1) (with_body ps k (slice_get units index) d) ks
