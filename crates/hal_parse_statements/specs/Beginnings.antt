-- What the first word of a statement begins, and what the word behind DO makes of a group.
use Rattle.std.specs.Prelude.{ℕ, Option, Some, None}
use Rattle.hal_base.specs.declared.refusal.Place.{Place}
use Rattle.hal_words.specs.declared.reserved.Reserved.TheVariants as reserved
use Rattle.hal_words.specs.declared.word.Symbol.TheVariants as symbol
use Rattle.hal_words.specs.declared.word.Word.{Word}
use Rattle.hal_words.specs.declared.word.Word.TheVariants as word
use Rattle.hal_grammar.specs.Statements.{While, Until, Statement, Basic, Null, Do, Exit, Repeat, Scheduled, Cancel, Terminate}
use Rattle.hal_grammar.specs.Words.{Words}
use Rattle.hal_tree.specs.declared.statement.EventAction.TheVariants as action
use Rattle.hal_tree.specs.SeenStatements.{seen_action}
use Rattle.hal_parse_expr.specs.Reading.{Reader, made_of}
use Rattle.hal_parse_declarations.specs.ReadingDeclarations.{name_end_at}
use Rattle.hal_parse_declarations.specs.ReadingNames.{names_end_at}
use Rattle.hal_parse_statements.specs.ReadingStatements.{schedule_at, assigned_at, returned_at, call_at, read_at, write_at, wait_at, acts_at, forgets_at, sends_at, group_of, if_of, case_of, loop_of, for_of, do_of, update_of, on_of}
use Rattle.hal_parse_statements.specs.declared.beginning.Beginning.{Beginning}
use Rattle.hal_parse_statements.specs.declared.beginning.Beginning.TheVariants as beginning
use Rattle.hal_parse_statements.specs.declared.beginning.Grouping.{Grouping}
use Rattle.hal_parse_statements.specs.declared.beginning.Grouping.TheVariants as grouping

-- what a word begins
unfoldable pub begins : Word → Option Beginning
begins (word.Symbol symbol.Semicolon) = Some beginning.Null
begins (word.Name m) = Some beginning.Name
begins (word.Reserved reserved.If) = Some beginning.If
begins (word.Reserved reserved.Do) = Some beginning.Do
begins (word.Reserved reserved.Exit) = Some beginning.Exit
begins (word.Reserved reserved.Repeat) = Some beginning.Repeat
begins (word.Reserved reserved.Return) = Some beginning.Return
begins (word.Reserved reserved.Call) = Some beginning.Call
begins (word.Reserved reserved.Read) = Some beginning.Read
begins (word.Reserved reserved.Write) = Some beginning.Write
begins (word.Reserved reserved.Update) = Some beginning.Update
begins (word.Reserved reserved.Schedule) = Some beginning.Schedule
begins (word.Reserved reserved.Cancel) = Some beginning.Cancel
begins (word.Reserved reserved.Terminate) = Some beginning.Terminate
begins (word.Reserved reserved.Wait) = Some beginning.Wait
begins (word.Reserved reserved.Signal) = Some (beginning.Event action.Signal)
begins (word.Reserved reserved.Set) = Some (beginning.Event action.Set)
begins (word.Reserved reserved.Reset) = Some (beginning.Event action.Reset)
begins (word.Reserved reserved.On) = Some beginning.On
begins (word.Reserved reserved.Off) = Some beginning.Off
begins (word.Reserved reserved.Send) = Some beginning.Send
begins other = None

-- the statement that it begins; `words` are all words from the first one on
unfoldable pub begun_at : ℕ → Option (Reader Statement) → Words → Place → Beginning → Reader Basic
begun_at n inner words p beginning.Null rest = Some (Null p, rest)
begun_at n inner words p beginning.Name rest = assigned_at n p words
begun_at n inner words p beginning.If rest = if_of n inner p rest
begun_at n inner words p beginning.Do rest = do_of n inner p rest
begun_at n inner words p beginning.Exit rest = made_of (λ x. Exit p x) (name_end_at rest)
begun_at n inner words p beginning.Repeat rest = made_of (λ x. Repeat p x) (name_end_at rest)
begun_at n inner words p beginning.Return rest = returned_at n p rest
begun_at n inner words p beginning.Call rest = call_at n p rest
begun_at n inner words p beginning.Read rest = read_at n p rest
begun_at n inner words p beginning.Write rest = write_at n p rest
begun_at n inner words p beginning.Update rest = update_of n inner p rest
begun_at n inner words p beginning.Schedule rest = made_of (λ s. Scheduled p s) (schedule_at n rest)
begun_at n inner words p beginning.Cancel rest = made_of (λ xs. Cancel p xs) (names_end_at rest)
begun_at n inner words p beginning.Terminate rest = made_of (λ xs. Terminate p xs) (names_end_at rest)
begun_at n inner words p beginning.Wait rest = wait_at n p rest
begun_at n inner words p (beginning.Event a) rest = acts_at p (seen_action a) rest
begun_at n inner words p beginning.On rest = on_of inner p rest
begun_at n inner words p beginning.Off rest = forgets_at p rest
begun_at n inner words p beginning.Send rest = sends_at p rest

-- what a word behind DO makes of the group
unfoldable pub groups : Word → Option Grouping
groups (word.Symbol symbol.Semicolon) = Some grouping.Plain
groups (word.Reserved reserved.Case) = Some grouping.Case
groups (word.Reserved reserved.While) = Some grouping.While
groups (word.Reserved reserved.Until) = Some grouping.Until
groups (word.Reserved reserved.For) = Some grouping.For
groups other = None

-- the group; `q` is the place of the word behind DO
unfoldable pub grouped_at : ℕ → Option (Reader Statement) → Place → Place → Grouping → Reader Basic
grouped_at n inner p q grouping.Plain rest = made_of (λ g. Do p g) (group_of inner rest)
grouped_at n inner p q grouping.Case rest = case_of n inner p rest
grouped_at n inner p q grouping.While rest = loop_of n inner p (λ t. While q t) rest
grouped_at n inner p q grouping.Until rest = loop_of n inner p (λ t. Until q t) rest
grouped_at n inner p q grouping.For rest = for_of n inner p rest
