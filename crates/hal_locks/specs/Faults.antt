-- Why a set of files was not taken.
use Rattle.std.specs.Prelude.{List, ⊤}
use Rattle.hal_base.specs.declared.refusal.Fault.{Fault}
use Rattle.hal_base.specs.declared.refusal.Fault.TheVariants as fault
use Rattle.hal_phrases.specs.Phrases.{Phrase}
use Rattle.hal_scope.specs.Rules.{Breaks}
use Rattle.hal_locks.specs.Rules.{lock_rows}

-- a rule of locks that is broken, at the place; want of memory says nothing of the set
abbrev pub IsMislockedBy : List Phrase → Fault → Type 0
IsMislockedBy ps (fault.Broken refusal) = Breaks lock_rows ps refusal.rule.0 refusal.place
IsMislockedBy ps (fault.Memory e) = ⊤
