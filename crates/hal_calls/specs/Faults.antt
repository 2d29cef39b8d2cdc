-- Why a set of files was not taken.
use Rattle.std.specs.Prelude.{List, ⊤}
use Rattle.hal_base.specs.declared.refusal.Fault.{Fault}
use Rattle.hal_base.specs.declared.refusal.Fault.TheVariants as fault
use Rattle.hal_phrases.specs.Phrases.{Phrase}
use Rattle.hal_scope.specs.Rules.{Breaks}
use Rattle.hal_calls.specs.Rules.{LacksProgram, call_rows}

-- a rule of calls that is broken, at the place; want of memory says nothing of the set
abbrev pub IsMiscalledBy : List Phrase → Fault → Type 0
IsMiscalledBy ps (fault.Broken refusal) = Breaks call_rows ps refusal.rule.0 refusal.place
IsMiscalledBy ps (fault.Memory e) = ⊤

-- rule 905; memory is not wanting
abbrev pub IsOfNoProgram : List Phrase → Fault → Type 0
IsOfNoProgram ps (fault.Broken refusal) = LacksProgram ps refusal.rule.0 refusal.place
IsOfNoProgram ps (fault.Memory e) = ⊥
