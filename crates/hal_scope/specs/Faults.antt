-- Why a set of files was not taken.
use Rattle.std.specs.Prelude.{List, ⊤}
use Rattle.hal_base.specs.declared.refusal.Fault.{Fault}
use Rattle.hal_base.specs.declared.refusal.Fault.TheVariants as fault
use Rattle.hal_phrases.specs.Phrases.{Phrase}
use Rattle.hal_scope.specs.Rules.{Breaks, rows}

-- a rule of names that is broken, at the place; want of memory says nothing of the set
abbrev pub IsBrokenBy : List Phrase → Fault → Type 0
IsBrokenBy ps (fault.Broken refusal) = Breaks rows ps refusal.rule.0 refusal.place
IsBrokenBy ps (fault.Memory e) = ⊤
