-- Why a set of files was not taken.
use Rattle.std.specs.Prelude.{List, ⊤}
use Rattle.hal_base.specs.declared.refusal.Fault.{Fault}
use Rattle.hal_base.specs.declared.refusal.Fault.TheVariants as fault
use Rattle.hal_phrases.specs.Phrases.{Phrase}
use Rattle.hal_scope.specs.Rules.{Breaks}
use Rattle.hal_templates.specs.Rules.{template_rows}

-- a rule of templates that is broken, at the place; want of memory says nothing of the set
abbrev pub IsMismatchedBy : List Phrase → Fault → Type 0
IsMismatchedBy ps (fault.Broken refusal) = Breaks template_rows ps refusal.rule.0 refusal.place
IsMismatchedBy ps (fault.Memory e) = ⊤
