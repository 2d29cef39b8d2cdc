-- What a row says of a set of files.
use Rattle.std.specs.Prelude.{◌≡◌, ℕ, true, List}
use Rattle.hal_base.specs.declared.refusal.Place.{Place}
use Rattle.hal_grammar.specs.Units.{File}
use Rattle.hal_phrases.specs.GatheredUnits.{phrases_of}
use Rattle.hal_scope.specs.Rules.{Breaks, IsSound, rows}
use Rattle.hal_types.specs.Rules.{type_rows}
use Rattle.hal_locks.specs.Rules.{lock_rows}
use Rattle.hal_calls.specs.Programs.{has_program}
use Rattle.hal_calls.specs.Rules as calls
use Rattle.hal_calls.specs.Rules.{call_rows}
use Rattle.hal_templates.specs.Rules.{template_rows}

-- it breaks this rule of names at this place
abbrev pub BreaksNames : List File → ℕ → Place → Type 0
BreaksNames files rule place = Breaks rows (phrases_of files) rule place

-- it breaks no rule of names
abbrev pub IsNamed : List File → Type 0
IsNamed files = IsSound rows (phrases_of files)

-- it breaks this rule of templates at this place, whatever it breaks besides
abbrev pub BreaksTemplates : List File → ℕ → Place → Type 0
BreaksTemplates files rule place = Breaks template_rows (phrases_of files) rule place

-- it breaks no rule of templates
abbrev pub KeepsTemplates : List File → Type 0
KeepsTemplates files = IsSound template_rows (phrases_of files)

-- it breaks no rule of names, and this rule of types at this place
abbrev pub BreaksTypes : List File → ℕ → Place → Type 0
BreaksTypes files rule place = IsNamed files × Breaks type_rows (phrases_of files) rule place

-- it breaks no rule of names and none of types
abbrev pub IsTyped : List File → Type 0
IsTyped files = IsNamed files × IsSound type_rows (phrases_of files)

-- it breaks this rule of types at this place, whatever it breaks of names
abbrev pub MistypesAlone : List File → ℕ → Place → Type 0
MistypesAlone files rule place = Breaks type_rows (phrases_of files) rule place

-- it breaks no rule of names and none of types, and this rule of locks at this place
abbrev pub BreaksLocks : List File → ℕ → Place → Type 0
BreaksLocks files rule place = IsTyped files × Breaks lock_rows (phrases_of files) rule place

-- it breaks no rule of names, none of types and none of locks
abbrev pub KeepsLocks : List File → Type 0
KeepsLocks files = IsTyped files × IsSound lock_rows (phrases_of files)

-- it breaks no rule of names, none of types and none of locks, and this rule of calls at this place
abbrev pub BreaksCalls : List File → ℕ → Place → Type 0
BreaksCalls files rule place = KeepsLocks files × calls.BreaksCalls (phrases_of files) rule place

-- it breaks no rule of names, none of types, none of locks and none of calls
abbrev pub KeepsCalls : List File → Type 0
KeepsCalls files = KeepsLocks files × (has_program (phrases_of files) ≡ true) × IsSound call_rows (phrases_of files)
