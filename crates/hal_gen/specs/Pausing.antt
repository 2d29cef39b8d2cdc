-- The event expressions of statements, and the processes that are named, one by one.
use Rattle.std.specs.Prelude.{ℕ, ◌+◌, ◌==◌, List, [], ◌∷◌, Option, Some, None, Ok, slice_get, if◌then◌else◌}
use Rattle.std.specs.Option.{option_map, option_and_then}
use Rattle.hal_base.specs.declared.refusal.Place.{Place}
use Rattle.hal_grammar.specs.Leaves.{Naming}
use Rattle.hal_code.specs.declared.instr.Instr.{Instr}
use Rattle.hal_meaning.specs.Events.{Stated}
use Rattle.hal_agreement.specs.Sites.{Site}
use Rattle.hal_gen_expr.specs.Emitting.{Emitted, onwards, emit}
use Rattle.hal_gen_expr.specs.Numbering.{below}
use Rattle.hal_gen.specs.Leaves.{named_process}

-- the number of the first event expression of the statement whose phrase has this number, where they are numbered from this one on
unfoldable pub first_stated : ℕ → ℕ → List Stated → Option ℕ
first_stated n k [] = None
first_stated n k (one ∷ others) = if one.statement == k then Some n else first_stated (n + 1) k others

-- the number of the last one, where this one was found before
unfoldable pub last_stated : ℕ → ℕ → Option ℕ → List Stated → Option ℕ
last_stated n k found [] = found
last_stated n k found (one ∷ others) = last_stated (n + 1) k (if one.statement == k then Some n else found) others

-- the numbers of the first and the last event expression of the statement that is the mark with this number, where an instruction has room for it
abbrev pub first_at_mark : Site → ℕ → Option ℕ
first_at_mark site m = elim (slice_get site.marks m) [ None ↦ None | Some k ↦ option_and_then (below 4294967296) (first_stated 0 k site.set.stated) ]

abbrev pub last_at_mark : Site → ℕ → Option ℕ
last_at_mark site m = elim (slice_get site.marks m) [ None ↦ None | Some k ↦ option_and_then (below 4294967296) (last_stated 0 k None site.set.stated) ]

-- the same instruction for a process that is named
abbrev pub asked_code : Site → List Instr → Place → (ℕ → Instr) → Naming → Emitted
asked_code site before place asks name = emit before place (option_map (λ p. asks p ∷ []) (named_process site name))

-- and for each one
unfoldable pub each_code : Site → List Instr → Place → (ℕ → Instr) → List Naming → Emitted
each_code site before place asks [] = Ok before
each_code site before place asks (name ∷ names) = onwards (asked_code site before place asks name) (λ middle. each_code site middle place asks names)
