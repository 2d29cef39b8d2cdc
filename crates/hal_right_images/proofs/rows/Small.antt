-- A set within its limits that has a PROGRAM is small enough for a load.
use Rattle.std.specs.Prelude.{◌≡◌, ◌<◌, ◌≤◌, ℕ, Bool, true, false, ◌||◌, List, [], ◌∷◌, length, Some, None, if◌then◌else◌}
use Rattle.std.specs.List.{cons_option}
use Rattle.std.proofs.Common.{refl, arith}
use Rattle.hal_grammar.specs.Units.{File, Program, Compool, Task, Procedure, Function}
use Rattle.hal_phrases.specs.Phrases.{Node, Phrase, OfUnit}
use Rattle.hal_phrases.specs.GatheredUnits.{phrases_of}
use Rattle.hal_constants.specs.Known.{known}
use Rattle.hal_values.specs.Loads.{turn_limit}
use Rattle.hal_meaning.specs.Bodies.{is_process, processes_of}
use Rattle.hal_meaning.specs.SetLoad.{IsSmall}
use Rattle.hal_meaning.specs.Sets.{is_program}
use Rattle.hal_views.proofs.CellsCounted.{few}
use Rattle.hal_calls.specs.Programs.{has_program}
use Rattle.hal_limits.specs.Limits.{IsWithin}

program_process : (node : Node) → is_program node ≡ true → is_process node ≡ true
program_process (OfUnit name (Program place) declarations) is = refl
program_process (OfUnit name (Compool place) declarations) is = absurd (cc)
program_process (OfUnit name (Task place) declarations) is = absurd (cc)
program_process (OfUnit name (Procedure place inputs outputs mode) declarations) is = absurd (cc)
program_process (OfUnit name (Function place inputs returns mode) declarations) is = absurd (cc)
program_process other is = absurd (cc)

-- a PROGRAM is a process
pub some_process : (ps : List Phrase) → has_program ps ≡ true → 0 < length (processes_of ps)
some_process [] is = absurd (cc)
some_process (p ∷ ps) is = by (is_program p.node) refl (is_process p.node) refl (some_process ps) is where
  by : (b : Bool) → is_program p.node ≡ b → (c : Bool) → is_process p.node ≡ c → (has_program ps ≡ true → 0 < length (processes_of ps)) → (b || has_program ps) ≡ true
      → 0 < length (cons_option (if c then Some p.number else None) (processes_of ps))
  by b is true so later some = omega arith
  by true is false isnt later some = let so = program_process p.node is in absurd (cc)
  by false is false isnt later some = later some

pub small : (turns : ℕ) (files : List File) → IsWithin (phrases_of files) (known (phrases_of files)) → has_program (phrases_of files) ≡ true → turns ≤ turn_limit → IsSmall turns files
small turns files within program few_turns =
    record {
      cells = few files (record { cells = within.cells; views = within.views });
      processes = within.processes;
      events = within.events;
      some = some_process (phrases_of files) program;
      few_turns = few_turns;
    }
