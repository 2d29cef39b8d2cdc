-- A set of few cells, processes and events is a load.
use Rattle.std.specs.Prelude.{ℕ, ◌+◌, ◌≤◌, ◌<◌, ◌≡◌, length, map, List, All}
use Rattle.std.proofs.Common.{sym, ap, subst, ◌∙◌, arith}
use Rattle.std.proofs.lemmas.List.{length-map}
use Rattle.hal_base.specs.declared.limits.TheConstants.{CELL_LIMIT, EVENT_LIMIT, PROCESS_LIMIT}
use Rattle.hal_grammar.specs.Units.{File}
use Rattle.hal_phrases.specs.Phrases.{Phrase}
use Rattle.hal_phrases.specs.GatheredUnits.{phrases_of}
use Rattle.hal_constants.specs.Known.{Known, known}
use Rattle.hal_values.specs.Loads.{IsLoad}
use Rattle.hal_values.specs.Tables.{IsTables, IsExpression, event_count}
use Rattle.hal_meaning.specs.Bodies.{processes_of}
use Rattle.hal_meaning.specs.Events.{declared_events, start_of, Stated, stated}
use Rattle.hal_meaning.specs.ReportNames.{path_of}
use Rattle.hal_meaning.specs.Sets.{cells_of, tables_of, set_of}
use Rattle.hal_meaning.specs.SetLoad.{IsSmall, load_of}
use Rattle.hal_meaning.proofs.Cells.{cells_are}
use Rattle.hal_meaning.proofs.Postfix.{expressions_are, first_is}
use Rattle.hal_meaning.proofs.Loading.{set_is_load}

count_is : (ps : List Phrase) (vs : Known) → length (processes_of ps) + length (declared_events ps) ≡ event_count (tables_of ps vs)
count_is ps vs =
    sym (ap (λ n. n + length (map (start_of ps vs) (declared_events ps))) (length-map (processes_of ps) (path_of ps)) ∙ ap (λ n. length (processes_of ps) + n) (length-map (declared_events ps) (start_of ps vs)))

some_events : (processes declared : ℕ) → 0 < processes → 0 < processes + declared
some_events processes declared some = omega arith

tables_are : (ps : List Phrase) (vs : Known) → length (cells_of ps vs) ≤ CELL_LIMIT → length (processes_of ps) ≤ PROCESS_LIMIT → length (declared_events ps) ≤ EVENT_LIMIT → 0 < length (processes_of ps) → IsTables (tables_of ps vs)
tables_are ps vs cells processes events some = record {
  few_cells = cells;
  few_processes = subst (λ n. n ≤ PROCESS_LIMIT) (sym (length-map (processes_of ps) (path_of ps))) processes;
  few_events = subst (λ n. n ≤ EVENT_LIMIT) (sym (length-map (declared_events ps) (start_of ps vs))) events;
  cells = cells_are ps vs;
  expressions = subst (λ n. All (IsExpression n) (map (λ (one : Stated). one.items) (stated ps))) (count_is ps vs) (expressions_are ps (some_events (length (processes_of ps)) (length (declared_events ps)) some));
  first = subst (λ n. (tables_of ps vs).first < n) (sym (length-map (processes_of ps) (path_of ps))) (first_is ps some);
}

few_stated : (stated_count count : ℕ) → count ≡ stated_count → stated_count ≤ count
few_stated stated_count count e = omega arith

-- the files are a load
pub files_are_load : (turns : ℕ) (files : List File) → IsSmall turns files → IsLoad (load_of (set_of turns files))
files_are_load turns files small = set_is_load (set_of turns files) (record {
  tables = tables_are (phrases_of files) (known (phrases_of files)) small.cells small.processes small.events small.some;
  turns = small.few_turns;
  stated = few_stated (length (stated (phrases_of files))) _ (length-map (stated (phrases_of files)) (λ (one : Stated). one.items));
})
