-- An image that stands for a set asks what the set asks.
use Rattle.std.specs.Prelude.{◌≡◌, ℕ, ◌≤◌, ◌<◌, ◌++◌, length, map, List, [], ◌∷◌, Some, None}
use Rattle.std.proofs.Common.{refl, sym, ap, subst, ◌∙◌, arith}
use Rattle.std.proofs.lemmas.Bool.{lt-ltb}
use Rattle.std.proofs.lemmas.List.{length-map}
use Rattle.hal_grammar.specs.Units.{File}
use Rattle.hal_phrases.specs.GatheredUnits.{phrases_of}
use Rattle.hal_values.specs.declared.request.Request.TheVariants as request
use Rattle.hal_values.specs.declared.tables.Tables.{Tables}
use Rattle.hal_values.specs.declared.value.Value.{Value}
use Rattle.hal_values.specs.Answers.{Answered}
use Rattle.hal_values.specs.Answers as answered
use Rattle.hal_values.specs.Loads.{Agree}
use Rattle.hal_values.specs.Tables.{process_count}
use Rattle.hal_states.specs.Spots.{Held, Kept}
use Rattle.hal_states.specs.Modes.{asking}
use Rattle.hal_states.specs.Telling.{writes_asked, own_values}
use Rattle.hal_meaning.specs.Bodies.{Body}
use Rattle.hal_meaning.specs.Events.{Stated, stated}
use Rattle.hal_meaning.specs.Sets.{Set, set_of}
use Rattle.hal_meaning.specs.SetLoad as set
use Rattle.hal_meaning.specs.States.{Evaluated, Gives, Asks, Caught, Restarts, Lost, Flow}
use Rattle.hal_meaning.specs.Runs as tree
use Rattle.hal_meaning.specs.Runs.{first_kept, here_in, places_of_process, course_of, asked, asked_kept, asked_mode, tasks}
use Rattle.hal_meaning.proofs.Asking.{IsAsked, process_asks}
use Rattle.hal_code.specs.declared.image.ImageParts.{ImageParts}
use Rattle.hal_code.specs.Images.{tables_of, first_of}
use Rattle.hal_code.specs.Cores.{Setting, Step}
use Rattle.hal_code.specs.Machine.{begun}
use Rattle.hal_code.specs.Courses as machine
use Rattle.hal_code.specs.Courses.{Asked, settled, asked_after, setting_of}
use Rattle.hal_code.proofs.Coming.{comes_is_asked}
use Rattle.hal_agreement.specs.Codes.{Code}
use Rattle.hal_agreement.specs.PlacedBlocks.{UnitsAt}
use Rattle.hal_agreement.specs.Placed.{IsPlacedProcess, IsPlaced}
use Rattle.hal_agreement.proofs.Reaching.{Nest, nest, setting, Poses, Holds}
use Rattle.hal_agreement.proofs.Raising.{Standing}
use Rattle.hal_agreement.proofs.Tasking.{tasks_known, task_knows}

-- a tree's course and the machine's come to the same
pub record Same (one : Evaluated Flow) (other : Asked) : Type 0 where
  pub request : asked one ≡ other.request
  pub keeps : asked_kept one ≡ other.core.kept
  pub in_mode : asked_mode one ≡ other.core.mode

-- a setting with other tables and first values
abbrev setting_with : ImageParts → ℕ → ℕ → ℕ → Tables → List Held → Setting
setting_with image p begin turns tables firsts = record { image = image; tables = tables; process = p; firsts = firsts; begin = begin; turns = turns }

posed : (s : Setting) (n : Nest) (step : Step) (left : List Answered) (r : Evaluated Flow) → IsAsked r → Holds s n (λ (flow : Flow) st. None) step left r → Poses s step left (asked r) (asked_kept r) (asked_mode r)
posed s n step left (Gives flow st) is holds = absurd is
posed s n step left (Asks r k m) is holds = holds
posed s n step left (Caught level place st) is holds = absurd is
posed s n step left (Restarts k rest) is holds = absurd is
posed s n step left Lost is holds = absurd is

-- a process stands alone at its beginning
alone : (s : Set) (code : Code) (p : ℕ) (body : Body) (spot : ℕ → ℕ) → UnitsAt code s (places_of_process s p) → p < process_count s.tables → Standing code (here_in s p (places_of_process s p) body) (nest [] (λ level. spot) 0)
alone s code p body spot units exists = record { units = units; process = lt-ltb p (process_count s.tables) exists; entered = λ es. refl; unleft = refl }

module _ (s : Set) (image : ImageParts) (placed : IsPlaced s image) (stated_few : length s.stated ≤ length s.tables.expressions) (p : ℕ) (exists : p < process_count s.tables) where
  -- the code of a process
  abbrev code_of : IsPlacedProcess s image p → Code
  code_of one = record { image = image; block = one.block }

  -- the same process of the set and of the image
  place : IsPlacedProcess s image p
  place = placed.processes p exists

  poses : (one : IsPlacedProcess s image p) (answers : List Answered)
      → Poses (setting (code_of one) (first_of image p) (here_in s p (places_of_process s p) one.body)) (begun (setting (code_of one) (first_of image p) (here_in s p (places_of_process s p) one.body)) (first_kept (places_of_process s p))) answers
      (asked (course_of s p (places_of_process s p) one.body answers)) (asked_kept (course_of s p (places_of_process s p) one.body answers)) (asked_mode (course_of s p (places_of_process s p) one.body answers))
  poses one answers =
      posed (setting (code_of one) (first_of image p) (here_in s p (places_of_process s p) one.body)) (nest [] (λ level. one.spot) 1) _ answers (course_of s p (places_of_process s p) one.body answers)
      (process_asks (here_in s p (places_of_process s p) one.body) exists stated_few answered.Killed (first_kept (places_of_process s p)) answers)
      ((task_knows (code_of one) (first_of image p) (tasks s.turns answers) (tasks_known (code_of one) (first_of image p) s.turns answers)).cycles (here_in s p (places_of_process s p) one.body) (λ level. one.spot) (alone s (code_of one) p one.body one.spot one.units exists) one.plain refl one.code
      (first_kept (places_of_process s p)) answers).holds

  settings_same : (one : IsPlacedProcess s image p) → setting (code_of one) (first_of image p) (here_in s p (places_of_process s p) one.body) ≡ setting_of s.turns image p
  settings_same one =
      ap (λ t. setting_with image p (first_of image p) s.turns t (map tree.held_first (places_of_process s p))) (sym placed.tables)
      ∙ ap (λ firsts. setting_with image p (first_of image p) s.turns (tables_of image) firsts) (sym one.places)

  found_same : (one : IsPlacedProcess s image p) (answers : List Answered) (last : Asked)
      → asked_after (setting (code_of one) (first_of image p) (here_in s p (places_of_process s p) one.body)) (settled (setting (code_of one) (first_of image p) (here_in s p (places_of_process s p) one.body))
      (begun (setting (code_of one) (first_of image p) (here_in s p (places_of_process s p) one.body)) (first_kept (places_of_process s p)))) answers ≡ last
      → machine.course (setting_of s.turns image p) answers ≡ last
  found_same one answers last is = subst (λ (setup : Setting). machine.course setup answers ≡ last) (settings_same one) is

  same_of : (one : IsPlacedProcess s image p) (answers : List Answered) → Same (course_of s p (places_of_process s p) one.body answers) (machine.course (setting_of s.turns image p) answers)
  same_of one answers = told (poses one answers)
    where
      told : Poses (setting (code_of one) (first_of image p) (here_in s p (places_of_process s p) one.body)) (begun (setting (code_of one) (first_of image p) (here_in s p (places_of_process s p) one.body)) (first_kept (places_of_process s p))) answers
          (asked (course_of s p (places_of_process s p) one.body answers)) (asked_kept (course_of s p (places_of_process s p) one.body answers)) (asked_mode (course_of s p (places_of_process s p) one.body answers))
          → Same (course_of s p (places_of_process s p) one.body answers) (machine.course (setting_of s.turns image p) answers)
      told is =
          subst (λ last. Same (course_of s p (places_of_process s p) one.body answers) last)
          (sym (found_same one answers is.one (comes_is_asked (setting (code_of one) (first_of image p) (here_in s p (places_of_process s p) one.body)) placed.forward exists (first_kept (places_of_process s p)) answers is.one is.comes)))
          (record { request = sym is.request; keeps = sym is.keeps; in_mode = sym is.in_mode })

  same : (answers : List Answered) → Same (tree.course s p answers) (machine.course (setting_of s.turns image p) answers)
  same answers =
      subst (λ found. Same (elim found [ None ↦ Asks request.Begin (first_kept []) asking | Some b ↦ course_of s p (places_of_process s p) b answers ]) (machine.course (setting_of s.turns image p) answers)) (sym place.found) (same_of place answers)

  next_same : (answers : List Answered) → tree.next s p answers ≡ machine.next (setting_of s.turns image p) answers
  next_same answers = (same answers).request

  block_same : (answers : List Answered) (snapshot : List Value) (turns : ℕ) → tree.block s p answers snapshot turns ≡ machine.block (setting_of s.turns image p) answers snapshot turns
  block_same answers snapshot turns =
      ap (λ r. writes_asked s.turns r (tree.block_mode s p answers snapshot) turns) (next_same answers)
      ∙ ap (λ m. writes_asked s.turns (machine.next (setting_of s.turns image p) answers) m turns) (same (answers ++ (answered.Block snapshot 0 ∷ []))).in_mode

  own_same : (answers : List Answered) → set.own s p answers ≡ machine.own (setting_of s.turns image p) answers
  own_same answers =
      ap (λ (k : Kept). own_values s.tables p k.places) (same answers).keeps ∙ ap (λ t. own_values t p (machine.course (setting_of s.turns image p) answers).core.kept.places) (sym placed.tables)

few_stated : (stated_count count : ℕ) → count ≡ stated_count → stated_count ≤ count
few_stated stated_count count e = omega arith

agree : (s : Set) (image : ImageParts) → IsPlaced s image → length s.stated ≤ length s.tables.expressions → Agree (set.load_of s) (machine.load_of s.turns image)
agree s image placed few = record {
  tables = sym placed.tables;
  next = λ p answers exists fit. next_same s image placed few p exists answers;
  block = λ p answers snapshot turns exists fit full. block_same s image placed few p exists answers snapshot turns;
  own = λ p answers exists fit. own_same s image placed few p exists answers;
}

-- files and code that stands for them
pub files_agree : (turns : ℕ) (files : List File) (image : ImageParts) → IsPlaced (set_of turns files) image → Agree (set.load_of (set_of turns files)) (machine.load_of turns image)
files_agree turns files image placed =
    agree (set_of turns files) image placed (few_stated (length (stated (phrases_of files))) _ (length-map (stated (phrases_of files)) (λ (one : Stated). one.items)))
