-- A written template of a process stands for the process.
use Rattle.std.proofs.Common.{◌≡◌, ℕ, true, List, Option, Some, None, slice_get, refl, ap, ◌∙◌}
use Rattle.std.specs.Option.{option_and_then}
use Rattle.hal_grammar.specs.Leaves.{Naming}
use Rattle.hal_grammar.specs.Declarations.{Declaration}
use Rattle.hal_grammar.specs.Units.{File, Head, Program, Compool, Task, Procedure, Function}
use Rattle.hal_phrases.specs.Phrases.{Phrase, OfTemplate}
use Rattle.hal_phrases.specs.GatheredUnits.{phrases_of}
use Rattle.hal_constants.specs.Known.{Known}
use Rattle.hal_templates.specs.Giving.{GivesItsUnit, HaveSameHead}
use Rattle.hal_meaning.specs.Bodies.{is_process_head, meant_at}
use Rattle.hal_fit_rules.specs.Happening.{StandsForProcess}

-- a unit with the same head is a process too
same_process : (ps : List Phrase) (vs : Known) (p q : Phrase) (head other : Head) → HaveSameHead ps vs p head q other → is_process_head head ≡ true → is_process_head other ≡ true
same_process ps vs p q (Program at) (Program there) same is = refl
same_process ps vs p q (Program at) (Compool there) same is = absurd same
same_process ps vs p q (Program at) (Task there) same is = absurd same
same_process ps vs p q (Program at) (Procedure there inputs outputs mode) same is = absurd same
same_process ps vs p q (Program at) (Function there inputs returns mode) same is = absurd same
same_process ps vs p q (Task at) (Task there) same is = refl
same_process ps vs p q (Task at) (Compool there) same is = absurd same
same_process ps vs p q (Task at) (Program there) same is = absurd same
same_process ps vs p q (Task at) (Procedure there inputs outputs mode) same is = absurd same
same_process ps vs p q (Task at) (Function there inputs returns mode) same is = absurd same
same_process ps vs p q (Compool at) other same is = absurd (cc)
same_process ps vs p q (Procedure at inputs outputs mode) other same is = absurd (cc)
same_process ps vs p q (Function at inputs returns mode) other same is = absurd (cc)

pub stands_for_process : (files : List File) (k : ℕ) (p : Phrase) (template : Naming) (head : Head) (declarations : List Declaration) → slice_get (phrases_of files) k ≡ Some p → p.node ≡ OfTemplate template head declarations
    → is_process_head head ≡ true → GivesItsUnit (phrases_of files) p template head declarations → StandsForProcess (phrases_of files) k
stands_for_process files k p template head declarations there is process gives =
    let ps = phrases_of files in
    let unit = gives.is_unit in
    record {
      unit = gives.unit.number;
      stands =
          ap (λ (o : Option ℕ). elim o [ None ↦ k | Some other ↦ other ])
          (ap (option_and_then (λ (q : Phrase). meant_at ps q q.node)) there ∙ (ap (meant_at ps p) is ∙ unit.found));
      phrase = gives.unit;
      there = unit.there;
      is = record {
        name = unit.naming;
        head = gives.unit_head;
        declarations = gives.unit_declarations;
        declares = unit.is;
        process = same_process ps _ p gives.unit head gives.unit_head gives.heads process;
      };
    }
