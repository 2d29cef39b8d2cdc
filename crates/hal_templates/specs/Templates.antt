-- Rules 501 to 503: a written template that differs from its unit, a template of a unit that isn't in the set, two units of one name.
use Rattle.std.specs.Prelude.{ℕ, ◌==◌, Bool, true, false, ◌&&◌, List, Option, Some, None, slice_get, if◌then◌else◌}
use Rattle.std.specs.Option.{option_and_then, is_some}
use Rattle.hal_base.specs.declared.refusal.Place.{Place}
use Rattle.hal_grammar.specs.Leaves.{Naming}
use Rattle.hal_grammar.specs.Declarations.{Declaration}
use Rattle.hal_grammar.specs.Units.{Head}
use Rattle.hal_phrases.specs.Phrases.{Node, Phrase, OfFile, OfInclude, OfTemplate, OfUnit}
use Rattle.hal_names.specs.declared.key.Space.TheVariants as space
use Rattle.hal_names.specs.Keys.{key, own}
use Rattle.hal_names.specs.Means.{unit_named}
use Rattle.hal_scope.specs.Uses.{unless}
use Rattle.hal_constants.specs.Known.{Known}
use Rattle.hal_templates.specs.Entries.{entries}
use Rattle.hal_templates.specs.Heads.{is_compool, same_head}
use Rattle.hal_templates.specs.Items.{same_entries}
use Rattle.hal_templates.specs.Own.{own_entries}

-- the block to which the names belong that a template with this head declares: those of a COMPOOL's belong to the file
abbrev pub home_of : Phrase → Head → ℕ
home_of p head = if is_compool head then p.around.home else p.number

-- whether the template that this phrase is declares what the own template of a unit does
abbrev pub declares_same : List Phrase → Known → Phrase → Head → List Declaration → Phrase → Head → List Declaration → Bool
declares_same ps vs p head declarations q unit_head unit_declarations =
    same_entries ps vs (home_of p head) (entries declarations) q.number (own_entries ps q.number unit_head unit_declarations)

-- whether it equals the own template of the unit
abbrev pub equals : List Phrase → Known → Phrase → Head → List Declaration → Phrase → Head → List Declaration → Bool
equals ps vs p head declarations q unit_head unit_declarations =
    same_head ps vs p head q unit_head && declares_same ps vs p head declarations q unit_head unit_declarations

-- the same of the unit that another phrase is; a template of the file's own unit hides the unit, and breaks a rule of names
unfoldable pub equals_unit : List Phrase → Known → Phrase → Head → List Declaration → Phrase → Node → Bool
equals_unit ps vs p head declarations q (OfUnit name unit_head unit_declarations) = equals ps vs p head declarations q unit_head unit_declarations
equals_unit ps vs p head declarations q other = true

-- the unit of this name in the set
abbrev pub unit_of : List Phrase → List ℕ → Option Phrase
unit_of ps name = option_and_then (λ k. slice_get ps k) (unit_named ps name)

-- where a template with this name, head and declarations differs from its unit: at the name
abbrev pub differing_from : List Phrase → Known → Phrase → Naming → Head → List Declaration → Option Place
differing_from ps vs p name head declarations = option_and_then (λ (q : Phrase). unless (equals_unit ps vs p head declarations q q.node) name.place) (unit_of ps name.name)

-- rule 501
unfoldable pub differing : List Phrase → Known → Phrase → Node → Option Place
differing ps vs p (OfTemplate name head declarations) = differing_from ps vs p name head declarations
differing ps vs p other = None

-- the name of the unit whose template a phrase gives
unfoldable pub template_name : Node → Option Naming
template_name (OfInclude name) = Some name
template_name (OfTemplate name head declarations) = Some name
template_name other = None

-- rule 502: at the name
abbrev pub lacking : List Phrase → Phrase → Option Place
lacking ps p = option_and_then (λ (n : Naming). unless (is_some (unit_named ps n.name)) n.place) (template_name p.node)

-- the name of a file's unit
unfoldable pub unit_name : Node → Option Naming
unit_name (OfFile prefaces name) = Some name
unit_name other = None

-- whether this is the number of the phrase, or there is none
abbrev pub is_number : ℕ → Option ℕ → Bool
is_number k None = true
is_number k (Some n) = n == k

-- rule 503: at the later name
abbrev pub doubled : List Phrase → Phrase → Option Place
doubled ps p = option_and_then (λ (n : Naming). unless (is_number p.number (own ps (key space.Unit 0 n.name))) n.place) (unit_name p.node)
