-- Rule 602 of names that are given twice, and rule 606 of parameters that their block doesn't declare.
use Rattle.std.specs.Prelude.{ℕ, ◌==◌, nat_lt, Bool, true, false, ◌||◌, ◌&&◌, not, List, [], Option, Some, None, slice_get}
use Rattle.std.specs.List.{list_any}
use Rattle.std.specs.Option.{option_and_then, option_or, is_some}
use Rattle.hal_base.specs.declared.refusal.Place.{Place}
use Rattle.hal_grammar.specs.Leaves.{Naming}
use Rattle.hal_grammar.specs.Declarations.{Declared, Declaration, Declare, Structure}
use Rattle.hal_grammar.specs.Units.{Preface}
use Rattle.hal_phrases.specs.Phrases.{Node, Phrase, OfInclude, OfTemplate, OfUnit, OfParameter, OfItem, OfStructure, OfPart, OfLabel}
use Rattle.hal_names.specs.declared.key.Space.TheVariants as space
use Rattle.hal_names.specs.Keys.{key, own, declared_by}
use Rattle.hal_names.specs.Means.{included_before, is_compool_unit, prefaces_of, unit_named}
use Rattle.hal_scope.specs.Uses.{unless}

-- the name that a phrase declares, where it may be given twice
unfoldable pub given : Node → Option Naming
given (OfTemplate name head declarations) = Some name
given (OfUnit name head declarations) = Some name
given (OfParameter name output) = Some name
given (OfItem common item) = Some item.name
given (OfStructure name parts) = Some name
given (OfPart bottom part) = Some part.name
given (OfLabel name) = Some name
given other = None

-- whether this is the number of the phrase, or there is none
abbrev pub is_number : ℕ → Option ℕ → Bool
is_number k None = true
is_number k (Some n) = n == k

-- whether no phrase before this one declares its key
abbrev pub is_first : List Phrase → Phrase → Bool
is_first ps p = elim (declared_by p) [ None ↦ true | Some q ↦ is_number p.number (own ps q) ]

-- the prefaces of the file to which the names of a phrase belong, where they belong to a file
abbrev pub prefaces_around : List Phrase → Phrase → Option (List Preface)
prefaces_around ps p = option_and_then (λ (h : Phrase). prefaces_of h.node) (slice_get ps p.around.home)

-- whether an INCLUDE before the phrase gives the name to the file to which the phrase's names belong
abbrev pub is_included_before : List Phrase → Phrase → List ℕ → Bool
is_included_before ps p name = elim (prefaces_around ps p) [ None ↦ false | Some prefaces ↦ is_some (included_before ps prefaces p.around.prefaces name) ]

-- whether a phrase gives its name to a block or to the file, and not to a structure or to the parameters of a block
unfoldable pub is_of_block : Node → Bool
is_of_block (OfTemplate name head declarations) = true
is_of_block (OfUnit name head declarations) = true
is_of_block (OfItem common item) = true
is_of_block (OfStructure name parts) = true
is_of_block other = false

-- whether the name that a phrase declares was given before
abbrev pub is_given_before : List Phrase → Phrase → List ℕ → Bool
is_given_before ps p name = not (is_first ps p) || (is_of_block p.node && is_included_before ps p name)

-- rule 602 of a phrase that declares
unfoldable pub twice : List Phrase → Phrase → Option Place
twice ps p = option_and_then (λ (n : Naming). unless (not (is_given_before ps p n.name)) n.place) (given p.node)

-- whether there is a lower number
abbrev pub is_lower : ℕ → Option ℕ → Bool
is_lower k None = false
is_lower k (Some n) = nat_lt n k

-- whether the file has the name before an INCLUDE: it is declared before it, or an INCLUDE before it gives it
abbrev pub is_there_before : List Phrase → Phrase → List ℕ → Bool
is_there_before ps p name = is_lower p.number (own ps (key space.Declared p.around.home name)) || is_included_before ps p name

-- the same of the name of an item
abbrev pub is_item_there : List Phrase → Phrase → Declared → Bool
is_item_there ps p item = is_there_before ps p item.name.name

-- whether the file has one of the names that a declaration declares before an INCLUDE
unfoldable pub declares_one_there : List Phrase → Phrase → Declaration → Bool
declares_one_there ps p (Declare place common items) = list_any (is_item_there ps p) items
declares_one_there ps p (Structure place name parts) = is_there_before ps p name.name

-- the declarations of a unit
unfoldable pub declarations_of : Node → List Declaration
declarations_of (OfUnit name head declarations) = declarations
declarations_of other = []

-- whether a COMPOOL with this name and number declares its own name, or one that is there before an INCLUDE
abbrev pub compool_repeats : List Phrase → Phrase → List ℕ → ℕ → List Declaration → Bool
compool_repeats ps p name u declarations = is_some (own ps (key space.Declared u name)) || list_any (declares_one_there ps p) declarations

-- whether the template of a unit with this name, number and node gives a name twice or one that is there before: a COMPOOL gives all that it declares
abbrev pub repeats : List Phrase → Phrase → List ℕ → ℕ → Node → Bool
repeats ps p name u unit = is_there_before ps p name || (is_compool_unit unit && compool_repeats ps p name u (declarations_of unit))

-- rule 602 of an INCLUDE
unfoldable pub included_twice : List Phrase → Phrase → Node → Option Place
included_twice ps p (OfInclude name) =
    option_and_then (λ u. option_and_then (λ (unit : Phrase). unless (not (repeats ps p name.name u unit.node)) name.place) (slice_get ps u)) (unit_named ps name.name)
included_twice ps p other = None

-- rule 602
abbrev pub repeated : List Phrase → Phrase → Option Place
repeated ps p = option_or (twice ps p) (included_twice ps p p.node)

-- whether the phrase with this number declares data
unfoldable pub is_item : Node → Bool
is_item (OfItem common item) = true
is_item other = false

abbrev pub is_item_at : List Phrase → Option ℕ → Bool
is_item_at ps None = false
is_item_at ps (Some k) = elim (slice_get ps k) [ None ↦ false | Some p ↦ is_item p.node ]

-- rule 606
unfoldable pub undeclared : List Phrase → Phrase → Node → Option Place
undeclared ps p (OfParameter name output) = unless (is_item_at ps (own ps (key space.Declared p.around.home name.name))) name.place
undeclared ps p other = None
