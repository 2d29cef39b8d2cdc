-- The units of a set that are entered: processes, PROCEDUREs and FUNCTIONs.
use Rattle.std.specs.Prelude.{ℕ, zero, suc, ◌==◌, Bool, true, false, ◌&&◌, ◌||◌, List, [], ◌∷◌, ◌++◌, Option, Some, None, slice_get, bytes_eq, filter, filter_map, flat_map, length, if◌then◌else◌}
use Rattle.std.specs.Option.{option_and_then}
use Rattle.std.specs.List.{list_any}
use Rattle.hal_grammar.specs.Declarations.{Declared, Declaration, Declare, Structure}
use Rattle.hal_grammar.specs.Statements.{Statements, NoStatements, MoreStatements}
use Rattle.hal_grammar.specs.Units.{Head, Program, Compool, Task, Procedure, Function, Mode, Reentrant, Block, BlockOf, Elements, NoElements, StatementFirst, BlockFirst, Preface, Include, Templates, File}
use Rattle.hal_phrases.specs.Phrases.{Node, Phrase, OfFile, OfTemplate, OfUnit, OfItem, OfCallForm, OfReference, OfSubscriptName, OfCall, OfGroup, OfTemporaryGroup, OfUpdate, OfHandler, OfRealTime}
use Rattle.hal_names.specs.declared.key.Space.TheVariants as space
use Rattle.hal_names.specs.Keys.{key, own}
use Rattle.hal_names.specs.Means.{means, unit_named}
use Rattle.hal_scope.specs.Sorts.{used}

-- whether a declaration declares data of this name
abbrev pub declares : List ℕ → Declaration → Bool
declares name (Declare place common items) = list_any (λ (item : Declared). bytes_eq item.name.name name) items
declares name (Structure place other parts) = false

-- whether a head is that of a COMPOOL
abbrev pub is_compool_head : Head → Bool
is_compool_head (Compool place) = true
is_compool_head other = false

-- the COMPOOL whose written template among prefaces declares this name
abbrev pub pool_of : List Preface → List ℕ → Option (List ℕ)
pool_of [] name = None
pool_of (Include place unit ∷ prefaces) name = pool_of prefaces name
pool_of (Templates t ∷ prefaces) name = if is_compool_head t.head && list_any (declares name) t.declarations then Some t.name.name else pool_of prefaces name

-- the data of this name that a COMPOOL declares
abbrev pub pooled : List Phrase → List ℕ → List ℕ → Option ℕ
pooled ps unit name = option_and_then (λ u. own ps (key space.Declared u name)) (unit_named ps unit)

-- the data that an item of a template stands for, which belongs to the file
abbrev pub pooled_at : List Phrase → List ℕ → Node → Option ℕ
pooled_at ps name (OfFile prefaces unit) = option_and_then (λ pool. pooled ps pool name) (pool_of prefaces name)
pooled_at ps name other = None

-- the declaration that a declaration stands for: a template's stands for that of the unit
abbrev pub meant_at : List Phrase → Phrase → Node → Option ℕ
meant_at ps p (OfTemplate name head declarations) = unit_named ps name.name
meant_at ps p (OfItem common item) = option_and_then (λ (home : Phrase). pooled_at ps item.name.name home.node) (slice_get ps p.around.home)
meant_at ps p other = None

-- the same of the phrase with this number; any other declaration stands for itself
abbrev pub standing_for : List Phrase → ℕ → ℕ
standing_for ps k = elim (option_and_then (λ (p : Phrase). meant_at ps p p.node) (slice_get ps k)) [ None ↦ k | Some other ↦ other ]

-- the declaration that a name means in a block, in the unit itself
abbrev pub meant : List Phrase → ℕ → List ℕ → Option ℕ
meant ps block name = elim (means ps block name) [ None ↦ None | Some k ↦ Some (standing_for ps k) ]

-- whether a head is that of a process
abbrev pub is_process_head : Head → Bool
is_process_head (Program place) = true
is_process_head (Task place) = true
is_process_head other = false

-- whether a head is that of a block that is called
abbrev pub is_called_head : Head → Bool
is_called_head (Procedure place inputs outputs mode) = true
is_called_head (Function place inputs returns mode) = true
is_called_head other = false

abbrev pub is_process : Node → Bool
is_process (OfUnit name head declarations) = is_process_head head
is_process other = false

abbrev pub is_called : Node → Bool
is_called (OfUnit name head declarations) = is_called_head head
is_called other = false

abbrev pub is_unit : Node → Bool
is_unit (OfUnit name head declarations) = true
is_unit other = false

-- whether a head says REENTRANT
abbrev pub says_reentrant : Option Mode → Bool
says_reentrant (Some (Reentrant place)) = true
says_reentrant other = false

abbrev pub is_reentrant_head : Head → Bool
is_reentrant_head (Procedure place inputs outputs mode) = says_reentrant mode
is_reentrant_head (Function place inputs returns mode) = says_reentrant mode
is_reentrant_head other = false

-- the numbers of the processes, in order
abbrev pub processes_of : List Phrase → List ℕ
processes_of ps = filter_map (λ (p : Phrase). if is_process p.node then Some p.number else None) ps

-- the block that a phrase calls, where it calls one
abbrev pub called_block : List Phrase → Option ℕ → Option ℕ
called_block ps k = option_and_then (λ (q : Phrase). if is_called q.node then Some q.number else None) (option_and_then (slice_get ps) k)

abbrev pub callee_at : List Phrase → ℕ → Node → Option ℕ
callee_at ps block (OfCall name arguments receivers) = called_block ps (meant ps block name.name)
callee_at ps block (OfCallForm place name arguments) = called_block ps (meant ps block name)
callee_at ps block (OfReference role reference) = elim (used (OfReference role reference)) [ None ↦ None | Some u ↦ called_block ps (meant ps block u.name) ]
callee_at ps block (OfSubscriptName name) = called_block ps (meant ps block name.name)
callee_at ps block other = None

-- the block that a phrase calls
abbrev pub callee : List Phrase → Phrase → Option ℕ
callee ps p = callee_at ps p.around.block p.node

-- the blocks that the block with this number calls
abbrev pub callees : List Phrase → ℕ → List ℕ
callees ps q = filter_map (λ (p : Phrase). if p.around.home == q then callee ps p else None) ps

-- whether a block reaches another one by at most so many calls
abbrev pub reaches_within : ℕ → List Phrase → ℕ → ℕ → Bool
reaches_within zero ps from to = from == to
reaches_within (suc n) ps from to = (from == to) || list_any (λ q. reaches_within n ps q to) (callees ps from)

-- how many units there are: no block is called again while it is entered, so that is enough
abbrev pub unit_count : List Phrase → ℕ
unit_count ps = length (filter (λ (p : Phrase). is_unit p.node) ps)

-- whether a block reaches another one by calls, or is it
abbrev pub reaches : List Phrase → ℕ → ℕ → Bool
reaches ps from to = reaches_within (unit_count ps) ps from to

-- the processes that reach a block
abbrev pub processes_reaching : List Phrase → ℕ → List ℕ
processes_reaching ps q = filter (λ p. reaches ps p q) (processes_of ps)

-- the statements among elements
abbrev pub statements_of : Elements → Statements
statements_of NoElements = NoStatements
statements_of (StatementFirst statement others) = MoreStatements statement (statements_of others)
statements_of (BlockFirst block others) = statements_of others

abbrev mutual
  -- a unit and those inside it, in order
  pub units_from : Block → List Block
  units_from (BlockOf name head declarations elements close) = BlockOf name head declarations elements close ∷ units_within elements

  pub units_within : Elements → List Block
  units_within NoElements = []
  units_within (StatementFirst statement others) = units_within others
  units_within (BlockFirst block others) = units_from block ++ units_within others

-- whether the meaning looks a statement up by its phrase: a group, an UPDATE block, ON ERROR with a statement, or a real-time statement
abbrev pub is_mark : Node → Bool
is_mark (OfGroup labels looping) = true
is_mark (OfTemporaryGroup labels variable) = true
is_mark (OfUpdate place labels) = true
is_mark (OfHandler place selector) = true
is_mark (OfRealTime place) = true
is_mark other = false

-- the numbers of those in the block with this number, in order
abbrev pub marks_of : List Phrase → ℕ → List ℕ
marks_of ps q = filter_map (λ (p : Phrase). if is_mark p.node && (p.around.home == q) then Some p.number else None) ps

-- a unit: the number of its phrase, its head, its statements, and the numbers of the phrases of those that are looked up
pub record Body : Type 0 where
  pub number : ℕ
  pub head : Head
  pub statements : Statements
  pub marks : List ℕ

abbrev pub body_of : List Phrase → ℕ → Block → Body
body_of ps k (BlockOf name head declarations elements close) = record { number = k; head = head; statements = statements_of elements; marks = marks_of ps k }

-- the n-th unit among the phrases is the n-th one of the trees
abbrev pub bodies_from : List Phrase → List ℕ → List Block → List Body
bodies_from ps (k ∷ ks) (b ∷ bs) = body_of ps k b ∷ bodies_from ps ks bs
bodies_from ps ks bs = []

-- the units of a set
abbrev pub bodies_of : List File → List Phrase → List Body
bodies_of files ps =
    bodies_from ps (filter_map (λ (p : Phrase). if is_unit p.node then Some p.number else None) ps) (flat_map (λ (f : File). units_from f.block) files)
