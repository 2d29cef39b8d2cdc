-- Each phrase's elements have room in its rows.
use Rattle.std.proofs.Common.{rules, ◌≡◌, ◌∙◌, ◌≤◌, ◌<◌, ◌+◌, ◌*◌, ◌==◌, ℕ, zero, suc, Bool, true, false, List, [], ◌∷◌, ◌++◌, Option, Some, None, length, take, flat_map, slice_get, sum_by, unwrap_or, if◌then◌else◌, refl, sym, ap, subst, arith, length-append, append_assoc}
use Rattle.std.proofs.lemmas.List.Sums.{sum_by-cons}
use Rattle.hal_base.specs.declared.limits.TheConstants.{CELL_LIMIT, PROCESS_LIMIT}
use Rattle.hal_grammar.specs.Declarations.{Attribute, Declared}
use Rattle.hal_phrases.specs.Phrases.{Node, Phrase, OfFile, OfInclude, OfTemplate, OfUnit, OfParameter, OfClose, OfDeclare, OfItem, OfStructure, OfPart, OfStructureType, OfInitial, OfInitialName, OfLabel, OfExpression, OfDecimal, OfCallForm, OfReference, OfSubscriptName, OfAssignment, OfGroup, OfTemporaryGroup, OfVariable, OfExit, OfRepeat, OfReturn, OfCall, OfRead, OfWrite, OfUpdate, OfRealTime, OfProcess, OfEvent, OfHandler, OfResponse, OfOffError, OfSendError}
use Rattle.hal_names.specs.Laws.{IsCounted}
use Rattle.hal_constants.specs.Known.{Known}
use Rattle.hal_values.specs.declared.tables.Cell.{Cell}
use Rattle.hal_meaning.specs.Bodies.{processes_of, processes_reaching}
use Rattle.hal_meaning.specs.Elements.{shape_of}
use Rattle.hal_meaning.specs.Places.{Place, Storing, InCells, InPlaces, ByReference, Unstored, storing, storing_of_item, parameter, is_in_unit, is_sole, are_several, cells_at, cells_of_item, places_at, places_of_item, places_in, places_of, common_places, sole_places, unit_numbers, is_reentrant_at, cell_count}
use Rattle.hal_meaning.specs.ReportNames.{first_cell}
use Rattle.hal_reach.proofs.Within.{Has}
use Rattle.hal_storage.specs.report_names.Rooms.{HasRoomInPlaces, HasRoomStored, HasRoomAt, HaveRows}
use Rattle.hal_storage.specs.report_names.Rows.{Lookups, lookups_of, showing_in}
use Rattle.hal_storage.proofs.report_names.Lists.{at_length, before_length, length_of_more, part_of_all, first_below, both_within, length_of_all}
use Rattle.hal_storage.proofs.report_names.RowsAlike.{rows_alike}
use Rattle.hal_storage.proofs.report_names.Shown.{has_home, showing_is, showing_below, place_is}
use Rattle.hal_storage.proofs.report_names.Sized.{cells_of_copy, places_of_copy}

-- the cells of one more phrase stand before the others
pub one_further : (ps : List Phrase) (vs : Known) (l : Lookups) (done more : List Cell) (rest : List Phrase) → HaveRows ps vs l (length done + length more) rest → HaveRows ps vs l (length (done ++ more)) rest
one_further ps vs l done more rest have = subst (λ n. HaveRows ps vs l n rest) (sym (length-append done more)) have

-- a block is reached by several processes, or by one alone
apart : (all : List ℕ) (process : ℕ) (reaching : List ℕ) → are_several reaching ≡ true → is_sole all process reaching ≡ false
apart all process [] several = absurd (cc)
apart all process (one ∷ []) several = absurd (cc)
apart [] process (one ∷ other ∷ more) several = refl
apart (first ∷ others) process (one ∷ other ∷ more) several = refl

-- how many cells a set has of the places of a unit
abbrev counted_places : List Phrase → Known → ℕ → ℕ
counted_places ps vs q = if is_reentrant_at ps q then length (processes_of ps) * length (places_in ps vs q) else length (places_in ps vs q)

once : (b : Bool) (n len : ℕ) → 1 ≤ n → len ≤ (if b then n * len else len)
once b zero len some = absurd (omega (arith, some))
once true (suc n) len some = omega (arith)
once false (suc n) len some = omega (arith)

by_number : (f : ℕ → ℕ) (b : Bool) (n k : ℕ) (ns : List ℕ) → (n == k) ≡ b → (Has ns k → f k ≤ sum_by f ns) → Has (n ∷ ns) k → f k ≤ sum_by f (n ∷ ns)
by_number f true n k ns is rest has = let same : n ≡ k = search (rules, is) in omega (arith, sum_by-cons f n ns, ap f same)
by_number f false n k ns is rest has = let later : Has ns k = search (rules, is, has) in omega (arith, sum_by-cons f n ns, rest later)

one_of_all : (f : ℕ → ℕ) (ns : List ℕ) (k : ℕ) → Has ns k → f k ≤ sum_by f ns
one_of_all f [] k has = absurd (cc)
one_of_all f (n ∷ ns) k has = by_number f (n == k) n k ns refl (one_of_all f ns k) has

-- the places of a unit are no more than the cells
unit_few : (ps : List Phrase) (vs : Known) (q : ℕ) → Has (unit_numbers ps) q → 1 ≤ length (processes_of ps) → length (places_in ps vs q) ≤ cell_count ps vs
unit_few ps vs q has some = omega (arith, once (is_reentrant_at ps q) (length (processes_of ps)) (length (places_in ps vs q)) some, one_of_all (counted_places ps vs) (unit_numbers ps) q has)

-- nor are the places of a process
process_few : (ps : List Phrase) (vs : Known) (k : ℕ) → 1 ≤ length (processes_of ps) → length (places_of ps vs k) ≤ cell_count ps vs
process_few ps vs k some =
    omega (
      arith,
      length-append (common_places ps vs) (sole_places ps vs k),
      both_within (places_in ps vs) (λ q. are_several (processes_reaching ps q)) (λ q. is_sole (processes_of ps) k (processes_reaching ps q)) (is_reentrant_at ps) (length (processes_of ps)) (λ q. apart (processes_of ps) k (processes_reaching ps q)) some (unit_numbers ps),
    )

-- nor are shared cells
cells_few : (ps : List Phrase) (vs : Known) → length (flat_map (λ (p : Phrase). cells_at ps vs p p.node) ps) ≤ cell_count ps vs
cells_few ps vs = omega (arith, length_of_all (λ (p : Phrase). cells_at ps vs p p.node) ps)

-- what is stored in places stands in a unit
inside_by : (b : Bool) (s : Storing) → (if b then s else Unstored) ≡ InPlaces → b ≡ true
inside_by true s is = refl
inside_by false s is = absurd (cc)

same_home : (n : ℕ) → (n == n) ≡ true
same_home n = search rules

home_places : (b : Bool) (places : List Place) → b ≡ true → length places ≡ length (if b then places else [])
home_places true places is = refl
home_places false places is = absurd (cc)

-- the places of a phrase are among those of its unit
phrase_few : (ps : List Phrase) (vs : Known) (before : List Phrase) (p : Phrase) (rest : List Phrase) → ps ≡ before ++ (p ∷ rest) → length (places_at ps vs p p.node) ≤ length (places_in ps vs p.around.home)
phrase_few ps vs before p rest whole =
    let f : Phrase → List Place = λ one. if one.around.home == p.around.home then places_at ps vs one one.node else [] in
    omega (arith, home_places (p.around.home == p.around.home) (places_at ps vs p p.node) (same_home p.around.home), part_of_all f before p rest, ap (λ list. length (flat_map f list)) whole)

cell_limit : CELL_LIMIT ≡ 65536
cell_limit = refl

process_limit : PROCESS_LIMIT ≡ 128
process_limit = refl

room_in_places : (ps : List Phrase) (vs : Known) → IsCounted ps → cell_count ps vs ≤ CELL_LIMIT → length (processes_of ps) ≤ PROCESS_LIMIT
    → (before : List Phrase) (p : Phrase) (rest : List Phrase) → ps ≡ before ++ (p ∷ rest) → (common : List Attribute) (item : Declared) → p.node ≡ OfItem common item → storing ps vs p (OfItem common item) ≡ InPlaces
    → (process : Option ℕ) → showing_in (lookups_of ps vs) p.around.home ≡ process → HasRoomInPlaces (lookups_of ps vs) p (shape_of ps vs p common item) process
room_in_places ps vs counted few processes before p rest whole common item is stored None found = tt
room_in_places ps vs counted few processes before p rest whole common item is stored (Some process) found =
    let inside : is_in_unit ps p.around.home ≡ true = inside_by (is_in_unit ps p.around.home) (storing_of_item ps vs p common item (parameter ps p.around.home item.name.name)) stored in
    let has : Has (unit_numbers ps) p.around.home = has_home ps counted p.around.home inside in
    let less : process < length (processes_of ps) = showing_below ps p.around.home process (sym (showing_is ps vs p.around.home has) ∙ found) in
    let some : 1 ≤ length (processes_of ps) = omega (arith, less) in
    let k : ℕ = unwrap_or (slice_get (processes_of ps) process) 0 in
    let places : length (places_at ps vs p p.node) ≡ length (places_of_item ps vs p common item InPlaces) = ap (λ node. length (places_at ps vs p node)) is ∙ ap (λ s. length (places_of_item ps vs p common item s)) stored in (
      omega (arith, less, processes, process_limit),
      omega (arith, few, cell_limit, place_is ps vs process p.number less, first_below (λ (one : Place). one.owner == p.number) (places_of ps vs k), process_few ps vs k some, places_of_copy ps vs p common item, places, phrase_few ps vs before p rest whole, unit_few ps vs p.around.home has some),
    )

room_stored : (ps : List Phrase) (vs : Known) → IsCounted ps → cell_count ps vs ≤ CELL_LIMIT → length (processes_of ps) ≤ PROCESS_LIMIT
    → (before : List Phrase) (p : Phrase) (rest : List Phrase) → ps ≡ before ++ (p ∷ rest) → (common : List Attribute) (item : Declared) → p.node ≡ OfItem common item
    → (s : Storing) → storing ps vs p (OfItem common item) ≡ s → HasRoomStored (lookups_of ps vs) (length (flat_map (λ (one : Phrase). cells_at ps vs one one.node) before)) p (shape_of ps vs p common item) s
room_stored ps vs counted few processes before p rest whole common item is (InCells group) stored =
    let f : Phrase → List Cell = λ one. cells_at ps vs one one.node in
    let cells : length (cells_at ps vs p p.node) ≡ length (cells_of_item ps vs p common item (InCells group)) = ap (λ node. length (cells_at ps vs p node)) is ∙ ap (λ s. length (cells_of_item ps vs p common item s)) stored in
    omega (arith, few, cell_limit, cells_of_copy ps vs p common item group, cells, part_of_all f before p rest, ap (λ list. length (flat_map f list)) whole, cells_few ps vs)
room_stored ps vs counted few processes before p rest whole common item is InPlaces stored =
    room_in_places ps vs counted few processes before p rest whole common item is stored (showing_in (lookups_of ps vs) p.around.home) refl
room_stored ps vs counted few processes before p rest whole common item is ByReference stored = tt
room_stored ps vs counted few processes before p rest whole common item is Unstored stored = tt

room_at : (ps : List Phrase) (vs : Known) → IsCounted ps → cell_count ps vs ≤ CELL_LIMIT → length (processes_of ps) ≤ PROCESS_LIMIT
    → (before : List Phrase) (p : Phrase) (rest : List Phrase) → ps ≡ before ++ (p ∷ rest) → (node : Node) → p.node ≡ node
    → HasRoomAt ps vs (lookups_of ps vs) (length (flat_map (λ (one : Phrase). cells_at ps vs one one.node) before)) p node
room_at ps vs counted few processes before p rest whole (OfItem common item) is =
    room_stored ps vs counted few processes before p rest whole common item is (storing ps vs p (OfItem common item)) refl
room_at ps vs counted few processes before p rest whole (OfFile prefaces name) is = tt
room_at ps vs counted few processes before p rest whole (OfInclude name) is = tt
room_at ps vs counted few processes before p rest whole (OfTemplate name head list) is = tt
room_at ps vs counted few processes before p rest whole (OfUnit name head list) is = tt
room_at ps vs counted few processes before p rest whole (OfParameter name output) is = tt
room_at ps vs counted few processes before p rest whole (OfClose name) is = tt
room_at ps vs counted few processes before p rest whole (OfDeclare common) is = tt
room_at ps vs counted few processes before p rest whole (OfStructure name parts) is = tt
room_at ps vs counted few processes before p rest whole (OfPart bottom part) is = tt
room_at ps vs counted few processes before p rest whole (OfStructureType place template) is = tt
room_at ps vs counted few processes before p rest whole (OfInitial initial) is = tt
room_at ps vs counted few processes before p rest whole (OfInitialName name) is = tt
room_at ps vs counted few processes before p rest whole (OfLabel name) is = tt
room_at ps vs counted few processes before p rest whole (OfExpression r tree) is = tt
room_at ps vs counted few processes before p rest whole (OfDecimal r place) is = tt
room_at ps vs counted few processes before p rest whole (OfCallForm place name arguments) is = tt
room_at ps vs counted few processes before p rest whole (OfReference r reference) is = tt
room_at ps vs counted few processes before p rest whole (OfSubscriptName name) is = tt
room_at ps vs counted few processes before p rest whole (OfAssignment receivers tree) is = tt
room_at ps vs counted few processes before p rest whole (OfGroup labels looping) is = tt
room_at ps vs counted few processes before p rest whole (OfTemporaryGroup labels variable) is = tt
room_at ps vs counted few processes before p rest whole (OfVariable name) is = tt
room_at ps vs counted few processes before p rest whole (OfExit place label) is = tt
room_at ps vs counted few processes before p rest whole (OfRepeat place label) is = tt
room_at ps vs counted few processes before p rest whole (OfReturn place tree) is = tt
room_at ps vs counted few processes before p rest whole (OfCall name arguments receivers) is = tt
room_at ps vs counted few processes before p rest whole (OfRead place) is = tt
room_at ps vs counted few processes before p rest whole (OfWrite place) is = tt
room_at ps vs counted few processes before p rest whole (OfUpdate place labels) is = tt
room_at ps vs counted few processes before p rest whole (OfRealTime place) is = tt
room_at ps vs counted few processes before p rest whole (OfProcess name) is = tt
room_at ps vs counted few processes before p rest whole (OfEvent event) is = tt
room_at ps vs counted few processes before p rest whole (OfHandler place selector) is = tt
room_at ps vs counted few processes before p rest whole (OfResponse place selector) is = tt
room_at ps vs counted few processes before p rest whole (OfOffError place selector) is = tt
room_at ps vs counted few processes before p rest whole (OfSendError group_at group number_at number) is = tt

-- a phrase's number is how many stand before it
number_is : (ps : List Phrase) → IsCounted ps → (before : List Phrase) (p : Phrase) (rest : List Phrase) → ps ≡ before ++ (p ∷ rest) → p.number ≡ length before
number_is ps counted before p rest whole = counted (length before) p (ap (λ list. slice_get list (length before)) whole ∙ at_length before p rest)

first_is : (ps : List Phrase) (vs : Known) → IsCounted ps → (before : List Phrase) (p : Phrase) (rest : List Phrase) → ps ≡ before ++ (p ∷ rest)
    → length (flat_map (λ (one : Phrase). cells_at ps vs one one.node) before) ≡ first_cell ps vs p.number
first_is ps vs counted before p rest whole =
    let f : Phrase → List Cell = λ one. cells_at ps vs one one.node in
    let taken : take p.number ps ≡ before = ap (λ n. take n ps) (number_is ps counted before p rest whole) ∙ ap (take (length before)) whole ∙ before_length before (p ∷ rest) in
    ap (λ list. length (flat_map f list)) (sym taken)

have_rest : (ps : List Phrase) (vs : Known) → IsCounted ps → cell_count ps vs ≤ CELL_LIMIT → length (processes_of ps) ≤ PROCESS_LIMIT
    → (before rest : List Phrase) → ps ≡ before ++ rest → HaveRows ps vs (lookups_of ps vs) (length (flat_map (λ (one : Phrase). cells_at ps vs one one.node) before)) rest
have_rest ps vs counted few processes before [] whole = tt
have_rest ps vs counted few processes before (p ∷ rest) whole =
    let f : Phrase → List Cell = λ one. cells_at ps vs one one.node in
    let later : ps ≡ (before ++ (p ∷ [])) ++ rest = whole ∙ sym (append_assoc before (p ∷ []) rest) in (
      room_at ps vs counted few processes before p rest whole p.node refl,
      rows_alike ps vs counted (length (flat_map f before)) p (first_is ps vs counted before p rest whole) p.node,
      subst (λ n. HaveRows ps vs (lookups_of ps vs) n rest) (sym (length_of_more f before p)) (have_rest ps vs counted few processes (before ++ (p ∷ [])) rest later),
    )

-- all phrases have their rows
pub have_rows : (ps : List Phrase) (vs : Known) → IsCounted ps → cell_count ps vs ≤ CELL_LIMIT → length (processes_of ps) ≤ PROCESS_LIMIT → HaveRows ps vs (lookups_of ps vs) 0 ps
have_rows ps vs counted few processes = have_rest ps vs counted few processes [] ps refl
