-- The units of a set: what their phrases look up, and what their statements do.
use Rattle.std.proofs.Common.{◌≡◌, ◌≢◌, ◌<◌, ◌≤◌, ℕ, suc, ◌==◌, true, false, List, [], ◌∷◌, ◌++◌, length, Option, None, Some, refl, sym, ap, subst, ◌∙◌, arith, le_refl, append_assoc, append-nil, length-append}
use Rattle.std.specs.Prelude.{flat_map, if◌then◌else◌}
use Rattle.std.proofs.lemmas.Bool.Decides.{nat_tests}
use Rattle.std.proofs.lemmas.List.Elements.{filter_map-append}
use Rattle.hal_grammar.specs.Leaves.{Naming}
use Rattle.hal_grammar.specs.Declarations.{Declaration}
use Rattle.hal_grammar.specs.Units.{Head, Program, Compool, Task, Procedure, Function, Block, BlockOf, Elements, NoElements, StatementFirst, BlockFirst, Template, Preface, Include, Templates, File}
use Rattle.hal_phrases.specs.declared.around.Around.{Around}
use Rattle.hal_phrases.specs.Surroundings.{in_file, behind, opened}
use Rattle.hal_phrases.specs.Phrases.{Node, Phrase, phrase, OfFile, OfInclude, OfTemplate, OfUnit, add, gathered_each, gathered_any}
use Rattle.hal_phrases.specs.GatheredDeclarations.{gathered_declaration}
use Rattle.hal_phrases.specs.GatheredStatements.{gathered_close, gathered_statement}
use Rattle.hal_phrases.specs.GatheredUnits.{gathered_head, gathered_block, gathered_elements, around_template, gathered_template, gathered_preface, gathered_prefaces, name_of_block, gathered_file, phrases_of}
use Rattle.hal_scope.specs.Sorts.{used}
use Rattle.hal_meaning.specs.Bodies.{is_unit, marks_of, statements_of, units_from, units_within, bodies_from, bodies_of}
use Rattle.hal_meaning.specs.Places.{unit_numbers}
use Rattle.hal_meaning.specs.Marks.{after_statement, after_statements}
use Rattle.hal_sound_names.specs.LookedUp.{Looked, unit_looked, looked_in_statements, AllLookRight}
use Rattle.hal_sound_names.proofs.LookingUp.{Adds, Leaves, adds, adds_then, adds_nothing, leaves, leaves_none, leaves_then, quiet, no_unit, same_unit}
use Rattle.hal_sound_names.proofs.LookingStatements.{statement_goes, close_goes}
use Rattle.hal_sound_names.proofs.LookingDeclarations.{both, head_names, declarations_names}

pub apart : (k unit : ℕ) → k ≢ unit → (k == unit) ≡ false
apart k unit other = grind (arith, nat_tests)

-- the numbers of the phrases behind these, through those, aren't this unit's
abbrev pub IsBeside : ℕ → List Phrase → List Phrase → Type 0
IsBeside unit d e = (k : ℕ) → length d ≤ k → k < length e → (k == unit) ≡ false

pub longer : (d : List Phrase) (a : Around) (n : Node) → length d < length (add d a n)
longer d a n = omega (arith, length-append d (phrase (length d) a n ∷ []))

-- the phrases of a unit: its own, those of its head, of its declarations, of its elements, and of its end
abbrev with_own : List Phrase → Around → Naming → Head → List Declaration → List Phrase
with_own d a name head declarations = add d a (OfUnit name head declarations)

abbrev with_declared : List Phrase → Around → Naming → Head → List Declaration → List Phrase
with_declared d a name head declarations =
    gathered_each (gathered_declaration (opened (length d) a)) (gathered_head (with_own d a name head declarations) (opened (length d) a) head) declarations

pub declared_grows : (d : List Phrase) (a : Around) (name : Naming) (head : Head) (declarations : List Declaration) → length d < length (with_declared d a name head declarations)
declared_grows d a name head declarations =
    omega (
      arith,
      longer d a (OfUnit name head declarations),
      ((head_names 0 (with_own d a name head declarations) (opened (length d) a) head).goes 0).grows,
      ((declarations_names 0 (opened (length d) a) (gathered_head (with_own d a name head declarations) (opened (length d) a) head) declarations).goes 0).grows,
    )

pub closing_grows : (d e : List Phrase) (a : Around) (close : Option Naming) → length e ≤ length (gathered_any (gathered_close (opened (length d) a)) e close)
closing_grows d e a close = (close_goes 0 0 (opened (length d) a) e close).grows

mutual
  unfolding gathered_block gathered_elements

  pub block_grows : (d : List Phrase) (a : Around) (b : Block) → length d < length (gathered_block d a b)
  block_grows d a (BlockOf name head declarations body close) =
      omega (
        arith,
        declared_grows d a name head declarations,
        elements_grow (with_declared d a name head declarations) (opened (length d) a) body,
        closing_grows d (gathered_elements (with_declared d a name head declarations) (opened (length d) a) body) a close,
      )

  pub elements_grow : (d : List Phrase) (a : Around) (x : Elements) → length d ≤ length (gathered_elements d a x)
  elements_grow d a NoElements = le_refl (length d)
  elements_grow d a (StatementFirst s others) = omega (arith, (statement_goes 0 0 d a s).grows, elements_grow (gathered_statement d a s) a others)
  elements_grow d a (BlockFirst b others) = omega (arith, block_grows d a b, elements_grow (gathered_block d a b) a others)

-- the unit's own phrase, its head and its declarations add nothing in another unit
pub declared_leaves : (unit : ℕ) (d : List Phrase) (a : Around) (name : Naming) (head : Head) (declarations : List Declaration) → (length d == unit) ≡ false → Leaves unit d (with_declared d a name head declarations)
unfolding used
declared_leaves unit d a name head declarations away =
    leaves_then (quiet unit d a (OfUnit name head declarations) refl refl)
    (leaves away ((both (head_names unit (with_own d a name head declarations) (opened (length d) a) head) (declarations_names unit (opened (length d) a) (gathered_head (with_own d a name head declarations) (opened (length d) a) head) declarations)).goes 0))

pub closing_leaves : (unit : ℕ) (d e : List Phrase) (a : Around) (close : Option Naming) → (length d == unit) ≡ false → Leaves unit e (gathered_any (gathered_close (opened (length d) a)) e close)
closing_leaves unit d e a close away = leaves away (close_goes unit 0 (opened (length d) a) e close)

mutual
  unfolding gathered_block gathered_elements

  pub block_leaves : (unit : ℕ) (d : List Phrase) (a : Around) (b : Block) → IsBeside unit d (gathered_block d a b) → Leaves unit d (gathered_block d a b)
  block_leaves unit d a (BlockOf name head declarations body close) beside =
      let grown = block_grows d a (BlockOf name head declarations body close) in
      let named = declared_grows d a name head declarations in
      let closed = closing_grows d (gathered_elements (with_declared d a name head declarations) (opened (length d) a) body) a close in
      let away : (length d == unit) ≡ false = beside (length d) (le_refl (length d)) grown in
      leaves_then (declared_leaves unit d a name head declarations away)
      (leaves_then (elements_leave unit (with_declared d a name head declarations) (opened (length d) a) body away (λ k low high. beside k (omega (arith, low, named)) (omega (arith, high, closed))))
      (closing_leaves unit d (gathered_elements (with_declared d a name head declarations) (opened (length d) a) body) a close away))

  pub elements_leave : (unit : ℕ) (d : List Phrase) (a : Around) (x : Elements) → (a.home == unit) ≡ false → IsBeside unit d (gathered_elements d a x) → Leaves unit d (gathered_elements d a x)
  elements_leave unit d a NoElements away beside = leaves_none unit d
  elements_leave unit d a (StatementFirst s others) away beside =
      let grown = (statement_goes 0 0 d a s).grows in
      leaves_then (leaves away (statement_goes unit 0 d a s)) (elements_leave unit (gathered_statement d a s) a others away (λ k low high. beside k (omega (arith, low, grown)) high))
  elements_leave unit d a (BlockFirst b others) away beside =
      let grown = block_grows d a b in let more = elements_grow (gathered_block d a b) a others in
      leaves_then (block_leaves unit d a b (λ k low high. beside k low (omega (arith, high, more))))
      (elements_leave unit (gathered_block d a b) a others away (λ k low high. beside k (omega (arith, low, grown)) high))

-- the statements among a unit's elements
pub elements_add : (unit m : ℕ) (d : List Phrase) (a : Around) (x : Elements) → (a.home == unit) ≡ true → unit < length d
    → Adds unit m (after_statements m (statements_of x)) (λ all. looked_in_statements all a.block m (statements_of x)) d (gathered_elements d a x)
unfolding gathered_elements
elements_add unit m d a NoElements at low = adds_nothing unit m d d (leaves_none unit d)
elements_add unit m d a (StatementFirst s others) at low =
    let grown = (statement_goes 0 0 d a s).grows in
    adds_then (adds at (statement_goes unit m d a s)) (elements_add unit (after_statement m s) (gathered_statement d a s) a others at (omega (arith, low, grown)))
elements_add unit m d a (BlockFirst b others) at low =
    let grown = block_grows d a b in
    adds_then (adds_nothing unit m d (gathered_block d a b) (block_leaves unit d a b (λ k from to. apart k unit (omega (arith, from, low)))))
    (elements_add unit m (gathered_block d a b) a others at (omega (arith, low, grown)))

-- what a unit looks up, where these are all phrases
abbrev pub IsRight : List Phrase → ℕ → Block → Type 0
IsRight ps k (BlockOf name head declarations body close) = (declared : List Looked) × (unit_looked k ps ≡ declared ++ looked_in_statements (marks_of ps k) k 0 (statements_of body))

-- nothing of a unit is there yet
abbrev pub IsFresh : ℕ → List Phrase → Type 0
IsFresh k d = (marks_of d k ≡ []) × (unit_looked k d ≡ [])

pub still_fresh : (k : ℕ) (d e : List Phrase) → IsFresh k d → Leaves k d e → IsFresh k e
still_fresh k d e fresh step = (step.marks ∙ fresh.0, step.looks ∙ fresh.1)

pub unit_right : (d : List Phrase) (a : Around) (b : Block) → IsFresh (length d) d → (ps : List Phrase) → Leaves (length d) (gathered_block d a b) ps → IsRight ps (length d) b
unfolding gathered_block used
unit_right d a (BlockOf name head declarations body close) fresh ps later =
    let k : ℕ = length d in
    let o : Around = opened (length d) a in
    let d1 : List Phrase = with_own d a name head declarations in
    let d2 : List Phrase = gathered_head d1 o head in
    let d3 : List Phrase = with_declared d a name head declarations in
    let d4 : List Phrase = gathered_elements d3 o body in
    let named = both (head_names k d1 o head) (declarations_names k o d2 declarations) in
    let whole = adds_then (adds_nothing k 0 d d1 (quiet k d a (OfUnit name head declarations) refl refl))
    (adds_then (adds (same_unit k) (named.goes 0))
    (adds_then (elements_add k 0 d3 o body (same_unit k) (declared_grows d a name head declarations)) (adds (same_unit k) (close_goes k (after_statements 0 (statements_of body)) o d4 close)))) in (
      named.names,
      later.looks
          ∙ (whole.looks (marks_of ps k) [] (later.marks ∙ sym (append-nil _)) (ap length fresh.0)
          ∙ (ap (λ x. x ++ (named.names ++ (looked_in_statements (marks_of ps k) k 0 (statements_of body) ++ []))) fresh.1
          ∙ ap (λ x. named.names ++ x) (append-nil (looked_in_statements (marks_of ps k) k 0 (statements_of body))))),
    )

-- numbers of units, and their trees
abbrev pub ArePaired : List Phrase → List ℕ → List Block → Type 0
ArePaired ps [] [] = Unit {0}
ArePaired ps (k ∷ ks) (b ∷ bs) = IsRight ps k b × ArePaired ps ks bs
ArePaired ps [] (b ∷ bs) = ⊥
ArePaired ps (k ∷ ks) [] = ⊥

pub paired_append : (ps : List Phrase) (ks js : List ℕ) (bs cs : List Block) → ArePaired ps ks bs → ArePaired ps js cs → ArePaired ps (ks ++ js) (bs ++ cs)
paired_append ps [] js [] cs first second = second
paired_append ps (k ∷ ks) js (b ∷ bs) cs first second = (first.0, paired_append ps ks js bs cs first.1 second)
paired_append ps [] js (b ∷ bs) cs first second = absurd first
paired_append ps (k ∷ ks) js [] cs first second = absurd first

-- the units among the phrases that are added, where later phrases are none of theirs
pub record Units (d e : List Phrase) (bs : List Block) : Type 0 where
  pub ks : List ℕ
  pub numbers : unit_numbers e ≡ unit_numbers d ++ ks
  pub rights : (ps : List Phrase) → ((k : ℕ) → length d ≤ k → IsFresh k d) → ((k : ℕ) → length d ≤ k → k < length e → Leaves k e ps) → ArePaired ps ks bs

pub no_units : (d : List Phrase) → Units d d []
no_units d = record { ks = []; numbers = sym (append-nil (unit_numbers d)); rights = λ ps fresh later. tt }

-- phrases that are no units, and then units
pub after_others : (d e h : List Phrase) (bs : List Block) → unit_numbers e ≡ unit_numbers d → length d ≤ length e → ((k : ℕ) → length e ≤ k → Leaves k d e) → Units e h bs → Units d h bs
after_others d e h bs same grown out units = record {
  ks = units.ks;
  numbers = units.numbers ∙ ap (λ x. x ++ units.ks) same;
  rights = λ ps fresh later.
      units.rights ps (λ k low. still_fresh k d e (fresh k (omega (arith, low, grown))) (out k low)) (λ k low high. later k (omega (arith, low, grown)) high);
}

-- units, and then others, which leave them alone
pub then_units : (d e h : List Phrase) (bs cs : List Block) → length d ≤ length e → length e ≤ length h → ((k : ℕ) → length e ≤ k → Leaves k d e) → ((k : ℕ) → length d ≤ k → k < length e → Leaves k e h)
    → Units d e bs → Units e h cs → Units d h (bs ++ cs)
then_units d e h bs cs grown more out alone first second = record {
  ks = first.ks ++ second.ks;
  numbers = second.numbers ∙ (ap (λ x. x ++ second.ks) first.numbers ∙ append_assoc (unit_numbers d) first.ks second.ks);
  rights = λ ps fresh later.
      paired_append ps first.ks second.ks bs cs
      (first.rights ps fresh (λ k low high. leaves_then (alone k low high) (later k low (omega (arith, high, more)))))
      (second.rights ps (λ k low. still_fresh k d e (fresh k (omega (arith, low, grown))) (out k low)) (λ k low high. later k (omega (arith, low, grown)) high));
}

pub own_number : (d : List Phrase) (a : Around) (name : Naming) (head : Head) (declarations : List Declaration) → unit_numbers (with_own d a name head declarations) ≡ unit_numbers d ++ (length d ∷ [])
own_number d a name head declarations =
    filter_map-append (λ (p : Phrase). if is_unit p.node then Some p.number else None) d (phrase (length d) a (OfUnit name head declarations) ∷ [])

pub declared_numbers : (d : List Phrase) (a : Around) (name : Naming) (head : Head) (declarations : List Declaration) → unit_numbers (with_declared d a name head declarations) ≡ unit_numbers d ++ (length d ∷ [])
declared_numbers d a name head declarations =
    ((both (head_names 0 (with_own d a name head declarations) (opened (length d) a) head) (declarations_names 0 (opened (length d) a) (gathered_head (with_own d a name head declarations) (opened (length d) a) head) declarations)).goes 0).units
    ∙ own_number d a name head declarations

mutual
  unfolding gathered_block gathered_elements

  pub block_units : (d : List Phrase) (a : Around) (b : Block) → Units d (gathered_block d a b) (units_from b)
  block_units d a (BlockOf name head declarations body close) =
      let o : Around = opened (length d) a in
      let d3 : List Phrase = with_declared d a name head declarations in
      let d4 : List Phrase = gathered_elements d3 o body in
      let inner = elements_units d3 o body (declared_grows d a name head declarations) in
      let grown = block_grows d a (BlockOf name head declarations body close) in
      let named = declared_grows d a name head declarations in
      let closed = closing_grows d d4 a close in
      record {
        ks = length d ∷ inner.ks;
        numbers = (close_goes 0 0 o d4 close).units ∙ (inner.numbers ∙ (ap (λ x. x ++ inner.ks) (declared_numbers d a name head declarations) ∙ append_assoc (unit_numbers d) (length d ∷ []) inner.ks));
        rights = λ ps fresh later. (
          unit_right d a (BlockOf name head declarations body close) (fresh (length d) (le_refl (length d))) ps (later (length d) (le_refl (length d)) grown),
          inner.rights ps
              (λ k low. still_fresh k d d3 (fresh k (omega (arith, low, named))) (declared_leaves k d a name head declarations (apart (length d) k (omega (arith, low, named)))))
              (λ k low high. leaves_then (closing_leaves k d d4 a close (apart (length d) k (omega (arith, low, named)))) (later k (omega (arith, low, named)) (omega (arith, high, closed)))),
        );
      }

  pub elements_units : (d : List Phrase) (a : Around) (x : Elements) → a.home < length d → Units d (gathered_elements d a x) (units_within x)
  elements_units d a NoElements low = no_units d
  elements_units d a (StatementFirst s others) low =
      let e : List Phrase = gathered_statement d a s in
      let grown = (statement_goes 0 0 d a s).grows in
      after_others d e (gathered_elements e a others) (units_within others) (statement_goes 0 0 d a s).units grown
      (λ k from. leaves (apart a.home k (omega (arith, low, grown, from))) (statement_goes k 0 d a s)) (elements_units e a others (omega (arith, low, grown)))
  elements_units d a (BlockFirst b others) low =
      let e : List Phrase = gathered_block d a b in
      let grown = block_grows d a b in
      then_units d e (gathered_elements e a others) (units_from b) (units_within others) (omega (arith, grown)) (elements_grow e a others)
      (λ k from. block_leaves k d a b (λ j at to. apart j k (omega (arith, to, from))))
      (λ k from to. elements_leave k e a others (apart a.home k (omega (arith, low, from))) (λ j at till. apart j k (omega (arith, to, at))))
      (block_units d a b) (elements_units e a others (omega (arith, low, grown)))

-- the block of a template's declarations isn't this unit either
pub around_away : (unit k : ℕ) (a : Around) (head : Head) → (a.home == unit) ≡ false → (k == unit) ≡ false → ((around_template k a head).home == unit) ≡ false
unfolding around_template
around_away unit k a (Program p) outer own = own
around_away unit k a (Compool p) outer own = outer
around_away unit k a (Task p) outer own = own
around_away unit k a (Procedure p inputs outputs mode) outer own = own
around_away unit k a (Function p inputs returns mode) outer own = own

-- phrases are added that are no units and stand in none
pub record Others (a : Around) (d e : List Phrase) : Type 0 where
  pub grows : length d ≤ length e
  pub units : unit_numbers e ≡ unit_numbers d
  pub out : (unit : ℕ) → (a.home == unit) ≡ false → IsBeside unit d e → Leaves unit d e

pub others_then : (a : Around) (d e h : List Phrase) → Others a d e → Others a e h → Others a d h
others_then a d e h first second = record {
  grows = omega (arith, first.grows, second.grows);
  units = second.units ∙ first.units;
  out = λ unit away beside.
      leaves_then (first.out unit away (λ k low high. beside k low (omega (arith, high, second.grows)))) (second.out unit away (λ k low high. beside k (omega (arith, low, first.grows)) high));
}

pub template_others : (a : Around) (d : List Phrase) (t : Template) → Others a d (gathered_template d a t)
unfolding gathered_template used
template_others a d t =
    let o : Around = opened (length d) a in
    let w : Around = around_template (length d) a t.head in
    let d1 : List Phrase = add d a (OfTemplate t.name t.head t.declarations) in
    let d2 : List Phrase = gathered_head d1 o t.head in
    let d3 : List Phrase = gathered_each (gathered_declaration w) d2 t.declarations in
    let first = longer d a (OfTemplate t.name t.head t.declarations) in
    let heads = (head_names 0 d1 o t.head).goes 0 in
    let items = (declarations_names 0 w d2 t.declarations).goes 0 in
    let ends = close_goes 0 0 o d3 t.close in
    record {
      grows = omega (arith, first, heads.grows, items.grows, ends.grows);
      units = ends.units ∙ (items.units ∙ (heads.units ∙ no_unit d a (OfTemplate t.name t.head t.declarations) refl));
      out = λ unit away beside.
          let own : (length d == unit) ≡ false = beside (length d) (le_refl (length d)) (omega (arith, first, heads.grows, items.grows, ends.grows)) in
          leaves_then (quiet unit d a (OfTemplate t.name t.head t.declarations) refl refl)
          (leaves_then (leaves own ((head_names unit d1 o t.head).goes 0))
          (leaves_then (leaves (around_away unit (length d) a t.head away own) ((declarations_names unit w d2 t.declarations).goes 0)) (leaves own (close_goes unit 0 o d3 t.close))));
    }

pub preface_others : (d : List Phrase) (a : Around) (x : Preface) → Others a d (gathered_preface d a x)
unfolding gathered_preface used
preface_others d a (Include p name) = record {
  grows = omega (arith, longer d a (OfInclude name));
  units = no_unit d a (OfInclude name) refl;
  out = λ unit away beside. quiet unit d a (OfInclude name) refl refl;
}
preface_others d a (Templates template) = template_others a d template

pub prefaces_others : (d : List Phrase) (a : Around) (n : ℕ) (xs : List Preface) → Others a d (gathered_prefaces d a n xs)
unfolding gathered_prefaces
prefaces_others d a n [] = record { grows = le_refl (length d); units = refl; out = λ unit away beside. leaves_none unit d }
prefaces_others d a n (x ∷ xs) =
    let first = preface_others d (behind n a) x in
    let rest = prefaces_others (gathered_preface d (behind n a) x) a (suc n) xs in
    others_then a d (gathered_preface d (behind n a) x) (gathered_prefaces (gathered_preface d (behind n a) x) a (suc n) xs) (record { grows = first.grows; units = first.units; out = first.out }) rest

-- what stands before a file's unit
abbrev before_unit : List Phrase → File → List Phrase
before_unit d f = gathered_prefaces (add d (in_file (length d)) (OfFile f.prefaces (name_of_block f.block))) (in_file (length d)) 0 f.prefaces

pub before_others : (d : List Phrase) (f : File) → Others (in_file (length d)) d (before_unit d f)
unfolding used
before_others d f =
    let a : Around = in_file (length d) in
    let n : Node = OfFile f.prefaces (name_of_block f.block) in
    others_then a d (add d a n) (before_unit d f)
    (record { grows = omega (arith, longer d a n); units = no_unit d a n refl; out = λ unit away beside. quiet unit d a n refl refl }) (prefaces_others (add d a n) a 0 f.prefaces)

pub before_longer : (d : List Phrase) (f : File) → length d < length (before_unit d f)
before_longer d f =
    let a : Around = in_file (length d) in
    let n : Node = OfFile f.prefaces (name_of_block f.block) in
    omega (arith, longer d a n, (prefaces_others (add d a n) a 0 f.prefaces).grows)

pub file_grows : (d : List Phrase) (f : File) → length d < length (gathered_file d f)
unfolding gathered_file
file_grows d f = omega (arith, before_longer d f, block_grows (before_unit d f) (behind (length f.prefaces) (in_file (length d))) f.block)

pub file_leaves : (unit : ℕ) (d : List Phrase) (f : File) → IsBeside unit d (gathered_file d f) → Leaves unit d (gathered_file d f)
unfolding gathered_file
file_leaves unit d f beside =
    let begun = before_longer d f in
    let block = block_grows (before_unit d f) (behind (length f.prefaces) (in_file (length d))) f.block in
    leaves_then ((before_others d f).out unit (beside (length d) (le_refl (length d)) (omega (arith, begun, block))) (λ k low high. beside k low (omega (arith, high, block))))
    (block_leaves unit (before_unit d f) (behind (length f.prefaces) (in_file (length d))) f.block (λ k low high. beside k (omega (arith, low, begun)) high))

pub files_grow : (d : List Phrase) (fs : List File) → length d ≤ length (gathered_each gathered_file d fs)
files_grow d [] = le_refl (length d)
files_grow d (f ∷ fs) = omega (arith, file_grows d f, files_grow (gathered_file d f) fs)

pub files_leave : (unit : ℕ) (d : List Phrase) (fs : List File) → IsBeside unit d (gathered_each gathered_file d fs) → Leaves unit d (gathered_each gathered_file d fs)
files_leave unit d [] beside = leaves_none unit d
files_leave unit d (f ∷ fs) beside =
    let grown = file_grows d f in let more = files_grow (gathered_file d f) fs in
    leaves_then (file_leaves unit d f (λ k low high. beside k low (omega (arith, high, more)))) (files_leave unit (gathered_file d f) fs (λ k low high. beside k (omega (arith, low, grown)) high))

pub file_units : (d : List Phrase) (f : File) → Units d (gathered_file d f) (units_from f.block)
unfolding gathered_file
file_units d f =
    let before = before_others d f in
    after_others d (before_unit d f) (gathered_block (before_unit d f) (behind (length f.prefaces) (in_file (length d))) f.block) (units_from f.block) before.units before.grows
    (λ k low. before.out k (apart (length d) k (omega (arith, low, before_longer d f))) (λ j from to. apart j k (omega (arith, to, low))))
    (block_units (before_unit d f) (behind (length f.prefaces) (in_file (length d))) f.block)

pub files_units : (d : List Phrase) (fs : List File) → Units d (gathered_each gathered_file d fs) (flat_map (λ (f : File). units_from f.block) fs)
files_units d [] = no_units d
files_units d (f ∷ fs) =
    let e : List Phrase = gathered_file d f in
    then_units d e (gathered_each gathered_file e fs) (units_from f.block) (flat_map (λ (x : File). units_from x.block) fs) (omega (arith, file_grows d f)) (files_grow e fs)
    (λ k low. file_leaves k d f (λ j from to. apart j k (omega (arith, to, low)))) (λ k low high. files_leave k e fs (λ j from to. apart j k (omega (arith, high, from))))
    (file_units d f) (files_units e fs)

pub bodies_right : (ps : List Phrase) (ks : List ℕ) (bs : List Block) → ArePaired ps ks bs → AllLookRight ps (bodies_from ps ks bs)
bodies_right ps [] [] paired = tt
bodies_right ps [] (b ∷ bs) paired = absurd paired
bodies_right ps (k ∷ ks) [] paired = absurd paired
bodies_right ps (k ∷ ks) (BlockOf name head declarations body close ∷ bs) paired = (paired.0, bodies_right ps ks bs paired.1)

-- the units of a set of files
pub all_right : (files : List File) → AllLookRight (phrases_of files) (bodies_of files (phrases_of files))
unfolding phrases_of
all_right files =
    let ps : List Phrase = gathered_each gathered_file [] files in
    let units = files_units [] files in
    subst (λ ks. AllLookRight ps (bodies_from ps ks (flat_map (λ (f : File). units_from f.block) files))) (sym units.numbers)
    (bodies_right ps units.ks (flat_map (λ (f : File). units_from f.block) files) (units.rights ps (λ k low. (refl, refl)) (λ k low high. leaves_none k ps)))
