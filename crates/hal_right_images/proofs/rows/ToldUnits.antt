-- The phrases of a set of files: each parameter is listed by the head of its unit, and each that a head lists is there; written templates are there, and structures are declared by their units; and the
-- heads of its units.
use Rattle.std.specs.Prelude.{◌≡◌, ◌⊎◌, ℕ, suc, Bool, true, false, List, [], ◌∷◌, ◌++◌, length, map, flat_map, Option, Some, None, slice_get}
use Rattle.std.specs.List.{cons_option}
use Rattle.std.proofs.Common.{refl, sym, ap, subst, ◌∙◌, inl, inr, append_assoc, append-nil}
use Rattle.hal_grammar.specs.Leaves.{Naming}
use Rattle.hal_grammar.specs.Declarations.{Declaration}
use Rattle.hal_grammar.specs.Units.{Returns, NoKind, HasKind, Head, Program, Compool, Task, Procedure, Function, Block, BlockOf, Elements, NoElements, StatementFirst, BlockFirst, Template, Preface, Include, Templates, File}
use Rattle.hal_phrases.specs.declared.around.Around.{Around}
use Rattle.hal_phrases.specs.Surroundings.{in_file, behind, opened}
use Rattle.hal_phrases.specs.Phrases.{Node, Phrase, phrase, add, gathered_each, gathered_any, OfFile, OfInclude, OfTemplate, OfUnit, OfParameter}
use Rattle.hal_phrases.specs.GatheredDeclarations.{gathered_declaration}
use Rattle.hal_phrases.specs.GatheredStatements.{gathered_close, gathered_statement}
use Rattle.hal_phrases.specs.GatheredUnits.{gathered_parameter, gathered_returns, gathered_head, gathered_block, gathered_elements, around_template, gathered_template, gathered_preface, gathered_prefaces, name_of_block, gathered_file, phrases_of}
use Rattle.hal_scope.specs.Rules.{IsAmong}
use Rattle.hal_meaning.specs.Bodies.{units_from, units_within}
use Rattle.hal_fit_calls.specs.Each.{Each}
use Rattle.hal_fit_calls.proofs.Each.{each_append, each_weaker}
use Rattle.hal_right_images.specs.rows.Nested.{head_of}
use Rattle.hal_right_images.proofs.rows.Plain.{is_plain, IsPlain, Adds}
use Rattle.hal_right_images.proofs.rows.Plain as plain
use Rattle.hal_right_images.proofs.rows.PlainDeclarations.{kind_step}
use Rattle.hal_right_images.proofs.rows.PlainStatements.{close_step, statement_step}
use Rattle.hal_right_images.proofs.rows.Told.{Begins, begins_all, begins_on, there, among_first, among_second, names_of, head_in, unit_head, among, HasParameter, HasTemplate, IsToldNode, IsTold, all_told, heads_in, Step, of_plain, then_, no_step}
use Rattle.hal_right_images.proofs.rows.ToldDeclarations.{Declares, declarations_told}

-- a phrase of one of these parameters, which stands so
record OfNames (a : Around) (output : Bool) (names : List Naming) (p : Phrase) : Type 0 where
  name : Naming
  is : p.node ≡ OfParameter name output
  around : p.around ≡ a
  listed : IsAmong name names

-- the parameter of this name is among phrases
record IsThere (a : Around) (output : Bool) (name : Naming) (ps : List Phrase) : Type 0 where
  phrase : Phrase
  among : IsAmong phrase ps
  is : phrase.node ≡ OfParameter name output
  around : phrase.around ≡ a

-- the phrases of parameters are added
record AddsNames (a : Around) (output : Bool) (names : List Naming) (d e : List Phrase) : Type 0 where
  later : List Phrase
  whole : e ≡ d ++ later
  each : Each (OfNames a output names) later
  all : (name : Naming) → IsAmong name names → IsThere a output name later

further : (a : Around) (output : Bool) (name : Naming) (names : List Naming) (p : Phrase) → OfNames a output names p → OfNames a output (name ∷ names) p
further a output name names p one = record { name = one.name; is = one.is; around = one.around; listed = inr one.listed }

parameters_step : (a : Around) (output : Bool) (d : List Phrase) (names : List Naming) → AddsNames a output names d (gathered_each (gathered_parameter a output) d names)
parameters_step a output d [] = record { later = []; whole = sym (append-nil d); each = tt; all = λ name within. absurd within }
parameters_step a output d (name ∷ names) =
    let one : Phrase = phrase (length d) a (OfParameter name output) in
    let rest = parameters_step a output (add d a (OfParameter name output)) names in
    record {
      later = one ∷ rest.later;
      whole = rest.whole ∙ append_assoc d (one ∷ []) rest.later;
      each = (record { name = name; is = refl; around = refl; listed = inl refl }, each_weaker (OfNames a output names) (OfNames a output (name ∷ names)) rest.later rest.each (further a output name names));
      all = λ other within. by one rest other within;
    }
  where
    by : (one : Phrase) (rest : AddsNames a output names (add d a (OfParameter name output)) (gathered_each (gathered_parameter a output) (add d a (OfParameter name output)) names)) (other : Naming)
        → IsAmong other (name ∷ names) → IsThere a output other (phrase (length d) a (OfParameter name output) ∷ rest.later)
    by one rest other (inl same) = record { phrase = phrase (length d) a (OfParameter name output); among = inl refl; is = ap (λ n. OfParameter n output) (sym same); around = refl }
    by one rest other (inr later) =
        let found = rest.all other later in
        record { phrase = found.phrase; among = inr found.among; is = found.is; around = found.around }

-- the phrases of a head are those of its parameters, and plain ones
record IsOfHead (a : Around) (head : Head) (p : Phrase) : Type 0 where
  is : IsPlain p ⊎ ((output : Bool) × OfNames a output (names_of head output) p)

record AddsHead (a : Around) (head : Head) (d e : List Phrase) : Type 0 where
  later : List Phrase
  whole : e ≡ d ++ later
  each : Each (IsOfHead a head) later
  all : (output : Bool) (name : Naming) → IsAmong name (names_of head output) → IsThere a output name later

only_plain : (a : Around) (head : Head) (later : List Phrase) → Each IsPlain later → Each (IsOfHead a head) later
only_plain a head later each = each_weaker IsPlain (IsOfHead a head) later each (λ p is. record { is = inl is })

only_names : (a : Around) (head : Head) (output : Bool) (later : List Phrase) → Each (OfNames a output (names_of head output)) later → Each (IsOfHead a head) later
only_names a head output later each = each_weaker (OfNames a output (names_of head output)) (IsOfHead a head) later each (λ p is. record { is = inr (output, is) })

returns_step : (d : List Phrase) (a : Around) (x : Returns) → Adds d (gathered_returns d a x)
unfolding gathered_returns
returns_step d a NoKind = plain.no_step d
returns_step d a (HasKind kind precision) = kind_step d a kind

none_there : {a : Around} {output : Bool} {name : Naming} {ps : List Phrase} → IsAmong name [] → IsThere a output name ps
none_there within = absurd within

no_names : (d : List Phrase) (a : Around) (head : Head) → ((output : Bool) (name : Naming) → IsAmong name (names_of head output) → ⊥) → AddsHead a head d d
no_names d a head none = record { later = []; whole = sym (append-nil d); each = tt; all = λ output name within. absurd (none output name within) }

none_listed : (head : Head) → names_of head true ≡ [] → names_of head false ≡ [] → (output : Bool) (name : Naming) → IsAmong name (names_of head output) → ⊥
none_listed head outputs inputs true name within = subst (IsAmong name) outputs within
none_listed head outputs inputs false name within = subst (IsAmong name) inputs within

behind_first : {a : Around} {output : Bool} {name : Naming} (xs ys : List Phrase) → IsThere a output name xs → IsThere a output name (xs ++ ys)
behind_first xs ys one = record { phrase = one.phrase; among = among_first one.phrase xs ys one.among; is = one.is; around = one.around }

behind_second : {a : Around} {output : Bool} {name : Naming} (xs ys : List Phrase) → IsThere a output name ys → IsThere a output name (xs ++ ys)
behind_second xs ys one = record { phrase = one.phrase; among = among_second one.phrase xs ys one.among; is = one.is; around = one.around }

head_step : (d : List Phrase) (a : Around) (head : Head) → AddsHead a head d (gathered_head d a head)
unfolding gathered_head
head_step d a (Program p) = no_names d a (Program p) (none_listed (Program p) refl refl)
head_step d a (Compool p) = no_names d a (Compool p) (none_listed (Compool p) refl refl)
head_step d a (Task p) = no_names d a (Task p) (none_listed (Task p) refl refl)
head_step d a (Procedure p inputs outputs mode) =
    let first = parameters_step a false d inputs in
    let second = parameters_step a true (gathered_each (gathered_parameter a false) d inputs) outputs in
    record {
      later = first.later ++ second.later;
      whole = second.whole ∙ (ap (λ x. x ++ second.later) first.whole ∙ append_assoc d first.later second.later);
      each = each_append (IsOfHead a (Procedure p inputs outputs mode)) first.later second.later (only_names a (Procedure p inputs outputs mode) false first.later first.each)
          (only_names a (Procedure p inputs outputs mode) true second.later second.each);
      all = by first second;
    }
  where
    by : (first : AddsNames a false inputs d (gathered_each (gathered_parameter a false) d inputs))
        (second : AddsNames a true outputs (gathered_each (gathered_parameter a false) d inputs) (gathered_each (gathered_parameter a true) (gathered_each (gathered_parameter a false) d inputs) outputs))
        (output : Bool) (name : Naming) → IsAmong name (names_of (Procedure p inputs outputs mode) output) → IsThere a output name (first.later ++ second.later)
    by first second true name within = behind_second first.later second.later (second.all name within)
    by first second false name within = behind_first first.later second.later (first.all name within)
head_step d a (Function p inputs returns mode) =
    let first = parameters_step a false d inputs in
    let second = returns_step (gathered_each (gathered_parameter a false) d inputs) a returns in
    record {
      later = first.later ++ second.later;
      whole = second.whole ∙ (ap (λ x. x ++ second.later) first.whole ∙ append_assoc d first.later second.later);
      each = each_append (IsOfHead a (Function p inputs returns mode)) first.later second.later (only_names a (Function p inputs returns mode) false first.later first.each)
          (only_plain a (Function p inputs returns mode) second.later second.plain);
      all = by first second;
    }
  where
    by : (first : AddsNames a false inputs d (gathered_each (gathered_parameter a false) d inputs)) (second : Adds (gathered_each (gathered_parameter a false) d inputs) (gathered_returns (gathered_each (gathered_parameter a false) d inputs) a returns))
        (output : Bool) (name : Naming) → IsAmong name (names_of (Function p inputs returns mode) output) → IsThere a output name (first.later ++ second.later)
    by first second true name within = absurd within
    by first second false name within = behind_first first.later second.later (first.all name within)

-- where the phrase with a head is there, that of each of its parameters is told
name_told : (ps : List Phrase) (k : ℕ) (a : Around) (head : Head) (p : Phrase) (owner : Phrase) → a.home ≡ k → slice_get ps k ≡ Some owner → head_in owner.node ≡ Some head → (output : Bool)
    → OfNames a output (names_of head output) p → IsTold ps p
name_told ps k a head p owner home owned is output one =
    subst (λ node. IsToldNode ps p node) (sym one.is)
    (record { phrase = owner; there = ap (λ (x : Around). slice_get ps x.home) one.around ∙ (ap (slice_get ps) home ∙ owned); head = head; is = is; listed = one.listed })

head_told : (ps : List Phrase) (k : ℕ) (a : Around) (head : Head) (owner : Phrase) → a.home ≡ k → slice_get ps k ≡ Some owner → head_in owner.node ≡ Some head → (later : List Phrase)
    → Each (IsOfHead a head) later → Each (IsTold ps) later
head_told ps k a head owner home owned is later each = each_weaker (IsOfHead a head) (IsTold ps) later each (λ p one. by p one.is) where
  by : (p : Phrase) → IsPlain p ⊎ ((output : Bool) × OfNames a output (names_of head output) p) → IsTold ps p
  by p (inl plain_so) = (all_told ps (p ∷ []) (plain_so, tt)).0
  by p (inr named) = name_told ps k a head p owner home owned is named.0 named.1

names_headless : (a : Around) (head : Head) (p : Phrase) → IsOfHead a head p → unit_head p.node ≡ None
names_headless a head p one = by one.is where
  by : IsPlain p ⊎ ((output : Bool) × OfNames a output (names_of head output) p) → unit_head p.node ≡ None
  by (inl plain_so) = by_node p.node plain_so where
    by_node : (node : Node) → is_plain node ≡ true → unit_head node ≡ None
    by_node (OfUnit name other declarations) is = absurd (cc)
    by_node other is = refl
  by (inr named) = ap unit_head named.1.is

all_headless : (a : Around) (head : Head) (later : List Phrase) → Each (IsOfHead a head) later → heads_in later ≡ []
all_headless a head [] each = refl
all_headless a head (p ∷ later) each = ap (λ o. cons_option o (heads_in later)) (names_headless a head p each.0) ∙ all_headless a head later each.1

-- each parameter is among all phrases
name_there : (ps e : List Phrase) (k : ℕ) (a : Around) (before later : List Phrase) (output : Bool) (name : Naming) → a.home ≡ k → e ≡ before ++ later → Begins e ps → IsThere a output name later → HasParameter ps k name output
name_there ps e k a before later output name home whole first one =
    record {
      phrase = one.phrase;
      among = subst (IsAmong one.phrase) (sym first.whole) (among_first one.phrase e first.later (subst (IsAmong one.phrase) (sym whole) (among_second one.phrase before later one.among)));
      is = one.is;
      its = ap (λ (x : Around). x.home) one.around ∙ home;
    }

-- a unit and its parameters
unit_begun : (d : List Phrase) (a : Around) (name : Naming) (head : Head) (b : Block) (declarations : List Declaration) → head_of b ≡ head
    → Step (b ∷ []) d (gathered_head (add d a (OfUnit name head declarations)) (opened (length d) a) head)
unit_begun d a name head b declarations same =
    let owner : Phrase = phrase (length d) a (OfUnit name head declarations) in
    let named = head_step (add d a (OfUnit name head declarations)) (opened (length d) a) head in
    let e = gathered_head (add d a (OfUnit name head declarations)) (opened (length d) a) head in
    record {
      later = owner ∷ named.later;
      whole = named.whole ∙ append_assoc d (owner ∷ []) named.later;
      told = λ ps first. (
        (λ output n within. name_there ps e (length d) (opened (length d) a) (add d a (OfUnit name head declarations)) named.later output n refl named.whole first (named.all output n within)),
        head_told ps (length d) (opened (length d) a) head owner refl (there ps d a (OfUnit name head declarations) (begins_on (add d a (OfUnit name head declarations)) e ps named.later named.whole first)) refl named.later named.each,
      );
      heads = ap (λ l. head ∷ l) (all_headless (opened (length d) a) head named.later named.each) ∙ ap (λ h. h ∷ []) (sym same);
    }

-- a template and its parameters
template_begun : (d : List Phrase) (a : Around) (name : Naming) (head : Head) (declarations : List Declaration) → Step [] d (gathered_head (add d a (OfTemplate name head declarations)) (opened (length d) a) head)
template_begun d a name head declarations =
    let owner : Phrase = phrase (length d) a (OfTemplate name head declarations) in
    let named = head_step (add d a (OfTemplate name head declarations)) (opened (length d) a) head in
    let e = gathered_head (add d a (OfTemplate name head declarations)) (opened (length d) a) head in
    record {
      later = owner ∷ named.later;
      whole = named.whole ∙ append_assoc d (owner ∷ []) named.later;
      told = λ ps first. (
        tt,
        head_told ps (length d) (opened (length d) a) head owner refl (there ps d a (OfTemplate name head declarations) (begins_on (add d a (OfTemplate name head declarations)) e ps named.later named.whole first)) refl named.later named.each,
      );
      heads = all_headless (opened (length d) a) head named.later named.each;
    }

close_told : (d e : List Phrase) (a : Around) (close : Option Naming) → Step [] e (gathered_any (gathered_close (opened (length d) a)) e close)
close_told d e a close = of_plain (close_step (opened (length d) a) e close)

-- the same phrases of the same units
of_units : {us vs : List Block} {d e : List Phrase} → us ≡ vs → Step us d e → Step vs d e
of_units {d = d} {e = e} same step = subst (λ us. Step us d e) same step

-- a unit declares what it declares
unit_declares : (d : List Phrase) (a : Around) (name : Naming) (head : Head) (declarations : List Declaration)
    → Declares (opened (length d) a) (gathered_head (add d a (OfUnit name head declarations)) (opened (length d) a) head) declarations
unit_declares d a name head declarations ps begins q unit other own at is x listed =
    let named = head_step (add d a (OfUnit name head declarations)) (opened (length d) a) head in
    let here = there ps d a (OfUnit name head declarations) (begins_on (add d a (OfUnit name head declarations)) (gathered_head (add d a (OfUnit name head declarations)) (opened (length d) a) head) ps named.later named.whole begins) in
    let one : phrase (length d) a (OfUnit name head declarations) ≡ q = let both : Some (phrase (length d) a (OfUnit name head declarations)) ≡ Some q = sym here ∙ at in cc in
    let node : OfUnit name head declarations ≡ OfUnit unit other own = ap (λ (p : Phrase). p.node) one ∙ is in
    subst (IsAmong x) (let same : declarations ≡ own = cc in same) listed

mutual
  unfolding gathered_block gathered_elements

  block_told : (d : List Phrase) (a : Around) (b : Block) → Step (units_from b) d (gathered_block d a b)
  block_told d a (BlockOf name head declarations body close) =
      of_units (ap (λ us. BlockOf name head declarations body close ∷ us) (append-nil (units_within body)))
      (then_ (unit_begun d a name head (BlockOf name head declarations body close) declarations refl)
      (then_ (declarations_told (opened (length d) a) (gathered_head (add d a (OfUnit name head declarations)) (opened (length d) a) head) declarations refl (unit_declares d a name head declarations))
      (then_ (elements_told (gathered_each (gathered_declaration (opened (length d) a)) (gathered_head (add d a (OfUnit name head declarations)) (opened (length d) a) head) declarations) (opened (length d) a) body)
      (close_told d (gathered_elements (gathered_each (gathered_declaration (opened (length d) a)) (gathered_head (add d a (OfUnit name head declarations)) (opened (length d) a) head) declarations) (opened (length d) a) body) a close))))

  elements_told : (d : List Phrase) (a : Around) (x : Elements) → Step (units_within x) d (gathered_elements d a x)
  elements_told d a NoElements = no_step d
  elements_told d a (StatementFirst statement others) = then_ (of_plain (statement_step d a statement)) (elements_told (gathered_statement d a statement) a others)
  elements_told d a (BlockFirst block others) = then_ (block_told d a block) (elements_told (gathered_block d a block) a others)

-- no unit is the home of what stands so
abbrev NoUnit : Around → List Phrase → Type 0
NoUnit a d = (ps : List Phrase) → Begins d ps → (q : Phrase) (unit : Naming) (head : Head) (declarations : List Declaration) → slice_get ps a.home ≡ Some q → q.node ≡ OfUnit unit head declarations → ⊥

-- behind more phrases too
no_unit_on : (a : Around) {us : List Block} {d e : List Phrase} → Step us d e → NoUnit a d → NoUnit a e
no_unit_on a {d = d} {e = e} step none ps begins = none ps (begins_on d e ps step.later step.whole begins)

-- one that is no unit is none
no_unit_at : (d : List Phrase) (a o : Around) (n : Node) → o.home ≡ length d → unit_head n ≡ None → NoUnit o (add d a n)
no_unit_at d a o n home isnt ps begins q unit head declarations at is =
    let here : slice_get ps o.home ≡ Some (phrase (length d) a n) = ap (slice_get ps) home ∙ there ps d a n begins in
    let one : phrase (length d) a n ≡ q = let both : Some (phrase (length d) a n) ≡ Some q = sym here ∙ at in cc in
    let so : None ≡ Some head = sym isnt ∙ (ap (λ (p : Phrase). unit_head p.node) one ∙ ap unit_head is) in
    absurd (cc)

-- nor does one declare anything there
none_declares : (a : Around) (d : List Phrase) (xs : List Declaration) → NoUnit a d → Declares a d xs
none_declares a d xs none ps begins q unit head declarations at is x listed = absurd (none ps begins q unit head declarations at is)

-- where the declarations of a template stand
template_direct : (k : ℕ) (a : Around) (head : Head) → a.block ≡ a.home → (around_template k a head).block ≡ (around_template k a head).home
unfolding around_template
template_direct k a (Program p) direct = refl
template_direct k a (Compool p) direct = direct
template_direct k a (Task p) direct = refl
template_direct k a (Procedure p inputs outputs mode) direct = refl
template_direct k a (Function p inputs returns mode) direct = refl

template_no_unit : (d : List Phrase) (a : Around) (name : Naming) (head own : Head) (declarations : List Declaration) → NoUnit a d
    → NoUnit (around_template (length d) a head) (gathered_head (add d a (OfTemplate name own declarations)) (opened (length d) a) own)
unfolding around_template
template_no_unit d a name head own declarations none = by head where
  begun : Step [] d (gathered_head (add d a (OfTemplate name own declarations)) (opened (length d) a) own)
  begun = template_begun d a name own declarations

  itself : NoUnit (opened (length d) a) (gathered_head (add d a (OfTemplate name own declarations)) (opened (length d) a) own)
  itself ps begins =
      let named = head_step (add d a (OfTemplate name own declarations)) (opened (length d) a) own in
      no_unit_at d a (opened (length d) a) (OfTemplate name own declarations) refl refl ps
      (begins_on (add d a (OfTemplate name own declarations)) (gathered_head (add d a (OfTemplate name own declarations)) (opened (length d) a) own) ps named.later named.whole begins)

  by : (h : Head) → NoUnit (around_template (length d) a h) (gathered_head (add d a (OfTemplate name own declarations)) (opened (length d) a) own)
  by (Program p) = itself
  by (Compool p) = no_unit_on a begun none
  by (Task p) = itself
  by (Procedure p inputs outputs mode) = itself
  by (Function p inputs returns mode) = itself

-- the declarations of a template, and what stands behind them
template_declared : (d : List Phrase) (a : Around) (t : Template) → a.block ≡ a.home → NoUnit a d
    → Step [] (gathered_head (add d a (OfTemplate t.name t.head t.declarations)) (opened (length d) a) t.head) (gathered_template d a t)
unfolding gathered_template
template_declared d a t direct none =
    then_ (declarations_told (around_template (length d) a t.head) (gathered_head (add d a (OfTemplate t.name t.head t.declarations)) (opened (length d) a) t.head) t.declarations
    (template_direct (length d) a t.head direct) (none_declares (around_template (length d) a t.head) (gathered_head (add d a (OfTemplate t.name t.head t.declarations)) (opened (length d) a) t.head) t.declarations (template_no_unit d a t.name t.head t.head t.declarations none)))
    (close_told d (gathered_each (gathered_declaration (around_template (length d) a t.head)) (gathered_head (add d a (OfTemplate t.name t.head t.declarations)) (opened (length d) a) t.head) t.declarations) a t.close)

template_told : (d : List Phrase) (a : Around) (t : Template) → a.block ≡ a.home → NoUnit a d → Step [] d (gathered_template d a t)
template_told d a t direct none = then_ (template_begun d a t.name t.head t.declarations) (template_declared d a t direct none)

-- a template is there
template_there : (d : List Phrase) (a : Around) (t : Template) → a.block ≡ a.home → NoUnit a d → (ps : List Phrase) → Begins (gathered_template d a t) ps → HasTemplate ps a.home t
template_there d a t direct none ps begins =
    let node = OfTemplate t.name t.head t.declarations in
    let named = head_step (add d a node) (opened (length d) a) t.head in
    let declared = template_declared d a t direct none in
    let e = gathered_head (add d a node) (opened (length d) a) t.head in
    record {
      phrase = phrase (length d) a node;
      among = among ps d a node (begins_on (add d a node) e ps named.later named.whole (begins_on e (gathered_template d a t) ps declared.later declared.whole begins));
      is = refl;
      its = refl;
    }

preface_told : (d : List Phrase) (a : Around) (x : Preface) → a.block ≡ a.home → NoUnit a d → Step [] d (gathered_preface d a x)
unfolding gathered_preface
preface_told d a (Include p name) direct none = of_plain (plain.one d a (OfInclude name) refl)
preface_told d a (Templates template) direct none = template_told d a template direct none

prefaces_told : (d : List Phrase) (a : Around) (n : ℕ) (xs : List Preface) → a.block ≡ a.home → NoUnit a d → Step [] d (gathered_prefaces d a n xs)
unfolding gathered_prefaces
prefaces_told d a n [] direct none = no_step d
prefaces_told d a n (x ∷ xs) direct none =
    let first = preface_told d (behind n a) x direct none in
    then_ first (prefaces_told (gathered_preface d (behind n a) x) a (suc n) xs direct (no_unit_on a first none))

-- and so is each before a unit
prefaces_there : (d : List Phrase) (a : Around) (n : ℕ) (xs : List Preface) → a.block ≡ a.home → NoUnit a d → (ps : List Phrase) → Begins (gathered_prefaces d a n xs) ps → (t : Template)
    → IsAmong (Templates t) xs → HasTemplate ps a.home t
unfolding gathered_prefaces gathered_preface
prefaces_there d a n [] direct none ps begins t within = absurd within
prefaces_there d a n (x ∷ xs) direct none ps begins t (inr later) =
    let first = preface_told d (behind n a) x direct none in prefaces_there (gathered_preface d (behind n a) x) a (suc n) xs direct (no_unit_on a first none) ps begins t later
prefaces_there d a n (Include p name ∷ xs) direct none ps begins t (inl same) = absurd (cc)
prefaces_there d a n (Templates own ∷ xs) direct none ps begins t (inl same) =
    let first = template_told d (behind n a) own direct none in
    let rest = prefaces_told (gathered_template d (behind n a) own) a (suc n) xs direct (no_unit_on a first none) in
    subst (HasTemplate ps a.home) (let one : own ≡ t = cc in one)
    (template_there d (behind n a) own direct none ps (begins_on (gathered_template d (behind n a) own) (gathered_prefaces (gathered_template d (behind n a) own) a (suc n) xs) ps rest.later rest.whole begins))

-- a file and what stands before its unit
file_begun : (d : List Phrase) (prefaces : List Preface) (name : Naming) → Step [] d (gathered_prefaces (add d (in_file (length d)) (OfFile prefaces name)) (in_file (length d)) 0 prefaces)
file_begun d prefaces name =
    let a : Around = in_file (length d) in
    let none = no_unit_at d a a (OfFile prefaces name) refl refl in
    let rest = prefaces_told (add d a (OfFile prefaces name)) a 0 prefaces refl none in
    record {
      later = phrase (length d) a (OfFile prefaces name) ∷ rest.later;
      whole = rest.whole ∙ append_assoc d (phrase (length d) a (OfFile prefaces name) ∷ []) rest.later;
      told = λ ps begins. (prefaces_there (add d a (OfFile prefaces name)) a 0 prefaces refl none ps begins, rest.told ps begins);
      heads = rest.heads;
    }

file_told : (d : List Phrase) (f : File) → Step (units_from f.block) d (gathered_file d f)
unfolding gathered_file
file_told d f =
    let a : Around = in_file (length d) in
    then_ (file_begun d f.prefaces (name_of_block f.block)) (block_told (gathered_prefaces (add d a (OfFile f.prefaces (name_of_block f.block))) a 0 f.prefaces) (behind (length f.prefaces) a) f.block)

files_told : (d : List Phrase) (files : List File) → Step (flat_map (λ (f : File). units_from f.block) files) d (gathered_each gathered_file d files)
files_told d [] = no_step d
files_told d (f ∷ files) = then_ (file_told d f) (files_told (gathered_file d f) files)

-- those of a set
pub set_told : (files : List File) → Each (IsTold (phrases_of files)) (phrases_of files)
unfolding phrases_of
set_told files =
    let all = files_told [] files in
    subst (Each (IsTold (gathered_each gathered_file [] files))) (sym all.whole) (all.told (gathered_each gathered_file [] files) (begins_all (gathered_each gathered_file [] files)))

pub set_heads : (files : List File) → heads_in (phrases_of files) ≡ map head_of (flat_map (λ (f : File). units_from f.block) files)
unfolding phrases_of
set_heads files =
    let all = files_told [] files in
    ap heads_in all.whole ∙ all.heads
