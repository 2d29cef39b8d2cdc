-- Each part of a set stands behind what has it, and each structure stands before its parts, which stand together.
use Rattle.std.proofs.Common.{◌≡◌, ◌≤◌, ◌<◌, ◌⊎◌, ℕ, suc, Bool, true, false, List, [], ◌∷◌, ◌++◌, length, Option, Some, None, refl, sym, ap, ◌∙◌, subst, inl, inr, arith}
use Rattle.hal_grammar.specs.Leaves.{Naming}
use Rattle.hal_grammar.specs.Declarations.{Attribute, Declared, Part, Declaration, Declare, Structure}
use Rattle.hal_grammar.specs.Units.{Returns, NoKind, HasKind, Head, Program, Compool, Task, Procedure, Function, Block, BlockOf, Elements, NoElements, StatementFirst, BlockFirst, Template, Preface, Include, Templates, File}
use Rattle.hal_phrases.specs.declared.around.Around.{Around}
use Rattle.hal_phrases.specs.Surroundings.{in_file, behind, opened}
use Rattle.hal_phrases.specs.Phrases.{Node, Phrase, phrase, add, gathered_each, OfFile, OfInclude, OfTemplate, OfUnit, OfDeclare, OfItem, OfStructure}
use Rattle.hal_phrases.specs.GatheredExpressions.{below}
use Rattle.hal_phrases.specs.GatheredDeclarations.{still_open, gathered_item, gathered_declaration}
use Rattle.hal_phrases.specs.GatheredStatements.{gathered_statement}
use Rattle.hal_phrases.specs.GatheredUnits.{gathered_parameter, gathered_returns, gathered_head, gathered_block, gathered_elements, around_template, gathered_template, gathered_preface, gathered_prefaces, name_of_block, gathered_file, phrases_of}
use Rattle.hal_scope.specs.Rules.{IsAmong}
use Rattle.hal_fit_calls.specs.Each.{Each}
use Rattle.hal_fit_rules.specs.Begun.{AreFirst}
use Rattle.hal_fit_rules.proofs.Beginning as begun
use Rattle.hal_fit_rules.proofs.BegunDeclarations.{parts_first}
use Rattle.hal_fit_parts.proofs.Plain as plainly
use Rattle.hal_fit_parts.proofs.Plain.{is_plain, IsPlain, Adds, then_, one, each}
use Rattle.hal_fit_parts.proofs.PlainDeclarations.{attributes_step, kind_step}
use Rattle.hal_fit_parts.proofs.PlainStatements.{close_step, statement_step}
use Rattle.hal_fit_parts.proofs.Belonging.{is_part, has_parts, bears, Belongs, Region, region_of, OpensFor, plain_no_part, longer, one_longer, Grown, Inside, inside_belongs, parts_grown}

-- phrases of heads and of names that are declared are no structures or parts
parameters_step : (a : Around) (output : Bool) (d : List Phrase) (xs : List Naming) → Adds d (gathered_each (gathered_parameter a output) d xs)
parameters_step a output d xs = each (gathered_parameter a output) (λ e x. one e a _ refl) d xs

returns_step : (d : List Phrase) (a : Around) (x : Returns) → Adds d (gathered_returns d a x)
unfolding gathered_returns
returns_step d a NoKind = plainly.no_step d
returns_step d a (HasKind kind precision) = kind_step d a kind

pub head_step : (d : List Phrase) (a : Around) (x : Head) → Adds d (gathered_head d a x)
unfolding gathered_head
head_step d a (Program p) = plainly.no_step d
head_step d a (Compool p) = plainly.no_step d
head_step d a (Task p) = plainly.no_step d
head_step d a (Procedure p inputs outputs mode) = then_ (parameters_step a _ d inputs) (parameters_step a _ _ outputs)
head_step d a (Function p inputs returns mode) = then_ (parameters_step a _ d inputs) (returns_step _ a returns)

item_step : (a : Around) (common : List Attribute) (d : List Phrase) (item : Declared) → Adds d (gathered_item a common d item)
unfolding gathered_item
item_step a common d item = then_ (one d a (OfItem common item) refl) (attributes_step (below d a) _ item.attributes)

-- where a phrase stands among two lists
pub among_either : (p : Phrase) (d later : List Phrase) → IsAmong p (d ++ later) → IsAmong p d ⊎ IsAmong p later
among_either p [] later within = inr within
among_either p (x ∷ d) later (inl same) = inl (inl same)
among_either p (x ∷ d) later (inr rest) = by (among_either p d later rest) where
  by : IsAmong p d ⊎ IsAmong p later → IsAmong p (x ∷ d) ⊎ IsAmong p later
  by (inl before) = inl (inr before)
  by (inr after) = inr after

pub each_among : (P : Phrase → Type 0) (xs : List Phrase) → Each P xs → (p : Phrase) → IsAmong p xs → P p
each_among P [] all p within = absurd within
each_among P (x ∷ xs) all p (inl same) = subst P (sym same) all.0
each_among P (x ∷ xs) all p (inr later) = each_among P xs all.1 p later

plain_no_structure : (n : Node) (name : Naming) (parts : List Part) → is_plain n ≡ true → n ≡ OfStructure name parts → ⊥
plain_no_structure n name parts plain is = let other = sym plain ∙ ap is_plain is in cc

part_no_structure : (n : Node) (name : Naming) (parts : List Part) → is_part n ≡ true → n ≡ OfStructure name parts → ⊥
part_no_structure n name parts part is = let other = sym part ∙ ap is_part is in cc

module _ (ps : List Phrase) where
  farther : (low high : ℕ) → low ≤ high → (q : Phrase) → Belongs ps high q → Belongs ps low q
  farther low high less q belongs part = let own = belongs part in record { from = omega (arith, less, own.from); before = own.before; borne = own.borne }

  plain_belongs : (low : ℕ) (q : Phrase) → IsPlain q → Belongs ps low q
  plain_belongs low q plain part = plain_no_part q.node plain part

  -- phrases are added, of which each part belongs to another one of them, and each structure has its region
  record Steps (d e : List Phrase) : Type 0 where
    first : AreFirst d e
    parts : AreFirst e ps → (q : Phrase) → IsAmong q e → IsAmong q d ⊎ Belongs ps (length d) q
    regions : AreFirst e ps → (p : Phrase) (name : Naming) (own : List Part) → IsAmong p e → p.node ≡ OfStructure name own → IsAmong p d ⊎ Region ps e p name own

  nothing : (d : List Phrase) → Steps d d
  nothing d = record { first = begun.no_step d; parts = λ whole q within. inl within; regions = λ whole p name own within is. inl within }

  -- parts of later steps are farther behind
  more_parts : (low : ℕ) (d e f : List Phrase) → low ≤ length e → Steps e f → AreFirst f ps → (q : Phrase) → ((q : Phrase) → IsAmong q e → IsAmong q d ⊎ Belongs ps low q) → IsAmong q e ⊎ Belongs ps (length e) q
      → IsAmong q d ⊎ Belongs ps low q
  more_parts low d e f less second whole q before (inl within) = before q within
  more_parts low d e f less second whole q before (inr belongs) = inr (farther low (length e) less q belongs)

  -- a region stays one before other phrases
  kept : (e f : List Phrase) (second : Steps e f) → AreFirst f ps → (p : Phrase) (name : Naming) (own : List Part) → Region ps e p name own → Region ps f p name own
  kept e f second whole p name own region =
      let all : List Phrase = region_of region.before region.around name own in
      record {
        before = region.before;
        around = region.around;
        is = region.is;
        begun = begun.then_ region.begun second.first;
        later = λ q within. more_parts (length all) all e f (longer region.begun) second whole q region.later (second.parts whole q within);
      }

  more_regions : (d e f : List Phrase) (first : Steps d e) (second : Steps e f) → AreFirst f ps → (p : Phrase) (name : Naming) (own : List Part) → p.node ≡ OfStructure name own
      → IsAmong p e ⊎ Region ps f p name own → IsAmong p d ⊎ Region ps f p name own
  more_regions d e f first second whole p name own is (inr region) = inr region
  more_regions d e f first second whole p name own is (inl within) = by (first.regions (begun.then_ second.first whole) p name own within is) where
    by : IsAmong p d ⊎ Region ps e p name own → IsAmong p d ⊎ Region ps f p name own
    by (inl before) = inl before
    by (inr region) = inr (kept e f second whole p name own region)

  more : {d e f : List Phrase} → Steps d e → Steps e f → Steps d f
  more {d = d} {e = e} {f = f} first second = record {
    first = begun.then_ first.first second.first;
    parts = λ whole q within. more_parts (length d) d e f (longer first.first) second whole q (first.parts (begun.then_ second.first whole)) (second.parts whole q within);
    regions = λ whole p name own within is. more_regions d e f first second whole p name own is (second.regions whole p name own within is);
  }

  each_more : {X : Type 0} (step : List Phrase → X → List Phrase) → ((d : List Phrase) (x : X) → Steps d (step d x)) → (d : List Phrase) (xs : List X) → Steps d (gathered_each step d xs)
  each_more step steps d [] = nothing d
  each_more step steps d (x ∷ xs) = more (steps d x) (each_more step steps (step d x) xs)

  -- phrases that are no structures or parts
  plain : {d e : List Phrase} → Adds d e → Steps d e
  plain {d = d} {e = e} adds = record {
    first = record { later = adds.later; whole = adds.whole };
    parts = λ whole q within. part q (among_either q d adds.later (subst (λ (xs : List Phrase). IsAmong q xs) adds.whole within));
    regions = λ whole p name own within is. region p name own is (among_either p d adds.later (subst (λ (xs : List Phrase). IsAmong p xs) adds.whole within));
  } where
    part : (q : Phrase) → IsAmong q d ⊎ IsAmong q adds.later → IsAmong q d ⊎ Belongs ps (length d) q
    part q (inl before) = inl before
    part q (inr after) = inr (plain_belongs (length d) q (each_among IsPlain adds.later adds.plain q after))

    region : (p : Phrase) (name : Naming) (own : List Part) → p.node ≡ OfStructure name own → IsAmong p d ⊎ IsAmong p adds.later → IsAmong p d ⊎ Region ps e p name own
    region p name own is (inl before) = inl before
    region p name own is (inr after) = absurd (plain_no_structure p.node name own (each_among IsPlain adds.later adds.plain p after) is)

  single : (d : List Phrase) (a : Around) (n : Node) → is_plain n ≡ true → Steps d (add d a n)
  single d a n is = plain (one d a n is)

  no_opens : (P : ℕ → Type 0) (parts : List Part) → OpensFor P [] parts
  unfolding still_open
  no_opens P [] = tt
  no_opens P (x ∷ xs) = tt

  -- the parts of a structure
  parts_after : (d : List Phrase) (a : Around) (name : Naming) (parts : List Part) → AreFirst (region_of d a name parts) ps → Grown ps (length d) (add d a (OfStructure name parts)) (region_of d a name parts)
  parts_after d a name parts whole =
      let there = begun.there ps d a (OfStructure name parts) (begun.then_ (parts_first (below d a) [] (add d a (OfStructure name parts)) parts) whole) in
      let longer_by_one = one_longer d a (OfStructure name parts) in
      parts_grown ps (length d) (below d a) [] (add d a (OfStructure name parts)) parts refl
      (ap (λ (o : Option Phrase). elim o [ None ↦ false | Some r ↦ has_parts r.node ]) there)
      (omega (arith, longer_by_one)) (no_opens (λ m. (length d ≤ m) × ((m < length (add d a (OfStructure name parts))) × (bears ps m ≡ true))) parts) whole

  -- a phrase up to the end of a structure
  among_region : (d : List Phrase) (a : Around) (name : Naming) (parts : List Part) → AreFirst (region_of d a name parts) ps → (q : Phrase) → IsAmong q (region_of d a name parts)
      → IsAmong q d ⊎ ((q ≡ phrase (length d) a (OfStructure name parts)) ⊎ Inside ps (length d) q)
  among_region d a name parts whole q within = by (among_either q (add d a (OfStructure name parts)) grown.later (subst (λ (xs : List Phrase). IsAmong q xs) grown.whole within)) where
    grown : Grown ps (length d) (add d a (OfStructure name parts)) (region_of d a name parts)
    grown = parts_after d a name parts whole

    first : IsAmong q d ⊎ IsAmong q (phrase (length d) a (OfStructure name parts) ∷ []) → IsAmong q d ⊎ ((q ≡ phrase (length d) a (OfStructure name parts)) ⊎ Inside ps (length d) q)
    first (inl before) = inl before
    first (inr (inl same)) = inr (inl same)
    first (inr (inr none)) = absurd none

    by : IsAmong q (add d a (OfStructure name parts)) ⊎ IsAmong q grown.later → IsAmong q d ⊎ ((q ≡ phrase (length d) a (OfStructure name parts)) ⊎ Inside ps (length d) q)
    by (inl before) = first (among_either q d (phrase (length d) a (OfStructure name parts) ∷ []) before)
    by (inr after) = inr (inr (each_among (Inside ps (length d)) grown.later grown.each q after))

  structure_steps : (d : List Phrase) (a : Around) (name : Naming) (parts : List Part) → Steps d (region_of d a name parts)
  structure_steps d a name parts = record {
    first = begun.then_ (begun.one d a (OfStructure name parts)) (parts_first (below d a) [] (add d a (OfStructure name parts)) parts);
    parts = λ whole q within. part q (among_region d a name parts whole q within);
    regions = λ whole p other own within is. region p other own is (among_region d a name parts whole p within);
  } where
    part : (q : Phrase) → IsAmong q d ⊎ ((q ≡ phrase (length d) a (OfStructure name parts)) ⊎ Inside ps (length d) q) → IsAmong q d ⊎ Belongs ps (length d) q
    part q (inl before) = inl before
    part q (inr (inl same)) = inr (λ is. absurd (let other = sym is ∙ ap (λ (x : Phrase). is_part x.node) same in cc))
    part q (inr (inr inside)) = inr (inside_belongs ps (length d) q inside)

    itself : (other : Naming) (own : List Part) (p : Phrase) → p ≡ phrase (length d) a (OfStructure name parts) → p.node ≡ OfStructure other own → (name ≡ other) × (parts ≡ own)
    itself other own p same is = let whole : OfStructure name parts ≡ OfStructure other own = sym (ap (λ (x : Phrase). x.node) same) ∙ is in (cc, cc)

    region : (p : Phrase) (other : Naming) (own : List Part) → p.node ≡ OfStructure other own → IsAmong p d ⊎ ((p ≡ phrase (length d) a (OfStructure name parts)) ⊎ Inside ps (length d) p)
        → IsAmong p d ⊎ Region ps (region_of d a name parts) p other own
    region p other own is (inl before) = inl before
    region p other own is (inr (inl same)) =
        let both = itself other own p same is in
        inr (subst (λ (x : Naming). Region ps (region_of d a name parts) p x own) both.0 (subst (λ (xs : List Part). Region ps (region_of d a name parts) p name xs) both.1 (record {
          before = d;
          around = a;
          is = same;
          begun = begun.no_step (region_of d a name parts);
          later = λ q within. inl within;
        })))
    region p other own is (inr (inr (inl none))) = absurd (plain_no_structure p.node other own none is)
    region p other own is (inr (inr (inr part_))) = absurd (part_no_structure p.node other own part_.0 is)

  declaration_steps : (a : Around) (d : List Phrase) (x : Declaration) → Steps d (gathered_declaration a d x)
  unfolding gathered_declaration
  declaration_steps a d (Declare p common items) =
      plain (then_ (one d a (OfDeclare common) refl) (then_ (attributes_step (below d a) _ common) (each (gathered_item (below d a) common) (item_step (below d a) common) _ items)))
  declaration_steps a d (Structure p name parts) = structure_steps d a name parts

  declarations_steps : (a : Around) (d : List Phrase) (xs : List Declaration) → Steps d (gathered_each (gathered_declaration a) d xs)
  declarations_steps a d xs = each_more (gathered_declaration a) (declaration_steps a) d xs

  mutual
    unfolding gathered_block gathered_elements

    block_steps : (d : List Phrase) (a : Around) (b : Block) → Steps d (gathered_block d a b)
    block_steps d a (BlockOf name head declarations body close) =
        more (single d a (OfUnit name head declarations) refl) (more (plain (head_step _ (opened (length d) a) head))
        (more (declarations_steps (opened (length d) a) _ declarations) (more (elements_steps _ (opened (length d) a) body) (plain (close_step (opened (length d) a) _ close)))))

    elements_steps : (d : List Phrase) (a : Around) (x : Elements) → Steps d (gathered_elements d a x)
    elements_steps d a NoElements = nothing d
    elements_steps d a (StatementFirst s others) = more (plain (statement_step d a s)) (elements_steps (gathered_statement d a s) a others)
    elements_steps d a (BlockFirst b others) = more (block_steps d a b) (elements_steps (gathered_block d a b) a others)

  template_steps : (d : List Phrase) (a : Around) (t : Template) → Steps d (gathered_template d a t)
  unfolding gathered_template
  template_steps d a t =
      more (single d a (OfTemplate t.name t.head t.declarations) refl) (more (plain (head_step _ (opened (length d) a) t.head))
      (more (declarations_steps (around_template (length d) a t.head) _ t.declarations) (plain (close_step (opened (length d) a) _ t.close))))

  preface_steps : (d : List Phrase) (a : Around) (x : Preface) → Steps d (gathered_preface d a x)
  unfolding gathered_preface
  preface_steps d a (Include p name) = single d a (OfInclude name) refl
  preface_steps d a (Templates template) = template_steps d a template

  prefaces_steps : (d : List Phrase) (a : Around) (n : ℕ) (xs : List Preface) → Steps d (gathered_prefaces d a n xs)
  unfolding gathered_prefaces
  prefaces_steps d a n [] = nothing d
  prefaces_steps d a n (x ∷ xs) = more (preface_steps d (behind n a) x) (prefaces_steps (gathered_preface d (behind n a) x) a (suc n) xs)

  file_steps : (d : List Phrase) (f : File) → Steps d (gathered_file d f)
  unfolding gathered_file
  file_steps d f =
      more (single d (in_file (length d)) (OfFile f.prefaces (name_of_block f.block)) refl)
      (more (prefaces_steps _ (in_file (length d)) 0 f.prefaces) (block_steps _ (behind (length f.prefaces) (in_file (length d))) f.block))

-- it is so of all phrases of a set
pub record AreStanding (ps : List Phrase) : Type 0 where
  pub parts : (q : Phrase) → IsAmong q ps → Belongs ps 0 q
  pub regions : (p : Phrase) (name : Naming) (own : List Part) → IsAmong p ps → p.node ≡ OfStructure name own → Region ps ps p name own

pub parts_stand : (files : List File) → AreStanding (phrases_of files)
unfolding phrases_of
parts_stand files = record { parts = λ q within. part q (all.parts (begun.no_step (phrases_of files)) q within); regions = λ p name own within is. region p name own (all.regions (begun.no_step (phrases_of files)) p name own within is) } where
  all : Steps (gathered_each gathered_file [] files) [] (gathered_each gathered_file [] files)
  all = each_more (gathered_each gathered_file [] files) gathered_file (file_steps (gathered_each gathered_file [] files)) [] files

  part : (q : Phrase) → IsAmong q [] ⊎ Belongs (phrases_of files) 0 q → Belongs (phrases_of files) 0 q
  part q (inl none) = absurd none
  part q (inr belongs) = belongs

  region : (p : Phrase) (name : Naming) (own : List Part) → IsAmong p [] ⊎ Region (phrases_of files) (phrases_of files) p name own → Region (phrases_of files) (phrases_of files) p name own
  region p name own (inl none) = absurd none
  region p name own (inr there) = there
