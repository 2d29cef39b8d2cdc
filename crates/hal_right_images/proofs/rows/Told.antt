-- What the phrases of files, units, templates, parameters, items and structures say of each other.
use Rattle.std.specs.Prelude.{◌≡◌, ℕ, Bool, true, false, List, [], ◌∷◌, ◌++◌, length, map, filter_map, Option, Some, None, slice_get}
use Rattle.std.specs.List.{cons_option}
use Rattle.std.proofs.Common.{refl, sym, ap, subst, ◌∙◌, inl, inr, append_assoc, append-nil}
use Rattle.std.proofs.lemmas.List.{map-append}
use Rattle.std.proofs.lemmas.List.Elements.{filter_map-append}
use Rattle.hal_base.specs.declared.refusal.Place.{Place}
use Rattle.hal_grammar.specs.Leaves.{Naming}
use Rattle.hal_grammar.specs.Expressions.{Expression}
use Rattle.hal_grammar.specs.Declarations.{StructureKind, Declaration, Part, Structure}
use Rattle.hal_grammar.specs.Units.{Head, Block, Template, Templates}
use Rattle.hal_phrases.specs.declared.around.Around.{Around}
use Rattle.hal_phrases.specs.Phrases.{Node, Phrase, phrase, add, OfFile, OfTemplate, OfUnit, OfParameter, OfItem, OfStructure, OfStructureType}
use Rattle.hal_scope.specs.Rules.{IsAmong}
use Rattle.hal_scope.specs.Sorts.{type_of}
use Rattle.hal_meaning.specs.Calls.{inputs_of, outputs_of}
use Rattle.hal_fit_calls.specs.Each.{Each}
use Rattle.hal_fit_calls.proofs.Each.{each_append}
use Rattle.hal_right_images.specs.rows.Nested.{head_of}
use Rattle.hal_right_images.proofs.rows.Plain.{is_plain, IsPlain, Adds}

-- these phrases are the first of those
pub record Begins (d ps : List Phrase) : Type 0 where
  pub later : List Phrase
  pub whole : ps ≡ d ++ later

pub begins_all : (d : List Phrase) → Begins d d
begins_all d = record { later = []; whole = sym (append-nil d) }

pub begins_on : (d e ps : List Phrase) (later : List Phrase) → e ≡ d ++ later → Begins e ps → Begins d ps
begins_on d e ps later is first = record { later = later ++ first.later; whole = first.whole ∙ (ap (λ l. l ++ first.later) is ∙ append_assoc d later first.later) }

at_end : (d : List Phrase) (p : Phrase) (later : List Phrase) → slice_get (d ++ (p ∷ later)) (length d) ≡ Some p
at_end [] p later = refl
at_end (x ∷ d) p later = at_end d p later

among_end : (d : List Phrase) (p : Phrase) (later : List Phrase) → IsAmong p (d ++ (p ∷ later))
among_end [] p later = inl refl
among_end (x ∷ d) p later = inr (among_end d p later)

-- a phrase that was added is at its number, and among all
pub there : (ps d : List Phrase) (a : Around) (n : Node) → Begins (add d a n) ps → slice_get ps (length d) ≡ Some (phrase (length d) a n)
there ps d a n first =
    ap (λ xs. slice_get xs (length d)) (first.whole ∙ append_assoc d (phrase (length d) a n ∷ []) first.later) ∙ at_end d (phrase (length d) a n) first.later

pub among : (ps d : List Phrase) (a : Around) (n : Node) → Begins (add d a n) ps → IsAmong (phrase (length d) a n) ps
among ps d a n first =
    subst (λ (xs : List Phrase). IsAmong (phrase (length d) a n) xs) (sym (first.whole ∙ append_assoc d (phrase (length d) a n ∷ []) first.later)) (among_end d (phrase (length d) a n) first.later)

pub among_first : {X : Type 0} (x : X) (xs ys : List X) → IsAmong x xs → IsAmong x (xs ++ ys)
among_first x [] ys within = absurd within
among_first x (y ∷ xs) ys (inl same) = inl same
among_first x (y ∷ xs) ys (inr later) = inr (among_first x xs ys later)

pub among_second : {X : Type 0} (x : X) (xs ys : List X) → IsAmong x ys → IsAmong x (xs ++ ys)
among_second x [] ys within = within
among_second x (y ∷ xs) ys within = inr (among_second x xs ys within)

-- the names of the parameters of a head
abbrev pub names_of : Head → Bool → List Naming
names_of head true = outputs_of head
names_of head false = inputs_of head

-- the head of a unit or a template, and that of a unit
abbrev pub head_in : Node → Option Head
head_in (OfTemplate name head declarations) = Some head
head_in (OfUnit name head declarations) = Some head
head_in other = None

abbrev pub unit_head : Node → Option Head
unit_head (OfUnit name head declarations) = Some head
unit_head other = None

-- the phrase with this number has a head that lists the parameter
pub record ListedBy (ps : List Phrase) (home : ℕ) (name : Naming) (output : Bool) : Type 0 where
  pub phrase : Phrase
  pub there : slice_get ps home ≡ Some phrase
  pub head : Head
  pub is : head_in phrase.node ≡ Some head
  pub listed : IsAmong name (names_of head output)

-- a parameter of the unit with this number is declared as such
pub record HasParameter (ps : List Phrase) (home : ℕ) (name : Naming) (output : Bool) : Type 0 where
  pub phrase : Phrase
  pub among : IsAmong phrase ps
  pub is : phrase.node ≡ OfParameter name output
  pub its : phrase.around.home ≡ home

-- a structure type with this template stands in a block
pub record HasType (ps : List Phrase) (block : ℕ) (template : List ℕ) : Type 0 where
  pub place : Place
  pub phrase : Phrase
  pub among : IsAmong phrase ps
  pub is : phrase.node ≡ OfStructureType place template
  pub its : phrase.around.block ≡ block

-- a written template before the unit of the file with this number is there
pub record HasTemplate (ps : List Phrase) (file : ℕ) (template : Template) : Type 0 where
  pub phrase : Phrase
  pub among : IsAmong phrase ps
  pub is : phrase.node ≡ OfTemplate template.name template.head template.declarations
  pub its : phrase.around.home ≡ file

-- one of these declarations is that of a structure
pub record DeclareStructure (declarations : List Declaration) (name : Naming) (parts : List Part) : Type 0 where
  pub place : Place
  pub listed : IsAmong (Structure place name parts) declarations

-- what is known of a phrase among all
abbrev pub IsToldNode : List Phrase → Phrase → Node → Type 0
IsToldNode ps p (OfFile prefaces name) = (template : Template) → IsAmong (Templates template) prefaces → HasTemplate ps p.number template
IsToldNode ps p (OfParameter name output) = ListedBy ps p.around.home name output
IsToldNode ps p (OfUnit name head declarations) = (output : Bool) (n : Naming) → IsAmong n (names_of head output) → HasParameter ps p.number n output
IsToldNode ps p (OfItem common item) =
    (p.around.block ≡ p.around.home) × ((place : Place) (template : List ℕ) (copies : Option Expression) → type_of common item ≡ Some (StructureKind place template copies) → HasType ps p.around.block template)
IsToldNode ps p (OfStructure name parts) =
    (q : Phrase) (unit : Naming) (head : Head) (declarations : List Declaration) → slice_get ps p.around.home ≡ Some q → q.node ≡ OfUnit unit head declarations → DeclareStructure declarations name parts
IsToldNode ps p other = Unit {0}

abbrev pub IsTold : List Phrase → Phrase → Type 0
IsTold ps p = IsToldNode ps p p.node

plain_told : (ps : List Phrase) (p : Phrase) (node : Node) → is_plain node ≡ true → IsToldNode ps p node
plain_told ps p (OfFile prefaces name) is = absurd (cc)
plain_told ps p (OfParameter name output) is = absurd (cc)
plain_told ps p (OfUnit name head declarations) is = absurd (cc)
plain_told ps p (OfItem common item) is = absurd (cc)
plain_told ps p (OfStructure name parts) is = absurd (cc)
plain_told ps p other is = tt

pub all_told : (ps later : List Phrase) → Each IsPlain later → Each (IsTold ps) later
all_told ps [] each = tt
all_told ps (p ∷ later) each = (plain_told ps p p.node each.0, all_told ps later each.1)

-- the heads of units, in order
abbrev pub heads_in : List Phrase → List Head
heads_in ps = filter_map (λ (p : Phrase). unit_head p.node) ps

plain_headless : (node : Node) → is_plain node ≡ true → unit_head node ≡ None
plain_headless (OfUnit name head declarations) is = absurd (cc)
plain_headless other is = refl

pub none_headed : (later : List Phrase) → Each IsPlain later → heads_in later ≡ []
none_headed [] each = refl
none_headed (p ∷ later) each = ap (λ o. cons_option o (heads_in later)) (plain_headless p.node each.0) ∙ none_headed later each.1

-- phrases are added of which each is told, and which are those of these units
pub record Step (units : List Block) (d e : List Phrase) : Type 0 where
  pub later : List Phrase
  pub whole : e ≡ d ++ later
  pub told : (ps : List Phrase) → Begins e ps → Each (IsTold ps) later
  pub heads : heads_in later ≡ map head_of units

pub of_plain : {d e : List Phrase} → Adds d e → Step [] d e
of_plain adds = record { later = adds.later; whole = adds.whole; told = λ ps first. all_told ps adds.later adds.plain; heads = none_headed adds.later adds.plain }

pub then_ : {us vs : List Block} {d e f : List Phrase} → Step us d e → Step vs e f → Step (us ++ vs) d f
then_ {us = us} {vs = vs} {d = d} {e = e} {f = f} first second = record {
  later = first.later ++ second.later;
  whole = second.whole ∙ (ap (λ x. x ++ second.later) first.whole ∙ append_assoc d first.later second.later);
  told = λ ps begins. each_append (IsTold ps) first.later second.later (first.told ps (begins_on e f ps second.later second.whole begins)) (second.told ps begins);
  heads = filter_map-append (λ (p : Phrase). unit_head p.node) first.later second.later ∙ (ap (λ l. l ++ heads_in second.later) first.heads ∙ (ap (λ l. map head_of us ++ l) second.heads ∙ sym (map-append head_of us vs)));
}

pub no_step : (d : List Phrase) → Step [] d d
no_step d = record { later = []; whole = sym (append-nil d); told = λ ps first. tt; heads = refl }
