-- A structure type names a structure, where no rule of names is broken.
use Rattle.std.specs.Prelude.{◌≡◌, ℕ, Bool, true, false, not, ◌||◌, List, Option, Some, None, slice_get}
use Rattle.std.specs.Option.{option_and_then, is_some}
use Rattle.std.proofs.Common.{refl, sym, ap, ◌∙◌, inl, inr}
use Rattle.hal_base.specs.declared.refusal.Place.{Place}
use Rattle.hal_grammar.specs.Leaves.{Naming}
use Rattle.hal_grammar.specs.Declarations.{Kind, IntegerKind, BooleanKind, EventKind, BitKind, CharacterKind, StructureKind, Part}
use Rattle.hal_grammar.specs.Units.{Head, Program, Compool, Task, Procedure, Function}
use Rattle.hal_phrases.specs.declared.around.Around.{Around}
use Rattle.hal_phrases.specs.Phrases.{Node, Phrase, OfFile, OfTemplate, OfUnit, OfParameter, OfItem, OfStructure, OfPart, OfLabel, OfTemporaryGroup, OfStructureType}
use Rattle.hal_names.specs.declared.key.Key.{Key}
use Rattle.hal_names.specs.declared.key.Space.TheVariants as space
use Rattle.hal_names.specs.Keys.{key, declared_at, same_space}
use Rattle.hal_names.specs.Laws.{IsDeclaration}
use Rattle.hal_names.specs.Means.{means}
use Rattle.hal_scope.specs.Builtins.{builtin_named, form_of}
use Rattle.hal_scope.specs.declared.builtin.Builtin.{Builtin}
use Rattle.hal_scope.specs.declared.usage.Usage.TheVariants as usage
use Rattle.hal_scope.specs.declared.used.Use.{Use}
use Rattle.hal_scope.specs.Rules.{IsAmong, IsSound, rows, ruled}
use Rattle.hal_scope.specs.Sorts.{type_of, sort_of, sort_of_type, sort_of_head, use_of, used, is_known, fits_builtin}
use Rattle.hal_scope.specs.Uses.{unless, sort_at, is_known_builtin, is_known_use, unknown, fits_declared, fits_named, fits_use, misused}
use Rattle.hal_right_images.proofs.rows.Rules.{unbroken, ruled_none}

pub unless_true : (b : Bool) (place : Place) → unless b place ≡ None → b ≡ true
unless_true true place is = refl
unless_true false place is = absurd (cc)

-- what a structure type uses
abbrev template_use : Place → List ℕ → Use
template_use place template = use_of place template usage.StructureType

known_by : (ps : List Phrase) (p : Phrase) (place : Place) (template : List ℕ) → p.node ≡ OfStructureType place template → unknown ps p ≡ None → is_known_use ps p.around.block (template_use place template) ≡ true
unfolding unknown used
known_by ps p place template is none =
    unless_true (is_known_use ps p.around.block (template_use place template)) place
    (ap (λ (node : Node). option_and_then (λ (u : Use). unless (is_known_use ps p.around.block u) u.place) (used node)) (sym is) ∙ none)

fitting_by : (ps : List Phrase) (p : Phrase) (place : Place) (template : List ℕ) → p.node ≡ OfStructureType place template → misused ps p ≡ None → fits_use ps p (template_use place template) ≡ true
unfolding misused used
fitting_by ps p place template is none =
    unless_true (fits_use ps p (template_use place template)) place (ap (λ (node : Node). option_and_then (λ (u : Use). unless (fits_use ps p u) u.place) (used node)) (sym is) ∙ none)

-- no built-in function is a structure
no_builtin : (ps : List Phrase) (p : Phrase) (place : Place) (template : List ℕ) → means ps p.around.block template ≡ None → is_known_use ps p.around.block (template_use place template) ≡ true
    → fits_use ps p (template_use place template) ≡ true → ⊥
no_builtin ps p place template none known fit = by (builtin_named template) refl where
  known_so : is_known_builtin template usage.StructureType ≡ true
  known_so = ap (λ (o : Option ℕ). is_some o || is_known_builtin template usage.StructureType) (sym none) ∙ known

  fits_so : fits_named template usage.StructureType ≡ true
  fits_so = ap (λ (o : Option ℕ). elim o [ None ↦ fits_named template usage.StructureType | Some k ↦ fits_declared ps p usage.StructureType (sort_at ps k) ]) (sym none) ∙ fit

  contrary : (b : Bool) → b ≡ true → (not b || false) ≡ true → ⊥
  contrary true is other = absurd (cc)
  contrary false is other = absurd (cc)

  by : (o : Option Builtin) → builtin_named template ≡ o → ⊥
  by None is = let so : false ≡ true = ap (λ (o : Option Builtin). elim o [ None ↦ false | Some b ↦ is_known usage.StructureType (form_of b) ]) (sym is) ∙ known_so in absurd (cc)
  by (Some b) is =
      contrary (is_known usage.StructureType (form_of b))
      (ap (λ (o : Option Builtin). elim o [ None ↦ false | Some x ↦ is_known usage.StructureType (form_of x) ]) (sym is) ∙ known_so)
      (ap (λ (o : Option Builtin). elim o [ None ↦ true | Some x ↦ not (is_known usage.StructureType (form_of x)) || fits_builtin usage.StructureType (form_of x) ]) (sym is) ∙ fits_so)

-- data, blocks and labels are none either
no_data : (ps : List Phrase) (p : Phrase) (type : Option Kind) → fits_declared ps p usage.StructureType (Some (sort_of_type type)) ≡ true → ⊥
unfolding sort_of_type
no_data ps p None fit = absurd (cc)
no_data ps p (Some (EventKind place)) fit = absurd (cc)
no_data ps p (Some (IntegerKind place)) fit = absurd (cc)
no_data ps p (Some (BooleanKind place)) fit = absurd (cc)
no_data ps p (Some (BitKind place size)) fit = absurd (cc)
no_data ps p (Some (CharacterKind place size)) fit = absurd (cc)
no_data ps p (Some (StructureKind place template copies)) fit = absurd (cc)

no_block : (ps : List Phrase) (p : Phrase) (head : Head) → fits_declared ps p usage.StructureType (Some (sort_of_head head)) ≡ true → ⊥
unfolding sort_of_head
no_block ps p (Program place) fit = absurd (cc)
no_block ps p (Compool place) fit = absurd (cc)
no_block ps p (Task place) fit = absurd (cc)
no_block ps p (Procedure place inputs outputs mode) fit = absurd (cc)
no_block ps p (Function place inputs returns mode) fit = absurd (cc)

-- the name of something else isn't found in a block
abbrev is_of_block : Option Key → Bool
is_of_block o = elim o [ None ↦ false | Some q ↦ same_space space.Declared q.space ]

declared_so : (o : Option Key) (owner : ℕ) (name : List ℕ) → o ≡ Some (key space.Declared owner name) → is_of_block o ≡ true
unfolding same_space
declared_so o owner name is = ap is_of_block is

pub record IsStructure (node : Node) : Type 0 where
  pub name : Naming
  pub parts : List Part
  pub is : node ≡ OfStructure name parts

structure_by : (ps : List Phrase) (p : Phrase) (k : ℕ) (a : Around) (node : Node) (owner : ℕ) (name : List ℕ) → declared_at k a node ≡ Some (key space.Declared owner name)
    → fits_declared ps p usage.StructureType (sort_of node) ≡ true → IsStructure node
unfolding declared_at sort_of same_space
structure_by ps p k a (OfStructure own parts) owner name declares fit = record { name = own; parts = parts; is = refl }
structure_by ps p k a (OfTemplate own head declarations) owner name declares fit = absurd (no_block ps p head fit)
structure_by ps p k a (OfUnit own head declarations) owner name declares fit = absurd (no_block ps p head fit)
structure_by ps p k a (OfItem common item) owner name declares fit = absurd (no_data ps p (type_of common item) fit)
structure_by ps p k a (OfLabel own) owner name declares fit = absurd (cc)
structure_by ps p k a (OfTemporaryGroup labels variable) owner name declares fit = absurd (cc)
structure_by ps p k a (OfFile prefaces own) owner name declares fit = let so = declared_so (Some (key space.Unit 0 own.name)) owner name declares in absurd (cc)
structure_by ps p k a (OfParameter own output) owner name declares fit = let so = declared_so (Some (key space.Parameter a.home own.name)) owner name declares in absurd (cc)
structure_by ps p k a (OfPart bottom part) owner name declares fit = let so = declared_so (Some (key space.Part a.parent part.name.name)) owner name declares in absurd (cc)
structure_by ps p k a other owner name declares fit = absurd (cc)

-- the structure that a structure type names
pub record NamesStructure (ps : List Phrase) (block : ℕ) (template : List ℕ) : Type 0 where
  pub number : ℕ
  pub meant : means ps block template ≡ Some number
  pub phrase : Phrase
  pub there : slice_get ps number ≡ Some phrase
  pub structure : IsStructure phrase.node

pub names_structure : (ps : List Phrase) → ((block : ℕ) (name : List ℕ) (n : ℕ) → means ps block name ≡ Some n → IsDeclaration ps name n) → IsSound rows ps → (p : Phrase) → IsAmong p ps → (place : Place) (template : List ℕ) → p.node ≡ OfStructureType place template → NamesStructure ps p.around.block template
names_structure ps declares sound p within place template is = by (means ps p.around.block template) refl where
  known : is_known_use ps p.around.block (template_use place template) ≡ true
  known = known_by ps p place template is (ruled_none 601 (unknown ps p) (unbroken rows ps sound p within (λ qs q. ruled 601 (unknown qs q)) (inl refl)))

  fit : fits_use ps p (template_use place template) ≡ true
  fit = fitting_by ps p place template is (ruled_none 603 (misused ps p) (unbroken rows ps sound p within (λ qs q. ruled 603 (misused qs q)) (inr (inr (inl refl)))))

  by : (o : Option ℕ) → means ps p.around.block template ≡ o → NamesStructure ps p.around.block template
  by None none = absurd (no_builtin ps p place template none known fit)
  by (Some k) meant =
      let declared = declares p.around.block template k meant in
      let sorted = ap (λ (o : Option ℕ). elim o [ None ↦ fits_named template usage.StructureType | Some n ↦ fits_declared ps p usage.StructureType (sort_at ps n) ]) (sym meant) ∙ fit in
      let there = declared.1.there in
      record {
        number = k;
        meant = meant;
        phrase = declared.1.declaring;
        there = there;
        structure = structure_by ps p declared.1.declaring.number declared.1.declaring.around declared.1.declaring.node declared.0 template declared.1.declares
            (ap (λ (o : Option Phrase). fits_declared ps p usage.StructureType (option_and_then (λ (x : Phrase). sort_of x.node) o)) (sym there) ∙ sorted);
      }
