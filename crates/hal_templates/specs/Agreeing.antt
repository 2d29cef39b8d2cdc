-- What two phrases that declare one name have to say for their attributes to mean the same, as equalities. A kind, a group, a size or a value that no constant tells breaks another rule, and
-- is unknown here.
use Rattle.std.specs.Prelude.{◌≡◌, ◌<◌, ◌⊎◌, ⊤, ℕ, max, true, List, [], ◌∷◌, length, Option, Some, None}
use Rattle.hal_grammar.specs.Expressions.{Expression, Expressions, NoExpressions, MoreExpressions}
use Rattle.hal_grammar.specs.Declarations.{Attribute, Part, Initials}
use Rattle.hal_phrases.specs.Phrases.{Phrase}
use Rattle.hal_values.specs.declared.value.Kind.{Kind}
use Rattle.hal_constants.specs.Known.{Known}
use Rattle.hal_templates.specs.declared.traits.Traits.{Traits}
use Rattle.hal_templates.specs.Counts.{is_few}
use Rattle.hal_templates.specs.Kinds.{kinds_of}
use Rattle.hal_templates.specs.Leaves.{all_leaves, count_of_all}
use Rattle.hal_templates.specs.Own.{template_of}
use Rattle.hal_templates.specs.Sizes.{copies_in, size_in}
use Rattle.hal_templates.specs.Structures.{parts_of, structure_named}
use Rattle.hal_templates.specs.Traits.{constants_given, sizes_given, traits, type_given}
use Rattle.hal_templates.specs.Values.{held_at}

-- equal, as far as both are known
abbrev pub Agree : {X : Type 0} → Option X → Option X → Type 0
Agree (Some x) (Some y) = x ≡ y
Agree x y = ⊤

-- there are two of which this holds, or none
abbrev pub BothOrNeither : {X : Type 0} → (X → X → Type 0) → Option X → Option X → Type 0
BothOrNeither R (Some x) (Some y) = R x y
BothOrNeither R None None = ⊤
BothOrNeither R x y = ⊥

-- what words and numbers among attributes mean
pub record AgreeInTraits (t s : Traits) : Type 0 where
  pub typed : t.typed ≡ s.typed
  pub event : t.event ≡ s.event
  pub kind : Agree t.kind s.kind
  pub starred : t.starred ≡ s.starred
  pub locked : t.locked ≡ s.locked
  pub group : Agree t.group s.group
  pub latched : t.latched ≡ s.latched
  pub automatic : t.automatic ≡ s.automatic
  pub constant : t.constant ≡ s.constant

-- sizes, in order
abbrev pub AgreeInSizes : List Phrase → Known → Phrase → Expressions → Phrase → Expressions → Type 0
AgreeInSizes ps vs p NoExpressions q NoExpressions = ⊤
AgreeInSizes ps vs p (MoreExpressions x xs) q (MoreExpressions y ys) = Agree (size_in ps vs p x) (size_in ps vs q y) × AgreeInSizes ps vs p xs q ys
AgreeInSizes ps vs p xs q ys = ⊥

-- what two phrases declare with these attributes, those before the comma and the name's own: all but the values behind CONSTANT, and what the name of a structure template means
pub record MeanTheSame (ps : List Phrase) (vs : Known) (p : Phrase) (common own : List Attribute) (q : Phrase) (other_common other_own : List Attribute) : Type 0 where
  pub template : template_of (type_given common own) ≡ template_of (type_given other_common other_own)
  pub words : AgreeInTraits (traits ps vs p common own) (traits ps vs q other_common other_own)
  pub dimensions : BothOrNeither (λ xs ys. AgreeInSizes ps vs p xs q ys) (sizes_given common own) (sizes_given other_common other_own)
  pub copies : BothOrNeither (λ x y. Agree (size_in ps vs p x) (size_in ps vs q y)) (copies_in (type_given common own)) (copies_in (type_given other_common other_own))

-- two parts of structure templates
pub record IsSamePart (ps : List Phrase) (vs : Known) (q : Phrase) (x : Part) (r : Phrase) (y : Part) : Type 0 where
  pub level : x.level ≡ y.level
  pub name : x.name.name ≡ y.name.name
  pub attributes : MeanTheSame ps vs q [] x.attributes r [] y.attributes

-- the parts of two structure templates, in order
abbrev pub HaveSameParts : List Phrase → Known → Phrase → List Part → Phrase → List Part → Type 0
HaveSameParts ps vs q [] r [] = ⊤
HaveSameParts ps vs q (x ∷ xs) r (y ∷ ys) = IsSamePart ps vs q x r y × HaveSameParts ps vs q xs r ys
HaveSameParts ps vs q xs r ys = ⊥

-- the structure template of this name where a phrase of a template stands, and where that of its unit does: they are one, or have the same parts. One that the unit itself declares is compared as
-- its own
abbrev pub NamesTheSame : List Phrase → Known → Phrase → Phrase → List ℕ → Type 0
NamesTheSame ps vs p q name =
    (r s : Phrase) (xs ys : List Part) → structure_named ps p.around.block name ≡ Some r → structure_named ps q.around.block name ≡ Some s → parts_of r.node ≡ Some xs → parts_of s.node ≡ Some ys
    → (s.around.home ≡ q.around.home) ⊎ ((r.number ≡ s.number) ⊎ HaveSameParts ps vs r xs s ys)

-- the values behind CONSTANT, cell by cell, where no more are given than a set may have cells
abbrev pub HoldTheSame : List Phrase → Known → Phrase → List Attribute → List Attribute → Phrase → List Attribute → List Attribute → Type 0
HoldTheSame ps vs p common own q other_common other_own =
    (kinds : List (Option Kind)) (xs ys : Initials) → kinds_of ps vs q other_common other_own ≡ Some kinds → constants_given common own ≡ Some xs → constants_given other_common other_own ≡ Some ys
    → is_few (count_of_all xs) ≡ true → is_few (count_of_all ys) ≡ true
    → (k : ℕ) → k < max (length kinds) (max (length (all_leaves xs)) (length (all_leaves ys))) → Agree (held_at ps vs p kinds (all_leaves xs) k) (held_at ps vs q kinds (all_leaves ys) k)

-- data that two phrases declare
pub record IsSameData (ps : List Phrase) (vs : Known) (p : Phrase) (common own : List Attribute) (q : Phrase) (other_common other_own : List Attribute) : Type 0 where
  pub attributes : MeanTheSame ps vs p common own q other_common other_own
  pub structures : (name : List ℕ) → template_of (type_given common own) ≡ Some name → NamesTheSame ps vs p q name
  pub constants : HoldTheSame ps vs p common own q other_common other_own
