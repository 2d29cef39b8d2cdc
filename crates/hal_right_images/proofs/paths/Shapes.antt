-- The components of what a name of a structure means are those of the structure that its type names, or of one with the same parts.
use Rattle.std.proofs.Common.{◌≡◌, ◌⊎◌, ℕ, List, [], Option, Some, None, slice_get, refl, sym, ap, ◌∙◌, subst, inl, inr}
use Rattle.std.specs.Option.{option_and_then}
use Rattle.hal_base.specs.declared.refusal.Place.{Place}
use Rattle.hal_grammar.specs.Leaves.{Naming}
use Rattle.hal_grammar.specs.Expressions.{Expression}
use Rattle.hal_grammar.specs.Declarations.{Kind, IntegerKind, BooleanKind, EventKind, BitKind, CharacterKind, StructureKind, Part}
use Rattle.hal_phrases.specs.Phrases.{Node, Phrase, OfStructure}
use Rattle.hal_names.specs.declared.key.Key.{Key}
use Rattle.hal_names.specs.Keys.{own}
use Rattle.hal_names.specs.Laws.{IsCounted, IsFirst, IsUndeclared}
use Rattle.hal_scope.specs.Rules.{IsSound, rows}
use Rattle.hal_types.specs.Rules.{type_rows}
use Rattle.hal_constants.specs.Known.{known}
use Rattle.hal_templates.specs.Agreeing.{HaveSameParts, NamesTheSame}
use Rattle.hal_templates.specs.Own.{template_of}
use Rattle.hal_templates.specs.Structures.{parts_of, structure_named}
use Rattle.hal_meaning.specs.Elements.{components_at}
use Rattle.hal_fit_names.specs.Suited.{AreDeclared, HasFitLiterals}
use Rattle.hal_fit_parts.proofs.Standing.{AreStanding}
use Rattle.hal_right_images.proofs.rows.Templates.{NamesStructure}
use Rattle.hal_right_images.proofs.paths.Kinded.{parts_known}
use Rattle.hal_right_images.proofs.paths.Twins.{AreTwins, parts_twins, themselves}
use Rattle.hal_right_images.proofs.paths.Placed.{same_there}

-- a type that names a structure
pub record IsOfStructure (template : List ℕ) (o : Option Kind) : Type 0 where
  pub place : Place
  pub copies : Option Expression
  pub is : o ≡ Some (StructureKind place template copies)

-- a type with a template is that of a structure
pub of_template : (o : Option Kind) (template : List ℕ) → template_of o ≡ Some template → IsOfStructure template o
unfolding template_of
of_template (Some (StructureKind place named copies)) template is =
    let same : named ≡ template = cc in
    record { place = place; copies = copies; is = ap (λ t. Some (StructureKind place t copies)) same }
of_template None template is = absurd (cc)
of_template (Some (IntegerKind place)) template is = absurd (cc)
of_template (Some (BooleanKind place)) template is = absurd (cc)
of_template (Some (EventKind place)) template is = absurd (cc)
of_template (Some (BitKind place size)) template is = absurd (cc)
of_template (Some (CharacterKind place size)) template is = absurd (cc)

-- the structure that a name means, as the rules of templates find it
pub named_so : (ps : List Phrase) (block : ℕ) (template : List ℕ) (names : NamesStructure ps block template) → structure_named ps block template ≡ Some names.phrase
named_so ps block template names = ap (option_and_then (λ k. slice_get ps k)) names.meant ∙ names.there

-- and its parts
pub parts_so : (n : Node) (name : Naming) (parts : List Part) → n ≡ OfStructure name parts → parts_of n ≡ Some parts
unfolding parts_of
parts_so n name parts is = ap parts_of is

module _ (ps : List Phrase) (named : IsSound rows ps) (sound : IsSound type_rows ps) (counted : IsCounted ps) (declared : AreDeclared ps) (literals : HasFitLiterals ps)
    (found : (q : Key) (n : ℕ) → own ps q ≡ Some n → IsFirst ps q n) (lacking : (q : Key) → own ps q ≡ None → IsUndeclared ps q) (standing : AreStanding ps) where
  -- structures with the same parts have twins for components
  pub same_twins : (k j : ℕ) (r s : Phrase) (name other : Naming) (xs ys : List Part) → slice_get ps k ≡ Some r → slice_get ps j ≡ Some s → r.node ≡ OfStructure name xs → s.node ≡ OfStructure other ys → HaveSameParts ps (known ps) r xs s ys
      → AreTwins (components_at ps (known ps) r r.node) (components_at ps (known ps) s s.node)
  same_twins k j r s name other xs ys there at is so same =
      let mine = parts_known ps named sound counted declared literals found lacking standing k r name xs there is in
      let theirs = parts_known ps named sound counted declared literals found lacking standing j s other ys at so in
      subst (λ (m : Node). AreTwins (components_at ps (known ps) r m) (components_at ps (known ps) s s.node)) (sym is)
      (subst (λ (m : Node). AreTwins (components_at ps (known ps) r (OfStructure name xs)) (components_at ps (known ps) s m)) (sym so) (parts_twins ps r s [] [] xs ys refl same mine theirs))

  -- and so have those that a name means for a template and for its unit
  pub named_twins : (p q : Phrase) (template : List ℕ) (mine : NamesStructure ps p.around.block template) (theirs : NamesStructure ps q.around.block template) → NamesTheSame ps (known ps) p q template
      → (theirs.phrase.around.home ≡ q.around.home → HaveSameParts ps (known ps) mine.phrase mine.structure.parts theirs.phrase theirs.structure.parts)
      → AreTwins (components_at ps (known ps) mine.phrase mine.phrase.node) (components_at ps (known ps) theirs.phrase theirs.phrase.node)
  named_twins p q template mine theirs same own_ =
      by (same mine.phrase theirs.phrase mine.structure.parts theirs.structure.parts (named_so ps p.around.block template mine) (named_so ps q.around.block template theirs)
      (parts_so mine.phrase.node mine.structure.name mine.structure.parts mine.structure.is) (parts_so theirs.phrase.node theirs.structure.name theirs.structure.parts theirs.structure.is)) where
        twins : HaveSameParts ps (known ps) mine.phrase mine.structure.parts theirs.phrase theirs.structure.parts → AreTwins (components_at ps (known ps) mine.phrase mine.phrase.node) (components_at ps (known ps) theirs.phrase theirs.phrase.node)
        twins parts = same_twins mine.number theirs.number mine.phrase theirs.phrase mine.structure.name theirs.structure.name mine.structure.parts theirs.structure.parts mine.there theirs.there mine.structure.is theirs.structure.is parts

        by : (theirs.phrase.around.home ≡ q.around.home) ⊎ ((mine.phrase.number ≡ theirs.phrase.number) ⊎ HaveSameParts ps (known ps) mine.phrase mine.structure.parts theirs.phrase theirs.structure.parts)
            → AreTwins (components_at ps (known ps) mine.phrase mine.phrase.node) (components_at ps (known ps) theirs.phrase theirs.phrase.node)
        by (inl home) = twins (own_ home)
        by (inr (inr parts)) = twins parts
        by (inr (inl number)) =
            let numbers : mine.number ≡ theirs.number = sym (counted mine.number mine.phrase mine.there) ∙ (number ∙ counted theirs.number theirs.phrase theirs.there) in
            let one : mine.phrase ≡ theirs.phrase = same_there mine.phrase theirs.phrase (sym mine.there ∙ (ap (slice_get ps) numbers ∙ theirs.there)) in
            subst (λ (s : Phrase). AreTwins (components_at ps (known ps) mine.phrase mine.phrase.node) (components_at ps (known ps) s s.node)) one (themselves (components_at ps (known ps) mine.phrase mine.phrase.node))
