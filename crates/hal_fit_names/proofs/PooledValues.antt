-- What is known of a constant that a written template of a COMPOOL declares is what is known of the COMPOOL's own, in a set of files that breaks no rule.
use Rattle.std.proofs.Common.{◌≡◌, ℕ, Bool, true, ◌&&◌, List, Option, Some, None, slice_get, refl, sym, ap, ◌∙◌}
use Rattle.std.specs.Option.{is_some}
use Rattle.hal_grammar.specs.Declarations.{Attribute, Declared, Initials}
use Rattle.hal_grammar.specs.Units.{File}
use Rattle.hal_phrases.specs.Phrases.{Phrase, OfItem}
use Rattle.hal_phrases.specs.GatheredUnits.{phrases_of}
use Rattle.hal_names.specs.Laws.{IsCounted}
use Rattle.hal_scope.specs.Rules.{IsAmong, IsSound, rows}
use Rattle.hal_kinds.specs.Attributes as attributes
use Rattle.hal_types.specs.Rules.{type_rows}
use Rattle.hal_values.specs.declared.value.Value.{Value}
use Rattle.hal_constants.specs.Known.{declared_value, known}
use Rattle.hal_constants.specs.Naming.{is_value_item, value_at}
use Rattle.hal_fit_names.specs.Spelled.{AreSpelled}
use Rattle.hal_fit_names.specs.Standing.{StandsForData}
use Rattle.hal_fit_names.specs.Suited.{AreDeclared, HasFitLiterals}
use Rattle.hal_fit_names.proofs.Placing.{at_among, items_are_placed}
use Rattle.hal_fit_names.proofs.SameValues.{valued_same, values_same}
use Rattle.hal_fit_names.proofs.Worth.{constant_has_value, constants_are_declared, constants_are_told, one_given}

-- a constant that is its value has values
listed : (o : Option Initials) (rest : Bool) → is_some o && rest ≡ true → (list : Initials) × (o ≡ Some list)
listed (Some list) rest is = (list, refl)
listed None rest is = absurd (cc)

module _ (files : List File) (named : IsSound rows (phrases_of files)) (sound : IsSound type_rows (phrases_of files)) (counted : IsCounted (phrases_of files)) (declared : AreDeclared (phrases_of files))
    (literals : HasFitLiterals (phrases_of files)) (spelled : AreSpelled (phrases_of files)) where
  worth : (p : Phrase) (common : List Attribute) (item : Declared) → IsAmong p (phrases_of files) → p.node ≡ OfItem common item → is_value_item common item ≡ true
      → (v : Value) × (value_at (known (phrases_of files)) p.number ≡ Some v)
  worth p common item within is valued =
      constant_has_value (phrases_of files) named sound counted declared literals spelled (items_are_placed files counted) (constants_are_told files counted) p common item within is valued

  says : (p : Phrase) (common : List Attribute) (item : Declared) (v : Value) → IsAmong p (phrases_of files) → p.node ≡ OfItem common item → value_at (known (phrases_of files)) p.number ≡ Some v
      → declared_value (phrases_of files) (known (phrases_of files)) p (OfItem common item) ≡ Some v
  says p common item v within is there = ap (declared_value (phrases_of files) (known (phrases_of files)) p) (sym is) ∙ constants_are_declared files counted p within v there

  pub pooled_value : (k : ℕ) (p : Phrase) (common : List Attribute) (item : Declared) → slice_get (phrases_of files) k ≡ Some p → p.node ≡ OfItem common item → is_value_item common item ≡ true
      → (stands : StandsForData (phrases_of files) k p common item) → value_at (known (phrases_of files)) stands.phrase.number ≡ value_at (known (phrases_of files)) p.number
  pooled_value k p common item there is valued stands =
      let ps : List Phrase = phrases_of files in
      let q : Phrase = stands.phrase in
      let within = at_among ps k p there in
      let within_too = at_among ps q.number q stands.there in
      let valued_too : is_value_item stands.other_common stands.other ≡ true = sym (valued_same ps (known ps) p q common stands.other_common item stands.other stands.same) ∙ valued in
      let mine = worth p common item within is valued in
      let theirs = worth q stands.other_common stands.other within_too stands.declares valued_too in
      let xs = listed (attributes.constant_of common item) _ valued in
      let ys = listed (attributes.constant_of stands.other_common stands.other) _ valued_too in
      let same : mine.0 ≡ theirs.0 =
      values_same ps (known ps) p q common stands.other_common item stands.other stands.same valued mine.0 theirs.0 (says p common item mine.0 within is mine.1)
      (says q stands.other_common stands.other theirs.0 within_too stands.declares theirs.1) xs.0 ys.0 xs.1 ys.1
      (one_given ps named sound counted declared literals spelled (items_are_placed files counted) (constants_are_told files counted) p common item within is valued xs.0 xs.1)
      (one_given ps named sound counted declared literals spelled (items_are_placed files counted) (constants_are_told files counted) q stands.other_common stands.other within_too stands.declares valued_too ys.0 ys.1) in
      theirs.1 ∙ (ap Some (sym same) ∙ sym mine.1)
