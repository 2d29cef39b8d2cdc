-- The TEMPORARY variable of a DO FOR group is what its name means in the group.
use Rattle.std.proofs.Common.{◌≡◌, ℕ, true, false, List, [], ◌∷◌, Option, Some, None, slice_get, refl, sym, ap, ◌∙◌}
use Rattle.std.specs.Option.{option_or}
use Rattle.hal_grammar.specs.Leaves.{Naming}
use Rattle.hal_phrases.specs.Phrases.{Node, Phrase, OfFile, OfTemplate, OfUnit, OfParameter, OfItem, OfStructure, OfPart, OfLabel, OfTemporaryGroup}
use Rattle.hal_names.specs.declared.key.Key.{Key}
use Rattle.hal_names.specs.declared.key.Space.TheVariants as space
use Rattle.hal_names.specs.Keys.{key, own, declared_at}
use Rattle.hal_names.specs.Laws.{IsCounted, IsFirst, IsUndeclared}
use Rattle.hal_names.specs.Means.{means, nearest}
use Rattle.hal_scope.specs.Rules.{IsAmong}
use Rattle.hal_code.specs.Sorts.{I}
use Rattle.hal_meaning.specs.Variables.{meant_by}
use Rattle.hal_agreement.specs.Sites.{Site, here_at, within_block}
use Rattle.hal_fit_expr.specs.Uses.{Uses}
use Rattle.hal_fit_expr.specs.Sorted.{sort_of_meant, sort_of_name}
use Rattle.hal_fit_rules.specs.Owned.{IsOwn}
use Rattle.hal_fit_rules.proofs.Constants.{phrase_same}
use Rattle.hal_fit_rules.proofs.Declaring.{meant_itself}
use Rattle.hal_fit_names.specs.Suited.{is_templated}
use Rattle.hal_fit_names.proofs.Homing.{is_holder, IsHolder}
use Rattle.hal_fit_names.proofs.MeantItems.{space_of}
use Rattle.hal_fit_names.proofs.Owning.{own_number}
use Rattle.hal_fit_names.proofs.Parametered.{owner_of}
use Rattle.hal_fit_names.proofs.Placing.{at_among}

first_of_two : (k : ℕ) (o x : Option ℕ) → o ≡ Some k → option_or o x ≡ Some k
first_of_two k o x is = ap (λ y. option_or y x) is

-- what a block declares is what the name means in it
means_own : (ps : List Phrase) (k : ℕ) (name : List ℕ) (p : Phrase) → slice_get ps k ≡ Some p → own ps (key space.Declared k name) ≡ Some k → means ps k name ≡ Some k
unfolding nearest
means_own [] k name p there is = absurd (cc)
means_own (x ∷ xs) k name p there is = first_of_two k (own (x ∷ xs) (key space.Declared k name)) _ is

module _ (ps : List Phrase) (counted : IsCounted ps) (homes : (p : Phrase) → IsAmong p ps → IsHolder ps p.around.home) (found : (q : Key) (n : ℕ) → own ps q ≡ Some n → IsFirst ps q n) (lacking : (q : Key) → own ps q ≡ None → IsUndeclared ps q)
    (k : ℕ) (p : Phrase) (labels : List Naming) (variable : Naming) (there : slice_get ps k ≡ Some p) (is : p.node ≡ OfTemporaryGroup labels variable) where
  -- names don't belong to a group
  no_home : {X : Type 0} (home : ℕ) → home ≡ k → IsHolder ps home → X
  no_home home same holder =
      let one : holder.phrase ≡ p = phrase_same holder.phrase p (sym holder.there ∙ (ap (slice_get ps) same ∙ there)) in
      let other : true ≡ false = sym holder.is ∙ (ap (λ (x : Phrase). is_holder x.node) one ∙ ap is_holder is) in
      absurd (cc)

  -- but to that of the variable
  declares_variable : (j : ℕ) (r : Phrase) (n : Node) → slice_get ps j ≡ Some r → r.node ≡ n → declared_at r.number r.around n ≡ Some (key space.Declared k variable.name) → j ≡ k
  unfolding declared_at
  declares_variable j r (OfTemporaryGroup ls v) at_j node declares = sym (counted j r at_j) ∙ ap owner_of declares
  declares_variable j r (OfTemplate name head declarations) at_j node declares = no_home r.around.home (ap owner_of declares) (homes r (at_among ps j r at_j))
  declares_variable j r (OfUnit name head declarations) at_j node declares = no_home r.around.home (ap owner_of declares) (homes r (at_among ps j r at_j))
  declares_variable j r (OfItem common item) at_j node declares = no_home r.around.home (ap owner_of declares) (homes r (at_among ps j r at_j))
  declares_variable j r (OfStructure name parts) at_j node declares = no_home r.around.home (ap owner_of declares) (homes r (at_among ps j r at_j))
  declares_variable j r (OfLabel name) at_j node declares = no_home r.around.home (ap owner_of declares) (homes r (at_among ps j r at_j))
  declares_variable j r (OfFile prefaces unit) at_j node declares = let other : Some space.Unit ≡ Some space.Declared = ap space_of declares in absurd (cc)
  declares_variable j r (OfParameter parameter output) at_j node declares = let other : Some space.Parameter ≡ Some space.Declared = ap space_of declares in absurd (cc)
  declares_variable j r (OfPart bottom part) at_j node declares = let other : Some space.Part ≡ Some space.Declared = ap space_of declares in absurd (cc)
  declares_variable j r other at_j node declares = absurd (cc)

  owned_by : (o : Option ℕ) → own ps (key space.Declared k variable.name) ≡ o → o ≡ Some k
  unfolding declared_at
  owned_by None none =
      absurd (lacking (key space.Declared k variable.name) none k p there (ap (declared_at p.number p.around) is ∙ ap (λ n. Some (key space.Declared n variable.name)) (counted k p there)))
  owned_by (Some j) some =
      let first = found (key space.Declared k variable.name) j some in
      let r : Phrase = first.declaring in
      ap (λ n. Some n) (declares_variable j r r.node first.there refl first.declares)

  -- it means itself
  pub means_variable : means ps k variable.name ≡ Some k
  means_variable = means_own ps k variable.name p there (owned_by (own ps (key space.Declared k variable.name)) refl)

-- and is an integer
pub temporary_sorted : (u : Uses) (site : Site) (k : ℕ) (p : Phrase) (labels : List Naming) (variable : Naming) → IsCounted site.set.phrases → slice_get site.set.phrases k ≡ Some p → p.node ≡ OfTemporaryGroup labels variable
    → means site.set.phrases k variable.name ≡ Some k → sort_of_name u (within_block p.number site) variable.name [] ≡ Some I
temporary_sorted u site k p labels variable counted there is meant =
    let ps = site.set.phrases in
    let here : Site = within_block p.number site in
    let itself : IsOwn here variable.name = record {
      number = k;
      meant = ap (λ n. means ps n variable.name) (counted k p there) ∙ meant;
      phrase = p;
      there = there;
      own = own_number ps k p there (ap (is_templated ps p) is);
    } in
    ap (sort_of_meant u here []) (meant_itself u here variable.name itself ∙ ap (meant_by (here_at here) [] p) is)
