-- What subscripts choose, one after another.
use Rattle.std.proofs.Common.{◌≡◌, ◌∙◌, ℕ, List, [], ◌∷◌, ◌++◌, refl, sym, ap}
use Rattle.hal_grammar.specs.Expressions.{Subscripts, NoSubscripts, MoreSubscripts}
use Rattle.hal_phrases.specs.Phrases.{Phrase}
use Rattle.hal_constants.specs.Known.{Known}
use Rattle.hal_storage.proofs.elements.Repeated.{behind, none_behind}
use Rattle.hal_views.specs.Views.{Choice, choices, copies_by}
use Rattle.hal_limits.specs.Choices.{later_subs, with_choices}

module _ (ps : List Phrase) (vs : Known) (p : Phrase) where
  first_chosen : (n : ℕ) (ns : List ℕ) (subs : Subscripts) → copies_by ps vs p n subs ∷ choices ps vs p ns (later_subs subs) ≡ choices ps vs p (n ∷ ns) subs
  first_chosen n ns NoSubscripts = refl
  first_chosen n ns (MoreSubscripts first others) = refl

  pub choices_pushed : (found : List Choice) (ns : List ℕ) (subs : Subscripts) → with_choices ps vs p found ns subs ≡ found ++ choices ps vs p ns subs
  unfolding with_choices
  choices_pushed found [] subs = sym (none_behind found)
  choices_pushed found (n ∷ ns) subs =
      choices_pushed (found ++ (copies_by ps vs p n subs ∷ [])) ns (later_subs subs)
      ∙ (behind found (copies_by ps vs p n subs ∷ []) (choices ps vs p ns (later_subs subs)) ∙ ap (λ list. found ++ list) (first_chosen n ns subs))
