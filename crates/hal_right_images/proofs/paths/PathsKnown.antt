-- References with a path are known, whatever they are for.
use Rattle.std.proofs.Common.{◌≡◌, ℕ, Bool, true, List, [], ◌∷◌, refl}
use Rattle.std.specs.Option.{is_some}
use Rattle.hal_base.specs.declared.refusal.Place.{Place}
use Rattle.hal_grammar.specs.Leaves.{Naming}
use Rattle.hal_grammar.specs.Expressions.{Refers, Subscript}
use Rattle.hal_phrases.specs.declared.role.Role.{Role}
use Rattle.hal_phrases.specs.declared.role.Role.TheVariants as role
use Rattle.hal_phrases.specs.Phrases.{Node, Phrase, OfReference}
use Rattle.hal_scope.specs.Rules.{IsAmong, IsSound, rows}
use Rattle.hal_scope.specs.Sorts.{usage_of}
use Rattle.hal_scope.specs.Uses.{is_nil}
use Rattle.hal_types.specs.Rules.{type_rows}
use Rattle.hal_code.specs.declared.image.ImageParts.{ImageParts}
use Rattle.hal_agreement.specs.Sites.{Site, here_at, within_block}
use Rattle.hal_fitting.specs.Fitting.{Ground}
use Rattle.hal_fit_expr.specs.Uses.{Uses}
use Rattle.hal_fit_rules.specs.Used.{NameKnown, NodeKnown, PhraseKnown}
use Rattle.hal_fit_rules.specs.Valued.{HasConstants}
use Rattle.hal_fit_names.specs.Known.{is_left_node}
use Rattle.hal_fit_names.specs.Suited.{AreDeclared}
use Rattle.hal_fit_names.proofs.KindsMeant.{name_ranged}
use Rattle.hal_right_images.proofs.paths.Agreeing.{path_agrees, path_cells}
use Rattle.hal_right_images.proofs.paths.Meaning.{MeansAlike}
use Rattle.hal_right_images.proofs.paths.Referring.{LeadsIn, limit_leads, output_leads, receiver_leads, value_leads}

module _ (site : Site) (named : IsSound rows site.set.phrases) (sound : IsSound type_rows site.set.phrases) (declared : AreDeclared site.set.phrases) (has : HasConstants site)
    (alike : (block : ℕ) (name : List ℕ) (n : Naming) (ns : List Naming) (leads : LeadsIn site.set.phrases block name (n ∷ ns)) → MeansAlike site.set.phrases leads.number leads.phrase leads.common leads.item (n ∷ ns)) where
  -- a name with a path
  name_known : (u : Uses) (q : Phrase) (r : Role) (place : Place) (name : List ℕ) (n : Naming) (ns : List Naming) (x : Subscript) → IsAmong q site.set.phrases → q.node ≡ OfReference r (Refers place name (n ∷ ns) x)
      → NameKnown u (within_block q.around.block site) site.set.phrases q r name (n ∷ ns)
  unfolding usage_of
  name_known u q role.Receiver place name n ns x within is =
      let leads = receiver_leads site.set.phrases named sound declared q within role.Receiver place name n ns x is refl in
      (path_cells u (within_block q.around.block site) has name (n ∷ ns) leads (alike q.around.block name n ns leads), name_ranged (here_at (within_block q.around.block site)) (n ∷ ns) [] name)
  name_known u q role.Output place name n ns x within is =
      let leads = output_leads site.set.phrases named sound declared q within role.Output place name n ns x is refl in
      path_cells u (within_block q.around.block site) has name (n ∷ ns) leads (alike q.around.block name n ns leads)
  name_known u q role.Event place name n ns x within is = tt
  name_known u q role.EventOrTime place name n ns x within is =
      λ calm plain.
      let leads = limit_leads site.set.phrases named sound declared q within role.EventOrTime place name n ns x is refl calm in
      path_agrees u (within_block q.around.block site) has name (n ∷ ns) leads (alike q.around.block name n ns leads)
  name_known u q other place name n ns x within is =
      let leads = value_leads site.set.phrases named sound declared q within other place name n ns x is refl in
      path_agrees u (within_block q.around.block site) has name (n ∷ ns) leads (alike q.around.block name n ns leads)

  -- a phrase that is left is a reference with a path
  node_known : (image : ImageParts) (g : Ground) (u : Uses) (q : Phrase) (m : Node) → IsAmong q site.set.phrases → q.node ≡ m → is_left_node m ≡ true → NodeKnown image g u (within_block q.around.block site) site.set.phrases q m
  unfolding is_nil
  node_known image g u q (OfReference role.Event (Refers place name path x)) within is left = tt
  node_known image g u q (OfReference r (Refers place name (n ∷ ns) x)) within is left = name_known u q r place name n ns x within is
  node_known image g u q (OfReference r (Refers place name [] x)) within is left = absurd (unpathed r left) where
    unpathed : (w : Role) → is_left_node (OfReference w (Refers place name [] x)) ≡ true → ⊥
    unpathed role.Event none = cc
    unpathed w none = cc
  node_known image g u q m within is left = absurd (cc)

  -- so it is of each phrase that is left
  pub phrase_known : (image : ImageParts) (g : Ground) (u : Bool → Uses) (q : Phrase) → IsAmong q site.set.phrases → is_left_node q.node ≡ true → PhraseKnown image g u site q
  phrase_known image g u q within left = node_known image g (u (is_some q.around.update)) q q.node within refl left
