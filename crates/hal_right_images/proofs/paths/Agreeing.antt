-- Names with a path agree, as values and as what takes values.
use Rattle.std.proofs.Common.{◌≡◌, ℕ, Bool, true, false, not, ◌&&◌, List, [], Option, Some, refl, sym, ap, ◌∙◌, subst}
use Rattle.std.specs.Option.{is_some}
use Rattle.hal_grammar.specs.Leaves.{Naming}
use Rattle.hal_grammar.specs.Declarations.{Kind, StructureKind}
use Rattle.hal_phrases.specs.Phrases.{OfItem}
use Rattle.hal_names.specs.Means.{means}
use Rattle.hal_scope.specs.Sorts.{type_of}
use Rattle.hal_kinds.specs.Attributes as attributes
use Rattle.hal_kinds.specs.Attributes.{sizes_of}
use Rattle.hal_kinds.specs.Data.{data_at, is_event_type, is_structure_type}
use Rattle.hal_constants.specs.Known.{Known}
use Rattle.hal_meaning.specs.Elements.{shape_of}
use Rattle.hal_meaning.specs.Places.{storing}
use Rattle.hal_meaning.specs.Variables.{meant_by, name_meant, spot_of}
use Rattle.hal_agreement.specs.Sites.{Site, here_at}
use Rattle.hal_fit_expr.specs.Uses.{Uses}
use Rattle.hal_fit_rules.specs.Agreeing.{AreAlike, NameAgrees}
use Rattle.hal_fit_rules.specs.Received.{CellsAgree}
use Rattle.hal_fit_rules.specs.Valued.{HasConstants}
use Rattle.hal_fit_rules.proofs.Declaring.{agrees_as, cells_as, item_meant_so, lying, meant_standing}
use Rattle.hal_right_images.proofs.paths.Meaning.{MeansAlike}
use Rattle.hal_right_images.proofs.paths.Referring.{LeadsIn}

-- a structure has no value of its own
no_value : (constant sized structure : Bool) → structure ≡ true → (constant && (not sized && not structure)) ≡ false
no_value true true true is = refl
no_value true false true is = refl
no_value false sized true is = refl
no_value constant sized false is = absurd (cc)

-- a structure is no constant that is its value
stored_so : (o : Option Kind) (constant sized : Bool) (t : Kind) → o ≡ Some t → is_structure_type (Some t) ≡ true → (constant && (not sized && not (is_structure_type o))) ≡ false
stored_so o constant sized t is structured = no_value constant sized (is_structure_type o) (ap is_structure_type is ∙ structured)

module _ (u : Uses) (site : Site) (has : HasConstants site) (name : List ℕ) (path : List Naming) (leads : LeadsIn site.set.phrases site.block name path)
    (means_ : MeansAlike site.set.phrases leads.number leads.phrase leads.common leads.item path) where
  -- what the name means
  meant_so : name_meant (here_at site) name [] ≡ lying u site means_.phrase means_.other_common means_.other
  unfolding is_event_type is_structure_type
  meant_so =
      meant_standing u site name leads.number means_.phrase.number means_.phrase leads.meant means_.stands means_.there
      ∙ (ap (meant_by (here_at site) [] means_.phrase) means_.declares
      ∙ item_meant_so u site means_.phrase means_.other_common means_.other (StructureKind means_.place means_.template means_.copies) means_.typed refl
      (stored_so (type_of means_.other_common means_.other) (is_some (attributes.constant_of means_.other_common means_.other)) (is_some (sizes_of means_.other_common means_.other)) (StructureKind means_.place means_.template means_.copies) means_.typed refl))

  -- it is alike by the constants of the site
  alike_here : AreAlike (data_at site.set.phrases leads.phrase path (OfItem leads.common leads.item)) path (shape_of site.set.phrases site.set.constants means_.phrase means_.other_common means_.other)
  alike_here =
      subst (λ (vs : Known). AreAlike (data_at site.set.phrases leads.phrase path (OfItem leads.common leads.item)) path (shape_of site.set.phrases vs means_.phrase means_.other_common means_.other)) (sym has) means_.alike

  -- so the name agrees as a value
  pub path_agrees : NameAgrees u site site.set.phrases site.block name path
  path_agrees =
      agrees_as u site path name leads.number leads.phrase (OfItem leads.common leads.item) (lying u site means_.phrase means_.other_common means_.other) leads.meant leads.there leads.is meant_so alike_here

  -- and as what takes values
  pub path_cells : CellsAgree site.set.phrases path (means site.set.phrases site.block name) (name_meant (here_at site) name [])
  path_cells =
      cells_as u site path name leads.number leads.phrase (OfItem leads.common leads.item)
      (spot_of (here_at site) [] means_.phrase.number (storing site.set.phrases site.set.constants means_.phrase (OfItem means_.other_common means_.other)))
      (shape_of site.set.phrases site.set.constants means_.phrase means_.other_common means_.other) leads.meant leads.there leads.is meant_so alike_here
