-- Each name leads to elements, where names of parts do.
use Rattle.std.specs.Prelude.{◌≡◌, ℕ, zero, suc, true, false, List, [], ◌∷◌, Some, slice_get, flat_map, unwrap_or}
use Rattle.std.proofs.Common.{refl, sym, ap, subst}
use Rattle.hal_base.specs.declared.refusal.Place.{Place}
use Rattle.hal_grammar.specs.Leaves.{Naming}
use Rattle.hal_grammar.specs.Expressions.{Refers, Subscript}
use Rattle.hal_grammar.specs.Units.{File}
use Rattle.hal_phrases.specs.declared.role.Role.{Role}
use Rattle.hal_phrases.specs.Phrases.{OfReference, Phrase}
use Rattle.hal_phrases.specs.GatheredUnits.{phrases_of}
use Rattle.hal_scope.specs.Rules.{IsSound, rows}
use Rattle.hal_meaning.specs.Elements.{Component, Shape, chosen, kinds_of, kinds_of_component, shape_of, times}
use Rattle.hal_meaning.specs.Places.{Storing}
use Rattle.hal_meaning.specs.Sets.{Set, set_of}
use Rattle.hal_storage.specs.referents.Referents.{Referent, DataOf, ConstantOf, EventOf, BlockOf, BuiltinOf, Unmeant}
use Rattle.hal_agreement.specs.Sites.{Site}
use Rattle.hal_gen_expr.specs.Led.{Led, led_by, led_to}
use Rattle.hal_gen_expr.specs.Referents.{referent}
use Rattle.hal_fit_layout.specs.Owned.{has_one}
use Rattle.hal_right_images.specs.rows.Parts.{HaveParts}
use Rattle.hal_right_images.specs.rows.Purposes.{Says}
use Rattle.hal_right_images.proofs.rows.LookingUp.{LooksUp}
use Rattle.hal_right_images.proofs.rows.Stored.{item_some}
use Rattle.hal_right_images.specs.views.Left.{AllLead, LeadSomewhere}
use Rattle.hal_right_images.proofs.views.ChosenViews.{led_is}
use Rattle.hal_right_images.proofs.views.Laying.{IsDataAt, OfAnItem, OfAGroup, data_is}

has_none : (n : ℕ) → has_one (times n []) ≡ false
has_none zero = refl
has_none (suc n) = has_none n

-- data with elements have components
some_first : (shape : Shape) → has_one (kinds_of shape) ≡ true → LeadSomewhere (chosen [] shape.components)
some_first shape some = by shape.components some where
  by : (cs : List Component) → has_one (times (unwrap_or shape.copies 1) (flat_map kinds_of_component cs)) ≡ true → LeadSomewhere (chosen [] cs)
  by [] so = let none = has_none (unwrap_or shape.copies 1) in absurd (cc)
  by (c ∷ cs) so = tt

pub led_path : (path : List Naming) (r : Referent) (l : Led) → led_by path r ≡ Some l → l.path ≡ path
led_path path (DataOf k way shape) l is = let same : led_to path k way shape ≡ l = cc in sym (ap (λ (x : Led). x.path) same)
led_path path (ConstantOf v) l is = absurd (cc)
led_path path (EventOf e) l is = absurd (cc)
led_path path (BlockOf unit) l is = absurd (cc)
led_path path (BuiltinOf b) l is = absurd (cc)
led_path path Unmeant l is = absurd (cc)

module _ (files : List File) (looks : LooksUp (phrases_of files)) (sound : IsSound rows (phrases_of files)) (parts : HaveParts (phrases_of files)) (turns : ℕ) where
  abbrev s : Set
  s = set_of turns files

  data_some : (k : ℕ) (p : Phrase) → slice_get s.phrases k ≡ Some p → (declared : ℕ) (way : Storing) (shape : Shape) → IsDataAt s p declared way shape → LeadSomewhere (chosen [] shape.components)
  data_some k p there _ _ _ (OfAnItem common item node) = some_first (shape_of s.phrases s.constants p common item) (item_some files looks sound parts k p there common item node)
  data_some k p there _ _ _ (OfAGroup labels variable node) = tt

  -- names of parts lead to components of what the name means
  abbrev pub PartsLead : Type 0
  PartsLead =
      (site : Site) (role : Role) (place : Place) (name : List ℕ) (first : Naming) (others : List Naming) (subscript : Subscript) (led : Led) → site.set ≡ set_of turns files
      → Says site (OfReference role (Refers place name (first ∷ others) subscript)) → led_by (first ∷ others) (referent site name) ≡ Some led → LeadSomewhere (chosen led.path led.shape.components)

  pub lead_all : PartsLead → AllLead s
  lead_all parts_lead process site role place name (first ∷ others) subscript led at says leads = parts_lead site role place name first others subscript led (ap (λ (x : Site). x.set) at.is) says leads
  lead_all parts_lead process site role place name [] subscript led at says leads =
      let one = data_is s site name led.declared led.stored led.shape (ap (λ (x : Site). x.set) at.is) (led_is [] (referent site name) led leads) in
      subst (λ path. LeadSomewhere (chosen path led.shape.components)) (sym (led_path [] (referent site name) led leads)) (data_some one.place one.phrase one.there led.declared led.stored led.shape one.is)
