-- The views of a unit are those of the phrases of its home.
use Rattle.std.proofs.Common.{◌≡◌, Bool, false, List, filter, refl, if◌then◌else◌}
use Rattle.hal_phrases.specs.Phrases.{Phrase}
use Rattle.hal_names.specs.Spans.{is_of}
use Rattle.hal_names.proofs.Spanned.{of_those_alone}
use Rattle.hal_agreement.specs.Sites.{Site}
use Rattle.hal_code.specs.declared.row.View.{View}
use Rattle.hal_link.specs.Shapes.{Shapes}
use Rattle.hal_link.specs.Views.{with_phrase, with_phrases}

not_there : {X : Type 0} (b : Bool) (x y : X) → b ≡ false → (if b then x else y) ≡ y
not_there b x y none = rw none refl

pub views_of_home : (shapes : Shapes) (site : Site) (views : List View) (rs ps : List Phrase) → filter (is_of site.unit) rs ≡ filter (is_of site.unit) ps
    → with_phrases shapes site views rs ≡ with_phrases shapes site views ps
unfolding with_phrases
views_of_home shapes site views rs ps same =
    of_those_alone (with_phrases shapes site) (with_phrase shapes site) site.unit (λ (so_far : List View) p more. refl)
    (λ (so_far : List View) p none. not_there (is_of site.unit p) _ so_far none) rs ps views same
