use Rattle.std.specs.Prelude.{◌≡◌, List, length, true}
use Rattle.std.proofs.Common.{refl, sym, ap, subst, ◌∙◌}
use Rattle.std.proofs.lemmas.List.{length-map}
use Rattle.hal_values.specs.declared.tables.Tables.{Tables}
use Rattle.hal_code.specs.declared.image.ImageParts.{ImageParts}
use Rattle.hal_code.specs.declared.row.Process.{Process}
use Rattle.hal_code.specs.declared.row.View.{View}
use Rattle.hal_code.specs.Right.{views_lie}
use Rattle.hal_meaning.specs.Bodies.{processes_of}
use Rattle.hal_meaning.specs.ReportNames.{path_of}
use Rattle.hal_meaning.specs.Sets.{Set, set_of}
use Rattle.hal_link.specs.CalledViews.{views_of}
use Rattle.hal_link.proofs.Linked.{image_placed}
use Rattle.hal_right_images.proofs.rows.HomingFiles.{all_home}
use Rattle.hal_right_images.proofs.rows.Made.{image_is}
use Rattle.hal_right_images.proofs.rows.Purposed.{all_purposed}
use Rattle.hal_right_images.proofs.views.Linked.{views_named}
use Rattle.hal_right_images.proofs.views.Together.{views_all}
use Rattle.hal_right_images.proofs.views.laws.views_lie_where_all_that_they_are_for_does.Goals as goal

pub returns : goal.returns
returns c turns files image is lie =
    let s : Set = set_of turns files in
    let made = image_is s (views_of s) image is in
    let long : length image.processes ≡ length (processes_of s.phrases) =
    sym (length-map image.processes (λ (p : Process). p.name)) ∙ (ap (λ (t : Tables). length t.processes) (image_placed turns files (views_of s) image is).tables ∙ length-map (processes_of s.phrases) (path_of s.phrases)) in
    subst (λ (views : List View). views_lie image 0 views ≡ true) (ap (λ (x : ImageParts). x.views) made.1)
    (views_all s image lie long (views_of s) (all_purposed s (all_home files)) (views_named s (views_of s) files refl refl image is))
