use Rattle.std.proofs.Common.{◌∙◌, [], ◌∷◌, ap, map, sym}
use Rattle.hal_tree.specs.SeenExpressions.{seen_subscript}
use Rattle.hal_tree.specs.SeenLeaves.{seen_name}
use Rattle.hal_phrases.specs.SeenPhrases.{seen_phrase}
use Rattle.hal_names.specs.SeenNames.{seen_names}
use Rattle.hal_constants.specs.SeenKnown.{seen_known}
use Rattle.hal_storage.specs.elements.SeenComponents.{seen_shape}
use Rattle.hal_views.specs.Views.{View}
use Rattle.hal_limits.proofs.Kept.{no_view, view_there}
use Rattle.hal_limits.proofs.views.view_in.Goals as goal

pub returns-in_default-at : goal.returns-in_default-at
returns-in_default-at c =
    no_view (seen_names c.args.names.now) (seen_known c.args.known.now) c.args.shapes.now c.requires.kept c.args.number (seen_phrase c.in-Some.declared) (sym c.in-Some.ensures) (seen_phrase c.args.phrase.now)
    (map seen_name c.args.path.now) (seen_subscript c.args.subscript.now) (sym c.in_default-at.ensures)

pub returns : goal.returns
returns c =
    ap (λ (v : View). v ∷ []) c.in_ok-view.ensures
    ∙ view_there (seen_names c.args.names.now) (seen_known c.args.known.now) c.args.shapes.now c.requires.kept c.args.number (seen_phrase c.in-Some.declared) (sym c.in-Some.ensures) (seen_phrase c.args.phrase.now)
    (map seen_name c.args.path.now) (seen_subscript c.args.subscript.now) (seen_shape c.in-Some-at.shape.now) (sym c.in-Some-at.ensures)
