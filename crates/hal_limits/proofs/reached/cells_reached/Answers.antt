use Rattle.std.proofs.Common.{◌∙◌, ap, sym}
use Rattle.hal_phrases.specs.SeenPhrases.{seen_phrase}
use Rattle.hal_names.specs.SeenNames.{seen_names}
use Rattle.hal_constants.specs.SeenKnown.{seen_known}
use Rattle.hal_storage.specs.elements.SeenComponents.{seen_shape}
use Rattle.hal_limits.specs.Counts.{capped}
use Rattle.hal_limits.specs.SeenViews.{seen_view}
use Rattle.hal_limits.proofs.Kept.{cells_there}
use Rattle.hal_limits.proofs.reached.cells_reached.Goals as goal

pub returns-in-Some-at : goal.returns-in-Some-at
returns-in-Some-at c =
    c.cells_in.ensures
    ∙ ap capped (cells_there (seen_names c.args.names.now) (seen_known c.args.known.now) c.args.shapes.now (seen_view c.args.view.now) (seen_phrase c.in-Some.declared) (seen_shape c.in-Some-at.shape.now) c.requires.kept (sym c.in-Some.ensures) (sym c.in-Some-at.ensures))
