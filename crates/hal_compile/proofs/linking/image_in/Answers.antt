use Rattle.std.proofs.Common.{◌∙◌, ap₂, List, map}
use Rattle.hal_phrases.specs.Phrases.{Phrase}
use Rattle.hal_constants.specs.Known.{Known}
use Rattle.hal_tree.specs.SeenUnits.{seen_file}
use Rattle.hal_storage.specs.layout.Layouts.{layout_of}
use Rattle.hal_storage.specs.layout.SeenLayout.{seen_layout}
use Rattle.hal_compile.proofs.Running.{image_found, room_for}
use Rattle.hal_compile.proofs.linking.image_in.Goals as goal

pub image_laid-requires-clause-narrow : goal.image_laid-requires-clause-narrow
image_laid-requires-clause-narrow c = room_for (seen_layout c.in_ok-layout.layout) c.is_narrow.result c.is_narrow.ensures c.if-is_narrow.true

pub returns-then-is_narrow : goal.returns-then-is_narrow
returns-then-is_narrow c =
    let files = map seen_file c.args.files.now in
    image_found files c.image_laid.result (seen_layout c.in_ok-layout.layout)
    (c.in_ok-layout.ensures ∙ ap₂ (λ (ps : List Phrase) (vs : Known). layout_of ps vs) c.requires.names c.requires.constants)
    (room_for (seen_layout c.in_ok-layout.layout) c.is_narrow.result c.is_narrow.ensures c.if-is_narrow.true) c.image_laid.ensures
