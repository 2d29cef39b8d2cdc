use Rattle.std.proofs.Common.{◌∙◌, ap, map}
use Rattle.hal_tree.specs.SeenUnits.{seen_file}
use Rattle.hal_names.specs.SeenNames.{seen_names}
use Rattle.hal_constants.specs.SeenKnown.{seen_known}
use Rattle.hal_storage.specs.layout.SeenLayout.{seen_layout}
use Rattle.hal_storage.specs.sets.SeenBodies.{seen_body}
use Rattle.hal_compile.proofs.Running.{linked_set, set_as, the_set, whole_set}
use Rattle.hal_compile.proofs.linking.image_laid.Goals as goal

pub returns : goal.returns
returns c =
    let files = map seen_file c.args.files.now in
    let bodies = map seen_body c.in_ok-bodies_of.field-0.items in
    let ps = seen_names c.names-names.result.now in
    let vs = seen_known c.args.known.now in
    let l = seen_layout c.args.layout.now in
    let named = ap seen_names c.names-names.ensures ∙ c.requires.names in
    linked_set files (the_set ps vs l bodies c.from.result) c.image_of_set.result
    (set_as files ps vs l bodies c.from.result named c.requires.constants c.requires.layout c.in_ok-bodies_of.ensures c.from.ensures) c.image_of_set.ensures

pub image_of_set-requires-clause-whole : goal.image_of_set-requires-clause-whole
image_of_set-requires-clause-whole c =
    let files = map seen_file c.args.files.now in
    let bodies = map seen_body c.in_ok-bodies_of.field-0.items in
    let ps = seen_names c.names-names.result.now in
    let vs = seen_known c.args.known.now in
    let l = seen_layout c.args.layout.now in
    let named = ap seen_names c.names-names.ensures ∙ c.requires.names in
    whole_set files (the_set ps vs l bodies c.from.result)
    (set_as files ps vs l bodies c.from.result named c.requires.constants c.requires.layout c.in_ok-bodies_of.ensures c.from.ensures) c.requires.whole
