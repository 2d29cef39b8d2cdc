use Rattle.std.proofs.Common.{rules, ◌+◌, drop, length, refl}
use Rattle.std.proofs.lemmas.List.{drop_more}
use Rattle.std.proofs.lemmas.Option.{slice_get_past, slice_get_read}
use Rattle.hal_phrases.specs.SeenPhrases.{seen_node}
use Rattle.hal_names.specs.SeenNames.{seen_names}
use Rattle.hal_constants.specs.SeenKnown.{seen_known}
use Rattle.hal_templates.proofs.Pairs.{ended, none_there, another, one_same}
use Rattle.hal_templates.proofs.items.same_entries.Goals as goal

pub returns-in_default : goal.returns-in_default
returns-in_default c =
    none_there seen_node seen_node (seen_names c.args.names.now) (seen_known c.args.known.now) c.args.home c.args.unit c.args.ours.now c.args.theirs.now c.loop-one.one-index c.loop-one.place
    c.one-item.result (drop (c.loop-one.one-index + 1) c.args.ours.now) (search (rules, drop_more c.args.ours.now c.loop-one.one-index c.one-item.result c.loop-one-test.true, c.one-item.is))
    (slice_get_past c.args.theirs.now c.loop-one.place (search rules)) c.loop-one.invariant

pub returns-then-not-branch : goal.returns-then-not-branch
returns-then-not-branch c =
    another seen_node seen_node (seen_names c.args.names.now) (seen_known c.args.known.now) c.args.home c.args.unit c.args.ours.now c.args.theirs.now c.loop-one.one-index c.loop-one.place
    c.one-item.result (drop (c.loop-one.one-index + 1) c.args.ours.now) c.in-Some.other.now (search (rules, drop_more c.args.ours.now c.loop-one.one-index c.one-item.result c.loop-one-test.true, c.one-item.is))
    (slice_get_read c.args.theirs.now (length c.args.theirs.now) c.loop-one.place c.in-Some.other.now refl (search rules) (search rules)) (search rules) c.loop-one.invariant

pub loop-one-preserved : goal.loop-one-preserved
loop-one-preserved c =
    one_same seen_node seen_node (seen_names c.args.names.now) (seen_known c.args.known.now) c.args.home c.args.unit c.args.ours.now c.args.theirs.now c.loop-one.one-index c.loop-one.place
    c.one-item.result (drop (c.loop-one.one-index + 1) c.args.ours.now) c.in-Some.other.now (search (rules, drop_more c.args.ours.now c.loop-one.one-index c.one-item.result c.loop-one-test.true, c.one-item.is))
    (slice_get_read c.args.theirs.now (length c.args.theirs.now) c.loop-one.place c.in-Some.other.now refl (search rules) (search rules)) (search rules) c.loop-one.invariant

pub returns : goal.returns
returns c = ended seen_node seen_node (seen_names c.args.names.now) (seen_known c.args.known.now) c.args.home c.args.unit c.args.ours.now c.args.theirs.now c.loop-one.one-index c.loop-one.place c.loop-one-test.false c.loop-one.invariant
