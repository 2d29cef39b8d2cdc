use Rattle.std.proofs.Common.{◌≡◌, map, drop}
use Rattle.hal_phrases.specs.SeenPhrases.{seen_phrase}
use Rattle.hal_gen_expr.specs.SeenSites.{seen_site}
use Rattle.hal_link.specs.Views.{with_phrases}
use Rattle.hal_link.proofs.views.push_phrases.Given as goal

abbrev pub invariant-loop-phrase : goal.invariant-loop-phrase
invariant-loop-phrase l =
    with_phrases l.site.shapes.now (seen_site l.site) l.into.list.items (map seen_phrase (drop l.phrase-index l.phrases)) ≡ with_phrases l.site.shapes.now (seen_site l.site) l.fn.into.list.items (map seen_phrase l.phrases)
