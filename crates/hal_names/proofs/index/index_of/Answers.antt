use Rattle.std.proofs.Common.{rules, ◌<◌, ◌≤◌, List, length, map, subst, ap}
use Rattle.std.proofs.lemmas.List.{drop_all}
use Rattle.hal_phrases.specs.Phrases.{Phrase}
use Rattle.hal_phrases.specs.SeenPhrases.{seen_phrase}
use Rattle.hal_names.proofs.Indexed.{IsPart, next_noted, all_noted}
use Rattle.hal_names.proofs.index.index_of.Goals as goal

pub loop-phrase-preserved : goal.loop-phrase-preserved
loop-phrase-preserved c =
    let within : c.loop-phrase.phrase-index < length c.args.phrases.now = search rules in
    next_noted _ _ _ c.args.phrases.now c.loop-phrase.phrase-index c.phrase-item.result within c.phrase-item.is c.loop-phrase.invariant c.in_ok-note.ensures

pub returns : goal.returns
returns c =
    let past : length c.args.phrases.now ≤ c.loop-phrase.phrase-index = search rules in
    all_noted _ _ (subst (λ (ps : List Phrase). IsPart c.loop-phrase.index.entries (map seen_phrase c.args.phrases.now) ps) (ap (map seen_phrase) (drop_all c.loop-phrase.phrase-index c.args.phrases.now past)) c.loop-phrase.invariant)
