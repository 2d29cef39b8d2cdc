-- The views of phrases, noted one after another, are those of the set.
use Rattle.std.proofs.Common.{◌≡◌, ◌∙◌, List, [], ◌∷◌, ◌++◌, flat_map, refl}
use Rattle.hal_phrases.specs.Phrases.{Phrase}
use Rattle.hal_constants.specs.Known.{Known}
use Rattle.hal_views.specs.Views.{View, distinct, views_of}
use Rattle.hal_limits.specs.Noting.{noted, views_of_phrase, with_phrase, with_phrases}

-- views behind others
noted_behind : (found vs ws : List View) → distinct (distinct found vs) ws ≡ distinct found (vs ++ ws)
noted_behind found [] ws = refl
noted_behind found (v ∷ vs) ws = noted_behind (noted found v) vs ws

phrases_noted : (ps : List Phrase) (vs : Known) (found : List View) (rest : List Phrase) → with_phrases ps vs found rest ≡ distinct found (flat_map (views_of_phrase ps vs) rest)
unfolding with_phrases
phrases_noted ps vs found [] = refl
phrases_noted ps vs found (p ∷ rest) =
    phrases_noted ps vs (with_phrase ps vs found p) rest ∙ noted_behind found (views_of_phrase ps vs p) (flat_map (views_of_phrase ps vs) rest)

pub all_noted : (ps : List Phrase) (vs : Known) → with_phrases ps vs [] ps ≡ views_of ps vs
all_noted ps vs = phrases_noted ps vs [] ps
