-- The views of phrases, one after another, each of them once.
use Rattle.std.specs.Prelude.{ℕ, List, [], ◌∷◌, ◌++◌, map, Option, Some, None, slice_get, if◌then◌else◌}
use Rattle.std.specs.List.{list_any}
use Rattle.hal_grammar.specs.Leaves.{Naming}
use Rattle.hal_grammar.specs.Expressions.{Subscript, Unsubscripted}
use Rattle.hal_phrases.specs.Phrases.{Phrase}
use Rattle.hal_constants.specs.Known.{Known}
use Rattle.hal_meaning.specs.Places.{is_in_unit}
use Rattle.hal_views.specs.Views.{View, declares_stored, distinct, same_view, shape_at, view_of, views_at, views_named}

-- names without their places
abbrev pub plain_names : List Naming → List (List ℕ)
plain_names path = map (λ (n : Naming). n.name) path

-- a view, where there is one
abbrev pub listed : Option View → List View
listed None = []
listed (Some v) = v ∷ []

-- the view of a phrase that names what the phrase with this number declares
abbrev pub views_of_declared : List Phrase → Known → Phrase → List Naming → Subscript → ℕ → List View
views_of_declared ps vs p path subscript k =
    elim (slice_get ps k) [
      | None ↦ []
      | Some d ↦ if declares_stored ps vs d d.node then view_of ps vs p d.number (shape_at ps vs d d.node) path subscript ∷ [] else []
    ]

-- the view of a name alone
abbrev pub views_of_name : List Phrase → Known → Phrase → List ℕ → List View
views_of_name ps vs p name = views_named ps vs p name [] Unsubscripted

-- the views that were found, and one more where it isn't there
abbrev pub noted : List View → View → List View
noted found v = if list_any (same_view v) found then found else found ++ (v ∷ [])

-- the same with the views of a phrase
abbrev pub views_of_phrase : List Phrase → Known → Phrase → List View
views_of_phrase ps vs p = if is_in_unit ps p.around.home then views_at ps vs p p.node else []

abbrev pub with_phrase : List Phrase → Known → List View → Phrase → List View
with_phrase ps vs found p = distinct found (views_of_phrase ps vs p)

-- the same with those of phrases
unfoldable pub with_phrases : List Phrase → Known → List View → List Phrase → List View
with_phrases ps vs found [] = found
with_phrases ps vs found (p ∷ rest) = with_phrases ps vs (with_phrase ps vs found p) rest
