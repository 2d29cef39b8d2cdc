-- Phrases that are added behind others, of which none is a file, a unit, a template, a parameter, an item or a structure.
use Rattle.std.proofs.Common.{◌≡◌, Bool, true, false, List, [], ◌∷◌, ◌++◌, length, Option, Some, None, refl, sym, ap, ◌∙◌, append_assoc, append-nil}
use Rattle.hal_phrases.specs.declared.around.Around.{Around}
use Rattle.hal_phrases.specs.Phrases.{Node, Phrase, phrase, add, gathered_each, gathered_any, OfFile, OfTemplate, OfUnit, OfParameter, OfItem, OfStructure}
use Rattle.hal_fit_calls.specs.Each.{Each}
use Rattle.hal_fit_calls.proofs.Each.{each_append}

-- whether a phrase is none of these
abbrev pub is_plain : Node → Bool
is_plain (OfFile prefaces name) = false
is_plain (OfTemplate name head declarations) = false
is_plain (OfUnit name head declarations) = false
is_plain (OfParameter name output) = false
is_plain (OfItem common item) = false
is_plain (OfStructure name parts) = false
is_plain other = true

abbrev pub IsPlain : Phrase → Type 0
IsPlain p = is_plain p.node ≡ true

-- phrases that are none of these are added
pub record Adds (d e : List Phrase) : Type 0 where
  pub later : List Phrase
  pub whole : e ≡ d ++ later
  pub plain : Each IsPlain later

pub no_step : (d : List Phrase) → Adds d d
no_step d = record { later = []; whole = sym (append-nil d); plain = tt }

pub then_ : {d e f : List Phrase} → Adds d e → Adds e f → Adds d f
then_ {d = d} first second = record {
  later = first.later ++ second.later;
  whole = second.whole ∙ (ap (λ x. x ++ second.later) first.whole ∙ append_assoc d first.later second.later);
  plain = each_append IsPlain first.later second.later first.plain second.plain;
}

-- one more
pub one : (d : List Phrase) (a : Around) (n : Node) → is_plain n ≡ true → Adds d (add d a n)
one d a n is = record { later = phrase (length d) a n ∷ []; whole = refl; plain = (is, tt) }

pub each : {X : Type 0} (step : List Phrase → X → List Phrase) → ((d : List Phrase) (x : X) → Adds d (step d x)) → (d : List Phrase) (xs : List X) → Adds d (gathered_each step d xs)
each step steps d [] = no_step d
each step steps d (x ∷ xs) = then_ (steps d x) (each step steps (step d x) xs)

pub any : {X : Type 0} (step : List Phrase → X → List Phrase) → ((d : List Phrase) (x : X) → Adds d (step d x)) → (d : List Phrase) (o : Option X) → Adds d (gathered_any step d o)
any step steps d None = no_step d
any step steps d (Some x) = steps d x
