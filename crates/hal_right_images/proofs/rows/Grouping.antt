-- Phrases that are added behind others: those that say of a group that it has own places stand in a group of their unit, and units stand directly in units or files.
use Rattle.std.proofs.Common.{◌≡◌, Bool, true, false, List, [], ◌∷◌, ◌++◌, length, Option, Some, None, refl, sym, ap, ◌∙◌, append_assoc, append-nil}
use Rattle.hal_grammar.specs.Leaves.{Naming}
use Rattle.hal_grammar.specs.Expressions.{Expression}
use Rattle.hal_phrases.specs.declared.around.Around.{Around}
use Rattle.hal_phrases.specs.declared.role.Role.{Role}
use Rattle.hal_phrases.specs.declared.role.Role.TheVariants as role
use Rattle.hal_phrases.specs.Roles as roles
use Rattle.hal_phrases.specs.Phrases.{Node, Phrase, phrase, add, gathered_each, gathered_any, OfExpression, OfGroup}
use Rattle.hal_phrases.specs.GatheredExpressions.{below}
use Rattle.hal_meaning.specs.Bodies.{is_unit}
use Rattle.hal_meaning.specs.Places.{says_for_or_case}
use Rattle.hal_fit_calls.specs.Each.{Each}
use Rattle.hal_fit_calls.proofs.Each.{each_append}
use Rattle.hal_right_images.specs.rows.Homes.{IsOuter, StandsPlaced}
use Rattle.hal_right_images.proofs.rows.Told.{Begins, begins_on, there}

-- phrases are added that stand so in each set that begins with them
pub record Puts (d e : List Phrase) : Type 0 where
  pub later : List Phrase
  pub whole : e ≡ d ++ later
  pub each : (ps : List Phrase) → Begins e ps → Each (StandsPlaced ps) later

pub no_step : (d : List Phrase) → Puts d d
no_step d = record { later = []; whole = sym (append-nil d); each = λ ps first. tt }

pub then_ : {d e f : List Phrase} → Puts d e → Puts e f → Puts d f
then_ {d = d} {e = e} {f = f} first second = record {
  later = first.later ++ second.later;
  whole = second.whole ∙ (ap (λ x. x ++ second.later) first.whole ∙ append_assoc d first.later second.later);
  each = λ ps begins. each_append (StandsPlaced ps) first.later second.later (first.each ps (begins_on e f ps second.later second.whole begins)) (second.each ps begins);
}

-- one more, which says nothing of a group and is no unit
pub one : (d : List Phrase) (a : Around) (n : Node) → says_for_or_case n ≡ false → is_unit n ≡ false → Puts d (add d a n)
one d a n isnt no_unit = record { later = phrase (length d) a n ∷ []; whole = refl; each = λ ps first. (((λ is. absurd (cc)), (λ is. absurd (cc))), tt) }

-- one that stands right behind its group
pub said : (d : List Phrase) (a : Around) (labels : List Naming) (looping : Bool) (n : Node) → is_unit n ≡ false → Puts (add d a (OfGroup labels looping)) (add (add d a (OfGroup labels looping)) (below d a) n)
said d a labels looping n no_unit =
    let e : List Phrase = add d a (OfGroup labels looping) in
    let own : Phrase = phrase (length e) (below d a) n in
    record {
      later = own ∷ [];
      whole = refl;
      each = λ ps first. (
        (
          (λ is. record {
            group = phrase (length d) a (OfGroup labels looping);
            there = there ps d a (OfGroup labels looping) (begins_on e (add e (below d a) n) ps (own ∷ []) refl first);
            labels = labels;
            looping = looping;
            is = refl;
            home = refl;
          }),
          (λ is. absurd (cc)),
        ),
        tt,
      );
    }

-- what stands around has a unit or a file as its home, in each set that begins so
abbrev pub Outside : Around → List Phrase → Type 0
Outside a d = (ps : List Phrase) → Begins d ps → IsOuter ps a.home

pub outside_on : (a : Around) {d e : List Phrase} → Puts d e → Outside a d → Outside a e
outside_on a {d = d} {e = e} step outside ps begins = outside ps (begins_on d e ps step.later step.whole begins)

-- a unit, directly in another one or in a file
pub unit_put : (d : List Phrase) (a : Around) (n : Node) → says_for_or_case n ≡ false → a.block ≡ a.home → Outside a d → Puts d (add d a n)
unit_put d a n isnt direct outside =
    record {
      later = phrase (length d) a n ∷ [];
      whole = refl;
      each = λ ps first. (((λ is. absurd (cc)), (λ is. record { direct = direct; outer = outside ps (begins_on d (add d a n) ps (phrase (length d) a n ∷ []) refl first) })), tt);
    }

pub each : {X : Type 0} (step : List Phrase → X → List Phrase) → ((d : List Phrase) (x : X) → Puts d (step d x)) → (d : List Phrase) (xs : List X) → Puts d (gathered_each step d xs)
each step steps d [] = no_step d
each step steps d (x ∷ xs) = then_ (steps d x) (each step steps (step d x) xs)

pub any : {X : Type 0} (step : List Phrase → X → List Phrase) → ((d : List Phrase) (x : X) → Puts d (step d x)) → (d : List Phrase) (o : Option X) → Puts d (gathered_any step d o)
any step steps d None = no_step d
any step steps d (Some x) = steps d x

-- the number of a DO CASE has a role of its own
abbrev pub is_case : Role → Bool
is_case role.Case = true
is_case other = false

pub no_case : (r : Role) (t : Expression) → is_case r ≡ false → says_for_or_case (OfExpression r t) ≡ false
no_case role.Case t isnt = absurd (cc)
no_case other t isnt = refl

pub under_none : (r own : Role) → is_case own ≡ false → is_case (roles.under r own) ≡ false
under_none role.Event own isnt = refl
under_none role.EventOrTime own isnt = refl
under_none other own isnt = isnt
