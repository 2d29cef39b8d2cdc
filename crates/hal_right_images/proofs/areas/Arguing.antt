-- Phrases that are added behind others: the references that are arguments of calls stand among them.
use Rattle.std.proofs.Common.{◌≡◌, ◌⊎◌, ℕ, Bool, true, false, List, [], ◌∷◌, ◌++◌, length, Option, Some, None, refl, sym, ap, ◌∙◌, inl, inr, append_assoc, append-nil}
use Rattle.hal_grammar.specs.Declarations.{Attribute, Declared}
use Rattle.hal_grammar.specs.Expressions.{Expression, Or, And, Compare, Cat, Sum, Product, Power, Not, Literal, Decimal, Referred, Called, Convert, Parenthesis, Expressions, NoExpressions, MoreExpressions, Reference, Refers}
use Rattle.hal_phrases.specs.declared.around.Around.{Around}
use Rattle.hal_phrases.specs.declared.role.Role.{Role}
use Rattle.hal_phrases.specs.declared.role.Role.TheVariants as role
use Rattle.hal_phrases.specs.Phrases.{Node, Phrase, phrase, add, gathered_each, gathered_any, OfExpression, OfReference, OfCallForm, OfCall, OfItem}
use Rattle.hal_phrases.specs.GatheredExpressions.{below, gathered, gathered_all, gathered_reference}
use Rattle.hal_phrases.specs.GatheredStatements.{gathered_receiver}
use Rattle.hal_scope.specs.Rules.{IsAmong}
use Rattle.hal_fit_calls.specs.Each.{Each}
use Rattle.hal_fit_calls.proofs.Each.{each_append}
use Rattle.hal_fit_rules.specs.Begun.{AreFirst}
use Rattle.hal_fit_rules.proofs.Beginning as begun
use Rattle.hal_fit_rules.proofs.Beginning.{among}
use Rattle.hal_fit_rules.proofs.BegunExpressions.{expression_first, expressions_first, reference_first, subscript_first}
use Rattle.hal_fit_names.proofs.Plain as plainly
use Rattle.hal_fit_names.proofs.Plain.{IsPart, IsPlain}
use Rattle.hal_fit_names.proofs.PlainExpressions.{expression_plain, reference_plain}
use Rattle.hal_right_images.specs.areas.Said.{ItemsStand, SaysReference, SaysTree, SaysTrees, SaysOutputs, SaysArguments, IsSaid}

-- whether a phrase has arguments
abbrev pub is_call : Node → Bool
is_call (OfCallForm place name arguments) = true
is_call (OfCall name arguments receivers) = true
is_call other = false

-- phrases are added whose arguments stand so in each set that begins with them
pub record Puts (d e : List Phrase) : Type 0 where
  pub later : List Phrase
  pub whole : e ≡ d ++ later
  pub each : (ps : List Phrase) → AreFirst e ps → Each (IsSaid ps) later

first_of : {d e : List Phrase} → Puts d e → AreFirst d e
first_of step = record { later = step.later; whole = step.whole }

pub no_step : (d : List Phrase) → Puts d d
no_step d = record { later = []; whole = sym (append-nil d); each = λ ps first. tt }

pub then_ : {d e f : List Phrase} → Puts d e → Puts e f → Puts d f
then_ {d = d} {e = e} {f = f} first second = record {
  later = first.later ++ second.later;
  whole = second.whole ∙ (ap (λ x. x ++ second.later) first.whole ∙ append_assoc d first.later second.later);
  each = λ ps begins. each_append (IsSaid ps) first.later second.later (first.each ps (begun.then_ (first_of second) begins)) (second.each ps begins);
}

plain_said : (ps : List Phrase) (p : Phrase) (n : Node) → is_call n ≡ false → SaysArguments ps p n
plain_said ps p (OfCallForm place name arguments) is = absurd (cc)
plain_said ps p (OfCall name arguments receivers) is = absurd (cc)
plain_said ps p other is = tt

-- one more, which is no call
pub one : (d : List Phrase) (a : Around) (n : Node) → is_call n ≡ false → Puts d (add d a n)
one d a n is = record { later = phrase (length d) a n ∷ []; whole = refl; each = λ ps first. (plain_said ps (phrase (length d) a n) n is, tt) }

-- a call, and the phrases behind it
pub call : (d : List Phrase) (a : Around) (n : Node) {f : List Phrase} → Puts (add d a n) f → ((ps : List Phrase) → AreFirst f ps → SaysArguments ps (phrase (length d) a n) n) → Puts d f
call d a n rest said = record {
  later = phrase (length d) a n ∷ rest.later;
  whole = rest.whole ∙ append_assoc d (phrase (length d) a n ∷ []) rest.later;
  each = λ ps first. (said ps first, rest.each ps first);
}

pub each : {X : Type 0} (step : List Phrase → X → List Phrase) → ((d : List Phrase) (x : X) → Puts d (step d x)) → (d : List Phrase) (xs : List X) → Puts d (gathered_each step d xs)
each step steps d [] = no_step d
each step steps d (x ∷ xs) = then_ (steps d x) (each step steps (step d x) xs)

pub any : {X : Type 0} (step : List Phrase → X → List Phrase) → ((d : List Phrase) (x : X) → Puts d (step d x)) → (d : List Phrase) (o : Option X) → Puts d (gathered_any step d o)
any step steps d None = no_step d
any step steps d (Some x) = steps d x

-- phrases that are added and are no items leave all items where they stand
pub further : {until d e : List Phrase} (home : ℕ) → ItemsStand until d → AreFirst d e → IsPlain home d e → ItemsStand until e
further {until = until} {d = d} home stand first plain = record { starts = begun.then_ stand.starts first; items = λ r common item within is. by r common item is (plain.each_ r within) } where
  by : (r : Phrase) (common : List Attribute) (item : Declared) → r.node ≡ OfItem common item → IsAmong r d ⊎ IsPart home r → IsAmong r until
  by r common item is (inl within) = stand.items r common item within is
  by r common item is (inr part) = absurd (let other : true ≡ false = sym (ap plainly.is_item is) ∙ part.single in cc)

-- one more phrase, behind which the items are those before it
pub own_stand : (d : List Phrase) (a : Around) (n : Node) → plainly.is_sized n ≡ false → ItemsStand d (add d a n)
own_stand d a n is = further a.home (record { starts = begun.no_step d; items = λ r common item within same. within }) (begun.one d a n) (plainly.one d a n is)

-- what stands below a phrase stands in its block
module _ (ps : List Phrase) (p : Phrase) (a : Around) (home : a.home ≡ p.around.home) (block : a.block ≡ p.around.block) (until : List Phrase) (called : length until ≡ p.number) where
  pub reference_said : (d : List Phrase) (r : Role) (t : Reference) → ItemsStand until d → AreFirst (gathered_reference d a r t) ps → SaysReference ps p r t
  unfolding gathered_reference
  reference_said d r (Refers place name path subscript) stand first =
      let n : Node = OfReference r (Refers place name path subscript) in
      record {
        phrase = phrase (length d) a n;
        among = among ps d a n (begun.then_ (subscript_first (add d a n) (below d a) subscript) first);
        home = home;
        block = block;
        is = refl;
        before = d;
        around = a;
        begun = first;
        number = refl;
        inside = block;
        until = until;
        called = called;
        beside = further a.home stand (reference_first d a r (Refers place name path subscript)) (reference_plain d a r (Refers place name path subscript));
      }

  receivers_said : (d : List Phrase) (ts : List Reference) → ItemsStand until d → AreFirst (gathered_each (gathered_receiver a role.Output) d ts) ps → SaysOutputs ps p ts
  receivers_said d [] stand first = tt
  receivers_said d (t ∷ ts) stand first =
      let e : List Phrase = gathered_reference d a role.Output t in
      let rest : AreFirst e (gathered_each (gathered_receiver a role.Output) e ts) = begun.each (gathered_receiver a role.Output) (λ f x. reference_first f a role.Output x) e ts in
      (reference_said d role.Output t stand (begun.then_ rest first), receivers_said e ts (further a.home stand (reference_first d a role.Output t) (reference_plain d a role.Output t)) first)

-- a tree that is a reference stands one step lower
tree_said : (ps : List Phrase) (p : Phrase) (d : List Phrase) (a : Around) (r : Role) (t : Expression) → a.home ≡ p.around.home → a.block ≡ p.around.block → (until : List Phrase) → length until ≡ p.number → ItemsStand until d
    → AreFirst (gathered d a r t) ps → SaysTree ps p t
unfolding gathered
tree_said ps p d a r (Referred reference) home block until called stand first =
    let n : Node = OfExpression r (Referred reference) in
    (r, reference_said ps p (below d a) home block until called (add d a n) r reference (further a.home stand (begun.one d a n) (plainly.one d a n refl)) first)
tree_said ps p d a r (Or place one others) home block until called stand first = tt
tree_said ps p d a r (And place one others) home block until called stand first = tt
tree_said ps p d a r (Compare place left relation right) home block until called stand first = tt
tree_said ps p d a r (Cat place one others) home block until called stand first = tt
tree_said ps p d a r (Sum place opening one others) home block until called stand first = tt
tree_said ps p d a r (Product place one others) home block until called stand first = tt
tree_said ps p d a r (Power place base exponent) home block until called stand first = tt
tree_said ps p d a r (Not place operand) home block until called stand first = tt
tree_said ps p d a r (Literal place literal) home block until called stand first = tt
tree_said ps p d a r (Decimal place number) home block until called stand first = tt
tree_said ps p d a r (Called place name arguments) home block until called stand first = tt
tree_said ps p d a r (Convert place conversion operand) home block until called stand first = tt
tree_said ps p d a r (Parenthesis place inner) home block until called stand first = tt

pub trees_said : (ps : List Phrase) (p : Phrase) (d : List Phrase) (a : Around) (r : Role) (ts : Expressions) → a.home ≡ p.around.home → a.block ≡ p.around.block → (until : List Phrase) → length until ≡ p.number → ItemsStand until d
    → AreFirst (gathered_all d a r ts) ps → SaysTrees ps p ts
unfolding gathered_all
trees_said ps p d a r NoExpressions home block until called stand first = tt
trees_said ps p d a r (MoreExpressions t ts) home block until called stand first =
    let e : List Phrase = gathered d a r t in (
      tree_said ps p d a r t home block until called stand (begun.then_ (expressions_first e a r ts) first),
      trees_said ps p e a r ts home block until called (further a.home stand (expression_first d a r t) (expression_plain d a r t)) first,
    )

-- ASSIGN arguments
pub outputs_said : (ps : List Phrase) (p : Phrase) (d : List Phrase) (a : Around) (ts : List Reference) → a.home ≡ p.around.home → a.block ≡ p.around.block → (until : List Phrase) → length until ≡ p.number → ItemsStand until d
    → AreFirst (gathered_each (gathered_receiver a role.Output) d ts) ps → SaysOutputs ps p ts
outputs_said ps p d a ts home block until called stand first = receivers_said ps p a home block until called d ts stand first
