-- Phrases that are added one behind another; and of those that open a file, a template or a unit, that what they tell stands among the phrases.
use Rattle.std.proofs.Common.{◌≡◌, ◌∙◌, ◌⊎◌, inl, inr, ⊎_elim, ℕ, List, [], ◌∷◌, ◌++◌, length, Option, Some, None, refl, sym, ap, subst, append-nil, append_assoc}
use Rattle.hal_grammar.specs.Leaves.{Naming}
use Rattle.hal_grammar.specs.Declarations.{Declaration}
use Rattle.hal_grammar.specs.Units.{Head}
use Rattle.hal_phrases.specs.declared.around.Around.{Around}
use Rattle.hal_phrases.specs.Phrases.{Node, Phrase, phrase, add, gathered_each, gathered_any, OfTemplate, OfUnit}
use Rattle.hal_names.specs.declared.key.Key.{Key}
use Rattle.hal_names.specs.declared.key.Space.{Space}
use Rattle.hal_names.specs.declared.key.Space.TheVariants as space
use Rattle.hal_names.specs.Keys.{declared_at, declared_by}
use Rattle.hal_scope.specs.Rules.{IsAmong}
use Rattle.hal_templates.specs.Entries.{entries}
use Rattle.hal_templates.specs.Templates.{home_of}

-- the name of the unit of a file, where the key is one
abbrev pub unit_in : Space → List ℕ → Option (List ℕ)
unit_in space.Unit name = Some name
unit_in other name = None

abbrev pub unit_key : Option Key → Option (List ℕ)
unit_key None = None
unit_key (Some q) = unit_in q.space q.name

-- a template's or unit's declarations, and the block to which their names belong
abbrev pub Body : Type 0
Body = ℕ × List Declaration

abbrev pub body_of : Phrase → Node → Option Body
body_of p (OfTemplate name head declarations) = Some (home_of p head, declarations)
body_of p (OfUnit name head declarations) = Some (p.number, declarations)
body_of p other = None

-- a phrase of this node is there, whose name belongs to this block
pub record IsThere (ps : List Phrase) (home : ℕ) (n : Node) : Type 0 where
  pub it : Phrase
  pub among : IsAmong it ps
  pub node : it.node ≡ n
  pub at : it.around.home ≡ home

-- each of a list
abbrev pub Every : {X : Type 0} → (X → Type 0) → List X → Type 0
Every P [] = Unit {0}
Every P (x ∷ xs) = P x × Every P xs

abbrev pub AreThere : List Phrase → ℕ → List Node → Type 0
AreThere ps home ns = Every (IsThere ps home) ns

-- a unit of this name is there in this file
pub record IsUnitThere (ps : List Phrase) (file : ℕ) (name : List ℕ) : Type 0 where
  pub naming : Naming
  pub head : Head
  pub declarations : List Declaration
  pub named : naming.name ≡ name
  pub unit : IsThere ps file (OfUnit naming head declarations)

abbrev pub HasUnit : List Phrase → ℕ → Option (List ℕ) → Type 0
HasUnit ps file None = Unit {0}
HasUnit ps file (Some name) = IsUnitThere ps file name

abbrev pub HasBody : List Phrase → Option Body → Type 0
HasBody ps None = Unit {0}
HasBody ps (Some body) = AreThere ps body.0 (entries body.1)

pub record IsFollowed (ps : List Phrase) (p : Phrase) : Type 0 where
  pub unit : HasUnit ps p.number (unit_key (declared_by p))
  pub body : HasBody ps (body_of p p.node)

-- phrases are added
pub record Adds (d e : List Phrase) : Type 0 where
  pub more : List Phrase
  pub whole : e ≡ d ++ more
  pub followed : (p : Phrase) → IsAmong p more → IsFollowed e p

-- a member of one of two lists
pub among_first : {X : Type 0} (x : X) (xs ys : List X) → IsAmong x xs → IsAmong x (xs ++ ys)
among_first x [] ys there = absurd there
among_first x (z ∷ xs) ys (inl same) = inl same
among_first x (z ∷ xs) ys (inr later) = inr (among_first x xs ys later)

pub among_second : {X : Type 0} (x : X) (xs ys : List X) → IsAmong x ys → IsAmong x (xs ++ ys)
among_second x [] ys there = there
among_second x (z ∷ xs) ys there = inr (among_second x xs ys there)

pub among_either : {X : Type 0} (x : X) (xs ys : List X) → IsAmong x (xs ++ ys) → IsAmong x xs ⊎ IsAmong x ys
among_either x [] ys there = inr there
among_either x (z ∷ xs) ys (inl same) = inl (inl same)
among_either x (z ∷ xs) ys (inr later) = ⊎_elim (λ first. inl (inr first)) (λ second. inr second) (among_either x xs ys later)

-- more phrases behind
pub there_behind : (ps more : List Phrase) (home : ℕ) (n : Node) → IsThere ps home n → IsThere (ps ++ more) home n
there_behind ps more home n there = record { it = there.it; among = among_first there.it ps more there.among; node = there.node; at = there.at }

pub all_behind : (ps more : List Phrase) (home : ℕ) (ns : List Node) → AreThere ps home ns → AreThere (ps ++ more) home ns
all_behind ps more home [] there = tt
all_behind ps more home (n ∷ ns) there = (there_behind ps more home n there.0, all_behind ps more home ns there.1)

unit_behind : (ps more : List Phrase) (file : ℕ) (o : Option (List ℕ)) → HasUnit ps file o → HasUnit (ps ++ more) file o
unit_behind ps more file None has = tt
unit_behind ps more file (Some name) has = record {
  naming = has.naming;
  head = has.head;
  declarations = has.declarations;
  named = has.named;
  unit = there_behind ps more file (OfUnit has.naming has.head has.declarations) has.unit;
}

body_behind : (ps more : List Phrase) (o : Option Body) → HasBody ps o → HasBody (ps ++ more) o
body_behind ps more None has = tt
body_behind ps more (Some body) has = all_behind ps more body.0 (entries body.1) has

followed_behind : (ps more : List Phrase) (p : Phrase) → IsFollowed ps p → IsFollowed (ps ++ more) p
followed_behind ps more p is = record {
  unit = unit_behind ps more p.number (unit_key (declared_by p)) is.unit;
  body = body_behind ps more (body_of p p.node) is.body;
}

pub nothing : (d : List Phrase) → Adds d d
nothing d = record { more = []; whole = sym (append-nil d); followed = λ p no. absurd no }

pub then_ : {d e f : List Phrase} → Adds d e → Adds e f → Adds d f
then_ {d = d} {e = e} {f = f} first second = record {
  more = first.more ++ second.more;
  whole = second.whole ∙ (ap (λ (x : List Phrase). x ++ second.more) first.whole ∙ append_assoc d first.more second.more);
  followed = λ p there.
      ⊎_elim (λ left. subst (λ (x : List Phrase). IsFollowed x p) (sym second.whole) (followed_behind e second.more p (first.followed p left)))
      (λ right. second.followed p right) (among_either p first.more second.more there);
}

-- a phrase, and those behind it
pub opening : (d : List Phrase) (a : Around) (n : Node) (e : List Phrase) → IsFollowed e (phrase (length d) a n) → Adds (add d a n) e → Adds d e
opening d a n e is inner = record {
  more = phrase (length d) a n ∷ inner.more;
  whole = inner.whole ∙ append_assoc d (phrase (length d) a n ∷ []) inner.more;
  followed = every;
}
  where
    every : (p : Phrase) → IsAmong p (phrase (length d) a n ∷ inner.more) → IsFollowed e p
    every p (inl same) = subst (IsFollowed e) (sym same) is
    every p (inr later) = inner.followed p later

-- the phrase with this number, around and node opens nothing
abbrev pub IsQuiet : ℕ → Around → Node → Type 0
IsQuiet k a n = (unit_key (declared_at k a n) ≡ None) × (body_of (phrase k a n) n ≡ None)

pub one : (d : List Phrase) (a : Around) (n : Node) → IsQuiet (length d) a n → Adds d (add d a n)
one d a n quiet = opening d a n (add d a n) (record {
  unit = subst (HasUnit (add d a n) (length d)) (sym quiet.0) tt;
  body = subst (HasBody (add d a n)) (sym quiet.1) tt;
}) (nothing (add d a n))

pub each : {X : Type 0} (step : List Phrase → X → List Phrase) → ((d : List Phrase) (x : X) → Adds d (step d x)) → (d : List Phrase) (xs : List X) → Adds d (gathered_each step d xs)
each step steps d [] = nothing d
each step steps d (x ∷ xs) = then_ (steps d x) (each step steps (step d x) xs)

pub any : {X : Type 0} (step : List Phrase → X → List Phrase) → ((d : List Phrase) (x : X) → Adds d (step d x)) → (d : List Phrase) (o : Option X) → Adds d (gathered_any step d o)
any step steps d None = nothing d
any step steps d (Some x) = steps d x

-- what is there stays
pub stays : {d e : List Phrase} {home : ℕ} {n : Node} → Adds d e → IsThere d home n → IsThere e home n
stays {d = d} {home = home} {n = n} adds there = subst (λ (ps : List Phrase). IsThere ps home n) (sym adds.whole) (there_behind d adds.more home n there)

pub all_stay : {d e : List Phrase} (home : ℕ) (ns : List Node) → Adds d e → AreThere d home ns → AreThere e home ns
all_stay {d = d} home ns adds there = subst (λ (ps : List Phrase). AreThere ps home ns) (sym adds.whole) (all_behind d adds.more home ns there)

pub is_there : (d : List Phrase) (a : Around) (n : Node) → IsThere (add d a n) a.home n
is_there d a n = record { it = phrase (length d) a n; among = among_second (phrase (length d) a n) d (phrase (length d) a n ∷ []) (inl refl); node = refl; at = refl }

pub there_both : (ps : List Phrase) (home : ℕ) (xs ys : List Node) → AreThere ps home xs → AreThere ps home ys → AreThere ps home (xs ++ ys)
there_both ps home [] ys first second = second
there_both ps home (x ∷ xs) ys first second = (first.0, there_both ps home xs ys first.1 second)
