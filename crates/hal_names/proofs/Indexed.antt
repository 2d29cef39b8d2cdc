-- The index of phrases, phrase by phrase.
use Rattle.std.proofs.Common.{◌≡◌, ◌<◌, ◌+◌, ℕ, Bool, true, false, cond, List, [], ◌∷◌, length, drop, get_or, map, Option, Some, None, refl, sym, ◌∙◌, ap, subst, add-one}
use Rattle.std.proofs.Math.Seq.{drop-cons}
use Rattle.std.specs.Prelude.{if◌then◌else◌}
use Rattle.std.specs.Option.{option_or}
use Rattle.std.specs.Map.{lookup}
use Rattle.hal_phrases.specs.declared.node.Phrase as Rust
use Rattle.hal_phrases.specs.Phrases.{Phrase}
use Rattle.hal_phrases.specs.SeenPhrases.{seen_phrase}
use Rattle.hal_names.specs.declared.key.Key.{Key}
use Rattle.hal_names.specs.contracts.key.KeyPartialEq.TheImpl as derived
use Rattle.hal_names.specs.Keys.{declared_by, is_key, same_key, own}
use Rattle.hal_names.specs.Index.{found, declares, IsIndex, IsNoted}
use Rattle.hal_names.proofs.KeyEquality.{derived-same, same_key-Decides, lookup-found}

-- the entries of a map, and the phrases that are still to be noted
pub record IsPart (entries : List (Key × ℕ)) (whole rest : List Phrase) : Type 0 where
  pub finds : (q : Key) → option_or (found entries q) (own rest q) ≡ own whole q

or_none : (x : Option ℕ) → option_or x None ≡ x
or_none None = refl
or_none (Some n) = refl

or_or : (x y z : Option ℕ) → option_or (option_or x y) z ≡ option_or x (option_or y z)
or_or None y z = refl
or_or (Some n) y z = refl

own-cons : (p : Phrase) (ps : List Phrase) (q : Key) → own (p ∷ ps) q ≡ option_or (declares p q) (own ps q)
unfolding own
own-cons p ps q = by (is_key q (declared_by p))
  where
    by : (b : Bool) → (if b then Some p.number else own ps q) ≡ option_or (if b then Some p.number else None) (own ps q)
    by true = refl
    by false = refl

pub nothing_noted : (ps : List Phrase) → IsPart [] ps ps
nothing_noted ps = record { finds = λ q. refl }

pub one_noted : (old new : List (Key × ℕ)) (whole rest : List Phrase) (p : Phrase) → IsPart old whole (p ∷ rest) → IsNoted old new p → IsPart new whole rest
one_noted old new whole rest p part noted = record {
  finds = λ q. ap (λ x. option_or x (own rest q)) (noted.finds q) ∙ or_or (found old q) (declares p q) (own rest q)
      ∙ ap (option_or (found old q)) (sym (own-cons p rest q)) ∙ part.finds q;
}

drop-item : (xs : List Rust.Phrase) (i : ℕ) (x : Rust.Phrase) → i < length xs → x ≡ get_or xs i x → drop i xs ≡ x ∷ drop (i + 1) xs
drop-item xs i x within is = drop-cons xs i x within ∙ ap (λ n. get_or xs i x ∷ drop n xs) (sym (add-one i)) ∙ ap (λ (y : Rust.Phrase). y ∷ drop (i + 1) xs) (sym is)

pub next_noted : (old new : List (Key × ℕ)) (whole : List Phrase) (xs : List Rust.Phrase) (i : ℕ) (x : Rust.Phrase) → i < length xs → x ≡ get_or xs i x
    → IsPart old whole (map seen_phrase (drop i xs)) → IsNoted old new (seen_phrase x) → IsPart new whole (map seen_phrase (drop (i + 1) xs))
next_noted old new whole xs i x within is part noted =
    one_noted old new whole _ (seen_phrase x) (subst (λ (ps : List Rust.Phrase). IsPart old whole (map seen_phrase ps)) (drop-item xs i x within is) part) noted

pub all_noted : (entries : List (Key × ℕ)) (whole : List Phrase) → IsPart entries whole [] → IsIndex entries whole
unfolding own
all_noted entries whole part = record { finds = λ q. sym (or_none (found entries q)) ∙ part.finds q }

-- a phrase that declares nothing
pub noted_nothing : (entries : List (Key × ℕ)) (p : Phrase) → declared_by p ≡ None → IsNoted entries entries p
noted_nothing entries p none = record { finds = λ q. rw none (sym (or_none (found entries q))) }

-- a phrase whose name is noted already
again : (entries : List (Key × ℕ)) (p : Phrase) (key q : Key) (n : ℕ) (b : Bool) → (b ≡ true → key ≡ q) → found entries key ≡ Some n
    → found entries q ≡ option_or (found entries q) (if b then Some p.number else None)
again entries p key q n true same is = rw (← same refl) (rw is refl)
again entries p key q n false same is = sym (or_none (found entries q))

pub noted_again : (entries : List (Key × ℕ)) (p : Phrase) (key : Key) (n : ℕ) → declared_by p ≡ Some key → found entries key ≡ Some n → IsNoted entries entries p
noted_again entries p key n by is = record {
  finds = λ q. rw by (again entries p key q n (same_key key q) (same_key-Decides key q).0 is);
}

-- a phrase whose name is new
fresh : (old : List (Key × ℕ)) (p : Phrase) (key q : Key) (b : Bool) → (b ≡ true → key ≡ q) → found old key ≡ None
    → cond b (Some p.number) (found old q) ≡ option_or (found old q) (if b then Some p.number else None)
fresh old p key q true same is = rw (← same refl) (rw is refl)
fresh old p key q false same is = sym (or_none (found old q))

pub noted_fresh : (old new : List (Key × ℕ)) (p : Phrase) (key : Key) (n : ℕ) → declared_by p ≡ Some key → n ≡ p.number → found old key ≡ None
    → ((q : Key) → lookup ((derived.eq-value).it q) new ≡ cond ((derived.eq-value).it key q) (Some n) (lookup ((derived.eq-value).it q) old)) → IsNoted old new p
noted_fresh old new p key n by number none updates = record {
  finds = λ q.
      sym (lookup-found new q) ∙ updates q ∙ ap (λ m. cond ((derived.eq-value).it key q) (Some m) (lookup ((derived.eq-value).it q) old)) number
      ∙ ap (λ b. cond b (Some p.number) (lookup ((derived.eq-value).it q) old)) (derived-same key q)
      ∙ ap (λ before. cond (same_key key q) (Some p.number) before) (lookup-found old q)
      ∙ rw by (fresh old p key q (same_key key q) (same_key-Decides key q).0 none);
}
