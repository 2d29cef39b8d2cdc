-- The map of the numbers of names.
use Rattle.std.proofs.Common.{◌≡◌, ◌⊎◌, ℕ, inl, inr, Bool, true, false, cond, List, [], ◌∷◌, ◌++◌, length, slice_get, Option, Some, None, refl, sym, ap, ◌∙◌}
use Rattle.std.specs.Prelude.{bytes_eq}
use Rattle.std.specs.Map.{lookup}
use Rattle.hal_words.specs.declared.word.Word.{Word}
use Rattle.hal_words.specs.declared.word.Word.TheVariants as word
use Rattle.hal_words.specs.contracts.name.NamePartialEq.TheImpl as derived
use Rattle.hal_words.proofs.NameEquality.{eq-same}
use Rattle.hal_lexer.specs.declared.child.Child.TheVariants as child
use Rattle.hal_lexer.specs.Defined.{found}
use Rattle.hal_lexer.specs.Summary.{IsLexicon, IsPlain}
use Rattle.hal_lexer.specs.Compiled.{word_children}
use Rattle.hal_lexer.proofs.Index.{lookup-found}
use Rattle.hal_lexer.proofs.Tables.{same_name, own_name}
use Rattle.hal_lexer.proofs.Places.{get_cases, get_end, get_more}
use Rattle.hal_lexer.proofs.Undoing.{IsOnce}

pub once_of : (entries : List (List ℕ × ℕ)) (words : List Word) → IsLexicon entries words → IsOnce words
once_of entries words lexicon = λ n m name first second.
    let twice : Some n ≡ Some m = sym (lexicon.has name n first) ∙ lexicon.has name m second in
    cc

-- a name that the map doesn't have is no word
pub none_there : (entries : List (List ℕ × ℕ)) (words : List Word) (name : List ℕ) → IsLexicon entries words → found entries name ≡ None → (n : ℕ) → slice_get words n ≡ Some (word.Name name) → ⊥
none_there entries words name lexicon none = λ n is. let no : None ≡ Some n = sym none ∙ lexicon.has name n is in absurd (cc)

-- a word that is no name
pub plain_added : (entries : List (List ℕ × ℕ)) (words : List Word) (last : Word) → IsLexicon entries words → ((name : List ℕ) → last ≡ word.Name name → ⊥) → IsLexicon entries (words ++ last ∷ [])
plain_added entries words last lexicon plain = record {
  finds = λ name n is. get_more words (last ∷ []) n (word.Name name) (lexicon.finds name n is);
  has = λ name n is. elim (get_cases words last n (word.Name name) is) [
    | inl before ↦ lexicon.has name n before
    | inr here ↦ absurd (plain name (sym here.1))
  ];
}

pub plain_apart : (last : Word) → IsPlain last → (name : List ℕ) → last ≡ word.Name name → ⊥
plain_apart last plain name same =
    let known = plain [] in
    let no : None ≡ Some (child.Word last ∷ []) = sym (ap (word_children []) same) ∙ known in
    absurd (cc)

-- a name more
found_more : (old new : List (List ℕ × ℕ)) (name q : List ℕ) (number : ℕ)
    → ((q : List ℕ) → lookup ((derived.eq-value).it q) new ≡ cond ((derived.eq-value).it name q) (Some number) (lookup ((derived.eq-value).it q) old))
    → found new q ≡ cond (bytes_eq name q) (Some number) (found old q)
found_more old new name q number updates =
    sym (lookup-found new q) ∙ updates q ∙ ap (λ b. cond b (Some number) (lookup ((derived.eq-value).it q) old)) (eq-same name q)
    ∙ ap (λ before. cond (bytes_eq name q) (Some number) before) (lookup-found old q)

finds_more : (words : List Word) (name q : List ℕ) (number n : ℕ) (before : Option ℕ) (same : Bool) → number ≡ length words → bytes_eq name q ≡ same → (before ≡ Some n → slice_get words n ≡ Some (word.Name q))
    → cond same (Some number) before ≡ Some n → slice_get (words ++ word.Name name ∷ []) n ≡ Some (word.Name q)
finds_more words name q number n before true last same old is =
    let here : number ≡ n = cc in
    ap (slice_get (words ++ word.Name name ∷ [])) (sym here ∙ last) ∙ get_end words (word.Name name) ∙ ap (λ (p : List ℕ). Some (word.Name p)) (same_name name q same)
finds_more words name q number n before false last same old is = get_more words (word.Name name ∷ []) n (word.Name q) (old is)

has_more : (words : List Word) (name q : List ℕ) (number n : ℕ) (before : Option ℕ) (same : Bool) → number ≡ length words → bytes_eq name q ≡ same → ((m : ℕ) → slice_get words m ≡ Some (word.Name name) → ⊥)
    → ((n : ℕ) → slice_get words n ≡ Some (word.Name q) → before ≡ Some n) → (slice_get words n ≡ Some (word.Name q)) ⊎ ((n ≡ length words) × (word.Name q ≡ word.Name name)) → cond same (Some number) before ≡ Some n
has_more words name q number n before true last same none old (inl there) = absurd (none n (there ∙ ap (λ (p : List ℕ). Some (word.Name p)) (sym (same_name name q same))))
has_more words name q number n before true last same none old (inr here) = ap Some (last ∙ sym here.0)
has_more words name q number n before false last same none old (inl there) = old n there
has_more words name q number n before false last same none old (inr here) =
    let twice : word.Name q ≡ word.Name name = here.1 in
    let own : q ≡ name = cc in
    let no : true ≡ false = sym (own_name name) ∙ ap (bytes_eq name) (sym own) ∙ same in
    absurd (cc)

pub name_added : (old new : List (List ℕ × ℕ)) (words : List Word) (name : List ℕ) (number : ℕ) → number ≡ length words → IsLexicon old words → found old name ≡ None
    → ((q : List ℕ) → lookup ((derived.eq-value).it q) new ≡ cond ((derived.eq-value).it name q) (Some number) (lookup ((derived.eq-value).it q) old))
    → IsLexicon new (words ++ word.Name name ∷ [])
name_added old new words name number last lexicon new_name updates = record {
  finds = λ q n is. finds_more words name q number n (found old q) (bytes_eq name q) last refl (lexicon.finds q n) (sym (found_more old new name q number updates) ∙ is);
  has = λ q n is. found_more old new name q number updates ∙ has_more words name q number n (found old q) (bytes_eq name q) last refl (none_there old words name lexicon new_name) (lexicon.has q) (get_cases words (word.Name name) n (word.Name q) is);
}

pub no_names : IsLexicon [] []
no_names = record {
  finds = λ name n is. let no : None ≡ Some n = is in absurd (cc);
  has = λ name n is. let no : None ≡ Some (word.Name name) = is in absurd (cc);
}
