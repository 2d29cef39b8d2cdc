-- A definition more.
use Rattle.std.proofs.Common.{◌≡◌, ◌⊎◌, ℕ, inl, inr, List, [], ◌∷◌, length, map, slice_get, slice_set, Option, Some, None, refl, sym, ap, ◌∙◌, arith}
use Rattle.std.specs.Prelude.{bytes_eq}
use Rattle.std.specs.Option.{option_map}
use Rattle.std.proofs.lemmas.Bool.{cases_Bool}
use Rattle.std.proofs.lemmas.List.{length-set}
use Rattle.hal_base.specs.declared.refusal.Place.{Place}
use Rattle.hal_words.specs.declared.word.Word.{Word}
use Rattle.hal_words.specs.declared.word.Word.TheVariants as word
use Rattle.hal_words.specs.Pieces.{Is}
use Rattle.hal_words.specs.Lines.{item}
use Rattle.hal_words.specs.Replacing.{Definitions, replaced_word}
use Rattle.hal_words.specs.Reserved.{look_up}
use Rattle.hal_lexer.specs.declared.child.Child.{Child}
use Rattle.hal_lexer.specs.declared.comes.Comes.{Comes}
use Rattle.hal_lexer.specs.declared.summary.Cut.{Cut}
use Rattle.hal_lexer.specs.declared.order.Entry.{Entry}
use Rattle.hal_lexer.specs.Compiled.{Table, IsCompiled, as_child, children_at, gives, number_of, word_children, name_children}
use Rattle.hal_lexer.specs.Summary.{child_of, table_of, told, given_of, IsCut, IsSummary}
use Rattle.hal_lexer.proofs.Tables.{same_name, own_name}
use Rattle.hal_lexer.proofs.Gives.{gives_child}
use Rattle.hal_lexer.proofs.Places.{set_here, set_other, get_within}
use Rattle.hal_lexer.proofs.Replaced.{defined_compiled, name_replaced}
use Rattle.hal_lexer.proofs.Undoing.{IsOnce, not_known, nat_cases}

-- a name with another text is another name
look_up_other : (definitions : Definitions) (name text q : List ℕ) → (q ≡ name → ⊥) → look_up ((name, text) ∷ definitions) q ≡ look_up definitions q
look_up_other definitions name text q other = elim (cases_Bool (bytes_eq name q)) [
  | inl same ↦ absurd (other (sym (same_name name q same)))
  | inr apart ↦ rw apart refl
]

look_up_own : (definitions : Definitions) (name text : List ℕ) → look_up ((name, text) ∷ definitions) name ≡ Some text
look_up_own definitions name text = rw (own_name name) refl

-- the name isn't summed up
not_there : (words : List Word) (list : List Comes) (entries : List Entry) (number : ℕ) (name : List ℕ) → slice_get words number ≡ Some (word.Name name)
    → ((n : ℕ) (one : Word) → slice_get words n ≡ Some one → told words (slice_get list n) ≡ word_children (table_of words entries) one)
    → (given_of (slice_get list number) ≡ None) ⊎ (entries ≡ []) → number_of (table_of words entries) name ≡ None
not_there words list entries number name own agrees (inl unknown) =
    not_known (table_of words entries) name (sym (agrees number (word.Name name) own) ∙ ap (option_map (map (child_of words))) unknown)
not_there words list entries number name own agrees (inr none) = rw none refl

cut_cases : (definitions : Definitions) (words : List Word) (cuts : List Cut) (number : ℕ) (name text : List ℕ) (one : Cut) (n : ℕ) (q : List ℕ) (found : Cut) → IsOnce words → slice_get words number ≡ Some (word.Name name) → length cuts ≡ length words
    → IsCut words one (Some text) → ((n : ℕ) (q : List ℕ) (found : Cut) → slice_get words n ≡ Some (word.Name q) → slice_get cuts n ≡ Some found → IsCut words found (look_up definitions q))
    → slice_get words n ≡ Some (word.Name q) → slice_get (slice_set cuts number one) n ≡ Some found → (number ≡ n) ⊎ (number ≡ n → ⊥) → IsCut words found (look_up ((name, text) ∷ definitions) q)
cut_cases definitions words cuts number name text one n q found once own even its cuts_are is at (inl same) =
    let inside = get_within words number (word.Name name) own in
    let here : Some one ≡ Some found = sym (set_here cuts number one (omega (arith, inside, even))) ∙ ap (slice_get (slice_set cuts number one)) same ∙ at in
    let that : one ≡ found = cc in
    let twice : Some (word.Name name) ≡ Some (word.Name q) = sym own ∙ ap (slice_get words) same ∙ is in
    let names : name ≡ q = cc in
    rw (← that, ← names, look_up_own definitions name text) its
cut_cases definitions words cuts number name text one n q found once own even its cuts_are is at (inr other) =
    let apart : q ≡ name → ⊥ = λ same. other (once number n name own (is ∙ ap (λ (p : List ℕ). Some (word.Name p)) same)) in
    rw (look_up_other definitions name text q apart) (cuts_are n q found is (sym (set_other cuts number n one other) ∙ at))

defined_cases : (definitions : Definitions) (words : List Word) (number : ℕ) (name text q other : List ℕ) → slice_get words number ≡ Some (word.Name name)
    → ((q text : List ℕ) → look_up definitions q ≡ Some text → (n : ℕ) × (slice_get words n ≡ Some (word.Name q))) → look_up ((name, text) ∷ definitions) q ≡ Some other → (n : ℕ) × (slice_get words n ≡ Some (word.Name q))
defined_cases definitions words number name text q other own defined is = elim (cases_Bool (bytes_eq name q)) [
  | inl same ↦ (number, own ∙ ap (λ (p : List ℕ). Some (word.Name p)) (same_name name q same))
  | inr apart ↦ let there : look_up definitions q ≡ Some other = rw apart at is in defined q other there
]

pub redefined : (definitions : Definitions) (words : List Word) (list : List Comes) (cuts : List Cut) (entries : List Entry) (number : ℕ) (name text : List ℕ) (one : Cut) → IsOnce words → IsSummary definitions words list cuts entries
    → slice_get words number ≡ Some (word.Name name) → (given_of (slice_get list number) ≡ None) ⊎ (entries ≡ []) → IsCut words one (Some text)
    → IsSummary ((name, text) ∷ definitions) words list (slice_set cuts number one) entries
redefined definitions words list cuts entries number name text one once s own unknown its =
    let table = table_of words entries in
    let new = not_there words list entries number name own s.agrees unknown in
    record {
      compiled = defined_compiled definitions ((name, text) ∷ definitions) table table name text refl s.compiled (inl (new, refl));
      rows = s.rows;
      kept = s.kept;
      said = s.said;
      agrees = s.agrees;
      cut = λ n q found is at. cut_cases definitions words cuts number name text one n q found once own s.even its s.cut is at (nat_cases number n);
      defined = λ q other is. defined_cases definitions words number name text q other own s.defined is;
      alike = s.alike;
      even = length-set cuts number one ∙ s.even;
    }

-- the text is the one that the name has
look_up_same : (definitions : Definitions) (name text q : List ℕ) → look_up definitions name ≡ Some text → look_up ((name, text) ∷ definitions) q ≡ look_up definitions q
look_up_same definitions name text q is = elim (cases_Bool (bytes_eq name q)) [
  | inl same ↦ rw same (sym is ∙ ap (look_up definitions) (same_name name q same))
  | inr apart ↦ rw apart refl
]

pub said_again : (definitions : Definitions) (words : List Word) (list : List Comes) (cuts : List Cut) (entries : List Entry) (name text : List ℕ) → IsSummary definitions words list cuts entries → look_up definitions name ≡ Some text
    → IsSummary ((name, text) ∷ definitions) words list cuts entries
said_again definitions words list cuts entries name text s is =
    let table = table_of words entries in
    record {
      compiled = defined_compiled definitions ((name, text) ∷ definitions) table table name text refl s.compiled (inr (inl (is, refl)));
      rows = s.rows;
      kept = s.kept;
      said = s.said;
      agrees = s.agrees;
      cut = λ n q found own at. rw (look_up_same definitions name text q is) (s.cut n q found own at);
      defined = λ q other found. s.defined q other (sym (look_up_same definitions name text q is) ∙ found);
      alike = s.alike;
      even = s.even;
    }

-- what stands in place of a name that is summed up
known_cases : (definitions : Definitions) (table : Table) (name : List ℕ) (found : Option ℕ) (place : Place) (children : List Child) → IsCompiled definitions table → number_of table name ≡ found
    → name_children table found ≡ Some children → replaced_word definitions (item (Is (word.Name name)) place) ≡ gives table place children
known_cases definitions table name None place children compiled at is = let no : None ≡ Some children = is in absurd (cc)
known_cases definitions table name (Some m) place children compiled at is =
    let here : as_child m (children_at table m) ≡ children = cc in
    name_replaced definitions table name m place compiled at ∙ sym (gives_child table place m (children_at table m) compiled.0 refl) ∙ ap (gives table place) here

pub known_replaced : (definitions : Definitions) (words : List Word) (list : List Comes) (cuts : List Cut) (entries : List Entry) (number : ℕ) (name : List ℕ) (place : Place) (known : Comes) (children : List Child)
    → IsSummary definitions words list cuts entries → slice_get words number ≡ Some (word.Name name) → given_of (Some known) ≡ given_of (slice_get list number) → told words (Some known) ≡ Some children
    → replaced_word definitions (item (Is (word.Name name)) place) ≡ gives (table_of words entries) place children
known_replaced definitions words list cuts entries number name place known children s own same is =
    let table = table_of words entries in
    let here : word_children table (word.Name name) ≡ Some children = sym (s.agrees number (word.Name name) own) ∙ sym (ap (option_map (map (child_of words))) same) ∙ is in
    known_cases definitions table name (number_of table name) place children s.compiled refl here
