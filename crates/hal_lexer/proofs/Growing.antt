-- A word more: what is kept of the others stays right.
use Rattle.std.proofs.Common.{◌≡◌, ◌⊎◌, ◌+◌, ℕ, inl, inr, List, [], ◌∷◌, ◌++◌, length, map, reverse, slice_get, Option, Some, None, All, refl, sym, ap, subst, ◌∙◌, arith}
use Rattle.std.specs.Prelude.{bytes_eq}
use Rattle.std.proofs.lemmas.Bool.{cases_Bool}
use Rattle.std.proofs.lemmas.List.{length-append}
use Rattle.std.proofs.lemmas.List.Elements.{All-append, All-cons, All-head, All-nil, All-tail, All-weaker}
use Rattle.hal_words.specs.declared.word.Word.{Word}
use Rattle.hal_words.specs.declared.word.Word.TheVariants as word
use Rattle.hal_words.specs.Replacing.{Definitions}
use Rattle.hal_words.specs.Reserved.{look_up}
use Rattle.hal_lexer.specs.declared.child.Child.{Child}
use Rattle.hal_lexer.specs.declared.comes.Given.{Given}
use Rattle.hal_lexer.specs.declared.comes.Given.TheVariants as given
use Rattle.hal_lexer.specs.declared.comes.Comes.{Comes}
use Rattle.hal_lexer.specs.declared.comes.Comes.TheVariants as comes
use Rattle.hal_lexer.specs.declared.summary.Cut.{Cut}
use Rattle.hal_lexer.specs.declared.summary.Cut.TheVariants as cut
use Rattle.hal_lexer.specs.declared.order.Entry.{Entry}
use Rattle.hal_lexer.specs.Compiled.{Table, number_of, word_children, name_children}
use Rattle.hal_lexer.specs.Summary.{child_of, list_of, row_of, table_of, told, IsHeld, IsKept, IsRow, IsCut, IsSaid, IsSummary, Keeps, Numbered}
use Rattle.hal_lexer.proofs.Tables.{same_name}
use Rattle.hal_lexer.proofs.Places.{get_more, get_end, get_cases, get_before, get_within, all_at, all_turned}

pub keeps_more : (words more : List Word) → Keeps words (words ++ more)
keeps_more words more = λ n one is. get_more words more n one is

pub keeps_all : (words : List Word) → Keeps words words
keeps_all words = λ n one is. is

pub keeps_on : (a b d : List Word) → Keeps a b → Keeps b d → Keeps a d
keeps_on a b d first second = λ n one is. second n one (first n one is)

-- parts that are held stay the same
child_same : (words more : List Word) (one : Given) → Keeps words more → IsHeld words one → child_of more one ≡ child_of words one
child_same words more (given.Word n) keeps held = rw (keeps n held.0 held.1, held.1) refl
child_same words more (given.Name m) keeps held = refl

children_same : (words more : List Word) (list : List Given) → Keeps words more → All (IsHeld words) list → map (child_of more) list ≡ map (child_of words) list
children_same words more [] keeps all = refl
children_same words more (one ∷ list) keeps all =
    ap (λ (first : Child). first ∷ map (child_of more) list) (child_same words more one keeps (All-head (IsHeld words) one list all))
    ∙ ap (λ (rest : List Child). child_of words one ∷ rest) (children_same words more list keeps (All-tail (IsHeld words) one list all))

row_same : (words more : List Word) (entry : Entry) → Keeps words more → IsRow words entry → row_of more entry ≡ row_of words entry
row_same words more entry keeps row =
    rw (keeps entry.number (word.Name row.name) row.is, row.is) (ap (λ (list : List Child). (row.name, list)) (children_same words more (list_of entry.parts) keeps row.held))

rows_same : (words more : List Word) (entries : List Entry) → Keeps words more → All (IsRow words) entries → map (row_of more) entries ≡ map (row_of words) entries
rows_same words more [] keeps all = refl
rows_same words more (entry ∷ entries) keeps all =
    ap (λ (first : List ℕ × List Child). first ∷ map (row_of more) entries) (row_same words more entry keeps (All-head (IsRow words) entry entries all))
    ∙ ap (λ (rest : Table). row_of words entry ∷ rest) (rows_same words more entries keeps (All-tail (IsRow words) entry entries all))

pub table_same : (words more : List Word) (entries : List Entry) → Keeps words more → All (IsRow words) entries → table_of more entries ≡ table_of words entries
table_same words more entries keeps all = ap reverse (rows_same words more entries keeps all)

held_more : (words more : List Word) (one : Given) → Keeps words more → IsHeld words one → IsHeld more one
held_more words more (given.Word n) keeps held = (held.0, keeps n held.0 held.1)
held_more words more (given.Name m) keeps held = tt

kept_more : (words more : List Word) (one : Comes) → Keeps words more → IsKept words one → IsKept more one
kept_more words more (comes.One one) keeps kept = held_more words more one keeps kept
kept_more words more comes.Nothing keeps kept = tt
kept_more words more comes.Unknown keeps kept = tt

row_more : (words more : List Word) (entry : Entry) → Keeps words more → IsRow words entry → IsRow more entry
row_more words more entry keeps row = record {
  name = row.name;
  is = keeps entry.number (word.Name row.name) row.is;
  held = All-weaker (IsHeld words) (IsHeld more) (λ one held. held_more words more one keeps held) (list_of entry.parts) row.held;
}

told_kept : (words more : List Word) (one : Comes) → Keeps words more → IsKept words one → told more (Some one) ≡ told words (Some one)
told_kept words more (comes.One one) keeps kept = ap (λ (first : Child). Some (first ∷ [])) (child_same words more one keeps kept)
told_kept words more comes.Nothing keeps kept = refl
told_kept words more comes.Unknown keeps kept = refl

told_cases : (words more : List Word) (list : List Comes) (n : ℕ) (known : Option Comes) → Keeps words more → All (IsKept words) list → slice_get list n ≡ known → told more known ≡ told words known
told_cases words more list n None keeps all is = refl
told_cases words more list n (Some one) keeps all is = told_kept words more one keeps (all_at (IsKept words) list n one all is)

pub told_same : (words more : List Word) (list : List Comes) (n : ℕ) → Keeps words more → All (IsKept words) list → told more (slice_get list n) ≡ told words (slice_get list n)
told_same words more list n keeps all = told_cases words more list n (slice_get list n) keeps all refl

-- texts
pub numbered_more : (words more : List Word) (text : List Word) (numbers : List ℕ) → Keeps words more → Numbered words text numbers → Numbered more text numbers
numbered_more words more [] numbers keeps is = is
numbered_more words more (one ∷ text) numbers keeps is = (is.0, is.1, is.2, keeps is.0 one is.3, numbered_more words more text is.1 keeps is.4)

pub cut_more : (words more : List Word) (one : Cut) (text : Option (List ℕ)) → Keeps words more → IsCut words one text → IsCut more one text
cut_more words more cut.Undefined text keeps is = is
cut_more words more cut.Broken text keeps is = tt
cut_more words more (cut.Word n) text keeps is = (is.0, is.1, (is.2.0, is.2.1, numbered_more words more is.2.0 (n ∷ []) keeps is.2.2))
cut_more words more (cut.Words numbers) text keeps is = (is.0, is.1, (is.2.0, is.2.1, numbered_more words more is.2.0 numbers.items keeps is.2.2))

-- the names of the table are words
abbrev IsNamed : List Word → List ℕ × List Child → Type 0
IsNamed words row = (n : ℕ) × (slice_get words n ≡ Some (word.Name row.0))

rows_named : (words : List Word) (entries : List Entry) → All (IsRow words) entries → All (IsNamed words) (map (row_of words) entries)
rows_named words [] all = All-nil (IsNamed words)
rows_named words (entry ∷ entries) all =
    let row = All-head (IsRow words) entry entries all in
    All-cons (IsNamed words) (row_of words entry) (map (row_of words) entries) (entry.number, rw row.is refl) (rows_named words entries (All-tail (IsRow words) entry entries all))

named_of : (words : List Word) (table : Table) (name : List ℕ) (m : ℕ) → All (IsNamed words) table → number_of table name ≡ Some m → (n : ℕ) × (slice_get words n ≡ Some (word.Name name))
named_of words [] name m all is = let no : None ≡ Some m = is in absurd (cc)
named_of words (row ∷ older) name m all is = elim (cases_Bool (bytes_eq row.0 name)) [
  | inl same ↦ subst (λ (q : List ℕ). (n : ℕ) × (slice_get words n ≡ Some (word.Name q))) (same_name row.0 name same) (All-head (IsNamed words) row older all)
  | inr other ↦ let there : number_of older name ≡ Some m = rw other at is in named_of words older name m (All-tail (IsNamed words) row older all) there
]

pub name_there : (words : List Word) (entries : List Entry) (name : List ℕ) (m : ℕ) → All (IsRow words) entries → number_of (table_of words entries) name ≡ Some m → (n : ℕ) × (slice_get words n ≡ Some (word.Name name))
name_there words entries name m all is = named_of words (table_of words entries) name m (all_turned (IsNamed words) (map (row_of words) entries) (rows_named words entries all)) is

-- a name that is no word yet
new_cases : (words : List Word) (entries : List Entry) (name : List ℕ) (found : Option ℕ) → All (IsRow words) entries → ((n : ℕ) → slice_get words n ≡ Some (word.Name name) → ⊥)
    → number_of (table_of words entries) name ≡ found → None ≡ name_children (table_of words entries) found
new_cases words entries name None all none is = refl
new_cases words entries name (Some m) all none is = let there = name_there words entries name m all is in absurd (none there.0 there.1)

pub new_name : (words : List Word) (entries : List Entry) (name : List ℕ) → All (IsRow words) entries → ((n : ℕ) → slice_get words n ≡ Some (word.Name name) → ⊥) → None ≡ word_children (table_of words entries) (word.Name name)
new_name words entries name all none = new_cases words entries name (number_of (table_of words entries) name) all none refl

new_text : (definitions : Definitions) (words : List Word) (name : List ℕ) (text : Option (List ℕ)) → ((name text : List ℕ) → look_up definitions name ≡ Some text → (n : ℕ) × (slice_get words n ≡ Some (word.Name name)))
    → ((n : ℕ) → slice_get words n ≡ Some (word.Name name) → ⊥) → look_up definitions name ≡ text → text ≡ None
new_text definitions words name None defined none is = refl
new_text definitions words name (Some text) defined none is = let there = defined name text is in absurd (none there.0 there.1)

pub no_text : (definitions : Definitions) (words : List Word) (name : List ℕ) → ((name text : List ℕ) → look_up definitions name ≡ Some text → (n : ℕ) × (slice_get words n ≡ Some (word.Name name)))
    → ((n : ℕ) → slice_get words n ≡ Some (word.Name name) → ⊥) → look_up definitions name ≡ None
no_text definitions words name defined none = new_text definitions words name (look_up definitions name) defined none refl

-- one word more
agrees_more : (words : List Word) (list : List Comes) (entries : List Entry) (last : Word) (known : Comes) (n : ℕ) (one : Word) → All (IsRow words) entries → All (IsKept words) list → length list ≡ length words
    → ((n : ℕ) (one : Word) → slice_get words n ≡ Some one → told words (slice_get list n) ≡ word_children (table_of words entries) one)
    → told (words ++ last ∷ []) (Some known) ≡ word_children (table_of words entries) last → (slice_get words n ≡ Some one) ⊎ ((n ≡ length words) × (one ≡ last))
    → told (words ++ last ∷ []) (slice_get (list ++ known ∷ []) n) ≡ word_children (table_of words entries) one
agrees_more words list entries last known n one rows kept alike agrees here (inl before) =
    let inside = get_within words n one before in
    let same : slice_get (list ++ known ∷ []) n ≡ slice_get list n = get_before list known n (omega (arith, inside, alike)) in
    rw same (told_same words (words ++ last ∷ []) list n (keeps_more words (last ∷ [])) kept ∙ agrees n one before)
agrees_more words list entries last known n one rows kept alike agrees here (inr end) =
    let same : slice_get (list ++ known ∷ []) n ≡ Some known = ap (slice_get (list ++ known ∷ [])) (end.0 ∙ sym alike) ∙ get_end list known in
    rw (same, end.1) here

cuts_more : (definitions : Definitions) (words : List Word) (cuts : List Cut) (last : Word) (n : ℕ) (name : List ℕ) (one : Cut) → length cuts ≡ length words
    → ((n : ℕ) (name : List ℕ) (one : Cut) → slice_get words n ≡ Some (word.Name name) → slice_get cuts n ≡ Some one → IsCut words one (look_up definitions name))
    → ((name : List ℕ) → last ≡ word.Name name → look_up definitions name ≡ None) → slice_get (cuts ++ cut.Undefined ∷ []) n ≡ Some one
    → (slice_get words n ≡ Some (word.Name name)) ⊎ ((n ≡ length words) × (word.Name name ≡ last)) → IsCut (words ++ last ∷ []) one (look_up definitions name)
cuts_more definitions words cuts last n name one even cuts_are none is (inl before) =
    let inside = get_within words n (word.Name name) before in
    let there : slice_get cuts n ≡ Some one = sym (get_before cuts cut.Undefined n (omega (arith, inside, even))) ∙ is in
    cut_more words (words ++ last ∷ []) one (look_up definitions name) (keeps_more words (last ∷ [])) (cuts_are n name one before there)
cuts_more definitions words cuts last n name one even cuts_are none is (inr end) =
    let there : slice_get (cuts ++ cut.Undefined ∷ []) n ≡ Some cut.Undefined = ap (slice_get (cuts ++ cut.Undefined ∷ [])) (end.0 ∙ sym even) ∙ get_end cuts cut.Undefined in
    let twice : Some cut.Undefined ≡ Some one = sym there ∙ is in
    let own : cut.Undefined ≡ one = cc in
    rw (← own) (none name (sym end.1))

pub grown : (definitions : Definitions) (words : List Word) (list : List Comes) (cuts : List Cut) (entries : List Entry) (last : Word) (known : Comes) → IsSummary definitions words list cuts entries → IsSaid last
    → IsKept (words ++ last ∷ []) known → told (words ++ last ∷ []) (Some known) ≡ word_children (table_of words entries) last → ((name : List ℕ) → last ≡ word.Name name → look_up definitions name ≡ None)
    → IsSummary definitions (words ++ last ∷ []) (list ++ known ∷ []) (cuts ++ cut.Undefined ∷ []) entries
grown definitions words list cuts entries last known s said kept here none =
    let more = words ++ last ∷ [] in
    let keeps = keeps_more words (last ∷ []) in
    let table : table_of more entries ≡ table_of words entries = table_same words more entries keeps s.rows in
    record {
      compiled = rw table s.compiled;
      rows = All-weaker (IsRow words) (IsRow more) (λ entry row. row_more words more entry keeps row) entries s.rows;
      kept = All-append (IsKept more) list (known ∷ []) (All-weaker (IsKept words) (IsKept more) (λ one is. kept_more words more one keeps is) list s.kept) (All-cons (IsKept more) known [] kept (All-nil (IsKept more)));
      said = All-append IsSaid words (last ∷ []) s.said (All-cons IsSaid last [] said (All-nil IsSaid));
      agrees = λ n one is. rw table (agrees_more words list entries last known n one s.rows s.kept s.alike s.agrees here (get_cases words last n one is));
      cut = λ n name one is at. cuts_more definitions words cuts last n name one s.even s.cut none at (get_cases words last n (word.Name name) is);
      defined = λ name text is. let there = s.defined name text is in (there.0, keeps there.0 (word.Name name) there.1);
      alike = length-append list (known ∷ []) ∙ ap (λ n. n + 1) s.alike ∙ sym (length-append words (last ∷ []));
      even = length-append cuts (cut.Undefined ∷ []) ∙ ap (λ n. n + 1) s.even ∙ sym (length-append words (last ∷ []));
    }

pub named_new : (definitions : Definitions) (words : List Word) (name other : List ℕ) → ((name text : List ℕ) → look_up definitions name ≡ Some text → (n : ℕ) × (slice_get words n ≡ Some (word.Name name)))
    → ((n : ℕ) → slice_get words n ≡ Some (word.Name name) → ⊥) → word.Name name ≡ word.Name other → look_up definitions other ≡ None
named_new definitions words name other defined none same =
    let own : name ≡ other = cc in
    rw (← own) (no_text definitions words name defined none)

-- no word
pub none_kept : IsSummary [] [] [] [] []
none_kept = record {
  compiled = (tt, tt);
  rows = All-nil (IsRow []);
  kept = All-nil (IsKept []);
  said = All-nil IsSaid;
  agrees = λ n one is. let no : None ≡ Some one = is in absurd (cc);
  cut = λ n name one is at. let no : None ≡ Some (word.Name name) = is in absurd (cc);
  defined = λ name text is. let no : None ≡ Some text = is in absurd (cc);
  alike = refl;
  even = refl;
}
