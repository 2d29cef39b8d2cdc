-- The last name of a table, which is taken away or added.
use Rattle.std.proofs.Common.{◌≡◌, ◌⊎◌, ℕ, inl, inr, true, false, List, [], ◌∷◌, ◌++◌, length, map, reverse, slice_get, slice_set, Option, Some, None, All, refl, sym, ap, ◌∙◌, arith}
use Rattle.std.specs.Prelude.{bytes_eq, ◌==◌}
use Rattle.std.proofs.lemmas.Bool.{cases_Bool}
use Rattle.std.proofs.lemmas.Bool.Decides.{nat_tests}
use Rattle.std.proofs.lemmas.List.{length-set, map-append, reverse-append}
use Rattle.std.proofs.lemmas.List.Elements.{All-append, All-cons, All-nil}
use Rattle.hal_words.specs.declared.reserved.Reserved.TheVariants as reserved
use Rattle.hal_words.specs.declared.word.Word.{Word}
use Rattle.hal_words.specs.declared.word.Word.TheVariants as word
use Rattle.hal_words.specs.Replacing.{Definitions}
use Rattle.hal_lexer.specs.declared.child.Child.{Child}
use Rattle.hal_lexer.specs.declared.comes.Comes.{Comes}
use Rattle.hal_lexer.specs.declared.comes.Comes.TheVariants as comes
use Rattle.hal_lexer.specs.declared.summary.Cut.{Cut}
use Rattle.hal_lexer.specs.declared.order.Entry.{Entry}
use Rattle.hal_lexer.specs.Compiled.{Table, IsCompiled, as_child, children_at, number_of, word_children, name_children}
use Rattle.hal_lexer.specs.Summary.{child_of, list_of, name_in, row_of, table_of, told, IsHeld, IsKept, IsRow, IsSummary}
use Rattle.hal_lexer.proofs.Tables.{same_name, number_within, number_last, children_before, children_last}
use Rattle.hal_lexer.proofs.Places.{set_here, set_other, get_within, all_set, all_front, all_last}

-- a table with one entry more
pub table_added : (words : List Word) (entries : List Entry) (last : Entry) → table_of words (entries ++ last ∷ []) ≡ row_of words last ∷ table_of words entries
table_added words entries last = ap reverse (map-append (row_of words) entries (last ∷ [])) ∙ reverse-append (map (row_of words) entries) (row_of words last ∷ [])

-- what other words come to stays the same
children_found : (older : Table) (row : List ℕ × List Child) (name : List ℕ) (found : Option ℕ) → number_of older name ≡ found → name_children (row ∷ older) found ≡ name_children older found
children_found older row name None is = refl
children_found older row name (Some m) is = ap (λ (list : List Child). Some (as_child m list)) (children_before older row m (number_within older name m is))

other_name_same : (older : Table) (row : List ℕ × List Child) (name : List ℕ) → bytes_eq row.0 name ≡ false → word_children (row ∷ older) (word.Name name) ≡ word_children older (word.Name name)
other_name_same older row name other = rw other (children_found older row name (number_of older name) refl)

pub other_same : (older : Table) (row : List ℕ × List Child) (one : Word) → (one ≡ word.Name row.0 → ⊥) → word_children (row ∷ older) one ≡ word_children older one
other_same older row (word.Name name) other = elim (cases_Bool (bytes_eq row.0 name)) [
  | inl same ↦ absurd (other (ap (λ (q : List ℕ). word.Name q) (sym (same_name row.0 name same))))
  | inr apart ↦ other_name_same older row name apart
]
other_same older row (word.Reserved reserved.Replace) other = refl
other_same older row one other = refl

pub last_known : (older : Table) (name : List ℕ) (children : List Child) → word_children ((name, children) ∷ older) (word.Name name) ≡ Some (as_child (length older) children)
last_known older name children =
    ap (name_children ((name, children) ∷ older)) (number_last older name children) ∙ ap (λ (list : List Child). Some (as_child (length older) list)) (children_last older (name, children))

pub new_known : (older : Table) (name : List ℕ) → number_of older name ≡ None → word_children older (word.Name name) ≡ None
new_known older name new = ap (name_children older) new

-- a name that isn't known is not in the table
none_cases : (table : Table) (name : List ℕ) (found : Option ℕ) → number_of table name ≡ found → name_children table found ≡ None → found ≡ None
none_cases table name None at is = refl
none_cases table name (Some m) at is = let no : Some (as_child m (children_at table m)) ≡ None = is in absurd (cc)

pub not_known : (table : Table) (name : List ℕ) → word_children table (word.Name name) ≡ None → number_of table name ≡ None
not_known table name is = none_cases table name (number_of table name) refl is

-- one name has one number
abbrev pub IsOnce : List Word → Type 0
IsOnce words = (n m : ℕ) (name : List ℕ) → slice_get words n ≡ Some (word.Name name) → slice_get words m ≡ Some (word.Name name) → n ≡ m

number_cases : (words : List Word) (number n : ℕ) (name : List ℕ) (one : Word) → IsOnce words → slice_get words number ≡ Some (word.Name name) → slice_get words n ≡ Some one → (number ≡ n → ⊥) → one ≡ word.Name name → ⊥
number_cases words number n name one once own is other same =
    let there : slice_get words n ≡ Some (word.Name name) = is ∙ ap Some same in
    other (once number n name own there)

same_number : (words : List Word) (number n : ℕ) (name : List ℕ) (one : Word) → slice_get words number ≡ Some (word.Name name) → slice_get words n ≡ Some one → number ≡ n → one ≡ word.Name name
same_number words number n name one own is same =
    let there : Some one ≡ Some (word.Name name) = sym is ∙ ap (slice_get words) (sym same) ∙ own in
    cc

pub nat_cases : (n m : ℕ) → (n ≡ m) ⊎ (n ≡ m → ⊥)
nat_cases n m = elim (cases_Bool (n == m)) [
  | inl same ↦ inl (grind (arith, nat_tests))
  | inr other ↦ inr (λ same. let no : (n == m) ≡ true = grind (arith, nat_tests) in let both : true ≡ false = sym no ∙ other in absurd (cc))
]

-- the number of a name is set
set_agrees : (words : List Word) (list : List Comes) (old new : Table) (number n : ℕ) (name : List ℕ) (one : Word) (known : Comes) → IsOnce words → slice_get words number ≡ Some (word.Name name) → length list ≡ length words
    → told words (Some known) ≡ word_children new (word.Name name) → ((other : Word) → (other ≡ word.Name name → ⊥) → word_children new other ≡ word_children old other)
    → told words (slice_get list n) ≡ word_children old one → slice_get words n ≡ Some one → (number ≡ n) ⊎ (number ≡ n → ⊥) → told words (slice_get (slice_set list number known) n) ≡ word_children new one
set_agrees words list old new number n name one known once own alike here others agrees is (inl same) =
    let inside = get_within words number (word.Name name) own in
    let at : slice_get (slice_set list number known) n ≡ Some known = ap (slice_get (slice_set list number known)) (sym same) ∙ set_here list number known (omega (arith, inside, alike)) in
    rw (at, same_number words number n name one own is same) here
set_agrees words list old new number n name one known once own alike here others agrees is (inr other) =
    rw (set_other list number n known other) (agrees ∙ sym (others one (number_cases words number n name one once own is other)))

pub set_known : (words : List Word) (list : List Comes) (old new : Table) (number : ℕ) (name : List ℕ) (known : Comes) → IsOnce words → slice_get words number ≡ Some (word.Name name) → length list ≡ length words
    → told words (Some known) ≡ word_children new (word.Name name) → ((other : Word) → (other ≡ word.Name name → ⊥) → word_children new other ≡ word_children old other)
    → ((n : ℕ) (one : Word) → slice_get words n ≡ Some one → told words (slice_get list n) ≡ word_children old one)
    → (n : ℕ) (one : Word) → slice_get words n ≡ Some one → told words (slice_get (slice_set list number known) n) ≡ word_children new one
set_known words list old new number name known once own alike here others agrees = λ n one is.
    set_agrees words list old new number n name one known once own alike here others (agrees n one is) is (nat_cases number n)

-- the last name is taken away
pub undone : (definitions : Definitions) (words : List Word) (list : List Comes) (cuts : List Cut) (entries : List Entry) (last : Entry) → IsOnce words → IsSummary definitions words list cuts (entries ++ last ∷ [])
    → IsSummary definitions words (slice_set list last.number comes.Unknown) cuts entries
undone definitions words list cuts entries last once s =
    let row : IsRow words last = all_last (IsRow words) entries last s.rows in
    let older = table_of words entries in
    let whole : table_of words (entries ++ last ∷ []) ≡ row_of words last ∷ older = table_added words entries last in
    let compiled : IsCompiled definitions (row_of words last ∷ older) = rw whole at s.compiled in
    let name : name_in (slice_get words last.number) ≡ row.name = rw row.is refl in
    let new : number_of older row.name ≡ None = rw name at compiled.0.1 in
    let others : (other : Word) → (other ≡ word.Name row.name → ⊥) → word_children older other ≡ word_children (row_of words last ∷ older) other =
    λ other apart. sym (other_same older (row_of words last) other (λ same. apart (same ∙ ap (λ (q : List ℕ). word.Name q) name))) in
    record {
      compiled = (compiled.0.2, compiled.1.1);
      rows = all_front (IsRow words) entries last s.rows;
      kept = all_set (IsKept words) list last.number comes.Unknown s.kept tt;
      said = s.said;
      agrees = set_known words list (row_of words last ∷ older) older last.number row.name comes.Unknown once row.is s.alike (sym (new_known older row.name new)) others
          (λ n one is. rw whole at (s.agrees n one is));
      cut = s.cut;
      defined = s.defined;
      alike = length-set list last.number comes.Unknown ∙ s.alike;
      even = s.even;
    }

-- a name is summed up
pub added : (definitions : Definitions) (words : List Word) (list : List Comes) (cuts : List Cut) (entries : List Entry) (last : Entry) (name : List ℕ) (known : Comes) → IsOnce words → IsSummary definitions words list cuts entries
    → slice_get words last.number ≡ Some (word.Name name) → All (IsHeld words) (list_of last.parts) → IsKept words known
    → told words (Some known) ≡ Some (as_child (length entries) (map (child_of words) (list_of last.parts)))
    → IsCompiled definitions ((name, map (child_of words) (list_of last.parts)) ∷ table_of words entries) → length (table_of words entries) ≡ length entries
    → IsSummary definitions words (slice_set list last.number known) cuts (entries ++ last ∷ [])
added definitions words list cuts entries last name known once s own held kept here compiled count =
    let older = table_of words entries in
    let children = map (child_of words) (list_of last.parts) in
    let row : row_of words last ≡ (name, children) = rw own refl in
    let whole : table_of words (entries ++ last ∷ []) ≡ (name, children) ∷ older = table_added words entries last ∙ ap (λ (r : List ℕ × List Child). r ∷ older) row in
    let now : told words (Some known) ≡ word_children ((name, children) ∷ older) (word.Name name) =
    here ∙ ap (λ n. Some (as_child n children)) (sym count) ∙ sym (last_known older name children) in
    let one : IsRow words last = record { name = name; is = own; held = held } in
    record {
      compiled = rw whole compiled;
      rows = All-append (IsRow words) entries (last ∷ []) s.rows (All-cons (IsRow words) last [] one (All-nil (IsRow words)));
      kept = all_set (IsKept words) list last.number known s.kept kept;
      said = s.said;
      agrees = λ n w is. rw whole (set_known words list older ((name, children) ∷ older) last.number name known once own s.alike now (λ other apart. other_same older (name, children) other apart) s.agrees n w is);
      cut = s.cut;
      defined = s.defined;
      alike = length-set list last.number known ∙ s.alike;
      even = s.even;
    }
