-- A name is summed up from the numbers of the words in its text.
use Rattle.std.proofs.Common.{◌≡◌, ℕ, true, false, List, [], ◌∷◌, ◌++◌, length, map, slice_get, slice_set, Option, Some, None, All, refl, sym, ap, subst, ◌∙◌, append_assoc, append-nil, arith}
use Rattle.std.specs.Option.{option_map}
use Rattle.std.proofs.lemmas.List.{length-map, length-reverse, map-append}
use Rattle.std.proofs.lemmas.List.Elements.{All-append, All-cons, All-head, All-nil}
use Rattle.hal_base.specs.declared.refusal.Place.{Place}
use Rattle.hal_words.specs.declared.reserved.Reserved.TheVariants as reserved
use Rattle.hal_words.specs.declared.word.Word.{Word}
use Rattle.hal_words.specs.declared.word.Word.TheVariants as word
use Rattle.hal_words.specs.Pieces.{Is}
use Rattle.hal_words.specs.Replacing.{Definitions, is_replace, text_items}
use Rattle.hal_words.specs.Reserved.{look_up}
use Rattle.hal_lexer.specs.declared.child.Child.TheVariants as child
use Rattle.hal_lexer.specs.declared.comes.Comes.{Comes}
use Rattle.hal_lexer.specs.declared.comes.Comes.TheVariants as comes
use Rattle.hal_lexer.specs.declared.comes.Given.{Given}
use Rattle.hal_lexer.specs.declared.comes.Given.TheVariants as given
use Rattle.hal_lexer.specs.declared.summary.Cut.{Cut}
use Rattle.hal_lexer.specs.declared.summary.Cut.TheVariants as cut
use Rattle.hal_lexer.specs.declared.order.Entry.{Entry}
use Rattle.hal_lexer.specs.Compiled.{Table, IsCompiled, IsBelow, IsReadAs, as_child, number_of, word_children}
use Rattle.hal_lexer.specs.Parts.{part_item}
use Rattle.hal_lexer.specs.Summary.{child_of, list_of, row_of, table_of, told, given_of, Amounts, Gathers, IsHeld, IsKept, IsSaid, IsCut, IsSummary, Numbered, Stands}
use Rattle.hal_lexer.proofs.Places.{all_at, get_there, get_within}
use Rattle.hal_lexer.proofs.Readings.{read_below}
use Rattle.hal_lexer.proofs.Undoing.{IsOnce, added, not_known}

-- the parts of later words stand behind those of the earlier ones
abbrev pub Behind : List Comes → List ℕ → List ℕ → List Given → Type 0
Behind list numbers rest all = (more : List Given) → Gathers list rest more → Gathers list numbers (all ++ more)

pub behind_start : (list : List Comes) (numbers : List ℕ) → Behind list numbers numbers []
behind_start list numbers = λ more is. is

pub behind_word : (list : List Comes) (numbers left rest : List ℕ) (n : ℕ) (first all more : List Given) → left ≡ n ∷ rest → given_of (slice_get list n) ≡ Some first → more ≡ all ++ first
    → Behind list numbers left all → Behind list numbers rest more
behind_word list numbers left rest n first all more front found added' behind = λ others is.
    let whole : Gathers list left (first ++ others) = rw front (first, others, found, is, refl) in
    let same : all ++ (first ++ others) ≡ more ++ others = sym (append_assoc all first others) ∙ ap (λ (l : List Given). l ++ others) (sym added') in
    subst (Gathers list numbers) same (behind (first ++ others) whole)

pub behind_end : (list : List Comes) (numbers rest : List ℕ) (all : List Given) → rest ≡ [] → Behind list numbers rest all → Gathers list numbers all
behind_end list numbers rest all none behind =
    let ends : Gathers list rest [] = rw none refl in
    subst (Gathers list numbers) (append-nil all) (behind [] ends)

-- words that come to nothing
pub nothing_before : (list : List Comes) (numbers rest : List ℕ) (n : ℕ) (all : List Given) → numbers ≡ n ∷ rest → given_of (slice_get list n) ≡ Some [] → Gathers list rest all → Gathers list numbers all
nothing_before list numbers rest n all front nothing is = rw front ([], all, nothing, is, refl)

-- one word, and nothing behind it
pub alone_gathers : (list : List Comes) (n : ℕ) (rest : List ℕ) (all : List Given) → given_of (slice_get list n) ≡ Some all → Gathers list rest [] → Gathers list (n ∷ rest) all
alone_gathers list n rest all found is = (all, [], found, is, sym (append-nil all))

-- a name with fewer than two parts
pub nothing_stands : (n : ℕ) → Stands comes.Nothing n []
nothing_stands n = (λ words. refl, λ words all. tt)

pub one_stands : (n : ℕ) (one : Given) → Stands (comes.One one) n (one ∷ [])
one_stands n one = (λ words. refl, λ words all. All-head (IsHeld words) one [] all)

-- the parts stand for the words
told_given : (words : List Word) (known : Option Comes) (first : List Given) → given_of known ≡ Some first → told words known ≡ Some (map (child_of words) first)
told_given words known first is = ap (option_map (map (child_of words))) is

pub read_words : (words : List Word) (list : List Comes) (table : Table) (place : Place) (text : List Word) (numbers : List ℕ) (all : List Given)
    → ((n : ℕ) (one : Word) → slice_get words n ≡ Some one → told words (slice_get list n) ≡ word_children table one) → Numbered words text numbers → Gathers list numbers all
    → IsReadAs table place (map (part_item place) text) (map (child_of words) all)
read_words words list table place [] numbers all agrees are gathers =
    let none : Gathers list [] all = rw are at gathers in
    rw none refl
read_words words list table place (one ∷ text) numbers all agrees are gathers =
    let whole : Gathers list (are.0 ∷ are.1) all = rw are.2 at gathers in
    let known : word_children table one ≡ Some (map (child_of words) whole.0) = sym (agrees are.0 one are.3) ∙ told_given words (slice_get list are.0) whole.0 whole.2 in (
      one,
      map (child_of words) whole.0,
      map (child_of words) whole.1,
      refl,
      known,
      read_words words list table place text are.1 whole.1 agrees are.4 whole.3,
      ap (map (child_of words)) whole.4 ∙ map-append (child_of words) whole.0 whole.1,
    )

-- the parts are words of the list
held_given : (words : List Word) (known : Option Comes) (first : List Given) (list : List Comes) (n : ℕ) → All (IsKept words) list → slice_get list n ≡ known → given_of known ≡ Some first → All (IsHeld words) first
held_given words None first list n all at is = let no : None ≡ Some first = is in absurd (cc)
held_given words (Some comes.Unknown) first list n all at is = let no : None ≡ Some first = is in absurd (cc)
held_given words (Some comes.Nothing) first list n all at is = let same : [] ≡ first = cc in rw (← same) (All-nil (IsHeld words))
held_given words (Some (comes.One one)) first list n all at is =
    let same : one ∷ [] ≡ first = cc in
    rw (← same) (All-cons (IsHeld words) one [] (all_at (IsKept words) list n (comes.One one) all at) (All-nil (IsHeld words)))

held_words : (words : List Word) (list : List Comes) (numbers : List ℕ) (all : List Given) → All (IsKept words) list → Gathers list numbers all → All (IsHeld words) all
held_words words list [] all kept gathers = rw gathers (All-nil (IsHeld words))
held_words words list (n ∷ numbers) all kept gathers =
    rw gathers.4 (All-append (IsHeld words) gathers.0 gathers.1 (held_given words (slice_get list n) gathers.0 list n kept refl gathers.2) (held_words words list numbers gathers.1 kept gathers.3))

held_amount : (words : List Word) (list : List Comes) (one : Cut) (n : ℕ) (w : Word) (all : List Given) → All (IsKept words) list → slice_get words n ≡ Some w → Amounts list one n all → All (IsHeld words) all
held_amount words list cut.Undefined n w all kept is amounts = rw amounts (All-cons (IsHeld words) (given.Word n) [] (w, is) (All-nil (IsHeld words)))
held_amount words list cut.Broken n w all kept is amounts = absurd amounts
held_amount words list (cut.Word one) n w all kept is amounts = held_words words list (one ∷ []) all kept amounts
held_amount words list (cut.Words numbers) n w all kept is amounts = held_words words list numbers.items all kept amounts

-- the table with the name
compiled_more : (definitions : Definitions) (words : List Word) (list : List Comes) (table : Table) (n : ℕ) (name : List ℕ) (one : Cut) (all : List Given) → IsCompiled definitions table → number_of table name ≡ None
    → slice_get words n ≡ Some (word.Name name) → ((n : ℕ) (one : Word) → slice_get words n ≡ Some one → told words (slice_get list n) ≡ word_children table one) → IsCut words one (look_up definitions name) → Amounts list one n all
    → IsCompiled definitions ((name, map (child_of words) all) ∷ table)
compiled_more definitions words list table n name cut.Undefined all compiled new is agrees none amounts =
    let alone : map (child_of words) all ≡ child.Word (word.Name name) ∷ [] = rw (amounts, is) refl in
    rw alone ((All-cons (IsBelow (length table)) (child.Word (word.Name name)) [] tt (All-nil (IsBelow (length table))), new, compiled.0), (rw none refl, compiled.1))
compiled_more definitions words list table n name cut.Broken all compiled new is agrees none amounts = absurd amounts
compiled_more definitions words list table n name (cut.Word number) all compiled new is agrees text amounts =
    let somewhere : Place = record { unit = 0; line = 0; column = 0 } in
    let read : (place : Place) → IsReadAs table place (text_items place text.0) (map (child_of words) all) =
    λ place. rw (text.2.1 place) (read_words words list table place text.2.0 (number ∷ []) all agrees text.2.2 amounts) in
    ((read_below table somewhere (text_items somewhere text.0) (map (child_of words) all) compiled.0 (read somewhere), new, compiled.0), (rw text.1 read, compiled.1))
compiled_more definitions words list table n name (cut.Words numbers) all compiled new is agrees text amounts =
    let somewhere : Place = record { unit = 0; line = 0; column = 0 } in
    let read : (place : Place) → IsReadAs table place (text_items place text.0) (map (child_of words) all) =
    λ place. rw (text.2.1 place) (read_words words list table place text.2.0 numbers.items all agrees text.2.2 amounts) in
    ((read_below table somewhere (text_items somewhere text.0) (map (child_of words) all) compiled.0 (read somewhere), new, compiled.0), (rw text.1 read, compiled.1))

-- a word that isn't known is a name
unknown_name : (table : Table) (one : Word) → is_replace (Is one) ≡ false → word_children table one ≡ None → (name : List ℕ) × (one ≡ word.Name name)
unknown_name table (word.Name name) said is = (name, refl)
unknown_name table (word.Reserved reserved.Replace) said is = let no : true ≡ false = said in absurd (cc)
unknown_name table one said is = let no : Some (child.Word one ∷ []) ≡ None = is in absurd (cc)

count_of : (words : List Word) (entries : List Entry) → length (table_of words entries) ≡ length entries
count_of words entries = length-reverse (map (row_of words) entries) ∙ length-map entries (row_of words)

pub summed_up : (definitions : Definitions) (words : List Word) (list more : List Comes) (cuts : List Cut) (entries longer : List Entry) (last : Entry) (one : Cut) (known : Comes) → IsOnce words
    → IsSummary definitions words list cuts entries → given_of (slice_get list last.number) ≡ None → slice_get cuts last.number ≡ Some one → Amounts list one last.number (list_of last.parts)
    → told words (Some known) ≡ Some (as_child (length entries) (map (child_of words) (list_of last.parts))) → (All (IsHeld words) (list_of last.parts) → IsKept words known)
    → longer ≡ entries ++ last ∷ [] → more ≡ slice_set list last.number known → IsSummary definitions words more cuts longer
summed_up definitions words list more cuts entries longer last one known once s unknown at amounts here kept longer_is more_is =
    let n = last.number in
    let inside = get_within cuts n one at in
    let there = get_there words n (omega (arith, inside, s.even)) in
    let table = table_of words entries in
    let none : word_children table there.0 ≡ None = sym (s.agrees n there.0 there.1) ∙ ap (option_map (map (child_of words))) unknown in
    let named = unknown_name table there.0 (all_at IsSaid words n there.0 s.said there.1) none in
    let own : slice_get words n ≡ Some (word.Name named.0) = there.1 ∙ ap Some named.1 in
    let new : number_of table named.0 ≡ None = not_known table named.0 (ap (word_children table) (sym named.1) ∙ none) in
    let held = held_amount words list one n there.0 (list_of last.parts) s.kept there.1 amounts in
    let compiled = compiled_more definitions words list table n named.0 one (list_of last.parts) s.compiled new own s.agrees (s.cut n named.0 one own at) amounts in
    rw (longer_is, more_is) (added definitions words list cuts entries last named.0 known once s own held (kept held) here compiled (count_of words entries))
