-- The parts of names are written as their children are.
use Rattle.std.proofs.Common.{◌≡◌, ◌<◌, ◌≤◌, ℕ, List, [], ◌∷◌, ◌++◌, length, get_or, map, reverse, slice_get, refl, sym, ap, ◌∙◌, append_assoc, append-nil, arith}
use Rattle.std.proofs.lemmas.List.{length-reverse, length-map, get_or-map}
use Rattle.hal_base.specs.declared.refusal.Place.{Place}
use Rattle.hal_base.specs.declared.refusal.Fault.{Fault}
use Rattle.hal_words.specs.declared.word.Word.{Word}
use Rattle.hal_words.specs.Pieces.{Is}
use Rattle.hal_words.specs.Lines.{Item, item}
use Rattle.hal_lexer.specs.declared.comes.Given.{Given}
use Rattle.hal_lexer.specs.declared.comes.Given.TheVariants as given
use Rattle.hal_lexer.specs.declared.order.Entry.{Entry}
use Rattle.hal_lexer.specs.Compiled.{Table, children_at, gives, step_items, steps_at, IsOrdered}
use Rattle.hal_lexer.specs.Faults.{Explains}
use Rattle.hal_lexer.specs.Summary.{child_of, children_of, list_of, row_of, table_of, word_or}
use Rattle.hal_lexer.specs.Walks.{kept, left_words, length_left}
use Rattle.hal_lexer.proofs.NumberIndex.{got_children, past_children, reverse_twice}
use Rattle.std.specs.Prelude.{flat_map}
use Rattle.hal_lexer.proofs.Tables.{steps_open}
use Rattle.hal_lexer.proofs.Walked.{word_broken, word_words, word_smaller, name_moved, name_less}

-- the parts of the name with a number
pub parts_found : (words : List Word) (entries : List Entry) (n : ℕ) (one : Entry) → n < length entries → one ≡ get_or entries n one → map (child_of words) (list_of one.parts) ≡ children_at (table_of words entries) n
parts_found words entries n one within is =
    let row = row_of words in
    let count : length (table_of words entries) ≡ length entries = omega (arith, length-reverse (map row entries), length-map entries row) in
    let got : row one ≡ get_or (reverse (table_of words entries)) n (row one) =
    ap row is ∙ sym (get_or-map row entries n one (row one) within) ∙ ap (λ (t : Table). get_or t n (row one)) (sym (reverse_twice (map row entries))) in
    sym (got_children (table_of words entries) n (row one) (omega (arith, within, count)) got)

pub no_parts : (words : List Word) (entries : List Entry) (n : ℕ) → length entries ≤ n → [] ≡ children_at (table_of words entries) n
no_parts words entries n past =
    let row = row_of words in
    let count : length (table_of words entries) ≡ length entries = omega (arith, length-reverse (map row entries), length-map entries row) in
    sym (past_children (table_of words entries) n (omega (arith, past, count)))

-- a walk over parts is one over children
kept_parts : (words : List Word) (rest : List Given) (left : List (List Given)) → children_of words (kept rest left) ≡ kept (map (child_of words) rest) (children_of words left)
kept_parts words [] left = refl
kept_parts words (one ∷ rest) left = refl

front_parts : (words : List Word) (walk : List (List Given)) (first : Given) (rest : List Given) (below : List (List Given)) → walk ≡ (first ∷ rest) ∷ below
    → children_of words walk ≡ (child_of words first ∷ map (child_of words) rest) ∷ children_of words below
front_parts words walk first rest below is = ap (children_of words) is

pub word_told : (before : List Item) (words : List Word) (entries : List Entry) (place : Place) (walk : List (List Given)) (n : ℕ) (rest : List Given) (below : List (List Given)) (found : Fault) → walk ≡ (given.Word n ∷ rest) ∷ below
    → ((more : List Item) → Explains (before ++ item (Is (word_or (slice_get words n))) place ∷ more) found)
    → (more : List Item) → Explains (before ++ (left_words (table_of words entries) place (children_of words walk) ++ more)) found
word_told before words entries place walk n rest below found is there =
    word_broken before (table_of words entries) place (children_of words walk) (word_or (slice_get words n)) (map (child_of words) rest) (children_of words below) found (front_parts words walk (given.Word n) rest below is) there

pub word_written : (before after : List Item) (words : List Word) (entries : List Entry) (place : Place) (walk more : List (List Given)) (n : ℕ) (rest : List Given) (below : List (List Given)) → walk ≡ (given.Word n ∷ rest) ∷ below
    → more ≡ kept rest below → after ≡ before ++ item (Is (word_or (slice_get words n))) place ∷ []
    → after ++ left_words (table_of words entries) place (children_of words more) ≡ before ++ left_words (table_of words entries) place (children_of words walk)
word_written before after words entries place walk more n rest below is more_is written =
    let table = table_of words entries in
    let one = item (Is (word_or (slice_get words n))) place in
    let rest' = map (child_of words) rest in
    let below' = children_of words below in
    let front = ap (left_words table place) (front_parts words walk (given.Word n) rest below is) ∙ word_words table place (word_or (slice_get words n)) rest' below' in
    let behind = ap (left_words table place) (ap (children_of words) more_is ∙ kept_parts words rest below) in
    rw (written, behind, front) (append_assoc before (one ∷ []) (left_words table place (kept rest' below')))

pub word_fewer : (words : List Word) (entries : List Entry) (walk more : List (List Given)) (n : ℕ) (rest : List Given) (below : List (List Given)) → walk ≡ (given.Word n ∷ rest) ∷ below → more ≡ kept rest below
    → length_left (table_of words entries) (children_of words more) < length_left (table_of words entries) (children_of words walk)
word_fewer words entries walk more n rest below is more_is =
    let table = table_of words entries in
    let front = ap (length_left table) (front_parts words walk (given.Word n) rest below is) in
    let behind = ap (length_left table) (ap (children_of words) more_is ∙ kept_parts words rest below) in
    rw (front, behind) (word_smaller table (word_or (slice_get words n)) (map (child_of words) rest) (children_of words below))

pub part_moved : (before : List Item) (words : List Word) (entries : List Entry) (place : Place) (walk more : List (List Given)) (n : ℕ) (parts rest : List Given) (below behind : List (List Given)) → walk ≡ (given.Name n ∷ rest) ∷ below
    → IsOrdered (table_of words entries) → map (child_of words) parts ≡ children_at (table_of words entries) n → behind ≡ kept rest below → more ≡ parts ∷ behind
    → before ++ left_words (table_of words entries) place (children_of words more) ≡ before ++ left_words (table_of words entries) place (children_of words walk)
part_moved before words entries place walk more n parts rest below behind is ordered its behind_is more_is =
    name_moved before (table_of words entries) place (children_of words walk) (children_of words more) n (map (child_of words) parts) (map (child_of words) rest) (children_of words below) (children_of words behind)
    (front_parts words walk (given.Name n) rest below is) ordered its (ap (children_of words) behind_is ∙ kept_parts words rest below) (ap (children_of words) more_is)

pub part_less : (words : List Word) (entries : List Entry) (walk more : List (List Given)) (n : ℕ) (parts rest : List Given) (below behind : List (List Given)) → walk ≡ (given.Name n ∷ rest) ∷ below
    → IsOrdered (table_of words entries) → map (child_of words) parts ≡ children_at (table_of words entries) n → behind ≡ kept rest below → more ≡ parts ∷ behind
    → length_left (table_of words entries) (children_of words more) < length_left (table_of words entries) (children_of words walk)
part_less words entries walk more n parts rest below behind is ordered its behind_is more_is =
    name_less (table_of words entries) (children_of words walk) (children_of words more) n (map (child_of words) parts) (map (child_of words) rest) (children_of words below) (children_of words behind)
    (front_parts words walk (given.Name n) rest below is) ordered its (ap (children_of words) behind_is ∙ kept_parts words rest below) (ap (children_of words) more_is)

-- a name as a part gives what its parts give
pub name_given : (words : List Word) (entries : List Entry) (place : Place) (one : Given) (n : ℕ) → IsOrdered (table_of words entries) → one ≡ given.Name n
    → gives (table_of words entries) place (child_of words one ∷ []) ≡ gives (table_of words entries) place (children_at (table_of words entries) n)
name_given words entries place one n ordered is =
    let table = table_of words entries in
    rw is (ap (flat_map (step_items place)) (append-nil (steps_at table n) ∙ steps_open table ordered n))
