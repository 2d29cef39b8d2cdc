-- A walk over children writes their words.
use Rattle.std.proofs.Common.{◌≡◌, ◌<◌, ◌+◌, ℕ, List, [], ◌∷◌, ◌++◌, length, Option, None, refl, sym, ap, subst, ◌∙◌, append_assoc, append-nil, arith}
use Rattle.std.specs.Prelude.{flat_map}
use Rattle.hal_base.specs.declared.refusal.Place.{Place}
use Rattle.hal_base.specs.declared.refusal.Fault.{Fault}
use Rattle.hal_words.specs.declared.word.Word.{Word}
use Rattle.hal_words.specs.Pieces.{Is}
use Rattle.hal_words.specs.Lines.{Item, item}
use Rattle.hal_lexer.specs.declared.child.Child.{Child}
use Rattle.hal_lexer.specs.declared.child.Child.TheVariants as child
use Rattle.hal_lexer.specs.Compiled.{Table, children_at, child_steps, steps_at, steps, step_items, gives, IsOrdered}
use Rattle.hal_lexer.specs.Faults.{Explains}
use Rattle.hal_lexer.specs.Walks.{kept, left_steps, left_words, length_left}
use Rattle.hal_lexer.proofs.Tables.{steps_open}

-- the first list is walked over before the others
kept_steps : (table : Table) (rest : List Child) (left : List (List Child)) → left_steps table (kept rest left) ≡ steps table rest ++ left_steps table left
kept_steps table [] left = refl
kept_steps table (one ∷ rest) left = refl

kept_length : (rest : List Child) (left : List (List Child)) → length (kept rest left) < length left + 2
kept_length [] left = omega arith
kept_length (one ∷ rest) left = omega arith

first_steps : (table : Table) (first : Child) (rest : List Child) (left : List (List Child)) → left_steps table ((first ∷ rest) ∷ left) ≡ child_steps (steps_at table) first ++ left_steps table (kept rest left)
first_steps table first rest left =
    append_assoc (child_steps (steps_at table) first) (steps table rest) (left_steps table left)
    ∙ ap (λ (list : List (Option Word)). child_steps (steps_at table) first ++ list) (sym (kept_steps table rest left))

-- a word is written
pub word_words : (table : Table) (place : Place) (one : Word) (rest : List Child) (left : List (List Child))
    → left_words table place ((child.Word one ∷ rest) ∷ left) ≡ item (Is one) place ∷ left_words table place (kept rest left)
word_words table place one rest left = ap (flat_map (step_items place)) (first_steps table (child.Word one) rest left)

pub word_smaller : (table : Table) (one : Word) (rest : List Child) (left : List (List Child)) → length_left table (kept rest left) < length_left table ((child.Word one ∷ rest) ∷ left)
word_smaller table one rest left =
    let steps' = ap (λ (list : List (Option Word)). length list) (first_steps table (child.Word one) rest left) in
    omega (arith, steps', kept_length rest left)

-- a name is gone into
name_steps : (table : Table) (n : ℕ) (rest : List Child) (left : List (List Child)) → IsOrdered table
    → left_steps table ((child.Name n ∷ rest) ∷ left) ≡ None ∷ left_steps table (children_at table n ∷ kept rest left)
name_steps table n rest left ordered =
    first_steps table (child.Name n) rest left
    ∙ ap (λ (list : List (Option Word)). None ∷ (list ++ left_steps table (kept rest left))) (steps_open table ordered n)

pub name_words : (table : Table) (place : Place) (n : ℕ) (rest : List Child) (left : List (List Child)) → IsOrdered table
    → left_words table place ((child.Name n ∷ rest) ∷ left) ≡ left_words table place (children_at table n ∷ kept rest left)
name_words table place n rest left ordered = ap (flat_map (step_items place)) (name_steps table n rest left ordered)

pub name_smaller : (table : Table) (n : ℕ) (rest : List Child) (left : List (List Child)) → IsOrdered table
    → length_left table (children_at table n ∷ kept rest left) < length_left table ((child.Name n ∷ rest) ∷ left)
name_smaller table n rest left ordered =
    let steps' = ap (λ (list : List (Option Word)). length list) (name_steps table n rest left ordered) in
    omega (arith, steps', kept_length rest left)

-- the same of the code's lists
pub word_broken : (before : List Item) (table : Table) (place : Place) (walk : List (List Child)) (one : Word) (rest : List Child) (below : List (List Child)) (found : Fault) → walk ≡ (child.Word one ∷ rest) ∷ below
    → ((more : List Item) → Explains (before ++ item (Is one) place ∷ more) found) → (more : List Item) → Explains (before ++ (left_words table place walk ++ more)) found
word_broken before table place walk one rest below found is there more =
    let words = ap (left_words table place) is ∙ word_words table place one rest below in
    subst (λ (list : List Item). Explains (before ++ (list ++ more)) found) (sym words) (there (left_words table place (kept rest below) ++ more))

pub name_moved : (before : List Item) (table : Table) (place : Place) (walk more : List (List Child)) (n : ℕ) (children rest : List Child) (below behind : List (List Child)) → walk ≡ (child.Name n ∷ rest) ∷ below → IsOrdered table
    → children ≡ children_at table n → behind ≡ kept rest below → more ≡ children ∷ behind → before ++ left_words table place more ≡ before ++ left_words table place walk
name_moved before table place walk more n children rest below behind is ordered its behind_is more_is =
    rw (is, more_is, its, behind_is) (ap (λ (list : List Item). before ++ list) (sym (name_words table place n rest below ordered)))

pub name_less : (table : Table) (walk more : List (List Child)) (n : ℕ) (children rest : List Child) (below behind : List (List Child)) → walk ≡ (child.Name n ∷ rest) ∷ below → IsOrdered table
    → children ≡ children_at table n → behind ≡ kept rest below → more ≡ children ∷ behind → length_left table more < length_left table walk
name_less table walk more n children rest below behind is ordered its behind_is more_is =
    rw (is, more_is, its, behind_is) (name_smaller table n rest below ordered)

-- the walk begins with the children of a name
pub walk_start : (table : Table) (place : Place) (children : List Child) → left_words table place (children ∷ []) ≡ gives table place children
walk_start table place children = ap (flat_map (step_items place)) (append-nil (steps table children))
