-- The map of the numbers, and the list of the children.
use Rattle.std.proofs.Common.{◌≡◌, ◌<◌, ◌≤◌, ℕ, inl, inr, true, false, Bool, cond, List, [], ◌∷◌, ◌++◌, length, get_or, map, reverse, Option, Some, None, refl, sym, ap, ◌∙◌, arith}
use Rattle.std.specs.Prelude.{bytes_eq, ◌==◌, if◌then◌else◌}
use Rattle.std.specs.Map.{lookup}
use Rattle.std.proofs.lemmas.Bool.{cases_Bool}
use Rattle.std.proofs.lemmas.Bool.Decides.{nat_tests}
use Rattle.std.proofs.lemmas.List.{reverse-append, length-reverse, length-map, map-append, get_or_append_left, get_or-map}
use Rattle.std.proofs.Math.Seq.{get_or-append_seam}
use Rattle.hal_words.specs.contracts.name.NamePartialEq.TheImpl as derived
use Rattle.hal_lexer.specs.declared.child.Child.{Child}
use Rattle.hal_lexer.specs.declared.compiled.Entry.{Entry}
use Rattle.hal_lexer.specs.Compiled.{Table, entry_of, number_of, children_at}
use Rattle.hal_lexer.specs.Defined.{found}
use Rattle.hal_lexer.specs.Numbers.{Numbers, has_at, still}
use Rattle.hal_words.proofs.NameEquality.{eq-same}
use Rattle.hal_lexer.proofs.Index.{lookup-found}

abbrev table_of : List Entry → Table
table_of items = reverse (map entry_of items)

-- what the map finds
pub still_number : (entries : List (List ℕ × ℕ)) (list table : Table) (name : List ℕ) (kept : Option ℕ) → Numbers entries list → list ≡ table → lookup ((derived.eq-value).it name) entries ≡ kept
    → still table name kept ≡ number_of table name
still_number entries list table name kept numbers is at = ap (still table name) (sym at ∙ lookup-found entries name) ∙ rw (← is) (numbers name)

-- the name with a number
past_name : (table : Table) (n : ℕ) (name : List ℕ) → length table ≤ n → has_at table n name ≡ false
past_name [] n name past = refl
past_name (entry ∷ older) n name past =
    let other : (n == length older) ≡ false = grind (arith, nat_tests) in
    rw other (past_name older n name (omega (arith, past)))

-- one more name
before_cases : (older : Table) (entry : List ℕ × List Child) (q : List ℕ) (before : Option ℕ) → bytes_eq entry.0 q ≡ false → still older q before ≡ number_of older q → still (entry ∷ older) q before ≡ number_of older q
before_cases older entry q None other is = is
before_cases older entry q (Some n) other is = elim (cases_Bool (n == length older)) [
  | inl here ↦
      let last : n ≡ length older = grind (arith, nat_tests) in
      let past : has_at older n q ≡ false = past_name older n q (omega (arith, last)) in
      rw (here, other) (rw past at is)
  | inr there ↦ rw there is
]

added_cases : (older : Table) (entry : List ℕ × List Child) (q : List ℕ) (before : Option ℕ) → still older q before ≡ number_of older q
    → still (entry ∷ older) q (if bytes_eq entry.0 q then Some (length older) else before) ≡ number_of (entry ∷ older) q
added_cases older entry q before is = elim (cases_Bool (bytes_eq entry.0 q)) [
  | inl same ↦ let last : (length older == length older) ≡ true = grind (arith, nat_tests) in rw (same, last, same) refl
  | inr other ↦ rw other (before_cases older entry q before other is)
]

pub numbers_added : (old new : List (List ℕ × ℕ)) (items more : List Entry) (one : Entry) (number : ℕ) → more ≡ items ++ one ∷ [] → number ≡ length items → Numbers old (table_of items)
    → ((q : List ℕ) → found new q ≡ (if bytes_eq one.name q then Some number else found old q)) → Numbers new (table_of more)
numbers_added old new items more one number added last numbers updates = λ q.
    let turned : table_of more ≡ entry_of one ∷ table_of items =
    ap table_of added ∙ ap reverse (map-append entry_of items (one ∷ [])) ∙ reverse-append (map entry_of items) (entry_of one ∷ []) in
    let count : number ≡ length (table_of items) = omega (arith, length-reverse (map entry_of items), length-map items entry_of) in
    rw (turned, updates q, count) (added_cases (table_of items) (entry_of one) q (found old q) (numbers q))

-- the map with a number more
cond_if : (same : Bool) (one before : Option ℕ) → cond same one before ≡ (if same then one else before)
cond_if true one before = refl
cond_if false one before = refl

pub found_updates : (old new : List (List ℕ × ℕ)) (name : List ℕ) (number : ℕ)
    → ((q : List ℕ) → lookup ((derived.eq-value).it q) new ≡ cond ((derived.eq-value).it name q) (Some number) (lookup ((derived.eq-value).it q) old))
    → (q : List ℕ) → found new q ≡ (if bytes_eq name q then Some number else found old q)
found_updates old new name number updates q =
    sym (lookup-found new q) ∙ updates q ∙ ap (λ b. cond b (Some number) (lookup ((derived.eq-value).it q) old)) (eq-same name q)
    ∙ ap (λ before. cond (bytes_eq name q) (Some number) before) (lookup-found old q) ∙ cond_if (bytes_eq name q) (Some number) (found old q)

-- the children at a number
pub reverse_twice : (table : Table) → reverse (reverse table) ≡ table
reverse_twice [] = refl
reverse_twice (entry ∷ older) =
    ap reverse (reverse-append (entry ∷ []) older) ∙ reverse-append (reverse older) (entry ∷ []) ∙ ap (λ (t : Table). entry ∷ t) (reverse_twice older)

pub got_children : (table : Table) (n : ℕ) (one : List ℕ × List Child) → n < length table → one ≡ get_or (reverse table) n one → children_at table n ≡ one.1
got_children [] n one within is = absurd (omega (arith, within))
got_children (entry ∷ older) n one within is =
    let turned : reverse (entry ∷ older) ≡ reverse older ++ entry ∷ [] = reverse-append (entry ∷ []) older in
    let there : one ≡ get_or (reverse older ++ entry ∷ []) n one = is ∙ ap (λ (t : Table). get_or t n one) turned in
    elim (cases_Bool (n == length older)) [
      | inl here ↦
          let last : n ≡ length (reverse older) = grind (arith, nat_tests, length-reverse older) in
          let own : one ≡ entry = there ∙ ap (λ k. get_or (reverse older ++ entry ∷ []) k one) last ∙ get_or-append_seam (reverse older) entry [] one in
          rw here (ap (λ (e : List ℕ × List Child). e.1) (sym own))
      | inr other ↦
          let before : n < length older = grind (arith, nat_tests) in
          rw other (got_children older n one before (there ∙ get_or_append_left (reverse older) (entry ∷ []) one n (omega (arith, before, length-reverse older))))
    ]

pub past_children : (table : Table) (n : ℕ) → length table ≤ n → children_at table n ≡ []
past_children [] n past = refl
past_children (entry ∷ older) n past =
    let other : (n == length older) ≡ false = grind (arith, nat_tests) in
    rw other (past_children older n (omega (arith, past)))

pub children_found : (items : List Entry) (table : Table) (n : ℕ) (one : Entry) → table_of items ≡ table → n < length items → one ≡ get_or items n one → one.children.items ≡ children_at table n
children_found items table n one view within is =
    let count : length (table_of items) ≡ length items = omega (arith, length-reverse (map entry_of items), length-map items entry_of) in
    let got : entry_of one ≡ get_or (reverse (table_of items)) n (entry_of one) =
    ap entry_of is ∙ sym (get_or-map entry_of items n one (entry_of one) within) ∙ ap (λ (t : Table). get_or t n (entry_of one)) (sym (reverse_twice (map entry_of items))) in
    sym (got_children (table_of items) n (entry_of one) (omega (arith, within, count)) got) ∙ ap (λ (t : Table). children_at t n) view

pub no_children : (items : List Entry) (table : Table) (n : ℕ) → table_of items ≡ table → length items ≤ n → [] ≡ children_at table n
no_children items table n view past =
    let count : length (table_of items) ≡ length items = omega (arith, length-reverse (map entry_of items), length-map items entry_of) in
    sym (past_children (table_of items) n (omega (arith, past, count))) ∙ ap (λ (t : Table). children_at t n) view

-- the name at a number
got_name : (table : Table) (n : ℕ) (one : List ℕ × List Child) (name : List ℕ) → n < length table → one ≡ get_or (reverse table) n one → has_at table n name ≡ bytes_eq one.0 name
got_name [] n one name within is = absurd (omega (arith, within))
got_name (entry ∷ older) n one name within is =
    let turned : reverse (entry ∷ older) ≡ reverse older ++ entry ∷ [] = reverse-append (entry ∷ []) older in
    let there : one ≡ get_or (reverse older ++ entry ∷ []) n one = is ∙ ap (λ (t : Table). get_or t n one) turned in
    elim (cases_Bool (n == length older)) [
      | inl here ↦
          let last : n ≡ length (reverse older) = grind (arith, nat_tests, length-reverse older) in
          let own : one ≡ entry = there ∙ ap (λ k. get_or (reverse older ++ entry ∷ []) k one) last ∙ get_or-append_seam (reverse older) entry [] one in
          rw here (ap (λ (e : List ℕ × List Child). bytes_eq e.0 name) (sym own))
      | inr other ↦
          let before : n < length older = grind (arith, nat_tests) in
          rw other (got_name older n one name before (there ∙ get_or_append_left (reverse older) (entry ∷ []) one n (omega (arith, before, length-reverse older))))
    ]

pub name_found : (items : List Entry) (table : Table) (n : ℕ) (one : Entry) (name : List ℕ) → table_of items ≡ table → n < length items → one ≡ get_or items n one
    → (derived.eq-value).it one.name name ≡ has_at table n name
name_found items table n one name view within is =
    let count : length (table_of items) ≡ length items = omega (arith, length-reverse (map entry_of items), length-map items entry_of) in
    let got : entry_of one ≡ get_or (reverse (table_of items)) n (entry_of one) =
    ap entry_of is ∙ sym (get_or-map entry_of items n one (entry_of one) within) ∙ ap (λ (t : Table). get_or t n (entry_of one)) (sym (reverse_twice (map entry_of items))) in
    eq-same one.name name ∙ sym (got_name (table_of items) n (entry_of one) name (omega (arith, within, count)) got) ∙ ap (λ (t : Table). has_at t n name) view

pub no_name_at : (items : List Entry) (table : Table) (n : ℕ) (name : List ℕ) → table_of items ≡ table → length items ≤ n → false ≡ has_at table n name
no_name_at items table n name view past =
    let count : length (table_of items) ≡ length items = omega (arith, length-reverse (map entry_of items), length-map items entry_of) in
    sym (past_name (table_of items) n name (omega (arith, past, count))) ∙ ap (λ (t : Table). has_at t n name) view
