-- What stands in place of a word, by whether its text is opened.
use Rattle.std.proofs.Common.{◌≡◌, ◌<◌, ◌≤◌, ◌-◌, ℕ, zero, suc, true, false, List, [], ◌∷◌, ◌++◌, length, get_or, take, drop, map, All, Some, None, refl, sym, ap, ◌∙◌, subst, append_assoc, arith}
use Rattle.std.specs.Prelude.{flat_map}
use Rattle.std.proofs.lemmas.List.{take_all, drop-map}
use Rattle.std.proofs.lemmas.List.Elements.{All-drop}
use Rattle.hal_base.specs.declared.refusal.Place.{Place}
use Rattle.hal_base.specs.declared.refusal.Fault.{Fault}
use Rattle.hal_base.specs.declared.refusal.Refusal.{Refusal}
use Rattle.hal_base.specs.declared.refusal.Fault.TheVariants as fault
use Rattle.hal_words.specs.declared.reserved.Reserved.TheVariants as reserved
use Rattle.hal_words.specs.declared.word.Word.{Word}
use Rattle.hal_words.specs.declared.word.Word.TheVariants as word
use Rattle.hal_words.specs.Pieces.{Piece, Is, Wrong}
use Rattle.hal_words.specs.Lines.{Item, item}
use Rattle.hal_words.specs.Replacing.{Definitions, is_among, is_replace, name_of, text_items, kept, within, replaced_word, replaced, as_word, definition, definition_size, with_definition, fault_of, formless}
use Rattle.hal_words.specs.Reserved.{look_up}
use Rattle.hal_pieces.specs.declared.item.Item.{Item as CodeItem}
use Rattle.hal_pieces.specs.Faults.{IsFaultItem, seen_item}
use Rattle.hal_lexer.specs.Texts.{HoldsText}
use Rattle.hal_lexer.specs.Faults.{Explains}
use Rattle.hal_lexer.proofs.Explained.{explains_here}

-- a name in its own text
pub within_open : (deep : ℕ) (definitions : Definitions) (opened : List (List ℕ)) (name : List ℕ) (place : Place) → is_among opened name ≡ true
    → within deep definitions opened (item (Is (word.Name name)) place) ≡ item (Wrong 205) place ∷ []
within_open zero definitions opened name place among = rw among refl
within_open (suc deep) definitions opened name place among = rw among refl

-- a name without a text
pub within_undefined : (deep : ℕ) (definitions : Definitions) (opened : List (List ℕ)) (name : List ℕ) (place : Place) → is_among opened name ≡ false → (0 < deep → look_up definitions name ≡ None)
    → within deep definitions opened (item (Is (word.Name name)) place) ≡ item (Is (word.Name name)) place ∷ []
within_undefined zero definitions opened name place among none = rw among refl
within_undefined (suc deep) definitions opened name place among none = let here : look_up definitions name ≡ None = none (omega arith) in rw (among, here) refl

-- a name with a text
pub within_defined : (deep : ℕ) (definitions : Definitions) (opened : List (List ℕ)) (name text : List ℕ) (place : Place) → is_among opened name ≡ false → look_up definitions name ≡ Some text
    → within (suc deep) definitions opened (item (Is (word.Name name)) place) ≡ flat_map (within deep definitions (name ∷ opened)) (text_items place text)
within_defined deep definitions opened name text place among some = rw (among, some) refl

-- a word that is no name
pub within_alone : (deep : ℕ) (definitions : Definitions) (opened : List (List ℕ)) (one : Piece) (place : Place) → name_of one ≡ None
    → within deep definitions opened (item one place) ≡ kept opened one place ∷ []
within_alone zero definitions opened one place none = refl
within_alone (suc deep) definitions opened one place none = rw none refl

kept_word : (opened : List (List ℕ)) (one : Word) (place : Place) → name_of (Is one) ≡ None → is_replace (Is one) ≡ false → kept opened (Is one) place ≡ item (Is one) place
kept_word opened (word.Name name) place none other = let no : Some name ≡ None = none in absurd (cc)
kept_word opened (word.Reserved reserved.Replace) place none other = let no : true ≡ false = other in absurd (cc)
kept_word opened one place none other = refl

pub no_name : (one : Word) → ((name : List ℕ) → one ≡ word.Name name → ⊥) → name_of (Is one) ≡ None
no_name (word.Name name) never = absurd (never name refl)
no_name one never = refl

pub within_word : (deep : ℕ) (definitions : Definitions) (opened : List (List ℕ)) (one : Word) (place : Place) → name_of (Is one) ≡ None → is_replace (Is one) ≡ false
    → within deep definitions opened (item (Is one) place) ≡ item (Is one) place ∷ []
within_word deep definitions opened one place none other =
    within_alone deep definitions opened (Is one) place none ∙ ap (λ (i : Item). i ∷ []) (kept_word opened one place none other)

kept_replace : (opened : List (List ℕ)) (one : Word) (place : Place) → is_replace (Is one) ≡ true → (name_of (Is one) ≡ None) × (kept opened (Is one) place ≡ item (Wrong 207) place)
kept_replace opened (word.Reserved reserved.Replace) place is = (refl, refl)
kept_replace opened one place is = let no : false ≡ true = is in absurd (cc)

pub within_replace : (deep : ℕ) (definitions : Definitions) (opened : List (List ℕ)) (one : Word) (place : Place) → is_replace (Is one) ≡ true
    → within deep definitions opened (item (Is one) place) ≡ item (Wrong 207) place ∷ []
within_replace deep definitions opened one place is =
    let facts = kept_replace opened one place is in
    within_alone deep definitions opened (Is one) place facts.0 ∙ ap (λ (i : Item). i ∷ []) facts.1

-- steps of items
pub moved_on : (old new : List Item) (one : Item) (given rest : List Item) → new ≡ old ++ one ∷ [] → given ≡ one ∷ [] → new ++ rest ≡ old ++ (given ++ rest)
moved_on old new one given rest added is = rw (added, is, append_assoc) refl

pub explains_one : (before : List Item) (one : Item) (given rest : List Item) (found : Fault) → given ≡ one ∷ [] → Explains (before ++ one ∷ rest) found → Explains (before ++ (given ++ rest)) found
explains_one before one given rest found is there = rw is there

-- a fault in a text
pub fault_within : (deep : ℕ) (definitions : Definitions) (opened : List (List ℕ)) (one : Item) (refusal : Refusal) → IsFaultItem one (fault.Broken refusal) → within deep definitions opened one ≡ one ∷ []
fault_within deep definitions opened one refusal is =
    rw is (within_alone deep definitions opened (Wrong refusal.rule.0) refusal.place refl)

pub explains_moved : (old new given left : List Item) (found : Fault) → new ++ left ≡ old ++ given → ((more : List Item) → Explains (new ++ (left ++ more)) found) → (more : List Item) → Explains (old ++ (given ++ more)) found
explains_moved old new given left found same there more =
    let whole : new ++ (left ++ more) ≡ old ++ (given ++ more) = sym (append_assoc new left more) ∙ ap (λ (list : List Item). list ++ more) same ∙ append_assoc old given more in
    subst (λ (list : List Item). Explains list found) whole (there more)

-- items of the file
pub items_are : (items behind : List CodeItem) (one : CodeItem) → 1 ≤ length items → one ≡ get_or items 0 one → behind ≡ take (length items - 1) (drop 1 items) → map seen_item items ≡ seen_item one ∷ map seen_item behind
items_are [] behind one some first rest = absurd (omega arith)
items_are (item' ∷ items) behind one some first rest =
    let tail : behind ≡ items = rest ∙ take_all (length (item' ∷ items) - 1) items (omega arith) in
    rw (tail, first) refl

pub texts_behind : (items behind : List CodeItem) → 1 ≤ length items → behind ≡ take (length items - 1) (drop 1 items) → All HoldsText (map seen_item items) → All HoldsText (map seen_item behind)
texts_behind [] behind some rest all = absurd (omega arith)
texts_behind (one ∷ items) behind some rest all =
    let tail : behind ≡ items = rest ∙ take_all (length (one ∷ items) - 1) items (omega arith) in
    rw tail (All-drop HoldsText 1 (map seen_item (one ∷ items)) all)

pub texts_dropped : (n : ℕ) (items : List CodeItem) → All HoldsText (map seen_item items) → All HoldsText (map seen_item (drop n items))
texts_dropped n items all = subst (λ (list : List Item). All HoldsText list) (drop-map seen_item n items) (All-drop HoldsText n (map seen_item items) all)

pub explains_definition : (before : List Item) (definitions : Definitions) (items : List Item) (one : Item) (behind : List Item) (found : Fault) → items ≡ one ∷ behind → is_replace one.piece ≡ true
    → ((done rest : List Item) → Explains (done ++ (fault_of (definition behind) (formless behind) one.place ++ rest)) found) → Explains (before ++ replaced 0 definitions items) found
explains_definition before definitions items one behind found whole is there =
    rw (whole, is) (there before (replaced (definition_size (definition behind)) (with_definition (definition behind) definitions) behind))

pub explains_word : (before : List Item) (definitions : Definitions) (items : List Item) (one : Item) (behind : List Item) (found : Fault) → items ≡ one ∷ behind → is_replace one.piece ≡ false
    → ((rest : List Item) → Explains (before ++ (replaced_word definitions (as_word one.piece one.place) ++ rest)) found) → Explains (before ++ replaced 0 definitions items) found
explains_word before definitions items one behind found whole is there = rw (whole, is) (there (replaced 0 definitions behind))

pub explains_no_word : (before : List Item) (definitions : Definitions) (one : Item) (found : Fault) → IsFaultItem one found
    → (rest : List Item) → Explains (before ++ (replaced_word definitions one ++ rest)) found
explains_no_word before definitions one (fault.Broken refusal) is rest =
    rw (fault_within (length definitions) definitions [] one refusal is) (explains_here before one rest (fault.Broken refusal) is)
explains_no_word before definitions one (fault.Memory error) is rest = is
