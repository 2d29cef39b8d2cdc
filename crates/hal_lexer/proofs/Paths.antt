-- What is wrong in a text that is being compiled is wrong among what stands in place of the outermost name.
use Rattle.std.proofs.Common.{◌≡◌, ◌<◌, ◌-◌, ℕ, suc, true, false, List, [], ◌∷◌, length, Some, None, refl, ap, ◌∙◌, arith}
use Rattle.std.specs.Prelude.{flat_map}
use Rattle.std.proofs.lemmas.List.Elements.{Contains-append_left, Contains-append_right}
use Rattle.hal_base.specs.declared.refusal.Place.{Place}
use Rattle.hal_base.specs.declared.refusal.Fault.{Fault}
use Rattle.hal_base.specs.declared.refusal.Fault.TheVariants as fault
use Rattle.hal_words.specs.declared.word.Word.{Word}
use Rattle.hal_words.specs.declared.word.Word.TheVariants as word
use Rattle.hal_words.specs.Pieces.{Is, Wrong}
use Rattle.hal_words.specs.Lines.{Item, item}
use Rattle.hal_words.specs.Replacing.{Definitions, is_among, is_replace, text_items, within, replaced_word}
use Rattle.hal_words.specs.Reserved.{look_up}
use Rattle.hal_pieces.specs.Faults.{IsBrokenAt, IsFaultItem, IsMemory, Tells}
use Rattle.hal_lexer.specs.declared.child.Child.{Child}
use Rattle.hal_lexer.specs.Compiled.{Table}
use Rattle.hal_lexer.specs.Opened.{Opened, opened, begun, names_of, AreOpened, left_items, Leads, IsSpoilt}
use Rattle.hal_lexer.proofs.Explained.{fault_item}
use Rattle.hal_lexer.proofs.Within.{within_open, within_replace, within_defined, fault_within}
use Rattle.hal_lexer.proofs.Openings.{one_deeper}

pub memory_told : (whole : List Item) (found : Fault) → IsMemory found → Tells whole found
memory_told whole (fault.Broken refusal) is = absurd is
memory_told whole (fault.Memory error) is = tt

-- an item that is a fault
pub item_told : (one : Item) (rest : List Item) (found : Fault) → IsFaultItem one found → Tells (one ∷ rest) found
item_told one rest (fault.Broken refusal) is = (0, omega arith, is)
item_told one rest (fault.Memory error) is = tt

pub first_spoils : (place : Place) (text rest : List ℕ) (one : Item) (found : Fault) → text_items place text ≡ one ∷ text_items place rest → IsFaultItem one found → IsSpoilt place text found
first_spoils place text rest one (fault.Broken refusal) front is = λ deep definitions opened.
    rw (front, fault_within deep definitions opened one refusal is) (item_told one (flat_map (within deep definitions opened) (text_items place rest)) (fault.Broken refusal) is)
first_spoils place text rest one (fault.Memory error) front is = λ deep definitions opened. tt

pub replace_spoils : (place : Place) (text rest : List ℕ) (one : Word) (found : Fault) → text_items place text ≡ item (Is one) place ∷ text_items place rest → is_replace (Is one) ≡ true → IsBrokenAt 207 place found → IsSpoilt place text found
replace_spoils place text rest one found front is broken = λ deep definitions opened'.
    rw (front, within_replace deep definitions opened' one place is)
    (item_told (item (Wrong 207) place) (flat_map (within deep definitions opened') (text_items place rest)) found (fault_item 207 place found broken))

-- a text goes on behind a word
pub leads_on : (definitions : Definitions) (place : Place) (whole : List Item) (name rest behind : List ℕ) (children more : List Child) (below : List Opened) (one : Word)
    → text_items place rest ≡ item (Is one) place ∷ text_items place behind → Leads definitions place whole (opened name rest children ∷ below) → Leads definitions place whole (opened name behind more ∷ below)
leads_on definitions place whole name rest behind children more below one front leads =
    let first = within (length definitions - suc (length below)) definitions (name ∷ names_of below) (item (Is one) place) in
    (λ some has. leads.0 some (rw front (Contains-append_right first (left_items definitions place (opened name behind more) below) some has)), leads.1)

-- a text is opened
inner_levels : (definitions : Definitions) (n : ℕ) → suc n < length definitions → length definitions - suc n ≡ suc (length definitions - suc (suc n))
inner_levels definitions n below = omega (arith, below)

pub leads_in : (definitions : Definitions) (place : Place) (whole : List Item) (table : Table) (top : Opened) (below : List Opened) (inner text behind : List ℕ) → AreOpened definitions table (top ∷ below)
    → text_items place top.rest ≡ item (Is (word.Name inner)) place ∷ text_items place behind → is_among (names_of (top ∷ below)) inner ≡ false → look_up definitions inner ≡ Some text
    → Leads definitions place whole (top ∷ below) → Leads definitions place whole (begun inner text ∷ top ∷ below)
leads_in definitions place whole table top below inner text behind is front other defined leads =
    let deeper = one_deeper definitions table (top ∷ below) inner text is defined other in
    let levels = inner_levels definitions (length below) (omega (arith, deeper)) in
    let opens : within (length definitions - suc (length below)) definitions (names_of (top ∷ below)) (item (Is (word.Name inner)) place) ≡ left_items definitions place (begun inner text) (top ∷ below) =
    rw levels (within_defined (length definitions - suc (suc (length below))) definitions (names_of (top ∷ below)) inner text place other defined) in
    (λ some has. leads.0 some (rw (front, opens) (Contains-append_left (left_items definitions place (begun inner text) (top ∷ below)) (flat_map (within (length definitions - suc (length below)) definitions (names_of (top ∷ below))) (text_items place behind)) some has)), leads)

some_definition : (definitions : Definitions) (name text : List ℕ) → look_up definitions name ≡ Some text → length definitions ≡ suc (length definitions - 1)
some_definition [] name text is = let no : None ≡ Some text = is in absurd (cc)
some_definition (one ∷ definitions) name text is = omega arith

pub leads_start : (definitions : Definitions) (place : Place) (name text : List ℕ) → look_up definitions name ≡ Some text
    → Leads definitions place (replaced_word definitions (item (Is (word.Name name)) place)) (begun name text ∷ [])
leads_start definitions place name text defined =
    let opens : replaced_word definitions (item (Is (word.Name name)) place) ≡ left_items definitions place (begun name text) [] =
    ap (λ n. within n definitions [] (item (Is (word.Name name)) place)) (some_definition definitions name text defined)
    ∙ within_defined (length definitions - 1) definitions [] name text place refl defined in
    (λ some has. rw opens has, tt)

-- faults
pub spoilt_told : (definitions : Definitions) (place : Place) (whole : List Item) (top : Opened) (below : List Opened) (found : Fault) → IsSpoilt place top.rest found → Leads definitions place whole (top ∷ below) → Tells whole found
spoilt_told definitions place whole top below (fault.Broken refusal) spoilt leads =
    leads.0 (item (Wrong refusal.rule.0) refusal.place) (spoilt (length definitions - suc (length below)) definitions (top.name ∷ names_of below))
spoilt_told definitions place whole top below (fault.Memory error) spoilt leads = tt

pub own_told : (definitions : Definitions) (place : Place) (whole : List Item) (top : Opened) (below : List Opened) (inner behind : List ℕ) (found : Fault)
    → text_items place top.rest ≡ item (Is (word.Name inner)) place ∷ text_items place behind → is_among (names_of (top ∷ below)) inner ≡ true → IsBrokenAt 205 place found
    → Leads definitions place whole (top ∷ below) → Tells whole found
own_told definitions place whole top below inner behind (fault.Broken refusal) front among is leads =
    let opened' = names_of (top ∷ below) in
    let deep = length definitions - suc (length below) in
    leads.0 (item (Wrong refusal.rule.0) refusal.place)
    (rw (front, within_open deep definitions opened' inner place among) (item_told (item (Wrong 205) place) (flat_map (within deep definitions opened') (text_items place behind)) (fault.Broken refusal) (fault_item 205 place (fault.Broken refusal) is)))
own_told definitions place whole top below inner behind (fault.Memory error) front among is leads = tt
