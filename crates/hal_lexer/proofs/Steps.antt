-- One step of the compilation: a text ends, or a text is opened in it, or a word of it is passed.
use Rattle.std.proofs.Common.{◌≡◌, ◌<◌, ◌+◌, ℕ, inl, inr, ◌⊎◌, true, false, List, [], ◌∷◌, ◌++◌, length, Some, None, refl, arith}
use Rattle.hal_base.specs.declared.refusal.Place.{Place}
use Rattle.hal_base.specs.declared.refusal.Fault.{Fault}
use Rattle.hal_words.specs.declared.word.Word.{Word}
use Rattle.hal_words.specs.declared.word.Word.TheVariants as word
use Rattle.hal_words.specs.Pieces.{Is}
use Rattle.hal_words.specs.Lines.{Item, item}
use Rattle.hal_words.specs.Replacing.{Definitions, is_among, text_items, replaced_word}
use Rattle.hal_words.specs.Reserved.{look_up}
use Rattle.hal_pieces.specs.Faults.{IsBrokenAt, IsMemory, Tells}
use Rattle.hal_lexer.specs.declared.child.Child.{Child}
use Rattle.hal_lexer.specs.declared.child.Child.TheVariants as child
use Rattle.hal_lexer.specs.Compiled.{Table, number_of, IsCompiled, Stays, word_children}
use Rattle.hal_lexer.specs.Opened.{Opened, opened, begun, names_of, AreOpened, Leads, IsSpoilt, is_seen, work}
use Rattle.hal_lexer.proofs.Tables.{own_name}
use Rattle.hal_lexer.proofs.Readings.{read_end, read_below, read_next, read_start}
use Rattle.hal_lexer.proofs.Rooms.{SeesMore, unseen_less, unseen_first}
use Rattle.hal_lexer.proofs.Openings.{opened_kept, undefined_apart, seen_closed, seen_added, seen_opened}
use Rattle.hal_lexer.proofs.Paths.{memory_told, leads_in, leads_on, leads_start, own_told, spoilt_told}

abbrev cost : List ℕ → ℕ
cost text = length text + 2

-- a text ends
pub closed_compiled : (definitions : Definitions) (table : Table) (frames : List Opened) (top : Opened) (below : List Opened) → frames ≡ top ∷ below → IsCompiled definitions table → AreOpened definitions table frames
    → ((at : Place) → text_items at top.rest ≡ []) → IsCompiled definitions ((top.name, top.children) ∷ table)
closed_compiled definitions table frames top below whole compiled opened' none =
    let is : AreOpened definitions table (top ∷ below) = rw whole at opened' in
    let read = read_end table is.0.text top.rest top.children is.0.read none in
    let somewhere : Place = record { unit = 0; line = 0; column = 0 } in
    ((read_below table somewhere (text_items somewhere is.0.text) top.children compiled.0 (read somewhere), is.0.uncompiled, compiled.0), (rw is.0.defined read, compiled.1))

pub closed_opened : (definitions : Definitions) (table : Table) (frames : List Opened) (top : Opened) (below : List Opened) → frames ≡ top ∷ below → AreOpened definitions table frames
    → AreOpened definitions ((top.name, top.children) ∷ table) below
closed_opened definitions table frames top below whole opened' =
    let is : AreOpened definitions table (top ∷ below) = rw whole at opened' in
    opened_kept definitions table (top.name, top.children) below is.0.uncompiled is.1 is.2

pub closed_smaller : (definitions : Definitions) (table : Table) (frames : List Opened) (top : Opened) (below : List Opened) → frames ≡ top ∷ below
    → work definitions ((top.name, top.children) ∷ table) below < work definitions table frames
closed_smaller definitions table frames top below whole =
    let less = unseen_less cost (is_seen table (top ∷ below)) (is_seen ((top.name, top.children) ∷ table) below) definitions (seen_closed table top below top.children) in
    rw whole (omega (arith, less))

-- a text is opened
pub entered_leads : (definitions : Definitions) (place : Place) (table : Table) (frames : List Opened) (top : Opened) (below : List Opened) (one : Word) (inner text behind : List ℕ) → frames ≡ top ∷ below
    → AreOpened definitions table frames → text_items place top.rest ≡ item (Is one) place ∷ text_items place behind → one ≡ word.Name inner → is_among (names_of (top ∷ below)) inner ≡ false → look_up definitions inner ≡ Some text
    → (whole : List Item) → Leads definitions place whole frames → Leads definitions place whole (begun inner text ∷ top ∷ below)
entered_leads definitions place table frames top below one inner text behind top_is opened' front name other defined whole leads =
    leads_in definitions place whole table top below inner text behind (rw top_is at opened') (rw name at front) other defined (rw top_is at leads)

pub entered_opened : (definitions : Definitions) (table : Table) (frames more : List Opened) (inner text : List ℕ) → more ≡ begun inner text ∷ frames → AreOpened definitions table frames → look_up definitions inner ≡ Some text
    → number_of table inner ≡ None → is_among (names_of frames) inner ≡ false → AreOpened definitions table more
entered_opened definitions table frames more inner text more_is opened' defined new other =
    rw more_is (
      record {
        text = text;
        defined = defined;
        uncompiled = new;
        read = read_start table text;
      },
      other,
      opened',
    )

pub entered_smaller : (definitions : Definitions) (table : Table) (frames top more : List Opened) (inner text : List ℕ) → frames ≡ top → more ≡ begun inner text ∷ top → look_up definitions inner ≡ Some text
    → number_of table inner ≡ None → is_among (names_of top) inner ≡ false → work definitions table more < work definitions table frames
entered_smaller definitions table frames top more inner text top_is more_is defined new other =
    let not_yet : is_seen table top inner ≡ false = rw (other, new) refl in
    let now : is_seen table (begun inner text ∷ top) inner ≡ true = rw (own_name inner) refl in
    let less = unseen_first cost (is_seen table top) (is_seen table (begun inner text ∷ top)) definitions inner text (seen_opened table (begun inner text) top) defined not_yet now in
    rw (top_is, more_is) (omega (arith, less))

pub entered_told : (definitions : Definitions) (place : Place) (frames : List Opened) (top : Opened) (below : List Opened) (one : Word) (inner behind : List ℕ) (found : Fault) → frames ≡ top ∷ below
    → text_items place top.rest ≡ item (Is one) place ∷ text_items place behind → one ≡ word.Name inner → IsMemory found ⊎ ((is_among (names_of (top ∷ below)) inner ≡ true) × IsBrokenAt 205 place found)
    → (whole : List Item) → Leads definitions place whole frames → Tells whole found
entered_told definitions place frames top below one inner behind found top_is front name (inl memory) whole leads = memory_told whole found memory
entered_told definitions place frames top below one inner behind found top_is front name (inr own) whole leads =
    own_told definitions place whole top below inner behind found (rw name at front) own.0 own.1 (rw top_is at leads)

-- a word is passed
stays_opened : (definitions : Definitions) (old new : Table) (frames : List Opened) (one : Word) → Stays one old new → ((name : List ℕ) → one ≡ word.Name name → number_of old name ≡ None → look_up definitions name ≡ None)
    → AreOpened definitions old frames → AreOpened definitions new frames
stays_opened definitions old new frames one (inl same) none is = rw same is
stays_opened definitions old new frames one (inr added) none is =
    let apart = undefined_apart definitions old frames added.0 (none added.0 added.1 added.2) is in
    rw added.3 (opened_kept definitions old (added.0, child.Word (word.Name added.0) ∷ []) frames added.2 apart is)

pub stays_seen : (one : Word) (old new : Table) (frames : List Opened) → Stays one old new → SeesMore (is_seen old frames) (is_seen new frames)
stays_seen one old new frames (inl same) = λ name is. rw same is
stays_seen one old new frames (inr added) = λ name is. rw added.3 (seen_added old (added.0, child.Word (word.Name added.0) ∷ []) frames name is)

pub passed_opened : (definitions : Definitions) (old new : Table) (frames : List Opened) (name rest behind : List ℕ) (children first : List Child) (below : List Opened) (one : Word) → frames ≡ opened name rest children ∷ below
    → Stays one old new → ((name : List ℕ) → one ≡ word.Name name → number_of old name ≡ None → look_up definitions name ≡ None) → AreOpened definitions old frames
    → ((at : Place) → text_items at rest ≡ item (Is one) at ∷ text_items at behind) → word_children new one ≡ Some first → AreOpened definitions new (opened name behind (children ++ first) ∷ below)
passed_opened definitions old new frames name rest behind children first below one top_is stays none opened' front found =
    let is : AreOpened definitions new (opened name rest children ∷ below) = stays_opened definitions old new (opened name rest children ∷ below) one stays none (rw top_is at opened') in (
      record {
        text = is.0.text;
        defined = is.0.defined;
        uncompiled = is.0.uncompiled;
        read = read_next new is.0.text rest behind children one first is.0.read front found;
      },
      is.1,
      is.2,
    )

pub passed_leads : (definitions : Definitions) (place : Place) (frames : List Opened) (name rest behind : List ℕ) (children more : List Child) (below : List Opened) (one : Word) → frames ≡ opened name rest children ∷ below
    → text_items place rest ≡ item (Is one) place ∷ text_items place behind → (whole : List Item) → Leads definitions place whole frames → Leads definitions place whole (opened name behind more ∷ below)
passed_leads definitions place frames name rest behind children more below one top_is front whole leads =
    leads_on definitions place whole name rest behind children more below one front (rw top_is at leads)

pub passed_smaller : (definitions : Definitions) (old new : Table) (frames : List Opened) (name rest behind : List ℕ) (children more : List Child) (below : List Opened) (one : Word) → frames ≡ opened name rest children ∷ below
    → Stays one old new → length behind < length rest → work definitions new (opened name behind more ∷ below) < work definitions old frames
passed_smaller definitions old new frames name rest behind children more below one top_is stays shorter =
    let less = unseen_less cost (is_seen old (opened name rest children ∷ below)) (is_seen new (opened name rest children ∷ below)) definitions (stays_seen one old new (opened name rest children ∷ below) stays) in
    rw top_is (omega (arith, less, shorter))

pub step_spoilt : (definitions : Definitions) (place : Place) (frames : List Opened) (top : Opened) (below : List Opened) (found : Fault) → frames ≡ top ∷ below → IsSpoilt place top.rest found
    → (whole : List Item) → Leads definitions place whole frames → Tells whole found
step_spoilt definitions place frames top below found top_is spoilt whole leads = spoilt_told definitions place whole top below found spoilt (rw top_is at leads)

-- the compilation begins with the text of a name
pub start_opened : (definitions : Definitions) (table : Table) (frames : List Opened) (name text : List ℕ) → frames ≡ begun name text ∷ [] → look_up definitions name ≡ Some text → number_of table name ≡ None
    → AreOpened definitions table frames
start_opened definitions table frames name text is defined new = entered_opened definitions table [] frames name text is tt defined new refl

pub start_seen : (table : Table) (frames : List Opened) (name text : List ℕ) → frames ≡ begun name text ∷ [] → is_seen table frames name ≡ true
start_seen table frames name text is = rw (is, own_name name) refl

pub start_leads : (definitions : Definitions) (place : Place) (frames : List Opened) (name text : List ℕ) → frames ≡ begun name text ∷ [] → look_up definitions name ≡ Some text
    → Leads definitions place (replaced_word definitions (item (Is (word.Name name)) place)) frames
start_leads definitions place frames name text is defined = rw is (leads_start definitions place name text defined)
