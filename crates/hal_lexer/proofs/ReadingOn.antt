-- A text is read on.
use Rattle.std.proofs.Common.{◌≡◌, ◌<◌, ◌≤◌, ◌-◌, ℕ, suc, List, [], ◌∷◌, ◌++◌, length, Some, refl, sym, ap, ◌∙◌, append_assoc, Contains, arith}
use Rattle.std.specs.Prelude.{flat_map}
use Rattle.std.proofs.lemmas.Grind.{flat_map-append}
use Rattle.std.proofs.lemmas.List.Elements.{Contains-append_right}
use Rattle.hal_base.specs.declared.refusal.Place.{Place}
use Rattle.hal_base.specs.declared.refusal.Fault.{Fault}
use Rattle.hal_base.specs.declared.refusal.Fault.TheVariants as fault
use Rattle.hal_words.specs.declared.word.Word.{Word}
use Rattle.hal_words.specs.Pieces.{Is, Wrong}
use Rattle.hal_words.specs.Lines.{Item, item}
use Rattle.hal_words.specs.Replacing.{Definitions, text_items, within}
use Rattle.hal_lexer.specs.declared.child.Child.{Child}
use Rattle.hal_lexer.specs.Compiled.{Table, GoesOn, word_children}
use Rattle.hal_lexer.specs.Opened.{Opened, opened, names_of, AreOpened, Leads, IsSpoilt, work}
use Rattle.hal_lexer.proofs.Readings.{read_next}

pub goes_on_start : (table : Table) (rest : List ℕ) (children : List Child) → GoesOn table rest children rest children
goes_on_start table rest children = record {
  read = λ text is. is;
  follows = λ place. ([], refl);
  shorter = omega arith;
}

pub goes_on_word : (table : Table) (rest behind : List ℕ) (children first more : List Child) (one : Word) → ((at : Place) → text_items at rest ≡ item (Is one) at ∷ text_items at behind)
    → word_children table one ≡ Some first → more ≡ children ++ first → length behind < length rest → GoesOn table rest children behind more
goes_on_word table rest behind children first more one front found added less = record {
  read = λ text is. rw added (read_next table text rest behind children one first is front found);
  follows = λ place. (item (Is one) place ∷ [], front place);
  shorter = omega (arith, less);
}

pub goes_on_more : (table : Table) (text rest behind : List ℕ) (children middle more : List Child) → GoesOn table text children rest middle → GoesOn table rest middle behind more → GoesOn table text children behind more
goes_on_more table text rest behind children middle more before after = record {
  read = λ whole is. after.read whole (before.read whole is);
  follows = λ place.
      let first = before.follows place in
      let second = after.follows place in
      (first.0 ++ second.0, first.1 ∙ ap (λ (list : List Item). first.0 ++ list) second.1 ∙ sym (append_assoc first.0 second.0 (text_items place behind)));
  shorter = omega (arith, before.shorter, after.shorter);
}

-- what is left of the text has its faults
behind_has : (place : Place) (rest behind : List ℕ) (deep : ℕ) (definitions : Definitions) (opened' : List (List ℕ)) (some : Item) → ((at : Place) → (done : List Item) × (text_items at rest ≡ done ++ text_items at behind))
    → Contains (flat_map (within deep definitions opened') (text_items place behind)) some → Contains (flat_map (within deep definitions opened') (text_items place rest)) some
behind_has place rest behind deep definitions opened' some follows has =
    let first = follows place in
    let each = within deep definitions opened' in
    rw (first.1, flat_map-append each first.0 (text_items place behind)) (Contains-append_right (flat_map each first.0) (flat_map each (text_items place behind)) some has)

pub spoilt_before : (place : Place) (table : Table) (rest behind : List ℕ) (children more : List Child) (found : Fault) → GoesOn table rest children behind more → IsSpoilt place behind found → IsSpoilt place rest found
spoilt_before place table rest behind children more (fault.Broken refusal) goes_on spoilt = λ deep definitions opened'.
    behind_has place rest behind deep definitions opened' (item (Wrong refusal.rule.0) refusal.place) goes_on.follows (spoilt deep definitions opened')
spoilt_before place table rest behind children more (fault.Memory error) goes_on spoilt = λ deep definitions opened'. tt

-- the texts with the innermost one read on
pub on_opened : (definitions : Definitions) (table : Table) (frames : List Opened) (name rest behind : List ℕ) (children more : List Child) (below : List Opened) → frames ≡ opened name rest children ∷ below
    → GoesOn table rest children behind more → AreOpened definitions table frames → AreOpened definitions table (opened name behind more ∷ below)
on_opened definitions table frames name rest behind children more below top_is goes_on opened' =
    let is : AreOpened definitions table (opened name rest children ∷ below) = rw top_is at opened' in (
      record {
        text = is.0.text;
        defined = is.0.defined;
        uncompiled = is.0.uncompiled;
        read = goes_on.read is.0.text is.0.read;
      },
      is.1,
      is.2,
    )

pub on_leads : (definitions : Definitions) (place : Place) (table : Table) (frames : List Opened) (name rest behind : List ℕ) (children more : List Child) (below : List Opened) → frames ≡ opened name rest children ∷ below
    → GoesOn table rest children behind more → (whole : List Item) → Leads definitions place whole frames → Leads definitions place whole (opened name behind more ∷ below)
on_leads definitions place table frames name rest behind children more below top_is goes_on whole leads' =
    let leads : Leads definitions place whole (opened name rest children ∷ below) = rw top_is at leads' in
    (λ some has. leads.0 some (behind_has place rest behind (length definitions - suc (length below)) definitions (name ∷ names_of below) some goes_on.follows has), leads.1)

pub on_less : (definitions : Definitions) (table : Table) (frames : List Opened) (name rest behind : List ℕ) (children more : List Child) (below : List Opened) → frames ≡ opened name rest children ∷ below
    → GoesOn table rest children behind more → work definitions table (opened name behind more ∷ below) ≤ work definitions table frames
on_less definitions table frames name rest behind children more below top_is goes_on = rw top_is (omega (arith, goes_on.shorter))
