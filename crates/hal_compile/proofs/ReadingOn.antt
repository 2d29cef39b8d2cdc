-- What the texts that are left say of the set.
use Rattle.std.proofs.Common.{◌≡◌, ◌∙◌, ℕ, ◌+◌, ◌<◌, ◌≤◌, inl, inr, List, [], ◌∷◌, ◌++◌, Vec, length, map, drop, get_or, refl, ap, sym, subst, arith, drop_of_length-le}
use Rattle.std.specs.declared.alloc.Global.{Global}
use Rattle.hal_base.specs.declared.refusal.Refusal.{Refusal}
use Rattle.hal_base.specs.declared.refusal.Fault.{Fault}
use Rattle.hal_base.specs.declared.refusal.Fault.TheVariants as fault
use Rattle.hal_storage.proofs.elements.Repeated.{behind, none_behind}
use Rattle.hal_grammar.specs.Units.{File}
use Rattle.hal_tree.specs.declared.unit.File as rust-file
use Rattle.hal_tree.specs.SeenUnits.{seen_file}
use Rattle.std.proofs.lemmas.List.{drop_more}
use Rattle.hal_checked.specs.Reading.{AreRead}
use Rattle.hal_compile.specs.Reading.{HaveWords, IsReadIn, TextBreaksBy, TextsBreak, TextsBreakBy, seen_text}

-- the next text, and those behind it
pub next_text : (texts : List (Vec ℕ Global)) (i : ℕ) (text : Vec ℕ Global) → i < length texts → text ≡ get_or texts i text → map seen_text (drop i texts) ≡ seen_text text ∷ map seen_text (drop (i + 1) texts)
next_text texts i text within is = ap (map seen_text) (drop_more texts i text within ∙ ap (λ (one : Vec ℕ Global). one ∷ drop (i + 1) texts) (sym is))

pub none_left : (texts : List (Vec ℕ Global)) (i : ℕ) → length texts ≤ i → map seen_text (drop i texts) ≡ []
none_left texts i all = ap (map seen_text) (drop_of_length-le texts {i = i} all)

-- from texts before these, which are those of files and have so many words, what these say is said of the whole
pub record GoesOn (whole rest : List (List ℕ)) (number : ℕ) (done : List File) (count : ℕ) : Type 0 where
  pub read : (files : List File) → AreRead number rest files → AreRead 0 whole (done ++ files)
  pub words : (later : ℕ) → HaveWords number rest later → HaveWords 0 whole (count + later)
  pub broken : (refusal : Refusal) → TextsBreak number rest refusal → TextsBreak 0 whole refusal

pub start : (whole : List (List ℕ)) → GoesOn whole whole 0 [] 0
start whole = record { read = λ files read. read; words = λ later has. subst (λ (n : ℕ). HaveWords 0 whole n) (omega arith) has; broken = λ refusal breaks. breaks }

pub one_more : (whole : List (List ℕ)) (text : List ℕ) (rest : List (List ℕ)) (number : ℕ) (done : List File) (count : ℕ) (file : rust-file.File) (more : ℕ)
    → IsReadIn number text file more → GoesOn whole (text ∷ rest) number done count → GoesOn whole rest (number + 1) (done ++ (seen_file file ∷ [])) (count + more)
one_more whole text rest number done count file more is on = record {
  read = λ files read. subst (λ (list : List File). AreRead 0 whole list) (sym (behind done (seen_file file ∷ []) files)) (on.read (seen_file file ∷ files) (is.read, read));
  words = λ later has. subst (λ (n : ℕ). HaveWords 0 whole n) (omega arith) (on.words (more + later) (more, later, refl, is.words, has));
  broken = λ refusal breaks. on.broken refusal (inr (seen_file file, is.read, breaks));
}

-- no text is left
pub all_read : (whole rest : List (List ℕ)) (number : ℕ) (done : List File) (count : ℕ) → rest ≡ [] → GoesOn whole rest number done count → AreRead 0 whole done
all_read whole [] number done count none on = subst (λ (list : List File). AreRead 0 whole list) (none_behind done) (on.read [] tt)
all_read whole (text ∷ rest) number done count none on = absurd (omega (arith, ap length none))

pub all_counted : (whole rest : List (List ℕ)) (number : ℕ) (done : List File) (count : ℕ) → rest ≡ [] → GoesOn whole rest number done count → HaveWords 0 whole count
all_counted whole [] number done count none on = subst (λ (n : ℕ). HaveWords 0 whole n) (omega arith) (on.words 0 refl)
all_counted whole (text ∷ rest) number done count none on = absurd (omega (arith, ap length none))

-- the next text is of no file
pub first_breaks : (whole : List (List ℕ)) (text : List ℕ) (rest : List (List ℕ)) (number : ℕ) (done : List File) (count : ℕ) (why : Fault)
    → GoesOn whole (text ∷ rest) number done count → TextBreaksBy number text why → TextsBreakBy whole why
first_breaks whole text rest number done count (fault.Broken refusal) on breaks = on.broken refusal (inl breaks)
first_breaks whole text rest number done count (fault.Memory error) on breaks = tt
