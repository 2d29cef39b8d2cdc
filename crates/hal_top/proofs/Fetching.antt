-- What the names that are left say of the files.
use Rattle.std.proofs.Common.{◌≡◌, ◌∙◌, ℕ, suc, ◌+◌, ◌<◌, ◌≤◌, List, [], ◌∷◌, ◌++◌, Option, Some, None, Err, IfSome, String, length, drop, map, get_or, refl, ap, sym, subst, arith, drop_of_length-le}
use Rattle.std.specs.String.{string_bytes}
use Rattle.std.specs.declared.alloc.Global.{Global}
use Rattle.hal_base.specs.declared.limits.TheConstants.{UNIT_LIMIT}
use Rattle.hal_base.specs.Files.{File}
use Rattle.hal_storage.proofs.elements.Repeated.{behind, none_behind}
use Rattle.std.proofs.lemmas.List.{drop_more, length-map}
use Rattle.hal_top.specs.CommandLine.{IsUnitCount, Wanted, texts, text_named}
use Rattle.hal_top.specs.declared.fetch.NoFile.{NoFile}
use Rattle.hal_top.specs.declared.fetch.NoFile.TheVariants as file
use Rattle.hal_top.specs.declared.refused.Refused.{Refused}
use Rattle.hal_top.specs.Causes.{IsPresent, ArePresent, IsAbsent, IsTooLong, FirstWrong}
use Rattle.hal_top.specs.Told.{FetchesFile, FetchesOne, IsUnfit}
use Rattle.hal_top.specs.Works.{IsCauseOfFile}

-- units that may stand in a command are few
pub few_units : (names : List (String Global)) → IsUnitCount (length (texts names)) → length names ≤ UNIT_LIMIT
few_units names count = subst (λ (n : ℕ). n ≤ UNIT_LIMIT) (length-map names (λ (word : String Global). string_bytes word)) count.few

-- the files that names want
abbrev pub wanted : List (String Global) → List Wanted
wanted names = map text_named (texts names)

-- the next name, and those behind it
pub next_text : (names : List (String Global)) (i : ℕ) (name : String Global) → i < length names → name ≡ get_or names i name
    → wanted (drop i names) ≡ text_named (string_bytes name) ∷ wanted (drop (i + 1) names)
next_text names i name within is = ap wanted (drop_more names i name within ∙ ap (λ (one : String Global). one ∷ drop (i + 1) names) (sym is))

pub none_left : (names : List (String Global)) (i : ℕ) → length names ≤ i → wanted (drop i names) ≡ []
none_left names i all = ap wanted (drop_of_length-le names {i = i} all)

-- from so many files before these, of which the first has this number and whose texts are there, what these say is said of the whole
pub record GoesOn (files : List File) (first : ℕ) (whole rest : List Wanted) (number : ℕ) (done : List (List ℕ)) : Type 0 where
  pub present : (texts : List (List ℕ)) → ArePresent files rest texts → ArePresent files whole (done ++ texts)
  pub absent : (n : ℕ) → FirstWrong IsAbsent files rest n → FirstWrong IsAbsent files whole (number + n)
  pub long : (n : ℕ) → FirstWrong IsTooLong files rest n → FirstWrong IsTooLong files whole (number + n)

abbrev pub HasGone : Option (List File) → ℕ → List Wanted → List Wanted → ℕ → List (List ℕ) → Type 0
HasGone files first whole rest number done = IfSome files (λ told. GoesOn told first whole rest number done)

pub started : (files : Option (List File)) (first : ℕ) (whole : List Wanted) → HasGone files first whole whole 0 []
started None first whole = tt
started (Some files) first whole = record {
  present = λ texts are. are;
  absent = λ n wrong. subst (λ (k : ℕ). FirstWrong IsAbsent files whole k) (omega arith) wrong;
  long = λ n wrong. subst (λ (k : ℕ). FirstWrong IsTooLong files whole k) (omega arith) wrong;
}

more : (files : List File) (first : ℕ) (whole : List Wanted) (one : Wanted) (rest : List Wanted) (number : ℕ) (done : List (List ℕ)) (text : List ℕ)
    → GoesOn files first whole (one ∷ rest) number done → IsPresent files one text → GoesOn files first whole rest (suc number) (done ++ (text ∷ []))
more files first whole one rest number done text on there = record {
  present = λ texts are. subst (λ (list : List (List ℕ)). ArePresent files whole list) (sym (behind done (text ∷ []) texts)) (on.present (text ∷ texts) (there, are));
  absent = λ n wrong. subst (λ (k : ℕ). FirstWrong IsAbsent files whole k) (omega arith) (on.absent (suc n) (text, there, wrong));
  long = λ n wrong. subst (λ (k : ℕ). FirstWrong IsTooLong files whole k) (omega arith) (on.long (suc n) (text, there, wrong));
}

pub one_more : (files later : Option (List File)) (first : ℕ) (whole : List Wanted) (one : Wanted) (rest : List Wanted) (number : ℕ) (done : List (List ℕ)) (text : List ℕ)
    → later ≡ files → HasGone files first whole (one ∷ rest) number done → IfSome later (λ told. IsPresent told one text) → HasGone files first whole rest (suc number) (done ++ (text ∷ []))
one_more None later first whole one rest number done text same on there = tt
one_more (Some files) later first whole one rest number done text same on there =
    more files first whole one rest number done text on (subst (λ (told : Option (List File)). IfSome told (λ it. IsPresent it one text)) same there)

-- no file is left
pub all_present : (files : Option (List File)) (first : ℕ) (whole rest : List Wanted) (number : ℕ) (done : List (List ℕ)) → rest ≡ [] → HasGone files first whole rest number done
    → IfSome files (λ told. ArePresent told whole done)
all_present None first whole rest number done none on = tt
all_present (Some files) first whole [] number done none on = subst (λ (list : List (List ℕ)). ArePresent files whole list) (none_behind done) (on.present [] tt)
all_present (Some files) first whole (one ∷ rest) number done none on = absurd (omega (arith, ap length none))

-- the next file isn't fit
refused_at : (files : List File) (first : ℕ) (whole : List Wanted) (one : Wanted) (rest : List Wanted) (number : ℕ) (done : List (List ℕ)) (fault : NoFile) (refused : Refused)
    → GoesOn files first whole (one ∷ rest) number done → FetchesFile files one (Err fault) → IsCauseOfFile fault (first + number) refused → IsUnfit files first whole refused
refused_at files first whole one rest number done file.Absent refused on wrong is =
    subst (λ (why : Refused). IsUnfit files first whole why) (sym is) (number, refl, subst (λ (k : ℕ). FirstWrong IsAbsent files whole k) (omega arith) (on.absent 0 wrong))
refused_at files first whole one rest number done file.TooLong refused on wrong is =
    subst (λ (why : Refused). IsUnfit files first whole why) (sym is) (number, refl, subst (λ (k : ℕ). FirstWrong IsTooLong files whole k) (omega arith) (on.long 0 wrong))
refused_at files first whole one rest number done file.Shelf refused on wrong is = subst (λ (why : Refused). IsUnfit files first whole why) (sym is) tt
refused_at files first whole one rest number done file.Memory refused on wrong is = subst (λ (why : Refused). IsUnfit files first whole why) (sym is) tt

pub unfit : (files later : Option (List File)) (first : ℕ) (whole : List Wanted) (one : Wanted) (rest : List Wanted) (number : ℕ) (done : List (List ℕ)) (fault : NoFile) (refused : Refused)
    → later ≡ files → HasGone files first whole (one ∷ rest) number done → IfSome later (λ told. FetchesFile told one (Err fault)) → IsCauseOfFile fault (first + number) refused
    → IfSome files (λ told. IsUnfit told first whole refused)
unfit None later first whole one rest number done fault refused same on wrong is = tt
unfit (Some files) later first whole one rest number done fault refused same on wrong is =
    refused_at files first whole one rest number done fault refused on (subst (λ (told : Option (List File)). IfSome told (λ it. FetchesFile it one (Err fault))) same wrong) is

-- one file that isn't fit is the first of itself
one_unfit : (files : List File) (number : ℕ) (one : Wanted) (fault : NoFile) (refused : Refused) → FetchesFile files one (Err fault) → IsCauseOfFile fault number refused
    → FetchesOne files number one (Err refused)
one_unfit files number one file.Absent refused wrong is = subst (λ (why : Refused). IsUnfit files number (one ∷ []) why) (sym is) (0, omega arith, wrong)
one_unfit files number one file.TooLong refused wrong is = subst (λ (why : Refused). IsUnfit files number (one ∷ []) why) (sym is) (0, omega arith, wrong)
one_unfit files number one file.Shelf refused wrong is = subst (λ (why : Refused). IsUnfit files number (one ∷ []) why) (sym is) tt
one_unfit files number one file.Memory refused wrong is = subst (λ (why : Refused). IsUnfit files number (one ∷ []) why) (sym is) tt

pub one_refused : (files : Option (List File)) (number : ℕ) (one : Wanted) (fault : NoFile) (refused : Refused) → IfSome files (λ told. FetchesFile told one (Err fault)) → IsCauseOfFile fault number refused
    → IfSome files (λ told. FetchesOne told number one (Err refused))
one_refused None number one fault refused wrong is = tt
one_refused (Some files) number one fault refused wrong is = one_unfit files number one fault refused wrong is
