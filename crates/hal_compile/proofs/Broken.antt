-- What each stage says of files is what is said of the set.
use Rattle.std.proofs.Common.{◌≡◌, ℕ, true, inl, inr, List, Result, Ok, Err, IfOk, subst, sym}
use Rattle.hal_base.specs.declared.refusal.Place.{Place}
use Rattle.hal_base.specs.declared.refusal.Fault.{Fault}
use Rattle.hal_base.specs.declared.refusal.Fault.TheVariants as fault
use Rattle.hal_grammar.specs.Units.{File}
use Rattle.hal_phrases.specs.GatheredUnits.{phrases_of}
use Rattle.hal_phrases.specs.Phrases.{Phrase}
use Rattle.hal_names.specs.Laws.{IsCounted}
use Rattle.hal_names.proofs.Places.{are_counted}
use Rattle.hal_names.proofs.CountedFiles.{phrases_counted}
use Rattle.hal_constants.specs.Known.{Known, known}
use Rattle.hal_scope.specs.Faults.{IsBrokenBy}
use Rattle.hal_templates.specs.Faults.{IsMismatchedBy}
use Rattle.hal_templates.specs.Rules.{template_rows}
use Rattle.hal_types.specs.Faults.{IsMistypedBy}
use Rattle.hal_types.specs.Rules.{type_rows}
use Rattle.hal_locks.specs.Faults.{IsMislockedBy}
use Rattle.hal_locks.specs.Rules.{lock_rows}
use Rattle.hal_scope.specs.Rules.{IsSound, rows}
use Rattle.hal_calls.specs.Programs.{has_program}
use Rattle.hal_calls.specs.Rules.{call_rows}
use Rattle.hal_calls.specs.Faults.{IsMiscalledBy, IsOfNoProgram}
use Rattle.hal_limits.specs.Limits.{BreaksLimit, IsBeyondBy, IsWithin}
use Rattle.hal_code.specs.declared.image.ImageParts.{ImageParts}
use Rattle.hal_checked.specs.Checking.{IsChecked, IsLawful}
use Rattle.hal_compile.specs.Compiling.{BreaksRow, Compiles, ExceedsLimit, FilesBreakBy, IsOfMemory, IsToldAt, IsToldOfCells, IsUncompiled, Miscalls, MisdeclaredBy, Overfills, OversteppedBy}
use Rattle.hal_checked.specs.Reading.{AreRead}
use Rattle.hal_compile.specs.Reading.{HaveFewWords}
use Rattle.hal_compile.specs.Texts.{BreakBy, HasMeaning, MakesImage}
use Rattle.hal_compile.proofs.Meanings.{one_meaning}

-- no memory for the names
pub unnamed : (files : List File) (why : Fault) → IsOfMemory why → FilesBreakBy files why
unnamed files (fault.Broken refusal) wants = absurd wants
unnamed files (fault.Memory error) wants = tt

-- a rule of names
pub wrong_names : (ps qs : List Phrase) (why : Fault) → ps ≡ qs → IsBrokenBy ps why → MisdeclaredBy qs why
wrong_names ps qs (fault.Broken refusal) same breaks = inl (subst (λ (rs : List Phrase). IsBrokenBy rs (fault.Broken refusal)) same breaks)
wrong_names ps qs (fault.Memory error) same breaks = tt

-- of templates
pub wrong_templates : (ps qs : List Phrase) (why : Fault) → ps ≡ qs → IsMismatchedBy ps why → MisdeclaredBy qs why
wrong_templates ps qs (fault.Broken refusal) same breaks = inr (inl (subst (λ (rs : List Phrase). IsMismatchedBy rs (fault.Broken refusal)) same breaks))
wrong_templates ps qs (fault.Memory error) same breaks = tt

-- of types
pub wrong_types : (ps qs : List Phrase) (why : Fault) → ps ≡ qs → IsMistypedBy ps why → MisdeclaredBy qs why
wrong_types ps qs (fault.Broken refusal) same breaks = inr (inr (inl (subst (λ (rs : List Phrase). IsMistypedBy rs (fault.Broken refusal)) same breaks)))
wrong_types ps qs (fault.Memory error) same breaks = tt

-- of locks
pub wrong_locks : (ps : List Phrase) (why : Fault) → IsMislockedBy ps why → MisdeclaredBy ps why
wrong_locks ps (fault.Broken refusal) breaks = inr (inr (inr breaks))
wrong_locks ps (fault.Memory error) breaks = tt

-- none of these
pub lawful : (ps qs : List Phrase) → ps ≡ qs → IsSound template_rows ps → IsSound rows ps → IsSound type_rows ps → IsSound lock_rows qs → IsLawful qs
lawful ps qs same matched named typed locked =
    subst (λ (rs : List Phrase). IsLawful rs) same
    (record { matched = matched; typed = record { named = named; typed = typed }; locked = subst (λ (rs : List Phrase). IsSound lock_rows rs) (sym same) locked })

pub misdeclared : (ps : List Phrase) (files : List File) (why : Fault) → ps ≡ phrases_of files → MisdeclaredBy ps why → FilesBreakBy files why
misdeclared ps files (fault.Broken refusal) same (inl breaks) = inl (subst (λ (qs : List Phrase). BreaksRow rows qs refusal) same breaks)
misdeclared ps files (fault.Broken refusal) same (inr (inl breaks)) = inr (inl (subst (λ (qs : List Phrase). BreaksRow template_rows qs refusal) same breaks))
misdeclared ps files (fault.Broken refusal) same (inr (inr (inl breaks))) = inr (inr (inl (subst (λ (qs : List Phrase). BreaksRow type_rows qs refusal) same breaks)))
misdeclared ps files (fault.Broken refusal) same (inr (inr (inr breaks))) = inr (inr (inr (inl (subst (λ (qs : List Phrase). BreaksRow lock_rows qs refusal) same breaks))))
misdeclared ps files (fault.Memory error) same breaks = tt

-- of limits
pub beyond_limits : (ps : List Phrase) (vs : Known) (why : Fault) → vs ≡ known ps → IsLawful ps → IsBeyondBy ps vs why → OversteppedBy ps why
beyond_limits ps vs (fault.Broken refusal) same lawful beyond = inr (record { lawful = lawful; exceeded = subst (λ (ws : Known). BreaksLimit ps ws refusal.rule.0) same beyond.0; at = beyond.1 })
beyond_limits ps vs (fault.Memory error) same lawful beyond = tt

-- of calls
pub no_program : (ps : List Phrase) (why : Fault) → IsOfNoProgram ps why → OversteppedBy ps why
no_program ps (fault.Broken refusal) lacks = inl (inr lacks)
no_program ps (fault.Memory error) lacks = absurd lacks

pub wrong_calls : (ps : List Phrase) (why : Fault) → IsMiscalledBy ps why → OversteppedBy ps why
wrong_calls ps (fault.Broken refusal) breaks = inl (inl breaks)
wrong_calls ps (fault.Memory error) breaks = tt

-- none of these
pub all_kept : (ps : List Phrase) (vs : Known) → vs ≡ known ps → IsLawful ps → has_program ps ≡ true → IsWithin ps vs → IsSound call_rows ps → IsChecked ps
all_kept ps vs same lawful program within called = record { lawful = lawful; program = program; within = subst (λ (ws : Known). IsWithin ps ws) same within; called = called }

pub overstepped : (ps : List Phrase) (files : List File) (why : Fault) → ps ≡ phrases_of files → OversteppedBy ps why → FilesBreakBy files why
overstepped ps files (fault.Broken refusal) same (inl breaks) = inr (inr (inr (inr (inl (subst (λ (qs : List Phrase). Miscalls qs refusal) same breaks)))))
overstepped ps files (fault.Broken refusal) same (inr exceeds) = inr (inr (inr (inr (inr (inl (subst (λ (qs : List Phrase). ExceedsLimit qs refusal) same exceeds))))))
overstepped ps files (fault.Memory error) same oversteps = tt

-- 410
pub without_image : (files : List File) (place : Place) (why : Fault) → IsChecked (phrases_of files) → IsToldAt place why → IsUncompiled files place → FilesBreakBy files why
without_image files place (fault.Broken refusal) checked told lacks =
    inr (inr (inr (inr (inr (inr (inl (record { checked = checked; rule_is = told.0; uncompiled = subst (λ (at : Place). IsUncompiled files at) (sym told.1) lacks })))))))
without_image files place (fault.Memory error) checked told lacks = absurd told

-- 951 by an image
pub overfilled : (files : List File) (why : Fault) → IsChecked (phrases_of files) → IsToldOfCells why → Overfills files → FilesBreakBy files why
overfilled files (fault.Broken refusal) checked told overfills = inr (inr (inr (inr (inr (inr (inr (record { checked = checked; rule_is = told.0; at = told.1; overfills = overfills })))))))
overfilled files (fault.Memory error) checked told overfills = absurd told

-- the phrases of files are counted
pub counted : (ps : List Phrase) (files : List File) → ps ≡ phrases_of files → IsCounted ps
counted ps files same = subst (λ (qs : List Phrase). IsCounted qs) (sym same) (are_counted (phrases_of files) (phrases_counted files))

-- what is said of files is said of their texts
pub set_breaks : (texts : List (List ℕ)) (files : List File) (why : Fault) → AreRead 0 texts files → FilesBreakBy files why → BreakBy texts why
set_breaks texts files (fault.Broken refusal) read breaks = inr (inr (record { files = files; read = read; broken = breaks }))
set_breaks texts files (fault.Memory error) read breaks = tt

pub image_made : (texts : List (List ℕ)) (files : List File) (image : ImageParts) → AreRead 0 texts files → HaveFewWords texts → IsChecked (phrases_of files) → Compiles files image → MakesImage texts image
image_made texts files image read few checked compiled =
    let has : HasMeaning texts files = record { read = read; few_words = few; checked = checked; image = image; compiled = compiled } in
    record { files = files; has = has; compiled = compiled; only = λ other also. one_meaning texts other files also has }

pub image_there : (texts : List (List ℕ)) (files : List File) (made : Result ImageParts Fault) → AreRead 0 texts files → HaveFewWords texts → IfOk made (λ image. IsChecked (phrases_of files)) → IfOk made (Compiles files)
    → IfOk made (MakesImage texts)
image_there texts files (Ok image) read few checked compiled = image_made texts files image read few checked compiled
image_there texts files (Err why) read few checked compiled = tt
