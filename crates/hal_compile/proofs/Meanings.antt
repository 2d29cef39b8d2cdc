-- A set of texts has one meaning at most, and one with a meaning breaks no rule.
use Rattle.std.proofs.Common.{◌≡◌, ℕ, ◌+◌, Bool, true, false, inl, inr, List, [], ◌∷◌, map, length, Option, Some, Result, Ok, Err, refl, ap, ap₂, sym, subst, ◌∙◌, arith}
use Rattle.hal_base.specs.declared.refusal.Place.{Place}
use Rattle.hal_base.specs.declared.refusal.Refusal.{Refusal}
use Rattle.hal_words.specs.declared.word.Token.{Token}
use Rattle.hal_lexer.proofs.NoBreach.{no_breach}
use Rattle.hal_grammar.specs.Units.{File}
use Rattle.hal_phrases.specs.Phrases.{Phrase}
use Rattle.hal_phrases.specs.GatheredUnits.{phrases_of}
use Rattle.hal_constants.specs.Known.{Known, known}
use Rattle.hal_limits.specs.Limits.{IsWithin, BreaksLimit}
use Rattle.hal_code.specs.declared.image.ImageParts.{ImageParts}
use Rattle.hal_calls.specs.Programs.{has_program}
use Rattle.hal_parse.specs.Parsed.{IsFileOf}
use Rattle.hal_verify.specs.Limits.{spread_kept}
use Rattle.hal_verify.proofs.Limits.{right_spread}
use Rattle.hal_checked.specs.Checking.{IsChecked, linked_in}
use Rattle.hal_checked.specs.Reading.{IsRead, AreRead}
use Rattle.hal_checked.proofs.Once.{one_cut, one_list}
use Rattle.hal_compile.specs.Compiling.{Compiles, FilesBreak, IsUncompiled, Overfills}
use Rattle.hal_compile.specs.Reading.{HasWords, HaveWords, TextBreaks, TextsBreak}
use Rattle.hal_compile.specs.Texts.{Breaks, ExceedsWords, HasMeaning}

pub one_meaning : (texts : List (List ℕ)) (files others : List File) → HasMeaning texts files → HasMeaning texts others → files ≡ others
one_meaning texts files others has also = one_list 0 texts files others has.read also.read

-- a text that is that of a file breaks no rule of words, nor 401
read_breaks_nothing : (number : ℕ) (text : List ℕ) (file : File) (refusal : Refusal) → IsRead number text file → TextBreaks number text refusal → ⊥
read_breaks_nothing number text file refusal read (inl breach) = no_breach number text read.tokens refusal.rule.0 refusal.place read.cut breach
read_breaks_nothing number text file refusal read (inr unread) =
    unread.unread.none file (subst (λ (tokens : List Token). IsFileOf tokens file) (one_cut number text read.tokens unread.tokens read.cut unread.cut) read.parsed)

all_break_nothing : (number : ℕ) (texts : List (List ℕ)) (files : List File) (refusal : Refusal) → AreRead number texts files → TextsBreak number texts refusal → ⊥
all_break_nothing number [] files refusal read breaks = absurd breaks
all_break_nothing number (text ∷ texts) [] refusal read breaks = absurd read
all_break_nothing number (text ∷ texts) (file ∷ files) refusal read (inl first) = read_breaks_nothing number text file refusal read.0 first
all_break_nothing number (text ∷ texts) (file ∷ files) refusal read (inr (other, also, later)) = all_break_nothing (number + 1) texts files refusal read.1 later

-- texts have one number of words
one_count : (number : ℕ) (text : List ℕ) (m n : ℕ) → HasWords number text m → HasWords number text n → m ≡ n
one_count number text m n one other =
    one.counted ∙ ap (λ (tokens : List Token). length tokens) (one_cut number text one.tokens other.tokens one.cut other.cut) ∙ sym other.counted

same_count : (number : ℕ) (texts : List (List ℕ)) (m n : ℕ) → HaveWords number texts m → HaveWords number texts n → m ≡ n
same_count number [] m n one other = one ∙ sym other
same_count number (text ∷ texts) m n (first, later, is, has, have) (also, behind, sum, too, all) =
    omega (arith, is, sum, one_count number text first also has too, same_count (number + 1) texts later behind have all)

few_or_many : (texts : List (List ℕ)) (files : List File) (refusal : Refusal) → HasMeaning texts files → ExceedsWords texts refusal → ⊥
few_or_many texts files refusal has exceeds =
    omega (arith, has.few_words.few, exceeds.exceeded, same_count 0 texts has.few_words.count exceeds.count has.few_words.counted exceeds.counted)

-- limits that are kept are not passed
within_limits : (ps : List Phrase) (vs : Known) (rule : ℕ) → IsWithin ps vs → BreaksLimit ps vs rule → ⊥
within_limits ps vs rule within (inl (is, inl cells)) = omega (arith, within.cells, cells)
within_limits ps vs rule within (inl (is, inr views)) = omega (arith, within.views, views)
within_limits ps vs rule within (inr (inl processes)) = omega (arith, within.processes, processes.1)
within_limits ps vs rule within (inr (inr events)) = omega (arith, within.events, events.1)

-- files with an image lack none
compiled_lacks_none : (files : List File) (image : _) (place : Place) → Compiles files image → IsUncompiled files place → ⊥
compiled_lacks_none files image place compiled (inl told) = clash (linked_in files) compiled.linked told
  where
    clash : (found : _) → found ≡ Ok image → found ≡ Err (Some place) → ⊥
    clash found ok err = cc
compiled_lacks_none files image place compiled (inr (at, there, none, few)) = none image compiled

both_ways : (b : Bool) → b ≡ true → b ≡ false → ⊥
both_ways b is not = cc

-- nor has it too many cells
one_image : (wanted : Result ImageParts (Option Place)) (image other : ImageParts) → wanted ≡ Ok image → wanted ≡ Ok other → image ≡ other
one_image wanted image other is also = cc

compiled_has_room : (files : List File) (image : ImageParts) → Compiles files image → Overfills files → ⊥
compiled_has_room files image compiled overfills =
    let same = one_image (linked_in files) image overfills.spreads.image compiled.linked overfills.spreads.there in
    both_ways (spread_kept image) (right_spread image compiled.runs.right) (ap (λ (made : ImageParts). spread_kept made) same ∙ overfills.spreads.exceeded)

unbroken : (files : List File) (image : _) (refusal : Refusal) → IsChecked (phrases_of files) → Compiles files image → FilesBreak files refusal → ⊥
unbroken files image refusal checked compiled (inl breaks) = checked.lawful.typed.named refusal.rule.0 refusal.place breaks
unbroken files image refusal checked compiled (inr (inl breaks)) = checked.lawful.matched refusal.rule.0 refusal.place breaks
unbroken files image refusal checked compiled (inr (inr (inl breaks))) = checked.lawful.typed.typed refusal.rule.0 refusal.place breaks
unbroken files image refusal checked compiled (inr (inr (inr (inl breaks)))) = checked.lawful.locked refusal.rule.0 refusal.place breaks
unbroken files image refusal checked compiled (inr (inr (inr (inr (inl (inl breaks)))))) = checked.called refusal.rule.0 refusal.place breaks
unbroken files image refusal checked compiled (inr (inr (inr (inr (inl (inr lacks)))))) = both_ways (has_program (phrases_of files)) checked.program lacks.lacks
unbroken files image refusal checked compiled (inr (inr (inr (inr (inr (inl exceeds)))))) = within_limits (phrases_of files) (known (phrases_of files)) refusal.rule.0 checked.within exceeds.exceeded
unbroken files image refusal checked compiled (inr (inr (inr (inr (inr (inr (inl lacks))))))) = compiled_lacks_none files image refusal.place compiled lacks.uncompiled
unbroken files image refusal checked compiled (inr (inr (inr (inr (inr (inr (inr exceeds))))))) = compiled_has_room files image compiled exceeds.overfills

pub meaning_breaks_nothing : (texts : List (List ℕ)) (files : List File) (refusal : Refusal) → HasMeaning texts files → Breaks texts refusal → ⊥
meaning_breaks_nothing texts files refusal has (inl breaks) = all_break_nothing 0 texts files refusal has.read breaks
meaning_breaks_nothing texts files refusal has (inr (inl exceeds)) = few_or_many texts files refusal has exceeds
meaning_breaks_nothing texts files refusal has (inr (inr breaks)) =
    unbroken files has.image refusal has.checked has.compiled
    (subst (λ (fs : List File). FilesBreak fs refusal) (one_list 0 texts breaks.files files breaks.read has.read) breaks.broken)
