-- When files have an image that can run.
use Rattle.std.specs.Prelude.{IfOk}
use Rattle.std.proofs.Common.{◌≡◌, ◌↔◌, inl, inr, ℕ, Bool, true, false, IsTrue, List, Option, Some, None, Result, Ok, Err, refl, ap, sym, subst, ◌∙◌}
use Rattle.std.specs.declared.alloc.AllocError.{AllocError}
use Rattle.hal_base.specs.declared.refusal.Place.{Place}
use Rattle.hal_phrases.specs.Phrases.{Phrase}
use Rattle.hal_phrases.specs.GatheredUnits.{phrases_of}
use Rattle.hal_constants.specs.Known.{Known, known}
use Rattle.hal_meaning.specs.Bodies.{Body, bodies_of}
use Rattle.hal_grammar.specs.Units.{File}
use Rattle.hal_code.specs.declared.image.ImageParts.{ImageParts}
use Rattle.hal_storage.specs.layout.Layouts.{Layout, IsNarrow, layout_of, tables_of}
use Rattle.hal_link.specs.Linking.{image_of}
use Rattle.hal_link.specs.CalledViews.{views_of}
use Rattle.hal_meaning.specs.Sets.{Set, beginning, set_of}
use Rattle.hal_values.specs.Loads.{turn_limit}
use Rattle.hal_verify.specs.Limits.{spread_kept}
use Rattle.hal_compile.specs.declared.lacking.Lacking.{Lacking}
use Rattle.hal_compile.specs.declared.lacking.Lacking.TheVariants as lacking
use Rattle.hal_object.specs.Images.{IsSpelled}
use Rattle.hal_checked.specs.Checking.{IsWhole, LinksWhole, LinksWholeBy, linked_in, set_in}
use Rattle.hal_compile.specs.Compiling.{CanRun, Fits, IsImageOf, Overfills, Spreads}
use Rattle.hal_compile.specs.Fitness.{is_narrow}
use Rattle.hal_compile.proofs.Fitting.{narrow}

abbrev found : ImageParts → Result ImageParts (Option Place)
found image = Ok image

abbrev nowhere : Result ImageParts (Option Place)
nowhere = Err None

abbrev missing : Place → Result ImageParts (Option Place)
missing at = Err (Some at)

clash : (b : Bool) → b ≡ true → b ≡ false → ⊥
clash b is not = cc

pub fits : (image : ImageParts) (told : Bool) → IsWhole image → IsTrue told ↔ IsSpelled image → told ≡ true → Fits (Ok image) (Ok image)
fits image told whole by is = (refl, record { right = whole.right; cells = whole.cells; spelled = by.0 is })

-- one image is found
one_found : (image other : ImageParts) → found image ≡ found other → image ≡ other
one_found image other same = cc

pub cannot_run : (image : ImageParts) (told : Bool) → spread_kept image ≡ true → IsTrue told ↔ IsSpelled image → told ≡ false → Fits (Ok image) (Err (lacking.Code beginning))
cannot_run image told few by is = inr (refl, (λ at same. there at same), (λ other same runs. clash told (by.1 (runs_as other same runs).spelled) is), λ beyond. within beyond)
  where
    there : (at : Place) → found image ≡ missing at → ⊥
    there at same = cc

    runs_as : (other : ImageParts) → found image ≡ found other → CanRun other → CanRun image
    runs_as other same runs = subst (λ (one : ImageParts). CanRun one) (sym (one_found image other same)) runs

    within : Spreads (found image) → ⊥
    within beyond = clash (spread_kept image) few (ap spread_kept (one_found image beyond.image beyond.there) ∙ beyond.exceeded)

-- an image of too many cells
pub spreads : (image : ImageParts) (told : Bool) → told ≡ spread_kept image → told ≡ false → Fits (Ok image) (Err lacking.Room)
spreads image told is not = record { image = image; there = refl; exceeded = sym is ∙ not }

-- what linking told
pub linked_image : (wanted : Result ImageParts (Option Place)) (image : ImageParts) (answer : Result ImageParts Lacking) → wanted ≡ Ok image → Fits (Ok image) answer → Fits wanted answer
linked_image wanted image answer is fit = subst (λ (w : Result ImageParts (Option Place)). Fits w answer) (sym is) fit

pub told_there : (wanted : Result ImageParts (Option Place)) (place : Place) → wanted ≡ Err (Some place) → Fits wanted (Err (lacking.Code place))
told_there wanted place is = inl is

pub told_nowhere : (wanted : Result ImageParts (Option Place)) → wanted ≡ Err None → Fits wanted (Err (lacking.Code beginning))
told_nowhere wanted is = inr (refl, (λ at also. there at (sym is ∙ also)), (λ image also runs. apart image (sym is ∙ also)), λ beyond. apart beyond.image (sym is ∙ beyond.there))
  where
    there : (at : Place) → nowhere ≡ missing at → ⊥
    there at same = cc

    apart : (image : ImageParts) → nowhere ≡ found image → ⊥
    apart image same = cc

-- linking the set of files is linking them
pub linked_set : (files : List File) (s : Set) (answer : Result (Result ImageParts Lacking) AllocError) → s ≡ set_of turn_limit files → IfOk answer (Fits (image_of s (views_of s))) → IfOk answer (Fits (linked_in files))
unfolding linked_in set_in
linked_set files s answer is fit = subst (λ (one : Set). IfOk answer (Fits (image_of one (views_of one)))) is fit

-- and where what the files are linked to is whole, so is what their set is linked to
pub whole_set : (files : List File) (s : Set) → s ≡ set_of turn_limit files → LinksWhole files → LinksWholeBy (image_of s (views_of s))
unfolding linked_in set_in
whole_set files s is whole = subst (λ (one : Set). LinksWholeBy (image_of one (views_of one))) (sym is) whole

-- the set of these parts
abbrev pub the_set : List Phrase → Known → Layout → List Body → ℕ → Set
the_set ps vs l bs turns = record { phrases = ps; constants = vs; bodies = bs; stated = l.expressions; tables = tables_of l; turns = turns }

pub set_as : (files : List File) (ps : List Phrase) (vs : Known) (l : Layout) (bs : List Body) (turns : ℕ) → ps ≡ phrases_of files → vs ≡ known (phrases_of files)
    → l ≡ layout_of (phrases_of files) (known (phrases_of files)) → bs ≡ bodies_of files ps → turns ≡ turn_limit → the_set ps vs l bs turns ≡ set_of turn_limit files
set_as files ps vs l bs turns p v laid b t =
    ap (λ (qs : List Phrase). the_set qs vs l bs turns) p
    ∙ ap (λ (ws : Known). the_set (phrases_of files) ws l bs turns) v
    ∙ ap (λ (k : Layout). the_set (phrases_of files) (known (phrases_of files)) k bs turns) laid
    ∙ ap (λ (cs : List Body). the_set (phrases_of files) (known (phrases_of files)) (layout_of (phrases_of files) (known (phrases_of files))) cs turns) (b ∙ ap (λ (qs : List Phrase). bodies_of files qs) p)
    ∙ ap (λ (n : ℕ). the_set (phrases_of files) (known (phrases_of files)) (layout_of (phrases_of files) (known (phrases_of files))) (bodies_of files (phrases_of files)) n) t

-- where tables have room, what linking came to tells whether there is an image
found_by : (files : List File) (answer : Result ImageParts Lacking) → IsNarrow (layout_of (phrases_of files) (known (phrases_of files))) → Fits (linked_in files) answer → IsImageOf files answer
found_by files (Ok image) room fit = record { linked = fit.0; narrow = room; runs = fit.1 }
found_by files (Err (lacking.Code place)) room (inl told) = inl told
found_by files (Err (lacking.Code place)) room (inr (at, there, none, few)) =
    inr (at, (λ one narrow_there told. there one told), (λ image compiled. none image compiled.linked compiled.runs), λ overfills. few overfills.spreads)
found_by files (Err lacking.Room) room fit = record { narrow = room; spreads = fit }

pub image_found : (files : List File) (answer : Result (Result ImageParts Lacking) AllocError) (l : Layout) → l ≡ layout_of (phrases_of files) (known (phrases_of files)) → IsNarrow l
    → IfOk answer (Fits (linked_in files)) → IfOk answer (IsImageOf files)
image_found files (Ok found) l same room fit = found_by files found (subst IsNarrow same room) fit
image_found files (Err error) l same room fit = tt

pub room_for : (l : Layout) (told : Bool) → told ≡ is_narrow l → told ≡ true → IsNarrow l
room_for l told is room = (narrow l).0 (sym is ∙ room)

-- where they have none, there is none
pub too_wide : (files : List File) (l : Layout) (told : Bool) → l ≡ layout_of (phrases_of files) (known (phrases_of files)) → told ≡ is_narrow l → told ≡ false → IsImageOf files (Err (lacking.Code beginning))
too_wide files l told same is wide =
    inr (
      refl,
      (λ at narrow_there found_there. clash (is_narrow l) ((narrow l).1 (subst IsNarrow (sym same) narrow_there)) (sym is ∙ wide)),
      (λ image compiled. clash (is_narrow l) ((narrow l).1 (subst IsNarrow (sym same) compiled.narrow)) (sym is ∙ wide)),
      λ overfills. clash (is_narrow l) ((narrow l).1 (subst IsNarrow (sym same) overfills.narrow)) (sym is ∙ wide),
    )
