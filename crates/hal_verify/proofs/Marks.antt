-- Marks of views, process by process.
use Rattle.std.specs.Prelude.{◌≡◌, ℕ, zero, suc, ◌+◌, ◌<◌, ◌≤◌, length, Bool, true, false, ◌&&◌, List, [], ◌∷◌, map, slice_get, slice_set, unwrap_or, Some, None, if◌then◌else◌}
use Rattle.std.proofs.Common.{refl, ap, sym, ◌∙◌, arith, add-one}
use Rattle.std.proofs.lemmas.List as lists
use Rattle.hal_code.specs.declared.image.ImageParts.{ImageParts}
use Rattle.hal_code.specs.declared.row.View.{View}
use Rattle.hal_code.specs.declared.row.Block.{Block}
use Rattle.hal_code.specs.Blocks.{is_common, block_places}
use Rattle.hal_code.specs.Images.{expanded, places_of}
use Rattle.hal_code.specs.Memory.{fits_places}
use Rattle.hal_verify.specs.Marking.{all_named, either_of, processes_fit, named_of, fits_of, rooms_fit}
use Rattle.hal_verify.specs.Rooms.{room_of_place}
use Rattle.hal_verify.specs.Viewing.{fits_rooms}
use Rattle.hal_verify.specs.declared.room.Room.{Room}
use Rattle.hal_verify.proofs.Fitting as fitting

pub set_past : {A : Type 0} (l : List A) (i : ℕ) (a : A) → length l ≤ i → slice_set l i a ≡ l
set_past l i a past = lists.set_past l i a past

fits_each : (image : ImageParts) (p : ℕ) (rooms : List Room) (views : List View) → rooms ≡ map room_of_place (places_of image p)
    → rooms_fit image rooms views ≡ map (λ (view : View). fits_places image view (places_of image p)) views
fits_each image p rooms [] is = refl
fits_each image p rooms (view ∷ views) is =
    ap (λ b. b ∷ rooms_fit image rooms views) (ap (λ list. fits_rooms image view list) is ∙ sym (fitting.fits_there image view (places_of image p)))
    ∙ ap (λ list. fits_places image view (places_of image p) ∷ list) (fits_each image p rooms views is)

pub fits_there : (image : ImageParts) (p : ℕ) (rooms : List Room) → rooms ≡ map room_of_place (places_of image p) → rooms_fit image rooms image.views ≡ fits_of image p
fits_there image p rooms is = fits_each image p rooms image.views is

pub none_left : (found : List Bool) → either_of found [] ≡ []
none_left [] = refl
none_left (one ∷ found) = refl

pub next_process : (image : ImageParts) (p : ℕ) (found : List Bool) (n m : ℕ) → n ≡ m + 1 → all_named (named_of image p) (fits_of image p) ≡ true
    → processes_fit image p found n ≡ processes_fit image (p + 1) (either_of found (fits_of image p)) m
next_process image p found n m is fit =
    ap (λ k. processes_fit image p found k) (is ∙ add-one m)
    ∙ ap (λ b. b && processes_fit image (suc p) (either_of found (fits_of image p)) m) fit
    ∙ ap (λ k. processes_fit image k (either_of found (fits_of image p)) m) (sym (add-one p))

pub wrong_process : (image : ImageParts) (p : ℕ) (found : List Bool) (n : ℕ) → 0 < n → all_named (named_of image p) (fits_of image p) ≡ false → processes_fit image p found n ≡ false
wrong_process image p found zero some fit = absurd (omega (arith, some))
wrong_process image p found (suc n) some fit = ap (λ b. b && processes_fit image (suc p) (either_of found (fits_of image p)) n) fit

-- whether a view that is there fits the common places
rooms_at : (image : ImageParts) (rooms : List Room) (views : List View) (n : ℕ) (view : View) → slice_get views n ≡ Some view → slice_get (rooms_fit image rooms views) n ≡ Some (fits_rooms image view rooms)
rooms_at image rooms [] n view there = absurd (cc)
rooms_at image rooms (one ∷ views) zero view there = ap (λ found. elim found [ None ↦ None | Some x ↦ Some (fits_rooms image x rooms) ]) there
rooms_at image rooms (one ∷ views) (suc n) view there = rooms_at image rooms views n view there

pub fit_at : (image : ImageParts) (block : Block) (fits : List Bool) (n : ℕ) (view : View) → is_common block ≡ true → slice_get image.views n ≡ Some view
    → fits ≡ rooms_fit image (map room_of_place (expanded image.common)) image.views → unwrap_or (slice_get fits n) false ≡ fits_places image view (block_places image block)
fit_at image block fits n view common there is =
    ap (λ list. unwrap_or (slice_get list n) false) is
    ∙ ap (λ found. unwrap_or found false) (rooms_at image (map room_of_place (expanded image.common)) image.views n view there)
    ∙ sym (fitting.fits_there image view (expanded image.common))
    ∙ sym (ap (λ b. fits_places image view (if b then expanded image.common else places_of image block.process)) common)
