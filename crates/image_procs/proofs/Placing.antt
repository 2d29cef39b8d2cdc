-- One of the processes of an image, and the others.
use Rattle.std.specs.Prelude.{◌≡◌, ℕ, zero, suc, ◌+◌, ◌<◌, ◌≤◌, ◌⊎◌, List, [], ◌∷◌, ◌++◌, length, map, replicate, Option, Some, None, Result, Ok, Err, IfSome, IsSomeAnd, OnErr, slice_get, slice_set, slice_index, slice_index_or}
use Rattle.std.proofs.Common.{refl, sym, ap, subst, ◌∙◌, inl, inr, arith}
use Rattle.std.proofs.lemmas.List.{map-set, map-append, length-set, length-map, get_or-set_same, get_or-set_other}
use Rattle.std.proofs.lemmas.Option.{slice_get-get_or, slice_get-map, get_or_from_slice_get, slice_get_within}
use Rattle.std.specs.Option.{option_map}
use Rattle.hal_values.specs.declared.answer.Answer.{Answer}
use Rattle.hal_values.specs.declared.tables.Tables.{Tables}
use Rattle.hal_values.specs.Answers.{Answered}
use Rattle.hal_values.specs.Loads.{FitsNext}
use Rattle.hal_values.specs.Requests.{HasProcess}
use Rattle.hal_code.specs.declared.image.ImageParts.{ImageParts}
use Rattle.hal_code.specs.declared.row.Process.{Process}
use Rattle.hal_runner.specs.declared.loading.Loaded.{Loaded}
use Rattle.hal_runner.specs.declared.reply.Reply.{Reply}
use Rattle.hal_runner.specs.Loading.{IsLoaded}
use Rattle.hal_code.specs.Courses.{setting_of, load_of}
use Rattle.exec_model.specs.Moments.{answers_in, pushed_answer}
use Rattle.exec_model.specs.Processes as processes
use Rattle.exec_model.specs.Processes.{NotLower, SameLooksBut, SameRoomsBut, look_at, told_answer}
use Rattle.image_procs.specs.declared.load.ImageLoad.{ImageLoad}
use Rattle.image_procs.specs.declared.course.Course.{Course}
use Rattle.image_procs.specs.Courses.{Parts, parts, IsCourse, room}
use Rattle.image_procs.specs.Running.{AreLoaded, AreCourses, Running, IsRunning, told_in, look_in, running, answers_of}
use Rattle.image_procs.specs.Tellings.{answers_told, look_seen}

-- another one in its place
replaced : {T : Type 0} (xs : List T) (p q : ℕ) (new one : T) → slice_get (slice_set xs p new) q ≡ Some one → ((p ≡ q) × (new ≡ one)) ⊎ (slice_get xs q ≡ Some one)
replaced [] p q new one e = inr e
replaced (x ∷ xs) zero zero new one e = inl (refl, cc)
replaced (x ∷ xs) zero (suc q) new one e = inr e
replaced (x ∷ xs) (suc p) zero new one e = inr e
replaced (x ∷ xs) (suc p) (suc q) new one e = further (replaced xs p q new one e)
  where
    further : ((p ≡ q) × (new ≡ one)) ⊎ (slice_get xs q ≡ Some one) → ((suc p ≡ suc q) × (new ≡ one)) ⊎ (slice_get xs q ≡ Some one)
    further (inl both) = inl (ap suc both.0, both.1)
    further (inr there) = inr there

pub still_stand : (load : ImageLoad) (all : List Parts) (p : ℕ) (new : Parts) → AreCourses load all → IsCourse (setting_of load.turns load.image p) new → AreCourses load (slice_set all p new)
still_stand load all p new stand is = λ q one e. of_place q one (replaced all p q new one e)
  where
    of_place : (q : ℕ) (one : Parts) → ((p ≡ q) × (new ≡ one)) ⊎ (slice_get all q ≡ Some one) → IsCourse (setting_of load.turns load.image q) one
    of_place q one (inl both) = subst (λ (n : ℕ). IsCourse (setting_of load.turns load.image n) one) both.0 (subst (IsCourse (setting_of load.turns load.image p)) both.1 is)
    of_place q one (inr there) = stand q one there

-- one that is seen alike
pub seen_alike : {A B : Type 0} (f : A → B) (xs : List A) (p : ℕ) (x new : A) → slice_get xs p ≡ Some x → f new ≡ f x → map f (slice_set xs p new) ≡ map f xs
seen_alike f [] p x new e same = refl
seen_alike {B = B} f (y ∷ xs) zero x new e same = ap (λ (b : B). b ∷ map f xs) (same ∙ ap f (let is : x ≡ y = cc in is))
seen_alike {B = B} f (y ∷ xs) (suc p) x new e same = ap (λ (l : List B). f y ∷ l) (seen_alike f xs p x new e same)

-- a room that is no lower
pub no_lower : (rooms : List ℕ) (p n : ℕ) → slice_index rooms p ≤ n → NotLower rooms (slice_set rooms p n)
no_lower [] p n low q = omega arith
no_lower (m ∷ rooms) zero n low zero = low
no_lower (m ∷ rooms) zero n low (suc q) = omega arith
no_lower (m ∷ rooms) (suc p) n low zero = omega arith
no_lower (m ∷ rooms) (suc p) n low (suc q) = no_lower rooms p n low q

-- the one at a place
pub there : {T : Type 0} (xs : List T) (p : ℕ) (x : T) → p < length xs → x ≡ slice_index_or xs p x → slice_get xs p ≡ Some x
there xs p x within is = slice_get-get_or xs p x within ∙ ap Some (sym is)

seen_there : {A B : Type 0} (f : A → B) (xs : List A) (p : ℕ) (x : A) → slice_get xs p ≡ Some x → slice_get (map f xs) p ≡ Some (f x)
seen_there f xs p x e = slice_get-map f xs p ∙ ap (option_map f) e

seen_at : {A B : Type 0} (f : A → B) (xs : List A) (p : ℕ) (x : A) (d : B) → slice_get xs p ≡ Some x → slice_index_or (map f xs) p d ≡ f x
seen_at f xs p x d e = get_or_from_slice_get (map f xs) p (f x) d (seen_there f xs p x e)

pub loaded_at : (image : ImageParts) (all : List Loaded) (p : ℕ) (one : Loaded) → AreLoaded image all → p < length all → one ≡ slice_index_or all p one → IsLoaded image p one
loaded_at image all p one are within is = are p one (there all p one within is)

module _ (courses : List Course) (p : ℕ) (x : Course) (e : slice_get courses p ≡ Some x) where
  pub look_there : look_at (map look_in courses) p ≡ look_seen x.look
  look_there = seen_at look_in courses p x None e

  room_there : slice_index (map room courses) p ≡ room x
  room_there = seen_at room courses p x 0 e

  module _ (new : Course) where
    pub one_less : room new + 1 ≡ room x → slice_index (map room (slice_set courses p new)) p + 1 ≡ slice_index (map room courses) p
    one_less same =
        ap (λ (n : ℕ). n + 1) (ap (λ (rooms : List ℕ). slice_index rooms p) (map-set room courses p new) ∙ get_or-set_same (map room courses) p (room new) 0 within)
        ∙ same ∙ sym room_there
      where
        within : p < length (map room courses)
        within = subst (λ (n : ℕ). p < n) (sym (length-map courses room)) (slice_get_within courses p x e)

    pub rooms_rise : room x ≤ room new → NotLower (map room courses) (map room (slice_set courses p new))
    rooms_rise low =
        subst (λ (rooms : List ℕ). NotLower (map room courses) rooms) (sym (map-set room courses p new)) (no_lower (map room courses) p (room new) (subst (λ (n : ℕ). n ≤ room new) (sym room_there) low))

    pub other_rooms : SameRoomsBut p (map room courses) (map room (slice_set courses p new))
    other_rooms o apart = ap (λ (rooms : List ℕ). slice_index rooms o) (map-set room courses p new) ∙ get_or-set_other (map room courses) p o (room new) 0 apart

    pub other_looks : SameLooksBut p (map look_in courses) (map look_in (slice_set courses p new))
    other_looks o apart = ap (λ (looks : List (Option processes.Look)). look_at looks o) (map-set look_in courses p new) ∙ get_or-set_other (map look_in courses) p o (look_in new) None apart

    pub new_look : look_at (map look_in (slice_set courses p new)) p ≡ look_seen new.look
    new_look =
        ap (λ (looks : List (Option processes.Look)). look_at looks p) (map-set look_in courses p new) ∙ get_or-set_same (map look_in courses) p (look_in new) None within
      where
        within : p < length (map look_in courses)
        within = subst (λ (n : ℕ). p < n) (sym (length-map courses look_in)) (slice_get_within courses p x e)

    pub same_looks : new.look ≡ x.look → map look_in (slice_set courses p new) ≡ map look_in courses
    same_looks same = seen_alike look_in courses p x new e (ap look_seen same)

-- what holds of an answer where one is told
if_some : (o : Option Answered) (P Q : Answered → Type 0) → ((given : Answered) → P given → Q given) → IfSome o P → IfSome o Q
if_some None P Q each is = tt
if_some (Some given) P Q each is = each given is

module _ (load : ImageLoad) (courses : List Course) (p : ℕ) (x : Course) (e : slice_get courses p ≡ Some x) where
  pub told_at : answers_in (answers_of (running load courses)) p ≡ answers_told x.told.items
  told_at = seen_at answers_told (map told_in courses) p (told_in x) [] (seen_there told_in courses p x e)

  pub course_at : AreCourses load (map parts courses) → IsCourse (setting_of load.turns load.image p) (parts x)
  course_at stand = stand p (parts x) (seen_there parts courses p x e)

  pub fits_there : (answer : Answer) → IsSomeAnd (told_answer (look_at (map look_in courses) p) answer) (λ given. FitsNext (load_of load.turns load.image) p (answers_in (answers_of (running load courses)) p) given)
      → IsSomeAnd (told_answer (look_seen x.look) answer) (λ given. FitsNext (load_of load.turns load.image) p (answers_told x.told.items) given)
  fits_there answer fits =
      subst (λ (look : Option processes.Look). IsSomeAnd (told_answer look answer) (λ given. FitsNext (load_of load.turns load.image) p (answers_told x.told.items) given)) (look_there courses p x e)
      (subst (λ (answers : List Answered). IsSomeAnd (told_answer (look_at (map look_in courses) p) answer) (λ given. FitsNext (load_of load.turns load.image) p answers given)) told_at fits)

  module _ (new : Course) where
    pushed : (given : Answered) → answers_told new.told.items ≡ answers_told x.told.items ++ (given ∷ []) → answers_of (running load (slice_set courses p new)) ≡ pushed_answer (answers_of (running load courses)) p given
    pushed given is =
        ap (map answers_told) (map-set told_in courses p new)
        ∙ map-set answers_told (map told_in courses) p (told_in new)
        ∙ ap (λ (answers : List Answered). slice_set (map answers_told (map told_in courses)) p answers) (is ∙ ap (λ (answers : List Answered). answers ++ (given ∷ [])) (sym told_at))

    pub told_there : (answer : Answer) → IfSome (told_answer (look_seen x.look) answer) (λ given. answers_told new.told.items ≡ answers_told x.told.items ++ (given ∷ []))
        → IfSome (told_answer (look_at (map look_in courses) p) answer) (λ given. answers_of (running load (slice_set courses p new)) ≡ pushed_answer (answers_of (running load courses)) p given)
    told_there answer is =
        subst (λ (look : Option processes.Look). IfSome (told_answer look answer) (λ given. answers_of (running load (slice_set courses p new)) ≡ pushed_answer (answers_of (running load courses)) p given)) (sym (look_there courses p x e))
        (if_some (told_answer (look_seen x.look) answer) (λ given. answers_told new.told.items ≡ answers_told x.told.items ++ (given ∷ [])) (λ given. answers_of (running load (slice_set courses p new)) ≡ pushed_answer (answers_of (running load courses)) p given) pushed is)

    pub same_answers : new.told.items ≡ x.told.items → answers_of (running load (slice_set courses p new)) ≡ answers_of (running load courses)
    same_answers same = ap (map answers_told) (seen_alike told_in courses p x new e same)

    pub runs_on : (tables : Tables) (loaded : List Loaded) → IsRunning load tables loaded courses → IsCourse (setting_of load.turns load.image p) (parts new) → IsRunning load tables loaded (slice_set courses p new)
    runs_on tables loaded running is = record {
      tables_are = running.tables_are;
      cells = running.cells;
      ranged = running.ranged;
      short = running.short;
      ready = running.ready;
      loads = running.loads;
      many_loads = running.many_loads;
      stand = subst (AreCourses load) (sym (map-set parts courses p new)) (still_stand load (map parts courses) p (parts new) running.stand is);
      many = length-set courses p new ∙ running.many;
    }

-- one more at the end
last_one : {T : Type 0} (xs : List T) (x one : T) (p : ℕ) → slice_get (xs ++ (x ∷ [])) p ≡ Some one → ((p ≡ length xs) × (x ≡ one)) ⊎ (slice_get xs p ≡ Some one)
last_one [] x one zero e = inl (refl, cc)
last_one [] x one (suc p) e = absurd (cc)
last_one (y ∷ xs) x one zero e = inr e
last_one (y ∷ xs) x one (suc p) e = further (last_one xs x one p e)
  where
    further : ((p ≡ length xs) × (x ≡ one)) ⊎ (slice_get xs p ≡ Some one) → ((suc p ≡ suc (length xs)) × (x ≡ one)) ⊎ (slice_get xs p ≡ Some one)
    further (inl both) = inl (ap suc both.0, both.1)
    further (inr is) = inr is

pub one_loaded : (image : ImageParts) (all : List Loaded) (place : ℕ) (one : Loaded) → length all ≡ place → AreLoaded image all → IsLoaded image place one → AreLoaded image (all ++ (one ∷ []))
one_loaded image all place one long are is = λ q other e. of_place q other (last_one all one other q e)
  where
    of_place : (q : ℕ) (other : Loaded) → ((q ≡ length all) × (one ≡ other)) ⊎ (slice_get all q ≡ Some other) → IsLoaded image q other
    of_place q other (inl both) = subst (λ (n : ℕ). IsLoaded image n other) (sym (both.0 ∙ long)) (subst (IsLoaded image place) both.1 is)
    of_place q other (inr e) = are q other e

pub one_standing : (load : ImageLoad) (all : List Parts) (place : ℕ) (one : Parts) → length all ≡ place → AreCourses load all → IsCourse (setting_of load.turns load.image place) one → AreCourses load (all ++ (one ∷ []))
one_standing load all place one long are is = λ q other e. of_place q other (last_one all one other q e)
  where
    of_place : (q : ℕ) (other : Parts) → ((q ≡ length all) × (one ≡ other)) ⊎ (slice_get all q ≡ Some other) → IsCourse (setting_of load.turns load.image q) other
    of_place q other (inl both) = subst (λ (n : ℕ). IsCourse (setting_of load.turns load.image n) other) (sym (both.0 ∙ long)) (subst (IsCourse (setting_of load.turns load.image place)) both.1 is)
    of_place q other (inr e) = are q other e

-- a process of the load is one of its image
pub is_there : (load : ImageLoad) (courses : List Course) (now : Running) (p : ℕ) → running load courses ≡ now → HasProcess (load_of now.load.turns now.load.image).tables p → p < length load.image.processes
is_there load courses now p is has =
    subst (λ (n : ℕ). p < n) (length-map load.image.processes (λ (q : Process). q.name)) (subst (λ (r : Running). HasProcess (load_of r.load.turns r.load.image).tables p) (sym is) has)

-- what follows from what holds where something failed
pub on_error : {A E : Type 0} (result : Result A E) (P Q : Type 0) → (P → Q) → OnErr result P → OnErr result Q
on_error (Ok x) P Q each is = tt
on_error (Err x) P Q each is = each is

-- all with the same parts
told_by_parts : (courses : List Course) → map told_in courses ≡ map (λ (one : Parts). one.told) (map parts courses)
told_by_parts [] = refl
told_by_parts (x ∷ courses) = ap (λ (l : List (List (Reply × ℕ))). told_in x ∷ l) (told_by_parts courses)

looks_by_parts : (courses : List Course) → map look_in courses ≡ map (λ (one : Parts). one.look) (map parts courses)
looks_by_parts [] = refl
looks_by_parts (x ∷ courses) = ap (λ (l : List (Option processes.Look)). look_in x ∷ l) (looks_by_parts courses)

pub all_told : (one other : List Course) → map parts one ≡ map parts other → map told_in one ≡ map told_in other
all_told one other same = told_by_parts one ∙ ap (map (λ (each : Parts). each.told)) same ∙ sym (told_by_parts other)

pub all_looks : (one other : List Course) → map parts one ≡ map parts other → map look_in one ≡ map look_in other
all_looks one other same = looks_by_parts one ∙ ap (map (λ (each : Parts). each.look)) same ∙ sym (looks_by_parts other)

pub all_run_on : (load : ImageLoad) (tables : Tables) (loaded : List Loaded) (one other : List Course) → map parts other ≡ map parts one → IsRunning load tables loaded one → IsRunning load tables loaded other
all_run_on load tables loaded one other same running = record {
  tables_are = running.tables_are;
  cells = running.cells;
  ranged = running.ranged;
  short = running.short;
  ready = running.ready;
  loads = running.loads;
  many_loads = running.many_loads;
  stand = subst (AreCourses load) (sym same) running.stand;
  many = sym (length-map other parts) ∙ ap (λ (l : List Parts). length l) same ∙ length-map one parts ∙ running.many;
}

-- rooms that are made one by one
pub rooms_made : (rooms : List ℕ) (place least n : ℕ) → ((p : ℕ) → p < place → least ≤ slice_index rooms p) → least ≤ n → place < length rooms → (p : ℕ) → p < place + 1 → least ≤ slice_index (slice_set rooms place n) p
rooms_made [] place least n each enough within p low = absurd (omega (arith, within))
rooms_made (m ∷ rooms) zero least n each enough within zero low = enough
rooms_made (m ∷ rooms) zero least n each enough within (suc p) low = absurd (omega (arith, low))
rooms_made (m ∷ rooms) (suc place) least n each enough within zero low = each zero (omega arith)
rooms_made (m ∷ rooms) (suc place) least n each enough within (suc p) low =
    rooms_made rooms place least n (λ q less. each (suc q) (omega (arith, less))) enough (omega (arith, within)) p (omega (arith, low))

-- before any answer
replicate_more : {T : Type 0} (n : ℕ) (x : T) → replicate n x ++ (x ∷ []) ≡ replicate (suc n) x
replicate_more zero x = refl
replicate_more {T = T} (suc n) x = ap (λ (l : List T). x ∷ l) (replicate_more n x)

pub one_untold : (all : List Course) (place : ℕ) (one : Course) → map told_in all ≡ replicate place [] → one.told.items ≡ [] → map told_in (all ++ (one ∷ [])) ≡ replicate (place + 1) []
one_untold all place one before none =
    map-append told_in all (one ∷ [])
    ∙ ap (λ (told : List (Reply × ℕ)). map told_in all ++ (told ∷ [])) none
    ∙ ap (λ (l : List (List (Reply × ℕ))). l ++ ([] ∷ [])) before
    ∙ replicate_more place []
    ∙ ap (λ (n : ℕ). replicate n []) (sym (one_more place))
  where
    one_more : (n : ℕ) → n + 1 ≡ suc n
    one_more n = omega arith

pub none_told : (n : ℕ) → map answers_told (replicate n []) ≡ replicate n []
none_told zero = refl
none_told (suc n) = ap (λ (l : List (List Answered)). [] ∷ l) (none_told n)
