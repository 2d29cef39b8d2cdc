-- What is kept of all processes, where that of one changes.
use Rattle.std.proofs.Common.{◌≡◌, ℕ, zero, suc, ◌+◌, ◌<◌, ◌≤◌, List, [], ◌∷◌, ◌++◌, length, map, get_or, set, slice_index, replicate, Option, Some, None, IfSome, true, refl, sym, ap, subst, ◌∙◌, arith, get_or-set_other, get_or-set_same, length-set, le_trans, le_of_suc-le-suc, eq-or-lt_of_le, ⊎_elim, le_refl}
use Rattle.std.proofs.lemmas.List.{get_or_default}
use Rattle.hal_values.specs.Answers.{Answered}
use Rattle.exec_model.specs.Moments.{answers_in, pushed_answer}
use Rattle.exec_model.specs.Processes.{look_at, told_answer, SameLooksBut, SameRoomsBut, NotLower, reserved_room}
use Rattle.hal_values.specs.declared.answer.Answer.{Answer}
use Rattle.hal_values.specs.Loads.{Meaning}
use Rattle.hal_values.specs.Requests.{HasProcess}
use Rattle.hal_values.specs.Tables.{process_count}
use Rattle.exec_rows.specs.declared.scripted.Scripted.{Scripted}
use Rattle.exec_rows.specs.Checked.{scripted-checked}
use Rattle.exec_rows.specs.Checks.{checks, scripted}
use Rattle.exec_rows.specs.Procs.{Playing, IsPlaying}
use Rattle.exec_rows.specs.Playing.{Held, nothing_held, all_answers, all_rooms, all_looks}

-- a list of images, where one element is replaced
map_set : {A B : Type 0} (f : A → B) (xs : List A) (p : ℕ) (x : A) → map f (set xs p x) ≡ set (map f xs) p (f x)
map_set f [] p x = refl
map_set f (y ∷ ys) zero x = refl
map_set f (y ∷ ys) (suc p) x = ap (λ zs. f y ∷ zs) (map_set f ys p x)

-- an element of a list of images
map_get : {A B : Type 0} (f : A → B) (xs : List A) (p : ℕ) (x : A) → get_or (map f xs) p (f x) ≡ f (get_or xs p x)
map_get f [] p x = refl
map_get f (y ∷ ys) zero x = refl
map_get f (y ∷ ys) (suc p) x = map_get f ys p x

-- where an element is replaced by one with the same image the images stay
map_same : {A B : Type 0} (f : A → B) (xs : List A) (p : ℕ) (x d : A) → p < length xs → f x ≡ f (get_or xs p d) → map f (set xs p x) ≡ map f xs
map_same f [] p x d below e = refl
map_same f (y ∷ ys) zero x d below e = ap (λ z. z ∷ map f ys) e
map_same f (y ∷ ys) (suc p) x d below e = ap (λ zs. f y ∷ zs) (map_same f ys p x d (le_of_suc-le-suc below) e)

-- the room of a process is that of its desk
pub room_at : (desks : List Held) (p : ℕ) → slice_index (all_rooms desks) p ≡ (get_or desks p nothing_held).room
room_at desks p = map_get (λ (desk : Held). desk.room) desks p nothing_held

-- the last look of a process is that of its desk
pub look_of : (desks : List Held) (p : ℕ) → look_at (all_looks desks) p ≡ (get_or desks p nothing_held).look
look_of desks p = map_get (λ (desk : Held). desk.look) desks p nothing_held

-- the answers of a process are those of its desk
pub answers_at : (desks : List Held) (p : ℕ) → answers_in (all_answers desks) p ≡ (get_or desks p nothing_held).answers
answers_at desks p = map_get (λ (desk : Held). desk.answers) desks p nothing_held

-- a desk with the same answers leaves all answers as they are
pub answers_same : (desks : List Held) (p : ℕ) (new : Held) → p < length desks → new.answers ≡ (get_or desks p nothing_held).answers → all_answers (set desks p new) ≡ all_answers desks
answers_same desks p new below e = map_same (λ (desk : Held). desk.answers) desks p new nothing_held below e

-- a desk with the same look leaves all looks as they are
pub looks_same : (desks : List Held) (p : ℕ) (new : Held) → p < length desks → new.look ≡ (get_or desks p nothing_held).look → all_looks (set desks p new) ≡ all_looks desks
looks_same desks p new below e = map_same (λ (desk : Held). desk.look) desks p new nothing_held below e

-- a desk with one answer more gives its process that answer
pub answers_pushed : (desks : List Held) (p : ℕ) (new : Held) (given : Answered) → new.answers ≡ (get_or desks p nothing_held).answers ++ given ∷ [] → all_answers (set desks p new) ≡ pushed_answer (all_answers desks) p given
answers_pushed desks p new given e =
    map_set (λ (desk : Held). desk.answers) desks p new
    ∙ ap (λ answers. set (all_answers desks) p answers) (e ∙ ap (λ answers. answers ++ given ∷ []) (sym (answers_at desks p)))

-- the last look of a process is that of its new desk
pub look_set : (desks : List Held) (p : ℕ) (new : Held) → p < length desks → look_at (all_looks (set desks p new)) p ≡ new.look
look_set desks p new below = look_of (set desks p new) p ∙ ap (λ (desk : Held). desk.look) (get_or-set_same desks p new nothing_held below)

-- the room of a process is that of its new desk
pub room_set : (desks : List Held) (p : ℕ) (new : Held) → p < length desks → slice_index (all_rooms (set desks p new)) p ≡ new.room
room_set desks p new below = room_at (set desks p new) p ∙ ap (λ (desk : Held). desk.room) (get_or-set_same desks p new nothing_held below)

-- a new desk leaves the looks of all others
pub looks_other : (desks : List Held) (p : ℕ) (new : Held) → SameLooksBut p (all_looks desks) (all_looks (set desks p new))
looks_other desks p new o other = look_of (set desks p new) o ∙ ap (λ (desk : Held). desk.look) (get_or-set_other desks p o new nothing_held other) ∙ sym (look_of desks o)

-- a new desk leaves the rooms of all others
pub rooms_other : (desks : List Held) (p : ℕ) (new : Held) → SameRoomsBut p (all_rooms desks) (all_rooms (set desks p new))
rooms_other desks p new o other = room_at (set desks p new) o ∙ ap (λ (desk : Held). desk.room) (get_or-set_other desks p o new nothing_held other) ∙ sym (room_at desks o)

-- no room is lower than itself
pub rooms_refl : (rooms : List ℕ) → NotLower rooms rooms
rooms_refl rooms p = le_refl _

-- no room becomes lower in two steps
pub rooms_trans : (a b c : List ℕ) → NotLower a b → NotLower b c → NotLower a c
rooms_trans a b c first second p = omega (arith, first p, second p)

-- replacing one by one that has no less room lowers no room
pub rooms_set : (desks : List Held) (p : ℕ) (new : Held) → (get_or desks p nothing_held).room ≤ new.room → NotLower (all_rooms desks) (all_rooms (set desks p new))
rooms_set [] p new more o = le_refl _
rooms_set (desk ∷ desks) zero new more zero = more
rooms_set (desk ∷ desks) zero new more (suc o) = le_refl _
rooms_set (desk ∷ desks) (suc p) new more zero = le_refl _
rooms_set (desk ∷ desks) (suc p) new more (suc o) = rooms_set desks p new more o

-- something is kept of each process that the load has
pub has_desk : (load : Scripted) (desks : List Held) (p : ℕ) → IsPlaying load desks → HasProcess (scripted load).tables p → p < length desks
has_desk load desks p playing exists =
    subst (λ n. p < n) (sym playing.all) (subst (λ q. HasProcess q.tables p) (scripted-checked load playing.right) exists)

-- what is kept of a process that has something
pub desk_at : (desks : List Held) (p : ℕ) (desk : Held) → p < length desks → desk ≡ get_or desks p desk → get_or desks p nothing_held ≡ desk
desk_at desks p desk below is = get_or_default desks p nothing_held desk below ∙ sym is

-- what follows of something holds of it
if_some_weaker : {A : Type 0} (o : Option A) (P Q : A → Type 0) → ((x : A) → P x → Q x) → IfSome o P → IfSome o Q
if_some_weaker None P Q tells given = tt
if_some_weaker (Some x) P Q tells given = tells x given

-- a process is told what its desk is told
pub told_at : (desks : List Held) (p : ℕ) (answer : Answer) (desk new : Held) → p < length desks → desk ≡ get_or desks p desk → IfSome (told_answer desk.look answer) (λ given. new.answers ≡ desk.answers ++ given ∷ [])
    → IfSome (told_answer (look_at (all_looks desks) p) answer) (λ given. all_answers (set desks p new) ≡ pushed_answer (all_answers desks) p given)
told_at desks p answer desk new below is told =
    let held : get_or desks p nothing_held ≡ desk = desk_at desks p desk below is in
    subst (λ look. IfSome (told_answer look answer) (λ given. all_answers (set desks p new) ≡ pushed_answer (all_answers desks) p given)) (sym (look_of desks p ∙ ap (λ (d : Held). d.look) held))
    (if_some_weaker (told_answer desk.look answer) (λ given. new.answers ≡ desk.answers ++ given ∷ []) (λ given. all_answers (set desks p new) ≡ pushed_answer (all_answers desks) p given)
    (λ given e. answers_pushed desks p new given (e ∙ ap (λ (d : Held). d.answers ++ given ∷ []) (sym held))) told)

-- the room of a process goes down as that of its desk
pub room_told : (desks : List Held) (p : ℕ) (desk new : Held) → p < length desks → desk ≡ get_or desks p desk → new.room + 1 ≡ desk.room → slice_index (all_rooms (set desks p new)) p + 1 ≡ slice_index (all_rooms desks) p
room_told desks p desk new below is e =
    ap (λ n. n + 1) (room_set desks p new below) ∙ e ∙ ap (λ (d : Held). d.room) (sym (desk_at desks p desk below is)) ∙ sym (room_at desks p)

-- room was made for the first so many processes
pub record IsReserved (old : Playing) (load : Scripted) (desks : List Held) (count end_ : ℕ) : Type 0 where
  pub playing : IsPlaying load desks
  pub same : load ≡ old.load
  pub all : length desks ≡ end_
  pub answers : all_answers desks ≡ all_answers old.desks
  pub looks : all_looks desks ≡ all_looks old.desks
  pub rooms : NotLower (all_rooms old.desks) (all_rooms desks)
  pub reserved : (p : ℕ) → p < count → reserved_room ≤ slice_index (all_rooms desks) p

-- one more desk is reserved, or the attempt fails
pub reserved_one : (old : Playing) (load : Scripted) (desks : List Held) (count end_ : ℕ) (desk new : Held) → IsReserved old load desks count end_ → count < length desks → desk ≡ get_or desks count desk
    → new.answers ≡ desk.answers → new.look ≡ desk.look → desk.room ≤ new.room → IsReserved old load (set desks count new) count end_
reserved_one old load desks count end_ desk new was below is answers look room =
    let held : get_or desks count nothing_held ≡ desk = desk_at desks count desk below is in
    let more : NotLower (all_rooms desks) (all_rooms (set desks count new)) = rooms_set desks count new (subst (λ (d : Held). d.room ≤ new.room) (sym held) room) in
    record {
      playing = record { right = was.playing.right; all = length-set desks count new ∙ was.playing.all };
      same = was.same;
      all = length-set desks count new ∙ was.all;
      answers = answers_same desks count new below (answers ∙ ap (λ (d : Held). d.answers) (sym held)) ∙ was.answers;
      looks = looks_same desks count new below (look ∙ ap (λ (d : Held). d.look) (sym held)) ∙ was.looks;
      rooms = rooms_trans (all_rooms old.desks) (all_rooms desks) (all_rooms (set desks count new)) was.rooms more;
      reserved = λ p less. le_trans (was.reserved p less) (more p);
    }

-- room was made for one more
pub reserved_more : (old : Playing) (load : Scripted) (desks : List Held) (count end_ : ℕ) (new : Held) → IsReserved old load (set desks count new) count end_ → count < length desks → reserved_room ≤ new.room → IsReserved old load (set desks count new) (count + 1) end_
reserved_more old load desks count end_ new was below room = record {
  playing = was.playing;
  same = was.same;
  all = was.all;
  answers = was.answers;
  looks = was.looks;
  rooms = was.rooms;
  reserved = λ p less. ⊎_elim (λ (e : p ≡ count). subst (λ n. reserved_room ≤ slice_index (all_rooms (set desks count new)) n) (sym e) (subst (λ n. reserved_room ≤ n) (sym (room_set desks count new below)) room))
      (λ (l : p < count). was.reserved p l) (eq-or-lt_of_le (below_one p less));
} where
  below_one : (p : ℕ) → p < count + 1 → p ≤ count
  below_one p less = omega (arith, less)

-- before any answer no process has one
pub no_answers : (load : Scripted) (desks : List Held) (n : ℕ) → checks load ≡ true → desks ≡ replicate n nothing_held → n ≡ process_count load.tables → all_answers desks ≡ replicate (process_count (scripted load).tables) []
no_answers load desks n right fresh all =
    ap all_answers fresh ∙ map_replicate n ∙ ap (λ k. replicate k []) (all ∙ ap (λ (q : Meaning). process_count q.tables) (sym (scripted-checked load right))) where
      map_replicate : (k : ℕ) → all_answers (replicate k nothing_held) ≡ replicate k []
      map_replicate zero = refl
      map_replicate (suc k) = ap (λ xs. [] ∷ xs) (map_replicate k)
