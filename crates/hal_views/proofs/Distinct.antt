-- Each view of a set is a phrase's, each phrase's view is there, and none is there twice.
use Rattle.std.proofs.Common.{◌≡◌, ◌∙◌, ◌⊎◌, inl, inr, ⊎_elim, refl, sym, ap, ap₂, ℕ, ◌==◌, Bool, true, false, ◌&&◌, ◌||◌, List, [], ◌∷◌, ◌++◌, Option, Some, None}
use Rattle.std.specs.Prelude.{bytes_eq, if◌then◌else◌}
use Rattle.std.specs.List.{list_any}
use Rattle.std.proofs.lemmas.Bool.{eqb-true, eq-eqb}
use Rattle.std.proofs.lemmas.Slice.Eq.{bytes_eq-Decides}
use Rattle.hal_views.specs.Views.{Choice, OnePlace, AllPlaces, Places, View, view, same_choice, same_choices, same_copies, same_path, same_view, distinct}
use Rattle.hal_views.specs.Once.{IsAmong, AreOnce}

both : (p q : Bool) → (p && q) ≡ true → (p ≡ true) × (q ≡ true)
both true q e = (refl, e)
both false q e = absurd (cc)

joined : (p q : Bool) → p ≡ true → q ≡ true → (p && q) ≡ true
joined p q e f = rw (e, f) refl

equal_choice : (c d : Choice) → same_choice c d ≡ true → c ≡ d
equal_choice OnePlace OnePlace e = refl
equal_choice OnePlace AllPlaces e = absurd (cc)
equal_choice OnePlace (Places a b) e = absurd (cc)
equal_choice AllPlaces OnePlace e = absurd (cc)
equal_choice AllPlaces AllPlaces e = refl
equal_choice AllPlaces (Places a b) e = absurd (cc)
equal_choice (Places a b) OnePlace e = absurd (cc)
equal_choice (Places a b) AllPlaces e = absurd (cc)
equal_choice (Places a b) (Places c d) e = ap₂ Places (eqb-true a c (both (a == c) (b == d) e).0) (eqb-true b d (both (a == c) (b == d) e).1)

choice_itself : (c : Choice) → same_choice c c ≡ true
choice_itself OnePlace = refl
choice_itself AllPlaces = refl
choice_itself (Places a b) = joined (a == a) (b == b) (eq-eqb a a refl) (eq-eqb b b refl)

equal_choices : (cs ds : List Choice) → same_choices cs ds ≡ true → cs ≡ ds
equal_choices [] [] e = refl
equal_choices [] (d ∷ ds) e = absurd (cc)
equal_choices (c ∷ cs) [] e = absurd (cc)
equal_choices (c ∷ cs) (d ∷ ds) e = let parts = both (same_choice c d) (same_choices cs ds) e in ap₂ (λ x xs. x ∷ xs) (equal_choice c d parts.0) (equal_choices cs ds parts.1)

choices_themselves : (cs : List Choice) → same_choices cs cs ≡ true
choices_themselves [] = refl
choices_themselves (c ∷ cs) = joined (same_choice c c) (same_choices cs cs) (choice_itself c) (choices_themselves cs)

equal_copies : (c d : Option Choice) → same_copies c d ≡ true → c ≡ d
equal_copies None None e = refl
equal_copies None (Some d) e = absurd (cc)
equal_copies (Some c) None e = absurd (cc)
equal_copies (Some c) (Some d) e = ap Some (equal_choice c d e)

copies_themselves : (c : Option Choice) → same_copies c c ≡ true
copies_themselves None = refl
copies_themselves (Some c) = choice_itself c

equal_path : (ns ms : List (List ℕ)) → same_path ns ms ≡ true → ns ≡ ms
equal_path [] [] e = refl
equal_path [] (m ∷ ms) e = absurd (cc)
equal_path (n ∷ ns) [] e = absurd (cc)
equal_path (n ∷ ns) (m ∷ ms) e =
    let parts = both (bytes_eq n m) (same_path ns ms) e in ap₂ (λ (x : List ℕ) (xs : List (List ℕ)). x ∷ xs) ((bytes_eq-Decides n m).0 parts.0) (equal_path ns ms parts.1)

path_itself : (ns : List (List ℕ)) → same_path ns ns ≡ true
path_itself [] = refl
path_itself (n ∷ ns) = joined (bytes_eq n n) (same_path ns ns) ((bytes_eq-Decides n n).1 refl) (path_itself ns)

equal_view : (v w : View) → same_view v w ≡ true → v ≡ w
equal_view v w e =
    let halves = both ((v.declared == w.declared) && same_path v.path w.path) (same_copies v.copies w.copies && same_choices v.places w.places) e in
    let first = both (v.declared == w.declared) (same_path v.path w.path) halves.0 in
    let second = both (same_copies v.copies w.copies) (same_choices v.places w.places) halves.1 in
    ap₂ (λ (k : ℕ) (p : List (List ℕ)). view k p v.copies v.places) (eqb-true v.declared w.declared first.0) (equal_path v.path w.path first.1)
    ∙ ap₂ (λ (c : Option Choice) (cs : List Choice). view w.declared w.path c cs) (equal_copies v.copies w.copies second.0) (equal_choices v.places w.places second.1)

view_itself : (v : View) → same_view v v ≡ true
view_itself v =
    joined ((v.declared == v.declared) && same_path v.path v.path) (same_copies v.copies v.copies && same_choices v.places v.places)
    (joined (v.declared == v.declared) (same_path v.path v.path) (eq-eqb v.declared v.declared refl) (path_itself v.path))
    (joined (same_copies v.copies v.copies) (same_choices v.places v.places) (copies_themselves v.copies) (choices_themselves v.places))

the_other : (p q : Bool) → p ≡ false → (p || q) ≡ true → q ≡ true
the_other true q fails e = absurd (cc)
the_other false q fails e = e

-- a test of the first one, and of the others
found_by : (v w : View) (ws : List View) (test : Bool) → same_view v w ≡ test → (list_any (same_view v) ws ≡ true → IsAmong v ws) → list_any (same_view v) (w ∷ ws) ≡ true → IsAmong v (w ∷ ws)
found_by v w ws true e later any = inl (equal_view v w e)
found_by v w ws false e later any = inr (later (the_other (same_view v w) (list_any (same_view v) ws) e any))

-- a view that is found is one of them
found : (v : View) (ws : List View) → list_any (same_view v) ws ≡ true → IsAmong v ws
found v [] e = absurd (cc)
found v (w ∷ ws) e = found_by v w ws (same_view v w) refl (found v ws) e

-- front and end
at_front : (v : View) (ws us : List View) → IsAmong v ws → IsAmong v (ws ++ us)
at_front v [] us among = absurd among
at_front v (w ∷ ws) us (inl same) = inl same
at_front v (w ∷ ws) us (inr later) = inr (at_front v ws us later)

at_end : (v : View) (ws : List View) → IsAmong v (ws ++ (v ∷ []))
at_end v [] = inl refl
at_end v (w ∷ ws) = inr (at_end v ws)

split : (v u : View) (ws : List View) → IsAmong v (ws ++ (u ∷ [])) → IsAmong v ws ⊎ (v ≡ u)
split v u [] (inl same) = inr same
split v u [] (inr never) = absurd never
split v u (w ∷ ws) (inl same) = inl (inl same)
split v u (w ∷ ws) (inr later) = ⊎_elim (λ among. inl (inr among)) (λ same. inr same) (split v u ws later)

-- the views that were found, and one more where it isn't there
abbrev noted : Bool → List View → View → List View
noted test ws v = if test then ws else ws ++ (v ∷ [])

noted_keeps : (test : Bool) (x v : View) (ws : List View) → IsAmong x ws → IsAmong x (noted test ws v)
noted_keeps true x v ws among = among
noted_keeps false x v ws among = at_front x ws (v ∷ []) among

noted_has : (test : Bool) (v : View) (ws : List View) → list_any (same_view v) ws ≡ test → IsAmong v (noted test ws v)
noted_has true v ws e = found v ws e
noted_has false v ws e = at_end v ws

noted_only : (test : Bool) (x v : View) (ws : List View) → IsAmong x (noted test ws v) → IsAmong x ws ⊎ (x ≡ v)
noted_only true x v ws among = inl among
noted_only false x v ws among = split x v ws among

kept : (x : View) (ws vs : List View) → IsAmong x ws → IsAmong x (distinct ws vs)
kept x ws [] among = among
kept x ws (v ∷ vs) among = kept x (noted (list_any (same_view v) ws) ws v) vs (noted_keeps (list_any (same_view v) ws) x v ws among)

has_by : (x v : View) (ws vs : List View) → x ≡ v → IsAmong x (distinct (noted (list_any (same_view v) ws) ws v) vs)
has_by x v ws vs same = kept x (noted (list_any (same_view v) ws) ws v) vs (rw same (noted_has (list_any (same_view v) ws) v ws refl))

-- each is there
pub has_each : (x : View) (ws vs : List View) → IsAmong x vs → IsAmong x (distinct ws vs)
has_each x ws [] among = absurd among
has_each x ws (v ∷ vs) (inl same) = has_by x v ws vs same
has_each x ws (v ∷ vs) (inr later) = has_each x (noted (list_any (same_view v) ws) ws v) vs later

-- and no other
pub has_only : (x : View) (ws vs : List View) → IsAmong x (distinct ws vs) → IsAmong x ws ⊎ IsAmong x vs
has_only x ws [] among = inl among
has_only x ws (v ∷ vs) among =
    ⊎_elim (λ before. ⊎_elim (λ old. inl old) (λ same. inr (inl same)) (noted_only (list_any (same_view v) ws) x v ws before)) (λ later. inr (inr later))
    (has_only x (noted (list_any (same_view v) ws) ws v) vs among)

-- one that is there is found
told_by : (v w : View) (ws : List View) (test : Bool) → same_view v w ≡ test → list_any (same_view v) ws ≡ true → list_any (same_view v) (w ∷ ws) ≡ true
told_by v w ws true e later = rw e refl
told_by v w ws false e later = rw e later

told : (v : View) (ws : List View) → IsAmong v ws → list_any (same_view v) ws ≡ true
told v [] among = absurd among
told v (w ∷ ws) (inl same) = rw (← same, view_itself v) refl
told v (w ∷ ws) (inr later) = told_by v w ws (same_view v w) refl (told v ws later)

once_more : (v : View) (ws : List View) → AreOnce ws → (IsAmong v ws → ⊥) → AreOnce (ws ++ (v ∷ []))
once_more v [] once new = (λ never. never, tt)
once_more v (w ∷ ws) once new =
    (λ among. ⊎_elim (λ old. once.0 old) (λ same. new (inl (sym same))) (split w v ws among), once_more v ws once.1 (λ later. new (inr later)))

noted_once : (test : Bool) (v : View) (ws : List View) → list_any (same_view v) ws ≡ test → AreOnce ws → AreOnce (noted test ws v)
noted_once true v ws e once = once
noted_once false v ws e once = once_more v ws once (λ among. let yes = told v ws among in cc)

-- and none twice
pub are_once : (ws vs : List View) → AreOnce ws → AreOnce (distinct ws vs)
are_once ws [] once = once
are_once ws (v ∷ vs) once = are_once (noted (list_any (same_view v) ws) ws v) vs (noted_once (list_any (same_view v) ws) v ws refl once)
