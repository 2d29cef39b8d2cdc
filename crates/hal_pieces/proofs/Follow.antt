-- How items that are read follow each other.
use Rattle.std.proofs.Common.{◌≡◌, ℕ, zero, suc, List, [], ◌∷◌, ◌++◌, ◌≤◌, length, Contains, refl, ap, ◌∙◌, sym, subst, append_assoc, arith, false, Option, Some, None, option_map}
use Rattle.std.proofs.lemmas.List.{append-nil}
use Rattle.std.proofs.lemmas.List.Elements.{All-nil, All-cons, All-head, All-append, Contains-append_right}
use Rattle.hal_base.specs.declared.refusal.Place.{Place}
use Rattle.hal_base.specs.declared.refusal.Refusal.{Refusal}
use Rattle.hal_base.specs.declared.refusal.Fault.{Fault}
use Rattle.hal_base.specs.declared.refusal.Fault.TheVariants as fault
use Rattle.hal_words.specs.Pieces.{Wrong}
use Rattle.hal_words.specs.Lines.{Item, item, Cell, Byte, Given}
use Rattle.hal_words.specs.Items.{items, comment_rest, fault_if_open}
use Rattle.hal_pieces.specs.Faults.{IsRight, HasNoFault, HasFault}
use Rattle.hal_pieces.specs.Reading.{size_within, left, Follows, Reads, IsBrokenBy, TellsOf}

-- what is equal to right items and a rest
pub Follows-same : (whole done rest : List Item) → HasNoFault done → whole ≡ done ++ rest → Follows whole done rest
Follows-same whole done rest clean same = record {
  clean = clean;
  faults = λ one has. subst (λ (l : List Item). Contains l one) (sym same) (Contains-append_right done rest one has);
  same = λ none. same;
}

-- what follows what follows
pub Follows-then : (whole done middle here rest : List Item) → Follows whole done middle → Follows middle here rest → Follows whole (done ++ here) rest
Follows-then whole done middle here rest first second = record {
  clean = All-append (λ one. IsRight one.piece) done here first.clean second.clean;
  faults = λ one has. first.faults one (second.faults one has);
  same = λ none.
      let rests : middle ≡ here ++ rest = second.same none in
      let right : HasNoFault (here ++ rest) = All-append (λ one. IsRight one.piece) here rest second.clean none in
      first.same (subst HasNoFault (sym rests) right) ∙ ap (λ (l : List Item). done ++ l) rests ∙ sym (append_assoc done here rest);
}

-- where all cells belong to what began before, the items before make no difference
pub items-skipped : (some other : List Item) (skipped : ℕ) (cells : List Cell) → length cells ≤ skipped → items some skipped cells ≡ items other skipped cells
items-skipped some other skipped [] all = refl
items-skipped some other zero (cell ∷ cells) all = absurd (omega (arith, all))
items-skipped some other (suc skipped) (Given one ∷ cells) all = ap (λ (l : List Item). one ∷ l) (items-skipped (some ++ one ∷ []) (other ++ one ∷ []) skipped cells (omega (arith, all)))
items-skipped some other (suc skipped) (Byte b place ∷ cells) all = items-skipped some other skipped cells (omega (arith, all))

-- an item that a line gives as a whole, in a comment or not
pub Follows-given : (state : Option Place) (done : List Item) (one : Item) (cells : List Cell) → IsRight one.piece → Follows (left state done (Given one ∷ cells)) (one ∷ []) (left state (done ++ one ∷ []) cells)
Follows-given None done one cells right = Follows-same _ _ _ (All-cons (λ one. IsRight one.piece) one [] right (All-nil (λ one. IsRight one.piece))) refl
Follows-given (Some place) done one cells right = by (comment_rest false cells)
  where
    clean : HasNoFault (one ∷ [])
    clean = All-cons (λ one. IsRight one.piece) one [] right (All-nil (λ one. IsRight one.piece))

    fault : List Item
    fault = item (Wrong 202) place ∷ []

    cases : (other : Item) (rest : List Item) → Contains (item (Wrong 202) place ∷ rest) other → Contains (item (Wrong 202) place ∷ one ∷ rest) other
    cases other rest (zero, fits, has) = (zero, omega arith, has)
    cases other rest (suc k, fits, has) = (suc (suc k), omega (arith, fits), has)

    skipped : items ((done ++ one ∷ []) ++ fault) (length cells) cells ≡ items ((done ++ fault) ++ one ∷ []) (length cells) cells
    skipped = items-skipped ((done ++ one ∷ []) ++ fault) ((done ++ fault) ++ one ∷ []) (length cells) cells (omega arith)

    ended : (size : ℕ) → items (done ++ []) (suc size) (Given one ∷ cells) ≡ one ∷ items ((done ++ one ∷ []) ++ []) size cells
    ended size = rw (append-nil done, append-nil (done ++ one ∷ [])) refl

    by : (rest : Option ℕ) → Follows (fault_if_open (option_map suc rest) place ++ items (done ++ fault_if_open (option_map suc rest) place) (size_within (option_map suc rest) (suc (length cells))) (Given one ∷ cells)) (one ∷ []) (fault_if_open rest place ++ items ((done ++ one ∷ []) ++ fault_if_open rest place) (size_within rest (length cells)) cells)
    by None = record {
      clean = clean;
      faults = λ other has. cases other (items ((done ++ fault) ++ one ∷ []) (length cells) cells) (subst (λ (l : List Item). Contains (item (Wrong 202) place ∷ l) other) skipped has);
      same = λ none. absurd (All-head (λ one. IsRight one.piece) (item (Wrong 202) place) (items ((done ++ one ∷ []) ++ fault) (length cells) cells) none);
    }
    by (Some size) = Follows-same _ _ _ clean (ended size)

-- and one that is a fault
pub HasFault-given : (state : Option Place) (done : List Item) (one : Item) (cells : List Cell) → Contains (left state done (Given one ∷ cells)) one
HasFault-given None done one cells = (zero, omega arith, refl)
HasFault-given (Some place) done one cells = by (comment_rest false cells)
  where
    by : (rest : Option ℕ) → Contains (fault_if_open (option_map suc rest) place ++ items (done ++ fault_if_open (option_map suc rest) place) (size_within (option_map suc rest) (suc (length cells))) (Given one ∷ cells)) one
    by None = (suc zero, omega arith, refl)
    by (Some size) = (zero, omega arith, refl)

-- nothing is read yet
pub Reads-none : (cells : List Cell) (state : Option Place) (old : List Item) → Reads cells cells state state old old
Reads-none cells state old = record {
  here = [];
  put = sym (append-nil old);
  follows = λ more. Follows-same _ [] _ (All-nil (λ one. IsRight one.piece)) refl;
}

-- what is read after what is read
pub Reads-then : (cells middle later : List Cell) (before between after : Option Place) (old half new : List Item) → Reads cells middle before between old half → Reads middle later between after half new → Reads cells later before after old new
Reads-then cells middle later before between after old half new first second = record {
  here = first.here ++ second.here;
  put = second.put ∙ ap (λ (l : List Item). l ++ second.here) first.put ∙ append_assoc old first.here second.here;
  follows = λ more. Follows-then _ first.here _ second.here _ (first.follows more) (second.follows more);
}

-- a fault after what is read
pub IsBrokenBy-then : (cells later : List Cell) (before after : Option Place) (old new : List Item) (refusal : Refusal) → Reads cells later before after old new → IsBrokenBy later after new refusal → IsBrokenBy cells before old refusal
IsBrokenBy-then cells later before after old new refusal reads breaks = λ more. (reads.follows more).faults (item (Wrong refusal.rule.0) refusal.place) (breaks more)

-- cells before others
pub Reads-before : (cells later : List Cell) (before after : Option Place) (old new : List Item) → Reads cells [] before after old new → Reads (cells ++ later) later before after old new
Reads-before cells later before after old new reads = record {
  here = reads.here;
  put = reads.put;
  follows = λ more. subst (λ (l : List Cell). Follows (left before old l) reads.here (left after new (later ++ more))) (sym (append_assoc cells later more)) (reads.follows (later ++ more));
}

pub IsBrokenBy-before : (cells later : List Cell) (before : Option Place) (old : List Item) (refusal : Refusal) → IsBrokenBy cells before old refusal → IsBrokenBy (cells ++ later) before old refusal
IsBrokenBy-before cells later before old refusal breaks = λ more. subst (λ (l : List Cell). HasFault (left before old l) refusal) (sym (append_assoc cells later more)) (breaks (later ++ more))

-- what is read where equal lists say so
pub Reads-same : (cells later : List Cell) (before after : Option Place) (old here new : List Item) → new ≡ old ++ here → HasNoFault here → ((more : List Cell) → left before old (cells ++ more) ≡ here ++ left after new (later ++ more)) → Reads cells later before after old new
Reads-same cells later before after old here new put clean same = record {
  here = here;
  put = put;
  follows = λ more. Follows-same _ here _ clean (same more);
}

-- what gives nothing
pub Reads-nothing : (cells later : List Cell) (before after : Option Place) (old : List Item) → ((more : List Cell) → left before old (cells ++ more) ≡ left after old (later ++ more)) → Reads cells later before after old old
Reads-nothing cells later before after old same = Reads-same cells later before after old [] old (sym (append-nil old)) (All-nil (λ one. IsRight one.piece)) same

-- an error after what is read
pub TellsOf-then : (cells later : List Cell) (before after : Option Place) (old new : List Item) (told : Fault) → Reads cells later before after old new → TellsOf later after new told → TellsOf cells before old told
TellsOf-then cells later before after old new (fault.Broken refusal) reads breaks = IsBrokenBy-then cells later before after old new refusal reads breaks
TellsOf-then cells later before after old new (fault.Memory error) reads breaks = tt

pub TellsOf-before : (cells later : List Cell) (before : Option Place) (old : List Item) (told : Fault) → TellsOf cells before old told → TellsOf (cells ++ later) before old told
TellsOf-before cells later before old (fault.Broken refusal) breaks = IsBrokenBy-before cells later before old refusal breaks
TellsOf-before cells later before old (fault.Memory error) breaks = tt
