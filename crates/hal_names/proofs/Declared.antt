-- The declarations among phrases, and what comes of them alone.
use Rattle.std.proofs.Common.{◌≡◌, ℕ, ◌+◌, Bool, true, false, cond, List, [], ◌∷◌, ◌++◌, filter, filter_map, flat_map, length, slice_get, Option, Some, None, refl, sym, ◌∙◌, ap, append-nil, append_assoc}
use Rattle.std.proofs.lemmas.List.{length-append}
use Rattle.std.specs.Prelude.{◌||◌, if◌then◌else◌}
use Rattle.std.specs.List.{list_any}
use Rattle.hal_phrases.specs.Phrases.{Phrase}
use Rattle.hal_names.specs.Declarations.{is_declaration, with_place, with_places, with_chosen, with_all_chosen}

-- the phrase behind these
at_end : (before ps : List Phrase) (p : Phrase) → slice_get (before ++ (p ∷ ps)) (length before) ≡ Some p
at_end [] ps p = refl
at_end (b ∷ before) ps p = at_end before ps p

-- the places of declarations from this one on, behind those noted
abbrev places_from : ℕ → List Phrase → List ℕ
places_from k [] = []
places_from k (p ∷ ps) = (if is_declaration p then k ∷ [] else []) ++ places_from (k + 1) ps

one_place : (places : List ℕ) (k : ℕ) (b : Bool) → (if b then places ++ (k ∷ []) else places) ≡ places ++ (if b then k ∷ [] else [])
one_place places k true = refl
one_place places k false = sym (append-nil places)

all_places : (places : List ℕ) (k : ℕ) (ps : List Phrase) → with_places places k ps ≡ places ++ places_from k ps
unfolding with_places
all_places places k [] = sym (append-nil places)
all_places places k (p ∷ ps) =
    all_places (with_place places k p) (k + 1) ps
    ∙ ap (λ (l : List ℕ). l ++ places_from (k + 1) ps) (one_place places k (is_declaration p))
    ∙ append_assoc places (if is_declaration p then k ∷ [] else []) (places_from (k + 1) ps)

-- the first phrase, where it is chosen, and those behind it
by_first : (all chosen rest : List Phrase) (p : Phrase) (k : ℕ) (ks : List ℕ) (b : Bool) → slice_get all k ≡ Some p → ((others : List Phrase) → with_all_chosen all others ks ≡ others ++ rest)
    → with_all_chosen all chosen ((if b then k ∷ [] else []) ++ ks) ≡ chosen ++ cond b (p ∷ rest) rest
unfolding with_all_chosen
by_first all chosen rest p k ks true at behind =
    ap (λ (found : Option Phrase). with_all_chosen all (elim found [ None ↦ chosen | Some q ↦ chosen ++ (q ∷ []) ]) ks) at
    ∙ behind (chosen ++ (p ∷ [])) ∙ append_assoc chosen (p ∷ []) rest
by_first all chosen rest p k ks false at behind = behind chosen

-- the phrases at these places are the declarations
chosen_from : (before ps chosen : List Phrase) → with_all_chosen (before ++ ps) chosen (places_from (length before) ps) ≡ chosen ++ filter is_declaration ps
unfolding with_all_chosen
chosen_from before [] chosen = sym (append-nil chosen)
chosen_from before (p ∷ ps) chosen =
    by_first (before ++ (p ∷ ps)) chosen (filter is_declaration ps) p (length before) (places_from (length before + 1) ps) (is_declaration p) (at_end before ps p)
    (λ others.
    ap (λ (l : List Phrase). with_all_chosen l others (places_from (length before + 1) ps)) (sym (append_assoc before (p ∷ []) ps))
    ∙ ap (λ (k : ℕ). with_all_chosen ((before ++ (p ∷ [])) ++ ps) others (places_from k ps)) (sym (length-append before (p ∷ [])))
    ∙ chosen_from (before ++ (p ∷ [])) ps others)

-- the phrases at the places that are noted of all phrases
pub chosen_alone : (ps : List Phrase) → with_all_chosen ps [] (with_places [] 0 ps) ≡ filter is_declaration ps
chosen_alone ps = ap (with_all_chosen ps []) (all_places [] 0 ps) ∙ chosen_from [] ps []

-- what is found in phrases, where one that is no declaration gives nothing, is found in the declarations
module _ {Y : Type 0} (f : Phrase → Option Y) (none : (p : Phrase) → is_declaration p ≡ false → f p ≡ None) where
  found_alone : (ps : List Phrase) → filter_map f (filter is_declaration ps) ≡ filter_map f ps
  found_alone [] = refl
  found_alone (p ∷ ps) = by (is_declaration p) refl (found_alone ps)
    where
      by : (b : Bool) → is_declaration p ≡ b → filter_map f (filter is_declaration ps) ≡ filter_map f ps → filter_map f (cond b (p ∷ filter is_declaration ps) (filter is_declaration ps)) ≡ filter_map f (p ∷ ps)
      by true is rest = rw rest refl
      by false is rest = rw (none p is) rest

  pub found_in_declarations : (ds ps : List Phrase) → ds ≡ filter is_declaration ps → filter_map f ds ≡ filter_map f ps
  found_in_declarations ds ps same = ap (filter_map f) same ∙ found_alone ps

-- the same of what may be several
module _ {Y : Type 0} (f : Phrase → List Y) (none : (p : Phrase) → is_declaration p ≡ false → f p ≡ []) where
  given_alone : (ps : List Phrase) → flat_map f (filter is_declaration ps) ≡ flat_map f ps
  given_alone [] = refl
  given_alone (p ∷ ps) = by (is_declaration p) refl (given_alone ps)
    where
      by : (b : Bool) → is_declaration p ≡ b → flat_map f (filter is_declaration ps) ≡ flat_map f ps → flat_map f (cond b (p ∷ filter is_declaration ps) (filter is_declaration ps)) ≡ f p ++ flat_map f ps
      by true is rest = ap (λ (l : List Y). f p ++ l) rest
      by false is rest = rest ∙ sym (ap (λ (l : List Y). l ++ flat_map f ps) (none p is))

  pub given_in_declarations : (ds ps : List Phrase) → ds ≡ filter is_declaration ps → flat_map f ds ≡ flat_map f ps
  given_in_declarations ds ps same = ap (flat_map f) same ∙ given_alone ps

-- the same of whether any phrase is such a one
module _ (f : Phrase → Bool) (none : (p : Phrase) → is_declaration p ≡ false → f p ≡ false) where
  any_alone : (ps : List Phrase) → list_any f (filter is_declaration ps) ≡ list_any f ps
  any_alone [] = refl
  any_alone (p ∷ ps) = by (is_declaration p) refl (any_alone ps)
    where
      by : (b : Bool) → is_declaration p ≡ b → list_any f (filter is_declaration ps) ≡ list_any f ps → list_any f (cond b (p ∷ filter is_declaration ps) (filter is_declaration ps)) ≡ (f p || list_any f ps)
      by true is rest = ap (λ (b : Bool). f p || b) rest
      by false is rest = rest ∙ sym (ap (λ (b : Bool). b || list_any f ps) (none p is))

  pub any_in_declarations : (ds ps : List Phrase) → ds ≡ filter is_declaration ps → list_any f ds ≡ list_any f ps
  any_in_declarations ds ps same = ap (list_any f) same ∙ any_alone ps

-- the same of those phrases that are kept
module _ (f : Phrase → Bool) (none : (p : Phrase) → is_declaration p ≡ false → f p ≡ false) where
  kept_alone : (ps : List Phrase) → filter f (filter is_declaration ps) ≡ filter f ps
  kept_alone [] = refl
  kept_alone (p ∷ ps) = by (is_declaration p) refl (kept_alone ps)
    where
      by : (b : Bool) → is_declaration p ≡ b → filter f (filter is_declaration ps) ≡ filter f ps → filter f (cond b (p ∷ filter is_declaration ps) (filter is_declaration ps)) ≡ filter f (p ∷ ps)
      by true is rest = ap (λ (l : List Phrase). cond (f p) (p ∷ l) l) rest
      by false is rest = rest ∙ sym (ap (λ (b : Bool). cond b (p ∷ filter f ps) (filter f ps)) (none p is))

  pub kept_in_declarations : (ds ps : List Phrase) → ds ≡ filter is_declaration ps → filter f ds ≡ filter f ps
  kept_in_declarations ds ps same = ap (filter f) same ∙ kept_alone ps

-- the same of what comes of phrases one by one
module _ {S : Type 0} (many : S → List Phrase → S) (one : S → Phrase → S)
    (next : (s : S) (p : Phrase) (ps : List Phrase) → many s (p ∷ ps) ≡ many (one s p) ps) (none : (s : S) (p : Phrase) → is_declaration p ≡ false → one s p ≡ s) where
  passed_alone : (ps : List Phrase) (s : S) → many s (filter is_declaration ps) ≡ many s ps
  passed_alone [] s = refl
  passed_alone (p ∷ ps) s = by (is_declaration p) refl (passed_alone ps)
    where
      by : (b : Bool) → is_declaration p ≡ b → ((t : S) → many t (filter is_declaration ps) ≡ many t ps) → many s (cond b (p ∷ filter is_declaration ps) (filter is_declaration ps)) ≡ many s (p ∷ ps)
      by true is rest = next s p (filter is_declaration ps) ∙ rest (one s p) ∙ sym (next s p ps)
      by false is rest = rest s ∙ ap (λ (t : S). many t ps) (sym (none s p is)) ∙ sym (next s p ps)

  pub passed_in_declarations : (ds ps : List Phrase) (s : S) → ds ≡ filter is_declaration ps → many s ds ≡ many s ps
  passed_in_declarations ds ps s same = ap (many s) same ∙ passed_alone ps s
