-- The list of what phrases declare, by number.
use Rattle.std.specs.Prelude.{ℕ, zero, suc, List, [], ◌∷◌, ◌++◌, Some, None, map, length, nat_lt, true, slice_get, slice_index_or, unwrap_or}
use Rattle.std.proofs.lemmas.Bool.{ltb-true}
use Rattle.std.proofs.lemmas.Option.{slice_get-get_or}
use Rattle.std.proofs.Common.{◌≡◌, refl, sym, ap, ◌∙◌, append-nil, append_assoc}
use Rattle.hal_phrases.specs.Phrases.{Phrase}
use Rattle.hal_constants.specs.Known.{Known}
use Rattle.hal_storage.specs.declared.referents.referent.Referent as rust-referent
use Rattle.hal_storage.specs.referents.Referents.{Referent, Unmeant, phrase_referent, with_referent, with_referents, referents, declaration_referent}
use Rattle.hal_storage.specs.referents.SeenReferents.{seen_referent}

-- what stands at a place of a list, or else something
at_place : {X Z : Type 0} (f : X → Z) (other : Z) (xs : List X) (k : ℕ) → (elim (slice_get xs k) [ None ↦ other | Some x ↦ f x ]) ≡ unwrap_or (slice_get (map f xs) k) other
at_place f other [] k = refl
at_place f other (x ∷ xs) zero = refl
at_place f other (x ∷ xs) (suc k) = at_place f other xs k

referent_listed : (ps : List Phrase) (vs : Known) (list : List rust-referent.Referent) (k : ℕ) → map seen_referent list ≡ referents ps vs
    → (elim (slice_get list k) [ None ↦ Unmeant | Some one ↦ seen_referent one ]) ≡ declaration_referent ps vs k
referent_listed ps vs list k e =
    at_place seen_referent Unmeant list k ∙ ap (λ (l : List Referent). unwrap_or (slice_get l k) Unmeant) e ∙ sym (at_place (phrase_referent ps vs) Unmeant ps k)

pub referent_there : (ps : List Phrase) (vs : Known) (list : List rust-referent.Referent) (k : ℕ) (one d : rust-referent.Referent) → map seen_referent list ≡ referents ps vs
    → true ≡ nat_lt k (length list) → one ≡ slice_index_or list k d → seen_referent one ≡ declaration_referent ps vs k
referent_there ps vs list k one d e low there =
    ap (λ o. elim o [ None ↦ Unmeant | Some other ↦ seen_referent other ]) (sym (slice_get-get_or list k d (ltb-true k (length list) (sym low)) ∙ ap Some (sym there))) ∙ referent_listed ps vs list k e

pub none_there : (ps : List Phrase) (vs : Known) (list : List rust-referent.Referent) (k : ℕ) → map seen_referent list ≡ referents ps vs
    → slice_get list k ≡ None → Unmeant ≡ declaration_referent ps vs k
none_there ps vs list k e there =
    ap (λ o. elim o [ None ↦ Unmeant | Some other ↦ seen_referent other ]) (sym there) ∙ referent_listed ps vs list k e

-- referents behind those so far
pub all_referred : (ps : List Phrase) (vs : Known) (d : List Referent) (rest : List Phrase) → with_referents ps vs d rest ≡ d ++ map (phrase_referent ps vs) rest
unfolding with_referent with_referents
all_referred ps vs d [] = sym (append-nil d)
all_referred ps vs d (p ∷ rest) =
    all_referred ps vs (d ++ (phrase_referent ps vs p ∷ [])) rest ∙ append_assoc d (phrase_referent ps vs p ∷ []) (map (phrase_referent ps vs) rest)

pub referred : (ps : List Phrase) (vs : Known) → with_referents ps vs [] ps ≡ referents ps vs
referred ps vs = all_referred ps vs [] ps
