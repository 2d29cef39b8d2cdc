-- The index of the definitions has the latest one of each name.
use Rattle.std.proofs.Common.{◌≡◌, ◌+◌, ℕ, List, [], ◌∷◌, ◌++◌, length, map, reverse, Bool, true, false, cond, Option, Some, None, All, refl, sym, ◌∙◌, ap, subst, arith}
use Rattle.std.specs.Prelude.{bytes_eq, slice_get, if◌then◌else◌}
use Rattle.std.specs.Map.{lookup}
use Rattle.std.specs.Option.{option_map}
use Rattle.std.proofs.Math.Seq.{get_or-append_seam}
use Rattle.std.proofs.lemmas.List.{reverse-append, length-append, length-map, map-append, get_or_append_left}
use Rattle.std.proofs.lemmas.List.Elements.{All-append, All-cons, All-nil}
use Rattle.std.proofs.lemmas.Option.{slice_get-get_or, slice_get_within, get_or_from_slice_get, slice_get-map}
use Rattle.hal_words.specs.Replacing.{Definitions}
use Rattle.hal_words.specs.Reserved.{look_up}
use Rattle.hal_words.specs.contracts.name.NamePartialEq.TheImpl as derived
use Rattle.hal_words.proofs.NameEquality.{eq-same, eq-flipped, lookup-same}
use Rattle.hal_lexer.specs.declared.definitions.Definition.{Definition}
use Rattle.hal_lexer.specs.Texts.{IsText}
use Rattle.hal_lexer.specs.Defined.{pair_of, found, Names, IsIndex}
use Rattle.hal_lexer.proofs.Tables.{same_name}

pub lookup-found : (entries : List (List ℕ × ℕ)) (name : List ℕ) → lookup ((derived.eq-value).it name) entries ≡ found entries name
lookup-found entries name = lookup-same _ _ (eq-flipped name) entries

-- one more definition
get_last : (list : Definitions) (last : List ℕ × List ℕ) → slice_get (list ++ last ∷ []) (length list) ≡ Some last
get_last list last =
    let sum : length (list ++ last ∷ []) ≡ length list + length (last ∷ []) = length-append list (last ∷ []) in
    slice_get-get_or (list ++ last ∷ []) (length list) last (omega arith) ∙ ap Some (get_or-append_seam list last [] last)

get_before : (list more : Definitions) (i : ℕ) (one : List ℕ × List ℕ) → slice_get list i ≡ Some one → slice_get (list ++ more) i ≡ Some one
get_before list more i one is =
    let within = slice_get_within list i one is in
    let sum : length (list ++ more) ≡ length list + length more = length-append list more in
    slice_get-get_or (list ++ more) i one (omega arith) ∙ ap Some (get_or_append_left list more one i within ∙ get_or_from_slice_get list i one one is)

names_more : (list more : Definitions) (number : Option ℕ) (text : Option (List ℕ)) → Names list number text → Names (list ++ more) number text
names_more list more None text is = is
names_more list more (Some i) text is = (is.0, get_before list more i is.0 is.1, is.2)

names_cases : (list : Definitions) (last : List ℕ × List ℕ) (same : Bool) (number : Option ℕ) (text : Option (List ℕ)) → Names list number text
    → Names (list ++ last ∷ []) (cond same (Some (length list)) number) (if same then Some last.1 else text)
names_cases list last true number text is = (last, get_last list last, refl)
names_cases list last false number text is = names_more list (last ∷ []) number text is

pub IsIndex-push : (old new : List (List ℕ × ℕ)) (list : Definitions) (name text : List ℕ) (number : ℕ) → number ≡ length list → IsIndex old list → IsText text
    → ((q : List ℕ) → lookup ((derived.eq-value).it q) new ≡ cond ((derived.eq-value).it name q) (Some number) (lookup ((derived.eq-value).it q) old))
    → IsIndex new (list ++ (name, text) ∷ [])
IsIndex-push old new list name text number last index is updates = record {
  texts = All-append (λ (one : List ℕ × List ℕ). IsText one.1) list ((name, text) ∷ []) index.texts (All-cons (λ (one : List ℕ × List ℕ). IsText one.1) (name, text) [] is (All-nil _));
  finds = λ q.
      let here : found new q ≡ cond (bytes_eq name q) (Some (length list)) (found old q) =
      sym (lookup-found new q) ∙ updates q
      ∙ ap (λ b. cond b (Some number) (lookup ((derived.eq-value).it q) old)) (eq-same name q)
      ∙ ap (λ n. cond (bytes_eq name q) (Some n) (lookup ((derived.eq-value).it q) old)) last
      ∙ ap (λ rest. cond (bytes_eq name q) (Some (length list)) rest) (lookup-found old q) in
      let turned : reverse (list ++ (name, text) ∷ []) ≡ (name, text) ∷ reverse list = reverse-append list ((name, text) ∷ []) in
      rw (here, turned) (names_cases list (name, text) (bytes_eq name q) (found old q) (look_up (reverse list) q) (index.finds q));
}

-- what the index finds
pub names_of_index : (entries : List (List ℕ × ℕ)) (list definitions : Definitions) (name : List ℕ) (number : Option ℕ) → IsIndex entries list → reverse list ≡ definitions
    → number ≡ lookup ((derived.eq-value).it name) entries → Names list number (look_up definitions name)
names_of_index entries list definitions name number index is found_is =
    rw (found_is, lookup-found entries name, ← is) (index.finds name)

pub text_found : (items : List Definition) (i : ℕ) (one : Definition) (text : Option (List ℕ)) → Names (map pair_of items) (Some i) text → slice_get items i ≡ Some one → text ≡ Some one.text
text_found items i one text is got =
    let here : slice_get (map pair_of items) i ≡ Some (pair_of one) = slice_get-map pair_of items i ∙ ap (option_map pair_of) got in
    let same : Some is.0 ≡ Some (pair_of one) = sym is.1 ∙ here in
    let pair : is.0 ≡ pair_of one = cc in
    is.2 ∙ ap (λ (p : List ℕ × List ℕ). Some p.1) pair

pub no_text : (items : List Definition) (i : ℕ) (text : Option (List ℕ)) → Names (map pair_of items) (Some i) text → slice_get items i ≡ None → text ≡ None
no_text items i text is got =
    let here : slice_get (map pair_of items) i ≡ None = slice_get-map pair_of items i ∙ ap (option_map pair_of) got in
    let no : Some is.0 ≡ None = sym is.1 ∙ here in
    absurd (cc)

pub text_is_text : (items : List Definition) (i : ℕ) (one : Definition) → All (λ (pair : List ℕ × List ℕ). IsText pair.1) (map pair_of items) → slice_get items i ≡ Some one → IsText one.text
text_is_text items i one all got =
    let here : slice_get (map pair_of items) i ≡ Some (pair_of one) = slice_get-map pair_of items i ∙ ap (option_map pair_of) got in
    subst (λ (pair : List ℕ × List ℕ). IsText pair.1) (get_or_from_slice_get (map pair_of items) i (pair_of one) (pair_of one) here)
    (all i (pair_of one) (slice_get_within (map pair_of items) i (pair_of one) here))

pub IsIndex-added : (old new : List (List ℕ × ℕ)) (items more : List Definition) (one : Definition) (number : ℕ) → more ≡ items ++ one ∷ [] → number ≡ length items → IsIndex old (map pair_of items) → IsText one.text
    → ((q : List ℕ) → lookup ((derived.eq-value).it q) new ≡ cond ((derived.eq-value).it one.name q) (Some number) (lookup ((derived.eq-value).it q) old))
    → IsIndex new (map pair_of more)
IsIndex-added old new items more one number added last index is updates =
    let count : number ≡ length (map pair_of items) = omega (arith, length-map items pair_of) in
    rw (added, map-append pair_of items (one ∷ [])) (IsIndex-push old new (map pair_of items) one.name one.text number count index is updates)

-- a name that is found by its index
pub own_found : (entries : List (List ℕ × ℕ)) (own name : List ℕ) (number : ℕ) → lookup ((derived.eq-value).it own) entries ≡ Some number → (derived.eq-value).it own name ≡ true → Some number ≡ lookup ((derived.eq-value).it name) entries
own_found entries own name number at same =
    let here : own ≡ name = same_name own name (sym (eq-same own name) ∙ same) in
    sym (ap (λ (n : List ℕ). lookup ((derived.eq-value).it n) entries) (sym here) ∙ at)
