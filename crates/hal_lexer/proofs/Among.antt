-- The names whose texts are being read, in either order.
use Rattle.std.proofs.Common.{◌≡◌, ◌<◌, ◌+◌, Bool, true, false, cond, ◌||◌, List, [], ◌∷◌, ◌++◌, ℕ, length, get_or, map, reverse, Option, Some, None, is_some, refl, sym, ap, subst, ◌∙◌, arith}
use Rattle.std.specs.Prelude.{bytes_eq}
use Rattle.std.specs.Map.{lookup}
use Rattle.std.proofs.lemmas.List.{reverse-append, map-append, length-append, get_or_append_left}
use Rattle.std.proofs.lemmas.List.Elements.{All-append, All-cons, All-nil}
use Rattle.std.proofs.Math.Seq.{get_or-append_seam}
use Rattle.std.specs.Option.{option_to_list, IfSome}
use Rattle.hal_words.specs.Replacing.{is_among}
use Rattle.hal_lexer.specs.Opened.{Opened, Entry, AreTexts, opened_of, names_of}
use Rattle.hal_lexer.specs.Texts.{IsText}
use Rattle.hal_words.specs.contracts.name.NamePartialEq.TheImpl as derived
use Rattle.hal_words.proofs.NameEquality.{eq-flipped}

or_moved : (a b c : Bool) → (a || (b || c)) ≡ (b || (a || c))
or_moved true true c = refl
or_moved true false c = refl
or_moved false b c = refl

among_last : (frames : List Opened) (last : Opened) (name : List ℕ) → is_among (names_of (frames ++ last ∷ [])) name ≡ (bytes_eq last.name name || is_among (names_of frames) name)
among_last [] last name = refl
among_last (frame ∷ frames) last name =
    ap (λ b. bytes_eq frame.name name || b) (among_last frames last name) ∙ or_moved (bytes_eq frame.name name) (bytes_eq last.name name) (is_among (names_of frames) name)

pub among_reverse : (frames : List Opened) (name : List ℕ) → is_among (names_of (reverse frames)) name ≡ is_among (names_of frames) name
among_reverse [] name = refl
among_reverse (frame ∷ frames) name =
    ap (λ (list : List Opened). is_among (names_of list) name) (reverse-append (frame ∷ []) frames)
    ∙ among_last (reverse frames) frame name
    ∙ ap (λ b. bytes_eq frame.name name || b) (among_reverse frames name)

-- what a map finds
some_or : {X : Type 0} (b : Bool) (value : X) (rest : Option X) → is_some (cond b (Some value) rest) ≡ (b || is_some rest)
some_or true value rest = refl
some_or false value rest = refl

among_lookup : (entries : List Entry) (name : List ℕ) → is_some (lookup ((derived.eq-value).it name) entries) ≡ is_among (names_of (map opened_of entries)) name
among_lookup [] name = refl
among_lookup (entry ∷ entries) name =
    some_or ((derived.eq-value).it name entry.0) entry.1 (lookup ((derived.eq-value).it name) entries)
    ∙ ap (λ b. b || is_some (lookup ((derived.eq-value).it name) entries)) (eq-flipped name entry.0)
    ∙ ap (λ b. bytes_eq entry.0 name || b) (among_lookup entries name)

pub among_open : (entries : List Entry) (frames : List Opened) (name : List ℕ) → reverse (map opened_of entries) ≡ frames
    → is_some (lookup ((derived.eq-value).it name) entries) ≡ is_among (names_of frames) name
among_open entries frames name is =
    among_lookup entries name ∙ sym (among_reverse (map opened_of entries) name) ∙ ap (λ (list : List Opened). is_among (names_of list) name) is

pub none_of : {X : Type 0} (one : Option X) → is_some one ≡ false → one ≡ None
none_of None is = refl
none_of (Some value) is = let no : true ≡ false = is in absurd (cc)

pub not_open : (entries : List Entry) (frames : List Opened) (name : List ℕ) → reverse (map opened_of entries) ≡ frames → is_among (names_of frames) name ≡ false
    → lookup ((derived.eq-value).it name) entries ≡ None
not_open entries frames name is closed = none_of (lookup ((derived.eq-value).it name) entries) (among_open entries frames name is ∙ closed)

pub closed_name : (entries : List Entry) (name : List ℕ) → lookup ((derived.eq-value).it name) entries ≡ None → is_among (names_of (reverse (map opened_of entries))) name ≡ false
closed_name entries name none = sym (among_open entries (reverse (map opened_of entries)) name refl) ∙ ap is_some none

-- one more frame
pub opened : (entries more : List Entry) (last : Entry) (frames : List Opened) → more ≡ entries ++ last ∷ [] → reverse (map opened_of entries) ≡ frames
    → reverse (map opened_of more) ≡ opened_of last ∷ frames
opened entries more last frames added is = rw (added, map-append opened_of entries (last ∷ []), reverse-append (map opened_of entries) (opened_of last ∷ []), is) refl

pub opened_texts : (entries more : List Entry) (last : Entry) → more ≡ entries ++ last ∷ [] → AreTexts entries → IsText last.1.rest.now → AreTexts more
opened_texts entries more last added all is =
    rw added (All-append (λ (entry : Entry). IsText entry.1.rest.now) entries (last ∷ []) all (All-cons (λ (entry : Entry). IsText entry.1.rest.now) last [] is (All-nil (λ (entry : Entry). IsText entry.1.rest.now))))

-- one frame less
pub left_texts : (entries less : List Entry) (taken : Option Entry) → entries ≡ less ++ option_to_list taken → AreTexts entries → AreTexts less
left_texts entries less taken is all k d below =
    let sum : length (less ++ option_to_list taken) ≡ length less + length (option_to_list taken) = length-append less (option_to_list taken) in
    let within : k < length entries = omega (arith, ap (λ (list : List Entry). length list) is) in
    let same : get_or entries k d ≡ get_or less k d = ap (λ (list : List Entry). get_or list k d) is ∙ get_or_append_left less (option_to_list taken) d k below in
    subst (λ (entry : Entry). IsText entry.1.rest.now) same (all k d within)

pub taken_text : (entries less : List Entry) (taken : Option Entry) → entries ≡ less ++ option_to_list taken → AreTexts entries → IfSome taken (λ entry. IsText entry.1.rest.now)
taken_text entries less None is all = tt
taken_text entries less (Some entry) is all =
    let sum : length (less ++ entry ∷ []) ≡ length less + length (entry ∷ []) = length-append less (entry ∷ []) in
    let within : length less < length entries = omega (arith, ap (λ (list : List Entry). length list) is) in
    let same : get_or entries (length less) entry ≡ entry = ap (λ (list : List Entry). get_or list (length less) entry) is ∙ get_or-append_seam less entry [] entry in
    subst (λ (one : Entry). IsText one.1.rest.now) same (all (length less) entry within)
