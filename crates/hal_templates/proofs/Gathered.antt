-- What is gathered one by one is the plain list.
use Rattle.std.proofs.Common.{◌≡◌, ◌∙◌, ℕ, ◌≤◌, length, List, [], ◌∷◌, ◌++◌, map, drop, filter, flat_map, if◌then◌else◌, append-nil, append_assoc, refl, sym, ap}
use Rattle.std.proofs.lemmas.List.{drop_all}
use Rattle.hal_grammar.specs.Declarations.{Attribute, Declared, Declaration, Declare, Structure}
use Rattle.hal_phrases.specs.Phrases.{Node, Phrase, OfItem, OfStructure}
use Rattle.hal_templates.specs.Entries.{entries, entries_of, with_items, with_declaration, with_declarations}
use Rattle.hal_templates.specs.Own.{is_shown, called_entries, shown_among}

with_each : (common : List Attribute) (d : List Node) (items : List Declared) → with_items common d items ≡ d ++ map (OfItem common) items
unfolding with_items
with_each common d [] = sym (append-nil d)
with_each common d (x ∷ xs) = with_each common (d ++ (OfItem common x ∷ [])) xs ∙ append_assoc d (OfItem common x ∷ []) (map (OfItem common) xs)

with_one : (d : List Node) (declaration : Declaration) → with_declaration d declaration ≡ d ++ entries_of declaration
unfolding with_declaration entries_of
with_one d (Declare place common items) = with_each common d items
with_one d (Structure place name parts) = refl

with_all : (d : List Node) (declarations : List Declaration) → with_declarations d declarations ≡ d ++ flat_map entries_of declarations
unfolding with_declarations
with_all d [] = sym (append-nil d)
with_all d (x ∷ xs) =
    with_all (with_declaration d x) xs ∙ ap (λ (e : List Node). e ++ flat_map entries_of xs) (with_one d x) ∙ append_assoc d (entries_of x) (flat_map entries_of xs)

all_entries : (declarations : List Declaration) → with_declarations [] declarations ≡ entries declarations
unfolding entries
all_entries declarations = with_all [] declarations

-- once none is left
pub all_gathered : {X : Type 0} (f : X → Declaration) (d : List Node) (xs : List X) (k : ℕ) → length xs ≤ k → with_declarations d (map f (drop k xs)) ≡ with_declarations [] (map f xs) → d ≡ entries (map f xs)
unfolding with_declarations
all_gathered f d xs k past same = sym (ap (λ (ys : List _). with_declarations d (map f ys)) (drop_all k xs past)) ∙ same ∙ all_entries (map f xs)

some_shown : (ps : List Phrase) (u : ℕ) (all nodes : List Node) → shown_among ps u all nodes ≡ filter (is_shown ps u all) nodes
unfolding shown_among
some_shown ps u all [] = refl
some_shown ps u all (x ∷ xs) = ap (λ (ns : List Node). if is_shown ps u all x then x ∷ ns else ns) (some_shown ps u all xs)

pub all_shown : (ps : List Phrase) (u : ℕ) (declarations : List Declaration) → shown_among ps u (entries declarations) (entries declarations) ≡ called_entries ps u declarations
all_shown ps u declarations = some_shown ps u (entries declarations) (entries declarations)
