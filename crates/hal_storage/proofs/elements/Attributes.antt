-- What attributes say behind others.
use Rattle.std.proofs.Common.{◌≡◌, ◌∙◌, List, [], ◌∷◌, ◌++◌, Option, Some, None, refl, sym, ap}
use Rattle.std.specs.Option.{option_or}
use Rattle.std.proofs.lemmas.List.Folds.{list_any-append}
use Rattle.hal_grammar.specs.Declarations.{Mark, Attribute, Declared}
use Rattle.hal_scope.specs.Sorts.{type_in, type_among, type_of}
use Rattle.hal_kinds.specs.Attributes.{is_mark, has_mark, is_marked, sizes_in, sizes_among, sizes_of, initial_in, initial_among, initial_of, constant_in, constant_among, constant_of}

pub or_or : {X : Type 0} (x y z : Option X) → option_or (option_or x y) z ≡ option_or x (option_or y z)
or_or None y z = refl
or_or (Some v) y z = refl

pub mark_behind : (mark : Mark) (common : List Attribute) (item : Declared) → has_mark mark (item.attributes ++ common) ≡ is_marked mark common item
mark_behind mark common item = list_any-append (is_mark mark) item.attributes common

types : (xs ys : List Attribute) → type_among (xs ++ ys) ≡ option_or (type_among xs) (type_among ys)
unfolding type_among
types [] ys = refl
types (x ∷ xs) ys = ap (option_or (type_in x)) (types xs ys) ∙ sym (or_or (type_in x) (type_among xs) (type_among ys))

pub type_behind : (common : List Attribute) (item : Declared) → type_among (item.attributes ++ common) ≡ type_of common item
type_behind common item = types item.attributes common

sizes : (xs ys : List Attribute) → sizes_among (xs ++ ys) ≡ option_or (sizes_among xs) (sizes_among ys)
unfolding sizes_among
sizes [] ys = refl
sizes (x ∷ xs) ys = ap (option_or (sizes_in x)) (sizes xs ys) ∙ sym (or_or (sizes_in x) (sizes_among xs) (sizes_among ys))

pub sizes_behind : (common : List Attribute) (item : Declared) → sizes_among (item.attributes ++ common) ≡ sizes_of common item
sizes_behind common item = sizes item.attributes common

initials : (xs ys : List Attribute) → initial_among (xs ++ ys) ≡ option_or (initial_among xs) (initial_among ys)
unfolding initial_among
initials [] ys = refl
initials (x ∷ xs) ys = ap (option_or (initial_in x)) (initials xs ys) ∙ sym (or_or (initial_in x) (initial_among xs) (initial_among ys))

pub initial_behind : (common : List Attribute) (item : Declared) → initial_among (item.attributes ++ common) ≡ initial_of common item
initial_behind common item = initials item.attributes common

constants : (xs ys : List Attribute) → constant_among (xs ++ ys) ≡ option_or (constant_among xs) (constant_among ys)
unfolding constant_among
constants [] ys = refl
constants (x ∷ xs) ys = ap (option_or (constant_in x)) (constants xs ys) ∙ sym (or_or (constant_in x) (constant_among xs) (constant_among ys))

pub constant_behind : (common : List Attribute) (item : Declared) → constant_among (item.attributes ++ common) ≡ constant_of common item
constant_behind common item = constants item.attributes common
