-- The phrases of a declaration, and that there is one of each thing that it declares.
use Rattle.std.proofs.Common.{Bool, List, [], ◌∷◌, ◌++◌, length, Option, None, Some, refl, map}
use Rattle.hal_grammar.specs.Expressions.{Expression}
use Rattle.hal_grammar.specs.Declarations.{Kind, IntegerKind, BooleanKind, EventKind, BitKind, CharacterKind, StructureKind, Initial, Value, LiteralTimes, NameTimes, ListTimes, Initials, NoInitials, MoreInitials, Attribute, Dimensions, Typed, Marked, LockGroup, LockAny, InitialValues, ConstantValues, Declared, Part, Declaration, Declare, Structure}
use Rattle.hal_phrases.specs.declared.around.Around.{Around}
use Rattle.hal_phrases.specs.declared.role.Role.{Role}
use Rattle.hal_phrases.specs.Phrases.{Phrase, add, gathered_each, OfDeclare, OfItem, OfStructure, OfInitial, OfInitialName, OfPart, OfStructureType}
use Rattle.hal_phrases.specs.GatheredExpressions.{below}
use Rattle.hal_phrases.specs.GatheredDeclarations.{OpenPart, still_open, gathered_optional, gathered_kind, gathered_initial, gathered_initials, gathered_attribute, gathered_item, gathered_part, gathered_parts, gathered_declaration}
use Rattle.hal_names.specs.Keys.{declared_at}
use Rattle.hal_templates.specs.Entries.{entries, entries_of}
use Rattle.hal_templates.proofs.Followed.{AreThere, Adds, nothing, then_, one, each, stays, all_stay, is_there, there_both}
use Rattle.hal_templates.proofs.FollowedExpressions.{expression_adds, expressions_adds}

pub optional_adds : (d : List Phrase) (a : Around) (r : Role) (o : Option Expression) → Adds d (gathered_optional d a r o)
optional_adds d a r None = nothing d
optional_adds d a r (Some t) = expression_adds d a r t

pub kind_adds : (d : List Phrase) (a : Around) (k : Kind) → Adds d (gathered_kind d a k)
unfolding gathered_kind declared_at
kind_adds d a (IntegerKind p) = nothing d
kind_adds d a (BooleanKind p) = nothing d
kind_adds d a (EventKind p) = nothing d
kind_adds d a (BitKind p size) = expression_adds d a _ size
kind_adds d a (CharacterKind p size) = expression_adds d a _ size
kind_adds d a (StructureKind p template copies) = then_ (one d a (OfStructureType p template) (refl, refl)) (optional_adds _ a _ copies)

mutual
  unfolding gathered_initial gathered_initials declared_at

  initial_adds : (d : List Phrase) (a : Around) (i : Initial) → Adds d (gathered_initial d a i)
  initial_adds d a (Value value) = then_ (one d a (OfInitial (Value value)) (refl, refl)) (expression_adds _ (below d a) _ value)
  initial_adds d a (LiteralTimes p count sign at literal) = one d a (OfInitial (LiteralTimes p count sign at literal)) (refl, refl)
  initial_adds d a (NameTimes p count sign name) = then_ (one d a (OfInitial (NameTimes p count sign name)) (refl, refl)) (one _ (below d a) (OfInitialName name) (refl, refl))
  initial_adds d a (ListTimes p count values) = then_ (one d a (OfInitial (ListTimes p count values)) (refl, refl)) (initials_adds _ (below d a) values)

  initials_adds : (d : List Phrase) (a : Around) (is : Initials) → Adds d (gathered_initials d a is)
  initials_adds d a NoInitials = nothing d
  initials_adds d a (MoreInitials first others) = then_ (initial_adds d a first) (initials_adds _ a others)

attribute_adds : (a : Around) (d : List Phrase) (x : Attribute) → Adds d (gathered_attribute a d x)
unfolding gathered_attribute declared_at
attribute_adds a d (Dimensions p sizes) = expressions_adds d a _ sizes
attribute_adds a d (Typed kind) = kind_adds d a kind
attribute_adds a d (Marked p mark) = nothing d
attribute_adds a d (LockGroup p group) = expression_adds d a _ group
attribute_adds a d (LockAny p) = nothing d
attribute_adds a d (InitialValues p values) = initials_adds d a values
attribute_adds a d (ConstantValues p values) = initials_adds d a values

attributes_adds : (a : Around) (d : List Phrase) (xs : List Attribute) → Adds d (gathered_each (gathered_attribute a) d xs)
attributes_adds a d xs = each (gathered_attribute a) (attribute_adds a) d xs

item_adds : (a : Around) (common : List Attribute) (d : List Phrase) (item : Declared) → Adds d (gathered_item a common d item)
unfolding gathered_item declared_at
item_adds a common d item = then_ (one d a (OfItem common item) (refl, refl)) (attributes_adds (below d a) _ item.attributes)

part_adds : (a : Around) (bottom : Bool) (d : List Phrase) (part : Part) → Adds d (gathered_part a bottom d part)
unfolding gathered_part declared_at
part_adds a bottom d part = then_ (one d a (OfPart bottom part) (refl, refl)) (attributes_adds (below d a) _ part.attributes)

parts_adds : (a : Around) (unclosed : List OpenPart) (d : List Phrase) (parts : List Part) → Adds d (gathered_parts a unclosed d parts)
unfolding gathered_parts declared_at
parts_adds a unclosed d [] = nothing d
parts_adds a unclosed d (x ∷ xs) = then_ (part_adds _ _ d x) (parts_adds a (still_open x.level unclosed ++ ((x.level, length d) ∷ [])) _ xs)

pub declaration_adds : (a : Around) (d : List Phrase) (x : Declaration) → Adds d (gathered_declaration a d x)
unfolding gathered_declaration declared_at
declaration_adds a d (Declare p common items) =
    then_ (one d a (OfDeclare common) (refl, refl)) (then_ (attributes_adds (below d a) _ common) (each (gathered_item (below d a) common) (item_adds (below d a) common) _ items))
declaration_adds a d (Structure p name parts) = then_ (one d a (OfStructure name parts) (refl, refl)) (parts_adds (below d a) [] _ parts)

-- the phrases of what declarations declare
items_there : (a : Around) (common : List Attribute) (d : List Phrase) (items : List Declared) → AreThere (gathered_each (gathered_item a common) d items) a.home (map (OfItem common) items)
unfolding gathered_item
items_there a common d [] = tt
items_there a common d (x ∷ xs) = (
  stays (then_ (attributes_adds (below d a) (add d a (OfItem common x)) x.attributes) (each (gathered_item a common) (item_adds a common) (gathered_item a common d x) xs)) (is_there d a (OfItem common x)),
  items_there a common (gathered_item a common d x) xs,
)

one_there : (a : Around) (d : List Phrase) (x : Declaration) → AreThere (gathered_declaration a d x) a.home (entries_of x)
unfolding gathered_declaration entries_of
one_there a d (Declare p common items) = items_there (below d a) common (gathered_each (gathered_attribute (below d a)) (add d a (OfDeclare common)) common) items
one_there a d (Structure p name parts) = (stays (parts_adds (below d a) [] (add d a (OfStructure name parts)) parts) (is_there d a (OfStructure name parts)), tt)

pub declared_there : (a : Around) (d : List Phrase) (xs : List Declaration) → AreThere (gathered_each (gathered_declaration a) d xs) a.home (entries xs)
unfolding entries
declared_there a d [] = tt
declared_there a d (x ∷ xs) =
    there_both (gathered_each (gathered_declaration a) (gathered_declaration a d x) xs) a.home (entries_of x) (entries xs)
    (all_stay a.home (entries_of x) (each (gathered_declaration a) (declaration_adds a) (gathered_declaration a d x) xs) (one_there a d x)) (declared_there a (gathered_declaration a d x) xs)
