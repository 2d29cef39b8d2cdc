-- What the code has found, as what a reader gives.
use Rattle.std.specs.Prelude.{List, map, Option, Some, None, Vec}
use Rattle.std.specs.declared.alloc.Global.{Global}
use Rattle.std.specs.Borrow.{Bor}
use Rattle.hal_base.specs.declared.refusal.Place.{Place}
use Rattle.hal_words.specs.declared.word.Token.{Token}
use Rattle.hal_grammar.specs.Words.{Words}
use Rattle.hal_parse_expr.specs.Reading.{Read}

-- the words behind a phrase, as the code lends them
abbrev pub Behind : Type 0
Behind = Bor (List Token)

-- what was found, as what a reader gives
unfoldable pub seen_as : {X Y : Type 0} → (X → Y) → Option (X × Behind) → Read Y
seen_as view None = None
seen_as view (Some f) = Some (view f.0, f.1.now)

-- the same of plain data
unfoldable pub seen : {X : Type 0} → Option (X × Behind) → Read X
seen None = None
seen (Some f) = Some (f.0, f.1.now)

-- the same of two parts
unfoldable pub seen_pair : {X Y U V : Type 0} → (X → U) → (Y → V) → Option (X × Y × Behind) → Read (U × V)
seen_pair view look None = None
seen_pair view look (Some f) = Some ((view f.0, look f.1), f.2.now)

-- a list that was found
unfoldable pub seen_list : {X Y : Type 0} → (X → Y) → Vec X Global × Behind → List Y × Words
seen_list view found = (map view found.0.items, found.1.now)

-- the parts of a list, as what it makes
unfoldable pub seen_as_list : {X Y Z : Type 0} → (X → Y) → (List Y → Z) → Option (Vec X Global × Behind) → Read Z
seen_as_list view make None = None
seen_as_list view make (Some f) = Some (make (map view f.0.items), f.1.now)

-- what was found with its place
unfoldable pub seen_placed : {X Y : Type 0} → (X → Y) → Option (Place × X × Behind) → Read (Place × Y)
seen_placed view None = None
seen_placed view (Some f) = Some ((f.0, view f.1), f.2.now)
