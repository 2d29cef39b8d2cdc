-- Rules of expressions that have to be constant: 704, 710 of sizes and of the number of dimensions, 718 of channels.
use Rattle.std.specs.Prelude.{ℕ, nat_le, ℤ, pos, Bool, true, false, List, [], ◌∷◌, Option, Some, None, if◌then◌else◌}
use Rattle.std.specs.Option.{is_some, option_or}
use Rattle.hal_base.specs.declared.refusal.Place.{Place}
use Rattle.hal_grammar.specs.Expressions.{Expression, place_of}
use Rattle.hal_grammar.specs.Declarations.{Initial, NameTimes, Attribute, Dimensions}
use Rattle.hal_phrases.specs.declared.role.Role.{Role}
use Rattle.hal_phrases.specs.declared.role.Role.TheVariants as role
use Rattle.hal_phrases.specs.Phrases.{Node, Phrase, OfDeclare, OfExpression, OfInitial, OfItem, OfPart}
use Rattle.hal_scope.specs.Uses.{unless}
use Rattle.hal_kinds.specs.Attributes.{count_of}
use Rattle.hal_values.specs.declared.value.Value.{Value}
use Rattle.hal_values.specs.declared.value.Value.TheVariants as value
use Rattle.hal_constants.specs.declared.constant.Constant.{Constant}
use Rattle.hal_constants.specs.declared.constant.Constant.TheVariants as constant
use Rattle.hal_constants.specs.Constants.{constant_of}
use Rattle.hal_constants.specs.Known.{Known, signed_name, size_of_integer}

-- what is no constant, or an error
unfoldable pub unsettled : Place → Constant → Option (ℕ × Place)
unsettled place constant.Open = Some (704, place)
unsettled place constant.Failed = Some (704, place)
unsettled place other = None

-- an integer that is no size within a limit; of what is no integer another rule speaks
unfoldable pub missized_value : ℕ → Place → Value → Option (ℕ × Place)
missized_value limit place (value.Int n) = if is_some (size_of_integer limit n) then None else Some (710, place)
missized_value limit place other = None

-- a size within a limit
unfoldable pub missized : ℕ → Place → Constant → Option (ℕ × Place)
missized limit place (constant.Worth v) = missized_value limit place v
missized limit place other = unsettled place other

-- whether an integer is a channel
unfoldable pub is_channel : ℤ → Bool
is_channel (pos n) = nat_le n 31
is_channel other = false

unfoldable pub mischannelled_value : Place → Value → Option (ℕ × Place)
mischannelled_value place (value.Int n) = if is_channel n then None else Some (718, place)
mischannelled_value place other = Some (718, place)

-- a channel
unfoldable pub mischannelled : Place → Constant → Option (ℕ × Place)
mischannelled place (constant.Worth v) = mischannelled_value place v
mischannelled place constant.Unfit = None
mischannelled place other = Some (718, place)

-- an expression of this role
unfoldable pub inconstant_as : List Phrase → Known → Phrase → Role → Expression → Option (ℕ × Place)
inconstant_as ps vs p role.Dimension tree = missized 32767 (place_of tree) (constant_of ps vs p tree)
inconstant_as ps vs p role.Copies tree = missized 32767 (place_of tree) (constant_of ps vs p tree)
inconstant_as ps vs p role.BitLength tree = missized 32 (place_of tree) (constant_of ps vs p tree)
inconstant_as ps vs p role.TextLength tree = missized 255 (place_of tree) (constant_of ps vs p tree)
inconstant_as ps vs p role.LockGroup tree = unsettled (place_of tree) (constant_of ps vs p tree)
inconstant_as ps vs p role.Initial tree = unsettled (place_of tree) (constant_of ps vs p tree)
inconstant_as ps vs p role.Channel tree = mischannelled (place_of tree) (constant_of ps vs p tree)
inconstant_as ps vs p other tree = None

-- a name that is repeated among initial values
unfoldable pub inconstant_initial : List Phrase → Known → Phrase → Initial → Option (ℕ × Place)
inconstant_initial ps vs p (NameTimes place count sign name) = unsettled name.place (signed_name ps vs p sign name)
inconstant_initial ps vs p other = None

-- rules 704, 710 of sizes and 718
unfoldable pub inconstant : List Phrase → Known → Phrase → Node → Option (ℕ × Place)
inconstant ps vs p (OfExpression r tree) = inconstant_as ps vs p r tree
inconstant ps vs p (OfInitial initial) = inconstant_initial ps vs p initial
inconstant ps vs p other = None

-- an array of more than three dimensions
unfoldable pub misdimensioned_by : Attribute → Option Place
misdimensioned_by (Dimensions place sizes) = unless (nat_le (count_of sizes) 3) place
misdimensioned_by other = None

-- the first one among attributes
unfoldable pub misdimensioned_among : List Attribute → Option Place
misdimensioned_among [] = None
misdimensioned_among (attribute ∷ attributes) = option_or (misdimensioned_by attribute) (misdimensioned_among attributes)

-- rule 710 of the number of dimensions
unfoldable pub misdimensioned : Node → Option Place
misdimensioned (OfDeclare common) = misdimensioned_among common
misdimensioned (OfItem common item) = misdimensioned_among item.attributes
misdimensioned (OfPart bottom part) = misdimensioned_among part.attributes
misdimensioned other = None
