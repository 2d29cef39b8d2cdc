-- What each view of the program is.
use Rattle.std.specs.Prelude.{map}
use Rattle.std.specs.Option.{option_map}
use Rattle.hal_views.specs.Views.{Choice, OnePlace, AllPlaces, Places, View, view}
use Rattle.hal_limits.specs.declared.view.Choice as rust-choice
use Rattle.hal_limits.specs.declared.view.Choice.TheVariants as choice
use Rattle.hal_limits.specs.declared.view.View as rust-view

abbrev pub seen_choice : rust-choice.Choice → Choice
seen_choice choice.OnePlace = OnePlace
seen_choice choice.AllPlaces = AllPlaces
seen_choice (choice.Places first last) = Places first last

abbrev pub seen_view : rust-view.View → View
seen_view v = view v.declared v.path.items (option_map seen_choice v.copies) (map seen_choice v.places.items)
