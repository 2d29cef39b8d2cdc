-- The words of a text.
use Rattle.std.specs.Prelude.{◌≡◌, ℕ, List, ◌++◌, map}
use Rattle.hal_base.specs.declared.refusal.Place.{Place}
use Rattle.hal_words.specs.declared.word.Word.{Word}
use Rattle.hal_words.specs.Pieces.{Is}
use Rattle.hal_words.specs.Lines.{Item, item}
use Rattle.hal_words.specs.Replacing.{text_items}

-- a word at a place
abbrev pub part_item : Place → Word → Item
part_item place one = item (Is one) place

-- the parts are the words of the text
abbrev pub AreParts : List ℕ → List Word → Type 0
AreParts text parts = (place : Place) → text_items place text ≡ map (part_item place) parts

-- a text is cut on: where the words of the rest stand behind the later parts, those of the text stand behind the earlier ones
abbrev pub GoOn : List ℕ → List Word → List ℕ → List Word → Type 0
GoOn text before rest parts = (more : List Word) → AreParts rest more → (whole : List Word) × (parts ++ more ≡ before ++ whole) × AreParts text whole
