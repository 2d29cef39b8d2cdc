use Rattle.std.proofs.Common.{◌≡◌, ◌<◌, ◌∷◌, ◌++◌, length, Some, rules}
use Rattle.std.specs.Option.{option_to_list}
use Rattle.hal_base.specs.declared.refusal.Place.{Place}
use Rattle.hal_words.specs.Pieces.{Is}
use Rattle.hal_words.specs.Lines.{item}
use Rattle.hal_words.specs.Replacing.{text_items}
use Rattle.hal_lexer.specs.Compiled.{word_children}
use Rattle.hal_lexer.proofs.ReadingOn.{goes_on_word}
use Rattle.hal_lexer.proofs.compiling.read_known.Goals as goal

pub returns-in_ok-add-in-Ok-Some-clause-on : goal.returns-in_ok-add-in-Ok-Some-clause-on
returns-in_ok-add-in-Ok-Some-clause-on c =
    let front : (at : Place) → text_items at c.args.text.now ≡ item (Is c.in-Ok-Some.one) at ∷ text_items at c.in-Ok-Some.behind.now = rw c.in-Ok-Some.field-0-is at c.in-Ok-Some.ensures.found in
    let shorter : length c.in-Ok-Some.behind.now < length c.args.text.now = rw c.in-Ok-Some.field-0-is at c.in-Ok-Some.ensures.shorter in
    let found : word_children c.args.compiled.now c.in-Ok-Some.one ≡ Some (option_to_list c.in-Some.child) = search rules in
    let added : c.add.new.children.items ≡ c.args.children.now.items ++ option_to_list c.in-Some.child = search rules in
    goes_on_word c.args.compiled.now c.args.text.now c.in-Ok-Some.behind.now c.args.children.now.items (option_to_list c.in-Some.child) c.add.new.children.items c.in-Ok-Some.one front found added shorter
