use Rattle.std.proofs.Common.{◌≡◌, [], rules}
use Rattle.hal_base.specs.declared.refusal.Place.{Place}
use Rattle.hal_words.specs.Replacing.{text_items}
use Rattle.hal_lexer.proofs.Cutting.{go_on_end}
use Rattle.hal_lexer.proofs.text.read_parts.Goals as goal

pub returns : goal.returns
returns c =
    let ends : (at : Place) → text_items at c.word.rest.now ≡ [] = search rules in
    let same : c.add_part.new.parts.items ≡ c.word.parts.items = search rules in
    record { parts = go_on_end c.args.text.now c.word.rest.now c.args.parts.now.items c.word.parts.items c.add_part.new.parts.items c.requires.none c.word.invariant.on ends same }
