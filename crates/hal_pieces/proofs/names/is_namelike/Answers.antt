use Rattle.std.proofs.Common.{◌≡◌, ◌∙◌, map, true, sym, rules}
use Rattle.hal_words.specs.Letters.{capital, is_letter}
use Rattle.hal_words.specs.Numbers.{begins}
use Rattle.hal_pieces.proofs.NoList.{can_be_name-long}
use Rattle.hal_pieces.proofs.names.is_namelike.Goals as goal

pub returns-in-None : goal.returns-in-None
returns-in-None c =
    let letter : begins is_letter (map capital c.args.run.now) ≡ true = search rules in
    sym (can_be_name-long (map capital c.args.run.now) letter (sym c.short_name.ensures ∙ c.in-None.is))
