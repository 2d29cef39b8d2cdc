use Rattle.std.proofs.Common.{◌≡◌, ◌∙◌, rules}
use Rattle.indexmap.specs.IndexMap.{insert_entry}
use Rattle.indexmap.proofs.CallerLemmas.{insert_entry-new}
use Rattle.hal_words.specs.contracts.name.NamePartialEq.TheImpl as derived
use Rattle.hal_lexer.proofs.Among.{not_open, opened, opened_texts}
use Rattle.hal_lexer.proofs.frames.Frames.push.Goals as goal

pub invariant_of-self-2 : goal.invariant_of-self-2
invariant_of-self-2 c =
    let map = c.self.inside.«open» in
    let inserted : c.insert.new.self.entries ≡ insert_entry (derived.eq-value).it map.entries c.args.name c.args.part = search rules in
    let added = inserted ∙ insert_entry-new (derived.eq-value).it map c.args.name c.args.part (not_open map.entries c.args.self.now c.args.name c.self.view_is c.requires.closed) in
    opened_texts map.entries c.insert.new.self.entries (c.args.name, c.args.part) added c.self.invariant c.requires.text

pub returns : goal.returns
returns c =
    let map = c.self.inside.«open» in
    let inserted : c.insert.new.self.entries ≡ insert_entry (derived.eq-value).it map.entries c.args.name c.args.part = search rules in
    let added = inserted ∙ insert_entry-new (derived.eq-value).it map c.args.name c.args.part (not_open map.entries c.args.self.now c.args.name c.self.view_is c.requires.closed) in
    opened map.entries c.insert.new.self.entries (c.args.name, c.args.part) c.args.self.now added c.self.view_is
