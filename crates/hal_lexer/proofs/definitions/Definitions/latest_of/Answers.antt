use Rattle.std.proofs.Common.{◌≡◌, map, None, Some, sym, rules, ◌∙◌, ap}
use Rattle.std.specs.Prelude.{slice_get}
use Rattle.std.proofs.lemmas.Option.{slice_get_past, slice_get-get_or}
use Rattle.hal_lexer.specs.Defined.{pair_of}
use Rattle.hal_lexer.proofs.Index.{names_of_index, text_found, no_text}
use Rattle.hal_lexer.proofs.definitions.Definitions.latest_of.Goals as goal

pub returns-in_err-index : goal.returns-in_err-index
returns-in_err-index c =
    let items = c.self.inside.list.items in
    rw c.from_residual.ensures (sym (names_of_index _ (map pair_of items) c.args.self.now c.args.name.now None c.self.invariant c.self.view_is (search rules)))

pub returns-in_err-definition : goal.returns-in_err-definition
returns-in_err-definition c =
    let items = c.self.inside.list.items in
    let names = names_of_index _ (map pair_of items) c.args.self.now c.args.name.now (Some c.in_ok-index.index.now) c.self.invariant c.self.view_is (search rules) in
    let at : slice_get c.deref.result.now c.in_ok-index.index.now ≡ None = slice_get_past c.deref.result.now c.in_ok-index.index.now c.in_err-definition.ensures.lookup.3 in
    rw c.from_residual-in_err-definition.ensures (sym (no_text items c.in_ok-index.index.now _ names (rw c.deref.ensures.value at at)))

pub returns : goal.returns
returns c =
    let items = c.self.inside.list.items in
    let names = names_of_index _ (map pair_of items) c.args.self.now c.args.name.now (Some c.in_ok-index.index.now) c.self.invariant c.self.view_is (search rules) in
    let at : slice_get c.deref.result.now c.in_ok-index.index.now ≡ Some c.in_ok-definition.definition.now =
    slice_get-get_or c.deref.result.now c.in_ok-index.index.now c.in_ok-definition.definition.now c.in_ok-definition.ensures.lookup.3.0 ∙ ap Some (sym c.in_ok-definition.ensures.lookup.1) in
    sym (text_found items c.in_ok-index.index.now c.in_ok-definition.definition.now _ names (rw c.deref.ensures.value at at))
