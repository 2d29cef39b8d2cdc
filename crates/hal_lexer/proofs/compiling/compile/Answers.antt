use Rattle.std.proofs.Common.{◌≡◌, ◌∷◌, [], rules}
use Rattle.std.proofs.lemmas.Result.{err_from_is_err_and}
use Rattle.hal_words.specs.declared.word.Word.TheVariants as word
use Rattle.hal_words.specs.Pieces.{Is}
use Rattle.hal_words.specs.Lines.{item}
use Rattle.hal_words.specs.Replacing.{replaced_word}
use Rattle.hal_lexer.specs.Opened.{begun}
use Rattle.hal_lexer.proofs.Steps.{start_opened, start_seen, start_leads}
use Rattle.hal_lexer.proofs.compiling.compile.Goals as goal

pub word-init : goal.word-init
word-init c =
    let started : c.open.new.frames ≡ begun c.args.name c.args.text.now ∷ [] = search rules in
    record {
      compiled = c.requires.compiled;
      opened = start_opened c.args.definitions.now c.args.compiled.now c.open.new.frames c.args.name c.args.text.now started c.requires.defined c.requires.new;
      seen = start_seen c.args.compiled.now c.open.new.frames c.args.name c.args.text.now started;
      leads = start_leads c.args.definitions.now c.args.place c.open.new.frames c.args.name c.args.text.now started c.requires.defined;
    }

pub word-preserved : goal.word-preserved
word-preserved c = record {
  compiled = c.in_ok-step.ensures.compiled;
  opened = c.in_ok-step.ensures.opened;
  seen = c.in_ok-step.ensures.seen c.args.name c.word.invariant.seen;
  leads = c.in_ok-step.ensures.leads (replaced_word c.args.definitions.now (item (Is (word.Name c.args.name)) c.args.place)) c.word.invariant.leads;
}

pub returns-in_err-step-clause-broken : goal.returns-in_err-step-clause-broken
returns-in_err-step-clause-broken c =
    let p = err_from_is_err_and c.from_residual-in_err-step.result c.from_residual-in_err-step.ensures.1 in
    rw (p.1, p.2) (c.in_err-step.ensures.broken (replaced_word c.args.definitions.now (item (Is (word.Name c.args.name)) c.args.place)) c.word.invariant.leads)
