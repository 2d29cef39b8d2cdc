use Rattle.std.proofs.Common.{◌≡◌, ◌<◌, [], ◌∷◌, ◌++◌, length, Some, None, refl, rules, arith}
use Rattle.std.proofs.lemmas.Result.{IfOk-weaker, IfErr-weaker, err_from_is_err_and}
use Rattle.hal_base.specs.declared.refusal.Place.{Place}
use Rattle.hal_words.specs.declared.word.Word.TheVariants as word
use Rattle.hal_words.specs.Pieces.{Is}
use Rattle.hal_words.specs.Lines.{item}
use Rattle.hal_words.specs.Replacing.{text_items}
use Rattle.hal_words.specs.Reserved.{look_up}
use Rattle.hal_lexer.specs.Compiled.{number_of}
use Rattle.hal_lexer.specs.Opened.{opened, opened_of}
use Rattle.hal_lexer.proofs.BothOk.{both_ok}
use Rattle.hal_lexer.proofs.ReadingOn.{on_opened, on_leads, on_less}
use Rattle.hal_lexer.proofs.Steps.{closed_compiled, closed_opened, entered_opened, entered_leads, entered_smaller, entered_told, passed_opened, passed_leads, passed_smaller, step_spoilt}
use Rattle.hal_lexer.proofs.compiling.step.Goals as goal

pub returns-in_err-rest-clause-broken : goal.returns-in_err-rest-clause-broken
returns-in_err-rest-clause-broken c =
    let p = err_from_is_err_and c.from_residual.result c.from_residual.ensures.1 in
    let frame = c.in-Some.name-1-own.given.0.0 in
    let whole : c.args.frames.now ≡ opened_of frame ∷ c.pop.new.self = search rules in
    rw (p.1, p.2) (step_spoilt c.args.definitions.now c.args.place c.args.frames.now (opened_of frame) c.pop.new.self _ whole c.in_err-rest.ensures.broken)

pub returns-in-Err-clause-broken : goal.returns-in-Err-clause-broken
returns-in-Err-clause-broken c =
    let frame = c.in-Some.name-1-own.given.0.0 in
    let whole : c.args.frames.now ≡ opened_of frame ∷ c.pop.new.self = search rules in
    let on = c.in_ok-rest.ensures.on in
    let rest = c.in_ok-rest.rest.now in
    let children = c.read_on.new.children.items in
    let top = opened frame.0 rest children in
    (λ all leads. step_spoilt c.args.definitions.now c.args.place (top ∷ c.pop.new.self) top c.pop.new.self c.in-Err.fault refl c.in-Err.ensures.broken all (on_leads c.args.definitions.now c.args.place c.args.compiled.now c.args.frames.now frame.0 frame.1.rest.now rest frame.1.children.items children c.pop.new.self whole on all leads))

pub returns-in-Ok-None-clause-compiled : goal.returns-in-Ok-None-clause-compiled
returns-in-Ok-None-clause-compiled c =
    let frame = c.in-Some.name-1-own.given.0.0 in
    let whole : c.args.frames.now ≡ opened_of frame ∷ c.pop.new.self = search rules in
    let on = c.in_ok-rest.ensures.on in
    let rest = c.in_ok-rest.rest.now in
    let children = c.read_on.new.children.items in
    let top = opened frame.0 rest children in
    let opened' = on_opened c.args.definitions.now c.args.compiled.now c.args.frames.now frame.0 frame.1.rest.now rest frame.1.children.items children c.pop.new.self whole on c.requires.opened in
    let none : (at : Place) → text_items at rest ≡ [] = rw c.in-Ok-None.field-0-is at c.in-Ok-None.ensures.none in
    IfOk-weaker c.close.result _ _
    (λ _ closed. rw closed (closed_compiled c.args.definitions.now c.args.compiled.now (top ∷ c.pop.new.self) top c.pop.new.self refl c.requires.compiled opened' none))
    c.close.ensures.closed

pub returns-in-Ok-None-clause-opened : goal.returns-in-Ok-None-clause-opened
returns-in-Ok-None-clause-opened c =
    let frame = c.in-Some.name-1-own.given.0.0 in
    let whole : c.args.frames.now ≡ opened_of frame ∷ c.pop.new.self = search rules in
    let on = c.in_ok-rest.ensures.on in
    let rest = c.in_ok-rest.rest.now in
    let children = c.read_on.new.children.items in
    let top = opened frame.0 rest children in
    let opened' = on_opened c.args.definitions.now c.args.compiled.now c.args.frames.now frame.0 frame.1.rest.now rest frame.1.children.items children c.pop.new.self whole on c.requires.opened in
    IfOk-weaker c.close.result _ _
    (λ _ closed. rw closed (closed_opened c.args.definitions.now c.args.compiled.now (top ∷ c.pop.new.self) top c.pop.new.self refl opened'))
    c.close.ensures.closed

pub returns-in-Some-uncompiled-clause-opened : goal.returns-in-Some-uncompiled-clause-opened
returns-in-Some-uncompiled-clause-opened c =
    let inner = c.in-Some-uncompiled.inner-1-own.given.0.0 in
    let frame = c.in-Some.name-1-own.given.0.0 in
    let whole : c.args.frames.now ≡ opened_of frame ∷ c.pop.new.self = search rules in
    let on = c.in_ok-rest.ensures.on in
    let rest = c.in_ok-rest.rest.now in
    let children = c.read_on.new.children.items in
    let top = opened frame.0 rest children in
    let opened' = on_opened c.args.definitions.now c.args.compiled.now c.args.frames.now frame.0 frame.1.rest.now rest frame.1.children.items children c.pop.new.self whole on c.requires.opened in
    let new : number_of c.args.compiled.now inner.0 ≡ None = search rules in
    let defined : look_up c.args.definitions.now inner.0 ≡ Some inner.1.now = search rules in
    both_ok c.enter.result _ _ _
    (λ _ other entered. entered_opened c.args.definitions.now c.args.compiled.now (top ∷ c.pop.new.self) c.enter.new.frames inner.0 inner.1.now entered opened' defined new other)
    c.enter.ensures.other c.enter.ensures.opened

pub returns-in-Some-uncompiled-clause-leads : goal.returns-in-Some-uncompiled-clause-leads
returns-in-Some-uncompiled-clause-leads c =
    let inner = c.in-Some-uncompiled.inner-1-own.given.0.0 in
    let frame = c.in-Some.name-1-own.given.0.0 in
    let whole : c.args.frames.now ≡ opened_of frame ∷ c.pop.new.self = search rules in
    let on = c.in_ok-rest.ensures.on in
    let rest = c.in_ok-rest.rest.now in
    let children = c.read_on.new.children.items in
    let top = opened frame.0 rest children in
    let opened' = on_opened c.args.definitions.now c.args.compiled.now c.args.frames.now frame.0 frame.1.rest.now rest frame.1.children.items children c.pop.new.self whole on c.requires.opened in
    let front : text_items c.args.place rest ≡ item (Is c.in-Ok-Some.one) c.args.place ∷ text_items c.args.place c.in-Ok-Some.behind.now = (rw c.in-Ok-Some.field-0-is at c.in-Ok-Some.ensures.found) c.args.place in
    let name : c.in-Ok-Some.one ≡ word.Name inner.0 = search rules in
    let defined : look_up c.args.definitions.now inner.0 ≡ Some inner.1.now = search rules in
    both_ok c.enter.result _ _ _
    (λ _ other entered. rw entered (λ all leads. entered_leads c.args.definitions.now c.args.place c.args.compiled.now (top ∷ c.pop.new.self) top c.pop.new.self c.in-Ok-Some.one inner.0 inner.1.now c.in-Ok-Some.behind.now refl opened' front name other defined all (on_leads c.args.definitions.now c.args.place c.args.compiled.now c.args.frames.now frame.0 frame.1.rest.now rest frame.1.children.items children c.pop.new.self whole on all leads)))
    c.enter.ensures.other c.enter.ensures.opened

pub returns-in-Some-uncompiled-clause-smaller : goal.returns-in-Some-uncompiled-clause-smaller
returns-in-Some-uncompiled-clause-smaller c =
    let inner = c.in-Some-uncompiled.inner-1-own.given.0.0 in
    let frame = c.in-Some.name-1-own.given.0.0 in
    let whole : c.args.frames.now ≡ opened_of frame ∷ c.pop.new.self = search rules in
    let on = c.in_ok-rest.ensures.on in
    let rest = c.in_ok-rest.rest.now in
    let children = c.read_on.new.children.items in
    let top = opened frame.0 rest children in
    let new : number_of c.args.compiled.now inner.0 ≡ None = search rules in
    let defined : look_up c.args.definitions.now inner.0 ≡ Some inner.1.now = search rules in
    let less = on_less c.args.definitions.now c.args.compiled.now c.args.frames.now frame.0 frame.1.rest.now rest frame.1.children.items children c.pop.new.self whole on in
    both_ok c.enter.result _ _ _
    (λ _ other entered. let smaller = entered_smaller c.args.definitions.now c.args.compiled.now (top ∷ c.pop.new.self) (top ∷ c.pop.new.self) c.enter.new.frames inner.0 inner.1.now refl entered defined new other in omega (arith, smaller, less))
    c.enter.ensures.other c.enter.ensures.opened

pub returns-in-Some-uncompiled-clause-broken : goal.returns-in-Some-uncompiled-clause-broken
returns-in-Some-uncompiled-clause-broken c =
    let inner = c.in-Some-uncompiled.inner-1-own.given.0.0 in
    let frame = c.in-Some.name-1-own.given.0.0 in
    let whole : c.args.frames.now ≡ opened_of frame ∷ c.pop.new.self = search rules in
    let on = c.in_ok-rest.ensures.on in
    let rest = c.in_ok-rest.rest.now in
    let children = c.read_on.new.children.items in
    let top = opened frame.0 rest children in
    let front : text_items c.args.place rest ≡ item (Is c.in-Ok-Some.one) c.args.place ∷ text_items c.args.place c.in-Ok-Some.behind.now = (rw c.in-Ok-Some.field-0-is at c.in-Ok-Some.ensures.found) c.args.place in
    let name : c.in-Ok-Some.one ≡ word.Name inner.0 = search rules in
    IfErr-weaker c.enter.result _ _
    (λ fault told. (λ all leads. entered_told c.args.definitions.now c.args.place (top ∷ c.pop.new.self) top c.pop.new.self c.in-Ok-Some.one inner.0 c.in-Ok-Some.behind.now fault refl front name told all (on_leads c.args.definitions.now c.args.place c.args.compiled.now c.args.frames.now frame.0 frame.1.rest.now rest frame.1.children.items children c.pop.new.self whole on all leads)))
    c.enter.ensures.broken

pub returns-in-None-clause-opened : goal.returns-in-None-clause-opened
returns-in-None-clause-opened c =
    let frame = c.in-Some.name-1-own.given.0.0 in
    let whole : c.args.frames.now ≡ opened_of frame ∷ c.pop.new.self = search rules in
    let on = c.in_ok-rest.ensures.on in
    let rest = c.in_ok-rest.rest.now in
    let children = c.read_on.new.children.items in
    let top = opened frame.0 rest children in
    let opened' = on_opened c.args.definitions.now c.args.compiled.now c.args.frames.now frame.0 frame.1.rest.now rest frame.1.children.items children c.pop.new.self whole on c.requires.opened in
    let front : (at : Place) → text_items at rest ≡ item (Is c.in-Ok-Some.one) at ∷ text_items at c.in-Ok-Some.behind.now = rw c.in-Ok-Some.field-0-is at c.in-Ok-Some.ensures.found in
    both_ok c.pass.result _ _ _
    (λ _ passed stays. rw passed.2 (passed_opened c.args.definitions.now c.args.compiled.now c.pass.new.compiled (top ∷ c.pop.new.self) frame.0 rest c.in-Ok-Some.behind.now children passed.0 c.pop.new.self
    c.in-Ok-Some.one refl stays c.in-None.ensures.none opened' front passed.1))
    c.pass.ensures.passed c.pass.ensures.stays

pub returns-in-None-clause-leads : goal.returns-in-None-clause-leads
returns-in-None-clause-leads c =
    let frame = c.in-Some.name-1-own.given.0.0 in
    let whole : c.args.frames.now ≡ opened_of frame ∷ c.pop.new.self = search rules in
    let on = c.in_ok-rest.ensures.on in
    let rest = c.in_ok-rest.rest.now in
    let children = c.read_on.new.children.items in
    let top = opened frame.0 rest children in
    let front : text_items c.args.place rest ≡ item (Is c.in-Ok-Some.one) c.args.place ∷ text_items c.args.place c.in-Ok-Some.behind.now = (rw c.in-Ok-Some.field-0-is at c.in-Ok-Some.ensures.found) c.args.place in
    IfOk-weaker c.pass.result _ _
    (λ _ passed. rw passed.2 (λ all leads. passed_leads c.args.definitions.now c.args.place (top ∷ c.pop.new.self) frame.0 rest c.in-Ok-Some.behind.now children (children ++ passed.0) c.pop.new.self c.in-Ok-Some.one refl front all (on_leads c.args.definitions.now c.args.place c.args.compiled.now c.args.frames.now frame.0 frame.1.rest.now rest frame.1.children.items children c.pop.new.self whole on all leads)))
    c.pass.ensures.passed

pub returns-in-None-clause-smaller : goal.returns-in-None-clause-smaller
returns-in-None-clause-smaller c =
    let frame = c.in-Some.name-1-own.given.0.0 in
    let whole : c.args.frames.now ≡ opened_of frame ∷ c.pop.new.self = search rules in
    let on = c.in_ok-rest.ensures.on in
    let rest = c.in_ok-rest.rest.now in
    let children = c.read_on.new.children.items in
    let top = opened frame.0 rest children in
    let shorter : length c.in-Ok-Some.behind.now < length rest = rw c.in-Ok-Some.field-0-is at c.in-Ok-Some.ensures.shorter in
    let less = on_less c.args.definitions.now c.args.compiled.now c.args.frames.now frame.0 frame.1.rest.now rest frame.1.children.items children c.pop.new.self whole on in
    both_ok c.pass.result _ _ _
    (λ _ passed stays. rw passed.2 (let smaller = passed_smaller c.args.definitions.now c.args.compiled.now c.pass.new.compiled (top ∷ c.pop.new.self) frame.0 rest c.in-Ok-Some.behind.now children
    (children ++ passed.0) c.pop.new.self c.in-Ok-Some.one refl stays shorter in omega (arith, smaller, less)))
    c.pass.ensures.passed c.pass.ensures.stays
