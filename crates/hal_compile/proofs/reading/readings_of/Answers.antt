use Rattle.std.proofs.Common.{rules, ◌≤◌, ◌+◌, ◌∷◌, ◌≡◌, ℕ, List, Err, length, map, drop, ap, sym, subst, arith}
use Rattle.std.proofs.lemmas.Result.{err_from_is_err_and}
use Rattle.hal_grammar.specs.Units.{File}
use Rattle.hal_tree.specs.SeenUnits.{seen_file}
use Rattle.hal_compile.specs.Reading.{IsReadIn, TextBreaksBy, seen_text}
use Rattle.hal_compile.proofs.ReadingOn.{GoesOn, all_counted, all_read, first_breaks, next_text, none_left, one_more}
use Rattle.hal_compile.proofs.reading.readings_of.Goals as goal

pub returns-in_err-file-clause-broken : goal.returns-in_err-file-clause-broken
returns-in_err-file-clause-broken c =
    let p = err_from_is_err_and c.from_residual.result c.from_residual.ensures.1 in
    let same : c.from_residual.result ≡ Err c.in_err-file.field-0.0 = search (rules, p.1, p.2) in
    let texts = c.args.texts.now in
    let i = c.loop-text.text-index in
    let rest = map seen_text (drop (i + 1) texts) in
    let done = map seen_file c.loop-text.files.items in
    let on : GoesOn (map seen_text texts) (seen_text c.text-item.result ∷ rest) c.loop-text.number done c.loop-text.words =
    subst (λ (left : List (List ℕ)). GoesOn (map seen_text texts) left c.loop-text.number done c.loop-text.words) (next_text texts i c.text-item.result c.loop-text-test.true c.text-item.is) c.loop-text.invariant.on in
    let breaks : TextBreaksBy c.loop-text.number (seen_text c.text-item.result) c.in_err-file.field-0.0 =
    subst (λ (text : List ℕ). TextBreaksBy c.loop-text.number text c.in_err-file.field-0.0) c.as_slice.ensures.value c.in_err-file.ensures.broken in
    rw same (first_breaks (map seen_text texts) (seen_text c.text-item.result) rest c.loop-text.number done c.loop-text.words c.in_err-file.field-0.0 on breaks)

pub loop-text-preserved : goal.loop-text-preserved
loop-text-preserved c =
    let texts = c.args.texts.now in
    let i = c.loop-text.text-index in
    let rest = map seen_text (drop (i + 1) texts) in
    let done = map seen_file c.loop-text.files.items in
    let on : GoesOn (map seen_text texts) (seen_text c.text-item.result ∷ rest) c.loop-text.number done c.loop-text.words =
    subst (λ (left : List (List ℕ)). GoesOn (map seen_text texts) left c.loop-text.number done c.loop-text.words) (next_text texts i c.text-item.result c.loop-text-test.true c.text-item.is) c.loop-text.invariant.on in
    let read : IsReadIn c.loop-text.number (seen_text c.text-item.result) c.in_ok-file.field-0.file c.in_ok-file.field-0.words =
    subst (λ (text : List ℕ). IsReadIn c.loop-text.number text c.in_ok-file.field-0.file c.in_ok-file.field-0.words) c.as_slice.ensures.value c.in_ok-file.ensures.read in
    let further = one_more (map seen_text texts) (seen_text c.text-item.result) rest c.loop-text.number done c.loop-text.words c.in_ok-file.field-0.file c.in_ok-file.field-0.words read on in
    record {
      on = subst (λ (files : List File). GoesOn (map seen_text texts) rest (c.loop-text.number + 1) files (c.loop-text.words + c.in_ok-file.field-0.words)) (sym c.in_ok-push_file.ensures.added) further;
      number = ap (λ (n : ℕ). n + 1) c.loop-text.invariant.number;
      few = omega (arith, c.loop-text.invariant.few, read.few);
    }

pub returns-clause-read : goal.returns-clause-read
returns-clause-read c =
    let texts = c.args.texts.now in
    let i = c.loop-text.text-index in
    let all : length texts ≤ i = omega (arith, c.loop-text-test.false) in
    all_read (map seen_text texts) (map seen_text (drop i texts)) c.loop-text.number (map seen_file c.loop-text.files.items) c.loop-text.words (none_left texts i all) c.loop-text.invariant.on

pub returns-clause-words : goal.returns-clause-words
returns-clause-words c =
    let texts = c.args.texts.now in
    let i = c.loop-text.text-index in
    let all : length texts ≤ i = omega (arith, c.loop-text-test.false) in
    all_counted (map seen_text texts) (map seen_text (drop i texts)) c.loop-text.number (map seen_file c.loop-text.files.items) c.loop-text.words (none_left texts i all) c.loop-text.invariant.on
