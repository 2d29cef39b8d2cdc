use Rattle.std.proofs.Common.{◌≡◌, ◌∷◌, ◌∙◌, [], length, slice_get, Some, ap, refl, sym, rules}
use Rattle.std.proofs.lemmas.Result.{IfOk-weaker}
use Rattle.hal_lexer.specs.declared.comes.Comes.{Comes}
use Rattle.hal_lexer.specs.declared.summary.Cut.TheVariants as cut
use Rattle.hal_lexer.specs.Summary.{Amounts, given_of}
use Rattle.hal_lexer.proofs.Summing.{alone_gathers, nothing_stands, one_stands}
use Rattle.hal_lexer.proofs.summary.Summary.follow.Goals as goal

pub returns-in-Nothing-clause-sound : goal.returns-in-Nothing-clause-sound
returns-in-Nothing-clause-sound c =
    let self = c.args.self.now in
    let same : c.as_slice.result.now ≡ self.comes.items = search rules in
    let told : given_of (slice_get c.as_slice.result.now c.args.one) ≡ Some [] = sym c.known_at.ensures ∙ ap (λ (k : Comes). given_of (Some k)) c.in-Nothing.is in
    let found : given_of (slice_get self.comes.items c.args.one) ≡ Some [] = rw same at told in
    let amounts : Amounts self.comes.items (cut.Word c.args.one) c.args.number [] = alone_gathers self.comes.items c.args.one [] [] found refl in
    IfOk-weaker c.keep.result _ _ (λ _ kept definitions sound unknown at. kept definitions sound unknown (cut.Word c.args.one, at, amounts) (nothing_stands (length self.done))) c.keep.ensures.sound

pub returns-in-One-clause-sound : goal.returns-in-One-clause-sound
returns-in-One-clause-sound c =
    let self = c.args.self.now in
    let part = c.in-One.part in
    let same : c.as_slice.result.now ≡ self.comes.items = search rules in
    let told : given_of (slice_get c.as_slice.result.now c.args.one) ≡ Some (part ∷ []) = sym c.known_at.ensures ∙ ap (λ (k : Comes). given_of (Some k)) c.in-One.is in
    let found : given_of (slice_get self.comes.items c.args.one) ≡ Some (part ∷ []) = rw same at told in
    let amounts : Amounts self.comes.items (cut.Word c.args.one) c.args.number (part ∷ []) = alone_gathers self.comes.items c.args.one [] (part ∷ []) found refl in
    IfOk-weaker c.keep-in-One.result _ _ (λ _ kept definitions sound unknown at. kept definitions sound unknown (cut.Word c.args.one, at, amounts) (one_stands (length self.done) part)) c.keep-in-One.ensures.sound
