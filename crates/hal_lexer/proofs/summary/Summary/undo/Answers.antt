use Rattle.std.proofs.Common.{◌≡◌, ◌++◌, ◌∷◌, ◌∙◌, [], ℕ, List, slice_set, subst, sym, ap, rules}
use Rattle.hal_lexer.specs.declared.comes.Comes.{Comes}
use Rattle.hal_lexer.specs.declared.comes.Comes.TheVariants as comes
use Rattle.hal_lexer.specs.Summary.{IsSummary}
use Rattle.hal_lexer.proofs.Lexicons.{once_of}
use Rattle.hal_lexer.proofs.Undoing.{undone}
use Rattle.hal_lexer.proofs.summary.Summary.undo.Goals as goal

pub returns-clause-sound : goal.returns-clause-sound
returns-clause-sound c = λ definitions sound.
    let self = c.args.self.now in
    let popped = c.in-Some.ensures.some in
    let last = popped.0 in
    let before : IsSummary definitions self.words.items self.comes.items self.cuts.items (c.pop.new.self ++ last ∷ []) = rw popped.1 at sound.1 in
    let set : c.set_comes.new.comes.items ≡ slice_set self.comes.items c.in-Some.number comes.Unknown = search rules in
    let same : slice_set self.comes.items last.number comes.Unknown ≡ c.set_comes.new.comes.items = ap (λ (n : ℕ). slice_set self.comes.items n comes.Unknown) popped.2 ∙ sym set in (
      sound.0,
      subst (λ (list : List Comes). IsSummary definitions self.words.items list self.cuts.items c.pop.new.self) same
          (undone definitions self.words.items self.comes.items self.cuts.items c.pop.new.self last (once_of self.numbers.entries self.words.items sound.0) before),
    )
