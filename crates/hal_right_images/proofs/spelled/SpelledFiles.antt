-- The phrases of files that right words spell.
use Rattle.std.proofs.Common.{◌⊎◌, ℕ, suc, List, [], ◌∷◌, length, Option, inl, inr}
use Rattle.hal_grammar.specs.Leaves.{Naming, naming}
use Rattle.hal_grammar.specs.Units.{Block, Elements, Template, Preface, File}
use Rattle.hal_grammar.specs.Words.{Words}
use Rattle.hal_grammar.specs.SpellsFiles.{SpellsBlock, block, SpellsElements, closed, statement_first, block_first, SpellsTemplate, template, SpellsPreface, includes, templates, SpellsFile, block_alone, preface_first}
use Rattle.hal_phrases.specs.declared.around.Around.{Around}
use Rattle.hal_phrases.specs.Surroundings.{behind, in_file, opened}
use Rattle.hal_phrases.specs.Phrases.{Phrase, OfFile, OfInclude, OfTemplate, OfUnit, gathered_any, gathered_each}
use Rattle.hal_phrases.specs.GatheredStatements.{gathered_close}
use Rattle.hal_phrases.specs.GatheredUnits.{around_template, gathered_block, gathered_elements, gathered_file, gathered_preface, gathered_prefaces, gathered_template, name_of_block, phrases_of}
use Rattle.hal_scope.specs.Rules.{IsAmong}
use Rattle.hal_right_images.specs.spelled.Words.{AreAllSpelled, AreRightWords, IsSpelled}
use Rattle.hal_right_images.proofs.spelled.Adding.{Adds, Gives, NodeSpelled, and_more, behind_one, gives, no_step, one, then_}
use Rattle.hal_right_images.proofs.spelled.SpelledDeclarations.{declarations_fit, head_fit, name_end_right}
use Rattle.hal_right_images.proofs.spelled.SpelledStatements.{close_added, statement_fit}

mutual
  unfolding gathered_block gathered_elements

  block_fit : {x : Block} {b a : Words} → SpellsBlock x b a → AreRightWords b → (d : List Phrase) (o : Around) → Gives d (gathered_block d o x) a
  block_fit (block {p = p} {n = n} {h = h} {ds = ds} {es = es} {c = c} x xs ys k) right d o =
      behind_one d o (OfUnit (naming p n) h ds) tt
      (and_more (head_fit x right.1.1 _ (opened (length d) o)) (λ declared. and_more (declarations_fit xs declared (opened (length d) o) _)
      (λ next. elements_fit ys next _ (opened (length d) o))))

  -- the elements of a unit, and its closing name
  elements_fit : {es : Elements} {c : Option Naming} {b a : Words} → SpellsElements es c b a → AreRightWords b → (d : List Phrase) (o : Around) → Gives d (gathered_any (gathered_close o) (gathered_elements d o es) c) a
  elements_fit (closed {c = c} x) right d o = gives _ (close_added o d c) (name_end_right x right.1)
  elements_fit (statement_first x xs) right d o = and_more (statement_fit x right d o) (λ next. elements_fit xs next _ o)
  elements_fit (block_first x k xs) right d o = and_more (block_fit x right d o) (λ next. elements_fit xs next _ o)

template_fit : {t : Template} {b a : Words} → SpellsTemplate t b a → AreRightWords b → (d : List Phrase) (o : Around) → Gives d (gathered_template d o t) a
unfolding gathered_template
template_fit (template {p = p} {n = n} {h = h} {ds = ds} {c = c} x xs y) right d o =
    behind_one d o (OfTemplate (naming p n) h ds) tt
    (and_more (head_fit x right.1.1.1 _ (opened (length d) o)) (λ declared. and_more (declarations_fit xs declared (around_template (length d) o h) _)
    (λ next. (gives _ (close_added (opened (length d) o) _ c) (name_end_right y next.1)))))

preface_fit : {x : Preface} {b a : Words} → SpellsPreface x b a → AreRightWords b → (d : List Phrase) (o : Around) → Gives d (gathered_preface d o x) a
unfolding gathered_preface
preface_fit (includes {q = q} {n = n}) right d o = gives _ (one d o (OfInclude (naming q n)) tt) right.1.1
preface_fit (templates x) right d o = template_fit x right d o

-- what a file has: its prefaces and its unit
prefaces_fit : {x : File} {b a : Words} → SpellsFile x b a → AreRightWords b → (n : ℕ) (o e : Around) (d : List Phrase) → Gives d (gathered_block (gathered_prefaces d o n x.prefaces) e x.block) a
unfolding gathered_prefaces
prefaces_fit (block_alone x) right n o e d = block_fit x right d e
prefaces_fit (preface_first x xs) right n o e d = and_more (preface_fit x right d (behind n o)) (λ next. prefaces_fit xs next (suc n) o e _)

file_added : (x : File) → IsSpelled x → (d : List Phrase) → Adds d (gathered_file d x)
unfolding gathered_file
file_added x is d =
    then_ (one d (in_file (length d)) (OfFile x.prefaces (name_of_block x.block)) tt) (prefaces_fit is.spelled is.right 0 (in_file (length d)) (behind (length x.prefaces) (in_file (length d))) _).added

files_added : (xs : List File) → AreAllSpelled xs → (d : List Phrase) → Adds d (gathered_each gathered_file d xs)
files_added [] are d = no_step d
files_added (x ∷ xs) are d = then_ (file_added x are.0 d) (files_added xs are.1 _)

-- each phrase of a set of files is spelled so
pub phrases_spelled : (files : List File) → AreAllSpelled files → (p : Phrase) → IsAmong p (phrases_of files) → NodeSpelled p.node
unfolding phrases_of
phrases_spelled files are p within = by ((files_added files are []).each_ p within) where
  by : IsAmong p [] ⊎ NodeSpelled p.node → NodeSpelled p.node
  by (inl none) = absurd none
  by (inr spelled) = spelled
