use Rattle.std.proofs.Common.{List, map, subst, sym}
use Rattle.hal_tree.specs.declared.unit.File as rust-file
use Rattle.hal_tree.specs.SeenUnits.{seen_file}
use Rattle.hal_checked.specs.Reading.{AreRead}
use Rattle.hal_compile.specs.Reading.{seen_text}
use Rattle.hal_compile.proofs.Broken.{image_there}
use Rattle.hal_compile.proofs.texts.image_of_texts.Goals as goal

pub returns-clause-made : goal.returns-clause-made
returns-clause-made c =
    image_there (map seen_text c.args.texts.now) (map seen_file c.deref.result.now) c.image_of.result
    (subst (λ (files : List rust-file.File). AreRead 0 (map seen_text c.args.texts.now) (map seen_file files)) (sym c.deref.ensures.value) c.in_ok-files.ensures.read) c.in_ok-files.ensures.few_words
    c.image_of.ensures.checked c.image_of.ensures.compiled

pub image_of-requires : goal.image_of-requires
image_of-requires c = record {
  whole =
      c.an_image_of_checked_texts_is_whole.ensures (map seen_text c.args.texts.now) (map seen_file c.deref.result.now)
      (subst (λ (files : List rust-file.File). AreRead 0 (map seen_text c.args.texts.now) (map seen_file files)) (sym c.deref.ensures.value) c.in_ok-files.ensures.read);
}
