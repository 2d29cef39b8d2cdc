use Rattle.std.proofs.Common.{refl, subst}
use Rattle.hal_phrases.specs.declared.role.Role.TheVariants as role
use Rattle.hal_phrases.specs.GatheredUnits.{phrases_of}
use Rattle.hal_kinds.specs.Classes.{class_of}
use Rattle.hal_fit_names.specs.Suited.{Suits}
use Rattle.hal_fit_names.proofs.Suiting.{suits}
use Rattle.hal_fit_names.proofs.laws.channels_have_right_operands.Goals as goal

pub returns : goal.returns
returns c files p before around tree named sound literals begun same unfit =
    subst (Suits (class_of (phrases_of files) around.block tree)) unfit
    (suits (phrases_of files) named sound (c.phrases_are_counted.ensures files) (c.what_is_meant_declares_the_name.ensures files) literals p before around role.Channel tree refl same begun)
