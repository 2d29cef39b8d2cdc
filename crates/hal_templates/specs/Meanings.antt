-- Whether attributes mean the same, the values behind CONSTANT aside.
use Rattle.std.specs.Prelude.{Bool, ◌&&◌, List}
use Rattle.hal_grammar.specs.Declarations.{Attribute}
use Rattle.hal_phrases.specs.Phrases.{Phrase}
use Rattle.hal_constants.specs.Known.{Known}
use Rattle.hal_templates.specs.Alike.{same_template, same_traits}
use Rattle.hal_templates.specs.Own.{template_of}
use Rattle.hal_templates.specs.Sizes.{same_shape}
use Rattle.hal_templates.specs.Traits.{traits, type_given}

-- of what two phrases declare, with these attributes: the names of structure templates alone, not yet what they mean
abbrev pub same_meaning : List Phrase → Known → Phrase → List Attribute → List Attribute → Phrase → List Attribute → List Attribute → Bool
same_meaning ps vs p common own q other_common other_own =
    same_template (template_of (type_given common own)) (template_of (type_given other_common other_own))
    && (same_traits (traits ps vs p common own) (traits ps vs q other_common other_own) && same_shape ps vs p common own q other_common other_own)
