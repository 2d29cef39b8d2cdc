-- The components of parts, one more part.
use Rattle.std.proofs.Common.{◌≡◌, Bool, true, false, List, [], ◌∷◌, ◌++◌, if◌then◌else◌, ap}
use Rattle.hal_grammar.specs.Declarations.{Part}
use Rattle.hal_phrases.specs.Phrases.{Phrase}
use Rattle.hal_phrases.specs.GatheredDeclarations.{is_bottom}
use Rattle.hal_constants.specs.Known.{Known}
use Rattle.hal_meaning.specs.Elements.{Above, Component, component, lower, path_to, components_from}
use Rattle.hal_storage.specs.elements.Components.{opened, bottom_component}
use Rattle.hal_storage.proofs.elements.Repeated.{behind, none_behind}

by_bottom : (ps : List Phrase) (vs : Known) (p : Phrase) (b : Bool) (done : List Component) (above : List Above) (part : Part) (rest : List Part)
    → (done ++ bottom_component ps vs p b (opened b above part) part) ++ components_from ps vs p (opened b above part) rest
    ≡ done ++ (if b then component ps vs p (path_to (lower part.level above) part) part.attributes ∷ components_from ps vs p (lower part.level above) rest
    else components_from ps vs p (lower part.level above ++ ((part.level, part.name.name) ∷ [])) rest)
unfolding opened bottom_component
by_bottom ps vs p true done above part rest = behind done (component ps vs p (path_to (lower part.level above) part) part.attributes ∷ []) (components_from ps vs p (lower part.level above) rest)
by_bottom ps vs p false done above part rest = ap (λ (list : List Component). list ++ components_from ps vs p (lower part.level above ++ ((part.level, part.name.name) ∷ [])) rest) (none_behind done)

pub one_part : (ps : List Phrase) (vs : Known) (p : Phrase) (done : List Component) (above : List Above) (part : Part) (rest : List Part)
    → (done ++ bottom_component ps vs p (is_bottom part.level rest) (opened (is_bottom part.level rest) above part) part) ++ components_from ps vs p (opened (is_bottom part.level rest) above part) rest
    ≡ done ++ components_from ps vs p above (part ∷ rest)
one_part ps vs p done above part rest = by_bottom ps vs p (is_bottom part.level rest) done above part rest
