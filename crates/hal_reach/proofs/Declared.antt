-- Units and processes stand among the declarations of a set.
use Rattle.std.proofs.Common.{◌≡◌, Bool, true, false, List, Option, Some, None, ℕ, filter, refl, ap}
use Rattle.std.specs.Prelude.{if◌then◌else◌}
use Rattle.std.proofs.lemmas.Bool.{true≢false}
use Rattle.hal_phrases.specs.Phrases.{Node, Phrase, OfUnit}
use Rattle.hal_names.specs.Declarations.{is_declaration, is_declaring}
use Rattle.hal_names.proofs.Declared.{found_in_declarations}
use Rattle.hal_meaning.specs.Bodies.{is_process, is_unit, processes_of}
use Rattle.hal_meaning.specs.Places.{unit_numbers}
use Rattle.hal_reach.specs.declared.call.Call.{Call}
use Rattle.hal_reach.specs.Calls.{unit_with, unit_among, units_among}

-- what declares nothing is no unit
pub no_unit : (n : Node) → is_declaring n ≡ false → is_unit n ≡ false
unfolding is_declaring
no_unit (OfUnit name head declarations) none = absurd (true≢false none)
no_unit other none = refl

-- and no process
pub no_process : (n : Node) → is_declaring n ≡ false → is_process n ≡ false
unfolding is_declaring
no_process (OfUnit name head declarations) none = absurd (true≢false none)
no_process other none = refl

-- the processes of a set are those of its declarations
pub processes_declared : (ds ps : List Phrase) → ds ≡ filter is_declaration ps → processes_of ds ≡ processes_of ps
processes_declared = found_in_declarations (λ (p : Phrase). if is_process p.node then Some p.number else None)
    (λ p none. ap (λ (b : Bool). if b then Some p.number else None) (no_process p.node none))

-- so are the units
pub units_declared : (ds ps : List Phrase) → ds ≡ filter is_declaration ps → unit_numbers ds ≡ unit_numbers ps
units_declared = found_in_declarations (λ (p : Phrase). if is_unit p.node then Some p.number else None)
    (λ p none. ap (λ (b : Bool). if b then Some p.number else None) (no_unit p.node none))

-- and the units with those that they call
pub units_among_declared : (ns : List ℕ) (calls : List Call) (ds ps : List Phrase) → ds ≡ filter is_declaration ps → units_among ns calls ds ≡ units_among ns calls ps
units_among_declared ns calls = found_in_declarations (unit_among ns calls)
    (λ p none. ap (λ (b : Bool). if b then Some (unit_with ns calls p) else None) (no_unit p.node none))
