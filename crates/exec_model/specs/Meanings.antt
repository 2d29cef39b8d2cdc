-- What a load means, by the record of its definitions that a contract has under the bound.
use Rattle.hal_values.specs.declared.load.Load as defined
use Rattle.hal_values.specs.Loads.{Meaning, meaning_of}

-- the meaning of a load that these definitions speak of
abbrev pub meaning : {L : Type 0} → defined.Ghosts L → L → Meaning
meaning of load = meaning_of of.tables of.next of.block of.own load
