-- Where phrases stand, as far as their code goes by it.
use Rattle.std.specs.Prelude.{ℕ, Bool, true, false, List, [], Some, None, slice_get}
use Rattle.hal_grammar.specs.Statements.{NoStatements}
use Rattle.hal_meaning.specs.Places.{Place}
use Rattle.hal_meaning.specs.Sets.{Set}
use Rattle.hal_meaning.specs.Access.{Here}

-- the set, the own places of the process, the unit and the block in which names are looked up, and the marks of the unit
pub record Site : Type 0 where
  pub set : Set
  pub places : List Place
  pub unit : ℕ
  pub block : ℕ
  pub marks : List ℕ

abbrev pub site_of : Here → Site
site_of h = record { set = h.set; places = h.places; unit = h.unit; block = h.block; marks = h.marks }

-- a phrase that stands there, of which all else is left open
abbrev pub here_at : Site → Here
here_at site =
    record { set = site.set; process = 0; places = site.places; unit = site.unit; block = site.block; marks = site.marks; body = NoStatements; update = false; first = 0; below = [] }

-- the same within the block with this number
abbrev pub within_block : ℕ → Site → Site
within_block block site = record { set = site.set; places = site.places; unit = site.unit; block = block; marks = site.marks }

-- where names are looked up in a DO FOR with this mark: a TEMPORARY is known there alone
abbrev pub group_site : Site → Bool → ℕ → Site
group_site site false m = site
group_site site true m = elim (slice_get site.marks m) [ None ↦ site | Some k ↦ within_block k site ]
