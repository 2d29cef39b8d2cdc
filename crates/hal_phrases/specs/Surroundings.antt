-- What stands around the parts of a phrase.
use Rattle.std.specs.Prelude.{ℕ, Some, None, true, false}
use Rattle.hal_phrases.specs.declared.around.Around.{Around}

-- around the parts of the file with this number
abbrev pub in_file : ℕ → Around
in_file k = record { parent = k; block = k; home = k; prefaces = 0; group = None; update = None; direct = false }

-- the same behind so many prefaces
abbrev pub behind : ℕ → Around → Around
behind n a = record { parent = a.parent; block = a.block; home = a.home; prefaces = n; group = a.group; update = a.update; direct = a.direct }

-- around the parts of the phrase with this number
abbrev pub under : ℕ → Around → Around
under k a = record { parent = k; block = a.block; home = a.home; prefaces = a.prefaces; group = a.group; update = a.update; direct = a.direct }

-- around the body of the unit or template with this number
abbrev pub opened : ℕ → Around → Around
opened k a = record { parent = k; block = k; home = k; prefaces = a.prefaces; group = None; update = None; direct = true }

-- around a statement within another one
abbrev pub inside : Around → Around
inside a = record { parent = a.parent; block = a.block; home = a.home; prefaces = a.prefaces; group = a.group; update = a.update; direct = false }

-- around the statements of the DO group with this number
abbrev pub grouped : ℕ → Around → Around
grouped k a = record { parent = k; block = a.block; home = a.home; prefaces = a.prefaces; group = Some k; update = a.update; direct = false }

-- where that group has a TEMPORARY variable
abbrev pub scoped : ℕ → Around → Around
scoped k a = record { parent = a.parent; block = k; home = a.home; prefaces = a.prefaces; group = a.group; update = a.update; direct = a.direct }

-- around the statements of the UPDATE block with this number
abbrev pub updated : ℕ → Around → Around
updated k a = record { parent = k; block = a.block; home = a.home; prefaces = a.prefaces; group = None; update = Some k; direct = true }
