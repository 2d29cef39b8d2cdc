-- Report names whose elements can be numbered.
use Rattle.std.specs.Prelude.{ℕ, ◌≤◌, List, All}
use Rattle.hal_values.specs.declared.tables.ReportName.{ReportName}
use Rattle.hal_values.specs.ReportElements.{size_of}

-- how many elements a name may have, at a copy
abbrev pub element_limit : ℕ
element_limit = 4294967295

-- an array of these dimensions keeps the limit
abbrev pub IsArray : List ℕ → Type 0
IsArray dimensions = size_of dimensions ≤ element_limit

-- each name is that of such an array
abbrev pub AreArrays : List ReportName → Type 0
AreArrays names = All (λ (named : ReportName). IsArray named.dimensions) names
