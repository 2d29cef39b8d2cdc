-- Rows that are the same are equal.
use Rattle.std.specs.Prelude.{◌≡◌, ◌==◌, true, ◌&&◌, bytes_eq}
use Rattle.std.specs.Ordering.{int_eq}
use Rattle.std.specs.Cmp.{signed_Decides}
use Rattle.std.proofs.Common.{refl, ap, ◌∙◌}
use Rattle.std.proofs.lemmas.Bool.{eqb-true, and_parts}
use Rattle.std.proofs.lemmas.Slice.Eq.{bytes_eq-Decides}
use Rattle.hal_values.specs.declared.value.Kind.{Kind}
use Rattle.hal_values.specs.declared.value.Kind.TheVariants as kind
use Rattle.hal_values.specs.declared.value.Value.{Value}
use Rattle.hal_values.specs.declared.value.Value.TheVariants as value
use Rattle.hal_values.specs.declared.tables.Cell.{Cell}
use Rattle.hal_code.specs.declared.row.OwnPlace.{OwnPlace}
use Rattle.hal_code.specs.declared.row.OwnPlace.TheVariants as place
use Rattle.hal_code.specs.Sorts.{same_kind}
use Rattle.hal_runs.specs.Same.{same_value, same_cell, same_place}

pub kind_same : (k l : Kind) → same_kind k l ≡ true → k ≡ l
kind_same kind.Single kind.Single is = refl
kind_same kind.Double kind.Double is = refl
kind_same (kind.Bits m) (kind.Bits n) is = ap kind.Bits (eqb-true m n is)
kind_same (kind.Text m) (kind.Text n) is = ap kind.Text (eqb-true m n is)
kind_same other one is = absurd (cc)

pub value_same : (v w : Value) → same_value v w ≡ true → v ≡ w
value_same (value.Int one) (value.Int other) is = ap value.Int ((signed_Decides one other).0 is)
value_same (value.Bits m v) (value.Bits n w) is =
    let parts = and_parts (m == n) (v == w) is in
    ap (λ k. value.Bits k v) (eqb-true m n parts.0) ∙ ap (λ b. value.Bits n b) (eqb-true v w parts.1)
value_same (value.Text one) (value.Text other) is = ap value.Text ((bytes_eq-Decides one other).0 is)
value_same one other is = absurd (cc)

pub cell_same : (one other : Cell) → same_cell one other ≡ true → one ≡ other
cell_same one other is =
    let parts = and_parts (same_kind one.kind other.kind) (one.group == other.group && same_value one.initial other.initial) is in
    let late = and_parts (one.group == other.group) (same_value one.initial other.initial) parts.1 in
    ap (λ k. let cell : Cell = record { kind = k; group = one.group; initial = one.initial } in cell) (kind_same one.kind other.kind parts.0)
    ∙ ap (λ g. let cell : Cell = record { kind = other.kind; group = g; initial = one.initial } in cell) (eqb-true one.group other.group late.0)
    ∙ ap (λ v. let cell : Cell = record { kind = other.kind; group = other.group; initial = v } in cell) (value_same one.initial other.initial late.1)

pub place_same : (one other : OwnPlace) → same_place one other ≡ true → one ≡ other
place_same (place.Data k v) (place.Data l w) is =
    let parts = and_parts (same_kind k l) (same_value v w) is in
    ap (λ one. place.Data one v) (kind_same k l parts.0) ∙ ap (λ one. place.Data l one) (value_same v w parts.1)
place_same (place.Reference m) (place.Reference n) is = ap place.Reference (eqb-true m n is)
place_same one other is = absurd (cc)
