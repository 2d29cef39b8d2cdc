-- Rows of tables are read as they are spelled.
use Rattle.std.proofs.Common.{◌≡◌, ℕ, zero, suc, ◌^◌, ◌<◌, ◌≤◌, Bool, true, false, cond, ltb, List, [], ◌∷◌, ◌++◌, length, Option, Some, None, refl, ◌∙◌, arith}
use Rattle.std.specs.List.{flat_map, AllByRecursion}
use Rattle.std.proofs.lemmas.Bool.{ltb-true, lt-ltb}
use Rattle.hal_values.specs.declared.tables.Item.{Item}
use Rattle.hal_values.specs.declared.tables.Item.TheVariants as item
use Rattle.hal_values.specs.declared.tables.ReportBase.{ReportBase}
use Rattle.hal_values.specs.declared.tables.ReportBase.TheVariants as named
use Rattle.hal_values.specs.declared.tables.ReportName.{ReportName}
use Rattle.hal_code.specs.declared.row.Base.{Base}
use Rattle.hal_code.specs.declared.row.Base.TheVariants as base
use Rattle.hal_code.specs.declared.row.Block.{Block}
use Rattle.hal_code.specs.declared.row.Dimension.{Dimension}
use Rattle.hal_code.specs.declared.row.Process.{Process}
use Rattle.hal_code.specs.declared.row.Run.{Run}
use Rattle.hal_code.specs.declared.row.Target.{Target}
use Rattle.hal_code.specs.declared.row.Target.TheVariants as target
use Rattle.hal_code.specs.declared.row.View.{View}
use Rattle.hal_object.specs.Numbers.{in_two, in_four}
use Rattle.hal_object.specs.Kinds.{kind_bytes, FitsKind}
use Rattle.hal_object.specs.Rows.{run_bytes, FitsRun, process_bytes, FitsProcess, base_bytes, FitsBase, dimension_bytes, FitsDimension, target_bytes, FitsTarget, view_bytes, FitsView, item_bytes, FitsItem, block_bytes, FitsBlock, named_bytes, FitsNamed, name_bytes, FitsName}
use Rattle.hal_object.specs.Fields.{Reader, both, byte_at, two_at, four_at, rows_at}
use Rattle.hal_object.specs.Reading.{kind_at, run_at, process_at, base_behind, base_at, dimension_at, dimensions_of, dimensions_at, target_rows, target_at, view_at, item_rows, item_at, block_at, named_rows, named_at, long_text_at, sizes_at, name_at}
use Rattle.hal_object.proofs.ReadingLaws.{IsBytes, Takes, Reads, onwards_some, byte_reads, two_reads, four_reads, eight_reads, text_reads, fronts_read, made_again, pair, turned, fit_reads, counted_reads, rows_read, rows_counted, list_reads, choice_takes, row_made, row_plain}
use Rattle.hal_object.proofs.ChoiceLaws.{results_read}
use Rattle.hal_object.proofs.KindLaws.{kind_reads, place_reads}

pub run_reads : {T : Type 0} {read : Reader T} {spelling : T → List ℕ} {Fits : T → Type 0} → Reads read spelling Fits → Reads (run_at read) (run_bytes spelling) (FitsRun Fits)
run_reads {T} reads = turned (λ p. record { repeat = p.0; row = p.1 }) (λ (run : Run T). (run.repeat, run.row)) (λ a. refl) (λ b. refl) (pair four_reads reads)

pub process_reads : Reads process_at process_bytes FitsProcess
unfolding process_at
process_reads =
    turned (λ p. record { name = p.0; block = p.1.0; places = p.1.1 }) (λ (x : Process). (x.name, (x.block, x.places))) (λ a. refl) (λ b. refl)
    (pair text_reads (pair four_reads (list_reads _ _ _ (run_reads place_reads))))

-- ---- views

base_takes : (byte : ℕ) (bytes : List ℕ) (a : Base) (rest : List ℕ) → byte < 2 ^ 8 → IsBytes bytes → base_behind byte bytes ≡ Some (a, rest) → Takes (byte ∷ bytes) (base_bytes a) rest (FitsBase a)
unfolding base_behind
base_takes zero bytes a rest lt h e = row_made 0 base.Shared four_at in_four (λ n. n < 2 ^ 32) base_bytes FitsBase (λ n f. refl) (λ n f. f) four_reads bytes a rest h e
base_takes (suc zero) bytes a rest lt h e = row_made 1 base.Own four_at in_four (λ n. n < 2 ^ 32) base_bytes FitsBase (λ n f. refl) (λ n f. f) four_reads bytes a rest h e
base_takes (suc (suc zero)) bytes a rest lt h e =
    row_made 2 (λ p. base.Through p.0 p.1) (both four_at four_at) (λ p. in_four p.0 ++ in_four p.1) (λ p. (p.0 < 2 ^ 32) × (p.1 < 2 ^ 32)) base_bytes FitsBase (λ p f. refl) (λ p f. f) (pair four_reads four_reads) bytes a rest h e
base_takes (suc (suc (suc byte))) bytes a rest lt h e =
    row_made (suc (suc (suc byte))) (base.Other (suc (suc (suc byte)))) four_at in_four (λ n. n < 2 ^ 32) base_bytes FitsBase (λ n f. refl) (λ n f. (omega arith, (lt, f))) four_reads bytes a rest h e

other_again : (byte number : ℕ) (rest : List ℕ) → 3 ≤ byte → number < 2 ^ 32 → base_behind byte (in_four number ++ rest) ≡ Some (base.Other byte number, rest)
unfolding base_behind
other_again zero number rest le lt = absurd (omega (arith, le))
other_again (suc zero) number rest le lt = absurd (omega (arith, le))
other_again (suc (suc zero)) number rest le lt = absurd (omega (arith, le))
other_again (suc (suc (suc byte))) number rest le lt = made_again (base.Other (suc (suc (suc byte)))) four_at (in_four number ++ rest) number rest (four_reads.again number rest lt)

base_again : (a : Base) (rest : List ℕ) → FitsBase a → base_at (base_bytes a ++ rest) ≡ Some (a, rest)
unfolding base_at byte_at base_behind
base_again (base.Shared number) rest f = made_again base.Shared four_at (in_four number ++ rest) number rest (four_reads.again number rest f)
base_again (base.Own number) rest f = made_again base.Own four_at (in_four number ++ rest) number rest (four_reads.again number rest f)
base_again (base.Through place offset) rest f =
    made_again (λ p. base.Through p.0 p.1) (both four_at four_at) ((in_four place ++ in_four offset) ++ rest) (place, offset) rest ((pair four_reads four_reads).again (place, offset) rest f)
base_again (base.Other byte number) rest f = other_again byte number rest f.0 f.1.1

pub base_reads : Reads base_at base_bytes FitsBase
unfolding base_at
base_reads = record {
  takes = λ bytes a rest h e.
      let s = onwards_some (byte_at bytes) base_behind (a, rest) e in
      let t = byte_reads.takes bytes s.0 s.1 h s.2 in
      let u = base_takes s.0 s.1 a rest t.fits t.rest_fits s.3 in
      record { parts = t.parts ∙ u.parts; rest_fits = u.rest_fits; fits = u.fits };
  again = base_again;
}

pub dimension_reads : Reads dimension_at dimension_bytes FitsDimension
unfolding dimension_at
dimension_reads = turned (λ p. record { size = p.0; stride = p.1 }) (λ (d : Dimension). (d.size, d.stride)) (λ a. refl) (λ b. refl) (pair four_reads four_reads)

abbrev AreDimensions : ℕ → List Dimension → Type 0
AreDimensions n ds = (length ds ≡ n) × ((length ds < 5) × AllByRecursion FitsDimension ds)

tested_some : {A : Type 0} (b : Bool) (o : Option A) (y : A) → cond b o None ≡ Some y → (b ≡ true) × (o ≡ Some y)
tested_some true o y e = (refl, e)
tested_some false o y e = absurd cc

dimensions_read : (n : ℕ) → Reads (dimensions_of n) (flat_map dimension_bytes) (AreDimensions n)
unfolding dimensions_of
dimensions_read n = record {
  takes = λ bytes a rest h e.
      let g = tested_some (ltb n 5) (rows_at dimension_at n bytes) (a, rest) e in
      let t = (rows_read dimension_at dimension_bytes FitsDimension dimension_reads n).takes bytes a rest h g.1 in
      let lt : n < 5 = ltb-true n 5 g.0 in
      record { parts = t.parts; rest_fits = t.rest_fits; fits = (t.fits.0, (omega (arith, lt, t.fits.0), t.fits.1)) };
  again = λ a rest f.
      let few : ltb n 5 ≡ true = lt-ltb n 5 (omega (arith, f.0, f.1.0)) in
      rw few ((rows_read dimension_at dimension_bytes FitsDimension dimension_reads n).again a rest (f.0, f.1.1));
}

pub dimensions_are_read : Reads dimensions_at (λ ds. length ds ∷ flat_map dimension_bytes ds) (λ ds. (length ds < 5) × AllByRecursion FitsDimension ds)
unfolding dimensions_at
dimensions_are_read =
    fit_reads (λ ds f. f.1) (λ ds f. (omega (arith, f.0), f))
    (counted_reads byte_at dimensions_of length (λ n. n ∷ []) (flat_map dimension_bytes) (λ n. n < 2 ^ 8) (λ ds. (length ds < 5) × AllByRecursion FitsDimension ds) byte_reads dimensions_read)

target_again : (a : Target) (rest : List ℕ) → FitsTarget a → target_at (target_bytes a ++ rest) ≡ Some (a, rest)
unfolding target_at byte_at
target_again (target.Cell k) rest f = made_again target.Cell kind_at (kind_bytes k ++ rest) k rest (kind_reads.again k rest f)
target_again (target.Shape shape) rest f = made_again target.Shape four_at (in_four shape ++ rest) shape rest (four_reads.again shape rest f)

pub target_reads : Reads target_at target_bytes FitsTarget
unfolding target_at
target_reads = record {
  takes = choice_takes target_rows target_bytes FitsTarget (
    row_made 0 target.Cell kind_at kind_bytes FitsKind target_bytes FitsTarget (λ b f. refl) (λ b f. f) kind_reads,
    (
      row_made 1 target.Shape four_at in_four (λ n. n < 2 ^ 32) target_bytes FitsTarget (λ b f. refl) (λ b f. f) four_reads,
      tt,
    ),
  );
  again = target_again;
}

pub view_reads : Reads view_at view_bytes FitsView
unfolding view_at
view_reads =
    turned (λ p. record { base = p.0; dimensions = p.1.0; target = p.1.1 }) (λ (x : View). (x.base, (x.dimensions, x.target))) (λ a. refl) (λ b. refl) (pair base_reads (pair dimensions_are_read target_reads))

-- ---- event expressions

item_again : (a : Item) (rest : List ℕ) → FitsItem a → item_at (item_bytes a ++ rest) ≡ Some (a, rest)
unfolding item_at byte_at
item_again (item.Event e) rest f = made_again item.Event two_at (in_two e ++ rest) e rest (two_reads.again e rest f)
item_again item.Not rest f = refl
item_again item.And rest f = refl
item_again item.Or rest f = refl

pub item_reads : Reads item_at item_bytes FitsItem
unfolding item_at
item_reads = record {
  takes = choice_takes item_rows item_bytes FitsItem (
    row_made 0 item.Event two_at in_two (λ n. n < 2 ^ 16) item_bytes FitsItem (λ b f. refl) (λ b f. f) two_reads,
    (
      row_plain 1 item.Not item_bytes FitsItem refl tt,
      (
        row_plain 2 item.And item_bytes FitsItem refl tt,
        (
          row_plain 3 item.Or item_bytes FitsItem refl tt,
          tt,
        ),
      ),
    ),
  );
  again = item_again;
}

-- ---- blocks and report names

pub block_reads : Reads block_at block_bytes FitsBlock
unfolding block_at
block_reads =
    turned (λ p. record { process = p.0; first = p.1.0; end = p.1.1.0; result = p.1.1.1 }) (λ (x : Block). (x.process, (x.first, (x.end, x.result)))) (λ a. refl) (λ b. refl)
    (pair byte_reads (pair eight_reads (pair eight_reads results_read)))

named_again : (a : ReportBase) (rest : List ℕ) → FitsNamed a → named_at (named_bytes a ++ rest) ≡ Some (a, rest)
unfolding named_at byte_at
named_again named.Shared rest f = refl
named_again (named.Own process) rest f = refl
named_again named.Event rest f = refl

pub named_reads : Reads named_at named_bytes FitsNamed
unfolding named_at
named_reads = record {
  takes = choice_takes named_rows named_bytes FitsNamed (
    row_plain 0 named.Shared named_bytes FitsNamed refl tt,
    (
      row_made 1 named.Own byte_at (λ b. b ∷ []) (λ b. b < 2 ^ 8) named_bytes FitsNamed (λ b f. refl) (λ b f. f) byte_reads,
      (
        row_plain 2 named.Event named_bytes FitsNamed refl tt,
        tt,
      ),
    ),
  );
  again = named_again;
}

long_text_reads : Reads long_text_at (λ text. in_two (length text) ++ text) (λ text. length text < 2 ^ 16)
unfolding long_text_at
long_text_reads = fronts_read two_at in_two (λ n. n < 2 ^ 16) two_reads

sizes_read : Reads sizes_at (λ sizes. length sizes ∷ flat_map in_four sizes) (λ sizes. (length sizes < 2 ^ 8) × AllByRecursion (λ n. n < 2 ^ 32) sizes)
unfolding sizes_at
sizes_read = rows_counted byte_at (λ n. n ∷ []) (λ n. n < 2 ^ 8) four_at in_four (λ n. n < 2 ^ 32) byte_reads four_reads

pub name_reads : Reads name_at name_bytes FitsName
unfolding name_at
name_reads =
    turned (λ p. record { name = p.0; base = p.1.0; first = p.1.1.0; copies = p.1.1.1.0; stride = p.1.1.1.1.0; dimensions = p.1.1.1.1.1 })
    (λ (x : ReportName). (x.name, (x.base, (x.first, (x.copies, (x.stride, x.dimensions)))))) (λ a. refl) (λ b. refl)
    (pair long_text_reads (pair named_reads (pair four_reads (pair four_reads (pair four_reads sizes_read)))))
