-- Kinds, values, cells and places are read as they are spelled.
use Rattle.std.proofs.Common.{◌≡◌, ℕ, zero, suc, ◌^◌, ◌<◌, Bool, true, false, cond, eqb, List, [], ◌∷◌, ◌++◌, length, Some, refl, sym, ap, subst, ◌∙◌}
use Rattle.std.specs.Prelude.{FitsSigned}
use Rattle.std.specs.Int.{w32}
use Rattle.std.proofs.lemmas.Bool.{eqb-true}
use Rattle.hal_values.specs.declared.tables.Cell.{Cell}
use Rattle.hal_values.specs.declared.value.Kind.{Kind}
use Rattle.hal_values.specs.declared.value.Kind.TheVariants as kind
use Rattle.hal_values.specs.declared.value.Value.{Value}
use Rattle.hal_values.specs.declared.value.Value.TheVariants as value
use Rattle.hal_code.specs.declared.row.OwnPlace.{OwnPlace}
use Rattle.hal_code.specs.declared.row.OwnPlace.TheVariants as place
use Rattle.hal_object.specs.Numbers.{in_four, integer_bytes, text_bytes}
use Rattle.hal_object.specs.Kinds.{kind_bytes, FitsKind, value_bytes, FitsValue, cell_bytes, FitsCell, place_bytes, FitsPlace}
use Rattle.hal_object.specs.Fields.{made, both, behind, byte_at, four_at, integer_at, text_at}
use Rattle.hal_object.specs.Reading.{zero_at, kind_rows, kind_at, value_at, cell_at, data_at, reference_at, place_at}
use Rattle.hal_object.proofs.ReadingLaws.{IsBytes, Takes, Reads, answered, some_is, byte_reads, four_reads, integer_reads, text_reads, made_takes, made_again, behind_reads, pair, turned, choice_takes, row_made, row_fixed}

-- a byte 0
pub zero_reads : {A : Type 0} (x : A) → Reads (zero_at x) (λ a. 0 ∷ []) (λ a. a ≡ x)
unfolding zero_at
zero_reads {A} x = record { takes = taken; again = λ a rest e. ap (λ b. answered b rest) (sym e) }
  where
    taken : (bytes : List ℕ) (a : A) (rest : List ℕ) → IsBytes bytes → zero_at x bytes ≡ Some (a, rest) → Takes bytes (0 ∷ []) rest (a ≡ x)
    taken [] a rest h e = absurd cc
    taken (zero ∷ bytes) a rest h e = let p = some_is x a bytes rest e in record { parts = ap (λ (r : List ℕ). 0 ∷ r) p.1; rest_fits = subst IsBytes p.1 (λ i. h (suc i)); fits = sym p.0 }
    taken (suc byte ∷ bytes) a rest h e = absurd cc

kind_again : (k : Kind) (rest : List ℕ) → FitsKind k → kind_at (kind_bytes k ++ rest) ≡ Some (k, rest)
unfolding kind_at byte_at zero_at
kind_again kind.Single rest f = refl
kind_again kind.Double rest f = refl
kind_again (kind.Bits n) rest f = refl
kind_again (kind.Text n) rest f = refl

pub kind_reads : Reads kind_at kind_bytes FitsKind
unfolding kind_at
kind_reads = record {
  takes = choice_takes kind_rows kind_bytes FitsKind (
    row_fixed 1 (zero_at kind.Single) kind.Single (0 ∷ []) kind_bytes FitsKind refl tt (zero_reads kind.Single),
    (
      row_fixed 2 (zero_at kind.Double) kind.Double (0 ∷ []) kind_bytes FitsKind refl tt (zero_reads kind.Double),
      (
        row_made 3 kind.Bits byte_at (λ b. b ∷ []) (λ b. b < 2 ^ 8) kind_bytes FitsKind (λ b f. refl) (λ b f. f) byte_reads,
        (
          row_made 4 kind.Text byte_at (λ b. b ∷ []) (λ b. b < 2 ^ 8) kind_bytes FitsKind (λ b f. refl) (λ b f. f) byte_reads,
          tt,
        ),
      ),
    ),
  );
  again = kind_again;
}

-- ---- values

integer_value_again : (k : Kind) → ((v : Value) → FitsValue k v → (z : _) × (v ≡ value.Int z) × FitsSigned w32 z) → (v : Value) (rest : List ℕ) → FitsValue k v → made value.Int integer_at (value_bytes v ++ rest) ≡ Some (v, rest)
integer_value_again k is v rest f =
    let g = is v f in
    subst (λ (u : Value). made value.Int integer_at (value_bytes u ++ rest) ≡ Some (u, rest)) (sym g.1) (made_again value.Int integer_at (integer_bytes g.0 ++ rest) g.0 rest (integer_reads.again g.0 rest g.2))

single_is : (v : Value) → FitsValue kind.Single v → (z : _) × (v ≡ value.Int z) × FitsSigned w32 z
single_is (value.Int z) f = (z, refl, f)
single_is (value.Bits len word) f = absurd f
single_is (value.Text text) f = absurd f

double_is : (v : Value) → FitsValue kind.Double v → (z : _) × (v ≡ value.Int z) × FitsSigned w32 z
double_is (value.Int z) f = (z, refl, f)
double_is (value.Bits len word) f = absurd f
double_is (value.Text text) f = absurd f

bits_again : (n : ℕ) (v : Value) (rest : List ℕ) → FitsValue (kind.Bits n) v → made (value.Bits n) four_at (value_bytes v ++ rest) ≡ Some (v, rest)
bits_again n (value.Int z) rest f = absurd f
bits_again n (value.Bits len word) rest f =
    made_again (value.Bits n) four_at (in_four word ++ rest) word rest (four_reads.again word rest f.1) ∙ ap (λ (m : ℕ). answered (value.Bits m word) rest) (sym f.0)
bits_again n (value.Text text) rest f = absurd f

text_again : (n : ℕ) (v : Value) (rest : List ℕ) → FitsValue (kind.Text n) v → made value.Text text_at (value_bytes v ++ rest) ≡ Some (v, rest)
text_again n (value.Int z) rest f = absurd f
text_again n (value.Bits len word) rest f = absurd f
text_again n (value.Text text) rest f = made_again value.Text text_at (text_bytes text ++ rest) text rest (text_reads.again text rest f)

pub value_reads : (k : Kind) → Reads (value_at k) value_bytes (FitsValue k)
unfolding value_at
value_reads kind.Single = record {
  takes = made_takes value.Int integer_at integer_bytes value_bytes (λ z. FitsSigned w32 z) (FitsValue kind.Single) (λ z f. refl) (λ z f. f) integer_reads;
  again = integer_value_again kind.Single single_is;
}
value_reads kind.Double = record {
  takes = made_takes value.Int integer_at integer_bytes value_bytes (λ z. FitsSigned w32 z) (FitsValue kind.Double) (λ z f. refl) (λ z f. f) integer_reads;
  again = integer_value_again kind.Double double_is;
}
value_reads (kind.Bits n) = record {
  takes = made_takes (value.Bits n) four_at in_four value_bytes (λ w. w < 2 ^ 32) (FitsValue (kind.Bits n)) (λ w f. refl) (λ w f. (refl, f)) four_reads;
  again = bits_again n;
}
value_reads (kind.Text n) = record {
  takes = made_takes value.Text text_at text_bytes value_bytes (λ text. length text < 2 ^ 8) (FitsValue (kind.Text n)) (λ text f. refl) (λ text f. f) text_reads;
  again = text_again n;
}

-- ---- cells and places

pub cell_reads : Reads cell_at cell_bytes FitsCell
unfolding cell_at
cell_reads =
    turned (λ p. record { kind = p.0; group = p.1.0; initial = p.1.1 }) (λ (c : Cell). (c.kind, (c.group, c.initial))) (λ a. refl) (λ b. refl)
    (behind_reads kind_at (λ k. both byte_at (value_at k)) kind_bytes (λ p. p.0 ∷ value_bytes p.1) FitsKind (λ k p. (p.0 < 2 ^ 8) × FitsValue k p.1) kind_reads (λ k. pair byte_reads (value_reads k)))

-- the kind and the value of data, and the shape of a reference
data_front : Reads (behind kind_at value_at) (λ p. kind_bytes p.0 ++ value_bytes p.1) (λ p. FitsKind p.0 × FitsValue p.0 p.1)
data_front = behind_reads kind_at value_at kind_bytes value_bytes FitsKind FitsValue kind_reads value_reads

reference_front : Reads (both (zero_at {A = ℕ} 0) four_at) (λ p. 0 ∷ in_four p.1) (λ p. (p.0 ≡ 0) × (p.1 < 2 ^ 32))
reference_front = pair (zero_reads {A = ℕ} 0) four_reads

place_takes : (bytes : List ℕ) (a : OwnPlace) (rest : List ℕ) → IsBytes bytes → place_at bytes ≡ Some (a, rest) → Takes bytes (place_bytes a) rest (FitsPlace a)
unfolding place_at byte_at data_at reference_at
place_takes [] a rest h e = absurd cc
place_takes (byte ∷ bytes) a rest h e = by_test (eqb byte 5) refl e
  where
    by_test : (b : Bool) → eqb byte 5 ≡ b → cond b (reference_at bytes) (data_at (byte ∷ bytes)) ≡ Some (a, rest) → Takes (byte ∷ bytes) (place_bytes a) rest (FitsPlace a)
    by_test true same f =
        subst (λ (n : ℕ). Takes (n ∷ bytes) (place_bytes a) rest (FitsPlace a)) (sym (eqb-true byte 5 same))
        (row_made 5 (λ p. place.Reference p.1) (both (zero_at {A = ℕ} 0) four_at) (λ p. 0 ∷ in_four p.1) (λ p. (p.0 ≡ 0) × (p.1 < 2 ^ 32)) place_bytes FitsPlace (λ p g. refl) (λ p g. g.1) reference_front bytes a rest (λ i. h (suc i)) f)
    by_test false other f =
        made_takes (λ p. place.Data p.0 p.1) (behind kind_at value_at) (λ p. kind_bytes p.0 ++ value_bytes p.1) place_bytes (λ p. FitsKind p.0 × FitsValue p.0 p.1) FitsPlace (λ p g. refl) (λ p g. g) data_front (byte ∷ bytes) a rest h f

data_again : (k : Kind) (v : Value) (rest : List ℕ) → FitsKind k × FitsValue k v → data_at ((kind_bytes k ++ value_bytes v) ++ rest) ≡ Some (place.Data k v, rest)
unfolding data_at
data_again k v rest f = made_again (λ p. place.Data p.0 p.1) (behind kind_at value_at) ((kind_bytes k ++ value_bytes v) ++ rest) (k, v) rest (data_front.again (k, v) rest f)

place_again : (a : OwnPlace) (rest : List ℕ) → FitsPlace a → place_at (place_bytes a ++ rest) ≡ Some (a, rest)
unfolding place_at byte_at reference_at
place_again (place.Reference shape) rest f = made_again (λ p. place.Reference p.1) (both (zero_at {A = ℕ} 0) four_at) (0 ∷ in_four shape ++ rest) (0, shape) rest (reference_front.again (0, shape) rest (refl, f))
place_again (place.Data kind.Single v) rest f = data_again kind.Single v rest f
place_again (place.Data kind.Double v) rest f = data_again kind.Double v rest f
place_again (place.Data (kind.Bits n) v) rest f = data_again (kind.Bits n) v rest f
place_again (place.Data (kind.Text n) v) rest f = data_again (kind.Text n) v rest f

pub place_reads : Reads place_at place_bytes FitsPlace
place_reads = record { takes = place_takes; again = place_again }
