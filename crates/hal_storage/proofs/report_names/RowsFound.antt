-- The rows of a set are those of its declarations.
use Rattle.std.proofs.Common.{◌≡◌, ◌∙◌, ◌+◌, ℕ, Bool, true, false, cond, List, [], ◌∷◌, length, filter, flat_map, refl, sym, ap, subst, arith}
use Rattle.std.proofs.lemmas.Bool.{true≢false}
use Rattle.hal_phrases.specs.Phrases.{Node, Phrase, OfItem}
use Rattle.hal_names.specs.Declarations.{is_declaration, is_declaring}
use Rattle.hal_names.proofs.Declared.{given_in_declarations}
use Rattle.hal_constants.specs.Known.{Known}
use Rattle.hal_meaning.specs.Places.{cells_at}
use Rattle.hal_meaning.specs.ReportNames.{rows_at, rows_of}
use Rattle.hal_storage.specs.report_names.Rooms.{HaveRows}
use Rattle.hal_storage.specs.report_names.Rows.{Lookups}
use Rattle.hal_storage.proofs.elements.Found.{no_cells}

-- what declares nothing has no rows
no_rows : (ps : List Phrase) (vs : Known) (p : Phrase) (n : Node) → is_declaring n ≡ false → rows_at ps vs p n ≡ []
unfolding is_declaring
no_rows ps vs p (OfItem common item) none = absurd (true≢false none)
no_rows ps vs p other none = refl

pub rows_declared : (ps : List Phrase) (vs : Known) (ds : List Phrase) → ds ≡ filter is_declaration ps → flat_map (λ (p : Phrase). rows_at ps vs p p.node) ds ≡ rows_of ps vs
rows_declared ps vs ds = given_in_declarations (λ (p : Phrase). rows_at ps vs p p.node) (λ p none. no_rows ps vs p p.node none) ds ps

-- the declarations among phrases that have their rows have theirs
have_alone : (ps : List Phrase) (vs : Known) (l : Lookups) (cell : ℕ) (rest : List Phrase) → HaveRows ps vs l cell rest → HaveRows ps vs l cell (filter is_declaration rest)
have_alone ps vs l cell [] have = tt
have_alone ps vs l cell (p ∷ rest) have = by (is_declaration p) refl (have_alone ps vs l (cell + length (cells_at ps vs p p.node)) rest have.2)
  where
    by : (b : Bool) → is_declaration p ≡ b → HaveRows ps vs l (cell + length (cells_at ps vs p p.node)) (filter is_declaration rest)
        → HaveRows ps vs l cell (cond b (p ∷ filter is_declaration rest) (filter is_declaration rest))
    by true is others = (have.0, have.1, others)
    by false is others = subst (λ (n : ℕ). HaveRows ps vs l n (filter is_declaration rest)) (let none : length (cells_at ps vs p p.node) ≡ 0 = ap length (no_cells ps vs p p.node is) in omega (arith, none)) others

have_declared : (ps : List Phrase) (vs : Known) (l : Lookups) (cell : ℕ) (ds : List Phrase) → ds ≡ filter is_declaration ps → HaveRows ps vs l cell ps → HaveRows ps vs l cell ds
have_declared ps vs l cell ds same have = subst (HaveRows ps vs l cell) (sym same) (have_alone ps vs l cell ps have)

-- the same before the first cell
pub begun_with : {Y : Type 0} (ps : List Phrase) (vs : Known) (l : Lookups) (cells : List Y) (ds : List Phrase) → cells ≡ [] → ds ≡ filter is_declaration ps → HaveRows ps vs l 0 ps → HaveRows ps vs l (length cells) ds
begun_with ps vs l cells ds none same have = subst (λ (n : ℕ). HaveRows ps vs l n ds) (sym (ap length none)) (have_declared ps vs l 0 ds same have)
