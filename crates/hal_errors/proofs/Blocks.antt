-- Blocks whose entries lie one after another.
use Rattle.std.specs.Prelude.{◌≡◌, ◌<◌, ◌≤◌, ℕ, suc, List, [], ◌∷◌, ◌++◌, length, take, drop, reverse}
use Rattle.std.proofs.Common.{ap, sym, ◌∙◌, refl, arith, length-append, length-drop, length-take-le}
use Rattle.std.proofs.lemmas.List.{take_all, drop_all, take_at, drop_at, length-reverse, reverse-append}
use Rattle.hal_values.specs.declared.environment.Entry.{Entry}
use Rattle.hal_values.specs.Searching.{entered}
use Rattle.hal_errors.specs.declared.block.Block.{Block}
use Rattle.hal_errors.specs.Environments.{entry_count, with_latest}
use Rattle.hal_errors.specs.Blocks.{blocks_seen, first_latest, AreRuns}

-- as many blocks are seen as there are
pub length_seen : (bs : List Block) (es : List Entry) → length (blocks_seen bs es) ≡ length bs
length_seen [] es = refl
length_seen (b ∷ bs) es = ap suc (length_seen bs (take b.first es))

pub length_reversed_seen : (bs : List Block) (es : List Entry) → length (blocks_seen (reverse bs) es) ≡ length bs
length_reversed_seen bs es = length_seen (reverse bs) es ∙ length-reverse bs

-- they have all the entries
pub count_seen : (bs : List Block) (es : List Entry) → AreRuns bs (length es) → entry_count (blocks_seen bs es) ≡ length es
count_seen [] es none = sym none
count_seen (b ∷ bs) es runs =
    let own = length-drop b.first es in
    let long = length-take-le b.first es runs.0 in
    let lower = count_seen bs (take b.first es) (rw long runs.1) in
    omega (arith, own, long, lower, runs.0)

-- a block is entered at the end
last_reversed : (bs : List Block) (b : Block) → reverse (bs ++ (b ∷ [])) ≡ b ∷ reverse bs
last_reversed bs b = reverse-append bs (b ∷ [])

pub entered_seen : (bs : List Block) (b : Block) (es : List Entry) → b.first ≡ length es → blocks_seen (reverse (bs ++ (b ∷ []))) es ≡ entered [] b.update ∷ blocks_seen (reverse bs) es
entered_seen bs b es end =
    ap (λ all. blocks_seen all es) (last_reversed bs b)
    ∙ ap (λ own. entered own b.update ∷ blocks_seen (reverse bs) (take b.first es)) (drop_all b.first es (omega (arith, end)))
    ∙ ap (λ lower. entered [] b.update ∷ blocks_seen (reverse bs) lower) (take_all b.first es (omega (arith, end)))

pub entered_runs : (bs : List Block) (b : Block) (count : ℕ) → b.first ≡ count → AreRuns (reverse bs) count → AreRuns (reverse (bs ++ (b ∷ []))) count
entered_runs bs b count end runs = rw (last_reversed bs b) (omega (arith, end), rw end runs)

-- the entries of the latest block begin among those that are there
pub first_within : (bs : List Block) (count : ℕ) → AreRuns bs count → first_latest bs ≤ count
first_within [] count none = omega arith
first_within (b ∷ bs) count runs = runs.0

-- the latest block has other entries
pub changed_seen : (change : List Entry → List Entry) (bs : List Block) (es : List Entry) → AreRuns bs (length es)
    → blocks_seen bs (take (first_latest bs) es ++ change (drop (first_latest bs) es)) ≡ with_latest change (blocks_seen bs es)
changed_seen change [] es runs = refl
changed_seen change (b ∷ bs) es runs =
    ap (λ own. entered own b.update ∷ blocks_seen bs (take b.first (take b.first es ++ change (drop b.first es)))) (drop_at (take b.first es) (change (drop b.first es)) b.first long)
    ∙ ap (λ lower. entered (change (drop b.first es)) b.update ∷ blocks_seen bs lower) (take_at (take b.first es) (change (drop b.first es)) b.first long)
  where
    long : length (take b.first es) ≡ b.first
    long = length-take-le b.first es runs.0

pub changed_runs : (bs : List Block) (es own : List Entry) → 0 < length bs → AreRuns bs (length es) → AreRuns bs (length (take (first_latest bs) es ++ own))
changed_runs [] es own some runs = absurd (omega (arith, some))
changed_runs (b ∷ bs) es own some runs = (omega (arith, length-append (take b.first es) own, length-take-le b.first es runs.0), runs.1)
