-- What is done with answers that fit holds right values.
use Rattle.std.specs.Prelude.{ℕ, suc, ◌≡◌, List, [], ◌∷◌, All}
use Rattle.std.proofs.Common.{sym, subst, inl, inr}
use Rattle.std.proofs.lemmas.List.Elements.{All-head, All-tail}
use Rattle.hal_values.specs.declared.request.Request.{Request}
use Rattle.hal_values.specs.declared.request.Request.TheVariants as request
use Rattle.hal_values.specs.declared.tables.Cell.{Cell}
use Rattle.hal_values.specs.declared.tables.Tables.{Tables}
use Rattle.hal_values.specs.declared.value.Kind.{Kind}
use Rattle.hal_values.specs.declared.value.Value.{Value}
use Rattle.hal_values.specs.Answers.{Answered, Ends, FitsAlive, Fits}
use Rattle.hal_values.specs.Answers as answered
use Rattle.hal_values.specs.Kinds.{IsKind}
use Rattle.hal_values.specs.Tables.{IsCell, IsSnapshot}
use Rattle.hal_states.specs.Modes.{asking, opened, snapshot_of}
use Rattle.hal_states.specs.OfKinds.{told}
use Rattle.hal_states.specs.Spots.{Kept}
use Rattle.hal_code.specs.Addressing.{placed}
use Rattle.hal_code.specs.Cores.{Val, Setting, Core, core, going, Wait, Then, Goes, Pushes, Tried, Takes, Copies, Opens, Renews, Halts}
use Rattle.hal_code.specs.Machine.{begun, tried_by, taken_by, given, after_answer}
use Rattle.hal_sound_values.specs.Right.{IsRight}
use Rattle.hal_sound_values.proofs.KindsKept.{right_is, datum_is}
use Rattle.hal_right_values.specs.Ranges.{IsOfBytes}
use Rattle.hal_right_values.specs.Holding.{AreRightHeld, AreRight, Holding, HoldsAfter}
use Rattle.hal_right_values.proofs.Addressing.{low_rest, one_placed, Right-copied}
use Rattle.hal_right_values.proofs.Errors.{wrong_is}
use Rattle.hal_right_values.proofs.Raising.{mode_right, Right-raised, Right-rested}
use Rattle.hal_right_values.proofs.Rights.{told_right}
use Rattle.hal_right_values.proofs.Steps.{Known, Right, going_right, moves, waits}

-- the shared cells as an UPDATE block sees them
snapshot_right : (cells : List Cell) (values : List Value) → All IsCell cells → IsSnapshot cells values → AreRight values
snapshot_right [] [] are is = tt
snapshot_right [] (v ∷ values) are is = absurd (is)
snapshot_right (cell ∷ cells) [] are is = absurd (is)
snapshot_right (cell ∷ cells) (v ∷ values) are is = (right_is cell.kind v (All-head IsCell cell cells are).0 is.0, snapshot_right cells values (All-tail IsCell cell cells are) is.1)

-- a value that INPUT is told
datum_right : (tables : Tables) (ends : Ends) (channel : ℕ) (k : Kind) (v : Value) → IsKind k → FitsAlive tables ends (request.Input channel k) (answered.Told v) → IsRight v
datum_right tables ends channel k v is (inl fits) = subst IsRight (told_same fits.0 v fits.1) (datum_is k fits.0 is fits.2).0
  where
    told_same : (a b : Value) → answered.Told b ≡ answered.Told a → a ≡ b
    told_same a b e = cc
datum_right tables ends channel k v is (inr (inl fits)) = absurd (cc)
datum_right tables ends channel k v is (inr (inr fits)) = absurd (cc)

-- what an UPDATE block begins with
opened_right : (tables : Tables) (ends : Ends) (groups : ℕ) (a : Answered) → All IsCell tables.cells → FitsAlive tables ends (request.Update groups) a → AreRight (snapshot_of a)
opened_right tables ends groups a are fits = subst (λ one. AreRight (snapshot_of one)) (sym fits.2) (snapshot_right tables.cells fits.0 are fits.3)

module _ (s : Setting) (known : Known s) where
  -- a cycle begins
  pub Right-begun : (kept : Kept) → AreRightHeld kept.places → IsOfBytes kept.last → Right (begun s kept)
  Right-begun kept places last = waits request.Begin (Then Goes) (core (suc s.begin) [] [] [] [] kept asking) (record { operands = tt; frames = tt; places = places; last = last; store = tt; writes = tt }) tt

  module _ (tables : Tables) (cells : All IsCell tables.cells) (ends : Ends) (r : Request) (c : Core) (h : Holding c) where
    Right-tried : (a : Answered) → FitsAlive tables ends r a → Right (tried_by s a c)
    Right-tried answered.Begun fits = moves c h
    Right-tried (answered.Told v) fits = moves c h
    Right-tried answered.Done fits = moves c h
    Right-tried (answered.Wrong e) fits = Right-raised s known e c (wrong_is tables ends r e fits) h
    Right-tried (answered.Block snapshot turns) fits = moves c h
    Right-tried answered.Killed fits = moves c h

    -- without a value
    elsewhere : (target : ℕ) → Holding (going target c.stack c)
    elsewhere target = going_right c target c.stack h h.operands

    Right-taken : (target channel : ℕ) (k : Kind) (a : Answered) → r ≡ request.Input channel k → IsKind k → FitsAlive tables ends r a → Right (taken_by s target a c)
    Right-taken target channel k answered.Begun is kind fits = moves _ (elsewhere target)
    Right-taken target channel k (answered.Told v) is kind fits =
        moves _ (going_right c c.at (Val v ∷ c.stack) h (datum_right tables ends channel k v kind (subst (λ one. FitsAlive tables ends one (answered.Told v)) is fits), h.operands))
    Right-taken target channel k answered.Done is kind fits = moves _ (elsewhere target)
    Right-taken target channel k (answered.Wrong e) is kind fits = Right-raised s known e (going target c.stack c) (wrong_is tables ends r e fits) (elsewhere target)
    Right-taken target channel k (answered.Block snapshot turns) is kind fits = moves _ (elsewhere target)
    Right-taken target channel k answered.Killed is kind fits = moves _ (elsewhere target)

    Right-given : (w : Wait) (a : Answered) → HoldsAfter r w → FitsAlive tables ends r a → Right (given s w a c)
    Right-given (Then rest) a after fits = Right-rested s known rest c h after
    Right-given (Pushes k) a after fits = moves _ (going_right c c.at (Val (told k a) ∷ c.stack) h (told_right k a after, h.operands))
    Right-given Tried a after fits = Right-tried a fits
    Right-given (Takes target) a after fits = Right-taken target after.0 after.1 a after.2 after.3 fits
    Right-given (Copies k ks from place) a after fits = Right-copied s known ks from (suc place) (placed place (told k a) c) after.1 (low_rest ks from (suc place) after.2) (one_placed s known place (told k a) c (told_right k a after.0) h)
    Right-given (Opens groups) a after fits = moves _ (mode_right c (opened s.turns groups a) h (opened_right tables ends groups a cells (subst (λ one. FitsAlive tables ends one a) after fits)) tt)
    Right-given Renews a after fits = Right-begun c.kept h.places h.last
    Right-given (Halts e) a after fits = waits (request.Stop e) (Halts e) c h tt

    alive : (a : Answered) → (a ≡ answered.Killed → ⊥) → Fits tables ends r a → FitsAlive tables ends r a
    alive a not_killed (inl is) = absurd (not_killed is)
    alive a not_killed (inr fits) = fits

    -- an answer
    pub Right-answer : (w : Wait) (a : Answered) → HoldsAfter r w → Fits tables ends r a → Right (after_answer s w a c)
    Right-answer w answered.Killed after fits = Right-begun c.kept h.places h.last
    Right-answer w answered.Begun after fits = Right-given w answered.Begun after (alive answered.Begun (λ is. cc) fits)
    Right-answer w (answered.Told v) after fits = Right-given w (answered.Told v) after (alive (answered.Told v) (λ is. cc) fits)
    Right-answer w answered.Done after fits = Right-given w answered.Done after (alive answered.Done (λ is. cc) fits)
    Right-answer w (answered.Wrong e) after fits = Right-given w (answered.Wrong e) after (alive (answered.Wrong e) (λ is. cc) fits)
    Right-answer w (answered.Block snapshot turns) after fits = Right-given w (answered.Block snapshot turns) after (alive (answered.Block snapshot turns) (λ is. cc) fits)
