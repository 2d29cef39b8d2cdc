-- What is done with fitting answers fits.
use Rattle.std.specs.Prelude.{ℕ, suc, ◌≤◌, ◌≡◌, ◌⊎◌, ◌∷◌}
use Rattle.std.proofs.Common.{refl, ap, subst, inl, inr, arith}
use Rattle.hal_values.specs.declared.environment.ErrNo.{ErrNo}
use Rattle.hal_values.specs.declared.request.Request.{Request}
use Rattle.hal_values.specs.declared.request.Request.TheVariants as request
use Rattle.hal_values.specs.declared.tables.Tables.{Tables}
use Rattle.hal_values.specs.declared.value.Kind.{Kind}
use Rattle.hal_values.specs.declared.value.Kind.TheVariants as kind
use Rattle.hal_values.specs.declared.value.Value.{Value}
use Rattle.hal_values.specs.declared.value.Value.TheVariants as value
use Rattle.hal_values.specs.Answers.{Answered, Ends, FitsAlive, Fits, error}
use Rattle.hal_values.specs.Answers as answered
use Rattle.hal_values.specs.Kinds.{IsDatum}
use Rattle.hal_states.specs.Modes.{opened}
use Rattle.hal_states.specs.OfKinds.{told}
use Rattle.hal_code.specs.Addressing.{placed, copied}
use Rattle.hal_code.specs.Cores.{Val, Setting, Core, going, with_mode, Wait, Then, Pushes, Tried, Takes, Copies, Opens, Renews, Halts, Step, Moves}
use Rattle.hal_code.specs.Images.{places_of}
use Rattle.hal_code.specs.Machine.{tried_by, taken_by, given, after_answer}
use Rattle.hal_code.specs.Memory.{own_memory}
use Rattle.hal_code.specs.Sorts.{sort_of}
use Rattle.hal_sound_code.specs.Lying.{sort_of_value}
use Rattle.hal_sound_code.specs.Typed.{IsTyped, IsTypedWith, IsError, Awaits}
use Rattle.hal_sound_code.proofs.Addressing.{told_sort}
use Rattle.hal_sound_code.proofs.Copying.{well_placed, Typed-copied}
use Rattle.hal_sound_code.proofs.Grounds.{Ground, Typed-begun}
use Rattle.hal_sound_code.proofs.Places.{First, first_lies}
use Rattle.hal_sound_code.proofs.Raising.{Typed-raised, Typed-rested}
use Rattle.hal_sound_code.proofs.Stepping.{Well, Typed, typed_with, stops, moves, awaits}

-- a datum is of the sort of its receiver
datum_sort : (k : Kind) (v : Value) → IsDatum k v → sort_of_value v ≡ sort_of k
datum_sort kind.Single (value.Int a) is = refl
datum_sort kind.Single (value.Bits len word) is = absurd (is)
datum_sort kind.Single (value.Text text) is = absurd (is)
datum_sort kind.Double (value.Int a) is = refl
datum_sort kind.Double (value.Bits len word) is = absurd (is)
datum_sort kind.Double (value.Text text) is = absurd (is)
datum_sort (kind.Bits n) (value.Int a) is = absurd (is.3)
datum_sort (kind.Bits n) (value.Bits len word) is = refl
datum_sort (kind.Bits n) (value.Text text) is = absurd (is.3)
datum_sort (kind.Text n) (value.Int a) is = absurd (is)
datum_sort (kind.Text n) (value.Bits len word) is = absurd (is)
datum_sort (kind.Text n) (value.Text text) is = refl

group_above : (e : ErrNo) (g n : ℕ) → answered.Wrong e ≡ answered.Wrong (error g n) → 1 ≤ g → IsError e
group_above e g n same high = omega (arith, high, group)
  where
    group : e.group ≡ g
    group = ap (λ (x : ErrNo). x.group) (let is : e ≡ error g n = cc in is)

done_or : (e : ErrNo) (g n : ℕ) → 1 ≤ g → (answered.Wrong e ≡ answered.Done) ⊎ (answered.Wrong e ≡ answered.Wrong (error g n)) → IsError e
done_or e g n high (inl is) = absurd (cc)
done_or e g n high (inr is) = group_above e g n is high

-- an error that is answered has a group
wrong_is : (tables : Tables) (ends : Ends) (r : Request) (e : ErrNo) → FitsAlive tables ends r (answered.Wrong e) → IsError e
wrong_is tables ends (request.Schedule plan) e fits = done_or e 2 1 (omega arith) fits
wrong_is tables ends (request.Cancel process) e fits = done_or e 2 2 (omega arith) fits
wrong_is tables ends (request.Terminate process) e (inl is) = absurd (cc)
wrong_is tables ends (request.Terminate process) e (inr (inl is)) = group_above e 2 2 is (omega arith)
wrong_is tables ends (request.Terminate process) e (inr (inr is)) = group_above e 2 3 is (omega arith)
wrong_is tables ends (request.Priority process n) e fits = done_or e 2 2 (omega arith) fits
wrong_is tables ends (request.Input channel k) e (inl is) = absurd (let no : answered.Wrong e ≡ answered.Told is.0 = is.1 in cc)
wrong_is tables ends (request.Input channel k) e (inr (inl is)) = group_above e 3 1 is (omega arith)
wrong_is tables ends (request.Input channel k) e (inr (inr is)) = group_above e 3 2 is (omega arith)
wrong_is tables ends (request.Read spot) e fits = absurd (let no : answered.Wrong e ≡ answered.Told fits.0 = fits.1 in cc)
wrong_is tables ends (request.Update groups) e fits = absurd (let no : answered.Wrong e ≡ answered.Block fits.0 fits.1 = fits.2 in cc)
wrong_is tables ends request.Now e fits = absurd (let no : answered.Wrong e ≡ answered.Told fits.0 = fits.1 in cc)
wrong_is tables ends (request.Stop other) e fits = absurd (fits)
wrong_is tables ends (request.Look cell) e fits = absurd (fits)
wrong_is tables ends (request.Close turns) e fits = absurd (fits)
wrong_is tables ends other e fits = absurd (cc)

-- a value that INPUT is told is of the sort of the receiver
told_is : (tables : Tables) (ends : Ends) (channel : ℕ) (k : Kind) (v : Value) → FitsAlive tables ends (request.Input channel k) (answered.Told v) → sort_of_value v ≡ sort_of k
told_is tables ends channel k v (inl is) = datum_sort k v (subst (IsDatum k) (let same : is.0 ≡ v = told_same v is.0 is.1 in same) is.2)
  where
    told_same : (a b : Value) → answered.Told a ≡ answered.Told b → b ≡ a
    told_same a b e = cc
told_is tables ends channel k v (inr (inl is)) = absurd (cc)
told_is tables ends channel k v (inr (inr is)) = absurd (cc)

-- a step that fits, with some turns
abbrev pub Fitting : Setting → Step → Type 0
Fitting s step = (most : ℕ) × Typed s most step

module _ (s : Setting) (ground : Ground s) (tables : Tables) (ends : Ends) (r : Request) (c : Core) where
  -- a core that fits, with its turns
  well_of : (d : Core) → IsTyped s d → Well s d.mode.turns d
  well_of d typed = record { typed = typed; few = omega arith }

  goes : (d : Core) → IsTyped s d → Fitting s (Moves d)
  goes d typed = (d.mode.turns, moves s d.mode.turns d (well_of d typed))

  Fitting-tried : (a : Answered) → IsTyped s c → FitsAlive tables ends r a → Fitting s (tried_by s a c)
  Fitting-tried answered.Begun typed fits = goes c typed
  Fitting-tried (answered.Told v) typed fits = goes c typed
  Fitting-tried answered.Done typed fits = goes c typed
  Fitting-tried (answered.Wrong e) typed fits = (c.mode.turns, Typed-raised s c.mode.turns e c (wrong_is tables ends r e fits) (well_of c typed))
  Fitting-tried (answered.Block snapshot turns) typed fits = goes c typed
  Fitting-tried answered.Killed typed fits = goes c typed

  Fitting-taken : (target channel : ℕ) (k : Kind) (a : Answered) → r ≡ request.Input channel k → IsTypedWith s k c → IsTyped s (going target c.stack c) → FitsAlive tables ends r a → Fitting s (taken_by s target a c)
  Fitting-taken target channel k answered.Begun is with_value without fits = goes (going target c.stack c) without
  Fitting-taken target channel k (answered.Told v) is with_value without fits = goes (going c.at (Val v ∷ c.stack) c) (with_value v (told_is tables ends channel k v (subst (λ one. FitsAlive tables ends one (answered.Told v)) is fits)))
  Fitting-taken target channel k answered.Done is with_value without fits = goes (going target c.stack c) without
  Fitting-taken target channel k (answered.Wrong e) is with_value without fits = (c.mode.turns, Typed-raised s c.mode.turns e (going target c.stack c) (wrong_is tables ends r e fits) (well_of (going target c.stack c) without))
  Fitting-taken target channel k (answered.Block snapshot turns) is with_value without fits = goes (going target c.stack c) without
  Fitting-taken target channel k answered.Killed is with_value without fits = goes (going target c.stack c) without

  Fitting-given : (w : Wait) (a : Answered) → Awaits s r w c → FitsAlive tables ends r a → Fitting s (given s w a c)
  Fitting-given (Then rest) a waits fits = (c.mode.turns, Typed-rested s c.mode.turns rest c (well_of c waits.ready.0) waits.ready.1)
  Fitting-given (Pushes k) a waits fits = goes (going c.at (Val (told k a) ∷ c.stack) c) (waits.ready (told k a) (told_sort k a))
  Fitting-given Tried a waits fits = Fitting-tried a waits.ready fits
  Fitting-given (Takes target) a waits fits = Fitting-taken target waits.ready.0 waits.ready.1 a waits.ready.2 waits.ready.3 waits.ready.4 fits
  Fitting-given (Copies k ks from place) a waits fits = with_first (first_lies (own_memory (places_of s.image s.process)) place k ks waits.ready.1)
    where
      with_first : First (own_memory (places_of s.image s.process)) place k ks → Fitting s (copied s ks from (suc place) (placed place (told k a) c))
      with_first f = (c.mode.turns, Typed-copied s c.mode.turns ground.same ks from (suc place) (placed place (told k a) c) (well_placed s c.mode.turns place k (told k a) c (well_of c waits.ready.0) f.there (told_sort k a)) waits.ready.2 f.others)
  Fitting-given (Opens groups) a waits fits = goes (with_mode (opened s.turns groups a) c) (typed_with s c c.line (opened s.turns groups a) c.kept.last waits.ready)
  Fitting-given Renews a waits fits = (0, Typed-begun s ground 0 c.kept waits.kept)
  Fitting-given (Halts e) a waits fits = (0, awaits s 0 (request.Stop e) (Halts e) c (stops e waits.ready) waits.kept waits.ready)

  alive : (a : Answered) → (a ≡ answered.Killed → ⊥) → Fits tables ends r a → FitsAlive tables ends r a
  alive a not_killed (inl is) = absurd (not_killed is)
  alive a not_killed (inr fits) = fits

  -- an answer
  pub Fitting-answer : (w : Wait) (a : Answered) → Awaits s r w c → Fits tables ends r a → Fitting s (after_answer s w a c)
  Fitting-answer w answered.Killed waits fits = (0, Typed-begun s ground 0 c.kept waits.kept)
  Fitting-answer w answered.Begun waits fits = Fitting-given w answered.Begun waits (alive answered.Begun (λ is. cc) fits)
  Fitting-answer w (answered.Told v) waits fits = Fitting-given w (answered.Told v) waits (alive (answered.Told v) (λ is. cc) fits)
  Fitting-answer w answered.Done waits fits = Fitting-given w answered.Done waits (alive answered.Done (λ is. cc) fits)
  Fitting-answer w (answered.Wrong e) waits fits = Fitting-given w (answered.Wrong e) waits (alive (answered.Wrong e) (λ is. cc) fits)
  Fitting-answer w (answered.Block snapshot turns) waits fits = Fitting-given w (answered.Block snapshot turns) waits (alive (answered.Block snapshot turns) (λ is. cc) fits)
