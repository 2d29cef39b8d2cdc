-- Cores that fit their image, and what is asked of one that waits.
use Rattle.std.specs.Prelude.{◌≡◌, ℕ, ◌≤◌, true, Bool, [], ◌∷◌}
use Rattle.hal_values.specs.declared.environment.ErrNo.{ErrNo}
use Rattle.hal_values.specs.declared.request.Request.{Request}
use Rattle.hal_values.specs.declared.request.Request.TheVariants as request
use Rattle.hal_values.specs.declared.value.Kind.{Kind}
use Rattle.hal_values.specs.declared.value.Value.{Value}
use Rattle.hal_values.specs.Answers.{error}
use Rattle.hal_states.specs.Spots.{Spot, Shared, Own, Nowhere}
use Rattle.hal_code.specs.Images.{places_of}
use Rattle.hal_code.specs.Cores.{Val, Setting, Core, going, Rest, Goes, Puts, Asks, Tries, Plans, Wait, Then, Pushes, Tried, Takes, Copies, Opens, Renews, Halts, Step, Waits, Moves, Counts}
use Rattle.hal_code.specs.Sorts.{sort_of}
use Rattle.hal_code.specs.Memory.{lies_from, own_memory}
use Rattle.hal_code.specs.Courses.{Asked}
use Rattle.hal_sound_code.specs.Lying.{LieAt, sort_of_value, sorts_of, AllLead, AreHeld}
use Rattle.hal_sound_code.specs.Standing.{Stands, AllEnter, AreBelow}

-- what a process keeps fits its own places
abbrev pub IsKept : Setting → Core → Type 0
IsKept s c = AreHeld s (places_of s.image s.process) c.kept.places

-- a core fits its image: all that it holds is as the instruction at which it stands takes it
pub record IsTyped (s : Setting) (c : Core) : Type 0 where
  -- the number of the block that runs, and whether an UPDATE block in it is entered
  pub number : ℕ
  pub inside : Bool
  -- the operands have the sorts that the flow has there
  pub stands : Stands s number inside c.at (sorts_of c.stack)
  pub lead : AllLead s c.stack
  pub enter : AllEnter s number inside c.entries
  pub below : AreBelow s number inside c.frames
  pub kept : IsKept s c

-- a value may be put at a spot
abbrev pub MayHold : Setting → Spot → Value → Type 0
MayHold s (Shared number) v = Unit {0}
MayHold s (Own number) v = (kind : Kind) × (lies_from (own_memory (places_of s.image s.process)) number (kind ∷ []) ≡ true) × (sort_of_value v ≡ sort_of kind)
MayHold s Nowhere v = Unit {0}

-- the error has a group
abbrev pub IsError : ErrNo → Type 0
IsError e = 1 ≤ e.group

-- what is asked isn't the end of a process that found no instruction for its operands
abbrev pub IsAsked : Request → Type 0
IsAsked r = (r ≡ request.Stop (error 0 0)) → ⊥

-- what is left of an instruction
abbrev pub IsLeft : Setting → Rest → Type 0
IsLeft s Goes = Unit {0}
IsLeft s (Puts at v) = MayHold s at v
IsLeft s (Asks r) = IsAsked r
IsLeft s (Tries r) = IsAsked r
IsLeft s (Plans plan again) = Unit {0}

-- the core fits with a value of the kind on its stack
abbrev pub IsTypedWith : Setting → Kind → Core → Type 0
IsTypedWith s kind c = (v : Value) → sort_of_value v ≡ sort_of kind → IsTyped s (going c.at (Val v ∷ c.stack) c)

-- the core fits as it will be after the answer
abbrev pub IsReady : Setting → Request → Wait → Core → Type 0
IsReady s r (Then rest) c = IsTyped s c × IsLeft s rest
IsReady s r (Pushes kind) c = IsTypedWith s kind c
IsReady s r Tried c = IsTyped s c
IsReady s r (Takes target) c = (channel : ℕ) × (kind : Kind) × (r ≡ request.Input channel kind) × IsTypedWith s kind c × IsTyped s (going target c.stack c)
IsReady s r (Copies kind kinds from at) c =
    IsTyped s c × (lies_from (own_memory (places_of s.image s.process)) at (kind ∷ kinds) ≡ true) × LieAt s from kinds
IsReady s r (Opens groups) c = IsTyped s c
IsReady s r Renews c = Unit {0}
IsReady s r (Halts e) c = IsError e

-- a process waits in order: it isn't stuck, what it keeps fits its own places, and it goes on as its image has it
pub record Awaits (s : Setting) (r : Request) (w : Wait) (c : Core) : Type 0 where
  pub asked : IsAsked r
  pub kept : IsKept s c
  pub ready : IsReady s r w c

abbrev pub IsAwaited : Setting → Asked → Type 0
IsAwaited s one = Awaits s one.request one.wait one.core

-- a step leads to a core that fits, or to one that waits in order
abbrev pub IsTypedStep : Setting → Step → Type 0
IsTypedStep s (Waits r w c) = Awaits s r w c
IsTypedStep s (Moves c) = IsTyped s c
IsTypedStep s (Counts c) = IsTyped s c
