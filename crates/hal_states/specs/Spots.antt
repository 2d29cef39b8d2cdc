-- Where data lie, and what a process keeps.
use Rattle.std.specs.Prelude.{ℕ, ◌+◌, List, pos, Option, Some}
use Rattle.hal_values.specs.declared.environment.ErrNo.{ErrNo}
use Rattle.hal_values.specs.declared.value.Value.{Value}
use Rattle.hal_values.specs.declared.value.Value.TheVariants as value

-- where the first of some cells lies: a shared cell, an own place, or nowhere
pub data Spot : Type 0 where
  Shared Own : (number : ℕ) → Spot
  Nowhere : Spot

-- what an own place holds: a value, or what an ASSIGN parameter stands for
pub data Held : Type 0 where
  Holds : (value : Value) → Held
  Refers : (spot : Spot) → Held

-- what a process keeps over its cycles: its own places, and its last error
pub record Kept : Type 0 where
  pub places : List Held
  pub last : ErrNo

abbrev pub kept : List Held → ErrNo → Kept
kept places last = record { places = places; last = last }

-- the value that an own place holds
abbrev pub held_in : Option Held → Value
held_in (Some (Holds v)) = v
held_in other = value.Int (pos 0)

-- where an ASSIGN parameter's data lie
abbrev pub referred_to : Option Held → Spot
referred_to (Some (Refers at)) = at
referred_to other = Nowhere

-- the spot so many elements further on
abbrev pub further : ℕ → Spot → Spot
further n (Shared c) = Shared (c + n)
further n (Own k) = Own (k + n)
further n Nowhere = Nowhere
