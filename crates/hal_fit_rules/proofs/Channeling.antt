-- A channel that agrees is one, where no rule of types is broken.
use Rattle.std.proofs.Common.{◌≡◌, ℕ, nat_le, ℤ, pos, Bool, true, false, List, [], length, Some, None, inl, if◌then◌else◌, refl, sym, ◌∙◌, arith}
use Rattle.std.proofs.lemmas.Bool.{leb-true, lt-ltb}
use Rattle.hal_base.specs.declared.limits.TheConstants.{CHANNEL_COUNT}
use Rattle.hal_base.specs.declared.refusal.Place.{Place}
use Rattle.hal_grammar.specs.Expressions.{Expression, place_of}
use Rattle.hal_phrases.specs.declared.around.Around.{Around}
use Rattle.hal_phrases.specs.declared.role.Role.TheVariants as role
use Rattle.hal_phrases.specs.Phrases.{Phrase, phrase, add, OfExpression}
use Rattle.hal_scope.specs.Rules.{IsSound}
use Rattle.hal_values.specs.declared.value.Value.{Value}
use Rattle.hal_values.specs.declared.value.Value.TheVariants as value
use Rattle.hal_constants.specs.declared.constant.Constant.{Constant}
use Rattle.hal_constants.specs.declared.constant.Constant.TheVariants as constant
use Rattle.hal_constants.specs.Constants.{constant_of}
use Rattle.hal_constants.specs.Known.{known}
use Rattle.hal_sizes.specs.Constancy.{inconstant, inconstant_as, mischannelled, mischannelled_value, is_channel}
use Rattle.hal_types.specs.Rules.{size_rows, type_rows}
use Rattle.hal_states.specs.Modes.{asking}
use Rattle.hal_states.specs.Spots.{kept}
use Rattle.hal_meaning.specs.States.{State, Gives, Lost, state}
use Rattle.hal_meaning.specs.Tasks.{Meaning}
use Rattle.hal_agreement.specs.Constants.{IsConstant}
use Rattle.hal_agreement.specs.Sites.{Site, here_at}
use Rattle.hal_fit.specs.Stating.{ChannelFits}
use Rattle.hal_fit_rules.specs.Begun.{AreFirst}
use Rattle.hal_fit_rules.specs.Channels.{ChannelAgrees}
use Rattle.hal_fit_rules.proofs.Beginning.{among}
use Rattle.hal_fit_rules.proofs.Unbroken.{unbroken, of_sizes}

-- an expression has one value: it gives this in any state, so in one in which nothing was done
nothing_done : Meaning
nothing_done = λ task st. Lost

first_state : State
first_state = state (kept [] (record { group = 0; number = 0 })) [] asking []

same_value : (v w : Value) (st : State) → Gives v st ≡ Gives w st → v ≡ w
same_value v w st is = cc

one_value : (site : Site) (tree : Expression) (v w : Value) → IsConstant site tree v → IsConstant site tree w → v ≡ w
one_value site tree v w is also = same_value v w first_state (sym (is nothing_done (here_at site) first_state refl) ∙ also nothing_done (here_at site) first_state refl)

same_integer : (m n : ℤ) → value.Int m ≡ value.Int n → m ≡ n
same_integer m n is = cc

same_number : (m n : ℕ) → pos m ≡ pos n → m ≡ n
same_number m n is = cc

-- what is no fault is a channel, or of a wrong kind
record IsChannel (c : Constant) : Type 0 where
  number : ℕ
  is : c ≡ constant.Worth (value.Int (pos number))
  small : nat_le number 31 ≡ true

chosen_small : (small : Bool) (fault : ℕ × Place) → (if small then None else Some fault) ≡ None → small ≡ true
chosen_small true fault none = refl
chosen_small false fault none = absurd (cc)

integer_fault : (n : ℤ) (fault : ℕ × Place) → (if is_channel n then None else Some fault) ≡ None → IsChannel (constant.Worth (value.Int n))
unfolding is_channel
integer_fault (pos n) fault none = record { number = n; is = refl; small = chosen_small (nat_le n 31) fault none }
integer_fault other fault none = absurd (cc)

channel_of : (place : Place) (c : Constant) → mischannelled place c ≡ None → (c ≡ constant.Unfit → ⊥) → IsChannel c
unfolding mischannelled mischannelled_value
channel_of place (constant.Worth (value.Int n)) none fit = integer_fault n (718, place) none
channel_of place (constant.Worth (value.Bits len word)) none fit = absurd (cc)
channel_of place (constant.Worth (value.Text text)) none fit = absurd (cc)
channel_of place constant.Unfit none fit = absurd (fit refl)
channel_of place constant.Open none fit = absurd (cc)
channel_of place constant.Failed none fit = absurd (cc)

module _ (ps : List Phrase) (sound : IsSound type_rows ps) where
  channel_right : (d : List Phrase) (a : Around) (t : Expression) → AreFirst (add d a (OfExpression role.Channel t)) ps
      → mischannelled (place_of t) (constant_of ps (known ps) (phrase (length d) a (OfExpression role.Channel t)) t) ≡ None
  unfolding size_rows inconstant inconstant_as
  channel_right d a t first =
      unbroken type_rows ps sound (phrase (length d) a (OfExpression role.Channel t)) (among ps d a (OfExpression role.Channel t) first) (λ qs q. inconstant qs (known qs) q q.node)
      (of_sizes (λ qs q. inconstant qs (known qs) q q.node) (inl refl))

  pub channel_fits : (site : Site) (d : List Phrase) (a : Around) (t : Expression) → AreFirst (add d a (OfExpression role.Channel t)) ps
      → ChannelAgrees site ps (phrase (length d) a (OfExpression role.Channel t)) t → ChannelFits site t
  channel_fits site d a t first agree number is =
      let one = channel_of (place_of t) (constant_of ps (known ps) (phrase (length d) a (OfExpression role.Channel t)) t) (channel_right d a t first) agree.fit in
      let same = same_number one.number number (same_integer (pos one.number) (pos number) (one_value site t (value.Int (pos one.number)) (value.Int (pos number)) (agree.constant (value.Int (pos one.number)) one.is) is)) in
      lt-ltb number CHANNEL_COUNT (omega (arith, same, leb-true one.number 31 one.small))
