-- A subscript that is known to choose several places chooses them.
use Rattle.std.specs.Prelude.{◌≡◌, ℕ, ◌+◌, ℤ, pos, ◌+ℤ◌, ◌-ℤ◌, Bool, true, false, ◌&&◌, Option, Some, None, if◌then◌else◌}
use Rattle.std.specs.Option.{option_and_then, is_some}
use Rattle.std.proofs.Common.{refl, sym, ap, ◌∙◌}
use Rattle.hal_grammar.specs.Expressions.{Sub, Every, Range, Portion, One as OnePlace}
use Rattle.hal_states.specs.Numbers.{is_inside, before_nearest}
use Rattle.hal_meaning.specs.Variables.{Dimension}
use Rattle.hal_agreement.specs.PlacedExpressions.{IsSpan, SpanAt}
use Rattle.hal_agreement.specs.Sites.{Site}
use Rattle.hal_gen_expr.specs.declared.spans.Span.{Span}
use Rattle.hal_gen_expr.specs.Constants.{integer_of, place_of}
use Rattle.hal_gen_expr.specs.Spans.{a_span, from_to, so_many_at, span_of, places_before_span, places_skipped, elements_behind, elements_skipped}
use Rattle.hal_gen_expr.proofs.Constancy.{constant_at, place_at}

span_is : (s t : Span) → Some s ≡ Some t → s ≡ t
span_is s t is = cc

from_to_known : (o p : Option ℤ) (span : Span) → from_to o p ≡ Some span → (o ≡ Some span.first) × (p ≡ Some span.last)
from_to_known (Some a) (Some b) span is = let same = span_is (a_span a b) span is in (ap (λ (s : Span). Some s.first) same, ap (λ (s : Span). Some s.last) same)
from_to_known (Some a) None span is = absurd (cc)
from_to_known None p span is = absurd (cc)

so_many_known : (o p : Option ℤ) (span : Span) → so_many_at o p ≡ Some span → (n : ℤ) × (o ≡ Some n) × (p ≡ Some span.first) × (span.last ≡ (span.first +ℤ n) -ℤ pos 1)
so_many_known (Some n) (Some a) span is =
    let same = span_is (a_span a ((a +ℤ n) -ℤ pos 1)) span is in
    (n, refl, ap (λ (s : Span). Some s.first) same, sym (ap (λ (s : Span). s.last) same) ∙ ap (λ (s : Span). (s.first +ℤ n) -ℤ pos 1) same)
so_many_known (Some n) None span is = absurd (cc)
so_many_known None p span is = absurd (cc)

module _ (site : Site) where
  span_known : (size : ℕ) (sub : Sub) (span : Span) → span_of site size sub ≡ Some span → IsSpan site size sub span.first span.last
  span_known size (Every there) span is = let same = span_is (a_span (pos 1) (pos size)) span is in (sym (ap (λ (s : Span). s.first) same), sym (ap (λ (s : Span). s.last) same))
  span_known size (OnePlace one) span is = absurd (cc)
  span_known size (Range one other) span is =
      let both = from_to_known (place_of site size one) (place_of site size other) span is in (place_at site one size span.first both.0, place_at site other size span.last both.1)
  span_known size (Portion count one) span is =
      let known = so_many_known (integer_of site count) (place_of site size one) span is in
      (known.0, constant_at site count known.0 known.1, place_at site one size span.first known.2, known.3)

  inside_by : (d : Dimension) (sub : Sub) (span : Span) → IsSpan site d.size sub span.first span.last → (b : Bool) → (is_inside d.size span.first && is_inside d.size span.last) ≡ b
      → is_some (if b then Some (before_nearest d.size span.first) else None) ≡ true → SpanAt site d sub (elements_behind d.stride (if b then Some (before_nearest d.size span.first) else None))
  inside_by d sub span known true inside is = record { first = span.first; last = span.last; span = known; inside = inside; behind = refl }
  inside_by d sub span known false inside is = absurd (cc)

  span_by : (d : Dimension) (sub : Sub) (o : Option Span) → ((span : Span) → o ≡ Some span → IsSpan site d.size sub span.first span.last) → is_some (option_and_then (places_before_span d.size) o) ≡ true
      → SpanAt site d sub (elements_behind d.stride (option_and_then (places_before_span d.size) o))
  span_by d sub None known is = absurd (cc)
  span_by d sub (Some span) known is = inside_by d sub span (known span refl) (is_inside d.size span.first && is_inside d.size span.last) refl is

  -- several places that are skipped lie inside
  pub span_at : (d : Dimension) (sub : Sub) → is_some (places_skipped site d.size sub) ≡ true → SpanAt site d sub (elements_skipped site d sub)
  span_at d sub is = span_by d sub (span_of site d.size sub) (span_known d.size sub) is
