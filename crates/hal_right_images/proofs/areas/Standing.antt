-- The kinds of an array's elements stand among those of the array that is passed.
use Rattle.std.specs.Prelude.{◌≡◌, ◌<◌, ◌≤◌, ◌+◌, ℕ, zero, suc, true, List, [], ◌∷◌, ◌++◌, map, replicate, None, Some, slice_get}
use Rattle.std.proofs.Common.{refl, sym, ap, subst, ◌∙◌, arith, append-nil}
use Rattle.std.proofs.lemmas.Bool.{eqb-true}
use Rattle.hal_grammar.specs.Expressions.{Subscript, Unsubscripted, ByName, ByInteger, ByParts}
use Rattle.hal_scope.specs.Rules.{IsAmong}
use Rattle.hal_values.specs.declared.value.Kind.{Kind}
use Rattle.hal_values.specs.declared.value.Kind.TheVariants as kind
use Rattle.hal_code.specs.Memory.{offsets}
use Rattle.hal_shapes.specs.Shapes.{same_kind}
use Rattle.hal_meaning.specs.Elements.{Shape, chosen, copy_size, kinds_of, offset, product}
use Rattle.hal_meaning.specs.Variables.{kind_of_first, sizes_of_first}
use Rattle.hal_agreement.specs.Sites.{Site}
use Rattle.hal_gen_expr.specs.Led.{Led, array_list, rows_left, skips_led, sizes_led}
use Rattle.hal_gen_expr.specs.Numbering.{most, row_of}
use Rattle.hal_right_images.proofs.rows.Formed.{IsFormed}
use Rattle.hal_right_images.specs.views.Left.{LeadSomewhere}
use Rattle.hal_right_images.proofs.views.Choosing.{chosen_there, only_first}
use Rattle.hal_right_images.proofs.views.Held.{StandFrom, one_stands}
use Rattle.hal_right_images.specs.areas.Blocks.{Leave, Follow}
use Rattle.hal_right_images.proofs.areas.Blocks.{block_there, whole_there}
use Rattle.hal_right_images.proofs.areas.Plainly.{plain_with}
use Rattle.hal_right_images.proofs.areas.Spans.{IsLeft}

-- kinds that are the same for the checks are
pub same_kind_is : (k l : Kind) → same_kind k l ≡ true → k ≡ l
unfolding same_kind
same_kind_is kind.Single kind.Single is = refl
same_kind_is kind.Double kind.Double is = refl
same_kind_is (kind.Bits m) (kind.Bits n) is = ap kind.Bits (eqb-true m n is)
same_kind_is (kind.Text m) (kind.Text n) is = ap kind.Text (eqb-true m n is)
same_kind_is kind.Single kind.Double is = absurd (cc)
same_kind_is kind.Single (kind.Bits n) is = absurd (cc)
same_kind_is kind.Single (kind.Text n) is = absurd (cc)
same_kind_is kind.Double kind.Single is = absurd (cc)
same_kind_is kind.Double (kind.Bits n) is = absurd (cc)
same_kind_is kind.Double (kind.Text n) is = absurd (cc)
same_kind_is (kind.Bits m) kind.Single is = absurd (cc)
same_kind_is (kind.Bits m) kind.Double is = absurd (cc)
same_kind_is (kind.Bits m) (kind.Text n) is = absurd (cc)
same_kind_is (kind.Text m) kind.Single is = absurd (cc)
same_kind_is (kind.Text m) kind.Double is = absurd (cc)
same_kind_is (kind.Text m) (kind.Bits n) is = absurd (cc)

at_replicate : (n j : ℕ) (k x : Kind) → slice_get (replicate n k) j ≡ Some x → (j < n) × (k ≡ x)
at_replicate zero j k x is = absurd (cc)
at_replicate (suc n) zero k x is = (omega arith, (let same : k ≡ x = cc in same))
at_replicate (suc n) (suc j) k x is = let rest = at_replicate n j k x is in (let low = rest.0 in omega (arith, low), rest.1)

plain_kinds : (k : Kind) (ns : List ℕ) → kinds_of (plain_with k ns) ≡ replicate (product ns) k
plain_kinds k ns = append-nil (replicate (product ns) k ++ []) ∙ append-nil (replicate (product ns) k)

-- the elements of an array of this kind
pub block_stands : (ks : List Kind) (m : ℕ) (k : Kind) (ws : List ℕ) (shape : Shape) → shape ≡ plain_with k ws → ((j : ℕ) → j < product ws → slice_get ks (m + j) ≡ Some k) → StandFrom ks m (kinds_of shape)
block_stands ks m k ws shape is there j other at =
    let same : kinds_of shape ≡ replicate (product ws) k = ap kinds_of is ∙ plain_kinds k ws in
    let one = at_replicate (product ws) j k other (ap (λ l. slice_get l j) (sym same) ∙ at) in
    there j one.0 ∙ ap Some one.1

-- data that are one component
pub record IsPlainLed (l : Led) (k : Kind) (ns : List ℕ) : Type 0 where
  pub kind_is : kind_of_first (chosen l.path l.shape.components) ≡ k
  pub sizes : sizes_led l ≡ ns
  pub some : LeadSomewhere (chosen l.path l.shape.components)

pub plain_led : (l : Led) (k : Kind) (ns : List ℕ) → l.path ≡ [] → l.shape ≡ plain_with k ns → IsPlainLed l k ns
plain_led l k ns path shape =
    let cs : chosen l.path l.shape.components ≡ record { path = []; kind = k; sizes = ns } ∷ [] = ap (λ p. chosen p l.shape.components) path ∙ ap (λ (x : Shape). chosen [] x.components) shape in
    record { kind_is = ap kind_of_first cs; sizes = ap sizes_of_first cs; some = subst LeadSomewhere (sym cs) tt }

-- nothing has cells
pub none_stand : (ks : List Kind) (m : ℕ) (shape : Shape) → shape ≡ record { copies = None; components = [] } → StandFrom ks m (kinds_of shape)
none_stand ks m shape is j k at = absurd (let same = ap (λ (x : Shape). slice_get (kinds_of x) j) (sym is) ∙ at in cc)

-- where the elements of an argument stand that have the kinds of these
abbrev pub Stands : Site → Led → Subscript → List Kind → Type 0
Stands site l subscript kinds =
    (o : ℕ) → IsAmong o (offsets (map row_of (rows_left subscript l))) → StandFrom (kinds_of l.shape) ((skips_led site subscript l + offset l.path l.shape.components) + o) kinds

-- what a subscript leaves of an array for a parameter of these sizes
abbrev pub IsLeftBy : Site → List ℕ → List ℕ → Subscript → Type 0
IsLeftBy site ws ns Unsubscripted = product ws ≡ product ns
IsLeftBy site ws ns (ByName there name) = ⊥
IsLeftBy site ws ns (ByInteger there mark number) = ⊥
IsLeftBy site ws ns (ByParts there copies arrays components) = IsLeft site ws ns (array_list arrays components)

module _ (site : Site) (l : Led) (formed : IsFormed l.shape) (few : copy_size l.shape.components ≤ most) (k : Kind) (ns : List ℕ) (plain : IsPlainLed l k ns) where
  -- one element
  pub single_stands : (subscript : Subscript) (shape : Shape) → shape ≡ plain_with k [] → Stands site l subscript (kinds_of shape)
  single_stands subscript shape is o among =
      subst (λ zs. StandFrom (kinds_of l.shape) ((skips_led site subscript l + offset l.path l.shape.components) + o) zs) (sym (ap kinds_of is))
      (one_stands (kinds_of l.shape) ((skips_led site subscript l + offset l.path l.shape.components) + o) k (chosen_there site l formed plain.some few subscript o among ∙ ap Some plain.kind_is))

  -- what subscripts leave of an array
  parts_stand : (there : _) (copies arrays components : _) (ws : List ℕ) (shape : Shape) → shape ≡ plain_with k ws → IsLeft site ws ns (array_list arrays components) → Stands site l (ByParts there copies arrays components) (kinds_of shape)
  parts_stand there copies arrays components ws shape is left o among =
      block_stands (kinds_of l.shape) ((skips_led site (ByParts there copies arrays components) l + offset l.path l.shape.components) + o) k ws shape is
      (λ j low. block_there site l formed plain.some few there copies arrays components left.lefts o j (subst (λ ms. Leave site ms (array_list arrays components) left.lefts) (sym plain.sizes) left.leave)
      (subst (λ ms. Follow ms left.lefts) (sym plain.sizes) left.follow) among (let same = left.same in omega (arith, low, same)) ∙ ap Some plain.kind_is)

  -- a whole array
  array_stands : (ws : List ℕ) (shape : Shape) → shape ≡ plain_with k ws → product ws ≡ product ns → Stands site l Unsubscripted (kinds_of shape)
  array_stands ws shape is same o among =
      block_stands (kinds_of l.shape) ((0 + offset l.path l.shape.components) + o) k ws shape is
      (λ j low.
      let none = only_first o among in
      let first = offset l.path l.shape.components in
      let place : first + j ≡ ((0 + first) + o) + j = omega (arith, none) in
      let size = ap product plain.sizes in
      subst (λ m. slice_get (kinds_of l.shape) m ≡ Some k) place (whole_there site l formed plain.some few j (omega (arith, low, same, size)) ∙ ap Some plain.kind_is))

  pub left_stands : (subscript : Subscript) (ws : List ℕ) (shape : Shape) → shape ≡ plain_with k ws → IsLeftBy site ws ns subscript → Stands site l subscript (kinds_of shape)
  left_stands Unsubscripted ws shape is left = array_stands ws shape is left
  left_stands (ByName there name) ws shape is left = absurd left
  left_stands (ByInteger there mark number) ws shape is left = absurd left
  left_stands (ByParts there copies arrays components) ws shape is left = parts_stand there copies arrays components ws shape is left
