-- How far a text was put into a sink.
use Rattle.std.proofs.Common.{◌≡◌, ℕ, ◌+◌, ◌≤◌, List, ◌++◌, length, take, drop, refl, ap, ◌∙◌, sym, arith, append_assoc, append-nil, Option, Some, None, subst, length-drop, take-add, drop-drop}
use Rattle.hal_base.specs.Sink.{Takes, Keeps}

pub record IsDrained (before now : Option (List ℕ)) (text rest : List ℕ) : Type 0 where
  pub done : ℕ
  pub within : done ≤ length text
  pub left : rest ≡ drop done text
  pub taken : Takes before now text done

takes-none : (before : Option (List ℕ)) (text : List ℕ) → Takes before before text 0
takes-none None text = tt
takes-none (Some bytes) text = ap Some (sym (append-nil bytes))

pub IsDrained-start : (before : Option (List ℕ)) (text : List ℕ) → IsDrained before before text text
IsDrained-start before text = record { done = 0; within = omega arith; left = refl; taken = takes-none before text }

takes-more : (before now later : Option (List ℕ)) (text : List ℕ) (m n : ℕ) → Takes before now text m → Takes now later (drop m text) n → Takes before later text (m + n)
takes-more None now later text m n x y = tt
takes-more (Some bytes) None later text m n x y = absurd (cc)
takes-more (Some bytes) (Some more) later text m n x y =
    let front : more ≡ bytes ++ take m text = cc in
    y ∙ ap (λ b. Some (b ++ take n (drop m text))) front
    ∙ ap Some (append_assoc bytes (take m text) (take n (drop m text)) ∙ ap (λ t. bytes ++ t) (sym (take-add m n text)))

pub IsDrained-step : (before now later : Option (List ℕ)) (text rest : List ℕ) (count : ℕ) → count ≤ length rest → IsDrained before now text rest → Takes now later rest count → IsDrained before later text (drop count rest)
IsDrained-step before now later text rest count fits drained takes = record {
  done = drained.done + count;
  within = omega (arith, drained.within, length-drop drained.done text, ap length drained.left, fits);
  left = ap (drop count) drained.left ∙ drop-drop count drained.done text;
  taken = takes-more before now later text drained.done count drained.taken (subst (λ r. Takes now later r count) drained.left takes);
}

takes-kept : (before now later : Option (List ℕ)) (text : List ℕ) (m : ℕ) → Takes before now text m → Keeps now later → Takes before later text m
takes-kept None now later text m x y = tt
takes-kept (Some bytes) None later text m x y = absurd (cc)
takes-kept (Some bytes) (Some more) later text m x y = y ∙ x

pub IsDrained-failed : (before now later : Option (List ℕ)) (text rest : List ℕ) → IsDrained before now text rest → Keeps now later → (count : ℕ) × Takes before later text count
IsDrained-failed before now later text rest drained keeps = (drained.done, takes-kept before now later text drained.done drained.taken keeps)

pub IsDrained-end : (before now : Option (List ℕ)) (text rest : List ℕ) → IsDrained before now text rest → length rest ≡ 0 → Takes before now text (length text)
IsDrained-end before now text rest drained empty =
    let all : drained.done ≡ length text = omega (arith, drained.within, length-drop drained.done text, ap length drained.left, empty) in
    subst (λ n. Takes before now text n) all drained.taken
