-- Where the test of rule 501 says that heads are the same, they are.
use Rattle.std.proofs.Common.{◌≡◌, ℕ, true, false, ◌&&◌, List, [], ◌∷◌, Option, Some, None, refl, ap₂, bytes_eq}
use Rattle.std.proofs.lemmas.Bool.{and_parts, false≢true}
use Rattle.hal_grammar.specs.Leaves.{Naming}
use Rattle.hal_grammar.specs.Declarations.{Kind}
use Rattle.hal_grammar.specs.Units.{Head, Program, Compool, Task, Procedure, Function, Mode, Reentrant, Exclusive, Precision, Returns, NoKind, HasKind}
use Rattle.hal_phrases.specs.Phrases.{Phrase}
use Rattle.hal_kinds.specs.Data.{is_event_type}
use Rattle.hal_constants.specs.Known.{Known, kind_of}
use Rattle.hal_templates.specs.Alike.{both_or_neither, may_be_kind, same_template}
use Rattle.hal_templates.specs.Heads.{is_compool, is_double, is_function, is_procedure, is_program, is_task, is_untyped, result_like, same_head, same_mode, same_names, same_result, same_returns, within}
use Rattle.hal_templates.specs.Own.{template_of}
use Rattle.hal_templates.specs.Agreeing.{BothOrNeither}
use Rattle.hal_templates.specs.Giving.{HaveSameHead, HaveSameResult, IsSameMode, IsSameResult, spelled}
use Rattle.hal_templates.proofs.Agreeing.{bytes_same, kinds_agree, template_same, test_same}

names_same : (ns ms : List Naming) → same_names ns ms ≡ true → spelled ns ≡ spelled ms
unfolding same_names
names_same [] [] is = refl
names_same [] (m ∷ ms) is = absurd (false≢true is)
names_same (n ∷ ns) [] is = absurd (false≢true is)
names_same (n ∷ ns) (m ∷ ms) is =
    let parts = and_parts (bytes_eq n.name m.name) (same_names ns ms) is in
    ap₂ (λ (x : List ℕ) (xs : List (List ℕ)). x ∷ xs) (bytes_same n.name m.name parts.0) (names_same ns ms parts.1)

mode_same : (one other : Option Mode) → same_mode one other ≡ true → BothOrNeither IsSameMode one other
unfolding same_mode
mode_same None None is = tt
mode_same None (Some (Reentrant q)) is = absurd (false≢true is)
mode_same None (Some (Exclusive q)) is = absurd (false≢true is)
mode_same (Some (Reentrant p)) None is = absurd (false≢true is)
mode_same (Some (Reentrant p)) (Some (Reentrant q)) is = tt
mode_same (Some (Reentrant p)) (Some (Exclusive q)) is = absurd (false≢true is)
mode_same (Some (Exclusive p)) None is = absurd (false≢true is)
mode_same (Some (Exclusive p)) (Some (Reentrant q)) is = absurd (false≢true is)
mode_same (Some (Exclusive p)) (Some (Exclusive q)) is = tt

module _ (ps : List Phrase) (vs : Known) (p q : Phrase) where
  result_same : (k : Kind) (one : Option Precision) (l : Kind) (other : Option Precision) → same_result ps vs p k one q l other ≡ true → IsSameResult ps vs p k one q l other
  result_same k one l other is =
      let events = both_or_neither (is_event_type (Some k)) (is_event_type (Some l)) in
      let names = same_template (template_of (Some k)) (template_of (Some l)) in
      let kinds = may_be_kind (kind_of ps vs (within p) (is_double one) k) (kind_of ps vs (within q) (is_double other) l) in
      let parts = and_parts events (names && kinds) is in
      let rest = and_parts names kinds parts.1 in
      record {
        event = test_same (is_event_type (Some k)) (is_event_type (Some l)) parts.0;
        template = template_same (template_of (Some k)) (template_of (Some l)) rest.0;
        kind = kinds_agree (kind_of ps vs (within p) (is_double one) k) (kind_of ps vs (within q) (is_double other) l) rest.1;
      }

  returns_same : (one other : Returns) → same_returns ps vs p one q other ≡ true → HaveSameResult ps vs p one q other
  unfolding same_returns result_like is_untyped
  returns_same NoKind NoKind is = tt
  returns_same NoKind (HasKind l other) is = absurd (false≢true is)
  returns_same (HasKind k one) NoKind is = absurd (false≢true is)
  returns_same (HasKind k one) (HasKind l other) is = result_same k one l other is

  pub heads_same : (head other : Head) → same_head ps vs p head q other ≡ true → HaveSameHead ps vs p head q other
  unfolding same_head is_program is_compool is_task is_procedure is_function
  heads_same (Program at) (Program there) is = tt
  heads_same (Program at) (Compool there) is = absurd (false≢true is)
  heads_same (Program at) (Task there) is = absurd (false≢true is)
  heads_same (Program at) (Procedure there xs ys n) is = absurd (false≢true is)
  heads_same (Program at) (Function there xs s n) is = absurd (false≢true is)
  heads_same (Compool at) (Program there) is = absurd (false≢true is)
  heads_same (Compool at) (Compool there) is = tt
  heads_same (Compool at) (Task there) is = absurd (false≢true is)
  heads_same (Compool at) (Procedure there xs ys n) is = absurd (false≢true is)
  heads_same (Compool at) (Function there xs s n) is = absurd (false≢true is)
  heads_same (Task at) (Program there) is = absurd (false≢true is)
  heads_same (Task at) (Compool there) is = absurd (false≢true is)
  heads_same (Task at) (Task there) is = tt
  heads_same (Task at) (Procedure there xs ys n) is = absurd (false≢true is)
  heads_same (Task at) (Function there xs s n) is = absurd (false≢true is)
  heads_same (Procedure at ins outs m) (Program there) is = absurd (false≢true is)
  heads_same (Procedure at ins outs m) (Compool there) is = absurd (false≢true is)
  heads_same (Procedure at ins outs m) (Task there) is = absurd (false≢true is)
  heads_same (Procedure at ins outs m) (Procedure there xs ys n) is =
      let parts = and_parts (same_names ins xs) (same_names outs ys && same_mode m n) is in
      let rest = and_parts (same_names outs ys) (same_mode m n) parts.1 in
      (names_same ins xs parts.0, names_same outs ys rest.0, mode_same m n rest.1)
  heads_same (Procedure at ins outs m) (Function there xs s n) is = absurd (false≢true is)
  heads_same (Function at ins r m) (Program there) is = absurd (false≢true is)
  heads_same (Function at ins r m) (Compool there) is = absurd (false≢true is)
  heads_same (Function at ins r m) (Task there) is = absurd (false≢true is)
  heads_same (Function at ins r m) (Procedure there xs ys n) is = absurd (false≢true is)
  heads_same (Function at ins r m) (Function there xs s n) is =
      let parts = and_parts (same_names ins xs) (same_returns ps vs p r q s && same_mode m n) is in
      let rest = and_parts (same_returns ps vs p r q s) (same_mode m n) parts.1 in
      (names_same ins xs parts.0, returns_same r s rest.0, mode_same m n rest.1)
