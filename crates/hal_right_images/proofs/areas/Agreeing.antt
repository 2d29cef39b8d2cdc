-- What the checks know of constants is what code knows of them, where no rule is broken.
use Rattle.std.specs.Prelude.{◌≡◌, ℕ, List, Some}
use Rattle.std.proofs.Common.{refl, sym, ap, subst, ◌∙◌}
use Rattle.hal_grammar.specs.Expressions.{Expression}
use Rattle.hal_grammar.specs.Units.{File}
use Rattle.hal_phrases.specs.Phrases.{Phrase}
use Rattle.hal_phrases.specs.GatheredUnits.{phrases_of}
use Rattle.hal_scope.specs.Rules.{IsSound, rows}
use Rattle.hal_types.specs.Rules.{type_rows}
use Rattle.hal_values.specs.declared.value.Value.{Value}
use Rattle.hal_constants.specs.declared.constant.Constant.TheVariants as constant
use Rattle.hal_constants.specs.Constants.{constant_of}
use Rattle.hal_constants.specs.Known.{Known, known}
use Rattle.hal_meaning.specs.Sets.{Set, set_of}
use Rattle.hal_agreement.specs.Sites.{Site}
use Rattle.hal_gen_expr.specs.Constants.{value_of}
use Rattle.hal_fit_constants.specs.Names.{NamesAgree}
use Rattle.hal_fit_names.specs.Spelled.{AreSpelled}
use Rattle.hal_fit_names.specs.Suited.{HasFitLiterals}
use Rattle.hal_fit_names.proofs.Channelled.{names_agree}
use Rattle.hal_fit_names.proofs.Placing.{items_are_placed}
use Rattle.hal_fit_names.proofs.PooledValues.{pooled_value}
use Rattle.hal_fit_names.proofs.Standing.{data_or_itself}
use Rattle.hal_right_images.proofs.rows.LookingUp.{LooksUp}
use Rattle.hal_right_images.proofs.areas.Meaning.{KnowsTemplates}

-- a value of an expression in a phrase is the one that is known where it is compiled
abbrev pub KnowsConstants : Set → Type 0
KnowsConstants s = (site : Site) → site.set ≡ s → (q : Phrase) → q.around.block ≡ site.block → (t : Expression) (v : Value) → constant_of s.phrases s.constants q t ≡ constant.Worth v → value_of site t ≡ Some v

-- a site of this set and in this block
abbrev site_in : Set → ℕ → Site → Site
site_in s block site = record { set = s; places = site.places; unit = site.unit; block = block; marks = site.marks }

same_site : (s : Set) (block : ℕ) (site : Site) → site.set ≡ s → block ≡ site.block → site_in s block site ≡ site
same_site s block site set here = ap (λ b. site_in s b site) here ∙ ap (λ (x : Set). site_in x site.block site) (sym set)

module _ (files : List File) (turns : ℕ) (looks : LooksUp (phrases_of files)) (named : IsSound rows (phrases_of files)) (typed : IsSound type_rows (phrases_of files)) (literals : HasFitLiterals (phrases_of files)) (spelled : AreSpelled (phrases_of files))
    (templates : KnowsTemplates (phrases_of files))
    (values : (site : Site) (vs : Known) (p : Phrase) (t : Expression) (v : Value) → NamesAgree site vs p → constant_of site.set.phrases vs p t ≡ constant.Worth v → value_of site t ≡ Some v) where
  pub constants_known : KnowsConstants (set_of turns files)
  constants_known site set q here t v is =
      let s : Set = set_of turns files in
      let given : Site = site_in s q.around.block site in
      let agree : NamesAgree given (known (phrases_of files)) q =
      names_agree given named typed looks.counted looks.meant literals refl (λ k p common item there node. data_or_itself files named templates.gives k p common item there node typed looks.counted)
      (λ k p common item there node valued stands. pooled_value files named typed looks.counted looks.meant literals spelled k p common item there node valued stands) (items_are_placed files looks.counted) q in
      subst (λ (x : Site). value_of x t ≡ Some v) (same_site s q.around.block site set here) (values given (known (phrases_of files)) q t v agree is)
