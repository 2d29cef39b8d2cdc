use Rattle.std.proofs.Common.{ap, subst, inl, inr}
use Rattle.hal_phrases.specs.GatheredUnits.{phrases_of}
use Rattle.hal_constants.specs.Known.{known}
use Rattle.hal_fit_names.proofs.Heads.{are_called}
use Rattle.hal_fit_names.proofs.Placing.{NodePlaced, items_are_placed}
use Rattle.hal_fit_names.proofs.Results.{result_kind_known, same_class}
use Rattle.hal_fit_names.proofs.Sizing.{is_valued}
use Rattle.hal_fit_names.proofs.laws.results_of_functions_are_known.Goals as goal

pub returns-clause-known : goal.returns-clause-known
returns-clause-known c files p name place inputs kind precision mode declarations double named sound literals within (inl is) unstructured =
    let counted = c.phrases_are_counted.ensures files in
    result_kind_known (phrases_of files) named sound counted (c.what_is_meant_declares_the_name.ensures files) literals p kind double (ap is_valued is) unstructured
    (subst (λ n. NodePlaced (phrases_of files) p n) is (items_are_placed files counted p within))
returns-clause-known c files p name place inputs kind precision mode declarations double named sound literals within (inr is) unstructured =
    let counted = c.phrases_are_counted.ensures files in
    result_kind_known (phrases_of files) named sound counted (c.what_is_meant_declares_the_name.ensures files) literals p kind double (ap is_valued is) unstructured
    (subst (λ n. NodePlaced (phrases_of files) p n) is (items_are_placed files counted p within))

pub returns-clause-class : goal.returns-clause-class
returns-clause-class c files p q template unit head other declarations others named sound literals within within_too is is_too same called =
    let counted = c.phrases_are_counted.ensures files in
    same_class (phrases_of files) named sound counted (c.what_is_meant_declares_the_name.ensures files) literals p q (ap is_valued is) (ap is_valued is_too)
    (are_called (phrases_of files) (known (phrases_of files)) p q head other same called) (subst (λ n. NodePlaced (phrases_of files) p n) is (items_are_placed files counted p within))
    (subst (λ n. NodePlaced (phrases_of files) q n) is_too (items_are_placed files counted q within_too))
