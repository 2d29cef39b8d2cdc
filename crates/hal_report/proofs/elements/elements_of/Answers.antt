use Rattle.std.proofs.Common.{subst, sym}
use Rattle.std.proofs.lemmas.List.Elements.{All-tail, All-drop}
use Rattle.hal_values.specs.declared.tables.ReportName.{ReportName}
use Rattle.hal_report.specs.Arrays.{AreArrays, IsArray}
use Rattle.hal_report.proofs.LeftNames.{AreLeft-plain, AreLeft-structure}
use Rattle.hal_report.proofs.elements.elements_of.Goals as goal

pub names-preserved-then-named-eq0 : goal.names-preserved-then-named-eq0
names-preserved-then-named-eq0 c = (
  AreLeft-plain c.names.rest.now c.in-Some.others.now c.in-Some.named.now c.names.shown.items _ _ c.in-Some.ensures.cases.0 c.if-named-eq0.true c.in_ok-add_copy.ensures c.names.invariant.0,
  All-tail (λ (named : ReportName). IsArray named.dimensions) c.in-Some.named.now c.in-Some.others.now (subst AreArrays c.in-Some.ensures.cases.0 c.names.invariant.1),
)

pub names-preserved : goal.names-preserved
names-preserved c = (
  AreLeft-structure c.names.rest.now c.in-Some.others.now c.split_at.result.0.now c.split_at.result.1.now c.in-Some.named.now c.structure_rest-count.result c.names.shown.items _ _
      c.in-Some.ensures.cases.0 c.if-named-eq0.false c.structure_rest-count.ensures c.split_at.ensures.front c.split_at.ensures.back c.in_ok-add_structure.ensures c.names.invariant.0,
  subst AreArrays (sym c.split_at.ensures.back) (All-drop (λ (named : ReportName). IsArray named.dimensions) _ _ c.names.invariant.1),
)
