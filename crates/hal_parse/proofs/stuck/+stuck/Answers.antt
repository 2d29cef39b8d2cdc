use Rattle.std.proofs.Common.{sym, ◌∙◌, ap}
use Rattle.hal_tree.specs.SeenUnits.{seen_head}
use Rattle.hal_parse_expr.specs.Seen.{seen_list}
use Rattle.hal_parse.proofs.Reached.{body_held, body_bare}
use Rattle.hal_parse.proofs.stuck.+stuck.Goals as goal

pub reach_behind_head-returns-then-holds_elements : goal.reach_behind_head-returns-then-holds_elements
unfolding seen_list
reach_behind_head-returns-then-holds_elements t c =
    c.reach_at_close.ensures
    ∙ body_held c.args.depth (seen_head c.args.head) c.args.words.now c.in_ok-behind.behind.now c.in_ok-end.end.now c.in_ok-end.stuck.now
    (sym c.holds_elements.ensures ∙ c.if-holds_elements.true) (ap (λ r. r.1) c.in_ok-behind.ensures) c.in_ok-end.ensures.end c.in_ok-end.ensures.stuck

pub reach_behind_head-returns : goal.reach_behind_head-returns
unfolding seen_list
reach_behind_head-returns t c =
    c.reach_at_close-else-holds_elements.ensures
    ∙ body_bare c.args.depth (seen_head c.args.head) c.args.words.now c.in_ok-behind.behind.now
    (sym c.holds_elements.ensures ∙ c.if-holds_elements.false) (ap (λ r. r.1) c.in_ok-behind.ensures)
