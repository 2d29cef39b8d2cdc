use Rattle.std.proofs.Common.{rules, ◌≡◌, ◌∙◌, ◌||◌, ◌+◌, ◌∷◌, List, Bool, true, sym, ap, subst, map, drop, Ok, Err, if◌then◌else◌}
use Rattle.std.specs.Option.{option_map}
use Rattle.std.proofs.lemmas.Result.{err_from_is_err_and}
use Rattle.hal_operations.specs.declared.operation.Op2.TheVariants as op2
use Rattle.hal_constants.specs.declared.operation.Operation.TheVariants as operation
use Rattle.hal_grammar.specs.Expressions.{MoreExpressions}
use Rattle.hal_meaning.specs.Expressions.{is_condition, inputs_at}
use Rattle.hal_agreement.specs.PlacedExpressions.{two}
use Rattle.hal_tree.specs.Rows.{expressions, terms}
use Rattle.hal_tree.specs.SeenExpressions.{seen_expression, seen_signed}
use Rattle.hal_tree.specs.SeenLeaves.{seen_name, seen_sign}
use Rattle.hal_tree.proofs.MadeExpressions.{made_or, made_and, made_cat, made_sum, made_product}
use Rattle.hal_code.specs.declared.instr.Instr.{Instr}
use Rattle.hal_gen_expr.specs.Emits.{Emits}
use Rattle.hal_gen_expr.specs.Calling.{argument_code}
use Rattle.hal_gen_expr.specs.Emitting.{Emitted, onwards}
use Rattle.hal_gen_expr.specs.ExpressionCode as codes
use Rattle.hal_gen_expr.specs.SeenSites.{seen_site, seen_numbering}
use Rattle.hal_gen_expr.proofs.Calling.{argument_whole, argument_plain, whole_given, arguments_step, next_mapped}
use Rattle.hal_gen_expr.proofs.Chained.{after, went_on, stopped}
use Rattle.hal_gen_expr.proofs.+expressions.Goals as goal

pub expressions::emit_expression-returns-in_ok-emit_expression-in-Or : goal.expressions::emit_expression-returns-in_ok-emit_expression-in-Or
expressions::emit_expression-returns-in_ok-emit_expression-in-Or t c =
    let shape : codes.expression_code (seen_numbering c.args.site.now) (seen_site c.args.site.now) c.args.code.now.items (seen_expression c.args.tree.now) ≡ onwards (codes.expression_code (seen_numbering c.args.site.now) (seen_site c.args.site.now) c.args.code.now.items (seen_expression c.in-Or.first.value)) (λ (middle : List Instr). codes.joined_code (seen_numbering c.args.site.now) (seen_site c.args.site.now) middle c.in-Or.place op2.Or (is_condition (seen_expression c.in-Or.first.value)) (expressions (map seen_expression c.in-Or.others.items))) =
    ap (λ tree. codes.expression_code (seen_numbering c.args.site.now) (seen_site c.args.site.now) c.args.code.now.items (seen_expression tree)) c.in-Or.is ∙ ap (λ tree. codes.expression_code (seen_numbering c.args.site.now) (seen_site c.args.site.now) c.args.code.now.items tree) (made_or c.in-Or.place c.in-Or.first c.in-Or.others) in
    let there : codes.expression_code (seen_numbering c.args.site.now) (seen_site c.args.site.now) c.args.code.now.items (seen_expression c.in-Or.first.value) ≡ Ok c.emit_expression.new.code.items = search (rules, c.in_ok-emit_expression-in-Or.ensures, c.deref.ensures) in
    let rest : Emits (codes.joined_code (seen_numbering c.args.site.now) (seen_site c.args.site.now) c.emit_expression.new.code.items c.in-Or.place op2.Or (is_condition (seen_expression c.in-Or.first.value)) (expressions (map seen_expression c.in-Or.others.items))) c.emit_joined.result c.emit_joined.new.code.items = search (rules, c.emit_joined.ensures, c.is_condition.ensures, c.deref.ensures, c.deref-in-Or.ensures) in
    went_on (codes.expression_code (seen_numbering c.args.site.now) (seen_site c.args.site.now) c.args.code.now.items (seen_expression c.args.tree.now)) (codes.expression_code (seen_numbering c.args.site.now) (seen_site c.args.site.now) c.args.code.now.items (seen_expression c.in-Or.first.value)) (λ (middle : List Instr). codes.joined_code (seen_numbering c.args.site.now) (seen_site c.args.site.now) middle c.in-Or.place op2.Or (is_condition (seen_expression c.in-Or.first.value)) (expressions (map seen_expression c.in-Or.others.items))) c.emit_expression.new.code.items c.emit_joined.new.code.items c.emit_joined.result shape there rest

pub expressions::emit_expression-returns-in_ok-emit_expression-in-And : goal.expressions::emit_expression-returns-in_ok-emit_expression-in-And
expressions::emit_expression-returns-in_ok-emit_expression-in-And t c =
    let shape : codes.expression_code (seen_numbering c.args.site.now) (seen_site c.args.site.now) c.args.code.now.items (seen_expression c.args.tree.now) ≡ onwards (codes.expression_code (seen_numbering c.args.site.now) (seen_site c.args.site.now) c.args.code.now.items (seen_expression c.in-And.first.value)) (λ (middle : List Instr). codes.joined_code (seen_numbering c.args.site.now) (seen_site c.args.site.now) middle c.in-And.place op2.And (is_condition (seen_expression c.in-And.first.value)) (expressions (map seen_expression c.in-And.others.items))) =
    ap (λ tree. codes.expression_code (seen_numbering c.args.site.now) (seen_site c.args.site.now) c.args.code.now.items (seen_expression tree)) c.in-And.is ∙ ap (λ tree. codes.expression_code (seen_numbering c.args.site.now) (seen_site c.args.site.now) c.args.code.now.items tree) (made_and c.in-And.place c.in-And.first c.in-And.others) in
    let there : codes.expression_code (seen_numbering c.args.site.now) (seen_site c.args.site.now) c.args.code.now.items (seen_expression c.in-And.first.value) ≡ Ok c.emit_expression-in-And.new.code.items = search (rules, c.in_ok-emit_expression-in-And.ensures, c.deref-in-And.ensures) in
    let rest : Emits (codes.joined_code (seen_numbering c.args.site.now) (seen_site c.args.site.now) c.emit_expression-in-And.new.code.items c.in-And.place op2.And (is_condition (seen_expression c.in-And.first.value)) (expressions (map seen_expression c.in-And.others.items))) c.emit_joined-in-And.result c.emit_joined-in-And.new.code.items = search (rules, c.emit_joined-in-And.ensures, c.is_condition-in-And.ensures, c.deref-in-And.ensures, c.deref-in-And-2.ensures) in
    went_on (codes.expression_code (seen_numbering c.args.site.now) (seen_site c.args.site.now) c.args.code.now.items (seen_expression c.args.tree.now)) (codes.expression_code (seen_numbering c.args.site.now) (seen_site c.args.site.now) c.args.code.now.items (seen_expression c.in-And.first.value)) (λ (middle : List Instr). codes.joined_code (seen_numbering c.args.site.now) (seen_site c.args.site.now) middle c.in-And.place op2.And (is_condition (seen_expression c.in-And.first.value)) (expressions (map seen_expression c.in-And.others.items))) c.emit_expression-in-And.new.code.items c.emit_joined-in-And.new.code.items c.emit_joined-in-And.result shape there rest

pub expressions::emit_expression-returns-in_ok-emit_expression-in-Cat : goal.expressions::emit_expression-returns-in_ok-emit_expression-in-Cat
expressions::emit_expression-returns-in_ok-emit_expression-in-Cat t c =
    let shape : codes.expression_code (seen_numbering c.args.site.now) (seen_site c.args.site.now) c.args.code.now.items (seen_expression c.args.tree.now) ≡ onwards (codes.expression_code (seen_numbering c.args.site.now) (seen_site c.args.site.now) c.args.code.now.items (seen_expression c.in-Cat.first.value)) (λ (middle : List Instr). codes.folded_code (seen_numbering c.args.site.now) (seen_site c.args.site.now) middle c.in-Cat.place op2.Cat (expressions (map seen_expression c.in-Cat.others.items))) =
    ap (λ tree. codes.expression_code (seen_numbering c.args.site.now) (seen_site c.args.site.now) c.args.code.now.items (seen_expression tree)) c.in-Cat.is ∙ ap (λ tree. codes.expression_code (seen_numbering c.args.site.now) (seen_site c.args.site.now) c.args.code.now.items tree) (made_cat c.in-Cat.place c.in-Cat.first c.in-Cat.others) in
    let there : codes.expression_code (seen_numbering c.args.site.now) (seen_site c.args.site.now) c.args.code.now.items (seen_expression c.in-Cat.first.value) ≡ Ok c.emit_expression-in-Cat.new.code.items = search (rules, c.in_ok-emit_expression-in-Cat.ensures, c.deref-in-Cat.ensures) in
    went_on (codes.expression_code (seen_numbering c.args.site.now) (seen_site c.args.site.now) c.args.code.now.items (seen_expression c.args.tree.now)) (codes.expression_code (seen_numbering c.args.site.now) (seen_site c.args.site.now) c.args.code.now.items (seen_expression c.in-Cat.first.value)) (λ (middle : List Instr). codes.folded_code (seen_numbering c.args.site.now) (seen_site c.args.site.now) middle c.in-Cat.place op2.Cat (expressions (map seen_expression c.in-Cat.others.items))) c.emit_expression-in-Cat.new.code.items c.emit_folded.new.code.items c.emit_folded.result shape there c.emit_folded.ensures

pub expressions::emit_expression-returns-in_ok-emit_expression-in-Product : goal.expressions::emit_expression-returns-in_ok-emit_expression-in-Product
expressions::emit_expression-returns-in_ok-emit_expression-in-Product t c =
    let shape : codes.expression_code (seen_numbering c.args.site.now) (seen_site c.args.site.now) c.args.code.now.items (seen_expression c.args.tree.now) ≡ onwards (codes.expression_code (seen_numbering c.args.site.now) (seen_site c.args.site.now) c.args.code.now.items (seen_expression c.in-Product.first.value)) (λ (middle : List Instr). codes.folded_code (seen_numbering c.args.site.now) (seen_site c.args.site.now) middle c.in-Product.place op2.Product (expressions (map seen_expression c.in-Product.others.items))) =
    ap (λ tree. codes.expression_code (seen_numbering c.args.site.now) (seen_site c.args.site.now) c.args.code.now.items (seen_expression tree)) c.in-Product.is ∙ ap (λ tree. codes.expression_code (seen_numbering c.args.site.now) (seen_site c.args.site.now) c.args.code.now.items tree) (made_product c.in-Product.place c.in-Product.first c.in-Product.others) in
    let there : codes.expression_code (seen_numbering c.args.site.now) (seen_site c.args.site.now) c.args.code.now.items (seen_expression c.in-Product.first.value) ≡ Ok c.emit_expression-in-Product.new.code.items = search (rules, c.in_ok-emit_expression-in-Product.ensures, c.deref-in-Product.ensures) in
    went_on (codes.expression_code (seen_numbering c.args.site.now) (seen_site c.args.site.now) c.args.code.now.items (seen_expression c.args.tree.now)) (codes.expression_code (seen_numbering c.args.site.now) (seen_site c.args.site.now) c.args.code.now.items (seen_expression c.in-Product.first.value)) (λ (middle : List Instr). codes.folded_code (seen_numbering c.args.site.now) (seen_site c.args.site.now) middle c.in-Product.place op2.Product (expressions (map seen_expression c.in-Product.others.items))) c.emit_expression-in-Product.new.code.items c.emit_folded-in-Product.new.code.items c.emit_folded-in-Product.result shape there c.emit_folded-in-Product.ensures

pub expressions::emit_expression-returns-in_ok-emit_sign-in-Sum : goal.expressions::emit_expression-returns-in_ok-emit_sign-in-Sum
expressions::emit_expression-returns-in_ok-emit_sign-in-Sum t c =
    let shape : codes.expression_code (seen_numbering c.args.site.now) (seen_site c.args.site.now) c.args.code.now.items (seen_expression c.args.tree.now) ≡ onwards (codes.expression_code (seen_numbering c.args.site.now) (seen_site c.args.site.now) c.args.code.now.items (seen_expression c.in-Sum.first.value)) (λ (middle : List Instr). onwards (codes.sign_code middle c.in-Sum.place (option_map seen_sign c.in-Sum.opening)) (λ (late : List Instr). codes.terms_code (seen_numbering c.args.site.now) (seen_site c.args.site.now) late (terms (map seen_signed c.in-Sum.others.items)))) =
    ap (λ tree. codes.expression_code (seen_numbering c.args.site.now) (seen_site c.args.site.now) c.args.code.now.items (seen_expression tree)) c.in-Sum.is ∙ ap (λ tree. codes.expression_code (seen_numbering c.args.site.now) (seen_site c.args.site.now) c.args.code.now.items tree) (made_sum c.in-Sum.place c.in-Sum.opening c.in-Sum.first c.in-Sum.others) in
    let there : codes.expression_code (seen_numbering c.args.site.now) (seen_site c.args.site.now) c.args.code.now.items (seen_expression c.in-Sum.first.value) ≡ Ok c.emit_expression-in-Sum.new.code.items = search (rules, c.in_ok-emit_expression-in-Sum.ensures, c.deref-in-Sum.ensures) in
    let signed : codes.sign_code c.emit_expression-in-Sum.new.code.items c.in-Sum.place (option_map seen_sign c.in-Sum.opening) ≡ Ok c.emit_sign.new.code.items = c.in_ok-emit_sign-in-Sum.ensures in
    went_on (codes.expression_code (seen_numbering c.args.site.now) (seen_site c.args.site.now) c.args.code.now.items (seen_expression c.args.tree.now)) (codes.sign_code c.emit_expression-in-Sum.new.code.items c.in-Sum.place (option_map seen_sign c.in-Sum.opening)) (λ (late : List Instr). codes.terms_code (seen_numbering c.args.site.now) (seen_site c.args.site.now) late (terms (map seen_signed c.in-Sum.others.items))) c.emit_sign.new.code.items c.emit_terms.new.code.items c.emit_terms.result
    (after (codes.expression_code (seen_numbering c.args.site.now) (seen_site c.args.site.now) c.args.code.now.items (seen_expression c.args.tree.now)) (codes.expression_code (seen_numbering c.args.site.now) (seen_site c.args.site.now) c.args.code.now.items (seen_expression c.in-Sum.first.value)) (λ (middle : List Instr). onwards (codes.sign_code middle c.in-Sum.place (option_map seen_sign c.in-Sum.opening)) (λ (late : List Instr). codes.terms_code (seen_numbering c.args.site.now) (seen_site c.args.site.now) late (terms (map seen_signed c.in-Sum.others.items)))) c.emit_expression-in-Sum.new.code.items shape there) signed c.emit_terms.ensures

pub expressions::emit_of_two-returns : goal.expressions::emit_of_two-returns
unfolding expressions
expressions::emit_of_two-returns t c =
    let parts : expressions (map seen_expression c.args.arguments.now.items) ≡ MoreExpressions (seen_expression c.in-Some.left.now) (MoreExpressions (seen_expression c.in-Some-split_first.right.now) (expressions (map seen_expression c.in-Some-split_first.more.now))) = search (rules, c.deref.ensures, c.in-Some.ensures, c.in-Some-split_first.ensures) in
    let none : codes.ends (expressions (map seen_expression c.in-Some-split_first.more.now)) ≡ true = search (rules, c.ends.ensures, c.if-not-ends.false) in
    let shape : codes.built_code (seen_numbering c.args.site.now) (seen_site c.args.site.now) c.args.code.now.items c.args.place (operation.Two c.args.op) (expressions (map seen_expression c.args.arguments.now.items)) ≡ onwards (codes.expression_code (seen_numbering c.args.site.now) (seen_site c.args.site.now) c.args.code.now.items (seen_expression c.in-Some.left.now)) (λ (middle : List Instr). onwards (codes.expression_code (seen_numbering c.args.site.now) (seen_site c.args.site.now) middle (seen_expression c.in-Some-split_first.right.now)) (λ (last : List Instr). codes.emit_one last c.args.place (two c.args.op))) =
    ap (λ given. codes.built_code (seen_numbering c.args.site.now) (seen_site c.args.site.now) c.args.code.now.items c.args.place (operation.Two c.args.op) given) parts
    ∙ ap (λ (b : Bool). if b then onwards (codes.expression_code (seen_numbering c.args.site.now) (seen_site c.args.site.now) c.args.code.now.items (seen_expression c.in-Some.left.now)) (λ (middle : List Instr). onwards (codes.expression_code (seen_numbering c.args.site.now) (seen_site c.args.site.now) middle (seen_expression c.in-Some-split_first.right.now)) (λ (last : List Instr). codes.emit_one last c.args.place (two c.args.op))) else Err c.args.place) none in
    let first : codes.expression_code (seen_numbering c.args.site.now) (seen_site c.args.site.now) c.args.code.now.items (seen_expression c.in-Some.left.now) ≡ Ok c.emit_expression.new.code.items = search (rules, c.in_ok-emit_expression.ensures) in
    let second : codes.expression_code (seen_numbering c.args.site.now) (seen_site c.args.site.now) c.emit_expression.new.code.items (seen_expression c.in-Some-split_first.right.now) ≡ Ok c.emit_expression-2.new.code.items = search (rules, c.in_ok-emit_expression-2.ensures) in
    let third : Emits (codes.emit_one c.emit_expression-2.new.code.items c.args.place (two c.args.op)) c.emit_one.result c.emit_one.new.code.items = search (rules, c.emit_one.ensures, c.two.ensures) in
    went_on (codes.built_code (seen_numbering c.args.site.now) (seen_site c.args.site.now) c.args.code.now.items c.args.place (operation.Two c.args.op) (expressions (map seen_expression c.args.arguments.now.items))) (codes.expression_code (seen_numbering c.args.site.now) (seen_site c.args.site.now) c.emit_expression.new.code.items (seen_expression c.in-Some-split_first.right.now)) (λ (last : List Instr). codes.emit_one last c.args.place (two c.args.op)) c.emit_expression-2.new.code.items c.emit_one.new.code.items c.emit_one.result
    (after (codes.built_code (seen_numbering c.args.site.now) (seen_site c.args.site.now) c.args.code.now.items c.args.place (operation.Two c.args.op) (expressions (map seen_expression c.args.arguments.now.items))) (codes.expression_code (seen_numbering c.args.site.now) (seen_site c.args.site.now) c.args.code.now.items (seen_expression c.in-Some.left.now)) (λ (middle : List Instr). onwards (codes.expression_code (seen_numbering c.args.site.now) (seen_site c.args.site.now) middle (seen_expression c.in-Some-split_first.right.now)) (λ (last : List Instr). codes.emit_one last c.args.place (two c.args.op))) c.emit_expression.new.code.items shape first) second third

pub expressions::emit_of_two-returns-in_err-emit_expression : goal.expressions::emit_of_two-returns-in_err-emit_expression
unfolding expressions
expressions::emit_of_two-returns-in_err-emit_expression t c =
    let parts : expressions (map seen_expression c.args.arguments.now.items) ≡ MoreExpressions (seen_expression c.in-Some.left.now) (MoreExpressions (seen_expression c.in-Some-split_first.right.now) (expressions (map seen_expression c.in-Some-split_first.more.now))) = search (rules, c.deref.ensures, c.in-Some.ensures, c.in-Some-split_first.ensures) in
    let none : codes.ends (expressions (map seen_expression c.in-Some-split_first.more.now)) ≡ true = search (rules, c.ends.ensures, c.if-not-ends.false) in
    let shape : codes.built_code (seen_numbering c.args.site.now) (seen_site c.args.site.now) c.args.code.now.items c.args.place (operation.Two c.args.op) (expressions (map seen_expression c.args.arguments.now.items)) ≡ onwards (codes.expression_code (seen_numbering c.args.site.now) (seen_site c.args.site.now) c.args.code.now.items (seen_expression c.in-Some.left.now)) (λ (middle : List Instr). onwards (codes.expression_code (seen_numbering c.args.site.now) (seen_site c.args.site.now) middle (seen_expression c.in-Some-split_first.right.now)) (λ (last : List Instr). codes.emit_one last c.args.place (two c.args.op))) =
    ap (λ given. codes.built_code (seen_numbering c.args.site.now) (seen_site c.args.site.now) c.args.code.now.items c.args.place (operation.Two c.args.op) given) parts
    ∙ ap (λ (b : Bool). if b then onwards (codes.expression_code (seen_numbering c.args.site.now) (seen_site c.args.site.now) c.args.code.now.items (seen_expression c.in-Some.left.now)) (λ (middle : List Instr). onwards (codes.expression_code (seen_numbering c.args.site.now) (seen_site c.args.site.now) middle (seen_expression c.in-Some-split_first.right.now)) (λ (last : List Instr). codes.emit_one last c.args.place (two c.args.op))) else Err c.args.place) none in
    let p = err_from_is_err_and c.from_residual.result c.from_residual.ensures.1 in
    let failed : c.emit_expression.result ≡ Err c.in_err-emit_expression.field-0.0 = search (rules, c.in_err-emit_expression.is, c.in_err-emit_expression.was) in
    let same : c.from_residual.result ≡ Err c.in_err-emit_expression.field-0.0 = search (rules, p.1, p.2) in
    let there : Emits (codes.expression_code (seen_numbering c.args.site.now) (seen_site c.args.site.now) c.args.code.now.items (seen_expression c.in-Some.left.now)) c.emit_expression.result c.emit_expression.new.code.items = search (rules, c.emit_expression.ensures) in
    stopped (codes.built_code (seen_numbering c.args.site.now) (seen_site c.args.site.now) c.args.code.now.items c.args.place (operation.Two c.args.op) (expressions (map seen_expression c.args.arguments.now.items))) (codes.expression_code (seen_numbering c.args.site.now) (seen_site c.args.site.now) c.args.code.now.items (seen_expression c.in-Some.left.now)) (λ (middle : List Instr). onwards (codes.expression_code (seen_numbering c.args.site.now) (seen_site c.args.site.now) middle (seen_expression c.in-Some-split_first.right.now)) (λ (last : List Instr). codes.emit_one last c.args.place (two c.args.op))) c.in_err-emit_expression.field-0.0 c.emit_expression.result c.from_residual.result c.emit_expression.new.code.items shape failed same there

pub expressions::emit_of_two-returns-in_err-emit_expression-2 : goal.expressions::emit_of_two-returns-in_err-emit_expression-2
unfolding expressions
expressions::emit_of_two-returns-in_err-emit_expression-2 t c =
    let parts : expressions (map seen_expression c.args.arguments.now.items) ≡ MoreExpressions (seen_expression c.in-Some.left.now) (MoreExpressions (seen_expression c.in-Some-split_first.right.now) (expressions (map seen_expression c.in-Some-split_first.more.now))) = search (rules, c.deref.ensures, c.in-Some.ensures, c.in-Some-split_first.ensures) in
    let none : codes.ends (expressions (map seen_expression c.in-Some-split_first.more.now)) ≡ true = search (rules, c.ends.ensures, c.if-not-ends.false) in
    let shape : codes.built_code (seen_numbering c.args.site.now) (seen_site c.args.site.now) c.args.code.now.items c.args.place (operation.Two c.args.op) (expressions (map seen_expression c.args.arguments.now.items)) ≡ onwards (codes.expression_code (seen_numbering c.args.site.now) (seen_site c.args.site.now) c.args.code.now.items (seen_expression c.in-Some.left.now)) (λ (middle : List Instr). onwards (codes.expression_code (seen_numbering c.args.site.now) (seen_site c.args.site.now) middle (seen_expression c.in-Some-split_first.right.now)) (λ (last : List Instr). codes.emit_one last c.args.place (two c.args.op))) =
    ap (λ given. codes.built_code (seen_numbering c.args.site.now) (seen_site c.args.site.now) c.args.code.now.items c.args.place (operation.Two c.args.op) given) parts
    ∙ ap (λ (b : Bool). if b then onwards (codes.expression_code (seen_numbering c.args.site.now) (seen_site c.args.site.now) c.args.code.now.items (seen_expression c.in-Some.left.now)) (λ (middle : List Instr). onwards (codes.expression_code (seen_numbering c.args.site.now) (seen_site c.args.site.now) middle (seen_expression c.in-Some-split_first.right.now)) (λ (last : List Instr). codes.emit_one last c.args.place (two c.args.op))) else Err c.args.place) none in
    let first : codes.expression_code (seen_numbering c.args.site.now) (seen_site c.args.site.now) c.args.code.now.items (seen_expression c.in-Some.left.now) ≡ Ok c.emit_expression.new.code.items = search (rules, c.in_ok-emit_expression.ensures) in
    let p = err_from_is_err_and c.from_residual-in_err-emit_expression-2.result c.from_residual-in_err-emit_expression-2.ensures.1 in
    let failed : c.emit_expression-2.result ≡ Err c.in_err-emit_expression-2.field-0.0 = search (rules, c.in_err-emit_expression-2.is, c.in_err-emit_expression-2.was) in
    let same : c.from_residual-in_err-emit_expression-2.result ≡ Err c.in_err-emit_expression-2.field-0.0 = search (rules, p.1, p.2) in
    let there : Emits (codes.expression_code (seen_numbering c.args.site.now) (seen_site c.args.site.now) c.emit_expression.new.code.items (seen_expression c.in-Some-split_first.right.now)) c.emit_expression-2.result c.emit_expression-2.new.code.items = search (rules, c.emit_expression-2.ensures) in
    stopped (codes.built_code (seen_numbering c.args.site.now) (seen_site c.args.site.now) c.args.code.now.items c.args.place (operation.Two c.args.op) (expressions (map seen_expression c.args.arguments.now.items))) (codes.expression_code (seen_numbering c.args.site.now) (seen_site c.args.site.now) c.emit_expression.new.code.items (seen_expression c.in-Some-split_first.right.now)) (λ (last : List Instr). codes.emit_one last c.args.place (two c.args.op)) c.in_err-emit_expression-2.field-0.0 c.emit_expression-2.result c.from_residual-in_err-emit_expression-2.result c.emit_expression-2.new.code.items
    (after (codes.built_code (seen_numbering c.args.site.now) (seen_site c.args.site.now) c.args.code.now.items c.args.place (operation.Two c.args.op) (expressions (map seen_expression c.args.arguments.now.items))) (codes.expression_code (seen_numbering c.args.site.now) (seen_site c.args.site.now) c.args.code.now.items (seen_expression c.in-Some.left.now)) (λ (middle : List Instr). onwards (codes.expression_code (seen_numbering c.args.site.now) (seen_site c.args.site.now) middle (seen_expression c.in-Some-split_first.right.now)) (λ (last : List Instr). codes.emit_one last c.args.place (two c.args.op))) c.emit_expression.new.code.items shape first) failed same there

pub expressions::emit_whole_argument-returns-in_err-runs : goal.expressions::emit_whole_argument-returns-in_err-runs
expressions::emit_whole_argument-returns-in_err-runs t c = let p = err_from_is_err_and c.from_residual.result c.from_residual.ensures.1 in rw (p.1, p.2) tt

pub expressions::emit_whole_argument-returns : goal.expressions::emit_whole_argument-returns
expressions::emit_whole_argument-returns t c =
    subst (λ (wanted : Emitted). Emits wanted c.emit_whole.result c.emit_whole.new.code.items)
    (whole_given (seen_numbering c.args.site.now) (seen_site c.args.site.now) c.args.code.now.items c.args.place c.args.unit (seen_name c.args.name.now) (seen_expression c.args.tree.now) c.deref.result.now (c.deref.ensures.value ∙ c.in_ok-runs.ensures))
    c.emit_whole.ensures

pub expressions::emit_argument-returns-in_err-is_whole_parameter : goal.expressions::emit_argument-returns-in_err-is_whole_parameter
expressions::emit_argument-returns-in_err-is_whole_parameter t c = let p = err_from_is_err_and c.from_residual.result c.from_residual.ensures.1 in rw (p.1, p.2) tt

pub expressions::emit_argument-returns-then-branch : goal.expressions::emit_argument-returns-then-branch
expressions::emit_argument-returns-then-branch t c =
    subst (λ (wanted : Emitted). Emits wanted c.emit_whole_argument.result c.emit_whole_argument.new.code.items)
    (argument_whole (seen_numbering c.args.site.now) (seen_site c.args.site.now) c.args.code.now.items c.args.place c.args.unit (seen_name c.args.name.now) (seen_expression c.args.tree.now) (sym c.in_ok-is_whole_parameter.ensures ∙ c.if-branch.true))
    c.emit_whole_argument.ensures

pub expressions::emit_argument-returns : goal.expressions::emit_argument-returns
expressions::emit_argument-returns t c =
    subst (λ (wanted : Emitted). Emits wanted c.emit_expression.result c.emit_expression.new.code.items)
    (argument_plain (seen_numbering c.args.site.now) (seen_site c.args.site.now) c.args.code.now.items c.args.place c.args.unit (seen_name c.args.name.now) (seen_expression c.args.tree.now) (sym c.in_ok-is_whole_parameter.ensures ∙ c.if-branch.false))
    c.emit_expression.ensures

pub expressions::emit_arguments-returns-in_err-emit_argument : goal.expressions::emit_arguments-returns-in_err-emit_argument
expressions::emit_arguments-returns-in_err-emit_argument t c =
    let n = seen_numbering c.args.site.now in
    let site = seen_site c.args.site.now in
    let items = c.args.arguments.now.items in
    let wanted : Emitted = codes.arguments_code n site c.args.code.now.items c.args.place c.args.unit (inputs_at site.set c.args.unit) (expressions (map seen_expression items)) in
    let names : c.loop-tree.left.now ≡ c.in-Some.name.now ∷ c.in-Some.more.now = search (rules, c.in-Some.ensures) in
    let shape : wanted ≡ onwards (argument_code n site c.loop-tree.code.items c.args.place c.args.unit (seen_name c.in-Some.name.now) (seen_expression c.tree-item.result)) (λ (middle : List Instr). codes.arguments_code n site middle c.args.place c.args.unit (map seen_name c.in-Some.more.now) (expressions (map seen_expression (drop (c.loop-tree.tree-index + 1) items)))) =
    arguments_step n site c.loop-tree.code.items c.args.place c.args.unit wanted (map seen_name c.loop-tree.left.now) (seen_name c.in-Some.name.now) (map seen_name c.in-Some.more.now) (map seen_expression (drop c.loop-tree.tree-index items)) (seen_expression c.tree-item.result) (map seen_expression (drop (c.loop-tree.tree-index + 1) items)) (ap (map seen_name) names)
    (next_mapped seen_expression c.deref-tree-items.result.now items c.loop-tree.tree-index c.tree-item.result c.deref-tree-items.ensures.value c.loop-tree-test.true c.tree-item.is) c.loop-tree.invariant in
    let p = err_from_is_err_and c.from_residual.result c.from_residual.ensures.1 in
    let failed : c.emit_argument.result ≡ Err c.in_err-emit_argument.field-0.0 = search (rules, c.in_err-emit_argument.was) in
    let same : c.from_residual.result ≡ Err c.in_err-emit_argument.field-0.0 = search (rules, p.1, p.2) in
    stopped wanted (argument_code n site c.loop-tree.code.items c.args.place c.args.unit (seen_name c.in-Some.name.now) (seen_expression c.tree-item.result)) (λ (middle : List Instr). codes.arguments_code n site middle c.args.place c.args.unit (map seen_name c.in-Some.more.now) (expressions (map seen_expression (drop (c.loop-tree.tree-index + 1) items))))
    c.in_err-emit_argument.field-0.0 c.emit_argument.result c.from_residual.result c.emit_argument.new.code.items shape failed same c.emit_argument.ensures

pub expressions::emit_arguments-loop-tree-preserved : goal.expressions::emit_arguments-loop-tree-preserved
expressions::emit_arguments-loop-tree-preserved t c =
    let n = seen_numbering c.args.site.now in
    let site = seen_site c.args.site.now in
    let items = c.args.arguments.now.items in
    let wanted : Emitted = codes.arguments_code n site c.args.code.now.items c.args.place c.args.unit (inputs_at site.set c.args.unit) (expressions (map seen_expression items)) in
    let names : c.loop-tree.left.now ≡ c.in-Some.name.now ∷ c.in-Some.more.now = search (rules, c.in-Some.ensures) in
    let shape : wanted ≡ onwards (argument_code n site c.loop-tree.code.items c.args.place c.args.unit (seen_name c.in-Some.name.now) (seen_expression c.tree-item.result)) (λ (middle : List Instr). codes.arguments_code n site middle c.args.place c.args.unit (map seen_name c.in-Some.more.now) (expressions (map seen_expression (drop (c.loop-tree.tree-index + 1) items)))) =
    arguments_step n site c.loop-tree.code.items c.args.place c.args.unit wanted (map seen_name c.loop-tree.left.now) (seen_name c.in-Some.name.now) (map seen_name c.in-Some.more.now) (map seen_expression (drop c.loop-tree.tree-index items)) (seen_expression c.tree-item.result) (map seen_expression (drop (c.loop-tree.tree-index + 1) items)) (ap (map seen_name) names)
    (next_mapped seen_expression c.deref-tree-items.result.now items c.loop-tree.tree-index c.tree-item.result c.deref-tree-items.ensures.value c.loop-tree-test.true c.tree-item.is) c.loop-tree.invariant in
    sym (after wanted (argument_code n site c.loop-tree.code.items c.args.place c.args.unit (seen_name c.in-Some.name.now) (seen_expression c.tree-item.result)) (λ (middle : List Instr). codes.arguments_code n site middle c.args.place c.args.unit (map seen_name c.in-Some.more.now) (expressions (map seen_expression (drop (c.loop-tree.tree-index + 1) items))))
    c.emit_argument.new.code.items shape c.in_ok-emit_argument.ensures)
