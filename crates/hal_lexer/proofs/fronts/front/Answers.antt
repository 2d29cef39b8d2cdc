use Rattle.std.proofs.Common.{◌≡◌, length, drop, length-drop, false, Some, refl, ◌∙◌, arith, rules, ap}
use Rattle.hal_lexer.specs.Texts.{IsTextByte}
use Rattle.hal_pieces.specs.Reading.{closing}
use Rattle.std.proofs.lemmas.List.Elements.{All-drop}
use Rattle.hal_lexer.proofs.TextFronts.{open_comment, closed_comment, piece_at, word_at, text_behind}
use Rattle.hal_lexer.proofs.fronts.front.Goals as goal

pub blank-preserved : goal.blank-preserved
blank-preserved c =
    let inside = c.without-inside.result.now in
    let found : closing false inside ≡ Some c.in-Some.size = search rules in
    let cut : c.without-rest.result.now ≡ drop c.in-Some.size inside = search rules in
    record {
      same = λ place. c.blank.invariant.same place ∙ closed_comment c.blank.rest.now inside c.without-rest.result.now c.in-Some.size c.blank.invariant.text (search rules) c.without-inside.ensures found cut place;
      text = rw (cut, c.without-inside.ensures) (All-drop IsTextByte c.in-Some.size (drop 2 c.blank.rest.now) (All-drop IsTextByte 2 c.blank.rest.now c.blank.invariant.text));
      within = omega (arith, ap length cut, ap length c.without-inside.ensures, length-drop 2 c.blank.rest.now, length-drop c.in-Some.size inside);
    }

pub returns-in_default-comment_end-clause-found : goal.returns-in_default-comment_end-clause-found
returns-in_default-comment_end-clause-found c = λ place.
    c.blank.invariant.same place ∙ open_comment c.blank.rest.now c.without-inside.result.now c.blank.invariant.text (search rules) c.without-inside.ensures (search rules) place

pub returns-else-begins_comment-clause-found : goal.returns-else-begins_comment-clause-found
returns-else-begins_comment-clause-found c = λ place.
    c.blank.invariant.same place
    ∙ piece_at c.blank.rest.now _ c.without.result.now c.first_piece-piece.result.1 _ c.in-len1-up.len_at_least c.blank.invariant.text refl (search rules) (search rules)
    c.first_piece-piece.ensures.what c.first_piece-piece.ensures.size (rw (← c.saturating_sub.ensures) c.without.ensures) place

pub returns-else-begins_comment-clause-word : goal.returns-else-begins_comment-clause-word
returns-else-begins_comment-clause-word c = word_at c.blank.rest.now _ c.in-len1-up.len_at_least c.blank.invariant.text c.first_piece-piece.ensures.what

pub returns-else-begins_comment-clause-text : goal.returns-else-begins_comment-clause-text
returns-else-begins_comment-clause-text c =
    text_behind c.blank.rest.now _ c.without.result.now _ c.in-len1-up.len_at_least c.blank.invariant.text refl c.without.ensures
