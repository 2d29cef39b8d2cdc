use Rattle.std.proofs.Common.{◌≡◌, ◌≤◌, length}
use Rattle.hal_base.specs.declared.refusal.Place.{Place}
use Rattle.hal_words.specs.Replacing.{text_items}
use Rattle.hal_lexer.specs.Texts.{IsText}
use Rattle.hal_lexer.proofs.fronts.front.Given as goal

abbrev pub invariant-blank : goal.invariant-blank
invariant-blank l = record {
  same : (place : Place) → text_items place l.text ≡ text_items place l.rest;
  text : IsText l.rest;
  within : length l.rest ≤ length l.text;
}

abbrev pub decreases-blank : goal.decreases-blank
decreases-blank l = length l.rest
