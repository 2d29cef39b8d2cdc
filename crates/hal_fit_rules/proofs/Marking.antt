-- How many marks of a unit stand before a statement, and which number the next one has.
use Rattle.std.proofs.Common.{◌≡◌, ℕ, suc, ◌+◌, ◌==◌, Bool, true, false, ◌&&◌, List, [], ◌∷◌, ◌++◌, length, Option, Some, None, slice_get, if◌then◌else◌, refl, sym, ap, ◌∙◌, arith, append_assoc, append-nil, length-append}
use Rattle.std.specs.List.{cons_option}
use Rattle.std.proofs.lemmas.List.Elements.{filter_map-append}
use Rattle.hal_grammar.specs.Leaves.{Naming}
use Rattle.hal_grammar.specs.Expressions.{Expression}
use Rattle.hal_grammar.specs.Statements.{Guard, While, Until, Span, Stepped, Listed, Statement, Alternative, NoAlternative, Otherwise}
use Rattle.hal_phrases.specs.declared.around.Around.{Around}
use Rattle.hal_phrases.specs.declared.role.Role.{Role}
use Rattle.hal_phrases.specs.Phrases.{Node, Phrase, phrase, add, gathered_each, gathered_any, OfLabel, OfGroup, OfTemporaryGroup, OfVariable}
use Rattle.hal_phrases.specs.GatheredDeclarations.{gathered_optional}
use Rattle.hal_phrases.specs.GatheredExpressions.{below, gathered}
use Rattle.hal_phrases.specs.GatheredStatements.{gathered_label, gathered_guard, gathered_span, begun_for, gathered_statement, gathered_alternative}
use Rattle.hal_meaning.specs.Bodies.{is_mark, marks_of}
use Rattle.hal_meaning.specs.Marks.{after_statement, after_alternative}
use Rattle.hal_sound_names.proofs.LookingUp.{adds, same_unit}
use Rattle.hal_sound_names.proofs.LookingExpressions.{expression_goes, expressions_goes}
use Rattle.hal_sound_names.proofs.LookingStatements.{statement_goes}
use Rattle.hal_fit_rules.specs.Begun.{AreFirst}

-- so many marks of the unit stand among these phrases
abbrev pub Counts : ℕ → ℕ → List Phrase → Type 0
Counts home m d = length (marks_of d home) ≡ m

-- the mark that a phrase is
abbrev mark_at : ℕ → Phrase → Option ℕ
mark_at home p = if is_mark p.node && (p.around.home == home) then Some p.number else None

marks_added : (home : ℕ) (d : List Phrase) (a : Around) (n : Node) → marks_of (add d a n) home ≡ marks_of d home ++ cons_option (mark_at home (phrase (length d) a n)) []
marks_added home d a n = filter_map-append (mark_at home) d (phrase (length d) a n ∷ [])

-- a phrase that is no mark
pub no_mark : (home m : ℕ) (d : List Phrase) (a : Around) (n : Node) → is_mark n ≡ false → Counts home m d → Counts home m (add d a n)
no_mark home m d a n none counts =
    ap (λ (xs : List ℕ). length xs)
    (marks_added home d a n ∙ (ap (λ b. marks_of d home ++ cons_option (if b && (a.home == home) then Some (length d) else None) []) none ∙ append-nil (marks_of d home))) ∙ counts

-- a mark of the unit
marks_more : (d : List Phrase) (a : Around) (n : Node) → is_mark n ≡ true → marks_of (add d a n) a.home ≡ marks_of d a.home ++ (length d ∷ [])
marks_more d a n is =
    marks_added a.home d a n
    ∙ (ap (λ b. marks_of d a.home ++ cons_option (if b && (a.home == a.home) then Some (length d) else None) []) is
    ∙ ap (λ b. marks_of d a.home ++ cons_option (if b then Some (length d) else None) []) (same_unit a.home))

one_longer : (xs : List ℕ) (m k : ℕ) → length xs ≡ m → length (xs ++ (k ∷ [])) ≡ suc m
one_longer xs m k is = length-append xs (k ∷ []) ∙ omega (arith, is)

pub mark_more : (m : ℕ) (d : List Phrase) (a : Around) (n : Node) → is_mark n ≡ true → Counts a.home m d → Counts a.home (suc m) (add d a n)
mark_more m d a n is counts = ap (λ (xs : List ℕ). length xs) (marks_more d a n is) ∙ one_longer (marks_of d a.home) m (length d) counts

at_length : (xs : List ℕ) (k : ℕ) (ys : List ℕ) → slice_get (xs ++ (k ∷ ys)) (length xs) ≡ Some k
at_length [] k ys = refl
at_length (x ∷ xs) k ys = at_length xs k ys

-- it is the one with the next number among those of the set
pub mark_there : (ps : List Phrase) (m : ℕ) (d : List Phrase) (a : Around) (n : Node) → is_mark n ≡ true → Counts a.home m d → AreFirst (add d a n) ps → slice_get (marks_of ps a.home) m ≡ Some (length d)
mark_there ps m d a n is counts first =
    let later : List ℕ = marks_of first.later a.home in
    let whole : marks_of ps a.home ≡ marks_of d a.home ++ (length d ∷ later) =
    ap (λ (xs : List Phrase). marks_of xs a.home) first.whole
    ∙ (filter_map-append (mark_at a.home) (add d a n) first.later ∙ (ap (λ xs. xs ++ later) (marks_more d a n is) ∙ append_assoc (marks_of d a.home) (length d ∷ []) later)) in
    ap (λ xs. slice_get xs m) whole ∙ (ap (slice_get (marks_of d a.home ++ (length d ∷ later))) (sym counts) ∙ at_length (marks_of d a.home) (length d) later)

pub expression_counts : (m : ℕ) (d : List Phrase) (a : Around) (r : Role) (t : Expression) → Counts a.home m d → Counts a.home m (gathered d a r t)
expression_counts m d a r t counts = (adds (same_unit a.home) (expression_goes a.home m d a r t)).counts counts

pub statement_counts : (m : ℕ) (d : List Phrase) (a : Around) (x : Statement) → Counts a.home m d → Counts a.home (after_statement m x) (gathered_statement d a x)
statement_counts m d a x counts = (adds (same_unit a.home) (statement_goes a.home m d a x)).counts counts

pub alternative_counts : (m : ℕ) (d : List Phrase) (a : Around) (x : Alternative) → Counts a.home m d → Counts a.home (after_alternative m x) (gathered_alternative d a x)
unfolding gathered_alternative
alternative_counts m d a NoAlternative counts = counts
alternative_counts m d a (Otherwise x) counts = statement_counts m d a x counts

pub labels_count : (m : ℕ) (a : Around) (d : List Phrase) (xs : List Naming) → Counts a.home m d → Counts a.home m (gathered_each (gathered_label a) d xs)
labels_count m a d [] counts = counts
labels_count m a d (x ∷ xs) counts = labels_count m a (add d a (OfLabel x)) xs (no_mark a.home m d a (OfLabel x) refl counts)

pub guard_counts : (m : ℕ) (a : Around) (d : List Phrase) (x : Guard) → Counts a.home m d → Counts a.home m (gathered_guard a d x)
unfolding gathered_guard
guard_counts m a d (While p t) counts = expression_counts m d a _ t counts
guard_counts m a d (Until p t) counts = expression_counts m d a _ t counts

pub any_guard_counts : (m : ℕ) (a : Around) (d : List Phrase) (o : Option Guard) → Counts a.home m d → Counts a.home m (gathered_any (gathered_guard a) d o)
any_guard_counts m a d None counts = counts
any_guard_counts m a d (Some x) counts = guard_counts m a d x counts

optional_counts : (m : ℕ) (d : List Phrase) (a : Around) (r : Role) (o : Option Expression) → Counts a.home m d → Counts a.home m (gathered_optional d a r o)
optional_counts m d a r None counts = counts
optional_counts m d a r (Some t) counts = expression_counts m d a r t counts

pub span_counts : (m : ℕ) (d : List Phrase) (a : Around) (x : Span) → Counts a.home m d → Counts a.home m (gathered_span d a x)
unfolding gathered_span
span_counts m d a (Stepped first last step) counts = optional_counts m _ a _ step (expression_counts m _ a _ last (expression_counts m d a _ first counts))
span_counts m d a (Listed values) counts = (adds (same_unit a.home) (expressions_goes a.home m d a _ values)).counts counts

pub for_counts : (m : ℕ) (d : List Phrase) (a : Around) (labels : List Naming) (temporary : Bool) (variable : Naming) → Counts a.home m d → Counts a.home (suc m) (begun_for d a labels temporary variable)
unfolding begun_for
for_counts m d a labels true variable counts = mark_more m d a (OfTemporaryGroup labels variable) refl counts
for_counts m d a labels false variable counts = no_mark a.home (suc m) (add d a (OfGroup labels true)) (below d a) (OfVariable variable) refl (mark_more m d a (OfGroup labels true) refl counts)
