-- Numbers with commas between.
use Rattle.std.proofs.Common.{◌≡◌, ◌≢◌, ℕ, List, [], ◌∷◌, ◌++◌, length, codes, ap, sym, append_assoc, refl, arith, ◌∙◌}
use Rattle.std.specs.Fmt.{decimal}
use Rattle.hal_values.specs.ReportElements.{joined}

pub joined_none : (numbers : List ℕ) → length numbers ≡ 0 → joined numbers ≡ []
joined_none [] none = refl
joined_none (n ∷ numbers) none = absurd (omega arith)

one_alone : (n : ℕ) (others : List ℕ) → length others ≡ 0 → joined (n ∷ others) ≡ decimal n
one_alone n [] none = refl
one_alone n (m ∷ others) none = absurd (omega arith)

one_of_more : (n : ℕ) (others : List ℕ) → length others ≢ 0 → joined (n ∷ others) ≡ decimal n ++ (codes "," ++ joined others)
one_of_more n [] some = absurd (some refl)
one_of_more n (m ∷ others) some = refl

pub joined_one : (numbers others : List ℕ) (n : ℕ) → numbers ≡ n ∷ others → length others ≡ 0 → joined numbers ≡ decimal n
joined_one numbers others n is none = ap joined is ∙ one_alone n others none

pub joined_more : (numbers others : List ℕ) (n : ℕ) → numbers ≡ n ∷ others → length others ≢ 0 → joined numbers ≡ decimal n ++ (codes "," ++ joined others)
joined_more numbers others n is some = ap joined is ∙ one_of_more n others some

-- the first number with its comma, and the others
pub joined_parts : (old middle new digits numbers others : List ℕ) (n : ℕ) → numbers ≡ n ∷ others → length others ≢ 0 → digits ≡ decimal n ++ codes "," → middle ≡ old ++ digits → new ≡ middle ++ joined others → new ≡ old ++ joined numbers
joined_parts old middle new digits numbers others n is some e f g =
    let whole : new ≡ (old ++ (decimal n ++ codes ",")) ++ joined others = g ∙ ap (λ m. m ++ joined others) (f ∙ ap (λ d. old ++ d) e) in
    whole ∙ (append_assoc old (decimal n ++ codes ",") (joined others) ∙ (ap (λ r. old ++ r) (append_assoc (decimal n) (codes ",") (joined others)) ∙ ap (λ r. old ++ r) (sym (joined_more numbers others n is some))))
