-- Lines are one script, or have one first fault, and never both.
use Rattle.std.proofs.Common.{◌≡◌, ℕ, ◌+◌, ◌⊎◌, inl, inr, List, [], ◌∷◌, ◌++◌, Option, refl, ap, ◌∙◌, sym, subst}
use Rattle.std.specs.Option.{option_to_list}
use Rattle.exec_model.specs.declared.script.ScriptLine.{ScriptLine}
use Rattle.hal_script.specs.declared.fault.ScriptFault.{ScriptFault}
use Rattle.hal_script.specs.declared.reading.Reading.{Reading}
use Rattle.hal_script.specs.declared.reading.Reading.TheVariants.{Good, Faults}
use Rattle.hal_script.specs.declared.reading.SoFar.{SoFar}
use Rattle.hal_script.specs.Readings.{reading, past}
use Rattle.hal_script.specs.ScriptTexts.{IsScriptFrom, IsFaultFrom, opening, IsScriptOf, IsFault}

same_asked : (r : Reading) (a b : Option ScriptLine) → r ≡ Good a → r ≡ Good b → a ≡ b
same_asked r a b x y = cc

same_reason : (r : Reading) (a b : ℕ) → r ≡ Faults a → r ≡ Faults b → a ≡ b
same_reason r a b x y = cc

not_both : (r : Reading) (a : Option ScriptLine) (b : ℕ) → r ≡ Good a → r ≡ Faults b → ⊥
not_both r a b x y = cc

same_fault : (one other : ScriptFault) → one.line ≡ other.line → one.reason ≡ other.reason → one ≡ other
same_fault one other number reason =
    ap (λ n. let made : ScriptFault = record { line = n; reason = one.reason } in made) number
    ∙ ap (λ r. let made : ScriptFault = record { line = other.line; reason = r } in made) reason

-- what follows a good line, as the same line asks for it
then_script : (lines : List (List ℕ)) (so_far : SoFar) (asked asked' : Option ScriptLine) (script : List ScriptLine) → asked' ≡ asked → IsScriptFrom (past so_far asked') lines script
    → IsScriptFrom (past so_far asked) lines script
then_script lines so_far asked asked' script same more = subst (λ (o : Option ScriptLine). IsScriptFrom (past so_far o) lines script) same more

then_fault : (lines : List (List ℕ)) (so_far : SoFar) (asked asked' : Option ScriptLine) (fault : ScriptFault) → asked' ≡ asked → IsFaultFrom (past so_far asked') lines fault
    → IsFaultFrom (past so_far asked) lines fault
then_fault lines so_far asked asked' fault same more = subst (λ (o : Option ScriptLine). IsFaultFrom (past so_far o) lines fault) same more

IsScriptFrom-unique : (lines : List (List ℕ)) (so_far : SoFar) (one other : List ScriptLine) → IsScriptFrom so_far lines one → IsScriptFrom so_far lines other → one ≡ other
IsScriptFrom-unique [] so_far one other x y = x ∙ sym y
IsScriptFrom-unique (line ∷ lines) so_far one other (asked, others, good, is, more) (asked', others', good', is', more') =
    let same : asked' ≡ asked = same_asked (reading so_far line) asked' asked good' good in
    let rest : others ≡ others' = IsScriptFrom-unique lines (past so_far asked) others others' more (then_script lines so_far asked asked' others' same more') in
    is ∙ ap (λ xs. option_to_list asked ++ xs) rest ∙ ap (λ o. option_to_list o ++ others') (sym same) ∙ sym is'

IsFaultFrom-unique : (lines : List (List ℕ)) (so_far : SoFar) (one other : ScriptFault) → IsFaultFrom so_far lines one → IsFaultFrom so_far lines other → one ≡ other
IsFaultFrom-unique [] so_far one other x y = absurd x
IsFaultFrom-unique (line ∷ lines) so_far one other (inl (here, number)) (inl (here', number')) =
    same_fault one other (number ∙ sym number') (same_reason (reading so_far line) one.reason other.reason here here')
IsFaultFrom-unique (line ∷ lines) so_far one other (inl (here, number)) (inr (asked, good, later)) = absurd (not_both (reading so_far line) asked one.reason good here)
IsFaultFrom-unique (line ∷ lines) so_far one other (inr (asked, good, later)) (inl (here, number)) = absurd (not_both (reading so_far line) asked other.reason good here)
IsFaultFrom-unique (line ∷ lines) so_far one other (inr (asked, good, later)) (inr (asked', good', later')) =
    let same : asked' ≡ asked = same_asked (reading so_far line) asked' asked good' good in
    IsFaultFrom-unique lines (past so_far asked) one other later (then_fault lines so_far asked asked' other same later')

IsScriptFrom-excludes : (lines : List (List ℕ)) (so_far : SoFar) (script : List ScriptLine) (fault : ScriptFault) → IsScriptFrom so_far lines script → IsFaultFrom so_far lines fault → ⊥
IsScriptFrom-excludes [] so_far script fault x y = absurd y
IsScriptFrom-excludes (line ∷ lines) so_far script fault (asked, others, good, is, more) (inl (here, number)) = not_both (reading so_far line) asked fault.reason good here
IsScriptFrom-excludes (line ∷ lines) so_far script fault (asked, others, good, is, more) (inr (asked', good', later)) =
    let same : asked' ≡ asked = same_asked (reading so_far line) asked' asked good' good in
    IsScriptFrom-excludes lines (past so_far asked) others fault more (then_fault lines so_far asked asked' fault same later)

-- one of the two
abbrev pub Read : SoFar → List (List ℕ) → Type 0
Read so_far lines = ((script : List ScriptLine) × IsScriptFrom so_far lines script) ⊎ ((fault : ScriptFault) × IsFaultFrom so_far lines fault)

-- a good line before lines that are read
onward : (line : List ℕ) (lines : List (List ℕ)) (so_far : SoFar) (asked : Option ScriptLine) → reading so_far line ≡ Good asked → Read (past so_far asked) lines → Read so_far (line ∷ lines)
onward line lines so_far asked good (inl (others, more)) = inl (option_to_list asked ++ others, (asked, others, good, refl, more))
onward line lines so_far asked good (inr (fault, later)) = inr (fault, inr (asked, good, later))

first_line : (line : List ℕ) (lines : List (List ℕ)) (so_far : SoFar) (r : Reading) → reading so_far line ≡ r → ((next : SoFar) → Read next lines) → Read so_far (line ∷ lines)
first_line line lines so_far (Good asked) is rest = onward line lines so_far asked is (rest (past so_far asked))
first_line line lines so_far (Faults reason) is rest =
    let fault : ScriptFault = record { line = so_far.line_count + 1; reason = reason } in inr (fault, inl (is, refl))

pub Read-all : (lines : List (List ℕ)) (so_far : SoFar) → Read so_far lines
Read-all [] so_far = inl ([], refl)
Read-all (line ∷ lines) so_far = first_line line lines so_far (reading so_far line) refl (λ next. Read-all lines next)

-- the same from the first line on
pub IsScriptOf-unique : (lines : List (List ℕ)) (one other : List ScriptLine) → IsScriptOf lines one → IsScriptOf lines other → one ≡ other
IsScriptOf-unique lines one other x y = IsScriptFrom-unique lines opening one other x y

pub IsFault-unique : (lines : List (List ℕ)) (one other : ScriptFault) → IsFault lines one → IsFault lines other → one ≡ other
IsFault-unique lines one other x y = IsFaultFrom-unique lines opening one other x y

pub IsScriptOf-excludes : (lines : List (List ℕ)) (script : List ScriptLine) (fault : ScriptFault) → IsScriptOf lines script → IsFault lines fault → ⊥
IsScriptOf-excludes lines script fault x y = IsScriptFrom-excludes lines opening script fault x y
