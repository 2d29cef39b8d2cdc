-- The values that a list behind CONSTANT gives, one after another, each as often as it stands there.
use Rattle.std.specs.Prelude.{ℕ, zero, suc, List, [], ◌∷◌, ◌++◌, map, replicate}
use Rattle.std.specs.Borrow.{Bor}
use Rattle.hal_grammar.specs.Declarations.{Initial, Value, LiteralTimes, NameTimes, ListTimes, Initials, NoInitials, MoreInitials}
use Rattle.hal_phrases.specs.Phrases.{Phrase}
use Rattle.hal_tree.specs.declared.declaration.Initial as tree
use Rattle.hal_tree.specs.SeenDeclarations.{seen_initial}
use Rattle.hal_templates.specs.Counts as counts
use Rattle.hal_constants.specs.declared.constant.Constant.{Constant}
use Rattle.hal_constants.specs.declared.constant.Constant.TheVariants as constant
use Rattle.hal_constants.specs.Constants.{constant_of}
use Rattle.hal_constants.specs.Known.{Known, signed_literal, signed_name}

-- a list so many times
abbrev pub times : {X : Type 0} → ℕ → List X → List X
times zero xs = []
times (suc n) xs = xs ++ times n xs

abbrev mutual
  -- those that one initial value gives
  pub leaves_of : Initial → List Initial
  leaves_of (Value tree) = Value tree ∷ []
  leaves_of (LiteralTimes place count sign at literal) = replicate count (LiteralTimes place count sign at literal)
  leaves_of (NameTimes place count sign name) = replicate count (NameTimes place count sign name)
  leaves_of (ListTimes place count list) = times count (all_leaves list)

  -- those that a list gives
  pub all_leaves : Initials → List Initial
  all_leaves NoInitials = []
  all_leaves (MoreInitials first others) = leaves_of first ++ all_leaves others

unfoldable mutual
  -- how many that are
  pub count_of : Initial → ℕ
  count_of (Value tree) = 1
  count_of (LiteralTimes place count sign at literal) = count
  count_of (NameTimes place count sign name) = count
  count_of (ListTimes place count list) = counts.times count (count_with 0 list)

  pub count_with : ℕ → Initials → ℕ
  count_with total NoInitials = total
  count_with total (MoreInitials first others) = count_with (counts.add total (count_of first)) others

abbrev pub count_of_all : Initials → ℕ
count_of_all list = count_with 0 list

-- the value of one of them, without its repetition
unfoldable pub leaf_value : List Phrase → Known → Phrase → Initial → Constant
leaf_value ps vs p (Value tree) = constant_of ps vs p tree
leaf_value ps vs p (LiteralTimes place count sign at literal) = signed_literal sign literal
leaf_value ps vs p (NameTimes place count sign name) = signed_name ps vs p sign name
leaf_value ps vs p (ListTimes place count list) = constant.Unfit

-- as the program has them
abbrev pub seen_leaf : Bor tree.Initial → Initial
seen_leaf leaf = seen_initial leaf.now

abbrev pub seen_leaves : List (Bor tree.Initial) → List Initial
seen_leaves leaves = map seen_leaf leaves
