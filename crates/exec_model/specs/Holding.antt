-- The lock groups that a request touches, as the code keeps them.
use Rattle.std.specs.Prelude.{ℕ, ◌^◌}
use Rattle.exec_model.specs.declared.holding.Touch.{Touch}
use Rattle.exec_model.specs.declared.holding.Touch.TheVariants.{Nothing, Groups, Group}

-- a bit for each group
abbrev pub touch_groups : Touch → ℕ
touch_groups Nothing = 0
touch_groups (Groups groups) = groups
touch_groups (Group group) = 2 ^ group
