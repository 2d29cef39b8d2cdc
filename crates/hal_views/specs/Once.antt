-- What a list of views has, and that it has each of them once.
use Rattle.std.specs.Prelude.{◌≡◌, ◌⊎◌, List, [], ◌∷◌}
use Rattle.hal_views.specs.Views.{View}

-- the view is one of these
abbrev pub IsAmong : View → List View → Type 0
IsAmong v [] = ⊥
IsAmong v (w ∷ ws) = (v ≡ w) ⊎ IsAmong v ws

-- none of these stands there twice
abbrev pub AreOnce : List View → Type 0
AreOnce [] = Unit {0}
AreOnce (v ∷ vs) = (IsAmong v vs → ⊥) × AreOnce vs
