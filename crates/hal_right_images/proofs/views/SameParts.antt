-- Structures with the same parts have components to which the same names lead.
use Rattle.std.specs.Prelude.{◌≡◌, ℕ, nat_le, Bool, true, false, cond, List, [], ◌∷◌, ◌++◌, map, if◌then◌else◌}
use Rattle.std.proofs.Common.{refl, ap, ◌∙◌}
use Rattle.hal_grammar.specs.Leaves.{Naming}
use Rattle.hal_grammar.specs.Declarations.{Part}
use Rattle.hal_phrases.specs.Phrases.{Phrase}
use Rattle.hal_phrases.specs.GatheredDeclarations.{is_bottom}
use Rattle.hal_constants.specs.Known.{Known}
use Rattle.hal_templates.specs.Agreeing.{HaveSameParts}
use Rattle.hal_meaning.specs.Elements.{Above, Component, chosen, component, components_from, leads, lower, path_to}
use Rattle.hal_right_images.specs.views.Left.{LeadSomewhere}

-- the names that lead to components
abbrev pub paths_of : List Component → List (List (List ℕ))
paths_of cs = map (λ (c : Component). c.path) cs

module _ (ps : List Phrase) (vs : Known) (r s : Phrase) where
  -- what stands behind a part of both is at the same level
  bottom_same : (level : ℕ) (xs ys : List Part) → HaveSameParts ps vs r xs s ys → is_bottom level xs ≡ is_bottom level ys
  unfolding is_bottom
  bottom_same level [] [] same = refl
  bottom_same level [] (y ∷ ys) same = absurd same
  bottom_same level (x ∷ xs) [] same = absurd same
  bottom_same level (x ∷ xs) (y ∷ ys) same = ap (λ n. nat_le n level) same.0.level

  -- the paths of a part with this level and name, and of those behind it
  paths_by : List Above → Part → List Part → ℕ → List ℕ → Bool → List (List (List ℕ))
  paths_by above y ys level name bottom =
      paths_of (if bottom
      then component ps vs s (map (λ (one : Above). one.1) (lower level above) ++ (name ∷ [])) y.attributes ∷ components_from ps vs s (lower level above) ys
      else components_from ps vs s (lower level above ++ ((level, name) ∷ [])) ys)

  -- those of the first part are the same, where those behind it are
  first_same : (above : List Above) (x y : Part) (xs ys : List Part) (bottom : Bool) → ((behind : List Above) → paths_of (components_from ps vs r behind xs) ≡ paths_of (components_from ps vs s behind ys))
      → paths_of (if bottom
      then component ps vs r (path_to (lower x.level above) x) x.attributes ∷ components_from ps vs r (lower x.level above) xs
      else components_from ps vs r (lower x.level above ++ ((x.level, x.name.name) ∷ [])) xs) ≡ paths_by above y ys x.level x.name.name bottom
  unfolding paths_by
  first_same above x y xs ys true rest = ap (λ (l : List (List (List ℕ))). path_to (lower x.level above) x ∷ l) (rest (lower x.level above))
  first_same above x y xs ys false rest = rest (lower x.level above ++ ((x.level, x.name.name) ∷ []))

  -- and so are all
  pub paths_same : (above : List Above) (xs ys : List Part) → HaveSameParts ps vs r xs s ys → paths_of (components_from ps vs r above xs) ≡ paths_of (components_from ps vs s above ys)
  unfolding paths_by
  paths_same above [] [] same = refl
  paths_same above [] (y ∷ ys) same = absurd same
  paths_same above (x ∷ xs) [] same = absurd same
  paths_same above (x ∷ xs) (y ∷ ys) same =
      first_same above x y xs ys (is_bottom x.level xs) (λ behind. paths_same behind xs ys same.1)
      ∙ (ap (λ level. paths_by above y ys level x.name.name (is_bottom x.level xs)) same.0.level
      ∙ (ap (λ name. paths_by above y ys y.level name (is_bottom x.level xs)) same.0.name
      ∙ ap (paths_by above y ys y.level y.name.name) (ap (λ level. is_bottom level xs) same.0.level ∙ bottom_same y.level xs ys same.1)))

-- so where names lead to one of the ones, they lead to one of the others
pub lead_alike : (names : List Naming) (cs ds : List Component) → paths_of cs ≡ paths_of ds → LeadSomewhere (chosen names cs) → LeadSomewhere (chosen names ds)
lead_alike names [] [] same some = some
lead_alike names [] (d ∷ ds) same some = absurd some
lead_alike names (c ∷ cs) [] same some = absurd (cc)
lead_alike names (c ∷ cs) (d ∷ ds) same some =
    by (leads names c.path) (leads names d.path) (let first : c.path ≡ d.path = cc in ap (leads names) first) some (lead_alike names cs ds (let rest : paths_of cs ≡ paths_of ds = cc in rest))
  where
    by : (one other : Bool) → one ≡ other → LeadSomewhere (cond one (c ∷ chosen names cs) (chosen names cs)) → (LeadSomewhere (chosen names cs) → LeadSomewhere (chosen names ds))
        → LeadSomewhere (cond other (d ∷ chosen names ds) (chosen names ds))
    by true true so some_ rest = tt
    by false false so some_ rest = rest some_
    by true false so some_ rest = absurd (cc)
    by false true so some_ rest = absurd (cc)
