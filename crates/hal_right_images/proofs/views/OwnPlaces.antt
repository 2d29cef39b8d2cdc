-- Own places of groups and input parameters lie where they are.
use Rattle.std.specs.Prelude.{◌≡◌, ◌<◌, ◌==◌, ◌&&◌, ℕ, zero, suc, true, List, [], ◌∷◌, map, replicate, Some, slice_get, if◌then◌else◌}
use Rattle.std.proofs.Common.{refl, sym, ap, subst, ◌∙◌, inl, inr, arith}
use Rattle.std.proofs.lemmas.Bool.{and_from, eq-eqb, or_left, or_right}
use Rattle.hal_grammar.specs.Leaves.{Naming}
use Rattle.hal_phrases.specs.Phrases.{Phrase}
use Rattle.hal_names.specs.Laws.{IsCounted}
use Rattle.hal_scope.specs.Rules.{IsAmong}
use Rattle.hal_values.specs.declared.value.Kind.{Kind}
use Rattle.hal_values.specs.declared.value.Kind.TheVariants as kind
use Rattle.hal_code.specs.declared.image.ImageParts.{ImageParts}
use Rattle.hal_code.specs.declared.row.Base.{Base}
use Rattle.hal_code.specs.declared.row.Dimension.{Dimension}
use Rattle.hal_code.specs.declared.row.Target.TheVariants as target
use Rattle.hal_code.specs.Images as images
use Rattle.hal_code.specs.Memory.{lies_from, own_memory}
use Rattle.hal_meaning.specs.Bodies.{Body, processes_of, processes_reaching}
use Rattle.hal_meaning.specs.Calls.{parameter_named}
use Rattle.hal_meaning.specs.Expressions.{inputs_at}
use Rattle.hal_meaning.specs.Places.{InPlaces, hidden, is_for_or_case, places_at, places_of, says_for_or_case}
use Rattle.hal_meaning.specs.ReportNames.{first_place}
use Rattle.hal_meaning.specs.Sets.{Set, body_at}
use Rattle.hal_meaning.specs.Variables.{kind_of_first}
use Rattle.hal_reach.specs.Places.{is_among}
use Rattle.hal_agreement.specs.Sites.{Site, within_block}
use Rattle.hal_gen_expr.specs.Numbering.{base_of, cell_view}
use Rattle.hal_fit_expr.proofs.Given.{number_same}
use Rattle.hal_link.specs.Linking.{own_row, process_site}
use Rattle.hal_link.specs.Shapes.{shapes_of}
use Rattle.hal_fit_layout.specs.Owned.{LiesIn, IsStored, AreStored}
use Rattle.hal_fit_layout.proofs.Owned.{lies_in_process}
use Rattle.hal_fit_layout.proofs.Parameters.{places_are}
use Rattle.hal_fit_calls.specs.Each.{Each}
use Rattle.hal_right_images.proofs.rows.Alone.{each_at, place_of}
use Rattle.hal_right_images.proofs.rows.Lying.{own_lies, parameter_lies}
use Rattle.hal_right_images.specs.rows.Homes.{StandsPlaced}
use Rattle.hal_right_images.specs.rows.Purposes.{StandsIn, SaysPlaces, ForPlace, ForParameter}
use Rattle.hal_right_images.specs.views.Lying.{lies_in, CellsLie}
use Rattle.hal_right_images.proofs.views.Held.{own_held, one_chosen}
use Rattle.hal_right_images.proofs.views.Laying.{hidden_opens}
use Rattle.hal_right_images.proofs.views.Reached.{ReachesIt, stands_reached}

-- a member of a list of equal ones
same_at : (n before : ℕ) (k : Kind) → before < n → slice_get (replicate n k) before ≡ Some k
same_at zero before k low = absurd (omega (arith, low))
same_at (suc n) zero k low = refl
same_at (suc n) (suc before) k low = same_at n before k (omega (arith, low))

stored_one : (s : Set) (unit : ℕ) (names : List Naming) (name : Naming) → AreStored s unit names InPlaces → IsAmong name names → IsStored s unit name InPlaces
stored_one s unit [] name stored within = absurd within
stored_one s unit (one ∷ names) name stored (inl same) = subst (λ n. IsStored s unit n InPlaces) (sym same) stored.0
stored_one s unit (one ∷ names) name stored (inr later) = stored_one s unit names name stored.1 later

-- a phrase says so of its group
any_says : (ps : List Phrase) (group : ℕ) (q : Phrase) → IsAmong q ps → says_for_or_case q.node ≡ true → q.around.parent ≡ group → is_for_or_case ps group ≡ true
any_says [] group q among says parent = absurd among
any_says (p ∷ ps) group q (inl same) says parent =
    or_left (says_for_or_case p.node && (p.around.parent == group)) (is_for_or_case ps group)
    (subst (λ (x : Phrase). (says_for_or_case x.node && (x.around.parent == group)) ≡ true) same (and_from (says_for_or_case q.node) (q.around.parent == group) says (eq-eqb q.around.parent group parent)))
any_says (p ∷ ps) group q (inr later) says parent = or_right (says_for_or_case p.node && (p.around.parent == group)) (is_for_or_case ps group) (any_says ps group q later says parent)

module _ (s : Set) (counted : IsCounted s.phrases) (image : ImageParts)
    (laid : (process own : ℕ) → slice_get (processes_of s.phrases) process ≡ Some own → images.places_of image process ≡ map (own_row s (shapes_of s)) (places_of s.phrases s.constants own)) where
  -- at a site in a process
  module _ (process unit block : ℕ) (b : Body) (found : body_at s unit ≡ Some b) (stands : StandsIn s process unit) where
    abbrev here : Site
    here = within_block block (process_site s process b)

    reached : ReachesIt s process b.number
    reached = subst (ReachesIt s process) (sym (number_same s unit b found)) (stands_reached s process unit stands)

    same_places : here.places ≡ places_of s.phrases s.constants reached.own
    same_places = places_are s process reached.own reached.its

    -- what lies among its places lies among those of the image
    in_image : (declared : ℕ) (ks : List Kind) → lies_from (own_memory (map (own_row s (shapes_of s)) (places_of s.phrases s.constants reached.own))) (first_place (places_of s.phrases s.constants reached.own) declared) ks ≡ true
        → lies_from (own_memory (images.places_of image process)) (first_place here.places declared) ks ≡ true
    in_image declared ks lies =
        subst (λ places. lies_from (own_memory (images.places_of image process)) (first_place places declared) ks ≡ true) (sym same_places)
        (subst (λ rows. lies_from (own_memory rows) (first_place (places_of s.phrases s.constants reached.own) declared) ks ≡ true) (sym (laid process reached.own reached.its)) lies)

    parameter_held : ((k : ℕ) → AreStored s k (inputs_at s k) InPlaces) → (rows : List Dimension) (k : Kind) (from : Base) → ForParameter here rows k from → lies_in image process (cell_view from rows k) ≡ true
    parameter_held stored rows k from one =
        let number = (parameter_named s b.number one.name).number in
        let first = kind_of_first (parameter_named s b.number one.name).shape.components in
        let is = stored_one s b.number (inputs_at s b.number) one.name (stored b.number) one.named in
        let lies = in_image number (first ∷ []) (parameter_lies s (shapes_of s) counted reached.own reached.reaches.place b.number one.name is reached.reaches.there reached.reaches.reaches) in
        subst (λ ds. lies_in image process (cell_view from ds k) ≡ true) (sym one.plain)
        (subst (λ x. lies_in image process (cell_view from [] x) ≡ true) (sym one.kind)
        (own_held image process here number 0 (first ∷ []) from [] (target.Cell first) lies one.begins (one_chosen image (first ∷ []) 0 first refl)))

    -- places of a group in the unit
    hidden_held : (group : ℕ) (g : Phrase) (n before : ℕ) (from : Base) → slice_get s.phrases group ≡ Some g → g.around.home ≡ b.number → places_at s.phrases s.constants g g.node ≡ hidden g.number (suc n) → before < suc n
        → base_of here group before InPlaces ≡ Some from → lies_in image process (cell_view from [] kind.Double) ≡ true
    hidden_held group g n before from there home hides few begins =
        let one = reached.reaches in
        let lies = lies_in_process s.phrases s.constants counted g.around.home group g there refl reached.own one.place (one.there ∙ ap Some (sym home)) (subst (λ u. is_among (processes_reaching s.phrases u) reached.own ≡ true) (sym home) one.reaches) in
        let own : LiesIn (places_of s.phrases s.constants reached.own) group (hidden group (suc n)) =
        subst (λ k. LiesIn (places_of s.phrases s.constants reached.own) group (hidden k (suc n))) (counted group g there) (subst (LiesIn (places_of s.phrases s.constants reached.own) group) hides lies) in
        let doubles = own_lies s (shapes_of s) (places_of s.phrases s.constants reached.own) group (hidden group (suc n)) (replicate (suc n) kind.Double) own (hidden_opens group n) in
        own_held image process here group before (replicate (suc n) kind.Double) from [] (target.Cell kind.Double) (in_image group (replicate (suc n) kind.Double) doubles) begins
        (one_chosen image (replicate (suc n) kind.Double) before kind.Double (same_at (suc n) before kind.Double few))

    place_held : Each (StandsPlaced s.phrases) s.phrases → (rows : List Dimension) (k : Kind) (from : Base) → ForPlace here rows k from → lies_in image process (cell_view from rows k) ≡ true
    place_held groups rows k from one =
        subst (λ ds. lies_in image process (cell_view from ds k) ≡ true) (sym one.plain)
        (subst (λ x. lies_in image process (cell_view from [] x) ≡ true) (sym one.kind) (by one.has.says))
      where
        at : (m : ℕ) × (slice_get s.phrases m ≡ Some one.has.phrase)
        at = place_of s.phrases one.has.phrase one.has.among

        by : SaysPlaces one.has.phrase one.group one.before → lies_in image process (cell_view from [] kind.Double) ≡ true
        by (inl itself) =
            let number = counted at.0 one.has.phrase at.1 in
            let there : slice_get s.phrases one.group ≡ Some one.has.phrase = subst (λ m. slice_get s.phrases m ≡ Some one.has.phrase) (sym number ∙ itself.3) at.1 in
            hidden_held one.group one.has.phrase 4 one.before from there one.has.home (ap (places_at s.phrases s.constants one.has.phrase) itself.2) itself.4 one.begins
        by (inr child) =
            let g = (each_at (StandsPlaced s.phrases) s.phrases at.0 one.has.phrase groups at.1).0 child.0 in
            let there : slice_get s.phrases one.group ≡ Some g.group = subst (λ m. slice_get s.phrases m ≡ Some g.group) child.1 g.there in
            let said = any_says s.phrases g.group.number one.has.phrase one.has.among child.0 (child.1 ∙ sym (counted one.group g.group there)) in
            hidden_held one.group g.group 3 one.before from there (g.home ∙ one.has.home)
            (ap (places_at s.phrases s.constants g.group) g.is ∙ ap (λ c. if c then hidden g.group.number 4 else []) said) child.2 one.begins

  pub parameters_lie : ((k : ℕ) → AreStored s k (inputs_at s k) InPlaces) → CellsLie s image ForParameter
  parameters_lie stored process site rows k from at one =
      parameter_held process at.unit at.block at.body at.found at.stands stored rows k from (subst (λ (x : Site). ForParameter x rows k from) at.is one)

  pub places_lie : Each (StandsPlaced s.phrases) s.phrases → CellsLie s image ForPlace
  places_lie groups process site rows k from at one = place_held process at.unit at.block at.body at.found at.stands groups rows k from (subst (λ (x : Site). ForPlace x rows k from) at.is one)
