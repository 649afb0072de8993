-- A name in its shortest spelling has one candidate, and it is the path that the written name denotes.
use Rattle.std.proofs.Common.{◌≡◌, Bool, true, false, List, [], ◌∷◌, ◌++◌, Option, Some, None, refl, sym, ap, ◌∙◌, subst, arith}
use Rattle.std.specs.Prelude.{not, ◌||◌, nat_lt, is_some, if◌then◌else◌}
use Rattle.std.specs.List.{filter}
use Rattle.acpi_values.specs.Paths.{NameSeg, AbsolutePath}
use Rattle.acpi_state.specs.Outcomes.{choose}
use Rattle.acpi_state.proofs.Lookups.{is_same_path-true}
use Rattle.asl_tree.specs.declared.path.Path.{Path as Name}
use Rattle.asl_tree.specs.Names.{declared_path, enclosing, single_segment, search_path, candidates, first_of, denoted, absolute, is_searched, spelled_element, element_path}
use Rattle.asl_meaning.proofs.Searches.{below_reverse, first_is_known, absolute_candidates}
use Rattle.acpi_names.specs.Shortest.{name_length, shortest, last_alone, upward, unsearched, is_only, leads_to, short_element, use_of, spelled_item, met, spelled_use}

-- what holds of each of some names
abbrev pub Each : (Name → Type 0) → List Name → Type 0
Each P [] = Unit {0}
Each P (name ∷ names) = P name × Each P names

-- holds of each that is kept
pub each_kept : (p : Name → Bool) (P : Name → Type 0) (names : List Name) → Each P names → Each P (filter p names)
each_kept p P [] all = tt
each_kept p P (name ∷ names) all = by_kept (p name) (each_kept p P names all.1)
  where
    by_kept : (c : Bool) → Each P (filter p names) → Each P (if c then name ∷ filter p names else filter p names)
    by_kept true kept = (all.0, kept)
    by_kept false kept = kept

-- and what holds of each holds of the shortest
pub shortest_keeps : (P : Name → Type 0) (name : Name) (names : List Name) → P name → Each P names → P (shortest name names)
shortest_keeps P name [] h all = h
shortest_keeps P name (other ∷ names) h all = shortest_keeps P (if nat_lt (name_length other) (name_length name) then other else name) names (by_shorter (nat_lt (name_length other) (name_length name))) all.1
  where
    by_shorter : (c : Bool) → P (if c then other else name)
    by_shorter true = all.0
    by_shorter false = h

-- a name that is not searched has its one place
pub unsearched_path : (name : Name) (scope : AbsolutePath) → is_searched name ≡ false → search_path name scope ≡ declared_path name scope ∷ []
unsearched_path name scope e = by_single (single_segment name) e
  where
    by_single : (o : Option NameSeg) → is_some o ≡ false → choose o (declared_path name scope ∷ []) (λ seg. enclosing seg scope) ≡ declared_path name scope ∷ []
    by_single None h = refl
    by_single (Some seg) h = absurd (grind arith)

abbrev head_or : AbsolutePath → List AbsolutePath → AbsolutePath
head_or path [] = path
head_or path (other ∷ paths) = other

module _ (has : AbsolutePath → Bool) where
  only_is : (path : AbsolutePath) (paths : List AbsolutePath) → is_only path paths ≡ true → paths ≡ path ∷ []
  only_is path [] e = absurd (grind arith)
  only_is path (other ∷ []) e = ap (λ p. p ∷ []) (is_same_path-true other path e)
  only_is path (a ∷ b ∷ paths) e = absurd (grind arith)

  -- what a name denotes is there
  pub denoted_known : (name : Name) (scope path : AbsolutePath) → denoted has name scope ≡ Some path → has path ≡ true
  denoted_known name scope path e = by_candidates (candidates has (search_path name scope)) refl
    where
      by_candidates : (paths : List AbsolutePath) → candidates has (search_path name scope) ≡ paths → has path ≡ true
      by_candidates [] c = absurd (let x = sym (ap first_of c) ∙ e in grind arith)
      by_candidates (other ∷ paths) c =
          let is : other ≡ path = ap (λ o. choose o other (λ p. p)) (sym (ap first_of c) ∙ e) in
          subst (λ p. has p ≡ true) is (first_is_known has (search_path name scope) other paths c)

  -- the shortest of the names that lead to a path leads there
  pub short_leads : (path scope : AbsolutePath) (names : List Name) → has path ≡ true → candidates has (search_path (shortest (absolute path) (filter (leads_to has path scope) names)) scope) ≡ path ∷ []
  short_leads path scope names there =
      shortest_keeps (λ name. candidates has (search_path name scope) ≡ path ∷ []) (absolute path) (filter (leads_to has path scope) names) (absolute_candidates has path scope there) (lead names)
    where
      lead : (names : List Name) → Each (λ name. candidates has (search_path name scope) ≡ path ∷ []) (filter (leads_to has path scope) names)
      lead [] = tt
      lead (name ∷ names) = by_leads (leads_to has path scope name) refl (lead names)
        where
          by_leads : (c : Bool) → leads_to has path scope name ≡ c → Each (λ name. candidates has (search_path name scope) ≡ path ∷ []) (filter (leads_to has path scope) names) → Each (λ name. candidates has (search_path name scope) ≡ path ∷ []) (if c then name ∷ filter (leads_to has path scope) names else filter (leads_to has path scope) names)
          by_leads true e all = (only_is path (candidates has (search_path name scope)) e, all)
          by_leads false e all = all

  -- so does a used name of a path
  pub use_leads : (shorten : Bool) (name : Name) (path scope : AbsolutePath) → has path ≡ true → candidates has (search_path (use_of has shorten name path scope) scope) ≡ path ∷ []
  use_leads true name path scope there = short_leads path scope (last_alone path ++ unsearched path scope) there
  use_leads false name path scope there = by_leads (leads_to has path scope name) refl
    where
      by_leads : (c : Bool) → leads_to has path scope name ≡ c → candidates has (search_path (if c then name else absolute path) scope) ≡ path ∷ []
      by_leads true e = only_is path (candidates has (search_path name scope)) e
      by_leads false e = absolute_candidates has path scope there

  -- no name in a Package is searched
  pub short_element_placed : (path scope : AbsolutePath) → is_searched (short_element has path scope) ≡ false
  short_element_placed path scope =
      shortest_keeps (λ name. is_searched name ≡ false) (absolute path) (filter (leads_to has path scope) (unsearched path scope)) refl
      (each_kept (leads_to has path scope) (λ name. is_searched name ≡ false) (unsearched path scope) (kept (upward [] path scope)))
    where
      kept : (names : List Name) → Each (λ name. is_searched name ≡ false) (filter (λ name. not (is_searched name)) names)
      kept [] = tt
      kept (name ∷ names) = by_searched (is_searched name) refl (kept names)
        where
          by_searched : (c : Bool) → is_searched name ≡ c → Each (λ name. is_searched name ≡ false) (filter (λ name. not (is_searched name)) names) → Each (λ name. is_searched name ≡ false) (if not c then name ∷ filter (λ name. not (is_searched name)) names else filter (λ name. not (is_searched name)) names)
          by_searched true e all = all
          by_searched false e all = (e, all)

  -- the place of a name that is not searched is its one candidate
  placed : (name : Name) (scope path : AbsolutePath) (others : List AbsolutePath) → is_searched name ≡ false → candidates has (search_path name scope) ≡ path ∷ others → declared_path name scope ≡ path
  placed name scope path others e c = by_has (has (declared_path name scope)) (sym (ap (candidates has) (unsearched_path name scope e)) ∙ c)
    where
      by_has : (b : Bool) → (if b then declared_path name scope ∷ [] else []) ≡ path ∷ others → declared_path name scope ≡ path
      by_has true h = ap (head_or path) h
      by_has false h = absurd (grind arith)

  placed_path : (name : Name) (scope path : AbsolutePath) → is_searched name ≡ false → declared_path name scope ≡ path → element_path has name scope ≡ path
  placed_path name scope path e is = ap (λ c. if c then choose (denoted has name scope) (declared_path name scope) (λ path. path) else declared_path name scope) e ∙ is

  -- the path of an element of a Package stays
  pub element_same : (shorten : Bool) (name : Name) (scope : AbsolutePath) → element_path has (spelled_item has shorten name scope) scope ≡ element_path has name scope
  element_same shorten name scope = by_searched (is_searched name) refl
    where
      rooted : (c : Bool) → element_path has (if c then absolute (element_path has name scope) else name) scope ≡ element_path has name scope
      rooted true = below_reverse (element_path has name scope)
      rooted false = refl

      by_denoted : is_searched name ≡ false → (o : Option AbsolutePath) → denoted has name scope ≡ o → element_path has (choose o name (λ path. short_element has path scope)) scope ≡ element_path has name scope
      by_denoted s None e = refl
      by_denoted s (Some path) e =
          placed_path (short_element has path scope) scope path (short_element_placed path scope)
          (placed (short_element has path scope) scope path [] (short_element_placed path scope) (short_leads path scope (unsearched path scope) (denoted_known name scope path e)))
          ∙ sym (placed_path name scope path s (by_candidates (candidates has (search_path name scope)) refl))
        where
          by_candidates : (paths : List AbsolutePath) → candidates has (search_path name scope) ≡ paths → declared_path name scope ≡ path
          by_candidates [] c = absurd (let x = sym (ap first_of c) ∙ e in grind arith)
          by_candidates (other ∷ paths) c = placed name scope other paths s c ∙ ap (λ o. choose o other (λ p. p)) (sym (ap first_of c) ∙ e)

      by_shorten : (b : Bool) → is_searched name ≡ false → element_path has (if b then choose (denoted has name scope) name (λ path. short_element has path scope) else name) scope ≡ element_path has name scope
      by_shorten true s = by_denoted s (denoted has name scope) refl
      by_shorten false s = refl

      by_searched : (c : Bool) → is_searched name ≡ c → element_path has (if c then spelled_element has name scope else if shorten then choose (denoted has name scope) name (λ path. short_element has path scope) else name) scope ≡ element_path has name scope
      by_searched true s = rooted (is_searched name)
      by_searched false s = by_shorten shorten s

-- ---- what is met beside what is named
module _ (also has : AbsolutePath → Bool) where
  -- where nothing is met, nothing is named
  none_named : (paths : List AbsolutePath) → candidates (met also has) paths ≡ [] → candidates has paths ≡ []
  none_named [] e = refl
  none_named (p ∷ ps) e = by_has (has p) (also p) e (none_named ps)
    where
      by_has : (c a : Bool) → (if c || a then p ∷ candidates (met also has) ps else candidates (met also has) ps) ≡ [] → (candidates (met also has) ps ≡ [] → candidates has ps ≡ []) → (if c then p ∷ candidates has ps else candidates has ps) ≡ []
      by_has true a e go = absurd (grind arith)
      by_has false true e go = absurd (grind arith)
      by_has false false e go = go e

  abbrev rest_of : List AbsolutePath → List AbsolutePath
  rest_of [] = []
  rest_of (path ∷ paths) = paths

  -- where a named path is all that is met, it is all that is named
  pub met_alone : (path : AbsolutePath) (paths : List AbsolutePath) → has path ≡ true → candidates (met also has) paths ≡ path ∷ [] → candidates has paths ≡ path ∷ []
  met_alone path [] there e = absurd (grind arith)
  met_alone path (p ∷ ps) there e = by_has (has p) refl (also p) e (met_alone path ps there)
    where
      by_has : (c : Bool) → has p ≡ c → (a : Bool) → (if c || a then p ∷ candidates (met also has) ps else candidates (met also has) ps) ≡ path ∷ [] → (candidates (met also has) ps ≡ path ∷ [] → candidates has ps ≡ path ∷ [])
          → (if c then p ∷ candidates has ps else candidates has ps) ≡ path ∷ []
      by_has true h a e go = ap (λ q. head_or p q ∷ candidates has ps) e ∙ ap (λ q. path ∷ q) (none_named ps (ap rest_of e))
      by_has false h true e go = absurd (let x = sym h ∙ ap (λ q. has (head_or p q)) e ∙ there in grind arith)
      by_has false h false e go = go e

  met_named : (path : AbsolutePath) → has path ≡ true → met also has path ≡ true
  met_named path there = ap (λ c. c || also path) there

  -- the path that a used name denotes is the only one that the spelled name may denote
  pub use_alone : (shorten : Bool) (name : Name) (scope path : AbsolutePath) → denoted has name scope ≡ Some path → candidates has (search_path (use_of (met also has) shorten name path scope) scope) ≡ path ∷ []
  use_alone shorten name scope path e =
      let there = denoted_known has name scope path e in
      met_alone path (search_path (use_of (met also has) shorten name path scope) scope) there (use_leads (met also has) shorten name path scope (met_named path there))

  -- the spelled name denotes the same
  pub use_denotes : (shorten : Bool) (name : Name) (scope : AbsolutePath) → denoted has (spelled_use also has shorten name scope) scope ≡ denoted has name scope
  use_denotes shorten name scope = by_denoted (denoted has name scope) refl
    where
      by_denoted : (o : Option AbsolutePath) → denoted has name scope ≡ o → denoted has (choose o name (λ path. use_of (met also has) shorten name path scope)) scope ≡ o
      by_denoted None e = e
      by_denoted (Some path) e = ap first_of (use_alone shorten name scope path e)
