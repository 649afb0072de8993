-- Names as they are spelled.
use Rattle.std.proofs.Common.{◌≡◌, ℕ, zero, Bool, true, false, List, [], ◌∷◌, ◌++◌, Option, Some, None, refl, sym, ap, ◌∙◌, arith}
use Rattle.std.specs.Prelude.{is_some, ◌||◌, if◌then◌else◌}
use Rattle.std.proofs.lemmas.List.{reverse-append}
use Rattle.acpi_values.specs.Paths.{NameSeg, AbsolutePath, is_same_path}
use Rattle.acpi_state.specs.Outcomes.{choose}
use Rattle.asl_tree.specs.declared.path.Path.{Path as Name}
use Rattle.asl_tree.specs.Names.{declared_path, enclosing, candidates, search_path, first_of, denoted, single_segment, absolute, spelled_element}
use Rattle.asl_tree.specs.Tree.{Trees}
use Rattle.acpi_names.specs.Parts.{name_at}
use mathlib.Core.Path.{fun_ext}
use Rattle.acpi_names.specs.Shortest.{is_only, leads_to, short_element, use_of, met, spelled_use, spelled_item}
use Rattle.acpi_names.specs.Spelled.{inner_scope}
use Rattle.name_spelling.specs.Spelling.{opened_at}
use Rattle.name_spelling.specs.Forms.{around, leads_alone}
use Rattle.acpi_names.proofs.Flags.{denoted_same}
use Rattle.acpi_names.proofs.Numbers.{same_path_refl}

abbrev pub with_segs : Name → List NameSeg → Name
with_segs path segs = record { root = path.root; up = path.up; segs = segs }

abbrev pub tail_of : AbsolutePath → AbsolutePath
tail_of [] = []
tail_of (seg ∷ path) = path

abbrev some_path : Option AbsolutePath → AbsolutePath
some_path None = []
some_path (Some path) = path

-- behind the nearest candidate come those around its scope
pub nearest_first : (has : AbsolutePath → Bool) (seg : NameSeg) (scope path : AbsolutePath) → first_of (candidates has (enclosing seg scope)) ≡ Some path → candidates has (enclosing seg scope) ≡ path ∷ candidates has (around seg (tail_of path))
nearest_first has seg [] path e = by_here (has (seg ∷ [])) e
  where
    by_here : (c : Bool) → first_of (if c then (seg ∷ []) ∷ [] else []) ≡ Some path → (if c then (seg ∷ []) ∷ [] else []) ≡ path ∷ candidates has (around seg (tail_of path))
    by_here true h = ap (λ o. some_path o ∷ candidates has (around seg (tail_of (some_path o)))) h
    by_here false h = absurd (grind arith)
nearest_first has seg (outer ∷ scope) path e = by_here (has (seg ∷ outer ∷ scope)) e (nearest_first has seg scope path)
  where
    by_here : (c : Bool) → first_of (if c then (seg ∷ outer ∷ scope) ∷ candidates has (enclosing seg scope) else candidates has (enclosing seg scope)) ≡ Some path → (first_of (candidates has (enclosing seg scope)) ≡ Some path → candidates has (enclosing seg scope) ≡ path ∷ candidates has (around seg (tail_of path)))
        → (if c then (seg ∷ outer ∷ scope) ∷ candidates has (enclosing seg scope) else candidates has (enclosing seg scope)) ≡ path ∷ candidates has (around seg (tail_of path))
    by_here true h go = ap (λ o. some_path o ∷ candidates has (around seg (tail_of (some_path o)))) h
    by_here false h go = go h

-- a name that denotes nothing
pub use_unknown : (also has : AbsolutePath → Bool) (name : Name) (scope : AbsolutePath) → denoted has name scope ≡ None → spelled_use also has false name scope ≡ name
use_unknown also has name scope e = ap (λ o. choose o name (λ path. use_of (met also has) false name path scope)) e

-- a name that is not searched
pub use_placed : (also has : AbsolutePath → Bool) (name : Name) (scope : AbsolutePath) → single_segment name ≡ None → spelled_use also has false name scope ≡ name
use_placed also has name scope e = by_denoted (denoted has name scope) refl
  where
    place : AbsolutePath
    place = declared_path name scope

    one : (found : AbsolutePath → Bool) → candidates found (search_path name scope) ≡ (if found place then place ∷ [] else [])
    one found = ap (λ o. candidates found (choose o (place ∷ []) (λ seg. enclosing seg scope))) e

    alone : (path : AbsolutePath) (c : Bool) → first_of (if c then place ∷ [] else []) ≡ Some path → is_only path (if c || also place then place ∷ [] else []) ≡ true
    alone path true h = ap (λ q. is_same_path q path) (ap (λ o. choose o place (λ q. q)) h) ∙ same_path_refl path
    alone path false h = absurd (grind arith)

    by_denoted : (o : Option AbsolutePath) → denoted has name scope ≡ o → choose o name (λ path. use_of (met also has) false name path scope) ≡ name
    by_denoted None h = refl
    by_denoted (Some path) h =
        ap (λ c. if c then name else absolute path) (ap (is_only path) (one (met also has)) ∙ alone path (has place) (sym (ap first_of (one has)) ∙ h))

-- what is found of a segment ends with it
pub found_segment : (has : AbsolutePath → Bool) (seg : NameSeg) (scope path : AbsolutePath) → first_of (candidates has (enclosing seg scope)) ≡ Some path → path ≡ seg ∷ tail_of path
found_segment has seg [] path e = by_here (has (seg ∷ [])) e
  where
    by_here : (c : Bool) → first_of (if c then (seg ∷ []) ∷ [] else []) ≡ Some path → path ≡ seg ∷ tail_of path
    by_here true h = sym (ap some_path h) ∙ ap (λ o. seg ∷ tail_of (some_path o)) h
    by_here false h = absurd (grind arith)
found_segment has seg (outer ∷ scope) path e = by_here (has (seg ∷ outer ∷ scope)) e (found_segment has seg scope path)
  where
    by_here : (c : Bool) → first_of (if c then (seg ∷ outer ∷ scope) ∷ candidates has (enclosing seg scope) else candidates has (enclosing seg scope)) ≡ Some path → (first_of (candidates has (enclosing seg scope)) ≡ Some path → path ≡ seg ∷ tail_of path) → path ≡ seg ∷ tail_of path
    by_here true h go = sym (ap some_path h) ∙ ap (λ o. seg ∷ tail_of (some_path o)) h
    by_here false h go = go h

-- a searched name, by whether its path is met alone
pub use_searched : (also has : AbsolutePath → Bool) (name : Name) (seg : NameSeg) (scope path : AbsolutePath) (alone : Bool) → single_segment name ≡ Some seg → first_of (candidates has (enclosing seg scope)) ≡ Some path → leads_alone (met also has) path scope ≡ alone → spelled_use also has false name scope ≡ (if alone then name else absolute path)
use_searched also has name seg scope path alone e first told =
    ap (λ o. choose o name (λ path. use_of (met also has) false name path scope)) denotes ∙ ap (λ c. if c then name else absolute path) (leads ∙ told)
  where
    searched : (found : AbsolutePath → Bool) → candidates found (search_path name scope) ≡ candidates found (enclosing seg scope)
    searched found = ap (λ o. candidates found (choose o (declared_path name scope ∷ []) (λ seg. enclosing seg scope))) e

    denotes : denoted has name scope ≡ Some path
    denotes = ap first_of (searched has) ∙ first

    is : path ≡ seg ∷ tail_of path
    is = found_segment has seg scope path first

    leads : leads_to (met also has) path scope name ≡ leads_alone (met also has) path scope
    leads =
        ap (is_only path) (searched (met also has)) ∙ ap (λ p. is_only p (candidates (met also has) (enclosing seg scope))) is
        ∙ sym (ap (λ p. leads_alone (met also has) p scope) is)

searched_element : (has : AbsolutePath → Bool) (name : Name) (seg : NameSeg) (scope : AbsolutePath) → single_segment name ≡ Some seg → spelled_element has name scope ≡ absolute (choose (first_of (candidates has (enclosing seg scope))) (declared_path name scope) (λ path. path))
searched_element has name seg scope e =
    ap (λ o. if is_some o then absolute (if is_some o then choose (first_of (candidates has (choose o (declared_path name scope ∷ []) (λ seg. enclosing seg scope)))) (declared_path name scope) (λ path. path) else declared_path name scope) else name) e

single_place : (root : Bool) (up : ℕ) (segs : List NameSeg) (seg : NameSeg) (scope : AbsolutePath) → single_segment (record { root = root; up = up; segs = segs }) ≡ Some seg → declared_path (record { root = root; up = up; segs = segs }) scope ≡ seg ∷ scope
single_place false zero (s ∷ []) seg scope e = ap (λ o. choose o (s ∷ scope) (λ s. s ∷ scope)) e
single_place root up segs seg scope e = absurd (grind arith)

-- an element that is not there yet
pub element_new : (has : AbsolutePath → Bool) (name : Name) (seg : NameSeg) (scope : AbsolutePath) → single_segment name ≡ Some seg → first_of (candidates has (enclosing seg scope)) ≡ None → spelled_element has name scope ≡ absolute (seg ∷ scope)
element_new has name seg scope e none =
    searched_element has name seg scope e ∙ ap (λ o. absolute (choose o (declared_path name scope) (λ path. path))) none
    ∙ ap absolute (single_place name.root name.up name.segs seg scope e)

-- one segment further
pub pushed_path : (path : Name) (more : List NameSeg) (seg : NameSeg) (scope : AbsolutePath) → path ≡ absolute scope → more ≡ path.segs ++ seg ∷ [] → with_segs path more ≡ absolute (seg ∷ scope)
pushed_path path more seg scope e pushed =
    ap (λ p. with_segs p more) e
    ∙ ap (with_segs (absolute scope)) (pushed ∙ ap (λ (p : Name). p.segs ++ seg ∷ []) e ∙ sym (reverse-append (seg ∷ []) scope))

-- where the same is named, and the same stands in the way, the same is written
pub spelled_use_same : (beside also has other : AbsolutePath → Bool) → ((path : AbsolutePath) → beside path ≡ also path) → ((path : AbsolutePath) → has path ≡ other path) → (shorten : Bool) (name : Name) (scope : AbsolutePath) → spelled_use beside has shorten name scope ≡ spelled_use also other shorten name scope
spelled_use_same beside also has other m h shorten name scope =
    ap (λ others. spelled_use others has shorten name scope) (fun_ext m) ∙ ap (λ names. spelled_use also names shorten name scope) (fun_ext h)

pub spelled_item_same : (has other : AbsolutePath → Bool) → ((path : AbsolutePath) → has path ≡ other path) → (shorten : Bool) (name : Name) (scope : AbsolutePath) → spelled_item has shorten name scope ≡ spelled_item other shorten name scope
spelled_item_same has other h shorten name scope = ap (λ names. spelled_item names shorten name scope) (fun_ext h)

chosen_same : {A B : Type 0} (o : Option A) (b : B) (f g : A → B) → ((a : A) → f a ≡ g a) → choose o b f ≡ choose o b g
chosen_same None b f g h = refl
chosen_same (Some a) b f g h = h a

-- so is the scope of a Scope's terms the same
pub opened_same : (has other : AbsolutePath → Bool) → ((path : AbsolutePath) → has path ≡ other path) → (args : Trees) (scope : AbsolutePath) → opened_at has args scope ≡ opened_at other args scope
opened_same has other h args scope = chosen_same (name_at 0 args) scope (λ name. inner_scope has name scope) (λ name. inner_scope other name scope) (λ name. ap (λ o. choose o [] (λ path. path)) (denoted_same has other h name scope))

-- a name of one segment in a Package is not shortened
pub item_searched : (has : AbsolutePath → Bool) (shorten : Bool) (name : Name) (seg : NameSeg) (scope : AbsolutePath) → single_segment name ≡ Some seg → spelled_item has shorten name scope ≡ spelled_element has name scope
item_searched has shorten name seg scope e =
    ap (λ o. if is_some o then spelled_element has name scope else if shorten then choose (denoted has name scope) name (λ path. short_element has path scope) else name) e
