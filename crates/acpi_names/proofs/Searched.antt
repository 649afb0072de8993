-- A search at run time for the spelled name, shortened or not, finds what the written name denotes, where that is there.
use Rattle.std.proofs.Common.{◌≡◌, Bool, true, List, [], ◌∷◌, Option, Some, None, refl, sym, ap, ◌∙◌, arith}
use Rattle.std.specs.Prelude.{is_some}
use Rattle.acpi_values.specs.Paths.{AbsolutePath}
use Rattle.acpi_state.specs.Objects.{Object, Names}
use Rattle.acpi_state.specs.Outcomes.{choose}
use Rattle.acpi_state.specs.Finds.{object_at, first_there}
use Rattle.asl_tree.specs.declared.path.Path.{Path}
use Rattle.asl_tree.specs.Names.{search_path, candidates, first_of, denoted}
use Rattle.asl_tree.specs.Tree.{Trees}
use Rattle.asl_meaning.specs.Declarations.{is_named, declarations}
use Rattle.asl_meaning.proofs.Searches.{AreKnown, first_of_none, search_of_one}
use Rattle.acpi_names.specs.Searches.{AreNamesOf}
use Rattle.acpi_names.specs.Shortest.{use_of, met, spelled_use}
use Rattle.acpi_names.proofs.Shortest.{use_alone}

module _ (also has : AbsolutePath → Bool) (names : Names) (all : AreKnown has names) where
  none_there : (paths : List AbsolutePath) → first_of (candidates has paths) ≡ None → first_there names paths ≡ None
  none_there paths e = by_candidates (candidates has paths) refl
    where
      by_candidates : (found : List AbsolutePath) → candidates has paths ≡ found → first_there names paths ≡ None
      by_candidates [] c = first_of_none has names all paths c
      by_candidates (path ∷ others) c = absurd (let x = sym (ap first_of c) ∙ e in grind arith)

  pub use_is_found : (shorten : Bool) (name : Path) (scope : AbsolutePath) → first_there names (search_path (spelled_use also has shorten name scope) scope) ≡ choose (denoted has name scope) None (λ path. first_there names (path ∷ []))
  use_is_found shorten name scope = by_denoted (denoted has name scope) refl
    where
      by_denoted : (o : Option AbsolutePath) → denoted has name scope ≡ o → first_there names (search_path (choose o name (λ path. use_of (met also has) shorten name path scope)) scope) ≡ choose o None (λ path. first_there names (path ∷ []))
      by_denoted None e = none_there (search_path name scope) e
      by_denoted (Some path) e = search_of_one has names all (search_path (use_of (met also has) shorten name path scope) scope) path (use_alone also has shorten name scope path e)

module _ (also : AbsolutePath → Bool) (program : Trees) (names : Names) (all : AreNamesOf program names) where
  known : AreKnown (is_named (declarations program)) names
  known = record { by = λ path object there. all path (ap is_some there) }

  pub denoted_is_found : (shorten : Bool) (name : Path) (scope path : AbsolutePath) → denoted (is_named (declarations program)) name scope ≡ Some path
      → first_there names (search_path (spelled_use also (is_named (declarations program)) shorten name scope) scope) ≡ choose (object_at names path) None (λ object. Some path)
  denoted_is_found shorten name scope path e =
      use_is_found also (is_named (declarations program)) names known shorten name scope ∙ ap (λ o. choose o None (λ path. first_there names (path ∷ []))) e

  by_there : (path : AbsolutePath) (o : Option Object) → is_some o ≡ true → choose o None (λ object. Some path) ≡ Some path
  by_there path None h = absurd (grind arith)
  by_there path (Some object) h = refl

  pub found_there : (shorten : Bool) (name : Path) (scope path : AbsolutePath) → denoted (is_named (declarations program)) name scope ≡ Some path → is_some (object_at names path) ≡ true
      → first_there names (search_path (spelled_use also (is_named (declarations program)) shorten name scope) scope) ≡ Some path
  found_there shorten name scope path e there = denoted_is_found shorten name scope path e ∙ by_there path (object_at names path) there

  pub nothing_there : (shorten : Bool) (name : Path) (scope path : AbsolutePath) → denoted (is_named (declarations program)) name scope ≡ Some path → object_at names path ≡ None
      → first_there names (search_path (spelled_use also (is_named (declarations program)) shorten name scope) scope) ≡ None
  nothing_there shorten name scope path e absent = denoted_is_found shorten name scope path e ∙ ap (λ o. choose o None (λ object. Some path)) absent

  pub nothing_denoted : (shorten : Bool) (name : Path) (scope : AbsolutePath) → denoted (is_named (declarations program)) name scope ≡ None
      → first_there names (search_path (spelled_use also (is_named (declarations program)) shorten name scope) scope) ≡ None
  nothing_denoted shorten name scope e =
      use_is_found also (is_named (declarations program)) names known shorten name scope ∙ ap (λ o. choose o None (λ path. first_there names (path ∷ []))) e
