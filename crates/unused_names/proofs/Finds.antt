-- What names denote among the names that are left.
use Rattle.std.proofs.Common.{◌≡◌, Bool, true, false, List, [], ◌∷◌, Option, Some, None, refl, sym, ap, ◌∙◌, arith}
use Rattle.std.specs.Prelude.{if◌then◌else◌}
use Rattle.acpi_values.specs.Paths.{AbsolutePath}
use Rattle.acpi_state.specs.Outcomes.{choose}
use Rattle.asl_tree.specs.declared.path.Path.{Path}
use Rattle.asl_tree.specs.Names.{search_path, candidates, first_of, denoted}
use Rattle.unused_names.specs.Unused.{is_gone, Spares}

module _ (gone has has' : AbsolutePath → Bool) (left : (p : AbsolutePath) → has' p ≡ (if gone p then false else has p)) where
  not_there : (p : AbsolutePath) (c : Bool) → has p ≡ false → gone p ≡ c → (if c then false else has p) ≡ false
  not_there p true e h = refl
  not_there p false e h = e

  first_kept : (paths : List AbsolutePath) (q : AbsolutePath) → first_of (candidates has paths) ≡ Some q → gone q ≡ false → first_of (candidates has' paths) ≡ Some q
  first_kept [] q e k = absurd (grind arith)
  first_kept (p ∷ ps) q e k = by_there (has p) refl e (λ f. first_kept ps q f k)
    where
      by_there : (c : Bool) → has p ≡ c → first_of (if c then p ∷ candidates has ps else candidates has ps) ≡ Some q → (first_of (candidates has ps) ≡ Some q → first_of (candidates has' ps) ≡ Some q) → first_of (if has' p then p ∷ candidates has' ps else candidates has' ps) ≡ Some q
      by_there true h f go =
          let same : p ≡ q = ap (λ o. choose o p (λ r. r)) f in
          let here : has' p ≡ true = left p ∙ ap (λ b. if b then false else has p) (ap gone same ∙ k) ∙ h in
          ap (λ b. first_of (if b then p ∷ candidates has' ps else candidates has' ps)) here ∙ f
      by_there false h f go =
          let here : has' p ≡ false = left p ∙ not_there p (gone p) h refl in
          ap (λ b. first_of (if b then p ∷ candidates has' ps else candidates has' ps)) here ∙ go f

  first_none : (paths : List AbsolutePath) → first_of (candidates has paths) ≡ None → first_of (candidates has' paths) ≡ None
  first_none [] e = refl
  first_none (p ∷ ps) e = by_there (has p) refl e (first_none ps)
    where
      by_there : (c : Bool) → has p ≡ c → first_of (if c then p ∷ candidates has ps else candidates has ps) ≡ None → (first_of (candidates has ps) ≡ None → first_of (candidates has' ps) ≡ None) → first_of (if has' p then p ∷ candidates has' ps else candidates has' ps) ≡ None
      by_there true h f go = absurd (grind arith)
      by_there false h f go =
          let here : has' p ≡ false = left p ∙ not_there p (gone p) h refl in
          ap (λ b. first_of (if b then p ∷ candidates has' ps else candidates has' ps)) here ∙ go f

  -- a name that denotes none of the others denotes what it did
  pub same_denoted : (name : Path) (scope : AbsolutePath) → Spares gone has name scope → denoted has' name scope ≡ denoted has name scope
  same_denoted name scope spares = by_path (denoted has name scope) refl spares
    where
      by_path : (o : Option AbsolutePath) → denoted has name scope ≡ o → is_gone gone has o ≡ false → denoted has' name scope ≡ denoted has name scope
      by_path None e k = first_none (search_path name scope) e ∙ sym e
      by_path (Some q) e k = first_kept (search_path name scope) q e k ∙ sym e
