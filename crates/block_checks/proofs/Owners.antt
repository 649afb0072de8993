-- The notes on the names of a block ask for no path but those of its index.
use Rattle.std.proofs.Common.{◌≡◌, ℕ, Bool, true, false, List, [], ◌∷◌, ◌++◌, Option, Some, None, refl, sym, ap, ◌∙◌, subst}
use Rattle.std.specs.Prelude.{not, ◌&&◌, ◌||◌, is_some, if◌then◌else◌}
use Rattle.std.specs.List.{list_any}
use Rattle.acpi_values.specs.Paths.{AbsolutePath, is_same_path}
use Rattle.acpi_state.specs.Objects.{lookup}
use Rattle.acpi_state.specs.Outcomes.{choose}
use Rattle.acpi_state.proofs.Lookups.{is_same_path-true}
use Rattle.asl_tree.specs.Names.{declared_path}
use Rattle.asl_meaning.specs.Declarations.{Declarations, in_root, is_named}
use Rattle.acpi_names.specs.Mentions.{Mention, Used', Sought, Called, Declares, Outside, Opens, after, after_all}
use Rattle.acpi_names.specs.Parts.{Agrees}
use Rattle.acpi_names.specs.Paths.{number_in, is_flagged}
use Rattle.acpi_names.proofs.Numbers.{number_at, same_path_refl}
use Rattle.name_kinds.proofs.Places.{still_named}
use Rattle.name_notes.specs.Notes.{told_if, reserved_arguments, method_arguments, is_other, method_of, used_by, is_among, is_used_in, mention_notes, all_notes, mentioned_notes}
use Rattle.descriptor_checks.specs.Fields.{paths_at, numbers_in}

module _ (paths : List AbsolutePath) where
  -- a path of the index is among some paths where it is among those of them that have numbers
  kept_among : (path : AbsolutePath) (n : ℕ) (others : List AbsolutePath) → number_in paths path ≡ Some n → list_any (is_same_path path) (paths_at paths (numbers_in paths others)) ≡ list_any (is_same_path path) others
  kept_among path n [] e = refl
  kept_among path n (o ∷ os) e = by_number (number_in paths o) refl (kept_among path n os e)
    where
      by_same : (b : Bool) → is_same_path path o ≡ b → number_in paths o ≡ None → list_any (is_same_path path) (paths_at paths (numbers_in paths os)) ≡ list_any (is_same_path path) os
          → list_any (is_same_path path) (paths_at paths (numbers_in paths os)) ≡ (b || list_any (is_same_path path) os)
      by_same true s h rest = let never : Some n ≡ None = sym e ∙ ap (number_in paths) (is_same_path-true path o s) ∙ h in absurd cc
      by_same false s h rest = rest

      by_number : (c : Option ℕ) → number_in paths o ≡ c → list_any (is_same_path path) (paths_at paths (numbers_in paths os)) ≡ list_any (is_same_path path) os
          → list_any (is_same_path path) (paths_at paths (choose c [] (λ m. m ∷ []) ++ numbers_in paths os)) ≡ (is_same_path path o || list_any (is_same_path path) os)
      by_number None h rest = by_same (is_same_path path o) refl h rest
      by_number (Some m) h rest =
          ap (λ p. is_same_path path p || list_any (is_same_path path) (paths_at paths (numbers_in paths os))) (number_at paths o m h) ∙ ap (λ b. is_same_path path o || b) rest

  -- what a mention declares is in the index
  abbrev IsNumbered : Mention → Type 0
  IsNumbered (Declares at name as' scope) = (n : ℕ) × (number_in paths (declared_path name scope) ≡ Some n)
  IsNumbered m = Unit {0}

  abbrev pub AreNumbered : List Mention → Type 0
  AreNumbered [] = Unit {0}
  AreNumbered (m ∷ ms) = IsNumbered m × AreNumbered ms

  module _ (is_method kept used : AbsolutePath → Bool) (same : (path : AbsolutePath) (n : ℕ) → number_in paths path ≡ Some n → kept path ≡ used path) where
    note_kept : (m : Mention) → IsNumbered m → mention_notes is_method kept m ≡ mention_notes is_method used m
    note_kept (Declares at name as' scope) h =
        let path = declared_path name scope in
        ap (λ b. told_if (is_other (reserved_arguments path) (method_arguments as')) 3001 at.place path ++ told_if (is_method scope && not b) 3003 at.place path) (same path h.0 h.1)
    note_kept (Used' asked at name scope) h = refl
    note_kept (Sought at name scope) h = refl
    note_kept (Called asked at name args scope) h = refl
    note_kept (Outside here at name type scope) h = refl
    note_kept (Opens here at name scope inner) h = refl

    notes_kept : (ms : List Mention) → AreNumbered ms → all_notes is_method kept ms ≡ all_notes is_method used ms
    notes_kept [] h = refl
    notes_kept (m ∷ ms) h = ap (λ ns. ns ++ all_notes is_method kept ms) (note_kept m h.0) ∙ ap (λ ns. mention_notes is_method used m ++ ns) (notes_kept ms h.1)

  -- paths without a number in the index count for no note
  pub notes_numbered : (has : AbsolutePath → Bool) (owners : List AbsolutePath) (ms : List Mention) → AreNumbered ms → mentioned_notes has (paths_at paths (numbers_in paths owners)) ms ≡ mentioned_notes has owners ms
  notes_numbered has owners ms h =
      notes_kept (is_among method_of ms) (is_used_in has (paths_at paths (numbers_in paths owners)) ms) (is_used_in has owners ms)
      (λ path n e. ap (λ b. b || is_among (used_by has) ms path) (kept_among path n owners e)) ms h

  module _ (flags : List Bool) (all : Declarations) (agrees : Agrees paths flags all) where
    has_number : (path : AbsolutePath) → is_named all path ≡ true → (n : ℕ) × (number_in paths path ≡ Some n)
    has_number path e = by_number (number_in paths path) refl (agrees path ∙ e)
      where
        by_number : (o : Option ℕ) → number_in paths path ≡ o → is_flagged flags o ≡ true → (n : ℕ) × (number_in paths path ≡ Some n)
        by_number None h k = absurd cc
        by_number (Some n) h k = (n, h)

    still_all : (ms : List Mention) (d : Declarations) (path : AbsolutePath) → is_named d path ≡ true → is_named (after_all ms d) path ≡ true
    still_all [] d path e = e
    still_all (m ∷ ms) d path e = still_all ms (after m d) path (still_named m d path e)

    is_numbered : (m : Mention) (ms : List Mention) (d : Declarations) → after_all ms (after m d) ≡ all → IsNumbered m
    is_numbered (Declares at name as' scope) ms d e =
        let path = declared_path name scope in
        let here = ap (λ b. is_some (if b then Some as' else lookup d.declared path) || (is_some (lookup d.external path) || in_root path)) (same_path_refl path) in
        has_number path (subst (λ a. is_named a path ≡ true) e (still_all ms (after (Declares at name as' scope) d) path here))
    is_numbered (Used' asked at name scope) ms d e = tt
    is_numbered (Sought at name scope) ms d e = tt
    is_numbered (Called asked at name args scope) ms d e = tt
    is_numbered (Outside here at name type scope) ms d e = tt
    is_numbered (Opens here at name scope inner) ms d e = tt

    -- all that a block declares is in its index
    pub are_numbered : (ms : List Mention) (d : Declarations) → after_all ms d ≡ all → AreNumbered ms
    are_numbered [] d e = tt
    are_numbered (m ∷ ms) d e = (is_numbered m ms d e, are_numbered ms (after m d) e)
