-- The descriptors of a block in a table by the numbers of paths.
use Rattle.std.proofs.Common.{◌≡◌, ℕ, ◌<◌, Bool, true, false, List, [], ◌∷◌, ◌++◌, length, get_or, append-nil, Option, Some, None, refl, sym, ap, ◌∙◌, subst, arith}
use Rattle.std.specs.Prelude.{nat_eq, if◌then◌else◌}
use Rattle.std.proofs.lemmas.List.{get_or_past}
use Rattle.acpi_values.specs.Paths.{AbsolutePath, is_same_path}
use Rattle.acpi_state.specs.Objects.{lookup}
use Rattle.acpi_state.specs.Outcomes.{choose}
use Rattle.acpi_state.proofs.Lookups.{is_same_path-true}
use Rattle.acpi_names.specs.Paths.{number_in, AreDistinct}
use Rattle.acpi_names.specs.Tables.{entry_at, Tabled}
use Rattle.acpi_names.proofs.Closed.{own_number, number_within}
use Rattle.acpi_names.proofs.Numbers.{same_places, number_at}
use Rattle.asl_tree.specs.Names.{declared_path}
use Rattle.asl_tree.specs.declared.path.Path.{Path}
use Rattle.asl_tree.specs.declared.term.NamedDescriptor.{NamedDescriptor}
use Rattle.name_kinds.proofs.Lookups.{lookup_append}
use Rattle.descriptor_fields.specs.Nodes.{IsPut}

-- nothing is noted yet
pub none_noted : (paths : List AbsolutePath) (table : List (Option NamedDescriptor)) → table ≡ [] → Tabled paths table (lookup [])
none_noted paths table e path = ap (λ t. entry_at t (number_in paths path)) e ∙ no_entry (number_in paths path)
  where
    no_entry : (o : Option ℕ) → entry_at {A = NamedDescriptor} [] o ≡ None
    no_entry None = refl
    no_entry (Some n) = get_or_past [] n None (omega arith)

abbrev noted_if : NamedDescriptor → Bool → Option NamedDescriptor
noted_if named c = if c then Some named else None

-- a descriptor at its path, of which the first counts
pub more_noted : (paths : List AbsolutePath) (old new : List (Option NamedDescriptor)) (n : ℕ) (named : NamedDescriptor) (before : List (AbsolutePath × NamedDescriptor)) → AreDistinct paths → n < length paths → IsPut old new n named → Tabled paths old (lookup before) → Tabled paths new (lookup (before ++ (get_or paths n [], named) ∷ []))
more_noted paths old new n named before distinct lt is tabled path = by_number (number_in paths path) refl ∙ sym (lookup_append before ((get_or paths n [], named) ∷ []) path)
  where
    other : (c : Bool) → is_same_path (get_or paths n []) path ≡ c → number_in paths path ≡ None → noted_if named (is_same_path (get_or paths n []) path) ≡ None
    other true c h = absurd (let x = sym (own_number paths n distinct lt) ∙ ap (number_in paths) (is_same_path-true (get_or paths n []) path c) ∙ h in grind arith)
    other false c h = ap (noted_if named) c

    by_number : (o : Option ℕ) → number_in paths path ≡ o → entry_at new (number_in paths path) ≡ choose (lookup before path) (noted_if named (is_same_path (get_or paths n []) path)) Some
    by_number None h =
        ap (entry_at new) h
        ∙ sym (ap (λ o. choose o (noted_if named (is_same_path (get_or paths n []) path)) Some) (sym (tabled path) ∙ ap (entry_at old) h) ∙ other (is_same_path (get_or paths n []) path) refl h)
    by_number (Some m) h =
        ap (entry_at new) h ∙ is m ∙ ap (λ o. choose o (noted_if named (nat_eq n m)) Some) (sym (ap (entry_at old) h) ∙ tabled path)
        ∙ ap (λ c. choose (lookup before path) (noted_if named c) Some) (sym (ap (is_same_path (get_or paths n [])) (sym (number_at paths path m h)) ∙ same_places paths n m distinct lt (number_within paths path m h)))

-- ---- the descriptor that a mention declares

abbrev placed : Path → AbsolutePath → Option NamedDescriptor → List (AbsolutePath × NamedDescriptor)
placed name scope o = choose o [] (λ named. (declared_path name scope, named) ∷ [])

pub declares_none : (paths : List AbsolutePath) (table : List (Option NamedDescriptor)) (before : List (AbsolutePath × NamedDescriptor)) (name : Path) (scope : AbsolutePath) (o : Option NamedDescriptor) → None ≡ o → Tabled paths table (lookup before) → Tabled paths table (lookup (before ++ placed name scope o))
declares_none paths table before name scope o e tabled = subst (λ o. Tabled paths table (lookup (before ++ placed name scope o))) e (subst (λ ds. Tabled paths table (lookup ds)) (sym (append-nil before)) tabled)

pub declares_some : (paths : List AbsolutePath) (table : List (Option NamedDescriptor)) (before : List (AbsolutePath × NamedDescriptor)) (name : Path) (scope path : AbsolutePath) (named : NamedDescriptor) (o : Option NamedDescriptor) → Some named ≡ o → path ≡ declared_path name scope
    → Tabled paths table (lookup (before ++ (path, named) ∷ [])) → Tabled paths table (lookup (before ++ placed name scope o))
declares_some paths table before name scope path named o e there tabled =
    subst (λ o. Tabled paths table (lookup (before ++ placed name scope o))) e (subst (λ p. Tabled paths table (lookup (before ++ (p, named) ∷ []))) there tabled)
