-- Tables by the number of a path, and what a write to one changes.
use Rattle.std.proofs.Common.{◌≡◌, ℕ, ◌<◌, ◌≤◌, Bool, true, false, List, [], length, get_or, set, Option, Some, None, refl, sym, ap, ◌∙◌, arith}
use Rattle.std.specs.Prelude.{nat_eq, nat_lt, if◌then◌else◌, replicate}
use Rattle.std.proofs.lemmas.Bool.{eqb-true}
use Rattle.std.proofs.lemmas.Bool.Decides.{nat_tests}
use Rattle.std.proofs.lemmas.List.{get_or_past, get_or-set_same, get_or-set_other, get_or-replicate, length-replicate}
use Rattle.acpi_values.specs.Paths.{AbsolutePath, is_same_path}
use Rattle.acpi_state.proofs.Lookups.{is_same_path-true}
use Rattle.acpi_names.specs.Paths.{number_in, AreDistinct}
use Rattle.acpi_names.specs.Tables.{entry_at}
use Rattle.acpi_names.proofs.Numbers.{same_path_refl, same_places, number_at}
use Rattle.acpi_names.proofs.Closed.{own_number, number_within}

-- one entry is written
pub entry_set : {A : Type 0} (paths : List AbsolutePath) (table : List (Option A)) (n : ℕ) (a : A) → AreDistinct paths → n < length paths → length table ≡ length paths → (path : AbsolutePath) → entry_at (set table n (Some a)) (number_in paths path) ≡ (if is_same_path (get_or paths n []) path then Some a else entry_at table (number_in paths path))
entry_set {A} paths table n a distinct lt size path = by_number (number_in paths path) refl
  where
    by_place : (m : ℕ) (c : Bool) → nat_eq n m ≡ c → number_in paths path ≡ Some m → get_or (set table n (Some a)) m None ≡ (if is_same_path (get_or paths n []) path then Some a else get_or table m None)
    by_place m true c h =
        let e : n ≡ m = eqb-true n m c in
        let here : get_or paths n [] ≡ path = ap (λ k. get_or paths k []) e ∙ number_at paths path m h in
        ap (λ k. get_or (set table n (Some a)) k None) (sym e) ∙ get_or-set_same table n (Some a) None (omega (arith, lt, size))
        ∙ sym (ap (λ b. if b then Some a else get_or table m None) (ap (λ p. is_same_path p path) here ∙ same_path_refl path))
    by_place m false c h =
        let other : is_same_path (get_or paths n []) path ≡ false =
        ap (is_same_path (get_or paths n [])) (sym (number_at paths path m h)) ∙ same_places paths n m distinct lt (number_within paths path m h) ∙ c in
        get_or-set_other table n m (Some a) None (grind (arith, nat_tests, c))
        ∙ sym (ap (λ b. if b then Some a else get_or table m None) other)

    none_same : (c : Bool) → is_same_path (get_or paths n []) path ≡ c → number_in paths path ≡ None → None ≡ (if is_same_path (get_or paths n []) path then Some a else None)
    none_same false c h = sym (ap (λ b. if b then Some a else None) c)
    none_same true c h =
        absurd (let x = sym (own_number paths n distinct lt) ∙ ap (number_in paths) (is_same_path-true (get_or paths n []) path c) ∙ h in grind arith)

    by_number : (o : Option ℕ) → number_in paths path ≡ o → entry_at (set table n (Some a)) (number_in paths path) ≡ (if is_same_path (get_or paths n []) path then Some a else entry_at table (number_in paths path))
    by_number None h =
        ap (entry_at (set table n (Some a))) h ∙ none_same (is_same_path (get_or paths n []) path) refl h
        ∙ sym (ap (λ o. if is_same_path (get_or paths n []) path then Some a else entry_at table o) h)
    by_number (Some m) h =
        ap (entry_at (set table n (Some a))) h ∙ by_place m (nat_eq n m) refl h
        ∙ sym (ap (λ o. if is_same_path (get_or paths n []) path then Some a else entry_at table o) h)

-- the entry of a path with a number
pub entry_here : {A : Type 0} (paths : List AbsolutePath) (table : List (Option A)) (n : ℕ) → AreDistinct paths → n < length paths → entry_at table (number_in paths (get_or paths n [])) ≡ get_or table n None
entry_here paths table n distinct lt = ap (entry_at table) (own_number paths n distinct lt)

abbrev pub none_of : (A : Type 0) → Option A
none_of A = None

-- nothing is said yet
pub no_entry : {A : Type 0} (n : ℕ) (o : Option ℕ) → entry_at (replicate n (none_of A)) o ≡ None
no_entry {A} n None = refl
no_entry {A} n (Some m) = by_within (nat_lt m n) refl
  where
    by_within : (c : Bool) → nat_lt m n ≡ c → get_or (replicate n (none_of A)) m None ≡ None
    by_within true c = get_or-replicate n m (none_of A) None (let lt : m < n = grind (arith, nat_tests, c) in lt)
    by_within false c = get_or_past (replicate n (none_of A)) m None (let le : n ≤ m = grind (arith, nat_tests, c) in omega (arith, le, length-replicate n (none_of A)))
