-- What a write to a table says.
use Rattle.std.proofs.Common.{◌≡◌, ℕ, zero, suc, ◌<◌, Bool, true, false, List, [], ◌∷◌, ◌++◌, length, get_or, set, Option, Some, None, refl, sym, ap, ◌∙◌, subst, arith}
use Rattle.std.specs.Prelude.{if◌then◌else◌}
use Rattle.std.specs.Option.{option_map}
use Rattle.acpi_values.specs.Paths.{AbsolutePath, is_same_path}
use Rattle.acpi_state.specs.Objects.{lookup}
use Rattle.acpi_state.specs.Outcomes.{choose}
use Rattle.acpi_state.proofs.Lookups.{is_same_path-true}
use Rattle.acpi_names.specs.Parts.{Agrees}
use Rattle.acpi_names.specs.Paths.{number_in, is_flagged, AreDistinct}
use Rattle.acpi_names.specs.Tables.{entry_at, Tabled}
use Rattle.name_kinds.specs.Tables.{TabledBy, TablesSay}
use Rattle.name_kinds.specs.declared.tables.Tables.{Tables}
use Rattle.asl_meaning.specs.Declarations.{ExternalType, Declarations, is_named, with_first, with_external}
use Rattle.acpi_names.proofs.Mentions.{right_nil}
use Rattle.acpi_names.proofs.Closed.{own_number}
use Rattle.name_kinds.proofs.Entries.{entry_set, entry_here}
use Rattle.name_kinds.proofs.Lookups.{lookup_append}

-- a path is said to be something else from now on
pub look_set : {A B : Type 0} (view : A → B) (paths : List AbsolutePath) (table : List (Option A)) (n : ℕ) (a : A) (b : B) (look : AbsolutePath → Option B) → AreDistinct paths → n < length paths → length table ≡ length paths → view a ≡ b → TabledBy view paths table look → (path : AbsolutePath)
    → option_map view (entry_at (set table n (Some a)) (number_in paths path)) ≡ (if is_same_path (get_or paths n []) path then Some b else look path)
look_set view paths table n a b look distinct lt size e tabled path =
    ap (option_map view) (entry_set paths table n a distinct lt size path) ∙ by_same (is_same_path (get_or paths n []) path)
  where
    by_same : (c : Bool) → option_map view (if c then Some a else entry_at table (number_in paths path)) ≡ (if c then Some b else look path)
    by_same true = ap Some e
    by_same false = tabled path

or_none : {A : Type 0} (o : Option A) → o ≡ choose o None Some
or_none None = refl
or_none (Some x) = refl

-- the first call of a path
pub first_set : (paths : List AbsolutePath) (table : List (Option ℕ)) (n args : ℕ) (calls : List (AbsolutePath × ℕ)) → AreDistinct paths → n < length paths → length table ≡ length paths → get_or table n None ≡ None → Tabled paths table (lookup calls) → Tabled paths (set table n (Some args)) (lookup (calls ++ (get_or paths n [], args) ∷ []))
first_set paths table n args calls distinct lt size none tabled path =
    entry_set paths table n args distinct lt size path ∙ by_same (is_same_path (get_or paths n []) path) refl ∙ sym (lookup_append calls ((get_or paths n [], args) ∷ []) path)
  where
    by_same : (c : Bool) → is_same_path (get_or paths n []) path ≡ c → (if c then Some args else entry_at table (number_in paths path)) ≡ choose (lookup calls path) (if c then Some args else None) Some
    by_same true e =
        let here : lookup calls path ≡ None = ap (lookup calls) (sym (is_same_path-true (get_or paths n []) path e)) ∙ sym (tabled (get_or paths n [])) ∙ entry_here paths table n distinct lt ∙ none in
        sym (ap (λ o. choose o (Some args) Some) here)
    by_same false e = tabled path ∙ or_none (lookup calls path)

-- a later call of a path
pub later_kept : (paths : List AbsolutePath) (table : List (Option ℕ)) (n args first : ℕ) (calls : List (AbsolutePath × ℕ)) → AreDistinct paths → n < length paths → get_or table n None ≡ Some first → Tabled paths table (lookup calls) → Tabled paths table (lookup (calls ++ (get_or paths n [], args) ∷ []))
later_kept paths table n args first calls distinct lt some tabled path = by_same (is_same_path (get_or paths n []) path) refl ∙ sym (lookup_append calls ((get_or paths n [], args) ∷ []) path)
  where
    by_same : (c : Bool) → is_same_path (get_or paths n []) path ≡ c → entry_at table (number_in paths path) ≡ choose (lookup calls path) (if c then Some args else None) Some
    by_same true e =
        let same = is_same_path-true (get_or paths n []) path e in
        let there : entry_at table (number_in paths path) ≡ Some first = ap (λ p. entry_at table (number_in paths p)) (sym same) ∙ entry_here paths table n distinct lt ∙ some in
        let here : lookup calls path ≡ Some first = sym (tabled path) ∙ there in
        there ∙ sym (ap (λ o. choose o (Some args) Some) here)
    by_same false e = tabled path ∙ or_none (lookup calls path)

-- an element is read with any default
pub read_at : {A : Type 0} (xs : List A) (n : ℕ) (x d : A) → n < length xs → x ≡ get_or xs n x → get_or xs n d ≡ x
read_at {A} [] n x d lt e = absurd (omega (arith, lt))
read_at {A} (y ∷ xs) zero x d lt e = sym e
read_at {A} (y ∷ xs) (suc n) x d lt e = read_at xs n x d (omega (arith, lt)) e

-- the first External of a path, and a later one
pub first_noted : (paths : List AbsolutePath) (has : AbsolutePath → Bool) (new : Tables) (calls : List (AbsolutePath × ℕ)) (d : Declarations) (p : AbsolutePath) (t : ExternalType) → lookup d.external p ≡ None
    → TablesSay paths has new calls (record d { external = (p, t) ∷ d.external }) → TablesSay paths has new calls (record d { external = with_first p t d.external })
first_noted paths has new calls d p t none notes =
    subst (λ (o : Option ExternalType). TablesSay paths has new calls (record d { external = choose o ((p, t) ∷ d.external) (λ first. d.external) })) (sym none) notes

pub later_noted : (paths : List AbsolutePath) (has : AbsolutePath → Bool) (new : Tables) (calls : List (AbsolutePath × ℕ)) (d : Declarations) (p : AbsolutePath) (t first : ExternalType) → lookup d.external p ≡ Some first
    → TablesSay paths has new calls d → TablesSay paths has new calls (record d { external = with_first p t d.external })
later_noted paths has new calls d p t first there notes =
    subst (λ (o : Option ExternalType). TablesSay paths has new calls (record d { external = choose o ((p, t) ∷ d.external) (λ first. d.external) })) (sym there) notes

pub outside_noted : (paths : List AbsolutePath) (has : AbsolutePath → Bool) (new : Tables) (calls : List (AbsolutePath × ℕ)) (d : Declarations) (p : AbsolutePath) (t : ExternalType) (b : Bool) → b ≡ false
    → TablesSay paths has new calls (record d { external = with_first p t d.external }) → TablesSay paths has new calls (with_external b p t d)
outside_noted paths has new calls d p t b e notes = subst (λ c. TablesSay paths has new calls (with_external c p t d)) (sym e) notes

-- a mention that is no call
pub noted_plain : (paths : List AbsolutePath) (has : AbsolutePath → Bool) (tables : Tables) (calls : List (AbsolutePath × ℕ)) (d : Declarations) → TablesSay paths has tables calls d → TablesSay paths has tables (calls ++ []) d
noted_plain paths has tables calls d notes = subst (λ cs. TablesSay paths has tables cs d) (sym (right_nil calls)) notes

-- the entry that is read is what is said of the path
pub look_here : {A B : Type 0} (view : A → B) (paths : List AbsolutePath) (table : List (Option A)) (n : ℕ) (x : Option A) (look : AbsolutePath → Option B) → AreDistinct paths → n < length paths → length table ≡ length paths → x ≡ get_or table n x → TabledBy view paths table look → option_map view x ≡ look (get_or paths n [])
look_here view paths table n x look distinct lt size e tabled =
    ap (option_map view) (sym (entry_here paths table n distinct lt ∙ read_at table n x None (omega (arith, lt, size)) e)) ∙ tabled (get_or paths n [])

pub first_here : {A : Type 0} (paths : List AbsolutePath) (table : List (Option A)) (n : ℕ) (x : Option A) (look : AbsolutePath → Option A) → AreDistinct paths → n < length paths → length table ≡ length paths → x ≡ get_or table n x → Tabled paths table look → x ≡ look (get_or paths n [])
first_here paths table n x look distinct lt size e tabled =
    sym (entry_here paths table n distinct lt ∙ read_at table n x None (omega (arith, lt, size)) e) ∙ tabled (get_or paths n [])

-- the flag that is read says whether the path is named
pub flag_here : (paths : List AbsolutePath) (named : List Bool) (n : ℕ) (x : Bool) (d : Declarations) → AreDistinct paths → n < length paths → length named ≡ length paths → x ≡ get_or named n x → Agrees paths named d → x ≡ is_named d (get_or paths n [])
flag_here paths named n x d distinct lt size e agrees =
    sym (read_at named n x false (omega (arith, lt, size)) e) ∙ sym (ap (is_flagged named) (own_number paths n distinct lt)) ∙ agrees (get_or paths n [])
