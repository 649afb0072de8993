-- What is said so far, by flags and a table by the numbers of paths.
use Rattle.std.proofs.Common.{◌≡◌, ℕ, ◌<◌, ◌≤◌, Bool, true, false, List, [], ◌∷◌, length, get_or, set, Option, Some, None, refl, sym, ap, ◌∙◌, subst, arith}
use Rattle.std.specs.Prelude.{◌||◌, is_some, nat_lt, if◌then◌else◌, replicate}
use Rattle.std.proofs.lemmas.Bool.Decides.{nat_tests}
use Rattle.std.proofs.lemmas.List.{get_or_past, get_or-replicate, length-replicate}
use Rattle.acpi_values.specs.Paths.{AbsolutePath, is_same_path}
use Rattle.acpi_state.specs.Objects.{lookup}
use Rattle.acpi_state.specs.Outcomes.{choose}
use Rattle.asl_meaning.specs.Declarations.{Declared, Declarations, ExternalType, with_first, with_external}
use Rattle.acpi_names.specs.Paths.{is_flagged, is_named_in, AreDistinct}
use Rattle.acpi_names.proofs.Closed.{own_number}
use Rattle.acpi_names.proofs.Flags.{marked}
use Rattle.acpi_names.proofs.Folds.{turned}
use Rattle.name_kinds.proofs.Noting.{read_at}
use Rattle.name_checks.specs.Before.{Before}
use Rattle.name_checks.specs.declared.so_far.SoFar.{SoFar}

-- no flag is set
pub no_flag : (n : ℕ) (o : Option ℕ) → is_flagged (replicate n false) o ≡ false
no_flag n None = refl
no_flag n (Some m) = by_within (nat_lt m n) refl
  where
    by_within : (c : Bool) → nat_lt m n ≡ c → get_or (replicate n false) m false ≡ false
    by_within true c = get_or-replicate n m false false (let lt : m < n = grind (arith, nat_tests, c) in lt)
    by_within false c = get_or_past (replicate n false) m false (let le : n ≤ m = grind (arith, nat_tests, c) in omega (arith, le, length-replicate n false))

-- the flag that is read is the path's
pub flag_here : (paths : List AbsolutePath) (flags : List Bool) (n : ℕ) (x : Bool) → AreDistinct paths → n < length paths → length flags ≡ length paths → x ≡ get_or flags n x → x ≡ is_named_in paths flags (get_or paths n [])
flag_here paths flags n x distinct lt size e =
    sym (read_at flags n x false (omega (arith, lt, size)) e) ∙ sym (ap (is_flagged flags) (own_number paths n distinct lt))

some_first : {A : Type 0} (c : Bool) (a : A) (o : Option A) → (c || is_some o) ≡ is_some (if c then Some a else o)
some_first true a o = refl
some_first false a o = refl

-- one path more is declared
pub declared_more : (paths : List AbsolutePath) (flags : List Bool) (n : ℕ) (as' : Declared) (d : Declarations) → AreDistinct paths → n < length paths → length flags ≡ length paths → ((path : AbsolutePath) → is_named_in paths flags path ≡ is_some (lookup d.declared path))
    → (path : AbsolutePath) → is_named_in paths (set flags n true) path ≡ is_some (lookup ((get_or paths n [], as') ∷ d.declared) path)
declared_more paths flags n as' d distinct lt size before path =
    marked paths flags n distinct lt size path
    ∙ ap (λ b. is_same_path path (get_or paths n []) || b) (before path)
    ∙ ap (λ b. b || is_some (lookup d.declared path)) (turned path (get_or paths n []))
    ∙ some_first (is_same_path (get_or paths n []) path) as' (lookup d.declared path)

-- the first External of a path, and a later one
pub first_before : (paths : List AbsolutePath) (so_far : SoFar) (d : Declarations) (p : AbsolutePath) (t : ExternalType) → lookup d.external p ≡ None
    → Before paths so_far (record d { external = (p, t) ∷ d.external }) → Before paths so_far (record d { external = with_first p t d.external })
first_before paths so_far d p t none before =
    subst (λ (o : Option ExternalType). Before paths so_far (record d { external = choose o ((p, t) ∷ d.external) (λ first. d.external) })) (sym none) before

pub later_before : (paths : List AbsolutePath) (so_far : SoFar) (d : Declarations) (p : AbsolutePath) (t first : ExternalType) → lookup d.external p ≡ Some first
    → Before paths so_far d → Before paths so_far (record d { external = with_first p t d.external })
later_before paths so_far d p t first there before =
    subst (λ (o : Option ExternalType). Before paths so_far (record d { external = choose o ((p, t) ∷ d.external) (λ first. d.external) })) (sym there) before

-- an External of a path that is of the root, or not
pub outside_before : (paths : List AbsolutePath) (so_far : SoFar) (d : Declarations) (p : AbsolutePath) (t : ExternalType) (b c : Bool) → b ≡ c → Before paths so_far (with_external b p t d) → Before paths so_far (with_external c p t d)
outside_before paths so_far d p t b c e before = subst (λ c. Before paths so_far (with_external c p t d)) e before
