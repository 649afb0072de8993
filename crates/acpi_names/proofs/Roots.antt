-- What is named before any term.
use Rattle.std.proofs.Common.{◌≡◌, Bool, true, false, List, [], ◌∷◌, Option, Some, refl, ap, ◌∙◌}
use Rattle.std.specs.Prelude.{◌||◌, is_some, if◌then◌else◌}
use Rattle.acpi_values.specs.Paths.{AbsolutePath, is_same_path}
use Rattle.acpi_state.specs.Objects.{Object, root_objects, lookup}
use Rattle.asl_meaning.specs.Declarations.{in_root}
use Rattle.acpi_names.specs.Paths.{is_named_in}
use Rattle.acpi_names.proofs.Folds.{turned}

step : (o path : AbsolutePath) (x : Object) (rest : Option Object) (others : Bool) → others ≡ is_some rest → (is_same_path path o || others) ≡ is_some (if is_same_path o path then Some x else rest)
step o path x rest others e = ap (λ b. b || others) (turned path o) ∙ by_same (is_same_path o path)
  where
    by_same : (c : Bool) → (c || others) ≡ is_some (if c then Some x else rest)
    by_same true = refl
    by_same false = e

abbrev pub any_of : List (AbsolutePath × Object) → AbsolutePath → Bool
any_of [] path = is_same_path path []
any_of (entry ∷ entries) path = is_same_path path entry.0 || any_of entries path

any_found : (entries : List (AbsolutePath × Object)) (path : AbsolutePath) → is_same_path path [] ≡ false → any_of entries path ≡ is_some (lookup entries path)
any_found [] path e = e
any_found (entry ∷ entries) path e = step entry.0 path entry.1 (lookup entries path) (any_of entries path) (any_found entries path e)

pub roots_are : (path : AbsolutePath) → any_of root_objects path ≡ in_root path
roots_are [] = refl
roots_are (seg ∷ scope) = any_found root_objects (seg ∷ scope) refl

pub all_roots : (f0 f1 f2 f3 f4 f5 f6 f7 f8 f9 : Bool) (path : AbsolutePath) → f0 ≡ is_same_path path [] → f1 ≡ (is_same_path path ((0x5F ∷ 0x52 ∷ 0x45 ∷ 0x56 ∷ []) ∷ []) || f0) → f2 ≡ (is_same_path path ((0x5F ∷ 0x4F ∷ 0x53 ∷ 0x5F ∷ []) ∷ []) || f1) → f3 ≡ (is_same_path path ((0x5F ∷ 0x4F ∷ 0x53 ∷ 0x49 ∷ []) ∷ []) || f2) → f4 ≡ (is_same_path path ((0x5F ∷ 0x47 ∷ 0x4C ∷ 0x5F ∷ []) ∷ []) || f3)
    → f5 ≡ (is_same_path path ((0x5F ∷ 0x54 ∷ 0x5A ∷ 0x5F ∷ []) ∷ []) || f4) → f6 ≡ (is_same_path path ((0x5F ∷ 0x53 ∷ 0x49 ∷ 0x5F ∷ []) ∷ []) || f5) → f7 ≡ (is_same_path path ((0x5F ∷ 0x53 ∷ 0x42 ∷ 0x5F ∷ []) ∷ []) || f6) → f8 ≡ (is_same_path path ((0x5F ∷ 0x50 ∷ 0x52 ∷ 0x5F ∷ []) ∷ []) || f7) → f9 ≡ (is_same_path path ((0x5F ∷ 0x47 ∷ 0x50 ∷ 0x45 ∷ []) ∷ []) || f8) → f9 ≡ in_root path
all_roots f0 f1 f2 f3 f4 f5 f6 f7 f8 f9 path e0 e1 e2 e3 e4 e5 e6 e7 e8 e9 =
    (e9 ∙ ap (λ b. is_same_path path ((0x5F ∷ 0x47 ∷ 0x50 ∷ 0x45 ∷ []) ∷ []) || b) (e8 ∙ ap (λ b. is_same_path path ((0x5F ∷ 0x50 ∷ 0x52 ∷ 0x5F ∷ []) ∷ []) || b) (e7 ∙ ap (λ b. is_same_path path ((0x5F ∷ 0x53 ∷ 0x42 ∷ 0x5F ∷ []) ∷ []) || b) (e6 ∙ ap (λ b. is_same_path path ((0x5F ∷ 0x53 ∷ 0x49 ∷ 0x5F ∷ []) ∷ []) || b) (e5 ∙ ap (λ b. is_same_path path ((0x5F ∷ 0x54 ∷ 0x5A ∷ 0x5F ∷ []) ∷ []) || b)
    (e4 ∙ ap (λ b. is_same_path path ((0x5F ∷ 0x47 ∷ 0x4C ∷ 0x5F ∷ []) ∷ []) || b) (e3 ∙ ap (λ b. is_same_path path ((0x5F ∷ 0x4F ∷ 0x53 ∷ 0x49 ∷ []) ∷ []) || b) (e2 ∙ ap (λ b. is_same_path path ((0x5F ∷ 0x4F ∷ 0x53 ∷ 0x5F ∷ []) ∷ []) || b) (e1 ∙ ap (λ b. is_same_path path ((0x5F ∷ 0x52 ∷ 0x45 ∷ 0x56 ∷ []) ∷ []) || b) e0))))))))) ∙ roots_are path

pub root_alone : (paths : List AbsolutePath) (named : List Bool) (path : AbsolutePath) → paths ≡ [] ∷ [] → named ≡ true ∷ [] → is_named_in paths named path ≡ is_same_path path []
root_alone paths named path e h = ap (λ ps. is_named_in ps named path) e ∙ ap (λ f. is_named_in ([] ∷ []) f path) h ∙ alone path
  where
    alone : (path : AbsolutePath) → is_named_in ([] ∷ []) (true ∷ []) path ≡ is_same_path path []
    alone [] = refl
    alone (seg ∷ scope) = refl
