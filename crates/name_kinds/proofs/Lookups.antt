-- What is looked up in what a block is known to have.
use Rattle.acpi_names.specs.Errors.{Whole}
use Rattle.name_kinds.specs.Tables.{IsKnown}
use Rattle.std.proofs.Common.{◌≡◌, ℕ, Bool, true, false, List, [], ◌∷◌, ◌++◌, Option, Some, None, refl, sym, ap, ◌∙◌, arith}
use Rattle.std.specs.Prelude.{◌&&◌, is_some, if◌then◌else◌}
use Rattle.std.specs.Option.{option_map}
use Rattle.acpi_values.specs.Paths.{NameSeg, AbsolutePath, is_same_path}
use Rattle.acpi_state.specs.Objects.{ExternalObject, Names, lookup, as_declared, root_objects, Object}
use Rattle.acpi_state.specs.Outcomes.{choose}
use Rattle.acpi_state.proofs.Lookups.{is_same_path-true}
use Rattle.asl_tree.specs.Names.{Is, NameKind, Known, kind_at}
use Rattle.asl_meaning.specs.Declarations.{Declared, ExternalType, kind_of, declared_kinds, external_names, external_object, as_known, is_named}
use Rattle.name_kinds.specs.Kinds.{at_root, kind_from}

-- the first list, and then the second
pub lookup_append : {A : Type 0} (xs ys : List (AbsolutePath × A)) (path : AbsolutePath) → lookup (xs ++ ys) path ≡ choose (lookup xs path) (lookup ys path) Some
lookup_append {A} [] ys path = refl
lookup_append {A} (x ∷ xs) ys path = by_same (is_same_path x.0 path) (lookup_append xs ys path)
  where
    by_same : (c : Bool) → lookup (xs ++ ys) path ≡ choose (lookup xs path) (lookup ys path) Some → (if c then Some x.1 else lookup (xs ++ ys) path) ≡ choose (if c then Some x.1 else lookup xs path) (lookup ys path) Some
    by_same true e = refl
    by_same false e = e

pub lookup_kinds : (has : AbsolutePath → Bool) (es : List (AbsolutePath × Declared)) (path : AbsolutePath) → lookup (declared_kinds has es) path ≡ option_map (kind_of has) (lookup es path)
lookup_kinds has [] path = refl
lookup_kinds has (e ∷ es) path = by_same (is_same_path e.0 path) (lookup_kinds has es path)
  where
    by_same : (c : Bool) → lookup (declared_kinds has es) path ≡ option_map (kind_of has) (lookup es path) → (if c then Some (kind_of has e.1) else lookup (declared_kinds has es) path) ≡ option_map (kind_of has) (if c then Some e.1 else lookup es path)
    by_same true h = refl
    by_same false h = h

pub kinds_some : (has : AbsolutePath → Bool) (es : List (AbsolutePath × Declared)) (path : AbsolutePath) → is_some (lookup (declared_kinds has es) path) ≡ is_some (lookup es path)
kinds_some has es path = ap is_some (lookup_kinds has es path) ∙ by_some (lookup es path)
  where
    by_some : (o : Option Declared) → is_some (option_map (kind_of has) o) ≡ is_some o
    by_some None = refl
    by_some (Some x) = refl

pub lookup_known : (ns : Names) (path : AbsolutePath) → lookup (as_known ns) path ≡ option_map (λ o. Is (as_declared o)) (lookup ns path)
lookup_known [] path = refl
lookup_known (e ∷ es) path = by_same (is_same_path e.0 path) (lookup_known es path)
  where
    by_same : (c : Bool) → lookup (as_known es) path ≡ option_map (λ o. Is (as_declared o)) (lookup es path) → (if c then Some (Is (as_declared e.1)) else lookup (as_known es) path) ≡ option_map (λ o. Is (as_declared o)) (if c then Some e.1 else lookup es path)
    by_same true h = refl
    by_same false h = h

pub lookup_external : (calls : List (AbsolutePath × ℕ)) (es : List (AbsolutePath × ExternalType)) (path : AbsolutePath) → lookup (external_names calls es) path ≡ option_map (λ e. ExternalObject (external_object e (lookup calls path))) (lookup es path)
lookup_external calls [] path = refl
lookup_external calls (e ∷ es) path = by_same (is_same_path e.0 path) refl (lookup_external calls es path)
  where
    by_same : (c : Bool) → is_same_path e.0 path ≡ c → lookup (external_names calls es) path ≡ option_map (λ e. ExternalObject (external_object e (lookup calls path))) (lookup es path)
        → (if c then Some (ExternalObject (external_object e.1 (lookup calls e.0))) else lookup (external_names calls es) path) ≡ option_map (λ e. ExternalObject (external_object e (lookup calls path))) (if c then Some e.1 else lookup es path)
    by_same true same h = ap (λ p. Some (ExternalObject (external_object e.1 (lookup calls p)))) (is_same_path-true e.0 path same)
    by_same false same h = h

and_false : (b : Bool) → (b && false) ≡ false
and_false true = refl
and_false false = refl

-- no object of the root lies deeper
pub deep_none : (s t : NameSeg) (rest : AbsolutePath) → lookup root_objects (s ∷ t ∷ rest) ≡ None
deep_none s t rest = simp and_false

pub deep_root : (s : NameSeg) (p : AbsolutePath) → is_same_path p [] ≡ false → None ≡ at_root (s ∷ p)
deep_root s [] e = absurd (grind arith)
deep_root s (t ∷ rest) e = sym (deep_none s t rest)

-- the root's objects are as they are declared
abbrev plain_known : Names → Known
plain_known [] = []
plain_known (e ∷ es) = (e.0, Is e.1) ∷ plain_known es

lookup_plain : (ns : Names) (path : AbsolutePath) → lookup (plain_known ns) path ≡ option_map Is (lookup ns path)
lookup_plain [] path = refl
lookup_plain (e ∷ es) path = by_same (is_same_path e.0 path) (lookup_plain es path)
  where
    by_same : (c : Bool) → lookup (plain_known es) path ≡ option_map Is (lookup es path) → (if c then Some (Is e.1) else lookup (plain_known es) path) ≡ option_map Is (if c then Some e.1 else lookup es path)
    by_same true h = refl
    by_same false h = h

known_append : (xs ys : Names) → as_known (xs ++ ys) ≡ as_known xs ++ as_known ys
known_append [] ys = refl
known_append (x ∷ xs) ys = ap (λ zs. (x.0, Is (as_declared x.1)) ∷ zs) (known_append xs ys)

-- what a path is, by the four places in which it may be said
from_four : (kinds : Known) (calls : List (AbsolutePath × ℕ)) (es : List (AbsolutePath × ExternalType)) (path : AbsolutePath) → kind_from (lookup kinds path) (lookup es path) (lookup calls path) (lookup root_objects path) ≡ lookup (kinds ++ as_known (external_names calls es ++ root_objects)) path
from_four kinds calls es path =
    by_four (lookup kinds path) (lookup es path) (lookup root_objects path)
    ∙ ap (λ o. choose (lookup kinds path) (choose (option_map (λ o. Is (as_declared o)) o) (option_map Is (lookup root_objects path)) Some) Some) (sym (lookup_external calls es path))
    ∙ ap (λ o. choose (lookup kinds path) (choose o (option_map Is (lookup root_objects path)) Some) Some) (sym (lookup_known (external_names calls es) path))
    ∙ ap (λ o. choose (lookup kinds path) (choose (lookup (as_known (external_names calls es)) path) o Some) Some) (sym (lookup_plain root_objects path))
    ∙ ap (λ o. choose (lookup kinds path) o Some) (sym (lookup_append (as_known (external_names calls es)) (as_known root_objects) path))
    ∙ ap (λ ns. choose (lookup kinds path) (lookup ns path) Some) (sym (known_append (external_names calls es) root_objects))
    ∙ sym (lookup_append kinds (as_known (external_names calls es ++ root_objects)) path)
  where
    by_four : (k : Option NameKind) (e : Option ExternalType) (r : Option Object) → kind_from k e (lookup calls path) r ≡ choose k (choose (option_map (λ o. Is (as_declared o)) (option_map (λ e. ExternalObject (external_object e (lookup calls path))) e)) (option_map Is r) Some) Some
    by_four (Some k) e r = refl
    by_four None (Some e) r = refl
    by_four None None (Some r) = refl
    by_four None None None = refl

pub kind_known : (whole : Whole) → IsKnown whole → (path : AbsolutePath) → is_same_path path [] ≡ false → kind_from (lookup (declared_kinds (is_named whole.all) whole.all.declared) path) (lookup whole.all.external path) (lookup whole.calls path) (at_root path) ≡ kind_at whole.known path
kind_known whole known [] e = absurd (grind arith)
kind_known whole known (seg ∷ scope) e =
    from_four (declared_kinds (is_named whole.all) whole.all.declared) whole.calls whole.all.external (seg ∷ scope) ∙ ap (λ ns. lookup ns (seg ∷ scope)) (sym known)

pub kind_same : (a b : Option NameKind) (e f : Option ExternalType) (m n : Option ℕ) (o p : Option Object) → a ≡ b → e ≡ f → m ≡ n → o ≡ p → kind_from a e m o ≡ kind_from b f n p
kind_same a b e f m n o p h i j k = ap (λ x. kind_from x e m o) h ∙ ap (λ x. kind_from b x m o) i ∙ ap (λ x. kind_from b f x o) j ∙ ap (kind_from b f n) k
