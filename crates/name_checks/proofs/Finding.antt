-- Errors that are found, one after another.
use Rattle.std.proofs.Common.{◌≡◌, ℕ, ◌<◌, Bool, true, false, List, [], ◌++◌, length, get_or, Option, Some, None, refl, sym, ap, ◌∙◌}
use Rattle.std.specs.Prelude.{map, is_some, not, nat_eq, ◌&&◌, ◌||◌, if◌then◌else◌}
use Rattle.std.specs.Option.{option_map}
use Rattle.std.proofs.lemmas.List.{append_assoc}
use Rattle.acpi_values.specs.Paths.{AbsolutePath, is_same_path}
use Rattle.acpi_state.specs.Objects.{Object, lookup}
use Rattle.asl_tree.specs.declared.path.Path.{Path}
use Rattle.asl_tree.specs.Names.{denoted}
use Rattle.asl_tree.specs.Tree.{At}
use Rattle.asl_meaning.specs.Declarations.{Declarations, ExternalType, is_named, declared_kinds}
use Rattle.acpi_names.specs.Errors.{NameError, Differs, Missing, NoContainer, Whole, unless, call_errors, is_container, final, name_end}
use Rattle.acpi_names.specs.Mentions.{opening_errors}
use Rattle.acpi_state.specs.Outcomes.{choose}
use Rattle.acpi_names.specs.Paths.{AreDistinct, path_with}
use Rattle.name_kinds.specs.Ends.{ended}
use Rattle.name_kinds.specs.declared.kind.End.{End}
use Rattle.name_checks.specs.Calls.{is_open, is_first}
use Rattle.name_checks.specs.Faults.{Finds, fault_as}
use Rattle.name_kinds.specs.Kinds.{kind_as}
use Rattle.name_checks.specs.declared.fault.Fault.{Fault}
use Rattle.name_kinds.specs.Tables.{TablesSay}
use Rattle.name_kinds.specs.declared.tables.Tables.{Tables}
use Rattle.name_kinds.proofs.Lookups.{kinds_some}
use Rattle.name_kinds.proofs.Noting.{look_here}

pub finds_then : (paths : List AbsolutePath) (a b c : List Fault) (x y : List NameError) → Finds paths a b x → Finds paths b c y → Finds paths a c (x ++ y)
finds_then paths a b c x y h k = k ∙ ap (λ es. es ++ y) h ∙ append_assoc (map (fault_as paths) a) x y

pub finds_as : (paths : List AbsolutePath) (a b : List Fault) (x y : List NameError) → x ≡ y → Finds paths a b x → Finds paths a b y
finds_as paths a b x y e h = h ∙ ap (λ es. map (fault_as paths) a ++ es) e

-- the entry that is read says whether the path is declared
pub declared_here : (paths : List AbsolutePath) (has : AbsolutePath → Bool) (tables : Tables) (calls : List (AbsolutePath × ℕ)) (d : Declarations) (n : ℕ) (x : _) → AreDistinct paths → n < length paths → length tables.kinds.items ≡ length paths → x ≡ get_or tables.kinds.items n x → TablesSay paths has tables calls d → is_some x ≡ is_some (lookup d.declared (get_or paths n []))
declared_here paths has tables calls d n x distinct lt size e notes =
    sym (some_kind x) ∙ ap is_some (look_here (kind_as paths) paths tables.kinds.items n x (lookup (declared_kinds has d.declared)) distinct lt size e notes.kinds) ∙ kinds_some has d.declared (get_or paths n [])
  where
    some_kind : (o : _) → is_some (option_map (kind_as paths) o) ≡ is_some o
    some_kind None = refl
    some_kind (Some k) = refl

-- what is asked of the end of a name
pub asked_end : (whole : Whole) (paths : List AbsolutePath) (target : Option ℕ) (end : Option End) (name : Path) (scope : AbsolutePath) (test : Option (AbsolutePath × Object) → Bool) (e : NameError) (b : Bool) → b ≡ test (ended paths end) → ended paths end ≡ choose (path_with paths target) None (final whole.known)
    → path_with paths target ≡ denoted (is_named whole.all) name scope → unless b e ≡ unless (test (name_end whole name scope)) e
asked_end whole paths target end name scope test e b h k l = ap (λ b. unless b e) (h ∙ ap test (k ∙ ap (λ o. choose o None (final whole.known)) l))

either : (opens first : Bool) (e : NameError) → unless (not opens || first) e ≡ (if opens then unless first e else [])
either true first e = refl
either false first e = refl

-- the errors of a call of one path
pub one_call : (whole : Whole) (at : At) (name : Path) (n : ℕ) (scope path : AbsolutePath) → Some path ≡ denoted (is_named whole.all) name scope → unless (not (is_open (lookup whole.all.external path)) || is_first n (lookup whole.calls path)) (Differs at name) ≡ call_errors whole at name n scope
one_call whole at name n scope path e = by_both (lookup whole.all.external path) refl (lookup whole.calls path) refl
  where
    by_both : (o : Option ExternalType) → lookup whole.all.external path ≡ o → (f : Option ℕ) → lookup whole.calls path ≡ f → unless (not (is_open (lookup whole.all.external path)) || is_first n (lookup whole.calls path)) (Differs at name) ≡ call_errors whole at name n scope
    by_both None h f k = rw (← e, h) refl
    by_both (Some x) h None k = rw (← e, h, k) (either (not (is_some x.parameters) && (nat_eq x.type 0 || nat_eq x.type 8)) true (Differs at name))
    by_both (Some x) h (Some m) k = rw (← e, h, k) (either (not (is_some x.parameters) && (nat_eq x.type 0 || nat_eq x.type 8)) (nat_eq m n) (Differs at name))

-- the errors of a Scope of one path
pub one_scope : (whole : Whole) (here at : At) (name : Path) (scope inner path : AbsolutePath) → Some path ≡ denoted (is_named whole.all) name scope → unless (is_same_path path inner) (Missing at name) ++ unless (is_container (final whole.known path)) (NoContainer here name) ≡ opening_errors whole here at name scope inner
one_scope whole here at name scope inner path e =
    ap (λ o. choose o [] (λ p. unless (is_same_path p inner) (Missing at name) ++ unless (is_container (final whole.known p)) (NoContainer here name))) e
