-- What a block without errors of names gives: its names are settled, and what stands before the load is known.
use Rattle.std.proofs.Common.{◌≡◌, ℕ, ◌≤◌, Bool, true, false, List, [], ◌∷◌, ◌++◌, length, Option, Some, None, refl, sym, ap, ◌∙◌, subst, arith}
use Rattle.std.specs.Prelude.{if◌then◌else◌, nat_eq, nat_le, ◌&&◌, ◌||◌, not, is_some}
use Rattle.std.proofs.lemmas.Bool.Decides.{nat_tests}
use Rattle.std.proofs.lemmas.Bool.{eqb-true}
use Rattle.acpi_values.specs.Paths.{NameSeg, AbsolutePath, is_same_path}
use Rattle.acpi_state.specs.Outcomes.{choose}
use Rattle.acpi_state.specs.Objects.{Object, DataObject, MethodObject, ContainerObject, ExternalObject, Names, lookup, root_objects, MutexObject, EventObject, as_declared, RegionObject}
use Rattle.acpi_state.proofs.Lookups.{is_same_path-true}
use Rattle.asl_tree.specs.declared.path.Path.{Path}
use Rattle.asl_tree.specs.Names.{Is, Known, is_known, kind_at, declared_path}
use Rattle.asl_meaning.specs.Declarations.{Declared, As, AliasOf, ExternalType, Declarations, nothing_declared, in_root, is_named, scope_path, with_declared, with_external, declare, declare_all, declarations, calls_all, called, external_object, kind_of, declared_kinds, external_names, as_known, externals, known_of, as_unit, as_buffer_field, declare_items}
use Rattle.asl_tree.specs.FieldItems.{FieldItem, UnitItem, SkipItem, OffsetItem, AccessItem, ConnectionItem, ToName, ToBytes}
use Rattle.asl_tree.specs.Tree.{At, Tree, Name, Alias, External, Method, Container', Scope, Trees, no_trees, tree, Mutex, Event, OperationRegion, Field, IndexField, BankField, CreateField, UnitName, If, ElseIf, Else, While, Switch, Case, Default, For}
use Rattle.asl_meaning.proofs.Agreements.{AreKnownAs}
use Rattle.asl_meaning.proofs.SameSessions.{IsKnownStart}
use Rattle.acpi_names.specs.Errors.{Twice, DeclaredHere, Missing, Differs, TooLong, unless, Whole, whole_of, step_errors, length_errors, has_parent, is_new, same_count, agrees_with, declared_errors, external_errors, use_errors, scope_errors, names, names_all, name_errors, unit_path, items_errors}
use Rattle.named_sessions.proofs.Ready.{left_none, right_none, holds, same_path_refl, new_of, neither, Settled}
use Rattle.named_sessions.proofs.Chains.{finite}

abbrev or_declared : Declared → Option Declared → Declared
or_declared d None = d
or_declared d (Some y) = y

abbrev or_object : Object → Option Object → Object
or_object o None = o
or_object o (Some y) = y

abbrev or_type : ExternalType → Option ExternalType → ExternalType
or_type e None = e
or_type e (Some y) = y

-- look-ups in lists that are made from others
some_append : {A : Type 0} (xs ys : List (AbsolutePath × A)) (p : AbsolutePath) → is_some (lookup (xs ++ ys) p) ≡ (is_some (lookup xs p) || is_some (lookup ys p))
some_append [] ys p = refl
some_append (x ∷ xs) ys p = by_same (is_same_path x.0 p) (some_append xs ys p)
  where
    by_same : (c : Bool) → is_some (lookup (xs ++ ys) p) ≡ (is_some (lookup xs p) || is_some (lookup ys p)) → is_some (if c then Some x.1 else lookup (xs ++ ys) p) ≡ (is_some (if c then Some x.1 else lookup xs p) || is_some (lookup ys p))
    by_same true rest = refl
    by_same false rest = rest

lookup_none : {A : Type 0} (xs ys : List (AbsolutePath × A)) (p : AbsolutePath) → is_some (lookup xs p) ≡ false → lookup (xs ++ ys) p ≡ lookup ys p
lookup_none [] ys p e = refl
lookup_none (x ∷ xs) ys p e = by_same (is_same_path x.0 p) e (lookup_none xs ys p)
  where
    by_same : (c : Bool) → is_some (if c then Some x.1 else lookup xs p) ≡ false → (is_some (lookup xs p) ≡ false → lookup (xs ++ ys) p ≡ lookup ys p) → (if c then Some x.1 else lookup (xs ++ ys) p) ≡ lookup ys p
    by_same true e go = absurd (grind arith)
    by_same false e go = go e

some_kinds : (has : AbsolutePath → Bool) (xs : List (AbsolutePath × Declared)) (p : AbsolutePath) → is_some (lookup (declared_kinds has xs) p) ≡ is_some (lookup xs p)
some_kinds has [] p = refl
some_kinds has (x ∷ xs) p = by_same (is_same_path x.0 p) (some_kinds has xs p)
  where
    by_same : (c : Bool) → is_some (lookup (declared_kinds has xs) p) ≡ is_some (lookup xs p) → is_some (if c then Some (kind_of has x.1) else lookup (declared_kinds has xs) p) ≡ is_some (if c then Some x.1 else lookup xs p)
    by_same true rest = refl
    by_same false rest = rest

lookup_kinds : (has : AbsolutePath → Bool) (xs : List (AbsolutePath × Declared)) (ys : Known) (p : AbsolutePath) (d : Declared) → lookup xs p ≡ Some d → lookup (declared_kinds has xs ++ ys) p ≡ Some (kind_of has d)
lookup_kinds has [] ys p d e = absurd (grind arith)
lookup_kinds has (x ∷ xs) ys p d e = by_same (is_same_path x.0 p) e (lookup_kinds has xs ys p d)
  where
    by_same : (c : Bool) → (if c then Some x.1 else lookup xs p) ≡ Some d → (lookup xs p ≡ Some d → lookup (declared_kinds has xs ++ ys) p ≡ Some (kind_of has d)) → (if c then Some (kind_of has x.1) else lookup (declared_kinds has xs ++ ys) p) ≡ Some (kind_of has d)
    by_same true e go = ap (λ o. Some (kind_of has (or_declared d o))) e
    by_same false e go = go e

lookup_as_known : (xs : Names) (p : AbsolutePath) (o : Object) → lookup xs p ≡ Some o → lookup (as_known xs) p ≡ Some (Is (as_declared o))
lookup_as_known [] p o e = absurd (grind arith)
lookup_as_known (x ∷ xs) p o e = by_same (is_same_path x.0 p) e (lookup_as_known xs p o)
  where
    by_same : (c : Bool) → (if c then Some x.1 else lookup xs p) ≡ Some o → (lookup xs p ≡ Some o → lookup (as_known xs) p ≡ Some (Is (as_declared o))) → (if c then Some (Is (as_declared x.1)) else lookup (as_known xs) p) ≡ Some (Is (as_declared o))
    by_same true e go = ap (λ q. Some (Is (as_declared (or_object o q)))) e
    by_same false e go = go e

some_known : (xs : Names) (p : AbsolutePath) → is_some (lookup (as_known xs) p) ≡ is_some (lookup xs p)
some_known [] p = refl
some_known (x ∷ xs) p = by_same (is_same_path x.0 p) (some_known xs p)
  where
    by_same : (c : Bool) → is_some (lookup (as_known xs) p) ≡ is_some (lookup xs p) → is_some (if c then Some (Is (as_declared x.1)) else lookup (as_known xs) p) ≡ is_some (if c then Some x.1 else lookup xs p)
    by_same true rest = refl
    by_same false rest = rest

some_external : (calls : List (AbsolutePath × ℕ)) (xs : List (AbsolutePath × ExternalType)) (p : AbsolutePath) → is_some (lookup (external_names calls xs) p) ≡ is_some (lookup xs p)
some_external calls [] p = refl
some_external calls (x ∷ xs) p = by_same (is_same_path x.0 p) (some_external calls xs p)
  where
    by_same : (c : Bool) → is_some (lookup (external_names calls xs) p) ≡ is_some (lookup xs p) → is_some (if c then Some (ExternalObject (external_object x.1 (lookup calls x.0))) else lookup (external_names calls xs) p) ≡ is_some (if c then Some x.1 else lookup xs p)
    by_same true rest = refl
    by_same false rest = rest

lookup_external : (calls : List (AbsolutePath × ℕ)) (xs : List (AbsolutePath × ExternalType)) (ys : Names) (p : AbsolutePath) (e : ExternalType) → lookup xs p ≡ Some e → lookup (external_names calls xs ++ ys) p ≡ Some (ExternalObject (external_object e (lookup calls p)))
lookup_external calls [] ys p e h = absurd (grind arith)
lookup_external calls (x ∷ xs) ys p e h = by_same (is_same_path x.0 p) refl h (lookup_external calls xs ys p e)
  where
    by_same : (c : Bool) → is_same_path x.0 p ≡ c → (if c then Some x.1 else lookup xs p) ≡ Some e → (lookup xs p ≡ Some e → lookup (external_names calls xs ++ ys) p ≡ Some (ExternalObject (external_object e (lookup calls p))))
        → (if c then Some (ExternalObject (external_object x.1 (lookup calls x.0))) else lookup (external_names calls xs ++ ys) p) ≡ Some (ExternalObject (external_object e (lookup calls p)))
    by_same true same h go =
        ap (λ q. Some (ExternalObject (external_object (or_type e q) (lookup calls x.0)))) h ∙ ap (λ q. Some (ExternalObject (external_object e (lookup calls q)))) (is_same_path-true x.0 p same)
    by_same false same h go = go h

or_true : (a b : Bool) → (a || (b || true)) ≡ true
or_true true b = refl
or_true false true = refl
or_true false false = refl

-- what is known is what is declared, of another table, or of the root
pub known_is_named : (program : Trees) (path : AbsolutePath) → is_known (known_of program) path ≡ is_named (declarations program) path
known_is_named program [] = sym (or_true _ _)
known_is_named program (seg ∷ scope) =
    let d = declarations program in
    let has = is_named d in
    let p : AbsolutePath = seg ∷ scope in
    let calls = called (calls_all has program [] nothing_declared) in
    some_append (declared_kinds has d.declared) (as_known (externals program ++ root_objects)) p
    ∙ ap (λ b. b || is_some (lookup (as_known (externals program ++ root_objects)) p)) (some_kinds has d.declared p)
    ∙ ap (λ b. is_some (lookup d.declared p) || b) (some_known (externals program ++ root_objects) p ∙ some_append (externals program) root_objects p ∙ ap (λ b. b || is_some (lookup root_objects p)) (some_external calls d.external p))

kinds_of : (program : Trees) (path : AbsolutePath) (x : Declared) → in_root path ≡ false → lookup (declarations program).declared path ≡ Some x → kind_at (known_of program) path ≡ Some (kind_of (is_named (declarations program)) x)
kinds_of program [] x out e = absurd (grind arith)
kinds_of program (seg ∷ scope) x out e =
    let d = declarations program in lookup_kinds (is_named d) d.declared (as_known (externals program ++ root_objects)) (seg ∷ scope) x e

-- lengths
abbrev AreShort : {A : Type 0} → List (AbsolutePath × A) → Type 0
AreShort [] = Unit {0}
AreShort (x ∷ xs) = (length x.0 ≤ 255) × AreShort xs

short_of : {A : Type 0} (xs : List (AbsolutePath × A)) (p : AbsolutePath) → AreShort xs → is_some (lookup xs p) ≡ true → length p ≤ 255
short_of [] p h e = absurd (grind arith)
short_of (x ∷ xs) p h e = by_same (is_same_path x.0 p) refl e (short_of xs p h.1)
  where
    by_same : (c : Bool) → is_same_path x.0 p ≡ c → is_some (if c then Some x.1 else lookup xs p) ≡ true → (is_some (lookup xs p) ≡ true → length p ≤ 255) → length p ≤ 255
    by_same true same e go = subst (λ q. length q ≤ 255) (is_same_path-true x.0 p same) h.0
    by_same false same e go = go e

abbrev Nested : AbsolutePath → Type 0
Nested p = length p ≤ 255

-- the properties of what is declared and of the externals: short paths, none of the root, none of the externals
-- declared, and Externals of one path alike
abbrev AreOutside : {A : Type 0} → List (AbsolutePath × A) → Type 0
AreOutside [] = Unit {0}
AreOutside (x ∷ xs) = (in_root x.0 ≡ false) × AreOutside xs

abbrev AreApart : Declarations → List (AbsolutePath × ExternalType) → Type 0
AreApart all [] = Unit {0}
AreApart all (x ∷ xs) = (is_some (lookup all.declared x.0) ≡ false) × AreApart all xs

abbrev AreAlike : List (AbsolutePath × ExternalType) → Type 0
AreAlike [] = Unit {0}
AreAlike (x ∷ xs) = (agrees_with (lookup xs x.0) x.1 ≡ true) × AreAlike xs

record AreGood (all d : Declarations) : Type 0 where
  short : AreShort d.declared
  short_external : AreShort d.external
  outside : AreOutside d.declared
  outside_external : AreOutside d.external
  apart : AreApart all d.external
  alike : AreAlike d.external

less_of : (n m : ℕ) → nat_le n m ≡ true → n ≤ m
less_of n m e = grind (arith, nat_tests)

not_true : (b : Bool) → not b ≡ true → b ≡ false
not_true true e = absurd (grind arith)
not_true false e = refl

module _ (whole : Whole) where
  declared_good : (at : At) (name : Path) (scope : AbsolutePath) (d : Declarations) (x : Declared) → declared_errors whole at name scope d ≡ [] → AreGood whole.all d → AreGood whole.all (with_declared (declared_path name scope) x d)
  declared_good at name scope d x e g =
      let path = declared_path name scope in
      record {
        short = (less_of (length path) 255 (holds (nat_le (length path) 255) (TooLong at name) (right_none (unless (has_parent whole.all path) (Missing at name)) _ (right_none (step_errors at name scope) _ (right_none (unless (is_new d path) (Twice at path)) _ e)))), g.short);
        short_external = g.short_external;
        outside = ((neither (in_root path) (is_some (lookup d.declared path)) (new_of whole at name scope d e)).0, g.outside);
        outside_external = g.outside_external;
        apart = g.apart;
        alike = g.alike;
      }

  external_good : (here at : At) (name : Path) (x : ExternalType) (scope : AbsolutePath) (d : Declarations) → external_errors whole here at name x scope d ≡ [] → AreGood whole.all d → AreGood whole.all (with_external (in_root (declared_path name scope)) (declared_path name scope) x d)
  external_good here at name x scope d e g = by_root (in_root (declared_path name scope)) refl
    where
      by_first : in_root (declared_path name scope) ≡ false → (o : Option ExternalType) → lookup d.external (declared_path name scope) ≡ o
          → AreGood whole.all (record d { external = choose o ((declared_path name scope, x) ∷ d.external) (λ first. d.external) })
      by_first out (Some first) there = g
      by_first out None there =
          let path = declared_path name scope in
          let e' = right_none (step_errors at name scope) _ (right_none (unless (not (is_some (lookup whole.all.declared path))) (DeclaredHere at path)) _ e) in
          record {
            short = g.short;
            short_external = (less_of (length path) 255 (holds (nat_le (length path) 255) (TooLong at name) (left_none _ (unless (agrees_with (lookup d.external path) x) (Differs here name)) e')), g.short_external);
            outside = g.outside;
            outside_external = (out, g.outside_external);
            apart = (not_true _ (holds (not (is_some (lookup whole.all.declared path))) (DeclaredHere at path) (left_none _ _ e)), g.apart);
            alike = (holds (agrees_with (lookup d.external path) x) (Differs here name) (right_none (length_errors at name path) _ e'), g.alike);
          }

      by_root : (c : Bool) → in_root (declared_path name scope) ≡ c → AreGood whole.all (with_external c (declared_path name scope) x d)
      by_root true out = g
      by_root false out = by_first out (lookup d.external (declared_path name scope)) refl

  good_items : (items : List (FieldItem UnitName)) (scope : AbsolutePath) (d : Declarations) → items_errors whole items scope d ≡ [] → AreGood whole.all d → AreGood whole.all (declare_items items scope d)
  good_items [] scope d e g = g
  good_items (UnitItem name bits ∷ items) scope d e g =
      let d' = with_declared (name.segment ∷ scope) as_unit d in
      good_items items scope d' (right_none (declared_errors whole name.at (unit_path name.segment) scope d) _ e) (declared_good name.at (unit_path name.segment) scope d as_unit (left_none _ (items_errors whole items scope d') e) g)
  good_items (SkipItem bits ∷ items) scope d e g = good_items items scope d e g
  good_items (OffsetItem bytes ∷ items) scope d e g = good_items items scope d e g
  good_items (AccessItem access attribute length ∷ items) scope d e g = good_items items scope d e g
  good_items (ConnectionItem (ToName at name) ∷ items) scope d e g = good_items items scope d (right_none (use_errors whole at name scope) _ e) g
  good_items (ConnectionItem (ToBytes bytes) ∷ items) scope d e g = good_items items scope d e g

  mutual
    good : (t : Tree) (scope : AbsolutePath) (d : Declarations) → names whole t scope d ≡ [] → AreGood whole.all d → AreGood whole.all (declare t scope d)
    good (Name at name value) scope d e g = declared_good at name scope d (As DataObject) (left_none _ (names whole value scope d) e) g
    good (Alias from source at name) scope d e g = declared_good at name scope d (AliasOf source scope) (right_none (use_errors whole from source scope) _ e) g
    good (External here at name type parameters) scope d e g = external_good here at name (record { type = type; parameters = parameters }) scope d e g
    good (Method at name flags body) scope d e g =
        let d' = with_declared (declared_path name scope) (As (MethodObject flags)) d in
        good_all body (declared_path name scope) d' (right_none (declared_errors whole at name scope d) _ e) (declared_good at name scope d (As (MethodObject flags)) (left_none _ (names_all whole body (declared_path name scope) d') e) g)
    good (Mutex at name level) scope d e g = declared_good at name scope d (As (MutexObject level)) e g
    good (Event at name) scope d e g = declared_good at name scope d (As EventObject) e g
    good (If test body) scope d e g = good_all body scope d (right_none (names whole test scope d) _ e) g
    good (ElseIf test body) scope d e g = good_all body scope d (right_none (names whole test scope d) _ e) g
    good (Else body) scope d e g = good_all body scope d e g
    good (While test body) scope d e g = good_all body scope d (right_none (names whole test scope d) _ e) g
    good (For start test step body) scope d e g =
        good_all body scope d (right_none (names whole step scope d) _ (right_none (names whole test scope d) _ (right_none (names whole start scope d) _ e))) g
    good (Switch value cases) scope d e g = good_all cases scope d (right_none (names whole value scope d) _ e) g
    good (Case value body) scope d e g = good_all body scope d (right_none (names whole value scope d) _ e) g
    good (Default body) scope d e g = good_all body scope d e g
    good (OperationRegion at name space args) scope d e g = declared_good at name scope d (As (RegionObject space 0 0)) (left_none _ (names_all whole args scope d) e) g
    good (Field here from region flags items) scope d e g = good_items items scope d (right_none (use_errors whole from region scope) _ e) g
    good (IndexField here from index to register flags items) scope d e g = good_items items scope d (right_none (use_errors whole to register scope) _ (right_none (use_errors whole from index scope) _ e)) g
    good (BankField here from region to bank value flags items) scope d e g =
        good_items items scope d (right_none (names whole value scope d) _ (right_none (use_errors whole to bank scope) _ (right_none (use_errors whole from region scope) _ e))) g
    good (CreateField form args at name) scope d e g = declared_good at name scope d as_buffer_field (right_none (names_all whole args scope d) _ e) g
    good (Container' kind at name body) scope d e g =
        let d' = with_declared (declared_path name scope) (As (ContainerObject kind)) d in
        good_all body (declared_path name scope) d' (right_none (declared_errors whole at name scope d) _ e) (declared_good at name scope d (As (ContainerObject kind)) (left_none _ (names_all whole body (declared_path name scope) d') e) g)
    good (Scope here at name body) scope d e g = good_all body (scope_path d name scope) d (right_none (use_errors whole at name scope ++ scope_errors whole here at name scope d) _ e) g
    good _ scope d e g = g

    good_all : (ts : Trees) (scope : AbsolutePath) (d : Declarations) → names_all whole ts scope d ≡ [] → AreGood whole.all d → AreGood whole.all (declare_all ts scope d)
    good_all no_trees scope d e g = g
    good_all (tree t ts) scope d e g =
        good_all ts scope (declare t scope d) (right_none (names whole t scope d) _ e) (good t scope d (left_none _ (names_all whole ts scope (declare t scope d)) e) g)

all_good : (program : Trees) → name_errors program ≡ [] → AreGood (declarations program) (declarations program)
all_good program e = good_all (whole_of program) program [] nothing_declared e (record { short = tt; short_external = tt; outside = tt; outside_external = tt; apart = tt; alike = tt })

root_short : (p : AbsolutePath) → in_root p ≡ true → length p ≤ 255
root_short [] e = omega arith
root_short (seg ∷ p) e = short_of root_objects (seg ∷ p) (omega arith, (omega arith, (omega arith, (omega arith, (omega arith, (omega arith, (omega arith, (omega arith, (omega arith, tt))))))))) e

named_short : (d : Declarations) → AreShort d.declared → AreShort d.external → (p : AbsolutePath) → is_named d p ≡ true → length p ≤ 255
named_short d h k p e = by_declared (is_some (lookup d.declared p)) refl (is_some (lookup d.external p)) refl e
  where
    by_declared : (a : Bool) → is_some (lookup d.declared p) ≡ a → (b : Bool) → is_some (lookup d.external p) ≡ b → (a || (b || in_root p)) ≡ true → length p ≤ 255
    by_declared true x b y e = short_of d.declared p h x
    by_declared false x true y e = short_of d.external p k y
    by_declared false x false y e = root_short p e

-- a block whose names have no error has settled names
pub settles : (program : Trees) → name_errors program ≡ [] → Settled (whole_of program)
settles program e =
    let g = all_good program e in
    record {
      same = known_is_named program;
      kinds = kinds_of program;
      short = λ path h. named_short (declarations program) g.short g.short_external path (sym (known_is_named program path) ∙ h);
      finite = λ n path x h. finite (known_of program) n path x h;
    }

-- Externals of one path say the same
same_counts : (a b : Option ℕ) → same_count a b ≡ true → a ≡ b
same_counts None None e = refl
same_counts (Some n) (Some m) e = ap Some (eqb-true n m e)
same_counts None (Some m) e = absurd (grind arith)
same_counts (Some n) None e = absurd (grind arith)

same_types : (x y : ExternalType) → agrees_with (Some x) y ≡ true → x ≡ y
same_types x y e = by_type (nat_eq x.type y.type) refl e
  where
    by_type : (c : Bool) → nat_eq x.type y.type ≡ c → (c && same_count x.parameters y.parameters) ≡ true → x ≡ y
    by_type true h e =
        ap (λ t. record { type = t; parameters = x.parameters }) (eqb-true x.type y.type h) ∙ ap (λ p. record { type = y.type; parameters = p }) (same_counts x.parameters y.parameters e)
    by_type false h e = absurd (grind arith)

-- each entry of a list is what its path leads to
abbrev AreFound : {A : Type 0} → List (AbsolutePath × A) → List (AbsolutePath × A) → Type 0
AreFound all [] = Unit {0}
AreFound all (x ∷ xs) = (lookup all x.0 ≡ Some x.1) × AreFound all xs

found_more : (x : AbsolutePath × ExternalType) (xs ys : List (AbsolutePath × ExternalType)) → agrees_with (lookup xs x.0) x.1 ≡ true → AreFound xs ys → AreFound (x ∷ xs) ys
found_more x xs [] h k = tt
found_more x xs (y ∷ ys) h k = (by_same (is_same_path x.0 y.0) refl, found_more x xs ys h k.1)
  where
    by_same : (c : Bool) → is_same_path x.0 y.0 ≡ c → (if c then Some x.1 else lookup xs y.0) ≡ Some y.1
    by_same false same = k.0
    by_same true same =
        let there : lookup xs x.0 ≡ Some y.1 = ap (lookup xs) (is_same_path-true x.0 y.0 same) ∙ k.0 in
        ap Some (sym (same_types y.1 x.1 (ap (λ o. agrees_with o x.1) (sym there) ∙ h)))

alike_found : (xs : List (AbsolutePath × ExternalType)) → AreAlike xs → AreFound xs xs
alike_found [] h = tt
alike_found (x ∷ xs) h = (ap (λ c. if c then Some x.1 else lookup xs x.0) (same_path_refl x.0), found_more x xs xs h.0 (alike_found xs h.1))

module _ (program : Trees) (g : AreGood (declarations program) (declarations program)) where
  abbrev d : Declarations
  d = declarations program

  abbrev has : AbsolutePath → Bool
  has = is_named d

  abbrev the_calls : List (AbsolutePath × ℕ)
  the_calls = called (calls_all has program [] nothing_declared)

  -- what no term declares is what another table or the root has
  undeclared : (path : AbsolutePath) (o : Object) → is_some (lookup d.declared path) ≡ false → lookup (externals program ++ root_objects) path ≡ Some o → lookup (known_of program) path ≡ Some (Is (as_declared o))
  undeclared path o absent e =
      lookup_none (declared_kinds has d.declared) (as_known (externals program ++ root_objects)) path (some_kinds has d.declared path ∙ absent) ∙ lookup_as_known (externals program ++ root_objects) path o e

  external_known : (xs : List (AbsolutePath × ExternalType)) → AreFound d.external xs → AreOutside xs → AreApart d xs → AreKnownAs (known_of program) (external_names the_calls xs)
  external_known [] f o a = tt
  external_known (x ∷ xs) f o a = (by_path x.0 x.1 o.0 a.0 f.0, external_known xs f.1 o.1 a.1)
    where
      by_path : (p : AbsolutePath) (e : ExternalType) → in_root p ≡ false → is_some (lookup d.declared p) ≡ false → lookup d.external p ≡ Some e → kind_at (known_of program) p ≡ Some (Is (ExternalObject (external_object e (lookup the_calls p))))
      by_path [] e out absent there = absurd (grind arith)
      by_path (seg ∷ scope) e out absent there =
          undeclared (seg ∷ scope) _ absent (lookup_external the_calls d.external root_objects (seg ∷ scope) e there)

  -- nothing outside the root is of the root
  outside_absent : {A : Type 0} (xs : List (AbsolutePath × A)) (p : AbsolutePath) → AreOutside xs → in_root p ≡ true → is_some (lookup xs p) ≡ false
  outside_absent [] p h r = refl
  outside_absent (x ∷ xs) p h r = by_same (is_same_path x.0 p) refl (outside_absent xs p h.1 r)
    where
      by_same : (c : Bool) → is_same_path x.0 p ≡ c → is_some (lookup xs p) ≡ false → is_some (if c then Some x.1 else lookup xs p) ≡ false
      by_same true same rest = absurd (let e = sym h.0 ∙ ap in_root (is_same_path-true x.0 p same) ∙ r in grind arith)
      by_same false same rest = rest

  root_known : (seg : NameSeg) (o : Object) → lookup root_objects (seg ∷ []) ≡ Some o → kind_at (known_of program) (seg ∷ []) ≡ Some (Is (as_declared o))
  root_known seg o e =
      let r : in_root (seg ∷ []) ≡ true = ap is_some e in
      undeclared (seg ∷ []) o (outside_absent d.declared (seg ∷ []) g.outside r) (lookup_none (externals program) root_objects (seg ∷ []) (some_external the_calls d.external (seg ∷ []) ∙ outside_absent d.external (seg ∷ []) g.outside_external r) ∙ e)

  known_both : (xs ys : Names) → AreKnownAs (known_of program) xs → AreKnownAs (known_of program) ys → AreKnownAs (known_of program) (xs ++ ys)
  known_both [] ys h k = k
  known_both (x ∷ xs) ys h k = (h.0, known_both xs ys h.1 k)

  roots_known : AreKnownAs (known_of program) root_objects
  roots_known =
      (root_known _ _ refl, (root_known _ _ refl, (root_known _ _ refl, (root_known _ _ refl, (root_known _ _ refl, (root_known _ _ refl, (root_known _ _ refl, (root_known _ _ refl, (root_known _ _ refl, tt)))))))))

  start_known : IsKnownStart (known_of program) (externals program)
  start_known =
      known_both (externals program) root_objects (external_known d.external (alike_found d.external g.alike) g.outside_external g.apart) roots_known

pub knows_start : (program : Trees) → name_errors program ≡ [] → IsKnownStart (known_of program) (externals program)
knows_start program e = start_known program (all_good program e)
