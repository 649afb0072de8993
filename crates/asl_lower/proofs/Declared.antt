-- A program declares the same with its operators named, and its calls begin alike.
use Rattle.std.proofs.Common.{◌≡◌, ℕ, zero, suc, Bool, true, false, List, [], ◌∷◌, ◌++◌, Option, Some, None, refl, sym, ap, ◌∙◌, subst, arith}
use Rattle.std.proofs.lemmas.Bool.Decides.{nat_tests}
use Rattle.std.specs.Prelude.{if◌then◌else◌, ◌&&◌, not, nat_eq}
use Rattle.acpi_values.specs.Paths.{AbsolutePath, is_same_path}
use Rattle.acpi_values.specs.declared.operator.Plain.{Plain}
use Rattle.acpi_values.specs.Operators.{row_of}
use Rattle.acpi_state.specs.Objects.{MethodObject, ContainerObject, Names, root_objects, lookup, ExternalObject}
use Rattle.asl_tree.specs.Names.{declared_path, denoted}
use Rattle.asl_tree.specs.declared.term.Compound.{Compound}
use Rattle.asl_tree.specs.Symbols.{compound_operator}
use Rattle.asl_tree.specs.Tree.{Tree, Omitted, Call, Apply, Buffer, Package, VarPackage, CondRefOf, Return, Name, Method, Container', Scope, If, ElseIf, Else, While, For, Print, OperationRegion, BankField, CreateField, Operated, Assigned, AssignedBy, Trees, no_trees, tree, count, Switch, Case, Default}
use Rattle.asl_meaning.specs.Declarations.{As, ExternalType, Declarations, nothing_declared, is_named, scope_path, with_declared, declare, declare_all, declarations, calls, calls_all, called, external_object, declared_kinds, external_names, as_known, externals, known_of}
use Rattle.asl_meaning.specs.Meaning.{spot_form, target_operator}
use Rattle.acpi_names.specs.Terms.{has_no_targets, is_value, are_values, is_term, are_terms}
use Rattle.acpi_names.proofs.MentionErrors.{undeclared}
use Rattle.acpi_names.proofs.Mentions.{right_nil, first_true, second_true}
use Rattle.asl_lower.specs.Nodes.{given, last_target, assigned, assigned_by, named, inner_args, named_all}

pub given_declares : (t : Tree) (scope : AbsolutePath) (d : Declarations) → declare (given t) scope d ≡ declare t scope d
given_declares Omitted scope d = refl
given_declares t scope d = refl

mutual
  pub named_declares : (t : Tree) (scope : AbsolutePath) (d : Declarations) → declare (named t) scope d ≡ declare t scope d
  named_declares (Method at name flags body) scope d = all_declare body (declared_path name scope) (with_declared (declared_path name scope) (As (MethodObject flags)) d)
  named_declares (Container' kind at name body) scope d = all_declare body (declared_path name scope) (with_declared (declared_path name scope) (As (ContainerObject kind)) d)
  named_declares (Scope here at name body) scope d = all_declare body (scope_path d name scope) d
  named_declares (If test body) scope d = all_declare body scope d
  named_declares (ElseIf test body) scope d = all_declare body scope d
  named_declares (Else body) scope d = all_declare body scope d
  named_declares (While test body) scope d = all_declare body scope d
  named_declares (For start test step body) scope d = all_declare body scope d
  named_declares (Switch value cases) scope d = all_declare cases scope d
  named_declares (Case value body) scope d = all_declare body scope d
  named_declares (Default body) scope d = all_declare body scope d
  named_declares _ scope d = refl

  pub all_declare : (ts : Trees) (scope : AbsolutePath) (d : Declarations) → declare_all (named_all ts) scope d ≡ declare_all ts scope d
  all_declare no_trees scope d = refl
  all_declare (tree t ts) scope d =
      ap (declare_all (named_all ts) scope) (named_declares t scope d) ∙ all_declare ts scope (declare t scope d)

-- the same names are declared
pub same_declarations : (program : Trees) → declarations (named_all program) ≡ declarations program
same_declarations program = all_declare program [] nothing_declared

-- the first call of a path, which says with how many arguments an external method is called
abbrev pub first_call : List (Option AbsolutePath × ℕ) → AbsolutePath → Option ℕ
first_call cs path = lookup (called cs) path

abbrev pub IsGiven : Option Plain → Type 0
IsGiven None = ⊥
IsGiven (Some op) = Unit {0}

abbrev or_else : Option ℕ → Option ℕ → Option ℕ
or_else None o = o
or_else (Some n) o = Some n

first_append : (xs ys : List (Option AbsolutePath × ℕ)) (path : AbsolutePath) → first_call (xs ++ ys) path ≡ or_else (first_call xs path) (first_call ys path)
first_append [] ys path = refl
first_append ((None, n) ∷ xs) ys path = first_append xs ys path
first_append ((Some p, n) ∷ xs) ys path = by_same (is_same_path p path) (first_append xs ys path)
  where
    by_same : (c : Bool) → first_call (xs ++ ys) path ≡ or_else (first_call xs path) (first_call ys path)
        → (if c then Some n else first_call (xs ++ ys) path) ≡ or_else (if c then Some n else first_call xs path) (first_call ys path)
    by_same true h = refl
    by_same false h = h

pub count_args : (ts : Trees) → count (named_all ts) ≡ count ts
count_args no_trees = refl
count_args (tree t ts) = ap suc (count_args ts)

again : (a b : Option ℕ) → or_else (or_else a b) a ≡ or_else a b
again None None = refl
again None (Some n) = refl
again (Some m) b = refl

module _ (has : AbsolutePath → Bool) (path : AbsolutePath) where
  abbrev first_of_all : List (Option AbsolutePath × ℕ) → Option ℕ
  first_of_all cs = first_call cs path

  both : (xs ys xs' ys' : List (Option AbsolutePath × ℕ)) → first_of_all xs ≡ first_of_all xs' → first_of_all ys ≡ first_of_all ys' → first_of_all (xs ++ ys) ≡ first_of_all (xs' ++ ys')
  both xs ys xs' ys' h k = first_append xs ys path ∙ ap (λ o. or_else o (first_of_all ys)) h ∙ ap (or_else (first_of_all xs')) k ∙ sym (first_append xs' ys' path)

  -- a target calls what it calls
  last_calls : (n : ℕ) (t : Tree) (scope : AbsolutePath) (d : Declarations) → calls_all has (last_target (suc n) t) scope d ≡ calls has t scope d
  last_calls zero t scope d = right_nil (calls has t scope d)
  last_calls (suc n) t scope d = last_calls n t scope d

  none_calls : (n : ℕ) (scope : AbsolutePath) (d : Declarations) → calls_all has (last_target n Omitted) scope d ≡ []
  none_calls zero scope d = refl
  none_calls (suc n) scope d = last_calls n Omitted scope d

  -- the target that an operator takes is its last
  abbrev TakesIn : Option Plain → Type 0
  TakesIn None = Unit {0}
  TakesIn (Some op) = (n : ℕ) × ((row_of op).targets ≡ suc n)

  some_targets : (op : Plain) (n : ℕ) → (row_of op).targets ≡ n → TakesIn (if not (nat_eq n 0) then Some op else None)
  some_targets op zero e = tt
  some_targets op (suc n) e = let some : nat_eq (suc n) 0 ≡ false = grind (arith, nat_tests) in subst (λ c. TakesIn (if not c then Some op else None)) (sym some) (n, e)

  target_taken : (value : Tree) → TakesIn (target_operator value)
  target_taken (Operated (Plain.Number op) args) = some_targets (Plain.Number op) (row_of (Plain.Number op)).targets refl
  target_taken (Operated (Plain.Data op) args) = tt
  target_taken (Operated (Plain.Event op) args) = tt
  target_taken _ = tt

  compound_taken : (op : Compound) → (n : ℕ) × ((row_of (compound_operator op)).targets ≡ suc n)
  compound_taken Compound.Add = (0, refl)
  compound_taken Compound.Subtract = (0, refl)
  compound_taken Compound.Multiply = (0, refl)
  compound_taken Compound.Divide = (1, refl)
  compound_taken Compound.Mod = (0, refl)
  compound_taken Compound.ShiftLeft = (0, refl)
  compound_taken Compound.ShiftRight = (0, refl)
  compound_taken Compound.And = (0, refl)
  compound_taken Compound.Or = (0, refl)
  compound_taken Compound.Xor = (0, refl)

  given_calls : (t : Tree) (scope : AbsolutePath) (d : Declarations) → calls has (given t) scope d ≡ calls has t scope d
  given_calls Omitted scope d = refl
  given_calls t scope d = refl

  two_calls : (t u : Tree) (scope : AbsolutePath) (d e : Declarations) → e ≡ d → calls has t scope d ++ (calls has u scope e ++ []) ≡ calls has t scope d ++ calls has u scope d
  two_calls t u scope d e h = ap (λ cs. calls has t scope d ++ cs) (right_nil (calls has u scope e) ∙ ap (calls has u scope) h)

  assigned_calls : (o : Option Plain) (args : Trees) (target value : Tree) (scope : AbsolutePath) (d : Declarations) (first second : List (Option AbsolutePath × ℕ)) → TakesIn o → declare value scope d ≡ d →
      (IsGiven o → first_of_all (calls_all has args scope d) ≡ first_of_all first) → first_of_all (calls has value scope d) ≡ first_of_all first → first_of_all (calls has target scope d) ≡ first_of_all second →
      first_of_all (calls has (assigned o args target value) scope d) ≡ first_of_all (first ++ second)
  assigned_calls (Some op) args target value scope d first second taken e ha hv ht =
      ap (λ n. first_of_all (calls_all has args scope d ++ calls_all has (last_target n target) scope d)) taken.1
      ∙ ap (λ cs. first_of_all (calls_all has args scope d ++ cs)) (last_calls taken.0 target scope d)
      ∙ both (calls_all has args scope d) (calls has target scope d) first second (ha tt) ht
  assigned_calls None args target value scope d first second taken e ha hv ht =
      ap first_of_all (right_nil (calls has (given value) scope d ++ (calls has target scope (declare (given value) scope d) ++ []))
      ∙ two_calls (given value) target scope d (declare (given value) scope d) (given_declares value scope d ∙ e)
      ∙ ap (λ cs. cs ++ calls has target scope d) (given_calls value scope d))
      ∙ both (calls has value scope d) (calls has target scope d) first second hv ht

  assigned_by_calls : (op : Compound) (target value : Tree) (scope : AbsolutePath) (d : Declarations) (first second : List (Option AbsolutePath × ℕ)) → declare target scope d ≡ d →
      first_of_all (calls has target scope d) ≡ first_of_all first → first_of_all (calls has value scope d) ≡ first_of_all second →
      first_of_all (calls has (assigned_by op target value) scope d) ≡ first_of_all (first ++ second)
  assigned_by_calls op target value scope d first second e ht hv =
      let taken = compound_taken op in
      ap (λ n. first_of_all (calls_all has (tree (given target) (tree (given value) no_trees)) scope d ++ calls_all has (last_target n target) scope d)) taken.1
      ∙ ap (λ cs. first_of_all (calls_all has (tree (given target) (tree (given value) no_trees)) scope d ++ cs)) (last_calls taken.0 target scope d)
      ∙ ap (λ cs. first_of_all (cs ++ ts)) (two_calls (given target) (given value) scope d (declare (given target) scope d) (given_declares target scope d ∙ e)
      ∙ ap (λ cs. cs ++ calls has (given value) scope d) (given_calls target scope d) ∙ ap (λ cs. ts ++ cs) (given_calls value scope d))
      ∙ first_append (ts ++ vs) ts path
      ∙ ap (λ o. or_else o (first_of_all ts)) (first_append ts vs path)
      ∙ again (first_of_all ts) (first_of_all vs)
      ∙ sym (first_append ts vs path)
      ∙ both ts vs first second ht hv
    where
      ts : List (Option AbsolutePath × ℕ)
      ts = calls has target scope d

      vs : List (Option AbsolutePath × ℕ)
      vs = calls has value scope d

  mutual
    value_calls : (t : Tree) → is_value t ≡ true → (scope : AbsolutePath) (d : Declarations) → first_of_all (calls has (named t) scope d) ≡ first_of_all (calls has t scope d)
    value_calls (Call at name args) e scope d =
        ap (λ n. first_of_all ((denoted has name scope, n) ∷ calls_all has (named_all args) scope d)) (count_args args)
        ∙ both ((denoted has name scope, count args) ∷ []) (calls_all has (named_all args) scope d) ((denoted has name scope, count args) ∷ []) (calls_all has args scope d) refl (values_calls args e scope d)
    value_calls (Apply op args targets) e scope d =
        let vs = second_true (has_no_targets (spot_form op) targets) (are_values args && are_values targets) e in
        both (calls_all has (named_all args) scope d) (calls_all has (named_all targets) scope d) (calls_all has args scope d) (calls_all has targets scope d)
        (values_calls args (first_true (are_values args) (are_values targets) vs) scope d) (values_calls targets (second_true (are_values args) (are_values targets) vs) scope d)
    value_calls (Operated op args) e scope d =
        ap (λ cs. first_of_all (calls_all has (named_all args) scope d ++ cs)) (none_calls (row_of op).targets scope d)
        ∙ ap first_of_all (right_nil (calls_all has (named_all args) scope d)) ∙ values_calls args e scope d
    value_calls (Assigned target value) e scope d =
        let ht = first_true (is_value target) (is_value value) e in
        let hv = second_true (is_value target) (is_value value) e in
        assigned_calls (target_operator value) (inner_args value) (named target) (named value) scope d (calls has value scope d) (calls has target scope d) (target_taken value) (named_declares value scope d ∙ undeclared value hv scope d)
        (λ some. inner_calls value hv some scope d) (value_calls value hv scope d) (value_calls target ht scope d)
    value_calls (AssignedBy op target value) e scope d =
        let ht = first_true (is_value target) (is_value value) e in
        let hv = second_true (is_value target) (is_value value) e in
        assigned_by_calls op (named target) (named value) scope d (calls has target scope d) (calls has value scope d) (named_declares target scope d ∙ undeclared target ht scope d) (value_calls target ht scope d) (value_calls value hv scope d)
    value_calls (Buffer size bytes) e scope d = value_calls size e scope d
    value_calls (Package n elements) e scope d = values_calls elements e scope d
    value_calls (VarPackage size elements) e scope d =
        both (calls has (named size) scope d) (calls_all has (named_all elements) scope d) (calls has size scope d) (calls_all has elements scope d)
        (value_calls size (first_true (is_value size) (are_values elements) e) scope d) (values_calls elements (second_true (is_value size) (are_values elements) e) scope d)
    value_calls (CondRefOf place target) e scope d =
        both (calls has (named place) scope d) (calls has (named target) scope d) (calls has place scope d) (calls has target scope d)
        (value_calls place (first_true (is_value place) (is_value target) e) scope d) (value_calls target (second_true (is_value place) (is_value target) e) scope d)
    value_calls (Return value) e scope d = absurd cc
    value_calls (Name at name value) e scope d = absurd cc
    value_calls (Method at name flags body) e scope d = absurd cc
    value_calls (Container' kind at name body) e scope d = absurd cc
    value_calls (Scope here at name body) e scope d = absurd cc
    value_calls (If test body) e scope d = absurd cc
    value_calls (ElseIf test body) e scope d = absurd cc
    value_calls (Else body) e scope d = absurd cc
    value_calls (While test body) e scope d = absurd cc
    value_calls (For start test step body) e scope d = absurd cc
    value_calls (Print place format args) e scope d = absurd cc
    value_calls (Switch value cases) e scope d = absurd cc
    value_calls (Case value body) e scope d = absurd cc
    value_calls (Default body) e scope d = absurd cc
    value_calls (OperationRegion at name space args) e scope d = absurd cc
    value_calls (BankField here from region to bank value flags items) e scope d = absurd cc
    value_calls (CreateField form args at name) e scope d = absurd cc
    value_calls _ e scope d = refl

    inner_calls : (value : Tree) → is_value value ≡ true → IsGiven (target_operator value) → (scope : AbsolutePath) (d : Declarations) → first_of_all (calls_all has (inner_args value) scope d) ≡ first_of_all (calls has value scope d)
    inner_calls (Operated op args) e some scope d = values_calls args e scope d
    inner_calls _ e some scope d = absurd some

    values_calls : (ts : Trees) → are_values ts ≡ true → (scope : AbsolutePath) (d : Declarations) → first_of_all (calls_all has (named_all ts) scope d) ≡ first_of_all (calls_all has ts scope d)
    values_calls no_trees e scope d = refl
    values_calls (tree t ts) e scope d =
        ap (λ d'. first_of_all (calls has (named t) scope d ++ calls_all has (named_all ts) scope d')) (named_declares t scope d)
        ∙ both (calls has (named t) scope d) (calls_all has (named_all ts) scope (declare t scope d)) (calls has t scope d) (calls_all has ts scope (declare t scope d))
        (value_calls t (first_true (is_value t) (are_values ts) e) scope d) (values_calls ts (second_true (is_value t) (are_values ts) e) scope (declare t scope d))

  mutual
    term_calls : (t : Tree) → is_term t ≡ true → (scope : AbsolutePath) (d : Declarations) → first_of_all (calls has (named t) scope d) ≡ first_of_all (calls has t scope d)
    term_calls (Return value) e scope d = value_calls value e scope d
    term_calls (Name at name value) e scope d = value_calls value e scope d
    term_calls (Method at name flags body) e scope d = list_calls body e (declared_path name scope) (with_declared (declared_path name scope) (As (MethodObject flags)) d)
    term_calls (Container' kind at name body) e scope d = list_calls body e (declared_path name scope) (with_declared (declared_path name scope) (As (ContainerObject kind)) d)
    term_calls (Scope here at name body) e scope d = list_calls body e (scope_path d name scope) d
    term_calls (If test body) e scope d =
        both (calls has (named test) scope d) (calls_all has (named_all body) scope d) (calls has test scope d) (calls_all has body scope d) (value_calls test (first_true (is_value test) (are_terms body) e) scope d) (list_calls body (second_true (is_value test) (are_terms body) e) scope d)
    term_calls (ElseIf test body) e scope d =
        both (calls has (named test) scope d) (calls_all has (named_all body) scope d) (calls has test scope d) (calls_all has body scope d) (value_calls test (first_true (is_value test) (are_terms body) e) scope d) (list_calls body (second_true (is_value test) (are_terms body) e) scope d)
    term_calls (Else body) e scope d = list_calls body e scope d
    term_calls (While test body) e scope d =
        both (calls has (named test) scope d) (calls_all has (named_all body) scope d) (calls has test scope d) (calls_all has body scope d) (value_calls test (first_true (is_value test) (are_terms body) e) scope d) (list_calls body (second_true (is_value test) (are_terms body) e) scope d)
    term_calls (For start test step body) e scope d =
        let g = second_true (is_value start) (is_value test && (is_value step && are_terms body)) e in
        let h = second_true (is_value test) (is_value step && are_terms body) g in
        both (calls has (named start) scope d) (calls has (named test) scope d ++ (calls has (named step) scope d ++ calls_all has (named_all body) scope d)) (calls has start scope d) (calls has test scope d ++ (calls has step scope d ++ calls_all has body scope d)) (value_calls start (first_true (is_value start) (is_value test && (is_value step && are_terms body)) e) scope d)
        (both (calls has (named test) scope d) (calls has (named step) scope d ++ calls_all has (named_all body) scope d) (calls has test scope d) (calls has step scope d ++ calls_all has body scope d) (value_calls test (first_true (is_value test) (is_value step && are_terms body) g) scope d)
        (both (calls has (named step) scope d) (calls_all has (named_all body) scope d) (calls has step scope d) (calls_all has body scope d) (value_calls step (first_true (is_value step) (are_terms body) h) scope d) (list_calls body (second_true (is_value step) (are_terms body) h) scope d)))
    term_calls (Print place format args) e scope d =
        both (calls has (named place) scope d) (calls_all has (named_all args) scope d) (calls has place scope d) (calls_all has args scope d) (value_calls place (first_true (is_value place) (are_values args) e) scope d) (values_calls args (second_true (is_value place) (are_values args) e) scope d)
    term_calls (Switch value cases) e scope d =
        both (calls has (named value) scope d) (calls_all has (named_all cases) scope d) (calls has value scope d) (calls_all has cases scope d) (value_calls value (first_true (is_value value) (are_terms cases) e) scope d) (list_calls cases (second_true (is_value value) (are_terms cases) e) scope d)
    term_calls (Case value body) e scope d =
        both (calls has (named value) scope d) (calls_all has (named_all body) scope d) (calls has value scope d) (calls_all has body scope d) (value_calls value (first_true (is_value value) (are_terms body) e) scope d) (list_calls body (second_true (is_value value) (are_terms body) e) scope d)
    term_calls (Default body) e scope d = list_calls body e scope d
    term_calls (OperationRegion at name space args) e scope d = values_calls args e scope d
    term_calls (BankField here from region to bank value flags items) e scope d = value_calls value e scope d
    term_calls (CreateField form args at name) e scope d = values_calls args e scope d
    term_calls (Call at name args) e scope d = value_calls (Call at name args) e scope d
    term_calls (Apply op args targets) e scope d = value_calls (Apply op args targets) e scope d
    term_calls (Operated op args) e scope d = value_calls (Operated op args) e scope d
    term_calls (Assigned target value) e scope d = value_calls (Assigned target value) e scope d
    term_calls (AssignedBy op target value) e scope d = value_calls (AssignedBy op target value) e scope d
    term_calls (Buffer size bytes) e scope d = value_calls (Buffer size bytes) e scope d
    term_calls (Package n elements) e scope d = value_calls (Package n elements) e scope d
    term_calls (VarPackage size elements) e scope d = value_calls (VarPackage size elements) e scope d
    term_calls (CondRefOf place target) e scope d = value_calls (CondRefOf place target) e scope d
    term_calls _ e scope d = refl

    list_calls : (ts : Trees) → are_terms ts ≡ true → (scope : AbsolutePath) (d : Declarations) → first_of_all (calls_all has (named_all ts) scope d) ≡ first_of_all (calls_all has ts scope d)
    list_calls no_trees e scope d = refl
    list_calls (tree t ts) e scope d =
        ap (λ d'. first_of_all (calls has (named t) scope d ++ calls_all has (named_all ts) scope d')) (named_declares t scope d)
        ∙ both (calls has (named t) scope d) (calls_all has (named_all ts) scope (declare t scope d)) (calls has t scope d) (calls_all has ts scope (declare t scope d))
        (term_calls t (first_true (is_term t) (are_terms ts) e) scope d) (list_calls ts (second_true (is_term t) (are_terms ts) e) scope (declare t scope d))

-- each path is called first with as many arguments
pub same_first_call : (program : Trees) → are_terms program ≡ true → (has : AbsolutePath → Bool) (path : AbsolutePath) → first_call (calls_all has (named_all program) [] nothing_declared) path ≡ first_call (calls_all has program [] nothing_declared) path
same_first_call program e has path = list_calls has path program e [] nothing_declared

same_external : (cs cs' : List (AbsolutePath × ℕ)) → ((path : AbsolutePath) → lookup cs path ≡ lookup cs' path) → (entries : List (AbsolutePath × ExternalType)) → external_names cs entries ≡ external_names cs' entries
same_external cs cs' h [] = refl
same_external cs cs' h (entry ∷ entries) =
    ap (λ o. (entry.0, ExternalObject (external_object entry.1 o)) ∷ external_names cs entries) (h entry.0) ∙ ap (λ es. (entry.0, ExternalObject (external_object entry.1 (lookup cs' entry.0))) ∷ es) (same_external cs cs' h entries)

abbrev externals_by : Declarations → Trees → Names
externals_by d program = external_names (called (calls_all (is_named d) program [] nothing_declared)) d.external

-- the same objects of other tables
pub same_externals : (program : Trees) → are_terms program ≡ true → externals (named_all program) ≡ externals program
same_externals program e =
    ap (λ d. externals_by d (named_all program)) (same_declarations program)
    ∙ same_external _ _ (same_first_call program e (is_named (declarations program))) (declarations program).external

-- the paths of the block are the same
pub same_known : (program : Trees) → are_terms program ≡ true → known_of (named_all program) ≡ known_of program
same_known program e =
    ap (λ d. declared_kinds (is_named d) d.declared ++ as_known (externals (named_all program) ++ root_objects)) (same_declarations program)
    ∙ ap (λ names. declared_kinds (is_named (declarations program)) (declarations program).declared ++ as_known (names ++ root_objects)) (same_externals program e)
