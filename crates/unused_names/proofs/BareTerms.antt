-- Terms are terms whatever the numbers and the places of their nodes are.
use Rattle.std.proofs.Common.{◌≡◌, Bool, refl, ap, ◌∙◌}
use Rattle.std.specs.Prelude.{◌&&◌}
use Rattle.asl_tree.specs.Tree.{Tree, Call, Apply, Buffer, Package, VarPackage, CondRefOf, Return, Name, Alias, External, Method, Mutex, Event, Container', Scope, Trees, no_trees, tree, OperationRegion, Field, IndexField, BankField, CreateField, If, ElseIf, Else, While, For, Print, Operated, Assigned, AssignedBy, Switch, Case, Default}
use Rattle.asl_meaning.specs.Meaning.{SpotForm, OfInside, spot_form}
use Rattle.acpi_names.specs.Terms.{has_no_targets, is_value, are_values, is_term, are_terms}
use Rattle.unused_names.specs.Bare.{bare, bare_all}

same_both : (a b : Bool) {c e : Bool} → c ≡ a → e ≡ b → (c && e) ≡ (a && b)
same_both a b {e = e} h k = ap (λ x. x && e) h ∙ ap (λ x. a && x) k

targets_same : (form : SpotForm) (ts : Trees) → has_no_targets form (bare_all ts) ≡ has_no_targets form ts
targets_same OfInside no_trees = refl
targets_same OfInside (tree t ts) = refl
targets_same form ts = refl

mutual
  value_same : (t : Tree) → is_value (bare t) ≡ is_value t
  value_same (Call at name args) = values_same args
  value_same (Apply op args targets) =
      same_both (has_no_targets (spot_form op) targets) (are_values args && are_values targets) (targets_same (spot_form op) targets) (same_both (are_values args) (are_values targets) (values_same args) (values_same targets))
  value_same (Operated op args) = values_same args
  value_same (Assigned target value) = same_both (is_value target) (is_value value) (value_same target) (value_same value)
  value_same (AssignedBy op target value) = same_both (is_value target) (is_value value) (value_same target) (value_same value)
  value_same (Buffer size bytes) = value_same size
  value_same (Package n elements) = values_same elements
  value_same (VarPackage size elements) = same_both (is_value size) (are_values elements) (value_same size) (values_same elements)
  value_same (CondRefOf place target) = same_both (is_value place) (is_value target) (value_same place) (value_same target)
  value_same _ = refl

  values_same : (ts : Trees) → are_values (bare_all ts) ≡ are_values ts
  values_same no_trees = refl
  values_same (tree t ts) = same_both (is_value t) (are_values ts) (value_same t) (values_same ts)

mutual
  term_same : (t : Tree) → is_term (bare t) ≡ is_term t
  term_same (Return value) = value_same value
  term_same (Name at name value) = value_same value
  term_same (Alias from source at name) = refl
  term_same (External here at name type parameters) = refl
  term_same (Method at name flags body) = terms_same body
  term_same (Mutex at name level) = refl
  term_same (Event at name) = refl
  term_same (Container' kind at name body) = terms_same body
  term_same (Scope here at name body) = terms_same body
  term_same (If test body) = same_both (is_value test) (are_terms body) (value_same test) (terms_same body)
  term_same (ElseIf test body) = same_both (is_value test) (are_terms body) (value_same test) (terms_same body)
  term_same (Else body) = terms_same body
  term_same (While test body) = same_both (is_value test) (are_terms body) (value_same test) (terms_same body)
  term_same (For start test step body) =
      same_both (is_value start) (is_value test && (is_value step && are_terms body)) (value_same start)
      (same_both (is_value test) (is_value step && are_terms body) (value_same test) (same_both (is_value step) (are_terms body) (value_same step) (terms_same body)))
  term_same (Print place format args) = same_both (is_value place) (are_values args) (value_same place) (values_same args)
  term_same (Switch value cases) = same_both (is_value value) (are_terms cases) (value_same value) (terms_same cases)
  term_same (Case value body) = same_both (is_value value) (are_terms body) (value_same value) (terms_same body)
  term_same (Default body) = terms_same body
  term_same (OperationRegion at name space args) = values_same args
  term_same (Field here from region flags items) = refl
  term_same (IndexField here from index to register flags items) = refl
  term_same (BankField here from region to bank value flags items) = value_same value
  term_same (CreateField form args at name) = values_same args
  term_same t = value_same t

  pub terms_same : (ts : Trees) → are_terms (bare_all ts) ≡ are_terms ts
  terms_same no_trees = refl
  terms_same (tree t ts) = same_both (is_term t) (are_terms ts) (term_same t) (terms_same ts)
