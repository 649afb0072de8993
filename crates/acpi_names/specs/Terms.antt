-- Where expressions stand and where terms: no term that declares, and no statement, stands inside an expression.
use Rattle.std.specs.Prelude.{Bool, true, false, ◌&&◌}
use Rattle.asl_tree.specs.Tree.{Tree, Call, Apply, Buffer, Package, VarPackage, CondRefOf, Return, Name, Alias, External, Method, Mutex}
use Rattle.asl_tree.specs.Tree.{Event, Container', Scope, Trees, no_trees, tree, OperationRegion, Field, IndexField, BankField}
use Rattle.asl_tree.specs.Tree.{CreateField, If, ElseIf, Else, While, For, Print, Operated, Assigned, AssignedBy, Switch, Case, Default}
use Rattle.asl_meaning.specs.Meaning.{SpotForm, OfInside, spot_form}

-- an operator that leads to the place which its operand refers to has no targets
abbrev pub has_no_targets : SpotForm → Trees → Bool
has_no_targets OfInside (tree t ts) = false
has_no_targets form targets = true

abbrev mutual
  pub is_value : Tree → Bool
  is_value (Call at name args) = are_values args
  is_value (Apply op args targets) = has_no_targets (spot_form op) targets && (are_values args && are_values targets)
  is_value (Operated op args) = are_values args
  is_value (Assigned target value) = is_value target && is_value value
  is_value (AssignedBy op target value) = is_value target && is_value value
  is_value (Buffer size bytes) = is_value size
  is_value (Package n elements) = are_values elements
  is_value (VarPackage size elements) = is_value size && are_values elements
  is_value (CondRefOf place target) = is_value place && is_value target
  is_value (Return value) = false
  is_value (Name at name value) = false
  is_value (Alias from source at name) = false
  is_value (External here at name type parameters) = false
  is_value (Method at name flags body) = false
  is_value (Mutex at name level) = false
  is_value (Event at name) = false
  is_value (Container' kind at name body) = false
  is_value (Scope here at name body) = false
  is_value (If test body) = false
  is_value (ElseIf test body) = false
  is_value (Else body) = false
  is_value (While test body) = false
  is_value (For start test step body) = false
  is_value (Print place format args) = false
  is_value (Switch value cases) = false
  is_value (Case value body) = false
  is_value (Default body) = false
  is_value (OperationRegion at name space args) = false
  is_value (Field here from region flags items) = false
  is_value (IndexField here from index to register flags items) = false
  is_value (BankField here from region to bank value flags items) = false
  is_value (CreateField form args at name) = false
  is_value t = true

  pub are_values : Trees → Bool
  are_values no_trees = true
  are_values (tree t ts) = is_value t && are_values ts

abbrev mutual
  pub is_term : Tree → Bool
  is_term (Return value) = is_value value
  is_term (Name at name value) = is_value value
  is_term (Alias from source at name) = true
  is_term (External here at name type parameters) = true
  is_term (Method at name flags body) = are_terms body
  is_term (Mutex at name level) = true
  is_term (Event at name) = true
  is_term (Container' kind at name body) = are_terms body
  is_term (Scope here at name body) = are_terms body
  is_term (If test body) = is_value test && are_terms body
  is_term (ElseIf test body) = is_value test && are_terms body
  is_term (Else body) = are_terms body
  is_term (While test body) = is_value test && are_terms body
  is_term (For start test step body) = is_value start && (is_value test && (is_value step && are_terms body))
  is_term (Print place format args) = is_value place && are_values args
  is_term (Switch value cases) = is_value value && are_terms cases
  is_term (Case value body) = is_value value && are_terms body
  is_term (Default body) = are_terms body
  is_term (OperationRegion at name space args) = are_values args
  is_term (Field here from region flags items) = true
  is_term (IndexField here from index to register flags items) = true
  is_term (BankField here from region to bank value flags items) = is_value value
  is_term (CreateField form args at name) = are_values args
  is_term t = is_value t

  pub are_terms : Trees → Bool
  are_terms no_trees = true
  are_terms (tree t ts) = is_term t && are_terms ts
