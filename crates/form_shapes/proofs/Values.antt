-- An expression has nothing in it for which something else stands.
use Rattle.std.proofs.Common.{◌≡◌, true, refl, ap, ◌∙◌, arith}
use Rattle.std.specs.Prelude.{◌&&◌}
use Rattle.asl_meaning.specs.Meaning.{spot_form}
use Rattle.asl_tree.specs.Tree.{Tree, Call, Apply, Operated, Assigned, AssignedBy, Buffer, Package, VarPackage, CondRefOf, Return, Name, Method, Container', Scope, If, ElseIf, Else, While, For, Print, Switch, Case, Default, OperationRegion, BankField, CreateField, Trees, no_trees, tree}
use Rattle.acpi_names.specs.Terms.{has_no_targets, is_value, are_values}
use Rattle.acpi_names.proofs.Mentions.{first_true, second_true}
use Rattle.asl_prints.specs.Forms.{formed, formed_args}

mutual
  pub value_same : (t : Tree) → is_value t ≡ true → formed t ≡ t
  value_same (Call at name args) e = ap (Call at name) (args_same args e)
  value_same (Apply op args targets) e =
      let both = second_true (has_no_targets (spot_form op) targets) (are_values args && are_values targets) e in
      ap (λ ts. Apply op ts (formed_args targets)) (args_same args (first_true (are_values args) (are_values targets) both))
      ∙ ap (Apply op args) (args_same targets (second_true (are_values args) (are_values targets) both))
  value_same (Operated op args) e = ap (Operated op) (args_same args e)
  value_same (Assigned target value) e =
      ap (λ t. Assigned t (formed value)) (value_same target (first_true (is_value target) (is_value value) e)) ∙ ap (Assigned target) (value_same value (second_true (is_value target) (is_value value) e))
  value_same (AssignedBy op target value) e =
      ap (λ t. AssignedBy op t (formed value)) (value_same target (first_true (is_value target) (is_value value) e))
      ∙ ap (AssignedBy op target) (value_same value (second_true (is_value target) (is_value value) e))
  value_same (Buffer size bytes) e = ap (λ t. Buffer t bytes) (value_same size e)
  value_same (Package n elements) e = ap (Package n) (args_same elements e)
  value_same (VarPackage size elements) e =
      ap (λ t. VarPackage t (formed_args elements)) (value_same size (first_true (is_value size) (are_values elements) e))
      ∙ ap (VarPackage size) (args_same elements (second_true (is_value size) (are_values elements) e))
  value_same (CondRefOf place target) e =
      ap (λ t. CondRefOf t (formed target)) (value_same place (first_true (is_value place) (is_value target) e)) ∙ ap (CondRefOf place) (value_same target (second_true (is_value place) (is_value target) e))
  value_same (Return value) e = absurd (grind arith)
  value_same (Name at name value) e = absurd (grind arith)
  value_same (Method at name flags body) e = absurd (grind arith)
  value_same (Container' kind at name body) e = absurd (grind arith)
  value_same (Scope here at name body) e = absurd (grind arith)
  value_same (If test body) e = absurd (grind arith)
  value_same (ElseIf test body) e = absurd (grind arith)
  value_same (Else body) e = absurd (grind arith)
  value_same (While test body) e = absurd (grind arith)
  value_same (For start test step body) e = absurd (grind arith)
  value_same (Print place format args) e = absurd (grind arith)
  value_same (Switch value cases) e = absurd (grind arith)
  value_same (Case value body) e = absurd (grind arith)
  value_same (Default body) e = absurd (grind arith)
  value_same (OperationRegion at name space args) e = absurd (grind arith)
  value_same (BankField here from region to bank value flags items) e = absurd (grind arith)
  value_same (CreateField form args at name) e = absurd (grind arith)
  value_same t e = refl

  pub args_same : (ts : Trees) → are_values ts ≡ true → formed_args ts ≡ ts
  args_same no_trees e = refl
  args_same (tree t ts) e = ap (λ u. tree u (formed_args ts)) (value_same t (first_true (is_value t) (are_values ts) e)) ∙ ap (tree t) (args_same ts (second_true (is_value t) (are_values ts) e))
