-- Forms that stay, with loops in their braces.
use Rattle.std.proofs.Common.{◌≡◌, ℕ, Bool, true, false, List, Option, Some, None, refl}
use Rattle.std.specs.Prelude.{nat_le, if◌then◌else◌}
use Rattle.asl_tree.specs.FieldItems.{FieldItem}
use Rattle.asl_tree.specs.View.{fits, operands_as, operated, symbol_of, form, apply_of, buffer, body_bytes, packaged, counted, items_in}
use Rattle.acpi_values.specs.declared.operator.IntOp.{IntOp}
use Rattle.acpi_values.specs.declared.operator.Plain.{Plain}
use Rattle.acpi_values.specs.Operators.{row_of}
use Rattle.asl_tree.specs.declared.term.Op.{Op}
use Rattle.asl_tree.specs.declared.term.Declaration.TheVariants as Declaration
use Rattle.asl_tree.specs.declared.term.Control.TheVariants as Control
use Rattle.asl_tree.specs.declared.term.Special.TheVariants as Special
use Rattle.asl_tree.specs.declared.term.Symbolic.TheVariants as Symbolic
use Rattle.acpi_state.specs.Outcomes.{choose}
use Rattle.asl_tree.specs.Tree.{At, Tree, Integer, String, Omitted, Use, Package, VarPackage, Misshapen, Trees, no_trees, tree, count, Field, IndexField, BankField, UnitName}
use Rattle.switch_loops.specs.Kinds.{form_kind}
use Rattle.switch_loops.specs.Links.{put, in_braces}
use Rattle.switch_loops.specs.declared.kind.TermRole.{TermRole}

module _ (flag : ℕ) (values : List ℕ) (inside : Bool) where
  put_items : (o : Option (List (FieldItem UnitName))) (made : List (FieldItem UnitName) → Tree) → ((items : List (FieldItem UnitName)) → (rest : Trees) → put flag values inside (made items) rest ≡ tree (made items) rest) → (rest : Trees) → put flag values inside (choose o Misshapen made) rest ≡ tree (choose o Misshapen made) rest
  put_items None made h rest = refl
  put_items (Some items) made h rest = h items rest

  put_apply : (op : Plain) (args : Trees) → (rest : Trees) → put flag values inside (apply_of op args) rest ≡ tree (apply_of op args) rest
  put_apply (Plain.Number IntOp.LNotEqual) args rest = refl
  put_apply (Plain.Number IntOp.LLessEqual) args rest = refl
  put_apply (Plain.Number IntOp.LGreaterEqual) args rest = refl
  put_apply op args rest = refl

  put_operated : (op : Plain) (args : Trees) → (rest : Trees) → put flag values inside (operated op args) rest ≡ tree (operated op args) rest
  put_operated (Plain.Number IntOp.LNotEqual) args rest = refl
  put_operated (Plain.Number IntOp.LLessEqual) args rest = refl
  put_operated (Plain.Number IntOp.LGreaterEqual) args rest = refl
  put_operated op args rest = refl

  put_symbol : (op : Plain) (args : Trees) → (rest : Trees) → put flag values inside (symbol_of op args) rest ≡ tree (symbol_of op args) rest
  put_symbol op args rest = by_fit (fits (row_of op).operands args) rest
    where
      by_fit : (c : Bool) (rest : Trees) → put flag values inside (if c then operated op (operands_as (row_of op).operands args) else Misshapen) rest ≡ tree (if c then operated op (operands_as (row_of op).operands args) else Misshapen) rest
      by_fit true rest = put_operated op (operands_as (row_of op).operands args) rest
      by_fit false rest = refl

  put_buffer : (size : Tree) (bytes : List ℕ) → (rest : Trees) → put flag values inside (buffer size bytes) rest ≡ tree (buffer size bytes) rest
  put_buffer Omitted bytes rest = refl
  put_buffer size bytes rest = refl

  put_counted : (n : ℕ) (elements : Trees) → (rest : Trees) → put flag values inside (counted n elements) rest ≡ tree (counted n elements) rest
  put_counted n elements rest = by_less (nat_le n 255) rest
    where
      by_less : (c : Bool) (rest : Trees) → put flag values inside (if c then Package n elements else VarPackage (Integer n) elements) rest ≡ tree (if c then Package n elements else VarPackage (Integer n) elements) rest
      by_less true rest = refl
      by_less false rest = refl

  put_packaged : (size : Tree) (elements : Trees) → (rest : Trees) → put flag values inside (packaged size elements) rest ≡ tree (packaged size elements) rest
  put_packaged Omitted elements rest = put_counted (count elements) elements rest
  put_packaged (Integer n) elements rest = put_counted n elements rest
  put_packaged size elements rest = refl

  pub put_form : (at : At) (op : Op) (args body : Trees) → (form_kind op args body ≡ TermRole.Switch → ⊥) → (form_kind op args body ≡ TermRole.Continue → ⊥) → (rest : Trees) → put flag values inside (form at op args body) rest ≡ tree (form at op args (in_braces flag values inside op body)) rest
  put_form here (Op.Declaration Declaration.Name) (tree (Use at name) (tree value no_trees)) no_trees no_switch no_continue rest = refl
  put_form here (Op.Declaration Declaration.Alias) (tree (Use from source) (tree (Use at name) no_trees)) no_trees no_switch no_continue rest = refl
  put_form here (Op.Declaration Declaration.External) (tree (Use at name) (tree (Integer type) no_trees)) no_trees no_switch no_continue rest = refl
  put_form here (Op.Declaration Declaration.External) (tree (Use at name) (tree (Integer type) (tree (Integer count) no_trees))) no_trees no_switch no_continue rest = refl
  put_form here (Op.Declaration Declaration.Method) (tree (Use at name) (tree (Integer arity) no_trees)) body no_switch no_continue rest = refl
  put_form here (Op.Declaration Declaration.Mutex) (tree (Use at name) (tree (Integer level) no_trees)) no_trees no_switch no_continue rest = refl
  put_form here (Op.Declaration Declaration.Event) (tree (Use at name) no_trees) no_trees no_switch no_continue rest = refl
  put_form here (Op.Declaration Declaration.Device) (tree (Use at name) no_trees) body no_switch no_continue rest = refl
  put_form here (Op.Declaration Declaration.ThermalZone) (tree (Use at name) no_trees) body no_switch no_continue rest = refl
  put_form here (Op.Declaration Declaration.PowerResource) (tree (Use at name) (tree (Integer level) (tree (Integer order) no_trees))) body no_switch no_continue rest = refl
  put_form here (Op.Declaration Declaration.Processor) (tree (Use at name) (tree (Integer number) (tree (Integer address) (tree (Integer size) no_trees)))) body no_switch no_continue rest = refl
  put_form here (Op.Declaration Declaration.Scope) (tree (Use at name) no_trees) body no_switch no_continue rest = refl
  put_form here (Op.Declaration Declaration.OperationRegion) (tree (Use at name) (tree (Integer space) (tree offset (tree size no_trees)))) no_trees no_switch no_continue rest = refl
  put_form here (Op.Declaration Declaration.Field) (tree (Use from region) (tree (Integer flags) no_trees)) body no_switch no_continue rest = put_items (items_in body) (λ items. Field here from region flags items) (λ items rest. refl) rest
  put_form here (Op.Declaration Declaration.IndexField) (tree (Use from index) (tree (Use to register) (tree (Integer flags) no_trees))) body no_switch no_continue rest = put_items (items_in body) (λ items. IndexField here from index to register flags items) (λ items rest. refl) rest
  put_form here (Op.Declaration Declaration.BankField) (tree (Use from region) (tree (Use to bank) (tree value (tree (Integer flags) no_trees)))) body no_switch no_continue rest = put_items (items_in body) (λ items. BankField here from region to bank value flags items) (λ items rest. refl) rest
  put_form here (Op.Declaration Declaration.CreateField) (tree source (tree index (tree bits (tree (Use at name) no_trees)))) no_trees no_switch no_continue rest = refl
  put_form here (Op.Declaration Declaration.CreateBitField) (tree source (tree index (tree (Use at name) no_trees))) no_trees no_switch no_continue rest = refl
  put_form here (Op.Declaration Declaration.CreateByteField) (tree source (tree index (tree (Use at name) no_trees))) no_trees no_switch no_continue rest = refl
  put_form here (Op.Declaration Declaration.CreateWordField) (tree source (tree index (tree (Use at name) no_trees))) no_trees no_switch no_continue rest = refl
  put_form here (Op.Declaration Declaration.CreateDWordField) (tree source (tree index (tree (Use at name) no_trees))) no_trees no_switch no_continue rest = refl
  put_form here (Op.Declaration Declaration.CreateQWordField) (tree source (tree index (tree (Use at name) no_trees))) no_trees no_switch no_continue rest = refl
  put_form here (Op.Control Control.Return) (tree value no_trees) no_trees no_switch no_continue rest = refl
  put_form here (Op.Control Control.If) (tree test no_trees) body no_switch no_continue rest = refl
  put_form here (Op.Control Control.ElseIf) (tree test no_trees) body no_switch no_continue rest = refl
  put_form here (Op.Control Control.Else) no_trees body no_switch no_continue rest = refl
  put_form here (Op.Control Control.While) (tree test no_trees) body no_switch no_continue rest = refl
  put_form here (Op.Control Control.For) (tree start (tree test (tree step no_trees))) body no_switch no_continue rest = refl
  put_form here (Op.Control Control.Printf) (tree (String format) args) no_trees no_switch no_continue rest = refl
  put_form here (Op.Control Control.Fprintf) (tree place (tree (String format) args)) no_trees no_switch no_continue rest = refl
  put_form here (Op.Control Control.Switch) (tree value no_trees) cases no_switch no_continue rest = absurd (no_switch refl)
  put_form here (Op.Control Control.Case) (tree value no_trees) body no_switch no_continue rest = refl
  put_form here (Op.Control Control.Default) no_trees body no_switch no_continue rest = refl
  put_form here (Op.Control Control.Break) no_trees no_trees no_switch no_continue rest = refl
  put_form here (Op.Control Control.Continue) no_trees no_trees no_switch no_continue rest = absurd (no_continue refl)
  put_form here (Op.Literal literal) no_trees no_trees no_switch no_continue rest = refl
  put_form here (Op.Plain op) args no_trees no_switch no_continue rest = put_apply op args rest
  put_form here (Op.Special Special.CondRefOf) (tree place (tree target no_trees)) no_trees no_switch no_continue rest = refl
  put_form here (Op.Special Special.Buffer) (tree size no_trees) body no_switch no_continue rest = put_buffer size (body_bytes body) rest
  put_form here (Op.Special Special.Package) (tree size no_trees) body no_switch no_continue rest = put_packaged size body rest
  put_form here (Op.Symbolic (Symbolic.Operator op)) args no_trees no_switch no_continue rest = put_symbol op args rest
  put_form here (Op.Symbolic Symbolic.Assign) (tree target (tree value no_trees)) no_trees no_switch no_continue rest = refl
  put_form here (Op.Symbolic (Symbolic.AssignBy op)) (tree target (tree value no_trees)) no_trees no_switch no_continue rest = refl
  put_form here _ _ _ no_switch no_continue rest = refl
