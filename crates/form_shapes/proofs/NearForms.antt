-- A form with near Continues in its braces has near Continues, where those of a For do not leave a container in it.
use Rattle.std.proofs.Common.{◌≡◌, ℕ, Bool, true, false, List, Option, Some, None, refl}
use Rattle.std.specs.Prelude.{nat_le, if◌then◌else◌}
use Rattle.acpi_values.specs.Operators.{Row, row_of}
use Rattle.acpi_values.specs.declared.operator.IntOp.TheVariants as IntOp
use Rattle.acpi_values.specs.declared.operator.Plain.{Plain}
use Rattle.acpi_state.specs.Outcomes.{choose}
use Rattle.asl_tree.specs.FieldItems.{FieldItem}
use Rattle.asl_tree.specs.declared.term.Op.{Op}
use Rattle.asl_tree.specs.declared.term.Declaration.TheVariants as Declaration
use Rattle.asl_tree.specs.declared.term.Control.TheVariants as Control
use Rattle.asl_tree.specs.declared.term.Special.TheVariants as Special
use Rattle.asl_tree.specs.declared.term.Symbolic.TheVariants as Symbolic
use Rattle.asl_tree.specs.Tree.{At, Tree, Integer, String, Use, Omitted, Package, VarPackage, Misshapen, Trees, no_trees, tree, count, UnitName}
use Rattle.asl_tree.specs.View.{fits, form, operands_as, apply_of, operated, buffer, body_bytes, packaged, items_in}
use Rattle.asl_prints.specs.Forms.{have_far_continue}
use Rattle.form_shapes.specs.Near.{IsNear, AreNear}

abbrev pub is_for : Op → Bool
is_for (Op.Control Control.For) = true
is_for _ = false

near_apply : (op : Plain) (args : Trees) → IsNear (apply_of op args)
near_apply (Plain.Number IntOp.LNotEqual) args = tt
near_apply (Plain.Number IntOp.LLessEqual) args = tt
near_apply (Plain.Number IntOp.LGreaterEqual) args = tt
near_apply op args = tt

near_operated : (op : Plain) (args : Trees) → IsNear (operated op args)
near_operated (Plain.Number IntOp.LNotEqual) args = tt
near_operated (Plain.Number IntOp.LLessEqual) args = tt
near_operated (Plain.Number IntOp.LGreaterEqual) args = tt
near_operated op args = tt

near_symbol : (c : Bool) (op : Plain) (args : Trees) → IsNear (if c then operated op args else Misshapen)
near_symbol true op args = near_operated op args
near_symbol false op args = tt

near_buffer : (size : Tree) (bytes : List ℕ) → IsNear (buffer size bytes)
near_buffer Omitted bytes = tt
near_buffer size bytes = tt

near_counted : (c : Bool) (n : ℕ) (elements : Trees) → IsNear (if c then Package n elements else VarPackage (Integer n) elements)
near_counted true n elements = tt
near_counted false n elements = tt

near_packaged : (size : Tree) (elements : Trees) → IsNear (packaged size elements)
near_packaged Omitted elements = near_counted (nat_le (count elements) 255) (count elements) elements
near_packaged (Integer n) elements = near_counted (nat_le n 255) n elements
near_packaged size elements = tt

near_items : (o : Option (List (FieldItem UnitName))) (made : List (FieldItem UnitName) → Tree) → ((items : List (FieldItem UnitName)) → IsNear (made items)) → IsNear (choose o Misshapen made)
near_items None made h = tt
near_items (Some items) made h = h items

pub near_form : (at : At) (op : Op) (args body : Trees) → AreNear body → (is_for op ≡ true → have_far_continue body ≡ false) → IsNear (form at op args body)
near_form here (Op.Declaration Declaration.Name) (tree (Use at name) (tree value no_trees)) no_trees n far = tt
near_form here (Op.Declaration Declaration.Alias) (tree (Use from source) (tree (Use at name) no_trees)) no_trees n far = tt
near_form here (Op.Declaration Declaration.External) (tree (Use at name) (tree (Integer type) no_trees)) no_trees n far = tt
near_form here (Op.Declaration Declaration.External) (tree (Use at name) (tree (Integer type) (tree (Integer parameters) no_trees))) no_trees n far = tt
near_form here (Op.Declaration Declaration.Method) (tree (Use at name) (tree (Integer arity) no_trees)) body n far = n
near_form here (Op.Declaration Declaration.Mutex) (tree (Use at name) (tree (Integer level) no_trees)) no_trees n far = tt
near_form here (Op.Declaration Declaration.Event) (tree (Use at name) no_trees) no_trees n far = tt
near_form here (Op.Declaration Declaration.Device) (tree (Use at name) no_trees) body n far = n
near_form here (Op.Declaration Declaration.ThermalZone) (tree (Use at name) no_trees) body n far = n
near_form here (Op.Declaration Declaration.PowerResource) (tree (Use at name) (tree (Integer level) (tree (Integer order) no_trees))) body n far = n
near_form here (Op.Declaration Declaration.Processor) (tree (Use at name) (tree (Integer number) (tree (Integer address) (tree (Integer size) no_trees)))) body n far = n
near_form here (Op.Declaration Declaration.Scope) (tree (Use at name) no_trees) body n far = n
near_form here (Op.Declaration Declaration.OperationRegion) (tree (Use at name) (tree (Integer space) (tree offset (tree size no_trees)))) no_trees n far = tt
near_form here (Op.Declaration Declaration.Field) (tree (Use from region) (tree (Integer flags) no_trees)) body n far = near_items (items_in body) _ (λ items. tt)
near_form here (Op.Declaration Declaration.IndexField) (tree (Use from index) (tree (Use to register) (tree (Integer flags) no_trees))) body n far = near_items (items_in body) _ (λ items. tt)
near_form here (Op.Declaration Declaration.BankField) (tree (Use from region) (tree (Use to bank) (tree value (tree (Integer flags) no_trees)))) body n far = near_items (items_in body) _ (λ items. tt)
near_form here (Op.Declaration Declaration.CreateField) (tree source (tree index (tree bits (tree (Use at name) no_trees)))) no_trees n far = tt
near_form here (Op.Declaration Declaration.CreateBitField) (tree source (tree index (tree (Use at name) no_trees))) no_trees n far = tt
near_form here (Op.Declaration Declaration.CreateByteField) (tree source (tree index (tree (Use at name) no_trees))) no_trees n far = tt
near_form here (Op.Declaration Declaration.CreateWordField) (tree source (tree index (tree (Use at name) no_trees))) no_trees n far = tt
near_form here (Op.Declaration Declaration.CreateDWordField) (tree source (tree index (tree (Use at name) no_trees))) no_trees n far = tt
near_form here (Op.Declaration Declaration.CreateQWordField) (tree source (tree index (tree (Use at name) no_trees))) no_trees n far = tt
near_form here (Op.Control Control.Return) (tree value no_trees) no_trees n far = tt
near_form here (Op.Control Control.If) (tree test no_trees) body n far = n
near_form here (Op.Control Control.ElseIf) (tree test no_trees) body n far = n
near_form here (Op.Control Control.Else) no_trees body n far = n
near_form here (Op.Control Control.While) (tree test no_trees) body n far = n
near_form here (Op.Control Control.For) (tree start (tree test (tree step no_trees))) body n far = (far refl, n)
near_form here (Op.Control Control.Switch) (tree value no_trees) cases n far = n
near_form here (Op.Control Control.Case) (tree value no_trees) body n far = n
near_form here (Op.Control Control.Default) no_trees body n far = n
near_form here (Op.Control Control.Break) no_trees no_trees n far = tt
near_form here (Op.Control Control.Continue) no_trees no_trees n far = tt
near_form here (Op.Control Control.Printf) (tree (String format) args) no_trees n far = tt
near_form here (Op.Control Control.Fprintf) (tree place (tree (String format) args)) no_trees n far = tt
near_form here (Op.Literal literal) no_trees no_trees n far = tt
near_form here (Op.Plain op) args no_trees n far = near_apply op args
near_form here (Op.Special Special.CondRefOf) (tree place (tree target no_trees)) no_trees n far = tt
near_form here (Op.Special Special.Buffer) (tree size no_trees) body n far = near_buffer size (body_bytes body)
near_form here (Op.Special Special.Package) (tree size no_trees) body n far = near_packaged size body
near_form here (Op.Symbolic (Symbolic.Operator op)) args no_trees n far = near_symbol (fits (row_of op).operands args) op (operands_as (row_of op).operands args)
near_form here (Op.Symbolic Symbolic.Assign) (tree target (tree value no_trees)) no_trees n far = tt
near_form here (Op.Symbolic (Symbolic.AssignBy op)) (tree target (tree value no_trees)) no_trees n far = tt
near_form here _ _ _ n far = tt
