-- No form is a target that is left out.
use Rattle.std.proofs.Common.{◌≡◌, ℕ, Bool, true, false, List, Option, Some, None, refl}
use Rattle.std.specs.Prelude.{nat_le, if◌then◌else◌}
use Rattle.asl_tree.specs.FieldItems.{FieldItem}
use Rattle.asl_tree.specs.View.{fits, operands_as, operated, symbol_of, form, apply_of, buffer, body_bytes, packaged, counted, items_in}
use Rattle.acpi_values.specs.declared.operator.IntOp.{IntOp}
use Rattle.acpi_values.specs.declared.operator.Plain.{Plain}
use Rattle.acpi_values.specs.Operators.{row_of}
use Rattle.asl_tree.specs.declared.term.Op.{Op}
use Rattle.asl_tree.specs.declared.term.Declaration.TheVariants as Declaration
use Rattle.asl_tree.specs.declared.term.Control.TheVariants as Control
use Rattle.asl_tree.specs.declared.term.Special.TheVariants as Special
use Rattle.asl_tree.specs.declared.term.Symbolic.TheVariants as Symbolic
use Rattle.acpi_state.specs.Outcomes.{choose}
use Rattle.asl_tree.specs.Tree.{At, Tree, Integer, String, Omitted, Use, Package, VarPackage, Misshapen, Trees, no_trees, tree, count, Field, IndexField, BankField, UnitName}
use Rattle.asl_lower.specs.Nodes.{given}

abbrev is_there : Tree → Bool
is_there Omitted = false
is_there _ = true

there_given : (t : Tree) → is_there t ≡ true → given t ≡ t
there_given Omitted e = absurd cc
there_given t e = refl

by_items : (o : Option (List (FieldItem UnitName))) (made : List (FieldItem UnitName) → Tree) → ((items : List (FieldItem UnitName)) → is_there (made items) ≡ true) → is_there (choose o Misshapen made) ≡ true
by_items None made h = refl
by_items (Some items) made h = h items

there_apply : (op : Plain) (args : Trees) → is_there (apply_of op args) ≡ true
there_apply (Plain.Number IntOp.LNotEqual) args = refl
there_apply (Plain.Number IntOp.LLessEqual) args = refl
there_apply (Plain.Number IntOp.LGreaterEqual) args = refl
there_apply op args = refl

there_operated : (op : Plain) (args : Trees) → is_there (operated op args) ≡ true
there_operated (Plain.Number IntOp.LNotEqual) args = refl
there_operated (Plain.Number IntOp.LLessEqual) args = refl
there_operated (Plain.Number IntOp.LGreaterEqual) args = refl
there_operated op args = refl

there_symbol : (op : Plain) (args : Trees) → is_there (symbol_of op args) ≡ true
there_symbol op args = by_fit (fits (row_of op).operands args)
  where
    by_fit : (c : Bool) → is_there (if c then operated op (operands_as (row_of op).operands args) else Misshapen) ≡ true
    by_fit true = there_operated op (operands_as (row_of op).operands args)
    by_fit false = refl

there_buffer : (size : Tree) (bytes : List ℕ) → is_there (buffer size bytes) ≡ true
there_buffer Omitted bytes = refl
there_buffer size bytes = refl

there_counted : (n : ℕ) (elements : Trees) → is_there (counted n elements) ≡ true
there_counted n elements = by_less (nat_le n 255)
  where
    by_less : (c : Bool) → is_there (if c then Package n elements else VarPackage (Integer n) elements) ≡ true
    by_less true = refl
    by_less false = refl

there_packaged : (size : Tree) (elements : Trees) → is_there (packaged size elements) ≡ true
there_packaged Omitted elements = there_counted (count elements) elements
there_packaged (Integer n) elements = there_counted n elements
there_packaged size elements = refl

there_form : (at : At) (op : Op) (args body : Trees) → is_there (form at op args body) ≡ true
there_form here (Op.Declaration Declaration.Name) (tree (Use at name) (tree value no_trees)) no_trees = refl
there_form here (Op.Declaration Declaration.Alias) (tree (Use from source) (tree (Use at name) no_trees)) no_trees = refl
there_form here (Op.Declaration Declaration.External) (tree (Use at name) (tree (Integer type) no_trees)) no_trees = refl
there_form here (Op.Declaration Declaration.External) (tree (Use at name) (tree (Integer type) (tree (Integer count) no_trees))) no_trees = refl
there_form here (Op.Declaration Declaration.Method) (tree (Use at name) (tree (Integer arity) no_trees)) body = refl
there_form here (Op.Declaration Declaration.Mutex) (tree (Use at name) (tree (Integer level) no_trees)) no_trees = refl
there_form here (Op.Declaration Declaration.Event) (tree (Use at name) no_trees) no_trees = refl
there_form here (Op.Declaration Declaration.Device) (tree (Use at name) no_trees) body = refl
there_form here (Op.Declaration Declaration.ThermalZone) (tree (Use at name) no_trees) body = refl
there_form here (Op.Declaration Declaration.PowerResource) (tree (Use at name) (tree (Integer level) (tree (Integer order) no_trees))) body = refl
there_form here (Op.Declaration Declaration.Processor) (tree (Use at name) (tree (Integer number) (tree (Integer address) (tree (Integer size) no_trees)))) body = refl
there_form here (Op.Declaration Declaration.Scope) (tree (Use at name) no_trees) body = refl
there_form here (Op.Declaration Declaration.OperationRegion) (tree (Use at name) (tree (Integer space) (tree offset (tree size no_trees)))) no_trees = refl
there_form here (Op.Declaration Declaration.Field) (tree (Use from region) (tree (Integer flags) no_trees)) body = by_items (items_in body) (λ items. Field here from region flags items) (λ items. refl)
there_form here (Op.Declaration Declaration.IndexField) (tree (Use from index) (tree (Use to register) (tree (Integer flags) no_trees))) body = by_items (items_in body) (λ items. IndexField here from index to register flags items) (λ items. refl)
there_form here (Op.Declaration Declaration.BankField) (tree (Use from region) (tree (Use to bank) (tree value (tree (Integer flags) no_trees)))) body = by_items (items_in body) (λ items. BankField here from region to bank value flags items) (λ items. refl)
there_form here (Op.Declaration Declaration.CreateField) (tree source (tree index (tree bits (tree (Use at name) no_trees)))) no_trees = refl
there_form here (Op.Declaration Declaration.CreateBitField) (tree source (tree index (tree (Use at name) no_trees))) no_trees = refl
there_form here (Op.Declaration Declaration.CreateByteField) (tree source (tree index (tree (Use at name) no_trees))) no_trees = refl
there_form here (Op.Declaration Declaration.CreateWordField) (tree source (tree index (tree (Use at name) no_trees))) no_trees = refl
there_form here (Op.Declaration Declaration.CreateDWordField) (tree source (tree index (tree (Use at name) no_trees))) no_trees = refl
there_form here (Op.Declaration Declaration.CreateQWordField) (tree source (tree index (tree (Use at name) no_trees))) no_trees = refl
there_form here (Op.Control Control.Return) (tree value no_trees) no_trees = refl
there_form here (Op.Control Control.If) (tree test no_trees) body = refl
there_form here (Op.Control Control.ElseIf) (tree test no_trees) body = refl
there_form here (Op.Control Control.Else) no_trees body = refl
there_form here (Op.Control Control.While) (tree test no_trees) body = refl
there_form here (Op.Control Control.For) (tree start (tree test (tree step no_trees))) body = refl
there_form here (Op.Control Control.Printf) (tree (String format) args) no_trees = refl
there_form here (Op.Control Control.Fprintf) (tree place (tree (String format) args)) no_trees = refl
there_form here (Op.Control Control.Switch) (tree value no_trees) cases = refl
there_form here (Op.Control Control.Case) (tree value no_trees) body = refl
there_form here (Op.Control Control.Default) no_trees body = refl
there_form here (Op.Control Control.Break) no_trees no_trees = refl
there_form here (Op.Control Control.Continue) no_trees no_trees = refl
there_form here (Op.Literal literal) no_trees no_trees = refl
there_form here (Op.Plain op) args no_trees = there_apply op args
there_form here (Op.Special Special.CondRefOf) (tree place (tree target no_trees)) no_trees = refl
there_form here (Op.Special Special.Buffer) (tree size no_trees) body = there_buffer size (body_bytes body)
there_form here (Op.Special Special.Package) (tree size no_trees) body = there_packaged size body
there_form here (Op.Symbolic (Symbolic.Operator op)) args no_trees = there_symbol op args
there_form here (Op.Symbolic Symbolic.Assign) (tree target (tree value no_trees)) no_trees = refl
there_form here (Op.Symbolic (Symbolic.AssignBy op)) (tree target (tree value no_trees)) no_trees = refl
there_form here _ _ _ = refl

pub form_given : (at : At) (op : Op) (args body : Trees) → given (form at op args body) ≡ form at op args body
form_given at op args body = there_given (form at op args body) (there_form at op args body)
