-- What a form declares is what its part declares.
use Rattle.std.proofs.Common.{◌≡◌, ℕ, Bool, true, false, List, Option, Some, None, refl}
use Rattle.std.specs.Prelude.{nat_le, if◌then◌else◌}
use Rattle.acpi_values.specs.Paths.{AbsolutePath}
use Rattle.asl_tree.specs.FieldItems.{FieldItem}
use Rattle.asl_meaning.specs.Declarations.{Declarations, declare, declare_items}
use Rattle.acpi_names.specs.Parts.{part_of, declare_part}
use Rattle.asl_tree.specs.View.{fits, operands_as, operated, symbol_of, form, apply_of, buffer, body_bytes, packaged, counted, items_in}
use Rattle.acpi_values.specs.declared.operator.IntOp.{IntOp}
use Rattle.acpi_values.specs.declared.operator.Plain.{Plain}
use Rattle.acpi_values.specs.Operators.{row_of}
use Rattle.asl_tree.specs.declared.term.Op.{Op}
use Rattle.asl_tree.specs.declared.term.Declaration.TheVariants as Declaration
use Rattle.asl_tree.specs.declared.term.Control.TheVariants as Control
use Rattle.asl_tree.specs.declared.term.Special.TheVariants as Special
use Rattle.asl_tree.specs.declared.term.Symbolic.TheVariants as Symbolic
use Rattle.acpi_state.specs.Outcomes.{choose}
use Rattle.asl_tree.specs.Tree.{At, Tree, Integer, String, Omitted, Use, Package, VarPackage, Misshapen, Trees, no_trees, tree, count, Field, IndexField, BankField, UnitName}

by_items : (o : Option (List (FieldItem UnitName))) (scope : AbsolutePath) (d : Declarations) (made : List (FieldItem UnitName) → Tree) → ((items : List (FieldItem UnitName)) → declare (made items) scope d ≡ declare_items items scope d) → declare (choose o Misshapen made) scope d ≡ choose o d (λ items. declare_items items scope d)
by_items None scope d made h = refl
by_items (Some items) scope d made h = h items

declared_apply : (op : Plain) (args : Trees) (scope : AbsolutePath) (d : Declarations) → declare (apply_of op args) scope d ≡ d
declared_apply (Plain.Number IntOp.LNotEqual) args scope d = refl
declared_apply (Plain.Number IntOp.LLessEqual) args scope d = refl
declared_apply (Plain.Number IntOp.LGreaterEqual) args scope d = refl
declared_apply op args scope d = refl

declared_operated : (op : Plain) (args : Trees) (scope : AbsolutePath) (d : Declarations) → declare (operated op args) scope d ≡ d
declared_operated (Plain.Number IntOp.LNotEqual) args scope d = refl
declared_operated (Plain.Number IntOp.LLessEqual) args scope d = refl
declared_operated (Plain.Number IntOp.LGreaterEqual) args scope d = refl
declared_operated op args scope d = refl

declared_symbol : (op : Plain) (args : Trees) (scope : AbsolutePath) (d : Declarations) → declare (symbol_of op args) scope d ≡ d
declared_symbol op args scope d = by_fit (fits (row_of op).operands args)
  where
    by_fit : (c : Bool) → declare (if c then operated op (operands_as (row_of op).operands args) else Misshapen) scope d ≡ d
    by_fit true = declared_operated op (operands_as (row_of op).operands args) scope d
    by_fit false = refl

declared_buffer : (size : Tree) (bytes : List ℕ) (scope : AbsolutePath) (d : Declarations) → declare (buffer size bytes) scope d ≡ d
declared_buffer Omitted bytes scope d = refl
declared_buffer size bytes scope d = refl

declared_counted : (n : ℕ) (elements : Trees) (scope : AbsolutePath) (d : Declarations) → declare (counted n elements) scope d ≡ d
declared_counted n elements scope d = by_less (nat_le n 255)
  where
    by_less : (c : Bool) → declare (if c then Package n elements else VarPackage (Integer n) elements) scope d ≡ d
    by_less true = refl
    by_less false = refl

declared_packaged : (size : Tree) (elements : Trees) (scope : AbsolutePath) (d : Declarations) → declare (packaged size elements) scope d ≡ d
declared_packaged Omitted elements scope d = declared_counted (count elements) elements scope d
declared_packaged (Integer n) elements scope d = declared_counted n elements scope d
declared_packaged size elements scope d = refl

pub declared_form : (at : At) (op : Op) (args body : Trees) (scope : AbsolutePath) (d : Declarations) → declare (form at op args body) scope d ≡ declare_part (part_of op args body) args body scope d
declared_form here (Op.Declaration Declaration.Name) (tree (Use at name) (tree value no_trees)) no_trees scope d = refl
declared_form here (Op.Declaration Declaration.Alias) (tree (Use from source) (tree (Use at name) no_trees)) no_trees scope d = refl
declared_form here (Op.Declaration Declaration.External) (tree (Use at name) (tree (Integer type) no_trees)) no_trees scope d = refl
declared_form here (Op.Declaration Declaration.External) (tree (Use at name) (tree (Integer type) (tree (Integer count) no_trees))) no_trees scope d = refl
declared_form here (Op.Declaration Declaration.Method) (tree (Use at name) (tree (Integer arity) no_trees)) body scope d = refl
declared_form here (Op.Declaration Declaration.Mutex) (tree (Use at name) (tree (Integer level) no_trees)) no_trees scope d = refl
declared_form here (Op.Declaration Declaration.Event) (tree (Use at name) no_trees) no_trees scope d = refl
declared_form here (Op.Declaration Declaration.Device) (tree (Use at name) no_trees) body scope d = refl
declared_form here (Op.Declaration Declaration.ThermalZone) (tree (Use at name) no_trees) body scope d = refl
declared_form here (Op.Declaration Declaration.PowerResource) (tree (Use at name) (tree (Integer level) (tree (Integer order) no_trees))) body scope d = refl
declared_form here (Op.Declaration Declaration.Processor) (tree (Use at name) (tree (Integer number) (tree (Integer address) (tree (Integer size) no_trees)))) body scope d = refl
declared_form here (Op.Declaration Declaration.Scope) (tree (Use at name) no_trees) body scope d = refl
declared_form here (Op.Declaration Declaration.OperationRegion) (tree (Use at name) (tree (Integer space) (tree offset (tree size no_trees)))) no_trees scope d = refl
declared_form here (Op.Declaration Declaration.Field) (tree (Use from region) (tree (Integer flags) no_trees)) body scope d = by_items (items_in body) scope d (λ items. Field here from region flags items) (λ items. refl)
declared_form here (Op.Declaration Declaration.IndexField) (tree (Use from index) (tree (Use to register) (tree (Integer flags) no_trees))) body scope d = by_items (items_in body) scope d (λ items. IndexField here from index to register flags items) (λ items. refl)
declared_form here (Op.Declaration Declaration.BankField) (tree (Use from region) (tree (Use to bank) (tree value (tree (Integer flags) no_trees)))) body scope d = by_items (items_in body) scope d (λ items. BankField here from region to bank value flags items) (λ items. refl)
declared_form here (Op.Declaration Declaration.CreateField) (tree source (tree index (tree bits (tree (Use at name) no_trees)))) no_trees scope d = refl
declared_form here (Op.Declaration Declaration.CreateBitField) (tree source (tree index (tree (Use at name) no_trees))) no_trees scope d = refl
declared_form here (Op.Declaration Declaration.CreateByteField) (tree source (tree index (tree (Use at name) no_trees))) no_trees scope d = refl
declared_form here (Op.Declaration Declaration.CreateWordField) (tree source (tree index (tree (Use at name) no_trees))) no_trees scope d = refl
declared_form here (Op.Declaration Declaration.CreateDWordField) (tree source (tree index (tree (Use at name) no_trees))) no_trees scope d = refl
declared_form here (Op.Declaration Declaration.CreateQWordField) (tree source (tree index (tree (Use at name) no_trees))) no_trees scope d = refl
declared_form here (Op.Control Control.Return) (tree value no_trees) no_trees scope d = refl
declared_form here (Op.Control Control.If) (tree test no_trees) body scope d = refl
declared_form here (Op.Control Control.ElseIf) (tree test no_trees) body scope d = refl
declared_form here (Op.Control Control.Else) no_trees body scope d = refl
declared_form here (Op.Control Control.While) (tree test no_trees) body scope d = refl
declared_form here (Op.Control Control.For) (tree start (tree test (tree step no_trees))) body scope d = refl
declared_form here (Op.Control Control.Printf) (tree (String format) args) no_trees scope d = refl
declared_form here (Op.Control Control.Fprintf) (tree place (tree (String format) args)) no_trees scope d = refl
declared_form here (Op.Control Control.Switch) (tree value no_trees) cases scope d = refl
declared_form here (Op.Control Control.Case) (tree value no_trees) body scope d = refl
declared_form here (Op.Control Control.Default) no_trees body scope d = refl
declared_form here (Op.Control Control.Break) no_trees no_trees scope d = refl
declared_form here (Op.Control Control.Continue) no_trees no_trees scope d = refl
declared_form here (Op.Literal literal) no_trees no_trees scope d = refl
declared_form here (Op.Plain op) args no_trees scope d = declared_apply op args scope d
declared_form here (Op.Special Special.CondRefOf) (tree place (tree target no_trees)) no_trees scope d = refl
declared_form here (Op.Special Special.Buffer) (tree size no_trees) body scope d = declared_buffer size (body_bytes body) scope d
declared_form here (Op.Special Special.Package) (tree size no_trees) body scope d = declared_packaged size body scope d
declared_form here (Op.Symbolic (Symbolic.Operator op)) args no_trees scope d = declared_symbol op args scope d
declared_form here (Op.Symbolic Symbolic.Assign) (tree target (tree value no_trees)) no_trees scope d = refl
declared_form here (Op.Symbolic (Symbolic.AssignBy op)) (tree target (tree value no_trees)) no_trees scope d = refl
declared_form here _ _ _ scope d = refl
