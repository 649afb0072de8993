-- What is told of a form is what is told of its part.
use Rattle.std.proofs.Common.{◌≡◌, ℕ, Bool, true, false, List, [], Option, Some, None, refl}
use Rattle.std.specs.Prelude.{nat_le, if◌then◌else◌}
use Rattle.asl_tree.specs.FieldItems.{FieldItem}
use Rattle.asl_tree.specs.View.{fits, operands_as, operated, symbol_of, form, apply_of, buffer, body_bytes, packaged, counted, items_in}
use Rattle.acpi_values.specs.declared.operator.IntOp.{IntOp}
use Rattle.acpi_values.specs.declared.operator.Plain.{Plain}
use Rattle.acpi_values.specs.Operators.{row_of}
use Rattle.asl_tree.specs.declared.term.Op.{Op}
use Rattle.asl_tree.specs.declared.term.Declaration.TheVariants as Declaration
use Rattle.asl_tree.specs.declared.term.Control.TheVariants as Control
use Rattle.asl_tree.specs.declared.term.Special.TheVariants as Special
use Rattle.asl_tree.specs.declared.term.Symbolic.TheVariants as Symbolic
use Rattle.acpi_state.specs.Outcomes.{choose}
use Rattle.asl_tree.specs.Tree.{At, Tree, Integer, String, Omitted, Use, Package, VarPackage, Misshapen, Trees, no_trees, tree, count, Field, IndexField, BankField, UnitName}
use Rattle.acpi_names.specs.Parts.{part_of}
use Rattle.term_plans.specs.Plans.{Plan, a_form, Plans}
use Rattle.switch_checks.specs.Locals.{method_errors, part_errors}

no_items : (o : Option (List (FieldItem UnitName))) (p : Plan) (made : List (FieldItem UnitName) → Tree) → ((items : List (FieldItem UnitName)) → method_errors (made items) p ≡ []) → method_errors (choose o Misshapen made) p ≡ []
no_items None p made h = refl
no_items (Some items) p made h = h items

told_apply : (op : Plain) (args : Trees) (p : Plan) → method_errors (apply_of op args) p ≡ []
told_apply (Plain.Number IntOp.LNotEqual) args p = refl
told_apply (Plain.Number IntOp.LLessEqual) args p = refl
told_apply (Plain.Number IntOp.LGreaterEqual) args p = refl
told_apply op args p = refl

told_operated : (op : Plain) (args : Trees) (p : Plan) → method_errors (operated op args) p ≡ []
told_operated (Plain.Number IntOp.LNotEqual) args p = refl
told_operated (Plain.Number IntOp.LLessEqual) args p = refl
told_operated (Plain.Number IntOp.LGreaterEqual) args p = refl
told_operated op args p = refl

told_symbol : (op : Plain) (args : Trees) (p : Plan) → method_errors (symbol_of op args) p ≡ []
told_symbol op args p = by_fit (fits (row_of op).operands args)
  where
    by_fit : (c : Bool) → method_errors (if c then operated op (operands_as (row_of op).operands args) else Misshapen) p ≡ []
    by_fit true = told_operated op (operands_as (row_of op).operands args) p
    by_fit false = refl

told_buffer : (size : Tree) (bytes : List ℕ) (p : Plan) → method_errors (buffer size bytes) p ≡ []
told_buffer Omitted bytes p = refl
told_buffer size bytes p = refl

told_counted : (n : ℕ) (elements : Trees) (p : Plan) → method_errors (counted n elements) p ≡ []
told_counted n elements p = by_less (nat_le n 255)
  where
    by_less : (c : Bool) → method_errors (if c then Package n elements else VarPackage (Integer n) elements) p ≡ []
    by_less true = refl
    by_less false = refl

told_packaged : (size : Tree) (elements : Trees) (p : Plan) → method_errors (packaged size elements) p ≡ []
told_packaged Omitted elements p = told_counted (count elements) elements p
told_packaged (Integer n) elements p = told_counted n elements p
told_packaged size elements p = refl

pub told_form : (at : At) (op : Op) (args body : Trees) (given plans : Plans) → method_errors (form at op args body) (a_form op given plans) ≡ part_errors (part_of op args body) body plans
told_form here (Op.Declaration Declaration.Name) (tree (Use at name) (tree value no_trees)) no_trees given plans = refl
told_form here (Op.Declaration Declaration.Alias) (tree (Use from source) (tree (Use at name) no_trees)) no_trees given plans = refl
told_form here (Op.Declaration Declaration.External) (tree (Use at name) (tree (Integer type) no_trees)) no_trees given plans = refl
told_form here (Op.Declaration Declaration.External) (tree (Use at name) (tree (Integer type) (tree (Integer count) no_trees))) no_trees given plans = refl
told_form here (Op.Declaration Declaration.Method) (tree (Use at name) (tree (Integer arity) no_trees)) body given plans = refl
told_form here (Op.Declaration Declaration.Mutex) (tree (Use at name) (tree (Integer level) no_trees)) no_trees given plans = refl
told_form here (Op.Declaration Declaration.Event) (tree (Use at name) no_trees) no_trees given plans = refl
told_form here (Op.Declaration Declaration.Device) (tree (Use at name) no_trees) body given plans = refl
told_form here (Op.Declaration Declaration.ThermalZone) (tree (Use at name) no_trees) body given plans = refl
told_form here (Op.Declaration Declaration.PowerResource) (tree (Use at name) (tree (Integer level) (tree (Integer order) no_trees))) body given plans = refl
told_form here (Op.Declaration Declaration.Processor) (tree (Use at name) (tree (Integer number) (tree (Integer address) (tree (Integer size) no_trees)))) body given plans = refl
told_form here (Op.Declaration Declaration.Scope) (tree (Use at name) no_trees) body given plans = refl
told_form here (Op.Declaration Declaration.OperationRegion) (tree (Use at name) (tree (Integer space) (tree offset (tree size no_trees)))) no_trees given plans = refl
told_form here (Op.Declaration Declaration.Field) (tree (Use from region) (tree (Integer flags) no_trees)) body given plans = no_items (items_in body) (a_form (Op.Declaration Declaration.Field) given plans) (λ items. Field here from region flags items) (λ items. refl)
told_form here (Op.Declaration Declaration.IndexField) (tree (Use from index) (tree (Use to register) (tree (Integer flags) no_trees))) body given plans = no_items (items_in body) (a_form (Op.Declaration Declaration.IndexField) given plans) (λ items. IndexField here from index to register flags items) (λ items. refl)
told_form here (Op.Declaration Declaration.BankField) (tree (Use from region) (tree (Use to bank) (tree value (tree (Integer flags) no_trees)))) body given plans = no_items (items_in body) (a_form (Op.Declaration Declaration.BankField) given plans) (λ items. BankField here from region to bank value flags items) (λ items. refl)
told_form here (Op.Declaration Declaration.CreateField) (tree source (tree index (tree bits (tree (Use at name) no_trees)))) no_trees given plans = refl
told_form here (Op.Declaration Declaration.CreateBitField) (tree source (tree index (tree (Use at name) no_trees))) no_trees given plans = refl
told_form here (Op.Declaration Declaration.CreateByteField) (tree source (tree index (tree (Use at name) no_trees))) no_trees given plans = refl
told_form here (Op.Declaration Declaration.CreateWordField) (tree source (tree index (tree (Use at name) no_trees))) no_trees given plans = refl
told_form here (Op.Declaration Declaration.CreateDWordField) (tree source (tree index (tree (Use at name) no_trees))) no_trees given plans = refl
told_form here (Op.Declaration Declaration.CreateQWordField) (tree source (tree index (tree (Use at name) no_trees))) no_trees given plans = refl
told_form here (Op.Control Control.Return) (tree value no_trees) no_trees given plans = refl
told_form here (Op.Control Control.If) (tree test no_trees) body given plans = refl
told_form here (Op.Control Control.ElseIf) (tree test no_trees) body given plans = refl
told_form here (Op.Control Control.Else) no_trees body given plans = refl
told_form here (Op.Control Control.While) (tree test no_trees) body given plans = refl
told_form here (Op.Control Control.For) (tree start (tree test (tree step no_trees))) body given plans = refl
told_form here (Op.Control Control.Printf) (tree (String format) args) no_trees given plans = refl
told_form here (Op.Control Control.Fprintf) (tree place (tree (String format) args)) no_trees given plans = refl
told_form here (Op.Control Control.Switch) (tree value no_trees) cases given plans = refl
told_form here (Op.Control Control.Case) (tree value no_trees) body given plans = refl
told_form here (Op.Control Control.Default) no_trees body given plans = refl
told_form here (Op.Control Control.Break) no_trees no_trees given plans = refl
told_form here (Op.Control Control.Continue) no_trees no_trees given plans = refl
told_form here (Op.Literal literal) no_trees no_trees given plans = refl
told_form here (Op.Plain op) args no_trees given plans = told_apply op args _
told_form here (Op.Special Special.CondRefOf) (tree place (tree target no_trees)) no_trees given plans = refl
told_form here (Op.Special Special.Buffer) (tree size no_trees) body given plans = told_buffer size (body_bytes body) _
told_form here (Op.Special Special.Package) (tree size no_trees) body given plans = told_packaged size body _
told_form here (Op.Symbolic (Symbolic.Operator op)) args no_trees given plans = told_symbol op args _
told_form here (Op.Symbolic Symbolic.Assign) (tree target (tree value no_trees)) no_trees given plans = refl
told_form here (Op.Symbolic (Symbolic.AssignBy op)) (tree target (tree value no_trees)) no_trees given plans = refl
told_form here _ _ _ given plans = refl
