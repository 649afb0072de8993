-- Forms with steps before each Continue in their braces.
use Rattle.std.proofs.Common.{◌≡◌, ℕ, Bool, true, false, List, Option, Some, None, refl, arith}
use Rattle.std.specs.Prelude.{nat_le, if◌then◌else◌}
use Rattle.acpi_values.specs.Operators.{row_of}
use Rattle.acpi_values.specs.declared.operator.IntOp.{IntOp}
use Rattle.acpi_values.specs.declared.operator.Plain.{Plain}
use Rattle.acpi_state.specs.Outcomes.{choose}
use Rattle.asl_tree.specs.FieldItems.{FieldItem}
use Rattle.asl_tree.specs.declared.term.Op.{Op}
use Rattle.asl_tree.specs.declared.term.Declaration.TheVariants as Declaration
use Rattle.asl_tree.specs.declared.term.Control.TheVariants as Control
use Rattle.asl_tree.specs.declared.term.Special.TheVariants as Special
use Rattle.asl_tree.specs.declared.term.Symbolic.TheVariants as Symbolic
use Rattle.asl_tree.specs.Tree.{At, Tree, Integer, String, Use, Omitted, Package, VarPackage, Misshapen, Trees, no_trees, tree, count, UnitName}
use Rattle.asl_tree.specs.View.{fits, form, operands_as, apply_of, operated, buffer, body_bytes, packaged, items_in}
use Rattle.asl_prints.specs.Forms.{stepped}
use Rattle.asl_formats.specs.Steps.{stepped_body, is_next}
use Rattle.asl_prints.specs.Nodes.{is_continue}

stepped_apply : (steps : Trees) (op : Plain) (args : Trees) → stepped steps (apply_of op args) ≡ apply_of op args
stepped_apply steps (Plain.Number IntOp.LNotEqual) args = refl
stepped_apply steps (Plain.Number IntOp.LLessEqual) args = refl
stepped_apply steps (Plain.Number IntOp.LGreaterEqual) args = refl
stepped_apply steps op args = refl

next_apply : (op : Plain) (args : Trees) → is_next (apply_of op args) ≡ false
next_apply (Plain.Number IntOp.LNotEqual) args = refl
next_apply (Plain.Number IntOp.LLessEqual) args = refl
next_apply (Plain.Number IntOp.LGreaterEqual) args = refl
next_apply op args = refl

stepped_operated : (steps : Trees) (op : Plain) (args : Trees) → stepped steps (operated op args) ≡ operated op args
stepped_operated steps (Plain.Number IntOp.LNotEqual) args = refl
stepped_operated steps (Plain.Number IntOp.LLessEqual) args = refl
stepped_operated steps (Plain.Number IntOp.LGreaterEqual) args = refl
stepped_operated steps op args = refl

next_operated : (op : Plain) (args : Trees) → is_next (operated op args) ≡ false
next_operated (Plain.Number IntOp.LNotEqual) args = refl
next_operated (Plain.Number IntOp.LLessEqual) args = refl
next_operated (Plain.Number IntOp.LGreaterEqual) args = refl
next_operated op args = refl

stepped_symbol : (steps : Trees) (c : Bool) (op : Plain) (args : Trees) → stepped steps (if c then operated op args else Misshapen) ≡ (if c then operated op args else Misshapen)
stepped_symbol steps true op args = stepped_operated steps op args
stepped_symbol steps false op args = refl

next_symbol : (c : Bool) (op : Plain) (args : Trees) → is_next (if c then operated op args else Misshapen) ≡ false
next_symbol true op args = next_operated op args
next_symbol false op args = refl

stepped_buffer : (steps : Trees) (size : Tree) (bytes : List ℕ) → stepped steps (buffer size bytes) ≡ buffer size bytes
stepped_buffer steps Omitted bytes = refl
stepped_buffer steps size bytes = refl

next_buffer : (size : Tree) (bytes : List ℕ) → is_next (buffer size bytes) ≡ false
next_buffer Omitted bytes = refl
next_buffer size bytes = refl

stepped_counted : (steps : Trees) (c : Bool) (n : ℕ) (elements : Trees) → stepped steps (if c then Package n elements else VarPackage (Integer n) elements) ≡ (if c then Package n elements else VarPackage (Integer n) elements)
stepped_counted steps true n elements = refl
stepped_counted steps false n elements = refl

next_counted : (c : Bool) (n : ℕ) (elements : Trees) → is_next (if c then Package n elements else VarPackage (Integer n) elements) ≡ false
next_counted true n elements = refl
next_counted false n elements = refl

stepped_packaged : (steps : Trees) (size : Tree) (elements : Trees) → stepped steps (packaged size elements) ≡ packaged size elements
stepped_packaged steps Omitted elements = stepped_counted steps (nat_le (count elements) 255) (count elements) elements
stepped_packaged steps (Integer n) elements = stepped_counted steps (nat_le n 255) n elements
stepped_packaged steps size elements = refl

next_packaged : (size : Tree) (elements : Trees) → is_next (packaged size elements) ≡ false
next_packaged Omitted elements = next_counted (nat_le (count elements) 255) (count elements) elements
next_packaged (Integer n) elements = next_counted (nat_le n 255) n elements
next_packaged size elements = refl

by_items : (o : Option (List (FieldItem UnitName))) (f : Tree → Tree) → f Misshapen ≡ Misshapen → (made : List (FieldItem UnitName) → Tree) → ((items : List (FieldItem UnitName)) → f (made items) ≡ made items) → f (choose o Misshapen made) ≡ choose o Misshapen made
by_items None f m made h = m
by_items (Some items) f m made h = h items

not_items : (o : Option (List (FieldItem UnitName))) (made : List (FieldItem UnitName) → Tree) → ((items : List (FieldItem UnitName)) → is_next (made items) ≡ false) → is_next (choose o Misshapen made) ≡ false
not_items None made h = refl
not_items (Some items) made h = h items

pub stepped_form : (steps : Trees) (at : At) (op : Op) (args body : Trees) → stepped steps (form at op args body) ≡ form at op args (stepped_body steps op body)
stepped_form steps here (Op.Declaration Declaration.Name) (tree (Use at name) (tree value no_trees)) no_trees = refl
stepped_form steps here (Op.Declaration Declaration.Alias) (tree (Use from source) (tree (Use at name) no_trees)) no_trees = refl
stepped_form steps here (Op.Declaration Declaration.External) (tree (Use at name) (tree (Integer type) no_trees)) no_trees = refl
stepped_form steps here (Op.Declaration Declaration.External) (tree (Use at name) (tree (Integer type) (tree (Integer parameters) no_trees))) no_trees = refl
stepped_form steps here (Op.Declaration Declaration.Method) (tree (Use at name) (tree (Integer arity) no_trees)) body = refl
stepped_form steps here (Op.Declaration Declaration.Mutex) (tree (Use at name) (tree (Integer level) no_trees)) no_trees = refl
stepped_form steps here (Op.Declaration Declaration.Event) (tree (Use at name) no_trees) no_trees = refl
stepped_form steps here (Op.Declaration Declaration.Device) (tree (Use at name) no_trees) body = refl
stepped_form steps here (Op.Declaration Declaration.ThermalZone) (tree (Use at name) no_trees) body = refl
stepped_form steps here (Op.Declaration Declaration.PowerResource) (tree (Use at name) (tree (Integer level) (tree (Integer order) no_trees))) body = refl
stepped_form steps here (Op.Declaration Declaration.Processor) (tree (Use at name) (tree (Integer number) (tree (Integer address) (tree (Integer size) no_trees)))) body = refl
stepped_form steps here (Op.Declaration Declaration.Scope) (tree (Use at name) no_trees) body = refl
stepped_form steps here (Op.Declaration Declaration.OperationRegion) (tree (Use at name) (tree (Integer space) (tree offset (tree size no_trees)))) no_trees = refl
stepped_form steps here (Op.Declaration Declaration.Field) (tree (Use from region) (tree (Integer flags) no_trees)) body = by_items (items_in body) (λ t. stepped steps t) refl _ (λ items. refl)
stepped_form steps here (Op.Declaration Declaration.IndexField) (tree (Use from index) (tree (Use to register) (tree (Integer flags) no_trees))) body = by_items (items_in body) (λ t. stepped steps t) refl _ (λ items. refl)
stepped_form steps here (Op.Declaration Declaration.BankField) (tree (Use from region) (tree (Use to bank) (tree value (tree (Integer flags) no_trees)))) body = by_items (items_in body) (λ t. stepped steps t) refl _ (λ items. refl)
stepped_form steps here (Op.Declaration Declaration.CreateField) (tree source (tree index (tree bits (tree (Use at name) no_trees)))) no_trees = refl
stepped_form steps here (Op.Declaration Declaration.CreateBitField) (tree source (tree index (tree (Use at name) no_trees))) no_trees = refl
stepped_form steps here (Op.Declaration Declaration.CreateByteField) (tree source (tree index (tree (Use at name) no_trees))) no_trees = refl
stepped_form steps here (Op.Declaration Declaration.CreateWordField) (tree source (tree index (tree (Use at name) no_trees))) no_trees = refl
stepped_form steps here (Op.Declaration Declaration.CreateDWordField) (tree source (tree index (tree (Use at name) no_trees))) no_trees = refl
stepped_form steps here (Op.Declaration Declaration.CreateQWordField) (tree source (tree index (tree (Use at name) no_trees))) no_trees = refl
stepped_form steps here (Op.Control Control.Return) (tree value no_trees) no_trees = refl
stepped_form steps here (Op.Control Control.If) (tree test no_trees) body = refl
stepped_form steps here (Op.Control Control.ElseIf) (tree test no_trees) body = refl
stepped_form steps here (Op.Control Control.Else) no_trees body = refl
stepped_form steps here (Op.Control Control.While) (tree test no_trees) body = refl
stepped_form steps here (Op.Control Control.Switch) (tree value no_trees) cases = refl
stepped_form steps here (Op.Control Control.Case) (tree value no_trees) body = refl
stepped_form steps here (Op.Control Control.Default) no_trees body = refl
stepped_form steps here (Op.Control Control.Break) no_trees no_trees = refl
stepped_form steps here (Op.Control Control.Continue) no_trees no_trees = refl
stepped_form steps here (Op.Literal literal) no_trees no_trees = refl
stepped_form steps here (Op.Plain op) args no_trees = stepped_apply steps op args
stepped_form steps here (Op.Special Special.CondRefOf) (tree place (tree target no_trees)) no_trees = refl
stepped_form steps here (Op.Special Special.Buffer) (tree size no_trees) body = stepped_buffer steps size (body_bytes body)
stepped_form steps here (Op.Special Special.Package) (tree size no_trees) body = stepped_packaged steps size body
stepped_form steps here (Op.Control Control.For) (tree start (tree test (tree step no_trees))) body = refl
stepped_form steps here (Op.Control Control.Printf) (tree (String format) args) no_trees = refl
stepped_form steps here (Op.Control Control.Fprintf) (tree place (tree (String format) args)) no_trees = refl
stepped_form steps here (Op.Symbolic (Symbolic.Operator op)) args no_trees = stepped_symbol steps (fits (row_of op).operands args) op (operands_as (row_of op).operands args)
stepped_form steps here (Op.Symbolic Symbolic.Assign) (tree target (tree value no_trees)) no_trees = refl
stepped_form steps here (Op.Symbolic (Symbolic.AssignBy op)) (tree target (tree value no_trees)) no_trees = refl
stepped_form steps here _ _ _ = refl

pub other_form : (at : At) (op : Op) (args body : Trees) → is_continue op ≡ false → is_next (form at op args body) ≡ false
other_form here (Op.Declaration Declaration.Name) (tree (Use at name) (tree value no_trees)) no_trees e = refl
other_form here (Op.Declaration Declaration.Alias) (tree (Use from source) (tree (Use at name) no_trees)) no_trees e = refl
other_form here (Op.Declaration Declaration.External) (tree (Use at name) (tree (Integer type) no_trees)) no_trees e = refl
other_form here (Op.Declaration Declaration.External) (tree (Use at name) (tree (Integer type) (tree (Integer parameters) no_trees))) no_trees e = refl
other_form here (Op.Declaration Declaration.Method) (tree (Use at name) (tree (Integer arity) no_trees)) body e = refl
other_form here (Op.Declaration Declaration.Mutex) (tree (Use at name) (tree (Integer level) no_trees)) no_trees e = refl
other_form here (Op.Declaration Declaration.Event) (tree (Use at name) no_trees) no_trees e = refl
other_form here (Op.Declaration Declaration.Device) (tree (Use at name) no_trees) body e = refl
other_form here (Op.Declaration Declaration.ThermalZone) (tree (Use at name) no_trees) body e = refl
other_form here (Op.Declaration Declaration.PowerResource) (tree (Use at name) (tree (Integer level) (tree (Integer order) no_trees))) body e = refl
other_form here (Op.Declaration Declaration.Processor) (tree (Use at name) (tree (Integer number) (tree (Integer address) (tree (Integer size) no_trees)))) body e = refl
other_form here (Op.Declaration Declaration.Scope) (tree (Use at name) no_trees) body e = refl
other_form here (Op.Declaration Declaration.OperationRegion) (tree (Use at name) (tree (Integer space) (tree offset (tree size no_trees)))) no_trees e = refl
other_form here (Op.Declaration Declaration.Field) (tree (Use from region) (tree (Integer flags) no_trees)) body e = not_items (items_in body) _ (λ items. refl)
other_form here (Op.Declaration Declaration.IndexField) (tree (Use from index) (tree (Use to register) (tree (Integer flags) no_trees))) body e = not_items (items_in body) _ (λ items. refl)
other_form here (Op.Declaration Declaration.BankField) (tree (Use from region) (tree (Use to bank) (tree value (tree (Integer flags) no_trees)))) body e = not_items (items_in body) _ (λ items. refl)
other_form here (Op.Declaration Declaration.CreateField) (tree source (tree index (tree bits (tree (Use at name) no_trees)))) no_trees e = refl
other_form here (Op.Declaration Declaration.CreateBitField) (tree source (tree index (tree (Use at name) no_trees))) no_trees e = refl
other_form here (Op.Declaration Declaration.CreateByteField) (tree source (tree index (tree (Use at name) no_trees))) no_trees e = refl
other_form here (Op.Declaration Declaration.CreateWordField) (tree source (tree index (tree (Use at name) no_trees))) no_trees e = refl
other_form here (Op.Declaration Declaration.CreateDWordField) (tree source (tree index (tree (Use at name) no_trees))) no_trees e = refl
other_form here (Op.Declaration Declaration.CreateQWordField) (tree source (tree index (tree (Use at name) no_trees))) no_trees e = refl
other_form here (Op.Control Control.Return) (tree value no_trees) no_trees e = refl
other_form here (Op.Control Control.If) (tree test no_trees) body e = refl
other_form here (Op.Control Control.ElseIf) (tree test no_trees) body e = refl
other_form here (Op.Control Control.Else) no_trees body e = refl
other_form here (Op.Control Control.While) (tree test no_trees) body e = refl
other_form here (Op.Control Control.Switch) (tree value no_trees) cases e = refl
other_form here (Op.Control Control.Case) (tree value no_trees) body e = refl
other_form here (Op.Control Control.Default) no_trees body e = refl
other_form here (Op.Control Control.Break) no_trees no_trees e = refl
other_form here (Op.Control Control.Continue) args body e = absurd (grind arith)
other_form here (Op.Literal literal) no_trees no_trees e = refl
other_form here (Op.Plain op) args no_trees e = next_apply op args
other_form here (Op.Special Special.CondRefOf) (tree place (tree target no_trees)) no_trees e = refl
other_form here (Op.Special Special.Buffer) (tree size no_trees) body e = next_buffer size (body_bytes body)
other_form here (Op.Special Special.Package) (tree size no_trees) body e = next_packaged size body
other_form here (Op.Control Control.For) (tree start (tree test (tree step no_trees))) body e = refl
other_form here (Op.Control Control.Printf) (tree (String format) args) no_trees e = refl
other_form here (Op.Control Control.Fprintf) (tree place (tree (String format) args)) no_trees e = refl
other_form here (Op.Symbolic (Symbolic.Operator op)) args no_trees e = next_symbol (fits (row_of op).operands args) op (operands_as (row_of op).operands args)
other_form here (Op.Symbolic Symbolic.Assign) (tree target (tree value no_trees)) no_trees e = refl
other_form here (Op.Symbolic (Symbolic.AssignBy op)) (tree target (tree value no_trees)) no_trees e = refl
other_form here _ _ _ e = refl
