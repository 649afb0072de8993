-- A form with its arguments and its body wrapped.
use Rattle.std.proofs.Common.{◌≡◌, ℕ, Bool, true, false, List, [], ◌∷◌, Option, Some, None, refl, sym, ap, ◌∙◌}
use Rattle.std.specs.Prelude.{nat_le, if◌then◌else◌}
use Rattle.acpi_values.specs.Operators.{Letter, Valued, Row, row_of}
use Rattle.acpi_values.specs.Operators as L
use Rattle.acpi_values.specs.declared.operator.IntOp.{IntOp}
use Rattle.acpi_values.specs.declared.operator.Plain.{Plain}
use Rattle.acpi_state.specs.Outcomes.{choose}
use Rattle.asl_tree.specs.FieldItems.{FieldItem}
use Rattle.asl_tree.specs.declared.term.Op.{Op}
use Rattle.asl_tree.specs.declared.term.Declaration.TheVariants as Declaration
use Rattle.asl_tree.specs.declared.term.Control.TheVariants as Control
use Rattle.asl_tree.specs.declared.term.Literal.TheVariants as Literal
use Rattle.asl_tree.specs.declared.term.Special.TheVariants as Special
use Rattle.asl_tree.specs.declared.term.Symbolic.TheVariants as Symbolic
use Rattle.asl_tree.specs.Tree.{At, Tree, Apply, Integer, String, Constant, Raw, Omitted, Use, Package, VarPackage, Misshapen, Trees, no_trees, tree, count, Field, IndexField, BankField, UnitName}
use Rattle.asl_tree.specs.View.{fits, form, operands_as, targets_of, plain_of, not_of, apply_of, operated, symbol_of, buffer, body_bytes, packaged, counted, items_in}
use Rattle.wrapped_externals.specs.Wraps.{wrapped, wrapped_args}
use Rattle.wrapped_externals.specs.Nodes.{wrapped_body}
use Rattle.wrapped_externals.proofs.Declared.{count_args}

-- an argument as an operand
abbrev first_operand : Letter → Tree → Tree
first_operand (L.Raw size) (Integer number) = Raw size number
first_operand (L.Raw size) t = Misshapen
first_operand Valued Omitted = Constant Literal.Ones
first_operand letter t = t

operands_first : (letter : Letter) (letters : List Letter) (t : Tree) (ts : Trees) → operands_as (letter ∷ letters) (tree t ts) ≡ tree (first_operand letter t) (operands_as letters ts)
operands_first (L.Raw size) letters (Integer number) ts = refl
operands_first (L.Raw size) letters t ts = refl
operands_first Valued letters Omitted ts = refl
operands_first letter letters t ts = refl

wrapped_first : (letter : Letter) (t : Tree) → wrapped (first_operand letter t) ≡ first_operand letter (wrapped t)
wrapped_first (L.Raw size) (Integer number) = refl
wrapped_first (L.Raw size) t = refl
wrapped_first Valued Omitted = refl
wrapped_first letter t = refl

pub wrapped_operands : (letters : List Letter) (ts : Trees) → wrapped_args (operands_as letters ts) ≡ operands_as letters (wrapped_args ts)
wrapped_operands [] ts = refl
wrapped_operands (letter ∷ letters) no_trees = refl
wrapped_operands (letter ∷ letters) (tree t ts) =
    ap wrapped_args (operands_first letter letters t ts)
    ∙ ap (λ x. tree x (wrapped_args (operands_as letters ts))) (wrapped_first letter t)
    ∙ ap (tree (first_operand letter (wrapped t))) (wrapped_operands letters ts)
    ∙ sym (operands_first letter letters (wrapped t) (wrapped_args ts))

wrapped_targets : (letters : List Letter) (ts : Trees) → wrapped_args (targets_of letters ts) ≡ targets_of letters (wrapped_args ts)
wrapped_targets [] ts = refl
wrapped_targets (letter ∷ letters) no_trees = refl
wrapped_targets (letter ∷ letters) (tree t ts) = wrapped_targets letters ts

wrapped_plain : (op : Plain) (args : Trees) → wrapped (plain_of op args) ≡ plain_of op (wrapped_args args)
wrapped_plain op args =
    ap (λ ts. Apply op ts (wrapped_args (targets_of (row_of op).operands args))) (wrapped_operands (row_of op).operands args)
    ∙ ap (Apply op (operands_as (row_of op).operands (wrapped_args args))) (wrapped_targets (row_of op).operands args)

wrapped_not : (op : IntOp) (args : Trees) → wrapped (not_of op args) ≡ not_of op (wrapped_args args)
wrapped_not op args = wrapped_plain (Plain.Number IntOp.LNot) (tree (plain_of (Plain.Number op) args) no_trees) ∙ ap (λ t. plain_of (Plain.Number IntOp.LNot) (tree t no_trees)) (wrapped_plain (Plain.Number op) args)

wrapped_apply : (op : Plain) (args : Trees) → wrapped (apply_of op args) ≡ apply_of op (wrapped_args args)
wrapped_apply (Plain.Number IntOp.LNotEqual) args = wrapped_not IntOp.LEqual args
wrapped_apply (Plain.Number IntOp.LLessEqual) args = wrapped_not IntOp.LGreater args
wrapped_apply (Plain.Number IntOp.LGreaterEqual) args = wrapped_not IntOp.LLess args
wrapped_apply op args = wrapped_plain op args

wrapped_buffer : (size : Tree) (bytes : List ℕ) → wrapped (buffer size bytes) ≡ buffer (wrapped size) bytes
wrapped_buffer Omitted bytes = refl
wrapped_buffer size bytes = refl

wrapped_counted : (n : ℕ) (elements : Trees) → wrapped (counted n elements) ≡ counted n (wrapped_args elements)
wrapped_counted n elements = by_less (nat_le n 255)
  where
    by_less : (c : Bool) → wrapped (if c then Package n elements else VarPackage (Integer n) elements) ≡ (if c then Package n (wrapped_args elements) else VarPackage (Integer n) (wrapped_args elements))
    by_less true = refl
    by_less false = refl

wrapped_packaged : (size : Tree) (elements : Trees) → wrapped (packaged size elements) ≡ packaged (wrapped size) (wrapped_args elements)
wrapped_packaged Omitted elements = wrapped_counted (count elements) elements ∙ sym (ap (λ n. counted n (wrapped_args elements)) (count_args elements))
wrapped_packaged (Integer n) elements = wrapped_counted n elements
wrapped_packaged size elements = refl

by_items : (o : Option (List (FieldItem UnitName))) (made more : List (FieldItem UnitName) → Tree) → ((items : List (FieldItem UnitName)) → wrapped (made items) ≡ more items) → wrapped (choose o Misshapen made) ≡ choose o Misshapen more
by_items None made more h = refl
by_items (Some items) made more h = h items

fits_wrapped : (letters : List Letter) (ts : Trees) → fits letters (wrapped_args ts) ≡ fits letters ts
fits_wrapped [] no_trees = refl
fits_wrapped [] (tree t ts) = refl
fits_wrapped (letter ∷ letters) no_trees = refl
fits_wrapped (letter ∷ letters) (tree t ts) = fits_wrapped letters ts

wrapped_operated : (op : Plain) (args : Trees) → wrapped (operated op args) ≡ operated op (wrapped_args args)
wrapped_operated (Plain.Number IntOp.LNotEqual) args = refl
wrapped_operated (Plain.Number IntOp.LLessEqual) args = refl
wrapped_operated (Plain.Number IntOp.LGreaterEqual) args = refl
wrapped_operated op args = refl

wrapped_symbol : (op : Plain) (args : Trees) → wrapped (symbol_of op args) ≡ symbol_of op (wrapped_args args)
wrapped_symbol op args =
    by_fit (fits (row_of op).operands args)
    ∙ ap (λ c. if c then operated op (operands_as (row_of op).operands (wrapped_args args)) else Misshapen) (sym (fits_wrapped (row_of op).operands args))
  where
    by_fit : (c : Bool) → wrapped (if c then operated op (operands_as (row_of op).operands args) else Misshapen) ≡ (if c then operated op (operands_as (row_of op).operands (wrapped_args args)) else Misshapen)
    by_fit true = wrapped_operated op (operands_as (row_of op).operands args) ∙ ap (operated op) (wrapped_operands (row_of op).operands args)
    by_fit false = refl

pub wrapped_form : (at : At) (op : Op) (args body : Trees) → wrapped (form at op args body) ≡ form at op (wrapped_args args) (wrapped_body op body)
wrapped_form here (Op.Declaration Declaration.Name) (tree (Use at name) (tree value no_trees)) no_trees = refl
wrapped_form here (Op.Declaration Declaration.Alias) (tree (Use from source) (tree (Use at name) no_trees)) no_trees = refl
wrapped_form here (Op.Declaration Declaration.External) (tree (Use at name) (tree (Integer type) no_trees)) no_trees = refl
wrapped_form here (Op.Declaration Declaration.External) (tree (Use at name) (tree (Integer type) (tree (Integer parameters) no_trees))) no_trees = refl
wrapped_form here (Op.Declaration Declaration.Method) (tree (Use at name) (tree (Integer arity) no_trees)) body = refl
wrapped_form here (Op.Declaration Declaration.Mutex) (tree (Use at name) (tree (Integer level) no_trees)) no_trees = refl
wrapped_form here (Op.Declaration Declaration.Event) (tree (Use at name) no_trees) no_trees = refl
wrapped_form here (Op.Declaration Declaration.Device) (tree (Use at name) no_trees) body = refl
wrapped_form here (Op.Declaration Declaration.ThermalZone) (tree (Use at name) no_trees) body = refl
wrapped_form here (Op.Declaration Declaration.PowerResource) (tree (Use at name) (tree (Integer level) (tree (Integer order) no_trees))) body = refl
wrapped_form here (Op.Declaration Declaration.Processor) (tree (Use at name) (tree (Integer number) (tree (Integer address) (tree (Integer size) no_trees)))) body = refl
wrapped_form here (Op.Declaration Declaration.Scope) (tree (Use at name) no_trees) body = refl
wrapped_form here (Op.Declaration Declaration.OperationRegion) (tree (Use at name) (tree (Integer space) (tree offset (tree size no_trees)))) no_trees = refl
wrapped_form here (Op.Declaration Declaration.Field) (tree (Use from region) (tree (Integer flags) no_trees)) body = by_items (items_in body) (λ items. Field here from region flags items) (λ items. Field here from region flags items) (λ items. refl)
wrapped_form here (Op.Declaration Declaration.IndexField) (tree (Use from index) (tree (Use to register) (tree (Integer flags) no_trees))) body = by_items (items_in body) (λ items. IndexField here from index to register flags items) (λ items. IndexField here from index to register flags items) (λ items. refl)
wrapped_form here (Op.Declaration Declaration.BankField) (tree (Use from region) (tree (Use to bank) (tree value (tree (Integer flags) no_trees)))) body = by_items (items_in body) (λ items. BankField here from region to bank value flags items) (λ items. BankField here from region to bank (wrapped value) flags items) (λ items. refl)
wrapped_form here (Op.Declaration Declaration.CreateField) (tree source (tree index (tree bits (tree (Use at name) no_trees)))) no_trees = refl
wrapped_form here (Op.Declaration Declaration.CreateBitField) (tree source (tree index (tree (Use at name) no_trees))) no_trees = refl
wrapped_form here (Op.Declaration Declaration.CreateByteField) (tree source (tree index (tree (Use at name) no_trees))) no_trees = refl
wrapped_form here (Op.Declaration Declaration.CreateWordField) (tree source (tree index (tree (Use at name) no_trees))) no_trees = refl
wrapped_form here (Op.Declaration Declaration.CreateDWordField) (tree source (tree index (tree (Use at name) no_trees))) no_trees = refl
wrapped_form here (Op.Declaration Declaration.CreateQWordField) (tree source (tree index (tree (Use at name) no_trees))) no_trees = refl
wrapped_form here (Op.Control Control.Return) (tree value no_trees) no_trees = refl
wrapped_form here (Op.Control Control.If) (tree test no_trees) body = refl
wrapped_form here (Op.Control Control.ElseIf) (tree test no_trees) body = refl
wrapped_form here (Op.Control Control.Else) no_trees body = refl
wrapped_form here (Op.Control Control.While) (tree test no_trees) body = refl
wrapped_form here (Op.Control Control.For) (tree start (tree test (tree step no_trees))) body = refl
wrapped_form here (Op.Control Control.Printf) (tree (String format) args) no_trees = refl
wrapped_form here (Op.Control Control.Fprintf) (tree place (tree (String format) args)) no_trees = refl
wrapped_form here (Op.Control Control.Switch) (tree value no_trees) cases = refl
wrapped_form here (Op.Control Control.Case) (tree value no_trees) body = refl
wrapped_form here (Op.Control Control.Default) no_trees body = refl
wrapped_form here (Op.Control Control.Break) no_trees no_trees = refl
wrapped_form here (Op.Control Control.Continue) no_trees no_trees = refl
wrapped_form here (Op.Literal literal) no_trees no_trees = refl
wrapped_form here (Op.Plain op) args no_trees = wrapped_apply op args
wrapped_form here (Op.Special Special.CondRefOf) (tree place (tree target no_trees)) no_trees = refl
wrapped_form here (Op.Special Special.Buffer) (tree size no_trees) body = wrapped_buffer size (body_bytes body)
wrapped_form here (Op.Special Special.Package) (tree size no_trees) body = wrapped_packaged size body
wrapped_form here (Op.Symbolic (Symbolic.Operator op)) args no_trees = wrapped_symbol op args
wrapped_form here (Op.Symbolic Symbolic.Assign) (tree target (tree value no_trees)) no_trees = refl
wrapped_form here (Op.Symbolic (Symbolic.AssignBy op)) (tree target (tree value no_trees)) no_trees = refl
wrapped_form here _ _ _ = refl
