-- The Locals that forms name, by their trees.
use Rattle.std.proofs.Common.{◌≡◌, ℕ, Bool, true, false, List, [], ◌∷◌, ◌++◌, Option, Some, None, refl, sym, ap, ◌∙◌, append_assoc}
use Rattle.std.proofs.lemmas.List.{append-nil}
use Rattle.std.specs.List.{list_any}
use Rattle.std.specs.Prelude.{nat_le, if◌then◌else◌}
use Rattle.asl_tree.specs.FieldItems.{FieldItem}
use Rattle.asl_tree.specs.View.{fits, operands_as, targets_of, operated, symbol_of, form, plain_of, apply_of, buffer, body_bytes, packaged, counted, items_in}
use Rattle.acpi_values.specs.declared.operator.IntOp.{IntOp}
use Rattle.acpi_values.specs.declared.operator.Plain.{Plain}
use Rattle.acpi_values.specs.Operators.{row_of}
use Rattle.asl_tree.specs.declared.term.Op.{Op}
use Rattle.asl_tree.specs.declared.term.Declaration.TheVariants as Declaration
use Rattle.asl_tree.specs.declared.term.Control.TheVariants as Control
use Rattle.asl_tree.specs.declared.term.Special.TheVariants as Special
use Rattle.asl_tree.specs.declared.term.Symbolic.TheVariants as Symbolic
use Rattle.acpi_state.specs.Outcomes.{choose}
use Rattle.acpi_values.specs.Operators.{Letter, Valued}
use Rattle.acpi_values.specs.Operators as L
use Rattle.asl_tree.specs.Tree.{At, Tree, Integer, String, Omitted, Use, Package, VarPackage, Misshapen, Trees, no_trees, tree, count, Field, IndexField, BankField, UnitName}
use Rattle.acpi_names.specs.Walked.{fitting_value}
use Rattle.acpi_names.specs.declared.part.ValueForm.TheVariants as V
use Rattle.hidden_locals.specs.Locals.{locals, locals_all}
use Rattle.switch_loops.specs.Reads.{form_locals, is_raw, operand_locals, reads_of, value_reads}
use Rattle.switch_loops.specs.declared.locals.Reads.{Reads}

plain_locals : (ts : Trees) → operand_locals [] ts ≡ locals_all ts
plain_locals no_trees = refl
plain_locals (tree t ts) = ap (λ ls. locals t ++ ls) (plain_locals ts)

-- where none of them is a constant
pub no_constants : (letters : List Letter) (ts : Trees) → list_any is_raw letters ≡ false → operand_locals letters ts ≡ locals_all ts
no_constants [] ts e = plain_locals ts
no_constants (letter ∷ letters) no_trees e = refl
no_constants (L.Raw size ∷ letters) (tree t ts) e = absurd cc
no_constants (letter ∷ letters) (tree t ts) e = ap (λ ls. locals t ++ ls) (no_constants letters ts e)

operands_locals : (letters : List Letter) (ts : Trees) → locals_all (operands_as letters ts) ++ locals_all (targets_of letters ts) ≡ operand_locals letters ts
operands_locals [] ts = sym (plain_locals ts)
operands_locals (letter ∷ letters) no_trees = refl
operands_locals (L.Raw size ∷ letters) (tree (Integer number) ts) = operands_locals letters ts
operands_locals (L.Raw size ∷ letters) (tree t ts) = operands_locals letters ts
operands_locals (Valued ∷ letters) (tree Omitted ts) = operands_locals letters ts
operands_locals (letter ∷ letters) (tree t ts) =
    append_assoc (locals t) (locals_all (operands_as letters ts)) (locals_all (targets_of letters ts)) ∙ ap (λ ls. locals t ++ ls) (operands_locals letters ts)

not_locals : (op : IntOp) (args : Trees) → (locals (plain_of (Plain.Number op) args) ++ []) ++ [] ≡ operand_locals (row_of (Plain.Number op)).operands args
not_locals op args = append-nil (locals (plain_of (Plain.Number op) args) ++ []) ∙ append-nil (locals (plain_of (Plain.Number op) args)) ∙ operands_locals (row_of (Plain.Number op)).operands args

named_apply : (op : Plain) (args : Trees) → locals (apply_of op args) ≡ operand_locals (row_of op).operands args
named_apply (Plain.Number IntOp.LNotEqual) args = not_locals IntOp.LEqual args
named_apply (Plain.Number IntOp.LLessEqual) args = not_locals IntOp.LGreater args
named_apply (Plain.Number IntOp.LGreaterEqual) args = not_locals IntOp.LLess args
named_apply op args = operands_locals (row_of op).operands args

named_operated : (op : Plain) (args : Trees) → locals (operated op args) ≡ locals_all args
named_operated (Plain.Number IntOp.LNotEqual) args = append-nil (locals_all args)
named_operated (Plain.Number IntOp.LLessEqual) args = append-nil (locals_all args)
named_operated (Plain.Number IntOp.LGreaterEqual) args = append-nil (locals_all args)
named_operated op args = refl

no_targets : (letters : List Letter) (ts : Trees) → fits letters ts ≡ true → targets_of letters ts ≡ no_trees
no_targets [] no_trees e = refl
no_targets [] (tree t ts) e = absurd cc
no_targets (letter ∷ letters) no_trees e = absurd cc
no_targets (letter ∷ letters) (tree t ts) e = no_targets letters ts e

named_symbol : (op : Plain) (args : Trees) → locals (symbol_of op args) ≡ form_locals (value_reads (fitting_value (fits (row_of op).operands args) (V.Operator op))) args no_trees
named_symbol op args = by_fit (fits (row_of op).operands args) refl
  where
    by_fit : (c : Bool) → fits (row_of op).operands args ≡ c → locals (if c then operated op (operands_as (row_of op).operands args) else Misshapen) ≡ form_locals (value_reads (fitting_value c (V.Operator op))) args no_trees
    by_fit true e =
        named_operated op (operands_as (row_of op).operands args) ∙ sym (append-nil (locals_all (operands_as (row_of op).operands args)))
        ∙ ap (λ ts. locals_all (operands_as (row_of op).operands args) ++ locals_all ts) (sym (no_targets (row_of op).operands args e)) ∙ operands_locals (row_of op).operands args
    by_fit false e = refl

named_buffer : (size : Tree) (bytes : List ℕ) → locals (buffer size bytes) ≡ locals size ++ []
named_buffer Omitted bytes = refl
named_buffer size bytes = sym (append-nil (locals size))

named_counted : (n : ℕ) (elements : Trees) → locals (counted n elements) ≡ locals_all elements
named_counted n elements = by_less (nat_le n 255)
  where
    by_less : (c : Bool) → locals (if c then Package n elements else VarPackage (Integer n) elements) ≡ locals_all elements
    by_less true = refl
    by_less false = refl

named_packaged : (size : Tree) (elements : Trees) → locals (packaged size elements) ≡ (locals size ++ []) ++ locals_all elements
named_packaged Omitted elements = named_counted (count elements) elements
named_packaged (Integer n) elements = named_counted n elements
named_packaged size elements = ap (λ ls. ls ++ locals_all elements) (sym (append-nil (locals size)))

named_items : (o : Option (List (FieldItem UnitName))) (made : List (FieldItem UnitName) → Tree) (args body : Trees) → ((items : List (FieldItem UnitName)) → locals (made items) ≡ locals_all args)
    → locals (choose o Misshapen made) ≡ form_locals (if choose o false (λ items. true) then Reads.Arguments else Reads.Nothing) args body
named_items None made args body h = refl
named_items (Some items) made args body h = h items

tested : (test : Tree) (body : Trees) → locals test ++ locals_all body ≡ (locals test ++ []) ++ locals_all body
tested test body = ap (λ ls. ls ++ locals_all body) (sym (append-nil (locals test)))

-- a start, a test and a step before a body
before_body : (a b c e : List ℕ) → a ++ (b ++ (c ++ e)) ≡ (a ++ (b ++ (c ++ []))) ++ e
before_body a b c e =
    sym (append_assoc a (b ++ (c ++ [])) e ∙ ap (λ ls. a ++ ls) (append_assoc b (c ++ []) e ∙ ap (λ ls. b ++ ls) (append_assoc c [] e)))

two_locals : (a b : Tree) → locals a ++ locals b ≡ locals a ++ (locals b ++ [])
two_locals a b = ap (λ ls. locals a ++ ls) (sym (append-nil (locals b)))

pub named_form : (at : At) (op : Op) (args body : Trees) → locals (form at op args body) ≡ form_locals (reads_of op args body) args body
named_form here (Op.Declaration Declaration.Name) (tree (Use at name) (tree value no_trees)) no_trees = sym (append-nil (locals value))
named_form here (Op.Declaration Declaration.Alias) (tree (Use from source) (tree (Use at name) no_trees)) no_trees = refl
named_form here (Op.Declaration Declaration.External) (tree (Use at name) (tree (Integer type) no_trees)) no_trees = refl
named_form here (Op.Declaration Declaration.External) (tree (Use at name) (tree (Integer type) (tree (Integer count) no_trees))) no_trees = refl
named_form here (Op.Declaration Declaration.Method) (tree (Use at name) (tree (Integer arity) no_trees)) body = refl
named_form here (Op.Declaration Declaration.Mutex) (tree (Use at name) (tree (Integer level) no_trees)) no_trees = refl
named_form here (Op.Declaration Declaration.Event) (tree (Use at name) no_trees) no_trees = refl
named_form here (Op.Declaration Declaration.Device) (tree (Use at name) no_trees) body = refl
named_form here (Op.Declaration Declaration.ThermalZone) (tree (Use at name) no_trees) body = refl
named_form here (Op.Declaration Declaration.PowerResource) (tree (Use at name) (tree (Integer level) (tree (Integer order) no_trees))) body = refl
named_form here (Op.Declaration Declaration.Processor) (tree (Use at name) (tree (Integer number) (tree (Integer address) (tree (Integer size) no_trees)))) body = refl
named_form here (Op.Declaration Declaration.Scope) (tree (Use at name) no_trees) body = refl
named_form here (Op.Declaration Declaration.OperationRegion) (tree (Use at name) (tree (Integer space) (tree offset (tree size no_trees)))) no_trees = refl
named_form here (Op.Declaration Declaration.Field) (tree (Use from region) (tree (Integer flags) no_trees)) body = named_items (items_in body) (λ items. Field here from region flags items) (tree (Use from region) (tree (Integer flags) no_trees)) body (λ items. refl)
named_form here (Op.Declaration Declaration.IndexField) (tree (Use from index) (tree (Use to register) (tree (Integer flags) no_trees))) body = named_items (items_in body) (λ items. IndexField here from index to register flags items) (tree (Use from index) (tree (Use to register) (tree (Integer flags) no_trees))) body (λ items. refl)
named_form here (Op.Declaration Declaration.BankField) (tree (Use from region) (tree (Use to bank) (tree value (tree (Integer flags) no_trees)))) body = named_items (items_in body) (λ items. BankField here from region to bank value flags items) (tree (Use from region) (tree (Use to bank) (tree value (tree (Integer flags) no_trees)))) body (λ items. sym (append-nil (locals value)))
named_form here (Op.Declaration Declaration.CreateField) (tree source (tree index (tree bits (tree (Use at name) no_trees)))) no_trees = refl
named_form here (Op.Declaration Declaration.CreateBitField) (tree source (tree index (tree (Use at name) no_trees))) no_trees = refl
named_form here (Op.Declaration Declaration.CreateByteField) (tree source (tree index (tree (Use at name) no_trees))) no_trees = refl
named_form here (Op.Declaration Declaration.CreateWordField) (tree source (tree index (tree (Use at name) no_trees))) no_trees = refl
named_form here (Op.Declaration Declaration.CreateDWordField) (tree source (tree index (tree (Use at name) no_trees))) no_trees = refl
named_form here (Op.Declaration Declaration.CreateQWordField) (tree source (tree index (tree (Use at name) no_trees))) no_trees = refl
named_form here (Op.Control Control.Return) (tree value no_trees) no_trees = sym (append-nil (locals value))
named_form here (Op.Control Control.If) (tree test no_trees) body = tested test body
named_form here (Op.Control Control.ElseIf) (tree test no_trees) body = tested test body
named_form here (Op.Control Control.Else) no_trees body = refl
named_form here (Op.Control Control.While) (tree test no_trees) body = tested test body
named_form here (Op.Control Control.For) (tree start (tree test (tree step no_trees))) body = before_body (locals start) (locals test) (locals step) (locals_all body)
named_form here (Op.Control Control.Printf) (tree (String format) args) no_trees = refl
named_form here (Op.Control Control.Fprintf) (tree place (tree (String format) args)) no_trees = refl
named_form here (Op.Control Control.Switch) (tree value no_trees) cases = tested value cases
named_form here (Op.Control Control.Case) (tree value no_trees) body = tested value body
named_form here (Op.Control Control.Default) no_trees body = refl
named_form here (Op.Control Control.Break) no_trees no_trees = refl
named_form here (Op.Control Control.Continue) no_trees no_trees = refl
named_form here (Op.Literal literal) no_trees no_trees = refl
named_form here (Op.Plain op) args no_trees = named_apply op args
named_form here (Op.Special Special.CondRefOf) (tree place (tree target no_trees)) no_trees = two_locals place target
named_form here (Op.Special Special.Buffer) (tree size no_trees) body = named_buffer size (body_bytes body)
named_form here (Op.Special Special.Package) (tree size no_trees) body = named_packaged size body
named_form here (Op.Symbolic (Symbolic.Operator op)) args no_trees = named_symbol op args
named_form here (Op.Symbolic Symbolic.Assign) (tree target (tree value no_trees)) no_trees = two_locals target value
named_form here (Op.Symbolic (Symbolic.AssignBy op)) (tree target (tree value no_trees)) no_trees = two_locals target value
named_form here _ _ _ = refl
