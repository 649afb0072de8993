-- A form with its arguments and its braces formed.
use Rattle.std.proofs.Common.{◌≡◌, ℕ, suc, Bool, true, false, List, [], ◌∷◌, Option, Some, None, refl, sym, ap, ◌∙◌}
use Rattle.std.specs.Prelude.{nat_le, if◌then◌else◌}
use Rattle.acpi_values.specs.Operators.{Letter, Valued, row_of}
use Rattle.acpi_values.specs.Operators as L
use Rattle.acpi_values.specs.declared.operator.IntOp.{IntOp}
use Rattle.acpi_values.specs.declared.operator.Plain.{Plain}
use Rattle.acpi_state.specs.Outcomes.{choose}
use Rattle.asl_tree.specs.FieldItems.{FieldItem}
use Rattle.asl_tree.specs.declared.term.Op.{Op}
use Rattle.asl_tree.specs.declared.term.Declaration.TheVariants as Declaration
use Rattle.asl_tree.specs.declared.term.Control.TheVariants as Control
use Rattle.asl_tree.specs.declared.term.Literal.TheVariants as Literal
use Rattle.asl_tree.specs.declared.term.Special.TheVariants as Special
use Rattle.asl_tree.specs.declared.term.Symbolic.TheVariants as Symbolic
use Rattle.asl_tree.specs.Tree.{At, Tree, Apply, Integer, Constant, String, Raw, Omitted, Use, Package, VarPackage, Misshapen, Trees, no_trees, tree, count, Field, IndexField, BankField, UnitName}
use Rattle.asl_tree.specs.View.{fits, form, operands_as, targets_of, plain_of, not_of, apply_of, operated, symbol_of, buffer, body_bytes, packaged, counted, items_in}
use Rattle.asl_prints.specs.Forms.{formed, formed_args}
use Rattle.asl_formats.specs.Pass.{formed_body}

-- an argument as an operand
abbrev pub first_operand : Letter → Tree → Tree
first_operand (L.Raw size) (Integer number) = Raw size number
first_operand (L.Raw size) t = Misshapen
first_operand Valued Omitted = Constant Literal.Ones
first_operand letter t = t

pub operands_first : (letter : Letter) (letters : List Letter) (t : Tree) (ts : Trees) → operands_as (letter ∷ letters) (tree t ts) ≡ tree (first_operand letter t) (operands_as letters ts)
operands_first (L.Raw size) letters (Integer number) ts = refl
operands_first (L.Raw size) letters t ts = refl
operands_first Valued letters Omitted ts = refl
operands_first letter letters t ts = refl

formed_first : (letter : Letter) (t : Tree) → formed (first_operand letter t) ≡ first_operand letter (formed t)
formed_first (L.Raw size) (Integer number) = refl
formed_first (L.Raw size) t = refl
formed_first Valued Omitted = refl
formed_first letter t = refl

pub formed_operands : (letters : List Letter) (ts : Trees) → formed_args (operands_as letters ts) ≡ operands_as letters (formed_args ts)
formed_operands [] ts = refl
formed_operands (letter ∷ letters) no_trees = refl
formed_operands (letter ∷ letters) (tree t ts) =
    ap formed_args (operands_first letter letters t ts)
    ∙ ap (λ x. tree x (formed_args (operands_as letters ts))) (formed_first letter t)
    ∙ ap (tree (first_operand letter (formed t))) (formed_operands letters ts)
    ∙ sym (operands_first letter letters (formed t) (formed_args ts))

formed_targets : (letters : List Letter) (ts : Trees) → formed_args (targets_of letters ts) ≡ targets_of letters (formed_args ts)
formed_targets [] ts = refl
formed_targets (letter ∷ letters) no_trees = refl
formed_targets (letter ∷ letters) (tree t ts) = formed_targets letters ts

formed_plain : (op : Plain) (args : Trees) → formed (plain_of op args) ≡ plain_of op (formed_args args)
formed_plain op args =
    ap (λ ts. Apply op ts (formed_args (targets_of (row_of op).operands args))) (formed_operands (row_of op).operands args)
    ∙ ap (Apply op (operands_as (row_of op).operands (formed_args args))) (formed_targets (row_of op).operands args)

formed_not : (op : IntOp) (args : Trees) → formed (not_of op args) ≡ not_of op (formed_args args)
formed_not op args = formed_plain (Plain.Number IntOp.LNot) (tree (plain_of (Plain.Number op) args) no_trees) ∙ ap (λ t. plain_of (Plain.Number IntOp.LNot) (tree t no_trees)) (formed_plain (Plain.Number op) args)

formed_apply : (op : Plain) (args : Trees) → formed (apply_of op args) ≡ apply_of op (formed_args args)
formed_apply (Plain.Number IntOp.LNotEqual) args = formed_not IntOp.LEqual args
formed_apply (Plain.Number IntOp.LLessEqual) args = formed_not IntOp.LGreater args
formed_apply (Plain.Number IntOp.LGreaterEqual) args = formed_not IntOp.LLess args
formed_apply op args = formed_plain op args

formed_buffer : (size : Tree) (bytes : List ℕ) → formed (buffer size bytes) ≡ buffer (formed size) bytes
formed_buffer Omitted bytes = refl
formed_buffer size bytes = refl

count_formed : (ts : Trees) → count (formed_args ts) ≡ count ts
count_formed no_trees = refl
count_formed (tree t ts) = ap suc (count_formed ts)

formed_counted : (n : ℕ) (elements : Trees) → formed (counted n elements) ≡ counted n (formed_args elements)
formed_counted n elements = by_less (nat_le n 255)
  where
    by_less : (c : Bool) → formed (if c then Package n elements else VarPackage (Integer n) elements) ≡ (if c then Package n (formed_args elements) else VarPackage (Integer n) (formed_args elements))
    by_less true = refl
    by_less false = refl

formed_packaged : (size : Tree) (elements : Trees) → formed (packaged size elements) ≡ packaged (formed size) (formed_args elements)
formed_packaged Omitted elements = formed_counted (count elements) elements ∙ sym (ap (λ n. counted n (formed_args elements)) (count_formed elements))
formed_packaged (Integer n) elements = formed_counted n elements
formed_packaged size elements = refl

by_items : (o : Option (List (FieldItem UnitName))) (made more : List (FieldItem UnitName) → Tree) → ((items : List (FieldItem UnitName)) → formed (made items) ≡ more items) → formed (choose o Misshapen made) ≡ choose o Misshapen more
by_items None made more h = refl
by_items (Some items) made more h = h items

fits_formed : (letters : List Letter) (ts : Trees) → fits letters (formed_args ts) ≡ fits letters ts
fits_formed [] no_trees = refl
fits_formed [] (tree t ts) = refl
fits_formed (letter ∷ letters) no_trees = refl
fits_formed (letter ∷ letters) (tree t ts) = fits_formed letters ts

formed_operated : (op : Plain) (args : Trees) → formed (operated op args) ≡ operated op (formed_args args)
formed_operated (Plain.Number IntOp.LNotEqual) args = refl
formed_operated (Plain.Number IntOp.LLessEqual) args = refl
formed_operated (Plain.Number IntOp.LGreaterEqual) args = refl
formed_operated op args = refl

formed_fitting : (c : Bool) (op : Plain) (args : Trees) → formed (if c then operated op args else Misshapen) ≡ (if c then operated op (formed_args args) else Misshapen)
formed_fitting true op args = formed_operated op args
formed_fitting false op args = refl

formed_symbol : (op : Plain) (args : Trees) → formed (symbol_of op args) ≡ symbol_of op (formed_args args)
formed_symbol op args =
    formed_fitting (fits (row_of op).operands args) op (operands_as (row_of op).operands args)
    ∙ ap (λ ts. if fits (row_of op).operands args then operated op ts else Misshapen) (formed_operands (row_of op).operands args)
    ∙ sym (ap (λ c. if c then operated op (operands_as (row_of op).operands (formed_args args)) else Misshapen) (fits_formed (row_of op).operands args))

-- a form with its arguments and its body formed
pub kept_form : (at : At) (op : Op) (args body : Trees) → formed (form at op args body) ≡ form at op (formed_args args) (formed_body op body)
kept_form here (Op.Declaration Declaration.Name) (tree (Use at name) (tree value no_trees)) no_trees = refl
kept_form here (Op.Declaration Declaration.Alias) (tree (Use from source) (tree (Use at name) no_trees)) no_trees = refl
kept_form here (Op.Declaration Declaration.External) (tree (Use at name) (tree (Integer type) no_trees)) no_trees = refl
kept_form here (Op.Declaration Declaration.External) (tree (Use at name) (tree (Integer type) (tree (Integer parameters) no_trees))) no_trees = refl
kept_form here (Op.Declaration Declaration.Method) (tree (Use at name) (tree (Integer arity) no_trees)) body = refl
kept_form here (Op.Declaration Declaration.Mutex) (tree (Use at name) (tree (Integer level) no_trees)) no_trees = refl
kept_form here (Op.Declaration Declaration.Event) (tree (Use at name) no_trees) no_trees = refl
kept_form here (Op.Declaration Declaration.Device) (tree (Use at name) no_trees) body = refl
kept_form here (Op.Declaration Declaration.ThermalZone) (tree (Use at name) no_trees) body = refl
kept_form here (Op.Declaration Declaration.PowerResource) (tree (Use at name) (tree (Integer level) (tree (Integer order) no_trees))) body = refl
kept_form here (Op.Declaration Declaration.Processor) (tree (Use at name) (tree (Integer number) (tree (Integer address) (tree (Integer size) no_trees)))) body = refl
kept_form here (Op.Declaration Declaration.Scope) (tree (Use at name) no_trees) body = refl
kept_form here (Op.Declaration Declaration.OperationRegion) (tree (Use at name) (tree (Integer space) (tree offset (tree size no_trees)))) no_trees = refl
kept_form here (Op.Declaration Declaration.Field) (tree (Use from region) (tree (Integer flags) no_trees)) body = by_items (items_in body) (λ items. Field here from region flags items) (λ items. Field here from region flags items) (λ items. refl)
kept_form here (Op.Declaration Declaration.IndexField) (tree (Use from index) (tree (Use to register) (tree (Integer flags) no_trees))) body = by_items (items_in body) (λ items. IndexField here from index to register flags items) (λ items. IndexField here from index to register flags items) (λ items. refl)
kept_form here (Op.Declaration Declaration.BankField) (tree (Use from region) (tree (Use to bank) (tree value (tree (Integer flags) no_trees)))) body = by_items (items_in body) (λ items. BankField here from region to bank value flags items) (λ items. BankField here from region to bank (formed value) flags items) (λ items. refl)
kept_form here (Op.Declaration Declaration.CreateField) (tree source (tree index (tree bits (tree (Use at name) no_trees)))) no_trees = refl
kept_form here (Op.Declaration Declaration.CreateBitField) (tree source (tree index (tree (Use at name) no_trees))) no_trees = refl
kept_form here (Op.Declaration Declaration.CreateByteField) (tree source (tree index (tree (Use at name) no_trees))) no_trees = refl
kept_form here (Op.Declaration Declaration.CreateWordField) (tree source (tree index (tree (Use at name) no_trees))) no_trees = refl
kept_form here (Op.Declaration Declaration.CreateDWordField) (tree source (tree index (tree (Use at name) no_trees))) no_trees = refl
kept_form here (Op.Declaration Declaration.CreateQWordField) (tree source (tree index (tree (Use at name) no_trees))) no_trees = refl
kept_form here (Op.Control Control.Return) (tree value no_trees) no_trees = refl
kept_form here (Op.Control Control.If) (tree test no_trees) body = refl
kept_form here (Op.Control Control.ElseIf) (tree test no_trees) body = refl
kept_form here (Op.Control Control.Else) no_trees body = refl
kept_form here (Op.Control Control.While) (tree test no_trees) body = refl
kept_form here (Op.Control Control.For) (tree start (tree test (tree step no_trees))) body = refl
kept_form here (Op.Control Control.Printf) (tree (String format) args) no_trees = refl
kept_form here (Op.Control Control.Fprintf) (tree place (tree (String format) args)) no_trees = refl
kept_form here (Op.Control Control.Switch) (tree value no_trees) cases = refl
kept_form here (Op.Control Control.Case) (tree value no_trees) body = refl
kept_form here (Op.Control Control.Default) no_trees body = refl
kept_form here (Op.Control Control.Break) no_trees no_trees = refl
kept_form here (Op.Control Control.Continue) no_trees no_trees = refl
kept_form here (Op.Literal literal) no_trees no_trees = refl
kept_form here (Op.Plain op) args no_trees = formed_apply op args
kept_form here (Op.Special Special.CondRefOf) (tree place (tree target no_trees)) no_trees = refl
kept_form here (Op.Special Special.Buffer) (tree size no_trees) body = formed_buffer size (body_bytes body)
kept_form here (Op.Special Special.Package) (tree size no_trees) body = formed_packaged size body
kept_form here (Op.Symbolic (Symbolic.Operator op)) args no_trees = formed_symbol op args
kept_form here (Op.Symbolic Symbolic.Assign) (tree target (tree value no_trees)) no_trees = refl
kept_form here (Op.Symbolic (Symbolic.AssignBy op)) (tree target (tree value no_trees)) no_trees = refl
kept_form here _ _ _ = refl
