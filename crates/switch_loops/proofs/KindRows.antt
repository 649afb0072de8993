-- What forms are for Switches, by their trees.
use Rattle.std.proofs.Common.{◌≡◌, ℕ, suc, ◌+◌, Bool, true, false, List, Option, Some, None, refl, sym, ap, ◌∙◌, arith}
use Rattle.std.specs.Prelude.{min, ◌||◌}
use Rattle.std.specs.Prelude.{nat_le, if◌then◌else◌}
use Rattle.asl_tree.specs.FieldItems.{FieldItem}
use Rattle.asl_tree.specs.View.{fits, operands_as, operated, symbol_of, form, apply_of, buffer, body_bytes, packaged, counted, items_in}
use Rattle.acpi_values.specs.declared.operator.IntOp.{IntOp}
use Rattle.acpi_values.specs.declared.operator.Plain.{Plain}
use Rattle.acpi_values.specs.Operators.{row_of}
use Rattle.asl_tree.specs.declared.term.Op.{Op}
use Rattle.asl_tree.specs.declared.term.Declaration.TheVariants as Declaration
use Rattle.asl_tree.specs.declared.term.Control.TheVariants as Control
use Rattle.asl_tree.specs.declared.term.Special.TheVariants as Special
use Rattle.asl_tree.specs.declared.term.Symbolic.TheVariants as Symbolic
use Rattle.acpi_state.specs.Outcomes.{choose}
use Rattle.asl_tree.specs.declared.term.Node.{Node}
use Rattle.asl_tree.specs.declared.term.Term.{Term}
use Rattle.asl_tree.specs.declared.term.Term as D
use Rattle.asl_tree.specs.Tree.{At, Tree, Integer, String, Omitted, Use, Package, VarPackage, Method, Container', Scope, If, ElseIf, Else, While, For, Switch, Case, Default, Continue, Misshapen, Trees, no_trees, tree, count, Field, IndexField, BankField, UnitName}
use Rattle.asl_tree.specs.View.{tree_of, row_trees, trees_of}
use Rattle.acpi_names.specs.Walked.{TermShape, OfForm, term_shape, shape_as, node_tree}
use Rattle.acpi_names.specs.declared.part.Shape.{Shape}
use Rattle.acpi_names.specs.declared.part.Shape.TheVariants as S
use Rattle.hidden_locals.specs.Switches.{depth_all, are_crossed}
use Rattle.hidden_locals.specs.Crossing.{have_continue}
use Rattle.acpi_names.specs.Parts.{fitting}
use Rattle.acpi_names.specs.declared.part.NameRole.TheVariants as P
use Rattle.switch_loops.specs.Kinds.{flagged, part_kind, form_kind, shape_kind}
use Rattle.switch_loops.specs.Measures.{capped, measured, measured_one, nothing, around}
use Rattle.switch_loops.specs.declared.kind.TermRole.{TermRole}
use Rattle.switch_loops.specs.declared.measure.Measure.{Measure}

abbrev pub tree_kind : Tree → TermRole
tree_kind (If test body) = TermRole.Block
tree_kind (ElseIf test body) = TermRole.Block
tree_kind (Else body) = TermRole.Block
tree_kind (Container' kind at name body) = TermRole.Block
tree_kind (Scope here at name body) = TermRole.Block
tree_kind (While test body) = TermRole.Loop
tree_kind (For start test step body) = TermRole.Loop
tree_kind (Switch value cases) = TermRole.Switch
tree_kind (Case value body) = TermRole.Case
tree_kind (Default body) = TermRole.Default
tree_kind (Method at name flags body) = TermRole.Method
tree_kind Continue = TermRole.Continue
tree_kind _ = TermRole.Other

kind_items : (o : Option (List (FieldItem UnitName))) (made : List (FieldItem UnitName) → Tree) → ((items : List (FieldItem UnitName)) → tree_kind (made items) ≡ TermRole.Other) → tree_kind (choose o Misshapen made) ≡ TermRole.Other
kind_items None made h = refl
kind_items (Some items) made h = h items

kind_apply : (op : Plain) (args : Trees) → tree_kind (apply_of op args) ≡ TermRole.Other
kind_apply (Plain.Number IntOp.LNotEqual) args = refl
kind_apply (Plain.Number IntOp.LLessEqual) args = refl
kind_apply (Plain.Number IntOp.LGreaterEqual) args = refl
kind_apply op args = refl

kind_operated : (op : Plain) (args : Trees) → tree_kind (operated op args) ≡ TermRole.Other
kind_operated (Plain.Number IntOp.LNotEqual) args = refl
kind_operated (Plain.Number IntOp.LLessEqual) args = refl
kind_operated (Plain.Number IntOp.LGreaterEqual) args = refl
kind_operated op args = refl

kind_symbol : (op : Plain) (args : Trees) → tree_kind (symbol_of op args) ≡ TermRole.Other
kind_symbol op args = by_fit (fits (row_of op).operands args)
  where
    by_fit : (c : Bool) → tree_kind (if c then operated op (operands_as (row_of op).operands args) else Misshapen) ≡ TermRole.Other
    by_fit true = kind_operated op (operands_as (row_of op).operands args)
    by_fit false = refl

kind_buffer : (size : Tree) (bytes : List ℕ) → tree_kind (buffer size bytes) ≡ TermRole.Other
kind_buffer Omitted bytes = refl
kind_buffer size bytes = refl

kind_counted : (n : ℕ) (elements : Trees) → tree_kind (counted n elements) ≡ TermRole.Other
kind_counted n elements = by_less (nat_le n 255)
  where
    by_less : (c : Bool) → tree_kind (if c then Package n elements else VarPackage (Integer n) elements) ≡ TermRole.Other
    by_less true = refl
    by_less false = refl

kind_packaged : (size : Tree) (elements : Trees) → tree_kind (packaged size elements) ≡ TermRole.Other
kind_packaged Omitted elements = kind_counted (count elements) elements
kind_packaged (Integer n) elements = kind_counted n elements
kind_packaged size elements = refl

pub kind_form : (at : At) (op : Op) (args body : Trees) → tree_kind (form at op args body) ≡ form_kind op args body
kind_form here (Op.Declaration Declaration.Name) (tree (Use at name) (tree value no_trees)) no_trees = refl
kind_form here (Op.Declaration Declaration.Alias) (tree (Use from source) (tree (Use at name) no_trees)) no_trees = refl
kind_form here (Op.Declaration Declaration.External) (tree (Use at name) (tree (Integer type) no_trees)) no_trees = refl
kind_form here (Op.Declaration Declaration.External) (tree (Use at name) (tree (Integer type) (tree (Integer count) no_trees))) no_trees = refl
kind_form here (Op.Declaration Declaration.Method) (tree (Use at name) (tree (Integer arity) no_trees)) body = refl
kind_form here (Op.Declaration Declaration.Mutex) (tree (Use at name) (tree (Integer level) no_trees)) no_trees = refl
kind_form here (Op.Declaration Declaration.Event) (tree (Use at name) no_trees) no_trees = refl
kind_form here (Op.Declaration Declaration.Device) (tree (Use at name) no_trees) body = refl
kind_form here (Op.Declaration Declaration.ThermalZone) (tree (Use at name) no_trees) body = refl
kind_form here (Op.Declaration Declaration.PowerResource) (tree (Use at name) (tree (Integer level) (tree (Integer order) no_trees))) body = refl
kind_form here (Op.Declaration Declaration.Processor) (tree (Use at name) (tree (Integer number) (tree (Integer address) (tree (Integer size) no_trees)))) body = refl
kind_form here (Op.Declaration Declaration.Scope) (tree (Use at name) no_trees) body = refl
kind_form here (Op.Declaration Declaration.OperationRegion) (tree (Use at name) (tree (Integer space) (tree offset (tree size no_trees)))) no_trees = refl
kind_form here (Op.Declaration Declaration.Field) (tree (Use from region) (tree (Integer flags) no_trees)) body = kind_items (items_in body) (λ items. Field here from region flags items) (λ items. refl)
kind_form here (Op.Declaration Declaration.IndexField) (tree (Use from index) (tree (Use to register) (tree (Integer flags) no_trees))) body = kind_items (items_in body) (λ items. IndexField here from index to register flags items) (λ items. refl)
kind_form here (Op.Declaration Declaration.BankField) (tree (Use from region) (tree (Use to bank) (tree value (tree (Integer flags) no_trees)))) body = kind_items (items_in body) (λ items. BankField here from region to bank value flags items) (λ items. refl)
kind_form here (Op.Declaration Declaration.CreateField) (tree source (tree index (tree bits (tree (Use at name) no_trees)))) no_trees = refl
kind_form here (Op.Declaration Declaration.CreateBitField) (tree source (tree index (tree (Use at name) no_trees))) no_trees = refl
kind_form here (Op.Declaration Declaration.CreateByteField) (tree source (tree index (tree (Use at name) no_trees))) no_trees = refl
kind_form here (Op.Declaration Declaration.CreateWordField) (tree source (tree index (tree (Use at name) no_trees))) no_trees = refl
kind_form here (Op.Declaration Declaration.CreateDWordField) (tree source (tree index (tree (Use at name) no_trees))) no_trees = refl
kind_form here (Op.Declaration Declaration.CreateQWordField) (tree source (tree index (tree (Use at name) no_trees))) no_trees = refl
kind_form here (Op.Control Control.Return) (tree value no_trees) no_trees = refl
kind_form here (Op.Control Control.If) (tree test no_trees) body = refl
kind_form here (Op.Control Control.ElseIf) (tree test no_trees) body = refl
kind_form here (Op.Control Control.Else) no_trees body = refl
kind_form here (Op.Control Control.While) (tree test no_trees) body = refl
kind_form here (Op.Control Control.For) (tree start (tree test (tree step no_trees))) body = refl
kind_form here (Op.Control Control.Printf) (tree (String format) args) no_trees = refl
kind_form here (Op.Control Control.Fprintf) (tree place (tree (String format) args)) no_trees = refl
kind_form here (Op.Control Control.Switch) (tree value no_trees) cases = refl
kind_form here (Op.Control Control.Case) (tree value no_trees) body = refl
kind_form here (Op.Control Control.Default) no_trees body = refl
kind_form here (Op.Control Control.Break) no_trees no_trees = refl
kind_form here (Op.Control Control.Continue) no_trees no_trees = refl
kind_form here (Op.Literal literal) no_trees no_trees = refl
kind_form here (Op.Plain op) args no_trees = kind_apply op args
kind_form here (Op.Special Special.CondRefOf) (tree place (tree target no_trees)) no_trees = refl
kind_form here (Op.Special Special.Buffer) (tree size no_trees) body = kind_buffer size (body_bytes body)
kind_form here (Op.Special Special.Package) (tree size no_trees) body = kind_packaged size body
kind_form here (Op.Symbolic (Symbolic.Operator op)) args no_trees = kind_symbol op args
kind_form here (Op.Symbolic Symbolic.Assign) (tree target (tree value no_trees)) no_trees = refl
kind_form here (Op.Symbolic (Symbolic.AssignBy op)) (tree target (tree value no_trees)) no_trees = refl
kind_form here _ _ _ = refl

pub kind_is : (at : At) (t : Term) → tree_kind (tree_of at t) ≡ shape_kind (term_shape t)
unfolding tree_of
kind_is at (D.Form' op shape args shape' body) = kind_form at op (row_trees args) (row_trees body)
kind_is at _ = refl

-- ---- measures

measured_items : (o : Option (List (FieldItem UnitName))) (made : List (FieldItem UnitName) → Tree) → ((items : List (FieldItem UnitName)) → measured_one (made items) ≡ nothing) → measured_one (choose o Misshapen made) ≡ nothing
measured_items None made h = refl
measured_items (Some items) made h = h items

measured_apply : (op : Plain) (args : Trees) → measured_one (apply_of op args) ≡ nothing
measured_apply (Plain.Number IntOp.LNotEqual) args = refl
measured_apply (Plain.Number IntOp.LLessEqual) args = refl
measured_apply (Plain.Number IntOp.LGreaterEqual) args = refl
measured_apply op args = refl

measured_operated : (op : Plain) (args : Trees) → measured_one (operated op args) ≡ nothing
measured_operated (Plain.Number IntOp.LNotEqual) args = refl
measured_operated (Plain.Number IntOp.LLessEqual) args = refl
measured_operated (Plain.Number IntOp.LGreaterEqual) args = refl
measured_operated op args = refl

measured_symbol : (op : Plain) (args : Trees) → measured_one (symbol_of op args) ≡ nothing
measured_symbol op args = by_fit (fits (row_of op).operands args)
  where
    by_fit : (c : Bool) → measured_one (if c then operated op (operands_as (row_of op).operands args) else Misshapen) ≡ nothing
    by_fit true = measured_operated op (operands_as (row_of op).operands args)
    by_fit false = refl

measured_buffer : (size : Tree) (bytes : List ℕ) → measured_one (buffer size bytes) ≡ nothing
measured_buffer Omitted bytes = refl
measured_buffer size bytes = refl

measured_counted : (n : ℕ) (elements : Trees) → measured_one (counted n elements) ≡ nothing
measured_counted n elements = by_less (nat_le n 255)
  where
    by_less : (c : Bool) → measured_one (if c then Package n elements else VarPackage (Integer n) elements) ≡ nothing
    by_less true = refl
    by_less false = refl

measured_packaged : (size : Tree) (elements : Trees) → measured_one (packaged size elements) ≡ nothing
measured_packaged Omitted elements = measured_counted (count elements) elements
measured_packaged (Integer n) elements = measured_counted n elements
measured_packaged size elements = refl

deeper : (n : ℕ) → capped (suc n) ≡ min (capped n) 8 + 1
deeper n = omega arith

pub measured_form : (at : At) (op : Op) (args body : Trees) → measured_one (form at op args body) ≡ around (form_kind op args body) (measured body)
measured_form here (Op.Declaration Declaration.Name) (tree (Use at name) (tree value no_trees)) no_trees = refl
measured_form here (Op.Declaration Declaration.Alias) (tree (Use from source) (tree (Use at name) no_trees)) no_trees = refl
measured_form here (Op.Declaration Declaration.External) (tree (Use at name) (tree (Integer type) no_trees)) no_trees = refl
measured_form here (Op.Declaration Declaration.External) (tree (Use at name) (tree (Integer type) (tree (Integer count) no_trees))) no_trees = refl
measured_form here (Op.Declaration Declaration.Method) (tree (Use at name) (tree (Integer arity) no_trees)) body = refl
measured_form here (Op.Declaration Declaration.Mutex) (tree (Use at name) (tree (Integer level) no_trees)) no_trees = refl
measured_form here (Op.Declaration Declaration.Event) (tree (Use at name) no_trees) no_trees = refl
measured_form here (Op.Declaration Declaration.Device) (tree (Use at name) no_trees) body = refl
measured_form here (Op.Declaration Declaration.ThermalZone) (tree (Use at name) no_trees) body = refl
measured_form here (Op.Declaration Declaration.PowerResource) (tree (Use at name) (tree (Integer level) (tree (Integer order) no_trees))) body = refl
measured_form here (Op.Declaration Declaration.Processor) (tree (Use at name) (tree (Integer number) (tree (Integer address) (tree (Integer size) no_trees)))) body = refl
measured_form here (Op.Declaration Declaration.Scope) (tree (Use at name) no_trees) body = refl
measured_form here (Op.Declaration Declaration.OperationRegion) (tree (Use at name) (tree (Integer space) (tree offset (tree size no_trees)))) no_trees = refl
measured_form here (Op.Declaration Declaration.Field) (tree (Use from region) (tree (Integer flags) no_trees)) body = measured_items (items_in body) (λ items. Field here from region flags items) (λ items. refl)
measured_form here (Op.Declaration Declaration.IndexField) (tree (Use from index) (tree (Use to register) (tree (Integer flags) no_trees))) body = measured_items (items_in body) (λ items. IndexField here from index to register flags items) (λ items. refl)
measured_form here (Op.Declaration Declaration.BankField) (tree (Use from region) (tree (Use to bank) (tree value (tree (Integer flags) no_trees)))) body = measured_items (items_in body) (λ items. BankField here from region to bank value flags items) (λ items. refl)
measured_form here (Op.Declaration Declaration.CreateField) (tree source (tree index (tree bits (tree (Use at name) no_trees)))) no_trees = refl
measured_form here (Op.Declaration Declaration.CreateBitField) (tree source (tree index (tree (Use at name) no_trees))) no_trees = refl
measured_form here (Op.Declaration Declaration.CreateByteField) (tree source (tree index (tree (Use at name) no_trees))) no_trees = refl
measured_form here (Op.Declaration Declaration.CreateWordField) (tree source (tree index (tree (Use at name) no_trees))) no_trees = refl
measured_form here (Op.Declaration Declaration.CreateDWordField) (tree source (tree index (tree (Use at name) no_trees))) no_trees = refl
measured_form here (Op.Declaration Declaration.CreateQWordField) (tree source (tree index (tree (Use at name) no_trees))) no_trees = refl
measured_form here (Op.Control Control.Return) (tree value no_trees) no_trees = refl
measured_form here (Op.Control Control.If) (tree test no_trees) body = refl
measured_form here (Op.Control Control.ElseIf) (tree test no_trees) body = refl
measured_form here (Op.Control Control.Else) no_trees body = refl
measured_form here (Op.Control Control.While) (tree test no_trees) body = refl
measured_form here (Op.Control Control.For) (tree start (tree test (tree step no_trees))) body = refl
measured_form here (Op.Control Control.Printf) (tree (String format) args) no_trees = refl
measured_form here (Op.Control Control.Fprintf) (tree place (tree (String format) args)) no_trees = refl
measured_form here (Op.Control Control.Switch) (tree value no_trees) cases = ap (λ n. record { levels = n; crossed = have_continue cases || are_crossed cases; continues = have_continue cases }) (deeper (depth_all cases))
measured_form here (Op.Control Control.Case) (tree value no_trees) body = refl
measured_form here (Op.Control Control.Default) no_trees body = refl
measured_form here (Op.Control Control.Break) no_trees no_trees = refl
measured_form here (Op.Control Control.Continue) no_trees no_trees = refl
measured_form here (Op.Literal literal) no_trees no_trees = refl
measured_form here (Op.Plain op) args no_trees = measured_apply op args
measured_form here (Op.Special Special.CondRefOf) (tree place (tree target no_trees)) no_trees = refl
measured_form here (Op.Special Special.Buffer) (tree size no_trees) body = measured_buffer size (body_bytes body)
measured_form here (Op.Special Special.Package) (tree size no_trees) body = measured_packaged size body
measured_form here (Op.Symbolic (Symbolic.Operator op)) args no_trees = measured_symbol op args
measured_form here (Op.Symbolic Symbolic.Assign) (tree target (tree value no_trees)) no_trees = refl
measured_form here (Op.Symbolic (Symbolic.AssignBy op)) (tree target (tree value no_trees)) no_trees = refl
measured_form here _ _ _ = refl

-- ---- nodes

abbrev measured_by : TermShape → Measure
measured_by (OfForm op args body) = around (form_kind op args body) (measured body)
measured_by shape = nothing

measured_term : (at : At) (t : Term) → measured_one (tree_of at t) ≡ measured_by (term_shape t)
unfolding tree_of
measured_term at (D.Form' op shape args shape' body) = measured_form at op (row_trees args) (row_trees body)
measured_term at _ = refl

pub measured_shape : (node : Node) (op : Op) (args body : List Node) (kind : TermRole) (inner result : Measure) → OfForm op (trees_of args) (trees_of body) ≡ term_shape node.term → kind ≡ form_kind op (trees_of args) (trees_of body)
    → inner ≡ measured (trees_of body) → result ≡ around kind inner → result ≡ measured_one (node_tree node)
measured_shape node op args body kind inner result shape ek ei er =
    er ∙ ap (λ k. around k inner) ek ∙ ap (around (form_kind op (trees_of args) (trees_of body))) ei ∙ ap measured_by shape ∙ sym (measured_term (record { id = node.id; place = node.place }) node.term)

pub measured_other : (node : Node) (shape : Shape) → shape_as shape ≡ term_shape node.term → ((op : Op) (args body : _) → shape ≡ S.Form op args body → ⊥) → nothing ≡ measured_one (node_tree node)
measured_other node shape e never = by_shape shape never ∙ ap measured_by e ∙ sym (measured_term (record { id = node.id; place = node.place }) node.term)
  where
    by_shape : (shape : Shape) → ((op : Op) (args body : _) → shape ≡ S.Form op args body → ⊥) → nothing ≡ measured_by (shape_as shape)
    by_shape (S.Form op args body) never = absurd (never op args body refl)
    by_shape (S.Name path) never = refl
    by_shape (S.Call path args) never = refl
    by_shape S.Other never = refl

-- ---- statements by their parts

pub within_kind : (b : Bool) → part_kind (fitting b P.Within) ≡ flagged b TermRole.Block
within_kind true = refl
within_kind false = refl

pub returns_kind : (b : Bool) → part_kind (fitting b P.Returns) ≡ TermRole.Other
returns_kind true = refl
returns_kind false = refl

pub prints_kind : (b : Bool) → part_kind (fitting b P.Prints) ≡ TermRole.Other
prints_kind true = refl
prints_kind false = refl

pub ruleset statement_rules = (within_kind, returns_kind, prints_kind)
