-- A form that is whole, by its operator: its arguments and what stands in its braces are whole, and what is counted of it is counted of these.
use Rattle.std.proofs.Common.{◌≡◌, ℕ, ◌+◌, Bool, true, false, List, [], ◌∷◌, length, Option, Some, None, refl, sym, ap, subst, arith}
use Rattle.std.specs.Prelude.{nat_le, if◌then◌else◌}
use Rattle.acpi_values.specs.declared.operator.IntOp.{IntOp}
use Rattle.acpi_values.specs.declared.operator.Plain.{Plain}
use Rattle.acpi_values.specs.Operators.{Letter, Valued, Row, row_of}
use Rattle.acpi_values.specs.Operators as L
use Rattle.acpi_state.specs.Outcomes.{choose}
use Rattle.asl_tree.specs.FieldItems.{FieldItem, ConnectionItem, ToName, ToBytes}
use Rattle.asl_tree.specs.declared.term.Op.{Op}
use Rattle.asl_tree.specs.declared.term.Declaration.TheVariants as Declaration
use Rattle.asl_tree.specs.declared.term.Control.TheVariants as Control
use Rattle.asl_tree.specs.declared.term.Special.TheVariants as Special
use Rattle.asl_tree.specs.declared.term.Symbolic.TheVariants as Symbolic
use Rattle.asl_tree.specs.Tree.{At, Tree, Integer, String, Omitted, Use, Item, Fill, Package, VarPackage, Misshapen, Operated, Trees, no_trees, tree, count, Field, IndexField, BankField, UnitName}
use Rattle.asl_tree.specs.View.{fits, form, operands_as, targets_of, plain_of, not_of, apply_of, operated, symbol_of, buffer, body_bytes, packaged, counted, items_in}
use Rattle.core_nodes.specs.Nodes.{nodes_of, nodes_in}
use Rattle.core_nodes.specs.Weights.{leaves, leaves_in, copied, copied_cases, copied_default}
use Rattle.core_nodes.specs.Whole.{IsWhole, AreWhole}
use Rattle.core_nodes.specs.Forms.{operator_nodes, own_nodes, braces_nodes, AreWholeBraces, form_leaves, form_copied, case_copied, default_copied}

-- what is known of a term by the form that it is
pub record Fitting (op : Op) (args body : Trees) (t : Tree) : Type 0 where
  pub arguments : AreWhole args
  pub braces : AreWholeBraces op body
  pub count : nodes_of t ≡ own_nodes op + (nodes_in args + braces_nodes op body)
  pub weight : (integer : ℕ) → leaves integer t ≡ form_leaves integer op args
  pub copies : (integer step : ℕ) → copied integer step t ≡ form_copied integer step op args body
  pub cases : (integer step : ℕ) → copied_cases integer step (tree t no_trees) ≡ case_copied integer step op body
  pub default : (integer step : ℕ) (ts : Trees) → copied_default integer step (tree t ts) ≡ default_copied integer step op body (copied_default integer step ts)

-- ---- operands and targets

record Parts (letters : List Letter) (ts : Trees) : Type 0 where
  pub whole : AreWhole ts
  pub count : nodes_in ts ≡ nodes_in (operands_as letters ts) + nodes_in (targets_of letters ts)
  pub weight : (integer : ℕ) → leaves_in integer ts ≡ leaves_in integer (operands_as letters ts) + leaves_in integer (targets_of letters ts)

parts_more : (letter : Letter) (letters : List Letter) (t operand : Tree) (ts : Trees) → operands_as (letter ∷ letters) (tree t ts) ≡ tree operand (operands_as letters ts)
    → IsWhole t → nodes_of operand ≡ nodes_of t → ((integer : ℕ) → leaves integer operand ≡ leaves integer t) → Parts letters ts → Parts (letter ∷ letters) (tree t ts)
parts_more letter letters t operand ts e w n l p =
    let first = ap nodes_in e in
    let rest = p.count in
    record {
      whole = (w, p.whole);
      count = omega (arith, first, n, rest);
      weight = λ integer. let second = ap (leaves_in integer) e in let same = l integer in let others = p.weight integer in omega (arith, second, same, others);
    }

parts : (letters : List Letter) (ts : Trees) → AreWhole (operands_as letters ts) → AreWhole (targets_of letters ts) → Parts letters ts
parts [] ts w v = record { whole = v; count = omega arith; weight = λ integer. omega arith }
parts (letter ∷ letters) no_trees w v = record { whole = tt; count = refl; weight = λ integer. refl }
parts (L.Raw size ∷ letters) (tree (Integer n) ts) w v = parts_more (L.Raw size) letters (Integer n) _ ts refl tt refl (λ integer. refl) (parts letters ts w.1 v)
parts (L.Raw size ∷ letters) (tree t ts) w v = absurd w.0
parts (Valued ∷ letters) (tree Omitted ts) w v = parts_more Valued letters Omitted _ ts refl tt refl (λ integer. refl) (parts letters ts w.1 v)
parts (letter ∷ letters) (tree t ts) w v = parts_more letter letters t t ts refl w.0 refl (λ integer. refl) (parts letters ts w.1 v)

plain_parts : (op : Plain) (args : Trees) → IsWhole (plain_of op args) → Parts (row_of op).operands args
plain_parts op args w = parts (row_of op).operands args w.0 w.1

-- an operator, which is one node more where it is LNot of another
plain_fits : (op : Plain) (args : Trees) → operator_nodes op ≡ 1 → IsWhole (plain_of op args) → Fitting (Op.Plain op) args no_trees (plain_of op args)
plain_fits op args one w =
    let p = plain_parts op args w in
    let n = p.count in
    record { arguments = p.whole; braces = tt; count = omega (arith, one, n); weight = λ integer. sym (p.weight integer); copies = λ integer step. refl; cases = λ integer step. refl; default = λ integer step ts. refl }

not_fits : (op : Plain) (other : IntOp) (args : Trees) → operator_nodes op ≡ 2 → (row_of op).operands ≡ (row_of (Plain.Number other)).operands → IsWhole (not_of other args) → Fitting (Op.Plain op) args no_trees (not_of other args)
not_fits op other args two same w =
    let p = plain_parts (Plain.Number other) args w.0.0 in
    let n = p.count in
    record { arguments = p.whole; braces = tt; count = omega (arith, two, n); weight = λ integer. let l = p.weight integer in omega (arith, l); copies = λ integer step. refl; cases = λ integer step. refl; default = λ integer step ts. refl }

apply_fits : (op : Plain) (args : Trees) → IsWhole (apply_of op args) → Fitting (Op.Plain op) args no_trees (apply_of op args)
apply_fits (Plain.Number IntOp.LNotEqual) args w = not_fits (Plain.Number IntOp.LNotEqual) IntOp.LEqual args refl refl w
apply_fits (Plain.Number IntOp.LLessEqual) args w = not_fits (Plain.Number IntOp.LLessEqual) IntOp.LGreater args refl refl w
apply_fits (Plain.Number IntOp.LGreaterEqual) args w = not_fits (Plain.Number IntOp.LGreaterEqual) IntOp.LLess args refl refl w
apply_fits op args w = plain_fits op args refl w

-- ---- symbols

no_targets : (letters : List Letter) (ts : Trees) → fits letters ts ≡ true → targets_of letters ts ≡ no_trees
no_targets [] no_trees e = refl
no_targets [] (tree t ts) e = absurd cc
no_targets (letter ∷ letters) no_trees e = absurd cc
no_targets (letter ∷ letters) (tree t ts) e = no_targets letters ts e

-- what is written with a symbol has no copies
abbrev IsOperated : Tree → Type 0
IsOperated (Operated op args) = Unit {0}
IsOperated _ = ⊥

no_copies : (t : Tree) (integer step : ℕ) → IsOperated t → copied integer step t ≡ 0
no_copies (Operated op args) integer step o = refl
no_copies _ integer step o = absurd o

no_case : (t : Tree) (integer step : ℕ) → IsOperated t → copied_cases integer step (tree t no_trees) ≡ 0
no_case (Operated op args) integer step o = refl
no_case _ integer step o = absurd o

no_default : (t : Tree) (integer step : ℕ) (ts : Trees) → IsOperated t → copied_default integer step (tree t ts) ≡ copied_default integer step ts
no_default (Operated op args) integer step ts o = refl
no_default _ integer step ts o = absurd o

abbrev Symbol : Plain → Op
Symbol op = Op.Symbolic (Symbolic.Operator op)

module _ (op : Plain) (args : Trees) (e : fits (row_of op).operands args ≡ true) where
  abbrev operands : Trees
  operands = operands_as (row_of op).operands args

  symbol_parts : AreWhole operands → Parts (row_of op).operands args
  symbol_parts w = parts (row_of op).operands args w (subst AreWhole (sym (no_targets (row_of op).operands args e)) tt)

  -- whatever it becomes has the operands and some nodes more
  symbol_fits : (t : Tree) → AreWhole operands → nodes_of t ≡ operator_nodes op + nodes_in operands → ((integer : ℕ) → leaves integer t ≡ leaves_in integer operands) → IsOperated t → Fitting (Symbol op) args no_trees t
  symbol_fits t w n l o =
      let p = symbol_parts w in
      let none = no_targets (row_of op).operands args e in
      let no_nodes = ap nodes_in none in
      let nodes = p.count in
      record {
        arguments = p.whole;
        braces = tt;
        count = omega (arith, n, nodes, no_nodes);
        weight = λ integer. let no_leaves = ap (leaves_in integer) none in let same = l integer in let leaves' = p.weight integer in omega (arith, same, leaves', no_leaves);
        copies = λ integer step. no_copies t integer step o;
        cases = λ integer step. no_case t integer step o;
        default = λ integer step ts. no_default t integer step ts o;
      }

operated_fits : (op : Plain) (args : Trees) → fits (row_of op).operands args ≡ true → IsWhole (operated op (operands_as (row_of op).operands args)) → Fitting (Symbol op) args no_trees (operated op (operands_as (row_of op).operands args))
operated_fits (Plain.Number IntOp.LNotEqual) args e w = symbol_fits (Plain.Number IntOp.LNotEqual) args e _ w.0 (omega arith) (λ integer. omega arith) tt
operated_fits (Plain.Number IntOp.LLessEqual) args e w = symbol_fits (Plain.Number IntOp.LLessEqual) args e _ w.0 (omega arith) (λ integer. omega arith) tt
operated_fits (Plain.Number IntOp.LGreaterEqual) args e w = symbol_fits (Plain.Number IntOp.LGreaterEqual) args e _ w.0 (omega arith) (λ integer. omega arith) tt
operated_fits op args e w = symbol_fits op args e _ w (omega arith) (λ integer. refl) tt

symbol_of_fits : (op : Plain) (args : Trees) → IsWhole (symbol_of op args) → Fitting (Symbol op) args no_trees (symbol_of op args)
symbol_of_fits op args w = by (fits (row_of op).operands args) refl w
  where
    by : (c : Bool) → fits (row_of op).operands args ≡ c → IsWhole (if c then operated op (operands_as (row_of op).operands args) else Misshapen)
        → Fitting (Symbol op) args no_trees (if c then operated op (operands_as (row_of op).operands args) else Misshapen)
    by true e w = operated_fits op args e w
    by false e w = absurd w

-- ---- Buffers and Packages

buffer_fits : (size : Tree) (body : Trees) → IsWhole (buffer size (body_bytes body)) → Fitting (Op.Special Special.Buffer) (tree size no_trees) body (buffer size (body_bytes body))
buffer_fits Omitted body w = record { arguments = (tt, tt); braces = tt; count = omega arith; weight = λ integer. refl; copies = λ integer step. refl; cases = λ integer step. refl; default = λ integer step ts. refl }
buffer_fits size body w = record { arguments = (w, tt); braces = tt; count = omega arith; weight = λ integer. refl; copies = λ integer step. refl; cases = λ integer step. refl; default = λ integer step ts. refl }

abbrev APackage : Tree → Trees → Tree → Type 0
APackage size body t = Fitting (Op.Special Special.Package) (tree size no_trees) body t

counted_fits : (size : Tree) (n : ℕ) (body : Trees) → IsWhole size → nodes_of size ≡ 1 → IsWhole (counted n body) → APackage size body (counted n body)
counted_fits size n body s one w = by (nat_le n 255) w
  where
    by : (c : Bool) → IsWhole (if c then Package n body else VarPackage (Integer n) body) → APackage size body (if c then Package n body else VarPackage (Integer n) body)
    by true w = record { arguments = (s, tt); braces = w; count = omega (arith, one); weight = λ integer. refl; copies = λ integer step. refl; cases = λ integer step. refl; default = λ integer step ts. refl }
    by false w = record { arguments = (s, tt); braces = w.1; count = omega (arith, one); weight = λ integer. refl; copies = λ integer step. refl; cases = λ integer step. refl; default = λ integer step ts. refl }

packaged_fits : (size : Tree) (body : Trees) → IsWhole (packaged size body) → APackage size body (packaged size body)
packaged_fits Omitted body w = counted_fits Omitted (count body) body tt refl w
packaged_fits (Integer n) body w = counted_fits (Integer n) n body tt refl w
packaged_fits size body w = record { arguments = (w.0, tt); braces = w.1; count = omega arith; weight = λ integer. refl; copies = λ integer step. refl; cases = λ integer step. refl; default = λ integer step ts. refl }

-- ---- the list of a field

abbrev Listed : Trees → Option (List (FieldItem UnitName)) → Type 0
Listed ts None = Unit {0}
Listed ts (Some items) = AreWhole ts × (nodes_in ts ≡ length items)

more_listed : (t : Tree) (item : FieldItem UnitName) (ts : Trees) → IsWhole t → nodes_of t ≡ 1 → (o : Option (List (FieldItem UnitName))) → Listed ts o → Listed (tree t ts) (choose o None (λ items. Some (item ∷ items)))
more_listed t item ts w one None h = tt
more_listed t item ts w one (Some items) h = let n = h.1 in ((w, h.0), omega (arith, one, n))

listed : (ts : Trees) → Listed ts (items_in ts)
listed no_trees = (tt, refl)
listed (tree (Item item) ts) = more_listed (Item item) item ts tt refl (items_in ts) (listed ts)
listed (tree (Use at name) ts) = more_listed (Use at name) (ConnectionItem (ToName at name)) ts tt refl (items_in ts) (listed ts)
listed (tree (Fill bytes) ts) = more_listed (Fill bytes) (ConnectionItem (ToBytes bytes)) ts tt refl (items_in ts) (listed ts)
listed (tree t ts) = tt

field_fits : (op : Op) (args body : Trees) (made : List (FieldItem UnitName) → Tree) (o : Option (List (FieldItem UnitName))) → Listed body o
    → ((items : List (FieldItem UnitName)) → AreWhole body → nodes_in body ≡ length items → IsWhole (made items) → Fitting op args body (made items))
    → IsWhole (choose o Misshapen made) → Fitting op args body (choose o Misshapen made)
field_fits op args body made None l h w = absurd w
field_fits op args body made (Some items) l h w = h items l.0 l.1 w

-- ---- forms

pub form_fits : (here : At) (op : Op) (args body : Trees) → IsWhole (form here op args body) → Fitting op args body (form here op args body)
form_fits here (Op.Declaration Declaration.Name) (tree (Use at name) (tree value no_trees)) no_trees w = record { arguments = (tt, (w, tt)); braces = tt; count = omega arith; weight = λ integer. refl; copies = λ integer step. refl; cases = λ integer step. refl; default = λ integer step ts. refl }
form_fits here (Op.Declaration Declaration.Alias) (tree (Use from source) (tree (Use at name) no_trees)) no_trees w = record { arguments = (tt, (tt, tt)); braces = tt; count = refl; weight = λ integer. refl; copies = λ integer step. refl; cases = λ integer step. refl; default = λ integer step ts. refl }
form_fits here (Op.Declaration Declaration.External) (tree (Use at name) (tree (Integer type) no_trees)) no_trees w = record { arguments = (tt, (tt, tt)); braces = tt; count = refl; weight = λ integer. refl; copies = λ integer step. refl; cases = λ integer step. refl; default = λ integer step ts. refl }
form_fits here (Op.Declaration Declaration.External) (tree (Use at name) (tree (Integer type) (tree (Integer parameters) no_trees))) no_trees w =
    record { arguments = (tt, (tt, (tt, tt))); braces = tt; count = refl; weight = λ integer. refl; copies = λ integer step. refl; cases = λ integer step. refl; default = λ integer step ts. refl }
form_fits here (Op.Declaration Declaration.Method) (tree (Use at name) (tree (Integer arity) no_trees)) body w = record { arguments = (tt, (tt, tt)); braces = w; count = omega arith; weight = λ integer. refl; copies = λ integer step. refl; cases = λ integer step. refl; default = λ integer step ts. refl }
form_fits here (Op.Declaration Declaration.Mutex) (tree (Use at name) (tree (Integer level) no_trees)) no_trees w = record { arguments = (tt, (tt, tt)); braces = tt; count = refl; weight = λ integer. refl; copies = λ integer step. refl; cases = λ integer step. refl; default = λ integer step ts. refl }
form_fits here (Op.Declaration Declaration.Event) (tree (Use at name) no_trees) no_trees w = record { arguments = (tt, tt); braces = tt; count = refl; weight = λ integer. refl; copies = λ integer step. refl; cases = λ integer step. refl; default = λ integer step ts. refl }
form_fits here (Op.Declaration Declaration.Device) (tree (Use at name) no_trees) body w = record { arguments = (tt, tt); braces = w; count = omega arith; weight = λ integer. refl; copies = λ integer step. refl; cases = λ integer step. refl; default = λ integer step ts. refl }
form_fits here (Op.Declaration Declaration.ThermalZone) (tree (Use at name) no_trees) body w = record { arguments = (tt, tt); braces = w; count = omega arith; weight = λ integer. refl; copies = λ integer step. refl; cases = λ integer step. refl; default = λ integer step ts. refl }
form_fits here (Op.Declaration Declaration.PowerResource) (tree (Use at name) (tree (Integer level) (tree (Integer order) no_trees))) body w =
    record { arguments = (tt, (tt, (tt, tt))); braces = w; count = omega arith; weight = λ integer. refl; copies = λ integer step. refl; cases = λ integer step. refl; default = λ integer step ts. refl }
form_fits here (Op.Declaration Declaration.Processor) (tree (Use at name) (tree (Integer number) (tree (Integer address) (tree (Integer size) no_trees)))) body w =
    record { arguments = (tt, (tt, (tt, (tt, tt)))); braces = w; count = omega arith; weight = λ integer. refl; copies = λ integer step. refl; cases = λ integer step. refl; default = λ integer step ts. refl }
form_fits here (Op.Declaration Declaration.Scope) (tree (Use at name) no_trees) body w = record { arguments = (tt, tt); braces = w; count = omega arith; weight = λ integer. refl; copies = λ integer step. refl; cases = λ integer step. refl; default = λ integer step ts. refl }
form_fits here (Op.Declaration Declaration.OperationRegion) (tree (Use at name) (tree (Integer space) (tree offset (tree size no_trees)))) no_trees w =
    record { arguments = (tt, (tt, w)); braces = tt; count = omega arith; weight = λ integer. refl; copies = λ integer step. refl; cases = λ integer step. refl; default = λ integer step ts. refl }
form_fits here (Op.Declaration Declaration.Field) (tree (Use from region) (tree (Integer flags) no_trees)) body w =
    field_fits (Op.Declaration Declaration.Field) (tree (Use from region) (tree (Integer flags) no_trees)) body (λ items. Field here from region flags items) (items_in body) (listed body)
    (λ items v n w. record { arguments = (tt, (tt, tt)); braces = v; count = omega (arith, n); weight = λ integer. refl; copies = λ integer step. refl; cases = λ integer step. refl; default = λ integer step ts. refl }) w
form_fits here (Op.Declaration Declaration.IndexField) (tree (Use from index) (tree (Use to register) (tree (Integer flags) no_trees))) body w =
    field_fits (Op.Declaration Declaration.IndexField) (tree (Use from index) (tree (Use to register) (tree (Integer flags) no_trees))) body (λ items. IndexField here from index to register flags items) (items_in body) (listed body)
    (λ items v n w. record { arguments = (tt, (tt, (tt, tt))); braces = v; count = omega (arith, n); weight = λ integer. refl; copies = λ integer step. refl; cases = λ integer step. refl; default = λ integer step ts. refl }) w
form_fits here (Op.Declaration Declaration.BankField) (tree (Use from region) (tree (Use to bank) (tree value (tree (Integer flags) no_trees)))) body w =
    field_fits (Op.Declaration Declaration.BankField) (tree (Use from region) (tree (Use to bank) (tree value (tree (Integer flags) no_trees)))) body (λ items. BankField here from region to bank value flags items) (items_in body) (listed body)
    (λ items v n w. record { arguments = (tt, (tt, (w, (tt, tt)))); braces = v; count = omega (arith, n); weight = λ integer. refl; copies = λ integer step. refl; cases = λ integer step. refl; default = λ integer step ts. refl }) w
form_fits here (Op.Declaration Declaration.CreateField) (tree source (tree index (tree bits (tree (Use at name) no_trees)))) no_trees w =
    record { arguments = (w.0, (w.1.0, (w.1.1.0, (tt, tt)))); braces = tt; count = omega arith; weight = λ integer. refl; copies = λ integer step. refl; cases = λ integer step. refl; default = λ integer step ts. refl }
form_fits here (Op.Declaration Declaration.CreateBitField) (tree source (tree index (tree (Use at name) no_trees))) no_trees w =
    record { arguments = (w.0, (w.1.0, (tt, tt))); braces = tt; count = omega arith; weight = λ integer. refl; copies = λ integer step. refl; cases = λ integer step. refl; default = λ integer step ts. refl }
form_fits here (Op.Declaration Declaration.CreateByteField) (tree source (tree index (tree (Use at name) no_trees))) no_trees w =
    record { arguments = (w.0, (w.1.0, (tt, tt))); braces = tt; count = omega arith; weight = λ integer. refl; copies = λ integer step. refl; cases = λ integer step. refl; default = λ integer step ts. refl }
form_fits here (Op.Declaration Declaration.CreateWordField) (tree source (tree index (tree (Use at name) no_trees))) no_trees w =
    record { arguments = (w.0, (w.1.0, (tt, tt))); braces = tt; count = omega arith; weight = λ integer. refl; copies = λ integer step. refl; cases = λ integer step. refl; default = λ integer step ts. refl }
form_fits here (Op.Declaration Declaration.CreateDWordField) (tree source (tree index (tree (Use at name) no_trees))) no_trees w =
    record { arguments = (w.0, (w.1.0, (tt, tt))); braces = tt; count = omega arith; weight = λ integer. refl; copies = λ integer step. refl; cases = λ integer step. refl; default = λ integer step ts. refl }
form_fits here (Op.Declaration Declaration.CreateQWordField) (tree source (tree index (tree (Use at name) no_trees))) no_trees w =
    record { arguments = (w.0, (w.1.0, (tt, tt))); braces = tt; count = omega arith; weight = λ integer. refl; copies = λ integer step. refl; cases = λ integer step. refl; default = λ integer step ts. refl }
form_fits here (Op.Control Control.Return) (tree value no_trees) no_trees w = record { arguments = (w, tt); braces = tt; count = omega arith; weight = λ integer. refl; copies = λ integer step. refl; cases = λ integer step. refl; default = λ integer step ts. refl }
form_fits here (Op.Control Control.If) (tree test no_trees) body w = record { arguments = (w.0, tt); braces = w.1; count = omega arith; weight = λ integer. refl; copies = λ integer step. refl; cases = λ integer step. refl; default = λ integer step ts. refl }
form_fits here (Op.Control Control.ElseIf) (tree test no_trees) body w = record { arguments = (w.0, tt); braces = w.1; count = omega arith; weight = λ integer. refl; copies = λ integer step. refl; cases = λ integer step. refl; default = λ integer step ts. refl }
form_fits here (Op.Control Control.Else) no_trees body w = record { arguments = tt; braces = w; count = omega arith; weight = λ integer. refl; copies = λ integer step. refl; cases = λ integer step. refl; default = λ integer step ts. refl }
form_fits here (Op.Control Control.While) (tree test no_trees) body w = record { arguments = (w.0, tt); braces = w.1; count = omega arith; weight = λ integer. refl; copies = λ integer step. refl; cases = λ integer step. refl; default = λ integer step ts. refl }
form_fits here (Op.Control Control.For) (tree start (tree test (tree turn no_trees))) body w =
    record { arguments = (w.0, (w.1, (w.2, tt))); braces = w.3; count = omega arith; weight = λ integer. refl; copies = λ integer step. refl; cases = λ integer step. refl; default = λ integer step ts. refl }
form_fits here (Op.Control Control.Switch) (tree value no_trees) cases w = record { arguments = (w.0, tt); braces = w.1; count = omega arith; weight = λ integer. refl; copies = λ integer step. refl; cases = λ integer step. refl; default = λ integer step ts. refl }
form_fits here (Op.Control Control.Case) (tree value no_trees) body w = record { arguments = (w.0, tt); braces = w.1; count = omega arith; weight = λ integer. refl; copies = λ integer step. refl; cases = λ integer step. omega arith; default = λ integer step ts. refl }
form_fits here (Op.Control Control.Default) no_trees body w = record { arguments = tt; braces = w; count = omega arith; weight = λ integer. refl; copies = λ integer step. refl; cases = λ integer step. refl; default = λ integer step ts. refl }
form_fits here (Op.Control Control.Break) no_trees no_trees w = record { arguments = tt; braces = tt; count = refl; weight = λ integer. refl; copies = λ integer step. refl; cases = λ integer step. refl; default = λ integer step ts. refl }
form_fits here (Op.Control Control.Continue) no_trees no_trees w = record { arguments = tt; braces = tt; count = refl; weight = λ integer. refl; copies = λ integer step. refl; cases = λ integer step. refl; default = λ integer step ts. refl }
form_fits here (Op.Control Control.Printf) (tree (String format) args) no_trees w = record { arguments = (tt, w.1); braces = tt; count = omega arith; weight = λ integer. refl; copies = λ integer step. refl; cases = λ integer step. refl; default = λ integer step ts. refl }
form_fits here (Op.Control Control.Fprintf) (tree place (tree (String format) args)) no_trees w = record { arguments = (w.0, (tt, w.1)); braces = tt; count = omega arith; weight = λ integer. refl; copies = λ integer step. refl; cases = λ integer step. refl; default = λ integer step ts. refl }
form_fits here (Op.Literal literal) no_trees no_trees w = record { arguments = tt; braces = tt; count = refl; weight = λ integer. refl; copies = λ integer step. refl; cases = λ integer step. refl; default = λ integer step ts. refl }
form_fits here (Op.Plain op) args no_trees w = apply_fits op args w
form_fits here (Op.Special Special.CondRefOf) (tree place (tree target no_trees)) no_trees w = record { arguments = (w.0, (w.1, tt)); braces = tt; count = omega arith; weight = λ integer. refl; copies = λ integer step. refl; cases = λ integer step. refl; default = λ integer step ts. refl }
form_fits here (Op.Special Special.Buffer) (tree size no_trees) body w = buffer_fits size body w
form_fits here (Op.Special Special.Package) (tree size no_trees) body w = packaged_fits size body w
form_fits here (Op.Symbolic (Symbolic.Operator op)) args no_trees w = symbol_of_fits op args w
form_fits here (Op.Symbolic Symbolic.Assign) (tree target (tree value no_trees)) no_trees w = record { arguments = (w.0, (w.1, tt)); braces = tt; count = omega arith; weight = λ integer. omega arith; copies = λ integer step. refl; cases = λ integer step. refl; default = λ integer step ts. refl }
form_fits here (Op.Symbolic (Symbolic.AssignBy op)) (tree target (tree value no_trees)) no_trees w = record { arguments = (w.0, (w.1, tt)); braces = tt; count = omega arith; weight = λ integer. omega arith; copies = λ integer step. refl; cases = λ integer step. refl; default = λ integer step ts. refl }
form_fits here _ _ _ w = absurd w
