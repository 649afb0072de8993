-- Flags of the nodes that are names of descriptors, one node after another.
use Rattle.std.proofs.Common.{◌≡◌, ℕ, zero, suc, ◌+◌, ◌<◌, ◌≤◌, Bool, true, false, List, [], ◌∷◌, ◌++◌, length, get_or, set, take, Option, Some, None, refl, sym, ap, ◌∙◌, append_assoc, arith}
use Rattle.std.specs.Prelude.{◌||◌, ◌&&◌, nat_eq, nat_le, if◌then◌else◌}
use Rattle.std.proofs.lemmas.Bool.{eqb-true}
use Rattle.std.proofs.lemmas.Bool.Decides.{nat_tests}
use Rattle.std.proofs.lemmas.List.{take_all, get_or-set_same, get_or-set_other}
use Rattle.std.proofs.lemmas.List.Folds.{list_any-append}
use Rattle.acpi_state.specs.Outcomes.{choose}
use Rattle.asl_tree.specs.FieldItems.{FieldItem}
use Rattle.asl_tree.specs.Tree.{At, Tree, Use, Fill, Integer, Omitted, Package, VarPackage, Misshapen, Trees, no_trees, tree, count, Field, IndexField, BankField, UnitName, String}
use Rattle.asl_tree.specs.View.{tree_of, row_trees, trees_of, fits, operands_as, operated, symbol_of, form, apply_of, buffer, body_bytes, packaged, counted, items_in}
use Rattle.asl_tree.specs.declared.term.Op.{Op}
use Rattle.asl_tree.specs.declared.term.Declaration.TheVariants as Declaration
use Rattle.asl_tree.specs.declared.term.Control.TheVariants as Control
use Rattle.asl_tree.specs.declared.term.Special.TheVariants as Special
use Rattle.asl_tree.specs.declared.term.Symbolic.TheVariants as Symbolic
use Rattle.asl_tree.specs.declared.term.Node.{Node}
use Rattle.asl_tree.specs.declared.term.Term.{Term}
use Rattle.asl_tree.specs.declared.term.Term as D
use Rattle.acpi_values.specs.declared.operator.IntOp.{IntOp}
use Rattle.acpi_values.specs.declared.operator.Plain.{Plain}
use Rattle.acpi_values.specs.Operators.{row_of}
use Rattle.acpi_names.specs.Parts.{part_of}
use Rattle.acpi_names.specs.Walked.{TermShape, OfForm, term_shape, is_name_shape, node_tree}
use Rattle.acpi_names.proofs.Folds.{at_of}
use Rattle.acpi_names.proofs.FoldTelling.{is_form_shape}
use Rattle.acpi_names.proofs.Mentions.{right_nil}
use Rattle.acpi_names.proofs.Plain.{is_plain, plain_form}
use Rattle.name_entries.specs.Descriptors.{descriptor_name, descriptors_in, descriptors_among, is_among, fill_term, declared_descriptor, part_descriptors, AreFlagged, FlagsMore}

-- ---- flags

pub none_flagged : AreFlagged [] []
none_flagged zero = refl
none_flagged (suc node) = refl

pub flags_same : (flags : List Bool) → FlagsMore flags flags []
flags_same flags nodes said node = said node ∙ sym (ap (λ ns. is_among ns node) (right_nil nodes))

pub flags_then : (a b c : List Bool) (x y : List ℕ) → FlagsMore a b x → FlagsMore b c y → FlagsMore a c (x ++ y)
flags_then a b c x y h k nodes said node = k (nodes ++ x) (h nodes said) node ∙ ap (λ ns. is_among ns node) (append_assoc nodes x y)

pub flags_as : (a b : List Bool) (x y : List ℕ) → x ≡ y → FlagsMore a b x → FlagsMore a b y
flags_as a b x y e h nodes said node = h nodes said node ∙ ap (λ ns. is_among (nodes ++ ns) node) e

-- nothing more is read of flags with none behind
pub unflagged_behind : (flags : List Bool) (n : ℕ) → get_or (flags ++ false ∷ []) n false ≡ get_or flags n false
unflagged_behind [] zero = refl
unflagged_behind [] (suc n) = refl
unflagged_behind (x ∷ flags) zero = refl
unflagged_behind (x ∷ flags) (suc n) = unflagged_behind flags n

or_true : (b : Bool) → (b || true) ≡ true
or_true true = refl
or_true false = refl

or_false : (b : Bool) → (b || false) ≡ b
or_false true = refl
or_false false = refl

-- one flag is set
pub flag_set : (old now : List Bool) (number : ℕ) → number < length now → ((m : ℕ) → get_or now m false ≡ get_or old m false) → FlagsMore old (set now number true) (number ∷ [])
flag_set old now number lt same nodes said node = by_place (nat_eq node number) refl ∙ sym (list_any-append (nat_eq node) nodes (number ∷ []))
  where
    by_place : (c : Bool) → nat_eq node number ≡ c → get_or (set now number true) node false ≡ (is_among nodes node || (nat_eq node number || false))
    by_place true c =
        ap (λ k. get_or (set now number true) k false) (eqb-true node number c) ∙ get_or-set_same now number true false lt
        ∙ sym (ap (λ b. is_among nodes node || (b || false)) c ∙ or_true (is_among nodes node))
    by_place false c =
        get_or-set_other now number node true false (grind (arith, nat_tests, c)) ∙ same node ∙ said node
        ∙ sym (ap (λ b. is_among nodes node || (b || false)) c ∙ or_false (is_among nodes node))

-- ---- forms

by_items : (o : Option (List (FieldItem UnitName))) (made : List (FieldItem UnitName) → Tree) → ((items : List (FieldItem UnitName)) → descriptors_in (made items) ≡ []) → descriptors_in (choose o Misshapen made) ≡ []
by_items None made h = refl
by_items (Some items) made h = h items

none_apply : (op : Plain) (args : Trees) → descriptors_in (apply_of op args) ≡ []
none_apply (Plain.Number IntOp.LNotEqual) args = refl
none_apply (Plain.Number IntOp.LLessEqual) args = refl
none_apply (Plain.Number IntOp.LGreaterEqual) args = refl
none_apply op args = refl

none_operated : (op : Plain) (args : Trees) → descriptors_in (operated op args) ≡ []
none_operated (Plain.Number IntOp.LNotEqual) args = refl
none_operated (Plain.Number IntOp.LLessEqual) args = refl
none_operated (Plain.Number IntOp.LGreaterEqual) args = refl
none_operated op args = refl

none_symbol : (op : Plain) (args : Trees) → descriptors_in (symbol_of op args) ≡ []
none_symbol op args = by_fit (fits (row_of op).operands args)
  where
    by_fit : (c : Bool) → descriptors_in (if c then operated op (operands_as (row_of op).operands args) else Misshapen) ≡ []
    by_fit true = none_operated op (operands_as (row_of op).operands args)
    by_fit false = refl

none_buffer : (size : Tree) (bytes : List ℕ) → descriptors_in (buffer size bytes) ≡ []
none_buffer Omitted bytes = refl
none_buffer size bytes = refl

none_counted : (n : ℕ) (elements : Trees) → descriptors_in (counted n elements) ≡ []
none_counted n elements = by_less (nat_le n 255)
  where
    by_less : (c : Bool) → descriptors_in (if c then Package n elements else VarPackage (Integer n) elements) ≡ []
    by_less true = refl
    by_less false = refl

none_packaged : (size : Tree) (elements : Trees) → descriptors_in (packaged size elements) ≡ []
none_packaged Omitted elements = none_counted (count elements) elements
none_packaged (Integer n) elements = none_counted n elements
none_packaged size elements = refl

none_declared : (t u v : Tree) (ts : Trees) → [] ≡ declared_descriptor (tree t (tree u (tree v ts))) ++ []
none_declared (Use at name) u v ts = refl
none_declared t u v ts = refl

-- a form declares the descriptors of its part
form_descriptors : (here : At) (op : Op) (args body : Trees) → descriptors_in (form here op args body) ≡ part_descriptors (part_of op args body) args body
form_descriptors here (Op.Declaration Declaration.Name) (tree (Use at name) (tree value no_trees)) no_trees = sym (right_nil (descriptor_name at value))
form_descriptors here (Op.Declaration Declaration.Alias) (tree (Use from source) (tree (Use at name) no_trees)) no_trees = refl
form_descriptors here (Op.Declaration Declaration.External) (tree (Use at name) (tree (Integer type) no_trees)) no_trees = refl
form_descriptors here (Op.Declaration Declaration.External) (tree (Use at name) (tree (Integer type) (tree (Integer parameters) no_trees))) no_trees = refl
form_descriptors here (Op.Declaration Declaration.Method) (tree (Use at name) (tree (Integer arity) no_trees)) body = refl
form_descriptors here (Op.Declaration Declaration.Mutex) (tree (Use at name) (tree (Integer level) no_trees)) no_trees = refl
form_descriptors here (Op.Declaration Declaration.Event) (tree (Use at name) no_trees) no_trees = refl
form_descriptors here (Op.Declaration Declaration.Device) (tree (Use at name) no_trees) body = refl
form_descriptors here (Op.Declaration Declaration.ThermalZone) (tree (Use at name) no_trees) body = refl
form_descriptors here (Op.Declaration Declaration.PowerResource) (tree (Use at name) (tree (Integer level) (tree (Integer order) no_trees))) body = refl
form_descriptors here (Op.Declaration Declaration.Processor) (tree (Use at name) (tree (Integer number) (tree (Integer address) (tree (Integer size) no_trees)))) body = refl
form_descriptors here (Op.Declaration Declaration.Scope) (tree (Use at name) no_trees) body = refl
form_descriptors here (Op.Declaration Declaration.OperationRegion) (tree (Use at name) (tree (Integer space) (tree offset (tree size no_trees)))) no_trees = refl
form_descriptors here (Op.Declaration Declaration.Field) (tree (Use from region) (tree (Integer flags) no_trees)) body = by_items (items_in body) (λ items. Field here from region flags items) (λ items. refl)
form_descriptors here (Op.Declaration Declaration.IndexField) (tree (Use from index) (tree (Use to register) (tree (Integer flags) no_trees))) body = by_items (items_in body) (λ items. IndexField here from index to register flags items) (λ items. refl)
form_descriptors here (Op.Declaration Declaration.BankField) (tree (Use from region) (tree (Use to bank) (tree value (tree (Integer flags) no_trees)))) body = by_items (items_in body) (λ items. BankField here from region to bank value flags items) (λ items. refl)
form_descriptors here (Op.Declaration Declaration.CreateField) (tree source (tree index (tree bits (tree (Use at name) no_trees)))) no_trees = none_declared source index bits (tree (Use at name) no_trees)
form_descriptors here (Op.Declaration Declaration.CreateBitField) (tree source (tree index (tree (Use at name) no_trees))) no_trees = none_declared source index (Use at name) no_trees
form_descriptors here (Op.Declaration Declaration.CreateByteField) (tree source (tree index (tree (Use at name) no_trees))) no_trees = none_declared source index (Use at name) no_trees
form_descriptors here (Op.Declaration Declaration.CreateWordField) (tree source (tree index (tree (Use at name) no_trees))) no_trees = none_declared source index (Use at name) no_trees
form_descriptors here (Op.Declaration Declaration.CreateDWordField) (tree source (tree index (tree (Use at name) no_trees))) no_trees = none_declared source index (Use at name) no_trees
form_descriptors here (Op.Declaration Declaration.CreateQWordField) (tree source (tree index (tree (Use at name) no_trees))) no_trees = none_declared source index (Use at name) no_trees
form_descriptors here (Op.Control Control.Return) (tree value no_trees) no_trees = refl
form_descriptors here (Op.Control Control.If) (tree test no_trees) body = refl
form_descriptors here (Op.Control Control.ElseIf) (tree test no_trees) body = refl
form_descriptors here (Op.Control Control.Else) no_trees body = refl
form_descriptors here (Op.Control Control.While) (tree test no_trees) body = refl
form_descriptors here (Op.Control Control.For) (tree start (tree test (tree step no_trees))) body = refl
form_descriptors here (Op.Control Control.Printf) (tree (String format) args) no_trees = refl
form_descriptors here (Op.Control Control.Fprintf) (tree place (tree (String format) args)) no_trees = refl
form_descriptors here (Op.Control Control.Switch) (tree value no_trees) cases = refl
form_descriptors here (Op.Control Control.Case) (tree value no_trees) body = refl
form_descriptors here (Op.Control Control.Default) no_trees body = refl
form_descriptors here (Op.Control Control.Break) no_trees no_trees = refl
form_descriptors here (Op.Control Control.Continue) no_trees no_trees = refl
form_descriptors here (Op.Literal literal) no_trees no_trees = refl
form_descriptors here (Op.Plain op) args no_trees = none_apply op args
form_descriptors here (Op.Special Special.CondRefOf) (tree place (tree target no_trees)) no_trees = refl
form_descriptors here (Op.Special Special.Buffer) (tree size no_trees) body = none_buffer size (body_bytes body)
form_descriptors here (Op.Special Special.Package) (tree size no_trees) body = none_packaged size body
form_descriptors here (Op.Symbolic (Symbolic.Operator op)) args no_trees = none_symbol op args
form_descriptors here (Op.Symbolic Symbolic.Assign) (tree target (tree value no_trees)) no_trees = refl
form_descriptors here (Op.Symbolic (Symbolic.AssignBy op)) (tree target (tree value no_trees)) no_trees = refl
form_descriptors here _ _ _ = refl

-- ---- terms

shape_tree : (at : At) (t : Term) (op : Op) (args body : Trees) → OfForm op args body ≡ term_shape t → form at op args body ≡ tree_of at t
unfolding tree_of
shape_tree at (D.Form' op' shape args' shape' body') op args body e = ap (tree_in at) e
  where
    tree_in : At → TermShape → Tree
    tree_in at (OfForm op args body) = form at op args body
    tree_in at s = form at op args body
shape_tree at t op args body e = absurd (grind arith)

pub shape_descriptors : (at : At) (t : Term) (op : Op) (args body : Trees) → OfForm op args body ≡ term_shape t → part_descriptors (part_of op args body) args body ≡ descriptors_in (tree_of at t)
shape_descriptors at t op args body e = sym (form_descriptors at op args body) ∙ ap descriptors_in (shape_tree at t op args body e)

pub plain_descriptors : (at : At) (t : Term) → is_form_shape (term_shape t) ≡ false → [] ≡ descriptors_in (tree_of at t)
unfolding tree_of
plain_descriptors at (D.Form' op shape args shape' body) e = absurd (grind arith)
plain_descriptors at t e = refl

none_taken : (nodes : List Node) → descriptors_among (trees_of (take 0 nodes)) ≡ []
unfolding trees_of
none_taken [] = refl
none_taken (node ∷ nodes) = refl

taken_suc : (nodes : List Node) (i : ℕ) (node : Node) → i < length nodes → descriptors_among (trees_of (take (suc i) nodes)) ≡ descriptors_among (trees_of (take i nodes)) ++ descriptors_in (node_tree (get_or nodes i node))
unfolding trees_of
taken_suc [] i node lt = absurd (omega (arith, lt))
taken_suc (n ∷ nodes) zero node lt = ap (λ ds. descriptors_in (node_tree n) ++ ds) (none_taken nodes) ∙ right_nil (descriptors_in (node_tree n))
taken_suc (n ∷ nodes) (suc i) node lt =
    ap (λ ds. descriptors_in (node_tree n) ++ ds) (taken_suc nodes i node (omega (arith, lt)))
    ∙ sym (append_assoc (descriptors_in (node_tree n)) (descriptors_among (trees_of (take i nodes))) (descriptors_in (node_tree (get_or nodes i node))))

pub flags_none : (flags : List Bool) (nodes : List Node) → FlagsMore flags flags (descriptors_among (trees_of (take 0 nodes)))
flags_none flags nodes = flags_as flags flags [] _ (sym (none_taken nodes)) (flags_same flags)

pub flags_next : (initial now next : List Bool) (nodes : List Node) (i : ℕ) (node : Node) → i < length nodes → node ≡ get_or nodes i node → FlagsMore initial now (descriptors_among (trees_of (take i nodes))) → FlagsMore now next (descriptors_in (node_tree node)) → FlagsMore initial next (descriptors_among (trees_of (take (i + 1) nodes)))
flags_next initial now next nodes i node lt e before one =
    let more : i + 1 ≡ suc i = omega arith in
    flags_as initial next _ _
    (ap (λ (n : Node). descriptors_among (trees_of (take i nodes)) ++ descriptors_in (node_tree n)) e ∙ sym (taken_suc nodes i node lt) ∙ ap (λ k. descriptors_among (trees_of (take k nodes))) (sym more))
    (flags_then initial now next _ _ before one)

pub flags_whole : (initial now : List Bool) (nodes : List Node) (i : ℕ) → length nodes ≤ i → FlagsMore initial now (descriptors_among (trees_of (take i nodes))) → FlagsMore initial now (descriptors_among (trees_of nodes))
flags_whole initial now nodes i le h = flags_as initial now _ _ (ap (λ ns. descriptors_among (trees_of ns)) (take_all i nodes le)) h

-- ---- the arguments of what declares a name

two_trees : (nodes : List Node) (a b : Node) → 2 ≤ length nodes → length nodes < 3 → a ≡ get_or nodes 0 a → b ≡ get_or nodes 1 b → trees_of nodes ≡ tree (node_tree a) (tree (node_tree b) no_trees)
unfolding trees_of
two_trees [] a b le lt e h = absurd (omega (arith, le))
two_trees (x ∷ []) a b le lt e h = absurd (omega (arith, le))
two_trees (x ∷ y ∷ []) a b le lt e h =
    ap (λ (n : Node). tree (node_tree n) (tree (node_tree y) no_trees)) (sym e) ∙ ap (λ (n : Node). tree (node_tree a) (tree (node_tree n) no_trees)) (sym h)
two_trees (x ∷ y ∷ z ∷ nodes) a b le lt e h = absurd (omega (arith, lt))

plain_first : (t u : Tree) → is_plain t ≡ true → declared_descriptor (tree t (tree u no_trees)) ≡ []
plain_first (Use at name) u e = absurd (grind arith)
plain_first t u e = refl

plain_value : (at : At) (t : Tree) → is_plain t ≡ true → descriptor_name at t ≡ []
plain_value at (Fill bytes) e = absurd (grind arith)
plain_value at t e = refl

bytes_named : (at here : At) (s t : Term) → (is_name_shape (term_shape s) && fill_term t) ≡ true → declared_descriptor (tree (tree_of at s) (tree (tree_of here t) no_trees)) ≡ at.id ∷ []
unfolding tree_of
bytes_named at here (D.Name path) (D.Fill bytes named) e = refl
bytes_named at here (D.Name path) t e = absurd (grind arith)
bytes_named at here s t e = absurd (grind arith)

none_named : (at here : At) (s t : Term) → (is_name_shape (term_shape s) && fill_term t) ≡ false → declared_descriptor (tree (tree_of at s) (tree (tree_of here t) no_trees)) ≡ []
unfolding tree_of
none_named at here (D.Name path) (D.Fill bytes named) e = absurd (grind arith)
none_named at here (D.Name path) (D.Form' op shape args shape' body) e = plain_value at _ (plain_form here op (row_trees args) (row_trees body))
none_named at here (D.Name path) t e = refl
none_named at here (D.Form' op shape args shape' body) t e = plain_first _ _ (plain_form at op (row_trees args) (row_trees body))
none_named at here s t e = refl

pub flagged_two : (nodes : List Node) (a b : Node) → 2 ≤ length nodes → length nodes < 3 → a ≡ get_or nodes 0 a → b ≡ get_or nodes 1 b → (is_name_shape (term_shape a.term) && fill_term b.term) ≡ true → a.id ∷ [] ≡ declared_descriptor (trees_of nodes)
flagged_two nodes a b le lt e h is = sym (ap declared_descriptor (two_trees nodes a b le lt e h) ∙ bytes_named (at_of a) (at_of b) a.term b.term is)

pub unflagged_two : (nodes : List Node) (a b : Node) → 2 ≤ length nodes → length nodes < 3 → a ≡ get_or nodes 0 a → b ≡ get_or nodes 1 b → (is_name_shape (term_shape a.term) && fill_term b.term) ≡ false → [] ≡ declared_descriptor (trees_of nodes)
unflagged_two nodes a b le lt e h is = sym (ap declared_descriptor (two_trees nodes a b le lt e h) ∙ none_named (at_of a) (at_of b) a.term b.term is)

one_declared : (t : Tree) → [] ≡ declared_descriptor (tree t no_trees)
one_declared (Use at name) = refl
one_declared t = refl

three_declared : (t u v : Tree) (ts : Trees) → [] ≡ declared_descriptor (tree t (tree u (tree v ts)))
three_declared (Use at name) u v ts = refl
three_declared t u v ts = refl

pub unflagged_few : (nodes : List Node) → length nodes < 2 → [] ≡ declared_descriptor (trees_of nodes)
unfolding trees_of
unflagged_few [] lt = refl
unflagged_few (x ∷ []) lt = one_declared (node_tree x)
unflagged_few (x ∷ y ∷ nodes) lt = absurd (omega (arith, lt))

pub unflagged_many : (nodes : List Node) → 3 ≤ length nodes → [] ≡ declared_descriptor (trees_of nodes)
unfolding trees_of
unflagged_many [] le = absurd (omega (arith, le))
unflagged_many (x ∷ []) le = absurd (omega (arith, le))
unflagged_many (x ∷ y ∷ []) le = absurd (omega (arith, le))
unflagged_many (x ∷ y ∷ z ∷ nodes) le = three_declared (node_tree x) (node_tree y) (node_tree z) (trees_of nodes)
