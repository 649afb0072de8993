-- Terms and nodes as an operator sees them, and what becomes of it.
use Rattle.std.proofs.Common.{◌≡◌, ℕ, zero, suc, Bool, true, false, List, [], ◌∷◌, length, Option, Some, None, refl, sym, ap, ◌∙◌, arith}
use Rattle.std.specs.Prelude.{nat_eq, nat_le, if◌then◌else◌, ◌&&◌}
use Rattle.std.proofs.lemmas.Bool.Decides.{nat_tests}
use Rattle.acpi_values.specs.declared.width.Width.{Width}
use Rattle.acpi_values.specs.declared.operator.IntOp.{IntOp}
use Rattle.acpi_values.specs.declared.operator.Plain.{Plain}
use Rattle.acpi_values.specs.Operators.{Letter, Valued, row_of}
use Rattle.acpi_state.specs.Outcomes.{choose}
use Rattle.acpi_state.specs.Forms.{LocalSlot}
use Rattle.asl_tree.specs.Constants.{is_unary}
use Rattle.asl_tree.specs.FieldItems.{FieldItem}
use Rattle.asl_tree.specs.declared.term.Op.{Op}
use Rattle.asl_tree.specs.declared.term.Node.{Node}
use Rattle.asl_tree.specs.declared.term.Literal.{Literal}
use Rattle.asl_tree.specs.declared.term.Declaration.TheVariants as Declaration
use Rattle.asl_tree.specs.declared.term.Control.TheVariants as Control
use Rattle.asl_tree.specs.declared.term.Special.TheVariants as Special
use Rattle.asl_tree.specs.declared.term.Symbolic.TheVariants as Symbolic
use Rattle.asl_tree.specs.declared.term.Term.{Term}
use Rattle.asl_tree.specs.declared.term.Term as D
use Rattle.asl_tree.specs.Tree.{At, Tree, Integer, String, Constant, InSlot, Omitted, Use, Package, VarPackage, Misshapen, Trees, no_trees, tree, count, Field, IndexField, BankField, UnitName}
use Rattle.asl_tree.specs.View.{fits, operands_as, targets_of, operated, symbol_of, form, apply_of, buffer, body_bytes, packaged, counted, items_in, tree_of, row_trees, trees_of}
use Rattle.acpi_names.specs.Walked.{node_tree}
use Rattle.asl_fold.specs.declared.fate.Fate.{Fate}
use Rattle.asl_fold.specs.declared.seen.Seen.{Seen}
use Rattle.asl_fold.specs.Folds.{constants, result_on, fate_at, fate_with}
use Rattle.asl_fold.specs.Nodes.{form_seen, is_first, is_second, term_seen, tree_seen, seen_value, seen_fate, is_omitted, fate_zero, fate_one, fate_two, fate_on, fate_form}
use Rattle.asl_fold.proofs.Operators.{one_letter, two_letters}

-- ---- forms

pub literal_form : (literal : Literal) (args body : List Node) → length args ≡ 0 → length body ≡ 0 → form_seen (Op.Literal literal) (trees_of args) (trees_of body) ≡ Seen.Literal literal
unfolding trees_of
literal_form literal [] [] a b = refl
literal_form literal (n ∷ ns) body a b = absurd (omega (arith, a))
literal_form literal [] (n ∷ ns) a b = absurd (omega (arith, b))

pub literal_args : (literal : Literal) (args body : List Node) → (length args ≡ 0 → ⊥) → form_seen (Op.Literal literal) (trees_of args) (trees_of body) ≡ Seen.Other
unfolding trees_of
literal_args literal [] body a = absurd (a refl)
literal_args literal (n ∷ ns) body a = refl

pub literal_body : (literal : Literal) (args body : List Node) → (length body ≡ 0 → ⊥) → form_seen (Op.Literal literal) (trees_of args) (trees_of body) ≡ Seen.Other
unfolding trees_of
literal_body literal args [] b = absurd (b refl)
literal_body literal [] (m ∷ ms) b = refl
literal_body literal (n ∷ ns) (m ∷ ms) b = refl

pub ruleset literal_rules = (literal_form, literal_args, literal_body)

by_items : (o : Option (List (FieldItem UnitName))) (made : List (FieldItem UnitName) → Tree) → ((items : List (FieldItem UnitName)) → tree_seen (made items) ≡ Seen.Other) → tree_seen (choose o Misshapen made) ≡ Seen.Other
by_items None made h = refl
by_items (Some items) made h = h items

other_apply : (op : Plain) (args : Trees) → tree_seen (apply_of op args) ≡ Seen.Other
other_apply (Plain.Number IntOp.LNotEqual) args = refl
other_apply (Plain.Number IntOp.LLessEqual) args = refl
other_apply (Plain.Number IntOp.LGreaterEqual) args = refl
other_apply op args = refl

other_operated : (op : Plain) (args : Trees) → tree_seen (operated op args) ≡ Seen.Other
other_operated (Plain.Number IntOp.LNotEqual) args = refl
other_operated (Plain.Number IntOp.LLessEqual) args = refl
other_operated (Plain.Number IntOp.LGreaterEqual) args = refl
other_operated op args = refl

other_symbol : (op : Plain) (args : Trees) → tree_seen (symbol_of op args) ≡ Seen.Other
other_symbol op args = by_fit (fits (row_of op).operands args)
  where
    by_fit : (c : Bool) → tree_seen (if c then operated op (operands_as (row_of op).operands args) else Misshapen) ≡ Seen.Other
    by_fit true = other_operated op (operands_as (row_of op).operands args)
    by_fit false = refl

other_buffer : (size : Tree) (bytes : List ℕ) → tree_seen (buffer size bytes) ≡ Seen.Other
other_buffer Omitted bytes = refl
other_buffer size bytes = refl

other_counted : (n : ℕ) (elements : Trees) → tree_seen (counted n elements) ≡ Seen.Other
other_counted n elements = by_less (nat_le n 255)
  where
    by_less : (c : Bool) → tree_seen (if c then Package n elements else VarPackage (Integer n) elements) ≡ Seen.Other
    by_less true = refl
    by_less false = refl

other_packaged : (size : Tree) (elements : Trees) → tree_seen (packaged size elements) ≡ Seen.Other
other_packaged Omitted elements = other_counted (count elements) elements
other_packaged (Integer n) elements = other_counted n elements
other_packaged size elements = refl

-- where a format stands
pub first_at : (i : ℕ) → nat_eq i 0 ≡ is_first i
first_at zero = let e : nat_eq 0 0 ≡ true = grind (arith, nat_tests) in e
first_at (suc n) = let e : nat_eq (suc n) 0 ≡ false = grind (arith, nat_tests) in e

pub second_at : (i : ℕ) → nat_eq i 1 ≡ is_second i
second_at zero = let e : nat_eq 0 1 ≡ false = grind (arith, nat_tests) in e
second_at (suc zero) = let e : nat_eq 1 1 ≡ true = grind (arith, nat_tests) in e
second_at (suc (suc n)) = let e : nat_eq (suc (suc n)) 1 ≡ false = grind (arith, nat_tests) in e

form_is : (at : At) (op : Op) (args body : Trees) → tree_seen (form at op args body) ≡ form_seen op args body
form_is here (Op.Declaration Declaration.Name) (tree (Use at name) (tree value no_trees)) no_trees = refl
form_is here (Op.Declaration Declaration.Alias) (tree (Use from source) (tree (Use at name) no_trees)) no_trees = refl
form_is here (Op.Declaration Declaration.External) (tree (Use at name) (tree (Integer type) no_trees)) no_trees = refl
form_is here (Op.Declaration Declaration.External) (tree (Use at name) (tree (Integer type) (tree (Integer count) no_trees))) no_trees = refl
form_is here (Op.Declaration Declaration.Method) (tree (Use at name) (tree (Integer arity) no_trees)) body = refl
form_is here (Op.Declaration Declaration.Mutex) (tree (Use at name) (tree (Integer level) no_trees)) no_trees = refl
form_is here (Op.Declaration Declaration.Event) (tree (Use at name) no_trees) no_trees = refl
form_is here (Op.Declaration Declaration.Device) (tree (Use at name) no_trees) body = refl
form_is here (Op.Declaration Declaration.ThermalZone) (tree (Use at name) no_trees) body = refl
form_is here (Op.Declaration Declaration.PowerResource) (tree (Use at name) (tree (Integer level) (tree (Integer order) no_trees))) body = refl
form_is here (Op.Declaration Declaration.Processor) (tree (Use at name) (tree (Integer number) (tree (Integer address) (tree (Integer size) no_trees)))) body = refl
form_is here (Op.Declaration Declaration.Scope) (tree (Use at name) no_trees) body = refl
form_is here (Op.Declaration Declaration.OperationRegion) (tree (Use at name) (tree (Integer space) (tree offset (tree size no_trees)))) no_trees = refl
form_is here (Op.Declaration Declaration.Field) (tree (Use from region) (tree (Integer flags) no_trees)) body = by_items (items_in body) (λ items. Field here from region flags items) (λ items. refl)
form_is here (Op.Declaration Declaration.IndexField) (tree (Use from index) (tree (Use to register) (tree (Integer flags) no_trees))) body = by_items (items_in body) (λ items. IndexField here from index to register flags items) (λ items. refl)
form_is here (Op.Declaration Declaration.BankField) (tree (Use from region) (tree (Use to bank) (tree value (tree (Integer flags) no_trees)))) body = by_items (items_in body) (λ items. BankField here from region to bank value flags items) (λ items. refl)
form_is here (Op.Declaration Declaration.CreateField) (tree source (tree index (tree bits (tree (Use at name) no_trees)))) no_trees = refl
form_is here (Op.Declaration Declaration.CreateBitField) (tree source (tree index (tree (Use at name) no_trees))) no_trees = refl
form_is here (Op.Declaration Declaration.CreateByteField) (tree source (tree index (tree (Use at name) no_trees))) no_trees = refl
form_is here (Op.Declaration Declaration.CreateWordField) (tree source (tree index (tree (Use at name) no_trees))) no_trees = refl
form_is here (Op.Declaration Declaration.CreateDWordField) (tree source (tree index (tree (Use at name) no_trees))) no_trees = refl
form_is here (Op.Declaration Declaration.CreateQWordField) (tree source (tree index (tree (Use at name) no_trees))) no_trees = refl
form_is here (Op.Control Control.Return) (tree value no_trees) no_trees = refl
form_is here (Op.Control Control.If) (tree test no_trees) body = refl
form_is here (Op.Control Control.ElseIf) (tree test no_trees) body = refl
form_is here (Op.Control Control.Else) no_trees body = refl
form_is here (Op.Control Control.While) (tree test no_trees) body = refl
form_is here (Op.Control Control.For) (tree start (tree test (tree step no_trees))) body = refl
form_is here (Op.Control Control.Printf) (tree (String format) args) no_trees = refl
form_is here (Op.Control Control.Fprintf) (tree place (tree (String format) args)) no_trees = refl
form_is here (Op.Control Control.Switch) (tree value no_trees) cases = refl
form_is here (Op.Control Control.Case) (tree value no_trees) body = refl
form_is here (Op.Control Control.Default) no_trees body = refl
form_is here (Op.Control Control.Break) no_trees no_trees = refl
form_is here (Op.Control Control.Continue) no_trees no_trees = refl
form_is here (Op.Plain op) args no_trees = other_apply op args
form_is here (Op.Special Special.CondRefOf) (tree place (tree target no_trees)) no_trees = refl
form_is here (Op.Special Special.Buffer) (tree size no_trees) body = other_buffer size (body_bytes body)
form_is here (Op.Special Special.Package) (tree size no_trees) body = other_packaged size body
form_is here (Op.Symbolic (Symbolic.Operator op)) args no_trees = other_symbol op args
form_is here (Op.Symbolic Symbolic.Assign) (tree target (tree value no_trees)) no_trees = refl
form_is here (Op.Symbolic (Symbolic.AssignBy op)) (tree target (tree value no_trees)) no_trees = refl
form_is here (Op.Literal literal) no_trees no_trees = refl
form_is here _ _ _ = refl

pub seen_is : (at : At) (t : Term) → tree_seen (tree_of at t) ≡ term_seen t
unfolding tree_of
seen_is at (D.Form' op shape args shape' body) = form_is at op (row_trees args) (row_trees body)
seen_is at _ = refl

-- ---- operands

value_first : (width : Width) (letters : List Letter) (t : Tree) (ts : Trees) → constants width (operands_as (Valued ∷ letters) (tree t ts)) ≡ seen_value width (tree_seen t) ∷ constants width (operands_as letters ts)
value_first width letters (Integer n) ts = refl
value_first width letters (Constant literal) ts = refl
value_first width letters Omitted ts = refl
value_first width letters (InSlot (LocalSlot index)) ts = refl
value_first width letters _ ts = refl

target_seen : (statement : Bool) (t : Tree) (n : ℕ) → fate_at statement t n ≡ seen_fate statement (tree_seen t) n
target_seen statement (Integer m) n = refl
target_seen statement (Constant literal) n = refl
target_seen statement Omitted n = refl
target_seen statement (InSlot (LocalSlot index)) n = refl
target_seen statement _ n = refl

-- ---- targets

none_zero : (statement : Bool) (many n : ℕ) → fate_with statement many no_trees n ≡ fate_zero many n
none_zero statement zero n = let e : nat_eq 0 0 ≡ true = grind (arith, nat_tests) in sym (ap (λ c. if c then Fate.Becomes n else Fate.Stays) e)
none_zero statement (suc zero) n = let e : nat_eq 1 0 ≡ false = grind (arith, nat_tests) in sym (ap (λ c. if c then Fate.Becomes n else Fate.Stays) e)
none_zero statement (suc (suc zero)) n = let e : nat_eq 2 0 ≡ false = grind (arith, nat_tests) in sym (ap (λ c. if c then Fate.Becomes n else Fate.Stays) e)
none_zero statement (suc (suc (suc many))) n = let e : nat_eq (suc (suc (suc many))) 0 ≡ false = grind (arith, nat_tests) in sym (ap (λ c. if c then Fate.Becomes n else Fate.Stays) e)

one_alone : (statement : Bool) (many : ℕ) (t : Tree) (n : ℕ) → fate_with statement many (tree t no_trees) n ≡ fate_one statement many (tree_seen t) n
one_alone statement zero t n = let e : nat_eq 0 1 ≡ false = grind (arith, nat_tests) in sym (ap (λ c. if c then seen_fate statement (tree_seen t) n else Fate.Stays) e)
one_alone statement (suc zero) t n = target_seen statement t n
one_alone statement (suc (suc zero)) Omitted n = refl
one_alone statement (suc (suc zero)) t n = refl
one_alone statement (suc (suc (suc many))) t n = let e : nat_eq (suc (suc (suc many))) 1 ≡ false = grind (arith, nat_tests) in sym (ap (λ c. if c then seen_fate statement (tree_seen t) n else Fate.Stays) e)

omitted_seen : (t : Tree) → is_omitted (tree_seen t) ≡ true → t ≡ Omitted
omitted_seen Omitted e = refl
omitted_seen (Integer n) e = absurd cc
omitted_seen (Constant literal) e = absurd cc
omitted_seen (InSlot (LocalSlot index)) e = absurd cc
omitted_seen _ e = absurd cc

two_last : (statement : Bool) (many : ℕ) (r t : Tree) (n : ℕ) → fate_with statement many (tree r (tree t no_trees)) n ≡ fate_two statement many (tree_seen r) (tree_seen t) 0 n
two_last statement zero r t n = refl
two_last statement (suc zero) r t n = refl
two_last statement (suc (suc zero)) Omitted t n = target_seen statement t n
two_last statement (suc (suc zero)) (Integer m) t n = refl
two_last statement (suc (suc zero)) (Constant literal) t n = refl
two_last statement (suc (suc zero)) (InSlot (LocalSlot index)) t n = refl
two_last statement (suc (suc zero)) _ t n = refl
two_last statement (suc (suc (suc many))) r t n =
    let e : nat_eq (suc (suc (suc many))) 2 ≡ false = grind (arith, nat_tests) in sym (ap (λ c. if c && (nat_eq 0 0 && is_omitted (tree_seen r)) then seen_fate statement (tree_seen t) n else Fate.Stays) e)

no_more : (statement : Bool) (many more : ℕ) (r t : Seen) (n : ℕ) → Fate.Stays ≡ fate_two statement many r t (suc more) n
no_more statement many more r t n = by_many (nat_eq many 2)
  where
    none : nat_eq (suc more) 0 ≡ false
    none = grind (arith, nat_tests)

    by_many : (c : Bool) → Fate.Stays ≡ (if c && (nat_eq (suc more) 0 && is_omitted r) then seen_fate statement t n else Fate.Stays)
    by_many true = sym (ap (λ c. if true && (c && is_omitted r) then seen_fate statement t n else Fate.Stays) none)
    by_many false = refl

three_stay : (statement : Bool) (many : ℕ) (r t u : Tree) (us : Trees) (n : ℕ) → fate_with statement many (tree r (tree t (tree u us))) n ≡ Fate.Stays
three_stay statement zero r t u us n = refl
three_stay statement (suc zero) r t u us n = refl
three_stay statement (suc (suc zero)) Omitted t u us n = refl
three_stay statement (suc (suc zero)) _ t u us n = refl
three_stay statement (suc (suc (suc many))) r t u us n = refl

one_node : (node : Node) (nodes : List Node) → trees_of (node ∷ nodes) ≡ tree (node_tree node) (trees_of nodes)
unfolding trees_of
one_node node nodes = refl

none : trees_of [] ≡ no_trees
unfolding trees_of
none = refl

node_seen : (node : Node) → tree_seen (node_tree node) ≡ term_seen node.term
node_seen node = seen_is (record { id = node.id; place = node.place }) node.term

pub targets_none : (statement : Bool) (many : ℕ) (targets : List Node) (n : ℕ) → targets ≡ [] → fate_zero many n ≡ fate_with statement many (trees_of targets) n
targets_none statement many targets n e = sym (ap (λ ns. fate_with statement many (trees_of ns) n) e ∙ ap (λ ts. fate_with statement many ts n) none ∙ none_zero statement many n)

pub targets_one : (statement : Bool) (many : ℕ) (targets rest : List Node) (first : Node) (n : ℕ) → targets ≡ first ∷ rest → rest ≡ [] → fate_one statement many (term_seen first.term) n ≡ fate_with statement many (trees_of targets) n
targets_one statement many targets rest first n e f =
    sym (ap (λ ns. fate_with statement many (trees_of ns) n) (e ∙ ap (λ ns. first ∷ ns) f) ∙ ap (λ ts. fate_with statement many ts n) (one_node first [] ∙ ap (tree (node_tree first)) none)
    ∙ one_alone statement many (node_tree first) n ∙ ap (λ s. fate_one statement many s n) (node_seen first))

two_more : (statement : Bool) (many : ℕ) (r t : Tree) (more : List Node) (n : ℕ) → fate_with statement many (tree r (tree t (trees_of more))) n ≡ fate_two statement many (tree_seen r) (tree_seen t) (length more) n
unfolding trees_of
two_more statement many r t [] n = two_last statement many r t n
two_more statement many r t (u ∷ us) n = three_stay statement many r t (node_tree u) (trees_of us) n ∙ no_more statement many (length us) (tree_seen r) (tree_seen t) n

pub targets_two : (statement : Bool) (many : ℕ) (targets rest more : List Node) (first second : Node) (n : ℕ) → targets ≡ first ∷ rest → rest ≡ second ∷ more
    → fate_two statement many (term_seen first.term) (term_seen second.term) (length more) n ≡ fate_with statement many (trees_of targets) n
targets_two statement many targets rest more first second n e f =
    sym (ap (λ ns. fate_with statement many (trees_of ns) n) (e ∙ ap (λ ns. first ∷ ns) f) ∙ ap (λ ts. fate_with statement many ts n) (one_node first (second ∷ more) ∙ ap (tree (node_tree first)) (one_node second more))
    ∙ two_more statement many (node_tree first) (node_tree second) more n
    ∙ ap (λ s. fate_two statement many s (tree_seen (node_tree second)) (length more) n) (node_seen first) ∙ ap (λ s. fate_two statement many (term_seen first.term) s (length more) n) (node_seen second))

-- ---- an operator

module _ (width : Width) (statement : Bool) where
  abbrev pub taking : IntOp → Trees → Option ℕ → Fate
  taking op targets o = choose o Fate.Stays (fate_with statement (row_of (Plain.Number op)).targets targets)

  no_operand : (op : IntOp) → fate_on width statement op no_trees ≡ Fate.Stays
  no_operand IntOp.Not = refl
  no_operand _ = refl

  single : (op : IntOp) (o : Option ℕ) → result_on width op false (o ∷ []) ≡ None
  single op None = refl
  single op (Some a) = refl

  unary_is : (op : IntOp) (t : Tree) (ts : Trees) → is_unary op ≡ true → fate_on width statement op (tree t ts) ≡ taking op ts (result_on width op true (seen_value width (tree_seen t) ∷ []))
  unary_is op t ts e =
      ap (λ letters. taking op (targets_of letters (tree t ts)) (result_on width op (is_unary op) (constants width (operands_as letters (tree t ts))))) (one_letter op e)
      ∙ ap (λ b. taking op ts (result_on width op b (constants width (operands_as (Valued ∷ []) (tree t ts))))) e
      ∙ ap (λ vs. taking op ts (result_on width op true vs)) (value_first width [] t ts)

  single_is : (op : IntOp) (t : Tree) → is_unary op ≡ false → fate_on width statement op (tree t no_trees) ≡ Fate.Stays
  single_is op t e =
      ap (λ letters. taking op (targets_of letters (tree t no_trees)) (result_on width op (is_unary op) (constants width (operands_as letters (tree t no_trees))))) (two_letters op e)
      ∙ ap (λ b. taking op no_trees (result_on width op b (constants width (operands_as (Valued ∷ Valued ∷ []) (tree t no_trees))))) e
      ∙ ap (λ vs. taking op no_trees (result_on width op false vs)) (value_first width (Valued ∷ []) t no_trees)
      ∙ ap (taking op no_trees) (single op (seen_value width (tree_seen t)))

  binary_is : (op : IntOp) (t u : Tree) (ts : Trees) → is_unary op ≡ false → fate_on width statement op (tree t (tree u ts)) ≡ taking op ts (result_on width op false (seen_value width (tree_seen t) ∷ seen_value width (tree_seen u) ∷ []))
  binary_is op t u ts e =
      ap (λ letters. taking op (targets_of letters (tree t (tree u ts))) (result_on width op (is_unary op) (constants width (operands_as letters (tree t (tree u ts)))))) (two_letters op e)
      ∙ ap (λ b. taking op ts (result_on width op b (constants width (operands_as (Valued ∷ Valued ∷ []) (tree t (tree u ts)))))) e
      ∙ ap (λ vs. taking op ts (result_on width op false vs)) (value_first width (Valued ∷ []) t (tree u ts) ∙ ap (λ vs. seen_value width (tree_seen t) ∷ vs) (value_first width [] u ts))

  pub nodes_none : (op : IntOp) (args : List Node) → args ≡ [] → Fate.Stays ≡ fate_on width statement op (trees_of args)
  nodes_none op args e = sym (ap (λ ns. fate_on width statement op (trees_of ns)) e ∙ ap (fate_on width statement op) none ∙ no_operand op)

  pub nodes_unary : (op : IntOp) (args rest : List Node) (first : Node) → args ≡ first ∷ rest → is_unary op ≡ true
      → taking op (trees_of rest) (result_on width op true (seen_value width (term_seen first.term) ∷ [])) ≡ fate_on width statement op (trees_of args)
  nodes_unary op args rest first e unary =
      sym (ap (λ ns. fate_on width statement op (trees_of ns)) e ∙ ap (fate_on width statement op) (one_node first rest) ∙ unary_is op (node_tree first) (trees_of rest) unary
      ∙ ap (λ s. taking op (trees_of rest) (result_on width op true (seen_value width s ∷ []))) (node_seen first))

  pub nodes_single : (op : IntOp) (args rest : List Node) (first : Node) → args ≡ first ∷ rest → rest ≡ [] → is_unary op ≡ false → Fate.Stays ≡ fate_on width statement op (trees_of args)
  nodes_single op args rest first e f binary =
      sym (ap (λ ns. fate_on width statement op (trees_of ns)) (e ∙ ap (λ ns. first ∷ ns) f) ∙ ap (fate_on width statement op) (one_node first [] ∙ ap (tree (node_tree first)) none) ∙ single_is op (node_tree first) binary)

  pub nodes_binary : (op : IntOp) (args rest more : List Node) (first second : Node) → args ≡ first ∷ rest → rest ≡ second ∷ more → is_unary op ≡ false
      → taking op (trees_of more) (result_on width op false (seen_value width (term_seen first.term) ∷ seen_value width (term_seen second.term) ∷ [])) ≡ fate_on width statement op (trees_of args)
  nodes_binary op args rest more first second e f binary =
      sym (ap (λ ns. fate_on width statement op (trees_of ns)) (e ∙ ap (λ ns. first ∷ ns) f) ∙ ap (fate_on width statement op) (one_node first (second ∷ more) ∙ ap (tree (node_tree first)) (one_node second more))
      ∙ binary_is op (node_tree first) (node_tree second) (trees_of more) binary
      ∙ ap (λ s. taking op (trees_of more) (result_on width op false (seen_value width s ∷ seen_value width (tree_seen (node_tree second)) ∷ []))) (node_seen first)
      ∙ ap (λ s. taking op (trees_of more) (result_on width op false (seen_value width (term_seen first.term) ∷ seen_value width s ∷ []))) (node_seen second))

-- ---- a plain operator with a body

pub fate_bare : (width : Width) (statement : Bool) (op : Plain) (number : IntOp) (args body : List Node) (fate : Fate) → op ≡ Plain.Number number → length body ≡ 0 → fate ≡ fate_on width statement number (trees_of args)
    → fate ≡ fate_form width statement op (trees_of args) (trees_of body)
fate_bare width statement op number args [] fate e b h =
    h ∙ sym (ap (λ op. fate_form width statement op (trees_of args) (trees_of [])) e ∙ ap (fate_form width statement (Plain.Number number) (trees_of args)) none)
fate_bare width statement op number args (n ∷ ns) fate e b h = absurd (omega (arith, b))

pub fate_misfit : (width : Width) (statement : Bool) (op : Plain) (args : Trees) (body : List Node) → (length body ≡ 0 → ⊥) → Fate.Stays ≡ fate_form width statement op args (trees_of body)
fate_misfit width statement op args [] some = absurd (some refl)
fate_misfit width statement op args (n ∷ ns) some = sym (ap (fate_form width statement op args) (one_node n ns) ∙ by_kind op)
  where
    by_kind : (op : Plain) → fate_form width statement op args (tree (node_tree n) (trees_of ns)) ≡ Fate.Stays
    by_kind (Plain.Number op) = refl
    by_kind (Plain.Data op) = refl
    by_kind (Plain.Event op) = refl

pub fate_other : (width : Width) (statement : Bool) (op : Plain) (args body : Trees) → ((number : IntOp) → op ≡ Plain.Number number → ⊥) → Fate.Stays ≡ fate_form width statement op args body
fate_other width statement (Plain.Number op) args body never = absurd (never op refl)
fate_other width statement (Plain.Data op) args body never = refl
fate_other width statement (Plain.Event op) args body never = refl
