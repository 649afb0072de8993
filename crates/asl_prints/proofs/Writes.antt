-- The nodes of what stands for what prints.
use Rattle.std.proofs.Common.{◌≡◌, ℕ, suc, false, List, [], ◌∷◌, ◌++◌, Vec, Global, refl, sym, ap, ◌∙◌, subst, arith, ◌<◌, ◌≤◌, length, get_or, drop}
use Rattle.std.specs.Prelude.{if◌then◌else◌}
use Rattle.acpi_values.specs.Operators.{Letter, Valued, Placed}
use Rattle.acpi_values.specs.declared.operator.Plain.{Plain}
use Rattle.acpi_values.specs.declared.operator.DataOp.{DataOp}
use Rattle.asl_tree.specs.declared.term.Control.TheVariants as Control
use Rattle.asl_tree.specs.declared.term.Op.{Op}
use Rattle.asl_tree.specs.declared.term.Node.{Node}
use Rattle.asl_tree.specs.declared.term.Term.{Term}
use Rattle.asl_tree.specs.declared.term.Term as D
use Rattle.asl_tree.specs.Formats.{cut}
use Rattle.asl_tree.specs.Tree.{At, Tree, String, Omitted, Debug, Print, Apply, Trees, no_trees, tree}
use Rattle.asl_tree.specs.View.{form, tree_of, row_trees, trees_of, operands_as}
use Rattle.asl_prints.specs.Forms.{concatenated, with_text, with_arguments, print_tree, spread}
use Rattle.asl_prints.specs.Nodes.{node_tree, IsGiven, AreGiven, plain_tree, CanPrint, IsPrint, print_parts}
use Rattle.asl_prints.specs.Texts.{all_texts, is_text, CanFill, text_tree, stored_tree}
use Rattle.asl_prints.proofs.TextForms.{no_text_form}
use Rattle.asl_prints.proofs.Layers.{is_form, no_form}
use Rattle.asl_prints.proofs.Nodes.{rows, args_row, body_row, form_tree}

no_nodes : trees_of [] ≡ no_trees
unfolding trees_of
no_nodes = refl

pub data_form : (at : At) (op : DataOp) (args : Trees) → form at (Op.Plain (Plain.Data op)) args no_trees ≡ plain_tree op args
data_form at op args = refl

pub operator_made : (at : At) (op : DataOp) (args body : Vec Node Global) → body.items ≡ [] → tree_of at (D.Form (Op.Plain (Plain.Data op)) args body) ≡ plain_tree op (trees_of args.items)
operator_made at op args body e =
    form_tree at (Op.Plain (Plain.Data op)) args body
    ∙ ap (λ ts. form at (Op.Plain (Plain.Data op)) (trees_of args.items) ts) (ap trees_of e ∙ no_nodes) ∙ data_form at op (trees_of args.items)

pub text_made : (at : At) (text : List ℕ) → tree_of at (D.Text text) ≡ String text
unfolding tree_of
text_made at text = refl

operand_given : (letters : List Letter) (t : Tree) (ts : Trees) → IsGiven t → operands_as (Valued ∷ letters) (tree t ts) ≡ tree t (operands_as letters ts)
operand_given letters Omitted ts h = absurd h
operand_given letters t ts h = refl

concatenated_given : (a b : Tree) → IsGiven a → IsGiven b → plain_tree DataOp.Concatenate (tree a (tree b (tree Omitted no_trees))) ≡ concatenated a b
concatenated_given a b h k =
    ap (λ ts. Apply (Plain.Data DataOp.Concatenate) ts (tree Omitted no_trees)) (operand_given (Valued ∷ []) a (tree b (tree Omitted no_trees)) h ∙ ap (tree a) (operand_given [] b (tree Omitted no_trees) k))

three_nodes : (a b c : Node) → trees_of (a ∷ b ∷ c ∷ []) ≡ tree (node_tree a) (tree (node_tree b) (tree (node_tree c) no_trees))
unfolding trees_of
three_nodes a b c = refl

two_nodes : (a b : Node) → trees_of (a ∷ b ∷ []) ≡ tree (node_tree a) (tree (node_tree b) no_trees)
unfolding trees_of
two_nodes a b = refl

omitted_tree : (node : Node) → node.term ≡ D.Omitted → node_tree node ≡ Omitted
unfolding tree_of
omitted_tree node e = ap (λ t. tree_of (record { id = node.id; place = node.place }) t) e

pub concatenate_made : (made : Tree) (first second none : Node) (args : List Node) → made ≡ plain_tree DataOp.Concatenate (trees_of args) → args ≡ first ∷ second ∷ none ∷ [] → none.term ≡ D.Omitted → IsGiven (node_tree first) → IsGiven (node_tree second)
    → made ≡ concatenated (node_tree first) (node_tree second)
concatenate_made made first second none args m e o h k =
    m ∙ ap (λ ns. plain_tree DataOp.Concatenate (trees_of ns)) e ∙ ap (plain_tree DataOp.Concatenate) (three_nodes first second none)
    ∙ ap (λ t. plain_tree DataOp.Concatenate (tree (node_tree first) (tree (node_tree second) (tree t no_trees)))) (omitted_tree none o) ∙ concatenated_given (node_tree first) (node_tree second) h k

with_text_given : (t : Tree) (text : List ℕ) → IsGiven t → IsGiven (with_text t text)
with_text_given t [] h = h
with_text_given t (c ∷ text) h = tt

with_arguments_given : (t : Tree) (texts : List (List ℕ)) (args : Trees) → IsGiven t → IsGiven (with_arguments t texts args)
with_arguments_given t [] args h = h
with_arguments_given t (text ∷ texts) no_trees h = h
with_arguments_given t (text ∷ texts) (tree arg args) h = with_arguments_given (with_text (concatenated t arg) text) texts args (with_text_given (concatenated t arg) text tt)

-- a text that is empty, and one that is not
pub text_none : (t : Tree) (text : List ℕ) → length text ≡ 0 → t ≡ with_text t text
text_none t [] e = refl
text_none t (c ∷ text) e = absurd (omega (arith, e))

pub with_text_some : (front behind made : Tree) (text now : List ℕ) → (length text ≡ 0 → ⊥) → now ≡ text → behind ≡ String now → (IsGiven front → IsGiven behind → made ≡ concatenated front behind) → IsGiven front → made ≡ with_text front text
with_text_some front behind made [] now h n b m g = absurd (h refl)
with_text_some front behind made (c ∷ text) now h n b m g =
    let e = b ∙ ap String n in
    m g (subst IsGiven (sym e) tt) ∙ ap (concatenated front) e

pub argument_made : (front arg copy both made : Tree) (text : List ℕ) → copy ≡ arg → (IsGiven front → IsGiven copy → both ≡ concatenated front copy) → (IsGiven both → made ≡ with_text both text) → IsGiven front → IsGiven arg → made ≡ with_text (concatenated front arg) text
argument_made front arg copy both made text c b m g h =
    let e = b g (subst IsGiven (sym c) h) ∙ ap (concatenated front) c in
    m (subst IsGiven (sym e) tt) ∙ ap (λ t. with_text t text) e

pub concatenate_pushed : (made : Tree) (first second none : Node) (a b c d : List Node) → made ≡ plain_tree DataOp.Concatenate (trees_of d) → a ≡ [] → b ≡ a ++ first ∷ [] → c ≡ b ++ second ∷ [] → d ≡ c ++ none ∷ [] → none.term ≡ D.Omitted → IsGiven (node_tree first) → IsGiven (node_tree second)
    → made ≡ concatenated (node_tree first) (node_tree second)
concatenate_pushed made first second none a b c d m ea eb ec ed o =
    concatenate_made made first second none d m (ed ∙ ap (λ ns. ns ++ none ∷ []) ec ∙ ap (λ ns. (ns ++ second ∷ []) ++ none ∷ []) eb ∙ ap (λ ns. ((ns ++ first ∷ []) ++ second ∷ []) ++ none ∷ []) ea) o

-- the first node of some
first_of : (nodes : List Node) (node : Node) → 1 ≤ length nodes → node ≡ get_or nodes 0 node → trees_of nodes ≡ tree (node_tree node) (trees_of (drop 1 nodes))
unfolding trees_of
first_of [] node h e = absurd (omega (arith, h))
first_of (n ∷ nodes) node h e = ap (λ n. tree (node_tree n) (trees_of nodes)) (sym e)

pub first_text : (texts : List (List ℕ)) (text : List ℕ) → 1 ≤ length texts → text ≡ get_or texts 0 text → texts ≡ text ∷ drop 1 texts
first_text [] text h e = absurd (omega (arith, h))
first_text (x ∷ texts) text h e = ap (λ t. t ∷ texts) (sym e)

pub joined_next : (front next made : Tree) (text : List ℕ) (argument : Node) (texts texts' : List (List ℕ)) (args args' : List Node) → 1 ≤ length texts → 1 ≤ length args → text ≡ get_or texts 0 text → argument ≡ get_or args 0 argument → texts' ≡ drop 1 texts → args' ≡ drop 1 args
    → (IsGiven front → IsGiven (node_tree argument) → next ≡ with_text (concatenated front (node_tree argument)) text) → (IsGiven next → AreGiven (trees_of args') → made ≡ with_arguments next texts' (trees_of args'))
    → IsGiven front → AreGiven (trees_of args) → made ≡ with_arguments front texts (trees_of args)
joined_next front next made text argument texts texts' args args' h k et ea rt ra n m g are =
    let x = concatenated front (node_tree argument) in
    let ns = first_of args argument k ea in
    let both = subst AreGiven ns are in
    let e = n g both.0 in
    m (subst IsGiven (sym e) (with_text_given x text tt)) (subst (λ ns. AreGiven (trees_of ns)) (sym ra) both.1)
    ∙ ap (λ t. with_arguments t texts' (trees_of args')) e
    ∙ ap (λ ts. with_arguments (with_text x text) ts (trees_of args')) rt
    ∙ ap (λ ns. with_arguments (with_text x text) (drop 1 texts) (trees_of ns)) ra
    ∙ sym (ap (λ ts. with_arguments front ts (trees_of args)) (first_text texts text h et) ∙ ap (with_arguments front (text ∷ drop 1 texts)) ns)

pub joined_none : (front : Tree) (texts : List (List ℕ)) (args : List Node) → length texts < 1 → front ≡ with_arguments front texts (trees_of args)
joined_none front [] args h = refl
joined_none front (text ∷ texts) args h = absurd (omega (arith, h))

pub joined_last : (front : Tree) (texts : List (List ℕ)) (args : List Node) → length args < 1 → front ≡ with_arguments front texts (trees_of args)
joined_last front texts (node ∷ args) h = absurd (omega (arith, h))
joined_last front [] [] h = refl
joined_last front (text ∷ texts) [] h = sym (ap (with_arguments front (text ∷ texts)) no_nodes)

pub debug_made : (at : At) → tree_of at D.Debug ≡ Debug
unfolding tree_of
debug_made at = refl

-- what a format says with its arguments
pub value_made : (made front : Tree) (format first now : List ℕ) (all behind : List (List ℕ)) (args : Trees) → all ≡ all_texts format → 1 ≤ length all → first ≡ get_or all 0 first → now ≡ first → behind ≡ drop 1 all → front ≡ String now
    → (IsGiven front → AreGiven args → made ≡ with_arguments front behind args) → AreGiven args → made ≡ with_arguments (String (cut format).0) (cut format).1 args
value_made made front format first now all behind args t h f n r s v are =
    let e = s ∙ ap String n in
    let ts = sym (first_text all first h f) ∙ t in
    v (subst IsGiven (sym e) tt) are ∙ ap (λ t. with_arguments t behind args) e
    ∙ ap (λ (texts : List (List ℕ)). with_arguments (String (get_or texts 0 [])) behind args) ts
    ∙ ap (λ texts. with_arguments (String (cut format).0) texts args) (r ∙ ap (drop 1) t)

-- a Store of a value that is there
pub store_pushed : (made : Tree) (value target : Node) (a b c : List Node) → made ≡ plain_tree DataOp.Store (trees_of c) → a ≡ [] → b ≡ a ++ value ∷ [] → c ≡ b ++ target ∷ [] → IsGiven (node_tree value) → made ≡ stored_tree (node_tree value) (node_tree target)
store_pushed made value target a b c m ea eb ec h =
    m ∙ ap (λ ns. plain_tree DataOp.Store (trees_of ns)) (ec ∙ ap (λ ns. ns ++ target ∷ []) eb ∙ ap (λ ns. (ns ++ value ∷ []) ++ target ∷ []) ea) ∙ ap (plain_tree DataOp.Store) (two_nodes value target)
    ∙ ap (λ ts. Apply (Plain.Data DataOp.Store) ts no_trees) (operand_given (Placed ∷ []) (node_tree value) (tree (node_tree target) no_trees) h)

pub no_texts : (all : List (List ℕ)) (format : List ℕ) → all ≡ all_texts format → length all < 1 → ⊥
no_texts all format e h = let n : length all ≡ suc (length (cut format).1) = ap length e in omega (arith, h, n)

-- ---- what prints

text_tree_of : (node : Node) (text : List ℕ) → node.term ≡ D.Text text → node_tree node ≡ String text
unfolding tree_of
text_tree_of node text e = ap (λ t. tree_of (record { id = node.id; place = node.place }) t) e

pub format_made : (made : Tree) (format : Node) (text now : List ℕ) (args : Trees) → format.term ≡ D.Text text → now ≡ text → (AreGiven args → made ≡ with_arguments (String (cut now).0) (cut now).1 args)
    → CanFill (tree (node_tree format) args) → made ≡ text_tree (tree (node_tree format) args)
format_made made format text now args e n m can =
    let f = text_tree_of format text e in
    let is = subst (λ t. CanFill (tree t args)) f can in
    m is.1 ∙ ap (λ t. text_tree (tree (String t) args)) n ∙ sym (ap (λ t. text_tree (tree t args)) f)

fills_text : (t : Tree) (ts : Trees) → is_text t ≡ false → CanFill (tree t ts) → ⊥
fills_text (String text) ts e h = absurd cc
fills_text t ts e h = h

not_text : (at : At) (t : Term) → ((text : List ℕ) → t ≡ D.Text text → ⊥) → is_text (tree_of at t) ≡ false
unfolding tree_of
not_text at (D.Text text) never = absurd (never text refl)
not_text at (D.Form' op shape args shape' body) never = no_text_form at op (row_trees args) (row_trees body)
not_text at t never = refl

pub no_format : (made : Tree) (format : Node) (args : Trees) → ((text : List ℕ) → format.term ≡ D.Text text → ⊥) → CanFill (tree (node_tree format) args) → made ≡ text_tree (tree (node_tree format) args)
no_format made format args never can = absurd (fills_text (node_tree format) args (not_text (record { id = format.id; place = format.place }) format.term never) can)

pub listed_made : (made : Tree) (format : Node) (args behind : List Node) → 1 ≤ length args → format ≡ get_or args 0 format → behind ≡ drop 1 args → (CanFill (tree (node_tree format) (trees_of behind)) → made ≡ text_tree (tree (node_tree format) (trees_of behind)))
    → CanFill (trees_of args) → made ≡ text_tree (trees_of args)
listed_made made format args behind h f r m can =
    let e = first_of args format h f ∙ ap (λ ns. tree (node_tree format) (trees_of ns)) (sym r) in
    m (subst CanFill e can) ∙ ap text_tree (sym e)

pub listed_none : (made : Tree) (args : List Node) → length args < 1 → CanFill (trees_of args) → made ≡ text_tree (trees_of args)
unfolding trees_of
listed_none made [] h can = absurd can
listed_none made (node ∷ args) h can = absurd (omega (arith, h))

-- what is said is there
said : (ts : Trees) → CanFill ts → IsGiven (text_tree ts)
said (tree (String format) args) can = with_arguments_given (String (cut format).0) (cut format).1 args tt
said (tree t args) can = absurd can
said no_trees can = absurd can

stored_said : (made value target : Tree) (ts : Trees) → CanFill ts → (CanFill ts → value ≡ text_tree ts) → (IsGiven value → made ≡ stored_tree value target) → made ≡ stored_tree (text_tree ts) target
stored_said made value target ts can v m = m (subst IsGiven (sym (v can)) (said ts can)) ∙ ap (λ t. stored_tree t target) (v can)

fills_behind : (place : Tree) (ts : Trees) → CanPrint (Op.Control Control.Fprintf) (tree place ts) → CanFill ts
fills_behind place (tree (String format) args) can = can
fills_behind place (tree t args) can = absurd can
fills_behind place no_trees can = absurd can

parts_behind : (place : Tree) (ts : Trees) → CanFill ts → stored_tree (text_tree ts) place ≡ print_parts (Op.Control Control.Fprintf) (tree place ts)
parts_behind place (tree (String format) args) can = refl
parts_behind place (tree t args) can = absurd can
parts_behind place no_trees can = absurd can

pub place_made : (made value : Tree) (target copy : Node) (args behind : List Node) → 1 ≤ length args → target ≡ get_or args 0 target → node_tree copy ≡ node_tree target → behind ≡ drop 1 args → (CanFill (trees_of behind) → value ≡ text_tree (trees_of behind))
    → (IsGiven value → made ≡ stored_tree value (node_tree copy)) → CanPrint (Op.Control Control.Fprintf) (trees_of args) → made ≡ print_parts (Op.Control Control.Fprintf) (trees_of args)
place_made made value target copy args behind h t c r v m can =
    let e = first_of args target h t ∙ ap (λ ns. tree (node_tree target) (trees_of ns)) (sym r) in
    let fills = fills_behind (node_tree target) (trees_of behind) (subst (CanPrint (Op.Control Control.Fprintf)) e can) in
    stored_said made value (node_tree copy) (trees_of behind) fills v m ∙ ap (stored_tree (text_tree (trees_of behind))) c
    ∙ parts_behind (node_tree target) (trees_of behind) fills ∙ ap (print_parts (Op.Control Control.Fprintf)) (sym e)

pub into_none : (made : Tree) (args : List Node) → length args < 1 → CanPrint (Op.Control Control.Fprintf) (trees_of args) → made ≡ print_parts (Op.Control Control.Fprintf) (trees_of args)
unfolding trees_of
into_none made [] h can = absurd can
into_none made (node ∷ args) h can = absurd (omega (arith, h))

fills_debug : (ts : Trees) → CanPrint (Op.Control Control.Printf) ts → CanFill ts
fills_debug (tree (String format) args) can = can
fills_debug (tree t args) can = absurd can
fills_debug no_trees can = absurd can

parts_debug : (ts : Trees) → CanFill ts → stored_tree (text_tree ts) Debug ≡ print_parts (Op.Control Control.Printf) ts
parts_debug (tree (String format) args) can = refl
parts_debug (tree t args) can = absurd can
parts_debug no_trees can = absurd can

pub debug_printed : (made value target : Tree) (ts : Trees) → target ≡ Debug → (CanFill ts → value ≡ text_tree ts) → (IsGiven value → made ≡ stored_tree value target) → CanPrint (Op.Control Control.Printf) ts → made ≡ print_parts (Op.Control Control.Printf) ts
debug_printed made value target ts d v m can =
    let fills = fills_debug ts can in
    stored_said made value target ts fills v m ∙ ap (stored_tree (text_tree ts)) d ∙ parts_debug ts fills

pub to_printf : (made : Tree) (op : Op) (ts : Trees) → op ≡ Op.Control Control.Printf → (CanPrint (Op.Control Control.Printf) ts → made ≡ print_parts (Op.Control Control.Printf) ts) → CanPrint op ts → made ≡ print_parts op ts
to_printf made op ts o m can = m (subst (λ o. CanPrint o ts) o can) ∙ ap (λ o. print_parts o ts) (sym o)

pub to_fprintf : (made : Tree) (op : Op) (ts : Trees) → op ≡ Op.Control Control.Fprintf → (CanPrint (Op.Control Control.Fprintf) ts → made ≡ print_parts (Op.Control Control.Fprintf) ts) → CanPrint op ts → made ≡ print_parts op ts
to_fprintf made op ts o m can = m (subst (λ o. CanPrint o ts) o can) ∙ ap (λ o. print_parts o ts) (sym o)

pub no_print : (made : Tree) (op : Op) (ts : Trees) → (op ≡ Op.Control Control.Printf → ⊥) → (op ≡ Op.Control Control.Fprintf → ⊥) → CanPrint op ts → made ≡ print_parts op ts
no_print made (Op.Control Control.Printf) ts a b can = absurd (a refl)
no_print made (Op.Control Control.Fprintf) ts a b can = absurd (b refl)
no_print made op ts a b can = absurd can

pub spread_print : (at : At) (op : Op) (args : Trees) → CanPrint op args → tree (print_parts op args) no_trees ≡ spread (form at op args no_trees) no_trees
spread_print at (Op.Control Control.Printf) (tree (String format) args) can = sym (ap (λ c. if c then tree (print_tree Debug format args) no_trees else tree (Print Debug format args) no_trees) can.0)
spread_print at (Op.Control Control.Fprintf) (tree place (tree (String format) args)) can = sym (ap (λ c. if c then tree (print_tree place format args) no_trees else tree (Print place format args) no_trees) can.0)
spread_print at op args can = absurd can

pub print_row : (op : Op) (args body : Vec Node Global) → IsPrint (D.Form op args body) → CanPrint op (trees_of args.items) × (trees_of body.items ≡ no_trees)
print_row op args body h =
    let a = args_row (D.Form op args body) in
    let b = body_row (D.Form op args body) in
    let ea = rows a.0 a.1 ∙ ap trees_of (D.items_hidden-the_row-Node-0 args) in
    let eb = rows b.0 b.1 ∙ ap trees_of (D.items_hidden-the_row-Node-0 body) in
    (subst (CanPrint op) ea h.0, sym eb ∙ h.1)

pub print_made : (node : Node) (op : Op) (args body : Vec Node Global) (made : Tree) (now : List Node) → node.term ≡ D.Form op args body → now ≡ args.items → IsPrint node.term → (CanPrint op (trees_of now) → made ≡ print_parts op (trees_of now)) → tree made no_trees ≡ spread (node_tree node) no_trees
print_made node op args body made now e n h m =
    let at : At = record { id = node.id; place = node.place } in
    let is = print_row op args body (subst IsPrint e h) in
    let ts = ap trees_of n in
    ap (λ t. tree t no_trees) (m (subst (CanPrint op) (sym ts) is.0) ∙ ap (print_parts op) ts)
    ∙ spread_print at op (trees_of args.items) is.0
    ∙ ap (λ us. spread (form at op (trees_of args.items) us) no_trees) (sym is.1)
    ∙ sym (ap (λ t. spread (tree_of at t) no_trees) e ∙ ap (λ t. spread t no_trees) (form_tree at op args body))

pub not_print : (t : Term) → ((o : Op) (v w : Vec Node Global) → t ≡ D.Form o v w → ⊥) → IsPrint t → ⊥
not_print t not_form h = by_form t (no_form t not_form) h
  where
    by_form : (t : Term) → is_form t ≡ false → IsPrint t → ⊥
    by_form (D.Form' op shape args shape' body) e h = absurd (grind arith)
    by_form t e h = h

pub no_print_form : (node : Node) (made : Tree) → ((o : Op) (v w : Vec Node Global) → node.term ≡ D.Form o v w → ⊥) → IsPrint node.term → tree made no_trees ≡ spread (node_tree node) no_trees
no_print_form node made not_form h = absurd (not_print node.term not_form h)
