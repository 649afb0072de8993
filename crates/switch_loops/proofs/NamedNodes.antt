-- The Locals that nodes name.
use Rattle.std.proofs.Common.{◌≡◌, ℕ, Bool, true, false, List, [], ◌∷◌, ◌++◌, Vec, Global, refl, sym, ap, ◌∙◌, arith}
use Rattle.asl_tree.specs.declared.path.Path.{Path}
use Rattle.asl_tree.specs.declared.term.Op.{Op}
use Rattle.asl_tree.specs.declared.term.Node.{Node}
use Rattle.asl_tree.specs.declared.term.Term.{Term}
use Rattle.asl_tree.specs.declared.term.Term as D
use Rattle.asl_tree.specs.declared.term.Term.TheVariants as V
use Rattle.asl_tree.specs.Tree.{At, Trees}
use Rattle.asl_tree.specs.View.{tree_of, trees_of}
use Rattle.acpi_names.specs.Walked.{node_tree}
use Rattle.acpi_names.proofs.Trees.{form_tree, call_tree}
use Rattle.hidden_locals.specs.Locals.{locals, locals_all}
use Rattle.switch_loops.specs.Reads.{marked, marked_all, form_locals, reads_of}
use Rattle.switch_loops.proofs.LocalRows.{named_form}
use Rattle.switch_loops.proofs.Marks.{marked-append}

pub local_is : (at : At) (t : Term) (i : ℕ) → t ≡ D.Local i → locals (tree_of at t) ≡ i ∷ []
unfolding tree_of
local_is at t i e = ap (λ t. locals (tree_of at t)) e

pub local_named : (node : Node) (i : ℕ) (found : List Bool) → node.term ≡ D.Local i → marked found i ≡ marked_all found (locals (node_tree node))
local_named node i found e = sym (ap (marked_all found) (local_is (record { id = node.id; place = node.place }) node.term i e))

pub both_named : (found first : List Bool) (args body : Trees) → first ≡ marked_all found (locals_all args) → marked_all first (locals_all body) ≡ marked_all found (locals_all args ++ locals_all body)
both_named found first args body e = ap (λ f. marked_all f (locals_all body)) e ∙ sym (marked-append found (locals_all args) (locals_all body))

pub call_named : (node : Node) (path : Path) (args : Vec Node Global) (nodes : List Node) (found result : List Bool) → node.term ≡ D.Call path args → nodes ≡ args.items → result ≡ marked_all found (locals_all (trees_of nodes)) → result ≡ marked_all found (locals (node_tree node))
call_named node path args nodes found result e f h =
    h ∙ ap (λ ns. marked_all found (locals_all (trees_of ns))) f
    ∙ ap (λ t. marked_all found (locals t)) (sym (ap (tree_of (record { id = node.id; place = node.place })) e ∙ call_tree (record { id = node.id; place = node.place }) path args))

pub form_named : (node : Node) (op : Op) (args body : Vec Node Global) (first second : List Node) (found result : List Bool) → node.term ≡ D.Form op args body → first ≡ args.items → second ≡ body.items
    → result ≡ marked_all found (form_locals (reads_of op (trees_of first) (trees_of second)) (trees_of first) (trees_of second)) → result ≡ marked_all found (locals (node_tree node))
form_named node op args body first second found result e f g h =
    h ∙ ap (λ ns. marked_all found (form_locals (reads_of op (trees_of ns) (trees_of second)) (trees_of ns) (trees_of second))) f
    ∙ ap (λ ns. marked_all found (form_locals (reads_of op (trees_of args.items) (trees_of ns)) (trees_of args.items) (trees_of ns))) g
    ∙ ap (marked_all found) (sym (named_form (record { id = node.id; place = node.place }) op (trees_of args.items) (trees_of body.items)))
    ∙ ap (λ t. marked_all found (locals t)) (sym (ap (tree_of (record { id = node.id; place = node.place })) e ∙ form_tree (record { id = node.id; place = node.place }) op args body))

abbrev is_other : Term → Bool
is_other (D.Local i) = false
is_other (D.Call' path shape args) = false
is_other (D.Form' op shape args shape' body) = false
is_other _ = true

others_named : (at : At) (t : Term) → is_other t ≡ true → locals (tree_of at t) ≡ []
unfolding tree_of
others_named at (D.Local i) e = absurd (grind arith)
others_named at (D.Call' path shape args) e = absurd (grind arith)
others_named at (D.Form' op shape args shape' body) e = absurd (grind arith)
others_named at (D.Arg i) e = refl
others_named at t e = refl

pub no_locals : (node : Node) → ((i : ℕ) → node.term ≡ D.Local i → ⊥) → ((p : Path) (v : Vec Node Global) → node.term ≡ D.Call p v → ⊥) → ((o : Op) (v w : Vec Node Global) → node.term ≡ D.Form o v w → ⊥) → locals (node_tree node) ≡ []
no_locals node not_local not_call not_form = others_named (record { id = node.id; place = node.place }) node.term (by_layer (D.out-Term node.term) (sym (D.roll-out-Term node.term)))
  where
    by_layer : (f : D.Term-F Term Node) → node.term ≡ D.roll-Term f → is_other node.term ≡ true
    by_layer (D.Term-F.Call p v) e = absurd (not_call p v (e ∙ V.rolls-Call p v))
    by_layer (D.Term-F.Form o v w) e = absurd (not_form o v w (e ∙ V.rolls-Form o v w))
    by_layer (D.Term-F.Name p) e = ap is_other (e ∙ V.rolls-Name p)
    by_layer (D.Term-F.Integer n) e = ap is_other (e ∙ V.rolls-Integer n)
    by_layer (D.Term-F.Text text) e = ap is_other (e ∙ V.rolls-Text text)
    by_layer (D.Term-F.Fill bytes named) e = ap is_other (e ∙ V.rolls-Fill bytes named)
    by_layer (D.Term-F.Word word) e = ap is_other (e ∙ V.rolls-Word word)
    by_layer (D.Term-F.Local n) e = absurd (not_local n (e ∙ V.rolls-Local n))
    by_layer (D.Term-F.Arg n) e = ap is_other (e ∙ V.rolls-Arg n)
    by_layer (D.Term-F.Debug) e = ap is_other (e ∙ V.rolls-Debug)
    by_layer (D.Term-F.Omitted) e = ap is_other (e ∙ V.rolls-Omitted)
    by_layer (D.Term-F.Unit segment bits) e = ap is_other (e ∙ V.rolls-Unit segment bits)
    by_layer (D.Term-F.Skip n) e = ap is_other (e ∙ V.rolls-Skip n)
    by_layer (D.Term-F.Offset n) e = ap is_other (e ∙ V.rolls-Offset n)
    by_layer (D.Term-F.Access access attribute count) e = ap is_other (e ∙ V.rolls-Access access attribute count)

pub other_named : (node : Node) (found : List Bool) → ((i : ℕ) → node.term ≡ D.Local i → ⊥) → ((p : Path) (v : Vec Node Global) → node.term ≡ D.Call p v → ⊥) → ((o : Op) (v w : Vec Node Global) → node.term ≡ D.Form o v w → ⊥) → found ≡ marked_all found (locals (node_tree node))
other_named node found not_local not_call not_form = sym (ap (marked_all found) (no_locals node not_local not_call not_form))
