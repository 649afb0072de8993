-- What stands for a term, by its nodes.
use Rattle.std.proofs.Common.{◌≡◌, ℕ, suc, ◌<◌, ◌≤◌, Bool, true, false, not, List, [], ◌∷◌, length, drop, get_or, Vec, Global, Option, refl, sym, ap, ◌∙◌, arith}
use Rattle.std.specs.Prelude.{nat_eq, ◌&&◌, if◌then◌else◌}
use Rattle.std.proofs.lemmas.Bool.Decides.{nat_tests}
use Rattle.asl_tree.specs.declared.term.Control.TheVariants as Control
use Rattle.asl_tree.specs.declared.term.Op.{Op}
use Rattle.asl_tree.specs.declared.term.Node.{Node}
use Rattle.asl_tree.specs.declared.term.Term.{Term}
use Rattle.asl_tree.specs.declared.term.Term as D
use Rattle.asl_tree.specs.Formats.{cut}
use Rattle.asl_tree.specs.Tree.{At, Tree, String, For, Print, Omitted, Trees, no_trees, tree}
use Rattle.asl_tree.specs.View.{fits, tree_of, row_trees, trees_of}
use Rattle.asl_prints.specs.Forms.{are_filled, are_given, is_given, is_expression, is_filled, is_steppable, have_far_continue, for_trees, followed, print_tree, spread}
use Rattle.asl_prints.specs.Nodes.{node_tree, none_in, AreGiven, IsGiven, CanPrint, IsPrint, Prints}
use Rattle.asl_formats.specs.Steps.{CanStep, IsLoop}
use Rattle.asl_prints.specs.Texts.{is_text}
use Rattle.asl_formats.specs.Stands.{bare_stand, behind_first, form_stand, loop_if, loop_stand, stand_of, text_if, text_stand}
use Rattle.asl_prints.specs.Fits.{expresses}
use Rattle.asl_formats.specs.declared.stand.Stand.{Stand}
use Rattle.asl_formats.specs.declared.stand.Stand.TheVariants as S
use Rattle.asl_prints.proofs.Nodes.{form_tree}
use Rattle.asl_prints.proofs.Expressions.{value_form}
use Rattle.asl_formats.proofs.StandForms.{stand_form}
use Rattle.asl_prints.proofs.TextForms.{no_text_form}
use Rattle.asl_prints.proofs.Layers.{is_form, no_form}
use Rattle.asl_prints.proofs.Leaving.{nat_eq_suc}
use Rattle.asl_operators.specs.Letters.{letters_as}
use Rattle.asl_operators.specs.declared.letter.Letter.{Letter as CodeLetter}

-- ---- how many

pub fit_long : (letters : List CodeLetter) (nodes : List Node) → fits (letters_as letters) (trees_of nodes) ≡ nat_eq (length nodes) (length letters)
unfolding trees_of
fit_long [] [] = sym (let e : nat_eq 0 0 ≡ true = grind (arith, nat_tests) in e)
fit_long [] (node ∷ nodes) = sym (let e : nat_eq (suc (length nodes)) 0 ≡ false = grind (arith, nat_tests) in e)
fit_long (letter ∷ letters) [] = sym (let e : nat_eq 0 (suc (length letters)) ≡ false = grind (arith, nat_tests) in e)
fit_long (letter ∷ letters) (node ∷ nodes) = fit_long letters nodes ∙ sym (nat_eq_suc (length nodes) (length letters))

-- ---- expressions

pub expression_form : (t : Term) (op : Op) (args body : Vec Node Global) (xs ys : List Node) (result : Bool) → t ≡ D.Form op args body → xs ≡ args.items → ys ≡ body.items → result ≡ expresses op (trees_of xs) (trees_of ys) → (at : At) → is_expression (tree_of at t) ≡ result
expression_form t op args body xs ys result e ea eb r at =
    ap (λ t. is_expression (tree_of at t)) e ∙ ap is_expression (form_tree at op args body) ∙ value_form at op (trees_of args.items) (trees_of body.items)
    ∙ sym (r ∙ ap (λ ns. expresses op (trees_of ns) (trees_of ys)) ea ∙ ap (λ ns. expresses op (trees_of args.items) (trees_of ns)) eb)

pub fill_is : (t : Term) (bytes : List ℕ) (named : _) → t ≡ D.Fill bytes named → (at : At) → is_expression (tree_of at t) ≡ false
unfolding tree_of
fill_is t bytes named e at = ap (λ t. is_expression (tree_of at t)) e

pub unit_is : (t : Term) (segment : _) (bits : ℕ) → t ≡ D.Unit segment bits → (at : At) → is_expression (tree_of at t) ≡ false
unfolding tree_of
unit_is t segment bits e at = ap (λ t. is_expression (tree_of at t)) e

pub skip_is : (t : Term) (bits : ℕ) → t ≡ D.Skip bits → (at : At) → is_expression (tree_of at t) ≡ false
unfolding tree_of
skip_is t bits e at = ap (λ t. is_expression (tree_of at t)) e

pub offset_is : (t : Term) (bytes : ℕ) → t ≡ D.Offset bytes → (at : At) → is_expression (tree_of at t) ≡ false
unfolding tree_of
offset_is t bytes e at = ap (λ t. is_expression (tree_of at t)) e

pub access_is : (t : Term) (access attribute : ℕ) (count : Option ℕ) → t ≡ D.Access access attribute count → (at : At) → is_expression (tree_of at t) ≡ false
unfolding tree_of
access_is t access attribute count e at = ap (λ t. is_expression (tree_of at t)) e

pub value_is : (t : Term) → ((o : Op) (v w : Vec Node Global) → t ≡ D.Form o v w → ⊥) → ((bytes : List ℕ) (named : _) → t ≡ D.Fill bytes named → ⊥) → ((segment : _) (bits : ℕ) → t ≡ D.Unit segment bits → ⊥) → ((bits : ℕ) → t ≡ D.Skip bits → ⊥)
    → ((bytes : ℕ) → t ≡ D.Offset bytes → ⊥) → ((access attribute : ℕ) (count : Option ℕ) → t ≡ D.Access access attribute count → ⊥) → (at : At) → is_expression (tree_of at t) ≡ true
unfolding tree_of
value_is (D.Form' op shape args shape' body) no_f no_l no_u no_s no_o no_a at = let e : true ≡ false = no_form (D.Form' op shape args shape' body) no_f in absurd cc
value_is (D.Fill bytes named) no_f no_l no_u no_s no_o no_a at = absurd (no_l bytes named refl)
value_is (D.Unit segment bits) no_f no_l no_u no_s no_o no_a at = absurd (no_u segment bits refl)
value_is (D.Skip bits) no_f no_l no_u no_s no_o no_a at = absurd (no_s bits refl)
value_is (D.Offset bytes) no_f no_l no_u no_s no_o no_a at = absurd (no_o bytes refl)
value_is (D.Access access attribute count) no_f no_l no_u no_s no_o no_a at = absurd (no_a access attribute count refl)
value_is t no_f no_l no_u no_s no_o no_a at = refl

-- ---- a For

three_nodes : (a b c : Node) → trees_of (a ∷ b ∷ c ∷ []) ≡ tree (node_tree a) (tree (node_tree b) (tree (node_tree c) no_trees))
unfolding trees_of
three_nodes a b c = refl

three_items : (nodes : List Node) (a c : Node) → 3 ≤ length nodes → length nodes < 4 → a ≡ get_or nodes 0 a → c ≡ get_or nodes 2 c → (b : Node) × (nodes ≡ a ∷ b ∷ c ∷ [])
three_items [] a c h k ea ec = absurd (omega (arith, h))
three_items (x ∷ []) a c h k ea ec = absurd (omega (arith, h))
three_items (x ∷ y ∷ []) a c h k ea ec = absurd (omega (arith, h))
three_items (x ∷ y ∷ z ∷ []) a c h k ea ec = (y, ap (λ n. n ∷ y ∷ z ∷ []) (sym ea) ∙ ap (λ n. a ∷ y ∷ n ∷ []) (sym ec))
three_items (x ∷ y ∷ z ∷ w ∷ nodes) a c h k ea ec = absurd (omega (arith, k))

pub loop_stands : (args body : List Node) (start step : Node) (first second far third holds : Bool) (result : Stand) → 3 ≤ length args → length args < 4 → start ≡ get_or args 0 start → step ≡ get_or args 2 step → ((at : At) → is_expression (tree_of at start.term) ≡ first)
    → ((at : At) → is_expression (tree_of at step.term) ≡ second) → far ≡ have_far_continue (trees_of body) → third ≡ not far → holds ≡ (first && (second && third)) → result ≡ loop_if holds → result ≡ loop_stand (trees_of args) (trees_of body)
loop_stands args body start step first second far third holds result h k es et f s b t is r =
    let three = three_items args start step h k es et in
    r ∙ ap loop_if (is ∙ ap (λ c. c && (second && third)) (sym (f (record { id = start.id; place = start.place }))) ∙ ap (λ c. is_expression (node_tree start) && (c && third)) (sym (s (record { id = step.id; place = step.place })))
    ∙ ap (λ c. is_expression (node_tree start) && (is_expression (node_tree step) && c)) (t ∙ ap not b))
    ∙ sym (ap (λ ns. loop_stand (trees_of ns) (trees_of body)) three.1 ∙ ap (λ ts. loop_stand ts (trees_of body)) (three_nodes start three.0 step))

other_stands : (args : List Node) (body : Trees) → (length args ≡ 3 → ⊥) → S.Itself ≡ loop_stand (trees_of args) body
unfolding trees_of
other_stands [] body h = refl
other_stands (a ∷ []) body h = refl
other_stands (a ∷ b ∷ []) body h = refl
other_stands (a ∷ b ∷ c ∷ []) body h = absurd (h refl)
other_stands (a ∷ b ∷ c ∷ d ∷ ns) body h = refl

pub few_stand : (args : List Node) (body : Trees) → length args < 3 → S.Itself ≡ loop_stand (trees_of args) body
few_stand args body h = other_stands args body (λ e. omega (arith, h, e))

pub many_stand : (args : List Node) (body : Trees) → 4 ≤ length args → S.Itself ≡ loop_stand (trees_of args) body
many_stand args body h = other_stands args body (λ e. omega (arith, h, e))

-- ---- a format and its arguments

text_tree : (node : Node) (text : List ℕ) → node.term ≡ D.Text text → node_tree node ≡ String text
unfolding tree_of
text_tree node text e = ap (λ t. tree_of (record { id = node.id; place = node.place }) t) e

pub text_stands : (format : Node) (text : List ℕ) (args : Trees) (filled : Bool) (result : Stand) → format.term ≡ D.Text text → filled ≡ is_filled text args → result ≡ text_if filled → result ≡ text_stand (tree (node_tree format) args)
text_stands format text args filled result e f r = r ∙ ap text_if f ∙ sym (ap (λ t. text_stand (tree t args)) (text_tree format text e))

not_text : (at : At) (t : Term) → ((text : List ℕ) → t ≡ D.Text text → ⊥) → is_text (tree_of at t) ≡ false
unfolding tree_of
not_text at (D.Text text) never = absurd (never text refl)
not_text at (D.Form' op shape args shape' body) never = no_text_form at op (row_trees args) (row_trees body)
not_text at t never = refl

no_stand : (t : Tree) (args : Trees) → is_text t ≡ false → S.Itself ≡ text_stand (tree t args)
no_stand (String text) args e = absurd cc
no_stand t args e = refl

pub no_text_stands : (format : Node) (args : Trees) → ((text : List ℕ) → format.term ≡ D.Text text → ⊥) → S.Itself ≡ text_stand (tree (node_tree format) args)
no_text_stands format args never = no_stand (node_tree format) args (not_text (record { id = format.id; place = format.place }) format.term never)

first_of : (nodes : List Node) (node : Node) → 1 ≤ length nodes → node ≡ get_or nodes 0 node → trees_of nodes ≡ tree (node_tree node) (trees_of (drop 1 nodes))
unfolding trees_of
first_of [] node h e = absurd (omega (arith, h))
first_of (n ∷ nodes) node h e = ap (λ n. tree (node_tree n) (trees_of nodes)) (sym e)

pub first_stands : (args rest : List Node) (format : Node) (result : Stand) → 1 ≤ length args → format ≡ get_or args 0 format → rest ≡ drop 1 args → result ≡ text_stand (tree (node_tree format) (trees_of rest)) → result ≡ text_stand (trees_of args)
first_stands args rest format result h e r is = is ∙ ap (λ ns. text_stand (tree (node_tree format) (trees_of ns))) r ∙ sym (ap text_stand (first_of args format h e))

pub none_stands : (args : List Node) → length args < 1 → S.Itself ≡ text_stand (trees_of args)
unfolding trees_of
none_stands [] h = refl
none_stands (node ∷ args) h = absurd (omega (arith, h))

behind_nodes : (args : List Node) → behind_first (trees_of args) ≡ trees_of (drop 1 args)
unfolding trees_of
behind_nodes [] = refl
behind_nodes (node ∷ args) = refl

none_bare : (args body : Trees) → none_in body ≡ true → text_stand args ≡ bare_stand args body
none_bare args no_trees e = refl
none_bare args (tree t ts) e = absurd cc

some_bare : (args body : Trees) → none_in body ≡ false → S.Itself ≡ bare_stand args body
some_bare args no_trees e = absurd cc
some_bare args (tree t ts) e = refl

pub bare_none : (args body : Trees) (none : Bool) (stand : Stand) → none ≡ none_in body → none ≡ true → stand ≡ text_stand args → stand ≡ bare_stand args body
bare_none args body none stand n e s = s ∙ none_bare args body (sym n ∙ e)

pub bare_some : (args body : Trees) (none : Bool) → none ≡ none_in body → none ≡ false → S.Itself ≡ bare_stand args body
bare_some args body none n e = some_bare args body (sym n ∙ e)

printf_is : (args body : Trees) → bare_stand args body ≡ form_stand (Op.Control Control.Printf) args body
printf_is no_trees no_trees = refl
printf_is (tree (String format) args) no_trees = refl
printf_is (tree t args) no_trees = refl
printf_is no_trees (tree t ts) = refl
printf_is (tree (String format) args) (tree u us) = refl
printf_is (tree t args) (tree u us) = refl

fprintf_is : (args body : Trees) → bare_stand (behind_first args) body ≡ form_stand (Op.Control Control.Fprintf) args body
fprintf_is no_trees no_trees = refl
fprintf_is (tree place no_trees) no_trees = refl
fprintf_is (tree place (tree (String format) args)) no_trees = refl
fprintf_is (tree place (tree t args)) no_trees = refl
fprintf_is no_trees (tree u us) = refl
fprintf_is (tree place no_trees) (tree u us) = refl
fprintf_is (tree place (tree (String format) args)) (tree u us) = refl
fprintf_is (tree place (tree t args)) (tree u us) = refl

pub printf_made : (op : Op) (args body : Trees) (stand : Stand) → op ≡ Op.Control Control.Printf → stand ≡ bare_stand args body → stand ≡ form_stand op args body
printf_made op args body stand o s = s ∙ printf_is args body ∙ ap (λ o. form_stand o args body) (sym o)

pub fprintf_made : (op : Op) (args rest : List Node) (body : Trees) (stand : Stand) → op ≡ Op.Control Control.Fprintf → rest ≡ drop 1 args → stand ≡ bare_stand (trees_of rest) body → stand ≡ form_stand op (trees_of args) body
fprintf_made op args rest body stand o r s =
    s ∙ ap (λ ns. bare_stand (trees_of ns) body) r ∙ ap (λ ts. bare_stand ts body) (sym (behind_nodes args)) ∙ fprintf_is (trees_of args) body ∙ ap (λ o. form_stand o (trees_of args) body) (sym o)

-- ---- a term

pub form_stands : (t : Term) (op : Op) (args body : Vec Node Global) (xs ys : List Node) (result : Stand) → t ≡ D.Form op args body → xs ≡ args.items → ys ≡ body.items → result ≡ form_stand op (trees_of xs) (trees_of ys) → (at : At) → stand_of (tree_of at t) ≡ result
form_stands t op args body xs ys result e ea eb r at =
    ap (λ t. stand_of (tree_of at t)) e ∙ ap stand_of (form_tree at op args body) ∙ stand_form at op (trees_of args.items) (trees_of body.items)
    ∙ sym (r ∙ ap (λ ns. form_stand op (trees_of ns) (trees_of ys)) ea ∙ ap (λ ns. form_stand op (trees_of args.items) (trees_of ns)) eb)

flat_stands : (at : At) (t : Term) → is_form t ≡ false → stand_of (tree_of at t) ≡ S.Itself
unfolding tree_of
flat_stands at (D.Form' op shape args shape' body) e = absurd (grind arith)
flat_stands at t e = refl

pub other_stand : (t : Term) → ((o : Op) (v w : Vec Node Global) → t ≡ D.Form o v w → ⊥) → (at : At) → stand_of (tree_of at t) ≡ S.Itself
other_stand t never at = flat_stands at t (no_form t never)

-- a For that a While may stand for
loop_only : (c : Bool) → loop_if c ≡ S.Loop → c ≡ true
loop_only true e = refl
loop_only false e = absurd cc

no_loop_text : (c : Bool) → text_if c ≡ S.Loop → ⊥
no_loop_text true e = cc
no_loop_text false e = cc

text_only : (c : Bool) → text_if c ≡ S.Text → c ≡ true
text_only true e = refl
text_only false e = absurd cc

no_text_loop : (c : Bool) → loop_if c ≡ S.Text → ⊥
no_text_loop true e = cc
no_text_loop false e = cc

loop_parts : (args body : Trees) → loop_stand args body ≡ S.Loop → CanStep args body
loop_parts (tree start (tree test (tree step no_trees))) body e = loop_only (is_steppable start step body) e
loop_parts no_trees body e = cc
loop_parts (tree a no_trees) body e = cc
loop_parts (tree a (tree b no_trees)) body e = cc
loop_parts (tree a (tree b (tree c (tree d ts)))) body e = cc

text_no_loop : (args : Trees) → text_stand args ≡ S.Loop → ⊥
text_no_loop (tree (String format) args) e = no_loop_text (is_filled format args) e
text_no_loop no_trees e = cc
text_no_loop (tree t args) e = cc

bare_no_loop : (args body : Trees) → bare_stand args body ≡ S.Loop → ⊥
bare_no_loop args no_trees e = text_no_loop args e
bare_no_loop args (tree t ts) e = cc

pub loop_term : (at : At) (t : Term) → stand_of (tree_of at t) ≡ S.Loop → IsLoop t
unfolding tree_of
loop_term at (D.Form' (Op.Control Control.For) shape args shape' body) e =
    loop_parts (row_trees args) (row_trees body) (sym (stand_form at (Op.Control Control.For) (row_trees args) (row_trees body)) ∙ e)
loop_term at (D.Form' (Op.Control Control.Printf) shape args shape' body) e =
    absurd (bare_no_loop (row_trees args) (row_trees body) (printf_is (row_trees args) (row_trees body) ∙ sym (stand_form at (Op.Control Control.Printf) (row_trees args) (row_trees body)) ∙ e))
loop_term at (D.Form' (Op.Control Control.Fprintf) shape args shape' body) e =
    absurd (bare_no_loop (behind_first (row_trees args)) (row_trees body) (fprintf_is (row_trees args) (row_trees body) ∙ sym (stand_form at (Op.Control Control.Fprintf) (row_trees args) (row_trees body)) ∙ e))
loop_term at (D.Form' op shape args shape' body) e =
    let f : form_stand op (row_trees args) (row_trees body) ≡ S.Loop = sym (stand_form at op (row_trees args) (row_trees body)) ∙ e in absurd cc
loop_term at t e = absurd cc

-- a format with as many arguments as it asks for
are_all : (args : Trees) → are_given args ≡ true → AreGiven args
are_all no_trees e = tt
are_all (tree Omitted args) e = absurd cc
are_all (tree t args) e = (given t (first_of_both (is_given t) (are_given args) e), are_all args (second_of_both (is_given t) (are_given args) e))
  where
    first_of_both : (a b : Bool) → (a && b) ≡ true → a ≡ true
    first_of_both true b e = refl
    first_of_both false b e = e

    second_of_both : (a b : Bool) → (a && b) ≡ true → b ≡ true
    second_of_both true b e = e
    second_of_both false b e = absurd cc

    given : (t : Tree) → is_given t ≡ true → IsGiven t
    given Omitted e = cc
    given t e = tt

pub prints : (format : List ℕ) (args : Trees) → is_filled format args ≡ true → Prints format args
prints format args e = (e, are_all args (first_of_both (are_given args) (are_filled (cut format).1 args) e))
  where
    first_of_both : (a b : Bool) → (a && b) ≡ true → a ≡ true
    first_of_both true b e = refl
    first_of_both false b e = e

text_parts : (args : Trees) → text_stand args ≡ S.Text → CanPrint (Op.Control Control.Printf) args
text_parts (tree (String format) args) e = prints format args (text_only (is_filled format args) e)
text_parts no_trees e = cc
text_parts (tree t args) e = cc

text_parts_behind : (args : Trees) → text_stand (behind_first args) ≡ S.Text → CanPrint (Op.Control Control.Fprintf) args
text_parts_behind (tree place (tree (String format) args)) e = prints format args (text_only (is_filled format args) e)
text_parts_behind no_trees e = cc
text_parts_behind (tree place no_trees) e = cc
text_parts_behind (tree place (tree t args)) e = cc

loop_no_text : (args body : Trees) → loop_stand args body ≡ S.Text → ⊥
loop_no_text (tree start (tree test (tree step no_trees))) body e = no_text_loop (is_steppable start step body) e
loop_no_text no_trees body e = cc
loop_no_text (tree a no_trees) body e = cc
loop_no_text (tree a (tree b no_trees)) body e = cc
loop_no_text (tree a (tree b (tree c (tree d ts)))) body e = cc

-- there are no braces
text_bare : (args body : Trees) → bare_stand args body ≡ S.Text → (text_stand args ≡ S.Text) × (body ≡ no_trees)
text_bare args no_trees e = (e, refl)
text_bare args (tree t ts) e = absurd cc

pub text_term : (at : At) (t : Term) → stand_of (tree_of at t) ≡ S.Text → IsPrint t
unfolding tree_of
text_term at (D.Form' (Op.Control Control.For) shape args shape' body) e =
    absurd (loop_no_text (row_trees args) (row_trees body) (sym (stand_form at (Op.Control Control.For) (row_trees args) (row_trees body)) ∙ e))
text_term at (D.Form' (Op.Control Control.Printf) shape args shape' body) e =
    let b = text_bare (row_trees args) (row_trees body) (printf_is (row_trees args) (row_trees body) ∙ sym (stand_form at (Op.Control Control.Printf) (row_trees args) (row_trees body)) ∙ e) in
    (text_parts (row_trees args) b.0, b.1)
text_term at (D.Form' (Op.Control Control.Fprintf) shape args shape' body) e =
    let b = text_bare (behind_first (row_trees args)) (row_trees body) (fprintf_is (row_trees args) (row_trees body) ∙ sym (stand_form at (Op.Control Control.Fprintf) (row_trees args) (row_trees body)) ∙ e) in
    (text_parts_behind (row_trees args) b.0, b.1)
text_term at (D.Form' op shape args shape' body) e =
    let f : form_stand op (row_trees args) (row_trees body) ≡ S.Text = sym (stand_form at op (row_trees args) (row_trees body)) ∙ e in absurd cc
text_term at t e = absurd cc

-- ---- a term before others

behind_none : (ts rest : Trees) → followed (followed ts no_trees) rest ≡ followed ts rest
behind_none no_trees rest = refl
behind_none (tree t ts) rest = ap (tree t) (behind_none ts rest)

pub loop_spread : (t : Tree) (rest : Trees) → stand_of t ≡ S.Loop → followed (spread t no_trees) rest ≡ spread t rest
loop_spread (For start test step body) rest e =
    let c = loop_only (is_steppable start step body) e in
    ap (λ c. followed (if c then followed (for_trees start test step body) no_trees else tree (For start test step body) no_trees) rest) c
    ∙ behind_none (for_trees start test step body) rest
    ∙ sym (ap (λ c. if c then followed (for_trees start test step body) rest else tree (For start test step body) rest) c)
loop_spread (Print place format args) rest e = absurd (no_loop_text (is_filled format args) e)
loop_spread t rest e = refl

pub text_spread : (t made : Tree) (rest : Trees) → stand_of t ≡ S.Text → tree made no_trees ≡ spread t no_trees → tree made rest ≡ spread t rest
text_spread (For start test step body) made rest e m = absurd (no_text_loop (is_steppable start step body) e)
text_spread (Print place format args) made rest e m =
    let c = text_only (is_filled format args) e in
    let f = m ∙ ap (λ c. if c then tree (print_tree place format args) no_trees else tree (Print place format args) no_trees) c in
    ap (λ t. tree t rest) (first_is made (print_tree place format args) f) ∙ sym (ap (λ c. if c then tree (print_tree place format args) rest else tree (Print place format args) rest) c)
  where
    first_is : (t u : Tree) → tree t no_trees ≡ tree u no_trees → t ≡ u
    first_is t u e = cc
text_spread t made rest e m = absurd cc

pub loop_not : (c : Bool) → loop_if c ≡ S.Itself → c ≡ false
loop_not true e = absurd cc
loop_not false e = refl

pub text_not : (c : Bool) → text_if c ≡ S.Itself → c ≡ false
text_not true e = absurd cc
text_not false e = refl

pub itself_spread : (t : Tree) (rest : Trees) → stand_of t ≡ S.Itself → tree t rest ≡ spread t rest
itself_spread (For start test step body) rest e =
    sym (ap (λ c. if c then followed (for_trees start test step body) rest else tree (For start test step body) rest) (loop_not (is_steppable start step body) e))
itself_spread (Print place format args) rest e =
    sym (ap (λ c. if c then tree (print_tree place format args) rest else tree (Print place format args) rest) (text_not (is_filled format args) e))
itself_spread t rest e = refl

-- whether a term is an expression
pub ruleset expression_rules = (expression_form, fill_is, unit_is, skip_is, offset_is, access_is, value_is)
