-- Terms that are made in the place of others.
use Rattle.std.proofs.Common.{◌≡◌, ℕ, zero, suc, ◌+◌, ◌<◌, ◌≤◌, Bool, true, false, List, [], ◌∷◌, ◌++◌, length, get_or, set, Vec, Global, None, refl, sym, ap, ◌∙◌, arith}
use Rattle.std.specs.Prelude.{if◌then◌else◌}
use Rattle.std.specs.List.{remove, swap}
use Rattle.acpi_values.specs.declared.operator.Plain.{Plain}
use Rattle.acpi_values.specs.declared.operator.DataOp.TheVariants as DataOp
use Rattle.acpi_values.specs.Operators.{row_of}
use Rattle.asl_tree.specs.declared.path.Path.{Path}
use Rattle.asl_tree.specs.declared.term.Compound.{Compound}
use Rattle.asl_tree.specs.declared.term.Op.{Op}
use Rattle.asl_tree.specs.declared.term.Symbolic.{Symbolic}
use Rattle.asl_tree.specs.declared.term.Symbolic.TheVariants as S
use Rattle.asl_tree.specs.declared.term.Node.{Node}
use Rattle.asl_tree.specs.declared.term.Term.{Term}
use Rattle.asl_tree.specs.declared.term.Term as D
use Rattle.asl_tree.specs.declared.term.Term.TheVariants as V
use Rattle.asl_tree.specs.Symbols.{compound_operator, takes_target}
use Rattle.asl_tree.specs.Tree.{At, Tree, Call, Omitted, Misshapen, Trees, no_trees, tree}
use Rattle.asl_tree.specs.View.{fits, form, operands_as, operated, tree_of, row_trees, trees_of}
use Rattle.acpi_names.specs.Parts.{term_size, nodes_size}
use Rattle.acpi_names.specs.Walked.{OfForm, term_shape, node_tree}
use Rattle.acpi_names.proofs.Trees.{form_tree, call_tree, form_rows}
use Rattle.asl_lower.specs.Kinds.{flagged, shape_kind, shape_args}
use Rattle.asl_lower.specs.Nests.{joined}
use Rattle.asl_lower.specs.Nodes.{given, last_target, named, named_all, named_body, is_symbolic}
use Rattle.term_places.specs.Places.{term_places, places_of}
use Rattle.asl_lower.specs.declared.kind.TermRole.{TermRole}
use Rattle.asl_lower.proofs.Turns.{Turns}
use Rattle.asl_lower.proofs.Backwards.{behind_all, joined_none}
use Rattle.asl_lower.proofs.Forms.{kept_form, symbol_named, store_named, operator_named, compound_named}
use Rattle.asl_lower.proofs.KindRows.{kind_is, kind_operator, operator_of_kind}
use Rattle.asl_lower.proofs.Givens.{form_given}

none : trees_of [] ≡ no_trees
unfolding trees_of
none = refl

no_size : nodes_size [] ≡ 0
unfolding nodes_size
no_size = refl

pub two_trees : (nodes : List Node) (first second : Node) → nodes ≡ first ∷ second ∷ [] → trees_of nodes ≡ tree (node_tree first) (tree (node_tree second) no_trees)
unfolding trees_of
two_trees nodes first second e = ap trees_of e

-- a list of two, taken apart from its end
pub two_removed : (nodes rest : List Node) (first second : Node) → length nodes ≡ 2 → second ≡ get_or nodes 1 second → rest ≡ remove nodes 1 → first ≡ get_or rest 0 first → nodes ≡ first ∷ second ∷ []
two_removed [] rest first second l s r f = absurd (omega (arith, l))
two_removed (a ∷ []) rest first second l s r f = absurd (omega (arith, l))
two_removed (a ∷ b ∷ []) rest first second l s r f = ap (λ x. x ∷ b ∷ []) (sym (f ∙ ap (λ ns. get_or ns 0 first) r)) ∙ ap (λ x. first ∷ x ∷ []) (sym s)
two_removed (a ∷ b ∷ c ∷ nodes) rest first second l s r f = absurd (omega (arith, l))

-- ---- forms

pub bare_form : (at : At) (op : Op) (args body : Vec Node Global) → body.items ≡ [] → tree_of at (D.Form op args body) ≡ form at op (trees_of args.items) no_trees
bare_form at op args body e = form_tree at op args body ∙ ap (λ ns. form at op (trees_of args.items) (trees_of ns)) e ∙ ap (form at op (trees_of args.items)) none

pub given_omitted : (at : At) (args : Vec Node Global) → args.items ≡ [] → form at (Op.Symbolic S.Assign) (trees_of args.items) no_trees ≡ given (tree_of at D.Omitted)
unfolding tree_of
given_omitted at args e = ap (λ ts. form at (Op.Symbolic S.Assign) ts no_trees) (ap trees_of e ∙ none)

pub given_other : (at : At) (t : Term) → (t ≡ D.Omitted → ⊥) → tree_of at t ≡ given (tree_of at t)
unfolding tree_of
given_other at D.Omitted never = absurd (never refl)
given_other at (D.Form' op shape args shape' body) never = sym (form_given at op (row_trees args) (row_trees body))
given_other at t never = refl

-- the arguments of a form
pub args_are : (t : Term) (op : Op) (args body : Vec Node Global) → t ≡ D.Form op args body → trees_of args.items ≡ shape_args (term_shape t)
args_are t op args body e = sym (ap (λ t. shape_args (term_shape t)) e ∙ ap shape_args (form_rows op args body))

-- ---- targets behind operands

joined_behind : (nodes : List Node) (node : Node) (us : Trees) → joined (trees_of (nodes ++ node ∷ [])) us ≡ joined (trees_of nodes) (tree (node_tree node) us)
unfolding trees_of
joined_behind [] node us = refl
joined_behind (n ∷ nodes) node us = ap (tree (node_tree n)) (joined_behind nodes node us)

omitted_node : (node : Node) → node.term ≡ D.Omitted → node_tree node ≡ Omitted
unfolding tree_of
omitted_node node e = ap (tree_of (record { id = node.id; place = node.place })) e

pub target_next : (all new : List Node) (omitted target : Node) (left next : ℕ) (us : Trees) → 1 < left → next + 1 ≡ left → new ≡ all ++ omitted ∷ [] → omitted.term ≡ D.Omitted
    → joined (trees_of all) (last_target left (node_tree target)) ≡ us → joined (trees_of new) (last_target next (node_tree target)) ≡ us
target_next all new omitted target zero next us lt e f o h = absurd (omega (arith, lt))
target_next all new omitted target (suc zero) next us lt e f o h = absurd (omega (arith, lt))
target_next all new omitted target (suc (suc n)) next us lt e f o h =
    let is : next ≡ suc n = omega (arith, e) in
    ap (λ k. joined (trees_of new) (last_target k (node_tree target))) is ∙ ap (λ ns. joined (trees_of ns) (last_target (suc n) (node_tree target))) f
    ∙ joined_behind all omitted (last_target (suc n) (node_tree target)) ∙ ap (λ t. joined (trees_of all) (tree t (last_target (suc n) (node_tree target)))) (omitted_node omitted o) ∙ h

omitted_first : (n : ℕ) → last_target (suc n) Omitted ≡ tree Omitted (last_target n Omitted)
omitted_first zero = refl
omitted_first (suc n) = refl

-- one more target that is left out, and none more
pub omitted_next : (all new : List Node) (omitted : Node) (left next : ℕ) (us : Trees) → next + 1 ≡ left → new ≡ all ++ omitted ∷ [] → omitted.term ≡ D.Omitted
    → joined (trees_of all) (last_target left Omitted) ≡ us → joined (trees_of new) (last_target next Omitted) ≡ us
omitted_next all new omitted left next us e f o h =
    let is : left ≡ suc next = omega (arith, e) in
    ap (λ ns. joined (trees_of ns) (last_target next Omitted)) f
    ∙ joined_behind all omitted (last_target next Omitted) ∙ ap (λ t. joined (trees_of all) (tree t (last_target next Omitted))) (omitted_node omitted o)
    ∙ ap (joined (trees_of all)) (sym (omitted_first next)) ∙ ap (λ n. joined (trees_of all) (last_target n Omitted)) (sym is) ∙ h

pub omitted_none : (all : List Node) (left : ℕ) (us : Trees) → left ≡ 0 → joined (trees_of all) (last_target left Omitted) ≡ us → trees_of all ≡ us
omitted_none all left us e h = sym (ap (λ n. joined (trees_of all) (last_target n Omitted)) e ∙ joined_none (trees_of all)) ∙ h

pub target_last : (all new : List Node) (target : Node) (left : ℕ) (us : Trees) → left ≡ 1 → new ≡ all ++ target ∷ [] → joined (trees_of all) (last_target left (node_tree target)) ≡ us → trees_of new ≡ us
target_last all new target left us e f h = ap trees_of f ∙ behind_all all target ∙ ap (λ n. joined (trees_of all) (last_target n (node_tree target))) (sym e) ∙ h

pub target_none : (all : List Node) (target : Node) (left : ℕ) → left ≡ 0 → trees_of all ≡ joined (trees_of all) (last_target left (node_tree target))
target_none all target left e = sym (ap (λ n. joined (trees_of all) (last_target n (node_tree target))) e ∙ joined_none (trees_of all))

-- ---- terms each by itself

-- a node and what it is lowered to
pub record IsLowered (old now : Node) : Type 0 where
  pub is : node_tree now ≡ named (node_tree old)
  pub places : term_places now ≡ term_places old

trees_lowered : (old now : List Node) → length now ≡ length old → ((k : ℕ) → k < length old → (e : Node) → IsLowered (get_or old k e) (get_or now k e)) → trees_of now ≡ named_all (trees_of old)
unfolding trees_of
trees_lowered [] [] size h = refl
trees_lowered [] (n ∷ now) size h = absurd (omega (arith, size))
trees_lowered (o ∷ old) [] size h = absurd (omega (arith, size))
trees_lowered (o ∷ old) (n ∷ now) size h =
    ap (λ t. tree t (trees_of now)) (h 0 (omega arith) o).is ∙ ap (tree (named (node_tree o))) (trees_lowered old now (omega (arith, size)) (λ k lt e. h (suc k) (omega (arith, lt)) e))

places_lowered : (old now : List Node) → length now ≡ length old → ((k : ℕ) → k < length old → (e : Node) → IsLowered (get_or old k e) (get_or now k e)) → places_of now ≡ places_of old
unfolding places_of
places_lowered [] [] size h = refl
places_lowered [] (n ∷ now) size h = absurd (omega (arith, size))
places_lowered (o ∷ old) [] size h = absurd (omega (arith, size))
places_lowered (o ∷ old) (n ∷ now) size h =
    ap (λ ps. ps ++ places_of now) (h 0 (omega arith) o).places ∙ ap (λ ps. term_places o ++ ps) (places_lowered old now (omega (arith, size)) (λ k lt e. h (suc k) (omega (arith, lt)) e))

pub each_lowered : (old now : List Node) (i : ℕ) → length old ≤ i → Turns (λ k. IsLowered) old now i → (trees_of now ≡ named_all (trees_of old)) × (places_of now ≡ places_of old)
each_lowered old now i le turns =
    let each : (k : ℕ) → k < length old → (e : Node) → IsLowered (get_or old k e) (get_or now k e) = λ k lt e. turns.done k (omega (arith, lt, le)) e in
    (trees_lowered old now turns.size each, places_lowered old now turns.size each)

last_size : (nodes : List Node) (node : Node) → nodes_size (nodes ++ node ∷ []) ≡ nodes_size nodes + suc (term_size node.term)
unfolding nodes_size
last_size [] node = omega arith
last_size (n ∷ nodes) node = let h = last_size nodes node in omega (arith, h)

pub popped_size : (left more : List Node) (node : Node) → left ≡ more ++ node ∷ [] → nodes_size left ≡ nodes_size more + suc (term_size node.term)
popped_size left more node e = ap nodes_size e ∙ last_size more node

pub two_sizes : (nodes : List Node) (first second : Node) → nodes ≡ first ∷ second ∷ [] → nodes_size nodes ≡ suc (term_size first.term + suc (term_size second.term))
unfolding nodes_size
two_sizes nodes first second e = let h = ap nodes_size e in omega (arith, h)

-- ---- a term

abbrev is_flat : Term → Bool
is_flat (D.Call' path shape args) = false
is_flat (D.Form' op shape args shape' body) = false
is_flat _ = true

flat_named : (at : At) (t : Term) → is_flat t ≡ true → tree_of at t ≡ named (tree_of at t)
unfolding tree_of
flat_named at (D.Call' path shape args) e = absurd (grind arith)
flat_named at (D.Form' op shape args shape' body) e = absurd (grind arith)
flat_named at t e = refl

pub other_named : (at : At) (t : Term) → ((p : Path) (v : Vec Node Global) → t ≡ D.Call p v → ⊥) → ((o : Op) (v w : Vec Node Global) → t ≡ D.Form o v w → ⊥) → tree_of at t ≡ named (tree_of at t)
other_named at t not_call not_form = flat_named at t (by_layer (D.out-Term t) (sym (D.roll-out-Term t)))
  where
    by_layer : (f : D.Term-F Term Node) → t ≡ D.roll-Term f → is_flat t ≡ true
    by_layer (D.Term-F.Call p v) e = absurd (not_call p v (e ∙ V.rolls-Call p v))
    by_layer (D.Term-F.Form o v w) e = absurd (not_form o v w (e ∙ V.rolls-Form o v w))
    by_layer (D.Term-F.Name p) e = ap is_flat (e ∙ V.rolls-Name p)
    by_layer (D.Term-F.Integer n) e = ap is_flat (e ∙ V.rolls-Integer n)
    by_layer (D.Term-F.Text text) e = ap is_flat (e ∙ V.rolls-Text text)
    by_layer (D.Term-F.Fill bytes named) e = ap is_flat (e ∙ V.rolls-Fill bytes named)
    by_layer (D.Term-F.Word word) e = ap is_flat (e ∙ V.rolls-Word word)
    by_layer (D.Term-F.Local n) e = ap is_flat (e ∙ V.rolls-Local n)
    by_layer (D.Term-F.Arg n) e = ap is_flat (e ∙ V.rolls-Arg n)
    by_layer (D.Term-F.Debug) e = ap is_flat (e ∙ V.rolls-Debug)
    by_layer (D.Term-F.Omitted) e = ap is_flat (e ∙ V.rolls-Omitted)
    by_layer (D.Term-F.Unit segment bits) e = ap is_flat (e ∙ V.rolls-Unit segment bits)
    by_layer (D.Term-F.Skip n) e = ap is_flat (e ∙ V.rolls-Skip n)
    by_layer (D.Term-F.Offset n) e = ap is_flat (e ∙ V.rolls-Offset n)
    by_layer (D.Term-F.Access access attribute count) e = ap is_flat (e ∙ V.rolls-Access access attribute count)

-- a term that is no form has no arguments
pub no_args : (made : List Node) (t : Term) → made ≡ [] → ((o : Op) (v w : Vec Node Global) → t ≡ D.Form o v w → ⊥) → (trees_of made ≡ shape_args (term_shape t)) × (nodes_size made ≡ 0)
no_args made t e not_form = (ap trees_of e ∙ none ∙ sym (by_layer (D.out-Term t) (sym (D.roll-out-Term t))), ap nodes_size e ∙ no_size)
  where
    by_layer : (f : D.Term-F Term Node) → t ≡ D.roll-Term f → shape_args (term_shape t) ≡ no_trees
    by_layer (D.Term-F.Form o v w) e = absurd (not_form o v w (e ∙ V.rolls-Form o v w))
    by_layer (D.Term-F.Call p v) e = ap (λ t. shape_args (term_shape t)) (e ∙ V.rolls-Call p v)
    by_layer (D.Term-F.Name p) e = ap (λ t. shape_args (term_shape t)) (e ∙ V.rolls-Name p)
    by_layer (D.Term-F.Integer n) e = ap (λ t. shape_args (term_shape t)) (e ∙ V.rolls-Integer n)
    by_layer (D.Term-F.Text text) e = ap (λ t. shape_args (term_shape t)) (e ∙ V.rolls-Text text)
    by_layer (D.Term-F.Fill bytes named) e = ap (λ t. shape_args (term_shape t)) (e ∙ V.rolls-Fill bytes named)
    by_layer (D.Term-F.Word word) e = ap (λ t. shape_args (term_shape t)) (e ∙ V.rolls-Word word)
    by_layer (D.Term-F.Local n) e = ap (λ t. shape_args (term_shape t)) (e ∙ V.rolls-Local n)
    by_layer (D.Term-F.Arg n) e = ap (λ t. shape_args (term_shape t)) (e ∙ V.rolls-Arg n)
    by_layer (D.Term-F.Debug) e = ap (λ t. shape_args (term_shape t)) (e ∙ V.rolls-Debug)
    by_layer (D.Term-F.Omitted) e = ap (λ t. shape_args (term_shape t)) (e ∙ V.rolls-Omitted)
    by_layer (D.Term-F.Unit segment bits) e = ap (λ t. shape_args (term_shape t)) (e ∙ V.rolls-Unit segment bits)
    by_layer (D.Term-F.Skip n) e = ap (λ t. shape_args (term_shape t)) (e ∙ V.rolls-Skip n)
    by_layer (D.Term-F.Offset n) e = ap (λ t. shape_args (term_shape t)) (e ∙ V.rolls-Offset n)
    by_layer (D.Term-F.Access access attribute count) e = ap (λ t. shape_args (term_shape t)) (e ∙ V.rolls-Access access attribute count)

pub call_named : (at : At) (t : Term) (path : Path) (args made : Vec Node Global) → t ≡ D.Call path args → trees_of made.items ≡ named_all (trees_of args.items) → tree_of at (D.Call path made) ≡ named (tree_of at t)
call_named at t path args made e h = call_tree at path made ∙ ap (Call at path) h ∙ ap named (sym (call_tree at path args)) ∙ ap (λ t. named (tree_of at t)) (sym e)

pub form_named : (at : At) (t : Term) (op new : Op) (args body made more : Vec Node Global) → t ≡ D.Form op args body → form at new (trees_of made.items) (trees_of more.items) ≡ named (form at op (trees_of args.items) (trees_of body.items))
    → tree_of at (D.Form new made more) ≡ named (tree_of at t)
form_named at t op new args body made more e h = form_tree at new made more ∙ h ∙ ap named (sym (form_tree at op args body)) ∙ ap (λ t. named (tree_of at t)) (sym e)

not_symbolic : (op : Op) → ((symbol : Symbolic) → op ≡ Op.Symbolic symbol → ⊥) → is_symbolic op ≡ false
not_symbolic (Op.Symbolic symbol) never = absurd (never symbol refl)
not_symbolic op never = refl

pub kept_named : (at : At) (op : Op) (args body made more : Trees) → ((symbol : Symbolic) → op ≡ Op.Symbolic symbol → ⊥) → made ≡ named_all args → more ≡ named_body op body → form at op made more ≡ named (form at op args body)
kept_named at op args body made more never ha hb =
    ap (λ ts. form at op ts more) ha ∙ ap (form at op (named_all args)) hb ∙ sym (kept_form at op args body (not_symbolic op never))

-- ---- symbols that do not fit

symbol_with_body : (at : At) (symbol : Symbolic) (args : Trees) (first : Tree) (rest : Trees) → form at (Op.Symbolic symbol) args (tree first rest) ≡ Misshapen
symbol_with_body at (S.Operator op) args first rest = refl
symbol_with_body at S.Assign no_trees first rest = refl
symbol_with_body at S.Assign (tree t no_trees) first rest = refl
symbol_with_body at S.Assign (tree t (tree u no_trees)) first rest = refl
symbol_with_body at S.Assign (tree t (tree u (tree v vs))) first rest = refl
symbol_with_body at (S.AssignBy op) no_trees first rest = refl
symbol_with_body at (S.AssignBy op) (tree t no_trees) first rest = refl
symbol_with_body at (S.AssignBy op) (tree t (tree u no_trees)) first rest = refl
symbol_with_body at (S.AssignBy op) (tree t (tree u (tree v vs))) first rest = refl

misshapen_named : (t : Tree) → t ≡ Misshapen → t ≡ named t
misshapen_named t e = e ∙ ap named (sym e)

body_misfits : (at : At) (symbol : Symbolic) (args : Trees) (body : List Node) → (length body ≡ 0 → ⊥) → form at (Op.Symbolic symbol) args (trees_of body) ≡ Misshapen
unfolding trees_of
body_misfits at symbol args [] never = absurd (never refl)
body_misfits at symbol args (node ∷ body) never = symbol_with_body at symbol args (node_tree node) (trees_of body)

pub symbol_misfits : (at : At) (op : Op) (symbol : Symbolic) (args : Trees) (body : List Node) → op ≡ Op.Symbolic symbol → (length body ≡ 0 → ⊥) → form at op args (trees_of body) ≡ named (form at op args (trees_of body))
symbol_misfits at op symbol args body e never = misshapen_named (form at op args (trees_of body)) (ap (λ o. form at o args (trees_of body)) e ∙ body_misfits at symbol args body never)

no_node : (nodes : List Node) → length nodes ≡ 0 → trees_of nodes ≡ no_trees
unfolding trees_of
no_node [] e = refl
no_node (node ∷ nodes) e = absurd (omega (arith, e))

pub symbol_bare : (at : At) (op new : Op) (symbol : Symbolic) (args made : Trees) (body : List Node) → op ≡ Op.Symbolic symbol → length body ≡ 0 → form at new made no_trees ≡ named (form at (Op.Symbolic symbol) args no_trees)
    → form at new made (trees_of body) ≡ named (form at op args (trees_of body))
symbol_bare at op new symbol args made body is e h =
    ap (form at new made) (no_node body e) ∙ h ∙ ap (λ o. named (form at o args no_trees)) (sym is) ∙ ap (λ ts. named (form at op args ts)) (sym (no_node body e))

pub operator_misfits : (at : At) (op : Plain) (args : Trees) → fits (row_of op).operands args ≡ false → form at (Op.Symbolic (S.Operator op)) args no_trees ≡ named (form at (Op.Symbolic (S.Operator op)) args no_trees)
operator_misfits at op args e = misshapen_named (form at (Op.Symbolic (S.Operator op)) args no_trees) (ap (λ c. if c then operated op (operands_as (row_of op).operands args) else Misshapen) e)

pub assign_misfits : (at : At) (args : List Node) → (length args ≡ 2 → ⊥) → form at (Op.Symbolic S.Assign) (trees_of args) no_trees ≡ named (form at (Op.Symbolic S.Assign) (trees_of args) no_trees)
unfolding trees_of
assign_misfits at [] never = refl
assign_misfits at (a ∷ []) never = refl
assign_misfits at (a ∷ b ∷ []) never = absurd (never refl)
assign_misfits at (a ∷ b ∷ c ∷ args) never = refl

pub assign_by_misfits : (at : At) (op : Compound) (args : List Node) → (length args ≡ 2 → ⊥) → form at (Op.Symbolic (S.AssignBy op)) (trees_of args) no_trees ≡ named (form at (Op.Symbolic (S.AssignBy op)) (trees_of args) no_trees)
unfolding trees_of
assign_by_misfits at op [] never = refl
assign_by_misfits at op (a ∷ []) never = refl
assign_by_misfits at op (a ∷ b ∷ []) never = absurd (never refl)
assign_by_misfits at op (a ∷ b ∷ c ∷ args) never = refl

-- ---- symbols that fit

pub operator_lowered : (at : At) (op : Plain) (args : Trees) (operands all : Trees) → fits (row_of op).operands args ≡ true → operands ≡ named_all args
    → all ≡ joined operands (last_target (row_of op).targets Omitted) → form at (Op.Plain op) all no_trees ≡ named (form at (Op.Symbolic (S.Operator op)) args no_trees)
operator_lowered at op args operands all e ho ha =
    ap (λ ts. form at (Op.Plain op) ts no_trees) (ha ∙ ap (λ ts. joined ts (last_target (row_of op).targets Omitted)) ho)
    ∙ sym (symbol_named at op args e)

-- a term that is an operator which is given a target
record IsOperator (op : Plain) (args : Trees) (form_at : At → Tree) : Type 0 where
  is : (at : At) → form_at at ≡ form at (Op.Symbolic (S.Operator op)) args no_trees
  fit : fits (row_of op).operands args ≡ true
  takes : takes_target op ≡ true

operator_form : (o : Op) (args body : Trees) (op : Plain) → shape_kind (OfForm o args body) ≡ TermRole.Operated op → IsOperator op args (λ at. form at o args body)
operator_form (Op.Symbolic (S.Operator o)) args (tree t ts) op e = absurd cc
operator_form (Op.Symbolic (S.Operator o)) args no_trees op e = by_flags (fits (row_of o).operands args) (takes_target o) refl refl e
  where
    by_flags : (a b : Bool) → fits (row_of o).operands args ≡ a → takes_target o ≡ b → flagged a (flagged b (TermRole.Operated o)) ≡ TermRole.Operated op → IsOperator op args (λ at. form at (Op.Symbolic (S.Operator o)) args no_trees)
    by_flags true true f g e = let same : o ≡ op = cc in record {
      is = λ at. ap (λ o. form at (Op.Symbolic (S.Operator o)) args no_trees) same;
      fit = ap (λ o. fits (row_of o).operands args) (sym same) ∙ f;
      takes = ap takes_target (sym same) ∙ g;
    }
    by_flags true false f g e = absurd cc
    by_flags false b f g e = absurd cc
operator_form _ args body op e = absurd cc

operator_term : (t : Term) (op : Plain) → shape_kind (term_shape t) ≡ TermRole.Operated op → IsOperator op (shape_args (term_shape t)) (λ at. tree_of at t)
unfolding tree_of
operator_term (D.Form' o shape args shape' body) op e = operator_form o (row_trees args) (row_trees body) op e
operator_term _ op e = absurd cc

pub assign_lowered : (at : At) (args : List Node) (target value low : Node) (op : Plain) (inner operands all : Trees) → args ≡ target ∷ value ∷ [] → node_tree low ≡ named (node_tree target) → TermRole.Operated op ≡ shape_kind (term_shape value.term)
    → inner ≡ shape_args (term_shape value.term) → operands ≡ named_all inner → all ≡ joined operands (last_target (row_of op).targets (node_tree low))
    → form at (Op.Plain op) all no_trees ≡ named (form at (Op.Symbolic S.Assign) (trees_of args) no_trees)
assign_lowered at args target value low op inner operands all two low_is k hi ho ha =
    let o = operator_term value.term op (sym k) in
    let here : At = record { id = value.id; place = value.place } in
    ap (λ ts. form at (Op.Plain op) ts no_trees)
    (ha ∙ ap (λ ts. joined ts (last_target (row_of op).targets (node_tree low))) (ho ∙ ap named_all hi) ∙ ap (λ t. joined (named_all (shape_args (term_shape value.term))) (last_target (row_of op).targets t)) low_is)
    ∙ sym (operator_named at here op (shape_args (term_shape value.term)) (node_tree target) o.fit o.takes)
    ∙ ap (λ t. named (form at (Op.Symbolic S.Assign) (tree (node_tree target) (tree t no_trees)) no_trees)) (sym (o.is here))
    ∙ ap (λ ts. named (form at (Op.Symbolic S.Assign) ts no_trees)) (sym (two_trees args target value two))

not_operated : (k : TermRole) → ((op : Plain) → k ≡ TermRole.Operated op → ⊥) → kind_operator k ≡ None
not_operated (TermRole.Operated op) never = absurd (never op refl)
not_operated k never = refl

-- nodes that stand for two trees are two
record TwoNodes (nodes : List Node) (t u : Tree) : Type 0 where
  first : Node
  second : Node
  are : nodes ≡ first ∷ second ∷ []
  first_is : node_tree first ≡ t
  second_is : node_tree second ≡ u

two_nodes : (nodes : List Node) (t u : Tree) → trees_of nodes ≡ tree t (tree u no_trees) → TwoNodes nodes t u
unfolding trees_of
two_nodes [] t u e = absurd cc
two_nodes (a ∷ []) t u e = absurd cc
two_nodes (a ∷ b ∷ []) t u e = record { first = a; second = b; are = refl; first_is = cc; second_is = cc }
two_nodes (a ∷ b ∷ c ∷ nodes) t u e = absurd cc

pub two_long : (nodes : List Node) (d : Node) → length nodes ≡ 2 → nodes ≡ get_or nodes 0 d ∷ get_or nodes 1 d ∷ []
two_long [] d e = absurd (omega (arith, e))
two_long (a ∷ []) d e = absurd (omega (arith, e))
two_long (a ∷ b ∷ []) d e = refl
two_long (a ∷ b ∷ c ∷ nodes) d e = absurd (omega (arith, e))

-- the arguments of an assignment, lowered
args_lowered : (args each : List Node) (target value : Node) → args ≡ target ∷ value ∷ [] → trees_of each ≡ named_all (trees_of args) → TwoNodes each (named (node_tree target)) (named (node_tree value))
args_lowered args each target value e h = two_nodes each (named (node_tree target)) (named (node_tree value)) (h ∙ ap named_all (two_trees args target value e))

pub both_long : (args each : List Node) → length args ≡ 2 → trees_of each ≡ named_all (trees_of args) → length each ≡ 2
both_long [] each e h = absurd (omega (arith, e))
both_long (a ∷ []) each e h = absurd (omega (arith, e))
both_long (a ∷ b ∷ []) each e h = ap length (args_lowered (a ∷ b ∷ []) each a b refl h).are
both_long (a ∷ b ∷ c ∷ args) each e h = absurd (omega (arith, e))

-- `X = E` as a Store: the arguments lowered, each in the other's place, with a value that has to be there
pub store_lowered : (at : At) (args each swapped : List Node) (value first there : Node) (k : TermRole) → length args ≡ 2 → value ≡ get_or args 1 value → trees_of each ≡ named_all (trees_of args) → swapped ≡ swap each 0 1
    → first ≡ get_or swapped 0 first → node_tree there ≡ given (node_tree first) → k ≡ shape_kind (term_shape value.term) → ((op : Plain) → k ≡ TermRole.Operated op → ⊥)
    → form at (Op.Plain (Plain.Data DataOp.Store)) (trees_of (set swapped 0 there)) no_trees ≡ named (form at (Op.Symbolic S.Assign) (trees_of args) no_trees)
store_lowered at args each swapped value first there k long is low turned first_is there_is k_is never =
    let target : Node = get_or args 0 value in
    let two : args ≡ target ∷ value ∷ [] = two_long args value long ∙ ap (λ n. target ∷ n ∷ []) (sym is) in
    let both = args_lowered args each target value two low in
    let here : At = record { id = value.id; place = value.place } in
    let swapped_are : swapped ≡ both.second ∷ both.first ∷ [] = turned ∙ ap (λ ns. swap ns 0 1) both.are in
    let given_is : node_tree there ≡ given (named (node_tree value)) = there_is ∙ ap (λ n. given (node_tree n)) (first_is ∙ ap (λ ns. get_or ns 0 first) swapped_are) ∙ ap given both.second_is in
    ap (λ ts. form at (Op.Plain (Plain.Data DataOp.Store)) ts no_trees)
    (ap (λ ns. trees_of (set ns 0 there)) swapped_are ∙ two_trees (there ∷ both.first ∷ []) there both.first refl ∙ ap (λ t. tree t (tree (node_tree both.first) no_trees)) given_is
    ∙ ap (λ t. tree (given (named (node_tree value))) (tree t no_trees)) both.first_is)
    ∙ sym (store_named at (node_tree target) (node_tree value) (operator_of_kind (node_tree value) ∙ ap kind_operator (kind_is here value.term ∙ sym k_is) ∙ not_operated k never))
    ∙ ap (λ ts. named (form at (Op.Symbolic S.Assign) ts no_trees)) (sym (two_trees args target value two))

-- `X op= Y`: the arguments lowered, both of which have to be there, and a copy of the first as the target
pub compound_lowered : (at : At) (op : Compound) (plain : Plain) (args each : List Node) (target copy first there second behind : Node) (all : Trees) → plain ≡ compound_operator op → length args ≡ 2 → trees_of each ≡ named_all (trees_of args)
    → target ≡ get_or each 0 target → node_tree copy ≡ node_tree target → first ≡ get_or each 0 first → node_tree there ≡ given (node_tree first) → second ≡ get_or (set each 0 there) 1 second → node_tree behind ≡ given (node_tree second)
    → all ≡ joined (trees_of (set (set each 0 there) 1 behind)) (last_target (row_of plain).targets (node_tree copy)) → form at (Op.Plain plain) all no_trees ≡ named (form at (Op.Symbolic (S.AssignBy op)) (trees_of args) no_trees)
compound_lowered at op plain args each target copy first there second behind all op_is long low target_is copied first_is there_is second_is behind_is all_are =
    let old : Node = get_or args 0 target in
    let value : Node = get_or args 1 target in
    let two : args ≡ old ∷ value ∷ [] = two_long args target long in
    let both = args_lowered args each old value two low in
    let copy_is : node_tree copy ≡ named (node_tree old) = copied ∙ ap node_tree (target_is ∙ ap (λ ns. get_or ns 0 target) both.are) ∙ both.first_is in
    let one_is : node_tree there ≡ given (named (node_tree old)) = there_is ∙ ap (λ n. given (node_tree n)) (first_is ∙ ap (λ ns. get_or ns 0 first) both.are) ∙ ap given both.first_is in
    let other_is : node_tree behind ≡ given (named (node_tree value)) = behind_is ∙ ap (λ n. given (node_tree n)) (second_is ∙ ap (λ ns. get_or (set ns 0 there) 1 second) both.are) ∙ ap given both.second_is in
    let operands : List Node = set (set each 0 there) 1 behind in
    let operands_are : operands ≡ there ∷ behind ∷ [] = ap (λ ns. set (set ns 0 there) 1 behind) both.are in
    ap (λ ts. form at (Op.Plain plain) ts no_trees)
    (all_are ∙ ap (λ t. joined (trees_of operands) (last_target (row_of plain).targets t)) copy_is
    ∙ ap (λ ts. joined ts (last_target (row_of plain).targets (named (node_tree old))))
    (two_trees operands there behind operands_are ∙ ap (λ t. tree t (tree (node_tree behind) no_trees)) one_is ∙ ap (λ t. tree (given (named (node_tree old))) (tree t no_trees)) other_is))
    ∙ ap (λ o. form at (Op.Plain o) (tree (given (named (node_tree old))) (tree (given (named (node_tree value))) (last_target (row_of o).targets (named (node_tree old))))) no_trees) op_is
    ∙ sym (compound_named at op (node_tree old) (node_tree value))
    ∙ ap (λ ts. named (form at (Op.Symbolic (S.AssignBy op)) ts no_trees)) (sym (two_trees args old value two))
