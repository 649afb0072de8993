-- The mentions of terms one after another, where paths are added.
use Rattle.std.proofs.Common.{Bor, ◌≡◌, ℕ, zero, suc, ◌+◌, ◌<◌, ◌≤◌, Bool, true, false, List, [], ◌∷◌, ◌++◌, length, get_or, take, Option, Some, None, refl, sym, ap, ◌∙◌, append_assoc, arith}
use Rattle.std.proofs.lemmas.List.{take_all}
use Rattle.acpi_values.specs.Paths.{AbsolutePath}
use Rattle.acpi_state.specs.Outcomes.{choose}
use Rattle.asl_tree.specs.declared.path.Path.{Path as Name}
use Rattle.asl_tree.specs.declared.term.Op.{Op}
use Rattle.asl_tree.specs.declared.term.Node.{Node}
use Rattle.asl_tree.specs.declared.term.Term.{Term}
use Rattle.asl_tree.specs.declared.term.Term as D
use Rattle.asl_tree.specs.Names.{declared_path}
use Rattle.asl_tree.specs.Tree.{At, Tree, Trees}
use Rattle.asl_tree.specs.View.{form, tree_of, trees_of}
use Rattle.asl_meaning.specs.Declarations.{As, AliasOf, Declarations, with_declared, with_external, in_root, scope_path, declare, declare_all}
use Rattle.acpi_names.specs.declared.mention.Mention.{Mention}
use Rattle.acpi_names.specs.declared.mention.Occurrence.{Occurrence}
use Rattle.acpi_names.specs.declared.part.Shape.{Shape}
use Rattle.acpi_names.specs.declared.part.Shape.TheVariants as S
use Rattle.acpi_names.specs.declared.part.NameRole.{NameRole}
use Rattle.acpi_names.specs.declared.part.NameRole.TheVariants as P
use Rattle.acpi_names.specs.declared.part.What.{What}
use Rattle.acpi_names.specs.Errors as E
use Rattle.acpi_names.specs.Mentions as M
use Rattle.acpi_names.specs.Mentions.{mentions, mentions_all, term_mentions, block_mentions}
use Rattle.acpi_names.specs.Paths.{Extends}
use Rattle.acpi_names.specs.Parts.{Agrees, Leads, Marks, Keeps, part_of, declare_part, object_of, opened, name_at}
use Rattle.acpi_names.specs.Shown.{spot_as, all_shown, Tells, named_at}
use Rattle.acpi_names.specs.Walked.{TermShape, OfForm, term_shape, shape_as, node_tree, part_mentions, first_trees, later_trees, opened_mentions}
use Rattle.acpi_names.specs.Folding.{TellsIn, LeadsBy, TellsBy}
use Rattle.asl_meaning.specs.Declarations.{is_named}
use Rattle.acpi_names.proofs.Naming.{name_some, name_missing}
use Rattle.acpi_names.proofs.Closed.{extends_then}
use Rattle.acpi_names.proofs.Folds.{leads_declared, leads_external}
use Rattle.acpi_names.proofs.Mentions.{right_nil}
use Rattle.acpi_names.proofs.Telling.{tells_as, tells_then}
use Rattle.acpi_names.proofs.Walked.{term_form}
use Rattle.acpi_names.proofs.Parts.{declared_form}

mentions_one : (nodes : List Node) (scope : AbsolutePath) (d : Declarations) → block_mentions (trees_of (take 0 nodes)) scope d ≡ []
unfolding trees_of
mentions_one [] scope d = refl
mentions_one (n ∷ nodes) scope d = refl

mentions_suc : (nodes : List Node) (i : ℕ) (node : Node) (scope : AbsolutePath) (d : Declarations) → i < length nodes → block_mentions (trees_of (take (suc i) nodes)) scope d ≡ block_mentions (trees_of (take i nodes)) scope d ++ term_mentions (node_tree (get_or nodes i node)) scope (declare_all (trees_of (take i nodes)) scope d)
unfolding trees_of
mentions_suc [] i node scope d lt = absurd (omega (arith, lt))
mentions_suc (n ∷ nodes) zero node scope d lt =
    ap (λ ms. term_mentions (node_tree n) scope d ++ ms) (mentions_one nodes scope (declare (node_tree n) scope d)) ∙ right_nil (term_mentions (node_tree n) scope d)
mentions_suc (n ∷ nodes) (suc i) node scope d lt =
    ap (λ ms. term_mentions (node_tree n) scope d ++ ms) (mentions_suc nodes i node scope (declare (node_tree n) scope d) (omega (arith, lt)))
    ∙ sym (append_assoc (term_mentions (node_tree n) scope d) (block_mentions (trees_of (take i nodes)) scope (declare (node_tree n) scope d)) (term_mentions (node_tree (get_or nodes i node)) scope (declare_all (trees_of (take i nodes)) scope (declare (node_tree n) scope d))))

pub told_none : (paths : List AbsolutePath) (named : List Bool) (ms : List Mention) (nodes : List Node) (scope : AbsolutePath) → TellsIn paths named paths ms ms (block_mentions (trees_of (take 0 nodes)) scope)
told_none paths named ms nodes scope d agrees all more = sym (ap (λ xs. all_shown all ms ++ xs) (mentions_one nodes scope d) ∙ right_nil (all_shown all ms))

pub told_next : (paths mid more : List AbsolutePath) (f g : List Bool) (a b c : List Mention) (nodes : List Node) (i : ℕ) (node : Node) (scope inner : AbsolutePath) → i < length nodes → node ≡ get_or nodes i node → inner ≡ scope → Extends mid more → Leads paths f mid g (declare_all (trees_of (take i nodes)) scope) → TellsIn paths f mid a b (block_mentions (trees_of (take i nodes)) scope)
    → TellsIn mid g more b c (term_mentions (node_tree node) inner) → TellsIn paths f more a c (block_mentions (trees_of (take (i + 1) nodes)) scope)
told_next paths mid more f g a b c nodes i node scope inner lt e same further leads before step d agrees all extends =
    let taken = declare_all (trees_of (take i nodes)) scope d in
    let next : i + 1 ≡ suc i = omega arith in
    step taken (leads d agrees) all extends
    ∙ ap (λ ms. ms ++ term_mentions (node_tree node) inner taken) (before d agrees all (extends_then mid more all further extends))
    ∙ append_assoc (all_shown all a) (block_mentions (trees_of (take i nodes)) scope d) (term_mentions (node_tree node) inner taken)
    ∙ ap (λ s. all_shown all a ++ (block_mentions (trees_of (take i nodes)) scope d ++ term_mentions (node_tree node) s taken)) same
    ∙ ap (λ (n : Node). all_shown all a ++ (block_mentions (trees_of (take i nodes)) scope d ++ term_mentions (node_tree n) scope taken)) e
    ∙ ap (λ ms. all_shown all a ++ ms) (sym (mentions_suc nodes i node scope d lt))
    ∙ ap (λ k. all_shown all a ++ block_mentions (trees_of (take k nodes)) scope d) (sym next)

pub told_whole : (paths more : List AbsolutePath) (f : List Bool) (a b : List Mention) (nodes : List Node) (i : ℕ) (scope : AbsolutePath) → length nodes ≤ i → TellsIn paths f more a b (block_mentions (trees_of (take i nodes)) scope) → TellsIn paths f more a b (block_mentions (trees_of nodes) scope)
told_whole paths more f a b nodes i scope le before d agrees all extends =
    before d agrees all extends ∙ ap (λ ns. all_shown all a ++ block_mentions (trees_of ns) scope d) (take_all i nodes le)

-- one list behind another, where the first declares nothing and adds no path
pub told_value : (paths : List AbsolutePath) (f : List Bool) (a b : List Mention) (scope : ℕ) (told : AbsolutePath → List M.Mention) → scope < length paths → Tells a b (λ all. told (get_or all scope [])) → TellsIn paths f paths a b (λ d. told (get_or paths scope []))
told_value paths f a b scope told lt h d agrees all extends = h all ∙ ap (λ s. all_shown all a ++ told s) (extends.same scope lt)

pub told_then : (paths mid more : List AbsolutePath) (f g : List Bool) (a b c : List Mention) (x y : Declarations → List M.Mention) (next : Declarations → Declarations) → Extends mid more → Leads paths f mid g next → TellsIn paths f mid a b x → TellsIn mid g more b c y → TellsIn paths f more a c (λ d. x d ++ y (next d))
told_then paths mid more f g a b c x y next further leads h k d agrees all extends =
    k (next d) (leads d agrees) all extends ∙ ap (λ ms. ms ++ y (next d)) (h d agrees all (extends_then mid more all further extends))
    ∙ append_assoc (all_shown all a) (x d) (y (next d))

pub told_as : (paths more : List AbsolutePath) (f : List Bool) (a b : List Mention) (x y : Declarations → List M.Mention) → ((d : Declarations) → Agrees paths f d → x d ≡ y d) → TellsIn paths f more a b x → TellsIn paths f more a b y
told_as paths more f a b x y e h d agrees all extends = h d agrees all extends ∙ ap (λ ms. all_shown all a ++ ms) (e d agrees)

pub told_later : (paths mid more : List AbsolutePath) (f : List Bool) (a b : List Mention) (x : Declarations → List M.Mention) → Extends mid more → TellsIn paths f mid a b x → TellsIn paths f more a b x
told_later paths mid more f a b x further h d agrees all extends = h d agrees all (extends_then mid more all further extends)

pub told_no_more : (paths : List AbsolutePath) (f : List Bool) (a : List Mention) → TellsIn paths f paths a a (λ d. [])
told_no_more paths f a d agrees all extends = sym (right_nil (all_shown all a))

-- terms by their shapes
shape_tree : (at : At) (t : Term) (op : Op) (args body : Trees) → OfForm op args body ≡ term_shape t → form at op args body ≡ tree_of at t
unfolding tree_of
shape_tree at (D.Form' op' shape args' shape' body') op args body e = ap (tree_in at) e
  where
    tree_in : At → TermShape → Tree
    tree_in at (OfForm op args body) = form at op args body
    tree_in at s = form at op args body
shape_tree at t op args body e = absurd (grind arith)

pub shape_declares : (at : At) (t : Term) (op : Op) (args body : Trees) (scope : AbsolutePath) (d : Declarations) → OfForm op args body ≡ term_shape t → declare (tree_of at t) scope d ≡ declare_part (part_of op args body) args body scope d
shape_declares at t op args body scope d e = ap (λ u. declare u scope d) (sym (shape_tree at t op args body e)) ∙ declared_form at op args body scope d

pub shape_mentions_form : (at : At) (t : Term) (op : Op) (args body : Trees) (scope : AbsolutePath) (d : Declarations) → OfForm op args body ≡ term_shape t → term_mentions (tree_of at t) scope d ≡ part_mentions (part_of op args body) at op args body scope d
shape_mentions_form at t op args body scope d e = ap (λ u. term_mentions u scope d) (sym (shape_tree at t op args body e)) ∙ term_form at op args body scope d

abbrev pub is_form_shape : TermShape → Bool
is_form_shape (OfForm op args body) = true
is_form_shape _ = false

pub not_formed : (s : Shape) → ((op : Op) (args body : Bor (List Node)) → s ≡ S.Form op args body → ⊥) → is_form_shape (shape_as s) ≡ false
not_formed (S.Form op args body) none = absurd (none op args body refl)
not_formed s none = refl

pub plain_declares : (at : At) (t : Term) (scope : AbsolutePath) (d : Declarations) → is_form_shape (term_shape t) ≡ false → declare (tree_of at t) scope d ≡ d
unfolding tree_of
plain_declares at (D.Form' op shape args shape' body) scope d e = absurd (grind arith)
plain_declares at t scope d e = refl

pub plain_mentions : (at : At) (t : Term) (scope : AbsolutePath) (d : Declarations) → is_form_shape (term_shape t) ≡ false → term_mentions (tree_of at t) scope d ≡ mentions true (tree_of at t) scope
unfolding tree_of
plain_mentions at (D.Form' op shape args shape' body) scope d e = absurd (grind arith)
plain_mentions at t scope d e = refl

-- what a form declares, by its names
pub leads_as : (paths more : List AbsolutePath) (f g : List Bool) (x y : Declarations → Declarations) → ((d : Declarations) → x d ≡ y d) → Leads paths f more g x → Leads paths f more g y
leads_as paths more f g x y e h d agrees path = h d agrees path ∙ ap (λ d. is_named d path) (e d)

pub leads_here : (paths : List AbsolutePath) (f : List Bool) → Leads paths f paths f (λ d. d)
leads_here paths f d agrees path = agrees path

alias_declared : (args body : Trees) (scope : AbsolutePath) (s m : At × Name) (d : Declarations) → named_at 0 args ≡ Some s → named_at 1 args ≡ Some m → with_declared (declared_path m.1 scope) (AliasOf s.1 scope) d ≡ declare_part P.Alias args body scope d
alias_declared args body scope s m d es em =
    sym (ap (λ o. choose o d (λ source. choose (name_at 1 args) d (λ name. with_declared (declared_path name scope) (AliasOf source scope) d))) (name_some 0 args s es)
    ∙ ap (λ o. choose o d (λ name. with_declared (declared_path name scope) (AliasOf s.1 scope) d)) (name_some 1 args m em))

pub alias_leads : (paths more : List AbsolutePath) (f g : List Bool) (args body : Trees) (scope : AbsolutePath) (s m : At × Name) → named_at 0 args ≡ Some s → named_at 1 args ≡ Some m → Marks paths f more g (declared_path m.1 scope) → LeadsBy paths f more g P.Alias args body scope
alias_leads paths more f g args body scope s m es em marks =
    leads_as paths more f g _ _ (λ d. alias_declared args body scope s m d es em) (leads_declared paths more f g (declared_path m.1 scope) (AliasOf s.1 scope) marks)

pub alias_told : (args body : Trees) (scope : AbsolutePath) (here : At) (op : Op) (s m : At × Name) (d : Declarations) → named_at 0 args ≡ Some s → named_at 1 args ≡ Some m → M.Used' E.AnObject s.0 s.1 scope ∷ M.Declares m.0 m.1 (AliasOf s.1 scope) scope ∷ [] ≡ part_mentions P.Alias here op args body scope d
alias_told args body scope here op s m d es em =
    sym (ap (λ o. choose o [] (λ s. choose (named_at 1 args) [] (λ m. M.Used' E.AnObject s.0 s.1 scope ∷ M.Declares m.0 m.1 (AliasOf s.1 scope) scope ∷ []))) es
    ∙ ap (λ o. choose o [] (λ m. M.Used' E.AnObject s.0 s.1 scope ∷ M.Declares m.0 m.1 (AliasOf s.1 scope) scope ∷ [])) em)

pub alias_sourceless : (args body : Trees) (scope : AbsolutePath) (d : Declarations) → named_at 0 args ≡ None → d ≡ declare_part P.Alias args body scope d
alias_sourceless args body scope d e =
    sym (ap (λ o. choose o d (λ source. choose (name_at 1 args) d (λ name. with_declared (declared_path name scope) (AliasOf source scope) d))) (name_missing 0 args e))

pub alias_no_source : (args body : Trees) (scope : AbsolutePath) (here : At) (op : Op) (d : Declarations) → named_at 0 args ≡ None → [] ≡ part_mentions P.Alias here op args body scope d
alias_no_source args body scope here op d e =
    sym (ap (λ o. choose o [] (λ s. choose (named_at 1 args) [] (λ m. M.Used' E.AnObject s.0 s.1 scope ∷ M.Declares m.0 m.1 (AliasOf s.1 scope) scope ∷ []))) e)

pub alias_nameless : (args body : Trees) (scope : AbsolutePath) (s : At × Name) (d : Declarations) → named_at 0 args ≡ Some s → named_at 1 args ≡ None → d ≡ declare_part P.Alias args body scope d
alias_nameless args body scope s d es e =
    sym (ap (λ o. choose o d (λ source. choose (name_at 1 args) d (λ name. with_declared (declared_path name scope) (AliasOf source scope) d))) (name_some 0 args s es)
    ∙ ap (λ o. choose o d (λ name. with_declared (declared_path name scope) (AliasOf s.1 scope) d)) (name_missing 1 args e))

pub alias_no_name : (args body : Trees) (scope : AbsolutePath) (here : At) (op : Op) (s : At × Name) (d : Declarations) → named_at 0 args ≡ Some s → named_at 1 args ≡ None → [] ≡ part_mentions P.Alias here op args body scope d
alias_no_name args body scope here op s d es e =
    sym (ap (λ o. choose o [] (λ s. choose (named_at 1 args) [] (λ m. M.Used' E.AnObject s.0 s.1 scope ∷ M.Declares m.0 m.1 (AliasOf s.1 scope) scope ∷ []))) es
    ∙ ap (λ o. choose o [] (λ m. M.Used' E.AnObject s.0 s.1 scope ∷ M.Declares m.0 m.1 (AliasOf s.1 scope) scope ∷ [])) e)

pub external_leads : (paths more : List AbsolutePath) (f g : List Bool) (args body : Trees) (scope : AbsolutePath) (type : ℕ) (parameters : Option ℕ) (m : At × Name) → named_at 0 args ≡ Some m → Marks paths f more g (declared_path m.1 scope) → LeadsBy paths f more g (P.External type parameters) args body scope
external_leads paths more f g args body scope type parameters m em marks =
    leads_as paths more f g _ _ (λ d.
    sym (ap (λ o. choose o d (λ name. with_external (in_root (declared_path name scope)) (declared_path name scope) (record { type = type; parameters = parameters }) d)) (name_some 0 args m em)))
    (leads_external paths more f g (declared_path m.1 scope) (record { type = type; parameters = parameters }) marks)

pub external_undeclared : (args body : Trees) (scope : AbsolutePath) (type : ℕ) (parameters : Option ℕ) (d : Declarations) → named_at 0 args ≡ None → d ≡ declare_part (P.External type parameters) args body scope d
external_undeclared args body scope type parameters d e =
    sym (ap (λ o. choose o d (λ name. with_external (in_root (declared_path name scope)) (declared_path name scope) (record { type = type; parameters = parameters }) d)) (name_missing 0 args e))

pub external_untold : (args body : Trees) (scope : AbsolutePath) (here : At) (op : Op) (type : ℕ) (parameters : Option ℕ) (d : Declarations) → named_at 0 args ≡ None → [] ≡ part_mentions (P.External type parameters) here op args body scope d
external_untold args body scope here op type parameters d e = sym (ap (λ o. choose o [] (λ m. M.Outside here m.0 m.1 (record { type = type; parameters = parameters }) scope ∷ [])) e)

pub external_told : (args body : Trees) (scope : AbsolutePath) (here : At) (op : Op) (type : ℕ) (parameters : Option ℕ) (m : At × Name) (d : Declarations) → named_at 0 args ≡ Some m → M.Outside here m.0 m.1 (record { type = type; parameters = parameters }) scope ∷ [] ≡ part_mentions (P.External type parameters) here op args body scope d
external_told args body scope here op type parameters m d em = sym (ap (λ o. choose o [] (λ m. M.Outside here m.0 m.1 (record { type = type; parameters = parameters }) scope ∷ [])) em)

-- a declared name, with the arguments around it and the terms in its scope
declared_eq : (n : ℕ) (what : What) (opens : Bool) (args body : Trees) (scope : AbsolutePath) (m : At × Name) (d : Declarations) → named_at n args ≡ Some m → opened opens body (declared_path m.1 scope) (with_declared (declared_path m.1 scope) (As (object_of what)) d) ≡ declare_part (P.Declares n what opens) args body scope d
declared_eq n what opens args body scope m d em =
    sym (ap (λ o. choose o d (λ name. opened opens body (declared_path name scope) (with_declared (declared_path name scope) (As (object_of what)) d))) (name_some n args m em))

declared_told : (n : ℕ) (what : What) (opens : Bool) (args body : Trees) (scope : AbsolutePath) (here : At) (op : Op) (m : At × Name) (d : Declarations) → named_at n args ≡ Some m →
    mentions_all true (first_trees n args) scope ++ (M.Declares m.0 m.1 (As (object_of what)) scope ∷ (mentions_all true (later_trees (suc n) args) scope ++ opened_mentions opens body (declared_path m.1 scope) (with_declared (declared_path m.1 scope) (As (object_of what)) d))) ≡ part_mentions (P.Declares n what opens) here op args body scope d
declared_told n what opens args body scope here op m d em =
    sym (ap (λ o. choose o [] (λ m. mentions_all true (first_trees n args) scope ++ (M.Declares m.0 m.1 (As (object_of what)) scope ∷ (mentions_all true (later_trees (suc n) args) scope ++ opened_mentions opens body (declared_path m.1 scope) (with_declared (declared_path m.1 scope) (As (object_of what)) d))))) em)

pub undeclared_part : (n : ℕ) (what : What) (opens : Bool) (args body : Trees) (scope : AbsolutePath) (d : Declarations) → named_at n args ≡ None → d ≡ declare_part (P.Declares n what opens) args body scope d
undeclared_part n what opens args body scope d e =
    sym (ap (λ o. choose o d (λ name. opened opens body (declared_path name scope) (with_declared (declared_path name scope) (As (object_of what)) d))) (name_missing n args e))

pub untold_part : (n : ℕ) (what : What) (opens : Bool) (args body : Trees) (scope : AbsolutePath) (here : At) (op : Op) (d : Declarations) → named_at n args ≡ None → [] ≡ part_mentions (P.Declares n what opens) here op args body scope d
untold_part n what opens args body scope here op d e =
    sym (ap (λ o. choose o [] (λ m. mentions_all true (first_trees n args) scope ++ (M.Declares m.0 m.1 (As (object_of what)) scope ∷ (mentions_all true (later_trees (suc n) args) scope ++ opened_mentions opens body (declared_path m.1 scope) (with_declared (declared_path m.1 scope) (As (object_of what)) d))))) e)

pub declared_leads : (paths more : List AbsolutePath) (f g : List Bool) (n : ℕ) (what : What) (args body : Trees) (scope : AbsolutePath) (m : At × Name) → named_at n args ≡ Some m → Marks paths f more g (declared_path m.1 scope) → LeadsBy paths f more g (P.Declares n what false) args body scope
declared_leads paths more f g n what args body scope m em marks =
    leads_as paths more f g _ _ (λ d. declared_eq n what false args body scope m d em) (leads_declared paths more f g (declared_path m.1 scope) (As (object_of what)) marks)

pub opened_leads : (paths mid more : List AbsolutePath) (f g h : List Bool) (n : ℕ) (what : What) (args body : Trees) (scope inner : AbsolutePath) (m : At × Name) → named_at n args ≡ Some m → Marks paths f mid g (declared_path m.1 scope) → inner ≡ declared_path m.1 scope → Leads mid g more h (declare_all body inner) → LeadsBy paths f more h (P.Declares n what true) args body scope
opened_leads paths mid more f g h n what args body scope inner m em marks same inside =
    leads_as paths more f h _ _ (λ d. ap (λ p. declare_all body p (with_declared (declared_path m.1 scope) (As (object_of what)) d)) same ∙ declared_eq n what true args body scope m d em)
    (λ d agrees path. inside (with_declared (declared_path m.1 scope) (As (object_of what)) d) (leads_declared paths mid f g (declared_path m.1 scope) (As (object_of what)) marks d agrees) path)

-- what stands around a declared name: the arguments before, the name, and those behind
pub around : (a b c e : List Mention) (scope : ℕ) (before behind : Trees) (x y : List Node) (m : AbsolutePath → M.Mention) → trees_of x ≡ before → trees_of y ≡ behind → Tells a b (λ ps. mentions_all true (trees_of x) (get_or ps scope [])) → Tells b c (λ ps. m (get_or ps scope []) ∷ []) → Tells c e (λ ps. mentions_all true (trees_of y) (get_or ps scope []))
    → Tells a e (λ ps. mentions_all true before (get_or ps scope []) ++ (m (get_or ps scope []) ∷ mentions_all true behind (get_or ps scope [])))
around a b c e scope before behind x y m ex ey h k l =
    tells_as a e _ _ (λ ps.
    ap (λ ts. mentions_all true ts (get_or ps scope []) ++ (m (get_or ps scope []) ∷ mentions_all true (trees_of y) (get_or ps scope []))) ex
    ∙ ap (λ ts. mentions_all true before (get_or ps scope []) ++ (m (get_or ps scope []) ∷ mentions_all true ts (get_or ps scope []))) ey)
    (tells_then a b e _ _ h (tells_then b c e _ _ k l))

pub declared_tells : (paths more : List AbsolutePath) (f : List Bool) (a e : List Mention) (n : ℕ) (what : What) (args body : Trees) (scope : ℕ) (here : At) (op : Op) (m : At × Name) → scope < length paths → Extends paths more → named_at n args ≡ Some m
    → Tells a e (λ ps. mentions_all true (first_trees n args) (get_or ps scope []) ++ (M.Declares m.0 m.1 (As (object_of what)) (get_or ps scope []) ∷ mentions_all true (later_trees (suc n) args) (get_or ps scope []))) → TellsIn paths f more a e (part_mentions (P.Declares n what false) here op args body (get_or paths scope []))
declared_tells paths more f a e n what args body scope here op m lt further em told =
    told_as paths more f a e _ _ (λ d agrees.
    ap (λ ms. mentions_all true (first_trees n args) (get_or paths scope []) ++ (M.Declares m.0 m.1 (As (object_of what)) (get_or paths scope []) ∷ ms)) (sym (right_nil (mentions_all true (later_trees (suc n) args) (get_or paths scope []))))
    ∙ declared_told n what false args body (get_or paths scope []) here op m d em)
    (told_later paths paths more f a e _ further
    (told_value paths f a e scope (λ s. mentions_all true (first_trees n args) s ++ (M.Declares m.0 m.1 (As (object_of what)) s ∷ mentions_all true (later_trees (suc n) args) s)) lt told))

pub opened_tells : (paths mid more : List AbsolutePath) (f g : List Bool) (a e i : List Mention) (n : ℕ) (what : What) (args body : Trees) (scope : ℕ) (inner : AbsolutePath) (here : At) (op : Op) (m : At × Name) → scope < length paths → Extends paths mid → Extends mid more → named_at n args ≡ Some m
    → Marks paths f mid g (declared_path m.1 (get_or paths scope [])) → inner ≡ declared_path m.1 (get_or paths scope []) →
    Tells a e (λ ps. mentions_all true (first_trees n args) (get_or ps scope []) ++ (M.Declares m.0 m.1 (As (object_of what)) (get_or ps scope []) ∷ mentions_all true (later_trees (suc n) args) (get_or ps scope []))) → TellsIn mid g more e i (block_mentions body inner) → TellsIn paths f more a i (part_mentions (P.Declares n what true) here op args body (get_or paths scope []))
opened_tells paths mid more f g a e i n what args body scope inner here op m lt further further' em marks same told inside =
    let s = get_or paths scope [] in
    let next = λ (d : Declarations). with_declared (declared_path m.1 s) (As (object_of what)) d in
    told_as paths more f a i _ _ (λ d agrees.
    append_assoc (mentions_all true (first_trees n args) s) (M.Declares m.0 m.1 (As (object_of what)) s ∷ mentions_all true (later_trees (suc n) args) s) (block_mentions body inner (next d))
    ∙ ap (λ p. mentions_all true (first_trees n args) s ++ (M.Declares m.0 m.1 (As (object_of what)) s ∷ (mentions_all true (later_trees (suc n) args) s ++ block_mentions body p (next d)))) same
    ∙ declared_told n what true args body s here op m d em)
    (told_then paths mid more f g a e i _ _ next further' (leads_declared paths mid f g (declared_path m.1 s) (As (object_of what)) marks)
    (told_later paths paths mid f a e _ further
    (told_value paths f a e scope (λ s. mentions_all true (first_trees n args) s ++ (M.Declares m.0 m.1 (As (object_of what)) s ∷ mentions_all true (later_trees (suc n) args) s)) lt told)) inside)

-- a Scope
pub scope_leads : (paths mid more : List AbsolutePath) (f g h : List Bool) (args body : Trees) (scope inner : AbsolutePath) (m : At × Name) → named_at 0 args ≡ Some m → Keeps paths f mid g → ((d : Declarations) → Agrees paths f d → inner ≡ scope_path d m.1 scope) → Leads mid g more h (declare_all body inner) → LeadsBy paths f more h P.Scope args body scope
scope_leads paths mid more f g h args body scope inner m em keeps same inside d agrees path =
    inside d (λ p. keeps p ∙ agrees p) path
    ∙ ap (λ s. is_named (declare_all body s d) path) (same d agrees)
    ∙ sym (ap (λ o. is_named (choose o d (λ name. declare_all body (scope_path d name scope) d)) path) (name_some 0 args m em))

pub scope_tells : (paths mid more : List AbsolutePath) (f g : List Bool) (a b e : List Mention) (args body : Trees) (scope inner : ℕ) (here : At) (op : Op) (m : At × Name) → scope < length paths → inner < length mid → Extends paths mid → Extends mid more → named_at 0 args ≡ Some m → Keeps paths f mid g
    → ((d : Declarations) → Agrees paths f d → get_or mid inner [] ≡ scope_path d m.1 (get_or paths scope [])) → Tells a b (λ ps. M.Opens here m.0 m.1 (get_or ps scope []) (get_or ps inner []) ∷ []) → TellsIn mid g more b e (block_mentions body (get_or mid inner [])) → TellsIn paths f more a e (part_mentions P.Scope here op args body (get_or paths scope []))
scope_tells paths mid more f g a b e args body scope inner here op m lt within further further' em keeps same told inside d agrees all extends =
    let s = get_or paths scope [] in
    let fromhere = extends_then paths mid all further (extends_then mid more all further' extends) in
    inside d (λ p. keeps p ∙ agrees p) all extends
    ∙ ap (λ ms. ms ++ block_mentions body (get_or mid inner []) d) (told all)
    ∙ append_assoc (all_shown all a) (M.Opens here m.0 m.1 (get_or all scope []) (get_or all inner []) ∷ []) (block_mentions body (get_or mid inner []) d)
    ∙ ap (λ p. all_shown all a ++ (M.Opens here m.0 m.1 p (get_or all inner []) ∷ block_mentions body (get_or mid inner []) d)) (fromhere.same scope lt)
    ∙ ap (λ p. all_shown all a ++ (M.Opens here m.0 m.1 s p ∷ block_mentions body (get_or mid inner []) d)) ((extends_then mid more all further' extends).same inner within)
    ∙ ap (λ p. all_shown all a ++ (M.Opens here m.0 m.1 s p ∷ block_mentions body p d)) (same d agrees)
    ∙ ap (λ ms. all_shown all a ++ ms) (sym (ap (λ o. choose o [] (λ m. M.Opens here m.0 m.1 s (scope_path d m.1 s) ∷ block_mentions body (scope_path d m.1 s) d)) em))

pub scope_undeclared : (args body : Trees) (scope : AbsolutePath) (d : Declarations) → named_at 0 args ≡ None → d ≡ declare_part P.Scope args body scope d
scope_undeclared args body scope d e = sym (ap (λ o. choose o d (λ name. declare_all body (scope_path d name scope) d)) (name_missing 0 args e))

pub scope_untold : (args body : Trees) (scope : AbsolutePath) (here : At) (op : Op) (d : Declarations) → named_at 0 args ≡ None → [] ≡ part_mentions P.Scope here op args body scope d
scope_untold args body scope here op d e = sym (ap (λ o. choose o [] (λ m. M.Opens here m.0 m.1 scope (scope_path d m.1 scope) ∷ block_mentions body (scope_path d m.1 scope) d)) e)

pub led_by : (paths more : List AbsolutePath) (f g : List Bool) (part other : NameRole) (args body : Trees) (scope : AbsolutePath) → part ≡ other → LeadsBy paths f more g part args body scope → LeadsBy paths f more g other args body scope
led_by paths more f g part other args body scope e h = leads_as paths more f g _ _ (λ d. ap (λ p. declare_part p args body scope d) e) h

pub told_by : (paths more : List AbsolutePath) (f : List Bool) (a b : List Mention) (part other : NameRole) (here : Occurrence) (op : Op) (args body : Trees) (scope : AbsolutePath) → part ≡ other → TellsBy paths f more a b part here op args body scope → TellsBy paths f more a b other here op args body scope
told_by paths more f a b part other here op args body scope e h = told_as paths more f a b _ _ (λ d agrees. ap (λ p. part_mentions p (spot_as here) op args body scope d) e) h

-- arguments, and then the terms of the body in the same scope
pub within_tells : (paths more : List AbsolutePath) (f g : List Bool) (a b e : List Mention) (args body : Trees) (scope : ℕ) (here : At) (op : Op) → scope < length paths → Extends paths more → Tells a b (λ ps. mentions_all true args (get_or ps scope []))
    → TellsIn paths f more b e (block_mentions body (get_or paths scope [])) → TellsIn paths f more a e (part_mentions P.Within here op args body (get_or paths scope []))
within_tells paths more f g a b e args body scope here op lt further told inside =
    told_then paths paths more f f a b e _ _ (λ d. d) further (leads_here paths f) (told_value paths f a b scope (λ s. mentions_all true args s) lt told) inside
