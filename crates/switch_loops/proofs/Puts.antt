-- Lists of terms that loops are put into, from the last term on.
use Rattle.std.proofs.Common.{◌≡◌, ℕ, Bool, true, false, List, [], ◌∷◌, ◌++◌, length, reverse, drop, Vec, Global, Option, Some, refl, sym, ap, subst, ◌∙◌, arith}
use Rattle.std.specs.Prelude.{not, ◌&&◌, if◌then◌else◌, filter}
use Rattle.asl_tree.specs.declared.term.Op.{Op}
use Rattle.asl_tree.specs.declared.term.Control.TheVariants as Control
use Rattle.asl_tree.specs.declared.term.Node.{Node}
use Rattle.asl_tree.specs.declared.term.Term.{Term}
use Rattle.asl_tree.specs.declared.term.Term as D
use Rattle.asl_tree.specs.Tree.{At, Tree, ElseIf, Else, Switch, Case, Default, Continue, Trees, no_trees, tree}
use Rattle.asl_tree.specs.View.{form, tree_of, row_trees, trees_of}
use Rattle.acpi_names.specs.declared.part.NameRole.{NameRole}
use Rattle.acpi_names.specs.declared.part.NameRole.TheVariants as P
use Rattle.acpi_names.specs.declared.part.What.TheVariants as W
use Rattle.acpi_names.specs.Parts.{are, is_form, part_of}
use Rattle.acpi_names.specs.Walked.{term_shape, node_tree}
use Rattle.acpi_names.proofs.Trees.{are_long, form_tree, form_rows}
use Rattle.std.proofs.lemmas.Bool.Decides.{nat_tests}
use Rattle.std.proofs.lemmas.List.{reverse-append}
use Rattle.asl_lower.specs.Nests.{backwards}
use Rattle.hidden_locals.specs.Switches.{case_test, opened, links, default_link}
use Rattle.hidden_locals.specs.Turns.{local, nth}
use Rattle.switch_loops.specs.Given.{HasValue, HasCaseValue, IsGiven, AreGiven}
use Rattle.switch_loops.specs.Kinds.{flagged, part_kind, form_kind, shape_kind, is_default, default_node}
use Rattle.switch_loops.specs.Links.{plan_as, looped_all, put, linked, behind, shape_body, given_default, default_looped, first_default}
use Rattle.switch_loops.specs.declared.kind.TermRole.{TermRole}
use Rattle.switch_loops.proofs.KindRows.{tree_kind, kind_form, kind_is}
use Rattle.switch_loops.proofs.Alike.{same_terms, left_deeper}
use Rattle.switch_loops.proofs.LoopPlaces.{flat_kind, not_formed}

none : trees_of [] ≡ no_trees
unfolding trees_of
none = refl

pub tree_cons : (node : Node) (nodes : List Node) → trees_of (node ∷ nodes) ≡ tree (node_tree node) (trees_of nodes)
unfolding trees_of
tree_cons node nodes = refl

-- ---- the terms of a list

abbrev pub put_all : ℕ → List ℕ → Bool → List Node → Trees → Trees
put_all flag values inside [] ts = ts
put_all flag values inside (node ∷ nodes) ts = put flag values inside (node_tree node) (put_all flag values inside nodes ts)

pub put_step : (flag : ℕ) (values : List ℕ) (inside : Bool) (t : Tree) (ts : Trees) → put flag values inside t (looped_all flag values inside ts) ≡ looped_all flag values inside (tree t ts)
put_step flag values inside (Switch value cases) ts = refl
put_step flag values inside Continue ts = refl
put_step flag values inside t ts = refl

put_last : (flag : ℕ) (values : List ℕ) (inside : Bool) (nodes : List Node) (node : Node) (ts : Trees) → put_all flag values inside (nodes ++ node ∷ []) ts ≡ put_all flag values inside nodes (put flag values inside (node_tree node) ts)
put_last flag values inside [] node ts = refl
put_last flag values inside (n ∷ nodes) node ts = ap (put flag values inside (node_tree n)) (put_last flag values inside nodes node ts)

put_whole : (flag : ℕ) (values : List ℕ) (inside : Bool) (nodes : List Node) → put_all flag values inside nodes no_trees ≡ looped_all flag values inside (trees_of nodes)
unfolding trees_of
put_whole flag values inside [] = refl
put_whole flag values inside (node ∷ nodes) = ap (put flag values inside (node_tree node)) (put_whole flag values inside nodes) ∙ put_step flag values inside (node_tree node) (trees_of nodes)

pub put_none : (flag : ℕ) (values : List ℕ) (inside : Bool) (nodes made : List Node) → made ≡ [] → put_all flag values inside nodes (backwards made) ≡ looped_all flag values inside (trees_of nodes)
put_none flag values inside nodes made e = ap (λ ns. put_all flag values inside nodes (backwards ns)) e ∙ ap (put_all flag values inside nodes) none ∙ put_whole flag values inside nodes

pub put_next : (flag : ℕ) (values : List ℕ) (inside : Bool) (left more made new : List Node) (node : Node) (whole : Trees) → left ≡ more ++ node ∷ [] → backwards new ≡ put flag values inside (node_tree node) (backwards made)
    → put_all flag values inside left (backwards made) ≡ whole → put_all flag values inside more (backwards new) ≡ whole
put_next flag values inside left more made new node whole e f h =
    ap (put_all flag values inside more) f ∙ sym (put_last flag values inside more node (backwards made)) ∙ ap (λ ns. put_all flag values inside ns (backwards made)) (sym e) ∙ h

pub put_end : (flag : ℕ) (values : List ℕ) (inside : Bool) (left : List Node) (ts : Trees) → length left ≡ 0 → ts ≡ put_all flag values inside left ts
put_end flag values inside [] ts e = refl
put_end flag values inside (node ∷ left) ts e = absurd (omega (arith, e))

pub given_last : (nodes : List Node) (node : Node) → AreGiven (trees_of (nodes ++ node ∷ [])) → AreGiven (trees_of nodes) × IsGiven (node_tree node)
unfolding trees_of
given_last [] node g = (tt, g.0)
given_last (n ∷ nodes) node g = let h = given_last nodes node g.1 in ((g.0, h.0), h.1)

pub given_popped : (left more : List Node) (node : Node) → left ≡ more ++ node ∷ [] → AreGiven (trees_of left) → AreGiven (trees_of more) × IsGiven (node_tree node)
given_popped left more node e g = given_last more node (subst (λ ns. AreGiven (trees_of ns)) e g)

-- ---- forms by their kinds

pub part_no_switch : (p : NameRole) → part_kind p ≡ TermRole.Switch → ⊥
part_no_switch (P.Declares n (W.Method flags) true) e = absurd cc
part_no_switch (P.Declares n what true) e = absurd cc
part_no_switch (P.Declares n what false) e = absurd cc
part_no_switch p e = absurd cc

part_no_case : (p : NameRole) → part_kind p ≡ TermRole.Case → ⊥
part_no_case (P.Declares n (W.Method flags) true) e = absurd cc
part_no_case (P.Declares n what true) e = absurd cc
part_no_case (P.Declares n what false) e = absurd cc
part_no_case p e = absurd cc

part_no_default : (p : NameRole) → part_kind p ≡ TermRole.Default → ⊥
part_no_default (P.Declares n (W.Method flags) true) e = absurd cc
part_no_default (P.Declares n what true) e = absurd cc
part_no_default (P.Declares n what false) e = absurd cc
part_no_default p e = absurd cc

one_of : (n : ℕ) (args : List Node) → are n (trees_of args) ≡ true → length args ≡ n
one_of n args e = let k = are_long n args in grind (arith, nat_tests, k, e)

flag_only : (c : Bool) (k l : TermRole) → flagged c k ≡ l → (l ≡ TermRole.Other → ⊥) → (c ≡ true) × (k ≡ l)
flag_only true k l e never = (refl, e)
flag_only false k l e never = absurd (never (sym e))

pub switch_is : (op : Op) (args body : List Node) → form_kind op (trees_of args) (trees_of body) ≡ TermRole.Switch → (op ≡ Op.Control Control.Switch) × (length args ≡ 1)
switch_is (Op.Control Control.Switch) args body e = (refl, one_of 1 args (flag_only (are 1 (trees_of args)) TermRole.Switch TermRole.Switch e (λ x. absurd cc)).0)
switch_is (Op.Control Control.While) args body e = let k : TermRole.Loop ≡ TermRole.Switch = (flag_only (are 1 (trees_of args)) TermRole.Loop TermRole.Switch e (λ x. absurd cc)).1 in absurd cc
switch_is (Op.Control Control.For) args body e = let k : TermRole.Loop ≡ TermRole.Switch = (flag_only (are 3 (trees_of args)) TermRole.Loop TermRole.Switch e (λ x. absurd cc)).1 in absurd cc
switch_is (Op.Control Control.Case) args body e = let k : TermRole.Case ≡ TermRole.Switch = (flag_only (are 1 (trees_of args)) TermRole.Case TermRole.Switch e (λ x. absurd cc)).1 in absurd cc
switch_is (Op.Control Control.Default) args body e = let k : TermRole.Default ≡ TermRole.Switch = (flag_only (are 0 (trees_of args)) TermRole.Default TermRole.Switch e (λ x. absurd cc)).1 in absurd cc
switch_is (Op.Control Control.Continue) args body e = let k : TermRole.Continue ≡ TermRole.Switch = (flag_only (are 0 (trees_of args) && are 0 (trees_of body)) TermRole.Continue TermRole.Switch e (λ x. absurd cc)).1 in absurd cc
switch_is op args body e = absurd (part_no_switch (part_of op (trees_of args) (trees_of body)) e)

pub case_is : (op : Op) (args body : List Node) → form_kind op (trees_of args) (trees_of body) ≡ TermRole.Case → (op ≡ Op.Control Control.Case) × (length args ≡ 1)
case_is (Op.Control Control.Case) args body e = (refl, one_of 1 args (flag_only (are 1 (trees_of args)) TermRole.Case TermRole.Case e (λ x. absurd cc)).0)
case_is (Op.Control Control.While) args body e = let k : TermRole.Loop ≡ TermRole.Case = (flag_only (are 1 (trees_of args)) TermRole.Loop TermRole.Case e (λ x. absurd cc)).1 in absurd cc
case_is (Op.Control Control.For) args body e = let k : TermRole.Loop ≡ TermRole.Case = (flag_only (are 3 (trees_of args)) TermRole.Loop TermRole.Case e (λ x. absurd cc)).1 in absurd cc
case_is (Op.Control Control.Switch) args body e = let k : TermRole.Switch ≡ TermRole.Case = (flag_only (are 1 (trees_of args)) TermRole.Switch TermRole.Case e (λ x. absurd cc)).1 in absurd cc
case_is (Op.Control Control.Default) args body e = let k : TermRole.Default ≡ TermRole.Case = (flag_only (are 0 (trees_of args)) TermRole.Default TermRole.Case e (λ x. absurd cc)).1 in absurd cc
case_is (Op.Control Control.Continue) args body e = let k : TermRole.Continue ≡ TermRole.Case = (flag_only (are 0 (trees_of args) && are 0 (trees_of body)) TermRole.Continue TermRole.Case e (λ x. absurd cc)).1 in absurd cc
case_is op args body e = absurd (part_no_case (part_of op (trees_of args) (trees_of body)) e)

pub switch_form : (at : At) (op : Op) (args body : List Node) (value : Node) → op ≡ Op.Control Control.Switch → args ≡ value ∷ [] → form at op (trees_of args) (trees_of body) ≡ Switch (node_tree value) (trees_of body)
unfolding trees_of
switch_form at op args body value e f = ap (λ o. form at o (trees_of args) (trees_of body)) e ∙ ap (λ ns. form at (Op.Control Control.Switch) (trees_of ns) (trees_of body)) f

pub case_form : (at : At) (op : Op) (args body : List Node) (value : Node) → op ≡ Op.Control Control.Case → args ≡ value ∷ [] → form at op (trees_of args) (trees_of body) ≡ Case (node_tree value) (trees_of body)
unfolding trees_of
case_form at op args body value e f = ap (λ o. form at o (trees_of args) (trees_of body)) e ∙ ap (λ ns. form at (Op.Control Control.Case) (trees_of ns) (trees_of body)) f

-- a Switch whose loop is put
pub switch_put : (flag : ℕ) (values : List ℕ) (inside : Bool) (at : At) (op : Op) (args body : List Node) (value : Node) (new old : Trees) → form_kind op (trees_of args) (trees_of body) ≡ TermRole.Switch → args ≡ value ∷ []
    → (HasValue (node_tree value) → AreGiven (trees_of body) → new ≡ put flag values inside (Switch (node_tree value) (trees_of body)) old)
    → IsGiven (form at op (trees_of args) (trees_of body)) → new ≡ put flag values inside (form at op (trees_of args) (trees_of body)) old
switch_put flag values inside at op args body value new old k f h g =
    let e = switch_form at op args body value (switch_is op args body k).0 f in
    let given = subst IsGiven e g in
    h given.0 given.1 ∙ ap (λ t. put flag values inside t old) (sym e)

pub continue_form : (at : At) (op : Op) (args body : Trees) → form_kind op args body ≡ TermRole.Continue → form at op args body ≡ Continue
continue_form at op args body k = by_kind (form at op args body) (kind_form at op args body ∙ k)
  where
    by_kind : (t : Tree) → tree_kind t ≡ TermRole.Continue → t ≡ Continue
    by_kind Continue e = refl
    by_kind t e = absurd cc

-- ---- Cases

other_linked : (flag : ℕ) (values : List ℕ) (t : Tree) (branches : Trees) → (tree_kind t ≡ TermRole.Case → ⊥) → linked flag values t branches ≡ branches
other_linked flag values (Case value body) branches never = absurd (never refl)
other_linked flag values t branches never = refl

pub form_unlinked : (flag : ℕ) (values : List ℕ) (at : At) (op : Op) (args body branches : Trees) → (form_kind op args body ≡ TermRole.Case → ⊥) → branches ≡ linked flag values (form at op args body) branches
form_unlinked flag values at op args body branches never = sym (other_linked flag values (form at op args body) branches (λ e. never (sym (kind_form at op args body) ∙ e)))

-- the branch of a Case
pub case_linked : (flag : ℕ) (values : List ℕ) (at : At) (op : Op) (args body : List Node) (value : Node) (test : Tree) (inner branches : Trees) → form_kind op (trees_of args) (trees_of body) ≡ TermRole.Case → args ≡ value ∷ []
    → (HasCaseValue (node_tree value) → test ≡ case_test (local (nth values 0)) (node_tree value)) → (AreGiven (trees_of body) → inner ≡ looped_all flag (drop 1 values) true (trees_of body))
    → IsGiven (form at op (trees_of args) (trees_of body)) → tree (ElseIf test inner) branches ≡ linked flag values (form at op (trees_of args) (trees_of body)) branches
case_linked flag values at op args body value test inner branches k e ht hi g =
    let is = case_form at op args body value (case_is op args body k).0 e in
    let given = subst IsGiven is g in
    ap (λ t. tree (ElseIf t inner) branches) (ht given.0) ∙ ap (λ ts. tree (ElseIf (case_test (local (nth values 0)) (node_tree value)) ts) branches) (hi given.1)
    ∙ ap (λ t. linked flag values t branches) (sym is)

-- ---- the chain of a Switch

abbrev pub link_all : ℕ → List ℕ → List Node → Trees → Trees
link_all flag values [] branches = branches
link_all flag values (node ∷ nodes) branches = linked flag values (node_tree node) (link_all flag values nodes branches)

pub popped_first : (left more : List Node) (node : Node) → left ≡ more ++ node ∷ [] → reverse left ≡ node ∷ reverse more
popped_first left more node e = ap reverse e ∙ reverse-append more (node ∷ [])

links_step : (flag : ℕ) (values : List ℕ) (t : Tree) (ts d : Trees) → links (plan_as flag values) 1 (tree t ts) d ≡ linked flag values t (links (plan_as flag values) 1 ts d)
links_step flag values (Case value body) ts d =
    ap (λ b. tree (ElseIf (case_test (local (nth values 0)) value) b) (links (plan_as flag values) 1 ts d)) (same_terms (plan_as flag values) (plan_as flag (drop 1 values)) 2 1 (left_deeper flag values) true body)
links_step flag values t ts d = refl

default_step : (flag : ℕ) (values : List ℕ) (body ts : Trees) → default_link (plan_as flag values) 1 (tree (Default body) ts) ≡ tree (Else (looped_all flag (drop 1 values) true body)) no_trees
default_step flag values body ts = ap (λ ts. tree (Else ts) no_trees) (same_terms (plan_as flag values) (plan_as flag (drop 1 values)) 2 1 (left_deeper flag values) true body)

no_default_step : (flag : ℕ) (values : List ℕ) (t : Tree) (ts : Trees) → is_default (tree_kind t) ≡ false → default_link (plan_as flag values) 1 (tree t ts) ≡ default_link (plan_as flag values) 1 ts
no_default_step flag values (Default body) ts e = absurd cc
no_default_step flag values t ts e = refl

default_unlinked : (flag : ℕ) (values : List ℕ) (t : Tree) (d : Trees) → is_default (tree_kind t) ≡ true → linked flag values t d ≡ d
default_unlinked flag values (Case value body) d e = absurd cc
default_unlinked flag values t d e = refl

node_kind : (node : Node) → tree_kind (node_tree node) ≡ shape_kind (term_shape node.term)
node_kind node = kind_is (record { id = node.id; place = node.place }) node.term

links_are : (flag : ℕ) (values : List ℕ) (nodes : List Node) (d : Trees) → link_all flag values (filter (λ node. not (default_node node)) nodes) d ≡ links (plan_as flag values) 1 (trees_of nodes) d
unfolding trees_of
links_are flag values [] d = refl
links_are flag values (node ∷ nodes) d =
    by_default (default_node node) refl (links_are flag values nodes d) ∙ sym (links_step flag values (node_tree node) (trees_of nodes) d)
  where
    by_default : (c : Bool) → default_node node ≡ c → link_all flag values (filter (λ node. not (default_node node)) nodes) d ≡ links (plan_as flag values) 1 (trees_of nodes) d
        → link_all flag values (if not c then node ∷ filter (λ node. not (default_node node)) nodes else filter (λ node. not (default_node node)) nodes) d ≡ linked flag values (node_tree node) (links (plan_as flag values) 1 (trees_of nodes) d)
    by_default true e h = h ∙ sym (default_unlinked flag values (node_tree node) (links (plan_as flag values) 1 (trees_of nodes) d) (ap is_default (node_kind node) ∙ e))
    by_default false e h = ap (linked flag values (node_tree node)) h

pub link_none : (flag : ℕ) (values : List ℕ) (nodes left tests : List Node) (branches : Trees) → reverse left ≡ filter (λ node. not (default_node node)) nodes → tests ≡ []
    → behind (trees_of tests) (link_all flag values (reverse left) branches) ≡ opened (links (plan_as flag values) 1 (trees_of nodes) branches)
link_none flag values nodes left tests branches e f =
    ap (λ ns. behind (trees_of ns) (link_all flag values (reverse left) branches)) f ∙ ap (λ ts. behind ts (link_all flag values (reverse left) branches)) none
    ∙ ap (λ ns. opened (link_all flag values ns branches)) e ∙ ap opened (links_are flag values nodes branches)

pub link_next : (flag : ℕ) (values : List ℕ) (left more old new : List Node) (node : Node) (branches whole : Trees) → reverse left ≡ node ∷ reverse more
    → ((branches : Trees) → behind (trees_of new) branches ≡ behind (trees_of old) (linked flag values (node_tree node) branches))
    → behind (trees_of old) (link_all flag values (reverse left) branches) ≡ whole → behind (trees_of new) (link_all flag values (reverse more) branches) ≡ whole
link_next flag values left more old new node branches whole e f h =
    f (link_all flag values (reverse more) branches) ∙ ap (λ ns. behind (trees_of old) (link_all flag values ns branches)) (sym e) ∙ h

pub link_end : (flag : ℕ) (values : List ℕ) (left tests : List Node) (branches whole : Trees) → length left ≡ 0 → behind (trees_of tests) (link_all flag values (reverse left) branches) ≡ whole → behind (trees_of tests) branches ≡ whole
link_end flag values [] tests branches whole n e = e
link_end flag values (node ∷ left) tests branches whole n e = absurd (omega (arith, n))

part_unlike : (p : NameRole) → is_default (part_kind p) ≡ true → ⊥
part_unlike (P.Declares n (W.Method flags) true) e = absurd cc
part_unlike (P.Declares n what true) e = absurd cc
part_unlike (P.Declares n what false) e = absurd cc
part_unlike p e = absurd cc

flag_unlike : (c : Bool) (k : TermRole) → is_default k ≡ false → is_default (flagged c k) ≡ true → ⊥
flag_unlike true k f e = absurd cc
flag_unlike false k f e = absurd cc

default_form : (at : At) (op : Op) (args body : Trees) → is_default (form_kind op args body) ≡ true → form at op args body ≡ Default body
default_form at (Op.Control Control.Default) no_trees body e = refl
default_form at (Op.Control Control.Default) (tree t ts) body e = absurd cc
default_form at (Op.Control Control.While) args body e = absurd (flag_unlike (are 1 args) TermRole.Loop refl e)
default_form at (Op.Control Control.For) args body e = absurd (flag_unlike (are 3 args) TermRole.Loop refl e)
default_form at (Op.Control Control.Switch) args body e = absurd (flag_unlike (are 1 args) TermRole.Switch refl e)
default_form at (Op.Control Control.Case) args body e = absurd (flag_unlike (are 1 args) TermRole.Case refl e)
default_form at (Op.Control Control.Continue) args body e = absurd (flag_unlike (are 0 args && are 0 body) TermRole.Continue refl e)
default_form at op args body e = absurd (part_unlike (part_of op args body) e)

default_term : (at : At) (t : Term) → is_default (shape_kind (term_shape t)) ≡ true → tree_of at t ≡ Default (shape_body (term_shape t))
unfolding tree_of
default_term at (D.Form' op shape args shape' body) e = default_form at op (row_trees args) (row_trees body) e
default_term at t e = absurd cc

default_is : (node : Node) → default_node node ≡ true → node_tree node ≡ Default (shape_body (term_shape node.term))
default_is node e = default_term (record { id = node.id; place = node.place }) node.term e

defaults_are : (flag : ℕ) (values : List ℕ) (nodes : List Node) → default_link (plan_as flag values) 1 (trees_of nodes) ≡ default_looped flag values (first_default nodes)
unfolding trees_of
defaults_are flag values [] = refl
defaults_are flag values (node ∷ nodes) = by_default (default_node node) refl (defaults_are flag values nodes)
  where
    by_default : (c : Bool) → default_node node ≡ c → default_link (plan_as flag values) 1 (trees_of nodes) ≡ default_looped flag values (first_default nodes) → default_link (plan_as flag values) 1 (tree (node_tree node) (trees_of nodes)) ≡ default_looped flag values (if c then Some node else first_default nodes)
    by_default true e h = ap (λ t. default_link (plan_as flag values) 1 (tree t (trees_of nodes))) (default_is node e) ∙ default_step flag values (shape_body (term_shape node.term)) (trees_of nodes)
    by_default false e h = no_default_step flag values (node_tree node) (trees_of nodes) (ap is_default (node_kind node) ∙ e) ∙ h

-- the Default behind the tests
pub default_is_last : (flag : ℕ) (values : List ℕ) (nodes : List Node) (default : Option Node) (d : Trees) → default ≡ first_default nodes → d ≡ default_looped flag values default → d ≡ default_link (plan_as flag values) 1 (trees_of nodes)
default_is_last flag values nodes default d ed e = e ∙ ap (default_looped flag values) ed ∙ sym (defaults_are flag values nodes)

-- ---- what is given

given_cases : (nodes : List Node) → AreGiven (trees_of nodes) → AreGiven (trees_of (filter (λ node. not (default_node node)) nodes))
unfolding trees_of
given_cases [] g = tt
given_cases (node ∷ nodes) g = by_default (default_node node) (given_cases nodes g.1)
  where
    by_default : (c : Bool) → AreGiven (trees_of (filter (λ node. not (default_node node)) nodes)) → AreGiven (trees_of (if not c then node ∷ filter (λ node. not (default_node node)) nodes else filter (λ node. not (default_node node)) nodes))
    by_default true h = h
    by_default false h = (g.0, h)

given_first : (nodes : List Node) → AreGiven (trees_of nodes) → given_default (first_default nodes)
unfolding trees_of
given_first [] g = tt
given_first (node ∷ nodes) g = by_default (default_node node) refl (given_first nodes g.1)
  where
    by_default : (c : Bool) → default_node node ≡ c → given_default (first_default nodes) → given_default (if c then Some node else first_default nodes)
    by_default true e h = subst IsGiven (default_is node e) g.0
    by_default false e h = h

pub cases_given : (nodes left : List Node) → reverse left ≡ filter (λ node. not (default_node node)) nodes → AreGiven (trees_of nodes) → AreGiven (trees_of (reverse left))
cases_given nodes left e g = subst (λ ns. AreGiven (trees_of ns)) (sym e) (given_cases nodes g)

pub given_next : (left more : List Node) (node : Node) → reverse left ≡ node ∷ reverse more → AreGiven (trees_of (reverse left)) → IsGiven (node_tree node) × AreGiven (trees_of (reverse more))
given_next left more node e g = subst AreGiven (ap trees_of e ∙ tree_cons node (reverse more)) g

pub default_given : (nodes : List Node) (default : Option Node) → default ≡ first_default nodes → AreGiven (trees_of nodes) → given_default default
default_given nodes default e g = subst given_default (sym e) (given_first nodes g)

-- ---- nodes

pub form_is : (at : At) (t : Term) (op : Op) (args body : Vec Node Global) → t ≡ D.Form op args body → tree_of at t ≡ form at op (trees_of args.items) (trees_of body.items)
form_is at t op args body e = ap (tree_of at) e ∙ form_tree at op args body

pub body_is : (t : Term) (op : Op) (args body : Vec Node Global) → t ≡ D.Form op args body → shape_body (term_shape t) ≡ trees_of body.items
body_is t op args body e = ap (λ t. shape_body (term_shape t)) e ∙ ap shape_body (form_rows op args body)

flat_shape : (t : Term) → is_form t ≡ false → shape_body (term_shape t) ≡ no_trees
flat_shape (D.Form' op shape args shape' body) e = absurd (grind arith)
flat_shape t e = refl

pub flat_body : (flag : ℕ) (values : List ℕ) (t : Term) (made : List Node) → ((o : Op) (v w : Vec Node Global) → t ≡ D.Form o v w → ⊥) → made ≡ [] → trees_of made ≡ looped_all flag values true (shape_body (term_shape t))
flat_body flag values t made never e = ap trees_of e ∙ none ∙ ap (looped_all flag values true) (sym (flat_shape t (not_formed t never)))

pub flat_unlinked : (flag : ℕ) (values : List ℕ) (node : Node) (d : Trees) → ((o : Op) (v w : Vec Node Global) → node.term ≡ D.Form o v w → ⊥) → d ≡ linked flag values (node_tree node) d
flat_unlinked flag values node d never =
    sym (other_linked flag values (node_tree node) d (λ e. let k : TermRole.Other ≡ TermRole.Case = sym (flat_kind node.term (not_formed node.term never)) ∙ sym (node_kind node) ∙ e in absurd cc))

pub flat_kept : (flag : ℕ) (values : List ℕ) (inside : Bool) (at : At) (t : Term) (rest : Trees) → is_form t ≡ false → put flag values inside (tree_of at t) rest ≡ tree (tree_of at t) rest
unfolding tree_of
flat_kept flag values inside at (D.Form' op shape args shape' body) rest e = absurd (grind arith)
flat_kept flag values inside at t rest e = refl
