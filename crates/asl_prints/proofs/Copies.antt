-- Nodes that are copied one after another.
use Rattle.std.proofs.Common.{◌≡◌, ℕ, suc, ◌+◌, ◌<◌, List, [], ◌∷◌, ◌++◌, length, take, get_or, sym, ap, ◌∙◌, arith}
use Rattle.asl_tree.specs.declared.term.Node.{Node}
use Rattle.asl_tree.specs.Tree.{no_trees, tree}
use Rattle.asl_tree.specs.View.{trees_of}
use Rattle.term_plans.specs.Plans.{no_plans, plan, join, plan_of, plans_of}
use Rattle.asl_prints.specs.Forms.{followed}
use Rattle.asl_prints.specs.Nodes.{node_tree}
use Rattle.asl_prints.specs.PlanParts.{placed}
use Rattle.asl_prints.proofs.Nodes.{behind_all, take_next, form_tree, call_tree}
use Rattle.asl_prints.proofs.PlanNodes.{behind, same_place, taken_next}
use Rattle.term_plans.proofs.Plans.{plan_form, plan_call}
use Rattle.asl_prints.proofs.NodeNumbers.{numbers_form, numbers_call}

pub next_copied : (nodes old new : List Node) (i : ℕ) (node copy : Node) → i < length nodes → node ≡ get_or nodes i node → trees_of old ≡ trees_of (take i nodes) → node_tree copy ≡ node_tree node → new ≡ old ++ copy ∷ []
    → trees_of new ≡ trees_of (take (i + 1) nodes)
next_copied nodes old new i node copy lt is h same e =
    let one : i + 1 ≡ suc i = omega arith in
    ap trees_of e ∙ behind_all old copy ∙ ap (λ ts. followed ts (tree (node_tree copy) no_trees)) h ∙ ap (λ t. followed (trees_of (take i nodes)) (tree t no_trees)) same
    ∙ sym (behind_all (take i nodes) node) ∙ ap trees_of (sym (take_next nodes i node lt is)) ∙ ap (λ n. trees_of (take n nodes)) (sym one)

pub plans_copied : (nodes old new : List Node) (i : ℕ) (node copy : Node) → i < length nodes → node ≡ get_or nodes i node → plans_of old ≡ plans_of (take i nodes) → placed copy ≡ placed node → new ≡ old ++ copy ∷ []
    → plans_of new ≡ plans_of (take (i + 1) nodes)
plans_copied nodes old new i node copy lt is h same e =
    ap plans_of e ∙ behind old copy ∙ ap (λ ps. join ps (plan copy.place (plan_of copy.term) no_plans)) h
    ∙ ap (join (plans_of (take i nodes))) (same_place copy node.place (plan_of node.term) no_plans same) ∙ sym (taken_next nodes i node lt is)

-- what a call and a form of copies are
pub ruleset copied_rules = (form_tree, call_tree, plan_form, plan_call, numbers_form, numbers_call)
