-- Nodes that are copied one after another.
use Rattle.std.proofs.Common.{◌≡◌, ℕ, zero, suc, ◌+◌, ◌<◌, List, [], ◌∷◌, ◌++◌, length, take, get_or, refl, sym, ap, ◌∙◌, arith}
use Rattle.asl_tree.specs.declared.term.Node.{Node}
use Rattle.asl_tree.specs.Tree.{no_trees, tree}
use Rattle.asl_tree.specs.View.{trees_of}
use Rattle.acpi_names.specs.Walked.{node_tree}
use Rattle.asl_lower.specs.Nests.{joined}
use Rattle.asl_lower.proofs.Backwards.{behind_all}

none_taken : (nodes : List Node) → take 0 nodes ≡ []
none_taken [] = refl
none_taken (node ∷ nodes) = refl

take_next : (nodes : List Node) (i : ℕ) (node : Node) → i < length nodes → node ≡ get_or nodes i node → take (suc i) nodes ≡ take i nodes ++ node ∷ []
take_next [] i node lt e = absurd (omega (arith, lt))
take_next (n ∷ nodes) zero node lt e = ap (λ ns. n ∷ ns) (none_taken nodes) ∙ ap (λ m. m ∷ []) (sym e)
take_next (n ∷ nodes) (suc i) node lt e = ap (λ ns. n ∷ ns) (take_next nodes i node (omega (arith, lt)) e)

pub next_copied : (nodes old new : List Node) (i : ℕ) (node copy : Node) → i < length nodes → node ≡ get_or nodes i node → trees_of old ≡ trees_of (take i nodes) → node_tree copy ≡ node_tree node → new ≡ old ++ copy ∷ []
    → trees_of new ≡ trees_of (take (i + 1) nodes)
next_copied nodes old new i node copy lt is h same e =
    let one : i + 1 ≡ suc i = omega arith in
    ap trees_of e ∙ behind_all old copy ∙ ap (λ ts. joined ts (tree (node_tree copy) no_trees)) h ∙ ap (λ t. joined (trees_of (take i nodes)) (tree t no_trees)) same
    ∙ sym (behind_all (take i nodes) node) ∙ ap trees_of (sym (take_next nodes i node lt is)) ∙ ap (λ n. trees_of (take n nodes)) (sym one)
