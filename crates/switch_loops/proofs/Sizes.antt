-- The sizes of what stands in a Switch.
use Rattle.std.proofs.Common.{◌≡◌, ◌≤◌, ◌+◌, ℕ, suc, Bool, true, false, List, [], ◌∷◌, Option, Some, None, reverse, sym, ap, subst, arith}
use Rattle.std.specs.Prelude.{not, if◌then◌else◌, filter}
use Rattle.asl_tree.specs.declared.term.Node.{Node}
use Rattle.acpi_names.specs.Parts.{nodes_size, term_size}
use Rattle.switch_loops.specs.Kinds.{default_node}
use Rattle.switch_loops.specs.Links.{first_default}

abbrev pub default_size : Option Node → ℕ
default_size None = 0
default_size (Some node) = suc (term_size node.term)

pub cases_size : (nodes : List Node) → nodes_size (filter (λ node. not (default_node node)) nodes) ≤ nodes_size nodes
unfolding nodes_size
cases_size [] = omega arith
cases_size (node ∷ nodes) = by_default (default_node node) (cases_size nodes)
  where
    by_default : (c : Bool) → nodes_size (filter (λ node. not (default_node node)) nodes) ≤ nodes_size nodes → nodes_size (if not c then node ∷ filter (λ node. not (default_node node)) nodes else filter (λ node. not (default_node node)) nodes) ≤ suc (term_size node.term + nodes_size nodes)
    by_default true h = omega (arith, h)
    by_default false h = omega (arith, h)

pub first_size : (nodes : List Node) → default_size (first_default nodes) ≤ nodes_size nodes
unfolding nodes_size
first_size [] = omega arith
first_size (node ∷ nodes) = by_default (default_node node) (first_size nodes)
  where
    by_default : (c : Bool) → default_size (first_default nodes) ≤ nodes_size nodes → default_size (if c then Some node else first_default nodes) ≤ suc (term_size node.term + nodes_size nodes)
    by_default true h = omega arith
    by_default false h = omega (arith, h)

pub default_fits : (nodes : List Node) (default : Option Node) → default ≡ first_default nodes → default_size default ≤ nodes_size nodes
default_fits nodes default e = subst (λ o. default_size o ≤ nodes_size nodes) (sym e) (first_size nodes)

pub cases_fit : (nodes left : List Node) → reverse left ≡ filter (λ node. not (default_node node)) nodes → nodes_size (reverse left) ≤ nodes_size nodes
cases_fit nodes left e = subst (λ ns. nodes_size ns ≤ nodes_size nodes) (sym e) (cases_size nodes)

pub next_size : (left more : List Node) (node : Node) → reverse left ≡ node ∷ reverse more → nodes_size (reverse left) ≡ suc (term_size node.term + nodes_size (reverse more))
unfolding nodes_size
next_size left more node e = ap nodes_size e
