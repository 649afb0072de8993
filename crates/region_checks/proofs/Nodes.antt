-- The arguments of a form as plans.
use Rattle.std.proofs.Common.{◌≡◌, ℕ, zero, suc, List, [], ◌∷◌, Option, Some, None, refl, ap, arith}
use Rattle.std.specs.Prelude.{slice_get}
use Rattle.std.specs.Result.{result_ok}
use Rattle.asl_tree.specs.declared.term.Node.{Node}
use Rattle.acpi_values.specs.declared.width.Width.{Width}
use Rattle.term_plans.specs.Plans.{plan_of, plans_of, plan_at, constant_of}

abbrev or_node : Node → Option Node → Node
or_node node None = node
or_node node (Some other) = other

pub constant_none : (width : Width) (nodes : List Node) (i : ℕ) → slice_get nodes i ≡ None → result_ok (constant_of width (plan_at (plans_of nodes) i)) ≡ None
unfolding plans_of
constant_none width [] i e = refl
constant_none width (node ∷ nodes) zero e = absurd (grind arith)
constant_none width (node ∷ nodes) (suc i) e = constant_none width nodes i e

pub constant_there : (width : Width) (nodes : List Node) (i : ℕ) (node : Node) → slice_get nodes i ≡ Some node → result_ok (constant_of width (plan_at (plans_of nodes) i)) ≡ result_ok (constant_of width (plan_of node.term))
unfolding plans_of
constant_there width [] i node e = absurd (grind arith)
constant_there width (n ∷ nodes) zero node e = ap (λ o. result_ok (constant_of width (plan_of (or_node n o).term))) e
constant_there width (n ∷ nodes) (suc i) node e = constant_there width nodes i node e
