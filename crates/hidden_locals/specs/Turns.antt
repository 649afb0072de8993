-- A loop of one turn, which sets a Local first and ends with Break, and the flag by which a Continue leaves it.
use Rattle.std.specs.Prelude.{ℕ, zero, suc, Bool, true, false, not, List, [], ◌∷◌, filter}
use Rattle.acpi_values.specs.declared.operator.Plain.{Plain}
use Rattle.acpi_values.specs.declared.operator.IntOp.TheVariants as IntOp
use Rattle.acpi_values.specs.declared.operator.DataOp.TheVariants as DataOp
use Rattle.acpi_state.specs.Forms.{LocalSlot}
use Rattle.asl_tree.specs.declared.term.Literal.TheVariants as Literal
use Rattle.asl_tree.specs.Tree.{Tree, Constant, InSlot, Apply, If, While, Break, Continue, Trees, no_trees, tree}
use Rattle.hidden_locals.specs.Locals.{is_named}

-- the Locals that are not among some, the lowest first
abbrev pub others : List ℕ → List ℕ
others named = filter (λ i. not (is_named named i)) (0 ∷ 1 ∷ 2 ∷ 3 ∷ 4 ∷ 5 ∷ 6 ∷ 7 ∷ [])

-- the Locals of a method, or of what of a block lies outside methods, that may be taken, and how deep loops of one turn nest in
-- it: each level takes a Local, and the flag is the first one after those
pub record Plan : Type 0 where
  pub free : List ℕ
  pub levels : ℕ

abbrev pub nth : List ℕ → ℕ → ℕ
nth [] i = 0
nth (x ∷ xs) zero = x
nth (x ∷ xs) (suc i) = nth xs i

abbrev pub local : ℕ → Tree
local i = InSlot (LocalSlot i)

abbrev pub value_local : Plan → ℕ → Tree
value_local plan level = local (nth plan.free level)

abbrev pub flag : Plan → Tree
flag plan = local (nth plan.free plan.levels)

abbrev pub zero_word : Tree
zero_word = Constant Literal.Zero

abbrev pub one_word : Tree
one_word = Constant Literal.One

abbrev pub stored : Tree → Tree → Tree
stored value target = Apply (Plain.Data DataOp.Store) (tree value (tree target no_trees)) no_trees

abbrev pub equal : Tree → Tree → Tree
equal a b = Apply (Plain.Number IntOp.LEqual) (tree a (tree b no_trees)) no_trees

-- the tests of a Local against several members, joined from the left
abbrev pub joined : Tree → Tree → Trees → Tree
joined test l no_trees = test
joined test l (tree member members) = joined (Apply (Plain.Number IntOp.LOr) (tree test (tree (equal l member) no_trees)) no_trees) l
    members

abbrev pub test_of : Tree → Trees → Tree
test_of l no_trees = zero_word
test_of l (tree member members) = joined (equal l member) l members

abbrev pub then_trees : Trees → Trees → Trees
then_trees no_trees us = us
then_trees (tree t ts) us = tree t (then_trees ts us)

abbrev pub turn_of : Trees → Tree
turn_of terms = While one_word (then_trees terms (tree Break no_trees))

-- the loop of a value: `chain` follows its Store
abbrev pub loop_of : Tree → Tree → Trees → Tree
loop_of value l chain = turn_of (tree (stored value l) chain)

-- what stands for the loop: one that no Continue crosses, an outermost one that is crossed, and an inner one; the others follow
abbrev pub loop_terms : Plan → Bool → Bool → Tree → Trees → Trees
loop_terms plan false inside loop rest = tree loop rest
loop_terms plan true false loop rest =
    tree (stored zero_word (flag plan))
    (tree loop (tree (If (flag plan) (tree (stored zero_word (flag plan)) (tree Continue no_trees))) rest))
loop_terms plan true true loop rest = tree loop (tree (If (flag plan) (tree Break no_trees)) rest)

-- what stands for a Continue
abbrev pub continue_terms : Plan → Bool → Trees → Trees
continue_terms plan false rest = tree Continue rest
continue_terms plan true rest = tree (stored one_word (flag plan)) (tree Break rest)
