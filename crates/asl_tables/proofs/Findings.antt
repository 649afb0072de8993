-- What is found of a block's terms is what the block comes to.
use Rattle.std.proofs.Common.{◌≡◌, Bool, false, List, [], ◌∷◌, Result, refl, sym, ap, subst}
use Rattle.std.specs.Prelude.{IfOk}
use Rattle.std.specs.declared.alloc.AllocError.{AllocError}
use Rattle.iasl_messages.specs.declared.message.Message.{Message}
use Rattle.std.proofs.Math.Path.{fun_ext}
use Rattle.acpi_values.specs.Paths.{AbsolutePath}
use Rattle.acpi_names.specs.Paths.{is_named_in}
use Rattle.asl_tree.specs.Tree.{Trees}
use Rattle.asl_tree.specs.View.{trees_of}
use Rattle.asl_tree.specs.declared.term.Node.{Node}
use Rattle.term_plans.specs.Plans.{plans_of}
use Rattle.switch_checks.specs.Locals.{few_locals}
use Rattle.block_outcomes.specs.declared.outcome.Outcome.{Outcome}
use Rattle.block_outcomes.specs.declared.outcome.Outcome.TheVariants.{Faulty}
use Rattle.asl_tables.specs.Compiled.{unless_wrong}
use Rattle.block_outcomes.specs.Joined.{first_told}
use Rattle.block_checks.specs.declared.names.Findings.{Findings}
use Rattle.block_checks.specs.declared.names.Findings.TheVariants.{Right, Wrong}
use Rattle.block_checks.specs.Findings.{IsNamed}
use Rattle.block_checks.specs.Told.{with_others}
use Rattle.block_checks.proofs.Classes.{both_none, some_behind}
use Rattle.block_checks.proofs.Named.{both_first}

-- what is told of the names of terms
abbrev pub told_by : Findings → List Message
told_by (Right found) = []
told_by (Wrong errors) = errors

-- the paths that stand in the way of the names, by their flags
abbrev pub beside_by : Findings → AbsolutePath → Bool
beside_by (Right found) path = is_named_in found.index.paths found.described.items path
beside_by (Wrong errors) path = false

pub named_by : (names : Findings) (told : List Message) (also : AbsolutePath → Bool) (terms : Trees) → IsNamed names told also terms → IsNamed names (told_by names) (beside_by names) terms
named_by (Right found) told also terms h =
    let are = h.0 in (
      record { size = are.size; sized = are.sized; few = are.few; names = are.names; calls = are.calls; beside = λ path. refl; no_names = are.no_names; no_kinds = are.no_kinds },
      refl,
    )
named_by (Wrong errors) told also terms h = (refl, h.1)

-- where something is wrong, it does not matter what else a block would come to
same_wrong : (messages : List Message) (it other : Outcome) → (messages ≡ [] → ⊥) → unless_wrong messages it ≡ unless_wrong messages other
same_wrong [] it other some = absurd (some refl)
same_wrong (m ∷ ms) it other some = refl

-- a block comes to the same by its flags and by the paths that these say
pub comes_beside : (names : Findings) (told : List Message) (also : AbsolutePath → Bool) (terms : Trees) (others few : List Message) (it : (AbsolutePath → Bool) → Outcome) → IsNamed names told also terms
    → unless_wrong (with_others (told_by names) others) (unless_wrong few (it (beside_by names))) ≡ unless_wrong (with_others (told_by names) others) (unless_wrong few (it also))
comes_beside (Right found) told also terms others few it h =
    let are = h.0 in
    let same : beside_by (Right found) ≡ also = fun_ext are.beside in
    ap (λ beside. unless_wrong (with_others [] others) (unless_wrong few (it beside))) same
comes_beside (Wrong errors) told also terms others few it h =
    same_wrong (with_others errors others) (unless_wrong few (it (beside_by (Wrong errors)))) (unless_wrong few (it also)) (some_behind errors others h.1)

pub told_is : (names : Findings) (told : List Message) (also : AbsolutePath → Bool) (terms : Trees) → IsNamed names told also terms → told_by names ≡ told
told_is (Right found) told also terms h = sym h.1
told_is (Wrong errors) told also terms h = h.0

-- what is wrong, where something is
pub found_wrong : (errors wrong few : List Message) → (errors ≡ wrong) × (errors ≡ [] → ⊥) → (errors ≡ first_told wrong few) × (errors ≡ [] → ⊥)
found_wrong errors [] few h = absurd (h.1 h.0)
found_wrong errors (m ∷ ms) few h = h

-- the names, or what cannot be lowered, where nothing is
pub found_right : (r : Result Findings AllocError) (wrong few : List Message) (also : AbsolutePath → Bool) (terms : Trees) → wrong ≡ [] → IfOk r (λ found. IsNamed found few also terms) → IfOk r (λ found. IsNamed found (first_told wrong few) also terms)
found_right r wrong few also terms e h = subst (λ (ws : List Message). IfOk r (λ found. IsNamed found (first_told ws few) also terms)) (sym e) h

-- a block in which something is wrong
pub wrong_all : (errors wrong few copies : List Message) (it : Outcome) → errors ≡ first_told wrong few → (errors ≡ [] → ⊥) → Faulty errors ≡ unless_wrong wrong (unless_wrong (first_told few copies) it)
wrong_all errors [] [] copies it e h = absurd (h e)
wrong_all errors [] (m ∷ ms) copies it e h = ap Faulty e
wrong_all errors (m ∷ ms) few copies it e h = ap Faulty e

-- and one in which nothing is, but that too many copies may be made of it
pub right_all : (r : Result Outcome AllocError) (wrong few copies : List Message) (it : Outcome) → first_told wrong few ≡ [] → IfOk r (λ made. made ≡ unless_wrong copies it) → IfOk r (λ made. made ≡ unless_wrong wrong (unless_wrong (first_told few copies) it))
right_all r [] [] copies it e h = h
right_all r [] (m ∷ ms) copies it e h = absurd cc
right_all r (m ∷ ms) few copies it e h = absurd cc

-- what is found of the nodes of a block
pub found_of : (found : Findings) (wrong : List Message) (also : AbsolutePath → Bool) (lent nodes : List Node) → lent ≡ nodes
    → IsNamed found (first_told wrong (few_locals (trees_of lent) (plans_of lent))) also (trees_of lent) → IsNamed found (first_told wrong (few_locals (trees_of nodes) (plans_of nodes))) also (trees_of nodes)
found_of found wrong also lent nodes e h =
    subst (λ (ns : List Node). IsNamed found (first_told wrong (few_locals (trees_of ns) (plans_of ns))) also (trees_of ns)) e h

-- nothing else is wrong with a block in which nothing is
pub none_else : (told others few : List Message) → first_told (with_others told others) few ≡ [] → others ≡ []
none_else told others few e = (both_none told others (both_first (with_others told others) few e).0).1
