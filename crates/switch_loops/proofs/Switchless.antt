-- Terms in which no Switch stands: there is a Local for each of none.
use Rattle.std.proofs.Common.{◌≡◌, ◌+◌, true, false, List, [], ◌∷◌, length, refl, sym, ap, subst, ◌∙◌, arith}
use Rattle.std.specs.Prelude.{◌||◌, nat_le, if◌then◌else◌}
use Rattle.std.proofs.lemmas.Bool.{or_parts}
use Rattle.std.proofs.lemmas.Bool.Decides.{nat_tests}
use Rattle.asl_tree.specs.declared.term.Node.{Node}
use Rattle.asl_tree.specs.declared.term.Term.{Term}
use Rattle.asl_tree.specs.declared.term.Term as D
use Rattle.asl_tree.specs.Tree.{At, Trees}
use Rattle.asl_tree.specs.View.{tree_of, row_trees, trees_of}
use Rattle.hidden_locals.specs.Locals.{locals_all}
use Rattle.hidden_locals.specs.Turns.{others}
use Rattle.hidden_locals.specs.Switches.{depth_all, is_enough}
use Rattle.switch_loops.specs.Kinds.{form_kind}
use Rattle.switch_loops.specs.Measures.{measured, measured_one, around, both}
use Rattle.switch_loops.specs.Switched.{is_switch, switches, switches_row, has_switch}
use Rattle.switch_loops.specs.declared.kind.TermRole.{TermRole}
use Rattle.switch_loops.specs.declared.measure.Measure.{Measure}
use Rattle.switch_loops.proofs.KindRows.{measured_form}
use Rattle.switch_loops.proofs.Keeping.{no_switch}
use Rattle.switch_loops.proofs.Measured.{measured_tree}

abbrev Quiet : Measure → Type 0
Quiet m = (m.levels ≡ 0) × (m.crossed ≡ false)

quiet_around : (k : TermRole) (m : Measure) → (k ≡ TermRole.Switch → ⊥) → Quiet m → Quiet (around k m)
quiet_around TermRole.Block m never q = q
quiet_around TermRole.Loop m never q = (q.0, q.1)
quiet_around TermRole.Switch m never q = absurd (never refl)
quiet_around TermRole.Case m never q = q
quiet_around TermRole.Default m never q = q
quiet_around TermRole.Method m never q = (refl, refl)
quiet_around TermRole.Continue m never q = (refl, refl)
quiet_around TermRole.Other m never q = (refl, refl)

quiet_both : (m n : Measure) → Quiet m → Quiet n → Quiet (both m n)
quiet_both m n q r = (omega (arith, q.0, r.0), ap (λ b. b || n.crossed) q.1 ∙ r.1)

mutual
  unfolding tree_of switches

  term_quiet : (at : At) (t : Term) → switches t ≡ false → Quiet (measured_one (tree_of at t))
  term_quiet at (D.Form' op shape args shape' body) e =
      let none = or_parts (is_switch op) (switches_row body) e in
      subst Quiet (sym (measured_form at op (row_trees args) (row_trees body)))
      (quiet_around (form_kind op (row_trees args) (row_trees body)) (measured (row_trees body)) (no_switch op (row_trees args) (row_trees body) none.0) (row_quiet body none.1))
  term_quiet at t e = (refl, refl)

  row_quiet : {m : _} (row : D.Row_of-Node m) → switches_row row ≡ false → Quiet (measured (row_trees row))
  row_quiet D.end_of-Node e = (refl, refl)
  row_quiet (D.more_of-Node id place term rest) e =
      let at : At = record { id = id; place = place } in
      let none = or_parts (switches term) (switches_row rest) e in
      subst Quiet (sym (measured_tree (tree_of at term) (row_trees rest))) (quiet_both (measured_one (tree_of at term)) (measured (row_trees rest)) (term_quiet at term none.0) (row_quiet rest none.1))

quiet_enough : (ts : Trees) → Quiet (measured ts) → is_enough ts ≡ true
quiet_enough ts q =
    let none : depth_all ts ≡ 0 = omega (arith, q.0) in
    ap (λ b. nat_le (depth_all ts + (if b then 1 else 0)) (length (others (locals_all ts)))) q.1 ∙ ap (λ n. nat_le (n + 0) (length (others (locals_all ts)))) none ∙ grind (arith, nat_tests)

-- none is needed
pub row_enough : {m : _} (row : D.Row_of-Node m) → switches_row row ≡ false → is_enough (row_trees row) ≡ true
row_enough row e = quiet_enough (row_trees row) (row_quiet row e)

nodes_quiet : (nodes : List Node) → has_switch nodes ≡ false → Quiet (measured (trees_of nodes))
unfolding trees_of has_switch
nodes_quiet [] e = (refl, refl)
nodes_quiet (node ∷ nodes) e =
    let at : At = record { id = node.id; place = node.place } in
    let none = or_parts (switches node.term) (has_switch nodes) e in
    subst Quiet (sym (measured_tree (tree_of at node.term) (trees_of nodes))) (quiet_both (measured_one (tree_of at node.term)) (measured (trees_of nodes)) (term_quiet at node.term none.0) (nodes_quiet nodes none.1))

pub nodes_enough : (nodes : List Node) → has_switch nodes ≡ false → is_enough (trees_of nodes) ≡ true
nodes_enough nodes e = quiet_enough (trees_of nodes) (nodes_quiet nodes e)
