-- Terms that are measured one after another.
use Rattle.std.proofs.Common.{◌≡◌, ◌≤◌, ◌<◌, ℕ, suc, ◌+◌, Bool, true, false, List, length, drop, get_or, refl, sym, ap, ◌∙◌, arith}
use Rattle.std.specs.Prelude.{◌||◌, max, min}
use Rattle.asl_tree.specs.declared.term.Node.{Node}
use Rattle.asl_tree.specs.Tree.{Tree, Trees, tree}
use Rattle.asl_tree.specs.View.{trees_of}
use Rattle.acpi_names.specs.Walked.{node_tree}
use Rattle.acpi_names.proofs.Telling.{trees_at, no_more}
use Rattle.hidden_locals.specs.Crossing.{has_continue, have_continue}
use Rattle.hidden_locals.specs.Switches.{depth, depth_all, is_crossed, are_crossed}
use Rattle.switch_loops.specs.Measures.{measured, measured_one, nothing, both}
use Rattle.switch_loops.specs.declared.measure.Measure.{Measure}

abbrev made : ℕ → Bool → Bool → Measure
made n b c = record { levels = n; crossed = b; continues = c }

or_assoc : (a b c : Bool) → ((a || b) || c) ≡ (a || (b || c))
or_assoc true b c = refl
or_assoc false b c = refl

or_false : (b : Bool) → (b || false) ≡ b
or_false true = refl
or_false false = refl

both_assoc : (l m n : Measure) → both (both l m) n ≡ both l (both m n)
both_assoc l m n =
    let e : max (max l.levels m.levels) n.levels ≡ max l.levels (max m.levels n.levels) = omega arith in
    ap (λ k. made k ((l.crossed || m.crossed) || n.crossed) ((l.continues || m.continues) || n.continues)) e
    ∙ ap (λ b. made (max l.levels (max m.levels n.levels)) b ((l.continues || m.continues) || n.continues)) (or_assoc l.crossed m.crossed n.crossed)
    ∙ ap (made (max l.levels (max m.levels n.levels)) (l.crossed || (m.crossed || n.crossed))) (or_assoc l.continues m.continues n.continues)

both_nothing : (m : Measure) → both m nothing ≡ m
both_nothing m =
    let e : max m.levels 0 ≡ m.levels = omega arith in
    ap (λ k. made k (m.crossed || false) (m.continues || false)) e ∙ ap (λ b. made m.levels b (m.continues || false)) (or_false m.crossed) ∙ ap (made m.levels m.crossed) (or_false m.continues)

pub nothing_both : (m : Measure) → both nothing m ≡ m
nothing_both m = let e : max 0 m.levels ≡ m.levels = omega arith in ap (λ k. made k m.crossed m.continues) e

pub measured_tree : (t : Tree) (ts : Trees) → measured (tree t ts) ≡ both (measured_one t) (measured ts)
measured_tree t ts =
    let e : min (max (depth t) (depth_all ts)) 9 ≡ max (min (depth t) 9) (min (depth_all ts) 9) = omega arith in
    ap (λ k. made k (is_crossed t || are_crossed ts) (has_continue t || have_continue ts)) e

pub measured_next : (nodes : List Node) (i : ℕ) (node : Node) (found next one whole : Measure) → i < length nodes → node ≡ get_or nodes i node → next ≡ both found one → one ≡ measured_one (node_tree node)
    → both found (measured (trees_of (drop i nodes))) ≡ whole → both next (measured (trees_of (drop (i + 1) nodes))) ≡ whole
measured_next nodes i node found next one whole lt is e f h =
    let more : i + 1 ≡ suc i = omega arith in
    let rest = measured (trees_of (drop (suc i) nodes)) in
    ap (λ n. both next (measured (trees_of (drop n nodes)))) more ∙ ap (λ m. both m rest) (e ∙ ap (both found) f) ∙ both_assoc found (measured_one (node_tree node)) rest
    ∙ ap (both found) (sym (measured_tree (node_tree node) (trees_of (drop (suc i) nodes))))
    ∙ ap (λ (n : Node). both found (measured (tree (node_tree n) (trees_of (drop (suc i) nodes))))) is
    ∙ ap (λ ts. both found (measured ts)) (sym (trees_at nodes i node lt)) ∙ h

pub measured_end : (nodes : List Node) (i : ℕ) (found whole : Measure) → length nodes ≤ i → both found (measured (trees_of (drop i nodes))) ≡ whole → found ≡ whole
measured_end nodes i found whole le h = sym (ap (λ ts. both found (measured ts)) (no_more nodes i le) ∙ both_nothing found) ∙ h
