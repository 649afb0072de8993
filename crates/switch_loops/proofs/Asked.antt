-- The question for a Switch, node after node.
use Rattle.std.proofs.Common.{◌≡◌, ℕ, zero, suc, ◌+◌, ◌<◌, ◌≤◌, true, false, List, [], ◌∷◌, length, get_or, drop, Vec, Global, refl, sym, ap, ◌∙◌, arith}
use Rattle.std.specs.Prelude.{◌||◌}
use Rattle.asl_tree.specs.declared.term.Op.{Op}
use Rattle.asl_tree.specs.declared.term.Node.{Node}
use Rattle.asl_tree.specs.declared.term.Term.{Term}
use Rattle.asl_tree.specs.declared.term.Term as D
use Rattle.acpi_names.specs.Parts.{is_form}
use Rattle.term_places.proofs.Places.{body_row}
use Rattle.switch_loops.specs.Switched.{is_switch, switches, switches_row, has_switch}
use Rattle.switch_loops.proofs.LoopPlaces.{not_formed}

switch_rows : (m : _) (row : D.Row_of-Node m) → switches_row row ≡ has_switch (D.items-the_row-Node m row)
unfolding switches_row has_switch
switch_rows m D.end_of-Node = refl
switch_rows m (D.more_of-Node id place term rest) = ap (λ b. switches term || b) (switch_rows _ rest)

form_switches : (op : Op) (args body : Vec Node Global) → switches (D.Form op args body) ≡ (is_switch op || has_switch body.items)
unfolding switches
form_switches op args body =
    let b = body_row (D.Form op args body) in
    ap (λ c. is_switch op || c) (switch_rows b.0 b.1 ∙ ap has_switch (D.items_hidden-the_row-Node-0 body))

flat_switches : (t : Term) → is_form t ≡ false → switches t ≡ false
unfolding switches
flat_switches (D.Form' op shape args shape' body) e = absurd (grind arith)
flat_switches t e = refl

pub other_switches : (t : Term) → ((o : Op) (v w : Vec Node Global) → t ≡ D.Form o v w → ⊥) → false ≡ switches t
other_switches t never = sym (flat_switches t (not_formed t never))

pub here_switches : (t : Term) (op : Op) (args body : Vec Node Global) → t ≡ D.Form op args body → is_switch op ≡ true → true ≡ switches t
here_switches t op args body e s = sym (ap switches e ∙ form_switches op args body ∙ ap (λ b. b || has_switch body.items) s)

pub inside_switches : (t : Term) (op : Op) (args body : Vec Node Global) (ys : List Node) → t ≡ D.Form op args body → ys ≡ body.items → is_switch op ≡ false → has_switch ys ≡ switches t
inside_switches t op args body ys e b s = ap has_switch b ∙ sym (ap switches e ∙ form_switches op args body ∙ ap (λ b. b || has_switch body.items) s)

-- none is in some first nodes
abbrev pub Asked : List Node → ℕ → Type 0
Asked ns i = has_switch (drop i ns) ≡ has_switch ns

node_asked : (ns : List Node) (i : ℕ) (node : Node) → i < length ns → node ≡ get_or ns i node → has_switch (drop i ns) ≡ (switches node.term || has_switch (drop (suc i) ns))
unfolding has_switch
node_asked [] i node lt e = absurd (omega (arith, lt))
node_asked (n ∷ ns) zero node lt e = ap (λ (m : Node). switches m.term || has_switch ns) (sym e)
node_asked (n ∷ ns) (suc i) node lt e = node_asked ns i node (omega (arith, lt)) e

pub next_asked : (ns : List Node) (i : ℕ) (node : Node) → i < length ns → node ≡ get_or ns i node → switches node.term ≡ false → Asked ns i → Asked ns (i + 1)
next_asked ns i node lt e none before =
    let more : i + 1 ≡ suc i = omega arith in
    ap (λ k. has_switch (drop k ns)) more ∙ ap (λ b. b || has_switch (drop (suc i) ns)) (sym none) ∙ sym (node_asked ns i node lt e) ∙ before

pub asked_here : (ns : List Node) (i : ℕ) (node : Node) → i < length ns → node ≡ get_or ns i node → switches node.term ≡ true → Asked ns i → true ≡ has_switch ns
asked_here ns i node lt e here before = ap (λ b. b || has_switch (drop (suc i) ns)) (sym here) ∙ sym (node_asked ns i node lt e) ∙ before

pub none_asked : (ns : List Node) (i : ℕ) → length ns ≤ i → Asked ns i → false ≡ has_switch ns
unfolding has_switch
none_asked ns i le before = sym (gone ns i le) ∙ before
  where
    gone : (ns : List Node) (i : ℕ) → length ns ≤ i → has_switch (drop i ns) ≡ false
    gone [] zero le = refl
    gone [] (suc i) le = refl
    gone (n ∷ ns) zero le = absurd (omega (arith, le))
    gone (n ∷ ns) (suc i) le = gone ns i (omega (arith, le))
