-- Methods as a whole, and forms that stay.
use Rattle.std.proofs.Common.{◌≡◌, ℕ, Bool, true, false, List, refl, ap, ◌∙◌}
use Rattle.asl_tree.specs.declared.term.Op.{Op}
use Rattle.asl_tree.specs.declared.term.Control.TheVariants as Control
use Rattle.asl_tree.specs.declared.term.Declaration.TheVariants as Declaration
use Rattle.asl_tree.specs.Tree.{At, Integer, Use, Trees, no_trees, tree}
use Rattle.asl_tree.specs.View.{form}
use Rattle.term_places.specs.Places.{holds_terms}
use Rattle.hidden_locals.specs.Locals.{locals_all}
use Rattle.hidden_locals.specs.Turns.{nth, others}
use Rattle.hidden_locals.specs.Switches.{depth_all, plan_of, without_switches}
use Rattle.switch_loops.specs.Given.{IsGiven, AreGiven}
use Rattle.switch_loops.specs.Links.{plan_as, looped_all, in_braces}
use Rattle.switch_loops.specs.Measures.{capped}
use Rattle.switch_loops.specs.Reads.{marked_all, none_named, others_of}
use Rattle.switch_loops.proofs.Alike.{same_terms, plan_whole}
use Rattle.switch_loops.proofs.Marks.{others_are, few_others, nth_capped}

pub whole_looped : (flag levels : ℕ) (values : List ℕ) (named : List Bool) (body : Trees) → named ≡ marked_all none_named (locals_all body) → values ≡ others_of named → levels ≡ capped (depth_all body) → flag ≡ nth values levels
    → looped_all flag values false body ≡ without_switches body
whole_looped flag levels values named body en ev el ef =
    let free : values ≡ others (locals_all body) = ev ∙ ap others_of en ∙ others_are (locals_all body) in
    ap (λ xs. looped_all flag xs false body) free
    ∙ same_terms (plan_as flag (plan_of body).free) (plan_of body) 1 0
    (plan_whole (plan_of body) flag (ef ∙ ap (nth values) el ∙ ap (λ xs. nth xs (capped (depth_all body))) free ∙ nth_capped (others (locals_all body)) (depth_all body) (few_others (locals_all body)))) false body

-- ---- forms that stay

pub kept_one : (flag : ℕ) (values : List ℕ) (inside : Bool) (at : At) (op : Op) (args body made : Trees) → IsGiven (form at op args body) → ((holds_terms op ≡ true → AreGiven body) → made ≡ in_braces flag values inside op body)
    → form at op args made ≡ form at op args (in_braces flag values inside op body)
kept_one flag values inside at (Op.Control Control.If) (tree test no_trees) body made g h = ap (form at (Op.Control Control.If) (tree test no_trees)) (h (λ e. g))
kept_one flag values inside at (Op.Control Control.If) args body made g h = refl
kept_one flag values inside at (Op.Control Control.ElseIf) (tree test no_trees) body made g h = ap (form at (Op.Control Control.ElseIf) (tree test no_trees)) (h (λ e. g))
kept_one flag values inside at (Op.Control Control.ElseIf) args body made g h = refl
kept_one flag values inside at (Op.Control Control.Else) no_trees body made g h = ap (form at (Op.Control Control.Else) no_trees) (h (λ e. g))
kept_one flag values inside at (Op.Control Control.Else) args body made g h = refl
kept_one flag values inside at (Op.Control Control.While) (tree test no_trees) body made g h = ap (form at (Op.Control Control.While) (tree test no_trees)) (h (λ e. g))
kept_one flag values inside at (Op.Control Control.While) args body made g h = refl
kept_one flag values inside at (Op.Declaration Declaration.Method) (tree (Use to name) (tree (Integer arity) no_trees)) body made g h = ap (form at (Op.Declaration Declaration.Method) (tree (Use to name) (tree (Integer arity) no_trees))) (h (λ e. g))
kept_one flag values inside at (Op.Declaration Declaration.Method) args body made g h = refl
kept_one flag values inside at (Op.Declaration Declaration.Device) (tree (Use to name) no_trees) body made g h = ap (form at (Op.Declaration Declaration.Device) (tree (Use to name) no_trees)) (h (λ e. g))
kept_one flag values inside at (Op.Declaration Declaration.Device) args body made g h = refl
kept_one flag values inside at (Op.Declaration Declaration.ThermalZone) (tree (Use to name) no_trees) body made g h = ap (form at (Op.Declaration Declaration.ThermalZone) (tree (Use to name) no_trees)) (h (λ e. g))
kept_one flag values inside at (Op.Declaration Declaration.ThermalZone) args body made g h = refl
kept_one flag values inside at (Op.Declaration Declaration.PowerResource) (tree (Use to name) (tree (Integer level) (tree (Integer order) no_trees))) body made g h = ap (form at (Op.Declaration Declaration.PowerResource) (tree (Use to name) (tree (Integer level) (tree (Integer order) no_trees)))) (h (λ e. g))
kept_one flag values inside at (Op.Declaration Declaration.PowerResource) args body made g h = refl
kept_one flag values inside at (Op.Declaration Declaration.Processor) (tree (Use to name) (tree (Integer number) (tree (Integer address) (tree (Integer size) no_trees)))) body made g h = ap (form at (Op.Declaration Declaration.Processor) (tree (Use to name) (tree (Integer number) (tree (Integer address) (tree (Integer size) no_trees))))) (h (λ e. g))
kept_one flag values inside at (Op.Declaration Declaration.Processor) args body made g h = refl
kept_one flag values inside at (Op.Declaration Declaration.Scope) (tree (Use to name) no_trees) body made g h = ap (form at (Op.Declaration Declaration.Scope) (tree (Use to name) no_trees)) (h (λ e. g))
kept_one flag values inside at (Op.Declaration Declaration.Scope) args body made g h = refl
kept_one flag values inside at op args body made g h = ap (form at op args) (h (λ e. absurd cc))
