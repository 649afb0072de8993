-- Terms with steps before each Continue: those that are forms, and others.
use Rattle.std.proofs.Common.{◌≡◌, Bool, true, false, List, Vec, Global, refl, sym, ap, ◌∙◌, arith}
use Rattle.std.specs.Prelude.{◌&&◌}
use Rattle.asl_tree.specs.declared.term.Control.TheVariants as Control
use Rattle.asl_tree.specs.declared.term.Op.{Op}
use Rattle.asl_tree.specs.declared.term.Node.{Node}
use Rattle.asl_tree.specs.declared.term.Term.{Term}
use Rattle.asl_tree.specs.declared.term.Term as D
use Rattle.asl_tree.specs.Tree.{At, Trees, no_trees, tree}
use Rattle.asl_tree.specs.View.{form, tree_of, trees_of}
use Rattle.asl_prints.specs.Forms.{stepped, stepped_all}
use Rattle.asl_prints.specs.Nodes.{goes_in, is_continue, none_in}
use Rattle.asl_formats.specs.Steps.{stepped_body, is_next}
use Rattle.asl_prints.proofs.Nodes.{form_tree}
use Rattle.asl_prints.proofs.Layers.{is_form, no_form}
use Rattle.asl_formats.proofs.StepForms.{stepped_form, other_form}

pub flat_stepped : (steps : Trees) (at : At) (t : Term) → is_form t ≡ false → tree_of at t ≡ stepped steps (tree_of at t)
unfolding tree_of
flat_stepped steps at (D.Form' op shape args shape' body) e = absurd (grind arith)
flat_stepped steps at t e = refl

flat_next : (at : At) (t : Term) → is_form t ≡ false → is_next (tree_of at t) ≡ false
unfolding tree_of
flat_next at (D.Form' op shape args shape' body) e = absurd (grind arith)
flat_next at t e = refl

pub other_stepped : (steps : Trees) (at : At) (t made : Term) → ((o : Op) (v w : Vec Node Global) → t ≡ D.Form o v w → ⊥) → tree_of at made ≡ tree_of at t → tree_of at made ≡ stepped steps (tree_of at t)
other_stepped steps at t made h e = e ∙ flat_stepped steps at t (no_form t h)

pub other_next : (at : At) (t : Term) → ((o : Op) (v w : Vec Node Global) → t ≡ D.Form o v w → ⊥) → is_next (tree_of at t) ≡ false
other_next at t h = flat_next at t (no_form t h)

-- a form whose arguments are copied and whose braces have steps
pub form_stepped : (steps : Trees) (at : At) (t : Term) (op : Op) (args body args' body' : Vec Node Global) → t ≡ D.Form op args body → trees_of args'.items ≡ trees_of args.items → trees_of body'.items ≡ stepped_body steps op (trees_of body.items)
    → tree_of at (D.Form op args' body') ≡ stepped steps (tree_of at t)
form_stepped steps at t op args body args' body' e a b =
    form_tree at op args' body' ∙ ap (λ ts. form at op ts (trees_of body'.items)) a ∙ ap (form at op (trees_of args.items)) b
    ∙ sym (ap (λ t. stepped steps (tree_of at t)) e ∙ ap (stepped steps) (form_tree at op args body) ∙ stepped_form steps at op (trees_of args.items) (trees_of body.items))

-- whether a form is a Continue
next_op : (at : At) (op : Op) (args body : Trees) → is_next (form at op args body) ≡ (is_continue op && (none_in args && none_in body))
next_op at (Op.Control Control.Continue) no_trees no_trees = refl
next_op at (Op.Control Control.Continue) no_trees (tree t ts) = refl
next_op at (Op.Control Control.Continue) (tree t ts) body = refl
next_op at op args body = by_op (is_continue op) refl
  where
    by_op : (c : Bool) → is_continue op ≡ c → is_next (form at op args body) ≡ (is_continue op && (none_in args && none_in body))
    by_op true e = absurd (grind (arith, e))
    by_op false e = other_form at op args body e ∙ sym (ap (λ c. c && (none_in args && none_in body)) e)

pub next_form : (at : At) (t : Term) (op : Op) (args body : Vec Node Global) → t ≡ D.Form op args body → is_next (tree_of at t) ≡ (is_continue op && (none_in (trees_of args.items) && none_in (trees_of body.items)))
next_form at t op args body e = ap (λ t. is_next (tree_of at t)) e ∙ ap is_next (form_tree at op args body) ∙ next_op at op (trees_of args.items) (trees_of body.items)

pub next_is : (t : Term) (op : Op) (args body : Vec Node Global) (xs ys : List Node) (first second third result : Bool) → t ≡ D.Form op args body → xs ≡ args.items → ys ≡ body.items
    → first ≡ is_continue op → second ≡ none_in (trees_of xs) → third ≡ none_in (trees_of ys) → result ≡ (first && (second && third)) → (at : At) → is_next (tree_of at t) ≡ result
next_is t op args body xs ys first second third result e a b f g h r at =
    next_form at t op args body e ∙ sym (r ∙ ap (λ c. c && (second && third)) f ∙ ap (λ c. is_continue op && (c && third)) (g ∙ ap (λ ns. none_in (trees_of ns)) a) ∙ ap (λ c. is_continue op && (none_in (trees_of args.items) && c)) (h ∙ ap (λ ns. none_in (trees_of ns)) b))

pub braces_in : (steps : Trees) (op : Op) (body made : Trees) → goes_in op ≡ true → made ≡ stepped_all steps body → made ≡ stepped_body steps op body
braces_in steps (Op.Control Control.If) body made h e = e
braces_in steps (Op.Control Control.ElseIf) body made h e = e
braces_in steps (Op.Control Control.Else) body made h e = e
braces_in steps (Op.Control Control.Switch) body made h e = e
braces_in steps (Op.Control Control.Case) body made h e = e
braces_in steps (Op.Control Control.Default) body made h e = e
braces_in steps op body made h e = absurd (grind arith)

pub braces_out : (steps : Trees) (op : Op) (body made : Trees) → goes_in op ≡ false → made ≡ body → made ≡ stepped_body steps op body
braces_out steps (Op.Control Control.If) body made h e = absurd (grind arith)
braces_out steps (Op.Control Control.ElseIf) body made h e = absurd (grind arith)
braces_out steps (Op.Control Control.Else) body made h e = absurd (grind arith)
braces_out steps (Op.Control Control.Switch) body made h e = absurd (grind arith)
braces_out steps (Op.Control Control.Case) body made h e = absurd (grind arith)
braces_out steps (Op.Control Control.Default) body made h e = absurd (grind arith)
braces_out steps op body made h e = e
