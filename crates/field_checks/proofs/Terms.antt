-- The errors of a term by its parts.
use Rattle.std.proofs.Common.{◌≡◌, ℕ, ◌+◌, ◌++◌, List, [], Option, None, Vec, Global, append_assoc, sym, ap, ◌∙◌}
use Rattle.iasl_messages.specs.declared.message.Message.{Message}
use Rattle.acpi_values.specs.Paths.{NameSeg}
use Rattle.asl_tree.specs.FieldItems.{FieldItem}
use Rattle.asl_tree.specs.declared.path.Path.{Path}
use Rattle.asl_tree.specs.declared.term.NamedDescriptor.{NamedDescriptor}
use Rattle.asl_tree.specs.declared.term.Op.{Op}
use Rattle.asl_tree.specs.declared.term.Node.{Node}
use Rattle.asl_tree.specs.declared.term.Term.{Term}
use Rattle.asl_tree.specs.declared.term.Term as D
use Rattle.asl_tree.specs.declared.term.Term.TheVariants as V
use Rattle.term_plans.specs.Plans.{a_form, plan_of, plans_of}
use Rattle.term_plans.proofs.Plans.{plan_form, plan_call}
use Rattle.asl_numbers.specs.Numbers.{inside, nodes}
use Rattle.field_checks.specs.Lists.{item_in, field_errors, term_errors, all_errors}

-- what is no item of a list
pub no_item : (t : Term) → ((s : NameSeg) (n : ℕ) → t ≡ D.Unit s n → ⊥) → ((n : ℕ) → t ≡ D.Skip n → ⊥) → ((n : ℕ) → t ≡ D.Offset n → ⊥)
    → ((access attribute : ℕ) (count : Option ℕ) → t ≡ D.Access access attribute count → ⊥) → ((p : Path) → t ≡ D.Name p → ⊥)
    → ((bytes : List ℕ) (named : List NamedDescriptor) → t ≡ D.Fill bytes named → ⊥) → item_in (plan_of t) ≡ None
unfolding plan_of
no_item t not_unit not_skip not_offset not_access not_name not_fill = by_layer (D.out-Term t) (sym (D.roll-out-Term t))
  where
    read : Term → Option (FieldItem ℕ)
    read u = item_in (plan_of u)

    by_layer : (f : D.Term-F Term Node) → t ≡ D.roll-Term f → item_in (plan_of t) ≡ None
    by_layer (D.Term-F.Integer n) e = ap read (e ∙ V.rolls-Integer n)
    by_layer (D.Term-F.Text text) e = ap read (e ∙ V.rolls-Text text)
    by_layer (D.Term-F.Fill bytes named) e = absurd (not_fill bytes named (e ∙ V.rolls-Fill bytes named))
    by_layer (D.Term-F.Word word) e = ap read (e ∙ V.rolls-Word word)
    by_layer (D.Term-F.Local n) e = ap read (e ∙ V.rolls-Local n)
    by_layer (D.Term-F.Arg n) e = ap read (e ∙ V.rolls-Arg n)
    by_layer (D.Term-F.Debug) e = ap read (e ∙ V.rolls-Debug)
    by_layer (D.Term-F.Omitted) e = ap read (e ∙ V.rolls-Omitted)
    by_layer (D.Term-F.Name p) e = absurd (not_name p (e ∙ V.rolls-Name p))
    by_layer (D.Term-F.Unit s n) e = absurd (not_unit s n (e ∙ V.rolls-Unit s n))
    by_layer (D.Term-F.Skip n) e = absurd (not_skip n (e ∙ V.rolls-Skip n))
    by_layer (D.Term-F.Offset n) e = absurd (not_offset n (e ∙ V.rolls-Offset n))
    by_layer (D.Term-F.Access access attribute count) e = absurd (not_access access attribute count (e ∙ V.rolls-Access access attribute count))
    by_layer (D.Term-F.Call p v) e = ap read (e ∙ V.rolls-Call p v) ∙ ap item_in (plan_call p v)
    by_layer (D.Term-F.Form o v w) e = ap read (e ∙ V.rolls-Form o v w) ∙ ap item_in (plan_form o v w)

-- a term that is no form has no error
pub nothing_wrong : (t : Term) → ((o : Op) (v w : Vec Node Global) → t ≡ D.Form o v w → ⊥) → term_errors (plan_of t) ≡ []
unfolding plan_of
nothing_wrong t not_form = by_layer (D.out-Term t) (sym (D.roll-out-Term t))
  where
    read : Term → List Message
    read u = term_errors (plan_of u)

    by_layer : (f : D.Term-F Term Node) → t ≡ D.roll-Term f → term_errors (plan_of t) ≡ []
    by_layer (D.Term-F.Integer n) e = ap read (e ∙ V.rolls-Integer n)
    by_layer (D.Term-F.Text text) e = ap read (e ∙ V.rolls-Text text)
    by_layer (D.Term-F.Fill bytes named) e = ap read (e ∙ V.rolls-Fill bytes named)
    by_layer (D.Term-F.Word word) e = ap read (e ∙ V.rolls-Word word)
    by_layer (D.Term-F.Local n) e = ap read (e ∙ V.rolls-Local n)
    by_layer (D.Term-F.Arg n) e = ap read (e ∙ V.rolls-Arg n)
    by_layer (D.Term-F.Debug) e = ap read (e ∙ V.rolls-Debug)
    by_layer (D.Term-F.Omitted) e = ap read (e ∙ V.rolls-Omitted)
    by_layer (D.Term-F.Name p) e = ap read (e ∙ V.rolls-Name p)
    by_layer (D.Term-F.Unit s n) e = ap read (e ∙ V.rolls-Unit s n)
    by_layer (D.Term-F.Skip n) e = ap read (e ∙ V.rolls-Skip n)
    by_layer (D.Term-F.Offset n) e = ap read (e ∙ V.rolls-Offset n)
    by_layer (D.Term-F.Access access attribute count) e = ap read (e ∙ V.rolls-Access access attribute count)
    by_layer (D.Term-F.Call p v) e = ap read (e ∙ V.rolls-Call p v) ∙ ap term_errors (plan_call p v)
    by_layer (D.Term-F.Form o v w) e = absurd (not_form o v w (e ∙ V.rolls-Form o v w))

-- the plan of a form, by the nodes of its body
pub form_is : (t : Term) (op : Op) (args body : Vec Node Global) (ys : List Node) → t ≡ D.Form op args body → ys ≡ body.items → plan_of t ≡ a_form op (plans_of args.items) (plans_of ys)
form_is t op args body ys e b = ap plan_of e ∙ plan_form op args body ∙ ap (λ ns. a_form op (plans_of args.items) (plans_of ns)) (sym b)

pub inside_form : (t : Term) (op : Op) (args body : Vec Node Global) (ys : List Node) → t ≡ D.Form op args body → ys ≡ body.items → inside (plan_of t) ≡ nodes (plans_of args.items) + nodes (plans_of ys)
inside_form t op args body ys e b = ap inside (form_is t op args body ys e b)

-- the messages of a form, one part after another
pub form_told : (t : Term) (op : Op) (args body : Vec Node Global) (gs xs ys : List Node) (old own new : List Message) → t ≡ D.Form op args body → gs ≡ args.items → xs ≡ body.items → ys ≡ body.items
    → own ≡ old ++ field_errors op (plans_of gs) (plans_of xs) → new ≡ own ++ all_errors (plans_of ys) → new ≡ old ++ term_errors (plan_of t)
form_told t op args body gs xs ys old own new e g a b p q =
    q ∙ ap (λ ms. ms ++ all_errors (plans_of ys)) (p ∙ ap (λ ns. old ++ field_errors op (plans_of ns) (plans_of xs)) g ∙ ap (λ ns. old ++ field_errors op (plans_of args.items) (plans_of ns)) (a ∙ sym b))
    ∙ append_assoc old (field_errors op (plans_of args.items) (plans_of ys)) (all_errors (plans_of ys))
    ∙ ap (λ x. old ++ term_errors x) (sym (form_is t op args body ys e b))
