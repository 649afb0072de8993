-- What stands in a term, by its parts.
use Rattle.std.proofs.Common.{◌≡◌, ℕ, Bool, false, List, Vec, Global, sym, ap, ◌∙◌}
use Rattle.asl_tree.specs.declared.path.Path.{Path}
use Rattle.asl_tree.specs.declared.term.Op.{Op}
use Rattle.asl_tree.specs.declared.term.Node.{Node}
use Rattle.asl_tree.specs.declared.term.Term.{Term}
use Rattle.asl_tree.specs.declared.term.Term as D
use Rattle.asl_tree.specs.declared.term.Term.TheVariants as V
use Rattle.term_plans.specs.Plans.{a_call, a_form, plan_of, plans_of}
use Rattle.term_plans.proofs.Plans.{plan_form, plan_call}
use Rattle.asl_tree.specs.declared.term.NamedDescriptor.{NamedDescriptor}
use Rattle.descriptor_fields.proofs.Terms.{one_other}
use Rattle.form_presence.specs.Present.{has_op, is_switch, is_field, is_list, is_form}
use Rattle.form_presence.specs.Kinds.{FormKind, ASwitch, AField, AList, ForOrPrint, ADescriptor, is_in}

-- the plan of a call and of a form, by the nodes in it
pub call_is : (t : Term) (path : Path) (args : Vec Node Global) (xs : List Node) → t ≡ D.Call path args → xs ≡ args.items → plan_of t ≡ a_call path (plans_of xs)
call_is t path args xs e a = ap plan_of e ∙ plan_call path args ∙ ap (λ ns. a_call path (plans_of ns)) (sym a)

pub form_is : (t : Term) (op : Op) (args body : Vec Node Global) (xs ys : List Node) → t ≡ D.Form op args body → xs ≡ args.items → ys ≡ body.items → plan_of t ≡ a_form op (plans_of xs) (plans_of ys)
form_is t op args body xs ys e a b =
    ap plan_of e ∙ plan_form op args body ∙ ap (λ ns. a_form op (plans_of ns) (plans_of body.items)) (sym a) ∙ ap (λ ns. a_form op (plans_of xs) (plans_of ns)) (sym b)

-- no form stands in any other term
none_in_leaf : (is_such : Op → Bool) (t : Term) → ((p : Path) (v : Vec Node Global) → t ≡ D.Call p v → ⊥) → ((o : Op) (v w : Vec Node Global) → t ≡ D.Form o v w → ⊥) → has_op is_such (plan_of t) ≡ false
unfolding plan_of
none_in_leaf is_such t not_call not_form = by_layer (D.out-Term t) (sym (D.roll-out-Term t))
  where
    read : Term → Bool
    read u = has_op is_such (plan_of u)

    by_layer : (f : D.Term-F Term Node) → t ≡ D.roll-Term f → has_op is_such (plan_of t) ≡ false
    by_layer (D.Term-F.Call p v) e = absurd (not_call p v (e ∙ V.rolls-Call p v))
    by_layer (D.Term-F.Form o v w) e = absurd (not_form o v w (e ∙ V.rolls-Form o v w))
    by_layer (D.Term-F.Integer n) e = ap read (e ∙ V.rolls-Integer n)
    by_layer (D.Term-F.Text text) e = ap read (e ∙ V.rolls-Text text)
    by_layer (D.Term-F.Fill bytes named) e = ap read (e ∙ V.rolls-Fill bytes named)
    by_layer (D.Term-F.Word word) e = ap read (e ∙ V.rolls-Word word)
    by_layer (D.Term-F.Local n) e = ap read (e ∙ V.rolls-Local n)
    by_layer (D.Term-F.Arg n) e = ap read (e ∙ V.rolls-Arg n)
    by_layer (D.Term-F.Debug) e = ap read (e ∙ V.rolls-Debug)
    by_layer (D.Term-F.Omitted) e = ap read (e ∙ V.rolls-Omitted)
    by_layer (D.Term-F.Name p) e = ap read (e ∙ V.rolls-Name p)
    by_layer (D.Term-F.Unit segment bits) e = ap read (e ∙ V.rolls-Unit segment bits)
    by_layer (D.Term-F.Skip n) e = ap read (e ∙ V.rolls-Skip n)
    by_layer (D.Term-F.Offset n) e = ap read (e ∙ V.rolls-Offset n)
    by_layer (D.Term-F.Access access attribute count) e = ap read (e ∙ V.rolls-Access access attribute count)

-- nothing that is looked for stands in what is no template, no call and no form
pub none_of : (kind : FormKind) (t : Term) → ((bytes : List ℕ) (named : List NamedDescriptor) → t ≡ D.Fill bytes named → ⊥) → ((p : Path) (v : Vec Node Global) → t ≡ D.Call p v → ⊥) → ((o : Op) (v w : Vec Node Global) → t ≡ D.Form o v w → ⊥) → is_in kind (plan_of t) ≡ false
none_of ASwitch t not_fill not_call not_form = none_in_leaf is_switch t not_call not_form
none_of AField t not_fill not_call not_form = none_in_leaf is_field t not_call not_form
none_of AList t not_fill not_call not_form = none_in_leaf is_list t not_call not_form
none_of ForOrPrint t not_fill not_call not_form = none_in_leaf is_form t not_call not_form
none_of ADescriptor t not_fill not_call not_form = one_other t not_fill not_call not_form
