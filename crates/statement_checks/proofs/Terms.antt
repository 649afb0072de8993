-- The errors of a term by its parts.
use Rattle.std.proofs.Common.{◌≡◌, ℕ, ◌+◌, ◌++◌, List, [], ◌∷◌, length, Bool, Vec, Global, append_assoc, append-nil, refl, sym, ap, ◌∙◌, arith}
use Rattle.iasl_messages.specs.declared.place.Place.{Place}
use Rattle.iasl_messages.specs.declared.message.Message.{Message}
use Rattle.asl_tree.specs.declared.path.Path.{Path}
use Rattle.asl_tree.specs.declared.term.Op.{Op}
use Rattle.asl_tree.specs.declared.term.Control.{Control}
use Rattle.asl_tree.specs.declared.term.Declaration.{Declaration}
use Rattle.asl_tree.specs.declared.term.Node.{Node}
use Rattle.asl_tree.specs.declared.term.Term.{Term}
use Rattle.asl_tree.specs.declared.term.Term as D
use Rattle.asl_tree.specs.declared.term.Term.TheVariants as V
use Rattle.term_plans.specs.Plans.{Plans, a_call, a_form, plan_of, plans_of, number_of}
use Rattle.term_plans.proofs.Plans.{plan_form, plan_call}
use Rattle.term_plans.proofs.Lists.{number_form, number_call}
use Rattle.asl_numbers.specs.Numbers.{inside, nodes}
use Rattle.statement_checks.specs.declared.check.Around.{Around}
use Rattle.statement_checks.specs.Statements.{around_body, misses_loop, told, term_errors, statement_errors}

-- what is no number counts as 0
pub no_number : (t : Term) → ((n : ℕ) → t ≡ D.Integer n → ⊥) → number_of (plan_of t) ≡ 0
unfolding plan_of
no_number t not_integer = by_layer (D.out-Term t) (sym (D.roll-out-Term t))
  where
    number_in : Term → ℕ
    number_in u = number_of (plan_of u)

    by_layer : (f : D.Term-F Term Node) → t ≡ D.roll-Term f → number_of (plan_of t) ≡ 0
    by_layer (D.Term-F.Integer n) e = absurd (not_integer n (e ∙ V.rolls-Integer n))
    by_layer (D.Term-F.Text text) e = ap number_in (e ∙ V.rolls-Text text)
    by_layer (D.Term-F.Fill bytes named) e = ap number_in (e ∙ V.rolls-Fill bytes named)
    by_layer (D.Term-F.Word word) e = ap number_in (e ∙ V.rolls-Word word)
    by_layer (D.Term-F.Local n) e = ap number_in (e ∙ V.rolls-Local n)
    by_layer (D.Term-F.Arg n) e = ap number_in (e ∙ V.rolls-Arg n)
    by_layer (D.Term-F.Debug) e = ap number_in (e ∙ V.rolls-Debug)
    by_layer (D.Term-F.Omitted) e = ap number_in (e ∙ V.rolls-Omitted)
    by_layer (D.Term-F.Name p) e = ap number_in (e ∙ V.rolls-Name p)
    by_layer (D.Term-F.Unit p n) e = ap number_in (e ∙ V.rolls-Unit p n)
    by_layer (D.Term-F.Skip n) e = ap number_in (e ∙ V.rolls-Skip n)
    by_layer (D.Term-F.Offset n) e = ap number_in (e ∙ V.rolls-Offset n)
    by_layer (D.Term-F.Access access attribute count) e = ap number_in (e ∙ V.rolls-Access access attribute count)
    by_layer (D.Term-F.Call p v) e = ap number_in (e ∙ V.rolls-Call p v) ∙ number_call p v
    by_layer (D.Term-F.Form o v w) e = ap number_in (e ∙ V.rolls-Form o v w) ∙ number_form o v w

module _ (around : Around) (place : Place) where
  errors_in : Term → List Message
  errors_in t = term_errors around place (plan_of t)

  -- nothing is wrong with a term that is no argument and has no terms inside
  pub nothing_wrong : (t : Term) → ((n : ℕ) → t ≡ D.Arg n → ⊥) → ((p : Path) (v : Vec Node Global) → t ≡ D.Call p v → ⊥) → ((o : Op) (v w : Vec Node Global) → t ≡ D.Form o v w → ⊥) → term_errors around place (plan_of t) ≡ []
  unfolding plan_of errors_in
  nothing_wrong t not_arg not_call not_form = by_layer (D.out-Term t) (sym (D.roll-out-Term t))
    where
      by_layer : (f : D.Term-F Term Node) → t ≡ D.roll-Term f → term_errors around place (plan_of t) ≡ []
      by_layer (D.Term-F.Arg n) e = absurd (not_arg n (e ∙ V.rolls-Arg n))
      by_layer (D.Term-F.Call p v) e = absurd (not_call p v (e ∙ V.rolls-Call p v))
      by_layer (D.Term-F.Form o v w) e = absurd (not_form o v w (e ∙ V.rolls-Form o v w))
      by_layer (D.Term-F.Integer n) e = ap errors_in (e ∙ V.rolls-Integer n)
      by_layer (D.Term-F.Text text) e = ap errors_in (e ∙ V.rolls-Text text)
      by_layer (D.Term-F.Fill bytes named) e = ap errors_in (e ∙ V.rolls-Fill bytes named)
      by_layer (D.Term-F.Word word) e = ap errors_in (e ∙ V.rolls-Word word)
      by_layer (D.Term-F.Local n) e = ap errors_in (e ∙ V.rolls-Local n)
      by_layer (D.Term-F.Debug) e = ap errors_in (e ∙ V.rolls-Debug)
      by_layer (D.Term-F.Omitted) e = ap errors_in (e ∙ V.rolls-Omitted)
      by_layer (D.Term-F.Name p) e = ap errors_in (e ∙ V.rolls-Name p)
      by_layer (D.Term-F.Unit p n) e = ap errors_in (e ∙ V.rolls-Unit p n)
      by_layer (D.Term-F.Skip n) e = ap errors_in (e ∙ V.rolls-Skip n)
      by_layer (D.Term-F.Offset n) e = ap errors_in (e ∙ V.rolls-Offset n)
      by_layer (D.Term-F.Access access attribute count) e = ap errors_in (e ∙ V.rolls-Access access attribute count)

-- the plan of a call and of a form, by the nodes in it
pub call_is : (t : Term) (path : Path) (args : Vec Node Global) (xs : List Node) → t ≡ D.Call path args → xs ≡ args.items → plan_of t ≡ a_call path (plans_of xs)
call_is t path args xs e same = ap plan_of e ∙ plan_call path args ∙ ap (λ ns. a_call path (plans_of ns)) (sym same)

pub form_is : (t : Term) (op : Op) (args body : Vec Node Global) (xs ys : List Node) → t ≡ D.Form op args body → xs ≡ args.items → ys ≡ body.items → plan_of t ≡ a_form op (plans_of xs) (plans_of ys)
form_is t op args body xs ys e a b =
    ap plan_of e ∙ plan_form op args body ∙ ap (λ ns. a_form op (plans_of ns) (plans_of body.items)) (sym a) ∙ ap (λ ns. a_form op (plans_of xs) (plans_of ns)) (sym b)

pub inside_call : (t : Term) (path : Path) (args : Vec Node Global) (xs : List Node) → t ≡ D.Call path args → xs ≡ args.items → inside (plan_of t) ≡ nodes (plans_of xs)
inside_call t path args xs e same = ap inside (call_is t path args xs e same)

pub inside_form : (t : Term) (op : Op) (args body : Vec Node Global) (xs ys : List Node) → t ≡ D.Form op args body → xs ≡ args.items → ys ≡ body.items → inside (plan_of t) ≡ nodes (plans_of xs) + nodes (plans_of ys)
inside_form t op args body xs ys e a b = ap inside (form_is t op args body xs ys e a b)

-- the messages of a form, one part after another
pub form_told : (around inner : Around) (place : Place) (op : Op) (args body : Plans) (wrong : Bool) (old own first new : List Message)
    → wrong ≡ misses_loop op around → inner ≡ around_body op args around
    → own ≡ old ++ told wrong 6052 place → first ≡ own ++ statement_errors around args → new ≡ first ++ statement_errors inner body
    → new ≡ old ++ term_errors around place (a_form op args body)
form_told around inner place op args body wrong old own first new w i p q r =
    let mine = told (misses_loop op around) 6052 place in
    let before = statement_errors around args in
    let after = statement_errors (around_body op args around) body in
    let start : own ≡ old ++ mine = p ∙ ap (λ b. old ++ told b 6052 place) w in
    r ∙ ap (λ k. first ++ statement_errors k body) i
    ∙ ap (λ ms. ms ++ after) (q ∙ ap (λ ms. ms ++ before) start ∙ append_assoc old mine before)
    ∙ append_assoc old (mine ++ before) after
    ∙ ap (λ ms. old ++ ms) (append_assoc mine before after)

-- the same of a form in which the terms stand in what it stands in itself
pub plain_told : (around : Around) (all old first new : List Message) (args body : Plans) → all ≡ statement_errors around args ++ statement_errors around body
    → first ≡ old ++ statement_errors around args → new ≡ first ++ statement_errors around body → new ≡ old ++ all
plain_told around all old first new args body e q r =
    let before = statement_errors around args in
    let after = statement_errors around body in
    r ∙ ap (λ ms. ms ++ after) q ∙ append_assoc old before after ∙ ap (λ ms. old ++ ms) (sym e)

-- what is no declaration and no statement
pub plain_form : (op : Op) → ((d : Declaration) → op ≡ Op.Declaration d → ⊥) → ((k : Control) → op ≡ Op.Control k → ⊥) → (place : Place) (args body : Plans) (around : Around)
    → term_errors around place (a_form op args body) ≡ statement_errors around args ++ statement_errors around body
plain_form (Op.Declaration d) not_declaration not_control place args body around = absurd (not_declaration d refl)
plain_form (Op.Control k) not_declaration not_control place args body around = absurd (not_control k refl)
plain_form op not_declaration not_control place args body around = refl

-- nothing is told of no terms
pub none_behind : (around : Around) (ns : List Node) (ms : List Message) → length ns ≡ 0 → ms ≡ ms ++ statement_errors around (plans_of ns)
unfolding plans_of
none_behind around [] ms e = sym (append-nil ms)
none_behind around (n ∷ ns) ms e = absurd (omega (arith, e))
