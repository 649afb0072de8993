-- Terms as plans, and nodes one after another.
use Rattle.std.proofs.Common.{◌≡◌, ℕ, zero, suc, ◌+◌, ◌<◌, ◌≤◌, length, get_or, drop, arith, List, [], ◌∷◌, Vec, Global, subst, refl, sym, ap, ◌∙◌}
use Rattle.std.specs.Prelude.{Option}
use Rattle.acpi_values.specs.Paths.{NameSeg}
use Rattle.asl_tree.specs.declared.path.Path.{Path}
use Rattle.asl_tree.specs.declared.term.Op.{Op}
use Rattle.asl_tree.specs.declared.term.Word.{Word}
use Rattle.asl_tree.specs.declared.term.NamedDescriptor.{NamedDescriptor}
use Rattle.asl_tree.specs.declared.term.Node.{Node}
use Rattle.asl_tree.specs.declared.term.Term.{Term}
use Rattle.asl_tree.specs.declared.term.Term as D
use Rattle.asl_tree.specs.declared.term.Term.TheVariants as V
use Rattle.term_plans.specs.Plans.{Plan, an_integer, a_text, a_fill, a_word, a_local, an_arg, debug, omitted, a_name, a_unit, a_skip, an_offset, an_access, a_call, a_form, no_plans, plan, plan_of, plans_of}
use Rattle.term_plans.proofs.Plans.{plan_form, plan_call}
use Rattle.asl_numbers.specs.Numbers.{inside, nodes}

-- the plan of a call and of a form, by the nodes in it
pub call_is : (t : Term) (path : Path) (args : Vec Node Global) (xs : List Node) → t ≡ D.Call path args → xs ≡ args.items → plan_of t ≡ a_call path (plans_of xs)
call_is t path args xs e same = ap plan_of e ∙ plan_call path args ∙ ap (λ ns. a_call path (plans_of ns)) (sym same)

pub form_is : (t : Term) (op : Op) (args body : Vec Node Global) (xs ys : List Node) → t ≡ D.Form op args body → xs ≡ args.items → ys ≡ body.items → plan_of t ≡ a_form op (plans_of xs) (plans_of ys)
form_is t op args body xs ys e a b =
    ap plan_of e ∙ plan_form op args body ∙ ap (λ ns. a_form op (plans_of ns) (plans_of body.items)) (sym a) ∙ ap (λ ns. a_form op (plans_of xs) (plans_of ns)) (sym b)

pub inside_call : (t : Term) (path : Path) (args : Vec Node Global) (xs : List Node) → t ≡ D.Call path args → xs ≡ args.items → inside (plan_of t) ≡ nodes (plans_of xs)
inside_call t path args xs e same = ap inside (call_is t path args xs e same)

pub inside_form : (t : Term) (op : Op) (args body : Vec Node Global) (xs ys : List Node) → t ≡ D.Form op args body → xs ≡ args.items → ys ≡ body.items → inside (plan_of t) ≡ nodes (plans_of xs) + nodes (plans_of ys)
inside_form t op args body xs ys e a b = ap inside (form_is t op args body xs ys e a b)

-- what holds of each term that this one may be
pub by_term : (P : Term → Type 0) (t : Term)
    → ((n : ℕ) → t ≡ D.Integer n → P (D.Integer n)) → ((s : List ℕ) → t ≡ D.Text s → P (D.Text s)) → ((s : List ℕ) (named : List NamedDescriptor) → t ≡ D.Fill s named → P (D.Fill s named)) → ((w : Word) → t ≡ D.Word w → P (D.Word w))
    → ((n : ℕ) → t ≡ D.Local n → P (D.Local n)) → ((n : ℕ) → t ≡ D.Arg n → P (D.Arg n)) → (t ≡ D.Debug → P D.Debug) → (t ≡ D.Omitted → P D.Omitted) → ((p : Path) → t ≡ D.Name p → P (D.Name p))
    → ((s : NameSeg) (n : ℕ) → t ≡ D.Unit s n → P (D.Unit s n)) → ((n : ℕ) → t ≡ D.Skip n → P (D.Skip n)) → ((n : ℕ) → t ≡ D.Offset n → P (D.Offset n))
    → ((access attribute : ℕ) (count : Option ℕ) → t ≡ D.Access access attribute count → P (D.Access access attribute count))
    → ((p : Path) (v : Vec Node Global) → t ≡ D.Call p v → P (D.Call p v)) → ((o : Op) (v w : Vec Node Global) → t ≡ D.Form o v w → P (D.Form o v w)) → P t
by_term P t integer text fill word local arg debug' omitted' name unit skip offset access call form = by_layer (D.out-Term t) (sym (D.roll-out-Term t))
  where
    at : (u : Term) → t ≡ u → P u → P t
    at u e p = subst P (sym e) p

    by_layer : (f : D.Term-F Term Node) → t ≡ D.roll-Term f → P t
    by_layer (D.Term-F.Integer n) e = let q = e ∙ V.rolls-Integer n in at (D.Integer n) q (integer n q)
    by_layer (D.Term-F.Text s) e = let q = e ∙ V.rolls-Text s in at (D.Text s) q (text s q)
    by_layer (D.Term-F.Fill s named) e = let q = e ∙ V.rolls-Fill s named in at (D.Fill s named) q (fill s named q)
    by_layer (D.Term-F.Word w) e = let q = e ∙ V.rolls-Word w in at (D.Word w) q (word w q)
    by_layer (D.Term-F.Local n) e = let q = e ∙ V.rolls-Local n in at (D.Local n) q (local n q)
    by_layer (D.Term-F.Arg n) e = let q = e ∙ V.rolls-Arg n in at (D.Arg n) q (arg n q)
    by_layer (D.Term-F.Debug) e = let q = e ∙ V.rolls-Debug in at D.Debug q (debug' q)
    by_layer (D.Term-F.Omitted) e = let q = e ∙ V.rolls-Omitted in at D.Omitted q (omitted' q)
    by_layer (D.Term-F.Name p) e = let q = e ∙ V.rolls-Name p in at (D.Name p) q (name p q)
    by_layer (D.Term-F.Unit s n) e = let q = e ∙ V.rolls-Unit s n in at (D.Unit s n) q (unit s n q)
    by_layer (D.Term-F.Skip n) e = let q = e ∙ V.rolls-Skip n in at (D.Skip n) q (skip n q)
    by_layer (D.Term-F.Offset n) e = let q = e ∙ V.rolls-Offset n in at (D.Offset n) q (offset n q)
    by_layer (D.Term-F.Access a b c) e = let q = e ∙ V.rolls-Access a b c in at (D.Access a b c) q (access a b c q)
    by_layer (D.Term-F.Call p v) e = let q = e ∙ V.rolls-Call p v in at (D.Call p v) q (call p v q)
    by_layer (D.Term-F.Form o v w) e = let q = e ∙ V.rolls-Form o v w in at (D.Form o v w) q (form o v w q)

-- what holds of the plans of all terms but calls and forms
pub of_leaves : (P : Plan → Type 0)
    → ((n : ℕ) → P (an_integer n)) → ((s : List ℕ) → P (a_text s)) → ((s : List ℕ) (named : List NamedDescriptor) → P (a_fill s named)) → ((w : Word) → P (a_word w)) → ((n : ℕ) → P (a_local n)) → ((n : ℕ) → P (an_arg n)) → P debug → P omitted
    → ((p : Path) → P (a_name p)) → ((s : NameSeg) (n : ℕ) → P (a_unit s n)) → ((n : ℕ) → P (a_skip n)) → ((n : ℕ) → P (an_offset n)) → ((access attribute : ℕ) (count : Option ℕ) → P (an_access access attribute count))
    → (t : Term) → ((p : Path) (v : Vec Node Global) → t ≡ D.Call p v → ⊥) → ((o : Op) (v w : Vec Node Global) → t ≡ D.Form o v w → ⊥) → P (plan_of t)
unfolding plan_of
of_leaves P integer text fill word local arg debug' omitted' name unit skip offset access t not_call not_form =
    by_term (λ u. P (plan_of u)) t (λ n e. integer n) (λ s e. text s) (λ s named e. fill s named) (λ w e. word w) (λ n e. local n) (λ n e. arg n) (λ e. debug') (λ e. omitted') (λ p e. name p)
    (λ s n e. unit s n) (λ n e. skip n) (λ n e. offset n) (λ a b c e. access a b c) (λ p v e. absurd (not_call p v e)) (λ o v w e. absurd (not_form o v w e))

-- a leaf has nothing inside
pub none_inside : (t : Term) → ((p : Path) (v : Vec Node Global) → t ≡ D.Call p v → ⊥) → ((o : Op) (v w : Vec Node Global) → t ≡ D.Form o v w → ⊥) → inside (plan_of t) ≡ 0
none_inside =
    of_leaves (λ p. inside p ≡ 0) (λ n. refl) (λ s. refl) (λ s named. refl) (λ w. refl) (λ n. refl) (λ n. refl) refl refl (λ p. refl) (λ s n. refl) (λ n. refl) (λ n. refl) (λ a b c. refl)

-- ---- nodes one after another

pub plans_at : (ns : List Node) (i : ℕ) (node : Node) → i < length ns → node ≡ get_or ns i node → plans_of (drop i ns) ≡ plan node.place (plan_of node.term) (plans_of (drop (suc i) ns))
unfolding plans_of
plans_at [] i node lt e = absurd (omega (arith, lt))
plans_at (n ∷ ns) zero node lt e = ap (λ (m : Node). plan m.place (plan_of m.term) (plans_of ns)) (sym e)
plans_at (n ∷ ns) (suc i) node lt e = plans_at ns i node (omega (arith, lt)) e

pub no_more : (ns : List Node) (i : ℕ) → length ns ≤ i → plans_of (drop i ns) ≡ no_plans
unfolding plans_of
no_more [] zero le = refl
no_more [] (suc i) le = refl
no_more (n ∷ ns) zero le = absurd (omega (arith, le))
no_more (n ∷ ns) (suc i) le = no_more ns i (omega (arith, le))

pub all_left : (ns : List Node) → plans_of (drop 0 ns) ≡ plans_of ns
all_left [] = refl
all_left (n ∷ ns) = refl

fewer : (ns : List Node) (i : ℕ) → nodes (plans_of (drop i ns)) ≤ nodes (plans_of ns)
unfolding plans_of
fewer [] zero = omega arith
fewer [] (suc i) = omega arith
fewer (n ∷ ns) zero = omega arith
fewer (n ∷ ns) (suc i) = let le = fewer ns i in omega (arith, le)

-- fewer nodes stand inside one of some nodes than these are
pub smaller : (ns : List Node) (i : ℕ) (node : Node) → i < length ns → node ≡ get_or ns i node → inside (plan_of node.term) < nodes (plans_of ns)
smaller ns i node lt e =
    let here : nodes (plans_of (drop i ns)) ≡ suc (inside (plan_of node.term) + nodes (plans_of (drop (suc i) ns))) = ap nodes (plans_at ns i node lt e) in
    let le = fewer ns i in
    omega (arith, here, le)
