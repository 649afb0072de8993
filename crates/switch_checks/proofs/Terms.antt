-- Terms as plans.
use Rattle.std.proofs.Common.{◌≡◌, ℕ, ◌++◌, List, [], ◌∷◌, Option, Some, None, true, false, Vec, Global, append_assoc, subst, refl, sym, ap, ◌∙◌}
use Rattle.std.specs.Prelude.{if◌then◌else◌}
use Rattle.acpi_values.specs.Paths.{NameSeg}
use Rattle.acpi_values.specs.declared.width.Width.{Width}
use Rattle.iasl_messages.specs.declared.place.Place.{Place}
use Rattle.iasl_messages.specs.declared.message.Message.{Message}
use Rattle.asl_tree.specs.declared.path.Path.{Path}
use Rattle.asl_tree.specs.declared.term.Op.{Op}
use Rattle.asl_tree.specs.declared.term.Word.{Word}
use Rattle.asl_tree.specs.declared.term.NamedDescriptor.{NamedDescriptor}
use Rattle.asl_tree.specs.declared.term.Node.{Node}
use Rattle.asl_tree.specs.declared.term.Term.{Term}
use Rattle.asl_tree.specs.declared.term.Term as D
use Rattle.asl_tree.specs.declared.term.Term.TheVariants as V
use Rattle.term_plans.specs.Plans.{Plan, an_integer, a_text, a_fill, a_word, a_local, an_arg, debug, omitted, a_name, a_unit, a_skip, an_offset, an_access, a_call, a_form, Plans, plan_of, plans_of}
use Rattle.term_plans.proofs.Plans.{plan_form, plan_call}
use Rattle.term_plans.proofs.Terms.{integer_term, text_term}
use Rattle.statement_checks.proofs.Terms.{form_is}
use Rattle.switch_loops.specs.Switched.{is_switch}
use Rattle.switch_checks.specs.Values.{byte_of, alone_bytes, size_in, is_package, form_value, value_of}
use Rattle.switch_checks.specs.Repeats.{found_in, is_case, value_at, members_at, first_members, case_values, switch_repeats, term_repeats, repeated_values}
use Rattle.switch_checks.specs.Locals.{is_method, switch_in, first_switch}

-- what holds of each plan that a term may have
pub of_plans : (P : Plan → Type 0) (t : Term)
    → ((n : ℕ) → t ≡ D.Integer n → P (an_integer n)) → ((s : List ℕ) → t ≡ D.Text s → P (a_text s)) → ((s : List ℕ) (ds : List NamedDescriptor) → t ≡ D.Fill s ds → P (a_fill s ds))
    → ((o : Op) (v w : Vec Node Global) → t ≡ D.Form o v w → P (a_form o (plans_of v.items) (plans_of w.items)))
    → ((w : Word) → P (a_word w)) → ((n : ℕ) → P (a_local n)) → ((n : ℕ) → P (an_arg n)) → P debug → P omitted → ((p : Path) → P (a_name p))
    → ((s : NameSeg) (n : ℕ) → P (a_unit s n)) → ((n : ℕ) → P (a_skip n)) → ((n : ℕ) → P (an_offset n)) → ((access attribute : ℕ) (count : Option ℕ) → P (an_access access attribute count)) → ((p : Path) (qs : Plans) → P (a_call p qs)) → P (plan_of t)
unfolding plan_of
of_plans P t integer text fill form word local arg debug' omitted' name unit skip offset access call = by_layer (D.out-Term t) (sym (D.roll-out-Term t))
  where
    at : (u : Term) → t ≡ u → P (plan_of u) → P (plan_of t)
    at u e p = subst (λ v. P (plan_of v)) (sym e) p

    by_layer : (f : D.Term-F Term Node) → t ≡ D.roll-Term f → P (plan_of t)
    by_layer (D.Term-F.Integer n) e = let q = e ∙ V.rolls-Integer n in at (D.Integer n) q (integer n q)
    by_layer (D.Term-F.Text s) e = let q = e ∙ V.rolls-Text s in at (D.Text s) q (text s q)
    by_layer (D.Term-F.Fill s ds) e = let q = e ∙ V.rolls-Fill s ds in at (D.Fill s ds) q (fill s ds q)
    by_layer (D.Term-F.Word w) e = at (D.Word w) (e ∙ V.rolls-Word w) (word w)
    by_layer (D.Term-F.Local n) e = at (D.Local n) (e ∙ V.rolls-Local n) (local n)
    by_layer (D.Term-F.Arg n) e = at (D.Arg n) (e ∙ V.rolls-Arg n) (arg n)
    by_layer (D.Term-F.Debug) e = at D.Debug (e ∙ V.rolls-Debug) debug'
    by_layer (D.Term-F.Omitted) e = at D.Omitted (e ∙ V.rolls-Omitted) omitted'
    by_layer (D.Term-F.Name p) e = at (D.Name p) (e ∙ V.rolls-Name p) (name p)
    by_layer (D.Term-F.Unit s n) e = at (D.Unit s n) (e ∙ V.rolls-Unit s n) (unit s n)
    by_layer (D.Term-F.Skip n) e = at (D.Skip n) (e ∙ V.rolls-Skip n) (skip n)
    by_layer (D.Term-F.Offset n) e = at (D.Offset n) (e ∙ V.rolls-Offset n) (offset n)
    by_layer (D.Term-F.Access a b c) e = at (D.Access a b c) (e ∙ V.rolls-Access a b c) (access a b c)
    by_layer (D.Term-F.Call p v) e = at (D.Call p v) (e ∙ V.rolls-Call p v) (subst P (sym (plan_call p v)) (call p (plans_of v.items)))
    by_layer (D.Term-F.Form o v w) e = let q = e ∙ V.rolls-Form o v w in at (D.Form o v w) q (subst P (sym (plan_form o v w)) (form o v w q))

-- ---- what a value is

pub no_size : (t : Term) → ((n : ℕ) → t ≡ D.Integer n → ⊥) → size_in (plan_of t) ≡ None
no_size t not_integer =
    of_plans (λ p. size_in p ≡ None) t (λ n e. absurd (not_integer n e)) (λ s e. refl) (λ s ds e. refl) (λ o v w e. refl) (λ w. refl) (λ n. refl) (λ n. refl) refl refl (λ p. refl) (λ s n. refl) (λ n. refl) (λ n. refl) (λ a b c. refl) (λ p qs. refl)

-- what is no string and no contents is one byte
pub byte_alone : (t : Term) → ((s : List ℕ) → t ≡ D.Text s → ⊥) → ((s : List ℕ) (ds : List NamedDescriptor) → t ≡ D.Fill s ds → ⊥) → byte_of (plan_of t) ∷ [] ≡ alone_bytes (plan_of t)
byte_alone t not_text not_fill =
    of_plans (λ p. byte_of p ∷ [] ≡ alone_bytes p) t (λ n e. refl) (λ s e. absurd (not_text s e)) (λ s ds e. absurd (not_fill s ds e)) (λ o v w e. refl) (λ w. refl) (λ n. refl) (λ n. refl) refl refl (λ p. refl) (λ s n. refl) (λ n. refl) (λ n. refl) (λ a b c. refl) (λ p qs. refl)

pub form_value_is : (width : Width) (t : Term) (op : Op) (args body : Vec Node Global) (xs ys : List Node) → t ≡ D.Form op args body → xs ≡ args.items → ys ≡ body.items
    → form_value width op (plans_of xs) (plans_of ys) ≡ value_of width (plan_of t)
form_value_is width t op args body xs ys e a b = sym (ap (value_of width) (form_is t op args body xs ys e a b))

pub no_value : (width : Width) (t : Term) → ((n : ℕ) → t ≡ D.Integer n → ⊥) → ((s : List ℕ) → t ≡ D.Text s → ⊥) → ((o : Op) (v w : Vec Node Global) → t ≡ D.Form o v w → ⊥) → value_of width (plan_of t) ≡ None
no_value width t not_integer not_text not_form =
    of_plans (λ p. value_of width p ≡ None) t (λ n e. absurd (not_integer n e)) (λ s e. absurd (not_text s e)) (λ s ds e. refl) (λ o v w e. absurd (not_form o v w e)) (λ w. refl) (λ n. refl) (λ n. refl) refl refl (λ p. refl)
    (λ s n. refl) (λ n. refl) (λ n. refl) (λ a b c. refl) (λ p qs. refl)

-- ---- what a term says of values

module _ (width : Width) (place : Place) where
  pub package_members : (t : Term) (op : Op) (args body : Vec Node Global) (ys : List Node) → t ≡ D.Form op args body → ys ≡ body.items → is_package op ≡ true → members_at width place (plan_of t) ≡ found_in (value_at width) (plans_of ys)
  package_members t op args body ys e b holds =
      ap (members_at width place) (form_is t op args body args.items ys e refl b)
      ∙ ap (λ c. if c then found_in (value_at width) (plans_of ys) else value_at width place (a_form op (plans_of args.items) (plans_of ys))) holds

  pub form_alone_members : (t : Term) (op : Op) (args body : Vec Node Global) → t ≡ D.Form op args body → is_package op ≡ false → members_at width place (plan_of t) ≡ value_at width place (plan_of t)
  form_alone_members t op args body e fails =
      let is = form_is t op args body args.items body.items e refl refl in
      ap (members_at width place) is
      ∙ ap (λ c. if c then found_in (value_at width) (plans_of body.items) else value_at width place (a_form op (plans_of args.items) (plans_of body.items))) fails
      ∙ sym (ap (value_at width place) is)

  pub alone_members : (t : Term) → ((o : Op) (v w : Vec Node Global) → t ≡ D.Form o v w → ⊥) → members_at width place (plan_of t) ≡ value_at width place (plan_of t)
  alone_members t not_form =
      of_plans (λ p. members_at width place p ≡ value_at width place p) t (λ n e. refl) (λ s e. refl) (λ s ds e. refl) (λ o v w e. absurd (not_form o v w e)) (λ w. refl) (λ n. refl) (λ n. refl) refl refl (λ p. refl)
      (λ s n. refl) (λ n. refl) (λ n. refl) (λ a b c. refl) (λ p qs. refl)

  pub case_members : (t : Term) (op : Op) (args body : Vec Node Global) (xs : List Node) → t ≡ D.Form op args body → xs ≡ args.items → is_case op ≡ true → case_values width place (plan_of t) ≡ first_members width (plans_of xs)
  case_members t op args body xs e a holds =
      ap (case_values width place) (form_is t op args body xs body.items e a refl)
      ∙ ap (λ c. if c then first_members width (plans_of xs) else []) holds

  pub other_members : (t : Term) (op : Op) (args body : Vec Node Global) → t ≡ D.Form op args body → is_case op ≡ false → case_values width place (plan_of t) ≡ []
  other_members t op args body e fails =
      ap (case_values width place) (form_is t op args body args.items body.items e refl refl)
      ∙ ap (λ c. if c then first_members width (plans_of args.items) else []) fails

  pub no_members : (t : Term) → ((o : Op) (v w : Vec Node Global) → t ≡ D.Form o v w → ⊥) → case_values width place (plan_of t) ≡ []
  no_members t not_form =
      of_plans (λ p. case_values width place p ≡ []) t (λ n e. refl) (λ s e. refl) (λ s ds e. refl) (λ o v w e. absurd (not_form o v w e)) (λ w. refl) (λ n. refl) (λ n. refl) refl refl (λ p. refl)
      (λ s n. refl) (λ n. refl) (λ n. refl) (λ a b c. refl) (λ p qs. refl)

-- ---- what is told of a term

module _ (width : Width) where
  pub none_repeated : (t : Term) → ((o : Op) (v w : Vec Node Global) → t ≡ D.Form o v w → ⊥) → term_repeats width (plan_of t) ≡ []
  none_repeated t not_form =
      of_plans (λ p. term_repeats width p ≡ []) t (λ n e. refl) (λ s e. refl) (λ s ds e. refl) (λ o v w e. absurd (not_form o v w e)) (λ w. refl) (λ n. refl) (λ n. refl) refl refl (λ p. refl)
      (λ s n. refl) (λ n. refl) (λ n. refl) (λ a b c. refl) (λ p qs. refl)

  pub form_repeated : (t : Term) (op : Op) (args body : Vec Node Global) (xs ys : List Node) (old own new : List Message) → t ≡ D.Form op args body → xs ≡ body.items → ys ≡ body.items
      → own ≡ old ++ switch_repeats width op (plans_of xs) → new ≡ own ++ repeated_values width (plans_of ys) → new ≡ old ++ term_repeats width (plan_of t)
  form_repeated t op args body xs ys old own new e a b p q =
      let mine = switch_repeats width op (plans_of ys) in
      let after = repeated_values width (plans_of ys) in
      q ∙ ap (λ ms. ms ++ after) (p ∙ ap (λ ns. old ++ switch_repeats width op (plans_of ns)) (a ∙ sym b))
      ∙ append_assoc old mine after
      ∙ ap (λ x. old ++ term_repeats width x) (sym (form_is t op args body args.items ys e refl b))

-- ---- where a Switch stands

module _ (place : Place) where
  pub no_switch : (t : Term) → ((o : Op) (v w : Vec Node Global) → t ≡ D.Form o v w → ⊥) → switch_in place (plan_of t) ≡ None
  no_switch t not_form =
      of_plans (λ p. switch_in place p ≡ None) t (λ n e. refl) (λ s e. refl) (λ s ds e. refl) (λ o v w e. absurd (not_form o v w e)) (λ w. refl) (λ n. refl) (λ n. refl) refl refl (λ p. refl)
      (λ s n. refl) (λ n. refl) (λ n. refl) (λ a b c. refl) (λ p qs. refl)

  pub form_switch : (t : Term) (op : Op) (args body : Vec Node Global) (ys : List Node) → t ≡ D.Form op args body → ys ≡ body.items → switch_in place (plan_of t) ≡ switch_in place (a_form op (plans_of args.items) (plans_of ys))
  form_switch t op args body ys e b = ap (switch_in place) (form_is t op args body args.items ys e refl b)

  pub switch_here : (t : Term) (op : Op) (args body : Vec Node Global) → t ≡ D.Form op args body → is_switch op ≡ true → Some place ≡ switch_in place (plan_of t)
  switch_here t op args body e here =
      ap (λ b. if b then Some place else if is_method op then None else first_switch (plans_of body.items)) (sym here) ∙ sym (form_switch t op args body body.items e refl)

  pub method_here : (t : Term) (op : Op) (args body : Vec Node Global) → t ≡ D.Form op args body → is_switch op ≡ false → is_method op ≡ true → None ≡ switch_in place (plan_of t)
  method_here t op args body e other here =
      ap (λ b. if b then None else first_switch (plans_of body.items)) (sym here)
      ∙ ap (λ b. if b then Some place else if is_method op then None else first_switch (plans_of body.items)) (sym other) ∙ sym (form_switch t op args body body.items e refl)

  pub inside_here : (t : Term) (op : Op) (args body : Vec Node Global) (ys : List Node) → t ≡ D.Form op args body → ys ≡ body.items → is_switch op ≡ false → is_method op ≡ false → first_switch (plans_of ys) ≡ switch_in place (plan_of t)
  inside_here t op args body ys e b other outer =
      ap (λ c. if c then None else first_switch (plans_of ys)) (sym outer)
      ∙ ap (λ c. if c then Some place else if is_method op then None else first_switch (plans_of ys)) (sym other) ∙ sym (form_switch t op args body ys e b)

pub ruleset value_rules = (integer_term, text_term, form_value_is, no_value)
