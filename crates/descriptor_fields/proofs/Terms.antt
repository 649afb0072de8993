-- What the parts of a term come to.
use Rattle.std.proofs.Common.{◌≡◌, ℕ, ◌<◌, ◌≤◌, length, get_or, Bool, true, false, None, List, [], ◌∷◌, ◌++◌, append-nil, append_assoc, Vec, Global, refl, sym, ap, ◌∙◌, arith}
use Rattle.std.specs.Prelude.{nat_lt, ◌&&◌, ◌||◌, if◌then◌else◌}
use Rattle.std.proofs.lemmas.Bool.Decides.{nat_tests}
use Rattle.asl_tree.specs.declared.path.Path.{Path}
use Rattle.asl_tree.specs.declared.term.Op.{Op}
use Rattle.asl_tree.specs.declared.term.Declaration.{Declaration}
use Rattle.asl_tree.specs.declared.term.NamedDescriptor.{NamedDescriptor}
use Rattle.asl_tree.specs.declared.term.Node.{Node}
use Rattle.asl_tree.specs.declared.term.Term.{Term}
use Rattle.asl_tree.specs.declared.term.Term as D
use Rattle.asl_tree.specs.declared.term.Term.TheVariants as V
use Rattle.term_plans.specs.Plans.{Plans, no_plans, plan, a_name, a_fill, a_form, plan_of, plans_of, plan_at, join}
use Rattle.term_plans.specs.Plans.{named_of}
use Rattle.term_plans.proofs.Plans.{plan_form, plan_call, no_plans_are}
use Rattle.term_plans.proofs.Terms.{term_rules, fill_term}
use Rattle.term_plans.proofs.Lists.{push_is, at_some, at_none}
use Rattle.descriptor_fields.specs.Declaring.{has_terms, names_first, is_first, names_descriptor, names_descriptors, names_inside, names_among, alone, segment_path, declaration, opened, declaring, is_naming, declared_by, unless_declared, closed, stripped}
use Rattle.descriptor_fields.specs.Nodes.{own_entry, entries_inside, entries_among}

-- ---- what a term is not

abbrev pub NoCall : Term → Type 0
NoCall t = (path : Path) (args : Vec Node Global) → t ≡ D.Call path args → ⊥

abbrev pub NoForm : Term → Type 0
NoForm t = (o : Op) (args body : Vec Node Global) → t ≡ D.Form o args body → ⊥

abbrev pub NoFill : Term → Type 0
NoFill t = (bytes : List ℕ) (named : List NamedDescriptor) → t ≡ D.Fill bytes named → ⊥

pub a_call_is : (path : Path) (n : _) (args : _) → NoCall (D.Call' path n args) → ⊥
unfolding D.out-Term D.roll-Term denote.Hole.Carrier.out
a_call_is path n args other = other path _ (sym (D.roll-out-Term (D.Call' path n args)) ∙ V.rolls-Call path _)

pub a_form_is : (o : Op) (n : _) (args : _) (m : _) (body : _) → NoForm (D.Form' o n args m body) → ⊥
unfolding D.out-Term D.roll-Term denote.Hole.Carrier.out
a_form_is o n args m body other = other o _ _ (sym (D.roll-out-Term (D.Form' o n args m body)) ∙ V.rolls-Form o _ _)

-- ---- whether a term declares its own name first

pub first_form : (o : Op) (args body : Vec Node Global) → is_first (plan_of (D.Form o args body)) ≡ names_first o
first_form o args body = ap is_first (plan_form o args body)

pub first_other : (t : Term) → NoForm t → is_first (plan_of t) ≡ false
unfolding plan_of
first_other (D.Form' o n args m body) form = absurd (a_form_is o n args m body form)
first_other _ form = refl

pub ruleset first_rules = (first_form, first_other)

-- ---- the names in a term

pub inside_fill : (bytes : List ℕ) (named : List NamedDescriptor) → names_inside (plan_of (D.Fill bytes named)) ≡ named
inside_fill bytes named = ap names_inside (fill_term bytes named)

pub inside_call : (path : Path) (args : Vec Node Global) → names_inside (plan_of (D.Call path args)) ≡ names_among (plans_of args.items)
inside_call path args = ap names_inside (plan_call path args)

pub inside_form : (o : Op) (args body : Vec Node Global) → names_inside (plan_of (D.Form o args body)) ≡ names_among (plans_of args.items) ++ (if has_terms o then [] else names_among (plans_of body.items))
inside_form o args body = ap names_inside (plan_form o args body)

pub inside_other : (t : Term) → NoFill t → NoCall t → NoForm t → names_inside (plan_of t) ≡ []
unfolding plan_of
inside_other (D.Fill bytes named) fill call form = absurd (fill bytes named refl)
inside_other (D.Call' path n args) fill call form = absurd (a_call_is path n args call)
inside_other (D.Form' o n args m body) fill call form = absurd (a_form_is o n args m body form)
inside_other _ fill call form = refl

pub ruleset inside_rules = (inside_fill, inside_call, inside_form, inside_other, append-nil, append_assoc)

-- ---- the entries of the nodes in a term

pub entries_call : (terms : Bool) (path : Path) (args : Vec Node Global) → entries_inside terms (plan_of (D.Call path args)) ≡ entries_among false None (plans_of args.items)
entries_call terms path args = ap (entries_inside terms) (plan_call path args)

pub entries_form : (terms : Bool) (o : Op) (args body : Vec Node Global) → entries_inside terms (plan_of (D.Form o args body))
    ≡ entries_among false (own_entry terms (plan_of (D.Form o args body))) (plans_of args.items) ++ entries_among (terms && has_terms o) None (plans_of body.items)
entries_form terms o args body =
    let e = plan_form o args body in
    ap (entries_inside terms) e ∙ ap (λ p. entries_among false (own_entry terms p) (plans_of args.items) ++ entries_among (terms && has_terms o) None (plans_of body.items)) (sym e)

pub entries_other : (terms : Bool) (t : Term) → NoCall t → NoForm t → entries_inside terms (plan_of t) ≡ []
unfolding plan_of
entries_other terms (D.Call' path n args) call form = absurd (a_call_is path n args call)
entries_other terms (D.Form' o n args m body) call form = absurd (a_form_is o n args m body form)
entries_other terms _ call form = refl

pub ruleset entry_rules = (entries_call, entries_form, entries_other, append-nil, append_assoc)

-- ---- whether there is one

pub one_call : (path : Path) (args : Vec Node Global) → names_descriptor (plan_of (D.Call path args)) ≡ names_descriptors (plans_of args.items)
one_call path args = ap names_descriptor (plan_call path args)

pub one_form : (o : Op) (args body : Vec Node Global) → names_descriptor (plan_of (D.Form o args body)) ≡ (names_descriptors (plans_of args.items) || names_descriptors (plans_of body.items))
one_form o args body = ap names_descriptor (plan_form o args body)

pub one_fill : (bytes : List ℕ) (named : List NamedDescriptor) → names_descriptor (a_fill bytes named) ≡ nat_lt 0 (length named)
one_fill bytes [] = refl
one_fill bytes (named ∷ others) = sym (let e : nat_lt 0 (length (named ∷ others)) ≡ true = grind (arith, nat_tests) in e)

pub one_other : (t : Term) → NoFill t → NoCall t → NoForm t → names_descriptor (plan_of t) ≡ false
unfolding plan_of
one_other (D.Fill bytes named) fill call form = absurd (fill bytes named refl)
one_other (D.Call' path n args) fill call form = absurd (a_call_is path n args call)
one_other (D.Form' o n args m body) fill call form = absurd (a_form_is o n args m body form)
one_other _ fill call form = refl

pub ruleset one_rules = (fill_term, one_fill, one_call, one_form, one_other)

-- ---- terms that are made

pub ruleset push_rules = push_is

-- the term that declares a descriptor, by its two arguments
pub made_is : (args body : Vec Node Global) (named : NamedDescriptor) → plans_of args.items ≡ join (join no_plans (alone named.place (a_name (segment_path named.name)))) (alone named.place (a_fill [] (named ∷ []))) → body.items ≡ [] → plan_of (D.Form (Op.Declaration Declaration.Name) args body) ≡ declaration named
made_is args body named e f =
    plan_form (Op.Declaration Declaration.Name) args body ∙ ap (λ ps. a_form (Op.Declaration Declaration.Name) ps (plans_of body.items)) e
    ∙ ap (a_form (Op.Declaration Declaration.Name) (plan named.place (a_name (segment_path named.name)) (alone named.place (a_fill [] (named ∷ []))))) (ap plans_of f ∙ no_plans_are)

pub ruleset made_rules = (term_rules, made_is, no_plans_are)

-- terms whose bodies are changed
pub opened_true : (o : Op) (args body more : Vec Node Global) → has_terms o ≡ true → plans_of more.items ≡ declaring (plans_of body.items) → plan_of (D.Form o args more) ≡ opened (plan_of (D.Form o args body))
opened_true o args body more h e =
    plan_form o args more ∙ ap (a_form o (plans_of args.items)) (e ∙ sym (ap (λ b. if b then declaring (plans_of body.items) else plans_of body.items) h)) ∙ sym (ap opened (plan_form o args body))

pub opened_false : (o : Op) (args body : Vec Node Global) → has_terms o ≡ false → plan_of (D.Form o args body) ≡ opened (plan_of (D.Form o args body))
opened_false o args body h =
    plan_form o args body ∙ ap (a_form o (plans_of args.items)) (sym (ap (λ b. if b then declaring (plans_of body.items) else plans_of body.items) h)) ∙ sym (ap opened (plan_form o args body))

pub opened_other : (t : Term) → NoForm t → plan_of t ≡ opened (plan_of t)
unfolding plan_of
opened_other (D.Form' o n args m body) form = absurd (a_form_is o n args m body form)
opened_other _ form = refl

pub ruleset opened_rules = (opened_true, opened_false, opened_other)

pub closed_true : (o : Op) (args body more : Vec Node Global) → has_terms o ≡ true → plans_of more.items ≡ stripped (plans_of body.items) → plan_of (D.Form o args more) ≡ closed (plan_of (D.Form o args body))
closed_true o args body more h e =
    plan_form o args more ∙ ap (a_form o (plans_of args.items)) (e ∙ sym (ap (λ b. if b then stripped (plans_of body.items) else plans_of body.items) h)) ∙ sym (ap closed (plan_form o args body))

pub closed_false : (o : Op) (args body : Vec Node Global) → has_terms o ≡ false → plan_of (D.Form o args body) ≡ closed (plan_of (D.Form o args body))
closed_false o args body h =
    plan_form o args body ∙ ap (a_form o (plans_of args.items)) (sym (ap (λ b. if b then stripped (plans_of body.items) else plans_of body.items) h)) ∙ sym (ap closed (plan_form o args body))

pub closed_other : (t : Term) → NoForm t → plan_of t ≡ closed (plan_of t)
unfolding plan_of
closed_other (D.Form' o n args m body) form = absurd (a_form_is o n args m body form)
closed_other _ form = refl

pub ruleset closed_rules = (closed_true, closed_false, closed_other)

-- ---- the term that declares a descriptor

pub named_other : (t : Term) → NoFill t → named_of (plan_of t) ≡ []
unfolding plan_of
named_other (D.Fill bytes named) fill = absurd (fill bytes named refl)
named_other _ fill = refl

pub ruleset named_rules = (fill_term, named_other)

pub value_some : (nodes : List Node) (d : Node) → 1 < length nodes → d ≡ get_or nodes 1 d → named_of (plan_of d.term) ≡ named_of (plan_at (plans_of nodes) 1)
value_some nodes d lt e = ap (λ (n : Node). named_of (plan_of n.term)) e ∙ ap named_of (sym (at_some nodes 1 d lt))

pub value_none : (nodes : List Node) → length nodes ≤ 1 → named_of (plan_at (plans_of nodes) 1) ≡ []
value_none nodes le = ap named_of (at_none nodes 1 le)

pub declared_form : (o : Op) (args body : Vec Node Global) → declared_by (plan_of (D.Form o args body)) ≡ if is_naming o then named_of (plan_at (plans_of args.items) 1) else []
declared_form o args body = ap declared_by (plan_form o args body)

pub declared_other : (t : Term) → NoForm t → declared_by (plan_of t) ≡ []
unfolding plan_of
declared_other (D.Form' o n args m body) form = absurd (a_form_is o n args m body form)
declared_other _ form = refl

pub ruleset declared_rules = (declared_form, declared_other)

pub unless_none : (names : List NamedDescriptor) (term : Plans) → length names ≡ 0 → unless_declared names term ≡ term
unless_none [] term e = refl
unless_none (named ∷ names) term e = absurd (omega (arith, e))

pub unless_some : (names : List NamedDescriptor) (term : Plans) → (length names ≡ 0 → ⊥) → unless_declared names term ≡ no_plans
unless_some [] term e = absurd (e refl)
unless_some (named ∷ names) term e = refl
