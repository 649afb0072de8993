-- Terms one after another: what is noted of some first ones.
use Rattle.std.proofs.Common.{◌≡◌, ℕ, zero, suc, ◌+◌, ◌-◌, ◌^◌, ◌<◌, ◌≤◌, min, Bool, true, false, List, [], ◌∷◌, length, get_or, drop, refl, sym, ap, ◌∙◌, arith}
use Rattle.std.specs.Prelude.{◌||◌}
use Rattle.asl_tree.specs.declared.term.Op.{Op}
use Rattle.asl_tree.specs.declared.term.Node.{Node}
use Rattle.asl_tree.specs.declared.path.Path.{Path}
use Rattle.asl_tree.specs.declared.term.NamedDescriptor.{NamedDescriptor}
use Rattle.iasl_messages.specs.declared.place.Place.{Place}
use Rattle.term_plans.specs.Plans.{Plan, a_fill, a_call, a_form, Plans, no_plans, plan, plan_of, plans_of}
use Rattle.asl_numbers.specs.Numbers.{inside, nodes}
use Rattle.form_presence.specs.declared.present.Presence.{Presence}
use Rattle.form_presence.specs.Kinds.{FormKind, ASwitch, AField, AList, ForOrPrint, ADescriptor, is_of, is_in, are_in, is_seen}

-- how many nodes stand inside some terms
abbrev inside_all : Plans → ℕ
inside_all no_plans = 0
inside_all (plan place p ps) = inside p + inside_all ps

all_nodes : (ns : List Node) → nodes (plans_of ns) ≡ length ns + inside_all (plans_of ns)
unfolding plans_of
all_nodes [] = refl
all_nodes (n ∷ ns) = omega (arith, all_nodes ns)

plans_at : (ns : List Node) (i : ℕ) (node : Node) → i < length ns → node ≡ get_or ns i node → plans_of (drop i ns) ≡ plan node.place (plan_of node.term) (plans_of (drop (suc i) ns))
unfolding plans_of
plans_at [] i node lt e = absurd (omega (arith, lt))
plans_at (n ∷ ns) zero node lt e = ap (λ (m : Node). plan m.place (plan_of m.term) (plans_of ns)) (sym e)
plans_at (n ∷ ns) (suc i) node lt e = plans_at ns i node (omega (arith, lt)) e

no_more : (ns : List Node) (i : ℕ) → length ns ≤ i → plans_of (drop i ns) ≡ no_plans
unfolding plans_of
no_more [] zero le = refl
no_more [] (suc i) le = refl
no_more (n ∷ ns) zero le = absurd (omega (arith, le))
no_more (n ∷ ns) (suc i) le = no_more ns i (omega (arith, le))

all_left : (ns : List Node) → plans_of (drop 0 ns) ≡ plans_of ns
all_left [] = refl
all_left (n ∷ ns) = refl

-- ---- by their parts

none_there : (kind : FormKind) → are_in kind no_plans ≡ false
none_there ASwitch = refl
none_there AField = refl
none_there AList = refl
none_there ForOrPrint = refl
none_there ADescriptor = refl

first_or_rest : (kind : FormKind) (place : Place) (p : Plan) (ps : Plans) → are_in kind (plan place p ps) ≡ (is_in kind p || are_in kind ps)
first_or_rest ASwitch place p ps = refl
first_or_rest AField place p ps = refl
first_or_rest AList place p ps = refl
first_or_rest ForOrPrint place p ps = refl
first_or_rest ADescriptor place p ps = refl

pub in_call : (kind : FormKind) (name : Path) (args : Plans) → is_in kind (a_call name args) ≡ are_in kind args
in_call ASwitch name args = refl
in_call AField name args = refl
in_call AList name args = refl
in_call ForOrPrint name args = refl
in_call ADescriptor name args = refl

in_form : (kind : FormKind) (op : Op) (args body : Plans) → is_in kind (a_form op args body) ≡ (is_of kind op || (are_in kind args || are_in kind body))
in_form ASwitch op args body = refl
in_form AField op args body = refl
in_form AList op args body = refl
in_form ForOrPrint op args body = refl
in_form ADescriptor op args body = refl

-- ---- nodes one after another

-- what is noted of a part and then of another is noted of both
noted_both : (a b old : Bool) → (b || (a || old)) ≡ ((a || b) || old)
noted_both true true old = refl
noted_both true false old = refl
noted_both false b old = refl

-- the forms that stand in some first terms are noted, and all terms and the nodes inside the first are counted
pub record IsSeen (old : Presence) (ns : List Node) (at : ℕ) (now : Presence) : Type 0 where
  pub kinds : (kind : FormKind) → (are_in kind (plans_of (drop at ns)) || is_seen kind now) ≡ (are_in kind (plans_of ns) || is_seen kind old)
  pub nodes : min (now.nodes + inside_all (plans_of (drop at ns))) (2 ^ 64 - 1) ≡ min (old.nodes + nodes (plans_of ns)) (2 ^ 64 - 1)
  pub within : now.nodes ≤ 2 ^ 64 - 1

-- a count changes no kind
pub each_kind : (seen : Presence) (n : ℕ) (kind : FormKind) → is_seen kind (record seen { nodes = n }) ≡ is_seen kind seen
each_kind seen n ASwitch = refl
each_kind seen n AField = refl
each_kind seen n AList = refl
each_kind seen n ForOrPrint = refl
each_kind seen n ADescriptor = refl

-- no term is looked at yet
pub none_seen : (old now : Presence) (ns : List Node) → ((kind : FormKind) → is_seen kind now ≡ is_seen kind old) → now.nodes ≡ min (old.nodes + length ns) (2 ^ 64 - 1) → IsSeen old ns 0 now
none_seen old now ns same count =
    let left : inside_all (plans_of (drop 0 ns)) ≡ inside_all (plans_of ns) = ap inside_all (all_left ns) in
    let all = all_nodes ns in
    record {
      kinds = λ kind. ap (λ ps. are_in kind ps || is_seen kind now) (all_left ns) ∙ ap (λ b. are_in kind (plans_of ns) || b) (same kind);
      nodes = omega (arith, left, all, count);
      within = omega (arith, count);
    }

-- a term with this plan is looked at
pub next_seen : (old now next : Presence) (ns : List Node) (i : ℕ) (node : Node) (p : Plan) → i < length ns → node ≡ get_or ns i node → plan_of node.term ≡ p → IsSeen old ns i now
    → ((kind : FormKind) → is_seen kind next ≡ (is_in kind p || is_seen kind now)) → next.nodes ≡ min (now.nodes + inside p) (2 ^ 64 - 1) → IsSeen old ns (i + 1) next
next_seen old now next ns i node p lt e is before noted count =
    let more : i + 1 ≡ suc i = omega arith in
    let later : inside_all (plans_of (drop (i + 1) ns)) ≡ inside_all (plans_of (drop (suc i) ns)) = ap (λ k. inside_all (plans_of (drop k ns))) more in
    let rest = plans_of (drop (suc i) ns) in
    let left : plans_of (drop i ns) ≡ plan node.place p rest = plans_at ns i node lt e ∙ ap (λ q. plan node.place q rest) is in
    let here : inside_all (plans_of (drop i ns)) ≡ inside p + inside_all rest = ap inside_all left in
    let counted = before.nodes in
    record {
      kinds = λ kind.
          ap (λ k. are_in kind (plans_of (drop k ns)) || is_seen kind next) more
          ∙ ap (λ b. are_in kind rest || b) (noted kind)
          ∙ noted_both (is_in kind p) (are_in kind rest) (is_seen kind now)
          ∙ ap (λ b. b || is_seen kind now) (sym (first_or_rest kind node.place p rest))
          ∙ ap (λ ps. are_in kind ps || is_seen kind now) (sym left)
          ∙ before.kinds kind;
      nodes = omega (arith, later, here, counted, count);
      within = omega (arith, count);
    }

-- in a leaf nothing is noted
pub leaf_passed : (old now : Presence) (ns : List Node) (i : ℕ) (node : Node) → i < length ns → node ≡ get_or ns i node → ((kind : FormKind) → is_in kind (plan_of node.term) ≡ false) → inside (plan_of node.term) ≡ 0 → IsSeen old ns i now → IsSeen old ns (i + 1) now
leaf_passed old now ns i node lt e none empty before =
    let within = before.within in
    next_seen old now now ns i node (plan_of node.term) lt e refl before (λ kind. ap (λ b. b || is_seen kind now) (sym (none kind))) (omega (arith, empty, within))

-- a template is looked at
pub fill_passed : (old now next : Presence) (ns : List Node) (i : ℕ) (node : Node) (bytes : List ℕ) (named : List NamedDescriptor) → i < length ns → node ≡ get_or ns i node → plan_of node.term ≡ a_fill bytes named → IsSeen old ns i now
    → ((kind : FormKind) → is_seen kind next ≡ (is_in kind (a_fill bytes named) || is_seen kind now)) → next.nodes ≡ now.nodes → IsSeen old ns (i + 1) next
fill_passed old now next ns i node bytes named lt e is before noted same =
    let within = before.within in
    next_seen old now next ns i node (a_fill bytes named) lt e is before noted (omega (arith, same, within))

module _ (old now : Presence) (ns : List Node) (i : ℕ) (le : length ns ≤ i) (before : IsSeen old ns i now) where
  pub all_noted : (kind : FormKind) → is_seen kind now ≡ (are_in kind (plans_of ns) || is_seen kind old)
  all_noted kind = ap (λ b. b || is_seen kind now) (sym (none_there kind)) ∙ ap (λ ps. are_in kind ps || is_seen kind now) (sym (no_more ns i le)) ∙ before.kinds kind

  pub all_counted : now.nodes ≡ min (old.nodes + nodes (plans_of ns)) (2 ^ 64 - 1)
  all_counted =
      let past : inside_all (plans_of (drop i ns)) ≡ 0 = ap inside_all (no_more ns i le) in
      let counted = before.nodes in
      let within = before.within in
      omega (arith, past, counted, within)

-- ---- a term

module _ (old own args_seen next : Presence) (op : Op) (args body : Plans)
    (noted : (kind : FormKind) → is_seen kind own ≡ (is_of kind op || is_seen kind old))
    (arguments : (kind : FormKind) → is_seen kind args_seen ≡ (are_in kind args || is_seen kind own))
    (braces : (kind : FormKind) → is_seen kind next ≡ (are_in kind body || is_seen kind args_seen)) where
  pub form_noted : (kind : FormKind) → is_seen kind next ≡ (is_in kind (a_form op args body) || is_seen kind old)
  form_noted kind =
      let some = are_in kind args || are_in kind body in
      braces kind ∙ ap (λ b. are_in kind body || b) (arguments kind) ∙ noted_both (are_in kind args) (are_in kind body) (is_seen kind own)
      ∙ ap (λ b. some || b) (noted kind) ∙ noted_both (is_of kind op) some (is_seen kind old) ∙ ap (λ b. b || is_seen kind old) (sym (in_form kind op args body))

-- ---- what there is none of

pub no_terms : (kind : FormKind) (ns : List Node) (seen : Presence) → length ns ≡ 0 → is_seen kind seen ≡ (are_in kind (plans_of ns) || is_seen kind seen)
unfolding plans_of
no_terms kind [] seen e = ap (λ b. b || is_seen kind seen) (sym (none_there kind))
no_terms kind (n ∷ ns) seen e = absurd (omega (arith, e))

pub no_nodes : (ns : List Node) → length ns ≡ 0 → nodes (plans_of ns) ≡ 0
unfolding plans_of
no_nodes [] e = refl
no_nodes (n ∷ ns) e = absurd (omega (arith, e))

-- ---- a template

pub unnamed : (kind : FormKind) (bytes : List ℕ) (named : List NamedDescriptor) (seen : Presence) → length named ≡ 0 → is_seen kind seen ≡ (is_in kind (a_fill bytes named) || is_seen kind seen)
unnamed ASwitch bytes named seen e = refl
unnamed AField bytes named seen e = refl
unnamed AList bytes named seen e = refl
unnamed ForOrPrint bytes named seen e = refl
unnamed ADescriptor bytes [] seen e = refl
unnamed ADescriptor bytes (d ∷ ds) seen e = absurd (omega (arith, e))

pub some_named : (kind : FormKind) (bytes : List ℕ) (named : List NamedDescriptor) (seen : Presence) → (length named ≡ 0 → ⊥) → is_seen kind (record seen { descriptors = true }) ≡ (is_in kind (a_fill bytes named) || is_seen kind seen)
some_named ASwitch bytes named seen e = refl
some_named AField bytes named seen e = refl
some_named AList bytes named seen e = refl
some_named ForOrPrint bytes named seen e = refl
some_named ADescriptor bytes [] seen e = absurd (e refl)
some_named ADescriptor bytes (d ∷ ds) seen e = refl
